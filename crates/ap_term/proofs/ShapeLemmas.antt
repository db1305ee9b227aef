-- Shapes that `==` finds equal are one shape.
use Rattle.std.proofs.Common.{◌≡◌, ℕ, true, ◌&&◌, List, sym, ap, ap₂, ◌∙◌, nat_eq, not, ◌≢◌, true≢false}
use Rattle.std.specs.Bool.{Decides}
use Rattle.std.specs.Str.{bytes_eq}
use Rattle.std.specs.Ordering.{on}
use Rattle.std.specs.Cmp.{signed_Decides, first_so, second_so}
use Rattle.std.specs.Cmp.Lexicographic.{pointwise_decides}
use Rattle.std.proofs.lemmas.Bool.Decides.{Decides-eqb}
use lib.Pointwise.{pointwise}
use Rattle.ap_term.specs.declared.shape.TermId.{TermId}
use Rattle.ap_term.specs.declared.shape.Shape.{Shape}
use Rattle.ap_term.specs.declared.shape.Shape.TheVariants.{Int, Sym, Str, Fun}
use Rattle.ap_term.specs.contracts.shape.ShapePartialEq.TheImpl

equal_bytes : (s t : List ℕ) → Decides (bytes_eq s t) (s ≡ t)
equal_bytes = pointwise_decides Decides-eqb

equal_id : (a b : TermId) → Decides (on (λ id. id.0) nat_eq a b) (a ≡ b)
equal_id a b = (λ h i. record { 0 = (Decides-eqb a.0 b.0).0 h i }, λ e. (Decides-eqb a.0 b.0).1 (ap (λ id. id.0) e))

equal_ids : (xs ys : List TermId) → Decides (pointwise (on (λ id. id.0) nat_eq) xs ys) (xs ≡ ys)
equal_ids = pointwise_decides equal_id

pub equal_shapes : (s t : Shape) → Decides ((TheImpl.eq-value).it s t) (s ≡ t)
equal_shapes (Int m) (Int n) = (λ h. ap Int ((signed_Decides m n).0 h), λ e. (signed_Decides m n).1 cc)
equal_shapes (Sym a) (Sym b) = (λ h. ap Sym ((equal_bytes a b).0 h), λ e. (equal_bytes a b).1 cc)
equal_shapes (Str a) (Str b) = (λ h. ap Str ((equal_bytes a b).0 h), λ e. (equal_bytes a b).1 cc)
equal_shapes (Fun f xs) (Fun g ys) = (
  λ h. ap₂ Fun ((equal_bytes f g).0 (first_so (bytes_eq f g) (pointwise (on (λ id. id.0) nat_eq) xs ys) h)) ((equal_ids xs ys).0 (second_so (bytes_eq f g) (pointwise (on (λ id. id.0) nat_eq) xs ys) h)),
  λ e. ap₂ ◌&&◌ ((equal_bytes f g).1 cc) ((equal_ids xs ys).1 cc),
)
equal_shapes s t = (λ h. cc, λ e. cc)

-- what the tests `==` and `!=` of two ids say
pub same_id : (a b : TermId) → true ≡ nat_eq a.0 b.0 → a ≡ b
same_id a b h = (equal_id a b).0 (sym h)

pub ids_differ : (a b : TermId) → true ≡ not (nat_eq a.0 b.0) → a ≢ b
ids_differ a b h e = true≢false (h ∙ ap not ((equal_id a b).1 e))
