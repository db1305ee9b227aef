-- Sets of names in the order of their bytes.
use Rattle.std.proofs.Common.{◌≡◌, ℕ, Bool, true, false, cond, ◌||◌, List, [], ◌∷◌, refl, sym, ap, ◌∙◌}
use Rattle.std.specs.Cmp.Lexicographic.{nat_list_eq_equiv, slice_cmp}
use Rattle.std.specs.List.{list_any}
use Rattle.std.specs.Ordering.{is_eq, nat_cmp}
use Rattle.std.specs.Str.{bytes_eq}
use Rattle.std.proofs.lemmas.Map.Text.{is_eq-slice_cmp}
use Rattle.pref_bind.specs.Named.{is_named}

pub is_named-by_cmp : (xs : List (List ℕ)) (q : List ℕ) → list_any (λ x. is_eq (slice_cmp nat_cmp q x)) xs ≡ is_named xs q
is_named-by_cmp [] q = refl
is_named-by_cmp (x ∷ xs) q =
    ap (λ b. b || list_any (λ y. is_eq (slice_cmp nat_cmp q y)) xs) (is_eq-slice_cmp q x ∙ nat_list_eq_equiv.symm q x)
    ∙ ap (λ b. bytes_eq x q || b) (is_named-by_cmp xs q)

chosen : (a b : Bool) → cond a true b ≡ (a || b)
chosen true b = refl
chosen false b = refl

-- new has what old has, and this name
pub is_named-insert : (old new : List (List ℕ)) (name : List ℕ) → ((q : List ℕ) → list_any (λ x. is_eq (slice_cmp nat_cmp q x)) new ≡ cond (is_eq (slice_cmp nat_cmp name q)) true (list_any (λ x. is_eq (slice_cmp nat_cmp q x)) old)) → (q : List ℕ) → is_named new q ≡ (bytes_eq name q || is_named old q)
is_named-insert old new name h q =
    sym (is_named-by_cmp new q) ∙ (h q ∙ (ap (λ b. cond b true (list_any (λ x. is_eq (slice_cmp nat_cmp q x)) old)) (is_eq-slice_cmp name q)
    ∙ (ap (λ b. cond (bytes_eq name q) true b) (is_named-by_cmp old q) ∙ chosen (bytes_eq name q) (is_named old q))))
