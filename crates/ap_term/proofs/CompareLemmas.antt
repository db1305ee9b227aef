-- The order of two values by their shapes.
use Rattle.std.proofs.Common.{◌≡◌, ℕ, ◌+◌, ◌<◌, ◌≢◌, List, [], ◌∷◌, ◌++◌, length, get_or, take, drop, map, All, refl, sym, ap, ap₂, subst, ◌∙◌, arith, Ordering, Less, Equal, Greater, nat_cmp, int_cmp, add-one}
use Rattle.std.specs.Ordering.{ordering_then}
use Rattle.std.proofs.lemmas.List.{length-take, length-map, get_or_at, length-append, take-append-drop, drop_more}
use Rattle.ap_term.specs.declared.shape.TermId.{TermId}
use Rattle.ap_term.specs.declared.shape.Shape.{Shape}
use Rattle.ap_term.specs.declared.shape.Shape.TheVariants.{Int, Sym, Str, Fun}
use Rattle.ap_term.specs.Value.{Value, Values, arity, arguments_from}
use Rattle.ap_term.specs.Order.{bytes_cmp, value_cmp, values_cmp}
use Rattle.ap_term.specs.Outline.{arguments_of, outline_cmp}
use Rattle.ap_term.specs.Difference.{DifferFirstAt}
use Rattle.ap_term.specs.Table.{IsIdOf, IsShapeOver, value_at, value_of, HasDistinctValues}
use Rattle.ap_term.proofs.OrderLemmas.{value_same, value_itself, values_itself}

then_last : (o : Ordering) → o ≡ ordering_then o Equal
then_last Less = refl
then_last Equal = refl
then_last Greater = refl

then_assoc : (o p q : Ordering) → ordering_then o (ordering_then p q) ≡ ordering_then (ordering_then o p) q
then_assoc Less p q = refl
then_assoc Equal p q = refl
then_assoc Greater p q = refl

then_first : (o p : Ordering) → (o ≡ Equal → ⊥) → ordering_then o p ≡ o
then_first Less p h = refl
then_first Equal p h = absurd (h refl)
then_first Greater p h = refl

arity_of : (vs : List Value) → arity (arguments_from vs) ≡ length vs
arity_of [] = refl
arity_of (v ∷ vs) = ap (λ n. n + 1) (arity_of vs) ∙ add-one (length vs)

-- the values of some ids
abbrev pub arguments_at : List Value → List TermId → Values
arguments_at table ids = arguments_from (map (value_at table) ids)

pub arity_at : (table : List Value) (ids : List TermId) → arity (arguments_at table ids) ≡ length ids
arity_at table ids = arity_of (map (value_at table) ids) ∙ length-map ids (value_at table)

-- the outline decides first, and then the arguments
pub value_cmp-outline : (table : List Value) (s t : Shape) → value_cmp (value_of table s) (value_of table t) ≡ ordering_then (outline_cmp s t) (values_cmp (arguments_at table (arguments_of s)) (arguments_at table (arguments_of t)))
value_cmp-outline table (Int m) (Int n) = then_last (int_cmp m n)
value_cmp-outline table (Sym a) (Sym b) = then_last (bytes_cmp a b)
value_cmp-outline table (Str a) (Str b) = then_last (bytes_cmp a b)
value_cmp-outline table (Fun f xs) (Fun g ys) =
    ap₂ (λ m n. ordering_then (nat_cmp m n) (ordering_then (bytes_cmp f g) (values_cmp (arguments_at table xs) (arguments_at table ys)))) (arity_at table xs) (arity_at table ys)
    ∙ then_assoc (nat_cmp (length xs) (length ys)) (bytes_cmp f g) (values_cmp (arguments_at table xs) (arguments_at table ys))
value_cmp-outline table s t = refl

-- the arguments compare as the first that differ
module _ (table : List Value) (apart : HasDistinctValues table) where
  after_front : (front xs ys : List TermId) (x y : TermId) → IsIdOf table x → IsIdOf table y → x ≢ y
      → values_cmp (arguments_at table (front ++ x ∷ xs)) (arguments_at table (front ++ y ∷ ys)) ≡ value_cmp (value_at table x) (value_at table y)
  after_front [] xs ys x y p q differ =
      then_first (value_cmp (value_at table x) (value_at table y)) (values_cmp (arguments_at table xs) (arguments_at table ys)) (λ e. differ (apart x y p q (value_same (value_at table x) (value_at table y) e)))
  after_front (z ∷ front) xs ys x y p q differ =
      let rest = after_front front xs ys x y p q differ in
      ap (λ o. ordering_then o (values_cmp (arguments_at table (front ++ x ∷ xs)) (arguments_at table (front ++ y ∷ ys)))) (value_itself (value_at table z)) ∙ rest

  pub by_difference : (xs ys : List TermId) (x y : TermId) → DifferFirstAt xs ys x y → IsIdOf table x → IsIdOf table y
      → values_cmp (arguments_at table xs) (arguments_at table ys) ≡ value_cmp (value_at table x) (value_at table y)
  by_difference xs ys x y d p q =
      ap₂ (λ us vs. values_cmp (arguments_at table us) (arguments_at table vs)) d.xs_is d.ys_is ∙ after_front d.front d.xs_rest d.ys_rest x y p q d.differ

  -- equal ids, equal values
  pub equal_values : (a b : TermId) (o : Ordering) → IsIdOf table a → IsIdOf table b → o ≡ value_cmp (value_at table a) (value_at table b) → (o ≡ Equal → a ≡ b) × (a ≡ b → o ≡ Equal)
  equal_values a b o p q e =
      (λ h. apart a b p q (value_same (value_at table a) (value_at table b) (sym e ∙ h)), λ h. e ∙ ap (λ c. value_cmp (value_at table a) (value_at table c)) (sym h) ∙ value_itself (value_at table a))

-- an argument of a shape has a smaller number
arguments_before : (table : List Value) (k : ℕ) (s : Shape) → IsShapeOver (take k table) s → All (λ id. id.0 < k) (arguments_of s)
arguments_before table k (Int n) h = λ i d l. absurd (omega arith)
arguments_before table k (Sym a) h = λ i d l. absurd (omega arith)
arguments_before table k (Str a) h = λ i d l. absurd (omega arith)
arguments_before table k (Fun f ids) h = λ i d l. omega (arith, h i d l, length-take k table)

in_front : (P : TermId → Type 0) (front rest ids : List TermId) (x : TermId) → ids ≡ front ++ x ∷ rest → All P ids → P x
in_front P front rest ids x is h = subst P (get_or_at front x rest x (length front) refl) (subst (All P) is h (length front) x (omega (arith, length-append front (x ∷ rest))))

argument_before : (table : List Value) (k : ℕ) (s : Shape) (front rest : List TermId) (x : TermId) → IsShapeOver (take k table) s → arguments_of s ≡ front ++ x ∷ rest → x.0 < k
argument_before table k s front rest x h is = in_front (λ id. id.0 < k) front rest (arguments_of s) x is (arguments_before table k s h)

-- what a code's slices are, and so where the ids stand that differ first
pub record AreFirst (table : List Value) (a b : TermId) (s t : Shape) (x y : TermId) : Type 0 where
  pub differ : DifferFirstAt (arguments_of s) (arguments_of t) x y
  pub x_before : x.0 < a.0
  pub y_before : y.0 < b.0

pub are_first : (table : List Value) (a b : TermId) (s t : Shape) (x y : TermId) (us vs : List TermId) → IsShapeOver (take a.0 table) s → IsShapeOver (take b.0 table) t
    → us ≡ arguments_of s → vs ≡ arguments_of t → DifferFirstAt us vs x y → AreFirst table a b s t x y
are_first table a b s t x y us vs p q us_is vs_is d = record {
  differ = subst (λ zs. DifferFirstAt zs (arguments_of t) x y) us_is (subst (λ zs. DifferFirstAt us zs x y) vs_is d);
  x_before = argument_before table a.0 s d.front d.xs_rest x p (sym us_is ∙ d.xs_is);
  y_before = argument_before table b.0 t d.front d.ys_rest y q (sym vs_is ∙ d.ys_is);
}

-- two lists that agree up to a place and differ there
pub differ_at : (xs ys : List TermId) (n : ℕ) (x y : TermId) → take n xs ≡ take n ys → n < length xs → n < length ys → x ≡ get_or xs n x → y ≡ get_or ys n y → x ≢ y → DifferFirstAt xs ys x y
differ_at xs ys n x y same in_xs in_ys x_is y_is differ = record {
  front = take n xs;
  xs_rest = drop (n + 1) xs;
  ys_rest = drop (n + 1) ys;
  xs_is = at_place xs n x in_xs x_is;
  ys_is = at_place ys n y in_ys y_is ∙ ap (λ front. front ++ y ∷ drop (n + 1) ys) (sym same);
  differ = differ;
}
  where
    at_place : (zs : List TermId) (k : ℕ) (z : TermId) → k < length zs → z ≡ get_or zs k z → zs ≡ take k zs ++ z ∷ drop (k + 1) zs
    at_place zs k z l is = sym (take-append-drop k zs) ∙ ap (λ rest. take k zs ++ rest) (drop_more zs k z l ∙ ap (λ w. w ∷ drop (k + 1) zs) (sym is))

-- ---- two ids and their shapes
module _ (table : List Value) (a b : TermId) (s t : Shape) (s_is : value_of table s ≡ value_at table a) (t_is : value_of table t ≡ value_at table b) where
  whole : value_cmp (value_at table a) (value_at table b) ≡ ordering_then (outline_cmp s t) (values_cmp (arguments_at table (arguments_of s)) (arguments_at table (arguments_of t)))
  whole = ap₂ value_cmp (sym s_is) (sym t_is) ∙ value_cmp-outline table s t

  -- unequal outlines decide
  pub by_outline : (o : Ordering) → o ≡ outline_cmp s t → (o ≡ Equal → ⊥) → o ≡ value_cmp (value_at table a) (value_at table b)
  by_outline o is unequal =
      let args = values_cmp (arguments_at table (arguments_of s)) (arguments_at table (arguments_of t)) in
      sym (whole ∙ ap (λ c. ordering_then c args) (sym is) ∙ then_first o args unequal)

  -- equal outlines leave it to the arguments
  pub by_arguments : Equal ≡ outline_cmp s t → value_cmp (value_at table a) (value_at table b) ≡ values_cmp (arguments_at table (arguments_of s)) (arguments_at table (arguments_of t))
  by_arguments is = whole ∙ ap (λ c. ordering_then c (values_cmp (arguments_at table (arguments_of s)) (arguments_at table (arguments_of t)))) (sym is)

  -- which are the same, or compare as the first that differ
  pub by_same : Equal ≡ outline_cmp s t → arguments_of s ≡ arguments_of t → Equal ≡ value_cmp (value_at table a) (value_at table b)
  by_same is same = sym (by_arguments is ∙ ap (λ ids. values_cmp (arguments_at table (arguments_of s)) (arguments_at table ids)) (sym same) ∙ values_itself (arguments_at table (arguments_of s)))

  pub by_first : HasDistinctValues table → Equal ≡ outline_cmp s t → (x y : TermId) → DifferFirstAt (arguments_of s) (arguments_of t) x y → IsIdOf table x → IsIdOf table y
      → value_cmp (value_at table x) (value_at table y) ≡ value_cmp (value_at table a) (value_at table b)
  by_first apart is x y d p q = sym (by_arguments is ∙ by_difference table apart (arguments_of s) (arguments_of t) x y d p q)
