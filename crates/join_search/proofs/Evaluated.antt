-- The value of a pattern, part by part.
use Rattle.std.proofs.Common.{◌≡◌, ℕ, ℤ, zero, suc, ◌<◌, ◌≤◌, ◌+◌, Bool, List, [], ◌∷◌, ◌++◌, Option, Some, None, IfSome, IsTrue, All, length, get_or, take, refl, sym, subst, ap, ap₂, ◌∙◌, arith}
use Rattle.std.specs.Option.{is_some}
use Rattle.std.proofs.lemmas.Bool.{false≢true}
use Rattle.std.proofs.lemmas.List.{map_push, map_more, take_all, get_or-map, length-map}
use Rattle.ap_term.specs.declared.shape.TermId.{TermId}
use Rattle.ap_term.specs.declared.shape.Shape.{Shape}
use Rattle.ap_term.specs.declared.shape.Shape.TheVariants as shapes
use Rattle.ap_term.specs.Table.{IsIdOf, KeepsIds, value_at, value_of}
use Rattle.ap_term.specs.Value.{Value, integer, compound, arguments_from, depth, deepest, IsInteger}
use Rattle.join_form.specs.declared.pattern.Pattern.{Pattern}
use Rattle.join_form.specs.declared.pattern.Pattern.TheVariants as patterns
use Rattle.join_form.specs.Bindings.{Fits, IsBindingOf}
use Rattle.join_form.specs.Patterns.{Assignment, pattern_value, pattern_values, places_of, IsPatternOf}
use Rattle.join_form.specs.Ready.{IsBound}
use Rattle.join_form.proofs.PatternLemmas.{value_compound, places_place, places_compound, value_kept, all_outside}
use Rattle.join_search.specs.Matches.{IsFound, IsNumberOf}
use Rattle.join_search.specs.Matches.{values_of}
use Rattle.join_search.proofs.Grown.{ids_kept, fits_kept}
use Rattle.join_search.proofs.PatternMatches.{parts_are}

-- ---- depth

-- an argument is no deeper than the deepest one
depth_at : (vs : List Value) (k : ℕ) (d : Value) → k < length vs → depth (get_or vs k d) ≤ deepest (arguments_from vs)
depth_at [] k d l = absurd (omega (arith, l))
depth_at (v ∷ vs) zero d l = omega arith
depth_at (v ∷ vs) (suc k) d l = let rest : depth (get_or vs k d) ≤ deepest (arguments_from vs) = depth_at vs k d (omega (arith, l)) in omega (arith, rest)

-- a compound term is deeper than its arguments
pub deeper_whole : (table : List Value) (a : Assignment) (name : List ℕ) (parts : List Pattern) (k : ℕ) (p : Pattern) → k < length parts → get_or parts k p ≡ p
    → 128 < depth (pattern_value table a p) → 128 < depth (pattern_value table a (patterns.Compound name parts))
deeper_whole table a name parts k p l is deep =
    let vs = pattern_values table a parts in
    let v = pattern_value table a p in
    let at : get_or vs k v ≡ v = get_or-map (pattern_value table a) parts k p v l ∙ ap (pattern_value table a) is in
    let below : depth (get_or vs k v) ≤ deepest (arguments_from vs) = depth_at vs k v (subst (λ n. k < n) (sym (length-map parts (pattern_value table a))) l) in
    let inside : depth v ≤ deepest (arguments_from vs) = subst (λ w. depth w ≤ deepest (arguments_from vs)) at below in
    subst (λ w. 128 < depth w) (sym (value_compound table a name parts)) (omega (arith, deep, inside))

-- ---- places and ids

-- a bound place has the value that the assignment gives it
pub found_place : (table : List Value) (v : Value) (o : Option TermId) → IsTrue (is_some o) → IfSome o (λ id. v ≡ value_at table id) → IsFound table v o
found_place table v None t e = absurd (false≢true t)
found_place table v (Some id) t e = sym e

pub place_bound : (bound : ℕ → Bool) (n : ℕ) → IsBound bound (patterns.Place n) → IsTrue (bound n)
place_bound bound n h = subst (All (λ m. IsTrue (bound m))) (places_place n) h 0 0 (omega arith)

pub parts_bound : (bound : ℕ → Bool) (name : List ℕ) (parts : List Pattern) → IsBound bound (patterns.Compound name parts) → All (IsBound bound) parts
parts_bound bound name parts h = all_outside (λ m. IsTrue (bound m)) places_of parts (subst (All (λ m. IsTrue (bound m))) (places_compound name parts) h)

-- ---- parts one after the other

-- the ids have the values of the first k patterns
abbrev pub HaveValues : List Value → List Value → List (Option TermId) → List Pattern → List TermId → ℕ → Type 0
HaveValues old now b parts ids k = (a : Assignment) → Fits old a b → values_of now ids ≡ pattern_values old a (take k parts)

module _ (old now new : List Value) (first : KeepsIds old now) (second : KeepsIds now new) (b : List (Option TermId)) (ids_are : IsBindingOf old b) (places : ℕ) where
  -- what an evaluation says of the table that it began with
  pub found_first : (p : Pattern) (o : Option TermId) → IsPatternOf old places p → ((a : Assignment) → Fits now a b → IsFound new (pattern_value now a p) o)
      → (a : Assignment) → Fits old a b → IsFound new (pattern_value old a p) o
  found_first p o is h a fits = subst (λ v. IsFound new v o) (value_kept old now first a places p is) (h a ((fits_kept old now first a b ids_are).1 fits))

  pub values_more : (parts : List Pattern) (ids : List TermId) (k : ℕ) (p : Pattern) (id : TermId) → k < length parts → get_or parts k p ≡ p
      → All (IsIdOf now) ids → IsPatternOf old places p → HaveValues old now b parts ids k
      → ((a : Assignment) → Fits now a b → IsFound new (pattern_value now a p) (Some id)) → HaveValues old new b parts (ids ++ id ∷ []) (k + 1)
  values_more parts ids k p id l is all p_is have found a fits =
      let before : values_of new ids ≡ pattern_values old a (take k parts) = ids_kept now new second ids all ∙ have a fits in
      let here : value_at new id ≡ pattern_value old a p = found_first p (Some id) p_is found a fits in
      map_push (value_at new) ids id ∙ (ap₂ (λ vs v. vs ++ v ∷ []) before (here ∙ ap (pattern_value old a) (sym is)) ∙ sym (map_more (pattern_value old a) parts k p l))

pub values_none : (table : List Value) (b : List (Option TermId)) (parts : List Pattern) → HaveValues table table b parts [] 0
values_none table b parts a fits = refl

pub values_whole : (old now : List Value) (b : List (Option TermId)) (parts : List Pattern) (ids : List TermId) (k : ℕ) → length parts ≤ k → HaveValues old now b parts ids k
    → (a : Assignment) → Fits old a b → values_of now ids ≡ pattern_values old a parts
values_whole old now b parts ids k l have a fits = have a fits ∙ ap (pattern_values old a) (take_all k parts l)

-- a compound term of these arguments
pub found_whole : (old now new : List Value) (b : List (Option TermId)) (name : List ℕ) (parts : List Pattern) (ids : List TermId) (k : ℕ) (o : Option TermId) → length parts ≤ k
    → HaveValues old now b parts ids k → IsFound new (value_of now (shapes.Fun name ids)) o → (a : Assignment) → Fits old a b → IsFound new (pattern_value old a (patterns.Compound name parts)) o
found_whole old now new b name parts ids k o l have found a fits =
    subst (λ v. IsFound new v o) (ap (λ vs. compound name (arguments_from vs)) (values_whole old now b parts ids k l have a fits) ∙ sym (value_compound old a name parts)) found

-- ---- integers

-- the integer that a shape is
pub number_of_shape : (table : List Value) (v : Value) (n : ℤ) → value_of table (shapes.Int n) ≡ v → IsInteger n → IsNumberOf v (Some n)
number_of_shape table v n e is = (sym e, is)

pub no_number : (table : List Value) (shape : Shape) (v : Value) → value_of table shape ≡ v → ((n : ℤ) → shape ≡ shapes.Int n → ⊥) → IsNumberOf v None
no_number table (shapes.Int m) v e ne n f = ne m refl
no_number table (shapes.Sym a) v e ne n f = cc
no_number table (shapes.Str a) v e ne n f = cc
no_number table (shapes.Fun g ids) v e ne n f = cc

pub compound_no_number : (table : List Value) (a : Assignment) (name : List ℕ) (parts : List Pattern) → IsNumberOf (pattern_value table a (patterns.Compound name parts)) None
compound_no_number table a name parts n e = let f : compound name (arguments_from (pattern_values table a parts)) ≡ integer n = sym (value_compound table a name parts) ∙ e in cc

-- ---- a part of a pattern that is a compound term

module _ (name : List ℕ) (parts slice : List Pattern) (pattern : Pattern) (pattern_is : pattern ≡ patterns.Compound name parts) (slice_is : slice ≡ parts) (k : ℕ) (p : Pattern) (within : k < length slice) (p_is : p ≡ get_or slice k p) where
  pub part_within : k < length parts
  part_within = subst (λ ps. k < length ps) slice_is within

  pub part_at : get_or parts k p ≡ p
  part_at = ap (λ ps. get_or ps k p) (sym slice_is) ∙ sym p_is

  pub part_of : (table : List Value) (places : ℕ) → IsPatternOf table places pattern → IsPatternOf table places p
  part_of table places is = subst (IsPatternOf table places) part_at (parts_are table places name parts (subst (IsPatternOf table places) pattern_is is) k p part_within)

  pub part_bound : (bound : ℕ → Bool) → IsBound bound pattern → IsBound bound p
  part_bound bound is = subst (IsBound bound) part_at (parts_bound bound name parts (subst (IsBound bound) pattern_is is) k p part_within)

  pub part_deep : (table : List Value) (a : Assignment) → 128 < depth (pattern_value table a p) → 128 < depth (pattern_value table a pattern)
  part_deep table a deep = subst (λ q. 128 < depth (pattern_value table a q)) (sym pattern_is) (deeper_whole table a name parts k p part_within part_at deep)
