-- What stands for a term, by its form.
use Rattle.std.proofs.Common.{◌≡◌, ◌<◌, ◌+◌, ℕ, ℤ, List, [], ◌∷◌, ◌++◌, All, refl, sym, subst, ap, ◌∙◌, arith}
use Rattle.std.specs.Prelude.{◌≤ℤ◌, Some}
use Rattle.std.specs.List.{AllZip, flat_map}
use Rattle.std.proofs.lemmas.List.{append-nil, map-append, flat_map_more}
use Rattle.std.proofs.lemmas.List.Elements.{All-cons, All-nil, All-push, All-weaker}
use Rattle.ap_term.proofs.CallerLemmas.{KeepsIds-itself}
use Rattle.ap_term.specs.Arithmetic.{compute}
use Rattle.ap_term.specs.declared.arithmetic.ArithOp.{ArithOp}
use Rattle.ap_term.specs.declared.shape.TermId.{TermId}
use Rattle.ap_term.specs.Table.{IsIdOf, KeepsIds, value_at}
use Rattle.ap_term.specs.Value.{Value, integer, compound, Values, none, also, arguments_from, list_from}
use Rattle.join_form.proofs.PatternLemmas.{value_place, value_known, value_compound, places_place, places_known, places_compound, ids_place, ids_known, ids_compound, all_inside}
use Rattle.join_form.specs.declared.pattern.Pattern.{Pattern}
use Rattle.join_form.specs.declared.pattern.Pattern.TheVariants.{Place, Known, Compound}
use Rattle.join_form.specs.declared.step.Step.{Step}
use Rattle.join_form.specs.declared.step.Step.TheVariants.{Compute, Between}
use Rattle.join_form.specs.Patterns.{Assignment, pattern_value, pattern_values, places_of, ids_of, IsPatternOf}
use Rattle.rule_form.specs.Globals.{variables, variables_of}
use Rattle.rule_form.specs.Readings.{terms_from}
use Rattle.rule_form.specs.Trees.{Term, Variable, Anything, Fixed, Operation, Interval, Terms}
use Rattle.rule_form.specs.Trees as trees
use Rattle.rule_form.specs.Values.{Substitution, IsValue, AreValues}
use Rattle.rule_joins.specs.Drafts.{Drafted, IsDraft, IsPlacedIn}
use Rattle.rule_joins.specs.Stands.{StandsFor}
use Rattle.rule_joins.specs.Terms.{IsTermPlan, AreTermPlans}
use Rattle.rule_joins.proofs.DraftLemmas.{pattern_more, patterns_more}
use Rattle.rule_joins.proofs.StandLemmas.{seen, both, empty}
use Rattle.rule_joins.proofs.PlaceLemmas.{with_place, with_step, free_place, placed_variable, known_value, Stepped, stepped}

-- ---- patterns

pub place_over : (table : List Value) (n place : ℕ) → place < n → IsPatternOf table n (Place place)
place_over table n place l = (
  subst (All (λ q. q < n)) (sym (places_place place)) (All-cons (λ q. q < n) place [] l (All-nil (λ q. q < n))),
  subst (All (IsIdOf table)) (sym (ids_place place)) (All-nil (IsIdOf table)),
)

pub known_over : (table : List Value) (n : ℕ) (id : TermId) → IsIdOf table id → IsPatternOf table n (Known id)
known_over table n id l = (
  subst (All (λ q. q < n)) (sym (places_known id)) (All-nil (λ q. q < n)),
  subst (All (IsIdOf table)) (sym (ids_known id)) (All-cons (IsIdOf table) id [] l (All-nil (IsIdOf table))),
)

pub compound_over : (table : List Value) (n : ℕ) (name : List ℕ) (ps : List Pattern) → All (IsPatternOf table n) ps → IsPatternOf table n (Compound name ps)
compound_over table n name ps is = (
  subst (All (λ q. q < n)) (sym (places_compound name ps)) (all_inside (λ q. q < n) places_of ps (All-weaker (IsPatternOf table n) (λ p. All (λ q. q < n) (places_of p)) (λ p h. h.0) ps is)),
  subst (All (IsIdOf table)) (sym (ids_compound name ps)) (all_inside (IsIdOf table) ids_of ps (All-weaker (IsPatternOf table n) (λ p. All (IsIdOf table) (ids_of p)) (λ p h. h.1) ps is)),
)

-- the value at a place is that of its pattern
at_place : (names : List (List ℕ)) (M : Substitution → Value → Type 0) (place : ℕ) (t0 : List Value) (d0 : Drafted) (t1 : List Value) (d1 : Drafted)
    → StandsFor names M (λ t a. a place) t0 d0 t1 d1 → StandsFor names M (λ t a. pattern_value t a (Place place)) t0 d0 t1 d1
at_place names M place t0 d0 t1 d1 p = seen names M (λ t a. a place) M (λ t a. pattern_value t a (Place place)) (λ v. v) t0 d0 t1 d1
    (λ t a. value_place t a place) (λ s x m. m) (λ s y m. (y, m, refl)) p

-- ---- terms without parts

pub variable_plan : (table : List Value) (draft : Drafted) → IsDraft table draft → (name : List ℕ) (place : ℕ) (new : Drafted) → IsPlacedIn draft name place new → place < new.places → IsTermPlan (Variable name) (Place place) table draft table new
variable_plan table draft is name place new p l = record {
  over = place_over table new.places place l;
  stands = at_place (name ∷ []) (λ s v. v ≡ s name) place table draft table new (placed_variable table draft is name place new p);
}

pub anything_plan : (table : List Value) (draft : Drafted) → IsDraft table draft → IsTermPlan Anything (Place draft.places) table draft table (with_place draft)
anything_plan table draft is = record {
  over = place_over table (draft.places + 1) draft.places (omega arith);
  stands = at_place [] (λ s v. Unit {0}) draft.places table draft table (with_place draft) (free_place table draft is);
}

pub known_plan : (old new : List Value) → KeepsIds old new → (draft : Drafted) → IsDraft old draft → (id : TermId) → IsIdOf new id → (v : Value) → value_at new id ≡ v → IsTermPlan (Fixed v) (Known id) old draft new draft
known_plan old new keeps draft is id within v e = record {
  over = known_over new draft.places id within;
  stands = seen [] (λ s w. w ≡ v) (λ t a. value_at t id) (λ s w. w ≡ v) (λ t a. pattern_value t a (Known id)) (λ w. w) old draft new draft
      (λ t a. value_known t a id) (λ s x m. m) (λ s y m. (y, m, refl)) (known_value old new keeps draft is id within v e);
}

-- ---- operations and intervals

-- a place with a step, seen as a pattern
module _ {X : Type 0} (names : List (List ℕ)) (M : Substitution → X → Type 0) (f : List Value → Assignment → X) (R : X → Value → Type 0) (step : Step)
    (t0 : List Value) (d0 : Drafted) (t1 : List Value) (d1 : Drafted) (N : Substitution → Value → Type 0) where
  result_at : ((s : Substitution) (v : Value) → Stepped M R s v → N s v) → ((s : Substitution) (v : Value) → N s v → Stepped M R s v)
      → StandsFor names (Stepped M R) (λ t a. a d1.places) t0 d0 t1 (with_step (with_place d1) step)
      → StandsFor names N (λ t a. pattern_value t a (Place d1.places)) t0 d0 t1 (with_step (with_place d1) step)
  result_at to from p = seen names (Stepped M R) (λ t a. a d1.places) N (λ t a. pattern_value t a (Place d1.places)) (λ v. v) t0 d0 t1 (with_step (with_place d1) step)
      (λ t a. value_place t a d1.places) to (λ s v n. (v, from s v n, refl)) p

-- what the steps say of two values and a third one
abbrev Computed : ArithOp → Value → Value → Value → Type 0
Computed op x y v = (i j k : ℤ) × (x ≡ integer i) × (y ≡ integer j) × (compute op i j ≡ Some k) × (v ≡ integer k)

abbrev Lies : Value → Value → Value → Type 0
Lies x y v = (i j k : ℤ) × (x ≡ integer i) × (y ≡ integer j) × (i ≤ℤ k) × (k ≤ℤ j) × (v ≡ integer k)

module _ (left right : Term) (p q : Pattern) (t0 : List Value) (d0 : Drafted) (t1 : List Value) (d1 : Drafted) (t2 : List Value) (d2 : Drafted) (l : IsTermPlan left p t0 d0 t1 d1) (r : IsTermPlan right q t1 d1 t2 d2) where
  abbrev names : List (List ℕ)
  names = variables left ++ variables right

  abbrev Pair : Substitution → Value × Value → Type 0
  Pair s z = IsValue s left z.0 × IsValue s right z.1

  abbrev values_at : List Value → Assignment → Value × Value
  values_at t a = (pattern_value t a p, pattern_value t a q)

  pair : StandsFor names Pair values_at t0 d0 t2 d2
  pair = both (variables left) (variables right) (λ s v. IsValue s left v) (λ s v. IsValue s right v) (λ t a. pattern_value t a p) (λ t a. pattern_value t a q) t0 d0 t1 d1 t2 d2 l.stands r.stands

  -- the two patterns, with one place more
  first_over : IsPatternOf t2 (d2.places + 1) p
  first_over = pattern_more t1 t2 r.stands.grows.table d1.places (d2.places + 1) (omega (arith, r.stands.grows.places)) p l.over

  second_over : IsPatternOf t2 (d2.places + 1) q
  second_over = pattern_more t2 t2 (KeepsIds-itself t2) d2.places (d2.places + 1) (omega arith) q r.over

  pub operation_plan : (op : ArithOp) → IsTermPlan (Operation op left right) (Place d2.places) t0 d0 t2 (with_step (with_place d2) (Compute op p q d2.places))
  operation_plan op = record {
    over = place_over t2 (d2.places + 1) d2.places (omega arith);
    stands = result_at names Pair values_at (λ z v. Computed op z.0 z.1 v) (Compute op p q d2.places) t0 d0 t2 d2 (λ s v. IsValue s (Operation op left right) v)
        (λ s v m. let (z, (vl, vr), (i, j, k, e, f, g, h)) = m in (i, j, k, subst (IsValue s left) e vl, subst (IsValue s right) f vr, g, h))
        (λ s v m. let (i, j, k, vl, vr, g, h) = m in ((integer i, integer j), (vl, vr), (i, j, k, refl, refl, g, h)))
        (stepped names Pair values_at (λ z v. Computed op z.0 z.1 v) (Compute op p q d2.places) t0 d0 t2 d2 pair (first_over, second_over, omega arith) (λ rows a. (λ h. h, λ h. h)));
  }

  pub interval_plan : IsTermPlan (Interval left right) (Place d2.places) t0 d0 t2 (with_step (with_place d2) (Between p q d2.places))
  interval_plan = record {
    over = place_over t2 (d2.places + 1) d2.places (omega arith);
    stands = result_at names Pair values_at (λ z v. Lies z.0 z.1 v) (Between p q d2.places) t0 d0 t2 d2 (λ s v. IsValue s (Interval left right) v)
        (λ s v m. let (z, (vl, vr), (i, j, k, e, f, g, h, o)) = m in (i, j, k, subst (IsValue s left) e vl, subst (IsValue s right) f vr, g, h, o))
        (λ s v m. let (i, j, k, vl, vr, g, h, o) = m in ((integer i, integer j), (vl, vr), (i, j, k, refl, refl, g, h, o)))
        (stepped names Pair values_at (λ z v. Lies z.0 z.1 v) (Between p q d2.places) t0 d0 t2 d2 pair (first_over, second_over, omega arith) (λ rows a. (λ h. h, λ h. h)));
  }

  -- `-t` is compiled with its operand first
  pub swapped_plan : (op : ArithOp) → variables right ≡ [] → IsTermPlan (Operation op right left) (Place d2.places) t0 d0 t2 (with_step (with_place d2) (Compute op q p d2.places))
  swapped_plan op plain = record {
    over = place_over t2 (d2.places + 1) d2.places (omega arith);
    stands = subst (λ ns. StandsFor ns (λ s v. IsValue s (Operation op right left) v) (λ t a. pattern_value t a (Place d2.places)) t0 d0 t2 (with_step (with_place d2) (Compute op q p d2.places)))
        (ap (λ ns. variables left ++ ns) plain ∙ (append-nil (variables left) ∙ sym (ap (λ ns. ns ++ variables left) plain)))
        (result_at names Pair values_at (λ z v. Computed op z.1 z.0 v) (Compute op q p d2.places) t0 d0 t2 d2 (λ s v. IsValue s (Operation op right left) v)
        (λ s v m. let (z, (vl, vr), (i, j, k, e, f, g, h)) = m in (i, j, k, subst (IsValue s right) e vr, subst (IsValue s left) f vl, g, h))
        (λ s v m. let (i, j, k, vr, vl, g, h) = m in ((integer j, integer i), (vl, vr), (i, j, k, refl, refl, g, h)))
        (stepped names Pair values_at (λ z v. Computed op z.1 z.0 v) (Compute op q p d2.places) t0 d0 t2 d2 pair (second_over, first_over, omega arith) (λ rows a. (λ h. h, λ h. h))));
  }

-- ---- lists of terms

pub zip_values : (s : Substitution) (ts : List Term) (vs : List Value) → AllZip (IsValue s) ts vs → AreValues s (terms_from ts) (arguments_from vs)
zip_values s [] [] z = refl
zip_values s [] (v ∷ vs) z = absurd z
zip_values s (t ∷ ts) [] z = absurd z
zip_values s (t ∷ ts) (v ∷ vs) z = (v, arguments_from vs, z.0, zip_values s ts vs z.1, refl)

pub values_zip : (s : Substitution) (ts : List Term) (ws : Values) → AreValues s (terms_from ts) ws → AllZip (IsValue s) ts (list_from ws)
values_zip s [] ws e = subst (λ us. AllZip (IsValue s) [] (list_from us)) (sym e) tt
values_zip s (t ∷ ts) ws m = let (v, vs, is, are, e) = m in subst (λ us. AllZip (IsValue s) (t ∷ ts) (list_from us)) (sym e) (is, values_zip s ts vs are)

pub arguments_back : (ws : Values) → arguments_from (list_from ws) ≡ ws
arguments_back none = refl
arguments_back (also v vs) = ap (also v) (arguments_back vs)

pub variables_from : (ts : List Term) → variables_of (terms_from ts) ≡ flat_map variables ts
variables_from [] = refl
variables_from (t ∷ ts) = ap (λ ns. variables t ++ ns) (variables_from ts)

pub no_terms_plan : (table : List Value) (draft : Drafted) → IsDraft table draft → AreTermPlans [] [] table draft table draft
no_terms_plan table draft is = record {
  over = All-nil (IsPatternOf table draft.places);
  stands = seen [] (λ s vs. vs ≡ []) (λ t a. []) (λ s vs. AllZip (IsValue s) [] vs) (λ t a. []) (λ vs. vs) table draft table draft
      (λ t a. refl) (λ s vs e. subst (AllZip (IsValue s) []) (sym e) tt) (λ s vs z. (vs, none_zip s vs z, refl)) (empty [] table draft is);
}
  where
    none_zip : (s : Substitution) (vs : List Value) → AllZip (IsValue s) [] vs → vs ≡ []
    none_zip s [] z = refl
    none_zip s (v ∷ vs) z = absurd z

zip_push : (s : Substitution) (ts : List Term) (vs : List Value) (t : Term) (v : Value) → AllZip (IsValue s) ts vs → IsValue s t v → AllZip (IsValue s) (ts ++ t ∷ []) (vs ++ v ∷ [])
zip_push s [] [] t v z is = (is, tt)
zip_push s [] (w ∷ vs) t v z is = absurd z
zip_push s (u ∷ ts) [] t v z is = absurd z
zip_push s (u ∷ ts) (w ∷ vs) t v z is = (z.0, zip_push s ts vs t v z.1 is)

abbrev Split : Substitution → List Term → Term → List Value → Type 0
Split s ts t ws = (vs : List Value) × (v : Value) × AllZip (IsValue s) ts vs × IsValue s t v × (vs ++ v ∷ [] ≡ ws)

zip_split : (s : Substitution) (ts : List Term) (t : Term) (ws : List Value) → AllZip (IsValue s) (ts ++ t ∷ []) ws → Split s ts t ws
zip_split s [] t [] z = absurd z
zip_split s [] t (w ∷ []) z = ([], w, tt, z.0, refl)
zip_split s [] t (w ∷ v ∷ vs) z = absurd z.1
zip_split s (u ∷ ts) t [] z = absurd z
zip_split s (u ∷ ts) t (w ∷ ws) z = let (vs, v, are, is, e) = zip_split s ts t ws z.1 in (w ∷ vs, v, (z.0, are), is, ap (λ us. w ∷ us) e)

module _ (ts : List Term) (ps : List Pattern) (u : Term) (p : Pattern) (t0 : List Value) (d0 : Drafted) (t1 : List Value) (d1 : Drafted) (t2 : List Value) (d2 : Drafted) where
  pub one_more_plan : AreTermPlans ts ps t0 d0 t1 d1 → IsTermPlan u p t1 d1 t2 d2 → AreTermPlans (ts ++ u ∷ []) (ps ++ p ∷ []) t0 d0 t2 d2
  one_more_plan are is = record {
    over = All-push (IsPatternOf t2 d2.places) ps p (patterns_more t1 t2 is.stands.grows.table d1.places d2.places is.stands.grows.places ps are.over) is.over;
    stands = subst (λ ns. StandsFor ns (λ s vs. AllZip (IsValue s) (ts ++ u ∷ []) vs) (λ t a. pattern_values t a (ps ++ p ∷ [])) t0 d0 t2 d2) (flat_map_more variables [] ts u)
        (seen (flat_map variables ts ++ variables u) (λ s (z : List Value × Value). AllZip (IsValue s) ts z.0 × IsValue s u z.1) (λ t a. (pattern_values t a ps, pattern_value t a p))
        (λ s vs. AllZip (IsValue s) (ts ++ u ∷ []) vs) (λ t a. pattern_values t a (ps ++ p ∷ [])) (λ z. z.0 ++ z.1 ∷ []) t0 d0 t2 d2
        (λ t a. map-append (pattern_value t a) ps (p ∷ []))
        (λ s z m. zip_push s ts z.0 u z.1 m.0 m.1)
        (λ s ws m. let (vs, v, before, last, e) = zip_split s ts u ws m in ((vs, v), (before, last), e))
        (both (flat_map variables ts) (variables u) (λ s vs. AllZip (IsValue s) ts vs) (λ s v. IsValue s u v) (λ t a. pattern_values t a ps) (λ t a. pattern_value t a p) t0 d0 t1 d1 t2 d2 are.stands is.stands));
  }

pub compound_plan : (name : List ℕ) (ts : List Term) (ps : List Pattern) (t0 : List Value) (d0 : Drafted) (t1 : List Value) (d1 : Drafted) → AreTermPlans ts ps t0 d0 t1 d1 → IsTermPlan (trees.Compound name (terms_from ts)) (Compound name ps) t0 d0 t1 d1
compound_plan name ts ps t0 d0 t1 d1 are = record {
  over = compound_over t1 d1.places name ps are.over;
  stands = subst (λ ns. StandsFor ns (λ s v. IsValue s (trees.Compound name (terms_from ts)) v) (λ t a. pattern_value t a (Compound name ps)) t0 d0 t1 d1) (sym (variables_from ts))
      (seen (flat_map variables ts) (λ s vs. AllZip (IsValue s) ts vs) (λ t a. pattern_values t a ps)
      (λ s v. IsValue s (trees.Compound name (terms_from ts)) v) (λ t a. pattern_value t a (Compound name ps)) (λ vs. compound name (arguments_from vs)) t0 d0 t1 d1
      (λ t a. value_compound t a name ps)
      (λ s vs z. (arguments_from vs, zip_values s ts vs z, refl))
      (λ s v m. let (ws, are_values, e) = m in (list_from ws, values_zip s ts ws are_values, ap (compound name) (arguments_back ws) ∙ sym e))
      are.stands);
}
