-- What a pattern comes to by its form, and that it hangs on its places and ids alone.
use Rattle.std.proofs.Common.{◌≡◌, ℕ, List, [], ◌∷◌, ◌++◌, map, All, Contains, length, get_or, refl, sym, subst, ap, ap₂, ◌∙◌, arith, length-append}
use Rattle.std.specs.List.{flat_map}
use Rattle.std.proofs.lemmas.List.Folds.{flat_map-map}
use Rattle.std.proofs.lemmas.List.{get_or_append_left}
use Rattle.std.proofs.lemmas.List.Elements.{Contains-append_left, Contains-append_right, Contains-get_or, Contains-push, All-contains, All-append, All-cons, All-head, All-nil, All-tail}
use Rattle.ap_term.specs.declared.shape.TermId.{TermId}
use Rattle.ap_term.specs.Table.{IsIdOf, value_at, KeepsIds}
use Rattle.ap_term.specs.Value.{Value, compound, arguments_from}
use Rattle.join_form.specs.declared.pattern.Pattern.{Pattern, fold-roll-Pattern, ind-Pattern, roll-Pattern, map-Pattern}
use Rattle.join_form.specs.declared.pattern.Pattern.TheVariants as patterns
use Rattle.join_form.specs.declared.pattern.Pattern.TheOpen.{Pattern-F}
use Rattle.join_form.specs.Patterns.{Assignment, value_step, pattern_value, pattern_values, places_step, places_of, ids_step, ids_of, IsPatternOf}

-- ---- by the form of the pattern

pub value_place : (t : List Value) (a : Assignment) (n : ℕ) → pattern_value t a (patterns.Place n) ≡ a n
value_place t a n = ap (pattern_value t a) (sym (patterns.rolls-Place n)) ∙ fold-roll-Pattern Value (value_step t a) (Pattern-F.Place n)

pub value_known : (t : List Value) (a : Assignment) (id : TermId) → pattern_value t a (patterns.Known id) ≡ value_at t id
value_known t a id = ap (pattern_value t a) (sym (patterns.rolls-Known id)) ∙ fold-roll-Pattern Value (value_step t a) (Pattern-F.Known id)

pub value_compound : (t : List Value) (a : Assignment) (name : List ℕ) (ps : List Pattern) → pattern_value t a (patterns.Compound name ps) ≡ compound name (arguments_from (pattern_values t a ps))
value_compound t a name ps = ap (pattern_value t a) (sym (patterns.rolls-Compound name ps)) ∙ fold-roll-Pattern Value (value_step t a) (Pattern-F.Compound name ps)

pub places_place : (n : ℕ) → places_of (patterns.Place n) ≡ n ∷ []
places_place n = ap places_of (sym (patterns.rolls-Place n)) ∙ fold-roll-Pattern (List ℕ) places_step (Pattern-F.Place n)

pub places_known : (id : TermId) → places_of (patterns.Known id) ≡ []
places_known id = ap places_of (sym (patterns.rolls-Known id)) ∙ fold-roll-Pattern (List ℕ) places_step (Pattern-F.Known id)

pub places_compound : (name : List ℕ) (ps : List Pattern) → places_of (patterns.Compound name ps) ≡ flat_map places_of ps
places_compound name ps = ap places_of (sym (patterns.rolls-Compound name ps)) ∙ (fold-roll-Pattern (List ℕ) places_step (Pattern-F.Compound name ps) ∙ flat_map-map (λ part. part) places_of ps)

pub ids_place : (n : ℕ) → ids_of (patterns.Place n) ≡ []
ids_place n = ap ids_of (sym (patterns.rolls-Place n)) ∙ fold-roll-Pattern (List TermId) ids_step (Pattern-F.Place n)

pub ids_known : (id : TermId) → ids_of (patterns.Known id) ≡ id ∷ []
ids_known id = ap ids_of (sym (patterns.rolls-Known id)) ∙ fold-roll-Pattern (List TermId) ids_step (Pattern-F.Known id)

pub ids_compound : (name : List ℕ) (ps : List Pattern) → ids_of (patterns.Compound name ps) ≡ flat_map ids_of ps
ids_compound name ps = ap ids_of (sym (patterns.rolls-Compound name ps)) ∙ (fold-roll-Pattern (List TermId) ids_step (Pattern-F.Compound name ps) ∙ flat_map-map (λ part. part) ids_of ps)

-- ---- two tables and two assignments that agree on what stands in a pattern give it one value

module _ (t u : List Value) (a b : Assignment) where
  abbrev pub AgreeOn : List ℕ → List TermId → Type 0
  AgreeOn places ids = ((n : ℕ) → Contains places n → a n ≡ b n) × ((id : TermId) → Contains ids id → value_at t id ≡ value_at u id)

  abbrev IsSame : Pattern → Type 0
  IsSame p = AgreeOn (places_of p) (ids_of p) → pattern_value t a p ≡ pattern_value u b p

  abbrev Part : Type 0
  Part = (p : Pattern) × IsSame p

  abbrev parts_of : List Part → List Pattern
  parts_of ps = map (λ e. e.0) ps

  pub left_agree : (ps qs : List ℕ) (is js : List TermId) → AgreeOn (ps ++ qs) (is ++ js) → AgreeOn ps is
  left_agree ps qs is js h = (λ n c. h.0 n (Contains-append_left ps qs n c), λ id c. h.1 id (Contains-append_left is js id c))

  pub right_agree : (ps qs : List ℕ) (is js : List TermId) → AgreeOn (ps ++ qs) (is ++ js) → AgreeOn qs js
  right_agree ps qs is js h = (λ n c. h.0 n (Contains-append_right ps qs n c), λ id c. h.1 id (Contains-append_right is js id c))

  all_same : (ps : List Part) → AgreeOn (flat_map places_of (parts_of ps)) (flat_map ids_of (parts_of ps)) → pattern_values t a (parts_of ps) ≡ pattern_values u b (parts_of ps)
  all_same [] h = refl
  all_same (p ∷ ps) h =
      let before = left_agree (places_of p.0) (flat_map places_of (parts_of ps)) (ids_of p.0) (flat_map ids_of (parts_of ps)) h in
      let behind = right_agree (places_of p.0) (flat_map places_of (parts_of ps)) (ids_of p.0) (flat_map ids_of (parts_of ps)) h in
      ap₂ ◌∷◌ (p.1 before) (all_same ps behind)

  of_place : (n : ℕ) → IsSame (patterns.Place n)
  of_place n h = value_place t a n ∙ (h.0 n (subst (λ ns. Contains ns n) (sym (places_place n)) (Contains-push [] n)) ∙ sym (value_place u b n))

  of_known : (id : TermId) → IsSame (patterns.Known id)
  of_known id h = value_known t a id ∙ (h.1 id (subst (λ ids. Contains ids id) (sym (ids_known id)) (Contains-push [] id)) ∙ sym (value_known u b id))

  of_compound : (name : List ℕ) (ps : List Part) → IsSame (patterns.Compound name (parts_of ps))
  of_compound name ps h =
      let inside : AgreeOn (flat_map places_of (parts_of ps)) (flat_map ids_of (parts_of ps)) =
      (λ n c. h.0 n (subst (λ ns. Contains ns n) (sym (places_compound name (parts_of ps))) c), λ id c. h.1 id (subst (λ ids. Contains ids id) (sym (ids_compound name (parts_of ps))) c)) in
      value_compound t a name (parts_of ps) ∙ (ap (λ vs. compound name (arguments_from vs)) (all_same ps inside) ∙ sym (value_compound u b name (parts_of ps)))

  by_form : (y : Pattern-F Part) → IsSame (roll-Pattern (map-Pattern Part Pattern (λ e. e.0) y))
  by_form (Pattern-F.Place n) = subst IsSame (sym (patterns.rolls-Place n)) (of_place n)
  by_form (Pattern-F.Known id) = subst IsSame (sym (patterns.rolls-Known id)) (of_known id)
  by_form (Pattern-F.Compound name ps) = subst IsSame (sym (patterns.rolls-Compound name (parts_of ps))) (of_compound name ps)

  pub same_value : (p : Pattern) → AgreeOn (places_of p) (ids_of p) → pattern_value t a p ≡ pattern_value u b p
  same_value = ind-Pattern IsSame (λ x y is. subst (λ z. IsSame (roll-Pattern z)) is (by_form y))

  pub same_values : (ps : List Pattern) → AgreeOn (flat_map places_of ps) (flat_map ids_of ps) → pattern_values t a ps ≡ pattern_values u b ps
  same_values [] h = refl
  same_values (p ∷ ps) h =
      let before = left_agree (places_of p) (flat_map places_of ps) (ids_of p) (flat_map ids_of ps) h in
      let behind = right_agree (places_of p) (flat_map places_of ps) (ids_of p) (flat_map ids_of ps) h in
      ap₂ ◌∷◌ (same_value p before) (same_values ps behind)

-- ---- conditions on what stands in a pattern, for a list of them

module _ {X : Type 0} (P : X → Type 0) (f : Pattern → List X) where
  pub all_inside : (ps : List Pattern) → All (λ p. All P (f p)) ps → All P (flat_map f ps)
  all_inside [] h = All-nil P
  all_inside (p ∷ ps) h = All-append P (f p) (flat_map f ps) (All-head (λ q. All P (f q)) p ps h) (all_inside ps (All-tail (λ q. All P (f q)) p ps h))

  pub all_outside : (ps : List Pattern) → All P (flat_map f ps) → All (λ p. All P (f p)) ps
  all_outside [] h = All-nil (λ p. All P (f p))
  all_outside (p ∷ ps) h = All-cons (λ q. All P (f q)) p ps
      (λ k d l. subst P (get_or_append_left (f p) (flat_map f ps) d k l) (h k d (omega (arith, length-append (f p) (flat_map f ps)))))
      (all_outside ps (λ k d l. All-contains P (f p ++ flat_map f ps) (get_or (flat_map f ps) k d) h (Contains-append_right (f p) (flat_map f ps) (get_or (flat_map f ps) k d) (Contains-get_or (flat_map f ps) k d l))))

-- the value stays as the table grows
pub value_kept : (old new : List Value) (keeps : KeepsIds old new) (a : Assignment) (places : ℕ) (p : Pattern) → IsPatternOf old places p → pattern_value new a p ≡ pattern_value old a p
value_kept old new keeps a places p is = same_value new old a a p (λ n c. refl, λ id c. keeps.same id (All-contains (IsIdOf old) (ids_of p) id is.1 c))
