-- Statements of the shapes of their types are as the programs take them.
use Rattle.std.proofs.Common.{◌≡◌, ℕ, zero, suc, ◌+◌, ◌<◌, true, List, [], ◌∷◌, map, length, Contains, IsTrue, refl, sym, subst, ap, ◌∙◌, ⊎_elim, None, arith}
use Rattle.std.specs.Prelude.{◌⊎◌, IfSome, slice_index_or}
use Rattle.std.specs.Str.{bytes_eq}
use Rattle.ap_syntax.specs.declared.preferences.Element.{Element as WrittenElement}
use Rattle.ap_syntax.specs.declared.preferences.Preference.{Preference as WrittenPreference}
use Rattle.ap_term.specs.Value.{Value}
use Rattle.element_form.specs.Elements.{IsAtPlace, IsGroundOf, IsGrounded, is_weighed}
use Rattle.element_form.specs.Ground.{For, Ranked, Ground, Statement, IsGiven, is_of}
use Rattle.element_form.specs.Preferences.{Element}
use Rattle.element_form.specs.Readings.{read_element, read_preference}
use Rattle.element_form.specs.Safety.{IsNamed}
use Rattle.element_form.specs.Shapes.{HaveNoInterval, OfElement, HasShape, AreWellShaped}
use Rattle.element_form.proofs.Keys.{keyed}
use Rattle.element_form.proofs.ShapeLaw.{formula_ranks, some_ranks, formula_given, no_given, weighed}
use Rattle.pref_kinds.specs.declared.built_in.BuiltIn.{BuiltIn}
use Rattle.pref_kinds.specs.declared.built_in.BuiltIn.TheVariants.{Subset, Superset, LessCardinality, MoreCardinality, LessWeight, MoreWeight, Aso, Poset, Cp, Pareto, Lexico, And, Neg}
use Rattle.pref_kinds.specs.Kinds.{text_of, kind_of}
use Rattle.pref_kinds.proofs.Names.{kind_of_text}
use Rattle.rule_form.proofs.Unfolds.{bytes_same}
use Rattle.type_law.specs.Takes.{HasNoConditions, HasIntegerWeights, HasGrades, Takes}

-- an element at a place stands as it is written at this place
pub written_at : (es : List WrittenElement) (k : ℕ) (e : Element) → IsAtPlace (map read_element es) k e → (w : WrittenElement) × IsAtPlace es k w × (read_element w ≡ e)
written_at es k e (i, is, lt, at) = let (w, low, here_is, same) = by es i lt at in (w, (i, is, low, here_is), same)
  where
    by : (es : List WrittenElement) (i : ℕ) → i < length (map read_element es) → slice_index_or (map read_element es) i e ≡ e
        → (w : WrittenElement) × (i < length es) × (slice_index_or es i w ≡ w) × (read_element w ≡ e)
    by [] i lt at = absurd (omega (arith, lt))
    by (w ∷ ws) zero lt at = (w, omega arith, refl, at)
    by (w ∷ ws) (suc i) lt at = let (v, low, here_is, same) = by ws i (omega (arith, lt)) at in (v, omega (arith, low), here_is, same)

module _ (certain : Value → Type 0) (p : WrittenPreference) (st : Statement) (well : AreWellShaped p) (grounded : IsGrounded certain (read_preference p) st) where
  -- the shape of the element of a ground element
  pub shape_of : (kind : BuiltIn) → p.kind ≡ text_of kind → (k : ℕ) (e : Element) → IsAtPlace (read_preference p).elements k e → (w : WrittenElement) × HasShape kind w e
  shape_of kind is k e at =
      let (w, here_is, same) = written_at p.elements k e at in
      let h : HasShape kind w (read_element w) = subst (λ o. IfSome o (λ c. HasShape c w (read_element w))) (ap kind_of is ∙ kind_of_text kind) (well.elements k w here_is).shape in
      (w, subst (HasShape kind w) same h)

  -- and no interval stands outside its `:` part
  plain_of : (e : Element) → Contains (read_preference p).elements e → OfElement HaveNoInterval e
  plain_of e (i, lt, at) =
      let (w, here_is, same) = written_at p.elements (i + 1) e (i, refl, lt, at) in
      subst (OfElement HaveNoInterval) same (well.elements (i + 1) w here_is).general.intervals

  module _ (kind : BuiltIn) (is : p.kind ≡ text_of kind) where
    -- what follows for ground elements from the shape
    from_shape : (P : Ground → Type 0) → ((w : WrittenElement) (k : ℕ) (e : Element) (g : Ground) → HasShape kind w e → IsGroundOf certain (λ a. certain a → ⊥) p.kind k e g → P g) → (g : Ground) → Contains st.elements g → P g
    from_shape P f g among = let (k, e, at, a) = (grounded.elements g).0 among in let (w, h) = shape_of kind is k e at in f w k e g h a

    no_conditions : ((w : WrittenElement) (e : Element) → HasShape kind w e → e.given ≡ None) → HasNoConditions st
    no_conditions without = from_shape (λ g. g.given ≡ None) (λ w k e g h a. no_given a.values e.given g.given (without w e h) a.given)

    integer_weights : is_weighed (text_of kind) ≡ true → HasIntegerWeights st
    integer_weights heavy g r among c = let (k, e, at, a) = (grounded.elements g).0 among in
        weighed certain (λ v. certain v → ⊥) p.kind k e g (ap is_weighed is ∙ heavy) a r c

    of_kind : IsTrue (is_of kind st)
    of_kind = subst (λ t. IsTrue (bytes_eq t (text_of kind))) (sym (grounded.kind ∙ is)) (bytes_same (text_of kind))

  grades : p.kind ≡ text_of Aso → ((e : Element) → Contains (read_preference p).elements e → IsNamed e) → HasGrades st
  grades is named = record {
    keyed = keyed certain (read_preference p) st grounded (λ e c. (plain_of e c, named e c));
    ranked = from_shape Aso is (λ g. 0 < length g.ranks) (λ w k e g h a. some_ranks a.values e.ranks g.ranks h.0 a.ranks);
    formulas = λ g r among c. from_shape Aso is (λ g. (r : Ranked) → Contains g.ranks r ⊎ IsGiven g.given r → (f : Value) × (r.target ≡ For f))
        (λ w k e g h a r. ⊎_elim (formula_ranks a.values e.ranks g.ranks h.0.1 a.ranks r) (formula_given a.values e.given g.given h.1 a.given r)) g among r c;
  }

  -- the statement is as the program of its type takes it
  pub takes : (kind : BuiltIn) → p.kind ≡ text_of kind → ((e : Element) → Contains (read_preference p).elements e → IsNamed e) → Takes kind st
  takes Subset is named = no_conditions Subset is (λ w e h. h.3)
  takes Superset is named = no_conditions Superset is (λ w e h. h.3)
  takes LessCardinality is named = no_conditions LessCardinality is (λ w e h. h.3)
  takes MoreCardinality is named = no_conditions MoreCardinality is (λ w e h. h.3)
  takes LessWeight is named = (no_conditions LessWeight is (λ w e h. h.0.3), integer_weights LessWeight is refl)
  takes MoreWeight is named = (no_conditions MoreWeight is (λ w e h. h.0.3), integer_weights MoreWeight is refl)
  takes Aso is named = grades is named
  takes Poset is named = (of_kind Poset is, no_conditions Poset is (λ w e h. h.1))
  takes Cp is named = of_kind Cp is
  takes Pareto is named = no_conditions Pareto is (λ w e h. h.3)
  takes Lexico is named = no_conditions Lexico is (λ w e h. h.0.3)
  takes And is named = no_conditions And is (λ w e h. h.0.3)
  takes Neg is named = no_conditions Neg is (λ w e h. h.0.3)
