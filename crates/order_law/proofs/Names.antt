-- What statements of the shapes of `and` and `neg` name.
use Rattle.std.proofs.Common.{◌≡◌, ℕ, ◌≤◌, List, [], ◌∷◌, map, Contains, refl, sym, subst, ap, ◌∙◌, arith}
use Rattle.std.specs.Prelude.{IfSome}
use Rattle.ap_syntax.specs.declared.preferences.Element.{Element as WrittenElement}
use Rattle.ap_syntax.specs.declared.preferences.Preference.{Preference as WrittenPreference}
use Rattle.ap_term.specs.Value.{Value, constant}
use Rattle.element_form.specs.Elements.{AreRanked, IsAtPlace, IsGrounded, is_weighed}
use Rattle.element_form.specs.Ground.{Target, For, Name, Ranked, Ground, Statement}
use Rattle.element_form.specs.Preferences.{Element}
use Rattle.element_form.specs.Readings.{read_element, read_preference}
use Rattle.element_form.specs.Shapes.{AreWellShaped, IsOneName, MayBeEmpty, MayStandAt}
use Rattle.element_form.proofs.Keys.{same_place}
use Rattle.element_form.proofs.ShapeLaw.{name_there, name_only}
use Rattle.order_law.specs.Systems.{HasOrder}
use Rattle.pref_kinds.specs.declared.built_in.BuiltIn.{BuiltIn}
use Rattle.pref_kinds.specs.declared.built_in.BuiltIn.TheVariants.{And, Neg}
use Rattle.pref_kinds.specs.Kinds.{text_of, kind_of}
use Rattle.pref_kinds.proofs.Names.{kind_of_text}
use Rattle.type_law.proofs.Fits.{shape_of, written_at}

abbrev name_in : Target → Value
name_in (Name q) = q
name_in (For f) = f

first_place : {X : Type 0} (xs : List X) (k : ℕ) (x : X) → IsAtPlace xs k x → k ≤ 1 → 1 ≡ k
first_place xs k x (i, is, lt, at) low = omega (arith, is, low)

-- the statement names what its first element names
module _ (certain : Value → Type 0) (p : WrittenPreference) (st : Statement) (well : AreWellShaped p) (grounded : IsGrounded certain (read_preference p) st) where
  first_there : (kind : BuiltIn) → p.kind ≡ text_of kind → (MayBeEmpty kind → ⊥) → (e : Element) × IsAtPlace (read_preference p).elements 1 e
  first_there kind is full = by p.elements refl
    where
      by : (es : List WrittenElement) → p.elements ≡ es → (e : Element) × IsAtPlace (map read_element es) 1 e
      by [] none_is = absurd (full (subst (λ o. IfSome o MayBeEmpty) (ap kind_of is ∙ kind_of_text kind) (well.number none_is)))
      by (w ∷ ws) is_more = (read_element w, (0, refl, omega arith, refl))

  pub named : p.kind ≡ text_of And → HasOrder And st
  named is =
      let (e, at) = first_there And is (λ h. h) in
      let (w, h) = shape_of certain p st well grounded And is 1 e at in
      let (g, r, of_p, c, t) = name_there certain (read_preference p) (ap is_weighed is) 1 e at h.0 h.1 in
      (constant h.0.1, (g, r, (grounded.elements g).1 of_p, c, t))

  -- and `neg` names nothing else
  pub named_only : p.kind ≡ text_of Neg → HasOrder Neg st
  named_only is =
      let (e, at) = first_there Neg is (λ h. h) in
      let (w, h) = shape_of certain p st well grounded Neg is 1 e at in
      let (g, r, of_p, c, t) = name_there certain (read_preference p) (ap is_weighed is) 1 e at h.0 h.1 in
      (constant h.0.1, (g, r, (grounded.elements g).1 of_p, c, t), λ q (f, s, among, d, u). ap name_in (sym u ∙ only e at h.0 f s among d))
    where
      only : (e : Element) → IsAtPlace (read_preference p).elements 1 e → (name : IsOneName e) → (f : Ground) (s : Ranked) → Contains st.elements f → Contains f.ranks s → s.target ≡ Name (constant name.1)
      only e at name f s among d =
          let (k, x, at2, a) = (grounded.elements f).0 among in
          let (w, here_is, same) = written_at p.elements k x at2 in
          let low : k ≤ 1 = subst (λ o. IfSome o (λ c. MayStandAt c k)) (ap kind_of is ∙ kind_of_text Neg) (well.elements k w here_is).place in
          let ex : e ≡ x = same_place (read_preference p).elements 1 k e x at at2 (first_place (read_preference p).elements k x at2 low) in
          name_only a.values e f.ranks name (subst (λ (y : Element). AreRanked a.values y.ranks f.ranks) (sym ex) a.ranks) s d
