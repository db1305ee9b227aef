-- A definite atom that is possible is certain.
use Rattle.std.proofs.Common.{ℕ, zero, suc, ◌<◌, Bool, true, false, List, get_or, IsTrue, ⊎_elim, inl, inr, arith}
use Rattle.std.proofs.lemmas.Bool.{false≢true}
use Rattle.ap_term.specs.Value.{Value}
use Rattle.rule_form.specs.Globals.{global_variables}
use Rattle.rule_form.specs.Possible.{If, Setting, level, Sure, Unsure, May, MayLack, MustLack, MayItem, MustItem, MayHead, MustHead, IsPossible, IsCertain}
use Rattle.rule_form.specs.Static.{IsAtomOf, IsHeadAtom, IsOne, IsDefiniteItem, AreStatic}
use Rattle.rule_form.specs.Trees.{Literal, Pos, Not, Compare, Item, Plain, Each, Agg, Head, One, Choice, Nothing}
use Rattle.rule_form.specs.Truth.{Holds, HoldsForAll, AggregateHolds, HasGuardValues}
use Rattle.rule_form.specs.Values.{Substitution}
use Rattle.rule_form.proofs.Levels.{possible_are, certain_are}

module _ (st : Setting) (definite : Value → Type 0) (a : Value) (below : (b : Value) → definite b → level st b < level st a → IsPossible st b → IsCertain st b) where
  abbrev P : Value → Type 0
  P = IsPossible st

  abbrev C : Value → Type 0
  C = IsCertain st

  abbrev Low : Substitution → Literal → Type 0
  Low u l = (b : Value) → IsAtomOf u l b → definite b × (level st b < level st a)

  literal_must : (u : Substitution) (l : Literal) → Low u l → Holds (May st P C a) (MayLack st P C a) u l → Holds (Sure st P C a) (MustLack st P C a) u l
  literal_must u (Pos atom) low (b, is, h) = let d = low b is in (b, is, (d.1, below b d.0 d.1 (h d.1)))
  literal_must u (Not atom) low (b, is, h) = let d = low b is in (b, is, (d.1, λ p. h d.1 (below b d.0 d.1 p)))
  literal_must u (Compare left rel right) low h = h

  for_all_must : (u : Substitution) (l : Literal) → Low u l → HoldsForAll (May st P C a) (MayLack st P C a) u l → HoldsForAll (Sure st P C a) (MustLack st P C a) u l
  for_all_must u (Pos atom) low h = λ b is. let d = low b is in (d.1, below b d.0 d.1 (h b is d.1))
  for_all_must u (Not atom) low h = λ b is. let d = low b is in (d.1, λ p. h b is d.1 (below b d.0 d.1 p))
  for_all_must u (Compare left rel right) low h = h

  judged_must : (t : Bool) (Q R : Type 0) → IsTrue t → If t Q R → If t Q ⊥
  judged_must true Q R e h = h
  judged_must false Q R e h = absurd (false≢true e)

  item_must : (globals : List (List ℕ)) (s : Substitution) (i : Item) → IsDefiniteItem st definite (level st a) i → MayItem st P C a globals s i → MustItem st P C a globals s i
  item_must globals s (Plain l) low h = literal_must s l (low s) h
  item_must globals s (Each l c) low h = λ u agrees sure. for_all_must u l (low u) (h u agrees sure)
  item_must globals s (Agg g) low h = judged_must (st.evaluated g) (AggregateHolds globals (Sure st P C a) (Unsure st P C a) s g) (HasGuardValues s g) low h

  head_must : (globals : List (List ℕ)) (s : Substitution) (h : Head) → IsOne h → MayHead st P C a globals s h → MustHead st P C a s h
  head_must globals s (One atom) d is = is
  head_must globals s (Choice left es right) d h = absurd d
  head_must globals s Nothing d h = absurd d

  head_atom : (globals : List (List ℕ)) (s : Substitution) (h : Head) → MayHead st P C a globals s h → IsHeadAtom h a
  head_atom globals s (One atom) is = (s, is)
  head_atom globals s (Choice left es right) (vl, vr, e, u, among, agrees, is, c) = (e, u, among, is)
  head_atom globals s Nothing h = h

module _ (st : Setting) (definite : Value → Type 0) (static : AreStatic st definite) where
  certain_below : (n : ℕ) (a : Value) → level st a < n → definite a → IsPossible st a → IsCertain st a
  certain_below zero a lt d p = let none : ⊥ = omega (arith, lt) in absurd none
  certain_below (suc n) a lt d p =
      let below : (b : Value) → definite b → level st b < level st a → IsPossible st b → IsCertain st b = λ b e low q. certain_below n b (omega (arith, low, lt)) e q in
      (certain_are st a).1 (⊎_elim (λ g. inl g) (⊎_elim (λ i. absurd (static.inputs a i d)) (λ (rule, among, (s, head, body)).
      let g = global_variables rule in
      let is = static.rules rule among in
      let at = head_atom st definite a below g s rule.head head in
      inr (rule, among, (s, head_must st definite a below g s rule.head (is.head a at d) head, λ k e low. item_must st definite a below g s (get_or rule.body k e) (is.body a at d k e low) (body k e low)))))
      ((possible_are st a).0 p))

  pub definite_certain : (a : Value) → definite a → IsPossible st a → IsCertain st a
  definite_certain a d p = certain_below (suc (level st a)) a (omega arith) d p
