-- The program of `cp` means its order.
use Rattle.std.proofs.Common.{ℕ, List, Bool, IsTrue, IsFalse, refl, sym, subst, ◌∙◌, ⊎_elim, inl, inr}
use Rattle.std.specs.Prelude.{◌↔◌, ◌⊎◌, codes}
use Rattle.std.proofs.lemmas.Bool.{false≢true, false_from_ne_true}
use Rattle.ap_term.specs.Value.{Value, compound, none, also}
use Rattle.rule_form.specs.AnswerSets.{IsAnswerSet}
use Rattle.rule_form.specs.Truth.{AtomSet}
use Rattle.rule_form.specs.Unfolded.{bind}
use Rattle.rule_form.proofs.Decided.{settled_decided, decide_same, decide_either}
use Rattle.rule_form.proofs.Stable.{settled_true, same_bool}
use Rattle.rule_form.proofs.Unfolds.{when}
use Rattle.rule_form.proofs.Tells.{Tells, retell, exactly, is_false, from_false, by_rules}
use Rattle.type_law.specs.Takes.{Relates}
use Rattle.pref_library.specs.Cp.{cp_rules}
use Rattle.type_law.specs.Orders.{CpBetter, CpEq}
use Rattle.element_form.specs.Flips.{IsPath}
use Rattle.element_form.specs.States.{IsStateOf, is_net, is_state, has_bit, state_of}
use Rattle.element_form.proofs.Paths.{path_ends, path_decided}
use Rattle.element_form.proofs.StateLaw.{bit_is_net, state_there, state_one}
use Rattle.pref_kinds.specs.declared.built_in.BuiltIn.TheVariants.{Cp}
use Rattle.element_form.specs.Ground.{Statement, kind_term, is_of}
use Rattle.element_form.specs.Facts.{Asked, IsAskedFor, IsFact}
use Rattle.type_law.proofs.Given as given
use Rattle.type_law.proofs.Given.{IsFree}

free : IsFree cp_rules
free = record { preference = refl; weight = refl; holds = refl; holds' = refl; better_in = refl; bettereq_in = refl; eq_in = refl; worse_in = refl; worseeq_in = refl; greater = refl; net = refl; state = refl; bit = refl; path = refl }

-- the state does not fit the set at some net atom
abbrev IsOff : Statement → (Value → Bool) → Value → Type 0
IsOff st sat u = ((a : Value) × IsTrue (is_state st u) × IsTrue (is_net st a) × IsTrue (sat a) × IsFalse (has_bit st u a)) ⊎ ((a : Value) × IsTrue (is_state st u) × IsTrue (has_bit st u a) × IsFalse (sat a))

module _ (st : Statement) (sat : Value → Bool) where
  fits : {b : Bool} (u : Value) → Tells b (IsOff st sat u) → IsTrue (is_state st u) → IsFalse b → IsStateOf st sat u
  fits u t is e = (
    is,
    λ a net. same_bool (has_bit st u a) (sat a)
        (λ bit. settled_true (sat a) (λ d. from_false t e (inr (a, is, bit, false_from_ne_true (sat a) d))))
        (λ h. settled_true (has_bit st u a) (λ d. from_false t e (inl (a, is, net, h, false_from_ne_true (has_bit st u a) d)))),
  )

  fitting : {b : Bool} (u : Value) → Tells b (IsOff st sat u) → IsStateOf st sat u → IsFalse b
  fitting u t (is, same) = is_false t (⊎_elim
      (λ (a, state, net, h, bit). false≢true (sym bit ∙ (same a net ∙ h)))
      (λ (a, state, bit, n). false≢true (sym n ∙ (sym (same a (bit_is_net st u a bit)) ∙ bit))))

module _ (st : Statement) (of : IsTrue (is_of Cp st)) (asked : Asked) (z : AtomSet) (answer : IsAnswerSet cp_rules (IsFact st asked) z) where
  abbrev this : List ℕ → Value
  this name = compound name (also st.name none)

  abbrev off_ : List ℕ → Value → Value
  off_ name u = compound name (also u none)

  state_is : (u : Value) → Tells (z (compound (codes "state") (also u none))) (IsTrue (is_state st u))
  state_is = given.state_is cp_rules free st asked z answer of

  net_is : (a : Value) → Tells (z (compound (codes "net") (also a none))) (IsTrue (is_net st a))
  net_is = given.net_is cp_rules free st asked z answer of

  bit_is : (u a : Value) → Tells (z (compound (codes "bit") (also u (also a none)))) (IsTrue (is_state st u) × IsTrue (has_bit st u a))
  bit_is = given.bit_is cp_rules free st asked z answer of

  -- a program may ask for a net atom
  asks : (a : Value) → IsTrue (is_net st a) → IsAskedFor st a
  asks a n = inr (inr (when (is_of Cp st) (IsTrue (is_net st a)) of n))

  off_new : (u : Value) → Tells (z (off_ (codes "off") u)) (IsOff st asked.new u)
  off_new u = retell (by_rules cp_rules (IsFact st asked) z answer (off_ (codes "off") u) (λ f. f))
      (λ g deny. ⊎_elim
      (λ (s, (ue, end), (state, (net, (holds, (bit, end2))))). (state_is u).1 (rw ue state) (λ is. (net_is (s (codes "A"))).1 net (λ n. (given.new_is cp_rules free st asked z answer (s (codes "A"))).1 holds (λ h.
      deny (inl (s (codes "A"), is, n, h.1, false_from_ne_true _ (λ b. from_false (bit_is u (s (codes "A"))) (rw ue bit) (is, b))))))))
      (λ (s, (ue, end), (bit, (holds, end2))). (bit_is u (s (codes "A"))).1 (rw ue bit) (λ (is, b). deny (inr (
        s (codes "A"),
        is,
        b,
        false_from_ne_true _ (λ t. from_false (given.new_is cp_rules free st asked z answer (s (codes "A"))) holds (asks (s (codes "A")) (bit_is_net st u (s (codes "A")) b), t)),
      ))))
      g)
      (⊎_elim
      (λ (a, is, n, h, b). inl (bind (codes "U") u (λ v. a), (refl, tt), ((state_is u).0 is, ((net_is a).0 n, ((given.new_is cp_rules free st asked z answer a).0 (asks a n, h), (is_false (bit_is u a) (λ t. false≢true (sym b ∙ t.1)), tt))))))
      (λ (a, is, b, n). inr (bind (codes "U") u (λ v. a), (refl, tt), ((bit_is u a).0 (is, b), (is_false (given.new_is cp_rules free st asked z answer a) (λ t. false≢true (sym n ∙ t.1)), tt)))))

  off_old : (u : Value) → Tells (z (off_ (codes "off'") u)) (IsOff st asked.old u)
  off_old u = retell (by_rules cp_rules (IsFact st asked) z answer (off_ (codes "off'") u) (λ f. f))
      (λ g deny. ⊎_elim
      (λ (s, (ue, end), (state, (net, (holds, (bit, end2))))). (state_is u).1 (rw ue state) (λ is. (net_is (s (codes "A"))).1 net (λ n. (given.old_is cp_rules free st asked z answer (s (codes "A"))).1 holds (λ h.
      deny (inl (s (codes "A"), is, n, h.1, false_from_ne_true _ (λ b. from_false (bit_is u (s (codes "A"))) (rw ue bit) (is, b))))))))
      (λ (s, (ue, end), (bit, (holds, end2))). (bit_is u (s (codes "A"))).1 (rw ue bit) (λ (is, b). deny (inr (
        s (codes "A"),
        is,
        b,
        false_from_ne_true _ (λ t. from_false (given.old_is cp_rules free st asked z answer (s (codes "A"))) holds (asks (s (codes "A")) (bit_is_net st u (s (codes "A")) b), t)),
      ))))
      g)
      (⊎_elim
      (λ (a, is, n, h, b). inl (bind (codes "U") u (λ v. a), (refl, tt), ((state_is u).0 is, ((net_is a).0 n, ((given.old_is cp_rules free st asked z answer a).0 (asks a n, h), (is_false (bit_is u a) (λ t. false≢true (sym b ∙ t.1)), tt))))))
      (λ (a, is, b, n). inr (bind (codes "U") u (λ v. a), (refl, tt), ((bit_is u a).0 (is, b), (is_false (given.old_is cp_rules free st asked z answer a) (λ t. false≢true (sym n ∙ t.1)), tt)))))

  declared : IsTrue (z (compound (codes "preference") (also st.name (also (kind_term st.kind) none))))
  declared = given.declared cp_rules free st asked z answer

  abbrev new_state : Value
  new_state = state_of st asked.new

  abbrev old_state : Value
  old_state = state_of st asked.old

  pub better_is : IsTrue (z (this (codes "better"))) ↔ CpBetter st asked
  better_is = exactly (retell (by_rules cp_rules (IsFact st asked) z answer (this (codes "better")) (λ f. f))
      (λ (s, (pe, end), ((k, pref), (path, (old, (new, end2))))) deny. (given.path_is cp_rules free st asked z answer of (s (codes "U")) (s (codes "V"))).1 path (λ p.
      let both = path_ends st (s (codes "U")) (s (codes "V")) p in
      let ue = state_one st asked.old (s (codes "U")) (fits st asked.old (s (codes "U")) (off_old (s (codes "U"))) both.0 old) in
      let ve = state_one st asked.new (s (codes "V")) (fits st asked.new (s (codes "V")) (off_new (s (codes "V"))) both.1 new) in
      deny (subst (λ v. IsPath st old_state v) ve (subst (λ u. IsPath st u (s (codes "V"))) ue p))))
      (λ p. (
        bind (codes "P") st.name (bind (codes "U") old_state (λ v. new_state)),
        (refl, tt),
        (
          ((kind_term st.kind), declared),
          (
            (given.path_is cp_rules free st asked z answer of old_state new_state).0 p,
            (fitting st asked.old old_state (off_old old_state) (state_there st asked.old), (fitting st asked.new new_state (off_new new_state) (state_there st asked.new), tt)),
          ),
        ),
      )))
      (settled_decided _ (path_decided st old_state new_state))

  pub eq_is : IsTrue (z (this (codes "eq"))) ↔ CpEq st asked
  eq_is = exactly (retell (by_rules cp_rules (IsFact st asked) z answer (this (codes "eq")) (λ f. f))
      (λ (s, (pe, end), ((k, pref), (state, (new, (old, end2))))) deny. (state_is (s (codes "U"))).1 state (λ is.
      deny (sym (state_one st asked.old (s (codes "U")) (fits st asked.old (s (codes "U")) (off_old (s (codes "U"))) is old)) ∙ state_one st asked.new (s (codes "U")) (fits st asked.new (s (codes "U")) (off_new (s (codes "U"))) is new))))
      (λ e. (
        bind (codes "P") st.name (λ v. old_state),
        (refl, tt),
        (
          ((kind_term st.kind), declared),
          (
            (state_is old_state).0 (state_there st asked.old).0,
            (subst (λ u. IsFalse (z (off_ (codes "off") u))) (sym e) (fitting st asked.new new_state (off_new new_state) (state_there st asked.new)), (fitting st asked.old old_state (off_old old_state) (state_there st asked.old), tt)),
          ),
        ),
      )))
      (settled_decided _ (decide_same old_state new_state))

  pub cp_law : Relates st z (CpBetter st asked) (CpBetter st asked ⊎ CpEq st asked) (CpEq st asked)
  cp_law = (
    better_is,
    exactly (retell (by_rules cp_rules (IsFact st asked) z answer (this (codes "bettereq")) (λ f. f))
        (λ g deny. deny (⊎_elim
        (λ (s, (pe, end), ((k, pref), (h, end2))). inl (better_is.0 (rw pe h)))
        (λ (s, (pe, end), ((k, pref), (h, end2))). inr (eq_is.0 (rw pe h)))
        g))
        (⊎_elim
        (λ b. inl (λ v. st.name, (refl, tt), (((kind_term st.kind), declared), (better_is.1 b, tt))))
        (λ b. inr (λ v. st.name, (refl, tt), (((kind_term st.kind), declared), (eq_is.1 b, tt))))))
        (settled_decided _ (decide_either _ _ (path_decided st old_state new_state) (decide_same old_state new_state))),
    eq_is,
  )
