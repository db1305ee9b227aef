-- The possible and the certain atoms are those of their rules, read in the two sets themselves.
use Rattle.std.proofs.Common.{ℕ, zero, suc, ◌<◌, Bool, true, false, List, Contains, get_or, ⊎_elim, inl, inr, arith}
use Rattle.std.specs.Prelude.{◌⊎◌, ◌↔◌}
use Rattle.ap_term.specs.Value.{Value}
use Rattle.rule_form.specs.Globals.{global_variables}
use Rattle.rule_form.specs.Possible.{If, Setting, level, Sure, Unsure, May, MayLack, MustLack, Judges, MayItem, MustItem, MayHead, MustHead, MakesPossible, MakesCertain, PossibleBelow, CertainBelow, IsPossible, IsCertain}
use Rattle.rule_form.specs.Trees.{Aggregate, Item, Plain, Each, Agg, Head, One, Choice, Nothing, Rule}
use Rattle.rule_form.specs.Truth.{AggregateHolds, HasGuardValues}
use Rattle.rule_form.specs.Values.{Substitution}
use Rattle.rule_form.proofs.Literals.{Carries, item_moves, aggregate_moves, condition_moves}

both : {P Q : Type 0} → P ↔ Q → Q ↔ P
both e = (e.1, e.0)

-- sets that are the same below an atom make it possible, and certain, alike
module _ (st : Setting) (possible certain possible' certain' : Value → Type 0) (a : Value) (same : (b : Value) → level st b < level st a → (possible b ↔ possible' b) × (certain b ↔ certain' b)) where
  sure_same : (b : Value) → (Sure st possible certain a b ↔ Sure st possible' certain' a b) × (Unsure st possible certain a b ↔ Unsure st possible' certain' a b)
  sure_same b = (
    (λ (lt, c). (lt, (same b lt).1.0 c), λ (lt, c). (lt, (same b lt).1.1 c)),
    (λ n (lt, c). n (lt, (same b lt).1.1 c), λ n (lt, c). n (lt, (same b lt).1.0 c)),
  )

  judges_same : (P : Type 0) (globals : List (List ℕ)) (s : Substitution) (g : Aggregate) (t : Bool) → If t (AggregateHolds globals (Sure st possible certain a) (Unsure st possible certain a) s g) P → If t (AggregateHolds globals (Sure st possible' certain' a) (Unsure st possible' certain' a) s g) P
  judges_same P globals s g true h = aggregate_moves (Sure st possible certain a) (Unsure st possible certain a) (Sure st possible' certain' a) (Unsure st possible' certain' a) globals s g (λ b i. sure_same b) h
  judges_same P globals s g false h = h

  carries : (P : Aggregate → Type 0) (globals : List (List ℕ)) (s : Substitution) (i : Item)
      → Carries (Sure st possible certain a) (Unsure st possible certain a) (Sure st possible' certain' a) (Unsure st possible' certain' a) (Judges st possible certain a P globals s) (Judges st possible' certain' a P globals s) i
  carries P globals s (Plain l) = tt
  carries P globals s (Each l c) = λ b i. ((sure_same b).0.1, (sure_same b).1.1)
  carries P globals s (Agg g) = λ h. judges_same (P g) globals s g (st.evaluated g) h

  may_more : (b : Value) → May st possible certain a b → May st possible' certain' a b
  may_more b h = λ lt. (same b lt).0.0 (h lt)

  may_lack_more : (b : Value) → MayLack st possible certain a b → MayLack st possible' certain' a b
  may_lack_more b h = λ lt c. h lt ((same b lt).1.1 c)

  must_lack_more : (b : Value) → MustLack st possible certain a b → MustLack st possible' certain' a b
  must_lack_more b (lt, n) = (lt, λ p. n ((same b lt).0.1 p))

  may_item : (globals : List (List ℕ)) (s : Substitution) (i : Item) → MayItem st possible certain a globals s i → MayItem st possible' certain' a globals s i
  may_item globals s i h = item_moves (May st possible certain a) (MayLack st possible certain a) (May st possible' certain' a) (MayLack st possible' certain' a)
      (Sure st possible certain a) (Unsure st possible certain a) (Sure st possible' certain' a) (Unsure st possible' certain' a)
      (Judges st possible certain a (HasGuardValues s) globals s) (Judges st possible' certain' a (HasGuardValues s) globals s) globals s i may_more may_lack_more (carries (HasGuardValues s) globals s i) h

  must_item : (globals : List (List ℕ)) (s : Substitution) (i : Item) → MustItem st possible certain a globals s i → MustItem st possible' certain' a globals s i
  must_item globals s i h = item_moves (Sure st possible certain a) (MustLack st possible certain a) (Sure st possible' certain' a) (MustLack st possible' certain' a)
      (Sure st possible certain a) (Unsure st possible certain a) (Sure st possible' certain' a) (Unsure st possible' certain' a)
      (Judges st possible certain a (λ g. ⊥) globals s) (Judges st possible' certain' a (λ g. ⊥) globals s) globals s i (λ b. (sure_same b).0.0) must_lack_more (carries (λ g. ⊥) globals s i) h

  may_head : (globals : List (List ℕ)) (s : Substitution) (h : Head) → MayHead st possible certain a globals s h → MayHead st possible' certain' a globals s h
  may_head globals s (One atom) is = is
  may_head globals s (Choice left es right) (vl, vr, e, u, among, agrees, is, c) = (
    vl,
    vr,
    e,
    u,
    among,
    agrees,
    is,
    condition_moves (May st possible certain a) (MayLack st possible certain a) (May st possible' certain' a) (MayLack st possible' certain' a) e.condition (λ b i. may_more b) (λ b i. may_lack_more b) u c,
  )
  may_head globals s Nothing h = h

  must_head : (s : Substitution) (h : Head) → MustHead st possible certain a s h → MustHead st possible' certain' a s h
  must_head s (One atom) is = is
  must_head s (Choice left es right) h = absurd h
  must_head s Nothing h = absurd h

  pub may_rule : (rule : Rule) → MakesPossible st possible certain a rule → MakesPossible st possible' certain' a rule
  may_rule rule (s, head, body) = (s, may_head (global_variables rule) s rule.head head, λ k d lt. may_item (global_variables rule) s (get_or rule.body k d) (body k d lt))

  pub must_rule : (rule : Rule) → MakesCertain st possible certain a rule → MakesCertain st possible' certain' a rule
  must_rule rule (s, head, body) = (s, must_head s rule.head head, λ k d lt. must_item (global_variables rule) s (get_or rule.body k d) (body k d lt))

module _ (st : Setting) where
  -- bounds above the level of an atom agree
  agree : (n m : ℕ) (a : Value) → level st a < n → level st a < m → (PossibleBelow st n a ↔ PossibleBelow st m a) × (CertainBelow st n a ↔ CertainBelow st m a)
  agree zero m a lt lt' = let none : ⊥ = omega (arith, lt) in absurd none
  agree (suc n) zero a lt lt' = let none : ⊥ = omega (arith, lt') in absurd none
  agree (suc n) (suc m) a lt lt' =
      let same : (b : Value) → level st b < level st a → (PossibleBelow st n b ↔ PossibleBelow st m b) × (CertainBelow st n b ↔ CertainBelow st m b) = λ b low. agree n m b (omega (arith, low, lt)) (omega (arith, low, lt')) in
      let back : (b : Value) → level st b < level st a → (PossibleBelow st m b ↔ PossibleBelow st n b) × (CertainBelow st m b ↔ CertainBelow st n b) = λ b low. (both (same b low).0, both (same b low).1) in
      let pn : Value → Type 0 = λ b. PossibleBelow st n b in let cn : Value → Type 0 = λ b. CertainBelow st n b in
      let pm : Value → Type 0 = λ b. PossibleBelow st m b in let cm : Value → Type 0 = λ b. CertainBelow st m b in (
        (
          ⊎_elim (λ g. inl g) (⊎_elim (λ i. inr (inl i)) (λ (rule, among, h). inr (inr (rule, among, may_rule st pn cn pm cm a same rule h)))),
          ⊎_elim (λ g. inl g) (⊎_elim (λ i. inr (inl i)) (λ (rule, among, h). inr (inr (rule, among, may_rule st pm cm pn cn a back rule h)))),
        ),
        (
          ⊎_elim (λ g. inl g) (λ (rule, among, h). inr (rule, among, must_rule st pn cn pm cm a same rule h)),
          ⊎_elim (λ g. inl g) (λ (rule, among, h). inr (rule, among, must_rule st pm cm pn cn a back rule h)),
        ),
      )

  lower_agree : (a : Value) (b : Value) → level st b < level st a → (PossibleBelow st (level st a) b ↔ IsPossible st b) × (CertainBelow st (level st a) b ↔ IsCertain st b)
  lower_agree a b lt = agree (level st a) (suc (level st b)) b lt (omega arith)

  pub possible_are : (a : Value) → IsPossible st a ↔ (Contains st.certain a ⊎ (Contains st.inputs a ⊎ ((rule : Rule) × Contains st.rules rule × MakesPossible st (IsPossible st) (IsCertain st) a rule)))
  possible_are a = let n = level st a in
      let p : Value → Type 0 = λ b. PossibleBelow st n b in let c : Value → Type 0 = λ b. CertainBelow st n b in (
        ⊎_elim (λ g. inl g) (⊎_elim (λ i. inr (inl i)) (λ (rule, among, h). inr (inr (rule, among, may_rule st p c (IsPossible st) (IsCertain st) a (lower_agree a) rule h)))),
        ⊎_elim (λ g. inl g) (⊎_elim (λ i. inr (inl i)) (λ (rule, among, h). inr (inr (rule, among, may_rule st (IsPossible st) (IsCertain st) p c a (λ b lt. (both (lower_agree a b lt).0, both (lower_agree a b lt).1)) rule h)))),
      )

  pub certain_are : (a : Value) → IsCertain st a ↔ (Contains st.certain a ⊎ ((rule : Rule) × Contains st.rules rule × MakesCertain st (IsPossible st) (IsCertain st) a rule))
  certain_are a = let n = level st a in
      let p : Value → Type 0 = λ b. PossibleBelow st n b in let c : Value → Type 0 = λ b. CertainBelow st n b in (
        ⊎_elim (λ g. inl g) (λ (rule, among, h). inr (rule, among, must_rule st p c (IsPossible st) (IsCertain st) a (lower_agree a) rule h)),
        ⊎_elim (λ g. inl g) (λ (rule, among, h). inr (rule, among, must_rule st (IsPossible st) (IsCertain st) p c a (λ b lt. (both (lower_agree a b lt).0, both (lower_agree a b lt).1)) rule h)),
      )
