-- What rules derive between the certain and the possible atoms is possible, and certain atoms are derived there, where conditions of
-- conditional literals, and aggregates that are evaluated, are over definite atoms of lower components.
use Rattle.std.proofs.Common.{◌≡◌, ℕ, suc, ◌<◌, Bool, true, false, List, Contains, get_or, IsTrue, refl, sym, ap, ◌∙◌, ◌+◌, ⊎_elim, inl, inr, arith}
use Rattle.std.specs.Prelude.{◌⊎◌, ◌↔◌}
use Rattle.std.proofs.lemmas.Bool.{false≢true, false_from_ne_true}
use Rattle.std.proofs.lemmas.List.Elements.{Contains-get_or}
use Rattle.ap_term.specs.Value.{Value, Values, none, also, arity}
use Rattle.rule_form.specs.AnswerSets.{HeadHas}
use Rattle.rule_form.specs.Assigned.{AggregateTrueBy, RuleDerivesBy, DerivesBy}
use Rattle.rule_form.specs.Globals.{global_variables}
use Rattle.rule_form.specs.Possible.{If, Setting, level, terms_count, atom_level, IsHeadLevel, Sure, Unsure, May, MayLack, MustLack, Judges, MayHead, MustHead, MakesPossible, MakesCertain, IsPossible, IsCertain}
use Rattle.rule_form.specs.Static.{InAggregate, IsDefiniteBelow, IsStatic}
use Rattle.rule_form.specs.Trees.{Terms, nothing, more, Atom, Aggregate, Item, Plain, Each, Agg, Head, One, Choice, Nothing, Rule}
use Rattle.rule_form.specs.Truth.{AtomSet, In, Out, AggregateHolds, AggregateTrue, HasGuardValues}
use Rattle.rule_form.specs.Values.{Substitution, AreValues, IsAtom, atom_value}
use Rattle.rule_form.proofs.Levels.{possible_are, certain_are}
use Rattle.rule_form.proofs.Literals.{guards_have_values, Carries, item_moves, aggregate_moves, condition_moves}

-- ---- the level of an atom is that of the atom with variables

pub arguments_count : (s : Substitution) (ts : Terms) (vs : Values) → AreValues s ts vs → arity vs ≡ terms_count ts
arguments_count s nothing vs e = ap arity e
arguments_count s (more t ts) vs (w, ws, is, are, e) = let ih : arity ws ≡ terms_count ts = arguments_count s ts ws are in let step : arity ws + 1 ≡ suc (terms_count ts) = omega (arith, ih) in ap arity e ∙ step

value_level : (st : Setting) (name : List ℕ) (vs : Values) → level st (atom_value name vs) ≡ st.component name (arity vs)
value_level st name none = refl
value_level st name (also v vs) = refl

pub level_is : (st : Setting) (s : Substitution) (atom : Atom) (a : Value) → IsAtom s atom a → level st a ≡ atom_level st atom
level_is st s atom a (vs, are, e) = ap (level st) e ∙ (value_level st atom.name vs ∙ ap (st.component atom.name) (arguments_count s atom.terms vs are))

pub head_level : (st : Setting) (globals : List (List ℕ)) (x y : AtomSet) (s : Substitution) (h : Head) (a : Value) → HeadHas globals x y s h a → IsHeadLevel st h (level st a)
head_level st globals x y s (One atom) a is = level_is st s atom a is
head_level st globals x y s (Choice left es right) a (vl, vr, e, u, among, agrees, is, xa, c) = (e, among, level_is st u e.atom a is)
head_level st globals x y s Nothing a h = absurd h

-- what is known of x at an atom that is definite and lower
abbrev pub IsSettledIn : Setting → AtomSet → Value → Type 0
IsSettledIn st x b = (In x b ↔ IsCertain st b) × (Out x b ↔ (IsCertain st b → ⊥))

module _ (st : Setting) (definite : Value → Type 0) (settled : (b : Value) → definite b → IsPossible st b → IsCertain st b) where
  pub settled_in : (x : AtomSet) (b : Value) → definite b → (IsCertain st b → IsTrue (x b)) → (IsTrue (x b) → IsPossible st b) → IsSettledIn st x b
  settled_in x b d sure low = (
    (λ t. settled b d (low t), sure),
    (λ f c. false≢true (sym f ∙ sure c), λ n. false_from_ne_true (x b) (λ t. n (settled b d (low t)))),
  )

module _ (st : Setting) (definite : Value → Type 0) (settled : (b : Value) → definite b → IsPossible st b → IsCertain st b) (assigned : Aggregate → Bool) (judges : (g : Aggregate) → IsTrue (assigned g) → IsTrue (st.evaluated g)) where
  NotCertain : Value → Type 0
  NotCertain b = IsCertain st b → ⊥

  module _ (a : Value) (x y : AtomSet) (low_y : (c : Value) → level st c < level st a → IsTrue (y c) → IsPossible st c)
      (sure : (c : Value) → level st c < level st a → IsCertain st c → IsTrue (x c)) (low_x : (c : Value) → level st c < level st a → IsTrue (x c) → IsPossible st c) where
    abbrev S : Value → Type 0
    S = Sure st (IsPossible st) (IsCertain st) a

    abbrev U : Value → Type 0
    U = Unsure st (IsPossible st) (IsCertain st) a

    in_x : (b : Value) → definite b → level st b < level st a → IsSettledIn st x b
    in_x b d lt = settled_in st definite settled x b d (sure b lt) (low_x b lt)

    sure_is : (b : Value) → level st b < level st a → (IsCertain st b ↔ S b) × ((IsCertain st b → ⊥) ↔ U b)
    sure_is b lt = ((λ c. (lt, c), λ (l, c). c), (λ n (l, c). n c, λ n c. n (lt, c)))

    x_is : (b : Value) → definite b → level st b < level st a → (In x b ↔ S b) × (Out x b ↔ U b)
    x_is b d lt = let i = in_x b d lt in let s = sure_is b lt in
        ((λ h. s.0.0 (i.0.0 h), λ h. i.0.1 (s.0.1 h)), (λ h. s.1.0 (i.1.0 h), λ h. i.1.1 (s.1.1 h)))

    -- an aggregate that is evaluated reads alike in x, in the certain atoms, and in those of lower components
    to_judged : (globals : List (List ℕ)) (s : Substitution) (g : Aggregate) → ((b : Value) → InAggregate g b → definite b × (level st b < level st a)) → (u : Bool)
        → If u (AggregateHolds globals (IsCertain st) (λ b. IsCertain st b → ⊥) s g) (AggregateTrue globals x s g) → AggregateHolds globals S U s g
    to_judged globals s g low true h = aggregate_moves (IsCertain st) (λ b. IsCertain st b → ⊥) S U globals s g (λ b i. sure_is b (low b i).1) h
    to_judged globals s g low false h = aggregate_moves (In x) (Out x) S U globals s g (λ b i. x_is b (low b i).0 (low b i).1) h

    from_judged : (globals : List (List ℕ)) (s : Substitution) (g : Aggregate) → ((b : Value) → InAggregate g b → definite b × (level st b < level st a)) → (u : Bool)
        → AggregateHolds globals S U s g → If u (AggregateHolds globals (IsCertain st) (λ b. IsCertain st b → ⊥) s g) (AggregateTrue globals x s g)
    from_judged globals s g low true h = aggregate_moves S U (IsCertain st) (λ b. IsCertain st b → ⊥) globals s g (λ b i. let q = sure_is b (low b i).1 in ((q.0.1, q.0.0), (q.1.1, q.1.0))) h
    from_judged globals s g low false h = aggregate_moves S U (In x) (Out x) globals s g (λ b i. let q = x_is b (low b i).0 (low b i).1 in ((q.0.1, q.0.0), (q.1.1, q.1.0))) h

    guards_by : (globals : List (List ℕ)) (s : Substitution) (g : Aggregate) (t : Bool) → If t (AggregateHolds globals (IsCertain st) (λ b. IsCertain st b → ⊥) s g) (AggregateTrue globals x s g) → HasGuardValues s g
    guards_by globals s g true h = guards_have_values globals (IsCertain st) (λ b. IsCertain st b → ⊥) s g h
    guards_by globals s g false h = guards_have_values globals (In x) (Out x) s g h

    may_judge : (globals : List (List ℕ)) (s : Substitution) (g : Aggregate) (t : Bool) → (IsTrue t → (b : Value) → InAggregate g b → definite b × (level st b < level st a))
        → AggregateTrueBy assigned (IsCertain st) globals x s g → If t (AggregateHolds globals S U s g) (HasGuardValues s g)
    may_judge globals s g true low h = to_judged globals s g (low refl) (assigned g) h
    may_judge globals s g false low h = guards_by globals s g (assigned g) h

    must_judge : (globals : List (List ℕ)) (s : Substitution) (g : Aggregate) (t : Bool) → (IsTrue t → (b : Value) → InAggregate g b → definite b × (level st b < level st a))
        → If t (AggregateHolds globals S U s g) ⊥ → AggregateTrueBy assigned (IsCertain st) globals x s g
    must_judge globals s g true low h = from_judged globals s g (low refl) (assigned g) h
    must_judge globals s g false low h = absurd h

    module _ (rule : Rule) (static : IsStatic st definite rule) (among_heads : IsHeadLevel st rule.head (level st a)) where
      low : (b : Value) → IsDefiniteBelow st definite rule b → definite b × (level st b < level st a)
      low b d = (d.0, d.1 (level st a) among_heads)

      may_carry : (globals : List (List ℕ)) (s : Substitution) (i : Item) → Contains rule.body i
          → Carries (In x) (Out x) S U (AggregateTrueBy assigned (IsCertain st) globals x s) (Judges st (IsPossible st) (IsCertain st) a (HasGuardValues s) globals s) i
      may_carry globals s (Plain l) among = tt
      may_carry globals s (Each l c) among = λ b i. let d = low b (static.conditions l c among b i) in let q = x_is b d.0 d.1 in (q.0.1, q.1.1)
      may_carry globals s (Agg g) among = λ h. may_judge globals s g (st.evaluated g) (λ e b i. low b (static.aggregates g among e b i)) h

      must_carry : (globals : List (List ℕ)) (s : Substitution) (i : Item) → Contains rule.body i
          → Carries S U (In x) (Out x) (Judges st (IsPossible st) (IsCertain st) a (λ g. ⊥) globals s) (AggregateTrueBy assigned (IsCertain st) globals x s) i
      must_carry globals s (Plain l) among = tt
      must_carry globals s (Each l c) among = λ b i. let d = low b (static.conditions l c among b i) in let q = x_is b d.0 d.1 in (q.0.0, q.1.0)
      must_carry globals s (Agg g) among = λ h. must_judge globals s g (st.evaluated g) (λ e b i. low b (static.aggregates g among e b i)) h

    may : (b : Value) → In y b → May st (IsPossible st) (IsCertain st) a b
    may b h = λ lt. low_y b lt h

    may_lack : (b : Value) → Out x b → MayLack st (IsPossible st) (IsCertain st) a b
    may_lack b h = λ lt c. false≢true (sym h ∙ sure b lt c)

    must : (b : Value) → S b → In x b
    must b (lt, c) = sure b lt c

    must_lack : (b : Value) → MustLack st (IsPossible st) (IsCertain st) a b → Out x b
    must_lack b (lt, n) = false_from_ne_true (x b) (λ t. n (low_x b lt t))

    may_head : (globals : List (List ℕ)) (s : Substitution) (h : Head) → HeadHas globals x y s h a → MayHead st (IsPossible st) (IsCertain st) a globals s h
    may_head globals s (One atom) is = is
    may_head globals s (Choice left es right) (vl, vr, e, u, among, agrees, is, xa, c) = (
      vl,
      vr,
      e,
      u,
      among,
      agrees,
      is,
      condition_moves (In y) (Out x) (May st (IsPossible st) (IsCertain st) a) (MayLack st (IsPossible st) (IsCertain st) a) e.condition (λ b i. may b) (λ b i. may_lack b) u c,
    )
    may_head globals s Nothing h = h

    must_head : (globals : List (List ℕ)) (s : Substitution) (h : Head) → MustHead st (IsPossible st) (IsCertain st) a s h → HeadHas globals x x s h a
    must_head globals s (One atom) is = is
    must_head globals s (Choice left es right) h = absurd h
    must_head globals s Nothing h = absurd h

    pub may_rule : (rule : Rule) → IsStatic st definite rule → RuleDerivesBy assigned (IsCertain st) x y rule a → MakesPossible st (IsPossible st) (IsCertain st) a rule
    may_rule rule static (s, head, body) = let g = global_variables rule in (
      s,
      may_head g s rule.head head,
      λ k d lt. item_moves (In y) (Out x) (May st (IsPossible st) (IsCertain st) a) (MayLack st (IsPossible st) (IsCertain st) a) (In x) (Out x) S U
          (AggregateTrueBy assigned (IsCertain st) g x s) (Judges st (IsPossible st) (IsCertain st) a (HasGuardValues s) g s) g s (get_or rule.body k d) may may_lack
          (may_carry rule static (head_level st g x y s rule.head a head) g s (get_or rule.body k d) (Contains-get_or rule.body k d lt)) (body k d lt),
    )

    pub must_rule : (rule : Rule) → IsStatic st definite rule → MakesCertain st (IsPossible st) (IsCertain st) a rule → RuleDerivesBy assigned (IsCertain st) x x rule a
    must_rule rule static (s, head, body) = let g = global_variables rule in let h = must_head g s rule.head head in (
      s,
      h,
      λ k d lt. item_moves S (MustLack st (IsPossible st) (IsCertain st) a) (In x) (Out x) S U (In x) (Out x)
          (Judges st (IsPossible st) (IsCertain st) a (λ g'. ⊥) g s) (AggregateTrueBy assigned (IsCertain st) g x s) g s (get_or rule.body k d) must must_lack
          (must_carry rule static (head_level st g x x s rule.head a h) g s (get_or rule.body k d) (Contains-get_or rule.body k d lt)) (body k d lt),
    )

  -- ---- as `Grounding` asks

  module _ (static : (rule : Rule) → Contains st.rules rule → IsStatic st definite rule) where
    pub makes_possible : (x y : AtomSet) (a : Value) → ((c : Value) → level st c < level st a → IsTrue (y c) → IsPossible st c) → ((c : Value) → level st c < level st a → IsCertain st c → IsTrue (x c)) → ((c : Value) → level st c < level st a → IsTrue (x c) → IsPossible st c)
        → DerivesBy assigned (IsCertain st) st.rules x y a → IsPossible st a
    makes_possible x y a low_y sure low_x (rule, among, d) = (possible_are st a).1 (inr (inr (rule, among, may_rule a x y low_y sure low_x rule (static rule among) d)))

    pub makes_certain : (x : AtomSet) (a : Value) → IsCertain st a → ((c : Value) → level st c < level st a → IsCertain st c → IsTrue (x c)) → ((c : Value) → level st c < level st a → IsTrue (x c) → IsPossible st c)
        → Contains st.certain a ⊎ DerivesBy assigned (IsCertain st) st.rules x x a
    makes_certain x a ca sure low_x = ⊎_elim (λ g. inl g) (λ (rule, among, m). inr (rule, among, must_rule a x x low_x sure low_x rule (static rule among) m)) ((certain_are st a).0 ca)
