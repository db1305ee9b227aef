-- The direct orders are lawful.
use Rattle.std.proofs.Common.{◌≡◌, Bool, Contains, IsTrue, IsFalse, refl, sym, subst, ◌∙◌, ⊎_elim, inl, inr, arith}
use Rattle.std.specs.Prelude.{◌⊎◌, ◌↔◌}
use Rattle.std.proofs.lemmas.Bool.{false≢true, false_from_ne_true}
use Rattle.ap_term.specs.Value.{Value}
use Rattle.element_form.specs.States.{state_of}
use Rattle.element_form.specs.Flips.{Flips, IsPath}
use Rattle.pref_kinds.specs.declared.built_in.BuiltIn.{BuiltIn}
use Rattle.pref_kinds.specs.declared.built_in.BuiltIn.TheVariants.{Subset, Superset, LessCardinality, MoreCardinality, LessWeight, MoreWeight, Aso, Poset, Cp, Pareto, Lexico, And, Neg}
use Rattle.type_law.specs.Orders.{Better, Bettereq, Eq}
use Rattle.order_law.specs.Systems.{Satisfied, Relations, asked_of, HasOrder, IsLawfulStatement}
use Rattle.element_form.proofs.Closure.{leads_then}
use Rattle.order_law.proofs.Words.{degree_words}
use Rattle.order_law.proofs.Orders.{by_preorder, by_strict, exchanged, moved, by_number, by_sum}
use Rattle.type_law.specs.Orders.{NoGreater, HasSmaller}
use Rattle.type_law.specs.Compositions.{InOne}
use Rattle.order_law.specs.Lawful.{IsLawful}
use Rattle.type_law.specs.Lexico.{Named, names}
use Rattle.element_form.specs.Greater.{IsGreater}
use Rattle.type_law.specs.Covers.{IsAlone}
use Rattle.element_form.specs.Ground.{Statement, HasName}
use Rattle.type_law.specs.Parts.{IsPart, IsSame}
use Rattle.element_form.specs.Satisfied.{count, weight_sum}
use Rattle.type_law.proofs.LexicoLaw.{in_names, has_name}
use Rattle.order_law.proofs.LexicoOrder.{lexico_is_lawful, LexBetter, LexEq, LexBettereq}
use Rattle.order_law.proofs.PosetOrder as poset

-- what is asked of the order of a statement
abbrev pub IsLawfulKind : BuiltIn → Statement → Relations → Type 0
IsLawfulKind kind st r = IsLawful (λ x y. Better kind st (asked_of r x y)) (λ x y. Bettereq kind st (asked_of r x y)) (λ x y. Eq kind st (asked_of r x y))

module _ (st : Statement) where
  part_lawful : IsLawful (λ (x y : Satisfied). IsPart st x y × (IsPart st y x → ⊥)) (λ x y. IsPart st x y) (λ x y. IsPart st x y × IsPart st y x)
  part_lawful = by_preorder (λ x y. IsPart st x y) (λ x f has h. h) (λ x y z p q f has h. q f has (p f has h))

  degree_lawful : IsLawful (λ (x y : Satisfied). NoGreater st x y × HasSmaller st x y) (λ x y. NoGreater st x y) (λ x y. NoGreater st x y × NoGreater st y x)
  degree_lawful = moved (λ x. x) (λ (x y : Satisfied). NoGreater st x y × (NoGreater st y x → ⊥)) (λ x y. NoGreater st x y) (λ x y. NoGreater st x y × NoGreater st y x) _ _ _
      (degree_words st) (λ x y. (λ p. p, λ p. p)) (λ x y. (λ p. p, λ p. p))
      (by_preorder (λ x y. NoGreater st x y) (λ x e c. omega arith) (λ x y z p q e c. omega (arith, p e c, q e c)))

  module _ (no_cycle : (f : Value) → IsGreater st f f → ⊥) where
    abbrev Strict : Satisfied → Satisfied → Type 0
    Strict x y = (IsSame st x y → ⊥) × ((g : Value) → IsAlone st y x g → (f : Value) × IsAlone st x y f × IsGreater st f g)

    same_then : (x y z : Satisfied) → IsSame st x y → IsSame st y z → IsSame st x z
    same_then x y z (p, q) (r, s) = (λ f has h. r f has (p f has h), λ f has h. q f has (s f has h))

    not_in : (a b : Bool) → IsFalse a → (IsTrue b → IsTrue a) → IsFalse b
    not_in a b e f = false_from_ne_true b (λ h. false≢true (sym e ∙ f h))

    before_same : (x y z : Satisfied) → Strict x y → IsSame st y z → Strict x z
    before_same x y z (apart, covers) (p, q) = (
      λ same. apart (same_then x z y same (q, p)),
      λ g (has, zg, xg). let (f, (hf, xf, yf), gr) = covers g (has, q g has zg, xg) in (f, (hf, xf, not_in (y f) (z f) yf (q f hf)), gr),
    )

    after_same : (x y z : Satisfied) → IsSame st x y → Strict y z → Strict x z
    after_same x y z (p, q) (apart, covers) = (
      λ same. apart (same_then y x z (q, p) same),
      λ g (has, zg, xg). let (f, (hf, yf, zf), gr) = covers g (has, zg, not_in (x g) (y g) xg (q g has)) in (f, (hf, q f hf yf, zf), gr),
    )

    poset_lawful : IsLawful Strict (λ x y. Strict x y ⊎ IsSame st x y) (λ x y. IsSame st x y)
    poset_lawful = by_strict Strict (λ x y. IsSame st x y)
        (poset.better_irreflexive st no_cycle) (poset.better_trans st no_cycle)
        (λ x. (λ f has h. h, λ f has h. h)) (λ x y (p, q). (q, p)) same_then before_same after_same

  module _ (no_cycle : (u : Value) → IsPath st u u → ⊥) where
    path_lawful : IsLawful (λ (u v : Value). IsPath st v u) (λ u v. IsPath st v u ⊎ (v ≡ u)) (λ u v. v ≡ u)
    path_lawful = by_strict (λ u v. IsPath st v u) (λ u v. v ≡ u)
        no_cycle (λ u v w p q. leads_then (Flips st) w v u q p)
        (λ u. refl) (λ u v e. sym e) (λ u v w e f. f ∙ e)
        (λ u v w p e. subst (λ t. IsPath st t u) (sym e) p) (λ u v w e p. subst (λ t. IsPath st w t) e p)

  module _ (r : Relations) (lawful : (q : Value) → HasName st q → IsLawfulStatement r q) where
    pareto_lawful : IsLawfulKind Pareto st r
    pareto_lawful = record {
      irreflexive = λ x (all, (q, has, b)). (lawful q has).irreflexive x b;
      transitive = λ x y z (all, (q, has, b)) (all2, other). (λ p h. (lawful p h).bettereq_transitive x y z (all p h) (all2 p h), (q, has, (lawful q has).better_bettereq x y z b (all2 q has)));
      eq_itself = λ x q has. (lawful q has).eq_itself x;
      eq_back = λ x y e q has. (lawful q has).eq_back x y (e q has);
      eq_transitive = λ x y z e f q has. (lawful q has).eq_transitive x y z (e q has) (f q has);
      eq_bettereq = λ x y e q has. (lawful q has).eq_bettereq x y (e q has);
      better_eq = λ x y z (all, (q, has, b)) e. (λ p h. (lawful p h).bettereq_transitive x y z (all p h) ((lawful p h).eq_bettereq y z (e p h)), (q, has, (lawful q has).better_eq x y z b (e q has)));
      eq_better = λ x y z e (all, (q, has, b)). (λ p h. (lawful p h).bettereq_transitive x y z ((lawful p h).eq_bettereq x y (e p h)) (all p h), (q, has, (lawful q has).eq_better x y z (e q has) b));
      bettereq_itself = λ x q has. (lawful q has).bettereq_itself x;
      bettereq_transitive = λ x y z p q a has. (lawful a has).bettereq_transitive x y z (p a has) (q a has);
      bettereq_better = λ x y z c (all, (q, has, b)). (λ p h. (lawful p h).bettereq_transitive x y z (c p h) (all p h), (q, has, (lawful q has).bettereq_better x y z (c q has) b));
      better_bettereq = λ x y z (all, (q, has, b)) c. (λ p h. (lawful p h).bettereq_transitive x y z (all p h) (c p h), (q, has, (lawful q has).better_bettereq x y z b (c q has)));
    }

    and_lawful : (q : Value) × HasName st q → IsLawfulKind And st r
    and_lawful (n, there) = by_strict (λ x y. Better And st (asked_of r x y)) (λ x y. Eq And st (asked_of r x y))
        (λ x b. (lawful n there).irreflexive x (b n there))
        (λ x y z b c q has. (lawful q has).transitive x y z (b q has) (c q has))
        (λ x q has. (lawful q has).eq_itself x)
        (λ x y e q has. (lawful q has).eq_back x y (e q has))
        (λ x y z e f q has. (lawful q has).eq_transitive x y z (e q has) (f q has))
        (λ x y z b e q has. (lawful q has).better_eq x y z (b q has) (e q has))
        (λ x y z e b q has. (lawful q has).eq_better x y z (e q has) (b q has))

    neg_lawful : (q : Value) × HasName st q × ((p : Value) → HasName st p → p ≡ q) → IsLawfulKind Neg st r
    neg_lawful (n, there, only) =
        let h : IsLawfulStatement r n = lawful n there in
        let to_better : (x y : Satisfied) → InOne st (λ q. r.better q x y) → IsTrue (r.better n x y) = λ x y (q, has, b). subst (λ p. IsTrue (r.better p x y)) (only q has) b in
        let to_eq : (x y : Satisfied) → InOne st (λ q. r.eq q x y) → IsTrue (r.eq n x y) = λ x y (q, has, b). subst (λ p. IsTrue (r.eq p x y)) (only q has) b in
        by_strict (λ x y. Better Neg st (asked_of r x y)) (λ x y. Eq Neg st (asked_of r x y))
        (λ x b. h.irreflexive x (to_better x x b))
        (λ x y z b c. (n, there, h.transitive z y x (to_better z y c) (to_better y x b)))
        (λ x. (n, there, h.eq_itself x))
        (λ x y e. (n, there, h.eq_back x y (to_eq x y e)))
        (λ x y z e f. (n, there, h.eq_transitive x y z (to_eq x y e) (to_eq y z f)))
        (λ x y z b e. (n, there, h.eq_better z y x (h.eq_back y z (to_eq y z e)) (to_better y x b)))
        (λ x y z e b. (n, there, h.better_eq z y x (to_better z y b) (h.eq_back x y (to_eq x y e))))

    lexico_named : (u : Named) → Contains (names st) u → IsLawfulStatement r u.statement
    lexico_named u c = lawful u.statement (has_name st u.statement u.weight (in_names st u c))

    abbrev BetterIn : Value → Satisfied → Satisfied → Type 0
    BetterIn q x y = IsTrue (r.better q x y)

    abbrev BettereqIn : Value → Satisfied → Satisfied → Type 0
    BettereqIn q x y = IsTrue (r.bettereq q x y)

    abbrev EqIn : Value → Satisfied → Satisfied → Type 0
    EqIn q x y = IsTrue (r.eq q x y)

    lexico_lawful : IsLawfulKind Lexico st r
    lexico_lawful = moved (λ x. x) (LexBetter (names st) BetterIn BettereqIn EqIn lexico_named) (LexBettereq (names st) BetterIn BettereqIn EqIn lexico_named) (LexEq (names st) BetterIn BettereqIn EqIn lexico_named)
        (λ x y. Better Lexico st (asked_of r x y)) (λ x y. Bettereq Lexico st (asked_of r x y)) (λ x y. Eq Lexico st (asked_of r x y))
        better_same (λ x y. (λ p. ⊎_elim (λ b. inl ((better_same x y).0 b)) (λ e. inr e) p, λ p. ⊎_elim (λ b. inl ((better_same x y).1 b)) (λ e. inr e) p)) (λ x y. (λ e. e, λ e. e))
        (lexico_is_lawful (names st) BetterIn BettereqIn EqIn lexico_named)
      where
        better_same : (x y : Satisfied) → Better Lexico st (asked_of r x y) ↔ LexBetter (names st) BetterIn BettereqIn EqIn lexico_named x y
        better_same x y = (
          λ (u, c, b, fine, tied). record { of = u; among = c; better_there = b; fine = fine; tied = tied },
          λ h. (h.of, h.among, h.better_there, h.fine, h.tied),
        )

  module _ (r : Relations) where
    pub kind_lawful : (kind : BuiltIn) → HasOrder kind st → ((q : Value) → HasName st q → IsLawfulStatement r q) → IsLawfulKind kind st r
    kind_lawful Subset h lawful = part_lawful
    kind_lawful Superset h lawful = exchanged _ _ _ part_lawful
    kind_lawful LessCardinality h lawful = by_number (λ x. count st x)
    kind_lawful MoreCardinality h lawful = exchanged _ _ _ (by_number (λ x. count st x))
    kind_lawful LessWeight h lawful = by_sum (λ x. weight_sum st x)
    kind_lawful MoreWeight h lawful = exchanged _ _ _ (by_sum (λ x. weight_sum st x))
    kind_lawful Aso h lawful = degree_lawful
    kind_lawful Poset no_cycle lawful = poset_lawful no_cycle
    kind_lawful Cp no_cycle lawful = moved (state_of st) _ _ _ _ _ _ (λ x y. (λ p. p, λ p. p)) (λ x y. (λ p. p, λ p. p)) (λ x y. (λ p. p, λ p. p)) (path_lawful no_cycle)
    kind_lawful Pareto h lawful = pareto_lawful r lawful
    kind_lawful Lexico h lawful = lexico_lawful r lawful
    kind_lawful And h lawful = and_lawful r lawful h
    kind_lawful Neg h lawful = neg_lawful r lawful h
