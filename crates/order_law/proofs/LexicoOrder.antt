-- The order of `lexico` is lawful where those of the named statements are.
use Rattle.std.proofs.Common.{◌≡◌, List, Contains, IsTrue, refl, sym, subst, ap, ◌∙◌, ⊎_elim, inl, inr, Ordering, Less, Equal, Greater}
use Rattle.std.specs.Prelude.{◌⊎◌}
use Rattle.std.specs.Ordering.{is_gt, ordering_reverse}
use Rattle.std.proofs.lemmas.Bool.{false≢true}
use Rattle.ap_syntax.specs.declared.terms.Rel.TheVariants.{Gt}
use Rattle.ap_term.specs.Order.{value_cmp}
use Rattle.ap_term.specs.Value.{Value}
use Rattle.ap_term.proofs.OrderLemmas.{value_cmp-total, value_same}
use Rattle.rule_form.specs.Truth.{compares}
use Rattle.order_law.specs.Lawful.{IsLawful}
use Rattle.type_law.specs.Lexico.{Named}

abbrev Above : Value → Value → Type 0
Above v w = IsTrue (compares Gt v w)

greater_is : (o : Ordering) → IsTrue (is_gt o) → o ≡ Greater
greater_is Less e = absurd (false≢true e)
greater_is Equal e = absurd (false≢true e)
greater_is Greater e = refl

turned : (v w : Value) → Above v w → value_cmp w v ≡ Less
turned v w e = value_cmp-total.antisymm w v ∙ ap ordering_reverse (greater_is (value_cmp v w) e)

turned_back : (v w : Value) → value_cmp w v ≡ Less → Above v w
turned_back v w e = ap is_gt (value_cmp-total.antisymm v w ∙ ap ordering_reverse e)

above_trans : (u v w : Value) → Above u v → Above v w → Above u w
above_trans u v w e f = turned_back u w (value_cmp-total.trans w v u (turned v w f) (turned u v e))

three : (v w : Value) → Above v w ⊎ ((v ≡ w) ⊎ Above w v)
three v w = by (value_cmp v w) refl
  where
    by : (o : Ordering) → value_cmp v w ≡ o → Above v w ⊎ ((v ≡ w) ⊎ Above w v)
    by Less e = inr (inr (turned_back w v e))
    by Equal e = inr (inl (value_same v w e))
    by Greater e = inl (ap is_gt e)

module _ {S : Type 0} (names : List Named) (better bettereq eq : Value → S → S → Type 0) (lawful : (u : Named) → Contains names u → IsLawful (better u.statement) (bettereq u.statement) (eq u.statement)) where
  pub record LexBetter (x y : S) : Type 0 where
    pub of : Named
    pub among : Contains names of
    pub better_there : better of.statement x y
    pub fine : (u : Named) → Contains names u → u.weight ≡ of.weight → bettereq u.statement x y
    pub tied : (u : Named) → Contains names u → Above u.weight of.weight → eq u.statement x y

  abbrev pub LexEq : S → S → Type 0
  LexEq x y = (u : Named) → Contains names u → eq u.statement x y

  abbrev pub LexBettereq : S → S → Type 0
  LexBettereq x y = LexBetter x y ⊎ LexEq x y

  with_eq : (x y z : S) → LexBetter x y → LexEq y z → LexBetter x z
  with_eq x y z b e = record {
    of = b.of;
    among = b.among;
    better_there = (lawful b.of b.among).better_eq x y z b.better_there (e b.of b.among);
    fine = λ u c s. (lawful u c).bettereq_transitive x y z (b.fine u c s) ((lawful u c).eq_bettereq y z (e u c));
    tied = λ u c a. (lawful u c).eq_transitive x y z (b.tied u c a) (e u c);
  }

  eq_with : (x y z : S) → LexEq x y → LexBetter y z → LexBetter x z
  eq_with x y z e b = record {
    of = b.of;
    among = b.among;
    better_there = (lawful b.of b.among).eq_better x y z (e b.of b.among) b.better_there;
    fine = λ u c s. (lawful u c).bettereq_transitive x y z ((lawful u c).eq_bettereq x y (e u c)) (b.fine u c s);
    tied = λ u c a. (lawful u c).eq_transitive x y z (e u c) (b.tied u c a);
  }

  eq_trans : (x y z : S) → LexEq x y → LexEq y z → LexEq x z
  eq_trans x y z e f u c = (lawful u c).eq_transitive x y z (e u c) (f u c)

  -- the greater of the two weights decides
  better_trans : (x y z : S) → LexBetter x y → LexBetter y z → LexBetter x z
  better_trans x y z b d = ⊎_elim
      (λ a. record {
        of = b.of;
        among = b.among;
        better_there = (lawful b.of b.among).better_eq x y z b.better_there (d.tied b.of b.among a);
        fine = λ u c s. (lawful u c).bettereq_transitive x y z (b.fine u c s) ((lawful u c).eq_bettereq y z (d.tied u c (subst (λ w. Above w d.of.weight) (sym s) a)));
        tied = λ u c h. (lawful u c).eq_transitive x y z (b.tied u c h) (d.tied u c (above_trans u.weight b.of.weight d.of.weight h a));
      })
      (⊎_elim
      (λ s. record {
        of = b.of;
        among = b.among;
        better_there = (lawful b.of b.among).better_bettereq x y z b.better_there (d.fine b.of b.among s);
        fine = λ u c t. (lawful u c).bettereq_transitive x y z (b.fine u c t) (d.fine u c (t ∙ s));
        tied = λ u c h. (lawful u c).eq_transitive x y z (b.tied u c h) (d.tied u c (subst (Above u.weight) s h));
      })
      (λ a. record {
        of = d.of;
        among = d.among;
        better_there = (lawful d.of d.among).eq_better x y z (b.tied d.of d.among a) d.better_there;
        fine = λ u c s. (lawful u c).bettereq_transitive x y z ((lawful u c).eq_bettereq x y (b.tied u c (subst (λ w. Above w b.of.weight) (sym s) a))) (d.fine u c s);
        tied = λ u c h. (lawful u c).eq_transitive x y z (b.tied u c (above_trans u.weight d.of.weight b.of.weight h a)) (d.tied u c h);
      }))
      (three b.of.weight d.of.weight)

  pub lexico_is_lawful : IsLawful LexBetter LexBettereq LexEq
  lexico_is_lawful = record {
    irreflexive = λ x b. (lawful b.of b.among).irreflexive x b.better_there;
    transitive = better_trans;
    eq_itself = λ x u c. (lawful u c).eq_itself x;
    eq_back = λ x y e u c. (lawful u c).eq_back x y (e u c);
    eq_transitive = eq_trans;
    eq_bettereq = λ x y e. inr e;
    better_eq = with_eq;
    eq_better = eq_with;
    bettereq_itself = λ x. inr (λ u c. (lawful u c).eq_itself x);
    bettereq_transitive = λ x y z p q. ⊎_elim
        (λ b. ⊎_elim (λ d. inl (better_trans x y z b d)) (λ f. inl (with_eq x y z b f)) q)
        (λ e. ⊎_elim (λ d. inl (eq_with x y z e d)) (λ f. inr (eq_trans x y z e f)) q) p;
    bettereq_better = λ x y z p d. ⊎_elim (λ b. better_trans x y z b d) (λ e. eq_with x y z e d) p;
    better_bettereq = λ x y z b q. ⊎_elim (λ d. better_trans x y z b d) (λ f. with_eq x y z b f) q;
  }
