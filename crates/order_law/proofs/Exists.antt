-- There are relations that are the orders of all statements: by recursion along what each statement names.
use Rattle.std.proofs.Common.{◌≡◌, ℕ, zero, suc, ◌<◌, Bool, true, false, List, [], ◌∷◌, Contains, IsTrue, refl, sym, subst, ap, ◌∙◌, ⊎_elim, inl, inr, Option, Some, None, arith}
use Rattle.std.specs.Prelude.{◌⊎◌, if◌then◌else◌}
use Rattle.std.proofs.lemmas.Bool.{false≢true}
use Rattle.ap_term.specs.Value.{Value}
use Rattle.pref_kinds.specs.declared.built_in.BuiltIn.{BuiltIn}
use Rattle.pref_kinds.specs.declared.built_in.BuiltIn.TheVariants.{Subset, Superset, LessCardinality, MoreCardinality, LessWeight, MoreWeight, Aso, Poset, Cp, Pareto, Lexico, And, Neg}
use Rattle.type_law.specs.Orders.{Better, Bettereq, Eq}
use Rattle.order_law.specs.Systems.{Satisfied, Relations, asked_of, Declared, AreOrders, AreApart, IsNamed}
use Rattle.order_law.proofs.Decide.{decide_better, decide_bettereq, decide_eq}
use Rattle.element_form.proofs.Testing.{test_of, test_is}
use Rattle.rule_form.proofs.Decided.{IsDecided}
use Rattle.rule_form.proofs.Rules.{same_decides, same_itself}
use Rattle.rule_form.proofs.Stable.{same_bool}
use Rattle.rule_form.proofs.Unfolds.{here, there, first_or_rest, nothing_in}
use Rattle.type_law.specs.Lexico.{Named, names}
use Rattle.element_form.specs.Ground.{Statement, HasName}
use Rattle.element_form.specs.Facts.{Asked}
use Rattle.element_form.specs.Satisfied.{same_value}
use Rattle.type_law.proofs.LexicoLaw.{in_names, has_name}

-- ---- the orders rest on the relations of the named statements

pub record IsAlike (q : Value) (r s : Relations) : Type 0 where
  pub better : (x y : Satisfied) → r.better q x y ≡ s.better q x y
  pub bettereq : (x y : Satisfied) → r.bettereq q x y ≡ s.bettereq q x y
  pub eq : (x y : Satisfied) → r.eq q x y ≡ s.eq q x y

alike_back : (q : Value) (r s : Relations) → IsAlike q r s → IsAlike q s r
alike_back q r s h = record { better = λ x y. sym (h.better x y); bettereq = λ x y. sym (h.bettereq x y); eq = λ x y. sym (h.eq x y) }

module _ (st : Statement) (r s : Relations) (alike : (q : Value) → HasName st q → IsAlike q r s) (x y : Satisfied) where
  among : (u : Named) → Contains (names st) u → HasName st u.statement
  among u c = has_name st u.statement u.weight (in_names st u c)

  to_eq : (kind : BuiltIn) → Eq kind st (asked_of r x y) → Eq kind st (asked_of s x y)
  to_eq Subset h = h
  to_eq Superset h = h
  to_eq LessCardinality h = h
  to_eq MoreCardinality h = h
  to_eq LessWeight h = h
  to_eq MoreWeight h = h
  to_eq Aso h = h
  to_eq Poset h = h
  to_eq Cp h = h
  to_eq Pareto h = λ q has. subst IsTrue ((alike q has).eq x y) (h q has)
  to_eq Lexico h = λ u c. subst IsTrue ((alike u.statement (among u c)).eq x y) (h u c)
  to_eq And h = λ q has. subst IsTrue ((alike q has).eq x y) (h q has)
  to_eq Neg (q, has, h) = (q, has, subst IsTrue ((alike q has).eq x y) h)

  to_better : (kind : BuiltIn) → Better kind st (asked_of r x y) → Better kind st (asked_of s x y)
  to_better Subset h = h
  to_better Superset h = h
  to_better LessCardinality h = h
  to_better MoreCardinality h = h
  to_better LessWeight h = h
  to_better MoreWeight h = h
  to_better Aso h = h
  to_better Poset h = h
  to_better Cp h = h
  to_better Pareto (all, (q, has, h)) = (λ p has_p. subst IsTrue ((alike p has_p).bettereq x y) (all p has_p), (q, has, subst IsTrue ((alike q has).better x y) h))
  to_better Lexico (u, c, b, fine, tied) = (
    u,
    c,
    subst IsTrue ((alike u.statement (among u c)).better x y) b,
    λ v d e. subst IsTrue ((alike v.statement (among v d)).bettereq x y) (fine v d e),
    λ v d e. subst IsTrue ((alike v.statement (among v d)).eq x y) (tied v d e),
  )
  to_better And h = λ q has. subst IsTrue ((alike q has).better x y) (h q has)
  to_better Neg (q, has, h) = (q, has, subst IsTrue ((alike q has).better y x) h)

  to_bettereq : (kind : BuiltIn) → Bettereq kind st (asked_of r x y) → Bettereq kind st (asked_of s x y)
  to_bettereq Subset h = h
  to_bettereq Superset h = h
  to_bettereq LessCardinality h = h
  to_bettereq MoreCardinality h = h
  to_bettereq LessWeight h = h
  to_bettereq MoreWeight h = h
  to_bettereq Aso h = h
  to_bettereq Poset h = h
  to_bettereq Cp h = h
  to_bettereq Pareto h = λ q has. subst IsTrue ((alike q has).bettereq x y) (h q has)
  to_bettereq Lexico h = ⊎_elim (λ b. inl (to_better Lexico b)) (λ e. inr (to_eq Lexico e)) h
  to_bettereq And h = ⊎_elim (λ b. inl (to_better And b)) (λ e. inr (to_eq And e)) h
  to_bettereq Neg h = ⊎_elim (λ b. inl (to_better Neg b)) (λ e. inr (to_eq Neg e)) h

-- ---- by levels

abbrev found : List Declared → Value → Option Declared
found [] q = None
found (d ∷ ds) q = if same_value d.statement.name q then Some d else found ds q

abbrev better_of : Option Declared → Asked → Bool
better_of None asked = false
better_of (Some d) asked = test_of (decide_better d.statement d.kind asked)

abbrev bettereq_of : Option Declared → Asked → Bool
bettereq_of None asked = false
bettereq_of (Some d) asked = test_of (decide_bettereq d.statement d.kind asked)

abbrev eq_of : Option Declared → Asked → Bool
eq_of None asked = false
eq_of (Some d) asked = test_of (decide_eq d.statement d.kind asked)

-- one level after another
abbrev pub relations_at : List Declared → ℕ → Relations
relations_at ds zero = record { better = λ q x y. false; bettereq = λ q x y. false; eq = λ q x y. false }
relations_at ds (suc n) = let below : Relations = relations_at ds n in record {
  better = λ q x y. better_of (found ds q) (asked_of below x y);
  bettereq = λ q x y. bettereq_of (found ds q) (asked_of below x y);
  eq = λ q x y. eq_of (found ds q) (asked_of below x y);
}

abbrev pub relations_of : List Declared → (Value → ℕ) → Relations
relations_of ds level = record {
  better = λ q x y. (relations_at ds (suc (level q))).better q x y;
  bettereq = λ q x y. (relations_at ds (suc (level q))).bettereq q x y;
  eq = λ q x y. (relations_at ds (suc (level q))).eq q x y;
}

found_is : (ds : List Declared) → AreApart ds → (d : Declared) → Contains ds d → found ds d.statement.name ≡ Some d
found_is [] apart d c = absurd (nothing_in d c)
found_is (e ∷ es) apart d c = by (same_value e.statement.name d.statement.name) refl
    (⊎_elim (λ is. inl is) (λ r. inr (found_is es (λ f g cf cg. apart f g (there e es f cf) (there e es g cg)) d r)) (first_or_rest e es d c))
  where
    by : (b : Bool) → same_value e.statement.name d.statement.name ≡ b → (e ≡ d) ⊎ (found es d.statement.name ≡ Some d) → (if b then Some e else found es d.statement.name) ≡ Some d
    by true is h = ap (λ f. Some f) (apart e d (here e es) c (same_decides e.statement.name d.statement.name is))
    by false is h = ⊎_elim (λ s. absurd (false≢true (sym is ∙ subst (λ (f : Declared). IsTrue (same_value e.statement.name f.statement.name)) s (same_itself e.statement.name)))) (λ r. r) h

same_tests : {P Q : Type 0} (d : IsDecided P) (e : IsDecided Q) → (P → Q) → (Q → P) → test_of {P = P} d ≡ test_of {P = Q} e
same_tests d e f g = same_bool (test_of d) (test_of e) (λ t. (test_is e).1 (f ((test_is d).0 t))) (λ t. (test_is d).1 (g ((test_is e).0 t)))

module _ (ds : List Declared) (level : Value → ℕ) (apart : AreApart ds) (named : (d : Declared) → Contains ds d → IsNamed ds level d) where
  -- above its level a statement has one order
  stable : (k : ℕ) (d : Declared) → Contains ds d → level d.statement.name < k → (n m : ℕ) → level d.statement.name < n → level d.statement.name < m → IsAlike d.statement.name (relations_at ds n) (relations_at ds m)
  stable zero d c low n m ln lm = absurd (omega (arith, low))
  stable (suc k) d c low zero m ln lm = absurd (omega (arith, ln))
  stable (suc k) d c low (suc n) zero ln lm = absurd (omega (arith, lm))
  stable (suc k) d c low (suc n) (suc m) ln lm =
      let is : found ds d.statement.name ≡ Some d = found_is ds apart d c in
      let alike : (q : Value) → HasName d.statement q → IsAlike q (relations_at ds n) (relations_at ds m) = λ q has. let (e, there_is, same, lower) = named d c q has in
      let lower2 : level e.statement.name < level d.statement.name = subst (λ p. level p < level d.statement.name) same lower in
      subst (λ p. IsAlike p (relations_at ds n) (relations_at ds m)) (sym same) (stable k e there_is (omega (arith, low, lower2)) n m (omega (arith, ln, lower2)) (omega (arith, lm, lower2))) in
      let back : (q : Value) → HasName d.statement q → IsAlike q (relations_at ds m) (relations_at ds n) = λ q has. alike_back q _ _ (alike q has) in
      record {
        better = λ x y. ap (λ o. better_of o (asked_of (relations_at ds n) x y)) is ∙ (same_tests _ _ (to_better d.statement _ _ alike x y d.kind) (to_better d.statement _ _ back x y d.kind) ∙ sym (ap (λ o. better_of o (asked_of (relations_at ds m) x y)) is));
        bettereq = λ x y. ap (λ o. bettereq_of o (asked_of (relations_at ds n) x y)) is ∙ (same_tests _ _ (to_bettereq d.statement _ _ alike x y d.kind) (to_bettereq d.statement _ _ back x y d.kind) ∙ sym (ap (λ o. bettereq_of o (asked_of (relations_at ds m) x y)) is));
        eq = λ x y. ap (λ o. eq_of o (asked_of (relations_at ds n) x y)) is ∙ (same_tests _ _ (to_eq d.statement _ _ alike x y d.kind) (to_eq d.statement _ _ back x y d.kind) ∙ sym (ap (λ o. eq_of o (asked_of (relations_at ds m) x y)) is));
      }

  alike_above : (d : Declared) → Contains ds d → (q : Value) → HasName d.statement q → IsAlike q (relations_at ds (level d.statement.name)) (relations_of ds level)
  alike_above d c q has =
      let (e, there_is, same, lower) = named d c q has in
      let h : (p : Value) → e.statement.name ≡ p → level p < level d.statement.name → IsAlike p (relations_at ds (level d.statement.name)) (relations_at ds (suc (level p))) = λ p is low.
      subst (λ v. IsAlike v (relations_at ds (level d.statement.name)) (relations_at ds (suc (level p)))) is
      (let low2 : level e.statement.name < level d.statement.name = subst (λ v. level v < level d.statement.name) (sym is) low in
      stable (suc (level e.statement.name)) e there_is (omega arith) (level d.statement.name) (suc (level p)) low2 (subst (λ v. level e.statement.name < suc (level v)) is (omega arith))) in
      let a = h q (sym same) lower in
      record { better = a.better; bettereq = a.bettereq; eq = a.eq }

  pub orders_exist : AreOrders ds (relations_of ds level)
  orders_exist = record {
    better_is = λ d x y c. let is : found ds d.statement.name ≡ Some d = found_is ds apart d c in
        let e : (relations_of ds level).better d.statement.name x y ≡ test_of (decide_better d.statement d.kind (asked_of (relations_at ds (level d.statement.name)) x y)) = ap (λ o. better_of o (asked_of (relations_at ds (level d.statement.name)) x y)) is in (
          λ h. to_better d.statement _ _ (alike_above d c) x y d.kind ((test_is (decide_better d.statement d.kind (asked_of (relations_at ds (level d.statement.name)) x y))).0 (sym e ∙ h)),
          λ h. e ∙ (test_is (decide_better d.statement d.kind (asked_of (relations_at ds (level d.statement.name)) x y))).1 (to_better d.statement _ _ (λ q has. alike_back q _ _ (alike_above d c q has)) x y d.kind h),
        );
    bettereq_is = λ d x y c. let is : found ds d.statement.name ≡ Some d = found_is ds apart d c in
        let e : (relations_of ds level).bettereq d.statement.name x y ≡ test_of (decide_bettereq d.statement d.kind (asked_of (relations_at ds (level d.statement.name)) x y)) = ap (λ o. bettereq_of o (asked_of (relations_at ds (level d.statement.name)) x y)) is in (
          λ h. to_bettereq d.statement _ _ (alike_above d c) x y d.kind ((test_is (decide_bettereq d.statement d.kind (asked_of (relations_at ds (level d.statement.name)) x y))).0 (sym e ∙ h)),
          λ h. e ∙ (test_is (decide_bettereq d.statement d.kind (asked_of (relations_at ds (level d.statement.name)) x y))).1 (to_bettereq d.statement _ _ (λ q has. alike_back q _ _ (alike_above d c q has)) x y d.kind h),
        );
    eq_is = λ d x y c. let is : found ds d.statement.name ≡ Some d = found_is ds apart d c in
        let e : (relations_of ds level).eq d.statement.name x y ≡ test_of (decide_eq d.statement d.kind (asked_of (relations_at ds (level d.statement.name)) x y)) = ap (λ o. eq_of o (asked_of (relations_at ds (level d.statement.name)) x y)) is in (
          λ h. to_eq d.statement _ _ (alike_above d c) x y d.kind ((test_is (decide_eq d.statement d.kind (asked_of (relations_at ds (level d.statement.name)) x y))).0 (sym e ∙ h)),
          λ h. e ∙ (test_is (decide_eq d.statement d.kind (asked_of (relations_at ds (level d.statement.name)) x y))).1 (to_eq d.statement _ _ (λ q has. alike_back q _ _ (alike_above d c q has)) x y d.kind h),
        );
  }
