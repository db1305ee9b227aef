-- The orders of all statements are lawful, by recursion along what each statement names.
use Rattle.std.proofs.Common.{ℕ, zero, suc, ◌<◌, Bool, List, Contains, IsTrue, sym, subst, arith}
use Rattle.std.specs.Prelude.{◌⊎◌}
use Rattle.ground_form.specs.AnswerSets.{IsAnswerSet}
use Rattle.ground_form.specs.Programs.{Parts}
use Rattle.opt_core.specs.Optima.{IsOptimal}
use Rattle.optima_law.proofs.Grounds.{ground_optima}
use Rattle.rule_form.proofs.Decided.{decide_true}
use Rattle.ap_term.specs.Value.{Value}
use Rattle.type_law.specs.Orders.{Better, Bettereq, Eq}
use Rattle.order_law.specs.Systems.{Satisfied, Relations, asked_of, Declared, AreOrders, IsNamed, HasOrder, IsLawfulStatement, AreBuiltIn, Prefers}
use Rattle.element_form.specs.Facts.{IsFact}
use Rattle.pref_library.specs.Programs.{rules_of}
use Rattle.rule_form.specs.AnswerSets.{IsAnswerSet as IsAnswerSetOf}
use Rattle.rule_form.specs.Truth.{AtomSet}
use Rattle.type_law.specs.Takes.{Takes, Relates}
use Rattle.type_law.proofs.Meaning.{program_means}
use Rattle.order_law.proofs.KindLaw.{kind_lawful}
use Rattle.order_law.proofs.Orders.{moved}

module _ (statements : List Declared) (r : Relations) (level : Value → ℕ) (orders : AreOrders statements r)
    (named : (d : Declared) → Contains statements d → IsNamed statements level d) (fits : (d : Declared) → Contains statements d → HasOrder d.kind d.statement) where
  by_level : (n : ℕ) (d : Declared) → Contains statements d → level d.statement.name < n → IsLawfulStatement r d.statement.name
  by_level zero d among low = absurd (omega (arith, low))
  by_level (suc n) d among low =
      moved (λ x. x) (λ x y. Better d.kind d.statement (asked_of r x y)) (λ x y. Bettereq d.kind d.statement (asked_of r x y)) (λ x y. Eq d.kind d.statement (asked_of r x y)) _ _ _
      (λ x y. orders.better_is d x y among) (λ x y. orders.bettereq_is d x y among) (λ x y. orders.eq_is d x y among)
      (kind_lawful d.statement r d.kind (fits d among)
      (λ q has. let (e, there, same, lower) = named d among q has in
      subst (IsLawfulStatement r) (sym same) (by_level n e there (subst (λ p. level p < n) same (omega (arith, low, lower))))))

  pub all_lawful : (d : Declared) → Contains statements d → IsLawfulStatement r d.statement.name
  all_lawful d among = by_level (suc (level d.statement.name)) d among (omega arith)

module _ (statements : List Declared) (r : Relations) (built_in : AreBuiltIn statements r) (d : Declared) (among : Contains statements d) where
  pub built_in_lawful : IsLawfulStatement r d.statement.name
  built_in_lawful = all_lawful statements r built_in.level built_in.orders built_in.named built_in.fits d among

  pub built_in_optima : (g : Parts) (satisfied : (ℕ → Bool) → Satisfied) (x : ℕ → Bool) → IsAnswerSet g x
      → IsOptimal (IsAnswerSet g) (Prefers r d.statement.name satisfied) x ⊎ ((y : ℕ → Bool) × IsOptimal (IsAnswerSet g) (Prefers r d.statement.name satisfied) y × Prefers r d.statement.name satisfied y x)
  built_in_optima g satisfied = ground_optima g (Prefers r d.statement.name satisfied) (λ x y. decide_true (r.better d.statement.name (satisfied x) (satisfied y)))
      (record {
        irreflexive = λ x p. built_in_lawful.irreflexive (satisfied x);
        transitive = λ x y z p q s. built_in_lawful.transitive (satisfied x) (satisfied y) (satisfied z);
      })

-- the atoms of a module tell the relations of its statement
module _ (statements : List Declared) (r : Relations) (orders : AreOrders statements r) (d : Declared) (among : Contains statements d) (takes : Takes d.kind d.statement) (x y : Satisfied) where
  pub module_means : (z : AtomSet) → IsAnswerSetOf (rules_of d.kind) (IsFact d.statement (asked_of r x y)) z
      → Relates d.statement z (IsTrue (r.better d.statement.name x y)) (IsTrue (r.bettereq d.statement.name x y)) (IsTrue (r.eq d.statement.name x y))
  module_means z answer =
      let (b, c, e) = program_means d.kind d.statement takes (asked_of r x y) z answer in
      let b2 = orders.better_is d x y among in
      let c2 = orders.bettereq_is d x y among in
      let e2 = orders.eq_is d x y among in
      ((λ h. b2.1 (b.0 h), λ h. b.1 (b2.0 h)), (λ h. c2.1 (c.0 h), λ h. c.1 (c2.0 h)), (λ h. e2.1 (e.0 h), λ h. e.1 (e2.0 h)))
