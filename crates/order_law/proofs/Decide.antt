-- The direct orders are decided.
use Rattle.std.proofs.Common.{◌≤◌, Bool, IsTrue, IsFalse, arith}
use Rattle.ap_term.specs.Value.{Value}
use Rattle.pref_kinds.specs.declared.built_in.BuiltIn.{BuiltIn}
use Rattle.pref_kinds.specs.declared.built_in.BuiltIn.TheVariants.{Subset, Superset, LessCardinality, MoreCardinality, LessWeight, MoreWeight, Aso, Poset, Cp, Pareto, Lexico, And, Neg}
use Rattle.type_law.specs.Orders.{Better, Bettereq, Eq}
use Rattle.rule_form.proofs.Decided.{IsDecided, decide_true, decide_same, decide_both, decide_either, decide_if, decide_all, decide_as}
use Rattle.type_law.specs.Orders.{NoGreater}
use Rattle.element_form.specs.Degrees.{degree}
use Rattle.type_law.specs.Covers.{IsAlone, IsCovered}
use Rattle.element_form.specs.Ground.{Statement, Ground}
use Rattle.element_form.specs.Facts.{Asked}
use Rattle.element_form.specs.Satisfied.{count, weight_sum, formulas}
use Rattle.type_law.proofs.CompositionLaw.{one_decided, all_decided}
use Rattle.element_form.proofs.Members.{in_formulas, to_formulas}
use Rattle.type_law.proofs.LexicoLaw.{better_decided, eq_decided}
use Rattle.type_law.proofs.AsoLaw.{smaller_decided}
use Rattle.type_law.proofs.Decides.{decide_not, decide_less, decide_at_most, decide_number, decide_int_at_most, decide_int_less, decide_int}
use Rattle.type_law.proofs.PosetLaw.{part_decided, same_decided, covered_decided as covered_decided_by}
use Rattle.element_form.specs.Greater.{IsGreater}
use Rattle.element_form.specs.States.{state_of}
use Rattle.element_form.proofs.Paths.{path_decided}

module _ (st : Statement) where
  no_greater_decided : (x y : Value → Bool) → IsDecided (NoGreater st x y)
  no_greater_decided x y = decide_all st.elements (λ (e : Ground). degree x e ≤ degree y e) (λ e. decide_at_most (degree x e) (degree y e))

  alone_decided : (x y : Value → Bool) (f : Value) → IsDecided (IsTrue (x f) × IsFalse (y f))
  alone_decided x y f = decide_both _ _ (decide_true (x f)) (decide_as (IsTrue (y f) → ⊥) (IsFalse (y f)) (λ n. false_from (y f) n) (λ e h. not_both (y f) e h) (decide_not _ (decide_true (y f))))
    where
      false_from : (b : Bool) → (IsTrue b → ⊥) → IsFalse b
      false_from b n = grind (arith, n)

      not_both : (b : Bool) → IsFalse b → IsTrue b → ⊥
      not_both b e h = grind (arith, e, h)

  covered_decided : (asked : Asked) → IsDecided (IsCovered st asked)
  covered_decided asked = decide_as _ _ (λ f g (has, yes_g, no_g). f g (to_formulas st g has) (yes_g, no_g)) (λ f g c (yes_g, no_g). f g (in_formulas st g c, yes_g, no_g))
      (decide_all (formulas st) (λ g. IsTrue (asked.old g) × IsFalse (asked.new g) → (f : Value) × IsAlone st asked.new asked.old f × IsGreater st f g)
      (λ g. decide_if _ _ (alone_decided asked.old asked.new g) (covered_decided_by st asked.new asked.old g)))

  pub decide_better : (kind : BuiltIn) (asked : Asked) → IsDecided (Better kind st asked)
  decide_better Subset asked = decide_both _ _ (part_decided st asked.new asked.old) (decide_not _ (part_decided st asked.old asked.new))
  decide_better Superset asked = decide_both _ _ (part_decided st asked.old asked.new) (decide_not _ (part_decided st asked.new asked.old))
  decide_better LessCardinality asked = decide_less (count st asked.new) (count st asked.old)
  decide_better MoreCardinality asked = decide_less (count st asked.old) (count st asked.new)
  decide_better LessWeight asked = decide_int_less (weight_sum st asked.new) (weight_sum st asked.old)
  decide_better MoreWeight asked = decide_int_less (weight_sum st asked.old) (weight_sum st asked.new)
  decide_better Aso asked = decide_both _ _ (no_greater_decided asked.new asked.old) (smaller_decided st asked.new asked.old)
  decide_better Poset asked = decide_both _ _ (decide_not _ (same_decided st asked.new asked.old)) (covered_decided asked)
  decide_better Cp asked = path_decided st (state_of st asked.old) (state_of st asked.new)
  decide_better Pareto asked = decide_both _ _ (all_decided st asked.bettereq) (one_decided st asked.better)
  decide_better Lexico asked = better_decided st asked
  decide_better And asked = all_decided st asked.better
  decide_better Neg asked = one_decided st asked.worse

  pub decide_eq : (kind : BuiltIn) (asked : Asked) → IsDecided (Eq kind st asked)
  decide_eq Subset asked = same_decided st asked.new asked.old
  decide_eq Superset asked = same_decided st asked.old asked.new
  decide_eq LessCardinality asked = decide_number (count st asked.new) (count st asked.old)
  decide_eq MoreCardinality asked = decide_number (count st asked.old) (count st asked.new)
  decide_eq LessWeight asked = decide_int (weight_sum st asked.new) (weight_sum st asked.old)
  decide_eq MoreWeight asked = decide_int (weight_sum st asked.old) (weight_sum st asked.new)
  decide_eq Aso asked = decide_both _ _ (no_greater_decided asked.new asked.old) (no_greater_decided asked.old asked.new)
  decide_eq Poset asked = same_decided st asked.new asked.old
  decide_eq Cp asked = decide_same (state_of st asked.old) (state_of st asked.new)
  decide_eq Pareto asked = all_decided st asked.eq
  decide_eq Lexico asked = eq_decided st asked
  decide_eq And asked = all_decided st asked.eq
  decide_eq Neg asked = one_decided st asked.eq

  pub decide_bettereq : (kind : BuiltIn) (asked : Asked) → IsDecided (Bettereq kind st asked)
  decide_bettereq Subset asked = part_decided st asked.new asked.old
  decide_bettereq Superset asked = part_decided st asked.old asked.new
  decide_bettereq LessCardinality asked = decide_at_most (count st asked.new) (count st asked.old)
  decide_bettereq MoreCardinality asked = decide_at_most (count st asked.old) (count st asked.new)
  decide_bettereq LessWeight asked = decide_int_at_most (weight_sum st asked.new) (weight_sum st asked.old)
  decide_bettereq MoreWeight asked = decide_int_at_most (weight_sum st asked.old) (weight_sum st asked.new)
  decide_bettereq Aso asked = no_greater_decided asked.new asked.old
  decide_bettereq Poset asked = decide_either _ _ (decide_better Poset asked) (decide_eq Poset asked)
  decide_bettereq Cp asked = decide_either _ _ (decide_better Cp asked) (decide_eq Cp asked)
  decide_bettereq Pareto asked = all_decided st asked.bettereq
  decide_bettereq Lexico asked = decide_either _ _ (better_decided st asked) (eq_decided st asked)
  decide_bettereq And asked = decide_either _ _ (all_decided st asked.better) (all_decided st asked.eq)
  decide_bettereq Neg asked = decide_either _ _ (one_decided st asked.worse) (one_decided st asked.eq)
