-- No program of a type is recursive.
use Rattle.std.proofs.Common.{◌≡◌, [], ◌∷◌, IsTrue, refl}
use Rattle.std.specs.Prelude.{codes}
use Rattle.ap_term.specs.Value.{Value}
use Rattle.pref_kinds.specs.declared.built_in.BuiltIn.{BuiltIn}
use Rattle.pref_kinds.specs.declared.built_in.BuiltIn.TheVariants.{Subset, Superset, LessCardinality, MoreCardinality, LessWeight, MoreWeight, Aso, Poset, Cp, Pareto, Lexico, And, Neg}
use Rattle.pref_library.specs.Programs.{rules_of}
use Rattle.rule_form.specs.AnswerSets.{IsAnswerSet}
use Rattle.rule_form.specs.Layers.{is_layered, level_by}
use Rattle.rule_form.specs.Truth.{AtomSet}
use Rattle.rule_form.proofs.Layered.{one_answer}
use Rattle.pref_library.specs.Aso.{aso_rules}
use Rattle.pref_library.specs.Compositions.{pareto_rules, and_rules, neg_rules}
use Rattle.pref_library.specs.Cp.{cp_rules}
use Rattle.pref_library.specs.Lexico.{lexico_rules}
use Rattle.pref_library.specs.Poset.{poset_rules}
use Rattle.pref_library.specs.Subset.{subset_rules, superset_rules}
use Rattle.pref_library.specs.Sums.{less_weight_rules, more_weight_rules, less_cardinality_rules, more_cardinality_rules}

pub subset_layered : IsTrue (is_layered (level_by (codes "better" ∷ codes "bettereq" ∷ codes "eq" ∷ codes "new" ∷ codes "old" ∷ [])) subset_rules)
subset_layered = refl

pub superset_layered : IsTrue (is_layered (level_by (codes "better" ∷ codes "bettereq" ∷ codes "eq" ∷ codes "new" ∷ codes "old" ∷ [])) superset_rules)
superset_layered = refl

pub less_weight_layered : IsTrue (is_layered (level_by (codes "bettereq" ∷ codes "better" ∷ codes "eq" ∷ [])) less_weight_rules)
less_weight_layered = refl

pub more_weight_layered : IsTrue (is_layered (level_by (codes "bettereq" ∷ codes "better" ∷ codes "eq" ∷ [])) more_weight_rules)
more_weight_layered = refl

pub less_cardinality_layered : IsTrue (is_layered (level_by (codes "bettereq" ∷ codes "better" ∷ codes "eq" ∷ [])) less_cardinality_rules)
less_cardinality_layered = refl

pub more_cardinality_layered : IsTrue (is_layered (level_by (codes "bettereq" ∷ codes "better" ∷ codes "eq" ∷ [])) more_cardinality_rules)
more_cardinality_layered = refl

pub aso_layered : IsTrue (is_layered (level_by (codes "better" ∷ codes "bettereq" ∷ codes "eq" ∷ codes "up" ∷ codes "down" ∷ codes "deg" ∷ codes "deg'" ∷ codes "some" ∷ codes "some'" ∷ codes "early" ∷ codes "early'" ∷ codes "hit" ∷ codes "hit'" ∷ codes "act" ∷ codes "act'" ∷ codes "cond" ∷ [])) aso_rules)
aso_layered = refl

pub poset_layered : IsTrue (is_layered (level_by (codes "better" ∷ codes "bettereq" ∷ codes "eq" ∷ codes "bad" ∷ codes "diff" ∷ codes "cov" ∷ codes "new" ∷ codes "old" ∷ [])) poset_rules)
poset_layered = refl

pub cp_layered : IsTrue (is_layered (level_by (codes "bettereq" ∷ codes "better" ∷ codes "eq" ∷ codes "off" ∷ codes "off'" ∷ [])) cp_rules)
cp_layered = refl

pub pareto_layered : IsTrue (is_layered (level_by (codes "better" ∷ codes "bettereq" ∷ codes "eq" ∷ codes "named" ∷ [])) pareto_rules)
pareto_layered = refl

pub lexico_layered : IsTrue (is_layered (level_by (codes "bettereq" ∷ codes "better" ∷ codes "eq" ∷ codes "tied" ∷ codes "fine" ∷ codes "level" ∷ codes "at" ∷ [])) lexico_rules)
lexico_layered = refl

pub and_layered : IsTrue (is_layered (level_by (codes "bettereq" ∷ codes "better" ∷ codes "eq" ∷ codes "named" ∷ [])) and_rules)
and_layered = refl

pub neg_layered : IsTrue (is_layered (level_by (codes "bettereq" ∷ codes "better" ∷ codes "eq" ∷ [])) neg_rules)
neg_layered = refl

-- so each has at most one answer set
pub one_of : (kind : BuiltIn) (facts : Value → Type 0) (x y : AtomSet) → IsAnswerSet (rules_of kind) facts x → IsAnswerSet (rules_of kind) facts y → (a : Value) → x a ≡ y a
one_of Subset = one_answer subset_rules (level_by (codes "better" ∷ codes "bettereq" ∷ codes "eq" ∷ codes "new" ∷ codes "old" ∷ [])) subset_layered
one_of Superset = one_answer superset_rules (level_by (codes "better" ∷ codes "bettereq" ∷ codes "eq" ∷ codes "new" ∷ codes "old" ∷ [])) superset_layered
one_of LessCardinality = one_answer less_cardinality_rules (level_by (codes "bettereq" ∷ codes "better" ∷ codes "eq" ∷ [])) less_cardinality_layered
one_of MoreCardinality = one_answer more_cardinality_rules (level_by (codes "bettereq" ∷ codes "better" ∷ codes "eq" ∷ [])) more_cardinality_layered
one_of LessWeight = one_answer less_weight_rules (level_by (codes "bettereq" ∷ codes "better" ∷ codes "eq" ∷ [])) less_weight_layered
one_of MoreWeight = one_answer more_weight_rules (level_by (codes "bettereq" ∷ codes "better" ∷ codes "eq" ∷ [])) more_weight_layered
one_of Aso = one_answer aso_rules (level_by (codes "better" ∷ codes "bettereq" ∷ codes "eq" ∷ codes "up" ∷ codes "down" ∷ codes "deg" ∷ codes "deg'" ∷ codes "some" ∷ codes "some'" ∷ codes "early" ∷ codes "early'" ∷ codes "hit" ∷ codes "hit'" ∷ codes "act" ∷ codes "act'" ∷ codes "cond" ∷ [])) aso_layered
one_of Poset = one_answer poset_rules (level_by (codes "better" ∷ codes "bettereq" ∷ codes "eq" ∷ codes "bad" ∷ codes "diff" ∷ codes "cov" ∷ codes "new" ∷ codes "old" ∷ [])) poset_layered
one_of Cp = one_answer cp_rules (level_by (codes "bettereq" ∷ codes "better" ∷ codes "eq" ∷ codes "off" ∷ codes "off'" ∷ [])) cp_layered
one_of Pareto = one_answer pareto_rules (level_by (codes "better" ∷ codes "bettereq" ∷ codes "eq" ∷ codes "named" ∷ [])) pareto_layered
one_of Lexico = one_answer lexico_rules (level_by (codes "bettereq" ∷ codes "better" ∷ codes "eq" ∷ codes "tied" ∷ codes "fine" ∷ codes "level" ∷ codes "at" ∷ [])) lexico_layered
one_of And = one_answer and_rules (level_by (codes "bettereq" ∷ codes "better" ∷ codes "eq" ∷ codes "named" ∷ [])) and_layered
one_of Neg = one_answer neg_rules (level_by (codes "bettereq" ∷ codes "better" ∷ codes "eq" ∷ [])) neg_layered
