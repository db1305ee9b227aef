-- The program of each built-in type.
use Rattle.std.specs.Prelude.{List, Option, Some, None}
use Rattle.ap_syntax.specs.declared.programs.Statement.{Statement}
use Rattle.ap_syntax.specs.declared.programs.Statement.TheVariants as statements
use Rattle.pref_kinds.specs.declared.built_in.BuiltIn.{BuiltIn}
use Rattle.pref_kinds.specs.declared.built_in.BuiltIn.TheVariants.{Subset, Superset, LessCardinality, MoreCardinality, LessWeight, MoreWeight, Aso, Poset, Cp, Pareto, Lexico, And, Neg}
use Rattle.pref_library.specs.Aso.{aso_rules}
use Rattle.pref_library.specs.Compositions.{pareto_rules, and_rules, neg_rules}
use Rattle.pref_library.specs.Cp.{cp_rules}
use Rattle.pref_library.specs.Lexico.{lexico_rules}
use Rattle.pref_library.specs.Poset.{poset_rules}
use Rattle.pref_library.specs.Subset.{subset_rules, superset_rules}
use Rattle.pref_library.specs.Sums.{less_weight_rules, more_weight_rules, less_cardinality_rules, more_cardinality_rules}
use Rattle.rule_form.specs.Readings.{read_rule}
use Rattle.rule_form.specs.Trees.{Rule}

abbrev pub rules_of : BuiltIn → List Rule
rules_of Subset = subset_rules
rules_of Superset = superset_rules
rules_of LessCardinality = less_cardinality_rules
rules_of MoreCardinality = more_cardinality_rules
rules_of LessWeight = less_weight_rules
rules_of MoreWeight = more_weight_rules
rules_of Aso = aso_rules
rules_of Poset = poset_rules
rules_of Cp = cp_rules
rules_of Pareto = pareto_rules
rules_of Lexico = lexico_rules
rules_of And = and_rules
rules_of Neg = neg_rules

-- the rule that a statement of a text is, if it is one
abbrev pub read_statement : Statement → Option Rule
read_statement (statements.Rule rule) = Some (read_rule rule)
read_statement (statements.Const file at name value) = None
read_statement (statements.Show shown) = None
read_statement (statements.Defined name arity) = None
read_statement (statements.Part file at part) = None
read_statement (statements.Preference preference) = None
read_statement (statements.Optimize file at name) = None
