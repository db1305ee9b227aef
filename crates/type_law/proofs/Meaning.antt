-- The program of each type means its order.
use Rattle.element_form.specs.Facts.{Asked, IsFact}
use Rattle.element_form.specs.Ground.{Statement}
use Rattle.pref_kinds.specs.declared.built_in.BuiltIn.{BuiltIn}
use Rattle.pref_kinds.specs.declared.built_in.BuiltIn.TheVariants.{Subset, Superset, LessCardinality, MoreCardinality, LessWeight, MoreWeight, Aso, Poset, Cp, Pareto, Lexico, And, Neg}
use Rattle.pref_library.specs.Programs.{rules_of}
use Rattle.rule_form.specs.AnswerSets.{IsAnswerSet}
use Rattle.rule_form.specs.Truth.{AtomSet}
use Rattle.type_law.specs.Orders.{Better, Bettereq, Eq}
use Rattle.type_law.specs.Takes.{Takes, Relates}
use Rattle.type_law.proofs.AsoLaw.{aso_law}
use Rattle.type_law.proofs.CompositionLaw.{pareto_law, and_law, neg_law}
use Rattle.type_law.proofs.CountLaw.{less_cardinality_law, more_cardinality_law}
use Rattle.type_law.proofs.CpLaw.{cp_law}
use Rattle.type_law.proofs.LexicoLaw.{lexico_law}
use Rattle.type_law.proofs.PosetLaw.{poset_law}
use Rattle.type_law.proofs.SubsetLaw.{subset_law, superset_law}
use Rattle.type_law.proofs.WeightLaw.{less_weight_law, more_weight_law}

pub program_means : (kind : BuiltIn) (st : Statement) → Takes kind st → (asked : Asked) (z : AtomSet) → IsAnswerSet (rules_of kind) (IsFact st asked) z → Relates st z (Better kind st asked) (Bettereq kind st asked) (Eq kind st asked)
program_means Subset st h = subset_law st h
program_means Superset st h = superset_law st h
program_means LessCardinality st h = less_cardinality_law st h
program_means MoreCardinality st h = more_cardinality_law st h
program_means LessWeight st (h, i) = less_weight_law st h i
program_means MoreWeight st (h, i) = more_weight_law st h i
program_means Aso st h = aso_law st h
program_means Poset st (is, h) = poset_law st is h
program_means Cp st is = cp_law st is
program_means Pareto st h = pareto_law st h
program_means Lexico st h = lexico_law st h
program_means And st h = and_law st h
program_means Neg st h = neg_law st h
