-- The names of the built-in types.
use Rattle.std.specs.Prelude.{ℕ, List, Option, Some, None, codes, if◌then◌else◌}
use Rattle.std.specs.Str.{bytes_eq}
use Rattle.pref_kinds.specs.declared.built_in.BuiltIn.{BuiltIn}
use Rattle.pref_kinds.specs.declared.built_in.BuiltIn.TheVariants.{Subset, Superset, LessCardinality, MoreCardinality, LessWeight, MoreWeight, Aso, Poset, Cp, Pareto, Lexico, And, Neg}

-- the type as it is written
abbrev pub text_of : BuiltIn → List ℕ
text_of Subset = codes "subset"
text_of Superset = codes "superset"
text_of LessCardinality = codes "less(cardinality)"
text_of MoreCardinality = codes "more(cardinality)"
text_of LessWeight = codes "less(weight)"
text_of MoreWeight = codes "more(weight)"
text_of Aso = codes "aso"
text_of Poset = codes "poset"
text_of Cp = codes "cp"
text_of Pareto = codes "pareto"
text_of Lexico = codes "lexico"
text_of And = codes "and"
text_of Neg = codes "neg"

-- the type that is written so
abbrev pub kind_of : List ℕ → Option BuiltIn
kind_of text =
    if bytes_eq text (codes "subset") then Some Subset else
    if bytes_eq text (codes "superset") then Some Superset else
    if bytes_eq text (codes "less(cardinality)") then Some LessCardinality else
    if bytes_eq text (codes "more(cardinality)") then Some MoreCardinality else
    if bytes_eq text (codes "less(weight)") then Some LessWeight else
    if bytes_eq text (codes "more(weight)") then Some MoreWeight else
    if bytes_eq text (codes "aso") then Some Aso else
    if bytes_eq text (codes "poset") then Some Poset else
    if bytes_eq text (codes "cp") then Some Cp else
    if bytes_eq text (codes "pareto") then Some Pareto else
    if bytes_eq text (codes "lexico") then Some Lexico else
    if bytes_eq text (codes "and") then Some And else
    if bytes_eq text (codes "neg") then Some Neg else
    None
