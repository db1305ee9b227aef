-- The variables of terms.
use Rattle.std.specs.Prelude.{true, false, List, [], ◌∷◌, ◌++◌, map, flat_map, Some, None}
use Rattle.ap_syntax.specs.declared.terms.Term.{Term, fold-Term}
use Rattle.ap_syntax.specs.declared.terms.Term.TheOpen.{Term-F}
use Rattle.ap_pieces.specs.declared.variables.Occurrence.{Occurrence}

-- An `Occurrence` is a variable where it stands in a text. `_` has no name. It is an argument where it stands under no operator
-- and under no interval, at most inside compounds and tuples.

-- the occurrences under an operator or an interval
abbrev pub under_operator : List Occurrence → List Occurrence
under_operator os = map (λ (o : Occurrence). record { name = o.name; is_argument = false }) os

abbrev pub joined : List (List Occurrence) → List Occurrence
joined parts = flat_map (λ part. part) parts

-- one level of a term, with the occurrences in its parts in their place
abbrev pub step : Term-F (List Occurrence) → List Occurrence
step (Term-F.Int number) = []
step (Term-F.Str text) = []
step (Term-F.Const name) = []
step (Term-F.Var name) = record { name = Some name; is_argument = true } ∷ []
step Term-F.Any = record { name = None; is_argument = true } ∷ []
step (Term-F.Fun name parts) = joined parts
step (Term-F.Tuple parts) = joined parts
step (Term-F.Minus part) = under_operator part
step (Term-F.Sum left op right) = under_operator (left ++ right)
step (Term-F.Product left op right) = under_operator (left ++ right)
step (Term-F.Range low high) = under_operator (low ++ high)

-- the occurrences of variables in a term, in the order of the text
abbrev pub occurrences : Term → List Occurrence
occurrences = fold-Term (List Occurrence) step

abbrev pub occurrences_of : List Term → List Occurrence
occurrences_of terms = flat_map occurrences terms
