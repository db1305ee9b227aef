-- The first rule or element in the texts with an unbound variable.
use Rattle.std.specs.Prelude.{ℕ, Bool, List, Option, Some, None, All}
use Rattle.pred_graph.specs.Known.{Known, definite_in}
use Rattle.pred_graph.specs.declared.pred.Pred.{Pred}
use Rattle.ap_bindings.specs.declared.search.Failing.{Failing}
use Rattle.ap_bindings.specs.Texts.{Place, IsFirst, failing_place}
use Rattle.ap_pieces.specs.Pieces.{Source}
use Rattle.ap_pieces.specs.Bound.{IsAllBound, IsUnsafe, HasUnbound}
use Rattle.ap_pieces.specs.declared.pieces.Signature.{Signature}

abbrev pub source_place : Source → Place
source_place source = record { file = source.file; at = source.at }

-- a test of predicates, as one of what an aggregate mentions
abbrev pub by_pred : (Pred → Bool) → Signature → Bool
by_pred definite s = definite (record { name = s.name; arity = s.arity })

-- the definite predicates, as they are known
abbrev pub definite_by : Known → Signature → Bool
definite_by safe = by_pred (definite_in safe)

-- all occurrences in all of them are bound, or this is the first with an unbound variable, and the first of those in its text
abbrev pub IsFirstUnsafe : (Signature → Bool) → List Source → Option (Failing (List ℕ)) → Type 0
IsFirstUnsafe definite sources None = All (IsAllBound definite) sources
IsFirstUnsafe definite sources (Some found) = (source : Source)
    × IsFirst source_place (HasUnbound definite) sources (failing_place found) source × IsUnsafe definite source found.what
