-- The numbers of predicates: their places in a list.
use Rattle.std.specs.Prelude.{ℕ, Bool, ◌&&◌, ◌==◌, List}
use Rattle.std.specs.List.{position_or_len}
use Rattle.std.specs.Str.{bytes_eq}
use Rattle.pred_graph.specs.declared.pred.Pred.{Pred}

abbrev pub is_pred : Pred → Pred → Bool
is_pred p q = bytes_eq p.name q.name && (p.arity == q.arity)

-- the place of the predicate, or the length where the list does not have it
abbrev pub place_in : List Pred → Pred → ℕ
place_in keys p = position_or_len (is_pred p) keys
