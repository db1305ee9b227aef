use Rattle.std.proofs.Common.{◌≡◌, ◌≤◌, drop}
use Rattle.std.specs.List.{list_any}
use Rattle.ap_syntax.specs.declared.terms.Term.{size-Term}
use Rattle.pref_shapes.specs.Intervals.{has_interval}
use Rattle.pref_shapes.proofs.intervals.+terms.Given as goal

-- an interval that is in the term is in what is left of it
abbrev pub invariant-has_interval-loop-first : goal.invariant-has_interval-loop-first
invariant-has_interval-loop-first l = (has_interval l.term ≡ has_interval l.first) × (size-Term l.first ≤ size-Term l.term)

abbrev pub invariant-any_has_interval-loop-term : goal.invariant-any_has_interval-loop-term
invariant-any_has_interval-loop-term l = list_any has_interval l.terms ≡ list_any has_interval (drop l.term-index l.terms)
