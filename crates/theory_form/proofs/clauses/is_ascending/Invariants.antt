use Rattle.std.proofs.Common.{◌≡◌}
use Rattle.std.specs.List.{AllAdjacentBelow}
use Rattle.std.specs.declared.cmp.Ordering.TheVariants.{Less}
use Rattle.theory_form.specs.Literals.{lit_cmp}
use Rattle.theory_form.proofs.clauses.is_ascending.Given as goal

-- each literal before this place stands before the next
abbrev pub invariant-loop-i : goal.invariant-loop-i
invariant-loop-i l = AllAdjacentBelow (λ a b. lit_cmp a b ≡ Less) l.lits l.i
