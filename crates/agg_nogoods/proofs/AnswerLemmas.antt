-- What follows of a clause that is answered.
use Rattle.std.proofs.Common.{List, Bool}
use Rattle.std.specs.Prelude.{All, Option, Some, None, Result, Ok, Err, IfOk, IfSome}
use Rattle.std.specs.declared.alloc.AllocError.{AllocError}
use Rattle.theory_form.specs.declared.literals.Lit.{Lit}
use Rattle.theory_form.specs.declared.rows.SumRow.{SumRow}
use Rattle.agg_nogoods.specs.Implied.{AllCount, HoldsWithRow, IsAnswer, IsOverRow}
use Rattle.agg_nogoods.proofs.FoundLemmas.{all_over}
use Rattle.agg_nogoods.proofs.RuleLemmas.{implied_holds}

pub found_holds : (row : SumRow) (a : List (Option Bool)) (found : Result (Option (List Lit)) AllocError) → IfOk found (IsAnswer row a) → IfOk found (λ o. IfSome o (HoldsWithRow row))
found_holds row a (Ok (Some c)) h = implied_holds row c h.0
found_holds row a (Ok None) h = tt
found_holds row a (Err e) h = tt

pub found_over : (row : SumRow) (found : Result (Option (List Lit)) AllocError) → IfOk found (λ o. IfSome o (AllCount row)) → IfOk found (λ o. IfSome o (All (IsOverRow row)))
found_over row (Ok (Some c)) h = all_over row c h
found_over row (Ok None) h = tt
found_over row (Err e) h = tt
