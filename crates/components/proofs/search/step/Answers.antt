use Rattle.std.proofs.Common.{◌<◌, ◌∙◌, ℕ, [], subst, sym, length, arith}
use Rattle.std.specs.Prelude.{Contains}
use Rattle.std.proofs.lemmas.List.{get_or_default}
use Rattle.components.specs.Searches.{IsLast}
use Rattle.components.proofs.Ends.{last_in, upto_last}
use Rattle.components.proofs.Statuses.{stacked_in}
use Rattle.components.proofs.Closing.{cut_step}
use Rattle.components.proofs.search.step.Goals as goal
use Rattle.components.proofs.search.step.Goals.{in_default-via-in-Some+else-place-top, in_default-via-in_default}

none_in : (i : ℕ) {P : Type 0} → Contains {X = ℕ} [] i → P
none_in i m = let bad : m.0 < 0 = m.1 in absurd (omega arith)

pub explore-requires-clause-inside : goal.explore-requires-clause-inside
explore-requires-clause-inside c =
    c.requires.search.unfinished.inside c.in-Some.place (last_in c.args.search.now.unfinished c.in-Some.place (subst (λ xs. IsLast xs c.in-Some.place) c.as_slice.ensures c.in-Some.ensures))

pub close-requires-clause-top : goal.close-requires-clause-top
close-requires-clause-top c =
    let lt = c.requires.search.starts.inside c.args.top (last_in c.args.search.now.starts c.args.top c.requires.top) in
    omega (arith, lt)

pub close-requires-clause-nodes : goal.close-requires-clause-nodes
close-requires-clause-nodes c k d lt =
    subst (λ n. n < length c.args.search.now.statuses) (get_or_default c.args.search.now.stack k 0 d lt)
    (stacked_in c.args.search.now.statuses c.args.search.now.stack k c.requires.search.stack lt)

pub returns-in_default : goal.returns-in_default
returns-in_default c =
    let s = c.args.search.now in
    let done : (i : ℕ) → Contains s.unfinished i → i < c.args.top = elim c.in_default.branch [
      | in_default-via-in-Some+else-place-top w ↦ λ i m.
          let le = upto_last s.unfinished w.in-Some.place (subst (λ xs. IsLast xs w.in-Some.place) c.as_slice.ensures w.in-Some.ensures) c.requires.search.unfinished.ascending i m in
          let below = w.if-place-top.false in
          omega (arith, le, below)
      | in_default-via-in_default w ↦ λ i m. none_in i (subst (λ xs. Contains xs i) (sym c.as_slice.ensures ∙ w.in_default.ensures) m)
    ] in
    cut_step c.args.successors.now s c.close.new.search c.args.top c.requires.search c.requires.top done c.close.ensures
