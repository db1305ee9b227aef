use Rattle.std.proofs.Common.{◌≡◌, ◌-◌, ◌<◌, ℕ, length, get_or}
use Rattle.theory_form.specs.declared.literals.Lit.{Lit}
use Rattle.theory_form.specs.Truth.{IsTrueIn}
use Rattle.asp_store.specs.Store.{assigned}
use Rattle.asp_engine.specs.Search.{Stands}
use Rattle.asp_engine.proofs.descent.descend.Given as goal

abbrev pub invariant-descend : goal.invariant-descend
invariant-descend l = record {
  same : l.store ≡ record l.initial.store { entries = l.store.entries };
  stands : Stands l.store.clauses l.store.places l.assume l.store.entries;
  before : (k : ℕ) (d : Lit) → k < l.cursor → k < length l.assume → IsTrueIn (assigned l.store) (get_or l.assume k d);
}

abbrev pub decreases-descend : goal.decreases-descend
decreases-descend l = l.store.places - length l.store.entries
