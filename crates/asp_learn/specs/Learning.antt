-- All that `analyse` and `blame` say of an answer.
use Rattle.std.specs.Prelude.{◌≡◌, ◌↔◌, ℕ, ◌⊎◌, List}
use Rattle.std.specs.List.{All, Contains}
use Rattle.theory_form.specs.declared.literals.ClauseId.{ClauseId}
use Rattle.theory_form.specs.declared.literals.Lit.{Lit}
use Rattle.theory_form.specs.Hints.{FollowsByHints}
use Rattle.theory_form.specs.Literals.{IsAscending}
use Rattle.theory_form.specs.Truth.{IsFalseClause}
use Rattle.asp_store.specs.Store.{State, assigned, clause_at}
use Rattle.asp_learn.specs.declared.blames.Blamed.{Blamed}
use Rattle.asp_learn.specs.declared.blames.Fault.{Fault}
use Rattle.asp_learn.specs.declared.learns.Learned.{Learned}
use Rattle.asp_learn.specs.Blames.{IsBlamed, IsOfFault}
use Rattle.asp_learn.specs.Conflicts.{AreMet, IsAbove0, IsFromHint, IsJumpLevel, IsUnitAtFirstUip, IsWellFormed}

pub record IsLearned (s : State) (conflict : ℕ) (l : Learned) : Type 0 where
  pub well_formed : IsWellFormed l.clause
  pub follows : FollowsByHints (clause_at s.clauses) s.places l.clause l.hints
  pub sources : All (IsFromHint s l.hints) l.clause
  pub all_false : IsFalseClause (assigned s) l.clause
  pub above_0 : All (IsAbove0 s.entries) l.clause
  pub unit : IsUnitAtFirstUip s conflict l.clause l.level l.point
  pub level : IsJumpLevel s.entries l.clause l.level
  pub seen : AreMet s l.hints l.seen

-- a clause of just these literals, with these hints
pub record IsMadeOf (lits : List Lit) (hints : List ClauseId) (b : Blamed) : Type 0 where
  pub ascending : IsAscending b.clause
  pub same : (l : Lit) → Contains b.clause l ↔ Contains lits l
  pub hints_are : b.hints ≡ hints

pub record IsBlame (s : State) (fault : Fault) (b : Blamed) : Type 0 where
  pub well_formed : IsWellFormed b.clause
  pub follows : FollowsByHints (clause_at s.clauses) s.places b.clause b.hints
  pub blamed : All (IsBlamed s.entries fault) b.clause
  pub above_0 : All (λ l. IsAbove0 s.entries l ⊎ IsOfFault fault l) b.clause
