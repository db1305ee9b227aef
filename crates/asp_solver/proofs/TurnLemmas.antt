-- What the end of a search says of the answer.
use Rattle.std.proofs.Common.{◌≡◌, ◌≢◌, subst}
use Rattle.asp_engine.specs.declared.engine.Engine.{Engine}
use Rattle.asp_engine.specs.declared.rounds.Ending.{Ending}
use Rattle.asp_engine.specs.declared.rounds.Ending.TheVariants as end
use Rattle.asp_engine.specs.Answers as engine
use Rattle.asp_solver.specs.declared.answers.Turn.{Turn}
use Rattle.asp_solver.specs.declared.answers.Turn.TheVariants.{Found, Refuted, Spent, Again, Memory}
use Rattle.asp_solver.specs.Answers.{IsRefutedOrMemory, IsRefutedSpentOrMemory}
use Rattle.asp_solver.specs.Turns.{ShowsEnd}

pub turn_at_once : (e : Engine) (ending : Ending) (turn : Turn) → ShowsEnd e ending turn → engine.IsRefutedOrMemory ending → IsRefutedOrMemory turn
turn_at_once e ending (Found x) is h = subst engine.IsRefutedOrMemory is.0 h
turn_at_once e ending (Refuted k) is h = tt
turn_at_once e ending Spent is h = subst engine.IsRefutedOrMemory is h
turn_at_once e ending Again is h = subst engine.IsRefutedOrMemory is h
turn_at_once e ending Memory is h = tt

pub turn_spent : (e : Engine) (ending : Ending) (turn : Turn) → ShowsEnd e ending turn → engine.IsRefutedSpentOrMemory ending → IsRefutedSpentOrMemory turn
turn_spent e ending (Found x) is h = subst engine.IsRefutedSpentOrMemory is.0 h
turn_spent e ending (Refuted k) is h = tt
turn_spent e ending Spent is h = tt
turn_spent e ending Again is h = subst engine.IsRefutedSpentOrMemory is h
turn_spent e ending Memory is h = tt

pub not_again : (e : Engine) (ending : Ending) (turn : Turn) → ShowsEnd e ending turn → (ending ≡ end.Again → ⊥) → turn ≡ Again → ⊥
not_again e ending turn is other same = other (subst (ShowsEnd e ending) same is)
