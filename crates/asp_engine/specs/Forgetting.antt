-- What may be erased, and what forgetting does to an engine.
use Rattle.std.specs.Prelude.{◌≡◌, ℕ, ◌≤◌, Bool, false, List, length, Some, None}
use Rattle.theory_form.specs.declared.literals.Lit.{Lit}
use Rattle.theory_form.specs.Theories.{clause_of}
use Rattle.asp_store.specs.Store.{IsReasonOfSome, clause_at}
use Rattle.proof_log.specs.States.{StateView}
use Rattle.search_law.specs.Counts.{HasAll}
use Rattle.asp_engine.specs.declared.engine.Engine.{Engine}
use Rattle.asp_engine.specs.Keys.{IsIn, number_of}
use Rattle.asp_engine.specs.Moves.{Forgets}

-- The clause of this key and number may be erased: it is not of the theory, has two literals, is not held, and is no reason.
pub record MayErase (e : Engine) (held : ℕ → Bool) (key number : ℕ) : Type 0 where
  pub clause : List Lit
  pub stored : clause_at e.parts.store.clauses key ≡ Some clause
  pub two : 2 ≤ length clause
  pub number_is : number ≡ number_of e.parts.numbers.items key
  pub added : clause_of e.theory number ≡ None
  pub free : held number ≡ false
  pub no_reason : IsReasonOfSome e.parts.store.entries key → ⊥

-- clauses were erased, or none was
pub record Forgot (held : ℕ → Bool) (ended : Bool) (old new : Engine) : Type 0 where
  pub fewer : HasAll new.parts.store.clauses old.parts.store.clauses
  pub entries : new.parts.store.entries ≡ old.parts.store.entries
  pub places : new.parts.store.places ≡ old.parts.store.places
  pub variables : new.theory.variables ≡ old.theory.variables
  pub eager : new.parts.eager ≡ old.parts.eager
  pub erased : (v : StateView) → IsIn old v → Forgets held ended old new v
