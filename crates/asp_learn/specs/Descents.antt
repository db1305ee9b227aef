-- The way down from false literals to the decisions that they come from, along the reasons of implied variables.
use Rattle.std.specs.Prelude.{◌≡◌, ℕ, suc, ◌<◌, ◌≤◌, ◌⊎◌, ◌++◌, Bool, true, false, List, [], ◌∷◌, length, Option, Some, None, slice_index_or, Any}
use Rattle.std.specs.List.{All}
use Rattle.theory_form.specs.declared.literals.Lit.{Lit}
use Rattle.theory_form.specs.declared.literals.ClauseId.{ClauseId}
use Rattle.theory_form.specs.Hints.{Follows}
use Rattle.theory_form.specs.Truth.{value_of, IsFalseIn}
use Rattle.asp_trail.specs.declared.Why.{Why}
use Rattle.asp_trail.specs.declared.Why.TheVariants.{Decision, Clause}
use Rattle.asp_trail.specs.Trail.{why_in, IsTrail}
use Rattle.asp_store.specs.Store.{State, assigned, clause_at, IsStore}
use Rattle.asp_learn.specs.declared.descents.Descent.{Descent}
use Rattle.asp_learn.specs.declared.descents.Frame.{Frame}
use Rattle.asp_learn.specs.Blames.{IsImplied}
use Rattle.asp_learn.specs.Conflicts.{before, Implies, Mentions}
use Rattle.asp_learn.specs.Marked.{has}

-- how many entries stand before that of a variable
abbrev pub rank : State → ℕ → ℕ
rank s v = length (before s.entries v)

-- a false literal whose opposite was decided
pub record IsDecided (s : State) (l : Lit) : Type 0 where
  pub is_false : IsFalseIn (assigned s) l
  pub level : ℕ
  pub why : why_in s.entries l.var.0 ≡ Some (Decision, level)

-- the reason of the variable was taken, or a literal of it was kept
abbrev pub IsReached : (ℕ → Bool) → List Lit → ℕ → Type 0
IsReached done lits v = (done v ≡ true) ⊎ Any (λ l. l.var.0 ≡ v) lits

-- After the hints each variable that is done has its value, wherever it had none before and the kept literals are false:
-- what follows from there by more hints follows by all of them.
abbrev pub Brings : State → (ℕ → Bool) → List Lit → List ClauseId → Type 0
Brings s done lits hints =
    (a : List (Option Bool)) (rest : List ClauseId) → length a ≡ s.places → ((v : ℕ) → done v ≡ true → value_of a v ≡ None) → All (IsFalseIn a) lits → ((b : List (Option Bool)) → length b ≡ s.places → ((v : ℕ) → done v ≡ true → value_of b v ≡ value_of (assigned s) v) → ((v : ℕ) → done v ≡ false → value_of b v ≡ value_of a v) → Follows (clause_at s.clauses) b rest) → Follows (clause_at s.clauses) a (hints ++ rest)

-- an implied variable that is not done, and its reason, of which the literals before the place were met
pub record IsFrame (s : State) (seen done : ℕ → Bool) (f : Frame) : Type 0 where
  pub level : ℕ
  pub why : why_in s.entries f.var.0 ≡ Some (Clause f.id, level)
  pub met : seen f.var.0 ≡ true
  pub waits : done f.var.0 ≡ false
  pub clause : List Lit
  pub stored : clause_at s.clauses f.id.0 ≡ Some clause
  pub front : (k : ℕ) (d : Lit) → k < f.place → k < length clause → seen (slice_index_or clause k d).var.0 ≡ true

-- frames, the innermost first: each is of an older variable than the next one
abbrev pub IsPath : State → (ℕ → Bool) → (ℕ → Bool) → ℕ → List Frame → Type 0
IsPath s seen done least [] = Unit {0}
IsPath s seen done least (f ∷ outer) = IsFrame s seen done f × (least ≤ rank s f.var.0) × IsPath s seen done (suc (rank s f.var.0)) outer

-- a frame of the path is of the variable
abbrev pub OnPath : List Frame → ℕ → Type 0
OnPath [] v = ⊥
OnPath (f ∷ outer) v = (f.var.0 ≡ v) ⊎ OnPath outer v

-- What is true on the way.
pub record Descended (s : State) (seen : ℕ → Bool) (path : List Frame) (lits : List Lit) (hints : List ClauseId) : Type 0 where
  pub trail : IsTrail s.places s.entries
  pub store : IsStore s.clauses s.entries s.places
  pub done : ℕ → Bool
  pub done_met : (v : ℕ) → done v ≡ true → seen v ≡ true
  pub implied : (v : ℕ) → done v ≡ true → IsImplied s.entries v
  pub reached : (v : ℕ) → seen v ≡ true → IsReached done lits v ⊎ OnPath path v
  pub on_path : IsPath s seen done 0 path
  pub decided : All (IsDecided s) lits
  pub lits_met : All (λ l. seen l.var.0 ≡ true) lits
  pub brings : Brings s done lits hints

-- the same of a descent and a path
abbrev pub IsDescended : State → List Frame → Descent → Type 0
IsDescended s path d = Descended s (has d.seen.items) path d.lits.items d.hints.items

-- the same where no way is open
pub record IsAtRest (s : State) (d : Descent) : Type 0 where
  pub none : d.path.items ≡ []
  pub descended : IsDescended s [] d

-- what entered a variable for this reason did
abbrev pub IsEnteredFor : Why → Lit → Descent → Descent → Type 0
IsEnteredFor Decision l old new = (new.path.items ≡ old.path.items) × (new.lits.items ≡ old.lits.items ++ l ∷ [])
IsEnteredFor (Clause id) l old new = (new.path.items ≡ old.path.items ++ record { var = l.var; id = id; place = 0 } ∷ []) × (new.lits.items ≡ old.lits.items)

pub record IsEntered (s : State) (l : Lit) (old new : Descent) : Type 0 where
  pub why : Why
  pub level : ℕ
  pub why_is : why_in s.entries l.var.0 ≡ Some (why, level)
  pub entered : IsEnteredFor why l old new
  pub seen : new.seen.items ≡ old.seen.items ++ l.var ∷ []
  pub hints : new.hints.items ≡ old.hints.items

-- what a variable of the set comes from is in the set
abbrev pub IsClosed : State → (ℕ → Bool) → Type 0
IsClosed s set = (v w : ℕ) → Implies s v w → set w ≡ true → set v ≡ true

-- what was met, and what stands in the clauses of the hints, is in the set
pub record Within (s : State) (set : ℕ → Bool) (seen : ℕ → Bool) (hints : List ClauseId) : Type 0 where
  pub met : (v : ℕ) → seen v ≡ true → set v ≡ true
  pub named : All (λ id. (v : ℕ) → Mentions s id.0 v → set v ≡ true) hints

-- what a call met more is in each closed set that has these literals' variables
abbrev pub StaysWithin : State → List Lit → Descent → Descent → Type 0
StaysWithin s lits old new =
    (set : ℕ → Bool) → IsClosed s set → All (λ l. set l.var.0 ≡ true) lits → Within s set (has old.seen.items) old.hints.items → Within s set (has new.seen.items) new.hints.items

-- Where false literals come from: the hints give each implied variable on the way its value, once the decisions are there.
pub record Explained (s : State) (starts lits : List Lit) (hints : List ClauseId) : Type 0 where
  pub done : ℕ → Bool
  pub implied : (v : ℕ) → done v ≡ true → IsImplied s.entries v
  pub decided : All (IsDecided s) lits
  pub reached : All (λ l. IsReached done lits l.var.0) starts
  pub brings : Brings s done lits hints
  pub within : (set : ℕ → Bool) → IsClosed s set → All (λ l. set l.var.0 ≡ true) starts → ((v : ℕ) → done v ≡ true → set v ≡ true) × All (λ l. set l.var.0 ≡ true) lits × All (λ id. (v : ℕ) → Mentions s id.0 v → set v ≡ true) hints
