-- What is true of the two watched places of each clause, and of the watchers of each literal. No public clause speaks of it.
use Rattle.std.specs.Prelude.{◌≡◌, ◌≢◌, ℕ, ◌+◌, ◌-◌, ◌*◌, ◌<◌, ◌≤◌, ◌⊎◌, Bool, true, false, ◌||◌, List, [], ◌∷◌, length, drop, map, Option, Some, None, option_map, slice_get, slice_index_or, slice_set, if◌then◌else◌}
use Rattle.std.specs.List.{Contains}
use Rattle.theory_form.specs.declared.literals.Lit.{Lit}
use Rattle.theory_form.specs.Order.{lit_eq}
use Rattle.theory_form.specs.Truth.{TrueAt, FalseAt, FreeAt, IsUnitAt, IsTrueIn, IsFalseIn, IsFalseClause}
use Rattle.asp_trail.specs.declared.Entry.{Entry}
use Rattle.asp_trail.specs.Trail.{values_of, level_of, back}
use Rattle.asp_store.specs.Store.{IsStore, IsConflict, IsNegated, IsReason, Grew}
use Rattle.asp_trail.specs.declared.Why.TheVariants.{Clause}
use Rattle.asp_store.specs.declared.choices.Kept.{Kept}
use Rattle.asp_store.specs.declared.visits.Mark.{Mark}
use Rattle.asp_store.specs.declared.watches.Watcher.{Watcher}
use Rattle.asp_store.specs.declared.choices.Choice.{Choice}
use Rattle.asp_store.specs.declared.choices.Choice.TheVariants.{Stay, Watch, Assign, Clash}

-- the clause of a number, with its watched places
abbrev pub kept_at : List (Option Kept) → ℕ → Option Kept
kept_at slots id = slice_index_or slots id None

-- the clauses alone
abbrev pub clauses_of : List (Option Kept) → List (Option (List Lit))
clauses_of slots = map (option_map (λ k. k.clause)) slots

-- the watchers of a literal stand at this place
abbrev pub code : Lit → ℕ
code l = 2 * l.var.0 + (if l.yes then 1 else 0)

abbrev pub list_at : List (List Watcher) → ℕ → List Watcher
list_at lists c = slice_index_or lists c []

-- at this place stands the key, with a literal of the clause
pub record WatchesAt (xs : List Watcher) (i id : ℕ) (c : List Lit) : Type 0 where
  pub within : i < length xs
  pub key : (d : Watcher) → (slice_index_or xs i d).key ≡ id
  pub blocker : (d : Watcher) → Contains c (slice_index_or xs i d).blocker

-- the key stands in the list, with a literal of the clause
abbrev pub HasWatcher : List Watcher → ℕ → List Lit → Type 0
HasWatcher xs id c = (i : ℕ) × WatchesAt xs i id c

-- the number stands in the list at this place or later
abbrev pub InFrom : List ℕ → ℕ → ℕ → Type 0
InFrom xs from id = (i : ℕ) × (from ≤ i) × (i < length xs) × (slice_index_or xs i 0 ≡ id)

-- the first entries that were made, so many of them
abbrev pub older : ℕ → List Entry → List Entry
older h es = drop (length es - h) es

-- a literal of the clause is true
abbrev pub HasTrue : List (Option Bool) → List Lit → Type 0
HasTrue a c = (i : ℕ) × TrueAt a c i

-- Where a watched literal is false under p, which has what was looked at, some literal of the clause is true under t.
pub record WatchOk (p t : List (Option Bool)) (k : Kept) : Type 0 where
  pub within_first : k.first < length k.clause
  pub within_second : k.second < length k.clause
  pub apart : (k.first ≢ k.second) ⊎ HasTrue t k.clause
  pub first : FalseAt p k.clause k.first → HasTrue t k.clause
  pub second : FalseAt p k.clause k.second → HasTrue t k.clause

-- the clause stands in the lists of both watched literals
pub record Listed (lists : List (List Watcher)) (id : ℕ) (k : Kept) : Type 0 where
  pub first : (d : Lit) → k.first < length k.clause → HasWatcher (list_at lists (code (slice_index_or k.clause k.first d))) id k.clause
  pub second : (d : Lit) → k.second < length k.clause → HasWatcher (list_at lists (code (slice_index_or k.clause k.second d))) id k.clause

-- the watched places are places, where the clause has any
abbrev pub IsPlaced : Kept → Type 0
IsPlaced k = 0 < length k.clause → (k.first < length k.clause) × (k.second < length k.clause)

-- every clause stands in its lists
abbrev pub AllListed : List (Option Kept) → List (List Watcher) → Type 0
AllListed slots lists = (id : ℕ) (k : Kept) → kept_at slots id ≡ Some k → IsPlaced k × Listed lists id k

-- each clause is still to be looked at, or is watched well
abbrev pub Guard : List (Option Kept) → List ℕ → ℕ → List Entry → Mark → Type 0
Guard slots pending n es m =
    (id : ℕ) (k : Kept) → kept_at slots id ≡ Some k →
    InFrom pending m.done id ⊎ WatchOk (values_of n (older m.head es)) (values_of n es) k

-- a level of the store: its entries, and how far it was looked at
pub record LevelOk (slots : List (Option Kept)) (pending : List ℕ) (n : ℕ) (es : List Entry) (m : Mark) : Type 0 where
  pub guard : Guard slots pending n es m
  pub head_in : m.head ≤ length es
  pub done_in : m.done ≤ length pending

-- the levels below the top one are well, and none was looked at further than the top one
pub record LowerOk (slots : List (Option Kept)) (pending : List ℕ) (n : ℕ) (es : List Entry) (marks : List Mark) (done : ℕ) : Type 0 where
  pub levels : length marks ≡ level_of es
  pub lower : (i : ℕ) (d : Mark) → i < length marks → LevelOk slots pending n (back i es) (slice_index_or marks i d)
  pub order : (i : ℕ) (d : Mark) → i < length marks → (slice_index_or marks i d).done ≤ done
  pub rising : (i j : ℕ) (d : Mark) → i < j → j < length marks → (slice_index_or marks i d).done ≤ (slice_index_or marks j d).done

-- every level is well, the top one with the mark `top`
pub record IsWatched (slots : List (Option Kept)) (lists : List (List Watcher)) (pending : List ℕ) (n : ℕ) (es : List Entry) (marks : List Mark) (top : Mark) : Type 0 where
  pub now : LevelOk slots pending n es top
  pub below : LowerOk slots pending n es marks top.done
  pub listed : AllListed slots lists

-- what is false under p is false now, and what is true under t is true now
pub record IsBelow (p t now : List (Option Bool)) : Type 0 where
  pub falses : (l : Lit) → IsFalseIn p l → IsFalseIn now l
  pub trues : (l : Lit) → IsTrueIn t l → IsTrueIn now l

-- new places are as good as the old ones wherever less was assigned
abbrev pub AsGood : List (Option Bool) → Kept → Kept → Type 0
AsGood now k k' = (p t : List (Option Bool)) → IsBelow p t now → WatchOk p t k → WatchOk p t k'

-- each of two places is watched already or has no value
abbrev pub AreFreeOrSame : List (Option Bool) → Kept → ℕ → ℕ → Type 0
AreFreeOrSame a k i j = ((i ≡ k.first) ⊎ FreeAt a k.clause i) × ((j ≡ k.second) ⊎ FreeAt a k.clause j)

-- what to do with a clause
abbrev pub ChoiceOk : List (Option Bool) → Kept → Choice → Type 0
ChoiceOk a k (Stay at) = WatchOk a a k × (at < length k.clause)
ChoiceOk a k (Watch i j) = WatchOk a a (record k { first = i; second = j }) × AsGood a k (record k { first = i; second = j }) × AreFreeOrSame a k i j
ChoiceOk a k (Assign at i j) = IsUnitAt a k.clause at × ((i ≡ at) ⊎ (j ≡ at)) × (i < length k.clause) × (j < length k.clause) × AsGood a k (record k { first = i; second = j }) × AreFreeOrSame a k i j
ChoiceOk a k Clash = IsFalseClause a k.clause

-- lists that have all watchers that they had
pub record Grows (lists lists' : List (List Watcher)) : Type 0 where
  pub len : length lists' ≡ length lists
  pub kept : (x id : ℕ) (c : List Lit) → HasWatcher (list_at lists x) id c → HasWatcher (list_at lists' x) id c

-- the watchers of false literals are the same
abbrev pub AreStable : List (Option Bool) → List (List Watcher) → List (List Watcher) → Type 0
AreStable a lists lists' = (l : Lit) → IsFalseIn a l → list_at lists' (code l) ≡ list_at lists (code l)

-- more lists, of which the new ones are empty
pub record IsLonger (lists lists' : List (List Watcher)) : Type 0 where
  pub len : length lists ≤ length lists'
  pub same : (c : ℕ) → list_at lists' c ≡ list_at lists c

-- the literal stands at this place of the clause
abbrev pub is_lit : Option Lit → Lit → Bool
is_lit None l = false
is_lit (Some x) l = lit_eq x l

-- the clause watches the literal
abbrev pub watches_lit : Option Kept → Lit → Bool
watches_lit None l = false
watches_lit (Some k) l = is_lit (slice_get k.clause k.first) l || is_lit (slice_get k.clause k.second) l

-- the clause of this key watches the literal
abbrev pub is_watcher : List (Option Kept) → Lit → ℕ → Bool
is_watcher slots l id = watches_lit (kept_at slots id) l

-- two places of a clause, the lists of whose literals are among so many
pub record IsPlacesIn (k : Kept) (i j n : ℕ) : Type 0 where
  pub first_in : i < length k.clause
  pub second_in : j < length k.clause
  pub first_code : (d : Lit) → code (slice_index_or k.clause i d) < n
  pub second_code : (d : Lit) → code (slice_index_or k.clause j d) < n

-- the places of one clause changed
pub record Rewatched (slots slots' : List (Option Kept)) (lists lists' : List (List Watcher)) (id : ℕ) (k k' : Kept) : Type 0 where
  pub was : kept_at slots id ≡ Some k
  pub is_now : kept_at slots' id ≡ Some k'
  pub others : (j : ℕ) → j ≢ id → kept_at slots' j ≡ kept_at slots j
  pub grows : Grows lists lists'
  pub placed : IsPlaced k'
  pub listed : Listed lists' id k'
  pub same_clauses : clauses_of slots' ≡ clauses_of slots

-- an entry that a clause implies, if there is one more
abbrev pub GrewByOne : List (Option Kept) → ℕ → ℕ → List Entry → List Entry → Type 0
GrewByOne slots n id es es' =
    (es' ≡ es)
    ⊎ ((e : Entry) × (es' ≡ e ∷ es) × (e.why ≡ Clause (record { 0 = id })) × IsReason (clauses_of slots) (values_of n es) e.lit id)

-- a clause was looked at, and is watched well under all that is assigned
pub record Examined (slots slots' : List (Option Kept)) (lists lists' : List (List Watcher)) (n : ℕ) (es es' : List Entry) (id : ℕ) : Type 0 where
  pub before : Kept
  pub after : Kept
  pub changed : Rewatched slots slots' lists lists' id before after
  pub good : AsGood (values_of n es) before after
  pub grew : GrewByOne slots n id es es'
  pub done : WatchOk (values_of n es') (values_of n es') after

-- there is no clause of the number, or it was looked at
abbrev pub ExaminedIfThere : List (Option Kept) → List (Option Kept) → List (List Watcher) → List (List Watcher) → ℕ → List Entry → List Entry → ℕ → Type 0
ExaminedIfThere slots slots' lists lists' n es es' id =
    ((kept_at slots id ≡ None) × (slots' ≡ slots) × (lists' ≡ lists) × (es' ≡ es))
    ⊎ Examined slots slots' lists lists' n es es' id

-- what a look at the clause of a number came to: it is false, or is watched well, and this is one of its literals
abbrev pub ShowsLook : List (Option Kept) → List (Option Kept) → List (List Watcher) → List (List Watcher) → ℕ → List Entry → List Entry → ℕ → Option Lit → Type 0
ShowsLook slots slots' lists lists' n es es' id None = IsConflict (clauses_of slots) (values_of n es) id × (slots' ≡ slots) × (es' ≡ es)
ShowsLook slots slots' lists lists' n es es' id (Some blocker) =
    ExaminedIfThere slots slots' lists lists' n es es' id
    × ((k : Kept) → kept_at slots' id ≡ Some k → Contains k.clause blocker)

-- looks at clauses moved watched places and made the trail grow
pub record Moved (slots slots' : List (Option Kept)) (lists lists' : List (List Watcher)) (n : ℕ) (es es' : List Entry) : Type 0 where
  pub same_clauses : clauses_of slots' ≡ clauses_of slots
  pub listed : AllListed slots' lists'
  pub len : length lists' ≡ length lists
  pub store : IsStore (clauses_of slots') es' n
  pub grew : Grew (clauses_of slots) n es es'

-- every clause is watched well
abbrev pub AllWatched : List (Option Kept) → List (Option Bool) → List (Option Bool) → Type 0
AllWatched slots p t = (id : ℕ) (k : Kept) → kept_at slots id ≡ Some k → WatchOk p t k

-- what is false under p' and not under p is this literal, and it is false now
pub record IsNext (p p' t : List (Option Bool)) (l : Lit) : Type 0 where
  pub next : (x : Lit) → IsFalseIn p' x → IsFalseIn p x ⊎ (x ≡ l)
  pub below : (x : Lit) → IsFalseIn p' x → IsFalseIn t x

-- each clause is watched well under p', or stands in the part of the list that was not visited
pub record IsVisited (slots : List (Option Kept)) (list : List Watcher) (p p' t : List (Option Bool)) (from : ℕ) : Type 0 where
  pub guard : (id : ℕ) (k : Kept) → kept_at slots id ≡ Some k → WatchOk p' t k ⊎ (WatchOk p t k × (i : ℕ) × (from ≤ i) × WatchesAt list i id k.clause)
  pub below : (x : Lit) → IsFalseIn p' x → IsFalseIn t x

-- the watcher at a place was taken out, and the last one stands there
pub record IsTakenOut (xs xs' : List Watcher) (i : ℕ) : Type 0 where
  pub len : length xs' + 1 ≡ length xs
  pub last : (d : Watcher) → i + 1 < length xs → slice_index_or xs' i d ≡ slice_index_or xs (length xs - 1) d
  pub others : (m : ℕ) (d : Watcher) → m ≢ i → m + 1 < length xs → slice_index_or xs' m d ≡ slice_index_or xs m d

-- The watcher at a place of this list was replaced, where its clause watches the literal, or taken out. The visit goes on
-- at the place `next`.
pub record IsPassed (watches : Bool) (lists lists' : List (List Watcher)) (x i next : ℕ) (w : Watcher) : Type 0 where
  pub one_list : lists' ≡ slice_set lists x (list_at lists' x)
  pub others : (m id : ℕ) (c : List Lit) → m ≢ i → WatchesAt (list_at lists x) m id c → (m' : ℕ) × (i ≤ m → next ≤ m') × WatchesAt (list_at lists' x) m' id c
  pub here : watches ≡ true → (c : List Lit) → Contains c w.blocker → HasWatcher (list_at lists' x) w.key c
  pub nearer : length (list_at lists' x) - next < length (list_at lists x) - i

-- a clause stands under this key, and each of its literals is the opposite of an assumption
abbrev pub IsRefutingAt : List (Option Kept) → List Lit → ℕ → Type 0
IsRefutingAt slots assume id = (k : Kept) × (kept_at slots id ≡ Some k) × IsNegated assume k.clause

-- the keys of the empty clauses are in the list
abbrev pub AreEmptiesIn : List (Option Kept) → List ℕ → Type 0
AreEmptiesIn slots empties = (id : ℕ) (k : Kept) → kept_at slots id ≡ Some k → length k.clause ≡ 0 → InFrom empties 0 id

-- what is true of every store
pub record IsWatchStore (slots : List (Option Kept)) (lists : List (List Watcher)) (empties pending : List ℕ) (n : ℕ) (es : List Entry) (marks : List Mark) (top : Mark) (marks_room : ℕ) : Type 0 where
  pub store : IsStore (clauses_of slots) es n
  pub watched : IsWatched slots lists pending n es marks top
  pub room : 2 * n ≤ length lists
  pub levels_fit : n ≤ marks_room
  pub empties_in : AreEmptiesIn slots empties

-- a new clause with its watched places, under a number that had none
pub record IsInserted (slots slots' : List (Option Kept)) (lists' : List (List Watcher)) (id : ℕ) (c : List Lit) : Type 0 where
  pub fresh : kept_at slots id ≡ None
  pub kept : Kept
  pub is_now : kept_at slots' id ≡ Some kept
  pub others : (j : ℕ) → j ≢ id → kept_at slots' j ≡ kept_at slots j
  pub placed : IsPlaced kept
  pub listed : Listed lists' id kept
  pub clause : kept.clause ≡ c

-- Of the keys that wait none was left, where all clauses were looked at and no level is open; else nothing changed.
pub record IsDropped (pending : List ℕ) (top : Mark) (level : ℕ) (pending' : List ℕ) (top' : Mark) : Type 0 where
  pub level_is : level ≡ 0
  pub all_done : top.done ≡ length pending
  pub none_left : pending' ≡ []
  pub mark_is : top' ≡ record { head = top.head; done = 0 }

abbrev pub IsDroppedOrSame : List ℕ → Mark → ℕ → List ℕ → Mark → Type 0
IsDroppedOrSame pending top level pending' top' =
    ((pending' ≡ pending) × (top' ≡ top)) ⊎ IsDropped pending top level pending' top'
