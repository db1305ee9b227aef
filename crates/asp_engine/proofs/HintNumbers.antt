-- What follows under keys follows under numbers.
use Rattle.std.proofs.Common.{◌≡◌, ℕ, zero, suc, ◌+◌, ◌<◌, ◌≤◌, inl, inr, List, [], ◌∷◌, length, map, Option, Some, None, get_or, refl, ap, sym, ◌∙◌, subst, arith}
use Rattle.std.specs.Option.{IsSome}
use Rattle.std.specs.List.{All}
use Rattle.std.proofs.lemmas.Bool.{cases_lt}
use Rattle.std.proofs.lemmas.List.Elements.{All-contains}
use Rattle.theory_form.specs.declared.literals.Lit.{Lit}
use Rattle.theory_form.specs.declared.literals.ClauseId.{ClauseId}
use Rattle.theory_form.specs.Hints.{Follows, FollowsByHints, made_true, all_false}
use Rattle.theory_form.specs.Literals.{opposite}
use Rattle.theory_model.specs.Whole.{AreOver}
use Rattle.asp_trail.specs.declared.Entry.{Entry}
use Rattle.asp_store.specs.Store.{State, Adds, clause_at}
use Rattle.asp_learn.specs.Conflicts.{IsFromHint}
use Rattle.proof_log.specs.declared.steps.Step.TheVariants.{Learn}
use Rattle.proof_log.specs.Logs.{IsNegated, IsNew}
use Rattle.proof_log.specs.States.{StateView, clause_in}
use Rattle.proof_log.specs.Valid.{AreClauses}
use Rattle.asp_engine.specs.declared.engine.Engine.{Engine}
use Rattle.asp_engine.specs.Keys.{IsEngine, IsIn, number_of}
use Rattle.asp_engine.specs.Lates.{Brings}
use Rattle.asp_engine.specs.Search.{AreAssumptions, Stands}

abbrev Look : Type 0
Look = ℕ → Option (List Lit)

abbrev pub as_numbers : List ClauseId → List ClauseId → List ClauseId
as_numbers numbers keys = map (λ (k : ClauseId). get_or numbers k.0 (record { 0 = 0 })) keys

pub follows_numbers : (first second : Look) (numbers : List ClauseId) → ((k : ℕ) (c : List Lit) → first k ≡ Some c → second (number_of numbers k) ≡ Some c) → (a : List (Option _)) (keys : List ClauseId) → Follows first a keys → Follows second a (as_numbers numbers keys)
follows_numbers first second numbers m a [] h = absurd h
follows_numbers first second numbers m a (id ∷ []) h = (h.0, m id.0 h.0 h.1, h.2)
follows_numbers first second numbers m a (id ∷ (x ∷ rest)) h =
    (h.0, m id.0 h.0 h.1, (h.2.0, h.2.1, follows_numbers first second numbers m (made_true a h.2.0) (x ∷ rest) h.2.2))

some_at : (o : Option (List Lit)) (c : List Lit) → o ≡ Some c → IsSome o
some_at o c e = subst (λ (x : Option (List Lit)). IsSome x) (sym e) refl

pub follows_some : (look : Look) (a : List (Option _)) (hints : List ClauseId) → Follows look a hints → All (λ h. IsSome (look h.0)) hints
follows_some look a [] h k d w = absurd (omega arith)
follows_some look a (id ∷ []) h zero d w = some_at (look id.0) h.0 h.1
follows_some look a (id ∷ []) h (suc k) d w = absurd (omega arith)
follows_some look a (id ∷ (x ∷ rest)) h zero d w = some_at (look id.0) h.0 h.1
follows_some look a (id ∷ (x ∷ rest)) h (suc k) d w = follows_some look (made_true a h.2.0) (x ∷ rest) h.2.2 k d (omega arith)

number_above : (v : StateView) (id : ℕ) → IsSome (clause_in v id) → 0 < id
number_above v zero h = absurd cc
number_above v (suc id) h = omega arith

pub hints_above : (v : StateView) (hints : List ClauseId) → All (λ h. IsSome (clause_in v h.0)) hints → All (λ h. 0 < h.0) hints
hints_above v hints h k d w = number_above v (get_or hints k d).0 (h k d w)

module _ (e : Engine) (v : StateView) (h : IsIn e v) (c : List Lit) (keys : List ClauseId) (follows : FollowsByHints (clause_at e.parts.store.clauses) e.parts.store.places c keys) where
  hints_follow : FollowsByHints (clause_in v) (length v.theory.variables + 1) c (as_numbers e.parts.numbers.items keys)
  hints_follow = subst (λ n. FollowsByHints (clause_in v) n c (as_numbers e.parts.numbers.items keys)) (h.places ∙ ap (λ xs. length xs + 1) (sym h.taken.theory.variables))
      (follows_numbers (clause_at e.parts.store.clauses) (clause_in v) e.parts.numbers.items h.taken.keys (all_false e.parts.store.places c) keys follows)

  hints_there : AreClauses (clause_in v) (as_numbers e.parts.numbers.items keys)
  hints_there = follows_some (clause_in v) (all_false (length v.theory.variables + 1) c) (as_numbers e.parts.numbers.items keys) hints_follow

  pub learn_brings : IsNew (clause_at e.parts.store.clauses) c → Brings v (Learn c (as_numbers e.parts.numbers.items keys)) c
  learn_brings fresh = record {
    valid = (hints_there, (hints_follow, tt));
    after = refl;
    is_new = λ id d at part.
        let le : id ≤ length e.theory.clauses = elim (cases_lt (length v.theory.clauses) id) [
          | inl beyond ↦ absurd (let z : Some d ≡ None = sym at ∙ h.taken.beyond id beyond in cc)
          | inr inside ↦ let count = ap length h.taken.theory.clauses in omega (arith, inside, count)
        ] in
        let x = h.taken.all id d le at in fresh x.0 d x.1 part;
  }

  pub learn_hints_above : All (λ h. 0 < h.0) (as_numbers e.parts.numbers.items keys)
  learn_hints_above = hints_above v (as_numbers e.parts.numbers.items keys) hints_there

-- a stored clause is over the variables
pub stored_over : (e : Engine) (v : StateView) (k : ℕ) (c : List Lit) → IsIn e v → clause_at e.parts.store.clauses k ≡ Some c → AreOver (length e.theory.variables) c
stored_over e v k c h at = h.taken.over (number_of e.parts.numbers.items k) c (h.taken.keys k c at)

-- the literals of a learned clause stand in kept ones
pub sources_over : (e : Engine) (hints : List ClauseId) (c : List Lit) → IsEngine e → All (IsFromHint e.parts.store hints) c → AreOver (length e.theory.variables) c
sources_over e hints c engine sources k d w =
    let x = (sources k d w).4 in
    All-contains (λ (l : Lit). (0 < l.var.0) × (l.var.0 ≤ length e.theory.variables)) x.0 (get_or c k d) (stored_over e engine.0 (sources k d w).1.0 x.0 engine.1 x.1) x.2

-- a clause of opposites of assumptions
pub negated_over : (n : ℕ) (assume c : List Lit) → AreAssumptions n assume → IsNegated assume c → AreOver n c
negated_over n assume c a neg k d w = All-contains (λ (l : Lit). (0 < l.var.0) × (l.var.0 ≤ n)) assume (opposite (get_or c k d)) a.over (neg k d w)

-- ---- a store that went back, and kept a clause

pub kept_state : (old mid new : State) (es : List Entry) → mid ≡ record old { entries = es } → new ≡ record mid { clauses = new.clauses; next_key = new.next_key } → new ≡ record { clauses = new.clauses; entries = es; places = old.places; next_key = new.next_key }
kept_state old mid new es first second = second ∙ ap (λ (x : State). record { clauses = new.clauses; entries = x.entries; places = x.places; next_key = new.next_key }) first

pub stands_kept : (old mid new : State) (assume : List Lit) (es : List Entry) → mid ≡ record old { entries = es } → new ≡ record mid { clauses = new.clauses; next_key = new.next_key } → Stands new.clauses old.places assume es → Stands new.clauses new.places assume new.entries
stands_kept old mid new assume es first second h =
    subst (λ (x : State). Stands new.clauses x.places assume x.entries) (sym (kept_state old mid new es first second)) h

pub adds_back : (old mid new : State) (es : List Entry) (key : ℕ) (c : List Lit) → mid ≡ record old { entries = es } → Adds mid.clauses new.clauses key c → Adds old.clauses new.clauses key c
adds_back old mid new es key c first adds = subst (λ cs. Adds cs new.clauses key c) (ap (λ (x : State). x.clauses) first) adds
