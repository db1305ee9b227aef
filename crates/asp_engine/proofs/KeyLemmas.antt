-- How the parts of an engine stay together.
use Rattle.std.proofs.Common.{◌≡◌, ℕ, zero, suc, ◌+◌, ◌-◌, ◌<◌, ◌≤◌, ◌≢◌, inl, inr, ◌++◌, List, [], ◌∷◌, length, Option, Some, None, get_or, set, replicate, refl, ap, sym, ◌∙◌, subst, arith, length-append}
use Rattle.std.specs.Prelude.{slice_get}
use Rattle.std.specs.Option.{option_and_then, IfSome}
use Rattle.std.specs.List.{All}
use Rattle.std.proofs.lemmas.Bool.{cases_eq}
use Rattle.std.proofs.lemmas.List.{get_or-set_same, get_or-set_other}
use Rattle.std.proofs.Math.ListN.{length-replicate}
use Rattle.theory_form.specs.declared.literals.Lit.{Lit}
use Rattle.theory_form.specs.declared.literals.ClauseId.{ClauseId}
use Rattle.theory_form.specs.Numbers.{grown}
use Rattle.theory_form.specs.Theories.{TheoryView, clause_of}
use Rattle.theory_model.specs.Whole.{AreOver, IsWhole}
use Rattle.asp_trail.specs.declared.Entry.{Entry}
use Rattle.asp_learn.specs.Conflicts.{AreClear}
use Rattle.asp_store.specs.Store.{State, Adds, IsWithin, Removes, clause_at, places_of}
use Rattle.proof_log.specs.declared.steps.Step.{Step}
use Rattle.proof_log.specs.Logs.{IsLog}
use Rattle.proof_log.specs.States.{StateView, clause_in, either, entry_of, put, taken, with_clause, without_clause}
use Rattle.asp_engine.specs.declared.engine.Engine.{Engine}
use Rattle.asp_engine.specs.Keys.{AreUnmarked, HasTaken, IsIn, IsSameTheory, number_of}

abbrev pub Slots : Type 0
Slots = List (Option (List Lit))

abbrev no_clause : Option (List Lit)
no_clause = None

-- ---- places

pub over_places : (n : ℕ) (c : List Lit) → AreOver n c → places_of c ≤ n + 1
over_places n [] h = omega arith
over_places n (l ∷ c) h =
    let a = (h 0 l (omega arith)).1 in
    let b = over_places n c (λ k d w. h (suc k) d (omega arith)) in
    omega (arith, a, b)

pub over_within : (n : ℕ) (c : List Lit) → AreOver n c → IsWithin (n + 1) c
over_within n c h k d w = let x = (h k d w).1 in omega (arith, x)

-- ---- the clauses of a state by number

pub joined : (xs : Slots) (k : ℕ) → option_and_then (λ (s : Option (List Lit)). s) (slice_get xs k) ≡ get_or xs k None
joined [] k = refl
joined (x ∷ xs) zero = refl
joined (x ∷ xs) (suc k) = joined xs k

get_or-none : (m k : ℕ) → get_or {A = Option (List Lit)} (replicate m None) k None ≡ None
get_or-none zero k = refl
get_or-none (suc m) zero = refl
get_or-none (suc m) (suc k) = get_or-none m k

get_or-pad : (xs : Slots) (m k : ℕ) → get_or (xs ++ replicate m None) k None ≡ get_or xs k None
get_or-pad [] m k = get_or-none m k
get_or-pad (x ∷ xs) m zero = refl
get_or-pad (x ∷ xs) m (suc k) = get_or-pad xs m k

get_or-one_none : (xs : Slots) (k : ℕ) → get_or (xs ++ None ∷ []) k None ≡ get_or xs k None
get_or-one_none xs k = get_or-pad xs 1 k

pub entry_put_other : (slots : Slots) (place : ℕ) (c : List Lit) (id : ℕ) → id ≢ place + 1 → entry_of (put slots place c) id ≡ entry_of slots id
entry_put_other slots place c zero other = refl
entry_put_other slots place c (suc k) other =
    joined (put slots place c) k
    ∙ (get_or-set_other (grown slots (place + 1) None) place k (Some c) None (λ e. other (omega (arith, e)))
    ∙ (get_or-pad slots ((place + 1) - length slots) k ∙ sym (joined slots k)))

pub entry_put_own : (slots : Slots) (place : ℕ) (c : List Lit) → entry_of (put slots place c) (suc place) ≡ Some c
entry_put_own slots place c =
    let len = length-append slots (replicate ((place + 1) - length slots) None) in
    let rep = length-replicate ((place + 1) - length slots) no_clause in
    let inside : place < length (grown slots (place + 1) None) = omega (arith, len, rep) in
    joined (put slots place c) place ∙ get_or-set_same (grown slots (place + 1) None) place (Some c) None inside

pub entry_taken_other : (slots : Slots) (n id : ℕ) → id ≢ n → entry_of (taken slots n) id ≡ entry_of slots id
entry_taken_other slots zero id other = refl
entry_taken_other slots (suc p) zero other = refl
entry_taken_other slots (suc p) (suc k) other =
    joined (set slots p None) k ∙ (get_or-set_other slots p k None None (λ e. other (omega (arith, e))) ∙ sym (joined slots k))

set_none : (xs : Slots) (k : ℕ) → get_or (set xs k None) k None ≡ None
set_none [] k = refl
set_none (x ∷ xs) zero = refl
set_none (x ∷ xs) (suc k) = set_none xs k

pub entry_taken_own : (slots : Slots) (n : ℕ) → entry_of (taken slots n) n ≡ None
entry_taken_own slots zero = refl
entry_taken_own slots (suc p) = joined (set slots p None) p ∙ set_none slots p

pub clause_skipped : (t : TheoryView) (id reserved : ℕ) → clause_of (record t { clauses = t.clauses ++ None ∷ []; reserved = reserved }) id ≡ clause_of t id
clause_skipped t zero reserved = refl
clause_skipped t (suc k) reserved = joined (t.clauses ++ None ∷ []) k ∙ (get_or-one_none t.clauses k ∙ sym (joined t.clauses k))

get_or-beyond : (xs : Slots) (k : ℕ) → length xs ≤ k → get_or xs k None ≡ None
get_or-beyond [] k h = refl
get_or-beyond (x ∷ xs) zero h = absurd (omega arith)
get_or-beyond (x ∷ xs) (suc k) h = get_or-beyond xs k (omega arith)

pub clause_with_other : (v : StateView) (c : List Lit) (id : ℕ) → id ≢ length v.theory.clauses + 1 → clause_in (with_clause v c) id ≡ clause_in v id
clause_with_other v c id other =
    ap (λ o. either o (entry_of (put v.added (length v.theory.clauses) c) id)) (clause_skipped v.theory id (v.theory.reserved - 1))
    ∙ ap (either (clause_of v.theory id)) (entry_put_other v.added (length v.theory.clauses) c id other)

pub clause_with_own : (v : StateView) (c : List Lit) (id : ℕ) → id ≡ length v.theory.clauses + 1 → clause_in (with_clause v c) id ≡ Some c
clause_with_own v c id is =
    let n : ℕ = length v.theory.clauses in
    let at : id ≡ suc n = omega (arith, is) in
    let none : clause_of v.theory (suc n) ≡ None = joined v.theory.clauses n ∙ get_or-beyond v.theory.clauses n (omega arith) in
    ap (clause_in (with_clause v c)) at
    ∙ (ap (λ o. either o (entry_of (put v.added n c) (suc n))) (clause_skipped v.theory (suc n) (v.theory.reserved - 1) ∙ none)
    ∙ entry_put_own v.added n c)

pub clause_without_other : (v : StateView) (n id : ℕ) → id ≢ n → clause_in (without_clause v n) id ≡ clause_in v id
clause_without_other v n id other = ap (either (clause_of v.theory id)) (entry_taken_other v.added n id other)

pub clause_without_own : (v : StateView) (n : ℕ) → clause_of v.theory n ≡ None → clause_in (without_clause v n) n ≡ None
clause_without_own v n none = ap (λ o. either o (entry_of (taken v.added n) n)) none ∙ entry_taken_own v.added n

-- a clause of the theory is the clause of its number
pub clause_from_theory : (v : StateView) (t : TheoryView) (id : ℕ) (c : List Lit) → v.theory.clauses ≡ t.clauses → clause_of t id ≡ Some c → clause_in v id ≡ Some c
clause_from_theory v t id c same at =
    let own : clause_of v.theory id ≡ Some c = ap (λ xs. clause_of (record v.theory { clauses = xs }) id) same ∙ at in
    ap (λ o. either o (entry_of v.added id)) own

-- the clause of a number that is none of the theory's was added
pub clause_from_added : (v : StateView) (t : TheoryView) (id : ℕ) → v.theory.clauses ≡ t.clauses → clause_of t id ≡ None → clause_in v id ≡ entry_of v.added id
clause_from_added v t id same none =
    let own : clause_of v.theory id ≡ None = ap (λ xs. clause_of (record v.theory { clauses = xs }) id) same ∙ none in
    ap (λ o. either o (entry_of v.added id)) own

-- ---- theories

pub whole_same : (s t : TheoryView) → s.variables ≡ t.variables → s.clauses ≡ t.clauses → IsWhole s → IsWhole t
whole_same s t variables clauses h =
    let x : IsWhole (record s { variables = t.variables }) = subst (λ xs. IsWhole (record s { variables = xs })) variables h in
    let y : IsWhole (record s { variables = t.variables; clauses = t.clauses }) = subst (λ xs. IsWhole (record s { variables = t.variables; clauses = xs })) clauses x in
    record { kinds = y.kinds; clauses = y.clauses }

all_push : {A : Type 0} (P : A → Type 0) (xs : List A) (x : A) → All P xs → P x → All P (xs ++ x ∷ [])
all_push P [] x h p zero d w = p
all_push P [] x h p (suc k) d w = absurd (omega arith)
all_push P (y ∷ xs) x h p zero d w = h 0 d (omega arith)
all_push P (y ∷ xs) x h p (suc k) d w = all_push P xs x (λ j e u. h (suc j) e (omega arith)) p k d (omega arith)

pub whole_skipped : (s t : TheoryView) → s.variables ≡ t.variables → t.clauses ≡ s.clauses ++ None ∷ [] → IsWhole s → IsWhole t
whole_skipped s t variables clauses h =
    let x : IsWhole (record s { clauses = s.clauses ++ None ∷ [] }) = record {
      kinds = h.kinds;
      clauses = all_push (λ (slot : Option (List Lit)). IfSome slot (AreOver (length s.variables))) s.clauses None h.clauses tt;
    } in
    whole_same (record s { clauses = s.clauses ++ None ∷ [] }) t variables (sym clauses) x

pub same_theory : (s t : TheoryView) (r : ℕ) → t ≡ record s { reserved = r } → IsSameTheory s t
same_theory s t r is = record {
  variables = sym (ap (λ (x : TheoryView). x.variables) is);
  clauses = sym (ap (λ (x : TheoryView). x.clauses) is);
  blocks = sym (ap (λ (x : TheoryView). x.blocks) is);
}

pub skipped_theory : (s m t : TheoryView) (r : ℕ) → m ≡ record s { reserved = r } → t ≡ record m { clauses = m.clauses ++ None ∷ []; reserved = m.reserved - 1 } → t ≡ record s { clauses = s.clauses ++ None ∷ []; reserved = t.reserved }
skipped_theory s m t r first second =
    let clauses : t.clauses ≡ s.clauses ++ None ∷ [] = ap (λ (x : TheoryView). x.clauses) second ∙ ap (λ (x : TheoryView). x.clauses ++ None ∷ []) first in
    let variables : t.variables ≡ s.variables = ap (λ (x : TheoryView). x.variables) second ∙ ap (λ (x : TheoryView). x.variables) first in
    let blocks : t.blocks ≡ s.blocks = ap (λ (x : TheoryView). x.blocks) second ∙ ap (λ (x : TheoryView). x.blocks) first in
    λ i. record { variables = variables i; clauses = clauses i; blocks = blocks i; reserved = t.reserved }

-- ---- what was taken

pub taken_same : (n : ℕ) (s t : TheoryView) (steps : List Step) (old new : State) (numbers numbers' : List ClauseId) (v : StateView) → IsSameTheory s t → ((k : ℕ) → clause_at new.clauses k ≡ clause_at old.clauses k) → ((k : ℕ) → number_of numbers' k ≡ number_of numbers k) → HasTaken n s steps old numbers v → HasTaken n t steps new numbers' v
taken_same n s t steps old new numbers numbers' v theory same number h = record {
  theory = record { variables = h.theory.variables ∙ theory.variables; clauses = h.theory.clauses ∙ theory.clauses; blocks = h.theory.blocks ∙ theory.blocks };
  whole = whole_same s t theory.variables theory.clauses h.whole;
  log = h.log;
  beyond = h.beyond;
  over = λ id c at. subst (λ xs. AreOver (length xs) c) theory.variables (h.over id c at);
  keys = λ k c at. subst (λ m. clause_in v m ≡ Some c) (sym (number k)) (h.keys k c (sym (same k) ∙ at));
  within = λ k c at. subst (λ m. m ≤ n) (sym (number k)) (h.within k c (sym (same k) ∙ at));
  once = λ k m c d a b q. h.once k m c d (sym (same k) ∙ a) (sym (same m) ∙ b) (sym (number k) ∙ (q ∙ number m));
  all = λ id c le at. let x = h.all id c le at in (x.0, same x.0 ∙ x.1, number x.0 ∙ x.2);
  later = h.later;
}

pub fresh_apart : (cs : Slots) (key k : ℕ) (c : List Lit) → clause_at cs key ≡ None → clause_at cs k ≡ Some c → k ≢ key
fresh_apart cs key k c none at same = absurd (let z : Some c ≡ None = sym at ∙ (ap (clause_at cs) same ∙ none) in cc)

pub taken_none : (n : ℕ) (t : TheoryView) (steps : List Step) (s : State) (numbers : List ClauseId) (v : StateView) → clause_of t (n + 1) ≡ None → HasTaken n t steps s numbers v → HasTaken (n + 1) t steps s numbers v
taken_none n t steps s numbers v none h = record {
  theory = h.theory;
  whole = h.whole;
  log = h.log;
  beyond = h.beyond;
  over = h.over;
  keys = h.keys;
  within = λ k c at. let x = h.within k c at in omega (arith, x);
  once = h.once;
  all = λ id c le at. elim (cases_eq id (n + 1)) [
    | inl same ↦ absurd (
        let free : clause_of t id ≡ None = ap (clause_of t) same ∙ none in
        let z : Some c ≡ None = sym at ∙ (clause_from_added v t id h.theory.clauses free ∙ h.later id (omega (arith, same))) in cc)
    | inr other ↦ h.all id c (omega (arith, le, other)) at
  ];
  later = λ id above. h.later id (omega (arith, above));
}

pub taken_more : (n : ℕ) (t : TheoryView) (steps : List Step) (old new : State) (numbers numbers' : List ClauseId) (key : ℕ) (c : List Lit) (v : StateView) → clause_of t (n + 1) ≡ Some c → Adds old.clauses new.clauses key c → ((k : ℕ) → k ≢ key → number_of numbers' k ≡ number_of numbers k) → number_of numbers' key ≡ n + 1 → HasTaken n t steps old numbers v → HasTaken (n + 1) t steps new numbers' v
taken_more n t steps old new numbers numbers' key c v there adds others own h =
    let here : clause_in v (n + 1) ≡ Some c = clause_from_theory v t (n + 1) c h.theory.clauses there in
    let was : (k : ℕ) (d : List Lit) → k ≢ key → clause_at new.clauses k ≡ Some d → clause_at old.clauses k ≡ Some d = λ k d other at. sym (adds.others k other) ∙ at in
    let low : (k : ℕ) (d : List Lit) → k ≢ key → clause_at new.clauses k ≡ Some d → number_of numbers' k ≤ n = λ k d other at.
    subst (λ m. m ≤ n) (sym (others k other)) (h.within k d (was k d other at)) in
    let high : (k : ℕ) → k ≡ key → number_of numbers' k ≡ n + 1 = λ k same. ap (number_of numbers') same ∙ own in
    record {
      theory = h.theory;
      whole = h.whole;
      log = h.log;
      beyond = h.beyond;
      over = h.over;
      keys = λ k d at. elim (cases_eq k key) [
        | inl same ↦
            let q : Some c ≡ Some d = sym adds.added ∙ (ap (clause_at new.clauses) (sym same) ∙ at) in
            ap (clause_in v) (high k same) ∙ (here ∙ q)
        | inr other ↦ subst (λ m. clause_in v m ≡ Some d) (sym (others k other)) (h.keys k d (was k d other at))
      ];
      within = λ k d at. elim (cases_eq k key) [
        | inl same ↦ let x = high k same in omega (arith, x)
        | inr other ↦ let x = low k d other at in omega (arith, x)
      ];
      once = λ k m d e a b q. elim (cases_eq k key) [
        | inl same ↦ elim (cases_eq m key) [
          | inl twin ↦ same ∙ sym twin
          | inr apart ↦ absurd (let x = low m e apart b in let y = high k same in omega (arith, x, y, q))
        ]
        | inr other ↦ elim (cases_eq m key) [
          | inl twin ↦ absurd (let x = low k d other a in let y = high m twin in omega (arith, x, y, q))
          | inr apart ↦ h.once k m d e (was k d other a) (was m e apart b) (sym (others k other) ∙ (q ∙ others m apart))
        ]
      ];
      all = λ id d le at. elim (cases_eq id (n + 1)) [
        | inl same ↦
            let q : Some c ≡ Some d = sym here ∙ (ap (clause_in v) (sym same) ∙ at) in
            (key, adds.added ∙ q, own ∙ sym same)
        | inr other ↦
            let x = h.all id d (omega (arith, le, other)) at in
            let apart = fresh_apart old.clauses key x.0 d adds.fresh x.1 in
            (x.0, adds.others x.0 apart ∙ x.1, others x.0 apart ∙ x.2)
      ];
      later = λ id above. h.later id (omega (arith, above));
    }

-- ---- one clause more

pub is_in_more : (old new : Engine) (v : StateView) (c : List Lit) (key : ℕ) → new.theory ≡ record old.theory { clauses = old.theory.clauses ++ None ∷ []; reserved = new.theory.reserved } → new.parts.store.places ≡ old.parts.store.places → new.parts.marks ≡ old.parts.marks → Adds old.parts.store.clauses new.parts.store.clauses key c → ((k : ℕ) → k ≢ key → number_of new.parts.numbers.items k ≡ number_of old.parts.numbers.items k) → number_of new.parts.numbers.items key ≡ length old.theory.clauses + 1 → AreOver (length old.theory.variables) c → IsLog (with_clause v c).theory new.log.steps (with_clause v c).added → IsIn old v → IsIn new (with_clause v c)
is_in_more old new v c key theory places marks adds others own over log is_in =
    let h = is_in.taken in
    let n : ℕ = length v.theory.clauses + 1 in
    let count : length v.theory.clauses ≡ length old.theory.clauses = ap length h.theory.clauses in
    let own_n : number_of new.parts.numbers.items key ≡ n = omega (arith, own, count) in
    let clauses : new.theory.clauses ≡ old.theory.clauses ++ None ∷ [] = ap (λ (t : TheoryView). t.clauses) theory in
    let variables : new.theory.variables ≡ old.theory.variables = ap (λ (t : TheoryView). t.variables) theory in
    let blocks : new.theory.blocks ≡ old.theory.blocks = ap (λ (t : TheoryView). t.blocks) theory in
    let more : length new.theory.clauses ≡ length old.theory.clauses + 1 = ap length clauses ∙ length-append old.theory.clauses (no_clause ∷ []) in
    let none_there : (d : List Lit) → clause_in v n ≡ Some d → ⊥ = λ d at.
    let x : clause_in v n ≡ None = h.beyond n (omega arith) in
    absurd (let z : Some d ≡ None = sym at ∙ x in cc) in
    let was : (k : ℕ) (d : List Lit) → k ≢ key → clause_at new.parts.store.clauses k ≡ Some d → clause_at old.parts.store.clauses k ≡ Some d = λ k d other at.
    sym (adds.others k other) ∙ at in
    let low : (k : ℕ) (d : List Lit) → k ≢ key → clause_at new.parts.store.clauses k ≡ Some d → number_of new.parts.numbers.items k ≤ length old.theory.clauses = λ k d other at.
    subst (λ m. m ≤ length old.theory.clauses) (sym (others k other)) (h.within k d (was k d other at)) in
    let high : (k : ℕ) → k ≡ key → number_of new.parts.numbers.items k ≡ length old.theory.clauses + 1 = λ k same. ap (number_of new.parts.numbers.items) same ∙ own in
    record {
      taken = record {
        theory = record {
          variables = h.theory.variables ∙ sym variables;
          clauses = ap (λ xs. xs ++ None ∷ []) h.theory.clauses ∙ sym clauses;
          blocks = h.theory.blocks ∙ sym blocks;
        };
        whole = whole_skipped old.theory new.theory (sym variables) clauses h.whole;
        log = log;
        beyond = λ id above.
            let len = length-append v.theory.clauses (no_clause ∷ []) in
            clause_with_other v c id (λ e. absurd (omega (arith, len, above, e))) ∙ h.beyond id (omega (arith, len, above));
        over = λ id d at. subst (λ xs. AreOver (length xs) d) (sym variables) (elim (cases_eq id n) [
          | inl same ↦
              let q : Some c ≡ Some d = sym (clause_with_own v c id same) ∙ at in
              let r : c ≡ d = cc in
              subst (AreOver (length old.theory.variables)) r over
          | inr other ↦ h.over id d (sym (clause_with_other v c id other) ∙ at)
        ]);
        keys = λ k d at. elim (cases_eq k key) [
          | inl same ↦
              let q : Some c ≡ Some d = sym adds.added ∙ (ap (clause_at new.parts.store.clauses) (sym same) ∙ at) in
              clause_with_own v c (number_of new.parts.numbers.items k) (ap (number_of new.parts.numbers.items) same ∙ own_n) ∙ q
          | inr other ↦
              let old_at = h.keys k d (was k d other at) in
              subst (λ m. clause_in (with_clause v c) m ≡ Some d) (sym (others k other))
              (clause_with_other v c (number_of old.parts.numbers.items k) (λ e. none_there d (sym (ap (clause_in v) e) ∙ old_at)) ∙ old_at)
        ];
        within = λ k d at. elim (cases_eq k key) [
          | inl same ↦ let x = high k same in omega (arith, x, more)
          | inr other ↦ let x = low k d other at in omega (arith, x, more)
        ];
        once = λ k m d e a b q. elim (cases_eq k key) [
          | inl same ↦ elim (cases_eq m key) [
            | inl twin ↦ same ∙ sym twin
            | inr apart ↦ absurd (let x = low m e apart b in let y = high k same in omega (arith, x, y, q))
          ]
          | inr other ↦ elim (cases_eq m key) [
            | inl twin ↦ absurd (let x = low k d other a in let y = high m twin in omega (arith, x, y, q))
            | inr apart ↦ h.once k m d e (was k d other a) (was m e apart b) (sym (others k other) ∙ (q ∙ others m apart))
          ]
        ];
        all = λ id d le at. elim (cases_eq id n) [
          | inl same ↦
              let q : Some c ≡ Some d = sym (clause_with_own v c id same) ∙ at in
              (key, adds.added ∙ q, own_n ∙ sym same)
          | inr other ↦
              let x = h.all id d (omega (arith, le, more, count, other)) (sym (clause_with_other v c id other) ∙ at) in
              let apart = fresh_apart old.parts.store.clauses key x.0 d adds.fresh x.1 in
              (x.0, adds.others x.0 apart ∙ x.1, others x.0 apart ∙ x.2)
        ];
        later = λ id above.
            entry_put_other v.added (length v.theory.clauses) c id (λ e. absurd (omega (arith, above, more, count, e))) ∙ h.later id (omega (arith, above, more));
      };
      places = places ∙ (is_in.places ∙ ap (λ xs. length xs + 1) (sym variables));
      marks = subst (λ m. AreUnmarked (length new.theory.variables + 1) m) (sym marks) (subst (λ xs. AreUnmarked (length xs + 1) old.parts.marks) (sym variables) is_in.marks);
    }

-- ---- one clause less

pub is_in_less : (old new : Engine) (v : StateView) (c : List Lit) (key n : ℕ) → new.theory ≡ old.theory → new.parts.store.places ≡ old.parts.store.places → new.parts.marks ≡ old.parts.marks → new.parts.numbers.items ≡ old.parts.numbers.items → Removes old.parts.store.clauses new.parts.store.clauses key → clause_at old.parts.store.clauses key ≡ Some c → n ≡ number_of old.parts.numbers.items key → clause_of old.theory n ≡ None → IsLog (without_clause v n).theory new.log.steps (without_clause v n).added → IsIn old v → IsIn new (without_clause v n)
is_in_less old new v c key n theory places marks numbers removes stored number added log is_in =
    let h = is_in.taken in
    let variables : new.theory.variables ≡ old.theory.variables = ap (λ (t : TheoryView). t.variables) theory in
    let clauses : new.theory.clauses ≡ old.theory.clauses = ap (λ (t : TheoryView). t.clauses) theory in
    let blocks : new.theory.blocks ≡ old.theory.blocks = ap (λ (t : TheoryView). t.blocks) theory in
    let count : length new.theory.clauses ≡ length old.theory.clauses = ap length clauses in
    let same_number : (k : ℕ) → number_of new.parts.numbers.items k ≡ number_of old.parts.numbers.items k = λ k. ap (λ xs. number_of xs k) numbers in
    let apart : (k : ℕ) (d : List Lit) → clause_at new.parts.store.clauses k ≡ Some d → k ≢ key = λ k d at same.
    absurd (let z : Some d ≡ None = sym at ∙ (ap (clause_at new.parts.store.clauses) same ∙ removes.gone) in cc) in
    let was : (k : ℕ) (d : List Lit) → clause_at new.parts.store.clauses k ≡ Some d → clause_at old.parts.store.clauses k ≡ Some d = λ k d at.
    sym (removes.others k (apart k d at)) ∙ at in
    let gone : (id : ℕ) (d : List Lit) → clause_in (without_clause v n) id ≡ Some d → id ≢ n = λ id d at same.
    absurd (
    let none : clause_of v.theory n ≡ None = ap (λ xs. clause_of (record v.theory { clauses = xs }) n) h.theory.clauses ∙ added in
    let z : Some d ≡ None = sym at ∙ (ap (clause_in (without_clause v n)) same ∙ clause_without_own v n none) in cc) in
    let back : (id : ℕ) (d : List Lit) → clause_in (without_clause v n) id ≡ Some d → clause_in v id ≡ Some d = λ id d at.
    sym (clause_without_other v n id (gone id d at)) ∙ at in
    record {
      taken = record {
        theory = record { variables = h.theory.variables ∙ sym variables; clauses = h.theory.clauses ∙ sym clauses; blocks = h.theory.blocks ∙ sym blocks };
        whole = whole_same old.theory new.theory (sym variables) (sym clauses) h.whole;
        log = log;
        beyond = λ id above. elim (cases_eq id n) [
          | inl same ↦
              let none : clause_of v.theory n ≡ None = ap (λ xs. clause_of (record v.theory { clauses = xs }) n) h.theory.clauses ∙ added in
              ap (clause_in (without_clause v n)) same ∙ clause_without_own v n none
          | inr other ↦ clause_without_other v n id other ∙ h.beyond id above
        ];
        over = λ id d at. subst (λ xs. AreOver (length xs) d) (sym variables) (h.over id d (back id d at));
        keys = λ k d at.
            let old_at = h.keys k d (was k d at) in
            let differs : number_of old.parts.numbers.items k ≢ n = λ e. apart k d at (h.once k key d c (was k d at) stored (e ∙ number)) in
            subst (λ m. clause_in (without_clause v n) m ≡ Some d) (sym (same_number k)) (clause_without_other v n (number_of old.parts.numbers.items k) differs ∙ old_at);
        within = λ k d at. let x = h.within k d (was k d at) in let y = same_number k in omega (arith, x, y, count);
        once = λ k m d e a b q. h.once k m d e (was k d a) (was m e b) (sym (same_number k) ∙ (q ∙ same_number m));
        all = λ id d le at.
            let x = h.all id d (omega (arith, le, count)) (back id d at) in
            let other : x.0 ≢ key = λ same. gone id d at (sym x.2 ∙ (ap (number_of old.parts.numbers.items) same ∙ sym number)) in
            (x.0, removes.others x.0 other ∙ x.1, same_number x.0 ∙ x.2);
        later = λ id above. elim (cases_eq id n) [
          | inl same ↦ ap (entry_of (taken v.added n)) same ∙ entry_taken_own v.added n
          | inr other ↦ entry_taken_other v.added n id other ∙ h.later id (omega (arith, above, count))
        ];
      };
      places = places ∙ (is_in.places ∙ ap (λ xs. length xs + 1) (sym variables));
      marks = subst (λ m. AreUnmarked (length new.theory.variables + 1) m) (sym marks) (subst (λ xs. AreUnmarked (length xs + 1) old.parts.marks) (sym variables) is_in.marks);
    }

-- ---- engines with the same clauses

-- all that `IsIn` looks at is the same
pub record Alike (a b : Engine) : Type 0 where
  pub theory : IsSameTheory a.theory b.theory
  pub log : b.log.steps ≡ a.log.steps
  pub clauses : (k : ℕ) → clause_at b.parts.store.clauses k ≡ clause_at a.parts.store.clauses k
  pub places : b.parts.store.places ≡ a.parts.store.places
  pub numbers : (k : ℕ) → number_of b.parts.numbers.items k ≡ number_of a.parts.numbers.items k
  pub marks : b.parts.marks ≡ a.parts.marks
  pub span : b.parts.span ≡ a.parts.span

pub same_self : (t : TheoryView) → IsSameTheory t t
same_self t = record { variables = refl; clauses = refl; blocks = refl }

pub same_equal : (s t : TheoryView) → t ≡ s → IsSameTheory s t
same_equal s t is = record {
  variables = sym (ap (λ (x : TheoryView). x.variables) is);
  clauses = sym (ap (λ (x : TheoryView). x.clauses) is);
  blocks = sym (ap (λ (x : TheoryView). x.blocks) is);
}

pub alike_in : (a b : Engine) (v : StateView) → Alike a b → IsIn a v → IsIn b v
alike_in a b v h is_in =
    let count : length a.theory.clauses ≡ length b.theory.clauses = ap length h.theory.clauses in
    let x : HasTaken (length a.theory.clauses) b.theory a.log.steps b.parts.store b.parts.numbers.items v =
    taken_same (length a.theory.clauses) a.theory b.theory a.log.steps a.parts.store b.parts.store a.parts.numbers.items b.parts.numbers.items v h.theory h.clauses h.numbers is_in.taken in
    let y : HasTaken (length b.theory.clauses) b.theory a.log.steps b.parts.store b.parts.numbers.items v =
    subst (λ n. HasTaken n b.theory a.log.steps b.parts.store b.parts.numbers.items v) count x in
    record {
      taken = subst (λ steps. HasTaken (length b.theory.clauses) b.theory steps b.parts.store b.parts.numbers.items v) (sym h.log) y;
      places = h.places ∙ (is_in.places ∙ ap (λ xs. length xs + 1) h.theory.variables);
      marks = subst (λ m. AreUnmarked (length b.theory.variables + 1) m) (sym h.marks) (subst (λ xs. AreUnmarked (length xs + 1) a.parts.marks) h.theory.variables is_in.marks);
    }

pub alike_entries : (a b : Engine) (es : List Entry) → b.parts.store ≡ record a.parts.store { entries = es } → b.theory ≡ a.theory → b.log.steps ≡ a.log.steps → b.parts.numbers.items ≡ a.parts.numbers.items → b.parts.marks ≡ a.parts.marks → b.parts.span ≡ a.parts.span → Alike a b
alike_entries a b es store theory log numbers marks span = record {
  theory = same_equal a.theory b.theory theory;
  log = log;
  clauses = λ k. ap (λ (s : State). clause_at s.clauses k) store;
  places = ap (λ (s : State). s.places) store;
  numbers = λ k. ap (λ xs. number_of xs k) numbers;
  marks = marks;
  span = span;
}

-- each variable of the store has a clear bit
pub marks_clear : (e : Engine) (v : StateView) → IsIn e v → AreClear e.parts.store e.parts.marks
marks_clear e v h w low = h.marks w (let p = h.places in omega (arith, p, low))
