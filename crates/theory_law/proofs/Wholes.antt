-- A theory with a program names its own variables alone.
use Rattle.std.proofs.Common.{◌≡◌, ℕ, zero, suc, ◌+◌, ◌<◌, ◌≤◌, Bool, List, [], ◌∷◌, ◌++◌, map, length, refl, sym, subst, Option, Some, None, arith}
use Rattle.std.specs.Prelude.{ℤ, All, IfSome}
use Rattle.std.specs.List.{range_with_len, AllByRecursion}
use Rattle.std.proofs.lemmas.List.{length-append}
use Rattle.std.proofs.lemmas.List.Elements.{All-from_recursion, recursion_from_All}
use Rattle.theory_form.specs.declared.literals.Lit.{Lit}
use Rattle.theory_form.specs.declared.literals.Var.{Var}
use Rattle.theory_form.specs.declared.rows.VarKind.{VarKind}
use Rattle.theory_form.specs.declared.rows.VarKind.TheVariants.{Atom, Sum, Body, Search, Other}
use Rattle.theory_form.specs.Literals.{opposite}
use Rattle.theory_form.specs.Theories.{TheoryView}
use Rattle.ground_form.specs.declared.rules.GroundRule.{GroundRule}
use Rattle.ground_form.specs.declared.rules.Head.{Head}
use Rattle.ground_form.specs.Programs.{Parts}
use Rattle.ground_form.specs.Ranges.{IsNumberOf, IsInRange}
use Rattle.theory_build.specs.declared.entries.Entry.{Entry}
use Rattle.theory_build.specs.declared.frames.Frame.{Frame}
use Rattle.theory_build.specs.Entries.{yes, no, clause}
use Rattle.theory_build.specs.Frames.{atom_var}
use Rattle.theory_build.specs.Groups.{groups_piece}
use Rattle.theory_build.specs.Bodies.{lits_of, rule_bodies, bodies_from, body_lit, body_entries}
use Rattle.theory_build.specs.Atoms.{forces, allows, forbids, bodies_where, joined, supports as supports_at, forcing, atom_entry, atom_entries, constraint_clauses}
use Rattle.theory_build.specs.Completion.{kinds_of, clauses_of}
use Rattle.theory_model.specs.Whole.{AreOver, IsKindOver, IsWhole}
use Rattle.theory_law.proofs.Membership.{In}
use Rattle.theory_law.proofs.Places.{place_of}
use Rattle.theory_law.proofs.Entries.{IsBefore, AreBefore, AreTermsBefore, IsKindBefore, IsEntryBefore, AreDefined, before_more, before_from_in, ascending_before, clauses_more, kind_more, clauses_append, pairs_before}
use Rattle.theory_law.proofs.Bodies.{rest_defined, bodies_from_at}
use Rattle.theory_law.proofs.BodyValues.{rule_body_in}
use Rattle.theory_law.proofs.Slots.{split_all, join_all}
use Rattle.theory_law.proofs.Blocks.{in_where, in_joined, zip_right}
use Rattle.theory_law.proofs.Layouts.{IsLaidOut, stand_before, variables_length, bodies_length}
use Rattle.theory_law.proofs.Programs.{entries, HasClauses}

-- ---- over the first n variables, and before n + 1

pub over_from_before : (n : ℕ) (lits : List Lit) → AreBefore (n + 1) lits → AreOver n lits
over_from_before n lits b = All-from_recursion (λ (l : Lit). IsNumberOf n l.var.0) lits (go lits b)
  where
    go : (ls : List Lit) → AreBefore (n + 1) ls → AllByRecursion (λ (l : Lit). IsNumberOf n l.var.0) ls
    go [] h = tt
    go (l ∷ ls) h = ((h.0.some, omega (arith, h.0.below)), go ls h.1)

pub before_from_over : (n : ℕ) (lits : List Lit) → AreOver n lits → AreBefore (n + 1) lits
before_from_over n lits h = go lits (recursion_from_All (λ (l : Lit). IsNumberOf n l.var.0) lits h)
  where
    go : (ls : List Lit) → AllByRecursion (λ (l : Lit). IsNumberOf n l.var.0) ls → AreBefore (n + 1) ls
    go [] k = tt
    go (l ∷ ls) k = (record { some = k.0.0; below = omega (arith, k.0.1) }, go ls k.1)

terms_over : (n : ℕ) (terms : List (ℤ × Var)) → AreTermsBefore (n + 1) terms → All (λ (term : ℤ × Var). IsNumberOf n term.1.0) terms
terms_over n terms b = All-from_recursion (λ (term : ℤ × Var). IsNumberOf n term.1.0) terms (go terms b)
  where
    go : (ts : List (ℤ × Var)) → AreTermsBefore (n + 1) ts → AllByRecursion (λ (term : ℤ × Var). IsNumberOf n term.1.0) ts
    go [] h = tt
    go (t ∷ ts) h = ((h.0.some, omega (arith, h.0.below)), go ts h.1)

pub terms_before_over : (n : ℕ) (terms : List (ℤ × Var)) → All (λ (term : ℤ × Var). IsNumberOf n term.1.0) terms → AreTermsBefore (n + 1) terms
terms_before_over n terms h = go terms (recursion_from_All (λ (term : ℤ × Var). IsNumberOf n term.1.0) terms h)
  where
    go : (ts : List (ℤ × Var)) → AllByRecursion (λ (term : ℤ × Var). IsNumberOf n term.1.0) ts → AreTermsBefore (n + 1) ts
    go [] k = tt
    go (t ∷ ts) k = (record { some = k.0.0; below = omega (arith, k.0.1) }, go ts k.1)

kind_over : (n : ℕ) (k : VarKind) → IsKindBefore (n + 1) k → IsKindOver n k
kind_over n (Atom block supports) h = over_from_before n supports h
kind_over n (Sum terms bound) h = terms_over n terms h
kind_over n (Body lits) h = over_from_before n lits h
kind_over n Search h = tt
kind_over n Other h = tt

pub kind_before_over : (n : ℕ) (k : VarKind) → IsKindOver n k → IsKindBefore (n + 1) k
kind_before_over n (Atom block supports) h = before_from_over n supports h
kind_before_over n (Sum terms bound) h = terms_before_over n terms h
kind_before_over n (Body lits) h = before_from_over n lits h
kind_before_over n Search h = tt
kind_before_over n Other h = tt

abbrev pub AreKindsBefore : ℕ → List VarKind → Type 0
AreKindsBefore v kinds = AllByRecursion (IsKindBefore v) kinds

abbrev pub IsSlotBefore : ℕ → Option (List Lit) → Type 0
IsSlotBefore v slot = IfSome slot (AreBefore v)

abbrev pub AreSlotsBefore : ℕ → List (Option (List Lit)) → Type 0
AreSlotsBefore v slots = AllByRecursion (IsSlotBefore v) slots

whole_from : (t : TheoryView) → AreKindsBefore (length t.variables + 1) t.variables → AreSlotsBefore (length t.variables + 1) t.clauses → IsWhole t
whole_from t kinds slots = record {
  kinds = All-from_recursion (IsKindOver (length t.variables)) t.variables (over t.variables kinds);
  clauses = All-from_recursion (λ (slot : Option (List Lit)). IfSome slot (AreOver (length t.variables))) t.clauses (each t.clauses slots);
}
  where
    over : (ks : List VarKind) → AreKindsBefore (length t.variables + 1) ks → AllByRecursion (IsKindOver (length t.variables)) ks
    over [] h = tt
    over (k ∷ ks) h = (kind_over (length t.variables) k h.0, over ks h.1)

    one : (slot : Option (List Lit)) → IsSlotBefore (length t.variables + 1) slot → IfSome slot (AreOver (length t.variables))
    one None h = tt
    one (Some c) h = over_from_before (length t.variables) c h

    each : (ss : List (Option (List Lit))) → AreSlotsBefore (length t.variables + 1) ss → AllByRecursion (λ (slot : Option (List Lit)). IfSome slot (AreOver (length t.variables))) ss
    each [] h = tt
    each (s ∷ ss) h = (one s h.0, each ss h.1)

pub whole_kinds : (t : TheoryView) → IsWhole t → AreKindsBefore (length t.variables + 1) t.variables
whole_kinds t w = go t.variables (recursion_from_All (IsKindOver (length t.variables)) t.variables w.kinds)
  where
    go : (ks : List VarKind) → AllByRecursion (IsKindOver (length t.variables)) ks → AreKindsBefore (length t.variables + 1) ks
    go [] h = tt
    go (k ∷ ks) h = (kind_before_over (length t.variables) k h.0, go ks h.1)

pub whole_slots : (t : TheoryView) → IsWhole t → AreSlotsBefore (length t.variables + 1) t.clauses
whole_slots t w = go t.clauses (recursion_from_All (λ (slot : Option (List Lit)). IfSome slot (AreOver (length t.variables))) t.clauses w.clauses)
  where
    one : (slot : Option (List Lit)) → IfSome slot (AreOver (length t.variables)) → IsSlotBefore (length t.variables + 1) slot
    one None h = tt
    one (Some c) h = before_from_over (length t.variables) c h

    go : (ss : List (Option (List Lit))) → AllByRecursion (λ (slot : Option (List Lit)). IfSome slot (AreOver (length t.variables))) ss → AreSlotsBefore (length t.variables + 1) ss
    go [] h = tt
    go (s ∷ ss) h = (one s h.0, go ss h.1)

-- ---- entries

abbrev pub AreEntriesBefore : ℕ → List Entry → Type 0
AreEntriesBefore v es = AllByRecursion (IsEntryBefore v) es

pub entry_more : (d e : ℕ) (x : Entry) → d ≤ e → IsEntryBefore d x → IsEntryBefore e x
entry_more d e x le h = record { clauses = clauses_more d e x.clauses le h.clauses; kind = kind_more d e x.kind le h.kind }

pub defined_before : (v e : ℕ) (es : List Entry) → AreDefined v es → v + length es ≤ e → AreEntriesBefore e es
defined_before v e [] d le = tt
defined_before v e (x ∷ es) d le = let more : v + suc (length es) ≤ e = le in (entry_more (v + 1) e x (omega arith) d.0.named, defined_before (v + 1) e es d.1 (omega arith))

entries_kinds_before : (v : ℕ) (es : List Entry) → AreEntriesBefore v es → AreKindsBefore v (kinds_of es)
entries_kinds_before v [] h = tt
entries_kinds_before v (x ∷ es) h = (h.0.kind, entries_kinds_before v es h.1)

entries_clauses_before : (v : ℕ) (es : List Entry) → AreEntriesBefore v es → AllByRecursion (AreBefore v) (clauses_of es)
entries_clauses_before v [] h = tt
entries_clauses_before v (x ∷ es) h = clauses_append v x.clauses (clauses_of es) h.0.clauses (entries_clauses_before v es h.1)

slots_before : (v : ℕ) (cs : List (List Lit)) → AllByRecursion (AreBefore v) cs → AreSlotsBefore v (map (λ c. Some c) cs)
slots_before v [] h = tt
slots_before v (c ∷ cs) h = (h.0, slots_before v cs h.1)

kinds_more : (d e : ℕ) (ks : List VarKind) → d ≤ e → AreKindsBefore d ks → AreKindsBefore e ks
kinds_more d e [] le h = tt
kinds_more d e (k ∷ ks) le h = (kind_more d e k le h.0, kinds_more d e ks le h.1)

slots_more : (d e : ℕ) (ss : List (Option (List Lit))) → d ≤ e → AreSlotsBefore d ss → AreSlotsBefore e ss
slots_more d e [] le h = tt
slots_more d e (s ∷ ss) le h = (one s h.0, slots_more d e ss le h.1)
  where
    one : (slot : Option (List Lit)) → IsSlotBefore d slot → IsSlotBefore e slot
    one None k = tt
    one (Some c) k = (clauses_more d e (c ∷ []) le (k, tt)).0

-- ---- a theory with a program

module _ (t : TheoryView) (p : Frame) (g : Parts) (laid : IsLaidOut t p g) (older_clauses : List (Option (List Lit))) (has : HasClauses t p g laid older_clauses) (range : IsInRange g)
    (joins : (l : Lit) → In l p.joins → IsBefore (p.before + 1) l.var.0)
    (older_kinds : AreKindsBefore (p.before + 1) laid.older) (older_slots : AreSlotsBefore (p.before + 1) older_clauses)
    (between : AreEntriesBefore (length t.variables + 1) laid.between) (behind : AreEntriesBefore (length t.variables + 1) laid.behind) where
  ends : ℕ
  ends = length t.variables + 1

  ends_at : ends ≡ p.groups_from + length ((groups_piece p g).entries ++ body_entries p g) + length laid.behind
  unfolding ends
  ends_at = variables_length t p g laid

  body_before : (rule : GroundRule) → In rule g.rules → IsBefore ends (body_lit p g rule.body.0).var.0
  unfolding body_lit
  body_before rule i =
      let place = place_of (rule_bodies p g) (lits_of p g rule.body.0) (rule_body_in p g rule i) in
      let from : bodies_from p g ≡ p.groups_from + length (groups_piece p g).entries = bodies_from_at p g range (stand_before t p g laid) in
      record {
        some = omega (arith, laid.groups, from);
        below = omega (arith, place.0, from, ends_at, length-append (groups_piece p g).entries (body_entries p g), bodies_length p g);
      }

  where_before : (test : Head → Bool) → AreBefore ends (bodies_where p g test)
  where_before test = before_from_in ends (bodies_where p g test) (λ l i.
      let found = in_where p g test l i in
      subst (λ (m : Lit). IsBefore ends m.var.0) (sym found.3) (body_before found.0 found.1))

  joined_before : (a : ℕ) → AreBefore ends (joined p g a)
  joined_before a = before_from_in ends (joined p g a) (λ l i.
      let found = in_joined p g a l i in
      subst (λ (m : Lit). IsBefore ends m.var.0) found.3 (before_more (p.before + 1) ends found.0.1.var.0 (omega (arith, ends_at, laid.groups)) (joins found.0.1 (zip_right g.inputs p.joins found.0 found.1))))

  both_before : (xs ys : List Lit) → AreBefore ends xs → AreBefore ends ys → AreBefore ends (xs ++ ys)
  both_before [] ys h k = k
  both_before (x ∷ xs) ys h k = (h.0, both_before xs ys h.1 k)

  atom_before : (a : ℕ) → IsNumberOf (length g.atoms) a → IsEntryBefore ends (atom_entry p g a)
  unfolding atom_entry
  atom_before a r =
      let v : ℕ = atom_var p a in
      let own : IsBefore ends v = record { some = omega (arith, r.0); below = omega (arith, r.1, ends_at, laid.groups) } in
      let held : AreBefore ends (supports_at p g a) = both_before (joined p g a) (bodies_where p g (allows a)) (joined_before a) (where_before (allows a)) in
      let forced : AreBefore ends (forcing p g a) = both_before (joined p g a) (bodies_where p g (forces a)) (joined_before a) (where_before (forces a)) in
      record {
        clauses = clauses_append ends (map (λ b. clause (yes v ∷ opposite b ∷ [])) (forcing p g a)) (clause (no v ∷ supports_at p g a) ∷ [])
            (pairs_before ends (yes v) opposite (forcing p g a) own (λ m. refl) forced)
            (ascending_before ends (no v ∷ supports_at p g a) (own, held), tt);
        kind = held;
      }

  atoms_before_from : (from n : ℕ) → ((a : ℕ) → from ≤ a → a < from + n → IsEntryBefore ends (atom_entry p g a)) → AreEntriesBefore ends (map (atom_entry p g) (range_with_len from n))
  atoms_before_from from zero h = tt
  atoms_before_from from (suc n) h = (h from (omega arith) (omega arith), atoms_before_from (from + 1) n (λ a le lt. h a (omega arith) (omega arith)))

  atoms_all_before : AreEntriesBefore ends (atom_entries p g)
  unfolding atom_entries
  atoms_all_before = atoms_before_from 1 (length g.atoms) (λ a le lt. atom_before a (omega arith, omega arith))

  constraints_before : AllByRecursion (AreBefore ends) (constraint_clauses p g)
  unfolding constraint_clauses
  constraints_before = go (bodies_where p g forbids) (where_before forbids)
    where
      go : (bs : List Lit) → AreBefore ends bs → AllByRecursion (AreBefore ends) (map (λ b. opposite b ∷ []) bs)
      go [] h = tt
      go (b ∷ bs) h = ((h.0, tt), go bs h.1)

  all_before : AreEntriesBefore ends (entries t p g laid older_clauses)
  unfolding ends
  all_before =
      let inner : List Entry = (groups_piece p g).entries ++ body_entries p g in
      let own = defined_before p.groups_from (length t.variables + 1) inner (rest_defined p g range (stand_before t p g laid)) (omega (arith, ends_at)) in
      let parts = split_all (IsEntryBefore (length t.variables + 1)) (groups_piece p g).entries (body_entries p g) own in
      join_all (IsEntryBefore (length t.variables + 1)) (atom_entries p g) (laid.between ++ ((groups_piece p g).entries ++ (body_entries p g ++ laid.behind))) atoms_all_before
      (join_all (IsEntryBefore (length t.variables + 1)) laid.between ((groups_piece p g).entries ++ (body_entries p g ++ laid.behind)) between
      (join_all (IsEntryBefore (length t.variables + 1)) (groups_piece p g).entries (body_entries p g ++ laid.behind) parts.0
      (join_all (IsEntryBefore (length t.variables + 1)) (body_entries p g) laid.behind parts.1 behind)))

  pub whole_with : IsWhole t
  unfolding ends
  whole_with =
      let es : List Entry = entries t p g laid older_clauses in
      let n : ℕ = length t.variables + 1 in
      let up : p.before + 1 ≤ n = omega (arith, ends_at, laid.groups) in
      let clauses : AllByRecursion (AreBefore n) (clauses_of es ++ constraint_clauses p g) = clauses_append n (clauses_of es) (constraint_clauses p g) (entries_clauses_before n es all_before) constraints_before in
      whole_from t
      (subst (AreKindsBefore n) (sym laid.variables) (join_all (IsKindBefore n) laid.older (kinds_of es) (kinds_more (p.before + 1) n laid.older up older_kinds) (entries_kinds_before n es all_before)))
      (subst (AreSlotsBefore n) (sym has) (join_all (IsSlotBefore n) older_clauses (map (λ c. Some c) (clauses_of es ++ constraint_clauses p g)) (slots_more (p.before + 1) n older_clauses up older_slots) (slots_before n (clauses_of es ++ constraint_clauses p g) clauses)))
