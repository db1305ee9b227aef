-- What is left when nothing is pending is the greatest unfounded set.
use Rattle.std.proofs.Common.{◌≡◌, ◌≢◌, ℕ, ◌+◌, ◌<◌, ◌≤◌, false, ◌⊎◌, Bool, not, Option, Some, None, List, [], length, get_or, refl, sym, ap, ◌∙◌, subst, arith, ⊎_elim}
use Rattle.std.specs.Prelude.{IsTrue, IsFalse, ◌↔◌}
use Rattle.std.specs.List.{All, Contains}
use Rattle.std.specs.Option.{option_and_then}
use Rattle.std.proofs.lemmas.Bool.{and_from, and_parts, false_from_ne_true, false≢true, not-true, not_from_false}
use Rattle.std.proofs.lemmas.List.Elements.{All-contains, Contains-get_or}
use Rattle.std.proofs.lemmas.List.Folds.{list_any_at}
use Rattle.theory_form.specs.declared.literals.Lit.{Lit}
use Rattle.theory_form.specs.declared.literals.Var.{Var}
use Rattle.theory_form.specs.declared.rows.BodyRow.{BodyRow}
use Rattle.theory_form.specs.declared.rows.VarKind.{VarKind}
use Rattle.theory_form.specs.declared.rows.VarKind.TheVariants.{Atom, Sum, Body, Search, Other}
use Rattle.theory_form.specs.Kinds.{atom_block, body_row}
use Rattle.theory_form.specs.Theories.{TheoryView, AreAtoms, body_of, kind_of}
use Rattle.theory_form.specs.Truth.{IsFalseIn, value_of}
use Rattle.theory_form.proofs.NumberLemmas.{at_number_within}
use Rattle.theory_model.specs.Loops.{IsExternal, is_internal, is_positive_in, rests_on}
use Rattle.loop_nogoods.specs.declared.founding.Founding.{Founding}
use Rattle.loop_nogoods.specs.Bodies.{body_lits, lits_in, support_lits}
use Rattle.loop_nogoods.specs.Founding.{AreSettled, Awaits, Drains, IsBegun, IsEmptied, IsFinished, IsFit, IsOpenAtom, IsRested, IsSettled, IsSound, IsTended, Keeps, SettlesAll, Step, unfounded_in, waits}
use Rattle.sets.specs.Sets.{IsSubset}
use Rattle.loop_nogoods.specs.Marks.{marked}
use Rattle.loop_nogoods.specs.Unfounded.{IsUnfounded}
use Rattle.loop_nogoods.proofs.MemberLemmas.{nothing_in}
use Rattle.loop_nogoods.proofs.SupportLemmas.{atom_is_variable, from_supports, supports_from}

-- an atom stands for no body
atom_has_no_body : (v block : ℕ) (o : Option VarKind) → option_and_then atom_block o ≡ Some block → lits_in (option_and_then (body_row v) o) ≡ []
atom_has_no_body v block None h = refl
atom_has_no_body v block (Some (Atom b supports)) h = refl
atom_has_no_body v block (Some (Sum terms bound)) h = refl
atom_has_no_body v block (Some (Body lits)) h = absurd (cc)
atom_has_no_body v block (Some Search) h = refl
atom_has_no_body v block (Some Other) h = refl

-- a variable with a body is one of the theory
body_is_variable : (t : TheoryView) (v : ℕ) → 0 < length (body_lits t v) → v ≤ length t.variables
body_is_variable t v h = at (kind_of t v) refl
  where
    at : (o : Option VarKind) → kind_of t v ≡ o → v ≤ length t.variables
    at None e = let none : 0 < 0 = subst (λ (k : Option VarKind). 0 < length (lits_in (option_and_then (body_row v) k))) e h in absurd (omega arith)
    at (Some k) e = at_number_within t.variables v k e

-- the empty tables with the open atoms marked
pub begun_from : (t : TheoryView) (block : ℕ) (a : List (Option Bool)) (empty s : Founding) (vars : List Var) → IsEmptied t empty → AreAtoms t block vars → length s.atoms ≡ length empty.atoms → ((v : Var) → IsTrue (marked s.atoms v.0) ↔ (Contains vars v × (value_of a v.0 ≢ Some false))) → s.founded ≡ empty.founded → s.waiting ≡ empty.waiting → s.pending.items ≡ empty.pending.items → IsBegun t block a s
begun_from t block a empty s vars e atoms places marks founded waiting pending =
    let clear : (v : ℕ) → IsFalse (marked s.founded v) = λ v. subst (λ m. IsFalse (marked m v)) (sym founded) (e.founded v) in
    let nothing : (v : ℕ) → waits s.waiting v ≡ [] = λ v. subst (λ table. waits table v ≡ []) (sym waiting) (e.waiting v) in
    let size : length s.founded ≡ length t.variables + 1 = ap length founded ∙ e.founded_places in
    record {
      atoms_are = λ v. (
        (λ h. let m = (marks (record { 0 = v })).0 h in ((atoms.members (record { 0 = v })).0 m.0, m.1)),
        λ h. (marks (record { 0 = v })).1 ((atoms.members (record { 0 = v })).1 h.0, h.1),
      );
      places = omega arith;
      founded = clear;
      waiting = nothing;
      valid = record {
        atoms_places = places ∙ (e.atoms_places ∙ sym size);
        waiting_places = ap length waiting ∙ (e.waiting_places ∙ sym size);
        heads = λ v d m. absurd (nothing_in d (subst (λ xs. Contains xs d) (nothing v) m));
        queued = λ v h. absurd (nothing_in v (subst (λ (xs : List Var). Contains xs v) (pending ∙ e.pending) h));
        pending = λ v h. absurd (false≢true (sym (clear v) ∙ h));
      };
    }

-- the program's atoms have places
pub atoms_have_places : (t : TheoryView) (block places : ℕ) (vars : List Var) → AreAtoms t block vars → places ≡ length t.variables + 1 → All (λ (v : Var). v.0 < places) vars
atoms_have_places t block places vars atoms size i d lt =
    let v : Var = get_or vars i d in
    let known = atom_is_variable t block v.0 ((atoms.members v).0 (Contains-get_or vars i d lt)) in
    let high = known.1 in
    omega arith

module _ (t : TheoryView) (block : ℕ) (a : List (Option Bool)) (s : Founding) (begun : IsBegun t block a s) where
  pub begun_tended : IsTended t s
  begun_tended v e m = absurd (nothing_in e (subst (λ xs. Contains xs e) (begun.waiting v) m))

  pub begun_fit : IsFit t s
  begun_fit = record {
    known = λ v atom. atom_is_variable t block v ((begun.atoms_are v).0 atom).0;
    atoms = λ v atom. atom_has_no_body v block (kind_of t v) ((begun.atoms_are v).0 atom).0;
    bodies = λ v some. let within = body_is_variable t v some in let room = begun.places in omega arith;
  }

  begun_sound : (w : ℕ → Bool) → IsSound t w s
  begun_sound w = record {
    founded = λ v f. absurd (false≢true (sym (begun.founded v) ∙ f));
    waiting = λ v e m. absurd (nothing_in e (subst (λ xs. Contains xs e) (begun.waiting v) m));
  }

  unfounded_part : (w : ℕ → Bool) → IsUnfounded t block a w → IsSubset w (marked s.atoms)
  unfounded_part w u v h = (begun.atoms_are v).1 (u.atoms v h, u.not_false v h)

  -- an unfounded set keeps each of its atoms
  unfounded_keeps : (w : ℕ → Bool) → IsUnfounded t block a w → (v : ℕ) → All (Keeps t a w v) (support_lits t v)
  unfounded_keeps w u v k d lt not_false external = false_from_ne_true (w v) (λ on.
      let l : Lit = get_or (support_lits t v) k d in
      not_false (u.supports l (v, on, supports_from _ l (Contains-get_or (support_lits t v) k d lt), external)))

  -- a list with the program's atoms has the open ones
  pub begun_settled : (s1 : Founding) (vars : List Var) → AreAtoms t block vars → SettlesAll t a s s1 vars → AreSettled t a s1
  begun_settled s1 vars atoms all v on =
      let open_atom = (begun.atoms_are v).0 (subst (λ m. IsTrue (marked m v)) all.step.atoms_same on) in
      All-contains (λ (w : Var). IsTrue (marked s1.atoms w.0) → All (IsSettled a s1 w.0) (support_lits t w.0)) vars (record { 0 = v }) all.settled
      ((atoms.members (record { 0 = v })).1 open_atom.0) on

  module _ (s1 s2 : Founding) (step : Step t s s1) (settled : AreSettled t a s1) (sound : (w : ℕ → Bool) → IsSubset w (marked s.atoms) → ((v : ℕ) → IsTrue (marked s.atoms v) → All (Keeps t a w v) (support_lits t v)) → IsSound t w s → IsSound t w s1) (drains : Drains t s1 s2) (empty : s2.pending.items ≡ []) where
    same_atoms : s2.atoms ≡ s.atoms
    same_atoms = drains.atoms_same ∙ step.atoms_same

    end_sound : (w : ℕ → Bool) → IsUnfounded t block a w → IsSound t w s2
    end_sound w u =
        let part = unfounded_part w u in
        drains.sound w (subst (λ m. IsSubset w (marked m)) (sym step.atoms_same) part)
        (sound w part (λ v atom. unfounded_keeps w u v) (begun_sound w))

    -- nothing waits for what is founded
    nothing_waits : (v head : ℕ) → IsTrue (marked s2.founded v) → Awaits s2 v head → ⊥
    nothing_waits v head f w = ⊎_elim
        (λ (p : Contains s2.pending.items (record { 0 = v })). nothing_in (record { 0 = v }) (subst (λ (xs : List Var). Contains xs (record { 0 = v })) empty p))
        (λ (none : waits s2.waiting v ≡ []). nothing_in w.0 (subst (λ xs. Contains xs w.0) none w.1))
        (drains.valid.pending v f)

    unfounded_here : (v : ℕ) → IsTrue (marked s2.atoms v) → (IsTrue (marked s2.founded v) → ⊥) → IsTrue (unfounded_in s2 v)
    unfounded_here v atom off =
        and_from (marked s2.atoms v) (not (marked s2.founded v)) atom (not_from_false (marked s2.founded v) (false_from_ne_true (marked s2.founded v) off))

    -- a body that rests has the positive literal of an atom that is left
    rested_internal : (l : Lit) (head : ℕ) → IsTrue l.yes → Awaits s2 l.var.0 head → IsRested t s2 l.var.0 → IsTrue (is_internal t (unfounded_in s2) l)
    rested_internal l head positive w r = ⊎_elim
        (λ (f : IsTrue (marked s2.founded l.var.0)). absurd (nothing_waits l.var.0 head f w))
        (λ (b : (m : Lit) × Contains (body_lits t l.var.0) m × IsTrue m.yes × IsTrue (marked s2.atoms m.var.0) × Awaits s2 m.var.0 l.var.0).
        let m : Lit = b.0 in
        let left = unfounded_here m.var.0 b.3 (λ f. nothing_waits m.var.0 l.var.0 f b.4) in
        and_from l.yes (rests_on (unfounded_in s2) (body_of t l.var.0)) positive
        (rests_on_member (unfounded_in s2) (body_of t l.var.0) m b.1 (and_from m.yes (unfounded_in s2 m.var.0) b.2 left)))
        r
      where
        rests_on_member : (u : ℕ → Bool) (o : Option BodyRow) (m : Lit) → Contains (lits_in o) m → IsTrue (is_positive_in u m) → IsTrue (rests_on u o)
        rests_on_member u None m h p = absurd (nothing_in m h)
        rests_on_member u (Some row) m h p = list_any_at (is_positive_in u) row.lits h.0 m h.1 (ap (is_positive_in u) h.2 ∙ p)

    left_supports : (l : Lit) → IsExternal t (unfounded_in s2) l → IsFalseIn a l
    left_supports l e =
        let v = e.0 in
        let parts = and_parts (marked s2.atoms v) (not (marked s2.founded v)) e.1 in
        let here = All-contains (IsSettled a s2 v) (support_lits t v) l (drains.settled a settled v parts.0) (from_supports _ l e.2) in
        ⊎_elim
        (λ (f : IsFalseIn a l). f)
        (λ (r : IsTrue (marked s2.founded v) ⊎ (IsTrue l.yes × IsFalse (marked s2.atoms l.var.0) × Awaits s2 l.var.0 v)). ⊎_elim
        (λ (f : IsTrue (marked s2.founded v)). absurd (false≢true (sym (not-true (marked s2.founded v) parts.1) ∙ f)))
        (λ (w : IsTrue l.yes × IsFalse (marked s2.atoms l.var.0) × Awaits s2 l.var.0 v). ⊎_elim
        (λ (atom : IsTrue (marked s2.atoms l.var.0)). absurd (false≢true (sym w.1 ∙ atom)))
        (λ (rest : IsRested t s2 l.var.0). absurd (false≢true (sym e.3 ∙ rested_internal l v w.0 w.2 rest)))
        (drains.tended l.var.0 w.2.0 w.2.1))
        r)
        here

    pub finished : IsFinished t block a s2
    finished = record {
      atoms_are = λ v. subst (λ m. IsTrue (marked m v) ↔ IsOpenAtom t block a v) (sym same_atoms) (begun.atoms_are v);
      greatest = λ w u v on.
          let atom = subst (λ m. IsTrue (marked m v)) (sym same_atoms) (unfounded_part w u v on) in
          unfounded_here v atom (λ f. false≢true (sym ((end_sound w u).founded v f).variable ∙ on));
      supports = left_supports;
    }
