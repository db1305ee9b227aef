-- One founded variable after another: what waited for it is settled anew.
use Rattle.std.proofs.Common.{◌≡◌, ℕ, ◌<◌, ◌⊎◌, inl, inr, Bool, Option, Some, None, List, [], ◌∷◌, ◌++◌, length, take, get_or, refl, sym, ap, ◌∙◌, subst, ⊎_elim}
use Rattle.std.specs.Prelude.{IsTrue, IsFalse, unwrap_or}
use Rattle.std.specs.List.{All, Contains}
use Rattle.std.specs.Option.{option_and_then}
use Rattle.std.specs.Global.{Vec}
use Rattle.std.proofs.lemmas.Bool.{cases_eq}
use Rattle.std.proofs.lemmas.List.Elements.{All-contains, Contains-append_left, Contains-get_or, Contains-push_cases}
use Rattle.theory_form.specs.declared.literals.Lit.{Lit}
use Rattle.theory_form.specs.declared.literals.Var.{Var}
use Rattle.theory_form.specs.declared.rows.VarKind.{VarKind}
use Rattle.theory_form.specs.declared.rows.VarKind.TheVariants.{Atom, Sum, Body, Search, Other}
use Rattle.theory_form.specs.Kinds.{atom_supports, body_row}
use Rattle.theory_form.specs.Theories.{TheoryView, kind_of}
use Rattle.theory_form.specs.Truth.{IsFalseIn}
use Rattle.loop_nogoods.specs.declared.founding.Founding.{Founding}
use Rattle.loop_nogoods.specs.declared.waits.Wait.{Wait}
use Rattle.loop_nogoods.specs.Bodies.{body_lits, lits_in, support_lits}
use Rattle.loop_nogoods.specs.Founding.{AreSettled, Awaits, Drains, IsFounding, IsRested, IsSettled, IsSound, IsTended, Misses, Step, Takes, waits}
use Rattle.sets.specs.Sets.{IsSubset}
use Rattle.loop_nogoods.specs.Marks.{marked}
use Rattle.loop_nogoods.proofs.MemberLemmas.{nothing_in}

-- a variable with a support is an atom and stands for no body
no_body_of : (v : ℕ) (o : Option VarKind) (l : Lit) → Contains (unwrap_or (option_and_then atom_supports o) []) l → lits_in (option_and_then (body_row v) o) ≡ []
no_body_of v None l h = refl
no_body_of v (Some (Atom block supports)) l h = refl
no_body_of v (Some (Sum terms bound)) l h = refl
no_body_of v (Some (Body lits)) l h = absurd (nothing_in l h)
no_body_of v (Some Search) l h = refl
no_body_of v (Some Other) l h = refl

pub no_body : (t : TheoryView) (v : ℕ) (l : Lit) → Contains (support_lits t v) l → body_lits t v ≡ []
no_body t v l h = no_body_of v (kind_of t v) l h

pub taken_valid : (s0 s1 : Founding) (v : Var) (list : List Wait) → Takes s0.waiting s1.waiting v.0 list → s1.atoms ≡ s0.atoms → s1.founded ≡ s0.founded → s0.pending.items ≡ s1.pending.items ++ v ∷ [] → IsFounding s0 → IsFounding s1
taken_valid s0 s1 v list takes atoms founded pending i = record {
  atoms_places = ap length atoms ∙ (i.atoms_places ∙ ap length (sym founded));
  waiting_places = takes.size ∙ (i.waiting_places ∙ ap length (sym founded));
  heads = λ c e m. subst (λ marks. e.head.0 < length marks) (sym founded) (⊎_elim
      (λ (is : c ≡ v.0). absurd (nothing_in e (subst (λ xs. Contains xs e) (ap (waits s1.waiting) is ∙ takes.here) m)))
      (λ (ne : c ≡ v.0 → ⊥). i.heads c e (subst (λ xs. Contains xs e) (takes.others c ne) m))
      (cases_eq c v.0));
  queued = λ c m. subst (λ marks. IsTrue (marked marks c.0)) (sym founded) (i.queued c (subst (λ xs. Contains xs c) (sym pending) (Contains-append_left s1.pending.items (v ∷ []) c m)));
  pending = λ c h. ⊎_elim
      (λ (is : c ≡ v.0). inr (ap (waits s1.waiting) is ∙ takes.here))
      (λ (ne : c ≡ v.0 → ⊥). ⊎_elim
      (λ (p : Contains s0.pending.items (record { 0 = c })). ⊎_elim
      (λ (q : Contains s1.pending.items (record { 0 = c })). inl q)
      (λ (is : v ≡ record { 0 = c }). absurd (ne (sym (ap (λ (x : Var). x.0) is))))
      (Contains-push_cases s1.pending.items v (record { 0 = c }) (subst (λ xs. Contains xs (record { 0 = c })) pending p)))
      (λ (none : waits s0.waiting c ≡ []). inr (takes.others c ne ∙ none))
      (i.pending c (subst (λ marks. IsTrue (marked marks c)) founded h)))
      (cases_eq c v.0);
}

pub taken_heads : (s0 : Founding) (table : List (List Wait)) (v : ℕ) (list : List Wait) → Takes s0.waiting table v list → IsFounding s0 → All (λ (e : Wait). e.head.0 < length s0.founded) list
taken_heads s0 table v list takes i k d lt =
    i.heads v (get_or list k d) (subst (λ xs. Contains xs (get_or list k d)) takes.taken (Contains-get_or list k d lt))

pub Drains-same : (t : TheoryView) (s : Founding) → IsFounding s → IsTended t s → Drains t s s
Drains-same t s valid tended = record {
  atoms_same = refl;
  valid = valid;
  tended = tended;
  settled = λ a h. h;
  sound = λ w part h. h;
}

-- one variable is taken out of the list of the pending, and what waited for it is settled
module _ (t : TheoryView) (s s0 s1 s2 : Founding) (v : Var) (list : List Wait) (takes : Takes s0.waiting s1.waiting v.0 list) (atoms : s1.atoms ≡ s0.atoms) (founded : s1.founded ≡ s0.founded) (step : Step t s1 s2) (rested : All (λ (e : Wait). IsRested t s2 e.head.0) list) where
  taken_rested : (head : ℕ) → Awaits s0 v.0 head → IsRested t s2 head
  taken_rested head w =
      let m = subst (λ xs. Contains xs w.0) (sym takes.taken) w.1 in
      subst (IsRested t s2) w.2 (All-contains (λ (e : Wait). IsRested t s2 e.head.0) list w.0 rested m)

  other_awaits : (x head : ℕ) → (x ≡ v.0 → ⊥) → Awaits s0 x head → Awaits s2 x head
  other_awaits x head ne w = (w.0, step.kept x w.0 (subst (λ xs. Contains xs w.0) (sym (takes.others x ne)) w.1), w.2)

  still_founded : (x : ℕ) → IsTrue (marked s0.founded x) → IsTrue (marked s2.founded x)
  still_founded x h = step.founded x (subst (λ m. IsTrue (marked m x)) (sym founded) h)

  same_atoms : s2.atoms ≡ s0.atoms
  same_atoms = step.atoms_same ∙ atoms

  turn_rested : (x : ℕ) → IsRested t s0 x → IsRested t s2 x
  turn_rested x h = ⊎_elim
      (λ (f : IsTrue (marked s0.founded x)). inl (still_founded x f))
      (λ (b : (l : Lit) × Contains (body_lits t x) l × IsTrue l.yes × IsTrue (marked s0.atoms l.var.0) × Awaits s0 l.var.0 x). ⊎_elim
      (λ (is : b.0.var.0 ≡ v.0). taken_rested x (subst (λ n. Awaits s0 n x) is b.4))
      (λ (ne : b.0.var.0 ≡ v.0 → ⊥).
      inr (b.0, b.1, b.2, subst (λ m. IsTrue (marked m b.0.var.0)) (sym same_atoms) b.3, other_awaits b.0.var.0 x ne b.4))
      (cases_eq b.0.var.0 v.0))
      h

  turn_tended : IsTended t s0 → IsTended t s2
  turn_tended tended x e m = ⊎_elim
      (λ (old : Contains (waits s1.waiting x) e). ⊎_elim
      (λ (is : x ≡ v.0). absurd (nothing_in e (subst (λ xs. Contains xs e) (ap (waits s1.waiting) is ∙ takes.here) old)))
      (λ (ne : x ≡ v.0 → ⊥). ⊎_elim
      (λ (atom : IsTrue (marked s0.atoms x)). inl (subst (λ m'. IsTrue (marked m' x)) (sym same_atoms) atom))
      (λ (r : IsRested t s0 x). inr (turn_rested x r))
      (tended x e (subst (λ xs. Contains xs e) (takes.others x ne) old)))
      (cases_eq x v.0))
      (λ (new : IsTrue (marked s2.atoms x) ⊎ IsRested t s2 x). new)
      (step.added x e m)

  -- an atom that rests is founded
  rested_atom : (x : ℕ) (l : Lit) → Contains (support_lits t x) l → IsRested t s2 x → IsTrue (marked s2.founded x)
  rested_atom x l support r = ⊎_elim
      (λ (f : IsTrue (marked s2.founded x)). f)
      (λ (b : (m : Lit) × Contains (body_lits t x) m × IsTrue m.yes × IsTrue (marked s2.atoms m.var.0) × Awaits s2 m.var.0 x).
      absurd (nothing_in b.0 (subst (λ ls. Contains ls b.0) (no_body t x l support) b.1)))
      r

  turn_settled_at : (a : List (Option Bool)) (x : ℕ) (l : Lit) → Contains (support_lits t x) l → IsSettled a s0 x l → IsSettled a s2 x l
  turn_settled_at a x l support h = ⊎_elim
      (λ (f : IsFalseIn a l). inl f)
      (λ (r : IsTrue (marked s0.founded x) ⊎ (IsTrue l.yes × IsFalse (marked s0.atoms l.var.0) × Awaits s0 l.var.0 x)). inr (⊎_elim
      (λ (f : IsTrue (marked s0.founded x)). inl (still_founded x f))
      (λ (w : IsTrue l.yes × IsFalse (marked s0.atoms l.var.0) × Awaits s0 l.var.0 x). ⊎_elim
      (λ (is : l.var.0 ≡ v.0). inl (rested_atom x l support (taken_rested x (subst (λ n. Awaits s0 n x) is w.2))))
      (λ (ne : l.var.0 ≡ v.0 → ⊥). inr (w.0, subst (λ m. IsFalse (marked m l.var.0)) (sym same_atoms) w.1, other_awaits l.var.0 x ne w.2))
      (cases_eq l.var.0 v.0))
      r))
      h

  turn_settled : (a : List (Option Bool)) → AreSettled t a s0 → AreSettled t a s2
  turn_settled a h x atom k d lt =
      let l : Lit = get_or (support_lits t x) k d in
      turn_settled_at a x l (Contains-get_or (support_lits t x) k d lt) (h x (subst (λ m. IsTrue (marked m x)) same_atoms atom) k d lt)

  taken_sound : (w : ℕ → Bool) → IsSound t w s0 → IsSound t w s1
  taken_sound w h = record {
    founded = λ x f. h.founded x (subst (λ m. IsTrue (marked m x)) founded f);
    waiting = λ x e m. ⊎_elim
        (λ (is : x ≡ v.0). absurd (nothing_in e (subst (λ xs. Contains xs e) (ap (waits s1.waiting) is ∙ takes.here) m)))
        (λ (ne : x ≡ v.0 → ⊥). h.waiting x e (subst (λ xs. Contains xs e) (takes.others x ne) m))
        (cases_eq x v.0);
  }

  taken_misses : (w : ℕ → Bool) → IsTrue (marked s0.founded v.0) → IsSound t w s0 → All (λ (e : Wait). Misses w e.head.0 (take e.place (body_lits t e.head.0))) list
  taken_misses w f h k d lt =
      h.waiting v.0 (get_or list k d) (subst (λ xs. Contains xs (get_or list k d)) takes.taken (Contains-get_or list k d lt)) (h.founded v.0 f)

  pub turn_drains : IsFounding s1 → IsTrue (marked s0.founded v.0) → ((w : ℕ → Bool) → IsSubset w (marked s1.atoms) → All (λ (e : Wait). Misses w e.head.0 (take e.place (body_lits t e.head.0))) list → IsSound t w s1 → IsSound t w s2) → Drains t s s0 → Drains t s s2
  turn_drains valid f sound before = record {
    atoms_same = same_atoms ∙ before.atoms_same;
    valid = step.valid valid;
    tended = turn_tended before.tended;
    settled = λ a h. turn_settled a (before.settled a h);
    sound = λ w part h.
        let mid = before.sound w part h in
        sound w (subst (λ m. IsSubset w (marked m)) (sym (atoms ∙ before.atoms_same)) part) (taken_misses w f mid) (taken_sound w mid);
  }

-- the same state, with an equal list of what is pending
pub Drains-pending : (t : TheoryView) (s s0 : Founding) (pending : Vec Var) → pending.items ≡ s0.pending.items → Drains t s s0 → Drains t s (record { atoms = s0.atoms; founded = s0.founded; waiting = s0.waiting; pending = pending })
Drains-pending t s s0 pending same d = record {
  atoms_same = d.atoms_same;
  valid = record {
    atoms_places = d.valid.atoms_places;
    waiting_places = d.valid.waiting_places;
    heads = d.valid.heads;
    queued = λ v m. d.valid.queued v (subst (λ xs. Contains xs v) same m);
    pending = λ v f. subst (λ xs. Contains xs (record { 0 = v }) ⊎ (waits s0.waiting v ≡ [])) (sym same) (d.valid.pending v f);
  };
  tended = d.tended;
  settled = d.settled;
  sound = λ w part h. let k = d.sound w part h in record { founded = k.founded; waiting = k.waiting };
}
