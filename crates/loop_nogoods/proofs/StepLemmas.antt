-- What each part of the search keeps.
use Rattle.std.proofs.Common.{◌≡◌, ◌≢◌, ℕ, ◌+◌, ◌<◌, ◌⊎◌, inl, inr, Bool, true, false, cond, List, [], ◌∷◌, ◌++◌, length, take, get_or, refl, sym, ap, ◌∙◌, subst, arith, slice_set, ⊎_elim, Option}
use Rattle.std.specs.Prelude.{IsTrue, IsFalse}
use Rattle.std.specs.List.{All, Contains}
use Rattle.std.proofs.lemmas.Bool.{cases_eq, false≢true}
use Rattle.std.proofs.lemmas.List.{get_or-set_same, get_or-set_other, length-append, length-set}
use Rattle.std.proofs.lemmas.List.Elements.{All-more, All-nil, All-weaker, Contains-append_left, Contains-push, Contains-push_cases}
use Rattle.std.proofs.lemmas.List.Sums.{sum_by-set}
use Rattle.theory_form.specs.declared.literals.Lit.{Lit}
use Rattle.theory_form.specs.declared.literals.Var.{Var}
use Rattle.theory_form.specs.Theories.{TheoryView}
use Rattle.theory_form.specs.Truth.{IsFalseIn}
use Rattle.loop_nogoods.specs.declared.founding.Founding.{Founding}
use Rattle.loop_nogoods.specs.declared.waits.Wait.{Wait}
use Rattle.loop_nogoods.specs.Bodies.{body_lits, support_lits}
use Rattle.loop_nogoods.specs.Founding.{Appends, Awaits, IsRested, IsSettled, IsSound, IsTended, Keeps, SettlesAll, Step, mark_count, waits}
use Rattle.sets.specs.Sets.{IsSubset}
use Rattle.loop_nogoods.specs.Marks.{marked}

pub mark_kept : (m : List Bool) (v c : ℕ) → v < length m → IsTrue (marked m c) → IsTrue (marked (slice_set m v true) c)
mark_kept m v c lt h = ⊎_elim
    (λ (e : c ≡ v). subst (λ n. IsTrue (marked (slice_set m v true) n)) (sym e) (get_or-set_same m v true false lt))
    (λ (ne : c ≡ v → ⊥). get_or-set_other m v c true false ne ∙ h)
    (cases_eq c v)

pub mark_cases : (m : List Bool) (v c : ℕ) → IsTrue (marked (slice_set m v true) c) → (c ≡ v) ⊎ IsTrue (marked m c)
mark_cases m v c h = ⊎_elim
    (λ (e : c ≡ v). inl e)
    (λ (ne : c ≡ v → ⊥). inr (sym (get_or-set_other m v c true false ne) ∙ h))
    (cases_eq c v)

pub step_found : (t : TheoryView) (s0 s1 : Founding) (v : Var) → v.0 < length s0.founded → IsFalse (marked s0.founded v.0) → s1.atoms ≡ s0.atoms → s1.founded ≡ slice_set s0.founded v.0 true → s1.waiting ≡ s0.waiting → s1.pending.items ≡ s0.pending.items ++ v ∷ [] → Step t s0 s1
step_found t s0 s1 v lt off atoms founded waiting pending = record {
  atoms_same = atoms;
  places = places;
  founded = λ c h. subst (λ m. IsTrue (marked m c)) (sym founded) (mark_kept s0.founded v.0 c lt h);
  kept = λ c e m. subst (λ table. Contains (waits table c) e) (sym waiting) m;
  added = λ c e m. inl (subst (λ table. Contains (waits table c) e) waiting m);
  valid = λ i. record {
    atoms_places = ap length atoms ∙ (i.atoms_places ∙ sym places);
    waiting_places = ap length waiting ∙ (i.waiting_places ∙ sym places);
    heads = λ c e m. subst (λ n. e.head.0 < n) (sym places) (i.heads c e (subst (λ table. Contains (waits table c) e) waiting m));
    queued = λ c m. subst (λ marks. IsTrue (marked marks c.0)) (sym founded) (⊎_elim
        (λ (old : Contains s0.pending.items c). mark_kept s0.founded v.0 c.0 lt (i.queued c old))
        (λ (is : v ≡ c). subst (λ (n : Var). IsTrue (marked (slice_set s0.founded v.0 true) n.0)) is (get_or-set_same s0.founded v.0 true false lt))
        (Contains-push_cases s0.pending.items v c (subst (λ xs. Contains xs c) pending m)));
    pending = λ c h. ⊎_elim
        (λ (is : c ≡ v.0). inl (subst (λ xs. Contains xs (record { 0 = c })) (sym pending) (subst (λ n. Contains (s0.pending.items ++ v ∷ []) (record { 0 = n })) (sym is) (Contains-push s0.pending.items v))))
        (λ (old : IsTrue (marked s0.founded c)). ⊎_elim
        (λ (p : Contains s0.pending.items (record { 0 = c })). inl (subst (λ xs. Contains xs (record { 0 = c })) (sym pending) (Contains-append_left s0.pending.items (v ∷ []) (record { 0 = c }) p)))
        (λ (none : waits s0.waiting c ≡ []). inr (ap (λ table. waits table c) waiting ∙ none))
        (i.pending c old))
        (mark_cases s0.founded v.0 c (subst (λ m. IsTrue (marked m c)) founded h));
  };
  size =
      let weight : Bool → ℕ = λ b. cond b 1 0 in
      let count = sum_by-set weight s0.founded v.0 true false lt in
      let zero : weight (get_or s0.founded v.0 false) ≡ weight false = ap weight off in
      let same = ap mark_count founded in
      let more = ap length pending in
      omega (arith, count, zero, same, more, length-append s0.pending.items (v ∷ []));
}
  where
    places : length s1.founded ≡ length s0.founded
    places = ap length founded ∙ length-set s0.founded v.0 true

pub awaits_appended : (s0 s1 : Founding) (x : ℕ) (e : Wait) → Appends s0.waiting s1.waiting x e → Awaits s1 x e.head.0
awaits_appended s0 s1 x e more = (e, subst (λ xs. Contains xs e) (sym more.here) (Contains-push (waits s0.waiting x) e), refl)

pub step_wait : (t : TheoryView) (s0 s1 : Founding) (x : ℕ) (e : Wait) → Appends s0.waiting s1.waiting x e → e.head.0 < length s0.founded → IsFalse (marked s0.founded x) → s1.atoms ≡ s0.atoms → s1.founded ≡ s0.founded → s1.pending.items ≡ s0.pending.items → IsTrue (marked s1.atoms x) ⊎ IsRested t s1 x → Step t s0 s1
step_wait t s0 s1 x e more lt off atoms founded pending tended = record {
  atoms_same = atoms;
  places = ap length founded;
  founded = λ c h. subst (λ m. IsTrue (marked m c)) (sym founded) h;
  kept = λ c d m. ⊎_elim
      (λ (is : c ≡ x). subst (λ xs. Contains xs d) (sym (ap (waits s1.waiting) is ∙ more.here))
      (Contains-append_left (waits s0.waiting x) (e ∷ []) d (subst (λ n. Contains (waits s0.waiting n) d) is m)))
      (λ (ne : c ≡ x → ⊥). subst (λ xs. Contains xs d) (sym (more.others c ne)) m)
      (cases_eq c x);
  added = λ c d m. ⊎_elim
      (λ (is : c ≡ x). inr (subst (λ n. IsTrue (marked s1.atoms n) ⊎ IsRested t s1 n) (sym is) tended))
      (λ (ne : c ≡ x → ⊥). inl (subst (λ xs. Contains xs d) (more.others c ne) m))
      (cases_eq c x);
  valid = λ i. record {
    atoms_places = ap length atoms ∙ (i.atoms_places ∙ ap length (sym founded));
    waiting_places = more.size ∙ (i.waiting_places ∙ ap length (sym founded));
    heads = λ c d m. subst (λ m'. d.head.0 < length m') (sym founded) (⊎_elim
        (λ (is : c ≡ x). ⊎_elim
        (λ (old : Contains (waits s0.waiting x) d). i.heads x d old)
        (λ (new : e ≡ d). subst (λ (k : Wait). k.head.0 < length s0.founded) new lt)
        (Contains-push_cases (waits s0.waiting x) e d (subst (λ xs. Contains xs d) (ap (waits s1.waiting) is ∙ more.here) m)))
        (λ (ne : c ≡ x → ⊥). i.heads c d (subst (λ xs. Contains xs d) (more.others c ne) m))
        (cases_eq c x));
    queued = λ c m. subst (λ marks. IsTrue (marked marks c.0)) (sym founded) (i.queued c (subst (λ xs. Contains xs c) pending m));
    pending = λ c h.
        let old : IsTrue (marked s0.founded c) = subst (λ m. IsTrue (marked m c)) founded h in
        let ne : c ≢ x = λ is. false≢true (sym off ∙ subst (λ n. IsTrue (marked s0.founded n)) is old) in
        ⊎_elim
        (λ (p : Contains s0.pending.items (record { 0 = c })). inl (subst (λ xs. Contains xs (record { 0 = c })) (sym pending) p))
        (λ (none : waits s0.waiting c ≡ []). inr (more.others c ne ∙ none))
        (i.pending c old);
  };
  size = let more = ap length pending in let same = ap mark_count founded in omega (arith, more, same);
}

-- what waits more leaves the rested ones
pub rested_appended : (t : TheoryView) (s0 s1 : Founding) (x : ℕ) (e : Wait) → Appends s0.waiting s1.waiting x e → s1.atoms ≡ s0.atoms → s1.founded ≡ s0.founded → (v : ℕ) → IsRested t s0 v → IsRested t s1 v
rested_appended t s0 s1 x e more atoms founded v h = ⊎_elim
    (λ (f : IsTrue (marked s0.founded v)). inl (subst (λ m. IsTrue (marked m v)) (sym founded) f))
    (λ (b : (l : Lit) × Contains (body_lits t v) l × IsTrue l.yes × IsTrue (marked s0.atoms l.var.0) × Awaits s0 l.var.0 v).
    inr (b.0, b.1, b.2, subst (λ m. IsTrue (marked m b.0.var.0)) (sym atoms) b.3, (b.4.0, still b.0.var.0 b.4.0 b.4.1, b.4.2)))
    h
  where
    still : (c : ℕ) (d : Wait) → Contains (waits s0.waiting c) d → Contains (waits s1.waiting c) d
    still c d m = ⊎_elim
        (λ (is : c ≡ x). subst (λ xs. Contains xs d) (sym (ap (waits s1.waiting) is ∙ more.here))
        (Contains-append_left (waits s0.waiting x) (e ∷ []) d (subst (λ n. Contains (waits s0.waiting n) d) is m)))
        (λ (ne : c ≡ x → ⊥). subst (λ xs. Contains xs d) (sym (more.others c ne)) m)
        (cases_eq c x)

-- ---- one part after another

module _ (t : TheoryView) (s0 s1 : Founding) (step : Step t s0 s1) where
  pub awaits_kept : (v head : ℕ) → Awaits s0 v head → Awaits s1 v head
  awaits_kept v head h = (h.0, step.kept v h.0 h.1, h.2)

  pub rested_kept : (v : ℕ) → IsRested t s0 v → IsRested t s1 v
  rested_kept v h = ⊎_elim
      (λ (f : IsTrue (marked s0.founded v)). inl (step.founded v f))
      (λ (b : (l : Lit) × Contains (body_lits t v) l × IsTrue l.yes × IsTrue (marked s0.atoms l.var.0) × Awaits s0 l.var.0 v).
      inr (b.0, b.1, b.2, subst (λ m. IsTrue (marked m b.0.var.0)) (sym step.atoms_same) b.3, awaits_kept b.0.var.0 v b.4))
      h

  pub tended_kept : IsTended t s0 → IsTended t s1
  tended_kept h v e m = ⊎_elim
      (λ (old : Contains (waits s0.waiting v) e). ⊎_elim
      (λ (atom : IsTrue (marked s0.atoms v)). inl (subst (λ m'. IsTrue (marked m' v)) (sym step.atoms_same) atom))
      (λ (r : IsRested t s0 v). inr (rested_kept v r))
      (h v e old))
      (λ (new : IsTrue (marked s1.atoms v) ⊎ IsRested t s1 v). new)
      (step.added v e m)

  pub settled_kept : (a : List (Option Bool)) (v : ℕ) (l : Lit) → IsSettled a s0 v l → IsSettled a s1 v l
  settled_kept a v l h = ⊎_elim
      (λ (f : IsFalseIn a l). inl f)
      (λ (r : IsTrue (marked s0.founded v) ⊎ (IsTrue l.yes × IsFalse (marked s0.atoms l.var.0) × Awaits s0 l.var.0 v)). inr (⊎_elim
      (λ (f : IsTrue (marked s0.founded v)). inl (step.founded v f))
      (λ (w : IsTrue l.yes × IsFalse (marked s0.atoms l.var.0) × Awaits s0 l.var.0 v).
      inr (w.0, subst (λ m. IsFalse (marked m l.var.0)) (sym step.atoms_same) w.1, awaits_kept l.var.0 v w.2))
      r))
      h

  pub all_settled_kept : (a : List (Option Bool)) (v : ℕ) (lits : List Lit) → All (IsSettled a s0 v) lits → All (IsSettled a s1 v) lits
  all_settled_kept a v lits h = All-weaker (IsSettled a s0 v) (IsSettled a s1 v) (settled_kept a v) lits h

pub Step-same : (t : TheoryView) (s : Founding) → Step t s s
Step-same t s = record {
  atoms_same = refl;
  places = refl;
  founded = λ v h. h;
  kept = λ v e m. m;
  added = λ v e m. inl m;
  valid = λ i. i;
  size = refl;
}

pub Step-then : (t : TheoryView) (s0 s1 s2 : Founding) → Step t s0 s1 → Step t s1 s2 → Step t s0 s2
Step-then t s0 s1 s2 p q = record {
  atoms_same = q.atoms_same ∙ p.atoms_same;
  places = q.places ∙ p.places;
  founded = λ v h. q.founded v (p.founded v h);
  kept = λ v e m. q.kept v e (p.kept v e m);
  added = λ v e m. ⊎_elim
      (λ (mid : Contains (waits s1.waiting v) e). ⊎_elim
      (λ (old : Contains (waits s0.waiting v) e). inl old)
      (λ (new : IsTrue (marked s1.atoms v) ⊎ IsRested t s1 v). inr (⊎_elim
      (λ (atom : IsTrue (marked s1.atoms v)). inl (subst (λ m'. IsTrue (marked m' v)) (sym q.atoms_same) atom))
      (λ (r : IsRested t s1 v). inr (rested_kept t s1 s2 q v r))
      new))
      (p.added v e mid))
      (λ (new : IsTrue (marked s2.atoms v) ⊎ IsRested t s2 v). inr new)
      (q.added v e m);
  valid = λ i. q.valid (p.valid i);
  size = let a = p.size in let b = q.size in omega (arith, a, b);
}

-- ---- the atoms one after another

-- what is settled of an atom
abbrev pub HasSettled : TheoryView → List (Option Bool) → Founding → Var → Type 0
HasSettled t a s v = IsTrue (marked s.atoms v.0) → All (IsSettled a s v.0) (support_lits t v.0)

module _ (t : TheoryView) (a : List (Option Bool)) (old s : Founding) (vars : List Var) (i : ℕ) (d : Var) (lt : i < length vars) (before : SettlesAll t a old s (take i vars)) where
  pub settles_skip : IsFalse (marked s.atoms (get_or vars i d).0) → SettlesAll t a old s (take (i + 1) vars)
  settles_skip none = record {
    step = before.step;
    settled = All-more (HasSettled t a s) vars i d lt before.settled (λ atom. absurd (false≢true (sym none ∙ atom)));
    sound = before.sound;
  }

  pub settles_more : (new : Founding) → Step t s new → IsTrue (marked s.atoms (get_or vars i d).0) → All (IsSettled a new (get_or vars i d).0) (support_lits t (get_or vars i d).0) → ((w : ℕ → Bool) → IsSubset w (marked s.atoms) → All (Keeps t a w (get_or vars i d).0) (support_lits t (get_or vars i d).0) → IsSound t w s → IsSound t w new) → SettlesAll t a old new (take (i + 1) vars)
  settles_more new step atom here sound = record {
    step = Step-then t old s new before.step step;
    settled = All-more (HasSettled t a new) vars i d lt
        (All-weaker (HasSettled t a s) (HasSettled t a new) (λ v h at. all_settled_kept t s new step a v.0 (support_lits t v.0) (h (subst (λ m. IsTrue (marked m v.0)) step.atoms_same at))) (take i vars) before.settled)
        (λ at. here);
    sound = λ w part keeps h.
        sound w (subst (λ m. IsSubset w (marked m)) (sym before.step.atoms_same) part)
        (keeps (get_or vars i d).0 (subst (λ m. IsTrue (marked m (get_or vars i d).0)) before.step.atoms_same atom))
        (before.sound w part keeps h);
  }

pub settles_none : (t : TheoryView) (a : List (Option Bool)) (s : Founding) → SettlesAll t a s s []
settles_none t a s = record { step = Step-same t s; settled = All-nil (HasSettled t a s); sound = λ w part keeps h. h }
