-- Why no unfounded set has a founded variable.
use Rattle.std.proofs.Common.{Option, Some, None, ◌≡◌, ℕ, ◌+◌, ◌<◌, ◌≤◌, Bool, true, false, not, List, [], length, take, get_or, refl, sym, ap, ◌∙◌, subst, arith, slice_set, ⊎_elim}
use Rattle.std.specs.Prelude.{IsTrue, IsFalse, ◌&&◌}
use Rattle.std.specs.List.{All, AllWithin, Contains}
use Rattle.std.proofs.lemmas.Bool.{and_cases, and_left, and_parts, and_right, cases_Bool, cases_eq, cases_lt, false≢true, not-false, not-true}
use Rattle.std.proofs.lemmas.List.{get_or-take, length-take, take_all}
use Rattle.std.proofs.lemmas.List.Folds.{list_any_none}
use Rattle.std.proofs.lemmas.List.Elements.{All-more, Contains-push_cases}
use Rattle.theory_form.specs.declared.literals.Lit.{Lit}
use Rattle.theory_form.specs.declared.literals.Var.{Var}
use Rattle.theory_form.specs.declared.rows.BodyRow.{BodyRow}
use Rattle.theory_form.specs.Theories.{TheoryView, body_of}
use Rattle.theory_model.specs.Loops.{is_internal, is_positive_in, rests_on}
use Rattle.loop_nogoods.specs.declared.founding.Founding.{Founding}
use Rattle.loop_nogoods.specs.declared.waits.Wait.{Wait}
use Rattle.loop_nogoods.specs.Bodies.{body_lits, lits_in}
use Rattle.loop_nogoods.specs.Founding.{Appends, IsSound, Misses, blocks, waits}
use Rattle.sets.specs.Sets.{IsSubset}
use Rattle.loop_nogoods.specs.Marks.{marked}
use Rattle.loop_nogoods.proofs.StepLemmas.{mark_cases}

pub sound_found : (t : TheoryView) (w : ℕ → Bool) (s0 s1 : Founding) (v : Var) → s1.founded ≡ slice_set s0.founded v.0 true → s1.waiting ≡ s0.waiting → Misses w v.0 (body_lits t v.0) → IsSound t w s0 → IsSound t w s1
sound_found t w s0 s1 v founded waiting misses sound = record {
  founded = λ c h. ⊎_elim
      (λ (is : c ≡ v.0). subst (λ n. Misses w n (body_lits t n)) (sym is) misses)
      (λ (old : IsTrue (marked s0.founded c)). sound.founded c old)
      (mark_cases s0.founded v.0 c (subst (λ m. IsTrue (marked m c)) founded h));
  waiting = λ c e m. sound.waiting c e (subst (λ table. Contains (waits table c) e) waiting m);
}

pub sound_wait : (t : TheoryView) (w : ℕ → Bool) (s0 s1 : Founding) (x : ℕ) (e : Wait) → Appends s0.waiting s1.waiting x e → s1.founded ≡ s0.founded → (Misses w x (body_lits t x) → Misses w e.head.0 (take e.place (body_lits t e.head.0))) → IsSound t w s0 → IsSound t w s1
sound_wait t w s0 s1 x e more founded misses sound = record {
  founded = λ c h. sound.founded c (subst (λ m. IsTrue (marked m c)) founded h);
  waiting = λ c d m. ⊎_elim
      (λ (is : c ≡ x). ⊎_elim
      (λ (old : Contains (waits s0.waiting x) d) h. sound.waiting x d old (subst (λ n. Misses w n (body_lits t n)) is h))
      (λ (new : e ≡ d) h. subst (λ (k : Wait). Misses w k.head.0 (take k.place (body_lits t k.head.0))) new (misses (subst (λ n. Misses w n (body_lits t n)) is h)))
      (Contains-push_cases (waits s0.waiting x) e d (subst (λ xs. Contains xs d) (ap (waits s1.waiting) is ∙ more.here) m)))
      (λ (ne : c ≡ x → ⊥). sound.waiting c d (subst (λ xs. Contains xs d) (more.others c ne) m))
      (cases_eq c x);
}

-- a literal that does not block is not the positive one of a member of w
passes : (t : TheoryView) (w : ℕ → Bool) (s : Founding) (l : Lit) → IsSubset w (marked s.atoms) → IsSound t w s → IsFalse (blocks s l) → IsFalse (is_positive_in w l)
passes t w s l part sound free = ⊎_elim
    (λ (on : w l.var.0 ≡ true). ⊎_elim
    (λ (negative : l.yes ≡ false). and_left l.yes (w l.var.0) negative)
    (λ (rest : (marked s.atoms l.var.0 && not (marked s.founded l.var.0)) ≡ false). ⊎_elim
    (λ (out : marked s.atoms l.var.0 ≡ false). absurd (false≢true (sym out ∙ part l.var.0 on)))
    (λ (founded : not (marked s.founded l.var.0) ≡ false).
    absurd (false≢true (sym (sound.founded l.var.0 (not-false (marked s.founded l.var.0) founded)).variable ∙ on)))
    (and_cases (marked s.atoms l.var.0) (not (marked s.founded l.var.0)) rest))
    (and_cases l.yes (marked s.atoms l.var.0 && not (marked s.founded l.var.0)) free))
    (λ (off : w l.var.0 ≡ false). and_right l.yes (w l.var.0) off)
    (cases_Bool (w l.var.0))

-- w misses a longer part of a body, if nothing blocks there
pub misses_upto : (t : TheoryView) (w : ℕ → Bool) (s : Founding) (v : ℕ) (lits : List Lit) (from to : ℕ) → IsSubset w (marked s.atoms) → IsSound t w s → to ≤ length lits → AllWithin (λ l. IsFalse (blocks s l)) lits from to → Misses w v (take from lits) → Misses w v (take to lits)
misses_upto t w s v lits from to part sound within free misses = record {
  variable = misses.variable;
  body = λ k d lt.
      let below : k < to = let e = length-take to lits in omega (arith, e, lt) in
      subst (λ (l : Lit). IsFalse (is_positive_in w l)) (sym (get_or-take to lits k d below)) (at k d below);
}
  where
    at : (k : ℕ) (d : Lit) → k < to → IsFalse (is_positive_in w (get_or lits k d))
    at k d below = ⊎_elim
        (λ (old : k < from).
        let lt : k < length (take from lits) = let e = length-take from lits in omega (arith, e, old, below, within) in
        subst (λ (l : Lit). IsFalse (is_positive_in w l)) (get_or-take from lits k d old) (misses.body k d lt))
        (λ (new : from ≤ k). passes t w s (get_or lits k d) part sound (free k d new below))
        (cases_lt k from)

-- and one literal more, if w does not have its variable
pub misses_more : (w : ℕ → Bool) (v : ℕ) (lits : List Lit) (place : ℕ) (d : Lit) → place < length lits → IsFalse (w (get_or lits place d).var.0) → Misses w v (take place lits) → Misses w v (take (place + 1) lits)
misses_more w v lits place d lt off misses = record {
  variable = misses.variable;
  body = All-more (λ l. IsFalse (is_positive_in w l)) lits place d lt misses.body (and_right (get_or lits place d).yes (w (get_or lits place d).var.0) off);
}

-- nothing blocks in the rest of the body
pub misses_whole : (t : TheoryView) (w : ℕ → Bool) (s : Founding) (v : ℕ) (lits body : List Lit) (from : ℕ) → lits ≡ body → IsSubset w (marked s.atoms) → IsSound t w s → AllWithin (λ l. IsFalse (blocks s l)) lits from (length lits) → Misses w v (take from body) → Misses w v body
misses_whole t w s v lits body from same part sound free misses =
    subst (Misses w v) (take_all (length lits) lits (omega arith) ∙ same)
    (misses_upto t w s v lits from (length lits) part sound (omega arith) free (subst (λ ls. Misses w v (take from ls)) (sym same) misses))

-- nothing blocks up to a literal whose variable w does not have
pub misses_to : (t : TheoryView) (w : ℕ → Bool) (s : Founding) (v : ℕ) (lits body : List Lit) (from place : ℕ) (d : Lit) → lits ≡ body → place < length lits → IsSubset w (marked s.atoms) → IsSound t w s → AllWithin (λ l. IsFalse (blocks s l)) lits from place → Misses w v (take from body) → IsFalse (w (get_or lits place d).var.0) → Misses w v (take (place + 1) body)
misses_to t w s v lits body from place d same lt part sound free misses off =
    subst (λ ls. Misses w v (take (place + 1) ls)) same
    (misses_more w v lits place d lt off (misses_upto t w s v lits from place part sound (omega arith) free (subst (λ ls. Misses w v (take from ls)) (sym same) misses)))

-- a literal that blocks
pub block_parts : (s : Founding) (l : Lit) → IsTrue (blocks s l) → IsTrue l.yes × IsTrue (marked s.atoms l.var.0) × IsFalse (marked s.founded l.var.0)
block_parts s l h =
    let outer = and_parts l.yes (marked s.atoms l.var.0 && not (marked s.founded l.var.0)) h in
    let inner = and_parts (marked s.atoms l.var.0) (not (marked s.founded l.var.0)) outer.1 in
    (outer.0, inner.0, not-true (marked s.founded l.var.0) inner.1)

-- no literal of a body is looked at
pub misses_none : (w : ℕ → Bool) (v : ℕ) (lits : List Lit) → IsFalse (w v) → Misses w v (take 0 lits)
misses_none w v lits off = record { variable = off; body = λ k d lt. let none : k < 0 = lt in absurd (omega arith) }

rests_on_nothing : (w : ℕ → Bool) (o : Option BodyRow) → All (λ l. IsFalse (is_positive_in w l)) (lits_in o) → IsFalse (rests_on w o)
rests_on_nothing w None h = refl
rests_on_nothing w (Some row) h = list_any_none (is_positive_in w) row.lits h

-- a support whose body w misses does not rest on w
pub external_from_misses : (t : TheoryView) (w : ℕ → Bool) (l : Lit) → Misses w l.var.0 (body_lits t l.var.0) → IsFalse (is_internal t w l)
external_from_misses t w l misses = and_right l.yes (rests_on w (body_of t l.var.0)) (rests_on_nothing w (body_of t l.var.0) misses.body)

-- nor does one without a body
pub external_without_body : (t : TheoryView) (w : ℕ → Bool) (l : Lit) → body_lits t l.var.0 ≡ [] → IsFalse (is_internal t w l)
external_without_body t w l none =
    and_right l.yes (rests_on w (body_of t l.var.0)) (rests_on_nothing w (body_of t l.var.0) (λ k d lt. let bad : k < 0 = subst (λ ls. k < length ls) none lt in absurd (omega arith)))

-- w misses an atom that it does not have
pub misses_atom : (w : ℕ → Bool) (v : ℕ) (lits : List Lit) → lits ≡ [] → IsFalse (w v) → Misses w v lits
misses_atom w v lits none off = record { variable = off; body = λ k d lt. let bad : k < 0 = subst (λ ls. k < length ls) none lt in absurd (omega arith) }
