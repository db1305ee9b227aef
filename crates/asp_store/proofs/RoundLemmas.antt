-- What a walk over the clauses has seen.
use Rattle.std.proofs.Common.{◌≡◌, ℕ, Bool, List, [], ◌∷◌, Option, Some, refl, ap, subst, arith, ◌⊎◌, inl, inr, Contains}
use Rattle.slab.specs.Slab.{Slab, entries}
use Rattle.slab.proofs.SlabLemmas.{Contains-cons, Contains-cons_cases, Contains-entries}
use Rattle.theory_form.specs.declared.literals.Lit.{Lit}
use Rattle.theory_form.specs.Truth.{IsSettled}
use Rattle.asp_store.specs.Store.{clause_at, AllSettled}

-- the clauses that are not in this list of entries are settled, and the entries are the clauses'
pub record Rest (cs : List (Option (List Lit))) (a : List (Option Bool)) (left : List (ℕ × List Lit)) : Type 0 where
  pub seen : (id : ℕ) (c : List Lit) → clause_at cs id ≡ Some c → IsSettled a c ⊎ Contains left (id, c)
  pub stored : (id : ℕ) (c : List Lit) → Contains left (id, c) → clause_at cs id ≡ Some c

pub Rest-all : (s : Slab (List Lit)) (a : List (Option Bool)) (left : List (ℕ × List Lit)) → left ≡ entries s → Rest s.slots a left
Rest-all s a left e = record {
  seen = λ id c h. inr (rw e ((Contains-entries s id c).1 h));
  stored = λ id c h. (Contains-entries s id c).0 (rw e at h);
}

pub Rest-here : (cs : List (Option (List Lit))) (a : List (Option Bool)) (left rest : List (ℕ × List Lit)) (key : ℕ) (c : List Lit) → Rest cs a left → left ≡ (key, c) ∷ rest → clause_at cs key ≡ Some c
Rest-here cs a left rest key c h e = h.stored key c (rw e (0, omega (arith), refl))

pub Rest-next : (cs : List (Option (List Lit))) (a : List (Option Bool)) (left rest : List (ℕ × List Lit)) (key : ℕ) (c : List Lit) → Rest cs a left → left ≡ (key, c) ∷ rest → IsSettled a c → Rest cs a rest
Rest-next cs a left rest key c h e settled = record {
  seen = λ id d at. elim (h.seen id d at) [
    | inl s ↦ inl s
    | inr there ↦ elim (Contains-cons_cases _ _ _ (rw e at there)) [
      | inl same ↦ inl (subst (IsSettled a) (ap (λ p. p.1) same) settled)
      | inr later ↦ inr later
    ]
  ];
  stored = λ id d there. h.stored id d (rw e (Contains-cons _ _ _ there));
}

pub Rest-none : (cs : List (Option (List Lit))) (a : List (Option Bool)) → Rest cs a [] → AllSettled cs a
Rest-none cs a h id c at = elim (h.seen id c at) [ inl s ↦ s | inr there ↦ absurd (omega (arith, there.1)) ]
