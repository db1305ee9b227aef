-- Clauses by number, where nothing is kept for the first numbers.
use Rattle.std.proofs.Common.{◌≡◌, ℕ, zero, suc, ◌+◌, ◌-◌, ◌<◌, ◌≤◌, ◌++◌, inl, inr, List, [], ◌∷◌, length, Option, Some, None, set, replicate, refl, ap, sym, ◌∙◌, subst, arith, length-append}
use Rattle.std.specs.Prelude.{slice_get, IsSome}
use Rattle.std.specs.Option.{option_and_then}
use Rattle.std.proofs.lemmas.Bool.{cases_lt}
use Rattle.std.proofs.lemmas.List.{append_assoc, length-replicate}
use Rattle.std.proofs.lemmas.Option.{slice_get_past}
use Rattle.theory_form.specs.declared.literals.Lit.{Lit}
use Rattle.theory_form.specs.Numbers.{grown}
use Rattle.proof_log.specs.States.{entry_of, put, taken}

abbrev Slots : Type 0
Slots = List (Option (List Lit))

abbrev no_clause : Option (List Lit)
no_clause = None

abbrev pub padded : ℕ → Slots → Slots
padded o xs = replicate o None ++ xs

padded_low : (o : ℕ) (xs : Slots) (p : ℕ) → p < o → slice_get (padded o xs) p ≡ Some None
padded_low zero xs p lt = absurd (omega arith)
padded_low (suc o) xs zero lt = refl
padded_low (suc o) xs (suc p) lt = padded_low o xs p (omega arith)

padded_high : (o : ℕ) (xs : Slots) (p : ℕ) → o ≤ p → slice_get (padded o xs) p ≡ slice_get xs (p - o)
padded_high zero xs p le = let e : p ≡ p - 0 = omega arith in ap (slice_get xs) e
padded_high (suc o) xs zero le = absurd (omega arith)
padded_high (suc o) xs (suc p) le = let e : p - o ≡ suc p - suc o = omega arith in padded_high o xs p (omega arith) ∙ ap (slice_get xs) e

pub entry_low : (o : ℕ) (xs : Slots) (id : ℕ) → id ≤ o → entry_of (padded o xs) id ≡ None
entry_low o xs zero le = refl
entry_low o xs (suc p) le = ap (option_and_then (λ (slot : Option (List Lit)). slot)) (padded_low o xs p (omega arith))

pub entry_high : (o : ℕ) (xs : Slots) (id : ℕ) → o < id → entry_of (padded o xs) id ≡ option_and_then (λ slot. slot) (slice_get xs (id - 1 - o))
entry_high o xs zero lt = absurd (omega arith)
entry_high o xs (suc p) lt =
    let e : p - o ≡ suc p - 1 - o = omega arith in
    ap (option_and_then (λ (slot : Option (List Lit)). slot)) (padded_high o xs p (omega arith) ∙ ap (slice_get xs) e)

-- a clause that is there stands behind the first numbers
pub record StandsBehind (o : ℕ) (xs : Slots) (id : ℕ) : Type 0 where
  pub behind : o < id
  pub within : id - 1 - o < length xs

pub entry_stands : (o : ℕ) (xs : Slots) (id : ℕ) → IsSome (entry_of (padded o xs) id) → StandsBehind o xs id
entry_stands o xs id some = elim (cases_lt o id) [
  | inl behind ↦ record {
    behind = behind;
    within = elim (cases_lt (id - 1 - o) (length xs)) [
      | inl within ↦ within
      | inr past ↦ absurd (not_none (entry_high o xs id behind ∙ ap (option_and_then (λ (slot : Option (List Lit)). slot)) (slice_get_past xs (id - 1 - o) past)))
    ];
  }
  | inr low ↦ absurd (not_none (entry_low o xs id low))
] where
  not_none : entry_of (padded o xs) id ≡ None → ⊥
  not_none none = let s : IsSome no_clause = subst (λ (x : Option (List Lit)). IsSome x) none some in cc

set_padded : (o : ℕ) (xs : Slots) (p : ℕ) (slot : Option (List Lit)) → o ≤ p → set (padded o xs) p slot ≡ padded o (set xs (p - o) slot)
set_padded zero xs p slot le = let e : p ≡ p - 0 = omega arith in ap (λ k. set xs k slot) e
set_padded (suc o) xs zero slot le = absurd (omega arith)
set_padded (suc o) xs (suc p) slot le =
    let e : p - o ≡ suc p - suc o = omega arith in
    ap (λ (ys : Slots). no_clause ∷ ys) (set_padded o xs p slot (omega arith) ∙ ap (λ k. padded o (set xs k slot)) e)

pub taken_padded : (o : ℕ) (xs : Slots) (id : ℕ) → o < id → taken (padded o xs) id ≡ padded o (set xs (id - 1 - o) None)
taken_padded o xs zero lt = absurd (omega arith)
taken_padded o xs (suc p) lt =
    let e : p - o ≡ suc p - 1 - o = omega arith in
    set_padded o xs p None (omega arith) ∙ ap (λ k. padded o (set xs k None)) e

length-padded : (o : ℕ) (xs : Slots) → length (padded o xs) ≡ o + length xs
length-padded o xs = let a = length-append (replicate o no_clause) xs in let r = length-replicate o no_clause in omega (arith, a, r)

grown_padded : (o : ℕ) (xs : Slots) (p : ℕ) → o ≤ p → grown (padded o xs) (p + 1) None ≡ padded o (grown xs ((p - o) + 1) None)
grown_padded o xs p le =
    let l = length-padded o xs in
    let e : (p + 1) - length (padded o xs) ≡ ((p - o) + 1) - length xs = omega (arith, l, le) in
    ap (λ k. padded o xs ++ replicate k None) e ∙ append_assoc (replicate o None) xs (replicate (((p - o) + 1) - length xs) None)

pub put_padded : (o : ℕ) (xs : Slots) (p : ℕ) (c : List Lit) → o ≤ p → put (padded o xs) p c ≡ padded o (put xs (p - o) c)
put_padded o xs p c le = ap (λ ys. set ys p (Some c)) (grown_padded o xs p le) ∙ set_padded o (grown xs ((p - o) + 1) None) p (Some c) le

set_last : (p : ℕ) (slot : Option (List Lit)) → set (replicate (suc p) None) p slot ≡ padded p (slot ∷ [])
set_last zero slot = refl
set_last (suc p) slot = ap (λ (ys : Slots). no_clause ∷ ys) (set_last p slot)

-- the first clause that is put
pub put_first : (p : ℕ) (c : List Lit) → put [] p c ≡ padded p (Some c ∷ [])
put_first p c =
    let e : (p + 1) - length {A = Option (List Lit)} [] ≡ suc p = omega arith in
    ap (λ k. set (replicate k None) p (Some c)) e ∙ set_last p (Some c)

-- places for earlier numbers
pub padded_lower : (p o : ℕ) (xs : Slots) → p ≤ o → padded p (replicate (o - p) None ++ xs) ≡ padded o xs
padded_lower zero o xs le = let e : o - 0 ≡ o = omega arith in ap (λ k. replicate k None ++ xs) e
padded_lower (suc p) zero xs le = absurd (omega arith)
padded_lower (suc p) (suc o) xs le =
    let e : suc o - suc p ≡ o - p = omega arith in
    ap (λ k. padded (suc p) (replicate k None ++ xs)) e ∙ ap (λ (ys : Slots). no_clause ∷ ys) (padded_lower p o xs (omega arith))

-- a clause that is put, where the new entries behind the first numbers are these
pub put_into_empty : (o : ℕ) (xs ys : Slots) (p : ℕ) (c : List Lit) → (o ≡ 0) × (xs ≡ []) → ys ≡ xs ++ Some c ∷ [] → padded p ys ≡ put (padded o xs) p c
put_into_empty o xs ys p c none is =
    let empty : padded o xs ≡ [] = ap (λ k. padded k xs) none.0 ∙ none.1 in
    ap (padded p) (is ∙ ap (λ zs. zs ++ Some c ∷ []) none.1) ∙ (sym (put_first p c) ∙ ap (λ zs. put zs p c) (sym empty))

pub put_behind : (o : ℕ) (xs ys : Slots) (p : ℕ) (c : List Lit) → o ≤ p → ys ≡ put xs (p - o) c → padded o ys ≡ put (padded o xs) p c
put_behind o xs ys p c le is = ap (padded o) is ∙ sym (put_padded o xs p c le)

pub lowered : (p o : ℕ) (xs front all : Slots) → p < o → front ≡ replicate (o - p) None → all ≡ front ++ xs → padded p all ≡ padded o xs
lowered p o xs front all lt made is = ap (padded p) (is ∙ ap (λ zs. zs ++ xs) made) ∙ padded_lower p o xs (omega arith)
