-- The two highest levels of a clause's literals.
use Rattle.std.proofs.Common.{◌≡◌, ℕ, ◌+◌, ◌<◌, ◌≤◌, ◌≢◌, ◌⊎◌, inl, inr, true, false, cond, ◌==◌, List, [], ◌∷◌, length, Some, None, get_or, refl, sym, ◌∙◌, subst, arith}
use Rattle.std.proofs.lemmas.Bool.{eqb-false}
use Rattle.std.proofs.lemmas.List.{get_or-set_other, get_or_default}
use Rattle.theory_form.specs.declared.literals.Lit.{Lit}
use Rattle.theory_form.specs.Truth.{IsFreeIn, value_of}
use Rattle.asp_trail.specs.declared.Entry.{Entry}
use Rattle.asp_trail.specs.Trail.{level_of, values_of, why_in}
use Rattle.asp_trail.proofs.TrailLemmas.{get_or-replicate_none}
use Rattle.asp_learn.specs.Conflicts.{level_in}
use Rattle.asp_engine.specs.Search.{HasTwoAbove, IsAbove}

-- a variable without a reason has no value
pub free_from_why : (n v : ℕ) (es : List Entry) → why_in es v ≡ None → value_of (values_of n es) v ≡ None
free_from_why n v [] h = get_or-replicate_none n v
free_from_why n v (e ∷ es) h =
    elim (e.lit.var.0 == v) as (λ b. (e.lit.var.0 == v) ≡ b → cond b (Some (e.why, level_of (e ∷ es))) (why_in es v) ≡ None → value_of (values_of n (e ∷ es)) v ≡ None) [
      | true ↦ λ q none. absurd (cc)
      | false ↦ λ q none.
          let other : v ≢ e.lit.var.0 = λ same. eqb-false e.lit.var.0 v q (sym same) in
          get_or-set_other (values_of n es) e.lit.var.0 v (Some e.lit.yes) None other ∙ free_from_why n v es none
    ] refl h

-- the literal has no value, or is of this level or above
abbrev pub IsFreeOrAbove : ℕ → List Entry → ℕ → Lit → Type 0
IsFreeOrAbove n es k l = IsFreeIn (values_of n es) l ⊎ (k ≤ level_in es l.var.0)

-- Among the first places, one has the top level and another the second.
pub record Levels (n : ℕ) (es : List Entry) (c : List Lit) (m top second : ℕ) : Type 0 where
  pub order : second ≤ top
  pub first : (top ≡ 0) ⊎ ((i : ℕ) × (i < m) × IsAbove n es c top i)
  pub both : (second ≡ 0) ⊎ ((i j : ℕ) × (i < j) × (j < m) × IsAbove n es c second i × IsAbove n es c second j)

pub levels_none : (n : ℕ) (es : List Entry) (c : List Lit) → Levels n es c 0 0 0
levels_none n es c = record { order = omega arith; first = inl refl; both = inl refl }

above_at : (n : ℕ) (es : List Entry) (c : List Lit) (i k : ℕ) (d : Lit) → i < length c → IsFreeOrAbove n es k (get_or c i d) → IsAbove n es c k i
above_at n es c i k d within h = λ e. subst (IsFreeOrAbove n es k) (get_or_default c i d e within) h

lower : (n : ℕ) (es : List Entry) (c : List Lit) (i k m : ℕ) → m ≤ k → IsAbove n es c k i → IsAbove n es c m i
lower n es c i k m le h = λ d. elim (h d) [
  | inl free ↦ inl free
  | inr at ↦ inr (omega (arith, at, le))
]

one_more : (n : ℕ) (es : List Entry) (c : List Lit) (m top : ℕ) → (top ≡ 0) ⊎ ((i : ℕ) × (i < m) × IsAbove n es c top i) →
    (top ≡ 0) ⊎ ((i : ℕ) × (i < m + 1) × IsAbove n es c top i)
one_more n es c m top h = elim h [
  | inl none ↦ inl none
  | inr x ↦ inr (x.0, (let w = x.1 in omega (arith, w)), x.2)
]

both_more : (n : ℕ) (es : List Entry) (c : List Lit) (m second : ℕ) →
    (second ≡ 0) ⊎ ((i j : ℕ) × (i < j) × (j < m) × IsAbove n es c second i × IsAbove n es c second j) →
    (second ≡ 0) ⊎ ((i j : ℕ) × (i < j) × (j < m + 1) × IsAbove n es c second i × IsAbove n es c second j)
both_more n es c m second h = elim h [
  | inl none ↦ inl none
  | inr x ↦ inr (x.0, x.1, x.2, (let w = x.3 in omega (arith, w)), x.4, x.5)
]

-- one literal more
pub levels_over : (n : ℕ) (es : List Entry) (c : List Lit) (m top second level : ℕ) (d : Lit) → m < length c → IsFreeOrAbove n es level (get_or c m d) →
    top < level → Levels n es c m top second → Levels n es c (m + 1) level top
levels_over n es c m top second level d within is more h =
    let own = above_at n es c m level d within is in
    record {
      order = omega (arith, more);
      first = inr (m, (omega arith), own);
      both = elim h.first [
        | inl none ↦ inl none
        | inr x ↦ inr (x.0, m, x.1, (omega arith), x.2, lower n es c m level top (omega (arith, more)) own)
      ];
    }

pub levels_between : (n : ℕ) (es : List Entry) (c : List Lit) (m top second level : ℕ) (d : Lit) → m < length c → IsFreeOrAbove n es level (get_or c m d) →
    level ≤ top → Levels n es c m top second → Levels n es c (m + 1) top level
levels_between n es c m top second level d within is le h =
    let own = above_at n es c m level d within is in
    record {
      order = le;
      first = one_more n es c m top h.first;
      both = elim h.first [
        | inl none ↦ inl (omega (arith, none, le))
        | inr x ↦ inr (x.0, m, x.1, (omega arith), lower n es c x.0 top level le x.2, own)
      ];
    }

pub levels_under : (n : ℕ) (es : List Entry) (c : List Lit) (m top second : ℕ) → Levels n es c m top second → Levels n es c (m + 1) top second
levels_under n es c m top second h = record { order = h.order; first = one_more n es c m top h.first; both = both_more n es c m second h.both }

pub levels_all : (n : ℕ) (es : List Entry) (c : List Lit) (m top second : ℕ) → m ≡ length c → Levels n es c m top second → HasTwoAbove n es c second
levels_all n es c m top second is h = elim h.both [
  | inl none ↦ inl none
  | inr x ↦ inr (x.0, x.1, x.2, (let w = x.3 in omega (arith, w, is)), x.4, x.5)
]
