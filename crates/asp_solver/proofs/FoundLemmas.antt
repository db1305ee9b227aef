-- The true atoms of the base, one variable after the other.
use Rattle.std.proofs.Common.{◌≡◌, ℕ, zero, suc, ◌+◌, ◌-◌, ◌<◌, ◌≤◌, ◌≢◌, inl, inr, Bool, true, false, ◌&&◌, ◌||◌, ◌==◌, List, [], ◌∷◌, ◌++◌, length, get_or, refl, ap, sym, ◌∙◌, subst, arith}
use Rattle.std.specs.Prelude.{nat_le, nat_lt}
use Rattle.std.specs.List.{All}
use Rattle.std.proofs.lemmas.Bool.{cases_eq, cases_lt}
use Rattle.std.proofs.lemmas.Bool.Decides.{eqb_tells, nat_tests}
use Rattle.std.proofs.lemmas.List.Elements.{All-push}
use Rattle.std.proofs.lemmas.List.Folds.{list_any-append}
use Rattle.ground_form.specs.declared.atoms.AtomId.{AtomId}
use Rattle.ground_form.specs.Programs.{Parts}
use Rattle.ground_form.specs.Sets.{IsAscending, has}
use Rattle.sets.proofs.ListLemmas.{ascending_push}
use Rattle.theory_form.specs.declared.rows.VarKind.{VarKind}
use Rattle.theory_form.specs.declared.rows.VarKind.TheVariants.{Other}
use Rattle.theory_form.specs.Theories.{TheoryView}
use Rattle.theory_build.specs.Completion.{base_atoms, is_atom}
use Rattle.theory_build.proofs.BaseLemmas.{base_atoms_are, base_atoms_is}
use Rattle.theory_law.specs.Cuts.{cut}
use Rattle.theory_law.specs.Standing.{StandsOn}
use Rattle.asp_solver.specs.Founds.{true_among}

-- the true ones of the first k variables, which are all atoms
pub record AreTrue (t : TheoryView) (f : ℕ → Bool) (k : ℕ) (ids : List AtomId) : Type 0 where
  pub within : k ≤ length t.variables
  pub ascending : IsAscending ids
  pub low : All (λ (id : AtomId). id.0 < k + 1) ids
  pub members : (n : ℕ) → has ids n ≡ true_among k f n
  pub atoms : (j : ℕ) (d : VarKind) → j < k → is_atom (get_or t.variables j d) ≡ true

none_among : (f : ℕ → Bool) (n : ℕ) → false ≡ true_among 0 f n
none_among f n = elim (cases_lt 0 n) [
  | inl up ↦ let off : nat_le n 0 ≡ false = grind (arith, nat_tests) in
      let on : nat_lt 0 n ≡ true = grind (arith, nat_tests) in
      sym (rw (on, off) refl)
  | inr low ↦ let off : nat_lt 0 n ≡ false = grind (arith, nat_tests) in sym (rw off refl)
]

pub none_true : (t : TheoryView) (f : ℕ → Bool) → AreTrue t f 0 []
none_true t f = record {
  within = omega arith;
  ascending = λ i j d less within. absurd (omega arith);
  low = λ k d within. absurd (omega arith);
  members = λ n. none_among f n;
  atoms = λ j d below. absurd (omega arith);
}

same_le : (k n : ℕ) → n ≢ k + 1 → nat_le n k ≡ nat_le n (k + 1)
same_le k n other = elim (cases_lt k n) [
  | inl over ↦
      let a : nat_le n k ≡ false = grind (arith, nat_tests) in
      let b : nat_le n (k + 1) ≡ false = grind (arith, nat_tests) in
      a ∙ sym b
  | inr low ↦
      let a : nat_le n k ≡ true = grind (arith, nat_tests) in
      let b : nat_le n (k + 1) ≡ true = grind (arith, nat_tests) in
      a ∙ sym b
]

among_other : (k : ℕ) (f : ℕ → Bool) (n : ℕ) → n ≢ k + 1 → true_among k f n ≡ true_among (k + 1) f n
among_other k f n other = ap (λ b. (nat_lt 0 n && b) && f n) (same_le k n other)

and_off : (b : Bool) → (b && false) ≡ false
and_off true = refl
and_off false = refl

among_last : (k : ℕ) (f : ℕ → Bool) → true_among (k + 1) f (k + 1) ≡ f (k + 1)
among_last k f =
    let a : nat_lt 0 (k + 1) ≡ true = grind (arith, nat_tests) in
    let b : nat_le (k + 1) (k + 1) ≡ true = grind (arith, nat_tests) in
    rw (a, b) refl

among_new : (k : ℕ) (f : ℕ → Bool) → true_among k f (k + 1) ≡ false
among_new k f =
    let a : nat_lt 0 (k + 1) ≡ true = grind (arith, nat_tests) in
    let b : nat_le (k + 1) k ≡ false = grind (arith, nat_tests) in
    rw (a, b) refl

or_on : (b : Bool) → (b || true) ≡ true
or_on true = refl
or_on false = refl

or_off : (b : Bool) → (b || false) ≡ b
or_off true = refl
or_off false = refl

has_push : (ids : List AtomId) (m n : ℕ) → has (ids ++ record { 0 = m } ∷ []) n ≡ (has ids n || (m == n))
has_push ids m n =
    list_any-append (λ (id : AtomId). id.0 == n) ids (record { 0 = m } ∷ []) ∙ ap (λ b. has ids n || b) (or_off (m == n))

-- one variable more, which is an atom
atoms_more : (t : TheoryView) (k : ℕ) → ((j : ℕ) (d : VarKind) → j < k → is_atom (get_or t.variables j d) ≡ true) →
    ((d : VarKind) → is_atom (get_or t.variables k d) ≡ true) → (j : ℕ) (d : VarKind) → j < k + 1 → is_atom (get_or t.variables j d) ≡ true
atoms_more t k before here j d below = elim (cases_eq j k) [
  | inl same ↦ ap (λ i. is_atom (get_or t.variables i d)) same ∙ here d
  | inr other ↦ before j d (omega (arith, below, other))
]

pub one_true : (t : TheoryView) (f : ℕ → Bool) (k : ℕ) (ids : List AtomId) → AreTrue t f k ids → k < length t.variables →
    ((d : VarKind) → is_atom (get_or t.variables k d) ≡ true) → f (k + 1) ≡ true → AreTrue t f (k + 1) (ids ++ record { 0 = k + 1 } ∷ [])
one_true t f k ids h within here on = record {
  within = omega (arith, within);
  ascending = ascending_push (λ (id : AtomId). id.0) ids (record { 0 = k + 1 }) h.ascending h.low;
  low = All-push (λ (id : AtomId). id.0 < k + 1 + 1) ids (record { 0 = k + 1 }) (λ j d w. let x = h.low j d w in omega (arith, x)) (omega arith);
  members = λ n. has_push ids (k + 1) n ∙ elim (eqb_tells (k + 1) n) [
    | inl same ↦
        let e : k + 1 ≡ n = same.1 in
        ap (λ b. has ids n || b) same.0 ∙ (or_on (has ids n) ∙ (sym (among_last k f ∙ on) ∙ ap (true_among (k + 1) f) e))
    | inr other ↦
        let apart : n ≢ k + 1 = λ e. other.1 (sym e) in
        ap (λ b. has ids n || b) other.0 ∙ (or_off (has ids n) ∙ (h.members n ∙ among_other k f n apart))
  ];
  atoms = atoms_more t k h.atoms here;
}

pub one_false : (t : TheoryView) (f : ℕ → Bool) (k : ℕ) (ids : List AtomId) → AreTrue t f k ids → k < length t.variables →
    ((d : VarKind) → is_atom (get_or t.variables k d) ≡ true) → f (k + 1) ≡ false → AreTrue t f (k + 1) ids
one_false t f k ids h within here off = record {
  within = omega (arith, within);
  ascending = h.ascending;
  low = λ j d w. let x = h.low j d w in omega (arith, x);
  members = λ n. h.members n ∙ elim (cases_eq n (k + 1)) [
    | inl same ↦ ap (true_among k f) same ∙ (among_new k f ∙ (sym (among_last k f ∙ off) ∙ ap (true_among (k + 1) f) (sym same)))
    | inr other ↦ among_other k f n other
  ];
  atoms = atoms_more t k h.atoms here;
}

pub all_true : (t : TheoryView) (f : ℕ → Bool) (k : ℕ) (ids : List AtomId) → AreTrue t f k ids →
    (k < length t.variables → is_atom (get_or t.variables k Other) ≡ false) → (n : ℕ) → has ids n ≡ true_among (base_atoms t) f n
all_true t f k ids h stops n =
    let e : k ≡ base_atoms t = base_atoms_are t k Other h.within (λ j below. h.atoms j Other below) stops in
    h.members n ∙ ap (λ m. true_among m f n) e

pub as_cut : (t : TheoryView) (f : ℕ → Bool) (ids : List AtomId) → ((n : ℕ) → has ids n ≡ true_among (base_atoms t) f n) →
    (g : Parts) → StandsOn g t → (n : ℕ) → has ids n ≡ cut 0 g f n
as_cut t f ids h g stands n =
    let e : base_atoms t ≡ length g.atoms = base_atoms_is t g stands.begins in
    let place : n ≡ 0 + n = omega arith in
    h n ∙ (ap (λ m. true_among m f n) e ∙ ap (λ m. (nat_lt 0 n && nat_le n (length g.atoms)) && f m) place)
