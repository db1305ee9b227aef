-- Where no set of atoms is unfounded, all loop clauses are true.
use Rattle.std.proofs.Common.{◌≡◌, ℕ, zero, suc, ◌+◌, ◌<◌, ◌≤◌, ◌⊎◌, inl, inr, Bool, true, false, not, ◌&&◌, List, length, Option, Some, None, refl, ap, sym, ◌∙◌, subst, arith}
use Rattle.std.specs.Prelude.{IsTrue, IsSomeAnd}
use Rattle.std.specs.List.{Contains, list_all, list_any}
use Rattle.std.specs.Option.{option_and_then}
use Rattle.std.proofs.lemmas.Bool.{cases_eq}
use Rattle.std.proofs.lemmas.List.Elements.{All-contains}
use Rattle.std.proofs.lemmas.List.Folds.{Any-from_list_any, list_all_at, list_any_at}
use Rattle.sets.specs.Lists.{IsNumberOf}
use Rattle.theory_form.specs.declared.literals.Lit.{Lit}
use Rattle.theory_form.specs.declared.rows.BodyRow.{BodyRow}
use Rattle.theory_form.specs.declared.rows.VarKind.{VarKind}
use Rattle.theory_form.specs.declared.rows.VarKind.TheVariants as kind
use Rattle.theory_form.specs.Kinds.{atom_block, atom_supports}
use Rattle.theory_form.specs.Theories.{IsTheory, TheoryView, block_of, body_of, kind_of, supports_of}
use Rattle.theory_form.proofs.NumberLemmas.{at_number_within}
use Rattle.theory_model.specs.Bodies.{AreClausesTrue, DefinesBodies}
use Rattle.theory_model.specs.Loops.{AreAtomsOf, IsLoopTrue, is_internal, is_positive_in, rests_on}
use Rattle.theory_model.specs.Truth.{conjunction_true, literal_true}
use Rattle.theory_model.specs.Whole.{IsWhole}
use Rattle.theory_model.proofs.GrowthLemmas.{from_some, supports_over}
use Rattle.loop_nogoods.specs.Unfounded.{IsUnfounded}
use Rattle.search_law.specs.Closed.{IsTotal, truth_of, truths}
use Rattle.search_law.proofs.ValueLemmas.{beq_true, bool_cases, both_true, first_true, literal_false, second_true}

-- ---- members that pass a test

abbrev HasMember : Option (List Lit) → Lit → Type 0
HasMember o l = IsSomeAnd o (λ lits. Contains lits l)

-- a literal of the list passes
abbrev any_of : (Lit → Bool) → Option (List Lit) → Bool
any_of p None = false
any_of p (Some lits) = list_any p lits

any_on : (p : Lit → Bool) (o : Option (List Lit)) (l : Lit) → HasMember o l → p l ≡ true → any_of p o ≡ true
any_on p None l h on = absurd h
any_on p (Some lits) l h on = list_any_at p lits h.0 l h.1 (ap p h.2 ∙ on)

any_member : (p : Lit → Bool) (o : Option (List Lit)) → any_of p o ≡ true → (l : Lit) × HasMember o l × (p l ≡ true)
any_member p None h = absurd (let z : false ≡ true = h in cc)
any_member p (Some lits) h = let m = Any-from_list_any p lits h in (m.1, (m.0, m.2, m.3), m.4)

all_member : (p : Lit → Bool) (lits : List Lit) (l : Lit) → list_all p lits ≡ true → Contains lits l → p l ≡ true
all_member p lits l all h = elim (bool_cases (p l)) [
  | inl on ↦ on
  | inr off ↦ absurd (let z : true ≡ false = sym all ∙ list_all_at p lits h.0 l h.1 (ap p h.2 ∙ off) in cc)
]

-- a number below a bound passes, or none does
search_below : (q : ℕ → Bool) (n : ℕ) → ((w : ℕ) × (q w ≡ true)) ⊎ ((w : ℕ) → w < n → q w ≡ false)
search_below q zero = inr (λ w h. absurd (omega arith))
search_below q (suc n) = elim (search_below q n) [
  | inl found ↦ inl found
  | inr none ↦ elim (bool_cases (q n)) [
    | inl on ↦ inl (n, on)
    | inr off ↦ inr (λ w below. elim (cases_eq w n) [
      | inl same ↦ ap q same ∙ off
      | inr other ↦ none w (omega (arith, below, other))
    ])
  ]
]

-- no variable beyond the last has supports
supports_within : (t : TheoryView) (w : ℕ) (l : Lit) → HasMember (supports_of t w) l → w < length t.variables + 1
supports_within t w l h = go (kind_of t w) refl h where
  go : (o : Option VarKind) → kind_of t w ≡ o → HasMember (option_and_then atom_supports o) l → w < length t.variables + 1
  go None e q = absurd q
  go (Some k) e q = let le = at_number_within t.variables w k e in omega (arith, le)

-- ---- true members

-- the members of a set that are true
abbrev true_in : (ℕ → Bool) → (ℕ → Bool) → ℕ → Bool
true_in u f w = u w && f w

-- A true support that does not rest on the true members of a set does not rest on the set: the literals of a true body are
-- true.
outside : (t : TheoryView) (f u : ℕ → Bool) → DefinesBodies t → AreClausesTrue t f → (l : Lit) → literal_true f l ≡ true →
    is_internal t (true_in u f) l ≡ false → is_internal t u l ≡ false
outside t f u defines clauses l on off = elim (bool_cases (is_internal t u l)) [
  | inr external ↦ external
  | inl rest ↦
      let positive : l.yes ≡ true = first_true l.yes (rests_on u (body_of t l.var.0)) rest in
      let body_on : f l.var.0 ≡ true = beq_true (f l.var.0) l.yes on ∙ positive in
      absurd (go positive body_on (body_of t l.var.0) refl (second_true l.yes (rests_on u (body_of t l.var.0)) rest))
] where
  go : l.yes ≡ true → f l.var.0 ≡ true → (o : Option BodyRow) → body_of t l.var.0 ≡ o → rests_on u o ≡ true → ⊥
  go positive body_on None e rests = absurd (let z : false ≡ true = rests in cc)
  go positive body_on (Some row) e rests =
      let m = any_member (is_positive_in u) (Some row.lits) rests in
      let all : conjunction_true f row.lits ≡ true = sym (defines f clauses l.var.0 row e) ∙ body_on in
      let m_on : literal_true f m.0 ≡ true = all_member (literal_true f) row.lits m.0 all m.1 in
      let m_yes : m.0.yes ≡ true = first_true m.0.yes (u m.0.var.0) m.2 in
      let m_in : u m.0.var.0 ≡ true = second_true m.0.yes (u m.0.var.0) m.2 in
      let m_f : f m.0.var.0 ≡ true = beq_true (f m.0.var.0) m.0.yes m_on ∙ m_yes in
      let inside : is_positive_in (true_in u f) m.0 ≡ true =
      both_true m.0.yes (true_in u f m.0.var.0) m_yes (both_true (u m.0.var.0) (f m.0.var.0) m_in m_f) in
      let any : rests_on (true_in u f) (Some row) ≡ true = any_on (is_positive_in (true_in u f)) (Some row.lits) m.0 m.1 inside in
      let internal : is_internal t (true_in u f) l ≡ true =
      both_true l.yes (rests_on (true_in u f) (body_of t l.var.0)) positive (ap (rests_on (true_in u f)) e ∙ any) in
      let z : true ≡ false = sym internal ∙ off in
      cc

not_true : (b : Bool) → not b ≡ true → b ≡ false
not_true true h = absurd (let z : false ≡ true = h in cc)
not_true false h = refl

true_not : (b : Bool) → b ≡ false → not b ≡ true
true_not true h = absurd (let z : true ≡ false = h in cc)
true_not false h = refl

-- the literal is true and does not rest on the true members, of which the variable is one
abbrev opens : TheoryView → (ℕ → Bool) → (ℕ → Bool) → ℕ → Lit → Bool
opens t f u w l = true_in u f w && (not (is_internal t (true_in u f) l) && literal_true f l)

-- Either a true member has a true support that is external, or the true members are unfounded.
pub loop_holds : (t : TheoryView) (a : List (Option Bool)) (block : ℕ) (u : ℕ → Bool) → IsWhole t → DefinesBodies t → AreClausesTrue t (truths a) →
    length a ≡ length t.variables + 1 → IsTotal a → AreAtomsOf t block u → ((x : ℕ → Bool) → IsUnfounded t block a x → ⊥) →
    (v : ℕ) → IsTrue (u v) → IsLoopTrue t (truths a) u v
loop_holds t a block u whole defines clauses places total atoms none v member on =
    elim (search_below (λ w. any_of (opens t (truths a) u w) (supports_of t w)) (length t.variables + 1)) [
      | inl found ↦
          let w : ℕ = found.0 in
          let m = any_member (opens t (truths a) u w) (supports_of t w) found.1 in
          let l : Lit = m.0 in
          let own : true_in u (truths a) w ≡ true =
          first_true (true_in u (truths a) w) (not (is_internal t (true_in u (truths a)) l) && literal_true (truths a) l) m.2 in
          let rest : (not (is_internal t (true_in u (truths a)) l) && literal_true (truths a) l) ≡ true =
          second_true (true_in u (truths a) w) (not (is_internal t (true_in u (truths a)) l) && literal_true (truths a) l) m.2 in
          let off : is_internal t (true_in u (truths a)) l ≡ false =
          not_true (is_internal t (true_in u (truths a)) l) (first_true (not (is_internal t (true_in u (truths a)) l)) (literal_true (truths a) l) rest) in
          let l_on : literal_true (truths a) l ≡ true = second_true (not (is_internal t (true_in u (truths a)) l)) (literal_true (truths a) l) rest in
          (l, (w, first_true (u w) (truths a w) own, m.1, outside t (truths a) u defines clauses l l_on off), l_on)
      | inr nothing ↦ absurd (none (true_in u (truths a)) (unfounded nothing))
    ] where
      -- a support of a true member that does not rest on the true members is false
      off_support : ((w : ℕ) → w < length t.variables + 1 → any_of (opens t (truths a) u w) (supports_of t w) ≡ false) → (w : ℕ) (l : Lit) →
          true_in u (truths a) w ≡ true → HasMember (supports_of t w) l → is_internal t (true_in u (truths a)) l ≡ false → literal_true (truths a) l ≡ false
      off_support nothing w l own has external = elim (bool_cases (literal_true (truths a) l)) [
        | inr off ↦ off
        | inl l_on ↦
            let q : opens t (truths a) u w l ≡ true =
            both_true (true_in u (truths a) w) (not (is_internal t (true_in u (truths a)) l) && literal_true (truths a) l) own
            (both_true (not (is_internal t (true_in u (truths a)) l)) (literal_true (truths a) l) (true_not (is_internal t (true_in u (truths a)) l) external) l_on) in
            absurd (
            let z : true ≡ false =
            sym (any_on (opens t (truths a) u w) (supports_of t w) l has q) ∙ nothing w (supports_within t w l has) in cc)
      ]

      over : (w : ℕ) (l : Lit) (o : Option (List Lit)) → supports_of t w ≡ o → HasMember o l → (0 < l.var.0) × (l.var.0 ≤ length t.variables)
      over w l None e h = absurd h
      over w l (Some supports) e h = All-contains (λ (m : Lit). IsNumberOf (length t.variables) m.var.0) supports l (supports_over t whole w supports e) h

      unfounded : ((w : ℕ) → w < length t.variables + 1 → any_of (opens t (truths a) u w) (supports_of t w) ≡ false) →
          IsUnfounded t block a (true_in u (truths a))
      unfounded nothing = record {
        some = (v, both_true (u v) (truths a v) member on);
        atoms = λ w h. atoms w (first_true (u w) (truths a w) h);
        not_false = λ w h e. absurd (
            let z : true ≡ false = sym (second_true (u w) (truths a w) h) ∙ ap truth_of e in cc);
        supports = λ l e.
            let x = over e.0 l (supports_of t e.0) refl e.2 in
            let le = x.1 in
            literal_false a l total x.0 (omega (arith, le, places)) (off_support nothing e.0 l e.1 e.2 e.3);
      }

-- the program of an atom was begun
pub block_within : (t : TheoryView) (v block : ℕ) → IsTheory t → block_of t v ≡ Some block → block < t.blocks
block_within t v block theory h =
    let x = from_some atom_block (kind_of t v) block h in
    by_kind x.0 x.1 x.2
  where
    by_kind : (k : VarKind) → kind_of t v ≡ Some k → atom_block k ≡ Some block → block < t.blocks
    by_kind (kind.Atom b supports) e q = let same : b ≡ block = cc in subst (λ x. x < t.blocks) same (theory.kinds v (kind.Atom b supports) e)
    by_kind (kind.Sum terms bound) e q = absurd (cc)
    by_kind (kind.Body lits) e q = absurd (cc)
    by_kind kind.Search e q = absurd (cc)
    by_kind kind.Other e q = absurd (cc)
