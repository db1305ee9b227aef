-- Loop and sum steps: atoms of one program, the loop clause, and rows.
use Rattle.std.proofs.Common.{◌≡◌, ◌≢◌, ℕ, ◌↔◌, inl, inr, ⊎_elim, Bool, false, List, [], ◌∷◌, ◌++◌, get_or, Option, Some, None, Result, Ok, Err, refl, sym, ap, ◌∙◌, subst}
use Rattle.std.specs.Prelude.{IsTrue, IfOk, Contains}
use Rattle.std.specs.List.{All}
use Rattle.std.specs.Option.{option_and_then}
use Rattle.std.specs.declared.alloc.AllocError.{AllocError}
use Rattle.std.proofs.lemmas.List.Elements.{All-contains, Contains-append_cases, Contains-append_left, Contains-append_right, Contains-get_or}
use Rattle.std.proofs.lemmas.Option.{none-some, same_Some}
use Rattle.theory_form.specs.declared.literals.Lit.{Lit}
use Rattle.theory_form.specs.declared.literals.Var.{Var}
use Rattle.theory_form.specs.declared.rows.SumRow.{SumRow}
use Rattle.theory_form.specs.declared.rows.VarKind.{VarKind}
use Rattle.theory_form.specs.declared.rows.VarKind.TheVariants as kind
use Rattle.theory_form.specs.Kinds.{IsKind, IsRow, sum_row}
use Rattle.theory_form.specs.Literals.{IsAscending}
use Rattle.theory_form.specs.Theories.{TheoryView, IsTheory, block_of, kind_of, row_of}
use Rattle.theory_model.specs.Loops.{IsExternal, IsLoopClause}
use Rattle.loop_nogoods.specs.Sets.{has}
use Rattle.loop_nogoods.proofs.MemberLemmas.{Contains-cons_cases, Contains-from_has, Contains-head, Contains-tail, has-from_Contains, nothing_in}
use Rattle.proof_log.specs.Valid.{AreOfProgram}

-- ---- atoms of one program

pub has_first : (atom : Var) (others : List Var) → IsTrue (has (atom ∷ others) atom.0)
has_first atom others = has-from_Contains (atom ∷ others) atom (Contains-head atom others)

pub of_program_from : (t : TheoryView) (atom : Var) (others : List Var) (block : ℕ) → block_of t atom.0 ≡ Some block → All (λ (v : Var). v.0 ≢ atom.0) others → All (λ (v : Var). block_of t v.0 ≡ Some block) others → AreOfProgram t atom others
of_program_from t atom others block here apart all = record {
  apart = apart;
  program = (
    block,
    λ v member. ⊎_elim
        (λ (first : atom ≡ record { 0 = v }). ap (λ (w : Var). block_of t w.0) (sym first) ∙ here)
        (λ (later : Contains others (record { 0 = v })). All-contains (λ (w : Var). block_of t w.0 ≡ Some block) others (record { 0 = v }) all later)
        (Contains-cons_cases atom others (record { 0 = v }) (Contains-from_has (atom ∷ others) v member)),
  );
}

pub blocks_of_program : (t : TheoryView) (atom : Var) (others : List Var) (block : ℕ) → block_of t atom.0 ≡ Some block → AreOfProgram t atom others → All (λ (v : Var). block_of t v.0 ≡ Some block) others
blocks_of_program t atom others block here h k d within =
    let v : Var = get_or others k d in
    let first = h.program.1 atom.0 (has_first atom others) in
    let same = same_Some h.program.0 block (sym first ∙ here) in
    h.program.1 v.0 (has-from_Contains (atom ∷ others) v (Contains-tail atom others v (Contains-get_or others k d within))) ∙ ap (λ (n : ℕ). Some n) same

-- ---- the loop clause

loop_clause_of : (t : TheoryView) (u : ℕ → Bool) (v : ℕ) (supports c : List Lit) → ((l : Lit) → Contains supports l ↔ IsExternal t u l) → IsAscending c → ((l : Lit) → Contains c l ↔ Contains (supports ++ record { var = record { 0 = v }; yes = false } ∷ []) l) → IsLoopClause t u v c
loop_clause_of t u v supports c external ascending same = record {
  ascending = ascending;
  literals = λ l. (
    λ h. ⊎_elim
        (λ (support : Contains supports l). inr ((external l).0 support))
        (λ (last : Contains (negation ∷ []) l). ⊎_elim (λ (is : negation ≡ l). inl (sym is)) (λ (none : Contains [] l). absurd (nothing_in l none)) (Contains-cons_cases negation [] l last))
        (Contains-append_cases supports (negation ∷ []) l ((same l).0 h)),
    λ h. (same l).1 (⊎_elim
        (λ (is : l ≡ negation). subst (λ m. Contains (supports ++ negation ∷ []) m) (sym is) (Contains-append_right supports (negation ∷ []) negation (Contains-head negation [])))
        (λ (support : IsExternal t u l). Contains-append_left supports (negation ∷ []) l ((external l).1 support))
        h),
  );
}
  where
    negation : Lit
    negation = record { var = record { 0 = v }; yes = false }

pub loop_clause_if_ok : (t : TheoryView) (u : ℕ → Bool) (v : ℕ) (supports lits : List Lit) (r : Result (List Lit) AllocError) → ((l : Lit) → Contains supports l ↔ IsExternal t u l) → lits ≡ supports ++ record { var = record { 0 = v }; yes = false } ∷ [] → IfOk r IsAscending → IfOk r (λ c. (l : Lit) → Contains c l ↔ Contains lits l) → IfOk r (IsLoopClause t u v)
loop_clause_if_ok t u v supports lits (Ok c) external is ascending same =
    loop_clause_of t u v supports c external ascending (subst (λ (ls : List Lit). (l : Lit) → Contains c l ↔ Contains ls l) is same)
loop_clause_if_ok t u v supports lits (Err e) external is ascending same = tt

-- ---- rows

row_of_kind : (blocks v : ℕ) (row : SumRow) (o : Option VarKind) → ((k : VarKind) → o ≡ Some k → IsKind blocks k) → option_and_then (sum_row v) o ≡ Some row → IsRow row.terms row.bound
row_of_kind blocks v row None kinds h = absurd (none-some row h)
row_of_kind blocks v row (Some (kind.Atom block supports)) kinds h = absurd (none-some row h)
row_of_kind blocks v row (Some (kind.Sum terms bound)) kinds h =
    subst (λ (r : SumRow). IsRow r.terms r.bound) (same_Some (record { var = record { 0 = v }; terms = terms; bound = bound }) row h) (kinds (kind.Sum terms bound) refl)
row_of_kind blocks v row (Some (kind.Body lits)) kinds h = absurd (none-some row h)
row_of_kind blocks v row (Some kind.Search) kinds h = absurd (none-some row h)
row_of_kind blocks v row (Some kind.Other) kinds h = absurd (none-some row h)

-- the row of a theory is reckoned without overflow
pub row_is : (t : TheoryView) (v : ℕ) (row : SumRow) → IsTheory t → row_of t v ≡ Some row → IsRow row.terms row.bound
row_is t v row h = row_of_kind t.blocks v row (kind_of t v) (h.kinds v)
