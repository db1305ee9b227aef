-- The search guard of a theory.
use Rattle.std.proofs.Common.{◌≡◌, ℕ, zero, suc, ◌+◌, ◌<◌, ◌≤◌, Bool, true, false, cond, List, [], ◌∷◌, ◌++◌, length, map, take, get_or, refl, sym, ◌∙◌, ap, subst, arith, inl, inr, Option, Some, None, lt-ltb, length-append}
use Rattle.std.specs.Prelude.{slice_get, nat_lt, not, unwrap_or}
use Rattle.std.specs.List.{position_or_len, range_with_len}
use Rattle.std.proofs.lemmas.Bool.{cases_lt}
use Rattle.std.proofs.lemmas.List.{map-append}
use Rattle.std.proofs.lemmas.List.Sums.{fails_before_first, passes_at_first}
use Rattle.std.proofs.lemmas.Option.{same_Some, slice_get-get_or, slice_get_within, get_or_from_slice_get}
use Rattle.theory_form.specs.declared.literals.Lit.{Lit}
use Rattle.theory_form.specs.declared.rows.VarKind.{VarKind}
use Rattle.theory_form.specs.declared.rows.VarKind.TheVariants.{Atom, Sum, Body, Search, Other}
use Rattle.theory_form.specs.Literals.{opposite}
use Rattle.theory_form.specs.Numbers.{at_number}
use Rattle.theory_form.specs.Theories.{TheoryView, IsSearch, IsTheory, Extends}
use Rattle.ground_form.specs.declared.atoms.AtomId.{AtomId}
use Rattle.ground_form.specs.Programs.{Parts}
use Rattle.theory_build.specs.declared.entries.Entry.{Entry}
use Rattle.theory_build.specs.Completion.{HasBase, base_theory, base_entries, kinds_of, base_atoms}
use Rattle.theory_build.specs.Entries.{no, clause, search_entry}
use Rattle.theory_build.specs.Exclusion.{exclusion, search_var, is_search, differs_at}
use Rattle.theory_build.specs.Frames.{base_frame}
use Rattle.theory_build.proofs.TheoryLemmas.{base_front, front_and_search}

is_search-true : (kind : VarKind) → is_search kind ≡ true → kind ≡ Search
is_search-true (Atom block supports) h = cc
is_search-true (Sum terms bound) h = cc
is_search-true (Body lits) h = cc
is_search-true Search h = refl
is_search-true Other h = cc

-- the search guard is the variable of kind Search
pub search_var_is : (t : TheoryView) (v : ℕ) → IsTheory t → IsSearch t v → search_var t ≡ v
unfolding search_var
search_var_is t zero theory is = cc
search_var_is t (suc k) theory is =
    let xs = t.variables in
    let n = position_or_len is_search xs in
    let within = slice_get_within xs k Search is in
    let here : is_search (get_or xs k Other) ≡ true = ap is_search (get_or_from_slice_get xs k Search Other is) in
    let upto : n ≤ k = elim (cases_lt k n) [
      | inl before ↦ let none = fails_before_first is_search xs k Other before in absurd (let e : true ≡ false = sym here ∙ none in cc)
      | inr behind ↦ behind
    ] in
    let inside : n < length xs = omega arith in
    let first : get_or xs n Other ≡ Search = is_search-true (get_or xs n Other) (passes_at_first is_search xs Other inside) in
    let found : IsSearch t (suc n) = slice_get-get_or xs n Other inside ∙ ap (λ (kind : VarKind). Some kind) first in
    let place : unwrap_or (cond (nat_lt n (length xs)) (Some n) None) 0 ≡ n = ap (λ b. unwrap_or (cond b (Some n) None) 0) (lt-ltb n (length xs) inside) in
    ap suc place ∙ theory.guard (suc n) (suc k) found is

-- the item behind these
last_get : (xs : List VarKind) (x : VarKind) → slice_get (xs ++ x ∷ []) (length xs) ≡ Some x
last_get [] x = refl
last_get (y ∷ xs) x = last_get xs x

take_get : (n k : ℕ) (xs : List VarKind) → k < n → slice_get (take n xs) k ≡ slice_get xs k
take_get zero k xs below = absurd (omega arith)
take_get (suc n) k [] below = refl
take_get (suc n) zero (x ∷ xs) below = refl
take_get (suc n) (suc k) (x ∷ xs) below = take_get n k xs (omega arith)

-- a theory with a base has a search guard
pub has_search : (t : TheoryView) → HasBase t → (v : ℕ) × IsSearch t v
unfolding base_theory
has_search t h =
    let g = h.base in
    let p = base_frame g in
    let front = kinds_of (base_front p g) in
    let all : kinds_of (base_entries p g) ≡ front ++ Search ∷ [] =
    ap kinds_of (sym (front_and_search p g)) ∙ map-append (λ (e : Entry). e.kind) (base_front p g) (search_entry ∷ [])
    in
    let begins = h.begins.variables ∙ all in
    let count : length (kinds_of (base_entries p g)) ≡ length front + 1 = ap length all ∙ length-append front (Search ∷ []) in
    let below : length front < length (kinds_of (base_entries p g)) = omega arith in (
      suc (length front),
      sym (take_get (length (kinds_of (base_entries p g))) (length front) t.variables below) ∙ ap (λ xs. slice_get xs (length front)) begins ∙ last_get front Search,
    )

-- the clause of these literals is the exclusion of the set
pub exclusion_made : (t : TheoryView) (set : List AtomId) (guard : Lit) (lits : List Lit) (atoms : ℕ) → IsTheory t → IsSearch t guard.var.0 → guard.yes ≡ true → atoms ≡ base_atoms t → lits ≡ opposite guard ∷ map (differs_at set) (range_with_len 1 atoms) → clause lits ≡ exclusion t set
unfolding exclusion
exclusion_made t set guard lits atoms theory is positive atoms_are lits_are =
    let first : opposite guard ≡ no (search_var t) =
    λ i. record { var = record { 0 = sym (search_var_is t guard.var.0 theory is) i }; yes = not (positive i) }
    in
    ap clause (lits_are ∙ ap (λ l. l ∷ map (differs_at set) (range_with_len 1 atoms)) first ∙ ap (λ n. no (search_var t) ∷ map (differs_at set) (range_with_len 1 n)) atoms_are)
