-- The orders of literals and of lists of literals tell any two apart, and what that gives for `ascending`.
use Rattle.std.proofs.Common.{◌≡◌, ◌↔◌, ℕ, zero, suc, ◌<◌, ◌==◌, true, List, [], ◌∷◌, length, get_or, sym, ◌∙◌, ap, refl, arith}
use Rattle.std.specs.List.{All, AllPairs, Contains}
use Rattle.std.specs.List.Sorted.{IsStrictlySortedBy}
use Rattle.std.specs.Bool.{beq}
use Rattle.std.specs.Cmp.{first_so, second_so, booleans_Decides}
use Rattle.std.specs.Cmp.Lexicographic.{lists_total}
use Rattle.std.specs.Ordering.{ordering_then, is_eq}
use Rattle.std.specs.declared.cmp.Ordering.{Ordering}
use Rattle.std.specs.declared.cmp.Ordering.TheVariants.{Less, Equal, Greater}
use Rattle.std.proofs.lemmas.Bool.{eqb-true}
use Rattle.theory_form.specs.declared.literals.Lit.{Lit}
use Rattle.theory_form.specs.Literals.{lit_cmp, IsAscending}
use Rattle.theory_form.specs.Order.{lit_total, lit_eq, lit_ties}
use Rattle.theory_build.specs.Ascending.{ascending, lits_cmp}
use Rattle.theory_build.specs.Entries.{clause}
use Rattle.theory_build.proofs.AscendingLemmas.{IsOrder, SameMembers, strict_cons, ascending_unique}

same_lit : (x y : Lit) → lit_eq x y ≡ true → x ≡ y
same_lit x y h =
    let v = eqb-true x.var.0 y.var.0 (first_so (x.var.0 == y.var.0) (beq x.yes y.yes) h) in
    let b = (booleans_Decides x.yes y.yes).0 (second_so (x.var.0 == y.var.0) (beq x.yes y.yes) h) in
    λ i. record { var = record { 0 = v i }; yes = b i }

pub lit_order : IsOrder lit_cmp
lit_order = record { total = lit_total; same = λ x y e. same_lit x y (lit_ties x y ∙ ap is_eq e) }

first_tied : (r s : Ordering) → ordering_then r s ≡ Equal → r ≡ Equal
first_tied Less s e = cc
first_tied Equal s e = refl
first_tied Greater s e = cc

second_tied : (r s : Ordering) → ordering_then r s ≡ Equal → s ≡ Equal
second_tied Less s e = cc
second_tied Equal s e = e
second_tied Greater s e = cc

same_lits : (xs ys : List Lit) → lits_cmp xs ys ≡ Equal → xs ≡ ys
same_lits [] [] e = refl
same_lits [] (y ∷ ys) e = cc
same_lits (x ∷ xs) [] e = cc
same_lits (x ∷ xs) (y ∷ ys) e =
    let first = lit_order.same x y (first_tied (lit_cmp x y) (lits_cmp xs ys) e) in
    let rest = same_lits xs ys (second_tied (lit_cmp x y) (lits_cmp xs ys) e) in
    cc

pub lits_order : IsOrder lits_cmp
lits_order = record { total = lists_total lit_total; same = same_lits }

-- where each stands before those that follow it, the list is strictly ascending
pub strict_from_ascending : (c : List Lit) → IsAscending c → IsStrictlySortedBy lit_cmp c
unfolding IsStrictlySortedBy
strict_from_ascending [] h = tt
strict_from_ascending (l ∷ c) h =
    strict_cons lit_order l c
    (λ k d within. h 0 (suc k) d (omega arith) (omega arith))
    (strict_from_ascending c (λ i j d before within. h (suc i) (suc j) d (omega arith) (omega arith)))

-- an ascending list of these literals is their clause
pub clause_unique : (c lits : List Lit) → IsAscending c → ((l : Lit) → Contains c l ↔ Contains lits l) → c ≡ clause lits
clause_unique c lits h m =
    ascending_unique lit_order c lits (strict_from_ascending c h) (record { there = λ l. (m l).0; back = λ l. (m l).1 })
