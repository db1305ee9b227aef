-- What is a condition of every call that takes a step.
use Rattle.std.proofs.Common.{◌≡◌, ℕ, ◌+◌, ◌-◌, ◌<◌, ◌≤◌, ⊎_elim, true, false, not, List, length, get_or, sym, ap, ◌∙◌, subst, arith}
use Rattle.std.specs.Prelude.{IsTrue}
use Rattle.std.specs.List.{list_all}
use Rattle.std.proofs.lemmas.Bool.{cases_Bool, cases_lt, false≢true, not-true}
use Rattle.std.proofs.lemmas.List.{get_or_default}
use Rattle.std.proofs.lemmas.List.Elements.{All-contains, Contains-get_or}
use Rattle.std.proofs.lemmas.List.Sums.{AllPass-from_list_all, list_all-from_AllPass}
use Rattle.theory_form.specs.declared.literals.Lit.{Lit}
use Rattle.theory_form.specs.declared.literals.Var.{Var}
use Rattle.theory_form.specs.Literals.{opposite}
use Rattle.loop_nogoods.specs.Tests.{is_among}
use Rattle.loop_nogoods.proofs.ValidLemmas.{Contains-from_among, among_from_Contains}
use Rattle.agg_nogoods.specs.Implied.{IsConsistent}

-- one more variable, which is above the last
pub ascending_more : (vars : List Var) (i : ℕ) (e : Var) → 0 < i → (get_or vars (i - 1) e).0 < (get_or vars i e).0 → i < length vars → ((j k : ℕ) (d : Var) → j < k → k < i → (get_or vars j d).0 < (get_or vars k d).0) → (j k : ℕ) (d : Var) → j < k → k < i + 1 → (get_or vars j d).0 < (get_or vars k d).0
ascending_more vars i e some last within h j k d before low = ⊎_elim
    (λ (earlier : k < i). h j k d before earlier)
    (λ (past : i ≤ k).
    let here : k ≡ i = omega arith in
    let next : (get_or vars (i - 1) d).0 < (get_or vars i d).0 = subst (λ (v : Var). v.0 < (get_or vars i d).0) (get_or_default vars (i - 1) e d (omega arith)) (subst (λ (v : Var). (get_or vars (i - 1) e).0 < v.0) (get_or_default vars i e d within) last) in
    subst (λ n. (get_or vars j d).0 < (get_or vars n d).0) (sym here) (⊎_elim
    (λ (lower : j < i - 1). let first = h j (i - 1) d lower (omega arith) in omega arith)
    (λ (up : i - 1 ≤ j). let same : j ≡ i - 1 = omega arith in subst (λ n. (get_or vars n d).0 < (get_or vars i d).0) (sym same) next)
    (cases_lt j (i - 1))))
    (cases_lt k i)

-- a clause that lacks the opposite of each of its literals
pub consistent_from : (c : List Lit) → IsTrue (list_all (λ l. not (is_among c (opposite l))) c) → IsConsistent c
consistent_from c h l here other =
    let lacks = All-contains (λ (m : Lit). IsTrue (not (is_among c (opposite m)))) c l (AllPass-from_list_all (λ (m : Lit). not (is_among c (opposite m))) c h) here in
    false≢true (sym (not-true (is_among c (opposite l)) lacks) ∙ among_from_Contains c (opposite l) other)

pub consistent_so : (c : List Lit) → IsConsistent c → IsTrue (list_all (λ l. not (is_among c (opposite l))) c)
consistent_so c h = list_all-from_AllPass (λ (m : Lit). not (is_among c (opposite m))) c (λ k d within.
    let l : Lit = get_or c k d in
    ⊎_elim
    (λ (there : is_among c (opposite l) ≡ true). absurd (h l (Contains-get_or c k d within) (Contains-from_among c (opposite l) there)))
    (λ (none : is_among c (opposite l) ≡ false). ap not none)
    (cases_Bool (is_among c (opposite l))))
