-- The open atoms among the variables of a list.
use Rattle.std.proofs.Common.{◌≡◌, ◌≢◌, ℕ, suc, ◌+◌, ◌<◌, ◌↔◌, Bool, true, false, Option, Some, List, [], ◌∷◌, ◌++◌, length, get_or, slice_set, take, sym, ap, ◌∙◌, subst, arith, ⊎_elim}
use Rattle.std.specs.Prelude.{IsTrue, IsFalse}
use Rattle.std.specs.List.{Contains}
use Rattle.std.proofs.lemmas.Bool.{false≢true}
use Rattle.std.proofs.lemmas.List.{get_or-set_same}
use Rattle.std.proofs.Math.Seq.{take-suc}
use Rattle.std.proofs.lemmas.List.Elements.{Contains-append_left, Contains-push, Contains-push_cases}
use Rattle.theory_form.specs.declared.literals.Var.{Var}
use Rattle.theory_form.specs.Truth.{value_of}
use Rattle.loop_nogoods.specs.Marks.{marked}
use Rattle.loop_nogoods.proofs.MemberLemmas.{nothing_in}
use Rattle.loop_nogoods.proofs.StepLemmas.{mark_cases, mark_kept}

-- these are the marks of the open ones
abbrev pub AreOpen : List (Option Bool) → List Var → List Bool → Type 0
AreOpen a vars atoms = (v : Var) → IsTrue (marked atoms v.0) ↔ (Contains vars v × (value_of a v.0 ≢ Some false))

pub open_none : (a : List (Option Bool)) (atoms : List Bool) → ((v : ℕ) → IsFalse (marked atoms v)) → AreOpen a [] atoms
open_none a atoms clear v = (λ h. absurd (false≢true (sym (clear v.0) ∙ h)), λ h. absurd (nothing_in v h.0))

module _ (a : List (Option Bool)) (vars : List Var) (i : ℕ) (d : Var) (atoms : List Bool) (lt : i < length vars) (before : AreOpen a (take i vars) atoms) where
  next : take (i + 1) vars ≡ take i vars ++ get_or vars i d ∷ []
  next = let e : i + 1 ≡ suc i = omega arith in ap (λ n. take n vars) e ∙ take-suc vars i d lt

  pub open_more : (get_or vars i d).0 < length atoms → (value_of a (get_or vars i d).0 ≢ Some false) → AreOpen a (take (i + 1) vars) (slice_set atoms (get_or vars i d).0 true)
  open_more place is_open = subst (λ xs. AreOpen a xs (slice_set atoms (get_or vars i d).0 true)) (sym next) at
    where
      at : AreOpen a (take i vars ++ get_or vars i d ∷ []) (slice_set atoms (get_or vars i d).0 true)
      at v = (
        (λ h. ⊎_elim
            (λ (is : v.0 ≡ (get_or vars i d).0).
            let same : get_or vars i d ≡ v = ap (λ n. let w : Var = record { 0 = n } in w) (sym is) in
            (subst (λ w. Contains (take i vars ++ get_or vars i d ∷ []) w) same (Contains-push (take i vars) (get_or vars i d)), subst (λ (w : Var). value_of a w.0 ≢ Some false) same is_open))
            (λ (old : IsTrue (marked atoms v.0)).
            let k = (before v).0 old in (Contains-append_left (take i vars) (get_or vars i d ∷ []) v k.0, k.1))
            (mark_cases atoms (get_or vars i d).0 v.0 h)),
        λ h. ⊎_elim
            (λ (old : Contains (take i vars) v). mark_kept atoms (get_or vars i d).0 v.0 place ((before v).1 (old, h.1)))
            (λ (is : get_or vars i d ≡ v).
            subst (λ (w : Var). IsTrue (marked (slice_set atoms (get_or vars i d).0 true) w.0)) is (get_or-set_same atoms (get_or vars i d).0 true false place))
            (Contains-push_cases (take i vars) (get_or vars i d) v h.0),
      )

  pub open_skip : ((value_of a (get_or vars i d).0 ≢ Some false) → ⊥) → AreOpen a (take (i + 1) vars) atoms
  open_skip closed = subst (λ xs. AreOpen a xs atoms) (sym next) at
    where
      at : AreOpen a (take i vars ++ get_or vars i d ∷ []) atoms
      at v = (
        (λ h. let k = (before v).0 h in (Contains-append_left (take i vars) (get_or vars i d ∷ []) v k.0, k.1)),
        λ h. ⊎_elim
            (λ (old : Contains (take i vars) v). (before v).1 (old, h.1))
            (λ (is : get_or vars i d ≡ v). absurd (closed (subst (λ (w : Var). value_of a w.0 ≢ Some false) (sym is) h.1)))
            (Contains-push_cases (take i vars) (get_or vars i d) v h.0),
      )
