-- One more node of a list that gets a number.
use Rattle.std.proofs.Common.{◌≡◌, ◌≢◌, ℕ, ◌+◌, ◌<◌, List, [], ◌∷◌, ◌++◌, length, take, sym, ap, ◌∙◌, subst, arith, ⊎_elim, set, get_or-set_other, get_or-set_same, length-set}
use Rattle.std.specs.Prelude.{Contains}
use Rattle.std.proofs.lemmas.Bool.{cases_eq}
use Rattle.std.proofs.lemmas.List.{take_more}
use Rattle.std.proofs.lemmas.List.Sums.{sum_by-set}
use Rattle.std.proofs.lemmas.List.Elements.{Contains-append_left, Contains-push, Contains-push_cases}
use Rattle.components.specs.declared.search.Status.{Status}
use Rattle.components.specs.declared.search.Status.TheVariants.{New, Closed}
use Rattle.components.specs.Searches.{at, status_of, fresh_weight, AreNumbered}

pub number_more : (old mid : List Status) (nodes : List ℕ) (i number : ℕ) → i < length nodes → at nodes i < length old → AreNumbered old mid (take i nodes) number → AreNumbered old (set mid (at nodes i) (Closed number)) (take (i + 1) nodes) number
number_more old mid nodes i number lt in_old h =
    let a : ℕ = at nodes i in
    let more : take (i + 1) nodes ≡ take i nodes ++ a ∷ [] = take_more nodes i 0 lt in
    let in_mid : a < length mid = omega (arith, h.size, in_old) in
    let here : status_of (set mid a (Closed number)) a ≡ Closed number = get_or-set_same mid a (Closed number) New in_mid in
    record {
      size = length-set mid a (Closed number) ∙ h.size;
      listed = λ v m. ⊎_elim
          (λ (e : v ≡ a). ap (status_of (set mid a (Closed number))) e ∙ here)
          (λ (ne : v ≡ a → ⊥). get_or-set_other mid a v (Closed number) New ne ∙ ⊎_elim
          (λ (was : Contains (take i nodes) v). h.listed v was)
          (λ (e : a ≡ v). absurd (ne (sym e)))
          (Contains-push_cases (take i nodes) a v (subst (λ xs. Contains xs v) more m)))
          (cases_eq v a);
      others = λ v no.
          let ne : v ≢ a = λ e. no (subst (λ xs. Contains xs v) (sym more) (subst (Contains (take i nodes ++ a ∷ [])) (sym e) (Contains-push (take i nodes) a))) in
          get_or-set_other mid a v (Closed number) New ne ∙ h.others v (λ m. no (subst (λ xs. Contains xs v) (sym more) (Contains-append_left (take i nodes) (a ∷ []) v m)));
      fresh =
          let e = sum_by-set fresh_weight mid a (Closed number) New in_mid in
          omega (arith, e, h.fresh);
    }
