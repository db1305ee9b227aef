-- The start of the search, one atom of the order that is taken, and the end.
use Rattle.std.proofs.Common.{◌≡◌, ℕ, zero, suc, replicate, ◌+◌, ◌*◌, ◌<◌, ◌≤◌, Bool, true, false, not, ◌||◌, cond, List, [], length, take, get_or, refl, sym, ap, ◌∙◌, subst, arith, ⊎_elim, inl, inr}
use Rattle.std.specs.Prelude.{All, Contains, IsTrue, ◌⊎◌, slice_get, Some}
use Rattle.std.specs.List.{list_all}
use Rattle.std.specs.Global.{Vec}
use Rattle.std.proofs.lemmas.Bool.{cases_eq, cases_lt, cases_Bool}
use Rattle.std.proofs.lemmas.List.{get_or_past, take_all, length-replicate}
use Rattle.std.proofs.lemmas.List.Sums.{AllPass-from_list_all, list_all-from_AllPass}
use Rattle.std.proofs.lemmas.List.Elements.{All-more, All-weaker, All-contains, All-same}
use Rattle.std.proofs.lemmas.List.Folds.{sum_by-replicate}
use Rattle.std.proofs.lemmas.Option.{slice_get-get_or}
use Rattle.definite.specs.declared.Rule.{Rule}
use Rattle.definite.specs.declared.Derived.{Derived}
use Rattle.definite.specs.declared.search.Waits.{Waits}
use Rattle.definite.proofs.MarkLemmas.{none_marked}
use Rattle.definite.specs.Rules.{marked}
use Rattle.definite.specs.Rules.{obeys, IsRuleOf, IsDerived}
use Rattle.definite.specs.Searches.{IsSearch, waiting_for, IsTaken, IsSettled, AreSettled, IsDrained, Step}
use Rattle.definite.proofs.Orders.{derivation_none, derived_in}

none_in : (k : ℕ) → Contains {X = ℕ} [] k → ⊥
none_in k m = let bad : m.0 < 0 = m.1 in omega arith

-- ---- the start

pub nobody : (lists : List (List ℕ)) → All (λ (list : List ℕ). list ≡ []) lists → (a : ℕ) → get_or lists a [] ≡ []
nobody lists h a = ⊎_elim (λ (lt : a < length lists). h a [] lt) (λ (past : length lists ≤ a). get_or_past lists a [] past) (cases_lt a (length lists))

none_met : (n k : ℕ) → ◌≡◌ {A = ℕ} (get_or (replicate n 0) k 0) 0
none_met zero k = refl
none_met (suc n) zero = refl
none_met (suc n) (suc k) = none_met n k

none_taken : (n : ℕ) (y : ℕ → Bool) (body : List ℕ) → n ≡ 0 → IsTrue (list_all y (take n body))
none_taken zero y body e = refl
none_taken (suc n) y body e = absurd (omega arith)

pub search_start : (rules : List Rule) (w : Waits) (d : Derived) (atoms : ℕ) → All (IsRuleOf atoms) rules → d.marks ≡ replicate atoms false → d.order ≡ [] → length w.waiting.items ≡ atoms → ((a : ℕ) → waiting_for w a ≡ []) → w.met.items ≡ replicate (length rules) 0 → IsSearch rules w d
search_start rules w d atoms range marks order size none met =
    let length_marks : length d.marks ≡ atoms = ap length marks ∙ length-replicate atoms false in record {
      range = subst (λ n. All (IsRuleOf n) rules) (sym length_marks) range;
      order = subst (Rattle.definite.specs.Rules.IsDerivation rules) (sym order) (derivation_none rules);
      in_order = λ a h. absurd (none_marked atoms a (subst (λ ms. IsTrue (marked ms a)) marks h));
      in_marks = λ a m. absurd (none_in a (subst (λ xs. Contains xs a) order m));
      count =
          let weight : Bool → ℕ = λ b. cond b 1 0 in
          let e = sum_by-replicate weight atoms false in
          let z : atoms * 0 ≡ 0 = omega arith in
          ap length order ∙ sym (ap (λ ms. Rattle.std.specs.Prelude.count_by (λ b. b) ms) marks ∙ (e ∙ z));
      met = λ k rule e. none_taken (get_or w.met.items k 0) (marked d.marks) rule.body (ap (λ xs. get_or xs k 0) met ∙ none_met (length rules) k);
      numbers = λ a k m. absurd (none_in k (subst (λ xs. Contains xs k) (none a) m));
      waiting_size = size ∙ sym length_marks;
      met_size = ap length met ∙ length-replicate (length rules) 0;
    }

-- ---- one atom

module _ (rules : List Rule) (w0 w1 : Waits) (a : ℕ) (taken : IsTaken w0 w1 a) where
  pub taken_search : (d : Derived) → IsSearch rules w0 d → IsSearch rules w1 d
  taken_search d s = record {
    range = s.range;
    order = s.order;
    in_order = s.in_order;
    in_marks = s.in_marks;
    count = s.count;
    met = λ k rule e. subst (λ (v : Vec ℕ). IsTrue (list_all (marked d.marks) (take (get_or v.items k 0) rule.body))) (sym taken.met) (s.met k rule e);
    numbers = λ b k m. ⊎_elim
        (λ (is : b ≡ a). absurd (none_in k (subst (λ xs. Contains xs k) (ap (waiting_for w1) is ∙ taken.here) m)))
        (λ (ne : b ≡ a → ⊥). s.numbers b k (subst (λ xs. Contains xs k) (taken.others b ne) m))
        (cases_eq b a);
    waiting_size = taken.size ∙ s.waiting_size;
    met_size = ap (λ (v : Vec ℕ). length v.items) taken.met ∙ s.met_size;
  }

  module _ (w2 : Waits) (d0 d2 : Derived) (step : Step rules w1 d0 w2 d2) where
    pub taken_settled : (list : List ℕ) → list ≡ waiting_for w0 a → AreSettled rules w0 d0 → ((k : ℕ) (rule : Rule) → Contains list k → slice_get rules k ≡ Some rule → IsSettled w2 d2 k rule) → AreSettled rules w2 d2
    taken_settled list is_list before listed k rule e = ⊎_elim
        (λ h. step.kept k rule (inl h))
        (λ t. ⊎_elim
        (λ (is : t.0 ≡ a). listed k rule (subst (λ xs. Contains xs k) (ap (waiting_for w0) is ∙ sym is_list) t.2) e)
        (λ (ne : t.0 ≡ a → ⊥). step.kept k rule (inr (t.0, t.1, subst (λ xs. Contains xs k) (sym (taken.others t.0 ne)) t.2)))
        (cases_eq t.0 a))
        (before k rule e)

    pub taken_drained : (n : ℕ) → n < length d0.order → a ≡ get_or d0.order n 0 → IsSearch rules w0 d0 → IsDrained w0 d0 n → IsDrained w2 d2 (n + 1)
    taken_drained n lt is search before = step.drained (n + 1) (omega arith) (taken_search d0 search)
        (All-more (λ c. waiting_for w1 c ≡ []) d0.order n 0 lt
        (All-weaker (λ c. waiting_for w0 c ≡ []) (λ c. waiting_for w1 c ≡ []) (λ c e. ⊎_elim (λ (i : c ≡ a). ap (waiting_for w1) i ∙ taken.here) (λ (ne : c ≡ a → ⊥). taken.others c ne ∙ e) (cases_eq c a)) (take n d0.order) before)
        (subst (λ c. waiting_for w1 c ≡ []) is taken.here))

-- ---- the end

heads_or_not : (y : ℕ → Bool) (rule : Rule) → (IsTrue (list_all y rule.body) → IsTrue (list_all y rule.heads)) → IsTrue (obeys y rule)
heads_or_not y rule h = ⊎_elim
    (λ (t : list_all y rule.body ≡ true). when (list_all y rule.body) (list_all y rule.heads) (h t))
    (λ (f : list_all y rule.body ≡ false). ap (λ b. not b || list_all y rule.heads) f)
    (cases_Bool (list_all y rule.body))
  where
    when : (b c : Bool) → IsTrue c → IsTrue (not b || c)
    when true c t = t
    when false c t = refl

-- once the whole order is drained, the marks are the least set
pub drained_derived : (rules : List Rule) (w : Waits) (d : Derived) (n atoms : ℕ) → length d.order ≤ n → IsSearch rules w d → AreSettled rules w d → IsDrained w d n → length d.marks ≡ atoms → IsDerived rules atoms d
drained_derived rules w d n atoms past search settled drained size = record {
  least = record {
    closed = list_all-from_AllPass (obeys (marked d.marks)) rules (λ k e lt.
        let rule : Rule = get_or rules k e in
        heads_or_not (marked d.marks) rule (λ body. ⊎_elim
        (λ t. t)
        (λ t. let b : ℕ = t.0 in
        let on = All-contains (λ c. marked d.marks c ≡ true) rule.body b (AllPass-from_list_all (marked d.marks) rule.body body) t.1 in
        let empty = All-contains (λ c. waiting_for w c ≡ []) d.order b (All-same (λ c. waiting_for w c ≡ []) d.order (take n d.order) (sym (take_all n d.order past)) drained) (search.in_order b on) in
        absurd (none_in k (subst (λ xs. Contains xs k) empty t.2)))
        (settled k rule (slice_get-get_or rules k e lt))));
    least = λ z closed a h. derived_in rules z closed d.order search.order a (search.in_order a h);
  };
  order = search.order;
  same = λ a. (search.in_order a, search.in_marks a);
  size = size;
}
