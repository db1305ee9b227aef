-- Steps of the search.
use Rattle.std.proofs.Common.{◌≡◌, ◌≢◌, ℕ, ◌+◌, ◌<◌, ◌≤◌, Bool, true, false, cond, List, [], ◌∷◌, ◌++◌, length, take, get_or, refl, sym, ap, ◌∙◌, subst, arith, ⊎_elim, inl, inr, slice_set, get_or-set_other, get_or-set_same, length-append, length-set}
use Rattle.std.specs.Prelude.{All, Contains, IsTrue, IsFalse, slice_get, Some}
use Rattle.std.specs.List.{list_all}
use Rattle.std.specs.Global.{Vec}
use Rattle.std.proofs.lemmas.Bool.{false≢true, cases_eq, cases_Bool, and_from}
use Rattle.std.proofs.lemmas.List.{take-append-le, take_more, set-get_or}
use Rattle.std.proofs.lemmas.List.Sums.{sum_by-set, AllPass-from_list_all}
use Rattle.std.proofs.lemmas.List.Elements.{Contains-append_left, Contains-push, Contains-push_cases, All-contains, All-same, All-take, All-contains_itself}
use Rattle.std.proofs.lemmas.List.Folds.{list_all_more}
use Rattle.std.proofs.lemmas.Option.{slice_get-get_or}
use Rattle.definite.specs.declared.Rule.{Rule}
use Rattle.definite.specs.declared.Derived.{Derived}
use Rattle.definite.specs.declared.search.Waits.{Waits}
use Rattle.definite.proofs.MarkLemmas.{still_marked, list_all-subset}
use Rattle.definite.specs.Rules.{marked}
use Rattle.definite.specs.Rules.{Follows, IsRuleOf}
use Rattle.definite.specs.Searches.{IsSearch, waiting_for, met_by, IsAdded, IsWaiter, IsSettled, Step}
use Rattle.definite.proofs.Orders.{derivation_push}

pub step_none : (rules : List Rule) (w : Waits) (d : Derived) → Step rules w d w d
step_none rules w d = record { search = λ s. s; kept = λ k rule s. s; drained = λ n le s h. h; longer = omega arith; size = refl }

pub step_then : (rules : List Rule) (w0 w1 w2 : Waits) (d0 d1 d2 : Derived) → Step rules w0 d0 w1 d1 → Step rules w1 d1 w2 d2 → Step rules w0 d0 w2 d2
step_then rules w0 w1 w2 d0 d1 d2 a b = record {
  search = λ s. b.search (a.search s);
  kept = λ k rule s. b.kept k rule (a.kept k rule s);
  drained = λ n le s h. let m : n ≤ length d1.order = omega (arith, a.longer) in b.drained n m (a.search s) (a.drained n le s h);
  longer = omega (arith, a.longer, b.longer);
  size = b.size ∙ a.size;
}

-- ---- a mark more

pub added_marked : (d0 d1 : Derived) (a c : ℕ) → IsAdded d0 d1 a → a < length d0.marks → IsTrue (marked d0.marks c) → IsTrue (marked d1.marks c)
added_marked d0 d1 a c add lt h = subst (λ ms. IsTrue (marked ms c)) (sym add.marks) (still_marked d0.marks a lt c h)

pub added_here : (d0 d1 : Derived) (a : ℕ) → IsAdded d0 d1 a → a < length d0.marks → IsTrue (marked d1.marks a)
added_here d0 d1 a add lt = subst (λ ms. IsTrue (marked ms a)) (sym add.marks) (get_or-set_same d0.marks a true false lt)

step_new : (rules : List Rule) (w : Waits) (d : Derived) (a : ℕ) → a < length d.marks → IsFalse (marked d.marks a) → Follows rules d.order a → Step rules w d w (record { marks = slice_set d.marks a true; order = d.order ++ a ∷ [] })
step_new rules w d a lt off follows = record {
  search = λ s. record {
    range = subst (λ n. All (IsRuleOf n) rules) (sym (length-set d.marks a true)) s.range;
    order = derivation_push rules d.order a s.order follows (λ m. false≢true (sym off ∙ s.in_marks a m));
    in_order = λ c h. ⊎_elim
        (λ (e : c ≡ a). subst (Contains (d.order ++ a ∷ [])) (sym e) (Contains-push d.order a))
        (λ (ne : c ≡ a → ⊥). Contains-append_left d.order (a ∷ []) c (s.in_order c (sym (get_or-set_other d.marks a c true false ne) ∙ h)))
        (cases_eq c a);
    in_marks = λ c m. ⊎_elim
        (λ (old : Contains d.order c). still_marked d.marks a lt c (s.in_marks c old))
        (λ (e : a ≡ c). subst (λ n. IsTrue (marked (slice_set d.marks a true) n)) e (get_or-set_same d.marks a true false lt))
        (Contains-push_cases d.order a c m);
    count = let weight : Bool → ℕ = λ b. cond b 1 0 in let count = sum_by-set weight d.marks a true false lt in let zero : weight (get_or d.marks a false) ≡ weight false = ap weight off in omega (arith, count, zero, s.count, length-append d.order (a ∷ []));
    met = λ k rule e. list_all-subset (marked d.marks) (marked (slice_set d.marks a true)) (take (met_by w k) rule.body) (still_marked d.marks a lt) (s.met k rule e);
    numbers = s.numbers;
    waiting_size = s.waiting_size ∙ sym (length-set d.marks a true);
    met_size = s.met_size;
  };
  kept = λ k rule s. ⊎_elim (λ h. inl (list_all-subset (marked d.marks) (marked (slice_set d.marks a true)) rule.heads (still_marked d.marks a lt) h)) (λ b. inr b) s;
  drained = λ n le s h. All-same (λ b. waiting_for w b ≡ []) (take n (d.order ++ a ∷ [])) (take n d.order) (take-append-le n d.order (a ∷ []) le) h;
  longer = omega (arith, length-append d.order (a ∷ []));
  size = length-set d.marks a true;
}

pub step_added : (rules : List Rule) (w : Waits) (d0 d1 : Derived) (a : ℕ) → IsAdded d0 d1 a → a < length d0.marks → Follows rules d0.order a → Step rules w d0 w d1
step_added rules w d0 d1 a add lt follows = ⊎_elim
    (λ (on : marked d0.marks a ≡ true).
    let marks : d1.marks ≡ d0.marks = add.marks ∙ (ap (slice_set d0.marks a) (sym on) ∙ set-get_or d0.marks a false) in
    let order : d1.order ≡ d0.order = add.order ∙ ap (λ b. cond b d0.order (d0.order ++ a ∷ [])) on in
    to_new d0.marks d0.order marks order (step_none rules w d0))
    (λ (off : marked d0.marks a ≡ false).
    let order : d1.order ≡ d0.order ++ a ∷ [] = add.order ∙ ap (λ b. cond b d0.order (d0.order ++ a ∷ [])) off in
    to_new (slice_set d0.marks a true) (d0.order ++ a ∷ []) add.marks order (step_new rules w d0 a lt off follows))
    (cases_Bool (marked d0.marks a))
  where
    to_new : (ms : List Bool) (q : List ℕ) → d1.marks ≡ ms → d1.order ≡ q → Step rules w d0 w (record { marks = ms; order = q }) → Step rules w d0 w d1
    to_new ms q m o s = subst (λ (xs : List Bool). Step rules w d0 w (record { marks = xs; order = d1.order })) (sym m) (subst (λ (xs : List ℕ). Step rules w d0 w (record { marks = ms; order = xs })) (sym o) s)

-- ---- the heads of a rule

pub heads_more : (d0 d1 : Derived) (heads : List ℕ) (i : ℕ) → i < length heads → IsAdded d0 d1 (get_or heads i 0) → get_or heads i 0 < length d0.marks → IsTrue (list_all (marked d0.marks) (take i heads)) → IsTrue (list_all (marked d1.marks) (take (i + 1) heads))
heads_more d0 d1 heads i lt add in_marks before =
    let a : ℕ = get_or heads i 0 in
    list_all_more (marked d1.marks) heads i 0 lt ∙ and_from (list_all (marked d1.marks) (take i heads)) (marked d1.marks a)
    (list_all-subset (marked d0.marks) (marked d1.marks) (take i heads) (λ c t. added_marked d0 d1 a c add in_marks t) before)
    (added_here d0 d1 a add in_marks)

-- a head follows where the body is marked
pub rule_follows : (rules : List Rule) (w : Waits) (d : Derived) (rule : Rule) (a : ℕ) → Contains rules rule → Contains rule.heads a → IsSearch rules w d → IsTrue (list_all (marked d.marks) rule.body) → Follows rules d.order a
rule_follows rules w d rule a m head s body = (m.0, rule, m.1, m.2, (head, λ k e lt. s.in_order (get_or rule.body k e) (AllPass-from_list_all (marked d.marks) rule.body body k e lt)))

-- ---- a rule that waits

pub step_wait : (rules : List Rule) (w0 w1 : Waits) (d : Derived) (b k : ℕ) → k < length rules → IsFalse (marked d.marks b) → IsWaiter w0 w1 b k → Step rules w0 d w1 d
step_wait rules w0 w1 d b k in_rules off wait = record {
  search = λ s. record {
    range = s.range;
    order = s.order;
    in_order = s.in_order;
    in_marks = s.in_marks;
    count = s.count;
    met = λ j rule e. subst (λ (v : Vec ℕ). IsTrue (list_all (marked d.marks) (take (get_or v.items j 0) rule.body))) (sym wait.met) (s.met j rule e);
    numbers = λ c j m. ⊎_elim
        (λ (e : c ≡ b). ⊎_elim (λ (o : Contains (waiting_for w0 b) j). s.numbers b j o) (λ (is : k ≡ j). subst (λ n. n < length rules) is in_rules) (Contains-push_cases (waiting_for w0 b) k j (subst (λ xs. Contains xs j) (ap (waiting_for w1) e ∙ wait.here) m)))
        (λ (ne : c ≡ b → ⊥). s.numbers c j (subst (λ xs. Contains xs j) (wait.others c ne) m))
        (cases_eq c b);
    waiting_size = wait.size ∙ s.waiting_size;
    met_size = ap (λ (v : Vec ℕ). length v.items) wait.met ∙ s.met_size;
  };
  kept = λ j rule s. ⊎_elim (λ h. inl h) (λ t. inr (
    t.0,
    t.1,
    ⊎_elim
        (λ (e : t.0 ≡ b). subst (λ xs. Contains xs j) (sym (ap (waiting_for w1) e ∙ wait.here)) (Contains-append_left (waiting_for w0 b) (k ∷ []) j (subst (λ c. Contains (waiting_for w0 c) j) e t.2)))
        (λ (ne : t.0 ≡ b → ⊥). subst (λ xs. Contains xs j) (sym (wait.others t.0 ne)) t.2)
        (cases_eq t.0 b),
  )) s;
  drained = λ n le s h i e lt.
      let c : ℕ = get_or (take n d.order) i e in
      let in_order : Contains d.order c = All-take (Contains d.order) n d.order (All-contains_itself d.order) i e lt in
      let ne : c ≢ b = λ same. false≢true (sym off ∙ (ap (marked d.marks) (sym same) ∙ s.in_marks c in_order)) in
      wait.others c ne ∙ h i e lt;
  longer = omega arith;
  size = refl;
}

-- what a rule waits for is in range
pub open_in_range : (rules : List Rule) (n k a : ℕ) → k < length rules → All (IsRuleOf n) rules → ((rule : Rule) → slice_get rules k ≡ Some rule → Contains rule.body a) → a < n
open_in_range rules n k a lt range h =
    let d : Rule = record { body = []; heads = [] } in
    All-contains (λ c. c < n) (get_or rules k d).body a (range k d lt).body (h (get_or rules k d) (slice_get-get_or rules k d lt))

-- ---- a rule that has looked on

pub step_met : (rules : List Rule) (w0 w1 : Waits) (d : Derived) (k place : ℕ) → w1.waiting ≡ w0.waiting → w1.met.items ≡ slice_set w0.met.items k place → k < length w0.met.items → ((rule : Rule) → slice_get rules k ≡ Some rule → IsTrue (list_all (marked d.marks) (take place rule.body))) → Step rules w0 d w1 d
step_met rules w0 w1 d k place waiting is lt here =
    let same : (a : ℕ) → waiting_for w1 a ≡ waiting_for w0 a = λ a. ap (λ (v : Vec (List ℕ)). get_or v.items a []) waiting in record {
      search = λ s. record {
        range = s.range;
        order = s.order;
        in_order = s.in_order;
        in_marks = s.in_marks;
        count = s.count;
        met = λ j rule e. ⊎_elim
            (λ (at : j ≡ k). subst (λ n. IsTrue (list_all (marked d.marks) (take n rule.body)))
            (sym (ap (λ xs. get_or xs j 0) is ∙ (ap (λ i. get_or (slice_set w0.met.items k place) i 0) at ∙ get_or-set_same w0.met.items k place 0 lt)))
            (here rule (ap (slice_get rules) (sym at) ∙ e)))
            (λ (ne : j ≡ k → ⊥). subst (λ n. IsTrue (list_all (marked d.marks) (take n rule.body)))
            (sym (ap (λ xs. get_or xs j 0) is ∙ get_or-set_other w0.met.items k j place 0 ne))
            (s.met j rule e))
            (cases_eq j k);
        numbers = λ c j m. s.numbers c j (subst (λ xs. Contains xs j) (same c) m);
        waiting_size = ap (λ (v : Vec (List ℕ)). length v.items) waiting ∙ s.waiting_size;
        met_size = ap length is ∙ (length-set w0.met.items k place ∙ s.met_size);
      };
      kept = λ j rule s. ⊎_elim (λ h. inl h) (λ t. inr (t.0, t.1, subst (λ xs. Contains xs j) (sym (same t.0)) t.2)) s;
      drained = λ n le s h i e l. same (get_or (take n d.order) i e) ∙ h i e l;
      longer = omega arith;
      size = refl;
    }

-- ---- one more rule of a list

pub settled_more : (rules : List Rule) (w0 w1 : Waits) (d0 d1 : Derived) (list : List ℕ) (i : ℕ) → i < length list → ((k : ℕ) (rule : Rule) → IsSettled w0 d0 k rule → IsSettled w1 d1 k rule) → ((k : ℕ) (rule : Rule) → Contains (take i list) k → slice_get rules k ≡ Some rule → IsSettled w0 d0 k rule) → ((rule : Rule) → slice_get rules (get_or list i 0) ≡ Some rule → IsSettled w1 d1 (get_or list i 0) rule)
    → (k : ℕ) (rule : Rule) → Contains (take (i + 1) list) k → slice_get rules k ≡ Some rule → IsSettled w1 d1 k rule
settled_more rules w0 w1 d0 d1 list i lt kept before now k rule m e = ⊎_elim
    (λ (old : Contains (take i list) k). kept k rule (before k rule old e))
    (λ (is : get_or list i 0 ≡ k). subst (λ n. IsSettled w1 d1 n rule) is (now rule (ap (slice_get rules) is ∙ e)))
    (Contains-push_cases (take i list) (get_or list i 0) k (subst (λ xs. Contains xs k) (take_more list i 0 lt) m))

pub settled_below : (rules : List Rule) (w0 w1 : Waits) (d0 d1 : Derived) (n : ℕ) → ((k : ℕ) (rule : Rule) → IsSettled w0 d0 k rule → IsSettled w1 d1 k rule) → ((k : ℕ) (rule : Rule) → k < n → slice_get rules k ≡ Some rule → IsSettled w0 d0 k rule) → ((rule : Rule) → slice_get rules n ≡ Some rule → IsSettled w1 d1 n rule)
    → (k : ℕ) (rule : Rule) → k < n + 1 → slice_get rules k ≡ Some rule → IsSettled w1 d1 k rule
settled_below rules w0 w1 d0 d1 n kept before now k rule lt e = ⊎_elim
    (λ (is : k ≡ n). subst (λ m. IsSettled w1 d1 m rule) (sym is) (now rule (ap (slice_get rules) (sym is) ∙ e)))
    (λ (ne : k ≡ n → ⊥). let apart : k ≢ n = ne in kept k rule (before k rule (omega arith) e))
    (cases_eq k n)
