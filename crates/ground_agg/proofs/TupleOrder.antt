-- How two tuples compare, by their lengths and their members.
use Rattle.std.proofs.Common.{◌≡◌, ◌≢◌, ℕ, ◌<◌, List, length, refl, sym, subst, ap, ap₂, ◌∙◌, Ordering, Less, Equal, Greater, nat_cmp}
use Rattle.std.specs.Ordering.{ordering_then, MatchOrdering}
use Rattle.std.proofs.lemmas.Cmp.{nat_cmp_total, ranked, tied_itself}
use Rattle.ap_term.specs.declared.shape.TermId.{TermId}
use Rattle.ap_term.specs.Value.{Value}
use Rattle.ap_term.specs.Order.{values_cmp}
use Rattle.ap_term.proofs.CompareLemmas.{arguments_at, arity_at}
use Rattle.ground_agg.specs.Tuples.{tuple_cmp}

-- lengths first, and then the members
pub tuple_cmp-parts : (table : List Value) (a b : List TermId) → tuple_cmp table a b ≡ ordering_then (nat_cmp (length a) (length b)) (values_cmp (arguments_at table a) (arguments_at table b))
tuple_cmp-parts table a b = ap₂ (λ m n. ordering_then (nat_cmp m n) (values_cmp (arguments_at table a) (arguments_at table b))) (arity_at table a) (arity_at table b)

then_first : (o p : Ordering) → o ≢ Equal → o ≡ ordering_then o p
then_first Less p h = refl
then_first Equal p h = absurd (h refl)
then_first Greater p h = refl

equal_numbers : (m n : ℕ) → nat_cmp m n ≡ Equal → m ≡ n
equal_numbers m n e = subst (λ o. MatchOrdering o (m < n) (m ≡ n) (n < m)) e (ranked m n (nat_cmp m n) refl)

pub tuple_cmp-lengths : (table : List Value) (a b : List TermId) (o : Ordering) → length a ≢ length b → o ≡ nat_cmp (length a) (length b) → o ≡ tuple_cmp table a b
tuple_cmp-lengths table a b o differ is =
    is ∙ then_first (nat_cmp (length a) (length b)) (values_cmp (arguments_at table a) (arguments_at table b)) (λ e. differ (equal_numbers (length a) (length b) e)) ∙ sym (tuple_cmp-parts table a b)

pub tuple_cmp-members : (table : List Value) (a b : List TermId) → length a ≡ length b → values_cmp (arguments_at table a) (arguments_at table b) ≡ tuple_cmp table a b
tuple_cmp-members table a b same =
    sym (tuple_cmp-parts table a b ∙ ap (λ o. ordering_then o (values_cmp (arguments_at table a) (arguments_at table b))) (ap (λ n. nat_cmp n (length b)) same ∙ tied_itself nat_cmp_total (length b)))
