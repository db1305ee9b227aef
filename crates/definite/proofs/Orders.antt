-- Atoms in an order in which they can be derived.
use Rattle.std.proofs.Common.{◌≡◌, ◌≢◌, ℕ, ◌+◌, ◌<◌, ◌≤◌, Bool, List, [], ◌∷◌, ◌++◌, length, take, get_or, sym, subst, arith, zero, suc, ⊎_elim, not, ◌||◌, true, false}
use Rattle.std.specs.Prelude.{All, Contains, IsTrue}
use Rattle.std.specs.List.{list_all}
use Rattle.std.proofs.lemmas.Bool.{cases_lt, false≢true}
use Rattle.std.proofs.lemmas.List.{take-append-le, take_all, get_or_append_left, get_or_push, length_push, take_at}
use Rattle.std.proofs.lemmas.List.Elements.{All-contains, All-same, All-more, Contains-get_or, All-nil}
use Rattle.std.proofs.lemmas.List.Quantifiers.{all_pairs_push}
use Rattle.std.proofs.lemmas.List.Sums.{AllPass-from_list_all, list_all-from_AllPass}
use Rattle.definite.specs.declared.Rule.{Rule}
use Rattle.definite.specs.Rules.{obeys, IsClosed, Follows, IsDerivation}

pub derivation_none : (rules : List Rule) → IsDerivation rules []
derivation_none rules = record {
  follows = λ i d lt. absurd (omega arith);
  distinct = λ i j d lt le. absurd (omega arith);
}

-- an atom that follows from those so far stands behind them
pub derivation_push : (rules : List Rule) (q : List ℕ) (a : ℕ) → IsDerivation rules q → Follows rules q a → (Contains q a → ⊥) → IsDerivation rules (q ++ a ∷ [])
derivation_push rules q a h f fresh = record {
  follows = λ i d lt. ⊎_elim
      (λ (old : i < length q). let le : i ≤ length q = omega arith in
      subst (λ before. Follows rules before (get_or (q ++ a ∷ []) i d)) (sym (take-append-le i q (a ∷ []) le))
      (subst (Follows rules (take i q)) (sym (get_or_append_left q (a ∷ []) d i old)) (h.follows i d old)))
      (λ (end : length q ≤ i). let n : length (q ++ a ∷ []) ≡ length q + 1 = length_push q a in let same : length q ≡ i = omega arith in
      subst (λ before. Follows rules before (get_or (q ++ a ∷ []) i d)) (sym (take_at q (a ∷ []) i same))
      (subst (Follows rules q) (sym (get_or_push q a d i same)) f))
      (cases_lt i (length q));
  distinct = all_pairs_push (λ (b c : ℕ). b ≢ c) q a h.distinct (λ k d lt e. fresh (subst (Contains q) e (Contains-get_or q k d lt)));
}

when_body : (b h : Bool) → IsTrue (not b || h) → IsTrue b → IsTrue h
when_body true h t e = t
when_body false h t e = absurd (false≢true e)

-- a set that is closed and has the body of a rule has its heads
pub closed_heads : (rules : List Rule) (z : ℕ → Bool) → IsClosed rules z → (k : ℕ) (d : Rule) → k < length rules → All (λ a. IsTrue (z a)) (get_or rules k d).body → All (λ a. IsTrue (z a)) (get_or rules k d).heads
closed_heads rules z closed k d lt body =
    let rule : Rule = get_or rules k d in
    AllPass-from_list_all z rule.heads (when_body (list_all z rule.body) (list_all z rule.heads)
    (AllPass-from_list_all (obeys z) rules closed k d lt) (list_all-from_AllPass z rule.body body))

module _ (rules : List Rule) (z : ℕ → Bool) (closed : IsClosed rules z) where
  follows_in : (before : List ℕ) (a : ℕ) → All (λ c. IsTrue (z c)) before → Follows rules before a → IsTrue (z a)
  follows_in before a h f =
      let k : ℕ = f.0 in
      let rule : Rule = f.1 in
      let is = f.3 in
      let heads = closed_heads rules z closed k rule f.2 (subst (λ (r : Rule). All (λ c. IsTrue (z c)) r.body) (sym is)
      (λ i d lt. All-contains (λ c. IsTrue (z c)) before (get_or rule.body i d) h (f.4.1 i d lt))) in
      All-contains (λ c. IsTrue (z c)) rule.heads a (subst (λ (r : Rule). All (λ c. IsTrue (z c)) r.heads) is heads) f.4.0

  first_in : (q : List ℕ) → IsDerivation rules q → (n : ℕ) → n ≤ length q → All (λ c. IsTrue (z c)) (take n q)
  first_in q h zero le = All-nil (λ c. IsTrue (z c))
  first_in q h (suc n) le =
      let lt : n < length q = omega arith in
      let before = first_in q h n (omega arith) in
      subst (λ m. All (λ c. IsTrue (z c)) (take m q)) (let e : n + 1 ≡ suc n = omega arith in e)
      (All-more (λ c. IsTrue (z c)) q n 0 lt before (follows_in (take n q) (get_or q n 0) before (h.follows n 0 lt)))

  -- what was derived is in each closed set
  pub derived_in : (q : List ℕ) → IsDerivation rules q → (a : ℕ) → Contains q a → IsTrue (z a)
  derived_in q h a m = All-contains (λ c. IsTrue (z c)) q a
      (All-same (λ c. IsTrue (z c)) q (take (length q) q) (sym (take_all (length q) q (omega arith))) (first_in q h (length q) (omega arith))) m
