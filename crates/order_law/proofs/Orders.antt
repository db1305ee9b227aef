-- Ways to lawful relations.
use Rattle.std.proofs.Common.{◌≡◌, ℕ, ◌<◌, ◌≤◌, ℤ, ◌≤ℤ◌, refl, sym, ◌∙◌, ⊎_elim, inl, inr, arith}
use Rattle.std.specs.Prelude.{◌⊎◌, ◌↔◌, ◌<ℤ◌}
use Rattle.std.proofs.lemmas.Int.{ints}
use Rattle.order_law.specs.Lawful.{IsLawful}

-- by a reflexive and transitive relation
pub by_preorder : {S : Type 0} (R : S → S → Type 0) → ((x : S) → R x x) → ((x y z : S) → R x y → R y z → R x z)
    → IsLawful (λ x y. R x y × (R y x → ⊥)) R (λ x y. R x y × R y x)
by_preorder R itself trans = record {
  irreflexive = λ x (p, n). n p;
  transitive = λ x y z (p, n) (q, m). (trans x y z p q, λ r. n (trans y z x q r));
  eq_itself = λ x. (itself x, itself x);
  eq_back = λ x y (p, q). (q, p);
  eq_transitive = λ x y z (p, q) (r, s). (trans x y z p r, trans z y x s q);
  eq_bettereq = λ x y (p, q). p;
  better_eq = λ x y z (p, n) (q, r). (trans x y z p q, λ h. n (trans y z x q h));
  eq_better = λ x y z (q, r) (p, n). (trans x y z q p, λ h. n (trans z x y h q));
  bettereq_itself = itself;
  bettereq_transitive = trans;
  bettereq_better = λ x y z q (p, n). (trans x y z q p, λ h. n (trans z x y h q));
  better_bettereq = λ x y z (p, n) q. (trans x y z p q, λ h. n (trans y z x q h));
}

-- where bettereq is better or eq
pub by_strict : {S : Type 0} (better eq : S → S → Type 0) → ((x : S) → better x x → ⊥) → ((x y z : S) → better x y → better y z → better x z)
    → ((x : S) → eq x x) → ((x y : S) → eq x y → eq y x) → ((x y z : S) → eq x y → eq y z → eq x z)
    → ((x y z : S) → better x y → eq y z → better x z) → ((x y z : S) → eq x y → better y z → better x z)
    → IsLawful better (λ x y. better x y ⊎ eq x y) eq
by_strict better eq irreflexive transitive itself back trans better_eq eq_better = record {
  irreflexive = irreflexive;
  transitive = transitive;
  eq_itself = itself;
  eq_back = back;
  eq_transitive = trans;
  eq_bettereq = λ x y e. inr e;
  better_eq = better_eq;
  eq_better = eq_better;
  bettereq_itself = λ x. inr (itself x);
  bettereq_transitive = λ x y z p q. ⊎_elim
      (λ b. ⊎_elim (λ c. inl (transitive x y z b c)) (λ e. inl (better_eq x y z b e)) q)
      (λ d. ⊎_elim (λ c. inl (eq_better x y z d c)) (λ e. inr (trans x y z d e)) q) p;
  bettereq_better = λ x y z p c. ⊎_elim (λ b. transitive x y z b c) (λ d. eq_better x y z d c) p;
  better_bettereq = λ x y z b q. ⊎_elim (λ c. transitive x y z b c) (λ e. better_eq x y z b e) q;
}

-- with the sets exchanged
pub exchanged : {S : Type 0} (b c e : S → S → Type 0) → IsLawful b c e → IsLawful (λ x y. b y x) (λ x y. c y x) (λ x y. e y x)
exchanged b c e h = record {
  irreflexive = h.irreflexive;
  transitive = λ x y z p q. h.transitive z y x q p;
  eq_itself = h.eq_itself;
  eq_back = λ x y p. h.eq_back y x p;
  eq_transitive = λ x y z p q. h.eq_transitive z y x q p;
  eq_bettereq = λ x y p. h.eq_bettereq y x p;
  better_eq = λ x y z p q. h.eq_better z y x q p;
  eq_better = λ x y z p q. h.better_eq z y x q p;
  bettereq_itself = h.bettereq_itself;
  bettereq_transitive = λ x y z p q. h.bettereq_transitive z y x q p;
  bettereq_better = λ x y z p q. h.better_bettereq z y x q p;
  better_bettereq = λ x y z p q. h.bettereq_better z y x q p;
}

-- of other things, seen by f, in other words
pub moved : {S T : Type 0} (f : T → S) (b c e : S → S → Type 0) (b' c' e' : T → T → Type 0) → ((x y : T) → b' x y ↔ b (f x) (f y)) → ((x y : T) → c' x y ↔ c (f x) (f y)) → ((x y : T) → e' x y ↔ e (f x) (f y))
    → IsLawful b c e → IsLawful b' c' e'
moved f b c e b' c' e' bs cs es h = record {
  irreflexive = λ x p. h.irreflexive (f x) ((bs x x).0 p);
  transitive = λ x y z p q. (bs x z).1 (h.transitive (f x) (f y) (f z) ((bs x y).0 p) ((bs y z).0 q));
  eq_itself = λ x. (es x x).1 (h.eq_itself (f x));
  eq_back = λ x y p. (es y x).1 (h.eq_back (f x) (f y) ((es x y).0 p));
  eq_transitive = λ x y z p q. (es x z).1 (h.eq_transitive (f x) (f y) (f z) ((es x y).0 p) ((es y z).0 q));
  eq_bettereq = λ x y p. (cs x y).1 (h.eq_bettereq (f x) (f y) ((es x y).0 p));
  better_eq = λ x y z p q. (bs x z).1 (h.better_eq (f x) (f y) (f z) ((bs x y).0 p) ((es y z).0 q));
  eq_better = λ x y z p q. (bs x z).1 (h.eq_better (f x) (f y) (f z) ((es x y).0 p) ((bs y z).0 q));
  bettereq_itself = λ x. (cs x x).1 (h.bettereq_itself (f x));
  bettereq_transitive = λ x y z p q. (cs x z).1 (h.bettereq_transitive (f x) (f y) (f z) ((cs x y).0 p) ((cs y z).0 q));
  bettereq_better = λ x y z p q. (bs x z).1 (h.bettereq_better (f x) (f y) (f z) ((cs x y).0 p) ((bs y z).0 q));
  better_bettereq = λ x y z p q. (bs x z).1 (h.better_bettereq (f x) (f y) (f z) ((bs x y).0 p) ((cs y z).0 q));
}

-- by a number of each set, the smaller the better
pub by_number : {S : Type 0} (f : S → ℕ) → IsLawful (λ x y. f x < f y) (λ x y. f x ≤ f y) (λ x y. f x ≡ f y)
by_number f = record {
  irreflexive = λ x p. omega (arith, p);
  transitive = λ x y z p q. omega (arith, p, q);
  eq_itself = λ x. refl;
  eq_back = λ x y p. sym p;
  eq_transitive = λ x y z p q. p ∙ q;
  eq_bettereq = λ x y p. omega (arith, p);
  better_eq = λ x y z p q. omega (arith, p, q);
  eq_better = λ x y z p q. omega (arith, p, q);
  bettereq_itself = λ x. omega arith;
  bettereq_transitive = λ x y z p q. omega (arith, p, q);
  bettereq_better = λ x y z p q. omega (arith, p, q);
  better_bettereq = λ x y z p q. omega (arith, p, q);
}

ints_lawful : IsLawful {S = ℤ} (λ x y. x <ℤ y) (λ x y. x ≤ℤ y) (λ x y. x ≡ y)
ints_lawful = record {
  irreflexive = λ x p. omega (arith, ints, p);
  transitive = λ x y z p q. omega (arith, ints, p, q);
  eq_itself = λ x. refl;
  eq_back = λ x y p. sym p;
  eq_transitive = λ x y z p q. p ∙ q;
  eq_bettereq = λ x y p. omega (arith, ints, p);
  better_eq = λ x y z p q. omega (arith, ints, p, q);
  eq_better = λ x y z p q. omega (arith, ints, p, q);
  bettereq_itself = λ x. omega (arith, ints);
  bettereq_transitive = λ x y z p q. omega (arith, ints, p, q);
  bettereq_better = λ x y z p q. omega (arith, ints, p, q);
  better_bettereq = λ x y z p q. omega (arith, ints, p, q);
}

pub by_sum : {S : Type 0} (f : S → ℤ) → IsLawful (λ x y. f x <ℤ f y) (λ x y. f x ≤ℤ f y) (λ x y. f x ≡ f y)
by_sum f = moved f (λ x y. x <ℤ y) (λ x y. x ≤ℤ y) (λ x y. x ≡ y) (λ x y. f x <ℤ f y) (λ x y. f x ≤ℤ f y) (λ x y. f x ≡ f y) (λ x y. (λ p. p, λ p. p)) (λ x y. (λ p. p, λ p. p)) (λ x y. (λ p. p, λ p. p)) ints_lawful
