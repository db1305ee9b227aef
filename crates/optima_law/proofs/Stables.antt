-- Whether a set is an answer set is decided, where there are finitely many atoms and what derives them is decided.
use Rattle.std.proofs.Common.{◌≡◌, Bool, true, false, ◌&&◌, ◌||◌, List, [], ◌∷◌, Contains, IsTrue, refl, subst, ⊎_elim, inl, inr}
use Rattle.std.specs.List.{list_any}
use Rattle.std.proofs.lemmas.Bool.{false≢true}
use Rattle.rule_form.proofs.Unfolds.{here, there, first_or_rest, nothing_in}
use Rattle.std.specs.Prelude.{◌⊎◌}
use Rattle.optima_law.specs.Strict.{IsStrictOn}
use Rattle.optima_law.proofs.Maximal.{IsTop, optimal_or_better}
use Rattle.optima_law.proofs.Sets.{IsWithin, sets_of, whole, inside}
use Rattle.rule_form.specs.AnswerSets.{IsClosed, IsStable}
use Rattle.sets.specs.Sets.{IsSubset}
use Rattle.rule_form.proofs.Decided.{IsDecided, decide_true, decide_both, decide_if, decide_all, decide_as}

-- of all members of a list, where it is decided of each
pub decide_each : {X : Type 0} (xs : List X) (P : X → Type 0) → ((x : X) → Contains xs x → IsDecided (P x)) → IsDecided ((x : X) → Contains xs x → P x)
decide_each [] P known = inl (λ x c. absurd (nothing_in x c))
decide_each (y ∷ ys) P known = ⊎_elim
    (λ p. ⊎_elim (λ all. inl (λ x c. ⊎_elim (λ e. subst P e p) (all x) (first_or_rest y ys x c))) (λ n. inr (λ all. n (λ x c. all x (there y ys x c)))) (decide_each ys P (λ x c. known x (there y ys x c))))
    (λ n. inr (λ all. n (all y (here y ys))))
    (known y (here y ys))

-- the atoms that there are, and tests
pub record IsFinite {A : Type 0} (derives : (A → Bool) → (A → Bool) → A → Type 0) (permits : (A → Bool) → Type 0) (facts : A → Type 0) (atoms : List A) : Type 0 where
  pub derived : (x y : A → Bool) (a : A) → derives x y a → Contains atoms a
  pub given : (a : A) → facts a → Contains atoms a
  pub derives_decided : (x y : A → Bool) (a : A) → IsDecided (derives x y a)
  pub facts_decided : (a : A) → IsDecided (facts a)
  pub permits_decided : (x : A → Bool) → IsDecided (permits x)

left : (p q : Bool) → IsTrue p → IsTrue (p || q)
left true q e = refl
left false q e = absurd (false≢true e)

right : (p q : Bool) → IsTrue q → IsTrue (p || q)
right true q e = refl
right false q e = e

or_either : (p q : Bool) → IsTrue (p || q) → IsTrue p ⊎ IsTrue q
or_either true q e = inl refl
or_either false q e = inr e

pub both : (p q : Bool) → IsTrue p → IsTrue q → IsTrue (p && q)
both true q e f = f
both false q e f = absurd (false≢true e)

pub first : (p q : Bool) → IsTrue (p && q) → IsTrue p
first true q e = refl
first false q e = absurd (false≢true e)

pub second : (p q : Bool) → IsTrue (p && q) → IsTrue q
second true q e = e
second false q e = absurd (false≢true e)

module _ {A : Type 0} (same : A → A → Bool) (decides : (a b : A) → IsTrue (same a b) → a ≡ b) (itself : (a : A) → IsTrue (same a a))
    (derives : (A → Bool) → (A → Bool) → A → Type 0) (permits : (A → Bool) → Type 0) (facts : A → Type 0) (atoms : List A) (fin : IsFinite derives permits facts atoms) where
  to_any : (xs : List A) (a : A) → Contains xs a → IsTrue (list_any (λ b. same b a) xs)
  to_any [] a c = absurd (nothing_in a c)
  to_any (y ∷ ys) a c = ⊎_elim (λ e. left (same y a) _ (subst (λ b. IsTrue (same y b)) e (itself y))) (λ r. right (same y a) _ (to_any ys a r)) (first_or_rest y ys a c)

  pub from_any : (xs : List A) (a : A) → IsTrue (list_any (λ b. same b a) xs) → Contains xs a
  from_any [] a e = absurd (false≢true e)
  from_any (y ∷ ys) a e = ⊎_elim (λ h. subst (Contains (y ∷ ys)) (decides y a h) (here y ys)) (λ h. there y ys a (from_any ys a h)) (or_either (same y a) _ e)

  closed_decided : (x y : A → Bool) → IsDecided (IsClosed derives facts x y)
  closed_decided x y = decide_as _ _
      (λ (f, h). record { has_facts = λ a p. f a (fin.given a p) p; has_heads = λ a d. h a (fin.derived x y a d) d })
      (λ c. (λ a among p. c.has_facts a p, λ a among d. c.has_heads a d))
      (decide_both _ _ (decide_all atoms (λ a. facts a → IsTrue (y a)) (λ a. decide_if _ _ (fin.facts_decided a) (decide_true (y a))))
      (decide_all atoms (λ a. derives x y a → IsTrue (y a)) (λ a. decide_if _ _ (fin.derives_decided x y a) (decide_true (y a)))))

  part_decided : (x y : A → Bool) → IsWithin atoms x → IsDecided (IsSubset x y)
  part_decided x y within = decide_as _ _ (λ f a h. f a (within a h) h) (λ f a c h. f a h)
      (decide_all atoms (λ a. IsTrue (x a) → IsTrue (y a)) (λ a. decide_if _ _ (decide_true (x a)) (decide_true (y a))))

  minimal_decided : (x : A → Bool) → IsWithin atoms x → IsDecided ((y : A → Bool) → IsSubset y x → IsClosed derives facts x y → IsSubset x y)
  minimal_decided x within = decide_as _ _
      (λ f y sub c. f y (whole same decides itself atoms y (λ a h. within a (sub a h))) sub c)
      (λ f y among sub c. f y sub c)
      (decide_each (sets_of same decides itself atoms) (λ y. IsSubset y x → IsClosed derives facts x y → IsSubset x y)
      (λ y among. decide_if _ _ (part_decided y x (inside same decides itself atoms y among)) (decide_if _ _ (closed_decided x y) (part_decided x y within))))

  pub stable_decided : (x : A → Bool) → Contains (sets_of same decides itself atoms) x → IsDecided (IsStable derives permits facts x)
  stable_decided x among =
      let within = inside same decides itself atoms x among in
      decide_as _ _
      (λ (c, (m, p)). record { finite = (atoms, within); closed = c; minimal = m; permitted = p })
      (λ st. (st.closed, (st.minimal, st.permitted)))
      (decide_both _ _ (closed_decided x x) (decide_both _ _ (minimal_decided x within) (fin.permits_decided x)))

  -- the members of x among the atoms
  abbrev pub cut : (A → Bool) → A → Bool
  cut x a = x a && list_any (λ b. same b a) atoms

  pub in_cut : (x : A → Bool) (a : A) → IsTrue (x a) → Contains atoms a → IsTrue (cut x a)
  in_cut x a xa c = both (x a) (list_any (λ b. same b a) atoms) xa (to_any atoms a c)

  -- an answer set has what is derived alone
  pub stable_within : (monotone : (x y z : A → Bool) (a : A) → IsSubset y z → derives x y a → derives x z a) (x : A → Bool) → IsStable derives permits facts x → IsWithin atoms x
  stable_within monotone x st a xa = from_any atoms a (second (x a) _ (st.minimal (cut x) (λ b h. first (x b) _ h) (record {
    has_facts = λ b f. in_cut x b (st.closed.has_facts b f) (fin.given b f);
    has_heads = λ b d. in_cut x b (st.closed.has_heads b (monotone x (cut x) x b (λ e h. first (x e) _ h) d)) (fin.derived x (cut x) b d);
  }) a xa))

  pub answer_sets_optimal : (monotone : (x y z : A → Bool) (a : A) → IsSubset y z → derives x y a → derives x z a) (better : (A → Bool) → (A → Bool) → Type 0) → ((x y : A → Bool) → IsDecided (better x y)) → IsStrictOn (IsStable derives permits facts) better
      → (x : A → Bool) → IsStable derives permits facts x → IsTop (IsStable derives permits facts) better x ⊎ ((y : A → Bool) × IsTop (IsStable derives permits facts) better y × better y x)
  answer_sets_optimal monotone better known strict = optimal_or_better (IsStable derives permits facts) better strict known (sets_of same decides itself atoms) stable_decided
      (λ x st. whole same decides itself atoms x (stable_within monotone x st))
