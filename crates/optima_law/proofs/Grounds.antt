-- The answer sets of a ground program.
use Rattle.std.proofs.Common.{◌≡◌, ℕ, ◌==◌, Bool, true, false, List, [], ◌∷◌, Contains, IsTrue, IsFalse, refl, sym, subst, ap, ⊎_elim, inl, inr, Option, Some, None, arith}
use Rattle.std.specs.Prelude.{◌⊎◌, flat_map, is_some}
use Rattle.std.specs.Bool.{then_some}
use Rattle.std.proofs.lemmas.Bool.{false≢true, eqb-true}
use Rattle.ground_form.specs.declared.rules.GroundRule.{GroundRule}
use Rattle.ground_form.specs.declared.rules.Head.{Head}
use Rattle.ground_form.specs.declared.rules.Head.TheVariants.{One, Choice, Nothing}
use Rattle.ground_form.specs.AnswerSets.{IsAnswerSet}
use Rattle.ground_form.specs.Obedience.{body_by, obliges}
use Rattle.ground_form.specs.Programs.{Parts}
use Rattle.ground_form.specs.Sets.{nothing}
use Rattle.ground_form.specs.Truth.{body_true}
use Rattle.ground_form.proofs.ReductLemmas.{body_mono}
use Rattle.ground_law.specs.Grounds.{GroundDerives, GroundPermits}
use Rattle.ground_law.proofs.Derived.{same_answers, closed_from, closed_to}
use Rattle.optima_law.specs.Strict.{IsStrictOn}
use Rattle.opt_core.specs.Optima.{IsOptimal}
use Rattle.optima_law.proofs.Maximal.{IsTop, optimal_or_better}
use Rattle.optima_law.proofs.Sets.{IsWithin, sets_of, whole, inside}
use Rattle.optima_law.proofs.Stables.{IsFinite, stable_decided, cut, in_cut, from_any, first, second}
use Rattle.sets.specs.Sets.{IsSubset}
use Rattle.rule_form.proofs.Decided.{IsDecided, decide_true, decide_both, decide_if, decide_all, decide_some, decide_as}
use Rattle.rule_form.proofs.Lists.{to_flat}
use Rattle.rule_form.proofs.Unfolds.{here}

abbrev same : ℕ → ℕ → Bool
same a b = a == b

decides : (a b : ℕ) → IsTrue (same a b) → a ≡ b
decides a b e = eqb-true a b e

itself : (a : ℕ) → IsTrue (same a a)
itself a = grind arith

decide_number : (a b : ℕ) → IsDecided (a ≡ b)
decide_number a b = ⊎_elim (λ e. inl (decides a b e)) (λ n. inr (λ e. n (subst (λ c. IsTrue (same a c)) e (itself a)))) (decide_true (same a b))

abbrev number_in : Option ℕ → ℕ
number_in None = 0
number_in (Some a) = a

decide_some_number : (o : Option ℕ) (a : ℕ) → IsDecided (o ≡ Some a)
decide_some_number None a = inr (λ e. false≢true (ap is_some e))
decide_some_number (Some b) a = decide_as _ _ (λ e. ap (λ c. Some c) e) (λ e. ap number_in e) (decide_number b a)

abbrev is_nothing : Head → Bool
is_nothing (One a) = false
is_nothing (Choice a) = false
is_nothing Nothing = true

nothing_is : (h : Head) → IsTrue (is_nothing h) → h ≡ Nothing
nothing_is (One a) e = absurd (false≢true e)
nothing_is (Choice a) e = absurd (false≢true e)
nothing_is Nothing e = refl

decide_nothing : (h : Head) → IsDecided (h ≡ Nothing)
decide_nothing h = decide_as _ _ (nothing_is h) (λ e. ap is_nothing e) (decide_true (is_nothing h))

decide_off : (b : Bool) → IsDecided (IsFalse b)
decide_off true = inr (λ e. false≢true (sym e))
decide_off false = inl refl

abbrev head_atoms : Head → List ℕ
head_atoms (One a) = a.0 ∷ []
head_atoms (Choice a) = a.0 ∷ []
head_atoms Nothing = []

then_some_is : (b : Bool) (v a : ℕ) → then_some b v ≡ Some a → v ≡ a
then_some_is true v a e = ap number_in e
then_some_is false v a e = absurd (false≢true (ap is_some e))

obliged : (x : ℕ → Bool) (h : Head) (a : ℕ) → obliges x h ≡ Some a → Contains (head_atoms h) a
obliged x (One b) a e = subst (Contains (b.0 ∷ [])) (ap number_in e) (here b.0 [])
obliged x (Choice b) a e = subst (Contains (b.0 ∷ [])) (then_some_is (x b.0) b.0 a e) (here b.0 [])
obliged x Nothing a e = absurd (false≢true (ap is_some e))

-- the atoms of heads
abbrev pub heads_of : Parts → List ℕ
heads_of g = flat_map (λ (rule : GroundRule). head_atoms rule.head) g.rules

module _ (g : Parts) where
  abbrev are_facts : ℕ → Type 0
  are_facts a = IsTrue (nothing a)

  fin : IsFinite (GroundDerives g) (GroundPermits g) are_facts (heads_of g)
  fin = record {
    derived = λ x y a (rule, among, o, body). to_flat (λ (r : GroundRule). head_atoms r.head) g.rules rule a among (obliged x rule.head a o);
    given = λ a f. absurd (false≢true f);
    derives_decided = λ x y a. decide_as _ _ (λ (rule, among, (o, body)). (rule, among, o, body)) (λ (rule, among, o, body). (rule, among, (o, body)))
        (decide_some g.rules (λ (rule : GroundRule). (obliges x rule.head ≡ Some a) × IsTrue (body_by g x y rule.body.0)) (λ rule. decide_both _ _ (decide_some_number (obliges x rule.head) a) (decide_true (body_by g x y rule.body.0))));
    facts_decided = λ a. decide_true (nothing a);
    permits_decided = λ x. decide_all g.rules (λ (rule : GroundRule). rule.head ≡ Nothing → IsFalse (body_true g x rule.body.0)) (λ rule. decide_if _ _ (decide_nothing rule.head) (decide_off (body_true g x rule.body.0)));
  }

  monotone : (x y z : ℕ → Bool) (a : ℕ) → IsSubset y z → GroundDerives g x y a → GroundDerives g x z a
  monotone x y z a sub (rule, among, o, body) = (rule, among, o, body_mono g x y z rule.body.0 sub body)

  -- an answer set has atoms of heads alone
  within : (x : ℕ → Bool) → IsAnswerSet g x → IsWithin (heads_of g) x
  within x h a xa =
      let small : ℕ → Bool = cut same decides itself (GroundDerives g) (GroundPermits g) are_facts (heads_of g) fin x in
      let stays : (b : ℕ) → IsTrue (x b) → Contains (heads_of g) b → IsTrue (small b) = in_cut same decides itself (GroundDerives g) (GroundPermits g) are_facts (heads_of g) fin x in
      from_any same decides itself (GroundDerives g) (GroundPermits g) are_facts (heads_of g) fin (heads_of g) a (second (x a) _ (h.minimal small (λ b e. first (x b) _ e) (closed_from g nothing x small (record {
        has_facts = λ b f. absurd (false≢true f);
        has_heads = λ b d. stays b ((closed_to g nothing x x h.closed).has_heads b (monotone x small x b (λ c e. first (x c) _ e) d)) (fin.derived x small b d);
      })) a xa))

  tops : (better : (ℕ → Bool) → (ℕ → Bool) → Type 0) → ((x y : ℕ → Bool) → IsDecided (better x y)) → IsStrictOn (IsAnswerSet g) better
      → (x : ℕ → Bool) → IsAnswerSet g x → IsTop (IsAnswerSet g) better x ⊎ ((y : ℕ → Bool) × IsTop (IsAnswerSet g) better y × better y x)
  tops better known strict = optimal_or_better (IsAnswerSet g) better strict known (sets_of same decides itself (heads_of g))
      (λ x among. let same_is = same_answers g nothing x (heads_of g) (inside same decides itself (heads_of g) x among) in
      decide_as _ _ same_is.1 same_is.0 (stable_decided same decides itself (GroundDerives g) (GroundPermits g) are_facts (heads_of g) fin x among))
      (λ x h. whole same decides itself (heads_of g) x (within x h))

  top_is : (better : (ℕ → Bool) → (ℕ → Bool) → Type 0) (x : ℕ → Bool) → IsTop (IsAnswerSet g) better x → IsOptimal (IsAnswerSet g) better x
  top_is better x h = record { answer = h.member; unbeaten = h.unbeaten }

  pub ground_optima : (better : (ℕ → Bool) → (ℕ → Bool) → Type 0) → ((x y : ℕ → Bool) → IsDecided (better x y)) → IsStrictOn (IsAnswerSet g) better
      → (x : ℕ → Bool) → IsAnswerSet g x → IsOptimal (IsAnswerSet g) better x ⊎ ((y : ℕ → Bool) × IsOptimal (IsAnswerSet g) better y × better y x)
  ground_optima better known strict x h = ⊎_elim (λ t. inl (top_is better x t)) (λ (y, t, b). inr (y, top_is better y t, b)) (tops better known strict x h)
