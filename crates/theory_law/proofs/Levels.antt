-- An acyclic program whose heads are atoms has exactly one answer set with each set of facts.
use Rattle.std.proofs.Common.{◌≡◌, ℕ, zero, suc, ◌+◌, ◌<◌, ◌≤◌, Bool, true, false, not, ◌&&◌, ◌||◌, List, [], ◌∷◌, length, get_or, refl, sym, ap, ◌∙◌, subst, Option, Some, None, ⊎_elim, inl, inr, arith}
use Rattle.std.specs.Prelude.{ℤ, pos, negsuc, All, Any, IsTrue, IfSome, ◌==◌}
use Rattle.std.specs.List.{list_all, list_any, filter_map, AllByRecursion}
use Rattle.std.proofs.lemmas.Bool.{and_parts, and_from, false≢true, cases_Bool, cases_lt, or_cases, or_left, or_right, eq-eqb, eqb-true, ne_eqb}
use Rattle.std.proofs.lemmas.List.Elements.{recursion_from_All}
use Rattle.std.proofs.lemmas.List.Folds.{list_any_at, list_any_none, Any-from_list_any}
use Rattle.ground_form.specs.Programs.{Parts, numbered}
use Rattle.ground_form.specs.Truth.{literal_true, literals_true, literals_of, literals_in, aggregates_true, body_true}
use Rattle.ground_form.specs.Obedience.{obliges, Obeys}
use Rattle.ground_form.specs.Sets.{nothing}
use Rattle.ground_form.specs.Ranges.{IsInRange, IsHeadOf}
use Rattle.ground_form.specs.Reduct.{positives, positive_of}
use Rattle.ground_form.specs.AnswerSets.{IsAnswerSetWith}
use Rattle.ground_form.specs.Acyclic.{atom_of, IsBelowIfThere, Rises, IsAcyclic, IsOne, HasOnlyAtomHeads}
use Rattle.ground_form.proofs.ReductLemmas.{closed_by_rules, body_by_itself}
use Rattle.ground_form.specs.declared.bodies.Body.{Body}
use Rattle.ground_form.specs.declared.rules.GroundRule.{GroundRule}
use Rattle.ground_form.specs.declared.rules.Head.{Head}
use Rattle.ground_form.specs.declared.rules.Head.TheVariants.{One, Choice, Nothing}
use Rattle.theory_law.proofs.Supports.{heads_into, is_external_rule, supports, IsSupported, minimal_from_supports, supports_from_answer}
use Rattle.theory_law.proofs.Membership.{same_truth, All-in, any_same}
use Rattle.theory_law.proofs.Agreement.{AgreeBelow, body_same}

-- ---- what follows in one step

-- a rule for the atom, whose body is true in x
abbrev pub derives : Parts → (ℕ → Bool) → ℕ → GroundRule → Bool
derives g x a r = heads_into (λ c. c == a) r.head && body_true g x r.body.0

-- the facts, and what the rules derive from x
abbrev pub step : Parts → (ℕ → Bool) → (ℕ → Bool) → ℕ → Bool
step g facts x a = facts a || list_any (derives g x a) g.rules

-- so many steps
abbrev pub steps : Parts → (ℕ → Bool) → ℕ → (ℕ → Bool) → ℕ → Bool
steps g facts zero x = x
steps g facts (suc k) x = step g facts (steps g facts k x)

module _ (g : Parts) (level : ℕ → ℕ) (rises : All (λ (r : GroundRule). Rises g level r.head r.body.0) g.rules) where
  derives_same : (n : ℕ) (x y : ℕ → Bool) (a : ℕ) → AgreeBelow level n x y → level a < suc n → (h : Head) (b : ℕ) → Rises g level h b → (heads_into (λ c. c == a) h && body_true g x b) ≡ (heads_into (λ c. c == a) h && body_true g y b)
  derives_same n x y a agree lt (One c) b rise = go (c.0 == a) refl
    where
      go : (t : Bool) → (c.0 == a) ≡ t → (t && body_true g x b) ≡ (t && body_true g y b)
      go true e = let is : c.0 ≡ a = eqb-true c.0 a e in
          body_same level (level c.0) x y (λ k below. let lower : level a ≡ level c.0 = ap level (sym is) in agree k (omega arith)) g b rise
      go false e = refl
  derives_same n x y a agree lt (Choice c) b rise = go (c.0 == a) refl
    where
      go : (t : Bool) → (c.0 == a) ≡ t → (t && body_true g x b) ≡ (t && body_true g y b)
      go true e = let is : c.0 ≡ a = eqb-true c.0 a e in
          body_same level (level c.0) x y (λ k below. let lower : level a ≡ level c.0 = ap level (sym is) in agree k (omega arith)) g b rise
      go false e = refl
  derives_same n x y a agree lt Nothing b rise = refl

  -- sets that agree below n have steps that agree below n + 1
  step_agree : (facts : ℕ → Bool) (n : ℕ) (x y : ℕ → Bool) → AgreeBelow level n x y → AgreeBelow level (suc n) (step g facts x) (step g facts y)
  step_agree facts n x y agree a lt = ap (λ t. facts a || t) (any_same (derives g x a) (derives g y a) g.rules (λ r i.
      derives_same n x y a agree lt r.head r.body.0 (All-in (λ (s : GroundRule). Rises g level s.head s.body.0) g.rules rises r i)))

  steps_agree : (facts : ℕ → Bool) (n : ℕ) (x y : ℕ → Bool) → AgreeBelow level n (steps g facts n x) (steps g facts n y)
  steps_agree facts zero x y a lt = absurd (omega arith)
  steps_agree facts (suc n) x y a lt = step_agree facts n (steps g facts n x) (steps g facts n y) (steps_agree facts n x y) a lt

  -- a set that is its own step stays below each level
  steps_fixed : (facts : ℕ → Bool) (n : ℕ) (x : ℕ → Bool) → ((a : ℕ) → x a ≡ step g facts x a) → AgreeBelow level n x (steps g facts n x)
  steps_fixed facts zero x fixed a lt = refl
  steps_fixed facts (suc n) x fixed a lt = fixed a ∙ step_agree facts n x (steps g facts n x) (steps_fixed facts n x fixed) a lt

  -- two sets that are their own steps are equal
  pub one_fixed : (facts : ℕ → Bool) (x y : ℕ → Bool) → ((a : ℕ) → x a ≡ step g facts x a) → ((a : ℕ) → y a ≡ step g facts y a) → (a : ℕ) → x a ≡ y a
  one_fixed facts x y fx fy a =
      let n : ℕ = suc (level a) in
      steps_fixed facts n x fx a (omega arith) ∙ (steps_agree facts n x y a (omega arith) ∙ sym (steps_fixed facts n y fy a (omega arith)))

  -- one step more changes nothing below the level
  more_steps : (facts : ℕ → Bool) (n : ℕ) (x : ℕ → Bool) → AgreeBelow level n (steps g facts n x) (steps g facts (suc n) x)
  more_steps facts zero x a lt = absurd (omega arith)
  more_steps facts (suc n) x a lt = step_agree facts n (steps g facts n x) (steps g facts (suc n) x) (more_steps facts n x) a lt

-- ---- the levels of the atoms are bounded

level_bound : (level : ℕ → ℕ) (n : ℕ) → (k : ℕ) × ((a : ℕ) → a < n → level a < k)
level_bound level zero = (zero, λ a lt. absurd (omega arith))
level_bound level (suc n) =
    let rest = level_bound level n in (
      rest.0 + suc (level n),
      λ a lt. ⊎_elim
          (λ (low : a < n). let q = rest.1 a low in omega arith)
          (λ (high : n ≤ a). let is : a ≡ n = omega arith in let same : level a ≡ level n = ap level is in omega arith)
          (cases_lt a n),
    )

-- ---- the set that the steps come to

-- no atom with a number beyond the program's is derived
head_within : (n : ℕ) (a : ℕ) (h : Head) → IsHeadOf n h → n < a → heads_into (λ c. c == a) h ≡ false
head_within n a (One c) is lt = ne_eqb c.0 a (λ e. let bound : c.0 ≤ n = is.1 in omega arith)
head_within n a (Choice c) is lt = ne_eqb c.0 a (λ e. let bound : c.0 ≤ n = is.1 in omega arith)
head_within n a Nothing is lt = refl

module _ (g : Parts) (facts : ℕ → Bool) (range : IsInRange g) (small : (c : ℕ) → IsTrue (facts c) → c ≤ length g.atoms) where
  step_beyond : (x : ℕ → Bool) (a : ℕ) → length g.atoms < a → step g facts x a ≡ false
  step_beyond x a lt =
      let not_fact : facts a ≡ false = ⊎_elim (λ (t : facts a ≡ true). let le = small a t in absurd (omega arith)) (λ (f : facts a ≡ false). f) (cases_Bool (facts a)) in
      let no_rule : list_any (derives g x a) g.rules ≡ false = list_any_none (derives g x a) g.rules (λ k d lt2.
      let r : GroundRule = get_or g.rules k d in
      ap (λ t. t && body_true g x r.body.0) (head_within (length g.atoms) a r.head (range.rules k d lt2).head lt)) in
      ap (λ t. t || list_any (derives g x a) g.rules) not_fact ∙ no_rule

  -- the answer set of an acyclic program, as its steps compute it
  pub stable_set : (level : ℕ → ℕ) → All (λ (r : GroundRule). Rises g level r.head r.body.0) g.rules → (x : ℕ → Bool) × ((a : ℕ) → x a ≡ step g facts x a)
  stable_set level rises =
      let bound = level_bound level (suc (length g.atoms)) in
      let n : ℕ = suc bound.0 in
      let x : ℕ → Bool = steps g facts n nothing in (
        x,
        λ a. ⊎_elim
            (λ (high : length g.atoms < a). step_beyond (steps g facts bound.0 nothing) a high ∙ sym (step_beyond x a high))
            (λ (low : a ≤ length g.atoms). let below = bound.1 a (omega arith) in more_steps g level rises facts n nothing a (omega arith))
            (cases_lt (length g.atoms) a),
      )

-- ---- such a set is an answer set, and each answer set is such a set

-- a head that obliges to an atom of u by any set
only_one : (x u : ℕ → Bool) (h : Head) → IsOne h → IsTrue (heads_into u h) → IfSome (obliges x h) (λ a. IsTrue (x a)) → (a : ℕ) × IsTrue (u a) × IsTrue (x a)
only_one x u (One a) is i d = (a.0, i, d)
only_one x u (Choice a) is i d = absurd is
only_one x u Nothing is i d = absurd is

module _ (g : Parts) (facts x : ℕ → Bool) (only : HasOnlyAtomHeads g) where
  pub fixed_from_answer : (n : ℕ) → ((c : ℕ) → IsTrue (facts c) → c < n) → IsAnswerSetWith g facts x → (a : ℕ) → x a ≡ step g facts x a
  fixed_from_answer n below answer a = same_truth (x a) (step g facts x a)
      (λ xa. ⊎_elim
      (λ (fact : (c : ℕ) × IsTrue (c == a) × IsTrue (facts c)). or_left (facts a) (list_any (derives g x a) g.rules) (subst (λ k. facts k ≡ true) (eqb-true fact.0 a fact.1) fact.2))
      (λ (some : Any (λ (r : GroundRule). IsTrue (supports g x (λ c. c == a) r)) g.rules).
      let r : GroundRule = some.1 in
      let both = and_parts (is_external_rule g (λ c. c == a) r) (body_true g x r.body.0) some.4 in
      let into = and_parts (heads_into (λ c. c == a) r.head) (not (list_any (λ c. c == a) (positives g r.body.0))) both.0 in
      let here : derives g x a r ≡ true = and_from (heads_into (λ c. c == a) r.head) (body_true g x r.body.0) into.0 both.1 in
      or_right (facts a) (list_any (derives g x a) g.rules) (list_any_at (derives g x a) g.rules some.0 r some.2 (subst (λ s. derives g x a s ≡ true) (sym some.3) here)))
      (supports_from_answer g facts x n below answer (λ c. c == a) a (eq-eqb a a refl) xa))
      (λ st. ⊎_elim
      (λ (fa : facts a ≡ true). answer.closed.has_facts a fa)
      (λ (any : list_any (derives g x a) g.rules ≡ true).
      let some = Any-from_list_any (derives g x a) g.rules any in
      let r : GroundRule = some.1 in
      let both = and_parts (heads_into (λ c. c == a) r.head) (body_true g x r.body.0) some.4 in
      let one : IsOne r.head = subst (λ (s : GroundRule). IsOne s.head) some.3 (only some.0 r some.2) in
      let obeys : Obeys g x x r = subst (Obeys g x x) some.3 ((closed_by_rules g x x).0 answer.closed.has_heads some.0 r some.2) in
      let hit = only_one x (λ c. c == a) r.head one both.0 (obeys (body_by_itself g x r.body.0 ∙ both.1)) in
      subst (λ k. x k ≡ true) (eqb-true hit.0 a hit.1) hit.2)
      (or_cases (facts a) (list_any (derives g x a) g.rules) st))

  -- an atom that a body asks for is true where the body is, and below
  asked_at : (u : ℕ → Bool) (level : ℕ → ℕ) (m : ℕ) (lits : List ℤ) → AllByRecursion (λ (l : ℤ). level (atom_of l) < m) lits → literals_true x lits ≡ true → list_any u (filter_map positive_of lits) ≡ true → (a : ℕ) × IsTrue (u a) × IsTrue (x a) × (level a < m)
  asked_at u level m [] b t i = absurd (false≢true i)
  asked_at u level m (pos a ∷ lits) b t i =
      let parts = and_parts (x a) (list_all (literal_true x) lits) t in ⊎_elim
      (λ (here : u a ≡ true). (a, here, parts.0, b.0))
      (λ (rest : list_any u (filter_map positive_of lits) ≡ true). asked_at u level m lits b.1 parts.1 rest)
      (or_cases (u a) (list_any u (filter_map positive_of lits)) i)
  asked_at u level m (negsuc k ∷ lits) b t i = asked_at u level m lits b.1 (and_parts (not (x (suc k))) (list_all (literal_true x) lits) t).1 i

  asked_in : (u : ℕ → Bool) (level : ℕ → ℕ) (m : ℕ) (body : Option Body) → IsBelowIfThere g.groups level m body → literals_true x (literals_in body) ≡ true → list_any u (filter_map positive_of (literals_in body)) ≡ true → (a : ℕ) × IsTrue (u a) × IsTrue (x a) × (level a < m)
  asked_in u level m None b t i = absurd (false≢true i)
  asked_in u level m (Some body) b t i = asked_at u level m body.lits (recursion_from_All _ body.lits b.lits) t i

  risen : (level : ℕ → ℕ) (a : ℕ) (h : Head) (b : ℕ) → Rises g level h b → heads_into (λ c. c == a) h ≡ true → IsBelowIfThere g.groups level (level a) (numbered g.bodies b)
  risen level a (One c) b rise e = subst (λ k. IsBelowIfThere g.groups level (level k) (numbered g.bodies b)) (eqb-true c.0 a e) rise
  risen level a (Choice c) b rise e = subst (λ k. IsBelowIfThere g.groups level (level k) (numbered g.bodies b)) (eqb-true c.0 a e) rise
  risen level a Nothing b rise e = absurd (false≢true e)

  into_at : (u : ℕ → Bool) (a : ℕ) (h : Head) → heads_into (λ c. c == a) h ≡ true → u a ≡ true → heads_into u h ≡ true
  into_at u a (One c) e ua = subst (λ k. u k ≡ true) (sym (eqb-true c.0 a e)) ua
  into_at u a (Choice c) e ua = subst (λ k. u k ≡ true) (sym (eqb-true c.0 a e)) ua
  into_at u a Nothing e ua = absurd (false≢true e)

  -- of the atoms of u in x one of the lowest level has a support outside u
  module _ (level : ℕ → ℕ) (rises : All (λ (r : GroundRule). Rises g level r.head r.body.0) g.rules) (fixed : (a : ℕ) → x a ≡ step g facts x a) (u : ℕ → Bool) where
    supported_from : (m : ℕ) (a : ℕ) → level a < m → IsTrue (u a) → IsTrue (x a) → IsSupported g facts x u
    supported_from zero a lt ua xa = absurd (omega arith)
    supported_from (suc m) a lt ua xa = ⊎_elim
        (λ (fa : facts a ≡ true). inl (a, ua, fa))
        (λ (any : list_any (derives g x a) g.rules ≡ true).
        let some = Any-from_list_any (derives g x a) g.rules any in
        let r : GroundRule = some.1 in
        let both = and_parts (heads_into (λ c. c == a) r.head) (body_true g x r.body.0) some.4 in
        let rise : Rises g level r.head r.body.0 = subst (λ (s : GroundRule). Rises g level s.head s.body.0) some.3 (rises some.0 r some.2) in
        ⊎_elim
        (λ (asks : list_any u (positives g r.body.0) ≡ true).
        let lower = asked_in u level (level a) (numbered g.bodies r.body.0) (risen level a r.head r.body.0 rise both.0) (and_parts (aggregates_true g x r.body.0) (literals_true x (literals_of g r.body.0)) both.1).1 asks in
        let under : level lower.0 < level a = lower.3 in
        supported_from m lower.0 (omega arith) lower.1 lower.2)
        (λ (none : list_any u (positives g r.body.0) ≡ false).
        let ext = and_from (heads_into u r.head) (not (list_any u (positives g r.body.0))) (into_at u a r.head both.0 ua) (ap not none) in
        inr (some.0, r, some.2, some.3, and_from (is_external_rule g u r) (body_true g x r.body.0) ext both.1))
        (cases_Bool (list_any u (positives g r.body.0))))
        (or_cases (facts a) (list_any (derives g x a) g.rules) (sym (fixed a) ∙ xa))

  pub answer_from_fixed : IsAcyclic g → ((a : ℕ) → x a ≡ step g facts x a) → IsAnswerSetWith g facts x
  answer_from_fixed acyclic fixed = record {
    closed = record {
      has_facts = λ a fa. fixed a ∙ or_left (facts a) (list_any (derives g x a) g.rules) fa;
      has_heads = (closed_by_rules g x x).1 (λ k d lt by_x. head_has k d lt (get_or g.rules k d).head refl (sym (body_by_itself g x (get_or g.rules k d).body.0) ∙ by_x));
    };
    minimal = λ y _ closed. minimal_from_supports g facts x (λ u a ua xa. supported_from acyclic.0 acyclic.1 fixed u (suc (acyclic.0 a)) a (omega arith) ua xa) y closed;
    constraints = λ k d lt e. absurd (subst IsOne e (only k d lt));
  }
    where
      head_has : (k : ℕ) (d : GroundRule) → k < length g.rules → (h : Head) → (get_or g.rules k d).head ≡ h → body_true g x (get_or g.rules k d).body.0 ≡ true → IfSome (obliges x h) (λ a. IsTrue (x a))
      head_has k d lt (One a) e t =
          let r : GroundRule = get_or g.rules k d in
          let here : derives g x a.0 r ≡ true = and_from (heads_into (λ c. c == a.0) r.head) (body_true g x r.body.0) (ap (heads_into (λ c. c == a.0)) e ∙ eq-eqb a.0 a.0 refl) t in
          fixed a.0 ∙ or_right (facts a.0) (list_any (derives g x a.0) g.rules) (list_any_at (derives g x a.0) g.rules k d lt here)
      head_has k d lt (Choice a) e t = absurd (subst IsOne e (only k d lt))
      head_has k d lt Nothing e t = tt
