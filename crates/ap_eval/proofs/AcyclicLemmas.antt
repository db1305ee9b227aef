-- An acyclic program with only rules for atoms has exactly one answer set with these facts: the set from which just
-- its own atoms follow.
use Rattle.std.proofs.Common.{◌≡◌, ℕ, suc, ◌<◌, Bool, true, false, not, ◌&&◌, ◌||◌, List, [], ◌∷◌, get_or, length, refl, sym, ap, ◌∙◌, subst, ⊎_elim, inl, inr, nat_lt}
use mathlib.Core.Path.{fun_ext}
use Rattle.std.specs.Prelude.{ℤ, pos, negsuc, All, IsTrue, IsFalse, IfSome, ◌⊎◌, ◌==◌}
use Rattle.std.specs.List.{list_all, list_any}
use Rattle.std.proofs.lemmas.Bool.{and_parts, and_from, or_left, or_right, or_cases, false≢true, eqb-true, eq-eqb, cases_Bool}
use Rattle.std.proofs.lemmas.List.Folds.{Any-from_list_any, list_any_at}
use Rattle.ground_form.proofs.ReductLemmas.{closed_by_rules, body_by_itself, body_mono}
use Rattle.ground_form.specs.Acyclic.{Rises, IsOne, HasOnlyAtomHeads, IsAcyclic}
use Rattle.ground_form.specs.AnswerSets.{IsAnswerSetWith, IsClosedWith}
use Rattle.ground_form.specs.Obedience.{literal_by, body_by, obliges}
use Rattle.ground_form.specs.Programs.{Parts, numbered}
use Rattle.ground_form.specs.Ranges.{IsHeadOf}
use Rattle.ground_form.specs.Sets.{IsSubset}
use Rattle.ground_form.specs.Truth as spec
use Rattle.ground_form.specs.declared.bodies.Body.{Body}
use Rattle.ground_form.specs.declared.rules.GroundRule.{GroundRule}
use Rattle.ground_form.specs.declared.rules.Head.{Head}
use Rattle.ground_form.specs.declared.rules.Head.TheVariants.{One, Choice, Nothing}
use Rattle.ap_eval.proofs.AgreementLemmas.{looks_low, lt_from_true}
use Rattle.ap_eval.proofs.LevelLemmas.{by_levels, supported_same, model, model_supported}
use Rattle.ap_eval.proofs.ListLemmas.{same_by_truth}
use Rattle.ap_eval.specs.Looks.{of_literals, of_guard, of_body}
use Rattle.ap_eval.specs.Supports.{names, derives, follows, IsSupported, HasOneAnswerSet}

-- ---- what a rule derives

obliges_named : (x : ℕ → Bool) (head : Head) (P : ℕ → Type 0) → ((a : ℕ) → IsTrue (names a head) → P a) → IfSome (obliges x head) P
obliges_named x (One c) P h = h c.0 (eq-eqb c.0 c.0 refl)
obliges_named x (Choice c) P h = when (x c.0)
  where
    when : (b : Bool) → IfSome (Rattle.std.specs.Bool.then_some b c.0) P
    when true = h c.0 (eq-eqb c.0 c.0 refl)
    when false = tt
obliges_named x Nothing P h = tt

one_obliges : (x : ℕ → Bool) (head : Head) (a : ℕ) (P : ℕ → Type 0) → IsOne head → IsTrue (names a head) → IfSome (obliges x head) P → P a
one_obliges x (One c) a P one n h = subst P (eqb-true c.0 a n) h
one_obliges x (Choice c) a P one n h = absurd one
one_obliges x Nothing a P one n h = absurd one

derived : (g : Parts) (facts x : ℕ → Bool) (k : ℕ) (d : GroundRule) (a : ℕ) → k < length g.rules → IsTrue (names a (get_or g.rules k d).head) → IsTrue (spec.body_true g x (get_or g.rules k d).body.0) → IsTrue (follows g facts x a)
derived g facts x k d a lt n t =
    let rule : GroundRule = get_or g.rules k d in
    or_right (facts a) (list_any (derives g x a) g.rules) (list_any_at (derives g x a) g.rules k d lt (and_from (names a rule.head) (spec.body_true g x rule.body.0) n t))

-- ---- a supported set is an answer set

module _ (x y p : ℕ → Bool) (has_low : (c : ℕ) → IsTrue (p c) → IsTrue (x c) → IsTrue (y c)) where
  literals_low_by : (lits : List ℤ) → IsTrue (of_literals p lits) → IsTrue (spec.literals_true x lits) → IsTrue (list_all (literal_by x y) lits)
  literals_low_by [] w t = refl
  literals_low_by (pos a ∷ lits) w t =
      let u = and_parts (p a) (of_literals p lits) w in
      let v = and_parts (x a) (spec.literals_true x lits) t in
      and_from (y a) (list_all (literal_by x y) lits) (has_low a u.0 v.0) (literals_low_by lits u.1 v.1)
  literals_low_by (negsuc k ∷ lits) w t =
      let u = and_parts (p (suc k)) (of_literals p lits) w in
      let v = and_parts (not (x (suc k))) (spec.literals_true x lits) t in
      and_from (not (x (suc k))) (list_all (literal_by x y) lits) v.0 (literals_low_by lits u.1 v.1)

  body_low_by : (g : Parts) (b : ℕ) → IsTrue (of_body g.groups p (numbered g.bodies b)) → IsTrue (spec.body_true g x b) → IsTrue (body_by g x y b)
  body_low_by g b w t =
      let v = and_parts (spec.aggregates_true g x b) (spec.literals_true x (spec.literals_of g b)) t in
      and_from (spec.aggregates_true g x b) (list_all (literal_by x y) (spec.literals_of g b)) v.0
      (literals_low_by (spec.literals_of g b) (of_lits (numbered g.bodies b) w) v.1)
    where
      of_lits : (o : Rattle.std.specs.Prelude.Option Body) → IsTrue (of_body g.groups p o) → IsTrue (of_literals p (spec.literals_in o))
      of_lits Rattle.std.specs.Prelude.None u = refl
      of_lits (Rattle.std.specs.Prelude.Some body) u = (and_parts (of_literals p body.lits) (list_all (of_guard g.groups p) body.guards) u).0

module _ (g : Parts) (facts : ℕ → Bool) (level : ℕ → ℕ) (low : All (λ (rule : GroundRule). Rises g level rule.head rule.body.0) g.rules) (ones : HasOnlyAtomHeads g) where
  supported_closed : (x : ℕ → Bool) → IsSupported g facts x → IsClosedWith g facts x x
  supported_closed x s = record {
    has_facts = λ a f. s a ∙ or_left (facts a) (list_any (derives g x a) g.rules) f;
    has_heads = (closed_by_rules g x x).1 (λ k d lt t.
        let rule : GroundRule = get_or g.rules k d in
        obliges_named x rule.head (λ a. IsTrue (x a)) (λ a n. s a ∙ derived g facts x k d a lt n (sym (body_by_itself g x rule.body.0) ∙ t)));
  }

  supported_least : (x : ℕ → Bool) → IsSupported g facts x → (y : ℕ → Bool) → IsClosedWith g facts x y → IsSubset x y
  supported_least x s y closed = by_levels level (λ a. IsTrue (x a) → IsTrue (y a)) (λ a ih t. ⊎_elim
      (λ (f : facts a ≡ true). closed.has_facts a f)
      (λ (any : list_any (derives g x a) g.rules ≡ true).
      let m = Any-from_list_any (derives g x a) g.rules any in
      let k : ℕ = m.0 in
      let d : GroundRule = m.1 in
      let rule : GroundRule = get_or g.rules k d in
      let parts = and_parts (names a rule.head) (spec.body_true g x rule.body.0) (subst (λ (r : GroundRule). IsTrue (derives g x a r)) (sym m.3) m.4) in
      let here = looks_low g level a rule.head rule.body.0 (low k d m.2) parts.0 in
      let body = body_low_by x y (λ c. nat_lt (level c) (level a)) (λ c u. ih c (lt_from_true (level c) (level a) u)) g rule.body.0 here parts.1 in
      one_obliges x rule.head a (λ c. IsTrue (y c)) (ones k d m.2) parts.0 ((closed_by_rules g x y).0 closed.has_heads k d m.2 body))
      (or_cases (facts a) (list_any (derives g x a) g.rules) (sym (s a) ∙ t)))

  pub supported_is_answer : (x : ℕ → Bool) → IsSupported g facts x → IsAnswerSetWith g facts x
  supported_is_answer x s = record {
    closed = supported_closed x s;
    minimal = λ y sub closed. supported_least x s y closed;
    constraints = λ k d lt e. absurd (subst IsOne e (ones k d lt));
  }

  -- ---- an answer set is supported

  without : (ℕ → Bool) → ℕ → ℕ → Bool
  without x a c = x c && not (c == a)

  answer_follows : (x : ℕ → Bool) → IsAnswerSetWith g facts x → (a : ℕ) → IsTrue (x a) → IsTrue (follows g facts x a)
  unfolding without
  answer_follows x answer a t = ⊎_elim
      (λ (yes : follows g facts x a ≡ true). yes)
      (λ (no : follows g facts x a ≡ false).
      let y : ℕ → Bool = without x a in
      let other : (c : ℕ) → IsTrue (x c) → IsTrue (follows g facts x c) → IsTrue (y c) = λ c u f. and_from (x c) (not (c == a)) u (⊎_elim
      (λ (e : (c == a) ≡ true). absurd (false≢true (sym no ∙ subst (λ n. IsTrue (follows g facts x n)) (eqb-true c a e) f)))
      (λ (e : (c == a) ≡ false). ap not e)
      (cases_Bool (c == a))) in
      let sub : IsSubset y x = λ c u. (and_parts (x c) (not (c == a)) u).0 in
      let closed : IsClosedWith g facts x y = record {
        has_facts = λ c f. other c (answer.closed.has_facts c f) (or_left (facts c) (list_any (derives g x c) g.rules) f);
        has_heads = (closed_by_rules g x y).1 (λ k d lt u.
            let rule : GroundRule = get_or g.rules k d in
            let here = body_mono g x y x rule.body.0 sub u in
            let old = (closed_by_rules g x x).0 answer.closed.has_heads k d lt here in
            obliges_named x rule.head (λ c. IsTrue (y c)) (λ c n.
            other c (one_obliges x rule.head c (λ v. IsTrue (x v)) (ones k d lt) n old) (derived g facts x k d c lt n (sym (body_by_itself g x rule.body.0) ∙ here))));
      } in
      let gone = (and_parts (x a) (not (a == a)) (answer.minimal y sub closed a t)).1 in
      absurd (false≢true (sym (ap not (eq-eqb a a refl)) ∙ gone)))
      (cases_Bool (follows g facts x a))

  follows_answer : (x : ℕ → Bool) → IsAnswerSetWith g facts x → (a : ℕ) → IsTrue (follows g facts x a) → IsTrue (x a)
  follows_answer x answer a t = ⊎_elim
      (λ (f : facts a ≡ true). answer.closed.has_facts a f)
      (λ (any : list_any (derives g x a) g.rules ≡ true).
      let m = Any-from_list_any (derives g x a) g.rules any in
      let rule : GroundRule = get_or g.rules m.0 m.1 in
      let parts = and_parts (names a rule.head) (spec.body_true g x rule.body.0) (subst (λ (r : GroundRule). IsTrue (derives g x a r)) (sym m.3) m.4) in
      one_obliges x rule.head a (λ c. IsTrue (x c)) (ones m.0 m.1 m.2) parts.0
      ((closed_by_rules g x x).0 answer.closed.has_heads m.0 m.1 m.2 (body_by_itself g x rule.body.0 ∙ parts.1)))
      (or_cases (facts a) (list_any (derives g x a) g.rules) t)

  answer_is_supported : (x : ℕ → Bool) → IsAnswerSetWith g facts x → IsSupported g facts x
  answer_is_supported x answer a = same_by_truth (x a) (follows g facts x a) (answer_follows x answer a) (follows_answer x answer a)

  -- ---- there is only one

  answers_same : (x y : ℕ → Bool) → IsAnswerSetWith g facts x → IsAnswerSetWith g facts y → x ≡ y
  answers_same x y h k = fun_ext (supported_same g facts level low x y (answer_is_supported x h) (answer_is_supported y k))

-- an acyclic program whose rules are all for atoms has exactly one answer set with these facts
pub one_answer_set : (g : Parts) (facts : ℕ → Bool) → IsAcyclic g → HasOnlyAtomHeads g → HasOneAnswerSet g facts
one_answer_set g facts acyclic ones =
    let x : ℕ → Bool = model g facts acyclic.0 acyclic.1 in
    let answer = supported_is_answer g facts acyclic.0 acyclic.1 ones x (model_supported g facts acyclic.0 acyclic.1) in
    (x, answer, λ y h. answers_same g facts acyclic.0 acyclic.1 ones y x h answer)

pub only_answer_set : (g : Parts) (facts x y : ℕ → Bool) → IsAcyclic g → HasOnlyAtomHeads g → IsAnswerSetWith g facts x → IsAnswerSetWith g facts y → x ≡ y
only_answer_set g facts x y acyclic ones h k = answers_same g facts acyclic.0 acyclic.1 ones x y h k

pub supported_answer : (g : Parts) (facts x : ℕ → Bool) → IsAcyclic g → HasOnlyAtomHeads g → IsSupported g facts x → IsAnswerSetWith g facts x
supported_answer g facts x acyclic ones s = supported_is_answer g facts acyclic.0 acyclic.1 ones x s
