-- Why true external supports say that a closed set is minimal (Lin and Zhao 2004), for a program with facts.
use Rattle.std.proofs.Common.{◌≡◌, ℕ, zero, suc, ◌<◌, Bool, true, false, not, ◌&&◌, ◌||◌, List, [], ◌∷◌, get_or, refl, sym, ap, ◌∙◌, subst, ⊎_elim, inl, inr}
use Rattle.std.specs.Prelude.{ℤ, pos, negsuc, Any, IsTrue, IsFalse, IfSome, ◌⊎◌}
use Rattle.std.specs.List.{list_all, list_any, filter_map}
use Rattle.std.specs.Bool.{Decides, then_some}
use Rattle.std.proofs.lemmas.Bool.{and_parts, and_from, false≢true, true≢false, cases_Bool, not-true, or_parts, or_from}
use Rattle.std.proofs.lemmas.Bool.Decides.{Decides-below_or}
use Rattle.std.proofs.lemmas.List.Folds.{list_any_at, Any-from_list_any}
use Rattle.ground_form.specs.Truth.{aggregates_true, literals_of, body_true}
use Rattle.ground_form.specs.Obedience.{literal_by, body_by, obliges, Obeys}
use Rattle.ground_form.specs.Sets.{IsSubset}
use Rattle.ground_form.specs.Reduct.{positives, positive_of}
use Rattle.ground_form.specs.AnswerSets.{IsClosedWith, IsAnswerSetWith}
use Rattle.ground_form.specs.Programs.{Parts}
use Rattle.ground_form.proofs.ReductLemmas.{closed_by_rules, body_by_itself, body_mono}
use Rattle.ground_form.specs.declared.rules.GroundRule.{GroundRule}
use Rattle.ground_form.specs.declared.rules.Head.{Head}
use Rattle.ground_form.specs.declared.rules.Head.TheVariants.{One, Choice, Nothing}

-- the head is an atom of u
abbrev pub heads_into : (ℕ → Bool) → Head → Bool
heads_into u (One a) = u a.0
heads_into u (Choice a) = u a.0
heads_into u Nothing = false

-- a rule for an atom of u whose body has no positive literal over an atom of u
abbrev pub is_external_rule : Parts → (ℕ → Bool) → GroundRule → Bool
is_external_rule g u r = heads_into u r.head && not (list_any u (positives g r.body.0))

-- an external rule whose body is true in x
abbrev pub supports : Parts → (ℕ → Bool) → (ℕ → Bool) → GroundRule → Bool
supports g x u r = is_external_rule g u r && body_true g x r.body.0

-- a fact of u, or an external rule for an atom of u whose body is true in x
abbrev pub IsSupported : Parts → (ℕ → Bool) → (ℕ → Bool) → (ℕ → Bool) → Type 0
IsSupported g facts x u = ((c : ℕ) × IsTrue (u c) × IsTrue (facts c)) ⊎ Any (λ (r : GroundRule). IsTrue (supports g x u r)) g.rules

-- each set that has an atom of x is supported
abbrev pub HasSupports : Parts → (ℕ → Bool) → (ℕ → Bool) → Type 0
HasSupports g facts x = (u : ℕ → Bool) (a : ℕ) → IsTrue (u a) → IsTrue (x a) → IsSupported g facts x u

-- ---- options

pub some_if : (P : ℕ → Type 0) (b : Bool) (a : ℕ) → (b ≡ true → P a) → IfSome (then_some b a) P
some_if P true a h = h refl
some_if P false a h = tt

pub if_some : (P : ℕ → Type 0) (b : Bool) (a : ℕ) → IfSome (then_some b a) P → b ≡ true → P a
if_some P true a h e = h
if_some P false a h e = absurd (false≢true e)

-- ---- supports make a closed set minimal

-- true literals with no positive atom in u are true by y, where y has what x has outside u
literals_outside : (x y u : ℕ → Bool) → ((a : ℕ) → IsTrue (x a) → IsFalse (u a) → IsTrue (y a)) → (lits : List ℤ) → IsTrue (list_all (literal_by x x) lits) → IsFalse (list_any u (filter_map positive_of lits)) → IsTrue (list_all (literal_by x y) lits)
literals_outside x y u h [] t o = refl
literals_outside x y u h (pos a ∷ lits) t o =
    let parts = and_parts (x a) (list_all (literal_by x x) lits) t in
    let outs = or_parts (u a) (list_any u (filter_map positive_of lits)) o in
    and_from (y a) (list_all (literal_by x y) lits) (h a parts.0 outs.0) (literals_outside x y u h lits parts.1 outs.1)
literals_outside x y u h (negsuc k ∷ lits) t o =
    let parts = and_parts (not (x (suc k))) (list_all (literal_by x x) lits) t in
    and_from (not (x (suc k))) (list_all (literal_by x y) lits) parts.0 (literals_outside x y u h lits parts.1 o)

-- a head in u that y has to have is in u and in y
head_both : (x y u : ℕ → Bool) (h : Head) → IsSubset u x → IsTrue (heads_into u h) → IfSome (obliges x h) (λ a. IsTrue (y a)) → (a : ℕ) × IsTrue (u a) × IsTrue (y a)
head_both x y u (One a) s i d = (a.0, i, d)
head_both x y u (Choice a) s i d = (a.0, i, if_some (λ b. IsTrue (y b)) (x a.0) a.0 d (s a.0 i))
head_both x y u Nothing s i d = absurd (false≢true i)

-- what x has and y has not
abbrev pub beside : (ℕ → Bool) → (ℕ → Bool) → ℕ → Bool
beside x y a = x a && not (y a)

in_y : (p q : Bool) → p ≡ true → (p && not q) ≡ false → q ≡ true
in_y true true e f = refl
in_y true false e f = absurd (true≢false f)
in_y false q e f = absurd (false≢true e)

-- what is beside y is not in y
apart : (x y : ℕ → Bool) (a : ℕ) → IsTrue (beside x y a) → IsTrue (y a) → ⊥
apart x y a h ya = false≢true (sym (not-true (y a) (and_parts (x a) (not (y a)) h).1) ∙ ya)

pub minimal_from_supports : (g : Parts) (facts x : ℕ → Bool) → HasSupports g facts x → (y : ℕ → Bool) → IsClosedWith g facts x y → IsSubset x y
minimal_from_supports g facts x has y closed a xa = ⊎_elim (λ (t : y a ≡ true). t) (λ (f : y a ≡ false).
    let u : ℕ → Bool = beside x y in
    let ua : IsTrue (u a) = and_from (x a) (not (y a)) xa (ap not f) in
    ⊎_elim
    (λ (fact : (c : ℕ) × IsTrue (u c) × IsTrue (facts c)). absurd (apart x y fact.0 fact.1 (closed.has_facts fact.0 fact.2)))
    (λ (some : Any (λ (r : GroundRule). IsTrue (supports g x u r)) g.rules).
    let r : GroundRule = some.1 in
    let both = and_parts (is_external_rule g u r) (body_true g x r.body.0) some.4 in
    let ext = and_parts (heads_into u r.head) (not (list_any u (positives g r.body.0))) both.0 in
    let split = and_parts (aggregates_true g x r.body.0) (list_all (literal_by x x) (literals_of g r.body.0)) (body_by_itself g x r.body.0 ∙ both.1) in
    let by_y : IsTrue (body_by g x y r.body.0) = and_from (aggregates_true g x r.body.0) (list_all (literal_by x y) (literals_of g r.body.0)) split.0
    (literals_outside x y u (λ b xb ub. in_y (x b) (y b) xb ub) (literals_of g r.body.0) split.1 (not-true (list_any u (positives g r.body.0)) ext.1)) in
    let obeys : Obeys g x y r = subst (Obeys g x y) some.3 ((closed_by_rules g x y).0 closed.has_heads some.0 r some.2) in
    let hit = head_both x y u r.head (λ b ub. (and_parts (x b) (not (y b)) ub).0) ext.0 (obeys by_y) in
    absurd (apart x y hit.0 hit.1 hit.2))
    (has u a ua xa))
    (cases_Bool (y a))

-- ---- a minimal set is supported

-- literals that are true by y have no positive atom in u, if y and u have none in common
literals_inside : (x y u : ℕ → Bool) → ((a : ℕ) → IsTrue (y a) → IsFalse (u a)) → (lits : List ℤ) → IsTrue (list_all (literal_by x y) lits) → IsFalse (list_any u (filter_map positive_of lits))
literals_inside x y u h [] t = refl
literals_inside x y u h (pos a ∷ lits) t =
    let parts = and_parts (y a) (list_all (literal_by x y) lits) t in
    or_from (u a) (list_any u (filter_map positive_of lits)) (h a parts.0) (literals_inside x y u h lits parts.1)
literals_inside x y u h (negsuc k ∷ lits) t = literals_inside x y u h lits (and_parts (not (x (suc k))) (list_all (literal_by x y) lits) t).1

not_if : (p : Bool) → (p ≡ true → ⊥) → not p ≡ true
not_if true n = absurd (n refl)
not_if false n = refl

-- an atom that a head obliges to stays, unless it is in u
head_beside : (x u : ℕ → Bool) (h : Head) → IfSome (obliges x h) (λ a. IsTrue (x a)) → (IsTrue (heads_into u h) → ⊥) → IfSome (obliges x h) (λ a. IsTrue (beside x u a))
head_beside x u (One a) d n = and_from (x a.0) (not (u a.0)) d (not_if (u a.0) n)
head_beside x u (Choice a) d n = some_if (λ b. IsTrue (beside x u b)) (x a.0) a.0 (λ t. and_from (x a.0) (not (u a.0)) t (not_if (u a.0) n))
head_beside x u Nothing d n = tt

-- whether a number below n passes
abbrev any_below : (ℕ → Bool) → ℕ → Bool
any_below p zero = false
any_below p (suc n) = p n || any_below p n

any_below_decides : (p : ℕ → Bool) (n : ℕ) → Decides (any_below p n) ((k : ℕ) × (k < n) × IsTrue (p k))
any_below_decides p n = Decides-below_or p (λ k. IsTrue (p k)) (any_below p) (λ k. (λ h. h, λ h. h)) refl (λ m. refl) n

module _ (g : Parts) (facts x u : ℕ → Bool) (answer : IsAnswerSetWith g facts x) where
  -- without a fact in u, and without a true external rule, x without u is closed
  closed_beside : ((c : ℕ) → IsTrue (u c) → IsTrue (facts c) → ⊥) → IsFalse (list_any (supports g x u) g.rules) → IsClosedWith g facts x (beside x u)
  closed_beside no_fact f =
      let y : ℕ → Bool = beside x u in
      let inside : IsSubset y x = λ b yb. (and_parts (x b) (not (u b)) yb).0 in
      record {
        has_facts = λ c fc. and_from (x c) (not (u c)) (answer.closed.has_facts c fc) (not_if (u c) (λ uc. no_fact c uc fc));
        has_heads = (closed_by_rules g x y).1 (λ k d lt by_y.
            let r : GroundRule = get_or g.rules k d in
            let by_x = body_mono g x y x r.body.0 inside by_y in
            head_beside x u r.head ((closed_by_rules g x x).0 answer.closed.has_heads k d lt by_x)
            (λ i. let off = literals_inside x y u (λ b yb. not-true (u b) (and_parts (x b) (not (u b)) yb).1) (literals_of g r.body.0) (and_parts (aggregates_true g x r.body.0) (list_all (literal_by x y) (literals_of g r.body.0)) by_y).1 in
            let ext = and_from (heads_into u r.head) (not (list_any u (positives g r.body.0))) i (ap not off) in
            let hit = and_from (is_external_rule g u r) (body_true g x r.body.0) ext (sym (body_by_itself g x r.body.0) ∙ by_x) in
            false≢true (sym f ∙ list_any_at (supports g x u) g.rules k d lt hit)));
      }

  -- a set that has an atom of x is supported, where each fact has a number below n
  pub supported_below : (n : ℕ) → ((c : ℕ) → IsTrue (facts c) → c < n) → (a : ℕ) → IsTrue (u a) → IsTrue (x a) → IsSupported g facts x u
  supported_below n below a ua xa = ⊎_elim
      (λ (t : any_below (λ c. u c && facts c) n ≡ true).
      let some = (any_below_decides (λ c. u c && facts c) n).0 t in
      let both = and_parts (u some.0) (facts some.0) some.2 in
      inl (some.0, both.0, both.1))
      (λ (none : any_below (λ c. u c && facts c) n ≡ false). ⊎_elim
      (λ (t : list_any (supports g x u) g.rules ≡ true). inr (Any-from_list_any (supports g x u) g.rules t))
      (λ (f : list_any (supports g x u) g.rules ≡ false).
      let y : ℕ → Bool = beside x u in
      let no_fact : (c : ℕ) → IsTrue (u c) → IsTrue (facts c) → ⊥ = λ c uc fc.
      false≢true (sym none ∙ (any_below_decides (λ b. u b && facts b) n).1 (c, below c fc, and_from (u c) (facts c) uc fc)) in
      let ya = answer.minimal y (λ b yb. (and_parts (x b) (not (u b)) yb).0) (closed_beside no_fact f) a xa in
      absurd (apart x u a ya ua))
      (cases_Bool (list_any (supports g x u) g.rules)))
      (cases_Bool (any_below (λ c. u c && facts c) n))

pub supports_from_answer : (g : Parts) (facts x : ℕ → Bool) (n : ℕ) → ((c : ℕ) → IsTrue (facts c) → c < n) → IsAnswerSetWith g facts x → HasSupports g facts x
supports_from_answer g facts x n below answer u a ua xa = supported_below g facts x u answer n below a ua xa
