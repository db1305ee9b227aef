-- The degrees of `aso` on one side, from what its rules say.
use Rattle.std.proofs.Common.{◌≡◌, ℕ, zero, suc, ◌<◌, ℤ, pos, negsuc, List, [], ◌∷◌, length, get_or, Bool, true, false, IsTrue, IsFalse, refl, sym, subst, ap, ap₂, ◌∙◌, ⊎_elim, inl, inr, Contains, arith, Option, Some, None, if◌then◌else◌}
use Rattle.std.specs.Prelude.{◌⊎◌, codes}
use Rattle.std.proofs.lemmas.Bool.{false≢true}
use Rattle.std.proofs.lemmas.List.{get_or_default}
use Rattle.ap_syntax.specs.declared.terms.Rel.TheVariants.{Gt, Lt}
use Rattle.ap_term.specs.Value.{Value, integer, compound, none, also}
use Rattle.rule_form.specs.Truth.{compares}
use Rattle.rule_form.proofs.Stable.{settled_true}
use Rattle.rule_form.proofs.Tells.{Tells, take, is_false, from_false, settled_empty}
use Rattle.type_law.specs.Takes.{HasGrades}
use Rattle.element_form.specs.Degrees.{target_true, next_place, first_true, condition_true, place_or_one, degree}
use Rattle.element_form.specs.Ground.{Statement, Ground, Ranked, Target, For, IsAt, IsGiven, key}
use Rattle.element_form.specs.Facts.{target_term, IsElementFact}
use Rattle.type_law.proofs.Facts.{for_target}
use Rattle.element_form.proofs.Distinct.{number_of}
use Rattle.type_law.proofs.Numbers.{lt_from, lt_to, gt_from, gt_to}

-- ---- the first true rank

pub record IsFirst (sat : Value → Bool) (rs : List Ranked) (k : ℕ) : Type 0 where
  pub place : ℕ
  pub is : k ≡ suc place
  pub low : place < length rs
  pub true_there : (d : Ranked) → IsTrue (target_true sat (get_or rs place d).target)
  pub false_before : (j : ℕ) (d : Ranked) → j < place → IsFalse (target_true sat (get_or rs j d).target)

abbrev pub FirstIs : (Value → Bool) → List Ranked → Option ℕ → Type 0
FirstIs sat rs None = (j : ℕ) (d : Ranked) → j < length rs → IsFalse (target_true sat (get_or rs j d).target)
FirstIs sat rs (Some k) = IsFirst sat rs k

step : (sat : Value → Bool) (r : Ranked) (rs : List Ranked) (b : Bool) (o : Option ℕ) → target_true sat r.target ≡ b → FirstIs sat rs o → FirstIs sat (r ∷ rs) (if b then Some 1 else next_place o)
step sat r rs true o e h = record { place = 0; is = refl; low = omega arith; true_there = λ d. e; false_before = λ j d lt. let no_ : ⊥ = omega (arith, lt) in absurd no_ }
step sat r rs false None e h = by_place
  where
    by_place : (j : ℕ) (d : Ranked) → j < length (r ∷ rs) → IsFalse (target_true sat (get_or (r ∷ rs) j d).target)
    by_place zero d lt = e
    by_place (suc j) d lt = h j d (omega (arith, lt))
step sat r rs false (Some k) e h = record { place = suc h.place; is = ap suc h.is; low = omega (arith, h.low); true_there = λ d. h.true_there d; false_before = before }
  where
    before : (j : ℕ) (d : Ranked) → j < suc h.place → IsFalse (target_true sat (get_or (r ∷ rs) j d).target)
    before zero d lt = e
    before (suc j) d lt = h.false_before j d (omega (arith, lt))

pub first_is : (sat : Value → Bool) (rs : List Ranked) → FirstIs sat rs (first_true sat rs)
first_is sat [] = λ j d lt. let no_ : ⊥ = omega (arith, lt) in absurd no_
first_is sat (r ∷ rs) = step sat r rs (target_true sat r.target) (first_true sat rs) refl (first_is sat rs)

-- ---- elements and facts

-- what the rules of one side say
pub record IsSide (st : Statement) (sat : Value → Bool) (act some cond : Value → Bool) (hit early deg : Value → Value → Bool) : Type 0 where
  pub act_is : (i : Value) → Tells (act i)
      (((f w : Value) × IsElementFact st i (integer (pos 0)) (compound (codes "for") (also f none)) w × IsTrue (sat f))
      ⊎ ((t w : Value) × IsElementFact st i (integer (pos 1)) t w × IsFalse (cond i)))
  pub hit_is : (i r : Value) → Tells (hit i r)
      ((f w : Value) × IsElementFact st i r (compound (codes "for") (also f none)) w × IsTrue (compares Gt r (integer (pos 0))) × IsTrue (act i) × IsTrue (sat f))
  pub early_is : (i r : Value) → Tells (early i r) ((t w s : Value) × IsElementFact st i r t w × IsTrue (hit i s) × IsTrue (compares Lt s r))
  pub deg_is : (i r : Value) → Tells (deg i r)
      ((IsTrue (hit i r) × IsFalse (early i r)) ⊎ ((t w : Value) × (r ≡ integer (pos 1)) × IsElementFact st i (integer (pos 1)) t w × IsFalse (some i)))
  pub some_is : (i : Value) → Tells (some i) ((r : Value) × IsTrue (hit i r))
  pub cond_is : (i : Value) → Tells (cond i) ((t w : Value) × IsElementFact st i (integer (pos 0)) t w)

abbrev natural : ℤ → ℕ
natural (pos n) = n
natural (negsuc n) = 0

place_same : (j k : ℕ) → integer (pos j) ≡ integer (pos k) → j ≡ k
place_same j k e = ap (λ v. natural (number_of v)) e

given_true : (sat : Value → Bool) (o : Option Ranked) (r : Ranked) → IsGiven o r → condition_true sat o ≡ target_true sat r.target
given_true sat None r h = absurd h
given_true sat (Some g) r h = ap (λ (q : Ranked). target_true sat q.target) (sym h)

not_given : (sat : Value → Bool) (o : Option Ranked) → ((r : Ranked) → IsGiven o r → ⊥) → IsTrue (condition_true sat o)
not_given sat None h = refl
not_given sat (Some g) h = absurd (h g refl)

for_true : (sat : Value → Bool) (t : Target) (f : Value) → t ≡ For f → target_true sat t ≡ sat f
for_true sat t f e = ap (target_true sat) e

module _ (st : Statement) (shape : HasGrades st) (sat : Value → Bool) (act some cond : Value → Bool) (hit early deg : Value → Value → Bool) (side : IsSide st sat act some cond hit early deg) where
  fact_at : (e : Ground) (k : ℕ) (r : Ranked) → Contains st.elements e → IsAt e k r → IsElementFact st (key e) (integer (pos k)) (target_term r.target) (compound [] r.weights)
  fact_at e k r among at = (e, k, r, among, refl, refl, inl at, refl, refl)

  fact_given : (e : Ground) (r : Ranked) → Contains st.elements e → IsGiven e.given r → IsElementFact st (key e) (integer (pos 0)) (target_term r.target) (compound [] r.weights)
  fact_given e r among given = (e, 0, r, among, refl, refl, inr (refl, given), refl, refl)

  abbrev Stands : Ground → ℕ → Ranked → Type 0
  Stands e k r = IsAt e k r ⊎ ((k ≡ 0) × IsGiven e.given r)

  from_fact : (e : Ground) (k : ℕ) (t w : Value) → Contains st.elements e → IsElementFact st (key e) (integer (pos k)) t w → (r : Ranked) × Stands e k r × (t ≡ target_term r.target)
  from_fact e k t w among (f, j, r, other, ie, re, place, te, we) =
      let same : f ≡ e = shape.keyed f e other among (sym ie) in
      let k_is : j ≡ k = place_same j k (sym re) in
      (r, subst (λ g. Stands g k r) same (subst (λ n. Stands f n r) k_is place), te)

  -- at place 0 stands the condition alone, and elsewhere ranks
  at_zero : (e : Ground) (r : Ranked) → Stands e 0 r → IsGiven e.given r
  at_zero e r s = ⊎_elim (λ at. let n : ⊥ = omega (arith, at.1) in absurd n) (λ g. g.1) s

  at_rank : (e : Ground) (k : ℕ) (r : Ranked) → 0 < k → Stands e k r → IsAt e k r
  at_rank e k r lt s = ⊎_elim (λ at. at) (λ g. let n : ⊥ = omega (arith, lt, g.0) in absurd n) s

  first_rank : (e : Ground) → Contains st.elements e → (r : Ranked) × IsAt e 1 r
  first_rank e among = let low = shape.ranked e among in by e.ranks refl
    where
      by : (rs : List Ranked) → e.ranks ≡ rs → (r : Ranked) × IsAt e 1 r
      by [] q = let n : ⊥ = omega (arith, shape.ranked e among, ap length q) in absurd n
      by (r ∷ rs) q = (r, (0, refl, shape.ranked e among, ap (λ us. get_or us 0 r) q))

  abbrev active : Ground → Type 0
  active e = IsTrue (condition_true sat e.given)

  pub act_active : (e : Ground) → Contains st.elements e → IsTrue (act (key e)) → active e
  act_active e among h = take (active e) (side.act_is (key e)) h (settled_true (condition_true sat e.given)) (⊎_elim
      (λ (f, w, fact, holds). let (r, stands, te) = from_fact e 0 _ w among fact in
      given_true sat e.given r (at_zero e r stands) ∙ (for_true sat r.target f (for_target f r.target te) ∙ holds))
      (λ (t, w, fact, not_cond). not_given sat e.given (λ r given. from_false (side.cond_is (key e)) not_cond (target_term r.target, compound [] r.weights, fact_given e r among given))))

  pub active_act : (e : Ground) → Contains st.elements e → active e → IsTrue (act (key e))
  active_act e among h = by e.given refl
    where
      by : (o : Option Ranked) → e.given ≡ o → IsTrue (act (key e))
      by None q = let (r, at) = first_rank e among in
          (side.act_is (key e)).0 (inr (
            target_term r.target,
            compound [] r.weights,
            fact_at e 1 r among at,
            is_false (side.cond_is (key e)) (λ (t, w, fact). let (g, stands, te) = from_fact e 0 t w among fact in subst (λ o. IsGiven o g) q (at_zero e g stands)),
          ))
      by (Some g) q =
          let given : IsGiven e.given g = subst (λ o. IsGiven o g) (sym q) refl in
          let (f, is) = shape.formulas e g among (inr given) in
          (side.act_is (key e)).0 (inl (
            f,
            compound [] g.weights,
            subst (λ t. IsElementFact st (key e) (integer (pos 0)) (target_term t) (compound [] g.weights)) is (fact_given e g among given),
            sym (for_true sat g.target f is) ∙ (sym (given_true sat e.given g given) ∙ h),
          ))

  -- what a hit is
  abbrev Hits : Ground → ℕ → Type 0
  Hits e k = (r : Ranked) × IsAt e k r × active e × IsTrue (target_true sat r.target)

  hit_from : (e : Ground) (k : ℕ) → Contains st.elements e → IsTrue (hit (key e) (integer (pos k))) → (Hits e k → ⊥) → ⊥
  hit_from e k among h deny = take ⊥ (side.hit_is (key e) (integer (pos k))) h settled_empty (λ (f, w, fact, gt, acts, holds).
      let (r, stands, te) = from_fact e k _ w among fact in
      deny (r, at_rank e k r (gt_from k 0 gt) stands, act_active e among acts, for_true sat r.target f (for_target f r.target te) ∙ holds))

  hit_to : (e : Ground) (k : ℕ) → Contains st.elements e → Hits e k → IsTrue (hit (key e) (integer (pos k)))
  hit_to e k among (r, at, on, holds) =
      let (f, is) = shape.formulas e r among (inl (at.0, at.2, at.3)) in
      (side.hit_is (key e) (integer (pos k))).0 (
        f,
        compound [] r.weights,
        subst (λ t. IsElementFact st (key e) (integer (pos k)) (target_term t) (compound [] r.weights)) is (fact_at e k r among at),
        gt_to k 0 (omega (arith, at.1)),
        active_act e among on,
        sym (for_true sat r.target f is) ∙ holds,
      )

  -- a hit is at a place of an element
  abbrev IsPlace : Value → Value → Type 0
  IsPlace i r = (e : Ground) × (k : ℕ) × Contains st.elements e × (i ≡ (key e)) × (r ≡ integer (pos k))

  hit_place : (i r : Value) → IsTrue (hit i r) → (IsPlace i r → ⊥) → ⊥
  hit_place i r h deny = take ⊥ (side.hit_is i r) h settled_empty (λ (f, w, (e, k, ranked, among, ie, re, place, te, we), gt, acts, holds). deny (e, k, among, ie, re))

  pub deg_place : (i r : Value) → IsTrue (deg i r) → (IsPlace i r → ⊥) → ⊥
  deg_place i r h deny = take ⊥ (side.deg_is i r) h settled_empty (⊎_elim
      (λ (hits, early_not). hit_place i r hits deny)
      (λ (t, w, one, (e, k, ranked, among, ie, re, place, te, we), some_not). deny (e, 1, among, ie, one)))

  hit_at : (e : Ground) (place : ℕ) → Contains st.elements e → active e → place < length e.ranks → ((d : Ranked) → IsTrue (target_true sat (get_or e.ranks place d).target)) → Hits e (suc place)
  hit_at e place among on low holds = let (r, at) = first_rank e among in
      let d : Ranked = get_or e.ranks place r in
      (d, (place, omega arith, low, get_or_default e.ranks place d r low), on, holds r)

  -- a rank that hits is the first that is true, if no earlier one hits
  first_hit : (e : Ground) (k : ℕ) → Contains st.elements e → Hits e k → IsFalse (early (key e) (integer (pos k))) → (o : Option ℕ) → FirstIs sat e.ranks o → k ≡ place_or_one o
  first_hit e k among (r, (p, k_is, low, at), on, holds) not_early None none_true = absurd (false≢true (sym (none_true p r low) ∙ subst (λ (q : Ranked). IsTrue (target_true sat q.target)) (sym at) holds))
  first_hit e k among (r, (p, k_is, low, at), on, holds) not_early (Some m) first =
      let not_less : first.place < p → ⊥ = λ lt. from_false (side.early_is (key e) (integer (pos k))) not_early (
        target_term r.target,
        compound [] r.weights,
        integer (pos (suc first.place)),
        fact_at e k r among (p, k_is, low, at),
        hit_to e (suc first.place) among (hit_at e first.place among on first.low first.true_there),
        lt_to (suc first.place) k (omega (arith, lt, k_is)),
      ) in
      let not_more : p < first.place → ⊥ = λ lt. false≢true (sym (first.false_before p r lt) ∙ subst (λ (q : Ranked). IsTrue (target_true sat q.target)) (sym at) holds) in
      let same : p ≡ first.place = grind (arith, not_less, not_more) in
      k_is ∙ (omega (arith, same, first.is))

  degree_as : (e : Ground) (b : Bool) (o : Option ℕ) → condition_true sat e.given ≡ b → first_true sat e.ranks ≡ o → degree sat e ≡ (if b then place_or_one o else 1)
  degree_as e b o p q = ap₂ (λ (c : Bool) (m : Option ℕ). if c then place_or_one m else 1) p q

  -- without a hit the degree is 1
  no_hit : (e : Ground) → Contains st.elements e → IsFalse (some (key e)) → degree sat e ≡ 1
  no_hit e among not_some = by (condition_true sat e.given) (first_true sat e.ranks) refl refl
    where
      by : (b : Bool) (o : Option ℕ) → condition_true sat e.given ≡ b → first_true sat e.ranks ≡ o → degree sat e ≡ 1
      by false o p q = degree_as e false o p q
      by true None p q = degree_as e true None p q
      by true (Some m) p q = let first : IsFirst sat e.ranks m = subst (FirstIs sat e.ranks) q (first_is sat e.ranks) in
          absurd (from_false (side.some_is (key e)) not_some (integer (pos (suc first.place)), hit_to e (suc first.place) among (hit_at e first.place among p first.low first.true_there)))

  -- the degree of an element is its degree
  pub deg_from : (e : Ground) (k : ℕ) → Contains st.elements e → IsTrue (deg (key e) (integer (pos k))) → (k ≡ degree sat e → ⊥) → ⊥
  deg_from e k among h deny = take ⊥ (side.deg_is (key e) (integer (pos k))) h settled_empty (⊎_elim
      (λ (hits, early_not). hit_from e k among hits (λ ht. deny (first_hit e k among ht early_not (first_true sat e.ranks) (first_is sat e.ranks) ∙ sym (degree_as e true (first_true sat e.ranks) ht.2 refl))))
      (λ (t, w, one, fact, some_not). deny (place_same k 1 one ∙ sym (no_hit e among some_not))))

  no_hits : (e : Ground) → Contains st.elements e → ((k : ℕ) → Hits e k → ⊥) → IsFalse (some (key e))
  no_hits e among none_of = is_false (side.some_is (key e)) (λ (r, h). hit_place (key e) r h (λ (f, k, other, ie, re).
      hit_from e k among (subst (λ v. IsTrue (hit (key e) v)) re h) (none_of k)))

  pub deg_to : (e : Ground) → Contains st.elements e → IsTrue (deg (key e) (integer (pos (degree sat e))))
  deg_to e among = by (condition_true sat e.given) (first_true sat e.ranks) refl refl
    where
      one : degree sat e ≡ 1 → ((k : ℕ) → Hits e k → ⊥) → IsTrue (deg (key e) (integer (pos (degree sat e))))
      one is none_of = let (r, at) = first_rank e among in
          (side.deg_is (key e) (integer (pos (degree sat e)))).0 (inr (target_term r.target, compound [] r.weights, ap (λ k. integer (pos k)) is, fact_at e 1 r among at, no_hits e among none_of))

      by : (b : Bool) (o : Option ℕ) → condition_true sat e.given ≡ b → first_true sat e.ranks ≡ o → IsTrue (deg (key e) (integer (pos (degree sat e))))
      by false o p q = one (degree_as e false o p q) (λ k (r, at, on, holds). false≢true (sym p ∙ on))
      by true None p q = one (degree_as e true None p q) (λ k (r, at, on, holds).
          let none_true : FirstIs sat e.ranks None = subst (FirstIs sat e.ranks) q (first_is sat e.ranks) in
          false≢true (sym (none_true at.0 r at.2) ∙ subst (λ (g : Ranked). IsTrue (target_true sat g.target)) (sym at.3) holds))
      by true (Some m) p q =
          let first : IsFirst sat e.ranks m = subst (FirstIs sat e.ranks) q (first_is sat e.ranks) in
          let is : degree sat e ≡ suc first.place = degree_as e true (Some m) p q ∙ first.is in
          let hits = hit_to e (suc first.place) among (hit_at e first.place among p first.low first.true_there) in
          subst (λ k. IsTrue (deg (key e) (integer (pos k)))) (sym is) ((side.deg_is (key e) (integer (pos (suc first.place)))).0 (inl (
            hits,
            is_false (side.early_is (key e) (integer (pos (suc first.place)))) (λ (t, w, s, fact, earlier, lt). hit_place (key e) s earlier (λ (f, k, other, ie, se).
                hit_from e k among (subst (λ v. IsTrue (hit (key e) v)) se earlier) (λ (r, at, on, holds).
                let below : k < suc first.place = lt_from k (suc first.place) (subst (λ v. IsTrue (compares Lt v (integer (pos (suc first.place))))) se lt) in
                let low : at.0 < first.place = omega (arith, below, at.1) in
                false≢true (sym (first.false_before at.0 r low) ∙ subst (λ (g : Ranked). IsTrue (target_true sat g.target)) (sym at.3) holds)))),
          )))
