-- The sum rule, both ways round at once: a row asks for its bound where its variable is true, and where it is false the
-- row with the opposite weights asks for one more than the opposite bound.
use Rattle.std.proofs.Common.{◌≡◌, ◌≢◌, ℕ, suc, ◌<◌, ℤ, pos, ◌-ℤ◌, neg_ℤ, ◌≤ℤ◌, ◌<ℤ◌, Bool, true, false, not, ◌&&◌, ◌||◌, ◌⊎◌, inl, inr, ⊎_elim, List, [], ◌∷◌, length, get_or, refl, sym, ap, ap₂, subst, ◌∙◌, arith}
use Rattle.std.specs.Prelude.{Option, int_lt, int_le, Contains, IsTrue, AllPairs}
use Rattle.std.proofs.lemmas.Int.{ints}
use Rattle.theory_form.specs.declared.literals.Lit.{Lit}
use Rattle.theory_form.specs.declared.literals.Var.{Var}
use Rattle.theory_form.specs.declared.rows.SumRow.{SumRow}
use Rattle.theory_form.specs.Kinds.{IsRow}
use Rattle.theory_model.specs.Truth.{sum_true}
use Rattle.agg_nogoods.specs.Sums.{IsSum, IsGreatestSum, IsLeastSum}
use Rattle.agg_nogoods.specs.Implied.{IsConsistent, IsImplied, HoldsWithRow, row_true, row_false}
use Rattle.agg_nogoods.specs.Known.{has, known_where_false}
use Rattle.agg_nogoods.specs.Ends.{least_end, greatest_end, follows_by_ends}
use Rattle.agg_nogoods.specs.Slack.{slack}
use Rattle.agg_nogoods.proofs.SumLemmas.{opposite_terms, sum_true-opposite, greatest_end-opposite}
use Rattle.agg_nogoods.proofs.ClauseLemmas.{AllKnownFalse, all_false_extends, clause_false, false_clause, clause_true_from, has_it, from_has, known_false, extends_known, consistent}
use Rattle.agg_nogoods.proofs.EndLemmas.{Fresh, Apart, sum_below, best, best-extends, best-sum}

-- what a row asks for, by the value of its variable: a sum of these terms that reaches this limit
abbrev pub asked_terms : Bool → List (ℤ × Var) → List (ℤ × Var)
asked_terms true ts = ts
asked_terms false ts = opposite_terms ts

abbrev pub limit : Bool → ℤ → ℤ
limit true bound = bound
limit false bound = pos 1 -ℤ bound

-- the literal of the row's variable that is false where it has this value
abbrev pub own_literal : SumRow → Bool → Lit
own_literal row holds = record { var = row.var; yes = not holds }

-- where the clause is false the greatest sum does not reach the limit
abbrev pub FallsShort : List (ℤ × Var) → ℤ → List Lit → Type 0
FallsShort ts bound c = (n : ℤ) × IsGreatestSum c ts n × (n <ℤ bound)

-- the row implies the clause by what it asks for where its variable has this value
abbrev pub ImpliesWhere : SumRow → Bool → List Lit → Type 0
ImpliesWhere row holds c = Contains c (own_literal row holds) × FallsShort (asked_terms holds row.terms) (limit holds row.bound) c

-- ---- the two ways round

sum_opposite : (c : List Lit) (ts : List (ℤ × Var)) (n : ℤ) → IsSum c ts n → IsSum c (opposite_terms ts) (neg_ℤ n)
sum_opposite c ts n (f, none, is) = (f, none, sum_true-opposite f ts ∙ ap neg_ℤ is)

opposite_sum : (c : List Lit) (ts : List (ℤ × Var)) (n : ℤ) → IsSum c (opposite_terms ts) n → IsSum c ts (neg_ℤ n)
opposite_sum c ts n (f, none, is) = (f, none, let e = sum_true-opposite f ts in omega (arith, ints))

reaches_falls : (c : List Lit) (ts : List (ℤ × Var)) (bound : ℤ) → ((n : ℤ) × IsLeastSum c ts n × (bound ≤ℤ n)) → FallsShort (opposite_terms ts) (pos 1 -ℤ bound) c
reaches_falls c ts bound (n, h, low) = (
  neg_ℤ n,
  record { reached = sum_opposite c ts n h.reached; greatest = λ m s. let le = h.least (neg_ℤ m) (opposite_sum c ts m s) in omega (arith, ints) },
  omega (arith, ints),
)

falls_reaches : (c : List Lit) (ts : List (ℤ × Var)) (bound : ℤ) → FallsShort (opposite_terms ts) (pos 1 -ℤ bound) c → (n : ℤ) × IsLeastSum c ts n × (bound ≤ℤ n)
falls_reaches c ts bound (n, h, low) = (
  neg_ℤ n,
  record { reached = opposite_sum c ts n h.reached; least = λ m s. let le = h.greatest (neg_ℤ m) (sum_opposite c ts m s) in omega (arith, ints) },
  omega (arith, ints),
)

pub implied_where : (row : SumRow) (c : List Lit) → IsImplied row c → (h : Bool) × ImpliesWhere row h c
implied_where row c (inl below) = (true, (below.0, below.1))
implied_where row c (inr above) = (false, (above.0, reaches_falls c row.terms row.bound above.1))

pub where_implied : (row : SumRow) (h : Bool) (c : List Lit) → ImpliesWhere row h c → IsImplied row c
where_implied row true c i = inl (i.0, i.1)
where_implied row false c i = inr (i.0, falls_reaches c row.terms row.bound i.1)

pub slack_is : (k : ℕ → Option Bool) (row : SumRow) (h : Bool) → slack k row h ≡ greatest_end k (asked_terms h row.terms) -ℤ limit h row.bound
slack_is k row true = refl
slack_is k row false = let e = greatest_end-opposite k row.terms in omega (arith, ints)

-- ---- terms over distinct variables

fresh_from : (t : ℤ × Var) (ts : List (ℤ × Var)) → ((j : ℕ) (d : ℤ × Var) → j < length ts → t.1 ≢ (get_or ts j d).1) → Fresh t.1.0 ts
fresh_from t [] h = tt
fresh_from t (s ∷ ts) h =
    (λ e. h 0 s (omega arith) (ap (λ n. record { 0 = n }) (sym e)), fresh_from t ts (λ j d low. h (suc j) d (omega arith)))

pub apart_from : (ts : List (ℤ × Var)) → AllPairs (λ (s : ℤ × Var) (t : ℤ × Var). s.1 ≢ t.1) ts → Apart ts
apart_from [] h = tt
apart_from (t ∷ ts) h =
    (fresh_from t ts (λ j d low. h 0 (suc j) d (omega arith) (omega arith)), apart_from ts (λ i j d before low. h (suc i) (suc j) d (omega arith) (omega arith)))

fresh_opposite : (v : ℕ) (ts : List (ℤ × Var)) → Fresh v ts → Fresh v (opposite_terms ts)
fresh_opposite v [] h = tt
fresh_opposite v (t ∷ ts) h = (h.0, fresh_opposite v ts h.1)

apart_opposite : (ts : List (ℤ × Var)) → Apart ts → Apart (opposite_terms ts)
apart_opposite [] h = tt
apart_opposite (t ∷ ts) h = (fresh_opposite t.1.0 ts h.0, apart_opposite ts h.1)

pub asked_apart : (h : Bool) (ts : List (ℤ × Var)) → Apart ts → Apart (asked_terms h ts)
asked_apart true ts a = a
asked_apart false ts a = apart_opposite ts a

-- ---- the greatest sum where a clause is false

pub greatest_sum : (c : List Lit) (ts : List (ℤ × Var)) → Apart ts → IsConsistent c → IsGreatestSum c ts (greatest_end (known_where_false c) ts)
greatest_sum c ts apart whole = record {
  reached = (
    best (known_where_false c) ts,
    clause_false (best (known_where_false c) ts) c (all_false_extends (best (known_where_false c) ts) (known_where_false c) c (best-extends (known_where_false c) ts) (known_false c whole)),
    best-sum (known_where_false c) ts apart,
  );
  greatest = λ m (f, none, is). subst (λ z. z ≤ℤ greatest_end (known_where_false c) ts) is (sum_below f (known_where_false c) ts (extends_known f c (false_clause f c none)));
}

-- what is known where each literal is false leaves room for no greater sum than a limit that the clause falls short of
pub falls_known : (c : List Lit) (ts : List (ℤ × Var)) (bound : ℤ) (k : ℕ → Option Bool) → Apart ts → FallsShort ts bound c → AllKnownFalse k c → greatest_end k ts <ℤ bound
falls_known c ts bound k apart (n, h, low) known =
    let none = clause_false (best k ts) c (all_false_extends (best k ts) k c (best-extends k ts) known) in
    let le = h.greatest (greatest_end k ts) (best k ts, none, best-sum k ts apart) in
    omega (arith, ints)

pub falls_consistent : (c : List Lit) (ts : List (ℤ × Var)) (bound : ℤ) → FallsShort ts bound c → IsConsistent c
falls_consistent c ts bound (n, h, low) = consistent h.reached.0 c (false_clause h.reached.0 c h.reached.1)

-- ---- the rule by the ends

pub rule_where : (row : SumRow) (c : List Lit) → IsRow row.terms row.bound → IsConsistent c → (h : Bool) → (has c (own_literal row h) ≡ true) × (greatest_end (known_where_false c) (asked_terms h row.terms) <ℤ limit h row.bound) → ImpliesWhere row h c
rule_where row c ok whole h (own, low) =
    (from_has c (own_literal row h) own, (greatest_end (known_where_false c) (asked_terms h row.terms), greatest_sum c (asked_terms h row.terms) (asked_apart h row.terms (apart_from row.terms ok.apart)) whole, low))

pub where_rule : (row : SumRow) (c : List Lit) → IsRow row.terms row.bound → (h : Bool) → ImpliesWhere row h c → (has c (own_literal row h) ≡ true) × (greatest_end (known_where_false c) (asked_terms h row.terms) <ℤ limit h row.bound)
where_rule row c ok h (own, short) =
    (has_it c (own_literal row h) own, falls_known c (asked_terms h row.terms) (limit h row.bound) (known_where_false c) (asked_apart h row.terms (apart_from row.terms ok.apart)) short (known_false c (falls_consistent c (asked_terms h row.terms) (limit h row.bound) short)))

-- ---- an implied clause is true with the row

pub implied_holds : (row : SumRow) (c : List Lit) → IsImplied row c → HoldsWithRow row c
implied_holds row c (inl (own, (n, h, low))) f r =
    clause_true_from f c (λ all.
    let is : IsTrue (f row.var.0) = all (row_false row) own in
    let reach = r.0 is in
    let le = h.greatest (sum_true f row.terms) (f, clause_false f c all, refl) in
    absurd (omega (arith, ints)))
implied_holds row c (inr (own, (n, h, low))) f r =
    clause_true_from f c (λ all.
    let is : f row.var.0 ≡ false = all (row_true row) own in
    let le = h.least (sum_true f row.terms) (f, clause_false f c all, refl) in
    let yes : IsTrue (f row.var.0) = r.1 (omega (arith, ints)) in
    absurd (cc))

-- what the code reckons is the rule
both : (p q : Bool) → (p && q) ≡ true → (p ≡ true) × (q ≡ true)
both true q h = (refl, h)
both false q h = absurd (cc)

either : (p q : Bool) → (p || q) ≡ true → (p ≡ true) ⊎ (q ≡ true)
either true q h = inl refl
either false q h = inr h

first : (p q : Bool) → p ≡ true → (p || q) ≡ true
first p q h = ap (λ b. b || q) h

second : (p q : Bool) → q ≡ true → (p || q) ≡ true
second true q h = refl
second false q h = h

lt_from : (a b : ℤ) → int_lt a b ≡ true → a <ℤ b
lt_from a b h = grind (arith, ints)

lt_so : (a b : ℤ) → a <ℤ b → int_lt a b ≡ true
lt_so a b h = grind (arith, ints)

le_from : (a b : ℤ) → int_le a b ≡ true → a ≤ℤ b
le_from a b h = grind (arith, ints)

le_so : (a b : ℤ) → a ≤ℤ b → int_le a b ≡ true
le_so a b h = grind (arith, ints)

module _ (row : SumRow) (c : List Lit) (ok : IsRow row.terms row.bound) (whole : IsConsistent c) where
  abbrev greatest : ℤ
  greatest = greatest_end (known_where_false c) row.terms

  abbrev least : ℤ
  least = least_end (known_where_false c) row.terms

  pub rule_implied : follows_by_ends row c ≡ true → IsImplied row c
  rule_implied h =
      ⊎_elim (λ e. let (own, low) = both (has c (row_false row)) (int_lt greatest row.bound) e in where_implied row true c (rule_where row c ok whole true (own, lt_from greatest row.bound low)))
      (λ e.
      let (own, low) = both (has c (row_true row)) (int_le row.bound least) e in
      let le = le_from row.bound least low in
      let is = greatest_end-opposite (known_where_false c) row.terms in
      where_implied row false c (rule_where row c ok whole false (own, omega (arith, ints))))
      (either (has c (row_false row) && int_lt greatest row.bound) (has c (row_true row) && int_le row.bound least) h)

  pub implied_rule : IsImplied row c → follows_by_ends row c ≡ true
  implied_rule i = by_case (implied_where row c i)
    where
      by_case : (h : Bool) × ImpliesWhere row h c → follows_by_ends row c ≡ true
      by_case (true, w) =
          let (own, low) = where_rule row c ok true w in
          first (has c (row_false row) && int_lt greatest row.bound) (has c (row_true row) && int_le row.bound least) (ap₂ ◌&&◌ own (lt_so greatest row.bound low))
      by_case (false, w) =
          let (own, low) = where_rule row c ok false w in
          let is = greatest_end-opposite (known_where_false c) row.terms in
          second (has c (row_false row) && int_lt greatest row.bound) (has c (row_true row) && int_le row.bound least) (ap₂ ◌&&◌ own (le_so row.bound least (omega (arith, ints))))
