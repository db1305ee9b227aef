-- The rows of a group sum up what the tuples do whose conditions are true.
use Rattle.std.proofs.Common.{◌≡◌, ◌≢◌, ℕ, Bool, true, false, cond, List, [], ◌∷◌, Contains, All, AllPairs, IsTrue, refl, sym, subst, ap, ◌∙◌, ⊎_elim, arith, get_or, Option}
use Rattle.std.specs.Prelude.{◌↔◌, ℤ, pos, ◌+ℤ◌, fold, if◌then◌else◌}
use Rattle.std.specs.List.{AllZip}
use Rattle.std.specs.Ordering.{is_lt}
use Rattle.std.proofs.lemmas.Bool.{false≢true}
use Rattle.std.proofs.lemmas.Int.{ints}
use Rattle.std.proofs.lemmas.List.Elements.{All-contains, Contains-get_or}
use Rattle.ap_syntax.specs.declared.rules.Function.{Function}
use Rattle.ap_syntax.specs.declared.rules.Function.TheVariants.{Count, Sum}
use Rattle.ap_term.specs.Order.{value_cmp}
use Rattle.ap_term.specs.Value.{Value, integer, constant, string, compound, Values, none, also}
use Rattle.ap_term.proofs.OrderLemmas.{value_itself}
use Rattle.ground_law.specs.Groups.{weight_of, IsTupleRow, IsGroundGroup}
use Rattle.ground_law.specs.Literals.{IsAtomNumber, Exists}
use Rattle.ground_law.specs.Numbers.{numbers}
use Rattle.ground_law.proofs.Literals.{any_true, some_true, literal_same, asked_true, barred_false, literals_hold}
use Rattle.ground_form.specs.declared.groups.Group.{Group}
use Rattle.ground_form.specs.declared.groups.GroupGuard.{GroupGuard}
use Rattle.ground_form.specs.declared.groups.GroupRow.{GroupRow}
use Rattle.ground_form.specs.Truth.{literals_true, row_counts, row_value, rows_sum, weight_value}
use Rattle.rule_form.specs.Possible.{Setting, IsPossible, IsCertain}
use Rattle.rule_form.specs.Truth.{AtomSet, In, Out, weight, total, computed}
use Rattle.rule_form.proofs.Lists.{apart_back}
use Rattle.rule_form.proofs.Totals.{Apart, apart, same_total}
use Rattle.rule_form.proofs.Unfolds.{here, there, first_or_rest, nothing_in}

-- ---- weights

abbrev pub tuple_value : Function → Values → ℤ
tuple_value Count t = pos 1
tuple_value Sum t = weight t

pub computed_is : (f : Function) (ts : List Values) → computed f ts ≡ total (tuple_value f) ts
computed_is Count ts = refl
computed_is Sum ts = refl

weight_is : (f : Function) (t : Values) → weight_value (weight_of f t) ≡ tuple_value f t
weight_is Count t = refl
weight_is Sum none = refl
weight_is Sum (also (integer n) vs) = refl
weight_is Sum (also (constant name) vs) = refl
weight_is Sum (also (string bytes) vs) = refl
weight_is Sum (also (compound name ws) vs) = refl

-- ---- the tuples whose rows count

abbrev pub kept : (ℕ → Bool) → List Values → List GroupRow → List Values
kept x [] rows = []
kept x (t ∷ ts) [] = []
kept x (t ∷ ts) (row ∷ rows) = cond (row_counts x row) (t ∷ kept x ts rows) (kept x ts rows)

module _ (st : Setting) (atoms : List Value) (lower : Values → Value → Type 0) (function : Function) (comes : Values → List Value → List Value → Type 0) (nx : ℕ → Bool) where
  sums : (acc : ℤ) (ts : List Values) (rows : List GroupRow) → AllZip (IsTupleRow st atoms lower function comes) ts rows
      → fold (λ (sum : ℤ) (row : GroupRow). sum +ℤ row_value nx row) acc rows ≡ acc +ℤ total (tuple_value function) (kept nx ts rows)
  sums acc [] [] z = omega (arith, ints)
  sums acc [] (row ∷ rows) z = absurd z
  sums acc (t ∷ ts) [] z = absurd z
  sums acc (t ∷ ts) (row ∷ rows) (is, z) = by (row_counts nx row) refl (λ a. sums a ts rows z)
    where
      by : (b : Bool) → row_counts nx row ≡ b → ((a : ℤ) → fold (λ (sum : ℤ) (row : GroupRow). sum +ℤ row_value nx row) a rows ≡ a +ℤ total (tuple_value function) (kept nx ts rows)) → fold (λ (sum : ℤ) (row : GroupRow). sum +ℤ row_value nx row) (acc +ℤ (if row_counts nx row then weight_value row.weight else pos 0)) rows ≡ acc +ℤ total (tuple_value function) (cond (row_counts nx row) (t ∷ kept nx ts rows) (kept nx ts rows))
      by true e rest = let w : weight_value row.weight ≡ tuple_value function t = ap weight_value is.weight ∙ weight_is function t in
          let ih = rest (acc +ℤ tuple_value function t) in
          let same : (acc +ℤ tuple_value function t) +ℤ total (tuple_value function) (kept nx ts rows) ≡ acc +ℤ (tuple_value function t +ℤ total (tuple_value function) (kept nx ts rows)) = omega (arith, ints) in
          rw (e, w) (ih ∙ same)
      by false e rest = let ih = rest (acc +ℤ pos 0) in
          let same : (acc +ℤ pos 0) +ℤ total (tuple_value function) (kept nx ts rows) ≡ acc +ℤ total (tuple_value function) (kept nx ts rows) = omega (arith, ints) in
          rw e (ih ∙ same)

  pub rows_total : (ts : List Values) (rows : List GroupRow) → AllZip (IsTupleRow st atoms lower function comes) ts rows → rows_sum nx rows ≡ total (tuple_value function) (kept nx ts rows)
  rows_total ts rows z = let zero_first : pos 0 +ℤ total (tuple_value function) (kept nx ts rows) ≡ total (tuple_value function) (kept nx ts rows) = omega (arith, ints) in sums (pos 0) ts rows z ∙ zero_first

  in_kept : (ts : List Values) (rows : List GroupRow) → AllZip (IsTupleRow st atoms lower function comes) ts rows → (t : Values) → Contains (kept nx ts rows) t → Contains ts t × ((row : GroupRow) × IsTupleRow st atoms lower function comes t row × IsTrue (row_counts nx row))
  in_kept [] rows z t m = absurd (nothing_in t m)
  in_kept (s ∷ ts) [] z t m = absurd z
  in_kept (s ∷ ts) (row ∷ rows) (is, z) t m = by (row_counts nx row) refl (in_kept ts rows z t) m
    where
      by : (b : Bool) → row_counts nx row ≡ b → (Contains (kept nx ts rows) t → Contains ts t × ((row : GroupRow) × IsTupleRow st atoms lower function comes t row × IsTrue (row_counts nx row))) → Contains (cond b (s ∷ kept nx ts rows) (kept nx ts rows)) t → Contains (s ∷ ts) t × ((row : GroupRow) × IsTupleRow st atoms lower function comes t row × IsTrue (row_counts nx row))
      by true e ih c = ⊎_elim (λ q. subst (λ u. Contains (s ∷ ts) u × ((row : GroupRow) × IsTupleRow st atoms lower function comes u row × IsTrue (row_counts nx row))) q (here s ts, (row, is, e)))
          (λ r. let h = ih r in (there s ts t h.0, h.1)) (first_or_rest s (kept nx ts rows) t c)
      by false e ih c = let h = ih c in (there s ts t h.0, h.1)

  to_kept : (ts : List Values) (rows : List GroupRow) → AllZip (IsTupleRow st atoms lower function comes) ts rows → (t : Values) → Contains ts t → ((row : GroupRow) → IsTupleRow st atoms lower function comes t row → IsTrue (row_counts nx row)) → Contains (kept nx ts rows) t
  to_kept [] rows z t m f = absurd (nothing_in t m)
  to_kept (s ∷ ts) [] z t m f = absurd z
  to_kept (s ∷ ts) (row ∷ rows) (is, z) t m f = by (row_counts nx row) refl (λ r. to_kept ts rows z t r f)
    where
      by : (b : Bool) → row_counts nx row ≡ b → (Contains ts t → Contains (kept nx ts rows) t) → Contains (cond b (s ∷ kept nx ts rows) (kept nx ts rows)) t
      by true e ih = ⊎_elim (λ q. subst (Contains (s ∷ kept nx ts rows)) q (here s (kept nx ts rows))) (λ r. there s (kept nx ts rows) t (ih r)) (first_or_rest s ts t m)
      by false e ih = ⊎_elim (λ q. absurd (false≢true (sym e ∙ f row (subst (λ u. IsTupleRow st atoms lower function comes u row) q is)))) ih (first_or_rest s ts t m)

  kept_apart : (ts : List Values) (rows : List GroupRow) → AllZip (IsTupleRow st atoms lower function comes) ts rows → Apart ts → Apart (kept nx ts rows)
  kept_apart [] rows z h = tt
  kept_apart (s ∷ ts) [] z h = absurd z
  kept_apart (s ∷ ts) (row ∷ rows) (is, z) h = by (row_counts nx row) (kept_apart ts rows z h.1)
    where
      by : (b : Bool) → Apart (kept nx ts rows) → Apart (cond b (s ∷ kept nx ts rows) (kept nx ts rows))
      by true ih = (λ c. h.0 (in_kept ts rows z s c).0, ih)
      by false ih = ih

-- ---- a group

-- the tuple has a condition that is true in x
abbrev pub IsTuple : (Values → List Value → List Value → Type 0) → AtomSet → Values → Type 0
IsTuple comes x t = (ps ns : List Value) × comes t ps ns × All (In x) ps × All (Out x) ns

-- the tuples that have one, and what is computed of them
pub record IsTally (comes : Values → List Value → List Value → Type 0) (x : AtomSet) (function : Function) (n : ℤ) : Type 0 where
  pub tuples : List Values
  pub distinct : AllPairs (λ t u. t ≢ u) tuples
  pub counts : (t : Values) → Contains tuples t ↔ IsTuple comes x t
  pub number : n ≡ computed function tuples

pub one_tally : (comes : Values → List Value → List Value → Type 0) (x : AtomSet) (function : Function) (m n : ℤ) → IsTally comes x function m → IsTally comes x function n → m ≡ n
one_tally comes x function m n c d = c.number ∙ (computed_is function c.tuples ∙ (same_total (tuple_value function) c.tuples d.tuples c.distinct d.distinct (λ t. (λ h. (d.counts t).1 ((c.counts t).0 h), λ h. (c.counts t).1 ((d.counts t).0 h))) ∙ (sym (computed_is function d.tuples) ∙ sym d.number)))

not_before : (v : Value) → IsTrue (is_lt (value_cmp v v)) → ⊥
not_before v h = false≢true (subst (λ o. IsTrue (is_lt o)) (value_itself v) h)

module _ (st : Setting) (atoms : List Value) (places : (b : Value) → IsPossible st b → (k : ℕ) × IsAtomNumber atoms k b) (x : AtomSet) (within : (b : Value) → IsTrue (x b) → IsPossible st b)
    (lower : Values → Value → Type 0) (sure : (t : Values) (b : Value) → lower t b → IsCertain st b → IsTrue (x b)) (function : Function) (comes : Values → List Value → List Value → Type 0) where
  exists : (t : Values) (ps ns : List Value) → All (In x) ps → All (Out x) ns → Exists st (lower t) ps ns
  exists t ps ns all lacks = record {
    positive = λ k d lt. within (get_or ps k d) (all k d lt);
    negative = λ k d lt low c. false≢true (sym (lacks k d lt) ∙ sure t (get_or ns k d) low c);
  }

  row_true : (t : Values) (row : GroupRow) → IsTupleRow st atoms lower function comes t row → IsTuple comes x t → IsTrue (row_counts (numbers atoms x) row)
  row_true t row is (ps, ns, o, all, lacks) =
      let (cs, among, are) = is.whole ps ns o (exists t ps ns all lacks) in
      any_true (literals_true (numbers atoms x)) row.conditions cs among (literal_same (numbers atoms x) cs ∙
      literals_hold atoms (Contains ps) (Contains ns) cs are x x (λ b c. All-contains (In x) ps b all c) (λ b c. All-contains (Out x) ns b lacks c))

  row_back : (t : Values) (row : GroupRow) → IsTupleRow st atoms lower function comes t row → IsTrue (row_counts (numbers atoms x) row) → IsTuple comes x t
  row_back t row is h =
      let (cs, among, true_) = some_true (literals_true (numbers atoms x)) row.conditions h in
      let (ps, ns, o, ex, are) = is.sound cs among in
      let lits = sym (literal_same (numbers atoms x) cs) ∙ true_ in (
        ps,
        ns,
        o,
        λ k d lt. asked_true atoms (Contains ps) (Contains ns) cs are x x lits (get_or ps k d) (Contains-get_or ps k d lt) (places (get_or ps k d) (ex.positive k d lt)),
        λ k d lt. barred_false atoms (Contains ps) (Contains ns) cs are x x lits (get_or ns k d) (Contains-get_or ns k d lt) (λ t. places (get_or ns k d) (within (get_or ns k d) t)),
      )

  module _ (left right : Option GroupGuard) (h : Group) (is : IsGroundGroup st atoms lower function comes left right h) where
    -- what the group comes to, in the set of numbers, is what is computed of the tuples
    pub group_tally : IsTally comes x function (rows_sum (numbers atoms x) h.rows)
    group_tally = record {
      tuples = kept (numbers atoms x) is.tuples h.rows;
      distinct = apart_back (kept (numbers atoms x) is.tuples h.rows) (kept_apart st atoms lower function comes (numbers atoms x) is.tuples h.rows is.rows
          (apart is.tuples (λ i j d lt below e. not_before (compound [] (get_or is.tuples i d)) (subst (λ u. IsTrue (is_lt (value_cmp (compound [] (get_or is.tuples i d)) (compound [] u)))) (sym e) (is.ordered i j d lt below)))));
      counts = λ t. (
        λ m. let (inside, (row, is_row, c)) = in_kept st atoms lower function comes (numbers atoms x) is.tuples h.rows is.rows t m in row_back t row is_row c,
        λ (ps, ns, o, all, lacks). to_kept st atoms lower function comes (numbers atoms x) is.tuples h.rows is.rows t ((is.members t).1 (ps, ns, o, exists t ps ns all lacks)) (λ row is_row. row_true t row is_row (ps, ns, o, all, lacks)),
      );
      number = rows_total st atoms lower function comes (numbers atoms x) is.tuples h.rows is.rows ∙ sym (computed_is function (kept (numbers atoms x) is.tuples h.rows));
    }
