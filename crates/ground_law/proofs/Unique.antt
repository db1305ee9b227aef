-- What the definitions say of literals and groups is said of one list and of one group alone.
use Rattle.std.proofs.Common.{◌≡◌, suc, List, [], ◌∷◌, Contains, AllPairs, IsTrue, refl, sym, subst, ap, ◌∙◌, ⊎_elim, arith, Option}
use Rattle.std.specs.Prelude.{◌↔◌, ℤ, pos, negsuc}
use Rattle.std.specs.List.{AllZip}
use Rattle.std.specs.Cmp.{IsTotalOrder}
use Rattle.std.specs.Cmp.Lexicographic.{lists_total}
use Rattle.std.specs.Ordering.{is_lt, ordering_reverse, nat_cmp}
use Rattle.std.specs.declared.cmp.Ordering.{Ordering}
use Rattle.std.specs.declared.cmp.Ordering.TheVariants.{Less, Equal, Greater}
use Rattle.std.proofs.lemmas.Bool.{false≢true}
use Rattle.std.proofs.lemmas.Cmp.{nat_cmp_total}
use Rattle.ap_syntax.specs.declared.rules.Function.{Function}
use Rattle.ap_term.specs.Order.{value_cmp}
use Rattle.ap_term.specs.Value.{Value, compound, Values}
use Rattle.ap_term.proofs.OrderLemmas.{value_cmp-total}
use Rattle.ground_law.specs.Groups.{IsTupleRow, IsGroundGroup}
use Rattle.ground_law.specs.Literals.{AreGroundLiterals}
use Rattle.sets.specs.Literals.{literal_place, literal_cmp, literals_cmp}
use Rattle.ground_form.specs.declared.groups.Group.{Group}
use Rattle.ground_form.specs.declared.groups.GroupGuard.{GroupGuard}
use Rattle.ground_form.specs.declared.groups.GroupRow.{GroupRow}
use Rattle.rule_form.specs.Possible.{Setting}
use Rattle.rule_form.proofs.Unfolds.{here, there, first_or_rest, nothing_in}

-- ---- lists in order are given by their members

pub less : (o : Ordering) → IsTrue (is_lt o) → o ≡ Less
less Less e = refl
less Equal e = absurd (false≢true e)
less Greater e = absurd (false≢true e)

abbrev pub turned_less : Ordering → Type 0
turned_less Less = Unit {0}
turned_less Equal = ⊥
turned_less Greater = ⊥

module _ {X : Type 0} (R : X → X → Ordering) (o : IsTotalOrder R) where
  abbrev Sorted : List X → Type 0
  Sorted [] = Unit {0}
  Sorted (x ∷ xs) = ((b : X) → Contains xs b → R x b ≡ Less) × Sorted xs

  sorted : (xs : List X) → AllPairs (λ a b. IsTrue (is_lt (R a b))) xs → Sorted xs
  sorted [] h = tt
  sorted (x ∷ xs) h = (
    λ b (k, lt, e). less (R x b) (subst (λ c. IsTrue (is_lt (R x c))) e (h 0 (suc k) b (omega arith) (omega (arith, lt)))),
    sorted xs (λ i j d lt below. h (suc i) (suc j) d (omega (arith, lt)) (omega (arith, below))),
  )

  not_both : (x y : X) → R x y ≡ Less → R y x ≡ Less → ⊥
  not_both x y e f = subst turned_less (sym e ∙ (o.antisymm x y ∙ ap ordering_reverse f)) tt

  firsts : (x y : X) (xs ys : List X) → Sorted (x ∷ xs) → Sorted (y ∷ ys) → Contains (y ∷ ys) x → Contains (x ∷ xs) y → x ≡ y
  firsts x y xs ys s t m n = ⊎_elim (λ e. sym e) (λ r. ⊎_elim (λ e. e) (λ q. absurd (not_both x y (s.0 y q) (t.0 x r))) (first_or_rest x xs y n)) (first_or_rest y ys x m)

  rest_in : (x y : X) (xs ys : List X) → Sorted (x ∷ xs) → x ≡ y → (b : X) → Contains xs b → Contains (y ∷ ys) b → Contains ys b
  rest_in x y xs ys s e b m n = ⊎_elim (λ f. absurd (not_both x x (subst (λ c. R x c ≡ Less) (sym f ∙ sym e) (s.0 b m)) (subst (λ c. R x c ≡ Less) (sym f ∙ sym e) (s.0 b m)))) (λ r. r) (first_or_rest y ys b n)

  same_sorted : (xs ys : List X) → Sorted xs → Sorted ys → ((b : X) → Contains xs b ↔ Contains ys b) → xs ≡ ys
  same_sorted [] [] s t h = refl
  same_sorted [] (y ∷ ys) s t h = absurd (nothing_in y ((h y).1 (here y ys)))
  same_sorted (x ∷ xs) [] s t h = absurd (nothing_in x ((h x).0 (here x xs)))
  same_sorted (x ∷ xs) (y ∷ ys) s t h =
      let e = firsts x y xs ys s t ((h x).0 (here x xs)) ((h y).1 (here y ys)) in
      let ih = same_sorted xs ys s.1 t.1 (λ b. (λ m. rest_in x y xs ys s e b m ((h b).0 (there x xs b m)), λ m. rest_in y x ys xs t (sym e) b m ((h b).1 (there y ys b m)))) in
      ap (λ z. z ∷ xs) e ∙ ap (λ zs. y ∷ zs) ih

  pub one_list : (xs ys : List X) → AllPairs (λ a b. IsTrue (is_lt (R a b))) xs → AllPairs (λ a b. IsTrue (is_lt (R a b))) ys → ((b : X) → Contains xs b ↔ Contains ys b) → xs ≡ ys
  one_list xs ys s t h = same_sorted xs ys (sorted xs s) (sorted ys t) h

-- ---- orders

pub through : {X Y : Type 0} (R : Y → Y → Ordering) (f : X → Y) → IsTotalOrder R → IsTotalOrder (λ a b. R (f a) (f b))
through R f o = record { antisymm = λ x y. o.antisymm (f x) (f y); trans = λ x y z. o.trans (f x) (f y) (f z); congr = λ x y z. o.congr (f x) (f y) (f z) }

pub literal_cmp_total : IsTotalOrder literal_cmp
literal_cmp_total = through nat_cmp literal_place nat_cmp_total

pub literals_cmp_total : IsTotalOrder literals_cmp
literals_cmp_total = lists_total literal_cmp_total

pub tuple_cmp_total : IsTotalOrder (λ (t u : Values). value_cmp (compound [] t) (compound [] u))
tuple_cmp_total = through value_cmp (λ t. compound [] t) value_cmp-total

pub one_atoms : (xs ys : List Value) → AllPairs (λ v w. IsTrue (is_lt (value_cmp v w))) xs → AllPairs (λ v w. IsTrue (is_lt (value_cmp v w))) ys → ((b : Value) → Contains xs b ↔ Contains ys b) → xs ≡ ys
one_atoms = one_list value_cmp value_cmp-total

-- ---- literals

module _ (atoms : List Value) (asked barred asked' barred' : Value → Type 0) (same : (b : Value) → asked b ↔ asked' b) (same' : (b : Value) → barred b ↔ barred' b) where
  moved : (cs ds : List ℤ) → AreGroundLiterals atoms asked barred cs → AreGroundLiterals atoms asked' barred' ds → (c : ℤ) → Contains cs c ↔ Contains ds c
  moved cs ds p q (pos k) = (
    λ m. let (b, a, e) = (p.positive k).0 m in (q.positive k).1 (b, (same b).0 a, e),
    λ m. let (b, a, e) = (q.positive k).0 m in (p.positive k).1 (b, (same b).1 a, e),
  )
  moved cs ds p q (negsuc k) = (
    λ m. let (b, a, e) = (p.negative k).0 m in (q.negative k).1 (b, (same' b).0 a, e),
    λ m. let (b, a, e) = (q.negative k).0 m in (p.negative k).1 (b, (same' b).1 a, e),
  )

  pub one_literals : (cs ds : List ℤ) → AreGroundLiterals atoms asked barred cs → AreGroundLiterals atoms asked' barred' ds → cs ≡ ds
  one_literals cs ds p q = one_list literal_cmp literal_cmp_total cs ds p.ordered q.ordered (moved cs ds p q)

itself : (P : Value → Type 0) (b : Value) → P b ↔ P b
itself P b = (λ h. h, λ h. h)

-- ---- groups

module _ (st : Setting) (atoms : List Value) (lower : Values → Value → Type 0) (function : Function) (comes : Values → List Value → List Value → Type 0) where
  conditions_in : (t : Values) (r s : GroupRow) → IsTupleRow st atoms lower function comes t r → IsTupleRow st atoms lower function comes t s → (cs : List ℤ) → Contains r.conditions cs → Contains s.conditions cs
  conditions_in t r s p q cs m =
      let (ps, ns, o, ex, are) = p.sound cs m in
      let (ds, n, are') = q.whole ps ns o ex in
      subst (Contains s.conditions) (one_literals atoms (Contains ps) (Contains ns) (Contains ps) (Contains ns) (itself (Contains ps)) (itself (Contains ns)) ds cs are' are) n

  one_row : (t : Values) (r s : GroupRow) → IsTupleRow st atoms lower function comes t r → IsTupleRow st atoms lower function comes t s → r ≡ s
  one_row t r s p q =
      let w : r.weight ≡ s.weight = p.weight ∙ sym q.weight in
      let c : r.conditions ≡ s.conditions = one_list literals_cmp literals_cmp_total r.conditions s.conditions p.ordered q.ordered (λ cs. (conditions_in t r s p q cs, conditions_in t s r q p cs)) in
      ap (λ v. record { weight = v; conditions = r.conditions }) w ∙ ap (λ d. record { weight = s.weight; conditions = d }) c

  one_rows : (ts : List Values) (rs ss : List GroupRow) → AllZip (IsTupleRow st atoms lower function comes) ts rs → AllZip (IsTupleRow st atoms lower function comes) ts ss → rs ≡ ss
  one_rows [] [] [] p q = refl
  one_rows [] [] (s ∷ ss) p q = absurd q
  one_rows [] (r ∷ rs) ss p q = absurd p
  one_rows (t ∷ ts) [] ss p q = absurd p
  one_rows (t ∷ ts) (r ∷ rs) [] p q = absurd q
  one_rows (t ∷ ts) (r ∷ rs) (s ∷ ss) (p, ps) (q, qs) = ap (λ z. z ∷ rs) (one_row t r s p q) ∙ ap (λ zs. s ∷ zs) (one_rows ts rs ss ps qs)

  pub one_group : (left right : Option GroupGuard) (h k : Group) → IsGroundGroup st atoms lower function comes left right h → IsGroundGroup st atoms lower function comes left right k → h ≡ k
  one_group left right h k p q =
      let ts : p.tuples ≡ q.tuples = one_list (λ t u. value_cmp (compound [] t) (compound [] u)) tuple_cmp_total p.tuples q.tuples p.ordered q.ordered (λ t. (λ m. (q.members t).1 ((p.members t).0 m), λ m. (p.members t).1 ((q.members t).0 m))) in
      let rows : h.rows ≡ k.rows = one_rows q.tuples h.rows k.rows (subst (λ us. AllZip (IsTupleRow st atoms lower function comes) us h.rows) ts p.rows) q.rows in
      let l : h.left ≡ k.left = p.left ∙ sym q.left in
      let r : h.right ≡ k.right = p.right ∙ sym q.right in
      ap (λ v. record { rows = v; left = h.left; right = h.right }) rows ∙ (ap (λ v. record { rows = k.rows; left = v; right = h.right }) l ∙ ap (λ v. record { rows = k.rows; left = k.left; right = v }) r)
