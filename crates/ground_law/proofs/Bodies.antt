-- A body is true where what its instances ask for is in one set, and what they bar is not in the other.
use Rattle.std.proofs.Common.{◌≡◌, ℕ, Bool, true, false, List, [], ◌∷◌, ◌++◌, Contains, All, IsTrue, IsFalse, refl, subst, ap, ⊎_elim, inl, inr, Option, Some, None, get_or}
use Rattle.std.specs.Prelude.{◌↔◌, ℤ, ◌&&◌, not}
use Rattle.std.specs.Bool.{beq}
use Rattle.std.specs.List.{AllByRecursion}
use Rattle.std.proofs.lemmas.List.Elements.{All-from_recursion, recursion_from_All, All-contains, Contains-get_or}
use Rattle.ap_syntax.specs.declared.terms.Rel.{Rel}
use Rattle.ap_term.specs.Value.{Value}
use Rattle.rule_form.specs.Instances.{Instance, GuardedAggregate, IsGuardValue, AreParts, left_holds, right_holds, value_list, if_any, GuardedHolds}
use Rattle.rule_form.specs.Relevant.{IsUncertain, Stands, IsAsked, IsBarred}
use Rattle.rule_form.specs.Assigned.{ItemTrueBy, BodyTrueBy}
use Rattle.rule_form.specs.Globals.{global_variables}
use Rattle.rule_form.specs.Possible.{If, Setting, IsCertain}
use Rattle.rule_form.specs.Static.{InCondition, InAggregate}
use Rattle.rule_form.specs.Trees.{Term, Literal, Pos, Not, Compare, Guard, Aggregate, Item, Plain, Each, Agg, Rule}
use Rattle.rule_form.specs.Truth.{AtomSet, In, Out, Holds, LeftHolds, RightHolds, AggregateHolds, AggregateTrue, compares}
use Rattle.rule_form.specs.Values.{Substitution, IsValue, atom_value}
use Rattle.rule_form.proofs.Bounds.{IsSettledIn}
use Rattle.rule_form.proofs.Literals.{aggregate_moves, condition_moves, counted_moves}
use Rattle.rule_form.proofs.Unfolds.{here, there, first_or_rest, nothing_in}

-- ---- guards

left_to : (s : Substitution) (n : ℤ) (o : Option Guard) (b : Bool) → LeftHolds s n o b → (v : Option Value) × IsGuardValue s o v × (b ≡ left_holds o v n)
left_to s n None b e = (None, refl, e)
left_to s n (Some guard) b (v, is, range, e) = (Some v, (v, is, range, refl), e)

right_to : (s : Substitution) (n : ℤ) (o : Option Guard) (b : Bool) → RightHolds s n o b → (v : Option Value) × IsGuardValue s o v × (b ≡ right_holds o v n)
right_to s n None b e = (None, refl, e)
right_to s n (Some guard) b (v, is, range, e) = (Some v, (v, is, range, refl), e)

left_from : (s : Substitution) (n : ℤ) (o : Option Guard) (v : Option Value) → IsGuardValue s o v → LeftHolds s n o (left_holds o v n)
left_from s n None v e = refl
left_from s n (Some guard) v (w, is, range, e) = (w, is, range, ap (λ u. left_holds (Some guard) u n) e)

right_from : (s : Substitution) (n : ℤ) (o : Option Guard) (v : Option Value) → IsGuardValue s o v → RightHolds s n o (right_holds o v n)
right_from s n None v e = refl
right_from s n (Some guard) v (w, is, range, e) = (w, is, range, ap (λ u. right_holds (Some guard) u n) e)

use_to : (globals : List (List ℕ)) (has lacks : Value → Type 0) (s : Substitution) (g : Aggregate) → AggregateHolds globals has lacks s g
    → (l r : Option Value) × IsGuardValue s g.left l × IsGuardValue s g.right r × GuardedHolds globals has lacks s (record { aggregate = g; left = l; right = r })
use_to globals has lacks s g (n, lb, rb, c, left, right, e) =
    let (l, is_l, le) = left_to s n g.left lb left in
    let (r, is_r, re) = right_to s n g.right rb right in
    (l, r, is_l, is_r, (n, c, subst (λ b. IsTrue (beq (not g.negated) (left_holds g.left l n && b))) re (subst (λ b. IsTrue (beq (not g.negated) (b && rb))) le e)))

use_from : (globals : List (List ℕ)) (has lacks : Value → Type 0) (s : Substitution) (g : Aggregate) (l r : Option Value) → IsGuardValue s g.left l → IsGuardValue s g.right r
    → GuardedHolds globals has lacks s (record { aggregate = g; left = l; right = r }) → AggregateHolds globals has lacks s g
use_from globals has lacks s g l r is_l is_r (n, c, e) = (n, left_holds g.left l n, right_holds g.right r n, c, left_from s n g.left l is_l, right_from s n g.right r is_r, e)

-- ---- aggregates whose atoms are settled read alike in x and in the certain atoms

pub use_moves : (has lacks has' lacks' : Value → Type 0) (globals : List (List ℕ)) (s : Substitution) (u : GuardedAggregate) → ((b : Value) → InAggregate u.aggregate b → (has b ↔ has' b) × (lacks b ↔ lacks' b))
    → GuardedHolds globals has lacks s u → GuardedHolds globals has' lacks' s u
use_moves has lacks has' lacks' globals s u f (n, c, e) = (
  n,
  record {
    tuples = c.tuples;
    distinct = c.distinct;
    counts = λ t. (
      λ m. counted_moves has lacks has' lacks' globals s u.aggregate.elements (λ b i. ((f b i).0.0, (f b i).1.0)) t ((c.counts t).0 m),
      λ m. (c.counts t).1 (counted_moves has' lacks' has lacks globals s u.aggregate.elements (λ b i. ((f b i).0.1, (f b i).1.1)) t m),
    );
    number = c.number;
  },
  e,
)

-- what the static conditions give of x at the atoms of conditions and of aggregates that are evaluated
pub record AreSettled (st : Setting) (x : AtomSet) (rule : Rule) : Type 0 where
  pub conditions : (l : Literal) (c : List Literal) → Contains rule.body (Each l c) → (b : Value) → InCondition c b → IsSettledIn st x b
  pub aggregates : (g : Aggregate) → Contains rule.body (Agg g) → IsTrue (st.evaluated g) → (b : Value) → InAggregate g b → IsSettledIn st x b

-- ---- parts of a body

module _ (assigned : Aggregate → Bool) (st : Setting) (judges : (g : Aggregate) → IsTrue (assigned g) → IsTrue (st.evaluated g)) (x y : AtomSet) (globals : List (List ℕ)) (s : Substitution) where
  abbrev UseIn : GuardedAggregate → Type 0
  UseIn u = GuardedHolds globals (In x) (Out x) s u

  abbrev Settles : List Item → Type 0
  Settles items = (g : Aggregate) → Contains items (Agg g) → IsTrue (st.evaluated g) → (b : Value) → InAggregate g b → IsSettledIn st x b

  in_x : (g : Aggregate) (t : Bool) → (IsTrue t → (b : Value) → InAggregate g b → IsSettledIn st x b) → If t (AggregateHolds globals (IsCertain st) (λ b. IsCertain st b → ⊥) s g) (AggregateTrue globals x s g) → AggregateHolds globals (In x) (Out x) s g
  in_x g true f h = aggregate_moves (IsCertain st) (λ b. IsCertain st b → ⊥) (In x) (Out x) globals s g (λ b i. let q = f refl b i in ((q.0.1, q.0.0), (q.1.1, q.1.0))) h
  in_x g false f h = h

  from_x : (g : Aggregate) (t : Bool) → (IsTrue t → (b : Value) → InAggregate g b → IsSettledIn st x b) → AggregateHolds globals (In x) (Out x) s g → If t (AggregateHolds globals (IsCertain st) (λ b. IsCertain st b → ⊥) s g) (AggregateTrue globals x s g)
  from_x g true f h = aggregate_moves (In x) (Out x) (IsCertain st) (λ b. IsCertain st b → ⊥) globals s g (λ b i. f refl b i) h
  from_x g false f h = h

  abbrev Parted : List Item → Type 0
  Parted items = (vs ps ns : List Value) × (us : List GuardedAggregate) × AreParts s items vs ps ns us × AllByRecursion (In y) ps × AllByRecursion (Out x) ns × AllByRecursion UseIn us

  parts_to : (items : List Item) → Settles items → AllByRecursion (ItemTrueBy assigned (IsCertain st) globals x y s) items → Parted items
  parts_to [] f h = ([], [], [], [], (refl, refl, refl, refl), tt, tt, tt)
  parts_to (Plain (Pos atom) ∷ items) f ((a, (ws, are, e), t), h) =
      let (vs, ps, ns, us, parts, p, n, u) = parts_to items (λ g m. f g (there (Plain (Pos atom)) items (Agg g) m)) h in
      (value_list ws ++ vs, atom_value atom.name ws ∷ ps, ns, us, (ws, vs, ps, are, refl, refl, parts), (subst (In y) e t, p), n, u)
  parts_to (Plain (Not atom) ∷ items) f ((a, (ws, are, e), t), h) =
      let (vs, ps, ns, us, parts, p, n, u) = parts_to items (λ g m. f g (there (Plain (Not atom)) items (Agg g) m)) h in
      (value_list ws ++ vs, ps, atom_value atom.name ws ∷ ns, us, (ws, vs, ns, are, refl, refl, parts), p, (subst (Out x) e t, n), u)
  parts_to (Plain (Compare left rel right) ∷ items) f ((v, w, is, is_w, t), h) =
      let (vs, ps, ns, us, parts, p, n, u) = parts_to items (λ g m. f g (there (Plain (Compare left rel right)) items (Agg g) m)) h in
      (v ∷ w ∷ vs, ps, ns, us, (v, w, vs, is, is_w, t, refl, parts), p, n, u)
  parts_to (Each l c ∷ items) f (t, h) = parts_to items (λ g m. f g (there (Each l c) items (Agg g) m)) h
  parts_to (Agg g ∷ items) f (t, h) =
      let (vs, ps, ns, us, parts, p, n, u) = parts_to items (λ k m. f k (there (Agg g) items (Agg k) m)) h in
      let (l, r, is_l, is_r, holds) = use_to globals (In x) (Out x) s g (in_x g (assigned g) (λ e. f g (here (Agg g) items) (judges g e)) t) in
      (if_any l ++ if_any r ++ vs, ps, ns, record { aggregate = g; left = l; right = r } ∷ us, (l, r, vs, us, is_l, is_r, refl, refl, parts), p, n, (holds, u))

  parts_from : (items : List Item) (vs ps ns : List Value) (us : List GuardedAggregate) → Settles items → ((l : Literal) (c : List Literal) → Contains items (Each l c) → ItemTrueBy assigned (IsCertain st) globals x y s (Each l c))
      → AreParts s items vs ps ns us → AllByRecursion (In y) ps → AllByRecursion (Out x) ns → AllByRecursion UseIn us → AllByRecursion (ItemTrueBy assigned (IsCertain st) globals x y s) items
  parts_from [] vs ps ns us f eachs parts p n u = tt
  parts_from (Plain (Pos atom) ∷ items) vs ps ns us f eachs (ws, rest, qs, are, ve, pe, parts) p n u =
      let q = subst (AllByRecursion (In y)) pe p in
      ((atom_value atom.name ws, (ws, are, refl), q.0), parts_from items rest qs ns us (λ g m. f g (there (Plain (Pos atom)) items (Agg g) m)) (λ l c m. eachs l c (there (Plain (Pos atom)) items (Each l c) m)) parts q.1 n u)
  parts_from (Plain (Not atom) ∷ items) vs ps ns us f eachs (ws, rest, ms, are, ve, ne, parts) p n u =
      let q = subst (AllByRecursion (Out x)) ne n in
      ((atom_value atom.name ws, (ws, are, refl), q.0), parts_from items rest ps ms us (λ g m. f g (there (Plain (Not atom)) items (Agg g) m)) (λ l c m. eachs l c (there (Plain (Not atom)) items (Each l c) m)) parts p q.1 u)
  parts_from (Plain (Compare left rel right) ∷ items) vs ps ns us f eachs (v, w, rest, is, is_w, t, ve, parts) p n u =
      ((v, w, is, is_w, t), parts_from items rest ps ns us (λ g m. f g (there (Plain (Compare left rel right)) items (Agg g) m)) (λ l c m. eachs l c (there (Plain (Compare left rel right)) items (Each l c) m)) parts p n u)
  parts_from (Each l c ∷ items) vs ps ns us f eachs parts p n u =
      (eachs l c (here (Each l c) items), parts_from items vs ps ns us (λ g m. f g (there (Each l c) items (Agg g) m)) (λ l' c' m. eachs l' c' (there (Each l c) items (Each l' c') m)) parts p n u)
  parts_from (Agg g ∷ items) vs ps ns us f eachs (l, r, rest, more, is_l, is_r, ve, ue, parts) p n u =
      let q = subst (AllByRecursion UseIn) ue u in (
        from_x g (assigned g) (λ e. f g (here (Agg g) items) (judges g e)) (use_from globals (In x) (Out x) s g l r is_l is_r q.0),
        parts_from items rest ps ns more (λ k m. f k (there (Agg g) items (Agg k) m)) (λ l' c' m. eachs l' c' (there (Agg g) items (Each l' c') m)) parts p n q.1,
      )

-- the aggregates of the aggregates are those of the body
pub among_items : (s : Substitution) (items : List Item) (vs ps ns : List Value) (us : List GuardedAggregate) → AreParts s items vs ps ns us → (u : GuardedAggregate) → Contains us u → Contains items (Agg u.aggregate)
among_items s [] vs ps ns us (ve, pe, ne, ue) u m = absurd (nothing_in u (subst (λ ws. Contains ws u) ue m))
among_items s (Plain (Pos atom) ∷ items) vs ps ns us (ws, rest, qs, are, ve, pe, parts) u m = there (Plain (Pos atom)) items (Agg u.aggregate) (among_items s items rest qs ns us parts u m)
among_items s (Plain (Not atom) ∷ items) vs ps ns us (ws, rest, ms, are, ve, ne, parts) u m = there (Plain (Not atom)) items (Agg u.aggregate) (among_items s items rest ps ms us parts u m)
among_items s (Plain (Compare left rel right) ∷ items) vs ps ns us (v, w, rest, is, is_w, t, ve, parts) u m = there (Plain (Compare left rel right)) items (Agg u.aggregate) (among_items s items rest ps ns us parts u m)
among_items s (Each l c ∷ items) vs ps ns us parts u m = there (Each l c) items (Agg u.aggregate) (among_items s items vs ps ns us parts u m)
among_items s (Agg g ∷ items) vs ps ns us (l, r, rest, more, is_l, is_r, ve, ue, parts) u m = ⊎_elim
    (λ e. subst (λ (w : GuardedAggregate). Contains (Agg g ∷ items) (Agg w.aggregate)) e (here (Agg g) items))
    (λ q. there (Agg g) items (Agg u.aggregate) (among_items s items rest ps ns more parts u q))
    (first_or_rest (record { aggregate = g; left = l; right = r }) more u (subst (λ ws. Contains ws u) ue m))

-- ---- an instance holds

pub record HoldsIn (st : Setting) (x y : AtomSet) (i : Instance) : Type 0 where
  pub asked : (b : Value) → IsAsked st i b → IsTrue (y b)
  pub barred : (b : Value) → IsBarred st i b → IsFalse (x b)
  pub compared : (u : Substitution) (l : Term) (rel : Rel) (r : Term) (v w : Value) → Stands st i u (Compare l rel r) → IsValue u l v → IsValue u r w → IsTrue (compares rel v w)
  pub aggregates : (u : GuardedAggregate) → Contains i.aggregates u → GuardedHolds (global_variables i.rule) (In x) (Out x) i.values u

module _ (assigned : Aggregate → Bool) (st : Setting) (judges : (g : Aggregate) → IsTrue (assigned g) → IsTrue (st.evaluated g)) (x y : AtomSet) where
  sure_condition : (rule : Rule) → AreSettled st x rule → (l : Literal) (c : List Literal) → Contains rule.body (Each l c) → (u : Substitution) → All (Holds (IsCertain st) (IsUncertain st) u) c → All (Holds (In x) (Out x) u) c
  sure_condition rule are l c m u h = condition_moves (IsCertain st) (IsUncertain st) (In x) (Out x) c (λ b i. (are.conditions l c m b i).0.1) (λ b i. (are.conditions l c m b i).1.1) u h

  true_condition : (rule : Rule) → AreSettled st x rule → (l : Literal) (c : List Literal) → Contains rule.body (Each l c) → (u : Substitution) → All (Holds (In x) (Out x) u) c → All (Holds (IsCertain st) (IsUncertain st) u) c
  true_condition rule are l c m u h = condition_moves (In x) (Out x) (IsCertain st) (IsUncertain st) c (λ b i. (are.conditions l c m b i).0.0) (λ b i. (are.conditions l c m b i).1.0) u h

  -- a body that is true has an instance that holds
  pub holds_of : (i : Instance) → AreSettled st x i.rule → BodyTrueBy assigned (IsCertain st) x y i.values i.rule
      → AllByRecursion (In y) i.positive → AllByRecursion (Out x) i.negative → AllByRecursion (λ u. GuardedHolds (global_variables i.rule) (In x) (Out x) i.values u) i.aggregates → HoldsIn st x y i
  holds_of i are body p n us = let g = global_variables i.rule in
      let item : (j : Item) → Contains i.rule.body j → ItemTrueBy assigned (IsCertain st) g x y i.values j = λ j m. All-contains (ItemTrueBy assigned (IsCertain st) g x y i.values) i.rule.body j body m in record {
        asked = λ b. ⊎_elim (λ m. All-contains (In y) i.positive b (All-from_recursion (In y) i.positive p) m)
            (λ (atom, u, (c, m, agrees, sure), is). item (Each (Pos atom) c) m u agrees (sure_condition i.rule are (Pos atom) c m u sure) b is);
        barred = λ b. ⊎_elim (λ m. All-contains (Out x) i.negative b (All-from_recursion (Out x) i.negative n) m)
            (λ (atom, u, (c, m, agrees, sure), is). item (Each (Not atom) c) m u agrees (sure_condition i.rule are (Not atom) c m u sure) b is);
        compared = λ u l rel r v w (c, m, agrees, sure) is is_w. item (Each (Compare l rel r) c) m u agrees (sure_condition i.rule are (Compare l rel r) c m u sure) v w is is_w;
        aggregates = λ u m. All-contains (λ u. GuardedHolds g (In x) (Out x) i.values u) i.aggregates u (All-from_recursion (λ u. GuardedHolds g (In x) (Out x) i.values u) i.aggregates us) m;
      }

  pub body_parts : (rule : Rule) (s : Substitution) → AreSettled st x rule → BodyTrueBy assigned (IsCertain st) x y s rule → Parted assigned st judges x y (global_variables rule) s rule.body
  body_parts rule s are body = parts_to assigned st judges x y (global_variables rule) s rule.body are.aggregates (recursion_from_All (ItemTrueBy assigned (IsCertain st) (global_variables rule) x y s) rule.body body)

  each_holds : (i : Instance) → AreSettled st x i.rule → HoldsIn st x y i → (l : Literal) (c : List Literal) → Contains i.rule.body (Each l c) → ItemTrueBy assigned (IsCertain st) (global_variables i.rule) x y i.values (Each l c)
  each_holds i are h (Pos atom) c m = λ u agrees t b is. h.asked b (inr (atom, u, (c, m, agrees, true_condition i.rule are (Pos atom) c m u t), is))
  each_holds i are h (Not atom) c m = λ u agrees t b is. h.barred b (inr (atom, u, (c, m, agrees, true_condition i.rule are (Not atom) c m u t), is))
  each_holds i are h (Compare l rel r) c m = λ u agrees t v w is is_w. h.compared u l rel r v w (c, m, agrees, true_condition i.rule are (Compare l rel r) c m u t) is is_w

  -- the body of an instance that holds is true
  pub body_of_holds : (i : Instance) (vs : List Value) → AreParts i.values i.rule.body vs i.positive i.negative i.aggregates → AreSettled st x i.rule → HoldsIn st x y i → BodyTrueBy assigned (IsCertain st) x y i.values i.rule
  body_of_holds i vs parts are h = let g = global_variables i.rule in
      All-from_recursion (ItemTrueBy assigned (IsCertain st) g x y i.values) i.rule.body (parts_from assigned st judges x y g i.values i.rule.body vs i.positive i.negative i.aggregates are.aggregates (each_holds i are h) parts
      (recursion_from_All (In y) i.positive (λ k d lt. h.asked (get_or i.positive k d) (inl (Contains-get_or i.positive k d lt))))
      (recursion_from_All (Out x) i.negative (λ k d lt. h.barred (get_or i.negative k d) (inl (Contains-get_or i.negative k d lt))))
      (recursion_from_All (λ u. GuardedHolds g (In x) (Out x) i.values u) i.aggregates (λ k d lt. h.aggregates (get_or i.aggregates k d) (Contains-get_or i.aggregates k d lt))))
