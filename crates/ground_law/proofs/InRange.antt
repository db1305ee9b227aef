-- The numbers of a ground program are in range.
use Rattle.std.proofs.Common.{◌≡◌, ◌+◌, ◌<◌, ◌≤◌, ℕ, zero, suc, Bool, true, false, ◌&&◌, List, [], ◌∷◌, ◌++◌, map, length, Contains, All, AllPairs, IsTrue, refl, sym, subst, ap, ◌∙◌, ⊎_elim, inl, inr, arith, get_or, Option, Some, None}
use Rattle.std.specs.Prelude.{nat_lt, ℤ, pos, negsuc, neg_ℤ, ◌≤ℤ◌, is_some, IfSome, IsSomeAnd, sum_by}
use Rattle.std.specs.List.{AllZip, AllByRecursion}
use Rattle.std.specs.Ordering.{is_lt}
use Rattle.std.proofs.lemmas.Bool.{false≢true}
use Rattle.std.proofs.lemmas.Bool.Decides.{nat_tests}
use Rattle.std.proofs.lemmas.Int.{ints}
use Rattle.std.proofs.lemmas.List.Elements.{Contains-get_or, All-from_recursion}
use Rattle.std.proofs.lemmas.List.Sums.{sum_by-le}
use Rattle.ap_syntax.specs.declared.rules.Function.{Function}
use Rattle.ap_syntax.specs.declared.rules.Function.TheVariants.{Count}
use Rattle.ap_term.specs.declared.shape.TermId.{TermId}
use Rattle.ap_term.specs.Arithmetic.{is_integer}
use Rattle.ap_term.specs.Order.{value_cmp}
use Rattle.ap_term.specs.Table.{value_at}
use Rattle.ap_term.specs.Value.{Value, integer, constant, string, compound, Values}
use Rattle.ap_term.proofs.OrderLemmas.{value_itself}
use Rattle.ground_form.specs.declared.atoms.AtomId.{AtomId}
use Rattle.ground_form.specs.declared.bodies.Body.{Body}
use Rattle.ground_form.specs.declared.groups.Group.{Group}
use Rattle.ground_form.specs.declared.groups.GroupGuard.{GroupGuard}
use Rattle.ground_form.specs.declared.groups.GroupGuard.TheVariants.{Compare, Fixed}
use Rattle.ground_form.specs.declared.groups.GroupRow.{GroupRow}
use Rattle.ground_form.specs.declared.rules.GroundRule.{GroundRule}
use Rattle.ground_form.specs.declared.rules.Head.TheVariants as heads
use Rattle.ground_form.specs.Programs.{Parts}
use Rattle.ground_form.specs.Ranges.{IsLiteralOf, IsHeadOf, IsRuleOf, has_guard, IsGuardUseOf, IsBodyOf, IsRowOf, IsGuardNumber, weight_size, IsGroupOf, IsInRange}
use Rattle.ground_law.specs.Ground.{IsLowest, IsBelowAtom, IsAggregateGroup, AreChoiceGroups, StandFrom, IsGroundBody, IsGuardRule, IsHeadRule, HasGroups, extras_of, IsGrounding}
use Rattle.ground_law.specs.Groups.{same_rel, turned_rel, guard_of, left_guard, right_guard, OfAggregate, OfChoice, IsTupleRow, IsGroundGroup}
use Rattle.ground_law.specs.Guards.{Extras, no_extras, joined, guard_extra, negated_extras, group_extras, extras_from, body_of}
use Rattle.ground_law.specs.Literals.{AreGroundLiterals, Exists}
use Rattle.ground_law.specs.Program.{choice_groups, groups_count, placed_from, groups_of, IsGroundProgram}
use Rattle.ground_law.specs.Quantities.{Pair, IsTried, IsGuarded, IsChoicePair, IsPair, HasSmallWeights}
use Rattle.ground_law.proofs.Lookup.{place_of, stand_left, stand_right, number_of}
use Rattle.ground_law.proofs.Pairs.{placed_has}
use Rattle.ground_law.proofs.One.{append_length, zip_length, choice_length, stand_append, groups_are}
use Rattle.rule_form.specs.Counts.{MoreThan, InstanceKey}
use Rattle.rule_form.specs.Globals.{global_variables}
use Rattle.rule_form.specs.Instances.{Instance, GuardedAggregate, IsGuardValue, AreParts, IsHeadPart, IsInstance}
use Rattle.rule_form.specs.Possible.{Setting}
use Rattle.rule_form.specs.Relevant.{IsRelevant}
use Rattle.rule_form.specs.Trees.{Aggregate, Guard, Choosable, Head, One, Choice, Nothing, Item, Plain, Each, Agg, Pos, Not}
use Rattle.rule_form.specs.Trees as trees
use Rattle.rule_form.specs.Truth.{IsOfRange, compares}
use Rattle.rule_form.specs.Values.{Substitution}
use Rattle.rule_form.proofs.Lists.{apart_back, in_append}
use Rattle.rule_form.proofs.Plain.{some_same}
use Rattle.rule_form.proofs.Totals.{Apart, apart}
use Rattle.rule_form.proofs.Unfolds.{here, there, first_or_rest, nothing_in}
use Rattle.sets.specs.Lists.{numbered, IsNumberOf}
use Rattle.sets.proofs.ListLemmas.{numbered_within}

-- ---- numbers of lists

all_of : {X : Type 0} (P : X → Type 0) (xs : List X) → ((b : X) → Contains xs b → P b) → All P xs
all_of P xs f = λ k d lt. f (get_or xs k d) (Contains-get_or xs k d lt)

map_length : {X Y : Type 0} (f : X → Y) (xs : List X) → length (map f xs) ≡ length xs
map_length f [] = refl
map_length f (x ∷ xs) = ap suc (map_length f xs)

literals_of : (atoms : List Value) (asked barred : Value → Type 0) (cs : List ℤ) → AreGroundLiterals atoms asked barred cs → All (IsLiteralOf (length atoms)) cs
literals_of atoms asked barred cs are = all_of (IsLiteralOf (length atoms)) cs by
  where
    by : (c : ℤ) → Contains cs c → IsLiteralOf (length atoms) c
    by (pos k) m = let (b, is, n) = (are.positive k).0 m in numbered_within atoms k b n
    by (negsuc k) m = let (b, is, n) = (are.negative k).0 m in numbered_within atoms (suc k) b n

-- ---- the literals over guards of a body

module _ (groups : List Group) where
  abbrev AreUses : Extras → Type 0
  AreUses e = AllByRecursion (IsGuardUseOf groups) e.guards

  joined_uses : (e f : Extras) → AreUses e → AreUses f → AreUses (joined e f)
  joined_uses e f h k = over e.guards h
    where
      over : (us : List _) → AllByRecursion (IsGuardUseOf groups) us → AllByRecursion (IsGuardUseOf groups) (us ++ f.guards)
      over [] t = k
      over (u ∷ us) t = (t.0, over us t.1)

  guard_uses : (sign : Bool) (k j : ℕ) (h : Group) → numbered groups k ≡ Some h → (o : Option GroupGuard) → (IsTrue (is_some o) → IsTrue (has_guard j h)) → AreUses (guard_extra sign k j o)
  guard_uses sign k j h e None f = tt
  guard_uses sign k j h e (Some (Compare rel n)) f = (subst (λ o. IsSomeAnd o (λ group. IsTrue (has_guard j group))) (sym e) (f refl), tt)
  guard_uses sign k j h e (Some (Fixed b)) f = tt

  both : (b c : Bool) → IsTrue b → IsTrue c → IsTrue (b && c)
  both true c e f = f
  both false c e f = absurd (false≢true e)

  negated_uses : (k : ℕ) (h : Group) → numbered groups k ≡ Some h → (l r : Option GroupGuard) → h.left ≡ l → h.right ≡ r → AreUses (negated_extras k l r)
  negated_uses k h e None None le re = tt
  negated_uses k h e (Some g) None le re = guard_uses false k 0 h e (Some g) (λ t. ap is_some le)
  negated_uses k h e None (Some g) le re = guard_uses false k 1 h e (Some g) (λ t. ap is_some re)
  negated_uses k h e (Some g) (Some g') le re = (subst (λ o. IsSomeAnd o (λ group. IsTrue (has_guard 2 group))) (sym e) (both (is_some h.left) (is_some h.right) (ap is_some le) (ap is_some re)), tt)

  group_uses : (sign : Bool) (k : ℕ) (h : Group) → numbered groups k ≡ Some h → AreUses (group_extras sign k h)
  group_uses true k h e = negated_uses k h e h.left h.right refl refl
  group_uses false k h e = joined_uses (guard_extra true k 0 h.left) (guard_extra true k 1 h.right) (guard_uses true k 0 h e h.left (λ t. t)) (guard_uses true k 1 h e h.right (λ t. t))

  uses_from : (k : ℕ) (us : List GuardedAggregate) (hs : List Group) → StandFrom groups k hs → AreUses (extras_from k us hs)
  uses_from k [] hs s = tt
  uses_from k (u ∷ us) [] s = tt
  uses_from k (u ∷ us) (h ∷ hs) s = joined_uses (group_extras u.aggregate.negated k h) (extras_from (suc k) us hs) (group_uses u.aggregate.negated k h s.0) (uses_from (suc k) us hs s.1)

-- ---- rules and bodies

module _ (st : Setting) (g : Parts) (atoms : List Value) (found : List Instance) (p : IsGrounding st g atoms (placed_from 1 found)) where
  -- its head is in range, and its body is a body in range
  abbrev IsFine : GroundRule → Type 0
  IsFine r = IsHeadOf (length atoms) r.head × ((b : Body) × (numbered g.bodies r.body.0 ≡ Some b) × IsBodyOf (length atoms) g.groups b)

  body_fine : (asked barred : Value → Type 0) (e : Extras) → AreUses g.groups e → (r : GroundRule) → IsGroundBody g atoms asked barred e r → (b : Body) × (numbered g.bodies r.body.0 ≡ Some b) × IsBodyOf (length atoms) g.groups b
  body_fine asked barred e uses r (cs, are, at) = (body_of cs e, at, record { lits = literals_of atoms asked barred cs are; guards = All-from_recursion (IsGuardUseOf g.groups) e.guards uses })

  module _ (f : Instance × ℕ) (c : Contains (placed_from 1 found) f) where
    abbrev q : HasGroups st g atoms f.0 f.1
    q = p.placed f c

    own_uses : AreUses g.groups (extras_of st g atoms f.0 f.1 q)
    own_uses = uses_from g.groups (f.1 + length q.choice) f.0.aggregates q.own (stand_right g.groups f.1 q.choice q.own q.stand)

    constraint : (e : Extras) → AreUses g.groups e → (r : GroundRule) → r.head ≡ heads.Nothing → (asked barred : Value → Type 0) → IsGroundBody g atoms asked barred (joined e (extras_of st g atoms f.0 f.1 q)) r → IsFine r
    constraint e uses r h asked barred b = (subst (IsHeadOf (length atoms)) (sym h) tt, body_fine asked barred (joined e (extras_of st g atoms f.0 f.1 q)) (joined_uses g.groups e (extras_of st g atoms f.0 f.1 q) uses own_uses) r b)

    guard_fine : (hs : List Group) → StandFrom g.groups f.1 hs → (r : GroundRule) → IsGuardRule st g atoms f.0 (extras_of st g atoms f.0 f.1 q) f.1 hs r → IsFine r
    guard_fine [] s r h = absurd h
    guard_fine (h ∷ hs) s r (inl (t, (e, b))) = constraint (guard_extra false f.1 0 h.left) (guard_uses g.groups false f.1 0 h s.0 h.left (λ u. u)) r e _ _ b
    guard_fine (h ∷ hs) s r (inr (t, (e, b))) = constraint (guard_extra false f.1 1 h.right) (guard_uses g.groups false f.1 1 h s.0 h.right (λ u. u)) r e _ _ b

    head_fine : (hd : Head) (r : GroundRule) → IsHeadRule st g atoms f.0 (extras_of st g atoms f.0 f.1 q) f.1 q.choice hd r → IsFine r
    head_fine (One atom) r (a, e, (n, num, h, b)) = (subst (IsHeadOf (length atoms)) (sym h) (numbered_within atoms n a num), body_fine _ _ (extras_of st g atoms f.0 f.1 q) own_uses r b)
    head_fine (Choice left es right) r (inl (a, qs, ms, is, (n, num, h, b))) = (subst (IsHeadOf (length atoms)) (sym h) (numbered_within atoms n a num), body_fine _ _ (extras_of st g atoms f.0 f.1 q) own_uses r b)
    head_fine (Choice left es right) r (inr h) = guard_fine q.choice (stand_left g.groups f.1 q.choice q.own q.stand) r h
    head_fine Nothing r (h, b) = constraint no_extras tt r h _ _ b

  rule_fine : (r : GroundRule) → Contains g.rules r → IsFine r
  rule_fine r m = ⊎_elim
      (λ (a, c, (n, num, h, b)). (subst (IsHeadOf (length atoms)) (sym h) (numbered_within atoms n a num), (body_of [] no_extras, b, record { lits = all_of (IsLiteralOf (length atoms)) [] (λ d n. absurd (nothing_in d n)); guards = all_of (IsGuardUseOf g.groups) [] (λ d n. absurd (nothing_in d n)) })))
      (λ (f, c, h). head_fine f c f.0.rule.head r h) (p.sound r m)

-- ---- groups

least : (n : ℤ) → IsTrue (is_integer n) → (neg_ℤ (pos 2147483647) ≤ℤ n) × (n ≤ℤ pos 2147483647)
least n e = (grind (arith, ints), grind (arith, ints))

guard_number : (rel : _) (alike : ℤ → Bool) (v : Value) → IsOfRange v → IsGuardNumber (guard_of rel alike v)
guard_number rel alike (integer n) e = least n e
guard_number rel alike (constant name) e = tt
guard_number rel alike (string bytes) e = tt
guard_number rel alike (compound name vs) e = tt

left_number : (s : Substitution) (o : Option Guard) (v : Option Value) → IsGuardValue s o v → IfSome (left_guard o v) IsGuardNumber
left_number s None v e = tt
left_number s (Some guard) v (w, is, range, e) = subst (λ o. IfSome (left_guard (Some guard) o) IsGuardNumber) (sym e) (guard_number (turned_rel guard.rel) (λ n. compares guard.rel w (integer n)) w range)

right_number : (s : Substitution) (o : Option Guard) (v : Option Value) → IsGuardValue s o v → IfSome (right_guard o v) IsGuardNumber
right_number s None v e = tt
right_number s (Some guard) v (w, is, range, e) = subst (λ o. IfSome (right_guard (Some guard) o) IsGuardNumber) (sym e) (guard_number (same_rel guard.rel) (λ n. compares guard.rel (integer n) w) w range)

below_or : (m n : ℕ) → (m < n → ⊥) → n ≤ m
below_or m n f = by (nat_lt m n) refl
  where
    by : (t : Bool) → nat_lt m n ≡ t → n ≤ m
    by true e = let lt : m < n = grind (arith, nat_tests) in absurd (f lt)
    by false e = grind (arith, nat_tests)

not_before : (v : Value) → IsTrue (is_lt (value_cmp v v)) → ⊥
not_before v h = false≢true (subst (λ o. IsTrue (is_lt o)) (value_itself v) h)

zip_back : {X Y : Type 0} (S : X → Y → Type 0) (xs : List X) (ys : List Y) → AllZip S xs ys → (b : Y) → Contains ys b → (a : X) × Contains xs a × S a b
zip_back S [] [] z b m = absurd (nothing_in b m)
zip_back S [] (y ∷ ys) z b m = absurd z
zip_back S (x ∷ xs) [] z b m = absurd z
zip_back S (x ∷ xs) (y ∷ ys) (h, z) b m = ⊎_elim (λ e. (x, here x xs, subst (S x) e h)) (λ r. let (a, n, k) = zip_back S xs ys z b r in (a, there x xs a n, k)) (first_or_rest y ys b m)

guards_of : (s : Substitution) (items : List Item) (vs ps ns : List Value) (us : List GuardedAggregate) → AreParts s items vs ps ns us → (u : GuardedAggregate) → Contains us u → IsGuardValue s u.aggregate.left u.left × IsGuardValue s u.aggregate.right u.right
guards_of s [] vs ps ns us (ve, pe, ne, e) u m = absurd (nothing_in u (subst (λ xs. Contains xs u) e m))
guards_of s (Plain (Pos atom) ∷ items) vs ps ns us (ws, rest, qs, are, ve, pe, parts) u m = guards_of s items rest qs ns us parts u m
guards_of s (Plain (Not atom) ∷ items) vs ps ns us (ws, rest, ms, are, ve, pe, parts) u m = guards_of s items rest ps ms us parts u m
guards_of s (Plain (trees.Compare left rel right) ∷ items) vs ps ns us (v, w, rest, is, is_w, t, ve, parts) u m = guards_of s items rest ps ns us parts u m
guards_of s (Each literal condition ∷ items) vs ps ns us parts u m = guards_of s items vs ps ns us parts u m
guards_of s (Agg a ∷ items) vs ps ns us (l, r, rest, others, is_l, is_r, ve, e, parts) u m =
    ⊎_elim (λ same. subst (λ x. IsGuardValue s x.aggregate.left x.left × IsGuardValue s x.aggregate.right x.right) same (is_l, is_r))
    (λ later. guards_of s items rest ps ns others parts u later) (first_or_rest (record { aggregate = a; left = l; right = r }) others u (subst (λ xs. Contains xs u) e m))

module _ (st : Setting) (assigned : Aggregate → Bool) (judges : (a : Aggregate) → IsTrue (assigned a) → IsTrue (st.evaluated a)) (g : Parts) (atoms : List Value)
    (few : MoreThan 1000000 (IsPair st assigned atoms) → ⊥) (small : HasSmallWeights g) where
  module _ (key : InstanceKey) (place : Option ℕ) (lower : Values → Value → Type 0) (function : Function) (comes : Values → List Value → List Value → Type 0)
      (pairs : (t : Values) (ps ns : List Value) (cs : List ℤ) → comes t ps ns → Exists st (lower t) ps ns → AreGroundLiterals atoms (Contains ps) (Contains ns) cs
      → IsPair st assigned atoms (record { key = key; group = place; tuple = t; condition = cs })) where
    -- a pair for each tuple
    made : (ts : List Values) (rows : List GroupRow) → AllZip (IsTupleRow st atoms lower function comes) ts rows → ((t : Values) → Contains ts t → (ps ns : List Value) × comes t ps ns × Exists st (lower t) ps ns) → Apart ts
        → (ms : List Pair) × (length ms ≡ length ts) × ((m : Pair) → Contains ms m → IsPair st assigned atoms m × Contains ts m.tuple) × Apart ms
    made [] [] z f far = ([], refl, λ m c. absurd (nothing_in m c), tt)
    made [] (row ∷ rows) z f far = absurd z
    made (t ∷ ts) [] z f far = absurd z
    made (t ∷ ts) (row ∷ rows) (is, z) f (out, far) =
        let (ps, ns, o, ex) = f t (here t ts) in
        let (cs, among, are) = is.whole ps ns o ex in
        let (ms, len, all, apart_) = made ts rows z (λ u c. f u (there t ts u c)) far in
        let m : Pair = record { key = key; group = place; tuple = t; condition = cs } in (
          m ∷ ms,
          ap suc len,
          λ n c. ⊎_elim (λ e. subst (λ n. IsPair st assigned atoms n × Contains (t ∷ ts) n.tuple) e (pairs t ps ns cs o ex are, here t ts)) (λ r. let (h, k) = all n r in (h, there t ts n.tuple k)) (first_or_rest m ms n c),
          (λ c. out (all m c).1, apart_),
        )

    rows_fine : (ts : List Values) (rows : List GroupRow) → AllZip (IsTupleRow st atoms lower function comes) ts rows → All (IsRowOf (length atoms)) rows
    rows_fine ts rows z = all_of (IsRowOf (length atoms)) rows (λ row m. let (t, inside, is) = zip_back (IsTupleRow st atoms lower function comes) ts rows z row m in
        all_of (λ condition. All (IsLiteralOf (length atoms)) condition) row.conditions (λ cs c. let (ps, ns, o, ex, are) = is.sound cs c in literals_of atoms (Contains ps) (Contains ns) cs are))

    group_fine : (left right : Option GroupGuard) (h : Group) → IsGroundGroup st atoms lower function comes left right h → IfSome left IsGuardNumber → IfSome right IsGuardNumber → Contains g.groups h → IsGroupOf (length atoms) h
    group_fine left right h is l r inside =
        let far : Apart is.tuples = apart is.tuples (λ i j d lt below e. not_before (compound [] (get_or is.tuples i d)) (subst (λ u. IsTrue (is_lt (value_cmp (compound [] (get_or is.tuples i d)) (compound [] u)))) (sym e) (is.ordered i j d lt below))) in
        let (ms, len, all, apart_) = made is.tuples h.rows is.rows (λ t c. (is.members t).0 c) far in
        let short : length is.tuples ≤ 1000000 = below_or 1000000 (length is.tuples) (λ more. few (record {
          members = ms;
          distinct = apart_back ms apart_;
          all = all_of (IsPair st assigned atoms) ms (λ m c. (all m c).0);
          longer = subst (λ n. 1000000 < n) (sym len) more;
        })) in
        let rows : length h.rows ≡ length is.tuples = zip_length (IsTupleRow st atoms lower function comes) is.tuples h.rows is.rows in
        let sum = sum_by-le (λ (row : GroupRow). weight_size row.weight) 2147483647 h.rows (all_of (λ row. weight_size row.weight ≤ 2147483647) h.rows (λ row c. small h row inside c)) in
        let low : sum_by (λ (row : GroupRow). weight_size row.weight) h.rows < 4503599627370496 = omega (arith, short, rows, sum) in record {
          rows = rows_fine is.tuples h.rows is.rows;
          sums = low;
          left = subst (λ o. IfSome o IsGuardNumber) (sym is.left) l;
          right = subst (λ o. IfSome o IsGuardNumber) (sym is.right) r;
        }

  -- ---- the groups of an instance

  module _ (i : Instance) (inst : IsInstance st.rules i) (relevant : IsRelevant st i) where
    abbrev key_of : InstanceKey
    key_of = record { place = i.place; outer = i.outer }

    tried : IsTried st assigned i
    tried = record { asked = relevant.asked; barred = relevant.barred; compared = relevant.compared; evaluated = λ u c a. relevant.evaluated u c (judges u.aggregate a) }

    only : (hs : List Group) (k h : Group) → hs ≡ k ∷ [] → Contains hs h → k ≡ h
    only hs k h e m = ⊎_elim (λ s. s) (λ r. absurd (nothing_in h r)) (first_or_rest k [] h (subst (λ xs. Contains xs h) e m))

    chosen_pairs : (left right : Option Guard) (es : List Choosable) → i.rule.head ≡ Choice left es right → IsGuarded left right → (t : Values) (ps ns : List Value) (cs : List ℤ)
        → OfChoice (global_variables i.rule) i.values es t ps ns → Exists st (IsBelowAtom st t) ps ns → AreGroundLiterals atoms (Contains ps) (Contains ns) cs
        → IsPair st assigned atoms (record { key = key_of; group = None; tuple = t; condition = cs })
    chosen_pairs left right es e guarded t ps ns cs o ex are = (i, refl, refl, (inst, tried, inl (subst (λ hd. IsChoicePair st atoms i hd (record { key = key_of; group = None; tuple = t; condition = cs })) (sym e) (guarded, refl, (ps, ns, o, ex, are)))))

    choice_fine : (hd : Head) → i.rule.head ≡ hd → (vs : List Value) → IsHeadPart i.values hd vs i.head i.left i.right → (hs : List Group) → AreChoiceGroups st atoms i hd hs → (h : Group) → Contains hs h → Contains g.groups h → IsGroupOf (length atoms) h
    choice_fine (One atom) e vs part hs are h m inside = absurd (nothing_in h (subst (λ xs. Contains xs h) are m))
    choice_fine (Choice None es None) e vs part hs are h m inside = absurd (nothing_in h (subst (λ xs. Contains xs h) are m))
    choice_fine (Choice (Some l) es r) e vs (is_l, is_r, ve, he) hs (k, ke, is) h m inside =
        subst (λ x. Contains g.groups x → IsGroupOf (length atoms) x) (only hs k h ke m)
        (group_fine key_of None (IsBelowAtom st) Count (OfChoice (global_variables i.rule) i.values es) (chosen_pairs (Some l) r es e (inl (l, refl)))
        (left_guard (Some l) i.left) (right_guard r i.right) k is (left_number i.values (Some l) i.left is_l) (right_number i.values r i.right is_r)) inside
    choice_fine (Choice None es (Some r)) e vs (is_l, is_r, ve, he) hs (k, ke, is) h m inside =
        subst (λ x. Contains g.groups x → IsGroupOf (length atoms) x) (only hs k h ke m)
        (group_fine key_of None (IsBelowAtom st) Count (OfChoice (global_variables i.rule) i.values es) (chosen_pairs None (Some r) es e (inr (r, refl)))
        None (right_guard (Some r) i.right) k is tt (right_number i.values (Some r) i.right is_r)) inside
    choice_fine Nothing e vs part hs are h m inside = absurd (nothing_in h (subst (λ xs. Contains xs h) are m))

    own_fine : (hs : List Group) → AllZip (IsAggregateGroup st atoms i) i.aggregates hs → (h : Group) → Contains hs h → Contains g.groups h → IsGroupOf (length atoms) h
    own_fine hs z h m =
        let (u, among, is) = zip_back (IsAggregateGroup st atoms i) i.aggregates hs z h m in
        let (j, at) = place_of i.aggregates u among in
        let (l, r) = guards_of i.values i.rule.body inst.of_body i.positive i.negative i.aggregates inst.body u among in
        group_fine key_of (Some j) (IsLowest st i) u.aggregate.function (OfAggregate (global_variables i.rule) i.values u.aggregate.elements)
        (λ t ps ns cs o ex are. (i, refl, refl, (inst, tried, inr (j, u, refl, at, (ps, ns, o, ex, are)))))
        (left_guard u.aggregate.left u.left) (right_guard u.aggregate.right u.right) h is (left_number i.values u.aggregate.left u.left l) (right_number i.values u.aggregate.right u.right r)

    both_fine : (k : ℕ) (q : HasGroups st g atoms i k) (h : Group) → Contains (q.choice ++ q.own) h → Contains g.groups h → IsGroupOf (length atoms) h
    both_fine k q h m = ⊎_elim (choice_fine i.rule.head refl inst.of_head inst.head q.choice q.choice_is h) (own_fine q.own q.own_are h) (in_append q.choice q.own h m)

  -- ---- every group is one of an instance

  groups_from : (n : ℕ) (found : List Instance) → ((i : Instance) → Contains found i → IsInstance st.rules i × IsRelevant st i) → ((f : Instance × ℕ) → Contains (placed_from n found) f → HasGroups st g atoms f.0 f.1)
      → (hs : List Group) × StandFrom g.groups n hs × (length hs ≡ groups_of found) × ((h : Group) → Contains hs h → Contains g.groups h → IsGroupOf (length atoms) h)
  groups_from n [] are q = ([], tt, refl, λ h m. absurd (nothing_in h m))
  groups_from n (i ∷ found) are q =
      let a : HasGroups st g atoms i n = q (i, n) (here (i, n) (placed_from (n + groups_count i) found)) in
      let (hs, s, len, fine) = groups_from (n + groups_count i) found (λ j c. are j (there i found j c)) (λ f c. q f (there (i, n) (placed_from (n + groups_count i) found) f c)) in
      let xs : List Group = a.choice ++ a.own in
      let l1 : length a.choice ≡ choice_groups i.rule.head = choice_length st atoms i i.rule.head a.choice a.choice_is in
      let l2 : length a.own ≡ length i.aggregates = zip_length (IsAggregateGroup st atoms i) i.aggregates a.own a.own_are in
      let l3 : length (a.choice ++ a.own) ≡ length a.choice + length a.own = append_length a.choice a.own in
      let l : length (a.choice ++ a.own) ≡ groups_count i = omega (arith, l1, l2, l3) in
      let l4 : length (xs ++ hs) ≡ length xs + length hs = append_length xs hs in
      let (inst, relevant) = are i (here i found) in (
        xs ++ hs,
        stand_append g.groups n xs hs a.stand (subst (λ k. StandFrom g.groups (n + k) hs) (sym l) s),
        l4 ∙ (ap (λ k. k + length hs) l ∙ ap (λ k. groups_count i + k) len),
        λ h m. ⊎_elim (both_fine i inst relevant n a h) (fine h) (in_append xs hs h m),
      )

-- ---- the program

get_map : {X Y : Type 0} (f : X → Y) (xs : List X) (k : ℕ) (d : X) → get_or (map f xs) k (f d) ≡ f (get_or xs k d)
get_map f [] k d = refl
get_map f (x ∷ xs) zero d = refl
get_map f (x ∷ xs) (suc k) d = get_map f xs k d

one_id : (a b : TermId) → a.0 ≡ b.0 → a ≡ b
one_id a b e = ap (λ (n : ℕ). record { 0 = n }) e

before : {X Y : Type 0} (f : X → Y) (R : Y → Y → Type 0) (xs : List X) → AllPairs R (map f xs) → (i j : ℕ) (d : X) → i < j → j < length xs → R (f (get_or xs i d)) (f (get_or xs j d))
before f R xs h i j d lt below = subst (λ v. R v (f (get_or xs j d))) (at_map i) (subst (λ v. R (get_or (map f xs) i (f d)) v) (at_map j) (h i j (f d) lt (subst (λ n. j < n) (sym (map_length f xs)) below)))
  where
    at_map : (k : ℕ) → get_or (map f xs) k (f d) ≡ f (get_or xs k d)
    at_map k = get_map f xs k d

pub in_range : (table : List Value) (st : Setting) (assigned : Aggregate → Bool) → ((a : Aggregate) → IsTrue (assigned a) → IsTrue (st.evaluated a)) → (g : Parts) → IsGroundProgram table st g
    → (MoreThan 1000000 (IsPair st assigned (map (value_at table) g.atoms)) → ⊥) → HasSmallWeights g → IsInRange g
in_range table st assigned judges g p few small =
    let atoms : List Value = map (value_at table) g.atoms in
    let size : length atoms ≡ length g.atoms = map_length (value_at table) g.atoms in
    let fine = rule_fine st g atoms p.found p.grounding in
    let (hs, s, len, all) = groups_from st assigned judges g atoms few small 1 p.found (λ i c. let (k, m) = placed_has 1 p.found i c in p.grounding.instances (i, k) m) p.grounding.placed in
    let same : hs ≡ g.groups = groups_are g.groups hs s (p.all_groups ∙ sym len) in record {
      atoms = λ i j d lt below e. not_before (value_at table (get_or g.atoms i d)) (subst (λ v. IsTrue (is_lt (value_cmp (value_at table (get_or g.atoms i d)) v))) (ap (value_at table) (sym (one_id (get_or g.atoms i d) (get_or g.atoms j d) e)))
          (before (value_at table) (λ v w. IsTrue (is_lt (value_cmp v w))) g.atoms p.grounding.ordered i j d lt below));
      rules = subst (λ n. All (IsRuleOf n (length g.bodies)) g.rules) size (all_of (IsRuleOf (length atoms) (length g.bodies)) g.rules (λ r m. let (h, (b, at, is)) = fine r m in record { head = h; body = numbered_within g.bodies r.body.0 b at }));
      bodies = subst (λ n. All (IsBodyOf n g.groups) g.bodies) size (all_of (IsBodyOf (length atoms) g.groups) g.bodies (λ b m.
          let (k, at) = number_of g.bodies b m in
          let (r, among, e) = p.bodies_used k b at in
          let (h, (c, at', is)) = fine r among in
          subst (IsBodyOf (length atoms) g.groups) (some_same c b (sym at' ∙ (ap (numbered g.bodies) e ∙ at))) is));
      groups = subst (λ n. All (IsGroupOf n) g.groups) size (all_of (IsGroupOf (length atoms)) g.groups (λ h m. all h (subst (λ xs. Contains xs h) (sym same) m) m));
      inputs = all_of (λ (a : AtomId). IsNumberOf (length g.atoms) a.0) g.inputs (λ a m. let (v, inside, at) = (p.inputs a).0 m in subst (λ n. IsNumberOf n a.0) size (numbered_within atoms a.0 v at));
    }
