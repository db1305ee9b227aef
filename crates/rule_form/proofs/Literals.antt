-- What holds by one reading of atoms holds by another that grants more.
use Rattle.std.proofs.Common.{ℕ, ℤ, Bool, List, Option, Some, None, Contains, All, get_or}
use Rattle.std.specs.Prelude.{◌↔◌}
use Rattle.std.proofs.lemmas.List.Elements.{Contains-get_or}
use Rattle.ap_term.specs.Value.{Value, Values}
use Rattle.rule_form.specs.Static.{IsAtomOf, InCondition, InAggregate}
use Rattle.rule_form.specs.Trees.{Literal, Pos, Not, Compare, Guard, Element, Aggregate, Item, Plain, Each, Agg}
use Rattle.rule_form.specs.Truth.{Holds, HoldsForAll, IsCounted, AggregateHolds, ItemHolds, HasGuardValue, HasGuardValues, LeftHolds, RightHolds}
use Rattle.rule_form.specs.Values.{Substitution}

pub reads_moves : (has lacks has' lacks' : Value → Type 0) (u : Substitution) (l : Literal) → ((b : Value) → IsAtomOf u l b → has b → has' b) → ((b : Value) → IsAtomOf u l b → lacks b → lacks' b)
    → Holds has lacks u l → Holds has' lacks' u l
reads_moves has lacks has' lacks' u (Pos atom) f g (b, is, h) = (b, is, f b is h)
reads_moves has lacks has' lacks' u (Not atom) f g (b, is, h) = (b, is, g b is h)
reads_moves has lacks has' lacks' u (Compare left rel right) f g h = h

pub for_all_moves : (has lacks has' lacks' : Value → Type 0) (u : Substitution) (l : Literal) → ((b : Value) → has b → has' b) → ((b : Value) → lacks b → lacks' b)
    → HoldsForAll has lacks u l → HoldsForAll has' lacks' u l
for_all_moves has lacks has' lacks' u (Pos atom) f g h = λ b is. f b (h b is)
for_all_moves has lacks has' lacks' u (Not atom) f g h = λ b is. g b (h b is)
for_all_moves has lacks has' lacks' u (Compare left rel right) f g h = h

pub condition_moves : (has lacks has' lacks' : Value → Type 0) (c : List Literal) → ((b : Value) → InCondition c b → has b → has' b) → ((b : Value) → InCondition c b → lacks b → lacks' b)
    → (u : Substitution) → All (Holds has lacks u) c → All (Holds has' lacks' u) c
condition_moves has lacks has' lacks' c f g u h = λ k d lt. let l : Literal = get_or c k d in
    reads_moves has lacks has' lacks' u l (λ b is. f b (l, u, Contains-get_or c k d lt, is)) (λ b is. g b (l, u, Contains-get_or c k d lt, is)) (h k d lt)

pub counted_moves : (has lacks has' lacks' : Value → Type 0) (globals : List (List ℕ)) (s : Substitution) (es : List Element)
    → ((b : Value) → (e : Element) × Contains es e × InCondition e.condition b → (has b → has' b) × (lacks b → lacks' b))
    → (t : Values) → IsCounted globals has lacks s es t → IsCounted globals has' lacks' s es t
counted_moves has lacks has' lacks' globals s es f t (e, u, among, agrees, is, h) =
    (e, u, among, agrees, is, condition_moves has lacks has' lacks' e.condition (λ b c. (f b (e, among, c)).0) (λ b c. (f b (e, among, c)).1) u h)

pub aggregate_moves : (has lacks has' lacks' : Value → Type 0) (globals : List (List ℕ)) (s : Substitution) (g : Aggregate)
    → ((b : Value) → InAggregate g b → (has b ↔ has' b) × (lacks b ↔ lacks' b)) → AggregateHolds globals has lacks s g → AggregateHolds globals has' lacks' s g
aggregate_moves has lacks has' lacks' globals s g f (n, l, r, c, left, right, e) = (
  n,
  l,
  r,
  record {
    tuples = c.tuples;
    distinct = c.distinct;
    counts = λ t. (
      λ m. counted_moves has lacks has' lacks' globals s g.elements (λ b i. ((f b i).0.0, (f b i).1.0)) t ((c.counts t).0 m),
      λ m. (c.counts t).1 (counted_moves has' lacks' has lacks globals s g.elements (λ b i. ((f b i).0.1, (f b i).1.1)) t m),
    );
    number = c.number;
  },
  left,
  right,
  e,
)

-- the conditions of a conditional literal grant no more by the second reading than by the first, and aggregates are granted
abbrev pub Carries : (held unheld held' unheld' : Value → Type 0) (evaluate judge' : Aggregate → Type 0) → Item → Type 0
Carries held unheld held' unheld' evaluate judge' (Plain l) = Unit {0}
Carries held unheld held' unheld' evaluate judge' (Each l c) = (b : Value) → InCondition c b → (held' b → held b) × (unheld' b → unheld b)
Carries held unheld held' unheld' evaluate judge' (Agg g) = evaluate g → judge' g

pub item_moves : (has lacks has' lacks' held unheld held' unheld' : Value → Type 0) (evaluate judge' : Aggregate → Type 0) (globals : List (List ℕ)) (s : Substitution) (i : Item)
    → ((b : Value) → has b → has' b) → ((b : Value) → lacks b → lacks' b) → Carries held unheld held' unheld' evaluate judge' i
    → ItemHolds has lacks held unheld evaluate globals s i → ItemHolds has' lacks' held' unheld' judge' globals s i
item_moves has lacks has' lacks' held unheld held' unheld' evaluate judge' globals s (Plain l) f g carries h = reads_moves has lacks has' lacks' s l (λ b is. f b) (λ b is. g b) h
item_moves has lacks has' lacks' held unheld held' unheld' evaluate judge' globals s (Each l c) f g carries h = λ u agrees holds.
    for_all_moves has lacks has' lacks' u l f g (h u agrees (condition_moves held' unheld' held unheld c (λ b i. (carries b i).0) (λ b i. (carries b i).1) u holds))
item_moves has lacks has' lacks' held unheld held' unheld' evaluate judge' globals s (Agg g') f g carries h = carries h

-- ---- an aggregate that holds has values for its guards

of_left : (s : Substitution) (n : ℤ) (guard : Option Guard) (b : Bool) → LeftHolds s n guard b → HasGuardValue s guard
of_left s n None b h = tt
of_left s n (Some guard) b (v, is, range, e) = (v, is, range)

of_right : (s : Substitution) (n : ℤ) (guard : Option Guard) (b : Bool) → RightHolds s n guard b → HasGuardValue s guard
of_right s n None b h = tt
of_right s n (Some guard) b (v, is, range, e) = (v, is, range)

pub guards_have_values : (globals : List (List ℕ)) (has lacks : Value → Type 0) (s : Substitution) (g : Aggregate) → AggregateHolds globals has lacks s g → HasGuardValues s g
guards_have_values globals has lacks s g (n, l, r, number, left, right, t) = (of_left s n g.left l left, of_right s n g.right r right)
