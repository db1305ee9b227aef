-- The group of an aggregate, or of a choice with a guard.
use Rattle.std.specs.Prelude.{◌≡◌, ◌↔◌, ℕ, ℤ, pos, Bool, List, [], ◌∷◌, AllPairs, Contains, Option, Some, None, IsTrue}
use Rattle.std.specs.List.{AllZip}
use Rattle.std.specs.Ordering.{is_lt}
use Rattle.ap_syntax.specs.declared.rules.Function.{Function}
use Rattle.ap_syntax.specs.declared.rules.Function.TheVariants.{Count, Sum}
use Rattle.ap_syntax.specs.declared.terms.Rel.{Rel}
use Rattle.ap_syntax.specs.declared.terms.Rel.TheVariants as rels
use Rattle.ap_term.specs.Order.{value_cmp}
use Rattle.ap_term.specs.Value.{Value, integer, constant, string, compound, Values, none, also}
use Rattle.ground_law.specs.Literals.{AreGroundLiterals, Exists}
use Rattle.sets.specs.Literals.{literals_cmp}
use Rattle.ground_form.specs.declared.groups.Group.{Group}
use Rattle.ground_form.specs.declared.groups.GroupGuard.{GroupGuard}
use Rattle.ground_form.specs.declared.groups.GroupGuard.TheVariants.{Compare, Fixed}
use Rattle.ground_form.specs.declared.groups.GroupRow.{GroupRow}
use Rattle.ground_form.specs.declared.groups.GuardRel.{GuardRel}
use Rattle.ground_form.specs.declared.groups.GuardRel.TheVariants.{Eq, Ne, Lt, Le, Gt, Ge}
use Rattle.rule_form.specs.Globals.{Agrees}
use Rattle.rule_form.specs.Instances.{AreConditionAtoms}
use Rattle.rule_form.specs.Possible.{Setting}
use Rattle.rule_form.specs.Trees.{Guard, Element, Choosable}
use Rattle.rule_form.specs.Truth.{compares}
use Rattle.rule_form.specs.Values.{Substitution, AreValues, IsAtom}

-- ---- guards

-- the relation as read from the group's value
abbrev pub same_rel : Rel → GuardRel
same_rel rels.Eq = Eq
same_rel rels.Ne = Ne
same_rel rels.Lt = Lt
same_rel rels.Le = Le
same_rel rels.Gt = Gt
same_rel rels.Ge = Ge

-- the relation of a guard on the left, turned
abbrev pub turned_rel : Rel → GuardRel
turned_rel rels.Eq = Eq
turned_rel rels.Ne = Ne
turned_rel rels.Lt = Gt
turned_rel rels.Le = Ge
turned_rel rels.Gt = Lt
turned_rel rels.Ge = Le

-- a guard that is no integer compares alike with every integer
abbrev pub guard_of : GuardRel → (ℤ → Bool) → Value → GroupGuard
guard_of rel alike (integer n) = Compare rel n
guard_of rel alike (constant name) = Fixed (alike (pos 0))
guard_of rel alike (string bytes) = Fixed (alike (pos 0))
guard_of rel alike (compound name vs) = Fixed (alike (pos 0))

-- the guard of the group, with the value that the instance has for it
abbrev pub left_guard : Option Guard → Option Value → Option GroupGuard
left_guard None v = None
left_guard (Some guard) None = None
left_guard (Some guard) (Some v) = Some (guard_of (turned_rel guard.rel) (λ n. compares guard.rel v (integer n)) v)

-- the same for the guard on the right
abbrev pub right_guard : Option Guard → Option Value → Option GroupGuard
right_guard None v = None
right_guard (Some guard) None = None
right_guard (Some guard) (Some v) = Some (guard_of (same_rel guard.rel) (λ n. compares guard.rel (integer n) v) v)

-- ---- tuples with their conditions: positive and negative atoms

-- the tuple is one of an element of an aggregate, with the atoms of its condition
abbrev pub OfAggregate : List (List ℕ) → Substitution → List Element → Values → List Value → List Value → Type 0
OfAggregate globals s elements t ps ns = (e : Element) × (u : Substitution) × Contains elements e × Agrees globals s u
    × AreValues u e.terms t × AreConditionAtoms u e.condition ps ns

-- the tuples of a choice are its atoms; the condition of an atom has that atom too
abbrev pub OfChoice : List (List ℕ) → Substitution → List Choosable → Values → List Value → List Value → Type 0
OfChoice globals s elements t ps ns = (e : Choosable) × (u : Substitution) × (a : Value) × (qs : List Value)
    × Contains elements e × Agrees globals s u × IsAtom u e.atom a × AreConditionAtoms u e.condition qs ns
    × (t ≡ also a none) × (ps ≡ a ∷ qs)

-- ---- groups

-- what a tuple adds to the sum, if anything
abbrev pub weight_of : Function → Values → Option ℤ
weight_of Count t = Some (pos 1)
weight_of Sum none = None
weight_of Sum (also (integer n) vs) = Some n
weight_of Sum (also (constant name) vs) = None
weight_of Sum (also (string bytes) vs) = None
weight_of Sum (also (compound name ws) vs) = None

-- `lower t b` says that atom b counts as lower for tuple t, and `comes t ps ns` that t comes with these positive and negative atoms
module _ (setting : Setting) (atoms : List Value) (lower : Values → Value → Type 0) (function : Function)
    (comes : Values → List Value → List Value → Type 0) where
  -- the conditions of the tuple that exist, each once and in order
  pub record IsTupleRow (t : Values) (row : GroupRow) : Type 0 where
    pub weight : row.weight ≡ weight_of function t
    pub sound : (cs : List ℤ) → Contains row.conditions cs → (ps ns : List Value) × comes t ps ns
        × Exists setting (lower t) ps ns × AreGroundLiterals atoms (Contains ps) (Contains ns) cs
    pub whole : (ps ns : List Value) → comes t ps ns → Exists setting (lower t) ps ns → (cs : List ℤ)
        × Contains row.conditions cs × AreGroundLiterals atoms (Contains ps) (Contains ns) cs
    pub ordered : AllPairs (λ c d. IsTrue (is_lt (literals_cmp c d))) row.conditions

  -- the tuples with a condition that exists, each once and in order
  pub record IsGroundGroup (on_left on_right : Option GroupGuard) (h : Group) : Type 0 where
    pub tuples : List Values
    pub ordered : AllPairs (λ t u. IsTrue (is_lt (value_cmp (compound [] t) (compound [] u)))) tuples
    pub members : (t : Values) → Contains tuples t
        ↔ ((ps ns : List Value) × comes t ps ns × Exists setting (lower t) ps ns)
    pub rows : AllZip IsTupleRow tuples h.rows
    pub left : h.left ≡ on_left
    pub right : h.right ≡ on_right
