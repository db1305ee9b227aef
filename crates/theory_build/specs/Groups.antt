-- The variables of the groups. A group is an aggregate, or a choice with a guard.
use Rattle.std.specs.Prelude.{ℕ, ◌+◌, ℤ, pos, ◌+ℤ◌, Bool, ◌&&◌, ◌==◌, if◌then◌else◌, List, [], ◌∷◌, ◌++◌, map, length, Option, Some, None}
use Rattle.std.specs.List.{filter_map, list_any, enumerate_from}
use Rattle.std.specs.Option.{option_map}
use Rattle.theory_form.specs.declared.literals.Lit.{Lit}
use Rattle.theory_form.specs.declared.literals.Var.{Var}
use Rattle.theory_form.specs.Literals.{lit_cmp}
use Rattle.ground_form.specs.declared.bodies.Body.{Body}
use Rattle.ground_form.specs.declared.bodies.GuardUse.{GuardUse}
use Rattle.ground_form.specs.declared.groups.Group.{Group}
use Rattle.ground_form.specs.declared.groups.GroupRow.{GroupRow}
use Rattle.ground_form.specs.declared.groups.GroupGuard.{GroupGuard}
use Rattle.ground_form.specs.declared.groups.GroupGuard.TheVariants.{Compare, Fixed}
use Rattle.ground_form.specs.declared.groups.GuardRel.{GuardRel}
use Rattle.ground_form.specs.declared.groups.GuardRel.TheVariants.{Eq, Ne, Lt, Le, Gt, Ge}
use Rattle.ground_form.specs.Programs.{Parts}
pub use Rattle.theory_build.specs.declared.guards.Guards.{Guards}
use Rattle.theory_build.specs.Ascending.{ascending}
use Rattle.theory_build.specs.Entries.{yes, no, all_of, any_of, reaches}
use Rattle.theory_build.specs.Pieces.{Piece, no_piece, one_piece, in_turn}
use Rattle.theory_build.specs.Frames.{Frame, atom_lit}

-- ---- tuples

-- a conjunction of these literals: one literal stands for itself, and else there is a variable
abbrev pub conjunct_piece : ℕ → List Lit → Piece Lit
conjunct_piece v [] = one_piece (all_of v []) (yes v)
conjunct_piece v (l ∷ []) = no_piece l
conjunct_piece v (l ∷ m ∷ lits) = one_piece (all_of v (l ∷ m ∷ lits)) (yes v)

-- a condition of a tuple holds each of its literals once
unfoldable pub condition_piece : Frame → ℕ → List ℤ → Piece Lit
condition_piece p v condition = conjunct_piece v (ascending lit_cmp (map (atom_lit p) condition))

-- behind its conditions the tuple's variable, which is true where a condition is; by its weight it is a term of the sum,
-- unless its first member is no integer
abbrev pub tuple_piece : ℕ → Option ℤ → Piece (List Lit) → Piece (Option (ℤ × Var))
tuple_piece v weight conditions =
    let t = v + length conditions.entries in
    record {
      entries = conditions.entries ++ any_of t conditions.name ∷ [];
      name = option_map (λ w. (w, record { 0 = t })) weight;
    }

unfoldable pub row_piece : Frame → ℕ → GroupRow → Piece (Option (ℤ × Var))
row_piece p v row = tuple_piece v row.weight (in_turn (condition_piece p) v row.conditions)

-- ---- guards

-- that the sum is k: it reaches k, and not k + 1
abbrev pub equal_piece : List (ℤ × Var) → ℕ → ℤ → Lit → Piece Lit
equal_piece terms v k name =
    record {
      entries = reaches terms k ∷ reaches terms (k +ℤ pos 1) ∷ all_of (v + 2) (yes v ∷ no (v + 1) ∷ []) ∷ [];
      name = name;
    }

-- a guard, by how the sum stands to the number k
abbrev pub compare_piece : List (ℤ × Var) → ℕ → GuardRel → ℤ → Piece Lit
compare_piece terms v Ge k = one_piece (reaches terms k) (yes v)
compare_piece terms v Gt k = one_piece (reaches terms (k +ℤ pos 1)) (yes v)
compare_piece terms v Lt k = one_piece (reaches terms k) (no v)
compare_piece terms v Le k = one_piece (reaches terms (k +ℤ pos 1)) (no v)
compare_piece terms v Eq k = equal_piece terms v k (yes (v + 2))
compare_piece terms v Ne k = equal_piece terms v k (no (v + 2))

-- a guard that is no integer is true in every set or in none, and one that is not there asks for nothing
unfoldable pub guard_piece : ℕ → List (ℤ × Var) → ℕ → Option GroupGuard → Piece Lit
guard_piece truth terms v None = no_piece (yes truth)
guard_piece truth terms v (Some (Fixed holds)) = no_piece (record { var = record { 0 = truth }; yes = holds })
guard_piece truth terms v (Some (Compare rel k)) = compare_piece terms v rel k

-- ---- groups

-- some body asks for both guards of the group of this number, or for that they are not both true
abbrev pub asks_for_both : ℕ → Body → Bool
asks_for_both k body = list_any (λ (guard : GuardUse). guard.group == k && guard.guard == 2) body.guards

unfoldable pub needs_both : Parts → ℕ → Bool
needs_both g k = list_any (asks_for_both k) g.bodies

-- both guards have a variable where a body asks for them; where none does, nothing reads this literal
abbrev pub both_piece : ℕ → Bool → ℕ → Lit → Lit → Piece Lit
both_piece truth needed v left right =
    if needed then one_piece (all_of v (left ∷ right ∷ [])) (yes v) else no_piece (yes truth)

-- the tuples of a group, its guards, the left one first, and both where they are needed
unfoldable pub group_piece : Frame → Bool → ℕ → Group → Piece Guards
group_piece p needed v group =
    let rows = in_turn (row_piece p) v group.rows in
    let terms = filter_map (λ term. term) rows.name in
    let left_from = v + length rows.entries in
    let left = guard_piece p.truth terms left_from group.left in
    let right_from = left_from + length left.entries in
    let right = guard_piece p.truth terms right_from group.right in
    let both_from = right_from + length right.entries in
    let both = both_piece p.truth needed both_from left.name right.name in
    record {
      entries = rows.entries ++ (left.entries ++ (right.entries ++ both.entries));
      name = record { left = left.name; right = right.name; both = both.name };
    }

abbrev pub group_piece_at : Frame → Parts → ℕ → ℕ × Group → Piece Guards
group_piece_at p g v (k, group) = group_piece p (needs_both g k) v group

-- the groups in their order
unfoldable pub groups_piece : Frame → Parts → Piece (List Guards)
groups_piece p g = in_turn (group_piece_at p g) p.groups_from (enumerate_from 1 g.groups)
