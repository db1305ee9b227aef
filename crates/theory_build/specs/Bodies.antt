-- The bodies: a variable for each list of literals that a rule has as its body.
use Rattle.std.specs.Prelude.{ℕ, ◌+◌, Bool, ◌==◌, if◌then◌else◌, List, [], ◌∷◌, ◌++◌, map, length, Option, Some, None}
use Rattle.std.specs.List.{enumerate_from}
use Rattle.theory_form.specs.declared.literals.Lit.{Lit}
use Rattle.theory_form.specs.Literals.{lit_cmp}
use Rattle.ground_form.specs.declared.bodies.Body.{Body}
use Rattle.ground_form.specs.declared.bodies.GuardUse.{GuardUse}
use Rattle.ground_form.specs.declared.rules.GroundRule.{GroundRule}
use Rattle.ground_form.specs.Programs.{Parts, numbered}
use Rattle.theory_build.specs.declared.entries.Entry.{Entry}
use Rattle.theory_build.specs.Ascending.{ascending, lits_cmp, place_in}
use Rattle.theory_build.specs.Entries.{yes, no, signed, body_entry}
use Rattle.theory_build.specs.Frames.{Frame, atom_lit}
use Rattle.theory_build.specs.Groups.{Guards, groups_piece}

-- the literal of a guard: 0 is the left one, 1 the right one, and else both. In a program in range the group is there.
abbrev pub guard_lit : ℕ → ℕ → Option Guards → Lit
guard_lit truth k None = yes truth
guard_lit truth k (Some guards) = if k == 0 then guards.left else (if k == 1 then guards.right else guards.both)

abbrev pub use_lit : Frame → List Guards → GuardUse → Lit
use_lit p guards guard = signed guard.yes (guard_lit p.truth guard.guard (numbered guards guard.group))

abbrev pub only_if : Bool → Lit → List Lit
only_if there l = if there then l ∷ [] else []

-- the literals of a body in ascending order, each once: what is always or never true, guards, and atoms
unfoldable pub body_lits : Frame → List Guards → Body → List Lit
body_lits p guards body =
    ascending lit_cmp
    (only_if body.always (yes p.truth)
    ++ (only_if body.never (no p.truth)
    ++ (map (use_lit p guards) body.guards
    ++ map (atom_lit p) body.lits)))

abbrev pub lits_if_there : Frame → List Guards → Option Body → List Lit
lits_if_there p guards None = []
lits_if_there p guards (Some body) = body_lits p guards body

-- the literals of the body of this number
unfoldable pub lits_of : Frame → Parts → ℕ → List Lit
lits_of p g b = lits_if_there p (groups_piece p g).name (numbered g.bodies b)

-- the bodies of the rules as lists of literals, in ascending order, each once
unfoldable pub rule_bodies : Frame → Parts → List (List Lit)
rule_bodies p g = ascending lits_cmp (map (λ (rule : GroundRule). lits_of p g rule.body.0) g.rules)

-- the first variable of a body stands behind the groups
unfoldable pub bodies_from : Frame → Parts → ℕ
bodies_from p g = p.groups_from + length (groups_piece p g).entries

-- the literal of the body of this number
unfoldable pub body_lit : Frame → Parts → ℕ → Lit
body_lit p g b = yes (bodies_from p g + place_in (rule_bodies p g) (lits_of p g b))

abbrev pub body_entry_at : ℕ × List Lit → Entry
body_entry_at (v, lits) = body_entry v lits

unfoldable pub body_entries : Frame → Parts → List Entry
body_entries p g = map body_entry_at (enumerate_from (bodies_from p g) (rule_bodies p g))
