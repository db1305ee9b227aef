-- The atoms: an atom is true exactly where one of its supports is, but for choices (Clark 1978), and constraints.
use Rattle.std.specs.Prelude.{ℕ, Bool, true, false, ◌==◌, List, [], ◌∷◌, ◌++◌, map, filter, length, Option}
use Rattle.std.specs.List.{filter_map, zip, range_with_len}
use Rattle.std.specs.Bool.{then_some}
use Rattle.theory_form.specs.declared.literals.Lit.{Lit}
use Rattle.theory_form.specs.declared.rows.VarKind.TheVariants.{Atom}
use Rattle.theory_form.specs.Literals.{lit_cmp, opposite}
use Rattle.ground_form.specs.declared.atoms.AtomId.{AtomId}
use Rattle.ground_form.specs.declared.rules.GroundRule.{GroundRule}
use Rattle.ground_form.specs.declared.rules.Head.{Head}
use Rattle.ground_form.specs.declared.rules.Head.TheVariants.{One, Choice, Nothing}
use Rattle.ground_form.specs.Programs.{Parts}
use Rattle.theory_build.specs.declared.entries.Entry.{Entry}
use Rattle.theory_build.specs.Ascending.{ascending}
use Rattle.theory_build.specs.Entries.{support_clauses}
use Rattle.theory_build.specs.Frames.{Frame, atom_var}
use Rattle.theory_build.specs.Bodies.{body_lit}

-- a rule with this head has the atom in its head and is no choice; it has the atom in its head; it is a constraint
abbrev pub forces : ℕ → Head → Bool
forces a (One b) = b.0 == a
forces a (Choice b) = false
forces a Nothing = false

abbrev pub allows : ℕ → Head → Bool
allows a (One b) = b.0 == a
allows a (Choice b) = b.0 == a
allows a Nothing = false

abbrev pub forbids : Head → Bool
forbids (One b) = false
forbids (Choice b) = false
forbids Nothing = true

-- the literals of the bodies of the rules with such heads, in ascending order, each once
unfoldable pub bodies_where : Frame → Parts → (Head → Bool) → List Lit
bodies_where p g test =
    ascending lit_cmp
    (map (λ (rule : GroundRule). body_lit p g rule.body.0)
    (filter (λ (rule : GroundRule). test rule.head) g.rules))

-- the literal that is joined to an atom, where it is an input
abbrev pub joined_to : ℕ → AtomId × Lit → Option Lit
joined_to a (input, join) = then_some (input.0 == a) join

unfoldable pub joined : Frame → Parts → ℕ → List Lit
joined p g a = filter_map (joined_to a) (zip g.inputs p.joins)

-- the supports of an atom: the joined literal first, then the bodies of its rules
abbrev pub supports : Frame → Parts → ℕ → List Lit
supports p g a = joined p g a ++ bodies_where p g (allows a)

-- the supports that force the atom: all but those that are bodies of choices alone
abbrev pub forcing : Frame → Parts → ℕ → List Lit
forcing p g a = joined p g a ++ bodies_where p g (forces a)

-- {a, -b} for each support b that forces the atom, and then {-a, b1, .., bk} for its supports
unfoldable pub atom_entry : Frame → Parts → ℕ → Entry
atom_entry p g a =
    record {
      kind = Atom p.block (supports p g a);
      clauses = support_clauses (atom_var p a) (forcing p g a) (supports p g a);
    }

unfoldable pub atom_entries : Frame → Parts → List Entry
atom_entries p g = map (atom_entry p g) (range_with_len 1 (length g.atoms))

-- {-b} for the body of each constraint, in the order of these bodies
unfoldable pub constraint_clauses : Frame → Parts → List (List Lit)
constraint_clauses p g = map (λ b. opposite b ∷ []) (bodies_where p g forbids)
