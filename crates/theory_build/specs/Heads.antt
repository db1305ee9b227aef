-- The rules by their heads.
use Rattle.std.specs.Prelude.{◌≡◌, ℕ, ◌+◌, ◌<◌, Bool, ◌==◌, ◌&&◌, List, [], ◌∷◌, ◌++◌, map, filter, length, slice_index_or}
use Rattle.std.specs.List.{filter_map, zip}
use Rattle.theory_form.specs.declared.literals.Lit.{Lit}
use Rattle.theory_form.specs.declared.rows.VarKind.TheVariants.{Atom}
use Rattle.theory_form.specs.Literals.{lit_cmp}
use Rattle.ground_form.specs.declared.atoms.AtomId.{AtomId}
use Rattle.ground_form.specs.declared.rules.GroundRule.{GroundRule}
use Rattle.ground_form.specs.declared.rules.Head.{Head}
use Rattle.ground_form.specs.Programs.{Parts}
use Rattle.theory_build.specs.declared.entries.Entry.{Entry}
use Rattle.theory_build.specs.declared.frames.Frame.{Frame}
use Rattle.theory_build.specs.declared.heads.Heads.{Heads}
use Rattle.theory_build.specs.declared.heads.Supports.{Supports}
use Rattle.theory_build.specs.Ascending.{ascending}
use Rattle.theory_build.specs.Entries.{support_clauses}
use Rattle.theory_build.specs.Frames.{atom_var}
use Rattle.theory_build.specs.Atoms.{allows, forces, forbids, joined_to}
use Rattle.theory_build.specs.Bodies.{body_lit, only_if}

-- an atom without rules, to which nothing is joined
abbrev pub no_supports : Supports
no_supports = record { joined = []; allowing = []; forcing = [] }

-- the bodies of those of these rules that have such heads, in the order of the rules
abbrev pub bodies_by : Frame → Parts → List GroundRule → (Head → Bool) → List Lit
bodies_by p g rules test = map (λ (rule : GroundRule). body_lit p g rule.body.0) (filter (λ (rule : GroundRule). test rule.head) rules)

-- what supports an atom, of these joins of inputs and these rules
abbrev pub supports_by : Frame → Parts → List (AtomId × Lit) → List GroundRule → ℕ → Supports
supports_by p g joins rules a =
    record { joined = filter_map (joined_to a) joins; allowing = bodies_by p g rules (allows a); forcing = bodies_by p g rules (forces a) }

-- the supports of all atoms, and the bodies of the constraints, of these joins and these rules
pub record HasSupports (p : Frame) (g : Parts) (joins : List (AtomId × Lit)) (rules : List GroundRule) (heads : Heads) : Type 0 where
  pub length_is : length heads.atoms.items ≡ length g.atoms
  pub atoms : (k : ℕ) (d : Supports) → k < length g.atoms → slice_index_or heads.atoms.items k d ≡ supports_by p g joins rules (k + 1)
  pub constraints : heads.constraints.items ≡ bodies_by p g rules forbids

-- the same of all joins
abbrev pub HasHeads : Frame → Parts → List GroundRule → Heads → Type 0
HasHeads p g rules heads = HasSupports p g (zip g.inputs p.joins) rules heads

-- a literal that is joined to this atom more
pub record AddsJoin (old new : Heads) (input : ℕ) (join : Lit) : Type 0 where
  pub length_is : length new.atoms.items ≡ length old.atoms.items
  pub atoms : (k : ℕ) (d : Supports) → k < length old.atoms.items → slice_index_or new.atoms.items k d ≡ (let s = slice_index_or old.atoms.items k d in record s { joined = s.joined ++ only_if (input == k + 1) join })
  pub constraints : new.constraints.items ≡ old.constraints.items

-- the body of a rule more, where the rule has the atom in its head, and where it has and is no choice
abbrev pub with_body : Supports → Bool → Bool → Lit → Supports
with_body s allowed forced body =
    record s { allowing = s.allowing ++ only_if allowed body; forcing = s.forcing ++ only_if forced body }

-- the body of a rule for this atom more
pub record AddsAtom (old new : Heads) (atom : ℕ) (is_forcing : Bool) (body : Lit) : Type 0 where
  pub length_is : length new.atoms.items ≡ length old.atoms.items
  pub atoms : (k : ℕ) (d : Supports) → k < length old.atoms.items → slice_index_or new.atoms.items k d ≡ with_body (slice_index_or old.atoms.items k d) (atom == k + 1) (atom == k + 1 && is_forcing) body
  pub constraints : new.constraints.items ≡ old.constraints.items

-- the body of a rule with this head more
pub record AddsRule (old new : Heads) (head : Head) (body : Lit) : Type 0 where
  pub length_is : length new.atoms.items ≡ length old.atoms.items
  pub atoms : (k : ℕ) (d : Supports) → k < length old.atoms.items → slice_index_or new.atoms.items k d ≡ with_body (slice_index_or old.atoms.items k d) (allows (k + 1) head) (forces (k + 1) head) body
  pub constraints : new.constraints.items ≡ old.constraints.items ++ only_if (forbids head) body

-- the variable of an atom with these supports
unfoldable pub entry_by : Frame → ℕ → Supports → Entry
entry_by p a s =
    record {
      kind = Atom p.block (s.joined ++ ascending lit_cmp s.allowing);
      clauses = support_clauses (atom_var p a) (s.joined ++ ascending lit_cmp s.forcing) (s.joined ++ ascending lit_cmp s.allowing);
    }
