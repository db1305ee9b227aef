-- The base theories of small programs, reckoned by the definitions.
use Rattle.std.proofs.Common.{◌≡◌, ℕ, ℤ, pos, negsuc, neg_ℤ, true, false, List, [], ◌∷◌, ◌++◌, Some, None, refl, map}
use Rattle.theory_form.specs.declared.literals.Lit.{Lit}
use Rattle.theory_form.specs.declared.rows.VarKind.TheVariants.{Atom, Sum, Body as BodyOf, Search, Other}
use Rattle.theory_form.specs.Theories.{TheoryView}
use Rattle.theory_form.specs.declared.literals.Var.{Var}
use Rattle.ground_form.specs.declared.bodies.Body.{Body}
use Rattle.ground_form.specs.declared.groups.GroupGuard.TheVariants.{Compare, Fixed}
use Rattle.ground_form.specs.declared.groups.GuardRel.TheVariants.{Ge, Eq}
use Rattle.ground_form.specs.declared.rules.GroundRule.{GroundRule}
use Rattle.ground_form.specs.declared.rules.Head.TheVariants.{One, Choice, Nothing}
use Rattle.ground_form.specs.Programs.{Parts}
use Rattle.theory_build.specs.Ascending.{ascending, place_in}
use Rattle.theory_build.specs.Entries.{yes, no}
use Rattle.theory_build.specs.Groups.{condition_piece, row_piece, guard_piece, needs_both, group_piece, groups_piece}
use Rattle.theory_build.specs.Bodies.{body_lits, lits_of, rule_bodies, bodies_from, body_lit, body_entries}
use Rattle.theory_build.specs.Atoms.{bodies_where, joined, atom_entry, atom_entries, constraint_clauses}
use Rattle.theory_build.specs.Completion.{base_entries, base_theory, base_atoms, later_entries, with_program}
use Rattle.theory_build.specs.Exclusion.{exclusion, search_var}

abbrev one : ℕ → ℕ → GroundRule
one a b = record { head = One (record { 0 = a }); body = record { 0 = b } }

abbrev choice : ℕ → ℕ → GroundRule
choice a b = record { head = Choice (record { 0 = a }); body = record { 0 = b } }

abbrev constraint : ℕ → GroundRule
constraint b = record { head = Nothing; body = record { 0 = b } }

abbrev plain : List ℤ → Body
plain lits = record { lits = lits; guards = []; always = false; never = false }

-- {a; b}. :- not a, not b.
abbrev pair : Parts
pair = record {
  atoms = (record { 0 = 0 }) ∷ (record { 0 = 1 }) ∷ [];
  rules = choice 1 1 ∷ choice 2 1 ∷ constraint 2 ∷ [];
  bodies = plain [] ∷ plain (negsuc 0 ∷ negsuc 1 ∷ []) ∷ [];
  groups = [];
  inputs = [];
}

pair_theory : base_theory pair ≡ record {
  variables = Atom 0 (yes 4 ∷ []) ∷ Atom 0 (yes 4 ∷ []) ∷ Other ∷ BodyOf [] ∷ BodyOf (no 1 ∷ no 2 ∷ []) ∷ Search ∷ [];
  clauses = map (λ c. Some c) (
      (no 1 ∷ yes 4 ∷ [])
      ∷ (no 2 ∷ yes 4 ∷ [])
      ∷ (yes 3 ∷ [])
      ∷ (yes 4 ∷ [])
      ∷ (no 1 ∷ no 5 ∷ [])
      ∷ (no 2 ∷ no 5 ∷ [])
      ∷ (yes 1 ∷ yes 2 ∷ yes 5 ∷ [])
      ∷ (no 5 ∷ []) ∷ []);
  blocks = 1;
  reserved = 0;
}
unfolding ascending place_in condition_piece row_piece guard_piece needs_both group_piece groups_piece body_lits lits_of rule_bodies bodies_from body_lit body_entries bodies_where joined atom_entry atom_entries constraint_clauses base_entries base_theory
pair_theory = refl

abbrev term : ℤ → ℕ → ℤ × Var
term w v = (w, record { 0 = v })

-- a :- b. b :- a. b :- c. {c}. :- c.
abbrev loop : Parts
loop = record {
  atoms = (record { 0 = 0 }) ∷ (record { 0 = 1 }) ∷ (record { 0 = 2 }) ∷ [];
  rules = one 1 3 ∷ one 2 2 ∷ one 2 4 ∷ choice 3 1 ∷ constraint 4 ∷ [];
  bodies = plain [] ∷ plain (pos 1 ∷ []) ∷ plain (pos 2 ∷ []) ∷ plain (pos 3 ∷ []) ∷ [];
  groups = [];
  inputs = [];
}

loop_clauses : (base_theory loop).clauses ≡ map (λ c. Some c) (
    (yes 1 ∷ no 7 ∷ [])
    ∷ (no 1 ∷ yes 7 ∷ [])
    ∷ (yes 2 ∷ no 6 ∷ [])
    ∷ (yes 2 ∷ no 8 ∷ [])
    ∷ (no 2 ∷ yes 6 ∷ yes 8 ∷ [])
    ∷ (no 3 ∷ yes 5 ∷ [])
    ∷ (yes 4 ∷ [])
    ∷ (yes 5 ∷ [])
    ∷ (yes 1 ∷ no 6 ∷ [])
    ∷ (no 1 ∷ yes 6 ∷ [])
    ∷ (yes 2 ∷ no 7 ∷ [])
    ∷ (no 2 ∷ yes 7 ∷ [])
    ∷ (yes 3 ∷ no 8 ∷ [])
    ∷ (no 3 ∷ yes 8 ∷ [])
    ∷ (no 8 ∷ []) ∷ [])
unfolding ascending place_in condition_piece row_piece guard_piece needs_both group_piece groups_piece body_lits lits_of rule_bodies bodies_from body_lit body_entries bodies_where joined atom_entry atom_entries constraint_clauses base_entries base_theory
loop_clauses = refl

-- {b; c}. a :- not 1 <= #sum{2 : b, c; 3 : c} = 3.
abbrev sums : Parts
sums = record {
  atoms = (record { 0 = 0 }) ∷ (record { 0 = 1 }) ∷ (record { 0 = 2 }) ∷ [];
  rules = choice 2 1 ∷ choice 3 1 ∷ one 1 2 ∷ [];
  bodies = plain [] ∷ (record { lits = []; guards = (record { group = 1; guard = 2; yes = false }) ∷ []; always = false; never = false }) ∷ [];
  groups = (record {
    rows = (record { weight = Some (pos 2); conditions = (pos 3 ∷ pos 2 ∷ pos 3 ∷ []) ∷ [] })
        ∷ (record { weight = Some (pos 3); conditions = (pos 3 ∷ pos 3 ∷ []) ∷ [] }) ∷ [];
    left = Some (Compare Ge (pos 1));
    right = Some (Compare Eq (pos 3));
  }) ∷ [];
  inputs = [];
}

sums_theory : base_theory sums ≡ record {
  variables =
      Atom 0 (yes 14 ∷ []) ∷ Atom 0 (yes 13 ∷ []) ∷ Atom 0 (yes 13 ∷ []) ∷ Other
      ∷ Other ∷ Other ∷ Other
      ∷ Sum (term (pos 2) 6 ∷ term (pos 3) 7 ∷ []) (pos 1)
      ∷ Sum (term (pos 2) 6 ∷ term (pos 3) 7 ∷ []) (pos 3)
      ∷ Sum (term (pos 2) 6 ∷ term (pos 3) 7 ∷ []) (pos 4)
      ∷ Other ∷ Other
      ∷ BodyOf [] ∷ BodyOf (no 12 ∷ []) ∷ Search ∷ [];
  clauses = map (λ c. Some c) (
      (yes 1 ∷ no 14 ∷ []) ∷ (no 1 ∷ yes 14 ∷ [])
      ∷ (no 2 ∷ yes 13 ∷ [])
      ∷ (no 3 ∷ yes 13 ∷ [])
      ∷ (yes 4 ∷ [])
      ∷ (yes 2 ∷ no 5 ∷ []) ∷ (yes 3 ∷ no 5 ∷ []) ∷ (no 2 ∷ no 3 ∷ yes 5 ∷ [])
      ∷ (no 5 ∷ yes 6 ∷ []) ∷ (yes 5 ∷ no 6 ∷ [])
      ∷ (no 3 ∷ yes 7 ∷ []) ∷ (yes 3 ∷ no 7 ∷ [])
      ∷ (yes 9 ∷ no 11 ∷ []) ∷ (no 10 ∷ no 11 ∷ []) ∷ (no 9 ∷ yes 10 ∷ yes 11 ∷ [])
      ∷ (yes 8 ∷ no 12 ∷ []) ∷ (yes 11 ∷ no 12 ∷ []) ∷ (no 8 ∷ no 11 ∷ yes 12 ∷ [])
      ∷ (yes 13 ∷ [])
      ∷ (no 12 ∷ no 14 ∷ []) ∷ (yes 12 ∷ yes 14 ∷ []) ∷ []);
  blocks = 1;
  reserved = 0;
}
unfolding ascending place_in condition_piece row_piece guard_piece needs_both group_piece groups_piece body_lits lits_of rule_bodies bodies_from body_lit body_entries bodies_where joined atom_entry atom_entries constraint_clauses base_entries base_theory
sums_theory = refl

-- p :- q. Here q is an input.
abbrev later : Parts
later = record {
  atoms = (record { 0 = 0 }) ∷ (record { 0 = 1 }) ∷ [];
  rules = one 1 1 ∷ [];
  bodies = plain (pos 2 ∷ []) ∷ [];
  groups = [];
  inputs = (record { 0 = 2 }) ∷ [];
}

joined_theory : with_program (base_theory pair) later (no 1 ∷ []) ≡ record (base_theory pair) {
  variables = (base_theory pair).variables ++ Atom 1 (yes 9 ∷ []) ∷ Atom 1 (no 1 ∷ []) ∷ BodyOf (yes 8 ∷ []) ∷ [];
  clauses = (base_theory pair).clauses ++ map (λ c. Some c) (
      (yes 7 ∷ no 9 ∷ []) ∷ (no 7 ∷ yes 9 ∷ [])
      ∷ (yes 1 ∷ yes 8 ∷ []) ∷ (no 1 ∷ no 8 ∷ [])
      ∷ (yes 8 ∷ no 9 ∷ []) ∷ (no 8 ∷ yes 9 ∷ []) ∷ []);
  blocks = 2;
}
unfolding ascending place_in condition_piece row_piece guard_piece needs_both group_piece groups_piece body_lits lits_of rule_bodies bodies_from body_lit body_entries bodies_where joined atom_entry atom_entries constraint_clauses base_entries base_theory base_atoms later_entries with_program
joined_theory = refl

-- the set of a alone
exclusion_of_a : exclusion (base_theory pair) ((record { 0 = 1 }) ∷ []) ≡ no 1 ∷ yes 2 ∷ no 6 ∷ []
unfolding ascending place_in condition_piece row_piece guard_piece needs_both group_piece groups_piece body_lits lits_of rule_bodies bodies_from body_lit body_entries bodies_where joined atom_entry atom_entries constraint_clauses base_entries base_theory base_atoms search_var exclusion
exclusion_of_a = refl
