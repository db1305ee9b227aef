-- Every variable of a body is defined by variables before it.
use Rattle.std.proofs.Common.{◌≡◌, ℕ, ◌+◌, ◌<◌, ◌≤◌, Bool, true, false, List, [], ◌∷◌, ◌++◌, map, length, refl, sym, subst, Option, Some, None, inl, inr, arith}
use Rattle.std.specs.Prelude.{All, IfSome, ◌==◌, if◌then◌else◌}
use Rattle.std.specs.List.{enumerate_from, AllByRecursion}
use Rattle.std.proofs.lemmas.List.Elements.{recursion_from_All}
use Rattle.theory_form.specs.declared.literals.Lit.{Lit}
use Rattle.ground_form.specs.declared.bodies.Body.{Body}
use Rattle.ground_form.specs.declared.bodies.GuardUse.{GuardUse}
use Rattle.ground_form.specs.declared.rules.GroundRule.{GroundRule}
use Rattle.ground_form.specs.Programs.{Parts, numbered}
use Rattle.ground_form.specs.Ranges.{IsLiteralOf, IsBodyOf, IsInRange}
use Rattle.theory_build.specs.declared.frames.Frame.{Frame}
use Rattle.theory_build.specs.declared.guards.Guards.{Guards}
use Rattle.theory_build.specs.Entries.{yes, no, signed}
use Rattle.theory_build.specs.Frames.{atom_lit}
use Rattle.theory_build.specs.Groups.{groups_piece}
use Rattle.theory_build.specs.Bodies.{guard_lit, use_lit, only_if, body_lits, lits_if_there, lits_of, rule_bodies, bodies_from, body_entry_at, body_entries}
use Rattle.theory_build.proofs.OrderLemmas.{lits_order}
use Rattle.theory_law.proofs.Membership.{In, in_ascending, in_map}
use Rattle.theory_law.proofs.Places.{numbered_if}
use Rattle.theory_law.proofs.Entries.{IsBefore, AreDefined, defined_append, AreBefore, before_more, lits_more, ascending_before, body_defined}
use Rattle.theory_law.proofs.Pieces.{IsLitBefore, StandBefore, AreGuardsBefore, atoms_before, groups_defined}

-- ---- the literals of a body

before_append : (v : ℕ) (xs ys : List Lit) → AreBefore v xs → AreBefore v ys → AreBefore v (xs ++ ys)
before_append v [] ys h k = k
before_append v (x ∷ xs) ys h k = (h.0, before_append v xs ys h.1 k)

signed_before : (v : ℕ) (positive : Bool) (l : Lit) → IsLitBefore v l → IsLitBefore v (signed positive l)
signed_before v true l lt = lt
signed_before v false l lt = lt

guard_lit_before : (v truth k : ℕ) (guards : Option Guards) → IsBefore v truth → IfSome guards (AreGuardsBefore v) → IsLitBefore v (guard_lit truth k guards)
guard_lit_before v truth k None lt h = lt
guard_lit_before v truth k (Some guards) lt h = go (k == 0) (k == 1)
  where
    go : (b c : Bool) → IsLitBefore v (if b then guards.left else (if c then guards.right else guards.both))
    go true c = h.left
    go false true = h.right
    go false false = h.both

module _ (p : Frame) (guards : List Guards) (n v : ℕ) (stand : StandBefore p n v) (before : AllByRecursion (AreGuardsBefore v) guards) where
  uses_before : (uses : List GuardUse) → AreBefore v (map (use_lit p guards) uses)
  uses_before [] = tt
  uses_before (u ∷ uses) = (signed_before v u.yes (guard_lit p.truth u.guard (numbered guards u.group)) (guard_lit_before v p.truth u.guard (numbered guards u.group) stand.truth (numbered_if (AreGuardsBefore v) guards u.group before)), uses_before uses)

  only_before : (there : Bool) (l : Lit) → IsLitBefore v l → AreBefore v (only_if there l)
  only_before true l lt = (lt, tt)
  only_before false l lt = tt

  body_lits_before : (body : Body) → All (IsLiteralOf n) body.lits → AreBefore v (body_lits p guards body)
  unfolding body_lits
  body_lits_before body h =
      ascending_before v (only_if body.always (yes p.truth) ++ (only_if body.never (no p.truth) ++ (map (use_lit p guards) body.guards ++ map (atom_lit p) body.lits)))
      (before_append v (only_if body.always (yes p.truth)) (only_if body.never (no p.truth) ++ (map (use_lit p guards) body.guards ++ map (atom_lit p) body.lits)) (only_before body.always (yes p.truth) stand.truth)
      (before_append v (only_if body.never (no p.truth)) (map (use_lit p guards) body.guards ++ map (atom_lit p) body.lits) (only_before body.never (no p.truth) stand.truth)
      (before_append v (map (use_lit p guards) body.guards) (map (atom_lit p) body.lits) (uses_before body.guards)
      (atoms_before p n v stand.atoms body.lits (recursion_from_All (IsLiteralOf n) body.lits h)))))

-- ---- the bodies

bodies_defined_from : (v w : ℕ) (lists : List (List Lit)) → 0 < v → v ≤ w → ((lits : List Lit) → In lits lists → AreBefore v lits) → AreDefined w (map body_entry_at (enumerate_from w lists))
bodies_defined_from v w [] some le h = tt
bodies_defined_from v w (lits ∷ lists) some le h = (body_defined w lits (omega arith) (lits_more v w lits le (h lits (inl refl))), bodies_defined_from v (w + 1) lists some (omega arith) (λ l i. h l (inr i)))

module _ (p : Frame) (g : Parts) (range : IsInRange g) (stand : StandBefore p (length g.atoms) p.groups_from) where
  pub bodies_from_at : bodies_from p g ≡ p.groups_from + length (groups_piece p g).entries
  unfolding bodies_from
  bodies_from_at = refl

  pub stand_later : StandBefore p (length g.atoms) (bodies_from p g)
  stand_later = record { atoms = omega (arith, stand.atoms, bodies_from_at); truth = before_more p.groups_from (bodies_from p g) p.truth (omega (arith, bodies_from_at)) stand.truth }

  pub guards_before : AllByRecursion (AreGuardsBefore (bodies_from p g)) (groups_piece p g).name
  guards_before = subst (λ e. AllByRecursion (AreGuardsBefore e) (groups_piece p g).name) (sym bodies_from_at) (groups_defined p g (length g.atoms) stand range.groups).name

  lits_there_before : (body : Option Body) → IfSome body (IsBodyOf (length g.atoms) g.groups) → AreBefore (bodies_from p g) (lits_if_there p (groups_piece p g).name body)
  lits_there_before None h = tt
  lits_there_before (Some body) h = body_lits_before p (groups_piece p g).name (length g.atoms) (bodies_from p g) stand_later guards_before body h.lits

  pub lits_of_before : (b : ℕ) → AreBefore (bodies_from p g) (lits_of p g b)
  unfolding lits_of
  lits_of_before b = lits_there_before (numbered g.bodies b) (numbered_if (IsBodyOf (length g.atoms) g.groups) g.bodies b (recursion_from_All (IsBodyOf (length g.atoms) g.groups) g.bodies range.bodies))

  rule_bodies_before : (lits : List Lit) → In lits (rule_bodies p g) → AreBefore (bodies_from p g) lits
  unfolding rule_bodies
  rule_bodies_before lits i =
      let from = in_map (λ (rule : GroundRule). lits_of p g rule.body.0) lits g.rules (in_ascending lits_order lits (map (λ (rule : GroundRule). lits_of p g rule.body.0) g.rules) i) in
      subst (AreBefore (bodies_from p g)) (sym from.2) (lits_of_before from.0.body.0)

  pub bodies_defined : AreDefined (bodies_from p g) (body_entries p g)
  unfolding body_entries
  bodies_defined = bodies_defined_from (bodies_from p g) (bodies_from p g) (rule_bodies p g) (omega (arith, stand.atoms, bodies_from_at)) (omega arith) rule_bodies_before

  -- the groups and the bodies
  pub rest_defined : AreDefined p.groups_from ((groups_piece p g).entries ++ body_entries p g)
  rest_defined = defined_append p.groups_from (groups_piece p g).entries (body_entries p g) (groups_defined p g (length g.atoms) stand range.groups).entries (subst (λ v. AreDefined v (body_entries p g)) bodies_from_at bodies_defined)
