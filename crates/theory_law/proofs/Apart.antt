-- The positive atoms of a body, read off its literals: the literals of guards are over no atoms.
use Rattle.std.proofs.Common.{◌≡◌, ℕ, ◌+◌, ◌≤◌, Bool, true, false, ◌||◌, List, [], ◌∷◌, ◌++◌, map, length, refl, sym, ap, ◌∙◌, subst, Option, Some, None, inl, inr, arith}
use Rattle.std.specs.Prelude.{ℤ, pos, negsuc, ◌⊎◌, IfSome, ◌==◌, if◌then◌else◌}
use Rattle.std.specs.List.{list_any, filter_map, enumerate_from, AllByRecursion}
use Rattle.std.proofs.lemmas.Bool.{and_right}
use Rattle.std.proofs.lemmas.List.Folds.{list_any-append}
use Rattle.theory_form.specs.declared.literals.Lit.{Lit}
use Rattle.theory_form.specs.declared.literals.Var.{Var}
use Rattle.theory_model.specs.Loops.{is_positive_in}
use Rattle.ground_form.specs.declared.bodies.Body.{Body}
use Rattle.ground_form.specs.declared.bodies.GuardUse.{GuardUse}
use Rattle.ground_form.specs.declared.groups.Group.{Group}
use Rattle.ground_form.specs.declared.groups.GroupGuard.{GroupGuard}
use Rattle.ground_form.specs.declared.groups.GroupGuard.TheVariants.{Compare, Fixed}
use Rattle.ground_form.specs.declared.groups.GuardRel.{GuardRel}
use Rattle.ground_form.specs.declared.groups.GuardRel.TheVariants.{Eq, Ne, Lt, Le, Gt, Ge}
use Rattle.ground_form.specs.Programs.{Parts, numbered}
use Rattle.ground_form.specs.Truth.{literals_in}
use Rattle.ground_form.specs.Reduct.{positive_of, positives}
use Rattle.theory_build.specs.declared.frames.Frame.{Frame}
use Rattle.theory_build.specs.declared.guards.Guards.{Guards}
use Rattle.theory_build.specs.Entries.{yes, no, signed}
use Rattle.theory_build.specs.Pieces.{Piece, in_turn}
use Rattle.theory_build.specs.Frames.{atom_var, atom_lit}
use Rattle.theory_build.specs.Groups.{compare_piece, guard_piece, both_piece, group_piece, group_piece_at, groups_piece, needs_both}
use Rattle.theory_build.specs.Bodies.{guard_lit, use_lit, only_if, body_lits, lits_if_there, lits_of}
use Rattle.theory_build.proofs.OrderLemmas.{lit_order}
use Rattle.theory_law.proofs.Membership.{any_ascending}
use Rattle.theory_law.proofs.Places.{numbered_if}
use Rattle.theory_law.proofs.Pieces.{IsGroupSplit, group_split}

-- the literal is over the variable that is true, or over one from here on
abbrev pub IsOff : ℕ → ℕ → Lit → Type 0
IsOff truth least l = (l.var.0 ≡ truth) ⊎ (least ≤ l.var.0)

pub record AreOff (truth least : ℕ) (guards : Guards) : Type 0 where
  pub left : IsOff truth least guards.left
  pub right : IsOff truth least guards.right
  pub both : IsOff truth least guards.both

module _ {A N : Type 0} (piece : ℕ → A → Piece N) (R : N → Type 0) (least : ℕ) (each : (v : ℕ) (x : A) → least ≤ v → R (piece v x).name) where
  in_turn_names : (v : ℕ) (xs : List A) → least ≤ v → AllByRecursion R (in_turn piece v xs).name
  in_turn_names v [] le = tt
  in_turn_names v (x ∷ xs) le = (each v x le, in_turn_names (v + length (piece v x).entries) xs (omega arith))

compare_off : (truth least : ℕ) (terms : List (ℤ × Var)) (v : ℕ) (rel : GuardRel) (k : ℤ) → least ≤ v → IsOff truth least (compare_piece terms v rel k).name
compare_off truth least terms v Ge k le = inr le
compare_off truth least terms v Gt k le = inr le
compare_off truth least terms v Lt k le = inr le
compare_off truth least terms v Le k le = inr le
compare_off truth least terms v Eq k le = inr (omega arith)
compare_off truth least terms v Ne k le = inr (omega arith)

guard_off : (truth least : ℕ) (terms : List (ℤ × Var)) (v : ℕ) (guard : Option GroupGuard) → least ≤ v → IsOff truth least (guard_piece truth terms v guard).name
unfolding guard_piece
guard_off truth least terms v None le = inl refl
guard_off truth least terms v (Some (Fixed holds)) le = inl refl
guard_off truth least terms v (Some (Compare rel k)) le = compare_off truth least terms v rel k le

both_off : (truth least : ℕ) (needed : Bool) (v : ℕ) (left right : Lit) → least ≤ v → IsOff truth least (both_piece truth needed v left right).name
both_off truth least true v left right le = inr le
both_off truth least false v left right le = inl refl

group_off : (p : Frame) (least : ℕ) (needed : Bool) (v : ℕ) (group : Group) → least ≤ v → AreOff p.truth least (group_piece p needed v group).name
group_off p least needed v group le =
    let s : IsGroupSplit p needed v group = group_split p needed v group in
    subst (AreOff p.truth least) (sym s.name_is) (record {
      left = subst (λ (q : Piece Lit). IsOff p.truth least q.name) (sym s.left_is) (guard_off p.truth least s.terms s.left_from group.left (omega (arith, s.left_at)));
      right = subst (λ (q : Piece Lit). IsOff p.truth least q.name) (sym s.right_is) (guard_off p.truth least s.terms s.right_from group.right (omega (arith, s.left_at, s.right_at)));
      both = subst (λ (q : Piece Lit). IsOff p.truth least q.name) (sym s.both_is) (both_off p.truth least needed s.both_from s.left.name s.right.name (omega (arith, s.left_at, s.right_at, s.both_at)));
    })

groups_off : (p : Frame) (g : Parts) → AllByRecursion (AreOff p.truth p.groups_from) (groups_piece p g).name
unfolding groups_piece
groups_off p g = in_turn_names (group_piece_at p g) (AreOff p.truth p.groups_from) p.groups_from (λ v at le. group_off p p.groups_from (needs_both g at.0) v at.1 le) p.groups_from (enumerate_from 1 g.groups) (omega arith)

guard_lit_off : (truth least k : ℕ) (guards : Option Guards) → IfSome guards (AreOff truth least) → IsOff truth least (guard_lit truth k guards)
guard_lit_off truth least k None h = inl refl
guard_lit_off truth least k (Some guards) h = go (k == 0) (k == 1)
  where
    go : (b c : Bool) → IsOff truth least (if b then guards.left else (if c then guards.right else guards.both))
    go true c = h.left
    go false true = h.right
    go false false = h.both

signed_off : (truth least : ℕ) (positive : Bool) (l : Lit) → IsOff truth least l → IsOff truth least (signed positive l)
signed_off truth least true l h = h
signed_off truth least false l h = h

-- ---- the literals of a body that are positive over members of u

-- u has neither the variable that is true, nor one of the groups' variables or one behind them
pub record IsApart (p : Frame) (u : ℕ → Bool) : Type 0 where
  pub truth : u p.truth ≡ false
  pub later : (v : ℕ) → p.groups_from ≤ v → u v ≡ false

module _ (p : Frame) (u : ℕ → Bool) (apart : IsApart p u) where
  off_positive : (l : Lit) → IsOff p.truth p.groups_from l → is_positive_in u l ≡ false
  off_positive l (inl e) = and_right l.yes (u l.var.0) (ap u e ∙ apart.truth)
  off_positive l (inr le) = and_right l.yes (u l.var.0) (apart.later l.var.0 le)

  only_positive : (there : Bool) (l : Lit) → is_positive_in u l ≡ false → list_any (is_positive_in u) (only_if there l) ≡ false
  only_positive true l e = ap (λ b. b || false) e
  only_positive false l e = refl

  uses_positive : (guards : List Guards) → AllByRecursion (AreOff p.truth p.groups_from) guards → (uses : List GuardUse) → list_any (is_positive_in u) (map (use_lit p guards) uses) ≡ false
  uses_positive guards h [] = refl
  uses_positive guards h (k ∷ uses) =
      ap (λ b. b || list_any (is_positive_in u) (map (use_lit p guards) uses)) (off_positive (use_lit p guards k) (signed_off p.truth p.groups_from k.yes (guard_lit p.truth k.guard (numbered guards k.group)) (guard_lit_off p.truth p.groups_from k.guard (numbered guards k.group) (numbered_if (AreOff p.truth p.groups_from) guards k.group h))))
      ∙ uses_positive guards h uses

  atoms_positive : (lits : List ℤ) → list_any (is_positive_in u) (map (atom_lit p) lits) ≡ list_any (λ a. u (atom_var p a)) (filter_map positive_of lits)
  atoms_positive [] = refl
  atoms_positive (pos a ∷ lits) = ap (λ b. u (atom_var p a) || b) (atoms_positive lits)
  atoms_positive (negsuc k ∷ lits) = atoms_positive lits

  body_positive : (guards : List Guards) → AllByRecursion (AreOff p.truth p.groups_from) guards → (body : Body) → list_any (is_positive_in u) (body_lits p guards body) ≡ list_any (λ a. u (atom_var p a)) (filter_map positive_of body.lits)
  unfolding body_lits
  body_positive guards h body =
      let first : List Lit = only_if body.always (yes p.truth) in
      let second : List Lit = only_if body.never (no p.truth) in
      let uses : List Lit = map (use_lit p guards) body.guards in
      let atoms : List Lit = map (atom_lit p) body.lits in
      any_ascending lit_order (is_positive_in u) (first ++ (second ++ (uses ++ atoms)))
      ∙ (list_any-append (is_positive_in u) first (second ++ (uses ++ atoms))
      ∙ (ap (λ b. b || list_any (is_positive_in u) (second ++ (uses ++ atoms))) (only_positive body.always (yes p.truth) apart.truth)
      ∙ (list_any-append (is_positive_in u) second (uses ++ atoms)
      ∙ (ap (λ b. b || list_any (is_positive_in u) (uses ++ atoms)) (only_positive body.never (no p.truth) refl)
      ∙ (list_any-append (is_positive_in u) uses atoms
      ∙ (ap (λ b. b || list_any (is_positive_in u) atoms) (uses_positive guards h body.guards)
      ∙ atoms_positive body.lits))))))

  there_positive : (guards : List Guards) → AllByRecursion (AreOff p.truth p.groups_from) guards → (body : Option Body) → list_any (is_positive_in u) (lits_if_there p guards body) ≡ list_any (λ a. u (atom_var p a)) (filter_map positive_of (literals_in body))
  there_positive guards h None = refl
  there_positive guards h (Some body) = body_positive guards h body

  pub lits_positive : (g : Parts) (b : ℕ) → list_any (is_positive_in u) (lits_of p g b) ≡ list_any (λ a. u (atom_var p a)) (positives g b)
  unfolding lits_of
  lits_positive g b = there_positive (groups_piece p g).name (groups_off p g) (numbered g.bodies b)
