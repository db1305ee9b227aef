-- The variables of bodies have by f the values that the bodies have in x.
use Rattle.std.proofs.Common.{◌≡◌, ℕ, zero, suc, ◌+◌, Bool, true, false, not, ◌&&◌, List, [], ◌∷◌, ◌++◌, map, length, refl, sym, ap, ◌∙◌, subst, Option, Some, None, inl, inr, arith}
use Rattle.std.specs.Prelude.{ℤ, IsTrue, IsSomeAnd, is_some, slice_get, ◌==◌, if◌then◌else◌}
use Rattle.std.specs.Bool.{beq}
use Rattle.std.specs.List.{list_all, enumerate_from, AllByRecursion, AllZip}
use Rattle.std.proofs.lemmas.Bool.{and_from, false≢true, eq-eqb}
use Rattle.std.proofs.lemmas.List.Elements.{recursion_from_All}
use Rattle.std.proofs.lemmas.List.Folds.{list_all-append}
use Rattle.theory_form.specs.declared.literals.Lit.{Lit}
use Rattle.theory_model.specs.Truth.{literal_true as lit_true, conjunction_true}
use Rattle.ground_form.specs.declared.bodies.Body.{Body}
use Rattle.ground_form.specs.declared.bodies.GuardUse.{GuardUse}
use Rattle.ground_form.specs.declared.groups.Group.{Group}
use Rattle.ground_form.specs.declared.rules.GroundRule.{GroundRule}
use Rattle.ground_form.specs.Programs.{Parts, numbered}
use Rattle.ground_form.specs.Truth.{literals_true, rows_sum, guards_hold, guard_holds_if_there, group_true_if_there, guard_true, guards_true, guards_in, literals_in, body_true}
use Rattle.ground_form.specs.Ranges.{IsNumberOf, IsLiteralOf, has_guard, IsGuardUseOf, IsBodyOf, IsGroupOf, IsInRange}
use Rattle.theory_build.specs.declared.frames.Frame.{Frame}
use Rattle.theory_build.specs.declared.guards.Guards.{Guards}
use Rattle.theory_build.specs.Ascending.{place_in}
use Rattle.theory_build.specs.Entries.{yes, no, signed}
use Rattle.theory_build.specs.Frames.{atom_lit}
use Rattle.theory_build.specs.Groups.{asks_for_both, needs_both, group_piece_at, groups_piece}
use Rattle.theory_build.specs.Bodies.{guard_lit, use_lit, only_if, body_lits, lits_if_there, lits_of, rule_bodies, bodies_from, body_lit, body_entry_at, body_entries}
use Rattle.theory_build.proofs.OrderLemmas.{lit_order, lits_order}
use Rattle.theory_law.proofs.Membership.{In, any_in, all_ascending, ascended_in, mapped_in}
use Rattle.theory_law.proofs.Places.{numbered_all, numbered_in, numbered_there, zip_numbered, place_of}
use Rattle.theory_law.proofs.Clauses.{beq_yes, beq_no, opposite_true}
use Rattle.theory_law.proofs.Entries.{AreEntriesTrue, true_split, body_says}
use Rattle.theory_law.proofs.GroupValues.{Fits, GuardsMean, in_turn_means, group_means, atoms_mean}

-- ---- uses of guards

signed_means : (f : ℕ → Bool) (positive : Bool) (l : Lit) → lit_true f (signed positive l) ≡ beq positive (lit_true f l)
signed_means f true l = beq_is (lit_true f l)
  where
    beq_is : (p : Bool) → p ≡ beq true p
    beq_is true = refl
    beq_is false = refl
signed_means f false l = opposite_true f l ∙ beq_not (lit_true f l)
  where
    beq_not : (p : Bool) → not p ≡ beq false p
    beq_not true = refl
    beq_not false = refl

-- a guard that the group has is 0, 1 or 2, and its literal means that it holds
guard_lit_means : (f : ℕ → Bool) (truth k : ℕ) (sum : ℤ) (needed : Bool) (group : Group) (guards : Guards) → GuardsMean f needed sum group guards → IsTrue (has_guard k group) → ((k == 2) ≡ true → needed ≡ true) → lit_true f (guard_lit truth k (Some guards)) ≡ guards_hold sum k group
guard_lit_means f truth k sum needed group guards m there asks = go (k == 0) (k == 1) (k == 2) there asks
  where
    go : (a b c : Bool) → IsTrue (if a then is_some group.left else if b then is_some group.right else if c then is_some group.left && is_some group.right else false) → (c ≡ true → needed ≡ true)
        → lit_true f (if a then guards.left else (if b then guards.right else guards.both)) ≡ (if a then guard_holds_if_there sum group.left else if b then guard_holds_if_there sum group.right else (guard_holds_if_there sum group.left && guard_holds_if_there sum group.right))
    go true b c h e = m.left
    go false true c h e = m.right
    go false false true h e = m.both (e refl)
    go false false false h e = absurd (false≢true h)

module _ (p : Frame) (g : Parts) (f x : ℕ → Bool) (range : IsInRange g) (fits : Fits p (length g.atoms) f x) (groups : AreEntriesTrue f p.groups_from (groups_piece p g).entries) where
  abbrev MeansAt : ℕ × Group → Guards → Type 0
  MeansAt at guards = GuardsMean f (needs_both g at.0) (rows_sum x at.1.rows) at.1 guards

  in_range_from : (k : ℕ) (gs : List Group) → AllByRecursion (IsGroupOf (length g.atoms)) gs → AllByRecursion (λ (at : ℕ × Group). IsGroupOf (length g.atoms) at.1) (enumerate_from k gs)
  in_range_from k [] h = tt
  in_range_from k (group ∷ gs) h = (h.0, in_range_from (k + 1) gs h.1)

  groups_mean : AllZip MeansAt (enumerate_from 1 g.groups) (groups_piece p g).name
  unfolding groups_piece
  groups_mean =
      in_turn_means (group_piece_at p g) MeansAt f (λ (at : ℕ × Group). IsGroupOf (length g.atoms) at.1)
      (λ v at r t. group_means p (length g.atoms) f x fits (needs_both g at.0) v at.1 r.rows t)
      p.groups_from (enumerate_from 1 g.groups) (in_range_from 1 g.groups (recursion_from_All (IsGroupOf (length g.atoms)) g.groups range.groups)) groups

  use_means : (u : GuardUse) → IsGuardUseOf g.groups u → ((u.guard == 2) ≡ true → needs_both g u.group ≡ true) → lit_true f (use_lit p (groups_piece p g).name u) ≡ guard_true g.groups x u
  use_means u there asks =
      signed_means f u.yes (guard_lit p.truth u.guard (numbered (groups_piece p g).name u.group))
      ∙ ap (beq u.yes) (go (numbered g.groups u.group) refl there)
    where
      go : (o : Option Group) → numbered g.groups u.group ≡ o → IsSomeAnd o (λ group. IsTrue (has_guard u.guard group)) → lit_true f (guard_lit p.truth u.guard (numbered (groups_piece p g).name u.group)) ≡ group_true_if_there x u.guard o
      go None e h = absurd h
      go (Some group) e h =
          let beside = zip_numbered MeansAt g.groups (groups_piece p g).name groups_mean u.group group e in
          ap (λ o. lit_true f (guard_lit p.truth u.guard o)) beside.1
          ∙ guard_lit_means f p.truth u.guard (rows_sum x group.rows) (needs_both g u.group) group beside.0 beside.2 h asks

  -- ---- bodies

  needed_by : (body : Body) → In body g.bodies → (u : GuardUse) → In u body.guards → (u.guard == 2) ≡ true → needs_both g u.group ≡ true
  unfolding needs_both
  needed_by body i u j e =
      any_in (asks_for_both u.group) body g.bodies i
      (any_in (λ (v : GuardUse). v.group == u.group && v.guard == 2) u body.guards j (and_from (u.group == u.group) (u.guard == 2) (eq-eqb u.group u.group refl) e))

  uses_mean : (uses : List GuardUse) → AllByRecursion (IsGuardUseOf g.groups) uses → ((u : GuardUse) → In u uses → (u.guard == 2) ≡ true → needs_both g u.group ≡ true) → conjunction_true f (map (use_lit p (groups_piece p g).name) uses) ≡ list_all (guard_true g.groups x) uses
  uses_mean [] r asks = refl
  uses_mean (u ∷ uses) r asks = rw (use_means u r.0 (asks u (inl refl)), uses_mean uses r.1 (λ v i. asks v (inr i))) refl

  always_means : (there : Bool) → conjunction_true f (only_if there (yes p.truth)) ≡ true
  always_means true = ap (λ b. b && true) (beq_yes (f p.truth) ∙ fits.truth)
  always_means false = refl

  never_means : (there : Bool) → conjunction_true f (only_if there (no p.truth)) ≡ not there
  never_means true = ap (λ b. b && true) (beq_no (f p.truth) ∙ ap not fits.truth)
  never_means false = refl

  body_lits_mean : (body : Body) → In body g.bodies → IsBodyOf (length g.atoms) g.groups body → conjunction_true f (body_lits p (groups_piece p g).name body) ≡ (guards_true g.groups x body && literals_true x body.lits)
  unfolding body_lits
  body_lits_mean body i r =
      let guards : List Guards = (groups_piece p g).name in
      let first : List Lit = only_if body.always (yes p.truth) in
      let second : List Lit = only_if body.never (no p.truth) in
      let uses : List Lit = map (use_lit p guards) body.guards in
      let atoms : List Lit = map (atom_lit p) body.lits in
      all_ascending lit_order (lit_true f) (first ++ (second ++ (uses ++ atoms)))
      ∙ (list_all-append (lit_true f) first (second ++ (uses ++ atoms))
      ∙ (ap (λ b. b && conjunction_true f (second ++ (uses ++ atoms))) (always_means body.always)
      ∙ (list_all-append (lit_true f) second (uses ++ atoms)
      ∙ (ap (λ b. b && conjunction_true f (uses ++ atoms)) (never_means body.never)
      ∙ (ap (λ b. not body.never && b) (list_all-append (lit_true f) uses atoms
      ∙ (rw (
        uses_mean body.guards (recursion_from_All (IsGuardUseOf g.groups) body.guards r.guards) (needed_by body i),
        atoms_mean p (length g.atoms) f x fits body.lits (recursion_from_All (IsLiteralOf (length g.atoms)) body.lits r.lits),
      ) refl))
      ∙ and_assoc (not body.never) (list_all (guard_true g.groups x) body.guards) (literals_true x body.lits))))))
    where
      and_assoc : (a b c : Bool) → (a && (b && c)) ≡ ((a && b) && c)
      and_assoc true b c = refl
      and_assoc false b c = refl

  pub lits_of_mean : (b : ℕ) → IsNumberOf (length g.bodies) b → conjunction_true f (lits_of p g b) ≡ body_true g x b
  unfolding lits_of
  lits_of_mean b r =
      let found = numbered_there g.bodies b r in
      let body : Body = found.0 in
      let is_body : IsBodyOf (length g.atoms) g.groups body = numbered_all (IsBodyOf (length g.atoms) g.groups) g.bodies b body (recursion_from_All (IsBodyOf (length g.atoms) g.groups) g.bodies range.bodies) found.1 in
      subst (λ o. conjunction_true f (lits_if_there p (groups_piece p g).name o) ≡ (guards_in g.groups x o && literals_true x (literals_in o))) (sym found.1)
      (body_lits_mean body (numbered_in g.bodies b body found.1) is_body)

-- ---- the variable of a body

bodies_true_at : (f : ℕ → Bool) (w : ℕ) (lists : List (List Lit)) → AreEntriesTrue f w (map body_entry_at (enumerate_from w lists)) → (k : ℕ) (lits : List Lit) → slice_get lists k ≡ Some lits → f (w + k) ≡ conjunction_true f lits
bodies_true_at f w [] t k lits e = absurd (cc)
bodies_true_at f w (l ∷ lists) t zero lits e =
    let same : l ≡ lits = cc in let at : w ≡ w + 0 = omega arith in
    subst (λ n. f n ≡ conjunction_true f lits) at (subst (λ m. f w ≡ conjunction_true f m) same (body_says f w l t.0))
bodies_true_at f w (l ∷ lists) t (suc k) lits e =
    let at : (w + 1) + k ≡ w + suc k = omega arith in
    subst (λ n. f n ≡ conjunction_true f lits) at (bodies_true_at f (w + 1) lists t.1 k lits e)

-- the list of literals of a rule's body is one of the lists that have variables
pub rule_body_in : (p : Frame) (g : Parts) (rule : GroundRule) → In rule g.rules → In (lits_of p g rule.body.0) (rule_bodies p g)
unfolding rule_bodies
rule_body_in p g rule i = ascended_in lits_order (lits_of p g rule.body.0) (map (λ (r : GroundRule). lits_of p g r.body.0) g.rules) (mapped_in (λ (r : GroundRule). lits_of p g r.body.0) rule g.rules i)

-- the literal of a rule's body is true by f exactly where the body is true in x
pub body_lit_means : (p : Frame) (g : Parts) (f x : ℕ → Bool) → IsInRange g → Fits p (length g.atoms) f x → AreEntriesTrue f p.groups_from ((groups_piece p g).entries ++ body_entries p g) → (rule : GroundRule) → In rule g.rules → IsNumberOf (length g.bodies) rule.body.0 → lit_true f (body_lit p g rule.body.0) ≡ body_true g x rule.body.0
unfolding body_lit body_entries bodies_from
body_lit_means p g f x range fits t rule i r =
    let b : ℕ = rule.body.0 in
    let parts = true_split f p.groups_from (groups_piece p g).entries (body_entries p g) t in
    let place = place_of (rule_bodies p g) (lits_of p g b) (rule_body_in p g rule i) in
    beq_yes (f (bodies_from p g + place_in (rule_bodies p g) (lits_of p g b)))
    ∙ (bodies_true_at f (bodies_from p g) (rule_bodies p g) parts.1 (place_in (rule_bodies p g) (lits_of p g b)) (lits_of p g b) place.1
    ∙ lits_of_mean p g f x range fits parts.0 b r)
