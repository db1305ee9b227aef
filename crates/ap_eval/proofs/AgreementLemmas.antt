-- Truth depends only on the atoms that are looked at.
use Rattle.std.proofs.Common.{◌≡◌, ℕ, suc, ◌<◌, Bool, true, false, not, ◌&&◌, ◌||◌, List, [], ◌∷◌, get_or, refl, ap, ◌∙◌, subst, arith, Option, Some, None, nat_lt}
use Rattle.std.specs.Prelude.{ℤ, pos, negsuc, ◌+ℤ◌, All, IsTrue, fold, cond}
use Rattle.std.specs.List.{list_all, list_any}
use Rattle.std.specs.Bool.{beq}
use Rattle.std.proofs.lemmas.Bool.{and_parts, and_from, false≢true, eqb-true}
use Rattle.std.proofs.lemmas.Bool.Decides.{nat_tests}
use Rattle.std.proofs.lemmas.List.Elements.{All-head, All-tail}
use Rattle.std.proofs.lemmas.List.Sums.{list_all-from_AllPass, AllPass-from_list_all}
use Rattle.ground_form.specs.Acyclic.{atom_of, AreBelow, IsGroupBelow, IsBelowIfThere, Rises}
use Rattle.ground_form.specs.Programs.{Parts, numbered}
use Rattle.ground_form.specs.Truth as spec
use Rattle.ground_form.specs.declared.bodies.Body.{Body}
use Rattle.ground_form.specs.declared.bodies.GuardUse.{GuardUse}
use Rattle.ground_form.specs.declared.groups.Group.{Group}
use Rattle.ground_form.specs.declared.groups.GroupRow.{GroupRow}
use Rattle.ground_form.specs.declared.rules.GroundRule.{GroundRule}
use Rattle.ground_form.specs.declared.rules.Head.{Head}
use Rattle.ground_form.specs.declared.rules.Head.TheVariants.{One, Choice, Nothing}
use Rattle.ap_eval.proofs.ListLemmas.{any_same, or_from, or_to}
use Rattle.ap_eval.specs.Looks.{of_literals, of_row, of_group, of_guard, of_body, looks_within}
use Rattle.ap_eval.specs.Supports.{names, derives, follows}

-- ---- two sets that agree there

module _ (x y p : ℕ → Bool) (same : (c : ℕ) → IsTrue (p c) → x c ≡ y c) where
  literal_same : (l : ℤ) → IsTrue (p (atom_of l)) → spec.literal_true x l ≡ spec.literal_true y l
  literal_same (pos a) h = same a h
  literal_same (negsuc k) h = ap not (same (suc k) h)

  literals_same : (lits : List ℤ) → IsTrue (of_literals p lits) → spec.literals_true x lits ≡ spec.literals_true y lits
  literals_same [] h = refl
  literals_same (l ∷ lits) h =
      let t = and_parts (p (atom_of l)) (of_literals p lits) h in
      ap (λ v. v && spec.literals_true x lits) (literal_same l t.0) ∙ ap (λ v. spec.literal_true y l && v) (literals_same lits t.1)

  conditions_same : (cs : List (List ℤ)) → IsTrue (list_all (of_literals p) cs) → list_any (spec.literals_true x) cs ≡ list_any (spec.literals_true y) cs
  conditions_same [] h = refl
  conditions_same (c ∷ cs) h =
      let t = and_parts (of_literals p c) (list_all (of_literals p) cs) h in
      ap (λ v. v || list_any (spec.literals_true x) cs) (literals_same c t.0) ∙ ap (λ v. spec.literals_true y c || v) (conditions_same cs t.1)

  row_same : (row : GroupRow) → IsTrue (of_row p row) → spec.row_value x row ≡ spec.row_value y row
  row_same row h = ap (λ b. cond b (spec.weight_value row.weight) (pos 0)) (conditions_same row.conditions h)

  sum_same : (rows : List GroupRow) (s : ℤ) → IsTrue (list_all (of_row p) rows) → fold (λ sum row. sum +ℤ spec.row_value x row) s rows ≡ fold (λ sum row. sum +ℤ spec.row_value y row) s rows
  sum_same [] s h = refl
  sum_same (row ∷ rows) s h =
      let t = and_parts (of_row p row) (list_all (of_row p) rows) h in
      ap (λ v. fold (λ sum r. sum +ℤ spec.row_value x r) (s +ℤ v) rows) (row_same row t.0) ∙ sum_same rows (s +ℤ spec.row_value y row) t.1

  group_same : (k : ℕ) (o : Option Group) → IsTrue (of_group p o) → spec.group_true_if_there x k o ≡ spec.group_true_if_there y k o
  group_same k None h = refl
  group_same k (Some group) h = ap (λ s. spec.guards_hold s k group) (sum_same group.rows (pos 0) h)

  guards_same : (groups : List Group) (guards : List GuardUse) → IsTrue (list_all (of_guard groups p) guards) → list_all (spec.guard_true groups x) guards ≡ list_all (spec.guard_true groups y) guards
  guards_same groups [] h = refl
  guards_same groups (guard ∷ guards) h =
      let t = and_parts (of_guard groups p guard) (list_all (of_guard groups p) guards) h in
      ap (λ v. beq guard.yes v && list_all (spec.guard_true groups x) guards) (group_same guard.guard (numbered groups guard.group) t.0)
      ∙ ap (λ v. spec.guard_true groups y guard && v) (guards_same groups guards t.1)

  body_same : (groups : List Group) (o : Option Body) → IsTrue (of_body groups p o) → (spec.guards_in groups x o && spec.literals_true x (spec.literals_in o)) ≡ (spec.guards_in groups y o && spec.literals_true y (spec.literals_in o))
  body_same groups None h = refl
  body_same groups (Some body) h =
      let t = and_parts (of_literals p body.lits) (list_all (of_guard groups p) body.guards) h in
      ap (λ v. (not body.never && v) && spec.literals_true x body.lits) (guards_same groups body.guards t.1)
      ∙ ap (λ v. spec.guards_true groups y body && v) (literals_same body.lits t.0)

-- ---- what follows

and_when : (n p q : Bool) → (n ≡ true → p ≡ q) → (n && p) ≡ (n && q)
and_when true p q h = h refl
and_when false p q h = refl

-- what follows, where two sets agree on what the rules look at
pub follows_same : (g : Parts) (facts x y p : ℕ → Bool) (a : ℕ) → ((c : ℕ) → IsTrue (p c) → x c ≡ y c) → IsTrue (list_all (looks_within g p a) g.rules) → follows g facts x a ≡ follows g facts y a
follows_same g facts x y p a same within =
    ap (λ v. facts a || v) (any_same (derives g x a) (derives g y a) g.rules (λ k d lt.
    let rule : GroundRule = get_or g.rules k d in
    and_when (names a rule.head) (spec.body_true g x rule.body.0) (spec.body_true g y rule.body.0)
    (λ n. body_same x y p same g.groups (numbered g.bodies rule.body.0)
    (or_to (names a rule.head) (of_body g.groups p (numbered g.bodies rule.body.0)) (AllPass-from_list_all (looks_within g p a) g.rules within k d lt) n))))

-- ---- below a level

lt_true : (a b : ℕ) → a < b → nat_lt a b ≡ true
lt_true a b h = grind (arith, nat_tests)

pub lt_from_true : (a b : ℕ) → nat_lt a b ≡ true → a < b
lt_from_true a b h = grind (arith, nat_tests)

module _ (level : ℕ → ℕ) (n : ℕ) where
  abbrev low : ℕ → Bool
  low c = nat_lt (level c) n

  literals_low : (lits : List ℤ) → AreBelow level n lits → IsTrue (of_literals low lits)
  literals_low lits h = list_all-from_AllPass (λ l. low (atom_of l)) lits (λ k d lt. lt_true (level (atom_of (get_or lits k d))) n (h k d lt))

  group_low : (o : Option Group) → IsGroupBelow level n o → IsTrue (of_group low o)
  group_low None h = refl
  group_low (Some group) h = list_all-from_AllPass (of_row low) group.rows (λ k d lt.
      let row : GroupRow = get_or group.rows k d in
      list_all-from_AllPass (of_literals low) row.conditions (λ i e le. literals_low (get_or row.conditions i e) (h k d lt i e le)))

  pub body_low : (groups : List Group) (o : Option Body) → IsBelowIfThere groups level n o → IsTrue (of_body groups low o)
  body_low groups None h = refl
  body_low groups (Some body) h = and_from (of_literals low body.lits) (list_all (of_guard groups low) body.guards)
      (literals_low body.lits h.lits)
      (list_all-from_AllPass (of_guard groups low) body.guards (λ k d lt. group_low (numbered groups (get_or body.guards k d).group) (h.guards k d lt)))

-- a rule for a looks only at atoms of lower levels
pub looks_low : (g : Parts) (level : ℕ → ℕ) (a : ℕ) (head : Head) (b : ℕ) → Rises g level head b → IsTrue (names a head) → IsTrue (of_body g.groups (λ c. nat_lt (level c) (level a)) (numbered g.bodies b))
looks_low g level a (One c) b r h = subst (λ n. IsTrue (of_body g.groups (λ d. nat_lt (level d) (level n)) (numbered g.bodies b))) (eqb-true c.0 a h) (body_low level (level c.0) g.groups (numbered g.bodies b) r)
looks_low g level a (Choice c) b r h = subst (λ n. IsTrue (of_body g.groups (λ d. nat_lt (level d) (level n)) (numbered g.bodies b))) (eqb-true c.0 a h) (body_low level (level c.0) g.groups (numbered g.bodies b) r)
looks_low g level a Nothing b r h = absurd (false≢true h)

pub all_look_low : (g : Parts) (level : ℕ → ℕ) → All (λ (rule : GroundRule). Rises g level rule.head rule.body.0) g.rules → (a : ℕ) → IsTrue (list_all (looks_within g (λ c. nat_lt (level c) (level a)) a) g.rules)
all_look_low g level rises a = list_all-from_AllPass (looks_within g (λ c. nat_lt (level c) (level a)) a) g.rules (λ k d lt.
    let rule : GroundRule = get_or g.rules k d in
    or_from (names a rule.head) (of_body g.groups (λ c. nat_lt (level c) (level a)) (numbered g.bodies rule.body.0)) (looks_low g level a rule.head rule.body.0 (rises k d lt)))
