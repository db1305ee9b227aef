-- The variables of a group have by f the values that the group has in x.
use Rattle.std.proofs.Common.{◌≡◌, ℕ, suc, ◌+◌, Bool, true, false, not, ◌&&◌, List, [], ◌∷◌, ◌++◌, map, length, refl, sym, ap, ◌∙◌, subst, Option, Some, None, arith}
use Rattle.std.specs.Prelude.{ℤ, pos, negsuc, ◌+ℤ◌, All, fold, int_lt, if◌then◌else◌}
use Rattle.std.specs.Ordering.{int_eq}
use Rattle.std.specs.Bool.{beq}
use Rattle.std.specs.List.{list_any, filter_map, AllByRecursion, AllZip}
use Rattle.std.proofs.lemmas.Int.{ints}
use Rattle.std.proofs.lemmas.Bool.Decides.{nat_tests}
use Rattle.std.proofs.lemmas.List.Elements.{recursion_from_All}
use Rattle.theory_form.specs.declared.literals.Lit.{Lit}
use Rattle.theory_form.specs.declared.literals.Var.{Var}
use Rattle.theory_form.specs.Literals.{lit_cmp}
use Rattle.theory_model.specs.Truth.{literal_true as lit_true, clause_true, conjunction_true, sum_true}
use Rattle.ground_form.specs.declared.groups.Group.{Group}
use Rattle.ground_form.specs.declared.groups.GroupRow.{GroupRow}
use Rattle.ground_form.specs.declared.groups.GroupGuard.{GroupGuard}
use Rattle.ground_form.specs.declared.groups.GroupGuard.TheVariants.{Compare, Fixed}
use Rattle.ground_form.specs.declared.groups.GuardRel.{GuardRel}
use Rattle.ground_form.specs.declared.groups.GuardRel.TheVariants.{Eq, Ne, Lt, Le, Gt, Ge}
use Rattle.ground_form.specs.Truth.{literal_true, literals_true, row_counts, row_value, weight_value, rows_sum, compares, guard_holds_if_there}
use Rattle.ground_form.specs.Ranges.{IsNumberOf, IsLiteralOf, IsRowOf}
use Rattle.theory_build.specs.declared.frames.Frame.{Frame}
use Rattle.theory_build.specs.declared.guards.Guards.{Guards}
use Rattle.theory_build.specs.Ascending.{ascending}
use Rattle.theory_build.specs.Entries.{yes, no, all_of, any_of}
use Rattle.theory_build.specs.Pieces.{Piece, in_turn}
use Rattle.theory_build.specs.Frames.{atom_var, atom_lit}
use Rattle.theory_build.specs.Groups.{conjunct_piece, condition_piece, tuple_piece, row_piece, equal_piece, compare_piece, guard_piece, both_piece, group_piece}
use Rattle.theory_build.proofs.OrderLemmas.{lit_order}
use Rattle.theory_law.proofs.Membership.{all_ascending}
use Rattle.theory_law.proofs.Clauses.{beq_yes, beq_no, and_true, not_not}
use Rattle.theory_law.proofs.Entries.{IsEntryTrue, AreEntriesTrue, true_split, reaches_says, all_of_says, any_of_says}
use Rattle.theory_law.proofs.Pieces.{IsGroupSplit, group_split}

-- f has the values of x at the atoms, and is true at the variable that is true
pub record Fits (p : Frame) (n : ℕ) (f x : ℕ → Bool) : Type 0 where
  pub atoms : (a : ℕ) → IsNumberOf n a → f (atom_var p a) ≡ x a
  pub truth : f p.truth ≡ true

-- ---- one piece after the other

module _ {A N : Type 0} (piece : ℕ → A → Piece N) (R : A → N → Type 0) (f : ℕ → Bool) (P : A → Type 0) (each : (v : ℕ) (x : A) → P x → AreEntriesTrue f v (piece v x).entries → R x (piece v x).name) where
  pub in_turn_means : (v : ℕ) (xs : List A) → AllByRecursion P xs → AreEntriesTrue f v (in_turn piece v xs).entries → AllZip R xs (in_turn piece v xs).name
  in_turn_means v [] h t = tt
  in_turn_means v (x ∷ xs) h t =
      let ends : ℕ = v + length (piece v x).entries in
      let parts = true_split f v (piece v x).entries (in_turn piece ends xs).entries t in
      (each v x h.0 parts.0, in_turn_means ends xs h.1 parts.1)

module _ (p : Frame) (n : ℕ) (f x : ℕ → Bool) (fits : Fits p n f x) where
  -- ---- literals

  pub atom_lit_means : (l : ℤ) → IsLiteralOf n l → lit_true f (atom_lit p l) ≡ literal_true x l
  atom_lit_means (pos a) r = beq_yes (f (atom_var p a)) ∙ fits.atoms a r
  atom_lit_means (negsuc k) r = beq_no (f (atom_var p (suc k))) ∙ ap not (fits.atoms (suc k) r)

  pub atoms_mean : (lits : List ℤ) → AllByRecursion (IsLiteralOf n) lits → conjunction_true f (map (atom_lit p) lits) ≡ literals_true x lits
  atoms_mean [] r = refl
  atoms_mean (l ∷ lits) r = rw (atom_lit_means l r.0, atoms_mean lits r.1) refl

  -- ---- tuples

  conjunct_means : (v : ℕ) (lits : List Lit) → AreEntriesTrue f v (conjunct_piece v lits).entries → lit_true f (conjunct_piece v lits).name ≡ conjunction_true f lits
  conjunct_means v [] t = beq_yes (f v) ∙ all_of_says f v [] t.0
  conjunct_means v (l ∷ []) t = sym (and_true (lit_true f l))
  conjunct_means v (l ∷ m ∷ lits) t = beq_yes (f v) ∙ all_of_says f v (l ∷ m ∷ lits) t.0

  pub condition_means : (v : ℕ) (condition : List ℤ) → All (IsLiteralOf n) condition → AreEntriesTrue f v (condition_piece p v condition).entries → lit_true f (condition_piece p v condition).name ≡ literals_true x condition
  unfolding condition_piece
  condition_means v condition r t =
      conjunct_means v (ascending lit_cmp (map (atom_lit p) condition)) t
      ∙ (all_ascending lit_order (lit_true f) (map (atom_lit p) condition) ∙ atoms_mean condition (recursion_from_All (IsLiteralOf n) condition r))

  any_zip : (conditions : List (List ℤ)) (names : List Lit) → AllZip (λ (c : List ℤ) (l : Lit). lit_true f l ≡ literals_true x c) conditions names → clause_true f names ≡ list_any (literals_true x) conditions
  any_zip [] [] z = refl
  any_zip [] (l ∷ ls) z = absurd z
  any_zip (c ∷ cs) [] z = absurd z
  any_zip (c ∷ cs) (l ∷ ls) z = rw (z.0, any_zip cs ls z.1) refl

  -- a term of the sum is worth what the tuple adds; no term, nothing
  abbrev IsTermOf : GroupRow → Option (ℤ × Var) → Type 0
  IsTermOf row None = weight_value row.weight ≡ pos 0
  IsTermOf row (Some t) = (t.0 ≡ weight_value row.weight) × (f t.1.0 ≡ row_counts x row)

  tuple_means : (v : ℕ) (row : GroupRow) (conditions : Piece (List Lit)) → AllZip (λ (c : List ℤ) (l : Lit). lit_true f l ≡ literals_true x c) row.conditions conditions.name → AreEntriesTrue f v (tuple_piece v row.weight conditions).entries → IsTermOf row (tuple_piece v row.weight conditions).name
  tuple_means v row conditions z t = named row.weight refl
    where
      parts : AreEntriesTrue f v conditions.entries × AreEntriesTrue f (v + length conditions.entries) (any_of (v + length conditions.entries) conditions.name ∷ [])
      parts = true_split f v conditions.entries (any_of (v + length conditions.entries) conditions.name ∷ []) t

      counts : f (v + length conditions.entries) ≡ row_counts x row
      counts = any_of_says f (v + length conditions.entries) conditions.name parts.1.0 ∙ any_zip row.conditions conditions.name z

      named : (w : Option ℤ) → row.weight ≡ w → IsTermOf row (tuple_piece v w conditions).name
      named None e = ap weight_value e
      named (Some k) e = (sym (ap weight_value e), counts)

  pub row_means : (v : ℕ) (row : GroupRow) → IsRowOf n row → AreEntriesTrue f v (row_piece p v row).entries → IsTermOf row (row_piece p v row).name
  unfolding row_piece
  row_means v row r t =
      let conditions : Piece (List Lit) = in_turn (condition_piece p) v row.conditions in
      let parts = true_split f v conditions.entries (any_of (v + length conditions.entries) conditions.name ∷ []) t in
      tuple_means v row conditions
      (in_turn_means (condition_piece p) (λ (c : List ℤ) (l : Lit). lit_true f l ≡ literals_true x c) f (λ c. All (IsLiteralOf n) c) condition_means v row.conditions (recursion_from_All (λ c. All (IsLiteralOf n) c) row.conditions r) parts.0) t

  if_zero : (b : Bool) (w : ℤ) → w ≡ pos 0 → (if b then w else pos 0) ≡ pos 0
  if_zero true w e = e
  if_zero false w e = refl

  sum_zip : (s : ℤ) (rows : List GroupRow) (names : List (Option (ℤ × Var))) → AllZip IsTermOf rows names → fold (λ sum (t : ℤ × Var). sum +ℤ (if f t.1.0 then t.0 else pos 0)) s (filter_map (λ term. term) names) ≡ fold (λ sum row. sum +ℤ row_value x row) s rows
  sum_zip s [] [] z = refl
  sum_zip s [] (t ∷ ts) z = absurd z
  sum_zip s (row ∷ rows) [] z = absurd z
  sum_zip s (row ∷ rows) (None ∷ names) z =
      let nothing : s ≡ s +ℤ row_value x row = sym (ap (λ w. s +ℤ w) (if_zero (row_counts x row) (weight_value row.weight) z.0) ∙ plus_zero s) in
      sum_zip s rows names z.1 ∙ ap (λ k. fold (λ sum row. sum +ℤ row_value x row) k rows) nothing
    where
      plus_zero : (k : ℤ) → k +ℤ pos 0 ≡ k
      plus_zero k = omega (arith, ints)
  sum_zip s (row ∷ rows) (Some t ∷ names) z =
      let same : (if f t.1.0 then t.0 else pos 0) ≡ row_value x row = ap (λ w. if f t.1.0 then w else pos 0) z.0.0 ∙ ap (λ b. if b then weight_value row.weight else pos 0) z.0.1 in
      ap (λ w. fold (λ sum (t : ℤ × Var). sum +ℤ (if f t.1.0 then t.0 else pos 0)) (s +ℤ w) (filter_map (λ term. term) names)) same
      ∙ sum_zip (s +ℤ row_value x row) rows names z.1

  -- the terms sum up to what the tuples do
  pub rows_mean : (v : ℕ) (rows : List GroupRow) → All (IsRowOf n) rows → AreEntriesTrue f v (in_turn (row_piece p) v rows).entries → sum_true f (filter_map (λ term. term) (in_turn (row_piece p) v rows).name) ≡ rows_sum x rows
  rows_mean v rows r t =
      sum_zip (pos 0) rows (in_turn (row_piece p) v rows).name (in_turn_means (row_piece p) IsTermOf f (IsRowOf n) row_means v rows (recursion_from_All (IsRowOf n) rows r) t)

-- ---- guards

above : (s k : ℤ) → int_lt k s ≡ not (int_lt s (k +ℤ pos 1))
above s k = grind (arith, ints, nat_tests)

equals : (s k : ℤ) → int_eq s k ≡ (not (int_lt s k) && int_lt s (k +ℤ pos 1))
equals s k = grind (arith, ints, nat_tests)

module _ (f : ℕ → Bool) (terms : List (ℤ × Var)) where
  equal_means : (v : ℕ) (k : ℤ) (name : Lit) → AreEntriesTrue f v (equal_piece terms v k name).entries → f (v + 2) ≡ int_eq (sum_true f terms) k
  equal_means v k name t =
      let s : ℤ = sum_true f terms in
      let third : v + 1 + 1 ≡ v + 2 = omega arith in
      let lits : List Lit = yes v ∷ no (v + 1) ∷ [] in
      let reached : f v ≡ not (int_lt s k) = reaches_says f v terms k t.0 in
      let more : f (v + 1) ≡ not (int_lt s (k +ℤ pos 1)) = reaches_says f (v + 1) terms (k +ℤ pos 1) t.1.0 in
      let both : f (v + 2) ≡ conjunction_true f lits = all_of_says f (v + 2) lits (subst (λ w. IsEntryTrue f w (all_of (v + 2) lits)) third t.1.1.0) in
      both ∙ (rw (beq_yes (f v), beq_no (f (v + 1)), reached, more) (ap (λ b. not (int_lt s k) && b) (and_true (not (not (int_lt s (k +ℤ pos 1)))) ∙ not_not (int_lt s (k +ℤ pos 1))) ∙ sym (equals s k)))

  compare_means : (v : ℕ) (rel : GuardRel) (k : ℤ) → AreEntriesTrue f v (compare_piece terms v rel k).entries → lit_true f (compare_piece terms v rel k).name ≡ compares rel (sum_true f terms) k
  compare_means v Ge k t = beq_yes (f v) ∙ reaches_says f v terms k t.0
  compare_means v Gt k t = beq_yes (f v) ∙ (reaches_says f v terms (k +ℤ pos 1) t.0 ∙ sym (above (sum_true f terms) k))
  compare_means v Lt k t = beq_no (f v) ∙ (ap not (reaches_says f v terms k t.0) ∙ not_not (int_lt (sum_true f terms) k))
  compare_means v Le k t = beq_no (f v) ∙ ap not (reaches_says f v terms (k +ℤ pos 1) t.0 ∙ sym (above (sum_true f terms) k))
  compare_means v Eq k t = beq_yes (f (v + 2)) ∙ equal_means v k (yes (v + 2)) t
  compare_means v Ne k t = beq_no (f (v + 2)) ∙ ap not (equal_means v k (no (v + 2)) t)

  pub guard_means : (truth v : ℕ) (guard : Option GroupGuard) → f truth ≡ true → AreEntriesTrue f v (guard_piece truth terms v guard).entries → lit_true f (guard_piece truth terms v guard).name ≡ guard_holds_if_there (sum_true f terms) guard
  unfolding guard_piece
  guard_means truth v None e t = beq_yes (f truth) ∙ e
  guard_means truth v (Some (Fixed holds)) e t = ap (λ b. beq b holds) e ∙ beq_is holds
    where
      beq_is : (b : Bool) → beq true b ≡ b
      beq_is true = refl
      beq_is false = refl
  guard_means truth v (Some (Compare rel k)) e t = compare_means v rel k t

-- ---- groups

-- the literals of the guards are true where the guards hold; that of both is, where it is needed
pub record GuardsMean (f : ℕ → Bool) (needed : Bool) (sum : ℤ) (group : Group) (guards : Guards) : Type 0 where
  pub left : lit_true f guards.left ≡ guard_holds_if_there sum group.left
  pub right : lit_true f guards.right ≡ guard_holds_if_there sum group.right
  pub both : needed ≡ true → lit_true f guards.both ≡ (guard_holds_if_there sum group.left && guard_holds_if_there sum group.right)

both_means : (f : ℕ → Bool) (truth : ℕ) (needed : Bool) (v : ℕ) (left right : Lit) → AreEntriesTrue f v (both_piece truth needed v left right).entries → needed ≡ true → lit_true f (both_piece truth needed v left right).name ≡ (lit_true f left && lit_true f right)
both_means f truth true v left right t e = beq_yes (f v) ∙ (all_of_says f v (left ∷ right ∷ []) t.0 ∙ ap (λ b. lit_true f left && b) (and_true (lit_true f right)))
both_means f truth false v left right t e = absurd (cc)

pub group_means : (p : Frame) (n : ℕ) (f x : ℕ → Bool) → Fits p n f x → (needed : Bool) (v : ℕ) (group : Group) → All (IsRowOf n) group.rows → AreEntriesTrue f v (group_piece p needed v group).entries → GuardsMean f needed (rows_sum x group.rows) group (group_piece p needed v group).name
group_means p n f x fits needed v group rows t =
    let s : IsGroupSplit p needed v group = group_split p needed v group in
    let t0 : AreEntriesTrue f v (s.rows.entries ++ (s.left.entries ++ (s.right.entries ++ s.both.entries))) = subst (AreEntriesTrue f v) s.entries_is t in
    let t1 = true_split f v s.rows.entries (s.left.entries ++ (s.right.entries ++ s.both.entries)) t0 in
    let t2 = true_split f s.left_from s.left.entries (s.right.entries ++ s.both.entries) (subst (λ w. AreEntriesTrue f w (s.left.entries ++ (s.right.entries ++ s.both.entries))) (sym s.left_at) t1.1) in
    let t3 = true_split f s.right_from s.right.entries s.both.entries (subst (λ w. AreEntriesTrue f w (s.right.entries ++ s.both.entries)) (sym s.right_at) t2.1) in
    let sum : sum_true f s.terms ≡ rows_sum x group.rows =
    ap (sum_true f) (s.terms_is ∙ ap (λ (r : Piece (List (Option (ℤ × Var)))). filter_map (λ term. term) r.name) s.rows_is)
    ∙ rows_mean p n f x fits v group.rows rows (subst (λ (r : Piece (List (Option (ℤ × Var)))). AreEntriesTrue f v r.entries) s.rows_is t1.0) in
    let left : lit_true f s.left.name ≡ guard_holds_if_there (rows_sum x group.rows) group.left =
    ap (λ (q : Piece Lit). lit_true f q.name) s.left_is ∙ (guard_means f s.terms p.truth s.left_from group.left fits.truth (subst (λ (q : Piece Lit). AreEntriesTrue f s.left_from q.entries) s.left_is t2.0) ∙ ap (λ k. guard_holds_if_there k group.left) sum) in
    let right : lit_true f s.right.name ≡ guard_holds_if_there (rows_sum x group.rows) group.right =
    ap (λ (q : Piece Lit). lit_true f q.name) s.right_is ∙ (guard_means f s.terms p.truth s.right_from group.right fits.truth (subst (λ (q : Piece Lit). AreEntriesTrue f s.right_from q.entries) s.right_is t3.0) ∙ ap (λ k. guard_holds_if_there k group.right) sum) in
    let t4 : AreEntriesTrue f s.both_from (both_piece p.truth needed s.both_from s.left.name s.right.name).entries = subst (λ (q : Piece Lit). AreEntriesTrue f s.both_from q.entries) s.both_is (subst (λ w. AreEntriesTrue f w s.both.entries) (sym s.both_at) t3.1) in
    let both : needed ≡ true → lit_true f s.both.name ≡ (guard_holds_if_there (rows_sum x group.rows) group.left && guard_holds_if_there (rows_sum x group.rows) group.right) =
    λ e. ap (λ (q : Piece Lit). lit_true f q.name) s.both_is ∙ (both_means f p.truth needed s.both_from s.left.name s.right.name t4 e ∙ (rw (left, right) refl)) in
    subst (GuardsMean f needed (rows_sum x group.rows) group) (sym s.name_is) (record { left = left; right = right; both = both })
