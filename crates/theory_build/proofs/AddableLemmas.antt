-- The variables of a program in range may be added to a theory: what matters is that the sums are reckoned without overflow.
use Rattle.std.proofs.Common.{◌≡◌, ◌≢◌, ℕ, zero, suc, ◌+◌, ◌<◌, ◌≤◌, ◌^◌, ℤ, pos, neg_ℤ, ◌+ℤ◌, ◌≤ℤ◌, Bool, true, false, List, [], ◌∷◌, ◌++◌, length, map, get_or, refl, sym, ◌∙◌, ap, subst, arith, Option, Some, None, length-append}
use Rattle.std.specs.Prelude.{All, IfSome, slice_get, sum_by, unsigned_abs}
use Rattle.std.specs.List.{AllPairs, filter_map, cons_option, enumerate_from, range_with_len}
use Rattle.std.specs.Option.{option_map}
use Rattle.std.proofs.lemmas.Int.{ints}
use Rattle.std.proofs.lemmas.List.Elements.{All-nil, All-cons, All-head, All-tail, All-append, All-map, All-weaker}
use Rattle.std.proofs.lemmas.List.{length-map}
use Rattle.std.proofs.lemmas.List.Sums.{sum_by-cons}
use Rattle.std.proofs.lemmas.Option.{same_Some, slice_get-get_or, slice_get-map, slice_get_within}
use Rattle.std.proofs.lemmas.List.Kept.{AllPairs-cons}
use Rattle.theory_form.specs.declared.literals.Lit.{Lit}
use Rattle.theory_form.specs.declared.literals.Var.{Var}
use Rattle.theory_form.specs.declared.rows.VarKind.TheVariants.{Atom, Sum, Body, Search, Other}
use Rattle.theory_form.specs.Kinds.{IsRow}
use Rattle.theory_form.specs.Numbers.{at_number}
use Rattle.ground_form.specs.declared.groups.Group.{Group}
use Rattle.ground_form.specs.declared.groups.GroupRow.{GroupRow}
use Rattle.ground_form.specs.declared.groups.GroupGuard.{GroupGuard}
use Rattle.ground_form.specs.declared.groups.GroupGuard.TheVariants.{Compare, Fixed}
use Rattle.ground_form.specs.declared.groups.GuardRel.{GuardRel}
use Rattle.ground_form.specs.declared.groups.GuardRel.TheVariants.{Eq, Ne, Lt, Le, Gt, Ge}
use Rattle.ground_form.specs.Programs.{Parts}
use Rattle.ground_form.specs.Ranges.{IsInRange, IsGroupOf, IsGuardNumber, weight_size}
use Rattle.theory_build.specs.declared.entries.Entry.{Entry}
use Rattle.theory_build.specs.declared.frames.Frame.{Frame}
use Rattle.theory_build.specs.Entries.{yes, no, all_of, any_of, reaches, truth_entry}
use Rattle.theory_build.specs.Pieces.{Piece, in_turn}
use Rattle.theory_build.specs.Groups.{condition_piece, conjunct_piece, row_piece, guard_piece, compare_piece, both_piece, group_piece, group_piece_at, groups_piece, needs_both}
use Rattle.theory_build.specs.Bodies.{bodies_from, body_entries, body_entry_at, rule_bodies}
use Rattle.theory_build.specs.Atoms.{atom_entry, atom_entries}
use Rattle.theory_build.specs.Growth.{IsAddable, AreAddable}

-- ---- pieces

one_addable : (blocks : ℕ) (e : Entry) → IsAddable blocks e.kind → AreAddable blocks (e ∷ [])
one_addable blocks e h = All-cons (λ (e : Entry). IsAddable blocks e.kind) e [] h (All-nil (λ (e : Entry). IsAddable blocks e.kind))

both_addable : (blocks : ℕ) (xs ys : List Entry) → AreAddable blocks xs → AreAddable blocks ys → AreAddable blocks (xs ++ ys)
both_addable blocks xs ys h k = All-append (λ (e : Entry). IsAddable blocks e.kind) xs ys h k

none_addable : (blocks : ℕ) → AreAddable blocks []
none_addable blocks = All-nil (λ (e : Entry). IsAddable blocks e.kind)

in_turn_addable : {A N : Type 0} (blocks : ℕ) (P : A → Type 0) (f : ℕ → A → Piece N) → ((v : ℕ) (x : A) → P x → AreAddable blocks (f v x).entries) → (v : ℕ) (xs : List A) → All P xs → AreAddable blocks (in_turn f v xs).entries
in_turn_addable blocks P f each v [] all = none_addable blocks
in_turn_addable blocks P f each v (x ∷ xs) all =
    both_addable blocks (f v x).entries (in_turn f (v + length (f v x).entries) xs).entries
    (each v x (All-head P x xs all))
    (in_turn_addable blocks P f each (v + length (f v x).entries) xs (All-tail P x xs all))

conjunct_addable : (blocks v : ℕ) (lits : List Lit) → AreAddable blocks (conjunct_piece v lits).entries
conjunct_addable blocks v [] = one_addable blocks (all_of v []) tt
conjunct_addable blocks v (l ∷ []) = none_addable blocks
conjunct_addable blocks v (l ∷ m ∷ lits) = one_addable blocks (all_of v (l ∷ m ∷ lits)) tt

condition_addable : (blocks : ℕ) (p : Frame) (v : ℕ) (condition : List ℤ) → AreAddable blocks (condition_piece p v condition).entries
unfolding condition_piece
condition_addable blocks p v condition = conjunct_addable blocks v _

all_anyhow : {A : Type 0} (xs : List A) → All (λ (x : A). Unit {0}) xs
all_anyhow xs k d within = tt

row_addable : (blocks : ℕ) (p : Frame) (v : ℕ) (row : GroupRow) → AreAddable blocks (row_piece p v row).entries
unfolding row_piece
row_addable blocks p v row =
    let conditions = in_turn (condition_piece p) v row.conditions in
    both_addable blocks conditions.entries (any_of (v + length conditions.entries) conditions.name ∷ [])
    (in_turn_addable blocks (λ c. Unit {0}) (condition_piece p) (λ w c h. condition_addable blocks p w c) v row.conditions (all_anyhow row.conditions))
    (one_addable blocks (any_of (v + length conditions.entries) conditions.name) tt)

-- ---- the terms of a sum

-- the variable of a tuple is one of those that the tuple brings in
row_term : (p : Frame) (v : ℕ) (row : GroupRow) → (t : ℕ) × ((row_piece p v row).name ≡ option_map (λ w. (w, record { 0 = t })) row.weight) × (v ≤ t) × (t < v + length (row_piece p v row).entries)
unfolding row_piece
row_term p v row =
    let conditions = in_turn (condition_piece p) v row.conditions in
    let n : length (conditions.entries ++ any_of (v + length conditions.entries) conditions.name ∷ []) ≡ length conditions.entries + 1 = length-append conditions.entries (any_of (v + length conditions.entries) conditions.name ∷ []) in
    (v + length conditions.entries, refl, omega arith, omega arith)

abbrev terms_from : Frame → ℕ → List GroupRow → List (ℤ × Var)
terms_from p v rows = filter_map (λ term. term) (in_turn (row_piece p) v rows).name

abbrev size_of : ℤ × Var → ℕ
size_of t = unsigned_abs t.0

with_size : (weight : Option ℤ) (t : Var) (rest : List (ℤ × Var)) (m : ℕ) → sum_by size_of rest ≤ m → sum_by size_of (cons_option (option_map (λ w. (w, t)) weight) rest) ≤ weight_size weight + m
with_size None t rest m h = omega arith
with_size (Some w) t rest m h = let e = sum_by-cons size_of (w, t) rest in omega arith

terms_small : (p : Frame) (v : ℕ) (rows : List GroupRow) → sum_by size_of (terms_from p v rows) ≤ sum_by (λ (row : GroupRow). weight_size row.weight) rows
terms_small p v [] = omega arith
terms_small p v (row ∷ rows) =
    let (t, name_is, low, high) = row_term p v row in
    let next = v + length (row_piece p v row).entries in
    let step = with_size row.weight (record { 0 = t }) (terms_from p next rows) (sum_by (λ (row : GroupRow). weight_size row.weight) rows) (terms_small p next rows) in
    let all = sum_by-cons (λ (row : GroupRow). weight_size row.weight) row rows in
    let same : sum_by size_of (terms_from p v (row ∷ rows)) ≡ sum_by size_of (cons_option (option_map (λ w. (w, record { 0 = t })) row.weight) (terms_from p next rows)) =
    ap (λ (term : Option (ℤ × Var)). sum_by size_of (cons_option term (terms_from p next rows))) name_is
    in
    omega arith

with_bound : (v t : ℕ) (weight : Option ℤ) (rest : List (ℤ × Var)) → v ≤ t → All (λ (s : ℤ × Var). v ≤ s.1.0) rest → All (λ (s : ℤ × Var). v ≤ s.1.0) (cons_option (option_map (λ w. (w, record { 0 = t })) weight) rest)
with_bound v t None rest low all = all
with_bound v t (Some w) rest low all = All-cons (λ (s : ℤ × Var). v ≤ s.1.0) (w, record { 0 = t }) rest low all

terms_above : (p : Frame) (v : ℕ) (rows : List GroupRow) → All (λ (s : ℤ × Var). v ≤ s.1.0) (terms_from p v rows)
terms_above p v [] = All-nil (λ (s : ℤ × Var). v ≤ s.1.0)
terms_above p v (row ∷ rows) =
    let (t, name_is, low, high) = row_term p v row in
    let next = v + length (row_piece p v row).entries in
    let rest = All-weaker (λ (s : ℤ × Var). next ≤ s.1.0) (λ (s : ℤ × Var). v ≤ s.1.0) (λ (s : ℤ × Var) (h : next ≤ s.1.0). omega arith) (terms_from p next rows) (terms_above p next rows) in
    subst (λ (term : Option (ℤ × Var)). All (λ (s : ℤ × Var). v ≤ s.1.0) (cons_option term (terms_from p next rows))) (sym name_is)
    (with_bound v t row.weight (terms_from p next rows) low rest)

with_apart : (t next : ℕ) (weight : Option ℤ) (rest : List (ℤ × Var)) → t < next → All (λ (s : ℤ × Var). next ≤ s.1.0) rest → AllPairs (λ (r s : ℤ × Var). r.1 ≢ s.1) rest → AllPairs (λ (r s : ℤ × Var). r.1 ≢ s.1) (cons_option (option_map (λ w. (w, record { 0 = t })) weight) rest)
with_apart t next None rest low above apart = apart
with_apart t next (Some w) rest low above apart =
    let differs : (s : ℤ × Var) → next ≤ s.1.0 → record { 0 = t } ≢ s.1 = λ s h e. let n = ap (λ (x : Var). x.0) e in omega arith in
    AllPairs-cons (λ (r s : ℤ × Var). r.1 ≢ s.1) (w, record { 0 = t }) rest
    (All-weaker (λ (s : ℤ × Var). next ≤ s.1.0) (λ (s : ℤ × Var). record { 0 = t } ≢ s.1) differs rest above)
    apart

terms_apart : (p : Frame) (v : ℕ) (rows : List GroupRow) → AllPairs (λ (r s : ℤ × Var). r.1 ≢ s.1) (terms_from p v rows)
terms_apart p v [] = λ i j d before within. absurd (omega arith)
terms_apart p v (row ∷ rows) =
    let (t, name_is, low, high) = row_term p v row in
    let next = v + length (row_piece p v row).entries in
    subst (λ (term : Option (ℤ × Var)). AllPairs (λ (r s : ℤ × Var). r.1 ≢ s.1) (cons_option term (terms_from p next rows))) (sym name_is)
    (with_apart t next row.weight (terms_from p next rows) high (terms_above p next rows) (terms_apart p next rows))

-- ---- guards and groups

-- terms that are reckoned without overflow
record AreTerms (terms : List (ℤ × Var)) : Type 0 where
  pub weights : sum_by size_of terms < 2 ^ 52
  pub apart : AllPairs (λ (r s : ℤ × Var). r.1 ≢ s.1) terms

reaches_addable : (blocks : ℕ) (terms : List (ℤ × Var)) (bound : ℤ) → AreTerms terms → neg_ℤ (pos 2147483647) ≤ℤ bound → bound ≤ℤ pos 2147483648 → AreAddable blocks (reaches terms bound ∷ [])
reaches_addable blocks terms bound h low high =
    one_addable blocks (reaches terms bound) (record { weights = h.weights; bound_low = omega (arith, ints); bound_high = omega (arith, ints); apart = h.apart })

compare_addable : (blocks : ℕ) (terms : List (ℤ × Var)) (v : ℕ) (rel : GuardRel) (k : ℤ) → AreTerms terms → neg_ℤ (pos 2147483647) ≤ℤ k → k ≤ℤ pos 2147483647 → AreAddable blocks (compare_piece terms v rel k).entries
compare_addable blocks terms v rel k h low high =
    let here = reaches_addable blocks terms k h low (omega (arith, ints)) in
    let above = reaches_addable blocks terms (k +ℤ pos 1) h (omega (arith, ints)) (omega (arith, ints)) in
    let equal : AreAddable blocks (reaches terms k ∷ reaches terms (k +ℤ pos 1) ∷ all_of (v + 2) (yes v ∷ no (v + 1) ∷ []) ∷ []) =
    both_addable blocks (reaches terms k ∷ []) (reaches terms (k +ℤ pos 1) ∷ all_of (v + 2) (yes v ∷ no (v + 1) ∷ []) ∷ []) here
    (both_addable blocks (reaches terms (k +ℤ pos 1) ∷ []) (all_of (v + 2) (yes v ∷ no (v + 1) ∷ []) ∷ []) above (one_addable blocks (all_of (v + 2) (yes v ∷ no (v + 1) ∷ [])) tt))
    in
    by_relation rel here above equal
  where
    by_relation : (rel : GuardRel) → AreAddable blocks (reaches terms k ∷ []) → AreAddable blocks (reaches terms (k +ℤ pos 1) ∷ []) → AreAddable blocks (reaches terms k ∷ reaches terms (k +ℤ pos 1) ∷ all_of (v + 2) (yes v ∷ no (v + 1) ∷ []) ∷ []) → AreAddable blocks (compare_piece terms v rel k).entries
    by_relation Ge here above equal = here
    by_relation Gt here above equal = above
    by_relation Lt here above equal = here
    by_relation Le here above equal = above
    by_relation Eq here above equal = equal
    by_relation Ne here above equal = equal

guard_addable : (blocks truth : ℕ) (terms : List (ℤ × Var)) (v : ℕ) (guard : Option GroupGuard) → AreTerms terms → IfSome guard IsGuardNumber → AreAddable blocks (guard_piece truth terms v guard).entries
unfolding guard_piece
guard_addable blocks truth terms v None h number = none_addable blocks
guard_addable blocks truth terms v (Some (Fixed holds)) h number = none_addable blocks
guard_addable blocks truth terms v (Some (Compare rel k)) h number = compare_addable blocks terms v rel k h number.0 number.1

both_piece_addable : (blocks truth : ℕ) (needed : Bool) (v : ℕ) (left right : Lit) → AreAddable blocks (both_piece truth needed v left right).entries
both_piece_addable blocks truth true v left right = one_addable blocks (all_of v (left ∷ right ∷ [])) tt
both_piece_addable blocks truth false v left right = none_addable blocks

group_addable : (blocks : ℕ) (p : Frame) (needed : Bool) (atoms v : ℕ) (group : Group) → IsGroupOf atoms group → AreAddable blocks (group_piece p needed v group).entries
unfolding group_piece
group_addable blocks p needed atoms v group h =
    let rows = in_turn (row_piece p) v group.rows in
    let terms = terms_from p v group.rows in
    let small = terms_small p v group.rows in
    let sums = h.sums in
    let are_terms : AreTerms terms = record { weights = omega arith; apart = terms_apart p v group.rows } in
    let left_from = v + length rows.entries in
    let left = guard_piece p.truth terms left_from group.left in
    let right_from = left_from + length left.entries in
    let right = guard_piece p.truth terms right_from group.right in
    let both_from = right_from + length right.entries in
    let both = both_piece p.truth needed both_from left.name right.name in
    both_addable blocks rows.entries (left.entries ++ (right.entries ++ both.entries))
    (in_turn_addable blocks (λ r. Unit {0}) (row_piece p) (λ w r u. row_addable blocks p w r) v group.rows (all_anyhow group.rows))
    (both_addable blocks left.entries (right.entries ++ both.entries)
    (guard_addable blocks p.truth terms left_from group.left are_terms h.left)
    (both_addable blocks right.entries both.entries
    (guard_addable blocks p.truth terms right_from group.right are_terms h.right)
    (both_piece_addable blocks p.truth needed both_from left.name right.name)))

-- ---- a program

-- what is true of each item is true of each with its number
all_enumerated : {A : Type 0} (P : A → Type 0) (n : ℕ) (xs : List A) → All P xs → All (λ (pair : ℕ × A). P pair.1) (enumerate_from n xs)
all_enumerated P n [] all = All-nil (λ pair. P pair.1)
all_enumerated P n (x ∷ xs) all =
    All-cons (λ pair. P pair.1) (n, x) (enumerate_from (n + 1) xs) (All-head P x xs all) (all_enumerated P (n + 1) xs (All-tail P x xs all))

pub groups_addable : (blocks : ℕ) (p : Frame) (g : Parts) → IsInRange g → AreAddable blocks (groups_piece p g).entries
unfolding groups_piece
groups_addable blocks p g h =
    in_turn_addable blocks (λ (pair : ℕ × Group). IsGroupOf (length g.atoms) pair.1) (group_piece_at p g)
    (λ v pair in_range. group_addable blocks p (needs_both g pair.0) (length g.atoms) v pair.1 in_range)
    p.groups_from (enumerate_from 1 g.groups) (all_enumerated (IsGroupOf (length g.atoms)) 1 g.groups h.groups)

pub bodies_addable : (blocks : ℕ) (p : Frame) (g : Parts) → AreAddable blocks (body_entries p g)
unfolding body_entries
bodies_addable blocks p g =
    All-map (λ (e : Entry). IsAddable blocks e.kind) body_entry_at (enumerate_from (bodies_from p g) (rule_bodies p g)) (λ k d within. tt)

pub atoms_addable : (blocks : ℕ) (p : Frame) (g : Parts) → p.block < blocks → AreAddable blocks (atom_entries p g)
unfolding atom_entries atom_entry
atoms_addable blocks p g h =
    All-map (λ (e : Entry). IsAddable blocks e.kind) (atom_entry p g) (range_with_len 1 (length g.atoms)) (λ k d within. h)

-- the variables of the base but for the search guard
pub base_addable : (p : Frame) (g : Parts) (blocks v : ℕ) → IsInRange g → p.block < blocks → AreAddable blocks (atom_entries p g ++ (truth_entry v ∷ ((groups_piece p g).entries ++ body_entries p g)))
base_addable p g blocks v h below =
    let rest = (groups_piece p g).entries ++ body_entries p g in
    both_addable blocks (atom_entries p g) (truth_entry v ∷ rest) (atoms_addable blocks p g below)
    (both_addable blocks (truth_entry v ∷ []) rest (one_addable blocks (truth_entry v) tt)
    (both_addable blocks (groups_piece p g).entries (body_entries p g) (groups_addable blocks p g h) (bodies_addable blocks p g)))

pub later_addable : (p : Frame) (g : Parts) (blocks : ℕ) → IsInRange g → p.block < blocks → AreAddable blocks (atom_entries p g ++ ((groups_piece p g).entries ++ body_entries p g))
later_addable p g blocks h below =
    both_addable blocks (atom_entries p g) ((groups_piece p g).entries ++ body_entries p g) (atoms_addable blocks p g below)
    (both_addable blocks (groups_piece p g).entries (body_entries p g) (groups_addable blocks p g h) (bodies_addable blocks p g))

-- among such variables none is a search guard
pub no_search : (blocks : ℕ) (entries : List Entry) (v : ℕ) → AreAddable blocks entries → at_number (map (λ (e : Entry). e.kind) entries) v ≡ Some Search → ⊥
no_search blocks entries zero h is = cc
no_search blocks entries (suc k) h is =
    let inside : k < length entries =
    let n = slice_get_within (map (λ (e : Entry). e.kind) entries) k Search is in
    let m = length-map entries (λ (e : Entry). e.kind) in
    omega arith
    in
    let guard : Entry = record { kind = Search; clauses = [] } in
    let read : slice_get entries k ≡ Some (get_or entries k guard) = slice_get-get_or entries k guard inside in
    let kind : Some (get_or entries k guard).kind ≡ Some Search =
    ap (option_map (λ (e : Entry). e.kind)) (sym read) ∙ sym (slice_get-map (λ (e : Entry). e.kind) entries k) ∙ is
    in
    let same = same_Some (get_or entries k guard).kind Search kind in
    subst (IsAddable blocks) same (h k guard inside)
