-- Every variable of a group is defined by variables before it.
use Rattle.std.proofs.Common.{◌≡◌, ℕ, ◌+◌, ◌<◌, ◌≤◌, Bool, true, false, List, [], ◌∷◌, ◌++◌, map, length, refl, sym, ap, subst, Option, Some, None, arith}
use Rattle.std.specs.Prelude.{ℤ, pos, negsuc, ◌+ℤ◌, ⊤, All}
use Rattle.std.specs.List.{filter_map, enumerate_from, AllByRecursion}
use Rattle.std.proofs.lemmas.List.{length-append}
use Rattle.std.proofs.lemmas.List.Elements.{recursion_from_All}
use Rattle.theory_form.specs.declared.literals.Lit.{Lit}
use Rattle.theory_form.specs.declared.literals.Var.{Var}
use Rattle.theory_form.specs.Literals.{lit_cmp}
use Rattle.ground_form.specs.declared.groups.Group.{Group}
use Rattle.ground_form.specs.declared.groups.GroupRow.{GroupRow}
use Rattle.ground_form.specs.declared.groups.GroupGuard.{GroupGuard}
use Rattle.ground_form.specs.declared.groups.GroupGuard.TheVariants.{Compare, Fixed}
use Rattle.ground_form.specs.declared.groups.GuardRel.{GuardRel}
use Rattle.ground_form.specs.declared.groups.GuardRel.TheVariants.{Eq, Ne, Lt, Le, Gt, Ge}
use Rattle.ground_form.specs.Programs.{Parts}
use Rattle.ground_form.specs.Ranges.{IsLiteralOf, IsRowOf, IsGroupOf}
use Rattle.theory_build.specs.declared.entries.Entry.{Entry}
use Rattle.theory_build.specs.Ascending.{ascending}
use Rattle.theory_build.specs.Entries.{yes, no, all_of, any_of}
use Rattle.theory_build.specs.Pieces.{Piece, in_turn}
use Rattle.theory_build.specs.declared.frames.Frame.{Frame}
use Rattle.theory_build.specs.Frames.{atom_lit}
use Rattle.theory_build.specs.declared.guards.Guards.{Guards}
use Rattle.theory_build.specs.Groups.{conjunct_piece, condition_piece, tuple_piece, row_piece, equal_piece, compare_piece, guard_piece, both_piece, group_piece, group_piece_at, groups_piece, needs_both}
use Rattle.theory_law.proofs.Entries.{IsBefore, IsDefined, AreDefined, defined_append, AreBefore, AreTermsBefore, before_more, ascending_before, terms_more, all_of_defined, any_of_defined, reaches_defined}

-- the variables of the piece are defined, and its name speaks of variables before its end
pub record IsPieceDefined {N : Type 0} (Before : ℕ → N → Type 0) (v : ℕ) (piece : Piece N) : Type 0 where
  pub entries : AreDefined v piece.entries
  pub name : Before (v + length piece.entries) piece.name

-- what is before one number is before each greater one
abbrev pub Grows : {N : Type 0} → (ℕ → N → Type 0) → Type 0
Grows {N} Before = (d e : ℕ) (n : N) → d ≤ e → Before d n → Before e n

-- ---- one piece after the other

pub all_before : {N : Type 0} (Before : ℕ → N → Type 0) → Grows Before → (d e : ℕ) (ns : List N) → d ≤ e → AllByRecursion (Before d) ns → AllByRecursion (Before e) ns
all_before Before grows d e [] le b = tt
all_before Before grows d e (n ∷ ns) le b = (grows d e n le b.0, all_before Before grows d e ns le b.1)

module _ {A N : Type 0} (piece : ℕ → A → Piece N) (Before : ℕ → N → Type 0) (grows : Grows Before) (P : A → Type 0) (least : ℕ) (each : (v : ℕ) (x : A) → least ≤ v → P x → IsPieceDefined Before v (piece v x)) where
  pub in_turn_defined : (v : ℕ) (xs : List A) → least ≤ v → AllByRecursion P xs → IsPieceDefined (λ e ns. AllByRecursion (Before e) ns) v (in_turn piece v xs)
  in_turn_defined v [] le h = record { entries = tt; name = tt }
  in_turn_defined v (x ∷ xs) le h =
      let first = each v x le h.0 in
      let ends : ℕ = v + length (piece v x).entries in
      let rest = in_turn_defined ends xs (omega arith) h.1 in
      let more : List Entry = (in_turn piece ends xs).entries in
      let total : v + length ((piece v x).entries ++ more) ≡ ends + length more = omega (arith, length-append (piece v x).entries more) in
      record {
        entries = defined_append v (piece v x).entries more first.entries rest.entries;
        name = (grows ends (v + length ((piece v x).entries ++ more)) (piece v x).name (omega arith) first.name, subst (λ e. AllByRecursion (Before e) (in_turn piece ends xs).name) (sym total) rest.name);
      }

-- ---- literals

abbrev pub IsLitBefore : ℕ → Lit → Type 0
IsLitBefore v l = IsBefore v l.var.0

pub lit_grows : Grows IsLitBefore
lit_grows d e l le b = before_more d e l.var.0 le b

-- the atoms and the variable that is true stand before v
pub record StandBefore (p : Frame) (n v : ℕ) : Type 0 where
  pub atoms : p.before + n < v
  pub truth : IsBefore v p.truth

pub atoms_before : (p : Frame) (n v : ℕ) → p.before + n < v → (lits : List ℤ) → AllByRecursion (IsLiteralOf n) lits → AreBefore v (map (atom_lit p) lits)
atoms_before p n v lt [] h = tt
atoms_before p n v lt (pos a ∷ lits) h = let low = h.0.0 in let high = h.0.1 in (record { some = omega arith; below = omega arith }, atoms_before p n v lt lits h.1)
atoms_before p n v lt (negsuc k ∷ lits) h = let high = h.0.1 in (record { some = omega arith; below = omega arith }, atoms_before p n v lt lits h.1)

-- the variable at v is before each greater number
own : (v e : ℕ) → 0 < v → v < e → IsBefore e v
own v e some lt = record { some = some; below = lt }

-- ---- tuples

conjunct_defined : (v : ℕ) (lits : List Lit) → 0 < v → AreBefore v lits → IsPieceDefined IsLitBefore v (conjunct_piece v lits)
conjunct_defined v [] some b = record { entries = (all_of_defined v [] some b, tt); name = own v (v + 1) some (omega arith) }
conjunct_defined v (l ∷ []) some b = record { entries = tt; name = before_more v (v + 0) l.var.0 (omega arith) b.0 }
conjunct_defined v (l ∷ m ∷ lits) some b = record { entries = (all_of_defined v (l ∷ m ∷ lits) some b, tt); name = own v (v + 1) some (omega arith) }

pub condition_defined : (p : Frame) (n v : ℕ) → p.before + n < v → (condition : List ℤ) → All (IsLiteralOf n) condition → IsPieceDefined IsLitBefore v (condition_piece p v condition)
unfolding condition_piece
condition_defined p n v lt condition h = conjunct_defined v (ascending lit_cmp (map (atom_lit p) condition)) (omega arith) (ascending_before v (map (atom_lit p) condition) (atoms_before p n v lt condition (recursion_from_All (IsLiteralOf n) condition h)))

-- a term of a sum, if it is one
abbrev pub IsTermBefore : ℕ → Option (ℤ × Var) → Type 0
IsTermBefore v None = ⊤
IsTermBefore v (Some t) = IsBefore v t.1.0

pub term_grows : Grows IsTermBefore
term_grows d e None le h = tt
term_grows d e (Some t) le h = before_more d e t.1.0 le h

tuple_defined : (v : ℕ) (weight : Option ℤ) (conditions : Piece (List Lit)) → 0 < v → IsPieceDefined (λ e ls. AllByRecursion (IsLitBefore e) ls) v conditions → IsPieceDefined IsTermBefore v (tuple_piece v weight conditions)
tuple_defined v weight conditions some d =
    let t : ℕ = v + length conditions.entries in
    let ends : v + length (conditions.entries ++ any_of t conditions.name ∷ []) ≡ t + 1 = omega (arith, length-append conditions.entries (any_of t conditions.name ∷ [])) in
    record {
      entries = defined_append v conditions.entries (any_of t conditions.name ∷ []) d.entries (any_of_defined t conditions.name (omega arith) d.name, tt);
      name = named weight (own t (v + length (conditions.entries ++ any_of t conditions.name ∷ [])) (omega arith) (omega arith));
    }
  where
    named : (w : Option ℤ) → IsBefore (v + length (conditions.entries ++ any_of (v + length conditions.entries) conditions.name ∷ [])) (v + length conditions.entries) → IsTermBefore (v + length (conditions.entries ++ any_of (v + length conditions.entries) conditions.name ∷ [])) (tuple_piece v w conditions).name
    named None b = tt
    named (Some k) b = b

pub row_defined : (p : Frame) (n v : ℕ) → p.before + n < v → (row : GroupRow) → IsRowOf n row → IsPieceDefined IsTermBefore v (row_piece p v row)
unfolding row_piece
row_defined p n v lt row h = tuple_defined v row.weight (in_turn (condition_piece p) v row.conditions) (omega arith)
    (in_turn_defined (condition_piece p) IsLitBefore lit_grows (λ c. All (IsLiteralOf n) c) v (λ w c le r. condition_defined p n w (omega arith) c r) v row.conditions (omega arith) (recursion_from_All (λ c. All (IsLiteralOf n) c) row.conditions h))

pub terms_before : (v : ℕ) (names : List (Option (ℤ × Var))) → AllByRecursion (IsTermBefore v) names → AreTermsBefore v (filter_map (λ term. term) names)
terms_before v [] h = tt
terms_before v (None ∷ names) h = terms_before v names h.1
terms_before v (Some t ∷ names) h = (h.0, terms_before v names h.1)

-- ---- guards

equal_defined : (terms : List (ℤ × Var)) (v : ℕ) (k : ℤ) (name : Lit) → 0 < v → AreTermsBefore v terms → name.var.0 ≡ v + 2 → IsPieceDefined IsLitBefore v (equal_piece terms v k name)
equal_defined terms v k name some b e =
    let next : AreTermsBefore (v + 1) terms = terms_more v (v + 1) terms (omega arith) b in
    let third : v + 1 + 1 ≡ v + 2 = omega arith in
    let lits : AreBefore (v + 2) (yes v ∷ no (v + 1) ∷ []) = (own v (v + 2) some (omega arith), (own (v + 1) (v + 2) (omega arith) (omega arith), tt)) in
    record {
      entries = (reaches_defined v terms k b, (reaches_defined (v + 1) terms (k +ℤ pos 1) next, (subst (λ w. IsDefined w (all_of (v + 2) (yes v ∷ no (v + 1) ∷ []))) (sym third) (all_of_defined (v + 2) (yes v ∷ no (v + 1) ∷ []) (omega arith) lits), tt)));
      name = own name.var.0 (v + 3) (omega arith) (omega arith);
    }

compare_defined : (terms : List (ℤ × Var)) (v : ℕ) (rel : GuardRel) (k : ℤ) → 0 < v → AreTermsBefore v terms → IsPieceDefined IsLitBefore v (compare_piece terms v rel k)
compare_defined terms v Ge k some b = record { entries = (reaches_defined v terms k b, tt); name = own v (v + 1) some (omega arith) }
compare_defined terms v Gt k some b = record { entries = (reaches_defined v terms (k +ℤ pos 1) b, tt); name = own v (v + 1) some (omega arith) }
compare_defined terms v Lt k some b = record { entries = (reaches_defined v terms k b, tt); name = own v (v + 1) some (omega arith) }
compare_defined terms v Le k some b = record { entries = (reaches_defined v terms (k +ℤ pos 1) b, tt); name = own v (v + 1) some (omega arith) }
compare_defined terms v Eq k some b = equal_defined terms v k (yes (v + 2)) some b refl
compare_defined terms v Ne k some b = equal_defined terms v k (no (v + 2)) some b refl

pub guard_defined : (truth : ℕ) (terms : List (ℤ × Var)) (v : ℕ) (guard : Option GroupGuard) → IsBefore v truth → AreTermsBefore v terms → IsPieceDefined IsLitBefore v (guard_piece truth terms v guard)
unfolding guard_piece
guard_defined truth terms v None lt b = record { entries = tt; name = before_more v (v + 0) truth (omega arith) lt }
guard_defined truth terms v (Some (Fixed holds)) lt b = record { entries = tt; name = before_more v (v + 0) truth (omega arith) lt }
guard_defined truth terms v (Some (Compare rel k)) lt b = compare_defined terms v rel k (omega (arith, lt.below)) b

-- ---- groups

pub record AreGuardsBefore (v : ℕ) (guards : Guards) : Type 0 where
  pub left : IsLitBefore v guards.left
  pub right : IsLitBefore v guards.right
  pub both : IsLitBefore v guards.both

pub guards_grow : Grows AreGuardsBefore
guards_grow d e guards le h = record { left = lit_grows d e guards.left le h.left; right = lit_grows d e guards.right le h.right; both = lit_grows d e guards.both le h.both }

both_defined : (truth : ℕ) (needed : Bool) (v : ℕ) (left right : Lit) → IsBefore v truth → IsLitBefore v left → IsLitBefore v right → IsPieceDefined IsLitBefore v (both_piece truth needed v left right)
both_defined truth true v left right lt l r = record { entries = (all_of_defined v (left ∷ right ∷ []) (omega (arith, lt.below)) (l, (r, tt)), tt); name = own v (v + 1) (omega (arith, lt.below)) (omega arith) }
both_defined truth false v left right lt l r = record { entries = tt; name = before_more v (v + 0) truth (omega arith) lt }

-- the parts of a group: its tuples, its guards, and both
pub record IsGroupSplit (p : Frame) (needed : Bool) (v : ℕ) (group : Group) : Type 0 where
  pub rows : Piece (List (Option (ℤ × Var)))
  pub terms : List (ℤ × Var)
  pub left_from : ℕ
  pub left : Piece Lit
  pub right_from : ℕ
  pub right : Piece Lit
  pub both_from : ℕ
  pub both : Piece Lit
  pub rows_is : rows ≡ in_turn (row_piece p) v group.rows
  pub terms_is : terms ≡ filter_map (λ term. term) rows.name
  pub left_at : left_from ≡ v + length rows.entries
  pub left_is : left ≡ guard_piece p.truth terms left_from group.left
  pub right_at : right_from ≡ left_from + length left.entries
  pub right_is : right ≡ guard_piece p.truth terms right_from group.right
  pub both_at : both_from ≡ right_from + length right.entries
  pub both_is : both ≡ both_piece p.truth needed both_from left.name right.name
  pub entries_is : (group_piece p needed v group).entries ≡ rows.entries ++ (left.entries ++ (right.entries ++ both.entries))
  pub name_is : (group_piece p needed v group).name ≡ record { left = left.name; right = right.name; both = both.name }

pub group_split : (p : Frame) (needed : Bool) (v : ℕ) (group : Group) → IsGroupSplit p needed v group
unfolding group_piece
group_split p needed v group =
    let rows : Piece (List (Option (ℤ × Var))) = in_turn (row_piece p) v group.rows in
    let terms : List (ℤ × Var) = filter_map (λ term. term) rows.name in
    let left_from : ℕ = v + length rows.entries in
    let left : Piece Lit = guard_piece p.truth terms left_from group.left in
    let right_from : ℕ = left_from + length left.entries in
    let right : Piece Lit = guard_piece p.truth terms right_from group.right in
    let both_from : ℕ = right_from + length right.entries in
    record {
      rows = rows;
      terms = terms;
      left_from = left_from;
      left = left;
      right_from = right_from;
      right = right;
      both_from = both_from;
      both = both_piece p.truth needed both_from left.name right.name;
      rows_is = refl;
      terms_is = refl;
      left_at = refl;
      left_is = refl;
      right_at = refl;
      right_is = refl;
      both_at = refl;
      both_is = refl;
      entries_is = refl;
      name_is = refl;
    }

module _ (p : Frame) (n : ℕ) (needed : Bool) (v : ℕ) (group : Group) (stand : StandBefore p n v) (range : IsGroupOf n group) where
  group_parts : IsGroupSplit p needed v group
  group_parts = group_split p needed v group

  pub group_defined : IsPieceDefined AreGuardsBefore v (group_piece p needed v group)
  group_defined =
      let s = group_parts in
      let rows : IsPieceDefined (λ e ts. AllByRecursion (IsTermBefore e) ts) v s.rows = subst (IsPieceDefined (λ e ts. AllByRecursion (IsTermBefore e) ts) v) (sym s.rows_is)
      (in_turn_defined (row_piece p) IsTermBefore term_grows (IsRowOf n) v (λ w row le r. let lt = stand.atoms in row_defined p n w (omega arith) row r) v group.rows (omega arith) (recursion_from_All (IsRowOf n) group.rows range.rows)) in
      let terms : AreTermsBefore s.left_from s.terms = subst (λ e. AreTermsBefore e s.terms) (sym s.left_at) (subst (AreTermsBefore (v + length s.rows.entries)) (sym s.terms_is) (terms_before (v + length s.rows.entries) s.rows.name rows.name)) in
      let left_low : IsBefore s.left_from p.truth = before_more v s.left_from p.truth (omega (arith, s.left_at)) stand.truth in
      let left : IsPieceDefined IsLitBefore s.left_from s.left = subst (IsPieceDefined IsLitBefore s.left_from) (sym s.left_is) (guard_defined p.truth s.terms s.left_from group.left left_low terms) in
      let right_up : s.left_from ≤ s.right_from = omega (arith, s.right_at) in
      let right : IsPieceDefined IsLitBefore s.right_from s.right = subst (IsPieceDefined IsLitBefore s.right_from) (sym s.right_is) (guard_defined p.truth s.terms s.right_from group.right (before_more s.left_from s.right_from p.truth right_up left_low) (terms_more s.left_from s.right_from s.terms right_up terms)) in
      let both_up : s.right_from ≤ s.both_from = omega (arith, s.both_at) in
      let left_name : IsLitBefore s.right_from s.left.name = subst (λ e. IsLitBefore e s.left.name) (sym s.right_at) left.name in
      let right_name : IsLitBefore s.both_from s.right.name = subst (λ e. IsLitBefore e s.right.name) (sym s.both_at) right.name in
      let both : IsPieceDefined IsLitBefore s.both_from s.both = subst (IsPieceDefined IsLitBefore s.both_from) (sym s.both_is) (both_defined p.truth needed s.both_from s.left.name s.right.name (before_more s.left_from s.both_from p.truth (omega arith) left_low) (lit_grows s.right_from s.both_from s.left.name both_up left_name) right_name) in
      let three : AreDefined s.right_from (s.right.entries ++ s.both.entries) = defined_append s.right_from s.right.entries s.both.entries right.entries (subst (λ w. AreDefined w s.both.entries) s.both_at both.entries) in
      let two : AreDefined s.left_from (s.left.entries ++ (s.right.entries ++ s.both.entries)) = defined_append s.left_from s.left.entries (s.right.entries ++ s.both.entries) left.entries (subst (λ w. AreDefined w (s.right.entries ++ s.both.entries)) s.right_at three) in
      let all : AreDefined v (s.rows.entries ++ (s.left.entries ++ (s.right.entries ++ s.both.entries))) = defined_append v s.rows.entries (s.left.entries ++ (s.right.entries ++ s.both.entries)) rows.entries (subst (λ w. AreDefined w (s.left.entries ++ (s.right.entries ++ s.both.entries))) s.left_at two) in
      let total : v + length (group_piece p needed v group).entries ≡ s.both_from + length s.both.entries =
      let cut = ap length s.entries_is in
      omega (arith, cut, s.left_at, s.right_at, s.both_at, length-append s.rows.entries (s.left.entries ++ (s.right.entries ++ s.both.entries)), length-append s.left.entries (s.right.entries ++ s.both.entries), length-append s.right.entries s.both.entries) in
      let ends : ℕ = v + length (group_piece p needed v group).entries in
      record {
        entries = subst (AreDefined v) (sym s.entries_is) all;
        name = subst (AreGuardsBefore ends) (sym s.name_is) (record {
          left = lit_grows s.right_from ends s.left.name (omega (arith, both_up, total)) left_name;
          right = lit_grows s.both_from ends s.right.name (omega (arith, total)) right_name;
          both = lit_grows (s.both_from + length s.both.entries) ends s.both.name (omega (arith, total)) both.name;
        });
      }

numbered_from : (n k : ℕ) (groups : List Group) → AllByRecursion (IsGroupOf n) groups → AllByRecursion (λ (x : ℕ × Group). IsGroupOf n x.1) (enumerate_from k groups)
numbered_from n k [] h = tt
numbered_from n k (group ∷ groups) h = (h.0, numbered_from n (k + 1) groups h.1)

-- the variables of all groups
pub groups_defined : (p : Frame) (g : Parts) (n : ℕ) → StandBefore p n p.groups_from → All (IsGroupOf n) g.groups → IsPieceDefined (λ e gs. AllByRecursion (AreGuardsBefore e) gs) p.groups_from (groups_piece p g)
unfolding groups_piece
groups_defined p g n stand h =
    in_turn_defined (group_piece_at p g) AreGuardsBefore guards_grow (λ (x : ℕ × Group). IsGroupOf n x.1) p.groups_from
    (λ v x le r. group_defined p n (needs_both g x.0) v x.1 (record { atoms = omega (arith, stand.atoms); truth = before_more p.groups_from v p.truth le stand.truth }) r)
    p.groups_from (enumerate_from 1 g.groups) (omega arith) (numbered_from n 1 g.groups (recursion_from_All (IsGroupOf n) g.groups h))
