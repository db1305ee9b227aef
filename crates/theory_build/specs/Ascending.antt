-- Lists in ascending order, in which nothing stands twice.
use Rattle.std.specs.Prelude.{ℕ, List, [], ◌∷◌, position, unwrap_or}
use Rattle.std.specs.List.{Contains}
use Rattle.std.specs.Ordering.{is_eq}
use Rattle.std.specs.Cmp.Lexicographic.{slice_cmp}
use Rattle.std.specs.declared.cmp.Ordering.{Ordering}
use Rattle.std.specs.declared.cmp.Ordering.TheVariants.{Less, Equal, Greater}
use Rattle.theory_form.specs.declared.literals.Lit.{Lit}
use Rattle.theory_form.specs.Literals.{lit_cmp}

-- one of three, by how two members compare
abbrev pub by_order : {A : Type 0} → Ordering → A → A → A → A
by_order Less less equal greater = less
by_order Equal less equal greater = equal
by_order Greater less equal greater = greater

-- an ascending list with one more member, unless it is there
abbrev pub insert_in : {A : Type 0} → (A → A → Ordering) → A → List A → List A
insert_in cmp x [] = x ∷ []
insert_in cmp x (y ∷ ys) = by_order (cmp x y) (x ∷ y ∷ ys) (y ∷ ys) (y ∷ insert_in cmp x ys)

-- the members of a list in ascending order, each once
unfoldable pub ascending : {A : Type 0} → (A → A → Ordering) → List A → List A
ascending cmp [] = []
ascending cmp (x ∷ xs) = insert_in cmp x (ascending cmp xs)

-- lists of literals are ordered member by member, a proper prefix first
abbrev pub lits_cmp : List Lit → List Lit → Ordering
lits_cmp = slice_cmp lit_cmp

-- the first place in a list, from 0, where this list of literals stands
unfoldable pub place_in : List (List Lit) → List Lit → ℕ
place_in lists lits = unwrap_or (position (λ other. is_eq (lits_cmp lits other)) lists) 0

-- the two lists have the same members, so they are alike to `ascending`
pub record SameMembers {A : Type 0} (xs ys : List A) : Type 0 where
  pub there : (x : A) → Contains xs x → Contains ys x
  pub back : (x : A) → Contains ys x → Contains xs x
