-- What keeps the facts that are true of every theory.
use Rattle.std.proofs.Common.{◌≡◌, ◌≢◌, ℕ, suc, ◌+◌, ◌<◌, ◌≤◌, get_or, inl, inr, ◌++◌, List, [], ◌∷◌, length, take, map, Option, Some, None, refl, ap, sym, ◌∙◌, subst, arith}
use Rattle.std.specs.List.{All}
use Rattle.std.specs.Option.{option_and_then, option_map}
use Rattle.std.proofs.lemmas.List.{get_or_append_left, get_or_push, length-map, length_push, map-append, take-append-le, take-map, length-take}
use Rattle.std.proofs.lemmas.Option.{slice_get-map, slice_get-get_or}
use Rattle.std.proofs.lemmas.Bool.{cases_lt}
use Rattle.theory_form.specs.declared.literals.Lit.{Lit}
use Rattle.theory_form.specs.declared.literals.Var.{Var as VarOf}
use Rattle.theory_form.specs.declared.rows.VarKind.{VarKind}
use Rattle.theory_form.specs.declared.rows.VarKind.TheVariants as kind
use Rattle.theory_form.specs.declared.theories.Mark.{Mark}
use Rattle.theory_form.specs.declared.theories.Variable.{Variable}
use Rattle.theory_form.specs.declared.theories.Variable.TheVariants.{Atom, Sum, Body, Search, Other}
use Rattle.theory_form.specs.Kept.{kept_kind, HasNumber, kept_sum, kept_body, guard_after, IsGuard, IsCutGuard, AreLists, Unlists, listed, HoldsTheory}
use Rattle.theory_form.specs.Kinds.{IsKind, sum_row, body_row}
use Rattle.theory_form.specs.Numbers.{at_number}
use Rattle.theory_form.specs.Theories.{TheoryView, IsTheory, IsSearch, CanAdd, IsMarkOf}
use Rattle.theory_form.proofs.AtomLemmas.{AreLists-push, AreLists-pop, AreLists-block, AreLists-take, length-listed, length-unlists}
use Rattle.theory_form.proofs.NumberLemmas.{at_number-map, at_number-push, at_number-more, at_number-last, at_number-take, at_number-kept}

-- a kind that may be added is a kind
kind_from_can_add : (t : TheoryView) (k : VarKind) → CanAdd t k → IsKind t.blocks k
kind_from_can_add t (kind.Atom block supports) h = h
kind_from_can_add t (kind.Sum terms bound) h = h
kind_from_can_add t (kind.Body lits) h = tt
kind_from_can_add t kind.Search h = tt
kind_from_can_add t kind.Other h = tt

first_guard : (t : TheoryView) (k : VarKind) → CanAdd t k → k ≡ kind.Search → (v : ℕ) → IsSearch t v → ⊥
first_guard t (kind.Atom block supports) h e v s = cc
first_guard t (kind.Sum terms bound) h e v s = cc
first_guard t (kind.Body lits) h e v s = cc
first_guard t kind.Search h e v s = h v s
first_guard t kind.Other h e v s = cc

-- one more variable
pub IsTheory-push : (t : TheoryView) (k : VarKind) → CanAdd t k → IsTheory t → IsTheory (record t { variables = t.variables ++ k ∷ [] })
IsTheory-push t k can h = record {
  kinds = λ v j at. elim (at_number-push t.variables k v j at) [
    | inl there ↦ h.kinds v j there
    | inr last ↦ subst (IsKind t.blocks) last.1 (kind_from_can_add t k can)
  ];
  guard = λ v w sv sw. elim (at_number-push t.variables k v kind.Search sv) [
    | inl there ↦ elim (at_number-push t.variables k w kind.Search sw) [
      | inl also ↦ h.guard v w there also
      | inr last ↦ absurd (first_guard t k can last.1 v there)
    ]
    | inr last ↦ elim (at_number-push t.variables k w kind.Search sw) [
      | inl there ↦ absurd (first_guard t k can last.1 w there)
      | inr also ↦ last.0 ∙ sym also.0
    ]
  ];
}

-- the guard stays where the new variable is another
IsGuard-other : (kinds : List VarKind) (guard : Option VarOf) (k : VarKind) → k ≢ kind.Search → IsGuard kinds guard → IsGuard (kinds ++ k ∷ []) guard
IsGuard-other kinds None k other h = λ v at. elim (at_number-push kinds k v kind.Search at) [
  | inl there ↦ h v there
  | inr last ↦ other last.1
]
IsGuard-other kinds (Some g) k other h = at_number-more kinds (k ∷ []) g.0 kind.Search h

pub IsGuard-push : (kinds : List VarKind) (guard : Option VarOf) (var : VarOf) (k : VarKind) → var.0 ≡ length kinds + 1 → IsGuard kinds guard → IsGuard (kinds ++ k ∷ []) (guard_after guard var k)
IsGuard-push kinds guard var (kind.Atom block supports) e h = IsGuard-other kinds guard _ (λ q. cc) h
IsGuard-push kinds guard var (kind.Sum terms bound) e h = IsGuard-other kinds guard _ (λ q. cc) h
IsGuard-push kinds guard var (kind.Body lits) e h = IsGuard-other kinds guard _ (λ q. cc) h
IsGuard-push kinds guard var kind.Search e h = at_number-last kinds kind.Search var.0 e
IsGuard-push kinds guard var kind.Other e h = IsGuard-other kinds guard _ (λ q. cc) h

pub HoldsTheory-push : (items : List Variable) (clauses : List (Option (List Lit))) (lists : List (List VarOf)) (reserved : ℕ) (guard : Option VarOf) (room : ℕ) (var : VarOf) (k : VarKind) (x : Variable) → HoldsTheory items clauses lists reserved guard room → var.0 ≡ length items + 1 → HasNumber var.0 x → kept_kind x ≡ k → CanAdd (record { variables = map kept_kind items; clauses = clauses; blocks = length lists; reserved = reserved }) k → HoldsTheory (items ++ x ∷ []) clauses (listed lists var k) reserved (guard_after guard var k) room
HoldsTheory-push items clauses lists reserved guard room var k x h number has is_kind can =
    let t : TheoryView = record { variables = map kept_kind items; clauses = clauses; blocks = length lists; reserved = reserved } in
    let kinds : map kept_kind (items ++ x ∷ []) ≡ map kept_kind items ++ k ∷ [] = map-append kept_kind items (x ∷ []) ∙ ap (λ q. map kept_kind items ++ q ∷ []) is_kind in
    let at : var.0 ≡ length (map kept_kind items) + 1 = number ∙ ap (λ n. n + 1) (sym (length-map items kept_kind)) in
    let size = length-listed lists var k in
    record {
      rows = λ v j at. elim (at_number-push items x v j at) [
        | inl there ↦ h.rows v j there
        | inr last ↦ subst (HasNumber v) last.1 (subst (λ n. HasNumber n x) (number ∙ sym last.0) has)
      ];
      theory = subst (λ n. IsTheory (record { variables = map kept_kind (items ++ x ∷ []); clauses = clauses; blocks = n; reserved = reserved })) (sym size)
          (subst (λ ks. IsTheory (record t { variables = ks })) (sym kinds) (IsTheory-push t k can h.theory));
      lists_are = subst (λ ks. AreLists ks (listed lists var k)) (sym kinds) (AreLists-push (map kept_kind items) lists var k (kind_from_can_add t k can) at h.lists_are);
      guard_is = subst (λ ks. IsGuard ks (guard_after guard var k)) (sym kinds) (IsGuard-push (map kept_kind items) guard var k at h.guard_is);
      room_is = h.room_is;
    }

-- one more program
pub IsKind-more : (n m : ℕ) (k : VarKind) → n ≤ m → IsKind n k → IsKind m k
IsKind-more n m (kind.Atom block supports) le h = omega arith
IsKind-more n m (kind.Sum terms bound) le h = h
IsKind-more n m (kind.Body lits) le h = tt
IsKind-more n m kind.Search le h = tt
IsKind-more n m kind.Other le h = tt

pub HoldsTheory-block : (items : List Variable) (clauses : List (Option (List Lit))) (lists : List (List VarOf)) (reserved : ℕ) (guard : Option VarOf) (room : ℕ) → HoldsTheory items clauses lists reserved guard room → HoldsTheory items clauses (lists ++ [] ∷ []) reserved guard room
HoldsTheory-block items clauses lists reserved guard room h =
    let size = length_push lists [] in
    record {
      rows = h.rows;
      theory = record {
        kinds = λ v k at. IsKind-more (length lists) (length (lists ++ [] ∷ [])) k (omega arith) (h.theory.kinds v k at);
        guard = h.theory.guard;
      };
      lists_are = AreLists-block (record { variables = map kept_kind items; clauses = clauses; blocks = length lists; reserved = reserved }) lists refl h.theory h.lists_are;
      guard_is = h.guard_is;
      room_is = h.room_is;
    }

-- what came since a mark taken away

IsGuard-take : (kinds : List VarKind) (guard kept : Option VarOf) (n : ℕ) → IsGuard kinds guard → ((v w : ℕ) → at_number kinds v ≡ Some kind.Search → at_number kinds w ≡ Some kind.Search → v ≡ w) → IsCutGuard guard n kept → IsGuard (take n kinds) kept
IsGuard-take kinds None kept n h only c =
    subst (IsGuard (take n kinds)) (sym (c.none refl)) (λ v at. h v (at_number-take kinds n v kind.Search at).0)
IsGuard-take kinds (Some g) kept n h only c = elim (cases_lt n g.0) [
  | inl above ↦
      subst (IsGuard (take n kinds)) (sym (c.above g refl above))
      (λ v at. let there = at_number-take kinds n v kind.Search at in let same = only v g.0 there.0 h in let low = there.1 in omega arith)
  | inr within ↦ subst (IsGuard (take n kinds)) (sym (c.within g refl within)) (at_number-kept kinds n g.0 within ∙ h)
]

IsTheory-same : (s t : TheoryView) → t.variables ≡ s.variables → t.blocks ≡ s.blocks → IsTheory s → IsTheory t
IsTheory-same s t variables blocks h = record {
  kinds = λ v k at. subst (λ n. IsKind n k) (sym blocks) (h.kinds v k (ap (λ xs. at_number xs v) (sym variables) ∙ at));
  guard = λ v w sv sw.
      h.guard v w (ap (λ xs. at_number xs v) (sym variables) ∙ sv) (ap (λ xs. at_number xs w) (sym variables) ∙ sw);
}

-- so many programs are left as the mark says
pub cut-size : (t : TheoryView) (fewer : List (List VarOf)) (m : Mark) (marks : IsMarkOf m t) → length fewer ≡ t.blocks → length (take m.blocks fewer) ≡ marks.earlier.blocks
cut-size t fewer m marks size =
    let e = ap (λ (q : Mark). q.blocks) marks.is_mark in let q = marks.extends.blocks in omega (arith, length-take m.blocks fewer)

pub HoldsTheory-cut : (items : List Variable) (clauses : List (Option (List Lit))) (lists fewer : List (List VarOf)) (reserved : ℕ) (guard kept : Option VarOf) (room : ℕ) (m : Mark) → HoldsTheory items clauses lists reserved guard room → IsMarkOf m (record { variables = map kept_kind items; clauses = clauses; blocks = length lists; reserved = reserved }) → length fewer ≡ length lists → AreLists (map kept_kind (take m.variables items)) fewer → IsCutGuard guard m.variables kept → HoldsTheory (take m.variables items) (take m.clauses clauses) (take m.blocks fewer) reserved kept room
HoldsTheory-cut items clauses lists fewer reserved guard kept room m h marks size lists_are cut =
    let kinds : map kept_kind (take m.variables items) ≡ take m.variables (map kept_kind items) = sym (take-map kept_kind m.variables items) in
    let variables : map kept_kind (take m.variables items) ≡ marks.earlier.variables =
    kinds ∙ (ap (λ (q : Mark). take q.variables (map kept_kind items)) marks.is_mark ∙ marks.extends.variables)
    in
    record {
      rows = λ v k at. h.rows v k (at_number-take items m.variables v k at).0;
      theory = IsTheory-same marks.earlier _ variables (cut-size _ fewer m marks size) marks.valid;
      lists_are = AreLists-take (map kept_kind (take m.variables items)) fewer m.blocks lists_are;
      guard_is = subst (λ ks. IsGuard ks kept) (sym kinds) (IsGuard-take (map kept_kind items) guard kept m.variables h.guard_is h.theory.guard cut);
      room_is = let q = h.room_is in omega (arith, length-take m.clauses clauses);
    }

-- the rows that are kept are those that the kinds say
sum_row-kept : (v : ℕ) (x : Variable) → HasNumber v x → sum_row v (kept_kind x) ≡ kept_sum x
sum_row-kept v (Atom block supports) h = refl
sum_row-kept v (Sum row) h = ap (λ n. Some (record row { var = record { 0 = n } })) (sym h)
sum_row-kept v (Body row) h = refl
sum_row-kept v Search h = refl
sum_row-kept v Other h = refl

body_row-kept : (v : ℕ) (x : Variable) → HasNumber v x → body_row v (kept_kind x) ≡ kept_body x
body_row-kept v (Atom block supports) h = refl
body_row-kept v (Sum row) h = refl
body_row-kept v (Body row) h = ap (λ n. Some (record row { var = record { 0 = n } })) (sym h)
body_row-kept v Search h = refl
body_row-kept v Other h = refl

pub row_from_kept : (items : List Variable) (v : ℕ) (o : Option Variable) → ((k : Variable) → at_number items v ≡ Some k → HasNumber v k) → at_number items v ≡ o → option_and_then (sum_row v) (at_number (map kept_kind items) v) ≡ option_and_then kept_sum o
row_from_kept items v None h e = rw (at_number-map kept_kind items v, e) refl
row_from_kept items v (Some x) h e = rw (at_number-map kept_kind items v, e) (sum_row-kept v x (h x e))

pub body_from_kept : (items : List Variable) (v : ℕ) (o : Option Variable) → ((k : Variable) → at_number items v ≡ Some k → HasNumber v k) → at_number items v ≡ o → option_and_then (body_row v) (at_number (map kept_kind items) v) ≡ option_and_then kept_body o
body_from_kept items v None h e = rw (at_number-map kept_kind items v, e) refl
body_from_kept items v (Some x) h e = rw (at_number-map kept_kind items v, e) (body_row-kept v x (h x e))

-- the kinds of the kept variables are those of the theory's programs
pub kinds_known : (items : List Variable) (clauses : List (Option (List Lit))) (lists : List (List VarOf)) (reserved : ℕ) (guard : Option VarOf) (room : ℕ) → HoldsTheory items clauses lists reserved guard room → All (λ x. IsKind (length lists) (kept_kind x)) items
kinds_known items clauses lists reserved guard room h i d within =
    h.theory.kinds (suc i) (kept_kind (get_or items i d)) (slice_get-map kept_kind items i ∙ ap (option_map kept_kind) (slice_get-get_or items i d within))

-- one variable fewer
pub cut-step : (initial items new : List Variable) (last : Variable) (lists fewer : List (List VarOf)) (n count : ℕ) → items ≡ new ++ last ∷ [] → count < length items → length lists ≡ n → take count items ≡ take count initial → All (λ x. IsKind n (kept_kind x)) items → AreLists (map kept_kind items) lists → Unlists lists fewer (kept_kind last) → (length fewer ≡ n) × (take count new ≡ take count initial) × All (λ x. IsKind n (kept_kind x)) new × AreLists (map kept_kind new) fewer
cut-step initial items new last lists fewer n count e long size front kinds lists_are u =
    let known : All (λ x. IsKind n (kept_kind x)) (new ++ last ∷ []) = subst (All (λ x. IsKind n (kept_kind x))) e kinds in
    let count_in : count ≤ length new = let q = length_push new last in let p = ap length e in omega arith in
    let here : IsKind n (kept_kind last) = subst (λ x. IsKind n (kept_kind x)) (get_or_push new last last (length new) refl) (known (length new) last (let q = length_push new last in omega arith)) in (
      length-unlists lists fewer (kept_kind last) u ∙ size,
      sym (take-append-le count new (last ∷ []) count_in) ∙ (ap (take count) (sym e) ∙ front),
      λ i d within. subst (λ x. IsKind n (kept_kind x)) (get_or_append_left new (last ∷ []) d i within) (known i d (let q = length_push new last in omega arith)),
      AreLists-pop (map kept_kind new) lists fewer (kept_kind last) (subst (λ m. IsKind m (kept_kind last)) (sym size) here) u
          (subst (λ ks. AreLists ks lists) (ap (map kept_kind) e ∙ map-append kept_kind new (last ∷ [])) lists_are),
    )
