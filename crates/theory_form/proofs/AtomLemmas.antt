-- The lists of the programs' atoms.
use Rattle.std.proofs.Common.{◌≡◌, ℕ, zero, suc, ◌+◌, ◌<◌, ◌≤◌, ◌==◌, inl, inr, ◌++◌, Bool, true, false, if◌then◌else◌, List, [], ◌∷◌, length, slice_get, slice_index_or, slice_set, take, Option, Some, None, refl, ap, sym, ◌∙◌, subst, arith}
use Rattle.std.specs.List.{All, Contains}
use Rattle.std.specs.Option.{option_and_then}
use Rattle.std.proofs.lemmas.List.{append-nil, get_or-set_same, get_or-set_other, get_or_append_left, get_or_push, get_or-take, length-set, length-take, length_push}
use Rattle.std.proofs.lemmas.List.Elements.{Contains-append_cases, Contains-append_right, Contains-push_cases}
use Rattle.std.proofs.lemmas.List.Kept.{AllPairs-cons}
use Rattle.std.proofs.lemmas.Bool.Decides.{eqb_tells}
use Rattle.std.proofs.lemmas.Bool.{cases_lt, cond_both, eqb-true, ne_eqb}
use Rattle.std.proofs.lemmas.List.Elements.{All-cons, All-nil}
use Rattle.theory_form.specs.declared.literals.Lit.{Lit}
use Rattle.theory_form.specs.declared.literals.Var.{Var as VarOf}
use Rattle.theory_form.specs.declared.rows.VarKind.{VarKind}
use Rattle.theory_form.specs.declared.rows.VarKind.TheVariants as kind
use Rattle.theory_form.specs.Kept.{is_atom_of, atoms_from, AreLists, listed, Unlists}
use Rattle.theory_form.specs.Kinds.{IsKind, atom_block}
use Rattle.theory_form.specs.Literals.{AreAscending}
use Rattle.theory_form.specs.Theories.{TheoryView, IsTheory, AreAtoms, block_of, kind_of}

-- ---- one more variable

choice-append : {A : Type 0} (b : Bool) (x : A) (more few end : List A) → more ≡ few ++ end → (if b then x ∷ more else more) ≡ (if b then x ∷ few else few) ++ end
choice-append true x more few end h = ap (λ xs. x ∷ xs) h
choice-append false x more few end h = h

atoms_from-push : (v : ℕ) (ks : List VarKind) (k : VarKind) (block : ℕ) → atoms_from v (ks ++ k ∷ []) block ≡ atoms_from v ks block ++ atoms_from (v + length ks) (k ∷ []) block
atoms_from-push v [] k block = let e : v ≡ v + 0 = omega arith in ap (λ n. atoms_from n (k ∷ []) block) e
atoms_from-push v (x ∷ ks) k block =
    let e : suc v + length ks ≡ v + suc (length ks) = omega arith in
    choice-append (is_atom_of block x) (record { 0 = v }) _ _ _
    (atoms_from-push (suc v) ks k block ∙ ap (λ n. atoms_from (suc v) ks block ++ atoms_from n (k ∷ []) block) e)

-- no atom of this program comes
atoms_from-others : (v : ℕ) (ks : List VarKind) (k : VarKind) (block : ℕ) → is_atom_of block k ≡ false → atoms_from v (ks ++ k ∷ []) block ≡ atoms_from v ks block
atoms_from-others v ks k block h =
    atoms_from-push v ks k block
    ∙ (ap (λ b. atoms_from v ks block ++ (if b then record { 0 = v + length ks } ∷ [] else [])) h ∙ append-nil (atoms_from v ks block))

-- an atom of this program comes
atoms_from-one : (v : ℕ) (ks : List VarKind) (k : VarKind) (block : ℕ) → is_atom_of block k ≡ true → atoms_from v (ks ++ k ∷ []) block ≡ atoms_from v ks block ++ record { 0 = v + length ks } ∷ []
atoms_from-one v ks k block h =
    atoms_from-push v ks k block ∙ ap (λ b. atoms_from v ks block ++ (if b then record { 0 = v + length ks } ∷ [] else [])) h

lists-others : (kinds : List VarKind) (lists : List (List VarOf)) (k : VarKind) → ((block : ℕ) → is_atom_of block k ≡ false) → AreLists kinds lists → AreLists (kinds ++ k ∷ []) lists
lists-others kinds lists k none h block within = h block within ∙ sym (atoms_from-others 1 kinds k block (none block))

lists-atom : (kinds : List VarKind) (lists : List (List VarOf)) (var : VarOf) (b : ℕ) (supports : List Lit) → b < length lists → var.0 ≡ length kinds + 1 → AreLists kinds lists → AreLists (kinds ++ kind.Atom b supports ∷ []) (slice_set lists b (slice_index_or lists b [] ++ var ∷ []))
lists-atom kinds lists var b supports begun number h block within = elim (eqb_tells b block) [
  | inl same ↦
      let e : var ≡ record { 0 = 1 + length kinds } = ap (λ n. let w : VarOf = record { 0 = n } in w) (omega (arith, number)) in
      subst (λ n. slice_index_or (slice_set lists b (slice_index_or lists b [] ++ var ∷ [])) n [] ≡ atoms_from 1 kinds n ++ record { 0 = 1 + length kinds } ∷ []) same.1
      (get_or-set_same lists b (slice_index_or lists b [] ++ var ∷ []) [] begun ∙ (ap (λ xs. xs ++ var ∷ []) (h b begun) ∙ ap (λ w. atoms_from 1 kinds b ++ w ∷ []) e))
      ∙ sym (atoms_from-one 1 kinds (kind.Atom b supports) block same.0)
  | inr other ↦
      get_or-set_other lists b block (slice_index_or lists b [] ++ var ∷ []) [] (λ e. other.1 (sym e))
      ∙ (h block (subst (λ n. block < n) (length-set lists b _) within) ∙ sym (atoms_from-others 1 kinds (kind.Atom b supports) block other.0))
]

pub AreLists-push : (kinds : List VarKind) (lists : List (List VarOf)) (var : VarOf) (k : VarKind) → IsKind (length lists) k → var.0 ≡ length kinds + 1 → AreLists kinds lists → AreLists (kinds ++ k ∷ []) (listed lists var k)
AreLists-push kinds lists var (kind.Atom b supports) begun number h = lists-atom kinds lists var b supports begun number h
AreLists-push kinds lists var (kind.Sum terms bound) begun number h = lists-others kinds lists _ (λ b. refl) h
AreLists-push kinds lists var (kind.Body lits) begun number h = lists-others kinds lists _ (λ b. refl) h
AreLists-push kinds lists var kind.Search begun number h = lists-others kinds lists _ (λ b. refl) h
AreLists-push kinds lists var kind.Other begun number h = lists-others kinds lists _ (λ b. refl) h

pub length-listed : (lists : List (List VarOf)) (var : VarOf) (k : VarKind) → length (listed lists var k) ≡ length lists
length-listed lists var (kind.Atom b supports) = length-set lists b _
length-listed lists var (kind.Sum terms bound) = refl
length-listed lists var (kind.Body lits) = refl
length-listed lists var kind.Search = refl
length-listed lists var kind.Other = refl

-- ---- the last variable taken away

lists-without : (kinds : List VarKind) (lists : List (List VarOf)) (k : VarKind) → ((block : ℕ) → is_atom_of block k ≡ false) → AreLists (kinds ++ k ∷ []) lists → AreLists kinds lists
lists-without kinds lists k none h block within = h block within ∙ atoms_from-others 1 kinds k block (none block)

lists-unlisted : (kinds : List VarKind) (lists : List (List VarOf)) (b : ℕ) (supports : List Lit) (kept : List VarOf) → b < length lists → ((vs : List VarOf) (v : VarOf) → slice_index_or lists b [] ≡ vs ++ v ∷ [] → kept ≡ vs) → AreLists (kinds ++ kind.Atom b supports ∷ []) lists → AreLists kinds (slice_set lists b kept)
lists-unlisted kinds lists b supports kept begun last h block within = elim (eqb_tells b block) [
  | inl same ↦
      subst (λ n. slice_index_or (slice_set lists b kept) n [] ≡ atoms_from 1 kinds n) same.1
      (get_or-set_same lists b kept [] begun
      ∙ last (atoms_from 1 kinds b) (record { 0 = 1 + length kinds }) (h b begun ∙ atoms_from-one 1 kinds (kind.Atom b supports) b (subst (λ n. (b == n) ≡ true) (sym same.1) same.0)))
  | inr other ↦
      get_or-set_other lists b block kept [] (λ e. other.1 (sym e))
      ∙ (h block (subst (λ n. block < n) (length-set lists b _) within) ∙ atoms_from-others 1 kinds (kind.Atom b supports) block other.0)
]

pub AreLists-pop : (kinds : List VarKind) (lists new : List (List VarOf)) (k : VarKind) → IsKind (length lists) k → Unlists lists new k → AreLists (kinds ++ k ∷ []) lists → AreLists kinds new
AreLists-pop kinds lists new (kind.Atom b supports) begun u h =
    subst (AreLists kinds) (sym u.1) (lists-unlisted kinds lists b supports u.0 begun u.2 h)
AreLists-pop kinds lists new (kind.Sum terms bound) begun u h = subst (AreLists kinds) (sym u) (lists-without kinds lists _ (λ b. refl) h)
AreLists-pop kinds lists new (kind.Body lits) begun u h = subst (AreLists kinds) (sym u) (lists-without kinds lists _ (λ b. refl) h)
AreLists-pop kinds lists new kind.Search begun u h = subst (AreLists kinds) (sym u) (lists-without kinds lists _ (λ b. refl) h)
AreLists-pop kinds lists new kind.Other begun u h = subst (AreLists kinds) (sym u) (lists-without kinds lists _ (λ b. refl) h)

pub length-unlists : (lists new : List (List VarOf)) (k : VarKind) → Unlists lists new k → length new ≡ length lists
length-unlists lists new (kind.Atom b supports) u = ap length u.1 ∙ length-set lists b u.0
length-unlists lists new (kind.Sum terms bound) u = ap length u
length-unlists lists new (kind.Body lits) u = ap length u
length-unlists lists new kind.Search u = ap length u
length-unlists lists new kind.Other u = ap length u

-- ---- what a list has

is_atom-block : (block : ℕ) (k : VarKind) → is_atom_of block k ≡ true → atom_block k ≡ Some block
is_atom-block block (kind.Atom b supports) h = ap Some (eqb-true b block h)
is_atom-block block (kind.Sum terms bound) h = cc
is_atom-block block (kind.Body lits) h = cc
is_atom-block block kind.Search h = cc
is_atom-block block kind.Other h = cc

eqb-reflexive : (b : ℕ) → (b == b) ≡ true
eqb-reflexive b = elim (eqb_tells b b) [
  | inl same ↦ same.0
  | inr other ↦ absurd (other.1 refl)
]

block-is_atom : (block : ℕ) (k : VarKind) → atom_block k ≡ Some block → is_atom_of block k ≡ true
block-is_atom block (kind.Atom b supports) h = let e : b ≡ block = cc in subst (λ n. (b == n) ≡ true) e (eqb-reflexive b)
block-is_atom block (kind.Sum terms bound) h = cc
block-is_atom block (kind.Body lits) h = cc
block-is_atom block kind.Search h = cc
block-is_atom block kind.Other h = cc

atoms_above : (v : ℕ) (ks : List VarKind) (block : ℕ) → All (λ (w : VarOf). v ≤ w.0) (atoms_from v ks block)
atoms_above v [] block = All-nil (λ (w : VarOf). v ≤ w.0)
atoms_above v (k ∷ ks) block =
    let rest : All (λ (w : VarOf). v ≤ w.0) (atoms_from (suc v) ks block) = λ i d within. let q = atoms_above (suc v) ks block i d within in omega arith in
    cond_both (is_atom_of block k) (record { 0 = v } ∷ atoms_from (suc v) ks block) (atoms_from (suc v) ks block) (All (λ (w : VarOf). v ≤ w.0))
    (λ _. All-cons (λ (w : VarOf). v ≤ w.0) (record { 0 = v }) (atoms_from (suc v) ks block) (omega arith) rest) (λ _. rest)

atoms_ascend : (v : ℕ) (ks : List VarKind) (block : ℕ) → AreAscending (atoms_from v ks block)
atoms_ascend v [] block = λ i j d before within. absurd (omega arith)
atoms_ascend v (k ∷ ks) block =
    let rest = atoms_ascend (suc v) ks block in
    cond_both (is_atom_of block k) (record { 0 = v } ∷ atoms_from (suc v) ks block) (atoms_from (suc v) ks block) AreAscending
    (λ _. AllPairs-cons (λ (x y : VarOf). x.0 < y.0) (record { 0 = v }) (atoms_from (suc v) ks block) (λ i d within. let q = atoms_above (suc v) ks block i d within in omega arith) rest)
    (λ _. rest)

-- the variable with this number is an atom of the program, where the first kind has the number v
abbrev IsAtomFrom : ℕ → List VarKind → ℕ → VarOf → Type 0
IsAtomFrom v ks block w = (j : ℕ) × (w.0 ≡ v + j) × (option_and_then atom_block (slice_get ks j) ≡ Some block)

later : (v : ℕ) (k : VarKind) (ks : List VarKind) (block : ℕ) (w : VarOf) → IsAtomFrom (suc v) ks block w → IsAtomFrom v (k ∷ ks) block w
later v k ks block w h = let q = h.1 in (suc h.0, omega arith, h.2)

atoms_known : (v : ℕ) (ks : List VarKind) (block : ℕ) (w : VarOf) → Contains (atoms_from v ks block) w → IsAtomFrom v ks block w
atoms_known v [] block w = λ h. let q = h.1 in absurd (omega arith)
atoms_known v (k ∷ ks) block w =
    let rest : Contains (atoms_from (suc v) ks block) w → IsAtomFrom v (k ∷ ks) block w = λ h. later v k ks block w (atoms_known (suc v) ks block w h) in
    cond_both (is_atom_of block k) (record { 0 = v } ∷ atoms_from (suc v) ks block) (atoms_from (suc v) ks block) (λ xs. Contains xs w → IsAtomFrom v (k ∷ ks) block w)
    (λ is h. elim (Contains-append_cases (record { 0 = v } ∷ []) (atoms_from (suc v) ks block) w h) [
      | inl first ↦ elim (Contains-push_cases [] (record { 0 = v }) w first) [
        | inl none ↦ let q = none.1 in absurd (omega arith)
        | inr same ↦ (0, let e = ap (λ (x : VarOf). x.0) same in omega arith, is_atom-block block k is)
      ]
      | inr more ↦ rest more
    ])
    (λ _. rest)

atoms_there : (v : ℕ) (ks : List VarKind) (block j : ℕ) → option_and_then atom_block (slice_get ks j) ≡ Some block → Contains (atoms_from v ks block) (record { 0 = v + j })
atoms_there v [] block j h = cc
atoms_there v (k ∷ ks) block zero h =
    subst (λ (b : Bool). Contains (if b then record { 0 = v } ∷ atoms_from (suc v) ks block else atoms_from (suc v) ks block) (record { 0 = v + 0 })) (sym (block-is_atom block k h))
    (let e : v ≡ v + 0 = omega arith in subst (λ n. Contains (record { 0 = v } ∷ atoms_from (suc v) ks block) (record { 0 = n })) e (0, omega arith, refl))
atoms_there v (k ∷ ks) block (suc j) h =
    let e : suc v + j ≡ v + suc j = omega arith in
    let rest = subst (λ n. Contains (atoms_from (suc v) ks block) (record { 0 = n })) e (atoms_there (suc v) ks block j h) in
    cond_both (is_atom_of block k) (record { 0 = v } ∷ atoms_from (suc v) ks block) (atoms_from (suc v) ks block) (λ xs. Contains xs (record { 0 = v + suc j }))
    (λ _. Contains-append_right (record { 0 = v } ∷ []) (atoms_from (suc v) ks block) (record { 0 = v + suc j }) rest) (λ _. rest)

-- a list that has what such a list has is the program's
there_from : (t : TheoryView) (block v : ℕ) → block_of t v ≡ Some block → Contains (atoms_from 1 t.variables block) (record { 0 = v })
there_from t block zero h = cc
there_from t block (suc j) h =
    let e : 1 + j ≡ suc j = omega arith in subst (λ n. Contains (atoms_from 1 t.variables block) (record { 0 = n })) e (atoms_there 1 t.variables block j h)

known_from : (t : TheoryView) (block : ℕ) (v : VarOf) → Contains (atoms_from 1 t.variables block) v → block_of t v.0 ≡ Some block
known_from t block v h =
    let w = atoms_known 1 t.variables block v h in
    let e : suc w.0 ≡ v.0 = let q = w.1 in omega arith in
    subst (λ n. block_of t n ≡ Some block) e w.2

pub AreAtoms-from : (t : TheoryView) (block : ℕ) (atoms : List VarOf) → atoms ≡ atoms_from 1 t.variables block → AreAtoms t block atoms
AreAtoms-from t block atoms e =
    subst (AreAtoms t block) (sym e) (record { ascending = atoms_ascend 1 t.variables block; members = λ v. (known_from t block v, there_from t block v.0) })

-- a program that was not begun has none
not_begun : (blocks block : ℕ) (o : Option VarKind) → blocks ≤ block → ((k : VarKind) → o ≡ Some k → IsKind blocks k) → option_and_then atom_block o ≡ Some block → ⊥
not_begun blocks block None high kinds h = cc
not_begun blocks block (Some (kind.Atom b supports)) high kinds h =
    let e : b ≡ block = cc in let low = kinds (kind.Atom b supports) refl in omega arith
not_begun blocks block (Some (kind.Sum terms bound)) high kinds h = cc
not_begun blocks block (Some (kind.Body lits)) high kinds h = cc
not_begun blocks block (Some kind.Search) high kinds h = cc
not_begun blocks block (Some kind.Other) high kinds h = cc

pub AreAtoms-none : (t : TheoryView) (block : ℕ) → IsTheory t → t.blocks ≤ block → AreAtoms t block []
AreAtoms-none t block theory high = record {
  ascending = λ i j d before within. absurd (omega arith);
  members = λ v. (
    λ h. let q = h.1 in absurd (omega arith),
    λ h. absurd (not_begun t.blocks block (kind_of t v.0) high (theory.kinds v.0) h),
  );
}

-- ---- programs begun and taken away

not_last : (block : ℕ) (k : VarKind) → IsKind block k → is_atom_of block k ≡ false
not_last block (kind.Atom b supports) h = ne_eqb b block (λ e. omega arith)
not_last block (kind.Sum terms bound) h = refl
not_last block (kind.Body lits) h = refl
not_last block kind.Search h = refl
not_last block kind.Other h = refl

atoms_none : (v : ℕ) (ks : List VarKind) (block : ℕ) → ((j : ℕ) (k : VarKind) → slice_get ks j ≡ Some k → is_atom_of block k ≡ false) → atoms_from v ks block ≡ []
atoms_none v [] block h = refl
atoms_none v (k ∷ ks) block h =
    subst (λ (b : Bool). (if b then record { 0 = v } ∷ atoms_from (suc v) ks block else atoms_from (suc v) ks block) ≡ []) (sym (h 0 k refl))
    (atoms_none (suc v) ks block (λ j x at. h (suc j) x at))

pub AreLists-block : (t : TheoryView) (lists : List (List VarOf)) → t.blocks ≡ length lists → IsTheory t → AreLists t.variables lists → AreLists t.variables (lists ++ [] ∷ [])
AreLists-block t lists size theory h block within = elim (cases_lt block (length lists)) [
  | inl before ↦ get_or_append_left lists ([] ∷ []) [] block before ∙ h block before
  | inr last ↦
      let e : length lists ≡ block = (let q = length_push lists [] in omega arith) in
      get_or_push lists [] [] block e
      ∙ sym (atoms_none 1 t.variables block (λ j k at. not_last block k (subst (λ n. IsKind n k) (size ∙ e) (theory.kinds (suc j) k at))))
]

pub AreLists-take : (kinds : List VarKind) (lists : List (List VarOf)) (n : ℕ) → AreLists kinds lists → AreLists kinds (take n lists)
AreLists-take kinds lists n h block within =
    let q = length-take n lists in get_or-take n lists block [] (omega arith) ∙ h block (omega arith)
