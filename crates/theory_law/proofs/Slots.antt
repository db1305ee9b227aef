-- The clauses and sums of a theory, entry by entry.
use Rattle.std.proofs.Common.{◌≡◌, ℕ, zero, suc, ◌+◌, Bool, true, List, [], ◌∷◌, ◌++◌, map, length, refl, sym, ap, ◌∙◌, subst, Option, Some, None, arith}
use Rattle.std.specs.Prelude.{IsTrue, IfSome, slice_get}
use Rattle.std.specs.Option.{option_and_then}
use Rattle.std.specs.List.{AllByRecursion}
use Rattle.std.proofs.lemmas.Bool.{and_parts, and_from}
use Rattle.std.proofs.lemmas.List.Folds.{list_all-append}
use Rattle.theory_form.specs.declared.literals.Lit.{Lit}
use Rattle.theory_form.specs.declared.rows.SumRow.{SumRow}
use Rattle.theory_form.specs.declared.rows.VarKind.{VarKind}
use Rattle.theory_form.specs.declared.rows.VarKind.TheVariants.{Atom, Sum, Body, Search, Other}
use Rattle.theory_form.specs.Kinds.{sum_row}
use Rattle.theory_form.specs.Numbers.{at_number}
use Rattle.theory_model.specs.Truth.{clause_true, IsRowTrue}
use Rattle.theory_build.specs.declared.entries.Entry.{Entry}
use Rattle.theory_build.specs.Completion.{kinds_of, clauses_of}
use Rattle.theory_law.proofs.Clauses.{clauses_true}
use Rattle.theory_law.proofs.Entries.{IsKindTrue, AreEntriesTrue}

pub split_all : {X : Type 0} (P : X → Type 0) (xs ys : List X) → AllByRecursion P (xs ++ ys) → AllByRecursion P xs × AllByRecursion P ys
split_all P [] ys h = (tt, h)
split_all P (x ∷ xs) ys h = let rest = split_all P xs ys h.1 in ((h.0, rest.0), rest.1)

pub join_all : {X : Type 0} (P : X → Type 0) (xs ys : List X) → AllByRecursion P xs → AllByRecursion P ys → AllByRecursion P (xs ++ ys)
join_all P [] ys h k = k
join_all P (x ∷ xs) ys h k = (h.0, join_all P xs ys h.1 k)

-- ---- clauses

-- the clause that stands here is true, if one does
abbrev pub IsSlotTrue : (ℕ → Bool) → Option (List Lit) → Type 0
IsSlotTrue f slot = IfSome slot (λ c. IsTrue (clause_true f c))

abbrev pub AreSlotsTrue : (ℕ → Bool) → List (Option (List Lit)) → Type 0
AreSlotsTrue f slots = AllByRecursion (IsSlotTrue f) slots

-- each clause that has a number is true
abbrev pub AreClausesTrue : (ℕ → Bool) → List (Option (List Lit)) → Type 0
AreClausesTrue f slots = (id : ℕ) (c : List Lit) → option_and_then (λ slot. slot) (at_number slots id) ≡ Some c → IsTrue (clause_true f c)

pub slots_from_clauses : (f : ℕ → Bool) (slots : List (Option (List Lit))) → AreClausesTrue f slots → AreSlotsTrue f slots
slots_from_clauses f [] h = tt
slots_from_clauses f (slot ∷ slots) h = (first slot (λ c e. h 1 c e), slots_from_clauses f slots (λ id c e. h (suc id) c (later id c e)))
  where
    first : (s : Option (List Lit)) → ((c : List Lit) → s ≡ Some c → IsTrue (clause_true f c)) → IsSlotTrue f s
    first None k = tt
    first (Some c) k = k c refl

    later : (id : ℕ) (c : List Lit) → option_and_then (λ s. s) (at_number slots id) ≡ Some c → option_and_then (λ s. s) (at_number (slot ∷ slots) (suc id)) ≡ Some c
    later zero c e = absurd (cc)
    later (suc k) c e = e

pub clauses_from_slots : (f : ℕ → Bool) (slots : List (Option (List Lit))) → AreSlotsTrue f slots → AreClausesTrue f slots
clauses_from_slots f slots h zero c e = absurd (cc)
clauses_from_slots f [] h (suc k) c e = absurd (cc)
clauses_from_slots f (slot ∷ slots) h (suc zero) c e = subst (IsSlotTrue f) e h.0
clauses_from_slots f (slot ∷ slots) h (suc (suc k)) c e = clauses_from_slots f slots h.1 (suc k) c e

pub slots_of : (f : ℕ → Bool) (cs : List (List Lit)) → AreSlotsTrue f (map (λ c. Some c) cs) → clauses_true f cs ≡ true
slots_of f [] h = refl
slots_of f (c ∷ cs) h = and_from (clause_true f c) (clauses_true f cs) h.0 (slots_of f cs h.1)

pub of_slots : (f : ℕ → Bool) (cs : List (List Lit)) → clauses_true f cs ≡ true → AreSlotsTrue f (map (λ c. Some c) cs)
of_slots f [] h = tt
of_slots f (c ∷ cs) h = let parts = and_parts (clause_true f c) (clauses_true f cs) h in (parts.0, of_slots f cs parts.1)

-- ---- sums

abbrev pub AreKindsTrue : (ℕ → Bool) → ℕ → List VarKind → Type 0
AreKindsTrue f v [] = Unit {0}
AreKindsTrue f v (k ∷ ks) = IsKindTrue f v k × AreKindsTrue f (v + 1) ks

-- the row of each sum variable is true
abbrev pub AreSumsTrue : (ℕ → Bool) → List VarKind → Type 0
AreSumsTrue f kinds = (v : ℕ) (row : SumRow) → option_and_then (sum_row v) (at_number kinds v) ≡ Some row → IsRowTrue f row

kind_from_row : (f : ℕ → Bool) (v : ℕ) (k : VarKind) → ((row : SumRow) → sum_row v k ≡ Some row → IsRowTrue f row) → IsKindTrue f v k
kind_from_row f v (Atom block supports) h = tt
kind_from_row f v (Sum terms bound) h = h (record { var = record { 0 = v }; terms = terms; bound = bound }) refl
kind_from_row f v (Body lits) h = tt
kind_from_row f v Search h = tt
kind_from_row f v Other h = tt

row_from_kind : (f : ℕ → Bool) (v : ℕ) (k : VarKind) (row : SumRow) → sum_row v k ≡ Some row → IsKindTrue f v k → IsRowTrue f row
row_from_kind f v (Atom block supports) row e h = absurd (cc)
row_from_kind f v (Sum terms bound) row e h =
    let here : SumRow = record { var = record { 0 = v }; terms = terms; bound = bound } in
    let same : here ≡ row = cc in subst (IsRowTrue f) same h
row_from_kind f v (Body lits) row e h = absurd (cc)
row_from_kind f v Search row e h = absurd (cc)
row_from_kind f v Other row e h = absurd (cc)

kinds_from : (f : ℕ → Bool) (from : ℕ) (kinds : List VarKind) → ((k : ℕ) (kind : VarKind) → slice_get kinds k ≡ Some kind → IsKindTrue f (from + k) kind) → AreKindsTrue f from kinds
kinds_from f from [] h = tt
kinds_from f from (kind ∷ kinds) h =
    let at : from + 0 ≡ from = omega arith in (
      subst (λ v. IsKindTrue f v kind) at (h 0 kind refl),
      kinds_from f (from + 1) kinds (λ k other e.
          let next : from + suc k ≡ (from + 1) + k = omega arith in
          subst (λ v. IsKindTrue f v other) next (h (suc k) other e)),
    )

kinds_at : (f : ℕ → Bool) (from : ℕ) (kinds : List VarKind) → AreKindsTrue f from kinds → (k : ℕ) (kind : VarKind) → slice_get kinds k ≡ Some kind → IsKindTrue f (from + k) kind
kinds_at f from [] h k kind e = absurd (cc)
kinds_at f from (first ∷ kinds) h zero kind e =
    let at : from ≡ from + 0 = omega arith in let same : first ≡ kind = cc in
    subst (λ v. IsKindTrue f v kind) at (subst (IsKindTrue f from) same h.0)
kinds_at f from (first ∷ kinds) h (suc k) kind e =
    let at : (from + 1) + k ≡ from + suc k = omega arith in
    subst (λ v. IsKindTrue f v kind) at (kinds_at f (from + 1) kinds h.1 k kind e)

pub kinds_from_sums : (f : ℕ → Bool) (kinds : List VarKind) → AreSumsTrue f kinds → AreKindsTrue f 1 kinds
kinds_from_sums f kinds h = kinds_from f 1 kinds (λ k kind e.
    let at : suc k ≡ 1 + k = omega arith in
    subst (λ v. IsKindTrue f v kind) at (kind_from_row f (suc k) kind (λ row r. h (suc k) row (ap (option_and_then (sum_row (suc k))) e ∙ r))))

pub sums_from_kinds : (f : ℕ → Bool) (kinds : List VarKind) → AreKindsTrue f 1 kinds → AreSumsTrue f kinds
sums_from_kinds f kinds h zero row e = absurd (cc)
sums_from_kinds f kinds h (suc k) row e = go (slice_get kinds k) refl e
  where
    go : (o : Option VarKind) → slice_get kinds k ≡ o → option_and_then (sum_row (suc k)) o ≡ Some row → IsRowTrue f row
    go None s r = absurd (cc)
    go (Some kind) s r =
        let at : 1 + k ≡ suc k = omega arith in
        row_from_kind f (suc k) kind row r (subst (λ v. IsKindTrue f v kind) at (kinds_at f 1 kinds h k kind s))

pub kinds_split : (f : ℕ → Bool) (v : ℕ) (xs ys : List VarKind) → AreKindsTrue f v (xs ++ ys) → AreKindsTrue f v xs × AreKindsTrue f (v + length xs) ys
kinds_split f v [] ys h = let at : v ≡ v + 0 = omega arith in (tt, subst (λ w. AreKindsTrue f w ys) at h)
kinds_split f v (x ∷ xs) ys h =
    let at : (v + 1) + length xs ≡ v + suc (length xs) = omega arith in
    let rest = kinds_split f (v + 1) xs ys h.1 in
    ((h.0, rest.0), subst (λ w. AreKindsTrue f w ys) at rest.1)

pub kinds_join : (f : ℕ → Bool) (v : ℕ) (xs ys : List VarKind) → AreKindsTrue f v xs → AreKindsTrue f (v + length xs) ys → AreKindsTrue f v (xs ++ ys)
kinds_join f v [] ys h k = let at : v + 0 ≡ v = omega arith in subst (λ w. AreKindsTrue f w ys) at k
kinds_join f v (x ∷ xs) ys h k =
    let at : v + suc (length xs) ≡ (v + 1) + length xs = omega arith in
    (h.0, kinds_join f (v + 1) xs ys h.1 (subst (λ w. AreKindsTrue f w ys) at k))

-- ---- entries

pub entries_from : (f : ℕ → Bool) (v : ℕ) (es : List Entry) → AreKindsTrue f v (kinds_of es) → clauses_true f (clauses_of es) ≡ true → AreEntriesTrue f v es
entries_from f v [] k c = tt
entries_from f v (e ∷ es) k c =
    let parts = and_parts (clauses_true f e.clauses) (clauses_true f (clauses_of es)) (sym (list_all-append (clause_true f) e.clauses (clauses_of es)) ∙ c) in
    (record { clauses = parts.0; kind = k.0 }, entries_from f (v + 1) es k.1 parts.1)

pub entries_kinds : (f : ℕ → Bool) (v : ℕ) (es : List Entry) → AreEntriesTrue f v es → AreKindsTrue f v (kinds_of es)
entries_kinds f v [] t = tt
entries_kinds f v (e ∷ es) t = (t.0.kind, entries_kinds f (v + 1) es t.1)

pub entries_clauses : (f : ℕ → Bool) (v : ℕ) (es : List Entry) → AreEntriesTrue f v es → clauses_true f (clauses_of es) ≡ true
entries_clauses f v [] t = refl
entries_clauses f v (e ∷ es) t = list_all-append (clause_true f) e.clauses (clauses_of es) ∙ and_from (clauses_true f e.clauses) (clauses_true f (clauses_of es)) t.0.clauses (entries_clauses f (v + 1) es t.1)
