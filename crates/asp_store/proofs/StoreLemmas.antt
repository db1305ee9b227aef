-- What keeps the facts that are true of every store.
use Rattle.std.proofs.Common.{◌≡◌, ℕ, zero, suc, ◌+◌, ◌-◌, ◌<◌, ◌≤◌, ◌≢◌, inl, inr, Bool, List, [], ◌∷◌, length, Option, Some, None, get_or, refl, ap, sym, ◌∙◌, subst, arith, cond, nat_le, true, false}
use Rattle.std.proofs.lemmas.Bool.{cases_eq, cases_lt}
use Rattle.std.proofs.lemmas.Bool.Decides.{eqb_tells}
use Rattle.std.proofs.Common.{suc, eq-eqb}
use Rattle.std.specs.Prelude.{Any}
use Rattle.std.specs.Cmp.{nat_cmp_is}
use Rattle.std.specs.Ordering.{ordering_then, bool_cmp}
use Rattle.std.specs.declared.cmp.Ordering.TheVariants.{Less, Greater}
use Rattle.std.specs.Prelude.{slice_get}
use Rattle.std.proofs.lemmas.Option.{get_or_from_slice_get, slice_get_within}
use Rattle.std.proofs.Common.{max, replicate, IsTrue, ◌↔◌}
use Rattle.std.proofs.lemmas.List.{get_or_default}
use Rattle.std.proofs.lemmas.List.{get_or_append_left, get_or-append_right, get_or_past}
use Rattle.theory_form.specs.declared.literals.Lit.{Lit}
use Rattle.theory_form.specs.Literals.{IsAscending, lit_cmp}
use Rattle.theory_form.specs.Truth.{value_of, IsFreeIn, FreeAt, FalseAt}
use Rattle.asp_trail.specs.declared.Entry.{Entry}
use Rattle.asp_trail.specs.declared.Why.{Why}
use Rattle.asp_trail.specs.declared.Why.TheVariants.{Decision, Clause}
use Rattle.asp_trail.specs.Trail.{values_of, level_of, why_in, back, IsTrail}
use Rattle.asp_trail.proofs.TrailLemmas.{why_in-free, room_from_free, length-values_of, values_of-grown, get_or-replicate_none}
use Rattle.asp_store.specs.Store.{clause_at, IsReason, HasReason, HasReasons, AllWithin, IsWithin, IsStore, Grew, Keeps, IsImpliedBy, Adds, AllAscending, places_of, Removes, IsReasonOfSome, IsBecauseOf}

pub within_from_reason : {cs : List (Option (List Lit))} {a : List (Option Bool)} {l : Lit} {id : ℕ} (n : ℕ) → AllWithin cs n → IsReason cs a l id → l.var.0 < n
within_from_reason {l = l} {id = id} n h r =
    subst (λ (k : Lit). k.var.0 < n) (r.lit_is l) (h id r.clause r.stored r.place l r.unit.free.within)

pub free_from_reason : {cs : List (Option (List Lit))} {a : List (Option Bool)} {l : Lit} {id : ℕ} → IsReason cs a l id → IsFreeIn a l
free_from_reason {a = a} {l = l} r = subst (IsFreeIn a) (r.lit_is l) (r.unit.free.holds l)

pub IsStore-implied : {cs : List (Option (List Lit))} {es : List Entry} {n : ℕ} (e : Entry) (id : ℕ) → IsStore cs es n → e.why ≡ Clause (record { 0 = id }) → IsReason cs (values_of n es) e.lit id → IsStore cs (e ∷ es) n
IsStore-implied {cs} {es} {n} e id h why r = record {
  within = h.within;
  ascending = h.ascending;
  reasons = (rw why r, h.reasons);
}

pub Grew-none : (cs : List (Option (List Lit))) (n : ℕ) (es : List Entry) → Grew cs n es es
Grew-none cs n es = record { more = []; new_is = refl; implied = tt }

pub Grew-more : (cs : List (Option (List Lit))) (n : ℕ) (old es : List Entry) (e : Entry) (id : ℕ) → Grew cs n old es → e.why ≡ Clause (record { 0 = id }) → IsReason cs (values_of n es) e.lit id → Grew cs n old (e ∷ es)
Grew-more cs n old es e id g why r = record {
  more = e ∷ g.more;
  new_is = ap (λ xs. e ∷ xs) g.new_is;
  implied = ((id, why, subst (λ xs. IsReason cs (values_of n xs) e.lit id) g.new_is r), g.implied);
}

pub HasReasons-back : (cs : List (Option (List Lit))) (n k : ℕ) (es : List Entry) → HasReasons cs n es → HasReasons cs n (back k es)
HasReasons-back cs n k [] h = tt
HasReasons-back cs n k (e ∷ es) h =
    elim (nat_le (level_of (e ∷ es)) k) as (λ b. HasReasons cs n (cond b (e ∷ es) (back k es))) [
      | true ↦ h
      | false ↦ HasReasons-back cs n k es h.1
    ]

pub IsReason-kept : {cs ds : List (Option (List Lit))} {a : List (Option Bool)} {l : Lit} {id : ℕ} → Keeps cs ds → IsReason cs a l id → IsReason ds a l id
IsReason-kept {id = id} k r = record { clause = r.clause; stored = k id r.clause r.stored; place = r.place; unit = r.unit; lit_is = r.lit_is }

HasReason-kept : (cs ds : List (Option (List Lit))) (a : List (Option Bool)) (l : Lit) (w : Why) → Keeps cs ds → HasReason cs a l w → HasReason ds a l w
HasReason-kept cs ds a l Decision k h = tt
HasReason-kept cs ds a l (Clause id) k h = IsReason-kept k h

pub HasReasons-kept : (cs ds : List (Option (List Lit))) (n : ℕ) (es : List Entry) → Keeps cs ds → HasReasons cs n es → HasReasons ds n es
HasReasons-kept cs ds n [] k h = tt
HasReasons-kept cs ds n (e ∷ es) k h = (HasReason-kept cs ds (values_of n es) e.lit e.why k h.0, HasReasons-kept cs ds n es k h.1)

pub Keeps-adds : (cs ds : List (Option (List Lit))) (id : ℕ) (c : List Lit) → Adds cs ds id c → Keeps cs ds
Keeps-adds cs ds id c h k d at = elim (cases_eq k id) [
  | inl same ↦ absurd (let e : None ≡ Some d = sym h.fresh ∙ (ap (λ i. clause_at cs i) (sym same) ∙ at) in cc)
  | inr other ↦ h.others k other ∙ at
]

pub AllWithin-adds : (cs ds : List (Option (List Lit))) (id n : ℕ) (c : List Lit) → Adds cs ds id c → IsWithin n c → AllWithin cs n → AllWithin ds n
AllWithin-adds cs ds id n c h w all k d at = elim (cases_eq k id) [
  | inl same ↦ let e : Some c ≡ Some d = sym h.added ∙ (ap (λ i. clause_at ds i) (sym same) ∙ at) in let f : c ≡ d = cc in subst (IsWithin n) f w
  | inr other ↦ all k d (sym (h.others k other) ∙ at)
]

pub AllWithin-more : (cs : List (Option (List Lit))) (n m : ℕ) → n ≤ m → AllWithin cs n → AllWithin cs m
AllWithin-more cs n m h all k d at = λ i e inside. let w = all k d at i e inside in omega (arith, w)

pub AllAscending-adds : (cs ds : List (Option (List Lit))) (id : ℕ) (c : List Lit) → Adds cs ds id c → IsAscending c → AllAscending cs → AllAscending ds
AllAscending-adds cs ds id c h w all k d at = elim (cases_eq k id) [
  | inl same ↦ let e : Some c ≡ Some d = sym h.added ∙ (ap (λ i. clause_at ds i) (sym same) ∙ at) in let f : c ≡ d = cc in subst IsAscending f w
  | inr other ↦ all k d (sym (h.others k other) ∙ at)
]

pub IsStore-adds : (cs ds : List (Option (List Lit))) (es : List Entry) (id n : ℕ) (c : List Lit) → Adds cs ds id c → IsWithin n c → IsAscending c → IsStore cs es n → IsStore ds es n
IsStore-adds cs ds es id n c h w up s = record {
  ascending = AllAscending-adds cs ds id c h up s.ascending;
  within = AllWithin-adds cs ds id n c h w s.within;
  reasons = HasReasons-kept cs ds n es (Keeps-adds cs ds id c h) s.reasons;
}

-- assignments that agree at each variable
abbrev pub SameValues : List (Option Bool) → List (Option Bool) → Type 0
SameValues a b = (v : ℕ) → value_of b v ≡ value_of a v

pub FalseAt-same : {a b : List (Option Bool)} {c : List Lit} {i : ℕ} → SameValues a b → FalseAt a c i → FalseAt b c i
FalseAt-same {c = c} {i = i} s h = record { within = h.within; holds = λ d. s (get_or c i d).var.0 ∙ h.holds d }

pub FreeAt-same : {a b : List (Option Bool)} {c : List Lit} {i : ℕ} → SameValues a b → FreeAt a c i → FreeAt b c i
FreeAt-same {c = c} {i = i} s h = record { within = h.within; holds = λ d. s (get_or c i d).var.0 ∙ h.holds d }

pub IsReason-same : {cs : List (Option (List Lit))} {a b : List (Option Bool)} {l : Lit} {id : ℕ} → SameValues a b → IsReason cs a l id → IsReason cs b l id
IsReason-same s r = record {
  clause = r.clause;
  stored = r.stored;
  place = r.place;
  unit = record { free = FreeAt-same s r.unit.free; rest = λ k inside other. FalseAt-same s (r.unit.rest k inside other) };
  lit_is = r.lit_is;
}

HasReason-same : (cs : List (Option (List Lit))) (a b : List (Option Bool)) (l : Lit) (w : Why) → SameValues a b → HasReason cs a l w → HasReason cs b l w
HasReason-same cs a b l Decision s h = tt
HasReason-same cs a b l (Clause id) s h = IsReason-same s h

pub SameValues-grown : (n m : ℕ) (es : List Entry) → IsTrail n es → SameValues (values_of n es) (values_of (n + m) es)
SameValues-grown n m es h v =
    let len = length-values_of n es in
    rw (values_of-grown n m es h) (elim (cases_lt v n) [
      | inl below ↦ get_or_append_left (values_of n es) (replicate m None) None v (rw len below)
      | inr above ↦
          let past : get_or (values_of n es) v None ≡ None = get_or_past (values_of n es) v None (rw len above) in
          get_or-append_right (values_of n es) (replicate m None) n v None len above ∙ (get_or-replicate_none m (v - n) ∙ sym past)
    ])

pub HasReasons-grown : (cs : List (Option (List Lit))) (n m : ℕ) (es : List Entry) → IsTrail n es → HasReasons cs n es → HasReasons cs (n + m) es
HasReasons-grown cs n m [] t h = tt
HasReasons-grown cs n m (e ∷ es) t h =
    (HasReason-same cs (values_of n es) (values_of (n + m) es) e.lit e.why (SameValues-grown n m es t.2) h.0, HasReasons-grown cs n m es t.2 h.1)

pub IsStore-grown : (cs : List (Option (List Lit))) (es : List Entry) (n m : ℕ) → IsTrail n es → IsStore cs es n → IsStore cs es (max n m)
IsStore-grown cs es n m t s =
    let e : max n m ≡ n + (m - n) = omega arith in
    rw e (record { within = AllWithin-more cs n (n + (m - n)) (omega arith) s.within; ascending = s.ascending; reasons = HasReasons-grown cs n (m - n) es t s.reasons })

pub IsStore-back : (cs : List (Option (List Lit))) (es : List Entry) (n k : ℕ) → IsStore cs es n → IsStore cs (back k es) n
IsStore-back cs es n k s = record { within = s.within; ascending = s.ascending; reasons = HasReasons-back cs n k es s.reasons }

pub IsStore-decided : (cs : List (Option (List Lit))) (es : List Entry) (n : ℕ) (l : Lit) → IsStore cs es n → IsStore cs (record { lit = l; why = Decision } ∷ es) n
IsStore-decided cs es n l s = record { within = s.within; ascending = s.ascending; reasons = (tt, s.reasons) }

pub room_from_reason : {cs : List (Option (List Lit))} {l : Lit} {id : ℕ} (n : ℕ) (es : List Entry) → IsTrail n es → AllWithin cs n → IsReason cs (values_of n es) l id → length es < n
room_from_reason {l = l} n es t w r = room_from_free n es l.var.0 t (within_from_reason n w r) (free_from_reason r)

-- a literal that a clause implies

pub push_from_implied : (cs : List (Option (List Lit))) (n : ℕ) (a : List (Option Bool)) (l : Lit) (w : Why) → AllWithin cs n → IsImpliedBy cs a l w → (l.var.0 < n) × IsFreeIn a l
push_from_implied cs n a l Decision all h = absurd h
push_from_implied cs n a l (Clause id) all h = (within_from_reason n all h, free_from_reason h)

pub IsStore-assigned : (cs : List (Option (List Lit))) (es : List Entry) (n : ℕ) (l : Lit) (w : Why) → IsImpliedBy cs (values_of n es) l w → IsStore cs es n → IsStore cs (record { lit = l; why = w } ∷ es) n
IsStore-assigned cs es n l Decision h s = absurd h
IsStore-assigned cs es n l (Clause id) h s = IsStore-implied (record { lit = l; why = Clause id }) id.0 s refl h

-- room for a clause

pub IsWithin-places_of : (c : List Lit) (n : ℕ) → places_of c ≤ n → IsWithin n c
IsWithin-places_of [] n h i d below = absurd (omega arith)
IsWithin-places_of (l ∷ c) n h zero d below = omega arith
IsWithin-places_of (l ∷ c) n h (suc i) d below = IsWithin-places_of c n (omega arith) i d (omega arith)

pub places_of-le : (c : List Lit) (n : ℕ) → IsWithin n c → places_of c ≤ n
places_of-le [] n h = omega arith
places_of-le (l ∷ c) n h =
    let first = h 0 l (omega arith) in
    let rest = places_of-le c n (λ i d below. h (suc i) d (omega arith)) in
    omega (arith, first, rest)

-- a literal that stands before another has no greater variable
var_le_from_before : (a b : Lit) → lit_cmp a b ≡ Less → a.var.0 ≤ b.var.0
var_le_from_before a b h = elim (cases_lt b.var.0 a.var.0) [
  | inl above ↦
      absurd (let e = nat_cmp_is a.var.0 b.var.0 Greater above in let f : Greater ≡ Less = ap (λ o. ordering_then o (bool_cmp b.yes a.yes)) e ∙ h in cc)
  | inr within ↦ within
]

-- the last literal of a clause has the greatest variable
pub places_of-last : (c : List Lit) (l : Lit) → IsAscending c → Some l ≡ slice_get c (length c - 1) → places_of c ≡ l.var.0 + 1
places_of-last c l up last =
    let within = slice_get_within c (length c - 1) l (sym last) in
    let is : get_or c (length c - 1) l ≡ l = get_or_from_slice_get c (length c - 1) l l (sym last) in
    let low : l.var.0 < places_of c = subst (λ (x : Lit). x.var.0 < places_of c) is (IsWithin-places_of c (places_of c) (omega arith) (length c - 1) l within) in
    let all : IsWithin (l.var.0 + 1) c = λ i d below. elim (cases_lt i (length c - 1)) [
      | inl before ↦
          let end : get_or c (length c - 1) d ≡ l = get_or_default c (length c - 1) d l within ∙ is in
          let le = subst (λ (x : Lit). (get_or c i d).var.0 ≤ x.var.0) end (var_le_from_before _ _ (up i (length c - 1) d before within)) in
          omega arith
      | inr at ↦
          let same : i ≡ length c - 1 = omega arith in
          let end : get_or c i d ≡ l = ap (λ k. get_or c k d) same ∙ (get_or_default c (length c - 1) d l within ∙ is) in
          subst (λ (x : Lit). x.var.0 < l.var.0 + 1) (sym end) (omega arith)
    ] in
    let high = places_of-le c (l.var.0 + 1) all in
    omega arith

-- a clause that is taken out

-- a reason other than the clause that goes
reason_left : (cs ds : List (Option (List Lit))) (id : ℕ) → ((j : ℕ) → j ≢ id → clause_at ds j ≡ clause_at cs j) → (a : List (Option Bool)) (l : Lit) (w : Why) → (w ≢ Clause (record { 0 = id })) → HasReason cs a l w → HasReason ds a l w
reason_left cs ds id others a l Decision ne h = tt
reason_left cs ds id others a l (Clause k) ne h =
    let other : k.0 ≢ id = λ e. ne (ap (λ i. Clause (record { 0 = i })) e) in
    record { clause = h.clause; stored = others k.0 other ∙ h.stored; place = h.place; unit = h.unit; lit_is = h.lit_is }

reasons_left : (cs ds : List (Option (List Lit))) (id n : ℕ) → ((j : ℕ) → j ≢ id → clause_at ds j ≡ clause_at cs j) → (es : List Entry) → ((i : ℕ) (d : Entry) → i < length es → (get_or es i d).why ≢ Clause (record { 0 = id })) → HasReasons cs n es → HasReasons ds n es
reasons_left cs ds id n others [] none h = tt
reasons_left cs ds id n others (e ∷ es) none h = (
  reason_left cs ds id others (values_of n es) e.lit e.why (none 0 e (omega arith)) h.0,
  reasons_left cs ds id n others es (λ i d below. none (suc i) d (omega arith)) h.1,
)

no_reason : (es : List Entry) (id : ℕ) → (IsReasonOfSome es id → ⊥) → (i : ℕ) (d : Entry) → i < length es → (get_or es i d).why ≢ Clause (record { 0 = id })
no_reason es id none i d below e = none (i, get_or es i d, below, get_or_default es i (get_or es i d) d below, e)

left_clause : (cs ds : List (Option (List Lit))) (id j : ℕ) (c : List Lit) → Removes cs ds id → clause_at ds j ≡ Some c → clause_at cs j ≡ Some c
left_clause cs ds id j c h at = elim (cases_eq j id) [
  | inl e ↦ absurd (let q : None ≡ Some c = sym h.gone ∙ (ap (λ i. clause_at ds i) (sym e) ∙ at) in cc)
  | inr ne ↦ sym (h.others j ne) ∙ at
]

pub IsStore-removes : (cs ds : List (Option (List Lit))) (id n : ℕ) (es : List Entry) → Removes cs ds id → (IsReasonOfSome es id → ⊥) → IsStore cs es n → IsStore ds es n
IsStore-removes cs ds id n es h none s = record {
  within = λ j c at. s.within j c (left_clause cs ds id j c h at);
  ascending = λ j c at. s.ascending j c (left_clause cs ds id j c h at);
  reasons = reasons_left cs ds id n h.others es (no_reason es id none) s.reasons;
}

-- the test says that there is none
pub none_from_test : (b : Bool) (P : Type 0) → b ≡ false → IsTrue b ↔ P → P → ⊥
none_from_test b P f h p = let t = h.1 p in let e : true ≡ false = sym t ∙ f in cc

-- the clause of a key is a reason exactly where one of its variables was assigned because of it

why_here : (e : Entry) (es : List Entry) → why_in (e ∷ es) e.lit.var.0 ≡ Some (e.why, level_of (e ∷ es))
why_here e es = let b = eq-eqb e.lit.var.0 e.lit.var.0 refl in rw b refl

because_later : (n : ℕ) (e : Entry) (es : List Entry) (v id : ℕ) → IsTrail n (e ∷ es) → IsBecauseOf es v id → IsBecauseOf (e ∷ es) v id
because_later n e es v id t b = elim (eqb_tells e.lit.var.0 v) [
  | inl same ↦
      let none : why_in es e.lit.var.0 ≡ None = why_in-free n e.lit.var.0 es t.2 t.1 in
      absurd (let z : None ≡ Some (Clause (record { 0 = id }), b.0) = sym none ∙ (ap (why_in es) same.1 ∙ b.1) in cc)
  | inr other ↦ let f = other.0 in (b.0, rw f b.1)
]

because_from_entry : (cs : List (Option (List Lit))) (n id : ℕ) (c : List Lit) (es : List Entry) (i : ℕ) (d : Entry) → clause_at cs id ≡ Some c → HasReasons cs n es → IsTrail n es → i < length es → (get_or es i d).why ≡ Clause (record { 0 = id }) → Any (λ l. IsBecauseOf es l.var.0 id) c
because_from_entry cs n id c [] i d at h t below why = absurd (omega arith)
because_from_entry cs n id c (e ∷ es) zero d at h t below why =
    let r : IsReason cs (values_of n es) e.lit id = subst (HasReason cs (values_of n es) e.lit) why h.0 in
    let q : Some r.clause ≡ Some c = sym r.stored ∙ at in
    let same : r.clause ≡ c = cc in
    let within = r.unit.free.within in
    let is : get_or c r.place e.lit ≡ e.lit = subst (λ xs. get_or xs r.place e.lit ≡ e.lit) same (r.lit_is e.lit) in
    (r.place, e.lit, subst (λ xs. r.place < length xs) same within, is, (level_of (e ∷ es), why_here e es ∙ ap (λ w. Some (w, level_of (e ∷ es))) why))
because_from_entry cs n id c (e ∷ es) (suc i) d at h t below why =
    let r = because_from_entry cs n id c es i d at h.1 t.2 (omega arith) why in
    (r.0, r.1, r.2, r.3, because_later n e es r.1.var.0 id t r.4)

-- why, where there is one
abbrev why_of : Why → Option (Why × ℕ) → Why
why_of d None = d
why_of d (Some reason) = reason.0

pub entry_from_because : (es : List Entry) (v id : ℕ) → IsBecauseOf es v id → IsReasonOfSome es id
entry_from_because [] v id b = absurd (let z : None ≡ Some (Clause (record { 0 = id }), b.0) = b.1 in cc)
entry_from_because (e ∷ es) v id b = elim (eqb_tells e.lit.var.0 v) [
  | inl same ↦
      let f = same.0 in
      let q : Some (e.why, level_of (e ∷ es)) ≡ Some (Clause (record { 0 = id }), b.0) = rw f at b.1 in
      let why : e.why ≡ Clause (record { 0 = id }) = ap (why_of e.why) q in
      (0, e, omega arith, refl, why)
  | inr other ↦
      let f = other.0 in
      let r = entry_from_because es v id (b.0, rw f at b.1) in
      let w = r.2 in
      (suc r.0, r.1, omega (arith, w), r.3, r.4)
]

pub reason_test : (cs : List (Option (List Lit))) (n id : ℕ) (c : List Lit) (es : List Entry) → clause_at cs id ≡ Some c → HasReasons cs n es → IsTrail n es → Any (λ l. IsBecauseOf es l.var.0 id) c ↔ IsReasonOfSome es id
reason_test cs n id c es at h t = (
  λ b. entry_from_because es b.1.var.0 id b.4,
  λ r. because_from_entry cs n id c es r.0 r.1 at h t r.2 (ap (λ (e : Entry). e.why) r.3 ∙ r.4),
)

-- no entry has a reason that is not stored
pub none_without : (cs : List (Option (List Lit))) (n id : ℕ) (es : List Entry) → clause_at cs id ≡ None → HasReasons cs n es → IsReasonOfSome es id → ⊥
none_without cs n id [] gone h r = absurd (let w = r.2 in omega (arith, w))
none_without cs n id (e ∷ es) gone h (zero, x, below, is, why) =
    let w : e.why ≡ Clause (record { 0 = id }) = ap (λ (y : Entry). y.why) is ∙ why in
    let r : IsReason cs (values_of n es) e.lit id = subst (HasReason cs (values_of n es) e.lit) w h.0 in
    absurd (let z : None ≡ Some r.clause = sym gone ∙ r.stored in cc)
none_without cs n id (e ∷ es) gone h (suc i, x, below, is, why) = none_without cs n id es gone h.1 (i, x, omega arith, is, why)
