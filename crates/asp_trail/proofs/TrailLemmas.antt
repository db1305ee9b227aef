-- Lemmas on the assignment that a list of entries makes.
use Rattle.std.proofs.Common.{◌≡◌, ℕ, zero, suc, ◌+◌, ◌-◌, ◌<◌, ◌≤◌, ◌++◌, Bool, List, [], ◌∷◌, length, replicate, inl, inr, ◌≢◌, map, Option, Some, None, get_or, set, take, reverse, refl, ap, sym, ◌∙◌, subst, arith, length-append, length-set, cond, true, false, ◌==◌}
use Rattle.std.specs.Prelude.{sum_by}
use Rattle.std.proofs.lemmas.List.{set-append_left, get_or_append_left, replicate-append-replicate}
use Rattle.std.proofs.lemmas.List.Sums.{sum_by-set}
use Rattle.std.proofs.lemmas.List.Folds.{sum_by-replicate}
use Rattle.std.proofs.lemmas.List.{length-reverse, reverse-append}
use Rattle.std.proofs.Math.ListN.{length-replicate}
use Rattle.std.proofs.Math.Seq.{take-append_seam}
use Rattle.std.proofs.lemmas.Bool.{cases_lt, eqb-true, eqb-false}
use Rattle.std.proofs.lemmas.List.{get_or-set_same, get_or-set_other, get_or_past, get_or-replicate, map-append, length-map}
use Rattle.std.proofs.lemmas.Bool.Decides.{nat_tests}
use Rattle.theory_form.specs.declared.literals.Lit.{Lit}
use Rattle.theory_form.specs.Numbers.{grown}
use Rattle.theory_form.specs.Truth.{IsFreeIn, value_of}
use Rattle.asp_trail.specs.declared.Entry.{Entry}
use Rattle.asp_trail.specs.declared.Reason.{Reason}
use Rattle.asp_trail.specs.declared.Why.{Why}
use Rattle.asp_trail.specs.declared.Why.TheVariants.{Decision, Clause}
use Rattle.asp_trail.specs.Trail.{TrailView, values_of, level_of, level_after, back, why_in, no_reason, AreRecorded, IsTrail, Holds, HoldsTrail}

pub length-values_of : (n : ℕ) (es : List Entry) → length (values_of n es) ≡ n
length-values_of n [] = length-replicate n None
length-values_of n (e ∷ es) = length-set (values_of n es) e.lit.var.0 (Some e.lit.yes) ∙ length-values_of n es

-- 1 where there is no value
abbrev pub free_weight : Option Bool → ℕ
free_weight None = 1
free_weight (Some b) = 0

abbrev pub free_count : List (Option Bool) → ℕ
free_count a = sum_by free_weight a

pub free_count-replicate : (n : ℕ) → free_count (replicate n None) ≡ n
free_count-replicate n = let e = sum_by-replicate free_weight n None in grind (arith, e)

pub free_count-set : (a : List (Option Bool)) (v : ℕ) (b : Bool) → v < length a → value_of a v ≡ None → free_count (set a v (Some b)) + 1 ≡ free_count a
free_count-set a v b within free =
    let e = sum_by-set free_weight a v (Some b) None within in
    let w : free_weight (get_or a v None) ≡ 1 = ap free_weight free in
    omega (arith, e, w)

-- each entry takes one of the variables
pub free_count-values_of : (n : ℕ) (es : List Entry) → IsTrail n es → free_count (values_of n es) + length es ≡ n
free_count-values_of n [] h = let e = free_count-replicate n in omega (arith, e)
free_count-values_of n (e ∷ es) h =
    let ih = free_count-values_of n es h.2 in
    let len = length-values_of n es in
    let within : e.lit.var.0 < length (values_of n es) = rw len h.0 in
    let step = free_count-set (values_of n es) e.lit.var.0 e.lit.yes within h.1 in
    omega (arith, ih, step)

pub room_from_free : (n : ℕ) (es : List Entry) (v : ℕ) → IsTrail n es → v < n → value_of (values_of n es) v ≡ None → length es < n
room_from_free n es v h within free =
    let total = free_count-values_of n es h in
    let len = length-values_of n es in
    let inside : v < length (values_of n es) = rw len within in
    let step = free_count-set (values_of n es) v Bool.true inside free in
    omega (arith, total, step)

pub level_after-le : (w : Why) (k m : ℕ) → k ≤ m → level_after w k ≤ suc m
level_after-le Decision k m h = omega arith
level_after-le (Clause id) k m h = omega arith

pub level_of-le-length : (es : List Entry) → level_of es ≤ length es
level_of-le-length [] = omega arith
level_of-le-length (e ∷ es) =
    let ih = level_after-le e.why (level_of es) (length es) (level_of-le-length es) in omega (arith, ih)

-- a value that is taken back
pub set-undo : (a : List (Option Bool)) (v : ℕ) (b : Bool) → value_of a v ≡ None → set (set a v (Some b)) v None ≡ a
set-undo [] v b h = refl
set-undo (x ∷ xs) zero b h = ap (λ y. y ∷ xs) (sym h)
set-undo (x ∷ xs) (suc v) b h = ap (λ ys. x ∷ ys) (set-undo xs v b h)

-- more places
pub values_of-grown : (n m : ℕ) (es : List Entry) → IsTrail n es → values_of (n + m) es ≡ values_of n es ++ replicate m None
values_of-grown n m [] h = sym (replicate-append-replicate n m None)
values_of-grown n m (e ∷ es) h =
    let len = length-values_of n es in
    let within : e.lit.var.0 < length (values_of n es) = rw len h.0 in
    rw (values_of-grown n m es h.2) (set-append_left (values_of n es) (replicate m None) e.lit.var.0 (Some e.lit.yes) within)

pub IsTrail-grown : (n m : ℕ) (es : List Entry) → IsTrail n es → IsTrail (n + m) es
IsTrail-grown n m [] h = tt
IsTrail-grown n m (e ∷ es) h =
    let len = length-values_of n es in
    let within : e.lit.var.0 < length (values_of n es) = rw len h.0 in
    (omega (arith, h.0), rw (values_of-grown n m es h.2) (get_or_append_left (values_of n es) (replicate m None) None e.lit.var.0 within ∙ h.1), IsTrail-grown n m es h.2)

-- the fields of a trail

pub Holds-grown : (values : List (Option Bool)) (items : List Entry) (level room : ℕ) (more room' : ℕ) → Holds values items level room → more ≤ room' → room ≤ room' → Holds (grown values more None) items level room'
Holds-grown values items level room more room' h wanted wider =
    let n : ℕ = length values in
    let k : ℕ = more - n in
    let len : length (grown values more None) ≡ n + k = length-append values (replicate k None) ∙ ap (λ m. n + m) (length-replicate k None) in
    record {
      same = rw len (rw (values_of-grown n k (reverse items) h.trail) (ap (λ a. a ++ replicate k None) h.same));
      trail = rw len (IsTrail-grown n k (reverse items) h.trail);
      level_is = h.level_is;
      room_is = rw len (let r = h.room_is in omega arith);
    }

pub room_for_entry : (values : List (Option Bool)) (items : List Entry) (level room : ℕ) (s : TrailView) (l : Lit) → Holds values items level room → (let v : TrailView = record { entries = reverse items; places = length values } in v) ≡ s → l.var.0 < s.places → IsFreeIn (values_of s.places s.entries) l → length items < room
room_for_entry values items level room s l h e =
    subst (λ (s : TrailView). l.var.0 < s.places → IsFreeIn (values_of s.places s.entries) l → length items < room) e
    (λ w f. let r = room_from_free (length values) (reverse items) l.var.0 h.trail w f in let q = length-reverse items in let p = h.room_is in omega (arith, r, q))

pub room_for_lit : (values : List (Option Bool)) (items : List Entry) (lits : List Lit) (reasons : List Reason) (level room lits_room : ℕ) (s : TrailView) (l : Lit) → HoldsTrail values items lits reasons level room lits_room → (let v : TrailView = record { entries = reverse items; places = length values } in v) ≡ s → l.var.0 < s.places → IsFreeIn (values_of s.places s.entries) l → length lits < lits_room
room_for_lit values items lits reasons level room lits_room s l h e =
    subst (λ (s : TrailView). l.var.0 < s.places → IsFreeIn (values_of s.places s.entries) l → length lits < lits_room) e
    (λ w f.
    let r = room_from_free (length values) (reverse items) l.var.0 h.holds.trail w f in
    let q = length-reverse items in
    let p = h.lits_room_is in
    let m = ap length h.lits_are ∙ length-map items (λ (x : Entry). x.lit) in
    omega (arith, r, q, m))

pub level-le-entries : (values : List (Option Bool)) (items : List Entry) (level room : ℕ) → Holds values items level room → level ≤ length items
level-le-entries values items level room h =
    let r = level_of-le-length (reverse items) in let q = length-reverse items in let p = h.level_is in omega (arith, r, q)

level_after-same : (w : Why) (a b : ℕ) → level_after w a ≡ level_after w b → a ≡ b
level_after-same Decision a b h = omega arith
level_after-same (Clause id) a b h = h

pub reverse-push : (items items' : List Entry) (e : Entry) → items ≡ items' ++ e ∷ [] → reverse items ≡ e ∷ reverse items'
reverse-push items items' e h = ap reverse h ∙ reverse-append items' (e ∷ [])

pub Holds-pop : (values : List (Option Bool)) (items items' : List Entry) (e : Entry) (level level' room : ℕ) → Holds values items level room → items ≡ items' ++ e ∷ [] → level ≡ level_after e.why level' → Holds (set values e.lit.var.0 None) items' level' room
Holds-pop values items items' e level level' room h split lower =
    let n : ℕ = length values in
    let es : List Entry = reverse items' in
    let r = reverse-push items items' e split in
    let trail : IsTrail n (e ∷ es) = subst (IsTrail n) r h.trail in
    let len : length (set values e.lit.var.0 None) ≡ n = length-set values e.lit.var.0 None in
    let was : values ≡ set (values_of n es) e.lit.var.0 (Some e.lit.yes) = h.same ∙ ap (values_of n) r in
    let now : set values e.lit.var.0 None ≡ values_of n es = ap (λ a. set a e.lit.var.0 None) was ∙ set-undo (values_of n es) e.lit.var.0 e.lit.yes trail.1 in
    record {
      same = rw len now;
      trail = rw len trail.2;
      level_is = level_after-same e.why level' (level_of es) (sym lower ∙ (h.level_is ∙ ap level_of r));
      room_is = rw len h.room_is;
    }

pub within-pop : (values : List (Option Bool)) (items items' : List Entry) (e : Entry) (level room : ℕ) → Holds values items level room → items ≡ items' ++ e ∷ [] → e.lit.var.0 < length values
within-pop values items items' e level room h split = (subst (IsTrail (length values)) (reverse-push items items' e split) h.trail).0

pub back-step : (k : ℕ) (e : Entry) (es : List Entry) → k < level_of (e ∷ es) → back k (e ∷ es) ≡ back k es
back-step k e es h = grind (arith, nat_tests)

pub back-done : (k : ℕ) (es : List Entry) → level_of es ≤ k → back k es ≡ es
back-done k [] h = refl
back-done k (e ∷ es) h = grind (arith, nat_tests)

pub back-pop : (values : List (Option Bool)) (items items' : List Entry) (e : Entry) (level room k : ℕ) → Holds values items level room → items ≡ items' ++ e ∷ [] → k < level → back k (reverse items) ≡ back k (reverse items')
back-pop values items items' e level room k h split below =
    let r = reverse-push items items' e split in
    let level_is = h.level_is ∙ ap level_of r in
    ap (back k) r ∙ back-step k e (reverse items') (omega (arith, level_is))

-- the table of reasons

pub get_or-replicate_none : (m k : ℕ) → get_or {A = Option Bool} (replicate m None) k None ≡ None
get_or-replicate_none m k = elim (cases_lt k m) [
  | inl below ↦ get_or-replicate m k None None below
  | inr above ↦ get_or_past (replicate m None) k None (rw (length-replicate {A = Option Bool} m None) above)
]

pub free_apart : (n : ℕ) (e : Entry) (es : List Entry) (v : ℕ) → IsTrail n (e ∷ es) → value_of (values_of n (e ∷ es)) v ≡ None → (v ≢ e.lit.var.0) × (value_of (values_of n es) v ≡ None)
free_apart n e es v t free =
    let len = length-values_of n es in
    let within : e.lit.var.0 < length (values_of n es) = rw len t.0 in
    let other : v ≢ e.lit.var.0 = λ same. let e1 = get_or-set_same (values_of n es) e.lit.var.0 (Some e.lit.yes) None within in let e2 = ap (λ k. value_of (values_of n (e ∷ es)) k) same in cc in
    (other, sym (get_or-set_other (values_of n es) e.lit.var.0 v (Some e.lit.yes) None other) ∙ free)

pub AreRecorded-more : (table more : List Reason) (n : ℕ) (es : List Entry) → n ≤ length table → IsTrail n es → AreRecorded table es → AreRecorded (table ++ more) es
AreRecorded-more table more n [] room t h = tt
AreRecorded-more table more n (e ∷ es) room t h =
    (get_or_append_left table more no_reason e.lit.var.0 (let q = t.0 in omega arith) ∙ h.0, AreRecorded-more table more n es room t.2 h.1)

AreRecorded-set : (table : List Reason) (n v : ℕ) (r : Reason) (es : List Entry) → IsTrail n es → value_of (values_of n es) v ≡ None → AreRecorded table es → AreRecorded (set table v r) es
AreRecorded-set table n v r [] t free h = tt
AreRecorded-set table n v r (e ∷ es) t free h =
    let apart = free_apart n e es v t free in (
      get_or-set_other table v e.lit.var.0 r no_reason (λ same. apart.0 (sym same)) ∙ h.0,
      AreRecorded-set table n v r es t.2 apart.1 h.1,
    )

pub AreRecorded-push : (table : List Reason) (n : ℕ) (e : Entry) (es : List Entry) → n ≤ length table → IsTrail n (e ∷ es) → AreRecorded table es → AreRecorded (set table e.lit.var.0 (record { why = e.why; level = level_of (e ∷ es) })) (e ∷ es)
AreRecorded-push table n e es room t h =
    (get_or-set_same table e.lit.var.0 _ no_reason (let q = t.0 in omega arith), AreRecorded-set table n e.lit.var.0 _ es t.2 t.1 h)

pub why_in-free : (n v : ℕ) (es : List Entry) → IsTrail n es → value_of (values_of n es) v ≡ None → why_in es v ≡ None
why_in-free n v [] t free = refl
why_in-free n v (e ∷ es) t free =
    let apart = free_apart n e es v t free in
    elim (e.lit.var.0 == v) as (λ b. (e.lit.var.0 == v) ≡ b → cond b (Some (e.why, level_of (e ∷ es))) (why_in es v) ≡ None) [
      | true ↦ λ q. absurd (apart.0 (sym (eqb-true e.lit.var.0 v q)))
      | false ↦ λ q. why_in-free n v es t.2 apart.1
    ] refl

pub why_in-recorded : (n v : ℕ) (b : Bool) (table : List Reason) (es : List Entry) → IsTrail n es → AreRecorded table es → value_of (values_of n es) v ≡ Some b → why_in es v ≡ Some ((get_or table v no_reason).why, (get_or table v no_reason).level)
why_in-recorded n v b table [] t h value = let none = get_or-replicate_none n v in cc
why_in-recorded n v b table (e ∷ es) t h value =
    elim (e.lit.var.0 == v) as (λ w. (e.lit.var.0 == v) ≡ w → cond w (Some (e.why, level_of (e ∷ es))) (why_in es v) ≡ Some ((get_or table v no_reason).why, (get_or table v no_reason).level)) [
      | true ↦ λ q.
          let same = eqb-true e.lit.var.0 v q in
          let r = ap (λ k. get_or table k no_reason) (sym same) ∙ h.0 in
          λ i. Some ((sym r i).why, (sym r i).level)
      | false ↦ λ q.
          let other : v ≢ e.lit.var.0 = λ same. eqb-false e.lit.var.0 v q (sym same) in
          why_in-recorded n v b table es t.2 h.1 (sym (get_or-set_other (values_of n es) e.lit.var.0 v (Some e.lit.yes) None other) ∙ value)
    ] refl

pub value_within : (a : List (Option Bool)) (v : ℕ) (b : Bool) → value_of a v ≡ Some b → v < length a
value_within a v b h = elim (cases_lt v (length a)) [
  | inl below ↦ below
  | inr above ↦ let none = get_or_past a v None above in cc
]

-- the fields of a trail, with the table of reasons

pub HoldsTrail-grown : (values : List (Option Bool)) (items : List Entry) (lits : List Lit) (reasons : List Reason) (level room lits_room : ℕ) (more room' lits_room' : ℕ) → HoldsTrail values items lits reasons level room lits_room → more ≤ room' → room ≤ room' → more ≤ lits_room' → lits_room ≤ lits_room' → HoldsTrail (grown values more None) items lits (grown reasons more no_reason) level room' lits_room'
HoldsTrail-grown values items lits reasons level room lits_room more room' lits_room' h wanted wider wanted_lits wider_lits =
    let len : length (grown values more None) ≡ length values + (more - length values) = length-append values (replicate (more - length values) None) ∙ ap (λ m. length values + m) (length-replicate (more - length values) None) in
    let reasons_len : length (grown reasons more no_reason) ≡ length reasons + (more - length reasons) = length-append reasons (replicate (more - length reasons) no_reason) ∙ ap (λ m. length reasons + m) (length-replicate (more - length reasons) no_reason) in
    let q = h.reasons_room in
    let p = h.lits_room_is in
    record {
      holds = Holds-grown values items level room more room' h.holds wanted wider;
      lits_are = h.lits_are;
      recorded = AreRecorded-more reasons (replicate (more - length reasons) no_reason) (length values) (reverse items) q h.holds.trail h.recorded;
      reasons_room = rw (len, reasons_len) (omega arith);
      lits_room_is = rw len (omega arith);
    }

pub HoldsTrail-wider : (values : List (Option Bool)) (items : List Entry) (lits : List Lit) (reasons more : List Reason) (level room lits_room : ℕ) (room' lits_room' : ℕ) → HoldsTrail values items lits reasons level room lits_room → room ≤ room' → lits_room ≤ lits_room' → HoldsTrail values items lits (reasons ++ more) level room' lits_room'
HoldsTrail-wider values items lits reasons more level room lits_room room' lits_room' h wider wider_lits =
    let q = h.holds.room_is in
    let p = h.lits_room_is in
    let r = h.reasons_room in
    record {
      holds = record { same = h.holds.same; trail = h.holds.trail; level_is = h.holds.level_is; room_is = omega arith };
      lits_are = h.lits_are;
      recorded = AreRecorded-more reasons more (length values) (reverse items) r h.holds.trail h.recorded;
      reasons_room = omega (arith, length-append reasons more);
      lits_room_is = omega arith;
    }

pub take_front : {A : Type 0} (xs ys : List A) (x : A) → xs ≡ ys ++ x ∷ [] → take (length xs - 1) xs ≡ ys
take_front xs ys x e =
    let len = length-append ys (x ∷ []) in
    let n : length xs - 1 ≡ length ys = let q = ap length e in omega (arith, len, q) in
    rw (n, e) (take-append_seam ys (x ∷ []))

pub HoldsTrail-push : (values : List (Option Bool)) (items : List Entry) (lits : List Lit) (reasons : List Reason) (level room lits_room : ℕ) (e : Entry) → HoldsTrail values items lits reasons level room lits_room → e.lit.var.0 < length values → IsFreeIn (values_of (length values) (reverse items)) e.lit → HoldsTrail (set values e.lit.var.0 (Some e.lit.yes)) (items ++ e ∷ []) (lits ++ e.lit ∷ []) (set reasons e.lit.var.0 (record { why = e.why; level = level_after e.why level })) (level_after e.why level) room lits_room
HoldsTrail-push values items lits reasons level room lits_room e h within free =
    let n : ℕ = length values in
    let es : List Entry = reverse items in
    let r : reverse (items ++ e ∷ []) ≡ e ∷ es = reverse-append items (e ∷ []) in
    let len : length (set values e.lit.var.0 (Some e.lit.yes)) ≡ n = length-set values e.lit.var.0 (Some e.lit.yes) in
    let table : List Reason = set reasons e.lit.var.0 (record { why = e.why; level = level_after e.why level }) in
    let table_len : length table ≡ length reasons = length-set reasons e.lit.var.0 _ in
    let trail : IsTrail n (e ∷ es) = (within, free, h.holds.trail) in
    record {
      holds = record {
        same = rw (len, r) (ap (λ a. set a e.lit.var.0 (Some e.lit.yes)) h.holds.same);
        trail = rw (len, r) trail;
        level_is = ap (level_after e.why) h.holds.level_is ∙ sym (ap level_of r);
        room_is = rw len h.holds.room_is;
      };
      lits_are = ap (λ ls. ls ++ e.lit ∷ []) h.lits_are ∙ sym (map-append (λ (x : Entry). x.lit) items (e ∷ []));
      recorded =
          subst (AreRecorded table) (sym r)
          (subst (λ k. AreRecorded (set reasons e.lit.var.0 (record { why = e.why; level = level_after e.why k })) (e ∷ es)) (sym h.holds.level_is)
          (AreRecorded-push reasons n e es h.reasons_room trail h.recorded));
      reasons_room = rw (len, table_len) h.reasons_room;
      lits_room_is = rw len h.lits_room_is;
    }

pub HoldsTrail-pop : (values : List (Option Bool)) (items items' : List Entry) (lits lits' : List Lit) (reasons : List Reason) (e : Entry) (level level' room lits_room : ℕ) → HoldsTrail values items lits reasons level room lits_room → items ≡ items' ++ e ∷ [] → lits' ≡ take (length lits - 1) lits → level ≡ level_after e.why level' → HoldsTrail (set values e.lit.var.0 None) items' lits' reasons level' room lits_room
HoldsTrail-pop values items items' lits lits' reasons e level level' room lits_room h split front lower =
    let len : length (set values e.lit.var.0 None) ≡ length values = length-set values e.lit.var.0 None in
    let lits_split : lits ≡ map (λ (x : Entry). x.lit) items' ++ e.lit ∷ [] =
    h.lits_are ∙ (ap (map (λ (x : Entry). x.lit)) split ∙ map-append (λ (x : Entry). x.lit) items' (e ∷ []))
    in
    record {
      holds = Holds-pop values items items' e level level' room h.holds split lower;
      lits_are = front ∙ take_front lits (map (λ (x : Entry). x.lit) items') e.lit lits_split;
      recorded = (subst (AreRecorded reasons) (reverse-push items items' e split) h.recorded).1;
      reasons_room = rw len h.reasons_room;
      lits_room_is = rw len h.lits_room_is;
    }
