-- What a look at one clause does.
use Rattle.std.proofs.Common.{◌≡◌, ℕ, zero, suc, ◌+◌, ◌*◌, ◌<◌, ◌≤◌, ◌≢◌, inl, inr, Bool, true, false, not, List, [], ◌∷◌, length, Option, Some, None, get_or, refl, ap, sym, ◌∙◌, subst, arith, cond}
use Rattle.std.specs.Prelude.{option_map}
use Rattle.std.specs.List.{Contains}
use Rattle.std.proofs.lemmas.List.{get_or-set_same, get_or_default}
use Rattle.theory_form.specs.declared.literals.Lit.{Lit}
use Rattle.theory_form.specs.Truth.{IsFalseIn, IsTrueIn, TrueAt, FreeAt, IsUnitAt}
use Rattle.asp_trail.specs.declared.Entry.{Entry}
use Rattle.asp_trail.specs.Trail.{values_of}
use Rattle.asp_trail.proofs.TrailLemmas.{length-values_of}
use Rattle.asp_store.specs.Store.{clause_at, AllWithin, IsReason}
use Rattle.theory_form.proofs.LookLemmas.{TrueAt-read}
use Rattle.asp_store.specs.declared.choices.Kept.{Kept}
use Rattle.asp_store.specs.declared.watches.Watcher.{Watcher}
use Rattle.asp_store.specs.Watch.{kept_at, clauses_of, list_at, code, AreFreeOrSame, AreStable, HasWatcher, WatchOk, Listed, Grows, Rewatched, IsPlacesIn}
use Rattle.asp_store.proofs.WatchLemmas.{WatchOk-true, contains_place}

pub any_lit : Lit
any_lit = record { var = record { 0 = 0 }; yes = true }

pub clause_from_kept : (slots : List (Option Kept)) (id : ℕ) (k : Kept) → kept_at slots id ≡ Some k → clause_at (clauses_of slots) id ≡ Some k.clause
clause_from_kept [] id k h = absurd (let e : None ≡ Some k = h in cc)
clause_from_kept (s ∷ ss) zero k h = ap (option_map (λ (x : Kept). x.clause)) h
clause_from_kept (s ∷ ss) (suc id) k h = clause_from_kept ss id k h

bit_below : (b : Bool) → cond b 1 0 < 2
bit_below true = omega arith
bit_below false = omega arith

bit_same : (a b : Bool) → ◌≡◌ {A = ℕ} (cond a 1 0) (cond b 1 0) → a ≡ b
bit_same true true h = refl
bit_same true false h = absurd (omega arith)
bit_same false true h = absurd (omega arith)
bit_same false false h = refl

-- the place of its list tells a literal
pub code_same : (x l : Lit) → code x ≡ code l → x ≡ l
code_same x l h =
    let p = bit_below x.yes in
    let q = bit_below l.yes in
    let v : x.var.0 ≡ l.var.0 = omega (arith, p, q, h) in
    let b : x.yes ≡ l.yes = bit_same x.yes l.yes (omega (arith, p, q, h)) in
    λ i. record { var = record { 0 = v i }; yes = b i }

pub code-le : (l : Lit) → code l < 2 * l.var.0 + 2
code-le l = elim l.yes as (λ b. 2 * l.var.0 + cond b 1 0 < 2 * l.var.0 + 2) [ true ↦ omega arith | false ↦ omega arith ]

pub code-within : (slots : List (Option Kept)) (lists : List (List Watcher)) (n id i : ℕ) (k : Kept) (d : Lit) → AllWithin (clauses_of slots) n → 2 * n ≤ length lists → kept_at slots id ≡ Some k → i < length k.clause → code (get_or k.clause i d) < length lists
code-within slots lists n id i k d w room at within =
    let low : (get_or k.clause i d).var.0 < n = w id k.clause (clause_from_kept slots id k at) i d within in
    let c = code-le (get_or k.clause i d) in
    omega (arith, low, c)

pub Rewatched-made : (slots slots' : List (Option Kept)) (lists lists' : List (List Watcher)) (id i j : ℕ) (k : Kept) → kept_at slots id ≡ Some k → kept_at slots' id ≡ Some (record k { first = i; second = j }) → ((o : ℕ) → o ≢ id → kept_at slots' o ≡ kept_at slots o) → Grows lists lists' → i < length k.clause → j < length k.clause → Listed lists' id (record k { first = i; second = j }) → clauses_of slots' ≡ clauses_of slots → Rewatched slots slots' lists lists' id k (record k { first = i; second = j })
Rewatched-made slots slots' lists lists' id i j k was now others grows wi wj listed same = record {
  was = was;
  is_now = now;
  others = others;
  grows = grows;
  placed = λ some. (wi, wj);
  listed = listed;
  same_clauses = same;
}

pub IsPlacesIn-within : (slots : List (Option Kept)) (lists : List (List Watcher)) (n id i j : ℕ) (k : Kept) → AllWithin (clauses_of slots) n → 2 * n ≤ length lists → kept_at slots id ≡ Some k → i < length k.clause → j < length k.clause → IsPlacesIn k i j (length lists)
IsPlacesIn-within slots lists n id i j k w room at wi wj = record {
  first_in = wi;
  second_in = wj;
  first_code = λ d. code-within slots lists n id i k d w room at wi;
  second_code = λ d. code-within slots lists n id j k d w room at wj;
}

-- the list of the literal at a place, whatever the default
pub HasWatcher-place : (lists : List (List Watcher)) (c : List Lit) (i id : ℕ) (cl : List Lit) (d e : Lit) → i < length c → HasWatcher (list_at lists (code (get_or c i d))) id cl → HasWatcher (list_at lists (code (get_or c i e))) id cl
HasWatcher-place lists c i id cl d e within h = subst (λ l. HasWatcher (list_at lists (code l)) id cl) (get_or_default c i d e within) h

-- an entry is true once it was made
pub TrueAt-entry : (n : ℕ) (es : List Entry) (e : Entry) (c : List Lit) (at : ℕ) (d : Lit) → e.lit.var.0 < n → at < length c → get_or c at d ≡ e.lit → TrueAt (values_of n (e ∷ es)) c at
TrueAt-entry n es e c at d within place is =
    let len = length-values_of n es in
    let inside : e.lit.var.0 < length (values_of n es) = rw len within in
    let t : IsTrueIn (values_of n (e ∷ es)) e.lit = get_or-set_same (values_of n es) e.lit.var.0 (Some e.lit.yes) None inside in
    TrueAt-read (values_of n (e ∷ es)) c at d place (subst (λ l. IsTrueIn (values_of n (e ∷ es)) l) (sym is) t)

pub WatchOk-assigned : (a : List (Option Bool)) (k : Kept) (at i j : ℕ) → TrueAt a k.clause at → i < length k.clause → j < length k.clause → WatchOk a a (record k { first = i; second = j })
WatchOk-assigned a k at i j t wi wj = WatchOk-true a a (record k { first = i; second = j }) wi wj (at, t)

pub reason_from_unit : (slots : List (Option Kept)) (a : List (Option Bool)) (id at : ℕ) (k : Kept) (d : Lit) → kept_at slots id ≡ Some k → IsUnitAt a k.clause at → IsReason (clauses_of slots) a (get_or k.clause at d) id
reason_from_unit slots a id at k d stored unit = record {
  clause = k.clause;
  stored = clause_from_kept slots id k stored;
  place = at;
  unit = unit;
  lit_is = λ e. get_or_default k.clause at e d unit.free.within;
}

-- a place that was watched stands in the list of its literal
pub listed_first : (lists : List (List Watcher)) (id i : ℕ) (k : Kept) (d : Lit) → Listed lists id k → i < length k.clause → i ≡ k.first → HasWatcher (list_at lists (code (get_or k.clause i d))) id k.clause
listed_first lists id i k d h within e =
    subst (λ p. HasWatcher (list_at lists (code (get_or k.clause p d))) id k.clause) (sym e) (h.first d (subst (λ p. p < length k.clause) e within))

pub listed_second : (lists : List (List Watcher)) (id j : ℕ) (k : Kept) (d : Lit) → Listed lists id k → j < length k.clause → j ≡ k.second → HasWatcher (list_at lists (code (get_or k.clause j d))) id k.clause
listed_second lists id j k d h within e =
    subst (λ p. HasWatcher (list_at lists (code (get_or k.clause p d))) id k.clause) (sym e) (h.second d (subst (λ p. p < length k.clause) e within))

-- the list of a false literal is that of no literal without a value
apart_codes : (a : List (Option Bool)) (c : List Lit) (i : ℕ) (l d : Lit) → IsFalseIn a l → FreeAt a c i → code l ≢ code (get_or c i d)
apart_codes a c i l d is_false free same =
    let e : l ≡ get_or c i d = code_same l (get_or c i d) same in
    let f : IsFalseIn a (get_or c i d) = subst (IsFalseIn a) e is_false in
    absurd (let z : None ≡ Some (not (get_or c i d).yes) = sym (free.holds d) ∙ f in cc)

-- the lists in which the clause was put are those of literals without a value
pub stable_places : (a : List (Option Bool)) (k : Kept) (i j : ℕ) (lists lists' : List (List Watcher)) → AreFreeOrSame a k i j → ((x : ℕ) → (i ≢ k.first → (d : Lit) → x ≢ code (get_or k.clause i d)) → (j ≢ k.second → (d : Lit) → x ≢ code (get_or k.clause j d)) → list_at lists' x ≡ list_at lists x) → AreStable a lists lists'
stable_places a k i j lists lists' h others l is_false =
    others (code l)
    (λ moved d. elim h.0 [ inl same ↦ absurd (moved same) | inr free ↦ apart_codes a k.clause i l d is_false free ])
    (λ moved d. elim h.1 [ inl same ↦ absurd (moved same) | inr free ↦ apart_codes a k.clause j l d is_false free ])

-- the literal that a read past the end gives
abbrev pub zero_lit : Lit
zero_lit = record { var = record { 0 = 0 }; yes = false }

-- a literal of a clause whose places were changed
pub contains_now : (slots : List (Option Kept)) (id i j at : ℕ) (k x : Kept) (d : Lit) (c : List Lit) → kept_at slots id ≡ Some (record k { first = i; second = j }) → kept_at slots id ≡ Some x → at < length k.clause → c ≡ k.clause → Contains x.clause (get_or c at d)
contains_now slots id i j at k x d c now there within is =
    let e : Some (record k { first = i; second = j }) ≡ Some x = sym now ∙ there in
    let f : record k { first = i; second = j } ≡ x = cc in
    subst (λ (y : Kept). Contains y.clause (get_or c at d)) f (subst (λ ys. Contains k.clause (get_or ys at d)) (sym is) (contains_place k.clause at d within))
