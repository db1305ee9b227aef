-- What the tests of a clause come to: it is the loop clause.
use Rattle.std.proofs.Common.{◌≡◌, ℕ, ◌+◌, ◌<◌, ◌≤◌, ◌↔◌, ◌⊎◌, inl, inr, Bool, true, false, not, cond, List, length, get_or, refl, sym, ap, ◌∙◌, subst, arith, ⊎_elim}
use mathlib.Core.Path.{fun_ext}
use Rattle.std.specs.Prelude.{IsTrue, ◌&&◌, ◌||◌, ◌==◌, Result, Ok, Err, is_ok}
use Rattle.std.specs.Bool.{beq}
use Rattle.std.specs.List.{Contains, list_all}
use Rattle.std.specs.List.Sorted.{IsBinarySearchResult, IsSearchInRange, IsSortedBy}
use Rattle.std.specs.Ordering.{is_lt, is_eq, ordering_reverse}
use Rattle.std.specs.declared.cmp.Ordering.TheVariants.{Less, Equal, Greater}
use Rattle.std.proofs.lemmas.Bool.{and_from, and_parts, cases_Bool, cases_lt, eqb-true, eq-eqb, false≢true, not-true, not-false, not_from_false, or_left, or_right}
use Rattle.std.proofs.lemmas.List.Elements.{All-contains, Contains-get_or}
use Rattle.std.proofs.lemmas.List.Folds.{Any-from_list_any, list_any_at, list_any_none}
use Rattle.std.proofs.lemmas.List.Sorted.{searchable_from_sorted}
use Rattle.std.proofs.lemmas.List.Sums.{AllPass-from_list_all, list_all-from_AllPass}
use Rattle.theory_form.specs.declared.literals.Lit.{Lit}
use Rattle.theory_form.specs.declared.literals.Var.{Var}
use Rattle.theory_form.specs.Literals.{IsAscending, lit_cmp}
use Rattle.theory_form.specs.Order.{lit_eq, lit_ties, lit_total}
use Rattle.theory_form.specs.Theories.{TheoryView}
use Rattle.theory_model.specs.Loops.{IsExternal, is_internal}
use Rattle.loop_nogoods.specs.Bodies.{is_support, is_variable, support_lits}
use Rattle.loop_nogoods.specs.Marks.{marked, AreClear, Written}
use Rattle.loop_nogoods.specs.Sets.{has}
use Rattle.loop_nogoods.specs.Tests.{is_among, is_covered, covers, stays_outside, fits_set, are_supports, are_named, is_named}
use Rattle.loop_nogoods.proofs.SupportLemmas.{IsExternal-from, parts_of_IsExternal, is_variable-true, Written-back}

-- ---- a search by halving in a clause

greater_from_less : (x y : Lit) → lit_cmp x y ≡ Less → is_lt (lit_cmp y x) ≡ false
greater_from_less x y e = ap is_lt (lit_total.antisymm y x ∙ ap ordering_reverse e)

sorted_from_ascending : (c : List Lit) → IsAscending c → IsSortedBy (λ l m. is_lt (lit_cmp l m)) c
sorted_from_ascending c h k d _ lt = greater_from_less (get_or c k d) (get_or c (k + 1) d) (h k (k + 1) d (omega arith) lt)

eq_from_equal : (x y : Lit) → lit_cmp x y ≡ Equal → lit_eq x y ≡ true
eq_from_equal x y e = lit_ties x y ∙ ap is_eq e

ne_from_less : (x y : Lit) → lit_cmp x y ≡ Less → lit_eq x y ≡ false
ne_from_less x y e = lit_ties x y ∙ ap is_eq e

ne_from_greater : (x y : Lit) → lit_cmp x y ≡ Greater → lit_eq x y ≡ false
ne_from_greater x y e = lit_ties x y ∙ ap is_eq e

pub found_is_among : (c : List Lit) (l : Lit) (r : Result ℕ ℕ) → IsAscending c → IsSearchInRange r (length c) → IsBinarySearchResult (λ y. lit_cmp y l) c r → is_ok r ≡ is_among c l
found_is_among c l (Ok i) ascend bound at = sym (list_any_at (λ m. lit_eq m l) c i l bound (eq_from_equal (get_or c i l) l (at l)))
found_is_among c l (Err i) ascend bound split =
    let parts = split (searchable_from_sorted lit_total (λ (m : Lit). m) c l (sorted_from_ascending c ascend)) in
    sym (list_any_none (λ m. lit_eq m l) c (λ k d lt. ⊎_elim
    (λ (low : k < i). ne_from_less (get_or c k d) l (parts.0 k d (omega arith) low))
    (λ (high : i ≤ k). ne_from_greater (get_or c k d) l (parts.1 k d high lt))
    (cases_lt k i)))

-- ---- tests of literals

beq-true : (x y : Bool) → beq x y ≡ true → x ≡ y
beq-true true true h = refl
beq-true true false h = absurd (false≢true h)
beq-true false true h = absurd (false≢true h)
beq-true false false h = refl

beq_same : (x : Bool) → beq x x ≡ true
beq_same true = refl
beq_same false = refl

pub lit_eq-true : (x y : Lit) → lit_eq x y ≡ true → x ≡ y
lit_eq-true x y h =
    let parts = and_parts (x.var.0 == y.var.0) (beq x.yes y.yes) h in
    let v = eqb-true x.var.0 y.var.0 parts.0 in
    let b = beq-true x.yes y.yes parts.1 in
    λ i. record { var = record { 0 = v i }; yes = b i }

pub lit_eq_same : (x : Lit) → lit_eq x x ≡ true
lit_eq_same x = and_from (x.var.0 == x.var.0) (beq x.yes x.yes) (eq-eqb x.var.0 x.var.0 refl) (beq_same x.yes)

pub Contains-from_among : (c : List Lit) (l : Lit) → IsTrue (is_among c l) → Contains c l
Contains-from_among c l h =
    let some = Any-from_list_any (λ m. lit_eq m l) c h in
    let m : Lit = some.1 in
    let at : get_or c some.0 m ≡ m = some.3 in
    subst (λ (k : Lit). Contains c k) (lit_eq-true m l some.4) (some.0, some.2, at)

pub among_from_Contains : (c : List Lit) (l : Lit) → Contains c l → IsTrue (is_among c l)
among_from_Contains c l h = list_any_at (λ m. lit_eq m l) c h.0 l h.1 (ap (λ (m : Lit). lit_eq m l) h.2 ∙ lit_eq_same l)

-- a member of the list of which it is a support
pub support_parts : (t : TheoryView) (u : List Var) (l : Lit) → IsTrue (is_support t u l) → (v : Var) × Contains u v × Contains (support_lits t v.0) l
support_parts t u l h =
    let some = Any-from_list_any (λ (v : Var). is_among (support_lits t v.0) l) u h in
    let v : Var = some.1 in
    let at : get_or u some.0 v ≡ v = some.3 in
    (v, (some.0, some.2, at), Contains-from_among (support_lits t v.0) l some.4)

pub support_from : (t : TheoryView) (u : List Var) (v : Var) (l : Lit) → Contains u v → Contains (support_lits t v.0) l → IsTrue (is_support t u l)
support_from t u v l member support =
    list_any_at (λ (w : Var). is_among (support_lits t w.0) l) u member.0 v member.1
    (ap (λ (w : Var). is_among (support_lits t w.0) l) member.2 ∙ among_from_Contains (support_lits t v.0) l support)

-- ---- the loop clause by its tests

-- each member of a list that passes passes
passes_at : {X : Type 0} (p : X → Bool) (xs : List X) (x : X) → IsTrue (list_all p xs) → Contains xs x → IsTrue (p x)
passes_at p xs x h member = All-contains (λ y. p y ≡ true) xs x (AllPass-from_list_all p xs h) member

all_pass : {X : Type 0} (p : X → Bool) (xs : List X) → ((x : X) → Contains xs x → IsTrue (p x)) → IsTrue (list_all p xs)
all_pass p xs h = list_all-from_AllPass p xs (λ k d lt. h (get_or xs k d) (Contains-get_or xs k d lt))

or_second : (x y : Bool) → (x || y) ≡ true → x ≡ false → y ≡ true
or_second true y h off = absurd (false≢true (sym off))
or_second false y h off = h

module _ (t : TheoryView) (u : List Var) (but : Lit) (c : List Lit) where
  -- its literals are that one and the external supports of the set
  abbrev pub HasLiterals : Type 0
  HasLiterals = (l : Lit) → Contains c l ↔ ((l ≡ but) ⊎ IsExternal t (has u) l)

  -- the literal is but, or no other
  abbrev is_outside : Lit → Bool
  is_outside m = lit_eq m but || not (is_internal t (has u) m)

  abbrev is_supported : Bool → Lit → Bool
  is_supported sign m = lit_eq m but || (not (beq m.yes sign) || is_support t u m)

  pub literals_from_tests : IsTrue (is_among c but) → IsTrue (fits_set t u (has u) but c) → ((sign : Bool) → IsTrue (are_supports t u but sign c)) → HasLiterals
  literals_from_tests first fits supports l = (there, back)
    where
      halves : IsTrue (covers t (has u) c u) × IsTrue (stays_outside t (has u) but c)
      halves = and_parts (covers t (has u) c u) (stays_outside t (has u) but c) fits

      there : Contains c l → (l ≡ but) ⊎ IsExternal t (has u) l
      there member = ⊎_elim
          (λ (same : lit_eq l but ≡ true). inl (lit_eq-true l but same))
          (λ (other : lit_eq l but ≡ false).
          let outside = or_second (lit_eq l but) (not (is_internal t (has u) l)) (passes_at is_outside c l halves.1 member) other in
          let rest = or_second (lit_eq l but) (not (beq l.yes l.yes) || is_support t u l) (passes_at (is_supported l.yes) c l (supports l.yes) member) other in
          let support = or_second (not (beq l.yes l.yes)) (is_support t u l) rest (ap not (beq_same l.yes)) in
          let p = support_parts t u l support in
          inr (IsExternal-from t u p.0 l p.1 p.2 (not-true (is_internal t (has u) l) outside)))
          (cases_Bool (lit_eq l but))

      back : (l ≡ but) ⊎ IsExternal t (has u) l → Contains c l
      back e = ⊎_elim
          (λ (is : l ≡ but). subst (Contains c) (sym is) (Contains-from_among c but first))
          (λ (ext : IsExternal t (has u) l).
          let p = parts_of_IsExternal t u l ext in
          let v : Var = p.0 in
          let covered = passes_at (λ (w : Var). is_covered t (has u) c (support_lits t w.0)) u v halves.0 p.1 in
          let here = passes_at (λ s. is_internal t (has u) s || is_among c s) (support_lits t v.0) l covered p.2 in
          Contains-from_among c l (or_second (is_internal t (has u) l) (is_among c l) here p.3))
          e

  pub tests_from_literals : HasLiterals → IsTrue (is_among c but) × IsTrue (fits_set t u (has u) but c) × ((sign : Bool) → IsTrue (are_supports t u but sign c))
  tests_from_literals h = (among_from_Contains c but ((h but).1 (inl refl)), and_from (covers t (has u) c u) (stays_outside t (has u) but c) all_covered all_outside, all_supports)
    where
      covered_at : (v : Var) → Contains u v → (s : Lit) → Contains (support_lits t v.0) s → IsTrue (is_internal t (has u) s || is_among c s)
      covered_at v member s support = ⊎_elim
          (λ (on : is_internal t (has u) s ≡ true). or_left (is_internal t (has u) s) (is_among c s) on)
          (λ (off : is_internal t (has u) s ≡ false).
          or_right (is_internal t (has u) s) (is_among c s) (among_from_Contains c s ((h s).1 (inr (IsExternal-from t u v s member support off)))))
          (cases_Bool (is_internal t (has u) s))

      all_covered : IsTrue (covers t (has u) c u)
      all_covered = all_pass (λ (v : Var). is_covered t (has u) c (support_lits t v.0)) u (λ v member.
          all_pass (λ s. is_internal t (has u) s || is_among c s) (support_lits t v.0) (covered_at v member))

      all_outside : IsTrue (stays_outside t (has u) but c)
      all_outside = all_pass is_outside c (λ m member. ⊎_elim
          (λ (is : m ≡ but). or_left (lit_eq m but) (not (is_internal t (has u) m)) (ap (λ (k : Lit). lit_eq k but) is ∙ lit_eq_same but))
          (λ (ext : IsExternal t (has u) m).
          or_right (lit_eq m but) (not (is_internal t (has u) m)) (not_from_false (is_internal t (has u) m) (parts_of_IsExternal t u m ext).3))
          ((h m).0 member))

      all_supports : (sign : Bool) → IsTrue (are_supports t u but sign c)
      all_supports sign = all_pass (is_supported sign) c (λ m member. ⊎_elim
          (λ (is : m ≡ but).
          or_left (lit_eq m but) (not (beq m.yes sign) || is_support t u m) (ap (λ (k : Lit). lit_eq k but) is ∙ lit_eq_same but))
          (λ (ext : IsExternal t (has u) m).
          let p = parts_of_IsExternal t u m ext in
          or_right (lit_eq m but) (not (beq m.yes sign) || is_support t u m)
          (or_right (not (beq m.yes sign)) (is_support t u m) (support_from t u p.0 m p.1 p.2)))
          ((h m).0 member))

-- ---- the marks of the supports of one sign

or_same : (b x y : Bool) → (b ≡ false → x ≡ y) → (b || x) ≡ (b || y)
or_same true x y h = refl
or_same false x y h = h refl

bit_of : (p b : Bool) → b ≡ false → cond p true b ≡ p
bit_of true b h = refl
bit_of false b h = h

-- a variable whose literal of this sign is a support of a listed atom
abbrev pub is_named_with : TheoryView → List Var → Bool → ℕ → Bool
is_named_with t u sign v = is_variable t v && is_support t u (record { var = record { 0 = v }; yes = sign })

module _ (t : TheoryView) (u : List Var) (sign : Bool) (old mid : List Bool) (clear : AreClear t old) (written : Written (is_named_with t u sign) true old mid) where
  named_is : (m : Lit) → beq m.yes sign ≡ true → is_named t mid u m ≡ is_support t u m
  named_is m here = ⊎_elim
      (λ (known : is_variable t m.var.0 ≡ true).
      let off = (clear m.var.0 (is_variable-true t m.var.0 known)).1 in
      ap (λ b. cond b (marked mid m.var.0) (is_support t u m)) known
      ∙ (written.bits m.var.0
      ∙ (bit_of (is_named_with t u sign m.var.0) (marked old m.var.0) off
      ∙ (ap (λ b. b && is_support t u (record { var = m.var; yes = sign })) known
      ∙ ap (λ b. is_support t u (record { var = m.var; yes = b })) (sym (beq-true m.yes sign here))))))
      (λ (unknown : is_variable t m.var.0 ≡ false). ap (λ b. cond b (marked mid m.var.0) (is_support t u m)) unknown)
      (cases_Bool (is_variable t m.var.0))

  pub named_are_supports : (but : Lit) (c : List Lit) → are_named t mid u but sign c ≡ are_supports t u but sign c
  named_are_supports but c = ap (λ (p : Lit → Bool). list_all p c) (fun_ext (λ m.
      or_same (lit_eq m but) (not (beq m.yes sign) || is_named t mid u m) (not (beq m.yes sign) || is_support t u m) (λ _.
      or_same (not (beq m.yes sign)) (is_named t mid u m) (is_support t u m) (λ off. named_is m (not-false (beq m.yes sign) off)))))

  pub named_back : (new : List Bool) → Written (is_named_with t u sign) false mid new → new ≡ old
  named_back new back = Written-back (is_named_with t u sign) old mid new written back (λ v h.
      (clear v (is_variable-true t v (and_parts (is_variable t v) (is_support t u (record { var = record { 0 = v }; yes = sign })) h).0)).1)
