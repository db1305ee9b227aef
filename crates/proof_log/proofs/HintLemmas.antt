-- The hint rule, hint by hint.
use Rattle.std.proofs.Common.{◌≡◌, ℕ, ◌+◌, ◌-◌, ◌<◌, ◌≤◌, ◌≢◌, ◌↔◌, Bool, true, false, not, List, [], ◌∷◌, length, Option, Some, get_or, drop, refl, ap, sym, ◌∙◌, subst, arith, length-drop, length-set, ⊎_elim, eqb, eq-eqb}
use Rattle.std.specs.Prelude.{IsTrue, IfSome}
use Rattle.std.proofs.lemmas.Bool.{cases_eq, eqb-true}
use Rattle.std.proofs.lemmas.List.{drop_more}
use Rattle.std.proofs.lemmas.Option.{same_Some}
use Rattle.std.proofs.Math.ListN.{drop_of_length-le}
use Rattle.theory_form.specs.declared.literals.ClauseId.{ClauseId}
use Rattle.theory_form.specs.declared.literals.Lit.{Lit}
use Rattle.theory_form.specs.Hints.{AtLast, Follows, made_true}
use Rattle.theory_form.specs.Truth.{value_of, TrueAt, FreeAt, FalseAt, IsUnitBy, TwoFree, IsFalseClause}
use Rattle.theory_form.proofs.LookLemmas.{FalseAt-read}
use Rattle.proof_log.specs.declared.hints.Hint.{Hint}
use Rattle.proof_log.specs.declared.hints.Hint.TheVariants.{Refuted, Forces, Neither}
use Rattle.proof_log.specs.Working.{AreOver, AreSame, HasValuesIn, HintsAreOver, IsHint}

any_lit : Lit
any_lit = record { var = record { 0 = 0 }; yes = true }

-- ---- what a clause is not

not_both : (o : Option Bool) (b : Bool) → o ≡ Some b → o ≡ Some (not b) → ⊥
not_both o true p q = cc
not_both o false p q = cc

true_false : (a : List (Option Bool)) (c : List Lit) (i : ℕ) → TrueAt a c i → FalseAt a c i → ⊥
true_false a c i t f = let l : Lit = get_or c i any_lit in not_both (value_of a l.var.0) l.yes (t.holds any_lit) (f.holds any_lit)

free_false : (a : List (Option Bool)) (c : List Lit) (i : ℕ) → FreeAt a c i → FalseAt a c i → ⊥
free_false a c i t f = let p = t.holds any_lit in let q = f.holds any_lit in cc

true_free : (a : List (Option Bool)) (c : List Lit) (i : ℕ) → TrueAt a c i → FreeAt a c i → ⊥
true_free a c i t f = let p = t.holds any_lit in let q = f.holds any_lit in cc

false_at : (a : List (Option Bool)) (c : List Lit) (i : ℕ) → i < length c → IsFalseClause a c → FalseAt a c i
false_at a c i within h = FalseAt-read a c i any_lit within (h i any_lit within)

free_not_false : (a : List (Option Bool)) (c : List Lit) (i : ℕ) → FreeAt a c i → IsFalseClause a c → ⊥
free_not_false a c i t f = free_false a c i t (false_at a c i t.within f)

-- neither false nor unit
abbrev pub IsNeither : List (Option Bool) → List Lit → Type 0
IsNeither a c = (IsFalseClause a c → ⊥) × ((l : Lit) → IsUnitBy a c l → ⊥)

pub neither_true : (a : List (Option Bool)) (c : List Lit) (i : ℕ) → TrueAt a c i → IsNeither a c
neither_true a c i t = (
  λ f. true_false a c i t (false_at a c i t.within f),
  λ l u. ⊎_elim
      (λ (same : i ≡ u.place). true_free a c i t (subst (λ k. FreeAt a c k) (sym same) u.unit.free))
      (λ (other : i ≡ u.place → ⊥). true_false a c i t (u.unit.rest i t.within other))
      (cases_eq i u.place),
)

pub neither_wide : (a : List (Option Bool)) (c : List Lit) (i j : ℕ) → TwoFree a c i j → IsNeither a c
neither_wide a c i j w = (
  free_not_false a c i w.first,
  λ l u. ⊎_elim
      (λ (same : i ≡ u.place). free_false a c j w.second (u.unit.rest j w.second.within (let q = w.before in λ e. omega arith)))
      (λ (other : i ≡ u.place → ⊥). free_false a c i w.first (u.unit.rest i w.first.within other))
      (cases_eq i u.place),
)

pub is_neither : (look : ℕ → Option (List Lit)) (a : List (Option Bool)) (id : ℕ) (c : List Lit) → look id ≡ Some c → IsNeither a c → IsHint look a id Neither
is_neither look a id c is h d also = subst (IsNeither a) (same_Some c d (sym is ∙ also)) h

false_not_unit : (a : List (Option Bool)) (c : List Lit) (l : Lit) → IsFalseClause a c → IsUnitBy a c l → ⊥
false_not_unit a c l f u = free_not_false a c u.place u.unit.free f

-- the literal of a unit clause is one
unit_is : (a : List (Option Bool)) (c : List Lit) (l m : Lit) → IsUnitBy a c l → IsUnitBy a c m → l ≡ m
unit_is a c l m u v = ⊎_elim
    (λ (same : u.place ≡ v.place). sym (u.lit_is l) ∙ (ap (λ k. get_or c k l) same ∙ v.lit_is l))
    (λ (other : u.place ≡ v.place → ⊥). absurd (free_false a c u.place u.unit.free (v.unit.rest u.place u.unit.free.within other)))
    (cases_eq u.place v.place)

-- ---- two tables with the same values

abbrev turned : (a b : List (Option Bool)) → AreSame a b → AreSame b a
turned a b s v = sym (s v)

false_same : (a b : List (Option Bool)) (c : List Lit) → AreSame a b → IsFalseClause a c → IsFalseClause b c
false_same a b c s h k d within = sym (s (get_or c k d).var.0) ∙ h k d within

unit_same : (a b : List (Option Bool)) (c : List Lit) (l : Lit) → AreSame a b → IsUnitBy a c l → IsUnitBy b c l
unit_same a b c l s u = record {
  place = u.place;
  unit = record {
    free = record { within = u.unit.free.within; holds = λ d. sym (s (get_or c u.place d).var.0) ∙ u.unit.free.holds d };
    rest = λ k within other. let f = u.unit.rest k within other in record { within = f.within; holds = λ d. sym (s (get_or c k d).var.0) ∙ f.holds d };
  };
  lit_is = u.lit_is;
}

pub hint_same : (look : ℕ → Option (List Lit)) (a b : List (Option Bool)) (id : ℕ) (h : Hint) → AreSame a b → IsHint look a id h → IsHint look b id h
hint_same look a b id Refuted s h = (h.0, h.1, false_same a b h.0 s h.2)
hint_same look a b id (Forces l) s h = (h.0, h.1, unit_same a b h.0 l s h.2)
hint_same look a b id Neither s h =
    λ c is. (λ f. (h c is).0 (false_same b a c (turned a b s) f), λ l u. (h c is).1 l (unit_same b a c l (turned a b s) u))

-- ---- the rest of the hints

-- the rest of the hints decides whether the rule holds of all of them; `now` is the assignment there
pub record IsSameFrom (look : ℕ → Option (List Lit)) (start : List (Option Bool)) (hints : List ClauseId) (i : ℕ) (a : List (Option Bool)) : Type 0 where
  pub now : List (Option Bool)
  pub size : length now ≡ length start
  pub same : AreSame a now
  pub here : Follows look start hints → Follows look now (drop i hints)
  pub back : Follows look now (drop i hints) → Follows look start hints

pub same_start : (look : ℕ → Option (List Lit)) (start : List (Option Bool)) (hints : List ClauseId) (a : List (Option Bool)) → AreSame a start → IsSameFrom look start hints 0 a
same_start look start hints a s = record { now = start; size = refl; same = s; here = λ h. h; back = λ h. h }

at_last_nil : (xs : List ClauseId) (P Q : Type 0) → length xs ≡ 0 → AtLast xs P Q → P
at_last_nil [] P Q e h = h
at_last_nil (x ∷ xs) P Q e h = absurd (omega arith)

at_last_cons : (xs : List ClauseId) (P Q : Type 0) → 0 < length xs → AtLast xs P Q → Q
at_last_cons [] P Q e h = absurd (omega arith)
at_last_cons (x ∷ xs) P Q e h = h

at_last_from_nil : (xs : List ClauseId) (P Q : Type 0) → length xs ≡ 0 → P → AtLast xs P Q
at_last_from_nil [] P Q e h = h
at_last_from_nil (x ∷ xs) P Q e h = absurd (omega arith)

at_last_from_cons : (xs : List ClauseId) (P Q : Type 0) → 0 < length xs → Q → AtLast xs P Q
at_last_from_cons [] P Q e h = absurd (omega arith)
at_last_from_cons (x ∷ xs) P Q e h = h

pub none_left : (look : ℕ → Option (List Lit)) (start : List (Option Bool)) (hints : List ClauseId) (i : ℕ) (a : List (Option Bool)) → length hints ≤ i → IsSameFrom look start hints i a → Follows look start hints → ⊥
none_left look start hints i a past s h = subst (Follows look s.now) (drop_of_length-le hints past) (s.here h)

module _ (look : ℕ → Option (List Lit)) (start : List (Option Bool)) (hints : List ClauseId) (i : ℕ) (a : List (Option Bool)) (d : ClauseId) (below : i < length hints) (s : IsSameFrom look start hints i a) where
  abbrev number : ℕ
  number = (get_or hints i d).0

  abbrev rest : List ClauseId
  rest = drop (i + 1) hints

  opens : drop i hints ≡ get_or hints i d ∷ rest
  opens = drop_more hints i d below

  left : length rest ≡ length hints - (i + 1)
  left = length-drop (i + 1) hints

  abbrev goes_on : List Lit → Type 0
  goes_on c = (l : Lit) × IsUnitBy s.now c l × Follows look (made_true s.now l) rest

  -- what the rule asks at this hint
  abbrev at_hint : Type 0
  at_hint = (c : List Lit) × (look number ≡ Some c) × AtLast rest (IsFalseClause s.now c) (goes_on c)

  to_hint : Follows look start hints → at_hint
  to_hint h = subst (Follows look s.now) opens (s.here h)

  from_hint : at_hint → Follows look start hints
  from_hint h = s.back (subst (Follows look s.now) (sym opens) h)

  its_clause : (c e : List Lit) → look number ≡ Some c → look number ≡ Some e → c ≡ e
  its_clause c e p q = same_Some c e (sym p ∙ q)

  pub refuted_last : i + 1 ≡ length hints → IsHint look a number Refuted → Follows look start hints
  refuted_last last g =
      let h = hint_same look a s.now number Refuted s.same g in
      from_hint (h.0, h.1, at_last_from_nil rest (IsFalseClause s.now h.0) (goes_on h.0) (omega (arith, left)) h.2)

  pub refuted_more : i + 1 ≢ length hints → IsHint look a number Refuted → Follows look start hints → ⊥
  refuted_more more g f =
      let h = hint_same look a s.now number Refuted s.same g in
      let x = to_hint f in
      let y = at_last_cons rest (IsFalseClause s.now x.0) (goes_on x.0) (omega (arith, left)) x.2 in
      false_not_unit s.now h.0 y.0 h.2 (subst (λ q. IsUnitBy s.now q y.0) (its_clause x.0 h.0 x.1 h.1) y.1)

  pub forces_last : (l : Lit) → i + 1 ≡ length hints → IsHint look a number (Forces l) → Follows look start hints → ⊥
  forces_last l last g f =
      let h = hint_same look a s.now number (Forces l) s.same g in
      let x = to_hint f in
      let y = at_last_nil rest (IsFalseClause s.now x.0) (goes_on x.0) (omega (arith, left)) x.2 in
      false_not_unit s.now h.0 l (subst (IsFalseClause s.now) (its_clause x.0 h.0 x.1 h.1) y) h.2

  pub forces_more : (l : Lit) (b : List (Option Bool)) → i + 1 ≢ length hints → IsHint look a number (Forces l) → AreSame b (made_true s.now l) → IsSameFrom look start hints (i + 1) b
  forces_more l b more g same =
      let h = hint_same look a s.now number (Forces l) s.same g in
      record {
        now = made_true s.now l;
        size = length-set s.now l.var.0 (Some l.yes) ∙ s.size;
        same = same;
        here = λ f.
            let x = to_hint f in
            let y = at_last_cons rest (IsFalseClause s.now x.0) (goes_on x.0) (omega (arith, left)) x.2 in
            let u = subst (λ q. IsUnitBy s.now q y.0) (its_clause x.0 h.0 x.1 h.1) y.1 in
            subst (λ m. Follows look (made_true s.now m) rest) (unit_is s.now h.0 y.0 l u h.2) y.2;
        back = λ f. from_hint (h.0, h.1, at_last_from_cons rest (IsFalseClause s.now h.0) (goes_on h.0) (omega (arith, left)) (l, h.2, f));
      }

  pub neither_follows : IsHint look a number Neither → Follows look start hints → ⊥
  neither_follows g f =
      let h = hint_same look a s.now number Neither s.same g in
      let x = to_hint f in
      let not = h x.0 x.1 in
      ⊎_elim
      (λ (none : length rest ≡ 0). not.0 (at_last_nil rest (IsFalseClause s.now x.0) (goes_on x.0) none x.2))
      (λ (some : length rest ≡ 0 → ⊥).
      let y = at_last_cons rest (IsFalseClause s.now x.0) (goes_on x.0) (omega arith) x.2 in
      not.1 y.0 y.1)
      (cases_eq (length rest) 0)

-- the variable of a forced literal is one of the clause's
pub forced_over : (look : ℕ → Option (List Lit)) (a : List (Option Bool)) (id : ℕ) (l : Lit) (u : ℕ → Bool) → IsHint look a id (Forces l) → IfSome (look id) (AreOver u) → IsTrue (u l.var.0)
forced_over look a id l u h over =
    let all : AreOver u h.0 = subst (λ o. IfSome o (AreOver u)) h.1 over in
    subst (λ (m : Lit). IsTrue (u m.var.0)) (h.2.lit_is l) (all h.2.place l h.2.unit.free.within)

-- ---- the loop over the hints

pub record IsTried (look : ℕ → Option (List Lit)) (places : ℕ) (hints : List ClauseId) (i : ℕ) (old a : List (Option Bool)) : Type 0 where
  pub size : length a ≡ length old
  pub exact : (start : List (Option Bool)) → length start ≡ places → AreSame old start → IsSameFrom look start hints i a
  pub within : (u : ℕ → Bool) → HintsAreOver u look hints → HasValuesIn u old → HasValuesIn u a

pub tried_start : (look : ℕ → Option (List Lit)) (places : ℕ) (hints : List ClauseId) (a : List (Option Bool)) → IsTried look places hints 0 a a
tried_start look places hints a = record {
  size = refl;
  exact = λ start size same. same_start look start hints a same;
  within = λ u over h. h;
}

pub tried_more : (look : ℕ → Option (List Lit)) (places : ℕ) (hints : List ClauseId) (i : ℕ) (old a b : List (Option Bool)) (d : ClauseId) (l : Lit) → i < length hints → IsTried look places hints i old a → IsHint look a (get_or hints i d).0 (Forces l) → i + 1 ≢ length hints → length b ≡ length a → ((c : List (Option Bool)) → length c ≡ places → AreSame a c → AreSame b (made_true c l)) → ((u : ℕ → Bool) → IsTrue (u l.var.0) → HasValuesIn u a → HasValuesIn u b) → IsTried look places hints (i + 1) old b
tried_more look places hints i old a b d l below t h more size made within = record {
  size = size ∙ t.size;
  exact = λ start is same.
      let s = t.exact start is same in
      forces_more look start hints i a d below s l b more h (made s.now (s.size ∙ is) s.same);
  within = λ u over v. within u (forced_over look a (get_or hints i d).0 l u h (over i d below)) (t.within u over v);
}

-- ---- answers

pub false_iff : (P : Type 0) → (P → ⊥) → IsTrue false ↔ P
false_iff P h = (λ e. cc, λ p. absurd (h p))

pub test_iff : (x y : ℕ) (P : Type 0) → (x ≡ y → P) → (x ≢ y → P → ⊥) → IsTrue (eqb x y) ↔ P
test_iff x y P yea nay = (
  λ e. yea (eqb-true x y e),
  λ p. ⊎_elim (λ (same : x ≡ y). eq-eqb x y same) (λ (other : x ≡ y → ⊥). absurd (nay other p)) (cases_eq x y),
)
