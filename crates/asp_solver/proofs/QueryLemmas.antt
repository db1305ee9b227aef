-- Open queries, by their assumptions.
use Rattle.std.proofs.Common.{◌≡◌, ◌≢◌, ◌==◌, ℕ, zero, suc, ◌+◌, ◌<◌, ◌≤◌, ◌⊎◌, inl, inr, ◌++◌, Bool, true, false, not, ◌&&◌, ◌||◌, if◌then◌else◌, eqb, eqb-true, List, [], ◌∷◌, length, Option, Some, None, get_or, refl, ap, sym, ◌∙◌, subst, arith}
use Rattle.std.specs.List.{All, AllPairs, list_any}
use lib.Pointwise.{pointwise, pointwise_decides}
use mathlib.Core.Path.{fun_ext}
use Rattle.theory_form.specs.declared.literals.Lit.{Lit}
use Rattle.theory_form.specs.declared.literals.ClauseId.{ClauseId}
use Rattle.theory_form.specs.Order.{lit_eq}
use Rattle.std.specs.Bool.{beq}
use Rattle.asp_engine.specs.declared.periods.Period.{Period}
use Rattle.asp_engine.specs.declared.periods.Query.{Query}
use Rattle.asp_engine.specs.Moves.{held_by as held_in}
use Rattle.asp_solver.specs.Views.{AreApart, held_by, next_period, period_of, without}
use Rattle.asp_solver.proofs.PeriodLemmas.{all_push, pairs_push}

-- ---- lists of literals

first_so : (s t : Bool) → (s && t) ≡ true → s ≡ true
first_so true t h = refl
first_so false t h = h

second_so : (s t : Bool) → (s && t) ≡ true → t ≡ true
second_so true t h = h
second_so false t h = absurd (let z : false ≡ true = h in cc)

beq_so : (x y : Bool) → beq x y ≡ true → x ≡ y
beq_so true true h = refl
beq_so true false h = absurd (let z : false ≡ true = h in cc)
beq_so false true h = absurd (let z : false ≡ true = h in cc)
beq_so false false h = refl

beq_self : (x : Bool) → beq x x ≡ true
beq_self true = refl
beq_self false = refl

eqb_self : (n : ℕ) → eqb n n ≡ true
eqb_self n = grind arith

lit_decides : (x y : Lit) → (lit_eq x y ≡ true → x ≡ y) × (x ≡ y → lit_eq x y ≡ true)
lit_decides x y = (
  λ h.
      let v : x.var.0 ≡ y.var.0 = eqb-true x.var.0 y.var.0 (first_so (x.var.0 == y.var.0) (beq x.yes y.yes) h) in
      let s : x.yes ≡ y.yes = beq_so x.yes y.yes (second_so (x.var.0 == y.var.0) (beq x.yes y.yes) h) in
      λ i. record { var = record { 0 = v i }; yes = s i },
  λ e. subst (λ (z : Lit). lit_eq x z ≡ true) e (rw (eqb_self x.var.0, beq_self x.yes) refl),
)

pub same_so : (xs ys : List Lit) → pointwise lit_eq xs ys ≡ true → xs ≡ ys
same_so xs ys h = (pointwise_decides lit_decides xs ys).0 h

pub so_same : (xs ys : List Lit) → xs ≡ ys → pointwise lit_eq xs ys ≡ true
so_same xs ys e = (pointwise_decides lit_decides xs ys).1 e

pub bool_cases : (b : Bool) → (b ≡ true) ⊎ (b ≡ false)
bool_cases true = inl refl
bool_cases false = inr refl

differ : (xs ys : List Lit) → xs ≢ ys → pointwise lit_eq xs ys ≡ false
differ xs ys h = elim (bool_cases (pointwise lit_eq xs ys)) [
  | inl same ↦ absurd (h (same_so xs ys same))
  | inr other ↦ other
]

-- ---- one query taken out

if_true : {A : Type 0} (b : Bool) (x y : A) → b ≡ true → (if b then x else y) ≡ x
if_true b x y h = rw h refl

if_false : {A : Type 0} (b : Bool) (x y : A) → b ≡ false → (if b then x else y) ≡ y
if_false b x y h = rw h refl

pub period_without : (qs : List Query) (assume a : List Lit) → a ≢ assume → period_of (without qs assume) a ≡ period_of qs a
period_without [] assume a other = refl
period_without (q ∷ qs) assume a other = elim (bool_cases (pointwise lit_eq q.assume assume)) [
  | inl own ↦
      let apart : pointwise lit_eq q.assume a ≡ false = differ q.assume a (λ e. other (sym e ∙ same_so q.assume assume own)) in
      ap (λ xs. period_of xs a) (if_true (pointwise lit_eq q.assume assume) qs (q ∷ without qs assume) own)
      ∙ sym (if_false (pointwise lit_eq q.assume a) (Some q.period) (period_of qs a) apart)
  | inr not_own ↦
      ap (λ xs. period_of xs a) (if_false (pointwise lit_eq q.assume assume) qs (q ∷ without qs assume) not_own)
      ∙ ap (λ o. if pointwise lit_eq q.assume a then Some q.period else o) (period_without qs assume a other)
]

pub period_push_other : (qs : List Query) (q : Query) (a : List Lit) → q.assume ≢ a → period_of (qs ++ q ∷ []) a ≡ period_of qs a
period_push_other [] q a other = if_false (pointwise lit_eq q.assume a) (Some q.period) None (differ q.assume a other)
period_push_other (x ∷ qs) q a other = ap (λ o. if pointwise lit_eq x.assume a then Some x.period else o) (period_push_other qs q a other)

pub period_push_own : (qs : List Query) (q : Query) (a : List Lit) → q.assume ≡ a → period_of qs a ≡ None → period_of (qs ++ q ∷ []) a ≡ Some q.period
period_push_own [] q a same none = if_true (pointwise lit_eq q.assume a) (Some q.period) None (so_same q.assume a same)
period_push_own (x ∷ qs) q a same none = elim (bool_cases (pointwise lit_eq x.assume a)) [
  | inl there ↦ absurd (let z : Some x.period ≡ None = sym (if_true (pointwise lit_eq x.assume a) (Some x.period) (period_of qs a) there) ∙ none in cc)
  | inr not_there ↦
      if_false (pointwise lit_eq x.assume a) (Some x.period) (period_of (qs ++ q ∷ []) a) not_there
      ∙ period_push_own qs q a same (sym (if_false (pointwise lit_eq x.assume a) (Some x.period) (period_of qs a) not_there) ∙ none)
]

abbrev Apart : Query → Query → Type 0
Apart q r = pointwise lit_eq q.assume r.assume ≡ false

-- none of these has the assumptions
abbrev pub NoneHas : List Query → List Lit → Type 0
NoneHas qs assume = All (λ (q : Query). pointwise lit_eq q.assume assume ≡ false) qs

none_own : (q : Query) (qs : List Query) (assume : List Lit) → AreApart (q ∷ qs) → pointwise lit_eq q.assume assume ≡ true → NoneHas qs assume
none_own q qs assume apart own k d w =
    let x = apart 0 (suc k) d (omega arith) (omega (arith, w)) in
    let is : q.assume ≡ assume = same_so q.assume assume own in
    differ (get_or qs k d).assume assume (λ e. absurd (let z : true ≡ false = sym (so_same q.assume (get_or qs k d).assume (is ∙ sym e)) ∙ x in cc))

apart_tail : (q : Query) (qs : List Query) → AreApart (q ∷ qs) → AreApart qs
apart_tail q qs h i j d less w = h (suc i) (suc j) d (omega (arith, less)) (omega (arith, w))

pub none_without : (qs : List Query) (assume : List Lit) → AreApart qs → NoneHas (without qs assume) assume
none_without [] assume apart = λ k d w. absurd (omega (arith, w))
none_without (q ∷ qs) assume apart = elim (bool_cases (pointwise lit_eq q.assume assume)) [
  | inl own ↦ subst (λ xs. NoneHas xs assume) (sym (if_true (pointwise lit_eq q.assume assume) qs (q ∷ without qs assume) own)) (none_own q qs assume apart own)
  | inr not_own ↦ subst (λ xs. NoneHas xs assume) (sym (if_false (pointwise lit_eq q.assume assume) qs (q ∷ without qs assume) not_own)) (λ k d w. cons q (without qs assume) assume not_own (none_without qs assume (apart_tail q qs apart)) k d w)
] where
  cons : (q : Query) (qs : List Query) (assume : List Lit) → pointwise lit_eq q.assume assume ≡ false → NoneHas qs assume → NoneHas (q ∷ qs) assume
  cons q qs assume h none zero d w = h
  cons q qs assume h none (suc k) d w = none k d (omega (arith, w))

pub period_none : (qs : List Query) (assume : List Lit) → NoneHas qs assume → period_of qs assume ≡ None
period_none [] assume none = refl
period_none (q ∷ qs) assume none =
    if_false (pointwise lit_eq q.assume assume) (Some q.period) (period_of qs assume) (none 0 q (omega arith)) ∙ period_none qs assume (λ k d w. none (suc k) d (omega (arith, w)))

-- ---- what is true of each

pub all_without : (P : Query → Type 0) (qs : List Query) (assume : List Lit) → All P qs → All P (without qs assume)
all_without P [] assume h = h
all_without P (q ∷ qs) assume h = elim (bool_cases (pointwise lit_eq q.assume assume)) [
  | inl own ↦ subst (All P) (sym (if_true (pointwise lit_eq q.assume assume) qs (q ∷ without qs assume) own)) (tail P q qs h)
  | inr not_own ↦ subst (All P) (sym (if_false (pointwise lit_eq q.assume assume) qs (q ∷ without qs assume) not_own)) (cons P q (without qs assume) (h 0 q (omega arith)) (all_without P qs assume (tail P q qs h)))
] where
  tail : (P : Query → Type 0) (q : Query) (qs : List Query) → All P (q ∷ qs) → All P qs
  tail P q qs h k d w = h (suc k) d (omega (arith, w))

  cons : (P : Query → Type 0) (q : Query) (qs : List Query) → P q → All P qs → All P (q ∷ qs)
  cons P q qs p h zero d w = p
  cons P q qs p h (suc k) d w = h k d (omega (arith, w))

pub apart_without : (qs : List Query) (assume : List Lit) → AreApart qs → AreApart (without qs assume)
apart_without [] assume h = h
apart_without (q ∷ qs) assume h = elim (bool_cases (pointwise lit_eq q.assume assume)) [
  | inl own ↦ subst AreApart (sym (if_true (pointwise lit_eq q.assume assume) qs (q ∷ without qs assume) own)) (apart_tail q qs h)
  | inr not_own ↦ subst AreApart (sym (if_false (pointwise lit_eq q.assume assume) qs (q ∷ without qs assume) not_own))
      (λ i j d less w. cons q (without qs assume) (all_without (Apart q) qs assume (λ k e u. h 0 (suc k) e (omega arith) (omega (arith, u)))) (apart_without qs assume (apart_tail q qs h)) i j d less w)
] where
  cons : (q : Query) (qs : List Query) → All (Apart q) qs → AreApart qs → AreApart (q ∷ qs)
  cons q qs a p zero zero d less w = absurd (omega (arith, less))
  cons q qs a p zero (suc j) d less w = a j d (omega (arith, w))
  cons q qs a p (suc i) zero d less w = absurd (omega (arith, less))
  cons q qs a p (suc i) (suc j) d less w = p i j d (omega (arith, less)) (omega (arith, w))

pub apart_push : (qs : List Query) (q : Query) → AreApart qs → NoneHas qs q.assume → AreApart (qs ++ q ∷ [])
apart_push qs q p a = pairs_push Apart qs q p a

-- ---- what is held

and_false : (a b : Bool) → a ≡ false → (a && b) ≡ false
and_false a b h = rw h refl

held_none : (qs : List Query) (assume : List Lit) (k : ℕ) → NoneHas qs assume → held_in qs k ≡ held_by qs assume k
held_none [] assume k none = refl
held_none (q ∷ qs) assume k none =
    let a : pointwise lit_eq q.assume assume ≡ false = none 0 q (omega arith) in
    let held : Bool = list_any (λ (m : ClauseId). m.0 == k) q.period.learned in
    let one : held ≡ (not (pointwise lit_eq q.assume assume) && held) = sym (rw a refl) in
    ap (λ b. b || held_in qs k) one ∙ ap (λ b. (not (pointwise lit_eq q.assume assume) && held) || b) (held_none qs assume k (λ i d w. none (suc i) d (omega (arith, w))))

held_at : (qs : List Query) (assume : List Lit) (k : ℕ) → AreApart qs → held_in (without qs assume) k ≡ held_by qs assume k
held_at [] assume k apart = refl
held_at (q ∷ qs) assume k apart = elim (bool_cases (pointwise lit_eq q.assume assume)) [
  | inl own ↦
      let held : Bool = list_any (λ (m : ClauseId). m.0 == k) q.period.learned in
      let zero_part : (not (pointwise lit_eq q.assume assume) && held) ≡ false = rw own refl in
      ap (λ xs. held_in xs k) (if_true (pointwise lit_eq q.assume assume) qs (q ∷ without qs assume) own)
      ∙ (held_none qs assume k (none_own q qs assume apart own) ∙ sym (ap (λ b. b || held_by qs assume k) zero_part))
  | inr not_own ↦
      let held : Bool = list_any (λ (m : ClauseId). m.0 == k) q.period.learned in
      let one : held ≡ (not (pointwise lit_eq q.assume assume) && held) = sym (rw not_own refl) in
      ap (λ xs. held_in xs k) (if_false (pointwise lit_eq q.assume assume) qs (q ∷ without qs assume) not_own)
      ∙ (ap (λ b. b || held_in (without qs assume) k) one ∙ ap (λ b. (not (pointwise lit_eq q.assume assume) && held) || b) (held_at qs assume k (apart_tail q qs apart)))
]

pub held_without : (qs : List Query) (assume : List Lit) → AreApart qs → held_in (without qs assume) ≡ held_by qs assume
held_without qs assume apart = fun_ext (λ k. held_at qs assume k apart)

-- a number that one of them holds is held
pub held_of : (qs : List Query) (i : ℕ) (d : Query) (k : ClauseId) (j : ℕ) (e : ClauseId) → i < length qs → j < length (get_or qs i d).period.learned → get_or (get_or qs i d).period.learned j e ≡ k → held_in qs k.0 ≡ true
held_of [] i d k j e w u is = absurd (omega (arith, w))
held_of (q ∷ qs) zero d k j e w u is = or_left (list_any (λ (m : ClauseId). m.0 == k.0) q.period.learned) (held_in qs k.0) (any_at q.period.learned j e k u is) where
  or_left : (x y : Bool) → x ≡ true → (x || y) ≡ true
  or_left x y h = rw h refl

  any_at : (ids : List ClauseId) (j : ℕ) (e k : ClauseId) → j < length ids → get_or ids j e ≡ k → list_any (λ (m : ClauseId). m.0 == k.0) ids ≡ true
  any_at [] j e k u is = absurd (omega (arith, u))
  any_at (x ∷ ids) zero e k u is = or_left (x.0 == k.0) (list_any (λ (m : ClauseId). m.0 == k.0) ids) (subst (λ (m : ClauseId). eqb x.0 m.0 ≡ true) is (eqb_self x.0))
  any_at (x ∷ ids) (suc j) e k u is = or_right (x.0 == k.0) (list_any (λ (m : ClauseId). m.0 == k.0) ids) (any_at ids j e k (omega (arith, u)) is) where
    or_right : (x y : Bool) → y ≡ true → (x || y) ≡ true
    or_right true y h = refl
    or_right false y h = h
held_of (q ∷ qs) (suc i) d k j e w u is = or_right (list_any (λ (m : ClauseId). m.0 == k.0) q.period.learned) (held_in qs k.0) (held_of qs i d k j e (omega (arith, w)) u is) where
  or_right : (x y : Bool) → y ≡ true → (x || y) ≡ true
  or_right true y h = refl
  or_right false y h = h
