-- Lists of variables and their marks.
use Rattle.std.proofs.Common.{◌≡◌, ℕ, ◌<◌, ◌↔◌, inl, inr, ◌++◌, Bool, true, false, List, [], ◌∷◌, cond, ◌==◌, ◌||◌, length, set, length-set, eq-eqb, refl, ap, sym, ◌∙◌, subst, arith}
use Rattle.std.specs.Prelude.{Any, IsTrue}
use Rattle.std.specs.List.{All}
use Rattle.std.proofs.lemmas.Bool.Decides.{eqb_tells}
use Rattle.std.proofs.lemmas.Bool.{cases_eq}
use Rattle.std.proofs.lemmas.List.{same_lists, get_or_default, get_or-set_same, get_or-set_other}
use Rattle.std.proofs.lemmas.List.Elements.{All-push, All-weaker, All-contains}
use Rattle.std.proofs.lemmas.List.Folds.{list_any-append, Any-from_list_any, list_any_at}
use Rattle.theory_form.specs.declared.literals.Var.{Var}
use Rattle.asp_store.specs.Store.{State}
use Rattle.asp_learn.specs.Marked.{marked, has, AreCleared, AreMarked, OnlyMarked}
use Rattle.asp_learn.proofs.LevelLemmas.{bool_cases}

cond_self : (b : Bool) → cond b true false ≡ b
cond_self true = refl
cond_self false = refl

pub not_true_false : (b : Bool) → b ≡ true → b ≡ false → ⊥
not_true_false b on off = absurd (let z : true ≡ false = sym on ∙ off in cc)

-- the bit that is_marked tells
pub mark_off : (b m : Bool) → (IsTrue b ↔ (m ≡ true)) → b ≡ false → m ≡ false
mark_off b m tells off = elim (bool_cases m) [
  | inl on ↦ absurd (not_true_false b (tells.1 on) off)
  | inr none ↦ none
]

-- a list with one variable more

pub has-push : (vars : List Var) (v : Var) (w : ℕ) → has (vars ++ v ∷ []) w ≡ cond (v.0 == w) true (has vars w)
has-push vars v w = list_any-append (λ (x : Var). x.0 == w) vars (v ∷ []) ∙ turn (has vars w) (v.0 == w) where
  turn : (a b : Bool) → (a || (b || false)) ≡ cond b true a
  turn true true = refl
  turn true false = refl
  turn false true = refl
  turn false false = refl

pub has-here : (vars : List Var) (v : Var) → has (vars ++ v ∷ []) v.0 ≡ true
has-here vars v = has-push vars v v.0 ∙ (let e = eq-eqb v.0 v.0 refl in rw e refl)

pub has-kept : (vars : List Var) (v : Var) (w : ℕ) → has vars w ≡ true → has (vars ++ v ∷ []) w ≡ true
has-kept vars v w on = has-push vars v w ∙ (rw on (either (v.0 == w))) where
  either : (b : Bool) → cond b true true ≡ true
  either true = refl
  either false = refl

-- the parts of a test that is true
pub has_some : (vars : List Var) (w : ℕ) → has vars w ≡ true → Any (λ v. v.0 ≡ w) vars
has_some vars w on =
    let x = Any-from_list_any (λ (v : Var). v.0 == w) vars on in
    (x.0, x.1, x.2, x.3, elim (eqb_tells x.1.0 w) [ inl t ↦ t.1 | inr f ↦ absurd (not_true_false (x.1.0 == w) x.4 f.0) ])

pub some_has : (vars : List Var) (w : ℕ) → Any (λ v. v.0 ≡ w) vars → has vars w ≡ true
some_has vars w x = list_any_at (λ (v : Var). v.0 == w) vars x.0 x.1 x.2 (ap (λ (v : Var). v.0 == w) x.3 ∙ eq-eqb x.1.0 w x.4)

-- tables of bits

pub marked_start : (vars : List Var) (base : List Bool) → vars ≡ [] → AreMarked vars base base
marked_start vars base none = rw none (record {
  size = refl;
  bits = λ v. refl;
  fresh = λ k d within. absurd (omega arith);
})

pub marked_push : (vars : List Var) (base mid : List Bool) (v : Var) → v.0 < length mid → marked mid v.0 ≡ false → AreMarked vars base mid → AreMarked (vars ++ v ∷ []) base (set mid v.0 true)
marked_push vars base mid v within off h =
    let none : has vars v.0 ≡ false = elim (bool_cases (has vars v.0)) [
      | inl on ↦ absurd (not_true_false (marked mid v.0) (h.bits v.0 ∙ ap (λ b. cond b true (marked base v.0)) on) off)
      | inr none ↦ none
    ] in
    let clear : marked base v.0 ≡ false = sym (h.bits v.0 ∙ ap (λ b. cond b true (marked base v.0)) none) ∙ off in
    record {
      size = length-set mid v.0 true ∙ h.size;
      bits = λ w. elim (cases_eq w v.0) [
        | inl same ↦ rw same (get_or-set_same mid v.0 true false within ∙ sym (ap (λ b. cond b true (marked base v.0)) (has-here vars v)))
        | inr other ↦
            let apart : (v.0 == w) ≡ false = elim (eqb_tells v.0 w) [ inl t ↦ absurd (other (sym t.1)) | inr f ↦ f.0 ] in
            let same : has (vars ++ v ∷ []) w ≡ has vars w = has-push vars v w ∙ ap (λ b. cond b true (has vars w)) apart in
            get_or-set_other mid v.0 w true false other ∙ (h.bits w ∙ sym (ap (λ b. cond b true (marked base w)) same))
      ];
      fresh = All-push (λ (w : Var). (w.0 < length base) × (marked base w.0 ≡ false)) vars v h.fresh (let s = h.size in omega arith, clear);
    }

pub all_inside : (vars : List Var) (base mid : List Bool) → AreMarked vars base mid → All (λ (v : Var). v.0 < length mid) vars
all_inside vars base mid h = All-weaker (λ (w : Var). (w.0 < length base) × (marked base w.0 ≡ false)) (λ (v : Var). v.0 < length mid) (λ w x. let a = x.0 in let s = h.size in omega (arith, a, s)) vars h.fresh

pub marks_back : (vars : List Var) (base mid new : List Bool) → AreMarked vars base mid → AreCleared vars mid new → new ≡ base
marks_back vars base mid new there back = same_lists new base (back.size ∙ there.size) (λ k d lt.
    get_or_default new k d false lt ∙ (at k ∙ get_or_default base k false d (let s = back.size ∙ there.size in omega (arith, s))))
  where
    at : (v : ℕ) → marked new v ≡ marked base v
    at v = elim (bool_cases (has vars v)) [
      | inl on ↦
          let x = has_some vars v on in
          let c = All-contains (λ (w : Var). (w.0 < length base) × (marked base w.0 ≡ false)) vars x.1 there.fresh (x.0, x.2, x.3) in
          back.bits v ∙ (ap (λ b. cond b false (marked mid v)) on ∙ sym (subst (λ w. marked base w ≡ false) x.4 c.1))
      | inr off ↦ back.bits v ∙ (ap (λ b. cond b false (marked mid v)) off ∙ (there.bits v ∙ ap (λ b. cond b true (marked base v)) off))
    ]

-- variables of the store

module _ {s : State} {vars : List Var} {marks : List Bool} (h : OnlyMarked s vars marks) (v : ℕ) (within : v < s.places) where
  pub marked_is : marked marks v ≡ has vars v
  marked_is = h.listed.bits v ∙ (ap (λ b. cond (has vars v) true b) (h.clear v within).1 ∙ cond_self (has vars v))

  pub inside : v < length marks
  inside = let a = (h.clear v within).0 in let e = h.listed.size in omega (arith, a, e)

pub only_start : (s : State) (vars : List Var) (marks : List Bool) → vars ≡ [] → ((v : ℕ) → v < s.places → (v < length marks) × (marked marks v ≡ false)) → OnlyMarked s vars marks
only_start s vars marks none clear = record { base = marks; clear = clear; listed = marked_start vars marks none }

-- after a call that marks what it puts on the list
pub only_kept : {s : State} {old new : List Var} {marks marks' : List Bool} → OnlyMarked s old marks → ((base : List Bool) → AreMarked old base marks → AreMarked new base marks') → OnlyMarked s new marks'
only_kept h more = record { base = h.base; clear = h.clear; listed = more h.base h.listed }

-- a variable that is marked stands in the list, and one that is not does not
pub has_from_marked : {s : State} {vars : List Var} {marks : List Bool} → OnlyMarked s vars marks → (v : ℕ) → v < s.places → marked marks v ≡ true → has vars v ≡ true
has_from_marked h v within on = sym (marked_is h v within) ∙ on

pub none_from_unmarked : {s : State} {vars : List Var} {marks : List Bool} → OnlyMarked s vars marks → (v : ℕ) → v < s.places → marked marks v ≡ false → has vars v ≡ false
none_from_unmarked h v within off = sym (marked_is h v within) ∙ off
