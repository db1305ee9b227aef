-- Assignments with more places.
use Rattle.std.proofs.Common.{◌≡◌, ℕ, suc, ◌<◌, ◌≤◌, inl, inr, Bool, not, List, [], ◌∷◌, length, set, replicate, Option, Some, None, get_or, sym, ◌∙◌, subst, arith, length-set}
use Rattle.std.specs.List.{All}
use Rattle.std.proofs.lemmas.Bool.{cases_eq}
use Rattle.std.proofs.lemmas.List.{get_or-set_same, get_or-set_other, get_or-replicate, length-replicate}
use Rattle.theory_form.specs.declared.literals.Lit.{Lit}
use Rattle.theory_form.specs.declared.literals.ClauseId.{ClauseId}
use Rattle.theory_form.specs.Hints.{all_false, Follows, FollowsByHints, made_true}
use Rattle.theory_form.specs.Truth.{value_of, IsFalseClause, IsUnitBy}

-- both have the same values at the first n places
record SameBelow (n : ℕ) (a b : List (Option Bool)) : Type 0 where
  first : n ≤ length a
  second : n ≤ length b
  values : (v : ℕ) → v < n → value_of a v ≡ value_of b v

same_set : (n : ℕ) (a b : List (Option Bool)) (v : ℕ) (y : Bool) → v < n → SameBelow n a b → SameBelow n (set a v (Some y)) (set b v (Some y))
same_set n a b v y within h =
    let f = h.first in
    let s = h.second in
    let la = length-set a v (Some y) in
    let lb = length-set b v (Some y) in
    record {
      first = omega (arith, f, la);
      second = omega (arith, s, lb);
      values = λ w below. elim (cases_eq w v) [
        | inl same ↦
            let ia : v < length a = omega (arith, f, within) in
            let ib : v < length b = omega (arith, s, within) in
            rw same (get_or-set_same a v (Some y) None ia ∙ sym (get_or-set_same b v (Some y) None ib))
        | inr other ↦ get_or-set_other a v w (Some y) None other ∙ (h.values w below ∙ sym (get_or-set_other b v w (Some y) None other))
      ];
    }

none_at : (n v : ℕ) → v < n → value_of (replicate n None) v ≡ None
none_at n v below = get_or-replicate n v None None below

same_all_false : (n m : ℕ) (c : List Lit) → n ≤ m → All (λ l. l.var.0 < n) c → SameBelow n (all_false n c) (all_false m c)
same_all_false n m [] le h =
    let none : Option Bool = None in
    let a : length (replicate n none) ≡ n = length-replicate n none in
    let b : length (replicate m none) ≡ m = length-replicate m none in
    record {
      first = omega (arith, a);
      second = omega (arith, b, le);
      values = λ v below. none_at n v below ∙ sym (none_at m v (omega arith));
    }
same_all_false n m (l ∷ c) le h =
    same_set n (all_false n c) (all_false m c) l.var.0 (not l.yes) (h 0 l (omega arith)) (same_all_false n m c le (λ k d w. h (suc k) d (omega arith)))

unit_within : (n : ℕ) (a : List (Option Bool)) (c : List Lit) (l : Lit) → All (λ m. m.var.0 < n) c → IsUnitBy a c l → l.var.0 < n
unit_within n a c l within u = subst (λ (m : Lit). m.var.0 < n) (u.lit_is l) (within u.place l u.unit.free.within)

unit_same : (n : ℕ) (a b : List (Option Bool)) (c : List Lit) (l : Lit) → SameBelow n a b → All (λ m. m.var.0 < n) c → IsUnitBy a c l → IsUnitBy b c l
unit_same n a b c l same within u = record {
  place = u.place;
  unit = record {
    free = record { within = u.unit.free.within; holds = λ d. sym (same.values (get_or c u.place d).var.0 (within u.place d u.unit.free.within)) ∙ u.unit.free.holds d };
    rest = λ k w other. record { within = w; holds = λ d. sym (same.values (get_or c k d).var.0 (within k d w)) ∙ (u.unit.rest k w other).holds d };
  };
  lit_is = u.lit_is;
}

false_same : (n : ℕ) (a b : List (Option Bool)) (c : List Lit) → SameBelow n a b → All (λ m. m.var.0 < n) c → IsFalseClause a c → IsFalseClause b c
false_same n a b c same within f k d w = sym (same.values (get_or c k d).var.0 (within k d w)) ∙ f k d w

follows_same : (n : ℕ) (look : ℕ → Option (List Lit)) → ((id : ℕ) (c : List Lit) → look id ≡ Some c → All (λ m. m.var.0 < n) c) → (a b : List (Option Bool)) (hints : List ClauseId) → SameBelow n a b → Follows look a hints → Follows look b hints
follows_same n look within a b [] same h = h
follows_same n look within a b (id ∷ []) same h = (h.0, h.1, false_same n a b h.0 same (within id.0 h.0 h.1) h.2)
follows_same n look within a b (id ∷ (x ∷ rest)) same h =
    let w = within id.0 h.0 h.1 in
    let l = h.2.0 in
    (h.0, h.1, (l, unit_same n a b h.0 l same w h.2.1, follows_same n look within (made_true a l) (made_true b l) (x ∷ rest) (same_set n a b l.var.0 l.yes (unit_within n a h.0 l w h.2.1) same) h.2.2))

pub follows_wider : (n m : ℕ) (look : ℕ → Option (List Lit)) (c : List Lit) (hints : List ClauseId) → n ≤ m → All (λ l. l.var.0 < n) c → ((id : ℕ) (d : List Lit) → look id ≡ Some d → All (λ l. l.var.0 < n) d) → FollowsByHints look n c hints → FollowsByHints look m c hints
follows_wider n m look c hints le within all h = follows_same n look all (all_false n c) (all_false m c) hints (same_all_false n m c le within) h
