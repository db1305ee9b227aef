-- Supports of the members of a list, and sets as marks.
use Rattle.std.proofs.Common.{◌≡◌, ℕ, zero, suc, get_or, ◌<◌, ◌↔◌, Bool, true, false, not, cond, List, [], length, Option, Some, None, sym, ap, ◌∙◌, arith, ⊎_elim}
use mathlib.Core.Path.{fun_ext}
use Rattle.std.specs.Prelude.{IsTrue, IsFalse, filter, nat_lt, nat_le, ◌&&◌, unwrap_or, IsSomeAnd}
use Rattle.std.specs.List.{Contains, All, flat_map}
use Rattle.std.proofs.lemmas.Bool.{cases_Bool, and_from, and_parts, and_left, lt-ltb, le-leb, ltb-true, leb-true, not-true, not_from_false}
use Rattle.std.proofs.lemmas.List.{same_lists, get_or_default}
use Rattle.std.proofs.lemmas.List.Elements.{All-contains, Contains-get_or}
use Rattle.std.proofs.lemmas.Option.{option_and_then_some}
use Rattle.theory_form.specs.declared.literals.Lit.{Lit}
use Rattle.theory_form.specs.declared.literals.Var.{Var}
use Rattle.theory_form.specs.Theories.{TheoryView, block_of, kind_of, supports_of}
use Rattle.theory_form.specs.Kinds.{atom_block}
use Rattle.theory_form.proofs.NumberLemmas.{at_number_within}
use Rattle.theory_model.specs.Loops.{AreAtomsOf, IsExternal, is_internal}
use Rattle.loop_nogoods.specs.Bodies.{support_lits, is_variable, marked_set}
use Rattle.loop_nogoods.specs.Marks.{marked, AreClear, IsVariable, Written}
use Rattle.loop_nogoods.specs.Sets.{has}
use Rattle.loop_nogoods.proofs.MemberLemmas.{Contains-filter, Contains-from_filter, Contains-flat_map, Contains-from_flat_map, Contains-from_has, has-from_Contains}

pub variable_from : (t : TheoryView) (v : ℕ) → IsVariable t v → IsTrue (is_variable t v)
variable_from t v h = and_from (nat_lt 0 v) (nat_le v (length t.variables)) (lt-ltb 0 v h.0) (le-leb v (length t.variables) h.1)

pub is_variable-true : (t : TheoryView) (v : ℕ) → IsTrue (is_variable t v) → IsVariable t v
is_variable-true t v h =
    let parts = and_parts (nat_lt 0 v) (nat_le v (length t.variables)) h in (ltb-true 0 v parts.0, leb-true v (length t.variables) parts.1)

-- marks of variables of the theory, over clear ones, are the set
pub marked_set-written : (t : TheoryView) (u : ℕ → Bool) (old new : List Bool) → AreClear t old → ((v : ℕ) → IsTrue (u v) → IsVariable t v) → Written u true old new → marked_set t new ≡ u
marked_set-written t u old new clear known written = fun_ext at
  where
    at : (v : ℕ) → marked_set t new v ≡ u v
    at v = ⊎_elim
        (λ (on : u v ≡ true).
        and_from (is_variable t v) (marked new v) (variable_from t v (known v on)) (written.bits v ∙ ap (λ b. cond b true (marked old v)) on) ∙ sym on)
        (λ (off : u v ≡ false).
        let bit : marked new v ≡ marked old v = written.bits v ∙ ap (λ b. cond b true (marked old v)) off in
        ⊎_elim
        (λ (in' : is_variable t v ≡ true). ap (λ b. b && marked new v) in' ∙ (bit ∙ ((clear v (is_variable-true t v in')).1 ∙ sym off)))
        (λ (out : is_variable t v ≡ false). and_left (is_variable t v) (marked new v) out ∙ sym off)
        (cases_Bool (is_variable t v)))
        (cases_Bool (u v))

-- marks of what was not marked, taken away again
pub Written-back : (u : ℕ → Bool) (old mid new : List Bool) → Written u true old mid → Written u false mid new → ((v : ℕ) → IsTrue (u v) → IsFalse (marked old v)) → new ≡ old
Written-back u old mid new there back clear = same_lists new old (back.size ∙ there.size) (λ k d lt.
    get_or_default new k d false lt ∙ (at k ∙ get_or_default old k false d (let s = back.size ∙ there.size in omega arith)))
  where
    at : (v : ℕ) → marked new v ≡ marked old v
    at v = ⊎_elim
        (λ (on : u v ≡ true). back.bits v ∙ (ap (λ b. cond b false (marked mid v)) on ∙ sym (clear v on)))
        (λ (off : u v ≡ false). back.bits v ∙ (ap (λ b. cond b false (marked mid v)) off ∙ (there.bits v ∙ ap (λ b. cond b true (marked old v)) off)))
        (cases_Bool (u v))

pub supports_from : (o : Option (List Lit)) (l : Lit) → Contains (unwrap_or o []) l → IsSomeAnd o (λ supports. Contains supports l)
supports_from None l h = let none : h.0 < 0 = h.1 in omega arith
supports_from (Some ls) l h = h

pub from_supports : (o : Option (List Lit)) (l : Lit) → IsSomeAnd o (λ supports. Contains supports l) → Contains (unwrap_or o []) l
from_supports None l h = absurd h
from_supports (Some ls) l h = h

-- an external support of the set of a list, by its parts
pub IsExternal-from : (t : TheoryView) (u : List Var) (v : Var) (l : Lit) → Contains u v → Contains (support_lits t v.0) l → IsFalse (is_internal t (has u) l) → IsExternal t (has u) l
IsExternal-from t u v l member support off = (v.0, has-from_Contains u v member, supports_from (supports_of t v.0) l support, off)

pub parts_of_IsExternal : (t : TheoryView) (u : List Var) (l : Lit) → IsExternal t (has u) l → (v : Var) × Contains u v × Contains (support_lits t v.0) l × IsFalse (is_internal t (has u) l)
parts_of_IsExternal t u l h =
    let v : Var = record { 0 = h.0 } in
    (v, Contains-from_has u h.0 h.1, from_supports (supports_of t h.0) l h.2, h.3)

-- what the list of the external ones has
pub external_members : (t : TheoryView) (u : List Var) (l : Lit) → Contains (flat_map (λ (v : Var). filter (λ s. not (is_internal t (has u) s)) (support_lits t v.0)) u) l ↔ IsExternal t (has u) l
external_members t u l = (
  (λ h.
      let some = Contains-from_flat_map (λ (v : Var). filter (λ s. not (is_internal t (has u) s)) (support_lits t v.0)) u l h in
      let v : Var = some.0 in
      let kept = Contains-from_filter (λ s. not (is_internal t (has u) s)) (support_lits t v.0) l some.2 in
      IsExternal-from t u v l some.1 kept.0 (not-true (is_internal t (has u) l) kept.1)),
  λ h.
      let p = parts_of_IsExternal t u l h in
      let v : Var = p.0 in
      Contains-flat_map (λ (w : Var). filter (λ s. not (is_internal t (has u) s)) (support_lits t w.0)) u v l p.1
      (Contains-filter (λ s. not (is_internal t (has u) s)) (support_lits t v.0) l p.2 (not_from_false (is_internal t (has u) l) p.3)),
)

-- the members of a list of variables
pub known_members : (t : TheoryView) (u : List Var) → All (λ (v : Var). IsVariable t v.0) u → (v : ℕ) → IsTrue (has u v) → IsVariable t v
known_members t u known v h = All-contains (λ (w : Var). IsVariable t w.0) u (record { 0 = v }) known (Contains-from_has u v h)

pub marks_of_list : (t : TheoryView) (u : List Var) (old new : List Bool) → AreClear t old → All (λ (v : Var). IsVariable t v.0) u → Written (has u) true old new → marked_set t new ≡ has u
marks_of_list t u old new clear known written = marked_set-written t (has u) old new clear (known_members t u known) written

pub marks_of_list_back : (t : TheoryView) (u : List Var) (old mid new : List Bool) → AreClear t old → All (λ (v : Var). IsVariable t v.0) u → Written (has u) true old mid → Written (has u) false mid new → new ≡ old
marks_of_list_back t u old mid new clear known there back =
    Written-back (has u) old mid new there back (λ v h. (clear v (known_members t u known v h)).1)

-- atoms are variables of the theory
pub atom_is_variable : (t : TheoryView) (block v : ℕ) → block_of t v ≡ Some block → IsVariable t v
atom_is_variable t block zero h = absurd (cc)
atom_is_variable t block (suc v) h =
    option_and_then_some atom_block (kind_of t (suc v)) block h (λ k is _.
    let within = at_number_within t.variables (suc v) k is in (omega arith, within))

pub atoms_are_variables : (t : TheoryView) (block : ℕ) (u : List Var) → AreAtomsOf t block (has u) → All (λ (v : Var). IsVariable t v.0) u
atoms_are_variables t block u atoms k d lt =
    let v : Var = get_or u k d in atom_is_variable t block v.0 (atoms v.0 (has-from_Contains u v (Contains-get_or u k d lt)))
