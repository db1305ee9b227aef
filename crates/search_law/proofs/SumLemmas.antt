-- Where no row implies a clause that is unit or false, all sums are right.
use Rattle.std.proofs.Common.{◌≡◌, ℕ, zero, suc, ◌+◌, inl, inr, Bool, true, false, not, List, [], ◌∷◌, length, Option, Some, None, refl, ap, sym, ◌∙◌, subst, arith}
use Rattle.std.specs.Prelude.{ℤ, pos, ◌+ℤ◌, if◌then◌else◌, fold}
use Rattle.std.specs.Bool.{beq}
use Rattle.std.specs.List.{All}
use Rattle.std.proofs.lemmas.Int.{ints, by_lt_z}
use Rattle.sets.specs.Lists.{IsNumberOf}
use Rattle.theory_form.specs.declared.literals.Lit.{Lit}
use Rattle.theory_form.specs.declared.literals.Var.{Var}
use Rattle.theory_form.specs.declared.rows.SumRow.{SumRow}
use Rattle.theory_form.specs.declared.rows.VarKind.{VarKind}
use Rattle.theory_form.specs.declared.rows.VarKind.TheVariants.{Atom, Sum, Body, Search, Other}
use Rattle.theory_form.specs.Kinds.{sum_row}
use Rattle.theory_form.specs.Numbers.{at_number}
use Rattle.theory_form.specs.Theories.{TheoryView, kind_of, row_of}
use Rattle.theory_form.proofs.NumberLemmas.{at_number_within}
use Rattle.theory_model.specs.Truth.{IsRowTrue, clause_true, literal_true, sum_true}
use Rattle.theory_model.specs.Whole.{AreOver, IsWhole}
use Rattle.theory_model.proofs.GrowthLemmas.{from_some, terms_over}
use Rattle.agg_nogoods.specs.Implied.{IsAnswer, IsImplied}
use Rattle.agg_nogoods.specs.Sums.{IsSum}
use Rattle.search_law.specs.Closed.{IsTotal, truths}
use Rattle.search_law.proofs.ValueLemmas.{bool_cases, both_false, first_false, places_over, second_false, settled_true}

-- the literals that are false where the variables of the terms have these values
abbrev forbidden : (ℕ → Bool) → List (ℤ × Var) → List Lit
forbidden f [] = []
forbidden f (t ∷ ts) = record { var = t.1; yes = not (f t.1.0) } ∷ forbidden f ts

-- the same for the variables of a row
abbrev forbidden_row : (ℕ → Bool) → SumRow → List Lit
forbidden_row f row = record { var = row.var; yes = not (f row.var.0) } ∷ forbidden f row.terms

beq_off : (b : Bool) → beq b (not b) ≡ false
beq_off true = refl
beq_off false = refl

not_twice : (x y : Bool) → beq x (not y) ≡ false → x ≡ y
not_twice true true h = refl
not_twice true false h = absurd (let z : true ≡ false = h in cc)
not_twice false true h = absurd (let z : true ≡ false = h in cc)
not_twice false false h = refl

forbidden_off : (f : ℕ → Bool) (ts : List (ℤ × Var)) → clause_true f (forbidden f ts) ≡ false
forbidden_off f [] = refl
forbidden_off f (t ∷ ts) =
    both_false (literal_true f (record { var = t.1; yes = not (f t.1.0) })) (clause_true f (forbidden f ts)) (beq_off (f t.1.0)) (forbidden_off f ts)

row_off : (f : ℕ → Bool) (row : SumRow) → clause_true f (forbidden_row f row) ≡ false
row_off f row =
    both_false (literal_true f (record { var = row.var; yes = not (f row.var.0) })) (clause_true f (forbidden f row.terms)) (beq_off (f row.var.0))
    (forbidden_off f row.terms)

-- where they are false, the terms have the sum that they have for these values
abbrev adds_up : (ℕ → Bool) → ℤ → ℤ × Var → ℤ
adds_up f sum t = sum +ℤ (if f t.1.0 then t.0 else pos 0)

same_fold : (f g : ℕ → Bool) (sum : ℤ) (ts : List (ℤ × Var)) → clause_true g (forbidden f ts) ≡ false → fold (adds_up g) sum ts ≡ fold (adds_up f) sum ts
same_fold f g sum [] off = refl
same_fold f g sum (t ∷ ts) off =
    let here : g t.1.0 ≡ f t.1.0 = not_twice (g t.1.0) (f t.1.0) (first_false (literal_true g (record { var = t.1; yes = not (f t.1.0) })) (clause_true g (forbidden f ts)) off) in
    let later = second_false (literal_true g (record { var = t.1; yes = not (f t.1.0) })) (clause_true g (forbidden f ts)) off in
    ap (λ b. fold (adds_up g) (sum +ℤ (if b then t.0 else pos 0)) ts) here ∙ same_fold f g (adds_up f sum t) ts later

one_sum : (f : ℕ → Bool) (row : SumRow) (m : ℤ) → IsSum (forbidden_row f row) row.terms m → m ≡ sum_true f row.terms
one_sum f row m s =
    sym s.2
    ∙ same_fold f s.0 (pos 0) row.terms
    (second_false (literal_true s.0 (record { var = row.var; yes = not (f row.var.0) })) (clause_true s.0 (forbidden f row.terms)) s.1)

-- ---- the variables of a row

forbidden_over : (n : ℕ) (f : ℕ → Bool) (ts : List (ℤ × Var)) → All (λ (t : ℤ × Var). IsNumberOf n t.1.0) ts → AreOver n (forbidden f ts)
forbidden_over n f [] h k d w = absurd (omega arith)
forbidden_over n f (t ∷ ts) h zero d w = h 0 t (omega arith)
forbidden_over n f (t ∷ ts) h (suc k) d w = forbidden_over n f ts (λ i e x. h (suc i) e (omega arith)) k d (omega arith)

over_cons : (n : ℕ) (l : Lit) (c : List Lit) → IsNumberOf n l.var.0 → AreOver n c → AreOver n (l ∷ c)
over_cons n l c h rest zero d w = h
over_cons n l c h rest (suc k) d w = rest k d (omega arith)

number_above : {A : Type 0} (xs : List A) (v : ℕ) (x : A) → at_number xs v ≡ Some x → IsNumberOf (length xs) v
number_above xs zero x at = absurd (cc)
number_above xs (suc k) x at = (omega arith, at_number_within xs (suc k) x at)

pub row_variable : (t : TheoryView) (v : ℕ) (row : SumRow) → row_of t v ≡ Some row → (row.var.0 ≡ v) × IsNumberOf (length t.variables) v
row_variable t v row h =
    let x = from_some (sum_row v) (kind_of t v) row h in
    (by_kind x.0 x.2, number_above t.variables v x.0 x.1)
  where
    by_kind : (k : VarKind) → sum_row v k ≡ Some row → row.var.0 ≡ v
    by_kind (Atom block supports) is = absurd (cc)
    by_kind (Sum terms bound) is =
        let here : SumRow = record { var = record { 0 = v }; terms = terms; bound = bound } in
        let same : here ≡ row = cc in
        sym (ap (λ (r : SumRow). r.var.0) same)
    by_kind (Body body) is = absurd (cc)
    by_kind Search is = absurd (cc)
    by_kind Other is = absurd (cc)

row_over : (t : TheoryView) (f : ℕ → Bool) (v : ℕ) (row : SumRow) → IsWhole t → row_of t v ≡ Some row → AreOver (length t.variables) (forbidden_row f row)
row_over t f v row whole at =
    let own = row_variable t v row at in
    over_cons (length t.variables) (record { var = row.var; yes = not (f row.var.0) }) (forbidden f row.terms)
    (subst (IsNumberOf (length t.variables)) (sym own.0) own.1)
    (forbidden_over (length t.variables) f row.terms (terms_over t whole v row at))

-- ---- a row

pub sum_holds : (t : TheoryView) (a : List (Option Bool)) → IsWhole t → length a ≡ length t.variables + 1 → IsTotal a → (v : ℕ) (row : SumRow) →
    row_of t v ≡ Some row → IsAnswer row a None → IsRowTrue (truths a) row
sum_holds t a whole places total v row at answer = (
  λ on. by_lt_z (sum_true (truths a) row.terms) row.bound
      (λ low. absurd (unsettled (inl (
        (0, omega arith, ap (λ b. record { var = row.var; yes = not b }) on),
        (
          sum_true (truths a) row.terms,
          record {
            reached = (truths a, row_off (truths a) row, refl);
            greatest = λ m s. let e = one_sum (truths a) row m s in omega (arith, ints);
          },
          low,
        ),
      ))))
      (λ le. le),
  λ le. elim (bool_cases (truths a row.var.0)) [
    | inl on ↦ on
    | inr off ↦ absurd (unsettled (inr (
      (0, omega arith, ap (λ b. record { var = row.var; yes = not b }) off),
      (
        sum_true (truths a) row.terms,
        record {
          reached = (truths a, row_off (truths a) row, refl);
          least = λ m s. let e = one_sum (truths a) row m s in omega (arith, ints);
        },
        le,
      ),
    )))
  ],
) where
  unsettled : IsImplied row (forbidden_row (truths a) row) → ⊥
  unsettled implied =
      let over = places_over a (length t.variables) (forbidden_row (truths a) row) places (row_over t (truths a) v row whole at) in
      let on = settled_true a (forbidden_row (truths a) row) total over (answer (forbidden_row (truths a) row) implied) in
      let z : true ≡ false = sym on ∙ row_off (truths a) row in
      cc
