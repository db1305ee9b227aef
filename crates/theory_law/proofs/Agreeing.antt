-- Assignments that agree on the variables of a theory that names no others are both models of it, or neither is.
use Rattle.std.proofs.Common.{◌≡◌, ℕ, zero, suc, ◌+◌, Bool, List, [], ◌∷◌, length, refl, sym, ap, ◌∙◌, subst, Option, Some, None, arith}
use Rattle.std.specs.Prelude.{◌≤ℤ◌, IsTrue, IsSomeAnd, Contains}
use Rattle.std.specs.Bool.{beq}
use Rattle.std.specs.Option.{option_and_then}
use Rattle.std.specs.List.{AllByRecursion}
use Rattle.std.proofs.lemmas.Option.{slice_get_within}
use Rattle.theory_form.specs.declared.literals.Lit.{Lit}
use Rattle.theory_form.specs.declared.rows.SumRow.{SumRow}
use Rattle.theory_form.specs.declared.rows.VarKind.{VarKind}
use Rattle.theory_form.specs.declared.rows.VarKind.TheVariants.{Atom, Sum, Body, Search, Other}
use Rattle.theory_form.specs.Kinds.{atom_supports, sum_row}
use Rattle.theory_form.specs.Numbers.{at_number}
use Rattle.theory_form.specs.Theories.{TheoryView, kind_of, row_of, block_of, supports_of}
use Rattle.theory_model.specs.Truth.{sum_true, IsRowTrue}
use Rattle.theory_model.specs.Loops.{AreAtomsOf, IsExternal, IsLoopTrue}
use Rattle.theory_model.specs.Models.{IsModel}
use Rattle.ground_form.specs.Ranges.{IsNumberOf}
use Rattle.theory_law.specs.Cuts.{AgreeOn}
use Rattle.theory_model.specs.Whole.{IsWhole}
use Rattle.theory_law.proofs.Membership.{in_from_Contains}
use Rattle.theory_law.proofs.Entries.{IsBefore, AgreeBefore, IsKindBefore, in_before, clause_rests, sum_rests}
use Rattle.theory_law.proofs.Slots.{AreSlotsTrue, slots_from_clauses, clauses_from_slots}
use Rattle.theory_law.proofs.Layouts.{block_parts}
use Rattle.theory_law.proofs.Wholes.{AreSlotsBefore, whole_kinds, whole_slots}

-- ---- what has a number is one of the theory's variables

pub kind_range : (t : TheoryView) (v : ℕ) (kind : VarKind) → kind_of t v ≡ Some kind → IsNumberOf (length t.variables) v
kind_range t zero kind e = absurd (cc)
kind_range t (suc k) kind e = let lt = slice_get_within t.variables k kind e in (omega arith, omega arith)

pub block_range : (t : TheoryView) (v block : ℕ) → block_of t v ≡ Some block → IsNumberOf (length t.variables) v
block_range t v block e = let found = block_parts t v block e in kind_range t v found.0 found.1

-- what holds of each kind holds of that of a number
pub kind_at : (P : VarKind → Type 0) (kinds : List VarKind) (v : ℕ) (kind : VarKind) → AllByRecursion P kinds → at_number kinds v ≡ Some kind → P kind
kind_at P kinds zero kind h e = absurd (cc)
kind_at P [] (suc k) kind h e = absurd (cc)
kind_at P (x ∷ kinds) (suc zero) kind h e = let same : x ≡ kind = cc in subst P same h.0
kind_at P (x ∷ kinds) (suc (suc k)) kind h e = kind_at P kinds (suc k) kind h.1 e

-- a support of an atom is over a variable of the theory
pub support_range : (t : TheoryView) → IsWhole t → (v : ℕ) (l : Lit) → IsSomeAnd (supports_of t v) (λ supports. Contains supports l) → IsBefore (length t.variables + 1) l.var.0
support_range t whole v l e = go (kind_of t v) refl e
  where
    in_kind : (kind : VarKind) → IsKindBefore (length t.variables + 1) kind → IsSomeAnd (atom_supports kind) (λ supports. Contains supports l) → IsBefore (length t.variables + 1) l.var.0
    in_kind (Atom block supports) h c = in_before (length t.variables + 1) supports h l (in_from_Contains l supports c)
    in_kind (Sum terms bound) h c = absurd c
    in_kind (Body lits) h c = absurd c
    in_kind Search h c = absurd c
    in_kind Other h c = absurd c

    go : (o : Option VarKind) → kind_of t v ≡ o → IsSomeAnd (option_and_then atom_supports o) (λ supports. Contains supports l) → IsBefore (length t.variables + 1) l.var.0
    go None s c = absurd c
    go (Some kind) s c = in_kind kind (kind_at (IsKindBefore (length t.variables + 1)) t.variables v kind (whole_kinds t whole) s) c

-- ---- assignments that agree

module _ (t : TheoryView) (whole : IsWhole t) (f h : ℕ → Bool) (agree : AgreeOn t f h) where
  before : AgreeBefore (length t.variables + 1) f h
  before w b = agree w (b.some, omega (arith, b.below))

  slots_agree : (slots : List (Option (List Lit))) → AreSlotsBefore (length t.variables + 1) slots → AreSlotsTrue f slots → AreSlotsTrue h slots
  slots_agree [] b s = tt
  slots_agree (None ∷ slots) b s = (tt, slots_agree slots b.1 s.1)
  slots_agree (Some c ∷ slots) b s = (sym (clause_rests (length t.variables + 1) f h before c b.0) ∙ s.0, slots_agree slots b.1 s.1)

  row_agrees : (v : ℕ) (row : SumRow) → row_of t v ≡ Some row → IsRowTrue f row → IsRowTrue h row
  row_agrees v row e is = go (kind_of t v) refl e
    where
      in_kind : (kind : VarKind) → kind_of t v ≡ Some kind → IsKindBefore (length t.variables + 1) kind → sum_row v kind ≡ Some row → IsRowTrue h row
      in_kind (Atom block supports) s b r = absurd (cc)
      in_kind (Sum terms bound) s b r =
          let here : SumRow = record { var = record { 0 = v }; terms = terms; bound = bound } in
          let same : here ≡ row = cc in
          let range = kind_range t v (Sum terms bound) s in
          let own : f v ≡ h v = agree v range in
          let sums : sum_true f terms ≡ sum_true h terms = sum_rests (length t.variables + 1) f h before terms b in
          let true_here : IsRowTrue f here = subst (IsRowTrue f) (sym same) is in
          subst (IsRowTrue h) same (λ t. subst (λ k. bound ≤ℤ k) sums (true_here.0 (own ∙ t)), λ le. sym own ∙ true_here.1 (subst (λ k. bound ≤ℤ k) (sym sums) le))
      in_kind (Body lits) s b r = absurd (cc)
      in_kind Search s b r = absurd (cc)
      in_kind Other s b r = absurd (cc)

      go : (o : Option VarKind) → kind_of t v ≡ o → option_and_then (sum_row v) o ≡ Some row → IsRowTrue h row
      go None s r = absurd (cc)
      go (Some kind) s r = in_kind kind s (kind_at (IsKindBefore (length t.variables + 1)) t.variables v kind (whole_kinds t whole) s) r

  pub loop_agrees : (block : ℕ) (u : ℕ → Bool) → AreAtomsOf t block u → (v : ℕ) → IsTrue (u v) → IsLoopTrue t f u v → IsLoopTrue t h u v
  loop_agrees block u atoms v uv loop hv =
      let range = block_range t v block (atoms v uv) in
      let some = loop (agree v range ∙ hv) in
      let l : Lit = some.0 in
      let ext : IsExternal t u l = some.1 in
      let over = support_range t whole ext.0 l ext.2 in
      (l, ext, ap (λ b. beq b l.yes) (sym (before l.var.0 over)) ∙ some.2)

  pub model_agrees : IsModel t f → IsModel t h
  model_agrees model = record {
    clauses = clauses_from_slots h t.clauses (slots_agree t.clauses (whole_slots t whole) (slots_from_clauses f t.clauses model.clauses));
    sums = λ v row e. row_agrees v row e (model.sums v row e);
    loops = λ block u atoms v uv. loop_agrees block u atoms v uv (model.loops block u atoms v uv);
  }
