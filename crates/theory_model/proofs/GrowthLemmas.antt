-- A theory that begins with another one.
use Rattle.std.proofs.Common.{◌≡◌, ℕ, zero, suc, ◌≤◌, inl, inr, Bool, true, false, ◌&&◌, List, length, take, get_or, Option, Some, None, refl, ap, sym, ◌∙◌, subst, arith}
use Rattle.std.specs.Prelude.{ℤ, IfSome, IsTrue, IsFalse, IsSomeAnd}
use Rattle.std.specs.Option.{option_and_then}
use Rattle.std.specs.List.{All, Contains}
use Rattle.std.proofs.lemmas.List.Elements.{All-contains, Contains-get_or}
use Rattle.std.proofs.lemmas.Option.{get_or_from_slice_get, slice_get_within}
use Rattle.sets.specs.Lists.{IsNumberOf}
use Rattle.theory_form.specs.declared.literals.Lit.{Lit}
use Rattle.theory_form.specs.declared.literals.Var.{Var}
use Rattle.theory_form.specs.declared.rows.BodyRow.{BodyRow}
use Rattle.theory_form.specs.declared.rows.SumRow.{SumRow}
use Rattle.theory_form.specs.declared.rows.VarKind.{VarKind}
use Rattle.theory_form.specs.declared.rows.VarKind.TheVariants.{Atom, Sum, Body, Search, Other}
use Rattle.theory_form.specs.Kinds.{atom_block, atom_supports, body_row, sum_row}
use Rattle.theory_form.specs.Numbers.{at_number}
use Rattle.theory_form.specs.Theories.{TheoryView, Extends, body_of, clause_of, kind_of, row_of, supports_of}
use Rattle.theory_form.proofs.NumberLemmas.{at_number-kept, at_number-take, at_number_within}
use Rattle.theory_model.specs.Bodies.{DefinesBodies, HasNoMoreBodies}
use Rattle.theory_model.specs.Loops.{AreAtomsOf, IsLoopClause, is_internal, rests_on}
use Rattle.theory_model.specs.Models.{IsModel}
use Rattle.theory_model.specs.Whole.{AreOver, IsKindOver, IsWhole}

-- ---- entries by number

-- what stands at a number of the first list stands there in the second
longer_at : {A : Type 0} (xs ys : List A) (v : ℕ) (k : A) → take (length xs) ys ≡ xs → at_number xs v ≡ Some k → at_number ys v ≡ Some k
longer_at xs ys v k front at = (at_number-take ys (length xs) v k (ap (λ zs. at_number zs v) front ∙ at)).0

kept_at : {A : Type 0} (xs ys : List A) (v : ℕ) → take (length xs) ys ≡ xs → v ≤ length xs → at_number ys v ≡ at_number xs v
kept_at xs ys v front le = sym (at_number-kept ys (length xs) v le) ∙ ap (λ zs. at_number zs v) front

-- a look at an entry
pub from_some : {A B : Type 0} (g : A → Option B) (o : Option A) (b : B) → option_and_then g o ≡ Some b → (a : A) × (o ≡ Some a) × (g a ≡ Some b)
from_some g None b h = absurd (let z : None ≡ Some b = h in cc)
from_some g (Some a) b h = (a, refl, h)

pub longer_look : {A B : Type 0} (g : A → Option B) (xs ys : List A) (v : ℕ) (b : B) → take (length xs) ys ≡ xs → option_and_then g (at_number xs v) ≡ Some b → option_and_then g (at_number ys v) ≡ Some b
longer_look g xs ys v b front h =
    let x = from_some g (at_number xs v) b h in
    ap (option_and_then g) (longer_at xs ys v x.0 front x.1) ∙ x.2

at_each : {A : Type 0} (P : A → Type 0) (xs : List A) (v : ℕ) (x : A) → All P xs → at_number xs v ≡ Some x → P x
at_each P xs zero x all at = absurd (cc)
at_each P xs (suc k) x all at = subst P (get_or_from_slice_get xs k x x at) (all k x (slice_get_within xs k x at))

number_above : {A : Type 0} (xs : List A) (v : ℕ) (x : A) → at_number xs v ≡ Some x → IsNumberOf (length xs) v
number_above xs zero x at = absurd (cc)
number_above xs (suc k) x at = (omega arith, at_number_within xs (suc k) x at)

-- ---- theories that name their own variables alone

pub supports_over : (t : TheoryView) → IsWhole t → (v : ℕ) (lits : List Lit) → supports_of t v ≡ Some lits → AreOver (length t.variables) lits
supports_over t whole v lits h =
    let x = from_some atom_supports (kind_of t v) lits h in
    by_kind x.0 (at_each (IsKindOver (length t.variables)) t.variables v x.0 whole.kinds x.1) x.2
  where
    by_kind : (k : VarKind) → IsKindOver (length t.variables) k → atom_supports k ≡ Some lits → AreOver (length t.variables) lits
    by_kind (Atom block supports) over is = let same : supports ≡ lits = cc in subst (AreOver (length t.variables)) same over
    by_kind (Sum terms bound) over is = absurd (cc)
    by_kind (Body body) over is = absurd (cc)
    by_kind Search over is = absurd (cc)
    by_kind Other over is = absurd (cc)

pub terms_over : (t : TheoryView) → IsWhole t → (v : ℕ) (row : SumRow) → row_of t v ≡ Some row → All (λ (term : ℤ × Var). IsNumberOf (length t.variables) term.1.0) row.terms
terms_over t whole v row h =
    let x = from_some (sum_row v) (kind_of t v) row h in
    by_kind x.0 (at_each (IsKindOver (length t.variables)) t.variables v x.0 whole.kinds x.1) x.2
  where
    by_kind : (k : VarKind) → IsKindOver (length t.variables) k → sum_row v k ≡ Some row → All (λ (term : ℤ × Var). IsNumberOf (length t.variables) term.1.0) row.terms
    by_kind (Atom block supports) over is = absurd (cc)
    by_kind (Sum terms bound) over is =
        let here : SumRow = record { var = record { 0 = v }; terms = terms; bound = bound } in
        let same : here ≡ row = cc in
        subst (λ (r : SumRow). All (λ (term : ℤ × Var). IsNumberOf (length t.variables) term.1.0) r.terms) same over
    by_kind (Body body) over is = absurd (cc)
    by_kind Search over is = absurd (cc)
    by_kind Other over is = absurd (cc)

pub clause_over : (t : TheoryView) → IsWhole t → (id : ℕ) (c : List Lit) → clause_of t id ≡ Some c → AreOver (length t.variables) c
clause_over t whole id c h =
    let x = from_some (λ slot. slot) (at_number t.clauses id) c h in
    let over = at_each (λ (slot : Option (List Lit)). IfSome slot (AreOver (length t.variables))) t.clauses id x.0 whole.clauses x.1 in
    by_slot x.0 x.2 over
  where
    by_slot : (slot : Option (List Lit)) → slot ≡ Some c → IfSome slot (AreOver (length t.variables)) → AreOver (length t.variables) c
    by_slot None is over = absurd (cc)
    by_slot (Some d) is over = let same : d ≡ c = cc in subst (AreOver (length t.variables)) same over

support_over : (t : TheoryView) → IsWhole t → (w : ℕ) (l : Lit) (o : Option (List Lit)) → supports_of t w ≡ o → IsSomeAnd o (λ supports. Contains supports l) → IsNumberOf (length t.variables) l.var.0
support_over t whole w l None is h = absurd h
support_over t whole w l (Some supports) is h =
    All-contains (λ (m : Lit). IsNumberOf (length t.variables) m.var.0) supports l (supports_over t whole w supports is) h

-- ---- models

module _ (s t : TheoryView) (e : Extends s t) where
  pub clause_kept : (id : ℕ) → id ≤ length s.clauses → clause_of t id ≡ clause_of s id
  clause_kept id le = ap (option_and_then (λ slot. slot)) (kept_at s.clauses t.clauses id e.clauses le)

  pub clause_longer : (id : ℕ) (c : List Lit) → clause_of s id ≡ Some c → clause_of t id ≡ Some c
  clause_longer id c at = longer_look (λ slot. slot) s.clauses t.clauses id c e.clauses at

  pub kind_kept : (v : ℕ) → v ≤ length s.variables → kind_of t v ≡ kind_of s v
  kind_kept v le = kept_at s.variables t.variables v e.variables le

  pub body_kept : (v : ℕ) → v ≤ length s.variables → body_of t v ≡ body_of s v
  body_kept v le = ap (option_and_then (body_row v)) (kind_kept v le)

  pub atoms_longer : (block : ℕ) (u : ℕ → Bool) → AreAtomsOf s block u → AreAtomsOf t block u
  atoms_longer block u atoms w is = longer_look atom_block s.variables t.variables w block e.variables (atoms w is)

  -- a support that rests on the set in the shorter theory does so in the longer one
  resting : (u : ℕ → Bool) (l : Lit) → IsFalse (is_internal t u l) → IsFalse (is_internal s u l)
  resting u l off = go (body_of s l.var.0) refl where
    go : (o : Option BodyRow) → body_of s l.var.0 ≡ o → IsFalse (l.yes && rests_on u (body_of s l.var.0))
    go None none = rw none (and_off l.yes) where
      and_off : (b : Bool) → (b && false) ≡ false
      and_off true = refl
      and_off false = refl
    go (Some row) some =
        let later : body_of t l.var.0 ≡ Some row = longer_look (body_row l.var.0) s.variables t.variables l.var.0 row e.variables some in
        subst (λ o. IsFalse (l.yes && rests_on u o)) (later ∙ sym some) off

  supports_from : (u : ℕ → Bool) (block w : ℕ) (l : Lit) → AreAtomsOf s block u → IsTrue (u w) → IsSomeAnd (supports_of t w) (λ supports. Contains supports l) → IsSomeAnd (supports_of s w) (λ supports. Contains supports l)
  supports_from u block w l atoms member h =
      let x = from_some atom_block (kind_of s w) block (atoms w member) in
      let later : kind_of t w ≡ Some x.0 = longer_at s.variables t.variables w x.0 e.variables x.1 in
      let same : supports_of t w ≡ supports_of s w = ap (option_and_then atom_supports) (later ∙ sym x.1) in
      subst (λ o. IsSomeAnd o (λ supports. Contains supports l)) same h

  supports_to : (w : ℕ) (l : Lit) (o : Option (List Lit)) → supports_of s w ≡ o → IsSomeAnd o (λ supports. Contains supports l) → IsSomeAnd (supports_of t w) (λ supports. Contains supports l)
  supports_to w l None is h = absurd h
  supports_to w l (Some supports) is h =
      let later : supports_of t w ≡ Some supports = longer_look atom_supports s.variables t.variables w supports e.variables is in
      subst (λ o. IsSomeAnd o (λ xs. Contains xs l)) (sym later) h

  pub model_before : (f : ℕ → Bool) → IsModel t f → IsModel s f
  model_before f m = record {
    clauses = λ id c at. m.clauses id c (clause_longer id c at);
    sums = λ v row at. m.sums v row (longer_look (sum_row v) s.variables t.variables v row e.variables at);
    loops = λ block u atoms v member on.
        let x = m.loops block u (atoms_longer block u atoms) v member on in
        let external = x.1 in
        (x.0, (external.0, external.1, supports_from u block external.0 x.0 atoms external.1 external.2, resting u x.0 external.3), x.2);
  }

  pub bodies_before : HasNoMoreBodies s t → DefinesBodies s → DefinesBodies t
  bodies_before none defined f clauses b row is = defined f (λ id c at. clauses id c (clause_longer id c at)) b row (none b row is)

  -- ---- loop clauses

  pub loop_clause_longer : IsWhole s → (block : ℕ) (u : ℕ → Bool) (v : ℕ) (c : List Lit) → AreAtomsOf s block u → IsLoopClause s u v c → IsLoopClause t u v c
  loop_clause_longer whole block u v c atoms clause = record {
    ascending = clause.ascending;
    literals = λ l. (
      λ has. elim ((clause.literals l).0 has) [
        | inl own ↦ inl own
        | inr x ↦
            let le = (support_over s whole x.0 l (supports_of s x.0) refl x.2).1 in
            inr (x.0, x.1, supports_to x.0 l (supports_of s x.0) refl x.2, subst (λ o. IsFalse (l.yes && rests_on u o)) (sym (body_kept l.var.0 le)) x.3)
      ],
      λ h. (clause.literals l).1 (elim h [
        | inl own ↦ inl own
        | inr x ↦ inr (x.0, x.1, supports_from u block x.0 l atoms x.1 x.2, resting u l x.3)
      ]),
    );
  }

pub loop_clause_over : (t : TheoryView) (block : ℕ) (u : ℕ → Bool) (v : ℕ) (c : List Lit) → IsWhole t → AreAtomsOf t block u → IsTrue (u v) → IsLoopClause t u v c → AreOver (length t.variables) c
loop_clause_over t block u v c whole atoms member clause k d within =
    let l : Lit = get_or c k d in
    elim ((clause.literals l).0 (Contains-get_or c k d within)) [
      | inl own ↦
          let x = from_some atom_block (kind_of t v) block (atoms v member) in
          subst (λ (m : Lit). IsNumberOf (length t.variables) m.var.0) (sym own) (number_above t.variables v x.0 x.1)
      | inr e ↦ support_over t whole e.0 l (supports_of t e.0) refl e.2
    ]
