-- A theory with plain variables and clauses more.
use Rattle.std.proofs.Common.{◌≡◌, ◌↔◌, ℕ, zero, suc, ◌+◌, ◌-◌, ◌<◌, ◌≤◌, Bool, ◌&&◌, List, ◌++◌, length, refl, sym, ap, ◌∙◌, subst, Option, Some, None, ⊎_elim, arith}
use Rattle.std.specs.Prelude.{ℤ, All, IfSome, IsSomeAnd, Contains, slice_get}
use Rattle.std.specs.Option.{option_and_then}
use Rattle.std.proofs.lemmas.Bool.{cases_lt}
use Rattle.std.proofs.lemmas.List.{length-append, length-take}
use Rattle.std.proofs.lemmas.List.Elements.{All-append, All-weaker, All-from_recursion, recursion_from_All}
use Rattle.std.proofs.lemmas.Option.{get_or_from_slice_get, slice_get_within}
use Rattle.theory_form.specs.declared.literals.Lit.{Lit}
use Rattle.theory_form.specs.declared.literals.Var.{Var}
use Rattle.theory_form.specs.declared.rows.VarKind.{VarKind}
use Rattle.theory_form.specs.declared.rows.VarKind.TheVariants.{Atom, Sum, Body, Search, Other}
use Rattle.theory_form.specs.Kinds.{atom_block, atom_supports, body_row, sum_row, IsKind}
use Rattle.theory_form.specs.Theories.{TheoryView, Extends, IsTheory, IsSearch, kind_of, supports_of}
use Rattle.theory_model.specs.Bodies.{DefinesBodies}
use Rattle.theory_model.specs.Loops.{rests_on, is_internal, IsExternal, AreAtomsOf, IsLoopTrue}
use Rattle.theory_model.specs.Models.{IsModel}
use Rattle.theory_model.specs.Whole.{AreOver, IsKindOver, IsWhole}
use Rattle.theory_model.proofs.GrowthLemmas.{bodies_before, from_some, kind_kept, model_before}
use Rattle.ground_form.specs.Ranges.{IsNumberOf}
use Rattle.theory_build.proofs.BaseLemmas.{extends_more}
use Rattle.theory_law.specs.Growth.{AllTrue, IsMore}
use Rattle.theory_law.proofs.Slots.{AreSlotsTrue, IsSlotTrue, slots_from_clauses, clauses_from_slots, split_all, join_all}
use Rattle.theory_law.proofs.Layouts.{slice_get_back}
use Rattle.theory_law.proofs.Agreeing.{block_range, support_range}

-- ---- a theory that begins with another one

module _ (s t : TheoryView) (e : Extends s t) where
  pub extends_length : length s.variables ≤ length t.variables
  extends_length = omega (arith, ap length e.variables, length-take (length s.variables) t.variables)

  internal_same : (u : ℕ → Bool) (l : Lit) → l.var.0 ≤ length s.variables → is_internal t u l ≡ is_internal s u l
  internal_same u l le = ap (λ o. l.yes && rests_on u (option_and_then (body_row l.var.0) o)) (kind_kept s t e l.var.0 le)

  supports_same : (v : ℕ) → v ≤ length s.variables → supports_of t v ≡ supports_of s v
  supports_same v le = ap (option_and_then atom_supports) (kind_kept s t e v le)

  -- a loop of the older theory that is true there is true in the newer one
  loop_on : IsWhole s → (f u : ℕ → Bool) (block : ℕ) → AreAtomsOf s block u → (v : ℕ) → IsLoopTrue s f u v → IsLoopTrue t f u v
  loop_on whole f u block atoms v loop fv =
      let some = loop fv in
      let l : Lit = some.0 in
      let ext : IsExternal s u l = some.1 in
      let old : ext.0 ≤ length s.variables = (block_range s ext.0 block (atoms ext.0 ext.1)).1 in
      let over = support_range s whole ext.0 l ext.2 in
      (l, (ext.0, ext.1, subst (λ o. IsSomeAnd o (λ supports. Contains supports l)) (sym (supports_same ext.0 old)) ext.2, internal_same u l (omega (arith, over.below)) ∙ ext.3), some.2)

-- ---- over more variables

pub over_more : (n m : ℕ) → n ≤ m → (lits : List Lit) → AreOver n lits → AreOver m lits
over_more n m le lits h = All-weaker (λ (l : Lit). IsNumberOf n l.var.0) (λ (l : Lit). IsNumberOf m l.var.0) (λ l r. (r.0, omega (arith, r.1))) lits h

kind_over_more : (n m : ℕ) → n ≤ m → (k : VarKind) → IsKindOver n k → IsKindOver m k
kind_over_more n m le (Atom block supports) h = over_more n m le supports h
kind_over_more n m le (Sum terms bound) h = All-weaker (λ (term : ℤ × Var). IsNumberOf n term.1.0) (λ (term : ℤ × Var). IsNumberOf m term.1.0) (λ term r. (r.0, omega (arith, r.1))) terms h
kind_over_more n m le (Body lits) h = over_more n m le lits h
kind_over_more n m le Search h = tt
kind_over_more n m le Other h = tt

slot_over_more : (n m : ℕ) → n ≤ m → (slot : Option (List Lit)) → IfSome slot (AreOver n) → IfSome slot (AreOver m)
slot_over_more n m le None h = tt
slot_over_more n m le (Some c) h = over_more n m le c h

-- ---- plain variables and clauses more

module _ (t new : TheoryView) (kinds : List VarKind) (slots : List (Option (List Lit))) (more : IsMore t new kinds slots) where
  pub more_extends : Extends t new
  more_extends = extends_more t new kinds slots more.variables more.clauses (let b = more.blocks in omega arith)

  pub more_length : length new.variables ≡ length t.variables + length kinds
  more_length = ap length more.variables ∙ length-append t.variables kinds

  plain_at : (k : ℕ) (kind : VarKind) → slice_get kinds k ≡ Some kind → kind ≡ Other
  plain_at k kind e = subst (λ (x : VarKind). x ≡ Other) (get_or_from_slice_get kinds k kind kind e) (more.plain k kind (slice_get_within kinds k kind e))

  -- a newer variable is a plain one
  newer_plain : (v : ℕ) (kind : VarKind) → length t.variables < v → kind_of new v ≡ Some kind → kind ≡ Other
  newer_plain zero kind lt e = absurd (omega arith)
  newer_plain (suc k) kind lt e =
      let j : ℕ = k - length t.variables in
      let at : k ≡ length t.variables + j = omega arith in
      plain_at j kind
      (sym (ap (λ (xs : List VarKind). slice_get xs k) more.variables ∙ (ap (slice_get (t.variables ++ kinds)) at ∙ slice_get_back t.variables kinds j)) ∙ e)

  -- what is none of a plain variable's is one of an older variable's
  older_look : {B : Type 0} (g : VarKind → Option B) (v : ℕ) (b : B) → g Other ≡ None → option_and_then g (kind_of new v) ≡ Some b → option_and_then g (kind_of t v) ≡ Some b
  older_look g v b none e =
      let x = from_some g (kind_of new v) b e in
      ⊎_elim
      (λ (newer : length t.variables < v).
      let z : Some b ≡ None = sym x.2 ∙ (ap g (newer_plain v x.0 newer x.1) ∙ none) in
      absurd (cc))
      (λ (older : v ≤ length t.variables). sym (ap (option_and_then g) (kind_kept t new more_extends v older)) ∙ e)
      (cases_lt (length t.variables) v)

  pub more_slots : (f : ℕ → Bool) → IsModel new f → AreSlotsTrue f slots
  more_slots f model = (split_all _ t.clauses slots (subst (AreSlotsTrue f) more.clauses (slots_from_clauses f new.clauses model.clauses))).1

  pub more_model : IsWhole t → (f : ℕ → Bool) → IsModel t f → AreSlotsTrue f slots → IsModel new f
  more_model whole f model true_slots = record {
    clauses = clauses_from_slots f new.clauses (subst (AreSlotsTrue f) (sym more.clauses) (join_all _ t.clauses slots (slots_from_clauses f t.clauses model.clauses) true_slots));
    sums = λ v row r. model.sums v row (older_look (sum_row v) v row refl r);
    loops = λ block u atoms v uv.
        let older : AreAtomsOf t block u = λ w uw. older_look atom_block w block refl (atoms w uw) in
        loop_on t new more_extends whole f u block older v (model.loops block u older v uv);
  }

  pub more_means : IsWhole t → (f : ℕ → Bool) → IsModel new f ↔ (IsModel t f × AllTrue f slots)
  more_means whole f = (
    λ model. (model_before t new more_extends f model, All-from_recursion (IsSlotTrue f) slots (more_slots f model)),
    λ h. more_model whole f h.0 (recursion_from_All (IsSlotTrue f) slots h.1),
  )

  pub more_theory : IsTheory t → IsTheory new
  more_theory theory = record {
    kinds = λ v kind e. ⊎_elim
        (λ (newer : length t.variables < v). subst (IsKind new.blocks) (sym (newer_plain v kind newer e)) tt)
        (λ (older : v ≤ length t.variables). subst (λ n. IsKind n kind) (sym more.blocks) (theory.kinds v kind (sym (kind_kept t new more_extends v older) ∙ e)))
        (cases_lt (length t.variables) v);
    guard = λ v w sv sw. theory.guard v w (back v sv) (back w sw);
  }
    where
      back : (v : ℕ) → IsSearch new v → IsSearch t v
      back v sv = ⊎_elim
          (λ (newer : length t.variables < v). let other : Search ≡ Other = newer_plain v Search newer sv in absurd (cc))
          (λ (older : v ≤ length t.variables). sym (kind_kept t new more_extends v older) ∙ sv)
          (cases_lt (length t.variables) v)

  kinds_over : (m : ℕ) → All (IsKindOver m) kinds
  kinds_over m k d within = subst (IsKindOver m) (sym (more.plain k d within)) tt

  pub more_whole : IsWhole t → IsWhole new
  more_whole whole =
      let n : ℕ = length t.variables in
      let m : ℕ = length new.variables in
      let le : n ≤ m = omega (arith, more_length) in
      record {
        kinds = subst (All (IsKindOver m)) (sym more.variables)
            (All-append (IsKindOver m) t.variables kinds (All-weaker (IsKindOver n) (IsKindOver m) (kind_over_more n m le) t.variables whole.kinds) (kinds_over m));
        clauses = subst (All (λ (slot : Option (List Lit)). IfSome slot (AreOver m))) (sym more.clauses)
            (All-append (λ (slot : Option (List Lit)). IfSome slot (AreOver m)) t.clauses slots
            (All-weaker (λ (slot : Option (List Lit)). IfSome slot (AreOver n)) (λ (slot : Option (List Lit)). IfSome slot (AreOver m)) (slot_over_more n m le) t.clauses whole.clauses)
            more.over);
      }

  pub more_bodies : DefinesBodies t → DefinesBodies new
  more_bodies defined = bodies_before t new more_extends (λ b row is. older_look (body_row b) b row refl is) defined
