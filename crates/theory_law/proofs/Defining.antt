-- The clauses of a program's theory define its bodies.
use Rattle.std.proofs.Common.{◌≡◌, ℕ, zero, suc, ◌+◌, ◌-◌, ◌<◌, ◌≤◌, Bool, true, List, [], ◌∷◌, ◌++◌, map, length, refl, sym, ap, ◌∙◌, subst, Option, Some, ⊎_elim, arith}
use Rattle.std.specs.Prelude.{slice_get}
use Rattle.std.specs.List.{range_with_len}
use Rattle.std.proofs.lemmas.Bool.{and_parts, cases_lt}
use Rattle.std.proofs.lemmas.List.Folds.{list_all-append}
use Rattle.theory_form.specs.declared.literals.Lit.{Lit}
use Rattle.theory_form.specs.declared.rows.BodyRow.{BodyRow}
use Rattle.theory_form.specs.declared.rows.VarKind.{VarKind}
use Rattle.theory_form.specs.declared.rows.VarKind.TheVariants.{Atom, Sum, Body, Search, Other}
use Rattle.theory_form.specs.Kinds.{body_row}
use Rattle.theory_form.specs.Theories.{TheoryView, body_of, kind_of}
use Rattle.theory_model.specs.Bodies.{AreClausesTrue, DefinesBodies}
use Rattle.theory_model.specs.Truth.{clause_true, conjunction_true}
use Rattle.theory_model.proofs.GrowthLemmas.{body_kept, clause_longer, from_some}
use Rattle.ground_form.specs.Programs.{Parts}
use Rattle.ground_form.specs.Ranges.{IsInRange}
use Rattle.theory_build.specs.declared.entries.Entry.{Entry}
use Rattle.theory_build.specs.declared.frames.Frame.{Frame}
use Rattle.theory_build.specs.Entries.{truth_entry, search_entry}
use Rattle.theory_build.specs.Frames.{base_frame}
use Rattle.theory_build.specs.Groups.{groups_piece}
use Rattle.theory_build.specs.Bodies.{bodies_from, body_entries}
use Rattle.theory_build.specs.Atoms.{atom_entry, atom_entries, constraint_clauses}
use Rattle.theory_build.specs.Completion.{kinds_of, clauses_of, base_entries, base_theory, frame_behind, later_entries, with_program}
use Rattle.theory_build.proofs.BaseLemmas.{program_extends}
use Rattle.theory_law.specs.Appending.{CanStandBehind}
use Rattle.theory_law.proofs.Clauses.{clauses_true}
use Rattle.theory_law.proofs.Entries.{IsKindTrue, AreDefined, truth_defined}
use Rattle.theory_law.proofs.Pieces.{StandBefore, groups_defined}
use Rattle.theory_law.proofs.Bodies.{bodies_from_at, bodies_defined}
use Rattle.theory_law.proofs.Slots.{AreSlotsTrue, slots_from_clauses, slots_of, split_all}
use Rattle.theory_law.proofs.Layouts.{atoms_length, slice_get_back}
use Rattle.theory_law.proofs.Truths.{truth_within}

module _ (f : ℕ → Bool) where
  -- where the clauses that come with a body are true, so is what they say
  abbrev pub IsSaid : ℕ → Entry → Type 0
  IsSaid v e = (lits : List Lit) → e.kind ≡ Body lits → clauses_true f e.clauses ≡ true → f v ≡ conjunction_true f lits

  abbrev pub AreSaid : ℕ → List Entry → Type 0
  AreSaid v [] = Unit {0}
  AreSaid v (e ∷ es) = IsSaid v e × AreSaid (v + 1) es

  said_append : (v : ℕ) (xs ys : List Entry) → AreSaid v xs → AreSaid (v + length xs) ys → AreSaid v (xs ++ ys)
  said_append v [] ys h k = let same : v + 0 ≡ v = omega arith in subst (λ w. AreSaid w ys) same k
  said_append v (e ∷ xs) ys h k =
      let same : v + suc (length xs) ≡ (v + 1) + length xs = omega arith in
      (h.0, said_append (v + 1) xs ys h.1 (subst (λ w. AreSaid w ys) same k))

  said_defined : (v : ℕ) (es : List Entry) → AreDefined v es → AreSaid v es
  said_defined v [] d = tt
  said_defined v (e ∷ es) d = (
    λ lits is clauses. d.0.says f (record { clauses = clauses; kind = subst (IsKindTrue f v) (sym is) tt }) ∙ d.0.body lits is f,
    said_defined (v + 1) es d.1,
  )

  said_atoms : (p : Frame) (g : Parts) (v from n : ℕ) → AreSaid v (map (atom_entry p g) (range_with_len from n))
  unfolding atom_entry
  said_atoms p g v from zero = tt
  said_atoms p g v from (suc n) = (λ lits is. absurd (cc), said_atoms p g (v + 1) (from + 1) n)

  said_at : (v : ℕ) (es : List Entry) → AreSaid v es → clauses_true f (clauses_of es) ≡ true → (k : ℕ) (lits : List Lit) → slice_get (kinds_of es) k ≡ Some (Body lits) → f (v + k) ≡ conjunction_true f lits
  said_at v [] h clauses k lits at = absurd (cc)
  said_at v (e ∷ es) h clauses zero lits at =
      let parts = and_parts (clauses_true f e.clauses) (clauses_true f (clauses_of es)) (sym (list_all-append (clause_true f) e.clauses (clauses_of es)) ∙ clauses) in
      let is : e.kind ≡ Body lits = cc in
      let here : v + 0 ≡ v = omega arith in
      ap f here ∙ h.0 lits is parts.0
  said_at v (e ∷ es) h clauses (suc k) lits at =
      let parts = and_parts (clauses_true f e.clauses) (clauses_true f (clauses_of es)) (sym (list_all-append (clause_true f) e.clauses (clauses_of es)) ∙ clauses) in
      let next : v + suc k ≡ (v + 1) + k = omega arith in
      ap f next ∙ said_at (v + 1) es h.1 parts.1 k lits at

  -- ---- the variables of a program

  module _ (p : Frame) (g : Parts) (range : IsInRange g) (stand : StandBefore p (length g.atoms) p.groups_from) where
    said_all_atoms : (v : ℕ) → AreSaid v (atom_entries p g)
    unfolding atom_entries
    said_all_atoms v = said_atoms p g v 1 (length g.atoms)

    said_groups : AreSaid p.groups_from (groups_piece p g).entries
    said_groups = said_defined p.groups_from (groups_piece p g).entries (groups_defined p g (length g.atoms) stand range.groups).entries

    said_bodies : AreSaid (p.groups_from + length (groups_piece p g).entries) (body_entries p g)
    said_bodies = subst (λ v. AreSaid v (body_entries p g)) (bodies_from_at p g range stand) (said_defined (bodies_from p g) (body_entries p g) (bodies_defined p g range stand))

-- ---- a theory with a program

body_kind : (v : ℕ) (kind : VarKind) (row : BodyRow) → body_row v kind ≡ Some row → kind ≡ Body row.lits
body_kind v (Atom block supports) row is = absurd (cc)
body_kind v (Sum terms bound) row is = absurd (cc)
body_kind v (Body lits) row is = let here : BodyRow = record { var = record { 0 = v }; lits = lits } in let same : here ≡ row = cc in ap (λ (r : BodyRow). Body r.lits) same
body_kind v Search row is = absurd (cc)
body_kind v Other row is = absurd (cc)

module _ (new : TheoryView) (older : List VarKind) (older_slots : List (Option (List Lit))) (es : List Entry) (constraints : List (List Lit))
    (variables : new.variables ≡ older ++ kinds_of es) (clauses : new.clauses ≡ older_slots ++ map (λ c. Some c) (clauses_of es ++ constraints)) (f : ℕ → Bool) (all : AreClausesTrue new f) where
  own_clauses : clauses_true f (clauses_of es) ≡ true
  own_clauses =
      let slots = split_all _ older_slots (map (λ c. Some c) (clauses_of es ++ constraints)) (subst (AreSlotsTrue f) clauses (slots_from_clauses f new.clauses all)) in
      (and_parts (clauses_true f (clauses_of es)) (clauses_true f constraints) (sym (list_all-append (clause_true f) (clauses_of es) constraints) ∙ slots_of f (clauses_of es ++ constraints) slots.1)).0

  newer_body : AreSaid f (length older + 1) es → (v : ℕ) (row : BodyRow) → length older < v → body_of new v ≡ Some row → f v ≡ conjunction_true f row.lits
  newer_body said zero row lt is = absurd (omega arith)
  newer_body said (suc k) row lt is =
      let x = from_some (body_row (suc k)) (kind_of new (suc k)) row is in
      let j : ℕ = k - length older in
      let at : k ≡ length older + j = omega arith in
      let place : slice_get (kinds_of es) j ≡ Some (Body row.lits) =
      sym (ap (λ (xs : List VarKind). slice_get xs k) variables ∙ (ap (slice_get (older ++ kinds_of es)) at ∙ slice_get_back older (kinds_of es) j))
      ∙ (x.1 ∙ ap (λ (q : VarKind). Some q) (body_kind (suc k) x.0 row x.2)) in
      let number : suc k ≡ (length older + 1) + j = omega arith in
      ap f number ∙ said_at f (length older + 1) es said own_clauses j row.lits place

-- ---- the base

module _ (g : Parts) (range : IsInRange g) (f : ℕ → Bool) where
  abbrev base : Frame
  base = base_frame g

  base_stand : StandBefore base (length g.atoms) base.groups_from
  base_stand = record { atoms = omega arith; truth = record { some = omega arith; below = omega arith } }

  said_base : AreSaid f 1 (base_entries base g)
  unfolding base_entries
  said_base =
      let groups = groups_piece base g in
      let rest : List Entry = groups.entries ++ (body_entries base g ++ search_entry ∷ []) in
      let at_truth : base.truth ≡ 1 + length (atom_entries base g) = omega (arith, atoms_length base g) in
      let at_groups : base.groups_from ≡ base.truth + 1 = omega arith in
      said_append f 1 (atom_entries base g) (truth_entry base.truth ∷ rest) (said_all_atoms f base g range base_stand 1)
      (subst (λ w. AreSaid f w (truth_entry base.truth ∷ rest)) at_truth (
        (said_defined f base.truth (truth_entry base.truth ∷ []) (truth_defined base.truth (omega arith), tt)).0,
        subst (λ w. AreSaid f w rest) at_groups
            (said_append f base.groups_from groups.entries (body_entries base g ++ search_entry ∷ []) (said_groups f base g range base_stand)
            (said_append f (base.groups_from + length groups.entries) (body_entries base g) (search_entry ∷ []) (said_bodies f base g range base_stand) (λ lits e. absurd (cc), tt))),
      ))

pub base_bodies : (g : Parts) → IsInRange g → DefinesBodies (base_theory g)
unfolding base_theory
base_bodies g range f all v row is = ⊎_elim
    (λ (some : 0 < v).
    newer_body (base_theory g) [] [] (base_entries (base_frame g) g) (constraint_clauses (base_frame g) g) refl refl f all
    (let one : 1 ≡ length {A = VarKind} [] + 1 = omega arith in subst (λ w. AreSaid f w (base_entries (base_frame g) g)) one (said_base g range f)) v row some is)
    (λ (none : v ≤ 0). absurd (no_zero v (omega arith) is))
    (cases_lt 0 v)
  where
    no_zero : (w : ℕ) → w ≡ 0 → body_of (base_theory g) w ≡ Some row → ⊥
    no_zero zero z e = cc
    no_zero (suc k) z e = omega arith

-- ---- a program behind a theory

module _ (t : TheoryView) (g : Parts) (joins : List Lit) (can : CanStandBehind t g joins) where
  abbrev p : Frame
  p = frame_behind t joins g

  abbrev later : TheoryView
  later = with_program t g joins

  behind_stand : StandBefore p (length g.atoms) p.groups_from
  behind_stand = record { atoms = omega arith; truth = record { some = omega arith; below = omega (arith, truth_within t can.base) } }

  said_later : (f : ℕ → Bool) → AreSaid f (length t.variables + 1) (later_entries p g)
  unfolding later_entries
  said_later f =
      let groups = groups_piece p g in
      let at_groups : p.groups_from ≡ (length t.variables + 1) + length (atom_entries p g) = omega (arith, atoms_length p g) in
      said_append f (length t.variables + 1) (atom_entries p g) (groups.entries ++ body_entries p g) (said_all_atoms f p g can.program behind_stand (length t.variables + 1))
      (subst (λ w. AreSaid f w (groups.entries ++ body_entries p g)) at_groups
      (said_append f p.groups_from groups.entries (body_entries p g) (said_groups f p g can.program behind_stand) (said_bodies f p g can.program behind_stand)))

  newer : (f : ℕ → Bool) → AreClausesTrue later f → (v : ℕ) (row : BodyRow) → length t.variables < v → body_of later v ≡ Some row → f v ≡ conjunction_true f row.lits
  unfolding with_program
  newer f all v row lt is = newer_body later t.variables t.clauses (later_entries p g) (constraint_clauses p g) refl refl f all (said_later f) v row lt is

  pub behind_bodies : DefinesBodies t → DefinesBodies later
  behind_bodies defined f all v row is = ⊎_elim
      (λ (lt : length t.variables < v). newer f all v row lt is)
      (λ (older : v ≤ length t.variables).
      defined f (λ id c at. all id c (clause_longer t later (program_extends t g joins) id c at)) v row (sym (body_kept t later (program_extends t g joins) v older) ∙ is))
      (cases_lt (length t.variables) v)
