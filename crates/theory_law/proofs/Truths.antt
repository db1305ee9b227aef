-- The variable behind the atoms of the base is true in every model of a theory that begins with a base theory.
use Rattle.std.proofs.Common.{◌≡◌, ℕ, zero, suc, ◌+◌, ◌≤◌, Bool, true, List, [], ◌∷◌, ◌++◌, map, take, drop, cond, length, refl, sym, ap, ◌∙◌, subst, Some, arith}
use Rattle.std.specs.List.{prefix_len, range_with_len, AllByRecursion}
use Rattle.std.proofs.lemmas.Bool.{and_parts}
use Rattle.std.proofs.lemmas.List.{length-append, append_assoc, take-append-drop, length-take-le}
use Rattle.std.proofs.lemmas.List.Concat.{flat_map-append}
use Rattle.std.proofs.lemmas.List.Folds.{list_all-append}
use Rattle.theory_form.specs.declared.literals.Lit.{Lit}
use Rattle.theory_form.specs.declared.rows.VarKind.{VarKind}
use Rattle.theory_form.specs.declared.rows.VarKind.TheVariants.{Other}
use Rattle.theory_form.specs.Theories.{TheoryView}
use Rattle.theory_model.specs.Truth.{clause_true}
use Rattle.theory_model.specs.Models.{IsModel}
use Rattle.ground_form.specs.Programs.{Parts}
use Rattle.theory_build.specs.declared.entries.Entry.{Entry}
use Rattle.theory_build.specs.declared.frames.Frame.{Frame}
use Rattle.theory_build.specs.Entries.{truth_entry, search_entry}
use Rattle.theory_build.specs.Frames.{base_frame}
use Rattle.theory_build.specs.Groups.{groups_piece}
use Rattle.theory_build.specs.Bodies.{body_entries}
use Rattle.theory_build.specs.Atoms.{atom_entry, atom_entries, constraint_clauses}
use Rattle.theory_build.specs.Completion.{kinds_of, clauses_of, base_entries, base_theory, is_atom, base_atoms, HasBase}
use Rattle.theory_law.proofs.Clauses.{clauses_true}
use Rattle.theory_law.proofs.Entries.{truth_says}
use Rattle.theory_law.proofs.Slots.{AreSlotsTrue, slots_from_clauses, slots_of}
use Rattle.theory_law.proofs.Layouts.{kinds_append, kinds_length, atoms_length}

-- ---- how many atoms the base has

prefix_ends : (kinds : List VarKind) (rest : List VarKind) → AllByRecursion (λ k. is_atom k ≡ true) kinds → prefix_len is_atom (kinds ++ Other ∷ rest) ≡ length kinds
prefix_ends [] rest h = refl
prefix_ends (k ∷ kinds) rest h =
    let more = prefix_ends kinds rest h.1 in
    let next : 1 + prefix_len is_atom (kinds ++ Other ∷ rest) ≡ suc (length kinds) = omega arith in
    ap (λ b. cond b (1 + prefix_len is_atom (kinds ++ Other ∷ rest)) 0) h.0 ∙ next

atoms_from : (p : Frame) (g : Parts) (from n : ℕ) → AllByRecursion (λ k. is_atom k ≡ true) (kinds_of (map (atom_entry p g) (range_with_len from n)))
unfolding atom_entry
atoms_from p g from zero = tt
atoms_from p g from (suc n) = (refl, atoms_from p g (from + 1) n)

are_atoms : (p : Frame) (g : Parts) → AllByRecursion (λ k. is_atom k ≡ true) (kinds_of (atom_entries p g))
unfolding atom_entries
are_atoms p g = atoms_from p g 1 (length g.atoms)

-- ---- a front of the slots

all_take : {X : Type 0} (P : X → Type 0) (n : ℕ) (xs : List X) → AllByRecursion P xs → AllByRecursion P (take n xs)
all_take P zero xs h = tt
all_take P (suc n) [] h = tt
all_take P (suc n) (x ∷ xs) h = (h.0, all_take P n xs h.1)

module _ (t : TheoryView) (has : HasBase t) where
  abbrev pub base : Parts
  base = has.base

  abbrev atoms : List Entry
  atoms = atom_entries (base_frame base) base

  abbrev others : List Entry
  others = (groups_piece (base_frame base) base).entries ++ (body_entries (base_frame base) base ++ search_entry ∷ [])

  front : kinds_of (base_entries (base_frame base) base) ≡ kinds_of atoms ++ Other ∷ kinds_of others
  unfolding base_entries
  front = kinds_append atoms (truth_entry (base_frame base).truth ∷ others)

  variables_are : t.variables ≡ kinds_of atoms ++ Other ∷ (kinds_of others ++ drop (length (base_theory base).variables) t.variables)
  unfolding base_theory
  variables_are =
      let behind : List VarKind = drop (length (base_theory base).variables) t.variables in
      sym (take-append-drop (length (base_theory base).variables) t.variables)
      ∙ (ap (λ vs. vs ++ behind) (has.begins.variables ∙ front)
      ∙ append_assoc (kinds_of atoms) (Other ∷ kinds_of others) behind)

  pub base_atoms_is : base_atoms t ≡ length base.atoms
  unfolding base_atoms
  base_atoms_is =
      let rest : List VarKind = kinds_of others ++ drop (length (base_theory base).variables) t.variables in
      let ends : prefix_len is_atom t.variables ≡ length (kinds_of atoms) = ap (prefix_len is_atom) variables_are ∙ prefix_ends (kinds_of atoms) rest (are_atoms (base_frame base) base) in
      let within : length (kinds_of atoms) ≤ length t.variables = omega (arith, ap length variables_are, length-append (kinds_of atoms) (Other ∷ rest)) in
      ap (λ n. length (take n t.variables)) ends
      ∙ (length-take-le (length (kinds_of atoms)) t.variables within
      ∙ (kinds_length atoms ∙ atoms_length (base_frame base) base))

  -- it is one of the theory
  pub truth_within : base_atoms t + 1 ≤ length t.variables
  truth_within =
      let rest : List VarKind = kinds_of others ++ drop (length (base_theory base).variables) t.variables in
      omega (arith, base_atoms_is, ap length variables_are, length-append (kinds_of atoms) (Other ∷ rest), kinds_length atoms, atoms_length (base_frame base) base)

  pub truth_true : (f : ℕ → Bool) → IsModel t f → f (base_atoms t + 1) ≡ true
  unfolding base_theory base_entries
  truth_true f model =
      let es : List Entry = base_entries (base_frame base) base in
      let cs : List (List Lit) = clauses_of es ++ constraint_clauses (base_frame base) base in
      let slots : AreSlotsTrue f (map (λ c. Some c) cs) = subst (AreSlotsTrue f) has.begins.clauses (all_take _ (length (base_theory base).clauses) t.clauses (slots_from_clauses f t.clauses model.clauses)) in
      let all : clauses_true f cs ≡ true = slots_of f cs slots in
      let own = and_parts (clauses_true f (clauses_of es)) (clauses_true f (constraint_clauses (base_frame base) base)) (sym (list_all-append (clause_true f) (clauses_of es) (constraint_clauses (base_frame base) base)) ∙ all) in
      let entry : Entry = truth_entry (base_frame base).truth in
      let split : clauses_true f (clauses_of atoms ++ (entry.clauses ++ clauses_of others)) ≡ true = ap (clauses_true f) (sym (flat_map-append (λ (e : Entry). e.clauses) atoms (entry ∷ others))) ∙ own.0 in
      let behind = and_parts (clauses_true f (clauses_of atoms)) (clauses_true f (entry.clauses ++ clauses_of others)) (sym (list_all-append (clause_true f) (clauses_of atoms) (entry.clauses ++ clauses_of others)) ∙ split) in
      let here = and_parts (clauses_true f entry.clauses) (clauses_true f (clauses_of others)) (sym (list_all-append (clause_true f) entry.clauses (clauses_of others)) ∙ behind.1) in
      ap (λ n. f (n + 1)) base_atoms_is ∙ truth_says f (length base.atoms + 1) here.0
