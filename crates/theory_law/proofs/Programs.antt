-- The models of a theory that has a program behind other variables.
use Rattle.std.proofs.Common.{◌≡◌, ℕ, zero, suc, ◌+◌, ◌<◌, ◌≤◌, Bool, true, false, List, ◌++◌, map, length, sym, ◌∙◌, subst, Option, Some, ⊎_elim, arith}
use Rattle.std.specs.Prelude.{◌⊎◌, IsTrue}
use Rattle.std.specs.List.{range_with_len}
use Rattle.std.proofs.lemmas.Bool.{and_parts, and_from, cases_eq}
use Rattle.std.proofs.lemmas.List.{append_assoc}
use Rattle.std.proofs.lemmas.List.Folds.{list_all-append}
use Rattle.theory_form.specs.declared.literals.Lit.{Lit}
use Rattle.theory_form.specs.Theories.{TheoryView}
use Rattle.theory_model.specs.Truth.{clause_true}
use Rattle.theory_model.specs.Loops.{is_internal, AreAtomsOf, IsLoopTrue}
use Rattle.theory_model.specs.Models.{IsModel}
use Rattle.ground_form.specs.Programs.{Parts}
use Rattle.ground_form.specs.Ranges.{IsNumberOf, IsRuleOf, IsInRange}
use Rattle.ground_form.specs.AnswerSets.{IsAnswerSetWith}
use Rattle.theory_build.specs.declared.entries.Entry.{Entry}
use Rattle.theory_build.specs.declared.frames.Frame.{Frame}
use Rattle.theory_build.specs.Frames.{atom_var}
use Rattle.theory_build.specs.Groups.{groups_piece}
use Rattle.theory_build.specs.Bodies.{body_entries}
use Rattle.theory_build.specs.Atoms.{supports as supports_at, forcing, atom_entry, atom_entries, constraint_clauses}
use Rattle.theory_build.specs.Completion.{kinds_of, clauses_of}
use Rattle.theory_law.specs.Cuts.{cut, facts_of}
use Rattle.theory_law.proofs.Membership.{In, All-in}
use Rattle.theory_law.proofs.Clauses.{clauses_true, IsCompleted, completed_from, completed_to}
use Rattle.theory_law.proofs.Entries.{AreEntriesTrue, true_split, true_append}
use Rattle.theory_law.proofs.GroupValues.{Fits}
use Rattle.theory_law.proofs.BodyValues.{body_lit_means}
use Rattle.theory_law.proofs.Blocks.{cut_at, IsProgramOf, IsProgramTrue, BodiesFit, answer_from_program, program_from_answer}
use Rattle.theory_law.proofs.Slots.{split_all, join_all, AreSlotsTrue, slots_from_clauses, clauses_from_slots, slots_of, of_slots, AreKindsTrue, kinds_from_sums, sums_from_kinds, kinds_split, kinds_join, entries_from, entries_kinds, entries_clauses}
use Rattle.theory_law.proofs.Layouts.{IsLaidOut, atoms_length, program_of}

-- ---- the entries of the atoms

completed_all : (p : Frame) (g : Parts) (f : ℕ → Bool) (v from n : ℕ) → AreEntriesTrue f v (map (atom_entry p g) (range_with_len from n)) → (a : ℕ) → from ≤ a → a < from + n → IsCompleted f (atom_var p a) (forcing p g a) (supports_at p g a)
unfolding atom_entry
completed_all p g f v from zero t a le lt = absurd (omega arith)
completed_all p g f v from (suc n) t a le lt = ⊎_elim
    (λ (e : from ≡ a). subst (λ b. IsCompleted f (atom_var p b) (forcing p g b) (supports_at p g b)) e (completed_from f (atom_var p from) (forcing p g from) (supports_at p g from) t.0.clauses))
    (λ (low : from < a). completed_all p g f (v + 1) (from + 1) n t.1 a (omega arith) (omega arith))
    (split from a le)
  where
    split : (m k : ℕ) → m ≤ k → (m ≡ k) ⊎ (m < k)
    split m k h = grind arith

all_completed : (p : Frame) (g : Parts) (f : ℕ → Bool) (v from n : ℕ) → ((a : ℕ) → from ≤ a → a < from + n → IsCompleted f (atom_var p a) (forcing p g a) (supports_at p g a)) → AreEntriesTrue f v (map (atom_entry p g) (range_with_len from n))
unfolding atom_entry
all_completed p g f v from zero h = tt
all_completed p g f v from (suc n) h = (
  record { clauses = completed_to f (atom_var p from) (forcing p g from) (supports_at p g from) (h from (omega arith) (omega arith)); kind = tt },
  all_completed p g f (v + 1) (from + 1) n (λ a le lt. h a (omega arith) (omega arith)),
)

pub atoms_completed : (p : Frame) (g : Parts) (f : ℕ → Bool) (v : ℕ) → AreEntriesTrue f v (atom_entries p g) → (a : ℕ) → IsNumberOf (length g.atoms) a → IsCompleted f (atom_var p a) (forcing p g a) (supports_at p g a)
unfolding atom_entries
atoms_completed p g f v t a r = let low = r.0 in let high = r.1 in completed_all p g f v 1 (length g.atoms) t a (omega arith) (omega arith)

pub completed_atoms : (p : Frame) (g : Parts) (f : ℕ → Bool) (v : ℕ) → ((a : ℕ) → IsNumberOf (length g.atoms) a → IsCompleted f (atom_var p a) (forcing p g a) (supports_at p g a)) → AreEntriesTrue f v (atom_entries p g)
unfolding atom_entries
completed_atoms p g f v h = all_completed p g f v 1 (length g.atoms) (λ a le lt. h a (omega arith, omega arith))

-- ---- a theory with a program

module _ (t : TheoryView) (p : Frame) (g : Parts) (laid : IsLaidOut t p g) (older_clauses : List (Option (List Lit))) where
  abbrev pub entries : List Entry
  entries = atom_entries p g ++ (laid.between ++ ((groups_piece p g).entries ++ (body_entries p g ++ laid.behind)))

  -- its clauses are older ones, those of the entries, and the constraints
  abbrev pub HasClauses : Type 0
  HasClauses = t.clauses ≡ older_clauses ++ map (λ c. Some c) (clauses_of entries ++ constraint_clauses p g)

  -- what a model says, part by part
  pub record AllTrue (f : ℕ → Bool) : Type 0 where
    pub older_slots : AreSlotsTrue f older_clauses
    pub older_kinds : AreKindsTrue f 1 laid.older
    pub atoms : (a : ℕ) → IsNumberOf (length g.atoms) a → IsCompleted f (atom_var p a) (forcing p g a) (supports_at p g a)
    pub between : AreEntriesTrue f (p.before + length g.atoms + 1) laid.between
    pub rest : AreEntriesTrue f p.groups_from ((groups_piece p g).entries ++ body_entries p g)
    pub behind : AreEntriesTrue f (p.groups_from + length ((groups_piece p g).entries ++ body_entries p g)) laid.behind
    pub constraints : clauses_true f (constraint_clauses p g) ≡ true

  pub all_from_model : HasClauses → (f : ℕ → Bool) → IsModel t f → AllTrue f
  all_from_model has f model =
      let inner : List Entry = (groups_piece p g).entries ++ body_entries p g in
      let rest : List Entry = laid.between ++ ((groups_piece p g).entries ++ (body_entries p g ++ laid.behind)) in
      let slots = split_all _ older_clauses (map (λ c. Some c) (clauses_of (atom_entries p g ++ rest) ++ constraint_clauses p g)) (subst (AreSlotsTrue f) has (slots_from_clauses f t.clauses model.clauses)) in
      let clauses = slots_of f (clauses_of (atom_entries p g ++ rest) ++ constraint_clauses p g) slots.1 in
      let both = and_parts (clauses_true f (clauses_of (atom_entries p g ++ rest))) (clauses_true f (constraint_clauses p g)) (sym (list_all-append (clause_true f) (clauses_of (atom_entries p g ++ rest)) (constraint_clauses p g)) ∙ clauses) in
      let kinds = kinds_split f 1 laid.older (kinds_of (atom_entries p g ++ rest)) (subst (AreKindsTrue f 1) laid.variables (kinds_from_sums f t.variables model.sums)) in
      let all = entries_from f (1 + length laid.older) (atom_entries p g ++ rest) kinds.1 both.0 in
      let first = true_split f (1 + length laid.older) (atom_entries p g) rest all in
      let from_between : (1 + length laid.older) + length (atom_entries p g) ≡ p.before + length g.atoms + 1 = omega (arith, laid.before, atoms_length p g) in
      let second = true_split f (p.before + length g.atoms + 1) laid.between ((groups_piece p g).entries ++ (body_entries p g ++ laid.behind)) (subst (λ v. AreEntriesTrue f v rest) from_between first.1) in
      let from_groups : (p.before + length g.atoms + 1) + length laid.between ≡ p.groups_from = omega (arith, laid.groups) in
      let third : AreEntriesTrue f p.groups_from (inner ++ laid.behind) =
      subst (AreEntriesTrue f p.groups_from) (sym (append_assoc (groups_piece p g).entries (body_entries p g) laid.behind)) (subst (λ v. AreEntriesTrue f v ((groups_piece p g).entries ++ (body_entries p g ++ laid.behind))) from_groups second.1) in
      let last = true_split f p.groups_from inner laid.behind third in
      record {
        older_slots = slots.0;
        older_kinds = kinds.0;
        atoms = atoms_completed p g f (1 + length laid.older) first.0;
        between = second.0;
        rest = last.0;
        behind = last.1;
        constraints = both.1;
      }

  model_from_all : HasClauses → (f : ℕ → Bool) → AllTrue f → ((block : ℕ) (u : ℕ → Bool) → AreAtomsOf t block u → (v : ℕ) → IsTrue (u v) → IsLoopTrue t f u v) → IsModel t f
  model_from_all has f all loops =
      let inner : List Entry = (groups_piece p g).entries ++ body_entries p g in
      let rest : List Entry = laid.between ++ ((groups_piece p g).entries ++ (body_entries p g ++ laid.behind)) in
      let third : AreEntriesTrue f p.groups_from (inner ++ laid.behind) = true_append f p.groups_from inner laid.behind all.rest all.behind in
      let from_groups : p.groups_from ≡ (p.before + length g.atoms + 1) + length laid.between = omega (arith, laid.groups) in
      let second = true_append f (p.before + length g.atoms + 1) laid.between ((groups_piece p g).entries ++ (body_entries p g ++ laid.behind)) all.between
      (subst (λ v. AreEntriesTrue f v ((groups_piece p g).entries ++ (body_entries p g ++ laid.behind))) from_groups (subst (AreEntriesTrue f p.groups_from) (append_assoc (groups_piece p g).entries (body_entries p g) laid.behind) third)) in
      let from_between : p.before + length g.atoms + 1 ≡ (1 + length laid.older) + length (atom_entries p g) = omega (arith, laid.before, atoms_length p g) in
      let first = true_append f (1 + length laid.older) (atom_entries p g) rest (completed_atoms p g f (1 + length laid.older) all.atoms) (subst (λ v. AreEntriesTrue f v rest) from_between second) in
      let clauses : clauses_true f (clauses_of (atom_entries p g ++ rest) ++ constraint_clauses p g) ≡ true =
      list_all-append (clause_true f) (clauses_of (atom_entries p g ++ rest)) (constraint_clauses p g)
      ∙ and_from (clauses_true f (clauses_of (atom_entries p g ++ rest))) (clauses_true f (constraint_clauses p g)) (entries_clauses f (1 + length laid.older) (atom_entries p g ++ rest) first) all.constraints in
      let slots = join_all _ older_clauses (map (λ c. Some c) (clauses_of (atom_entries p g ++ rest) ++ constraint_clauses p g)) all.older_slots (of_slots f (clauses_of (atom_entries p g ++ rest) ++ constraint_clauses p g) clauses) in
      let kinds = kinds_join f 1 laid.older (kinds_of (atom_entries p g ++ rest)) all.older_kinds (entries_kinds f (1 + length laid.older) (atom_entries p g ++ rest) first) in
      record {
        clauses = clauses_from_slots f t.clauses (subst (AreSlotsTrue f) (sym has) slots);
        sums = sums_from_kinds f t.variables (subst (AreKindsTrue f 1) (sym laid.variables) kinds);
        loops = loops;
      }

  module _ (has : HasClauses) (range : IsInRange g) (joined : (l : Lit) → In l p.joins → (u : ℕ → Bool) → AreAtomsOf t p.block u → is_internal t u l ≡ false) where
    here : IsProgramOf t p g
    here = program_of t p g laid range joined

    bodies_fit : (f x : ℕ → Bool) → Fits p (length g.atoms) f x → AreEntriesTrue f p.groups_from ((groups_piece p g).entries ++ body_entries p g) → BodiesFit p g f x
    bodies_fit f x fits rest rule i = body_lit_means p g f x range fits rest rule i (All-in (IsRuleOf (length g.atoms) (length g.bodies)) g.rules range.rules rule i).body

    -- the atoms of a model are an answer set
    pub answer_from_model : (f : ℕ → Bool) → f p.truth ≡ true → IsModel t f → IsAnswerSetWith g (facts_of g p.joins f) (cut p.before g f)
    answer_from_model f truth model =
        let all = all_from_model has f model in
        let fits : Fits p (length g.atoms) f (cut p.before g f) = record { atoms = cut_at p.before g f; truth = truth } in
        answer_from_program t p g f here range (bodies_fit f (cut p.before g f) fits all.rest) (record {
          atoms = all.atoms;
          constraints = all.constraints;
          loops = λ u atoms v uv. model.loops p.block u atoms v uv;
        })

    -- an assignment with the values of an answer set is a model
    pub model_from_answer : (f x : ℕ → Bool) → Fits p (length g.atoms) f x → IsAnswerSetWith g (facts_of g p.joins f) x
        → AreSlotsTrue f older_clauses → AreKindsTrue f 1 laid.older
        → AreEntriesTrue f (p.before + length g.atoms + 1) laid.between
        → AreEntriesTrue f p.groups_from ((groups_piece p g).entries ++ body_entries p g)
        → AreEntriesTrue f (p.groups_from + length ((groups_piece p g).entries ++ body_entries p g)) laid.behind
        → ((block : ℕ) → (block ≡ p.block → ⊥) → (u : ℕ → Bool) → AreAtomsOf t block u → (v : ℕ) → IsTrue (u v) → IsLoopTrue t f u v)
        → IsModel t f
    model_from_answer f x fits answer slots kinds between rest behind others =
        let says : IsProgramTrue t p g f = program_from_answer t p g f x here range (bodies_fit f x fits rest) fits.atoms answer in
        model_from_all has f (record {
          older_slots = slots;
          older_kinds = kinds;
          atoms = says.atoms;
          between = between;
          rest = rest;
          behind = behind;
          constraints = says.constraints;
        }) (λ block u atoms v uv. ⊎_elim
        (λ (e : block ≡ p.block). says.loops u (subst (λ b. AreAtomsOf t b u) e atoms) v uv)
        (λ (n : block ≡ p.block → ⊥). others block n u atoms v uv)
        (cases_eq block p.block))
