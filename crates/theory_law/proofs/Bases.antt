-- The models of a program's own theory.
use Rattle.std.proofs.Common.{◌≡◌, ℕ, zero, suc, ◌+◌, ◌<◌, ◌≤◌, Bool, true, false, List, [], ◌∷◌, ◌++◌, length, refl, sym, ap, ◌∙◌, subst, Some, ⊎_elim, inr, arith}
use Rattle.std.specs.Prelude.{nat_le, if◌then◌else◌}
use Rattle.std.specs.List.{list_any, zip}
use Rattle.std.proofs.lemmas.Bool.{cases_lt, le-leb, lt-leb, false≢true}
use mathlib.Core.Path.{fun_ext}
use Rattle.theory_form.specs.declared.literals.Lit.{Lit}
use Rattle.theory_form.specs.Theories.{TheoryView, block_of, IsSearch}
use Rattle.theory_model.specs.Loops.{is_internal, AreAtomsOf}
use Rattle.theory_model.specs.Models.{IsModel}
use Rattle.ground_form.specs.declared.atoms.AtomId.{AtomId}
use Rattle.ground_form.specs.Programs.{Parts}
use Rattle.ground_form.specs.Ranges.{IsNumberOf, IsInRange}
use Rattle.ground_form.specs.Sets.{nothing}
use Rattle.ground_form.specs.AnswerSets.{IsAnswerSetWith, IsAnswerSet}
use Rattle.theory_build.specs.declared.entries.Entry.{Entry}
use Rattle.theory_build.specs.declared.frames.Frame.{Frame}
use Rattle.theory_build.specs.Entries.{truth_entry, search_entry}
use Rattle.theory_build.specs.Frames.{base_frame}
use Rattle.theory_build.specs.Groups.{groups_piece}
use Rattle.theory_build.specs.Bodies.{body_entries}
use Rattle.theory_build.specs.Completion.{base_entries, base_theory}
use Rattle.theory_law.specs.Cuts.{cut, facts_of, AgreeOn, HasGuard}
use Rattle.theory_law.proofs.Membership.{In}
use Rattle.theory_model.specs.Whole.{IsWhole}
use Rattle.theory_law.proofs.Wholes.{entry_more, whole_with}
use Rattle.theory_law.proofs.Entries.{IsEntryBefore, AreEntriesTrue, AreDefined, AgreeBefore, extend, extend_before, extend_behind, extend_true, one_extension, truth_says, truth_defined}
use Rattle.theory_law.proofs.GroupValues.{Fits}
use Rattle.theory_law.proofs.Bodies.{rest_defined}
use Rattle.theory_law.proofs.Blocks.{cut_at, cut_back}
use Rattle.theory_law.proofs.Layouts.{IsLaidOut, stand_before, newer_block, search_behind, behind_kind, variables_length}
use Rattle.theory_law.proofs.Programs.{HasClauses, AllTrue, all_from_model, answer_from_model, model_from_answer}

module _ (g : Parts) where
  abbrev p : Frame
  p = base_frame g

  abbrev t : TheoryView
  t = base_theory g

  -- the groups and the bodies
  abbrev inner : List Entry
  inner = (groups_piece p g).entries ++ body_entries p g

  laid : IsLaidOut t p g
  unfolding base_theory base_entries
  laid = record {
    older = [];
    between = truth_entry p.truth ∷ [];
    behind = search_entry ∷ [];
    variables = refl;
    before = refl;
    groups = omega arith;
    truth_off = inr (omega arith);
    truth_low = record { some = omega arith; below = omega arith };
    older_atoms = λ k kind e b. absurd (cc);
    between_none = (refl, tt);
    behind_none = (refl, tt);
  }

  has : HasClauses t p g laid []
  unfolding base_theory base_entries laid
  has = refl

  no_joins : (l : Lit) → In l p.joins → (u : ℕ → Bool) → AreAtomsOf t p.block u → is_internal t u l ≡ false
  no_joins l i u atoms = absurd i

  no_facts : (f : ℕ → Bool) → facts_of g [] f ≡ nothing
  no_facts f = fun_ext (λ a. none (λ (pair : AtomId × Lit). _) g.inputs)
    where
      none : (test : AtomId × Lit → Bool) (xs : List AtomId) → list_any test (zip xs []) ≡ false
      none test [] = refl
      none test (x ∷ xs) = refl

  -- ---- a model says an answer set

  truth_in : (f : ℕ → Bool) → AllTrue t p g laid [] f → f p.truth ≡ true
  unfolding laid
  truth_in f all = truth_says f p.truth all.between.0.clauses

  pub base_sound : (f : ℕ → Bool) → IsInRange g → IsModel t f → IsAnswerSet g (cut 0 g f)
  base_sound f range model =
      let all = all_from_model t p g laid [] has f model in
      subst (λ facts. IsAnswerSetWith g facts (cut 0 g f)) (no_facts f) (answer_from_model t p g laid [] has range no_joins f (truth_in f all) model)

  module _ (range : IsInRange g) where
    inner_defined : AreDefined p.groups_from inner
    inner_defined = rest_defined p g range (stand_before t p g laid)

    -- the variable that is true, the groups and the bodies
    own_defined : AreDefined (length g.atoms + 1) (truth_entry p.truth ∷ inner)
    own_defined =
        let next : p.groups_from ≡ (length g.atoms + 1) + 1 = omega arith in
        (truth_defined p.truth (omega arith), subst (λ v. AreDefined v inner) next inner_defined)

    -- ---- an answer set extends to a model

    module _ (x : ℕ → Bool) (guard : Bool) where
      start : ℕ → Bool
      start v = if nat_le v (length g.atoms) then x v else guard

      pub model_of : ℕ → Bool
      model_of = extend (length g.atoms + 1) (truth_entry p.truth ∷ inner) own_defined start

      at_atom : (a : ℕ) → IsNumberOf (length g.atoms) a → model_of (0 + a) ≡ x a
      unfolding model_of start
      at_atom a r =
          let same : 0 + a ≡ a = omega arith in
          ap model_of same
          ∙ (extend_before (length g.atoms + 1) (truth_entry p.truth ∷ inner) own_defined start a (omega (arith, r.1))
          ∙ ap (λ b. if b then x a else guard) (le-leb a (length g.atoms) r.1))

      own_true : AreEntriesTrue model_of (length g.atoms + 1) (truth_entry p.truth ∷ inner)
      unfolding model_of
      own_true = extend_true (length g.atoms + 1) (truth_entry p.truth ∷ inner) own_defined start

      fits : Fits p (length g.atoms) model_of x
      fits = record { atoms = at_atom; truth = truth_says model_of p.truth own_true.0.clauses }

      behind_guard : (v : ℕ) → (length g.atoms + 1) + length (truth_entry p.truth ∷ inner) ≤ v → model_of v ≡ guard
      unfolding model_of start
      behind_guard v le =
          extend_behind (length g.atoms + 1) (truth_entry p.truth ∷ inner) own_defined start v le
          ∙ ap (λ b. if b then x v else guard) (lt-leb v (length g.atoms) (omega arith))

      is_model : IsAnswerSet g x → IsModel t model_of
      unfolding laid
      is_model answer =
          let next : (length g.atoms + 1) + 1 ≡ p.groups_from = omega arith in
          let at : length g.atoms + 1 ≡ (0 + length g.atoms) + 1 = omega arith in
          model_from_answer t p g laid [] has range no_joins model_of x fits (subst (λ facts. IsAnswerSetWith g facts x) (sym (no_facts model_of)) answer)
          tt tt
          (record { clauses = own_true.0.clauses; kind = tt }, tt)
          (subst (λ v. AreEntriesTrue model_of v inner) next own_true.1)
          (record { clauses = refl; kind = tt }, tt)
          (λ block other u atoms v uv. absurd (other (newer_block t p g laid range v block (positive v (atoms v uv)) (atoms v uv))))
        where
          positive : {block : ℕ} (v : ℕ) → block_of t v ≡ Some block → 0 < v
          positive zero e = absurd (cc)
          positive (suc k) e = omega arith

      has_guard : HasGuard t model_of guard
      unfolding laid
      has_guard v e = behind_guard v (past v e)
        where
          past : (v : ℕ) → IsSearch t v → (length g.atoms + 1) + length (truth_entry p.truth ∷ inner) ≤ v
          past zero s = absurd (cc)
          past (suc k) s =
              let le : p.groups_from + length inner ≤ suc k = search_behind t p g laid range (suc k) (omega arith) s (λ q. absurd (cc), tt) in
              let one : length (truth_entry p.truth ∷ inner) ≡ suc (length inner) = refl in
              omega arith

    pub base_complete : (x : ℕ → Bool) (guard : Bool) → IsAnswerSet g x → (f : ℕ → Bool) × IsModel t f × ((a : ℕ) → cut 0 g f a ≡ x a) × HasGuard t f guard
    base_complete x guard answer = (
      model_of x guard,
      is_model x guard answer,
      cut_back 0 g nothing x (model_of x guard) range (λ a h. absurd (false≢true h)) answer (at_atom x guard),
      has_guard x guard,
    )

    -- ---- and to no other one

    pub base_one : (f h : ℕ → Bool) → IsModel t f → IsModel t h → ((a : ℕ) → cut 0 g f a ≡ cut 0 g h a) → ((v : ℕ) → IsSearch t v → f v ≡ h v) → AgreeOn t f h
    unfolding laid
    base_one f h mf mh same guards v r =
        let af = all_from_model t p g laid [] has f mf in
        let ah = all_from_model t p g laid [] has h mh in
        let low : AgreeBefore p.groups_from f h = λ w b. ⊎_elim
        (λ (atom : w < length g.atoms + 1).
        let number : IsNumberOf (length g.atoms) w = (b.some, omega arith) in
        let at : 0 + w ≡ w = omega arith in
        ap f (sym at) ∙ (cut_at 0 g f w number ∙ (same w ∙ (sym (cut_at 0 g h w number) ∙ ap h at))))
        (λ (high : length g.atoms + 1 ≤ w).
        let is : w ≡ p.truth = omega (arith, b.below) in
        ap f is ∙ (truth_in f af ∙ (sym (truth_in h ah) ∙ ap h (sym is))))
        (cases_lt w (length g.atoms + 1)) in
        let all : AgreeBefore (p.groups_from + length inner) f h = one_extension p.groups_from inner inner_defined f h af.rest ah.rest low in
        ⊎_elim
        (λ (in_all : v < p.groups_from + length inner). all v (record { some = r.0; below = in_all }))
        (λ (last : p.groups_from + length inner ≤ v).
        let ends : length t.variables + 1 ≡ p.groups_from + length inner + 1 = variables_length t p g laid in
        let is : v ≡ p.groups_from + length inner + 0 = omega (arith, r.1) in
        guards v (subst (IsSearch t) (sym is) (behind_kind t p g laid 0)))
        (cases_lt v (p.groups_from + length inner))

    -- ---- the theory names its own variables alone

    pub base_whole : IsWhole t
    unfolding laid
    base_whole =
        let ends : length t.variables + 1 ≡ p.groups_from + length inner + 1 = variables_length t p g laid in
        let truth : IsEntryBefore ((length g.atoms + 1) + 1) (truth_entry p.truth) = (truth_defined p.truth (omega arith)).named in
        whole_with t p g laid [] has range (λ l i. absurd i) tt tt
        (entry_more ((length g.atoms + 1) + 1) (length t.variables + 1) (truth_entry p.truth) (omega (arith, ends)) truth, tt)
        (record { clauses = tt; kind = tt }, tt)
