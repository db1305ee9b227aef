-- The models of a theory with a program behind it.
use Rattle.std.proofs.Common.{◌≡◌, ℕ, zero, suc, ◌+◌, ◌-◌, ◌<◌, ◌≤◌, Bool, true, false, ◌&&◌, ◌||◌, List, [], ◌∷◌, ◌++◌, map, length, refl, sym, ap, ◌∙◌, subst, Option, Some, None, ⊎_elim, inl, inr, arith}
use mathlib.Core.Path.{fun_ext}
use Rattle.std.specs.Prelude.{◌==◌, IsSomeAnd, Contains, slice_get, nat_le, if◌then◌else◌}
use Rattle.std.specs.Option.{option_and_then}
use Rattle.std.specs.List.{list_any, zip}
use Rattle.std.proofs.lemmas.List.{append-nil}
use Rattle.std.proofs.lemmas.Bool.{and_right, cases_Bool, cases_lt, le-leb, lt-leb}
use Rattle.theory_form.specs.declared.literals.Lit.{Lit}
use Rattle.theory_form.specs.declared.rows.VarKind.{VarKind}
use Rattle.theory_form.specs.declared.rows.VarKind.TheVariants.{Atom, Sum, Body, Search, Other}
use Rattle.theory_form.specs.Kinds.{atom_block, atom_supports, body_row, IsKind}
use Rattle.theory_form.specs.Theories.{TheoryView, kind_of, block_of, supports_of}
use Rattle.theory_model.specs.Truth.{literal_true}
use Rattle.theory_model.specs.Loops.{is_positive_in, rests_on, is_internal, IsExternal, AreAtomsOf, IsLoopTrue}
use Rattle.theory_model.specs.Models.{IsModel}
use Rattle.theory_model.specs.Whole.{IsWhole}
use Rattle.theory_model.proofs.GrowthLemmas.{model_before}
use Rattle.ground_form.specs.Programs.{Parts}
use Rattle.ground_form.specs.Ranges.{IsNumberOf}
use Rattle.ground_form.specs.AnswerSets.{IsAnswerSetWith}
use Rattle.ground_form.specs.Acyclic.{IsAcyclic, HasOnlyAtomHeads}
use Rattle.ground_form.specs.declared.atoms.AtomId.{AtomId}
use Rattle.theory_build.specs.declared.entries.Entry.{Entry}
use Rattle.theory_build.specs.declared.frames.Frame.{Frame}
use Rattle.theory_build.specs.Frames.{atom_var}
use Rattle.theory_build.specs.Groups.{groups_piece}
use Rattle.theory_build.specs.Bodies.{body_entries}
use Rattle.theory_build.specs.Atoms.{atom_entries, constraint_clauses}
use Rattle.theory_build.specs.Completion.{kinds_of, clauses_of, frame_behind, later_entries, with_program, base_theory, HasBase}
use Rattle.theory_build.proofs.BaseLemmas.{base_itself, base_kept, program_extends}
use Rattle.theory_law.specs.Cuts.{cut, facts_of, AgreeOn}
use Rattle.theory_law.specs.Appending.{CanStandBehind}
use Rattle.theory_law.proofs.Membership.{In, All-in}
use Rattle.theory_law.proofs.Entries.{AreBefore, AgreeBefore, AreEntriesTrue, AreDefined, IsKindBefore, extend, extend_before, extend_true, one_extension, in_before}
use Rattle.theory_law.proofs.Bodies.{rest_defined}
use Rattle.theory_law.proofs.GroupValues.{Fits}
use Rattle.theory_law.proofs.Levels.{step, one_fixed, stable_set, fixed_from_answer, answer_from_fixed}
use Rattle.theory_law.proofs.Blocks.{cut_at, cut_back, fact_range, zip_right}
use Rattle.theory_law.proofs.Slots.{slots_from_clauses, kinds_from_sums}
use Rattle.theory_law.proofs.Layouts.{IsLaidOut, slice_get_front, block_parts, stand_before, newer_block, variables_length}
use Rattle.theory_law.proofs.Programs.{HasClauses, all_from_model, answer_from_model, model_from_answer}
use Rattle.theory_law.proofs.Wholes.{before_from_over, whole_kinds, whole_slots, whole_with}
use Rattle.theory_law.proofs.Truths.{truth_within, truth_true}
use Rattle.theory_law.proofs.Agreeing.{block_range, kind_at, support_range, model_agrees}

pub base_begins : (g : Parts) → HasBase (base_theory g)
base_begins g = base_itself (base_theory g) g refl

module _ (t : TheoryView) (g : Parts) (joins : List Lit) (can : CanStandBehind t g joins) where
  abbrev p : Frame
  p = frame_behind t joins g

  abbrev later : TheoryView
  later = with_program t g joins

  abbrev inner : List Entry
  inner = (groups_piece p g).entries ++ body_entries p g

  older_block : (k : ℕ) (kind : VarKind) (block : ℕ) → slice_get t.variables k ≡ Some kind → atom_block kind ≡ Some block → block < t.blocks
  older_block k kind block e b = in_range kind (can.theory.kinds (suc k) kind e) b
    where
      in_range : (q : VarKind) → IsKind t.blocks q → atom_block q ≡ Some block → block < t.blocks
      in_range (Atom b supports) r s = let same : b ≡ block = cc in subst (λ n. n < t.blocks) same r
      in_range (Sum terms bound) r s = absurd (cc)
      in_range (Body lits) r s = absurd (cc)
      in_range Search r s = absurd (cc)
      in_range Other r s = absurd (cc)

  laid : IsLaidOut later p g
  unfolding with_program later_entries
  laid = record {
    older = t.variables;
    between = [];
    behind = [];
    variables = ap (λ es. t.variables ++ kinds_of (atom_entries p g ++ ((groups_piece p g).entries ++ es))) (sym (append-nil (body_entries p g)));
    before = refl;
    groups = omega arith;
    truth_off = inl (truth_within t can.base);
    truth_low = record { some = omega arith; below = omega (arith, truth_within t can.base) };
    older_atoms = λ k kind e b. let lt = older_block k kind t.blocks e b in absurd (omega arith);
    between_none = tt;
    behind_none = tt;
  }

  has : HasClauses later p g laid t.clauses
  unfolding with_program later_entries laid
  has = ap (λ es. t.clauses ++ map (λ c. Some c) (clauses_of (atom_entries p g ++ ((groups_piece p g).entries ++ es)) ++ constraint_clauses p g)) (sym (append-nil (body_entries p g)))

  -- ---- the older variables

  kind_older : (v : ℕ) → v ≤ length t.variables → kind_of later v ≡ kind_of t v
  unfolding with_program
  kind_older zero le = refl
  kind_older (suc k) le = slice_get_front t.variables (kinds_of (later_entries p g)) k (omega arith)

  -- an atom of an older program is an older variable
  block_older : (v block : ℕ) → (block ≡ t.blocks → ⊥) → block_of later v ≡ Some block → v ≤ length t.variables
  block_older v block ne e = ⊎_elim
      (λ (new : length t.variables < v). absurd (ne (newer_block later p g laid can.program v block new e)))
      (λ (old : v ≤ length t.variables). old)
      (cases_lt (length t.variables) v)

  atoms_older : (u : ℕ → Bool) (block : ℕ) → (block ≡ t.blocks → ⊥) → AreAtomsOf later block u → AreAtomsOf t block u
  atoms_older u block ne atoms v uv =
      let old = block_older v block ne (atoms v uv) in
      sym (ap (option_and_then atom_block) (kind_older v old)) ∙ atoms v uv

  atoms_newer : (u : ℕ → Bool) (block : ℕ) → AreAtomsOf t block u → AreAtomsOf later block u
  atoms_newer u block atoms v uv = let range = block_range t v block (atoms v uv) in ap (option_and_then atom_block) (kind_older v range.1) ∙ atoms v uv

  internal_same : (u : ℕ → Bool) (l : Lit) → l.var.0 ≤ length t.variables → is_internal later u l ≡ is_internal t u l
  internal_same u l le = ap (λ o. l.yes && rests_on u (option_and_then (body_row l.var.0) o)) (kind_older l.var.0 le)

  supports_same : (v : ℕ) → v ≤ length t.variables → supports_of later v ≡ supports_of t v
  supports_same v le = ap (option_and_then atom_supports) (kind_older v le)

  -- the loops of the older programs are those that they were
  loop_on : (f u : ℕ → Bool) (block : ℕ) → AreAtomsOf t block u → (v : ℕ) → IsLoopTrue t f u v → IsLoopTrue later f u v
  loop_on f u block atoms v loop fv =
      let some = loop fv in
      let l : Lit = some.0 in
      let ext : IsExternal t u l = some.1 in
      let old : ext.0 ≤ length t.variables = (block_range t ext.0 block (atoms ext.0 ext.1)).1 in
      let over = support_range t can.whole ext.0 l ext.2 in
      (l, (ext.0, ext.1, subst (λ o. IsSomeAnd o (λ supports. Contains supports l)) (sym (supports_same ext.0 old)) ext.2, internal_same u l (omega (arith, over.below)) ∙ ext.3), some.2)

  -- ---- joined literals rest on no atom of the program

  not_member : (u : ℕ → Bool) → AreAtomsOf later t.blocks u → (v : ℕ) → v ≤ length t.variables → u v ≡ false
  not_member u atoms v le = ⊎_elim
      (λ (h : u v ≡ true).
      let parts = block_parts t v t.blocks (sym (ap (option_and_then atom_block) (kind_older v le)) ∙ atoms v h) in
      absurd (none v parts.0 parts.1 parts.2))
      (λ (h : u v ≡ false). h)
      (cases_Bool (u v))
    where
      none : (w : ℕ) (kind : VarKind) → kind_of t w ≡ Some kind → atom_block kind ≡ Some t.blocks → ⊥
      none zero kind e b = absurd (cc)
      none (suc k) kind e b = let lt = older_block k kind t.blocks e b in omega arith

  lits_apart : (u : ℕ → Bool) → AreAtomsOf later t.blocks u → (lits : List Lit) → AreBefore (length t.variables + 1) lits → list_any (is_positive_in u) lits ≡ false
  lits_apart u atoms [] b = refl
  lits_apart u atoms (l ∷ lits) b =
      let none : is_positive_in u l ≡ false = and_right l.yes (u l.var.0) (not_member u atoms l.var.0 (omega (arith, b.0.below))) in
      ap (λ c. c || list_any (is_positive_in u) lits) none ∙ lits_apart u atoms lits b.1

  joined_apart : (l : Lit) → In l joins → (u : ℕ → Bool) → AreAtomsOf later t.blocks u → is_internal later u l ≡ false
  joined_apart l i u atoms =
      let range : IsNumberOf (length t.variables) l.var.0 = All-in (λ (m : Lit). IsNumberOf (length t.variables) m.var.0) joins can.joins l i in
      internal_same u l range.1 ∙ go (kind_of t l.var.0) refl
    where
      in_kind : (kind : VarKind) → IsKindBefore (length t.variables + 1) kind → rests_on u (body_row l.var.0 kind) ≡ false
      in_kind (Atom block supports) b = refl
      in_kind (Sum terms bound) b = refl
      in_kind (Body lits) b = lits_apart u atoms lits b
      in_kind Search b = refl
      in_kind Other b = refl

      go : (o : Option VarKind) → kind_of t l.var.0 ≡ o → (l.yes && rests_on u (option_and_then (body_row l.var.0) o)) ≡ false
      go None e = and_right l.yes false refl
      go (Some kind) e = and_right l.yes (rests_on u (body_row l.var.0 kind)) (in_kind kind (kind_at (IsKindBefore (length t.variables + 1)) t.variables l.var.0 kind (whole_kinds t can.whole) e))

  -- ---- a model of the whole is a model of what the program stands behind

  pub behind_keeps : (f : ℕ → Bool) → IsModel later f → IsModel t f
  behind_keeps f model = model_before t later (program_extends t g joins) f model

  pub behind_sound : (f : ℕ → Bool) → IsModel later f → IsAnswerSetWith g (facts_of g joins f) (cut (length t.variables) g f)
  behind_sound f model = answer_from_model later p g laid t.clauses has can.program joined_apart f (truth_true t can.base f (behind_keeps f model)) model

  -- ---- joined facts rest on the older variables

  facts_same : (f h : ℕ → Bool) → AgreeOn t f h → facts_of g joins f ≡ facts_of g joins h
  facts_same f h agree = fun_ext (λ a. each a (zip g.inputs joins) (λ pair i. All-in (λ (m : Lit). IsNumberOf (length t.variables) m.var.0) joins can.joins pair.1 (zip_right g.inputs joins pair i)))
    where
      each : (a : ℕ) (pairs : List (AtomId × Lit)) → ((pair : AtomId × Lit) → In pair pairs → IsNumberOf (length t.variables) pair.1.var.0) → list_any (λ (pair : AtomId × Lit). pair.0.0 == a && literal_true f pair.1) pairs ≡ list_any (λ (pair : AtomId × Lit). pair.0.0 == a && literal_true h pair.1) pairs
      each a [] over = refl
      each a (pair ∷ pairs) over = rw (agree pair.1.var.0 (over pair (inl refl)), each a pairs (λ q i. over q (inr i))) refl

  -- ---- an answer set extends a model

  inner_defined : AreDefined p.groups_from inner
  inner_defined = rest_defined p g can.program (stand_before later p g laid)

  module _ (f x : ℕ → Bool) where
    start : ℕ → Bool
    start v = if nat_le v (length t.variables) then f v else x (v - length t.variables)

    pub extended : ℕ → Bool
    extended = extend p.groups_from inner inner_defined start

    agrees : AgreeOn t f extended
    unfolding extended start
    agrees v r =
        sym (extend_before p.groups_from inner inner_defined start v (omega (arith, r.1))
        ∙ ap (λ b. if b then f v else x (v - length t.variables)) (le-leb v (length t.variables) r.1))

    at_atom : (a : ℕ) → IsNumberOf (length g.atoms) a → extended (atom_var p a) ≡ x a
    unfolding extended start
    at_atom a r =
        let v : ℕ = length t.variables + a in
        let back : v - length t.variables ≡ a = omega arith in
        extend_before p.groups_from inner inner_defined start v (omega (arith, r.1))
        ∙ (ap (λ b. if b then f v else x (v - length t.variables)) (lt-leb v (length t.variables) (omega (arith, r.0)))
        ∙ ap x back)

    rest_true : AreEntriesTrue extended p.groups_from inner
    unfolding extended
    rest_true = extend_true p.groups_from inner inner_defined start

    extended_model : IsModel t f → IsAnswerSetWith g (facts_of g joins f) x → IsModel later extended
    unfolding laid
    extended_model model answer =
        let old : IsModel t extended = model_agrees t can.whole f extended agrees model in
        let fits : Fits p (length g.atoms) extended x = record { atoms = at_atom; truth = truth_true t can.base extended old } in
        model_from_answer later p g laid t.clauses has can.program joined_apart extended x fits
        (subst (λ facts. IsAnswerSetWith g facts x) (facts_same f extended agrees) answer)
        (slots_from_clauses extended t.clauses old.clauses) (kinds_from_sums extended t.variables old.sums)
        tt rest_true tt
        (λ block ne u atoms v uv. let older = atoms_older u block ne atoms in loop_on extended u block older v (old.loops block u older v uv))

  pub behind_complete : (f x : ℕ → Bool) → IsModel t f → IsAnswerSetWith g (facts_of g joins f) x → (h : ℕ → Bool) × IsModel later h × AgreeOn t f h × ((a : ℕ) → cut (length t.variables) g h a ≡ x a)
  behind_complete f x model answer = (
    extended f x,
    extended_model f x model answer,
    agrees f x,
    cut_back (length t.variables) g (facts_of g joins f) x (extended f x) can.program (fact_range g joins f can.program) answer (at_atom f x),
  )

  -- ---- and in no other way

  pub behind_one : (f h : ℕ → Bool) → IsModel later f → IsModel later h → AgreeOn t f h → ((a : ℕ) → cut (length t.variables) g f a ≡ cut (length t.variables) g h a) → AgreeOn later f h
  unfolding laid
  behind_one f h mf mh agree same v r =
      let af = all_from_model later p g laid t.clauses has f mf in
      let ah = all_from_model later p g laid t.clauses has h mh in
      let low : AgreeBefore p.groups_from f h = λ w b. ⊎_elim
      (λ (new : length t.variables < w).
      let a : ℕ = w - length t.variables in
      let number : IsNumberOf (length g.atoms) a = (omega arith, omega (arith, b.below)) in
      let at : length t.variables + a ≡ w = omega arith in
      ap f (sym at) ∙ (cut_at (length t.variables) g f a number ∙ (same a ∙ (sym (cut_at (length t.variables) g h a number) ∙ ap h at))))
      (λ (old : w ≤ length t.variables). agree w (b.some, old))
      (cases_lt (length t.variables) w) in
      let ends : length later.variables + 1 ≡ p.groups_from + length inner + 0 = variables_length later p g laid in
      one_extension p.groups_from inner inner_defined f h af.rest ah.rest low v (record { some = r.0; below = omega (arith, r.1) })

  -- ---- where the program is acyclic, in exactly one way

  module _ (acyclic : IsAcyclic g) (only : HasOnlyAtomHeads g) where
    pub acyclic_extends : (f : ℕ → Bool) → IsModel t f → (h : ℕ → Bool) × IsModel later h × AgreeOn t f h
    acyclic_extends f model =
        let facts : ℕ → Bool = facts_of g joins f in
        let set = stable_set g facts can.program (λ c h. (fact_range g joins f can.program c h).1) acyclic.0 acyclic.1 in
        let found = behind_complete f set.0 model (answer_from_fixed g facts set.0 only acyclic set.1) in
        (found.0, found.1, found.2)

    fixed : (f : ℕ → Bool) → IsModel later f → (a : ℕ) → cut (length t.variables) g f a ≡ step g (facts_of g joins f) (cut (length t.variables) g f) a
    fixed f model =
        fixed_from_answer g (facts_of g joins f) (cut (length t.variables) g f) only (suc (length g.atoms))
        (λ c h. let r = fact_range g joins f can.program c h in omega (arith, r.1)) (behind_sound f model)

    -- the atoms of a model are the one answer set
    pub acyclic_says : (f : ℕ → Bool) → IsModel later f → (x : ℕ → Bool) → IsAnswerSetWith g (facts_of g joins f) x → (a : ℕ) → x a ≡ cut (length t.variables) g f a
    acyclic_says f model x answer =
        let facts : ℕ → Bool = facts_of g joins f in
        one_fixed g acyclic.0 acyclic.1 facts x (cut (length t.variables) g f)
        (fixed_from_answer g facts x only (suc (length g.atoms)) (λ c h. let r = fact_range g joins f can.program c h in omega (arith, r.1)) answer)
        (fixed f model)

    pub acyclic_one : (f h : ℕ → Bool) → IsModel later f → IsModel later h → AgreeOn t f h → AgreeOn later f h
    acyclic_one f h mf mh agree =
        let facts : ℕ → Bool = facts_of g joins h in
        let fixed_f : (a : ℕ) → cut (length t.variables) g f a ≡ step g facts (cut (length t.variables) g f) a =
        subst (λ (k : ℕ → Bool). (a : ℕ) → cut (length t.variables) g f a ≡ step g k (cut (length t.variables) g f) a) (facts_same f h agree) (fixed f mf) in
        behind_one f h mf mh agree (one_fixed g acyclic.0 acyclic.1 facts (cut (length t.variables) g f) (cut (length t.variables) g h) fixed_f (fixed h mh))

  -- ---- the whole names its own variables alone, and begins as the theory does

  pub behind_whole : IsWhole later
  unfolding laid
  behind_whole =
      whole_with later p g laid t.clauses has can.program
      (λ l i. in_before (length t.variables + 1) joins (before_from_over (length t.variables) joins can.joins) l i)
      (whole_kinds t can.whole) (whole_slots t can.whole) tt tt

  pub behind_base : HasBase later
  behind_base = base_kept t later can.base (program_extends t g joins)
