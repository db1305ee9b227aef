-- The theories of a program, from its plan.
use Rattle.std.proofs.Common.{◌≡◌, ℕ, zero, suc, ◌+◌, ◌<◌, ◌≤◌, List, [], ◌∷◌, ◌++◌, length, map, take, get_or, refl, sym, ◌∙◌, ap, subst, arith, Option, Some, None, append-nil, append_assoc}
use Rattle.std.specs.Prelude.{slice_get}
use Rattle.std.specs.Option.{option_to_list}
use Rattle.std.proofs.lemmas.List.{map-append}
use Rattle.theory_form.specs.declared.literals.Lit.{Lit}
use Rattle.theory_form.specs.declared.rows.VarKind.{VarKind}
use Rattle.theory_form.specs.declared.rows.VarKind.TheVariants.{Search}
use Rattle.theory_form.specs.Theories.{TheoryView, CanAdd, IsSearch}
use Rattle.ground_form.specs.Programs.{Parts}
use Rattle.ground_form.specs.Ranges.{IsInRange}
use Rattle.theory_build.specs.declared.entries.Entry.{Entry}
use Rattle.theory_build.specs.declared.frames.Frame.{Frame}
use Rattle.theory_build.specs.declared.plans.Plan.{Plan}
use Rattle.theory_build.specs.Atoms.{atom_entries, constraint_clauses}
use Rattle.theory_build.specs.Bodies.{body_entries}
use Rattle.theory_build.specs.Completion.{with_entries, with_block, no_theory, base_entries, base_theory, later_entries, with_program, frame_behind}
use Rattle.theory_build.specs.Entries.{truth_entry, search_entry}
use Rattle.theory_build.specs.Frames.{base_frame}
use Rattle.theory_build.specs.Groups.{groups_piece}
use Rattle.theory_build.specs.Growth.{AreAddable}
use Rattle.theory_build.specs.Plans.{IsPlan}
use Rattle.theory_build.proofs.AddableLemmas.{base_addable, later_addable, no_search}
use Rattle.theory_build.proofs.GrowthLemmas.{entries_more, constraints_more}

-- the variables of a plan, in their order
pub planned : (p : Frame) (g : Parts) (plan : Plan) (entries more : List Entry) → IsPlan p g plan → entries ≡ plan.atoms.items ++ (more ++ (plan.groups.items ++ plan.bodies.items)) → entries ≡ atom_entries p g ++ (more ++ ((groups_piece p g).entries ++ body_entries p g))
planned p g plan entries more is entries_are =
    entries_are
    ∙ ap (λ xs. xs ++ (more ++ (plan.groups.items ++ plan.bodies.items))) is.atoms
    ∙ ap (λ xs. atom_entries p g ++ (more ++ (xs ++ plan.bodies.items))) is.groups
    ∙ ap (λ xs. atom_entries p g ++ (more ++ ((groups_piece p g).entries ++ xs))) is.bodies

-- ---- the base

-- the variables of the base but for the search guard
abbrev pub base_front : Frame → Parts → List Entry
base_front p g = atom_entries p g ++ (truth_entry p.truth ∷ ((groups_piece p g).entries ++ body_entries p g))

pub front_and_search : (p : Frame) (g : Parts) → base_front p g ++ search_entry ∷ [] ≡ base_entries p g
unfolding base_entries
front_and_search p g =
    let rest = (groups_piece p g).entries ++ body_entries p g in
    append_assoc (atom_entries p g) (truth_entry p.truth ∷ rest) (search_entry ∷ [])
    ∙ ap (λ xs. atom_entries p g ++ (truth_entry p.truth ∷ xs)) (append_assoc (groups_piece p g).entries (body_entries p g) (search_entry ∷ []))

-- the plan of the base: its frame, its variables but for the search guard, and its constraints
pub record IsBasePlan (g : Parts) (entries : List Entry) (constraints : List (List Lit)) : Type 0 where
  pub entries_are : entries ≡ base_front (base_frame g) g
  pub constraints_are : constraints ≡ constraint_clauses (base_frame g) g

pub base_planned : (p : Frame) (g : Parts) (plan : Plan) (truth : Entry) (entries : List Entry) (constraints : List (List Lit)) → p ≡ base_frame g → truth ≡ truth_entry p.truth → IsPlan p g plan → entries ≡ plan.atoms.items ++ (option_to_list (Some truth) ++ (plan.groups.items ++ plan.bodies.items)) → constraints ≡ plan.constraints.items → IsBasePlan g entries constraints
base_planned p g plan truth entries constraints p_is truth_is is entries_are constraints_are = record {
  entries_are =
      planned p g plan entries (truth ∷ []) is entries_are
      ∙ ap (λ x. atom_entries p g ++ (x ∷ ((groups_piece p g).entries ++ body_entries p g))) truth_is
      ∙ ap (λ q. base_front q g) p_is;
  constraints_are = constraints_are ∙ is.constraints ∙ ap (λ q. constraint_clauses q g) p_is;
}

pub base_front_addable : (g : Parts) (t : TheoryView) (entries : List Entry) (constraints : List (List Lit)) → IsInRange g → t ≡ with_block no_theory → IsBasePlan g entries constraints → AreAddable t.blocks entries
base_front_addable g t entries constraints in_range t_is plan =
    let p = base_frame g in
    subst (λ (u : TheoryView). AreAddable u.blocks entries) (sym t_is)
    (subst (AreAddable 1) (sym plan.entries_are) (base_addable p g 1 p.truth in_range (omega arith)))

pub search_addable : (g : Parts) (t u : TheoryView) (entries : List Entry) (constraints : List (List Lit)) → IsInRange g → t ≡ with_block no_theory → IsBasePlan g entries constraints → u ≡ with_entries t entries [] → CanAdd u Search
search_addable g t u entries constraints in_range t_is plan u_is v is =
    let one : AreAddable 1 entries = subst (λ (w : TheoryView). AreAddable w.blocks entries) t_is (base_front_addable g t entries constraints in_range t_is plan) in
    let search : IsSearch (with_entries (with_block no_theory) entries []) v =
    subst (λ (w : TheoryView). IsSearch w v) (u_is ∙ ap (λ w. with_entries w entries []) t_is) is
    in
    no_search 1 entries v one search

pub base_made : (g : Parts) (t u v w : TheoryView) (entries : List Entry) (constraints : List (List Lit)) (search : Entry) → t ≡ with_block no_theory → IsBasePlan g entries constraints → u ≡ with_entries t entries [] → search ≡ search_entry → v ≡ with_entries u (search ∷ []) [] → w ≡ record v { clauses = v.clauses ++ map (λ c. Some c) constraints } → w ≡ base_theory g
unfolding base_theory
base_made g t u v w entries constraints search t_is plan u_is search_is v_is w_is =
    let p = base_frame g in
    let whole : v ≡ with_entries t (entries ++ search ∷ []) [] = v_is ∙ ap (λ x. with_entries x (search ∷ []) []) u_is ∙ entries_more t entries (search ∷ []) [] in
    let all : entries ++ search ∷ [] ≡ base_entries p g = ap (λ x. entries ++ x ∷ []) search_is ∙ ap (λ xs. xs ++ search_entry ∷ []) plan.entries_are ∙ front_and_search p g in
    w_is
    ∙ ap (λ (x : TheoryView). record x { clauses = x.clauses ++ map (λ (c : List Lit). Some c) constraints }) whole
    ∙ constraints_more t (entries ++ search ∷ []) constraints
    ∙ ap (λ xs. with_entries t xs constraints) all
    ∙ ap (λ cs. with_entries t (base_entries p g) cs) plan.constraints_are
    ∙ ap (λ x. with_entries x (base_entries p g) (constraint_clauses p g)) t_is

-- ---- a program behind a theory

pub later_front_addable : (t u : TheoryView) (p : Frame) (g : Parts) (joins : List Lit) (plan : Plan) (entries : List Entry) → IsInRange g → p ≡ frame_behind t joins g → IsPlan p g plan → entries ≡ plan.atoms.items ++ ([] ++ (plan.groups.items ++ plan.bodies.items)) → u ≡ with_block t → AreAddable u.blocks entries
later_front_addable t u p g joins plan entries in_range p_is is entries_are u_is =
    let q = frame_behind t joins g in
    let all : entries ≡ atom_entries q g ++ ((groups_piece q g).entries ++ body_entries q g) =
    planned p g plan entries [] is entries_are ∙ ap (λ r. atom_entries r g ++ ((groups_piece r g).entries ++ body_entries r g)) p_is
    in
    subst (λ (w : TheoryView). AreAddable w.blocks entries) (sym u_is)
    (subst (AreAddable (t.blocks + 1)) (sym all) (later_addable q g (t.blocks + 1) in_range (omega arith)))

pub later_made : (t u v w : TheoryView) (p : Frame) (g : Parts) (joins : List Lit) (plan : Plan) (entries : List Entry) (constraints : List (List Lit)) → p ≡ frame_behind t joins g → IsPlan p g plan → entries ≡ plan.atoms.items ++ ([] ++ (plan.groups.items ++ plan.bodies.items)) → constraints ≡ plan.constraints.items → u ≡ with_block t → v ≡ with_entries u entries [] → w ≡ record v { clauses = v.clauses ++ map (λ c. Some c) constraints } → w ≡ with_program t g joins
unfolding with_program later_entries
later_made t u v w p g joins plan entries constraints p_is is entries_are constraints_are u_is v_is w_is =
    let q = frame_behind t joins g in
    w_is
    ∙ ap (λ (x : TheoryView). record x { clauses = x.clauses ++ map (λ (c : List Lit). Some c) constraints }) v_is
    ∙ constraints_more u entries constraints
    ∙ ap (λ xs. with_entries u xs constraints) (planned p g plan entries [] is entries_are)
    ∙ ap (λ cs. with_entries u (atom_entries p g ++ ((groups_piece p g).entries ++ body_entries p g)) cs) (constraints_are ∙ is.constraints)
    ∙ ap (λ r. with_entries u (atom_entries r g ++ ((groups_piece r g).entries ++ body_entries r g)) (constraint_clauses r g)) p_is
    ∙ ap (λ x. with_entries x (atom_entries q g ++ ((groups_piece q g).entries ++ body_entries q g)) (constraint_clauses q g)) u_is
