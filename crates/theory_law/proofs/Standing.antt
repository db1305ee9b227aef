-- What keeps a theory one that a search can work on.
use Rattle.std.proofs.Common.{◌≡◌, ℕ, zero, suc, ◌+◌, ◌-◌, ◌<◌, ◌≤◌, List, [], ◌∷◌, ◌++◌, length, refl, sym, ap, ◌∙◌, subst, Option, Some, None, append-nil, ⊎_elim, arith}
use Rattle.std.specs.Prelude.{IfSome, slice_get}
use Rattle.std.specs.List.{AllByRecursion}
use Rattle.std.proofs.lemmas.Bool.{cases_lt}
use Rattle.std.proofs.lemmas.List.Elements.{All-from_recursion, recursion_from_All}
use Rattle.theory_form.specs.declared.literals.Lit.{Lit}
use Rattle.theory_form.specs.declared.rows.VarKind.{VarKind}
use Rattle.theory_form.specs.declared.rows.VarKind.TheVariants.{Atom, Sum, Body, Search, Other}
use Rattle.theory_form.specs.Kinds.{IsKind}
use Rattle.theory_form.specs.Numbers.{at_number}
use Rattle.theory_form.specs.Theories.{TheoryView, Extends, IsTheory, IsSearch}
use Rattle.theory_form.proofs.ExtendLemmas.{Extends-same}
use Rattle.theory_model.specs.Whole.{AreOver}
use Rattle.theory_model.proofs.GrowthLemmas.{kind_kept}
use Rattle.ground_form.specs.Programs.{Parts}
use Rattle.ground_form.specs.Ranges.{IsInRange, IsNumberOf}
use Rattle.theory_build.specs.declared.entries.Entry.{Entry}
use Rattle.theory_build.specs.Entries.{search_entry}
use Rattle.theory_build.specs.Exclusion.{search_var}
use Rattle.theory_build.specs.Frames.{base_frame}
use Rattle.theory_build.specs.Growth.{IsAddable, AreAddable}
use Rattle.theory_build.specs.Atoms.{atom_entries}
use Rattle.theory_build.specs.Bodies.{body_entries}
use Rattle.theory_build.specs.Groups.{groups_piece}
use Rattle.theory_build.specs.Completion.{kinds_of, later_entries, with_program, frame_behind, base_theory, base_entries}
use Rattle.theory_build.proofs.AddableLemmas.{later_addable, base_addable, no_search}
use Rattle.theory_build.proofs.BaseLemmas.{extends_twice, program_extends}
use Rattle.theory_build.proofs.ExclusionLemmas.{has_search, search_var_is}
use Rattle.theory_build.proofs.TheoryLemmas.{base_front, front_and_search}
use Rattle.theory_law.specs.Appending.{CanStandBehind}
use Rattle.theory_law.specs.Growth.{IsMore}
use Rattle.theory_law.specs.Standing.{StandsOn, has_base}
use Rattle.theory_law.proofs.Agreeing.{kind_range}
use Rattle.theory_law.proofs.Layouts.{slice_get_front, slice_get_back, kinds_append}
use Rattle.theory_law.proofs.Appended.{behind_whole}
use Rattle.theory_law.proofs.Bases.{base_whole}
use Rattle.theory_law.proofs.Defining.{base_bodies, behind_bodies}
use Rattle.theory_law.proofs.PlainLemmas.{more_bodies, more_extends, more_theory, more_whole}
use Rattle.theory_law.proofs.Truths.{base_atoms_is, truth_within}

kind_from_addable : (blocks : ℕ) (kind : VarKind) → IsAddable blocks kind → IsKind blocks kind
kind_from_addable blocks (Atom block supports) h = h
kind_from_addable blocks (Sum terms bound) h = h
kind_from_addable blocks (Body lits) h = tt
kind_from_addable blocks Search h = absurd h
kind_from_addable blocks Other h = tt

kind_blocks : (n m : ℕ) → n ≤ m → (kind : VarKind) → IsKind n kind → IsKind m kind
kind_blocks n m le (Atom block supports) h = omega (arith, h)
kind_blocks n m le (Sum terms bound) h = h
kind_blocks n m le (Body lits) h = tt
kind_blocks n m le Search h = tt
kind_blocks n m le Other h = tt

addable_at : (blocks : ℕ) (es : List Entry) (k : ℕ) (kind : VarKind) → AreAddable blocks es → slice_get (kinds_of es) k ≡ Some kind → IsKind blocks kind
addable_at blocks es k kind h e = go es k (recursion_from_All (λ (x : Entry). IsAddable blocks x.kind) es h) e
  where
    go : (xs : List Entry) (j : ℕ) → AllByRecursion (λ (x : Entry). IsAddable blocks x.kind) xs → slice_get (kinds_of xs) j ≡ Some kind → IsKind blocks kind
    go [] j a s = absurd (cc)
    go (x ∷ xs) zero a s = let same : x.kind ≡ kind = cc in kind_from_addable blocks kind (subst (IsAddable blocks) same a.0)
    go (x ∷ xs) (suc j) a s = go xs j a.1 s

-- ---- a program behind a theory

module _ (t : TheoryView) (g : Parts) (joins : List Lit) (can : CanStandBehind t g joins) where
  abbrev es : List Entry
  es = atom_entries (frame_behind t joins g) g ++ ((groups_piece (frame_behind t joins g) g).entries ++ body_entries (frame_behind t joins g) g)

  addable : AreAddable (t.blocks + 1) es
  addable = later_addable (frame_behind t joins g) g (t.blocks + 1) can.program (omega arith)

  at_back : (k : ℕ) → length t.variables ≤ k → slice_get (t.variables ++ kinds_of es) k ≡ slice_get (kinds_of es) (k - length t.variables)
  at_back k le =
      let at : k ≡ length t.variables + (k - length t.variables) = omega arith in
      ap (slice_get (t.variables ++ kinds_of es)) at ∙ slice_get_back t.variables (kinds_of es) (k - length t.variables)

  program_theory : IsTheory (with_program t g joins)
  unfolding with_program later_entries
  program_theory = record { kinds = kinds; guard = λ v w sv sw. can.theory.guard v w (older v sv) (older w sw) }
    where
      kinds : (v : ℕ) (kind : VarKind) → at_number (t.variables ++ kinds_of es) v ≡ Some kind → IsKind (t.blocks + 1) kind
      kinds zero kind e = absurd (cc)
      kinds (suc k) kind e = ⊎_elim
          (λ (low : k < length t.variables). kind_blocks t.blocks (t.blocks + 1) (omega arith) kind (can.theory.kinds (suc k) kind (sym (slice_get_front t.variables (kinds_of es) k low) ∙ e)))
          (λ (high : length t.variables ≤ k). addable_at (t.blocks + 1) es (k - length t.variables) kind addable (sym (at_back k high) ∙ e))
          (cases_lt k (length t.variables))

      older : (v : ℕ) → at_number (t.variables ++ kinds_of es) v ≡ Some Search → IsSearch t v
      older zero e = absurd (cc)
      older (suc k) e = ⊎_elim
          (λ (low : k < length t.variables). sym (slice_get_front t.variables (kinds_of es) k low) ∙ e)
          (λ (high : length t.variables ≤ k). absurd (no_search (t.blocks + 1) es (suc (k - length t.variables)) addable (sym (at_back k high) ∙ e)))
          (cases_lt k (length t.variables))

  pub program_stands : (base : Parts) → StandsOn base t → StandsOn base (with_program t g joins)
  program_stands base stands = record {
    theory = program_theory;
    begins = extends_twice (base_theory base) t (with_program t g joins) stands.begins (program_extends t g joins);
    whole = behind_whole t g joins can;
    bodies = behind_bodies t g joins can stands.bodies;
  }

-- ---- the base

last_kind : (kinds : List VarKind) (k : ℕ) (kind : VarKind) → length kinds ≤ k → slice_get (kinds ++ Search ∷ []) k ≡ Some kind → (k ≡ length kinds) × (kind ≡ Search)
last_kind [] zero kind le e = (refl, let same : Search ≡ kind = cc in sym same)
last_kind [] (suc k) kind le e = absurd (cc)
last_kind (x ∷ kinds) zero kind le e = absurd (omega arith)
last_kind (x ∷ kinds) (suc k) kind le e = let rest = last_kind kinds k kind (omega arith) e in (ap suc rest.0, rest.1)

module _ (g : Parts) (range : IsInRange g) where
  abbrev front : List Entry
  front = base_front (base_frame g) g

  front_addable : AreAddable 1 front
  front_addable = base_addable (base_frame g) g 1 (base_frame g).truth range (omega arith)

  shape : kinds_of (base_entries (base_frame g) g) ≡ kinds_of front ++ Search ∷ []
  shape = ap kinds_of (sym (front_and_search (base_frame g) g)) ∙ kinds_append front (search_entry ∷ [])

  base_is_theory : IsTheory (base_theory g)
  unfolding base_theory
  base_is_theory = record {
    kinds = λ v kind e. kinds v kind (sym (ap (λ (xs : List VarKind). at_number xs v) shape) ∙ e);
    guard = λ v w sv sw. place v (sym (ap (λ (xs : List VarKind). at_number xs v) shape) ∙ sv) ∙ sym (place w (sym (ap (λ (xs : List VarKind). at_number xs w) shape) ∙ sw));
  }
    where
      kinds : (v : ℕ) (kind : VarKind) → at_number (kinds_of front ++ Search ∷ []) v ≡ Some kind → IsKind 1 kind
      kinds zero kind e = absurd (cc)
      kinds (suc k) kind e = ⊎_elim
          (λ (low : k < length (kinds_of front)). addable_at 1 front k kind front_addable (sym (slice_get_front (kinds_of front) (Search ∷ []) k low) ∙ e))
          (λ (high : length (kinds_of front) ≤ k). subst (IsKind 1) (sym (last_kind (kinds_of front) k kind high e).1) tt)
          (cases_lt k (length (kinds_of front)))

      place : (v : ℕ) → at_number (kinds_of front ++ Search ∷ []) v ≡ Some Search → v ≡ suc (length (kinds_of front))
      place zero e = absurd (cc)
      place (suc k) e = ⊎_elim
          (λ (low : k < length (kinds_of front)). absurd (no_search 1 front (suc k) front_addable (sym (slice_get_front (kinds_of front) (Search ∷ []) k low) ∙ e)))
          (λ (high : length (kinds_of front) ≤ k). ap suc (last_kind (kinds_of front) k Search high e).0)
          (cases_lt k (length (kinds_of front)))

  pub base_stands : StandsOn g (base_theory g)
  base_stands = record { theory = base_is_theory; begins = Extends-same (base_theory g); whole = base_whole g range; bodies = base_bodies g range }

-- ---- plain variables and clauses more

pub more_stands : (g : Parts) (t new : TheoryView) (kinds : List VarKind) (slots : List (Option (List Lit))) → StandsOn g t → IsMore t new kinds slots → StandsOn g new
more_stands g t new kinds slots stands more = record {
  theory = more_theory t new kinds slots more stands.theory;
  begins = extends_twice (base_theory g) t new stands.begins (more_extends t new kinds slots more);
  whole = more_whole t new kinds slots more stands.whole;
  bodies = more_bodies t new kinds slots more stands.bodies;
}

abbrev skipping : TheoryView → ℕ → TheoryView
skipping t reserved = record t { clauses = t.clauses ++ None ∷ []; reserved = reserved }

pub skipped_stands : (g : Parts) (t : TheoryView) (reserved : ℕ) → StandsOn g t → StandsOn g (skipping t reserved)
skipped_stands g t reserved stands = more_stands g t (skipping t reserved) [] (None ∷ []) stands (record {
  variables = sym (append-nil t.variables);
  clauses = refl;
  blocks = refl;
  plain = λ k d within. absurd (omega arith);
  over = All-from_recursion (λ (slot : Option (List Lit)). IfSome slot (AreOver (length t.variables))) (None ∷ []) (tt, tt);
})

-- ---- the search guard

module _ (g : Parts) (t : TheoryView) (stands : StandsOn g t) where
  pub search_there : IsSearch t (search_var t)
  search_there =
      let found = has_search t (has_base g t stands) in
      subst (IsSearch t) (sym (search_var_is t found.0 stands.theory found.1)) found.1

  pub search_low : IsNumberOf (length t.variables) (search_var t)
  search_low = kind_range t (search_var t) Search search_there

  pub atom_low : (a : ℕ) → IsNumberOf (length g.atoms) a → IsNumberOf (length t.variables) a
  atom_low a r = (r.0, omega (arith, r.1, truth_within t (has_base g t stands), base_atoms_is t (has_base g t stands)))

-- the search guard of a theory is that of what it begins with
pub search_same : (g : Parts) (s t : TheoryView) → StandsOn g s → StandsOn g t → Extends s t → search_var t ≡ search_var s
search_same g s t hs ht e =
    let range = search_low g s hs in
    search_var_is t (search_var s) ht.theory (kind_kept s t e (search_var s) range.1 ∙ search_there g s hs)
