-- Where the variables of a program stand.
use Rattle.std.proofs.Common.{◌≡◌, ℕ, zero, suc, ◌+◌, ◌-◌, ◌<◌, ◌≤◌, Bool, false, List, [], ◌∷◌, ◌++◌, map, length, refl, sym, ap, ◌∙◌, subst, Option, Some, None, ⊎_elim, arith}
use Rattle.std.specs.Prelude.{◌⊎◌, slice_get}
use Rattle.std.specs.Option.{option_and_then}
use Rattle.std.specs.List.{enumerate_from, range_with_len, AllByRecursion}
use Rattle.std.proofs.lemmas.Bool.{cases_lt}
use Rattle.std.proofs.lemmas.List.{length-append, length-map, map-append, append_assoc}
use Rattle.theory_form.specs.declared.literals.Lit.{Lit}
use Rattle.theory_form.specs.declared.rows.VarKind.{VarKind}
use Rattle.theory_form.specs.declared.rows.VarKind.TheVariants.{Atom, Body, Search}
use Rattle.theory_form.specs.Kinds.{atom_block, atom_supports, body_row}
use Rattle.theory_form.specs.Numbers.{at_number}
use Rattle.theory_form.specs.Theories.{TheoryView, kind_of, block_of, IsSearch}
use Rattle.theory_model.specs.Loops.{is_internal, AreAtomsOf}
use Rattle.ground_form.specs.declared.rules.GroundRule.{GroundRule}
use Rattle.ground_form.specs.Programs.{Parts}
use Rattle.ground_form.specs.Ranges.{IsNumberOf, IsInRange}
use Rattle.theory_build.specs.declared.entries.Entry.{Entry}
use Rattle.theory_build.specs.declared.frames.Frame.{Frame}
use Rattle.theory_build.specs.Ascending.{place_in}
use Rattle.theory_build.specs.Frames.{atom_var}
use Rattle.theory_build.specs.Groups.{groups_piece}
use Rattle.theory_build.specs.Bodies.{lits_of, rule_bodies, bodies_from, body_lit, body_entry_at, body_entries}
use Rattle.theory_build.specs.Atoms.{supports as supports_at, atom_entry, atom_entries}
use Rattle.theory_build.specs.Completion.{kinds_of}
use Rattle.theory_law.proofs.Membership.{In}
use Rattle.theory_law.proofs.Places.{place_of}
use Rattle.theory_law.proofs.Entries.{IsBefore, AreDefined}
use Rattle.theory_law.proofs.Pieces.{StandBefore}
use Rattle.theory_law.proofs.Bodies.{rest_defined}
use Rattle.theory_law.proofs.BodyValues.{rule_body_in}
use Rattle.theory_law.proofs.Slots.{split_all, join_all}
use Rattle.theory_law.proofs.Blocks.{IsProgramOf}

-- ---- places in joined lists

pub slice_get_front : {X : Type 0} (xs ys : List X) (k : ℕ) → k < length xs → slice_get (xs ++ ys) k ≡ slice_get xs k
slice_get_front [] ys k lt = absurd (omega arith)
slice_get_front (x ∷ xs) ys zero lt = refl
slice_get_front (x ∷ xs) ys (suc k) lt = slice_get_front xs ys k (omega arith)

pub slice_get_back : {X : Type 0} (xs ys : List X) (k : ℕ) → slice_get (xs ++ ys) (length xs + k) ≡ slice_get ys k
slice_get_back [] ys k = let at : 0 + k ≡ k = omega arith in ap (slice_get ys) at
slice_get_back (x ∷ xs) ys k = let at : suc (length xs) + k ≡ suc (length xs + k) = omega arith in ap (slice_get (x ∷ (xs ++ ys))) at ∙ slice_get_back xs ys k

pub kinds_append : (xs ys : List Entry) → kinds_of (xs ++ ys) ≡ kinds_of xs ++ kinds_of ys
kinds_append xs ys = map-append (λ (e : Entry). e.kind) xs ys

pub kinds_length : (es : List Entry) → length (kinds_of es) ≡ length es
kinds_length es = length-map es (λ (e : Entry). e.kind)

-- ---- entries that are no atoms

abbrev pub AreNoAtoms : List Entry → Type 0
AreNoAtoms es = AllByRecursion (λ (e : Entry). atom_block e.kind ≡ None) es

pub no_atoms_defined : (v : ℕ) (es : List Entry) → AreDefined v es → AreNoAtoms es
no_atoms_defined v [] d = tt
no_atoms_defined v (e ∷ es) d = (d.0.no_atom, no_atoms_defined (v + 1) es d.1)

no_atom_at : (es : List Entry) (k : ℕ) (kind : VarKind) → AreNoAtoms es → slice_get (kinds_of es) k ≡ Some kind → atom_block kind ≡ None
no_atom_at [] k kind h e = absurd (cc)
no_atom_at (x ∷ es) zero kind h e = let same : x.kind ≡ kind = cc in subst (λ q. atom_block q ≡ None) same h.0
no_atom_at (x ∷ es) (suc k) kind h e = no_atom_at es k kind h.1 e

-- ---- entries that are no search guard

abbrev pub AreNoSearch : List Entry → Type 0
AreNoSearch es = AllByRecursion (λ (e : Entry). e.kind ≡ Search → ⊥) es

pub no_search_defined : (v : ℕ) (es : List Entry) → AreDefined v es → AreNoSearch es
no_search_defined v [] d = tt
no_search_defined v (e ∷ es) d = (d.0.no_search, no_search_defined (v + 1) es d.1)

no_search_at : (xs ys : List Entry) (k : ℕ) → AreNoSearch xs → slice_get (kinds_of (xs ++ ys)) k ≡ Some Search → length xs ≤ k
no_search_at [] ys k h e = omega arith
no_search_at (x ∷ xs) ys zero h e = let is : x.kind ≡ Search = cc in absurd (h.0 is)
no_search_at (x ∷ xs) ys (suc k) h e = let rest = no_search_at xs ys k h.1 e in omega arith

-- ---- atoms

pub block_parts : (t : TheoryView) (v block : ℕ) → block_of t v ≡ Some block → (kind : VarKind) × (kind_of t v ≡ Some kind) × (atom_block kind ≡ Some block)
block_parts t v block e = go (kind_of t v) refl e
  where
    go : (o : Option VarKind) → kind_of t v ≡ o → option_and_then atom_block o ≡ Some block → (kind : VarKind) × (kind_of t v ≡ Some kind) × (atom_block kind ≡ Some block)
    go None s b = absurd (cc)
    go (Some kind) s b = (kind, s, b)

atoms_length_from : (p : Frame) (g : Parts) (from n : ℕ) → length (map (atom_entry p g) (range_with_len from n)) ≡ n
atoms_length_from p g from zero = refl
atoms_length_from p g from (suc n) = ap suc (atoms_length_from p g (from + 1) n)

pub atoms_length : (p : Frame) (g : Parts) → length (atom_entries p g) ≡ length g.atoms
unfolding atom_entries
atoms_length p g = atoms_length_from p g 1 (length g.atoms)

atom_kind_from : (p : Frame) (g : Parts) (from n k : ℕ) → k < n → slice_get (kinds_of (map (atom_entry p g) (range_with_len from n))) k ≡ Some (Atom p.block (supports_at p g (from + k)))
unfolding atom_entry
atom_kind_from p g from zero k lt = absurd (omega arith)
atom_kind_from p g from (suc n) zero lt = let at : from ≡ from + 0 = omega arith in ap (λ a. Some (Atom p.block (supports_at p g a))) at
atom_kind_from p g from (suc n) (suc k) lt = let at : (from + 1) + k ≡ from + suc k = omega arith in atom_kind_from p g (from + 1) n k (omega arith) ∙ ap (λ a. Some (Atom p.block (supports_at p g a))) at

atom_kind : (p : Frame) (g : Parts) (k : ℕ) → k < length g.atoms → slice_get (kinds_of (atom_entries p g)) k ≡ Some (Atom p.block (supports_at p g (suc k)))
unfolding atom_entries
atom_kind p g k lt = let at : 1 + k ≡ suc k = omega arith in atom_kind_from p g 1 (length g.atoms) k lt ∙ ap (λ a. Some (Atom p.block (supports_at p g a))) at

-- ---- bodies

bodies_length_from : (w : ℕ) (lists : List (List Lit)) → length (map body_entry_at (enumerate_from w lists)) ≡ length lists
bodies_length_from w [] = refl
bodies_length_from w (l ∷ lists) = ap suc (bodies_length_from (w + 1) lists)

pub bodies_length : (p : Frame) (g : Parts) → length (body_entries p g) ≡ length (rule_bodies p g)
unfolding body_entries
bodies_length p g = bodies_length_from (bodies_from p g) (rule_bodies p g)

body_kind_from : (w : ℕ) (lists : List (List Lit)) (k : ℕ) (lits : List Lit) → slice_get lists k ≡ Some lits → slice_get (kinds_of (map body_entry_at (enumerate_from w lists))) k ≡ Some (Body lits)
body_kind_from w [] k lits e = absurd (cc)
body_kind_from w (l ∷ lists) zero lits e = let same : l ≡ lits = cc in ap (λ m. Some (Body m)) same
body_kind_from w (l ∷ lists) (suc k) lits e = body_kind_from (w + 1) lists k lits e

-- ---- a program in a theory

-- The theory's variables are older ones, the program's atoms, something between, the groups, the bodies, and something
-- behind. The older ones are no atoms of the program.
pub record IsLaidOut (t : TheoryView) (p : Frame) (g : Parts) : Type 0 where
  pub older : List VarKind
  pub between : List Entry
  pub behind : List Entry
  pub variables : t.variables ≡ older ++ kinds_of (atom_entries p g ++ (between ++ ((groups_piece p g).entries ++ (body_entries p g ++ behind))))
  pub before : p.before ≡ length older
  pub groups : p.groups_from ≡ p.before + length g.atoms + length between + 1
  pub truth_off : (p.truth ≤ p.before) ⊎ (p.before + length g.atoms < p.truth)
  pub truth_low : IsBefore p.groups_from p.truth
  pub older_atoms : (k : ℕ) (kind : VarKind) → slice_get older k ≡ Some kind → atom_block kind ≡ Some p.block → ⊥
  pub between_none : AreNoAtoms between
  pub behind_none : AreNoAtoms behind

module _ (t : TheoryView) (p : Frame) (g : Parts) (laid : IsLaidOut t p g) where
  pub stand_before : StandBefore p (length g.atoms) p.groups_from
  stand_before = record { atoms = omega (arith, laid.groups); truth = laid.truth_low }

  rest : List Entry
  rest = laid.between ++ ((groups_piece p g).entries ++ (body_entries p g ++ laid.behind))

  -- a variable behind the older ones
  newer_kind : (k : ℕ) → kind_of t (p.before + suc k) ≡ slice_get (kinds_of (atom_entries p g) ++ kinds_of rest) k
  unfolding rest
  newer_kind k =
      let at : p.before + suc k ≡ suc (length laid.older + k) = omega (arith, laid.before) in
      ap (λ v. at_number t.variables v) at
      ∙ (ap (λ vs. slice_get vs (length laid.older + k)) laid.variables
      ∙ (slice_get_back laid.older (kinds_of (atom_entries p g ++ rest)) k
      ∙ ap (λ ks. slice_get ks k) (kinds_append (atom_entries p g) rest)))

  kinds_of_atoms : length (kinds_of (atom_entries p g)) ≡ length g.atoms
  kinds_of_atoms = kinds_length (atom_entries p g) ∙ atoms_length p g

  atom_kind_at : (a : ℕ) → IsNumberOf (length g.atoms) a → kind_of t (atom_var p a) ≡ Some (Atom p.block (supports_at p g a))
  atom_kind_at zero r = absurd (omega (arith, r.0))
  atom_kind_at (suc k) r =
      let lt : k < length g.atoms = omega (arith, r.1) in
      newer_kind k ∙ (slice_get_front (kinds_of (atom_entries p g)) (kinds_of rest) k (omega (arith, kinds_of_atoms)) ∙ atom_kind p g k lt)

  -- a variable behind the atoms
  later_kind : (k : ℕ) → kind_of t (p.before + length g.atoms + suc k) ≡ slice_get (kinds_of rest) k
  later_kind k =
      let at : p.before + length g.atoms + suc k ≡ p.before + suc (length (kinds_of (atom_entries p g)) + k) = omega (arith, kinds_of_atoms) in
      ap (kind_of t) at ∙ (newer_kind (length (kinds_of (atom_entries p g)) + k) ∙ slice_get_back (kinds_of (atom_entries p g)) (kinds_of rest) k)

  module _ (range : IsInRange g) where
    rest_none : AreNoAtoms rest
    unfolding rest
    rest_none =
        let inner = no_atoms_defined p.groups_from ((groups_piece p g).entries ++ body_entries p g) (rest_defined p g range stand_before) in
        let parts = split_all (λ (e : Entry). atom_block e.kind ≡ None) (groups_piece p g).entries (body_entries p g) inner in
        join_all (λ (e : Entry). atom_block e.kind ≡ None) laid.between ((groups_piece p g).entries ++ (body_entries p g ++ laid.behind)) laid.between_none
        (join_all (λ (e : Entry). atom_block e.kind ≡ None) (groups_piece p g).entries (body_entries p g ++ laid.behind) parts.0
        (join_all (λ (e : Entry). atom_block e.kind ≡ None) (body_entries p g) laid.behind parts.1 laid.behind_none))

    only_atoms : (v : ℕ) (kind : VarKind) → kind_of t v ≡ Some kind → atom_block kind ≡ Some p.block → (a : ℕ) × IsNumberOf (length g.atoms) a × (v ≡ atom_var p a)
    unfolding rest
    only_atoms zero kind e b = absurd (cc)
    only_atoms (suc k) kind e b = ⊎_elim
        (λ (old : k < p.before). absurd (laid.older_atoms k kind (sym (ap (λ vs. slice_get vs k) laid.variables ∙ slice_get_front laid.older (kinds_of (atom_entries p g ++ rest)) k (omega (arith, laid.before))) ∙ e) b))
        (λ (new : p.before ≤ k). ⊎_elim
        (λ (low : k < p.before + length g.atoms). (suc k - p.before, (omega arith, omega arith), omega arith))
        (λ (high : p.before + length g.atoms ≤ k).
        let j : ℕ = k - (p.before + length g.atoms) in
        let at : suc k ≡ p.before + length g.atoms + suc j = omega arith in
        let none : atom_block kind ≡ None = no_atom_at rest j kind rest_none (sym (later_kind j) ∙ (ap (kind_of t) (sym at) ∙ e)) in
        absurd (cc))
        (cases_lt k (p.before + length g.atoms)))
        (cases_lt k p.before)

    -- every atom behind the older variables is one of the program
    pub newer_block : (v block : ℕ) → p.before < v → block_of t v ≡ Some block → block ≡ p.block
    unfolding rest
    newer_block v block lt e = ⊎_elim
        (λ (low : v < p.before + length g.atoms + 1).
        let a : ℕ = v - p.before in
        let at : v ≡ atom_var p a = omega arith in
        let is : block_of t v ≡ Some p.block = ap (block_of t) at ∙ ap (option_and_then atom_block) (atom_kind_at a (omega arith, omega arith)) in
        cc)
        (λ (high : p.before + length g.atoms + 1 ≤ v).
        let parts = block_parts t v block e in
        let j : ℕ = v - (p.before + length g.atoms + 1) in
        let at : v ≡ p.before + length g.atoms + suc j = omega arith in
        let none : atom_block parts.0 ≡ None = no_atom_at rest j parts.0 rest_none (sym (later_kind j) ∙ (ap (kind_of t) (sym at) ∙ parts.1)) in
        let some : atom_block parts.0 ≡ Some block = parts.2 in
        absurd (cc))
        (cases_lt v (p.before + length g.atoms + 1))

    -- a variable behind the older ones is the search guard only if it stands between the atoms and the groups, or behind
    pub search_behind : (v : ℕ) → p.before < v → IsSearch t v → AreNoSearch laid.between → p.groups_from + length ((groups_piece p g).entries ++ body_entries p g) ≤ v
    unfolding rest
    search_behind v lt e between = ⊎_elim
        (λ (low : v < p.before + length g.atoms + 1).
        let a : ℕ = v - p.before in
        let at : v ≡ atom_var p a = omega arith in
        let is : kind_of t v ≡ Some (Atom p.block (supports_at p g a)) = ap (kind_of t) at ∙ atom_kind_at a (omega arith, omega arith) in
        absurd (cc))
        (λ (high : p.before + length g.atoms + 1 ≤ v).
        let j : ℕ = v - (p.before + length g.atoms + 1) in
        let at : v ≡ p.before + length g.atoms + suc j = omega arith in
        let inner : List Entry = (groups_piece p g).entries ++ body_entries p g in
        let first : AreNoSearch (laid.between ++ inner) = join_all (λ (x : Entry). x.kind ≡ Search → ⊥) laid.between inner between (no_search_defined p.groups_from inner (rest_defined p g range stand_before)) in
        let shape : rest ≡ (laid.between ++ inner) ++ laid.behind =
        ap (λ es. laid.between ++ es) (sym (append_assoc (groups_piece p g).entries (body_entries p g) laid.behind)) ∙ sym (append_assoc laid.between inner laid.behind) in
        let past : length (laid.between ++ inner) ≤ j = no_search_at (laid.between ++ inner) laid.behind j first (subst (λ es. slice_get (kinds_of es) j ≡ Some Search) shape (sym (later_kind j) ∙ (ap (kind_of t) (sym at) ∙ e))) in
        omega (arith, laid.groups, length-append laid.between inner))
        (cases_lt v (p.before + length g.atoms + 1))

    -- the variable of a rule's body
    body_kind_at : (rule : GroundRule) → In rule g.rules → kind_of t (body_lit p g rule.body.0).var.0 ≡ Some (Body (lits_of p g rule.body.0))
    unfolding body_lit body_entries bodies_from rest
    body_kind_at rule i =
        let lists : List (List Lit) = rule_bodies p g in
        let lits : List Lit = lits_of p g rule.body.0 in
        let place = place_of lists lits (rule_body_in p g rule i) in
        let k : ℕ = place_in lists lits in
        let groups : List Entry = (groups_piece p g).entries in
        let bodies : List Entry = body_entries p g in
        let from : ℕ = length laid.between + (length groups + k) in
        let at : (p.groups_from + length groups) + k ≡ p.before + length g.atoms + suc from = omega (arith, laid.groups) in
        let inside : k < length (kinds_of bodies) = omega (arith, place.0, kinds_length bodies, bodies_length_from (bodies_from p g) lists) in
        ap (kind_of t) at
        ∙ (later_kind from
        ∙ (ap (λ ks. slice_get ks from) (kinds_append laid.between (groups ++ (bodies ++ laid.behind)))
        ∙ (ap (λ n. slice_get (kinds_of laid.between ++ kinds_of (groups ++ (bodies ++ laid.behind))) (n + (length groups + k))) (sym (kinds_length laid.between))
        ∙ (slice_get_back (kinds_of laid.between) (kinds_of (groups ++ (bodies ++ laid.behind))) (length groups + k)
        ∙ (ap (λ ks. slice_get ks (length groups + k)) (kinds_append groups (bodies ++ laid.behind))
        ∙ (ap (λ n. slice_get (kinds_of groups ++ kinds_of (bodies ++ laid.behind)) (n + k)) (sym (kinds_length groups))
        ∙ (slice_get_back (kinds_of groups) (kinds_of (bodies ++ laid.behind)) k
        ∙ (ap (λ ks. slice_get ks k) (kinds_append bodies laid.behind)
        ∙ (slice_get_front (kinds_of bodies) (kinds_of laid.behind) k inside
        ∙ body_kind_from (bodies_from p g) lists k lits place.1)))))))))

    pub program_of : ((l : Lit) → In l p.joins → (u : ℕ → Bool) → AreAtomsOf t p.block u → is_internal t u l ≡ false) → IsProgramOf t p g
    program_of joined = record {
      atoms_end = omega (arith, laid.groups);
      truth_off = laid.truth_off;
      supports = λ a r. ap (option_and_then atom_supports) (atom_kind_at a r);
      block = λ a r. ap (option_and_then atom_block) (atom_kind_at a r);
      only = λ v e. let parts = block_parts t v p.block e in only_atoms v parts.0 parts.1 parts.2;
      bodies = λ rule i. (record { var = record { 0 = (body_lit p g rule.body.0).var.0 }; lits = lits_of p g rule.body.0 }, ap (option_and_then (body_row (body_lit p g rule.body.0).var.0)) (body_kind_at rule i), refl);
      joined = joined;
    }

  inner : List Entry
  inner = (groups_piece p g).entries ++ body_entries p g

  rest_shape : rest ≡ (laid.between ++ inner) ++ laid.behind
  unfolding rest inner
  rest_shape = ap (λ es. laid.between ++ es) (sym (append_assoc (groups_piece p g).entries (body_entries p g) laid.behind)) ∙ sym (append_assoc laid.between ((groups_piece p g).entries ++ body_entries p g) laid.behind)

  -- what stands behind the bodies
  pub behind_kind : (k : ℕ) → kind_of t (p.groups_from + length ((groups_piece p g).entries ++ body_entries p g) + k) ≡ slice_get (kinds_of laid.behind) k
  unfolding inner
  behind_kind k =
      let first : List Entry = laid.between ++ inner in
      let at : p.groups_from + length inner + k ≡ p.before + length g.atoms + suc (length (kinds_of first) + k) = omega (arith, laid.groups, length-append laid.between inner, kinds_length first) in
      ap (kind_of t) at
      ∙ (later_kind (length (kinds_of first) + k)
      ∙ (ap (λ es. slice_get (kinds_of es) (length (kinds_of first) + k)) rest_shape
      ∙ (ap (λ ks. slice_get ks (length (kinds_of first) + k)) (kinds_append first laid.behind)
      ∙ slice_get_back (kinds_of first) (kinds_of laid.behind) k)))

  pub variables_length : length t.variables + 1 ≡ p.groups_from + length ((groups_piece p g).entries ++ body_entries p g) + length laid.behind
  unfolding inner rest
  variables_length =
      let first : List Entry = laid.between ++ inner in
      let total : length t.variables ≡ length laid.older + length (kinds_of (atom_entries p g ++ rest)) = ap length laid.variables ∙ length-append laid.older (kinds_of (atom_entries p g ++ rest)) in
      omega (
        arith,
        total,
        kinds_length (atom_entries p g ++ rest),
        length-append (atom_entries p g) rest,
        atoms_length p g,
        ap length rest_shape,
        length-append first laid.behind,
        length-append laid.between inner,
        laid.groups,
        laid.before,
      )
