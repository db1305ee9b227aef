-- The atoms of the base of a theory.
use Rattle.std.proofs.Common.{◌≡◌, ℕ, zero, suc, ◌+◌, ◌<◌, ◌≤◌, Bool, true, false, cond, List, [], ◌∷◌, ◌++◌, length, map, take, drop, get_or, refl, sym, ◌∙◌, ap, arith, Option, append-nil, append_assoc, length-take, take-append-drop}
use Rattle.std.specs.List.{All, prefix_len, range_with_len}
use Rattle.std.proofs.lemmas.List.{length-map, map-append}
use Rattle.std.proofs.lemmas.List.Elements.{All-head, All-tail, All-map}
use Rattle.std.proofs.lemmas.List.Folds.{length-prefix_len}
use Rattle.std.proofs.lemmas.List.FromFn.{length-map-range_with_len}
use Rattle.std.proofs.lemmas.List.Sums.{prefix_len_is}
use Rattle.theory_form.specs.declared.literals.Lit.{Lit}
use Rattle.theory_form.specs.declared.rows.VarKind.{VarKind}
use Rattle.theory_form.specs.declared.rows.VarKind.TheVariants.{Atom, Sum, Body, Search, Other}
use Rattle.theory_form.specs.Theories.{TheoryView, Extends}
use Rattle.ground_form.specs.Programs.{Parts}
use Rattle.theory_build.specs.declared.entries.Entry.{Entry}
use Rattle.theory_build.specs.Atoms.{atom_entry, atom_entries}
use Rattle.theory_build.specs.Bodies.{body_entries}
use Rattle.theory_build.specs.Completion.{HasBase, base_atoms, base_entries, base_theory, is_atom, kinds_of, with_program}
use Rattle.theory_build.specs.Entries.{truth_entry, search_entry}
use Rattle.theory_build.specs.Frames.{base_frame}
use Rattle.theory_build.specs.Groups.{groups_piece}

-- n variables that are atoms, and then one that is none, or the end
pub base_atoms_are : (t : TheoryView) (n : ℕ) (d : VarKind) → n ≤ length t.variables → ((k : ℕ) → k < n → is_atom (get_or t.variables k d) ≡ true) → (n < length t.variables → is_atom (get_or t.variables n d) ≡ false) → n ≡ base_atoms t
unfolding base_atoms
base_atoms_are t n d upto atoms stops =
    sym (length-prefix_len is_atom t.variables ∙ prefix_len_is is_atom t.variables n d upto atoms stops)

-- ---- theories that begin with a base theory

-- a list is a beginning of itself with more behind it
take_front : {A : Type 0} (xs ys : List A) → take (length xs) (xs ++ ys) ≡ xs
take_front [] ys = refl
take_front (x ∷ xs) ys = ap (λ zs. x ∷ zs) (take_front xs ys)

take_twice : {A : Type 0} (m n : ℕ) (xs : List A) → m ≤ n → take m (take n xs) ≡ take m xs
take_twice zero n xs upto = refl
take_twice (suc m) zero xs upto = absurd (omega arith)
take_twice (suc m) (suc n) [] upto = refl
take_twice (suc m) (suc n) (x ∷ xs) upto = ap (λ zs. x ∷ zs) (take_twice m n xs (omega arith))

begins_twice : {A : Type 0} (xs ys zs : List A) → take (length xs) ys ≡ xs → take (length ys) zs ≡ ys → take (length xs) zs ≡ xs
begins_twice xs ys zs first second =
    let n : length xs ≤ length ys = let m = length-take (length xs) ys in let e = ap length first in omega arith in
    sym (take_twice (length xs) (length ys) zs n) ∙ ap (take (length xs)) second ∙ first

pub extends_twice : (t u v : TheoryView) → Extends t u → Extends u v → Extends t v
extends_twice t u v a b = record {
  variables = begins_twice t.variables u.variables v.variables a.variables b.variables;
  clauses = begins_twice t.clauses u.clauses v.clauses a.clauses b.clauses;
  blocks = let x = a.blocks in let y = b.blocks in omega arith;
}

-- a theory with more variables and clauses, and no fewer programs
pub extends_more : (t u : TheoryView) (variables : List VarKind) (clauses : List (Option (List Lit))) → u.variables ≡ t.variables ++ variables → u.clauses ≡ t.clauses ++ clauses → t.blocks ≤ u.blocks → Extends t u
extends_more t u variables clauses variables_are clauses_are blocks = record {
  variables = ap (take (length t.variables)) variables_are ∙ take_front t.variables variables;
  clauses = ap (take (length t.clauses)) clauses_are ∙ take_front t.clauses clauses;
  blocks = blocks;
}

pub extends_itself : (t u : TheoryView) → u ≡ t → Extends t u
extends_itself t u e =
    extends_more t u [] [] (ap (λ (v : TheoryView). v.variables) e ∙ sym (append-nil t.variables)) (ap (λ (v : TheoryView). v.clauses) e ∙ sym (append-nil t.clauses)) (let b = ap (λ (v : TheoryView). v.blocks) e in omega arith)

-- what `complete` answers has a base
pub base_itself : (t : TheoryView) (g : Parts) → t ≡ base_theory g → HasBase t
base_itself t g e = record { base = g; begins = extends_itself (base_theory g) t e }

-- what extends a theory with a base has it too
pub base_kept : (t u : TheoryView) → HasBase t → Extends t u → HasBase u
base_kept t u h more = record { base = h.base; begins = extends_twice (base_theory h.base) t u h.begins more }

pub program_extends : (t : TheoryView) (g : Parts) (joins : List Lit) → Extends t (with_program t g joins)
unfolding with_program
program_extends t g joins = extends_more t _ _ _ refl refl (omega arith)

pub clause_extends : (t u : TheoryView) (c : Option (List Lit)) → u ≡ record t { clauses = t.clauses ++ c ∷ [] } → Extends t u
clause_extends t u c e =
    extends_more t u [] (c ∷ []) (ap (λ (v : TheoryView). v.variables) e ∙ sym (append-nil t.variables)) (ap (λ (v : TheoryView). v.clauses) e) (let b = ap (λ (v : TheoryView). v.blocks) e in omega arith)

-- ---- the atoms of the base

prefix_then : (xs ys : List VarKind) (y : VarKind) → All (λ k. is_atom k ≡ true) xs → is_atom y ≡ false → prefix_len is_atom (xs ++ y ∷ ys) ≡ length xs
prefix_then [] ys y all none = ap (λ b. cond b (1 + prefix_len is_atom ys) 0) none
prefix_then (x ∷ xs) ys y all none =
    let rest = prefix_then xs ys y (All-tail (λ k. is_atom k ≡ true) x xs all) none in
    let first = All-head (λ k. is_atom k ≡ true) x xs all in
    ap (λ b. cond b (1 + prefix_len is_atom (xs ++ y ∷ ys)) 0) first ∙ (let e : 1 + prefix_len is_atom (xs ++ y ∷ ys) ≡ suc (length xs) = omega arith in e)

-- where a theory begins with the base theory of a program, its first variables are that program's atoms
pub base_atoms_is : (t : TheoryView) (g : Parts) → Extends (base_theory g) t → base_atoms t ≡ length g.atoms
unfolding base_atoms base_theory base_entries atom_entries atom_entry
base_atoms_is t g h =
    let p = base_frame g in
    let atoms = map (atom_entry p g) (range_with_len 1 (length g.atoms)) in
    let rest = (groups_piece p g).entries ++ (body_entries p g ++ search_entry ∷ []) in
    let variables = kinds_of (base_entries p g) in
    let split : variables ≡ kinds_of atoms ++ Other ∷ kinds_of rest = map-append (λ (e : Entry). e.kind) atoms (truth_entry p.truth ∷ rest) in
    let whole : t.variables ≡ kinds_of atoms ++ Other ∷ (kinds_of rest ++ drop (length variables) t.variables) =
    sym (take-append-drop (length variables) t.variables)
    ∙ ap (λ xs. xs ++ drop (length variables) t.variables) (h.variables ∙ split)
    ∙ append_assoc (kinds_of atoms) (Other ∷ kinds_of rest) (drop (length variables) t.variables)
    in
    let are_atoms : All (λ k. is_atom k ≡ true) (kinds_of atoms) =
    All-map (λ k. is_atom k ≡ true) (λ (e : Entry). e.kind) atoms
    (All-map (λ (e : Entry). is_atom e.kind ≡ true) (atom_entry p g) (range_with_len 1 (length g.atoms)) (λ k d within. refl))
    in
    let count : length (kinds_of atoms) ≡ length g.atoms =
    length-map atoms (λ (e : Entry). e.kind) ∙ length-map-range_with_len (atom_entry p g) 1 (length g.atoms)
    in
    length-prefix_len is_atom t.variables
    ∙ ap (prefix_len is_atom) whole
    ∙ prefix_then (kinds_of atoms) (kinds_of rest ++ drop (length variables) t.variables) Other are_atoms refl
    ∙ count

-- the base theory of a program has its atoms
pub base_atoms_of : (t : TheoryView) (g : Parts) → t ≡ base_theory g → base_atoms t ≡ length g.atoms
base_atoms_of t g e = base_atoms_is t g (extends_itself (base_theory g) t e)
