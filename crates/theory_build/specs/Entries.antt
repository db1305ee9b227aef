-- Literals, clauses, and variables with the clauses that come with them.
use Rattle.std.specs.Prelude.{ℕ, ℤ, Bool, true, false, if◌then◌else◌, List, [], ◌∷◌, ◌++◌, map}
use Rattle.theory_form.specs.declared.literals.Lit.{Lit}
use Rattle.theory_form.specs.declared.literals.Var.{Var}
use Rattle.theory_form.specs.declared.rows.VarKind.{VarKind}
use Rattle.theory_form.specs.declared.rows.VarKind.TheVariants.{Atom, Sum, Body, Search, Other}
use Rattle.theory_form.specs.Literals.{lit_cmp, opposite}
use Rattle.theory_build.specs.declared.entries.Entry.{Entry}
use Rattle.theory_build.specs.Ascending.{ascending}

-- the variable, and its negation
abbrev pub yes : ℕ → Lit
yes v = record { var = record { 0 = v }; yes = true }

abbrev pub no : ℕ → Lit
no v = record { var = record { 0 = v }; yes = false }

-- the literal, or its negation
abbrev pub signed : Bool → Lit → Lit
signed positive l = if positive then l else opposite l

-- the clause of these literals
abbrev pub clause : List Lit → List Lit
clause lits = ascending lit_cmp lits

-- v is the conjunction of l1, .., lk: {-v, li} for each i, and then {v, -l1, .., -lk}
abbrev pub conjunction : ℕ → List Lit → List (List Lit)
conjunction v lits = map (λ l. clause (no v ∷ l ∷ [])) lits ++ clause (yes v ∷ map opposite lits) ∷ []

-- v is true where a literal of the first list is, and only where one of the second is: {v, -l} for each l of the first, and
-- then {-v} with all of the second
abbrev pub support_clauses : ℕ → List Lit → List Lit → List (List Lit)
support_clauses v forcing supports = map (λ l. clause (yes v ∷ opposite l ∷ [])) forcing ++ clause (no v ∷ supports) ∷ []

-- v is the disjunction of l1, .., lk: {v, -li} for each i, and then {-v, l1, .., lk}
abbrev pub disjunction : ℕ → List Lit → List (List Lit)
disjunction v lits = support_clauses v lits lits

-- ---- a variable v

-- of which the clauses say all: that it is such a conjunction, or such a disjunction
abbrev pub all_of : ℕ → List Lit → Entry
all_of v lits = record { kind = Other; clauses = conjunction v lits }

abbrev pub any_of : ℕ → List Lit → Entry
any_of v lits = record { kind = Other; clauses = disjunction v lits }

-- for that a sum reaches a bound; it has no clauses
abbrev pub reaches : List (ℤ × Var) → ℤ → Entry
reaches terms bound = record { kind = Sum terms bound; clauses = [] }

-- for a body
abbrev pub body_entry : ℕ → List Lit → Entry
body_entry v lits = record { kind = Body lits; clauses = conjunction v lits }

-- that is true
abbrev pub truth_entry : ℕ → Entry
truth_entry v = record { kind = Other; clauses = (yes v ∷ []) ∷ [] }

-- that is the search guard; it has no clauses
abbrev pub search_entry : Entry
search_entry = record { kind = Search; clauses = [] }
