-- How many total assignments make all clauses true.
use Rattle.std.specs.Prelude.{◌≡◌, ℕ, zero, suc, ◌+◌, ◌==◌, Bool, true, false, ◌&&◌, if◌then◌else◌, List, [], ◌∷◌, Option, Some, None, slice_index_or}
use Rattle.theory_form.specs.declared.literals.Lit.{Lit}
use Rattle.theory_model.specs.Truth.{clause_true}

-- every clause that is there is true
abbrev pub all_true : List (Option (List Lit)) → (ℕ → Bool) → Bool
all_true [] f = true
all_true (None ∷ cs) f = all_true cs f
all_true (Some c ∷ cs) f = clause_true f c && all_true cs f

-- the test with one more value
abbrev pub with_value : (ℕ → Bool) → ℕ → Bool → ℕ → Bool
with_value f v y w = if w == v then y else f w

-- how many values of the variables below a number make every clause true, where the others have those of f
abbrev pub models : List (Option (List Lit)) → ℕ → (ℕ → Bool) → ℕ
models cs zero f = if all_true cs f then 1 else 0
models cs (suc v) f = models cs v (with_value f v true) + models cs v (with_value f v false)

-- how many there are, where no variable has a number from v on
unfoldable pub model_count : List (Option (List Lit)) → ℕ → ℕ
model_count cs v = models cs v (λ w. false)

-- each clause of the first list stands at its place in the second
abbrev pub HasAll : List (Option (List Lit)) → List (Option (List Lit)) → Type 0
HasAll cs ds = (id : ℕ) (c : List Lit) → slice_index_or cs id None ≡ Some c → slice_index_or ds id None ≡ Some c
