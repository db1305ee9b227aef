-- Which statements name which, their levels, and the statements in use.
use Rattle.std.specs.Prelude.{◌≡◌, ◌⊎◌, ◌↔◌, ℕ, suc, ◌<◌, max, List, [], ◌∷◌, map, length, slice_index_or, AllPairs, Contains}
use Rattle.element_form.specs.Closures.{Leads}
use Rattle.element_form.specs.Preferences.{Preference, names_in}

-- the statement of the first name names the second
abbrev pub NamesIt : List Preference → List ℕ → List ℕ → Type 0
NamesIt statements a b = (p : Preference) × Contains statements p × (p.name ≡ a) × Contains (names_in p) b

-- it names it, or a statement that reaches it
abbrev pub ReachesByName : List Preference → List ℕ → List ℕ → Type 0
ReachesByName statements a b = Leads (NamesIt statements) a b

-- the greatest of these numbers, and 0 where there is none
abbrev pub greatest : List ℕ → ℕ
greatest [] = 0
greatest (n ∷ ns) = max n (greatest ns)

-- 0 where a statement names none, and else one above the greatest level that it names
abbrev pub level_over : (List ℕ → ℕ) → Preference → ℕ
level_over level p = greatest (map (λ q. suc (level q)) (names_in p))

-- the level of each statement, by its name
abbrev pub AreLevels : List Preference → (List ℕ → ℕ) → Type 0
AreLevels statements level = (p : Preference) → Contains statements p → level p.name ≡ level_over level p

-- the statement is the optimised one, or is reached from it
abbrev pub IsUsed : List Preference → List ℕ → List ℕ → Type 0
IsUsed statements optimised a = (a ≡ optimised) ⊎ ReachesByName statements optimised a

-- the statement of place i stands before that of place j: by level, then by place in the texts
abbrev pub ComesBefore : List Preference → (List ℕ → ℕ) → Preference → ℕ → ℕ → Type 0
ComesBefore statements level d i j = let a = level (slice_index_or statements i d).name in
    let b = level (slice_index_or statements j d).name in
    (a < b) ⊎ ((a ≡ b) × (i < j))

-- the places, from 0, of the statements in use, in the naming order
pub record IsNamingOrder (statements : List Preference) (level : List ℕ → ℕ) (optimised : List ℕ) (places : List ℕ) : Type 0 where
  pub used : (i : ℕ) → Contains places i ↔ ((i < length statements)
      × ((d : Preference) → IsUsed statements optimised (slice_index_or statements i d).name))
  pub ordered : (d : Preference) → AllPairs (ComesBefore statements level d) places
