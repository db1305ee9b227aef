-- Rules without recursion: the name of each head has a level above those of all names in its body.
use Rattle.std.specs.Prelude.{ℕ, suc, nat_lt, Bool, false, List, [], ◌∷◌, ◌++◌, flat_map, length, if◌then◌else◌}
use Rattle.std.specs.List.{list_all}
use Rattle.std.specs.Str.{bytes_eq}
use Rattle.rule_form.specs.Trees.{Literal, Pos, Not, Compare, Element, Item, Plain, Each, Agg, Head, One, Choice, Nothing, Rule}

-- the name of the atom of a literal
abbrev pub literal_names : Literal → List (List ℕ)
literal_names (Pos atom) = atom.name ∷ []
literal_names (Not atom) = atom.name ∷ []
literal_names (Compare left rel right) = []

-- the names in a condition
abbrev pub condition_names : List Literal → List (List ℕ)
condition_names ls = flat_map literal_names ls

-- the names in a part of a body
abbrev pub item_names : Item → List (List ℕ)
item_names (Plain literal) = literal_names literal
item_names (Each literal condition) = literal_names literal ++ condition_names condition
item_names (Agg aggregate) = flat_map (λ (e : Element). condition_names e.condition) aggregate.elements

-- there is no choice and no constraint
abbrev pub head_rises : (List ℕ → ℕ) → Head → List (List ℕ) → Bool
head_rises level (One atom) names = list_all (λ name. nat_lt (level name) (level atom.name)) names
head_rises level (Choice left elements right) names = false
head_rises level Nothing names = false

-- each rule is so
abbrev pub is_layered : (List ℕ → ℕ) → List Rule → Bool
is_layered level rules = list_all (λ (rule : Rule). head_rises level rule.head (flat_map item_names rule.body)) rules

-- levels by a list of names, the highest first; any other name is at the bottom
abbrev pub level_by : List (List ℕ) → List ℕ → ℕ
level_by [] name = 0
level_by (first ∷ rest) name = if bytes_eq name first then suc (length rest) else level_by rest name
