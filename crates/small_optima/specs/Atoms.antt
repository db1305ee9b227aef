-- The atoms that stand to be tried: those of a program's rules.
use Rattle.std.specs.Prelude.{ℕ, List, [], ◌∷◌, ◌++◌, map}
use Rattle.std.specs.List.{flat_map}
use Rattle.std.specs.Set.{distinct_count}
use Rattle.std.specs.Str.{bytes_eq}
use Rattle.ap_syntax.specs.declared.small.HeadForm.{HeadForm}
use Rattle.ap_syntax.specs.declared.small.HeadForm.TheVariants.{One, Choice, Nothing}
use Rattle.ap_syntax.specs.declared.small.Literal.{Literal}
use Rattle.ap_syntax.specs.declared.small.Literal.TheVariants.{Pos, Not}
use Rattle.ap_syntax.specs.declared.small.Program.{Program}
use Rattle.ap_syntax.specs.declared.small.Rule.{Rule}
use Rattle.ap_eval.specs.Reduct.{element_name, literals_of, rules_of}

abbrev pub literal_name : Literal → List ℕ
literal_name (Pos atom) = atom.name
literal_name (Not atom) = atom.name

abbrev pub head_names : HeadForm → List (List ℕ)
head_names (One atom) = atom.name ∷ []
head_names (Choice elements) = map element_name elements
head_names Nothing = []

abbrev pub rule_names : Rule → List (List ℕ)
rule_names rule = head_names rule.head ++ map literal_name (literals_of rule)

-- the names of the atoms of the rules, as often as they stand there
abbrev pub names_of : Program → List (List ℕ)
names_of p = flat_map rule_names (rules_of p)

-- how many atoms the rules have, each counted once
abbrev pub atom_count : Program → ℕ
atom_count p = distinct_count bytes_eq (names_of p)
