-- The program of `cp`.
use Rattle.std.specs.Prelude.{ℕ, List, [], ◌∷◌, ◌++◌, codes}
use Rattle.pref_library.specs.Compositions.{either_rules}
use Rattle.pref_library.specs.Texts.{rule, yes_, not_, P}
use Rattle.rule_form.specs.Trees.{Term, Variable, Anything, Rule}

abbrev pub U : Term
U = Variable (codes "U")

abbrev pub V : Term
V = Variable (codes "V")

abbrev pub A : Term
A = Variable (codes "A")

abbrev pub off_rules : List ℕ → List ℕ → List Rule
off_rules off holds =
    rule off (U ∷ []) (yes_ (codes "state") (U ∷ []) ∷ yes_ (codes "net") (A ∷ []) ∷ yes_ holds (A ∷ []) ∷ not_ (codes "bit") (U ∷ A ∷ []) ∷ [])
    ∷ rule off (U ∷ []) (yes_ (codes "bit") (U ∷ A ∷ []) ∷ not_ holds (A ∷ []) ∷ [])
    ∷ []

abbrev pub cp_rules : List Rule
cp_rules =
    off_rules (codes "off") (codes "holds") ++ (off_rules (codes "off'") (codes "holds'") ++ (
    rule (codes "better") (P ∷ []) (yes_ (codes "preference") (P ∷ Anything ∷ []) ∷ yes_ (codes "path") (U ∷ V ∷ []) ∷ not_ (codes "off'") (U ∷ []) ∷ not_ (codes "off") (V ∷ []) ∷ [])
    ∷ rule (codes "eq") (P ∷ []) (yes_ (codes "preference") (P ∷ Anything ∷ []) ∷ yes_ (codes "state") (U ∷ []) ∷ not_ (codes "off") (U ∷ []) ∷ not_ (codes "off'") (U ∷ []) ∷ [])
    ∷ either_rules))
