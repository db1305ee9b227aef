-- The programs of `subset` and `superset`.
use Rattle.std.specs.Prelude.{ℕ, List, [], ◌∷◌, codes}
use Rattle.pref_library.specs.Texts.{rule, yes_, not_, P, F, for_}
use Rattle.rule_form.specs.Trees.{Rule, Anything}

-- `holds` tells the formulas of the one set, and `holds'` those of the other
abbrev pub part_rules : List ℕ → List ℕ → List Rule
part_rules holds holds' =
    rule (codes "new") (P ∷ []) (yes_ (codes "preference") (P ∷ Anything ∷ Anything ∷ for_ F ∷ Anything ∷ []) ∷ yes_ holds (F ∷ []) ∷ not_ holds' (F ∷ []) ∷ [])
    ∷ rule (codes "old") (P ∷ []) (yes_ (codes "preference") (P ∷ Anything ∷ Anything ∷ for_ F ∷ Anything ∷ []) ∷ yes_ holds' (F ∷ []) ∷ not_ holds (F ∷ []) ∷ [])
    ∷ rule (codes "better") (P ∷ []) (yes_ (codes "preference") (P ∷ Anything ∷ []) ∷ yes_ (codes "old") (P ∷ []) ∷ not_ (codes "new") (P ∷ []) ∷ [])
    ∷ rule (codes "bettereq") (P ∷ []) (yes_ (codes "preference") (P ∷ Anything ∷ []) ∷ not_ (codes "new") (P ∷ []) ∷ [])
    ∷ rule (codes "eq") (P ∷ []) (yes_ (codes "preference") (P ∷ Anything ∷ []) ∷ not_ (codes "new") (P ∷ []) ∷ not_ (codes "old") (P ∷ []) ∷ [])
    ∷ []

abbrev pub subset_rules : List Rule
subset_rules = part_rules (codes "holds") (codes "holds'")

abbrev pub superset_rules : List Rule
superset_rules = part_rules (codes "holds'") (codes "holds")
