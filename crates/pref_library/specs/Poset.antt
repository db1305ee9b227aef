-- The program of `poset`.
use Rattle.std.specs.Prelude.{List, [], ◌∷◌, codes}
use Rattle.pref_library.specs.Texts.{rule, yes_, not_, P, F, for_}
use Rattle.rule_form.specs.Trees.{Term, Variable, Anything, Rule}

abbrev pub G : Term
G = Variable (codes "G")

abbrev pub poset_rules : List Rule
poset_rules =
    rule (codes "new") (P ∷ F ∷ []) (yes_ (codes "preference") (P ∷ Anything ∷ Anything ∷ for_ F ∷ Anything ∷ []) ∷ yes_ (codes "holds") (F ∷ []) ∷ not_ (codes "holds'") (F ∷ []) ∷ [])
    ∷ rule (codes "old") (P ∷ F ∷ []) (yes_ (codes "preference") (P ∷ Anything ∷ Anything ∷ for_ F ∷ Anything ∷ []) ∷ yes_ (codes "holds'") (F ∷ []) ∷ not_ (codes "holds") (F ∷ []) ∷ [])
    ∷ rule (codes "cov") (P ∷ G ∷ []) (yes_ (codes "old") (P ∷ G ∷ []) ∷ yes_ (codes "greater") (F ∷ G ∷ []) ∷ yes_ (codes "new") (P ∷ F ∷ []) ∷ [])
    ∷ rule (codes "bad") (P ∷ []) (yes_ (codes "old") (P ∷ F ∷ []) ∷ not_ (codes "cov") (P ∷ F ∷ []) ∷ [])
    ∷ rule (codes "diff") (P ∷ []) (yes_ (codes "new") (P ∷ Anything ∷ []) ∷ [])
    ∷ rule (codes "diff") (P ∷ []) (yes_ (codes "old") (P ∷ Anything ∷ []) ∷ [])
    ∷ rule (codes "better") (P ∷ []) (yes_ (codes "preference") (P ∷ Anything ∷ []) ∷ yes_ (codes "diff") (P ∷ []) ∷ not_ (codes "bad") (P ∷ []) ∷ [])
    ∷ rule (codes "bettereq") (P ∷ []) (yes_ (codes "preference") (P ∷ Anything ∷ []) ∷ not_ (codes "bad") (P ∷ []) ∷ [])
    ∷ rule (codes "eq") (P ∷ []) (yes_ (codes "preference") (P ∷ Anything ∷ []) ∷ not_ (codes "diff") (P ∷ []) ∷ [])
    ∷ []
