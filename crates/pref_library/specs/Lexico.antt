-- The program of `lexico`.
use Rattle.std.specs.Prelude.{List, [], ◌∷◌, codes}
use Rattle.ap_syntax.specs.declared.terms.Rel.TheVariants.{Gt}
use Rattle.pref_library.specs.Texts.{rule, yes_, yes, P, Q, N, W, name_}
use Rattle.rule_form.specs.Trees.{Term, Variable, Anything, Literal, Compare, Rule, Item, Each}

abbrev pub M : Term
M = Variable (codes "M")

abbrev pub each_ : Literal → List Literal → Item
each_ l condition = Each l condition

abbrev pub lexico_rules : List Rule
lexico_rules =
    rule (codes "at") (P ∷ Q ∷ N ∷ []) (yes_ (codes "preference") (P ∷ Anything ∷ Anything ∷ name_ Q ∷ W ∷ []) ∷ yes_ (codes "weight") (W ∷ N ∷ []) ∷ [])
    ∷ rule (codes "level") (P ∷ N ∷ []) (yes_ (codes "at") (P ∷ Anything ∷ N ∷ []) ∷ [])
    ∷ rule (codes "tied") (P ∷ N ∷ []) (yes_ (codes "level") (P ∷ N ∷ []) ∷ each_ (yes (codes "eq_in") (Q ∷ [])) (yes (codes "at") (P ∷ Q ∷ M ∷ []) ∷ Compare M Gt N ∷ []) ∷ [])
    ∷ rule (codes "fine") (P ∷ N ∷ []) (yes_ (codes "level") (P ∷ N ∷ []) ∷ each_ (yes (codes "bettereq_in") (Q ∷ [])) (yes (codes "at") (P ∷ Q ∷ N ∷ []) ∷ []) ∷ [])
    ∷ rule (codes "better") (P ∷ []) (yes_ (codes "at") (P ∷ Q ∷ N ∷ []) ∷ yes_ (codes "better_in") (Q ∷ []) ∷ yes_ (codes "fine") (P ∷ N ∷ []) ∷ yes_ (codes "tied") (P ∷ N ∷ []) ∷ [])
    ∷ rule (codes "eq") (P ∷ []) (yes_ (codes "preference") (P ∷ Anything ∷ []) ∷ each_ (yes (codes "eq_in") (Q ∷ [])) (yes (codes "at") (P ∷ Q ∷ Anything ∷ []) ∷ []) ∷ [])
    ∷ rule (codes "bettereq") (P ∷ []) (yes_ (codes "preference") (P ∷ Anything ∷ []) ∷ yes_ (codes "better") (P ∷ []) ∷ [])
    ∷ rule (codes "bettereq") (P ∷ []) (yes_ (codes "preference") (P ∷ Anything ∷ []) ∷ yes_ (codes "eq") (P ∷ []) ∷ [])
    ∷ []
