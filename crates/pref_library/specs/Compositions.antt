-- The programs of `pareto`, `and` and `neg`. That of `lexico` stands apart.
use Rattle.std.specs.Prelude.{ℕ, List, [], ◌∷◌, codes}
use Rattle.pref_library.specs.Texts.{rule, yes_, yes, P, Q, name_}
use Rattle.rule_form.specs.Trees.{Anything, Rule, Each}

abbrev pub named_rule : Rule
named_rule = rule (codes "named") (P ∷ Q ∷ []) (yes_ (codes "preference") (P ∷ Anything ∷ Anything ∷ name_ Q ∷ Anything ∷ []) ∷ [])

-- `head(P) :- preference(P,_), relation(Q) : named(P,Q).`
abbrev pub in_all : List ℕ → List ℕ → Rule
in_all head relation = rule head (P ∷ []) (yes_ (codes "preference") (P ∷ Anything ∷ []) ∷ Each (yes relation (Q ∷ [])) (yes (codes "named") (P ∷ Q ∷ []) ∷ []) ∷ [])

-- the two rules on bettereq
abbrev pub either_rules : List Rule
either_rules =
    rule (codes "bettereq") (P ∷ []) (yes_ (codes "preference") (P ∷ Anything ∷ []) ∷ yes_ (codes "better") (P ∷ []) ∷ [])
    ∷ rule (codes "bettereq") (P ∷ []) (yes_ (codes "preference") (P ∷ Anything ∷ []) ∷ yes_ (codes "eq") (P ∷ []) ∷ [])
    ∷ []

abbrev pub pareto_rules : List Rule
pareto_rules =
    named_rule
    ∷ in_all (codes "bettereq") (codes "bettereq_in")
    ∷ rule (codes "better") (P ∷ []) (yes_ (codes "bettereq") (P ∷ []) ∷ yes_ (codes "named") (P ∷ Q ∷ []) ∷ yes_ (codes "better_in") (Q ∷ []) ∷ [])
    ∷ in_all (codes "eq") (codes "eq_in")
    ∷ []

abbrev pub and_rules : List Rule
and_rules = named_rule ∷ in_all (codes "eq") (codes "eq_in") ∷ in_all (codes "better") (codes "better_in") ∷ either_rules

abbrev pub neg_rules : List Rule
neg_rules =
    rule (codes "better") (P ∷ []) (yes_ (codes "preference") (P ∷ Anything ∷ Anything ∷ name_ Q ∷ Anything ∷ []) ∷ yes_ (codes "worse_in") (Q ∷ []) ∷ [])
    ∷ rule (codes "eq") (P ∷ []) (yes_ (codes "preference") (P ∷ Anything ∷ Anything ∷ name_ Q ∷ Anything ∷ []) ∷ yes_ (codes "eq_in") (Q ∷ []) ∷ [])
    ∷ either_rules
