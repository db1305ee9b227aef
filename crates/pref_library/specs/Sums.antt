-- The programs of `less` and `more`, of cardinality and of weight.
use Rattle.std.specs.Prelude.{ℕ, false, List, [], ◌∷◌, Some, None, codes}
use Rattle.ap_syntax.specs.declared.rules.Function.TheVariants.{Sum}
use Rattle.ap_syntax.specs.declared.terms.Rel.{Rel}
use Rattle.ap_syntax.specs.declared.terms.Rel.TheVariants.{Eq, Le}
use Rattle.pref_library.specs.Texts.{rule, yes_, yes, terms, P, F, N, W, for_, constant_, number, minus}
use Rattle.rule_form.specs.Trees.{Rule, Anything, Element, Item, Agg}

-- `n rel #sum{elements}`
abbrev pub sum_ : ℕ → Rel → List Element → Item
sum_ n rel elements = Agg (record { negated = false; left = Some (record { rel = rel; term = number n }); function = Sum; elements = elements; right = None })

abbrev pub sum_rules : List Element → List Rule
sum_rules elements =
    rule (codes "better") (P ∷ []) (yes_ (codes "preference") (P ∷ Anything ∷ []) ∷ sum_ 1 Le elements ∷ [])
    ∷ rule (codes "bettereq") (P ∷ []) (yes_ (codes "preference") (P ∷ Anything ∷ []) ∷ sum_ 0 Le elements ∷ [])
    ∷ rule (codes "eq") (P ∷ []) (yes_ (codes "preference") (P ∷ Anything ∷ []) ∷ sum_ 0 Eq elements ∷ [])
    ∷ []

-- `holds` tells the formulas whose number or weight is to be smaller, and `holds'` the others
abbrev pub weighted : List ℕ → List ℕ → List Element
weighted holds holds' =
    record { terms = terms (N ∷ W ∷ F ∷ constant_ (codes "o") ∷ []); condition = yes (codes "preference") (P ∷ Anything ∷ Anything ∷ for_ F ∷ W ∷ []) ∷ yes (codes "weight") (W ∷ N ∷ []) ∷ yes holds' (F ∷ []) ∷ [] }
    ∷ record { terms = terms (minus N ∷ W ∷ F ∷ constant_ (codes "n") ∷ []); condition = yes (codes "preference") (P ∷ Anything ∷ Anything ∷ for_ F ∷ W ∷ []) ∷ yes (codes "weight") (W ∷ N ∷ []) ∷ yes holds (F ∷ []) ∷ [] }
    ∷ []

abbrev pub counted : List ℕ → List ℕ → List Element
counted holds holds' =
    record { terms = terms (number 1 ∷ F ∷ constant_ (codes "o") ∷ []); condition = yes (codes "preference") (P ∷ Anything ∷ Anything ∷ for_ F ∷ Anything ∷ []) ∷ yes holds' (F ∷ []) ∷ [] }
    ∷ record { terms = terms (minus (number 1) ∷ F ∷ constant_ (codes "n") ∷ []); condition = yes (codes "preference") (P ∷ Anything ∷ Anything ∷ for_ F ∷ Anything ∷ []) ∷ yes holds (F ∷ []) ∷ [] }
    ∷ []

abbrev pub less_weight_rules : List Rule
less_weight_rules = sum_rules (weighted (codes "holds") (codes "holds'"))

abbrev pub more_weight_rules : List Rule
more_weight_rules = sum_rules (weighted (codes "holds'") (codes "holds"))

abbrev pub less_cardinality_rules : List Rule
less_cardinality_rules = sum_rules (counted (codes "holds") (codes "holds'"))

abbrev pub more_cardinality_rules : List Rule
more_cardinality_rules = sum_rules (counted (codes "holds'") (codes "holds"))
