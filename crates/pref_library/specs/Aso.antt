-- The program of `aso`.
use Rattle.std.specs.Prelude.{ℕ, List, [], ◌∷◌, ◌++◌, codes}
use Rattle.ap_syntax.specs.declared.terms.Rel.{Rel}
use Rattle.ap_syntax.specs.declared.terms.Rel.TheVariants.{Gt, Lt}
use Rattle.pref_library.specs.Texts.{rule, yes_, not_, P, F, for_, number}
use Rattle.rule_form.specs.Trees.{Term, Variable, Anything, Rule, Item, Plain, Compare}

abbrev pub I : Term
I = Variable (codes "I")

abbrev pub R : Term
R = Variable (codes "R")

abbrev pub S : Term
S = Variable (codes "S")

abbrev pub compare_ : Term → Rel → Term → Item
compare_ a rel b = Plain (Compare a rel b)

-- the names of one side
pub record Names : Type 0 where
  pub act : List ℕ
  pub hit : List ℕ
  pub early : List ℕ
  pub deg : List ℕ
  pub some : List ℕ
  pub holds : List ℕ

abbrev pub side_rules : Names → List Rule
side_rules n =
    rule n.act (P ∷ I ∷ []) (yes_ (codes "preference") (P ∷ I ∷ number 0 ∷ for_ F ∷ Anything ∷ []) ∷ yes_ n.holds (F ∷ []) ∷ [])
    ∷ rule n.act (P ∷ I ∷ []) (yes_ (codes "preference") (P ∷ I ∷ number 1 ∷ Anything ∷ Anything ∷ []) ∷ not_ (codes "cond") (P ∷ I ∷ []) ∷ [])
    ∷ rule n.hit (P ∷ I ∷ R ∷ []) (yes_ (codes "preference") (P ∷ I ∷ R ∷ for_ F ∷ Anything ∷ []) ∷ compare_ R Gt (number 0) ∷ yes_ n.act (P ∷ I ∷ []) ∷ yes_ n.holds (F ∷ []) ∷ [])
    ∷ rule n.early (P ∷ I ∷ R ∷ []) (yes_ (codes "preference") (P ∷ I ∷ R ∷ Anything ∷ Anything ∷ []) ∷ yes_ n.hit (P ∷ I ∷ S ∷ []) ∷ compare_ S Lt R ∷ [])
    ∷ rule n.deg (P ∷ I ∷ R ∷ []) (yes_ n.hit (P ∷ I ∷ R ∷ []) ∷ not_ n.early (P ∷ I ∷ R ∷ []) ∷ [])
    ∷ rule n.deg (P ∷ I ∷ number 1 ∷ []) (yes_ (codes "preference") (P ∷ I ∷ number 1 ∷ Anything ∷ Anything ∷ []) ∷ not_ n.some (P ∷ I ∷ []) ∷ [])
    ∷ []

abbrev pub aso_rules : List Rule
aso_rules =
    side_rules (record { act = codes "act"; hit = codes "hit"; early = codes "early"; deg = codes "deg"; some = codes "some"; holds = codes "holds" })
    ++ (side_rules (record { act = codes "act'"; hit = codes "hit'"; early = codes "early'"; deg = codes "deg'"; some = codes "some'"; holds = codes "holds'" })
    ++ (rule (codes "some") (P ∷ I ∷ []) (yes_ (codes "hit") (P ∷ I ∷ Anything ∷ []) ∷ [])
    ∷ rule (codes "some'") (P ∷ I ∷ []) (yes_ (codes "hit'") (P ∷ I ∷ Anything ∷ []) ∷ [])
    ∷ rule (codes "cond") (P ∷ I ∷ []) (yes_ (codes "preference") (P ∷ I ∷ number 0 ∷ Anything ∷ Anything ∷ []) ∷ [])
    ∷ rule (codes "up") (P ∷ []) (yes_ (codes "deg") (P ∷ I ∷ R ∷ []) ∷ yes_ (codes "deg'") (P ∷ I ∷ S ∷ []) ∷ compare_ R Lt S ∷ [])
    ∷ rule (codes "down") (P ∷ []) (yes_ (codes "deg") (P ∷ I ∷ R ∷ []) ∷ yes_ (codes "deg'") (P ∷ I ∷ S ∷ []) ∷ compare_ R Gt S ∷ [])
    ∷ rule (codes "better") (P ∷ []) (yes_ (codes "preference") (P ∷ Anything ∷ []) ∷ yes_ (codes "up") (P ∷ []) ∷ not_ (codes "down") (P ∷ []) ∷ [])
    ∷ rule (codes "bettereq") (P ∷ []) (yes_ (codes "preference") (P ∷ Anything ∷ []) ∷ not_ (codes "down") (P ∷ []) ∷ [])
    ∷ rule (codes "eq") (P ∷ []) (yes_ (codes "preference") (P ∷ Anything ∷ []) ∷ not_ (codes "up") (P ∷ []) ∷ not_ (codes "down") (P ∷ []) ∷ [])
    ∷ []))
