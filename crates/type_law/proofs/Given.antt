-- What the facts of a statement tell in an answer set of rules that have none of them in a head.
use Rattle.std.proofs.Common.{◌≡◌, Bool, true, false, List, [], IsTrue, refl, subst}
use Rattle.std.specs.Prelude.{codes}
use Rattle.std.proofs.lemmas.Bool.{false≢true}
use Rattle.ap_term.specs.Value.{Value, compound, none, also}
use Rattle.rule_form.specs.AnswerSets.{IsAnswerSet}
use Rattle.rule_form.specs.Trees.{Rule}
use Rattle.rule_form.specs.Truth.{AtomSet}
use Rattle.rule_form.specs.Unfolded.{Gives, named, When}
use Rattle.rule_form.proofs.Rules.{by_fact}
use Rattle.rule_form.proofs.Tells.{Tells, by_facts}
use Rattle.element_form.specs.Ground.{Statement, HasName, kind_term, is_of}
use Rattle.element_form.specs.Flips.{IsPath}
use Rattle.element_form.specs.Greater.{IsGreater}
use Rattle.element_form.specs.States.{is_net, is_state, has_bit}
use Rattle.pref_kinds.specs.declared.built_in.BuiltIn.TheVariants.{Poset, Cp}
use Rattle.element_form.specs.Facts.{Asked, IsAskedFor, IsElementFact, IsWeight, IsFact}

-- no rule has a fact's name in its head
pub record IsFree (rules : List Rule) : Type 0 where
  pub preference : named (codes "preference") rules ≡ []
  pub weight : named (codes "weight") rules ≡ []
  pub holds : named (codes "holds") rules ≡ []
  pub holds' : named (codes "holds'") rules ≡ []
  pub better_in : named (codes "better_in") rules ≡ []
  pub bettereq_in : named (codes "bettereq_in") rules ≡ []
  pub eq_in : named (codes "eq_in") rules ≡ []
  pub worse_in : named (codes "worse_in") rules ≡ []
  pub worseeq_in : named (codes "worseeq_in") rules ≡ []
  pub greater : named (codes "greater") rules ≡ []
  pub net : named (codes "net") rules ≡ []
  pub state : named (codes "state") rules ≡ []
  pub bit : named (codes "bit") rules ≡ []
  pub path : named (codes "path") rules ≡ []

-- facts that are there for one type
where_so : {c b : Bool} {P : Type 0} → IsTrue b → Tells c (When b P) → Tells c P
where_so {b = true} is t = t
where_so {b = false} is t = absurd (false≢true is)

no_rules : (z : AtomSet) (rules : List Rule) (a : Value) → rules ≡ [] → Gives z rules a → ⊥
no_rules z rules a e g = subst (λ rs. Gives z rs a) e g

module _ (rules : List Rule) (free : IsFree rules) (st : Statement) (asked : Asked) (z : AtomSet) (answer : IsAnswerSet rules (IsFact st asked) z) where
  pub declared : IsTrue (z (compound (codes "preference") (also st.name (also (kind_term st.kind) none))))
  declared = by_fact rules (IsFact st asked) z answer (compound (codes "preference") (also st.name (also (kind_term st.kind) none))) (refl, refl)

  pub element_is : (p i r t w : Value) → Tells (z (compound (codes "preference") (also p (also i (also r (also t (also w none))))))) ((p ≡ st.name) × IsElementFact st i r t w)
  element_is p i r t w = let a = compound (codes "preference") (also p (also i (also r (also t (also w none))))) in
      by_facts rules (IsFact st asked) z answer a (no_rules z (named (codes "preference") rules) a free.preference)

  pub weight_is : (w n : Value) → Tells (z (compound (codes "weight") (also w (also n none)))) (IsWeight st (also w (also n none)))
  weight_is w n = let a = compound (codes "weight") (also w (also n none)) in by_facts rules (IsFact st asked) z answer a (no_rules z (named (codes "weight") rules) a free.weight)

  pub new_is : (f : Value) → Tells (z (compound (codes "holds") (also f none))) (IsAskedFor st f × IsTrue (asked.new f))
  new_is f = let a = compound (codes "holds") (also f none) in by_facts rules (IsFact st asked) z answer a (no_rules z (named (codes "holds") rules) a free.holds)

  pub old_is : (f : Value) → Tells (z (compound (codes "holds'") (also f none))) (IsAskedFor st f × IsTrue (asked.old f))
  old_is f = let a = compound (codes "holds'") (also f none) in by_facts rules (IsFact st asked) z answer a (no_rules z (named (codes "holds'") rules) a free.holds')

  pub better_in_is : (q : Value) → Tells (z (compound (codes "better_in") (also q none))) (HasName st q × IsTrue (asked.better q))
  better_in_is q = let a = compound (codes "better_in") (also q none) in by_facts rules (IsFact st asked) z answer a (no_rules z (named (codes "better_in") rules) a free.better_in)

  pub bettereq_in_is : (q : Value) → Tells (z (compound (codes "bettereq_in") (also q none))) (HasName st q × IsTrue (asked.bettereq q))
  bettereq_in_is q = let a = compound (codes "bettereq_in") (also q none) in by_facts rules (IsFact st asked) z answer a (no_rules z (named (codes "bettereq_in") rules) a free.bettereq_in)

  pub eq_in_is : (q : Value) → Tells (z (compound (codes "eq_in") (also q none))) (HasName st q × IsTrue (asked.eq q))
  eq_in_is q = let a = compound (codes "eq_in") (also q none) in by_facts rules (IsFact st asked) z answer a (no_rules z (named (codes "eq_in") rules) a free.eq_in)

  pub worse_in_is : (q : Value) → Tells (z (compound (codes "worse_in") (also q none))) (HasName st q × IsTrue (asked.worse q))
  worse_in_is q = let a = compound (codes "worse_in") (also q none) in by_facts rules (IsFact st asked) z answer a (no_rules z (named (codes "worse_in") rules) a free.worse_in)

  -- facts of `poset`
  pub greater_is : IsTrue (is_of Poset st) → (v w : Value) → Tells (z (compound (codes "greater") (also v (also w none)))) (IsGreater st v w)
  greater_is is v w = let a = compound (codes "greater") (also v (also w none)) in
      where_so is (by_facts rules (IsFact st asked) z answer a (no_rules z (named (codes "greater") rules) a free.greater))

  -- facts of `cp`
  pub bit_is : IsTrue (is_of Cp st) → (v w : Value) → Tells (z (compound (codes "bit") (also v (also w none)))) (IsTrue (is_state st v) × IsTrue (has_bit st v w))
  bit_is is v w = let a = compound (codes "bit") (also v (also w none)) in
      where_so is (by_facts rules (IsFact st asked) z answer a (no_rules z (named (codes "bit") rules) a free.bit))

  pub path_is : IsTrue (is_of Cp st) → (v w : Value) → Tells (z (compound (codes "path") (also v (also w none)))) (IsPath st v w)
  path_is is v w = let a = compound (codes "path") (also v (also w none)) in
      where_so is (by_facts rules (IsFact st asked) z answer a (no_rules z (named (codes "path") rules) a free.path))

  pub net_is : IsTrue (is_of Cp st) → (v : Value) → Tells (z (compound (codes "net") (also v none))) (IsTrue (is_net st v))
  net_is is v = let a = compound (codes "net") (also v none) in
      where_so is (by_facts rules (IsFact st asked) z answer a (no_rules z (named (codes "net") rules) a free.net))

  pub state_is : IsTrue (is_of Cp st) → (v : Value) → Tells (z (compound (codes "state") (also v none))) (IsTrue (is_state st v))
  state_is is v = let a = compound (codes "state") (also v none) in
      where_so is (by_facts rules (IsFact st asked) z answer a (no_rules z (named (codes "state") rules) a free.state))
