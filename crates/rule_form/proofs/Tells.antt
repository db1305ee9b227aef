-- A test that tells a statement: it is true where the statement holds, and where it is true the statement is not refuted.
use Rattle.std.proofs.Common.{Bool, List, IsTrue, IsFalse, sym, ◌∙◌}
use Rattle.std.specs.Prelude.{◌↔◌}
use Rattle.std.proofs.lemmas.Bool.{false≢true, false_from_ne_true}
use Rattle.ap_term.specs.Value.{Value}
use Rattle.rule_form.specs.AnswerSets.{IsAnswerSet}
use Rattle.rule_form.specs.Trees.{Rule}
use Rattle.rule_form.specs.Truth.{AtomSet}
use Rattle.rule_form.specs.Unfolded.{Gives, atom_name, named}
use Rattle.rule_form.proofs.Rules.{by_fact, by_rule, why}
use Rattle.rule_form.proofs.Stable.{IsSettled}

abbrev pub Tells : Bool → Type 0 → Type 0
Tells b U = (U → IsTrue b) × (IsTrue b → (U → ⊥) → ⊥)

-- from a test that is true
pub take : {b : Bool} {U : Type 0} (G : Type 0) → Tells b U → IsTrue b → IsSettled G → (U → G) → G
take G t e settled f = settled (λ deny. t.1 e (λ u. deny (f u)))

pub is_false : {b : Bool} {U : Type 0} → Tells b U → (U → ⊥) → IsFalse b
is_false {b = b} t deny = false_from_ne_true b (λ e. t.1 e deny)

pub from_false : {b : Bool} {U : Type 0} → Tells b U → IsFalse b → U → ⊥
from_false t e u = false≢true (sym e ∙ t.0 u)

-- the same in other words
pub retell : {b : Bool} {U V : Type 0} → Tells b U → (U → (V → ⊥) → ⊥) → (V → U) → Tells b V
retell t there back = (λ v. t.0 (back v), λ e deny. t.1 e (λ u. there u deny))

pub exactly : {b : Bool} {P : Type 0} → Tells b P → IsSettled P → IsTrue b ↔ P
exactly t settled = (λ e. settled (t.1 e), t.0)

pub settled_empty : IsSettled ⊥
settled_empty deny = deny (λ e. e)

module _ (rules : List Rule) (facts : Value → Type 0) (z : AtomSet) (answer : IsAnswerSet rules facts z) where
  -- an atom that is no fact: what gives it
  pub by_rules : (a : Value) → (facts a → ⊥) → Tells (z a) (Gives z (named (atom_name a) rules) a)
  by_rules a none_of = (by_rule rules facts z answer a, λ e deny. why rules facts z answer a e ⊥ settled_empty none_of deny)

  -- an atom that no rule has in its head
  pub by_facts : (a : Value) → (Gives z (named (atom_name a) rules) a → ⊥) → Tells (z a) (facts a)
  by_facts a none_of = (by_fact rules facts z answer a, λ e deny. why rules facts z answer a e ⊥ settled_empty deny none_of)
