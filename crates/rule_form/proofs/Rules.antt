-- What is in an answer set of rules with variables.
use Rattle.std.proofs.Common.{◌≡◌, Bool, List, IsTrue, ⊎_elim, inl, inr}
use Rattle.std.specs.Prelude.{◌↔◌}
use Rattle.std.specs.Ordering.{is_eq}
use Rattle.std.specs.Cmp.{Equal-is}
use Rattle.ap_term.specs.Order.{value_cmp}
use Rattle.ap_term.specs.Value.{Value}
use Rattle.ap_term.proofs.OrderLemmas.{value_same, value_itself}
use Rattle.rule_form.specs.AnswerSets.{Derives, Permits, IsAnswerSet}
use Rattle.rule_form.specs.Trees.{Rule}
use Rattle.rule_form.specs.Truth.{AtomSet}
use Rattle.rule_form.specs.Unfolded.{Gives, atom_name, named}
use Rattle.rule_form.proofs.Moves.{derives_grows}
use Rattle.rule_form.proofs.Stable as stable
use Rattle.rule_form.proofs.Stable.{IsSettled, Supported, settled_true}
use Rattle.rule_form.proofs.Unfolds.{gives, given}

abbrev pub same : Value → Value → Bool
same a b = is_eq (value_cmp a b)

pub same_decides : (a b : Value) → IsTrue (same a b) → a ≡ b
same_decides a b e = value_same a b ((Equal-is (value_cmp a b)).0 e)

pub same_itself : (a : Value) → IsTrue (same a a)
same_itself a = (Equal-is (value_cmp a a)).1 (value_itself a)

module _ (rules : List Rule) (facts : Value → Type 0) (z : AtomSet) (answer : IsAnswerSet rules facts z) where
  pub by_fact : (a : Value) → facts a → IsTrue (z a)
  by_fact a f = stable.has (Derives rules) (Permits rules) facts z answer a (inl f)

  pub by_rule : (a : Value) → Gives z (named (atom_name a) rules) a → IsTrue (z a)
  by_rule a g = stable.has (Derives rules) (Permits rules) facts z answer a (inr (given z rules a g))

  -- where a is in the answer set, it is a fact, or a rule gives it
  pub why : (a : Value) → IsTrue (z a) → (P : Type 0) → IsSettled P → (facts a → P) → (Gives z (named (atom_name a) rules) a → P) → P
  why a za P settled f g = settled (λ deny. stable.supported (Derives rules) (Permits rules) facts same same_decides same_itself
      (λ x y w b sub d. derives_grows x y w sub rules b d) z answer a za
      (⊎_elim (λ h. deny (f h)) (λ d. deny (g (gives z rules a d)))))

  -- a is in the answer set exactly where P holds, if that is what gives it
  pub means : (a : Value) (P : Type 0) → IsSettled P → (facts a → P) → (Gives z (named (atom_name a) rules) a → P) → ((Gives z (named (atom_name a) rules) a → ⊥) → P → ⊥) → IsTrue (z a) ↔ P
  means a P settled f g h = (λ za. why a za P settled f g, λ p. settled_true (z a) (λ deny. h (λ q. deny (by_rule a q)) p))
