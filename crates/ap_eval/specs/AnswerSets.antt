-- Answer sets (Gelfond and Lifschitz 1988).
use Rattle.std.specs.Prelude.{◌≡◌, List, All, IsTrue, IsFalse}
use Rattle.std.specs.List.{list_all}
use Rattle.ap_syntax.specs.declared.small.HeadForm.TheVariants.{Nothing}
use Rattle.ap_syntax.specs.declared.small.Program.{Program}
use Rattle.ap_syntax.specs.declared.small.Rule.{Rule}
use Rattle.ap_eval.specs.AtomSets.{AtomSet, IsSubset}
use Rattle.ap_eval.specs.Reduct.{Definite, body_true, reduct, rules_of}

-- y has the head of each rule whose body it has
abbrev pub IsClosed : List Definite → AtomSet → Type 0
IsClosed rules y = All (λ (rule : Definite). IsTrue (list_all y rule.body) → IsTrue (y rule.head)) rules

-- x is closed under its reduct, no proper subset of x is, and no constraint's body is true in x
pub record IsAnswerSet (p : Program) (x : AtomSet) : Type 0 where
  pub closed : IsClosed (reduct p x) x
  pub least : (y : AtomSet) → IsSubset y x → IsClosed (reduct p x) y → IsSubset x y
  pub constraints : All (λ (rule : Rule). rule.head ≡ Nothing → IsFalse (body_true x rule)) (rules_of p)
