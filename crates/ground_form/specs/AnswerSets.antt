-- Answer sets of a ground program (Gelfond and Lifschitz 1988).
use Rattle.std.specs.Prelude.{◌≡◌, ℕ, Bool, All, IsFalse}
use Rattle.ground_form.specs.declared.rules.GroundRule.{GroundRule}
use Rattle.ground_form.specs.declared.rules.Head.TheVariants.{Nothing}
use Rattle.ground_form.specs.Programs.{Parts}
use Rattle.ground_form.specs.Reduct.{IsClosed, reduct}
use Rattle.ground_form.specs.Sets.{IsSubset, nothing}
use Rattle.ground_form.specs.Truth.{body_true}

-- y has the facts, and is closed under the reduct by x
pub record IsClosedWith (g : Parts) (facts x y : ℕ → Bool) : Type 0 where
  pub has_facts : IsSubset facts y
  pub has_heads : IsClosed (reduct g x) y

-- x is an answer set of the program with these facts: it is closed, no proper subset of it is closed, and no constraint's
-- body is true in it. It is finite where the facts are: by the second it has no atom that is neither a fact nor a head
pub record IsAnswerSetWith (g : Parts) (facts x : ℕ → Bool) : Type 0 where
  pub closed : IsClosedWith g facts x x
  pub minimal : (y : ℕ → Bool) → IsSubset y x → IsClosedWith g facts x y → IsSubset x y
  pub constraints : All (λ (rule : GroundRule). rule.head ≡ Nothing → IsFalse (body_true g x rule.body.0)) g.rules

-- an answer set of the program alone
abbrev pub IsAnswerSet : Parts → (ℕ → Bool) → Type 0
IsAnswerSet g x = IsAnswerSetWith g nothing x
