-- Induction by levels, and in an acyclic program a set from which just its own atoms follow.
use Rattle.std.proofs.Common.{◌≡◌, ℕ, zero, suc, ◌+◌, ◌<◌, Bool, ◌||◌, arith, ◌∙◌, sym, nat_lt}
use Rattle.std.specs.Prelude.{All, IsTrue}
use Rattle.ground_form.specs.Acyclic.{Rises}
use Rattle.ground_form.specs.Programs.{Parts}
use Rattle.ground_form.specs.declared.rules.GroundRule.{GroundRule}
use Rattle.ap_eval.proofs.AgreementLemmas.{follows_same, all_look_low, lt_from_true}
use Rattle.ap_eval.specs.Supports.{follows, IsSupported}

below_level : (level : ℕ → ℕ) (Q : ℕ → Type 0) → ((a : ℕ) → ((c : ℕ) → level c < level a → Q c) → Q a) → (m a : ℕ) → level a < m → Q a
below_level level Q step zero a lt = absurd (omega arith)
below_level level Q step (suc m) a lt = step a (λ c le. below_level level Q step m c (omega arith))

pub by_levels : (level : ℕ → ℕ) (Q : ℕ → Type 0) → ((a : ℕ) → ((c : ℕ) → level c < level a → Q c) → Q a) → (a : ℕ) → Q a
by_levels level Q step a = below_level level Q step (level a + 1) a (omega arith)

-- what follows from the facts in so many rounds
round : Parts → (ℕ → Bool) → ℕ → ℕ → Bool
round g facts zero = facts
round g facts (suc k) = follows g facts (round g facts k)

module _ (g : Parts) (facts : ℕ → Bool) (level : ℕ → ℕ) (rises : All (λ (rule : GroundRule). Rises g level rule.head rule.body.0) g.rules) where
  follows_low : (x y : ℕ → Bool) (a : ℕ) → ((c : ℕ) → level c < level a → x c ≡ y c) → follows g facts x a ≡ follows g facts y a
  follows_low x y a same = follows_same g facts x y (λ c. nat_lt (level c) (level a)) a (λ c t. same c (lt_from_true (level c) (level a) t)) (all_look_low g level rises a)

  -- two sets from which just their own atoms follow are the same
  pub supported_same : (x y : ℕ → Bool) → IsSupported g facts x → IsSupported g facts y → (a : ℕ) → x a ≡ y a
  supported_same x y s t = by_levels level (λ a. x a ≡ y a) (λ a ih. s a ∙ (follows_low x y a ih ∙ sym (t a)))

  -- an atom changes no more once as many rounds are over as its level says
  rounds_same : (a : ℕ) (j k : ℕ) → level a < j → level a < k → round g facts j a ≡ round g facts k a
  unfolding round
  rounds_same = by_levels level (λ a. (j k : ℕ) → level a < j → level a < k → round g facts j a ≡ round g facts k a) (λ a ih. steps a ih)
    where
      steps : (a : ℕ) → ((c : ℕ) → level c < level a → (j k : ℕ) → level c < j → level c < k → round g facts j c ≡ round g facts k c) → (j k : ℕ) → level a < j → level a < k → round g facts j a ≡ round g facts k a
      steps a ih zero k l m = absurd (omega arith)
      steps a ih (suc j) zero l m = absurd (omega arith)
      steps a ih (suc j) (suc k) l m = follows_low (round g facts j) (round g facts k) a (λ c le. ih c le j k (omega arith) (omega arith))

  pub model : ℕ → Bool
  model a = round g facts (suc (level a)) a

  pub model_supported : IsSupported g facts model
  unfolding round model
  model_supported a = follows_low (round g facts (level a)) model a (λ c lt. rounds_same c (level a) (suc (level c)) lt (omega arith))
