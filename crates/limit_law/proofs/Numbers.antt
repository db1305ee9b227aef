-- Depths that are told apart up to 65.
use Rattle.std.proofs.Common.{◌≡◌, ℕ, ◌+◌, ◌≤◌, Bool, true, false, arith}
use Rattle.std.specs.Prelude.{max}
use Rattle.std.proofs.lemmas.Bool.Decides.{nat_tests}
use Rattle.ap_lexemes.specs.Limits.{deeper, joined, member_depth}
use Rattle.limit_law.specs.Depths.{capped}

pub deeper_capped : (k : ℕ) → deeper (capped k) ≡ capped (k + 1)
deeper_capped k = grind (arith, nat_tests)

pub joined_capped : (k l : ℕ) → 1 ≤ k → 1 ≤ l → joined (capped k) (capped l) ≡ capped (max k l + 1)
joined_capped k l h i = grind (arith, nat_tests)

-- what is joined is in bounds only if its sides are
pub right_in_bounds : (d e : ℕ) → joined d e ≤ 64 → e ≤ 64
right_in_bounds d e h = grind (arith, nat_tests)

pub capped_in_bounds : (k : ℕ) → capped k ≤ 64 → k ≤ 64
capped_in_bounds k h = grind arith

pub within_capped : (k : ℕ) → k ≤ 64 → capped k ≤ 64
within_capped k h = grind arith

pub member_in_bounds : (n : Bool) (k : ℕ) → member_depth n (capped k) ≤ 64 → k ≤ 64
member_in_bounds false k h = grind arith
member_in_bounds true k h = grind (arith, nat_tests)

pub shallower : (d k l : ℕ) → k ≤ l → 1 ≤ k → joined d (capped l) ≤ 64 → joined d (capped k) ≤ 64
shallower d k l h i j = grind (arith, nat_tests)
