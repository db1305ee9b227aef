-- The true ones of the first variables.
use Rattle.std.specs.Prelude.{ℕ, Bool, ◌&&◌, nat_lt, nat_le}

-- it is one of the first k numbers and true
abbrev pub true_among : ℕ → (ℕ → Bool) → ℕ → Bool
true_among k f n = (nat_lt 0 n && nat_le n k) && f n
