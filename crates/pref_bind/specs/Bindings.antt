-- What a `Stack` is for contracts.
use Rattle.std.specs.Prelude.{ℕ, List, Option}

-- for each preference statement the numbers of those that it names, in the order of its text; and the number of the optimised one.
-- Statements are numbered from 0, in the order of the texts
pub record Bindings : Type 0 where
  pub named : List (List ℕ)
  pub optimised : Option ℕ
