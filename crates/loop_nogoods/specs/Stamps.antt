-- Tables that are emptied at once: an entry counts only where its stamp is that of the present round.
use Rattle.std.specs.Prelude.{ℕ, ◌<◌, ◌≤◌, Bool, if◌then◌else◌, List, [], ◌∷◌}
use Rattle.std.specs.Global.{Vec}
use Rattle.std.specs.List.{All}
use Rattle.loop_nogoods.specs.declared.waits.Wait.{Wait}

-- the rounds are numbered from 1, and no stamp is of a later round
pub record IsStamped (stamps : List ℕ) (round : ℕ) : Type 0 where
  pub first : 0 < round
  pub earlier : All (λ stamp. stamp ≤ round) stamps

-- the lists of a table, of which those that are not marked are empty
abbrev pub lists_in : List Bool → List (Vec Wait) → List (List Wait)
lists_in [] lists = []
lists_in (on ∷ marks) [] = []
lists_in (on ∷ marks) (list ∷ lists) = (if on then list.items else []) ∷ lists_in marks lists
