-- Lists of literals by number, cut to the atoms that have a number.
use Rattle.std.specs.Prelude.{◌≡◌, ◌↔◌, ℕ, suc, ℤ, pos, negsuc, List, AllPairs, Contains, Some, IsTrue, All}
use Rattle.std.specs.Ordering.{is_lt}
use Rattle.ap_term.specs.Value.{Value}
use Rattle.rule_form.specs.Possible.{Setting, IsPossible, IsCertain}
use Rattle.sets.specs.Lists.{numbered}
use Rattle.sets.specs.Literals.{literal_cmp}

-- the atom has this number
abbrev pub IsAtomNumber : List Value → ℕ → Value → Type 0
IsAtomNumber atoms k b = numbered atoms k ≡ Some b

-- the literals over atoms with a number, each once and in order
pub record AreGroundLiterals (atoms : List Value) (asked barred : Value → Type 0) (cs : List ℤ) : Type 0 where
  pub positive : (k : ℕ) → Contains cs (pos k) ↔ ((b : Value) × asked b × IsAtomNumber atoms k b)
  pub negative : (k : ℕ) → Contains cs (negsuc k) ↔ ((b : Value) × barred b × IsAtomNumber atoms (suc k) b)
  pub ordered : AllPairs (λ c d. IsTrue (is_lt (literal_cmp c d))) cs

-- a condition exists: its positive atoms are possible, and no negative literal is over an atom that is certain in a lower component
pub record Exists (setting : Setting) (lower : Value → Type 0) (ps ns : List Value) : Type 0 where
  pub positive : All (IsPossible setting) ps
  pub negative : All (λ b. lower b → IsCertain setting b → ⊥) ns
