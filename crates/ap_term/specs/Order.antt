-- The order of values.
use Rattle.std.specs.Prelude.{ℕ, List}
use Rattle.std.specs.declared.cmp.Ordering.{Ordering}
use Rattle.std.specs.declared.cmp.Ordering.TheVariants.{Less, Equal, Greater}
use Rattle.std.specs.Ordering.{ordering_then, nat_cmp, int_cmp}
use Rattle.std.specs.Cmp.Lexicographic.{slice_cmp}
use Rattle.ap_term.specs.Value.{Value, integer, constant, string, compound, Values, none, also, arity}

-- names and strings byte by byte, a proper prefix first
abbrev pub bytes_cmp : List ℕ → List ℕ → Ordering
bytes_cmp = slice_cmp nat_cmp

-- integers by number, then constants by name, then strings, then compound terms and tuples by the number of their arguments, by name,
-- and by their arguments from first to last
abbrev mutual
  pub value_cmp : Value → Value → Ordering
  value_cmp (integer m) (integer n) = int_cmp m n
  value_cmp (integer m) (constant b) = Less
  value_cmp (integer m) (string t) = Less
  value_cmp (integer m) (compound g ws) = Less
  value_cmp (constant a) (integer n) = Greater
  value_cmp (constant a) (constant b) = bytes_cmp a b
  value_cmp (constant a) (string t) = Less
  value_cmp (constant a) (compound g ws) = Less
  value_cmp (string s) (integer n) = Greater
  value_cmp (string s) (constant b) = Greater
  value_cmp (string s) (string t) = bytes_cmp s t
  value_cmp (string s) (compound g ws) = Less
  value_cmp (compound f vs) (integer n) = Greater
  value_cmp (compound f vs) (constant b) = Greater
  value_cmp (compound f vs) (string t) = Greater
  value_cmp (compound f vs) (compound g ws) = ordering_then (nat_cmp (arity vs) (arity ws)) (ordering_then (bytes_cmp f g) (values_cmp vs ws))

  pub values_cmp : Values → Values → Ordering
  values_cmp none none = Equal
  values_cmp none (also w ws) = Less
  values_cmp (also v vs) none = Greater
  values_cmp (also v vs) (also w ws) = ordering_then (value_cmp v w) (values_cmp vs ws)
