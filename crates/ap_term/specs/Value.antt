-- Values of ground terms, and how deep they are.
use Rattle.std.specs.Prelude.{◌≡◌, ℕ, ◌+◌, max, ℤ, pos, negsuc, ◌≤ℤ◌, List, [], ◌∷◌}
use mathlib.Core.Path.{refl, ap, ap₂}
use Rattle.std.specs.Coded.{Coded, coded_ℕ, coded_ℤ, coded_list}
use base.Stored.{Gv, gnil, gnum, gcons}

-- an integer, a constant by its name, a string, or a compound term; a tuple is a compound term with the empty name.
-- Names and strings are their bytes
mutual
  pub data Value : Type 0 where
    integer : (n : ℤ) → Value
    constant : (name : List ℕ) → Value
    string : (bytes : List ℕ) → Value
    compound : (name : List ℕ) (arguments : Values) → Value

  -- the arguments of a compound term, from first to last
  pub data Values : Type 0 where
    none : Values
    also : (first : Value) (rest : Values) → Values

abbrev pub arity : Values → ℕ
arity none = 0
arity (also v vs) = arity vs + 1

-- the same arguments as a list, and back
abbrev pub arguments_from : List Value → Values
arguments_from [] = none
arguments_from (v ∷ vs) = also v (arguments_from vs)

abbrev pub list_from : Values → List Value
list_from none = []
list_from (also v vs) = v ∷ list_from vs

-- the integers that there are: -2147483647 to 2147483647
abbrev pub IsInteger : ℤ → Type 0
IsInteger n = (negsuc 2147483646 ≤ℤ n) × (n ≤ℤ pos 2147483647)

-- a value without arguments has depth 1, and any other is one deeper than its deepest argument
abbrev mutual
  pub depth : Value → ℕ
  depth (integer n) = 1
  depth (constant name) = 1
  depth (string bytes) = 1
  depth (compound name vs) = deepest vs + 1

  pub deepest : Values → ℕ
  deepest none = 0
  deepest (also v vs) = max (depth v) (deepest vs)

-- a value is stored as a tree: its kind, and what it holds
abbrev mutual
  pub code_of : Value → Gv
  code_of (integer n) = gcons (gnum 0) (coded_ℤ.code n)
  code_of (constant name) = gcons (gnum 1) ((coded_list coded_ℕ).code name)
  code_of (string bytes) = gcons (gnum 2) ((coded_list coded_ℕ).code bytes)
  code_of (compound name vs) = gcons (gnum 3) (gcons ((coded_list coded_ℕ).code name) (codes_of vs))

  pub codes_of : Values → Gv
  codes_of none = gnil
  codes_of (also v vs) = gcons (code_of v) (codes_of vs)

mutual
  pub same_value : (v w : Value) → code_of v ≡ code_of w → v ≡ w
  same_value (integer m) (integer n) e = ap integer (coded_ℤ.inj m n cc)
  same_value (integer m) (constant b) e = cc
  same_value (integer m) (string t) e = cc
  same_value (integer m) (compound g ws) e = cc
  same_value (constant a) (integer n) e = cc
  same_value (constant a) (constant b) e = ap constant ((coded_list coded_ℕ).inj a b cc)
  same_value (constant a) (string t) e = cc
  same_value (constant a) (compound g ws) e = cc
  same_value (string s) (integer n) e = cc
  same_value (string s) (constant b) e = cc
  same_value (string s) (string t) e = ap string ((coded_list coded_ℕ).inj s t cc)
  same_value (string s) (compound g ws) e = cc
  same_value (compound f vs) (integer n) e = cc
  same_value (compound f vs) (constant b) e = cc
  same_value (compound f vs) (string t) e = cc
  same_value (compound f vs) (compound g ws) e = ap₂ compound ((coded_list coded_ℕ).inj f g cc) (same_values vs ws cc)

  pub same_values : (vs ws : Values) → codes_of vs ≡ codes_of ws → vs ≡ ws
  same_values none none e = refl
  same_values none (also w ws) e = cc
  same_values (also v vs) none e = cc
  same_values (also v vs) (also w ws) e = ap₂ also (same_value v w cc) (same_values vs ws cc)

abbrev pub value_code : Coded Value
value_code = record { code = code_of; inj = same_value }
