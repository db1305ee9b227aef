-- Matching of a nested term with a value, under a binding of some variables. What stands under operators and intervals is left to be
-- tested once its variables are bound.
use Rattle.std.specs.Prelude.{◌≡◌, ℕ, List, [], ◌∷◌, Option, Some, None, if◌then◌else◌}
use Rattle.std.specs.Ordering.{is_eq}
use Rattle.std.specs.Str.{bytes_eq}
use Rattle.ap_term.specs.Order.{value_cmp}
use Rattle.ap_term.specs.Value.{Value, integer, constant, string, compound, Values, none, also}
use Rattle.rule_form.specs.Trees.{Term, Variable, Anything, Fixed, Compound, Operation, Interval, Terms, nothing, more}
use Rattle.rule_form.specs.Values.{Substitution, IsValue}

-- the values of the variables that have one
abbrev pub Binding : Type 0
Binding = List ℕ → Option Value

-- the term must have this value
pub record Test : Type 0 where
  pub term : Term
  pub value : Value

-- the variables that are bound so far, and the tests that are left
pub record State : Type 0 where
  pub binding : Binding
  pub tests : List Test

-- v is the value, if there is one
abbrev pub IsThen : Option Value → Value → Type 0
IsThen None v = Unit {0}
IsThen (Some w) v = v ≡ w

-- s gives each bound variable its value
abbrev pub Extends : Substitution → Binding → Type 0
Extends s binding = (name : List ℕ) → IsThen (binding name) (s name)

-- each test holds under s
abbrev pub Pass : Substitution → List Test → Type 0
Pass s [] = Unit {0}
Pass s (test ∷ tests) = IsValue s test.term test.value × Pass s tests

-- s is one of the substitutions that a state leaves
abbrev pub Fits : Substitution → State → Type 0
Fits s state = Extends s state.binding × Pass s state.tests

-- s is one of those that a state leaves, if there is one
abbrev pub FitsIfAny : Substitution → Option State → Type 0
FitsIfAny s None = ⊥
FitsIfAny s (Some state) = Fits s state

-- ---- matching

-- the binding with a value for this variable
abbrev pub with_value : Binding → List ℕ → Value → Binding
with_value binding name v other = if bytes_eq other name then Some v else binding other

-- the state is left where the values are the same
abbrev pub if_same : Value → Value → State → Option State
if_same v w state = if is_eq (value_cmp v w) then Some state else None

-- a variable with a value must have that one; else it gets v
abbrev pub bind_by : Option Value → List ℕ → Value → State → Option State
bind_by None name v state = Some (record { binding = with_value state.binding name v; tests = state.tests })
bind_by (Some w) name v state = if_same v w state

-- the term is tested later
abbrev pub tested : Term → Value → State → Option State
tested t v state = Some (record { binding = state.binding; tests = record { term = t; value = v } ∷ state.tests })

-- the step is made in the state, if there is one
abbrev pub and_then : Option State → (State → Option State) → Option State
and_then None step = None
and_then (Some state) step = step state

-- what is left of a state where the term has this value
abbrev mutual
  pub match_term : Term → Value → State → Option State
  match_term (Variable name) v state = bind_by (state.binding name) name v state
  match_term Anything v state = Some state
  match_term (Fixed w) v state = if_same v w state
  match_term (Compound name parts) (compound other vs) state = if bytes_eq other name then match_terms parts vs state else None
  match_term (Compound name parts) (integer n) state = None
  match_term (Compound name parts) (constant a) state = None
  match_term (Compound name parts) (string a) state = None
  match_term (Operation op left right) v state = tested (Operation op left right) v state
  match_term (Interval low high) v state = tested (Interval low high) v state

  pub match_terms : Terms → Values → State → Option State
  match_terms nothing none state = Some state
  match_terms nothing (also v vs) state = None
  match_terms (more t ts) none state = None
  match_terms (more t ts) (also v vs) state = and_then (match_term t v state) (λ after. match_terms ts vs after)
