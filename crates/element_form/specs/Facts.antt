-- The facts of a statement, which its type's program is given, and what else the program may ask.
use Rattle.std.specs.Prelude.{◌≡◌, ◌⊎◌, ℕ, pos, Bool, List, [], Contains, IsTrue, codes}
use Rattle.std.specs.Str.{bytes_eq}
use Rattle.ap_term.specs.Value.{Value, integer, constant, string, compound, Values, none, also}
use Rattle.element_form.specs.Flips.{IsPath}
use Rattle.element_form.specs.Greater.{IsGreater}
use Rattle.element_form.specs.Ground.{Target, For, Name, Ranked, Ground, Statement, key, IsAt, IsGiven, HasFormula, HasName, HasCondition, is_of, kind_term}
use Rattle.element_form.specs.States.{is_net, is_state, has_bit}
use Rattle.pref_kinds.specs.declared.built_in.BuiltIn.TheVariants.{Poset, Cp}
use Rattle.rule_form.specs.Possible.{If}
use Rattle.rule_form.specs.Unfolded.{When}

-- what a program may ask of two sets: which formulas the new set and the old one satisfy, and how the statements relate them that the
-- statement names
pub record Asked : Type 0 where
  pub new : Value → Bool
  pub old : Value → Bool
  pub better : Value → Bool
  pub bettereq : Value → Bool
  pub eq : Value → Bool
  pub worse : Value → Bool
  pub worseeq : Value → Bool

-- the formulas of which a program may ask whether a set satisfies them: those of the statement, and the net atoms of `cp`
abbrev pub IsAskedFor : Statement → Value → Type 0
IsAskedFor st f = HasFormula st f ⊎ (HasCondition st f ⊎ When (is_of Cp st) (IsTrue (is_net st f)))

-- ---- facts, predicate by predicate

-- `for(F)` or `name(q)`
abbrev pub target_term : Target → Value
target_term (For formula) = compound (codes "for") (also formula none)
target_term (Name statement) = compound (codes "name") (also statement none)

-- the arguments of `preference` behind the statement's name: for each ground element and rank, and for what stands after `||` with
-- rank 0
abbrev pub IsElementFact : Statement → Value → Value → Value → Value → Type 0
IsElementFact st i r target w = (e : Ground) × (k : ℕ) × (ranked : Ranked) × Contains st.elements e × (i ≡ key e)
    × (r ≡ integer (pos k)) × (IsAt e k ranked ⊎ ((k ≡ 0) × IsGiven e.given ranked))
    × (target ≡ target_term ranked.target) × (w ≡ compound [] ranked.weights)

-- `preference(s,t)` and `preference(s,(k,V),r,target,W)`
abbrev pub IsPreference : Statement → Values → Type 0
IsPreference st (also p (also t none)) = (p ≡ st.name) × (t ≡ kind_term st.kind)
IsPreference st (also p (also i (also r (also target (also w none))))) = (p ≡ st.name) × IsElementFact st i r target w
IsPreference st vs = ⊥

-- `weight(W,w)`, w being the first member of W
abbrev pub IsWeight : Statement → Values → Type 0
IsWeight st (also w (also n none)) = (e : Ground) × (ranked : Ranked) × (rest : Values) × Contains st.elements e
    × (Contains e.ranks ranked ⊎ IsGiven e.given ranked) × (ranked.weights ≡ also n rest)
    × (w ≡ compound [] ranked.weights)
IsWeight st vs = ⊥

-- the one argument is a formula that may be asked for and is satisfied
abbrev pub IsHeld : Statement → (Value → Bool) → Values → Type 0
IsHeld st satisfied (also f none) = IsAskedFor st f × IsTrue (satisfied f)
IsHeld st satisfied vs = ⊥

-- the one argument is a named statement that relates the sets so
abbrev pub IsTold : Statement → (Value → Bool) → Values → Type 0
IsTold st related (also q none) = HasName st q × IsTrue (related q)
IsTold st related vs = ⊥

-- P holds of the one argument
abbrev pub OfOne : (Value → Type 0) → Values → Type 0
OfOne P (also v none) = P v
OfOne P vs = ⊥

-- P holds of the two arguments
abbrev pub OfTwo : (Value → Value → Type 0) → Values → Type 0
OfTwo P (also v (also w none)) = P v w
OfTwo P vs = ⊥

-- the facts with this name; those of `poset` and `cp` are there for these types alone
abbrev pub IsFactOf : Statement → Asked → List ℕ → Values → Type 0
IsFactOf st asked name vs =
    If (bytes_eq name (codes "preference")) (IsPreference st vs) (
    If (bytes_eq name (codes "weight")) (IsWeight st vs) (
    If (bytes_eq name (codes "holds")) (IsHeld st asked.new vs) (
    If (bytes_eq name (codes "holds'")) (IsHeld st asked.old vs) (
    If (bytes_eq name (codes "better_in")) (IsTold st asked.better vs) (
    If (bytes_eq name (codes "bettereq_in")) (IsTold st asked.bettereq vs) (
    If (bytes_eq name (codes "eq_in")) (IsTold st asked.eq vs) (
    If (bytes_eq name (codes "worse_in")) (IsTold st asked.worse vs) (
    If (bytes_eq name (codes "worseeq_in")) (IsTold st asked.worseeq vs) (
    If (bytes_eq name (codes "greater")) (When (is_of Poset st) (OfTwo (IsGreater st) vs)) (
    If (bytes_eq name (codes "net")) (When (is_of Cp st) (OfOne (λ a. IsTrue (is_net st a)) vs)) (
    If (bytes_eq name (codes "state")) (When (is_of Cp st) (OfOne (λ u. IsTrue (is_state st u)) vs)) (
    If (bytes_eq name (codes "bit")) (When (is_of Cp st) (OfTwo (λ u a. IsTrue (is_state st u) × IsTrue (has_bit st u a)) vs)) (
    If (bytes_eq name (codes "path")) (When (is_of Cp st) (OfTwo (IsPath st) vs)) ⊥)))))))))))))

-- a is a fact
abbrev pub IsFact : Statement → Asked → Value → Type 0
IsFact st asked (compound name vs) = IsFactOf st asked name vs
IsFact st asked (constant name) = ⊥
IsFact st asked (integer n) = ⊥
IsFact st asked (string bytes) = ⊥
