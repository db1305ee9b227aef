-- What is asked of the variables of an element, so that its ground elements are given by their places and values.
use Rattle.element_form.specs.Preferences.{Element}
use Rattle.element_form.specs.Shapes.{OfElement}
use Rattle.rule_form.specs.Trees.{Term, Variable, Anything, Fixed, Compound, Operation, Interval, Terms, nothing, more}

-- no `_` is in the term
abbrev mutual
  pub HasNames : Term → Type 0
  HasNames (Variable name) = Unit {0}
  HasNames Anything = ⊥
  HasNames (Fixed value) = Unit {0}
  HasNames (Compound name parts) = HaveNames parts
  HasNames (Operation op left right) = HasNames left × HasNames right
  HasNames (Interval low high) = HasNames low × HasNames high

  pub HaveNames : Terms → Type 0
  HaveNames nothing = Unit {0}
  HaveNames (more t ts) = HasNames t × HaveNames ts

-- no `_` is outside the `:` part
abbrev pub IsNamed : Element → Type 0
IsNamed e = OfElement HaveNames e
