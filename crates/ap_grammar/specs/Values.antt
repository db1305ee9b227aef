-- The values that the rules of the grammar make.
use Rattle.std.specs.Prelude.{ℕ, List, [], ◌∷◌, Option, Some, None}
use Rattle.ap_syntax.specs.declared.terms.Atom.{Atom}
use Rattle.ap_syntax.specs.declared.terms.Literal.{Literal}
use Rattle.ap_syntax.specs.declared.terms.Rel.{Rel}
use Rattle.ap_syntax.specs.declared.terms.Term.{Term}
use Rattle.ap_syntax.specs.declared.rules.AggElement.{AggElement}
use Rattle.ap_syntax.specs.declared.rules.BodyItem.{BodyItem}
use Rattle.ap_syntax.specs.declared.rules.ChoiceElement.{ChoiceElement}
use Rattle.ap_syntax.specs.declared.rules.Function.{Function}
use Rattle.ap_syntax.specs.declared.rules.Guard.{Guard}
use Rattle.ap_syntax.specs.declared.rules.HeadForm.{HeadForm}
use Rattle.ap_syntax.specs.declared.preferences.Element.{Element}
use Rattle.ap_syntax.specs.declared.preferences.Formula.{Formula}
use Rattle.ap_syntax.specs.declared.preferences.Ranked.{Ranked}
use Rattle.ap_syntax.specs.declared.preferences.Target.{Target}
use Rattle.ap_syntax.specs.declared.programs.Statement.{Statement}
use Rattle.ap_grammar.specs.Lexemes.{Lexeme, no_lexeme}

-- A value of each sort. Where a tree has a place, its parts bring their first token with them.
pub data Value : Type 0 where
  token : Lexeme → Value
  -- a term, with the atom as which it may be read: it is a name with arguments or without, and no parentheses stand round it
  term : Lexeme → Option Atom → Term → Value
  terms : List Term → Value
  relation : Rel → Value
  atom : Lexeme → Atom → Value
  literal : Lexeme → Literal → Value
  literals : List Literal → Value
  condition : List Literal → Value
  left : Lexeme → Guard → Value
  right : Guard → Value
  choice_element : ChoiceElement → Value
  agg_element : AggElement → Value
  aggregate : Lexeme → Function → List AggElement → Value
  item : BodyItem → Value
  body : List BodyItem → Value
  head : Lexeme → HeadForm → Value
  formula : Lexeme → Formula → Value
  target : Lexeme → Target → Value
  ranked : Lexeme → Ranked → Value
  given : Ranked → Value
  element : Element → Value
  kind : List ℕ → Value
  statement : Statement → Value
  program : List Statement → Value
  -- an atom, in any number of parentheses, that may yet become a formula or the same term
  either : Lexeme → Atom → Term → Value
  -- what no rule makes
  nothing : Value

-- the first token of a value that brings it
abbrev pub first_token : Value → Lexeme
first_token (Value.token t) = t
first_token (Value.term t name x) = t
first_token (Value.atom t x) = t
first_token (Value.literal t x) = t
first_token (Value.left t x) = t
first_token (Value.aggregate t f x) = t
first_token (Value.head t x) = t
first_token (Value.formula t x) = t
first_token (Value.target t x) = t
first_token (Value.ranked t x) = t
first_token v = no_lexeme

abbrev pub first_of : List Value → Lexeme
first_of [] = no_lexeme
first_of (v ∷ vs) = first_token v

-- ---- the values of one sort among others, in their order

abbrev pub collected : {A : Type 0} → (Value → Option A) → List Value → List A
collected pick [] = []
collected pick (v ∷ vs) = elim (pick v) [ None ↦ collected pick vs | Some x ↦ x ∷ collected pick vs ]

-- the first of them
abbrev pub found : {A : Type 0} → (Value → Option A) → List Value → Option A
found pick [] = None
found pick (v ∷ vs) = elim (pick v) [ None ↦ found pick vs | Some x ↦ Some x ]

abbrev pub as_term : Value → Option Term
as_term (Value.term first name t) = Some t
as_term v = None

abbrev pub as_literal : Value → Option Literal
as_literal (Value.literal first l) = Some l
as_literal v = None

abbrev pub as_literals : Value → Option (List Literal)
as_literals (Value.literals ls) = Some ls
as_literals v = None

abbrev pub as_condition : Value → Option (List Literal)
as_condition (Value.condition ls) = Some ls
as_condition v = None

abbrev pub as_left : Value → Option Guard
as_left (Value.left first g) = Some g
as_left v = None

abbrev pub as_right : Value → Option Guard
as_right (Value.right g) = Some g
as_right v = None

abbrev pub as_choice_element : Value → Option ChoiceElement
as_choice_element (Value.choice_element e) = Some e
as_choice_element v = None

abbrev pub as_agg_element : Value → Option AggElement
as_agg_element (Value.agg_element e) = Some e
as_agg_element v = None

abbrev pub as_body : Value → Option (List BodyItem)
as_body (Value.body items) = Some items
as_body v = None

abbrev pub as_formula : Value → Option Formula
as_formula (Value.formula first f) = Some f
as_formula v = None

abbrev pub as_ranked : Value → Option Ranked
as_ranked (Value.ranked first r) = Some r
as_ranked v = None

abbrev pub as_given : Value → Option Ranked
as_given (Value.given r) = Some r
as_given v = None

abbrev pub as_element : Value → Option Element
as_element (Value.element e) = Some e
as_element v = None

abbrev pub as_target : Value → Option Target
as_target (Value.target first x) = Some x
as_target v = None

-- a list that may not be there
abbrev pub or_empty : {A : Type 0} → Option (List A) → List A
or_empty None = []
or_empty (Some xs) = xs

-- ---- what a list of values came to, for the form in which one token of foresight reads

-- A term that is a name with its arguments or without, and so may be an atom; a literal; a formula; what may be either a
-- term or a formula; and all else.
pub data Class : Type 0 where
  Bare : Class
  Lit : Class
  Formed : Class
  Either : Class
  Other : Class

-- a term is bare where it may be read as an atom
abbrev pub term_class : Option Atom → Class
term_class (Some a) = Class.Bare
term_class None = Class.Other

abbrev pub class_of : List Value → Class
class_of (Value.term first name t ∷ []) = term_class name
class_of (Value.literal first l ∷ []) = Class.Lit
class_of (Value.formula first f ∷ []) = Class.Formed
class_of (Value.either first a x ∷ []) = Class.Either
class_of vs = Class.Other
