-- The grammar of texts, production by production, and the tree that each production makes.
--
-- In a rule `a ⨾ b` is a and then b, `a ∣ b` is one of both, `opt a` may be left out, and `Star a` is there any number of
-- times. The values of the parts come in the order of the text.
use Rattle.std.specs.Prelude.{pos, Bool, true, false, List, [], ◌∷◌, ◌++◌, Option, Some, None}
use Rattle.grammar.specs.Form.{Form, Grammar, ◌⨾◌, ◌∣◌, opt}
use Rattle.grammar.specs.Form.Form.{Tok, Call, Star}
use Rattle.ap_syntax.specs.declared.terms.Literal.TheVariants as literals
use Rattle.ap_syntax.specs.declared.terms.ProductOp.TheVariants as products
use Rattle.ap_syntax.specs.declared.terms.Rel.{Rel}
use Rattle.ap_syntax.specs.declared.terms.Rel.TheVariants.{Eq, Ne, Lt, Le, Gt, Ge}
use Rattle.ap_syntax.specs.declared.terms.SumOp.TheVariants as sums
use Rattle.ap_syntax.specs.declared.terms.Term.{Term as TermTree}
use Rattle.ap_syntax.specs.declared.terms.Term.TheVariants as terms
use Rattle.ap_syntax.specs.declared.rules.BodyItem.TheVariants as items
use Rattle.ap_syntax.specs.declared.rules.Function.{Function}
use Rattle.ap_syntax.specs.declared.rules.Function.TheVariants as functions
use Rattle.ap_syntax.specs.declared.rules.HeadForm.{HeadForm}
use Rattle.ap_syntax.specs.declared.rules.HeadForm.TheVariants as heads
use Rattle.ap_syntax.specs.declared.preferences.Formula.{Formula as FormulaTree}
use Rattle.ap_syntax.specs.declared.preferences.Formula.TheVariants as formulas
use Rattle.ap_syntax.specs.declared.preferences.Target.{Target as TargetTree}
use Rattle.ap_syntax.specs.declared.preferences.Target.TheVariants as targets
use Rattle.ap_syntax.specs.declared.programs.PartKind.TheVariants as parts
use Rattle.ap_syntax.specs.declared.programs.Statement.{Statement as StatementTree}
use Rattle.ap_syntax.specs.declared.programs.Statement.TheVariants as statements
use Rattle.ap_grammar.specs.declared.terminals.Terminal.{Terminal}
use Rattle.ap_grammar.specs.declared.terminals.Terminal.TheVariants as t
use Rattle.ap_grammar.specs.Lexemes.{Lexeme, decimal, string_of}
use Rattle.ap_grammar.specs.Values.{Value, Class, class_of, collected, found, or_empty, first_of, as_term, as_literal, as_literals, as_condition, as_left, as_right, as_choice_element, as_agg_element, as_body, as_formula, as_ranked, as_given, as_element, as_target}
use Rattle.ap_grammar.specs.Values.Value.{token, relation, atom, term, literal, left, right, aggregate, item, body, head, formula, target, ranked, kind, statement, program, nothing}

-- The rules. The first truth value of a text, a section or a statement tells whether preference statements and
-- `#optimize` are in the grammar, the other one whether it stands in a type's part.
pub data Name : Type 0 where
  Text : Bool → Bool → Name
  BaseSection : Bool → Name
  TypeSection : Bool → Name
  BaseOpening : Name
  TypeOpening : Name
  Statement : Bool → Bool → Name
  One : Bool → Name
  Const : Name
  Constant : Name
  Show : Name
  Defined : Name
  Rule : Bool → Name
  Head : Name
  LeftGuard : Name
  RightGuard : Name
  ChoiceElement : Name
  Condition : Name
  Literals : Name
  Literal : Name
  Body : Name
  OpenItem : Name
  Conditional : Name
  Aggregate : Name
  AggElement : Name
  Relation : Name
  Atom : Name
  Arguments : Name
  Ident : Name
  Term : Name
  Sum : Name
  Product : Name
  Unary : Name
  Primary : Name
  Preference : Name
  Optimize : Name
  Kind : Name
  Element : Name
  Given : Name
  Domain : Name
  Ranked : Name
  Target : Name
  Formula : Name
  Conjunction : Name
  Member : Name

abbrev pub Rhs : Type 0
Rhs = Form Name Terminal Class

-- a { sign a }
abbrev pub many : Rhs → Terminal → Rhs
many a sign = a ⨾ Star (Tok sign ⨾ a)

abbrev pub in_braces : Name → Rhs
in_braces n = Tok t.OpenBrace ⨾ opt (many (Call n) t.Semicolon) ⨾ Tok t.CloseBrace

abbrev pub rule_of : Name → Rhs
-- a text begins in a part, and each `#program` opens another one
rule_of (Name.Text whole of_type) = Star (Call (Name.Statement whole of_type)) ⨾ Star (Call (Name.BaseSection whole) ∣ Call (Name.TypeSection whole))
rule_of (Name.BaseSection whole) = Call Name.BaseOpening ⨾ Star (Call (Name.Statement whole false))
rule_of (Name.TypeSection whole) = Call Name.TypeOpening ⨾ Star (Call (Name.Statement whole true))
rule_of Name.BaseOpening = Tok t.Program ⨾ Tok t.Base ⨾ Tok t.Dot
rule_of Name.TypeOpening = Tok t.Program ⨾ Tok t.Preference ⨾ Tok t.Open ⨾ Call Name.Kind ⨾ Tok t.Close ⨾ Tok t.Dot
-- statements
rule_of (Name.Statement false of_type) = Call (Name.Rule of_type) ∣ Call Name.Const ∣ Call Name.Show ∣ Call Name.Defined
rule_of (Name.Statement true of_type) = Call (Name.Statement false of_type) ∣ Call Name.Preference ∣ Call Name.Optimize
rule_of (Name.One of_type) = Call (Name.Statement false of_type) ∣ Call Name.BaseOpening ∣ Call Name.TypeOpening
rule_of Name.Const = Tok t.Const ⨾ Call Name.Ident ⨾ Tok t.Equal ⨾ Call Name.Constant ⨾ Tok t.Dot
rule_of Name.Constant = opt (Tok t.Minus) ⨾ Tok t.Number ∣ Call Name.Ident ∣ Tok t.String
rule_of Name.Show = Tok t.Show ⨾ opt (Call Name.Ident ⨾ Tok t.Slash ⨾ Tok t.Number) ⨾ Tok t.Dot
rule_of Name.Defined = Tok t.Defined ⨾ Call Name.Ident ⨾ Tok t.Slash ⨾ Tok t.Number ⨾ Tok t.Dot
-- rules; in a type's part a head is an atom
rule_of (Name.Rule false) = Call Name.Head ⨾ opt (Tok t.If ⨾ Call Name.Body) ⨾ Tok t.Dot ∣ Tok t.If ⨾ Call Name.Body ⨾ Tok t.Dot
rule_of (Name.Rule true) = Call Name.Atom ⨾ opt (Tok t.If ⨾ Call Name.Body) ⨾ Tok t.Dot
rule_of Name.Head = Call Name.Atom ∣ opt (Call Name.LeftGuard) ⨾ in_braces Name.ChoiceElement ⨾ opt (Call Name.RightGuard)
rule_of Name.LeftGuard = Call Name.Term ⨾ opt (Call Name.Relation)
rule_of Name.RightGuard = opt (Call Name.Relation) ⨾ Call Name.Term
rule_of Name.ChoiceElement = Call Name.Atom ⨾ opt (Call Name.Condition)
rule_of Name.Condition = Tok t.Colon ⨾ opt (Call Name.Literals)
rule_of Name.Literals = many (Call Name.Literal) t.Comma
rule_of Name.Literal = opt (Tok t.Not) ⨾ Call Name.Atom ∣ Call Name.Term ⨾ Call Name.Relation ⨾ Call Name.Term
-- behind a conditional literal a comma goes on with its condition, so only a semicolon parts it from the next item
rule_of Name.Body = Call Name.OpenItem ⨾ opt ((Tok t.Comma ∣ Tok t.Semicolon) ⨾ Call Name.Body) ∣ Call Name.Conditional ⨾ opt (Tok t.Semicolon ⨾ Call Name.Body)
rule_of Name.OpenItem = Call Name.Literal ∣ opt (Tok t.Not) ⨾ opt (Call Name.LeftGuard) ⨾ Call Name.Aggregate ⨾ opt (Call Name.RightGuard)
rule_of Name.Conditional = Call Name.Literal ⨾ Call Name.Condition
rule_of Name.Aggregate = (Tok t.Count ∣ Tok t.Sum) ⨾ in_braces Name.AggElement
rule_of Name.AggElement = many (Call Name.Term) t.Comma ⨾ opt (Call Name.Condition)
rule_of Name.Relation = Tok t.Equal ∣ Tok t.Same ∣ Tok t.Unequal ∣ Tok t.Less ∣ Tok t.AtMost ∣ Tok t.Greater ∣ Tok t.AtLeast
-- atoms and terms
rule_of Name.Atom = Call Name.Ident ⨾ opt (Call Name.Arguments)
rule_of Name.Arguments = Tok t.Open ⨾ many (Call Name.Term) t.Comma ⨾ Tok t.Close
rule_of Name.Ident = Tok t.Word ∣ Tok t.Base ∣ Tok t.Preference
rule_of Name.Term = Call Name.Sum ⨾ opt (Tok t.Dots ⨾ Call Name.Sum)
rule_of Name.Sum = Call Name.Product ⨾ Star ((Tok t.Plus ∣ Tok t.Minus) ⨾ Call Name.Product)
rule_of Name.Product = Call Name.Unary ⨾ Star ((Tok t.Times ∣ Tok t.Slash ∣ Tok t.Backslash) ⨾ Call Name.Unary)
rule_of Name.Unary = opt (Tok t.Minus) ⨾ Call Name.Primary
rule_of Name.Primary = Tok t.Number ∣ Tok t.String ∣ Tok t.Variable ∣ Tok t.Any ∣ Call Name.Ident ⨾ opt (Call Name.Arguments)
    ∣ Tok t.Open ⨾ Call Name.Term ⨾ Tok t.Close
    ∣ Tok t.Open ⨾ Tok t.Close
    ∣ Tok t.Open ⨾ Call Name.Term ⨾ Tok t.Comma ⨾ Tok t.Close
    ∣ Tok t.Open ⨾ Call Name.Term ⨾ Tok t.Comma ⨾ many (Call Name.Term) t.Comma ⨾ Tok t.Close
-- preferences
rule_of Name.Preference = Tok t.Statement ⨾ Tok t.Open ⨾ Call Name.Ident ⨾ Tok t.Comma ⨾ Call Name.Kind ⨾ Tok t.Close ⨾ in_braces Name.Element ⨾ Tok t.Dot
rule_of Name.Optimize = Tok t.Optimize ⨾ Tok t.Open ⨾ Call Name.Ident ⨾ Tok t.Close ⨾ Tok t.Dot
rule_of Name.Kind = Call Name.Ident ⨾ opt (Tok t.Open ⨾ Call Name.Ident ⨾ Tok t.Close)
rule_of Name.Element = many (Call Name.Ranked) t.Better ⨾ opt (Call Name.Given) ⨾ opt (Call Name.Domain)
rule_of Name.Given = Tok t.Bars ⨾ Call Name.Ranked
rule_of Name.Domain = Tok t.Colon ⨾ Call Name.Literals
rule_of Name.Ranked = opt (many (Call Name.Term) t.Comma ⨾ Tok t.Weighs) ⨾ Call Name.Target
rule_of Name.Target = Call Name.Formula ∣ Tok t.Stars ⨾ Call Name.Ident
rule_of Name.Formula = many (Call Name.Conjunction) t.Or
rule_of Name.Conjunction = many (Call Name.Member) t.And
rule_of Name.Member = opt (Tok t.Not) ⨾ (Call Name.Atom ∣ Tok t.Open ⨾ Call Name.Formula ⨾ Tok t.Close)

-- ---- trees

-- terms: operators of one level are nested to the left

abbrev pub sum_of : Terminal → TermTree → TermTree → TermTree
sum_of t.Minus x y = terms.Sum x sums.Less y
sum_of sign x y = terms.Sum x sums.Plus y

abbrev pub sum_from : Lexeme → TermTree → List Value → Value
sum_from first x [] = term first None x
sum_from first x (token sign ∷ term other name y ∷ vs) = sum_from first (sum_of sign.terminal x y) vs
sum_from first x vs = nothing

abbrev pub product_of : Terminal → TermTree → TermTree → TermTree
product_of t.Slash x y = terms.Product x products.Over y
product_of t.Backslash x y = terms.Product x products.Rest y
product_of sign x y = terms.Product x products.Times y

abbrev pub product_from : Lexeme → TermTree → List Value → Value
product_from first x [] = term first None x
product_from first x (token sign ∷ term other name y ∷ vs) = product_from first (product_of sign.terminal x y) vs
product_from first x vs = nothing

-- behind a parenthesis: a term in parentheses is that term, and all else is a tuple
abbrev pub group : Lexeme → List Value → Value
group first (term inner name x ∷ token close ∷ []) = term first None x
group first vs = term first None (terms.Tuple (collected as_term vs))

abbrev pub named : Lexeme → List Value → Value
named first [] = term first (Some (record { name = first.bytes; terms = [] })) (terms.Const first.bytes)
named first (Value.terms xs ∷ vs) = term first (Some (record { name = first.bytes; terms = xs })) (terms.Fun first.bytes xs)
named first vs = nothing

abbrev pub primary : Terminal → Lexeme → List Value → Value
primary t.Number first vs = term first None (terms.Int (pos (decimal first.bytes)))
primary t.String first vs = term first None (terms.Str (string_of first.bytes))
primary t.Variable first vs = term first None (terms.Var first.bytes)
primary t.Any first vs = term first None terms.Any
primary t.Open first vs = group first vs
primary other first vs = named first vs

abbrev pub constant : Terminal → Lexeme → List Value → Value
constant t.Number first vs = term first None (terms.Int (pos (decimal first.bytes)))
constant t.String first vs = term first None (terms.Str (string_of first.bytes))
constant t.Minus first (token number ∷ []) = term first None (terms.Minus (terms.Int (pos (decimal number.bytes))))
constant other first vs = term first None (terms.Const first.bytes)

abbrev pub relation_of : Terminal → Rel
relation_of t.Unequal = Ne
relation_of t.Less = Lt
relation_of t.AtMost = Le
relation_of t.Greater = Gt
relation_of t.AtLeast = Ge
relation_of sign = Eq

-- formulas: one member stands for itself

abbrev pub conjunction_of : List FormulaTree → FormulaTree
conjunction_of (f ∷ []) = f
conjunction_of fs = formulas.And fs

-- behind a token: an atom or a formula in parentheses under `not`, or a formula in parentheses alone
abbrev pub member : Lexeme → List Value → Value
member first (atom other a ∷ []) = formula first (formulas.Not (formulas.Atom a))
member first (token paren ∷ formula inner f ∷ token close ∷ []) = formula first (formulas.Not f)
member first (formula inner f ∷ token close ∷ []) = formula first f
member first vs = nothing

-- an empty target, which no rule makes
abbrev pub or_nothing : Option TargetTree → TargetTree
or_nothing None = targets.Name []
or_nothing (Some x) = x

abbrev pub disjunction_of : List FormulaTree → FormulaTree
disjunction_of (f ∷ []) = f
disjunction_of fs = formulas.Or fs

-- rules

abbrev pub rule : Lexeme → HeadForm → List Value → Value
rule first h vs = statement (statements.Rule (record { file = first.file; at = first.at; head = h; body = or_empty (found as_body vs) }))

abbrev pub function_of : Terminal → Function
function_of t.Count = functions.Count
function_of sign = functions.Sum

abbrev pub aggregate_item : Bool → List Value → List Value → Value
aggregate_item negated guards (aggregate first f elements ∷ vs) = item (items.Agg negated (found as_left guards) f elements (found as_right vs))
aggregate_item negated guards vs = nothing

abbrev pub aggregate_with : Bool → List Value → Value
aggregate_with negated (left first guard ∷ vs) = aggregate_item negated (left first guard ∷ []) vs
aggregate_with negated vs = aggregate_item negated [] vs

-- whole texts: the statements of all sections, in order

abbrev pub statements_of : List Value → List StatementTree
statements_of [] = []
statements_of (statement s ∷ vs) = s ∷ statements_of vs
statements_of (program ss ∷ vs) = ss ++ statements_of vs
statements_of (v ∷ vs) = statements_of vs

-- what each rule makes of the values of its parts
abbrev pub made : Name → List Value → Value
made (Name.Text whole of_type) vs = program (statements_of vs)
made (Name.BaseSection whole) vs = program (statements_of vs)
made (Name.TypeSection whole) vs = program (statements_of vs)
made Name.BaseOpening (token first ∷ vs) = statement (statements.Part first.file first.at parts.Base)
made Name.TypeOpening (token first ∷ token word ∷ token paren ∷ kind name ∷ vs) = statement (statements.Part first.file first.at (parts.Kind name))
made (Name.Statement whole of_type) (statement s ∷ []) = statement s
made (Name.One of_type) (statement s ∷ []) = statement s
made Name.Const (token first ∷ token name ∷ token equal ∷ term other bare x ∷ vs) = statement (statements.Const first.file first.at name.bytes x)
made Name.Constant (token first ∷ vs) = constant first.terminal first vs
made Name.Show (token first ∷ token name ∷ token slash ∷ token number ∷ vs) = statement (statements.Show (Some (name.bytes, decimal number.bytes)))
made Name.Show (token first ∷ vs) = statement (statements.Show None)
made Name.Defined (token first ∷ token name ∷ token slash ∷ token number ∷ vs) = statement (statements.Defined name.bytes (decimal number.bytes))
made (Name.Rule of_type) (head first h ∷ vs) = rule first h vs
made (Name.Rule of_type) (atom first a ∷ vs) = rule first (heads.One a) vs
made (Name.Rule of_type) (token first ∷ vs) = rule first heads.Nothing vs
made Name.Head (atom first a ∷ []) = head first (heads.One a)
made Name.Head vs = head (first_of vs) (heads.Choice (found as_left vs) (collected as_choice_element vs) (found as_right vs))
made Name.LeftGuard (term first name x ∷ []) = left first (record { rel = Le; term = x })
made Name.LeftGuard (term first name x ∷ relation r ∷ []) = left first (record { rel = r; term = x })
made Name.RightGuard (term first name x ∷ []) = right (record { rel = Le; term = x })
made Name.RightGuard (relation r ∷ term first name x ∷ []) = right (record { rel = r; term = x })
made Name.ChoiceElement (atom first a ∷ vs) = Value.choice_element (record { atom = a; condition = or_empty (found as_condition vs) })
made Name.Condition vs = Value.condition (or_empty (found as_literals vs))
made Name.Literals vs = Value.literals (collected as_literal vs)
made Name.Literal (token first ∷ atom other a ∷ []) = literal first (literals.Not a)
made Name.Literal (atom first a ∷ []) = literal first (literals.Pos a)
made Name.Literal (term first name x ∷ relation r ∷ term other second y ∷ []) = literal first (literals.Compare x r y)
made Name.Body (item i ∷ vs) = body (i ∷ or_empty (found as_body vs))
made Name.OpenItem (literal first l ∷ []) = item (items.Plain l)
made Name.OpenItem (token first ∷ vs) = aggregate_with true vs
made Name.OpenItem vs = aggregate_with false vs
made Name.Conditional (literal first l ∷ Value.condition ls ∷ []) = item (items.All first.at l ls)
made Name.Aggregate (token first ∷ vs) = aggregate first (function_of first.terminal) (collected as_agg_element vs)
made Name.AggElement vs = Value.agg_element (record { terms = collected as_term vs; condition = or_empty (found as_condition vs) })
made Name.Relation (token sign ∷ []) = relation (relation_of sign.terminal)
made Name.Atom (token first ∷ []) = atom first (record { name = first.bytes; terms = [] })
made Name.Atom (token first ∷ Value.terms xs ∷ []) = atom first (record { name = first.bytes; terms = xs })
made Name.Arguments vs = Value.terms (collected as_term vs)
made Name.Ident (token name ∷ []) = token name
made Name.Term (term first name x ∷ []) = term first name x
made Name.Term (term first name x ∷ token dots ∷ term other second y ∷ []) = term first None (terms.Range x y)
made Name.Sum (term first name x ∷ []) = term first name x
made Name.Sum (term first name x ∷ vs) = sum_from first x vs
made Name.Product (term first name x ∷ []) = term first name x
made Name.Product (term first name x ∷ vs) = product_from first x vs
made Name.Unary (term first name x ∷ []) = term first name x
made Name.Unary (token first ∷ term other name x ∷ []) = term first None (terms.Minus x)
made Name.Primary (token first ∷ vs) = primary first.terminal first vs
made Name.Preference (token first ∷ token paren ∷ token name ∷ token comma ∷ kind k ∷ vs) =
    statement (statements.Preference (record { file = first.file; at = first.at; name = name.bytes; kind = k; elements = collected as_element vs }))
made Name.Optimize (token first ∷ token paren ∷ token name ∷ vs) = statement (statements.Optimize first.file first.at name.bytes)
made Name.Kind (token name ∷ []) = kind name.bytes
made Name.Kind (token name ∷ token paren ∷ token inner ∷ token close ∷ []) = kind (name.bytes ++ (paren.bytes ++ (inner.bytes ++ close.bytes)))
made Name.Element vs =
    Value.element (record { at = (first_of vs).at; ranks = collected as_ranked vs; given = found as_given vs; domain = or_empty (found as_condition vs) })
made Name.Given (token bars ∷ ranked first r ∷ []) = Value.given r
made Name.Domain (token colon ∷ Value.literals ls ∷ []) = Value.condition ls
made Name.Ranked vs = ranked (first_of vs) (record { weights = collected as_term vs; target = or_nothing (found as_target vs) })
made Name.Target (formula first f ∷ []) = target first (targets.For f)
made Name.Target (token first ∷ token name ∷ []) = target first (targets.Name name.bytes)
made Name.Formula vs = formula (first_of vs) (disjunction_of (collected as_formula vs))
made Name.Conjunction vs = formula (first_of vs) (conjunction_of (collected as_formula vs))
made Name.Member (token first ∷ vs) = member first vs
made Name.Member (atom first a ∷ []) = formula first (formulas.Atom a)
made n vs = nothing

abbrev pub grammar : Grammar Name Terminal Class Lexeme Value
grammar = record { kind = λ x. x.terminal; leaf = λ x. token x ∷ []; rule = rule_of; build = made; class = class_of }
