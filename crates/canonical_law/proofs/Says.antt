-- What holds of the value that each rule makes of the tokens of a text: it reads back.
use Rattle.std.proofs.Common.{◌≡◌, ℕ, Bool, true, List, ◌∷◌, Option, None}
use Rattle.grammar.proofs.Interpret.{Reads}
use Rattle.ap_syntax.specs.declared.terms.Atom.{Atom}
use Rattle.ap_syntax.specs.declared.terms.Literal.{Literal}
use Rattle.ap_syntax.specs.declared.terms.Rel.{Rel}
use Rattle.ap_syntax.specs.declared.terms.Term.{Term}
use Rattle.ap_syntax.specs.declared.rules.AggElement.{AggElement}
use Rattle.ap_syntax.specs.declared.rules.BodyItem.{BodyItem}
use Rattle.ap_syntax.specs.declared.rules.ChoiceElement.{ChoiceElement}
use Rattle.ap_syntax.specs.declared.rules.Function.{Function}
use Rattle.ap_syntax.specs.declared.rules.Guard.{Guard}
use Rattle.ap_syntax.specs.declared.rules.HeadForm.{HeadForm}
use Rattle.ap_syntax.specs.declared.rules.Rule.{Rule}
use Rattle.ap_syntax.specs.declared.preferences.Element.{Element}
use Rattle.ap_syntax.specs.declared.preferences.Formula.{Formula}
use Rattle.ap_syntax.specs.declared.preferences.Ranked.{Ranked}
use Rattle.ap_syntax.specs.declared.preferences.Target.{Target}
use Rattle.ap_syntax.specs.declared.programs.PartKind.{PartKind}
use Rattle.ap_syntax.specs.declared.programs.PartKind.TheVariants as parts
use Rattle.ap_syntax.specs.declared.programs.Statement.{Statement}
use Rattle.ap_syntax.specs.declared.programs.Statement.TheVariants as statements
use Rattle.ap_grammar.specs.Lexemes.{Lexeme}
use Rattle.ap_grammar.specs.Values.{Value}
use Rattle.ap_grammar.specs.Values.Value.{aggregate, atom, formula, head, item, left, literal, program, ranked, relation, right, statement, target, term, token}
use Rattle.ap_grammar.specs.Grammar.{Name, Rhs}
use Rattle.canonical_law.proofs.Names.{GoodName, IsNameKind}
use Rattle.canonical_law.proofs.Levels.{GoodTerm}
use Rattle.canonical_law.proofs.Lists.{Each}
use Rattle.canonical_law.proofs.Literals.{GoodAtom, GoodLiteral}
use Rattle.canonical_law.proofs.Items.{GoodAggElement, GoodChoiceElement, GoodItemOf}
use Rattle.canonical_law.proofs.Rules.{GoodHead, GoodRule}
use Rattle.canonical_law.proofs.Formulas.{GoodFormula}
use Rattle.canonical_law.proofs.Elements.{GoodElement, GoodRanked, GoodTarget}
use Rattle.canonical_law.proofs.TypeNames.{GoodKind}
use Rattle.canonical_law.proofs.Statements.{GoodConstant, GoodStatement}
use Rattle.ap_parse.specs.Openings.{is_of_type}
use Rattle.canonical_law.proofs.Texts.{GoodProgram}
use Rattle.canonical_law.proofs.Fine.{Fine, fine_grammar}

-- a term that reads back, with whatever it may be read as
pub record SaysTerm (v : Value) : Type 0 where
  pub first : Lexeme
  pub name : Option Atom
  pub tree : Term
  pub is : v ≡ term first name tree
  pub good : GoodTerm tree

-- a name
pub record SaysName (v : Value) : Type 0 where
  pub token_is : Lexeme
  pub is : v ≡ token token_is
  pub kind : IsNameKind token_is.terminal
  pub good : GoodName token_is.bytes

pub record SaysFormula (v : Value) : Type 0 where
  pub first : Lexeme
  pub tree : Formula
  pub is : v ≡ formula first tree
  pub good : GoodFormula tree

pub record SaysStatement (whole of_type : Bool) (v : Value) : Type 0 where
  pub tree : Statement
  pub is : v ≡ statement tree
  pub good : GoodStatement whole of_type tree

-- statements that may stand behind any part
pub record SaysProgram (whole : Bool) (v : Value) : Type 0 where
  pub trees : List Statement
  pub is : v ≡ program trees
  pub good : (part : PartKind) → GoodProgram whole part trees

abbrev pub Says : Name → Value → Type 0
Says (Name.Text whole of_type) v = (ss : List Statement) × (v ≡ program ss) × ((part : PartKind) → is_of_type part ≡ of_type → GoodProgram whole part ss)
Says (Name.BaseSection whole) v = SaysProgram whole v
Says (Name.TypeSection whole) v = SaysProgram whole v
Says Name.BaseOpening v = (file : ℕ) × (at : ℕ) × (v ≡ statement (statements.Part file at parts.Base))
Says Name.TypeOpening v = (file : ℕ) × (at : ℕ) × (k : List ℕ) × (v ≡ statement (statements.Part file at (parts.Kind k))) × GoodKind k
Says (Name.Statement whole of_type) v = SaysStatement whole of_type v
Says (Name.One of_type) v = Unit {0}
Says Name.Const v = (whole of_type : Bool) → SaysStatement whole of_type v
Says Name.Constant v = (first : Lexeme) × (x : Term) × (v ≡ term first None x) × GoodConstant x
Says Name.Show v = (whole of_type : Bool) → SaysStatement whole of_type v
Says Name.Defined v = (whole of_type : Bool) → SaysStatement whole of_type v
Says (Name.Rule of_type) v = (r : Rule) × (v ≡ statement (statements.Rule r)) × GoodRule of_type r
Says Name.Head v = (first : Lexeme) × (h : HeadForm) × (v ≡ head first h) × GoodHead h
Says Name.LeftGuard v = (first : Lexeme) × (g : Guard) × (v ≡ left first g) × GoodTerm g.term
Says Name.RightGuard v = (g : Guard) × (v ≡ right g) × GoodTerm g.term
Says Name.ChoiceElement v = (e : ChoiceElement) × (v ≡ Value.choice_element e) × GoodChoiceElement e
Says Name.Condition v = (ls : List Literal) × (v ≡ Value.condition ls) × Each GoodLiteral ls
Says Name.Literals v = (l : Literal) × (ls : List Literal) × (v ≡ Value.literals (l ∷ ls)) × Each GoodLiteral (l ∷ ls)
Says Name.Literal v = (first : Lexeme) × (l : Literal) × (v ≡ literal first l) × GoodLiteral l
Says Name.Body v = (i : BodyItem) × (is : List BodyItem) × (v ≡ Value.body (i ∷ is)) × Each GoodItemOf (i ∷ is)
Says Name.OpenItem v = (i : BodyItem) × (v ≡ item i) × GoodItemOf i
Says Name.Conditional v = (i : BodyItem) × (v ≡ item i) × GoodItemOf i
Says Name.Aggregate v = (first : Lexeme) × (f : Function) × (es : List AggElement) × (v ≡ aggregate first f es) × Each GoodAggElement es
Says Name.AggElement v = (e : AggElement) × (v ≡ Value.agg_element e) × GoodAggElement e
Says Name.Relation v = (r : Rel) × (v ≡ relation r)
Says Name.Atom v = (first : Lexeme) × (a : Atom) × (v ≡ atom first a) × GoodAtom a
Says Name.Arguments v = (x : Term) × (xs : List Term) × (v ≡ Value.terms (x ∷ xs)) × Each GoodTerm (x ∷ xs)
Says Name.Ident v = SaysName v
Says Name.Term v = SaysTerm v
Says Name.Sum v = SaysTerm v
Says Name.Product v = SaysTerm v
Says Name.Unary v = SaysTerm v
Says Name.Primary v = SaysTerm v
Says Name.Preference v = (of_type : Bool) → SaysStatement true of_type v
Says Name.Optimize v = (of_type : Bool) → SaysStatement true of_type v
Says Name.Kind v = (k : List ℕ) × (v ≡ Value.kind k) × GoodKind k
Says Name.Element v = (e : Element) × (v ≡ Value.element e) × GoodElement e
Says Name.Given v = (r : Ranked) × (v ≡ Value.given r) × GoodRanked r
Says Name.Domain v = (l : Literal) × (ls : List Literal) × (v ≡ Value.condition (l ∷ ls)) × Each GoodLiteral (l ∷ ls)
Says Name.Ranked v = (first : Lexeme) × (r : Ranked) × (v ≡ ranked first r) × GoodRanked r
Says Name.Target v = (first : Lexeme) × (x : Target) × (v ≡ target first x) × GoodTarget x
Says Name.Formula v = SaysFormula v
Says Name.Conjunction v = SaysFormula v
Says Name.Member v = SaysFormula v

abbrev pub Tells : Name → List Fine → List Fine → Value → Type 0
Tells n xs ys v = Says n v

-- the tokens of a text are of a form, and each rule's part reads back
abbrev pub Has : Rhs → List Fine → List Fine → List Value → Type 0
Has a xs ys vs = Reads fine_grammar Tells a xs ys vs
