-- What holds of the tokens and of the value that each rule makes of them: what is written of the value costs no more.
use Rattle.std.proofs.Common.{◌≡◌, ℕ, List, [], ◌∷◌, ◌++◌, map, Option, None}
use Rattle.std.specs.Prelude.{codes}
use Rattle.grammar.proofs.Interpret.{Reads}
use Rattle.ap_syntax.specs.declared.terms.Atom.{Atom}
use Rattle.ap_syntax.specs.declared.terms.Literal.{Literal}
use Rattle.ap_syntax.specs.declared.terms.Rel.{Rel}
use Rattle.ap_syntax.specs.declared.terms.Term.{Term}
use Rattle.ap_syntax.specs.declared.rules.AggElement.{AggElement}
use Rattle.ap_syntax.specs.declared.rules.BodyItem.{BodyItem}
use Rattle.ap_syntax.specs.declared.rules.ChoiceElement.{ChoiceElement}
use Rattle.ap_syntax.specs.declared.rules.Function.{Function}
use Rattle.ap_syntax.specs.declared.rules.Guard.{Guard}
use Rattle.ap_syntax.specs.declared.rules.HeadForm.{HeadForm}
use Rattle.ap_syntax.specs.declared.preferences.Element.{Element}
use Rattle.ap_syntax.specs.declared.preferences.Formula.{Formula}
use Rattle.ap_syntax.specs.declared.preferences.Ranked.{Ranked}
use Rattle.ap_syntax.specs.declared.preferences.Target.{Target}
use Rattle.ap_syntax.specs.declared.programs.Statement.{Statement}
use Rattle.ap_syntax.specs.Pieces.{Piece, commas, in_braces, in_parentheses, semicolons, spaced, spelled}
use Rattle.ap_syntax.specs.CanonicalTerms.{atom_pieces, literal_pieces, literals_pieces, rel_sign, term_pieces, written}
use Rattle.ap_syntax.specs.CanonicalRules.{agg_element_pieces, body_pieces, choice_element_pieces, clause_pieces, condition_pieces, function_word, head_pieces, item_pieces}
use Rattle.ap_syntax.specs.CanonicalPreferences.{element_pieces, kind_pieces, ranked_pieces, target_pieces}
use Rattle.ap_syntax.specs.Canonical.{statement_pieces}
use Rattle.ap_grammar.specs.declared.terminals.Terminal.TheVariants as t
use Rattle.ap_grammar.specs.Lexemes.{Lexeme}
use Rattle.ap_grammar.specs.Values.{Value}
use Rattle.ap_grammar.specs.Values.Value.{aggregate, atom, formula, head, item, left, literal, program, ranked, relation, right, statement, target, term, token}
use Rattle.ap_grammar.specs.Grammar.{Name, Rhs}
use Rattle.canonical_law.proofs.Names.{GoodName, IsNameKind}
use Rattle.canonical_law.proofs.Costs.{Covered, CoveredAt, Loose}
use Rattle.canonical_law.proofs.Formulas.{formula_written}
use Rattle.canonical_law.proofs.Fine.{Fine, fine_grammar}

-- a name, which is one token
pub record CoversName (xs ys : List Fine) (v : Value) : Type 0 where
  pub begins : Fine
  pub is : v ≡ token begins.token
  pub tokens : xs ≡ begins ∷ ys
  pub kind : IsNameKind begins.token.terminal
  pub good : GoodName begins.token.bytes

-- a term at a level of binding
pub record CoversTerm (level : ℕ) (xs ys : List Fine) (v : Value) : Type 0 where
  pub first : Lexeme
  pub name : Option Atom
  pub tree : Term
  pub is : v ≡ term first name tree
  pub covered : CoveredAt level (written tree) xs ys

pub record CoversFormula (level : ℕ) (xs ys : List Fine) (v : Value) : Type 0 where
  pub first : Lexeme
  pub tree : Formula
  pub is : v ≡ formula first tree
  pub covered : CoveredAt level (formula_written tree) xs ys

-- the tokens of a statement, up to its dot
pub record IsLine (s : Statement) (xs ys : List Fine) : Type 0 where
  pub front : List Piece
  pub pieces : statement_pieces s ≡ front ++ spelled (codes ".")
  pub dot : Fine
  pub is_dot : dot.token.terminal ≡ t.Dot
  pub covered : Loose front xs (dot ∷ ys)

pub record CoversStatement (xs ys : List Fine) (v : Value) : Type 0 where
  pub tree : Statement
  pub is : v ≡ statement tree
  pub line : IsLine tree xs ys

pub data Lines : List Statement → List Fine → List Fine → Type 0 where
  none : {xs : List Fine} → Lines [] xs xs
  more : {s : Statement} {ss : List Statement} {xs ys zs : List Fine} → IsLine s xs ys → Lines ss ys zs → Lines (s ∷ ss) xs zs

pub record CoversProgram (xs ys : List Fine) (v : Value) : Type 0 where
  pub trees : List Statement
  pub is : v ≡ program trees
  pub lines : Lines trees xs ys

-- what is written of a body behind a head
abbrev pub tail_pieces : List BodyItem → List Piece
tail_pieces [] = []
tail_pieces (i ∷ is) = spaced (codes ":-") ++ body_pieces (i ∷ is)

-- what is written of a rule with this head begins with the head
abbrev pub IsHeaded : HeadForm → Type 0
IsHeaded h = (is : List BodyItem) → clause_pieces h is ≡ head_pieces h ++ tail_pieces is

abbrev pub Covers : Name → List Fine → List Fine → Value → Type 0
Covers (Name.Text whole of_type) xs ys v = CoversProgram xs ys v
Covers (Name.BaseSection whole) xs ys v = CoversProgram xs ys v
Covers (Name.TypeSection whole) xs ys v = CoversProgram xs ys v
Covers Name.BaseOpening xs ys v = CoversStatement xs ys v
Covers Name.TypeOpening xs ys v = CoversStatement xs ys v
Covers (Name.Statement whole of_type) xs ys v = CoversStatement xs ys v
Covers (Name.One of_type) xs ys v = Unit {0}
Covers Name.Const xs ys v = CoversStatement xs ys v
Covers Name.Constant xs ys v = (first : Lexeme) × (x : Term) × (v ≡ term first None x) × Loose (term_pieces x) xs ys
Covers Name.Show xs ys v = CoversStatement xs ys v
Covers Name.Defined xs ys v = CoversStatement xs ys v
Covers (Name.Rule of_type) xs ys v = CoversStatement xs ys v
Covers Name.Head xs ys v = (first : Lexeme) × (h : HeadForm) × (v ≡ head first h) × Loose (head_pieces h) xs ys × IsHeaded h
Covers Name.LeftGuard xs ys v = (first : Lexeme) × (g : Guard) × (v ≡ left first g) × Loose (term_pieces g.term ++ spaced (rel_sign g.rel)) xs ys
Covers Name.RightGuard xs ys v = (g : Guard) × (v ≡ right g) × Loose (spaced (rel_sign g.rel) ++ term_pieces g.term) xs ys
Covers Name.ChoiceElement xs ys v = (e : ChoiceElement) × (v ≡ Value.choice_element e) × Loose (choice_element_pieces e) xs ys
Covers Name.Condition xs ys v = (ls : List Literal) × (v ≡ Value.condition ls) × Loose (spaced (codes ":") ++ literals_pieces ls) xs ys × Loose (condition_pieces ls) xs ys
Covers Name.Literals xs ys v = (l : Literal) × (ls : List Literal) × (v ≡ Value.literals (l ∷ ls)) × Loose (literals_pieces (l ∷ ls)) xs ys
Covers Name.Literal xs ys v = (first : Lexeme) × (l : Literal) × (v ≡ literal first l) × Loose (literal_pieces l) xs ys
Covers Name.Body xs ys v = (i : BodyItem) × (is : List BodyItem) × (v ≡ Value.body (i ∷ is)) × Loose (body_pieces (i ∷ is)) xs ys
Covers Name.OpenItem xs ys v = (i : BodyItem) × (v ≡ item i) × Loose (item_pieces i) xs ys
Covers Name.Conditional xs ys v = (i : BodyItem) × (v ≡ item i) × Loose (item_pieces i) xs ys
Covers Name.Aggregate xs ys v = (first : Lexeme) × (f : Function) × (es : List AggElement) × (v ≡ aggregate first f es) × Loose (spelled (function_word f) ++ in_braces (semicolons (map agg_element_pieces es))) xs ys
Covers Name.AggElement xs ys v = (e : AggElement) × (v ≡ Value.agg_element e) × Loose (agg_element_pieces e) xs ys
Covers Name.Relation xs ys v = (r : Rel) × (v ≡ relation r) × Loose (spaced (rel_sign r)) xs ys
Covers Name.Atom xs ys v = (first : Lexeme) × (a : Atom) × (v ≡ atom first a) × Covered (atom_pieces a) 0 xs ys
Covers Name.Arguments xs ys v = (x : Term) × (zs : List Term) × (v ≡ Value.terms (x ∷ zs)) × Covered (in_parentheses (commas (map term_pieces (x ∷ zs)))) 0 xs ys
Covers Name.Ident xs ys v = CoversName xs ys v
Covers Name.Term xs ys v = CoversTerm 0 xs ys v
Covers Name.Sum xs ys v = CoversTerm 1 xs ys v
Covers Name.Product xs ys v = CoversTerm 2 xs ys v
Covers Name.Unary xs ys v = CoversTerm 3 xs ys v
Covers Name.Primary xs ys v = CoversTerm 4 xs ys v
Covers Name.Preference xs ys v = CoversStatement xs ys v
Covers Name.Optimize xs ys v = CoversStatement xs ys v
Covers Name.Kind xs ys v = (k : List ℕ) × (v ≡ Value.kind k) × Covered (kind_pieces k) 0 xs ys
Covers Name.Element xs ys v = (e : Element) × (v ≡ Value.element e) × Loose (element_pieces e) xs ys
Covers Name.Given xs ys v = (r : Ranked) × (v ≡ Value.given r) × Loose (spaced (codes "||") ++ ranked_pieces r) xs ys
Covers Name.Domain xs ys v = (l : Literal) × (ls : List Literal) × (v ≡ Value.condition (l ∷ ls)) × Loose (spaced (codes ":") ++ literals_pieces (l ∷ ls)) xs ys
Covers Name.Ranked xs ys v = (first : Lexeme) × (r : Ranked) × (v ≡ ranked first r) × Loose (ranked_pieces r) xs ys
Covers Name.Target xs ys v = (first : Lexeme) × (x : Target) × (v ≡ target first x) × Loose (target_pieces x) xs ys
Covers Name.Formula xs ys v = CoversFormula 0 xs ys v
Covers Name.Conjunction xs ys v = CoversFormula 1 xs ys v
Covers Name.Member xs ys v = CoversFormula 2 xs ys v

-- the tokens of a form, each rule's part so
abbrev pub Has : Rhs → List Fine → List Fine → List Value → Type 0
Has a xs ys vs = Reads fine_grammar Covers a xs ys vs
