-- From the documented grammar to the factored one: what each rule's tokens come to there.
use Rattle.std.proofs.Common.{◌≡◌, Bool, List, [], ◌∷◌, Option, Some, subst, ◌⊎◌}
use Rattle.grammar.specs.Form.{Form, Derives, ◌⨾◌, ◌∣◌}
use Rattle.grammar.specs.Form.Form.{Tok, Call, Star}
use Rattle.grammar.specs.Image.{image}
use Rattle.grammar.proofs.Interpret.{Reads, weaker}
use Rattle.ap_syntax.specs.declared.terms.Atom.{Atom as AtomTree}
use Rattle.ap_syntax.specs.declared.terms.Literal.{Literal as LiteralTree}
use Rattle.ap_syntax.specs.declared.terms.Term.{Term as TermTree}
use Rattle.ap_syntax.specs.declared.rules.BodyItem.{BodyItem}
use Rattle.ap_syntax.specs.declared.rules.BodyItem.TheVariants as items
use Rattle.ap_syntax.specs.declared.preferences.Formula.{Formula as FormulaTree}
use Rattle.ap_syntax.specs.declared.preferences.Formula.TheVariants as formulas
use Rattle.ap_grammar.specs.declared.terminals.Terminal.{Terminal}
use Rattle.ap_grammar.specs.declared.terminals.Terminal.TheVariants as t
use Rattle.ap_grammar.specs.Lexemes.{Lexeme}
use Rattle.ap_grammar.specs.Values.{Value, Class}
use Rattle.ap_grammar.specs.Values.Value.{atom, term, literal, item, formula, either}
use Rattle.ap_grammar.specs.Grammar.{Name, grammar, made}
use Rattle.ap_grammar.specs.Factored.{Part, factored, call, open_item_made}
use Rattle.ap_grammar.proofs.Sorts.{Has, Known}
use Rattle.ap_grammar.proofs.ToMixed.{Factors, Summands, Ands}

abbrev pub Made : Part → List Lexeme → List Lexeme → Value → Type 0
Made p xs ys v = Derives factored (Call p) xs ys (v ∷ [])

-- a term stands for itself, or may yet become a formula
pub data Fits : Value → Value → Type 0 where
  same_term : {f : Lexeme} {n : Option AtomTree} {x : TermTree} → Fits (term f n x) (term f n x)
  either_term : {f : Lexeme} {n : Option AtomTree} {a : AtomTree} {x : TermTree} → Fits (term f n x) (either f a x)

-- and so does a formula
pub data FitsFormula : Value → Value → Type 0 where
  same_formula : {f : Lexeme} {g : FormulaTree} → FitsFormula (formula f g) (formula f g)
  either_formula : {f : Lexeme} {a : AtomTree} {x : TermTree} → FitsFormula (formula f (formulas.Atom a)) (either f a x)

-- a part with a value that fits
pub record Fitting (Fit : Value → Value → Type 0) (p : Part) (xs ys : List Lexeme) (v : Value) : Type 0 where
  pub found : Value
  pub derives : Made p xs ys found
  pub fits : Fit v found

-- what both grammars derive
pub record Paired (n : Name) (xs ys : List Lexeme) (v : Value) : Type 0 where
  pub known : Known n xs ys v
  pub derives : Made (Part.Of n) xs ys v

abbrev pub Shared : Form Name Terminal Class → List Lexeme → List Lexeme → List Value → Type 0
Shared a xs ys vs = Reads grammar Paired a xs ys vs

pub has_of : {a : Form Name Terminal Class} {xs ys : List Lexeme} {vs : List Value} → Shared a xs ys vs → Has a xs ys vs
has_of d = weaker (λ n xs ys v m. m.known) d

pub derives_of : {a : Form Name Terminal Class} {xs ys : List Lexeme} {vs : List Value} → Shared a xs ys vs → Derives factored (image call a) xs ys vs
derives_of (Reads.tok e) = Derives.tok e
derives_of (Reads.call m) = m.derives
derives_of Reads.empty = Derives.empty
derives_of (Reads.seq d e) = Derives.seq (derives_of d) (derives_of e)
derives_of (Reads.left d) = Derives.left (derives_of d)
derives_of (Reads.right d) = Derives.right (derives_of d)
derives_of Reads.none = Derives.none
derives_of (Reads.more d e) = Derives.more (derives_of d) (derives_of e)
derives_of (Reads.followed d e) = Derives.followed (derives_of d) (derives_of e)

-- a product is a unary term and factors, a sum a product and summands
pub record ProductParts (xs ys : List Lexeme) (v : Value) : Type 0 where
  pub between : List Lexeme
  pub unary : Value
  pub front : Fitting Fits Part.Front xs between unary
  pub rest : List Value
  pub factors : Shared Factors between ys rest
  pub is : v ≡ made Name.Product (unary ∷ rest)

pub record SumParts (xs ys : List Lexeme) (v : Value) : Type 0 where
  pub between : List Lexeme
  pub product : Value
  pub parts : ProductParts xs between product
  pub rest : List Value
  pub summands : Shared Summands between ys rest
  pub is : v ≡ made Name.Sum (product ∷ rest)

pub record ConjunctionParts (xs ys : List Lexeme) (v : Value) : Type 0 where
  pub between : List Lexeme
  pub member : Value
  pub front : Fitting FitsFormula Part.Front xs between member
  pub rest : List Value
  pub ands : Shared Ands between ys rest
  pub is : v ≡ made Name.Conjunction (member ∷ rest)

-- an atom is a bare term too
pub record AtomTerm (xs ys : List Lexeme) (v : Value) : Type 0 where
  pub first : Lexeme
  pub name : AtomTree
  pub tree : TermTree
  pub is : v ≡ atom first name
  pub derives : Made (Part.Of Name.Term) xs ys (term first (Some name) tree)
  pub front : Made Part.Front xs ys (either first name tree)

-- a literal, or an aggregate with its guards
pub record CoreItem (xs ys : List Lexeme) (v : Value) : Type 0 where
  pub core : Value
  pub derives : Made Part.Core xs ys core
  pub is : v ≡ open_item_made (core ∷ [])
  pub sort : ((first : Lexeme) × (l : LiteralTree) × (core ≡ literal first l)) ⊎ ((i : BodyItem) × (core ≡ item i))

pub record ConditionalItem (xs ys : List Lexeme) (v : Value) : Type 0 where
  pub between : List Lexeme
  pub first : Lexeme
  pub tree : LiteralTree
  pub literals : List LiteralTree
  pub core : Made Part.Core xs between (literal first tree)
  pub condition : Made (Part.Of Name.Condition) between ys (Value.condition literals)
  pub is : v ≡ item (items.All first.at tree literals)

-- a target is a formula, or a name behind `**`
pub record FormulaTarget (xs ys : List Lexeme) (v : Value) : Type 0 where
  pub inner : Value
  pub mixed : Fitting FitsFormula Part.Mixed xs ys inner
  pub is : v ≡ made Name.Target (inner ∷ [])

pub record NameTarget (xs ys : List Lexeme) (v : Value) : Type 0 where
  pub values : List Value
  pub parts : Shared (Tok t.Stars ⨾ Call Name.Ident) xs ys values
  pub is : v ≡ made Name.Target values

-- what more is wanted of some rules
abbrev pub Extra : Name → List Lexeme → List Lexeme → Value → Type 0
Extra (Name.BaseSection whole) xs ys v = Made (Part.Section whole) xs ys v
Extra (Name.TypeSection whole) xs ys v = Made (Part.Section whole) xs ys v
Extra Name.BaseOpening xs ys v = Made Part.Opening xs ys v
Extra Name.TypeOpening xs ys v = Made Part.Opening xs ys v
Extra Name.Atom xs ys v = AtomTerm xs ys v
Extra Name.Literal xs ys v = Made Part.Core xs ys v
Extra Name.OpenItem xs ys v = CoreItem xs ys v
Extra Name.Conditional xs ys v = ConditionalItem xs ys v
Extra Name.Primary xs ys v = Fitting Fits Part.Front xs ys v
Extra Name.Unary xs ys v = Fitting Fits Part.Front xs ys v
Extra Name.Product xs ys v = ProductParts xs ys v
Extra Name.Sum xs ys v = SumParts xs ys v
Extra Name.Term xs ys v = Fitting Fits Part.Mixed xs ys v
Extra Name.Member xs ys v = Fitting FitsFormula Part.Front xs ys v
Extra Name.Conjunction xs ys v = ConjunctionParts xs ys v
Extra Name.Formula xs ys v = Fitting FitsFormula Part.Mixed xs ys v
Extra Name.Target xs ys v = FormulaTarget xs ys v ⊎ NameTarget xs ys v
Extra n xs ys v = Unit {0}

pub record From (n : Name) (xs ys : List Lexeme) (v : Value) : Type 0 where
  pub known : Known n xs ys v
  pub derives : Made (Part.Of n) xs ys v
  pub extra : Extra n xs ys v

abbrev pub Comes : Form Name Terminal Class → List Lexeme → List Lexeme → List Value → Type 0
Comes a xs ys vs = Reads grammar From a xs ys vs

pub shared : {a : Form Name Terminal Class} {xs ys : List Lexeme} {vs : List Value} → Comes a xs ys vs → Shared a xs ys vs
shared d = weaker (λ n xs ys v m. record { known = m.known; derives = m.derives }) d

pub known_all : {a : Form Name Terminal Class} {xs ys : List Lexeme} {vs : List Value} → Comes a xs ys vs → Has a xs ys vs
known_all d = has_of (shared d)

pub factored_all : {a : Form Name Terminal Class} {xs ys : List Lexeme} {vs : List Value} → Comes a xs ys vs → Derives factored (image call a) xs ys vs
factored_all d = derives_of (shared d)

pub made_of : {p : Part} {xs ys : List Lexeme} {v w : Value} → v ≡ w → Made p xs ys v → Made p xs ys w
made_of {p = p} {xs = xs} {ys = ys} e d = subst (λ u. Made p xs ys u) e d

-- ---- sections

pub sections_from : {whole : Bool} {xs ys : List Lexeme} {vs : List Value} → Comes (Star (Call (Name.BaseSection whole) ∣ Call (Name.TypeSection whole))) xs ys vs → Derives factored (Star (Call (Part.Section whole))) xs ys vs
sections_from Reads.none = Derives.none
sections_from (Reads.more (Reads.left (Reads.call m)) rest) = Derives.more m.extra (sections_from rest)
sections_from (Reads.more (Reads.right (Reads.call m)) rest) = Derives.more m.extra (sections_from rest)
