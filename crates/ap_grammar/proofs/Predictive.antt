-- One token of foresight tells at each place of the factored grammar which way to go.
use Rattle.std.proofs.Common.{◌≡◌, ℕ, List, [], ◌∷◌, refl, sym, ◌∙◌, ap, Bool, true, false, Some, eq-eqb}
use Rattle.std.proofs.lemmas.Bool.{eqb-true}
use Rattle.grammar.specs.Tables.{IsPredictive, some_in}
use Rattle.grammar.proofs.Check as check
use Rattle.ap_grammar.specs.declared.terminals.Terminal.{Terminal}
use Rattle.ap_grammar.specs.declared.terminals.Terminal.TheVariants as t
use Rattle.ap_grammar.specs.Lexemes.{Lexeme}
use Rattle.ap_grammar.specs.Values.{Value, Class}
use Rattle.ap_grammar.specs.Values.Class.{Bare, Lit, Formed, Either, Other}
use Rattle.ap_grammar.specs.Grammar.{Name}
use Rattle.ap_grammar.specs.Factored.{Part, factored}
use Rattle.ap_grammar.specs.Tables.{tables, same, number}

abbrev terminals : List Terminal
terminals = t.Number ∷ t.Base ∷ t.Preference ∷ t.Word ∷ t.Variable ∷ t.Any ∷ t.String ∷ t.Not ∷ t.Dot ∷ t.Comma ∷ t.Semicolon ∷ t.Colon ∷ t.If ∷ t.Weighs ∷ t.Open ∷ t.Close ∷ t.OpenBrace ∷ t.CloseBrace ∷ t.Equal ∷ t.Same ∷ t.Unequal ∷ t.Less ∷ t.AtMost ∷ t.Greater ∷ t.AtLeast ∷ t.Plus ∷ t.Minus ∷ t.Times ∷ t.Stars ∷ t.Slash ∷ t.Backslash ∷ t.Dots ∷ t.Better ∷ t.Bars ∷ t.And ∷ t.Or ∷ t.Const ∷ t.Show ∷ t.Defined ∷ t.Program ∷ t.Statement ∷ t.Optimize ∷ t.Count ∷ t.Sum ∷ t.Stray ∷ []

listed : (k : Terminal) → check.kind_at terminals (number k) ≡ Some k
listed t.Number = refl
listed t.Base = refl
listed t.Preference = refl
listed t.Word = refl
listed t.Variable = refl
listed t.Any = refl
listed t.String = refl
listed t.Not = refl
listed t.Dot = refl
listed t.Comma = refl
listed t.Semicolon = refl
listed t.Colon = refl
listed t.If = refl
listed t.Weighs = refl
listed t.Open = refl
listed t.Close = refl
listed t.OpenBrace = refl
listed t.CloseBrace = refl
listed t.Equal = refl
listed t.Same = refl
listed t.Unequal = refl
listed t.Less = refl
listed t.AtMost = refl
listed t.Greater = refl
listed t.AtLeast = refl
listed t.Plus = refl
listed t.Minus = refl
listed t.Times = refl
listed t.Stars = refl
listed t.Slash = refl
listed t.Backslash = refl
listed t.Dots = refl
listed t.Better = refl
listed t.Bars = refl
listed t.And = refl
listed t.Or = refl
listed t.Const = refl
listed t.Show = refl
listed t.Defined = refl
listed t.Program = refl
listed t.Statement = refl
listed t.Optimize = refl
listed t.Count = refl
listed t.Sum = refl
listed t.Stray = refl

abbrev every : (Terminal → Bool) → Bool
every = check.every_in terminals

all : (q : Terminal → Bool) → every q ≡ true → (k : Terminal) → q k ≡ true
all q h k = check.every_at terminals q (number k) k h (listed k)

pub same_itself : (k : Terminal) → same k k ≡ true
same_itself k = eq-eqb _ _ refl

-- no two terminals have one number
pub same_is : (j k : Terminal) → same j k ≡ true → j ≡ k
same_is j k h = let e : Some j ≡ Some k = sym (listed j) ∙ ap (check.kind_at terminals) (eqb-true _ _ h) ∙ listed k in cc

abbrev place : Class → ℕ
place Bare = 0
place Lit = 1
place Formed = 2
place Either = 3
place Other = 4

class_listed : (c : Class) → check.kind_at tables.classes (place c) ≡ Some c
class_listed Bare = refl
class_listed Lit = refl
class_listed Formed = refl
class_listed Either = refl
class_listed Other = refl

pub each : (q : Class → Bool) → check.every_in tables.classes q ≡ true → (c : Class) → q c ≡ true
each q h c = check.every_at tables.classes q (place c) c h (class_listed c)

some : (q : Class → Bool) (c : Class) → q c ≡ true → some_in tables.classes q ≡ true
some q c h = check.some_at tables.classes q (place c) c h (class_listed c)

fine : (n : Part) → check.fine Part Terminal Class Lexeme Value factored tables every all each n ≡ true
fine (Part.Of (Name.Text true true)) = refl
fine (Part.Of (Name.Text true false)) = refl
fine (Part.Section true) = refl
fine (Part.Of (Name.BaseSection true)) = refl
fine (Part.Of (Name.TypeSection true)) = refl
fine (Part.Of (Name.Text false true)) = refl
fine (Part.Of (Name.Text false false)) = refl
fine (Part.Section false) = refl
fine (Part.Of (Name.BaseSection false)) = refl
fine (Part.Of (Name.TypeSection false)) = refl
fine (Part.Of Name.BaseOpening) = refl
fine (Part.Of Name.TypeOpening) = refl
fine (Part.Of (Name.Statement false true)) = refl
fine (Part.Of (Name.Statement true true)) = refl
fine (Part.Of (Name.One true)) = refl
fine (Part.Of (Name.Statement false false)) = refl
fine (Part.Of (Name.Statement true false)) = refl
fine (Part.Of (Name.One false)) = refl
fine Part.Opening = refl
fine (Part.Of Name.Const) = refl
fine (Part.Of Name.Constant) = refl
fine (Part.Of Name.Show) = refl
fine (Part.Of Name.Defined) = refl
fine (Part.Of (Name.Rule false)) = refl
fine (Part.Of (Name.Rule true)) = refl
fine (Part.Of Name.Head) = refl
fine (Part.Of Name.LeftGuard) = refl
fine (Part.Of Name.RightGuard) = refl
fine (Part.Of Name.ChoiceElement) = refl
fine (Part.Of Name.Condition) = refl
fine (Part.Of Name.Literals) = refl
fine (Part.Of Name.Literal) = refl
fine (Part.Of Name.Body) = refl
fine Part.Core = refl
fine Part.Negated = refl
fine (Part.Of Name.OpenItem) = refl
fine (Part.Of Name.Conditional) = refl
fine (Part.Of Name.Aggregate) = refl
fine (Part.Of Name.AggElement) = refl
fine (Part.Of Name.Relation) = refl
fine (Part.Of Name.Atom) = refl
fine (Part.Of Name.Arguments) = refl
fine (Part.Of Name.Ident) = refl
fine (Part.Of Name.Term) = refl
fine (Part.Of Name.Sum) = refl
fine (Part.Of Name.Product) = refl
fine (Part.Of Name.Unary) = refl
fine (Part.Of Name.Primary) = refl
fine (Part.Of Name.Preference) = refl
fine (Part.Of Name.Optimize) = refl
fine (Part.Of Name.Kind) = refl
fine (Part.Of Name.Element) = refl
fine (Part.Of Name.Given) = refl
fine (Part.Of Name.Domain) = refl
fine (Part.Of Name.Ranked) = refl
fine (Part.Of Name.Target) = refl
fine Part.Mixed = refl
fine Part.Front = refl
fine (Part.Of Name.Formula) = refl
fine (Part.Of Name.Conjunction) = refl
fine (Part.Of Name.Member) = refl

pub predictive : IsPredictive factored tables
predictive = check.predictive Part Terminal Class Lexeme Value factored tables every all each same_itself some fine
