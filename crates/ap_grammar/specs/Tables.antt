-- What one token tells of each rule: which rules may be empty, with which tokens each may begin, and which may go on where a
-- text of it has ended. The check of the tables, in the proofs, refuses a wrong entry at its rule.
use Rattle.std.specs.Prelude.{ℕ, Bool, true, false, ◌||◌, List, [], ◌∷◌, nat_eq}
use Rattle.grammar.specs.Tables as general
use Rattle.ap_grammar.specs.declared.terminals.Terminal.{Terminal}
use Rattle.ap_grammar.specs.declared.terminals.Terminal.TheVariants as t
use Rattle.ap_grammar.specs.Values.{Class}
use Rattle.ap_grammar.specs.Values.Class.{Bare, Lit, Formed, Either, Other}
use Rattle.ap_grammar.specs.Grammar.{Name}
use Rattle.ap_grammar.specs.Factored.{Part}

abbrev pub number : Terminal → ℕ
number t.Number = 0
number t.Base = 1
number t.Preference = 2
number t.Word = 3
number t.Variable = 4
number t.Any = 5
number t.String = 6
number t.Not = 7
number t.Dot = 8
number t.Comma = 9
number t.Semicolon = 10
number t.Colon = 11
number t.If = 12
number t.Weighs = 13
number t.Open = 14
number t.Close = 15
number t.OpenBrace = 16
number t.CloseBrace = 17
number t.Equal = 18
number t.Same = 19
number t.Unequal = 20
number t.Less = 21
number t.AtMost = 22
number t.Greater = 23
number t.AtLeast = 24
number t.Plus = 25
number t.Minus = 26
number t.Times = 27
number t.Stars = 28
number t.Slash = 29
number t.Backslash = 30
number t.Dots = 31
number t.Better = 32
number t.Bars = 33
number t.And = 34
number t.Or = 35
number t.Const = 36
number t.Show = 37
number t.Defined = 38
number t.Program = 39
number t.Statement = 40
number t.Optimize = 41
number t.Count = 42
number t.Sum = 43
number t.Stray = 44

abbrev pub same : Terminal → Terminal → Bool
same j k = nat_eq (number j) (number k)

abbrev pub among : List Terminal → Terminal → Bool
among [] k = false
among (j ∷ js) k = same j k || among js k

abbrev pub null : Part → Bool
null (Part.Of (Name.Text true true)) = true
null (Part.Of (Name.Text true false)) = true
null (Part.Of (Name.Text false true)) = true
null (Part.Of (Name.Text false false)) = true
null n = false

abbrev pub first : Part → List Terminal
first (Part.Of (Name.Text true true)) = t.Base ∷ t.Preference ∷ t.Word ∷ t.Const ∷ t.Show ∷ t.Defined ∷ t.Program ∷ t.Statement ∷ t.Optimize ∷ []
first (Part.Of (Name.Text true false)) = t.Number ∷ t.Base ∷ t.Preference ∷ t.Word ∷ t.Variable ∷ t.Any ∷ t.String ∷ t.If ∷ t.Open ∷ t.OpenBrace ∷ t.Minus ∷ t.Const ∷ t.Show ∷ t.Defined ∷ t.Program ∷ t.Statement ∷ t.Optimize ∷ []
first (Part.Section true) = t.Program ∷ []
first (Part.Of (Name.BaseSection true)) = t.Program ∷ []
first (Part.Of (Name.TypeSection true)) = t.Program ∷ []
first (Part.Of (Name.Text false true)) = t.Base ∷ t.Preference ∷ t.Word ∷ t.Const ∷ t.Show ∷ t.Defined ∷ t.Program ∷ []
first (Part.Of (Name.Text false false)) = t.Number ∷ t.Base ∷ t.Preference ∷ t.Word ∷ t.Variable ∷ t.Any ∷ t.String ∷ t.If ∷ t.Open ∷ t.OpenBrace ∷ t.Minus ∷ t.Const ∷ t.Show ∷ t.Defined ∷ t.Program ∷ []
first (Part.Section false) = t.Program ∷ []
first (Part.Of (Name.BaseSection false)) = t.Program ∷ []
first (Part.Of (Name.TypeSection false)) = t.Program ∷ []
first (Part.Of Name.BaseOpening) = t.Program ∷ []
first (Part.Of Name.TypeOpening) = t.Program ∷ []
first (Part.Of (Name.Statement false true)) = t.Base ∷ t.Preference ∷ t.Word ∷ t.Const ∷ t.Show ∷ t.Defined ∷ []
first (Part.Of (Name.Statement true true)) = t.Base ∷ t.Preference ∷ t.Word ∷ t.Const ∷ t.Show ∷ t.Defined ∷ t.Statement ∷ t.Optimize ∷ []
first (Part.Of (Name.One true)) = t.Base ∷ t.Preference ∷ t.Word ∷ t.Const ∷ t.Show ∷ t.Defined ∷ t.Program ∷ []
first (Part.Of (Name.Statement false false)) = t.Number ∷ t.Base ∷ t.Preference ∷ t.Word ∷ t.Variable ∷ t.Any ∷ t.String ∷ t.If ∷ t.Open ∷ t.OpenBrace ∷ t.Minus ∷ t.Const ∷ t.Show ∷ t.Defined ∷ []
first (Part.Of (Name.Statement true false)) = t.Number ∷ t.Base ∷ t.Preference ∷ t.Word ∷ t.Variable ∷ t.Any ∷ t.String ∷ t.If ∷ t.Open ∷ t.OpenBrace ∷ t.Minus ∷ t.Const ∷ t.Show ∷ t.Defined ∷ t.Statement ∷ t.Optimize ∷ []
first (Part.Of (Name.One false)) = t.Number ∷ t.Base ∷ t.Preference ∷ t.Word ∷ t.Variable ∷ t.Any ∷ t.String ∷ t.If ∷ t.Open ∷ t.OpenBrace ∷ t.Minus ∷ t.Const ∷ t.Show ∷ t.Defined ∷ t.Program ∷ []
first Part.Opening = t.Program ∷ []
first (Part.Of Name.Const) = t.Const ∷ []
first (Part.Of Name.Constant) = t.Number ∷ t.Base ∷ t.Preference ∷ t.Word ∷ t.String ∷ t.Minus ∷ []
first (Part.Of Name.Show) = t.Show ∷ []
first (Part.Of Name.Defined) = t.Defined ∷ []
first (Part.Of (Name.Rule false)) = t.Number ∷ t.Base ∷ t.Preference ∷ t.Word ∷ t.Variable ∷ t.Any ∷ t.String ∷ t.If ∷ t.Open ∷ t.OpenBrace ∷ t.Minus ∷ []
first (Part.Of (Name.Rule true)) = t.Base ∷ t.Preference ∷ t.Word ∷ []
first (Part.Of Name.Head) = t.Number ∷ t.Base ∷ t.Preference ∷ t.Word ∷ t.Variable ∷ t.Any ∷ t.String ∷ t.Open ∷ t.OpenBrace ∷ t.Minus ∷ []
first (Part.Of Name.LeftGuard) = t.Number ∷ t.Base ∷ t.Preference ∷ t.Word ∷ t.Variable ∷ t.Any ∷ t.String ∷ t.Open ∷ t.Minus ∷ []
first (Part.Of Name.RightGuard) = t.Number ∷ t.Base ∷ t.Preference ∷ t.Word ∷ t.Variable ∷ t.Any ∷ t.String ∷ t.Open ∷ t.Equal ∷ t.Same ∷ t.Unequal ∷ t.Less ∷ t.AtMost ∷ t.Greater ∷ t.AtLeast ∷ t.Minus ∷ []
first (Part.Of Name.ChoiceElement) = t.Base ∷ t.Preference ∷ t.Word ∷ []
first (Part.Of Name.Condition) = t.Colon ∷ []
first (Part.Of Name.Literals) = t.Number ∷ t.Base ∷ t.Preference ∷ t.Word ∷ t.Variable ∷ t.Any ∷ t.String ∷ t.Not ∷ t.Open ∷ t.Minus ∷ []
first (Part.Of Name.Literal) = t.Number ∷ t.Base ∷ t.Preference ∷ t.Word ∷ t.Variable ∷ t.Any ∷ t.String ∷ t.Not ∷ t.Open ∷ t.Minus ∷ []
first (Part.Of Name.Body) = t.Number ∷ t.Base ∷ t.Preference ∷ t.Word ∷ t.Variable ∷ t.Any ∷ t.String ∷ t.Not ∷ t.Open ∷ t.Minus ∷ t.Count ∷ t.Sum ∷ []
first Part.Core = t.Number ∷ t.Base ∷ t.Preference ∷ t.Word ∷ t.Variable ∷ t.Any ∷ t.String ∷ t.Not ∷ t.Open ∷ t.Minus ∷ t.Count ∷ t.Sum ∷ []
first Part.Negated = t.Number ∷ t.Base ∷ t.Preference ∷ t.Word ∷ t.Variable ∷ t.Any ∷ t.String ∷ t.Open ∷ t.Minus ∷ t.Count ∷ t.Sum ∷ []
first (Part.Of Name.OpenItem) = t.Number ∷ t.Base ∷ t.Preference ∷ t.Word ∷ t.Variable ∷ t.Any ∷ t.String ∷ t.Not ∷ t.Open ∷ t.Minus ∷ t.Count ∷ t.Sum ∷ []
first (Part.Of Name.Conditional) = t.Number ∷ t.Base ∷ t.Preference ∷ t.Word ∷ t.Variable ∷ t.Any ∷ t.String ∷ t.Not ∷ t.Open ∷ t.Minus ∷ []
first (Part.Of Name.Aggregate) = t.Count ∷ t.Sum ∷ []
first (Part.Of Name.AggElement) = t.Number ∷ t.Base ∷ t.Preference ∷ t.Word ∷ t.Variable ∷ t.Any ∷ t.String ∷ t.Open ∷ t.Minus ∷ []
first (Part.Of Name.Relation) = t.Equal ∷ t.Same ∷ t.Unequal ∷ t.Less ∷ t.AtMost ∷ t.Greater ∷ t.AtLeast ∷ []
first (Part.Of Name.Atom) = t.Base ∷ t.Preference ∷ t.Word ∷ []
first (Part.Of Name.Arguments) = t.Open ∷ []
first (Part.Of Name.Ident) = t.Base ∷ t.Preference ∷ t.Word ∷ []
first (Part.Of Name.Term) = t.Number ∷ t.Base ∷ t.Preference ∷ t.Word ∷ t.Variable ∷ t.Any ∷ t.String ∷ t.Open ∷ t.Minus ∷ []
first (Part.Of Name.Sum) = t.Number ∷ t.Base ∷ t.Preference ∷ t.Word ∷ t.Variable ∷ t.Any ∷ t.String ∷ t.Open ∷ t.Minus ∷ []
first (Part.Of Name.Product) = t.Number ∷ t.Base ∷ t.Preference ∷ t.Word ∷ t.Variable ∷ t.Any ∷ t.String ∷ t.Open ∷ t.Minus ∷ []
first (Part.Of Name.Unary) = t.Number ∷ t.Base ∷ t.Preference ∷ t.Word ∷ t.Variable ∷ t.Any ∷ t.String ∷ t.Open ∷ t.Minus ∷ []
first (Part.Of Name.Primary) = t.Number ∷ t.Base ∷ t.Preference ∷ t.Word ∷ t.Variable ∷ t.Any ∷ t.String ∷ t.Open ∷ []
first (Part.Of Name.Preference) = t.Statement ∷ []
first (Part.Of Name.Optimize) = t.Optimize ∷ []
first (Part.Of Name.Kind) = t.Base ∷ t.Preference ∷ t.Word ∷ []
first (Part.Of Name.Element) = t.Number ∷ t.Base ∷ t.Preference ∷ t.Word ∷ t.Variable ∷ t.Any ∷ t.String ∷ t.Not ∷ t.Open ∷ t.Minus ∷ t.Stars ∷ []
first (Part.Of Name.Given) = t.Bars ∷ []
first (Part.Of Name.Domain) = t.Colon ∷ []
first (Part.Of Name.Ranked) = t.Number ∷ t.Base ∷ t.Preference ∷ t.Word ∷ t.Variable ∷ t.Any ∷ t.String ∷ t.Not ∷ t.Open ∷ t.Minus ∷ t.Stars ∷ []
first (Part.Of Name.Target) = t.Base ∷ t.Preference ∷ t.Word ∷ t.Not ∷ t.Open ∷ t.Stars ∷ []
first Part.Mixed = t.Number ∷ t.Base ∷ t.Preference ∷ t.Word ∷ t.Variable ∷ t.Any ∷ t.String ∷ t.Not ∷ t.Open ∷ t.Minus ∷ []
first Part.Front = t.Number ∷ t.Base ∷ t.Preference ∷ t.Word ∷ t.Variable ∷ t.Any ∷ t.String ∷ t.Not ∷ t.Open ∷ t.Minus ∷ []
first (Part.Of Name.Formula) = t.Base ∷ t.Preference ∷ t.Word ∷ t.Not ∷ t.Open ∷ []
first (Part.Of Name.Conjunction) = t.Base ∷ t.Preference ∷ t.Word ∷ t.Not ∷ t.Open ∷ []
first (Part.Of Name.Member) = t.Base ∷ t.Preference ∷ t.Word ∷ t.Not ∷ t.Open ∷ []

abbrev pub after : Part → List Terminal
after (Part.Of (Name.Text true true)) = t.Number ∷ t.Base ∷ t.Preference ∷ t.Word ∷ t.Variable ∷ t.Any ∷ t.String ∷ t.If ∷ t.Open ∷ t.OpenBrace ∷ t.Minus ∷ t.Const ∷ t.Show ∷ t.Defined ∷ t.Program ∷ t.Statement ∷ t.Optimize ∷ []
after (Part.Of (Name.Text true false)) = t.Number ∷ t.Base ∷ t.Preference ∷ t.Word ∷ t.Variable ∷ t.Any ∷ t.String ∷ t.If ∷ t.Open ∷ t.OpenBrace ∷ t.Minus ∷ t.Const ∷ t.Show ∷ t.Defined ∷ t.Program ∷ t.Statement ∷ t.Optimize ∷ []
after (Part.Section true) = t.Number ∷ t.Base ∷ t.Preference ∷ t.Word ∷ t.Variable ∷ t.Any ∷ t.String ∷ t.If ∷ t.Open ∷ t.OpenBrace ∷ t.Minus ∷ t.Const ∷ t.Show ∷ t.Defined ∷ t.Statement ∷ t.Optimize ∷ []
after (Part.Of (Name.BaseSection true)) = t.Number ∷ t.Base ∷ t.Preference ∷ t.Word ∷ t.Variable ∷ t.Any ∷ t.String ∷ t.If ∷ t.Open ∷ t.OpenBrace ∷ t.Minus ∷ t.Const ∷ t.Show ∷ t.Defined ∷ t.Statement ∷ t.Optimize ∷ []
after (Part.Of (Name.TypeSection true)) = t.Base ∷ t.Preference ∷ t.Word ∷ t.Const ∷ t.Show ∷ t.Defined ∷ t.Statement ∷ t.Optimize ∷ []
after (Part.Of (Name.Text false true)) = t.Number ∷ t.Base ∷ t.Preference ∷ t.Word ∷ t.Variable ∷ t.Any ∷ t.String ∷ t.If ∷ t.Open ∷ t.OpenBrace ∷ t.Minus ∷ t.Const ∷ t.Show ∷ t.Defined ∷ t.Program ∷ []
after (Part.Of (Name.Text false false)) = t.Number ∷ t.Base ∷ t.Preference ∷ t.Word ∷ t.Variable ∷ t.Any ∷ t.String ∷ t.If ∷ t.Open ∷ t.OpenBrace ∷ t.Minus ∷ t.Const ∷ t.Show ∷ t.Defined ∷ t.Program ∷ []
after (Part.Section false) = t.Number ∷ t.Base ∷ t.Preference ∷ t.Word ∷ t.Variable ∷ t.Any ∷ t.String ∷ t.If ∷ t.Open ∷ t.OpenBrace ∷ t.Minus ∷ t.Const ∷ t.Show ∷ t.Defined ∷ []
after (Part.Of (Name.BaseSection false)) = t.Number ∷ t.Base ∷ t.Preference ∷ t.Word ∷ t.Variable ∷ t.Any ∷ t.String ∷ t.If ∷ t.Open ∷ t.OpenBrace ∷ t.Minus ∷ t.Const ∷ t.Show ∷ t.Defined ∷ []
after (Part.Of (Name.TypeSection false)) = t.Base ∷ t.Preference ∷ t.Word ∷ t.Const ∷ t.Show ∷ t.Defined ∷ []
after (Part.Of Name.BaseOpening) = []
after (Part.Of Name.TypeOpening) = []
after (Part.Of (Name.Statement false true)) = []
after (Part.Of (Name.Statement true true)) = []
after (Part.Of (Name.One true)) = []
after (Part.Of (Name.Statement false false)) = []
after (Part.Of (Name.Statement true false)) = []
after (Part.Of (Name.One false)) = []
after Part.Opening = []
after (Part.Of Name.Const) = []
after (Part.Of Name.Constant) = []
after (Part.Of Name.Show) = []
after (Part.Of Name.Defined) = []
after (Part.Of (Name.Rule false)) = []
after (Part.Of (Name.Rule true)) = []
after (Part.Of Name.Head) = t.Number ∷ t.Base ∷ t.Preference ∷ t.Word ∷ t.Variable ∷ t.Any ∷ t.String ∷ t.Open ∷ t.OpenBrace ∷ t.Equal ∷ t.Same ∷ t.Unequal ∷ t.Less ∷ t.AtMost ∷ t.Greater ∷ t.AtLeast ∷ t.Plus ∷ t.Minus ∷ t.Times ∷ t.Slash ∷ t.Backslash ∷ t.Dots ∷ []
after (Part.Of Name.LeftGuard) = t.Open ∷ t.Equal ∷ t.Same ∷ t.Unequal ∷ t.Less ∷ t.AtMost ∷ t.Greater ∷ t.AtLeast ∷ t.Plus ∷ t.Minus ∷ t.Times ∷ t.Slash ∷ t.Backslash ∷ t.Dots ∷ []
after (Part.Of Name.RightGuard) = t.Open ∷ t.Plus ∷ t.Minus ∷ t.Times ∷ t.Slash ∷ t.Backslash ∷ t.Dots ∷ []
after (Part.Of Name.ChoiceElement) = t.Number ∷ t.Base ∷ t.Preference ∷ t.Word ∷ t.Variable ∷ t.Any ∷ t.String ∷ t.Not ∷ t.Comma ∷ t.Colon ∷ t.Open ∷ t.Equal ∷ t.Same ∷ t.Unequal ∷ t.Less ∷ t.AtMost ∷ t.Greater ∷ t.AtLeast ∷ t.Plus ∷ t.Minus ∷ t.Times ∷ t.Slash ∷ t.Backslash ∷ t.Dots ∷ []
after (Part.Of Name.Condition) = t.Number ∷ t.Base ∷ t.Preference ∷ t.Word ∷ t.Variable ∷ t.Any ∷ t.String ∷ t.Not ∷ t.Comma ∷ t.Open ∷ t.Equal ∷ t.Same ∷ t.Unequal ∷ t.Less ∷ t.AtMost ∷ t.Greater ∷ t.AtLeast ∷ t.Plus ∷ t.Minus ∷ t.Times ∷ t.Slash ∷ t.Backslash ∷ t.Dots ∷ []
after (Part.Of Name.Literals) = t.Comma ∷ t.Open ∷ t.Equal ∷ t.Same ∷ t.Unequal ∷ t.Less ∷ t.AtMost ∷ t.Greater ∷ t.AtLeast ∷ t.Plus ∷ t.Minus ∷ t.Times ∷ t.Slash ∷ t.Backslash ∷ t.Dots ∷ []
after (Part.Of Name.Literal) = t.Open ∷ t.Equal ∷ t.Same ∷ t.Unequal ∷ t.Less ∷ t.AtMost ∷ t.Greater ∷ t.AtLeast ∷ t.Plus ∷ t.Minus ∷ t.Times ∷ t.Slash ∷ t.Backslash ∷ t.Dots ∷ []
after (Part.Of Name.Body) = t.Number ∷ t.Base ∷ t.Preference ∷ t.Word ∷ t.Variable ∷ t.Any ∷ t.String ∷ t.Not ∷ t.Comma ∷ t.Semicolon ∷ t.Colon ∷ t.Open ∷ t.Equal ∷ t.Same ∷ t.Unequal ∷ t.Less ∷ t.AtMost ∷ t.Greater ∷ t.AtLeast ∷ t.Plus ∷ t.Minus ∷ t.Times ∷ t.Slash ∷ t.Backslash ∷ t.Dots ∷ t.Count ∷ t.Sum ∷ []
after Part.Core = t.Number ∷ t.Base ∷ t.Preference ∷ t.Word ∷ t.Variable ∷ t.Any ∷ t.String ∷ t.Open ∷ t.Equal ∷ t.Same ∷ t.Unequal ∷ t.Less ∷ t.AtMost ∷ t.Greater ∷ t.AtLeast ∷ t.Plus ∷ t.Minus ∷ t.Times ∷ t.Slash ∷ t.Backslash ∷ t.Dots ∷ t.Count ∷ t.Sum ∷ []
after Part.Negated = t.Number ∷ t.Base ∷ t.Preference ∷ t.Word ∷ t.Variable ∷ t.Any ∷ t.String ∷ t.Open ∷ t.Equal ∷ t.Same ∷ t.Unequal ∷ t.Less ∷ t.AtMost ∷ t.Greater ∷ t.AtLeast ∷ t.Plus ∷ t.Minus ∷ t.Times ∷ t.Slash ∷ t.Backslash ∷ t.Dots ∷ t.Count ∷ t.Sum ∷ []
after (Part.Of Name.OpenItem) = t.Number ∷ t.Base ∷ t.Preference ∷ t.Word ∷ t.Variable ∷ t.Any ∷ t.String ∷ t.Open ∷ t.Equal ∷ t.Same ∷ t.Unequal ∷ t.Less ∷ t.AtMost ∷ t.Greater ∷ t.AtLeast ∷ t.Plus ∷ t.Minus ∷ t.Times ∷ t.Slash ∷ t.Backslash ∷ t.Dots ∷ t.Count ∷ t.Sum ∷ []
after (Part.Of Name.Conditional) = t.Number ∷ t.Base ∷ t.Preference ∷ t.Word ∷ t.Variable ∷ t.Any ∷ t.String ∷ t.Not ∷ t.Comma ∷ t.Open ∷ t.Equal ∷ t.Same ∷ t.Unequal ∷ t.Less ∷ t.AtMost ∷ t.Greater ∷ t.AtLeast ∷ t.Plus ∷ t.Minus ∷ t.Times ∷ t.Slash ∷ t.Backslash ∷ t.Dots ∷ []
after (Part.Of Name.Aggregate) = []
after (Part.Of Name.AggElement) = t.Number ∷ t.Base ∷ t.Preference ∷ t.Word ∷ t.Variable ∷ t.Any ∷ t.String ∷ t.Not ∷ t.Comma ∷ t.Colon ∷ t.Open ∷ t.Equal ∷ t.Same ∷ t.Unequal ∷ t.Less ∷ t.AtMost ∷ t.Greater ∷ t.AtLeast ∷ t.Plus ∷ t.Minus ∷ t.Times ∷ t.Slash ∷ t.Backslash ∷ t.Dots ∷ []
after (Part.Of Name.Relation) = []
after (Part.Of Name.Atom) = t.Open ∷ []
after (Part.Of Name.Arguments) = []
after (Part.Of Name.Ident) = []
after (Part.Of Name.Term) = t.Open ∷ t.Plus ∷ t.Minus ∷ t.Times ∷ t.Slash ∷ t.Backslash ∷ t.Dots ∷ []
after (Part.Of Name.Sum) = t.Open ∷ t.Plus ∷ t.Minus ∷ t.Times ∷ t.Slash ∷ t.Backslash ∷ []
after (Part.Of Name.Product) = t.Open ∷ t.Times ∷ t.Slash ∷ t.Backslash ∷ []
after (Part.Of Name.Unary) = t.Open ∷ []
after (Part.Of Name.Primary) = t.Open ∷ []
after (Part.Of Name.Preference) = []
after (Part.Of Name.Optimize) = []
after (Part.Of Name.Kind) = t.Open ∷ []
after (Part.Of Name.Element) = t.Comma ∷ t.Colon ∷ t.Weighs ∷ t.Open ∷ t.Equal ∷ t.Same ∷ t.Unequal ∷ t.Less ∷ t.AtMost ∷ t.Greater ∷ t.AtLeast ∷ t.Plus ∷ t.Minus ∷ t.Times ∷ t.Slash ∷ t.Backslash ∷ t.Dots ∷ t.Better ∷ t.Bars ∷ t.And ∷ t.Or ∷ []
after (Part.Of Name.Given) = t.Comma ∷ t.Weighs ∷ t.Open ∷ t.Plus ∷ t.Minus ∷ t.Times ∷ t.Slash ∷ t.Backslash ∷ t.Dots ∷ t.And ∷ t.Or ∷ []
after (Part.Of Name.Domain) = t.Comma ∷ t.Open ∷ t.Equal ∷ t.Same ∷ t.Unequal ∷ t.Less ∷ t.AtMost ∷ t.Greater ∷ t.AtLeast ∷ t.Plus ∷ t.Minus ∷ t.Times ∷ t.Slash ∷ t.Backslash ∷ t.Dots ∷ []
after (Part.Of Name.Ranked) = t.Comma ∷ t.Weighs ∷ t.Open ∷ t.Plus ∷ t.Minus ∷ t.Times ∷ t.Slash ∷ t.Backslash ∷ t.Dots ∷ t.And ∷ t.Or ∷ []
after (Part.Of Name.Target) = t.Open ∷ t.And ∷ t.Or ∷ []
after Part.Mixed = t.Open ∷ t.Plus ∷ t.Minus ∷ t.Times ∷ t.Slash ∷ t.Backslash ∷ t.Dots ∷ t.And ∷ t.Or ∷ []
after Part.Front = t.Open ∷ []
after (Part.Of Name.Formula) = t.Open ∷ t.And ∷ t.Or ∷ []
after (Part.Of Name.Conjunction) = t.Open ∷ t.And ∷ []
after (Part.Of Name.Member) = t.Open ∷ []

abbrev pub tables : general.Tables Part Terminal Class
tables =
    record {
      same = same;
      null = null;
      first = λ n. among (first n);
      after = λ n. among (after n);
      classes = Bare ∷ Lit ∷ Formed ∷ Either ∷ Other ∷ [];
    }
