-- Each rule of the factored grammar has a text, so it is a grammar that one token of foresight reads.
use Rattle.std.proofs.Common.{◌≡◌, ℕ, [], refl, true, false}
use Rattle.grammar.specs.Readable.{IsReadable}
use Rattle.grammar.proofs.Check as check
use Rattle.grammar.proofs.Productive as productive
use Rattle.ap_grammar.specs.declared.terminals.Terminal.{Terminal}
use Rattle.ap_grammar.specs.Lexemes.{Lexeme}
use Rattle.ap_grammar.specs.Values.{Value, Class}
use Rattle.ap_grammar.specs.Grammar.{Name}
use Rattle.ap_grammar.specs.Factored.{Part, factored, part_rule}
use Rattle.ap_grammar.specs.Tables.{tables}
use Rattle.ap_grammar.proofs.Predictive.{predictive, each}

-- a token of each kind
abbrev some_token : Terminal → Lexeme
some_token k = record { terminal = k; bytes = []; file = 0; at = 0 }

of_kind : (k : Terminal) → factored.kind (some_token k) ≡ k
of_kind k = refl

-- each rule has an alternative whose rules are of lower rank
abbrev rank : Part → ℕ
rank (Part.Of (Name.Text true true)) = 0
rank (Part.Of (Name.Text true false)) = 0
rank (Part.Section true) = 0
rank (Part.Of (Name.BaseSection true)) = 1
rank (Part.Of (Name.TypeSection true)) = 3
rank (Part.Of (Name.Text false true)) = 0
rank (Part.Of (Name.Text false false)) = 0
rank (Part.Section false) = 0
rank (Part.Of (Name.BaseSection false)) = 1
rank (Part.Of (Name.TypeSection false)) = 3
rank (Part.Of Name.BaseOpening) = 0
rank (Part.Of Name.TypeOpening) = 2
rank (Part.Of (Name.Statement false true)) = 1
rank (Part.Of (Name.Statement true true)) = 2
rank (Part.Of (Name.One true)) = 1
rank (Part.Of (Name.Statement false false)) = 1
rank (Part.Of (Name.Statement true false)) = 2
rank (Part.Of (Name.One false)) = 1
rank Part.Opening = 0
rank (Part.Of Name.Const) = 1
rank (Part.Of Name.Constant) = 0
rank (Part.Of Name.Show) = 0
rank (Part.Of Name.Defined) = 1
rank (Part.Of (Name.Rule false)) = 1
rank (Part.Of (Name.Rule true)) = 2
rank (Part.Of Name.Head) = 0
rank (Part.Of Name.LeftGuard) = 5
rank (Part.Of Name.RightGuard) = 5
rank (Part.Of Name.ChoiceElement) = 2
rank (Part.Of Name.Condition) = 0
rank (Part.Of Name.Literals) = 3
rank (Part.Of Name.Literal) = 2
rank (Part.Of Name.Body) = 2
rank Part.Core = 1
rank Part.Negated = 1
rank (Part.Of Name.OpenItem) = 2
rank (Part.Of Name.Conditional) = 3
rank (Part.Of Name.Aggregate) = 0
rank (Part.Of Name.AggElement) = 5
rank (Part.Of Name.Relation) = 0
rank (Part.Of Name.Atom) = 1
rank (Part.Of Name.Arguments) = 5
rank (Part.Of Name.Ident) = 0
rank (Part.Of Name.Term) = 4
rank (Part.Of Name.Sum) = 3
rank (Part.Of Name.Product) = 2
rank (Part.Of Name.Unary) = 1
rank (Part.Of Name.Primary) = 0
rank (Part.Of Name.Preference) = 2
rank (Part.Of Name.Optimize) = 1
rank (Part.Of Name.Kind) = 1
rank (Part.Of Name.Element) = 2
rank (Part.Of Name.Given) = 2
rank (Part.Of Name.Domain) = 4
rank (Part.Of Name.Ranked) = 1
rank (Part.Of Name.Target) = 1
rank Part.Mixed = 1
rank Part.Front = 0
rank (Part.Of Name.Formula) = 4
rank (Part.Of Name.Conjunction) = 3
rank (Part.Of Name.Member) = 2

low : (n : Part) → productive.low Part Terminal Class Lexeme Value factored some_token of_kind rank (check.every_in tables.classes) each (rank n) (part_rule n) ≡ true
low (Part.Of (Name.Text true true)) = refl
low (Part.Of (Name.Text true false)) = refl
low (Part.Section true) = refl
low (Part.Of (Name.BaseSection true)) = refl
low (Part.Of (Name.TypeSection true)) = refl
low (Part.Of (Name.Text false true)) = refl
low (Part.Of (Name.Text false false)) = refl
low (Part.Section false) = refl
low (Part.Of (Name.BaseSection false)) = refl
low (Part.Of (Name.TypeSection false)) = refl
low (Part.Of Name.BaseOpening) = refl
low (Part.Of Name.TypeOpening) = refl
low (Part.Of (Name.Statement false true)) = refl
low (Part.Of (Name.Statement true true)) = refl
low (Part.Of (Name.One true)) = refl
low (Part.Of (Name.Statement false false)) = refl
low (Part.Of (Name.Statement true false)) = refl
low (Part.Of (Name.One false)) = refl
low Part.Opening = refl
low (Part.Of Name.Const) = refl
low (Part.Of Name.Constant) = refl
low (Part.Of Name.Show) = refl
low (Part.Of Name.Defined) = refl
low (Part.Of (Name.Rule false)) = refl
low (Part.Of (Name.Rule true)) = refl
low (Part.Of Name.Head) = refl
low (Part.Of Name.LeftGuard) = refl
low (Part.Of Name.RightGuard) = refl
low (Part.Of Name.ChoiceElement) = refl
low (Part.Of Name.Condition) = refl
low (Part.Of Name.Literals) = refl
low (Part.Of Name.Literal) = refl
low (Part.Of Name.Body) = refl
low Part.Core = refl
low Part.Negated = refl
low (Part.Of Name.OpenItem) = refl
low (Part.Of Name.Conditional) = refl
low (Part.Of Name.Aggregate) = refl
low (Part.Of Name.AggElement) = refl
low (Part.Of Name.Relation) = refl
low (Part.Of Name.Atom) = refl
low (Part.Of Name.Arguments) = refl
low (Part.Of Name.Ident) = refl
low (Part.Of Name.Term) = refl
low (Part.Of Name.Sum) = refl
low (Part.Of Name.Product) = refl
low (Part.Of Name.Unary) = refl
low (Part.Of Name.Primary) = refl
low (Part.Of Name.Preference) = refl
low (Part.Of Name.Optimize) = refl
low (Part.Of Name.Kind) = refl
low (Part.Of Name.Element) = refl
low (Part.Of Name.Given) = refl
low (Part.Of Name.Domain) = refl
low (Part.Of Name.Ranked) = refl
low (Part.Of Name.Target) = refl
low Part.Mixed = refl
low Part.Front = refl
low (Part.Of Name.Formula) = refl
low (Part.Of Name.Conjunction) = refl
low (Part.Of Name.Member) = refl

pub readable : IsReadable factored tables
readable =
    record {
      predictive = predictive;
      token = some_token;
      kinds = of_kind;
      examples = productive.examples Part Terminal Class Lexeme Value factored some_token of_kind rank (check.every_in tables.classes) each low;
    }
