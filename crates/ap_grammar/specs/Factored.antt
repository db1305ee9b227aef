-- The grammar in the form in which one token of foresight reads it. Where two rules begin alike, their common front comes
-- first, and what follows hangs on what the front came to: a term that is a name may be an atom, and what stands before an
-- element's `::` may be a formula until it goes on.
use Rattle.std.specs.Prelude.{Bool, true, false, List, [], ◌∷◌, Option, Some, None, if◌then◌else◌}
use Rattle.std.specs.Bool.{beq}
use Rattle.grammar.specs.Form.{Form, Grammar, ◌⨾◌, ◌∣◌, opt}
use Rattle.grammar.specs.Form.Form.{Tok, Call, Empty, Star, Then}
use Rattle.grammar.specs.Image.{image}
use Rattle.ap_syntax.specs.declared.terms.Atom.{Atom as AtomTree}
use Rattle.ap_syntax.specs.declared.terms.Literal.TheVariants as literals
use Rattle.ap_syntax.specs.declared.terms.Rel.{Rel}
use Rattle.ap_syntax.specs.declared.terms.Rel.TheVariants.{Le}
use Rattle.ap_syntax.specs.declared.terms.Term.{Term as TermTree}
use Rattle.ap_syntax.specs.declared.terms.Term.TheVariants as terms
use Rattle.ap_syntax.specs.declared.rules.BodyItem.TheVariants as items
use Rattle.ap_syntax.specs.declared.rules.HeadForm.TheVariants as heads
use Rattle.ap_syntax.specs.declared.preferences.Formula.{Formula as FormulaTree}
use Rattle.ap_syntax.specs.declared.preferences.Formula.TheVariants as formulas
use Rattle.ap_syntax.specs.declared.preferences.Target.{Target as TargetTree}
use Rattle.ap_syntax.specs.declared.preferences.Target.TheVariants as targets
use Rattle.ap_syntax.specs.declared.programs.PartKind.TheVariants as parts
use Rattle.ap_syntax.specs.declared.programs.Statement.TheVariants as statements
use Rattle.ap_grammar.specs.declared.terminals.Terminal.{Terminal}
use Rattle.ap_grammar.specs.declared.terminals.Terminal.TheVariants as t
use Rattle.ap_grammar.specs.Lexemes.{Lexeme}
use Rattle.ap_grammar.specs.Values.{Value, Class, class_of, collected, found, or_empty, as_term, as_choice_element, as_body, as_right, as_target}
use Rattle.ap_grammar.specs.Values.Class.{Bare, Lit, Formed, Either}
use Rattle.ap_grammar.specs.Values.Value.{token, relation, atom, term, literal, left, item, body, head, formula, ranked, kind, statement, program, either, nothing}
use Rattle.ap_grammar.specs.Grammar.{Name, rule_of, made, statements_of, aggregate_item, conjunction_of, disjunction_of, sum_of, product_of, member, group, primary, or_nothing}

pub data Part : Type 0 where
  Of : Name → Part
  -- a section of a text, and a `#program` statement
  Section : Bool → Part
  Opening : Part
  -- a literal or an aggregate, and what stands behind `not`
  Core : Part
  Negated : Part
  -- a term or a formula, and how one begins
  Mixed : Part
  Front : Part

abbrev pub Rhs : Type 0
Rhs = Form Part Terminal Class

abbrev pub call : Name → Rhs
call n = Call (Part.Of n)

abbrev pub many : Rhs → Terminal → Rhs
many a sign = a ⨾ Star (Tok sign ⨾ a)

-- ---- parts of texts

abbrev pub base_opening : Rhs → Rhs
base_opening rest = Tok t.Base ⨾ Tok t.Dot ⨾ rest

abbrev pub type_opening : Rhs → Rhs
type_opening rest = Tok t.Preference ⨾ Tok t.Open ⨾ call Name.Kind ⨾ Tok t.Close ⨾ Tok t.Dot ⨾ rest

-- ---- heads, literals and bodies

abbrev pub choice : Rhs
choice = (Tok t.OpenBrace ⨾ opt (many (call Name.ChoiceElement) t.Semicolon) ⨾ Tok t.CloseBrace) ⨾ opt (call Name.RightGuard)

abbrev pub head_behind : Class → Rhs
head_behind Bare = opt (opt (call Name.Relation) ⨾ choice)
head_behind c = opt (call Name.Relation) ⨾ choice

abbrev pub comparison : Rhs
comparison = call Name.Relation ⨾ call Name.Term

abbrev pub literal_behind : Class → Rhs
literal_behind Bare = opt comparison
literal_behind c = comparison

abbrev pub aggregate_form : Rhs
aggregate_form = call Name.Aggregate ⨾ opt (call Name.RightGuard)

abbrev pub related : Rhs
related = call Name.Relation ⨾ (aggregate_form ∣ call Name.Term)

abbrev pub core_behind : Class → Rhs
core_behind Bare = related ∣ aggregate_form ∣ Empty
core_behind c = related ∣ aggregate_form

abbrev pub negated_behind : Class → Rhs
negated_behind Bare = call Name.Relation ⨾ aggregate_form ∣ aggregate_form ∣ Empty
negated_behind c = call Name.Relation ⨾ aggregate_form ∣ aggregate_form

abbrev pub next_item : Rhs
next_item = opt ((Tok t.Comma ∣ Tok t.Semicolon) ⨾ call Name.Body)

abbrev pub body_behind : Class → Rhs
body_behind Lit = call Name.Condition ⨾ opt (Tok t.Semicolon ⨾ call Name.Body) ∣ next_item
body_behind c = next_item

-- ---- terms

abbrev pub behind_comma : Rhs
behind_comma = Tok t.Close ∣ many (call Name.Term) t.Comma ⨾ Tok t.Close

abbrev pub behind_term : Rhs
behind_term = Tok t.Close ∣ Tok t.Comma ⨾ behind_comma

abbrev pub behind_open : Rhs
behind_open = Tok t.Close ∣ call Name.Term ⨾ behind_term

-- ---- ranks

abbrev pub factor : Rhs
factor = (Tok t.Times ∣ Tok t.Slash ∣ Tok t.Backslash) ⨾ call Name.Unary

abbrev pub summand : Rhs
summand = (Tok t.Plus ∣ Tok t.Minus) ⨾ call Name.Product

abbrev pub range : Rhs
range = Tok t.Dots ⨾ call Name.Sum

-- how a term goes on behind its first primary term: not at all, or not
abbrev pub term_rest : Rhs
term_rest = Star factor ⨾ Star summand ⨾ opt range

abbrev pub term_more : Rhs
term_more = factor ⨾ term_rest ∣ summand ⨾ Star summand ⨾ opt range ∣ range

abbrev pub formula_rest : Rhs
formula_rest = Star (Tok t.And ⨾ call Name.Member) ⨾ Star (Tok t.Or ⨾ call Name.Conjunction)

abbrev pub mixed_behind : Class → Rhs
mixed_behind Formed = formula_rest
mixed_behind Either = term_more ∣ formula_rest
mixed_behind c = term_rest

-- behind a parenthesis and what stands in it
abbrev pub inner_behind : Class → Rhs
inner_behind Formed = Tok t.Close
inner_behind c = behind_term

abbrev pub weights_rest : Rhs
weights_rest = Star (Tok t.Comma ⨾ call Name.Term) ⨾ Tok t.Weighs ⨾ call Name.Target

abbrev pub ranked_behind : Class → Rhs
ranked_behind Formed = Empty
ranked_behind Either = opt weights_rest
ranked_behind c = weights_rest

-- ---- the rules

abbrev pub part_rule : Part → Rhs
part_rule (Part.Of (Name.Text whole of_type)) = Star (call (Name.Statement whole of_type)) ⨾ Star (Call (Part.Section whole))
part_rule (Part.Section whole) = Tok t.Program ⨾ (base_opening (Star (call (Name.Statement whole false))) ∣ type_opening (Star (call (Name.Statement whole true))))
part_rule (Part.Of (Name.One of_type)) = call (Name.Statement false of_type) ∣ Call Part.Opening
part_rule Part.Opening = Tok t.Program ⨾ (base_opening Empty ∣ type_opening Empty)
part_rule (Part.Of Name.Head) = Then (call Name.Term) head_behind ∣ choice
part_rule (Part.Of Name.Literal) = Tok t.Not ⨾ call Name.Atom ∣ Then (call Name.Term) literal_behind
part_rule (Part.Of Name.Body) = Then (Call Part.Core) body_behind
part_rule Part.Core = Tok t.Not ⨾ Call Part.Negated ∣ aggregate_form ∣ Then (call Name.Term) core_behind
part_rule Part.Negated = aggregate_form ∣ Then (call Name.Term) negated_behind
part_rule (Part.Of Name.OpenItem) = Call Part.Core
part_rule (Part.Of Name.Conditional) = call Name.Literal ⨾ call Name.Condition
part_rule (Part.Of Name.Primary) = Tok t.Number ∣ Tok t.String ∣ Tok t.Variable ∣ Tok t.Any ∣ Tok t.Open ⨾ behind_open ∣ call Name.Ident ⨾ opt (call Name.Arguments)
part_rule (Part.Of Name.Ranked) = Tok t.Stars ⨾ call Name.Ident ∣ Then (Call Part.Mixed) ranked_behind
part_rule Part.Mixed = Then (Call Part.Front) mixed_behind
part_rule Part.Front = Tok t.Not ⨾ (call Name.Atom ∣ Tok t.Open ⨾ call Name.Formula ⨾ Tok t.Close)
    ∣ Tok t.Minus ⨾ call Name.Primary
    ∣ Tok t.Number ∣ Tok t.String ∣ Tok t.Variable ∣ Tok t.Any
    ∣ Tok t.Open ⨾ (Tok t.Close ∣ Then (Call Part.Mixed) inner_behind)
    ∣ call Name.Ident ⨾ opt (call Name.Arguments)
part_rule (Part.Of n) = image call (rule_of n)

-- ---- what each rule makes of the values of its parts

-- sections of texts, and `#program` statements

abbrev pub opened : List Value → List Value
opened (token first ∷ token word ∷ token paren ∷ kind name ∷ token close ∷ token dot ∷ vs) = statement (statements.Part first.file first.at (parts.Kind name)) ∷ vs
opened (token first ∷ token word ∷ token dot ∷ vs) = statement (statements.Part first.file first.at parts.Base) ∷ vs
opened vs = []

abbrev pub opening : List Value → Value
opening (v ∷ []) = v
opening vs = nothing

-- heads, literals and bodies

-- a term alone is an atom, if it may be
abbrev pub named_atom : Lexeme → Option AtomTree → Value
named_atom first (Some a) = atom first a
named_atom first None = nothing

abbrev pub named_head : Lexeme → Option AtomTree → Value
named_head first (Some a) = head first (heads.One a)
named_head first None = nothing

abbrev pub named_literal : Lexeme → Option AtomTree → Value
named_literal first (Some a) = literal first (literals.Pos a)
named_literal first None = nothing

abbrev pub choice_behind : Lexeme → Rel → TermTree → List Value → Value
choice_behind first r x vs = head first (heads.Choice (Some (record { rel = r; term = x })) (collected as_choice_element vs) (found as_right vs))

abbrev pub head_made : List Value → Value
head_made (term first name x ∷ []) = named_head first name
head_made (term first name x ∷ relation r ∷ vs) = choice_behind first r x vs
head_made (term first name x ∷ vs) = choice_behind first Le x vs
head_made vs = made Name.Head vs

abbrev pub literal_made : List Value → Value
literal_made (term first name x ∷ []) = named_literal first name
literal_made vs = made Name.Literal vs

abbrev pub guarded : Bool → Lexeme → Rel → TermTree → List Value → Value
guarded negated first r x vs = aggregate_item negated (left first (record { rel = r; term = x }) ∷ []) vs

abbrev pub core_made : List Value → Value
core_made (token first ∷ atom other a ∷ []) = literal first (literals.Not a)
core_made (token first ∷ item i ∷ []) = item i
core_made (term first name x ∷ []) = named_literal first name
core_made (term first name x ∷ relation r ∷ term other second y ∷ []) = literal first (literals.Compare x r y)
core_made (term first name x ∷ relation r ∷ vs) = guarded false first r x vs
core_made (term first name x ∷ vs) = guarded false first Le x vs
core_made vs = aggregate_item false [] vs

abbrev pub negated_made : List Value → Value
negated_made (term first name x ∷ []) = named_atom first name
negated_made (term first name x ∷ relation r ∷ vs) = guarded true first r x vs
negated_made (term first name x ∷ vs) = guarded true first Le x vs
negated_made vs = aggregate_item true [] vs

abbrev pub body_made : List Value → Value
body_made (literal first l ∷ Value.condition ls ∷ vs) = body (items.All first.at l ls ∷ or_empty (found as_body vs))
body_made (literal first l ∷ vs) = body (items.Plain l ∷ or_empty (found as_body vs))
body_made (item i ∷ vs) = body (i ∷ or_empty (found as_body vs))
body_made vs = nothing

abbrev pub open_item_made : List Value → Value
open_item_made (literal first l ∷ []) = item (items.Plain l)
open_item_made (item i ∷ []) = item i
open_item_made vs = nothing

-- ranks

abbrev pub operated : Terminal → TermTree → TermTree → TermTree
operated t.Plus x y = sum_of t.Plus x y
operated t.Minus x y = sum_of t.Minus x y
operated t.Dots x y = terms.Range x y
operated sign x y = product_of sign x y

-- a term, and what stands behind its first primary term
abbrev pub term_from : Lexeme → TermTree → List Value → Value
term_from first x [] = term first None x
term_from first x (token sign ∷ term other name y ∷ vs) = term_from first (operated sign.terminal x y) vs
term_from first x vs = nothing

abbrev pub is_or : Terminal → Bool
is_or t.Or = true
is_or sign = false

-- the formulas that stand behind `&`, or behind `|`
abbrev pub joined_by : Bool → List Value → List FormulaTree
joined_by bar [] = []
joined_by bar (token sign ∷ formula first f ∷ vs) = if beq bar (is_or sign.terminal) then f ∷ joined_by bar vs else joined_by bar vs
joined_by bar (v ∷ vs) = joined_by bar vs

abbrev pub formula_from : Lexeme → FormulaTree → List Value → Value
formula_from first f vs = formula first (disjunction_of (conjunction_of (f ∷ joined_by false vs) ∷ joined_by true vs))

abbrev pub mixed_made : List Value → Value
mixed_made (either first a x ∷ []) = either first a x
mixed_made (either first a x ∷ token sign ∷ term other name y ∷ vs) = term_from first x (token sign ∷ term other name y ∷ vs)
mixed_made (either first a x ∷ vs) = formula_from first (formulas.Atom a) vs
mixed_made (formula first f ∷ vs) = formula_from first f vs
mixed_made (term first name x ∷ []) = term first name x
mixed_made (term first name x ∷ vs) = term_from first x vs
mixed_made vs = nothing

-- behind a parenthesis
abbrev pub front_group : Lexeme → List Value → Value
front_group first (either inner a x ∷ token close ∷ []) = either first a x
front_group first (formula inner f ∷ token close ∷ []) = formula first f
front_group first (either inner a x ∷ vs) = term first None (terms.Tuple (x ∷ collected as_term vs))
front_group first vs = group first vs

abbrev pub front_name : Lexeme → List Value → Value
front_name first [] = either first (record { name = first.bytes; terms = [] }) (terms.Const first.bytes)
front_name first (Value.terms xs ∷ vs) = either first (record { name = first.bytes; terms = xs }) (terms.Fun first.bytes xs)
front_name first vs = nothing

abbrev pub negative : Lexeme → List Value → Value
negative first (term other name x ∷ []) = term first None (terms.Minus x)
negative first vs = nothing

abbrev pub front : Terminal → Lexeme → List Value → Value
front t.Not first vs = member first vs
front t.Minus first vs = negative first vs
front t.Open first vs = front_group first vs
front t.Word first vs = front_name first vs
front t.Base first vs = front_name first vs
front t.Preference first vs = front_name first vs
front k first vs = primary k first vs

abbrev pub front_made : List Value → Value
front_made (token first ∷ vs) = front first.terminal first vs
front_made vs = nothing

abbrev pub weighed : Lexeme → TermTree → List Value → Value
weighed first x vs = ranked first (record { weights = x ∷ collected as_term vs; target = or_nothing (found as_target vs) })

abbrev pub unweighed : Lexeme → TargetTree → Value
unweighed first x = ranked first (record { weights = []; target = x })

abbrev pub ranked_made : List Value → Value
ranked_made (token first ∷ token name ∷ []) = unweighed first (targets.Name name.bytes)
ranked_made (formula first f ∷ []) = unweighed first (targets.For f)
ranked_made (either first a x ∷ []) = unweighed first (targets.For (formulas.Atom a))
ranked_made (either first a x ∷ vs) = weighed first x vs
ranked_made (term first name x ∷ vs) = weighed first x vs
ranked_made vs = nothing

abbrev pub part_made : Part → List Value → Value
part_made (Part.Section whole) vs = program (statements_of (opened vs))
part_made Part.Opening vs = opening (opened vs)
part_made (Part.Of Name.Head) vs = head_made vs
part_made (Part.Of Name.Literal) vs = literal_made vs
part_made (Part.Of Name.Body) vs = body_made vs
part_made (Part.Of Name.OpenItem) vs = open_item_made vs
part_made (Part.Of Name.Ranked) vs = ranked_made vs
part_made Part.Core vs = core_made vs
part_made Part.Negated vs = negated_made vs
part_made Part.Mixed vs = mixed_made vs
part_made Part.Front vs = front_made vs
part_made (Part.Of n) vs = made n vs

abbrev pub factored : Grammar Part Terminal Class Lexeme Value
factored = record { kind = λ x. x.terminal; leaf = λ x. token x ∷ []; rule = part_rule; build = part_made; class = class_of }
