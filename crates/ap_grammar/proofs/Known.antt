-- Every derivation of the grammar has a value of its rule's sort.
use Rattle.std.proofs.Common.{◌≡◌, ℕ, Bool, true, false, List, [], ◌∷◌, None, refl, ap, ◌∙◌, ◌⊎◌, inl, inr}
use Rattle.grammar.specs.Form.{Form, Derives, ◌⨾◌, opt}
use Rattle.grammar.specs.Form.Form.{Call}
use Rattle.grammar.proofs.Interpret.{Reads, read}
use Rattle.ap_syntax.specs.declared.rules.AggElement.{AggElement}
use Rattle.ap_syntax.specs.declared.rules.BodyItem.{BodyItem}
use Rattle.ap_syntax.specs.declared.rules.Function.{Function}
use Rattle.ap_syntax.specs.declared.preferences.Formula.{Formula as FormulaTree}
use Rattle.ap_syntax.specs.declared.preferences.Target.{Target as TargetTree}
use Rattle.ap_syntax.specs.declared.programs.Statement.{Statement as StatementTree}
use Rattle.ap_grammar.specs.declared.terminals.Terminal.{Terminal}
use Rattle.ap_grammar.specs.declared.terminals.Terminal.TheVariants as t
use Rattle.ap_syntax.specs.declared.rules.HeadForm.{HeadForm}
use Rattle.ap_syntax.specs.declared.terms.Term.{Term as TermTree}
use Rattle.ap_grammar.specs.Lexemes.{Lexeme}
use Rattle.ap_grammar.specs.Values.{Value, Class}
use Rattle.ap_grammar.specs.Values.Value.{token, term, aggregate, item, body, head, formula, target, kind, statement}
use Rattle.ap_grammar.specs.Grammar.{Name, grammar, rule_of, made, aggregate_with, constant}
use Rattle.ap_grammar.proofs.Sorts.{Has, Known, Sort, term_sort, sum_sort, product_sort, unary_sort, primary_sort, ident_sort, atom_sort, relation_sort, literal_sort, left_guard_sort, right_guard_sort}

-- ---- bodies

aggregate_sort : {xs ys : List Lexeme} {vs : List Value} → Has (rule_of Name.Aggregate) xs ys vs → (first : Lexeme) × (f : Function) × (es : List AggElement) × (made Name.Aggregate vs ≡ aggregate first f es)
aggregate_sort (Reads.seq (Reads.left (Reads.tok {t = first} e)) rest) = (first, _, _, refl)
aggregate_sort (Reads.seq (Reads.right (Reads.tok {t = first} e)) rest) = (first, _, _, refl)

abbrev IsItem : Value → Type 0
IsItem v = (i : BodyItem) × (v ≡ item i)

-- an aggregate with its guards
with_guards : (negated : Bool) {xs ys : List Lexeme} {vs : List Value} → Has (opt (Call Name.LeftGuard) ⨾ Call Name.Aggregate ⨾ opt (Call Name.RightGuard)) xs ys vs → IsItem (aggregate_with negated vs)
with_guards negated (Reads.seq (Reads.left (Reads.call {v = v} m)) (Reads.seq (Reads.call {v = w} n) rest)) = let s = m.sort in let r = n.sort in rw (s.2, r.3) (_, refl)
with_guards negated (Reads.seq (Reads.right Reads.empty) (Reads.seq (Reads.call {v = w} n) rest)) = let r = n.sort in rw r.3 (_, refl)

-- what stands before the aggregate is no literal alone
begun : {xs ys : List Lexeme} {vs : List Value} → Has (opt (Call Name.LeftGuard) ⨾ Call Name.Aggregate ⨾ opt (Call Name.RightGuard)) xs ys vs → made Name.OpenItem vs ≡ aggregate_with false vs
begun (Reads.seq (Reads.left (Reads.call {v = v} m)) (Reads.seq (Reads.call {v = w} n) rest)) = let s = m.sort in rw s.2 refl
begun (Reads.seq (Reads.right Reads.empty) (Reads.seq (Reads.call {v = w} n) rest)) = let r = n.sort in rw r.3 refl

open_item_sort : {xs ys : List Lexeme} {vs : List Value} → Has (rule_of Name.OpenItem) xs ys vs → IsItem (made Name.OpenItem vs)
open_item_sort (Reads.left (Reads.call {v = v} m)) = let s = m.sort in rw s.2 (_, refl)
open_item_sort (Reads.right (Reads.seq (Reads.left (Reads.tok e)) rest)) = with_guards true rest
open_item_sort (Reads.right (Reads.seq (Reads.right Reads.empty) rest)) = let q = with_guards false rest in (q.0, begun rest ∙ q.1)

conditional_sort : {xs ys : List Lexeme} {vs : List Value} → Has (rule_of Name.Conditional) xs ys vs → IsItem (made Name.Conditional vs)
conditional_sort (Reads.seq (Reads.call {v = v} m) (Reads.call {v = w} n)) = let s = m.sort in let r = n.sort in rw (s.2, r.1) (_, refl)

body_sort : {xs ys : List Lexeme} {vs : List Value} → Has (rule_of Name.Body) xs ys vs → (is : List BodyItem) × (made Name.Body vs ≡ body is)
body_sort (Reads.left (Reads.seq (Reads.call {v = v} m) rest)) = let s = m.sort in rw s.1 (_, refl)
body_sort (Reads.right (Reads.seq (Reads.call {v = v} m) rest)) = let s = m.sort in rw s.1 (_, refl)

-- ---- formulas

member_sort : {xs ys : List Lexeme} {vs : List Value} → Has (rule_of Name.Member) xs ys vs → (first : Lexeme) × (f : FormulaTree) × (made Name.Member vs ≡ formula first f)
member_sort (Reads.seq (Reads.left (Reads.tok {t = first} e)) (Reads.left (Reads.call {v = v} m))) = let s = m.sort in rw s.2 (first, _, refl)
member_sort (Reads.seq (Reads.left (Reads.tok {t = first} e)) (Reads.right (Reads.seq (Reads.tok f) (Reads.seq (Reads.call {v = v} m) (Reads.tok g))))) = let s = m.sort in rw s.2 (first, _, refl)
member_sort (Reads.seq (Reads.right Reads.empty) (Reads.left (Reads.call {v = v} m))) = let s = m.sort in rw s.2 (s.0, _, refl)
member_sort (Reads.seq (Reads.right Reads.empty) (Reads.right (Reads.seq (Reads.tok {t = first} f) (Reads.seq (Reads.call {v = v} m) (Reads.tok g))))) = let s = m.sort in rw s.2 (first, _, refl)

target_sort : {xs ys : List Lexeme} {vs : List Value} → Has (rule_of Name.Target) xs ys vs → (first : Lexeme) × (x : TargetTree) × (made Name.Target vs ≡ target first x)
target_sort (Reads.left (Reads.call {v = v} m)) = let s = m.sort in rw s.2 (s.0, _, refl)
target_sort (Reads.right (Reads.seq (Reads.tok {t = first} e) (Reads.call {v = v} m))) = let s = m.sort in rw s.is (first, _, refl)

kind_sort : {xs ys : List Lexeme} {vs : List Value} → Has (rule_of Name.Kind) xs ys vs → (k : List ℕ) × (made Name.Kind vs ≡ kind k)
kind_sort (Reads.seq (Reads.call {v = v} m) (Reads.right Reads.empty)) = let s = m.sort in rw s.is (_, refl)
kind_sort (Reads.seq (Reads.call {v = v} m) (Reads.left (Reads.seq (Reads.tok e) (Reads.seq (Reads.call {v = w} n) (Reads.tok f))))) = let s = m.sort in let r = n.sort in rw (s.is, r.is) (_, refl)

-- ---- all rules

pub derived : {a : Form Name Terminal Class} {xs ys : List Lexeme} {vs : List Value} → Has a xs ys vs → Derives grammar a xs ys vs
derived (Reads.tok e) = Derives.tok e
derived (Reads.call m) = m.derives
derived Reads.empty = Derives.empty
derived (Reads.seq d e) = Derives.seq (derived d) (derived e)
derived (Reads.left d) = Derives.left (derived d)
derived (Reads.right d) = Derives.right (derived d)
derived Reads.none = Derives.none
derived (Reads.more d e) = Derives.more (derived d) (derived e)
derived (Reads.followed d e) = Derives.followed (derived d) (derived e)

abbrev IsStatement : Value → Type 0
IsStatement v = (x : StatementTree) × (v ≡ statement x)

rule_sort : {xs ys : List Lexeme} {vs : List Value} (of_type : Bool) → Has (rule_of (Name.Rule of_type)) xs ys vs → IsStatement (made (Name.Rule of_type) vs)
rule_sort false (Reads.left (Reads.seq (Reads.call {v = v} m) rest)) = let s = m.sort in rw s.2 (_, refl)
rule_sort false (Reads.right (Reads.seq (Reads.tok e) rest)) = (_, refl)
rule_sort true (Reads.seq (Reads.call {v = v} m) rest) = let s = m.sort in rw s.2 (_, refl)

head_sort : {xs ys : List Lexeme} {vs : List Value} → Has (rule_of Name.Head) xs ys vs → (first : Lexeme) × (h : HeadForm) × (made Name.Head vs ≡ head first h)
head_sort (Reads.left (Reads.call {v = v} m)) = let s = m.sort in rw s.2 (_, _, refl)
head_sort (Reads.right (Reads.seq (Reads.left (Reads.call {v = v} m)) (Reads.seq (Reads.seq (Reads.tok e) d) rest))) = let s = m.sort in rw s.2 (_, _, refl)
head_sort (Reads.right (Reads.seq (Reads.right Reads.empty) (Reads.seq (Reads.seq (Reads.tok e) d) rest))) = (_, _, refl)

statement_sort : {xs ys : List Lexeme} {vs : List Value} (whole of_type : Bool) → Has (rule_of (Name.Statement whole of_type)) xs ys vs → IsStatement (made (Name.Statement whole of_type) vs)
statement_sort false of_type (Reads.left (Reads.call {v = v} m)) = let s = m.sort in rw s.1 (_, refl)
statement_sort false of_type (Reads.right (Reads.left (Reads.call {v = v} m))) = let s = m.sort in rw s.1 (_, refl)
statement_sort false of_type (Reads.right (Reads.right (Reads.left (Reads.call {v = v} m)))) = let s = m.sort in rw s.1 (_, refl)
statement_sort false of_type (Reads.right (Reads.right (Reads.right (Reads.call {v = v} m)))) = let s = m.sort in rw s.1 (_, refl)
statement_sort true of_type (Reads.left (Reads.call {v = v} m)) = let s = m.sort in rw s.1 (_, refl)
statement_sort true of_type (Reads.right (Reads.left (Reads.call {v = v} m))) = let s = m.sort in rw s.1 (_, refl)
statement_sort true of_type (Reads.right (Reads.right (Reads.call {v = v} m))) = let s = m.sort in rw s.1 (_, refl)

one_sort : {xs ys : List Lexeme} {vs : List Value} (of_type : Bool) → Has (rule_of (Name.One of_type)) xs ys vs → IsStatement (made (Name.One of_type) vs)
one_sort of_type (Reads.left (Reads.call {v = v} m)) = let s = m.sort in rw s.1 (_, refl)
one_sort of_type (Reads.right (Reads.left (Reads.call {v = v} m))) = let s = m.sort in rw s.1 (_, refl)
one_sort of_type (Reads.right (Reads.right (Reads.call {v = v} m))) = let s = m.sort in rw s.1 (_, refl)

type_opening_sort : {xs ys : List Lexeme} {vs : List Value} → Has (rule_of Name.TypeOpening) xs ys vs → IsStatement (made Name.TypeOpening vs)
type_opening_sort (Reads.seq (Reads.tok e) (Reads.seq (Reads.tok f) (Reads.seq (Reads.tok g) (Reads.seq (Reads.call {v = v} m) rest)))) = let s = m.sort in rw s.1 (_, refl)

named_constant : (v : Value) (name : Lexeme) → v ≡ token name → ((name.terminal ≡ t.Word) ⊎ ((name.terminal ≡ t.Base) ⊎ (name.terminal ≡ t.Preference))) → (first : Lexeme) × (x : TermTree) × (made Name.Constant (v ∷ []) ≡ term first None x)
named_constant v name e (inl f) = rw e (name, _, ap (λ k. constant k name []) f)
named_constant v name e (inr (inl f)) = rw e (name, _, ap (λ k. constant k name []) f)
named_constant v name e (inr (inr f)) = rw e (name, _, ap (λ k. constant k name []) f)

constant_sort : {xs ys : List Lexeme} {vs : List Value} → Has (rule_of Name.Constant) xs ys vs → (first : Lexeme) × (x : TermTree) × (made Name.Constant vs ≡ term first None x)
constant_sort (Reads.left (Reads.seq (Reads.left (Reads.tok {t = first} e)) (Reads.tok {t = number} f))) = (first, _, ap (λ k. constant k first (token number ∷ [])) e)
constant_sort (Reads.left (Reads.seq (Reads.right Reads.empty) (Reads.tok {t = first} e))) = (first, _, ap (λ k. constant k first []) e)
constant_sort (Reads.right (Reads.left (Reads.call {v = v} m))) = let s = m.sort in named_constant v s.name s.is s.kind_is
constant_sort (Reads.right (Reads.right (Reads.tok {t = first} e))) = (first, _, ap (λ k. constant k first []) e)

const_sort : {xs ys : List Lexeme} {vs : List Value} → Has (rule_of Name.Const) xs ys vs → IsStatement (made Name.Const vs)
const_sort (Reads.seq (Reads.tok e) (Reads.seq (Reads.call {v = v} m) (Reads.seq (Reads.tok f) (Reads.seq (Reads.call {v = w} n) rest)))) = let s = m.sort in let r = n.sort in rw (s.is, r.2) (_, refl)

show_sort : {xs ys : List Lexeme} {vs : List Value} → Has (rule_of Name.Show) xs ys vs → IsStatement (made Name.Show vs)
show_sort (Reads.seq (Reads.tok e) (Reads.seq (Reads.left (Reads.seq (Reads.call {v = v} m) (Reads.seq (Reads.tok f) (Reads.tok g)))) (Reads.tok h))) = let s = m.sort in rw s.is (_, refl)
show_sort (Reads.seq (Reads.tok e) (Reads.seq (Reads.right Reads.empty) (Reads.tok h))) = (_, refl)

defined_sort : {xs ys : List Lexeme} {vs : List Value} → Has (rule_of Name.Defined) xs ys vs → IsStatement (made Name.Defined vs)
defined_sort (Reads.seq (Reads.tok e) (Reads.seq (Reads.call {v = v} m) (Reads.seq (Reads.tok f) (Reads.seq (Reads.tok g) rest)))) = let s = m.sort in rw s.is (_, refl)

preference_sort : {xs ys : List Lexeme} {vs : List Value} → Has (rule_of Name.Preference) xs ys vs → IsStatement (made Name.Preference vs)
preference_sort (Reads.seq (Reads.tok e) (Reads.seq (Reads.tok f) (Reads.seq (Reads.call {v = v} m) (Reads.seq (Reads.tok g) (Reads.seq (Reads.call {v = w} n) rest))))) = let s = m.sort in let r = n.sort in rw (s.is, r.1) (_, refl)

optimize_sort : {xs ys : List Lexeme} {vs : List Value} → Has (rule_of Name.Optimize) xs ys vs → IsStatement (made Name.Optimize vs)
optimize_sort (Reads.seq (Reads.tok e) (Reads.seq (Reads.tok f) (Reads.seq (Reads.call {v = v} m) rest))) = let s = m.sort in rw s.is (_, refl)

sort_step : (n : Name) (xs ys : List Lexeme) (vs : List Value) → Has (rule_of n) xs ys vs → Sort n xs ys (made n vs)
sort_step (Name.Text whole of_type) xs ys vs d = tt
sort_step (Name.BaseSection whole) xs ys vs d = tt
sort_step (Name.TypeSection whole) xs ys vs d = tt
sort_step Name.BaseOpening xs ys vs (Reads.seq (Reads.tok e) d) = (_, refl)
sort_step Name.TypeOpening xs ys vs d = type_opening_sort d
sort_step (Name.Statement whole of_type) xs ys vs d = statement_sort whole of_type d
sort_step (Name.One of_type) xs ys vs d = one_sort of_type d
sort_step Name.Const xs ys vs d = const_sort d
sort_step Name.Constant xs ys vs d = constant_sort d
sort_step Name.Show xs ys vs d = show_sort d
sort_step Name.Defined xs ys vs d = defined_sort d
sort_step (Name.Rule of_type) xs ys vs d = rule_sort of_type d
sort_step Name.Head xs ys vs d = head_sort d
sort_step Name.LeftGuard xs ys vs d = left_guard_sort d
sort_step Name.RightGuard xs ys vs d = right_guard_sort d
sort_step Name.ChoiceElement xs ys vs d = tt
sort_step Name.Condition xs ys vs d = (_, refl)
sort_step Name.Literals xs ys vs d = (_, refl)
sort_step Name.Literal xs ys vs d = literal_sort d
sort_step Name.Body xs ys vs d = body_sort d
sort_step Name.OpenItem xs ys vs d = open_item_sort d
sort_step Name.Conditional xs ys vs d = conditional_sort d
sort_step Name.Aggregate xs ys vs d = aggregate_sort d
sort_step Name.AggElement xs ys vs d = tt
sort_step Name.Relation xs ys vs d = relation_sort d
sort_step Name.Atom xs ys vs d = atom_sort d
sort_step Name.Arguments xs ys vs d = (_, refl)
sort_step Name.Ident xs ys vs d = ident_sort d
sort_step Name.Term xs ys vs d = term_sort d
sort_step Name.Sum xs ys vs d = sum_sort d
sort_step Name.Product xs ys vs d = product_sort d
sort_step Name.Unary xs ys vs d = unary_sort d
sort_step Name.Primary xs ys vs d = primary_sort d
sort_step Name.Preference xs ys vs d = preference_sort d
sort_step Name.Optimize xs ys vs d = optimize_sort d
sort_step Name.Kind xs ys vs d = kind_sort d
sort_step Name.Element xs ys vs d = tt
sort_step Name.Given xs ys vs d = tt
sort_step Name.Domain xs ys vs d = tt
sort_step Name.Ranked xs ys vs d = tt
sort_step Name.Target xs ys vs d = target_sort d
sort_step Name.Formula xs ys vs d = (_, _, refl)
sort_step Name.Conjunction xs ys vs d = (_, _, refl)
sort_step Name.Member xs ys vs d = member_sort d

pub known_step : (n : Name) (xs ys : List Lexeme) (vs : List Value) → Has (rule_of n) xs ys vs → Known n xs ys (made n vs)
known_step n xs ys vs d = record { derives = Derives.call (derived d); sort = sort_step n xs ys vs d }

-- every derivation is known
pub all_known : {a : Form Name Terminal Class} {xs ys : List Lexeme} {vs : List Value} → Derives grammar a xs ys vs → Has a xs ys vs
all_known d = read known_step d
