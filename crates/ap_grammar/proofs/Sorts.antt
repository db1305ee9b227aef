-- What the rules of the grammar come to: the sort of each rule's value, and which terms may be read as atoms.
use Rattle.std.proofs.Common.{◌≡◌, ℕ, List, [], ◌∷◌, Option, Some, None, refl, ap, ◌∙◌, ◌⊎◌, inl, inr}
use Rattle.std.specs.Prelude.{IfSome}
use Rattle.grammar.specs.Form.{Form, Derives, ◌⨾◌, ◌∣◌, opt}
use Rattle.grammar.specs.Form.Form.{Tok, Call, Star}
use Rattle.grammar.proofs.Interpret.{Reads}
use Rattle.ap_syntax.specs.declared.terms.Atom.{Atom as AtomTree}
use Rattle.ap_syntax.specs.declared.terms.Literal.{Literal as LiteralTree}
use Rattle.ap_syntax.specs.declared.terms.Rel.{Rel}
use Rattle.ap_syntax.specs.declared.terms.Term.{Term as TermTree}
use Rattle.ap_syntax.specs.declared.terms.Term.TheVariants as terms
use Rattle.ap_syntax.specs.declared.rules.AggElement.{AggElement}
use Rattle.ap_syntax.specs.declared.rules.BodyItem.{BodyItem}
use Rattle.ap_syntax.specs.declared.rules.Function.{Function}
use Rattle.ap_syntax.specs.declared.rules.Guard.{Guard}
use Rattle.ap_syntax.specs.declared.rules.HeadForm.{HeadForm}
use Rattle.ap_syntax.specs.declared.preferences.Formula.{Formula as FormulaTree}
use Rattle.ap_syntax.specs.declared.preferences.Target.{Target as TargetTree}
use Rattle.ap_syntax.specs.declared.programs.Statement.{Statement as StatementTree}
use Rattle.ap_grammar.specs.declared.terminals.Terminal.{Terminal}
use Rattle.ap_grammar.specs.declared.terminals.Terminal.TheVariants as t
use Rattle.ap_grammar.specs.Lexemes.{Lexeme}
use Rattle.ap_grammar.specs.Values.{Value, Class}
use Rattle.ap_grammar.specs.Values.Value.{token, relation, atom, term, literal, left, right, aggregate, item, body, head, formula, target, kind, statement}
use Rattle.ap_grammar.specs.Grammar.{Name, grammar, rule_of, made, sum_from, sum_of, product_from, product_of, named, primary, group}

abbrev pub Ends : Name → List Lexeme → List Lexeme → Value → Type 0
Ends n xs ys v = Derives grammar (Call n) xs ys (v ∷ [])

-- a term; where it may be read as an atom, the same tokens are that atom
pub record IsTermOf (xs ys : List Lexeme) (v : Value) : Type 0 where
  pub first : Lexeme
  pub name : Option AtomTree
  pub tree : TermTree
  pub is : v ≡ term first name tree
  pub atom_is : IfSome name (λ a. Ends Name.Atom xs ys (atom first a))

-- a name, by its token
pub record IsIdent (v : Value) : Type 0 where
  pub name : Lexeme
  pub is : v ≡ token name
  pub kind_is : (name.terminal ≡ t.Word) ⊎ ((name.terminal ≡ t.Base) ⊎ (name.terminal ≡ t.Preference))

abbrev pub Sort : Name → List Lexeme → List Lexeme → Value → Type 0
Sort Name.Term xs ys v = IsTermOf xs ys v
Sort Name.Sum xs ys v = IsTermOf xs ys v
Sort Name.Product xs ys v = IsTermOf xs ys v
Sort Name.Unary xs ys v = IsTermOf xs ys v
Sort Name.Primary xs ys v = IsTermOf xs ys v
Sort Name.Ident xs ys v = IsIdent v
Sort Name.Atom xs ys v = (first : Lexeme) × (a : AtomTree) × (v ≡ atom first a)
Sort Name.Arguments xs ys v = (ts : List TermTree) × (v ≡ Value.terms ts)
Sort Name.Relation xs ys v = (r : Rel) × (v ≡ relation r)
Sort Name.Literal xs ys v = (first : Lexeme) × (l : LiteralTree) × (v ≡ literal first l)
Sort Name.Head xs ys v = (first : Lexeme) × (h : HeadForm) × (v ≡ head first h)
Sort Name.Constant xs ys v = (first : Lexeme) × (x : TermTree) × (v ≡ term first None x)
Sort Name.Literals xs ys v = (ls : List LiteralTree) × (v ≡ Value.literals ls)
Sort Name.Condition xs ys v = (ls : List LiteralTree) × (v ≡ Value.condition ls)
Sort Name.Aggregate xs ys v = (first : Lexeme) × (f : Function) × (es : List AggElement) × (v ≡ aggregate first f es)
Sort Name.LeftGuard xs ys v = (first : Lexeme) × (g : Guard) × (v ≡ left first g)
Sort Name.RightGuard xs ys v = (g : Guard) × (v ≡ right g)
Sort Name.Body xs ys v = (is : List BodyItem) × (v ≡ body is)
Sort Name.OpenItem xs ys v = (i : BodyItem) × (v ≡ item i)
Sort Name.Conditional xs ys v = (i : BodyItem) × (v ≡ item i)
Sort Name.Member xs ys v = (first : Lexeme) × (f : FormulaTree) × (v ≡ formula first f)
Sort Name.Conjunction xs ys v = (first : Lexeme) × (f : FormulaTree) × (v ≡ formula first f)
Sort Name.Formula xs ys v = (first : Lexeme) × (f : FormulaTree) × (v ≡ formula first f)
Sort Name.Target xs ys v = (first : Lexeme) × (x : TargetTree) × (v ≡ target first x)
Sort Name.Kind xs ys v = (k : List ℕ) × (v ≡ kind k)
Sort (Name.Statement whole of_type) xs ys v = (s : StatementTree) × (v ≡ statement s)
Sort (Name.One of_type) xs ys v = (s : StatementTree) × (v ≡ statement s)
Sort Name.BaseOpening xs ys v = (s : StatementTree) × (v ≡ statement s)
Sort Name.TypeOpening xs ys v = (s : StatementTree) × (v ≡ statement s)
Sort (Name.Rule of_type) xs ys v = (s : StatementTree) × (v ≡ statement s)
Sort Name.Const xs ys v = (s : StatementTree) × (v ≡ statement s)
Sort Name.Show xs ys v = (s : StatementTree) × (v ≡ statement s)
Sort Name.Defined xs ys v = (s : StatementTree) × (v ≡ statement s)
Sort Name.Preference xs ys v = (s : StatementTree) × (v ≡ statement s)
Sort Name.Optimize xs ys v = (s : StatementTree) × (v ≡ statement s)
Sort n xs ys v = Unit {0}

pub record Known (n : Name) (xs ys : List Lexeme) (v : Value) : Type 0 where
  pub derives : Ends n xs ys v
  pub sort : Sort n xs ys v

abbrev pub Has : Form Name Terminal Class → List Lexeme → List Lexeme → List Value → Type 0
Has a xs ys vs = Reads grammar Known a xs ys vs

-- ---- terms

-- a term that is no atom
other_term : (xs ys : List Lexeme) (first : Lexeme) (x : TermTree) → IsTermOf xs ys (term first None x)
other_term xs ys first x = record { first = first; name = None; tree = x; is = refl; atom_is = tt }

summed : (first : Lexeme) (x : TermTree) {xs ys : List Lexeme} {vs : List Value} → Has (Star ((Tok t.Plus ∣ Tok t.Minus) ⨾ Call Name.Product)) xs ys vs → (y : TermTree) × (sum_from first x vs ≡ term first None y)
summed first x Reads.none = (x, refl)
summed first x (Reads.more (Reads.seq (Reads.left (Reads.tok {t = sign} e)) (Reads.call {v = v} m)) rest) = let s = m.sort in let q = summed first (sum_of sign.terminal x s.tree) rest in (q.0, rw s.is q.1)
summed first x (Reads.more (Reads.seq (Reads.right (Reads.tok {t = sign} e)) (Reads.call {v = v} m)) rest) = let s = m.sort in let q = summed first (sum_of sign.terminal x s.tree) rest in (q.0, rw s.is q.1)

multiplied : (first : Lexeme) (x : TermTree) {xs ys : List Lexeme} {vs : List Value} → Has (Star ((Tok t.Times ∣ Tok t.Slash ∣ Tok t.Backslash) ⨾ Call Name.Unary)) xs ys vs → (y : TermTree) × (product_from first x vs ≡ term first None y)
multiplied first x Reads.none = (x, refl)
multiplied first x (Reads.more (Reads.seq (Reads.left (Reads.tok {t = sign} e)) (Reads.call {v = v} m)) rest) = let s = m.sort in let q = multiplied first (product_of sign.terminal x s.tree) rest in (q.0, rw s.is q.1)
multiplied first x (Reads.more (Reads.seq (Reads.right (Reads.left (Reads.tok {t = sign} e))) (Reads.call {v = v} m)) rest) = let s = m.sort in let q = multiplied first (product_of sign.terminal x s.tree) rest in (q.0, rw s.is q.1)
multiplied first x (Reads.more (Reads.seq (Reads.right (Reads.right (Reads.tok {t = sign} e))) (Reads.call {v = v} m)) rest) = let s = m.sort in let q = multiplied first (product_of sign.terminal x s.tree) rest in (q.0, rw s.is q.1)

-- the same term over the same tokens
again : {xs ys : List Lexeme} {v : Value} (s : IsTermOf xs ys v) → IsTermOf xs ys (term s.first s.name s.tree)
again s = record { first = s.first; name = s.name; tree = s.tree; is = refl; atom_is = s.atom_is }

-- a term that is no atom, by an equation
valued_term : {xs ys : List Lexeme} {v : Value} (first : Lexeme) (x : TermTree) → v ≡ term first None x → IsTermOf xs ys v
valued_term first x e = record { first = first; name = None; tree = x; is = e; atom_is = tt }

-- what a sum makes of a term and signs with further terms
sum_of_more : (xs ys : List Lexeme) (v w : Value) (ws : List Value) (first : Lexeme) (name : Option AtomTree) (x y : TermTree) → v ≡ term first name x → sum_from first x (w ∷ ws) ≡ term first None y → IsTermOf xs ys (made Name.Sum (v ∷ w ∷ ws))
sum_of_more xs ys v w ws first name x y e h = rw e (valued_term first y h)

product_of_more : (xs ys : List Lexeme) (v w : Value) (ws : List Value) (first : Lexeme) (name : Option AtomTree) (x y : TermTree) → v ≡ term first name x → product_from first x (w ∷ ws) ≡ term first None y → IsTermOf xs ys (made Name.Product (v ∷ w ∷ ws))
product_of_more xs ys v w ws first name x y e h = rw e (valued_term first y h)

pub sum_sort : {xs ys : List Lexeme} {vs : List Value} → Has (rule_of Name.Sum) xs ys vs → IsTermOf xs ys (made Name.Sum vs)
sum_sort (Reads.seq (Reads.call {v = v} m) Reads.none) = let s = m.sort in rw s.is (again s)
sum_sort (Reads.seq (Reads.call {v = v} m) (Reads.more (Reads.seq (Reads.left (Reads.tok {t = sign} e)) (Reads.call n)) rest)) =
    let s = m.sort in let q = summed s.first s.tree (Reads.more (Reads.seq (Reads.left (Reads.tok {t = sign} e)) (Reads.call n)) rest) in sum_of_more _ _ v _ _ s.first s.name s.tree q.0 s.is q.1
sum_sort (Reads.seq (Reads.call {v = v} m) (Reads.more (Reads.seq (Reads.right (Reads.tok {t = sign} e)) (Reads.call n)) rest)) =
    let s = m.sort in let q = summed s.first s.tree (Reads.more (Reads.seq (Reads.right (Reads.tok {t = sign} e)) (Reads.call n)) rest) in sum_of_more _ _ v _ _ s.first s.name s.tree q.0 s.is q.1

pub product_sort : {xs ys : List Lexeme} {vs : List Value} → Has (rule_of Name.Product) xs ys vs → IsTermOf xs ys (made Name.Product vs)
product_sort (Reads.seq (Reads.call {v = v} m) Reads.none) = let s = m.sort in rw s.is (again s)
product_sort (Reads.seq (Reads.call {v = v} m) (Reads.more (Reads.seq (Reads.left (Reads.tok {t = sign} e)) (Reads.call n)) rest)) =
    let s = m.sort in let q = multiplied s.first s.tree (Reads.more (Reads.seq (Reads.left (Reads.tok {t = sign} e)) (Reads.call n)) rest) in product_of_more _ _ v _ _ s.first s.name s.tree q.0 s.is q.1
product_sort (Reads.seq (Reads.call {v = v} m) (Reads.more (Reads.seq (Reads.right (Reads.left (Reads.tok {t = sign} e))) (Reads.call n)) rest)) =
    let s = m.sort in let q = multiplied s.first s.tree (Reads.more (Reads.seq (Reads.right (Reads.left (Reads.tok {t = sign} e))) (Reads.call n)) rest) in product_of_more _ _ v _ _ s.first s.name s.tree q.0 s.is q.1
product_sort (Reads.seq (Reads.call {v = v} m) (Reads.more (Reads.seq (Reads.right (Reads.right (Reads.tok {t = sign} e))) (Reads.call n)) rest)) =
    let s = m.sort in let q = multiplied s.first s.tree (Reads.more (Reads.seq (Reads.right (Reads.right (Reads.tok {t = sign} e))) (Reads.call n)) rest) in product_of_more _ _ v _ _ s.first s.name s.tree q.0 s.is q.1

pub term_sort : {xs ys : List Lexeme} {vs : List Value} → Has (rule_of Name.Term) xs ys vs → IsTermOf xs ys (made Name.Term vs)
term_sort (Reads.seq (Reads.call {v = v} m) (Reads.right Reads.empty)) = let s = m.sort in rw s.is (again s)
term_sort (Reads.seq (Reads.call {v = v} m) (Reads.left (Reads.seq (Reads.tok e) (Reads.call {v = w} n)))) = let s = m.sort in let r = n.sort in rw (s.is, r.is) (other_term _ _ s.first (terms.Range s.tree r.tree))

pub unary_sort : {xs ys : List Lexeme} {vs : List Value} → Has (rule_of Name.Unary) xs ys vs → IsTermOf xs ys (made Name.Unary vs)
unary_sort (Reads.seq (Reads.right Reads.empty) (Reads.call {v = v} m)) = let s = m.sort in rw s.is (again s)
unary_sort (Reads.seq (Reads.left (Reads.tok {t = minus} e)) (Reads.call {v = v} m)) = let s = m.sort in rw s.is (other_term _ _ minus (terms.Minus s.tree))

-- ---- names and atoms

pub ident_sort : {xs ys : List Lexeme} {vs : List Value} → Has (rule_of Name.Ident) xs ys vs → IsIdent (made Name.Ident vs)
ident_sort (Reads.left (Reads.tok {t = name} e)) = record { name = name; is = refl; kind_is = inl e }
ident_sort (Reads.right (Reads.left (Reads.tok {t = name} e))) = record { name = name; is = refl; kind_is = inr (inl e) }
ident_sort (Reads.right (Reads.right (Reads.tok {t = name} e))) = record { name = name; is = refl; kind_is = inr (inr e) }

pub name_primary : (name : Lexeme) (vs : List Value) → ((name.terminal ≡ t.Word) ⊎ ((name.terminal ≡ t.Base) ⊎ (name.terminal ≡ t.Preference))) → primary name.terminal name vs ≡ named name vs
name_primary name vs (inl e) = rw e refl
name_primary name vs (inr (inl e)) = rw e refl
name_primary name vs (inr (inr e)) = rw e refl

pub atom_sort : {xs ys : List Lexeme} {vs : List Value} → Has (rule_of Name.Atom) xs ys vs → (first : Lexeme) × (a : AtomTree) × (made Name.Atom vs ≡ atom first a)
atom_sort (Reads.seq (Reads.call {v = v} m) (Reads.right Reads.empty)) = let s = m.sort in rw s.is (s.name, _, refl)
atom_sort (Reads.seq (Reads.call {v = v} m) (Reads.left (Reads.call {v = w} n))) = let s = m.sort in let r = n.sort in rw (s.is, r.1) (s.name, _, refl)

-- a primary term that is a name with arguments or without
name_sort : (xs ys zs : List Lexeme) (v : Value) (name : Lexeme) → v ≡ token name → Ends Name.Ident xs ys v → primary name.terminal name [] ≡ named name [] → Derives grammar (opt (Call Name.Arguments)) ys zs [] → IsTermOf xs zs (made Name.Primary (v ∷ []))
name_sort xs ys zs v name e d p rest = rw e (record { first = name; name = Some _; tree = _; is = p; atom_is = Derives.call (Derives.seq (rw e at d) rest) })

function_sort : (xs ys zs : List Lexeme) (v w : Value) (name : Lexeme) (ts : List TermTree) → v ≡ token name → w ≡ Value.terms ts → Ends Name.Ident xs ys v → Ends Name.Arguments ys zs w → primary name.terminal name (Value.terms ts ∷ []) ≡ named name (Value.terms ts ∷ []) → IsTermOf xs zs (made Name.Primary (v ∷ w ∷ []))
function_sort xs ys zs v w name ts e f d g p = rw (e, f) (record { first = name; name = Some _; tree = _; is = p; atom_is = Derives.call (Derives.seq (rw e at d) (Derives.left (rw f at g))) })

-- ---- the rest

-- behind a parenthesis
group_value : (first : Lexeme) (v : Value) (vs : List Value) (inner : Lexeme) (name : Option AtomTree) (x : TermTree) (made_is : Value) → first.terminal ≡ t.Open → v ≡ term inner name x → group first (term inner name x ∷ vs) ≡ made_is → primary first.terminal first (v ∷ vs) ≡ made_is
group_value first v vs inner name x made_is e f h = ap (λ k. primary k first (v ∷ vs)) e ∙ (ap (λ u. group first (u ∷ vs)) f ∙ h)

pub primary_sort : {xs ys : List Lexeme} {vs : List Value} → Has (rule_of Name.Primary) xs ys vs → IsTermOf xs ys (made Name.Primary vs)
primary_sort (Reads.left (Reads.tok {t = first} e)) = valued_term first _ (ap (λ k. primary k first []) e)
primary_sort (Reads.right (Reads.left (Reads.tok {t = first} e))) = valued_term first _ (ap (λ k. primary k first []) e)
primary_sort (Reads.right (Reads.right (Reads.left (Reads.tok {t = first} e)))) = valued_term first _ (ap (λ k. primary k first []) e)
primary_sort (Reads.right (Reads.right (Reads.right (Reads.left (Reads.tok {t = first} e))))) = valued_term first _ (ap (λ k. primary k first []) e)
primary_sort (Reads.right (Reads.right (Reads.right (Reads.right (Reads.left (Reads.seq (Reads.call {v = v} m) (Reads.right Reads.empty))))))) =
    let s = m.sort in name_sort _ _ _ v s.name s.is m.derives (name_primary s.name [] s.kind_is) (Derives.right Derives.empty)
primary_sort (Reads.right (Reads.right (Reads.right (Reads.right (Reads.left (Reads.seq (Reads.call {v = v} m) (Reads.left (Reads.call {v = w} n)))))))) =
    let s = m.sort in let r = n.sort in function_sort _ _ _ v w s.name r.0 s.is r.1 m.derives n.derives (name_primary s.name (Value.terms r.0 ∷ []) s.kind_is)
primary_sort (Reads.right (Reads.right (Reads.right (Reads.right (Reads.right (Reads.left (Reads.seq (Reads.tok {t = first} e) (Reads.seq (Reads.call {v = v} m) (Reads.tok {t = close} f))))))))) =
    let s = m.sort in valued_term first s.tree (group_value first v (token close ∷ []) s.first s.name s.tree _ e s.is refl)
primary_sort (Reads.right (Reads.right (Reads.right (Reads.right (Reads.right (Reads.right (Reads.left (Reads.seq (Reads.tok {t = first} e) (Reads.tok {t = close} f))))))))) = valued_term first _ (ap (λ k. primary k first (token close ∷ [])) e)
primary_sort (Reads.right (Reads.right (Reads.right (Reads.right (Reads.right (Reads.right (Reads.right (Reads.left (Reads.seq (Reads.tok {t = first} e) (Reads.seq (Reads.call {v = v} m) (Reads.seq (Reads.tok {t = comma} f) (Reads.tok {t = close} g)))))))))))) =
    let s = m.sort in valued_term first _ (group_value first v (token comma ∷ token close ∷ []) s.first s.name s.tree _ e s.is refl)
primary_sort (Reads.right (Reads.right (Reads.right (Reads.right (Reads.right (Reads.right (Reads.right (Reads.right (Reads.seq (Reads.tok {t = first} e) (Reads.seq (Reads.call {v = v} m) (Reads.seq (Reads.tok {t = comma} f) (Reads.seq (Reads.seq (Reads.call {v = w} n) others) (Reads.tok {t = close} g))))))))))))) =
    let s = m.sort in valued_term first _ (group_value first v _ s.first s.name s.tree _ e s.is refl)

pub relation_sort : {xs ys : List Lexeme} {vs : List Value} → Has (rule_of Name.Relation) xs ys vs → (r : Rel) × (made Name.Relation vs ≡ relation r)
relation_sort (Reads.left (Reads.tok e)) = (_, refl)
relation_sort (Reads.right (Reads.left (Reads.tok e))) = (_, refl)
relation_sort (Reads.right (Reads.right (Reads.left (Reads.tok e)))) = (_, refl)
relation_sort (Reads.right (Reads.right (Reads.right (Reads.left (Reads.tok e))))) = (_, refl)
relation_sort (Reads.right (Reads.right (Reads.right (Reads.right (Reads.left (Reads.tok e)))))) = (_, refl)
relation_sort (Reads.right (Reads.right (Reads.right (Reads.right (Reads.right (Reads.left (Reads.tok e))))))) = (_, refl)
relation_sort (Reads.right (Reads.right (Reads.right (Reads.right (Reads.right (Reads.right (Reads.tok e))))))) = (_, refl)

pub literal_sort : {xs ys : List Lexeme} {vs : List Value} → Has (rule_of Name.Literal) xs ys vs → (first : Lexeme) × (l : LiteralTree) × (made Name.Literal vs ≡ literal first l)
literal_sort (Reads.left (Reads.seq (Reads.left (Reads.tok {t = first} e)) (Reads.call {v = v} m))) = let s = m.sort in rw s.2 (first, _, refl)
literal_sort (Reads.left (Reads.seq (Reads.right Reads.empty) (Reads.call {v = v} m))) = let s = m.sort in rw s.2 (s.0, _, refl)
literal_sort (Reads.right (Reads.seq (Reads.call {v = v} m) (Reads.seq (Reads.call {v = w} n) (Reads.call {v = u} o)))) =
    let s = m.sort in let r = n.sort in let q = o.sort in rw (s.is, r.1, q.is) (s.first, _, refl)

pub left_guard_sort : {xs ys : List Lexeme} {vs : List Value} → Has (rule_of Name.LeftGuard) xs ys vs → (first : Lexeme) × (g : Guard) × (made Name.LeftGuard vs ≡ left first g)
left_guard_sort (Reads.seq (Reads.call {v = v} m) (Reads.right Reads.empty)) = let s = m.sort in rw s.is (s.first, _, refl)
left_guard_sort (Reads.seq (Reads.call {v = v} m) (Reads.left (Reads.call {v = w} n))) = let s = m.sort in let r = n.sort in rw (s.is, r.1) (s.first, _, refl)

pub right_guard_sort : {xs ys : List Lexeme} {vs : List Value} → Has (rule_of Name.RightGuard) xs ys vs → (g : Guard) × (made Name.RightGuard vs ≡ right g)
right_guard_sort (Reads.seq (Reads.right Reads.empty) (Reads.call {v = v} m)) = let s = m.sort in rw s.is (_, refl)
right_guard_sort (Reads.seq (Reads.left (Reads.call {v = w} n)) (Reads.call {v = v} m)) = let s = m.sort in let r = n.sort in rw (r.1, s.is) (_, refl)
