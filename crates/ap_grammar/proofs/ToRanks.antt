-- From the factored grammar to the documented one: what may be a term or a formula, and ranks.
use Rattle.std.proofs.Common.{◌≡◌, List, [], ◌∷◌, ◌++◌, Option, Some, None, refl, sym, ap, ◌∙◌, subst, ◌⊎◌, inl, inr}
use Rattle.grammar.specs.Form.{◌⨾◌, ◌∣◌}
use Rattle.grammar.specs.Form.Form.{Tok, Call, Star}
use Rattle.grammar.proofs.Interpret.{Reads}
use Rattle.ap_syntax.specs.declared.terms.Atom.{Atom as AtomTree}
use Rattle.ap_syntax.specs.declared.terms.Term.{Term as TermTree}
use Rattle.ap_syntax.specs.declared.preferences.Formula.{Formula as FormulaTree}
use Rattle.ap_grammar.specs.declared.terminals.Terminal.{Terminal}
use Rattle.ap_grammar.specs.declared.terminals.Terminal.TheVariants as t
use Rattle.ap_grammar.specs.Lexemes.{Lexeme}
use Rattle.ap_grammar.specs.Values.{Value, class_of}
use Rattle.ap_grammar.specs.Values.Value.{token, term, formula, either}
use Rattle.ap_grammar.specs.Grammar.{Name, made, sum_from, sum_of, product_from, product_of, primary, named}
use Rattle.ap_grammar.specs.Factored.{Part, part_rule, inner_behind, behind_term, front_made, term_from, operated, front, front_name}
use Rattle.ap_grammar.proofs.Sorts.{Has, Known, name_primary}
use Rattle.ap_grammar.proofs.Known.{known_step}
use Rattle.ap_grammar.proofs.ToTexts.{May, Both, known_of}
use Rattle.ap_grammar.proofs.ToItems.{primary_to}

-- ---- the values of terms, read from their first primary term on

-- a term, by its value and its tokens
pub record Any (n : Name) (xs ys : List Lexeme) (v : Value) : Type 0 where
  pub first : Lexeme
  pub name : Option AtomTree
  pub tree : TermTree
  pub is : v ≡ term first name tree

pub unary_is : {xs ys : List Lexeme} {v : Value} → Known Name.Unary xs ys v → Any Name.Unary xs ys v
unary_is k = let s = k.sort in record { first = s.first; name = s.name; tree = s.tree; is = s.is }

pub product_is : {xs ys : List Lexeme} {v : Value} → Known Name.Product xs ys v → Any Name.Product xs ys v
product_is k = let s = k.sort in record { first = s.first; name = s.name; tree = s.tree; is = s.is }

pub sum_is : {xs ys : List Lexeme} {v : Value} → Known Name.Sum xs ys v → Any Name.Sum xs ys v
sum_is k = let s = k.sort in record { first = s.first; name = s.name; tree = s.tree; is = s.is }

-- what a factor, and a summand, add to a term
factor_step : (first : Lexeme) (x : TermTree) (sign : Lexeme) (v : Value) (us : List Value) (other : Lexeme) (name : Option AtomTree) (y p : TermTree) → v ≡ term other name y → operated sign.terminal x y ≡ product_of sign.terminal x y → product_from first (product_of sign.terminal x y) us ≡ term first None p → ((ws : List Value) → term_from first (product_of sign.terminal x y) (us ++ ws) ≡ term_from first p ws) → (product_from first x (token sign ∷ v ∷ us) ≡ term first None p) × ((ws : List Value) → term_from first x (token sign ∷ v ∷ (us ++ ws)) ≡ term_from first p ws)
factor_step first x sign v us other name y p e o h k = rw e (h, λ ws. ap (λ z. term_from first z (us ++ ws)) o ∙ k ws)

summand_step : (first : Lexeme) (x : TermTree) (sign : Lexeme) (v : Value) (us : List Value) (other : Lexeme) (name : Option AtomTree) (y p : TermTree) → v ≡ term other name y → operated sign.terminal x y ≡ sum_of sign.terminal x y → sum_from first (sum_of sign.terminal x y) us ≡ term first None p → ((ws : List Value) → term_from first (sum_of sign.terminal x y) (us ++ ws) ≡ term_from first p ws) → (sum_from first x (token sign ∷ v ∷ us) ≡ term first None p) × ((ws : List Value) → term_from first x (token sign ∷ v ∷ (us ++ ws)) ≡ term_from first p ws)
summand_step first x sign v us other name y p e o h k = rw e (h, λ ws. ap (λ z. term_from first z (us ++ ws)) o ∙ k ws)

by_kind : (j k : Terminal) (x y : TermTree) → j ≡ k → operated k x y ≡ product_of k x y → operated j x y ≡ product_of j x y
by_kind j k x y e h = rw e h

by_sum_kind : (j k : Terminal) (x y : TermTree) → j ≡ k → operated k x y ≡ sum_of k x y → operated j x y ≡ sum_of j x y
by_sum_kind j k x y e h = rw e h

-- factors go on from the product
pub factors_value : (first : Lexeme) (x : TermTree) {xs ys : List Lexeme} {us : List Value} → Has (Star ((Tok t.Times ∣ Tok t.Slash ∣ Tok t.Backslash) ⨾ Call Name.Unary)) xs ys us → (p : TermTree) × (product_from first x us ≡ term first None p) × ((ws : List Value) → term_from first x (us ++ ws) ≡ term_from first p ws)
factors_value first x Reads.none = (x, refl, λ ws. refl)
factors_value first x (Reads.more (Reads.seq (Reads.left (Reads.tok {t = sign} e)) (Reads.call {v = v} m)) rest) =
    let s = unary_is m in
    let q = factors_value first (product_of sign.terminal x s.tree) rest in
    let r = factor_step first x sign v _ s.first s.name s.tree q.0 s.is (by_kind sign.terminal t.Times x s.tree e refl) q.1 q.2 in (q.0, r.0, r.1)
factors_value first x (Reads.more (Reads.seq (Reads.right (Reads.left (Reads.tok {t = sign} e))) (Reads.call {v = v} m)) rest) =
    let s = unary_is m in
    let q = factors_value first (product_of sign.terminal x s.tree) rest in
    let r = factor_step first x sign v _ s.first s.name s.tree q.0 s.is (by_kind sign.terminal t.Slash x s.tree e refl) q.1 q.2 in (q.0, r.0, r.1)
factors_value first x (Reads.more (Reads.seq (Reads.right (Reads.right (Reads.tok {t = sign} e))) (Reads.call {v = v} m)) rest) =
    let s = unary_is m in
    let q = factors_value first (product_of sign.terminal x s.tree) rest in
    let r = factor_step first x sign v _ s.first s.name s.tree q.0 s.is (by_kind sign.terminal t.Backslash x s.tree e refl) q.1 q.2 in (q.0, r.0, r.1)

-- summands go on from the sum
pub summands_value : (first : Lexeme) (x : TermTree) {xs ys : List Lexeme} {us : List Value} → Has (Star ((Tok t.Plus ∣ Tok t.Minus) ⨾ Call Name.Product)) xs ys us → (p : TermTree) × (sum_from first x us ≡ term first None p) × ((ws : List Value) → term_from first x (us ++ ws) ≡ term_from first p ws)
summands_value first x Reads.none = (x, refl, λ ws. refl)
summands_value first x (Reads.more (Reads.seq (Reads.left (Reads.tok {t = sign} e)) (Reads.call {v = v} m)) rest) =
    let s = product_is m in
    let q = summands_value first (sum_of sign.terminal x s.tree) rest in
    let r = summand_step first x sign v _ s.first s.name s.tree q.0 s.is (by_sum_kind sign.terminal t.Plus x s.tree e refl) q.1 q.2 in (q.0, r.0, r.1)
summands_value first x (Reads.more (Reads.seq (Reads.right (Reads.tok {t = sign} e)) (Reads.call {v = v} m)) rest) =
    let s = product_is m in
    let q = summands_value first (sum_of sign.terminal x s.tree) rest in
    let r = summand_step first x sign v _ s.first s.name s.tree q.0 s.is (by_sum_kind sign.terminal t.Minus x s.tree e refl) q.1 q.2 in (q.0, r.0, r.1)

-- ---- how a term or a formula begins

pub both_of : {T F : Name} {xs ys : List Lexeme} {v w : Value} → v ≡ w → Both T F xs ys v → Both T F xs ys w
both_of {T = T} {F = F} {xs = xs} {ys = ys} e b = subst (Both T F xs ys) e b

pub member_both : {xs ys : List Lexeme} {v : Value} → Known Name.Member xs ys v → Both Name.Unary Name.Member xs ys v
member_both k = let s = k.sort in both_of (sym s.2) (Both.is_formula (known_of s.2 k))

pub unary_both : {xs ys : List Lexeme} {v : Value} → Known Name.Unary xs ys v → Both Name.Unary Name.Member xs ys v
unary_both k = let s = unary_is k in both_of (sym s.is) (Both.is_term (known_of s.is k))

pub primary_is : {xs ys : List Lexeme} {v : Value} → Known Name.Primary xs ys v → Any Name.Primary xs ys v
primary_is k = let s = k.sort in record { first = s.first; name = s.name; tree = s.tree; is = s.is }

-- a primary term without a sign
pub unary_of : {xs ys : List Lexeme} {v : Value} → Known Name.Primary xs ys v → Known Name.Unary xs ys v
unary_of {v = v} k = let s = primary_is k in known_of (same v s.first s.name s.tree s.is) (known_step Name.Unary _ _ _ (Reads.seq (Reads.right Reads.empty) (Reads.call k)))
  where
    same : (v : Value) (first : Lexeme) (name : Option AtomTree) (x : TermTree) → v ≡ term first name x → made Name.Unary (v ∷ []) ≡ v
    same v first name x e = rw e refl

-- what is no name, no `not` and no `-` in front is a primary term
pub front_primary : (k : Terminal) (first : Lexeme) (vs : List Value) → first.terminal ≡ k → front k first vs ≡ primary k first vs → made Name.Primary (token first ∷ vs) ≡ front_made (token first ∷ vs)
front_primary k first vs e h = ap (λ j. primary j first vs) e ∙ (sym h ∙ ap (λ j. front j first vs) (sym e))

-- a parenthesis with a term, behind which the tuple goes on or ends
inner_term : (paren f : Lexeme) (n : Option AtomTree) (x : TermTree) {xs ms ys : List Lexeme} {vs : List Value} → paren.terminal ≡ t.Open → Known Name.Term xs ms (term f n x) → May behind_term ms ys vs → Known Name.Primary (paren ∷ xs) ys (made Name.Primary (token paren ∷ term f n x ∷ vs))
inner_term paren f n x e k rest = primary_to _ _ _ (Reads.right (Reads.right (Reads.right (Reads.right (Reads.left (Reads.seq (Reads.tok e) (Reads.right (Reads.seq (Reads.call k) rest))))))))

term_inside : (paren f : Lexeme) (n : Option AtomTree) (x : TermTree) {xs ms ys : List Lexeme} {vs : List Value} → paren.terminal ≡ t.Open → Known Name.Term xs ms (term f n x) → May behind_term ms ys vs → Both Name.Unary Name.Member (paren ∷ xs) ys (front_made (token paren ∷ term f n x ∷ vs))
term_inside paren f n x {vs = vs} e k rest = both_of (front_primary t.Open paren (term f n x ∷ vs) e refl) (unary_both (unary_of (inner_term paren f n x e k rest)))

-- the value of a tuple whose first member may be a formula
pub tuple_value : (paren f : Lexeme) (n : Option AtomTree) (a : AtomTree) (x : TermTree) (comma : Lexeme) (w : Value) (ws : List Value) → paren.terminal ≡ t.Open → made Name.Primary (token paren ∷ term f n x ∷ token comma ∷ w ∷ ws) ≡ front_made (token paren ∷ either f a x ∷ token comma ∷ w ∷ ws)
tuple_value paren f n a x comma w ws e = ap (λ j. primary j paren (term f n x ∷ token comma ∷ w ∷ ws)) e ∙ ap (λ j. front j paren (either f a x ∷ token comma ∷ w ∷ ws)) (sym e)

pub alone_value : (paren f : Lexeme) (a : AtomTree) (x : TermTree) (close : Lexeme) → paren.terminal ≡ t.Open → either paren a x ≡ front_made (token paren ∷ either f a x ∷ token close ∷ [])
alone_value paren f a x close e = ap (λ j. front j paren (either f a x ∷ token close ∷ [])) (sym e)

pub formula_value : (paren f : Lexeme) (g : FormulaTree) (close : Lexeme) → paren.terminal ≡ t.Open → made Name.Member (token paren ∷ formula f g ∷ token close ∷ []) ≡ front_made (token paren ∷ formula f g ∷ token close ∷ [])
formula_value paren f g close e = ap (λ j. front j paren (formula f g ∷ token close ∷ [])) (sym e)

pub group_alone : (paren f : Lexeme) (n : Option AtomTree) (x : TermTree) (close : Lexeme) → paren.terminal ≡ t.Open → made Name.Primary (token paren ∷ term f n x ∷ token close ∷ []) ≡ term paren None x
group_alone paren f n x close e = ap (λ j. primary j paren (term f n x ∷ token close ∷ [])) e

inner_to : (paren : Lexeme) {xs ms ys : List Lexeme} {v : Value} {vs : List Value} → paren.terminal ≡ t.Open → Both Name.Term Name.Formula xs ms v → May (inner_behind (class_of (v ∷ []))) ms ys vs → Both Name.Unary Name.Member (paren ∷ xs) ys (front_made (token paren ∷ v ∷ vs))
inner_to paren e (Both.is_term {first = f} {name = Some a} {x = x} k) rest = term_inside paren f (Some a) x e k rest
inner_to paren e (Both.is_term {first = f} {name = None} {x = x} k) rest = term_inside paren f None x e k rest
inner_to paren e (Both.is_formula {first = f} {f = g} k) (Reads.tok {t = close} c) =
    both_of (formula_value paren f g close e) (member_both (known_step Name.Member _ _ _ (Reads.seq (Reads.right Reads.empty) (Reads.right (Reads.seq (Reads.tok e) (Reads.seq (Reads.call k) (Reads.tok c)))))))
inner_to paren e (Both.is_either {first = f} {name = n} {a = a} {x = x} k l) (Reads.left (Reads.tok {t = close} c)) =
    both_of (alone_value paren f a x close e)
    (Both.is_either
    (known_of (group_alone paren f n x close e) (unary_of (inner_term paren f n x e k (Reads.left (Reads.tok {t = close} c)))))
    (known_step Name.Member _ _ _ (Reads.seq (Reads.right Reads.empty) (Reads.right (Reads.seq (Reads.tok e) (Reads.seq (Reads.call l) (Reads.tok c)))))))
inner_to paren e (Both.is_either {first = f} {name = n} {a = a} {x = x} k l) (Reads.right (Reads.seq (Reads.tok {t = comma} c) (Reads.left (Reads.tok {t = close} d)))) =
    both_of (tuple_value paren f n a x comma (token close) [] e) (unary_both (unary_of (inner_term paren f n x e k (Reads.right (Reads.seq (Reads.tok {t = comma} c) (Reads.left (Reads.tok {t = close} d)))))))
inner_to paren e (Both.is_either {first = f} {name = n} {a = a} {x = x} k l) (Reads.right (Reads.seq (Reads.tok {t = comma} c) (Reads.right (Reads.seq (Reads.seq (Reads.call {v = w} m) others) d)))) =
    both_of (tuple_value paren f n a x comma w _ e) (unary_both (unary_of (inner_term paren f n x e k (Reads.right (Reads.seq (Reads.tok {t = comma} c) (Reads.right (Reads.seq (Reads.seq (Reads.call {v = w} m) others) d)))))))

pub front_kind : (k : Terminal) (first : Lexeme) (vs : List Value) (v : Value) → first.terminal ≡ k → v ≡ front k first vs → v ≡ front_made (token first ∷ vs)
front_kind k first vs v e h = h ∙ ap (λ j. front j first vs) (sym e)

pub negative_value : (minus : Lexeme) (v : Value) (first : Lexeme) (name : Option AtomTree) (x : TermTree) → v ≡ term first name x → made Name.Unary (token minus ∷ v ∷ []) ≡ front t.Minus minus (v ∷ [])
negative_value minus v first name x e = rw e refl

-- a name with arguments or without
pub name_value : (name : Lexeme) (vs : List Value) → ((name.terminal ≡ t.Word) ⊎ ((name.terminal ≡ t.Base) ⊎ (name.terminal ≡ t.Preference))) → front name.terminal name vs ≡ front_name name vs
name_value name vs (inl e) = rw e refl
name_value name vs (inr (inl e)) = rw e refl
name_value name vs (inr (inr e)) = rw e refl

name_alone : (xs ys : List Lexeme) (v : Value) (name : Lexeme) → v ≡ token name → front name.terminal name [] ≡ front_name name [] → primary name.terminal name [] ≡ named name [] → Known Name.Unary xs ys (made Name.Primary (v ∷ [])) → Known Name.Atom xs ys (made Name.Atom (v ∷ [])) → Both Name.Unary Name.Member xs ys (front_made (v ∷ []))
name_alone xs ys v name e f p k l = rw e (both_of (sym f) (Both.is_either (known_of p (rw e at k)) (known_step Name.Member _ _ _ (Reads.seq (Reads.right Reads.empty) (Reads.left (Reads.call (rw e at l)))))))

name_applied : (xs ys : List Lexeme) (v w : Value) (name : Lexeme) (ts : List TermTree) → v ≡ token name → w ≡ Value.terms ts → front name.terminal name (Value.terms ts ∷ []) ≡ front_name name (Value.terms ts ∷ []) → primary name.terminal name (Value.terms ts ∷ []) ≡ named name (Value.terms ts ∷ []) → Known Name.Unary xs ys (made Name.Primary (v ∷ w ∷ [])) → Known Name.Atom xs ys (made Name.Atom (v ∷ w ∷ [])) → Both Name.Unary Name.Member xs ys (front_made (v ∷ w ∷ []))
name_applied xs ys v w name ts e g f p k l = rw (e, g) (both_of (sym f) (Both.is_either (known_of p (rw (e, g) at k)) (known_step Name.Member _ _ _ (Reads.seq (Reads.right Reads.empty) (Reads.left (Reads.call (rw (e, g) at l)))))))

pub front_to : (xs ys : List Lexeme) (vs : List Value) → May (part_rule Part.Front) xs ys vs → Both Name.Unary Name.Member xs ys (front_made vs)
front_to xs ys vs (Reads.left (Reads.seq (Reads.tok {t = first} e) (Reads.left (Reads.call {v = v} m)))) =
    both_of (front_kind t.Not first (v ∷ []) _ e refl) (member_both (known_step Name.Member _ _ _ (Reads.seq (Reads.left (Reads.tok e)) (Reads.left (Reads.call m)))))
front_to xs ys vs (Reads.left (Reads.seq (Reads.tok {t = first} e) (Reads.right (Reads.seq (Reads.tok {t = paren} f) (Reads.seq (Reads.call {v = v} m) (Reads.tok {t = close} g)))))) =
    both_of (front_kind t.Not first (token paren ∷ v ∷ token close ∷ []) _ e refl) (member_both (known_step Name.Member _ _ _ (Reads.seq (Reads.left (Reads.tok e)) (Reads.right (Reads.seq (Reads.tok f) (Reads.seq (Reads.call m) (Reads.tok g)))))))
front_to xs ys vs (Reads.right (Reads.left (Reads.seq (Reads.tok {t = minus} e) (Reads.call {v = v} m)))) =
    let s = primary_is m in
    both_of (front_kind t.Minus minus (v ∷ []) _ e (negative_value minus v s.first s.name s.tree s.is)) (unary_both (known_step Name.Unary _ _ _ (Reads.seq (Reads.left (Reads.tok e)) (Reads.call m))))
front_to xs ys vs (Reads.right (Reads.right (Reads.left (Reads.tok {t = first} e)))) = both_of (front_primary t.Number first [] e refl) (unary_both (unary_of (primary_to _ _ _ (Reads.left (Reads.tok e)))))
front_to xs ys vs (Reads.right (Reads.right (Reads.right (Reads.left (Reads.tok {t = first} e))))) = both_of (front_primary t.String first [] e refl) (unary_both (unary_of (primary_to _ _ _ (Reads.right (Reads.left (Reads.tok e))))))
front_to xs ys vs (Reads.right (Reads.right (Reads.right (Reads.right (Reads.left (Reads.tok {t = first} e)))))) = both_of (front_primary t.Variable first [] e refl) (unary_both (unary_of (primary_to _ _ _ (Reads.right (Reads.right (Reads.left (Reads.tok e)))))))
front_to xs ys vs (Reads.right (Reads.right (Reads.right (Reads.right (Reads.right (Reads.left (Reads.tok {t = first} e))))))) = both_of (front_primary t.Any first [] e refl) (unary_both (unary_of (primary_to _ _ _ (Reads.right (Reads.right (Reads.right (Reads.left (Reads.tok e))))))))
front_to xs ys vs (Reads.right (Reads.right (Reads.right (Reads.right (Reads.right (Reads.right (Reads.left (Reads.seq (Reads.tok {t = paren} e) (Reads.left (Reads.tok {t = close} f)))))))))) = both_of (front_primary t.Open paren (token close ∷ []) e refl) (unary_both (unary_of (primary_to _ _ _ (Reads.right (Reads.right (Reads.right (Reads.right (Reads.left (Reads.seq (Reads.tok e) (Reads.left (Reads.tok f)))))))))))
front_to xs ys vs (Reads.right (Reads.right (Reads.right (Reads.right (Reads.right (Reads.right (Reads.left (Reads.seq (Reads.tok {t = paren} e) (Reads.right (Reads.followed (Reads.call m) rest)))))))))) = inner_to paren e m rest
front_to xs ys vs (Reads.right (Reads.right (Reads.right (Reads.right (Reads.right (Reads.right (Reads.right (Reads.seq (Reads.call {v = v} m) (Reads.right Reads.empty))))))))) =
    let s = m.sort in
    name_alone _ _ v s.name s.is (name_value s.name [] s.kind_is) (name_primary s.name [] s.kind_is)
    (unary_of (primary_to _ _ _ (Reads.right (Reads.right (Reads.right (Reads.right (Reads.right (Reads.seq (Reads.call m) (Reads.right Reads.empty)))))))))
    (known_step Name.Atom _ _ _ (Reads.seq (Reads.call m) (Reads.right Reads.empty)))
front_to xs ys vs (Reads.right (Reads.right (Reads.right (Reads.right (Reads.right (Reads.right (Reads.right (Reads.seq (Reads.call {v = v} m) (Reads.left (Reads.call {v = w} n)))))))))) =
    let s = m.sort in let r = n.sort in
    name_applied _ _ v w s.name r.0 s.is r.1 (name_value s.name (Value.terms r.0 ∷ []) s.kind_is) (name_primary s.name (Value.terms r.0 ∷ []) s.kind_is)
    (unary_of (primary_to _ _ _ (Reads.right (Reads.right (Reads.right (Reads.right (Reads.right (Reads.seq (Reads.call m) (Reads.left (Reads.call n))))))))))
    (known_step Name.Atom _ _ _ (Reads.seq (Reads.call m) (Reads.left (Reads.call n))))
