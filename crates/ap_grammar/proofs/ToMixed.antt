-- From the factored grammar to the documented one: how a term or a formula goes on, and ranks.
use Rattle.std.proofs.Common.{◌≡◌, true, false, List, [], ◌∷◌, ◌++◌, Option, Some, None, refl, sym, ap, ◌∙◌, subst, append_assoc}
use Rattle.std.specs.Prelude.{if◌then◌else◌}
use Rattle.std.specs.Bool.{beq}
use Rattle.grammar.specs.Form.{Form, ◌⨾◌, ◌∣◌, opt}
use Rattle.grammar.specs.Form.Form.{Tok, Call, Star}
use Rattle.grammar.proofs.Interpret.{Reads}
use Rattle.ap_syntax.specs.declared.terms.Atom.{Atom as AtomTree}
use Rattle.ap_syntax.specs.declared.terms.Term.{Term as TermTree}
use Rattle.ap_syntax.specs.declared.terms.Term.TheVariants as terms
use Rattle.ap_syntax.specs.declared.preferences.Formula.{Formula as FormulaTree}
use Rattle.ap_syntax.specs.declared.preferences.Formula.TheVariants as formulas
use Rattle.ap_grammar.specs.declared.terminals.Terminal.{Terminal}
use Rattle.ap_grammar.specs.declared.terminals.Terminal.TheVariants as t
use Rattle.ap_grammar.specs.Lexemes.{Lexeme}
use Rattle.ap_grammar.specs.Values.{Value, Class, class_of, collected, as_formula}
use Rattle.ap_grammar.specs.Values.Value.{token, term, formula, either}
use Rattle.ap_grammar.specs.Grammar.{Name, made, conjunction_of, disjunction_of}
use Rattle.ap_grammar.specs.Factored.{Part, part_rule, term_rest, term_more, formula_rest, mixed_behind, weights_rest, ranked_behind, mixed_made, ranked_made, term_from, formula_from, joined_by, is_or, operated}
use Rattle.ap_grammar.proofs.Sorts.{Has, Known}
use Rattle.ap_grammar.proofs.Known.{known_step}
use Rattle.ap_grammar.proofs.ToTexts.{May, Both, documented, known_of}
use Rattle.ap_grammar.proofs.ToRanks.{factors_value, summands_value, unary_is, product_is, sum_is}

-- ---- terms

abbrev pub Factors : Form Name Terminal Class
Factors = Star ((Tok t.Times ∣ Tok t.Slash ∣ Tok t.Backslash) ⨾ Call Name.Unary)

abbrev pub Summands : Form Name Terminal Class
Summands = Star ((Tok t.Plus ∣ Tok t.Minus) ⨾ Call Name.Product)

abbrev pub MayRange : Form Name Terminal Class
MayRange = opt (Tok t.Dots ⨾ Call Name.Sum)

-- a term, and what stands behind its first primary term
abbrev pub rest_value : Lexeme → Option AtomTree → TermTree → List Value → Value
rest_value first name x [] = term first name x
rest_value first name x (w ∷ ws) = term_from first x (w ∷ ws)

rest_none : (first : Lexeme) (x : TermTree) (ws : List Value) → term_from first x ws ≡ rest_value first None x ws
rest_none first x [] = refl
rest_none first x (w ∷ ws) = refl

-- what a front of a term comes to: a term with which the rest goes on
pub record Grown (first : Lexeme) (name : Option AtomTree) (x : TermTree) (us : List Value) (v : Value) : Type 0 where
  pub new_name : Option AtomTree
  pub tree : TermTree
  pub is : v ≡ term first new_name tree
  pub goes_on : (ws : List Value) → rest_value first name x (us ++ ws) ≡ rest_value first new_name tree ws

grown_more : (first : Lexeme) (name : Option AtomTree) (x : TermTree) (w : Value) (us : List Value) (v : Value) (p : TermTree) → v ≡ term first None p → ((ws : List Value) → term_from first x (w ∷ (us ++ ws)) ≡ term_from first p ws) → Grown first name x (w ∷ us) v
grown_more first name x w us v p e h = record { new_name = None; tree = p; is = e; goes_on = λ ws. h ws ∙ rest_none first p ws }

product_grown : (first : Lexeme) (name : Option AtomTree) (x : TermTree) {xs ys : List Lexeme} {us : List Value} → Has Factors xs ys us → Grown first name x us (made Name.Product (term first name x ∷ us))
product_grown first name x Reads.none = record { new_name = name; tree = x; is = refl; goes_on = λ ws. refl }
product_grown first name x (Reads.more (Reads.seq (Reads.left (Reads.tok {t = sign} e)) (Reads.call m)) rest) =
    let q = factors_value first x (Reads.more (Reads.seq (Reads.left (Reads.tok {t = sign} e)) (Reads.call m)) rest) in grown_more first name x _ _ _ q.0 q.1 q.2
product_grown first name x (Reads.more (Reads.seq (Reads.right (Reads.left (Reads.tok {t = sign} e))) (Reads.call m)) rest) =
    let q = factors_value first x (Reads.more (Reads.seq (Reads.right (Reads.left (Reads.tok {t = sign} e))) (Reads.call m)) rest) in grown_more first name x _ _ _ q.0 q.1 q.2
product_grown first name x (Reads.more (Reads.seq (Reads.right (Reads.right (Reads.tok {t = sign} e))) (Reads.call m)) rest) =
    let q = factors_value first x (Reads.more (Reads.seq (Reads.right (Reads.right (Reads.tok {t = sign} e))) (Reads.call m)) rest) in grown_more first name x _ _ _ q.0 q.1 q.2

sum_grown : (first : Lexeme) (name : Option AtomTree) (x : TermTree) {xs ys : List Lexeme} {us : List Value} → Has Summands xs ys us → Grown first name x us (made Name.Sum (term first name x ∷ us))
sum_grown first name x Reads.none = record { new_name = name; tree = x; is = refl; goes_on = λ ws. refl }
sum_grown first name x (Reads.more (Reads.seq (Reads.left (Reads.tok {t = sign} e)) (Reads.call m)) rest) =
    let q = summands_value first x (Reads.more (Reads.seq (Reads.left (Reads.tok {t = sign} e)) (Reads.call m)) rest) in grown_more first name x _ _ _ q.0 q.1 q.2
sum_grown first name x (Reads.more (Reads.seq (Reads.right (Reads.tok {t = sign} e)) (Reads.call m)) rest) =
    let q = summands_value first x (Reads.more (Reads.seq (Reads.right (Reads.tok {t = sign} e)) (Reads.call m)) rest) in grown_more first name x _ _ _ q.0 q.1 q.2

range_step : (first : Lexeme) (name : Option AtomTree) (x : TermTree) (dots : Lexeme) (w : Value) (other : Lexeme) (second : Option AtomTree) (y : TermTree) → w ≡ term other second y → operated dots.terminal x y ≡ terms.Range x y → rest_value first name x (token dots ∷ w ∷ []) ≡ made Name.Term (term first name x ∷ token dots ∷ w ∷ [])
range_step first name x dots w other second y e h = rw e (ap (λ z. term first None z) h)

range_value : (first : Lexeme) (name : Option AtomTree) (x : TermTree) {xs ys : List Lexeme} {us : List Value} → Has MayRange xs ys us → rest_value first name x us ≡ made Name.Term (term first name x ∷ us)
range_value first name x (Reads.right Reads.empty) = refl
range_value first name x (Reads.left (Reads.seq (Reads.tok {t = dots} e) (Reads.call {v = w} m))) = let s = sum_is m in range_step first name x dots w s.first s.name s.tree s.is (ap (λ k. operated k x s.tree) e)

-- the value of a whole term, read as the document has it
pub whole_term_value : (first : Lexeme) (name : Option AtomTree) (x : TermTree) {ms ks ls ys : List Lexeme} {us ws rs : List Value} → Has Factors ms ks us → Has Summands ks ls ws → Has MayRange ls ys rs → rest_value first name x (us ++ (ws ++ rs)) ≡ made Name.Term (made Name.Sum (made Name.Product (term first name x ∷ us) ∷ ws) ∷ rs)
whole_term_value first name x {us = us} {ws = ws} {rs = rs} f s r =
    let p = product_grown first name x f in
    let q = sum_grown first p.new_name p.tree s in
    (p.goes_on (ws ++ rs) ∙ (q.goes_on rs ∙ range_value first q.new_name q.tree r))
    ∙ (ap (λ v. made Name.Term (v ∷ rs)) (sym q.is) ∙ ap (λ v. made Name.Term (made Name.Sum (v ∷ ws) ∷ rs)) (sym p.is))

-- a term by its front, its factors, its summands and its other end
pub whole_term : (first : Lexeme) (name : Option AtomTree) (x : TermTree) {xs ms ks ls ys : List Lexeme} {us ws rs : List Value} → Known Name.Unary xs ms (term first name x) → Has Factors ms ks us → Has Summands ks ls ws → Has MayRange ls ys rs → Known Name.Term xs ys (rest_value first name x (us ++ (ws ++ rs)))
whole_term first name x {us = us} {ws = ws} {rs = rs} k f s r =
    known_of (sym (whole_term_value first name x f s r))
    (known_step Name.Term _ _ _ (Reads.seq (Reads.call (known_step Name.Sum _ _ _ (Reads.seq (Reads.call (known_step Name.Product _ _ _ (Reads.seq (Reads.call k) f))) s))) r))

rest_to : (first : Lexeme) (name : Option AtomTree) (x : TermTree) {xs ms ys : List Lexeme} {vs : List Value} → Known Name.Unary xs ms (term first name x) → May term_rest ms ys vs → Known Name.Term xs ys (rest_value first name x vs)
rest_to first name x k (Reads.seq f (Reads.seq s r)) = whole_term first name x k (documented Factors _ _ _ f) (documented Summands _ _ _ s) (documented MayRange _ _ _ r)

pub term_value : (first : Lexeme) (name : Option AtomTree) (x : TermTree) (vs : List Value) → rest_value first name x vs ≡ mixed_made (term first name x ∷ vs)
term_value first name x [] = refl
term_value first name x (v ∷ vs) = refl

-- ---- formulas

abbrev pub Ands : Form Name Terminal Class
Ands = Star (Tok t.And ⨾ Call Name.Member)

abbrev pub Ors : Form Name Terminal Class
Ors = Star (Tok t.Or ⨾ Call Name.Conjunction)

-- one step past a sign and a formula
and_step : (sign : Lexeme) (v : Value) (vs : List Value) (first : Lexeme) (f : FormulaTree) → is_or sign.terminal ≡ false → v ≡ formula first f → (joined_by false (token sign ∷ v ∷ vs) ≡ f ∷ joined_by false vs) × (joined_by true (token sign ∷ v ∷ vs) ≡ joined_by true vs)
and_step sign v vs first f e h = rw h (ap (λ b. if beq false b then f ∷ joined_by false vs else joined_by false vs) e, ap (λ b. if beq true b then f ∷ joined_by true vs else joined_by true vs) e)

or_step : (sign : Lexeme) (v : Value) (vs : List Value) (first : Lexeme) (f : FormulaTree) → is_or sign.terminal ≡ true → v ≡ formula first f → (joined_by false (token sign ∷ v ∷ vs) ≡ joined_by false vs) × (joined_by true (token sign ∷ v ∷ vs) ≡ f ∷ joined_by true vs)
or_step sign v vs first f e h = rw h (ap (λ b. if beq false b then f ∷ joined_by false vs else joined_by false vs) e, ap (λ b. if beq true b then f ∷ joined_by true vs else joined_by true vs) e)

formula_step : (sign : Lexeme) (v : Value) (vs : List Value) (first : Lexeme) (f : FormulaTree) → v ≡ formula first f → collected as_formula (token sign ∷ v ∷ vs) ≡ f ∷ collected as_formula vs
formula_step sign v vs first f h = rw h refl

ands_joined : {xs ys : List Lexeme} {us : List Value} → Has Ands xs ys us → (ws : List Value) → (joined_by false (us ++ ws) ≡ collected as_formula us ++ joined_by false ws) × (joined_by true (us ++ ws) ≡ joined_by true ws)
ands_joined Reads.none ws = (refl, refl)
ands_joined (Reads.more {vs = us} (Reads.seq (Reads.tok {t = sign} e) (Reads.call {v = v} m)) rest) ws =
    let s = m.sort in
    let a = and_step sign v (us ++ ws) s.0 s.1 (ap is_or e) s.2 in
    let q = ands_joined rest ws in
    (a.0 ∙ (ap (λ fs. s.1 ∷ fs) q.0 ∙ ap (λ fs. fs ++ joined_by false ws) (sym (formula_step sign v us s.0 s.1 s.2))), a.1 ∙ q.1)

ors_joined : {xs ys : List Lexeme} {ws : List Value} → Has Ors xs ys ws → (joined_by false ws ≡ []) × (joined_by true ws ≡ collected as_formula ws)
ors_joined Reads.none = (refl, refl)
ors_joined (Reads.more {vs = ws} (Reads.seq (Reads.tok {t = sign} e) (Reads.call {v = v} m)) rest) =
    let s = m.sort in
    let a = or_step sign v ws s.0 s.1 (ap is_or e) s.2 in
    let q = ors_joined rest in
    (a.0 ∙ q.0, a.1 ∙ (ap (λ fs. s.1 ∷ fs) q.1 ∙ sym (formula_step sign v ws s.0 s.1 s.2)))

append_none : {A : Type 0} (xs : List A) → xs ++ [] ≡ xs
append_none [] = refl
append_none (x ∷ xs) = ap (λ ys. x ∷ ys) (append_none xs)

-- the value of a whole formula, read as the document has it
pub whole_formula_value : (first : Lexeme) (f : FormulaTree) {ms ks ys : List Lexeme} {us ws : List Value} → Has Ands ms ks us → Has Ors ks ys ws → formula_from first f (us ++ ws) ≡ made Name.Formula (made Name.Conjunction (formula first f ∷ us) ∷ ws)
whole_formula_value first f {us = us} {ws = ws} a o =
    let p = ands_joined a ws in
    let q = ors_joined o in
    let both : joined_by false (us ++ ws) ≡ collected as_formula us = p.0 ∙ (ap (λ fs. collected as_formula us ++ fs) q.0 ∙ append_none (collected as_formula us)) in
    ap (λ fs. formula first (disjunction_of (conjunction_of (f ∷ fs) ∷ joined_by true (us ++ ws)))) both ∙ ap (λ fs. formula first (disjunction_of (conjunction_of (f ∷ collected as_formula us) ∷ fs))) (p.1 ∙ q.1)

-- a formula by its first member, its members and its conjunctions
pub whole_formula : (first : Lexeme) (f : FormulaTree) {xs ms ks ys : List Lexeme} {us ws : List Value} → Known Name.Member xs ms (formula first f) → Has Ands ms ks us → Has Ors ks ys ws → Known Name.Formula xs ys (formula_from first f (us ++ ws))
whole_formula first f k a o = known_of (sym (whole_formula_value first f a o)) (known_step Name.Formula _ _ _ (Reads.seq (Reads.call (known_step Name.Conjunction _ _ _ (Reads.seq (Reads.call k) a))) o))

formula_to : (first : Lexeme) (f : FormulaTree) {xs ms ys : List Lexeme} {vs : List Value} → Known Name.Member xs ms (formula first f) → May formula_rest ms ys vs → Known Name.Formula xs ys (formula_from first f vs)
formula_to first f k (Reads.seq a o) = whole_formula first f k (documented Ands _ _ _ a) (documented Ors _ _ _ o)

-- ---- either

term_both : {xs ys : List Lexeme} {v : Value} → Known Name.Term xs ys v → Both Name.Term Name.Formula xs ys v
term_both {xs = xs} {ys = ys} k = let s = k.sort in subst (Both Name.Term Name.Formula xs ys) (sym s.is) (Both.is_term (known_of s.is k))

both_mixed : {xs ys : List Lexeme} {v w : Value} → v ≡ w → Both Name.Term Name.Formula xs ys v → Both Name.Term Name.Formula xs ys w
both_mixed {xs = xs} {ys = ys} e b = subst (Both Name.Term Name.Formula xs ys) e b

-- behind a name comes an operator, or `&` or `|`
pub operator_value : (first : Lexeme) (name : Option AtomTree) (a : AtomTree) (x : TermTree) (sign : Lexeme) (w : Value) (ws : List Value) (other : Lexeme) (second : Option AtomTree) (y : TermTree) → w ≡ term other second y → rest_value first name x (token sign ∷ w ∷ ws) ≡ mixed_made (either first a x ∷ token sign ∷ w ∷ ws)
operator_value first name a x sign w ws other second y e = rw e refl

pub connective_value : (first : Lexeme) (a : AtomTree) (x : TermTree) (sign : Lexeme) (w : Value) (ws : List Value) (other : Lexeme) (g : FormulaTree) → w ≡ formula other g → formula_from first (formulas.Atom a) (token sign ∷ w ∷ ws) ≡ mixed_made (either first a x ∷ token sign ∷ w ∷ ws)
connective_value first a x sign w ws other g e = rw e refl

more_to : (first : Lexeme) (name : Option AtomTree) (a : AtomTree) (x : TermTree) {xs ms ys : List Lexeme} {vs : List Value} → Known Name.Unary xs ms (term first name x) → May term_more ms ys vs → Known Name.Term xs ys (mixed_made (either first a x ∷ vs))
more_to first name a x k (Reads.left (Reads.seq (Reads.seq (Reads.left (Reads.tok {t = sign} e)) (Reads.call {v = w} m)) (Reads.seq f (Reads.seq s r)))) =
    let q = unary_is m in known_of (operator_value first name a x sign w _ q.first q.name q.tree q.is) (rest_to first name x k (Reads.seq (Reads.more (Reads.seq (Reads.left (Reads.tok {t = sign} e)) (Reads.call m)) f) (Reads.seq s r)))
more_to first name a x k (Reads.left (Reads.seq (Reads.seq (Reads.right (Reads.left (Reads.tok {t = sign} e))) (Reads.call {v = w} m)) (Reads.seq f (Reads.seq s r)))) =
    let q = unary_is m in known_of (operator_value first name a x sign w _ q.first q.name q.tree q.is) (rest_to first name x k (Reads.seq (Reads.more (Reads.seq (Reads.right (Reads.left (Reads.tok {t = sign} e))) (Reads.call m)) f) (Reads.seq s r)))
more_to first name a x k (Reads.left (Reads.seq (Reads.seq (Reads.right (Reads.right (Reads.tok {t = sign} e))) (Reads.call {v = w} m)) (Reads.seq f (Reads.seq s r)))) =
    let q = unary_is m in known_of (operator_value first name a x sign w _ q.first q.name q.tree q.is) (rest_to first name x k (Reads.seq (Reads.more (Reads.seq (Reads.right (Reads.right (Reads.tok {t = sign} e))) (Reads.call m)) f) (Reads.seq s r)))
more_to first name a x k (Reads.right (Reads.left (Reads.seq (Reads.seq (Reads.left (Reads.tok {t = sign} e)) (Reads.call {v = w} m)) (Reads.seq s r)))) =
    let q = product_is m in known_of (operator_value first name a x sign w _ q.first q.name q.tree q.is) (rest_to first name x k (Reads.seq Reads.none (Reads.seq (Reads.more (Reads.seq (Reads.left (Reads.tok {t = sign} e)) (Reads.call m)) s) r)))
more_to first name a x k (Reads.right (Reads.left (Reads.seq (Reads.seq (Reads.right (Reads.tok {t = sign} e)) (Reads.call {v = w} m)) (Reads.seq s r)))) =
    let q = product_is m in known_of (operator_value first name a x sign w _ q.first q.name q.tree q.is) (rest_to first name x k (Reads.seq Reads.none (Reads.seq (Reads.more (Reads.seq (Reads.right (Reads.tok {t = sign} e)) (Reads.call m)) s) r)))
more_to first name a x k (Reads.right (Reads.right (Reads.seq (Reads.tok {t = sign} e) (Reads.call {v = w} m)))) =
    let q = sum_is m in known_of (operator_value first name a x sign w _ q.first q.name q.tree q.is) (rest_to first name x k (Reads.seq Reads.none (Reads.seq Reads.none (Reads.left (Reads.seq (Reads.tok {t = sign} e) (Reads.call m))))))

either_to : (first : Lexeme) (name : Option AtomTree) (a : AtomTree) (x : TermTree) {xs ms ys : List Lexeme} {vs : List Value} → Known Name.Unary xs ms (term first name x) → Known Name.Member xs ms (formula first (formulas.Atom a)) → May formula_rest ms ys vs → Both Name.Term Name.Formula xs ys (mixed_made (either first a x ∷ vs))
either_to first name a x k l (Reads.seq Reads.none Reads.none) = Both.is_either (rest_to first name x k (Reads.seq Reads.none (Reads.seq Reads.none (Reads.right Reads.empty)))) (formula_to first (formulas.Atom a) l (Reads.seq Reads.none Reads.none))
either_to first name a x k l (Reads.seq Reads.none (Reads.more (Reads.seq (Reads.tok {t = sign} e) (Reads.call {v = w} m)) o)) =
    let q = m.sort in both_mixed (connective_value first a x sign w _ q.0 q.1 q.2) (Both.is_formula (formula_to first (formulas.Atom a) l (Reads.seq Reads.none (Reads.more (Reads.seq (Reads.tok {t = sign} e) (Reads.call m)) o))))
either_to first name a x k l (Reads.seq (Reads.more (Reads.seq (Reads.tok {t = sign} e) (Reads.call {v = w} m)) c) o) =
    let q = m.sort in both_mixed (connective_value first a x sign w _ q.0 q.1 q.2) (Both.is_formula (formula_to first (formulas.Atom a) l (Reads.seq (Reads.more (Reads.seq (Reads.tok {t = sign} e) (Reads.call m)) c) o)))

behind_to : {xs ms ys : List Lexeme} {v : Value} {vs : List Value} → Both Name.Unary Name.Member xs ms v → May (mixed_behind (class_of (v ∷ []))) ms ys vs → Both Name.Term Name.Formula xs ys (mixed_made (v ∷ vs))
behind_to {vs = vs} (Both.is_term {first = first} {name = Some a} {x = x} k) d = term_both (known_of (term_value first (Some a) x vs) (rest_to first (Some a) x k d))
behind_to {vs = vs} (Both.is_term {first = first} {name = None} {x = x} k) d = term_both (known_of (term_value first None x vs) (rest_to first None x k d))
behind_to (Both.is_formula {first = first} {f = f} k) d = Both.is_formula (formula_to first f k d)
behind_to (Both.is_either {first = first} {name = name} {a = a} {x = x} k l) (Reads.left d) = term_both (more_to first name a x k d)
behind_to (Both.is_either {first = first} {name = name} {a = a} {x = x} k l) (Reads.right d) = either_to first name a x k l d

pub mixed_to : (xs ys : List Lexeme) (vs : List Value) → May (part_rule Part.Mixed) xs ys vs → Both Name.Term Name.Formula xs ys (mixed_made vs)
mixed_to xs ys vs (Reads.followed (Reads.call m) d) = behind_to m d

-- ---- ranks

-- what the weights, `::` and the target come to, in whatever order they are joined
pub joined_weights : (v : Value) (ws : List Value) (weighs goal : Value) → ((v ∷ ws) ++ weighs ∷ []) ++ goal ∷ [] ≡ v ∷ (ws ++ weighs ∷ goal ∷ [])
joined_weights v ws weighs goal = append_assoc (v ∷ ws) (weighs ∷ []) (goal ∷ [])

weights_known : (first : Lexeme) (name : Option AtomTree) (x : TermTree) {xs ms ys : List Lexeme} {vs : List Value} → Known Name.Term xs ms (term first name x) → May weights_rest ms ys vs → Known Name.Ranked xs ys (made Name.Ranked (term first name x ∷ vs))
weights_known first name x k (Reads.seq {us = ws} others (Reads.seq (Reads.tok {t = weighs} e) (Reads.call {v = goal} m))) =
    known_of (ap (λ us. made Name.Ranked us) (joined_weights (term first name x) ws (token weighs) goal))
    (known_step Name.Ranked _ _ _ (Reads.seq (Reads.left (Reads.seq (Reads.seq (Reads.call k) (documented (Star (Tok t.Comma ⨾ Call Name.Term)) _ _ _ others)) (Reads.tok e))) (Reads.call m)))

-- without weights
target_known : (first : Lexeme) (f : FormulaTree) {xs ys : List Lexeme} → Known Name.Formula xs ys (formula first f) → Known Name.Ranked xs ys (made Name.Ranked (made Name.Target (formula first f ∷ []) ∷ []))
target_known first f k = known_step Name.Ranked _ _ _ (Reads.seq (Reads.right Reads.empty) (Reads.call (known_step Name.Target _ _ _ (Reads.left (Reads.call k)))))

-- weights that begin with a name
either_value : (first : Lexeme) (name : Option AtomTree) (a : AtomTree) (x : TermTree) (w : Value) (ws : List Value) → made Name.Ranked (term first name x ∷ w ∷ ws) ≡ ranked_made (either first a x ∷ w ∷ ws)
either_value first name a x w ws = refl

either_weights : (first : Lexeme) (name : Option AtomTree) (a : AtomTree) (x : TermTree) {xs ms ys : List Lexeme} {vs : List Value} → Known Name.Term xs ms (term first name x) → May weights_rest ms ys vs → Known Name.Ranked xs ys (ranked_made (either first a x ∷ vs))
either_weights first name a x k (Reads.seq Reads.none (Reads.seq (Reads.tok {t = weighs} e) m)) = weights_known first name x k (Reads.seq Reads.none (Reads.seq (Reads.tok {t = weighs} e) m))
either_weights first name a x k (Reads.seq (Reads.more (Reads.seq (Reads.tok {t = comma} c) n) o) d) = weights_known first name x k (Reads.seq (Reads.more (Reads.seq (Reads.tok {t = comma} c) n) o) d)

pub named_target : (stars : Lexeme) (v : Value) (name : Lexeme) → v ≡ token name → made Name.Ranked (made Name.Target (token stars ∷ v ∷ []) ∷ []) ≡ ranked_made (token stars ∷ v ∷ [])
named_target stars v name e = rw e refl

name_known : (stars : Lexeme) (v : Value) {xs ys : List Lexeme} → stars.terminal ≡ t.Stars → Known Name.Ident xs ys v → Known Name.Ranked (stars ∷ xs) ys (ranked_made (token stars ∷ v ∷ []))
name_known stars v e m = let s = m.sort in known_of (named_target stars v s.name s.is) (known_step Name.Ranked _ _ _ (Reads.seq (Reads.right Reads.empty) (Reads.call (known_step Name.Target _ _ _ (Reads.right (Reads.seq (Reads.tok e) (Reads.call m)))))))

ranked_behind_to : {xs ms ys : List Lexeme} {v : Value} {vs : List Value} → Both Name.Term Name.Formula xs ms v → May (ranked_behind (class_of (v ∷ []))) ms ys vs → Known Name.Ranked xs ys (ranked_made (v ∷ vs))
ranked_behind_to (Both.is_term {first = first} {name = Some a} {x = x} k) d = weights_known first (Some a) x k d
ranked_behind_to (Both.is_term {first = first} {name = None} {x = x} k) d = weights_known first None x k d
ranked_behind_to (Both.is_formula {first = first} {f = f} k) Reads.empty = target_known first f k
ranked_behind_to (Both.is_either {first = first} {name = name} {a = a} {x = x} k l) (Reads.right Reads.empty) = target_known first (formulas.Atom a) l
ranked_behind_to (Both.is_either {first = first} {name = name} {a = a} {x = x} k l) (Reads.left (Reads.seq Reads.none d)) = either_weights first name a x k (Reads.seq Reads.none d)
ranked_behind_to (Both.is_either {first = first} {name = name} {a = a} {x = x} k l) (Reads.left (Reads.seq (Reads.more c o) d)) = either_weights first name a x k (Reads.seq (Reads.more c o) d)

pub ranked_to : (xs ys : List Lexeme) (vs : List Value) → May (part_rule (Part.Of Name.Ranked)) xs ys vs → Known Name.Ranked xs ys (ranked_made vs)
ranked_to xs ys vs (Reads.left (Reads.seq (Reads.tok {t = stars} e) (Reads.call {v = v} m))) = name_known stars v e m
ranked_to xs ys vs (Reads.right (Reads.followed (Reads.call m) d)) = ranked_behind_to m d
