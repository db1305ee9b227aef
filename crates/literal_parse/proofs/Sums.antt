-- What intervals, sums, products and signs come to.
use Rattle.std.proofs.Common.{◌≡◌, List, [], ◌∷◌, Some, None, Ok, Result, refl, sym, ◌∙◌, ap}
use Rattle.grammar.specs.Form.{◌∣◌}
use Rattle.grammar.specs.Form.Form.{Tok}
use Rattle.grammar.specs.Takes.{Takes, Fails, Starts}
use Rattle.ap_syntax.specs.declared.terms.ProductOp.{ProductOp}
use Rattle.ap_syntax.specs.declared.terms.ProductOp.TheVariants as products
use Rattle.ap_syntax.specs.declared.terms.SumOp.{SumOp}
use Rattle.ap_syntax.specs.declared.terms.SumOp.TheVariants as sums
use Rattle.ap_syntax.specs.declared.terms.Term.{Term}
use Rattle.ap_syntax.specs.declared.terms.Term.TheVariants as terms
use Rattle.ap_grammar.specs.declared.terminals.Terminal.{Terminal}
use Rattle.ap_grammar.specs.declared.terminals.Terminal.TheVariants as t
use Rattle.ap_grammar.specs.Lexemes.{Lexeme}
use Rattle.ap_grammar.specs.Values.{Value}
use Rattle.ap_grammar.specs.Values.Value.{token, term}
use Rattle.ap_grammar.specs.Grammar.{Name, made, sum_of, sum_from, product_of, product_from}
use Rattle.ap_grammar.specs.Factored.{call, factored, summand, factor}
use Rattle.ap_grammar.specs.Tables.{tables}
use Rattle.literal_parse.specs.declared.error.Stop.{Stop}
use Rattle.literal_parse.specs.declared.operand.Operand.{Operand}
use Rattle.literal_parse.specs.declared.operand.Operand.TheVariants.{Bare, Other}
use Rattle.literal_parse.specs.Reads.{Reads, IsNext, Lacks}
use Rattle.literal_parse.specs.Operands.{IsOperand, term_of, tree_of, value_of}
use Rattle.literal_parse.specs.Terms.{sum_terminal, product_terminal, Signs, Factors}
use Rattle.literal_parse.proofs.Steps.{taken, follow, giving, next_starts, next_takes, not_seq, not_alt, seq_starts}
use Rattle.literal_parse.proofs.Collects.{Folds, folds_more, folds_fail, folds_end}

-- ---- one operand alone

term_itself : (first : Lexeme) (x : Operand) → made Name.Term (value_of first x ∷ []) ≡ value_of first x
term_itself first (Bare a) = refl
term_itself first (Other x) = refl

sum_itself : (first : Lexeme) (x : Operand) → made Name.Sum (value_of first x ∷ []) ≡ value_of first x
sum_itself first (Bare a) = refl
sum_itself first (Other x) = refl

product_itself : (first : Lexeme) (x : Operand) → made Name.Product (value_of first x ∷ []) ≡ value_of first x
product_itself first (Bare a) = refl
product_itself first (Other x) = refl

unary_itself : (first : Lexeme) (x : Operand) → made Name.Unary (value_of first x ∷ []) ≡ value_of first x
unary_itself first (Bare a) = refl
unary_itself first (Other x) = refl

alone : {v w : Value} → v ≡ w → v ∷ [] ≡ w ∷ []
alone e = ap (λ v. v ∷ []) e

-- ---- intervals

pub term_alone : {xs ys zs : List Lexeme} {x : Operand} → Reads (call Name.Sum) (IsOperand xs) xs ys (Ok x) → zs ≡ ys → Lacks t.Dots ys → Reads (call Name.Term) (IsOperand xs) xs zs (Ok x)
term_alone {ys = ys} {x = x} r e h = let q = taken r in rw e (Reads.ok (record { first = q.makes.first; leads = q.makes.leads; is = alone (term_itself q.makes.first x) }) (Takes.call (Takes.seq (giving q.makes.is q.takes) (Takes.right (not_seq (Tok t.Dots) (call Name.Sum) ys refl h) Takes.empty))))

pub term_end_fails : {xs ys ms end : List Lexeme} {x : Operand} → Reads (call Name.Sum) (IsOperand xs) xs ys (Ok x) → IsNext t.Dots ys ms → Fails factored tables (call Name.Sum) ms end → Fails factored tables (call Name.Term) xs end
term_end_fails {ys = ys} r n f = let q = taken r in Fails.call (Fails.second q.takes (Fails.left (seq_starts (Tok t.Dots) (call Name.Sum) ys (next_starts n)) (Fails.second (next_takes n) f)))

range_made : (first other dots : Lexeme) (x y : Operand) → made Name.Term (value_of first x ∷ token dots ∷ value_of other y ∷ []) ≡ term first None (terms.Range (tree_of x) (tree_of y))
range_made first other dots (Bare a) (Bare b) = refl
range_made first other dots (Bare a) (Other y) = refl
range_made first other dots (Other x) (Bare b) = refl
range_made first other dots (Other x) (Other y) = refl

pub term_range : {xs ys ms end : List Lexeme} {x y : Operand} → Reads (call Name.Sum) (IsOperand xs) xs ys (Ok x) → IsNext t.Dots ys ms → Reads (call Name.Sum) (IsOperand ms) ms end (Ok y) → Reads (call Name.Term) (IsOperand xs) xs end (Ok (Other (terms.Range (tree_of x) (tree_of y))))
term_range {ys = ys} {x = x} {y = y} r n s =
    let q = taken r in
    let p = taken s in
    Reads.ok (record { first = q.makes.first; leads = q.makes.leads; is = alone (range_made q.makes.first p.makes.first n.token x y) })
    (Takes.call (Takes.seq (giving q.makes.is q.takes) (Takes.left (seq_starts (Tok t.Dots) (call Name.Sum) ys (next_starts n)) (Takes.seq (next_takes n) (giving p.makes.is p.takes)))))

-- ---- sums

pub takes_sum_sign : (op : SumOp) {here mid : List Lexeme} (n : IsNext (sum_terminal op) here mid) → Takes factored tables (Tok t.Plus ∣ Tok t.Minus) here mid (token n.token ∷ [])
takes_sum_sign sums.Plus n = Takes.left (next_starts n) (next_takes n)
takes_sum_sign sums.Less n = Takes.right (rw (n.is, n.kind) refl) (next_takes n)

pub sum_sign_starts : (op : SumOp) {here mid : List Lexeme} → IsNext (sum_terminal op) here mid → Starts factored tables summand here
sum_sign_starts sums.Plus n = rw (n.is, n.kind) refl
sum_sign_starts sums.Less n = rw (n.is, n.kind) refl

summed : (op : SumOp) (k : Terminal) (x y : Term) → k ≡ sum_terminal op → sum_of k x y ≡ terms.Sum x op y
summed sums.Plus k x y e = rw e refl
summed sums.Less k x y e = rw e refl

sum_goes : (first : Lexeme) (x : Term) (vs : List Value) → made Name.Sum (term first None x ∷ vs) ≡ sum_from first x vs
sum_goes first x [] = refl
sum_goes first x (v ∷ vs) = refl

sum_step : (op : SumOp) (sign other first : Lexeme) (x y : Operand) (vs : List Value) → sign.terminal ≡ sum_terminal op → made Name.Sum (value_of first x ∷ token sign ∷ value_of other y ∷ vs) ≡ made Name.Sum (value_of first (Other (terms.Sum (tree_of x) op (tree_of y))) ∷ vs)
sum_step op sign other first (Bare a) (Bare b) vs e = ap (λ z. sum_from first z vs) (summed op sign.terminal (term_of a) (term_of b) e) ∙ sym (sum_goes first _ vs)
sum_step op sign other first (Bare a) (Other y) vs e = ap (λ z. sum_from first z vs) (summed op sign.terminal (term_of a) y e) ∙ sym (sum_goes first _ vs)
sum_step op sign other first (Other x) (Bare b) vs e = ap (λ z. sum_from first z vs) (summed op sign.terminal x (term_of b) e) ∙ sym (sum_goes first _ vs)
sum_step op sign other first (Other x) (Other y) vs e = ap (λ z. sum_from first z vs) (summed op sign.terminal x y e) ∙ sym (sum_goes first _ vs)

pub sum_more : {start here mid end : List Lexeme} {before now next : Operand} (op : SumOp) → Folds Name.Sum summand start here before now → Signs here mid (Some op) → Reads (call Name.Product) (IsOperand mid) mid end (Ok next) → Folds Name.Sum summand start end before (Other (terms.Sum (tree_of now) op (tree_of next)))
sum_more {now = now} {next = next} op f n r =
    let q = taken r in
    folds_more f (Takes.seq (takes_sum_sign op n) (giving q.makes.is q.takes)) (λ first ws. sum_step op n.token q.makes.first first now next ws n.kind)

pub sum_fails : {start here mid end xs : List Lexeme} {before now : Operand} (op : SumOp) → Reads (call Name.Product) (IsOperand xs) xs start (Ok before) → Folds Name.Sum summand start here before now → Signs here mid (Some op) → Fails factored tables (call Name.Product) mid end → Fails factored tables (call Name.Sum) xs end
sum_fails op r f n g = let q = taken r in Fails.call (Fails.second q.takes (folds_fail f (sum_sign_starts op n) (Fails.second (takes_sum_sign op n) g)))

pub sum_end : {xs start here end : List Lexeme} {before now : Operand} → Reads (call Name.Product) (IsOperand xs) xs start (Ok before) → Folds Name.Sum summand start here before now → Signs here end None → Reads (call Name.Sum) (IsOperand xs) xs end (Ok now)
sum_end {here = here} {now = now} r f h =
    let q = taken r in
    rw h.0 (Reads.ok (record { first = q.makes.first; leads = q.makes.leads; is = alone (f.grown q.makes.first [] ∙ sum_itself q.makes.first now) })
    (Takes.call (Takes.seq (giving q.makes.is q.takes) (folds_end f (not_seq (Tok t.Plus ∣ Tok t.Minus) (call Name.Product) here refl (not_alt (Tok t.Plus) (Tok t.Minus) here h.1 h.2))))))

-- ---- products

pub takes_product_sign : (op : ProductOp) {here mid : List Lexeme} (n : IsNext (product_terminal op) here mid) → Takes factored tables (Tok t.Times ∣ Tok t.Slash ∣ Tok t.Backslash) here mid (token n.token ∷ [])
takes_product_sign products.Times n = Takes.left (next_starts n) (next_takes n)
takes_product_sign products.Over n = Takes.right (rw (n.is, n.kind) refl) (Takes.left (next_starts n) (next_takes n))
takes_product_sign products.Rest n = Takes.right (rw (n.is, n.kind) refl) (Takes.right (rw (n.is, n.kind) refl) (next_takes n))

pub product_sign_starts : (op : ProductOp) {here mid : List Lexeme} → IsNext (product_terminal op) here mid → Starts factored tables factor here
product_sign_starts products.Times n = rw (n.is, n.kind) refl
product_sign_starts products.Over n = rw (n.is, n.kind) refl
product_sign_starts products.Rest n = rw (n.is, n.kind) refl

multiplied : (op : ProductOp) (k : Terminal) (x y : Term) → k ≡ product_terminal op → product_of k x y ≡ terms.Product x op y
multiplied products.Times k x y e = rw e refl
multiplied products.Over k x y e = rw e refl
multiplied products.Rest k x y e = rw e refl

product_goes : (first : Lexeme) (x : Term) (vs : List Value) → made Name.Product (term first None x ∷ vs) ≡ product_from first x vs
product_goes first x [] = refl
product_goes first x (v ∷ vs) = refl

product_step : (op : ProductOp) (sign other first : Lexeme) (x y : Operand) (vs : List Value) → sign.terminal ≡ product_terminal op → made Name.Product (value_of first x ∷ token sign ∷ value_of other y ∷ vs) ≡ made Name.Product (value_of first (Other (terms.Product (tree_of x) op (tree_of y))) ∷ vs)
product_step op sign other first (Bare a) (Bare b) vs e = ap (λ z. product_from first z vs) (multiplied op sign.terminal (term_of a) (term_of b) e) ∙ sym (product_goes first _ vs)
product_step op sign other first (Bare a) (Other y) vs e = ap (λ z. product_from first z vs) (multiplied op sign.terminal (term_of a) y e) ∙ sym (product_goes first _ vs)
product_step op sign other first (Other x) (Bare b) vs e = ap (λ z. product_from first z vs) (multiplied op sign.terminal x (term_of b) e) ∙ sym (product_goes first _ vs)
product_step op sign other first (Other x) (Other y) vs e = ap (λ z. product_from first z vs) (multiplied op sign.terminal x y e) ∙ sym (product_goes first _ vs)

pub product_more : {start here mid end : List Lexeme} {before now next : Operand} (op : ProductOp) → Folds Name.Product factor start here before now → Factors here mid (Some op) → Reads (call Name.Unary) (IsOperand mid) mid end (Ok next) → Folds Name.Product factor start end before (Other (terms.Product (tree_of now) op (tree_of next)))
product_more {now = now} {next = next} op f n r =
    let q = taken r in
    folds_more f (Takes.seq (takes_product_sign op n) (giving q.makes.is q.takes)) (λ first ws. product_step op n.token q.makes.first first now next ws n.kind)

pub product_fails : {start here mid end xs : List Lexeme} {before now : Operand} (op : ProductOp) → Reads (call Name.Unary) (IsOperand xs) xs start (Ok before) → Folds Name.Product factor start here before now → Factors here mid (Some op) → Fails factored tables (call Name.Unary) mid end → Fails factored tables (call Name.Product) xs end
product_fails op r f n g = let q = taken r in Fails.call (Fails.second q.takes (folds_fail f (product_sign_starts op n) (Fails.second (takes_product_sign op n) g)))

pub product_end : {xs start here end : List Lexeme} {before now : Operand} → Reads (call Name.Unary) (IsOperand xs) xs start (Ok before) → Folds Name.Product factor start here before now → Factors here end None → Reads (call Name.Product) (IsOperand xs) xs end (Ok now)
product_end {here = here} {now = now} r f h =
    let q = taken r in
    rw h.0 (Reads.ok (record { first = q.makes.first; leads = q.makes.leads; is = alone (f.grown q.makes.first [] ∙ product_itself q.makes.first now) })
    (Takes.call (Takes.seq (giving q.makes.is q.takes) (folds_end f (not_seq (Tok t.Times ∣ Tok t.Slash ∣ Tok t.Backslash) (call Name.Unary) here refl (not_alt (Tok t.Times) (Tok t.Slash ∣ Tok t.Backslash) here h.1 (not_alt (Tok t.Slash) (Tok t.Backslash) here h.2 h.3)))))))

-- ---- signs

pub unary_plain : {xs ms ys : List Lexeme} {r : Result Operand Stop} → ms ≡ xs → Lacks t.Minus xs → Reads (call Name.Primary) (IsOperand ms) ms ys r → Reads (call Name.Unary) (IsOperand xs) xs ys r
unary_plain {xs = xs} e h r =
    let s = rw e at r in
    follow s
    (λ x vs i d. (value_of i.first x ∷ [], record { first = i.first; leads = i.leads; is = refl }, giving (alone (unary_itself i.first x)) (Takes.call (Takes.seq (Takes.right h Takes.empty) (giving i.is d)))))
    (λ f. Fails.call (Fails.second (Takes.right h Takes.empty) f))

pub unary_fails : {xs ms ys : List Lexeme} → IsNext t.Minus xs ms → Fails factored tables (call Name.Primary) ms ys → Fails factored tables (call Name.Unary) xs ys
unary_fails n f = Fails.call (Fails.second (Takes.left (next_starts n) (next_takes n)) f)

minus_made : (first other : Lexeme) (x : Operand) → made Name.Unary (token first ∷ value_of other x ∷ []) ≡ term first None (terms.Minus (tree_of x))
minus_made first other (Bare a) = refl
minus_made first other (Other x) = refl

pub unary_minus : {xs ms ys : List Lexeme} {x : Operand} → IsNext t.Minus xs ms → Reads (call Name.Primary) (IsOperand ms) ms ys (Ok x) → Reads (call Name.Unary) (IsOperand xs) xs ys (Ok (Other (terms.Minus (tree_of x))))
unary_minus {ms = ms} {x = x} n r =
    let q = taken r in
    Reads.ok (record { first = n.token; leads = record { rest = ms; is = n.is }; is = alone (minus_made n.token q.makes.first x) })
    (Takes.call (Takes.seq (Takes.left (next_starts n) (next_takes n)) (giving q.makes.is q.takes)))
