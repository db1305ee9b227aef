-- What the rest of a term comes to.
use Rattle.std.proofs.Common.{◌≡◌, List, [], ◌∷◌, ◌++◌, Some, None, Ok, Result, refl}
use Rattle.grammar.specs.Form.{◌∣◌, opt}
use Rattle.grammar.specs.Form.Form.{Tok, Star}
use Rattle.grammar.specs.Takes.{Takes, Fails, NotStarts}
use Rattle.grammar.proofs.Loops.{Within, begun, one_more}
use Rattle.ap_syntax.specs.declared.terms.ProductOp.{ProductOp}
use Rattle.ap_syntax.specs.declared.terms.ProductOp.TheVariants as products
use Rattle.ap_syntax.specs.declared.terms.SumOp.{SumOp}
use Rattle.ap_syntax.specs.declared.terms.SumOp.TheVariants as sums
use Rattle.ap_syntax.specs.declared.terms.Term.{Term}
use Rattle.ap_syntax.specs.declared.terms.Term.TheVariants as terms
use Rattle.ap_grammar.specs.declared.terminals.Terminal.{Terminal}
use Rattle.ap_grammar.specs.declared.terminals.Terminal.TheVariants as t
use Rattle.ap_grammar.specs.Lexemes.{Lexeme}
use Rattle.ap_grammar.specs.Values.{Value}
use Rattle.ap_grammar.specs.Values.Value.{token, term}
use Rattle.ap_grammar.specs.Grammar.{Name}
use Rattle.ap_grammar.specs.Factored.{Rhs, call, factored, factor, summand, range, term_rest, term_from, operated}
use Rattle.ap_grammar.specs.Tables.{tables}
use Rattle.literal_parse.specs.declared.error.Stop.{Stop}
use Rattle.literal_parse.specs.declared.operand.Operand.{Operand}
use Rattle.literal_parse.specs.declared.operand.Operand.TheVariants.{Bare, Other}
use Rattle.literal_parse.specs.Reads.{Reads, IsNext, Lacks}
use Rattle.literal_parse.specs.Operands.{IsOperand, tree_of, value_of}
use Rattle.literal_parse.specs.Terms.{sum_terminal, product_terminal, Signs, Factors}
use Rattle.literal_parse.proofs.Steps.{taken, follow, giving, next_starts, next_takes, not_seq, not_alt, seq_starts}
use Rattle.literal_parse.proofs.Sums.{takes_sum_sign, sum_sign_starts, takes_product_sign, product_sign_starts}
use Rattle.pref_parse.specs.Operators.{Operates}

pub operates_all : {x y z : Term} {us vs : List Value} → Operates x y us → Operates y z vs → Operates x z (us ++ vs)
operates_all Operates.none o = o
operates_all (Operates.more p) o = Operates.more (operates_all p o)

pub operates_from : {x z : Term} {vs : List Value} (first : Lexeme) → Operates x z vs → term_from first x vs ≡ term first None z
operates_from first Operates.none = refl
operates_from first (Operates.more o) = operates_from first o

-- one operator with its second operand
one_operator : {x z : Term} (sign other : Lexeme) (y : Operand) → operated sign.terminal x (tree_of y) ≡ z → Operates x z (token sign ∷ value_of other y ∷ [])
one_operator sign other (Bare a) e = Operates.more (rw e Operates.none)
one_operator sign other (Other y) e = Operates.more (rw e Operates.none)

-- ---- loops

-- the operators so far
pub record Operating (item : Rhs) (start here : List Lexeme) (before now : Term) : Type 0 where
  pub values : List Value
  pub within : Within factored tables item start here values
  pub operates : Operates before now values

pub operating_begun : (item : Rhs) (start : List Lexeme) (x : Term) → Operating item start start x x
operating_begun item start x = record { values = []; within = begun factored tables item start; operates = Operates.none }

operating_more : {item : Rhs} {start here end : List Lexeme} {before now next : Term} {vs : List Value} → Operating item start here before now → Takes factored tables item here end vs → Operates now next vs → Operating item start end before next
operating_more {vs = vs} o d p = record { values = o.values ++ vs; within = one_more o.within d; operates = operates_all o.operates p }

operating_end : {item : Rhs} {start here end : List Lexeme} {before now : Term} → Operating item start here before now → end ≡ here → NotStarts factored tables item here → Reads (Star item) (Operates before) start end (Ok now)
operating_end {here = here} o e h = Reads.ok (operates_all o.operates Operates.none) (rw e (o.within.takes here [] (Takes.none h)))

-- ---- sums

summed : (op : SumOp) (k : Terminal) (x y : Term) → k ≡ sum_terminal op → operated k x y ≡ terms.Sum x op y
summed sums.Plus k x y e = rw e refl
summed sums.Less k x y e = rw e refl

pub summands_more : {start here mid end : List Lexeme} {before now : Term} {next : Operand} (op : SumOp) → Operating summand start here before now → Signs here mid (Some op) → Reads (call Name.Product) (IsOperand mid) mid end (Ok next) → Operating summand start end before (terms.Sum now op (tree_of next))
summands_more {now = now} {next = next} op o n r =
    let q = taken r in
    operating_more o (Takes.seq (takes_sum_sign op n) (giving q.makes.is q.takes)) (one_operator n.token q.makes.first next (summed op n.token.terminal now (tree_of next) n.kind))

pub summands_fail : {start here mid end : List Lexeme} {before now : Term} (op : SumOp) → Operating summand start here before now → Signs here mid (Some op) → Fails factored tables (call Name.Product) mid end → Fails factored tables (Star summand) start end
summands_fail {end = end} op o n g = o.within.fails end (Fails.item (sum_sign_starts op n) (Fails.second (takes_sum_sign op n) g))

pub summands_end : {start here end : List Lexeme} {before now : Term} → Operating summand start here before now → Signs here end None → Reads (Star summand) (Operates before) start end (Ok now)
summands_end {here = here} o h = operating_end o h.0 (not_seq (Tok t.Plus ∣ Tok t.Minus) (call Name.Product) here refl (not_alt (Tok t.Plus) (Tok t.Minus) here h.1 h.2))

-- ---- products

multiplied : (op : ProductOp) (k : Terminal) (x y : Term) → k ≡ product_terminal op → operated k x y ≡ terms.Product x op y
multiplied products.Times k x y e = rw e refl
multiplied products.Over k x y e = rw e refl
multiplied products.Rest k x y e = rw e refl

pub factors_more : {start here mid end : List Lexeme} {before now : Term} {next : Operand} (op : ProductOp) → Operating factor start here before now → Factors here mid (Some op) → Reads (call Name.Unary) (IsOperand mid) mid end (Ok next) → Operating factor start end before (terms.Product now op (tree_of next))
factors_more {now = now} {next = next} op o n r =
    let q = taken r in
    operating_more o (Takes.seq (takes_product_sign op n) (giving q.makes.is q.takes)) (one_operator n.token q.makes.first next (multiplied op n.token.terminal now (tree_of next) n.kind))

pub factors_fail : {start here mid end : List Lexeme} {before now : Term} (op : ProductOp) → Operating factor start here before now → Factors here mid (Some op) → Fails factored tables (call Name.Unary) mid end → Fails factored tables (Star factor) start end
factors_fail {end = end} op o n g = o.within.fails end (Fails.item (product_sign_starts op n) (Fails.second (takes_product_sign op n) g))

pub factors_end : {start here end : List Lexeme} {before now : Term} → Operating factor start here before now → Factors here end None → Reads (Star factor) (Operates before) start end (Ok now)
factors_end {here = here} o h = operating_end o h.0 (not_seq (Tok t.Times ∣ Tok t.Slash ∣ Tok t.Backslash) (call Name.Unary) here refl (not_alt (Tok t.Times) (Tok t.Slash ∣ Tok t.Backslash) here h.1 (not_alt (Tok t.Slash) (Tok t.Backslash) here h.2 h.3)))

-- ---- intervals

pub range_none : {xs ys : List Lexeme} {x : Term} → (ys ≡ xs) × Lacks t.Dots xs → Reads (opt range) (Operates x) xs ys (Ok x)
range_none {xs = xs} h = rw h.0 (Reads.ok Operates.none (Takes.right (not_seq (Tok t.Dots) (call Name.Sum) xs refl h.1) Takes.empty))

pub range_fails : {xs ms ys : List Lexeme} → IsNext t.Dots xs ms → Fails factored tables (call Name.Sum) ms ys → Fails factored tables (opt range) xs ys
range_fails {xs = xs} n f = Fails.left (seq_starts (Tok t.Dots) (call Name.Sum) xs (next_starts n)) (Fails.second (next_takes n) f)

pub range_read : {xs ms ys : List Lexeme} {x : Term} {y : Operand} → IsNext t.Dots xs ms → Reads (call Name.Sum) (IsOperand ms) ms ys (Ok y) → Reads (opt range) (Operates x) xs ys (Ok (terms.Range x (tree_of y)))
range_read {xs = xs} {x = x} {y = y} n r =
    let q = taken r in
    Reads.ok (one_operator n.token q.makes.first y (ranged n.token.terminal x (tree_of y) n.kind))
    (Takes.left (seq_starts (Tok t.Dots) (call Name.Sum) xs (next_starts n)) (Takes.seq (next_takes n) (giving q.makes.is q.takes)))
  where
    ranged : (k : Terminal) (x y : Term) → k ≡ t.Dots → operated k x y ≡ terms.Range x y
    ranged k x y e = rw e refl

-- ---- all of the rest

pub summands_of_rest_fail : {xs ms ys : List Lexeme} {x y : Term} → Reads (Star factor) (Operates x) xs ms (Ok y) → Fails factored tables (Star summand) ms ys → Fails factored tables term_rest xs ys
summands_of_rest_fail r f = let q = taken r in Fails.second q.takes (Fails.first f)

pub rest_reads : {xs ms ns ys : List Lexeme} {x y z : Term} {r : Result Term Stop} → Reads (Star factor) (Operates x) xs ms (Ok y) → Reads (Star summand) (Operates y) ms ns (Ok z) → Reads (opt range) (Operates z) ns ys r → Reads term_rest (Operates x) xs ys r
rest_reads a b c =
    let p = taken a in
    let q = taken b in
    follow c
    (λ w vs i d. (p.values ++ (q.values ++ vs), operates_all p.makes (operates_all q.makes i), Takes.seq p.takes (Takes.seq q.takes d)))
    (λ f. Fails.second p.takes (Fails.second q.takes f))
