-- How closely a term binds, and where it may stand.
use Rattle.std.proofs.Common.{◌≡◌, ℕ, Bool, true, false, true≢false, cond, List, [], ◌∷◌, Option, None, refl, sym, ap, subst}
use Rattle.std.specs.Prelude.{codes, nat_le}
use Rattle.grammar.specs.Form.{Derives, ◌⨾◌, ◌∣◌}
use Rattle.grammar.specs.Form.Form.{Tok, Call, Star}
use Rattle.ap_syntax.specs.declared.terms.Atom.{Atom}
use Rattle.ap_syntax.specs.declared.terms.Term.{Term}
use Rattle.ap_syntax.specs.Pieces.{Piece, in_parentheses, spelled}
use Rattle.ap_syntax.specs.Pieces.Piece.{Spelled}
use Rattle.ap_syntax.specs.CanonicalTerms.{Written, at_least, written}
use Rattle.ap_grammar.specs.declared.terminals.Terminal.TheVariants as t
use Rattle.ap_grammar.specs.Lexemes.{Lexeme}
use Rattle.ap_grammar.specs.Values.{Value}
use Rattle.ap_grammar.specs.Values.Value.{token, term}
use Rattle.ap_grammar.specs.Grammar.{Name, grammar, primary, sum_of, product_of}
use Rattle.canonical_law.proofs.Lexing.{Ends}
use Rattle.canonical_law.proofs.Spells.{Spells, Clear, split, clear_append}
use Rattle.canonical_law.proofs.Signs.{open_one, open_apart, open_is, close_one, close_apart, close_is}
use Rattle.canonical_law.proofs.Chains.{Chain, sum_is, product_is}

pub data Level : Type 0 where
  Interval : Level
  Sum : Level
  Product : Level
  Negation : Level
  Primary : Level

abbrev pub number : Level → ℕ
number Level.Interval = 0
number Level.Sum = 1
number Level.Product = 2
number Level.Negation = 3
number Level.Primary = 4

-- the rule derives the tokens with this term
pub record IsTerm (n : Name) (xs ys : List Lexeme) (x : Term) : Type 0 where
  pub first : Lexeme
  pub name : Option Atom
  pub derives : Derives grammar (Call n) xs ys (term first name x ∷ [])

pub record IsSum (xs ys : List Lexeme) (x : Term) : Type 0 where
  pub front : Term
  pub middle : List Lexeme
  pub begins : IsTerm Name.Product xs middle front
  pub values : List Value
  pub rest : Derives grammar (Star ((Tok t.Plus ∣ Tok t.Minus) ⨾ Call Name.Product)) middle ys values
  pub chain : Chain sum_of front values x

pub record IsProduct (xs ys : List Lexeme) (x : Term) : Type 0 where
  pub front : Term
  pub middle : List Lexeme
  pub begins : IsTerm Name.Unary xs middle front
  pub values : List Value
  pub rest : Derives grammar (Star ((Tok t.Times ∣ Tok t.Slash ∣ Tok t.Backslash) ⨾ Call Name.Unary)) middle ys values
  pub chain : Chain product_of front values x

-- what is derived at each level
abbrev pub At : Level → List Lexeme → List Lexeme → Term → Type 0
At Level.Interval xs ys x = IsTerm Name.Term xs ys x
At Level.Sum xs ys x = IsSum xs ys x
At Level.Product xs ys x = IsProduct xs ys x
At Level.Negation xs ys x = IsTerm Name.Unary xs ys x
At Level.Primary xs ys x = IsTerm Name.Primary xs ys x

-- ---- from each level to the next looser one

primary_unary : {xs ys : List Lexeme} {x : Term} → IsTerm Name.Primary xs ys x → IsTerm Name.Unary xs ys x
primary_unary p = record { first = p.first; name = p.name; derives = Derives.call (Derives.seq (Derives.right Derives.empty) p.derives) }

unary_product : {xs ys : List Lexeme} {x : Term} → IsTerm Name.Unary xs ys x → IsProduct xs ys x
unary_product p = record { front = _; middle = _; begins = p; values = []; rest = Derives.none; chain = Chain.none }

product_value : {xs ms ys : List Lexeme} {front x : Term} {vs : List Value} → IsTerm Name.Unary xs ms front → Derives grammar (Star ((Tok t.Times ∣ Tok t.Slash ∣ Tok t.Backslash) ⨾ Call Name.Unary)) ms ys vs → Chain product_of front vs x → IsTerm Name.Product xs ys x
product_value b d Chain.none = record { first = b.first; name = b.name; derives = Derives.call (Derives.seq b.derives d) }
product_value {xs = xs} {ys = ys} b d (Chain.more s o n c) =
    let q = Derives.call {n = Name.Product} (Derives.seq b.derives d) in
    record { first = b.first; name = None; derives = subst (λ v. Derives grammar (Call Name.Product) xs ys (v ∷ [])) (product_is b.first c) q }

pub product_term : {xs ys : List Lexeme} {x : Term} → IsProduct xs ys x → IsTerm Name.Product xs ys x
product_term p = product_value p.begins p.rest p.chain

product_sum : {xs ys : List Lexeme} {x : Term} → IsProduct xs ys x → IsSum xs ys x
product_sum p = record { front = _; middle = _; begins = product_term p; values = []; rest = Derives.none; chain = Chain.none }

sum_value : {xs ms ys : List Lexeme} {front x : Term} {vs : List Value} → IsTerm Name.Product xs ms front → Derives grammar (Star ((Tok t.Plus ∣ Tok t.Minus) ⨾ Call Name.Product)) ms ys vs → Chain sum_of front vs x → IsTerm Name.Sum xs ys x
sum_value b d Chain.none = record { first = b.first; name = b.name; derives = Derives.call (Derives.seq b.derives d) }
sum_value {xs = xs} {ys = ys} b d (Chain.more s o n c) =
    let q = Derives.call {n = Name.Sum} (Derives.seq b.derives d) in
    record { first = b.first; name = None; derives = subst (λ v. Derives grammar (Call Name.Sum) xs ys (v ∷ [])) (sum_is b.first c) q }

pub sum_term : {xs ys : List Lexeme} {x : Term} → IsSum xs ys x → IsTerm Name.Sum xs ys x
sum_term p = sum_value p.begins p.rest p.chain

sum_interval : {xs ys : List Lexeme} {x : Term} → IsSum xs ys x → IsTerm Name.Term xs ys x
sum_interval p = let q = sum_term p in record { first = q.first; name = q.name; derives = Derives.call (Derives.seq q.derives (Derives.right Derives.empty)) }

-- ---- to any looser one

to_negation : (k : Level) {xs ys : List Lexeme} {x : Term} → nat_le 3 (number k) ≡ true → At k xs ys x → IsTerm Name.Unary xs ys x
to_negation Level.Interval h a = absurd (true≢false (sym h))
to_negation Level.Sum h a = absurd (true≢false (sym h))
to_negation Level.Product h a = absurd (true≢false (sym h))
to_negation Level.Negation h a = a
to_negation Level.Primary h a = primary_unary a

to_product : (k : Level) {xs ys : List Lexeme} {x : Term} → nat_le 2 (number k) ≡ true → At k xs ys x → IsProduct xs ys x
to_product Level.Interval h a = absurd (true≢false (sym h))
to_product Level.Sum h a = absurd (true≢false (sym h))
to_product Level.Product h a = a
to_product Level.Negation h a = unary_product a
to_product Level.Primary h a = unary_product (primary_unary a)

to_sum : (k : Level) {xs ys : List Lexeme} {x : Term} → nat_le 1 (number k) ≡ true → At k xs ys x → IsSum xs ys x
to_sum Level.Interval h a = absurd (true≢false (sym h))
to_sum Level.Sum h a = a
to_sum Level.Product h a = product_sum a
to_sum Level.Negation h a = product_sum (unary_product a)
to_sum Level.Primary h a = product_sum (unary_product (primary_unary a))

to_interval : (k : Level) {xs ys : List Lexeme} {x : Term} → At k xs ys x → IsTerm Name.Term xs ys x
to_interval Level.Interval a = a
to_interval Level.Sum a = sum_interval a
to_interval Level.Product a = sum_interval (product_sum a)
to_interval Level.Negation a = sum_interval (product_sum (unary_product a))
to_interval Level.Primary a = sum_interval (product_sum (unary_product (primary_unary a)))

to_primary : (k : Level) {xs ys : List Lexeme} {x : Term} → nat_le 4 (number k) ≡ true → At k xs ys x → IsTerm Name.Primary xs ys x
to_primary Level.Interval h a = absurd (true≢false (sym h))
to_primary Level.Sum h a = absurd (true≢false (sym h))
to_primary Level.Product h a = absurd (true≢false (sym h))
to_primary Level.Negation h a = absurd (true≢false (sym h))
to_primary Level.Primary h a = a

pub looser : (l k : Level) (xs ys : List Lexeme) (x : Term) → nat_le (number l) (number k) ≡ true → At k xs ys x → At l xs ys x
looser Level.Interval k xs ys x h a = to_interval k a
looser Level.Sum k xs ys x h a = to_sum k h a
looser Level.Product k xs ys x h a = to_product k h a
looser Level.Negation k xs ys x h a = to_negation k h a
looser Level.Primary k xs ys x h a = to_primary k h a

below_primary : (l : Level) → nat_le (number l) 4 ≡ true
below_primary Level.Interval = refl
below_primary Level.Sum = refl
below_primary Level.Product = refl
below_primary Level.Negation = refl
below_primary Level.Primary = refl

-- ---- terms that read back

-- what is written reads as the term
pub record Good (w : Written) (x : Term) : Type 0 where
  pub level : Level
  pub is : w.level ≡ number level
  pub derives : {xs ys : List Lexeme} → Spells w.pieces xs ys → At level xs ys x
  pub clear : (rest : List ℕ) → Ends rest → Clear w.pieces rest

abbrev pub GoodTerm : Term → Type 0
GoodTerm x = Good (written x) x

group_derives : {xs ys : List Lexeme} {x : Term} {paren close : Lexeme} → paren.terminal ≡ t.Open → close.terminal ≡ t.Close → IsTerm Name.Term xs (close ∷ ys) x → IsTerm Name.Primary (paren ∷ xs) ys x
group_derives {xs = xs} {ys = ys} {x = x} {paren = paren} {close = close} o c p =
    let d = Derives.call {n = Name.Primary} (Derives.right (Derives.right (Derives.right (Derives.right (Derives.right (Derives.left (Derives.seq (Derives.tok o) (Derives.seq p.derives (Derives.tok c))))))))) in
    record { first = paren; name = None; derives = subst (λ v. Derives grammar (Call Name.Primary) (paren ∷ xs) ys (v ∷ [])) (ap (λ k. primary k paren (term p.first p.name x ∷ token close ∷ [])) o) d }

-- the parenthesis at the end
pub closing : {ms ys : List Lexeme} → Spells (Spelled (codes ")") ∷ []) ms ys → (close : Lexeme) × (ms ≡ close ∷ ys) × (close.terminal ≡ t.Close)
closing (Spells.word j Spells.nothing) = (_, refl, close_is j)

in_group : {w : Written} {x : Term} {xs ys : List Lexeme} → Good w x → Spells (in_parentheses w.pieces) xs ys → IsTerm Name.Primary xs ys x
in_group {w = w} g (Spells.word i s) =
    let q = split w.pieces s in
    let c = closing q.2 in
    let p = to_interval g.level (g.derives q.1) in
    group_derives (open_is i) c.2 (rw c.1 at p)

pub parentheses_clear : (ps : List Piece) (rest : List ℕ) → ((more : List ℕ) → Ends more → Clear ps more) → Clear (in_parentheses ps) rest
parentheses_clear ps rest h = Clear.word open_one (open_apart _) (clear_append ps (spelled (codes ")")) rest (h _ refl) (Clear.word close_one (close_apart _) Clear.nothing))

-- a term where this level or one that binds more closely is wanted
pub placed : (l : Level) {w : Written} {x : Term} {xs ys : List Lexeme} → Good w x → Spells (at_least (number l) w) xs ys → At l xs ys x
placed l {w = w} {x = x} {xs = xs} {ys = ys} g s = choose (nat_le (number l) w.level) refl s
  where
    choose : (b : Bool) → nat_le (number l) w.level ≡ b → Spells (cond b w.pieces (in_parentheses w.pieces)) xs ys → At l xs ys x
    choose true e s = looser l g.level xs ys x (rw g.is at e) (g.derives s)
    choose false e s = looser l Level.Primary xs ys x (below_primary l) (in_group g s)

pub placed_clear : (n : ℕ) {w : Written} {x : Term} → Good w x → (rest : List ℕ) → Ends rest → Clear (at_least n w) rest
placed_clear n {w = w} g rest h = choose (nat_le n w.level)
  where
    choose : (b : Bool) → Clear (cond b w.pieces (in_parentheses w.pieces)) rest
    choose true = g.clear rest h
    choose false = parentheses_clear w.pieces rest g.clear
