-- Terms that are read, read back.
use Rattle.std.proofs.Common.{◌≡◌, List, [], ◌∷◌, ◌++◌, None, refl, ap, ◌∙◌, inl, inr}
use Rattle.std.proofs.lemmas.List.{append-nil}
use Rattle.grammar.specs.Form.{◌⨾◌, ◌∣◌}
use Rattle.grammar.specs.Form.Form.{Tok, Call, Star}
use Rattle.grammar.proofs.Interpret.{Reads}
use Rattle.ap_syntax.specs.declared.terms.Term.{Term}
use Rattle.ap_syntax.specs.declared.terms.ProductOp.TheVariants.{Times, Over, Rest}
use Rattle.ap_syntax.specs.declared.terms.SumOp.TheVariants as sums
use Rattle.ap_grammar.specs.declared.terminals.Terminal.{Terminal}
use Rattle.ap_grammar.specs.declared.terminals.Terminal.TheVariants as t
use Rattle.ap_grammar.specs.Lexemes.{Lexeme, decimal, string_of}
use Rattle.ap_grammar.specs.Values.{Value, as_term, collected}
use Rattle.ap_grammar.specs.Values.Value.{term, token}
use Rattle.ap_grammar.specs.Grammar.{Name, group, made, many, primary, product_from, product_of, rule_of, sum_from, sum_of}
use Rattle.ap_grammar.proofs.Sorts.{name_primary}
use Rattle.canonical_law.proofs.Levels.{GoodTerm}
use Rattle.canonical_law.proofs.Lists.{Each, collected-append}
use Rattle.canonical_law.proofs.Terms.{good_any, good_const, good_fun, good_int, good_minus, good_product, good_range, good_str, good_sum, good_tuple, good_var, pair_value}
use Rattle.canonical_law.proofs.Fine.{Fine, base_name, number_of_token, preference_name, variable_of, word_name}
use Rattle.canonical_law.proofs.Says.{Has, SaysName, SaysTerm, Says}

-- ---- names

pub ident_says : {xs ys : List Fine} {vs : List Value} → Has (rule_of Name.Ident) xs ys vs → SaysName (made Name.Ident vs)
ident_says (Reads.left (Reads.tok {t = x} e)) = record { token_is = x.token; is = refl; kind = inl e; good = word_name x e }
ident_says (Reads.right (Reads.left (Reads.tok {t = x} e))) = record { token_is = x.token; is = refl; kind = inr (inl e); good = base_name x e }
ident_says (Reads.right (Reads.right (Reads.tok {t = x} e))) = record { token_is = x.token; is = refl; kind = inr (inr e); good = preference_name x e }

-- ---- lists of terms

-- the members behind the first
pub record AreTerms (vs : List Value) : Type 0 where
  pub terms : List Term
  pub are : collected as_term vs ≡ terms
  pub good : Each GoodTerm terms

comma_term : (comma : Lexeme) (v : Value) (vs : List Value) → SaysTerm v → AreTerms vs → AreTerms (token comma ∷ v ∷ vs)
comma_term comma v vs s a = record { terms = s.tree ∷ a.terms; are = rw s.is (ap (λ ts. s.tree ∷ ts) a.are); good = Each.more s.good a.good }

pub terms_behind : {xs ys : List Fine} {vs : List Value} → Has (Star (Tok t.Comma ⨾ Call Name.Term)) xs ys vs → AreTerms vs
terms_behind Reads.none = record { terms = []; are = refl; good = Each.none }
terms_behind (Reads.more (Reads.seq (Reads.tok {t = c} e) (Reads.call {v = v} m)) rest) = comma_term c.token v _ m (terms_behind rest)

-- one term or more
pub record AreSome (vs : List Value) : Type 0 where
  pub first : Term
  pub rest : List Term
  pub are : collected as_term vs ≡ first ∷ rest
  pub good : Each GoodTerm (first ∷ rest)

some_terms : (v : Value) (vs : List Value) → SaysTerm v → AreTerms vs → AreSome (v ∷ vs)
some_terms v vs s a = record { first = s.tree; rest = a.terms; are = rw s.is (ap (λ ts. s.tree ∷ ts) a.are); good = Each.more s.good a.good }

pub some_says : {xs ys : List Fine} {vs : List Value} → Has (many (Call Name.Term) t.Comma) xs ys vs → AreSome vs
some_says (Reads.seq (Reads.call {v = v} m) rest) = some_terms v _ m (terms_behind rest)

-- a token behind them
with_token : (vs : List Value) (x : Lexeme) → collected as_term (vs ++ token x ∷ []) ≡ collected as_term vs
with_token vs x = collected-append as_term vs (token x ∷ []) ∙ append-nil (collected as_term vs)

pub arguments_say : {xs ys : List Fine} {vs : List Value} → Has (rule_of Name.Arguments) xs ys vs → Says Name.Arguments (made Name.Arguments vs)
arguments_say (Reads.seq (Reads.tok {t = p} e) (Reads.seq {us = us} m (Reads.tok {t = c} f))) = let a = some_says m in (a.first, a.rest, ap Value.terms (with_token us c.token ∙ a.are), a.good)

-- ---- atoms

pub atom_says : {xs ys : List Fine} {vs : List Value} → Has (rule_of Name.Atom) xs ys vs → Says Name.Atom (made Name.Atom vs)
atom_says (Reads.seq (Reads.call {v = v} m) (Reads.right Reads.empty)) = rw m.is (m.token_is, _, refl, record { name = m.good; terms = Each.none })
atom_says (Reads.seq (Reads.call {v = v} m) (Reads.left (Reads.call {v = w} n))) = rw (m.is, n.2) (m.token_is, _, refl, record { name = m.good; terms = n.3 })

-- ---- terms

other_term : (first : Lexeme) {x : Term} {v : Value} → v ≡ term first None x → GoodTerm x → SaysTerm v
other_term first e g = record { first = first; name = None; tree = _; is = e; good = g }

again : {v : Value} (s : SaysTerm v) → SaysTerm (term s.first s.name s.tree)
again s = record { first = s.first; name = s.name; tree = s.tree; is = refl; good = s.good }

pub term_says : {xs ys : List Fine} {vs : List Value} → Has (rule_of Name.Term) xs ys vs → SaysTerm (made Name.Term vs)
term_says (Reads.seq (Reads.call {v = v} m) (Reads.right Reads.empty)) = rw m.is (again m)
term_says (Reads.seq (Reads.call {v = v} m) (Reads.left (Reads.seq (Reads.tok e) (Reads.call {v = w} n)))) = rw (m.is, n.is) (other_term m.first refl (good_range m.tree n.tree m.good n.good))

pub unary_says : {xs ys : List Fine} {vs : List Value} → Has (rule_of Name.Unary) xs ys vs → SaysTerm (made Name.Unary vs)
unary_says (Reads.seq (Reads.right Reads.empty) (Reads.call {v = v} m)) = rw m.is (again m)
unary_says (Reads.seq (Reads.left (Reads.tok {t = minus} e)) (Reads.call {v = v} m)) = rw m.is (other_term minus.token refl (good_minus m.tree m.good))

-- sums, from a term on
plus_good : (x y : Term) (k : Terminal) → k ≡ t.Plus → GoodTerm x → GoodTerm y → GoodTerm (sum_of k x y)
plus_good x y k e g h = rw e (good_sum x sums.Plus y g h)

less_good : (x y : Term) (k : Terminal) → k ≡ t.Minus → GoodTerm x → GoodTerm y → GoodTerm (sum_of k x y)
less_good x y k e g h = rw e (good_sum x sums.Less y g h)

record SumIs (first : Lexeme) (x : Term) (vs : List Value) : Type 0 where
  tree : Term
  is : sum_from first x vs ≡ term first None tree
  good : GoodTerm tree

sum_more : (first : Lexeme) (x : Term) (sign : Lexeme) (v : Value) (vs : List Value) (s : SaysTerm v) → SumIs first (sum_of sign.terminal x s.tree) vs → SumIs first x (token sign ∷ v ∷ vs)
sum_more first x sign v vs s q = record { tree = q.tree; is = rw s.is q.is; good = q.good }

summed : (first : Lexeme) (x : Term) {xs ys : List Fine} {vs : List Value} → GoodTerm x → Has (Star ((Tok t.Plus ∣ Tok t.Minus) ⨾ Call Name.Product)) xs ys vs → SumIs first x vs
summed first x g Reads.none = record { tree = x; is = refl; good = g }
summed first x g (Reads.more (Reads.seq (Reads.left (Reads.tok {t = sign} e)) (Reads.call {v = v} m)) rest) = sum_more first x sign.token v _ m (summed first (sum_of sign.token.terminal x m.tree) (plus_good x m.tree sign.token.terminal e g m.good) rest)
summed first x g (Reads.more (Reads.seq (Reads.right (Reads.tok {t = sign} e)) (Reads.call {v = v} m)) rest) = sum_more first x sign.token v _ m (summed first (sum_of sign.token.terminal x m.tree) (less_good x m.tree sign.token.terminal e g m.good) rest)

sum_made : (v : Value) (vs : List Value) (s : SaysTerm v) → SumIs s.first s.tree vs → SaysTerm (made Name.Sum (v ∷ vs))
sum_made v [] s q = rw s.is (again s)
sum_made v (u ∷ us) s q = rw s.is (other_term s.first q.is q.good)

pub sum_says : {xs ys : List Fine} {vs : List Value} → Has (rule_of Name.Sum) xs ys vs → SaysTerm (made Name.Sum vs)
sum_says (Reads.seq (Reads.call {v = v} m) rest) = sum_made v _ m (summed m.first m.tree m.good rest)

-- products, from a term on
times_good : (x y : Term) (k : Terminal) → k ≡ t.Times → GoodTerm x → GoodTerm y → GoodTerm (product_of k x y)
times_good x y k e g h = rw e (good_product x Times y g h)

over_good : (x y : Term) (k : Terminal) → k ≡ t.Slash → GoodTerm x → GoodTerm y → GoodTerm (product_of k x y)
over_good x y k e g h = rw e (good_product x Over y g h)

rest_good : (x y : Term) (k : Terminal) → k ≡ t.Backslash → GoodTerm x → GoodTerm y → GoodTerm (product_of k x y)
rest_good x y k e g h = rw e (good_product x Rest y g h)

record ProductIs (first : Lexeme) (x : Term) (vs : List Value) : Type 0 where
  tree : Term
  is : product_from first x vs ≡ term first None tree
  good : GoodTerm tree

product_more : (first : Lexeme) (x : Term) (sign : Lexeme) (v : Value) (vs : List Value) (s : SaysTerm v) → ProductIs first (product_of sign.terminal x s.tree) vs → ProductIs first x (token sign ∷ v ∷ vs)
product_more first x sign v vs s q = record { tree = q.tree; is = rw s.is q.is; good = q.good }

multiplied : (first : Lexeme) (x : Term) {xs ys : List Fine} {vs : List Value} → GoodTerm x → Has (Star ((Tok t.Times ∣ Tok t.Slash ∣ Tok t.Backslash) ⨾ Call Name.Unary)) xs ys vs → ProductIs first x vs
multiplied first x g Reads.none = record { tree = x; is = refl; good = g }
multiplied first x g (Reads.more (Reads.seq (Reads.left (Reads.tok {t = sign} e)) (Reads.call {v = v} m)) rest) = product_more first x sign.token v _ m (multiplied first (product_of sign.token.terminal x m.tree) (times_good x m.tree sign.token.terminal e g m.good) rest)
multiplied first x g (Reads.more (Reads.seq (Reads.right (Reads.left (Reads.tok {t = sign} e))) (Reads.call {v = v} m)) rest) = product_more first x sign.token v _ m (multiplied first (product_of sign.token.terminal x m.tree) (over_good x m.tree sign.token.terminal e g m.good) rest)
multiplied first x g (Reads.more (Reads.seq (Reads.right (Reads.right (Reads.tok {t = sign} e))) (Reads.call {v = v} m)) rest) = product_more first x sign.token v _ m (multiplied first (product_of sign.token.terminal x m.tree) (rest_good x m.tree sign.token.terminal e g m.good) rest)

product_made : (v : Value) (vs : List Value) (s : SaysTerm v) → ProductIs s.first s.tree vs → SaysTerm (made Name.Product (v ∷ vs))
product_made v [] s q = rw s.is (again s)
product_made v (u ∷ us) s q = rw s.is (other_term s.first q.is q.good)

pub product_says : {xs ys : List Fine} {vs : List Value} → Has (rule_of Name.Product) xs ys vs → SaysTerm (made Name.Product vs)
product_says (Reads.seq (Reads.call {v = v} m) rest) = product_made v _ m (multiplied m.first m.tree m.good rest)

-- ---- primary terms

const_made : (v : Value) (s : SaysName v) → SaysTerm (made Name.Primary (v ∷ []))
const_made v s = rw s.is (record { first = s.token_is; name = _; tree = _; is = name_primary s.token_is [] s.kind; good = good_const s.token_is.bytes s.good })

fun_made : (v w : Value) (s : SaysName v) (a : Says Name.Arguments w) → SaysTerm (made Name.Primary (v ∷ w ∷ []))
fun_made v w s a = rw (s.is, a.2) (record { first = s.token_is; name = _; tree = _; is = name_primary s.token_is (Value.terms (a.0 ∷ a.1) ∷ []) s.kind; good = good_fun s.token_is.bytes a.0 a.1 s.good a.3 })

-- behind a parenthesis
group_made : (first : Lexeme) (vs : List Value) {x : Term} → first.terminal ≡ t.Open → group first vs ≡ term first None x → GoodTerm x → SaysTerm (made Name.Primary (token first ∷ vs))
group_made first vs e f g = other_term first (ap (λ k. primary k first vs) e ∙ f) g

inner_made : (first : Lexeme) (v : Value) (close : Lexeme) (s : SaysTerm v) → first.terminal ≡ t.Open → SaysTerm (made Name.Primary (token first ∷ v ∷ token close ∷ []))
inner_made first v close s e = rw s.is (group_made first (term s.first s.name s.tree ∷ token close ∷ []) e refl s.good)

single_made : (first : Lexeme) (v : Value) (comma close : Lexeme) (s : SaysTerm v) → first.terminal ≡ t.Open → SaysTerm (made Name.Primary (token first ∷ v ∷ token comma ∷ token close ∷ []))
single_made first v comma close s e = rw s.is (group_made first (term s.first s.name s.tree ∷ token comma ∷ token close ∷ []) e refl (good_tuple (s.tree ∷ []) (Each.more s.good Each.none)))

several_made : (first : Lexeme) (v : Value) (comma : Lexeme) (vs : List Value) (close : Lexeme) (s : SaysTerm v) (a : AreSome vs) → first.terminal ≡ t.Open → SaysTerm (made Name.Primary (token first ∷ v ∷ token comma ∷ (vs ++ token close ∷ [])))
several_made first v comma vs close s a e = rw s.is (group_made first (term s.first s.name s.tree ∷ token comma ∷ (vs ++ token close ∷ [])) e (pair_value first s.first s.name s.tree comma vs close a.first a.rest a.are) (good_tuple (s.tree ∷ a.first ∷ a.rest) (Each.more s.good a.good)))

pub primary_says : {xs ys : List Fine} {vs : List Value} → Has (rule_of Name.Primary) xs ys vs → SaysTerm (made Name.Primary vs)
primary_says (Reads.left (Reads.tok {t = x} e)) = other_term x.token (ap (λ k. primary k x.token []) e) (good_int (decimal x.token.bytes) (number_of_token x e))
primary_says (Reads.right (Reads.left (Reads.tok {t = x} e))) = other_term x.token (ap (λ k. primary k x.token []) e) (good_str (string_of x.token.bytes))
primary_says (Reads.right (Reads.right (Reads.left (Reads.tok {t = x} e)))) = other_term x.token (ap (λ k. primary k x.token []) e) (good_var x.token.bytes (variable_of x e))
primary_says (Reads.right (Reads.right (Reads.right (Reads.left (Reads.tok {t = x} e))))) = other_term x.token (ap (λ k. primary k x.token []) e) good_any
primary_says (Reads.right (Reads.right (Reads.right (Reads.right (Reads.left (Reads.seq (Reads.call {v = v} m) (Reads.right Reads.empty))))))) = const_made v m
primary_says (Reads.right (Reads.right (Reads.right (Reads.right (Reads.left (Reads.seq (Reads.call {v = v} m) (Reads.left (Reads.call {v = w} n)))))))) = fun_made v w m n
primary_says (Reads.right (Reads.right (Reads.right (Reads.right (Reads.right (Reads.left (Reads.seq (Reads.tok {t = p} e) (Reads.seq (Reads.call {v = v} m) (Reads.tok {t = c} f))))))))) = inner_made p.token v c.token m e
primary_says (Reads.right (Reads.right (Reads.right (Reads.right (Reads.right (Reads.right (Reads.left (Reads.seq (Reads.tok {t = p} e) (Reads.tok {t = c} f))))))))) = group_made p.token (token c.token ∷ []) e refl (good_tuple [] Each.none)
primary_says (Reads.right (Reads.right (Reads.right (Reads.right (Reads.right (Reads.right (Reads.right (Reads.left (Reads.seq (Reads.tok {t = p} e) (Reads.seq (Reads.call {v = v} m) (Reads.seq (Reads.tok {t = k} f) (Reads.tok {t = c} g)))))))))))) = single_made p.token v k.token c.token m e
primary_says (Reads.right (Reads.right (Reads.right (Reads.right (Reads.right (Reads.right (Reads.right (Reads.right (Reads.seq (Reads.tok {t = p} e) (Reads.seq (Reads.call {v = v} m) (Reads.seq (Reads.tok {t = k} f) (Reads.seq {us = us} n (Reads.tok {t = c} g))))))))))))) = several_made p.token v k.token us c.token m (some_says n) e
