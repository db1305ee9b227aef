-- Sums and products, which go on to the right.
use Rattle.std.proofs.Common.{◌≡◌, List, [], ◌∷◌, ◌++◌, Option, None, refl, sym, append_assoc}
use Rattle.std.proofs.lemmas.List.{append-nil}
use Rattle.grammar.specs.Form.{Derives}
use Rattle.grammar.specs.Form.Form.{Star}
use Rattle.ap_syntax.specs.declared.terms.Atom.{Atom}
use Rattle.ap_syntax.specs.declared.terms.Term.{Term}
use Rattle.ap_grammar.specs.declared.terminals.Terminal.{Terminal}
use Rattle.ap_grammar.specs.Lexemes.{Lexeme}
use Rattle.ap_grammar.specs.Values.{Value}
use Rattle.ap_grammar.specs.Values.Value.{token, term}
use Rattle.ap_grammar.specs.Grammar.{Rhs, grammar, sum_from, sum_of, product_from, product_of}

-- from one term through signs and further terms to another
pub data Chain (operator : Terminal → Term → Term → Term) : Term → List Value → Term → Type 0 where
  none : {x : Term} → Chain operator x [] x
  more : {x y z : Term} {vs : List Value} (sign other : Lexeme) (name : Option Atom) → Chain operator (operator sign.terminal x y) vs z → Chain operator x (token sign ∷ term other name y ∷ vs) z

pub longer : {operator : Terminal → Term → Term → Term} {x z : Term} {vs : List Value} (sign other : Lexeme) (name : Option Atom) (y : Term) → Chain operator x vs z → Chain operator x (vs ++ token sign ∷ term other name y ∷ []) (operator sign.terminal z y)
longer sign other name y Chain.none = Chain.more sign other name Chain.none
longer sign other name y (Chain.more s o n c) = Chain.more s o n (longer sign other name y c)

pub sum_is : {x z : Term} {vs : List Value} (first : Lexeme) → Chain sum_of x vs z → sum_from first x vs ≡ term first None z
sum_is first Chain.none = refl
sum_is first (Chain.more s o n c) = sum_is first c

pub product_is : {x z : Term} {vs : List Value} (first : Lexeme) → Chain product_of x vs z → product_from first x vs ≡ term first None z
product_is first Chain.none = refl
product_is first (Chain.more s o n c) = product_is first c

-- one more at the end
pub star_longer : {a : Rhs} {xs ys zs : List Lexeme} {us vs : List Value} → Derives grammar (Star a) xs ys us → Derives grammar a ys zs vs → Derives grammar (Star a) xs zs (us ++ vs)
star_longer {vs = vs} Derives.none d = let q = Derives.more d Derives.none in rw (append-nil vs) at q
star_longer {vs = vs} (Derives.more {us = us} {vs = ws} d e) l = let q = Derives.more d (star_longer e l) in rw (sym (append_assoc us ws vs)) at q
