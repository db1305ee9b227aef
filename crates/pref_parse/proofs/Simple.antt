-- Numbers, strings, variables and `_`, which are primary terms of one token.
use Rattle.std.proofs.Common.{◌≡◌, List, [], ◌∷◌, None, refl, sym, ap}
use Rattle.grammar.specs.Form.{◌∣◌}
use Rattle.grammar.specs.Form.Form.{Tok}
use Rattle.grammar.specs.Takes.{Takes, Fails, Starts, NotStarts}
use Rattle.grammar.proofs.Laws.{both, or_false}
use Rattle.ap_syntax.specs.declared.terms.Term.{Term}
use Rattle.ap_grammar.specs.declared.terminals.Terminal.{Terminal}
use Rattle.ap_grammar.specs.declared.terminals.Terminal.TheVariants as t
use Rattle.ap_grammar.specs.Lexemes.{Lexeme}
use Rattle.ap_grammar.specs.Values.{Value}
use Rattle.ap_grammar.specs.Values.Value.{token, term}
use Rattle.ap_grammar.specs.Grammar.{Name, primary}
use Rattle.ap_grammar.specs.Factored.{Rhs, call, factored, front}
use Rattle.ap_grammar.specs.Tables.{tables}
use Rattle.ap_grammar.proofs.Predictive.{same_is}
use Rattle.literal_parse.specs.declared.operand.Operand.{Operand}
use Rattle.literal_parse.specs.declared.operand.Operand.TheVariants.{Bare, Other}
use Rattle.literal_parse.specs.Reads.{Lacks}
use Rattle.literal_parse.specs.Operands.{tree_of, value_of}
use Rattle.pref_parse.specs.Mixed.{simple}

pub data IsSimpleKind : Terminal → Type 0 where
  number : IsSimpleKind t.Number
  string : IsSimpleKind t.String
  variable : IsSimpleKind t.Variable
  any : IsSimpleKind t.Any

-- the one token of a primary term
pub record IsOneToken (xs ys : List Lexeme) (vs : List Value) : Type 0 where
  pub token : Lexeme
  pub is : xs ≡ token ∷ ys
  pub kind : IsSimpleKind token.terminal
  pub makes : vs ≡ primary token.terminal token [] ∷ []

-- none of the four comes next
pub record IsOtherwise (ts : List Lexeme) : Type 0 where
  pub number : Lacks t.Number ts
  pub string : Lacks t.String ts
  pub variable : Lacks t.Variable ts
  pub any : Lacks t.Any ts

pub otherwise : (ts : List Lexeme) → NotStarts factored tables simple ts → IsOtherwise ts
otherwise [] h = record { number = tt; string = tt; variable = tt; any = tt }
otherwise (x ∷ ts) h =
    let a = or_false _ _ h in
    let b = or_false _ _ a.1 in
    let c = or_false _ _ b.1 in
    record { number = a.0; string = b.0; variable = c.0; any = c.1 }

never : (ts : List Lexeme) → Starts factored tables simple ts → Lacks t.Number ts → Lacks t.String ts → Lacks t.Variable ts → Lacks t.Any ts → ⊥
never [] h a b c d = h
never (x ∷ ts) h a b c d = both _ h (rw (a, b, c, d) refl)

one : {x : Lexeme} {k : Terminal} {ys : List Lexeme} → x.terminal ≡ k → IsSimpleKind k → IsOneToken (x ∷ ys) ys (primary x.terminal x [] ∷ [])
one {x = x} e i = record { token = x; is = refl; kind = rw e i; makes = refl }

pub one_token : {xs ys : List Lexeme} {vs : List Value} → Takes factored tables (call Name.Primary) xs ys vs → Starts factored tables simple xs → IsOneToken xs ys vs
one_token (Takes.call (Takes.left s (Takes.tok e))) h = one e IsSimpleKind.number
one_token (Takes.call (Takes.right n (Takes.left s (Takes.tok e)))) h = one e IsSimpleKind.string
one_token (Takes.call (Takes.right n (Takes.right m (Takes.left s (Takes.tok e))))) h = one e IsSimpleKind.variable
one_token (Takes.call (Takes.right n (Takes.right m (Takes.right l (Takes.left s (Takes.tok e)))))) h = one e IsSimpleKind.any
one_token (Takes.call {xs = xs} (Takes.right n (Takes.right m (Takes.right l (Takes.right k d))))) h = absurd (never xs h n m l k)

tok_never : {k : Terminal} {xs ys : List Lexeme} → Starts factored tables (Tok k) xs → Fails factored tables (Tok k) xs ys → ⊥
tok_never s Fails.tok_end = s
tok_never {k = k} s (Fails.tok_other {t = x} e) = e (sym (same_is k x.terminal s))

pub never_fails : {xs ys : List Lexeme} → Fails factored tables (call Name.Primary) xs ys → Starts factored tables simple xs → ⊥
never_fails (Fails.call (Fails.left s f)) h = tok_never s f
never_fails (Fails.call (Fails.right n (Fails.left s f))) h = tok_never s f
never_fails (Fails.call (Fails.right n (Fails.right m (Fails.left s f)))) h = tok_never s f
never_fails (Fails.call (Fails.right n (Fails.right m (Fails.right l (Fails.left s f))))) h = tok_never s f
never_fails (Fails.call {xs = xs} (Fails.right n (Fails.right m (Fails.right l (Fails.right k f))))) h = never xs h n m l k

-- one of the four tokens, before any further alternatives
pub simple_takes : (rest : Rhs) {x : Lexeme} {ys : List Lexeme} (k : Terminal) → x.terminal ≡ k → IsSimpleKind k → Takes factored tables (Tok t.Number ∣ Tok t.String ∣ Tok t.Variable ∣ Tok t.Any ∣ rest) (x ∷ ys) ys (token x ∷ [])
simple_takes rest k e IsSimpleKind.number = Takes.left (rw e refl) (Takes.tok e)
simple_takes rest k e IsSimpleKind.string = Takes.right (rw e refl) (Takes.left (rw e refl) (Takes.tok e))
simple_takes rest k e IsSimpleKind.variable = Takes.right (rw e refl) (Takes.right (rw e refl) (Takes.left (rw e refl) (Takes.tok e)))
simple_takes rest k e IsSimpleKind.any = Takes.right (rw e refl) (Takes.right (rw e refl) (Takes.right (rw e refl) (Takes.left (rw e refl) (Takes.tok e))))

-- a term that is no atom, by its value
no_atom : (x other : Lexeme) (y : Term) (o : Operand) → value_of other o ≡ term x None y → term x None y ≡ term x None (tree_of o)
no_atom x other y (Bare a) e = absurd (cc)
no_atom x other y (Other z) e = let f : z ≡ y = cc in ap (term x None) (sym f)

pub simple_made : (k : Terminal) (x other : Lexeme) (o : Operand) → IsSimpleKind k → value_of other o ≡ primary k x [] → front k x [] ≡ term x None (tree_of o)
simple_made k x other o IsSimpleKind.number e = no_atom x other _ o e
simple_made k x other o IsSimpleKind.string e = no_atom x other _ o e
simple_made k x other o IsSimpleKind.variable e = no_atom x other _ o e
simple_made k x other o IsSimpleKind.any e = no_atom x other _ o e
