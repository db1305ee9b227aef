-- What a function of the parser did to the tokens.
use Rattle.std.specs.Prelude.{◌≡◌, ℕ, List, [], ◌∷◌, Bool, true, false, Option, Some, None, Result, Ok, Err}
use Rattle.std.specs.Borrow.{Bor}
use Rattle.grammar.specs.Form.Form.{Tok}
use Rattle.grammar.specs.Takes.{Takes, Fails, Starts, NotStarts}
use Rattle.ap_grammar.specs.declared.terminals.Terminal.{Terminal}
use Rattle.ap_grammar.specs.declared.terminals.Terminal.TheVariants as t
use Rattle.ap_grammar.specs.Lexemes.{Lexeme, decimal}
use Rattle.ap_grammar.specs.Values.{Value}
use Rattle.ap_grammar.specs.Factored.{Rhs, factored}
use Rattle.ap_grammar.specs.Tables.{tables}
use Rattle.ap_lexemes.specs.Lexemes.{lexeme_of}
use Rattle.ap_lexemes.specs.declared.lexeme.Lexeme.{Lexeme as Held}
use Rattle.ap_lexemes.specs.Quotes.{BeginsWithQuote}
use Rattle.literal_parse.specs.declared.cursor.Place.{Place}
use Rattle.literal_parse.specs.declared.error.Stop.{Stop}
use Rattle.literal_parse.specs.declared.error.Stop.TheVariants.{Memory, Syntax}

-- The form was read to its end, with values that belong to the result, or up to the token that breaks it.
pub data Reads {X : Type 0} (a : Rhs) (is : X → List Value → Type 0) (old new : List Lexeme) : Result X Stop → Type 0 where
  ok : {x : X} {vs : List Value} → is x vs → Takes factored tables a old new vs → Reads a is old new (Ok x)
  syntax : Fails factored tables a old new → Reads a is old new (Err Syntax)
  memory : Reads a is old new (Err Memory)

-- ---- single tokens

-- whether the next token begins the form
abbrev pub Tells : Rhs → List Lexeme → Bool → Type 0
Tells a ts true = Starts factored tables a ts
Tells a ts false = NotStarts factored tables a ts

-- the next token is of another kind, or there is none
abbrev pub Lacks : Terminal → List Lexeme → Type 0
Lacks k ts = NotStarts factored tables (Tok k) ts

-- the tokens behind the next one
abbrev pub behind : List Lexeme → List Lexeme
behind [] = []
behind (token ∷ ts) = ts

-- a token of this kind was read
pub record IsNext (k : Terminal) (old new : List Lexeme) : Type 0 where
  pub token : Lexeme
  pub is : old ≡ token ∷ new
  pub kind : token.terminal ≡ k

abbrev pub Eats : Terminal → List Lexeme → List Lexeme → Bool → Type 0
Eats k old new true = IsNext k old new
Eats k old new false = (new ≡ old) × Lacks k old

-- it is this one, as the code holds it
abbrev pub Holds : Terminal → List Lexeme → List Lexeme → Option Held → Type 0
Holds k old new (Some token) = (old ≡ lexeme_of token ∷ new) × (token.terminal ≡ k)
Holds k old new None = (new ≡ old) × Lacks k old

abbrev pub Spells : Terminal → List Lexeme → List Lexeme → Option (Bor (List ℕ)) → Type 0
Spells k old new (Some s) = (n : IsNext k old new) × (s.now ≡ n.token.bytes)
Spells k old new None = (new ≡ old) × Lacks k old

-- a number was read
abbrev pub Numbers : List Lexeme → List Lexeme → Option ℕ → Type 0
Numbers old new (Some n) = (w : IsNext t.Number old new) × (n ≡ decimal w.token.bytes)
Numbers old new None = (new ≡ old) × Lacks t.Number old

-- a string was read
abbrev pub Quotes : List Lexeme → List Lexeme → Option (Bor (List ℕ)) → Type 0
Quotes old new (Some s) = (w : IsNext t.String old new) × (s.now ≡ w.token.bytes) × BeginsWithQuote s.now
Quotes old new None = (new ≡ old) × Lacks t.String old

-- the value of one token
abbrev pub IsAny : {X : Type 0} → X → List Value → Type 0
IsAny x vs = (token : Lexeme) × (vs ≡ Value.token token ∷ [])

-- the place is that of the next token
abbrev pub IsPlace : List Lexeme → Place → Type 0
IsPlace [] p = Unit {0}
IsPlace (token ∷ ts) p = (p.file ≡ token.file) × (p.at ≡ token.at)

-- ---- names

pub data IsNameKind : Terminal → Type 0 where
  word : IsNameKind t.Word
  base : IsNameKind t.Base
  preference : IsNameKind t.Preference

pub record IsNamed (old new : List Lexeme) (name : List ℕ) : Type 0 where
  pub token : Lexeme
  pub is : old ≡ token ∷ new
  pub kind : IsNameKind token.terminal
  pub bytes : name ≡ token.bytes

abbrev pub Names : List Lexeme → List Lexeme → Option (Bor (List ℕ)) → Type 0
Names old new (Some s) = IsNamed old new s.now
Names old new None = (new ≡ old) × Lacks t.Word old × Lacks t.Base old × Lacks t.Preference old

-- the next token is this one
pub record Leads (old : List Lexeme) (token : Lexeme) : Type 0 where
  pub rest : List Lexeme
  pub is : old ≡ token ∷ rest

-- a name, by its token
pub record IsName (old : List Lexeme) (name : List ℕ) (vs : List Value) : Type 0 where
  pub token : Lexeme
  pub leads : Leads old token
  pub kind : IsNameKind token.terminal
  pub bytes : name ≡ token.bytes
  pub is : vs ≡ Value.token token ∷ []
