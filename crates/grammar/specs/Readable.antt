-- Grammars that one token of foresight reads.
use Rattle.std.specs.Prelude.{◌≡◌, List, ◌++◌}
use Rattle.grammar.specs.Form.{Form, Grammar, Derives}
use Rattle.grammar.specs.Form.Form.{Call}
use Rattle.grammar.specs.Tables.{Tables, IsPredictive}

-- a text of the form, before whatever follows
pub record Example {N K C T V : Type 0} (g : Grammar N K C T V) (a : Form N K C) : Type 0 where
  pub text : List T
  pub values : List V
  pub derives : (zs : List T) → Derives g a (text ++ zs) zs values

-- one token tells which way to go, each kind has a token, and each rule has a text
pub record IsReadable {N K C T V : Type 0} (g : Grammar N K C T V) (tb : Tables N K C) : Type 0 where
  pub predictive : IsPredictive g tb
  pub token : K → T
  pub kinds : (k : K) → g.kind (token k) ≡ k
  pub examples : (n : N) → Example g (Call n)
