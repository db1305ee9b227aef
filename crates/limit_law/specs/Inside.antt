-- Formulas inside a text, and where they end.
use Rattle.std.specs.Prelude.{◌≡◌, ℕ, ◌<◌, ◌≤◌, Bool, false, true, List, [], ◌∷◌, ◌++◌, Option, Some, None}
use Rattle.grammar.specs.Form.{Form, Grammar, Derives, ◌⨾◌}
use Rattle.grammar.specs.Form.Form.{Tok, Call, Seq, Alt, Star, Then}
use Rattle.ap_grammar.specs.declared.terminals.Terminal.{Terminal}
use Rattle.ap_grammar.specs.declared.terminals.Terminal.TheVariants as t
use Rattle.ap_grammar.specs.Grammar.{Name, grammar}
use Rattle.ap_grammar.specs.Lexemes.{Lexeme}
use Rattle.ap_grammar.specs.Values.{Value}
use Rattle.ap_grammar.specs.Values.Value.{formula}
use Rattle.ap_lexemes.specs.Limits.{Levels, is_and, limit_at, next_role, role_of}
use Rattle.ap_lexemes.specs.declared.limit.Limit.TheVariants as limits
use Rattle.ap_lexemes.specs.declared.limit.LimitAt.{LimitAt}
use Rattle.ap_lexemes.specs.declared.role.Role.{Role}
use Rattle.ap_lexemes.specs.declared.role.Role.TheVariants as roles
use Rattle.ap_syntax.specs.declared.preferences.Formula.{Formula}
use Rattle.limit_law.specs.Depths.{depth, scan}

-- The form derives the tokens of the first list up to the second with these values, and somewhere in that derivation the rule n derives those of `us`
-- up to `vs` with the value v.
pub data Inside {N K C T V : Type 0} (g : Grammar N K C T V) (n : N) (us vs : List T) (v : V) : Form N K C → List T → List T → List V → Type 0 where
  here : Derives g (Call n) us vs (v ∷ []) → Inside g n us vs v (Call n) us vs (v ∷ [])
  under : {m : N} {xs ys : List T} {ws : List V} → Inside g n us vs v (g.rule m) xs ys ws → Inside g n us vs v (Call m) xs ys (g.build m ws ∷ [])
  first : {a b : Form N K C} {xs ys zs : List T} {ws ks : List V} → Inside g n us vs v a xs ys ws → Derives g b ys zs ks → Inside g n us vs v (Seq a b) xs zs (ws ++ ks)
  second : {a b : Form N K C} {xs ys zs : List T} {ws ks : List V} → Derives g a xs ys ws → Inside g n us vs v b ys zs ks → Inside g n us vs v (Seq a b) xs zs (ws ++ ks)
  left : {a b : Form N K C} {xs ys : List T} {ws : List V} → Inside g n us vs v a xs ys ws → Inside g n us vs v (Alt a b) xs ys ws
  right : {a b : Form N K C} {xs ys : List T} {ws : List V} → Inside g n us vs v b xs ys ws → Inside g n us vs v (Alt a b) xs ys ws
  item : {a : Form N K C} {xs ys zs : List T} {ws ks : List V} → Inside g n us vs v a xs ys ws → Derives g (Star a) ys zs ks → Inside g n us vs v (Star a) xs zs (ws ++ ks)
  later : {a : Form N K C} {xs ys zs : List T} {ws ks : List V} → Derives g a xs ys ws → Inside g n us vs v (Star a) ys zs ks → Inside g n us vs v (Star a) xs zs (ws ++ ks)
  start : {a : Form N K C} {b : C → Form N K C} {xs ys zs : List T} {ws ks : List V} → Inside g n us vs v a xs ys ws → Derives g (b (g.class ws)) ys zs ks → Inside g n us vs v (Then a b) xs zs (ws ++ ks)
  finish : {a : Form N K C} {b : C → Form N K C} {xs ys zs : List T} {ws ks : List V} → Derives g a xs ys ws → Inside g n us vs v (b (g.class ws)) ys zs ks → Inside g n us vs v (Then a b) xs zs (ws ++ ks)

-- The rule n of the grammar is one or more of another rule with signs between them. It derives the tokens of `start` up to `stop` inside this text, and up to
-- `ending` already with this tree, since what it has behind that are further ones, or none.
pub record IsNode (n part : Name) (sign : Terminal) (rule : Name) (text ending : List Lexeme) (f : Formula) : Type 0 where
  pub start : List Lexeme
  pub stop : List Lexeme
  pub value : Value
  pub whole : Value
  pub inside : Inside grammar n start stop value (Call rule) text [] (whole ∷ [])
  pub first : Lexeme
  pub derives : Derives grammar (Call n) start ending (formula first f ∷ [])
  pub others : List Value
  pub further : Derives grammar (Star (Tok sign ⨾ Call part)) ending stop others

-- In a text of this rule a formula ends before `ending`. What stands before a further `|` or `&` is one too, as where these signs are nested to the left. A
-- further member or conjunction is not listed on its own: what joins it to those before it ends at the same token and is deeper.
pub data EndsBefore (rule : Name) (text ending : List Lexeme) (f : Formula) : Type 0 where
  disjunction : IsNode Name.Formula Name.Conjunction t.Or rule text ending f → EndsBefore rule text ending f
  conjunction : IsNode Name.Conjunction Name.Member t.And rule text ending f → EndsBefore rule text ending f

-- one that is deeper than 64 does
pub record DeepBefore (rule : Name) (text ending : List Lexeme) : Type 0 where
  pub tree : Formula
  pub ends : EndsBefore rule text ending tree
  pub deep : 64 < depth tree

-- whether a token goes on with an atom whose name stands before it
abbrev pub is_call : Role → Role → Bool
is_call roles.Name roles.Open = true
is_call role next = false

-- Two tokens go on alike behind this one: both with its conjunction or neither, and both with its atom or neither.
pub record GoOnAlike (role next another : Role) : Type 0 where
  pub conjunction : is_and next ≡ is_and another
  pub atom : is_call role next ≡ is_call role another

-- a limit of formulas stands at the last token before `ending`
pub record StandsBefore (s : Levels) (text ending : List Lexeme) : Type 0 where
  pub before : List Lexeme
  pub here : Lexeme
  pub are : text ≡ before ++ (here ∷ ending)
  pub stands : limit_at (scan s before) (role_of here.terminal) (next_role ending) ≡ Some limits.Formula

-- there is a limit, and it stands at the token of this number or at an earlier one
abbrev pub IsUpTo : Option LimitAt → ℕ → Type 0
IsUpTo None n = ⊥
IsUpTo (Some l) n = l.index ≤ n
