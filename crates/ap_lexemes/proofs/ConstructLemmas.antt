-- Constructs: a look-up in a table of spellings, row by row, and what stands behind some tokens.
use Rattle.std.proofs.Common.{◌≡◌, ℕ, ◌+◌, ◌<◌, ◌≤◌, List, length, drop, get_or, true, false, refl, ◌∙◌, arith}
use Rattle.std.proofs.lemmas.List.{at_drop_more, at_drop_all}
use Rattle.std.specs.List.{fold}
use Rattle.std.specs.Str.{bytes_eq}
use Rattle.std.specs.Borrow.{Bor}
use Rattle.std.specs.Prelude.{Some, None}
use Rattle.ap_grammar.specs.declared.terminals.Terminal.{Terminal}
use Rattle.ap_grammar.specs.declared.terminals.Terminal.TheVariants as t
use Rattle.ap_lexemes.specs.declared.construct.Construct.{Construct}
use Rattle.ap_lexemes.specs.declared.context.Context.{Context}
use Rattle.ap_lex.specs.declared.token.Token.{Token}
use Rattle.ap_lexemes.specs.Constructs.{behind, spelled_in}
use Rattle.ap_lexemes.specs.Lexemes.{lexeme_at, lexemes_of}

module _ (rows : List (Bor (List ℕ) × Construct)) (bytes : List ℕ) (i : ℕ) where
  pub spelled-here : (d : Bor (List ℕ) × Construct) → i < length rows → bytes_eq (get_or rows i d).0.now bytes ≡ true → spelled_in (drop i rows) bytes ≡ Some (get_or rows i d).1
  spelled-here d lt e = at_drop_more (λ rs. spelled_in rs bytes) rows i d lt ∙ rw e refl

  pub spelled-later : (d : Bor (List ℕ) × Construct) → i < length rows → bytes_eq (get_or rows i d).0.now bytes ≡ false → spelled_in (drop i rows) bytes ≡ spelled_in (drop (i + 1) rows) bytes
  spelled-later d lt e = at_drop_more (λ rs. spelled_in rs bytes) rows i d lt ∙ rw e refl

  pub spelled-nowhere : length rows ≤ i → spelled_in (drop i rows) bytes ≡ None
  spelled-nowhere le = at_drop_all (λ rs. spelled_in rs bytes) rows i le

-- a token opens one parenthesis at most
pub one_more : (s : Context) (k : Terminal) → (behind s k).parentheses ≤ s.parentheses + 1
one_more s t.Open = omega arith
one_more s t.Close = omega arith
one_more s t.Program = omega arith
one_more s t.Preference = omega arith
one_more s t.Dot = omega arith
one_more s other = omega arith

module _ (text : List ℕ) (file : ℕ) (xs : List Token) (s : Context) (i : ℕ) where
  pub context-here : (d : Token) → i < length xs → fold (λ s x. behind s x.terminal) s (lexemes_of text file (drop i xs)) ≡ fold (λ s x. behind s x.terminal) (behind s (lexeme_at text file (get_or xs i d)).terminal) (lexemes_of text file (drop (i + 1) xs))
  context-here d lt = at_drop_more (λ rs. fold (λ s x. behind s x.terminal) s (lexemes_of text file rs)) xs i d lt

  pub context-end : length xs ≤ i → fold (λ s x. behind s x.terminal) s (lexemes_of text file (drop i xs)) ≡ s
  context-end le = at_drop_all (λ rs. fold (λ s x. behind s x.terminal) s (lexemes_of text file rs)) xs i le
