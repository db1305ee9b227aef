-- The signs and words of fixed spelling.
use Rattle.std.proofs.Common.{◌≡◌, ℕ, List, [], ◌∷◌, refl, ap, ◌∙◌}
use Rattle.std.specs.Prelude.{codes}
use Rattle.ap_lex.specs.Pieces.{sign_at, token_at, word_at, directive_behind, word_kind}
use Rattle.ap_lex.specs.declared.token.Kind.{Kind}
use Rattle.ap_lex.specs.declared.token.Kind.TheVariants.{Ident, Not, Directive, Sign}
use Rattle.ap_grammar.specs.Lexemes.{Lexeme}
use Rattle.ap_grammar.specs.declared.terminals.Terminal.{Terminal}
use Rattle.ap_grammar.specs.declared.terminals.Terminal.TheVariants as t
use Rattle.ap_lexemes.specs.Terminals.{terminal_of}
use Rattle.canonical_law.proofs.Lexing.{Apart, IsOneToken}
use Rattle.canonical_law.proofs.Spells.{Is}

-- the terminal of a token with these characters
pub fixed : {w : List ℕ} {x : Lexeme} (kind : Kind) (k : Terminal) → IsOneToken w kind → terminal_of kind w ≡ k → Is x w → x.terminal ≡ k
fixed {w = w} kind k o e i =
    let a = i.one in
    let same : i.kind ≡ kind = cc in
    i.terminal ∙ (ap (λ j. terminal_of j w) same ∙ e)

-- ---- signs that no other sign begins with

pub open_one : IsOneToken (codes "(") Sign
unfolding token_at sign_at
open_one = refl

pub open_apart : (rest : List ℕ) → Apart (codes "(") rest
unfolding token_at sign_at
open_apart [] = refl
open_apart (b ∷ bs) = refl

pub open_is : {x : Lexeme} → Is x (codes "(") → x.terminal ≡ t.Open
open_is i = fixed Sign t.Open open_one refl i

pub close_one : IsOneToken (codes ")") Sign
unfolding token_at sign_at
close_one = refl

pub close_apart : (rest : List ℕ) → Apart (codes ")") rest
unfolding token_at sign_at
close_apart [] = refl
close_apart (b ∷ bs) = refl

pub close_is : {x : Lexeme} → Is x (codes ")") → x.terminal ≡ t.Close
close_is i = fixed Sign t.Close close_one refl i

pub open_brace_one : IsOneToken (codes "{") Sign
unfolding token_at sign_at
open_brace_one = refl

pub open_brace_apart : (rest : List ℕ) → Apart (codes "{") rest
unfolding token_at sign_at
open_brace_apart [] = refl
open_brace_apart (b ∷ bs) = refl

pub open_brace_is : {x : Lexeme} → Is x (codes "{") → x.terminal ≡ t.OpenBrace
open_brace_is i = fixed Sign t.OpenBrace open_brace_one refl i

pub close_brace_one : IsOneToken (codes "}") Sign
unfolding token_at sign_at
close_brace_one = refl

pub close_brace_apart : (rest : List ℕ) → Apart (codes "}") rest
unfolding token_at sign_at
close_brace_apart [] = refl
close_brace_apart (b ∷ bs) = refl

pub close_brace_is : {x : Lexeme} → Is x (codes "}") → x.terminal ≡ t.CloseBrace
close_brace_is i = fixed Sign t.CloseBrace close_brace_one refl i

pub comma_one : IsOneToken (codes ",") Sign
unfolding token_at sign_at
comma_one = refl

pub comma_apart : (rest : List ℕ) → Apart (codes ",") rest
unfolding token_at sign_at
comma_apart [] = refl
comma_apart (b ∷ bs) = refl

pub comma_is : {x : Lexeme} → Is x (codes ",") → x.terminal ≡ t.Comma
comma_is i = fixed Sign t.Comma comma_one refl i

pub semicolon_one : IsOneToken (codes ";") Sign
unfolding token_at sign_at
semicolon_one = refl

pub semicolon_apart : (rest : List ℕ) → Apart (codes ";") rest
unfolding token_at sign_at
semicolon_apart [] = refl
semicolon_apart (b ∷ bs) = refl

pub semicolon_is : {x : Lexeme} → Is x (codes ";") → x.terminal ≡ t.Semicolon
semicolon_is i = fixed Sign t.Semicolon semicolon_one refl i

pub plus_one : IsOneToken (codes "+") Sign
unfolding token_at sign_at
plus_one = refl

pub plus_apart : (rest : List ℕ) → Apart (codes "+") rest
unfolding token_at sign_at
plus_apart [] = refl
plus_apart (b ∷ bs) = refl

pub plus_is : {x : Lexeme} → Is x (codes "+") → x.terminal ≡ t.Plus
plus_is i = fixed Sign t.Plus plus_one refl i

pub minus_one : IsOneToken (codes "-") Sign
unfolding token_at sign_at
minus_one = refl

pub minus_apart : (rest : List ℕ) → Apart (codes "-") rest
unfolding token_at sign_at
minus_apart [] = refl
minus_apart (b ∷ bs) = refl

pub minus_is : {x : Lexeme} → Is x (codes "-") → x.terminal ≡ t.Minus
minus_is i = fixed Sign t.Minus minus_one refl i

pub slash_one : IsOneToken (codes "/") Sign
unfolding token_at sign_at
slash_one = refl

pub slash_apart : (rest : List ℕ) → Apart (codes "/") rest
unfolding token_at sign_at
slash_apart [] = refl
slash_apart (b ∷ bs) = refl

pub slash_is : {x : Lexeme} → Is x (codes "/") → x.terminal ≡ t.Slash
slash_is i = fixed Sign t.Slash slash_one refl i

pub backslash_one : IsOneToken (codes "\\") Sign
unfolding token_at sign_at
backslash_one = refl

pub backslash_apart : (rest : List ℕ) → Apart (codes "\\") rest
unfolding token_at sign_at
backslash_apart [] = refl
backslash_apart (b ∷ bs) = refl

pub backslash_is : {x : Lexeme} → Is x (codes "\\") → x.terminal ≡ t.Backslash
backslash_is i = fixed Sign t.Backslash backslash_one refl i

pub and_one : IsOneToken (codes "&") Sign
unfolding token_at sign_at
and_one = refl

pub and_apart : (rest : List ℕ) → Apart (codes "&") rest
unfolding token_at sign_at
and_apart [] = refl
and_apart (b ∷ bs) = refl

pub and_is : {x : Lexeme} → Is x (codes "&") → x.terminal ≡ t.And
and_is i = fixed Sign t.And and_one refl i

-- ---- signs of two characters

pub if_one : IsOneToken (codes ":-") Sign
unfolding token_at sign_at
if_one = refl

pub if_apart : (rest : List ℕ) → Apart (codes ":-") rest
unfolding token_at sign_at
if_apart rest = refl

pub if_is : {x : Lexeme} → Is x (codes ":-") → x.terminal ≡ t.If
if_is i = fixed Sign t.If if_one refl i

pub weighs_one : IsOneToken (codes "::") Sign
unfolding token_at sign_at
weighs_one = refl

pub weighs_apart : (rest : List ℕ) → Apart (codes "::") rest
unfolding token_at sign_at
weighs_apart rest = refl

pub weighs_is : {x : Lexeme} → Is x (codes "::") → x.terminal ≡ t.Weighs
weighs_is i = fixed Sign t.Weighs weighs_one refl i

pub unequal_one : IsOneToken (codes "!=") Sign
unfolding token_at sign_at
unequal_one = refl

pub unequal_apart : (rest : List ℕ) → Apart (codes "!=") rest
unfolding token_at sign_at
unequal_apart rest = refl

pub unequal_is : {x : Lexeme} → Is x (codes "!=") → x.terminal ≡ t.Unequal
unequal_is i = fixed Sign t.Unequal unequal_one refl i

pub at_most_one : IsOneToken (codes "<=") Sign
unfolding token_at sign_at
at_most_one = refl

pub at_most_apart : (rest : List ℕ) → Apart (codes "<=") rest
unfolding token_at sign_at
at_most_apart rest = refl

pub at_most_is : {x : Lexeme} → Is x (codes "<=") → x.terminal ≡ t.AtMost
at_most_is i = fixed Sign t.AtMost at_most_one refl i

pub at_least_one : IsOneToken (codes ">=") Sign
unfolding token_at sign_at
at_least_one = refl

pub at_least_apart : (rest : List ℕ) → Apart (codes ">=") rest
unfolding token_at sign_at
at_least_apart rest = refl

pub at_least_is : {x : Lexeme} → Is x (codes ">=") → x.terminal ≡ t.AtLeast
at_least_is i = fixed Sign t.AtLeast at_least_one refl i

pub stars_one : IsOneToken (codes "**") Sign
unfolding token_at sign_at
stars_one = refl

pub stars_apart : (rest : List ℕ) → Apart (codes "**") rest
unfolding token_at sign_at
stars_apart rest = refl

pub stars_is : {x : Lexeme} → Is x (codes "**") → x.terminal ≡ t.Stars
stars_is i = fixed Sign t.Stars stars_one refl i

pub dots_one : IsOneToken (codes "..") Sign
unfolding token_at sign_at
dots_one = refl

pub dots_apart : (rest : List ℕ) → Apart (codes "..") rest
unfolding token_at sign_at
dots_apart rest = refl

pub dots_is : {x : Lexeme} → Is x (codes "..") → x.terminal ≡ t.Dots
dots_is i = fixed Sign t.Dots dots_one refl i

pub better_one : IsOneToken (codes ">>") Sign
unfolding token_at sign_at
better_one = refl

pub better_apart : (rest : List ℕ) → Apart (codes ">>") rest
unfolding token_at sign_at
better_apart rest = refl

pub better_is : {x : Lexeme} → Is x (codes ">>") → x.terminal ≡ t.Better
better_is i = fixed Sign t.Better better_one refl i

pub bars_one : IsOneToken (codes "||") Sign
unfolding token_at sign_at
bars_one = refl

pub bars_apart : (rest : List ℕ) → Apart (codes "||") rest
unfolding token_at sign_at
bars_apart rest = refl

pub bars_is : {x : Lexeme} → Is x (codes "||") → x.terminal ≡ t.Bars
bars_is i = fixed Sign t.Bars bars_one refl i

-- ---- signs that stand before a blank, and the last one of a line

pub colon_one : IsOneToken (codes ":") Sign
unfolding token_at sign_at
colon_one = refl

pub colon_apart : (rest : List ℕ) → Apart (codes ":") (32 ∷ rest)
unfolding token_at sign_at
colon_apart rest = refl

pub colon_is : {x : Lexeme} → Is x (codes ":") → x.terminal ≡ t.Colon
colon_is i = fixed Sign t.Colon colon_one refl i

pub equal_one : IsOneToken (codes "=") Sign
unfolding token_at sign_at
equal_one = refl

pub equal_apart : (rest : List ℕ) → Apart (codes "=") (32 ∷ rest)
unfolding token_at sign_at
equal_apart rest = refl

pub equal_is : {x : Lexeme} → Is x (codes "=") → x.terminal ≡ t.Equal
equal_is i = fixed Sign t.Equal equal_one refl i

pub less_one : IsOneToken (codes "<") Sign
unfolding token_at sign_at
less_one = refl

pub less_apart : (rest : List ℕ) → Apart (codes "<") (32 ∷ rest)
unfolding token_at sign_at
less_apart rest = refl

pub less_is : {x : Lexeme} → Is x (codes "<") → x.terminal ≡ t.Less
less_is i = fixed Sign t.Less less_one refl i

pub greater_one : IsOneToken (codes ">") Sign
unfolding token_at sign_at
greater_one = refl

pub greater_apart : (rest : List ℕ) → Apart (codes ">") (32 ∷ rest)
unfolding token_at sign_at
greater_apart rest = refl

pub greater_is : {x : Lexeme} → Is x (codes ">") → x.terminal ≡ t.Greater
greater_is i = fixed Sign t.Greater greater_one refl i

pub times_one : IsOneToken (codes "*") Sign
unfolding token_at sign_at
times_one = refl

pub times_apart : (rest : List ℕ) → Apart (codes "*") (32 ∷ rest)
unfolding token_at sign_at
times_apart rest = refl

pub times_is : {x : Lexeme} → Is x (codes "*") → x.terminal ≡ t.Times
times_is i = fixed Sign t.Times times_one refl i

pub or_one : IsOneToken (codes "|") Sign
unfolding token_at sign_at
or_one = refl

pub or_apart : (rest : List ℕ) → Apart (codes "|") (32 ∷ rest)
unfolding token_at sign_at
or_apart rest = refl

pub or_is : {x : Lexeme} → Is x (codes "|") → x.terminal ≡ t.Or
or_is i = fixed Sign t.Or or_one refl i

pub dot_one : IsOneToken (codes ".") Sign
unfolding token_at sign_at
dot_one = refl

pub dot_apart : (rest : List ℕ) → Apart (codes ".") (10 ∷ rest)
unfolding token_at sign_at
dot_apart rest = refl

pub dot_is : {x : Lexeme} → Is x (codes ".") → x.terminal ≡ t.Dot
dot_is i = fixed Sign t.Dot dot_one refl i

-- ---- directives and words, each before what stands behind it

pub count_one : IsOneToken (codes "#count") Directive
unfolding token_at directive_behind
count_one = refl

pub count_apart : (rest : List ℕ) → Apart (codes "#count") (123 ∷ rest)
unfolding token_at directive_behind
count_apart rest = refl

pub count_is : {x : Lexeme} → Is x (codes "#count") → x.terminal ≡ t.Count
count_is i = fixed Directive t.Count count_one refl i

pub sum_one : IsOneToken (codes "#sum") Directive
unfolding token_at directive_behind
sum_one = refl

pub sum_apart : (rest : List ℕ) → Apart (codes "#sum") (123 ∷ rest)
unfolding token_at directive_behind
sum_apart rest = refl

pub sum_is : {x : Lexeme} → Is x (codes "#sum") → x.terminal ≡ t.Sum
sum_is i = fixed Directive t.Sum sum_one refl i

pub preference_statement_one : IsOneToken (codes "#preference") Directive
unfolding token_at directive_behind
preference_statement_one = refl

pub preference_statement_apart : (rest : List ℕ) → Apart (codes "#preference") (40 ∷ rest)
unfolding token_at directive_behind
preference_statement_apart rest = refl

pub preference_statement_is : {x : Lexeme} → Is x (codes "#preference") → x.terminal ≡ t.Statement
preference_statement_is i = fixed Directive t.Statement preference_statement_one refl i

pub optimize_one : IsOneToken (codes "#optimize") Directive
unfolding token_at directive_behind
optimize_one = refl

pub optimize_apart : (rest : List ℕ) → Apart (codes "#optimize") (40 ∷ rest)
unfolding token_at directive_behind
optimize_apart rest = refl

pub optimize_is : {x : Lexeme} → Is x (codes "#optimize") → x.terminal ≡ t.Optimize
optimize_is i = fixed Directive t.Optimize optimize_one refl i

pub show_one : IsOneToken (codes "#show") Directive
unfolding token_at directive_behind
show_one = refl

pub show_apart : (rest : List ℕ) → Apart (codes "#show") (32 ∷ rest)
unfolding token_at directive_behind
show_apart rest = refl

pub show_apart_dot : (rest : List ℕ) → Apart (codes "#show") (46 ∷ rest)
unfolding token_at directive_behind
show_apart_dot rest = refl

pub show_is : {x : Lexeme} → Is x (codes "#show") → x.terminal ≡ t.Show
show_is i = fixed Directive t.Show show_one refl i

pub const_one : IsOneToken (codes "#const") Directive
unfolding token_at directive_behind
const_one = refl

pub const_apart : (rest : List ℕ) → Apart (codes "#const") (32 ∷ rest)
unfolding token_at directive_behind
const_apart rest = refl

pub const_is : {x : Lexeme} → Is x (codes "#const") → x.terminal ≡ t.Const
const_is i = fixed Directive t.Const const_one refl i

pub defined_one : IsOneToken (codes "#defined") Directive
unfolding token_at directive_behind
defined_one = refl

pub defined_apart : (rest : List ℕ) → Apart (codes "#defined") (32 ∷ rest)
unfolding token_at directive_behind
defined_apart rest = refl

pub defined_is : {x : Lexeme} → Is x (codes "#defined") → x.terminal ≡ t.Defined
defined_is i = fixed Directive t.Defined defined_one refl i

pub program_one : IsOneToken (codes "#program") Directive
unfolding token_at directive_behind
program_one = refl

pub program_apart : (rest : List ℕ) → Apart (codes "#program") (32 ∷ rest)
unfolding token_at directive_behind
program_apart rest = refl

pub program_is : {x : Lexeme} → Is x (codes "#program") → x.terminal ≡ t.Program
program_is i = fixed Directive t.Program program_one refl i

pub not_one : IsOneToken (codes "not") Not
unfolding token_at word_at word_kind
not_one = refl

pub not_apart : (rest : List ℕ) → Apart (codes "not") (32 ∷ rest)
unfolding token_at word_at word_kind
not_apart rest = refl

pub not_is : {x : Lexeme} → Is x (codes "not") → x.terminal ≡ t.Not
not_is i = fixed Not t.Not not_one refl i

pub base_one : IsOneToken (codes "base") Ident
unfolding token_at word_at word_kind
base_one = refl

pub base_apart : (rest : List ℕ) → Apart (codes "base") (46 ∷ rest)
unfolding token_at word_at word_kind
base_apart rest = refl

pub base_is : {x : Lexeme} → Is x (codes "base") → x.terminal ≡ t.Base
base_is i = fixed Ident t.Base base_one refl i

pub preference_one : IsOneToken (codes "preference") Ident
unfolding token_at word_at word_kind
preference_one = refl

pub preference_apart : (rest : List ℕ) → Apart (codes "preference") (40 ∷ rest)
unfolding token_at word_at word_kind
preference_apart rest = refl

pub preference_is : {x : Lexeme} → Is x (codes "preference") → x.terminal ≡ t.Preference
preference_is i = fixed Ident t.Preference preference_one refl i
