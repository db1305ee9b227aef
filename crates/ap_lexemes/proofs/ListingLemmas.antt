-- From tokens of a text to tokens of the grammar.
use Rattle.std.proofs.Common.{◌≡◌, ℕ, ◌+◌, ◌*◌, ◌-◌, ◌<◌, ◌≤◌, Bool, true, false, cond, List, [], ◌∷◌, length, drop, get_or, IsTrue, refl, sym, ap, ◌∙◌, arith}
use Rattle.std.proofs.lemmas.List.{at_drop_more}
use Rattle.std.specs.List.{fold}
use Rattle.ap_grammar.specs.Lexemes.{decimal}
use Rattle.std.specs.List.{list_all}
use Rattle.std.specs.Prelude.{slice_index, ◌==◌}
use Rattle.std.specs.Str.{bytes_eq}
use Rattle.std.proofs.lemmas.Bool.{and_parts, eqb-true}
use Rattle.std.proofs.Common.{true≢false}
use Rattle.ap_grammar.specs.declared.terminals.Terminal.{Terminal}
use Rattle.ap_grammar.specs.declared.terminals.Terminal.TheVariants as t
use Rattle.ap_lex.specs.Forms.{is_quoted, is_string, is_token, number_of}
use Rattle.ap_lex.specs.declared.token.Kind.{Kind}
use Rattle.ap_lex.specs.declared.token.Kind.TheVariants.{Num, Ident, Not, Var, Any, Str, Directive, Sign}
use Rattle.ap_lexemes.specs.Terminals.{directives, signs, spelled, terminal_of, words}

-- the number that digits write behind others
abbrev pub written : ℕ → List ℕ → ℕ
written n digits = fold (λ n digit. n * 10 + (digit - 48)) n digits

grows : (n : ℕ) (digits : List ℕ) → n ≤ written n digits
grows n [] = omega arith
grows n (d ∷ ds) = omega (arith, grows (n * 10 + (d - 48)) ds)

pub written-more : (n : ℕ) (digits : List ℕ) (i : ℕ) (d : ℕ) → i < length digits → written n (drop i digits) ≡ written (n * 10 + (get_or digits i d - 48)) (drop (i + 1) digits)
written-more n digits i d lt = at_drop_more (λ ds. written n ds) digits i d lt

-- a number so far is no greater than the whole one
pub written-bound : (n : ℕ) (digits : List ℕ) (i : ℕ) (d : ℕ) → i < length digits → n * 10 + (get_or digits i d - 48) ≤ written n (drop i digits)
written-bound n digits i d lt = omega (arith, grows (n * 10 + (get_or digits i d - 48)) (drop (i + 1) digits), written-more n digits i d lt)

same_from : (n : ℕ) (digits : List ℕ) → written n digits ≡ fold (λ n b. 10 * n + (b - 48)) n digits
same_from n [] = refl
same_from n (d ∷ ds) = let e : n * 10 + (d - 48) ≡ 10 * n + (d - 48) = omega arith in ap (λ m. written m ds) e ∙ same_from (10 * n + (d - 48)) ds

-- the number that digits write is the one that they stand for
pub decimal-is : (digits : List ℕ) → decimal digits ≡ number_of digits
decimal-is digits = same_from 0 digits

-- ---- strings

abbrev is_no_string : Terminal → Bool
is_no_string t.String = false
is_no_string k = true

spelled-no_string : (rows : List (List ℕ × Terminal)) (bytes : List ℕ) (other : Terminal) → list_all (λ row. is_no_string row.1) rows ≡ true → is_no_string other ≡ true → is_no_string (spelled rows bytes other) ≡ true
spelled-no_string [] bytes other h o = o
spelled-no_string (row ∷ rows) bytes other h o =
    let parts = and_parts (is_no_string row.1) (list_all (λ row. is_no_string row.1) rows) h in
    elim (bytes_eq row.0 bytes) as (λ b. is_no_string (cond b row.1 (spelled rows bytes other)) ≡ true) [ true ↦ parts.0 | false ↦ spelled-no_string rows bytes other parts.1 o ]

no_string : (k : Terminal) → is_no_string k ≡ true → k ≡ t.String → ⊥
no_string k h e = true≢false (sym h ∙ ap (λ k. is_no_string k) e)

-- a string begins with a quote
string-first : (bytes : List ℕ) → is_string bytes ≡ true → slice_index bytes 0 ≡ 34
string-first [] h = absurd (true≢false (sym h))
string-first (b ∷ bs) h = eqb-true b 34 (and_parts (b == 34) (is_quoted bs) h).0

-- and only a string has its terminal
pub quote-first : (kind : Kind) (bytes rest : List ℕ) → IsTrue (is_token kind bytes rest) → terminal_of kind bytes ≡ t.String → slice_index bytes 0 ≡ 34
quote-first Num bytes rest h e = cc
quote-first Ident bytes rest h e = absurd (no_string (spelled words bytes t.Word) (spelled-no_string words bytes t.Word refl refl) e)
quote-first Not bytes rest h e = cc
quote-first Var bytes rest h e = cc
quote-first Any bytes rest h e = cc
quote-first Str bytes rest h e = string-first bytes h
quote-first Directive bytes rest h e = absurd (no_string (spelled directives bytes t.Stray) (spelled-no_string directives bytes t.Stray refl refl) e)
quote-first Sign bytes rest h e = absurd (no_string (spelled signs bytes t.Stray) (spelled-no_string signs bytes t.Stray refl refl) e)
