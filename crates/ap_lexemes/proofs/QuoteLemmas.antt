-- A token whose terminal is a string begins with a quote.
use Rattle.std.proofs.Common.{◌≡◌, ◌≢◌, ℕ, Bool, true, false, not, ◌&&◌, List, [], ◌∷◌, IsTrue, refl, arith, if◌then◌else◌}
use Rattle.std.specs.Str.{bytes_eq}
use Rattle.std.proofs.lemmas.Bool.Decides.{nat_tests}
use Rattle.ap_grammar.specs.declared.terminals.Terminal.{Terminal}
use Rattle.ap_grammar.specs.declared.terminals.Terminal.TheVariants as t
use Rattle.ap_grammar.specs.Tables.{same}
use Rattle.ap_grammar.proofs.Predictive.{same_itself}
use Rattle.ap_lex.specs.Forms.{is_token}
use Rattle.ap_lex.specs.declared.token.Kind.{Kind}
use Rattle.ap_lex.specs.declared.token.Kind.TheVariants as kinds
use Rattle.ap_lexemes.specs.Quotes.{BeginsWithQuote}
use Rattle.ap_lexemes.specs.Terminals.{directives, signs, spelled, terminal_of, words}

-- no row of a table has this terminal
none_has : Terminal → List (List ℕ × Terminal) → Bool
none_has k [] = true
none_has k (row ∷ rows) = not (same row.1 k) && none_has k rows

-- a terminal that no row has, and that the others do not have, is not found
not_found : (k : Terminal) (rows : List (List ℕ × Terminal)) (bytes : List ℕ) (other : Terminal) → none_has k rows ≡ true → other ≢ k → spelled rows bytes other ≢ k
unfolding none_has
not_found k [] bytes other h i e = i e
not_found k (row ∷ rows) bytes other h i e = by_test (bytes_eq row.0 bytes) (same row.1 k) refl h (λ g. not_found k rows bytes other g i) e
  where
    by_test : (found is : Bool) → same row.1 k ≡ is → (not is && none_has k rows) ≡ true → (none_has k rows ≡ true → spelled rows bytes other ≢ k) → (if found then row.1 else spelled rows bytes other) ≢ k
    by_test found true e g later f = absurd (cc)
    by_test true false e g later f = absurd (let j : same k k ≡ true = same_itself k in let l : same k k ≡ false = rw f at e in cc)
    by_test false false e g later f = later g f

pub string_quoted : (kind : Kind) (bytes rest : List ℕ) → terminal_of kind bytes ≡ t.String → IsTrue (is_token kind bytes rest) → BeginsWithQuote bytes
unfolding none_has
string_quoted kinds.Num bytes rest e h = absurd (cc)
string_quoted kinds.Ident bytes rest e h = absurd (not_found t.String words bytes t.Word refl (λ f. cc) e)
string_quoted kinds.Not bytes rest e h = absurd (cc)
string_quoted kinds.Var bytes rest e h = absurd (cc)
string_quoted kinds.Any bytes rest e h = absurd (cc)
string_quoted kinds.Str [] rest e h = absurd (cc)
string_quoted kinds.Str (b ∷ bs) rest e h = grind (arith, nat_tests)
string_quoted kinds.Directive bytes rest e h = absurd (not_found t.String directives bytes t.Stray refl (λ f. cc) e)
string_quoted kinds.Sign bytes rest e h = absurd (not_found t.String signs bytes t.Stray refl (λ f. cc) e)
