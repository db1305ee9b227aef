-- Strings read back.
use Rattle.std.proofs.Common.{◌≡◌, ℕ, Bool, true, false, cond, eqb, List, [], ◌∷◌, ◌++◌, refl, sym, ap, ◌∙◌, append_assoc}
use Rattle.std.specs.Prelude.{codes}
use Rattle.std.specs.List.{flat_map}
use Rattle.std.proofs.lemmas.Bool.{and_from, eqb-true}
use Rattle.ap_syntax.specs.CanonicalTerms.{escaped, quoted}
use Rattle.ap_lex.specs.Forms.{is_escape, is_quoted}
use Rattle.ap_lex.specs.declared.token.Kind.TheVariants.{Str}
use Rattle.ap_grammar.specs.Lexemes.{string_of, unescaped}
use Rattle.canonical_law.proofs.Lexing.{Apart, IsOneToken, alone, string_apart}

-- what stands behind a quote, and its characters
record Reads (bs cs : List ℕ) : Type 0 where
  quoted_is : is_quoted bs ≡ true
  value : unescaped bs ≡ cs

escape_reads : (c e : ℕ) (bs cs : List ℕ) → is_escape e ≡ true → Rattle.ap_grammar.specs.Lexemes.escaped e ≡ c → Reads bs cs → Reads (92 ∷ e ∷ bs) (c ∷ cs)
escape_reads c e bs cs h v r = record { quoted_is = and_from _ _ h r.quoted_is; value = ap (λ d. d ∷ unescaped bs) v ∙ ap (λ ds. c ∷ ds) r.value }

plain_reads : (c : ℕ) (bs cs : List ℕ) → eqb c 34 ≡ false → eqb c 92 ≡ false → eqb c 10 ≡ false → Reads bs cs → Reads (c ∷ bs) (c ∷ cs)
plain_reads c [] cs q b l r = let h = r.quoted_is in absurd cc
plain_reads c (d ∷ ds) cs q b l r = record { quoted_is = rw (b, q, l) r.quoted_is; value = rw (q, b) (ap (λ es. c ∷ es) r.value) }

one_reads : (c : ℕ) (bs cs : List ℕ) → Reads bs cs → Reads (escaped c ++ bs) (c ∷ cs)
one_reads c bs cs r = by_feed (eqb c 10) refl
  where
    by_quote : (b : Bool) → eqb c 34 ≡ b → eqb c 92 ≡ false → eqb c 10 ≡ false → Reads (cond b (codes "\\\"") (c ∷ []) ++ bs) (c ∷ cs)
    by_quote true e b l = escape_reads c 34 bs cs refl (sym (eqb-true c 34 e)) r
    by_quote false e b l = plain_reads c bs cs e b l r

    by_backslash : (b : Bool) → eqb c 92 ≡ b → eqb c 10 ≡ false → Reads (cond b (codes "\\\\") (cond (eqb c 34) (codes "\\\"") (c ∷ [])) ++ bs) (c ∷ cs)
    by_backslash true e l = escape_reads c 92 bs cs refl (sym (eqb-true c 92 e)) r
    by_backslash false e l = by_quote (eqb c 34) refl e l

    by_feed : (b : Bool) → eqb c 10 ≡ b → Reads (cond b (codes "\\n") (cond (eqb c 92) (codes "\\\\") (cond (eqb c 34) (codes "\\\"") (c ∷ []))) ++ bs) (c ∷ cs)
    by_feed true e = escape_reads c 110 bs cs refl (sym (eqb-true c 10 e)) r
    by_feed false e = by_backslash (eqb c 92) refl e

all_read : (cs : List ℕ) → Reads (flat_map escaped cs ++ 34 ∷ []) cs
all_read [] = record { quoted_is = refl; value = refl }
all_read (c ∷ cs) =
    let r = one_reads c (flat_map escaped cs ++ 34 ∷ []) cs (all_read cs) in
    rw (sym (append_assoc (escaped c) (flat_map escaped cs) (34 ∷ []))) at r

-- a string as it is written
pub record GoodString (cs : List ℕ) : Type 0 where
  pub one : IsOneToken (quoted cs) Str
  pub apart : (rest : List ℕ) → Apart (quoted cs) rest
  pub value : string_of (quoted cs) ≡ cs

pub good_string : (cs : List ℕ) → GoodString cs
good_string cs =
    let r = all_read cs in
    record { one = alone Str (quoted cs) r.quoted_is; apart = λ rest. string_apart _ rest r.quoted_is; value = r.value }
