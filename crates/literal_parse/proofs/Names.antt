-- Names.
use Rattle.std.proofs.Common.{◌≡◌, ℕ, List, [], ◌∷◌, Some, None, Option, Ok, Err, refl, ◌∙◌}
use Rattle.std.specs.Borrow.{Bor}
use Rattle.grammar.specs.Form.{◌∣◌}
use Rattle.grammar.specs.Form.Form.{Tok}
use Rattle.grammar.specs.Takes.{Takes, Fails}
use Rattle.ap_grammar.specs.declared.terminals.Terminal.{Terminal}
use Rattle.ap_grammar.specs.declared.terminals.Terminal.TheVariants as t
use Rattle.ap_grammar.specs.Lexemes.{Lexeme}
use Rattle.ap_grammar.specs.Values.Value.{token}
use Rattle.ap_grammar.specs.Grammar.{Name}
use Rattle.ap_grammar.specs.Factored.{call, factored}
use Rattle.ap_grammar.specs.Tables.{tables}
use Rattle.literal_parse.specs.declared.error.Stop.TheVariants.{Syntax}
use Rattle.literal_parse.specs.Reads.{Reads, IsNext, IsNamed, IsNameKind, IsName, Lacks, Names, Spells}
use Rattle.literal_parse.proofs.Steps.{fails_tok}

-- ---- the three kinds of names

named_of : {xs ys : List Lexeme} {s : List ℕ} {k : Terminal} → IsNameKind k → (n : IsNext k xs ys) → s ≡ n.token.bytes → IsNamed xs ys s
named_of i n e = record { token = n.token; is = n.is; kind = rw n.kind i; bytes = e }

pub named_word : {xs ys : List Lexeme} (s : Bor (List ℕ)) → Spells t.Word xs ys (Some s) → IsNamed xs ys s.now
named_word s r = named_of IsNameKind.word r.0 r.1

pub named_base : {xs ms ys : List Lexeme} (s : Bor (List ℕ)) → (ms ≡ xs) × Lacks t.Word xs → Spells t.Base ms ys (Some s) → IsNamed xs ys s.now
named_base s h r = rw h.0 at (named_of IsNameKind.base r.0 r.1)

pub named_last : {xs ms ns : List Lexeme} (ys : List Lexeme) (o : Option (Bor (List ℕ))) → (ms ≡ xs) × Lacks t.Word xs → (ns ≡ ms) × Lacks t.Base ms → Spells t.Preference ns ys o → Names xs ys o
named_last ys (Some s) h i r = rw (i.0 ∙ h.0) at (named_of IsNameKind.preference r.0 r.1)
named_last ys None h i r = (r.0 ∙ i.0 ∙ h.0, h.1, rw h.0 at i.1, rw (i.0 ∙ h.0) at r.1)

-- ---- the rule of names

name_takes : {xs ys : List Lexeme} (n : Lexeme) → IsNameKind n.terminal → xs ≡ n ∷ ys → Takes factored tables (call Name.Ident) xs ys (token n ∷ [])
name_takes n k e = rw e (Takes.call (by_kind n _ refl k))
  where
    by_kind : {ys : List Lexeme} (n : Lexeme) (j : Terminal) → n.terminal ≡ j → IsNameKind j → Takes factored tables (Tok t.Word ∣ Tok t.Base ∣ Tok t.Preference) (n ∷ ys) ys (token n ∷ [])
    by_kind n j e IsNameKind.word = Takes.left (rw e refl) (Takes.tok e)
    by_kind n j e IsNameKind.base = Takes.right (rw e refl) (Takes.left (rw e refl) (Takes.tok e))
    by_kind n j e IsNameKind.preference = Takes.right (rw e refl) (Takes.right (rw e refl) (Takes.tok e))

pub name_read : {xs ys : List Lexeme} {spelled name : List ℕ} → IsNamed xs ys spelled → name ≡ spelled → Reads (call Name.Ident) (IsName xs) xs ys (Ok name)
name_read {ys = ys} n e = Reads.ok (record { token = n.token; leads = record { rest = ys; is = n.is }; kind = n.kind; bytes = e ∙ n.bytes; is = refl }) (name_takes n.token n.kind n.is)

pub name_lacking : {xs ys : List Lexeme} → (ys ≡ xs) × Lacks t.Word xs × Lacks t.Base xs × Lacks t.Preference xs → Reads (call Name.Ident) (IsName xs) xs ys (Err Syntax)
name_lacking {xs = xs} h = rw h.0 (Reads.syntax (Fails.call (Fails.right h.1 (Fails.right h.2 (fails_tok t.Preference xs h.3)))))
