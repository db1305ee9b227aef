-- Names read back.
use Rattle.std.proofs.Common.{◌≡◌, ℕ, Bool, true, false, cond, List, [], ◌∷◌, refl, ap, ◌∙◌, ◌⊎◌, inl, inr}
use Rattle.std.specs.Prelude.{codes}
use Rattle.std.specs.Str.{bytes_eq}
use Rattle.std.specs.List.{list_all}
use Rattle.ap_lex.specs.Bytes.{is_word_byte}
use Rattle.grammar.specs.Form.{Derives}
use Rattle.ap_syntax.specs.Pieces.Piece.{Spelled}
use Rattle.ap_lex.specs.declared.token.Kind.TheVariants.{Ident}
use Rattle.ap_grammar.specs.Lexemes.{Lexeme}
use Rattle.ap_grammar.specs.Values.Value.{token}
use Rattle.ap_grammar.specs.Grammar.{Name}
use Rattle.ap_grammar.specs.declared.terminals.Terminal.{Terminal}
use Rattle.ap_grammar.specs.declared.terminals.Terminal.TheVariants as t
use Rattle.ap_lexemes.specs.Terminals.{terminal_of}
use Rattle.ap_grammar.proofs.Sorts.{Ends as EndsIn}
use Rattle.canonical_law.proofs.Lexing.{Apart, Ends, IsOneToken}
use Rattle.canonical_law.proofs.Spells.{Is, Clear}

-- a name in a text
pub record GoodName (w : List ℕ) : Type 0 where
  pub one : IsOneToken w Ident
  pub passes : list_all is_word_byte w ≡ true
  pub apart : (rest : List ℕ) → Ends rest → Apart w rest

abbrev pub IsNameKind : Terminal → Type 0
IsNameKind k = (k ≡ t.Word) ⊎ ((k ≡ t.Base) ⊎ (k ≡ t.Preference))

chosen_kind : (b c : Bool) → IsNameKind (cond b t.Base (cond c t.Preference t.Word))
chosen_kind true c = inr (inl refl)
chosen_kind false true = inr (inr refl)
chosen_kind false false = inl refl

pub name_kind : {w : List ℕ} {x : Lexeme} → GoodName w → Is x w → IsNameKind x.terminal
name_kind {w = w} {x = x} g i =
    let a = i.one in
    let b = g.one in
    let same : i.kind ≡ Ident = cc in
    let e : x.terminal ≡ terminal_of Ident w = i.terminal ∙ ap (λ j. terminal_of j w) same in
    rw e (chosen_kind (bytes_eq (codes "base") w) (bytes_eq (codes "preference") w))

pub ident_derives : {x : Lexeme} {xs : List Lexeme} → IsNameKind x.terminal → EndsIn Name.Ident (x ∷ xs) xs (token x)
ident_derives (inl e) = Derives.call (Derives.left (Derives.tok e))
ident_derives (inr (inl e)) = Derives.call (Derives.right (Derives.left (Derives.tok e)))
ident_derives (inr (inr e)) = Derives.call (Derives.right (Derives.right (Derives.tok e)))

pub name_clear : {w : List ℕ} (rest : List ℕ) → GoodName w → Ends rest → Clear (Spelled w ∷ []) rest
name_clear rest g e = Clear.word g.one (g.apart rest e) Clear.nothing
