-- Types read back.
use Rattle.std.proofs.Common.{◌≡◌, ℕ, ◌-◌, true, not, eqb, List, [], ◌∷◌, ◌++◌, length, refl, sym, ap, subst, ◌∙◌, arith}
use Rattle.std.specs.List.{list_all}
use Rattle.std.proofs.lemmas.Bool.{and_parts, and_from}
use Rattle.std.proofs.lemmas.Bool.Decides.{nat_tests}
use Rattle.std.proofs.lemmas.List.{append-nil, length-append, take_at, drop_at}
use Rattle.grammar.specs.Form.{Derives}
use Rattle.grammar.specs.Form.Form.{Call}
use Rattle.ap_syntax.specs.Pieces.{Piece, spelled}
use Rattle.ap_syntax.specs.Pieces.Piece.{Spelled}
use Rattle.ap_syntax.specs.CanonicalPreferences.{inner_pieces, kind_pieces}
use Rattle.ap_lex.specs.Bytes.{is_word_byte}
use Rattle.ap_lex.proofs.FrontLemmas.{drop_front, take_front}
use Rattle.ap_grammar.specs.Lexemes.{Lexeme}
use Rattle.ap_grammar.specs.Values.Value.{kind}
use Rattle.ap_grammar.specs.Grammar.{Name, grammar}
use Rattle.canonical_law.proofs.Lexing.{Ends}
use Rattle.canonical_law.proofs.Spells.{Spells, Clear}
use Rattle.canonical_law.proofs.Signs as sign
use Rattle.canonical_law.proofs.Names.{GoodName, name_kind, ident_derives, name_clear}

-- a name, or a name with another one in parentheses
pub data GoodKind : List ℕ → Type 0 where
  plain : {w : List ℕ} → GoodName w → GoodKind w
  nested : {w v : List ℕ} → GoodName w → GoodName v → GoodKind (w ++ (40 ∷ (v ++ 41 ∷ [])))

-- no name has a parenthesis
no_paren : (w : List ℕ) → list_all is_word_byte w ≡ true → list_all (λ b. not (eqb b 40)) w ≡ true
no_paren [] h = refl
no_paren (b ∷ bs) h = let p = and_parts (is_word_byte b) (list_all is_word_byte bs) h in and_from _ _ (other b p.0) (no_paren bs p.1)
  where
    other : (b : ℕ) → is_word_byte b ≡ true → not (eqb b 40) ≡ true
    other b h = grind (arith, nat_tests)

pub plain_pieces : (w : List ℕ) → list_all is_word_byte w ≡ true → kind_pieces w ≡ spelled w
plain_pieces w h =
    let p = no_paren w h in
    let a = take_front (λ b. not (eqb b 40)) w [] p refl in
    let b = drop_front (λ b. not (eqb b 40)) w [] p refl in
    (let c = rw (append-nil w) at a in let d = rw (append-nil w) at b in rw (c, d) refl)

inner_of : (v : List ℕ) → inner_pieces (40 ∷ (v ++ 41 ∷ [])) ≡ Spelled (40 ∷ []) ∷ Spelled v ∷ Spelled (41 ∷ []) ∷ []
inner_of v =
    let n : length (v ++ 41 ∷ []) - 1 ≡ length v = omega (arith, length-append v (41 ∷ [])) in
    let a = take_at v (41 ∷ []) (length (v ++ 41 ∷ []) - 1) (sym n) in
    let b = drop_at v (41 ∷ []) (length (v ++ 41 ∷ []) - 1) (sym n) in
    rw (a, b) refl

pub nested_pieces : (w v : List ℕ) → list_all is_word_byte w ≡ true → kind_pieces (w ++ (40 ∷ (v ++ 41 ∷ []))) ≡ Spelled w ∷ Spelled (40 ∷ []) ∷ Spelled v ∷ Spelled (41 ∷ []) ∷ []
nested_pieces w v h =
    let p = no_paren w h in
    let a = take_front (λ b. not (eqb b 40)) w (40 ∷ (v ++ 41 ∷ [])) p refl in
    let b = drop_front (λ b. not (eqb b 40)) w (40 ∷ (v ++ 41 ∷ [])) p refl in
    rw (a, b) (ap (λ ps. Spelled w ∷ ps) (inner_of v))

plain_derives : {w : List ℕ} {xs ys : List Lexeme} → GoodName w → Spells (spelled w) xs ys → Derives grammar (Call Name.Kind) xs ys (kind w ∷ [])
plain_derives {ys = ys} g (Spells.word {x = x} i Spells.nothing) = subst (λ b. Derives grammar (Call Name.Kind) (x ∷ ys) ys (kind b ∷ [])) i.bytes (Derives.call (Derives.seq (ident_derives {xs = ys} (name_kind g i)) (Derives.right Derives.empty)))

nested_derives : {w v : List ℕ} {xs ys : List Lexeme} → GoodName w → GoodName v → Spells (Spelled w ∷ Spelled (40 ∷ []) ∷ Spelled v ∷ Spelled (41 ∷ []) ∷ []) xs ys → Derives grammar (Call Name.Kind) xs ys (kind (w ++ (40 ∷ (v ++ 41 ∷ []))) ∷ [])
nested_derives {w = w} {v = v} {ys = ys} g h (Spells.word {x = x} i (Spells.word {x = p} j (Spells.word {x = y} k (Spells.word {x = c} l Spells.nothing)))) =
    subst (λ b. Derives grammar (Call Name.Kind) (x ∷ p ∷ y ∷ c ∷ ys) ys (kind b ∷ []))
    (ap (λ b. b ++ (p.bytes ++ (y.bytes ++ c.bytes))) i.bytes ∙ (ap (λ b. w ++ (b ++ (y.bytes ++ c.bytes))) j.bytes ∙ (ap (λ b. w ++ (40 ∷ (b ++ c.bytes))) k.bytes ∙ ap (λ b. w ++ (40 ∷ (v ++ b))) l.bytes)))
    (Derives.call (Derives.seq (ident_derives {xs = p ∷ y ∷ c ∷ ys} (name_kind g i)) (Derives.left (Derives.seq (Derives.tok (sign.open_is j)) (Derives.seq (ident_derives {xs = c ∷ ys} (name_kind h k)) (Derives.tok (sign.close_is l)))))))

spells_as : {ps qs : List Piece} {xs ys : List Lexeme} → ps ≡ qs → Spells ps xs ys → Spells qs xs ys
spells_as e s = rw e at s

pub kind_spelled : {k : List ℕ} {xs ys : List Lexeme} → GoodKind k → Spells (kind_pieces k) xs ys → Derives grammar (Call Name.Kind) xs ys (kind k ∷ [])
kind_spelled (GoodKind.plain {w = w} g) s = plain_derives g (spells_as (plain_pieces w g.passes) s)
kind_spelled (GoodKind.nested {w = w} {v = v} g h) s = nested_derives g h (spells_as (nested_pieces w v g.passes) s)

pub kind_clear : {k : List ℕ} (rest : List ℕ) → GoodKind k → Ends rest → Clear (kind_pieces k) rest
kind_clear rest (GoodKind.plain {w = w} g) h = rw (plain_pieces w g.passes) (name_clear rest g h)
kind_clear rest (GoodKind.nested {w = w} {v = v} g k) h = rw (nested_pieces w v g.passes) (Clear.word g.one (g.apart _ refl) (Clear.word sign.open_one (sign.open_apart _) (Clear.word k.one (k.apart _ refl) (Clear.word sign.close_one (sign.close_apart _) Clear.nothing))))
