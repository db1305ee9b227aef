-- Lists in braces read back.
use Rattle.std.proofs.Common.{◌≡◌, ℕ, List, [], ◌∷◌, ◌++◌, map, Option, Some, None, refl, sym, ap, ◌∙◌, inl}
use Rattle.std.specs.Prelude.{codes}
use Rattle.std.proofs.lemmas.List.{append-nil}
use Rattle.grammar.specs.Form.{Derives}
use Rattle.grammar.specs.Form.Form.{Call}
use Rattle.ap_syntax.specs.Pieces.{Piece, in_braces, semicolons, spaced_behind, spelled}
use Rattle.ap_grammar.specs.declared.terminals.Terminal.TheVariants as t
use Rattle.ap_grammar.specs.Lexemes.{Lexeme}
use Rattle.ap_grammar.specs.Values.{Value, collected}
use Rattle.ap_grammar.specs.Values.Value.{token}
use Rattle.ap_grammar.specs.Grammar.{Name, Rhs, grammar}
use Rattle.ap_grammar.specs.Grammar as g
use Rattle.canonical_law.proofs.Spells.{Spells, Clear, split3, clear_append, spaced_behind_is, spaced_behind_clear, spelled_is}
use Rattle.canonical_law.proofs.Signs as sign
use Rattle.canonical_law.proofs.Lists.{Each, Alike, Between, GoodItem, IsSignOr, all_read, all_clear, collected-append, from_here, up_to}

pub semicolon_between : Between (spaced_behind (codes ";")) t.Semicolon
semicolon_between = record {
  derives = λ s. let q = spaced_behind_is s in (q.0, q.1, sign.semicolon_is q.2);
  clear = λ rest. spaced_behind_clear rest sign.semicolon_one (sign.semicolon_apart _);
  ends = λ rest. refl;
}

each-append : {A : Type 0} {P : A → Type 0} {xs ys : List A} → Each P xs → Each P ys → Each P (xs ++ ys)
each-append Each.none f = f
each-append (Each.more p e) f = Each.more p (each-append e f)

module _ {A B : Type 0} (R : A → A → Type 0) (pieces : A → List Piece) (pick : Value → Option A) (value_of : B → A → Value) (n : Name) (no_token : (x : Lexeme) → pick (token x) ≡ None) (picks : (i : B) (x : A) → pick (value_of i x) ≡ Some x) where
  pub record InBraces (items : List A) (xs ys : List Lexeme) : Type 0 where
    pub first : Lexeme
    pub rest : List Value
    pub derives : Derives grammar (g.in_braces n) xs ys (token first ∷ rest)
    pub read : List A
    pub picked : collected pick rest ≡ read
    pub same : Alike R read items
    pub each : Each (IsSignOr value_of) rest

  closing_brace : {ms ys : List Lexeme} → Spells (spelled (codes "}")) ms ys → (x : Lexeme) × (ms ≡ x ∷ ys) × (x.terminal ≡ t.CloseBrace)
  closing_brace (Spells.word i Spells.nothing) = (_, refl, sign.close_brace_is i)

  none_between : {o c : Lexeme} {ms ys : List Lexeme} → o.terminal ≡ t.OpenBrace → ms ≡ c ∷ ys → c.terminal ≡ t.CloseBrace → InBraces [] (o ∷ ms) ys
  none_between {o = o} {c = c} {ys = ys} e m f = record {
    first = o;
    rest = token c ∷ [];
    derives = Derives.seq (Derives.tok e) (Derives.seq (Derives.right Derives.empty) (from_here (sym m) (Derives.tok {t = c} {ts = ys} f)));
    read = [];
    picked = ap (λ (o : Option A). elim o [ None ↦ [] | Some y ↦ y ∷ [] ]) (no_token c);
    same = Alike.none;
    each = Each.more (inl (c, refl)) Each.none;
  }

  pub braces_spelled : (items : List A) {xs ys : List Lexeme} → Each (GoodItem R pieces pick value_of (Call n)) items → Spells (in_braces (semicolons (map pieces items))) xs ys → InBraces items xs ys
  braces_spelled [] h (Spells.word i s) = let c = closing_brace s in none_between (sign.open_brace_is i) c.1 c.2
  braces_spelled (x ∷ items) {ys = ys} h s =
      let q = split3 (spelled (codes "{")) (semicolons (map pieces (x ∷ items))) s in
      let o = spelled_is q.2 in
      let c = closing_brace q.4 in
      let r = all_read R pieces pick value_of (Call n) t.Semicolon _ semicolon_between no_token picks x items h q.3 in
      record {
        first = o.0;
        rest = r.values ++ token c.0 ∷ [];
        derives = from_here (sym o.1) (Derives.seq (Derives.tok {t = o.0} (sign.open_brace_is o.2)) (Derives.seq (up_to c.1 (Derives.left r.derives)) (Derives.tok {t = c.0} {ts = ys} c.2)));
        read = r.read;
        picked = collected-append pick r.values (token c.0 ∷ []) ∙ (ap (λ (o : Option A). collected pick r.values ++ elim o [ None ↦ [] | Some y ↦ y ∷ [] ]) (no_token c.0) ∙ (append-nil (collected pick r.values) ∙ r.picked));
        same = r.same;
        each = each-append r.each (Each.more (inl (c.0, refl)) Each.none);
      }

  pub braces_clear : (items : List A) (rest : List ℕ) → Each (GoodItem R pieces pick value_of (Call n)) items → Clear (in_braces (semicolons (map pieces items))) rest
  braces_clear [] rest h = Clear.word sign.open_brace_one (sign.open_brace_apart _) (Clear.word sign.close_brace_one (sign.close_brace_apart _) Clear.nothing)
  braces_clear (x ∷ items) rest h = Clear.word sign.open_brace_one (sign.open_brace_apart _) (clear_append _ (spelled (codes "}")) rest (all_clear R pieces pick value_of (Call n) t.Semicolon _ semicolon_between no_token picks x items h _ refl) (Clear.word sign.close_brace_one (sign.close_brace_apart _) Clear.nothing))
