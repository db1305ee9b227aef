-- What is written of terms costs no more than their tokens.
use Rattle.std.proofs.Common.{◌≡◌, ℕ, ◌+◌, suc, true, false, List, [], ◌∷◌, ◌++◌, map, length, None, refl, sym, ap, subst, ◌∙◌, arith, inl, inr}
use Rattle.std.specs.Prelude.{codes, nat_le}
use Rattle.std.specs.Fmt.{decimal}
use Rattle.std.proofs.lemmas.Bool.Decides.{nat_tests}
use Rattle.std.proofs.lemmas.List.{append-nil}
use Rattle.grammar.specs.Form.{◌⨾◌, ◌∣◌}
use Rattle.grammar.specs.Form.Form.{Tok, Call, Star}
use Rattle.grammar.proofs.Interpret.{Reads}
use Rattle.ap_syntax.specs.declared.terms.ProductOp.{ProductOp}
use Rattle.ap_syntax.specs.declared.terms.ProductOp.TheVariants.{Times, Over, Rest}
use Rattle.ap_syntax.specs.declared.terms.SumOp.{SumOp}
use Rattle.ap_syntax.specs.declared.terms.SumOp.TheVariants as sums
use Rattle.ap_syntax.specs.declared.terms.Term.{Term}
use Rattle.ap_syntax.specs.declared.terms.Term.TheVariants as terms
use Rattle.ap_syntax.specs.Pieces.{Piece, commas, spaced_behind, spelled}
use Rattle.ap_syntax.specs.CanonicalTerms.{Written, at_least, product_sign, quoted, sum_sign, term_pieces, written}
use Rattle.ap_lex.specs.declared.token.Kind.TheVariants.{Num, Str, Var, Any}
use Rattle.ap_grammar.specs.declared.terminals.Terminal.{Terminal}
use Rattle.ap_grammar.specs.declared.terminals.Terminal.TheVariants as t
use Rattle.ap_grammar.specs.Lexemes.{Lexeme, string_of}
use Rattle.ap_grammar.specs.Lexemes as lexemes
use Rattle.ap_grammar.specs.Values.{Value, as_condition, as_target, as_term, collected, found}
use Rattle.ap_grammar.specs.Values.Value.{term, token}
use Rattle.ap_grammar.specs.Grammar.{Name, group, made, many, primary, product_from, product_of, rule_of, sum_from, sum_of}
use Rattle.ap_grammar.proofs.Sorts.{name_primary}
use Rattle.ap_lexemes.specs.Limits.{role_of}
use Rattle.canonical_law.proofs.Signs as sign
use Rattle.canonical_law.proofs.Names.{GoodName, IsNameKind, name_kind}
use Rattle.canonical_law.proofs.Numbers.{GoodNumber}
use Rattle.canonical_law.proofs.Strings.{good_string}
use Rattle.canonical_law.proofs.Lists.{behind, collected-append, parted_behind}
use Rattle.canonical_law.proofs.Terms.{GoodVariable, any_one, pair_value}
use Rattle.canonical_law.proofs.WrittenTerms.{any_written, const_written, fun_written, int_written, minus_written, product_written, range_written, str_written, sum_written, tuple_written, var_written}
use Rattle.std.proofs.lemmas.Str.{IsUtf8-from_ascii}
use Rattle.canonical_law.proofs.Encoded.{word_text}
use Rattle.canonical_law.proofs.Costs.{Covered, ascii_word, CoveredAt, IsPlain, covered_at, covered_comma, covered_group, covered_nothing, covered_spaced, covered_then, covered_word, group_covered, is_plain, looser_covered, placed_covered}
use Rattle.canonical_law.proofs.Fine.{Fine, number_of_token, string_of_token, variable_of, base_name, preference_name, word_name}
use Rattle.canonical_law.proofs.Covers.{Covers, CoversName, CoversTerm, Has}

-- ---- plain words and tokens

-- a token whose terminal is known
pub plain_token : {j k : Terminal} → j ≡ k → is_plain (role_of k) ≡ true → is_plain (role_of j) ≡ true
plain_token e h = rw (sym e) at h

pub name_plain : {k : Terminal} → IsNameKind k → is_plain (role_of k) ≡ true
name_plain (inl e) = rw e refl
name_plain (inr (inl e)) = rw e refl
name_plain (inr (inr e)) = rw e refl

pub plain_name : {w : List ℕ} → GoodName w → IsPlain w
plain_name {w = w} g = record { plain = λ x i. name_plain (name_kind g i); text = word_text w g.passes }

pub plain_number : {n : ℕ} → GoodNumber n → IsPlain (decimal n)
plain_number {n = n} g = record { plain = λ x i. plain_token (sign.fixed Num t.Number g.one refl i) refl; text = IsUtf8-from_ascii (decimal n) g.ascii }

pub plain_string : (y : Fine) → y.token.terminal ≡ t.String → IsPlain (quoted (string_of y.token.bytes))
plain_string y e = record { plain = λ x i. plain_token (sign.fixed Str t.String (good_string (string_of y.token.bytes)).one refl i) refl; text = string_of_token y e }

plain_variable : {w : List ℕ} → GoodVariable w → IsPlain w
plain_variable {w = w} g = record { plain = λ x i. plain_token (sign.fixed Var t.Variable g.one refl i) refl; text = word_text w g.passes }

plain_any : IsPlain (codes "_")
plain_any = ascii_word refl (λ x i. plain_token (sign.fixed Any t.Any any_one refl i) refl)

pub plain_minus : IsPlain (codes "-")
plain_minus = ascii_word refl (λ x i. plain_token (sign.minus_is i) refl)

plain_dots : IsPlain (codes "..")
plain_dots = ascii_word refl (λ x i. plain_token (sign.dots_is i) refl)

plain_sum : (op : SumOp) → IsPlain (sum_sign op)
plain_sum sums.Plus = ascii_word refl (λ x i. plain_token (sign.plus_is i) refl)
plain_sum sums.Less = ascii_word refl (λ x i. plain_token (sign.minus_is i) refl)

plain_product : (op : ProductOp) → IsPlain (product_sign op)
plain_product Times = ascii_word refl (λ x i. plain_token (sign.times_is i) refl)
plain_product Over = ascii_word refl (λ x i. plain_token (sign.slash_is i) refl)
plain_product Rest = ascii_word refl (λ x i. plain_token (sign.backslash_is i) refl)

-- ---- names

pub covered_name : {xs ys : List Fine} {v : Value} (n : CoversName xs ys v) → Covered (spelled n.begins.token.bytes) 0 xs ys
covered_name {ys = ys} n = subst (λ ts. Covered (spelled n.begins.token.bytes) 0 ts ys) (sym n.tokens) (covered_word {x = n.begins} (plain_name n.good) (name_plain n.kind))

pub ident_covers : {xs ys : List Fine} {vs : List Value} → Has (rule_of Name.Ident) xs ys vs → CoversName xs ys (made Name.Ident vs)
ident_covers (Reads.left (Reads.tok {t = x} e)) = record { begins = x; is = refl; tokens = refl; kind = inl e; good = word_name x e }
ident_covers (Reads.right (Reads.left (Reads.tok {t = x} e))) = record { begins = x; is = refl; tokens = refl; kind = inr (inl e); good = base_name x e }
ident_covers (Reads.right (Reads.right (Reads.tok {t = x} e))) = record { begins = x; is = refl; tokens = refl; kind = inr (inr e); good = preference_name x e }

-- ---- terms by what is written of them

-- by its pieces at a level that binds as closely
pub at_level : (n : ℕ) {w v : Written} {xs ys : List Fine} → v ≡ w → nat_le n w.level ≡ true → Covered w.pieces 0 xs ys → CoveredAt n v xs ys
at_level n {w = w} {xs = xs} {ys = ys} e h c = subst (λ u. CoveredAt n u xs ys) (sym e) (covered_at n w h c)

-- a term in its own rule
pub covered_term : {xs ys : List Fine} {v : Value} (s : CoversTerm 0 xs ys v) → Covered (term_pieces s.tree) 0 xs ys
covered_term s = placed_covered 0 s.covered

pub below : (m n : ℕ) → nat_le m n ≡ true → (k : ℕ) → nat_le m k ≡ false → nat_le n k ≡ false
below m n h k e = grind (arith, nat_tests)

-- the same term in a rule that binds less closely
loosened : (m n : ℕ) {xs ys : List Fine} {v : Value} → nat_le m n ≡ true → (s : CoversTerm n xs ys v) → CoversTerm m xs ys (term s.first s.name s.tree)
loosened m n h s = record { first = s.first; name = s.name; tree = s.tree; is = refl; covered = looser_covered m n (below m n h) s.covered }

other_term : {n : ℕ} {xs ys : List Fine} (first : Lexeme) {x : Term} {v : Value} → v ≡ term first None x → CoveredAt n (written x) xs ys → CoversTerm n xs ys v
other_term first e c = record { first = first; name = None; tree = _; is = e; covered = c }

-- ---- lists of terms

commas_are : {ps : List Piece} {c d : ℕ} {xs ys : List Fine} → c ≡ d → Covered ps c xs ys → Covered ps d xs ys
commas_are {ps = ps} {xs = xs} {ys = ys} e a = subst (λ c. Covered ps c xs ys) e a

one_and : (n : ℕ) → 1 + (0 + n) ≡ suc n
one_and n = omega arith

-- the members behind the first
pub record AreTerms (xs ys : List Fine) (vs : List Value) : Type 0 where
  pub terms : List Term
  pub are : (ws : List Value) → collected as_term (vs ++ ws) ≡ terms ++ collected as_term ws
  pub no_condition : (ws : List Value) → found as_condition (vs ++ ws) ≡ found as_condition ws
  pub no_target : (ws : List Value) → found as_target (vs ++ ws) ≡ found as_target ws
  pub covered : Covered (behind (spaced_behind (codes ",")) (map term_pieces terms)) (length terms) xs ys

comma_term : {xs ms ys : List Fine} (comma : Fine) (v : Value) (vs : List Value) → comma.token.terminal ≡ t.Comma → CoversTerm 0 xs ms v → AreTerms ms ys vs → AreTerms (comma ∷ xs) ys (token comma.token ∷ v ∷ vs)
comma_term comma v vs e s a = record {
  terms = s.tree ∷ a.terms;
  are = λ ws. rw s.is (ap (λ ts. s.tree ∷ ts) (a.are ws));
  no_condition = λ ws. rw s.is (a.no_condition ws);
  no_target = λ ws. rw s.is (a.no_target ws);
  covered = commas_are (one_and (length a.terms)) (covered_then (covered_comma (ap role_of e)) (covered_then (covered_term s) a.covered));
}

pub terms_behind : {xs ys : List Fine} {vs : List Value} → Has (Star (Tok t.Comma ⨾ Call Name.Term)) xs ys vs → AreTerms xs ys vs
terms_behind Reads.none = record { terms = []; are = λ ws. refl; no_condition = λ ws. refl; no_target = λ ws. refl; covered = covered_nothing }
terms_behind (Reads.more (Reads.seq (Reads.tok {t = c} e) (Reads.call {v = v} m)) rest) = comma_term c v _ e m (terms_behind rest)

-- one term or more
pub record AreSome (xs ys : List Fine) (vs : List Value) : Type 0 where
  pub first : Term
  pub rest : List Term
  pub are : (ws : List Value) → collected as_term (vs ++ ws) ≡ (first ∷ rest) ++ collected as_term ws
  pub no_condition : (ws : List Value) → found as_condition (vs ++ ws) ≡ found as_condition ws
  pub no_target : (ws : List Value) → found as_target (vs ++ ws) ≡ found as_target ws
  pub covered : Covered (commas (map term_pieces (first ∷ rest))) (length rest) xs ys

zero_and : (n : ℕ) → 0 + n ≡ n
zero_and n = omega arith

some_terms : {xs ms ys : List Fine} (v : Value) (vs : List Value) → CoversTerm 0 xs ms v → AreTerms ms ys vs → AreSome xs ys (v ∷ vs)
some_terms {xs = xs} {ys = ys} v vs s a = record {
  first = s.tree;
  rest = a.terms;
  are = λ ws. rw s.is (ap (λ ts. s.tree ∷ ts) (a.are ws));
  no_condition = λ ws. rw s.is (a.no_condition ws);
  no_target = λ ws. rw s.is (a.no_target ws);
  covered = subst (λ ps. Covered ps (length a.terms) xs ys) (sym (parted_behind (spaced_behind (codes ",")) (term_pieces s.tree) (map term_pieces a.terms))) (commas_are (zero_and (length a.terms)) (covered_then (covered_term s) a.covered));
}

pub some_covers : {xs ys : List Fine} {vs : List Value} → Has (many (Call Name.Term) t.Comma) xs ys vs → AreSome xs ys vs
some_covers (Reads.seq (Reads.call {v = v} m) rest) = some_terms v _ m (terms_behind rest)

-- before a token
with_token : {xs ys : List Fine} (vs : List Value) (x : Lexeme) (a : AreSome xs ys vs) → collected as_term (vs ++ token x ∷ []) ≡ a.first ∷ a.rest
with_token vs x a = a.are (token x ∷ []) ∙ append-nil (a.first ∷ a.rest)

pub arguments_cover : {xs ys : List Fine} {vs : List Value} → Has (rule_of Name.Arguments) xs ys vs → Covers Name.Arguments xs ys (made Name.Arguments vs)
arguments_cover (Reads.seq (Reads.tok {t = p} e) (Reads.seq {us = us} m (Reads.tok {t = c} f))) = let a = some_covers m in (a.first, a.rest, ap Value.terms (with_token us c.token a), covered_group (ap role_of e) (ap role_of f) a.covered)

-- ---- atoms

pub atom_covers : {xs ys : List Fine} {vs : List Value} → Has (rule_of Name.Atom) xs ys vs → Covers Name.Atom xs ys (made Name.Atom vs)
atom_covers (Reads.seq (Reads.call {v = v} m) (Reads.right Reads.empty)) = rw m.is (m.begins.token, _, refl, covered_name m)
atom_covers (Reads.seq (Reads.call {v = v} m) (Reads.left (Reads.call {v = w} n))) = rw (m.is, n.2) (m.begins.token, _, refl, covered_then (covered_name m) n.3)

-- ---- terms

range_covered : {xs ms ns ys : List Fine} {v w : Value} (d : Fine) → d.token.terminal ≡ t.Dots → (s : CoversTerm 1 xs ms v) → ms ≡ d ∷ ns → (u : CoversTerm 1 ns ys w) → CoveredAt 0 (written (terms.Range s.tree u.tree)) xs ys
range_covered {xs = xs} {ys = ys} d e s f u =
    let a = subst (λ ts. Covered (at_least 1 (written s.tree)) 0 xs ts) f (placed_covered 1 s.covered) in
    at_level 0 (range_written s.tree u.tree) refl (covered_then (covered_then a (covered_word plain_dots (plain_token e refl))) (placed_covered 1 u.covered))

pub term_covers : {xs ys : List Fine} {vs : List Value} → Has (rule_of Name.Term) xs ys vs → CoversTerm 0 xs ys (made Name.Term vs)
term_covers (Reads.seq (Reads.call {v = v} m) (Reads.right Reads.empty)) = rw m.is (loosened 0 1 refl m)
term_covers (Reads.seq (Reads.call {v = v} m) (Reads.left (Reads.seq (Reads.tok {t = d} e) (Reads.call {v = w} n)))) = rw (m.is, n.is) (other_term m.first refl (range_covered d e m refl n))

pub unary_covers : {xs ys : List Fine} {vs : List Value} → Has (rule_of Name.Unary) xs ys vs → CoversTerm 3 xs ys (made Name.Unary vs)
unary_covers (Reads.seq (Reads.right Reads.empty) (Reads.call {v = v} m)) = rw m.is (loosened 3 4 refl m)
unary_covers (Reads.seq (Reads.left (Reads.tok {t = minus} e)) (Reads.call {v = v} m)) = rw m.is (other_term minus.token refl (at_level 3 (minus_written m.tree) refl (covered_then (covered_word plain_minus (plain_token e refl)) (placed_covered 4 m.covered))))

-- sums, from a term on

sum_covered : {xs ns ys : List Fine} (x y : Term) (op : SumOp) (k : Fine) → is_plain (role_of k.token.terminal) ≡ true → CoveredAt 1 (written x) xs (k ∷ ns) → CoveredAt 2 (written y) ns ys → CoveredAt 1 (written (terms.Sum x op y)) xs ys
sum_covered x y op k e a b = at_level 1 (sum_written x op y) refl (covered_then (covered_then (placed_covered 1 a) (covered_spaced (plain_sum op) e)) (placed_covered 2 b))

plus_covered : {xs ns ys : List Fine} (x y : Term) (k : Fine) → k.token.terminal ≡ t.Plus → CoveredAt 1 (written x) xs (k ∷ ns) → CoveredAt 2 (written y) ns ys → CoveredAt 1 (written (sum_of k.token.terminal x y)) xs ys
plus_covered {xs = xs} {ns = ns} {ys = ys} x y k e a b = subst (λ s. CoveredAt 1 (written (sum_of s x y)) xs ys) (sym e) (sum_covered {ns = ns} x y sums.Plus k (plain_token e refl) a b)

less_covered : {xs ns ys : List Fine} (x y : Term) (k : Fine) → k.token.terminal ≡ t.Minus → CoveredAt 1 (written x) xs (k ∷ ns) → CoveredAt 2 (written y) ns ys → CoveredAt 1 (written (sum_of k.token.terminal x y)) xs ys
less_covered {xs = xs} {ns = ns} {ys = ys} x y k e a b = subst (λ s. CoveredAt 1 (written (sum_of s x y)) xs ys) (sym e) (sum_covered {ns = ns} x y sums.Less k (plain_token e refl) a b)

record SumIs (xs ys : List Fine) (first : Lexeme) (x : Term) (vs : List Value) : Type 0 where
  tree : Term
  is : sum_from first x vs ≡ term first None tree
  covered : CoveredAt 1 (written tree) xs ys

sum_more : {xs ys : List Fine} {n : ℕ} {bs cs : List Fine} (first : Lexeme) (x : Term) (sign : Lexeme) (v : Value) (vs : List Value) (s : CoversTerm n bs cs v) → SumIs xs ys first (sum_of sign.terminal x s.tree) vs → SumIs xs ys first x (token sign ∷ v ∷ vs)
sum_more first x sign v vs s q = record { tree = q.tree; is = rw s.is q.is; covered = q.covered }

summed : {ws : List Fine} (first : Lexeme) (x : Term) {xs ys : List Fine} {vs : List Value} → CoveredAt 1 (written x) ws xs → Has (Star ((Tok t.Plus ∣ Tok t.Minus) ⨾ Call Name.Product)) xs ys vs → SumIs ws ys first x vs
summed first x c Reads.none = record { tree = x; is = refl; covered = c }
summed first x c (Reads.more (Reads.seq (Reads.left (Reads.tok {t = sign} e)) (Reads.call {v = v} m)) rest) = sum_more first x sign.token v _ m (summed first (sum_of sign.token.terminal x m.tree) (plus_covered x m.tree sign e c m.covered) rest)
summed first x c (Reads.more (Reads.seq (Reads.right (Reads.tok {t = sign} e)) (Reads.call {v = v} m)) rest) = sum_more first x sign.token v _ m (summed first (sum_of sign.token.terminal x m.tree) (less_covered x m.tree sign e c m.covered) rest)

-- of one term it is that term
alone_sum : {xs ms ys : List Fine} {v : Value} (s : CoversTerm 2 xs ms v) → SumIs xs ys s.first s.tree [] → CoversTerm 1 xs ys (term s.first s.name s.tree)
alone_sum s q = let same : s.tree ≡ q.tree = cc in record { first = s.first; name = s.name; tree = s.tree; is = refl; covered = (let c = q.covered in rw (sym same) at c) }

sum_made : {xs ms ys : List Fine} (v : Value) (vs : List Value) (s : CoversTerm 2 xs ms v) → SumIs xs ys s.first s.tree vs → CoversTerm 1 xs ys (made Name.Sum (v ∷ vs))
sum_made v [] s q = rw s.is (alone_sum s q)
sum_made v (u ∷ us) s q = rw s.is (other_term s.first q.is q.covered)

pub sum_covers : {xs ys : List Fine} {vs : List Value} → Has (rule_of Name.Sum) xs ys vs → CoversTerm 1 xs ys (made Name.Sum vs)
sum_covers (Reads.seq (Reads.call {v = v} m) rest) = sum_made v _ m (summed m.first m.tree (looser_covered 1 2 (below 1 2 refl) m.covered) rest)

-- products, from a term on

product_covered : {xs ns ys : List Fine} (x y : Term) (op : ProductOp) (k : Fine) → is_plain (role_of k.token.terminal) ≡ true → CoveredAt 2 (written x) xs (k ∷ ns) → CoveredAt 3 (written y) ns ys → CoveredAt 2 (written (terms.Product x op y)) xs ys
product_covered x y op k e a b = at_level 2 (product_written x op y) refl (covered_then (covered_then (placed_covered 2 a) (covered_spaced (plain_product op) e)) (placed_covered 3 b))

times_covered : {xs ns ys : List Fine} (x y : Term) (k : Fine) → k.token.terminal ≡ t.Times → CoveredAt 2 (written x) xs (k ∷ ns) → CoveredAt 3 (written y) ns ys → CoveredAt 2 (written (product_of k.token.terminal x y)) xs ys
times_covered {xs = xs} {ns = ns} {ys = ys} x y k e a b = subst (λ s. CoveredAt 2 (written (product_of s x y)) xs ys) (sym e) (product_covered {ns = ns} x y Times k (plain_token e refl) a b)

over_covered : {xs ns ys : List Fine} (x y : Term) (k : Fine) → k.token.terminal ≡ t.Slash → CoveredAt 2 (written x) xs (k ∷ ns) → CoveredAt 3 (written y) ns ys → CoveredAt 2 (written (product_of k.token.terminal x y)) xs ys
over_covered {xs = xs} {ns = ns} {ys = ys} x y k e a b = subst (λ s. CoveredAt 2 (written (product_of s x y)) xs ys) (sym e) (product_covered {ns = ns} x y Over k (plain_token e refl) a b)

rest_covered : {xs ns ys : List Fine} (x y : Term) (k : Fine) → k.token.terminal ≡ t.Backslash → CoveredAt 2 (written x) xs (k ∷ ns) → CoveredAt 3 (written y) ns ys → CoveredAt 2 (written (product_of k.token.terminal x y)) xs ys
rest_covered {xs = xs} {ns = ns} {ys = ys} x y k e a b = subst (λ s. CoveredAt 2 (written (product_of s x y)) xs ys) (sym e) (product_covered {ns = ns} x y Rest k (plain_token e refl) a b)

record ProductIs (xs ys : List Fine) (first : Lexeme) (x : Term) (vs : List Value) : Type 0 where
  tree : Term
  is : product_from first x vs ≡ term first None tree
  covered : CoveredAt 2 (written tree) xs ys

product_more : {xs ys : List Fine} {n : ℕ} {bs cs : List Fine} (first : Lexeme) (x : Term) (sign : Lexeme) (v : Value) (vs : List Value) (s : CoversTerm n bs cs v) → ProductIs xs ys first (product_of sign.terminal x s.tree) vs → ProductIs xs ys first x (token sign ∷ v ∷ vs)
product_more first x sign v vs s q = record { tree = q.tree; is = rw s.is q.is; covered = q.covered }

multiplied : {ws : List Fine} (first : Lexeme) (x : Term) {xs ys : List Fine} {vs : List Value} → CoveredAt 2 (written x) ws xs → Has (Star ((Tok t.Times ∣ Tok t.Slash ∣ Tok t.Backslash) ⨾ Call Name.Unary)) xs ys vs → ProductIs ws ys first x vs
multiplied first x c Reads.none = record { tree = x; is = refl; covered = c }
multiplied first x c (Reads.more (Reads.seq (Reads.left (Reads.tok {t = sign} e)) (Reads.call {v = v} m)) rest) = product_more first x sign.token v _ m (multiplied first (product_of sign.token.terminal x m.tree) (times_covered x m.tree sign e c m.covered) rest)
multiplied first x c (Reads.more (Reads.seq (Reads.right (Reads.left (Reads.tok {t = sign} e))) (Reads.call {v = v} m)) rest) = product_more first x sign.token v _ m (multiplied first (product_of sign.token.terminal x m.tree) (over_covered x m.tree sign e c m.covered) rest)
multiplied first x c (Reads.more (Reads.seq (Reads.right (Reads.right (Reads.tok {t = sign} e))) (Reads.call {v = v} m)) rest) = product_more first x sign.token v _ m (multiplied first (product_of sign.token.terminal x m.tree) (rest_covered x m.tree sign e c m.covered) rest)

alone_product : {xs ms ys : List Fine} {v : Value} (s : CoversTerm 3 xs ms v) → ProductIs xs ys s.first s.tree [] → CoversTerm 2 xs ys (term s.first s.name s.tree)
alone_product s q = let same : s.tree ≡ q.tree = cc in record { first = s.first; name = s.name; tree = s.tree; is = refl; covered = (let c = q.covered in rw (sym same) at c) }

product_made : {xs ms ys : List Fine} (v : Value) (vs : List Value) (s : CoversTerm 3 xs ms v) → ProductIs xs ys s.first s.tree vs → CoversTerm 2 xs ys (made Name.Product (v ∷ vs))
product_made v [] s q = rw s.is (alone_product s q)
product_made v (u ∷ us) s q = rw s.is (other_term s.first q.is q.covered)

pub product_covers : {xs ys : List Fine} {vs : List Value} → Has (rule_of Name.Product) xs ys vs → CoversTerm 2 xs ys (made Name.Product vs)
product_covers (Reads.seq (Reads.call {v = v} m) rest) = product_made v _ m (multiplied m.first m.tree (looser_covered 2 3 (below 2 3 refl) m.covered) rest)

-- ---- primary terms

const_covered : {xs ys : List Fine} (v : Value) (s : CoversName xs ys v) → CoversTerm 4 xs ys (made Name.Primary (v ∷ []))
const_covered v s = rw s.is (record { first = s.begins.token; name = _; tree = _; is = name_primary s.begins.token [] s.kind; covered = at_level 4 (const_written s.begins.token.bytes) refl (covered_name s) })

fun_covered : {xs ms ys : List Fine} (v w : Value) (s : CoversName xs ms v) (a : Covers Name.Arguments ms ys w) → CoversTerm 4 xs ys (made Name.Primary (v ∷ w ∷ []))
fun_covered v w s a = rw (s.is, a.2) (record { first = s.begins.token; name = _; tree = _; is = name_primary s.begins.token (Value.terms (a.0 ∷ a.1) ∷ []) s.kind; covered = at_level 4 (fun_written s.begins.token.bytes a.0 a.1) refl (covered_then (covered_name s) a.3) })

-- behind a parenthesis
group_made : {xs ys : List Fine} (first : Lexeme) (vs : List Value) {x : Term} → first.terminal ≡ t.Open → group first vs ≡ term first None x → CoveredAt 4 (written x) xs ys → CoversTerm 4 xs ys (made Name.Primary (token first ∷ vs))
group_made first vs e f c = other_term first (ap (λ k. primary k first vs) e ∙ f) c

inner_made : {xs ys : List Fine} (first : Fine) (v : Value) (close : Fine) (s : CoversTerm 0 xs (close ∷ ys) v) → first.token.terminal ≡ t.Open → close.token.terminal ≡ t.Close → CoversTerm 4 (first ∷ xs) ys (made Name.Primary (token first.token ∷ v ∷ token close.token ∷ []))
inner_made {xs = xs} {ys = ys} first v close s e f = rw s.is (group_made {xs = first ∷ xs} {ys = ys} first.token (term s.first s.name s.tree ∷ token close.token ∷ []) e refl (group_covered 4 (ap role_of e) (ap role_of f) s.covered))

empty_made : {ys : List Fine} (first close : Fine) → first.token.terminal ≡ t.Open → close.token.terminal ≡ t.Close → CoversTerm 4 (first ∷ close ∷ ys) ys (made Name.Primary (token first.token ∷ token close.token ∷ []))
empty_made {ys = ys} first close e f = group_made {xs = first ∷ close ∷ ys} {ys = ys} first.token (token close.token ∷ []) e refl (at_level 4 (tuple_written []) refl (covered_group (ap role_of e) (ap role_of f) covered_nothing))

single_made : {xs ys : List Fine} (first : Fine) (v : Value) (comma close : Fine) (s : CoversTerm 0 xs (comma ∷ close ∷ ys) v) → first.token.terminal ≡ t.Open → comma.token.terminal ≡ t.Comma → close.token.terminal ≡ t.Close → CoversTerm 4 (first ∷ xs) ys (made Name.Primary (token first.token ∷ v ∷ token comma.token ∷ token close.token ∷ []))
single_made {xs = xs} {ys = ys} first v comma close s e f g = rw s.is (group_made {xs = first ∷ xs} {ys = ys} first.token (term s.first s.name s.tree ∷ token comma.token ∷ token close.token ∷ []) e refl (at_level 4 (tuple_written (s.tree ∷ [])) refl (covered_group (ap role_of e) (ap role_of g) (covered_then (covered_term s) (covered_comma (ap role_of f))))))

several_made : {xs ms ys : List Fine} (first : Fine) (v : Value) (comma : Fine) (vs : List Value) (close : Fine) (s : CoversTerm 0 xs (comma ∷ ms) v) (a : AreSome ms (close ∷ ys) vs) → first.token.terminal ≡ t.Open → comma.token.terminal ≡ t.Comma → close.token.terminal ≡ t.Close → CoversTerm 4 (first ∷ xs) ys (made Name.Primary (token first.token ∷ v ∷ token comma.token ∷ (vs ++ token close.token ∷ [])))
several_made {xs = xs} {ys = ys} first v comma vs close s a e f g = rw s.is (group_made {xs = first ∷ xs} {ys = ys} first.token (term s.first s.name s.tree ∷ token comma.token ∷ (vs ++ token close.token ∷ [])) e (pair_value first.token s.first s.name s.tree comma.token vs close.token a.first a.rest (sym (append-nil (collected as_term vs)) ∙ several_are))
    (at_level 4 (tuple_written (s.tree ∷ a.first ∷ a.rest)) refl (covered_group (ap role_of e) (ap role_of g) (covered_then (covered_then (covered_term s) (covered_comma (ap role_of f))) a.covered))))
  where
    several_are : collected as_term vs ++ [] ≡ a.first ∷ a.rest
    several_are = sym (collected-append as_term vs []) ∙ (a.are [] ∙ append-nil (a.first ∷ a.rest))

leaf_made : {ys : List Fine} (x : Fine) {w : List ℕ} {y : Term} {k : Terminal} → x.token.terminal ≡ k → primary k x.token [] ≡ term x.token None y → written y ≡ record { level = 4; pieces = spelled w } → IsPlain w → is_plain (role_of k) ≡ true → CoversTerm 4 (x ∷ ys) ys (made Name.Primary (token x.token ∷ []))
leaf_made x e v f p h = other_term x.token (ap (λ k. primary k x.token []) e ∙ v) (at_level 4 f refl (covered_word p (plain_token e h)))

pub primary_covers : {xs ys : List Fine} {vs : List Value} → Has (rule_of Name.Primary) xs ys vs → CoversTerm 4 xs ys (made Name.Primary vs)
primary_covers (Reads.left (Reads.tok {t = x} e)) = leaf_made x e refl (int_written (lexemes.decimal x.token.bytes)) (plain_number (number_of_token x e)) refl
primary_covers (Reads.right (Reads.left (Reads.tok {t = x} e))) = leaf_made x e refl (str_written (string_of x.token.bytes)) (plain_string x e) refl
primary_covers (Reads.right (Reads.right (Reads.left (Reads.tok {t = x} e)))) = leaf_made x e refl (var_written x.token.bytes) (plain_variable (variable_of x e)) refl
primary_covers (Reads.right (Reads.right (Reads.right (Reads.left (Reads.tok {t = x} e))))) = leaf_made x e refl any_written plain_any refl
primary_covers (Reads.right (Reads.right (Reads.right (Reads.right (Reads.left (Reads.seq (Reads.call {v = v} m) (Reads.right Reads.empty))))))) = const_covered v m
primary_covers (Reads.right (Reads.right (Reads.right (Reads.right (Reads.left (Reads.seq (Reads.call {v = v} m) (Reads.left (Reads.call {v = w} n)))))))) = fun_covered v w m n
primary_covers (Reads.right (Reads.right (Reads.right (Reads.right (Reads.right (Reads.left (Reads.seq (Reads.tok {t = p} e) (Reads.seq (Reads.call {v = v} m) (Reads.tok {t = c} f))))))))) = inner_made p v c m e f
primary_covers (Reads.right (Reads.right (Reads.right (Reads.right (Reads.right (Reads.right (Reads.left (Reads.seq (Reads.tok {t = p} e) (Reads.tok {t = c} f))))))))) = empty_made p c e f
primary_covers (Reads.right (Reads.right (Reads.right (Reads.right (Reads.right (Reads.right (Reads.right (Reads.left (Reads.seq (Reads.tok {t = p} e) (Reads.seq (Reads.call {v = v} m) (Reads.seq (Reads.tok {t = k} f) (Reads.tok {t = c} g)))))))))))) = single_made p v k c m e f g
primary_covers (Reads.right (Reads.right (Reads.right (Reads.right (Reads.right (Reads.right (Reads.right (Reads.right (Reads.seq (Reads.tok {t = p} e) (Reads.seq (Reads.call {v = v} m) (Reads.seq (Reads.tok {t = k} f) (Reads.seq {us = us} n (Reads.tok {t = c} g))))))))))))) = several_made p v k us c m (some_covers n) e f g
