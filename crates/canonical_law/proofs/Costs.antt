-- What tokens and pieces cost: how deep their parentheses nest, and how many commas stand in one pair of them.
use Rattle.std.proofs.Common.{◌≡◌, ℕ, ◌+◌, ◌≤◌, Bool, true, false, cond, List, [], ◌∷◌, ◌++◌, refl, sym, ap, subst, ◌∙◌, arith}
use Rattle.std.specs.Prelude.{codes, max, nat_le, nat_lt}
use Rattle.std.specs.List.{list_all}
use Rattle.std.specs.Str.{IsUtf8}
use Rattle.std.proofs.lemmas.List.{append-nil}
use Rattle.std.proofs.lemmas.Str.{IsUtf8-append, IsUtf8-nil}
use Rattle.ap_syntax.specs.Pieces.{Piece, in_parentheses, spaced, spaced_behind, spelled, text_of}
use Rattle.ap_syntax.specs.Pieces.Piece.{Blank}
use Rattle.ap_syntax.specs.CanonicalTerms.{Written, at_least}
use Rattle.ap_grammar.specs.Lexemes.{Lexeme}
use Rattle.ap_lexemes.specs.Limits.{role_of}
use Rattle.ap_lexemes.specs.declared.role.Role.{Role}
use Rattle.ap_lexemes.specs.declared.role.Role.TheVariants.{Open, Close, Comma, Dot}
use Rattle.canonical_law.proofs.Spells.{Is, Spells, split, text_of_append}
use Rattle.canonical_law.proofs.Signs as sign
use Rattle.canonical_law.proofs.Levels.{closing}
use Rattle.canonical_law.proofs.Encoded.{ascii_text}
use Rattle.canonical_law.proofs.Fine.{Fine}
use Rattle.canonical_law.proofs.Fine as fine

-- how many parentheses are open at once, the commas outside of all of them, and the most commas that stand directly in one pair
pub record Cost : Type 0 where
  pub nesting : ℕ
  pub commas : ℕ
  pub arity : ℕ

abbrev pub nothing : Cost
nothing = record { nesting = 0; commas = 0; arity = 0 }

abbrev pub one_comma : Cost
one_comma = record { nesting = 0; commas = 1; arity = 0 }

abbrev pub both : Cost → Cost → Cost
both p q = record { nesting = max p.nesting q.nesting; commas = p.commas + q.commas; arity = max p.arity q.arity }

abbrev pub grouped : Cost → Cost
grouped p = record { nesting = p.nesting + 1; commas = 0; arity = max p.arity p.commas }

-- ---- of tokens

-- neither a parenthesis, nor a comma, nor a dot
abbrev pub is_plain : Role → Bool
is_plain Open = false
is_plain Close = false
is_plain Comma = false
is_plain Dot = false
is_plain r = true

-- the tokens from the first list up to the second, in which each parenthesis is closed and no statement ends
pub data Measures {T : Type 0} (role : T → Role) : List T → List T → Cost → Type 0 where
  none : {xs : List T} → Measures role xs xs nothing
  plain : {x : T} {xs : List T} → is_plain (role x) ≡ true → Measures role (x ∷ xs) xs nothing
  comma : {x : T} {xs : List T} → role x ≡ Comma → Measures role (x ∷ xs) xs one_comma
  then : {xs ys zs : List T} {p q : Cost} → Measures role xs ys p → Measures role ys zs q → Measures role xs zs (both p q)
  group : {x y : T} {xs ys : List T} {p : Cost} → role x ≡ Open → role y ≡ Close → Measures role xs (y ∷ ys) p → Measures role (x ∷ xs) ys (grouped p)

abbrev pub token_role : Lexeme → Role
token_role x = role_of x.terminal

abbrev pub fine_role : Fine → Role
fine_role x = role_of x.token.terminal

-- what is known of each token makes no difference
pub plain_measured : {xs ys : List Fine} {p : Cost} → Measures fine_role xs ys p → Measures token_role (fine.plain xs) (fine.plain ys) p
plain_measured Measures.none = Measures.none
plain_measured (Measures.plain e) = Measures.plain e
plain_measured (Measures.comma e) = Measures.comma e
plain_measured (Measures.then a b) = Measures.then (plain_measured a) (plain_measured b)
plain_measured (Measures.group e f a) = Measures.group e f (plain_measured a)

-- ---- of pieces

-- a token with these characters is plain, and they are UTF-8
pub record IsPlain (w : List ℕ) : Type 0 where
  pub plain : (x : Lexeme) → Is x w → is_plain (role_of x.terminal) ≡ true
  pub text : IsUtf8 w

-- so is a word of ASCII
pub ascii_word : {w : List ℕ} → list_all (λ b. nat_lt b 128) w ≡ true → ((x : Lexeme) → Is x w → is_plain (role_of x.terminal) ≡ true) → IsPlain w
ascii_word {w = w} h p = record { plain = p; text = ascii_text w h }

pub data Writes : List Piece → Cost → Type 0 where
  none : Writes [] nothing
  plain : {w : List ℕ} → IsPlain w → Writes (spelled w) nothing
  blank : Writes (Blank ∷ []) nothing
  comma : Writes (spelled (codes ",")) one_comma
  then : {ps qs : List Piece} {p q : Cost} → Writes ps p → Writes qs q → Writes (ps ++ qs) (both p q)
  group : {ps : List Piece} {p : Cost} → Writes ps p → Writes (in_parentheses ps) (grouped p)

up_to : {xs ys zs : List Lexeme} {p : Cost} → ys ≡ zs → Measures token_role xs ys p → Measures token_role xs zs p
up_to e m = rw e at m

-- the tokens of pieces
pub measured : {ps : List Piece} {p : Cost} {xs ys : List Lexeme} → Writes ps p → Spells ps xs ys → Measures token_role xs ys p
measured Writes.none Spells.nothing = Measures.none
measured (Writes.plain h) (Spells.word i Spells.nothing) = Measures.plain (h.plain _ i)
measured Writes.blank (Spells.blank Spells.nothing) = Measures.none
measured Writes.comma (Spells.word i Spells.nothing) = Measures.comma (ap role_of (sign.comma_is i))
measured (Writes.then {ps = ps} a b) s = let q = split ps s in Measures.then (measured a q.1) (measured b q.2)
measured (Writes.group {ps = ps} a) (Spells.word i s) =
    let q = split ps s in
    let c = closing q.2 in
    Measures.group (ap role_of (sign.open_is i)) (ap role_of c.2) (up_to c.1 (measured a q.1))

-- and their text
pub written_text : {ps : List Piece} {p : Cost} → Writes ps p → IsUtf8 (text_of ps)
written_text Writes.none = IsUtf8-nil
written_text (Writes.plain {w = w} h) = subst IsUtf8 (sym (append-nil w)) h.text
written_text Writes.blank = ascii_text (codes " ") refl
written_text Writes.comma = ascii_text (codes ",") refl
written_text (Writes.then {ps = ps} {qs = qs} a b) = subst IsUtf8 (sym (text_of_append ps qs)) (IsUtf8-append (text_of ps) (text_of qs) (written_text a) (written_text b))
written_text (Writes.group {ps = ps} a) =
    IsUtf8-append (codes "(") (text_of (ps ++ spelled (codes ")"))) (ascii_text (codes "(") refl)
    (subst IsUtf8 (sym (text_of_append ps (spelled (codes ")")))) (IsUtf8-append (text_of ps) (codes ")") (written_text a) (ascii_text (codes ")") refl)))

-- ---- pieces that cost no more than the tokens that were read

-- at one level, with so many commas of it
pub record Covered (ps : List Piece) (commas : ℕ) (xs ys : List Fine) : Type 0 where
  pub written : Cost
  pub read : Cost
  pub writes : Writes ps written
  pub measures : Measures fine_role xs ys read
  pub written_commas : written.commas ≡ commas
  pub read_commas : read.commas ≡ commas
  pub nesting : written.nesting ≤ read.nesting
  pub arity : written.arity ≤ read.arity

max_at_most : (a b c d : ℕ) → a ≤ c → b ≤ d → max a b ≤ max c d
max_at_most a b c d h i = grind arith

sum_is : (a b c d : ℕ) → a ≡ c → b ≡ d → a + b ≡ c + d
sum_is a b c d e f = rw (e, f) refl

pub covered_then : {ps qs : List Piece} {c d : ℕ} {xs ys zs : List Fine} → Covered ps c xs ys → Covered qs d ys zs → Covered (ps ++ qs) (c + d) xs zs
covered_then {c = c} {d = d} a b = record {
  written = both a.written b.written;
  read = both a.read b.read;
  writes = Writes.then a.writes b.writes;
  measures = Measures.then a.measures b.measures;
  written_commas = sum_is a.written.commas b.written.commas c d a.written_commas b.written_commas;
  read_commas = sum_is a.read.commas b.read.commas c d a.read_commas b.read_commas;
  nesting = max_at_most a.written.nesting b.written.nesting a.read.nesting b.read.nesting a.nesting b.nesting;
  arity = max_at_most a.written.arity b.written.arity a.read.arity b.read.arity a.arity b.arity;
}

pub covered_nothing : {xs : List Fine} → Covered [] 0 xs xs
covered_nothing = record { written = nothing; read = nothing; writes = Writes.none; measures = Measures.none; written_commas = refl; read_commas = refl; nesting = omega arith; arity = omega arith }

pub covered_word : {w : List ℕ} {x : Fine} {xs : List Fine} → IsPlain w → is_plain (role_of x.token.terminal) ≡ true → Covered (spelled w) 0 (x ∷ xs) xs
covered_word h i = record { written = nothing; read = nothing; writes = Writes.plain h; measures = Measures.plain i; written_commas = refl; read_commas = refl; nesting = omega arith; arity = omega arith }

one_blank : {xs : List Fine} → Covered (Blank ∷ []) 0 xs xs
one_blank = record { written = nothing; read = nothing; writes = Writes.blank; measures = Measures.none; written_commas = refl; read_commas = refl; nesting = omega arith; arity = omega arith }

pub covered_spaced : {w : List ℕ} {x : Fine} {xs : List Fine} → IsPlain w → is_plain (role_of x.token.terminal) ≡ true → Covered (spaced w) 0 (x ∷ xs) xs
covered_spaced h i = covered_then one_blank (covered_then (covered_word h i) one_blank)

pub covered_spaced_behind : {w : List ℕ} {x : Fine} {xs : List Fine} → IsPlain w → is_plain (role_of x.token.terminal) ≡ true → Covered (spaced_behind w) 0 (x ∷ xs) xs
covered_spaced_behind h i = covered_then (covered_word h i) one_blank

pub covered_comma : {x : Fine} {xs : List Fine} → role_of x.token.terminal ≡ Comma → Covered (spaced_behind (codes ",")) 1 (x ∷ xs) xs
covered_comma e = covered_then (record { written = one_comma; read = one_comma; writes = Writes.comma; measures = Measures.comma e; written_commas = refl; read_commas = refl; nesting = omega arith; arity = omega arith }) one_blank

one_more : (a b : ℕ) → a ≤ b → a + 1 ≤ b + 1
one_more a b h = omega (arith, h)

same_at_most : (a b c : ℕ) → a ≡ c → b ≡ c → a ≤ b
same_at_most a b c e f = omega (arith, e, f)

pub covered_group : {ps : List Piece} {c : ℕ} {x y : Fine} {xs ys : List Fine} → role_of x.token.terminal ≡ Open → role_of y.token.terminal ≡ Close → Covered ps c xs (y ∷ ys) → Covered (in_parentheses ps) 0 (x ∷ xs) ys
covered_group {c = c} e f a = record {
  written = grouped a.written;
  read = grouped a.read;
  writes = Writes.group a.writes;
  measures = Measures.group e f a.measures;
  written_commas = refl;
  read_commas = refl;
  nesting = one_more a.written.nesting a.read.nesting a.nesting;
  arity = max_at_most a.written.arity a.written.commas a.read.arity a.read.commas a.arity (same_at_most a.written.commas a.read.commas c a.written_commas a.read_commas);
}

-- ---- at a level of binding

-- what binds less closely than the level stands in parentheses that were read as well
pub record CoveredAt (level : ℕ) (w : Written) (xs ys : List Fine) : Type 0 where
  pub written : Cost
  pub read : Cost
  pub writes : Writes w.pieces written
  pub measures : Measures fine_role xs ys read
  pub written_commas : written.commas ≡ 0
  pub read_commas : read.commas ≡ 0
  pub nesting : written.nesting ≤ read.nesting
  pub arity : written.arity ≤ read.arity
  pub deeper : nat_le level w.level ≡ false → written.nesting + 1 ≤ read.nesting

-- a level that binds as closely
pub covered_at : (n : ℕ) (w : Written) {xs ys : List Fine} → nat_le n w.level ≡ true → Covered w.pieces 0 xs ys → CoveredAt n w xs ys
covered_at n w e a = record { written = a.written; read = a.read; writes = a.writes; measures = a.measures; written_commas = a.written_commas; read_commas = a.read_commas; nesting = a.nesting; arity = a.arity; deeper = λ f. absurd (let g : true ≡ false = sym e ∙ f in cc) }

no_commas_more : (a b : ℕ) → a ≡ 0 → max b a ≡ b
no_commas_more a b e = grind arith

pub placed_covered : (n : ℕ) {w : Written} {xs ys : List Fine} → CoveredAt n w xs ys → Covered (at_least n w) 0 xs ys
placed_covered n {w = w} {xs = xs} {ys = ys} a = choose (nat_le n w.level) refl
  where
    choose : (b : Bool) → nat_le n w.level ≡ b → Covered (cond b w.pieces (in_parentheses w.pieces)) 0 xs ys
    choose true e = record { written = a.written; read = a.read; writes = a.writes; measures = a.measures; written_commas = a.written_commas; read_commas = a.read_commas; nesting = a.nesting; arity = a.arity }
    choose false e = record { written = grouped a.written; read = a.read; writes = Writes.group a.writes; measures = a.measures; written_commas = refl; read_commas = a.read_commas; nesting = a.deeper e; arity = subst (λ k. k ≤ a.read.arity) (sym (no_commas_more a.written.commas a.written.arity a.written_commas)) a.arity }

in_more : (a b : ℕ) → a ≤ b → a ≤ b + 1
in_more a b h = omega (arith, h)

in_max : (a b c : ℕ) → a ≤ b → a ≤ max b c
in_max a b c h = grind arith

-- in parentheses at any level
pub group_covered : (n : ℕ) {m : ℕ} {w : Written} {x y : Fine} {xs ys : List Fine} → role_of x.token.terminal ≡ Open → role_of y.token.terminal ≡ Close → CoveredAt m w xs (y ∷ ys) → CoveredAt n w (x ∷ xs) ys
group_covered n e f a = record {
  written = a.written;
  read = grouped a.read;
  writes = a.writes;
  measures = Measures.group e f a.measures;
  written_commas = a.written_commas;
  read_commas = refl;
  nesting = in_more a.written.nesting a.read.nesting a.nesting;
  arity = in_max a.written.arity a.read.arity a.read.commas a.arity;
  deeper = λ g. one_more a.written.nesting a.read.nesting a.nesting;
}

-- at a level that binds less closely
pub looser_covered : (m n : ℕ) {w : Written} {xs ys : List Fine} → ((k : ℕ) → nat_le m k ≡ false → nat_le n k ≡ false) → CoveredAt n w xs ys → CoveredAt m w xs ys
looser_covered m n {w = w} h a = record { written = a.written; read = a.read; writes = a.writes; measures = a.measures; written_commas = a.written_commas; read_commas = a.read_commas; nesting = a.nesting; arity = a.arity; deeper = λ f. a.deeper (h w.level f) }

-- with tokens behind it of which nothing is written at the level
pub covered_behind : {n : ℕ} {w : Written} {ps : List Piece} {xs ms ys : List Fine} → CoveredAt n w xs ms → Covered ps 0 ms ys → CoveredAt n w xs ys
covered_behind a b = record {
  written = a.written;
  read = both a.read b.read;
  writes = a.writes;
  measures = Measures.then a.measures b.measures;
  written_commas = a.written_commas;
  read_commas = sum_is a.read.commas b.read.commas 0 0 a.read_commas b.read_commas;
  nesting = in_max a.written.nesting a.read.nesting b.read.nesting a.nesting;
  arity = in_max a.written.arity a.read.arity b.read.arity a.arity;
  deeper = λ e. in_max (a.written.nesting + 1) a.read.nesting b.read.nesting (a.deeper e);
}

-- ---- outside of all parentheses, where commas do not count

pub record Loose (ps : List Piece) (xs ys : List Fine) : Type 0 where
  pub written : Cost
  pub read : Cost
  pub writes : Writes ps written
  pub measures : Measures fine_role xs ys read
  pub nesting : written.nesting ≤ read.nesting
  pub arity : written.arity ≤ read.arity

pub loose : {ps : List Piece} {c : ℕ} {xs ys : List Fine} → Covered ps c xs ys → Loose ps xs ys
loose a = record { written = a.written; read = a.read; writes = a.writes; measures = a.measures; nesting = a.nesting; arity = a.arity }

pub loose_then : {ps qs : List Piece} {xs ys zs : List Fine} → Loose ps xs ys → Loose qs ys zs → Loose (ps ++ qs) xs zs
loose_then a b = record {
  written = both a.written b.written;
  read = both a.read b.read;
  writes = Writes.then a.writes b.writes;
  measures = Measures.then a.measures b.measures;
  nesting = max_at_most a.written.nesting b.written.nesting a.read.nesting b.read.nesting a.nesting b.nesting;
  arity = max_at_most a.written.arity b.written.arity a.read.arity b.read.arity a.arity b.arity;
}

-- a sign is written where one was read, where another was read, or where none was
pub loose_sign : {ps : List Piece} {c d : ℕ} {xs ys : List Fine} → Writes ps (record { nesting = 0; commas = c; arity = 0 }) → Measures fine_role xs ys (record { nesting = 0; commas = d; arity = 0 }) → Loose ps xs ys
loose_sign w m = record { written = _; read = _; writes = w; measures = m; nesting = omega arith; arity = omega arith }

pub loose_nothing : {xs : List Fine} → Loose [] xs xs
loose_nothing = loose covered_nothing

pub loose_word : {w : List ℕ} {x : Fine} {xs : List Fine} → IsPlain w → is_plain (role_of x.token.terminal) ≡ true → Loose (spelled w) (x ∷ xs) xs
loose_word h i = loose (covered_word h i)

pub loose_spaced : {w : List ℕ} {x : Fine} {xs : List Fine} → IsPlain w → is_plain (role_of x.token.terminal) ≡ true → Loose (spaced w) (x ∷ xs) xs
loose_spaced h i = loose (covered_spaced h i)

pub loose_spaced_behind : {w : List ℕ} {x : Fine} {xs : List Fine} → IsPlain w → is_plain (role_of x.token.terminal) ≡ true → Loose (spaced_behind w) (x ∷ xs) xs
loose_spaced_behind h i = loose (covered_spaced_behind h i)

pub loose_as : {ps qs : List Piece} {xs ys : List Fine} → qs ≡ ps → Loose ps xs ys → Loose qs xs ys
loose_as {xs = xs} {ys = ys} e a = subst (λ ps. Loose ps xs ys) (sym e) a
