-- What is written of statements costs no more than their tokens.
use Rattle.std.proofs.Common.{◌≡◌, Bool, true, false, List, [], ◌∷◌, ◌++◌, None, refl, sym, ap, subst, ◌∙◌, inl, inr}
use Rattle.std.specs.Prelude.{codes}
use Rattle.std.proofs.lemmas.List.{append-nil}
use Rattle.grammar.specs.Form.{◌∣◌}
use Rattle.grammar.specs.Form.Form.{Call, Star}
use Rattle.grammar.proofs.Interpret.{Reads}
use Rattle.ap_syntax.specs.declared.terms.Term.{Term}
use Rattle.ap_syntax.specs.declared.terms.Term.TheVariants as terms
use Rattle.ap_syntax.specs.declared.preferences.Element.{Element}
use Rattle.ap_syntax.specs.declared.programs.Statement.{Statement}
use Rattle.ap_syntax.specs.declared.programs.Statement.TheVariants as statements
use Rattle.ap_syntax.specs.CanonicalTerms.{Written, at_least, term_pieces}
use Rattle.ap_syntax.specs.CanonicalPreferences.{element_pieces}
use Rattle.ap_syntax.specs.Canonical.{signature_pieces}
use Rattle.ap_grammar.specs.declared.terminals.Terminal.TheVariants as t
use Rattle.ap_grammar.specs.Lexemes.{Lexeme, string_of}
use Rattle.ap_grammar.specs.Lexemes as lexemes
use Rattle.ap_grammar.specs.Values.{Value, as_element, collected}
use Rattle.ap_grammar.specs.Values.Value.{kind, program, statement, term, token}
use Rattle.ap_grammar.specs.Grammar.{Name, constant, made, rule_of, statements_of}
use Rattle.ap_lexemes.specs.Limits.{role_of}
use Rattle.canonical_law.proofs.Signs as sign
use Rattle.canonical_law.proofs.Names.{IsNameKind}
use Rattle.canonical_law.proofs.Lists.{collected-append}
use Rattle.canonical_law.proofs.TypeNames.{nested_pieces, plain_pieces}
use Rattle.canonical_law.proofs.Costs.{Covered, ascii_word, IsPlain, Loose, covered_comma, covered_group, covered_then, loose, loose_as, loose_spaced, loose_spaced_behind, loose_then, loose_word}
use Rattle.canonical_law.proofs.Fine.{Fine, close_bytes, number_of_token, open_bytes}
use Rattle.canonical_law.proofs.Covers.{Covers, CoversName, CoversProgram, CoversStatement, Has, Lines}
use Rattle.canonical_law.proofs.CoverTerms.{covered_name, plain_minus, plain_number, plain_string, plain_token}
use Rattle.canonical_law.proofs.WrittenTerms.{const_written, int_written, negative_written, str_written}
use Rattle.canonical_law.proofs.CoverRules.{InBraces, braces_cover}

-- ---- plain words

plain_slash : IsPlain (codes "/")
plain_slash = ascii_word refl (λ x i. plain_token (sign.slash_is i) refl)

plain_equal : IsPlain (codes "=")
plain_equal = ascii_word refl (λ x i. plain_token (sign.equal_is i) refl)

plain_const : IsPlain (codes "#const")
plain_const = ascii_word refl (λ x i. plain_token (sign.const_is i) refl)

plain_show : IsPlain (codes "#show")
plain_show = ascii_word refl (λ x i. plain_token (sign.show_is i) refl)

plain_defined : IsPlain (codes "#defined")
plain_defined = ascii_word refl (λ x i. plain_token (sign.defined_is i) refl)

plain_program : IsPlain (codes "#program")
plain_program = ascii_word refl (λ x i. plain_token (sign.program_is i) refl)

plain_base : IsPlain (codes "base")
plain_base = ascii_word refl (λ x i. plain_token (sign.base_is i) refl)

plain_preference : IsPlain (codes "preference")
plain_preference = ascii_word refl (λ x i. plain_token (sign.preference_is i) refl)

plain_statement : IsPlain (codes "#preference")
plain_statement = ascii_word refl (λ x i. plain_token (sign.preference_statement_is i) refl)

plain_optimize : IsPlain (codes "#optimize")
plain_optimize = ascii_word refl (λ x i. plain_token (sign.optimize_is i) refl)

-- ---- types

plain_kind : {xs ys : List Fine} (v : Value) → CoversName xs ys v → Covers Name.Kind xs ys (made Name.Kind (v ∷ []))
plain_kind {xs = xs} {ys = ys} v m = rw m.is (m.begins.token.bytes, refl, subst (λ ps. Covered ps 0 xs ys) (sym (plain_pieces m.begins.token.bytes m.good.passes)) (covered_name m))

nested_kind : {xs ms ys : List Fine} (v w : Value) (p c : Fine) → CoversName xs (p ∷ ms) v → CoversName ms (c ∷ ys) w → p.token.terminal ≡ t.Open → c.token.terminal ≡ t.Close → Covers Name.Kind xs ys (made Name.Kind (v ∷ token p.token ∷ w ∷ token c.token ∷ []))
nested_kind {xs = xs} {ys = ys} v w p c m n e f = rw (m.is, n.is) (
  m.begins.token.bytes ++ (40 ∷ (n.begins.token.bytes ++ 41 ∷ [])),
  ap (λ b. kind (m.begins.token.bytes ++ (b ++ (n.begins.token.bytes ++ c.token.bytes)))) (open_bytes p e) ∙ ap (λ b. kind (m.begins.token.bytes ++ (40 ∷ (n.begins.token.bytes ++ b)))) (close_bytes c f),
  subst (λ ps. Covered ps 0 xs ys) (sym (nested_pieces m.begins.token.bytes n.begins.token.bytes m.good.passes)) (covered_then (covered_name m) (covered_group (ap role_of e) (ap role_of f) (covered_name n))),
)

pub kind_covers : {xs ys : List Fine} {vs : List Value} → Has (rule_of Name.Kind) xs ys vs → Covers Name.Kind xs ys (made Name.Kind vs)
kind_covers (Reads.seq (Reads.call {v = v} m) (Reads.right Reads.empty)) = plain_kind v m
kind_covers (Reads.seq (Reads.call {v = v} m) (Reads.left (Reads.seq (Reads.tok {t = p} e) (Reads.seq (Reads.call {v = w} n) (Reads.tok {t = c} f))))) = nested_kind v w p c m n e f

-- ---- constants and signatures

as_written : (x : Term) {w : Written} {xs ys : List Fine} → Rattle.ap_syntax.specs.CanonicalTerms.written x ≡ w → Loose (at_least 0 w) xs ys → Loose (term_pieces x) xs ys
as_written x e a = loose_as (ap (at_least 0) e) a

by_kind : (x : Lexeme) → IsNameKind x.terminal → constant x.terminal x [] ≡ term x None (terms.Const x.bytes)
by_kind x (inl e) = ap (λ k. constant k x []) e
by_kind x (inr (inl e)) = ap (λ k. constant k x []) e
by_kind x (inr (inr e)) = ap (λ k. constant k x []) e

named_constant : {xs ys : List Fine} (v : Value) → CoversName xs ys v → Covers Name.Constant xs ys (made Name.Constant (v ∷ []))
named_constant v m = rw m.is (m.begins.token, _, by_kind m.begins.token m.kind, as_written _ (const_written m.begins.token.bytes) (loose (covered_name m)))

pub constant_covers : {xs ys : List Fine} {vs : List Value} → Has (rule_of Name.Constant) xs ys vs → Covers Name.Constant xs ys (made Name.Constant vs)
constant_covers (Reads.left (Reads.seq (Reads.right Reads.empty) (Reads.tok {t = x} e))) = (x.token, _, ap (λ k. constant k x.token []) e, as_written _ (int_written (lexemes.decimal x.token.bytes)) (loose_word (plain_number (number_of_token x e)) (plain_token e refl)))
constant_covers (Reads.left (Reads.seq (Reads.left (Reads.tok {t = m} f)) (Reads.tok {t = x} e))) = (m.token, _, ap (λ k. constant k m.token (token x.token ∷ [])) f, as_written _ (negative_written (lexemes.decimal x.token.bytes)) (loose_then (loose_word plain_minus (plain_token f refl)) (loose_word (plain_number (number_of_token x e)) (plain_token e refl))))
constant_covers (Reads.right (Reads.left (Reads.call {v = v} m))) = named_constant v m
constant_covers (Reads.right (Reads.right (Reads.tok {t = x} e))) = (x.token, _, ap (λ k. constant k x.token []) e, as_written _ (str_written (string_of x.token.bytes)) (loose_word (plain_string x e) (plain_token e refl)))

const_made : {xs ms ys : List Fine} (x : Fine) (v : Value) (k : Fine) (w : Value) (d : Fine) → x.token.terminal ≡ t.Const → k.token.terminal ≡ t.Equal → d.token.terminal ≡ t.Dot → CoversName xs (k ∷ ms) v → Covers Name.Constant ms (d ∷ ys) w → CoversStatement (x ∷ xs) ys (made Name.Const (token x.token ∷ v ∷ token k.token ∷ w ∷ token d.token ∷ []))
const_made x v k w d e f g m c = rw (m.is, c.2) (record { tree = _; is = refl; line = record { front = _; pieces = refl; dot = d; is_dot = g; covered = loose_then (loose_then (loose_then (loose_spaced_behind plain_const (plain_token e refl)) (loose (covered_name m))) (loose_spaced plain_equal (plain_token f refl))) c.3 } })

pub const_covers : {xs ys : List Fine} {vs : List Value} → Has (rule_of Name.Const) xs ys vs → CoversStatement xs ys (made Name.Const vs)
const_covers (Reads.seq (Reads.tok {t = x} a) (Reads.seq (Reads.call {v = v} m) (Reads.seq (Reads.tok {t = k} b) (Reads.seq (Reads.call {v = w} n) (Reads.tok {t = d} c))))) = const_made x v k w d a b c m n

signature_covered : {xs ys : List Fine} {v : Value} (s n : Fine) → (m : CoversName xs (s ∷ n ∷ ys) v) → s.token.terminal ≡ t.Slash → n.token.terminal ≡ t.Number → Loose (signature_pieces m.begins.token.bytes (lexemes.decimal n.token.bytes)) xs ys
signature_covered s n m e f = loose_then (loose_then (loose (covered_name m)) (loose_word plain_slash (plain_token e refl))) (loose_word (plain_number (number_of_token n f)) (plain_token f refl))

show_made : {xs ys : List Fine} (x : Fine) (v : Value) (s n d : Fine) → x.token.terminal ≡ t.Show → s.token.terminal ≡ t.Slash → n.token.terminal ≡ t.Number → d.token.terminal ≡ t.Dot → CoversName xs (s ∷ n ∷ d ∷ ys) v → CoversStatement (x ∷ xs) ys (made Name.Show (token x.token ∷ v ∷ token s.token ∷ token n.token ∷ token d.token ∷ []))
show_made {ys = ys} x v s n d e f g h m = rw m.is (record { tree = _; is = refl; line = record { front = _; pieces = refl; dot = d; is_dot = h; covered = loose_then (loose_spaced_behind plain_show (plain_token e refl)) (signature_covered {ys = d ∷ ys} s n m f g) } })

pub show_covers : {xs ys : List Fine} {vs : List Value} → Has (rule_of Name.Show) xs ys vs → CoversStatement xs ys (made Name.Show vs)
show_covers (Reads.seq (Reads.tok {t = x} a) (Reads.seq (Reads.left (Reads.seq (Reads.call {v = v} m) (Reads.seq (Reads.tok {t = s} b) (Reads.tok {t = n} c)))) (Reads.tok {t = d} e))) = show_made x v s n d a b c e m
show_covers (Reads.seq (Reads.tok {t = x} a) (Reads.seq (Reads.right Reads.empty) (Reads.tok {t = d} e))) = record { tree = _; is = refl; line = record { front = _; pieces = refl; dot = d; is_dot = e; covered = loose_word plain_show (plain_token a refl) } }

defined_made : {xs ys : List Fine} (x : Fine) (v : Value) (s n d : Fine) → x.token.terminal ≡ t.Defined → s.token.terminal ≡ t.Slash → n.token.terminal ≡ t.Number → d.token.terminal ≡ t.Dot → CoversName xs (s ∷ n ∷ d ∷ ys) v → CoversStatement (x ∷ xs) ys (made Name.Defined (token x.token ∷ v ∷ token s.token ∷ token n.token ∷ token d.token ∷ []))
defined_made {ys = ys} x v s n d e f g h m = rw m.is (record { tree = _; is = refl; line = record { front = _; pieces = refl; dot = d; is_dot = h; covered = loose_then (loose_spaced_behind plain_defined (plain_token e refl)) (signature_covered {ys = d ∷ ys} s n m f g) } })

pub defined_covers : {xs ys : List Fine} {vs : List Value} → Has (rule_of Name.Defined) xs ys vs → CoversStatement xs ys (made Name.Defined vs)
defined_covers (Reads.seq (Reads.tok {t = x} a) (Reads.seq (Reads.call {v = v} m) (Reads.seq (Reads.tok {t = s} b) (Reads.seq (Reads.tok {t = n} c) (Reads.tok {t = d} e))))) = defined_made x v s n d a b c e m

-- ---- preference statements

abbrev InElements : List Fine → List Fine → List Value → Type 0
InElements xs ys vs = InBraces (λ (u : Unit {0}) (e : Element). Value.element e) as_element element_pieces Name.Element (λ xs ys v s. s) (λ x. refl) (λ x. refl) xs ys vs

-- the elements before the dot
elements_are : {xs ys : List Fine} {vs : List Value} (dot : Lexeme) (b : InElements xs ys vs) → collected as_element (vs ++ token dot ∷ []) ≡ b.items
elements_are dot b = rw b.is (collected-append as_element b.rest (token dot ∷ []) ∙ (append-nil (collected as_element b.rest) ∙ b.are))

preference_made : {xs ms ns ys : List Fine} (x p : Fine) (v : Value) (comma : Fine) (w : Value) (c : Fine) (vs : List Value) (d : Fine) → x.token.terminal ≡ t.Statement → p.token.terminal ≡ t.Open → comma.token.terminal ≡ t.Comma → c.token.terminal ≡ t.Close → d.token.terminal ≡ t.Dot
    → CoversName xs (comma ∷ ms) v → Covers Name.Kind ms (c ∷ ns) w → InElements ns (d ∷ ys) vs → CoversStatement (x ∷ p ∷ xs) ys (made Name.Preference (token x.token ∷ token p.token ∷ v ∷ token comma.token ∷ w ∷ token c.token ∷ (vs ++ token d.token ∷ [])))
preference_made x p v comma w c vs d e f g h j m k b = rw (m.is, k.1) (record {
  tree = statements.Preference (record { file = x.token.file; at = x.token.at; name = m.begins.token.bytes; kind = k.0; elements = b.items });
  is = ap (λ es. statement (statements.Preference (record { file = x.token.file; at = x.token.at; name = m.begins.token.bytes; kind = k.0; elements = es }))) (elements_are d.token b);
  line = record {
    front = _;
    pieces = refl;
    dot = d;
    is_dot = j;
    covered = loose_then (loose_then (loose_word plain_statement (plain_token e refl)) (loose (covered_group (ap role_of f) (ap role_of h) (covered_then (covered_then (covered_name m) (covered_comma (ap role_of g))) k.2)))) b.covered;
  };
})

pub preference_covers : {xs ys : List Fine} {vs : List Value} → Has (rule_of Name.Preference) xs ys vs → CoversStatement xs ys (made Name.Preference vs)
preference_covers (Reads.seq (Reads.tok {t = x} a) (Reads.seq (Reads.tok {t = p} b) (Reads.seq (Reads.call {v = v} m) (Reads.seq (Reads.tok {t = comma} d) (Reads.seq (Reads.call {v = w} k) (Reads.seq (Reads.tok {t = c} e) (Reads.seq {us = us} in_them (Reads.tok {t = dot} f)))))))) =
    preference_made x p v comma w c us dot a b d e f m k (braces_cover (λ u e. Value.element e) as_element element_pieces Name.Element (λ xs ys v s. s) (λ x. refl) (λ x. refl) in_them)

optimize_made : {xs ys : List Fine} (x p : Fine) (v : Value) (c d : Fine) → x.token.terminal ≡ t.Optimize → p.token.terminal ≡ t.Open → c.token.terminal ≡ t.Close → d.token.terminal ≡ t.Dot → CoversName xs (c ∷ d ∷ ys) v → CoversStatement (x ∷ p ∷ xs) ys (made Name.Optimize (token x.token ∷ token p.token ∷ v ∷ token c.token ∷ token d.token ∷ []))
optimize_made x p v c d e f g h m = rw m.is (record { tree = _; is = refl; line = record { front = _; pieces = refl; dot = d; is_dot = h; covered = loose_then (loose_word plain_optimize (plain_token e refl)) (loose (covered_group (ap role_of f) (ap role_of g) (covered_name m))) } })

pub optimize_covers : {xs ys : List Fine} {vs : List Value} → Has (rule_of Name.Optimize) xs ys vs → CoversStatement xs ys (made Name.Optimize vs)
optimize_covers (Reads.seq (Reads.tok {t = x} a) (Reads.seq (Reads.tok {t = p} b) (Reads.seq (Reads.call {v = v} m) (Reads.seq (Reads.tok {t = c} e) (Reads.tok {t = d} f))))) = optimize_made x p v c d a b e f m

-- ---- statements

again : {xs ys : List Fine} (whole of_type : Bool) (v : Value) → CoversStatement xs ys v → CoversStatement xs ys (made (Name.Statement whole of_type) (v ∷ []))
again whole of_type v s = rw s.is (record { tree = s.tree; is = refl; line = s.line })

pub statement_covers : {xs ys : List Fine} {vs : List Value} (whole of_type : Bool) → Has (rule_of (Name.Statement whole of_type)) xs ys vs → CoversStatement xs ys (made (Name.Statement whole of_type) vs)
statement_covers false of_type (Reads.left (Reads.call {v = v} m)) = again false of_type v m
statement_covers false of_type (Reads.right (Reads.left (Reads.call {v = v} m))) = again false of_type v m
statement_covers false of_type (Reads.right (Reads.right (Reads.left (Reads.call {v = v} m)))) = again false of_type v m
statement_covers false of_type (Reads.right (Reads.right (Reads.right (Reads.call {v = v} m)))) = again false of_type v m
statement_covers true of_type (Reads.left (Reads.call {v = v} m)) = again true of_type v m
statement_covers true of_type (Reads.right (Reads.left (Reads.call {v = v} m))) = again true of_type v m
statement_covers true of_type (Reads.right (Reads.right (Reads.call {v = v} m))) = again true of_type v m

-- ---- parts

pub base_opening_covers : {xs ys : List Fine} {vs : List Value} → Has (rule_of Name.BaseOpening) xs ys vs → CoversStatement xs ys (made Name.BaseOpening vs)
base_opening_covers (Reads.seq (Reads.tok {t = x} a) (Reads.seq (Reads.tok {t = b} c) (Reads.tok {t = d} e))) = record { tree = _; is = refl; line = record { front = _; pieces = refl; dot = d; is_dot = e; covered = loose_then (loose_spaced_behind plain_program (plain_token a refl)) (loose_word plain_base (plain_token c refl)) } }

type_opening_made : {xs ys : List Fine} (x b p : Fine) (v : Value) (c d : Fine) → x.token.terminal ≡ t.Program → b.token.terminal ≡ t.Preference → p.token.terminal ≡ t.Open → c.token.terminal ≡ t.Close → d.token.terminal ≡ t.Dot → Covers Name.Kind xs (c ∷ d ∷ ys) v → CoversStatement (x ∷ b ∷ p ∷ xs) ys (made Name.TypeOpening (token x.token ∷ token b.token ∷ token p.token ∷ v ∷ token c.token ∷ token d.token ∷ []))
type_opening_made x b p v c d e f g h j k = rw k.1 (record { tree = _; is = refl; line = record { front = _; pieces = refl; dot = d; is_dot = j; covered = loose_then (loose_then (loose_spaced_behind plain_program (plain_token e refl)) (loose_word plain_preference (plain_token f refl))) (loose (covered_group (ap role_of g) (ap role_of h) k.2)) } })

pub type_opening_covers : {xs ys : List Fine} {vs : List Value} → Has (rule_of Name.TypeOpening) xs ys vs → CoversStatement xs ys (made Name.TypeOpening vs)
type_opening_covers (Reads.seq (Reads.tok {t = x} a) (Reads.seq (Reads.tok {t = b} e) (Reads.seq (Reads.tok {t = p} f) (Reads.seq (Reads.call {v = v} m) (Reads.seq (Reads.tok {t = c} g) (Reads.tok {t = d} h)))))) = type_opening_made x b p v c d a e f g h m

-- statements behind each other
record AreStatements (xs ys : List Fine) (vs : List Value) : Type 0 where
  trees : List Statement
  are : (ws : List Value) → statements_of (vs ++ ws) ≡ trees ++ statements_of ws
  lines : Lines trees xs ys

statement_more : {xs ms ys : List Fine} (v : Value) (vs : List Value) → CoversStatement xs ms v → AreStatements ms ys vs → AreStatements xs ys (v ∷ vs)
statement_more v vs s a = record { trees = s.tree ∷ a.trees; are = λ ws. rw s.is (ap (λ ts. s.tree ∷ ts) (a.are ws)); lines = Lines.more s.line a.lines }

statements_cover : {xs ys : List Fine} {vs : List Value} (whole of_type : Bool) → Has (Star (Call (Name.Statement whole of_type))) xs ys vs → AreStatements xs ys vs
statements_cover whole of_type Reads.none = record { trees = []; are = λ ws. refl; lines = Lines.none }
statements_cover whole of_type (Reads.more (Reads.call {v = v} m) rest) = statement_more v _ m (statements_cover whole of_type rest)

section_lines : {xs ys : List Fine} (vs : List Value) → (a : AreStatements xs ys vs) → CoversProgram xs ys (program (statements_of vs))
section_lines vs a = record { trees = a.trees; is = ap program (ap statements_of (sym (append-nil vs)) ∙ (a.are [] ∙ append-nil a.trees)); lines = a.lines }

pub base_section_covers : {xs ys : List Fine} {vs : List Value} (whole : Bool) → Has (rule_of (Name.BaseSection whole)) xs ys vs → CoversProgram xs ys (made (Name.BaseSection whole) vs)
base_section_covers whole (Reads.seq (Reads.call {v = v} o) rest) = section_lines _ (statement_more v _ o (statements_cover whole false rest))

pub type_section_covers : {xs ys : List Fine} {vs : List Value} (whole : Bool) → Has (rule_of (Name.TypeSection whole)) xs ys vs → CoversProgram xs ys (made (Name.TypeSection whole) vs)
type_section_covers whole (Reads.seq (Reads.call {v = v} o) rest) = section_lines _ (statement_more v _ o (statements_cover whole true rest))

-- ---- whole texts

lines_then : {ss ts : List Statement} {xs ys zs : List Fine} → Lines ss xs ys → Lines ts ys zs → Lines (ss ++ ts) xs zs
lines_then Lines.none b = b
lines_then (Lines.more l a) b = Lines.more l (lines_then a b)

record AreSections (xs ys : List Fine) (vs : List Value) : Type 0 where
  trees : List Statement
  are : statements_of vs ≡ trees
  lines : Lines trees xs ys

section_more : {xs ms ys : List Fine} (v : Value) (vs : List Value) → CoversProgram xs ms v → AreSections ms ys vs → AreSections xs ys (v ∷ vs)
section_more v vs s a = record { trees = s.trees ++ a.trees; are = rw s.is (ap (λ ts. s.trees ++ ts) a.are); lines = lines_then s.lines a.lines }

sections_cover : {xs ys : List Fine} {vs : List Value} (whole : Bool) → Has (Star (Call (Name.BaseSection whole) ∣ Call (Name.TypeSection whole))) xs ys vs → AreSections xs ys vs
sections_cover whole Reads.none = record { trees = []; are = refl; lines = Lines.none }
sections_cover whole (Reads.more (Reads.left (Reads.call {v = v} m)) rest) = section_more v _ m (sections_cover whole rest)
sections_cover whole (Reads.more (Reads.right (Reads.call {v = v} m)) rest) = section_more v _ m (sections_cover whole rest)

pub text_covers : {xs ys : List Fine} {vs : List Value} (whole of_type : Bool) → Has (rule_of (Name.Text whole of_type)) xs ys vs → CoversProgram xs ys (made (Name.Text whole of_type) vs)
text_covers whole of_type (Reads.seq {us = us} {vs = vs} m n) = text_made us vs (statements_cover whole of_type m) (sections_cover whole n)
  where
    text_made : {xs ms ys : List Fine} (us vs : List Value) → AreStatements xs ms us → AreSections ms ys vs → CoversProgram xs ys (program (statements_of (us ++ vs)))
    text_made us vs a b = record { trees = a.trees ++ b.trees; is = ap program (a.are vs ∙ ap (λ ts. a.trees ++ ts) b.are); lines = lines_then a.lines b.lines }
