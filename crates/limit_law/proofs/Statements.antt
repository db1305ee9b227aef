-- Statements and texts.
use Rattle.std.proofs.Common.{◌≡◌, Bool, true, false, List, [], ◌∷◌, ◌++◌, refl, sym, ap, subst, ◌∙◌}
use Rattle.std.specs.Prelude.{◌&&◌, flat_map}
use Rattle.std.proofs.lemmas.List.{append-nil}
use Rattle.std.proofs.lemmas.Grind.{flat_map-append}
use Rattle.std.proofs.lemmas.Bool.{and_parts}
use Rattle.grammar.specs.Form.{◌∣◌}
use Rattle.grammar.specs.Form.Form.{Tok, Call, Empty, Seq, Alt, Star, Then}
use Rattle.grammar.proofs.Interpret.{Reads}
use Rattle.ap_grammar.specs.Lexemes.{Lexeme}
use Rattle.ap_grammar.specs.Values.{Value}
use Rattle.ap_grammar.specs.Values.Value.{program, statement}
use Rattle.ap_grammar.specs.Grammar.{Name, Rhs, made, rule_of, statements_of}
use Rattle.ap_lexemes.specs.declared.role.Role.{Role}
use Rattle.ap_lexemes.specs.declared.role.Role.TheVariants as roles
use Rattle.ap_lexemes.specs.Limits.{role_of}
use Rattle.limit_law.specs.Programs.{formulas_of, statement_formulas}
use Rattle.limit_law.proofs.Scanning.{Kept, group, grouped_kept, kept_none, kept_then, kept_token}
use Rattle.limit_law.proofs.Tells.{Whole, kept_alone, whole_dot, whole_none, whole_then}
use Rattle.limit_law.proofs.Scans.{ScansStatement, alone, formulas_in}
use Rattle.limit_law.proofs.Terms.{Has, form_kept, is_open_free, name_kept}

-- ---- statements with no formulas

pub record Plain (v : Value) : Type 0 where
  pub same : alone v ≡ v
  pub none : formulas_in v ≡ []

pub const_plain : (vs : List Value) → Plain (made Name.Const vs)
const_plain (Value.token first ∷ Value.token name ∷ Value.token equal ∷ Value.term other bare x ∷ vs) = record { same = refl; none = refl }
const_plain vs = record { same = refl; none = refl }

pub show_plain : (vs : List Value) → Plain (made Name.Show vs)
show_plain (Value.token first ∷ Value.token name ∷ Value.token slash ∷ Value.token number ∷ vs) = record { same = refl; none = refl }
show_plain (Value.token first ∷ vs) = record { same = refl; none = refl }
show_plain vs = record { same = refl; none = refl }

pub defined_plain : (vs : List Value) → Plain (made Name.Defined vs)
defined_plain (Value.token first ∷ Value.token name ∷ Value.token slash ∷ Value.token number ∷ vs) = record { same = refl; none = refl }
defined_plain vs = record { same = refl; none = refl }

pub rule_plain : (of_type : Bool) (vs : List Value) → Plain (made (Name.Rule of_type) vs)
rule_plain of_type (Value.head first h ∷ vs) = record { same = refl; none = refl }
rule_plain of_type (Value.atom first a ∷ vs) = record { same = refl; none = refl }
rule_plain of_type (Value.token first ∷ vs) = record { same = refl; none = refl }
rule_plain of_type vs = record { same = refl; none = refl }

pub base_plain : (vs : List Value) → Plain (made Name.BaseOpening vs)
base_plain (Value.token first ∷ vs) = record { same = refl; none = refl }
base_plain vs = record { same = refl; none = refl }

pub type_plain : (vs : List Value) → Plain (made Name.TypeOpening vs)
type_plain (Value.token first ∷ Value.token word ∷ Value.token paren ∷ Value.kind name ∷ vs) = record { same = refl; none = refl }
type_plain vs = record { same = refl; none = refl }

pub optimize_plain : (vs : List Value) → Plain (made Name.Optimize vs)
optimize_plain (Value.token first ∷ Value.token paren ∷ Value.token name ∷ vs) = record { same = refl; none = refl }
optimize_plain vs = record { same = refl; none = refl }

-- ---- statements that end with a dot

-- tokens that keep the levels, and a dot
pub record Dotted (xs ys : List Lexeme) : Type 0 where
  pub dot : Lexeme
  pub role : role_of dot.terminal ≡ roles.Dot
  pub kept : Kept true xs (dot ∷ ys)

abbrev is_dot : Role → Bool
is_dot roles.Dot = true
is_dot r = false

dot_role : (r : Role) → is_dot r ≡ true → r ≡ roles.Dot
dot_role roles.Dot h = refl
dot_role r h = cc

abbrev is_dotted : Rhs → Bool
is_dotted (Tok k) = is_dot (role_of k)
is_dotted (Call n) = false
is_dotted Empty = false
is_dotted (Seq a b) = is_open_free true a && is_dotted b
is_dotted (Alt a b) = is_dotted a && is_dotted b
is_dotted (Star a) = false
is_dotted (Then a b) = false

dotted_then : {xs ys zs : List Lexeme} → Kept true xs ys → Dotted ys zs → Dotted xs zs
dotted_then a b = record { dot = b.dot; role = b.role; kept = kept_then a b.kept }

pub dotted : {a : Rhs} {xs ys : List Lexeme} {vs : List Value} → is_dotted a ≡ true → Has a xs ys vs → Dotted xs ys
dotted h (Reads.tok {k = k} {t = x} {ts = xs} e) = record { dot = x; role = ap role_of e ∙ dot_role (role_of k) h; kept = kept_none (x ∷ xs) }
dotted h (Reads.call m) = cc
dotted h Reads.empty = cc
dotted h (Reads.seq {a = a} {b = b} d e) = let p = and_parts (is_open_free true a) (is_dotted b) h in dotted_then (form_kept p.0 d) (dotted p.1 e)
dotted h (Reads.left {a = a} {b = b} d) = dotted (and_parts (is_dotted a) (is_dotted b) h).0 d
dotted h (Reads.right {a = a} {b = b} d) = dotted (and_parts (is_dotted a) (is_dotted b) h).1 d
dotted h Reads.none = cc
dotted h (Reads.more d e) = cc
dotted h (Reads.followed d e) = cc

pub plain_scans : {xs ys : List Lexeme} {v : Value} → Plain v → Dotted xs ys → ScansStatement xs ys v
plain_scans {xs = xs} {ys = ys} p d = record { same = p.same; whole = subst (Whole xs ys) (sym p.none) (whole_dot d.dot (kept_alone d.kept) d.role) }

flat : (x : Lexeme) (xs : List Lexeme) → role_of x.terminal ≡ roles.Other → Kept true (x ∷ xs) xs
flat x xs e = kept_token x xs (rw e refl)

pub type_scans : {xs ys : List Lexeme} {vs : List Value} → Has (rule_of Name.TypeOpening) xs ys vs → ScansStatement xs ys (made Name.TypeOpening vs)
type_scans {vs = vs} (Reads.seq (Reads.tok {t = s} {ts = ss} e) (Reads.seq (Reads.tok {t = n} {ts = ns} f) (Reads.seq (Reads.tok {t = o} g) (Reads.seq (Reads.call k) (Reads.seq (Reads.tok {t = p} h) (Reads.tok {t = d} i)))))) =
    plain_scans (type_plain vs) (record { dot = d; role = ap role_of i; kept = kept_then (flat s ss (ap role_of e)) (kept_then (kept_token n ns (rw f refl)) (grouped_kept (group o p (ap role_of g) k.kept (ap role_of h)))) })

pub optimize_scans : {xs ys : List Lexeme} {vs : List Value} → Has (rule_of Name.Optimize) xs ys vs → ScansStatement xs ys (made Name.Optimize vs)
optimize_scans {vs = vs} (Reads.seq (Reads.tok {t = s} {ts = ss} e) (Reads.seq (Reads.tok {t = o} g) (Reads.seq (Reads.call n) (Reads.seq (Reads.tok {t = p} h) (Reads.tok {t = d} i))))) =
    plain_scans (optimize_plain vs) (record { dot = d; role = ap role_of i; kept = kept_then (flat s ss (ap role_of e)) (grouped_kept (group o p (ap role_of g) (name_kept n) (ap role_of h))) })

-- ---- statements of all kinds

again : (whole of_type : Bool) {xs ys : List Lexeme} {v : Value} → ScansStatement xs ys v → ScansStatement xs ys (made (Name.Statement whole of_type) (v ∷ []))
again whole of_type {xs = xs} {ys = ys} m = subst (ScansStatement xs ys) (sym m.same) m

pub small_statement : {of_type : Bool} {xs ys : List Lexeme} {vs : List Value} → Has (rule_of (Name.Statement false of_type)) xs ys vs → ScansStatement xs ys (made (Name.Statement false of_type) vs)
small_statement {of_type = o} (Reads.left (Reads.call m)) = again false o m
small_statement {of_type = o} (Reads.right (Reads.left (Reads.call m))) = again false o m
small_statement {of_type = o} (Reads.right (Reads.right (Reads.left (Reads.call m)))) = again false o m
small_statement {of_type = o} (Reads.right (Reads.right (Reads.right (Reads.call m)))) = again false o m

pub statement_scans : {of_type : Bool} {xs ys : List Lexeme} {vs : List Value} → Has (rule_of (Name.Statement true of_type)) xs ys vs → ScansStatement xs ys (made (Name.Statement true of_type) vs)
statement_scans {of_type = o} (Reads.left (Reads.call m)) = again true o m
statement_scans {of_type = o} (Reads.right (Reads.left (Reads.call m))) = again true o m
statement_scans {of_type = o} (Reads.right (Reads.right (Reads.call m))) = again true o m

-- ---- sections and texts

of_statements : (vs : List Value) → formulas_of (statements_of vs) ≡ flat_map formulas_in vs
of_statements [] = refl
of_statements (statement s ∷ vs) = ap (λ fs. statement_formulas s ++ fs) (of_statements vs)
of_statements (program ss ∷ vs) = flat_map-append statement_formulas ss (statements_of vs) ∙ ap (λ fs. formulas_of ss ++ fs) (of_statements vs)
of_statements (v ∷ vs) = of_statements vs

wholes_then : {xs ys zs : List Lexeme} (us vs : List Value) → Whole xs ys (flat_map formulas_in us) → Whole ys zs (flat_map formulas_in vs) → Whole xs zs (flat_map formulas_in (us ++ vs))
wholes_then {xs = xs} {zs = zs} us vs a b = subst (Whole xs zs) (sym (flat_map-append formulas_in us vs)) (whole_then a b)

one_whole : {xs ys : List Lexeme} (v : Value) → Whole xs ys (formulas_in v) → Whole xs ys (flat_map formulas_in (v ∷ []))
one_whole {xs = xs} {ys = ys} v a = subst (Whole xs ys) (sym (append-nil (formulas_in v))) a

pub statements_scan : {whole of_type : Bool} {xs ys : List Lexeme} {vs : List Value} → Has (Star (Call (Name.Statement whole of_type))) xs ys vs → Whole xs ys (flat_map formulas_in vs)
statements_scan (Reads.none {xs = xs}) = whole_none xs
statements_scan (Reads.more {vs = vs} (Reads.call {v = v} m) rest) = wholes_then (v ∷ []) vs (one_whole v m.whole) (statements_scan rest)

sections_scan : {whole : Bool} {xs ys : List Lexeme} {vs : List Value} → Has (Star (Call (Name.BaseSection whole) ∣ Call (Name.TypeSection whole))) xs ys vs → Whole xs ys (flat_map formulas_in vs)
sections_scan (Reads.none {xs = xs}) = whole_none xs
sections_scan (Reads.more {vs = vs} (Reads.left (Reads.call {v = v} m)) rest) = wholes_then (v ∷ []) vs (one_whole v m) (sections_scan rest)
sections_scan (Reads.more {vs = vs} (Reads.right (Reads.call {v = v} m)) rest) = wholes_then (v ∷ []) vs (one_whole v m) (sections_scan rest)

all_statements : {xs ys : List Lexeme} (vs : List Value) → Whole xs ys (flat_map formulas_in vs) → Whole xs ys (formulas_of (statements_of vs))
all_statements {xs = xs} {ys = ys} vs a = subst (Whole xs ys) (sym (of_statements vs)) a

pub base_scans : {whole : Bool} {xs ys : List Lexeme} {vs : List Value} → Has (rule_of (Name.BaseSection whole)) xs ys vs → Whole xs ys (formulas_of (statements_of vs))
base_scans (Reads.seq {vs = ws} (Reads.call {v = v} m) rest) = all_statements (v ∷ ws) (wholes_then (v ∷ []) ws (one_whole v m.whole) (statements_scan rest))

pub type_section_scans : {whole : Bool} {xs ys : List Lexeme} {vs : List Value} → Has (rule_of (Name.TypeSection whole)) xs ys vs → Whole xs ys (formulas_of (statements_of vs))
type_section_scans (Reads.seq {vs = ws} (Reads.call {v = v} m) rest) = all_statements (v ∷ ws) (wholes_then (v ∷ []) ws (one_whole v m.whole) (statements_scan rest))

pub text_scans : {whole of_type : Bool} {xs ys : List Lexeme} {vs : List Value} → Has (rule_of (Name.Text whole of_type)) xs ys vs → Whole xs ys (formulas_of (statements_of vs))
text_scans (Reads.seq {us = us} {vs = ws} d e) = all_statements (us ++ ws) (wholes_then us ws (statements_scan d) (sections_scan e))
