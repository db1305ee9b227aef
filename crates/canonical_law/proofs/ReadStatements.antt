-- Statements and texts that are read, read back.
use Rattle.std.proofs.Common.{◌≡◌, Bool, true, false, List, [], ◌∷◌, ◌++◌, None, refl, sym, ap, ◌∙◌, ◌⊎◌, inl, inr, append_assoc}
use Rattle.std.proofs.lemmas.List.{append-nil}
use Rattle.grammar.specs.Form.{◌⨾◌, ◌∣◌}
use Rattle.grammar.specs.Form.Form.{Tok, Call, Star}
use Rattle.grammar.proofs.Interpret.{Reads}
use Rattle.ap_syntax.specs.declared.preferences.Element.{Element}
use Rattle.ap_syntax.specs.declared.programs.PartKind.{PartKind}
use Rattle.ap_syntax.specs.declared.programs.PartKind.TheVariants as parts
use Rattle.ap_syntax.specs.declared.programs.Statement.{Statement}
use Rattle.ap_syntax.specs.declared.programs.Statement.TheVariants as statements
use Rattle.ap_grammar.specs.declared.terminals.Terminal.TheVariants as t
use Rattle.ap_grammar.specs.Lexemes.{Lexeme, decimal}
use Rattle.ap_grammar.specs.Values.{Value, as_element, collected}
use Rattle.ap_grammar.specs.Values.Value.{kind, program, statement, term, token}
use Rattle.ap_grammar.specs.Grammar.{Name, constant, in_braces, made, rule_of, statements_of}
use Rattle.canonical_law.proofs.Numbers.{GoodNumber}
use Rattle.canonical_law.proofs.Lists.{Each}
use Rattle.canonical_law.proofs.Elements.{GoodElement}
use Rattle.canonical_law.proofs.TypeNames.{GoodKind}
use Rattle.canonical_law.proofs.Statements.{GoodConstant, GoodPart, GoodStatement, good_whole}
use Rattle.ap_parse.specs.Openings.{is_of_type}
use Rattle.canonical_law.proofs.Texts.{GoodProgram}
use Rattle.canonical_law.proofs.Fine.{Fine, close_bytes, number_of_token, open_bytes}
use Rattle.canonical_law.proofs.Says.{Has, Says, SaysName, SaysProgram, SaysStatement}

-- ---- types

nested_kind : (v w : Value) (p c : Lexeme) → SaysName v → SaysName w → p.bytes ≡ 40 ∷ [] → c.bytes ≡ 41 ∷ [] → Says Name.Kind (made Name.Kind (v ∷ token p ∷ w ∷ token c ∷ []))
nested_kind v w p c m n e f = rw (m.is, n.is) (m.token_is.bytes ++ (40 ∷ (n.token_is.bytes ++ 41 ∷ [])), ap (λ b. kind (m.token_is.bytes ++ (b ++ (n.token_is.bytes ++ c.bytes)))) e ∙ ap (λ b. kind (m.token_is.bytes ++ (40 ∷ (n.token_is.bytes ++ b)))) f, GoodKind.nested m.good n.good)

pub kind_says : {xs ys : List Fine} {vs : List Value} → Has (rule_of Name.Kind) xs ys vs → Says Name.Kind (made Name.Kind vs)
kind_says (Reads.seq (Reads.call {v = v} m) (Reads.right Reads.empty)) = rw m.is (m.token_is.bytes, refl, GoodKind.plain m.good)
kind_says (Reads.seq (Reads.call {v = v} m) (Reads.left (Reads.seq (Reads.tok {t = p} e) (Reads.seq (Reads.call {v = w} n) (Reads.tok {t = c} f))))) = nested_kind v w p.token c.token m n (open_bytes p e) (close_bytes c f)

-- ---- constants and signatures

pub constant_says : {xs ys : List Fine} {vs : List Value} → Has (rule_of Name.Constant) xs ys vs → Says Name.Constant (made Name.Constant vs)
constant_says (Reads.left (Reads.seq (Reads.right Reads.empty) (Reads.tok {t = x} e))) = (x.token, _, ap (λ k. constant k x.token []) e, GoodConstant.number (number_of_token x e))
constant_says (Reads.left (Reads.seq (Reads.left (Reads.tok {t = m} f)) (Reads.tok {t = x} e))) = (m.token, _, ap (λ k. constant k m.token (token x.token ∷ [])) f, GoodConstant.minus (number_of_token x e))
constant_says (Reads.right (Reads.left (Reads.call {v = v} m))) = named v m
  where
    by_kind : (x : Lexeme) → ((x.terminal ≡ t.Word) ⊎ ((x.terminal ≡ t.Base) ⊎ (x.terminal ≡ t.Preference))) → constant x.terminal x [] ≡ term x None (Rattle.ap_syntax.specs.declared.terms.Term.TheVariants.Const x.bytes)
    by_kind x (inl e) = ap (λ k. constant k x []) e
    by_kind x (inr (inl e)) = ap (λ k. constant k x []) e
    by_kind x (inr (inr e)) = ap (λ k. constant k x []) e

    named : (v : Value) → SaysName v → Says Name.Constant (made Name.Constant (v ∷ []))
    named v m = rw m.is (m.token_is, _, by_kind m.token_is m.kind, GoodConstant.name m.good)
constant_says (Reads.right (Reads.right (Reads.tok {t = x} e))) = (x.token, _, ap (λ k. constant k x.token []) e, GoodConstant.string)

const_made : (x : Lexeme) (v : Value) (e : Lexeme) (w : Value) (d : Lexeme) → SaysName v → Says Name.Constant w → Says Name.Const (made Name.Const (token x ∷ v ∷ token e ∷ w ∷ token d ∷ []))
const_made x v e w d m c whole of_type = rw (m.is, c.2) (record { tree = _; is = refl; good = GoodStatement.const m.good c.3 })

pub const_says : {xs ys : List Fine} {vs : List Value} → Has (rule_of Name.Const) xs ys vs → Says Name.Const (made Name.Const vs)
const_says (Reads.seq (Reads.tok {t = x} a) (Reads.seq (Reads.call {v = v} m) (Reads.seq (Reads.tok {t = e} b) (Reads.seq (Reads.call {v = w} n) (Reads.tok {t = d} c))))) = const_made x.token v e.token w d.token m n

show_made : (x : Lexeme) (v : Value) (s n d : Lexeme) → SaysName v → GoodNumber (decimal n.bytes) → Says Name.Show (made Name.Show (token x ∷ v ∷ token s ∷ token n ∷ token d ∷ []))
show_made x v s n d m h whole of_type = rw m.is (record { tree = _; is = refl; good = GoodStatement.show m.good h })

pub show_says : {xs ys : List Fine} {vs : List Value} → Has (rule_of Name.Show) xs ys vs → Says Name.Show (made Name.Show vs)
show_says (Reads.seq (Reads.tok {t = x} a) (Reads.seq (Reads.left (Reads.seq (Reads.call {v = v} m) (Reads.seq (Reads.tok {t = s} b) (Reads.tok {t = n} c)))) (Reads.tok {t = d} e))) = show_made x.token v s.token n.token d.token m (number_of_token n c)
show_says (Reads.seq (Reads.tok {t = x} a) (Reads.seq (Reads.right Reads.empty) (Reads.tok {t = d} e))) = λ whole of_type. record { tree = _; is = refl; good = GoodStatement.show_none }

defined_made : (x : Lexeme) (v : Value) (s n d : Lexeme) → SaysName v → GoodNumber (decimal n.bytes) → Says Name.Defined (made Name.Defined (token x ∷ v ∷ token s ∷ token n ∷ token d ∷ []))
defined_made x v s n d m h whole of_type = rw m.is (record { tree = _; is = refl; good = GoodStatement.defined m.good h })

pub defined_says : {xs ys : List Fine} {vs : List Value} → Has (rule_of Name.Defined) xs ys vs → Says Name.Defined (made Name.Defined vs)
defined_says (Reads.seq (Reads.tok {t = x} a) (Reads.seq (Reads.call {v = v} m) (Reads.seq (Reads.tok {t = s} b) (Reads.seq (Reads.tok {t = n} c) (Reads.tok {t = d} e))))) = defined_made x.token v s.token n.token d.token m (number_of_token n c)

-- ---- preference statements

record AreElements (vs : List Value) : Type 0 where
  elements : List Element
  are : collected as_element vs ≡ elements
  good : Each GoodElement elements

element_more : (v : Value) (vs : List Value) → Says Name.Element v → AreElements vs → AreElements (v ∷ vs)
element_more v vs s a = record { elements = s.0 ∷ a.elements; are = rw s.1 (ap (λ es. s.0 ∷ es) a.are); good = Each.more s.2 a.good }

token_more : (x : Lexeme) (vs : List Value) → AreElements vs → AreElements (token x ∷ vs)
token_more x vs a = record { elements = a.elements; are = a.are; good = a.good }

elements_behind : {xs ys : List Fine} {vs : List Value} (ws : List Value) → AreElements ws → Has (Star (Tok t.Semicolon ⨾ Call Name.Element)) xs ys vs → AreElements (vs ++ ws)
elements_behind ws a Reads.none = a
elements_behind ws a (Reads.more (Reads.seq (Reads.tok {t = c} e) (Reads.call {v = v} m)) rest) = token_more c.token _ (element_more v _ m (elements_behind ws a rest))

-- the elements in braces, before the dot
in_braces_say : {xs ys : List Fine} {vs : List Value} (dot : Lexeme) → Has (in_braces Name.Element) xs ys vs → AreElements (vs ++ token dot ∷ [])
in_braces_say dot (Reads.seq (Reads.tok {t = o} e) (Reads.seq (Reads.right Reads.empty) (Reads.tok {t = c} f))) = record { elements = []; are = refl; good = Each.none }
in_braces_say dot (Reads.seq (Reads.tok {t = o} e) (Reads.seq (Reads.left (Reads.seq {vs = us} (Reads.call {v = v} m) rest)) (Reads.tok {t = c} f))) = token_more o.token _ (element_more v _ m (let a = elements_behind (token c.token ∷ token dot ∷ []) (record { elements = []; are = refl; good = Each.none }) rest in rw (sym (append_assoc us (token c.token ∷ []) (token dot ∷ []))) at a))

preference_made : (x p : Lexeme) (v : Value) (comma : Lexeme) (w : Value) (c : Lexeme) (vs : List Value) → SaysName v → Says Name.Kind w → AreElements vs → Says Name.Preference (made Name.Preference (token x ∷ token p ∷ v ∷ token comma ∷ w ∷ token c ∷ vs))
preference_made x p v comma w c vs m k a of_type = rw (m.is, k.1) (record { tree = _; is = ap (λ es. statement (statements.Preference (record { file = x.file; at = x.at; name = m.token_is.bytes; kind = k.0; elements = es }))) a.are; good = GoodStatement.preference m.good k.2 a.good })

pub preference_says : {xs ys : List Fine} {vs : List Value} → Has (rule_of Name.Preference) xs ys vs → Says Name.Preference (made Name.Preference vs)
preference_says (Reads.seq (Reads.tok {t = x} a) (Reads.seq (Reads.tok {t = p} b) (Reads.seq (Reads.call {v = v} m) (Reads.seq (Reads.tok {t = comma} d) (Reads.seq (Reads.call {v = w} k) (Reads.seq (Reads.tok {t = c} e) (Reads.seq braces (Reads.tok {t = dot} f)))))))) = preference_made x.token p.token v comma.token w c.token _ m k (in_braces_say dot.token braces)

optimize_made : (x p : Lexeme) (v : Value) (c d : Lexeme) → SaysName v → Says Name.Optimize (made Name.Optimize (token x ∷ token p ∷ v ∷ token c ∷ token d ∷ []))
optimize_made x p v c d m of_type = rw m.is (record { tree = _; is = refl; good = GoodStatement.optimize m.good })

pub optimize_says : {xs ys : List Fine} {vs : List Value} → Has (rule_of Name.Optimize) xs ys vs → Says Name.Optimize (made Name.Optimize vs)
optimize_says (Reads.seq (Reads.tok {t = x} a) (Reads.seq (Reads.tok {t = p} b) (Reads.seq (Reads.call {v = v} m) (Reads.seq (Reads.tok {t = c} e) (Reads.tok {t = d} f))))) = optimize_made x.token p.token v c.token d.token m

-- ---- statements

of_rule : (of_type : Bool) (v : Value) → Says (Name.Rule of_type) v → SaysStatement false of_type (made (Name.Statement false of_type) (v ∷ []))
of_rule of_type v r = rw r.1 (record { tree = _; is = refl; good = GoodStatement.rule r.2 })

of_small : (of_type : Bool) (v : Value) → SaysStatement false of_type v → SaysStatement false of_type (made (Name.Statement false of_type) (v ∷ []))
of_small of_type v s = rw s.is (record { tree = s.tree; is = refl; good = s.good })

of_whole : (of_type : Bool) (v : Value) → SaysStatement true of_type v → SaysStatement true of_type (made (Name.Statement true of_type) (v ∷ []))
of_whole of_type v s = rw s.is (record { tree = s.tree; is = refl; good = s.good })

without : {of_type : Bool} {v : Value} → SaysStatement false of_type v → SaysStatement true of_type v
without s = record { tree = s.tree; is = s.is; good = good_whole s.good }

pub statement_says : {xs ys : List Fine} {vs : List Value} (whole of_type : Bool) → Has (rule_of (Name.Statement whole of_type)) xs ys vs → SaysStatement whole of_type (made (Name.Statement whole of_type) vs)
statement_says false of_type (Reads.left (Reads.call {v = v} m)) = of_rule of_type v m
statement_says false of_type (Reads.right (Reads.left (Reads.call {v = v} m))) = of_small of_type v (m false of_type)
statement_says false of_type (Reads.right (Reads.right (Reads.left (Reads.call {v = v} m)))) = of_small of_type v (m false of_type)
statement_says false of_type (Reads.right (Reads.right (Reads.right (Reads.call {v = v} m)))) = of_small of_type v (m false of_type)
statement_says true of_type (Reads.left (Reads.call {v = v} m)) = of_whole of_type v (without m)
statement_says true of_type (Reads.right (Reads.left (Reads.call {v = v} m))) = of_whole of_type v (m of_type)
statement_says true of_type (Reads.right (Reads.right (Reads.call {v = v} m))) = of_whole of_type v (m of_type)

-- ---- parts

pub base_opening_says : {xs ys : List Fine} {vs : List Value} → Has (rule_of Name.BaseOpening) xs ys vs → Says Name.BaseOpening (made Name.BaseOpening vs)
base_opening_says (Reads.seq (Reads.tok {t = x} a) (Reads.seq (Reads.tok {t = b} c) (Reads.tok {t = d} e))) = (x.token.file, x.token.at, refl)

type_opening_made : (x b p : Lexeme) (v : Value) (c d : Lexeme) → Says Name.Kind v → Says Name.TypeOpening (made Name.TypeOpening (token x ∷ token b ∷ token p ∷ v ∷ token c ∷ token d ∷ []))
type_opening_made x b p v c d k = rw k.1 (x.file, x.at, k.0, refl, k.2)

pub type_opening_says : {xs ys : List Fine} {vs : List Value} → Has (rule_of Name.TypeOpening) xs ys vs → Says Name.TypeOpening (made Name.TypeOpening vs)
type_opening_says (Reads.seq (Reads.tok {t = x} a) (Reads.seq (Reads.tok {t = b} e) (Reads.seq (Reads.tok {t = p} f) (Reads.seq (Reads.call {v = v} m) (Reads.seq (Reads.tok {t = c} g) (Reads.tok {t = d} h)))))) = type_opening_made x.token b.token p.token v c.token d.token m

-- statements of one part, before statements that may stand behind any
record AreStatements (whole of_type : Bool) (vs : List Value) : Type 0 where
  trees : List Statement
  are : (ws : List Value) → statements_of (vs ++ ws) ≡ trees ++ statements_of ws
  good : (part : PartKind) → is_of_type part ≡ of_type → (more : List Statement) → GoodProgram whole part more → GoodProgram whole part (trees ++ more)

statement_for : {whole b c : Bool} {s : Statement} → b ≡ c → GoodStatement whole c s → GoodStatement whole b s
statement_for e g = rw (sym e) at g

statement_more : (whole of_type : Bool) (v : Value) (vs : List Value) → SaysStatement whole of_type v → AreStatements whole of_type vs → AreStatements whole of_type (v ∷ vs)
statement_more whole of_type v vs s a = record {
  trees = s.tree ∷ a.trees;
  are = λ ws. rw s.is (ap (λ ts. s.tree ∷ ts) (a.are ws));
  good = λ part e more g. GoodProgram.alone (statement_for e s.good) (a.good part e more g);
}

statements_say : {xs ys : List Fine} {vs : List Value} (whole of_type : Bool) → Has (Star (Call (Name.Statement whole of_type))) xs ys vs → AreStatements whole of_type vs
statements_say whole of_type Reads.none = record { trees = []; are = λ ws. refl; good = λ part e more g. g }
statements_say whole of_type (Reads.more (Reads.call {v = v} m) rest) = statement_more whole of_type v _ m (statements_say whole of_type rest)

base_made : (v : Value) (vs : List Value) (whole : Bool) → Says Name.BaseOpening v → AreStatements whole false vs → SaysProgram whole (made (Name.BaseSection whole) (v ∷ vs))
base_made v vs whole o a = rw o.2 (record {
  trees = statements.Part o.0 o.1 parts.Base ∷ a.trees;
  is = ap (λ ts. program (statements.Part o.0 o.1 parts.Base ∷ ts)) (ap statements_of (sym (append-nil vs)) ∙ (a.are [] ∙ append-nil a.trees));
  good = λ part. GoodProgram.opening GoodPart.in_base (let g = a.good parts.Base refl [] GoodProgram.none in rw (append-nil a.trees) at g);
})

pub base_section_says : {xs ys : List Fine} {vs : List Value} (whole : Bool) → Has (rule_of (Name.BaseSection whole)) xs ys vs → SaysProgram whole (made (Name.BaseSection whole) vs)
base_section_says whole (Reads.seq (Reads.call {v = v} o) rest) = base_made v _ whole o (statements_say whole false rest)

type_made : (v : Value) (vs : List Value) (whole : Bool) → Says Name.TypeOpening v → AreStatements whole true vs → SaysProgram whole (made (Name.TypeSection whole) (v ∷ vs))
type_made v vs whole o a = rw o.3 (record {
  trees = statements.Part o.0 o.1 (parts.Kind o.2) ∷ a.trees;
  is = ap (λ ts. program (statements.Part o.0 o.1 (parts.Kind o.2) ∷ ts)) (ap statements_of (sym (append-nil vs)) ∙ (a.are [] ∙ append-nil a.trees));
  good = λ part. GoodProgram.opening (GoodPart.in_type o.4) (let g = a.good (parts.Kind o.2) refl [] GoodProgram.none in rw (append-nil a.trees) at g);
})

pub type_section_says : {xs ys : List Fine} {vs : List Value} (whole : Bool) → Has (rule_of (Name.TypeSection whole)) xs ys vs → SaysProgram whole (made (Name.TypeSection whole) vs)
type_section_says whole (Reads.seq (Reads.call {v = v} o) rest) = type_made v _ whole o (statements_say whole true rest)

-- ---- whole texts

-- what may stand behind any part
record AreSections (whole : Bool) (vs : List Value) : Type 0 where
  trees : List Statement
  are : statements_of vs ≡ trees
  good : (part : PartKind) → GoodProgram whole part trees

one_more : {whole : Bool} {part : PartKind} {ss ts : List Statement} → GoodProgram whole part ss → ((p : PartKind) → GoodProgram whole p ts) → GoodProgram whole part (ss ++ ts)
one_more {part = part} GoodProgram.none h = h part
one_more (GoodProgram.alone g gs) h = GoodProgram.alone g (one_more gs h)
one_more (GoodProgram.opening g gs) h = GoodProgram.opening g (one_more gs h)

section_more : {whole : Bool} (v : Value) (vs : List Value) → SaysProgram whole v → AreSections whole vs → AreSections whole (v ∷ vs)
section_more v vs s a = record { trees = s.trees ++ a.trees; are = rw s.is (ap (λ ts. s.trees ++ ts) a.are); good = λ part. one_more (s.good part) a.good }

sections_say : {xs ys : List Fine} {vs : List Value} (whole : Bool) → Has (Star (Call (Name.BaseSection whole) ∣ Call (Name.TypeSection whole))) xs ys vs → AreSections whole vs
sections_say whole Reads.none = record { trees = []; are = refl; good = λ part. GoodProgram.none }
sections_say whole (Reads.more (Reads.left (Reads.call {v = v} m)) rest) = section_more v _ m (sections_say whole rest)
sections_say whole (Reads.more (Reads.right (Reads.call {v = v} m)) rest) = section_more v _ m (sections_say whole rest)

text_made : (vs ws : List Value) (whole of_type : Bool) → AreStatements whole of_type vs → AreSections whole ws → Says (Name.Text whole of_type) (made (Name.Text whole of_type) (vs ++ ws))
text_made vs ws whole of_type a b = (a.trees ++ b.trees, ap program (a.are ws ∙ ap (λ ts. a.trees ++ ts) b.are), λ part e. a.good part e b.trees (b.good part))

pub text_says : {xs ys : List Fine} {vs : List Value} (whole of_type : Bool) → Has (rule_of (Name.Text whole of_type)) xs ys vs → Says (Name.Text whole of_type) (made (Name.Text whole of_type) vs)
text_says whole of_type (Reads.seq {us = us} {vs = vs} m n) = text_made us vs whole of_type (statements_say whole of_type m) (sections_say whole n)
