-- From the documented grammar to the factored one: sections, atoms, heads, literals and bodies.
use Rattle.std.proofs.Common.{◌≡◌, ℕ, Bool, true, false, List, [], ◌∷◌, Option, refl, ap}
use Rattle.grammar.specs.Form.{Derives}
use Rattle.grammar.specs.Form.Form.{Call, Star}
use Rattle.grammar.proofs.Interpret.{Reads}
use Rattle.ap_syntax.specs.declared.terms.Atom.{Atom as AtomTree}
use Rattle.ap_syntax.specs.declared.terms.Term.{Term as TermTree}
use Rattle.ap_grammar.specs.Lexemes.{Lexeme}
use Rattle.ap_grammar.specs.Values.{Value}
use Rattle.ap_grammar.specs.Values.Value.{token, atom, term, program}
use Rattle.ap_grammar.specs.Grammar.{Name, rule_of, made, statements_of, primary, named}
use Rattle.ap_grammar.specs.Factored.{Part, factored, call, opened, opening, front, front_made, front_name}
use Rattle.ap_grammar.proofs.Sorts.{Has, Known, name_primary}
use Rattle.ap_grammar.proofs.Known.{all_known}
use Rattle.ap_grammar.proofs.ToDocument.{to_document}
use Rattle.ap_grammar.proofs.ToTexts.{opened_base}
use Rattle.ap_grammar.proofs.ToRanks.{name_value}
use Rattle.ap_grammar.proofs.FromTexts.{Made, Comes, AtomTerm, known_all, factored_all, made_of}

-- what the factored grammar derives is known
pub known_made : {n : Name} {xs ys : List Lexeme} {v : Value} → Made (Part.Of n) xs ys v → Known n xs ys v
known_made d = one (all_known (to_document d))
  where
    one : {n : Name} {xs ys : List Lexeme} {v : Value} → Has (Call n) xs ys (v ∷ []) → Known n xs ys v
    one (Reads.call m) = m

-- ---- sections

base_section : (whole : Bool) {xs ms ys : List Lexeme} {v : Value} {us : List Value} → Made (Part.Of Name.BaseOpening) xs ms v → Has (Star (Call (Name.Statement whole false))) ms ys us → Derives factored (Star (call (Name.Statement whole false))) ms ys us → Made (Part.Section whole) xs ys (program (statements_of (v ∷ us)))
base_section whole (Derives.call (Derives.seq (Derives.tok {t = first} e) (Derives.seq (Derives.tok {t = word} f) (Derives.tok {t = dot} g)))) h d =
    made_of (ap (λ us. program (statements_of us)) (opened_base first word dot h)) (Derives.call (Derives.seq (Derives.tok e) (Derives.left (Derives.seq (Derives.tok f) (Derives.seq (Derives.tok g) d)))))

type_value : (first word paren : Lexeme) (v : Value) (close dot : Lexeme) (us : List Value) (k : List ℕ) → v ≡ Value.kind k → opened (token first ∷ token word ∷ token paren ∷ v ∷ token close ∷ token dot ∷ us) ≡ made Name.TypeOpening (token first ∷ token word ∷ token paren ∷ v ∷ token close ∷ token dot ∷ []) ∷ us
type_value first word paren v close dot us k e = rw e refl

type_section : (whole : Bool) {xs ms ys : List Lexeme} {v : Value} {us : List Value} → Made (Part.Of Name.TypeOpening) xs ms v → Derives factored (Star (call (Name.Statement whole true))) ms ys us → Made (Part.Section whole) xs ys (program (statements_of (v ∷ us)))
type_section whole {us = us} (Derives.call (Derives.seq (Derives.tok {t = first} e) (Derives.seq (Derives.tok {t = word} f) (Derives.seq (Derives.tok {t = paren} g) (Derives.seq (Derives.call m) (Derives.seq (Derives.tok {t = close} h) (Derives.tok {t = dot} i))))))) d =
    let q = (known_made {n = Name.Kind} (Derives.call m)).sort in
    made_of (ap (λ us. program (statements_of us)) (type_value first word paren _ close dot us q.0 q.1)) (Derives.call (Derives.seq (Derives.tok e) (Derives.right (Derives.seq (Derives.tok f) (Derives.seq (Derives.tok g) (Derives.seq (Derives.call m) (Derives.seq (Derives.tok h) (Derives.seq (Derives.tok i) d))))))))

pub base_section_from : (whole : Bool) (xs ys : List Lexeme) (vs : List Value) → Comes (rule_of (Name.BaseSection whole)) xs ys vs → Made (Part.Section whole) xs ys (made (Name.BaseSection whole) vs)
base_section_from whole xs ys vs (Reads.seq (Reads.call m) rest) = base_section whole m.derives (known_all rest) (factored_all rest)

pub type_section_from : (whole : Bool) (xs ys : List Lexeme) (vs : List Value) → Comes (rule_of (Name.TypeSection whole)) xs ys vs → Made (Part.Section whole) xs ys (made (Name.TypeSection whole) vs)
type_section_from whole xs ys vs (Reads.seq (Reads.call m) rest) = type_section whole m.derives (factored_all rest)

pub base_opening_from : (xs ys : List Lexeme) (vs : List Value) → Comes (rule_of Name.BaseOpening) xs ys vs → Made Part.Opening xs ys (made Name.BaseOpening vs)
base_opening_from xs ys vs (Reads.seq (Reads.tok e) (Reads.seq (Reads.tok f) (Reads.tok g))) = Derives.call (Derives.seq (Derives.tok e) (Derives.left (Derives.seq (Derives.tok f) (Derives.seq (Derives.tok g) Derives.empty))))

opening_value : (first word paren : Lexeme) (v : Value) (close dot : Lexeme) (k : List ℕ) → v ≡ Value.kind k → opening (opened (token first ∷ token word ∷ token paren ∷ v ∷ token close ∷ token dot ∷ [])) ≡ made Name.TypeOpening (token first ∷ token word ∷ token paren ∷ v ∷ token close ∷ token dot ∷ [])
opening_value first word paren v close dot k e = rw e refl

pub type_opening_from : (xs ys : List Lexeme) (vs : List Value) → Comes (rule_of Name.TypeOpening) xs ys vs → Made Part.Opening xs ys (made Name.TypeOpening vs)
type_opening_from xs ys vs (Reads.seq (Reads.tok {t = first} e) (Reads.seq (Reads.tok {t = word} f) (Reads.seq (Reads.tok {t = paren} g) (Reads.seq (Reads.call {v = v} m) (Reads.seq (Reads.tok {t = close} h) (Reads.tok {t = dot} i)))))) =
    let q = m.known.sort in
    made_of (opening_value first word paren v close dot q.0 q.1) (Derives.call (Derives.seq (Derives.tok e) (Derives.right (Derives.seq (Derives.tok f) (Derives.seq (Derives.tok g) (Derives.seq m.derives (Derives.seq (Derives.tok h) (Derives.seq (Derives.tok i) Derives.empty))))))))

-- ---- atoms

pub term_of_unary : {xs ys : List Lexeme} {f : Lexeme} {n : Option AtomTree} {x : TermTree} → Made (Part.Of Name.Unary) xs ys (term f n x) → Made (Part.Of Name.Term) xs ys (term f n x)
term_of_unary d = Derives.call (Derives.seq (Derives.call (Derives.seq (Derives.call (Derives.seq d Derives.none)) Derives.none)) (Derives.right Derives.empty))

pub unary_of_primary : {xs ys : List Lexeme} {f : Lexeme} {n : Option AtomTree} {x : TermTree} → Made (Part.Of Name.Primary) xs ys (term f n x) → Made (Part.Of Name.Unary) xs ys (term f n x)
unary_of_primary d = Derives.call (Derives.seq (Derives.right Derives.empty) d)

name_primary_value : (v : Value) (name : Lexeme) (vs : List Value) → v ≡ token name → primary name.terminal name vs ≡ named name vs → made Name.Primary (v ∷ vs) ≡ named name vs
name_primary_value v name vs e h = rw e h

atom_value : (v : Value) (name : Lexeme) → v ≡ token name → made Name.Atom (v ∷ []) ≡ atom name (record { name = name.bytes; terms = [] })
atom_value v name e = rw e refl

applied_value : (v w : Value) (name : Lexeme) (ts : List TermTree) → v ≡ token name → w ≡ Value.terms ts → made Name.Atom (v ∷ w ∷ []) ≡ atom name (record { name = name.bytes; terms = ts })
applied_value v w name ts e f = rw (e, f) refl

applied_primary : (v w : Value) (name : Lexeme) (ts : List TermTree) → v ≡ token name → w ≡ Value.terms ts → primary name.terminal name (Value.terms ts ∷ []) ≡ named name (Value.terms ts ∷ []) → made Name.Primary (v ∷ w ∷ []) ≡ named name (Value.terms ts ∷ [])
applied_primary v w name ts e f h = rw (e, f) h

name_front_value : (v : Value) (name : Lexeme) (vs : List Value) → v ≡ token name → front name.terminal name vs ≡ front_name name vs → front_made (v ∷ vs) ≡ front_name name vs
name_front_value v name vs e h = rw e h

applied_front_value : (v w : Value) (name : Lexeme) (ts : List TermTree) → v ≡ token name → w ≡ Value.terms ts → front name.terminal name (Value.terms ts ∷ []) ≡ front_name name (Value.terms ts ∷ []) → front_made (v ∷ w ∷ []) ≡ front_name name (Value.terms ts ∷ [])
applied_front_value v w name ts e f h = rw (e, f) h

pub atom_from : (xs ys : List Lexeme) (vs : List Value) → Comes (rule_of Name.Atom) xs ys vs → AtomTerm xs ys (made Name.Atom vs)
atom_from xs ys vs (Reads.seq (Reads.call {v = v} m) (Reads.right Reads.empty)) =
    let s = m.known.sort in
    record {
      first = s.name;
      name = _;
      tree = _;
      is = atom_value v s.name s.is;
      derives = term_of_unary (unary_of_primary (made_of (name_primary_value v s.name [] s.is (name_primary s.name [] s.kind_is)) (Derives.call (Derives.right (Derives.right (Derives.right (Derives.right (Derives.right (Derives.seq m.derives (Derives.right Derives.empty))))))))));
      front = made_of (name_front_value v s.name [] s.is (name_value s.name [] s.kind_is)) (Derives.call (Derives.right (Derives.right (Derives.right (Derives.right (Derives.right (Derives.right (Derives.right (Derives.seq m.derives (Derives.right Derives.empty))))))))));
    }
atom_from xs ys vs (Reads.seq (Reads.call {v = v} m) (Reads.left (Reads.call {v = w} n))) =
    let s = m.known.sort in
    let r = n.known.sort in
    record {
      first = s.name;
      name = _;
      tree = _;
      is = applied_value v w s.name r.0 s.is r.1;
      derives = term_of_unary (unary_of_primary (made_of (applied_primary v w s.name r.0 s.is r.1 (name_primary s.name (Value.terms r.0 ∷ []) s.kind_is)) (Derives.call (Derives.right (Derives.right (Derives.right (Derives.right (Derives.right (Derives.seq m.derives (Derives.left n.derives))))))))));
      front = made_of (applied_front_value v w s.name r.0 s.is r.1 (name_value s.name (Value.terms r.0 ∷ []) s.kind_is)) (Derives.call (Derives.right (Derives.right (Derives.right (Derives.right (Derives.right (Derives.right (Derives.right (Derives.seq m.derives (Derives.left n.derives))))))))));
    }
