-- From the factored grammar to the documented one.
use Rattle.std.proofs.Common.{◌≡◌, Bool, true, false, List, [], ◌∷◌, Option, refl, sym, ap, subst, ◌⊎◌, inl, inr}
use Rattle.grammar.specs.Form.{Form, ◌∣◌}
use Rattle.grammar.specs.Form.Form.{Tok, Call, Empty, Seq, Alt, Star, Then}
use Rattle.grammar.specs.Image.{image}
use Rattle.grammar.proofs.Interpret.{Reads}
use Rattle.ap_syntax.specs.declared.terms.Atom.{Atom as AtomTree}
use Rattle.ap_syntax.specs.declared.terms.Literal.{Literal as LiteralTree}
use Rattle.ap_syntax.specs.declared.terms.Term.{Term as TermTree}
use Rattle.ap_syntax.specs.declared.rules.BodyItem.{BodyItem}
use Rattle.ap_syntax.specs.declared.preferences.Formula.{Formula as FormulaTree}
use Rattle.ap_syntax.specs.declared.preferences.Formula.TheVariants as formulas
use Rattle.ap_grammar.specs.declared.terminals.Terminal.{Terminal}
use Rattle.ap_grammar.specs.declared.terminals.Terminal.TheVariants as t
use Rattle.ap_grammar.specs.Lexemes.{Lexeme}
use Rattle.ap_grammar.specs.Values.{Value, Class}
use Rattle.ap_grammar.specs.Values.Value.{token, term, literal, item, formula, program, either}
use Rattle.ap_grammar.specs.Grammar.{Name, grammar, made, statements_of}
use Rattle.ap_grammar.specs.Factored.{Part, factored, part_rule, part_made, call, opened, core_made}
use Rattle.ap_grammar.proofs.Sorts.{Has, Known}
use Rattle.ap_grammar.proofs.Known.{known_step}

-- a term of the one rule, a formula of the other, or both over the same tokens
pub data Both (T F : Name) (xs ys : List Lexeme) : Value → Type 0 where
  is_term : {first : Lexeme} {name : Option AtomTree} {x : TermTree} → Known T xs ys (term first name x) → Both T F xs ys (term first name x)
  is_formula : {first : Lexeme} {f : FormulaTree} → Known F xs ys (formula first f) → Both T F xs ys (formula first f)
  is_either : {first : Lexeme} {name : Option AtomTree} {a : AtomTree} {x : TermTree} → Known T xs ys (term first name x) → Known F xs ys (formula first (formulas.Atom a)) → Both T F xs ys (either first a x)

-- a literal, or an aggregate with its guards
pub data IsCore (xs ys : List Lexeme) : Value → Type 0 where
  is_literal : {first : Lexeme} {l : LiteralTree} → Known Name.Literal xs ys (literal first l) → IsCore xs ys (literal first l)
  is_aggregate : {i : BodyItem} → Known Name.OpenItem xs ys (item i) → IsCore xs ys (item i)

-- what the documented grammar says of the tokens that a rule of the factored one derives
abbrev pub Means : Part → List Lexeme → List Lexeme → Value → Type 0
Means (Part.Of n) xs ys v = Known n xs ys v
Means (Part.Section whole) xs ys v = Known (Name.BaseSection whole) xs ys v ⊎ Known (Name.TypeSection whole) xs ys v
Means Part.Opening xs ys v = Known Name.BaseOpening xs ys v ⊎ Known Name.TypeOpening xs ys v
Means Part.Core xs ys v = IsCore xs ys v
Means Part.Negated xs ys v = (first : Lexeme) → first.terminal ≡ t.Not → IsCore (first ∷ xs) ys (core_made (token first ∷ v ∷ []))
Means Part.Front xs ys v = Both Name.Unary Name.Member xs ys v
Means Part.Mixed xs ys v = Both Name.Term Name.Formula xs ys v

abbrev pub May : Form Part Terminal Class → List Lexeme → List Lexeme → List Value → Type 0
May a xs ys vs = Reads factored Means a xs ys vs

star_to : {b : Form Part Terminal Class} {a : Form Name Terminal Class} → ((xs ys : List Lexeme) (vs : List Value) → May b xs ys vs → Has a xs ys vs) → {xs ys : List Lexeme} {vs : List Value} → May (Star b) xs ys vs → Has (Star a) xs ys vs
star_to h Reads.none = Reads.none
star_to h (Reads.more d e) = Reads.more (h _ _ _ d) (star_to h e)

-- a form of the documented grammar
pub documented : (a : Form Name Terminal Class) (xs ys : List Lexeme) (vs : List Value) → May (image call a) xs ys vs → Has a xs ys vs
documented (Tok k) xs ys vs (Reads.tok e) = Reads.tok e
documented (Call n) xs ys vs (Reads.call m) = Reads.call m
documented Empty xs ys vs Reads.empty = Reads.empty
documented (Seq a b) xs ys vs (Reads.seq d e) = Reads.seq (documented a _ _ _ d) (documented b _ _ _ e)
documented (Alt a b) xs ys vs (Reads.left d) = Reads.left (documented a _ _ _ d)
documented (Alt a b) xs ys vs (Reads.right d) = Reads.right (documented b _ _ _ d)
documented (Star a) xs ys vs d = star_to (documented a) d
documented (Then a b) xs ys vs (Reads.followed {us = us} d e) = Reads.followed (documented a _ _ _ d) (documented (b (grammar.class us)) _ _ _ e)

-- ---- sections

sections : {whole : Bool} {xs ys : List Lexeme} {vs : List Value} → May (Star (Call (Part.Section whole))) xs ys vs → Has (Star (Call (Name.BaseSection whole) ∣ Call (Name.TypeSection whole))) xs ys vs
sections Reads.none = Reads.none
sections (Reads.more (Reads.call (inl m)) rest) = Reads.more (Reads.left (Reads.call m)) (sections rest)
sections (Reads.more (Reads.call (inr m)) rest) = Reads.more (Reads.right (Reads.call m)) (sections rest)

pub text_to : (whole of_type : Bool) (xs ys : List Lexeme) (vs : List Value) → May (part_rule (Part.Of (Name.Text whole of_type))) xs ys vs → Known (Name.Text whole of_type) xs ys (made (Name.Text whole of_type) vs)
text_to whole of_type xs ys vs (Reads.seq d e) = known_step (Name.Text whole of_type) xs ys vs (Reads.seq (documented (Star (Call (Name.Statement whole of_type))) _ _ _ d) (sections e))

-- statements behind `#program base.`
pub opened_base : {whole of_type : Bool} {xs ys : List Lexeme} {vs : List Value} (first word dot : Lexeme) → Has (Star (Call (Name.Statement whole of_type))) xs ys vs → opened (token first ∷ token word ∷ token dot ∷ vs) ≡ made Name.BaseOpening (token first ∷ token word ∷ token dot ∷ []) ∷ vs
opened_base first word dot Reads.none = refl
opened_base first word dot (Reads.more (Reads.call {v = v} m) rest) = let s = m.sort in rw s.1 refl

pub known_of : {n : Name} {xs ys : List Lexeme} {v w : Value} → v ≡ w → Known n xs ys v → Known n xs ys w
known_of {n = n} {xs = xs} {ys = ys} e k = subst (Known n xs ys) e k

pub section_to : (whole : Bool) (xs ys : List Lexeme) (vs : List Value) → May (part_rule (Part.Section whole)) xs ys vs → Means (Part.Section whole) xs ys (part_made (Part.Section whole) vs)
section_to whole xs ys vs (Reads.seq (Reads.tok {t = first} e) (Reads.left (Reads.seq (Reads.tok {t = word} f) (Reads.seq (Reads.tok {t = dot} g) d)))) =
    let statements = documented (Star (Call (Name.Statement whole false))) _ _ _ d in
    let opening = known_step Name.BaseOpening _ _ _ (Reads.seq (Reads.tok {t = first} e) (Reads.seq (Reads.tok {t = word} f) (Reads.tok {t = dot} g))) in
    inl (known_of (ap (λ us. program (statements_of us)) (sym (opened_base first word dot statements))) (known_step (Name.BaseSection whole) _ _ _ (Reads.seq (Reads.call opening) statements)))
section_to whole xs ys vs (Reads.seq (Reads.tok {t = first} e) (Reads.right (Reads.seq (Reads.tok {t = word} f) (Reads.seq (Reads.tok {t = paren} g) (Reads.seq (Reads.call {v = v} m) (Reads.seq (Reads.tok {t = close} h) (Reads.seq (Reads.tok {t = dot} i) d))))))) =
    let statements = documented (Star (Call (Name.Statement whole true))) _ _ _ d in
    let opening = known_step Name.TypeOpening _ _ _ (Reads.seq (Reads.tok {t = first} e) (Reads.seq (Reads.tok {t = word} f) (Reads.seq (Reads.tok {t = paren} g) (Reads.seq (Reads.call m) (Reads.seq (Reads.tok {t = close} h) (Reads.tok {t = dot} i)))))) in
    let s = m.sort in
    let k = known_step (Name.TypeSection whole) _ _ _ (Reads.seq (Reads.call opening) statements) in
    inr (rw s.1 (rw s.1 at k))
