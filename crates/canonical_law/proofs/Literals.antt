-- Atoms, literals, conditions and guards read back.
use Rattle.std.proofs.Common.{◌≡◌, ℕ, List, [], ◌∷◌, ◌++◌, map, Option, Some, None, refl, sym, subst, ◌∙◌}
use Rattle.std.specs.Prelude.{codes}
use Rattle.grammar.specs.Form.{Derives, opt}
use Rattle.grammar.specs.Form.Form.{Call}
use Rattle.ap_syntax.specs.declared.terms.Atom.{Atom}
use Rattle.ap_syntax.specs.declared.terms.Literal.{Literal}
use Rattle.ap_syntax.specs.declared.terms.Literal.TheVariants as literals
use Rattle.ap_syntax.specs.declared.terms.Rel.{Rel}
use Rattle.ap_syntax.specs.declared.terms.Rel.TheVariants.{Eq, Ne, Lt, Le, Gt, Ge}
use Rattle.ap_syntax.specs.declared.terms.Term.{Term}
use Rattle.ap_syntax.specs.declared.rules.Guard.{Guard}
use Rattle.ap_syntax.specs.Pieces.{spaced, spaced_behind, text_of}
use Rattle.ap_syntax.specs.CanonicalTerms.{applied, atom_pieces, literal_pieces, literals_pieces, rel_sign, term_pieces}
use Rattle.ap_syntax.specs.CanonicalRules.{condition_pieces, left_pieces, right_pieces}
use Rattle.ap_grammar.specs.declared.terminals.Terminal.TheVariants as t
use Rattle.ap_grammar.specs.Lexemes.{Lexeme}
use Rattle.ap_grammar.specs.Values.{Value, as_literal}
use Rattle.ap_grammar.specs.Values.Value.{atom, literal, relation, left, right}
use Rattle.ap_grammar.specs.Grammar.{Name, grammar, relation_of}
use Rattle.canonical_law.proofs.Lexing.{Ends}
use Rattle.canonical_law.proofs.Spells.{Is, Spells, Clear, split, split3, clear_append, clear3, spaced_is, spaced_behind_is, spaced_clear, spaced_behind_clear}
use Rattle.canonical_law.proofs.Signs as sign
use Rattle.canonical_law.proofs.Names.{GoodName, name_kind, ident_derives, name_clear}
use Rattle.canonical_law.proofs.Levels.{Level, GoodTerm, placed, placed_clear, parentheses_clear}
use Rattle.canonical_law.proofs.Lists.{Each, alike_same, GoodItem, all_read, all_clear, from_here}
use Rattle.canonical_law.proofs.Terms.{arguments_derive, comma_between, terms_clear}

-- ---- atoms

pub record GoodAtom (a : Atom) : Type 0 where
  pub name : GoodName a.name
  pub terms : Each GoodTerm a.terms

pub record IsAtom (xs ys : List Lexeme) (a : Atom) : Type 0 where
  pub first : Lexeme
  pub derives : Derives grammar (Call Name.Atom) xs ys (atom first a ∷ [])

atom_by : (name : List ℕ) (args : List Term) {xs ys : List Lexeme} → GoodName name → Each GoodTerm args → Spells (applied name (map term_pieces args)) xs ys → IsAtom xs ys (record { name = name; terms = args })
atom_by name [] {ys = ys} g gs (Spells.word {x = x} i Spells.nothing) =
    let d = Derives.call {n = Name.Atom} (Derives.seq (ident_derives {xs = ys} (name_kind g i)) (Derives.right Derives.empty)) in
    record { first = x; derives = subst (λ b. Derives grammar (Call Name.Atom) (x ∷ ys) ys (atom x (record { name = b; terms = [] }) ∷ [])) i.bytes d }
atom_by name (y ∷ args) {ys = ys} g gs (Spells.word {x = x} {xs = ms} i s) =
    let d = Derives.call {n = Name.Atom} (Derives.seq (ident_derives {xs = ms} (name_kind g i)) (Derives.left (arguments_derive y args gs s))) in
    record { first = x; derives = subst (λ b. Derives grammar (Call Name.Atom) (x ∷ ms) ys (atom x (record { name = b; terms = y ∷ args }) ∷ [])) i.bytes d }

pub atom_spelled : {a : Atom} {xs ys : List Lexeme} → GoodAtom a → Spells (atom_pieces a) xs ys → IsAtom xs ys a
atom_spelled {a = a} g s = atom_by a.name a.terms g.name g.terms s

applied_clear : (name : List ℕ) (args : List Term) (rest : List ℕ) → GoodName name → Each GoodTerm args → Ends rest → Clear (applied name (map term_pieces args)) rest
applied_clear name [] rest g gs h = name_clear rest g h
applied_clear name (y ∷ ys) rest g gs h = Clear.word g.one (g.apart _ refl) (parentheses_clear _ rest (terms_clear y ys gs))

pub atom_clear : {a : Atom} (rest : List ℕ) → GoodAtom a → Ends rest → Clear (atom_pieces a) rest
atom_clear {a = a} rest g h = applied_clear a.name a.terms rest g.name g.terms h

-- ---- relations

pub rel_derives : (r : Rel) {x : Lexeme} {ys : List Lexeme} → Is x (rel_sign r) → Derives grammar (Call Name.Relation) (x ∷ ys) ys (relation r ∷ [])
rel_derives Eq {x = x} {ys = ys} i = let e = sign.equal_is i in subst (λ k. Derives grammar (Call Name.Relation) (x ∷ ys) ys (relation (relation_of k) ∷ [])) e (Derives.call {n = Name.Relation} (Derives.left (Derives.tok e)))
rel_derives Ne {x = x} {ys = ys} i = let e = sign.unequal_is i in subst (λ k. Derives grammar (Call Name.Relation) (x ∷ ys) ys (relation (relation_of k) ∷ [])) e (Derives.call {n = Name.Relation} (Derives.right (Derives.right (Derives.left (Derives.tok e)))))
rel_derives Lt {x = x} {ys = ys} i = let e = sign.less_is i in subst (λ k. Derives grammar (Call Name.Relation) (x ∷ ys) ys (relation (relation_of k) ∷ [])) e (Derives.call {n = Name.Relation} (Derives.right (Derives.right (Derives.right (Derives.left (Derives.tok e))))))
rel_derives Le {x = x} {ys = ys} i = let e = sign.at_most_is i in subst (λ k. Derives grammar (Call Name.Relation) (x ∷ ys) ys (relation (relation_of k) ∷ [])) e (Derives.call {n = Name.Relation} (Derives.right (Derives.right (Derives.right (Derives.right (Derives.left (Derives.tok e)))))))
rel_derives Gt {x = x} {ys = ys} i = let e = sign.greater_is i in subst (λ k. Derives grammar (Call Name.Relation) (x ∷ ys) ys (relation (relation_of k) ∷ [])) e (Derives.call {n = Name.Relation} (Derives.right (Derives.right (Derives.right (Derives.right (Derives.right (Derives.left (Derives.tok e))))))))
rel_derives Ge {x = x} {ys = ys} i = let e = sign.at_least_is i in subst (λ k. Derives grammar (Call Name.Relation) (x ∷ ys) ys (relation (relation_of k) ∷ [])) e (Derives.call {n = Name.Relation} (Derives.right (Derives.right (Derives.right (Derives.right (Derives.right (Derives.right (Derives.tok e))))))))

pub rel_clear : (r : Rel) (rest : List ℕ) → Clear (spaced (rel_sign r)) rest
rel_clear Eq rest = spaced_clear rest sign.equal_one (sign.equal_apart _)
rel_clear Ne rest = spaced_clear rest sign.unequal_one (sign.unequal_apart _)
rel_clear Lt rest = spaced_clear rest sign.less_one (sign.less_apart _)
rel_clear Le rest = spaced_clear rest sign.at_most_one (sign.at_most_apart _)
rel_clear Gt rest = spaced_clear rest sign.greater_one (sign.greater_apart _)
rel_clear Ge rest = spaced_clear rest sign.at_least_one (sign.at_least_apart _)

pub rel_spelled : (r : Rel) {xs ys : List Lexeme} → Spells (spaced (rel_sign r)) xs ys → Derives grammar (Call Name.Relation) xs ys (relation r ∷ [])
rel_spelled r s = let q = spaced_is s in from_here (sym q.1) (rel_derives r q.2)

-- ---- literals

pub data GoodLiteral : Literal → Type 0 where
  pos : {a : Atom} → GoodAtom a → GoodLiteral (literals.Pos a)
  not : {a : Atom} → GoodAtom a → GoodLiteral (literals.Not a)
  compare : {x y : Term} {r : Rel} → GoodTerm x → GoodTerm y → GoodLiteral (literals.Compare x r y)

pub record IsLiteral (xs ys : List Lexeme) (l : Literal) : Type 0 where
  pub first : Lexeme
  pub derives : Derives grammar (Call Name.Literal) xs ys (literal first l ∷ [])

pub literal_spelled : {l : Literal} {xs ys : List Lexeme} → GoodLiteral l → Spells (literal_pieces l) xs ys → IsLiteral xs ys l
literal_spelled (GoodLiteral.pos g) s = let a = atom_spelled g s in record { first = a.first; derives = Derives.call (Derives.left (Derives.seq (Derives.right Derives.empty) a.derives)) }
literal_spelled (GoodLiteral.not g) s =
    let q = split (spaced_behind (codes "not")) s in
    let o = spaced_behind_is q.1 in
    let a = atom_spelled g q.2 in
    record { first = o.0; derives = from_here (sym o.1) (Derives.call (Derives.left (Derives.seq (Derives.left (Derives.tok {t = o.0} (sign.not_is o.2))) a.derives))) }
literal_spelled (GoodLiteral.compare {x = x} {y = y} {r = r} g h) s =
    let q = split3 (term_pieces x) (spaced (rel_sign r)) s in
    let a = placed Level.Interval g q.2 in
    let b = placed Level.Interval h q.4 in
    record { first = a.first; derives = Derives.call (Derives.right (Derives.seq a.derives (Derives.seq (rel_spelled r q.3) b.derives))) }

pub literal_clear : {l : Literal} (rest : List ℕ) → GoodLiteral l → Ends rest → Clear (literal_pieces l) rest
literal_clear rest (GoodLiteral.pos g) h = atom_clear rest g h
literal_clear rest (GoodLiteral.not g) h = clear_append (spaced_behind (codes "not")) _ rest (spaced_behind_clear _ sign.not_one (sign.not_apart _)) (atom_clear rest g h)
literal_clear rest (GoodLiteral.compare {x = x} {y = y} {r = r} g h) e = clear3 (term_pieces x) (spaced (rel_sign r)) (term_pieces y) rest (placed_clear 0 g _ refl) (rel_clear r _) (placed_clear 0 h rest e)

abbrev pub LiteralItem : Literal → Type 0
LiteralItem l = GoodItem (λ y z. y ≡ z) literal_pieces as_literal literal (Call Name.Literal) l

literal_item : (l : Literal) → GoodLiteral l → LiteralItem l
literal_item l g = record {
  derives = λ s. let p = literal_spelled g s in record { info = p.first; read = l; derives = p.derives; same = refl };
  clear = λ rest h. literal_clear rest g h;
}

literal_items : (ls : List Literal) → Each GoodLiteral ls → Each LiteralItem ls
literal_items [] Each.none = Each.none
literal_items (l ∷ ls) (Each.more g gs) = Each.more (literal_item l g) (literal_items ls gs)

pub literals_spelled : (l : Literal) (ls : List Literal) {xs ys : List Lexeme} → Each GoodLiteral (l ∷ ls) → Spells (literals_pieces (l ∷ ls)) xs ys → Derives grammar (Call Name.Literals) xs ys (Value.literals (l ∷ ls) ∷ [])
literals_spelled l ls {xs = xs} {ys = ys} g s =
    let r = all_read (λ y z. y ≡ z) literal_pieces as_literal literal (Call Name.Literal) t.Comma _ comma_between (λ x. refl) (λ i x. refl) l ls (literal_items (l ∷ ls) g) s in
    subst (λ ms. Derives grammar (Call Name.Literals) xs ys (Value.literals ms ∷ [])) (r.picked ∙ alike_same r.same) (Derives.call {n = Name.Literals} r.derives)

pub literals_clear : (ls : List Literal) (rest : List ℕ) → Each GoodLiteral ls → Ends rest → Clear (literals_pieces ls) rest
literals_clear [] rest g h = Clear.nothing
literals_clear (l ∷ ls) rest g h = all_clear (λ y z. y ≡ z) literal_pieces as_literal literal (Call Name.Literal) t.Comma _ comma_between (λ x. refl) (λ i x. refl) l ls (literal_items (l ∷ ls) g) rest h

-- ---- conditions

pub colon_spelled : (ls : List Literal) {xs ys : List Lexeme} → Each GoodLiteral ls → Spells (spaced (codes ":") ++ literals_pieces ls) xs ys → Derives grammar (Call Name.Condition) xs ys (Value.condition ls ∷ [])
colon_spelled [] g s =
    let q = split (spaced (codes ":")) s in
    let o = spaced_is q.1 in
    from_here (sym o.1) (nothing_behind o.0 (sign.colon_is o.2) q.2)
  where
    nothing_behind : (x : Lexeme) {ms ys : List Lexeme} → x.terminal ≡ t.Colon → Spells [] ms ys → Derives grammar (Call Name.Condition) (x ∷ ms) ys (Value.condition [] ∷ [])
    nothing_behind x e Spells.nothing = Derives.call (Derives.seq (Derives.tok e) (Derives.right Derives.empty))
colon_spelled (l ∷ ls) g s =
    let q = split (spaced (codes ":")) s in
    let o = spaced_is q.1 in
    from_here (sym o.1) (Derives.call (Derives.seq (Derives.tok {t = o.0} (sign.colon_is o.2)) (Derives.left (literals_spelled l ls g q.2))))

pub colon_clear : (ls : List Literal) (rest : List ℕ) → Each GoodLiteral ls → Ends rest → Clear (spaced (codes ":") ++ literals_pieces ls) rest
colon_clear ls rest g h = clear_append (spaced (codes ":")) (literals_pieces ls) rest (spaced_clear _ sign.colon_one (sign.colon_apart _)) (literals_clear ls rest g h)

-- the values of a condition that may be left out where it is empty
abbrev pub condition_values : List Literal → List Value
condition_values [] = []
condition_values (l ∷ ls) = Value.condition (l ∷ ls) ∷ []

pub condition_spelled : (ls : List Literal) {xs ys : List Lexeme} → Each GoodLiteral ls → Spells (condition_pieces ls) xs ys → Derives grammar (opt (Call Name.Condition)) xs ys (condition_values ls)
condition_spelled [] g Spells.nothing = Derives.right Derives.empty
condition_spelled (l ∷ ls) g s = Derives.left (colon_spelled (l ∷ ls) g s)

pub condition_clear : (ls : List Literal) (rest : List ℕ) → Each GoodLiteral ls → Ends rest → Clear (condition_pieces ls) rest
condition_clear [] rest g h = Clear.nothing
condition_clear (l ∷ ls) rest g h = colon_clear (l ∷ ls) rest g h

pub condition_ends : (ls : List Literal) (rest : List ℕ) → Ends rest → Ends (text_of (condition_pieces ls) ++ rest)
condition_ends [] rest h = h
condition_ends (l ∷ ls) rest h = refl

-- ---- guards

pub data GoodGuard : Option Guard → Type 0 where
  none : GoodGuard None
  some : {g : Guard} → GoodTerm g.term → GoodGuard (Some g)

abbrev pub AreLeft : Option Guard → List Value → Type 0
AreLeft None values = values ≡ []
AreLeft (Some g) values = (first : Lexeme) × (values ≡ left first g ∷ [])

pub record LeftRead (g : Option Guard) (xs ys : List Lexeme) : Type 0 where
  pub values : List Value
  pub derives : Derives grammar (opt (Call Name.LeftGuard)) xs ys values
  pub are : AreLeft g values

pub left_spelled : {g : Option Guard} {xs ys : List Lexeme} → GoodGuard g → Spells (left_pieces g) xs ys → LeftRead g xs ys
left_spelled GoodGuard.none Spells.nothing = record { values = []; derives = Derives.right Derives.empty; are = refl }
left_spelled (GoodGuard.some {g = g} h) s =
    let q = split (term_pieces g.term) s in
    let a = placed Level.Interval h q.1 in
    record { values = _; derives = Derives.left (Derives.call (Derives.seq a.derives (Derives.left (rel_spelled g.rel q.2)))); are = (a.first, refl) }

pub left_clear : {g : Option Guard} (rest : List ℕ) → GoodGuard g → Clear (left_pieces g) rest
left_clear rest GoodGuard.none = Clear.nothing
left_clear rest (GoodGuard.some {g = g} h) = clear_append (term_pieces g.term) (spaced (rel_sign g.rel)) rest (placed_clear 0 h _ refl) (rel_clear g.rel rest)

abbrev pub right_values : Option Guard → List Value
right_values None = []
right_values (Some g) = right g ∷ []

pub right_spelled : {g : Option Guard} {xs ys : List Lexeme} → GoodGuard g → Spells (right_pieces g) xs ys → Derives grammar (opt (Call Name.RightGuard)) xs ys (right_values g)
right_spelled GoodGuard.none Spells.nothing = Derives.right Derives.empty
right_spelled (GoodGuard.some {g = g} h) s =
    let q = split (spaced (rel_sign g.rel)) s in
    let a = placed Level.Interval h q.2 in
    Derives.left (Derives.call (Derives.seq (Derives.left (rel_spelled g.rel q.1)) a.derives))

pub right_clear : {g : Option Guard} (rest : List ℕ) → GoodGuard g → Ends rest → Clear (right_pieces g) rest
right_clear rest GoodGuard.none h = Clear.nothing
right_clear rest (GoodGuard.some {g = g} k) h = clear_append (spaced (rel_sign g.rel)) (term_pieces g.term) rest (rel_clear g.rel _) (placed_clear 0 k rest h)

pub right_ends : (g : Option Guard) (rest : List ℕ) → Ends rest → Ends (text_of (right_pieces g) ++ rest)
right_ends None rest h = h
right_ends (Some g) rest h = refl
