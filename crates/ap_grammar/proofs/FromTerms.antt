-- From the documented grammar to the factored one: terms, and how they begin.
use Rattle.std.proofs.Common.{◌≡◌, List, [], ◌∷◌, Option, Some, None, refl, sym, ap, subst}
use Rattle.grammar.specs.Form.{Derives}
use Rattle.grammar.proofs.Interpret.{Reads}
use Rattle.ap_syntax.specs.declared.terms.Atom.{Atom as AtomTree}
use Rattle.ap_syntax.specs.declared.terms.Term.{Term as TermTree}
use Rattle.ap_grammar.specs.declared.terminals.Terminal.TheVariants as t
use Rattle.ap_grammar.specs.Lexemes.{Lexeme}
use Rattle.ap_grammar.specs.Values.{Value}
use Rattle.ap_grammar.specs.Values.Value.{token, term, either}
use Rattle.ap_grammar.specs.Grammar.{Name, rule_of, made, primary, named}
use Rattle.ap_grammar.specs.Factored.{Part, factored, behind_term, front_made, front, front_name}
use Rattle.ap_grammar.proofs.Sorts.{Known, name_primary}
use Rattle.ap_grammar.proofs.ToRanks.{primary_is, unary_is, front_primary, front_kind, tuple_value, alone_value, negative_value, name_value}
use Rattle.ap_grammar.proofs.FromTexts.{Made, Comes, Fits, Fitting, ProductParts, SumParts, factored_all, shared, made_of}

pub fit_of : {xs ys : List Lexeme} {p : Part} {v w : Value} → v ≡ w → Fitting Fits p xs ys v → Fitting Fits p xs ys w
fit_of {xs = xs} {ys = ys} {p = p} e f = subst (Fitting Fits p xs ys) e f

-- a part with the term itself
pub itself : {xs ys : List Lexeme} {p : Part} {v : Value} (first : Lexeme) (name : Option AtomTree) (x : TermTree) → v ≡ term first name x → Made p xs ys v → Fitting Fits p xs ys v
itself first name x e d = fit_of (sym e) (record { found = term first name x; derives = made_of e d; fits = Fits.same_term })

known_itself : {xs ys : List Lexeme} {p : Part} {v : Value} → Known Name.Primary xs ys v → Made p xs ys v → Fitting Fits p xs ys v
known_itself k d = let s = primary_is k in itself s.first s.name s.tree s.is d

-- ---- primary terms

pub primary_made : (xs ys : List Lexeme) (vs : List Value) → Comes (rule_of Name.Primary) xs ys vs → Made (Part.Of Name.Primary) xs ys (made Name.Primary vs)
primary_made xs ys vs (Reads.left (Reads.tok e)) = Derives.call (Derives.left (Derives.tok e))
primary_made xs ys vs (Reads.right (Reads.left (Reads.tok e))) = Derives.call (Derives.right (Derives.left (Derives.tok e)))
primary_made xs ys vs (Reads.right (Reads.right (Reads.left (Reads.tok e)))) = Derives.call (Derives.right (Derives.right (Derives.left (Derives.tok e))))
primary_made xs ys vs (Reads.right (Reads.right (Reads.right (Reads.left (Reads.tok e))))) = Derives.call (Derives.right (Derives.right (Derives.right (Derives.left (Derives.tok e)))))
primary_made xs ys vs (Reads.right (Reads.right (Reads.right (Reads.right (Reads.left (Reads.seq (Reads.call m) d)))))) = Derives.call (Derives.right (Derives.right (Derives.right (Derives.right (Derives.right (Derives.seq m.derives (factored_all d)))))))
primary_made xs ys vs (Reads.right (Reads.right (Reads.right (Reads.right (Reads.right (Reads.left (Reads.seq (Reads.tok e) (Reads.seq (Reads.call m) (Reads.tok f))))))))) = Derives.call (Derives.right (Derives.right (Derives.right (Derives.right (Derives.left (Derives.seq (Derives.tok e) (Derives.right (Derives.seq m.derives (Derives.left (Derives.tok f))))))))))
primary_made xs ys vs (Reads.right (Reads.right (Reads.right (Reads.right (Reads.right (Reads.right (Reads.left (Reads.seq (Reads.tok e) (Reads.tok f))))))))) = Derives.call (Derives.right (Derives.right (Derives.right (Derives.right (Derives.left (Derives.seq (Derives.tok e) (Derives.left (Derives.tok f))))))))
primary_made xs ys vs (Reads.right (Reads.right (Reads.right (Reads.right (Reads.right (Reads.right (Reads.right (Reads.left (Reads.seq (Reads.tok e) (Reads.seq (Reads.call m) (Reads.seq (Reads.tok f) (Reads.tok g)))))))))))) = Derives.call (Derives.right (Derives.right (Derives.right (Derives.right (Derives.left (Derives.seq (Derives.tok e) (Derives.right (Derives.seq m.derives (Derives.right (Derives.seq (Derives.tok f) (Derives.left (Derives.tok g))))))))))))
primary_made xs ys vs (Reads.right (Reads.right (Reads.right (Reads.right (Reads.right (Reads.right (Reads.right (Reads.right (Reads.seq (Reads.tok e) (Reads.seq (Reads.call m) (Reads.seq (Reads.tok f) (Reads.seq d (Reads.tok g))))))))))))) = Derives.call (Derives.right (Derives.right (Derives.right (Derives.right (Derives.left (Derives.seq (Derives.tok e) (Derives.right (Derives.seq m.derives (Derives.right (Derives.seq (Derives.tok f) (Derives.right (Derives.seq (factored_all d) (Derives.tok g)))))))))))))

-- ---- fronts

-- behind a parenthesis stands what may be a term
inner_front : {xs ms ys : List Lexeme} (paren : Lexeme) {w : Value} {vs : List Value} → paren.terminal ≡ t.Open → (f : Lexeme) (n : Option AtomTree) (x : TermTree) → Fits (term f n x) w → Made Part.Mixed xs ms w → Derives factored behind_term ms ys vs → Made Part.Front (paren ∷ xs) ys (front_made (token paren ∷ w ∷ vs))
inner_front paren e f (Some a) x Fits.same_term d r = Derives.call (Derives.right (Derives.right (Derives.right (Derives.right (Derives.right (Derives.right (Derives.left (Derives.seq (Derives.tok e) (Derives.right (Derives.followed d r))))))))))
inner_front paren e f None x Fits.same_term d r = Derives.call (Derives.right (Derives.right (Derives.right (Derives.right (Derives.right (Derives.right (Derives.left (Derives.seq (Derives.tok e) (Derives.right (Derives.followed d r))))))))))
inner_front paren e f n x Fits.either_term d r = Derives.call (Derives.right (Derives.right (Derives.right (Derives.right (Derives.right (Derives.right (Derives.left (Derives.seq (Derives.tok e) (Derives.right (Derives.followed d r))))))))))

-- a term in parentheses
alone_front : {xs ys : List Lexeme} (paren close : Lexeme) {v w : Value} → paren.terminal ≡ t.Open → close.terminal ≡ t.Close → (f : Lexeme) (n : Option AtomTree) (x : TermTree) → v ≡ term f n x → Fits (term f n x) w → Made Part.Mixed xs (close ∷ ys) w → Fitting Fits Part.Front (paren ∷ xs) ys (made Name.Primary (token paren ∷ v ∷ token close ∷ []))
alone_front paren close {v = v} e c f n x h Fits.same_term d =
    fit_of (ap (λ u. made Name.Primary (token paren ∷ u ∷ token close ∷ [])) (sym h))
    (itself paren None x (ap (λ k. primary k paren (term f n x ∷ token close ∷ [])) e)
    (made_of (sym (front_primary t.Open paren (term f n x ∷ token close ∷ []) e refl)) (inner_front paren e f n x Fits.same_term d (Derives.left (Derives.tok c)))))
alone_front paren close {v = v} e c f n x h (Fits.either_term {a = a}) d =
    fit_of (ap (λ u. made Name.Primary (token paren ∷ u ∷ token close ∷ [])) (sym h))
    (fit_of (sym (ap (λ k. primary k paren (term f n x ∷ token close ∷ [])) e))
    (record { found = either paren a x; derives = made_of (sym (alone_value paren f a x close e)) (inner_front paren e f n x Fits.either_term d (Derives.left (Derives.tok c))); fits = Fits.either_term }))

-- a tuple
tuple_front : {xs ms ys : List Lexeme} (paren comma : Lexeme) {v w : Value} (u : Value) (us : List Value) → paren.terminal ≡ t.Open → (f : Lexeme) (n : Option AtomTree) (x : TermTree) → v ≡ term f n x → Fits (term f n x) w → Made Part.Mixed xs ms w → Derives factored behind_term ms ys (token comma ∷ u ∷ us) → Made Part.Front (paren ∷ xs) ys (made Name.Primary (token paren ∷ v ∷ token comma ∷ u ∷ us))
tuple_front paren comma u us e f n x h Fits.same_term d r =
    made_of (ap (λ z. made Name.Primary (token paren ∷ z ∷ token comma ∷ u ∷ us)) (sym h))
    (made_of (sym (front_primary t.Open paren (term f n x ∷ token comma ∷ u ∷ us) e refl)) (inner_front paren e f n x Fits.same_term d r))
tuple_front paren comma u us e f n x h (Fits.either_term {a = a}) d r =
    made_of (ap (λ z. made Name.Primary (token paren ∷ z ∷ token comma ∷ u ∷ us)) (sym h))
    (made_of (sym (tuple_value paren f n a x comma u us e)) (inner_front paren e f n x Fits.either_term d r))

-- a name with arguments or without
name_front : {xs ys : List Lexeme} {v : Value} (name : Lexeme) → v ≡ token name → front name.terminal name [] ≡ front_name name [] → primary name.terminal name [] ≡ named name [] → Made Part.Front xs ys (front_made (v ∷ [])) → Fitting Fits Part.Front xs ys (made Name.Primary (v ∷ []))
name_front {xs = xs} {ys = ys} {v = v} name e f p d =
    fit_of (sym (values v name e p)) (record { found = _; derives = made_of (fronts v name e f) d; fits = Fits.either_term })
  where
    values : (v : Value) (name : Lexeme) → v ≡ token name → primary name.terminal name [] ≡ named name [] → made Name.Primary (v ∷ []) ≡ named name []
    values v name e p = rw e p

    fronts : (v : Value) (name : Lexeme) → v ≡ token name → front name.terminal name [] ≡ front_name name [] → front_made (v ∷ []) ≡ front_name name []
    fronts v name e f = rw e f

applied_front : {xs ys : List Lexeme} {v w : Value} (name : Lexeme) (ts : List TermTree) → v ≡ token name → w ≡ Value.terms ts → front name.terminal name (Value.terms ts ∷ []) ≡ front_name name (Value.terms ts ∷ []) → primary name.terminal name (Value.terms ts ∷ []) ≡ named name (Value.terms ts ∷ []) → Made Part.Front xs ys (front_made (v ∷ w ∷ [])) → Fitting Fits Part.Front xs ys (made Name.Primary (v ∷ w ∷ []))
applied_front {xs = xs} {ys = ys} {v = v} {w = w} name ts e h f p d =
    fit_of (sym (values v w name ts e h p)) (record { found = _; derives = made_of (fronts v w name ts e h f) d; fits = Fits.either_term })
  where
    values : (v w : Value) (name : Lexeme) (ts : List TermTree) → v ≡ token name → w ≡ Value.terms ts → primary name.terminal name (Value.terms ts ∷ []) ≡ named name (Value.terms ts ∷ []) → made Name.Primary (v ∷ w ∷ []) ≡ named name (Value.terms ts ∷ [])
    values v w name ts e h p = rw (e, h) p

    fronts : (v w : Value) (name : Lexeme) (ts : List TermTree) → v ≡ token name → w ≡ Value.terms ts → front name.terminal name (Value.terms ts ∷ []) ≡ front_name name (Value.terms ts ∷ []) → front_made (v ∷ w ∷ []) ≡ front_name name (Value.terms ts ∷ [])
    fronts v w name ts e h f = rw (e, h) f

pub primary_front : (xs ys : List Lexeme) (vs : List Value) → Comes (rule_of Name.Primary) xs ys vs → Known Name.Primary xs ys (made Name.Primary vs) → Fitting Fits Part.Front xs ys (made Name.Primary vs)
primary_front xs ys vs (Reads.left (Reads.tok {t = first} e)) k = known_itself k (made_of (sym (front_primary t.Number first [] e refl)) (Derives.call (Derives.right (Derives.right (Derives.left (Derives.tok e))))))
primary_front xs ys vs (Reads.right (Reads.left (Reads.tok {t = first} e))) k = known_itself k (made_of (sym (front_primary t.String first [] e refl)) (Derives.call (Derives.right (Derives.right (Derives.right (Derives.left (Derives.tok e)))))))
primary_front xs ys vs (Reads.right (Reads.right (Reads.left (Reads.tok {t = first} e)))) k = known_itself k (made_of (sym (front_primary t.Variable first [] e refl)) (Derives.call (Derives.right (Derives.right (Derives.right (Derives.right (Derives.left (Derives.tok e))))))))
primary_front xs ys vs (Reads.right (Reads.right (Reads.right (Reads.left (Reads.tok {t = first} e))))) k = known_itself k (made_of (sym (front_primary t.Any first [] e refl)) (Derives.call (Derives.right (Derives.right (Derives.right (Derives.right (Derives.right (Derives.left (Derives.tok e)))))))))
primary_front xs ys vs (Reads.right (Reads.right (Reads.right (Reads.right (Reads.left (Reads.seq (Reads.call {v = v} m) (Reads.right Reads.empty))))))) k =
    let s = m.known.sort in name_front s.name s.is (name_value s.name [] s.kind_is) (name_primary s.name [] s.kind_is) (Derives.call (Derives.right (Derives.right (Derives.right (Derives.right (Derives.right (Derives.right (Derives.right (Derives.seq m.derives (Derives.right Derives.empty))))))))))
primary_front xs ys vs (Reads.right (Reads.right (Reads.right (Reads.right (Reads.left (Reads.seq (Reads.call {v = v} m) (Reads.left (Reads.call {v = w} n)))))))) k =
    let s = m.known.sort in let r = n.known.sort in
    applied_front s.name r.0 s.is r.1 (name_value s.name (Value.terms r.0 ∷ []) s.kind_is) (name_primary s.name (Value.terms r.0 ∷ []) s.kind_is) (Derives.call (Derives.right (Derives.right (Derives.right (Derives.right (Derives.right (Derives.right (Derives.right (Derives.seq m.derives (Derives.left n.derives))))))))))
primary_front xs ys vs (Reads.right (Reads.right (Reads.right (Reads.right (Reads.right (Reads.left (Reads.seq (Reads.tok {t = paren} e) (Reads.seq (Reads.call {v = v} m) (Reads.tok {t = close} f))))))))) k =
    let s = m.known.sort in let q = fit_of s.is m.extra in alone_front paren close e f s.first s.name s.tree s.is q.fits q.derives
primary_front xs ys vs (Reads.right (Reads.right (Reads.right (Reads.right (Reads.right (Reads.right (Reads.left (Reads.seq (Reads.tok {t = paren} e) (Reads.tok {t = close} f))))))))) k = known_itself k (made_of (sym (front_primary t.Open paren (token close ∷ []) e refl)) (Derives.call (Derives.right (Derives.right (Derives.right (Derives.right (Derives.right (Derives.right (Derives.left (Derives.seq (Derives.tok e) (Derives.left (Derives.tok f))))))))))))
primary_front xs ys vs (Reads.right (Reads.right (Reads.right (Reads.right (Reads.right (Reads.right (Reads.right (Reads.left (Reads.seq (Reads.tok {t = paren} e) (Reads.seq (Reads.call {v = v} m) (Reads.seq (Reads.tok {t = comma} f) (Reads.tok {t = close} g)))))))))))) k =
    let s = m.known.sort in let q = fit_of s.is m.extra in known_itself k (tuple_front paren comma (token close) [] e s.first s.name s.tree s.is q.fits q.derives (Derives.right (Derives.seq (Derives.tok f) (Derives.left (Derives.tok g)))))
primary_front xs ys vs (Reads.right (Reads.right (Reads.right (Reads.right (Reads.right (Reads.right (Reads.right (Reads.right (Reads.seq (Reads.tok {t = paren} e) (Reads.seq (Reads.call {v = v} m) (Reads.seq (Reads.tok {t = comma} f) (Reads.seq (Reads.seq (Reads.call {v = w} n) others) (Reads.tok {t = close} g))))))))))))) k =
    let s = m.known.sort in let q = fit_of s.is m.extra in known_itself k (tuple_front paren comma w _ e s.first s.name s.tree s.is q.fits q.derives (Derives.right (Derives.seq (Derives.tok f) (Derives.right (Derives.seq (Derives.seq n.derives (factored_all others)) (Derives.tok g))))))

-- ---- unary terms, products and sums

pass_value : (v : Value) (first : Lexeme) (name : Option AtomTree) (x : TermTree) → v ≡ term first name x → v ≡ made Name.Unary (v ∷ [])
pass_value v first name x e = rw e refl

pub unary_front : (xs ys : List Lexeme) (vs : List Value) → Comes (rule_of Name.Unary) xs ys vs → Known Name.Unary xs ys (made Name.Unary vs) → Fitting Fits Part.Front xs ys (made Name.Unary vs)
unary_front xs ys vs (Reads.seq (Reads.right Reads.empty) (Reads.call {v = v} m)) k = let s = m.known.sort in fit_of (pass_value v s.first s.name s.tree s.is) m.extra
unary_front xs ys vs (Reads.seq (Reads.left (Reads.tok {t = minus} e)) (Reads.call {v = v} m)) k =
    let s = m.known.sort in
    let u = unary_is k in
    itself u.first u.name u.tree u.is (made_of (sym (front_kind t.Minus minus (v ∷ []) _ e (negative_value minus v s.first s.name s.tree s.is))) (Derives.call (Derives.right (Derives.left (Derives.seq (Derives.tok e) m.derives)))))

pub product_parts : (xs ys : List Lexeme) (vs : List Value) → Comes (rule_of Name.Product) xs ys vs → ProductParts xs ys (made Name.Product vs)
product_parts xs ys vs (Reads.seq {ys = ms} {vs = us} (Reads.call {v = v} m) rest) = record { between = ms; unary = v; front = m.extra; rest = us; factors = shared rest; is = refl }

pub sum_parts : (xs ys : List Lexeme) (vs : List Value) → Comes (rule_of Name.Sum) xs ys vs → SumParts xs ys (made Name.Sum vs)
sum_parts xs ys vs (Reads.seq {ys = ms} {vs = us} (Reads.call {v = v} m) rest) = record { between = ms; product = v; parts = m.extra; rest = us; summands = shared rest; is = refl }
