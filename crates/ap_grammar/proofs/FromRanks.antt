-- From the documented grammar to the factored one: whole terms, formulas and ranks.
use Rattle.std.proofs.Common.{◌≡◌, List, [], ◌∷◌, ◌++◌, Option, Some, None, refl, sym, ap, ◌∙◌, subst, ◌⊎◌, inl, inr}
use Rattle.grammar.specs.Form.{Derives, ◌⨾◌}
use Rattle.grammar.specs.Form.Form.{Tok, Call}
use Rattle.grammar.proofs.Interpret.{Reads}
use Rattle.ap_syntax.specs.declared.terms.Atom.{Atom as AtomTree}
use Rattle.ap_syntax.specs.declared.terms.Term.{Term as TermTree}
use Rattle.ap_syntax.specs.declared.preferences.Formula.{Formula as FormulaTree}
use Rattle.ap_syntax.specs.declared.preferences.Formula.TheVariants as formulas
use Rattle.ap_grammar.specs.declared.terminals.Terminal.TheVariants as t
use Rattle.ap_grammar.specs.Lexemes.{Lexeme}
use Rattle.ap_grammar.specs.Values.{Value}
use Rattle.ap_grammar.specs.Values.Value.{token, term, formula, either}
use Rattle.ap_grammar.specs.Grammar.{Name, rule_of, made}
use Rattle.ap_grammar.specs.Factored.{Part, factored, mixed_made, weights_rest}
use Rattle.ap_grammar.proofs.Sorts.{Known}
use Rattle.ap_grammar.proofs.ToBodies.{term_at}
use Rattle.ap_grammar.proofs.ToRanks.{unary_is, product_is, sum_is, front_kind, formula_value, alone_value}
use Rattle.ap_grammar.proofs.ToMixed.{Factors, Summands, MayRange, Ands, Ors, whole_term_value, term_value, operator_value, whole_formula_value, connective_value, joined_weights, named_target}
use Rattle.ap_grammar.proofs.FromTexts.{Made, Comes, Fits, FitsFormula, Fitting, Shared, has_of, derives_of, ConjunctionParts, FormulaTarget, NameTarget, factored_all, shared, made_of}
use Rattle.ap_grammar.proofs.FromTerms.{fit_of, itself}

-- ---- terms

-- a term as a whole, by its front
abbrev whole : Value → List Value → List Value → List Value → Value
whole u us ws rs = made Name.Term (made Name.Sum (made Name.Product (u ∷ us) ∷ ws) ∷ rs)

plain_mixed : {xs ms ks ls ys : List Lexeme} {us ws rs : List Value} (f : Lexeme) (n : Option AtomTree) (x : TermTree) → Made Part.Front xs ms (term f n x) → Shared Factors ms ks us → Shared Summands ks ls ws → Shared MayRange ls ys rs → Made Part.Mixed xs ys (mixed_made (term f n x ∷ (us ++ (ws ++ rs))))
plain_mixed f (Some a) x d p s r = Derives.call (Derives.followed d (Derives.seq (derives_of p) (Derives.seq (derives_of s) (derives_of r))))
plain_mixed f None x d p s r = Derives.call (Derives.followed d (Derives.seq (derives_of p) (Derives.seq (derives_of s) (derives_of r))))

-- a name goes on by a factor, by a summand or by the other end of an interval, or is all
either_mixed : {xs ms ks ls ys : List Lexeme} {us ws rs : List Value} (f : Lexeme) (n : Option AtomTree) (a : AtomTree) (x : TermTree) → Made Part.Front xs ms (either f a x) → Shared Factors ms ks us → Shared Summands ks ls ws → Shared MayRange ls ys rs → Known Name.Term xs ys (whole (term f n x) us ws rs) → Fitting Fits Part.Mixed xs ys (whole (term f n x) us ws rs)
either_mixed f n a x d Reads.none Reads.none (Reads.right Reads.empty) k = record { found = either f a x; derives = Derives.call (Derives.followed d (Derives.right (Derives.seq Derives.none Derives.none))); fits = Fits.either_term }
either_mixed f n a x d Reads.none Reads.none (Reads.left (Reads.seq (Reads.tok {t = dots} e) (Reads.call {v = w} m))) k =
    let q = sum_is m.known in
    let v = term_at k in
    itself v.first v.name v.tree v.is
    (made_of (sym (operator_value f n a x dots w [] q.first q.name q.tree q.is) ∙ whole_term_value f n x Reads.none Reads.none (has_of (Reads.left (Reads.seq (Reads.tok {t = dots} e) (Reads.call m)))))
    (Derives.call (Derives.followed d (Derives.left (Derives.right (Derives.right (Derives.seq (Derives.tok e) m.derives)))))))
either_mixed {rs = rs} f n a x d Reads.none (Reads.more {vs = ws} (Reads.seq (Reads.left (Reads.tok {t = sign} e)) (Reads.call {v = w} m)) o) r k =
    let q = product_is m.known in
    let v = term_at k in
    itself v.first v.name v.tree v.is
    (made_of (sym (operator_value f n a x sign w (ws ++ rs) q.first q.name q.tree q.is) ∙ whole_term_value f n x Reads.none (has_of (Reads.more (Reads.seq (Reads.left (Reads.tok {t = sign} e)) (Reads.call m)) o)) (has_of r))
    (Derives.call (Derives.followed d (Derives.left (Derives.right (Derives.left (Derives.seq (Derives.seq (Derives.left (Derives.tok {t = sign} e)) m.derives) (Derives.seq (derives_of o) (derives_of r)))))))))
either_mixed {rs = rs} f n a x d Reads.none (Reads.more {vs = ws} (Reads.seq (Reads.right (Reads.tok {t = sign} e)) (Reads.call {v = w} m)) o) r k =
    let q = product_is m.known in
    let v = term_at k in
    itself v.first v.name v.tree v.is
    (made_of (sym (operator_value f n a x sign w (ws ++ rs) q.first q.name q.tree q.is) ∙ whole_term_value f n x Reads.none (has_of (Reads.more (Reads.seq (Reads.right (Reads.tok {t = sign} e)) (Reads.call m)) o)) (has_of r))
    (Derives.call (Derives.followed d (Derives.left (Derives.right (Derives.left (Derives.seq (Derives.seq (Derives.right (Derives.tok {t = sign} e)) m.derives) (Derives.seq (derives_of o) (derives_of r)))))))))
either_mixed {ws = ws} {rs = rs} f n a x d (Reads.more {vs = us} (Reads.seq (Reads.left (Reads.tok {t = sign} e)) (Reads.call {v = w} m)) o) s r k =
    let q = unary_is m.known in
    let v = term_at k in
    itself v.first v.name v.tree v.is
    (made_of (sym (operator_value f n a x sign w (us ++ (ws ++ rs)) q.first q.name q.tree q.is) ∙ whole_term_value f n x (has_of (Reads.more (Reads.seq (Reads.left (Reads.tok {t = sign} e)) (Reads.call m)) o)) (has_of s) (has_of r))
    (Derives.call (Derives.followed d (Derives.left (Derives.left (Derives.seq (Derives.seq (Derives.left (Derives.tok {t = sign} e)) m.derives) (Derives.seq (derives_of o) (Derives.seq (derives_of s) (derives_of r)))))))))
either_mixed {ws = ws} {rs = rs} f n a x d (Reads.more {vs = us} (Reads.seq (Reads.right (Reads.left (Reads.tok {t = sign} e))) (Reads.call {v = w} m)) o) s r k =
    let q = unary_is m.known in
    let v = term_at k in
    itself v.first v.name v.tree v.is
    (made_of (sym (operator_value f n a x sign w (us ++ (ws ++ rs)) q.first q.name q.tree q.is) ∙ whole_term_value f n x (has_of (Reads.more (Reads.seq (Reads.right (Reads.left (Reads.tok {t = sign} e))) (Reads.call m)) o)) (has_of s) (has_of r))
    (Derives.call (Derives.followed d (Derives.left (Derives.left (Derives.seq (Derives.seq (Derives.right (Derives.left (Derives.tok {t = sign} e))) m.derives) (Derives.seq (derives_of o) (Derives.seq (derives_of s) (derives_of r)))))))))
either_mixed {ws = ws} {rs = rs} f n a x d (Reads.more {vs = us} (Reads.seq (Reads.right (Reads.right (Reads.tok {t = sign} e))) (Reads.call {v = w} m)) o) s r k =
    let q = unary_is m.known in
    let v = term_at k in
    itself v.first v.name v.tree v.is
    (made_of (sym (operator_value f n a x sign w (us ++ (ws ++ rs)) q.first q.name q.tree q.is) ∙ whole_term_value f n x (has_of (Reads.more (Reads.seq (Reads.right (Reads.right (Reads.tok {t = sign} e))) (Reads.call m)) o)) (has_of s) (has_of r))
    (Derives.call (Derives.followed d (Derives.left (Derives.left (Derives.seq (Derives.seq (Derives.right (Derives.right (Derives.tok {t = sign} e))) m.derives) (Derives.seq (derives_of o) (Derives.seq (derives_of s) (derives_of r)))))))))

mixed_of : {xs ms ks ls ys : List Lexeme} {us ws rs : List Value} {u w : Value} → Fits u w → Made Part.Front xs ms w → Shared Factors ms ks us → Shared Summands ks ls ws → Shared MayRange ls ys rs → Known Name.Term xs ys (whole u us ws rs) → Fitting Fits Part.Mixed xs ys (whole u us ws rs)
mixed_of {us = us} {ws = ws} {rs = rs} (Fits.same_term {f = f} {n = n} {x = x}) d p s r k =
    let v = term_at k in
    itself v.first v.name v.tree v.is (made_of (sym (term_value f n x (us ++ (ws ++ rs))) ∙ whole_term_value f n x (has_of p) (has_of s) (has_of r)) (plain_mixed f n x d p s r))
mixed_of (Fits.either_term {f = f} {n = n} {a = a} {x = x}) d p s r k = either_mixed f n a x d p s r k

known_term : {xs ys : List Lexeme} {v w : Value} → v ≡ w → Known Name.Term xs ys v → Known Name.Term xs ys w
known_term {xs = xs} {ys = ys} e k = subst (Known Name.Term xs ys) e k

pub term_mixed : (xs ys : List Lexeme) (vs : List Value) → Comes (rule_of Name.Term) xs ys vs → Known Name.Term xs ys (made Name.Term vs) → Fitting Fits Part.Mixed xs ys (made Name.Term vs)
term_mixed xs ys vs (Reads.seq {vs = rs} (Reads.call {v = v} m) r) k =
    let s = m.extra in
    let p = s.parts in
    let e = ap (λ u. made Name.Term (u ∷ rs)) (s.is ∙ ap (λ u. made Name.Sum (u ∷ s.rest)) p.is) in
    fit_of (sym e) (mixed_of p.front.fits p.front.derives p.factors s.summands (shared r) (known_term e k))

-- ---- formulas

fit_formula : {xs ys : List Lexeme} {p : Part} {v w : Value} → v ≡ w → Fitting FitsFormula p xs ys v → Fitting FitsFormula p xs ys w
fit_formula {xs = xs} {ys = ys} {p = p} e f = subst (Fitting FitsFormula p xs ys) e f

formula_itself : {xs ys : List Lexeme} {p : Part} {v : Value} (first : Lexeme) (g : FormulaTree) → v ≡ formula first g → Made p xs ys v → Fitting FitsFormula p xs ys v
formula_itself first g e d = fit_formula (sym e) (record { found = formula first g; derives = made_of e d; fits = FitsFormula.same_formula })

-- a formula in parentheses
inside : {xs ys : List Lexeme} (paren close : Lexeme) {v w : Value} → paren.terminal ≡ t.Open → close.terminal ≡ t.Close → FitsFormula v w → Made Part.Mixed xs (close ∷ ys) w → Fitting FitsFormula Part.Front (paren ∷ xs) ys (made Name.Member (token paren ∷ v ∷ token close ∷ []))
inside paren close e c (FitsFormula.same_formula {f = f} {g = g}) d = formula_itself paren g refl (made_of (sym (formula_value paren f g close e)) (Derives.call (Derives.right (Derives.right (Derives.right (Derives.right (Derives.right (Derives.right (Derives.left (Derives.seq (Derives.tok e) (Derives.right (Derives.followed d (Derives.tok c)))))))))))))
inside paren close e c (FitsFormula.either_formula {f = f} {a = a} {x = x}) d = record { found = either paren a x; derives = made_of (sym (alone_value paren f a x close e)) (Derives.call (Derives.right (Derives.right (Derives.right (Derives.right (Derives.right (Derives.right (Derives.left (Derives.seq (Derives.tok e) (Derives.right (Derives.followed d (Derives.left (Derives.tok c))))))))))))); fits = FitsFormula.either_formula }

pub member_front : (xs ys : List Lexeme) (vs : List Value) → Comes (rule_of Name.Member) xs ys vs → Known Name.Member xs ys (made Name.Member vs) → Fitting FitsFormula Part.Front xs ys (made Name.Member vs)
member_front xs ys vs (Reads.seq (Reads.left (Reads.tok {t = mark} e)) (Reads.left (Reads.call {v = v} m))) k =
    let s = k.sort in formula_itself s.0 s.1 s.2 (made_of (sym (front_kind t.Not mark (v ∷ []) _ e refl)) (Derives.call (Derives.left (Derives.seq (Derives.tok e) (Derives.left m.derives)))))
member_front xs ys vs (Reads.seq (Reads.left (Reads.tok {t = mark} e)) (Reads.right (Reads.seq (Reads.tok {t = paren} f) (Reads.seq (Reads.call {v = v} m) (Reads.tok {t = close} g))))) k =
    let s = k.sort in formula_itself s.0 s.1 s.2 (made_of (sym (front_kind t.Not mark (token paren ∷ v ∷ token close ∷ []) _ e refl)) (Derives.call (Derives.left (Derives.seq (Derives.tok e) (Derives.right (Derives.seq (Derives.tok f) (Derives.seq m.derives (Derives.tok g))))))))
member_front xs ys vs (Reads.seq (Reads.right Reads.empty) (Reads.left (Reads.call m))) k =
    let s = m.extra in fit_formula (ap (λ u. made Name.Member (u ∷ [])) (sym s.is)) (record { found = either s.first s.name s.tree; derives = s.front; fits = FitsFormula.either_formula })
member_front xs ys vs (Reads.seq (Reads.right Reads.empty) (Reads.right (Reads.seq (Reads.tok {t = paren} e) (Reads.seq (Reads.call m) (Reads.tok {t = close} c))))) k =
    let q = m.extra in inside paren close e c q.fits q.derives

pub conjunction_parts : (xs ys : List Lexeme) (vs : List Value) → Comes (rule_of Name.Conjunction) xs ys vs → ConjunctionParts xs ys (made Name.Conjunction vs)
conjunction_parts xs ys vs (Reads.seq {ys = ms} {vs = us} (Reads.call {v = v} m) rest) = record { between = ms; member = v; front = m.extra; rest = us; ands = shared rest; is = refl }

abbrev whole_of : Value → List Value → List Value → Value
whole_of u us ws = made Name.Formula (made Name.Conjunction (u ∷ us) ∷ ws)

formula_of : {xs ms ks ys : List Lexeme} {us ws : List Value} {u w : Value} → FitsFormula u w → Made Part.Front xs ms w → Shared Ands ms ks us → Shared Ors ks ys ws → Fitting FitsFormula Part.Mixed xs ys (whole_of u us ws)
formula_of (FitsFormula.same_formula {f = f} {g = g}) d a o = formula_itself f _ refl (made_of (whole_formula_value f g (has_of a) (has_of o)) (Derives.call (Derives.followed d (Derives.seq (derives_of a) (derives_of o)))))
formula_of (FitsFormula.either_formula {f = f} {a = a} {x = x}) d Reads.none Reads.none = record { found = either f a x; derives = Derives.call (Derives.followed d (Derives.right (Derives.seq Derives.none Derives.none))); fits = FitsFormula.either_formula }
formula_of (FitsFormula.either_formula {f = f} {a = a} {x = x}) d Reads.none (Reads.more {vs = ws} (Reads.seq (Reads.tok {t = sign} e) (Reads.call {v = w} m)) o) =
    let q = m.known.sort in
    formula_itself f _ refl
    (made_of (sym (connective_value f a x sign w ws q.0 q.1 q.2) ∙ whole_formula_value f (formulas.Atom a) Reads.none (has_of (Reads.more (Reads.seq (Reads.tok {t = sign} e) (Reads.call m)) o)))
    (Derives.call (Derives.followed d (Derives.right (Derives.seq Derives.none (Derives.more (Derives.seq (Derives.tok e) m.derives) (derives_of o)))))))
formula_of {ws = ws} (FitsFormula.either_formula {f = f} {a = a} {x = x}) d (Reads.more {vs = us} (Reads.seq (Reads.tok {t = sign} e) (Reads.call {v = w} m)) c) o =
    let q = m.known.sort in
    formula_itself f _ refl
    (made_of (sym (connective_value f a x sign w (us ++ ws) q.0 q.1 q.2) ∙ whole_formula_value f (formulas.Atom a) (has_of (Reads.more (Reads.seq (Reads.tok {t = sign} e) (Reads.call m)) c)) (has_of o))
    (Derives.call (Derives.followed d (Derives.right (Derives.seq (Derives.more (Derives.seq (Derives.tok e) m.derives) (derives_of c)) (derives_of o))))))

pub formula_mixed : (xs ys : List Lexeme) (vs : List Value) → Comes (rule_of Name.Formula) xs ys vs → Fitting FitsFormula Part.Mixed xs ys (made Name.Formula vs)
formula_mixed xs ys vs (Reads.seq {vs = ws} (Reads.call m) o) =
    let s = m.extra in fit_formula (ap (λ u. made Name.Formula (u ∷ ws)) (sym s.is)) (formula_of s.front.fits s.front.derives s.ands (shared o))

-- ---- ranks

pub target_from : (xs ys : List Lexeme) (vs : List Value) → Comes (rule_of Name.Target) xs ys vs → FormulaTarget xs ys (made Name.Target vs) ⊎ NameTarget xs ys (made Name.Target vs)
target_from xs ys vs (Reads.left (Reads.call {v = v} m)) = inl (record { inner = v; mixed = m.extra; is = refl })
target_from xs ys vs (Reads.right d) = inr (record { values = _; parts = shared d; is = refl })

formula_ranked : {xs ys : List Lexeme} {v w : Value} → FitsFormula v w → Made Part.Mixed xs ys w → Made (Part.Of Name.Ranked) xs ys (made Name.Ranked (made Name.Target (v ∷ []) ∷ []))
formula_ranked FitsFormula.same_formula d = Derives.call (Derives.right (Derives.followed d Derives.empty))
formula_ranked FitsFormula.either_formula d = Derives.call (Derives.right (Derives.followed d (Derives.right Derives.empty)))

name_ranked : {xs ys : List Lexeme} {us : List Value} → Shared (Tok t.Stars ⨾ Call Name.Ident) xs ys us → Made (Part.Of Name.Ranked) xs ys (made Name.Ranked (made Name.Target us ∷ []))
name_ranked (Reads.seq (Reads.tok {t = stars} e) (Reads.call {v = v} m)) = let s = m.known.sort in made_of (sym (named_target stars v s.name s.is)) (Derives.call (Derives.left (Derives.seq (Derives.tok e) m.derives)))

target_ranked : {xs ys : List Lexeme} {v : Value} → FormulaTarget xs ys v ⊎ NameTarget xs ys v → Made (Part.Of Name.Ranked) xs ys (made Name.Ranked (v ∷ []))
target_ranked (inl q) = made_of (ap (λ u. made Name.Ranked (u ∷ [])) (sym q.is)) (formula_ranked q.mixed.fits q.mixed.derives)
target_ranked (inr q) = made_of (ap (λ u. made Name.Ranked (u ∷ [])) (sym q.is)) (name_ranked q.parts)

term_weights : {xs ms ys : List Lexeme} {vs : List Value} (f : Lexeme) (n : Option AtomTree) (x : TermTree) → Made Part.Mixed xs ms (term f n x) → Derives factored weights_rest ms ys vs → Made (Part.Of Name.Ranked) xs ys (made Name.Ranked (term f n x ∷ vs))
term_weights f (Some a) x d r = Derives.call (Derives.right (Derives.followed d r))
term_weights f None x d r = Derives.call (Derives.right (Derives.followed d r))

either_weights : {xs ms ys : List Lexeme} {vs : List Value} (f : Lexeme) (n : Option AtomTree) (a : AtomTree) (x : TermTree) → Made Part.Mixed xs ms (either f a x) → Derives factored weights_rest ms ys vs → Made (Part.Of Name.Ranked) xs ys (made Name.Ranked (term f n x ∷ vs))
either_weights f n a x d (Derives.seq Derives.none (Derives.seq (Derives.tok e) m)) = Derives.call (Derives.right (Derives.followed d (Derives.left (Derives.seq Derives.none (Derives.seq (Derives.tok e) m)))))
either_weights f n a x d (Derives.seq (Derives.more (Derives.seq (Derives.tok c) m) o) r) = Derives.call (Derives.right (Derives.followed d (Derives.left (Derives.seq (Derives.more (Derives.seq (Derives.tok c) m) o) r))))

weights_of : {xs ms ys : List Lexeme} {vs : List Value} {v w : Value} → Fits v w → Made Part.Mixed xs ms w → Derives factored weights_rest ms ys vs → Made (Part.Of Name.Ranked) xs ys (made Name.Ranked (v ∷ vs))
weights_of (Fits.same_term {f = f} {n = n} {x = x}) d r = term_weights f n x d r
weights_of (Fits.either_term {f = f} {n = n} {a = a} {x = x}) d r = either_weights f n a x d r

pub ranked_from : (xs ys : List Lexeme) (vs : List Value) → Comes (rule_of Name.Ranked) xs ys vs → Made (Part.Of Name.Ranked) xs ys (made Name.Ranked vs)
ranked_from xs ys vs (Reads.seq (Reads.right Reads.empty) (Reads.call m)) = target_ranked m.extra
ranked_from xs ys vs (Reads.seq (Reads.left (Reads.seq (Reads.seq {vs = ws} (Reads.call {v = v} m) others) (Reads.tok {t = weighs} e))) (Reads.call {v = goal} n)) =
    let q = m.extra in
    made_of (ap (λ us. made Name.Ranked us) (sym (joined_weights v ws (token weighs) goal))) (weights_of q.fits q.derives (Derives.seq (factored_all others) (Derives.seq (Derives.tok e) n.derives)))
