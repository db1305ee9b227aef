-- Relations, and what the next token tells.
use Rattle.std.proofs.Common.{◌≡◌, List, [], ◌∷◌, Some, None, Bool, true, false, refl, sym, ap}
use Rattle.grammar.specs.Fault.{next_kind}
use Rattle.grammar.specs.Form.Form.{Call}
use Rattle.grammar.specs.Takes.{Takes, Fails, Starts, NotStarts}
use Rattle.grammar.proofs.Laws.{or_false}
use Rattle.ap_syntax.specs.declared.terms.Rel.{Rel}
use Rattle.ap_grammar.specs.declared.terminals.Terminal.{Terminal}
use Rattle.ap_grammar.specs.declared.terminals.Terminal.TheVariants as t
use Rattle.ap_grammar.specs.Lexemes.{Lexeme}
use Rattle.ap_grammar.specs.Values.{Value}
use Rattle.ap_grammar.specs.Values.Value.{relation}
use Rattle.ap_grammar.specs.Grammar.{Name, relation_of}
use Rattle.ap_grammar.specs.Factored.{Part, Rhs, call, factored, part_rule}
use Rattle.ap_grammar.specs.Tables.{tables}
use Rattle.literal_parse.specs.Literals.{IsRel, IsSign}
use Rattle.literal_parse.specs.Reads.{Tells, behind}
use Rattle.literal_parse.proofs.Steps.{fails_tok, giving, not_same}

-- ---- what the next token tells

-- no form begins at the end
pub at_end : (a : Rhs) (ts : List Lexeme) → next_kind factored ts ≡ None → NotStarts factored tables a ts
at_end a [] e = tt
at_end a (token ∷ ts) e = absurd (cc)

pub tells_by : (n : Part) (ts : List Lexeme) (k : Terminal) (b : Bool) → next_kind factored ts ≡ Some k → b ≡ tables.first n k → Tells (Call n) ts b
tells_by n [] k b e h = absurd (cc)
tells_by n (token ∷ ts) k true e h = let f : token.terminal ≡ k = cc in rw f (sym h)
tells_by n (token ∷ ts) k false e h = let f : token.terminal ≡ k = cc in rw f (sym h)

pub no_term : (k : Terminal) → (k ≡ t.Number → ⊥) → (k ≡ t.Base → ⊥) → (k ≡ t.Preference → ⊥) → (k ≡ t.Word → ⊥) → (k ≡ t.Variable → ⊥) → (k ≡ t.Any → ⊥) → (k ≡ t.String → ⊥) → (k ≡ t.Open → ⊥) → (k ≡ t.Minus → ⊥) → tables.first (Part.Of Name.Term) k ≡ false
no_term k a b c d e f g h i = rw (not_same k t.Number a, not_same k t.Base b, not_same k t.Preference c, not_same k t.Word d, not_same k t.Variable e, not_same k t.Any f, not_same k t.String g, not_same k t.Open h, not_same k t.Minus i) refl

-- but for `not` literals begin as terms do
pub literal_start : (k : Terminal) → (k ≡ t.Not → ⊥) → tables.first (Part.Of Name.Literals) k ≡ tables.first (Part.Of Name.Term) k
literal_start k h = rw (not_same k t.Not h) refl

-- ---- relations

pub no_relation : (k : Terminal) → (k ≡ t.Equal → ⊥) → (k ≡ t.Same → ⊥) → (k ≡ t.Unequal → ⊥) → (k ≡ t.Less → ⊥) → (k ≡ t.AtMost → ⊥) → (k ≡ t.Greater → ⊥) → (k ≡ t.AtLeast → ⊥) → tables.first (Part.Of Name.Relation) k ≡ false
no_relation k a b c d e f g = rw (not_same k t.Equal a, not_same k t.Same b, not_same k t.Unequal c, not_same k t.Less d, not_same k t.AtMost e, not_same k t.Greater f, not_same k t.AtLeast g) refl

pub other_token : (n : Part) (ts : List Lexeme) (k : Terminal) → next_kind factored ts ≡ Some k → tables.first n k ≡ false → NotStarts factored tables (Call n) ts
other_token n ts k e h = tells_by n ts k false e (sym h)

pub sign_read : (xs ys : List Lexeme) (k : Terminal) (r : Rel) → next_kind factored xs ≡ Some k → ys ≡ behind xs → IsRel k r → IsSign xs ys r
sign_read [] ys k r e h i = absurd (cc)
sign_read (token ∷ ts) ys k r e h i = let f : token.terminal ≡ k = cc in record { token = token; is = ap (λ us. token ∷ us) (sym h); kind = rw f i }

-- the value of a sign
rel_made : (token : Lexeme) (k : Terminal) (r : Rel) → token.terminal ≡ k → IsRel k r → relation (relation_of token.terminal) ≡ relation r
rel_made token k r e IsRel.equal = rw e refl
rel_made token k r e IsRel.same = rw e refl
rel_made token k r e IsRel.unequal = rw e refl
rel_made token k r e IsRel.less = rw e refl
rel_made token k r e IsRel.at_most = rw e refl
rel_made token k r e IsRel.greater = rw e refl
rel_made token k r e IsRel.at_least = rw e refl

rel_takes : (token : Lexeme) (k : Terminal) (r : Rel) (ts : List Lexeme) → token.terminal ≡ k → IsRel k r → Takes factored tables (part_rule (Part.Of Name.Relation)) (token ∷ ts) ts (Value.token token ∷ [])
rel_takes token k r ts e IsRel.equal = Takes.left (rw e refl) (Takes.tok e)
rel_takes token k r ts e IsRel.same = Takes.right (rw e refl) (Takes.left (rw e refl) (Takes.tok e))
rel_takes token k r ts e IsRel.unequal = Takes.right (rw e refl) (Takes.right (rw e refl) (Takes.left (rw e refl) (Takes.tok e)))
rel_takes token k r ts e IsRel.less = Takes.right (rw e refl) (Takes.right (rw e refl) (Takes.right (rw e refl) (Takes.left (rw e refl) (Takes.tok e))))
rel_takes token k r ts e IsRel.at_most = Takes.right (rw e refl) (Takes.right (rw e refl) (Takes.right (rw e refl) (Takes.right (rw e refl) (Takes.left (rw e refl) (Takes.tok e)))))
rel_takes token k r ts e IsRel.greater = Takes.right (rw e refl) (Takes.right (rw e refl) (Takes.right (rw e refl) (Takes.right (rw e refl) (Takes.right (rw e refl) (Takes.left (rw e refl) (Takes.tok e))))))
rel_takes token k r ts e IsRel.at_least = Takes.right (rw e refl) (Takes.right (rw e refl) (Takes.right (rw e refl) (Takes.right (rw e refl) (Takes.right (rw e refl) (Takes.right (rw e refl) (Takes.tok e))))))

pub sign_takes : {xs ys : List Lexeme} {r : Rel} → IsSign xs ys r → Takes factored tables (call Name.Relation) xs ys (relation r ∷ [])
sign_takes {ys = ys} {r = r} s = rw s.is (giving (ap (λ v. v ∷ []) (rel_made s.token s.token.terminal r refl s.kind)) (Takes.call (rel_takes s.token s.token.terminal r ys refl s.kind)))

starts_by : (token : Lexeme) (k : Terminal) (r : Rel) (ts : List Lexeme) → token.terminal ≡ k → IsRel k r → Starts factored tables (call Name.Relation) (token ∷ ts)
starts_by token k r ts e IsRel.equal = rw e refl
starts_by token k r ts e IsRel.same = rw e refl
starts_by token k r ts e IsRel.unequal = rw e refl
starts_by token k r ts e IsRel.less = rw e refl
starts_by token k r ts e IsRel.at_most = rw e refl
starts_by token k r ts e IsRel.greater = rw e refl
starts_by token k r ts e IsRel.at_least = rw e refl

pub sign_starts : {xs ys : List Lexeme} {r : Rel} → IsSign xs ys r → Starts factored tables (call Name.Relation) xs
sign_starts {ys = ys} {r = r} s = rw s.is (starts_by s.token s.token.terminal r ys refl s.kind)

pub relation_fails : (xs : List Lexeme) → NotStarts factored tables (call Name.Relation) xs → Fails factored tables (call Name.Relation) xs xs
relation_fails [] h = Fails.call (Fails.right tt (Fails.right tt (Fails.right tt (Fails.right tt (Fails.right tt (Fails.right tt Fails.tok_end))))))
relation_fails (token ∷ ts) h =
    let a = or_false _ _ h in
    let b = or_false _ _ a.1 in
    let c = or_false _ _ b.1 in
    let d = or_false _ _ c.1 in
    let e = or_false _ _ d.1 in
    let f = or_false _ _ e.1 in
    let g = or_false _ _ f.1 in
    Fails.call (Fails.right a.0 (Fails.right b.0 (Fails.right c.0 (Fails.right d.0 (Fails.right e.0 (Fails.right f.0 (fails_tok t.AtLeast (token ∷ ts) g.0)))))))
