-- From the factored grammar to the documented one: bodies, primary terms and single statements.
use Rattle.std.proofs.Common.{◌≡◌, Bool, List, [], ◌∷◌, Option, Some, None, ap, inl, inr}
use Rattle.grammar.specs.Form.{◌⨾◌, ◌∣◌, opt}
use Rattle.grammar.specs.Form.Form.{Tok, Call}
use Rattle.grammar.proofs.Interpret.{Reads}
use Rattle.ap_syntax.specs.declared.terms.Atom.{Atom as AtomTree}
use Rattle.ap_syntax.specs.declared.terms.Term.{Term as TermTree}
use Rattle.ap_syntax.specs.declared.rules.Guard.{Guard}
use Rattle.ap_grammar.specs.declared.terminals.Terminal.TheVariants as t
use Rattle.ap_grammar.specs.Lexemes.{Lexeme}
use Rattle.ap_grammar.specs.Values.{Value, class_of}
use Rattle.ap_grammar.specs.Values.Value.{token, term, left}
use Rattle.ap_grammar.specs.Grammar.{Name, made, many}
use Rattle.ap_grammar.specs.Factored.{Part, part_rule, call, aggregate_form, core_behind, negated_behind, next_item, core_made, negated_made, body_made, open_item_made, opened, opening}
use Rattle.ap_grammar.proofs.Sorts.{Has, Known}
use Rattle.ap_grammar.proofs.Known.{known_step}
use Rattle.ap_grammar.proofs.ToTexts.{May, Means, IsCore, documented, known_of}
use Rattle.ap_grammar.proofs.ToBodies.{atom_at, term_at}

-- ---- aggregates

-- an aggregate behind its left guard, and behind `not` where there is one
guarded_to : (first : Lexeme) (g : Guard) {xs ms ks ys : List Lexeme} {v : Value} {rs : List Value} → Known Name.LeftGuard xs ms (left first g) → Known Name.Aggregate ms ks v → Has (opt (Call Name.RightGuard)) ks ys rs → Known Name.OpenItem xs ys (made Name.OpenItem (left first g ∷ v ∷ rs))
guarded_to first g k n rest = known_step Name.OpenItem _ _ _ (Reads.right (Reads.seq (Reads.right Reads.empty) (Reads.seq (Reads.left (Reads.call k)) (Reads.seq (Reads.call n) rest))))

negated_to : (mark first : Lexeme) (g : Guard) {xs ms ks ys : List Lexeme} {v : Value} {rs : List Value} → mark.terminal ≡ t.Not → Known Name.LeftGuard xs ms (left first g) → Known Name.Aggregate ms ks v → Has (opt (Call Name.RightGuard)) ks ys rs → Known Name.OpenItem (mark ∷ xs) ys (made Name.OpenItem (token mark ∷ left first g ∷ v ∷ rs))
negated_to mark first g e k n rest = known_step Name.OpenItem _ _ _ (Reads.right (Reads.seq (Reads.left (Reads.tok e)) (Reads.seq (Reads.left (Reads.call k)) (Reads.seq (Reads.call n) rest))))

plain_guard : (first : Lexeme) (name : Option AtomTree) (x : TermTree) {xs ms : List Lexeme} → Known Name.Term xs ms (term first name x) → Known Name.LeftGuard xs ms (made Name.LeftGuard (term first name x ∷ []))
plain_guard first name x k = known_step Name.LeftGuard _ _ _ (Reads.seq (Reads.call k) (Reads.right Reads.empty))

signed_guard : (first : Lexeme) (name : Option AtomTree) (x : TermTree) {xs ms ks : List Lexeme} {w : Value} → Known Name.Term xs ms (term first name x) → Known Name.Relation ms ks w → Known Name.LeftGuard xs ks (made Name.LeftGuard (term first name x ∷ w ∷ []))
signed_guard first name x k n = known_step Name.LeftGuard _ _ _ (Reads.seq (Reads.call k) (Reads.left (Reads.call n)))

-- ---- items

-- behind a term comes an aggregate
core_aggregate : (first : Lexeme) (name : Option AtomTree) (x : TermTree) {xs ms ys : List Lexeme} {vs : List Value} → Known Name.Term xs ms (term first name x) → May aggregate_form ms ys vs → IsCore xs ys (core_made (term first name x ∷ vs))
core_aggregate first name x k (Reads.seq (Reads.call n) rest) =
    let r = n.sort in
    let i = guarded_to first _ (plain_guard first name x k) (known_of r.3 n) (documented (opt (Call Name.RightGuard)) _ _ _ rest) in
    rw r.3 (IsCore.is_aggregate i)

core_related : (first : Lexeme) (name : Option AtomTree) (x : TermTree) {xs ms ks ys : List Lexeme} {w : Value} {vs : List Value} → Known Name.Term xs ms (term first name x) → Known Name.Relation ms ks w → May (aggregate_form ∣ call Name.Term) ks ys vs → IsCore xs ys (core_made (term first name x ∷ w ∷ vs))
core_related first name x k o (Reads.left (Reads.seq (Reads.call n) rest)) =
    let q = o.sort in
    let r = n.sort in
    let i = guarded_to first _ (known_of (ap (λ u. made Name.LeftGuard (term first name x ∷ u ∷ [])) q.1) (signed_guard first name x k o)) (known_of r.3 n) (documented (opt (Call Name.RightGuard)) _ _ _ rest) in
    rw (q.1, r.3) (IsCore.is_aggregate i)
core_related first name x k o (Reads.right (Reads.call n)) =
    let q = o.sort in
    let s = term_at n in
    let i = known_step Name.Literal _ _ _ (Reads.right (Reads.seq (Reads.call k) (Reads.seq (Reads.call (known_of q.1 o)) (Reads.call s.known)))) in
    rw (q.1, s.is) (IsCore.is_literal i)

core_behind_to : (first : Lexeme) (name : Option AtomTree) (x : TermTree) {xs ms ys : List Lexeme} {vs : List Value} → Known Name.Term xs ms (term first name x) → May (core_behind (class_of (term first name x ∷ []))) ms ys vs → IsCore xs ys (core_made (term first name x ∷ vs))
core_behind_to first (Some a) x k (Reads.left (Reads.seq (Reads.call o) d)) = core_related first (Some a) x k o d
core_behind_to first (Some a) x k (Reads.right (Reads.left d)) = core_aggregate first (Some a) x k d
core_behind_to first (Some a) x k (Reads.right (Reads.right Reads.empty)) = IsCore.is_literal (known_step Name.Literal _ _ _ (Reads.left (Reads.seq (Reads.right Reads.empty) (Reads.call (atom_at k)))))
core_behind_to first None x k (Reads.left (Reads.seq (Reads.call o) d)) = core_related first None x k o d
core_behind_to first None x k (Reads.right d) = core_aggregate first None x k d

pub core_to : (xs ys : List Lexeme) (vs : List Value) → May (part_rule Part.Core) xs ys vs → IsCore xs ys (core_made vs)
core_to xs ys vs (Reads.left (Reads.seq (Reads.tok {t = mark} e) (Reads.call m))) = m mark e
core_to xs ys vs (Reads.right (Reads.left (Reads.seq (Reads.call n) rest))) =
    let r = n.sort in
    let i = known_step Name.OpenItem _ _ _ (Reads.right (Reads.seq (Reads.right Reads.empty) (Reads.seq (Reads.right Reads.empty) (Reads.seq (Reads.call (known_of r.3 n)) (documented (opt (Call Name.RightGuard)) _ _ _ rest))))) in
    rw r.3 (IsCore.is_aggregate i)
core_to xs ys vs (Reads.right (Reads.right (Reads.followed (Reads.call {v = v} m) rest))) = let s = term_at m in rw s.is (core_behind_to s.first s.name s.tree s.known (rw s.is at rest))

-- ---- behind `not`

negated_aggregate : (mark first : Lexeme) (name : Option AtomTree) (x : TermTree) {xs ms ys : List Lexeme} {vs : List Value} → mark.terminal ≡ t.Not → Known Name.Term xs ms (term first name x) → May aggregate_form ms ys vs → IsCore (mark ∷ xs) ys (core_made (token mark ∷ negated_made (term first name x ∷ vs) ∷ []))
negated_aggregate mark first name x e k (Reads.seq (Reads.call n) rest) =
    let r = n.sort in
    let i = negated_to mark first _ e (plain_guard first name x k) (known_of r.3 n) (documented (opt (Call Name.RightGuard)) _ _ _ rest) in
    rw r.3 (IsCore.is_aggregate i)

negated_related : (mark first : Lexeme) (name : Option AtomTree) (x : TermTree) {xs ms ks ys : List Lexeme} {w : Value} {vs : List Value} → mark.terminal ≡ t.Not → Known Name.Term xs ms (term first name x) → Known Name.Relation ms ks w → May aggregate_form ks ys vs → IsCore (mark ∷ xs) ys (core_made (token mark ∷ negated_made (term first name x ∷ w ∷ vs) ∷ []))
negated_related mark first name x e k o (Reads.seq (Reads.call n) rest) =
    let q = o.sort in
    let r = n.sort in
    let i = negated_to mark first _ e (known_of (ap (λ u. made Name.LeftGuard (term first name x ∷ u ∷ [])) q.1) (signed_guard first name x k o)) (known_of r.3 n) (documented (opt (Call Name.RightGuard)) _ _ _ rest) in
    rw (q.1, r.3) (IsCore.is_aggregate i)

negated_behind_to : (mark first : Lexeme) (name : Option AtomTree) (x : TermTree) {xs ms ys : List Lexeme} {vs : List Value} → mark.terminal ≡ t.Not → Known Name.Term xs ms (term first name x) → May (negated_behind (class_of (term first name x ∷ []))) ms ys vs → IsCore (mark ∷ xs) ys (core_made (token mark ∷ negated_made (term first name x ∷ vs) ∷ []))
negated_behind_to mark first (Some a) x e k (Reads.left (Reads.seq (Reads.call o) d)) = negated_related mark first (Some a) x e k o d
negated_behind_to mark first (Some a) x e k (Reads.right (Reads.left d)) = negated_aggregate mark first (Some a) x e k d
negated_behind_to mark first (Some a) x e k (Reads.right (Reads.right Reads.empty)) = IsCore.is_literal (known_step Name.Literal _ _ _ (Reads.left (Reads.seq (Reads.left (Reads.tok e)) (Reads.call (atom_at k)))))
negated_behind_to mark first None x e k (Reads.left (Reads.seq (Reads.call o) d)) = negated_related mark first None x e k o d
negated_behind_to mark first None x e k (Reads.right d) = negated_aggregate mark first None x e k d

pub negated_part : (xs ys : List Lexeme) (vs : List Value) → May (part_rule Part.Negated) xs ys vs → Means Part.Negated xs ys (negated_made vs)
negated_part xs ys vs (Reads.left (Reads.seq (Reads.call n) rest)) mark e =
    let r = n.sort in
    let i = known_step Name.OpenItem _ _ _ (Reads.right (Reads.seq (Reads.left (Reads.tok e)) (Reads.seq (Reads.right Reads.empty) (Reads.seq (Reads.call (known_of r.3 n)) (documented (opt (Call Name.RightGuard)) _ _ _ rest))))) in
    rw r.3 (IsCore.is_aggregate i)
negated_part xs ys vs (Reads.right (Reads.followed (Reads.call {v = v} m) rest)) mark e = let s = term_at m in rw s.is (negated_behind_to mark s.first s.name s.tree e s.known (rw s.is at rest))

-- ---- bodies

next_to : {xs ys : List Lexeme} {vs : List Value} → May next_item xs ys vs → Has (opt ((Tok t.Comma ∣ Tok t.Semicolon) ⨾ Call Name.Body)) xs ys vs
next_to d = documented (opt ((Tok t.Comma ∣ Tok t.Semicolon) ⨾ Call Name.Body)) _ _ _ d

plain_body : {xs ms ys : List Lexeme} {v : Value} {vs : List Value} → Known Name.OpenItem xs ms v → Has (opt ((Tok t.Comma ∣ Tok t.Semicolon) ⨾ Call Name.Body)) ms ys vs → Known Name.Body xs ys (made Name.Body (v ∷ vs))
plain_body k d = known_step Name.Body _ _ _ (Reads.left (Reads.seq (Reads.call k) d))

pub body_to : (xs ys : List Lexeme) (vs : List Value) → May (part_rule (Part.Of Name.Body)) xs ys vs → Known Name.Body xs ys (body_made vs)
body_to xs ys vs (Reads.followed (Reads.call (IsCore.is_literal k)) (Reads.left (Reads.seq (Reads.call n) rest))) =
    let r = n.sort in
    let i = known_step Name.Conditional _ _ _ (Reads.seq (Reads.call k) (Reads.call (known_of r.1 n))) in
    rw r.1 (known_step Name.Body _ _ _ (Reads.right (Reads.seq (Reads.call i) (documented (opt (Tok t.Semicolon ⨾ Call Name.Body)) _ _ _ rest))))
body_to xs ys vs (Reads.followed (Reads.call (IsCore.is_literal k)) (Reads.right (Reads.left (Reads.seq (Reads.left (Reads.tok {t = sign} e)) d)))) =
    plain_body (known_step Name.OpenItem _ _ _ (Reads.left (Reads.call k))) (next_to (Reads.left (Reads.seq (Reads.left (Reads.tok {t = sign} e)) d)))
body_to xs ys vs (Reads.followed (Reads.call (IsCore.is_literal k)) (Reads.right (Reads.left (Reads.seq (Reads.right (Reads.tok {t = sign} e)) d)))) =
    plain_body (known_step Name.OpenItem _ _ _ (Reads.left (Reads.call k))) (next_to (Reads.left (Reads.seq (Reads.right (Reads.tok {t = sign} e)) d)))
body_to xs ys vs (Reads.followed (Reads.call (IsCore.is_literal k)) (Reads.right (Reads.right Reads.empty))) =
    plain_body (known_step Name.OpenItem _ _ _ (Reads.left (Reads.call k))) (Reads.right Reads.empty)
body_to xs ys vs (Reads.followed (Reads.call (IsCore.is_aggregate k)) d) = plain_body k (next_to d)

pub open_item_to : (xs ys : List Lexeme) (vs : List Value) → May (part_rule (Part.Of Name.OpenItem)) xs ys vs → Known Name.OpenItem xs ys (open_item_made vs)
open_item_to xs ys vs (Reads.call (IsCore.is_literal k)) = known_step Name.OpenItem _ _ _ (Reads.left (Reads.call k))
open_item_to xs ys vs (Reads.call (IsCore.is_aggregate k)) = k

-- ---- primary terms

pub primary_to : (xs ys : List Lexeme) (vs : List Value) → May (part_rule (Part.Of Name.Primary)) xs ys vs → Known Name.Primary xs ys (made Name.Primary vs)
primary_to xs ys vs (Reads.left (Reads.tok e)) = known_step Name.Primary _ _ _ (Reads.left (Reads.tok e))
primary_to xs ys vs (Reads.right (Reads.left (Reads.tok e))) = known_step Name.Primary _ _ _ (Reads.right (Reads.left (Reads.tok e)))
primary_to xs ys vs (Reads.right (Reads.right (Reads.left (Reads.tok e)))) = known_step Name.Primary _ _ _ (Reads.right (Reads.right (Reads.left (Reads.tok e))))
primary_to xs ys vs (Reads.right (Reads.right (Reads.right (Reads.left (Reads.tok e))))) = known_step Name.Primary _ _ _ (Reads.right (Reads.right (Reads.right (Reads.left (Reads.tok e)))))
primary_to xs ys vs (Reads.right (Reads.right (Reads.right (Reads.right (Reads.left (Reads.seq (Reads.tok e) (Reads.left (Reads.tok f)))))))) = known_step Name.Primary _ _ _ (Reads.right (Reads.right (Reads.right (Reads.right (Reads.right (Reads.right (Reads.left (Reads.seq (Reads.tok e) (Reads.tok f)))))))))
primary_to xs ys vs (Reads.right (Reads.right (Reads.right (Reads.right (Reads.left (Reads.seq (Reads.tok e) (Reads.right (Reads.seq (Reads.call m) (Reads.left (Reads.tok f)))))))))) = known_step Name.Primary _ _ _ (Reads.right (Reads.right (Reads.right (Reads.right (Reads.right (Reads.left (Reads.seq (Reads.tok e) (Reads.seq (Reads.call m) (Reads.tok f)))))))))
primary_to xs ys vs (Reads.right (Reads.right (Reads.right (Reads.right (Reads.left (Reads.seq (Reads.tok e) (Reads.right (Reads.seq (Reads.call m) (Reads.right (Reads.seq (Reads.tok f) (Reads.left (Reads.tok g)))))))))))) = known_step Name.Primary _ _ _ (Reads.right (Reads.right (Reads.right (Reads.right (Reads.right (Reads.right (Reads.right (Reads.left (Reads.seq (Reads.tok e) (Reads.seq (Reads.call m) (Reads.seq (Reads.tok f) (Reads.tok g))))))))))))
primary_to xs ys vs (Reads.right (Reads.right (Reads.right (Reads.right (Reads.left (Reads.seq (Reads.tok e) (Reads.right (Reads.seq (Reads.call m) (Reads.right (Reads.seq (Reads.tok f) (Reads.right (Reads.seq d (Reads.tok g))))))))))))) = known_step Name.Primary _ _ _ (Reads.right (Reads.right (Reads.right (Reads.right (Reads.right (Reads.right (Reads.right (Reads.right (Reads.seq (Reads.tok e) (Reads.seq (Reads.call m) (Reads.seq (Reads.tok f) (Reads.seq (documented (many (Call Name.Term) t.Comma) _ _ _ d) (Reads.tok g)))))))))))))
primary_to xs ys vs (Reads.right (Reads.right (Reads.right (Reads.right (Reads.right (Reads.seq (Reads.call m) d)))))) = known_step Name.Primary _ _ _ (Reads.right (Reads.right (Reads.right (Reads.right (Reads.left (Reads.seq (Reads.call m) (documented (opt (Call Name.Arguments)) _ _ _ d)))))))

-- ---- single statements

pub opening_to : (xs ys : List Lexeme) (vs : List Value) → May (part_rule Part.Opening) xs ys vs → Means Part.Opening xs ys (opening (opened vs))
opening_to xs ys vs (Reads.seq (Reads.tok e) (Reads.left (Reads.seq (Reads.tok f) (Reads.seq (Reads.tok g) Reads.empty)))) =
    inl (known_step Name.BaseOpening _ _ _ (Reads.seq (Reads.tok e) (Reads.seq (Reads.tok f) (Reads.tok g))))
opening_to xs ys vs (Reads.seq (Reads.tok {t = first} e) (Reads.right (Reads.seq (Reads.tok {t = word} f) (Reads.seq (Reads.tok {t = paren} g) (Reads.seq (Reads.call m) (Reads.seq (Reads.tok {t = close} h) (Reads.seq (Reads.tok {t = dot} i) Reads.empty))))))) =
    let s = m.sort in
    let k = known_step Name.TypeOpening _ _ _ (Reads.seq (Reads.tok {t = first} e) (Reads.seq (Reads.tok {t = word} f) (Reads.seq (Reads.tok {t = paren} g) (Reads.seq (Reads.call m) (Reads.seq (Reads.tok {t = close} h) (Reads.tok {t = dot} i)))))) in
    inr (rw s.1 (rw s.1 at k))

pub one_to : (of_type : Bool) (xs ys : List Lexeme) (vs : List Value) → May (part_rule (Part.Of (Name.One of_type))) xs ys vs → Known (Name.One of_type) xs ys (made (Name.One of_type) vs)
one_to of_type xs ys vs (Reads.left (Reads.call m)) = known_step (Name.One of_type) _ _ _ (Reads.left (Reads.call m))
one_to of_type xs ys vs (Reads.right (Reads.call (inl m))) = known_step (Name.One of_type) _ _ _ (Reads.right (Reads.left (Reads.call m)))
one_to of_type xs ys vs (Reads.right (Reads.call (inr m))) = known_step (Name.One of_type) _ _ _ (Reads.right (Reads.right (Reads.call m)))
