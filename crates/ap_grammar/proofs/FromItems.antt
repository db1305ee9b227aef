-- From the documented grammar to the factored one: literals, heads and bodies.
use Rattle.std.proofs.Common.{◌≡◌, List, [], ◌∷◌, Option, Some, None, refl, sym, ap, ◌∙◌, subst, ◌⊎◌, inl, inr}
use Rattle.grammar.specs.Form.{Form, Derives, ◌⨾◌, ◌∣◌, opt}
use Rattle.grammar.specs.Form.Form.{Tok, Call}
use Rattle.grammar.proofs.Interpret.{Reads}
use Rattle.ap_syntax.specs.declared.terms.Atom.{Atom as AtomTree}
use Rattle.ap_syntax.specs.declared.terms.Literal.{Literal as LiteralTree}
use Rattle.ap_syntax.specs.declared.terms.Rel.{Rel}
use Rattle.ap_syntax.specs.declared.terms.Rel.TheVariants.{Le}
use Rattle.ap_syntax.specs.declared.terms.Term.{Term as TermTree}
use Rattle.ap_syntax.specs.declared.rules.AggElement.{AggElement}
use Rattle.ap_syntax.specs.declared.rules.BodyItem.{BodyItem}
use Rattle.ap_syntax.specs.declared.rules.BodyItem.TheVariants as items
use Rattle.ap_syntax.specs.declared.rules.Function.{Function}
use Rattle.ap_grammar.specs.declared.terminals.Terminal.{Terminal}
use Rattle.ap_grammar.specs.declared.terminals.Terminal.TheVariants as t
use Rattle.ap_grammar.specs.Lexemes.{Lexeme}
use Rattle.ap_grammar.specs.Values.{Value, Class}
use Rattle.ap_grammar.specs.Values.Value.{token, relation, term, literal, left, aggregate, item}
use Rattle.ap_grammar.specs.Grammar.{Name, rule_of, made}
use Rattle.ap_grammar.specs.Factored.{Part, factored, call, choice, open_item_made}
use Rattle.ap_grammar.proofs.Sorts.{Known}
use Rattle.ap_grammar.proofs.ToBodies.{term_at}
use Rattle.ap_grammar.proofs.FromTexts.{Made, Comes, AtomTerm, CoreItem, ConditionalItem, factored_all, made_of}
use Rattle.ap_grammar.proofs.FromBodies.{known_made}

-- ---- literals

-- `not` and an atom, an atom alone, and a comparison
negation_core : {xs ys : List Lexeme} (mark : Lexeme) → mark.terminal ≡ t.Not → {v : Value} → AtomTerm xs ys v → Made Part.Core (mark ∷ xs) ys (made Name.Literal (token mark ∷ v ∷ []))
negation_core mark e {v = v} s = made_of (ap (λ u. made Name.Literal (token mark ∷ u ∷ [])) (sym s.is)) (Derives.call (Derives.left (Derives.seq (Derives.tok e) (Derives.call (Derives.right (Derives.followed s.derives (Derives.right (Derives.right Derives.empty))))))))

atom_core : {xs ys : List Lexeme} {v : Value} → AtomTerm xs ys v → Made Part.Core xs ys (made Name.Literal (v ∷ []))
atom_core s = made_of (ap (λ u. made Name.Literal (u ∷ [])) (sym s.is)) (Derives.call (Derives.right (Derives.right (Derives.followed s.derives (Derives.right (Derives.right Derives.empty))))))

atom_literal : {xs ys : List Lexeme} {v : Value} → AtomTerm xs ys v → Made (Part.Of Name.Literal) xs ys (made Name.Literal (v ∷ []))
atom_literal s = made_of (ap (λ u. made Name.Literal (u ∷ [])) (sym s.is)) (Derives.call (Derives.right (Derives.followed s.derives (Derives.right Derives.empty))))

compared_literal : {xs ms ks ys : List Lexeme} (f : Lexeme) (n : Option AtomTree) (x : TermTree) {w u : Value} → Made (Part.Of Name.Term) xs ms (term f n x) → Made (Part.Of Name.Relation) ms ks w → Made (Part.Of Name.Term) ks ys u → Made (Part.Of Name.Literal) xs ys (made Name.Literal (term f n x ∷ w ∷ u ∷ []))
compared_literal f (Some a) x k r o = Derives.call (Derives.right (Derives.followed k (Derives.left (Derives.seq r o))))
compared_literal f None x k r o = Derives.call (Derives.right (Derives.followed k (Derives.seq r o)))

compared_core : {xs ms ks ys : List Lexeme} (f : Lexeme) (n : Option AtomTree) (x : TermTree) (r : Rel) (g : Lexeme) (m : Option AtomTree) (y : TermTree) → Made (Part.Of Name.Term) xs ms (term f n x) → Made (Part.Of Name.Relation) ms ks (relation r) → Made (Part.Of Name.Term) ks ys (term g m y) → Made Part.Core xs ys (made Name.Literal (term f n x ∷ relation r ∷ term g m y ∷ []))
compared_core f (Some a) x r g m y k d o = Derives.call (Derives.right (Derives.right (Derives.followed k (Derives.left (Derives.seq d (Derives.right o))))))
compared_core f None x r g m y k d o = Derives.call (Derives.right (Derives.right (Derives.followed k (Derives.left (Derives.seq d (Derives.right o))))))

pub literal_from : (xs ys : List Lexeme) (vs : List Value) → Comes (rule_of Name.Literal) xs ys vs → Made (Part.Of Name.Literal) xs ys (made Name.Literal vs) × Made Part.Core xs ys (made Name.Literal vs)
literal_from xs ys vs (Reads.left (Reads.seq (Reads.left (Reads.tok {t = mark} e)) (Reads.call m))) = (Derives.call (Derives.left (Derives.seq (Derives.tok e) m.derives)), negation_core mark e m.extra)
literal_from xs ys vs (Reads.left (Reads.seq (Reads.right Reads.empty) (Reads.call m))) = (atom_literal m.extra, atom_core m.extra)
literal_from xs ys vs (Reads.right (Reads.seq (Reads.call {v = v} m) (Reads.seq (Reads.call {v = w} n) (Reads.call {v = u} o)))) =
    let s = term_at m.known in
    let r = n.known.sort in
    let q = term_at o.known in (
      made_of (ap (λ z. made Name.Literal (z ∷ w ∷ u ∷ [])) (sym s.is)) (compared_literal s.first s.name s.tree (made_of s.is m.derives) n.derives o.derives),
      made_of (literal_values v w u s.first s.name s.tree r.0 q.first q.name q.tree s.is r.1 q.is) (compared_core s.first s.name s.tree r.0 q.first q.name q.tree (made_of s.is m.derives) (made_of r.1 n.derives) (made_of q.is o.derives)),
    )
  where
    literal_values : (v w u : Value) (f : Lexeme) (n : Option AtomTree) (x : TermTree) (r : Rel) (g : Lexeme) (m : Option AtomTree) (y : TermTree) → v ≡ term f n x → w ≡ relation r → u ≡ term g m y → made Name.Literal (term f n x ∷ relation r ∷ term g m y ∷ []) ≡ made Name.Literal (v ∷ w ∷ u ∷ [])
    literal_values v w u f n x r g m y e h i = rw (e, h, i) refl

-- ---- guards

-- a left guard: a term, and a relation or none
pub data GuardOf (xs ys : List Lexeme) : Value → Type 0 where
  plain : {f : Lexeme} {n : Option AtomTree} {x : TermTree} → Made (Part.Of Name.Term) xs ys (term f n x) → GuardOf xs ys (left f (record { rel = Le; term = x }))
  signed : {ms : List Lexeme} {f : Lexeme} {n : Option AtomTree} {x : TermTree} {r : Rel} → Made (Part.Of Name.Term) xs ms (term f n x) → Made (Part.Of Name.Relation) ms ys (relation r) → GuardOf xs ys (left f (record { rel = r; term = x }))

guard_value : {xs ys : List Lexeme} {v w : Value} → v ≡ w → GuardOf xs ys v → GuardOf xs ys w
guard_value {xs = xs} {ys = ys} e g = subst (GuardOf xs ys) e g

plain_guard : {xs ys : List Lexeme} {v : Value} → Made (Part.Of Name.Term) xs ys v → GuardOf xs ys (made Name.LeftGuard (v ∷ []))
plain_guard d = let s = term_at (known_made d) in guard_value (ap (λ u. made Name.LeftGuard (u ∷ [])) (sym s.is)) (GuardOf.plain (made_of s.is d))

signed_guard : {xs ms ys : List Lexeme} {v w : Value} → Made (Part.Of Name.Term) xs ms v → Made (Part.Of Name.Relation) ms ys w → GuardOf xs ys (made Name.LeftGuard (v ∷ w ∷ []))
signed_guard {v = v} {w = w} d e =
    let s = term_at (known_made d) in
    let r = (known_made {n = Name.Relation} e).sort in
    guard_value (values v w s.first s.name s.tree r.0 s.is r.1) (GuardOf.signed (made_of s.is d) (made_of r.1 e))
  where
    values : (v w : Value) (f : Lexeme) (n : Option AtomTree) (x : TermTree) (r : Rel) → v ≡ term f n x → w ≡ relation r → left f (record { rel = r; term = x }) ≡ made Name.LeftGuard (v ∷ w ∷ [])
    values v w f n x r e h = rw (e, h) refl

pub guard_of : {xs ys : List Lexeme} {v : Value} → Made (Part.Of Name.LeftGuard) xs ys v → GuardOf xs ys v
guard_of (Derives.call (Derives.seq (Derives.call d) (Derives.right Derives.empty))) = plain_guard (Derives.call d)
guard_of (Derives.call (Derives.seq (Derives.call d) (Derives.left (Derives.call e)))) = signed_guard (Derives.call d) (Derives.call e)

-- ---- aggregates

abbrev RightOpt : Form Part Terminal Class
RightOpt = opt (call Name.RightGuard)

plain_core : {xs ms ks ys : List Lexeme} (f : Lexeme) (n : Option AtomTree) (x : TermTree) (h : Lexeme) (fn : Function) (es : List AggElement) {rs : List Value} → Made (Part.Of Name.Term) xs ms (term f n x) → Made (Part.Of Name.Aggregate) ms ks (aggregate h fn es) → Derives factored RightOpt ks ys rs → Made Part.Core xs ys (made Name.OpenItem (left f (record { rel = Le; term = x }) ∷ aggregate h fn es ∷ rs))
plain_core f (Some a) x h fn es k d r = Derives.call (Derives.right (Derives.right (Derives.followed k (Derives.right (Derives.left (Derives.seq d r))))))
plain_core f None x h fn es k d r = Derives.call (Derives.right (Derives.right (Derives.followed k (Derives.right (Derives.seq d r)))))

signed_core : {xs ms ls ks ys : List Lexeme} (f : Lexeme) (n : Option AtomTree) (x : TermTree) (q : Rel) (h : Lexeme) (fn : Function) (es : List AggElement) {rs : List Value} → Made (Part.Of Name.Term) xs ms (term f n x) → Made (Part.Of Name.Relation) ms ls (relation q) → Made (Part.Of Name.Aggregate) ls ks (aggregate h fn es) → Derives factored RightOpt ks ys rs → Made Part.Core xs ys (made Name.OpenItem (left f (record { rel = q; term = x }) ∷ aggregate h fn es ∷ rs))
signed_core f (Some a) x q h fn es k c d r = Derives.call (Derives.right (Derives.right (Derives.followed k (Derives.left (Derives.seq c (Derives.left (Derives.seq d r)))))))
signed_core f None x q h fn es k c d r = Derives.call (Derives.right (Derives.right (Derives.followed k (Derives.left (Derives.seq c (Derives.left (Derives.seq d r)))))))

guarded_core : {xs ms ks ys : List Lexeme} {v : Value} (h : Lexeme) (fn : Function) (es : List AggElement) {rs : List Value} → GuardOf xs ms v → Made (Part.Of Name.Aggregate) ms ks (aggregate h fn es) → Derives factored RightOpt ks ys rs → Made Part.Core xs ys (made Name.OpenItem (v ∷ aggregate h fn es ∷ rs))
guarded_core h fn es (GuardOf.plain {f = f} {n = n} {x = x} k) d r = plain_core f n x h fn es k d r
guarded_core h fn es (GuardOf.signed {f = f} {n = n} {x = x} {r = q} k c) d r = signed_core f n x q h fn es k c d r

alone_core : {xs ks ys : List Lexeme} (h : Lexeme) (fn : Function) (es : List AggElement) {rs : List Value} → Made (Part.Of Name.Aggregate) xs ks (aggregate h fn es) → Derives factored RightOpt ks ys rs → Made Part.Core xs ys (made Name.OpenItem (aggregate h fn es ∷ rs))
alone_core h fn es d r = Derives.call (Derives.right (Derives.left (Derives.seq d r)))

-- the same behind `not`
plain_negated : {xs ms ks ys : List Lexeme} (mark f : Lexeme) (n : Option AtomTree) (x : TermTree) (h : Lexeme) (fn : Function) (es : List AggElement) {rs : List Value} → mark.terminal ≡ t.Not → Made (Part.Of Name.Term) xs ms (term f n x) → Made (Part.Of Name.Aggregate) ms ks (aggregate h fn es) → Derives factored RightOpt ks ys rs → Made Part.Core (mark ∷ xs) ys (made Name.OpenItem (token mark ∷ left f (record { rel = Le; term = x }) ∷ aggregate h fn es ∷ rs))
plain_negated mark f (Some a) x h fn es e k d r = Derives.call (Derives.left (Derives.seq (Derives.tok e) (Derives.call (Derives.right (Derives.followed k (Derives.right (Derives.left (Derives.seq d r))))))))
plain_negated mark f None x h fn es e k d r = Derives.call (Derives.left (Derives.seq (Derives.tok e) (Derives.call (Derives.right (Derives.followed k (Derives.right (Derives.seq d r)))))))

signed_negated : {xs ms ls ks ys : List Lexeme} (mark f : Lexeme) (n : Option AtomTree) (x : TermTree) (q : Rel) (h : Lexeme) (fn : Function) (es : List AggElement) {rs : List Value} → mark.terminal ≡ t.Not → Made (Part.Of Name.Term) xs ms (term f n x) → Made (Part.Of Name.Relation) ms ls (relation q) → Made (Part.Of Name.Aggregate) ls ks (aggregate h fn es) → Derives factored RightOpt ks ys rs → Made Part.Core (mark ∷ xs) ys (made Name.OpenItem (token mark ∷ left f (record { rel = q; term = x }) ∷ aggregate h fn es ∷ rs))
signed_negated mark f (Some a) x q h fn es e k c d r = Derives.call (Derives.left (Derives.seq (Derives.tok e) (Derives.call (Derives.right (Derives.followed k (Derives.left (Derives.seq c (Derives.seq d r))))))))
signed_negated mark f None x q h fn es e k c d r = Derives.call (Derives.left (Derives.seq (Derives.tok e) (Derives.call (Derives.right (Derives.followed k (Derives.left (Derives.seq c (Derives.seq d r))))))))

guarded_negated : {xs ms ks ys : List Lexeme} {v : Value} (mark h : Lexeme) (fn : Function) (es : List AggElement) {rs : List Value} → mark.terminal ≡ t.Not → GuardOf xs ms v → Made (Part.Of Name.Aggregate) ms ks (aggregate h fn es) → Derives factored RightOpt ks ys rs → Made Part.Core (mark ∷ xs) ys (made Name.OpenItem (token mark ∷ v ∷ aggregate h fn es ∷ rs))
guarded_negated mark h fn es e (GuardOf.plain {f = f} {n = n} {x = x} k) d r = plain_negated mark f n x h fn es e k d r
guarded_negated mark h fn es e (GuardOf.signed {f = f} {n = n} {x = x} {r = q} k c) d r = signed_negated mark f n x q h fn es e k c d r

alone_negated : {xs ks ys : List Lexeme} (mark h : Lexeme) (fn : Function) (es : List AggElement) {rs : List Value} → mark.terminal ≡ t.Not → Made (Part.Of Name.Aggregate) xs ks (aggregate h fn es) → Derives factored RightOpt ks ys rs → Made Part.Core (mark ∷ xs) ys (made Name.OpenItem (token mark ∷ aggregate h fn es ∷ rs))
alone_negated mark h fn es e d r = Derives.call (Derives.left (Derives.seq (Derives.tok e) (Derives.call (Derives.left (Derives.seq d r)))))

-- ---- items

item_core : {xs ys : List Lexeme} {v : Value} → Known Name.OpenItem xs ys v → Made Part.Core xs ys v → CoreItem xs ys v
item_core {v = v} k d = let s = k.sort in record { core = item s.0; derives = made_of s.1 d; is = s.1; sort = inr (s.0, refl) }

literal_item : {xs ys : List Lexeme} {v : Value} → (first : Lexeme) (l : LiteralTree) → v ≡ literal first l → Made Part.Core xs ys v → CoreItem xs ys (made Name.OpenItem (v ∷ []))
literal_item {v = v} first l e d = record { core = literal first l; derives = made_of e d; is = ap (λ u. made Name.OpenItem (u ∷ [])) e; sort = inl (first, l, refl) }

pub open_item_from : (xs ys : List Lexeme) (vs : List Value) → Comes (rule_of Name.OpenItem) xs ys vs → Known Name.OpenItem xs ys (made Name.OpenItem vs) → CoreItem xs ys (made Name.OpenItem vs)
open_item_from xs ys vs (Reads.left (Reads.call m)) k = let s = m.known.sort in literal_item s.0 s.1 s.2 m.extra
open_item_from xs ys vs (Reads.right (Reads.seq (Reads.left (Reads.tok {t = mark} e)) (Reads.seq (Reads.left (Reads.call {v = g} m)) (Reads.seq {vs = rs} (Reads.call {v = w} n) rest)))) k =
    let r = n.known.sort in
    item_core k (made_of (ap (λ u. made Name.OpenItem (token mark ∷ g ∷ u ∷ rs)) (sym r.3)) (guarded_negated mark r.0 r.1 r.2 e (guard_of m.derives) (made_of r.3 n.derives) (factored_all rest)))
open_item_from xs ys vs (Reads.right (Reads.seq (Reads.left (Reads.tok {t = mark} e)) (Reads.seq (Reads.right Reads.empty) (Reads.seq {vs = rs} (Reads.call {v = w} n) rest)))) k =
    let r = n.known.sort in
    item_core k (made_of (ap (λ u. made Name.OpenItem (token mark ∷ u ∷ rs)) (sym r.3)) (alone_negated mark r.0 r.1 r.2 e (made_of r.3 n.derives) (factored_all rest)))
open_item_from xs ys vs (Reads.right (Reads.seq (Reads.right Reads.empty) (Reads.seq (Reads.left (Reads.call {v = g} m)) (Reads.seq {vs = rs} (Reads.call {v = w} n) rest)))) k =
    let r = n.known.sort in
    item_core k (made_of (ap (λ u. made Name.OpenItem (g ∷ u ∷ rs)) (sym r.3)) (guarded_core r.0 r.1 r.2 (guard_of m.derives) (made_of r.3 n.derives) (factored_all rest)))
open_item_from xs ys vs (Reads.right (Reads.seq (Reads.right Reads.empty) (Reads.seq (Reads.right Reads.empty) (Reads.seq {vs = rs} (Reads.call {v = w} n) rest)))) k =
    let r = n.known.sort in
    item_core k (made_of (ap (λ u. made Name.OpenItem (u ∷ rs)) (sym r.3)) (alone_core r.0 r.1 r.2 (made_of r.3 n.derives) (factored_all rest)))

pub conditional_from : (xs ys : List Lexeme) (vs : List Value) → Comes (rule_of Name.Conditional) xs ys vs → ConditionalItem xs ys (made Name.Conditional vs)
conditional_from xs ys vs (Reads.seq {ys = ms} (Reads.call {v = v} m) (Reads.call {v = w} n)) =
    let s = m.known.sort in
    let r = n.known.sort in
    record {
      between = ms;
      first = s.0;
      tree = s.1;
      literals = r.0;
      core = made_of s.2 m.extra;
      condition = made_of r.1 n.derives;
      is = values v w s.0 s.1 r.0 s.2 r.1;
    }
  where
    values : (v w : Value) (f : Lexeme) (l : LiteralTree) (ls : List LiteralTree) → v ≡ literal f l → w ≡ Value.condition ls → made Name.Conditional (v ∷ w ∷ []) ≡ item (items.All f.at l ls)
    values v w f l ls e h = rw (e, h) refl

-- ---- bodies

abbrev pub Next : Form Name Terminal Class
Next = opt ((Tok t.Comma ∣ Tok t.Semicolon) ⨾ Call Name.Body)

plain_next : {xs ms ys : List Lexeme} {rs : List Value} (f : Lexeme) (l : LiteralTree) → Made Part.Core xs ms (literal f l) → Comes Next ms ys rs → Made (Part.Of Name.Body) xs ys (made Name.Body (item (items.Plain l) ∷ rs))
plain_next f l d (Reads.left (Reads.seq (Reads.left (Reads.tok {t = sign} e)) (Reads.call m))) = Derives.call (Derives.followed d (Derives.right (Derives.left (Derives.seq (Derives.left (Derives.tok {t = sign} e)) m.derives))))
plain_next f l d (Reads.left (Reads.seq (Reads.right (Reads.tok {t = sign} e)) (Reads.call m))) = Derives.call (Derives.followed d (Derives.right (Derives.left (Derives.seq (Derives.right (Derives.tok {t = sign} e)) m.derives))))
plain_next f l d (Reads.right Reads.empty) = Derives.call (Derives.followed d (Derives.right (Derives.right Derives.empty)))

open_body : {xs ms ys : List Lexeme} {v : Value} {rs : List Value} (s : CoreItem xs ms v) → Comes Next ms ys rs → ((first : Lexeme) × (l : LiteralTree) × (s.core ≡ literal first l)) ⊎ ((i : BodyItem) × (s.core ≡ item i)) → Made (Part.Of Name.Body) xs ys (made Name.Body (v ∷ rs))
open_body {rs = rs} s d (inl q) = made_of (ap (λ u. made Name.Body (u ∷ rs)) (sym (s.is ∙ ap (λ u. open_item_made (u ∷ [])) q.2))) (plain_next q.0 q.1 (made_of q.2 s.derives) d)
open_body {rs = rs} s d (inr q) = made_of (ap (λ u. made Name.Body (u ∷ rs)) (sym (s.is ∙ ap (λ u. open_item_made (u ∷ [])) q.1))) (Derives.call (Derives.followed (made_of q.1 s.derives) (factored_all d)))

pub body_from : (xs ys : List Lexeme) (vs : List Value) → Comes (rule_of Name.Body) xs ys vs → Made (Part.Of Name.Body) xs ys (made Name.Body vs)
body_from xs ys vs (Reads.left (Reads.seq (Reads.call m) d)) = let s = m.extra in open_body s d s.sort
body_from xs ys vs (Reads.right (Reads.seq {vs = rs} (Reads.call m) d)) =
    let s = m.extra in
    made_of (ap (λ u. made Name.Body (u ∷ rs)) (sym s.is)) (Derives.call (Derives.followed s.core (Derives.left (Derives.seq s.condition (factored_all d)))))

-- ---- heads

plain_head : {xs ms ys : List Lexeme} (f : Lexeme) (n : Option AtomTree) (x : TermTree) {cs : List Value} → Made (Part.Of Name.Term) xs ms (term f n x) → Derives factored choice ms ys cs → Made (Part.Of Name.Head) xs ys (made Name.Head (left f (record { rel = Le; term = x }) ∷ cs))
plain_head f (Some a) x k (Derives.seq (Derives.seq (Derives.tok {t = brace} e) d) r) = Derives.call (Derives.left (Derives.followed k (Derives.left (Derives.seq (Derives.right Derives.empty) (Derives.seq (Derives.seq (Derives.tok {t = brace} e) d) r)))))
plain_head f None x k (Derives.seq (Derives.seq (Derives.tok {t = brace} e) d) r) = Derives.call (Derives.left (Derives.followed k (Derives.seq (Derives.right Derives.empty) (Derives.seq (Derives.seq (Derives.tok {t = brace} e) d) r))))

signed_head : {xs ms ks ys : List Lexeme} (f : Lexeme) (n : Option AtomTree) (x : TermTree) (q : Rel) {cs : List Value} → Made (Part.Of Name.Term) xs ms (term f n x) → Made (Part.Of Name.Relation) ms ks (relation q) → Derives factored choice ks ys cs → Made (Part.Of Name.Head) xs ys (made Name.Head (left f (record { rel = q; term = x }) ∷ cs))
signed_head f (Some a) x q k c d = Derives.call (Derives.left (Derives.followed k (Derives.left (Derives.seq (Derives.left c) d))))
signed_head f None x q k c d = Derives.call (Derives.left (Derives.followed k (Derives.seq (Derives.left c) d)))

guarded_head : {xs ms ys : List Lexeme} {v : Value} {cs : List Value} → GuardOf xs ms v → Derives factored choice ms ys cs → Made (Part.Of Name.Head) xs ys (made Name.Head (v ∷ cs))
guarded_head (GuardOf.plain {f = f} {n = n} {x = x} k) d = plain_head f n x k d
guarded_head (GuardOf.signed {f = f} {n = n} {x = x} {r = q} k c) d = signed_head f n x q k c d

pub head_from : (xs ys : List Lexeme) (vs : List Value) → Comes (rule_of Name.Head) xs ys vs → Made (Part.Of Name.Head) xs ys (made Name.Head vs)
head_from xs ys vs (Reads.left (Reads.call m)) = let s = m.extra in made_of (ap (λ u. made Name.Head (u ∷ [])) (sym s.is)) (Derives.call (Derives.left (Derives.followed s.derives (Derives.right Derives.empty))))
head_from xs ys vs (Reads.right (Reads.seq (Reads.left (Reads.call m)) (Reads.seq braces rest))) = guarded_head (guard_of m.derives) (Derives.seq (factored_all braces) (factored_all rest))
head_from xs ys vs (Reads.right (Reads.seq (Reads.right Reads.empty) (Reads.seq (Reads.seq (Reads.tok {t = brace} e) d) rest))) =
    Derives.call (Derives.right (Derives.seq (Derives.seq (Derives.tok {t = brace} e) (factored_all d)) (factored_all rest)))
