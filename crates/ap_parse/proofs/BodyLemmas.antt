-- What the items of a body come to, and the body.
use Rattle.std.proofs.Common.{◌≡◌, ◌⊎◌, inl, inr, Bool, true, false, List, [], ◌∷◌, ◌++◌, Option, Some, None, Ok, Err, Result, refl, sym, ◌∙◌, ap, subst, append_assoc}
use Rattle.std.specs.Result.{IsErrAnd}
use Rattle.grammar.specs.Form.{◌⨾◌, ◌∣◌, opt}
use Rattle.grammar.specs.Form.Form.{Tok, Call, Empty}
use Rattle.grammar.specs.Takes.{Takes, Fails, Starts, NotStarts}
use Rattle.ap_syntax.specs.declared.rules.AggElement.{AggElement}
use Rattle.ap_syntax.specs.declared.rules.BodyItem.{BodyItem}
use Rattle.ap_syntax.specs.declared.rules.BodyItem.TheVariants as items
use Rattle.ap_syntax.specs.declared.rules.Function.{Function}
use Rattle.ap_syntax.specs.declared.rules.Guard.{Guard}
use Rattle.ap_syntax.specs.declared.terms.Atom.{Atom}
use Rattle.ap_syntax.specs.declared.terms.Literal.{Literal}
use Rattle.ap_syntax.specs.declared.terms.Literal.TheVariants as literals
use Rattle.ap_syntax.specs.declared.terms.Rel.{Rel}
use Rattle.ap_syntax.specs.declared.terms.Rel.TheVariants.{Le}
use Rattle.ap_syntax.specs.declared.terms.Term.{Term}
use Rattle.ap_grammar.specs.declared.terminals.Terminal.TheVariants as t
use Rattle.ap_grammar.specs.Lexemes.{Lexeme}
use Rattle.ap_grammar.specs.Values.{Class, Value, as_body, class_of, found, or_empty}
use Rattle.ap_grammar.specs.Values.Value.{token, term, relation, literal, aggregate, item, body}
use Rattle.ap_grammar.specs.Grammar.{Name}
use Rattle.ap_grammar.specs.Factored.{Part, Rhs, aggregate_form, body_made, call, core_behind, core_made, factored, negated_behind, negated_made, next_item}
use Rattle.ap_grammar.specs.Tables.{tables}
use Rattle.ap_parse.specs.declared.aggregates.Aggregate.{Aggregate}
use Rattle.ap_parse.specs.declared.bodies.Core.{Core}
use Rattle.ap_parse.specs.declared.bodies.Core.TheVariants as cores
use Rattle.literal_parse.specs.declared.cursor.Place.{Place}
use Rattle.literal_parse.specs.declared.error.Stop.{Stop}
use Rattle.literal_parse.specs.declared.error.Stop.TheVariants.{Memory}
use Rattle.literal_parse.specs.declared.operand.Operand.{Operand}
use Rattle.literal_parse.specs.declared.operand.Operand.TheVariants.{Bare, Other}
use Rattle.ap_parse.specs.Aggregates.{IsAggregate, guarding}
use Rattle.ap_parse.specs.Bodies.{Begins, Ends, IsBehind, IsBody, IsCore, IsNegated, IsNegatedBehind, IsRelated, IsSeparated, ReadsItem, behind_item, core_value, kind_of}
use Rattle.literal_parse.specs.Literals.{IsCondition, IsSign}
use Rattle.literal_parse.specs.Operands.{BareOr, IsOperand, tree_of, value_of}
use Rattle.literal_parse.specs.Reads.{Reads, IsNext, IsPlace, Lacks, Leads}
use Rattle.ap_parse.proofs.AggregateLemmas.{aggregate_fails}
use Rattle.literal_parse.proofs.LiteralLemmas.{bare_ok, bare_err}
use Rattle.literal_parse.proofs.Relations.{sign_takes, sign_starts}
use Rattle.literal_parse.proofs.Steps.{taken, follow, giving, from, fails_from, next_starts, next_takes, not_seq, not_alt, seq_starts, stopped_syntax}

alone : {v w : Value} → v ≡ w → v ∷ [] ≡ w ∷ []
alone e = ap (λ v. v ∷ []) e

-- ---- behind a term

aggregate_starts : (xs : List Lexeme) → Starts factored tables (call Name.Aggregate) xs → Starts factored tables aggregate_form xs
aggregate_starts xs s = seq_starts (call Name.Aggregate) (opt (call Name.RightGuard)) xs s

no_aggregate : (xs : List Lexeme) → NotStarts factored tables (call Name.Aggregate) xs → NotStarts factored tables aggregate_form xs
no_aggregate xs h = not_seq (call Name.Aggregate) (opt (call Name.RightGuard)) xs refl h

starts_at : (xs ys : List Lexeme) → ys ≡ xs → Starts factored tables (call Name.Aggregate) ys → Starts factored tables (call Name.Aggregate) xs
starts_at xs ys e s = rw e at s

not_at : (xs ys : List Lexeme) → ys ≡ xs → NotStarts factored tables (call Name.Aggregate) ys → NotStarts factored tables (call Name.Aggregate) xs
not_at xs ys e n = rw e at n

-- a relation and what follows it, or an aggregate, or nothing where the term may be an atom
abbrev Behind : Rhs → Operand → Rhs
Behind a (Bare x) = call Name.Relation ⨾ a ∣ aggregate_form ∣ Empty
Behind a (Other x) = call Name.Relation ⨾ a ∣ aggregate_form

module _ (a : Rhs) {ys : List Lexeme} where
  sign_first_takes : (left : Operand) {zs end : List Lexeme} {rel : Rel} {vs : List Value} → IsSign ys zs rel → Takes factored tables a zs end vs → Takes factored tables (Behind a left) ys end (relation rel ∷ vs)
  sign_first_takes (Bare x) n d = Takes.left (seq_starts (call Name.Relation) a ys (sign_starts n)) (Takes.seq (sign_takes n) d)
  sign_first_takes (Other x) n d = Takes.left (seq_starts (call Name.Relation) a ys (sign_starts n)) (Takes.seq (sign_takes n) d)

  sign_first_fails : (left : Operand) {zs end : List Lexeme} {rel : Rel} → IsSign ys zs rel → Fails factored tables a zs end → Fails factored tables (Behind a left) ys end
  sign_first_fails (Bare x) n f = Fails.left (seq_starts (call Name.Relation) a ys (sign_starts n)) (Fails.second (sign_takes n) f)
  sign_first_fails (Other x) n f = Fails.left (seq_starts (call Name.Relation) a ys (sign_starts n)) (Fails.second (sign_takes n) f)

  module _ (h : NotStarts factored tables (call Name.Relation) ys) where
    aggregate_behind_takes : (left : Operand) {end : List Lexeme} {vs : List Value} → Starts factored tables (call Name.Aggregate) ys → Takes factored tables aggregate_form ys end vs → Takes factored tables (Behind a left) ys end vs
    aggregate_behind_takes (Bare x) s d = Takes.right (not_seq (call Name.Relation) a ys refl h) (Takes.left (aggregate_starts ys s) d)
    aggregate_behind_takes (Other x) s d = Takes.right (not_seq (call Name.Relation) a ys refl h) d

    aggregate_behind_fails : (left : Operand) {end : List Lexeme} → Starts factored tables (call Name.Aggregate) ys → Fails factored tables aggregate_form ys end → Fails factored tables (Behind a left) ys end
    aggregate_behind_fails (Bare x) s f = Fails.right (not_seq (call Name.Relation) a ys refl h) (Fails.left (aggregate_starts ys s) f)
    aggregate_behind_fails (Other x) s f = Fails.right (not_seq (call Name.Relation) a ys refl h) f

    bare_takes : (left : Operand) (b : Atom) → left ≡ Bare b → NotStarts factored tables (call Name.Aggregate) ys → Takes factored tables (Behind a left) ys ys []
    bare_takes left b e n = rw e (Takes.right (not_seq (call Name.Relation) a ys refl h) (Takes.right (no_aggregate ys n) Takes.empty))

    other_fails : (left : Operand) (x : Term) → left ≡ Other x → NotStarts factored tables (call Name.Aggregate) ys → Fails factored tables (Behind a left) ys ys
    other_fails left x e n = rw e (Fails.right (not_seq (call Name.Relation) a ys refl h) (Fails.first (aggregate_fails ys n)))

core_takes : (left : Operand) {ys end : List Lexeme} {vs : List Value} → Takes factored tables (Behind (aggregate_form ∣ call Name.Term) left) ys end vs → Takes factored tables (core_behind (kind_of left)) ys end vs
core_takes (Bare x) d = d
core_takes (Other x) d = d

core_fails : (left : Operand) {ys end : List Lexeme} → Fails factored tables (Behind (aggregate_form ∣ call Name.Term) left) ys end → Fails factored tables (core_behind (kind_of left)) ys end
core_fails (Bare x) f = f
core_fails (Other x) f = f

negated_takes : (left : Operand) {ys end : List Lexeme} {vs : List Value} → Takes factored tables (Behind aggregate_form left) ys end vs → Takes factored tables (negated_behind (kind_of left)) ys end vs
negated_takes (Bare x) d = d
negated_takes (Other x) d = d

negated_fails : (left : Operand) {ys end : List Lexeme} → Fails factored tables (Behind aggregate_form left) ys end → Fails factored tables (negated_behind (kind_of left)) ys end
negated_fails (Bare x) f = f
negated_fails (Other x) f = f

-- ---- behind a term that begins an item

related_made : (left : Operand) (rel : Rel) (core : Core) (vs : List Value) → IsRelated (tree_of left) rel core vs → IsBehind left core (relation rel ∷ vs)
related_made (Bare a) rel core vs i first = i first (Some a)
related_made (Other y) rel core vs i first = i first None

guarded_made : (left : Operand) (first other : Lexeme) (f : Function) (es : List AggElement) (right : Option Guard) → core_made (value_of first left ∷ aggregate other f es ∷ guarding right) ≡ item (items.Agg false (Some (record { rel = Le; term = tree_of left })) f es right)
guarded_made (Bare a) first other f es None = refl
guarded_made (Bare a) first other f es (Some g) = refl
guarded_made (Other x) first other f es None = refl
guarded_made (Other x) first other f es (Some g) = refl

bare_made : (left : Operand) (a : Atom) (first : Lexeme) → left ≡ Bare a → core_made (value_of first left ∷ []) ≡ literal first (literals.Pos a)
bare_made left a first e = rw e refl

pub behind_related : (left : Operand) {ys zs end : List Lexeme} {rel : Rel} {x : Term} {r : Result Core Stop} → IsSign ys zs rel → x ≡ tree_of left → Reads (aggregate_form ∣ call Name.Term) (IsRelated x rel) zs end r → Reads (core_behind (kind_of left)) (IsBehind left) ys end r
behind_related left {rel = rel} {x = x} n e r =
    follow r
    (λ core vs i d. (relation rel ∷ vs, related_made left rel core vs (subst (λ y. IsRelated y rel core vs) e i), core_takes left (sign_first_takes (aggregate_form ∣ call Name.Term) left n d)))
    (λ f. core_fails left (sign_first_fails (aggregate_form ∣ call Name.Term) left n f))

module _ (left : Operand) {ys zs : List Lexeme} (h : (zs ≡ ys) × NotStarts factored tables (call Name.Relation) ys) where
  pub behind_aggregate_fails : {end : List Lexeme} → Starts factored tables (call Name.Aggregate) zs → Fails factored tables aggregate_form zs end → Fails factored tables (core_behind (kind_of left)) ys end
  behind_aggregate_fails s f = core_fails left (aggregate_behind_fails (aggregate_form ∣ call Name.Term) h.1 left (starts_at ys zs h.0 s) (fails_from h.0 f))

  pub behind_aggregate : {end : List Lexeme} {x : Term} {a : Aggregate} → Starts factored tables (call Name.Aggregate) zs → x ≡ tree_of left → Reads aggregate_form IsAggregate zs end (Ok a) → Reads (core_behind (kind_of left)) (IsBehind left) ys end (Ok (cores.Aggregate false (Some (record { rel = Le; term = x })) a))
  behind_aggregate {a = a} s e r =
      let q = taken r in
      rw e (Reads.ok (λ first. guarded_made left first q.makes.first a.function a.elements a.right) (core_takes left (aggregate_behind_takes (aggregate_form ∣ call Name.Term) h.1 left (starts_at ys zs h.0 s) (from h.0 (giving q.makes.is q.takes)))))

  pub behind_bare : {a : Atom} → NotStarts factored tables (call Name.Aggregate) zs → BareOr left (Ok a) → Reads (core_behind (kind_of left)) (IsBehind left) ys zs (Ok (cores.Literal (literals.Pos a)))
  behind_bare {a = a} n b = let e = bare_ok left a b in rw h.0 (Reads.ok (λ first. bare_made left a first e) (core_takes left (bare_takes (aggregate_form ∣ call Name.Term) h.1 left a e (not_at ys zs h.0 n))))

  pub behind_other : (e : Stop) {r : Result Core Stop} → NotStarts factored tables (call Name.Aggregate) zs → BareOr left (Err e) → IsErrAnd r (λ d. d ≡ e) → Reads (core_behind (kind_of left)) (IsBehind left) ys zs r
  behind_other e n b i = let o = bare_err left e b in stopped_syntax o.2 i (rw h.0 (core_fails left (other_fails (aggregate_form ∣ call Name.Term) h.1 left o.0 o.1 (not_at ys zs h.0 n))))

-- ---- behind a term and a relation

related_aggregate_made : (left : Term) (rel : Rel) (first other : Lexeme) (name : Option Atom) (f : Function) (es : List AggElement) (right : Option Guard) → core_made (term first name left ∷ relation rel ∷ aggregate other f es ∷ guarding right) ≡ item (items.Agg false (Some (record { rel = rel; term = left })) f es right)
related_aggregate_made left rel first other name f es None = refl
related_aggregate_made left rel first other name f es (Some g) = refl

compared_made : (left : Term) (rel : Rel) (first other : Lexeme) (name : Option Atom) (y : Operand) → core_made (term first name left ∷ relation rel ∷ value_of other y ∷ []) ≡ literal first (literals.Compare left rel (tree_of y))
compared_made left rel first other name (Bare a) = refl
compared_made left rel first other name (Other y) = refl

module _ (left : Term) (rel : Rel) {ys : List Lexeme} where
  pub related_aggregate_fails : {end : List Lexeme} → Starts factored tables (call Name.Aggregate) ys → Fails factored tables aggregate_form ys end → Fails factored tables (aggregate_form ∣ call Name.Term) ys end
  related_aggregate_fails s f = Fails.left (aggregate_starts ys s) f

  pub related_aggregate : {end : List Lexeme} {a : Aggregate} → Starts factored tables (call Name.Aggregate) ys → Reads aggregate_form IsAggregate ys end (Ok a) → Reads (aggregate_form ∣ call Name.Term) (IsRelated left rel) ys end (Ok (cores.Aggregate false (Some (record { rel = rel; term = left })) a))
  related_aggregate {a = a} s r =
      let q = taken r in
      Reads.ok (λ first name. related_aggregate_made left rel first q.makes.first name a.function a.elements a.right) (Takes.left (aggregate_starts ys s) (giving q.makes.is q.takes))

  pub related_term_fails : {end : List Lexeme} → NotStarts factored tables (call Name.Aggregate) ys → Fails factored tables (call Name.Term) ys end → Fails factored tables (aggregate_form ∣ call Name.Term) ys end
  related_term_fails n f = Fails.right (no_aggregate ys n) f

  pub related_term : {end : List Lexeme} {y : Operand} → NotStarts factored tables (call Name.Aggregate) ys → Reads (call Name.Term) (IsOperand ys) ys end (Ok y) → Reads (aggregate_form ∣ call Name.Term) (IsRelated left rel) ys end (Ok (cores.Literal (literals.Compare left rel (tree_of y))))
  related_term {y = y} n r =
      let q = taken r in
      Reads.ok (λ first name. compared_made left rel first q.makes.first name y) (Takes.right (no_aggregate ys n) (giving q.makes.is q.takes))

-- ---- behind `not` and a term

not_related_made : (left : Operand) (rel : Rel) (not first other : Lexeme) (f : Function) (es : List AggElement) (right : Option Guard) → core_made (token not ∷ negated_made (value_of first left ∷ relation rel ∷ aggregate other f es ∷ guarding right) ∷ []) ≡ item (items.Agg true (Some (record { rel = rel; term = tree_of left })) f es right)
not_related_made (Bare a) rel not first other f es None = refl
not_related_made (Bare a) rel not first other f es (Some g) = refl
not_related_made (Other x) rel not first other f es None = refl
not_related_made (Other x) rel not first other f es (Some g) = refl

not_guarded_made : (left : Operand) (not first other : Lexeme) (f : Function) (es : List AggElement) (right : Option Guard) → core_made (token not ∷ negated_made (value_of first left ∷ aggregate other f es ∷ guarding right) ∷ []) ≡ item (items.Agg true (Some (record { rel = Le; term = tree_of left })) f es right)
not_guarded_made (Bare a) not first other f es None = refl
not_guarded_made (Bare a) not first other f es (Some g) = refl
not_guarded_made (Other x) not first other f es None = refl
not_guarded_made (Other x) not first other f es (Some g) = refl

not_bare_made : (left : Operand) (a : Atom) (not first : Lexeme) → left ≡ Bare a → core_made (token not ∷ negated_made (value_of first left ∷ []) ∷ []) ≡ literal not (literals.Not a)
not_bare_made left a not first e = rw e refl

module _ (left : Operand) {ys zs : List Lexeme} {rel : Rel} (n : IsSign ys zs rel) where
  pub not_related_fails : {end : List Lexeme} → Fails factored tables aggregate_form zs end → Fails factored tables (negated_behind (kind_of left)) ys end
  not_related_fails f = negated_fails left (sign_first_fails aggregate_form left n f)

  pub not_related : {end : List Lexeme} {x : Term} {a : Aggregate} → x ≡ tree_of left → Reads aggregate_form IsAggregate zs end (Ok a) → Reads (negated_behind (kind_of left)) (IsNegatedBehind left) ys end (Ok (cores.Aggregate true (Some (record { rel = rel; term = x })) a))
  not_related {a = a} e r =
      let q = taken r in
      rw e (Reads.ok (λ first not. not_related_made left rel not first q.makes.first a.function a.elements a.right) (negated_takes left (sign_first_takes aggregate_form left n (giving q.makes.is q.takes))))

module _ (left : Operand) {ys zs : List Lexeme} (h : (zs ≡ ys) × NotStarts factored tables (call Name.Relation) ys) where
  pub not_aggregate_fails : {end : List Lexeme} → Starts factored tables (call Name.Aggregate) zs → Fails factored tables aggregate_form zs end → Fails factored tables (negated_behind (kind_of left)) ys end
  not_aggregate_fails s f = negated_fails left (aggregate_behind_fails aggregate_form h.1 left (starts_at ys zs h.0 s) (fails_from h.0 f))

  pub not_aggregate : {end : List Lexeme} {x : Term} {a : Aggregate} → Starts factored tables (call Name.Aggregate) zs → x ≡ tree_of left → Reads aggregate_form IsAggregate zs end (Ok a) → Reads (negated_behind (kind_of left)) (IsNegatedBehind left) ys end (Ok (cores.Aggregate true (Some (record { rel = Le; term = x })) a))
  not_aggregate {a = a} s e r =
      let q = taken r in
      rw e (Reads.ok (λ first not. not_guarded_made left not first q.makes.first a.function a.elements a.right) (negated_takes left (aggregate_behind_takes aggregate_form h.1 left (starts_at ys zs h.0 s) (from h.0 (giving q.makes.is q.takes)))))

  pub not_bare : {a : Atom} → NotStarts factored tables (call Name.Aggregate) zs → BareOr left (Ok a) → Reads (negated_behind (kind_of left)) (IsNegatedBehind left) ys zs (Ok (cores.Literal (literals.Not a)))
  not_bare {a = a} n b = let e = bare_ok left a b in rw h.0 (Reads.ok (λ first not. not_bare_made left a not first e) (negated_takes left (bare_takes aggregate_form h.1 left a e (not_at ys zs h.0 n))))

  pub not_other : (e : Stop) {r : Result Core Stop} → NotStarts factored tables (call Name.Aggregate) zs → BareOr left (Err e) → IsErrAnd r (λ d. d ≡ e) → Reads (negated_behind (kind_of left)) (IsNegatedBehind left) ys zs r
  not_other e n b i = let o = bare_err left e b in stopped_syntax o.2 i (rw h.0 (negated_fails left (other_fails aggregate_form h.1 left o.0 o.1 (not_at ys zs h.0 n))))

-- ---- behind `not`

classed_takes : (b : Class → Rhs) (left : Operand) (first : Lexeme) {ys end : List Lexeme} {vs : List Value} → Takes factored tables (b (kind_of left)) ys end vs → Takes factored tables (b (class_of (value_of first left ∷ []))) ys end vs
classed_takes b (Bare a) first d = d
classed_takes b (Other x) first d = d

classed_fails : (b : Class → Rhs) (left : Operand) (first : Lexeme) {ys end : List Lexeme} → Fails factored tables (b (kind_of left)) ys end → Fails factored tables (b (class_of (value_of first left ∷ []))) ys end
classed_fails b (Bare a) first f = f
classed_fails b (Other x) first f = f

negated_aggregate_made : (not other : Lexeme) (f : Function) (es : List AggElement) (right : Option Guard) → core_made (token not ∷ negated_made (aggregate other f es ∷ guarding right) ∷ []) ≡ item (items.Agg true None f es right)
negated_aggregate_made not other f es None = refl
negated_aggregate_made not other f es (Some g) = refl

pub negated_aggregate_fails : {ys end : List Lexeme} → Starts factored tables (call Name.Aggregate) ys → Fails factored tables aggregate_form ys end → Fails factored tables (Call Part.Negated) ys end
negated_aggregate_fails {ys = ys} s f = Fails.call (Fails.left (aggregate_starts ys s) f)

pub negated_aggregate : {ys end : List Lexeme} {a : Aggregate} → Starts factored tables (call Name.Aggregate) ys → Reads aggregate_form IsAggregate ys end (Ok a) → Reads (Call Part.Negated) IsNegated ys end (Ok (cores.Aggregate true None a))
negated_aggregate {ys = ys} {a = a} s r =
    let q = taken r in
    Reads.ok (λ not. negated_aggregate_made not q.makes.first a.function a.elements a.right) (Takes.call (Takes.left (aggregate_starts ys s) (giving q.makes.is q.takes)))

pub negated_term_fails : {ys end : List Lexeme} → NotStarts factored tables (call Name.Aggregate) ys → Fails factored tables (call Name.Term) ys end → Fails factored tables (Call Part.Negated) ys end
negated_term_fails {ys = ys} n f = Fails.call (Fails.right (no_aggregate ys n) (Fails.start f))

pub negated_term : {ys zs end : List Lexeme} {left : Operand} {r : Result Core Stop} → NotStarts factored tables (call Name.Aggregate) ys → Reads (call Name.Term) (IsOperand ys) ys zs (Ok left) → Reads (negated_behind (kind_of left)) (IsNegatedBehind left) zs end r → Reads (Call Part.Negated) IsNegated ys end r
negated_term {ys = ys} {left = left} n l r =
    let q = taken l in
    follow r
    (λ core vs i d. (negated_made (value_of q.makes.first left ∷ vs) ∷ [], i q.makes.first, Takes.call (Takes.right (no_aggregate ys n) (Takes.followed (giving q.makes.is q.takes) (classed_takes negated_behind left q.makes.first d)))))
    (λ f. Fails.call (Fails.right (no_aggregate ys n) (Fails.finish (giving q.makes.is q.takes) (classed_fails negated_behind left q.makes.first f))))

-- ---- literals and aggregates

pub core_negated : {xs ms end : List Lexeme} {r : Result Core Stop} → IsNext t.Not xs ms → Reads (Call Part.Negated) IsNegated ms end r → Reads (Call Part.Core) (IsCore xs) xs end r
core_negated {xs = xs} {ms = ms} n r =
    let begins = seq_starts (Tok t.Not) (Call Part.Negated) xs (next_starts n) in
    follow r
    (λ core vs i d. (core_value n.token core ∷ [], record { first = n.token; leads = record { rest = ms; is = n.is }; is = refl }, giving (alone (i n.token)) (Takes.call (Takes.left begins (Takes.seq (next_takes n) d)))))
    (λ f. Fails.call (Fails.left begins (Fails.second (next_takes n) f)))

-- the token with which an aggregate begins
begun_by : (xs : List Lexeme) → Starts factored tables (call Name.Aggregate) xs → (first : Lexeme) × Leads xs first
begun_by [] s = absurd s
begun_by (x ∷ xs) s = (x, record { rest = xs; is = refl })

core_aggregate_made : (other : Lexeme) (f : Function) (es : List AggElement) (right : Option Guard) → core_made (aggregate other f es ∷ guarding right) ≡ item (items.Agg false None f es right)
core_aggregate_made other f es None = refl
core_aggregate_made other f es (Some g) = refl

module _ {xs ms : List Lexeme} (h : (ms ≡ xs) × Lacks t.Not xs) where
  not_negated : NotStarts factored tables (Tok t.Not ⨾ Call Part.Negated) xs
  not_negated = not_seq (Tok t.Not) (Call Part.Negated) xs refl h.1

  pub core_aggregate_fails : {end : List Lexeme} → Starts factored tables (call Name.Aggregate) ms → Fails factored tables aggregate_form ms end → Fails factored tables (Call Part.Core) xs end
  core_aggregate_fails s f = Fails.call (Fails.right not_negated (Fails.left (aggregate_starts xs (starts_at xs ms h.0 s)) (fails_from h.0 f)))

  pub core_aggregate : {end : List Lexeme} {a : Aggregate} → Starts factored tables (call Name.Aggregate) ms → Reads aggregate_form IsAggregate ms end (Ok a) → Reads (Call Part.Core) (IsCore xs) xs end (Ok (cores.Aggregate false None a))
  core_aggregate {a = a} s r =
      let q = taken r in
      let b = begun_by xs (starts_at xs ms h.0 s) in
      Reads.ok (record { first = b.0; leads = b.1; is = alone (core_aggregate_made q.makes.first a.function a.elements a.right) })
      (Takes.call (Takes.right not_negated (Takes.left (aggregate_starts xs (starts_at xs ms h.0 s)) (from h.0 (giving q.makes.is q.takes)))))

  module _ (n : NotStarts factored tables (call Name.Aggregate) ms) where
    pub core_term_fails : {end : List Lexeme} → Fails factored tables (call Name.Term) ms end → Fails factored tables (Call Part.Core) xs end
    core_term_fails f = Fails.call (Fails.right not_negated (Fails.right (no_aggregate xs (not_at xs ms h.0 n)) (Fails.start (fails_from h.0 f))))

    pub core_term : {zs end : List Lexeme} {left : Operand} {r : Result Core Stop} → Reads (call Name.Term) (IsOperand ms) ms zs (Ok left) → Reads (core_behind (kind_of left)) (IsBehind left) zs end r → Reads (Call Part.Core) (IsCore xs) xs end r
    core_term {left = left} l r =
        let q = taken l in
        let first = q.makes.first in
        follow r
        (λ core vs i d. (core_value first core ∷ [], record { first = first; leads = record { rest = q.makes.leads.rest; is = sym h.0 ∙ q.makes.leads.is }; is = refl }, giving (alone (i first)) (Takes.call (Takes.right not_negated (Takes.right (no_aggregate xs (not_at xs ms h.0 n)) (Takes.followed (from h.0 (giving q.makes.is q.takes)) (classed_takes core_behind left first d)))))))
        (λ f. Fails.call (Fails.right not_negated (Fails.right (no_aggregate xs (not_at xs ms h.0 n)) (Fails.finish (from h.0 (giving q.makes.is q.takes)) (classed_fails core_behind left first f)))))

-- ---- items

err_of : {X : Type 0} {Q : Stop → Type 0} (r : Result X Stop) → IsErrAnd r Q → (d : Stop) × (r ≡ Err d) × Q d
err_of (Ok x) h = absurd h
err_of (Err d) h = (d, refl, h)

item_failed : {X : Type 0} {a : Rhs} {is : X → List Value → Type 0} {xs ys end : List Lexeme} {e : Stop} → Reads a is ys end (Err e) → (Fails factored tables a ys end → Fails factored tables (call Name.Body) xs end) → ReadsItem xs end (Err e)
item_failed (Reads.syntax f) k = ReadsItem.syntax (k f)
item_failed Reads.memory k = ReadsItem.memory

-- by a `?` whose part failed
pub item_exit : {X : Type 0} {a : Rhs} {is : X → List Value → Type 0} {xs ys end : List Lexeme} {r : Result BodyItem Stop} {e : Stop} → Reads a is ys end (Err e) → IsErrAnd r (λ d. d ≡ e) → (Fails factored tables a ys end → Fails factored tables (call Name.Body) xs end) → ReadsItem xs end r
item_exit {r = r} f h k = let p = err_of r h in rw (p.1, p.2) (item_failed f k)

-- by a `?` for want of memory
pub item_memory : {xs end : List Lexeme} {r : Result BodyItem Stop} → IsErrAnd r (λ d. d ≡ Memory) → ReadsItem xs end r
item_memory {r = r} h = let p = err_of r h in rw (p.1, p.2) ReadsItem.memory

colon_starts : (xs : List Lexeme) → Starts factored tables (Tok t.Colon) xs → Starts factored tables (call Name.Condition) xs
colon_starts [] h = absurd h
colon_starts (x ∷ ts) h = rw h refl

colon_lacks : (xs : List Lexeme) → Lacks t.Colon xs → NotStarts factored tables (call Name.Condition) xs
colon_lacks [] h = tt
colon_lacks (x ∷ ts) h = rw h refl

-- a condition behind a literal, and what may stand behind it
abbrev Conditioned : Rhs
Conditioned = call Name.Condition ⨾ opt (Tok t.Semicolon ⨾ call Name.Body)

plain_made : (first : Lexeme) (l : Literal) {ys end : List Lexeme} {vs : List Value} → Takes factored tables next_item ys end vs → body_made (literal first l ∷ vs) ≡ body (items.Plain l ∷ or_empty (found as_body vs))
plain_made first l (Takes.left s (Takes.seq (Takes.left i (Takes.tok e)) d)) = refl
plain_made first l (Takes.left s (Takes.seq (Takes.right i (Takes.tok e)) d)) = refl
plain_made first l (Takes.right h Takes.empty) = refl

place_at : {xs : List Lexeme} (p : Place) {first : Lexeme} → IsPlace xs p → Leads xs first → p.at ≡ first.at
place_at p h n = let q = rw n.is at h in q.1

module _ {xs ys : List Lexeme} {core : Core} (r : Reads (Call Part.Core) (IsCore xs) xs ys (Ok core)) where
  core_at : (c : Core) → core ≡ c → (first : Lexeme) × Leads xs first × Takes factored tables (Call Part.Core) xs ys (core_value first c ∷ [])
  core_at c e = let q = taken r in (q.makes.first, q.makes.leads, giving (q.makes.is ∙ ap (λ x. core_value q.makes.first x ∷ []) e) q.takes)

  pub item_aggregate : {negated : Bool} {left : Option Guard} {a : Aggregate} → core ≡ cores.Aggregate negated left a → ReadsItem xs ys (Ok (items.Agg negated left a.function a.elements a.right))
  item_aggregate {negated = negated} {left = left} {a = a} e =
      let c = core_at (cores.Aggregate negated left a) e in
      ReadsItem.ok (record { takes = λ end vs d. Takes.call (Takes.followed c.2 d); fails = λ end f. Fails.call (Fails.finish c.2 f) })

  module _ {l : Literal} (e : core ≡ cores.Literal l) where
    pub item_plain : Lacks t.Colon ys → ReadsItem xs ys (Ok (items.Plain l))
    item_plain h =
        let c = core_at (cores.Literal l) e in
        let n : NotStarts factored tables Conditioned ys = not_seq (call Name.Condition) (opt (Tok t.Semicolon ⨾ call Name.Body)) ys refl (colon_lacks ys h) in
        ReadsItem.ok (record { takes = λ end vs d. giving (alone (plain_made c.0 l d)) (Takes.call (Takes.followed c.2 (Takes.right n d))); fails = λ end f. Fails.call (Fails.finish c.2 (Fails.right n f)) })

    condition_begins : Starts factored tables (Tok t.Colon) ys → Starts factored tables Conditioned ys
    condition_begins s = seq_starts (call Name.Condition) (opt (Tok t.Semicolon ⨾ call Name.Body)) ys (colon_starts ys s)

    pub item_condition_fails : {end : List Lexeme} → Starts factored tables (Tok t.Colon) ys → Fails factored tables (call Name.Condition) ys end → Fails factored tables (call Name.Body) xs end
    item_condition_fails s f = let c = core_at (cores.Literal l) e in Fails.call (Fails.finish c.2 (Fails.left (condition_begins s) (Fails.first f)))

    pub item_conditional : {zs : List Lexeme} (p : Place) {ls : List Literal} → IsPlace xs p → Starts factored tables (Tok t.Colon) ys → Reads (call Name.Condition) IsCondition ys zs (Ok ls) → ReadsItem xs zs (Ok (items.All p.at l ls))
    item_conditional p {ls = ls} h s k =
        let c = core_at (cores.Literal l) e in
        let q = taken k in
        let behind = giving q.makes q.takes in
        ReadsItem.ok (record {
          takes = λ end vs d. giving (ap (λ at. body (items.All at l ls ∷ or_empty (found as_body vs)) ∷ []) (sym (place_at p h c.1))) (Takes.call (Takes.followed c.2 (Takes.left (condition_begins s) (Takes.seq behind d))));
          fails = λ end f. Fails.call (Fails.finish c.2 (Fails.left (condition_begins s) (Fails.second behind f)));
        })

-- ---- separators

no_comma : (xs : List Lexeme) (x : Lexeme) (ts : List Lexeme) → xs ≡ x ∷ ts → x.terminal ≡ t.Semicolon → NotStarts factored tables (Tok t.Comma) xs
no_comma xs x ts e k = rw (e, k) refl

separator_starts : (xs : List Lexeme) (x : Lexeme) (ts : List Lexeme) → xs ≡ x ∷ ts → (x.terminal ≡ t.Semicolon) ⊎ (x.terminal ≡ t.Comma) → Starts factored tables ((Tok t.Comma ∣ Tok t.Semicolon) ⨾ call Name.Body) xs
separator_starts xs x ts e (inl k) = rw (e, k) refl
separator_starts xs x ts e (inr k) = rw (e, k) refl

separator_takes : (xs : List Lexeme) (x : Lexeme) (ts : List Lexeme) → xs ≡ x ∷ ts → (x.terminal ≡ t.Semicolon) ⊎ (x.terminal ≡ t.Comma) → Takes factored tables (Tok t.Comma ∣ Tok t.Semicolon) xs ts (token x ∷ [])
separator_takes xs x ts e (inl k) = Takes.right (no_comma xs x ts e k) (rw e (Takes.tok k))
separator_takes xs x ts e (inr k) = Takes.left (rw (e, k) refl) (rw e (Takes.tok k))

semicolon_starts : (xs : List Lexeme) (x : Lexeme) (ts : List Lexeme) → xs ≡ x ∷ ts → x.terminal ≡ t.Semicolon → Starts factored tables (Tok t.Semicolon ⨾ call Name.Body) xs
semicolon_starts xs x ts e k = rw (e, k) refl

semicolon_takes : (xs : List Lexeme) (x : Lexeme) (ts : List Lexeme) → xs ≡ x ∷ ts → x.terminal ≡ t.Semicolon → Takes factored tables (Tok t.Semicolon) xs ts (token x ∷ [])
semicolon_takes xs x ts e k = rw e (Takes.tok k)

module _ {xs ms : List Lexeme} where
  separated_takes : (i : BodyItem) {end : List Lexeme} {vs : List Value} (s : IsSeparated i xs ms) → Takes factored tables (call Name.Body) ms end vs → Takes factored tables (behind_item i) xs end (token s.token ∷ vs)
  separated_takes (items.Plain l) s d = Takes.left (separator_starts xs s.token ms s.is s.kind) (Takes.seq (separator_takes xs s.token ms s.is s.kind) d)
  separated_takes (items.All at l ls) s d = Takes.left (semicolon_starts xs s.token ms s.is s.kind) (Takes.seq (semicolon_takes xs s.token ms s.is s.kind) d)
  separated_takes (items.Agg negated left f es right) s d = Takes.left (separator_starts xs s.token ms s.is s.kind) (Takes.seq (separator_takes xs s.token ms s.is s.kind) d)

  separated_fails : (i : BodyItem) {end : List Lexeme} → IsSeparated i xs ms → Fails factored tables (call Name.Body) ms end → Fails factored tables (behind_item i) xs end
  separated_fails (items.Plain l) s f = Fails.left (separator_starts xs s.token ms s.is s.kind) (Fails.second (separator_takes xs s.token ms s.is s.kind) f)
  separated_fails (items.All at l ls) s f = Fails.left (semicolon_starts xs s.token ms s.is s.kind) (Fails.second (semicolon_takes xs s.token ms s.is s.kind) f)
  separated_fails (items.Agg negated left f es right) s g = Fails.left (separator_starts xs s.token ms s.is s.kind) (Fails.second (separator_takes xs s.token ms s.is s.kind) g)

no_separator : (xs : List Lexeme) → Lacks t.Semicolon xs → Lacks t.Comma xs → Takes factored tables next_item xs xs []
no_separator xs h g = Takes.right (not_seq (Tok t.Comma ∣ Tok t.Semicolon) (call Name.Body) xs refl (not_alt (Tok t.Comma) (Tok t.Semicolon) xs g h)) Takes.empty

ends_takes : (i : BodyItem) (xs : List Lexeme) → Ends i xs → Takes factored tables (behind_item i) xs xs []
ends_takes (items.Plain l) xs h = no_separator xs (h t.Semicolon (inl refl)) (h t.Comma (inr refl))
ends_takes (items.All at l ls) xs h = Takes.right (not_seq (Tok t.Semicolon) (call Name.Body) xs refl (h t.Semicolon refl)) Takes.empty
ends_takes (items.Agg negated left f es right) xs h = no_separator xs (h t.Semicolon (inl refl)) (h t.Comma (inr refl))

-- ---- bodies

-- These items were read, and then this last one: what comes of the tokens behind it comes of the whole body.
pub record Begun (start here : List Lexeme) (before : List BodyItem) (last : BodyItem) : Type 0 where
  pub takes : (end : List Lexeme) (vs : List Value) → Takes factored tables (behind_item last) here end vs → Takes factored tables (call Name.Body) start end (body (before ++ last ∷ or_empty (found as_body vs)) ∷ [])
  pub fails : (end : List Lexeme) → Fails factored tables (behind_item last) here end → Fails factored tables (call Name.Body) start end

begins : {xs ys : List Lexeme} {i : BodyItem} → ReadsItem xs ys (Ok i) → Begins xs ys i
begins (ReadsItem.ok b) = b

pub body_begun : {xs ys : List Lexeme} {i : BodyItem} {new : List BodyItem} → new ≡ [] → ReadsItem xs ys (Ok i) → Begun xs ys new i
body_begun e r = let b = begins r in rw e (record { takes = b.takes; fails = b.fails })

module _ {start here : List Lexeme} {before : List BodyItem} {last : BodyItem} (b : Begun start here before last) where
  module _ {mid : List Lexeme} (s : IsSeparated last here mid) where
    pub body_fails : {end : List Lexeme} → Fails factored tables (call Name.Body) mid end → Fails factored tables (call Name.Body) start end
    body_fails {end = end} f = b.fails end (separated_fails last s f)

    pub body_more : {end : List Lexeme} {pushed : List BodyItem} {next : BodyItem} → pushed ≡ before ++ last ∷ [] → ReadsItem mid end (Ok next) → Begun start end pushed next
    body_more {end = end} {next = next} e r =
        let n = begins r in
        rw e (record {
          takes = λ stop vs d. giving (alone (ap body (sym (append_assoc before (last ∷ []) (next ∷ or_empty (found as_body vs)))))) (b.takes stop _ (separated_takes last s (n.takes stop vs d)));
          fails = λ stop f. b.fails stop (separated_fails last s (n.fails stop f));
        })

  pub body_end : {end : List Lexeme} {pushed : List BodyItem} → (end ≡ here) × Ends last here → pushed ≡ before ++ last ∷ [] → Reads (call Name.Body) IsBody start end (Ok pushed)
  body_end h e = rw (h.0, e) (Reads.ok refl (b.takes here [] (ends_takes last here h.1)))

body_failed : {xs ys end : List Lexeme} {e : Stop} → ReadsItem ys end (Err e) → (Fails factored tables (call Name.Body) ys end → Fails factored tables (call Name.Body) xs end) → Reads (call Name.Body) IsBody xs end (Err e)
body_failed (ReadsItem.syntax f) k = Reads.syntax (k f)
body_failed ReadsItem.memory k = Reads.memory

-- by a `?` where an item failed
pub body_exit : {xs ys end : List Lexeme} {r : Result (List BodyItem) Stop} {e : Stop} → ReadsItem ys end (Err e) → IsErrAnd r (λ d. d ≡ e) → (Fails factored tables (call Name.Body) ys end → Fails factored tables (call Name.Body) xs end) → Reads (call Name.Body) IsBody xs end r
body_exit {r = r} f h k = let p = err_of r h in rw (p.1, p.2) (body_failed f k)
