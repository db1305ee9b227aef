-- What heads come to.
use Rattle.std.proofs.Common.{◌≡◌, List, [], ◌∷◌, Some, None, Ok, Err, Result, refl, ap}
use Rattle.std.specs.Result.{IsErrAnd}
use Rattle.grammar.specs.Form.{◌⨾◌, opt}
use Rattle.grammar.specs.Form.Form.{Tok, Then}
use Rattle.grammar.specs.Takes.{Takes, Fails, Starts, NotStarts}
use Rattle.ap_syntax.specs.declared.rules.HeadForm.{HeadForm}
use Rattle.ap_syntax.specs.declared.rules.HeadForm.TheVariants as heads
use Rattle.ap_syntax.specs.declared.terms.Atom.{Atom}
use Rattle.ap_syntax.specs.declared.terms.Rel.{Rel}
use Rattle.ap_syntax.specs.declared.terms.Rel.TheVariants.{Le}
use Rattle.ap_syntax.specs.declared.terms.Term.{Term}
use Rattle.ap_grammar.specs.declared.terminals.Terminal.TheVariants as t
use Rattle.ap_grammar.specs.Lexemes.{Lexeme}
use Rattle.ap_grammar.specs.Values.{Value, class_of}
use Rattle.ap_grammar.specs.Values.Value.{relation, head}
use Rattle.ap_grammar.specs.Grammar.{Name}
use Rattle.ap_grammar.specs.Factored.{Rhs, call, choice, factored, head_behind, head_made}
use Rattle.ap_grammar.specs.Tables.{tables}
use Rattle.literal_parse.specs.declared.error.Stop.{Stop}
use Rattle.literal_parse.specs.declared.operand.Operand.{Operand}
use Rattle.literal_parse.specs.declared.operand.Operand.TheVariants.{Bare, Other}
use Rattle.literal_parse.specs.Reads.{Reads, Lacks}
use Rattle.literal_parse.specs.Operands.{BareOr, IsOperand, tree_of, value_of}
use Rattle.literal_parse.specs.Literals.{IsSign}
use Rattle.ap_parse.specs.Choices.{IsChoice}
use Rattle.ap_parse.specs.Heads.{IsHead}
use Rattle.literal_parse.proofs.Steps.{taken, follow, from, fails_from, fails_tok, giving, stopped_syntax}
use Rattle.literal_parse.proofs.Relations.{sign_takes, sign_starts}
use Rattle.literal_parse.proofs.LiteralLemmas.{bare_ok, bare_err}

alone : {v w : Value} → v ≡ w → v ∷ [] ≡ w ∷ []
alone e = ap (λ v. v ∷ []) e

-- ---- how a head begins

not_term_first : (xs : List Lexeme) → NotStarts factored tables (call Name.Term) xs → NotStarts factored tables (Then (call Name.Term) head_behind) xs
not_term_first [] h = tt
not_term_first (x ∷ ts) h = rw h refl

term_first : (xs : List Lexeme) → Starts factored tables (call Name.Term) xs → Starts factored tables (Then (call Name.Term) head_behind) xs
term_first [] h = absurd h
term_first (x ∷ ts) h = rw h refl

-- ---- a choice with no left guard

choice_made : {xs : List Lexeme} {h : HeadForm} {vs : List Value} (c : IsChoice xs None h vs) → head_made vs ≡ head c.brace h
choice_made c = rw (c.makes, c.is, c.unguarded) refl

pub choice_alone : {xs end : List Lexeme} {r : Result HeadForm Stop} → NotStarts factored tables (call Name.Term) xs → Reads choice (IsChoice xs None) xs end r → Reads (call Name.Head) (IsHead xs) xs end r
choice_alone {xs = xs} n r = follow r
    (λ h vs i d. (head i.brace h ∷ [], record { first = i.brace; leads = i.leads; makes = refl }, giving (alone (choice_made i)) (Takes.call (Takes.right (not_term_first xs n) d))))
    (λ f. Fails.call (Fails.right (not_term_first xs n) f))

-- ---- behind a term

abbrev ChoiceBehind : Rhs
ChoiceBehind = opt (call Name.Relation) ⨾ choice

pub term_fails : {xs ys : List Lexeme} → Starts factored tables (call Name.Term) xs → Fails factored tables (call Name.Term) xs ys → Fails factored tables (call Name.Head) xs ys
term_fails {xs = xs} s f = Fails.call (Fails.left (term_first xs s) (Fails.start f))

sign_first : (ys : List Lexeme) → Starts factored tables (call Name.Relation) ys → Starts factored tables ChoiceBehind ys
sign_first [] h = absurd h
sign_first (y ∷ ys) h = rw h refl

brace_first : (ys : List Lexeme) → NotStarts factored tables (call Name.Relation) ys → Starts factored tables (Tok t.OpenBrace) ys → Starts factored tables ChoiceBehind ys
brace_first [] n h = absurd h
brace_first (y ∷ ys) n h = rw (n, h) refl

nothing_first : (ys : List Lexeme) → NotStarts factored tables (call Name.Relation) ys → Lacks t.OpenBrace ys → NotStarts factored tables ChoiceBehind ys
nothing_first [] n h = tt
nothing_first (y ∷ ys) n h = rw (n, h) refl

module _ {xs ys : List Lexeme} {x : Operand} (s : Starts factored tables (call Name.Term) xs) (r : Reads (call Name.Term) (IsOperand xs) xs ys (Ok x)) where
  -- what was read is the first term
  goes : {zs : List Lexeme} {vs : List Value} {h : HeadForm} → ((first : Lexeme) → Takes factored tables (head_behind (class_of (value_of first x ∷ []))) ys zs vs) → ((first : Lexeme) → head_made (value_of first x ∷ vs) ≡ head first h) → (ws : List Value) × IsHead xs h ws × Takes factored tables (call Name.Head) xs zs ws
  goes d e = let q = taken r in (_, record { first = q.makes.first; leads = q.makes.leads; makes = alone (e q.makes.first) }, Takes.call (Takes.left (term_first xs s) (Takes.followed (giving q.makes.is q.takes) (d q.makes.first))))

  fails : {zs : List Lexeme} → ((first : Lexeme) → Fails factored tables (head_behind (class_of (value_of first x ∷ []))) ys zs) → Fails factored tables (call Name.Head) xs zs
  fails d = let q = taken r in Fails.call (Fails.left (term_first xs s) (Fails.finish (giving q.makes.is q.takes) (d q.makes.first)))

  behind_takes : (x : Operand) {zs : List Lexeme} {vs : List Value} → Starts factored tables ChoiceBehind ys → Takes factored tables ChoiceBehind ys zs vs → (first : Lexeme) → Takes factored tables (head_behind (class_of (value_of first x ∷ []))) ys zs vs
  behind_takes (Bare a) s d first = Takes.left s d
  behind_takes (Other y) s d first = d

  behind_fails : (x : Operand) {zs : List Lexeme} → Starts factored tables ChoiceBehind ys → Fails factored tables ChoiceBehind ys zs → (first : Lexeme) → Fails factored tables (head_behind (class_of (value_of first x ∷ []))) ys zs
  behind_fails (Bare a) s d first = Fails.left s d
  behind_fails (Other y) s d first = d

  signed_made : (x : Operand) (rel : Rel) {zs : List Lexeme} {h : HeadForm} {vs : List Value} → IsChoice zs (Some (record { rel = rel; term = tree_of x })) h vs → (first : Lexeme) → head_made (value_of first x ∷ relation rel ∷ vs) ≡ head first h
  signed_made (Bare a) rel c first = rw (c.makes, c.is) refl
  signed_made (Other y) rel c first = rw (c.makes, c.is) refl

  pub signed_choice : {zs end : List Lexeme} {rel : Rel} {res : Result HeadForm Stop} → IsSign ys zs rel → Reads choice (IsChoice zs (Some (record { rel = rel; term = tree_of x }))) zs end res → Reads (call Name.Head) (IsHead xs) xs end res
  signed_choice {rel = rel} n c =
      let b = sign_first ys (sign_starts n) in
      let sign = Takes.left (sign_starts n) (sign_takes n) in
      follow c
      (λ h vs i d. goes (behind_takes x b (Takes.seq sign d)) (signed_made x rel i))
      (λ f. fails (behind_fails x b (Fails.second sign f)))

  unsigned_made : (x : Operand) {zs : List Lexeme} {h : HeadForm} {vs : List Value} → IsChoice zs (Some (record { rel = Le; term = tree_of x })) h vs → (first : Lexeme) → head_made (value_of first x ∷ vs) ≡ head first h
  unsigned_made (Bare a) c first = rw (c.makes, c.is) refl
  unsigned_made (Other y) c first = rw (c.makes, c.is) refl

  pub unsigned_choice : {zs end : List Lexeme} {res : Result HeadForm Stop} → (zs ≡ ys) × NotStarts factored tables (call Name.Relation) ys → Starts factored tables (Tok t.OpenBrace) zs → Reads choice (IsChoice zs (Some (record { rel = Le; term = tree_of x }))) zs end res → Reads (call Name.Head) (IsHead xs) xs end res
  unsigned_choice g o c =
      let b = brace_first ys g.1 (rw g.0 at o) in
      let unsigned = Takes.right g.1 Takes.empty in
      follow c
      (λ h vs i d. goes (behind_takes x b (Takes.seq unsigned (from g.0 d))) (unsigned_made x i))
      (λ f. fails (behind_fails x b (Fails.second unsigned (fails_from g.0 f))))

  pub atom_alone : {zs : List Lexeme} {a : Atom} → (zs ≡ ys) × NotStarts factored tables (call Name.Relation) ys → Lacks t.OpenBrace zs → BareOr x (Ok a) → Reads (call Name.Head) (IsHead xs) xs zs (Ok (heads.One a))
  atom_alone {zs = zs} {a = a} g o b =
      let q = goes (λ first. at_bare first x (bare_ok x a b)) (λ first. bare_made first x (bare_ok x a b)) in
      Reads.ok q.1 q.2
    where
      at_bare : (first : Lexeme) (x : Operand) → x ≡ Bare a → Takes factored tables (head_behind (class_of (value_of first x ∷ []))) ys zs []
      at_bare first x e = rw (e, g.0) (Takes.right (nothing_first ys g.1 (rw g.0 at o)) Takes.empty)

      bare_made : (first : Lexeme) (x : Operand) → x ≡ Bare a → head_made (value_of first x ∷ []) ≡ head first (heads.One a)
      bare_made first x e = rw e refl

  pub not_atom : {zs : List Lexeme} (e : Stop) {R : Result HeadForm Stop} → (zs ≡ ys) × NotStarts factored tables (call Name.Relation) ys → Lacks t.OpenBrace zs → BareOr x (Err e) → IsErrAnd R (λ d. d ≡ e) → Reads (call Name.Head) (IsHead xs) xs zs R
  not_atom {zs = zs} e g o b i = let p = bare_err x e b in stopped_syntax p.2 i (fails (λ first. at_other first x p.0 p.1))
    where
      at_other : (first : Lexeme) (x : Operand) (y : Term) → x ≡ Other y → Fails factored tables (head_behind (class_of (value_of first x ∷ []))) ys zs
      at_other first x y k = rw (k, g.0) (Fails.second (Takes.right g.1 Takes.empty) (Fails.first (Fails.first (fails_tok t.OpenBrace ys (rw g.0 at o)))))
