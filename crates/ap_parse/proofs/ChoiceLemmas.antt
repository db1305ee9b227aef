-- What choices come to.
use Rattle.std.proofs.Common.{◌≡◌, List, [], ◌∷◌, ◌++◌, Option, Some, None, Ok, Err, refl, sym, ◌∙◌, ap, append-nil, append_assoc}
use Rattle.grammar.specs.Form.{◌⨾◌, opt}
use Rattle.grammar.specs.Form.Form.{Tok, Star}
use Rattle.grammar.specs.Takes.{Takes, Fails, Starts, NotStarts}
use Rattle.grammar.proofs.Loops.{Within, begun, one_more}
use Rattle.ap_syntax.specs.declared.rules.ChoiceElement.{ChoiceElement}
use Rattle.ap_syntax.specs.declared.rules.Guard.{Guard}
use Rattle.ap_syntax.specs.declared.rules.HeadForm.TheVariants as heads
use Rattle.ap_syntax.specs.declared.terms.Atom.{Atom}
use Rattle.ap_syntax.specs.declared.terms.Literal.{Literal}
use Rattle.ap_grammar.specs.declared.terminals.Terminal.TheVariants as t
use Rattle.ap_grammar.specs.Lexemes.{Lexeme}
use Rattle.ap_grammar.specs.Values.{Value, as_choice_element, as_left, as_right, collected, found}
use Rattle.ap_grammar.specs.Values.Value.{token, choice_element}
use Rattle.ap_grammar.specs.Grammar.{Name, made}
use Rattle.ap_grammar.specs.Factored.{Rhs, call, choice, factored}
use Rattle.ap_grammar.specs.Tables.{tables}
use Rattle.literal_parse.specs.declared.error.Stop.TheVariants.{Syntax}
use Rattle.literal_parse.specs.Reads.{Reads, IsAny, IsNext, Lacks}
use Rattle.literal_parse.specs.Literals.{IsAtom, IsOptionalCondition}
use Rattle.ap_parse.specs.Guards.{IsOptionalGuard}
use Rattle.ap_parse.specs.Choices.{IsBraced, IsChoice, IsChoiceElement, IsListed, IsUnguarded, braced, listed}
use Rattle.literal_parse.proofs.Steps.{taken, fails_tok, giving, next_starts, next_takes, not_seq, seq_starts}
use Rattle.literal_parse.proofs.Collects.{collected-append}

alone : {v w : Value} → v ≡ w → v ∷ [] ≡ w ∷ []
alone e = ap (λ v. v ∷ []) e

-- ---- elements

pub element_condition_fails : {xs ys end : List Lexeme} {a : Atom} → Reads (call Name.Atom) (IsAtom xs) xs ys (Ok a) → Fails factored tables (opt (call Name.Condition)) ys end → Fails factored tables (call Name.ChoiceElement) xs end
element_condition_fails r f = let q = taken r in Fails.call (Fails.second q.takes f)

element_made : (first : Lexeme) (a : Atom) (ls : List Literal) (vs : List Value) → IsOptionalCondition ls vs → made Name.ChoiceElement (Value.atom first a ∷ vs) ≡ choice_element (record { atom = a; condition = ls })
element_made first a [] [] IsOptionalCondition.absent = refl
element_made first a ls vs IsOptionalCondition.present = refl

pub element_read : {xs ys end : List Lexeme} {a : Atom} {ls : List Literal} → Reads (call Name.Atom) (IsAtom xs) xs ys (Ok a) → Reads (opt (call Name.Condition)) IsOptionalCondition ys end (Ok ls) → Reads (call Name.ChoiceElement) IsChoiceElement xs end (Ok (record { atom = a; condition = ls }))
element_read {a = a} {ls = ls} r s =
    let q = taken r in
    let p = taken s in
    Reads.ok (alone (element_made q.makes.first a ls p.values p.makes)) (Takes.call (Takes.seq (giving q.makes.makes q.takes) p.takes))

-- ---- guards among values

pub found_behind : {A : Type 0} (pick : Value → Option A) (us vs : List Value) → found pick us ≡ None → found pick (us ++ vs) ≡ found pick vs
found_behind pick [] vs e = refl
found_behind {A} pick (u ∷ us) vs e = step (pick u) (found pick us) (found pick (us ++ vs)) (λ i. found_behind pick us vs i) e
  where
    step : (o m n : Option A) → (m ≡ None → n ≡ found pick vs) → ◌≡◌ {A = Option A} (elim o [ None ↦ m | Some x ↦ Some x ]) None → ◌≡◌ {A = Option A} (elim o [ None ↦ n | Some x ↦ Some x ]) (found pick vs)
    step None m n h e = h e
    step (Some x) m n h e = absurd (cc)

unguarded_both : (us vs : List Value) → IsUnguarded us → IsUnguarded vs → IsUnguarded (us ++ vs)
unguarded_both us vs g h = record { left = found_behind as_left us vs g.left ∙ h.left; right = found_behind as_right us vs g.right ∙ h.right }

-- ---- elements in braces

abbrev pub Element : Rhs
Element = Tok t.Semicolon ⨾ call Name.ChoiceElement

-- What was read of the elements makes the new ones behind those that there were before, and no guard.
pub record Elements (start here : List Lexeme) (before now : List ChoiceElement) : Type 0 where
  pub values : List Value
  pub within : Within factored tables Element start here values
  pub grown : now ≡ before ++ collected as_choice_element values
  pub unguarded : IsUnguarded values

pub elements_begun : (start : List Lexeme) (es : List ChoiceElement) → Elements start start es es
elements_begun start es = record { values = []; within = begun factored tables Element start; grown = sym (append-nil es); unguarded = record { left = refl; right = refl } }

pub elements_more : {start here mid end : List Lexeme} {before now : List ChoiceElement} {e : ChoiceElement} → Elements start here before now → IsNext t.Semicolon here mid → Reads (call Name.ChoiceElement) IsChoiceElement mid end (Ok e) → Elements start end before (now ++ e ∷ [])
elements_more {before = before} {e = e} c n r =
    let q = taken r in
    let vs = token n.token ∷ choice_element e ∷ [] in
    record {
      values = c.values ++ vs;
      within = one_more c.within (Takes.seq (next_takes n) (giving q.makes q.takes));
      grown = ap (λ es. es ++ e ∷ []) c.grown ∙ append_assoc before (collected as_choice_element c.values) (e ∷ []) ∙ ap (λ es. before ++ es) (sym (collected-append as_choice_element c.values vs));
      unguarded = unguarded_both c.values vs c.unguarded (record { left = refl; right = refl });
    }

pub listed_none : {xs : List Lexeme} {new : List ChoiceElement} → NotStarts factored tables (call Name.ChoiceElement) xs → new ≡ [] → Reads listed IsListed xs xs (Ok new)
listed_none {xs = xs} n e = rw e (Reads.ok (record { are = refl; unguarded = record { left = refl; right = refl } }) (Takes.right (not_seq (call Name.ChoiceElement) (Star Element) xs refl n) Takes.empty))

pub listed_first_fails : {xs ys : List Lexeme} → Starts factored tables (call Name.ChoiceElement) xs → Fails factored tables (call Name.ChoiceElement) xs ys → Fails factored tables listed xs ys
listed_first_fails {xs = xs} s f = Fails.left (seq_starts (call Name.ChoiceElement) (Star Element) xs s) (Fails.first f)

module _ {xs start here : List Lexeme} {pushed now : List ChoiceElement} {e : ChoiceElement} (s : Starts factored tables (call Name.ChoiceElement) xs) (first : Reads (call Name.ChoiceElement) IsChoiceElement xs start (Ok e)) (c : Elements start here pushed now) where
  pub listed_fails : {mid end : List Lexeme} → IsNext t.Semicolon here mid → Fails factored tables (call Name.ChoiceElement) mid end → Fails factored tables listed xs end
  listed_fails {end = end} n f =
      let q = taken first in
      Fails.left (seq_starts (call Name.ChoiceElement) (Star Element) xs s)
      (Fails.second q.takes (c.within.fails end (Fails.item (seq_starts (Tok t.Semicolon) (call Name.ChoiceElement) here (next_starts n)) (Fails.second (next_takes n) f))))

  pub listed_read : {new : List ChoiceElement} {end : List Lexeme} → new ≡ [] → pushed ≡ new ++ e ∷ [] → (end ≡ here) × Lacks t.Semicolon here → Reads listed IsListed xs end (Ok now)
  listed_read {new = new} i p h =
      let q = taken first in
      Reads.ok {vs = choice_element e ∷ c.values} (record { are = joined c.values i p c.grown; unguarded = record { left = c.unguarded.left; right = c.unguarded.right } })
      (Takes.left (seq_starts (call Name.ChoiceElement) (Star Element) xs s) (Takes.seq (giving q.makes q.takes) (rw h.0 (giving (append-nil c.values) (c.within.takes here [] (Takes.none (not_seq (Tok t.Semicolon) (call Name.ChoiceElement) here refl h.1)))))))
    where
      joined : (vs : List Value) {new pushed now : List ChoiceElement} → new ≡ [] → pushed ≡ new ++ e ∷ [] → now ≡ pushed ++ collected as_choice_element vs → now ≡ collected as_choice_element (choice_element e ∷ vs)
      joined vs i p g = rw (p, i) at g

pub brace_fails : {xs ms : List Lexeme} → (ms ≡ xs) × Lacks t.OpenBrace xs → Reads braced (IsBraced xs) xs ms (Err Syntax)
brace_fails {xs = xs} h = rw h.0 (Reads.syntax (Fails.first (fails_tok t.OpenBrace xs h.1)))

module _ {xs ms ys : List Lexeme} {elements : List ChoiceElement} (n : IsNext t.OpenBrace xs ms) (r : Reads listed IsListed ms ys (Ok elements)) where
  pub close_fails : {end : List Lexeme} → Fails factored tables (Tok t.CloseBrace) ys end → Fails factored tables braced xs end
  close_fails f = let q = taken r in Fails.second (next_takes n) (Fails.second q.takes f)

  pub braced_read : {U : Type 0} {u : U} {end : List Lexeme} → Reads (Tok t.CloseBrace) IsAny ys end (Ok u) → Reads braced (IsBraced xs) xs end (Ok elements)
  braced_read s =
      let q = taken r in
      let p = taken s in
      Reads.ok (record { brace = n.token; leads = record { rest = ms; is = n.is }; others = q.values ++ token p.makes.0 ∷ []; is = refl; listed = closed q.values p.makes.0 q.makes })
      (Takes.seq (next_takes n) (Takes.seq q.takes (giving p.makes.1 p.takes)))
    where
      closed : (vs : List Value) (close : Lexeme) → IsListed elements vs → IsListed elements (vs ++ token close ∷ [])
      closed vs close l =
          record {
            are = l.are ∙ sym (collected-append as_choice_element vs (token close ∷ []) ∙ append-nil (collected as_choice_element vs));
            unguarded = unguarded_both vs (token close ∷ []) l.unguarded (record { left = refl; right = refl });
          }

-- ---- choices

module _ {xs ys : List Lexeme} {elements : List ChoiceElement} (r : Reads braced (IsBraced xs) xs ys (Ok elements)) where
  pub right_fails : {end : List Lexeme} → Fails factored tables (opt (call Name.RightGuard)) ys end → Fails factored tables choice xs end
  right_fails f = let q = taken r in Fails.second q.takes f

  pub choice_read : {end : List Lexeme} {guard : Option Guard} (left : Option Guard) → Reads (opt (call Name.RightGuard)) IsOptionalGuard ys end (Ok guard) → Reads choice (IsChoice xs left) xs end (Ok (heads.Choice left elements guard))
  choice_read {guard = guard} left s =
      let q = taken r in
      let p = taken s in
      Reads.ok
      (record {
        brace = q.makes.brace;
        leads = q.makes.leads;
        others = q.makes.others ++ p.values;
        is = refl;
        makes = whole q.makes.others p.values guard q.makes.listed p.makes;
        unguarded = found_behind as_left q.makes.others p.values q.makes.listed.unguarded.left ∙ no_left p.values guard p.makes;
      })
      (Takes.seq (giving q.makes.is q.takes) p.takes)
    where
      no_left : (vs : List Value) (guard : Option Guard) → IsOptionalGuard guard vs → found as_left vs ≡ None
      no_left vs guard IsOptionalGuard.absent = refl
      no_left vs guard IsOptionalGuard.present = refl

      no_elements : (vs : List Value) (guard : Option Guard) → IsOptionalGuard guard vs → collected as_choice_element vs ≡ []
      no_elements vs guard IsOptionalGuard.absent = refl
      no_elements vs guard IsOptionalGuard.present = refl

      its_right : (vs : List Value) (guard : Option Guard) → IsOptionalGuard guard vs → found as_right vs ≡ guard
      its_right vs guard IsOptionalGuard.absent = refl
      its_right vs guard IsOptionalGuard.present = refl

      whole : (us vs : List Value) (guard : Option Guard) → IsListed elements us → IsOptionalGuard guard vs → heads.Choice left elements guard ≡ heads.Choice left (collected as_choice_element (us ++ vs)) (found as_right (us ++ vs))
      whole us vs guard l g = rw (found_behind as_right us vs l.unguarded.right, its_right vs guard g, collected-append as_choice_element us vs, no_elements vs guard g, append-nil (collected as_choice_element us), ← l.are) refl
