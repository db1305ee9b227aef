-- What a text comes to, by where its reading stops.
use Rattle.std.proofs.Common.{◌≡◌, ℕ, zero, suc, ◌+◌, ◌<◌, ◌≤◌, Bool, true, false, List, [], ◌∷◌, ◌++◌, length, take, drop, None, Some, Err, refl, sym, ap, subst, ◌∙◌, append_assoc, length-append, arith}
use Rattle.std.specs.Prelude.{IfSome, Option, slice_get}
use Rattle.std.proofs.lemmas.List.{append-nil, at_drop_more, length-take, take-append-drop}
use Rattle.std.proofs.lemmas.Option.{get_or_from_slice_get, slice_get_within}
use Rattle.grammar.specs.Fault.{IsText, IsFault}
use Rattle.ap_grammar.specs.Grammar.{Name, grammar}
use Rattle.ap_grammar.specs.Lexemes.{Lexeme}
use Rattle.ap_grammar.specs.Values.{Value}
use Rattle.ap_lexemes.specs.declared.limit.LimitAt.{LimitAt}
use Rattle.ap_lexemes.specs.Constructs.{construct_of}
use Rattle.ap_lexemes.specs.Limits.{first_limit}
use Rattle.ap_lexemes.specs.Stops.{finished, last_fault, stopped, up_to}
use Rattle.ap_lexemes.specs.Texts.{IsOutcome, fault_of, in_type}

-- a front of a text of the rule, by its value
text_begins : {n : Name} {xs : List Lexeme} {v : Value} → IsText grammar n xs v → (more : List Lexeme) × (w : Value) × IsText grammar n (xs ++ more) w
text_begins {n = n} {xs = xs} {v = v} d = ([], v, subst (λ ys. IsText grammar n ys v) (sym (append-nil xs)) d)

module _ (n : Name) (xs : List Lexeme) (end : ℕ) (is_cut : Bool) where
  stops_in : (limit : Option LimitAt) (read rest : List Lexeme) → first_limit xs ≡ limit → up_to limit xs ≡ read ++ rest → IsFault grammar n read rest → IsOutcome n xs end is_cut (Err (stopped (in_type n) limit xs end read rest))
  stops_in None read [] is e f = IsOutcome.ends (subst (λ ys. IsFault grammar n ys []) (sym (e ∙ append-nil read)) f) is
  stops_in None read (x ∷ rest) is e f = IsOutcome.token e f (subst (λ o. IfSome o (λ l. length read ≤ l.index)) (sym is) tt)
  stops_in (Some l) read [] is e f = IsOutcome.limit is (subst (λ ys. (more : List Lexeme) × (w : Value) × IsText grammar n (ys ++ more) w) (sym (e ∙ append-nil read)) f.begins)
  stops_in (Some l) read (x ∷ rest) is e f =
      let shorter : length read < l.index + 1 = omega (arith, ap length e, length-append read (x ∷ rest), length-take (l.index + 1) xs) in
      let whole : xs ≡ read ++ (x ∷ (rest ++ drop (l.index + 1) xs)) = sym (take-append-drop (l.index + 1) xs) ∙ ap (λ ys. ys ++ drop (l.index + 1) xs) e ∙ append_assoc read (x ∷ rest) (drop (l.index + 1) xs) in
      IsOutcome.token whole (record { begins = f.begins; stops = f.stops }) (subst (λ o. IfSome o (λ l. length read ≤ l.index)) (sym is) (omega arith))

  pub outcome_of_stop : (read rest : List Lexeme) → up_to (first_limit xs) xs ≡ read ++ rest → IsFault grammar n read rest → IsOutcome n xs end is_cut (Err (stopped (in_type n) (first_limit xs) xs end read rest))
  outcome_of_stop read rest e f = stops_in (first_limit xs) read rest refl e f

ends_in : (n : Name) (xs : List Lexeme) (end : ℕ) (is_cut : Bool) (limit : Option LimitAt) (v : Value) → first_limit xs ≡ limit → IsText grammar n (up_to limit xs) v → IsOutcome n xs end is_cut (finished limit xs end is_cut v)
ends_in n xs end false None v is d = IsOutcome.good d is refl
ends_in n xs end true None v is d = IsOutcome.cut d is refl
ends_in n xs end false (Some l) v is d = IsOutcome.limit is (text_begins d)
ends_in n xs end true (Some l) v is d = IsOutcome.limit is (text_begins d)

pub outcome_of_end : (n : Name) (xs : List Lexeme) (end : ℕ) (is_cut : Bool) (v : Value) → IsText grammar n (up_to (first_limit xs) xs) v → IsOutcome n xs end is_cut (finished (first_limit xs) xs end is_cut v)
outcome_of_end n xs end is_cut v d = ends_in n xs end is_cut (first_limit xs) v refl d

-- the token of a number, and all from it on
from_got : (xs : List Lexeme) (k : ℕ) (x : Lexeme) → Some x ≡ slice_get xs k → drop k xs ≡ x ∷ drop (k + 1) xs
from_got xs k x e = at_drop_more (λ rs. rs) xs k x (slice_get_within xs k x (sym e)) ∙ ap (λ y. y ∷ drop (k + 1) xs) (get_or_from_slice_get xs k x x (sym e))

from_none : (xs : List Lexeme) (k : ℕ) → None ≡ slice_get xs k → drop k xs ≡ []
from_none [] zero e = refl
from_none [] (suc k) e = refl
from_none (y ∷ ys) zero e = cc
from_none (y ∷ ys) (suc k) e = from_none ys k e

-- the fault where some tokens were read, by the next one
module _ (of_type : Bool) (limit : Option LimitAt) (xs : List Lexeme) (end read : ℕ) {held front : List Lexeme} where
  pub stopped-at : (x : Lexeme) → held ≡ front → Some x ≡ slice_get held read → fault_of (construct_of of_type (take read held) x) x.at ≡ stopped of_type limit xs end (take read front) (drop read front)
  stopped-at x e got = rw (← e, from_got held read x got) refl

  pub stopped-end : held ≡ front → None ≡ slice_get held read → last_fault limit xs end ≡ stopped of_type limit xs end (take read front) (drop read front)
  stopped-end e got = rw (← e, from_none held read got) refl
