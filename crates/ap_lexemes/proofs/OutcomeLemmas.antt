-- A text has at most one outcome.
use Rattle.std.proofs.Common.{◌≡◌, ℕ, zero, suc, ◌+◌, ◌<◌, ◌≤◌, Bool, List, [], ◌∷◌, ◌++◌, length, take, Some, Ok, Err, refl, sym, ap, subst, ◌∙◌, append_assoc, length-append, arith}
use Rattle.std.specs.Prelude.{IfSome, Result}
use Rattle.std.proofs.lemmas.List.{append-nil, append_cancel_left}
use Rattle.grammar.specs.Fault.{IsText, IsFault}
use Rattle.grammar.proofs.OnePlace.{one_place}
use Rattle.ap_grammar.proofs.Places.{one_value}
use Rattle.ap_grammar.specs.Grammar.{Name, grammar}
use Rattle.ap_grammar.specs.Lexemes.{Lexeme}
use Rattle.ap_grammar.specs.Values.{Value}
use Rattle.ap_lexemes.specs.declared.limit.LimitAt.{LimitAt}
use Rattle.ap_lexemes.specs.declared.fault.ParseFault.{ParseFault}
use Rattle.ap_lexemes.specs.declared.fault.ParseFault.TheVariants.{Limit}
use Rattle.ap_lexemes.specs.Limits.{first_limit}
use Rattle.ap_lexemes.specs.Texts.{Begins, IsOutcome, NoLimitBefore, place_of}

-- a whole text has no fault
whole : {n : Name} {xs read rest : List Lexeme} {v : Value} → xs ≡ read ++ rest → IsText grammar n xs v → IsFault grammar n read rest → ⊥
whole {n = n} {rest = rest} {v = v} e d f = f.stops rest v refl (subst (λ ys. IsText grammar n ys v) e d)

-- a front that is longer than the first part
front_behind : (read rest : List Lexeme) (x : Lexeme) (k : ℕ) → length read < k → (more : List Lexeme) × (take k (read ++ (x ∷ rest)) ≡ read ++ (x ∷ more))
front_behind [] rest x zero lt = absurd (omega arith)
front_behind [] rest x (suc k) lt = (take k rest, refl)
front_behind (y ∷ read) rest x zero lt = absurd (omega arith)
front_behind (y ∷ read) rest x (suc k) lt = let h = front_behind read rest x k (omega arith) in (h.0, ap (λ ys. y ∷ ys) h.1)

-- no text begins with a front that reaches beyond a fault
beyond : {n : Name} {xs read rest : List Lexeme} {x : Lexeme} (k : ℕ) → xs ≡ read ++ (x ∷ rest) → IsFault grammar n read (x ∷ rest) → length read < k → Begins n (take k xs) → ⊥
beyond {n = n} {xs = xs} {read = read} {rest = rest} {x = x} k e f lt b =
    let h = front_behind read rest x k lt in
    let same : take k xs ++ b.0 ≡ read ++ (x ∷ (h.0 ++ b.0)) = ap (λ ys. take k ys ++ b.0) e ∙ ap (λ ys. ys ++ b.0) h.1 ∙ append_assoc read (x ∷ h.0) b.0 in
    f.stops (x ∷ (h.0 ++ b.0)) b.1 refl (subst (λ ys. IsText grammar n ys b.1) same b.2)

-- so a limit within a text stands before the fault
before_fault : {n : Name} {xs read rest : List Lexeme} {x : Lexeme} {l : LimitAt} → xs ≡ read ++ (x ∷ rest) → IsFault grammar n read (x ∷ rest) → first_limit xs ≡ Some l → Begins n (take (l.index + 1) xs) → NoLimitBefore (length read) xs → ⊥
before_fault {read = read} {l = l} e f is b free =
    let after : length read ≤ l.index = subst (λ o. IfSome o (λ l. length read ≤ l.index)) is free in beyond (l.index + 1) e f (omega arith) b

head_of : (y z : Lexeme) (ys zs : List Lexeme) → y ∷ ys ≡ z ∷ zs → y ≡ z
head_of y z ys zs e = cc

one_token : {n : Name} {xs read rest other left : List Lexeme} {x y : Lexeme} → xs ≡ read ++ (x ∷ rest) → xs ≡ other ++ (y ∷ left) → IsFault grammar n read (x ∷ rest) → IsFault grammar n other (y ∷ left) → (read ≡ other) × (x ≡ y)
one_token {read = read} {rest = rest} {other = other} {left = left} {x = x} {y = y} e h f g =
    let same : read ≡ other = one_place (sym e ∙ h) f g in
    (same, head_of x y rest left (append_cancel_left other (x ∷ rest) (y ∷ left) (ap (λ ys. ys ++ (x ∷ rest)) (sym same) ∙ sym e ∙ h)))

-- a fault at the end is behind all tokens
not_at_end : {n : Name} {xs read rest : List Lexeme} {x : Lexeme} → xs ≡ read ++ (x ∷ rest) → IsFault grammar n read (x ∷ rest) → IsFault grammar n xs [] → ⊥
not_at_end {xs = xs} {read = read} {rest = rest} {x = x} e f g =
    let same : read ≡ xs = one_place (sym e ∙ sym (append-nil xs)) f g in
    let longer : length xs ≡ length read + length (x ∷ rest) = ap length e ∙ length-append read (x ∷ rest) in
    omega (arith, ap length same)

pub one_outcome : {n : Name} {xs : List Lexeme} {end : ℕ} {is_cut : Bool} (r s : Result Value ParseFault) → IsOutcome n xs end is_cut r → IsOutcome n xs end is_cut s → r ≡ s
one_outcome r s (IsOutcome.good d a b) (IsOutcome.good e f g) = ap Ok (one_value e d)
one_outcome r s (IsOutcome.good d a b) (IsOutcome.limit f g) = cc
one_outcome r s (IsOutcome.good d a b) (IsOutcome.token e f g) = absurd (whole e d f)
one_outcome {xs = xs} r s (IsOutcome.good d a b) (IsOutcome.ends f g) = absurd (whole (sym (append-nil xs)) d f)
one_outcome r s (IsOutcome.good d a b) (IsOutcome.cut e f g) = cc
one_outcome r s (IsOutcome.limit f g) (IsOutcome.good d a b) = cc
one_outcome {xs = xs} r s (IsOutcome.limit {l = l} a b) (IsOutcome.limit {l = m} f g) = let same : l ≡ m = cc in ap (λ (l : LimitAt). Err (Limit l.which (place_of xs l.index))) same
one_outcome r s (IsOutcome.limit a b) (IsOutcome.token e f g) = absurd (before_fault e f a b g)
one_outcome r s (IsOutcome.limit a b) (IsOutcome.ends f g) = cc
one_outcome r s (IsOutcome.limit a b) (IsOutcome.cut e f g) = cc
one_outcome r s (IsOutcome.token e f g) (IsOutcome.good d a b) = absurd (whole e d f)
one_outcome r s (IsOutcome.token e f g) (IsOutcome.limit a b) = absurd (before_fault e f a b g)
one_outcome {n = n} r s (IsOutcome.token {read = read} {x = x} e f g) (IsOutcome.token {read = other} {x = y} h i j) =
    let same = one_token e h f i in rw (same.0, same.1) refl
one_outcome r s (IsOutcome.token e f g) (IsOutcome.ends h i) = absurd (not_at_end e f h)
one_outcome r s (IsOutcome.token e f g) (IsOutcome.cut d a b) = absurd (whole e d f)
one_outcome {xs = xs} r s (IsOutcome.ends f g) (IsOutcome.good d a b) = absurd (whole (sym (append-nil xs)) d f)
one_outcome r s (IsOutcome.ends f g) (IsOutcome.limit a b) = cc
one_outcome r s (IsOutcome.ends f g) (IsOutcome.token e h i) = absurd (not_at_end e h f)
one_outcome r s (IsOutcome.ends f g) (IsOutcome.ends h i) = refl
one_outcome r s (IsOutcome.ends f g) (IsOutcome.cut d a b) = refl
one_outcome r s (IsOutcome.cut d a b) (IsOutcome.good e f g) = cc
one_outcome r s (IsOutcome.cut d a b) (IsOutcome.limit f g) = cc
one_outcome r s (IsOutcome.cut d a b) (IsOutcome.token e f g) = absurd (whole e d f)
one_outcome r s (IsOutcome.cut d a b) (IsOutcome.ends f g) = refl
one_outcome r s (IsOutcome.cut d a b) (IsOutcome.cut e f g) = refl
