-- Single tokens, and the exits of a rule.
use Rattle.std.proofs.Common.{◌≡◌, List, [], ◌∷◌, Result, Ok, Err, false, refl, sym, length, ◌≤◌, arith}
use Rattle.std.specs.Result.{IsErrAnd}
use Rattle.grammar.specs.Form.{◌⨾◌, ◌∣◌}
use Rattle.grammar.specs.Form.Form.{Tok}
use Rattle.grammar.specs.Tables.{nullable}
use Rattle.grammar.specs.Takes.{Takes, Fails, Starts, NotStarts}
use Rattle.grammar.proofs.Laws.{is_false, both}
use Rattle.ap_grammar.specs.declared.terminals.Terminal.{Terminal}
use Rattle.ap_grammar.specs.Lexemes.{Lexeme}
use Rattle.ap_grammar.specs.Values.{Value}
use Rattle.ap_grammar.specs.Values.Value.{token}
use Rattle.ap_grammar.specs.Factored.{Rhs, factored}
use Rattle.ap_grammar.specs.Tables.{tables, same}
use Rattle.ap_grammar.proofs.Predictive.{same_is, same_itself}
use Rattle.literal_parse.specs.declared.error.Stop.{Stop}
use Rattle.literal_parse.specs.declared.error.Stop.TheVariants.{Memory, Syntax}
use Rattle.literal_parse.specs.Reads.{Reads, IsNext, Lacks}

-- ---- what comes next

pub not_same : (j k : Terminal) → (j ≡ k → ⊥) → same k j ≡ false
not_same j k h = is_false _ (λ e. h (sym (same_is k j e)))

pub next_starts : {k : Terminal} {old new : List Lexeme} → IsNext k old new → Starts factored tables (Tok k) old
next_starts {k = k} n = rw (n.is, n.kind) (same_itself k)

pub next_takes : {k : Terminal} {old new : List Lexeme} (n : IsNext k old new) → Takes factored tables (Tok k) old new (token n.token ∷ [])
next_takes n = rw n.is (Takes.tok n.kind)

pub next_shorter : {k : Terminal} {old new : List Lexeme} → IsNext k old new → length new ≤ length old
next_shorter n = rw n.is (omega arith)

-- where a token is lacking its form fails
pub fails_tok : (k : Terminal) (ts : List Lexeme) → Lacks k ts → Fails factored tables (Tok k) ts ts
fails_tok k [] h = Fails.tok_end
fails_tok k (t ∷ ts) h = Fails.tok_other (λ e. both _ (rw e (same_itself k)) h)

-- ---- the exits

err_by : {X : Type 0} {Q : Stop → Type 0} (r : Result X Stop) → IsErrAnd r Q → (d : Stop) × (r ≡ Err d) × Q d
err_by (Ok x) h = absurd h
err_by (Err d) h = (d, refl, h)

failed : {X Y : Type 0} {a b : Rhs} {is : X → List Value → Type 0} {is' : Y → List Value → Type 0} {xs ys zs : List Lexeme} {e : Stop} → Reads a is ys zs (Err e) → (Fails factored tables a ys zs → Fails factored tables b xs zs) → Reads b is' xs zs (Err e)
failed (Reads.syntax f) h = Reads.syntax (h f)
failed Reads.memory h = Reads.memory

-- by a `?` whose part failed
pub exit : {X Y : Type 0} {a b : Rhs} {is : X → List Value → Type 0} {is' : Y → List Value → Type 0} {xs ys zs : List Lexeme} {r : Result Y Stop} {e : Stop} → Reads a is ys zs (Err e) → IsErrAnd r (λ d. d ≡ e) → (Fails factored tables a ys zs → Fails factored tables b xs zs) → Reads b is' xs zs r
exit {r = r} f h k = let p = err_by r h in rw (p.1, p.2) (failed f k)

-- by a `?` for want of memory
pub no_memory : {Y : Type 0} {b : Rhs} {is' : Y → List Value → Type 0} {xs zs : List Lexeme} {r : Result Y Stop} → IsErrAnd r (λ d. d ≡ Memory) → Reads b is' xs zs r
no_memory {r = r} h = let p = err_by r h in rw (p.1, p.2) Reads.memory

-- the same, through another function that fails for want of memory alone
pub stopped : {Y : Type 0} {b : Rhs} {is' : Y → List Value → Type 0} {xs zs : List Lexeme} {r : Result Y Stop} {e : Stop} → e ≡ Memory → IsErrAnd r (λ d. d ≡ e) → Reads b is' xs zs r
stopped {r = r} m h = let p = err_by r h in rw (p.1, p.2, m) Reads.memory

pub stopped_syntax : {Y : Type 0} {b : Rhs} {is' : Y → List Value → Type 0} {xs zs : List Lexeme} {r : Result Y Stop} {e : Stop} → e ≡ Syntax → IsErrAnd r (λ d. d ≡ e) → Fails factored tables b xs zs → Reads b is' xs zs r
stopped_syntax {r = r} m h f = let p = err_by r h in rw (p.1, p.2, m) (Reads.syntax f)

-- by the result of the last part
pub follow : {X : Type 0} {a b : Rhs} {is : X → List Value → Type 0} {is' : X → List Value → Type 0} {xs ys zs : List Lexeme} {r : Result X Stop} → Reads a is ys zs r → ((x : X) (vs : List Value) → is x vs → Takes factored tables a ys zs vs → (ws : List Value) × is' x ws × Takes factored tables b xs zs ws) → (Fails factored tables a ys zs → Fails factored tables b xs zs) → Reads b is' xs zs r
follow (Reads.ok i t) h k = let q = h _ _ i t in Reads.ok q.1 q.2
follow (Reads.syntax f) h k = Reads.syntax (k f)
follow Reads.memory h k = Reads.memory

-- what was taken
pub record Taken {X : Type 0} (a : Rhs) (is : X → List Value → Type 0) (xs ys : List Lexeme) (x : X) : Type 0 where
  pub values : List Value
  pub makes : is x values
  pub takes : Takes factored tables a xs ys values

pub taken : {X : Type 0} {a : Rhs} {is : X → List Value → Type 0} {xs ys : List Lexeme} {x : X} → Reads a is xs ys (Ok x) → Taken a is xs ys x
taken (Reads.ok i t) = record { values = _; makes = i; takes = t }

-- ---- what does not begin

-- a part that is not empty and does not begin
pub not_seq : (a b : Rhs) (ts : List Lexeme) → nullable tables a ≡ false → NotStarts factored tables a ts → NotStarts factored tables (a ⨾ b) ts
not_seq a b [] n h = tt
not_seq a b (t ∷ ts) n h = rw (h, n) refl

pub not_alt : (a b : Rhs) (ts : List Lexeme) → NotStarts factored tables a ts → NotStarts factored tables b ts → NotStarts factored tables (a ∣ b) ts
not_alt a b [] h i = tt
not_alt a b (t ∷ ts) h i = rw (h, i) refl

pub seq_starts : (a b : Rhs) (ts : List Lexeme) → Starts factored tables a ts → Starts factored tables (a ⨾ b) ts
seq_starts a b [] h = absurd h
seq_starts a b (t ∷ ts) h = rw h refl

-- ---- what was taken, from another list or with other values that are the same

pub from : {a : Rhs} {xs ms ys : List Lexeme} {vs : List Value} → ms ≡ xs → Takes factored tables a ms ys vs → Takes factored tables a xs ys vs
from e t = rw e at t

pub giving : {a : Rhs} {xs ys : List Lexeme} {vs ws : List Value} → vs ≡ ws → Takes factored tables a xs ys vs → Takes factored tables a xs ys ws
giving e t = rw e at t

pub fails_from : {a : Rhs} {xs ms ys : List Lexeme} → ms ≡ xs → Fails factored tables a ms ys → Fails factored tables a xs ys
fails_from e f = rw e at f

-- a token that does not come next
pub not_there : {X : Type 0} {is : X → List Value → Type 0} {xs ys : List Lexeme} (k : Terminal) → (ys ≡ xs) × Lacks k xs → Reads (Tok k) is xs ys (Err Syntax)
not_there {xs = xs} k h = rw h.0 (Reads.syntax (fails_tok k xs h.1))
