-- Choices whose first alternative is read without a look at the next token.
use Rattle.std.proofs.Common.{◌≡◌, Bool, true, false, List, [], ◌∷◌, refl}
use Rattle.std.specs.Prelude.{◌&&◌}
use Rattle.grammar.specs.Form.{Form, Grammar, ◌⨾◌, ◌∣◌, opt}
use Rattle.grammar.specs.Form.Form.{Call, Seq, Alt, Star, Then}
use Rattle.grammar.specs.Tables.{Tables, nullable, starts, IsPredictive}
use Rattle.grammar.specs.Takes.{Takes, Fails, Starts, NotStarts}
use Rattle.grammar.proofs.Laws.{Front, both, is_false, or_false}
use Rattle.grammar.proofs.Laws as laws
use Rattle.ap_grammar.specs.declared.terminals.Terminal.{Terminal}
use Rattle.ap_grammar.specs.Lexemes.{Lexeme}
use Rattle.ap_grammar.specs.Values.{Value, Class}
use Rattle.ap_grammar.specs.Factored.{Part, Rhs, factored}
use Rattle.ap_grammar.specs.Tables.{tables}
use Rattle.ap_grammar.proofs.Predictive.{predictive}

and_false : (a b : Bool) → a ≡ true → (a && b) ≡ false → b ≡ false
and_false true b h i = i
and_false false b h i = absurd (cc)

module _ (N K C T V : Type 0) (g : Grammar N K C T V) (tb : Tables N K C) (p : IsPredictive g tb) where
  not_rule : (n : N) (xs : List T) → NotStarts g tb (Call n) xs → NotStarts g tb (g.rule n) xs
  not_rule n [] h = tt
  not_rule n (t ∷ ts) h = is_false _ (λ e. both _ (p.first n _ e) h)

  not_first : (a b : Form N K C) (xs : List T) → NotStarts g tb (Seq a b) xs → NotStarts g tb a xs
  not_first a b [] h = tt
  not_first a b (t ∷ ts) h = (or_false _ _ h).0

  not_second : (a b : Form N K C) (xs : List T) → nullable tb a ≡ true → NotStarts g tb (Seq a b) xs → NotStarts g tb b xs
  not_second a b [] n h = tt
  not_second a b (t ∷ ts) n h = and_false _ _ n (or_false _ _ h).1

  not_start : (a : Form N K C) (b : C → Form N K C) (xs : List T) → NotStarts g tb (Then a b) xs → NotStarts g tb a xs
  not_start a b [] h = tt
  not_start a b (t ∷ ts) h = (or_false _ _ h).0

  not_finish : (a : Form N K C) (b : C → Form N K C) (c : C) (xs : List T) → nullable tb a ≡ true → NotStarts g tb (Then a b) xs → NotStarts g tb (b c) xs
  not_finish a b c [] n h = tt
  not_finish a b c (t ∷ ts) n h = is_false _ (λ e. both _ (p.classes (λ c. starts tb (b c) (g.kind t)) c e) (and_false _ _ n (or_false _ _ h).1))

  not_left : (a b : Form N K C) (xs : List T) → NotStarts g tb (Alt a b) xs → NotStarts g tb a xs
  not_left a b [] h = tt
  not_left a b (t ∷ ts) h = (or_false _ _ h).0

  not_right : (a b : Form N K C) (xs : List T) → NotStarts g tb (Alt a b) xs → NotStarts g tb b xs
  not_right a b [] h = tt
  not_right a b (t ∷ ts) h = (or_false _ _ h).1

  never : (a : Form N K C) (xs : List T) → Starts g tb a xs → NotStarts g tb a xs → ⊥
  never a [] h i = h
  never a (t ∷ ts) h i = both _ h i

  -- behind a part that took nothing
  behind : {a : Form N K C} (b : Form N K C) {xs ys zs : List T} → Front g tb a xs ys → NotStarts g tb a xs → (nullable tb a ≡ true → NotStarts g tb b xs) → (NotStarts g tb b ys → zs ≡ ys) → zs ≡ xs
  behind b (Front.nothing n) h i k = k (i n)
  behind b (Front.some s) h i k = absurd (both _ s h)

  -- a form that does not begin fails at once
  pub stays : {a : Form N K C} {xs ys : List T} → Fails g tb a xs ys → NotStarts g tb a xs → ys ≡ xs
  stays Fails.tok_end h = refl
  stays (Fails.tok_other e) h = refl
  stays (Fails.call {n = n} {xs = xs} f) h = stays f (not_rule n xs h)
  stays (Fails.first {a = a} {b = b} {xs = xs} f) h = stays f (not_first a b xs h)
  stays (Fails.second {a = a} {b = b} {xs = xs} d f) h = behind b (laws.front N K C T V g tb p (laws.takes_derives N K C T V g tb p d)) (not_first a b xs h) (λ n. not_second a b xs n h) (λ i. stays f i)
  stays (Fails.left {a = a} {b = b} {xs = xs} s f) h = absurd (never a xs s (not_left a b xs h))
  stays (Fails.right {a = a} {b = b} {xs = xs} s f) h = stays f (not_right a b xs h)
  stays (Fails.item {a = a} {xs = xs} s f) h = absurd (never (Star a) xs (begins a xs s) h)
    where
      begins : (a : Form N K C) (xs : List T) → Starts g tb a xs → Starts g tb (Star a) xs
      begins a [] s = s
      begins a (t ∷ ts) s = s
  stays (Fails.later {a = a} {xs = xs} d f) h = behind (Star a) (laws.front N K C T V g tb p (laws.takes_derives N K C T V g tb p d)) (item_not a xs h) (λ n. h) (λ i. stays f i)
    where
      item_not : (a : Form N K C) (xs : List T) → NotStarts g tb (Star a) xs → NotStarts g tb a xs
      item_not a [] h = tt
      item_not a (t ∷ ts) h = h
  stays (Fails.start {a = a} {b = b} {xs = xs} f) h = stays f (not_start a b xs h)
  stays (Fails.finish {a = a} {b = b} {xs = xs} {us = us} d f) h = behind (b (g.class us)) (laws.front N K C T V g tb p (laws.takes_derives N K C T V g tb p d)) (not_start a b xs h) (λ n. not_finish a b (g.class us) xs n h) (λ i. stays f i)

-- what was taken begins with the form
pub taken_starts : {a : Rhs} {xs ys : List Lexeme} {vs : List Value} → nullable tables a ≡ false → Takes factored tables a xs ys vs → Starts factored tables a xs
taken_starts {a = a} n d = laws.begun Part Terminal Class Lexeme Value factored tables predictive a n (laws.front Part Terminal Class Lexeme Value factored tables predictive (laws.takes_derives Part Terminal Class Lexeme Value factored tables predictive d))

pub chosen : {a : Rhs} {xs ys : List Lexeme} {vs : List Value} (b : Rhs) → nullable tables a ≡ false → Takes factored tables a xs ys vs → Takes factored tables (a ∣ b) xs ys vs
chosen b n d = Takes.left (taken_starts n d) d

-- where the first alternative fails, and does not begin, the second one decides
pub choice_fails : (a b : Rhs) (xs : List Lexeme) {ys : List Lexeme} → Fails factored tables a xs ys → (NotStarts factored tables a xs → Fails factored tables b xs xs) → Fails factored tables (a ∣ b) xs ys
choice_fails a b [] f h = let e = stays Part Terminal Class Lexeme Value factored tables predictive f tt in rw e (Fails.right tt (h tt))
choice_fails a b (t ∷ ts) {ys = ys} f h = decide (starts tables a t.terminal) refl
  where
    decide : (c : Bool) → starts tables a t.terminal ≡ c → Fails factored tables (a ∣ b) (t ∷ ts) ys
    decide true e = Fails.left e f
    decide false e = rw (stays Part Terminal Class Lexeme Value factored tables predictive f e) (Fails.right e (h e))

-- the same where the first form may be left out, and another one follows
pub option_fails : (a b : Rhs) (xs : List Lexeme) {ys : List Lexeme} → Fails factored tables a xs ys → (NotStarts factored tables a xs → Fails factored tables b xs xs) → Fails factored tables (opt a ⨾ b) xs ys
option_fails a b [] f h = let e = stays Part Terminal Class Lexeme Value factored tables predictive f tt in rw e (Fails.second (Takes.right tt Takes.empty) (h tt))
option_fails a b (t ∷ ts) {ys = ys} f h = decide (starts tables a t.terminal) refl
  where
    decide : (c : Bool) → starts tables a t.terminal ≡ c → Fails factored tables (opt a ⨾ b) (t ∷ ts) ys
    decide true e = Fails.first (Fails.left e f)
    decide false e = rw (stays Part Terminal Class Lexeme Value factored tables predictive f e) (Fails.second (Takes.right e Takes.empty) (h e))
