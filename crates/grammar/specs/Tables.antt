-- What of a form can be told from one token: whether it may be empty, how it may begin, and what may go on with it
-- (Rosenkrantz and Stearns 1970).
use Rattle.std.specs.Prelude.{◌≡◌, Bool, true, false, List, [], ◌∷◌}
use Rattle.std.specs.Prelude.{◌||◌, ◌&&◌}
use Rattle.grammar.specs.Form.{Form, Grammar}
use Rattle.grammar.specs.Form.Form.{Tok, Call, Empty, Seq, Alt, Star, Then}

pub record Tables (N K C : Type 0) : Type 0 where
  pub same : K → K → Bool
  pub null : N → Bool
  pub first : N → K → Bool
  pub after : N → K → Bool
  pub classes : List C

-- some class of the list passes the test
abbrev pub some_in : {C : Type 0} → List C → (C → Bool) → Bool
some_in [] q = false
some_in (c ∷ cs) q = q c || some_in cs q

abbrev pub nullable : {N K C : Type 0} → Tables N K C → Form N K C → Bool
nullable tb (Tok k) = false
nullable tb (Call n) = tb.null n
nullable tb Empty = true
nullable tb (Seq a b) = nullable tb a && nullable tb b
nullable tb (Alt a b) = nullable tb a || nullable tb b
nullable tb (Star a) = true
nullable tb (Then a b) = nullable tb a && some_in tb.classes (λ c. nullable tb (b c))

abbrev pub starts : {N K C : Type 0} → Tables N K C → Form N K C → K → Bool
starts tb (Tok j) k = tb.same j k
starts tb (Call n) k = tb.first n k
starts tb Empty k = false
starts tb (Seq a b) k = starts tb a k || (nullable tb a && starts tb b k)
starts tb (Alt a b) k = starts tb a k || starts tb b k
starts tb (Star a) k = starts tb a k
starts tb (Then a b) k = starts tb a k || (nullable tb a && some_in tb.classes (λ c. starts tb (b c) k))

-- the kinds with which a text of the form may go on, where another text of the form has ended
abbrev pub goes_on : {N K C : Type 0} → Tables N K C → Form N K C → K → Bool
goes_on tb (Tok j) k = false
goes_on tb (Call n) k = tb.after n k
goes_on tb Empty k = false
goes_on tb (Seq a b) k = goes_on tb b k || (nullable tb b && goes_on tb a k)
goes_on tb (Alt a b) k = (goes_on tb a k || goes_on tb b k) || (nullable tb b && starts tb a k)
goes_on tb (Star a) k = goes_on tb a k || starts tb a k
goes_on tb (Then a b) k = some_in tb.classes (λ c. goes_on tb (b c) k) || (some_in tb.classes (λ c. nullable tb (b c)) && goes_on tb a k)

abbrev pub Apart : {K : Type 0} → (K → Bool) → (K → Bool) → Type 0
Apart {K} p q = (k : K) → p k ≡ true → q k ≡ true → ⊥

-- One token tells at each place of the form which way to go. Only the last alternative may be empty.
abbrev pub IsClear : {N K C : Type 0} → Tables N K C → Form N K C → Type 0
IsClear tb (Tok k) = Unit {0}
IsClear tb (Call n) = Unit {0}
IsClear tb Empty = Unit {0}
IsClear tb (Seq a b) = IsClear tb a × IsClear tb b × Apart (goes_on tb a) (starts tb b)
IsClear tb (Alt a b) = IsClear tb a × IsClear tb b × Apart (starts tb a) (starts tb b) × (nullable tb a ≡ false)
IsClear tb (Star a) = IsClear tb a × (nullable tb a ≡ false) × Apart (goes_on tb a) (starts tb a)
IsClear {C = C} tb (Then a b) = IsClear tb a × ((c : C) → IsClear tb (b c)) × ((c : C) → Apart (goes_on tb a) (starts tb (b c)))

-- the tables hold what the rules need, and each rule is clear
pub record IsPredictive {N K C T V : Type 0} (g : Grammar N K C T V) (tb : Tables N K C) : Type 0 where
  pub same : (k : K) → tb.same k k ≡ true
  pub classes : (q : C → Bool) (c : C) → q c ≡ true → some_in tb.classes q ≡ true
  pub null : (n : N) → nullable tb (g.rule n) ≡ true → tb.null n ≡ true
  pub first : (n : N) (k : K) → starts tb (g.rule n) k ≡ true → tb.first n k ≡ true
  pub after : (n : N) (k : K) → goes_on tb (g.rule n) k ≡ true → tb.after n k ≡ true
  pub clear : (n : N) → IsClear tb (g.rule n)
