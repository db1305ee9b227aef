-- A test of a grammar and its tables.
use Rattle.std.proofs.Common.{◌≡◌, ℕ, zero, suc, Bool, true, false, List, [], ◌∷◌, Option, Some, None, refl, sym}
use Rattle.std.specs.Prelude.{◌||◌, ◌&&◌, not}
use Rattle.grammar.specs.Form.{Form, Grammar}
use Rattle.grammar.specs.Form.Form.{Tok, Call, Empty, Seq, Alt, Star, Then}
use Rattle.grammar.specs.Tables.{Tables, nullable, starts, goes_on, some_in, IsClear, IsPredictive}

-- every kind of the list passes the test
abbrev pub every_in : {K : Type 0} → List K → (K → Bool) → Bool
every_in [] q = true
every_in (k ∷ ks) q = q k && every_in ks q

abbrev pub kind_at : {K : Type 0} → List K → ℕ → Option K
kind_at [] n = None
kind_at (k ∷ ks) zero = Some k
kind_at (k ∷ ks) (suc n) = kind_at ks n

and_one : (a b : Bool) → (a && b) ≡ true → (a ≡ true) × (b ≡ true)
and_one true b h = (refl, h)
and_one false b h = absurd (cc)

at_some : {K : Type 0} (q : K → Bool) (j k : K) → Some j ≡ Some k → q j ≡ true → q k ≡ true
at_some q j k e h = let f : j ≡ k = cc in rw (← f) h

pub every_at : {K : Type 0} (ks : List K) (q : K → Bool) (n : ℕ) (k : K) → every_in ks q ≡ true → kind_at ks n ≡ Some k → q k ≡ true
every_at [] q n k h e = absurd (cc)
every_at (j ∷ ks) q zero k h e = at_some q j k e (and_one _ _ h).0
every_at (j ∷ ks) q (suc n) k h e = every_at ks q n k (and_one _ _ h).1 e

or_first : (a b : Bool) → a ≡ true → (a || b) ≡ true
or_first true b h = refl
or_first false b h = absurd (cc)

or_second : (a b : Bool) → b ≡ true → (a || b) ≡ true
or_second true b h = refl
or_second false b h = h

pub some_at : {C : Type 0} (cs : List C) (q : C → Bool) (n : ℕ) (c : C) → q c ≡ true → kind_at cs n ≡ Some c → some_in cs q ≡ true
some_at [] q n c h e = absurd (cc)
some_at (d ∷ ds) q zero c h e = or_first (q d) (some_in ds q) (at_some q c d (sym e) h)
some_at (d ∷ ds) q (suc n) c h e = or_second (q d) (some_in ds q) (some_at ds q n c h e)

module _ (N K C T V : Type 0) (g : Grammar N K C T V) (tb : Tables N K C) (every : (K → Bool) → Bool) (all : (q : K → Bool) → every q ≡ true → (k : K) → q k ≡ true) (each : (q : C → Bool) → every_in tb.classes q ≡ true → (c : C) → q c ≡ true) where
  abbrev pub apart : (K → Bool) → (K → Bool) → Bool
  apart q r = every (λ k. not (q k && r k))

  abbrev pub within : (K → Bool) → (K → Bool) → Bool
  within q r = every (λ k. not (q k) || r k)

  abbrev pub clear : Form N K C → Bool
  clear (Tok k) = true
  clear (Call n) = true
  clear Empty = true
  clear (Seq a b) = clear a && (clear b && apart (goes_on tb a) (starts tb b))
  clear (Alt a b) = clear a && (clear b && (apart (starts tb a) (starts tb b) && not (nullable tb a)))
  clear (Star a) = clear a && (not (nullable tb a) && apart (goes_on tb a) (starts tb a))
  clear (Then a b) = clear a && (every_in tb.classes (λ c. clear (b c)) && every_in tb.classes (λ c. apart (goes_on tb a) (starts tb (b c))))

  abbrev pub null_fits : N → Bool
  null_fits n = not (nullable tb (g.rule n)) || tb.null n

  abbrev pub first_fits : N → Bool
  first_fits n = within (starts tb (g.rule n)) (tb.first n)

  abbrev pub after_fits : N → Bool
  after_fits n = within (goes_on tb (g.rule n)) (tb.after n)

  abbrev pub fine : N → Bool
  fine n = null_fits n && (first_fits n && (after_fits n && clear (g.rule n)))

  and_is : (a b : Bool) → (a && b) ≡ true → (a ≡ true) × (b ≡ true)
  and_is true b h = (refl, h)
  and_is false b h = absurd (cc)

  not_both : (a b : Bool) → not (a && b) ≡ true → a ≡ true → b ≡ true → ⊥
  not_both true true h i j = cc
  not_both true false h i j = cc
  not_both false b h i j = cc

  then_is : (a b : Bool) → (not a || b) ≡ true → a ≡ true → b ≡ true
  then_is true b h i = h
  then_is false b h i = absurd (cc)

  not_is : (a : Bool) → not a ≡ true → a ≡ false
  not_is true h = absurd (cc)
  not_is false h = refl

  is_clear : (a : Form N K C) → clear a ≡ true → IsClear tb a
  is_clear (Tok k) h = tt
  is_clear (Call n) h = tt
  is_clear Empty h = tt
  is_clear (Seq a b) h = let x = and_is _ _ h in let y = and_is _ _ x.1 in (is_clear a x.0, is_clear b y.0, λ k i j. not_both _ _ (all _ y.1 k) i j)
  is_clear (Alt a b) h = let x = and_is _ _ h in let y = and_is _ _ x.1 in let z = and_is _ _ y.1 in (is_clear a x.0, is_clear b y.0, (λ k i j. not_both _ _ (all _ z.0 k) i j), not_is _ z.1)
  is_clear (Star a) h = let x = and_is _ _ h in let y = and_is _ _ x.1 in (is_clear a x.0, not_is _ y.0, λ k i j. not_both _ _ (all _ y.1 k) i j)
  is_clear (Then a b) h = let x = and_is _ _ h in let y = and_is _ _ x.1 in (is_clear a x.0, (λ c. is_clear (b c) (each (λ c. clear (b c)) y.0 c)), λ c k i j. not_both _ _ (all _ (each (λ c. apart (goes_on tb a) (starts tb (b c))) y.1 c) k) i j)

  pub predictive : ((k : K) → tb.same k k ≡ true) → ((q : C → Bool) (c : C) → q c ≡ true → some_in tb.classes q ≡ true) → ((n : N) → fine n ≡ true) → IsPredictive g tb
  predictive s cs h = record {
    same = s;
    classes = cs;
    null = λ n i. then_is (nullable tb (g.rule n)) (tb.null n) (one n).0 i;
    first = λ n k i. then_is (starts tb (g.rule n) k) (tb.first n k) (all (λ k. not (starts tb (g.rule n) k) || tb.first n k) (two n).0 k) i;
    after = λ n k i. then_is (goes_on tb (g.rule n) k) (tb.after n k) (all (λ k. not (goes_on tb (g.rule n) k) || tb.after n k) (three n).0 k) i;
    clear = λ n. is_clear (g.rule n) (three n).1;
  }
    where
      one : (n : N) → (null_fits n ≡ true) × ((first_fits n && (after_fits n && clear (g.rule n))) ≡ true)
      one n = and_is (null_fits n) (first_fits n && (after_fits n && clear (g.rule n))) (h n)

      two : (n : N) → (first_fits n ≡ true) × ((after_fits n && clear (g.rule n)) ≡ true)
      two n = and_is (first_fits n) (after_fits n && clear (g.rule n)) (one n).1

      three : (n : N) → (after_fits n ≡ true) × (clear (g.rule n) ≡ true)
      three n = and_is (after_fits n) (clear (g.rule n)) (two n).1
