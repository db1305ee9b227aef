-- A text for each rule, where each has an alternative whose rules are of lower rank.
use Rattle.std.proofs.Common.{◌≡◌, ℕ, zero, suc, ◌<◌, Bool, true, false, [], ◌∷◌, ◌++◌, nat_lt, arith, refl, append_assoc}
use Rattle.std.specs.Prelude.{◌&&◌, ◌||◌}
use borrow.Author.Tests.{ltb-true}
use Rattle.grammar.specs.Form.{Form, Grammar, Derives}
use Rattle.grammar.specs.Form.Form.{Tok, Call, Empty, Seq, Alt, Star, Then}
use Rattle.grammar.specs.Readable.{Example}

module _ (N K C T V : Type 0) (g : Grammar N K C T V) (token : K → T) (kinds : (k : K) → g.kind (token k) ≡ k) (rank : N → ℕ) (every : (C → Bool) → Bool) (each : (q : C → Bool) → every q ≡ true → (c : C) → q c ≡ true) where
  abbrev pub low : ℕ → Form N K C → Bool
  low r (Tok k) = true
  low r (Call n) = nat_lt (rank n) r
  low r Empty = true
  low r (Seq a b) = low r a && low r b
  low r (Alt a b) = low r a || low r b
  low r (Star a) = true
  low r (Then a b) = low r a && every (λ c. low r (b c))

  and_is : (a b : Bool) → (a && b) ≡ true → (a ≡ true) × (b ≡ true)
  and_is true b h = (refl, h)
  and_is false b h = absurd (cc)

  or_is : {A : Type 0} (a b : Bool) → (a || b) ≡ true → (a ≡ true → A) → (b ≡ true → A) → A
  or_is true b h f f' = f refl
  or_is false b h f f' = f' h

  made_example : (r : ℕ) → ((m : N) → rank m < r → Example g (Call m)) → (a : Form N K C) → low r a ≡ true → Example g a
  made_example r f (Tok k) h = record { text = token k ∷ []; values = g.leaf (token k); derives = λ zs. Derives.tok (kinds k) }
  made_example r f (Call n) h = f n (ltb-true _ _ h)
  made_example r f Empty h = record { text = []; values = []; derives = λ zs. Derives.empty }
  made_example r f (Seq a b) h = let q = and_is _ _ h in let x = made_example r f a q.0 in let y = made_example r f b q.1 in record { text = x.text ++ y.text; values = x.values ++ y.values; derives = λ zs. rw append_assoc (Derives.seq (x.derives (y.text ++ zs)) (y.derives zs)) }
  made_example r f (Alt a b) h = or_is (low r a) (low r b) h (λ i. let x = made_example r f a i in record { text = x.text; values = x.values; derives = λ zs. Derives.left (x.derives zs) }) (λ i. let x = made_example r f b i in record { text = x.text; values = x.values; derives = λ zs. Derives.right (x.derives zs) })
  made_example r f (Star a) h = record { text = []; values = []; derives = λ zs. Derives.none }
  made_example r f (Then a b) h = let q = and_is _ _ h in let x = made_example r f a q.0 in let y = made_example r f (b (g.class x.values)) (each (λ c. low r (b c)) q.1 (g.class x.values)) in record { text = x.text ++ y.text; values = x.values ++ y.values; derives = λ zs. rw append_assoc (Derives.followed (x.derives (y.text ++ zs)) (y.derives zs)) }

  called : (n : N) → Example g (g.rule n) → Example g (Call n)
  called n x = record { text = x.text; values = g.build n x.values ∷ []; derives = λ zs. Derives.call (x.derives zs) }

  below : ((n : N) → low (rank n) (g.rule n) ≡ true) → (r : ℕ) (n : N) → rank n < r → Example g (Call n)
  below h zero n i = absurd (omega (arith, i))
  below h (suc r) n i = called n (made_example (rank n) (λ m j. below h r m (omega (arith, i, j))) (g.rule n) (h n))

  pub examples : ((n : N) → low (rank n) (g.rule n) ≡ true) → (n : N) → Example g (Call n)
  examples h n = below h (suc (rank n)) n (omega arith)
