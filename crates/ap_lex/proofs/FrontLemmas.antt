-- The longest front of a text whose bytes pass a test, and what follows it.
use Rattle.std.proofs.Common.{◌≡◌, ℕ, ◌+◌, suc, zero-add, Bool, true, false, cond, List, [], ◌∷◌, ◌++◌, length, take, drop, refl, sym, ap, arith}
use Rattle.std.proofs.Math.Numerals.{one-add}
use Rattle.std.proofs.lemmas.Bool.{and_parts, and_from}
use Rattle.std.proofs.lemmas.List.{take_at, drop_at}
use Rattle.std.specs.List.{prefix_len, list_all}
use Rattle.ap_lex.specs.Bytes.{begins_with}

module _ (p : ℕ → Bool) where
  -- the bytes of the front pass
  pub front_passes : (bs : List ℕ) → list_all p (take (prefix_len p bs) bs) ≡ true
  front_passes [] = refl
  front_passes (b ∷ bs) =
      elim (p b) as (λ v. p b ≡ v → list_all p (take (cond v (1 + prefix_len p bs) 0) (b ∷ bs)) ≡ true)
      [ true ↦ λ e. rw one-add (and_from _ _ e (front_passes bs)) | false ↦ λ e. refl ] refl

  -- the byte behind it, if there is one, does not
  pub rest_stops : (bs : List ℕ) → begins_with p (drop (prefix_len p bs) bs) ≡ false
  rest_stops [] = refl
  rest_stops (b ∷ bs) =
      elim (p b) as (λ v. p b ≡ v → begins_with p (drop (cond v (1 + prefix_len p bs) 0) (b ∷ bs)) ≡ false)
      [ true ↦ λ e. rw one-add (rest_stops bs) | false ↦ λ e. e ] refl

  -- bytes that pass are the beginning of the front
  pub front_more : (bs rest : List ℕ) → list_all p bs ≡ true → prefix_len p (bs ++ rest) ≡ length bs + prefix_len p rest
  front_more [] rest passes = sym (zero-add (prefix_len p rest))
  front_more (b ∷ bs) rest passes =
      let parts = and_parts (p b) (list_all p bs) passes in
      rw (parts.0) (omega (arith, front_more bs rest parts.1))

  -- where the byte behind them does not, they are the front
  pub front_is : (bs rest : List ℕ) → list_all p bs ≡ true → begins_with p rest ≡ false → prefix_len p (bs ++ rest) ≡ length bs
  front_is [] [] passes stops = refl
  front_is [] (b ∷ rest) passes stops = rw stops refl
  front_is (b ∷ bs) rest passes stops =
      let parts = and_parts (p b) (list_all p bs) passes in
      rw (parts.0, one-add) (ap suc (front_is bs rest parts.1 stops))

  pub take_front : (bs rest : List ℕ) → list_all p bs ≡ true → begins_with p rest ≡ false → take (prefix_len p (bs ++ rest)) (bs ++ rest) ≡ bs
  take_front bs rest passes stops = take_at bs rest _ (sym (front_is bs rest passes stops))

  pub drop_front : (bs rest : List ℕ) → list_all p bs ≡ true → begins_with p rest ≡ false → drop (prefix_len p (bs ++ rest)) (bs ++ rest) ≡ rest
  drop_front bs rest passes stops = drop_at bs rest _ (sym (front_is bs rest passes stops))
