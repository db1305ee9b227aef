-- Lists by number.
use Rattle.std.proofs.Common.{◌≡◌, ℕ, suc, ◌+◌, ◌-◌, ◌≤◌, List, [], ◌∷◌, ◌++◌, length, replicate, sym, ap, ◌∙◌, arith, append_assoc, length-append}
use Rattle.theory_form.specs.Numbers.{grown}

pub grown_more : {A : Type 0} (xs : List A) (x : A) (p : ℕ) → length xs ≤ p → grown (xs ++ x ∷ []) (p + 1) x ≡ grown xs (p + 1) x
grown_more xs x p low =
    let n : (p + 1) - length (xs ++ x ∷ []) ≡ p - length xs = simp length-append (omega arith) in
    let m : (p + 1) - length xs ≡ suc (p - length xs) = omega arith in
    append_assoc xs (x ∷ []) (replicate ((p + 1) - length (xs ++ x ∷ [])) x)
    ∙ (ap (λ k. xs ++ x ∷ replicate k x) n ∙ ap (λ k. xs ++ replicate k x) (sym m))
