-- The lines of a listing, one after the other.
use Rattle.std.proofs.Common.{◌≡◌, ℕ, suc, ◌+◌, ◌<◌, List, ◌∷◌, ◌++◌, length, drop, get_or, ap, sym, ◌∙◌, append_assoc, add-one, drop-cons}
use Rattle.std.specs.Io.{StartsWith}
use Rattle.ap_base.specs.Fronts.{TookFront}
use Rattle.ap_base.proofs.FrontLemmas.{starts_more, starts_trans}
use Rattle.asprin_cli.specs.Lines.{numbered}

-- what is left at a place, one by one
pub drop_at : {A : Type 0} → (xs : List A) (i : ℕ) (x : A) → i < length xs → x ≡ get_or xs i x → drop i xs ≡ x ∷ drop (i + 1) xs
drop_at xs i x less is = rw (add-one, drop-cons xs i x) (ap (λ y. y ∷ drop (suc i) xs) (sym is))

-- one more line was taken
pub next_line : {A : Type 0} → (line : ℕ → A → List ℕ) (all mid new : List ℕ) (xs : List A) (i : ℕ) (x : A)
    → i < length xs → x ≡ get_or xs i x
    → all ≡ mid ++ numbered line (i + 1) (drop i xs) → new ≡ mid ++ line (i + 1) x
    → all ≡ new ++ numbered line (i + 1 + 1) (drop (i + 1) xs)
next_line line all mid new xs i x less is before after =
    let split : drop i xs ≡ x ∷ drop (i + 1) xs = drop_at xs i x less is in
    let whole : all ≡ mid ++ (line (i + 1) x ++ numbered line (i + 1 + 1) (drop (i + 1) xs)) = rw split at before in
    rw after (whole ∙ sym (append_assoc mid (line (i + 1) x) (numbered line (i + 1 + 1) (drop (i + 1) xs))))

-- a front of the next line was taken
pub cut_line : {A : Type 0} → (line : ℕ → A → List ℕ) (old mid new end : List ℕ) (xs : List A) (i : ℕ) (x : A)
    → i < length xs → x ≡ get_or xs i x
    → old ++ numbered line 1 xs ≡ mid ++ numbered line (i + 1) (drop i xs) → StartsWith mid old → TookFront mid new (line (i + 1) x)
    → TookFront old new (numbered line 1 xs ++ end)
cut_line line old mid new end xs i x less is before begins front =
    let rest = numbered line (i + 1 + 1) (drop (i + 1) xs) in
    let split : drop i xs ≡ x ∷ drop (i + 1) xs = drop_at xs i x less is in
    let whole : old ++ numbered line 1 xs ≡ mid ++ (line (i + 1) x ++ rest) = rw split at before in
    let text : old ++ (numbered line 1 xs ++ end) ≡ (mid ++ line (i + 1) x) ++ (rest ++ end) =
    sym (append_assoc old (numbered line 1 xs) end) ∙ ap (λ t. t ++ end) whole
    ∙ ap (λ t. t ++ end) (sym (append_assoc mid (line (i + 1) x) rest)) ∙ append_assoc (mid ++ line (i + 1) x) rest end in
    record {
      kept = starts_trans old mid new front.kept begins;
      front = rw text (starts_more (mid ++ line (i + 1) x) new (rest ++ end) front.front);
    }
