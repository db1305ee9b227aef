-- A list of tokens has at most one place of a fault.
use Rattle.std.proofs.Common.{◌≡◌, List, [], ◌∷◌, ◌++◌, refl, sym, ap, append_assoc, ◌⊎◌, inl, inr}
use Rattle.grammar.specs.Form.{Grammar}
use Rattle.grammar.specs.Fault.{next_kind, IsFault}

-- q is r with a token more or several, the first of which begins s
abbrev Beyond : {T : Type 0} → List T → List T → List T → Type 0
Beyond {T} r q s = (t : T) × (m : List T) × (more : List T) × (q ≡ r ++ (t ∷ m)) × (s ≡ t ∷ more)

head_of : {T : Type 0} (t u : T) (xs ys : List T) → t ∷ xs ≡ u ∷ ys → t ≡ u
head_of t u xs ys e = cc

tail_of : {T : Type 0} (t u : T) (xs ys : List T) → t ∷ xs ≡ u ∷ ys → xs ≡ ys
tail_of t u xs ys e = cc

onward : {T : Type 0} (t u : T) (r q s : List T) → t ≡ u → Beyond r q s → Beyond (t ∷ r) (u ∷ q) s
onward t u r q s e b = (b.0, b.1, b.2, (let k : q ≡ r ++ (b.0 ∷ b.1) = b.3 in rw (e, k) refl), b.4)

cut : {T : Type 0} (r q s u : List T) → r ++ s ≡ q ++ u → (r ≡ q) ⊎ (Beyond r q s ⊎ Beyond q r u)
cut [] [] s u e = inl refl
cut [] (t ∷ q) s u e = inr (inl (t, q, q ++ u, refl, e))
cut (t ∷ r) [] s u e = inr (inr (t, r, r ++ s, refl, sym e))
cut (t ∷ r) (t' ∷ q) s u e = go (cut r q s u (tail_of t t' (r ++ s) (q ++ u) e))
  where
    go : (r ≡ q) ⊎ (Beyond r q s ⊎ Beyond q r u) → (t ∷ r ≡ t' ∷ q) ⊎ (Beyond (t ∷ r) (t' ∷ q) s ⊎ Beyond (t' ∷ q) (t ∷ r) u)
    go (inl h) = inl (rw (head_of t t' (r ++ s) (q ++ u) e, h) refl)
    go (inr (inl b)) = inr (inl (onward t t' r q s (head_of t t' (r ++ s) (q ++ u) e) b))
    go (inr (inr b)) = inr (inr (onward t' t q r u (sym (head_of t t' (r ++ s) (q ++ u) e)) b))

not_beyond : {N K C T V : Type 0} {g : Grammar N K C T V} {n : N} {r q s u : List T} → IsFault g n r s → IsFault g n q u → Beyond r q s → ⊥
not_beyond {g = g} {n = n} {r = r} f h b = f.stops ((b.0 ∷ b.1) ++ h.begins.0) h.begins.1 (ap (next_kind g) (sym b.4)) (rw (b.3, append_assoc) at h.begins.2)

pub one_place : {N K C T V : Type 0} {g : Grammar N K C T V} {n : N} {r q s u : List T} → r ++ s ≡ q ++ u → IsFault g n r s → IsFault g n q u → r ≡ q
one_place {r = r} {q = q} {s = s} {u = u} e f h = go (cut r q s u e)
  where
    go : (r ≡ q) ⊎ (Beyond r q s ⊎ Beyond q r u) → r ≡ q
    go (inl k) = k
    go (inr (inl b)) = absurd (not_beyond f h b)
    go (inr (inr b)) = absurd (not_beyond h f b)
