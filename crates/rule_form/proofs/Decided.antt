-- Statements that are decided, and so settled.
use Rattle.std.proofs.Common.{◌≡◌, Bool, true, false, List, [], ◌∷◌, Contains, IsTrue, refl, sym, subst, ⊎_elim, inl, inr}
use Rattle.std.specs.Prelude.{◌⊎◌}
use Rattle.std.proofs.lemmas.Bool.{false≢true}
use Rattle.ap_term.specs.Value.{Value}
use Rattle.rule_form.proofs.Rules.{same, same_decides, same_itself}
use Rattle.rule_form.proofs.Stable.{IsSettled}
use Rattle.rule_form.proofs.Unfolds.{here, there, first_or_rest, nothing_in}

abbrev pub IsDecided : Type 0 → Type 0
IsDecided P = P ⊎ (P → ⊥)

pub settled_decided : (P : Type 0) → IsDecided P → IsSettled P
settled_decided P d deny = ⊎_elim (λ p. p) (λ n. absurd (deny n)) d

pub decide_true : (b : Bool) → IsDecided (IsTrue b)
decide_true true = inl refl
decide_true false = inr false≢true

pub decide_same : (v w : Value) → IsDecided (v ≡ w)
decide_same v w = ⊎_elim (λ e. inl (same_decides v w e)) (λ n. inr (λ e. n (subst (λ u. IsTrue (same v u)) e (same_itself v)))) (decide_true (same v w))

pub decide_both : (P Q : Type 0) → IsDecided P → IsDecided Q → IsDecided (P × Q)
decide_both P Q d e = ⊎_elim (λ p. ⊎_elim (λ q. inl (p, q)) (λ n. inr (λ h. n h.1)) e) (λ n. inr (λ h. n h.0)) d

pub decide_either : (P Q : Type 0) → IsDecided P → IsDecided Q → IsDecided (P ⊎ Q)
decide_either P Q d e = ⊎_elim (λ p. inl (inl p)) (λ n. ⊎_elim (λ q. inl (inr q)) (λ m. inr (⊎_elim n m)) e) d

pub decide_if : (P Q : Type 0) → IsDecided P → IsDecided Q → IsDecided (P → Q)
decide_if P Q d e = ⊎_elim (λ q. inl (λ p. q)) (λ m. ⊎_elim (λ p. inr (λ f. m (f p))) (λ n. inl (λ p. absurd (n p))) d) e

-- of all members of a list, and of some
pub decide_all : {X : Type 0} (xs : List X) (P : X → Type 0) → ((x : X) → IsDecided (P x)) → IsDecided ((x : X) → Contains xs x → P x)
decide_all [] P d = inl (λ x c. absurd (nothing_in x c))
decide_all (y ∷ ys) P d = ⊎_elim
    (λ p. ⊎_elim (λ all. inl (λ x c. ⊎_elim (λ e. subst P e p) (all x) (first_or_rest y ys x c))) (λ n. inr (λ all. n (λ x c. all x (there y ys x c)))) (decide_all ys P d))
    (λ n. inr (λ all. n (all y (here y ys))))
    (d y)

pub decide_some : {X : Type 0} (xs : List X) (P : X → Type 0) → ((x : X) → IsDecided (P x)) → IsDecided ((x : X) × Contains xs x × P x)
decide_some [] P d = inr (λ (x, c, p). nothing_in x c)
decide_some (y ∷ ys) P d = ⊎_elim
    (λ p. inl (y, here y ys, p))
    (λ n. ⊎_elim (λ (x, c, p). inl (x, there y ys x c, p)) (λ m. inr (λ (x, c, p). ⊎_elim (λ e. n (subst P (sym e) p)) (λ r. m (x, r, p)) (first_or_rest y ys x c))) (decide_some ys P d))
    (d y)

pub decide_as : (P Q : Type 0) → (P → Q) → (Q → P) → IsDecided P → IsDecided Q
decide_as P Q f g d = ⊎_elim (λ p. inl (f p)) (λ n. inr (λ q. n (g q))) d
