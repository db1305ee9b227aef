-- In a finite family each member is optimal, or an optimal one is better.
use Rattle.std.proofs.Common.{◌≡◌, List, [], ◌∷◌, Contains, refl, sym, subst, ⊎_elim, inl, inr}
use Rattle.std.specs.Prelude.{◌⊎◌, ◌↔◌}
use Rattle.optima_law.specs.Strict.{IsStrictOn}
use Rattle.rule_form.proofs.Decided.{IsDecided, decide_both}
use Rattle.rule_form.proofs.Unfolds.{here, there, first_or_rest, nothing_in}

-- x is a member, and no member is better
pub record IsTop {S : Type 0} (IsMember : S → Type 0) (better : S → S → Type 0) (x : S) : Type 0 where
  pub member : IsMember x
  pub unbeaten : (y : S) → IsMember y → better y x → ⊥

module _ {S : Type 0} (IsMember : S → Type 0) (better : S → S → Type 0) (strict : IsStrictOn IsMember better) (decided : (x y : S) → IsDecided (better x y)) where
  abbrev AtLeast : S → S → Type 0
  AtLeast x y = (x ≡ y) ⊎ better x y

  at_least_then : (x y z : S) → IsMember x → IsMember y → IsMember z → AtLeast x y → better y z → better x z
  at_least_then x y z p q r (inl e) b = subst (λ s. better s z) (sym e) b
  at_least_then x y z p q r (inr a) b = strict.transitive x y z p q r a b

  not_back : (x y : S) → IsMember x → IsMember y → AtLeast x y → better y x → ⊥
  not_back x y p q a b = strict.irreflexive x p (at_least_then x y x p q p a b)

  -- a member that no member of the list is better than
  climb : (sets : List S) → ((s : S) → Contains sets s → IsDecided (IsMember s)) → (x : S) → IsMember x
      → (m : S) × IsMember m × AtLeast m x × ((y : S) → Contains sets y → IsMember y → better y m → ⊥)
  climb [] known x p = (x, p, inl refl, λ y c q b. nothing_in y c)
  climb (s ∷ ss) known x p =
      let (m, pm, am, none_m) = climb ss (λ t c. known t (there s ss t c)) x p in
      ⊎_elim
      (λ (ps, b). let (n, pn, an, none_n) = climb ss (λ t c. known t (there s ss t c)) s ps in
      let over : better n m = at_least_then n s m pn ps pm an b in (
        n,
        pn,
        inr (⊎_elim (λ e. subst (better n) e over) (λ k. strict.transitive n m x pn pm p over k) am),
        λ y c q k. ⊎_elim (λ e. not_back n s pn ps an (subst (λ v. better v n) (sym e) k)) (λ r. none_n y r q k) (first_or_rest s ss y c),
      ))
      (λ n. (m, pm, am, λ y c q k. ⊎_elim (λ e. n (subst IsMember (sym e) q, subst (λ v. better v m) (sym e) k)) (λ r. none_m y r q k) (first_or_rest s ss y c)))
      (decide_both (IsMember s) (better s m) (known s (here s ss)) (decided s m))

  -- where the list has all members
  pub optimal_or_better : (sets : List S) → ((s : S) → Contains sets s → IsDecided (IsMember s)) → ((s : S) → IsMember s → Contains sets s)
      → (x : S) → IsMember x → IsTop IsMember better x ⊎ ((y : S) × IsTop IsMember better y × better y x)
  optimal_or_better sets known whole x p =
      let (m, pm, am, none_m) = climb sets known x p in
      let optimal : IsTop IsMember better m = record { member = pm; unbeaten = λ y q b. none_m y (whole y q) q b } in
      ⊎_elim (λ e. inl (subst (IsTop IsMember better) e optimal)) (λ b. inr (m, optimal, b)) am

-- of a family in other words
module _ {S : Type 0} (P Q : S → Type 0) (same : (x : S) → P x ↔ Q x) (better : S → S → Type 0) where
  optimal_as : (x : S) → IsTop P better x → IsTop Q better x
  optimal_as x h = record { member = (same x).0 h.member; unbeaten = λ y q b. h.unbeaten y ((same y).1 q) b }

  pub strict_as : IsStrictOn Q better → IsStrictOn P better
  strict_as h = record { irreflexive = λ x p b. h.irreflexive x ((same x).0 p) b; transitive = λ x y z p q r b c. h.transitive x y z ((same x).0 p) ((same y).0 q) ((same z).0 r) b c }

  pub optima_as : ((x : S) → P x → IsTop P better x ⊎ ((y : S) × IsTop P better y × better y x)) → (x : S) → Q x → IsTop Q better x ⊎ ((y : S) × IsTop Q better y × better y x)
  optima_as h x q = ⊎_elim (λ o. inl (optimal_as x o)) (λ (y, o, b). inr (y, optimal_as y o, b)) (h x ((same x).1 q))
