-- The sets of the members of a list.
use Rattle.std.proofs.Common.{◌≡◌, Bool, true, false, not, ◌&&◌, ◌||◌, List, [], ◌∷◌, ◌++◌, map, Contains, IsTrue, refl, sym, subst, ap, ◌∙◌, ⊎_elim, inl, inr}
use Rattle.std.specs.Prelude.{◌⊎◌}
use Rattle.std.proofs.Math.Path.{fun_ext}
use Rattle.std.proofs.lemmas.Bool.{false≢true}
use Rattle.rule_form.proofs.Lists.{in_append, to_left, to_right, in_map, to_map}
use Rattle.rule_form.proofs.Unfolds.{here, there, first_or_rest, nothing_in}

abbrev pub IsWithin : {A : Type 0} → List A → (A → Bool) → Type 0
IsWithin {A} atoms x = (a : A) → IsTrue (x a) → Contains atoms a

module _ {A : Type 0} (same : A → A → Bool) (decides : (a b : A) → IsTrue (same a b) → a ≡ b) (itself : (a : A) → IsTrue (same a a)) where
  abbrev with_ : A → (A → Bool) → A → Bool
  with_ b x a = same b a || x a

  abbrev without : A → (A → Bool) → A → Bool
  without b x a = x a && not (same b a)

  abbrev pub sets_of : List A → List (A → Bool)
  sets_of [] = (λ a. false) ∷ []
  sets_of (b ∷ bs) = map (with_ b) (sets_of bs) ++ sets_of bs

  true_or_false : (b : Bool) → (b ≡ true) ⊎ (b ≡ false)
  true_or_false true = inl refl
  true_or_false false = inr refl

  kept : (p q : Bool) → IsTrue (p && not q) → IsTrue p × (q ≡ false)
  kept true true e = absurd (false≢true e)
  kept true false e = (refl, refl)
  kept false q e = absurd (false≢true e)

  put_back : (b : A) (x : A → Bool) → x b ≡ true → (a : A) → with_ b (without b x) a ≡ x a
  put_back b x e a = by (same b a) (x a) (λ h. sym (ap x (decides b a h)) ∙ e)
    where
      by : (p q : Bool) → (IsTrue p → q ≡ true) → (p || (q && not p)) ≡ q
      by true q f = sym (f refl)
      by false true f = refl
      by false false f = refl

  pub whole : (atoms : List A) (x : A → Bool) → IsWithin atoms x → Contains (sets_of atoms) x
  whole [] x within = subst (λ y. Contains ((λ a. false) ∷ []) y) (fun_ext (λ a. sym (off (x a) (λ h. nothing_in a (within a h))))) (here (λ a. false) [])
    where
      off : (p : Bool) → (IsTrue p → ⊥) → p ≡ false
      off true f = absurd (f refl)
      off false f = refl
  whole (b ∷ bs) x within = ⊎_elim
      (λ e. to_left (map (with_ b) (sets_of bs)) (sets_of bs) x (subst (Contains (map (with_ b) (sets_of bs))) (fun_ext (put_back b x e))
      (to_map (with_ b) (sets_of bs) (without b x) (whole bs (without b x) (λ a h. let (xa, other) = kept (x a) (same b a) h in
      ⊎_elim (λ s. absurd (false≢true (sym other ∙ subst (λ c. IsTrue (same b c)) s (itself b)))) (λ c. c) (first_or_rest b bs a (within a xa)))))))
      (λ e. to_right (map (with_ b) (sets_of bs)) (sets_of bs) x (whole bs x (λ a h. ⊎_elim (λ s. absurd (false≢true (sym e ∙ subst (λ c. IsTrue (x c)) (sym s) h))) (λ c. c) (first_or_rest b bs a (within a h)))))
      (true_or_false (x b))

  either : (P : Type 0) (b : A) (y : A → Bool) (a : A) → IsTrue (with_ b y a) → (b ≡ a → P) → (IsTrue (y a) → P) → P
  either P b y a e f g = by (same b a) (λ h. f (decides b a h)) e
    where
      by : (p : Bool) → (IsTrue p → P) → IsTrue (p || y a) → P
      by true f e = f refl
      by false f e = g e

  pub inside : (atoms : List A) (x : A → Bool) → Contains (sets_of atoms) x → IsWithin atoms x
  inside [] x c a h = ⊎_elim (λ e. absurd (false≢true (ap (λ (y : A → Bool). y a) e ∙ h))) (λ r. absurd (nothing_in x r)) (first_or_rest (λ a. false) [] x c)
  inside (b ∷ bs) x c a h = ⊎_elim
      (λ m. let (y, among, e) = in_map (with_ b) (sets_of bs) x m in
      either (Contains (b ∷ bs) a) b y a (subst (λ z. IsTrue (z a)) (sym e) h) (λ s. subst (Contains (b ∷ bs)) s (here b bs)) (λ ya. there b bs a (inside bs y among a ya)))
      (λ r. there b bs a (inside bs x r a h))
      (in_append (map (with_ b) (sets_of bs)) (sets_of bs) x c)
