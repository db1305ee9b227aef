-- Tables of names as they grow.
use Rattle.std.proofs.Common.{◌≡◌, refl, sym, ◌∙◌, ap, subst, ℕ, zero, suc, Bool, true, false, cond, ◌||◌, List, [], ◌∷◌, ◌++◌, length, Option, Some, None, slice_get, ◌⊎◌, inl, inr, ⊎_elim}
use Rattle.std.specs.Str.{bytes_eq}
use Rattle.std.proofs.lemmas.Bool.{false_from_ne_true}
use Rattle.std.proofs.lemmas.Slice.Eq.{bytes_eq-Decides}
use Rattle.ap_bindings.specs.declared.names.NameTable.{NameTable}
use mathlib.Core.Path.{fun_ext}
use Rattle.ap_pieces.specs.Bound.{Names, IsSubset}
use Rattle.ap_bindings.specs.Searches.{number_in, IsTable, Grows}

pub cond_or : (b x : Bool) → cond b true x ≡ (b || x)
cond_or true x = refl
cond_or false x = refl

same_by_truth : (p q : Bool) → (p ≡ true → q ≡ true) → (q ≡ true → p ≡ true) → p ≡ q
same_by_truth true true h k = refl
same_by_truth true false h k = sym (h refl)
same_by_truth false true h k = k refl
same_by_truth false false h k = refl

pub eq_flip : (xs ys : List ℕ) → bytes_eq xs ys ≡ bytes_eq ys xs
eq_flip xs ys = same_by_truth (bytes_eq xs ys) (bytes_eq ys xs)
    (λ e. (bytes_eq-Decides ys xs).1 (sym ((bytes_eq-Decides xs ys).0 e)))
    (λ e. (bytes_eq-Decides xs ys).1 (sym ((bytes_eq-Decides ys xs).0 e)))

-- sets with the same members are the same
pub same_names : (x y : Names) → IsSubset x y → IsSubset y x → x ≡ y
same_names x y h k = fun_ext (λ name. same_by_truth (x name) (y name) (h name) (k name))

pub get_front : {X : Type 0} (xs ys : List X) (i : ℕ) (x : X) → slice_get xs i ≡ Some x → slice_get (xs ++ ys) i ≡ Some x
get_front [] ys i x e = cc
get_front (y ∷ xs) ys zero x e = e
get_front (y ∷ xs) ys (suc i) x e = get_front xs ys i x e

pub get_pushed : {X : Type 0} (xs : List X) (x : X) → slice_get (xs ++ x ∷ []) (length xs) ≡ Some x
get_pushed [] x = refl
get_pushed (y ∷ xs) x = get_pushed xs x

get_back : {X : Type 0} (xs : List X) (x : X) (i : ℕ) (y : X) → slice_get (xs ++ x ∷ []) i ≡ Some y → (slice_get xs i ≡ Some y) ⊎ ((i ≡ length xs) × (x ≡ y))
get_back [] x zero y e = inr (refl, cc)
get_back [] x (suc i) y e = cc
get_back (z ∷ xs) x zero y e = inl e
get_back (z ∷ xs) x (suc i) y e = ⊎_elim (λ h. inl h) (λ h. inr (ap suc h.0, h.1)) (get_back xs x i y e)

none_some : {X : Type 0} (o : Option X) (x : X) → o ≡ None → o ≡ Some x → ⊥
none_some o x e f = cc

module _ (old new : NameTable) (name : List ℕ) (h : IsTable old) (absent : number_in old name ≡ None)
    (numbers : (other : List ℕ) → number_in new other ≡ cond (bytes_eq name other) (Some (length old.names)) (number_in old other))
    (names : new.names ≡ old.names ++ name ∷ []) where
  at : (b : Bool) (other : List ℕ) (i : ℕ) → bytes_eq name other ≡ b → cond b (Some (length old.names)) (number_in old other) ≡ Some i → slice_get (old.names ++ name ∷ []) i ≡ Some other
  at true other i e f =
      let same : name ≡ other = (bytes_eq-Decides name other).0 e in
      let place : length old.names ≡ i = cc in
      subst (λ (k : ℕ). slice_get (old.names ++ name ∷ []) k ≡ Some other) place (get_pushed old.names name ∙ ap (λ n. Some n) same)
  at false other i e f = get_front old.names (name ∷ []) i other (h.at other i f)

  back : (other : List ℕ) (i : ℕ) → slice_get (old.names ++ name ∷ []) i ≡ Some other → number_in new other ≡ Some i
  back other i e = ⊎_elim
      (λ g. numbers other ∙ ap (λ b. cond b (Some (length old.names)) (number_in old other)) (false_from_ne_true (bytes_eq name other) (λ t. none_some (number_in old other) i (ap (number_in old) (sym ((bytes_eq-Decides name other).0 t)) ∙ absent) (h.back other i g))) ∙ h.back other i g)
      (λ g. numbers other ∙ ap (λ b. cond b (Some (length old.names)) (number_in old other)) ((bytes_eq-Decides name other).1 g.1) ∙ ap (λ k. Some k) (sym g.0))
      (get_back old.names name i other e)

  pub table_added : Grows old new
  table_added = record {
    table = record {
      at = λ other i e. subst (λ (xs : List (List ℕ)). slice_get xs i ≡ Some other) (sym names) (at (bytes_eq name other) other i refl (sym (numbers other) ∙ e));
      back = λ other i e. back other i (ap (λ xs. slice_get xs i) (sym names) ∙ e);
    };
    more = name ∷ [];
    names = names;
  }
