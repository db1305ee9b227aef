-- Matches one after the other.
use Rattle.std.proofs.Common.{◌≡◌, ◌↔◌, ◌⊎◌, ℕ, ◌<◌, Bool, true, false, List, [], ◌∷◌, Option, Some, None, IfSome, IsTrue, Contains, length, set, refl, sym, subst, ap, ◌∙◌, inl, inr, ⊎_elim, arith, get_or-set_same, get_or-set_other}
use Rattle.std.specs.Prelude.{nat_eq}
use Rattle.std.specs.Option.{is_some}
use Rattle.std.proofs.lemmas.Bool.{cases_eq, eqb-true, eq-eqb, false≢true}
use Rattle.std.proofs.lemmas.List.Elements.{Contains-push, Contains-push_cases}
use Rattle.ap_term.specs.declared.shape.TermId.{TermId}
use Rattle.ap_term.specs.Table.{IsIdOf, value_at}
use Rattle.ap_term.specs.Value.{Value}
use Rattle.join_form.specs.Bindings.{bound_at, is_bound, Fits, IsBindingOf}
use Rattle.join_form.specs.Patterns.{Assignment}
use Rattle.join_search.specs.Matches.{IsMatch}

-- ---- ids are the same where their numbers are

id_same : (a b : TermId) → a.0 ≡ b.0 → a ≡ b
id_same a b e = ap (λ n. record { 0 = n }) e

pub same_number : (a b : TermId) → nat_eq a.0 b.0 ≡ true → a ≡ b
same_number a b t = id_same a b (eqb-true a.0 b.0 t)

pub number_same : (a b : TermId) → a ≡ b → nat_eq a.0 b.0 ≡ true
number_same a b e = eq-eqb a.0 b.0 (ap (λ (id : TermId). id.0) e)

-- ---- a place that keeps its id

pub kept_itself : (o : Option TermId) → IfSome o (λ id. o ≡ Some id)
kept_itself None = tt
kept_itself (Some id) = refl

pub kept_on : (o m n : Option TermId) → IfSome o (λ id. m ≡ Some id) → IfSome m (λ id. n ≡ Some id) → IfSome o (λ id. n ≡ Some id)
kept_on None m n f s = tt
kept_on (Some id) m n f s = subst (λ x. IfSome x (λ i. n ≡ Some i)) f s

pub kept_bound : (o n : Option TermId) → IfSome o (λ id. n ≡ Some id) → IsTrue (is_some o) → IsTrue (is_some n)
kept_bound None n f t = absurd (false≢true t)
kept_bound (Some id) n f t = ap is_some f

-- an assignment that fits what came of a binding fits the binding
pub kept_fits : (table : List Value) (v : Value) (o n : Option TermId) → IfSome o (λ id. n ≡ Some id) → IfSome n (λ id. v ≡ value_at table id) → IfSome o (λ id. v ≡ value_at table id)
kept_fits table v None n f s = tt
kept_fits table v (Some id) n f s = subst (λ x. IfSome x (λ i. v ≡ value_at table i)) f s

-- the one place of a list with one
only_one : (place n : ℕ) → Contains (place ∷ []) n → place ≡ n
only_one place n at = ⊎_elim (λ none. absurd (absent none)) (λ e. e) (Contains-push_cases [] place n at)
  where
    absent : Contains [] n → ⊥
    absent c = omega (arith, c.1)

module _ (table : List Value) where
  -- ---- one place

  module _ (place : ℕ) (id : TermId) (b : List (Option TermId)) (within : place < length b) (free : bound_at b place ≡ None) where
    abbrev after : List (Option TermId)
    after = set b place (Some id)

    at_place : bound_at after place ≡ Some id
    at_place = get_or-set_same b place (Some id) None within

    at_other : (n : ℕ) → (n ≡ place → ⊥) → bound_at after n ≡ bound_at b n
    at_other n ne = get_or-set_other b place n (Some id) None ne

    -- what is said of each place, at this one and at the others
    each : (P : ℕ → Option TermId → Type 0) → P place (Some id) → ((n : ℕ) → (n ≡ place → ⊥) → P n (bound_at b n)) → (n : ℕ) → P n (bound_at after n)
    each P here others n = ⊎_elim
        (λ e. subst (λ k. P k (bound_at after k)) (sym e) (subst (P place) (sym at_place) here))
        (λ ne. subst (P n) (sym (at_other n ne)) (others n ne))
        (cases_eq n place)

    fits_after : (a : Assignment) → a place ≡ value_at table id → Fits table a b → Fits table a after
    fits_after a e fits = each (λ n o. IfSome o (λ i. a n ≡ value_at table i)) e (λ n ne. fits n)

    fits_before : (a : Assignment) → Fits table a after → Fits table a b
    fits_before a fits n = ⊎_elim
        (λ e. subst (λ o. IfSome o (λ i. a n ≡ value_at table i)) (sym (ap (bound_at b) e ∙ free)) tt)
        (λ ne. subst (λ o. IfSome o (λ i. a n ≡ value_at table i)) (at_other n ne) (fits n))
        (cases_eq n place)

    at_value : (a : Assignment) → Fits table a after → a place ≡ value_at table id
    at_value a fits = subst (λ o. IfSome o (λ i. a place ≡ value_at table i)) at_place (fits place)

    kept_after : (n : ℕ) → IfSome (bound_at b n) (λ i. bound_at after n ≡ Some i)
    kept_after n = ⊎_elim
        (λ e. subst (λ o. IfSome o (λ i. bound_at after n ≡ Some i)) (sym (ap (bound_at b) e ∙ free)) tt)
        (λ ne. subst (λ o. IfSome (bound_at b n) (λ i. o ≡ Some i)) (sym (at_other n ne)) (kept_itself (bound_at b n)))
        (cases_eq n place)

    only_after : (n : ℕ) → IsTrue (is_bound after n) → IsTrue (is_bound b n) ⊎ Contains (place ∷ []) n
    only_after n t = ⊎_elim
        (λ e. inr (subst (λ k. Contains (place ∷ []) k) (sym e) (Contains-push [] place)))
        (λ ne. inl (subst (λ o. IsTrue (is_some o)) (at_other n ne) t))
        (cases_eq n place)

    whole_after : (n : ℕ) → Contains (place ∷ []) n → IsTrue (is_bound after n)
    whole_after n at = subst (λ k. IsTrue (is_bound after k)) (only_one place n at) (ap is_some at_place)

    -- a free place gets the value
    pub given : IsIdOf table id → IsBindingOf table b → IsMatch table (λ a. a place ≡ value_at table id) (place ∷ []) b after true
    given is ids = record {
      exact = λ a. (λ h. (refl, fits_after a h.0 h.1), λ h. (at_value a h.1, fits_before a h.1));
      ids = each (λ n o. IfSome o (IsIdOf table)) is (λ n ne. ids n);
      kept = kept_after;
      only = only_after;
      whole = λ t. whole_after;
    }

  -- ---- from match to match

  -- a binding that stays as it is
  pub tested : (meets : Assignment → Type 0) (places : List ℕ) (b : List (Option TermId)) (matched : Bool)
      → ((a : Assignment) → Fits table a b → meets a ↔ IsTrue matched) → IsBindingOf table b
      → (IsTrue matched → (n : ℕ) → Contains places n → IsTrue (is_bound b n)) → IsMatch table meets places b b matched
  tested meets places b matched when ids whole = record {
    exact = λ a. (λ h. ((when a h.1).0 h.0, h.1), λ h. ((when a h.1).1 h.0, h.1));
    ids = ids;
    kept = λ n. kept_itself (bound_at b n);
    only = λ n t. inl t;
    whole = whole;
  }

  -- a place that has its value
  pub place_tested : (place : ℕ) (id known : TermId) (b : List (Option TermId)) (matched : Bool) → bound_at b place ≡ Some known
      → IsTrue matched ↔ (value_at table known ≡ value_at table id) → IsBindingOf table b
      → IsMatch table (λ a. a place ≡ value_at table id) (place ∷ []) b b matched
  place_tested place id known b matched is same ids =
      let has : (a : Assignment) → Fits table a b → a place ≡ value_at table known = λ a fits. subst (λ o. IfSome o (λ i. a place ≡ value_at table i)) is (fits place) in
      tested (λ a. a place ≡ value_at table id) (place ∷ []) b matched
      (λ a fits. (λ e. same.1 (sym (has a fits) ∙ e), λ t. has a fits ∙ same.0 t)) ids
      (λ t n at. subst (λ k. IsTrue (is_bound b k)) (only_one place n at) (ap is_some is))

  -- one match, and then another
  pub chained : (first second meets : Assignment → Type 0) (ps qs places : List ℕ) (old mid new : List (Option TermId)) (matched : Bool)
      → IsMatch table first ps old mid true → IsMatch table second qs mid new matched
      → ((a : Assignment) → meets a ↔ (first a × second a)) → ((n : ℕ) → Contains places n ↔ (Contains ps n ⊎ Contains qs n))
      → IsMatch table meets places old new matched
  chained first second meets ps qs places old mid new matched f s both parts = record {
    exact = λ a. (
      λ h. let m = (both a).0 h.0 in (s.exact a).0 (m.1, ((f.exact a).0 (m.0, h.1)).1),
      λ h. let m = (s.exact a).1 h in let n = (f.exact a).1 (refl, m.1) in ((both a).1 (n.0, m.0), n.1),
    );
    ids = s.ids;
    kept = λ n. kept_on (bound_at old n) (bound_at mid n) (bound_at new n) (f.kept n) (s.kept n);
    only = λ n t. ⊎_elim
        (λ m. ⊎_elim (λ o. inl o) (λ p. inr ((parts n).1 (inl p))) (f.only n m))
        (λ q. inr ((parts n).1 (inr q)))
        (s.only n t);
    whole = λ t n at. ⊎_elim
        (λ p. kept_bound (bound_at mid n) (bound_at new n) (s.kept n) (f.whole refl n p))
        (λ q. s.whole t n q)
        ((parts n).0 at);
  }

  -- what is refused stays refused where more is asked
  pub refused : (first meets : Assignment → Type 0) (ps places : List ℕ) (old new : List (Option TermId))
      → IsMatch table first ps old new false → ((a : Assignment) → meets a → first a) → ((n : ℕ) → Contains ps n → Contains places n)
      → IsMatch table meets places old new false
  refused first meets ps places old new f less parts = record {
    exact = λ a. (λ h. absurd (false≢true ((f.exact a).0 (less a h.0, h.1)).0), λ h. absurd (false≢true h.0));
    ids = f.ids;
    kept = f.kept;
    only = λ n t. ⊎_elim (λ o. inl o) (λ p. inr (parts n p)) (f.only n t);
    whole = λ t n at. absurd (false≢true t);
  }

  -- the same asked in other words
  pub reread : (first meets : Assignment → Type 0) (ps places : List ℕ) (old new : List (Option TermId)) (matched : Bool)
      → IsMatch table first ps old new matched → ((a : Assignment) → meets a ↔ first a) → ps ≡ places
      → IsMatch table meets places old new matched
  reread first meets ps places old new matched f same e = record {
    exact = λ a. (λ h. (f.exact a).0 ((same a).0 h.0, h.1), λ h. let m = (f.exact a).1 h in ((same a).1 m.0, m.1));
    ids = f.ids;
    kept = f.kept;
    only = λ n t. ⊎_elim (λ o. inl o) (λ p. inr (subst (λ ns. Contains ns n) e p)) (f.only n t);
    whole = λ t n at. f.whole t n (subst (λ ns. Contains ns n) (sym e) at);
  }
