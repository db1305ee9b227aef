-- The unbeaten ones of all answer sets are the sorted listing of the optimal ones.
use Rattle.std.proofs.Common.{◌≡◌, ℕ, ◌<◌, Bool, true, false, not, ◌&&◌, ◌||◌, List, [], ◌∷◌, length, map, get_or, refl, sym, ap, ◌∙◌, subst, arith}
use Rattle.std.specs.Prelude.{Contains, IsFalse, Option, None, Some}
use Rattle.std.specs.List.{list_all, list_any}
use Rattle.std.proofs.lemmas.Bool.{true≢false}
use Rattle.std.proofs.lemmas.List.Elements.{All-contains, All-from_recursion, recursion_from_All}
use Rattle.std.proofs.lemmas.List.Folds.{Any-from_list_any}
use Rattle.ap_syntax.specs.declared.small.Element.{Element}
use Rattle.ap_syntax.specs.declared.small.Preference.{Preference}
use Rattle.ap_syntax.specs.declared.small.Program.{Program}
use Rattle.ap_eval.specs.AnswerSets.{IsAnswerSet}
use Rattle.ap_eval.specs.AtomSets.{AtomSet, has}
use Rattle.small_optima.specs.Answers.{AreAnswerSets}
use Rattle.small_optima.specs.Kept.{Kept}
use Rattle.small_optima.specs.Marks.{marks_better, marks_part}
use Rattle.small_optima.specs.Optimal.{IsSortedListing, atom_cmp, set_cmp}
use Rattle.small_optima.specs.Preferred.{is_better, is_part, optimised, prefers, prefers_by, satisfies}
use Rattle.small_optima.specs.Unbeaten.{IsUnbeatenIn, elements_of, marks_of}
use Rattle.std.specs.List.Sorted.{IsStrictlySortedBy}
use Rattle.small_optima.proofs.Best.{better_has_fewer, passing, some_unbeaten}
use Rattle.small_optima.proofs.Keeping.{All-kept, Contains-kept, IsStrictlySortedBy-kept, still_each}
use Rattle.small_optima.proofs.Lists.{each-none}

-- ---- marks

marks_part-map : {A : Type 0} (f g : A → Bool) (xs : List A) → marks_part (map f xs) (map g xs) ≡ list_all (λ x. not (f x) || g x) xs
marks_part-map f g [] = refl
marks_part-map f g (x ∷ xs) = ap (λ b. (not (f x) || g x) && b) (marks_part-map f g xs)

better-marks : (elements : List Element) (x y : List (List ℕ)) → marks_better (marks_of elements x) (marks_of elements y) ≡ is_better elements (has x) (has y)
better-marks elements x y =
    ap (λ b. b && not (marks_part (marks_of elements y) (marks_of elements x))) (marks_part-map (satisfies (has x)) (satisfies (has y)) elements)
    ∙ ap (λ b. is_part elements (has x) (has y) && not b) (marks_part-map (satisfies (has y)) (satisfies (has x)) elements)

prefers-elements : (preference : Option Preference) (x y : AtomSet) → prefers_by preference x y ≡ is_better (elements_of preference) x y
prefers-elements None x y = refl
prefers-elements (Some preference) x y = refl

beaten-marks : (p : Program) (set : List (List ℕ)) (sets : List (List (List ℕ)))
    → list_any (λ other. marks_better other (marks_of (elements_of (optimised p)) set)) (map (marks_of (elements_of (optimised p))) sets) ≡ list_any (λ other. prefers p (has other) (has set)) sets
beaten-marks p set [] = refl
beaten-marks p set (other ∷ sets) =
    let elements = elements_of (optimised p) in
    ap (λ b. b || list_any (λ row. marks_better row (marks_of elements set)) (map (marks_of elements) sets)) (better-marks elements other set ∙ sym (prefers-elements (optimised p) (has other) (has set)))
    ∙ ap (λ b. prefers p (has other) (has set) || b) (beaten-marks p set sets)

-- what the comparison of the marks answers
pub unbeaten_from_marks : (p : Program) (set : List (List ℕ)) (sets : List (List (List ℕ)))
    → list_any (λ other. marks_better other (marks_of (elements_of (optimised p)) set)) (map (marks_of (elements_of (optimised p))) sets) ≡ false → IsUnbeatenIn p sets set
unbeaten_from_marks p set sets h =
    let test : List (List ℕ) → Bool = λ other. prefers p (has other) (has set) in
    All-from_recursion (λ other. IsFalse (test other)) sets (each-none test sets (sym (beaten-marks p set sets) ∙ h))

pub beaten_from_marks : (p : Program) (set : List (List ℕ)) (sets : List (List (List ℕ)))
    → list_any (λ other. marks_better other (marks_of (elements_of (optimised p)) set)) (map (marks_of (elements_of (optimised p))) sets) ≡ true → IsUnbeatenIn p sets set → ⊥
beaten_from_marks p set sets h unbeaten =
    let test : List (List ℕ) → Bool = λ other. prefers p (has other) (has set) in
    let by = Any-from_list_any test sets (sym (beaten-marks p set sets) ∙ h) in
    true≢false (sym by.4 ∙ All-contains (λ other. IsFalse (test other)) sets by.1 unbeaten (by.0, by.2, by.3))

-- ---- the listing

module _ (p : Program) (found best : List (List (List ℕ))) (answers : AreAnswerSets p found) (kept : Kept (IsUnbeatenIn p found) found best) where
  abbrev Unbeaten : List (List ℕ) → Type 0
  Unbeaten set = IsUnbeatenIn p found set

  -- no answer set is preferred to what no found one is preferred to
  unbeaten_by_all : (set : List (List ℕ)) → IsUnbeatenIn p found set → (y : AtomSet) → IsAnswerSet p y → IsFalse (prefers p y (has set))
  unbeaten_by_all set unbeaten y answer =
      let there = answers.whole y answer in
      subst (λ z. IsFalse (prefers p z (has set))) there.4
      (All-contains (λ (other : List (List ℕ)). IsFalse (prefers p (has other) (has set))) found there.1 unbeaten (there.0, there.2, there.3))

  pub is_sorted_listing : IsSortedListing p best
  is_sorted_listing = record {
    atoms = All-from_recursion (IsStrictlySortedBy atom_cmp) best (still_each (IsUnbeatenIn p found) (IsStrictlySortedBy atom_cmp) kept (recursion_from_All (IsStrictlySortedBy atom_cmp) found answers.atoms));
    sorted = IsStrictlySortedBy-kept (IsUnbeatenIn p found) set_cmp kept answers.sorted;
    optimal = λ k d lt.
        let set : List (List ℕ) = get_or best k d in
        let still = All-from_recursion (λ (set : List (List ℕ)). IsAnswerSet p (has set)) best (still_each (IsUnbeatenIn p found) (λ set. IsAnswerSet p (has set)) kept (recursion_from_All (λ (set : List (List ℕ)). IsAnswerSet p (has set)) found answers.answers)) in
        record {
          answer_set = still k d lt;
          unbeaten = unbeaten_by_all set (All-kept (IsUnbeatenIn p found) found best kept k d lt);
        };
    whole = λ x optimal.
        let there = answers.whole x optimal.answer_set in
        let set : List (List ℕ) = there.1 in
        let unbeaten : IsUnbeatenIn p found set = λ k d lt. subst (λ z. IsFalse (prefers p (has (get_or found k d)) z)) (sym there.4) (optimal.unbeaten (has (get_or found k d)) (answers.answers k d lt)) in
        let still = Contains-kept (IsUnbeatenIn p found) set kept (there.0, there.2, there.3) unbeaten in
        (still.0, set, still.1, still.2, there.4);
  }

  -- where there is an answer set there is an optimal one
  pub some_optimal : (first : List (List ℕ)) → Contains found first → 0 < length best
  some_optimal first c =
      let elements = elements_of (optimised p) in
      let least = some_unbeaten (λ x y. prefers p (has x) (has y)) (λ set. passing (satisfies (has set)) elements)
      (λ x y h. better_has_fewer elements (has x) (has y) (sym (prefers-elements (optimised p) (has x) (has y)) ∙ h)) found first c in
      let still = Contains-kept (IsUnbeatenIn p found) least.0 kept least.1 least.2 in omega arith
