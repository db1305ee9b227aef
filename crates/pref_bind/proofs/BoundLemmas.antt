-- Where no name is wrong, all names are declared, and each statement is the first of its name.
use Rattle.std.proofs.Common.{◌≡◌, ℕ, zero, suc, ◌+◌, Bool, true, false, not, ◌||◌, List, [], ◌∷◌, ◌++◌, length, Option, Some, None, slice_get, refl, sym, ap, ◌∙◌, subst, append_assoc, arith, inl, inr}
use Rattle.std.specs.List.{Contains, filter_map, list_any}
use Rattle.std.proofs.lemmas.List.{length-append}
use Rattle.std.proofs.lemmas.List.Elements.{filter_map-append}
use Rattle.ap_syntax.specs.declared.preferences.Preference.{Preference}
use Rattle.ap_syntax.specs.declared.programs.Statement.{Statement}
use Rattle.ap_syntax.specs.declared.programs.Statement.TheVariants as statement
use Rattle.pref_bind.specs.Causes.{first_misnamed, has_part, is_built_in, is_declared, is_undeclared, misnamed, misnamed_from, or_else, placed, preference_cause, when}
use Rattle.pref_bind.specs.declared.cause.Cause as causes
use Rattle.pref_bind.specs.declared.cause.Cause.TheVariants as cause
use Rattle.pref_bind.specs.declared.naming.WrongName.{WrongName}
use Rattle.pref_bind.specs.Naming.{names_in}
use Rattle.program_form.specs.Programs.{preference_of, preferences}
use Rattle.pref_bind.specs.Stacks.{place_in}
use Rattle.pref_bind.proofs.MemberLemmas.{any_false}
use Rattle.pref_bind.proofs.PlaceLemmas.{none_declared, place_behind, some_declared}

-- names are declared, and each statement is the first of its name
pub record IsBound (ps : List Preference) : Type 0 where
  pub declared : (i : ℕ) (p : Preference) (name : List ℕ) → slice_get ps i ≡ Some p → Contains (names_in p) name → (j : ℕ) × (place_in ps name ≡ Some j)
  pub first : (i : ℕ) (p : Preference) → slice_get ps i ≡ Some p → place_in ps p.name ≡ Some i

-- ---- nothing is wrong

neither : {A : Type 0} (x y : Option A) → or_else x y ≡ None → (x ≡ None) × (y ≡ None)
neither None y e = (refl, e)
neither (Some a) y e = cc

no_cause : (file at : ℕ) (c : Option causes.Cause) → placed file at c ≡ None → c ≡ None
no_cause file at None e = refl
no_cause file at (Some c) e = cc

not_when : (b : Bool) (c : causes.Cause) → when b c ≡ None → b ≡ false
not_when true c e = cc
not_when false c e = refl

declared_so : (b : Bool) → not b ≡ false → b ≡ true
declared_so true e = refl
declared_so false e = cc

record IsRight (all before : List Statement) (p : Preference) : Type 0 where
  names : list_any (is_undeclared (is_declared all) (has_part all)) (names_in p) ≡ false
  once : is_declared before p.name ≡ false

right : (all before : List Statement) (p : Preference) → misnamed all before (statement.Preference p) ≡ None → IsRight all before p
right all before p e =
    let causes = neither _ _ (no_cause p.file p.at _ e) in
    let others = neither _ _ causes.1 in
    record {
      names = not_when _ cause.Statement others.0;
      once = not_when _ cause.Twice others.1;
    }

-- what holds of the first statement and of those behind it
module _ (all : List Statement) where
  split : (before rest : List Statement) (s : Statement) → misnamed_from all before (s ∷ rest) ≡ None → (misnamed all before s ≡ None) × (misnamed_from all (before ++ s ∷ []) rest ≡ None)
  split before rest s e = neither (misnamed all before s) (misnamed_from all (before ++ s ∷ []) rest) e

  onward : (before rest : List Statement) (s : Statement) → all ≡ before ++ s ∷ rest → all ≡ (before ++ s ∷ []) ++ rest
  onward before rest s e = e ∙ sym (append_assoc before (s ∷ []) rest)

  count_more : (before : List Statement) (p : Preference) → length (preferences (before ++ statement.Preference p ∷ [])) ≡ length (preferences before) + 1
  count_more before p = ap length (filter_map-append preference_of before (statement.Preference p ∷ [])) ∙ length-append (preferences before) (p ∷ [])

  count_same : (before : List Statement) (s : Statement) → preference_of s ≡ None → length (preferences (before ++ s ∷ [])) ≡ length (preferences before)
  count_same before s e =
      ap length (filter_map-append preference_of before (s ∷ []))
      ∙ (length-append (preferences before) (preferences (s ∷ [])) ∙ rw e (omega arith))

  declared_from : (before rest : List Statement) → misnamed_from all before rest ≡ None
      → (i : ℕ) (p : Preference) (name : List ℕ) → slice_get (preferences rest) i ≡ Some p → Contains (names_in p) name → is_declared all name ≡ true
  declared_from before [] e i p name at h = cc
  declared_from before (statement.Preference q ∷ rest) e zero p name at h =
      let same : q ≡ p = cc in
      let r = right all before q (split before rest (statement.Preference q) e).0 in
      declared_so (is_declared all name) (any_false (is_undeclared (is_declared all) (has_part all)) (names_in q) name r.names (subst (λ (x : Preference). Contains (names_in x) name) (sym same) h))
  declared_from before (statement.Preference q ∷ rest) e (suc i) p name at h =
      declared_from (before ++ statement.Preference q ∷ []) rest (split before rest (statement.Preference q) e).1 i p name at h
  declared_from before (statement.Rule r ∷ rest) e i p name at h = declared_from (before ++ statement.Rule r ∷ []) rest (split before rest _ e).1 i p name at h
  declared_from before (statement.Const f a o v ∷ rest) e i p name at h = declared_from (before ++ statement.Const f a o v ∷ []) rest (split before rest _ e).1 i p name at h
  declared_from before (statement.Show w ∷ rest) e i p name at h = declared_from (before ++ statement.Show w ∷ []) rest (split before rest _ e).1 i p name at h
  declared_from before (statement.Defined o n ∷ rest) e i p name at h = declared_from (before ++ statement.Defined o n ∷ []) rest (split before rest _ e).1 i p name at h
  declared_from before (statement.Part f a k ∷ rest) e i p name at h = declared_from (before ++ statement.Part f a k ∷ []) rest (split before rest _ e).1 i p name at h
  declared_from before (statement.Optimize f a o ∷ rest) e i p name at h = declared_from (before ++ statement.Optimize f a o ∷ []) rest (split before rest _ e).1 i p name at h

  -- the statement at place i of the rest is the first of its name
  abbrev IsFirstOf : (before rest : List Statement) → Type 0
  IsFirstOf before rest = (i : ℕ) (p : Preference) → slice_get (preferences rest) i ≡ Some p → place_in (preferences all) p.name ≡ Some (length (preferences before) + i)

  pass_other : (before rest : List Statement) (s : Statement) → preference_of s ≡ None → IsFirstOf (before ++ s ∷ []) rest → (i : ℕ) (p : Preference) → slice_get (preferences rest) i ≡ Some p → place_in (preferences all) p.name ≡ Some (length (preferences before) + i)
  pass_other before rest s e h i p at = h i p at ∙ ap (λ n. Some (n + i)) (count_same before s e)

  first_from : (before rest : List Statement) → misnamed_from all before rest ≡ None → all ≡ before ++ rest → IsFirstOf before rest
  first_from before [] e a i p at = cc
  first_from before (statement.Preference q ∷ rest) e a zero p at =
      let same : q ≡ p = cc in
      let r = right all before q (split before rest (statement.Preference q) e).0 in
      let parts : preferences all ≡ preferences before ++ q ∷ preferences rest = ap preferences a ∙ filter_map-append preference_of before (statement.Preference q ∷ rest) in
      let none = none_declared 0 before q.name r.once in
      let count : 0 + length (preferences before) ≡ length (preferences before) + zero = omega arith in
      subst (λ (x : Preference). place_in (preferences all) x.name ≡ Some (length (preferences before) + zero)) same
      (ap (λ ps. place_in ps q.name) parts ∙ (place_behind 0 (preferences before) (preferences rest) q none ∙ ap (λ n. Some n) count))
  first_from before (statement.Preference q ∷ rest) e a (suc i) p at =
      let later = first_from (before ++ statement.Preference q ∷ []) rest (split before rest (statement.Preference q) e).1 (onward before rest (statement.Preference q) a) i p at in
      let more = count_more before q in
      let count : length (preferences (before ++ statement.Preference q ∷ [])) + i ≡ length (preferences before) + suc i = omega (arith, more) in
      later ∙ ap (λ n. Some n) count
  first_from before (statement.Rule r ∷ rest) e a i p at = pass_other before rest (statement.Rule r) refl (first_from (before ++ statement.Rule r ∷ []) rest (split before rest _ e).1 (onward before rest _ a)) i p at
  first_from before (statement.Const f b o v ∷ rest) e a i p at = pass_other before rest (statement.Const f b o v) refl (first_from (before ++ statement.Const f b o v ∷ []) rest (split before rest _ e).1 (onward before rest _ a)) i p at
  first_from before (statement.Show w ∷ rest) e a i p at = pass_other before rest (statement.Show w) refl (first_from (before ++ statement.Show w ∷ []) rest (split before rest _ e).1 (onward before rest _ a)) i p at
  first_from before (statement.Defined o n ∷ rest) e a i p at = pass_other before rest (statement.Defined o n) refl (first_from (before ++ statement.Defined o n ∷ []) rest (split before rest _ e).1 (onward before rest _ a)) i p at
  first_from before (statement.Part f b k ∷ rest) e a i p at = pass_other before rest (statement.Part f b k) refl (first_from (before ++ statement.Part f b k ∷ []) rest (split before rest _ e).1 (onward before rest _ a)) i p at
  first_from before (statement.Optimize f b o ∷ rest) e a i p at = pass_other before rest (statement.Optimize f b o) refl (first_from (before ++ statement.Optimize f b o ∷ []) rest (split before rest _ e).1 (onward before rest _ a)) i p at

pub bound_if : (ss : List Statement) → first_misnamed ss ≡ None → IsBound (preferences ss)
bound_if ss e = record {
  declared = λ i p name at h. some_declared 0 ss name (declared_from ss [] ss e i p name at h);
  first = λ i p at. first_from ss [] ss e refl i p at ∙ ap (λ n. Some n) (omega arith);
}
