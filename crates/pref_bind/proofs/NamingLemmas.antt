-- The first statement with a wrong name, as it is searched for.
use Rattle.std.proofs.Common.{◌≡◌, refl, sym, ◌∙◌, ap, subst, ℕ, ◌+◌, ◌<◌, Bool, true, false, ◌||◌, List, [], ◌∷◌, ◌++◌, length, get_or, take, drop, Option, Some, None, is_some}
use Rattle.std.specs.List.{list_any}
use Rattle.std.proofs.lemmas.List.{drop_more, take_more}
use Rattle.std.proofs.lemmas.List.Folds.{list_any-append}
use mathlib.Core.Path.{fun_ext}
use Rattle.ap_syntax.specs.declared.programs.Statement.{Statement}
use Rattle.pref_bind.specs.Before.{Declares, IsDeclaredIn, Precedes, StandsBefore}
use Rattle.pref_bind.specs.Causes.{declares, first_misnamed, fixes, has_part, is_const, is_declared, is_optimize, misnamed, misnamed_by, misnamed_from, opens, or_else}
use Rattle.pref_bind.specs.Named.{is_named}
use Rattle.pref_bind.specs.declared.naming.Before.{Before}
use Rattle.pref_bind.specs.declared.naming.Declared.{Declared}
use Rattle.pref_bind.specs.declared.naming.WrongName.{WrongName}

-- ---- tests of one statement more

turned : (a b : Bool) → (a || b) ≡ (b || (a || false))
turned true true = refl
turned true false = refl
turned false true = refl
turned false false = refl

-- a test of those before, and of this one
pub test_more : (test : Statement → Bool) (ss : List Statement) (s : Statement) (old new : Bool) → old ≡ list_any test ss → new ≡ (test s || old) → new ≡ list_any test (ss ++ s ∷ [])
test_more test ss s old new h k =
    k ∙ (ap (λ b. test s || b) h ∙ (turned (test s) (list_any test ss) ∙ sym (list_any-append test ss (s ∷ []))))

pub declared_more : (ss : List Statement) (s : Statement) (old new : Declared) → IsDeclaredIn ss old → Declares old new s → IsDeclaredIn (ss ++ s ∷ []) new
declared_more ss s old new h k = record {
  names = λ name. test_more (declares name) ss s _ _ (h.names name) (k.names name);
  parts = λ name. test_more (opens name) ss s _ _ (h.parts name) (k.parts name);
}

pub before_more : (ss : List Statement) (s : Statement) (old new : Before) → StandsBefore ss old → Precedes old new s → StandsBefore (ss ++ s ∷ []) new
before_more ss s old new h k = record {
  names = λ name. test_more (declares name) ss s _ _ (h.names name) (k.names name);
  constants = λ name. test_more (fixes name) ss s _ _ (h.constants name) (k.constants name);
  optimised = test_more is_optimize ss s _ _ h.optimised k.optimised;
}

-- ---- what is wrong with one

module _ (d : Declared) (b : Before) (all before : List Statement) (s : Statement) (h : IsDeclaredIn all d) (k : StandsBefore before b) where
  pub misnamed_is : misnamed_by (is_named d.names) (is_named d.parts) (is_named b.names) (is_named b.constants) b.optimised s ≡ misnamed all before s
  misnamed_is =
      ap (λ f. misnamed_by f (is_named d.parts) (is_named b.names) (is_named b.constants) b.optimised s) (fun_ext h.names)
      ∙ (ap (λ f. misnamed_by (is_declared all) f (is_named b.names) (is_named b.constants) b.optimised s) (fun_ext h.parts)
      ∙ (ap (λ f. misnamed_by (is_declared all) (has_part all) f (is_named b.constants) b.optimised s) (fun_ext k.names)
      ∙ (ap (λ f. misnamed_by (is_declared all) (has_part all) (is_declared before) f b.optimised s) (fun_ext k.constants)
      ∙ ap (λ o. misnamed_by (is_declared all) (has_part all) (is_declared before) (is_const before) o s) k.optimised)))

-- ---- the first

-- the statements before, with this one, and what is left
front_is : (ss : List Statement) (i : ℕ) (s : Statement) → i < length ss → s ≡ get_or ss i s → take (i + 1) ss ≡ take i ss ++ s ∷ []
front_is ss i s lt is = take_more ss i s lt ∙ ap (λ x. take i ss ++ x ∷ []) (sym is)

left_is : (ss : List Statement) (i : ℕ) (s : Statement) → i < length ss → s ≡ get_or ss i s → drop i ss ≡ s ∷ drop (i + 1) ss
left_is ss i s lt is = drop_more ss i s lt ∙ ap (λ x. x ∷ drop (i + 1) ss) (sym is)

pub before_here : (ss : List Statement) (i : ℕ) (s : Statement) (old new : Before) → i < length ss → s ≡ get_or ss i s → StandsBefore (take i ss) old → Precedes old new s → StandsBefore (take (i + 1) ss) new
before_here ss i s old new lt is h k = subst (λ xs. StandsBefore xs new) (sym (front_is ss i s lt is)) (before_more (take i ss) s old new h k)

some_first : (x y : Option WrongName) → is_some x ≡ true → x ≡ or_else x y
some_first (Some m) y e = refl
some_first None y e = cc

none_first : (x y : Option WrongName) → is_some x ≡ false → or_else x y ≡ y
none_first (Some m) y e = cc
none_first None y e = refl

module _ (d : Declared) (b : Before) (ss : List Statement) (i : ℕ) (s : Statement) (lt : i < length ss) (is : s ≡ get_or ss i s) (h : IsDeclaredIn ss d) (k : StandsBefore (take i ss) b)
    (found : Option WrongName) (e : found ≡ misnamed_by (is_named d.names) (is_named d.parts) (is_named b.names) (is_named b.constants) b.optimised s) where
  all_is : first_misnamed ss ≡ misnamed_from ss (take i ss) (drop i ss) → first_misnamed ss ≡ or_else found (misnamed_from ss (take (i + 1) ss) (drop (i + 1) ss))
  all_is first =
      first ∙ (ap (misnamed_from ss (take i ss)) (left_is ss i s lt is)
      ∙ (ap (λ o. or_else o (misnamed_from ss (take i ss ++ s ∷ []) (drop (i + 1) ss))) (sym (e ∙ misnamed_is d b ss (take i ss) s h k))
      ∙ ap (λ xs. or_else found (misnamed_from ss xs (drop (i + 1) ss))) (sym (front_is ss i s lt is))))

  -- this one is the first
  pub first_here : is_some found ≡ true → first_misnamed ss ≡ misnamed_from ss (take i ss) (drop i ss) → found ≡ first_misnamed ss
  first_here some first = some_first found (misnamed_from ss (take (i + 1) ss) (drop (i + 1) ss)) some ∙ sym (all_is first)

  -- it is behind this one
  pub first_left : is_some found ≡ false → first_misnamed ss ≡ misnamed_from ss (take i ss) (drop i ss) → first_misnamed ss ≡ misnamed_from ss (take (i + 1) ss) (drop (i + 1) ss)
  first_left none first = all_is first ∙ none_first found (misnamed_from ss (take (i + 1) ss) (drop (i + 1) ss)) none
