-- What stays as the table of values grows.
use Rattle.std.proofs.Common.{◌≡◌, ◌↔◌, ℕ, List, [], ◌∷◌, Option, Some, None, IfSome, All, refl, sym, ap₂, ◌∙◌}
use Rattle.std.proofs.lemmas.List.Elements.{All-head, All-tail, All-weaker}
use Rattle.ap_term.specs.declared.shape.TermId.{TermId}
use Rattle.ap_term.specs.Table.{IsIdOf, value_at, KeepsIds}
use Rattle.ap_term.specs.Value.{Value}
use Rattle.ap_term.proofs.CallerLemmas.{IsIdOf-kept}
use Rattle.join_form.specs.declared.pattern.Pattern.{Pattern}
use Rattle.join_form.specs.Bindings.{bound_at, Fits, IsBindingOf}
use Rattle.join_form.specs.Patterns.{Assignment, pattern_values, IsPatternOf}
use Rattle.join_form.proofs.PatternLemmas.{value_kept}
use Rattle.join_search.specs.Matches.{values_of}

module _ (old new : List Value) (keeps : KeepsIds old new) where
  -- ---- ids, bindings, patterns

  pub ids_kept : (row : List TermId) → All (IsIdOf old) row → values_of new row ≡ values_of old row
  ids_kept [] h = refl
  ids_kept (id ∷ row) h = ap₂ ◌∷◌ (keeps.same id (All-head (IsIdOf old) id row h)) (ids_kept row (All-tail (IsIdOf old) id row h))

  pub all_ids_kept : (row : List TermId) → All (IsIdOf old) row → All (IsIdOf new) row
  all_ids_kept = All-weaker (IsIdOf old) (IsIdOf new) (IsIdOf-kept old new keeps)

  option_kept : (o : Option TermId) → IfSome o (IsIdOf old) → IfSome o (IsIdOf new)
  option_kept None h = h
  option_kept (Some id) h = IsIdOf-kept old new keeps id h

  pub binding_kept : (b : List (Option TermId)) → IsBindingOf old b → IsBindingOf new b
  binding_kept b ids n = option_kept (bound_at b n) (ids n)

  pub fits_at : (v : Value) (o : Option TermId) → IfSome o (IsIdOf old) → IfSome o (λ id. v ≡ value_at new id) ↔ IfSome o (λ id. v ≡ value_at old id)
  fits_at v None is = (λ h. h, λ h. h)
  fits_at v (Some id) is = (λ e. e ∙ keeps.same id is, λ e. e ∙ sym (keeps.same id is))

  pub fits_kept : (a : Assignment) (b : List (Option TermId)) → IsBindingOf old b → Fits new a b ↔ Fits old a b
  fits_kept a b ids = (λ h n. (fits_at (a n) (bound_at b n) (ids n)).0 (h n), λ h n. (fits_at (a n) (bound_at b n) (ids n)).1 (h n))

  pub pattern_stays : (places : ℕ) (p : Pattern) → IsPatternOf old places p → IsPatternOf new places p
  pattern_stays places p is = (is.0, all_ids_kept _ is.1)

  pub patterns_stay : (places : ℕ) (ps : List Pattern) → All (IsPatternOf old places) ps → All (IsPatternOf new places) ps
  patterns_stay places = All-weaker (IsPatternOf old places) (IsPatternOf new places) (pattern_stays places)

  pub patterns_kept : (a : Assignment) (places : ℕ) (ps : List Pattern) → All (IsPatternOf old places) ps → pattern_values new a ps ≡ pattern_values old a ps
  patterns_kept a places [] is = refl
  patterns_kept a places (p ∷ ps) is = ap₂ ◌∷◌ (value_kept old new keeps a places p (All-head (IsPatternOf old places) p ps is)) (patterns_kept a places ps (All-tail (IsPatternOf old places) p ps is))
