-- The places of variables, as a map has them.
use Rattle.std.proofs.Common.{◌≡◌, ◌+◌, ℕ, List, [], ◌∷◌, ◌++◌, Contains, Option, Some, None, slice_get, take, refl, sym, subst, ap, ◌∙◌}
use Rattle.std.specs.Option.{IsSome}
use Rattle.std.specs.Str.{bytes_eq}
use Rattle.std.specs.Cmp.Lexicographic.{nat_list_eq_equiv}
use Rattle.std.specs.Map.{lookup}
use Rattle.std.proofs.lemmas.Bool.{false≢true}
use Rattle.std.proofs.lemmas.List.{take_more}
use Rattle.std.proofs.lemmas.Option.{slice_get_within, get_or_from_slice_get}
use Rattle.std.proofs.lemmas.Map.Views.{Contains-from_lookup, IsSome-lookup_from_Contains}
use Rattle.rule_form.proofs.Lists.{to_map}
use Rattle.rule_form.proofs.Unfolds.{bytes_from}
use Rattle.rule_joins.specs.Drafts.{Placed, names_of}

pub found_at : (variables : List Placed) (name : List ℕ) (place : ℕ) → lookup (bytes_eq name) variables ≡ Some place → Contains variables (name, place)
found_at variables name place e = Contains-from_lookup bytes_from name place variables e

pub absent_from : (variables : List Placed) (name : List ℕ) → lookup (bytes_eq name) variables ≡ None → Contains (names_of variables) name → ⊥
absent_from variables name e c = absurd (false≢true (subst IsSome e (IsSome-lookup_from_Contains nat_list_eq_equiv name variables c)))

-- one more entry that was copied
pub one_more_copied : (variables : List Placed) (at : ℕ) (seen pushed : List Placed) (given : List ℕ) (v : Placed) → pushed ≡ seen ++ (given, v.1) ∷ [] → given ≡ v.0 → seen ≡ take at variables → slice_get variables at ≡ Some v → pushed ≡ take (at + 1) variables
one_more_copied variables at seen pushed given v e f g h =
    e ∙ (ap (λ n. seen ++ (n, v.1) ∷ []) f
    ∙ (ap (λ vs. vs ++ v ∷ []) g
    ∙ sym (take_more variables at v (slice_get_within variables at v h) ∙ ap (λ w. take at variables ++ w ∷ []) (get_or_from_slice_get variables at v v h))))

-- a name that is not among them is not found
pub none_from_absent : (variables : List Placed) (name : List ℕ) → (Contains (names_of variables) name → ⊥) → lookup (bytes_eq name) variables ≡ None
none_from_absent variables name absent = by (lookup (bytes_eq name) variables) refl
  where
    by : (o : Option ℕ) → lookup (bytes_eq name) variables ≡ o → o ≡ None
    by None e = refl
    by (Some place) e = absurd (absent (to_map (λ (v : Placed). v.0) variables (name, place) (found_at variables name place e)))
