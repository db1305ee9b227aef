-- A source by the first of its unbound variables, and sources one after the other.
use Rattle.std.proofs.Common.{◌≡◌, refl, sym, subst, ℕ, Bool, List, [], ◌∷◌, ◌++◌, All, Option, Some, None}
use Rattle.std.proofs.lemmas.List.Elements.{All-nil, All-cons, All-append, All-weaker}
use Rattle.ap_bindings.specs.declared.search.Failing.{Failing}
use Rattle.ap_bindings.specs.Texts.{IsFirstFailing, first_failing}
use Rattle.ap_pieces.specs.Pieces.{Source}
use Rattle.ap_pieces.specs.declared.pieces.Signature.{Signature}
use Rattle.ap_pieces.specs.Bound.{AreUnbound, IsAllBound, IsUnsafe, HasUnbound}
use Rattle.ap_bindings.specs.Unsafe.{source_place, IsFirstUnsafe}
use Rattle.ap_bindings.specs.Searches.{first_name, IsFirstUnbound, failing_of}
use Rattle.ap_bindings.proofs.FirstLemmas.{this_fails, in_both}
use Rattle.ap_bindings.proofs.UnboundLemmas.{one_unbound}

-- no name is the first of none
none_first : (names : List (List ℕ)) → None ≡ first_name names → names ≡ []
none_first [] e = refl
none_first (name ∷ names) e = cc

module _ (definite : Signature → Bool) where
  first_is : (source : Source) (variable : List ℕ) (names : List (List ℕ)) → AreUnbound definite source.pieces names → Some variable ≡ first_name names → IsUnsafe definite source variable
  first_is source variable [] h e = cc
  first_is source variable (name ∷ names) h e =
      let same : name ≡ variable = cc in
      (names, subst (λ (v : List ℕ). AreUnbound definite source.pieces (v ∷ names)) same h)

  -- where all is bound, no variable is unbound
  pub bound_not_unbound : (source : Source) → IsAllBound definite source → HasUnbound definite source → ⊥
  bound_not_unbound source h u =
      let same : [] ≡ u.0 ∷ u.1.0 = one_unbound definite source.pieces [] (u.0 ∷ u.1.0) h u.1.1 in
      absurd cc

  pub source_unsafe : (source : Source) (variable : Option (List ℕ)) → IsFirstUnbound definite source.pieces variable → IsFirstUnsafe definite (source ∷ []) (failing_of source.file source.at variable)
  source_unsafe source None h =
      let bound = subst (λ (ns : List (List ℕ)). AreUnbound definite source.pieces ns) (none_first h.0 h.2) h.1 in
      All-cons (IsAllBound definite) source [] bound (All-nil (IsAllBound definite))
  source_unsafe source (Some variable) h =
      let found = first_is source variable h.0 h.1 h.2 in
      this_fails source_place (HasUnbound definite) (IsUnsafe definite) source (record { file = source.file; at = source.at; what = variable }) refl (variable, found) found

  -- the same said negatively
  none_unbound : (xs : List Source) → All (IsAllBound definite) xs → IsFirstFailing source_place (HasUnbound definite) (IsUnsafe definite) xs None
  none_unbound xs h = All-weaker (IsAllBound definite) (λ s. HasUnbound definite s → ⊥) bound_not_unbound xs h

  both_sources : (xs ys : List Source) (a b : Option (Failing (List ℕ))) → IsFirstUnsafe definite xs a → IsFirstUnsafe definite ys b → IsFirstUnsafe definite (xs ++ ys) (first_failing a b)
  both_sources xs ys None None h k = All-append (IsAllBound definite) xs ys h k
  both_sources xs ys None (Some g) h k = in_both source_place (HasUnbound definite) (IsUnsafe definite) xs ys None (Some g) (none_unbound xs h) k
  both_sources xs ys (Some f) None h k = in_both source_place (HasUnbound definite) (IsUnsafe definite) xs ys (Some f) None h (none_unbound ys k)
  both_sources xs ys (Some f) (Some g) h k = in_both source_place (HasUnbound definite) (IsUnsafe definite) xs ys (Some f) (Some g) h k

  pub more_sources : (xs ys all : List Source) (a b : Option (Failing (List ℕ))) → all ≡ xs ++ ys → IsFirstUnsafe definite xs a → IsFirstUnsafe definite ys b → IsFirstUnsafe definite all (first_failing a b)
  more_sources xs ys all a b e h k = subst (λ (zs : List Source). IsFirstUnsafe definite zs (first_failing a b)) (sym e) (both_sources xs ys a b h k)
