-- The names of unbound occurrences, and that there is one list of them.
use Rattle.std.proofs.Common.{◌≡◌, refl, sym, ◌∙◌, ap, ap₂, subst, ℕ, ◌+◌, ◌<◌, Bool, false, ◌||◌, List, [], ◌∷◌, ◌++◌, append_assoc, length, drop, get_or, Some}
use Rattle.std.specs.Prelude.{if◌then◌else◌, flat_map}
use Rattle.std.proofs.lemmas.List.{append-nil, drop_more}
use mathlib.Core.Path.{fun_ext}
use Rattle.ap_pieces.specs.declared.pieces.Mention.{Mention}
use Rattle.ap_pieces.specs.declared.pieces.Piece.{Piece}
use Rattle.ap_pieces.specs.declared.pieces.Piece.TheVariants.{Uses, Plain, Value, Part}
use Rattle.ap_pieces.specs.declared.pieces.Signature.{Signature}
use Rattle.ap_pieces.specs.Bound.{Names, IsBound, no_names, bound_within, globals, binders, unbound_part, AreUnboundOf, AreUnboundAmong, AreUnbound}
use Rattle.ap_bindings.specs.Searches.{also, first_name, first_or}
use Rattle.ap_bindings.proofs.NameLemmas.{same_names}

-- ---- outside parts

pub also_none : (none outside : Names) → ((name : List ℕ) → none name ≡ false) → also none outside ≡ outside
also_none none outside e = fun_ext (λ name. ap (λ b. b || outside name) (e name))

pub within_none : (none outside : Names) → ((name : List ℕ) → none name ≡ false) → bound_within none outside (also none outside) ≡ outside
within_none none outside e = fun_ext (λ name. ap (λ b. if b then outside name else (b || outside name)) (e name))

-- ---- first names

pub first_append : (xs ys : List (List ℕ)) → first_name (xs ++ ys) ≡ first_or (first_name xs) (first_name ys)
first_append [] ys = refl
first_append (x ∷ xs) ys = refl

-- the first name of all, where the members before this one have none
pub first_here : {X : Type 0} (names_of : X → List (List ℕ)) (xs : List X) (i : ℕ) (x : X) (name : List ℕ) → i < length xs → x ≡ get_or xs i x → first_name (names_of x) ≡ Some name → first_name (flat_map names_of (drop i xs)) ≡ Some name
first_here names_of xs i x name h e n =
    ap (λ ys. first_name (flat_map names_of ys)) (drop_more xs i x h ∙ ap (λ y. y ∷ drop (i + 1) xs) (sym e)) ∙ (first_append (names_of x) (flat_map names_of (drop (i + 1) xs)) ∙ ap (λ o. first_or o (first_name (flat_map names_of (drop (i + 1) xs)))) n)

-- ---- piece by piece

pub unbound_more : (definite : Signature → Bool) (global outside : Names) (pieces : List Piece) (piece : Piece) (names here : List (List ℕ)) → AreUnboundAmong definite global outside pieces names → AreUnboundOf definite global outside piece here → AreUnboundAmong definite global outside (pieces ++ piece ∷ []) (names ++ here)
unbound_more definite global outside [] piece names here e h = (here, [], h, refl, ap (λ ns. ns ++ here) e ∙ sym (append-nil here))
unbound_more definite global outside (first ∷ pieces) piece names here h k =
    (h.0, h.1 ++ here, h.2, unbound_more definite global outside pieces piece h.1 here h.3 k, ap (λ ns. ns ++ here) h.4 ∙ append_assoc h.0 h.1 here)

-- ---- one list

one_bound : (given : Names) (conjunction : List Mention) (x y : Names) → IsBound given conjunction x → IsBound given conjunction y → x ≡ y
one_bound given conjunction x y h k = same_names x y (h.least y k.given_ones k.closed) (k.least x h.given_ones h.closed)

one_unbound_of : (definite : Signature → Bool) (global outside : Names) (piece : Piece) (names others : List (List ℕ)) → AreUnboundOf definite global outside piece names → AreUnboundOf definite global outside piece others → names ≡ others
one_unbound_of definite global outside (Uses os) names others h k = h ∙ sym k
one_unbound_of definite global outside (Plain mention) names others h k = h ∙ sym k
one_unbound_of definite global outside (Value side inside mentioned) names others h k = h ∙ sym k
one_unbound_of definite global outside (Part os condition) names others h k =
    h.2 ∙ (ap (λ within. unbound_part within (bound_within global outside within) os condition) (one_bound global condition h.0 k.0 h.1 k.1) ∙ sym k.2)

one_unbound_among : (definite : Signature → Bool) (global outside : Names) (pieces : List Piece) (names others : List (List ℕ)) → AreUnboundAmong definite global outside pieces names → AreUnboundAmong definite global outside pieces others → names ≡ others
one_unbound_among definite global outside [] names others h k = h ∙ sym k
one_unbound_among definite global outside (piece ∷ pieces) names others h k =
    h.4 ∙ (ap₂ (λ x y. x ++ y) (one_unbound_of definite global outside piece h.0 k.0 h.2 k.2) (one_unbound_among definite global outside pieces h.1 k.1 h.3 k.3) ∙ sym k.4)

pub one_unbound : (definite : Signature → Bool) (pieces : List Piece) (names others : List (List ℕ)) → AreUnbound definite pieces names → AreUnbound definite pieces others → names ≡ others
one_unbound definite pieces names others h k =
    let same = one_bound no_names (flat_map (binders definite (globals pieces)) pieces) h.0 k.0 h.1 k.1 in
    one_unbound_among definite (globals pieces) k.0 pieces names others (subst (λ (outside : Names). AreUnboundAmong definite (globals pieces) outside pieces names) same h.2) k.2
