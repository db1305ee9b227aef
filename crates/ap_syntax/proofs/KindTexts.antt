-- The text of a type is its text.
use Rattle.std.proofs.Common.{◌≡◌, ℕ, ◌-◌, ◌==◌, List, [], ◌∷◌, ◌++◌, length, take, drop, not, refl, ap, ◌∙◌}
use Rattle.std.specs.List.{prefix_len}
use Rattle.std.proofs.lemmas.List.{append-nil, take-append-drop}
use Rattle.ap_syntax.specs.Pieces.{text_of}
use Rattle.ap_syntax.specs.CanonicalPreferences.{inner_pieces, kind_pieces}

inner_text : (bytes : List ℕ) → text_of (inner_pieces bytes) ≡ bytes
inner_text [] = refl
inner_text (paren ∷ rest) =
    let k = length rest - 1 in
    ap (λ ts. paren ∷ ts) (ap (λ ts. take k rest ++ ts) (append-nil (drop k rest)) ∙ take-append-drop k rest)

pub kind_text : (kind : List ℕ) → text_of (kind_pieces kind) ≡ kind
kind_text kind =
    let end = prefix_len (λ b. not (b == 40)) kind in
    ap (λ ts. take end kind ++ ts) (inner_text (drop end kind)) ∙ take-append-drop end kind
