-- Texts of pieces in turn, and of lists with something between the members.
use Rattle.std.proofs.Common.{◌≡◌, ℕ, List, [], ◌∷◌, ◌++◌, refl, sym, ap, ◌∙◌, append_assoc}
use Rattle.std.specs.Prelude.{codes}
use Rattle.std.specs.List.{flat_map}
use Rattle.std.proofs.lemmas.List.{append-nil}
use Rattle.std.proofs.lemmas.Grind.{flat_map-append}
use Rattle.ap_syntax.specs.declared.programs.Statement.{Statement}
use Rattle.ap_syntax.specs.declared.rules.BodyItem.{BodyItem}
use Rattle.ap_syntax.specs.Pieces.{Piece, bytes_of, parted, text_of}
use Rattle.ap_syntax.specs.CanonicalRules.{body_pieces, item_pieces, separator}
use Rattle.ap_syntax.specs.Canonical.{line_pieces, statement_pieces}

pub text_append : (xs ys : List Piece) → text_of (xs ++ ys) ≡ text_of xs ++ text_of ys
text_append xs ys = flat_map-append bytes_of xs ys

-- one after another
pub text_append3 : (xs ys zs : List Piece) → text_of (xs ++ ys ++ zs) ≡ text_of xs ++ (text_of ys ++ text_of zs)
text_append3 xs ys zs = text_append (xs ++ ys) zs ∙ ap (λ ts. ts ++ text_of zs) (text_append xs ys) ∙ append_assoc (text_of xs) (text_of ys) (text_of zs)

-- ---- with the same between all members

-- the members that are left, the first of them behind `front`
abbrev pub joined : List ℕ → List ℕ → List (List Piece) → List ℕ
joined front between [] = []
joined front between (x ∷ xs) = front ++ (text_of x ++ joined between between xs)

joined_behind : (between x : List Piece) (xs : List (List Piece)) (front : List ℕ) → joined front (text_of between) (x ∷ xs) ≡ front ++ text_of (parted between (x ∷ xs))
joined_behind between x [] front = ap (λ ts. front ++ ts) (append-nil (text_of x))
joined_behind between x (y ∷ ys) front =
    ap (λ ts. front ++ (text_of x ++ ts)) (joined_behind between y ys (text_of between))
    ∙ ap (λ ts. front ++ ts) (sym (text_append3 x between (parted between (y ∷ ys))))

pub joined_parted : (between : List Piece) (xs : List (List Piece)) → joined [] (text_of between) xs ≡ text_of (parted between xs)
joined_parted between [] = refl
joined_parted between (x ∷ xs) = joined_behind between x xs []

-- ---- with what each part of a body wants behind it

abbrev pub joined_body : List ℕ → List BodyItem → List ℕ
joined_body front [] = []
joined_body front (item ∷ items) = front ++ (text_of (item_pieces item) ++ joined_body (text_of (separator item)) items)

body_behind : (item : BodyItem) (items : List BodyItem) (front : List ℕ) → joined_body front (item ∷ items) ≡ front ++ text_of (body_pieces (item ∷ items))
body_behind item [] front = ap (λ ts. front ++ ts) (append-nil (text_of (item_pieces item)))
body_behind item (next ∷ items) front =
    ap (λ ts. front ++ (text_of (item_pieces item) ++ ts)) (body_behind next items (text_of (separator item)))
    ∙ ap (λ ts. front ++ ts) (sym (text_append3 (item_pieces item) (separator item) (body_pieces (next ∷ items))))

pub joined_body_pieces : (items : List BodyItem) → joined_body [] items ≡ text_of (body_pieces items)
joined_body_pieces [] = refl
joined_body_pieces (item ∷ items) = body_behind item items []

-- ---- lines

abbrev pub joined_lines : List Statement → List ℕ
joined_lines [] = []
joined_lines (statement ∷ rest) = text_of (statement_pieces statement) ++ (codes "\n" ++ joined_lines rest)

pub joined_lines_text : (statements : List Statement) → joined_lines statements ≡ text_of (flat_map line_pieces statements)
joined_lines_text [] = refl
joined_lines_text (statement ∷ rest) =
    ap (λ ts. text_of (statement_pieces statement) ++ (codes "\n" ++ ts)) (joined_lines_text rest)
    ∙ sym (text_append (line_pieces statement) (flat_map line_pieces rest)
    ∙ ap (λ ts. ts ++ text_of (flat_map line_pieces rest)) (text_append (statement_pieces statement) (Piece.LineFeed ∷ []))
    ∙ append_assoc (text_of (statement_pieces statement)) (codes "\n") (text_of (flat_map line_pieces rest)))
