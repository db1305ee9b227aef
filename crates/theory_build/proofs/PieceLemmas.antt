-- Pieces in a row, and the drafts that they make longer.
use Rattle.std.proofs.Common.{◌≡◌, ℕ, ◌+◌, ◌<◌, List, [], ◌∷◌, ◌++◌, length, take, get_or, refl, sym, ◌∙◌, ap, subst, arith, append_assoc, append-nil, length-append}
use Rattle.std.proofs.lemmas.List.{take_more}
use Rattle.theory_build.specs.declared.drafts.Draft.{Draft}
use Rattle.theory_build.specs.declared.entries.Entry.{Entry}
use Rattle.theory_build.specs.Drafts.{IsLonger, Adds, next_of}
use Rattle.theory_build.specs.Pieces.{Piece, in_turn, then_pieces, no_piece, one_piece}

-- ---- drafts

pub longer_itself : (d : Draft) → IsLonger d d []
longer_itself d = record { from = refl; entries = sym (append-nil d.entries.items) }

pub longer_more : (d e f : Draft) (xs ys : List Entry) → IsLonger d e xs → IsLonger e f ys → IsLonger d f (xs ++ ys)
longer_more d e f xs ys a b =
    record { from = b.from ∙ a.from; entries = b.entries ∙ ap (λ es. es ++ ys) a.entries ∙ append_assoc d.entries.items xs ys }

pub next_after : (d e : Draft) (xs : List Entry) → IsLonger d e xs → next_of e ≡ next_of d + length xs
next_after d e xs a =
    let n : length e.entries.items ≡ length d.entries.items + length xs = ap length a.entries ∙ length-append d.entries.items xs in
    let f = a.from in
    omega arith

-- ---- pieces in a row

-- one part more, behind the others
pub in_turn_more_entries : {A N : Type 0} (f : ℕ → A → Piece N) (v : ℕ) (xs : List A) (x : A) → (in_turn f v (xs ++ x ∷ [])).entries ≡ (in_turn f v xs).entries ++ (f (v + length (in_turn f v xs).entries) x).entries
in_turn_more_entries f v [] x =
    let e : v + 0 ≡ v = omega arith in
    append-nil (f v x).entries ∙ ap (λ w. (f w x).entries) (sym e)
in_turn_more_entries f v (y ∷ xs) x =
    let first = (f v y).entries in
    let rest = (in_turn f (v + length first) xs).entries in
    let n : v + length first + length rest ≡ v + length (first ++ rest) = let m = length-append first rest in omega arith in
    ap (λ es. first ++ es) (in_turn_more_entries f (v + length first) xs x)
    ∙ sym (append_assoc first rest (f (v + length first + length rest) x).entries)
    ∙ ap (λ w. (first ++ rest) ++ (f w x).entries) n

pub in_turn_more_names : {A N : Type 0} (f : ℕ → A → Piece N) (v : ℕ) (xs : List A) (x : A) → (in_turn f v (xs ++ x ∷ [])).name ≡ (in_turn f v xs).name ++ (f (v + length (in_turn f v xs).entries) x).name ∷ []
in_turn_more_names f v [] x =
    let e : v + 0 ≡ v = omega arith in
    ap (λ w. (f w x).name ∷ []) (sym e)
in_turn_more_names f v (y ∷ xs) x =
    let first = (f v y).entries in
    let rest = (in_turn f (v + length first) xs).entries in
    let n : v + length first + length rest ≡ v + length (first ++ rest) = let m = length-append first rest in omega arith in
    ap (λ names. (f v y).name ∷ names) (in_turn_more_names f (v + length first) xs x)
    ∙ ap (λ w. ((f v y).name ∷ (in_turn f (v + length first) xs).name) ++ (f w x).name ∷ []) n

-- the draft after one part more
pub longer_in_turn : {A N : Type 0} (f : ℕ → A → Piece N) (d e g : Draft) (xs : List A) (x : A) → IsLonger d e (in_turn f (next_of d) xs).entries → IsLonger e g (f (next_of e) x).entries → IsLonger d g (in_turn f (next_of d) (xs ++ x ∷ [])).entries
longer_in_turn f d e g xs x a b =
    let es = (in_turn f (next_of d) xs).entries in
    let b' : IsLonger e g (f (next_of d + length es) x).entries = subst (λ w. IsLonger e g (f w x).entries) (next_after d e es a) b in
    subst (IsLonger d g) (sym (in_turn_more_entries f (next_of d) xs x)) (longer_more d e g es (f (next_of d + length es) x).entries a b')

pub adds_in_turn : {A N : Type 0} (f : ℕ → A → Piece N) (d e g : Draft) (xs : List A) (x : A) (names : List N) (name : N) → Adds d e (in_turn f (next_of d) xs) names → Adds e g (f (next_of e) x) name → Adds d g (in_turn f (next_of d) (xs ++ x ∷ [])) (names ++ name ∷ [])
adds_in_turn f d e g xs x names name a b =
    let es = (in_turn f (next_of d) xs).entries in
    record {
      longer = longer_in_turn f d e g xs x a.longer b.longer;
      name_is =
          ap (λ ns. ns ++ name ∷ []) a.name_is
          ∙ ap (λ n. (in_turn f (next_of d) xs).name ++ n ∷ []) (b.name_is ∙ ap (λ w. (f w x).name) (next_after d e es a.longer))
          ∙ sym (in_turn_more_names f (next_of d) xs x);
    }

-- the same in a loop over the parts
pub adds_more : {A N : Type 0} (f : ℕ → A → Piece N) (d e g : Draft) (xs : List A) (i : ℕ) (x : A) (names : List N) (name : N) → i < length xs → x ≡ get_or xs i x → Adds d e (in_turn f (next_of d) (take i xs)) names → Adds e g (f (next_of e) x) name → Adds d g (in_turn f (next_of d) (take (i + 1) xs)) (names ++ name ∷ [])
adds_more f d e g xs i x names name within at a b =
    let m : take (i + 1) xs ≡ take i xs ++ x ∷ [] = take_more xs i x within ∙ ap (λ y. take i xs ++ y ∷ []) (sym at) in
    subst (λ ys. Adds d g (in_turn f (next_of d) ys) (names ++ name ∷ [])) (sym m) (adds_in_turn f d e g (take i xs) x names name a b)
