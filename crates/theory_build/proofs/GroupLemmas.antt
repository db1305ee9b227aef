-- The pieces of tuples, guards and groups, put together.
use Rattle.std.proofs.Common.{◌≡◌, ℕ, ◌+◌, ◌<◌, ℤ, Bool, List, [], ◌∷◌, ◌++◌, length, take, get_or, refl, sym, ◌∙◌, ap, subst, arith, Option, Some, None}
use Rattle.std.specs.List.{filter_map, cons_option, enumerate_from}
use Rattle.std.proofs.lemmas.List.Elements.{filter_map-append}
use Rattle.std.specs.Option.{option_map}
use Rattle.theory_form.specs.declared.literals.Lit.{Lit}
use Rattle.theory_form.specs.declared.literals.Var.{Var}
use Rattle.ground_form.specs.declared.groups.Group.{Group}
use Rattle.ground_form.specs.declared.groups.GroupRow.{GroupRow}
use Rattle.ground_form.specs.Programs.{Parts}
use Rattle.theory_build.specs.declared.drafts.Draft.{Draft}
use Rattle.theory_build.specs.declared.entries.Entry.{Entry}
use Rattle.theory_build.specs.declared.frames.Frame.{Frame}
use Rattle.theory_build.specs.Entries.{any_of}
use Rattle.theory_build.specs.Drafts.{IsLonger, Adds, AddsTerms, next_of}
use Rattle.theory_build.specs.Pieces.{Piece, in_turn}
use Rattle.theory_build.specs.Groups.{Guards, condition_piece, row_piece, guard_piece, both_piece, group_piece, group_piece_at, needs_both}
use Rattle.theory_build.proofs.PieceLemmas.{longer_more, next_after, adds_more, adds_in_turn}
use Rattle.theory_build.proofs.ListLemmas.{enumerate_more}

-- behind its conditions the variable of a tuple
pub row_added : (p : Frame) (d e g : Draft) (row : GroupRow) (conditions : List (List ℤ)) (names lits : List Lit) (t : ℕ) (entry : Entry) (name : Option (ℤ × Var)) → Adds d e (in_turn (condition_piece p) (next_of d) conditions) names → conditions ≡ row.conditions → t ≡ next_of e → entry ≡ any_of t lits → lits ≡ names → IsLonger e g (entry ∷ []) → name ≡ option_map (λ w. (w, record { 0 = t })) row.weight → Adds d g (row_piece p (next_of d) row) name
unfolding row_piece
row_added p d e g row conditions names lits t entry name a conditions_are t_is entry_is lits_are b name_is =
    let piece = in_turn (condition_piece p) (next_of d) row.conditions in
    let first = subst (λ cs. Adds d e (in_turn (condition_piece p) (next_of d) cs) names) conditions_are a in
    let at : t ≡ next_of d + length piece.entries = t_is ∙ next_after d e piece.entries first.longer in
    let tuple : entry ≡ any_of (next_of d + length piece.entries) piece.name =
    entry_is ∙ ap (λ v. any_of v lits) at ∙ ap (any_of (next_of d + length piece.entries)) (lits_are ∙ first.name_is)
    in
    record {
      longer = longer_more d e g piece.entries (any_of (next_of d + length piece.entries) piece.name ∷ []) first.longer (subst (λ x. IsLonger e g (x ∷ [])) tuple b);
      name_is = name_is ∙ ap (λ v. option_map (λ (w : ℤ). (w, record { 0 = v })) row.weight) at;
    }

-- a term, if there is one
abbrev pub shown : Option (ℤ × Var) → List (ℤ × Var)
shown None = []
shown (Some term) = term ∷ []

shown_by : (term : Option (ℤ × Var)) → cons_option term [] ≡ shown term
shown_by None = refl
shown_by (Some term) = refl

-- one tuple more
pub rows_more : (p : Frame) (d e g : Draft) (rows : List GroupRow) (i : ℕ) (row : GroupRow) (terms more : List (ℤ × Var)) (name : Option (ℤ × Var)) → i < length rows → row ≡ get_or rows i row → AddsTerms d e (in_turn (row_piece p) (next_of d) (take i rows)) terms → Adds e g (row_piece p (next_of e) row) name → more ≡ terms ++ shown name → AddsTerms d g (in_turn (row_piece p) (next_of d) (take (i + 1) rows)) more
rows_more p d e g rows i row terms more name within at a b more_is =
    let piece = in_turn (row_piece p) (next_of d) (take i rows) in
    let all = adds_more (row_piece p) d e g rows i row piece.name name within at (record { longer = a.longer; name_is = refl }) b in
    let id : Option (ℤ × Var) → Option (ℤ × Var) = λ term. term in
    record {
      longer = all.longer;
      terms_are =
          more_is
          ∙ ap (λ ts. ts ++ shown name) a.terms_are
          ∙ ap (λ ts. filter_map id piece.name ++ ts) (sym (shown_by name))
          ∙ sym (filter_map-append id piece.name (name ∷ []))
          ∙ ap (filter_map id) all.name_is;
    }

-- a piece at the same place, of the same things
adds_at : {A N : Type 0} (f : A → ℕ → Piece N) (d e : Draft) (x y : A) (v : ℕ) (name : N) → x ≡ y → next_of d ≡ v → Adds d e (f x (next_of d)) name → Adds d e (f y v) name
adds_at f d e x y v name same at a =
    subst (λ z. Adds d e (f z v) name) same (subst (λ w. Adds d e (f x w) name) at a)

-- the tuples of a group, its guards and both
pub group_added : (p : Frame) (needed : Bool) (group : Group) (rows : List GroupRow) (c d e f g : Draft) (terms : List (ℤ × Var)) (left right both : Lit) → AddsTerms c d (in_turn (row_piece p) (next_of c) rows) terms → rows ≡ group.rows → Adds d e (guard_piece p.truth terms (next_of d) group.left) left → Adds e f (guard_piece p.truth terms (next_of e) group.right) right → Adds f g (both_piece p.truth needed (next_of f) left right) both → Adds c g (group_piece p needed (next_of c) group) (record { left = left; right = right; both = both })
unfolding group_piece
group_added p needed group rows c d e f g terms left right both rows_added rows_are left_added right_added both_added =
    let v = next_of c in
    let R = in_turn (row_piece p) v group.rows in
    let R_added = subst (λ rs. AddsTerms c d (in_turn (row_piece p) v rs) terms) rows_are rows_added in
    let T = filter_map (λ (term : Option (ℤ × Var)). term) R.name in
    let left_from = v + length R.entries in
    let L = guard_piece p.truth T left_from group.left in
    let L_added = adds_at (λ ts w. guard_piece p.truth ts w group.left) d e terms T left_from left R_added.terms_are (next_after c d R.entries R_added.longer) left_added in
    let right_from = left_from + length L.entries in
    let at_right : next_of e ≡ right_from = next_after d e L.entries L_added.longer ∙ ap (λ n. n + length L.entries) (next_after c d R.entries R_added.longer) in
    let G = guard_piece p.truth T right_from group.right in
    let G_added = adds_at (λ ts w. guard_piece p.truth ts w group.right) e f terms T right_from right R_added.terms_are at_right right_added in
    let both_from = right_from + length G.entries in
    let at_both : next_of f ≡ both_from = next_after e f G.entries G_added.longer ∙ ap (λ n. n + length G.entries) at_right in
    let B = both_piece p.truth needed both_from L.name G.name in
    let B_left = adds_at (λ l w. both_piece p.truth needed w l right) f g left L.name both_from both L_added.name_is at_both both_added in
    let B_added = subst (λ r. Adds f g (both_piece p.truth needed both_from L.name r) both) G_added.name_is B_left in
    let right_both = longer_more e f g G.entries B.entries G_added.longer B_added.longer in
    let guards = longer_more d e g L.entries (G.entries ++ B.entries) L_added.longer right_both in
    record {
      longer = longer_more c d g R.entries (L.entries ++ (G.entries ++ B.entries)) R_added.longer guards;
      name_is = λ i. record { left = L_added.name_is i; right = G_added.name_is i; both = B_added.name_is i };
    }

-- one group more
pub group_more : (p : Frame) (program : Parts) (d e g : Draft) (groups : List Group) (i : ℕ) (group : Group) (needed : Bool) (guards : List Guards) (literals : Guards) → i < length groups → group ≡ get_or groups i group → needed ≡ needs_both program (i + 1) → Adds d e (in_turn (group_piece_at p program) (next_of d) (enumerate_from 1 (take i groups))) guards → Adds e g (group_piece p needed (next_of e) group) literals → Adds d g (in_turn (group_piece_at p program) (next_of d) (enumerate_from 1 (take (i + 1) groups))) (guards ++ literals ∷ [])
group_more p program d e g groups i group needed guards literals within at needed_is a b =
    let number : i + 1 ≡ 1 + i = omega arith in
    let b' = subst (λ n. Adds e g (group_piece p n (next_of e) group) literals) (needed_is ∙ ap (needs_both program) number) b in
    subst (λ ys. Adds d g (in_turn (group_piece_at p program) (next_of d) ys) (guards ++ literals ∷ [])) (sym (enumerate_more 1 groups i group within at))
    (adds_in_turn (group_piece_at p program) d e g (enumerate_from 1 (take i groups)) (1 + i, group) guards literals a b')
