-- The atoms that are shown.
use Rattle.std.proofs.Common.{◌≡◌, ℕ, ◌+◌, ◌≤◌, Bool, true, false, cond, List, [], ◌∷◌, ◌++◌, map, refl, ap, inr}
use Rattle.std.specs.List.{filter, flat_map}
use Rattle.std.proofs.Math.Path.{fun_ext}
use Rattle.ap_base.specs.Fronts.{TookFront}
use Rattle.ap_base.specs.declared.status.Status.{Status}
use Rattle.ap_syntax.specs.declared.programs.Statement.{Statement}
use Rattle.small_front.specs.Accepts.{AreAccepted}
use Rattle.small_front.specs.Forms.{small_of}
use Rattle.small_front.specs.Shows.{is_kept, is_shown}
use Rattle.small_front.specs.declared.shown.Shown.{Shown}
use Rattle.small_optima.specs.Atoms.{atom_count}
use Rattle.small_optima.specs.Optima.{AreOptima}
use Rattle.small_optima.specs.declared.optima.Optima.{Optima}
use Rattle.small_optima.specs.declared.optima.Optima.TheVariants.{Unsatisfiable, Listing}
use Rattle.asprin_cli.specs.Lines.{atom_text, numbered, set_line, status_of, text_of}
use Rattle.asprin_cli.specs.Listed.{AreOptimaOf, end_of, kept_line, kept_of, kept_text, sets_in}
use Rattle.asprin_cli.specs.Outcomes.{IsStatusOf, TextsEnd, TookPart, TookWhole, shown_of}
use Rattle.asprin_cli.specs.declared.found.Found.{Found}

-- what is left out leaves nothing, or what is left is gone over alone
one_left : (text : List ℕ → List ℕ) (b : Bool) (name : List ℕ) (whole : List ℕ) (left : List (List ℕ)) → whole ≡ flat_map text left
    → cond b (text name) [] ++ whole ≡ flat_map text (cond b (name ∷ left) left)
one_left text true name whole left is = ap (λ t. text name ++ t) is
one_left text false name whole left is = is

all_left : (text : List ℕ → List ℕ) (p : List ℕ → Bool) (names : List (List ℕ))
    → flat_map (λ name. cond (p name) (text name) []) names ≡ flat_map text (filter p names)
all_left text p [] = refl
all_left text p (name ∷ names) = one_left text (p name) name _ (filter p names) (all_left text p names)

-- the atoms that are shown, one by one
pub kept_texts : (shown : Shown) (set : List (List ℕ)) → flat_map (kept_text shown) set ≡ flat_map atom_text (kept_of shown set)
kept_texts shown set = all_left atom_text (is_kept shown) set

-- the lines of what is made of the members of a list
numbered_map : {A B : Type 0} (line : ℕ → B → List ℕ) (f : A → B) (n : ℕ) (xs : List A)
    → numbered line n (map f xs) ≡ numbered (λ m x. line m (f x)) n xs
numbered_map line f n [] = refl
numbered_map line f n (x ∷ xs) = ap (λ t. line n (f x) ++ t) (numbered_map line f (n + 1) xs)

-- the lines of the sets, with the atoms that are shown
pub kept_lines : (shown : Shown) (n : ℕ) (sets : List (List (List ℕ))) → numbered set_line n (map (kept_of shown) sets) ≡ numbered (kept_line shown) n sets
kept_lines shown n sets = numbered_map set_line (kept_of shown) n sets

-- the optima that were found are listed with the atoms that are shown
module _ (files : List (List ℕ)) (statements : List Statement) (shown : Shown)
    (shown_are : (name : List ℕ) → is_kept shown name ≡ is_shown statements name) where
  same_shown : (sets : List (List (List ℕ))) → map (kept_of shown) sets ≡ map (shown_of statements) sets
  same_shown sets = ap (λ (p : List ℕ → Bool). map (filter p) sets) (fun_ext shown_are)

  pub listed : (optima : Optima) → AreAccepted files statements → atom_count (small_of statements) ≤ 12 → AreOptima (small_of statements) optima
      → TextsEnd files (map (kept_of shown) (sets_in optima)) (end_of optima)
  listed Unsatisfiable accepted few none =
      record { statements = statements; accepted = accepted; few = few; sets = []; listed = (refl, none); shown = refl }
  listed (Listing sets) accepted few are =
      record { statements = statements; accepted = accepted; few = few; sets = sets.items; listed = (are.0, refl, are.1); shown = same_shown sets.items }

-- the whole text of what was found was taken
pub found_whole : (files : List (List ℕ)) (found : Found) (status : Status) (old new : List ℕ) → AreOptimaOf files found → status ≡ status_of (end_of found.optima)
    → new ≡ old ++ text_of (map (kept_of found.shown) (sets_in found.optima)) (end_of found.optima) → TookWhole (TextsEnd files) status old new
found_whole files found status old new are named after =
    record {
      printed = map (kept_of found.shown) (sets_in found.optima);
      end = end_of found.optima;
      may = listed files are.statements found.shown are.shown_are found.optima are.accepted are.few are.optima_are;
      named = named;
      text = after;
    }

-- the status is its own
pub found_named : (files : List (List ℕ)) (found : Found) (status : Status) → AreOptimaOf files found → status ≡ status_of (end_of found.optima)
    → IsStatusOf (TextsEnd files) status
found_named files found status are named = (
  map (kept_of found.shown) (sets_in found.optima),
  end_of found.optima,
  listed files are.statements found.shown are.shown_are found.optima are.accepted are.few are.optima_are,
  named,
)

-- a front of it was taken
pub found_part : (files : List (List ℕ)) (found : Found) (old new : List ℕ) → AreOptimaOf files found
    → TookFront old new (text_of (map (kept_of found.shown) (sets_in found.optima)) (end_of found.optima)) → TookPart (TextsEnd files) old new
found_part files found old new are front =
    inr (record {
      printed = map (kept_of found.shown) (sets_in found.optima);
      end = end_of found.optima;
      may = listed files are.statements found.shown are.shown_are found.optima are.accepted are.few are.optima_are;
      text = front;
    })
