-- What is printed of the optimal sets that were found.
use Rattle.std.specs.Prelude.{◌≡◌, ℕ, ◌≤◌, List, [], length, if◌then◌else◌}
use Rattle.std.specs.List.{filter}
use Rattle.ap_syntax.specs.declared.programs.Statement.{Statement}
use Rattle.small_front.specs.Accepts.{AreAccepted}
use Rattle.small_front.specs.Forms.{small_of}
use Rattle.small_front.specs.Shows.{is_kept, is_shown}
use Rattle.small_front.specs.declared.shown.Shown.{Shown}
use Rattle.small_optima.specs.Atoms.{atom_count}
use Rattle.small_optima.specs.Optima.{AreOptima}
use Rattle.small_optima.specs.declared.optima.Optima.{Optima}
use Rattle.small_optima.specs.declared.optima.Optima.TheVariants.{Unsatisfiable, Listing}
use Rattle.asprin_cli.specs.Lines.{atom_text, set_line}
use Rattle.asprin_cli.specs.declared.end.End.{End}
use Rattle.asprin_cli.specs.declared.end.End.TheVariants as ends
use Rattle.asprin_cli.specs.declared.found.Found.{Found}

-- the sets that are listed
abbrev pub sets_in : Optima → List (List (List ℕ))
sets_in Unsatisfiable = []
sets_in (Listing sets) = sets.items

-- how the run ends behind them
abbrev pub end_of : Optima → End
end_of Unsatisfiable = ends.Unsatisfiable
end_of (Listing sets) = ends.Done (length sets.items)

-- the atoms of a set that are shown
abbrev pub kept_of : Shown → List (List ℕ) → List (List ℕ)
kept_of shown set = filter (is_kept shown) set

-- what stands in the line of a set for an atom
abbrev pub kept_text : Shown → List ℕ → List ℕ
kept_text shown name = if is_kept shown name then atom_text name else []

-- the line of a set, with the atoms that are shown
abbrev pub kept_line : Shown → ℕ → List (List ℕ) → List ℕ
kept_line shown number set = set_line number (kept_of shown set)

-- these are the optima of the program that the texts of the files are accepted as, which has few enough atoms, and
-- what is shown
pub record AreOptimaOf (files : List (List ℕ)) (found : Found) : Type 0 where
  pub statements : List Statement
  pub accepted : AreAccepted files statements
  pub few : atom_count (small_of statements) ≤ 12
  pub optima_are : AreOptima (small_of statements) found.optima
  pub shown_are : (name : List ℕ) → is_kept found.shown name ≡ is_shown statements name
