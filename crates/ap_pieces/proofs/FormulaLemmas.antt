-- The occurrences in the parts of a formula.
use Rattle.std.proofs.Common.{◌≡◌, refl, sym, ◌∙◌, ap, List, [], ◌∷◌, ◌++◌, map}
use Rattle.std.specs.Prelude.{flat_map}
use Rattle.ap_syntax.specs.declared.terms.Atom.{Atom}
use Rattle.ap_syntax.specs.declared.preferences.Formula.{Formula, fold-roll-Formula}
use Rattle.ap_syntax.specs.declared.preferences.Formula.TheVariants as formulas
use Rattle.ap_syntax.specs.declared.preferences.Formula.TheOpen.{Formula-F}
use Rattle.ap_pieces.specs.declared.variables.Occurrence.{Occurrence}
use Rattle.ap_pieces.specs.Variables.{joined, occurrences_of}
use Rattle.ap_pieces.specs.Pieces.{formula_step, formula_occurrences}

joined_formulas : (fs : List Formula) → joined (map formula_occurrences fs) ≡ flat_map formula_occurrences fs
joined_formulas [] = refl
joined_formulas (f ∷ fs) = ap (λ os. formula_occurrences f ++ os) (joined_formulas fs)

pub of_atom : (atom : Atom) → formula_occurrences (formulas.Atom atom) ≡ occurrences_of atom.terms
of_atom atom = ap formula_occurrences (sym (formulas.rolls-Atom atom)) ∙ fold-roll-Formula (List Occurrence) formula_step (Formula-F.Atom atom)

pub of_not : (f : Formula) → formula_occurrences (formulas.Not f) ≡ formula_occurrences f
of_not f = ap formula_occurrences (sym (formulas.rolls-Not f)) ∙ fold-roll-Formula (List Occurrence) formula_step (Formula-F.Not f)

pub of_and : (fs : List Formula) → formula_occurrences (formulas.And fs) ≡ flat_map formula_occurrences fs
of_and fs = ap formula_occurrences (sym (formulas.rolls-And fs)) ∙ (fold-roll-Formula (List Occurrence) formula_step (Formula-F.And fs) ∙ joined_formulas fs)

pub of_or : (fs : List Formula) → formula_occurrences (formulas.Or fs) ≡ flat_map formula_occurrences fs
of_or fs = ap formula_occurrences (sym (formulas.rolls-Or fs)) ∙ (fold-roll-Formula (List Occurrence) formula_step (Formula-F.Or fs) ∙ joined_formulas fs)
