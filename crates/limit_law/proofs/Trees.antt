-- The depth of a formula by its outermost sign.
use Rattle.std.proofs.Common.{◌≡◌, ℕ, ◌+◌, List, [], ◌∷◌, map, refl, sym, ap, ◌∙◌}
use Rattle.ap_syntax.specs.declared.terms.Atom.{Atom}
use Rattle.ap_syntax.specs.declared.preferences.Formula.{Formula, fold-roll-Formula}
use Rattle.ap_syntax.specs.declared.preferences.Formula.TheVariants as formulas
use Rattle.ap_syntax.specs.declared.preferences.Formula.TheOpen.{Formula-F}
use Rattle.ap_grammar.specs.Grammar.{conjunction_of, disjunction_of}
use Rattle.limit_law.specs.Depths.{chain_depth, depth, depth_step}

pub of_atom : (a : Atom) → depth (formulas.Atom a) ≡ 1
of_atom a = ap depth (sym (formulas.rolls-Atom a)) ∙ fold-roll-Formula ℕ depth_step (Formula-F.Atom a)

pub of_not : (f : Formula) → depth (formulas.Not f) ≡ depth f + 1
of_not f = ap depth (sym (formulas.rolls-Not f)) ∙ fold-roll-Formula ℕ depth_step (Formula-F.Not f)

of_and : (fs : List Formula) → depth (formulas.And fs) ≡ chain_depth (map depth fs)
of_and fs = ap depth (sym (formulas.rolls-And fs)) ∙ fold-roll-Formula ℕ depth_step (Formula-F.And fs)

of_or : (fs : List Formula) → depth (formulas.Or fs) ≡ chain_depth (map depth fs)
of_or fs = ap depth (sym (formulas.rolls-Or fs)) ∙ fold-roll-Formula ℕ depth_step (Formula-F.Or fs)

-- a member alone is a chain of one
pub of_conjunction : (f : Formula) (fs : List Formula) → depth (conjunction_of (f ∷ fs)) ≡ chain_depth (depth f ∷ map depth fs)
of_conjunction f [] = refl
of_conjunction f (g ∷ fs) = of_and (f ∷ g ∷ fs)

pub of_disjunction : (f : Formula) (fs : List Formula) → depth (disjunction_of (f ∷ fs)) ≡ chain_depth (depth f ∷ map depth fs)
of_disjunction f [] = refl
of_disjunction f (g ∷ fs) = of_or (f ∷ g ∷ fs)

-- `a & b & not (c | d)`
example : (a b c d : Atom) → depth (formulas.And (formulas.Atom a ∷ formulas.Atom b ∷ formulas.Not (formulas.Or (formulas.Atom c ∷ formulas.Atom d ∷ [])) ∷ [])) ≡ 4
example a b c d = simp (of_and, of_not, of_or, of_atom) refl
