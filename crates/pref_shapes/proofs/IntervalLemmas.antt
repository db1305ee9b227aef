-- Intervals by the form of a term and of a formula.
use Rattle.std.proofs.Common.{◌≡◌, refl, sym, ◌∙◌, ap, ℕ, ℤ, Bool, true, false, ◌||◌, List, [], ◌∷◌, map}
use Rattle.std.specs.List.{list_any}
use Rattle.ap_syntax.specs.declared.terms.Atom.{Atom}
use Rattle.ap_syntax.specs.declared.terms.Term.{Term, fold-roll-Term}
use Rattle.ap_syntax.specs.declared.terms.Term.TheVariants as terms
use Rattle.ap_syntax.specs.declared.terms.Term.TheOpen.{Term-F}
use Rattle.ap_syntax.specs.declared.terms.SumOp.{SumOp}
use Rattle.ap_syntax.specs.declared.terms.ProductOp.{ProductOp}
use Rattle.ap_syntax.specs.declared.preferences.Formula.{Formula, fold-roll-Formula}
use Rattle.ap_syntax.specs.declared.preferences.Formula.TheVariants as formulas
use Rattle.ap_syntax.specs.declared.preferences.Formula.TheOpen.{Formula-F}
use Rattle.pref_shapes.specs.Intervals.{some_of, term_step, has_interval, formula_step, formula_has_interval}

-- a test of the parts
some_map : {A : Type 0} (f : A → Bool) (xs : List A) → some_of (map f xs) ≡ list_any f xs
some_map f [] = refl
some_map f (x ∷ xs) = ap (λ b. f x || b) (some_map f xs)

-- ---- terms

pub of_int : (n : ℤ) → has_interval (terms.Int n) ≡ false
of_int n = ap has_interval (sym (terms.rolls-Int n)) ∙ fold-roll-Term Bool term_step (Term-F.Int n)

pub of_str : (text : List ℕ) → has_interval (terms.Str text) ≡ false
of_str text = ap has_interval (sym (terms.rolls-Str text)) ∙ fold-roll-Term Bool term_step (Term-F.Str text)

pub of_const : (name : List ℕ) → has_interval (terms.Const name) ≡ false
of_const name = ap has_interval (sym (terms.rolls-Const name)) ∙ fold-roll-Term Bool term_step (Term-F.Const name)

pub of_var : (name : List ℕ) → has_interval (terms.Var name) ≡ false
of_var name = ap has_interval (sym (terms.rolls-Var name)) ∙ fold-roll-Term Bool term_step (Term-F.Var name)

pub of_any : has_interval terms.Any ≡ false
of_any = ap has_interval (sym terms.rolls-Any) ∙ fold-roll-Term Bool term_step Term-F.Any

pub of_fun : (name : List ℕ) (ts : List Term) → has_interval (terms.Fun name ts) ≡ list_any has_interval ts
of_fun name ts = ap has_interval (sym (terms.rolls-Fun name ts)) ∙ (fold-roll-Term Bool term_step (Term-F.Fun name ts) ∙ some_map has_interval ts)

pub of_tuple : (ts : List Term) → has_interval (terms.Tuple ts) ≡ list_any has_interval ts
of_tuple ts = ap has_interval (sym (terms.rolls-Tuple ts)) ∙ (fold-roll-Term Bool term_step (Term-F.Tuple ts) ∙ some_map has_interval ts)

pub of_minus : (t : Term) → has_interval (terms.Minus t) ≡ has_interval t
of_minus t = ap has_interval (sym (terms.rolls-Minus t)) ∙ fold-roll-Term Bool term_step (Term-F.Minus t)

pub of_sum : (l : Term) (op : SumOp) (r : Term) → has_interval (terms.Sum l op r) ≡ (has_interval r || has_interval l)
of_sum l op r = ap has_interval (sym (terms.rolls-Sum l op r)) ∙ fold-roll-Term Bool term_step (Term-F.Sum l op r)

pub of_product : (l : Term) (op : ProductOp) (r : Term) → has_interval (terms.Product l op r) ≡ (has_interval r || has_interval l)
of_product l op r = ap has_interval (sym (terms.rolls-Product l op r)) ∙ fold-roll-Term Bool term_step (Term-F.Product l op r)

pub of_range : (l r : Term) → has_interval (terms.Range l r) ≡ true
of_range l r = ap has_interval (sym (terms.rolls-Range l r)) ∙ fold-roll-Term Bool term_step (Term-F.Range l r)

-- ---- formulas

pub of_atom : (atom : Atom) → formula_has_interval (formulas.Atom atom) ≡ list_any has_interval atom.terms
of_atom atom = ap formula_has_interval (sym (formulas.rolls-Atom atom)) ∙ fold-roll-Formula Bool formula_step (Formula-F.Atom atom)

pub of_not : (f : Formula) → formula_has_interval (formulas.Not f) ≡ formula_has_interval f
of_not f = ap formula_has_interval (sym (formulas.rolls-Not f)) ∙ fold-roll-Formula Bool formula_step (Formula-F.Not f)

pub of_and : (fs : List Formula) → formula_has_interval (formulas.And fs) ≡ list_any formula_has_interval fs
of_and fs = ap formula_has_interval (sym (formulas.rolls-And fs)) ∙ (fold-roll-Formula Bool formula_step (Formula-F.And fs) ∙ some_map formula_has_interval fs)

pub of_or : (fs : List Formula) → formula_has_interval (formulas.Or fs) ≡ list_any formula_has_interval fs
of_or fs = ap formula_has_interval (sym (formulas.rolls-Or fs)) ∙ (fold-roll-Formula Bool formula_step (Formula-F.Or fs) ∙ some_map formula_has_interval fs)
