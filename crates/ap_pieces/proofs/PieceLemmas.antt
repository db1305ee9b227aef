-- The sides of comparisons, by the form of the term.
use Rattle.std.proofs.Common.{◌≡◌, refl, sym, ◌∙◌, ap, List, ℕ}
use Rattle.ap_syntax.specs.declared.terms.Term.{Term, out-Term, roll-Term, roll-out-Term}
use Rattle.ap_syntax.specs.declared.terms.Term.TheVariants as terms
use Rattle.ap_syntax.specs.declared.terms.Term.TheOpen.{Term-F}
use Rattle.ap_pieces.specs.declared.pieces.Side.TheVariants.{Variable, Any, Compound}
use Rattle.ap_pieces.specs.Variables.{occurrences}
use denote.Hole.Carrier.{out}
use Rattle.ap_pieces.specs.Pieces.{side_of, side_form}

pub side_of_variable : (name : List ℕ) → side_of (terms.Var name) ≡ Variable name
unfolding out-Term out
side_of_variable name = refl

pub side_of_any : side_of terms.Any ≡ Any
unfolding out-Term out
side_of_any = refl

pub side_of_other : (t : Term) → ((name : List ℕ) → t ≡ terms.Var name → ⊥) → (t ≡ terms.Any → ⊥) → side_of t ≡ Compound (occurrences t)
side_of_other t h k = by (out-Term t) refl
  where
    by : (form : Term-F Term) → out-Term t ≡ form → side_form t form ≡ Compound (occurrences t)
    by (Term-F.Int number) e = refl
    by (Term-F.Str text) e = refl
    by (Term-F.Const name) e = refl
    by (Term-F.Var name) e = absurd (h name (sym (roll-out-Term t) ∙ (ap roll-Term e ∙ terms.rolls-Var name)))
    by Term-F.Any e = absurd (k (sym (roll-out-Term t) ∙ (ap roll-Term e ∙ terms.rolls-Any)))
    by (Term-F.Fun name parts) e = refl
    by (Term-F.Tuple parts) e = refl
    by (Term-F.Minus part) e = refl
    by (Term-F.Sum left op right) e = refl
    by (Term-F.Product left op right) e = refl
    by (Term-F.Range low high) e = refl
