-- Where two lists of ids differ first.
use Rattle.std.specs.Prelude.{◌≡◌, ◌≢◌, ◌∷◌, ◌++◌, List}
use Rattle.ap_term.specs.declared.shape.TermId.{TermId}

-- after a common front, one goes on with x and the other with y
pub record DifferFirstAt (xs ys : List TermId) (x y : TermId) : Type 0 where
  pub front : List TermId
  pub xs_rest : List TermId
  pub ys_rest : List TermId
  pub xs_is : xs ≡ front ++ x ∷ xs_rest
  pub ys_is : ys ≡ front ++ y ∷ ys_rest
  pub differ : x ≢ y
