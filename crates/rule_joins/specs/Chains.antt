-- Chains of operations along their first operands, as `1 + 2 + 3`.
use Rattle.std.specs.Prelude.{◌≡◌, List, [], ◌∷◌}
use Rattle.ap_syntax.specs.declared.terms.Term.{Term, out-Term}
use Rattle.ap_syntax.specs.declared.terms.Term.TheOpen.{Term-F}

abbrev pub first_in : Term → Term-F Term → Term
first_in term (Term-F.Int number) = term
first_in term (Term-F.Str text) = term
first_in term (Term-F.Const name) = term
first_in term (Term-F.Var name) = term
first_in term Term-F.Any = term
first_in term (Term-F.Fun name parts) = term
first_in term (Term-F.Tuple parts) = term
first_in term (Term-F.Minus part) = part
first_in term (Term-F.Sum left op right) = left
first_in term (Term-F.Product left op right) = left
first_in term (Term-F.Range low high) = low

-- the first operand of an operation or an interval; any other term is its own
abbrev pub first_of : Term → Term
first_of term = first_in term (out-Term term)

abbrev pub HasNoOperands : Term-F Term → Type 0
HasNoOperands (Term-F.Int number) = Unit {0}
HasNoOperands (Term-F.Str text) = Unit {0}
HasNoOperands (Term-F.Const name) = Unit {0}
HasNoOperands (Term-F.Var name) = Unit {0}
HasNoOperands Term-F.Any = Unit {0}
HasNoOperands (Term-F.Fun name parts) = Unit {0}
HasNoOperands (Term-F.Tuple parts) = Unit {0}
HasNoOperands (Term-F.Minus part) = ⊥
HasNoOperands (Term-F.Sum left op right) = ⊥
HasNoOperands (Term-F.Product left op right) = ⊥
HasNoOperands (Term-F.Range low high) = ⊥

-- the term is no operation and no interval
abbrev pub IsPlain : Term → Type 0
IsPlain term = HasNoOperands (out-Term term)

-- these terms are one the first operand of the other, from `top` to that of which `bottom` is the first operand
abbrev pub IsChain : Term → List Term → Term → Type 0
IsChain top [] bottom = top ≡ bottom
IsChain top (term ∷ terms) bottom = (top ≡ term) × IsChain (first_of term) terms bottom
