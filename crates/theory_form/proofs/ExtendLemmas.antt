-- What a theory goes on to hold, and what a cut takes back: exactly what came since.
use Rattle.std.proofs.Common.{◌≡◌, ℕ, ◌+◌, ◌≤◌, ◌++◌, List, [], ◌∷◌, length, take, Option, ap, ◌∙◌, arith}
use Rattle.std.proofs.lemmas.List.{take-append-le, length-take}
use Rattle.std.proofs.Math.Seq.{take-length}
use Rattle.theory_form.specs.declared.literals.Lit.{Lit}
use Rattle.theory_form.specs.declared.rows.VarKind.{VarKind}
use Rattle.theory_form.specs.declared.theories.Mark.{Mark}
use Rattle.theory_form.specs.Theories.{TheoryView, Extends, mark_of, cut_to, IsMarkOf}

pub Extends-same : (t : TheoryView) → Extends t t
Extends-same t = record { variables = take-length t.variables; clauses = take-length t.clauses; blocks = omega arith }

longer : {A : Type 0} (xs ys : List A) → take (length xs) ys ≡ xs → length xs ≤ length ys
longer xs ys h = let e = ap length h in omega (arith, e, length-take (length xs) ys)

more : {A : Type 0} (xs ys : List A) (y : A) → take (length xs) ys ≡ xs → take (length xs) (ys ++ y ∷ []) ≡ xs
more xs ys y h = take-append-le (length xs) ys (y ∷ []) (longer xs ys h) ∙ h

pub Extends-var : (s t : TheoryView) (k : VarKind) → Extends s t → Extends s (record t { variables = t.variables ++ k ∷ [] })
Extends-var s t k h = record { variables = more s.variables t.variables k h.variables; clauses = h.clauses; blocks = h.blocks }

pub Extends-clause : (s t : TheoryView) (c : Option (List Lit)) → Extends s t → Extends s (record t { clauses = t.clauses ++ c ∷ [] })
Extends-clause s t c h = record { variables = h.variables; clauses = more s.clauses t.clauses c h.clauses; blocks = h.blocks }

pub Extends-block : (s t : TheoryView) → Extends s t → Extends s (record t { blocks = t.blocks + 1 })
Extends-block s t h = record { variables = h.variables; clauses = h.clauses; blocks = let q = h.blocks in omega arith }

pub Extends-reserved : (s t : TheoryView) (n : ℕ) → Extends s t → Extends s (record t { reserved = n })
Extends-reserved s t n h = record { variables = h.variables; clauses = h.clauses; blocks = h.blocks }

-- a cut gives the earlier theory again, but for the reserved entries
pub cut_to-mark_of : (s t : TheoryView) → Extends s t → cut_to (mark_of s) t ≡ record s { reserved = t.reserved }
cut_to-mark_of s t h = λ i. record { variables = h.variables i; clauses = h.clauses i; blocks = s.blocks; reserved = t.reserved }

pub cut_to-earlier : (m : Mark) (t : TheoryView) (h : IsMarkOf m t) → cut_to m t ≡ record h.earlier { reserved = t.reserved }
cut_to-earlier m t h = ap (λ q. cut_to q t) h.is_mark ∙ cut_to-mark_of h.earlier t h.extends
