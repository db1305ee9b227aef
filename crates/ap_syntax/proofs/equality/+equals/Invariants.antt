use Rattle.std.proofs.Common.{◌≡◌, ◌≤◌, ◌↔◌, length, take}
use Rattle.ap_syntax.specs.declared.terms.Term.{size-Term}
use Rattle.ap_syntax.proofs.equality.+equals.Given as goal

-- what is left of the two is alike exactly if they are
abbrev pub invariant-same_term-loop-one : goal.invariant-same_term-loop-one
invariant-same_term-loop-one l = ((l.one ≡ l.other) ↔ (l.fn.one ≡ l.fn.other)) × (size-Term l.one ≤ size-Term l.fn.one)

abbrev pub invariant-same_terms-loop-place : goal.invariant-same_terms-loop-place
invariant-same_terms-loop-place l = (length l.one ≡ length l.other) × (take l.place l.one ≡ take l.place l.other)
