use Rattle.std.proofs.Common.{arith}
use Rattle.std.proofs.lemmas.Grind.{common_steps}
use Rattle.grammar.specs.Takes.{Fails}
use Rattle.ap_grammar.specs.declared.terminals.Terminal.TheVariants.{And, Or}
use Rattle.ap_grammar.specs.Grammar.{Name}
use Rattle.literal_parse.proofs.Steps.{exit}
use Rattle.pref_parse.proofs.FormulaLemmas.{joining_begun, joining_more, joining_fails, joining_end, formula_reads, conjunction_reads, member_negated_fails, member_negated, member_plain, unit_atom_fails, unit_atom, unit_formula_fails, unit_close_fails, unit_formula}
use Rattle.pref_parse.proofs.formulas.+formulas.Goals as goal

-- ---- formulas

pub read_formula-returns-in_err-first-clause-read : goal.read_formula-returns-in_err-first-clause-read
read_formula-returns-in_err-first-clause-read t c = exit c.in_err-first.ensures.read c.from_residual.ensures.1 (λ f. Fails.call (Fails.first f))

pub read_formula-returns-clause-read : goal.read_formula-returns-clause-read
read_formula-returns-clause-read t c = formula_reads c.in_ok-first.ensures.read c.read_disjuncts.ensures.read

pub read_disjuncts-signs-init : goal.read_disjuncts-signs-init
read_disjuncts-signs-init t c = record { shorter = omega arith; so_far = joining_begun Or Name.Conjunction _ _ }

pub read_disjuncts-returns-in_err-next-clause-read : goal.read_disjuncts-returns-in_err-next-clause-read
read_disjuncts-returns-in_err-next-clause-read t c = exit c.in_err-next.ensures.read c.from_residual-in_err-next.ensures.1 (joining_fails c.signs.invariant.so_far c.signs-test.ensures)

pub read_disjuncts-signs-preserved : goal.read_disjuncts-signs-preserved
read_disjuncts-signs-preserved t c = record { shorter = grind (arith, common_steps); so_far = rw c.in_ok-push-2.ensures.items (joining_more c.signs.invariant.so_far c.signs-test.ensures c.in_ok-next.ensures.read) }

pub read_disjuncts-returns-clause-read : goal.read_disjuncts-returns-clause-read
read_disjuncts-returns-clause-read t c = joining_end c.signs.invariant.so_far c.new-members.ensures.items c.in_ok-push.ensures.items c.signs-test.ensures (rw c.fitted.ensures at c.disjunction.ensures)

-- ---- conjunctions

pub read_conjunction-returns-in_err-first-clause-read : goal.read_conjunction-returns-in_err-first-clause-read
read_conjunction-returns-in_err-first-clause-read t c = exit c.in_err-first.ensures.read c.from_residual.ensures.1 (λ f. Fails.call (Fails.first f))

pub read_conjunction-returns-clause-read : goal.read_conjunction-returns-clause-read
read_conjunction-returns-clause-read t c = conjunction_reads c.in_ok-first.ensures.read c.read_conjuncts.ensures.read

pub read_conjuncts-signs-init : goal.read_conjuncts-signs-init
read_conjuncts-signs-init t c = record { shorter = omega arith; so_far = joining_begun And Name.Member _ _ }

pub read_conjuncts-returns-in_err-next-clause-read : goal.read_conjuncts-returns-in_err-next-clause-read
read_conjuncts-returns-in_err-next-clause-read t c = exit c.in_err-next.ensures.read c.from_residual-in_err-next.ensures.1 (joining_fails c.signs.invariant.so_far c.signs-test.ensures)

pub read_conjuncts-signs-preserved : goal.read_conjuncts-signs-preserved
read_conjuncts-signs-preserved t c = record { shorter = grind (arith, common_steps); so_far = rw c.in_ok-push-2.ensures.items (joining_more c.signs.invariant.so_far c.signs-test.ensures c.in_ok-next.ensures.read) }

pub read_conjuncts-returns-clause-read : goal.read_conjuncts-returns-clause-read
read_conjuncts-returns-clause-read t c = joining_end c.signs.invariant.so_far c.new-members.ensures.items c.in_ok-push.ensures.items c.signs-test.ensures (rw c.fitted.ensures at c.conjunction.ensures)

-- ---- members

pub read_member-returns-in_err-negated-clause-read : goal.read_member-returns-in_err-negated-clause-read
read_member-returns-in_err-negated-clause-read t c = exit c.in_err-negated.ensures.read c.from_residual.ensures.1 (member_negated_fails c.if-eat.ensures)

pub read_member-returns-then-eat-clause-read : goal.read_member-returns-then-eat-clause-read
read_member-returns-then-eat-clause-read t c = rw c.in_ok-new.ensures (member_negated c.if-eat.ensures c.in_ok-negated.ensures.read)

pub read_member-returns-clause-read : goal.read_member-returns-clause-read
read_member-returns-clause-read t c = member_plain c.if-eat.ensures c.read_unit-2.ensures.read

-- ---- atoms, and formulas in parentheses

pub read_unit-returns-in_err-atom-clause-read : goal.read_unit-returns-in_err-atom-clause-read
read_unit-returns-in_err-atom-clause-read t c = exit c.in_err-atom.ensures.read c.from_residual.ensures.1 (unit_atom_fails c.if-not-eat.ensures)

pub read_unit-returns-then-not-eat-clause-read : goal.read_unit-returns-then-not-eat-clause-read
read_unit-returns-then-not-eat-clause-read t c = unit_atom c.if-not-eat.ensures c.in_ok-atom.ensures.read

pub read_unit-returns-in_err-formula-clause-read : goal.read_unit-returns-in_err-formula-clause-read
read_unit-returns-in_err-formula-clause-read t c = exit c.in_err-formula.ensures.read c.from_residual-in_err-formula.ensures.1 (unit_formula_fails c.if-not-eat.ensures)

pub read_unit-returns-in_err-expect-clause-read : goal.read_unit-returns-in_err-expect-clause-read
read_unit-returns-in_err-expect-clause-read t c = exit c.in_err-expect.ensures.read c.from_residual-in_err-expect.ensures.1 (unit_close_fails c.if-not-eat.ensures c.in_ok-formula.ensures.read)

pub read_unit-returns-clause-read : goal.read_unit-returns-clause-read
read_unit-returns-clause-read t c = unit_formula c.if-not-eat.ensures c.in_ok-formula.ensures.read c.in_ok-expect.ensures.read
