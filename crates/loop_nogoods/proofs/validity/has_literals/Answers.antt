use Rattle.std.proofs.Common.{◌≡◌, Bool, true, false, sym, ◌∙◌}
use Rattle.std.specs.Prelude.{IsTrue, ◌&&◌}
use Rattle.std.proofs.lemmas.Bool.{and_from, and_parts, false≢true}
use Rattle.loop_nogoods.specs.Sets.{has}
use Rattle.loop_nogoods.specs.Tests.{are_supports, fits_set}
use Rattle.loop_nogoods.proofs.ValidLemmas.{literals_from_tests, tests_from_literals}
use Rattle.loop_nogoods.proofs.validity.has_literals.Goals as goal

pub returns-then-is_among-clause-value : goal.returns-then-is_among-clause-value
returns-then-is_among-clause-value c =
    let t = c.args.t.now in
    let u = c.args.u.now in
    let one = c.args.one in
    let lits = c.args.c.now in
    let fits : Bool = fits_set t u (has u) one lits in
    let positive : Bool = are_supports t u one true lits in
    let negative : Bool = are_supports t u one false lits in
    let value : c.has_externals_alone.result ≡ (fits && (positive && negative)) = c.has_externals_alone.ensures.value in (
      (λ h.
          let outer = and_parts fits (positive && negative) (sym value ∙ h) in
          let inner = and_parts positive negative outer.1 in
          literals_from_tests t u one lits (sym c.is_among.ensures ∙ c.if-is_among.true) outer.0 (λ sign. elim sign as (λ (s : Bool). IsTrue (are_supports t u one s lits)) [ true ↦ inner.0 | false ↦ inner.1 ])),
      λ h.
          let tests = tests_from_literals t u one lits h in
          value ∙ and_from fits (positive && negative) tests.1 (and_from positive negative (tests.2 true) (tests.2 false)),
    )

pub returns-else-is_among-clause-value : goal.returns-else-is_among-clause-value
returns-else-is_among-clause-value c = (
  (λ h. absurd (false≢true (sym c.if-is_among.false ∙ h))),
  λ h. c.is_among.ensures ∙ (tests_from_literals c.args.t.now c.args.u.now c.args.one c.args.c.now h).0,
)
