use Rattle.std.proofs.Common.{length, sym, subst, ap, ◌∙◌}
use Rattle.std.specs.Option.{is_some}
use Rattle.std.proofs.lemmas.Bool.{false≢true}
use Rattle.join_form.specs.Bindings.{is_bound}
use Rattle.join_form.specs.Patterns.{IsPatternOf}
use Rattle.join_form.specs.Ready.{IsBound}
use Rattle.join_search.proofs.Evaluated.{place_bound}
use Rattle.join_search.proofs.PatternMatches.{place_is, known_is}
use Rattle.join_search.proofs.number.number_of.Goals as goal

pub bounds-binding-place : goal.bounds-binding-place
bounds-binding-place c = place_is c.args.terms.now (length c.args.binding.now) c.in-Place.place (subst (IsPatternOf c.args.terms.now (length c.args.binding.now)) c.in-Place.is c.requires.pattern)

-- the place is bound
pub returns-in_err-binding-in-Place : goal.returns-in_err-binding-in-Place
returns-in_err-binding-in-Place c a fits =
    absurd (false≢true (sym (ap is_some c.in_err-binding-in-Place.was)
    ∙ place_bound (is_bound c.args.binding.now) c.in-Place.place (subst (IsBound (is_bound c.args.binding.now)) c.in-Place.is c.requires.bound)))

pub number_at-requires-in-Known : goal.number_at-requires-in-Known
number_at-requires-in-Known c = known_is c.args.terms.now (length c.args.binding.now) c.in-Known.id (subst (IsPatternOf c.args.terms.now (length c.args.binding.now)) c.in-Known.is c.requires.pattern)
