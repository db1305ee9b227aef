use Rattle.std.proofs.Common.{ap, ◌∙◌, sym}
use Rattle.ap_term.specs.Table.{value_at}
use Rattle.join_search.proofs.MatchLemmas.{same_number, number_same}
use Rattle.join_search.proofs.matching.is_same.Goals as goal

pub returns : goal.returns
returns c = (
  λ t. ap (value_at c.args.terms.now) (same_number c.args.a c.args.b (sym c.eq.ensures ∙ t)),
  λ e. c.eq.ensures ∙ number_same c.args.a c.args.b (c.len.ensures.distinct c.args.a c.args.b c.requires.a c.requires.b e),
)
