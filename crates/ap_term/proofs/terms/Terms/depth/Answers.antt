use Rattle.std.proofs.Common.{arith}
use Rattle.ap_term.proofs.TableLemmas.{length_is, depth_at}
use Rattle.ap_term.proofs.terms.Terms.depth.Goals as goal

pub index-requires : goal.index-requires
index-requires c = omega (arith, length_is _ _ c.self.view_is c.self.invariant)

pub returns-clause-exact : goal.returns-clause-exact
returns-clause-exact c = (depth_at _ _ c.self.view_is c.self.invariant c.args.id c.index.result.now c.requires c.index.ensures).0

pub returns-clause-bound : goal.returns-clause-bound
returns-clause-bound c = (depth_at _ _ c.self.view_is c.self.invariant c.args.id c.index.result.now c.requires c.index.ensures).1
