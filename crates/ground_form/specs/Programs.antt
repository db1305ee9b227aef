-- A ground program as contracts see it: its five lists.
use Rattle.std.specs.Prelude.{List}
pub use Rattle.sets.specs.Lists.{numbered}
use Rattle.ap_term.specs.declared.shape.TermId.{TermId}
use Rattle.ground_form.specs.declared.atoms.AtomId.{AtomId}
use Rattle.ground_form.specs.declared.rules.GroundRule.{GroundRule}
use Rattle.ground_form.specs.declared.bodies.Body.{Body}
use Rattle.ground_form.specs.declared.groups.Group.{Group}

pub record Parts : Type 0 where
  pub atoms : List TermId
  pub rules : List GroundRule
  pub bodies : List Body
  pub groups : List Group
  pub inputs : List AtomId
