-- What is known of rules: the components of their predicates, and which predicates are definite.
use Rattle.std.specs.Prelude.{ℕ, Bool, not, ◌||◌, nat_lt, if◌then◌else◌, List, length}
use Rattle.definite.specs.Rules.{marked}
use Rattle.ap_syntax.specs.declared.rules.Rule.{Rule}
use Rattle.pred_graph.specs.declared.pred.Pred.{Pred}
use Rattle.pred_graph.specs.Tables.{place_in}
use Rattle.pred_graph.specs.Graphs.{number_of}
use Rattle.pred_graph.specs.Components.{is_open_name, TellsDefinite, IsOrderOf}

-- what a `Safe` is for contracts: whether the rules are those of a base program, the predicates that they mention, and of each of
-- these in its turn the number of its component, and whether it is not definite
pub record Known : Type 0 where
  pub base : Bool
  pub preds : List Pred
  pub numbers : List ℕ
  pub indefinite : List Bool

-- the rules mention the predicate
abbrev pub is_known : Known → Pred → Bool
is_known safe p = nat_lt (place_in safe.preds p) (length safe.preds)

abbrev pub component_in : Known → Pred → ℕ
component_in safe p = if is_known safe p then number_of safe.numbers (place_in safe.preds p) else 0

abbrev pub definite_in : Known → Pred → Bool
definite_in safe p = if is_known safe p then not (marked safe.indefinite (place_in safe.preds p)) else (safe.base || not (is_open_name p.name))

-- it tells the components and the definite predicates of these rules
pub record IsSafe (rules : List Rule) (safe : Known) : Type 0 where
  pub order : IsOrderOf rules (component_in safe)
  pub definite : TellsDefinite rules safe.base (definite_in safe)
