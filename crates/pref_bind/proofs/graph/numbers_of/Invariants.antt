use Rattle.std.proofs.Common.{◌≡◌, ◌++◌, List, drop, length, map}
use Rattle.ap_syntax.specs.declared.preferences.Preference.{Preference}
use Rattle.pref_bind.specs.Stacks.{number_in}
use Rattle.pref_bind.specs.Tables.{IsTableOf}
use Rattle.pref_bind.proofs.graph.numbers_of.Given as goal

abbrev pub invariant-loop-name : goal.invariant-loop-name
invariant-loop-name l = (ps : List Preference) → IsTableOf ps l.table → l.count ≡ length ps
    → map (number_in ps) l.names ≡ l.numbers ++ map (number_in ps) (drop l.name-index l.names)
