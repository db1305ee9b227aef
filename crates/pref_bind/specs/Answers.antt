-- Which answer comes when.
use Rattle.std.specs.Prelude.{◌≡◌, ◌≢◌, List, [], Option, Some, None, Result, Ok, Err, ⊤}
use Rattle.ap_syntax.specs.declared.programs.Statement.{Statement}
use Rattle.pref_bind.specs.Bindings.{Bindings}
use Rattle.pref_bind.specs.Causes.{first_misnamed}
use Rattle.pref_bind.specs.Cycles.{AreCyclic}
use Rattle.program_form.specs.Programs.{preferences}
use Rattle.pref_bind.specs.Stacks.{AreBindings}
use Rattle.pref_bind.specs.declared.fault.TypeFault.{TypeFault}
use Rattle.pref_bind.specs.declared.fault.TypeFault.TheVariants.{Misnamed, NamingCycle, Memory}

-- A wrong name comes before a cycle. Where all names are bound and no statement reaches itself, the bindings are told.
abbrev pub IsBindAnswer : List Statement → Result Bindings TypeFault → Type 0
IsBindAnswer ss (Ok bindings) = (first_misnamed ss ≡ None) × AreCyclic (preferences ss) [] × AreBindings ss bindings
IsBindAnswer ss (Err (Misnamed file at cause)) = first_misnamed ss ≡ Some (record { file = file; at = at; cause = cause })
IsBindAnswer ss (Err (NamingCycle list)) = (first_misnamed ss ≡ None) × AreCyclic (preferences ss) list × (list ≢ [])
IsBindAnswer ss (Err Memory) = ⊤
