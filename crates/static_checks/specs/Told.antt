-- What is told of programs that were judged.
use Rattle.std.specs.Prelude.{List, Result, Ok, Err, ⊤, All}
use Rattle.std.specs.List.{AllZip}
use Rattle.pred_graph.specs.Known.{Known}
use Rattle.static_checks.specs.Conditions.{IsDomainCause}
use Rattle.static_checks.specs.Faults.{HasDomains, IsSafeProgram, IsSafetyCause}
use Rattle.static_checks.specs.Programs.{Judged}
use Rattle.static_checks.specs.declared.fault.StaticFault.{StaticFault}
use Rattle.static_checks.specs.declared.fault.StaticFault.TheVariants.{Naming, Shape, Safety, Domain, Memory}

-- what is known of each, or their first fault
abbrev pub IsTold : List Judged → Result (List Known) StaticFault → Type 0
IsTold js (Ok safes) = AllZip IsSafeProgram js safes × All HasDomains js
IsTold js (Err (Naming fault)) = ⊥
IsTold js (Err (Shape fault)) = ⊥
IsTold js (Err (Safety fault)) = IsSafetyCause js fault
IsTold js (Err (Domain fault)) = ((safes : List Known) × AllZip IsSafeProgram js safes) × IsDomainCause js fault
IsTold js (Err Memory) = ⊤
