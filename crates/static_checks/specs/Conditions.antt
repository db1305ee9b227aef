-- The static conditions of a program, and which of their faults is told.
use Rattle.std.specs.Prelude.{◌≡◌, List, Ok, Err, Result, ⊤, All}
use Rattle.std.specs.List.{AllZip}
use Rattle.ap_safety.specs.declared.fault.DomainFault as domains
use Rattle.ap_safety.specs.declared.fault.DomainFault.TheVariants as domain
use Rattle.ap_syntax.specs.declared.programs.Statement.{Statement}
use Rattle.pred_graph.specs.Known.{Known}
use Rattle.pref_bind.specs.Answers.{IsBindAnswer}
use Rattle.pref_bind.specs.Bindings.{Bindings}
use Rattle.pref_shapes.specs.Answers.{IsShapeAnswer}
use Rattle.program_parts.specs.Parts.{parts_of}
use Rattle.static_checks.specs.Faults.{HasDomains, IsFirstDomain, IsSafeProgram, IsSafetyCause}
use Rattle.static_checks.specs.Programs.{Judged, programs_of}
use Rattle.static_checks.specs.declared.checked.Checked.{Checked}
use Rattle.static_checks.specs.declared.fault.StaticFault.{StaticFault}
use Rattle.static_checks.specs.declared.fault.StaticFault.TheVariants.{Naming, Shape, Safety, Domain, Memory}

-- the base with the elements of the preference statements, and the program of each type
abbrev pub programs : List Statement → List Judged
programs ss = programs_of (parts_of ss)

-- ---- the conditions

abbrev pub AreNamesBound : List Statement → Type 0
AreNamesBound ss = (b : Bindings) × IsBindAnswer ss (Ok b)

abbrev pub AreInShape : List Statement → Type 0
AreInShape ss = IsShapeAnswer ss (Ok tt)

abbrev pub AreSafe : List Statement → Type 0
AreSafe ss = All (λ j. (safe : Known) × IsSafeProgram j safe) (programs ss)

abbrev pub AreInDomains : List Statement → Type 0
AreInDomains ss = All HasDomains (programs ss)

-- all of them
pub record MeetsConditions (ss : List Statement) : Type 0 where
  pub bound : AreNamesBound ss
  pub shaped : AreInShape ss
  pub safe : AreSafe ss
  pub domains : AreInDomains ss

-- ---- faults

abbrev pub IsDomainCause : List Judged → domains.DomainFault → Type 0
IsDomainCause js (domain.NotDomain file at) = IsFirstDomain js (record { file = file; at = at })
IsDomainCause js domain.Memory = ⊤

-- each comes where the conditions before its own are met; want of memory may come at any time
abbrev pub StaticCause : List Statement → StaticFault → Type 0
StaticCause ss (Naming fault) = IsBindAnswer ss (Err fault)
StaticCause ss (Shape fault) = AreNamesBound ss × IsShapeAnswer ss (Err fault)
StaticCause ss (Safety fault) = AreNamesBound ss × AreInShape ss × IsSafetyCause (programs ss) fault
StaticCause ss (Domain fault) = AreNamesBound ss × AreInShape ss × AreSafe ss × IsDomainCause (programs ss) fault
StaticCause ss Memory = ⊤

-- ---- what is known of a program that meets them

pub record IsChecked (ss : List Statement) (c : Checked) : Type 0 where
  pub meets : MeetsConditions ss
  pub stack : IsBindAnswer ss (Ok c.stack)
  pub parts : c.parts ≡ parts_of ss
  pub safes : AllZip IsSafeProgram (programs ss) c.safes
