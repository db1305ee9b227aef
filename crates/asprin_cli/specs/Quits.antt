-- Why printing stops.
use Rattle.std.specs.Prelude.{◌≡◌, ℕ}
use Rattle.ap_base.specs.Counts.{Rose}
use Rattle.asprin_cli.specs.declared.quit.Quit.{Quit}
use Rattle.asprin_cli.specs.declared.quit.Quit.TheVariants.{Sink, Memory}

-- where the sink failed, or for want of memory where it did not
abbrev pub QuitCause : ℕ → ℕ → Quit → Type 0
QuitCause before now Sink = Rose before now
QuitCause before now Memory = now ≡ before
