-- What a run comes to: its status, what it wrote, and what it did with its source.
use Rattle.std.specs.Prelude.{◌≡◌, ◌≢◌, ℕ, ◌≤◌, List, ◌++◌, false, true, IsTrue, None, length}
use Rattle.ap_base.specs.Counts.{Rose, counted}
use Rattle.ap_base.specs.Readings.{AllHeld}
use Rattle.ap_base.specs.declared.status.Status.{Status}
use Rattle.ap_base.specs.declared.status.Status.TheVariants as statuses
use Rattle.asprin_cli.specs.Lines.{is_cut, line_of}
use Rattle.asprin_cli.specs.Outcomes.{FailsAt, IsStatusOf, MayEnd, TookPart, TookWhole}
use Rattle.asprin_cli.specs.Uses.{SinkUse, SourceUse}
use Rattle.asprin_cli.specs.Words.{asks_for, files_of}
use Rattle.asprin_cli.specs.declared.end.End.{End}
use Rattle.asprin_cli.specs.declared.end.End.TheVariants as ends
use Rattle.asprin_cli.specs.declared.end.Refusal.TheVariants as refusals

-- the sink took this line and nothing else
abbrev pub Took : SinkUse → End → Type 0
Took out end = out.taken_now ≡ out.taken_before ++ line_of end

-- A run with these words ended with this status, and did that with its source and its output.
pub record IsRun (words : List (List ℕ)) (src : SourceUse) (out : SinkUse) (status : Status) : Type 0 where
  -- What is written is the text of an outcome that the words and the inputs allow, and the status is its own.
  pub whole : IsTrue src.tells → IsTrue out.tells → is_cut status ≡ false
      → TookWhole (MayEnd words src) status out.taken_before out.taken_now
  -- After a fault of the output, or for want of memory, it is a front of such a text, or nothing.
  pub part : IsTrue src.tells → IsTrue out.tells → is_cut status ≡ true
      → TookPart (MayEnd words src) out.taken_before out.taken_now
  -- The status is that of an outcome that is allowed, also where the output does not tell.
  pub named : IsTrue src.tells → is_cut status ≡ false → IsStatusOf (MayEnd words src) status
  -- There is an optimal answer set wherever there is an answer set.
  pub optimum : status ≢ statuses.NoOptimum
  -- The output failed exactly where the status says so.
  pub sink : status ≡ statuses.Sink → Rose out.faults_before out.faults_now
  pub no_sink : status ≢ statuses.Sink → out.faults_now ≡ out.faults_before
  -- The source failed where the status says so, and nowhere else unless the text was cut.
  pub source : status ≡ statuses.Source → Rose src.faults_before src.faults_now
  pub no_source : status ≢ statuses.Source → is_cut status ≡ false → src.faults_now ≡ src.faults_before
  -- The line SOURCE has the number of the open in which or behind which the source failed, also where the source does
  -- not tell.
  pub source_line : IsTrue out.tells → status ≡ statuses.Source
      → (opened : ℕ) × FailsAt src opened × Took out (ends.Source opened)
  -- No more inputs are opened than the words name.
  pub opens : src.opens_now ≤ counted src.opens_before (length (asks_for words))
  -- A name that is not held is opened only where the words have one.
  pub absent : IsTrue src.tells → AllHeld src.held (asks_for words) → src.absent_now ≡ src.absent_before
  -- USAGE and its line are a matter of the words alone.
  pub usage : status ≡ statuses.Usage → files_of words ≡ None
  pub not_usage : files_of words ≡ None → is_cut status ≡ false → status ≡ statuses.Usage
  pub usage_line : IsTrue out.tells → status ≡ statuses.Usage → Took out (ends.Refused refusals.Usage)
