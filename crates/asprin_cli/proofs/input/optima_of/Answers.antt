use Rattle.ap_base.specs.Readings.{bytes_of}
use Rattle.asprin_cli.proofs.input.optima_of.Goals as goal

pub returns-in-Err-clause-stop : goal.returns-in-Err-clause-stop
returns-in-Err-clause-stop c = c.stop_for.ensures (bytes_of c.args.files.now) c.in-Err.ensures.refused
