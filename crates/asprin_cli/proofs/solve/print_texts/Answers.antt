use Rattle.ap_base.specs.Readings.{bytes_of}
use Rattle.asprin_cli.proofs.Showing.{found_named, found_part, found_whole}
use Rattle.asprin_cli.proofs.Stopping.{texts_stop_named, texts_stop_part, texts_stop_whole}
use Rattle.asprin_cli.proofs.solve.print_texts.Goals as goal

pub returns-in-Ok-clause-whole : goal.returns-in-Ok-clause-whole
returns-in-Ok-clause-whole g c = λ tells whole.
    found_whole (bytes_of c.args.files.now) c.in-Ok.found _ _ _ c.in-Ok.ensures.found (c.print_optima.ensures.named whole) (c.print_optima.ensures.all tells whole)

pub returns-in-Ok-clause-part : goal.returns-in-Ok-clause-part
returns-in-Ok-clause-part g c = λ tells cut.
    found_part (bytes_of c.args.files.now) c.in-Ok.found _ _ c.in-Ok.ensures.found (c.print_optima.ensures.part tells cut)

pub returns-in-Ok-clause-named : goal.returns-in-Ok-clause-named
returns-in-Ok-clause-named g c = λ whole. found_named (bytes_of c.args.files.now) c.in-Ok.found _ c.in-Ok.ensures.found (c.print_optima.ensures.named whole)

pub returns-in-Err-clause-whole : goal.returns-in-Err-clause-whole
returns-in-Err-clause-whole g c = λ tells whole.
    texts_stop_whole (bytes_of c.args.files.now) c.in-Err.stop _ _ _ c.in-Err.ensures.stop whole (c.print_stop.ensures.named whole) (c.print_stop.ensures.all tells whole)

pub returns-in-Err-clause-part : goal.returns-in-Err-clause-part
returns-in-Err-clause-part g c = λ tells cut.
    texts_stop_part (bytes_of c.args.files.now) c.in-Err.stop _ _ c.in-Err.ensures.stop (c.print_stop.ensures.part tells cut)

pub returns-in-Err-clause-named : goal.returns-in-Err-clause-named
returns-in-Err-clause-named g c = λ whole.
    texts_stop_named (bytes_of c.args.files.now) c.in-Err.stop _ c.in-Err.ensures.stop whole (c.print_stop.ensures.named whole)
