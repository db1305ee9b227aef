-- The run of the arm that is taken.
use Rattle.std.proofs.Common.{◌≡◌, Err, sym, ap, ◌∙◌}
use Rattle.ap_base.specs.Readings.{bytes_of}
use Rattle.asprin_cli.specs.Given as given
use Rattle.asprin_cli.proofs.Running.{err_same, stop_run, texts_run}
use Rattle.asprin_cli.proofs.solve.solve_run.Goals as goal

pub returns-in-Ok-clause-ran : goal.returns-in-Ok-clause-ran
returns-in-Ok-clause-ran g c =
    texts_run _ _ _ _ c.read_files.ensures.opens c.read_files.ensures.absent
    c.print_texts.ensures.kept c.print_texts.ensures.rose
    (bytes_of c.deref.result.now)
    (λ tells. c.in-Ok.ensures.texts tells ∙ ap (λ files. given.Texts (bytes_of files)) (sym c.deref.ensures.value))
    c.in-Ok.ensures.kept (λ none. let no = sym c.in-Ok.is ∙ c.read_files.ensures.usage.0 none in cc)
    c.print_texts.ensures.whole c.print_texts.ensures.part c.print_texts.ensures.named
    c.print_texts.ensures.optimum c.print_texts.ensures.not_usage c.print_texts.ensures.not_source

pub returns-in-Err-clause-ran : goal.returns-in-Err-clause-ran
returns-in-Err-clause-ran g c =
    stop_run _ _ _ _ c.read_files.ensures.opens c.read_files.ensures.absent
    c.print_stop.ensures.kept c.print_stop.ensures.rose
    c.in-Err.stop c.in-Err.ensures.stop (
      λ none. err_same _ _ _ c.in-Err.is (c.read_files.ensures.usage.0 none),
      λ e. c.read_files.ensures.usage.1 (c.in-Err.is ∙ ap Err e),
    )
    c.print_stop.ensures.named c.print_stop.ensures.all c.print_stop.ensures.part
