-- Each file is read behind those before it.
use Rattle.std.proofs.Common.{◌≡◌, ◌+◌, ◌++◌, [], Ok, Err, length, refl, sym, ap, subst, take, ◌∙◌}
use Rattle.pref_parse.specs.Readings.{IsReading}
use Rattle.ap_base.specs.Readings.{bytes_of}
use Rattle.small_front.specs.Files.{AreRead, apart}
use Rattle.small_front.specs.Stages.{ReadingCause, refusal_of}
use Rattle.small_front.proofs.FileLemmas.{AreRead-more, ReadingCause-at}
use Rattle.small_front.proofs.files.read_files.Goals as goal

pub loop-file-init : goal.loop-file-init
loop-file-init c = (refl, subst (AreRead 1 (bytes_of [])) (sym c.new-statements.ensures) AreRead.none)

pub returns-in-Err : goal.returns-in-Err
returns-in-Err c =
    let files = c.args.files.now in let i = c.loop-file.file-index in let fault = c.in-Err.fault in
    let number = c.loop-file.invariant.0 in
    let read = subst (λ n. IsReading c.file-item.result.items (n + 1) (Err fault)) number
    (subst (λ bytes. IsReading bytes (c.loop-file.number + 1) (Err fault)) c.as_slice-bytes.ensures.value c.in-Err.ensures) in
    let cause = ReadingCause-at files i c.file-item.result c.loop-file.statements fault c.loop-file-test.true c.file-item.is c.loop-file.invariant.1 read in
    record { read = tt; fault = subst (ReadingCause (bytes_of files)) (sym (c.refusal.ensures ∙ ap (λ n. refusal_of (n + 1) fault) number)) cause }

pub loop-file-preserved : goal.loop-file-preserved
loop-file-preserved c =
    let files = c.args.files.now in let i = c.loop-file.file-index in let program = c.in-Ok.program in
    let number = c.loop-file.invariant.0 in
    let read = subst (λ n. IsReading c.file-item.result.items (n + 1) (Ok program)) number
    (subst (λ bytes. IsReading bytes (c.loop-file.number + 1) (Ok program)) c.as_slice-bytes.ensures.value c.in-Ok.ensures) in
    let all = AreRead-more files i c.file-item.result c.loop-file.statements program c.loop-file-test.true c.file-item.is c.loop-file.invariant.1 read in
    let next : c.in_ok-next-in-Ok.next ≡ apart (i + 1) (length c.file-item.result.items) program.statements =
    c.in_ok-next-in-Ok.ensures ∙ (ap (λ n. apart (n + 1) (length c.as_slice-bytes.result.now) program.statements) number
    ∙ ap (λ bytes. apart (i + 1) (length bytes) program.statements) c.as_slice-bytes.ensures.value) in
    let joined = c.in_ok-statements-in-Ok.ensures ∙ ap (λ ss. c.loop-file.statements ++ ss) next in
    (ap (λ n. n + 1) number, subst (AreRead 1 (bytes_of (take (i + 1) files))) (sym joined) all)
