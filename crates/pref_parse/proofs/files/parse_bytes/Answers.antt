use Rattle.pref_parse.proofs.FileLemmas.{no_memory}
use Rattle.pref_parse.proofs.files.parse_bytes.Goals as goal

pub returns-in_err-tokenized : goal.returns-in_err-tokenized
returns-in_err-tokenized c = no_memory c.from_residual.result c.from_residual.ensures.1
