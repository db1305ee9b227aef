use Rattle.std.proofs.Common.{◌∙◌, sym}
use Rattle.ap_syntax.proofs.Escapes.{pushed}
use Rattle.ap_syntax.proofs.KindTexts.{kind_text}
use Rattle.ap_syntax.proofs.printed_preferences.push_kind.Goals as goal

pub returns : goal.returns
returns c = pushed c.push_str.result _ _ _ _ c.push_str.ensures.bytes (kind_text c.args.kind.now ∙ sym c.as_str.ensures)
