use Rattle.std.proofs.Common.{◌∙◌, ap}
use Rattle.ap_syntax.specs.Pieces.{text_of}
use Rattle.ap_syntax.specs.Canonical.{part_pieces}
use Rattle.ap_syntax.proofs.Pushes.{part_text, three}
use Rattle.ap_syntax.proofs.printed.push_part.Goals as goal

pub returns-in_ok-push_kind-in-Kind : goal.returns-in_ok-push_kind-in-Kind
returns-in_ok-push_kind-in-Kind c =
    three c.push_str-in-Kind-2.result _ _ _ _ _ _ _ _ c.in_ok-push_str-in-Kind.ensures.bytes c.in_ok-push_kind-in-Kind.ensures c.push_str-in-Kind-2.ensures.bytes
    (ap (λ p. text_of (part_pieces p)) c.in-Kind.is ∙ part_text c.in-Kind.kind)
