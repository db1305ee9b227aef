use Rattle.std.proofs.Common.{◌∙◌, ◌++◌, ap, sym}
use Rattle.std.specs.Prelude.{codes}
use Rattle.ap_syntax.specs.Pieces.{text_of}
use Rattle.ap_syntax.specs.Canonical.{statement_pieces}
use Rattle.ap_syntax.proofs.Pushes.{three}
use Rattle.ap_syntax.proofs.printed.push_statement.Goals as goal

pub returns-in_ok-push_str-in-Optimize-2 : goal.returns-in_ok-push_str-in-Optimize-2
returns-in_ok-push_str-in-Optimize-2 c =
    three c.push_str-in-Optimize-3.result _ _ _ _ _ _ _ _ c.in_ok-push_str-in-Optimize.ensures.bytes c.in_ok-push_str-in-Optimize-2.ensures.bytes c.push_str-in-Optimize-3.ensures.bytes
    (ap (λ s. text_of (statement_pieces s)) c.in-Optimize.is ∙ ap (λ name. codes "#optimize(" ++ (name ++ codes ").")) (sym c.as_str-in-Optimize.ensures))
