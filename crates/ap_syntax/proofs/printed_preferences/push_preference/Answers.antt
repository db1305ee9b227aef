use Rattle.std.proofs.Common.{◌∙◌, ◌++◌, ap₂, map, sym}
use Rattle.std.specs.Prelude.{codes}
use Rattle.ap_syntax.specs.Pieces.{in_braces, semicolons, text_of}
use Rattle.ap_syntax.specs.CanonicalPreferences.{element_pieces, kind_pieces}
use Rattle.ap_syntax.proofs.Pushes.{preference_text, seven}
use Rattle.ap_syntax.proofs.printed_preferences.push_preference.Goals as goal

pub returns : goal.returns
returns c =
    let p = c.args.preference.now in
    seven c.push_str-5.result _ _ _ _ _ _ _ _ _ _ _ _ _ _ _ _ c.in_ok-push_str.ensures.bytes c.in_ok-push_str-2.ensures.bytes c.in_ok-push_str-3.ensures.bytes c.in_ok-push_kind.ensures c.in_ok-push_str-4.ensures.bytes c.in_ok-push_braced.ensures c.push_str-5.ensures.bytes
    (preference_text p.name (kind_pieces p.kind) (semicolons (map element_pieces p.elements))
    ∙ ap₂ (λ name elements. codes "#preference(" ++ (name ++ (codes ", " ++ ((text_of (kind_pieces p.kind) ++ codes ")") ++ (text_of (in_braces (semicolons (map element_pieces elements))) ++ codes "."))))) (sym c.as_str.ensures) (sym c.as_slice.ensures))
