-- The set looks up by the order of the bytes.
use Rattle.std.proofs.Common.{◌∙◌, ap}
use Rattle.pref_bind.specs.Named.{is_named}
use Rattle.pref_bind.proofs.NameLemmas.{is_named-by_cmp}
use Rattle.pref_bind.proofs.names.Names.contains.Goals as goal

pub returns : goal.returns
returns c =
    let name = c.args.name.now in
    c.contains.ensures ∙ (is_named-by_cmp c.self.inside.names.keys name ∙ ap (λ names. is_named names name) c.self.view_is)
