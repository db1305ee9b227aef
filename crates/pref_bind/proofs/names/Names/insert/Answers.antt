-- The set gets the copy of the name.
use Rattle.std.proofs.Common.{◌≡◌, ◌||◌, ℕ, List, subst}
use Rattle.std.specs.Str.{bytes_eq}
use Rattle.pref_bind.specs.Named.{is_named}
use Rattle.pref_bind.proofs.NameLemmas.{is_named-insert}
use Rattle.pref_bind.proofs.names.Names.insert.Goals as goal

pub returns : goal.returns
returns c =
    let new = c.insert.new.self.keys in
    subst (λ (old : List (List ℕ)). (other : List ℕ) → is_named new other ≡ (bytes_eq c.args.name.now other || is_named old other)) c.self.view_is
    (subst (λ (name : List ℕ). (other : List ℕ) → is_named new other ≡ (bytes_eq name other || is_named c.self.inside.names.keys other)) c.in_ok-copy.ensures
    (is_named-insert c.self.inside.names.keys new c.in_ok-copy.field-0 c.in_ok-insert.ensures.updates.0))
