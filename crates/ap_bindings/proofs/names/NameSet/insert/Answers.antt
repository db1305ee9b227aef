use Rattle.std.proofs.Common.{◌≡◌, ◌∙◌, ap, cond}
use Rattle.std.specs.Prelude.{true, string_bytes}
use Rattle.std.specs.Str.{bytes_eq}
use Rattle.std.proofs.lemmas.Map.Text.{hash_set_updates_text}
use Rattle.ap_bindings.specs.Searches.{names_in}
use Rattle.ap_bindings.proofs.NameLemmas.{cond_or, eq_flip}
use Rattle.ap_bindings.proofs.names.NameSet.insert.Goals as goal

pub returns : goal.returns
returns c = λ other.
    let bytes : string_bytes c.in_ok-from_str.field-0 ≡ c.args.name.now = c.in_ok-from_str.ensures.ok ∙ c.as_str.ensures in
    hash_set_updates_text (string_bytes c.in_ok-from_str.field-0) c.args.self.now.set c.insert.new.self true c.in_ok-insert.ensures.updates other
    ∙ (ap (λ bs. cond (bytes_eq bs other) true (names_in c.args.self.now other)) bytes
    ∙ (ap (λ b. cond b true (names_in c.args.self.now other)) (eq_flip c.args.name.now other)
    ∙ cond_or (bytes_eq other c.args.name.now) (names_in c.args.self.now other)))
