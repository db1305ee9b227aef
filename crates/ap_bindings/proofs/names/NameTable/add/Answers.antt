use Rattle.std.proofs.Common.{◌≡◌, ◌++◌, ◌∷◌, [], ◌∙◌, ap, cond, slice_get, Some}
use Rattle.std.specs.Prelude.{string_bytes}
use Rattle.std.specs.Str.{bytes_eq}
use Rattle.std.proofs.lemmas.Map.Text.{hash_map_updates_text}
use Rattle.ap_bindings.specs.Searches.{number_in}
use Rattle.ap_bindings.proofs.NameLemmas.{table_added, get_pushed}
use Rattle.ap_bindings.proofs.names.NameTable.add.Goals as goal

pub returns-clause-grows : goal.returns-clause-grows
returns-clause-grows c =
    let bytes : string_bytes c.in_ok-from_str.field-0 ≡ c.args.name.now = c.in_ok-from_str.ensures.ok ∙ c.as_str.ensures in
    let names : c.push.new.self ≡ c.args.self.now.names ++ c.args.name.now ∷ [] = c.in_ok-push.ensures.ok ∙ ap (λ name. c.args.self.now.names ++ name ∷ []) c.in_ok-copy.ensures in
    table_added c.args.self.now (record { numbers = c.insert.new.self; names = c.push.new.self }) c.args.name.now c.requires.table c.requires.absent
    (λ other. hash_map_updates_text (string_bytes c.in_ok-from_str.field-0) c.args.self.now.numbers c.insert.new.self (Some c.len-number.result) c.in_ok-insert.ensures.updates other
    ∙ (ap (λ bs. cond (bytes_eq bs other) (Some c.len-number.result) (number_in c.args.self.now other)) bytes
    ∙ ap (λ n. cond (bytes_eq c.args.name.now other) (Some n) (number_in c.args.self.now other)) c.len-number.ensures))
    names

pub returns-clause-number : goal.returns-clause-number
returns-clause-number c =
    let names : c.push.new.self ≡ c.args.self.now.names ++ c.args.name.now ∷ [] = c.in_ok-push.ensures.ok ∙ ap (λ name. c.args.self.now.names ++ name ∷ []) c.in_ok-copy.ensures in
    ap (λ xs. slice_get xs c.len-number.result) names
    ∙ (ap (λ n. slice_get (c.args.self.now.names ++ c.args.name.now ∷ []) n) c.len-number.ensures
    ∙ get_pushed c.args.self.now.names c.args.name.now)
