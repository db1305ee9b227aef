-- A name keeps its place, or gets the next one.
use Rattle.std.proofs.Common.{◌≡◌, ◌∙◌, ap, cond, sym, Option, Some, None, ℕ, List, is_some, string_bytes}
use Rattle.std.specs.Str.{bytes_eq}
use Rattle.std.proofs.lemmas.Map.Text.{hash_map_updates_text}
use Rattle.pref_bind.specs.Tables.{place_by}
use Rattle.pref_bind.proofs.PlaceLemmas.{none_left, table_added, table_kept}
use Rattle.pref_bind.proofs.table.Table.add.Goals as goal

pub returns-then-is_some : goal.returns-then-is_some
returns-then-is_some c = λ ps count table.
    table_kept ps c.args.statement.now (place_by c.args.self.now) table (sym (ap is_some c.place.ensures) ∙ (sym c.is_some.ensures ∙ c.if-is_some.true))

pub returns : goal.returns
returns c = λ ps count table.
    let bytes : string_bytes c.in_ok-name.name ≡ c.args.statement.now.name = c.in_ok-name.ensures.ok ∙ c.as_str.ensures in
    table_added ps c.args.statement.now (place_by c.args.self.now) (place_by (record { numbers = c.insert.new.self })) c.args.number count table
    (none_left (place_by c.args.self.now c.args.statement.now.name) (sym (ap is_some c.place.ensures) ∙ (sym c.is_some.ensures ∙ c.if-is_some.false)))
    (λ name. hash_map_updates_text (string_bytes c.in_ok-name.name) c.args.self.now.numbers c.insert.new.self (Some c.args.number) c.in_ok-insert.ensures.updates name
    ∙ ap (λ bs. cond (bytes_eq bs name) (Some c.args.number) (place_by c.args.self.now name)) bytes)
