-- The type stands behind the others.
use Rattle.std.proofs.Common.{◌≡◌, ◌∙◌, ◌++◌, ◌∷◌, [], List, ℕ, ap, cond, refl, string_bytes, Some}
use Rattle.std.specs.Str.{bytes_eq}
use Rattle.std.proofs.lemmas.Map.Text.{hash_map_updates_text}
use Rattle.ap_syntax.specs.declared.rules.Rule.{Rule}
use Rattle.program_parts.specs.Taken.{place_by}
use Rattle.program_parts.proofs.gather.Taken.add.Goals as goal

pub returns : goal.returns
returns c =
    let bytes : string_bytes c.in_ok-from_str.field-0 ≡ c.args.name.now = c.in_ok-from_str.ensures.ok ∙ c.as_str.ensures in
    record {
      place_is = c.len-place.ensures ∙ c.args.self.now.kinds.ok.0;
      kinds = c.in_ok-push.ensures.items
          ∙ (ap (λ (name : List ℕ). c.args.self.now.kinds.items ++ record { name = name; rules = c.new.result } ∷ []) c.in_ok-copy.ensures
          ∙ ap (λ (rules : List Rule). c.args.self.now.kinds.items ++ record { name = c.args.name.now; rules = rules } ∷ []) c.new.ensures);
      places = λ other.
          hash_map_updates_text (string_bytes c.in_ok-from_str.field-0) c.args.self.now.places c.insert.new.self (Some c.len-place.result) c.in_ok-insert.ensures.updates other
          ∙ ap (λ bs. cond (bytes_eq bs other) (Some c.len-place.result) (place_by c.args.self.now other)) bytes;
      same = record { current = refl; base = refl; preferences_are = refl; others_are = refl };
    }
