use Rattle.asprin_words.proofs.Listing.{new_name, repeated_name}
use Rattle.asprin_words.proofs.values.with_setting.Goals as goal

pub returns-then-is_set : goal.returns-then-is_set
returns-then-is_set c = repeated_name c.args.constants.items c.args.constant c.as_str.result.now c.as_slice.result.now c.as_str.ensures.value c.as_slice.ensures.value c.if-is_set.ensures

pub returns-in-Ok : goal.returns-in-Ok
returns-in-Ok c =
    new_name c.args.constants.items c.args.constant c.as_str.result.now c.as_slice.result.now c.as_str.ensures.value c.as_slice.ensures.value c.push.new.self.items
    c.in-Ok.ensures.items c.if-is_set.ensures
