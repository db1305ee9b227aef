-- Programs without their places.
use Rattle.std.specs.Prelude.{List, map}
use Rattle.ap_syntax.specs.declared.rules.BodyItem.{BodyItem}
use Rattle.ap_syntax.specs.declared.rules.BodyItem.TheVariants as items
use Rattle.ap_syntax.specs.declared.rules.Rule.{Rule}
use Rattle.ap_syntax.specs.declared.preferences.Element.{Element}
use Rattle.ap_syntax.specs.declared.preferences.Preference.{Preference}
use Rattle.ap_syntax.specs.declared.programs.Statement.{Statement}
use Rattle.ap_syntax.specs.declared.programs.Statement.TheVariants as statements

abbrev pub unplaced_item : BodyItem → BodyItem
unplaced_item (items.All at l ls) = items.All 0 l ls
unplaced_item i = i

abbrev pub unplaced_items : List BodyItem → List BodyItem
unplaced_items is = map unplaced_item is

abbrev pub unplaced_rule : Rule → Rule
unplaced_rule r = record { file = 0; at = 0; head = r.head; body = unplaced_items r.body }

abbrev pub unplaced_element : Element → Element
unplaced_element e = record { at = 0; ranks = e.ranks; given = e.given; domain = e.domain }

abbrev pub unplaced_preference : Preference → Preference
unplaced_preference p = record { file = 0; at = 0; name = p.name; kind = p.kind; elements = map unplaced_element p.elements }

abbrev pub unplaced : Statement → Statement
unplaced (statements.Rule r) = statements.Rule (unplaced_rule r)
unplaced (statements.Const file at name value) = statements.Const 0 0 name value
unplaced (statements.Show signature) = statements.Show signature
unplaced (statements.Defined name arity) = statements.Defined name arity
unplaced (statements.Part file at part) = statements.Part 0 0 part
unplaced (statements.Preference p) = statements.Preference (unplaced_preference p)
unplaced (statements.Optimize file at name) = statements.Optimize 0 0 name
