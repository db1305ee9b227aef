-- What the factored grammar derives, the documented one derives with the same value.
use Rattle.std.proofs.Common.{true, false, List, [], ◌∷◌}
use Rattle.grammar.specs.Form.{Derives}
use Rattle.grammar.specs.Form.Form.{Call}
use Rattle.grammar.proofs.Interpret.{Reads, read}
use Rattle.ap_grammar.specs.Lexemes.{Lexeme}
use Rattle.ap_grammar.specs.Values.{Value}
use Rattle.ap_grammar.specs.Grammar.{Name, rule_of}
use Rattle.ap_grammar.specs.Factored.{Part, factored, part_rule, part_made}
use Rattle.ap_grammar.proofs.Sorts.{Ends}
use Rattle.ap_grammar.proofs.Known.{known_step}
use Rattle.ap_grammar.proofs.ToTexts.{May, Means, documented, text_to, section_to}
use Rattle.ap_grammar.proofs.ToBodies.{literal_to, head_to}
use Rattle.ap_grammar.proofs.ToItems.{core_to, negated_part, body_to, open_item_to, primary_to, opening_to, one_to}
use Rattle.ap_grammar.proofs.ToRanks.{front_to}
use Rattle.ap_grammar.proofs.ToMixed.{mixed_to, ranked_to}

step : (p : Part) (xs ys : List Lexeme) (vs : List Value) → May (part_rule p) xs ys vs → Means p xs ys (part_made p vs)
step (Part.Of (Name.Text whole of_type)) xs ys vs d = text_to whole of_type xs ys vs d
step (Part.Section whole) xs ys vs d = section_to whole xs ys vs d
step (Part.Of (Name.One of_type)) xs ys vs d = one_to of_type xs ys vs d
step Part.Opening xs ys vs d = opening_to xs ys vs d
step (Part.Of Name.Head) xs ys vs d = head_to xs ys vs d
step (Part.Of Name.Literal) xs ys vs d = literal_to xs ys vs d
step (Part.Of Name.Body) xs ys vs d = body_to xs ys vs d
step Part.Core xs ys vs d = core_to xs ys vs d
step Part.Negated xs ys vs d = negated_part xs ys vs d
step (Part.Of Name.OpenItem) xs ys vs d = open_item_to xs ys vs d
step (Part.Of Name.Primary) xs ys vs d = primary_to xs ys vs d
step (Part.Of Name.Ranked) xs ys vs d = ranked_to xs ys vs d
step Part.Mixed xs ys vs d = mixed_to xs ys vs d
step Part.Front xs ys vs d = front_to xs ys vs d
step (Part.Of (Name.BaseSection whole)) xs ys vs d = known_step (Name.BaseSection whole) xs ys vs (documented (rule_of (Name.BaseSection whole)) xs ys vs d)
step (Part.Of (Name.TypeSection whole)) xs ys vs d = known_step (Name.TypeSection whole) xs ys vs (documented (rule_of (Name.TypeSection whole)) xs ys vs d)
step (Part.Of Name.BaseOpening) xs ys vs d = known_step Name.BaseOpening xs ys vs (documented (rule_of Name.BaseOpening) xs ys vs d)
step (Part.Of Name.TypeOpening) xs ys vs d = known_step Name.TypeOpening xs ys vs (documented (rule_of Name.TypeOpening) xs ys vs d)
step (Part.Of (Name.Statement false of_type)) xs ys vs d = known_step (Name.Statement false of_type) xs ys vs (documented (rule_of (Name.Statement false of_type)) xs ys vs d)
step (Part.Of (Name.Statement true of_type)) xs ys vs d = known_step (Name.Statement true of_type) xs ys vs (documented (rule_of (Name.Statement true of_type)) xs ys vs d)
step (Part.Of Name.Const) xs ys vs d = known_step Name.Const xs ys vs (documented (rule_of Name.Const) xs ys vs d)
step (Part.Of Name.Constant) xs ys vs d = known_step Name.Constant xs ys vs (documented (rule_of Name.Constant) xs ys vs d)
step (Part.Of Name.Show) xs ys vs d = known_step Name.Show xs ys vs (documented (rule_of Name.Show) xs ys vs d)
step (Part.Of Name.Defined) xs ys vs d = known_step Name.Defined xs ys vs (documented (rule_of Name.Defined) xs ys vs d)
step (Part.Of (Name.Rule false)) xs ys vs d = known_step (Name.Rule false) xs ys vs (documented (rule_of (Name.Rule false)) xs ys vs d)
step (Part.Of (Name.Rule true)) xs ys vs d = known_step (Name.Rule true) xs ys vs (documented (rule_of (Name.Rule true)) xs ys vs d)
step (Part.Of Name.LeftGuard) xs ys vs d = known_step Name.LeftGuard xs ys vs (documented (rule_of Name.LeftGuard) xs ys vs d)
step (Part.Of Name.RightGuard) xs ys vs d = known_step Name.RightGuard xs ys vs (documented (rule_of Name.RightGuard) xs ys vs d)
step (Part.Of Name.ChoiceElement) xs ys vs d = known_step Name.ChoiceElement xs ys vs (documented (rule_of Name.ChoiceElement) xs ys vs d)
step (Part.Of Name.Condition) xs ys vs d = known_step Name.Condition xs ys vs (documented (rule_of Name.Condition) xs ys vs d)
step (Part.Of Name.Literals) xs ys vs d = known_step Name.Literals xs ys vs (documented (rule_of Name.Literals) xs ys vs d)
step (Part.Of Name.Conditional) xs ys vs d = known_step Name.Conditional xs ys vs (documented (rule_of Name.Conditional) xs ys vs d)
step (Part.Of Name.Aggregate) xs ys vs d = known_step Name.Aggregate xs ys vs (documented (rule_of Name.Aggregate) xs ys vs d)
step (Part.Of Name.AggElement) xs ys vs d = known_step Name.AggElement xs ys vs (documented (rule_of Name.AggElement) xs ys vs d)
step (Part.Of Name.Relation) xs ys vs d = known_step Name.Relation xs ys vs (documented (rule_of Name.Relation) xs ys vs d)
step (Part.Of Name.Atom) xs ys vs d = known_step Name.Atom xs ys vs (documented (rule_of Name.Atom) xs ys vs d)
step (Part.Of Name.Arguments) xs ys vs d = known_step Name.Arguments xs ys vs (documented (rule_of Name.Arguments) xs ys vs d)
step (Part.Of Name.Ident) xs ys vs d = known_step Name.Ident xs ys vs (documented (rule_of Name.Ident) xs ys vs d)
step (Part.Of Name.Term) xs ys vs d = known_step Name.Term xs ys vs (documented (rule_of Name.Term) xs ys vs d)
step (Part.Of Name.Sum) xs ys vs d = known_step Name.Sum xs ys vs (documented (rule_of Name.Sum) xs ys vs d)
step (Part.Of Name.Product) xs ys vs d = known_step Name.Product xs ys vs (documented (rule_of Name.Product) xs ys vs d)
step (Part.Of Name.Unary) xs ys vs d = known_step Name.Unary xs ys vs (documented (rule_of Name.Unary) xs ys vs d)
step (Part.Of Name.Preference) xs ys vs d = known_step Name.Preference xs ys vs (documented (rule_of Name.Preference) xs ys vs d)
step (Part.Of Name.Optimize) xs ys vs d = known_step Name.Optimize xs ys vs (documented (rule_of Name.Optimize) xs ys vs d)
step (Part.Of Name.Kind) xs ys vs d = known_step Name.Kind xs ys vs (documented (rule_of Name.Kind) xs ys vs d)
step (Part.Of Name.Element) xs ys vs d = known_step Name.Element xs ys vs (documented (rule_of Name.Element) xs ys vs d)
step (Part.Of Name.Given) xs ys vs d = known_step Name.Given xs ys vs (documented (rule_of Name.Given) xs ys vs d)
step (Part.Of Name.Domain) xs ys vs d = known_step Name.Domain xs ys vs (documented (rule_of Name.Domain) xs ys vs d)
step (Part.Of Name.Target) xs ys vs d = known_step Name.Target xs ys vs (documented (rule_of Name.Target) xs ys vs d)
step (Part.Of Name.Formula) xs ys vs d = known_step Name.Formula xs ys vs (documented (rule_of Name.Formula) xs ys vs d)
step (Part.Of Name.Conjunction) xs ys vs d = known_step Name.Conjunction xs ys vs (documented (rule_of Name.Conjunction) xs ys vs d)
step (Part.Of Name.Member) xs ys vs d = known_step Name.Member xs ys vs (documented (rule_of Name.Member) xs ys vs d)

means : {n : Name} {xs ys : List Lexeme} {v : Value} → May (Call (Part.Of n)) xs ys (v ∷ []) → Ends n xs ys v
means (Reads.call m) = m.derives

pub to_document : {n : Name} {xs ys : List Lexeme} {v : Value} → Derives factored (Call (Part.Of n)) xs ys (v ∷ []) → Ends n xs ys v
to_document d = means (read step d)
