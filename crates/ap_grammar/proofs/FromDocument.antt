-- What the documented grammar derives, the factored one derives with the same value.
use Rattle.std.proofs.Common.{Bool, true, false, List, [], ◌∷◌, sym}
use Rattle.grammar.specs.Form.{Derives}
use Rattle.grammar.specs.Form.Form.{Call}
use Rattle.grammar.proofs.Interpret.{Reads, read}
use Rattle.ap_grammar.specs.Lexemes.{Lexeme}
use Rattle.ap_grammar.specs.Values.{Value}
use Rattle.ap_grammar.specs.Grammar.{Name, rule_of, made}
use Rattle.ap_grammar.specs.Factored.{Part}
use Rattle.ap_grammar.proofs.Sorts.{Ends, Known}
use Rattle.ap_grammar.proofs.Known.{known_step}
use Rattle.ap_grammar.proofs.FromTexts.{Made, From, Comes, Extra, known_all, factored_all, made_of, sections_from}
use Rattle.ap_grammar.proofs.FromBodies.{base_section_from, type_section_from, base_opening_from, type_opening_from, atom_from}
use Rattle.ap_grammar.proofs.FromItems.{literal_from, open_item_from, conditional_from, body_from, head_from}
use Rattle.ap_grammar.proofs.FromTerms.{primary_made, primary_front, unary_front, product_parts, sum_parts}
use Rattle.ap_grammar.proofs.FromRanks.{term_mixed, member_front, conjunction_parts, formula_mixed, target_from, ranked_from}

text_from : (whole of_type : Bool) (xs ys : List Lexeme) (vs : List Value) → Comes (rule_of (Name.Text whole of_type)) xs ys vs → Made (Part.Of (Name.Text whole of_type)) xs ys (made (Name.Text whole of_type) vs)
text_from whole of_type xs ys vs (Reads.seq d e) = Derives.call (Derives.seq (factored_all d) (sections_from e))

one_from : (of_type : Bool) (xs ys : List Lexeme) (vs : List Value) → Comes (rule_of (Name.One of_type)) xs ys vs → Made (Part.Of (Name.One of_type)) xs ys (made (Name.One of_type) vs)
one_from of_type xs ys vs (Reads.left (Reads.call m)) = Derives.call (Derives.left m.derives)
one_from of_type xs ys vs (Reads.right (Reads.left (Reads.call m))) = Derives.call (Derives.right m.extra)
one_from of_type xs ys vs (Reads.right (Reads.right (Reads.call m))) = Derives.call (Derives.right m.extra)

made_step : (n : Name) (xs ys : List Lexeme) (vs : List Value) → Comes (rule_of n) xs ys vs → Made (Part.Of n) xs ys (made n vs)
made_step (Name.Text whole of_type) xs ys vs d = text_from whole of_type xs ys vs d
made_step (Name.BaseSection whole) xs ys vs d = Derives.call (factored_all d)
made_step (Name.TypeSection whole) xs ys vs d = Derives.call (factored_all d)
made_step Name.BaseOpening xs ys vs d = Derives.call (factored_all d)
made_step Name.TypeOpening xs ys vs d = Derives.call (factored_all d)
made_step (Name.Statement false of_type) xs ys vs d = Derives.call (factored_all d)
made_step (Name.Statement true of_type) xs ys vs d = Derives.call (factored_all d)
made_step (Name.One of_type) xs ys vs d = one_from of_type xs ys vs d
made_step Name.Const xs ys vs d = Derives.call (factored_all d)
made_step Name.Constant xs ys vs d = Derives.call (factored_all d)
made_step Name.Show xs ys vs d = Derives.call (factored_all d)
made_step Name.Defined xs ys vs d = Derives.call (factored_all d)
made_step (Name.Rule false) xs ys vs d = Derives.call (factored_all d)
made_step (Name.Rule true) xs ys vs d = Derives.call (factored_all d)
made_step Name.Head xs ys vs d = head_from xs ys vs d
made_step Name.LeftGuard xs ys vs d = Derives.call (factored_all d)
made_step Name.RightGuard xs ys vs d = Derives.call (factored_all d)
made_step Name.ChoiceElement xs ys vs d = Derives.call (factored_all d)
made_step Name.Condition xs ys vs d = Derives.call (factored_all d)
made_step Name.Literals xs ys vs d = Derives.call (factored_all d)
made_step Name.Literal xs ys vs d = (literal_from xs ys vs d).0
made_step Name.Body xs ys vs d = body_from xs ys vs d
made_step Name.OpenItem xs ys vs d = (let s = open_item_from xs ys vs d (known_step Name.OpenItem xs ys vs (known_all d)) in made_of (sym s.is) (Derives.call s.derives))
made_step Name.Conditional xs ys vs d = Derives.call (factored_all d)
made_step Name.Aggregate xs ys vs d = Derives.call (factored_all d)
made_step Name.AggElement xs ys vs d = Derives.call (factored_all d)
made_step Name.Relation xs ys vs d = Derives.call (factored_all d)
made_step Name.Atom xs ys vs d = Derives.call (factored_all d)
made_step Name.Arguments xs ys vs d = Derives.call (factored_all d)
made_step Name.Ident xs ys vs d = Derives.call (factored_all d)
made_step Name.Term xs ys vs d = Derives.call (factored_all d)
made_step Name.Sum xs ys vs d = Derives.call (factored_all d)
made_step Name.Product xs ys vs d = Derives.call (factored_all d)
made_step Name.Unary xs ys vs d = Derives.call (factored_all d)
made_step Name.Primary xs ys vs d = primary_made xs ys vs d
made_step Name.Preference xs ys vs d = Derives.call (factored_all d)
made_step Name.Optimize xs ys vs d = Derives.call (factored_all d)
made_step Name.Kind xs ys vs d = Derives.call (factored_all d)
made_step Name.Element xs ys vs d = Derives.call (factored_all d)
made_step Name.Given xs ys vs d = Derives.call (factored_all d)
made_step Name.Domain xs ys vs d = Derives.call (factored_all d)
made_step Name.Ranked xs ys vs d = ranked_from xs ys vs d
made_step Name.Target xs ys vs d = Derives.call (factored_all d)
made_step Name.Formula xs ys vs d = Derives.call (factored_all d)
made_step Name.Conjunction xs ys vs d = Derives.call (factored_all d)
made_step Name.Member xs ys vs d = Derives.call (factored_all d)

extra_step : (n : Name) (xs ys : List Lexeme) (vs : List Value) → Comes (rule_of n) xs ys vs → Known n xs ys (made n vs) → Extra n xs ys (made n vs)
extra_step (Name.Text whole of_type) xs ys vs d k = tt
extra_step (Name.BaseSection whole) xs ys vs d k = base_section_from whole xs ys vs d
extra_step (Name.TypeSection whole) xs ys vs d k = type_section_from whole xs ys vs d
extra_step Name.BaseOpening xs ys vs d k = base_opening_from xs ys vs d
extra_step Name.TypeOpening xs ys vs d k = type_opening_from xs ys vs d
extra_step (Name.Statement false of_type) xs ys vs d k = tt
extra_step (Name.Statement true of_type) xs ys vs d k = tt
extra_step (Name.One of_type) xs ys vs d k = tt
extra_step Name.Const xs ys vs d k = tt
extra_step Name.Constant xs ys vs d k = tt
extra_step Name.Show xs ys vs d k = tt
extra_step Name.Defined xs ys vs d k = tt
extra_step (Name.Rule false) xs ys vs d k = tt
extra_step (Name.Rule true) xs ys vs d k = tt
extra_step Name.Head xs ys vs d k = tt
extra_step Name.LeftGuard xs ys vs d k = tt
extra_step Name.RightGuard xs ys vs d k = tt
extra_step Name.ChoiceElement xs ys vs d k = tt
extra_step Name.Condition xs ys vs d k = tt
extra_step Name.Literals xs ys vs d k = tt
extra_step Name.Literal xs ys vs d k = (literal_from xs ys vs d).1
extra_step Name.Body xs ys vs d k = tt
extra_step Name.OpenItem xs ys vs d k = open_item_from xs ys vs d k
extra_step Name.Conditional xs ys vs d k = conditional_from xs ys vs d
extra_step Name.Aggregate xs ys vs d k = tt
extra_step Name.AggElement xs ys vs d k = tt
extra_step Name.Relation xs ys vs d k = tt
extra_step Name.Atom xs ys vs d k = atom_from xs ys vs d
extra_step Name.Arguments xs ys vs d k = tt
extra_step Name.Ident xs ys vs d k = tt
extra_step Name.Term xs ys vs d k = term_mixed xs ys vs d k
extra_step Name.Sum xs ys vs d k = sum_parts xs ys vs d
extra_step Name.Product xs ys vs d k = product_parts xs ys vs d
extra_step Name.Unary xs ys vs d k = unary_front xs ys vs d k
extra_step Name.Primary xs ys vs d k = primary_front xs ys vs d k
extra_step Name.Preference xs ys vs d k = tt
extra_step Name.Optimize xs ys vs d k = tt
extra_step Name.Kind xs ys vs d k = tt
extra_step Name.Element xs ys vs d k = tt
extra_step Name.Given xs ys vs d k = tt
extra_step Name.Domain xs ys vs d k = tt
extra_step Name.Ranked xs ys vs d k = tt
extra_step Name.Target xs ys vs d k = target_from xs ys vs d
extra_step Name.Formula xs ys vs d k = formula_mixed xs ys vs d
extra_step Name.Conjunction xs ys vs d k = conjunction_parts xs ys vs d
extra_step Name.Member xs ys vs d k = member_front xs ys vs d k

step : (n : Name) (xs ys : List Lexeme) (vs : List Value) → Comes (rule_of n) xs ys vs → From n xs ys (made n vs)
step n xs ys vs d = let k = known_step n xs ys vs (known_all d) in record { known = k; derives = made_step n xs ys vs d; extra = extra_step n xs ys vs d k }

comes : {n : Name} {xs ys : List Lexeme} {v : Value} → Comes (Call n) xs ys (v ∷ []) → Made (Part.Of n) xs ys v
comes (Reads.call m) = m.derives

pub from_document : {n : Name} {xs ys : List Lexeme} {v : Value} → Ends n xs ys v → Made (Part.Of n) xs ys v
from_document d = comes (read step d)
