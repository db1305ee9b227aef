-- Rows of the table, read as trees.
use Rattle.std.specs.Prelude.{ℕ, ℤ, List, flat_map, map, pos, false, Option, Some, None}
use Rattle.ap_syntax.specs.declared.rules.Function.TheVariants.{Sum}
use Rattle.ap_syntax.specs.declared.terms.Rel.{Rel}
use Rattle.ap_term.specs.Value.{integer, constant}
use Rattle.ap_term.specs.declared.arithmetic.ArithOp.TheVariants.{Sub}
use Rattle.rule_form.specs.Trees.{Term, Variable, Anything, Fixed, Compound, Operation, nothing, more, Atom, Literal, Pos, Not, Compare, Element, Item, Plain, Each, Agg, One, Rule}
use Rattle.rule_form.specs.Readings.{terms_from}
use Rattle.pref_library.specs.declared.rows.TermRow.{TermRow}
use Rattle.pref_library.specs.declared.rows.TermRow.TheVariants as rows
use Rattle.pref_library.specs.declared.rows.AtomRow.{AtomRow}
use Rattle.pref_library.specs.declared.rows.LiteralRow.{LiteralRow}
use Rattle.pref_library.specs.declared.rows.LiteralRow.TheVariants as literals
use Rattle.pref_library.specs.declared.rows.ElementRow.{ElementRow}
use Rattle.pref_library.specs.declared.rows.ItemRow.{ItemRow}
use Rattle.pref_library.specs.declared.rows.ItemRow.TheVariants as items
use Rattle.pref_library.specs.declared.rows.Passage.{Passage}
use Rattle.pref_library.specs.declared.rows.RuleRow.{RuleRow}

abbrev pub applied : List ℕ → List ℕ → Term
applied name variable = Compound name (more (Variable variable) nothing)

abbrev pub minus : Term → Term
minus t = Operation Sub (Fixed (integer (pos 0))) t

abbrev pub term_row : TermRow → Term
term_row (rows.Var name) = Variable name.now
term_row rows.Any = Anything
term_row (rows.Name name) = Fixed (constant name.now)
term_row (rows.Number n) = Fixed (integer n)
term_row (rows.Apply name variable) = applied name.now variable.now
term_row (rows.MinusVar name) = minus (Variable name.now)
term_row (rows.MinusNumber n) = minus (Fixed (integer n))

abbrev pub atom_row : AtomRow → Atom
atom_row a = record { name = a.name.now; terms = terms_from (map term_row a.terms.now) }

abbrev pub literal_row : LiteralRow → Literal
literal_row (literals.Yes a) = Pos (atom_row a)
literal_row (literals.No a) = Not (atom_row a)
literal_row (literals.Compare left rel right) = Compare (term_row left) rel (term_row right)

abbrev pub element_row : ElementRow → Element
element_row e = record { terms = terms_from (map term_row e.terms.now); condition = map literal_row e.condition.now }

abbrev pub sum_row : ℤ → Rel → List ElementRow → Item
sum_row n rel elements = Agg (record { negated = false; left = Some (record { rel = rel; term = Fixed (integer n) }); function = Sum; elements = map element_row elements; right = None })

abbrev pub item_row : ItemRow → Item
item_row (items.Plain l) = Plain (literal_row l)
item_row (items.All a condition) = Each (Pos (atom_row a)) (map literal_row condition.now)
item_row (items.Sum n rel elements) = sum_row n rel elements.now

abbrev pub rule_row : RuleRow → Rule
rule_row r = record { head = One (atom_row r.head); body = map item_row r.body.now }

-- the rules of some passages, one after the other
abbrev pub rows_rules : List Passage → List Rule
rows_rules passages = flat_map (λ (p : Passage). map rule_row p.rules.now) passages

-- the same as what statements may be
abbrev pub rows_statements : List Passage → List (Option Rule)
rows_statements passages = flat_map (λ (p : Passage). map (λ (row : RuleRow). Some (rule_row row)) p.rules.now) passages
