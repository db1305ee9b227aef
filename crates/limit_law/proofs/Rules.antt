-- What the scan does at the tokens of each rule.
use Rattle.std.proofs.Common.{◌≡◌, Bool, true, false, List, [], ◌∷◌, ◌++◌, refl, sym, subst}
use Rattle.std.proofs.lemmas.List.{append_cancel_right}
use Rattle.grammar.specs.Form.{Derives}
use Rattle.grammar.specs.Form.Form.{Call}
use Rattle.grammar.proofs.Interpret.{Reads, read as read_by}
use Rattle.ap_syntax.specs.declared.preferences.Formula.{Formula as FormulaTree}
use Rattle.ap_syntax.specs.declared.programs.Statement.{Statement}
use Rattle.ap_grammar.specs.Lexemes.{Lexeme}
use Rattle.ap_grammar.specs.Values.{Value}
use Rattle.ap_grammar.specs.Values.Value.{formula, program}
use Rattle.ap_grammar.specs.Grammar.{Name, grammar, made, rule_of}
use Rattle.ap_lexemes.specs.Limits.{Levels, conjunction_depth}
use Rattle.limit_law.specs.Depths.{capped, depth, scan}
use Rattle.limit_law.specs.Programs.{formulas_of}
use Rattle.limit_law.specs.Stands.{IsConjunction, IsFormula}
use Rattle.limit_law.proofs.Last.{Last}
use Rattle.limit_law.proofs.Tells.{Whole}
use Rattle.limit_law.proofs.Scans.{Scans}
use Rattle.limit_law.proofs.Terms.{Has, arguments_scans, atom_scans, form_kept, kind_scans, name_scans, primary_scans, product_scans, sum_scans, term_scans, unary_scans}
use Rattle.limit_law.proofs.Formulas.{Behind, behind_is, conjunction_is, conjunction_scans, formula_scans, member_scans}
use Rattle.limit_law.proofs.Preferences.{domain_scans, element_scans, given_scans, preference_scans, ranked_scans, target_scans}
use Rattle.limit_law.proofs.Statements.{base_plain, base_scans, const_plain, defined_plain, dotted, optimize_scans, plain_scans, rule_plain, show_plain, small_statement, statement_scans, text_scans, type_scans, type_section_scans}

pub rule_scans : (n : Name) (xs ys : List Lexeme) (vs : List Value) → Has (rule_of n) xs ys vs → Scans n xs ys (made n vs)
rule_scans Name.Ident xs ys vs d = name_scans d
rule_scans Name.Arguments xs ys vs d = arguments_scans d
rule_scans Name.Atom xs ys vs d = atom_scans d
rule_scans Name.Term xs ys vs d = term_scans d
rule_scans Name.Sum xs ys vs d = sum_scans d
rule_scans Name.Product xs ys vs d = product_scans d
rule_scans Name.Unary xs ys vs d = unary_scans d
rule_scans Name.Primary xs ys vs d = primary_scans d
rule_scans Name.Formula xs ys vs d = formula_scans d
rule_scans Name.Conjunction xs ys vs d = conjunction_scans d
rule_scans Name.Member xs ys vs d = member_scans d
rule_scans Name.Kind xs ys vs d = kind_scans d
rule_scans Name.Target xs ys vs d = target_scans d
rule_scans Name.Ranked xs ys vs d = ranked_scans d
rule_scans Name.Given xs ys vs d = given_scans d
rule_scans Name.Domain xs ys vs d = domain_scans d
rule_scans Name.Element xs ys vs d = element_scans d
rule_scans Name.Const xs ys vs d = plain_scans (const_plain vs) (dotted refl d)
rule_scans Name.Show xs ys vs d = plain_scans (show_plain vs) (dotted refl d)
rule_scans Name.Defined xs ys vs d = plain_scans (defined_plain vs) (dotted refl d)
rule_scans (Name.Rule false) xs ys vs d = plain_scans (rule_plain false vs) (dotted refl d)
rule_scans (Name.Rule true) xs ys vs d = plain_scans (rule_plain true vs) (dotted refl d)
rule_scans Name.BaseOpening xs ys vs d = plain_scans (base_plain vs) (dotted refl d)
rule_scans Name.TypeOpening xs ys vs d = type_scans d
rule_scans Name.Optimize xs ys vs d = optimize_scans d
rule_scans Name.Preference xs ys vs d = preference_scans d
rule_scans (Name.Statement false of_type) xs ys vs d = small_statement d
rule_scans (Name.Statement true of_type) xs ys vs d = statement_scans d
rule_scans (Name.BaseSection whole) xs ys vs d = base_scans d
rule_scans (Name.TypeSection whole) xs ys vs d = type_section_scans d
rule_scans (Name.Text whole of_type) xs ys vs d = text_scans d
rule_scans (Name.One of_type) xs ys vs d = tt
rule_scans Name.Constant xs ys vs d = form_kept refl d
rule_scans Name.Head xs ys vs d = form_kept refl d
rule_scans Name.LeftGuard xs ys vs d = form_kept refl d
rule_scans Name.RightGuard xs ys vs d = form_kept refl d
rule_scans Name.ChoiceElement xs ys vs d = form_kept refl d
rule_scans Name.Condition xs ys vs d = form_kept refl d
rule_scans Name.Literals xs ys vs d = form_kept refl d
rule_scans Name.Literal xs ys vs d = form_kept refl d
rule_scans Name.Body xs ys vs d = form_kept refl d
rule_scans Name.OpenItem xs ys vs d = form_kept refl d
rule_scans Name.Conditional xs ys vs d = form_kept refl d
rule_scans Name.Aggregate xs ys vs d = form_kept refl d
rule_scans Name.AggElement xs ys vs d = form_kept refl d
rule_scans Name.Relation xs ys vs d = form_kept refl d

same_tree : (first other : Lexeme) (f g : FormulaTree) → formula first f ≡ formula other g → g ≡ f
same_tree first other f g e = cc

pub behind : {s : Levels} {read rest : List Lexeme} {f : FormulaTree} → IsFormula s read rest f → Behind s read f
behind {s = s} {read = front} {rest = rest} {f = f} i = by_reading (read_by rule_scans i.derives)
  where
    by_reading : Has (Call Name.Formula) (front ++ rest) rest (formula i.first f ∷ []) → Behind s front f
    by_reading (Reads.call p) = subst (λ ts. Behind s ts f) (sym (append_cancel_right front p.read rest p.tokens)) (subst (Behind s p.read) (same_tree i.first p.first f p.tree p.is) (behind_is s i.fresh p))

pub conjunction_behind : {s : Levels} {read rest : List Lexeme} {f : FormulaTree} → IsConjunction s read rest f → conjunction_depth (scan s read).level ≡ capped (depth f)
conjunction_behind {s = s} {read = front} {rest = rest} {f = f} i = by_reading (read_by rule_scans i.derives)
  where
    by_reading : Has (Call Name.Conjunction) (front ++ rest) rest (formula i.first f ∷ []) → conjunction_depth (scan s front).level ≡ capped (depth f)
    by_reading (Reads.call p) = subst (λ ts. conjunction_depth (scan s ts).level ≡ capped (depth f)) (sym (append_cancel_right front p.read rest p.tokens)) (subst (λ g. conjunction_depth (scan s p.read).level ≡ capped (depth g)) (same_tree i.first p.first f p.tree p.is) (conjunction_is s i.conjunction i.negated i.member p))

pub conjunction_last : {s : Levels} {read rest : List Lexeme} {f : FormulaTree} → IsConjunction s read rest f → Last read
conjunction_last {s = s} {read = front} {rest = rest} {f = f} i = by_reading (read_by rule_scans i.derives)
  where
    by_reading : Has (Call Name.Conjunction) (front ++ rest) rest (formula i.first f ∷ []) → Last front
    by_reading (Reads.call p) = subst Last (sym (append_cancel_right front p.read rest p.tokens)) p.last

-- a text, with its formulas
pub text_whole : {whole of_type : Bool} {xs ys : List Lexeme} {ss : List Statement} → Derives grammar (Call (Name.Text whole of_type)) xs ys (program ss ∷ []) → Whole xs ys (formulas_of ss)
text_whole d = by_reading (read_by rule_scans d)
  where
    by_reading : {whole of_type : Bool} {xs ys : List Lexeme} {ss : List Statement} → Has (Call (Name.Text whole of_type)) xs ys (program ss ∷ []) → Whole xs ys (formulas_of ss)
    by_reading (Reads.call w) = w
