-- The canonical text of a program that was read, read back.
use Rattle.std.proofs.Common.{◌≡◌, ◌≢◌, ℕ, Bool, true, false, cond, List, [], ◌∷◌, ◌++◌, map, refl, sym, ap, subst, ◌∙◌, Ok, Err}
use Rattle.grammar.specs.Fault.{IsText}
use Rattle.grammar.specs.Form.Form.{Call}
use Rattle.grammar.proofs.Interpret.{Reads, read}
use Rattle.ap_syntax.specs.declared.rules.BodyItem.{BodyItem}
use Rattle.ap_syntax.specs.declared.rules.BodyItem.TheVariants as items
use Rattle.ap_syntax.specs.declared.rules.HeadForm.{HeadForm}
use Rattle.ap_syntax.specs.declared.rules.HeadForm.TheVariants as heads
use Rattle.ap_syntax.specs.declared.preferences.Element.{Element}
use Rattle.ap_syntax.specs.declared.programs.PartKind.{PartKind}
use Rattle.ap_syntax.specs.declared.programs.Program.{Program}
use Rattle.ap_syntax.specs.declared.programs.Statement.{Statement}
use Rattle.ap_syntax.specs.declared.programs.Statement.TheVariants as statements
use Rattle.std.specs.List.{flat_map}
use Rattle.std.specs.Prelude.{codes}
use Rattle.ap_syntax.specs.Pieces.{in_braces, in_parentheses, semicolons, spaced, spaced_behind, spelled, text_of}
use Rattle.ap_syntax.specs.Pieces.Piece.{LineFeed}
use Rattle.ap_syntax.specs.CanonicalTerms.{atom_pieces}
use Rattle.ap_syntax.specs.CanonicalRules.{body_pieces, clause_pieces, head_pieces, item_pieces, separator}
use Rattle.ap_syntax.specs.CanonicalPreferences.{element_pieces, kind_pieces}
use Rattle.ap_syntax.specs.Canonical.{canonical_pieces, canonical_text, line_pieces}
use Rattle.ap_lex.specs.Tokens.{Reads as TokenReads}
use Rattle.ap_lex.specs.declared.token.Token.{Token}
use Rattle.ap_lexemes.specs.Lexemes.{lexemes_of}
use Rattle.ap_lexemes.specs.Texts.{AreLexemes, IsOutcome}
use Rattle.ap_parse.specs.Texts.{IsReading}
use Rattle.ap_parse.proofs.TextLemmas.{one_answer}
use Rattle.ap_lexemes.specs.declared.fault.ParseFault.{ParseFault}
use Rattle.ap_lexemes.specs.declared.fault.ParseFault.TheVariants as faults
use Rattle.ap_parse.specs.Changes.{changing, same_part}
use Rattle.ap_parse.specs.Openings.{is_of_type}
use Rattle.ap_grammar.specs.Lexemes.{Lexeme}
use Rattle.ap_grammar.specs.Values.{Value}
use Rattle.ap_grammar.specs.Values.Value.{program}
use Rattle.ap_grammar.specs.Grammar.{Name, grammar, made, rule_of}
use Rattle.canonical_law.specs.Unplaced.{unplaced, unplaced_element, unplaced_item}
use Rattle.canonical_law.proofs.Kept.{changing_again, changing_formulas, none_left_out, same_formulas, same_part_is}
use Rattle.limit_law.specs.Programs.{formulas_of}
use Rattle.limit_law.proofs.FirstLimits.{accepted, other_first, text_tells}
use Rattle.limit_law.proofs.Tells.{all_in_bounds}
use Rattle.std.specs.Prelude.{None, Result, length, nat_lt, take}
use Rattle.std.specs.Str.{IsUtf8}
use Rattle.std.specs.Str.Lossy.{utf8_valid_len}
use Rattle.std.proofs.Common.{arith}
use Rattle.std.proofs.Math.Seq.{take-length}
use Rattle.std.proofs.lemmas.Bool.Decides.{nat_tests}
use Rattle.std.proofs.lemmas.Str.{utf8_valid_len-IsUtf8}
use Rattle.ap_lex.specs.Tokens.{IsTokens, ReadsUpTo}
use Rattle.ap_lex.proofs.ReadingLemmas.{end_begins_nothing}
use Rattle.ap_lexemes.specs.Limits.{first_limit}
use Rattle.canonical_law.specs.ReadsBack.{ReadsBack}
use Rattle.canonical_law.proofs.Texts.{GoodProgram, lines_clear, text_read}
use Rattle.canonical_law.proofs.Statements.{GoodStatement}
use Rattle.canonical_law.proofs.Tokens.{tokens_of}
use Rattle.canonical_law.proofs.Fine.{Fine, fine_tokens, lift}
use Rattle.canonical_law.proofs.Says.{Has, Says, Tells}
use Rattle.canonical_law.proofs.Lists.{Each}
use Rattle.canonical_law.proofs.Encoded.{longest_front}
use Rattle.canonical_law.proofs.Covering.{HasRoom, lines_text, lines_within, neither, room_kept, statements_room}
use Rattle.canonical_law.proofs.ReadTerms.{arguments_say, atom_says, ident_says, primary_says, product_says, sum_says, term_says, unary_says}
use Rattle.canonical_law.proofs.ReadRules.{agg_element_says, aggregate_says, body_says, choice_element_says, condition_says, conditional_says, head_says, left_guard_says, literal_says, literals_say, open_item_says, relation_says, right_guard_says, rule_says}
use Rattle.canonical_law.proofs.ReadPreferences.{conjunction_says, domain_says, element_says, formula_says, given_says, member_says, ranked_says, target_says}
use Rattle.canonical_law.proofs.ReadStatements.{base_opening_says, base_section_says, const_says, constant_says, defined_says, kind_says, optimize_says, preference_says, show_says, statement_says, text_says, type_opening_says, type_section_says}

-- ---- each rule makes what reads back

step : (n : Name) (xs ys : List Fine) (vs : List Value) → Has (rule_of n) xs ys vs → Tells n xs ys (made n vs)
step (Name.Text whole of_type) xs ys vs d = text_says whole of_type d
step (Name.BaseSection whole) xs ys vs d = base_section_says whole d
step (Name.TypeSection whole) xs ys vs d = type_section_says whole d
step Name.BaseOpening xs ys vs d = base_opening_says d
step Name.TypeOpening xs ys vs d = type_opening_says d
step (Name.Statement whole of_type) xs ys vs d = statement_says whole of_type d
step (Name.One of_type) xs ys vs d = tt
step Name.Const xs ys vs d = const_says d
step Name.Constant xs ys vs d = constant_says d
step Name.Show xs ys vs d = show_says d
step Name.Defined xs ys vs d = defined_says d
step (Name.Rule of_type) xs ys vs d = rule_says of_type d
step Name.Head xs ys vs d = head_says d
step Name.LeftGuard xs ys vs d = left_guard_says d
step Name.RightGuard xs ys vs d = right_guard_says d
step Name.ChoiceElement xs ys vs d = choice_element_says d
step Name.Condition xs ys vs d = condition_says d
step Name.Literals xs ys vs d = literals_say d
step Name.Literal xs ys vs d = literal_says d
step Name.Body xs ys vs d = body_says d
step Name.OpenItem xs ys vs d = open_item_says d
step Name.Conditional xs ys vs d = conditional_says d
step Name.Aggregate xs ys vs d = aggregate_says d
step Name.AggElement xs ys vs d = agg_element_says d
step Name.Relation xs ys vs d = relation_says d
step Name.Atom xs ys vs d = atom_says d
step Name.Arguments xs ys vs d = arguments_say d
step Name.Ident xs ys vs d = ident_says d
step Name.Term xs ys vs d = term_says d
step Name.Sum xs ys vs d = sum_says d
step Name.Product xs ys vs d = product_says d
step Name.Unary xs ys vs d = unary_says d
step Name.Primary xs ys vs d = primary_says d
step Name.Preference xs ys vs d = preference_says d
step Name.Optimize xs ys vs d = optimize_says d
step Name.Kind xs ys vs d = kind_says d
step Name.Element xs ys vs d = element_says d
step Name.Given xs ys vs d = given_says d
step Name.Domain xs ys vs d = domain_says d
step Name.Ranked xs ys vs d = ranked_says d
step Name.Target xs ys vs d = target_says d
step Name.Formula xs ys vs d = formula_says d
step Name.Conjunction xs ys vs d = conjunction_says d
step Name.Member xs ys vs d = member_says d

good_of : {n : Name} {xs ys : List Fine} {v : Value} → Has (Call n) xs ys (v ∷ []) → Says n v
good_of (Reads.call m) = m

same_program : {ss ts : List Statement} → program ss ≡ program ts → ss ≡ ts
same_program e = cc

good_text : {whole of_type : Bool} (part : PartKind) (ss : List Statement) → is_of_type part ≡ of_type → Says (Name.Text whole of_type) (program ss) → GoodProgram whole part ss
good_text part ss t s = let e = same_program s.1 in let g = s.2 part t in rw (sym e) at g

-- the statements of a text read back
statements_good : {whole : Bool} (part : PartKind) (text : List ℕ) (file : ℕ) (ts : List Token) (from to : ℕ) (ss : List Statement) → IsUtf8 text → TokenReads text from ts to
    → IsText grammar (Name.Text whole (is_of_type part)) (lexemes_of text file ts) (program ss) → GoodProgram whole part ss
statements_good part text file ts from to ss u r d =
    let q = fine_tokens text file u r in
    let l = lift q.0 q.1 d in
    good_text part ss refl (good_of (read step l.derives))

-- ---- without what changes nothing

changing_alone : {whole of_type : Bool} {s : Statement} (part : PartKind) (ss : List Statement) → GoodStatement whole of_type s → changing part (s ∷ ss) ≡ s ∷ changing part ss
changing_alone part ss (GoodStatement.rule h) = refl
changing_alone part ss (GoodStatement.const h c) = refl
changing_alone part ss GoodStatement.show_none = refl
changing_alone part ss (GoodStatement.show h n) = refl
changing_alone part ss (GoodStatement.defined h n) = refl
changing_alone part ss (GoodStatement.preference h c gs) = refl
changing_alone part ss (GoodStatement.optimize h) = refl

good_as : {whole : Bool} {part : PartKind} {ss ts : List Statement} → ss ≡ ts → GoodProgram whole part ts → GoodProgram whole part ss
good_as e g = rw (sym e) at g

changing_good : {whole : Bool} (part : PartKind) (ss : List Statement) → GoodProgram whole part ss → GoodProgram whole part (changing part ss)
changing_good part [] GoodProgram.none = GoodProgram.none
changing_good part (s ∷ ss) (GoodProgram.alone g gs) = good_as (changing_alone part ss g) (GoodProgram.alone g (changing_good part ss gs))
changing_good {whole = whole} part (statements.Part file at next ∷ ss) (GoodProgram.opening g gs) = by (same_part part next) refl (changing_good next ss gs)
  where
    by : (b : Bool) → same_part part next ≡ b → GoodProgram whole next (changing next ss) → GoodProgram whole part (cond b (changing part ss) (statements.Part file at next ∷ changing next ss))
    by true e h = subst (λ (p : PartKind). GoodProgram whole p (changing p ss)) (same_part_is part next e) h
    by false e h = GoodProgram.opening g h

-- ---- the law

-- a text that is UTF-8 is read to its end
whole_text : (text : List ℕ) → IsUtf8 text → take (utf8_valid_len text) text ≡ text
whole_text text u = ap (λ n. take n text) (utf8_valid_len-IsUtf8 text u) ∙ take-length text

no_cut : (n : ℕ) → nat_lt n n ≡ false
no_cut n = grind (arith, nat_tests)

lexemes_are : (text : List ℕ) (file : ℕ) (ts : List Token) → IsUtf8 text → IsTokens text ts → AreLexemes text file (lexemes_of text file ts) (length text)
lexemes_are text file ts u r =
    let e = whole_text text u in
    record { tokens = ts; reads = subst (λ t. ReadsUpTo t ts (length text)) (sym e) (record { reads = r; stops = end_begins_nothing text }); are = ap (λ t. lexemes_of t file ts) (sym e) }

is_read : (whole : Bool) (part : PartKind) (text : List ℕ) (file : ℕ) (ts : List Token) (ss : List Statement) → IsTokens text ts → IsText grammar (Name.Text whole (is_of_type part)) (lexemes_of text file ts) (program ss)
    → changing part ss ≡ ss → first_limit (lexemes_of text file ts) ≡ None → IsUtf8 text → IsReading whole part text file (Ok (record { statements = ss }))
is_read whole part text file ts ss r d c f u = IsReading.program (lexemes_are text file ts u r) (IsOutcome.good d f (no_cut (length text))) (sym c)

read_back : (whole : Bool) (part : PartKind) (p : Program) → GoodProgram whole part p.statements → changing part p.statements ≡ p.statements → all_in_bounds (formulas_of p.statements) ≡ true → Each HasRoom p.statements → (file : ℕ) → ReadsBack whole part p file
read_back whole part p g c f h file =
    let q = tokens_of file (canonical_pieces p) (lines_clear part p.statements [] g) in
    let r = text_read part p.statements g q.spelled in
    let kept = none_left_out part r.read p.statements c r.same in
    let bounds = ap all_in_bounds (sym (same_formulas r.read) ∙ (ap formulas_of r.same ∙ same_formulas p.statements)) ∙ f in
    let text = lines_text p.statements h in
    let none = neither _ (lines_within p.statements h q.spelled 0) (other_first _ (formulas_of r.read) (text_tells r.text) bounds) in
    record {
      statements = r.read;
      are = record { tokens = q.tokens; are = q.are; text_is = r.text };
      same = r.same;
      no_limit = none;
      is_utf8 = text;
      is_read = is_read whole part (canonical_text p) file q.tokens r.read q.are r.text kept none text;
    }

room_as : {ss ts : List Statement} → ss ≡ ts → Each HasRoom ts → Each HasRoom ss
room_as e h = rw (sym e) at h

law_of : {whole : Bool} (part : PartKind) (ss : List Statement) (p : Program) → GoodProgram whole part ss → all_in_bounds (formulas_of ss) ≡ true → Each HasRoom ss → p.statements ≡ changing part ss → (other : ℕ) → ReadsBack whole part p other
law_of {whole = whole} part ss p g f h e other =
    read_back whole part p (good_as e (changing_good part ss g)) (ap (changing part) e ∙ (changing_again part ss ∙ sym e)) (ap all_in_bounds (ap formulas_of e ∙ changing_formulas part ss) ∙ f) (room_as e (room_kept part ss h)) other

text_program : (n : Name) (xs : List Lexeme) (end : ℕ) (b : Bool) (ss : List Statement) → IsOutcome n xs end b (Ok (program ss)) → IsText grammar n xs (program ss)
text_program n xs end b ss (IsOutcome.good d f c) = d

unlimited : (n : Name) (xs : List Lexeme) (end : ℕ) (b : Bool) (ss : List Statement) → IsOutcome n xs end b (Ok (program ss)) → first_limit xs ≡ None
unlimited n xs end b ss (IsOutcome.good d f c) = f

from_lexemes : {n : Name} {xs ys : List Lexeme} {v : Value} → xs ≡ ys → IsText grammar n xs v → IsText grammar n ys v
from_lexemes e d = rw e at d

pub law : (whole : Bool) (part : PartKind) (bytes : List ℕ) (file : ℕ) (p : Program) → IsReading whole part bytes file (Ok p) → (other : ℕ) → ReadsBack whole part p other
law whole part bytes file p (IsReading.program {xs = xs} {end = end} {all = all} a o e) other =
    let d = from_lexemes a.are (text_program _ xs end _ all o) in
    let none = ap first_limit (sym a.are) ∙ unlimited _ xs end _ all o in
    law_of part all p (statements_good part _ file a.tokens 0 end all (longest_front bytes) a.reads.reads d) (accepted o) (statements_room _ file a.tokens 0 end all (longest_front bytes) a.reads.reads d none) e other

-- ---- the canonical text tells no places

same_item : (i : BodyItem) → item_pieces (unplaced_item i) ≡ item_pieces i
same_item (items.Plain l) = refl
same_item (items.All at l ls) = refl
same_item (items.Agg n l f es r) = refl

same_separator : (i : BodyItem) → separator (unplaced_item i) ≡ separator i
same_separator (items.Plain l) = refl
same_separator (items.All at l ls) = refl
same_separator (items.Agg n l f es r) = refl

same_body : (is : List BodyItem) → body_pieces (map unplaced_item is) ≡ body_pieces is
same_body [] = refl
same_body (i ∷ []) = same_item i
same_body (i ∷ j ∷ js) = ap (λ ps. ps ++ separator (unplaced_item i) ++ body_pieces (map unplaced_item (j ∷ js))) (same_item i) ∙ (ap (λ ps. item_pieces i ++ ps ++ body_pieces (map unplaced_item (j ∷ js))) (same_separator i) ∙ ap (λ ps. item_pieces i ++ separator i ++ ps) (same_body (j ∷ js)))

same_clause : (h : HeadForm) (is : List BodyItem) → clause_pieces h (map unplaced_item is) ≡ clause_pieces h is
same_clause heads.Nothing is = ap (λ ps. spaced_behind (codes ":-") ++ ps) (same_body is)
same_clause (heads.One a) [] = refl
same_clause (heads.One a) (i ∷ is) = ap (λ ps. atom_pieces a ++ spaced (codes ":-") ++ ps) (same_body (i ∷ is))
same_clause (heads.Choice l es r) [] = refl
same_clause (heads.Choice l es r) (i ∷ is) = ap (λ ps. head_pieces (heads.Choice l es r) ++ spaced (codes ":-") ++ ps) (same_body (i ∷ is))

same_elements : (es : List Element) → map element_pieces (map unplaced_element es) ≡ map element_pieces es
same_elements [] = refl
same_elements (e ∷ es) = ap (λ ps. element_pieces e ∷ ps) (same_elements es)

same_line : (s : Statement) → line_pieces (unplaced s) ≡ line_pieces s
same_line (statements.Rule r) = ap (λ ps. ps ++ spelled (codes ".") ++ LineFeed ∷ []) (same_clause r.head r.body)
same_line (statements.Const file at name value) = refl
same_line (statements.Show signature) = refl
same_line (statements.Defined name arity) = refl
same_line (statements.Part file at next) = refl
same_line (statements.Preference p) = ap (λ ps. spelled (codes "#preference") ++ in_parentheses (spelled p.name ++ spaced_behind (codes ",") ++ kind_pieces p.kind) ++ in_braces (semicolons ps) ++ spelled (codes ".") ++ LineFeed ∷ []) (same_elements p.elements)
same_line (statements.Optimize file at name) = refl

same_lines : (ss : List Statement) → flat_map line_pieces (map unplaced ss) ≡ flat_map line_pieces ss
same_lines [] = refl
same_lines (s ∷ ss) = ap (λ ps. ps ++ flat_map line_pieces (map unplaced ss)) (same_line s) ∙ ap (λ ps. line_pieces s ++ ps) (same_lines ss)

pub alike_texts : (p q : Program) → map unplaced p.statements ≡ map unplaced q.statements → canonical_text p ≡ canonical_text q
alike_texts p q e = ap text_of (sym (same_lines p.statements) ∙ (ap (flat_map line_pieces) e ∙ same_lines q.statements))

-- ---- what is read of a canonical text

no_memory : (q : Program) → Ok q ≢ Err faults.Memory
no_memory q e = cc

same_read : (q : Program) (ss : List Statement) (r s : Result Program ParseFault) → r ≡ Ok q → s ≡ Ok (record { statements = ss }) → r ≡ s → q.statements ≡ ss
same_read q ss r s e f h = cc

pub same_again : (whole : Bool) (part : PartKind) (bytes : List ℕ) (file : ℕ) (p q : Program) → IsReading whole part bytes file (Ok p) → (other : ℕ) → IsReading whole part (canonical_text p) other (Ok q) → map unplaced q.statements ≡ map unplaced p.statements
same_again whole part bytes file p q r other s =
    let b = law whole part bytes file p r other in
    let read : Program = record { statements = b.statements } in
    ap (map unplaced) (same_read q b.statements (Ok q) (Ok read) refl refl (one_answer (Ok q) (Ok read) s b.is_read (no_memory q) (no_memory read))) ∙ b.same

pub only_memory : (whole : Bool) (part : PartKind) (bytes : List ℕ) (file : ℕ) (p : Program) (f : ParseFault) → IsReading whole part bytes file (Ok p) → (other : ℕ) → IsReading whole part (canonical_text p) other (Err f) → f ≡ faults.Memory
only_memory whole part bytes file p f r other s = by_fault f s
  where
    never : (g : ParseFault) (a : Result Program ParseFault) → a ≡ Err g → a ≢ Err faults.Memory → IsReading whole part (canonical_text p) other a → g ≡ faults.Memory
    never g a k h t =
        let b = law whole part bytes file p r other in
        let read : Program = record { statements = b.statements } in
        absurd (let e : a ≡ Ok read = one_answer a (Ok read) t b.is_read h (no_memory read) in cc)

    by_fault : (g : ParseFault) → IsReading whole part (canonical_text p) other (Err g) → g ≡ faults.Memory
    by_fault (faults.Syntax at) t = never (faults.Syntax at) (Err (faults.Syntax at)) refl (λ e. cc) t
    by_fault (faults.Unsupported construct at) t = never (faults.Unsupported construct at) (Err (faults.Unsupported construct at)) refl (λ e. cc) t
    by_fault (faults.Limit which at) t = never (faults.Limit which at) (Err (faults.Limit which at)) refl (λ e. cc) t
    by_fault faults.Memory t = refl
