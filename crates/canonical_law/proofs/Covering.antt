-- A canonical text goes beyond no limit of nesting or arity where the text that was read does not.
use Rattle.std.proofs.Common.{◌≡◌, ◌≢◌, ℕ, ◌+◌, ◌≤◌, Bool, true, false, cond, List, [], ◌∷◌, ◌++◌, refl, sym, ap, subst, ◌∙◌, arith}
use Rattle.std.specs.Prelude.{Option, None, Some, IfSome, codes, length}
use Rattle.std.specs.List.{flat_map}
use Rattle.grammar.specs.Fault.{IsText}
use Rattle.grammar.specs.Form.Form.{Call}
use Rattle.grammar.proofs.Interpret.{Reads, read}
use Rattle.ap_syntax.specs.declared.programs.PartKind.{PartKind}
use Rattle.ap_syntax.specs.declared.programs.Statement.{Statement}
use Rattle.ap_syntax.specs.Pieces.{Piece, spelled, text_of}
use Rattle.ap_syntax.specs.Pieces.Piece.{LineFeed}
use Rattle.std.specs.Str.{IsUtf8}
use Rattle.std.proofs.lemmas.Str.{IsUtf8-append, IsUtf8-nil}
use Rattle.ap_syntax.specs.Canonical.{line_pieces, statement_pieces}
use Rattle.ap_lex.specs.Tokens.{Reads as TokenReads}
use Rattle.ap_lex.specs.declared.token.Token.{Token}
use Rattle.ap_grammar.specs.Lexemes.{Lexeme}
use Rattle.ap_grammar.specs.Values.{Value}
use Rattle.ap_grammar.specs.Values.Value.{program}
use Rattle.ap_grammar.specs.Grammar.{Name, grammar, made, rule_of}
use Rattle.ap_grammar.specs.declared.terminals.Terminal.TheVariants as t
use Rattle.ap_lexemes.specs.Lexemes.{lexemes_of}
use Rattle.ap_lexemes.specs.Limits.{Levels, after, first_limit, limit_at, limit_from, next_role, no_levels, role_of}
use Rattle.ap_lexemes.specs.declared.limit.Limit.TheVariants.{Formula}
use Rattle.ap_lexemes.specs.declared.limit.LimitAt.{LimitAt}
use Rattle.ap_lexemes.specs.declared.role.Role.{Role}
use Rattle.ap_lexemes.specs.declared.role.Role.TheVariants as roles
use Rattle.ap_parse.specs.Changes.{changing, part_after, repeats}
use Rattle.limit_law.proofs.FirstLimits.{none_later}
use Rattle.canonical_law.proofs.Spells.{Spells, split, text_of_append}
use Rattle.canonical_law.proofs.Lists.{Each}
use Rattle.canonical_law.proofs.Rules.{dot_is_last}
use Rattle.canonical_law.proofs.Fine.{Fine, fine_tokens, lift, plain}
use Rattle.canonical_law.proofs.Costs.{Cost, Measures, Writes, measured, plain_measured, token_role, written_text}
use Rattle.canonical_law.proofs.Encoded.{ascii_text}
use Rattle.canonical_law.proofs.Room.{OnlyFormula, no_limit_behind, only_formula, only_or}
use Rattle.canonical_law.proofs.Covers.{Covers, CoversProgram, Has, IsLine, Lines}
use Rattle.canonical_law.proofs.CoverTerms.{arguments_cover, atom_covers, ident_covers, primary_covers, product_covers, sum_covers, term_covers, unary_covers}
use Rattle.canonical_law.proofs.CoverRules.{agg_element_covers, aggregate_covers, body_covers, choice_element_covers, condition_covers, conditional_covers, head_covers, left_guard_covers, literal_covers, literals_cover, open_item_covers, relation_covers, right_guard_covers, rule_covers}
use Rattle.canonical_law.proofs.CoverPreferences.{conjunction_covers, domain_covers, element_covers, formula_covers, given_covers, member_covers, ranked_covers, target_covers}
use Rattle.canonical_law.proofs.CoverStatements.{base_opening_covers, base_section_covers, const_covers, constant_covers, defined_covers, kind_covers, optimize_covers, preference_covers, show_covers, statement_covers, text_covers, type_opening_covers, type_section_covers}

-- ---- what is written of each rule's value costs no more than its tokens

step : (n : Name) (xs ys : List Fine) (vs : List Value) → Has (rule_of n) xs ys vs → Covers n xs ys (made n vs)
step (Name.Text whole of_type) xs ys vs d = text_covers whole of_type d
step (Name.BaseSection whole) xs ys vs d = base_section_covers whole d
step (Name.TypeSection whole) xs ys vs d = type_section_covers whole d
step Name.BaseOpening xs ys vs d = base_opening_covers d
step Name.TypeOpening xs ys vs d = type_opening_covers d
step (Name.Statement whole of_type) xs ys vs d = statement_covers whole of_type d
step (Name.One of_type) xs ys vs d = tt
step Name.Const xs ys vs d = const_covers d
step Name.Constant xs ys vs d = constant_covers d
step Name.Show xs ys vs d = show_covers d
step Name.Defined xs ys vs d = defined_covers d
step (Name.Rule of_type) xs ys vs d = rule_covers of_type d
step Name.Head xs ys vs d = head_covers d
step Name.LeftGuard xs ys vs d = left_guard_covers d
step Name.RightGuard xs ys vs d = right_guard_covers d
step Name.ChoiceElement xs ys vs d = choice_element_covers d
step Name.Condition xs ys vs d = condition_covers d
step Name.Literals xs ys vs d = literals_cover d
step Name.Literal xs ys vs d = literal_covers d
step Name.Body xs ys vs d = body_covers d
step Name.OpenItem xs ys vs d = open_item_covers d
step Name.Conditional xs ys vs d = conditional_covers d
step Name.Aggregate xs ys vs d = aggregate_covers d
step Name.AggElement xs ys vs d = agg_element_covers d
step Name.Relation xs ys vs d = relation_covers d
step Name.Atom xs ys vs d = atom_covers d
step Name.Arguments xs ys vs d = arguments_cover d
step Name.Ident xs ys vs d = ident_covers d
step Name.Term xs ys vs d = term_covers d
step Name.Sum xs ys vs d = sum_covers d
step Name.Product xs ys vs d = product_covers d
step Name.Unary xs ys vs d = unary_covers d
step Name.Primary xs ys vs d = primary_covers d
step Name.Preference xs ys vs d = preference_covers d
step Name.Optimize xs ys vs d = optimize_covers d
step Name.Kind xs ys vs d = kind_covers d
step Name.Element xs ys vs d = element_covers d
step Name.Given xs ys vs d = given_covers d
step Name.Domain xs ys vs d = domain_covers d
step Name.Ranked xs ys vs d = ranked_covers d
step Name.Target xs ys vs d = target_covers d
step Name.Formula xs ys vs d = formula_covers d
step Name.Conjunction xs ys vs d = conjunction_covers d
step Name.Member xs ys vs d = member_covers d

-- ---- statements that cost no more than the limits allow

pub record HasRoom (s : Statement) : Type 0 where
  pub front : List Piece
  pub pieces : statement_pieces s ≡ front ++ spelled (codes ".")
  pub cost : Cost
  pub writes : Writes front cost
  pub nesting : cost.nesting ≤ 32
  pub arity : cost.arity ≤ 31

-- behind a dot nothing is open
after_dot : (s : Levels) (r : Role) → r ≡ roles.Dot → after s r ≡ no_levels
after_dot s r e = rw e refl

no_dot_limit : (s : Levels) (r next : Role) → r ≡ roles.Dot → IfSome (limit_at s r next) (λ l. l ≡ Formula)
no_dot_limit s r next e = rw e tt

outside : (n m : ℕ) → 0 + n ≤ 32 → m ≤ n → m ≤ 32
outside n m h i = omega (arith, h, i)

smaller : (n m : ℕ) → n ≤ 31 → m ≤ n → m ≤ 31
smaller n m h i = omega (arith, h, i)

nothing_inside : {A : Type 0} → 1 ≤ length (no_levels.outer) → A
nothing_inside h = absurd (omega (arith, h))

record NoneBehind (s : Statement) (ys : List Lexeme) : Type 0 where
  room : HasRoom s
  number : ℕ
  none : limit_from no_levels number ys ≡ None

line_room : {s : Statement} {xs ys : List Fine} → IsLine s xs ys → (i : ℕ) → limit_from no_levels i (plain xs) ≡ None → NoneBehind s (plain ys)
line_room {s = s} {xs = xs} {ys = ys} l i e =
    let b = no_limit_behind (plain_measured l.covered.measures) no_levels i (omega arith) (λ j. nothing_inside j) e in
    record {
      room = record { front = l.front; pieces = l.pieces; cost = l.covered.written; writes = l.covered.writes; nesting = outside l.covered.read.nesting l.covered.written.nesting b.nesting l.covered.nesting; arity = smaller l.covered.read.arity l.covered.written.arity b.arity l.covered.arity };
      number = b.number + 1;
      none = subst (λ levels. limit_from levels (b.number + 1) (plain ys) ≡ None) (after_dot b.levels (role_of l.dot.token.terminal) (ap role_of l.is_dot))
          (none_later (limit_at b.levels (role_of l.dot.token.terminal) (next_role (plain ys))) b.number (limit_from (after b.levels (role_of l.dot.token.terminal)) (b.number + 1) (plain ys)) b.none);
    }

lines_room : {ss : List Statement} {xs ys : List Fine} → Lines ss xs ys → (i : ℕ) → limit_from no_levels i (plain xs) ≡ None → Each HasRoom ss
lines_room Lines.none i e = Each.none
lines_room (Lines.more l ls) i e = let r = line_room l i e in Each.more r.room (lines_room ls r.number r.none)

-- those that are left of a program
pub room_kept : (part : PartKind) (ss : List Statement) → Each HasRoom ss → Each HasRoom (changing part ss)
room_kept part [] Each.none = Each.none
room_kept part (s ∷ ss) (Each.more h hs) = by (repeats part s) (room_kept part ss hs) (room_kept (part_after part s) ss hs)
  where
    by : (b : Bool) → Each HasRoom (changing part ss) → Each HasRoom (changing (part_after part s) ss) → Each HasRoom (cond b (changing part ss) (s ∷ changing (part_after part s) ss))
    by true k l = k
    by false k l = Each.more h l

-- ---- their canonical text

spells_as : {ps qs : List Piece} {xs ys : List Lexeme} → ps ≡ qs → Spells ps xs ys → Spells qs xs ys
spells_as e s = rw e at s

from_outside : (n : ℕ) → n ≤ 32 → 0 + n ≤ 32
from_outside n h = omega (arith, h)

pub lines_within : (ss : List Statement) → Each HasRoom ss → {xs : List Lexeme} → Spells (flat_map line_pieces ss) xs [] → (i : ℕ) → OnlyFormula (limit_from no_levels i xs)
lines_within [] Each.none Spells.nothing i = tt
lines_within (s ∷ ss) (Each.more h hs) {xs = xs} q i =
    let line = split (line_pieces s) q in
    let whole = split (statement_pieces s) line.1 in
    let parts = split h.front (spells_as h.pieces whole.1) in
    let dot = dot_is_last parts.2 in
    statement_within dot.0 dot.2 (up_to dot.1 (measured h.writes parts.1)) (lines_within ss hs (line_ends whole.2 line.2))
  where
    up_to : {ms ns : List Lexeme} → ms ≡ ns → Measures token_role xs ms h.cost → Measures token_role xs ns h.cost
    up_to e m = rw e at m

    line_ends : {ms ns : List Lexeme} → Spells (LineFeed ∷ []) ms ns → Spells (flat_map line_pieces ss) ns [] → Spells (flat_map line_pieces ss) ms []
    line_ends (Spells.line Spells.nothing) r = r

    statement_within : {ns : List Lexeme} (x : Lexeme) → x.terminal ≡ t.Dot → Measures token_role xs (x ∷ ns) h.cost → ((n : ℕ) → OnlyFormula (limit_from no_levels n ns)) → OnlyFormula (limit_from no_levels i xs)
    statement_within {ns = ns} x e m r =
        only_formula m no_levels i (from_outside h.cost.nesting h.nesting) h.arity (λ j. nothing_inside j)
        (λ levels n o c. only_or (limit_at levels (role_of x.terminal) (next_role ns)) n (limit_from (after levels (role_of x.terminal)) (n + 1) ns) (no_dot_limit levels (role_of x.terminal) (next_role ns) (ap role_of e))
        (subst (λ ls. OnlyFormula (limit_from ls (n + 1) ns)) (sym (after_dot levels (role_of x.terminal) (ap role_of e))) (r (n + 1))))

line_text : {s : Statement} → HasRoom s → IsUtf8 (text_of (line_pieces s))
line_text {s = s} h =
    let front = IsUtf8-append (text_of h.front) (codes ".") (written_text h.writes) (ascii_text (codes ".") refl) in
    let whole = subst IsUtf8 (sym (text_of_append h.front (spelled (codes "."))) ∙ ap text_of (sym h.pieces)) front in
    subst IsUtf8 (sym (text_of_append (statement_pieces s) (LineFeed ∷ []))) (IsUtf8-append (text_of (statement_pieces s)) (codes "\n") whole (ascii_text (codes "\n") refl))

pub lines_text : (ss : List Statement) → Each HasRoom ss → IsUtf8 (text_of (flat_map line_pieces ss))
lines_text [] Each.none = IsUtf8-nil
lines_text (s ∷ ss) (Each.more h hs) = subst IsUtf8 (sym (text_of_append (line_pieces s) (flat_map line_pieces ss))) (IsUtf8-append (text_of (line_pieces s)) (text_of (flat_map line_pieces ss)) (line_text h) (lines_text ss hs))

-- there is none where there is neither one of formulas nor another one
pub neither : (o : Option LimitAt) → OnlyFormula o → IfSome o (λ l. l.which ≢ Formula) → o ≡ None
neither None h k = refl
neither (Some l) h k = absurd (k h)

-- ---- texts

covers_of : {n : Name} {xs ys : List Fine} {v : Value} → Reads Rattle.canonical_law.proofs.Fine.fine_grammar Covers (Call n) xs ys (v ∷ []) → Covers n xs ys v
covers_of (Reads.call m) = m

same_program : {ss ts : List Statement} → program ss ≡ program ts → ss ≡ ts
same_program e = cc

text_room : {xs ys : List Fine} {ss : List Statement} → CoversProgram xs ys (program ss) → first_limit (plain xs) ≡ None → Each HasRoom ss
text_room {ss = ss} c e = subst (Each HasRoom) (sym (same_program c.is)) (lines_room c.lines 0 e)

-- the statements of a text without limits
pub statements_room : {n : Bool} {of_type : Bool} (text : List ℕ) (file : ℕ) (ts : List Token) (from to : ℕ) (ss : List Statement) → IsUtf8 text → TokenReads text from ts to
    → IsText grammar (Name.Text n of_type) (lexemes_of text file ts) (program ss) → first_limit (lexemes_of text file ts) ≡ None → Each HasRoom ss
statements_room text file ts from to ss u r d e =
    let q = fine_tokens text file u r in
    let l = lift q.0 q.1 d in
    text_room (covers_of (read step l.derives)) (ap first_limit q.1 ∙ e)
