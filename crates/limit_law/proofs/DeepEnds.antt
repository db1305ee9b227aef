-- Where a formula that is too deep ends inside a text a limit stands.
use Rattle.std.proofs.Common.{◌≡◌, ℕ, ◌+◌, ◌<◌, Bool, List, [], ◌∷◌, ◌++◌, sym, ap, subst, ◌∙◌, append_assoc, arith, length-append}
use Rattle.std.specs.Prelude.{Option, None, Some, length}
use Rattle.std.proofs.lemmas.List.{append_cancel_right}
use Rattle.ap_syntax.specs.declared.preferences.Formula.{Formula as FormulaTree}
use Rattle.grammar.specs.Form.{Derives}
use Rattle.grammar.specs.Form.Form.{Call}
use Rattle.ap_grammar.specs.declared.terminals.Terminal.TheVariants as t
use Rattle.ap_grammar.specs.Grammar.{Name, grammar}
use Rattle.ap_grammar.specs.Lexemes.{Lexeme}
use Rattle.ap_grammar.specs.Values.Value.{formula}
use Rattle.ap_lexemes.specs.declared.limit.Limit.{Limit}
use Rattle.ap_lexemes.specs.declared.limit.Limit.TheVariants.{Formula}
use Rattle.ap_lexemes.specs.declared.limit.LimitAt.{LimitAt}
use Rattle.ap_lexemes.specs.Limits.{Levels, after, first_limit, limit_at, limit_from, limit_or, next_role, no_levels, role_of}
use Rattle.limit_law.specs.Depths.{depth, scan}
use Rattle.limit_law.specs.Stands.{IsConjunction, IsFormula}
use Rattle.limit_law.specs.Inside.{DeepBefore, EndsBefore, GoOnAlike, IsNode, IsUpTo, StandsBefore}
use Rattle.limit_law.proofs.Quiet.{scan_append}
use Rattle.limit_law.proofs.Last.{stands_before}
use Rattle.limit_law.proofs.Limits.{limit_alike, limit_behind, limit_of_part}
use Rattle.limit_law.proofs.Marked.{Front, tokens_of}
use Rattle.limit_law.proofs.Places.{Place, conjunction_placed, formula_placed, further_no_and, further_no_open, members_no_open}
use Rattle.limit_law.proofs.Rules.{behind, conjunction_behind, conjunction_last}

stands_behind : (s : Levels) (read : List Lexeme) {xs ys ending : List Lexeme} → xs ≡ read ++ ys → StandsBefore (scan s read) ys ending → StandsBefore s xs ending
stands_behind s read {ending = ending} e h = record {
  before = read ++ h.before;
  here = h.here;
  are = e ∙ (ap (λ ts. read ++ ts) h.are ∙ sym (append_assoc read h.before (h.here ∷ ending)));
  stands = subst (λ l. limit_at l (role_of h.here.terminal) (next_role ending) ≡ Some Formula) (sym (scan_append s read h.before)) h.stands;
}

-- ---- behind a node

disjunction_stands : {whole of_type : Bool} {xs ending : List Lexeme} {f : FormulaTree} → IsNode Name.Formula Name.Conjunction t.Or (Name.Text whole of_type) xs ending f → 64 < depth f → StandsBefore no_levels xs ending
disjunction_stands {xs = xs} {ending = ending} {f = f} n h = at_place (formula_placed n.inside no_levels) (tokens_of n.derives)
  where
    at_place : Place Name.Formula n.start n.stop no_levels xs → Front n.start ending → StandsBefore no_levels xs ending
    at_place p front =
        let i : IsFormula (scan no_levels p.before) front.read ending f = record { fresh = p.begins; first = n.first; derives = subst (λ ts. Derives grammar (Call Name.Formula) ts ending (formula n.first f ∷ [])) front.tokens n.derives } in
        let b = behind i in
        stands_behind no_levels p.before (p.tokens ∙ ap (λ ts. p.before ++ ts) front.tokens) (stands_before (scan no_levels p.before) front.read ending b.last (further_no_open n.further p.follows) (limit_behind (scan (scan no_levels p.before) front.read).level (next_role ending) (depth f) b.level (further_no_and n.further p.follows) h))

conjunction_stands : {whole of_type : Bool} {xs ending : List Lexeme} {f : FormulaTree} → IsNode Name.Conjunction Name.Member t.And (Name.Text whole of_type) xs ending f → 64 < depth f → StandsBefore no_levels xs ending
conjunction_stands {xs = xs} {ending = ending} {f = f} n h = at_place (conjunction_placed n.inside no_levels) (tokens_of n.derives)
  where
    at_place : Place Name.Conjunction n.start n.stop no_levels xs → Front n.start ending → StandsBefore no_levels xs ending
    at_place p front =
        let i : IsConjunction (scan no_levels p.before) front.read ending f = record { conjunction = p.begins.conjunction; negated = p.begins.negated; member = p.begins.member; first = n.first; derives = subst (λ ts. Derives grammar (Call Name.Conjunction) ts ending (formula n.first f ∷ [])) front.tokens n.derives } in
        stands_behind no_levels p.before (p.tokens ∙ ap (λ ts. p.before ++ ts) front.tokens) (stands_before (scan no_levels p.before) front.read ending (conjunction_last i) (members_no_open n.further p.follows) (limit_of_part (scan (scan no_levels p.before) front.read).level (next_role ending) (depth f) (conjunction_behind i) h))

node_stands : {whole of_type : Bool} {xs ending : List Lexeme} {f : FormulaTree} → EndsBefore (Name.Text whole of_type) xs ending f → 64 < depth f → StandsBefore no_levels xs ending
node_stands (EndsBefore.disjunction n) h = disjunction_stands n h
node_stands (EndsBefore.conjunction n) h = conjunction_stands n h

pub deep_stands : {whole of_type : Bool} {xs ending : List Lexeme} → DeepBefore (Name.Text whole of_type) xs ending → StandsBefore no_levels xs ending
deep_stands d = node_stands d.ends d.deep

-- ---- the first limit

up_to_either : (o : Option Limit) (i n : ℕ) (later : Option LimitAt) → IsUpTo later (i + 1 + n) → IsUpTo (limit_or o i later) (i + (1 + n))
up_to_either None i n later h = up_to_more later (i + 1 + n) (i + (1 + n)) (omega arith) h
  where
    up_to_more : (o : Option LimitAt) (n m : ℕ) → n ≡ m → IsUpTo o n → IsUpTo o m
    up_to_more o n m e h = subst (IsUpTo o) e h
up_to_either (Some l) i n later h = omega arith

up_to_here : (o : Option Limit) (w : Limit) (i : ℕ) (later : Option LimitAt) → o ≡ Some w → IsUpTo (limit_or o i later) (i + 0)
up_to_here None w i later e = cc
up_to_here (Some l) w i later e = omega arith

up_to_later : (o : Option LimitAt) (i : ℕ) (x : Lexeme) (before : List Lexeme) → IsUpTo o (i + (1 + length before)) → IsUpTo o (i + length (x ∷ before))
up_to_later o i x before h = subst (IsUpTo o) (omega arith) h

limit_up_to : (s : Levels) (i : ℕ) (before ending : List Lexeme) (here : Lexeme) → limit_at (scan s before) (role_of here.terminal) (next_role ending) ≡ Some Formula → IsUpTo (limit_from s i (before ++ (here ∷ ending))) (i + length before)
limit_up_to s i [] ending here e = up_to_here (limit_at s (role_of here.terminal) (next_role ending)) Formula i (limit_from (after s (role_of here.terminal)) (i + 1) ending) e
limit_up_to s i (x ∷ before) ending here e = up_to_later (limit_from s i (x ∷ (before ++ (here ∷ ending)))) i x before (up_to_either (limit_at s (role_of x.terminal) (next_role (before ++ (here ∷ ending)))) i (length before) (limit_from (after s (role_of x.terminal)) (i + 1) (before ++ (here ∷ ending))) (limit_up_to (after s (role_of x.terminal)) (i + 1) before ending here e))

same_length : (before other ending : List Lexeme) (here there : Lexeme) → before ++ (here ∷ ending) ≡ other ++ (there ∷ ending) → length other ≡ length before
same_length before other ending here there e = let l : length (before ++ (here ∷ ending)) ≡ length (other ++ (there ∷ ending)) = ap length e in grind (arith, length-append)

one_less : (before other ending : List Lexeme) (here there : Lexeme) → before ++ (here ∷ ending) ≡ other ++ (there ∷ ending) → before ++ (here ∷ []) ≡ other ++ (there ∷ [])
one_less before other ending here there e = append_cancel_right (before ++ (here ∷ [])) (other ++ (there ∷ [])) ending (append_assoc before (here ∷ []) ending ∙ (e ∙ sym (append_assoc other (there ∷ []) ending)))

same_front : (before other ending behind : List Lexeme) (here there : Lexeme) → before ++ (here ∷ ending) ≡ other ++ (there ∷ ending) → other ++ (there ∷ behind) ≡ before ++ (here ∷ behind)
same_front before other ending behind here there e =
    sym (append_assoc other (there ∷ []) behind) ∙ (ap (λ ts. ts ++ behind) (sym (one_less before other ending here there e)) ∙ append_assoc before (here ∷ []) behind)

same_here : (before other : List Lexeme) (here there : Lexeme) → before ++ (here ∷ []) ≡ other ++ (there ∷ []) → here ≡ there
same_here [] [] here there e = cc
same_here [] (y ∷ []) here there e = cc
same_here [] (y ∷ z ∷ other) here there e = cc
same_here (x ∷ []) [] here there e = cc
same_here (x ∷ z ∷ before) [] here there e = cc
same_here (x ∷ before) (y ∷ other) here there e = let rest : before ++ (here ∷ []) ≡ other ++ (there ∷ []) = cc in same_here before other here there rest

-- also where the tokens behind it are others, if they go on alike
pub stands_up_to : (before ending behind : List Lexeme) (here : Lexeme) → GoOnAlike (role_of here.terminal) (next_role ending) (next_role behind) → StandsBefore no_levels (before ++ (here ∷ ending)) ending → IsUpTo (first_limit (before ++ (here ∷ behind))) (length before)
stands_up_to before ending behind here n h =
    subst (IsUpTo (first_limit (before ++ (here ∷ behind)))) (omega (arith, same_length before h.before ending here h.here h.are))
    (subst (λ ts. IsUpTo (first_limit ts) (0 + length h.before)) (same_front before h.before ending behind here h.here h.are)
    (limit_up_to no_levels 0 h.before behind h.here (sym (limit_alike (scan no_levels h.before) (role_of h.here.terminal) (next_role ending) (next_role behind) alike) ∙ h.stands)))
  where
    alike : GoOnAlike (role_of h.here.terminal) (next_role ending) (next_role behind)
    alike = subst (λ (x : Lexeme). GoOnAlike (role_of x.terminal) (next_role ending) (next_role behind)) (same_here before h.before here h.here (one_less before h.before ending here h.here h.are)) n

pub deep_first : {whole of_type : Bool} (before ending behind : List Lexeme) (here : Lexeme) → GoOnAlike (role_of here.terminal) (next_role ending) (next_role behind) → DeepBefore (Name.Text whole of_type) (before ++ (here ∷ ending)) ending → IsUpTo (first_limit (before ++ (here ∷ behind))) (length before)
deep_first before ending behind here n d = stands_up_to before ending behind here n (deep_stands d)
