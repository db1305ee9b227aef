-- Where the first limit of formulas stands, also where the text breaks behind it.
use Rattle.std.proofs.Common.{◌≡◌, ℕ, ◌+◌, ◌<◌, ◌≤◌, Bool, List, [], ◌∷◌, ◌++◌, refl, sym, ap, subst, ◌∙◌, append_assoc, arith, length-append}
use Rattle.std.specs.Prelude.{Option, None, Some, drop, length, take}
use Rattle.grammar.specs.Form.{Derives}
use Rattle.grammar.specs.Form.Form.{Call}
use Rattle.ap_grammar.specs.Grammar.{Name, grammar}
use Rattle.ap_grammar.specs.Lexemes.{Lexeme}
use Rattle.ap_grammar.specs.Values.{Value}
use Rattle.ap_lexemes.specs.declared.limit.Limit.TheVariants.{Formula}
use Rattle.ap_lexemes.specs.declared.limit.LimitAt.{LimitAt}
use Rattle.ap_lexemes.specs.Limits.{first_limit, next_role, no_levels, role_of}
use Rattle.ap_lexemes.proofs.LimitLemmas.{same-first}
use Rattle.limit_law.specs.Depths.{scan}
use Rattle.limit_law.specs.Inside.{DeepBefore, GoOnAlike, IsUpTo, StandsBefore}
use Rattle.limit_law.proofs.FirstLimits.{FirstAt, first_at, left_at, left_behind, others_behind, same_limit}
use Rattle.limit_law.proofs.DeepEnds.{deep_stands, stands_up_to}
use Rattle.limit_law.proofs.Finds.{stands_deep}
use Rattle.limit_law.proofs.Limits.{limit_alike}

-- ---- there a formula that is too deep ends

stands_there : (xs more : List Lexeme) (l : LimitAt) → FirstAt no_levels 0 xs l → l.which ≡ Formula → GoOnAlike (next_role (drop l.index xs)) (next_role more) (next_role (drop (l.index + 1) xs)) → StandsBefore no_levels (take (l.index + 1) xs ++ more) more
stands_there xs more l p f e = record {
  before = p.before;
  here = p.here;
  are = others_behind xs more l p;
  stands = limit_alike (scan no_levels p.before) (role_of p.here.terminal) (next_role more) (next_role p.behind) alike ∙ (p.stands ∙ ap (λ w. Some w) f);
}
  where
    behind : drop (l.index + 1) xs ≡ p.behind
    behind = ap (drop (l.index + 1)) p.are ∙ left_behind p.before p.behind p.here l.index (omega (arith, p.number))

    there : drop l.index xs ≡ p.here ∷ p.behind
    there = ap (drop l.index) p.are ∙ left_at p.before p.behind p.here l.index (omega (arith, p.number))

    alike : GoOnAlike (role_of p.here.terminal) (next_role more) (next_role p.behind)
    alike = subst (λ ts. GoOnAlike (role_of p.here.terminal) (next_role more) (next_role ts)) behind (subst (λ ts. GoOnAlike (next_role ts) (next_role more) (next_role (drop (l.index + 1) xs))) there e)

pub deep_there : {whole of_type : Bool} {v : Value} (xs more : List Lexeme) (l : LimitAt) → first_limit xs ≡ Some l → l.which ≡ Formula → GoOnAlike (next_role (drop l.index xs)) (next_role more) (next_role (drop (l.index + 1) xs)) → Derives grammar (Call (Name.Text whole of_type)) (take (l.index + 1) xs ++ more) [] (v ∷ []) → DeepBefore (Name.Text whole of_type) (take (l.index + 1) xs ++ more) more
deep_there xs more l e f n d = stands_deep d (stands_there xs more l (first_at no_levels 0 xs l e) f n)

-- ---- none ends earlier

at_most : (m n : ℕ) → (n < m → ⊥) → m ≤ n
at_most m n h = grind arith

too_early : (front more behind : List Lexeme) (l : LimitAt) (n : ℕ) (o : Option LimitAt) → first_limit (front ++ more) ≡ o → IsUpTo o n → first_limit (front ++ behind) ≡ Some l → n < l.index → l.index + 1 ≡ length front → ⊥
too_early front more behind l n None e u f h i = u
too_early front more behind l n (Some m) e u f h i =
    let again = same-first front more behind m e (omega (arith, u, h, i)) in
    let same : m.index ≡ l.index = ap (λ (k : LimitAt). k.index) (same_limit m l (sym again ∙ f)) in
    omega (arith, u, h, same)

lengths : (before b more ending : List Lexeme) (here h : Lexeme) → before ++ (here ∷ more) ≡ b ++ (h ∷ ending) → length more < length ending → length b < length before
lengths before b more ending here h e i = let l : length (before ++ (here ∷ more)) ≡ length (b ++ (h ∷ ending)) = ap length e in grind (arith, length-append)

front_length : (before : List Lexeme) (here : Lexeme) → length (before ++ (here ∷ [])) ≡ length before + 1
front_length before here = grind (arith, length-append)

not_earlier : (before behind more ending : List Lexeme) (here : Lexeme) (l : LimitAt) → l.index ≡ length before → first_limit (before ++ (here ∷ behind)) ≡ Some l → StandsBefore no_levels (before ++ (here ∷ more)) ending → length more < length ending → ⊥
not_earlier before behind more ending here l n e h i =
    let shorter = lengths before h.before more ending here h.here h.are i in
    let front : before ++ (here ∷ more) ≡ (before ++ (here ∷ [])) ++ more = sym (append_assoc before (here ∷ []) more) in
    let reached : IsUpTo (first_limit (before ++ (here ∷ more))) (length h.before) = subst (λ ts. IsUpTo (first_limit ts) (length h.before)) (sym h.are) (stands_up_to h.before ending ending h.here (record { conjunction = refl; atom = refl }) (subst (λ ts. StandsBefore no_levels ts ending) h.are h)) in
    too_early (before ++ (here ∷ [])) more behind l (length h.before) (first_limit (before ++ (here ∷ more))) (ap first_limit (sym front)) reached (ap first_limit (append_assoc before (here ∷ []) behind) ∙ e) (omega (arith, n, shorter)) (omega (arith, n, front_length before here))

pub least_there : {whole of_type : Bool} (xs more ending : List Lexeme) (l : LimitAt) → first_limit xs ≡ Some l → DeepBefore (Name.Text whole of_type) (take (l.index + 1) xs ++ more) ending → length ending ≤ length more
least_there xs more ending l e d = by_place (first_at no_levels 0 xs l e)
  where
    by_place : FirstAt no_levels 0 xs l → length ending ≤ length more
    by_place p = at_most (length ending) (length more) (not_earlier p.before p.behind more ending p.here l (omega (arith, p.number)) (ap first_limit (sym p.are) ∙ e) (subst (λ ts. StandsBefore no_levels ts ending) (others_behind xs more l p) (deep_stands d)))
