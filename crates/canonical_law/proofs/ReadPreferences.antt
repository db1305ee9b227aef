-- Preference statements that are read, read back.
use Rattle.std.proofs.Common.{◌≡◌, List, [], ◌∷◌, ◌++◌, Option, Some, None, refl, ap, ◌∙◌, append_assoc}
use Rattle.std.proofs.lemmas.List.{append-nil}
use Rattle.grammar.specs.Form.{◌⨾◌}
use Rattle.grammar.specs.Form.Form.{Tok, Call, Star}
use Rattle.grammar.proofs.Interpret.{Reads}
use Rattle.ap_syntax.specs.declared.terms.Literal.{Literal}
use Rattle.ap_syntax.specs.declared.terms.Term.{Term}
use Rattle.ap_syntax.specs.declared.preferences.Formula.{Formula}
use Rattle.ap_syntax.specs.declared.preferences.Formula.TheVariants as formulas
use Rattle.ap_syntax.specs.declared.preferences.Ranked.{Ranked}
use Rattle.ap_grammar.specs.declared.terminals.Terminal.TheVariants as t
use Rattle.ap_grammar.specs.Lexemes.{Lexeme}
use Rattle.ap_grammar.specs.Values.{Value, as_condition, as_formula, as_given, as_ranked, as_target, as_term, collected, first_of, found, or_empty}
use Rattle.ap_grammar.specs.Values.Value.{formula, ranked, target, token}
use Rattle.ap_grammar.specs.Grammar.{Name, conjunction_of, disjunction_of, made, many, or_nothing, rule_of}
use Rattle.canonical_law.proofs.Levels.{GoodTerm}
use Rattle.canonical_law.proofs.Lists.{Each}
use Rattle.canonical_law.proofs.Literals.{GoodLiteral}
use Rattle.canonical_law.proofs.Formulas.{GoodFormula, good_and, good_atomic, good_not, good_or}
use Rattle.canonical_law.proofs.Elements.{GoodElement, GoodGiven, GoodRanked, GoodTarget}
use Rattle.canonical_law.proofs.Fine.{Fine}
use Rattle.canonical_law.proofs.Says.{Has, Says, SaysFormula, SaysTerm}

-- ---- formulas

again : {v : Value} (s : SaysFormula v) → SaysFormula (formula s.first s.tree)
again s = record { first = s.first; tree = s.tree; is = refl; good = s.good }

not_atom : (x : Lexeme) (v : Value) → Says Name.Atom v → SaysFormula (made Name.Member (token x ∷ v ∷ []))
not_atom x v m = rw m.2 (record { first = x; tree = _; is = refl; good = good_not (formulas.Atom m.1) (good_atomic m.1 m.3) })

not_group : (x p : Lexeme) (v : Value) (c : Lexeme) → SaysFormula v → SaysFormula (made Name.Member (token x ∷ token p ∷ v ∷ token c ∷ []))
not_group x p v c s = rw s.is (record { first = x; tree = _; is = refl; good = good_not s.tree s.good })

group_alone : (p : Lexeme) (v : Value) (c : Lexeme) → SaysFormula v → SaysFormula (made Name.Member (token p ∷ v ∷ token c ∷ []))
group_alone p v c s = rw s.is (record { first = p; tree = s.tree; is = refl; good = s.good })

pub member_says : {xs ys : List Fine} {vs : List Value} → Has (rule_of Name.Member) xs ys vs → SaysFormula (made Name.Member vs)
member_says (Reads.seq (Reads.left (Reads.tok {t = x} e)) (Reads.left (Reads.call {v = v} m))) = not_atom x.token v m
member_says (Reads.seq (Reads.left (Reads.tok {t = x} e)) (Reads.right (Reads.seq (Reads.tok {t = p} f) (Reads.seq (Reads.call {v = v} m) (Reads.tok {t = c} g))))) = not_group x.token p.token v c.token m
member_says (Reads.seq (Reads.right Reads.empty) (Reads.left (Reads.call {v = v} m))) = rw m.2 (record { first = m.0; tree = _; is = refl; good = good_atomic m.1 m.3 })
member_says (Reads.seq (Reads.right Reads.empty) (Reads.right (Reads.seq (Reads.tok {t = p} f) (Reads.seq (Reads.call {v = v} m) (Reads.tok {t = c} g))))) = group_alone p.token v c.token m

record AreFormulas (vs : List Value) : Type 0 where
  formulas_are : List Formula
  are : collected as_formula vs ≡ formulas_are
  good : Each GoodFormula formulas_are

sign_formula : (sign : Lexeme) (v : Value) (vs : List Value) → SaysFormula v → AreFormulas vs → AreFormulas (token sign ∷ v ∷ vs)
sign_formula sign v vs s a = record { formulas_are = s.tree ∷ a.formulas_are; are = rw s.is (ap (λ fs. s.tree ∷ fs) a.are); good = Each.more s.good a.good }

members_behind : {xs ys : List Fine} {vs : List Value} → Has (Star (Tok t.And ⨾ Call Name.Member)) xs ys vs → AreFormulas vs
members_behind Reads.none = record { formulas_are = []; are = refl; good = Each.none }
members_behind (Reads.more (Reads.seq (Reads.tok {t = x} e) (Reads.call {v = v} m)) rest) = sign_formula x.token v _ m (members_behind rest)

conjunctions_behind : {xs ys : List Fine} {vs : List Value} → Has (Star (Tok t.Or ⨾ Call Name.Conjunction)) xs ys vs → AreFormulas vs
conjunctions_behind Reads.none = record { formulas_are = []; are = refl; good = Each.none }
conjunctions_behind (Reads.more (Reads.seq (Reads.tok {t = x} e) (Reads.call {v = v} m)) rest) = sign_formula x.token v _ m (conjunctions_behind rest)

good_conjunction : (f : Formula) (fs : List Formula) → GoodFormula f → Each GoodFormula fs → GoodFormula (conjunction_of (f ∷ fs))
good_conjunction f [] g gs = g
good_conjunction f (h ∷ fs) g gs = good_and f h fs (Each.more g gs)

good_disjunction : (f : Formula) (fs : List Formula) → GoodFormula f → Each GoodFormula fs → GoodFormula (disjunction_of (f ∷ fs))
good_disjunction f [] g gs = g
good_disjunction f (h ∷ fs) g gs = good_or f h fs (Each.more g gs)

conjunction_made : (v : Value) (vs : List Value) → SaysFormula v → AreFormulas vs → SaysFormula (made Name.Conjunction (v ∷ vs))
conjunction_made v vs s a = rw (s.is, a.are) (record { first = s.first; tree = conjunction_of (s.tree ∷ a.formulas_are); is = refl; good = good_conjunction s.tree a.formulas_are s.good a.good })

disjunction_made : (v : Value) (vs : List Value) → SaysFormula v → AreFormulas vs → SaysFormula (made Name.Formula (v ∷ vs))
disjunction_made v vs s a = rw (s.is, a.are) (record { first = s.first; tree = disjunction_of (s.tree ∷ a.formulas_are); is = refl; good = good_disjunction s.tree a.formulas_are s.good a.good })

pub conjunction_says : {xs ys : List Fine} {vs : List Value} → Has (rule_of Name.Conjunction) xs ys vs → SaysFormula (made Name.Conjunction vs)
conjunction_says (Reads.seq (Reads.call {v = v} m) rest) = conjunction_made v _ m (members_behind rest)

pub formula_says : {xs ys : List Fine} {vs : List Value} → Has (rule_of Name.Formula) xs ys vs → SaysFormula (made Name.Formula vs)
formula_says (Reads.seq (Reads.call {v = v} m) rest) = disjunction_made v _ m (conjunctions_behind rest)

-- ---- targets and ranks

pub target_says : {xs ys : List Fine} {vs : List Value} → Has (rule_of Name.Target) xs ys vs → Says Name.Target (made Name.Target vs)
target_says (Reads.left (Reads.call {v = v} m)) = rw m.is (m.first, _, refl, GoodTarget.for m.good)
target_says (Reads.right (Reads.seq (Reads.tok {t = x} e) (Reads.call {v = v} m))) = rw m.is (x.token, _, refl, GoodTarget.named m.good)

-- terms that stand before other values, which are no targets
record Before (vs : List Value) : Type 0 where
  terms : List Term
  are : (ws : List Value) → collected as_term (vs ++ ws) ≡ terms ++ collected as_term ws
  none : (ws : List Value) → found as_target (vs ++ ws) ≡ found as_target ws
  good : Each GoodTerm terms

comma_before : (comma : Lexeme) (v : Value) (vs : List Value) → SaysTerm v → Before vs → Before (token comma ∷ v ∷ vs)
comma_before comma v vs s a = record { terms = s.tree ∷ a.terms; are = λ ws. rw s.is (ap (λ ts. s.tree ∷ ts) (a.are ws)); none = λ ws. rw s.is (a.none ws); good = Each.more s.good a.good }

terms_before : {xs ys : List Fine} {vs : List Value} → Has (Star (Tok t.Comma ⨾ Call Name.Term)) xs ys vs → Before vs
terms_before Reads.none = record { terms = []; are = λ ws. refl; none = λ ws. refl; good = Each.none }
terms_before (Reads.more (Reads.seq (Reads.tok {t = c} e) (Reads.call {v = v} m)) rest) = comma_before c.token v _ m (terms_before rest)

first_before : (v : Value) (vs : List Value) → SaysTerm v → Before vs → Before (v ∷ vs)
first_before v vs s a = record { terms = s.tree ∷ a.terms; are = λ ws. rw s.is (ap (λ ts. s.tree ∷ ts) (a.are ws)); none = λ ws. rw s.is (a.none ws); good = Each.more s.good a.good }

some_before : {xs ys : List Fine} {vs : List Value} → Has (many (Call Name.Term) t.Comma) xs ys vs → Before vs
some_before (Reads.seq (Reads.call {v = v} m) rest) = first_before v _ m (terms_before rest)

weighed : (vs : List Value) (sign : Lexeme) (v : Value) → Before vs → Says Name.Target v → Says Name.Ranked (made Name.Ranked ((vs ++ token sign ∷ []) ++ v ∷ []))
weighed vs sign v a s =
    rw s.2 (
      first_of ((vs ++ token sign ∷ []) ++ target s.0 s.1 ∷ []),
      record { weights = a.terms; target = s.1 },
      ap (λ ts. ranked (first_of ((vs ++ token sign ∷ []) ++ target s.0 s.1 ∷ [])) (record { weights = ts; target = or_nothing (found as_target ((vs ++ token sign ∷ []) ++ target s.0 s.1 ∷ [])) })) (ap (collected as_term) (append_assoc vs (token sign ∷ []) (target s.0 s.1 ∷ [])) ∙ (a.are (token sign ∷ target s.0 s.1 ∷ []) ∙ append-nil a.terms))
          ∙ ap (λ o. ranked (first_of ((vs ++ token sign ∷ []) ++ target s.0 s.1 ∷ [])) (record { weights = a.terms; target = or_nothing o })) (ap (found as_target) (append_assoc vs (token sign ∷ []) (target s.0 s.1 ∷ [])) ∙ a.none (token sign ∷ target s.0 s.1 ∷ [])),
      record { weights = a.good; target = s.3 },
    )

unweighed : (v : Value) → Says Name.Target v → Says Name.Ranked (made Name.Ranked (v ∷ []))
unweighed v s = rw s.2 (s.0, _, refl, record { weights = Each.none; target = s.3 })

pub ranked_says : {xs ys : List Fine} {vs : List Value} → Has (rule_of Name.Ranked) xs ys vs → Says Name.Ranked (made Name.Ranked vs)
ranked_says (Reads.seq (Reads.right Reads.empty) (Reads.call {v = v} m)) = unweighed v m
ranked_says (Reads.seq (Reads.left (Reads.seq {us = us} n (Reads.tok {t = x} e))) (Reads.call {v = v} m)) = weighed us x.token v (some_before n) m

-- ---- elements

pub given_says : {xs ys : List Fine} {vs : List Value} → Has (rule_of Name.Given) xs ys vs → Says Name.Given (made Name.Given vs)
given_says (Reads.seq (Reads.tok e) (Reads.call {v = v} m)) = rw m.2 (_, refl, m.3)

pub domain_says : {xs ys : List Fine} {vs : List Value} → Has (rule_of Name.Domain) xs ys vs → Says Name.Domain (made Name.Domain vs)
domain_says (Reads.seq (Reads.tok e) (Reads.call {v = v} m)) = rw m.2 (_, _, refl, m.3)

-- ranks that stand before other values
record RanksBefore (vs : List Value) : Type 0 where
  ranks : List Ranked
  are : (ws : List Value) → collected as_ranked (vs ++ ws) ≡ ranks ++ collected as_ranked ws
  no_given : (ws : List Value) → found as_given (vs ++ ws) ≡ found as_given ws
  no_domain : (ws : List Value) → found as_condition (vs ++ ws) ≡ found as_condition ws
  good : Each GoodRanked ranks

rank_before : (sign : Lexeme) (v : Value) (vs : List Value) → Says Name.Ranked v → RanksBefore vs → RanksBefore (token sign ∷ v ∷ vs)
rank_before sign v vs s a = record { ranks = s.1 ∷ a.ranks; are = λ ws. rw s.2 (ap (λ rs. s.1 ∷ rs) (a.are ws)); no_given = λ ws. rw s.2 (a.no_given ws); no_domain = λ ws. rw s.2 (a.no_domain ws); good = Each.more s.3 a.good }

ranks_before : {xs ys : List Fine} {vs : List Value} → Has (Star (Tok t.Better ⨾ Call Name.Ranked)) xs ys vs → RanksBefore vs
ranks_before Reads.none = record { ranks = []; are = λ ws. refl; no_given = λ ws. refl; no_domain = λ ws. refl; good = Each.none }
ranks_before (Reads.more (Reads.seq (Reads.tok {t = x} e) (Reads.call {v = v} m)) rest) = rank_before x.token v _ m (ranks_before rest)

-- what stands behind the ranks
record Behind (ws : List Value) : Type 0 where
  given : Option Ranked
  given_is : found as_given ws ≡ given
  given_good : GoodGiven given
  domain : List Literal
  domain_is : or_empty (found as_condition ws) ≡ domain
  domain_good : Each GoodLiteral domain
  no_ranks : collected as_ranked ws ≡ []

element_made : (v : Value) (vs ws : List Value) → Says Name.Ranked v → RanksBefore vs → Behind ws → Says Name.Element (made Name.Element ((v ∷ vs) ++ ws))
element_made v vs ws s a b =
    rw s.2 (
      record { at = s.0.at; ranks = s.1 ∷ a.ranks; given = b.given; domain = b.domain },
      ap (λ rs. Value.element (record { at = s.0.at; ranks = s.1 ∷ rs; given = found as_given (vs ++ ws); domain = or_empty (found as_condition (vs ++ ws)) })) (a.are ws ∙ (ap (λ us. a.ranks ++ us) b.no_ranks ∙ append-nil a.ranks))
          ∙ (ap (λ g. Value.element (record { at = s.0.at; ranks = s.1 ∷ a.ranks; given = g; domain = or_empty (found as_condition (vs ++ ws)) })) (a.no_given ws ∙ b.given_is)
          ∙ ap (λ d. Value.element (record { at = s.0.at; ranks = s.1 ∷ a.ranks; given = b.given; domain = d })) (ap or_empty (a.no_domain ws) ∙ b.domain_is)),
      GoodElement.good (Each.more s.3 a.good) b.given_good b.domain_good,
    )

behind_both : (v w : Value) → Says Name.Given v → Says Name.Domain w → Behind (v ∷ w ∷ [])
behind_both v w g d = rw (g.1, d.2) (record { given = Some g.0; given_is = refl; given_good = GoodGiven.some g.2; domain = d.0 ∷ d.1; domain_is = refl; domain_good = d.3; no_ranks = refl })

behind_given : (v : Value) → Says Name.Given v → Behind (v ∷ [])
behind_given v g = rw g.1 (record { given = Some g.0; given_is = refl; given_good = GoodGiven.some g.2; domain = []; domain_is = refl; domain_good = Each.none; no_ranks = refl })

behind_domain : (w : Value) → Says Name.Domain w → Behind (w ∷ [])
behind_domain w d = rw d.2 (record { given = None; given_is = refl; given_good = GoodGiven.none; domain = d.0 ∷ d.1; domain_is = refl; domain_good = d.3; no_ranks = refl })

behind_nothing : Behind []
behind_nothing = record { given = None; given_is = refl; given_good = GoodGiven.none; domain = []; domain_is = refl; domain_good = Each.none; no_ranks = refl }

pub element_says : {xs ys : List Fine} {vs : List Value} → Has (rule_of Name.Element) xs ys vs → Says Name.Element (made Name.Element vs)
element_says (Reads.seq (Reads.seq {vs = us} (Reads.call {v = r} m) rest) (Reads.seq (Reads.left (Reads.call {v = v} g)) (Reads.left (Reads.call {v = w} d)))) = element_made r us (v ∷ w ∷ []) m (ranks_before rest) (behind_both v w g d)
element_says (Reads.seq (Reads.seq {vs = us} (Reads.call {v = r} m) rest) (Reads.seq (Reads.left (Reads.call {v = v} g)) (Reads.right Reads.empty))) = element_made r us (v ∷ []) m (ranks_before rest) (behind_given v g)
element_says (Reads.seq (Reads.seq {vs = us} (Reads.call {v = r} m) rest) (Reads.seq (Reads.right Reads.empty) (Reads.left (Reads.call {v = w} d)))) = element_made r us (w ∷ []) m (ranks_before rest) (behind_domain w d)
element_says (Reads.seq (Reads.seq {vs = us} (Reads.call {v = r} m) rest) (Reads.seq (Reads.right Reads.empty) (Reads.right Reads.empty))) = element_made r us [] m (ranks_before rest) behind_nothing
