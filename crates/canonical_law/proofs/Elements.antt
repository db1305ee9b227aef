-- Elements of preference statements read back.
use Rattle.std.proofs.Common.{◌≡◌, ℕ, List, [], ◌∷◌, ◌++◌, map, Option, Some, None, refl, sym, ap, subst, ◌∙◌, append_assoc}
use Rattle.std.specs.Prelude.{codes}
use Rattle.std.proofs.lemmas.List.{append-nil}
use Rattle.grammar.specs.Form.{Derives, ◌⨾◌, opt}
use Rattle.grammar.specs.Form.Form.{Tok, Call}
use Rattle.ap_syntax.specs.declared.terms.Literal.{Literal}
use Rattle.ap_syntax.specs.declared.terms.Term.{Term}
use Rattle.ap_syntax.specs.declared.preferences.Element.{Element}
use Rattle.ap_syntax.specs.declared.preferences.Formula.{Formula}
use Rattle.ap_syntax.specs.declared.preferences.Ranked.{Ranked}
use Rattle.ap_syntax.specs.declared.preferences.Target.{Target}
use Rattle.ap_syntax.specs.declared.preferences.Target.TheVariants as targets
use Rattle.ap_syntax.specs.Pieces.{parted, spaced, text_of}
use Rattle.ap_syntax.specs.CanonicalTerms.{terms_pieces}
use Rattle.ap_syntax.specs.CanonicalRules.{condition_pieces}
use Rattle.ap_syntax.specs.CanonicalPreferences.{element_pieces, given_pieces, ranked_pieces, target_pieces, weight_pieces}
use Rattle.ap_grammar.specs.declared.terminals.Terminal.TheVariants as t
use Rattle.ap_grammar.specs.Lexemes.{Lexeme}
use Rattle.ap_grammar.specs.Values.{Value, as_condition, as_given, as_ranked, as_target, as_term, collected, first_of, found, or_empty}
use Rattle.ap_grammar.specs.Values.Value.{ranked, target, token}
use Rattle.ap_grammar.specs.Grammar.{Name, grammar, made, many, or_nothing}
use Rattle.canonical_law.specs.Unplaced.{unplaced_element}
use Rattle.canonical_law.proofs.Lexing.{Ends}
use Rattle.canonical_law.proofs.Spells.{Spells, Clear, split, split3, clear_append, clear3, spaced_is, spaced_clear}
use Rattle.canonical_law.proofs.Signs as sign
use Rattle.canonical_law.proofs.Names.{GoodName, name_kind, ident_derives, name_clear}
use Rattle.canonical_law.proofs.Levels.{GoodTerm}
use Rattle.canonical_law.proofs.Lists.{Each, alike_same, Between, GoodItem, all_read, all_clear, collected-append, found_behind, from_here, up_to}
use Rattle.canonical_law.proofs.Terms.{term_value, terms_clear, terms_read}
use Rattle.canonical_law.proofs.Literals.{GoodLiteral, condition_clear, condition_ends, literals_spelled}
use Rattle.canonical_law.proofs.Formulas.{GoodFormula, formula_clear, placed_formula}

-- ---- targets

pub data GoodTarget : Target → Type 0 where
  for : {f : Formula} → GoodFormula f → GoodTarget (targets.For f)
  named : {name : List ℕ} → GoodName name → GoodTarget (targets.Name name)

record IsTarget (x : Target) (xs ys : List Lexeme) : Type 0 where
  first : Lexeme
  derives : Derives grammar (Call Name.Target) xs ys (target first x ∷ [])

target_spelled : {x : Target} {xs ys : List Lexeme} → GoodTarget x → Spells (target_pieces x) xs ys → IsTarget x xs ys
target_spelled (GoodTarget.for g) s = let p = placed_formula g s in record { first = p.first; derives = Derives.call (Derives.left p.derives) }
target_spelled {ys = ys} (GoodTarget.named g) (Spells.word {x = x} i (Spells.word {x = y} j Spells.nothing)) =
    let d = Derives.call {n = Name.Target} (Derives.right (Derives.seq (Derives.tok (sign.stars_is i)) (ident_derives {xs = ys} (name_kind g j)))) in
    record { first = x; derives = subst (λ b. Derives grammar (Call Name.Target) (x ∷ y ∷ ys) ys (target x (targets.Name b) ∷ [])) j.bytes d }

target_clear : {x : Target} (rest : List ℕ) → GoodTarget x → Ends rest → Clear (target_pieces x) rest
target_clear rest (GoodTarget.for g) h = formula_clear 0 g rest h
target_clear rest (GoodTarget.named g) h = Clear.word sign.stars_one (sign.stars_apart _) (name_clear rest g h)

-- ---- ranks

pub record GoodRanked (r : Ranked) : Type 0 where
  pub weights : Each GoodTerm r.weights
  pub target : GoodTarget r.target

pub record IsRanked (r : Ranked) (xs ys : List Lexeme) : Type 0 where
  pub first : Lexeme
  pub derives : Derives grammar (Call Name.Ranked) xs ys (ranked first r ∷ [])

-- the weights with their sign, or nothing
record AreWeights (ws : List Term) (xs ys : List Lexeme) : Type 0 where
  values : List Value
  derives : Derives grammar (opt (many (Call Name.Term) t.Comma ⨾ Tok t.Weighs)) xs ys values
  terms : (vs : List Value) → collected as_term (values ++ vs) ≡ ws ++ collected as_term vs
  target : (vs : List Value) → found as_target (values ++ vs) ≡ found as_target vs

weights_spelled : (ws : List Term) {xs ys : List Lexeme} → Each GoodTerm ws → Spells (weight_pieces ws) xs ys → AreWeights ws xs ys
weights_spelled [] g Spells.nothing = record { values = []; derives = Derives.right Derives.empty; terms = λ vs. refl; target = λ vs. refl }
weights_spelled (w ∷ ws) {ys = ys} g s =
    let q = split (terms_pieces (w ∷ ws)) s in
    let r = terms_read w ws g q.1 in
    let o = spaced_is q.2 in
    record {
      values = r.values ++ token o.0 ∷ [];
      derives = Derives.left (Derives.seq (up_to o.1 r.derives) (Derives.tok {t = o.0} {ts = ys} (sign.weighs_is o.2)));
      terms = λ vs. ap (collected as_term) (append_assoc r.values (token o.0 ∷ []) vs) ∙ (collected-append as_term r.values (token o.0 ∷ vs) ∙ ap (λ us. us ++ collected as_term vs) (r.picked ∙ alike_same r.same));
      target = λ vs. ap (found as_target) (append_assoc r.values (token o.0 ∷ []) vs) ∙ found_behind term_value as_target (λ x. refl) (λ i x. refl) (token o.0 ∷ vs) r.each;
    }

weights_clear : (ws : List Term) (rest : List ℕ) → Each GoodTerm ws → Clear (weight_pieces ws) rest
weights_clear [] rest g = Clear.nothing
weights_clear (w ∷ ws) rest g = clear_append (terms_pieces (w ∷ ws)) (spaced (codes "::")) rest (terms_clear w ws g _ refl) (spaced_clear rest sign.weighs_one (sign.weighs_apart _))

ranked_valued : (vs : List Value) {ws : List Term} {x : Target} {xs ys : List Lexeme} → Derives grammar (Call Name.Ranked) xs ys (ranked (first_of vs) (record { weights = collected as_term vs; target = or_nothing (found as_target vs) }) ∷ []) → collected as_term vs ≡ ws → found as_target vs ≡ Some x → Derives grammar (Call Name.Ranked) xs ys (ranked (first_of vs) (record { weights = ws; target = x }) ∷ [])
ranked_valued vs d e f = rw (e, f) at d

pub ranked_spelled : {r : Ranked} {xs ys : List Lexeme} → GoodRanked r → Spells (ranked_pieces r) xs ys → IsRanked r xs ys
ranked_spelled {r = r} g s =
    let q = split (weight_pieces r.weights) s in
    let a = weights_spelled r.weights g.weights q.1 in
    let b = target_spelled g.target q.2 in
    let vs = a.values ++ target b.first r.target ∷ [] in
    record { first = first_of vs; derives = ranked_valued vs (Derives.call {n = Name.Ranked} (Derives.seq a.derives b.derives)) (a.terms (target b.first r.target ∷ []) ∙ append-nil r.weights) (a.target (target b.first r.target ∷ [])) }

pub ranked_clear : {r : Ranked} (rest : List ℕ) → GoodRanked r → Ends rest → Clear (ranked_pieces r) rest
ranked_clear {r = r} rest g h = clear_append (weight_pieces r.weights) (target_pieces r.target) rest (weights_clear r.weights _ g.weights) (target_clear rest g.target h)

-- ---- elements

pub data GoodGiven : Option Ranked → Type 0 where
  none : GoodGiven None
  some : {r : Ranked} → GoodRanked r → GoodGiven (Some r)

pub data GoodElement : Element → Type 0 where
  good : {at : ℕ} {r : Ranked} {rs : List Ranked} {given : Option Ranked} {ls : List Literal} → Each GoodRanked (r ∷ rs) → GoodGiven given → Each GoodLiteral ls → GoodElement (record { at = at; ranks = r ∷ rs; given = given; domain = ls })

better_between : Between (spaced (codes ">>")) t.Better
better_between = record {
  derives = λ s. let q = spaced_is s in (q.0, q.1, sign.better_is q.2);
  clear = λ rest. spaced_clear rest sign.better_one (sign.better_apart _);
  ends = λ rest. refl;
}

ranked_items : (rs : List Ranked) → Each GoodRanked rs → Each (GoodItem (λ y z. y ≡ z) ranked_pieces as_ranked ranked (Call Name.Ranked)) rs
ranked_items [] Each.none = Each.none
ranked_items (r ∷ rs) (Each.more g gs) = Each.more (record { derives = λ s. let p = ranked_spelled g s in record { info = p.first; read = r; derives = p.derives; same = refl }; clear = λ rest h. ranked_clear rest g h }) (ranked_items rs gs)

abbrev given_values : Option Ranked → List Value
given_values None = []
given_values (Some r) = Value.given r ∷ []

given_spelled : {r : Option Ranked} {xs ys : List Lexeme} → GoodGiven r → Spells (given_pieces r) xs ys → Derives grammar (opt (Call Name.Given)) xs ys (given_values r)
given_spelled GoodGiven.none Spells.nothing = Derives.right Derives.empty
given_spelled (GoodGiven.some {r = r} g) s =
    let q = split (spaced (codes "||")) s in
    let o = spaced_is q.1 in
    let p = ranked_spelled g q.2 in
    from_here (sym o.1) (Derives.left (Derives.call (Derives.seq (Derives.tok {t = o.0} (sign.bars_is o.2)) p.derives)))

given_clear : {r : Option Ranked} (rest : List ℕ) → GoodGiven r → Ends rest → Clear (given_pieces r) rest
given_clear rest GoodGiven.none h = Clear.nothing
given_clear rest (GoodGiven.some g) h = clear_append (spaced (codes "||")) _ rest (spaced_clear _ sign.bars_one (sign.bars_apart _)) (ranked_clear rest g h)

given_ends : (r : Option Ranked) (rest : List ℕ) → Ends rest → Ends (text_of (given_pieces r) ++ rest)
given_ends None rest h = h
given_ends (Some r) rest h = refl

abbrev domain_values : List Literal → List Value
domain_values [] = []
domain_values (l ∷ ls) = Value.condition (l ∷ ls) ∷ []

domain_spelled : (ls : List Literal) {xs ys : List Lexeme} → Each GoodLiteral ls → Spells (condition_pieces ls) xs ys → Derives grammar (opt (Call Name.Domain)) xs ys (domain_values ls)
domain_spelled [] g Spells.nothing = Derives.right Derives.empty
domain_spelled (l ∷ ls) g s =
    let q = split (spaced (codes ":")) s in
    let o = spaced_is q.1 in
    from_here (sym o.1) (Derives.left (Derives.call (Derives.seq (Derives.tok {t = o.0} (sign.colon_is o.2)) (literals_spelled l ls g q.2))))

given_found : (r : Option Ranked) (ls : List Literal) → found as_given (given_values r ++ domain_values ls) ≡ r
given_found None [] = refl
given_found None (l ∷ ls) = refl
given_found (Some r) ls = refl

domain_found : (r : Option Ranked) (ls : List Literal) → or_empty (found as_condition (given_values r ++ domain_values ls)) ≡ ls
domain_found None [] = refl
domain_found None (l ∷ ls) = refl
domain_found (Some r) [] = refl
domain_found (Some r) (l ∷ ls) = refl

no_ranks : (r : Option Ranked) (ls : List Literal) → collected as_ranked (given_values r ++ domain_values ls) ≡ []
no_ranks None [] = refl
no_ranks None (l ∷ ls) = refl
no_ranks (Some r) [] = refl
no_ranks (Some r) (l ∷ ls) = refl

pub record IsElement (e : Element) (xs ys : List Lexeme) : Type 0 where
  pub read : Element
  pub derives : Derives grammar (Call Name.Element) xs ys (Value.element read ∷ [])
  pub same : unplaced_element read ≡ unplaced_element e

element_made : (vs : List Value) (at : ℕ) {ranks : List Ranked} {given : Option Ranked} {ls : List Literal} {xs ys : List Lexeme} → Derives grammar (Call Name.Element) xs ys (made Name.Element vs ∷ []) → collected as_ranked vs ≡ ranks → found as_given vs ≡ given → or_empty (found as_condition vs) ≡ ls → IsElement (record { at = at; ranks = ranks; given = given; domain = ls }) xs ys
element_made vs at {ranks = ranks} {given = given} {ls = ls} d e f h = record { read = record { at = (first_of vs).at; ranks = ranks; given = given; domain = ls }; derives = rw (e, f, h) at d; same = refl }

pub element_spelled : {e : Element} {xs ys : List Lexeme} → GoodElement e → Spells (element_pieces e) xs ys → IsElement e xs ys
element_spelled (GoodElement.good {at = at} {r = r} {rs = rs} {given = given} {ls = ls} g gs hs) s =
    let q = split3 (parted (spaced (codes ">>")) (map ranked_pieces (r ∷ rs))) (given_pieces given) s in
    let a = all_read (λ y z. y ≡ z) ranked_pieces as_ranked ranked (Call Name.Ranked) t.Better _ better_between (λ x. refl) (λ i x. refl) r rs (ranked_items (r ∷ rs) g) q.2 in
    let d = Derives.call {n = Name.Element} (Derives.seq a.derives (Derives.seq (given_spelled gs q.3) (domain_spelled ls hs q.4))) in
    element_made (a.values ++ (given_values given ++ domain_values ls)) at d
    (collected-append as_ranked a.values _ ∙ (ap (λ us. collected as_ranked a.values ++ us) (no_ranks given ls) ∙ (append-nil (collected as_ranked a.values) ∙ (a.picked ∙ alike_same a.same))))
    (found_behind ranked as_given (λ x. refl) (λ i x. refl) _ a.each ∙ given_found given ls)
    (ap or_empty (found_behind ranked as_condition (λ x. refl) (λ i x. refl) _ a.each) ∙ domain_found given ls)

pub element_clear : {e : Element} (rest : List ℕ) → GoodElement e → Ends rest → Clear (element_pieces e) rest
element_clear rest (GoodElement.good {r = r} {rs = rs} {given = given} {ls = ls} g gs hs) h =
    clear3 (parted (spaced (codes ">>")) (map ranked_pieces (r ∷ rs))) (given_pieces given) (condition_pieces ls) rest
    (all_clear (λ y z. y ≡ z) ranked_pieces as_ranked ranked (Call Name.Ranked) t.Better _ better_between (λ x. refl) (λ i x. refl) r rs (ranked_items (r ∷ rs) g) _ (given_ends given _ (condition_ends ls rest h)))
    (given_clear _ gs (condition_ends ls rest h)) (condition_clear ls rest hs h)
