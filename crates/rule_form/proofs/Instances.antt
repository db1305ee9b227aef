-- An instance of a rule whose global variables are bound is given by the values of its terms.
use Rattle.std.proofs.Common.{◌≡◌, ℕ, List, [], ◌∷◌, ◌++◌, Contains, get_or, refl, sym, subst, ap, ◌∙◌, ⊎_elim, Option, Some, None}
use Rattle.std.specs.Prelude.{slice_get}
use Rattle.std.proofs.lemmas.List.Elements.{Contains-get_or}
use Rattle.ap_term.specs.Value.{Value, integer, constant, string, compound, Values, none, also}
use Rattle.rule_form.specs.Instances.{Instance, GuardedAggregate, value_list, if_any, IsGuardValue, AreParts, IsHeadPart, IsInstance}
use Rattle.rule_form.specs.Arguments.{arguments, arguments_of, guard_arguments, items_arguments, IsShown}
use Rattle.rule_form.specs.Globals.{global_variables}
use Rattle.rule_form.specs.Trees.{Term, Variable, Anything, Fixed, Compound, Operation, Interval, Terms, nothing, more, Pos, Not, Compare, Guard, Item, Plain, Each, Agg, Head, One, Choice, Nothing, Rule}
use Rattle.rule_form.specs.Values.{Substitution, IsValue, AreValues, atom_value}
use Rattle.rule_form.proofs.Lists.{in_append}
use Rattle.rule_form.proofs.Unfolds.{first_or_rest, nothing_in}
use Rattle.rule_form.proofs.Plain.{some_same}
use Rattle.rule_form.specs.Instances.{IsSame}

parts_of : Value → Values
parts_of (integer n) = none
parts_of (constant b) = none
parts_of (string t) = none
parts_of (compound f vs) = vs

first_of : Value → Values → Value
first_of d none = d
first_of d (also v vs) = v

rest_of : Values → Values
rest_of none = none
rest_of (also v vs) = vs

head_or : {X : Type 0} → X → List X → X
head_or d [] = d
head_or d (x ∷ xs) = x

tail_of : {X : Type 0} → List X → List X
tail_of [] = []
tail_of (x ∷ xs) = xs

same_parts : (f : List ℕ) (vs ws : Values) → compound f vs ≡ compound f ws → vs ≡ ws
unfolding parts_of
same_parts f vs ws e = ap parts_of e

same_first : (v w : Value) (vs ws : Values) → also v vs ≡ also w ws → v ≡ w
unfolding first_of
same_first v w vs ws e = ap (first_of v) e

same_rest : (v w : Value) (vs ws : Values) → also v vs ≡ also w ws → vs ≡ ws
unfolding rest_of
same_rest v w vs ws e = ap rest_of e

pub same_head : {X : Type 0} (x y : X) (xs ys : List X) → x ∷ xs ≡ y ∷ ys → x ≡ y
unfolding head_or
same_head x y xs ys e = ap (head_or x) e

pub same_tail : {X : Type 0} (x y : X) (xs ys : List X) → x ∷ xs ≡ y ∷ ys → xs ≡ ys
unfolding tail_of
same_tail x y xs ys e = ap tail_of e

joined_first : (o : Option Value) (xs ys : List Value) → (if_any o ++ xs) ++ ys ≡ if_any o ++ (xs ++ ys)
joined_first None xs ys = refl
joined_first (Some v) xs ys = refl

module _ (s t : Substitution) where
  -- the two have the same values for these variables
  abbrev Alike : List (List ℕ) → Type 0
  Alike names = (name : List ℕ) → Contains names name → t name ≡ s name

  none_alike : Alike []
  none_alike name m = absurd (nothing_in name m)

  both_alike : (xs ys : List (List ℕ)) → Alike xs → Alike ys → Alike (xs ++ ys)
  both_alike xs ys f g = λ name m. ⊎_elim (f name) (g name) (in_append xs ys name m)

  mutual
    term_alike : (term : Term) (v : Value) → IsValue s term v → IsValue t term v → Alike (arguments term)
    term_alike (Variable name) v e f = λ other m. ⊎_elim (λ q. subst (λ n. t n ≡ s n) q (sym f ∙ e)) (λ r. absurd (nothing_in other r)) (first_or_rest name [] other m)
    term_alike Anything v e f = none_alike
    term_alike (Fixed value) v e f = none_alike
    term_alike (Compound name parts) v (vs, are, e) (ws, are', f) = terms_alike parts vs are (subst (AreValues t parts) (same_parts name ws vs (sym f ∙ e)) are')
    term_alike (Operation op left right) v e f = none_alike
    term_alike (Interval low high) v e f = none_alike

    terms_alike : (terms : Terms) (vs : Values) → AreValues s terms vs → AreValues t terms vs → Alike (arguments_of terms)
    terms_alike nothing vs e f = none_alike
    terms_alike (more term terms) vs (v, us, is, are, e) (w, ws, is', are', f) =
        let q : also w ws ≡ also v us = sym f ∙ e in
        both_alike (arguments term) (arguments_of terms) (term_alike term v is (subst (IsValue t term) (same_first w v ws us q) is')) (terms_alike terms us are (subst (AreValues t terms) (same_rest w v ws us q) are'))

  -- values at the front of a list
  front_same : (terms : Terms) (vs ws : Values) (cs ds : List Value) → AreValues s terms vs → AreValues t terms ws → value_list vs ++ cs ≡ value_list ws ++ ds → (vs ≡ ws) × (cs ≡ ds)
  front_same nothing vs ws cs ds e f q = (e ∙ sym f, subst (λ us. value_list us ++ cs ≡ ds) e (subst (λ us. value_list vs ++ cs ≡ value_list us ++ ds) f q))
  front_same (more term terms) vs ws cs ds (v, us, is, are, e) (w, us', is', are', f) q =
      let r : v ∷ (value_list us ++ cs) ≡ w ∷ (value_list us' ++ ds) = subst (λ x. value_list x ++ cs ≡ w ∷ (value_list us' ++ ds)) e (subst (λ x. value_list vs ++ cs ≡ value_list x ++ ds) f q) in
      let (same, rest) = front_same terms us us' cs ds are are' (same_tail v w (value_list us ++ cs) (value_list us' ++ ds) r) in
      (e ∙ (ap (λ x. also x us) (same_head v w (value_list us ++ cs) (value_list us' ++ ds) r) ∙ (ap (λ x. also w x) same ∙ sym f)), rest)

  guard_same : (o : Option Guard) (v w : Option Value) (cs ds : List Value) → IsGuardValue s o v → IsGuardValue t o w → if_any v ++ cs ≡ if_any w ++ ds → (v ≡ w) × (cs ≡ ds) × Alike (guard_arguments o)
  guard_same None v w cs ds e f q = (e ∙ sym f, subst (λ x. if_any x ++ cs ≡ ds) e (subst (λ x. if_any v ++ cs ≡ if_any x ++ ds) f q), none_alike)
  guard_same (Some guard) v w cs ds (a, is, range, e) (b, is', range', f) q =
      let r : a ∷ cs ≡ b ∷ ds = subst (λ x. if_any x ++ cs ≡ b ∷ ds) e (subst (λ x. if_any v ++ cs ≡ if_any x ++ ds) f q) in
      let ab : a ≡ b = same_head a b cs ds r in
      (e ∙ (ap (λ x. Some x) ab ∙ sym f), same_tail a b cs ds r, term_alike guard.term a is (subst (IsValue t guard.term) (sym ab) is'))

  parts_same : (items : List Item) (vs ps ns ps' ns' : List Value) (us us' : List GuardedAggregate) → AreParts s items vs ps ns us → AreParts t items vs ps' ns' us' → (ps ≡ ps') × (ns ≡ ns') × (us ≡ us') × Alike (items_arguments items)
  parts_same [] vs ps ns ps' ns' us us' (ve, pe, ne, ue) (ve', pe', ne', ue') = (pe ∙ sym pe', ne ∙ sym ne', ue ∙ sym ue', none_alike)
  parts_same (Plain (Pos atom) ∷ items) vs ps ns ps' ns' us us' (ws, rest, qs, are, ve, pe, parts) (ws', rest', qs', are', ve', pe', parts') =
      let (same, rs) = front_same atom.terms ws ws' rest rest' are are' (sym ve ∙ ve') in
      let (pp, nn, uu, alike) = parts_same items rest qs ns qs' ns' us us' parts (subst (λ x. AreParts t items x qs' ns' us') (sym rs) parts') in (
        pe ∙ (ap (λ x. atom_value atom.name x ∷ qs) same ∙ (ap (λ x. atom_value atom.name ws' ∷ x) pp ∙ sym pe')),
        nn,
        uu,
        both_alike (arguments_of atom.terms) (items_arguments items) (terms_alike atom.terms ws are (subst (AreValues t atom.terms) (sym same) are')) alike,
      )
  parts_same (Plain (Not atom) ∷ items) vs ps ns ps' ns' us us' (ws, rest, ms, are, ve, ne, parts) (ws', rest', ms', are', ve', ne', parts') =
      let (same, rs) = front_same atom.terms ws ws' rest rest' are are' (sym ve ∙ ve') in
      let (pp, nn, uu, alike) = parts_same items rest ps ms ps' ms' us us' parts (subst (λ x. AreParts t items x ps' ms' us') (sym rs) parts') in (
        pp,
        ne ∙ (ap (λ x. atom_value atom.name x ∷ ms) same ∙ (ap (λ x. atom_value atom.name ws' ∷ x) nn ∙ sym ne')),
        uu,
        both_alike (arguments_of atom.terms) (items_arguments items) (terms_alike atom.terms ws are (subst (AreValues t atom.terms) (sym same) are')) alike,
      )
  parts_same (Plain (Compare left rel right) ∷ items) vs ps ns ps' ns' us us' (v, w, rest, is, is_w, holds, ve, parts) (v', w', rest', is', is_w', holds', ve', parts') =
      let q : v ∷ w ∷ rest ≡ v' ∷ w' ∷ rest' = sym ve ∙ ve' in
      let r : w ∷ rest ≡ w' ∷ rest' = same_tail v v' (w ∷ rest) (w' ∷ rest') q in
      let (pp, nn, uu, alike) = parts_same items rest ps ns ps' ns' us us' parts (subst (λ x. AreParts t items x ps' ns' us') (sym (same_tail w w' rest rest' r)) parts') in (
        pp,
        nn,
        uu,
        both_alike (arguments left) (arguments right ++ items_arguments items) (term_alike left v is (subst (IsValue t left) (sym (same_head v v' (w ∷ rest) (w' ∷ rest') q)) is'))
            (both_alike (arguments right) (items_arguments items) (term_alike right w is_w (subst (IsValue t right) (sym (same_head w w' rest rest' r)) is_w')) alike),
      )
  parts_same (Each l c ∷ items) vs ps ns ps' ns' us us' parts parts' = parts_same items vs ps ns ps' ns' us us' parts parts'
  parts_same (Agg g ∷ items) vs ps ns ps' ns' us us' (l, r, rest, more_, is_l, is_r, ve, ue, parts) (l', r', rest', more', is_l', is_r', ve', ue', parts') =
      let (ll, q, alike_l) = guard_same g.left l l' (if_any r ++ rest) (if_any r' ++ rest') is_l is_l' (sym (joined_first l (if_any r) rest) ∙ ((sym ve ∙ ve') ∙ joined_first l' (if_any r') rest')) in
      let (rr, q', alike_r) = guard_same g.right r r' rest rest' is_r is_r' q in
      let (pp, nn, uu, alike) = parts_same items rest ps ns ps' ns' more_ more' parts (subst (λ x. AreParts t items x ps' ns' more') (sym q') parts') in (
        pp,
        nn,
        ue ∙ (ap (λ x. record { aggregate = g; left = x; right = r } ∷ more_) ll ∙ (ap (λ x. record { aggregate = g; left = l'; right = x } ∷ more_) rr ∙ (ap (λ x. record { aggregate = g; left = l'; right = r' } ∷ x) uu ∙ sym ue'))),
        both_alike (guard_arguments g.left) (guard_arguments g.right ++ items_arguments items) alike_l (both_alike (guard_arguments g.right) (items_arguments items) alike_r alike),
      )

  head_same : (h : Head) (vs ws cs ds : List Value) (a l r a' l' r' : Option Value) → IsHeadPart s h vs a l r → IsHeadPart t h ws a' l' r' → vs ++ cs ≡ ws ++ ds → (cs ≡ ds) × (a ≡ a') × (l ≡ l') × (r ≡ r')
  head_same (One atom) vs ws cs ds a l r a' l' r' (us, are, ve, ae, le, re) (us', are', ve', ae', le', re') q =
      let q' : value_list us ++ cs ≡ value_list us' ++ ds = subst (λ x. x ++ cs ≡ value_list us' ++ ds) ve (subst (λ x. vs ++ cs ≡ x ++ ds) ve' q) in
      let (same, rest) = front_same atom.terms us us' cs ds are are' q' in
      (rest, ae ∙ (ap (λ x. Some (atom_value atom.name x)) same ∙ sym ae'), le ∙ sym le', re ∙ sym re')
  head_same (Choice left es right) vs ws cs ds a l r a' l' r' (is_l, is_r, ve, ae) (is_l', is_r', ve', ae') q =
      let q' : (if_any l ++ if_any r) ++ cs ≡ (if_any l' ++ if_any r') ++ ds = subst (λ x. x ++ cs ≡ (if_any l' ++ if_any r') ++ ds) ve (subst (λ x. vs ++ cs ≡ x ++ ds) ve' q) in
      let (ll, q1, alike_l) = guard_same left l l' (if_any r ++ cs) (if_any r' ++ ds) is_l is_l' (sym (joined_first l (if_any r) cs) ∙ (q' ∙ joined_first l' (if_any r') ds)) in
      let (rr, q2, alike_r) = guard_same right r r' cs ds is_r is_r' q1 in
      (q2, ae ∙ sym ae', ll, rr)
  head_same Nothing vs ws cs ds a l r a' l' r' (ve, ae, le, re) (ve', ae', le', re') q =
      (subst (λ x. x ++ cs ≡ ds) ve (subst (λ x. vs ++ cs ≡ x ++ ds) ve' q), ae ∙ sym ae', le ∙ sym le', re ∙ sym re')

pub one_instance : (rules : List Rule) (i j : Instance) → IsInstance rules i → IsInstance rules j → IsShown i.rule → i.place ≡ j.place → i.outer ≡ j.outer → IsSame i j
one_instance rules i j is is' shown place outer =
    let rule : i.rule ≡ j.rule = some_same i.rule j.rule (sym is.rule ∙ (ap (slice_get rules) place ∙ is'.rule)) in
    let head' = subst (λ (q : Rule). IsHeadPart j.values q.head is'.of_head j.head j.left j.right) (sym rule) is'.head in
    let body' = subst (λ (q : Rule). AreParts j.values q.body is'.of_body j.positive j.negative j.aggregates) (sym rule) is'.body in
    let (bodies, hh, ll, rr) = head_same i.values j.values i.rule.head is.of_head is'.of_head is.of_body is'.of_body i.head i.left i.right j.head j.left j.right is.head head' (sym is.outer ∙ (outer ∙ is'.outer)) in
    let (pp, nn, uu, alike) = parts_same i.values j.values i.rule.body is.of_body i.positive i.negative j.positive j.negative i.aggregates j.aggregates is.body (subst (λ x. AreParts j.values i.rule.body x j.positive j.negative j.aggregates) (sym bodies) body') in
    record {
      place = place;
      rule = rule;
      values = λ k d lt. alike (get_or (global_variables i.rule) k d) (shown (get_or (global_variables i.rule) k d) (Contains-get_or (global_variables i.rule) k d lt));
      outer = outer;
      head = hh;
      left = ll;
      right = rr;
      positive = pp;
      negative = nn;
      aggregates = uu;
    }
