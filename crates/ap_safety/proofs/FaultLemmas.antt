-- The tests by numbers decide the conditions, and the searches find the first that fails.
use Rattle.std.proofs.Common.{◌≡◌, ◌≢◌, ℕ, ◌<◌, ◌≤◌, ◌⊎◌, inl, inr, ◌↔◌, Bool, true, false, cond, ◌&&◌, ◌||◌, List, [], ◌∷◌, ◌++◌, flat_map, fold, Option, Some, None, refl, sym, ap, ◌∙◌, subst, arith, append_assoc, Result, Ok, Err, IfOk}
use Rattle.std.specs.Prelude.{not, ◌==◌, nat_lt, ⊤}
use Rattle.std.specs.List.{Contains, Any, list_any}
use Rattle.std.proofs.lemmas.Bool.{cases_lt, eqb-true, eq-eqb}
use Rattle.std.proofs.lemmas.Bool.Decides.{nat_tests}
use Rattle.std.proofs.lemmas.List.{append-nil}
use Rattle.std.proofs.lemmas.List.Folds.{Any-from_list_any, list_any_at}
use Rattle.std.proofs.lemmas.List.Elements.{Contains-append_cases, Contains-append_left, Contains-append_right}
use Rattle.ap_syntax.specs.declared.rules.Rule.{Rule}
use Rattle.ap_syntax.specs.declared.rules.BodyItem.{BodyItem}
use Rattle.ap_syntax.specs.declared.rules.BodyItem.TheVariants.{Plain, All as Conditional, Agg}
use Rattle.ap_syntax.specs.declared.terms.Literal.{Literal}
use Rattle.ap_syntax.specs.declared.terms.Literal.TheVariants.{Pos, Not, Compare}
use Rattle.ap_syntax.specs.declared.rules.ChoiceElement.{ChoiceElement}
use Rattle.pred_graph.specs.declared.pred.Pred.{Pred}
use Rattle.ap_pieces.specs.declared.pieces.Piece.{Piece}
use Rattle.pred_graph.specs.Known.{Known, component_in, definite_in, IsSafe}
use Rattle.ap_bindings.specs.declared.search.Failing.{Failing}
use Rattle.ap_safety.specs.declared.conditions.RuleFault.{RuleFault}
use Rattle.ap_safety.specs.declared.conditions.RuleFault.TheVariants.{Aggregate, Recursion}
use Rattle.ap_pieces.specs.declared.variables.Occurrence.{Occurrence}
use Rattle.ap_bindings.specs.Texts.{IsFirstFailing, first_failing}
use Rattle.ap_pieces.specs.Pieces.{rule_pieces, piece_occurrences}
use Rattle.pred_graph.specs.Predicates.{pred_of, preds_of, positives_of, literal_preds, positive_preds, head_preds, aggregate_preds, item_preds, item_positives, choice_elements, Depends, DependsBy, IsMentioned}
use Rattle.ap_safety.specs.Conditions.{Domain, MeetsHead, MeetsAtom, HasVariable, HasAggregateFault, HasRecursion, IsIndefinite, rule_place, domain_place}
use Rattle.pred_graph.specs.Walks.{Leads}
use Rattle.pred_graph.specs.Components.{AreMutual}
use Rattle.ap_safety.specs.Tests.{is_some_occurrence, has_variable, lower, lower_of, lowest, head_component, meets, meets_atom, base_recursion, kind_recursion, has_fault, HasFault, rule_failing, look_at_rule, first_rule, is_indefinite, domain_failing, look_at, first_domain}
use Rattle.pred_graph.proofs.MemberLemmas.{nothing_in, at_head, head_or_tail, in_tail, in_flat_map, from_flat_map, any_of, from_any}
use Rattle.ap_bindings.proofs.FirstLemmas.{none_fails, this_fails, this_passes, in_both}
use Rattle.pred_graph.proofs.WalkLemmas.{leads_here, leads_more}
use Rattle.pred_graph.proofs.DependLemmas.{head_mentioned, body_mentioned, atom_mentioned, condition_mentioned}

-- ---- tests of a list

any_found : {X : Type 0} (f : X → Bool) (xs : List X) → list_any f xs ≡ true → (x : X) × Contains xs x × (f x ≡ true)
any_found f xs h = from_any (λ x. f x ≡ true) xs (Any-from_list_any f xs h)

pub found_any : {X : Type 0} (f : X → Bool) (xs : List X) (x : X) → Contains xs x → f x ≡ true → list_any f xs ≡ true
found_any f xs x h e = list_any_at f xs h.0 x h.1 (subst (λ v. f v ≡ true) (sym h.2) e)

and_both : (a b : Bool) → a && b ≡ true → (a ≡ true) × (b ≡ true)
and_both true b h = (refl, h)
and_both false b h = cc

both_and : (a b : Bool) → a ≡ true → b ≡ true → a && b ≡ true
both_and true b e f = f
both_and false b e f = cc

or_either : (a b : Bool) → a || b ≡ true → (a ≡ true) ⊎ (b ≡ true)
or_either true b h = inl refl
or_either false b h = inr h

left_or : (a b : Bool) → a ≡ true → a || b ≡ true
left_or true b h = refl
left_or false b h = cc

right_or : (a b : Bool) → b ≡ true → a || b ≡ true
right_or true b h = refl
right_or false b h = h

-- ---- which predicates a body mentions

positive_literal : (literal : Literal) (p : Pred) → Contains (positive_preds literal) p → Contains (literal_preds literal) p
positive_literal (Pos atom) p h = h
positive_literal (Not atom) p h = absurd (nothing_in p h)
positive_literal (Compare left rel right) p h = h

positives_in : (literals : List Literal) (p : Pred) → Contains (positives_of literals) p → Contains (preds_of literals) p
positives_in literals p h =
    let r = from_flat_map positive_preds literals p h in in_flat_map literal_preds literals r.0 p r.1 (positive_literal r.0 p r.2)

positive_item : (item : BodyItem) (p : Pred) → Contains (item_positives item) p → Contains (item_preds item) p
positive_item (Plain literal) p h = positive_literal literal p h
positive_item (Conditional at literal condition) p h =
    elim (Contains-append_cases (positive_preds literal) (positives_of condition) p h) [
      | inl first ↦ Contains-append_left (literal_preds literal) (preds_of condition) p (positive_literal literal p first)
      | inr last ↦ Contains-append_right (literal_preds literal) (preds_of condition) p (positives_in condition p last)
    ]
positive_item (Agg negated left function elements right) p h = absurd (nothing_in p h)

aggregate_item : (item : BodyItem) (p : Pred) → Contains (aggregate_preds item) p → Contains (item_preds item) p
aggregate_item (Plain literal) p h = absurd (nothing_in p h)
aggregate_item (Conditional at literal condition) p h = absurd (nothing_in p h)
aggregate_item (Agg negated left function elements right) p h = h

positive_body : (rule : Rule) (p : Pred) → Contains (flat_map item_positives rule.body) p → Contains (flat_map item_preds rule.body) p
positive_body rule p h = let r = from_flat_map item_positives rule.body p h in in_flat_map item_preds rule.body r.0 p r.1 (positive_item r.0 p r.2)

aggregate_body : (rule : Rule) (p : Pred) → Contains (flat_map aggregate_preds rule.body) p → Contains (flat_map item_preds rule.body) p
aggregate_body rule p h = let r = from_flat_map aggregate_preds rule.body p h in in_flat_map item_preds rule.body r.0 p r.1 (aggregate_item r.0 p r.2)

-- ---- variables

some_not_empty : (os : List Occurrence) → is_some_occurrence os ≡ true → os ≢ []
some_not_empty [] h e = let clash : false ≡ true = h in cc
some_not_empty (o ∷ os) h e = cc

joined_by : (os : List Occurrence) (pieces : List Piece) → list_any (λ piece. is_some_occurrence (piece_occurrences piece)) pieces ≡ is_some_occurrence (flat_map piece_occurrences pieces)
    → is_some_occurrence os || list_any (λ piece. is_some_occurrence (piece_occurrences piece)) pieces ≡ is_some_occurrence (os ++ flat_map piece_occurrences pieces)
joined_by [] pieces h = h
joined_by (o ∷ os) pieces h = refl

joined_some : (pieces : List Piece) → list_any (λ piece. is_some_occurrence (piece_occurrences piece)) pieces ≡ is_some_occurrence (flat_map piece_occurrences pieces)
joined_some [] = refl
joined_some (piece ∷ pieces) = joined_by (piece_occurrences piece) pieces (joined_some pieces)

not_empty_some : (os : List Occurrence) → os ≢ [] → is_some_occurrence os ≡ true
not_empty_some [] h = absurd (h refl)
not_empty_some (o ∷ os) h = refl

variable_iff : (rule : Rule) → (has_variable rule ≡ true) ↔ HasVariable rule
variable_iff rule = (
  (λ h. some_not_empty (flat_map piece_occurrences (rule_pieces rule)) (sym (joined_some (rule_pieces rule)) ∙ h)),
  (λ h. joined_some (rule_pieces rule) ∙ not_empty_some (flat_map piece_occurrences (rule_pieces rule)) h),
)

-- ---- one step to the lowest component

one_lower : (c found number : ℕ) → lower found number ≡ c → (found ≡ c) ⊎ (number ≡ c)
one_lower c found number e = grind (arith, nat_tests)

lower_small : (c found number : ℕ) → c ≤ number → (found ≡ 0) ⊎ (c ≤ found) → (lower found number ≡ 0) ⊎ (c ≤ lower found number)
lower_small c found number here small = grind (arith, nat_tests)

lower_found : (c found number : ℕ) → 0 < c → c ≤ number → found ≡ c → lower found number ≡ c
lower_found c found number pos here e = grind (arith, nat_tests)

lower_here : (c found number : ℕ) → 0 < c → (found ≡ 0) ⊎ (c ≤ found) → number ≡ c → lower found number ≡ c
lower_here c found number pos small e = grind (arith, nat_tests)

-- ---- the lowest component

-- a component that is the lowest of all is that of a predicate
lowest_found : (safe : Known) (c found : ℕ) (preds : List Pred) → fold (lower_of safe) found preds ≡ c → (found ≡ c) ⊎ ((h : Pred) × Contains preds h × (component_in safe h ≡ c))
lowest_found safe c found [] e = inl e
lowest_found safe c found (p ∷ preds) e = elim (lowest_found safe c (lower_of safe found p) preds e) [
  | inl same ↦ elim (one_lower c found (component_in safe p) same) [ inl f ↦ inl f | inr g ↦ inr (p, at_head p preds, g) ]
  | inr later ↦ inr (later.0, in_tail p preds later.0 later.1, later.2)
]

-- a component that is at most that of each of the predicates, and that of one of them, is the lowest
found_lowest : (safe : Known) (c found : ℕ) (preds : List Pred) → 0 < c → (found ≡ 0) ⊎ (c ≤ found) → ((h : Pred) → Contains preds h → c ≤ component_in safe h)
    → (found ≡ c) ⊎ ((h : Pred) × Contains preds h × (component_in safe h ≡ c)) → fold (lower_of safe) found preds ≡ c
found_lowest safe c found [] pos small each (inl e) = e
found_lowest safe c found [] pos small each (inr h) = absurd (nothing_in h.0 h.1)
found_lowest safe c found (p ∷ preds) pos small each some =
    let here = each p (at_head p preds) in
    found_lowest safe c (lower_of safe found p) preds pos (lower_small c found (component_in safe p) here small) (λ h has. each h (in_tail p preds h has)) (elim some [
      | inl e ↦ inl (lower_found c found (component_in safe p) pos here e)
      | inr h ↦ elim (head_or_tail p preds h.0 h.1) [
        | inl same ↦ inl (lower_here c found (component_in safe p) pos small (subst (λ (v : Pred). component_in safe v ≡ c) (sym same) h.2))
        | inr later ↦ inr (h.0, later, h.2)
      ]
    ])

-- ---- conditions of rules

module _ (rules : List Rule) (safe : Known) (s : IsSafe rules safe) where
  depends : (rule : Rule) (h q : Pred) → Contains rules rule → Contains (head_preds rule.head) h → Contains (flat_map item_preds rule.body) q → Depends rules h q
  depends rule h q at head body = any_of (DependsBy h q) rules rule at (inl (head, body))

  same_iff : (p q : Pred) → IsMentioned rules p → IsMentioned rules q → (component_in safe p ≡ component_in safe q) ↔ AreMutual rules p q
  same_iff p q hp hq = s.order.same p q hp hq

  -- no predicate of a body has a higher component than a head
  at_most : (rule : Rule) (h q : Pred) → Contains rules rule → Contains (head_preds rule.head) h → Contains (flat_map item_preds rule.body) q → component_in safe q ≤ component_in safe h
  at_most rule h q at head body =
      let way = leads_more (Depends rules) h q q (depends rule h q at head body) (leads_here (Depends rules) q) in
      let iff = same_iff h q (head_mentioned rules rule h at head) (body_mentioned rules rule q at body) in
      elim (cases_lt (component_in safe h) (component_in safe q)) [
        | inl lt ↦
            let back : Leads (Depends rules) q h → ⊥ = λ k. let e = iff.1 (way, k) in omega arith in
            let lower = s.order.lower h q (way, back) in omega arith
        | inr le ↦ le
      ]

  meets_head : (rule : Rule) (preds : List Pred) → Contains rules rule → ((q : Pred) → Contains preds q → Contains (flat_map item_preds rule.body) q)
      → (meets safe (head_component safe rule) preds ≡ true) ↔ MeetsHead rules rule preds
  meets_head rule preds at inside = (
    (λ e.
        let r = any_found (λ q. component_in safe q == head_component safe rule) preds e in
        let same = eqb-true (component_in safe r.0) (head_component safe rule) r.2 in
        let mentioned = body_mentioned rules rule r.0 at (inside r.0 r.1) in
        let above = s.order.mentioned r.0 mentioned in
        elim (lowest_found safe (component_in safe r.0) 0 (head_preds rule.head) (sym same)) [
          | inl zero ↦ absurd (omega arith)
          | inr h ↦ (h.0, r.0, h.1, r.1, (same_iff h.0 r.0 (head_mentioned rules rule h.0 at h.1) mentioned).0 h.2)
        ]),
    (λ m.
        let body = inside m.1 m.3 in
        let mentioned = body_mentioned rules rule m.1 at body in
        let same = (same_iff m.0 m.1 (head_mentioned rules rule m.0 at m.2) mentioned).1 m.4 in
        let is = found_lowest safe (component_in safe m.1) 0 (head_preds rule.head) (s.order.mentioned m.1 mentioned) (inl refl) (λ h head. at_most rule h m.1 at head body) (inr (m.0, m.2, same)) in
        found_any (λ q. component_in safe q == head_component safe rule) preds m.1 m.3 (eq-eqb (component_in safe m.1) (head_component safe rule) (sym is))),
  )

  atom_iff : (rule : Rule) (element : ChoiceElement) → Contains rules rule → Contains (choice_elements rule.head) element → (meets_atom safe element ≡ true) ↔ MeetsAtom rules element
  atom_iff rule element h e =
      let p = pred_of element.atom in
      let hp = atom_mentioned rules rule element h e in
      let known = λ (q : Pred) (has : Contains (positives_of element.condition) q). condition_mentioned rules rule element q h e (positives_in element.condition q has) in (
        (λ b.
            let r = any_found (λ q. component_in safe q == component_in safe p) (positives_of element.condition) b in
            let same = eqb-true (component_in safe r.0) (component_in safe p) r.2 in
            (r.0, r.1, (same_iff p r.0 hp (known r.0 r.1)).0 (sym same))),
        (λ m.
            found_any (λ q. component_in safe q == component_in safe p) (positives_of element.condition) m.0 m.1
            (eq-eqb (component_in safe m.0) (component_in safe p) (sym ((same_iff p m.0 hp (known m.0 m.1)).1 m.2)))),
      )

  atoms_iff : (rule : Rule) → Contains rules rule → (list_any (meets_atom safe) (choice_elements rule.head) ≡ true) ↔ Any (MeetsAtom rules) (choice_elements rule.head)
  atoms_iff rule h = (
    (λ b. let r = any_found (meets_atom safe) (choice_elements rule.head) b in any_of (MeetsAtom rules) (choice_elements rule.head) r.0 r.1 ((atom_iff rule r.0 h r.1).0 r.2)),
    (λ m. let r = from_any (MeetsAtom rules) (choice_elements rule.head) m in found_any (meets_atom safe) (choice_elements rule.head) r.0 r.1 ((atom_iff rule r.0 h r.1).1 r.2)),
  )

  aggregate_by : (base : Bool) (rule : Rule) → Contains rules rule → (base && meets safe (head_component safe rule) (flat_map aggregate_preds rule.body) ≡ true) ↔ HasAggregateFault base rules rule
  aggregate_by true rule at = meets_head rule (flat_map aggregate_preds rule.body) at (aggregate_body rule)
  aggregate_by false rule at = ((λ h. let clash : false ≡ true = h in cc), (λ h. absurd h))

  recursion_by : (base : Bool) (rule : Rule) → Contains rules rule → (cond base (base_recursion safe rule) (kind_recursion safe rule) ≡ true) ↔ HasRecursion base rules rule
  recursion_by true rule at =
      let v = variable_iff rule in
      let m = meets_head rule (flat_map item_positives rule.body) at (positive_body rule) in
      let a = atoms_iff rule at in
      let body = meets safe (head_component safe rule) (flat_map item_positives rule.body) in
      let atoms = list_any (meets_atom safe) (choice_elements rule.head) in (
        (λ h.
            let parts = and_both (has_variable rule) (body || atoms) h in
            (v.0 parts.0, elim (or_either body atoms parts.1) [ inl b ↦ inl (m.0 b) | inr c ↦ inr (a.0 c) ])),
        (λ h.
            both_and (has_variable rule) (body || atoms) (v.1 h.0)
            (elim (h.1) [ inl b ↦ left_or body atoms (m.1 b) | inr c ↦ right_or body atoms (a.1 c) ])),
      )
  recursion_by false rule at = meets_head rule (flat_map item_preds rule.body) at (λ q h. h)

  fault_iff : (fault : RuleFault) (rule : Rule) → Contains rules rule → (has_fault fault safe rule ≡ true) ↔ HasFault fault safe.base rules rule
  fault_iff Aggregate rule at = aggregate_by safe.base rule at
  fault_iff Recursion rule at = recursion_by safe.base rule at

  abbrev pub IsFirstRule : RuleFault → List Rule → Option (Failing ⊤) → Type 0
  IsFirstRule fault all found = IsFirstFailing rule_place (HasFault fault safe.base rules) (λ rule told. ⊤) all found

  one_by : (fault : RuleFault) (rule : Rule) (b : Bool) → (b ≡ true) ↔ HasFault fault safe.base rules rule → IsFirstRule fault (rule ∷ []) (cond b (Some (record { file = rule.file; at = rule.at; what = tt })) None)
  one_by fault rule true iff =
      this_fails {T = ⊤} rule_place (HasFault fault safe.base rules) (λ rule told. ⊤) rule (record { file = rule.file; at = rule.at; what = tt }) refl (iff.0 refl) tt
  one_by fault rule false iff =
      this_passes {T = ⊤} rule_place (HasFault fault safe.base rules) (λ rule told. ⊤) rule (λ h. let clash : false ≡ true = iff.1 h in cc)

  first_by : (fault : RuleFault) (before rest : List Rule) (found : Option (Failing ⊤)) → rules ≡ before ++ rest → IsFirstRule fault before found → IsFirstRule fault rules (first_rule fault safe found rest)
  first_by fault before [] found e h = subst (λ all. IsFirstRule fault all found) (sym (append-nil before) ∙ sym e) h
  first_by fault before (rule ∷ rest) found e h =
      let at : Contains rules rule = subst (λ all. Contains all rule) (sym e) (Contains-append_right before (rule ∷ rest) rule (at_head rule rest)) in
      let own = one_by fault rule (has_fault fault safe rule) (fault_iff fault rule at) in
      let more = in_both {T = ⊤} rule_place (HasFault fault safe.base rules) (λ rule told. ⊤) before (rule ∷ []) found (rule_failing fault safe rule) h own in
      let next = first_failing found (rule_failing fault safe rule) in
      first_by fault (before ++ rule ∷ []) rest next (e ∙ sym (append_assoc before (rule ∷ []) rest)) more

  pub first_rule_found : (fault : RuleFault) → IsFirstRule fault rules (first_rule fault safe None rules)
  first_rule_found fault = first_by fault [] rules None refl (none_fails {T = ⊤} rule_place (HasFault fault safe.base rules) (λ rule told. ⊤))

-- ---- domains

not_false : (b : Bool) → not b ≡ true → b ≡ true → ⊥
not_false true h e = let clash : false ≡ true = h in cc
not_false false h e = let clash : false ≡ true = e in cc

false_not : (b : Bool) → (b ≡ true → ⊥) → not b ≡ true
false_not true h = absurd (h refl)
false_not false h = refl

module _ (rules : List Rule) (safe : Known) (s : IsSafe rules safe) where
  indefinite_iff : (d : Domain) → (is_indefinite safe d ≡ true) ↔ IsIndefinite rules safe.base d
  indefinite_iff d = (
    (λ h. let r = any_found (λ p. not (definite_in safe p)) (preds_of d.condition) h in (r.0, r.1, λ def. not_false (definite_in safe r.0) r.2 ((s.definite r.0).1 def))),
    (λ i. found_any (λ p. not (definite_in safe p)) (preds_of d.condition) i.0 i.1 (false_not (definite_in safe i.0) (λ e. i.2 ((s.definite i.0).0 e)))),
  )

  abbrev pub IsFirstDomain : List Domain → Option (Failing ⊤) → Type 0
  IsFirstDomain all found = IsFirstFailing domain_place (IsIndefinite rules safe.base) (λ d told. ⊤) all found

  one_domain : (d : Domain) (b : Bool) → (b ≡ true) ↔ IsIndefinite rules safe.base d → IsFirstDomain (d ∷ []) (cond b (Some (record { file = d.file; at = d.at; what = tt })) None)
  one_domain d true iff =
      this_fails {T = ⊤} domain_place (IsIndefinite rules safe.base) (λ d told. ⊤) d (record { file = d.file; at = d.at; what = tt }) refl (iff.0 refl) tt
  one_domain d false iff =
      this_passes {T = ⊤} domain_place (IsIndefinite rules safe.base) (λ d told. ⊤) d (λ h. let clash : false ≡ true = iff.1 h in cc)

  domains_by : (before rest : List Domain) (found : Option (Failing ⊤)) → IsFirstDomain before found → IsFirstDomain (before ++ rest) (first_domain safe found rest)
  domains_by before [] found h = subst (λ all. IsFirstDomain all found) (sym (append-nil before)) h
  domains_by before (d ∷ rest) found h =
      let own = one_domain d (is_indefinite safe d) (indefinite_iff d) in
      let more = in_both {T = ⊤} domain_place (IsIndefinite rules safe.base) (λ d told. ⊤) before (d ∷ []) found (domain_failing safe d) h own in
      subst (λ all. IsFirstDomain all (first_domain safe (look_at safe found d) rest)) (append_assoc before (d ∷ []) rest)
      (domains_by (before ++ d ∷ []) rest (look_at safe found d) more)

  pub first_domain_found : (all : List Domain) → IsFirstDomain all (first_domain safe None all)
  first_domain_found all = domains_by [] all None (none_fails {T = ⊤} domain_place (IsIndefinite rules safe.base) (λ d told. ⊤))

-- ---- results

pub first_rule_if : {E : Type 0} (rules : List Rule) (safe : Known) (fault : RuleFault) (result : Result (Option (Failing ⊤)) E) → IsSafe rules safe → IfOk result (λ found. found ≡ first_rule fault safe None rules)
    → IfOk result (IsFirstFailing rule_place (HasFault fault safe.base rules) (λ rule told. ⊤) rules)
first_rule_if rules safe fault (Ok found) j e = subst (IsFirstFailing rule_place (HasFault fault safe.base rules) (λ rule told. ⊤) rules) (sym e) (first_rule_found rules safe j fault)
first_rule_if rules safe fault (Err e) j h = tt

pub first_domain_if : {E : Type 0} (rules : List Rule) (safe : Known) (all : List Domain) (result : Result (Option (Failing ⊤)) E) → IsSafe rules safe → IfOk result (λ found. found ≡ first_domain safe None all)
    → IfOk result (IsFirstFailing domain_place (IsIndefinite rules safe.base) (λ d told. ⊤) all)
first_domain_if rules safe all (Ok found) s e = subst (IsFirstFailing domain_place (IsIndefinite rules safe.base) (λ d told. ⊤) all) (sym e) (first_domain_found rules safe s all)
first_domain_if rules safe all (Err e) s h = tt
