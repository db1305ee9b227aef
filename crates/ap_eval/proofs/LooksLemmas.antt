-- What the rules for an atom look at, and the order that it gives.
use Rattle.std.proofs.Common.{◌≡◌, ◌≢◌, ℕ, zero, suc, ◌+◌, ◌<◌, ◌≤◌, Bool, true, false, not, ◌&&◌, ◌||◌, List, [], ◌∷◌, map, take, length, get_or, refl, sym, ap, ◌∙◌, subst, arith, ⊎_elim, slice_set, get_or-set_other, get_or-set_same, nat_lt, Option, Some, None}
use Rattle.std.specs.Prelude.{ℤ, pos, negsuc, All, Contains, IsTrue, ◌==◌}
use Rattle.std.specs.List.{list_all}
use Rattle.std.proofs.lemmas.Bool.{cases_eq, and_parts, eqb-true, eq-eqb, ne_eqb, lt-ltb}
use Rattle.std.proofs.lemmas.List.{set-get_or, map-set, length-map, get_or_default}
use Rattle.std.proofs.lemmas.List.Elements.{All-nil, All-cons, All-weaker, All-contains, Contains-get_or}
use Rattle.std.proofs.lemmas.List.Sums.{list_all-from_AllPass, AllPass-from_list_all}
use Rattle.std.proofs.lemmas.Option.{same_Some, none-some}
use Rattle.definite.proofs.MarkLemmas.{marked_within}
use Rattle.definite.specs.Rules.{marked, obeys, IsRuleOf, IsDerived}
use Rattle.definite.specs.declared.Derived.{Derived}
use Rattle.definite.specs.declared.Rule.{Rule}
use Rattle.ground_form.specs.Acyclic.{IsAcyclic, atom_of, AreBelow, IsGroupBelow, IsBelowIfThere}
use Rattle.ground_form.specs.Programs.{Parts, numbered}
use Rattle.ground_form.specs.Ranges.{IsLiteralOf, IsBodyOf, IsRowOf, IsGroupOf, IsInRange}
use Rattle.ground_form.specs.declared.atoms.AtomId.{AtomId}
use Rattle.ground_form.specs.declared.bodies.GuardUse.{GuardUse}
use Rattle.ground_form.specs.declared.groups.GroupRow.{GroupRow}
use Rattle.ground_form.specs.declared.rules.GroundRule.{GroundRule}
use Rattle.ground_form.specs.declared.rules.Head.{Head}
use Rattle.ground_form.specs.declared.rules.Head.TheVariants.{One, Choice, Nothing}
use Rattle.ap_eval.proofs.AgreementLemmas.{body_low, all_look_low, lt_from_true}
use Rattle.ap_eval.proofs.LevelLemmas.{by_levels}
use Rattle.ap_eval.proofs.ListLemmas.{and_true, or_from, or_to, map_at, numbered_all, only_member}
use Rattle.ap_eval.specs.Looks.{of_body, looks_within, AddsLooked, looked_by, heads_of, AddsRule, AddsRules, AreLooks, IsOrder}
use Rattle.ap_eval.specs.Supports.{atom_in, names}

abbrev no_rule : Rule
no_rule = record { body = []; heads = [] }

-- ---- one rule of the program

pub look_added : (g : Parts) (old new : List Rule) (rule : GroundRule) (a : ℕ) (looked : List ℕ) (d : Rule) → a < length old → ((c : ℕ) → names c rule.head ≡ (a == c)) → new ≡ slice_set old a (record { body = looked; heads = (get_or old a d).heads }) → AddsLooked (get_or old a d).body looked (λ p. of_body g.groups p (numbered g.bodies rule.body.0)) → AddsRule g old new rule
look_added g old new rule a looked d lt named is adds =
    let now : Rule = record { body = looked; heads = (get_or old a d).heads } in
    let body_there : (p : ℕ → Bool) → Bool = λ p. of_body g.groups p (numbered g.bodies rule.body.0) in
    record {
      looked = λ p c. ⊎_elim
          (λ (e : c ≡ a).
          let new_here : looked_by new c ≡ looked = ap (λ rules. looked_by rules c) is ∙ (ap (looked_by (slice_set old a now)) e ∙ ap (λ (r : Rule). r.body) (get_or-set_same old a now no_rule lt)) in
          let old_here : (get_or old a d).body ≡ looked_by old c = ap (λ (r : Rule). r.body) (get_or_default old a d no_rule lt) ∙ ap (looked_by old) (sym e) in
          let named_here : names c rule.head ≡ true = named c ∙ eq-eqb a c (sym e) in
          ap (list_all p) new_here
          ∙ (adds p
          ∙ (ap (λ xs. list_all p xs && body_there p) old_here
          ∙ ap (λ b. list_all p (looked_by old c) && (not b || body_there p)) (sym named_here))))
          (λ (ne : c ≡ a → ⊥).
          let other : c ≢ a = ne in
          let new_there : looked_by new c ≡ looked_by old c = ap (λ rules. looked_by rules c) is ∙ ap (λ (r : Rule). r.body) (get_or-set_other old a c now no_rule other) in
          let named_there : names c rule.head ≡ false = named c ∙ ne_eqb a c (λ e. ne (sym e)) in
          ap (list_all p) new_there
          ∙ (and_true (list_all p (looked_by old c))
          ∙ ap (λ b. list_all p (looked_by old c) && (not b || body_there p)) (sym named_there)))
          (cases_eq c a);
      heads = ap (map heads_of) is ∙ (map-set heads_of old a now
          ∙ (ap (slice_set (map heads_of old) a) (sym (map_at heads_of old a d [] lt)) ∙ set-get_or (map heads_of old) a []));
    }

pub named_by : (head : Head) (a : AtomId) (c : ℕ) → atom_in head ≡ Some a → names c head ≡ (a.0 == c)
named_by (One b) a c e = let is : b ≡ a = same_Some b a e in ap (λ (i : AtomId). i.0 == c) is
named_by (Choice b) a c e = let is : b ≡ a = same_Some b a e in ap (λ (i : AtomId). i.0 == c) is
named_by Nothing a c e = absurd (none-some a e)

unnamed : (head : Head) (c : ℕ) → atom_in head ≡ None → names c head ≡ false
unnamed (One b) c e = absurd (none-some b (sym e))
unnamed (Choice b) c e = absurd (none-some b (sym e))
unnamed Nothing c e = refl

pub look_same : (g : Parts) (looks : List Rule) (rule : GroundRule) → atom_in rule.head ≡ None → AddsRule g looks looks rule
look_same g looks rule none = record {
  looked = λ p c. and_true (list_all p (looked_by looks c)) ∙ ap (λ b. list_all p (looked_by looks c) && (not b || of_body g.groups p (numbered g.bodies rule.body.0))) (sym (unnamed rule.head c none));
  heads = refl;
}

-- ---- all of them

pub looks_whole : (g : Parts) (start looks : List Rule) → ((a : ℕ) → looked_by start a ≡ []) → ((a : ℕ) (d : Rule) → a < length start → (get_or start a d).heads ≡ a ∷ []) → length start ≡ length g.atoms + 1 → AddsRules g start looks g.rules → AreLooks g looks
looks_whole g start looks none heads size adds =
    let same : length looks ≡ length start = sym (length-map looks heads_of) ∙ (ap length adds.heads ∙ length-map start heads_of) in
    record {
      looked = λ p a. adds.looked p a ∙ ap (λ xs. list_all p xs && list_all (looks_within g p a) g.rules) (none a);
      heads = λ a d lt. let in_start : a < length start = omega arith in
          sym (map_at heads_of looks a d [] lt) ∙ (ap (λ hs. get_or hs a []) adds.heads ∙ (map_at heads_of start a d [] in_start ∙ heads a d in_start));
      size = same ∙ size;
    }

-- ---- numbers in range

literal_below : (n : ℕ) (l : ℤ) → IsLiteralOf n l → atom_of l < n + 1
literal_below n (pos a) h = let le = h.1 in omega arith
literal_below n (negsuc k) h = let le = h.1 in omega arith

module _ (g : Parts) (range : IsInRange g) where
  literals_below : (lits : List ℤ) → All (IsLiteralOf (length g.atoms)) lits → AreBelow (λ c. c) (length g.atoms + 1) lits
  literals_below lits h = All-weaker (IsLiteralOf (length g.atoms)) (λ l. atom_of l < length g.atoms + 1) (literal_below (length g.atoms)) lits h

  group_below : (k : ℕ) → IsGroupBelow (λ c. c) (length g.atoms + 1) (numbered g.groups k)
  group_below k = numbered_all (IsGroupOf (length g.atoms)) (IsGroupBelow (λ c. c) (length g.atoms + 1)) g.groups k tt
      (λ group h. All-weaker (IsRowOf (length g.atoms)) (λ (row : GroupRow). All (AreBelow (λ c. c) (length g.atoms + 1)) row.conditions)
      (λ row r. All-weaker (λ lits. All (IsLiteralOf (length g.atoms)) lits) (AreBelow (λ c. c) (length g.atoms + 1)) literals_below row.conditions r)
      group.rows h.rows)
      range.groups

  body_below : (b : ℕ) → IsBelowIfThere g.groups (λ c. c) (length g.atoms + 1) (numbered g.bodies b)
  body_below b = numbered_all (IsBodyOf (length g.atoms) g.groups) (IsBelowIfThere g.groups (λ c. c) (length g.atoms + 1)) g.bodies b tt
      (λ body h. record {
        lits = literals_below body.lits h.lits;
        guards = λ k d lt. group_below (get_or body.guards k d).group;
      })
      range.bodies

  looks_in_range : (a : ℕ) → IsTrue (list_all (looks_within g (λ c. nat_lt c (length g.atoms + 1)) a) g.rules)
  looks_in_range a = list_all-from_AllPass (looks_within g (λ c. nat_lt c (length g.atoms + 1)) a) g.rules (λ k d lt.
      let rule : GroundRule = get_or g.rules k d in
      or_from (names a rule.head) (of_body g.groups (λ c. nat_lt c (length g.atoms + 1)) (numbered g.bodies rule.body.0))
      (λ _. body_low (λ c. c) (length g.atoms + 1) g.groups (numbered g.bodies rule.body.0) (body_below rule.body.0)))

  module _ (looks : List Rule) (are : AreLooks g looks) where
    looked_below : (a k d : ℕ) → k < length (looked_by looks a) → get_or (looked_by looks a) k d < length g.atoms + 1
    looked_below a k d lt = lt_from_true (get_or (looked_by looks a) k d) (length g.atoms + 1)
        (AllPass-from_list_all (λ c. nat_lt c (length g.atoms + 1)) (looked_by looks a) (are.looked (λ c. nat_lt c (length g.atoms + 1)) a ∙ looks_in_range a) k d lt)

    pub looks_range : All (IsRuleOf (length g.atoms + 1)) looks
    looks_range a d lt = let same = are.size in record {
      body = subst (λ (r : Rule). All (λ c. c < length g.atoms + 1) r.body) (get_or_default looks a no_rule d lt) (looked_below a);
      heads = subst (All (λ c. c < length g.atoms + 1)) (sym (are.heads a d lt)) (All-cons (λ c. c < length g.atoms + 1) a [] (omega arith) (All-nil (λ c. c < length g.atoms + 1)));
    }

    module _ (found : Derived) (is : IsDerived looks (length g.atoms + 1) found) where
      closed_at : (a : ℕ) → a < length g.atoms + 1 → IsTrue (list_all (marked found.marks) (looked_by looks a)) → IsTrue (marked found.marks a)
      closed_at a lt body =
          let same = are.size in
          let within : a < length looks = omega arith in
          let y : ℕ → Bool = marked found.marks in
          let heads = or_to (list_all y (looked_by looks a)) (list_all y (get_or looks a no_rule).heads) (AllPass-from_list_all (obeys y) looks is.least.closed a no_rule within) body in
          (and_parts (y a) true (subst (λ hs. IsTrue (list_all y hs)) (are.heads a no_rule within) heads)).0

      all_derived : IsAcyclic g → (a : ℕ) → a < length g.atoms + 1 → IsTrue (marked found.marks a)
      all_derived acyclic = by_levels acyclic.0 (λ a. a < length g.atoms + 1 → IsTrue (marked found.marks a)) (λ a ih lt.
          closed_at a lt (list_all-from_AllPass (marked found.marks) (looked_by looks a) (λ k d le.
          let c : ℕ = get_or (looked_by looks a) k d in
          let low : ℕ → Bool = λ b. nat_lt (acyclic.0 b) (acyclic.0 a) in
          ih c (lt_from_true (acyclic.0 c) (acyclic.0 a) (AllPass-from_list_all low (looked_by looks a) (are.looked low a ∙ all_look_low g acyclic.0 acyclic.1 a) k d le)) (looked_below a k d le))))

      looks_before : (i : ℕ) → i < length found.order → (p : ℕ → Bool) → All (λ a. IsTrue (p a)) (take i found.order) → IsTrue (list_all (looks_within g p (get_or found.order i 0)) g.rules)
      looks_before i lt p all =
          let f = is.order.follows i 0 lt in
          let k : ℕ = f.0 in
          let rule : Rule = f.1 in
          let heads = subst (λ (r : Rule). r.heads ≡ k ∷ []) f.3 (are.heads k rule f.2) in
          let at : k ≡ get_or found.order i 0 = only_member k (get_or found.order i 0) (subst (λ hs. Contains hs (get_or found.order i 0)) heads f.4.0) in
          let body : rule.body ≡ looked_by looks k = ap (λ (r : Rule). r.body) (sym (get_or_default looks k no_rule rule f.2 ∙ f.3)) in
          let passed = list_all-from_AllPass p rule.body (λ j d l. All-contains (λ a. IsTrue (p a)) (take i found.order) (get_or rule.body j d) all (f.4.1 j d l)) in
          subst (λ a. IsTrue (list_all (looks_within g p a) g.rules)) at (sym (are.looked p k) ∙ subst (λ xs. IsTrue (list_all p xs)) body passed)

      pub order_whole : IsOrder g found.order
      order_whole = record {
        before = looks_before;
        distinct = is.order.distinct;
        range = λ k d lt.
            let a : ℕ = get_or found.order k d in
            let within = marked_within found.marks a ((is.same a).1 (Contains-get_or found.order k d lt)) in
            let size = is.size in
            omega arith;
        whole = λ acyclic a lt. (is.same a).0 (all_derived acyclic a lt);
      }
