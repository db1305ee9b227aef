-- The bodies that rules have, and their places.
use Rattle.std.proofs.Common.{◌≡◌, ℕ, ◌+◌, ◌-◌, ◌<◌, ◌==◌, eq-eqb, Bool, true, false, List, [], ◌∷◌, ◌++◌, length, map, get_or, refl, sym, ◌∙◌, ap, subst, inl, inr, arith, Option, Some}
use Rattle.std.specs.List.{Contains, list_any, All, enumerate_from}
use Rattle.std.proofs.lemmas.List.{length-map, map-append}
use Rattle.std.proofs.lemmas.List.FromFn.{length-enumerate_from}
use Rattle.std.proofs.lemmas.Bool.{cases_lt, eqb-true}
use Rattle.std.proofs.lemmas.List.Elements.{All-contains, Contains-append_left, Contains-push, Contains-push_cases}
use Rattle.ground_form.specs.Ranges.{IsNumberOf}
use Rattle.ground_form.specs.declared.bodies.Body.{Body}
use Rattle.ground_form.specs.declared.rules.GroundRule.{GroundRule}
use Rattle.ground_form.specs.Programs.{Parts, numbered}
use Rattle.theory_form.specs.declared.literals.Lit.{Lit}
use Rattle.theory_build.specs.declared.drafts.Draft.{Draft}
use Rattle.theory_build.specs.declared.entries.Entry.{Entry}
use Rattle.theory_build.specs.declared.frames.Frame.{Frame}
use Rattle.theory_build.specs.Drafts.{IsLonger, next_of}
use Rattle.theory_build.specs.Entries.{body_entry}
use Rattle.theory_build.specs.Ascending.{SameMembers}
use Rattle.theory_build.specs.Groups.{Guards, groups_piece}
use Rattle.theory_build.specs.Bodies.{body_lits, lits_of, lits_if_there, body_entry_at}
use Rattle.theory_build.proofs.AscendingLemmas.{contains_nothing}
use Rattle.theory_build.proofs.PieceLemmas.{longer_more, next_after}
use Rattle.theory_build.proofs.ListLemmas.{enumerate_push, numbered_at, map_contains, contains_map, any_contains, contains_any}

-- the literals of the body at a place
pub lits_at : (p : Frame) (g : Parts) (guards : List Guards) (bodies : List Body) (k : ℕ) (body : Body) → guards ≡ (groups_piece p g).name → bodies ≡ g.bodies → k < length bodies → body ≡ get_or bodies k body → body_lits p guards body ≡ lits_of p g (k + 1)
unfolding lits_of
lits_at p g guards bodies k body guards_are bodies_are within at =
    let there : numbered g.bodies (k + 1) ≡ Some body = ap (λ bs. numbered bs (k + 1)) (sym bodies_are) ∙ numbered_at bodies k body within at in
    ap (λ gs. body_lits p gs body) guards_are ∙ ap (lits_if_there p (groups_piece p g).name) (sym there)

-- a rule has the body of this number
abbrev pub is_used : List GroundRule → ℕ → Bool
is_used rules b = list_any (λ (rule : GroundRule). rule.body.0 == b) rules

-- of the first i bodies, those that are used
pub record HasUsed (used : ℕ → Bool) (lits : ℕ → List Lit) (i : ℕ) (all : List (List Lit)) : Type 0 where
  pub there : (k : ℕ) → k < i → used (k + 1) ≡ true → Contains all (lits (k + 1))
  pub back : (x : List Lit) → Contains all x → (k : ℕ) × (k < i) × (used (k + 1) ≡ true) × (x ≡ lits (k + 1))

module _ {used : ℕ → Bool} {lits : ℕ → List Lit} where
  pub used_nothing : HasUsed used lits 0 []
  used_nothing = record { there = λ k below is. absurd (omega arith); back = λ x h. absurd (contains_nothing x h) }

  pub used_more : (i : ℕ) (all : List (List Lit)) (x : List Lit) → used (i + 1) ≡ true → x ≡ lits (i + 1) → HasUsed used lits i all → HasUsed used lits (i + 1) (all ++ x ∷ [])
  used_more i all x is x_is h = record {
    there = λ k below k_is. elim (cases_lt k i) [
      | inl earlier ↦ Contains-append_left all (x ∷ []) (lits (k + 1)) (h.there k earlier k_is)
      | inr same ↦ let e : k ≡ i = omega arith in subst (λ n. Contains (all ++ x ∷ []) n) (x_is ∙ ap (λ n. lits (n + 1)) (sym e)) (Contains-push all x)
    ];
    back = λ y has. elim (Contains-push_cases all x y has) [
      | inl old ↦ let (k, below, k_is, y_is) = h.back y old in (k, omega arith, k_is, y_is)
      | inr new ↦ (i, omega arith, is, sym new ∙ x_is)
    ];
  }

  pub used_same : (i : ℕ) (all : List (List Lit)) → used (i + 1) ≡ false → HasUsed used lits i all → HasUsed used lits (i + 1) all
  used_same i all is h = record {
    there = λ k below k_is. elim (cases_lt k i) [
      | inl earlier ↦ h.there k earlier k_is
      | inr same ↦ let e : k ≡ i = omega arith in let k_not : used (k + 1) ≡ false = ap (λ n. used (n + 1)) e ∙ is in cc
    ];
    back = λ y has. let (k, below, k_is, y_is) = h.back y has in (k, omega arith, k_is, y_is);
  }

-- the lists of all bodies that are used are those of the rules' bodies
pub used_members : (rules : List GroundRule) (bodies : ℕ) (lits : ℕ → List Lit) (all : List (List Lit)) → All (λ (rule : GroundRule). IsNumberOf bodies rule.body.0) rules → HasUsed (is_used rules) lits bodies all → SameMembers all (map (λ (rule : GroundRule). lits rule.body.0) rules)
used_members rules bodies lits all in_range h =
    let of_rule : GroundRule → List Lit = λ rule. lits rule.body.0 in
    record {
      there = λ x has.
          let (k, below, is, x_is) = h.back x has in
          let (rule, has_rule, names) = contains_any (λ (rule : GroundRule). rule.body.0 == k + 1) rules is in
          let number : rule.body.0 ≡ k + 1 = eqb-true rule.body.0 (k + 1) names in
          subst (λ y. Contains (map of_rule rules) y) (ap lits number ∙ sym x_is) (map_contains of_rule rules rule has_rule);
      back = λ x has.
          let (rule, has_rule, x_is) = contains_map of_rule rules x has in
          let number : IsNumberOf bodies rule.body.0 = All-contains (λ (rule : GroundRule). IsNumberOf bodies rule.body.0) rules rule in_range has_rule in
          let place : rule.body.0 - 1 + 1 ≡ rule.body.0 = let above = number.0 in omega arith in
          let is : is_used rules (rule.body.0 - 1 + 1) ≡ true =
          any_contains (λ (other : GroundRule). other.body.0 == rule.body.0 - 1 + 1) rules rule has_rule (eq-eqb rule.body.0 (rule.body.0 - 1 + 1) (sym place))
          in
          let within : rule.body.0 - 1 < bodies = let bounds = number in omega arith in
          subst (λ y. Contains all y) (ap lits place ∙ sym x_is) (h.there (rule.body.0 - 1) within is);
    }

-- the draft with the variable of one body more
pub bodies_more : (d e f : Draft) (bodies : List (List Lit)) (body lits : List Lit) (v : ℕ) (entry : Entry) → v ≡ next_of e → lits ≡ body → entry ≡ body_entry v lits → IsLonger d e (map body_entry_at (enumerate_from (next_of d) bodies)) → IsLonger e f (entry ∷ []) → IsLonger d f (map body_entry_at (enumerate_from (next_of d) (bodies ++ body ∷ [])))
bodies_more d e f bodies body lits v entry v_is lits_are entry_is a b =
    let entries = map body_entry_at (enumerate_from (next_of d) bodies) in
    let count : length entries ≡ length bodies = length-map (enumerate_from (next_of d) bodies) body_entry_at ∙ length-enumerate_from (next_of d) bodies in
    let number : v ≡ next_of d + length bodies = v_is ∙ next_after d e entries a ∙ ap (λ n. next_of d + n) count in
    let last : entry ≡ body_entry (next_of d + length bodies) body = entry_is ∙ ap (body_entry v) lits_are ∙ ap (λ n. body_entry n body) number in
    let all : entries ++ entry ∷ [] ≡ map body_entry_at (enumerate_from (next_of d) (bodies ++ body ∷ [])) =
    ap (λ x. entries ++ x ∷ []) last
    ∙ sym (map-append body_entry_at (enumerate_from (next_of d) bodies) ((next_of d + length bodies, body) ∷ []))
    ∙ ap (map body_entry_at) (sym (enumerate_push (next_of d) bodies body))
    in
    subst (IsLonger d f) all (longer_more d e f entries (entry ∷ []) a b)
