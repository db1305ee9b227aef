-- The supports of the atoms after one rule, or one join, more.
use Rattle.std.proofs.Common.{◌≡◌, ℕ, zero, suc, ◌+◌, ◌-◌, ◌<◌, ◌≤◌, Bool, true, false, cond, List, [], ◌∷◌, ◌++◌, length, map, filter, take, get_or, refl, sym, ◌∙◌, ap, subst, arith, inl, inr, Option, Some, None, append-nil}
use Rattle.std.specs.Prelude.{◌==◌, slice_get}
use Rattle.std.specs.List.{zip, filter_map, cons_option, range_with_len}
use Rattle.std.specs.Bool.{then_some}
use Rattle.std.proofs.lemmas.List.{take_more, map-append}
use Rattle.std.proofs.lemmas.List.Elements.{filter_map-append}
use Rattle.std.proofs.lemmas.List.FromFn.{length-map-range_with_len, get_or-map-range_with_len}
use Rattle.theory_form.specs.declared.literals.Lit.{Lit}
use Rattle.ground_form.specs.declared.atoms.AtomId.{AtomId}
use Rattle.ground_form.specs.declared.rules.GroundRule.{GroundRule}
use Rattle.ground_form.specs.declared.rules.Head.{Head}
use Rattle.ground_form.specs.Programs.{Parts}
use Rattle.theory_build.specs.declared.frames.Frame.{Frame}
use Rattle.theory_build.specs.declared.heads.Heads.{Heads}
use Rattle.theory_build.specs.declared.heads.Supports.{Supports}
use Rattle.theory_build.specs.Atoms.{allows, forces, forbids, joined_to}
use Rattle.theory_build.specs.Bodies.{body_lit, only_if}
use Rattle.theory_build.specs.Heads.{HasSupports, AddsRule, AddsJoin, bodies_by, with_body, no_supports}

of_one : (p : Frame) (g : Parts) (rule : GroundRule) (b : Bool) → map (λ (r : GroundRule). body_lit p g r.body.0) (cond b (rule ∷ []) []) ≡ only_if b (body_lit p g rule.body.0)
of_one p g rule true = refl
of_one p g rule false = refl

filter_push : {A : Type 0} (test : A → Bool) (xs : List A) (x : A) → filter test (xs ++ x ∷ []) ≡ filter test xs ++ cond (test x) (x ∷ []) []
filter_push test [] x = refl
filter_push test (y ∷ xs) x = filter_push_by test (test y) y xs x (filter_push test xs x)
  where
    filter_push_by : {A : Type 0} (test : A → Bool) (b : Bool) (y : A) (xs : List A) (x : A) → filter test (xs ++ x ∷ []) ≡ filter test xs ++ cond (test x) (x ∷ []) [] → cond b (y ∷ filter test (xs ++ x ∷ [])) (filter test (xs ++ x ∷ [])) ≡ cond b (y ∷ filter test xs) (filter test xs) ++ cond (test x) (x ∷ []) []
    filter_push_by test true y xs x e = ap (λ zs. y ∷ zs) e
    filter_push_by test false y xs x e = e

-- the bodies with one rule more
pub bodies_by_push : (p : Frame) (g : Parts) (rules : List GroundRule) (rule : GroundRule) (test : Head → Bool) → bodies_by p g (rules ++ rule ∷ []) test ≡ bodies_by p g rules test ++ only_if (test rule.head) (body_lit p g rule.body.0)
bodies_by_push p g rules rule test =
    let of_head : GroundRule → Bool = λ r. test r.head in
    let literal : GroundRule → Lit = λ r. body_lit p g r.body.0 in
    ap (map literal) (filter_push of_head rules rule)
    ∙ map-append literal (filter of_head rules) (cond (test rule.head) (rule ∷ []) [])
    ∙ ap (λ ls. bodies_by p g rules test ++ ls) (of_one p g rule (test rule.head))

-- one rule more
pub rules_more : (p : Frame) (g : Parts) (joins : List (AtomId × Lit)) (rules : List GroundRule) (i : ℕ) (d rule : GroundRule) (l : Lit) (old new : Heads) → i < length rules → rule ≡ get_or rules i d → l ≡ body_lit p g rule.body.0 → HasSupports p g joins (take i rules) old → AddsRule old new rule.head l → HasSupports p g joins (take (i + 1) rules) new
rules_more p g joins rules i d rule l old new within at l_is has adds =
    let all : take (i + 1) rules ≡ take i rules ++ rule ∷ [] = take_more rules i d within ∙ ap (λ r. take i rules ++ r ∷ []) (sym at) in
    let more = λ (test : Head → Bool). ap (only_if (test rule.head)) l_is in
    let grown = λ (test : Head → Bool). ap (λ ls. bodies_by p g (take i rules) test ++ ls) (more test) ∙ sym (bodies_by_push p g (take i rules) rule test) in
    subst (λ rs. HasSupports p g joins rs new) (sym all) (record {
      length_is = adds.length_is ∙ has.length_is;
      atoms = λ k e inside.
          let inside_old : k < length old.atoms.items = let n = has.length_is in omega arith in
          adds.atoms k e inside_old
          ∙ ap (λ s. with_body s (allows (k + 1) rule.head) (forces (k + 1) rule.head) l) (has.atoms k e inside)
          ∙ (λ j. record { joined = filter_map (joined_to (k + 1)) joins; allowing = grown (allows (k + 1)) j; forcing = grown (forces (k + 1)) j });
      constraints = adds.constraints ∙ ap (λ ls. ls ++ only_if (forbids rule.head) l) has.constraints ∙ grown forbids;
    })

-- ---- joins

-- a pair, if there is a second part
abbrev pub paired : {A B : Type 0} → A → Option B → List (A × B)
paired x None = []
paired x (Some y) = (x, y) ∷ []

zip_suc : {A B : Type 0} (xs : List A) (ys : List B) (i : ℕ) (x d : A) → i < length xs → x ≡ get_or xs i d → zip (take (suc i) xs) ys ≡ zip (take i xs) ys ++ paired x (slice_get ys i)
zip_suc [] ys i x d within at = absurd (omega arith)
zip_suc (y ∷ xs) [] zero x d within at = refl
zip_suc (y ∷ xs) [] (suc i) x d within at = refl
zip_suc (y ∷ xs) (z ∷ ys) zero x d within at = ap (λ w. (w, z) ∷ []) (sym at)
zip_suc (y ∷ xs) (z ∷ ys) (suc i) x d within at = ap (λ ps. (y, z) ∷ ps) (zip_suc xs ys i x d (omega arith) at)

pub zip_more : {A B : Type 0} (xs : List A) (ys : List B) (i : ℕ) (x d : A) → i < length xs → x ≡ get_or xs i d → zip (take (i + 1) xs) ys ≡ zip (take i xs) ys ++ paired x (slice_get ys i)
zip_more xs ys i x d within at = let e : i + 1 ≡ suc i = omega arith in ap (λ k. zip (take k xs) ys) e ∙ zip_suc xs ys i x d within at

joined_one : (b : Bool) (join : Lit) → cons_option (then_some b join) [] ≡ only_if b join
joined_one true join = refl
joined_one false join = refl

-- one join more
pub joins_more : (p : Frame) (g : Parts) (joins : List (AtomId × Lit)) (rules : List GroundRule) (input : AtomId) (join : Lit) (old new : Heads) → HasSupports p g joins rules old → AddsJoin old new input.0 join → HasSupports p g (joins ++ (input, join) ∷ []) rules new
joins_more p g joins rules input join old new has adds = record {
  length_is = adds.length_is ∙ has.length_is;
  atoms = λ k e inside.
      let inside_old : k < length old.atoms.items = let n = has.length_is in omega arith in
      let grown : filter_map (joined_to (k + 1)) joins ++ only_if (input.0 == k + 1) join ≡ filter_map (joined_to (k + 1)) (joins ++ (input, join) ∷ []) =
      ap (λ ls. filter_map (joined_to (k + 1)) joins ++ ls) (sym (joined_one (input.0 == k + 1) join))
      ∙ sym (filter_map-append (joined_to (k + 1)) joins ((input, join) ∷ []))
      in
      adds.atoms k e inside_old
      ∙ ap (λ (s : Supports). record s { joined = s.joined ++ only_if (input.0 == k + 1) join }) (has.atoms k e inside)
      ∙ (λ j. record { joined = grown j; allowing = bodies_by p g rules (allows (k + 1)); forcing = bodies_by p g rules (forces (k + 1)) });
  constraints = adds.constraints ∙ has.constraints;
}

-- nothing yet
pub nothing_joined : (p : Frame) (g : Parts) (heads : Heads) (n : ℕ) → n ≡ length g.atoms → heads.atoms.items ≡ map (λ (k : ℕ). no_supports) (range_with_len 0 n) → heads.constraints.items ≡ [] → HasSupports p g [] [] heads
nothing_joined p g heads n n_is atoms constraints = record {
  length_is = ap length atoms ∙ length-map-range_with_len (λ k. no_supports) 0 n ∙ n_is;
  atoms = λ k e inside.
      ap (λ xs. get_or xs k e) atoms ∙ get_or-map-range_with_len (λ k. no_supports) 0 n k k e (omega arith) (omega arith);
  constraints = constraints;
}
