-- The reduct, gathered by bodies.
use Rattle.std.proofs.Common.{◌≡◌, ℕ, zero, suc, ◌+◌, ◌-◌, ◌<◌, ◌≤◌, Bool, true, false, not, ◌&&◌, ◌||◌, List, [], ◌∷◌, ◌++◌, map, take, length, get_or, refl, sym, ap, ◌∙◌, subst, arith, Option, Some, None, slice_set}
use Rattle.std.specs.Prelude.{ℤ, pos, negsuc, All, IsTrue, slice_get}
use Rattle.std.specs.List.{list_all, filter_map}
use Rattle.std.specs.Bool.{beq}
use Rattle.std.proofs.lemmas.Bool.{false≢true}
use Rattle.std.proofs.lemmas.List.{set-get_or, length-map, map-set}
use Rattle.std.proofs.lemmas.List.Elements.{All-nil, All-cons, All-head, All-tail, All-set, All-get_or, All-append}
use Rattle.std.proofs.lemmas.List.Folds.{list_all-append, list_all_more}
use Rattle.std.proofs.lemmas.List.Sums.{list_all-from_AllPass}
use Rattle.std.proofs.lemmas.Option.{slice_get-map, slice_get-get_or}
use Rattle.definite.specs.Rules.{obeys, IsRuleOf}
use Rattle.definite.specs.declared.Rule.{Rule}
use Rattle.ground_form.proofs.ReductLemmas.{body_by_parts}
use Rattle.ground_form.specs.Obedience.{body_by}
use Rattle.ground_form.specs.Programs.{Parts, numbered}
use Rattle.ground_form.specs.Ranges as ranges
use Rattle.ground_form.specs.Reduct.{not_refuted, positive_of, positives, stays}
use Rattle.ground_form.specs.Truth as truth
use Rattle.ground_form.specs.declared.bodies.Body.{Body}
use Rattle.ground_form.specs.declared.bodies.GuardUse.{GuardUse}
use Rattle.ground_form.specs.declared.groups.Group.{Group}
use Rattle.ground_form.specs.declared.rules.GroundRule.{GroundRule}
use Rattle.ground_form.specs.declared.rules.Head.{Head}
use Rattle.ground_form.specs.declared.rules.Head.TheVariants.{One, Choice, Nothing}
use Rattle.ap_eval.proofs.ListLemmas.{and_assoc, and_true, all_same, map_at}
use Rattle.ap_eval.specs.Reductions.{group_value, value_true, guard_by, kept_by, positives_in, head_in, has_it, obeys_rule, obeys_by, body_of, with_head, AddsRule, AddsRules, IsReduct}

-- ---- tests of lists

and_last : (a q r : Bool) → ((a && q) && r) ≡ ((a && r) && q)
and_last true true true = refl
and_last true true false = refl
and_last true false true = refl
and_last true false false = refl
and_last false q r = refl

-- one member asks for q more
all_set : {X : Type 0} (f : X → Bool) (xs : List X) (i : ℕ) (d v : X) (q : Bool) → i < length xs → f v ≡ (f (get_or xs i d) && q) → list_all f (slice_set xs i v) ≡ (list_all f xs && q)
all_set f [] i d v q lt e = absurd (omega arith)
all_set f (x ∷ xs) zero d v q lt e = ap (λ b. b && list_all f xs) e ∙ and_last (f x) q (list_all f xs)
all_set f (x ∷ xs) (suc i) d v q lt e = let below : i < length xs = omega arith in
    ap (λ b. f x && b) (all_set f xs i d v q below e) ∙ and_assoc (f x) (list_all f xs) q

-- ---- one more head

head_more : (b h t : Bool) → (not b || (h && (t && true))) ≡ ((not b || h) && (not b || t))
head_more true true true = refl
head_more true true false = refl
head_more true false t = refl
head_more false h t = refl

obeys_more : (z : ℕ → Bool) (rule : Rule) (a : ℕ) → obeys z (with_head rule a) ≡ (obeys z rule && (not (list_all z rule.body) || z a))
obeys_more z rule a = ap (λ b. not (list_all z rule.body) || b) (list_all-append z rule.heads (a ∷ [])) ∙ head_more (list_all z rule.body) (list_all z rule.heads) (z a)

no_rule : Rule
no_rule = record { body = []; heads = [] }

head_below : (atoms : ℕ) (x : ℕ → Bool) (head : Head) (a : ℕ) → ranges.IsHeadOf atoms head → head_in x head ≡ Some a → a < atoms + 1
head_below atoms x (One c) a h e = let le = h.1 in let is : c.0 ≡ a = cc in omega arith
head_below atoms x (Choice c) a h e = chosen (x c.0) e
  where
    chosen : (b : Bool) → Rattle.std.specs.Bool.then_some b c.0 ≡ Some a → a < atoms + 1
    chosen true s = let le = h.1 in let is : c.0 ≡ a = cc in omega arith
    chosen false s = absurd (cc)
head_below atoms x Nothing a h e = let is : 0 ≡ a = cc in omega arith

pub head_added : (kept : List Bool) (x : ℕ → Bool) (old new : List Rule) (rule : GroundRule) (a atoms : ℕ) → ranges.IsRuleOf atoms (length old) rule → get_or kept (rule.body.0 - 1) false ≡ true → head_in x rule.head ≡ Some a → ((d : Rule) → new ≡ slice_set old (rule.body.0 - 1) (with_head (get_or old (rule.body.0 - 1) d) a)) → AddsRule kept x (atoms + 1) old new rule
head_added kept x old new rule a atoms range on head is =
    let place : ℕ = rule.body.0 - 1 in
    let low = range.body.0 in
    let high = range.body.1 in
    let lt : place < length old = omega arith in
    let now : Rule = get_or old place no_rule in
    let set : new ≡ slice_set old place (with_head now a) = is no_rule in
    let body : get_or (map body_of old) place [] ≡ now.body = map_at body_of old place no_rule [] lt in
    record {
      closed = λ z.
          let asked : obeys_by kept (map body_of old) x z rule ≡ (not (list_all z now.body) || z a) =
          ap (λ k. not (k && list_all z (get_or (map body_of old) place [])) || has_it z (head_in x rule.head)) on
          ∙ (ap (λ b. not (list_all z b) || has_it z (head_in x rule.head)) body ∙ ap (λ h. not (list_all z now.body) || has_it z h) head) in
          ap (list_all (obeys z)) set
          ∙ (all_set (obeys z) old place no_rule (with_head now a) (not (list_all z now.body) || z a) lt (obeys_more z now a)
          ∙ ap (λ b. list_all (obeys z) old && b) (sym asked));
      bodies = ap (map body_of) set ∙ (map-set body_of old place (with_head now a)
          ∙ (ap (slice_set (map body_of old) place) (sym body) ∙ set-get_or (map body_of old) place []));
      range = λ all. subst (All (IsRuleOf (atoms + 1))) (sym set)
          (All-set (IsRuleOf (atoms + 1)) old place (with_head now a)
          (record {
            body = (all place no_rule lt).body;
            heads = All-append (λ c. c < atoms + 1) now.heads (a ∷ []) (all place no_rule lt).heads
                (All-cons (λ c. c < atoms + 1) a [] (head_below atoms x rule.head a range.head head) (All-nil (λ c. c < atoms + 1)));
          }) all);
    }

-- ---- one more rule of the program

pub rules_none : (kept : List Bool) (x : ℕ → Bool) (atoms : ℕ) (old : List Rule) → AddsRules kept x atoms old old []
rules_none kept x atoms old = record { closed = λ z. and_true (list_all (obeys z) old); bodies = refl; range = λ h. h }

pub rules_more : (kept : List Bool) (x : ℕ → Bool) (atoms : ℕ) (old mid new : List Rule) (program : List GroundRule) (i : ℕ) (d : GroundRule) → i < length program → AddsRules kept x atoms old mid (take i program) → AddsRule kept x atoms mid new (get_or program i d) → AddsRules kept x atoms old new (take (i + 1) program)
rules_more kept x atoms old mid new program i d lt before now = record {
  closed = λ z.
      let f : List (List ℕ) → GroundRule → Bool = λ bodies. obeys_by kept bodies x z in
      now.closed z
      ∙ (ap (λ b. b && f (map body_of mid) (get_or program i d)) (before.closed z)
      ∙ (ap (λ bodies. (list_all (obeys z) old && list_all (f (map body_of old)) (take i program)) && f bodies (get_or program i d)) before.bodies
      ∙ (sym (and_assoc (list_all (obeys z) old) (list_all (f (map body_of old)) (take i program)) (f (map body_of old) (get_or program i d)))
      ∙ ap (λ b. list_all (obeys z) old && b) (sym (list_all_more (f (map body_of old)) program i d lt)))));
  bodies = now.bodies ∙ before.bodies;
  range = λ h. now.range (before.range h);
}

-- ---- the whole reduct

value_same : (groups : List Group) (x : ℕ → Bool) (guard n : ℕ) → value_true guard (numbered groups n) (numbered (map (group_value x) groups) n) ≡ truth.group_true_if_there x guard (numbered groups n)
value_same groups x guard zero = refl
value_same groups x guard (suc i) = ap (value_true guard (slice_get groups i)) (slice_get-map (group_value x) groups i) ∙ here (slice_get groups i)
  where
    here : (o : Option Group) → value_true guard o (Rattle.std.specs.Option.option_map (group_value x) o) ≡ truth.group_true_if_there x guard o
    here None = refl
    here (Some group) = refl

kept_same : (groups : List Group) (x : ℕ → Bool) (body : Body) → kept_by groups (map (group_value x) groups) x body ≡ (truth.guards_true groups x body && list_all (not_refuted x) body.lits)
kept_same groups x body = ap (λ b. (not body.never && b) && list_all (not_refuted x) body.lits)
    (all_same (guard_by groups (map (group_value x) groups)) (truth.guard_true groups x) body.guards
    (λ k d lt. let guard : GuardUse = get_or body.guards k d in ap (beq guard.yes) (value_same groups x guard.guard guard.group)))

no_body : Body
no_body = record { lits = []; guards = []; always = false; never = false }

asked_same : (g : Parts) (x z : ℕ → Bool) (b : ℕ) → 0 < b → b ≤ length g.bodies → (get_or (map (kept_by g.groups (map (group_value x) g.groups) x) g.bodies) (b - 1) false && list_all z (get_or (map positives_in g.bodies) (b - 1) [])) ≡ body_by g x z b
asked_same g x z zero low high = absurd (omega arith)
asked_same g x z (suc i) low high =
    let lt : i < length g.bodies = omega arith in
    let place : suc i - 1 ≡ i = omega arith in
    let body : Body = get_or g.bodies i no_body in
    let kept = kept_by g.groups (map (group_value x) g.groups) x in
    ap (λ k. get_or (map kept g.bodies) k false && list_all z (get_or (map positives_in g.bodies) k [])) place
    ∙ (ap (λ k. k && list_all z (get_or (map positives_in g.bodies) i [])) (map_at kept g.bodies i no_body false lt ∙ kept_same g.groups x body)
    ∙ (ap (λ ps. (truth.guards_true g.groups x body && list_all (not_refuted x) body.lits) && list_all z ps) (map_at positives_in g.bodies i no_body [] lt)
    ∙ sym (body_by_parts g x z (suc i)
    ∙ ap (λ o. (truth.guards_in g.groups x o && list_all (not_refuted x) (truth.literals_in o)) && list_all z (filter_map positive_of (truth.literals_in o))) (slice_get-get_or g.bodies i no_body lt))))

positives_below : (n : ℕ) (lits : List ℤ) → All (ranges.IsLiteralOf n) lits → All (λ a. a < n + 1) (filter_map positive_of lits)
positives_below n [] h = All-nil (λ a. a < n + 1)
positives_below n (pos a ∷ lits) h =
    let le = (All-head (ranges.IsLiteralOf n) (pos a) lits h).1 in
    All-cons (λ c. c < n + 1) a (filter_map positive_of lits) (omega arith) (positives_below n lits (All-tail (ranges.IsLiteralOf n) (pos a) lits h))
positives_below n (negsuc k ∷ lits) h = positives_below n lits (All-tail (ranges.IsLiteralOf n) (negsuc k) lits h)

no_heads : (z : ℕ → Bool) (rule : Rule) → rule.heads ≡ [] → obeys z rule ≡ true
no_heads z rule e = ap (λ heads. not (list_all z rule.body) || list_all z heads) e ∙ or_true (not (list_all z rule.body))
  where
    or_true : (b : Bool) → (b || true) ≡ true
    or_true true = refl
    or_true false = refl

pub start_length : (start : List Rule) (bodies : List Body) → map body_of start ≡ map positives_in bodies → length start ≡ length bodies
start_length start bodies e = sym (length-map start body_of) ∙ (ap length e ∙ length-map bodies positives_in)

pub reduct_whole : (g : Parts) (x : ℕ → Bool) (values : List ℤ) (kept : List Bool) (start rules : List Rule) → ranges.IsInRange g → values ≡ map (group_value x) g.groups → kept ≡ map (kept_by g.groups values x) g.bodies → map body_of start ≡ map positives_in g.bodies → All (λ (rule : Rule). rule.heads ≡ []) start → AddsRules kept x (length g.atoms + 1) start rules g.rules → IsReduct g x rules
reduct_whole g x values kept start rules range is_values is_kept bodies heads adds =
    let kept_is : kept ≡ map (kept_by g.groups (map (group_value x) g.groups) x) g.bodies = is_kept ∙ ap (λ vs. map (kept_by g.groups vs x) g.bodies) is_values in
    record {
      closed = λ z.
          adds.closed z
          ∙ (ap (λ b. b && list_all (obeys_by kept (map body_of start) x z) g.rules) (list_all-from_AllPass (obeys z) start (λ k d lt. no_heads z (get_or start k d) (heads k d lt)))
          ∙ all_same (obeys_by kept (map body_of start) x z) (obeys_rule g x z) g.rules (λ k d lt.
          let rule : GroundRule = get_or g.rules k d in
          let number = (range.rules k d lt).body in
          ap (λ b. not b || has_it z (head_in x rule.head))
          (ap (λ ks. get_or ks (rule.body.0 - 1) false && list_all z (get_or (map body_of start) (rule.body.0 - 1) [])) kept_is
          ∙ (ap (λ bs. get_or (map (kept_by g.groups (map (group_value x) g.groups) x) g.bodies) (rule.body.0 - 1) false && list_all z (get_or bs (rule.body.0 - 1) [])) bodies
          ∙ asked_same g x z rule.body.0 number.0 number.1))));
      range = adds.range (λ k d lt.
          let same_length : length start ≡ length g.bodies = start_length start g.bodies bodies in
          let within : k < length g.bodies = omega arith in
          let is : (get_or start k d).body ≡ positives_in (get_or g.bodies k no_body) = sym (map_at body_of start k d [] lt) ∙ (ap (λ bs. get_or bs k []) bodies ∙ map_at positives_in g.bodies k no_body [] within) in
          record {
            body = subst (All (λ a. a < length g.atoms + 1)) (sym is) (positives_below (length g.atoms) (get_or g.bodies k no_body).lits (range.bodies k no_body within).lits);
            heads = subst (All (λ a. a < length g.atoms + 1)) (sym (heads k d lt)) (All-nil (λ a. a < length g.atoms + 1));
          });
    }
