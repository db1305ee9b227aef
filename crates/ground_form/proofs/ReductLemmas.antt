-- The reduct read on the program's own rules: positive literals in y, and negation and aggregates in x.
use Rattle.std.proofs.Common.{◌≡◌, ℕ, suc, Bool, true, false, not, ◌&&◌, List, [], ◌∷◌, refl, sym, ap, ◌∙◌, Option, Some, None}
use Rattle.std.specs.Prelude.{ℤ, pos, negsuc, All, IsTrue, IfSome, ◌↔◌}
use Rattle.std.specs.List.{filter_map, list_all, cons_option, AllByRecursion}
use Rattle.std.specs.Bool.{then_some}
use Rattle.std.proofs.lemmas.Bool.{and_parts, and_from, false≢true}
use Rattle.std.proofs.lemmas.List.Elements.{All-from_recursion, recursion_from_All, All-weaker}
use Rattle.ground_form.specs.Truth.{literal_true, literals_of, aggregates_true, body_true}
use Rattle.ground_form.specs.Reduct.{Definite, positive_of, not_refuted, stays, positives, reduced, reduct, IsClosed}
use Rattle.ground_form.specs.Sets.{IsSubset}
use Rattle.ground_form.specs.Obedience.{literal_by, body_by, obliges, Obeys}
use Rattle.ground_form.specs.Programs.{Parts}
use Rattle.ground_form.specs.declared.rules.GroundRule.{GroundRule}
use Rattle.ground_form.specs.declared.rules.Head.{Head}
use Rattle.ground_form.specs.declared.rules.Head.TheVariants.{One, Choice, Nothing}

-- ---- All of a filter_map

split_first : {X : Type 0} (P : X → Type 0) (o : Option X) (xs : List X) → AllByRecursion P (cons_option o xs) → IfSome o P × AllByRecursion P xs
split_first P None xs h = (tt, h)
split_first P (Some x) xs h = h

join_first : {X : Type 0} (P : X → Type 0) (o : Option X) (xs : List X) → IfSome o P → AllByRecursion P xs → AllByRecursion P (cons_option o xs)
join_first P None xs h t = t
join_first P (Some x) xs h t = (h, t)

from_kept : {X Y : Type 0} (f : X → Option Y) (P : Y → Type 0) (xs : List X) → AllByRecursion P (filter_map f xs) → AllByRecursion (λ x. IfSome (f x) P) xs
from_kept f P [] h = tt
from_kept f P (x ∷ xs) h = let s = split_first P (f x) (filter_map f xs) h in (s.0, from_kept f P xs s.1)

to_kept : {X Y : Type 0} (f : X → Option Y) (P : Y → Type 0) (xs : List X) → AllByRecursion (λ x. IfSome (f x) P) xs → AllByRecursion P (filter_map f xs)
to_kept f P [] h = tt
to_kept f P (x ∷ xs) h = join_first P (f x) (filter_map f xs) h.0 (to_kept f P xs h.1)

All-from_filter_map : {X Y : Type 0} (f : X → Option Y) (P : Y → Type 0) (xs : List X) → All P (filter_map f xs) → All (λ x. IfSome (f x) P) xs
All-from_filter_map f P xs h = All-from_recursion (λ x. IfSome (f x) P) xs (from_kept f P xs (recursion_from_All P (filter_map f xs) h))

All-filter_map : {X Y : Type 0} (f : X → Option Y) (P : Y → Type 0) (xs : List X) → All (λ x. IfSome (f x) P) xs → All P (filter_map f xs)
All-filter_map f P xs h = All-from_recursion P (filter_map f xs) (to_kept f P xs (recursion_from_All (λ x. IfSome (f x) P) xs h))

-- ---- a body in two parts

and_swap : (a b c : Bool) → (a && (b && c)) ≡ (b && (a && c))
and_swap true true c = refl
and_swap true false c = refl
and_swap false true c = refl
and_swap false false c = refl

and_assoc : (a b c : Bool) → (a && (b && c)) ≡ ((a && b) && c)
and_assoc true b c = refl
and_assoc false b c = refl

-- true by x and y is: the negative part true by x, and the positive one by y
by_parts : (x y : ℕ → Bool) (lits : List ℤ) → list_all (literal_by x y) lits ≡ (list_all (not_refuted x) lits && list_all y (filter_map positive_of lits))
by_parts x y [] = refl
by_parts x y (pos a ∷ lits) = rw (by_parts x y lits) (and_swap (y a) (list_all (not_refuted x) lits) (list_all y (filter_map positive_of lits)))
by_parts x y (negsuc k ∷ lits) = rw (by_parts x y lits) (and_assoc (not (x (suc k))) (list_all (not_refuted x) lits) (list_all y (filter_map positive_of lits)))

pub body_by_parts : (g : Parts) (x y : ℕ → Bool) (b : ℕ) → body_by g x y b ≡ (stays g x b && list_all y (positives g b))
body_by_parts g x y b = rw (by_parts x y (literals_of g b)) (and_assoc (aggregates_true g x b) (list_all (not_refuted x) (literals_of g b)) (list_all y (positives g b)))

-- by x and x it is truth in x
by_itself : (x : ℕ → Bool) (lits : List ℤ) → list_all (literal_by x x) lits ≡ list_all (literal_true x) lits
by_itself x [] = refl
by_itself x (pos a ∷ lits) = ap (λ b. x a && b) (by_itself x lits)
by_itself x (negsuc k ∷ lits) = ap (λ b. not (x (suc k)) && b) (by_itself x lits)

pub body_by_itself : (g : Parts) (x : ℕ → Bool) (b : ℕ) → body_by g x x b ≡ body_true g x b
body_by_itself g x b = ap (λ t. aggregates_true g x b && t) (by_itself x (literals_of g b))

-- ---- the law

when_kept : (P : Definite → Type 0) (s : Bool) (d : Definite) → IfSome (then_some s d) P → s ≡ true → P d
when_kept P true d h e = h
when_kept P false d h e = absurd (false≢true e)

if_kept : (P : Definite → Type 0) (s : Bool) (d : Definite) → (s ≡ true → P d) → IfSome (then_some s d) P
if_kept P true d h = h refl
if_kept P false d h = tt

some_if : (P : ℕ → Type 0) (b : Bool) (a : ℕ) → (b ≡ true → P a) → IfSome (then_some b a) P
some_if P true a h = h refl
some_if P false a h = tt

if_some : (P : ℕ → Type 0) (b : Bool) (a : ℕ) → IfSome (then_some b a) P → b ≡ true → P a
if_some P true a h e = h
if_some P false a h e = absurd (false≢true e)

abbrev Keeps : (ℕ → Bool) → Definite → Type 0
Keeps y d = IsTrue (list_all y d.body) → IsTrue (y d.head)

obeys_head : (g : Parts) (x y : ℕ → Bool) (h : Head) (b : ℕ) → IfSome (reduced g x h b) (Keeps y) → IsTrue (body_by g x y b) → IfSome (obliges x h) (λ a. IsTrue (y a))
obeys_head g x y (One a) b k t =
    let parts = and_parts (stays g x b) (list_all y (positives g b)) (sym (body_by_parts g x y b) ∙ t) in
    when_kept (Keeps y) (stays g x b) (record { head = a.0; body = positives g b }) k parts.0 parts.1
obeys_head g x y (Choice a) b k t = some_if (λ c. IsTrue (y c)) (x a.0) a.0 (λ i.
    let parts = and_parts (stays g x b) (list_all y (positives g b)) (sym (body_by_parts g x y b) ∙ t) in
    when_kept (Keeps y) (x a.0 && stays g x b) (record { head = a.0; body = positives g b }) k (and_from (x a.0) (stays g x b) i parts.0) parts.1)
obeys_head g x y Nothing b k t = tt

keeps_head : (g : Parts) (x y : ℕ → Bool) (h : Head) (b : ℕ) → (IsTrue (body_by g x y b) → IfSome (obliges x h) (λ a. IsTrue (y a))) → IfSome (reduced g x h b) (Keeps y)
keeps_head g x y (One a) b k = if_kept (Keeps y) (stays g x b) (record { head = a.0; body = positives g b }) (λ s t. k (body_by_parts g x y b ∙ and_from (stays g x b) (list_all y (positives g b)) s t))
keeps_head g x y (Choice a) b k = if_kept (Keeps y) (x a.0 && stays g x b) (record { head = a.0; body = positives g b }) (λ s t.
    let parts = and_parts (x a.0) (stays g x b) s in
    if_some (λ c. IsTrue (y c)) (x a.0) a.0 (k (body_by_parts g x y b ∙ and_from (stays g x b) (list_all y (positives g b)) parts.1 t)) parts.0)
keeps_head g x y Nothing b k = tt

obeys_from_closed : (g : Parts) (x y : ℕ → Bool) → IsClosed (reduct g x) y → All (Obeys g x y) g.rules
obeys_from_closed g x y h =
    All-weaker (λ (r : GroundRule). IfSome (reduced g x r.head r.body.0) (Keeps y)) (Obeys g x y) (λ r k. obeys_head g x y r.head r.body.0 k) g.rules
    (All-from_filter_map (λ (r : GroundRule). reduced g x r.head r.body.0) (Keeps y) g.rules h)

closed_from_obeys : (g : Parts) (x y : ℕ → Bool) → All (Obeys g x y) g.rules → IsClosed (reduct g x) y
closed_from_obeys g x y h =
    All-filter_map (λ (r : GroundRule). reduced g x r.head r.body.0) (Keeps y) g.rules
    (All-weaker (Obeys g x y) (λ (r : GroundRule). IfSome (reduced g x r.head r.body.0) (Keeps y)) (λ r k. keeps_head g x y r.head r.body.0 k) g.rules h)

-- y is closed under the reduct by x exactly where it obeys each rule, with negation and aggregates read in x
pub closed_by_rules : (g : Parts) (x y : ℕ → Bool) → IsClosed (reduct g x) y ↔ All (Obeys g x y) g.rules
closed_by_rules g x y = (obeys_from_closed g x y, closed_from_obeys g x y)

-- ---- more atoms make no body false

literal_mono : (x y z : ℕ → Bool) → IsSubset y z → (l : ℤ) → IsTrue (literal_by x y l) → IsTrue (literal_by x z l)
literal_mono x y z s (pos a) h = s a h
literal_mono x y z s (negsuc k) h = h

literals_mono : (x y z : ℕ → Bool) → IsSubset y z → (lits : List ℤ) → IsTrue (list_all (literal_by x y) lits) → IsTrue (list_all (literal_by x z) lits)
literals_mono x y z s [] h = refl
literals_mono x y z s (l ∷ lits) h =
    let parts = and_parts (literal_by x y l) (list_all (literal_by x y) lits) h in
    and_from (literal_by x z l) (list_all (literal_by x z) lits) (literal_mono x y z s l parts.0) (literals_mono x y z s lits parts.1)

pub body_mono : (g : Parts) (x y z : ℕ → Bool) (b : ℕ) → IsSubset y z → IsTrue (body_by g x y b) → IsTrue (body_by g x z b)
body_mono g x y z b s h =
    let parts = and_parts (aggregates_true g x b) (list_all (literal_by x y) (literals_of g b)) h in
    and_from (aggregates_true g x b) (list_all (literal_by x z) (literals_of g b)) parts.0 (literals_mono x y z s (literals_of g b) parts.1)
