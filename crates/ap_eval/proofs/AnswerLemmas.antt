-- A set is an answer set exactly where it is the least set that is closed under its reduct, in which each constraint has
-- an atom as its head that is no atom of the program.
use Rattle.std.proofs.Common.{◌≡◌, ℕ, ◌+◌, ◌<◌, ◌≤◌, Bool, true, false, not, ◌&&◌, ◌||◌, List, get_or, length, refl, sym, ap, ◌∙◌, subst, arith, ⊎_elim, Option, Some, None, nat_lt, nat_le}
use mathlib.Core.Path.{fun_ext}
use Rattle.std.specs.Prelude.{All, IsTrue, IsFalse, IfSome, ◌==◌, ◌↔◌}
use Rattle.std.specs.List.{list_all}
use Rattle.std.specs.Bool.{then_some, beq, Decides}
use Rattle.std.specs.Cmp.Lexicographic.{pointwise}
use Rattle.std.proofs.lemmas.Bool.{false≢true, true≢false, cases_Bool, and_parts, and_from, eqb-true, eq-eqb, false_from_ne_true}
use Rattle.std.proofs.lemmas.Bool.Decides.{nat_tests}
use Rattle.std.proofs.lemmas.List.{ext_get_or}
use Rattle.std.proofs.lemmas.Slice.Eq.{slice_eq-Decides}
use Rattle.std.proofs.lemmas.List.Folds.{Any-from_list_any, list_any_at}
use Rattle.std.proofs.lemmas.List.Sums.{AllPass-from_list_all, list_all-from_AllPass}
use Rattle.definite.specs.Rules.{marked, obeys, IsLeast}
use Rattle.definite.specs.declared.Rule.{Rule}
use Rattle.ground_form.proofs.ReductLemmas.{closed_by_rules, body_by_itself, body_mono}
use Rattle.ground_form.specs.AnswerSets.{IsAnswerSet, IsClosedWith}
use Rattle.ground_form.specs.Obedience.{Obeys, body_by, obliges}
use Rattle.ground_form.specs.Programs.{Parts}
use Rattle.ground_form.specs.Ranges.{IsNumberOf, IsHeadOf}
use Rattle.ground_form.specs.Reduct.{IsClosed, reduct}
use Rattle.ground_form.specs.Sets.{IsSubset, has, nothing}
use Rattle.ground_form.specs.Truth.{body_true}
use Rattle.ground_form.specs.declared.atoms.AtomId.{AtomId}
use Rattle.ground_form.specs.declared.rules.GroundRule.{GroundRule}
use Rattle.ground_form.specs.declared.rules.Head.{Head}
use Rattle.ground_form.specs.declared.rules.Head.TheVariants.{One, Choice, Nothing}
use Rattle.ap_eval.proofs.ListLemmas.{or_from, or_to, same_by_truth}
use Rattle.ap_eval.specs.Reductions.{head_in, has_it, obeys_rule, IsReduct}

-- sets with the same members are the same
pub same_set : (x y : ℕ → Bool) → IsSubset x y → IsSubset y x → x ≡ y
same_set x y h k = fun_ext (λ a. same_by_truth (x a) (y a) (h a) (k a))

with_nothing : (g : Parts) (x y : ℕ → Bool) → IsClosed (reduct g x) y → IsClosedWith g nothing x y
with_nothing g x y h = record {
  has_facts = λ a f. absurd (false≢true f);
  has_heads = h;
}

-- ---- the rules with a head for each constraint

-- what a head gives is what it obliges to, and 0 for a constraint
to_obliged : (x z : ℕ → Bool) (head : Head) → IsTrue (has_it z (head_in x head)) → IfSome (obliges x head) (λ a. IsTrue (z a))
to_obliged x z (One a) h = h
to_obliged x z (Choice a) h = chosen (x a.0) h
  where
    chosen : (b : Bool) → IsTrue (has_it z (then_some b a.0)) → IfSome (then_some b a.0) (λ c. IsTrue (z c))
    chosen true t = t
    chosen false t = tt
to_obliged x z Nothing h = tt

from_obliged : (x z : ℕ → Bool) (head : Head) → (head ≡ Nothing → ⊥) → IfSome (obliges x head) (λ a. IsTrue (z a)) → IsTrue (has_it z (head_in x head))
from_obliged x z (One a) some h = h
from_obliged x z (Choice a) some h = chosen (x a.0) h
  where
    chosen : (b : Bool) → IfSome (then_some b a.0) (λ c. IsTrue (z c)) → IsTrue (has_it z (then_some b a.0))
    chosen true t = t
    chosen false t = refl
from_obliged x z Nothing some h = absurd (some refl)

-- a set with this rule's head has no true body of a constraint
head_cases : (P : Type 0) (head : Head) → ((head ≡ Nothing) → P) → ((head ≡ Nothing → ⊥) → P) → P
head_cases P (One a) none some = some (λ e. absurd (cc))
head_cases P (Choice a) none some = some (λ e. absurd (cc))
head_cases P Nothing none some = none refl

module _ (g : Parts) (x : ℕ → Bool) (rules : List Rule) (is : IsReduct g x rules) where
  to_rules : (z : ℕ → Bool) → All (λ (rule : GroundRule). IsTrue (body_by g x z rule.body.0) → IsTrue (has_it z (head_in x rule.head))) g.rules → IsTrue (list_all (obeys z) rules)
  to_rules z h = is.closed z ∙ list_all-from_AllPass (obeys_rule g x z) g.rules (λ k d lt.
      let rule : GroundRule = get_or g.rules k d in
      or_from (body_by g x z rule.body.0) (has_it z (head_in x rule.head)) (h k d lt))

  from_rules : (z : ℕ → Bool) → IsTrue (list_all (obeys z) rules) → All (λ (rule : GroundRule). IsTrue (body_by g x z rule.body.0) → IsTrue (has_it z (head_in x rule.head))) g.rules
  from_rules z h k d lt =
      let rule : GroundRule = get_or g.rules k d in
      or_to (body_by g x z rule.body.0) (has_it z (head_in x rule.head)) (AllPass-from_list_all (obeys_rule g x z) g.rules (sym (is.closed z) ∙ h) k d lt)

  closed_from_rules : (z : ℕ → Bool) → IsTrue (list_all (obeys z) rules) → IsClosed (reduct g x) z
  closed_from_rules z h = (closed_by_rules g x z).1 (λ k d lt t. to_obliged x z (get_or g.rules k d).head (from_rules z h k d lt t))

  -- in a subset of a set without a violated constraint, closed is closed
  rules_from_closed : (z : ℕ → Bool) → All (λ (rule : GroundRule). rule.head ≡ Nothing → IsFalse (body_true g x rule.body.0)) g.rules → IsSubset z x → IsClosed (reduct g x) z → IsTrue (list_all (obeys z) rules)
  rules_from_closed z none sub closed = to_rules z (λ k d lt t.
      let rule : GroundRule = get_or g.rules k d in
      head_cases (IsTrue (has_it z (head_in x rule.head))) rule.head
      (λ e. absurd (false≢true (sym (none k d lt e) ∙ (sym (body_by_itself g x rule.body.0) ∙ body_mono g x z x rule.body.0 sub t))))
      (λ some. from_obliged x z rule.head some ((closed_by_rules g x z).0 closed k d lt t)))

  -- the least set is x: x is an answer set
  answer_from_least : IsFalse (x 0) → IsLeast rules x → IsAnswerSet g x
  answer_from_least zero least =
      let none : All (λ (rule : GroundRule). rule.head ≡ Nothing → IsFalse (body_true g x rule.body.0)) g.rules = λ k d lt e.
      let rule : GroundRule = get_or g.rules k d in
      false_from_ne_true (body_true g x rule.body.0) (λ t. false≢true (sym zero
      ∙ subst (λ head. IsTrue (has_it x (head_in x head))) e (from_rules x least.closed k d lt (body_by_itself g x rule.body.0 ∙ t)))) in
      record {
        closed = with_nothing g x x (closed_from_rules x least.closed);
        minimal = λ z sub closed. least.least z (rules_from_closed z none sub closed.has_heads);
        constraints = none;
      }

  -- and the other way round
  least_from_answer : (y : ℕ → Bool) → IsLeast rules y → IsAnswerSet g x → y ≡ x
  least_from_answer y least answer =
      let within : IsSubset y x = least.least x (rules_from_closed x answer.constraints (λ a t. t) answer.closed.has_heads) in
      same_set y x within (answer.minimal y within (with_nothing g x y (closed_from_rules y least.closed)))

-- ---- tables

-- the table of the least set is the table of x exactly where x is an answer set
pub answer_by_tables : (g : Parts) (x least : List Bool) (rules : List Rule) → IsReduct g (marked x) rules → IsFalse (marked x 0) → length least ≡ length x → IsLeast rules (marked least) → (least ≡ x) ↔ IsAnswerSet g (marked x)
answer_by_tables g x least rules is zero size h = (
  λ e. answer_from_least g (marked x) rules is zero (subst (λ ms. IsLeast rules (marked ms)) e h),
  λ answer. ext_get_or false least x size (λ i lt. ap (λ (s : ℕ → Bool). s i) (least_from_answer g (marked x) rules is (marked least) h answer)),
)

beq_decides : (a b : Bool) → Decides (beq a b) (a ≡ b)
beq_decides true true = (λ e. refl, λ e. refl)
beq_decides true false = (λ e. absurd (false≢true e), λ e. absurd (true≢false e))
beq_decides false true = (λ e. absurd (false≢true e), λ e. absurd (false≢true e))
beq_decides false false = (λ e. refl, λ e. refl)

-- so does comparing them, and both are those of a list
pub answer_by_eq : (g : Parts) (ids : List AtomId) (x least : List Bool) (rules : List Rule) (r : Bool) → IsReduct g (marked x) rules → ((a : ℕ) → marked x a ≡ has ids a) → IsFalse (has ids 0) → length least ≡ length x → IsLeast rules (marked least) → r ≡ pointwise beq least x → IsTrue r ↔ IsAnswerSet g (has ids)
answer_by_eq g ids x least rules r is same zero size h e =
    let by_tables = answer_by_tables g x least rules is (same 0 ∙ zero) size h in
    let decides = slice_eq-Decides beq_decides least x r e in
    let set : marked x ≡ has ids = fun_ext same in (
      λ t. subst (IsAnswerSet g) set (by_tables.0 (decides.0 t)),
      λ answer. decides.1 (by_tables.1 (subst (IsAnswerSet g) (sym set) answer)),
    )

-- ---- the members of a list

-- whether a is the number of an atom
abbrev is_atom : ℕ → ℕ → Bool
is_atom n a = nat_lt 0 a && nat_le a n

number_of : (n a : ℕ) → IsTrue (is_atom n a) → IsNumberOf n a
number_of n a t = let p = and_parts (nat_lt 0 a) (nat_le a n) t in let low = p.0 in let high = p.1 in (grind (arith, nat_tests), grind (arith, nat_tests))

is_number : (n a : ℕ) → IsNumberOf n a → IsTrue (is_atom n a)
is_number n a h = let low = h.0 in let high = h.1 in and_from (nat_lt 0 a) (nat_le a n) (grind (arith, nat_tests)) (grind (arith, nat_tests))

obliged_number : (n : ℕ) (x z : ℕ → Bool) (head : Head) → IsHeadOf n head → IfSome (obliges x head) (λ a. IsTrue (z a)) → IfSome (obliges x head) (λ a. IsTrue (z a && is_atom n a))
obliged_number n x z (One a) h t = and_from (z a.0) (is_atom n a.0) t (is_number n a.0 h)
obliged_number n x z (Choice a) h t = chosen (x a.0) t
  where
    chosen : (b : Bool) → IfSome (then_some b a.0) (λ c. IsTrue (z c)) → IfSome (then_some b a.0) (λ c. IsTrue (z c && is_atom n c))
    chosen true s = and_from (z a.0) (is_atom n a.0) s (is_number n a.0 h)
    chosen false s = tt
obliged_number n x z Nothing h t = tt

-- an answer set has only atoms of the program
pub answer_in_range : (g : Parts) (x : ℕ → Bool) → All (λ (rule : GroundRule). IsHeadOf (length g.atoms) rule.head) g.rules → IsAnswerSet g x → (a : ℕ) → IsTrue (x a) → IsNumberOf (length g.atoms) a
answer_in_range g x heads answer a t =
    let n : ℕ = length g.atoms in
    let z : ℕ → Bool = λ c. x c && is_atom n c in
    let sub : IsSubset z x = λ c u. (and_parts (x c) (is_atom n c) u).0 in
    let closed : IsClosed (reduct g x) z = (closed_by_rules g x z).1 (λ k d lt u.
    let rule : GroundRule = get_or g.rules k d in
    obliged_number n x x rule.head (heads k d lt) ((closed_by_rules g x x).0 answer.closed.has_heads k d lt (body_mono g x z x rule.body.0 sub u))) in
    number_of n a (and_parts (x a) (is_atom n a) (answer.minimal z sub (with_nothing g x z closed) a t)).1

within_members : (ids : List AtomId) (P : ℕ → Type 0) → ((a : ℕ) → IsTrue (has ids a) → P a) → All (λ (id : AtomId). P id.0) ids
within_members ids P h k d lt =
    let a : ℕ = (get_or ids k d).0 in
    h a (list_any_at (λ (id : AtomId). id.0 == a) ids k d lt (eq-eqb a a refl))

pub answer_members : (g : Parts) (ids : List AtomId) → All (λ (rule : GroundRule). IsHeadOf (length g.atoms) rule.head) g.rules → IsAnswerSet g (has ids) → All (λ (id : AtomId). IsNumberOf (length g.atoms) id.0) ids
answer_members g ids heads answer = within_members ids (IsNumberOf (length g.atoms)) (answer_in_range g (has ids) heads answer)

-- what has only numbers of atoms has no 0
pub no_zero : (n : ℕ) (ids : List AtomId) → All (λ (id : AtomId). IsNumberOf n id.0) ids → IsFalse (has ids 0)
no_zero n ids h = false_from_ne_true (has ids 0) (λ t.
    let m = Any-from_list_any (λ (id : AtomId). id.0 == 0) ids t in
    let low = (subst (λ (id : AtomId). IsNumberOf n id.0) m.3 (h m.0 m.1 m.2)).0 in
    let is : m.1.0 ≡ 0 = eqb-true m.1.0 0 m.4 in
    omega arith)
