-- The orders on small statements.
use Rattle.std.proofs.Common.{◌≡◌, ℕ, ◌<◌, pos, negsuc, Bool, true, false, List, [], ◌∷◌, Contains, IsTrue, refl, subst, ap, ⊎_elim, Some, None, arith}
use Rattle.std.specs.Prelude.{codes, ◌<ℤ◌}
use Rattle.std.specs.List.{list_any}
use Rattle.std.proofs.lemmas.Bool.{false≢true}
use Rattle.std.proofs.lemmas.Int.{ints}
use Rattle.ap_syntax.specs.declared.terms.Rel.TheVariants.{Gt}
use Rattle.ap_term.specs.Value.{Value, integer, constant, none, also}
use Rattle.element_form.specs.Closures.Leads.{one, more}
use Rattle.element_form.specs.Degrees.{degree}
use Rattle.element_form.specs.Facts.{Asked}
use Rattle.element_form.specs.Flips.{Flips}
use Rattle.element_form.specs.Formulas.{atom_formula, neg_formula, satisfied_by}
use Rattle.element_form.specs.Ground.{Target, For, Name, Ranked, Ground, Statement, HasName}
use Rattle.element_form.specs.Greater.{IsGreater, StandsBefore}
use Rattle.element_form.specs.Satisfied.{same_value, weight_sum}
use Rattle.pref_kinds.specs.declared.built_in.BuiltIn.TheVariants.{LessWeight, Cp, Pareto, Lexico, And, Neg}
use Rattle.rule_form.proofs.Unfolds.{here, there, first_or_rest, nothing_in}
use Rattle.rule_form.specs.Truth.{compares}
use Rattle.type_law.specs.Lexico.{Named}
use Rattle.type_law.specs.Orders.{Better}

-- ---- words for examples

-- the formula of the atom of this name
abbrev holds : List ℕ → Value
holds name = atom_formula (constant name)

-- the formulas that the set of these atoms satisfies
abbrev set : List (List ℕ) → Value → Bool
set names f = satisfied_by (λ v. list_any (λ (name : List ℕ). same_value v (constant name)) names) f

abbrev plain : Target → Ranked
plain t = record { weights = none; target = t }

abbrev weighed : Value → Target → Ranked
weighed n t = record { weights = also n none; target = t }

abbrev element : ℕ → List Ranked → Ground
element k ranks = record { place = k; values = none; ranks = ranks; given = None }

abbrev statement : List ℕ → List Ground → Statement
statement kind elements = record { name = constant (codes "p"); kind = kind; elements = elements }

-- two sets, and nothing of named statements
abbrev sets : List (List ℕ) → List (List ℕ) → Asked
sets new old = record { new = set new; old = set old; better = λ q. false; bettereq = λ q. false; eq = λ q. false; worse = λ q. false; worseeq = λ q. false }

abbrev is : List ℕ → Value → Bool
is name q = same_value q (constant name)

-- ---- sums

-- `-3::a; -5::b; -3::a`: the pair of -3 and a counts once, so b alone is better than a alone
abbrev sums : Statement
sums = statement (codes "less(weight)") (
    element 1 (weighed (integer (negsuc 2)) (For (holds (codes "a"))) ∷ []) ∷ element 2 (weighed (integer (negsuc 4)) (For (holds (codes "b"))) ∷ [])
    ∷ element 3 (weighed (integer (negsuc 2)) (For (holds (codes "a"))) ∷ []) ∷ [])

sum_of_a : weight_sum sums (set (codes "a" ∷ [])) ≡ negsuc 2
sum_of_a = refl

sum_of_b : weight_sum sums (set (codes "b" ∷ [])) ≡ negsuc 4
sum_of_b = refl

smaller_sum : (m n : ℕ) → n < m → negsuc m <ℤ negsuc n
smaller_sum m n h = omega (arith, ints)

pub b_is_better : Better LessWeight sums (sets (codes "b" ∷ []) (codes "a" ∷ []))
b_is_better = smaller_sum 4 2 (omega arith)

-- ---- degrees

-- `a >> not a || c`: where c is false the degree is 1, not the worst one
abbrev graded : Ground
graded = record { place = 1; values = none; ranks = plain (For (holds (codes "a"))) ∷ plain (For (neg_formula (holds (codes "a")))) ∷ []; given = Some (plain (For (holds (codes "c")))) }

condition_false : degree (set []) graded ≡ 1
condition_false = refl

second_rank : degree (set (codes "c" ∷ [])) graded ≡ 2
second_rank = refl

-- ---- `poset`

-- `f >> g; g >> h`: f is greater than h through g
abbrev chain : Statement
chain = statement (codes "poset") (
    element 1 (plain (For (holds (codes "f"))) ∷ plain (For (holds (codes "g"))) ∷ [])
    ∷ element 2 (plain (For (holds (codes "g"))) ∷ plain (For (holds (codes "h"))) ∷ []) ∷ [])

abbrev first_two : Ground
first_two = element 1 (plain (For (holds (codes "f"))) ∷ plain (For (holds (codes "g"))) ∷ [])

abbrev last_two : Ground
last_two = element 2 (plain (For (holds (codes "g"))) ∷ plain (For (holds (codes "h"))) ∷ [])

f_before_g : StandsBefore chain (holds (codes "f")) (holds (codes "g"))
f_before_g = (first_two, plain (For (holds (codes "f"))), plain (For (holds (codes "g"))), 0, 1, here first_two (last_two ∷ []), omega arith, omega arith, refl, refl, refl, refl)

g_before_h : StandsBefore chain (holds (codes "g")) (holds (codes "h"))
g_before_h = (last_two, plain (For (holds (codes "g"))), plain (For (holds (codes "h"))), 0, 1, there first_two (last_two ∷ []) last_two (here last_two []), omega arith, omega arith, refl, refl, refl, refl)

pub f_above_h : IsGreater chain (holds (codes "f")) (holds (codes "h"))
f_above_h = more (one f_before_g) g_before_h

-- ---- `cp`

-- `a >> not a; b >> not b`: two flips lead from no atom to both
abbrev both : Statement
both = statement (codes "cp") (
    element 1 (plain (For (holds (codes "a"))) ∷ plain (For (neg_formula (holds (codes "a")))) ∷ [])
    ∷ element 2 (plain (For (holds (codes "b"))) ∷ plain (For (neg_formula (holds (codes "b")))) ∷ []) ∷ [])

abbrev switch_a : Ground
switch_a = element 1 (plain (For (holds (codes "a"))) ∷ plain (For (neg_formula (holds (codes "a")))) ∷ [])

abbrev switch_b : Ground
switch_b = element 2 (plain (For (holds (codes "b"))) ∷ plain (For (neg_formula (holds (codes "b")))) ∷ [])

add_a : Flips both (integer (pos 0)) (integer (pos 1))
add_a = (switch_a, constant (codes "a"), true, here switch_a (switch_b ∷ []), refl, ((refl, refl), refl, refl, refl))

add_b : Flips both (integer (pos 1)) (integer (pos 3))
add_b = (switch_b, constant (codes "b"), true, there switch_a (switch_b ∷ []) switch_b (here switch_b []), refl, ((refl, refl), refl, refl, refl))

pub two_flips : Better Cp both (sets (codes "a" ∷ codes "b" ∷ []) [])
two_flips = more (one add_a) add_b

-- ---- named statements

-- `**q; **r`
abbrev two_names : List ℕ → Value → Value → Statement
two_names kind m n = statement kind (element 1 (weighed m (Name (constant (codes "q"))) ∷ []) ∷ element 2 (weighed n (Name (constant (codes "r"))) ∷ []) ∷ [])

abbrev name_q : Ground
name_q = element 1 (weighed (integer (pos 2)) (Name (constant (codes "q"))) ∷ [])

abbrev name_r : Ground
name_r = element 2 (weighed (integer (pos 1)) (Name (constant (codes "r"))) ∷ [])

names_q : HasName (two_names (codes "lexico") (integer (pos 2)) (integer (pos 1))) (constant (codes "q"))
names_q = (name_q, weighed (integer (pos 2)) (Name (constant (codes "q"))), here name_q (name_r ∷ []), here (weighed (integer (pos 2)) (Name (constant (codes "q")))) [], refl)

names_r : HasName (two_names (codes "lexico") (integer (pos 2)) (integer (pos 1))) (constant (codes "r"))
names_r = (name_r, weighed (integer (pos 1)) (Name (constant (codes "r"))), there name_q (name_r ∷ []) name_r (here name_r []), here (weighed (integer (pos 1)) (Name (constant (codes "r")))) [], refl)

-- better in q, worse in r
abbrev split : Asked
split = record { new = λ f. false; old = λ f. false; better = is (codes "q"); bettereq = is (codes "q"); eq = λ q. false; worse = is (codes "r"); worseeq = is (codes "r") }

-- it is not better by `pareto`
pub not_by_pareto : Better Pareto (two_names (codes "lexico") (integer (pos 2)) (integer (pos 1))) split → ⊥
not_by_pareto (all, some) = false≢true (all (constant (codes "r")) names_r)

-- nor by `and`, where it is at least as good in all and better in one
abbrev level : Asked
level = record { new = λ f. false; old = λ f. false; better = is (codes "q"); bettereq = λ q. true; eq = is (codes "r"); worse = λ q. false; worseeq = is (codes "r") }

pub not_by_and : Better And (two_names (codes "lexico") (integer (pos 2)) (integer (pos 1))) level → ⊥
not_by_and all = false≢true (all (constant (codes "r")) names_r)

-- by `neg` the worse one is better
pub by_neg : Better Neg (two_names (codes "lexico") (integer (pos 2)) (integer (pos 1))) split
by_neg = (constant (codes "r"), names_r, refl)

-- by `lexico` it is better where q has the greater weight, and not where r has it
abbrev named_q : Named
named_q = record { statement = constant (codes "q"); weight = integer (pos 2) }

abbrev named_r : Named
named_r = record { statement = constant (codes "r"); weight = integer (pos 1) }

of_two : (P : Named → Type 0) → P named_q → P named_r → (u : Named) → Contains (named_q ∷ named_r ∷ []) u → P u
of_two P q r u c = ⊎_elim (λ e. subst P e q) (λ rest. ⊎_elim (λ e. subst P e r) (λ none_is. absurd (nothing_in u none_is)) (first_or_rest named_r [] u rest)) (first_or_rest named_q (named_r ∷ []) u c)

one_is_not_two : integer (pos 1) ≡ integer (pos 2) → ⊥
one_is_not_two e = false≢true (ap (λ v. same_value v (integer (pos 2))) e)

pub by_lexico : Better Lexico (two_names (codes "lexico") (integer (pos 2)) (integer (pos 1))) split
by_lexico = (
  named_q,
  here named_q (named_r ∷ []),
  refl,
  of_two (λ u. u.weight ≡ integer (pos 2) → IsTrue (split.bettereq u.statement)) (λ e. refl) (λ e. absurd (one_is_not_two e)),
  of_two (λ u. IsTrue (compares Gt u.weight (integer (pos 2))) → IsTrue (split.eq u.statement)) (λ e. absurd (false≢true e)) (λ e. absurd (false≢true e)),
)
