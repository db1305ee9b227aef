-- What the facts of a statement are in an answer set of rules that derive none of them.
use Rattle.std.proofs.Common.{◌≡◌, ◌+◌, false, [], IsTrue, refl, sym, subst, ap, ◌∙◌, ⊎_elim, inl, inr, pos}
use Rattle.std.specs.Prelude.{◌⊎◌, codes}
use Rattle.std.specs.Str.{bytes_eq}
use Rattle.std.proofs.lemmas.Bool.{false≢true}
use Rattle.ap_term.specs.Value.{Value, integer, constant, string, compound, none, also}
use Rattle.rule_form.specs.Unfolded.{atom_name}
use Rattle.rule_form.proofs.Stable.{IsSettled}
use Rattle.type_law.specs.Takes.{HasNoConditions}
use Rattle.element_form.specs.Ground.{Statement, Target, For, Name, IsGiven, HasFormula, HasCondition, key}
use Rattle.element_form.specs.Facts.{target_term, IsAskedFor, IsElementFact}

-- ---- words

abbrev first_argument : Value → Value
first_argument (integer n) = integer n
first_argument (constant n) = constant n
first_argument (string n) = string n
first_argument (compound n none) = compound n none
first_argument (compound n (also v vs)) = v

names_differ : (a b : Value) → bytes_eq (atom_name a) (atom_name b) ≡ false → IsTrue (bytes_eq (atom_name a) (atom_name a)) → a ≡ b → ⊥
names_differ a b d s e = false≢true (sym d ∙ subst (λ v. IsTrue (bytes_eq (atom_name a) (atom_name v))) e s)

pub for_target : (f : Value) (t : Target) → compound (codes "for") (also f none) ≡ target_term t → t ≡ For f
for_target f (For g) e = ap For (sym (ap first_argument e))
for_target f (Name q) e = absurd (names_differ (compound (codes "for") (also f none)) (compound (codes "name") (also q none)) refl refl e)

pub name_target : (q : Value) (t : Target) → compound (codes "name") (also q none) ≡ target_term t → t ≡ Name q
name_target q (For g) e = absurd (names_differ (compound (codes "name") (also q none)) (compound (codes "for") (also g none)) refl refl e)
name_target q (Name r) e = ap Name (sym (ap first_argument e))

pub settled_empty : IsSettled ⊥
settled_empty deny = deny (λ e. e)

-- ---- parts

-- a formula of a fact is a rank's, or a condition's
pub formula_of : (st : Statement) (i r f w : Value) → IsElementFact st i r (compound (codes "for") (also f none)) w → HasFormula st f ⊎ HasCondition st f
formula_of st i r f w (e, k, ranked, among, ie, re, place, target, we) = ⊎_elim
    (λ at. inl (e, ranked, among, (at.0, at.2, at.3), for_target f ranked.target target))
    (λ given. inr (e, ranked, among, given.1, for_target f ranked.target target))
    place

-- each rank is in a fact
pub fact_of : (st : Statement) (f : Value) → HasFormula st f → (i r w : Value) × IsElementFact st i r (compound (codes "for") (also f none)) w
fact_of st f (e, ranked, among, (i, lt, at), is) =
    ((key e), integer (pos (i + 1)), compound [] ranked.weights, (e, i + 1, ranked, among, refl, refl, inl (i, refl, lt, at), ap target_term (sym is), refl))

pub no_condition : (st : Statement) → HasNoConditions st → (f : Value) → HasCondition st f → ⊥
no_condition st shape f (e, r, among, given, is) = subst (λ o. IsGiven o r) (shape e among) given

pub rank_of : (st : Statement) → HasNoConditions st → (i r f w : Value) → IsElementFact st i r (compound (codes "for") (also f none)) w → HasFormula st f
rank_of st shape i r f w fact = ⊎_elim (λ h. h) (λ c. absurd (no_condition st shape f c)) (formula_of st i r f w fact)

pub asked_of : (st : Statement) (i r f w : Value) → IsElementFact st i r (compound (codes "for") (also f none)) w → IsAskedFor st f
asked_of st i r f w fact = ⊎_elim (λ h. inl h) (λ c. inr (inl c)) (formula_of st i r f w fact)
