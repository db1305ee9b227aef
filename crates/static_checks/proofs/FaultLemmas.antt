-- Of one program no two faults are told, and none where it has none.
use Rattle.std.proofs.Common.{◌≡◌, ℕ, ◌<◌, refl, sym, ◌∙◌, ap, subst, Bool, true, false, IsTrue, List, All, Ok, Err, arith, inl, inr}
use Rattle.std.proofs.lemmas.List.Elements.{All-contains}
use mathlib.Core.Path.{fun_ext}
use Rattle.ap_bindings.proofs.SourceLemmas.{bound_not_unbound}
use Rattle.ap_bindings.specs.Texts.{Place, IsBefore, IsFirst, NoneFails}
use Rattle.ap_bindings.specs.Unsafe.{by_pred, definite_by, source_place}
use Rattle.ap_pieces.specs.Bound.{HasUnbound, IsAllBound}
use Rattle.ap_pieces.specs.Pieces.{Source, sources}
use Rattle.ap_safety.specs.Answers.{AreAllBound, IsFirstUnbound}
use Rattle.ap_safety.specs.Conditions.{domain_place, domains, HasAggregateFault, HasRecursion, IsIndefinite, rule_place}
use Rattle.ap_safety.specs.declared.fault.SafetyFault.{SafetyFault}
use Rattle.ap_safety.specs.declared.fault.SafetyFault.TheVariants.{Unsafe, AggregateRecursion, Recursion, Memory}
use Rattle.ap_syntax.specs.declared.preferences.Preference.{Preference}
use Rattle.ap_syntax.specs.declared.rules.Rule.{Rule}
use Rattle.pred_graph.specs.Components.{TellsDefinite}
use Rattle.pred_graph.specs.Known.{definite_in, Known}
use Rattle.pred_graph.specs.declared.pred.Pred.{Pred}
use Rattle.static_checks.specs.Faults.{HasDomainFault, HasDomains, HasFault, IsSafeProgram, place, Precedes, rank}
use Rattle.static_checks.specs.Programs.{Judged}
use Rattle.static_checks.proofs.OrderLemmas.{first_in, first_not_before, higher_not, memory_last, none_first}

-- ---- what is definite is told in one way

same_truth : (a b : Bool) → (IsTrue a → IsTrue b) → (IsTrue b → IsTrue a) → a ≡ b
same_truth true true h k = refl
same_truth true false h k = sym (h refl)
same_truth false true h k = k refl
same_truth false false h k = refl

one_test : (rules : List Rule) (base : Bool) (d e : Pred → Bool) → TellsDefinite rules base d → TellsDefinite rules base e → d ≡ e
one_test rules base d e h k = fun_ext (λ p. same_truth (d p) (e p) (λ t. (k p).1 ((h p).0 t)) (λ t. (h p).1 ((k p).0 t)))

module _ (rules : List Rule) (elements : List Preference) (base : Bool) where
  -- an unbound variable and none
  unbound_not_bound : (p : Place) (variable : List ℕ) → IsFirstUnbound rules elements base p variable → AreAllBound rules elements base → ⊥
  unbound_not_bound p variable u b =
      let same : b.0 ≡ u.0 = one_test rules base b.0 u.0 b.1 u.2 in
      let bound : All (IsAllBound (by_pred u.0)) (sources rules elements) = subst (λ (d : Pred → Bool). All (IsAllBound (by_pred d)) (sources rules elements)) same b.2 in
      let member = first_in source_place (HasUnbound (by_pred u.0)) (sources rules elements) p u.1 u.3 in
      bound_not_unbound (by_pred u.0) u.1 (All-contains (IsAllBound (by_pred u.0)) (sources rules elements) u.1 bound member) u.3.fails

  -- two unbound variables
  unbound_not_before : (p q : Place) (v w : List ℕ) → IsFirstUnbound rules elements base p v → IsFirstUnbound rules elements base q w → IsBefore q p → ⊥
  unbound_not_before p q v w u x b =
      let same : x.0 ≡ u.0 = one_test rules base x.0 u.0 x.2 u.2 in
      let other = subst (λ (d : Pred → Bool). IsFirst source_place (HasUnbound (by_pred d)) (sources rules elements) q x.1) same x.3 in
      first_not_before source_place (HasUnbound (by_pred u.0)) (sources rules elements) p q u.1 x.1 u.3 other b

  all_bound : (safe : Known) → IsSafeProgram (record { rules = rules; elements = elements; base = base }) safe → AreAllBound rules elements base
  all_bound safe h =
      let is_safe = h.1.2 in
      let same : safe.base ≡ base = h.1.3 in
      (definite_in safe, subst (λ (b : Bool). TellsDefinite rules b (definite_in safe)) same is_safe.definite, h.0)

-- ---- one program

-- where it has no fault
pub safe_no_fault : (j : Judged) (safe : Known) (f : SafetyFault) → IsSafeProgram j safe → HasFault f j → (rank f ≡ 3 → ⊥) → ⊥
safe_no_fault j safe (Unsafe file at variable) h k n = unbound_not_bound j.rules j.elements j.base (record { file = file; at = at }) variable k (all_bound j.rules j.elements j.base safe h)
safe_no_fault j safe (AggregateRecursion file at) h k n = none_first rule_place (HasAggregateFault j.base j.rules) j.rules (record { file = file; at = at }) k.1.0 h.1.0 k.1.1
safe_no_fault j safe (Recursion file at) h k n = none_first rule_place (HasRecursion j.base j.rules) j.rules (record { file = file; at = at }) k.1.1.0 h.1.1 k.1.1.1
safe_no_fault j safe Memory h k n = n refl

lower : (f g : SafetyFault) → (rank f < rank g) → Precedes g f → ⊥
lower f g lt h = higher_not f g lt h

-- what is before a place by the order of faults, where the kinds are the same
same_kind : (f g : SafetyFault) → rank g ≡ rank f → Precedes g f → IsBefore (place g) (place f)
same_kind f g e (inl lt) = absurd (omega (arith, e, lt))
same_kind f g e (inr h) = h.1

-- where it has one
pub one_fault : (j : Judged) (f g : SafetyFault) → HasFault f j → (rank f ≡ 3 → ⊥) → HasFault g j → Precedes g f → ⊥
one_fault j (Unsafe file at variable) (Unsafe file' at' variable') h n k b =
    unbound_not_before j.rules j.elements j.base (record { file = file; at = at }) (record { file = file'; at = at' }) variable variable' h k (same_kind (Unsafe file at variable) (Unsafe file' at' variable') refl b)
one_fault j (Unsafe file at variable) (AggregateRecursion file' at') h n k b = lower (Unsafe file at variable) (AggregateRecursion file' at') (omega arith) b
one_fault j (Unsafe file at variable) (Recursion file' at') h n k b = lower (Unsafe file at variable) (Recursion file' at') (omega arith) b
one_fault j (AggregateRecursion file at) (Unsafe file' at' variable') h n k b = unbound_not_bound j.rules j.elements j.base (record { file = file'; at = at' }) variable' k h.0
one_fault j (AggregateRecursion file at) (AggregateRecursion file' at') h n k b =
    first_not_before rule_place (HasAggregateFault j.base j.rules) j.rules (record { file = file; at = at }) (record { file = file'; at = at' }) h.1.0 k.1.0 h.1.1 k.1.1
    (same_kind (AggregateRecursion file at) (AggregateRecursion file' at') refl b)
one_fault j (AggregateRecursion file at) (Recursion file' at') h n k b = lower (AggregateRecursion file at) (Recursion file' at') (omega arith) b
one_fault j (Recursion file at) (Unsafe file' at' variable') h n k b = unbound_not_bound j.rules j.elements j.base (record { file = file'; at = at' }) variable' k h.0
one_fault j (Recursion file at) (AggregateRecursion file' at') h n k b = none_first rule_place (HasAggregateFault j.base j.rules) j.rules (record { file = file'; at = at' }) k.1.0 h.1.0 k.1.1
one_fault j (Recursion file at) (Recursion file' at') h n k b =
    first_not_before rule_place (HasRecursion j.base j.rules) j.rules (record { file = file; at = at }) (record { file = file'; at = at' }) h.1.1.0 k.1.1.0 h.1.1.1 k.1.1.1
    (same_kind (Recursion file at) (Recursion file' at') refl b)
one_fault j (Unsafe file at variable) Memory h n k b = memory_last (Unsafe file at variable) n b
one_fault j (AggregateRecursion file at) Memory h n k b = memory_last (AggregateRecursion file at) n b
one_fault j (Recursion file at) Memory h n k b = memory_last (Recursion file at) n b
one_fault j Memory g h n k b = n refl

-- ---- its domains

pub no_domain_fault : (j : Judged) (p : Place) → HasDomains j → HasDomainFault p j → ⊥
no_domain_fault j p h k = none_first domain_place (IsIndefinite j.rules j.base) (domains j.rules j.elements) (record { file = p.file; at = p.at }) k.0 h k.1

pub one_domain_fault : (j : Judged) (p q : Place) → HasDomainFault p j → HasDomainFault q j → IsBefore q p → ⊥
one_domain_fault j p q h k b =
    first_not_before domain_place (IsIndefinite j.rules j.base) (domains j.rules j.elements) (record { file = p.file; at = p.at }) (record { file = q.file; at = q.at }) h.0 k.0 h.1 k.1 b
