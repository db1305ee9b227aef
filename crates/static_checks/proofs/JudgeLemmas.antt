-- One program more.
use Rattle.std.proofs.Common.{◌≡◌, ℕ, ◌<◌, refl, sym, ◌∙◌, ap, subst, Bool, true, false, List, [], ◌∷◌, ◌++◌, All, Any, Option, Some, None, Ok, Err, map, append_assoc, append-nil, length, arith}
use Rattle.std.specs.Prelude.{◌==◌, if◌then◌else◌, OnOk, Result, ⊤}
use Rattle.std.specs.List.{AllZip, Contains}
use Rattle.std.proofs.lemmas.List.Elements.{All-append, All-cons, All-nil, All-weaker, Contains-append_left, Contains-append_right}
use Rattle.ap_bindings.specs.Texts.{Place, IsBefore, earlier_of, failing_place, first_failing, is_earlier}
use Rattle.ap_bindings.specs.declared.search.Failing.{Failing}
use Rattle.ap_safety.specs.declared.fault.SafetyFault.{SafetyFault}
use Rattle.ap_safety.specs.declared.fault.SafetyFault.TheVariants.{Unsafe, AggregateRecursion, Recursion, Memory}
use Rattle.pred_graph.specs.Known.{Known}
use Rattle.static_checks.specs.Faults.{HasDomainFault, HasDomains, HasFault, IsFirstDomain, IsFirstFault, IsSafeProgram, place, Precedes, rank}
use Rattle.static_checks.specs.Judgements.{first_of, IsDomainOf, IsFaultOf, IsOwnDomain, precedes}
use Rattle.static_checks.specs.Programs.{Judged}
use Rattle.static_checks.proofs.FaultLemmas.{no_domain_fault, one_domain_fault, one_fault, safe_no_fault}
use Rattle.static_checks.proofs.OrderLemmas.{before_or, before_trans, memory_last, precedes_false, precedes_or, precedes_trans, precedes_true}
use Rattle.std.proofs.lemmas.Bool.{eq-eqb}
use Rattle.std.proofs.lemmas.Bool.Decides.{nat_tests}
use Rattle.ap_syntax.specs.declared.programs.Statement.{Statement}
use Rattle.static_checks.specs.Conditions.{AreInShape, AreNamesBound, MeetsConditions, programs, StaticCause}
use Rattle.static_checks.specs.Told.{IsTold}
use Rattle.static_checks.specs.declared.fault.StaticFault.{StaticFault}
use Rattle.static_checks.specs.declared.fault.StaticFault.TheVariants as faults

-- ---- lists

any_left : {X : Type 0} (P : X → Type 0) (xs ys : List X) → Any P xs → Any P (xs ++ ys)
any_left P xs ys h =
    let there = Contains-append_left xs ys h.1 (h.0, h.2, h.3) in
    (there.0, h.1, there.1, there.2, h.4)

any_last : {X : Type 0} (P : X → Type 0) (xs : List X) (x : X) → P x → Any P (xs ++ x ∷ [])
any_last P xs x p =
    let there = Contains-append_right xs (x ∷ []) x (0, omega arith, refl) in
    (there.0, x, there.1, there.2, p)

all_last : {X : Type 0} (P : X → Type 0) (xs : List X) (x : X) → All P xs → P x → All P (xs ++ x ∷ [])
all_last P xs x h p = All-append P xs (x ∷ []) h (All-cons P x [] p (All-nil P))

zip_last : {X Y : Type 0} (R : X → Y → Type 0) (xs : List X) (ys : List Y) (x : X) (y : Y) → AllZip R xs ys → R x y → AllZip R (xs ++ x ∷ []) (ys ++ y ∷ [])
zip_last R [] [] x y h r = (r, tt)
zip_last R [] (z ∷ ys) x y h r = absurd h
zip_last R (z ∷ xs) [] x y h r = absurd h
zip_last R (z ∷ xs) (w ∷ ys) x y h r = (h.0, zip_last R xs ys x y h.1 r)

-- ---- faults

abbrev NotBefore : SafetyFault → Judged → Type 0
NotBefore f j = (other : SafetyFault) → HasFault other j → Precedes other f → ⊥

safe_not_before : (j : Judged) (safe : Known) (f : SafetyFault) → IsSafeProgram j safe → (rank f ≡ 3 → ⊥) → NotBefore f j
safe_not_before j safe f h n (Unsafe file at variable) k b = safe_no_fault j safe (Unsafe file at variable) h k (λ e. absurd (omega (arith, e)))
safe_not_before j safe f h n (AggregateRecursion file at) k b = safe_no_fault j safe (AggregateRecursion file at) h k (λ e. absurd (omega (arith, e)))
safe_not_before j safe f h n (Recursion file at) k b = safe_no_fault j safe (Recursion file at) h k (λ e. absurd (omega (arith, e)))
safe_not_before j safe f h n Memory k b = memory_last f n b

safes_not_before : (js : List Judged) (safes : List Known) (f : SafetyFault) → AllZip IsSafeProgram js safes → (rank f ≡ 3 → ⊥) → All (NotBefore f) js
safes_not_before [] safes f h n = All-nil (NotBefore f)
safes_not_before (j ∷ js) [] f h n = absurd h
safes_not_before (j ∷ js) (safe ∷ safes) f h n = All-cons (NotBefore f) j js (safe_not_before j safe f h.0 n) (safes_not_before js safes f h.1 n)

both_by : (js : List Judged) (j : Judged) (f g : SafetyFault) → (rank f ≡ 3 → ⊥) → IsFirstFault js f → HasFault g j → (rank g ≡ 3 → ⊥)
    → (b : Bool) → precedes g f ≡ b → (rank (if b then g else f) ≡ 3 → ⊥) × IsFirstFault (js ++ j ∷ []) (if b then g else f)
both_by js j f g n h k m true e = (
  m,
  record {
    some = any_last (HasFault g) js j k;
    first = all_last (NotBefore g) js j (All-weaker (NotBefore f) (NotBefore g) (λ i none other fault b. none other fault (precedes_trans other g f b (precedes_true g f e))) js h.first) (λ other fault. one_fault j g other k m fault);
  },
)
both_by js j f g n h k m false e = (
  n,
  record {
    some = any_left (HasFault f) js (j ∷ []) h.some;
    first = all_last (NotBefore f) js j h.first (λ other fault b. precedes_or f g other b (one_fault j g other k m fault) (precedes_false g f e));
  },
)

-- a program with a fault
pub fault_more : (js : List Judged) (j : Judged) (found : Option SafetyFault) (d e : Option (Failing ⊤)) (safes more : List Known) (g : SafetyFault) → IsFaultOf js found d safes → HasFault g j → (rank g ≡ 3 → ⊥) → IsFaultOf (js ++ j ∷ []) (Some (first_of found g)) e more
fault_more js j None d e safes more g h k n = (
  n,
  record {
    some = any_last (HasFault g) js j k;
    first = all_last (NotBefore g) js j (safes_not_before js safes g h.0 n) (λ other fault. one_fault j g other k n fault);
  },
)
fault_more js j (Some f) d e safes more g h k n = both_by js j f g h.0 h.1 k n (precedes g f) refl

-- ---- domains

abbrev NotBehind : Place → Judged → Type 0
NotBehind p j = (other : Place) → HasDomainFault other j → IsBefore other p → ⊥

earlier_true : (f g : Failing ⊤) → is_earlier f g ≡ true → IsBefore (failing_place f) (failing_place g)
earlier_true f g e = grind (arith, nat_tests)

earlier_false : (f g : Failing ⊤) → is_earlier f g ≡ false → IsBefore (failing_place f) (failing_place g) → ⊥
earlier_false f g e b = grind (arith, nat_tests)

domains_not_behind : (js : List Judged) (p : Place) → All HasDomains js → All (NotBehind p) js
domains_not_behind js p h = All-weaker HasDomains (NotBehind p) (λ j d other k b. no_domain_fault j other d k) js h

both_domains : (js : List Judged) (j : Judged) (f g : Failing ⊤) → IsFirstDomain js (failing_place f) → HasDomainFault (failing_place g) j
    → (b : Bool) → is_earlier g f ≡ b → IsFirstDomain (js ++ j ∷ []) (failing_place (if b then g else f))
both_domains js j f g h k true e = record {
  some = any_last (HasDomainFault (failing_place g)) js j k;
  first = all_last (NotBehind (failing_place g)) js j
      (All-weaker (NotBehind (failing_place f)) (NotBehind (failing_place g)) (λ i none other fault b. none other fault (before_trans other (failing_place g) (failing_place f) b (earlier_true g f e))) js h.first)
      (λ other fault. one_domain_fault j (failing_place g) other k fault);
}
both_domains js j f g h k false e = record {
  some = any_left (HasDomainFault (failing_place f)) js (j ∷ []) h.some;
  first = all_last (NotBehind (failing_place f)) js j h.first
      (λ other fault b. before_or (failing_place f) (failing_place g) other b (one_domain_fault j (failing_place g) other k fault) (earlier_false g f e));
}

domain_more : (js : List Judged) (j : Judged) (d own : Option (Failing ⊤)) → IsDomainOf js d → IsOwnDomain j own → IsDomainOf (js ++ j ∷ []) (first_failing d own)
domain_more js j None None h k = all_last HasDomains js j h k
domain_more js j None (Some g) h k = record {
  some = any_last (HasDomainFault (failing_place g)) js j k;
  first = all_last (NotBehind (failing_place g)) js j (domains_not_behind js (failing_place g) h) (λ other fault. one_domain_fault j (failing_place g) other k fault);
}
domain_more js j (Some f) None h k = record {
  some = any_left (HasDomainFault (failing_place f)) js (j ∷ []) h.some;
  first = all_last (NotBehind (failing_place f)) js j h.first (λ other fault b. no_domain_fault j other k fault);
}
domain_more js j (Some f) (Some g) h k = both_domains js j f g h k (is_earlier g f) refl

-- a program without a fault
pub safe_more : (js : List Judged) (j : Judged) (found : Option SafetyFault) (d own : Option (Failing ⊤)) (safes : List Known) (safe : Known) → IsFaultOf js found d safes → IsSafeProgram j safe → IsOwnDomain j own → IsFaultOf (js ++ j ∷ []) found (first_failing d own) (safes ++ safe ∷ [])
safe_more js j None d own safes safe h k o = (zip_last IsSafeProgram js safes j safe h.0 k, domain_more js j d own h.1 o)
safe_more js j (Some f) d own safes safe h k o = (
  h.0,
  record {
    some = any_left (HasFault f) js (j ∷ []) h.1.some;
    first = all_last (NotBefore f) js j h.1.first (safe_not_before j safe f k h.0);
  },
)

-- ---- what is told

pub on_ok_two : {T E A B C : Type 0} (r : Result T E) → (A → B → C) → OnOk r A → OnOk r B → OnOk r C
on_ok_two (Ok x) f a b = f a b
on_ok_two (Err e) f a b = tt

-- no want of memory
pub is_told : (f : SafetyFault) → (rank f == 3) ≡ false → rank f ≡ 3 → ⊥
is_told f e same = let clash : true ≡ false = sym (eq-eqb (rank f) 3 same) ∙ e in cc

zip_all : (js : List Judged) (safes : List Known) → AllZip IsSafeProgram js safes → All (λ j. (safe : Known) × IsSafeProgram j safe) js
zip_all [] safes h = All-nil (λ (j : Judged). (safe : Known) × IsSafeProgram j safe)
zip_all (j ∷ js) [] h = absurd h
zip_all (j ∷ js) (safe ∷ safes) h = All-cons (λ (i : Judged). (s : Known) × IsSafeProgram i s) j js (safe, h.0) (zip_all js safes h.1)

pub told_cause : (ss : List Statement) (fault : StaticFault) → AreNamesBound ss → AreInShape ss → IsTold (programs ss) (Err fault) → StaticCause ss fault
told_cause ss (faults.Naming f) b s h = absurd h
told_cause ss (faults.Shape f) b s h = absurd h
told_cause ss (faults.Safety f) b s h = (b, s, h)
told_cause ss (faults.Domain f) b s h = (b, s, zip_all (programs ss) h.0.0 h.0.1, h.1)
told_cause ss faults.Memory b s h = tt

pub meets_all : (ss : List Statement) (safes : List Known) → AreNamesBound ss → AreInShape ss → IsTold (programs ss) (Ok safes) → MeetsConditions ss
meets_all ss safes b s h = record { bound = b; shaped = s; safe = zip_all (programs ss) safes h.0; domains = h.1 }
