-- What is read grows no longer, and shorter if the form may not be empty.
use Rattle.std.proofs.Common.{◌≡◌, ◌<◌, ◌≤◌, Bool, true, false, List, length, arith, refl}
use Rattle.std.specs.Prelude.{◌&&◌, ◌||◌}
use Rattle.grammar.specs.Form.{Form, Grammar}
use Rattle.grammar.specs.Tables.{Tables, nullable, some_in, IsPredictive}
use Rattle.grammar.specs.Takes.{Takes}
use Rattle.grammar.proofs.Laws.{both, is_false}

pub record Shrinks {T : Type 0} (may : Bool) (xs ys : List T) : Type 0 where
  pub weakly : length ys ≤ length xs
  pub strictly : may ≡ false → length ys < length xs

seq_shrinks : {T : Type 0} (m n : Bool) {xs ys zs : List T} → Shrinks m xs ys → Shrinks n ys zs → Shrinks (m && n) xs zs
seq_shrinks true n s t = record { weakly = omega (arith, s.weakly, t.weakly); strictly = λ h. omega (arith, s.weakly, t.strictly h) }
seq_shrinks false n s t = record { weakly = omega (arith, s.weakly, t.weakly); strictly = λ h. omega (arith, s.strictly refl, t.weakly) }

left_shrinks : {T : Type 0} (m n : Bool) {xs ys : List T} → Shrinks m xs ys → Shrinks (m || n) xs ys
left_shrinks true n s = record { weakly = s.weakly; strictly = λ h. absurd (cc) }
left_shrinks false n s = record { weakly = s.weakly; strictly = λ h. s.strictly refl }

right_shrinks : {T : Type 0} (m n : Bool) {xs ys : List T} → Shrinks n xs ys → Shrinks (m || n) xs ys
right_shrinks true n s = record { weakly = s.weakly; strictly = λ h. absurd (cc) }
right_shrinks false n s = s

module _ (N K C T V : Type 0) (g : Grammar N K C T V) (tb : Tables N K C) (p : IsPredictive g tb) where
  -- no part of a form of some class is longer than the form's own
  some_shrinks : (b : C → Form N K C) (c : C) {xs ys : List T} → Shrinks (nullable tb (b c)) xs ys → Shrinks (some_in tb.classes (λ c. nullable tb (b c))) xs ys
  some_shrinks b c s = record { weakly = s.weakly; strictly = λ h. s.strictly (is_false _ (λ e. both _ (p.classes (λ c. nullable tb (b c)) c e) h)) }

  pub shrinks : {a : Form N K C} {xs ys : List T} {vs : List V} → Takes g tb a xs ys vs → Shrinks (nullable tb a) xs ys
  shrinks (Takes.tok e) = record { weakly = omega arith; strictly = λ h. omega arith }
  shrinks (Takes.call {n = n} d) = let s = shrinks d in record { weakly = s.weakly; strictly = λ h. s.strictly (is_false _ (λ e. both _ (p.null n e) h)) }
  shrinks Takes.empty = record { weakly = omega arith; strictly = λ h. absurd (cc) }
  shrinks (Takes.seq {a = a} {b = b} d e) = seq_shrinks (nullable tb a) (nullable tb b) (shrinks d) (shrinks e)
  shrinks (Takes.left {a = a} {b = b} h d) = left_shrinks (nullable tb a) (nullable tb b) (shrinks d)
  shrinks (Takes.right {a = a} {b = b} h d) = right_shrinks (nullable tb a) (nullable tb b) (shrinks d)
  shrinks (Takes.none h) = record { weakly = omega arith; strictly = λ h. absurd (cc) }
  shrinks (Takes.more d e) = let s = shrinks d in let t = shrinks e in record { weakly = omega (arith, s.weakly, t.weakly); strictly = λ h. absurd (cc) }
  shrinks (Takes.followed {a = a} {b = b} {us = us} d e) = seq_shrinks (nullable tb a) (some_in tb.classes (λ c. nullable tb (b c))) (shrinks d) (some_shrinks b (g.class us) (shrinks e))
