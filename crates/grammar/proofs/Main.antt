-- The laws that a parser rests on.
use Rattle.std.proofs.Common.{◌≡◌, List, [], ◌∷◌, ◌++◌}
use Rattle.grammar.specs.Form.{Grammar, Derives}
use Rattle.grammar.specs.Form.Form.{Call}
use Rattle.grammar.specs.Fault.{next_kind, IsText, IsFault}
use Rattle.grammar.specs.Tables.{Tables}
use Rattle.grammar.specs.Takes.{Takes, Fails}
use Rattle.grammar.proofs.Laws as laws
use Rattle.grammar.specs.Readable.{IsReadable}
use Rattle.grammar.proofs.Faults as faults

module _ (N K C T V : Type 0) (g : Grammar N K C T V) (tb : Tables N K C) (p : IsReadable g tb) where
  called : {n : N} {xs ys : List T} {vs : List V} → Derives g (Call n) xs ys vs → (v : V) × Derives g (Call n) xs ys (v ∷ [])
  called (Derives.call d) = (_, Derives.call d)

  -- where the rule fails is the fault
  pub fault : {n : N} {xs ys : List T} → Fails g tb (Call n) xs ys → (read : List T) × (xs ≡ read ++ ys) × IsFault g n read ys
  fault {n = n} f =
      let r = faults.refused N K C T V g tb p.predictive p.token p.kinds p.examples f tt in
      let b = called (r.begins []) in
      (r.read, r.is, record { begins = (r.more ++ [], b.0, b.1); stops = λ more v e d. r.stops more [] (v ∷ []) e d tt })

  -- where the rule takes a front of the tokens, the fault is the token behind it
  pub left_over : {n : N} {xs : List T} {vs : List V} (t : T) (ts : List T) → Takes g tb (Call n) xs (t ∷ ts) vs → (read : List T) × (xs ≡ read ++ (t ∷ ts)) × IsFault g n read (t ∷ ts)
  left_over {n = n} t ts d =
      let m = faults.moved N K C T V g tb p.predictive d in
      let b = called (m.derives []) in
      (m.read, m.is, record { begins = ([], b.0, b.1); stops = λ more v e d'. left_more t ts more e (laws.unique N K C T V g tb p.predictive (m.takes more e) tt d' tt).0 })
    where
      left_more : (t : T) (ts more : List T) → next_kind g more ≡ next_kind g (t ∷ ts) → more ≡ [] → ⊥
      left_more t ts [] e h = cc
      left_more t ts (u ∷ us) e h = cc

  -- what takes all the tokens is the one derivation
  pub whole : {n : N} {xs : List T} {v : V} → Takes g tb (Call n) xs [] (v ∷ []) → IsText g n xs v
  whole d = laws.takes_derives N K C T V g tb p.predictive d

  same_one : (v w : V) → v ∷ [] ≡ w ∷ [] → w ≡ v
  same_one v w e = cc

  pub only : {n : N} {xs : List T} {v w : V} → Takes g tb (Call n) xs [] (v ∷ []) → IsText g n xs w → w ≡ v
  only {v = v} {w = w} d d' = same_one v w (laws.unique N K C T V g tb p.predictive d tt d' tt).1

  -- a text has at most one value
  pub one_value : {n : N} {xs : List T} {v w : V} → IsText g n xs v → IsText g n xs w → w ≡ v
  one_value d e = only (laws.taken N K C T V g tb p.predictive d tt tt) e
