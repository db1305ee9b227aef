-- How the number of assignments falls.
use Rattle.std.proofs.Common.{◌≡◌, ℕ, zero, suc, ◌*◌, ◌^◌, ◌<◌, ◌≤◌, ◌≢◌, inl, inr, Bool, true, false, List, [], ◌∷◌, length, Option, Some, None, refl, ap, sym, ◌∙◌, subst, arith}
use Rattle.std.specs.Prelude.{slice_index_or}
use Rattle.std.proofs.Math.Nat.{pow-succ'}
use Rattle.std.proofs.lemmas.Bool.Decides.{eqb_tells}
use mathlib.Core.Path.{fun_ext}
use Rattle.theory_form.specs.declared.literals.Lit.{Lit}
use Rattle.theory_form.specs.Truth.{IsFalseClause, IsSettled}
use Rattle.theory_model.specs.Truth.{clause_true}
use Rattle.search_law.specs.Closed.{IsTotal, truths}
use Rattle.search_law.specs.Counts.{HasAll, all_true, model_count, models, with_value}
use Rattle.search_law.proofs.ValueLemmas.{HasPlaces, beyond_false, bool_cases, both_true, clause_off, first_true, second_true, settled_true}

-- ---- all clauses are true, by their places

pub all_true-each : (cs : List (Option (List Lit))) (f : ℕ → Bool) (id : ℕ) (c : List Lit) → all_true cs f ≡ true →
    slice_index_or cs id None ≡ Some c → clause_true f c ≡ true
all_true-each [] f id c h at = absurd (let z : None ≡ Some c = at in cc)
all_true-each (None ∷ cs) f zero c h at = absurd (let z : None ≡ Some c = at in cc)
all_true-each (None ∷ cs) f (suc id) c h at = all_true-each cs f id c h at
all_true-each (Some d ∷ cs) f zero c h at =
    let q : Some d ≡ Some c = at in
    let r : d ≡ c = cc in
    subst (λ x. clause_true f x ≡ true) r (first_true (clause_true f d) (all_true cs f) h)
all_true-each (Some d ∷ cs) f (suc id) c h at = all_true-each cs f id c (second_true (clause_true f d) (all_true cs f) h) at

pub all_true-from : (cs : List (Option (List Lit))) (f : ℕ → Bool) →
    ((id : ℕ) (c : List Lit) → slice_index_or cs id None ≡ Some c → clause_true f c ≡ true) → all_true cs f ≡ true
all_true-from [] f h = refl
all_true-from (None ∷ cs) f h = all_true-from cs f (λ id c at. h (suc id) c at)
all_true-from (Some d ∷ cs) f h = both_true (clause_true f d) (all_true cs f) (h 0 d refl) (all_true-from cs f (λ id c at. h (suc id) c at))

fewer : (cs ds : List (Option (List Lit))) (f : ℕ → Bool) → HasAll cs ds → all_true ds f ≡ true → all_true cs f ≡ true
fewer cs ds f h on = all_true-from cs f (λ id c at. all_true-each ds f id c on (h id c at))

-- ---- how many there are

models_most : (cs : List (Option (List Lit))) (v : ℕ) (f : ℕ → Bool) → models cs v f ≤ 2 ^ v
models_most cs zero f = elim (bool_cases (all_true cs f)) [
  | inl on ↦ rw on (omega arith)
  | inr off ↦ rw off (omega arith)
]
models_most cs (suc v) f =
    let a = models_most cs v (with_value f v true) in
    let b = models_most cs v (with_value f v false) in
    let twice : 2 ^ suc v ≡ 2 * 2 ^ v = pow-succ' 2 v in
    omega (arith, a, b, twice)

models_le : (cs ds : List (Option (List Lit))) (v : ℕ) (f : ℕ → Bool) → HasAll cs ds → models ds v f ≤ models cs v f
models_le cs ds zero f h = elim (bool_cases (all_true ds f)) [
  | inl on ↦ let a = fewer cs ds f h on in rw (on, a) (omega arith)
  | inr off ↦ rw off (omega arith)
]
models_le cs ds (suc v) f h =
    let a = models_le cs ds v (with_value f v true) h in
    let b = models_le cs ds v (with_value f v false) h in
    omega (arith, a, b)

with_same : (f g : ℕ → Bool) (v : ℕ) (y : Bool) → g v ≡ y → ((w : ℕ) → suc v ≤ w → f w ≡ g w) → (w : ℕ) → v ≤ w → with_value f v y w ≡ g w
with_same f g v y at above w le = elim (eqb_tells w v) [
  | inl t ↦ let e = t.0 in rw e (sym at ∙ ap g (sym t.1))
  | inr e ↦ let x = e.0 in let other = e.1 in rw x (above w (let d : w ≢ v = other in omega (arith, d, le)))
]

-- Where an assignment makes all clauses of the first list true, and not all of the second, the number falls.
models_lt : (cs ds : List (Option (List Lit))) (v : ℕ) (f g : ℕ → Bool) → HasAll cs ds → ((w : ℕ) → v ≤ w → f w ≡ g w) →
    all_true cs g ≡ true → all_true ds g ≡ false → models ds v f < models cs v f
models_lt cs ds zero f g h agree on off =
    let same : f ≡ g = fun_ext (λ w. agree w (omega arith)) in
    let a : all_true cs f ≡ true = ap (all_true cs) same ∙ on in
    let b : all_true ds f ≡ false = ap (all_true ds) same ∙ off in
    rw (a, b) (omega arith)
models_lt cs ds (suc v) f g h agree on off = elim (bool_cases (g v)) [
  | inl on_v ↦
      let a = models_lt cs ds v (with_value f v true) g h (with_same f g v true on_v agree) on off in
      let b = models_le cs ds v (with_value f v false) h in
      omega (arith, a, b)
  | inr off_v ↦
      let a = models_le cs ds v (with_value f v true) h in
      let b = models_lt cs ds v (with_value f v false) g h (with_same f g v false off_v agree) on off in
      omega (arith, a, b)
]

-- ---- the law

pub most : (cs : List (Option (List Lit))) (n : ℕ) → model_count cs n ≤ 2 ^ n
unfolding model_count
most cs n = models_most cs n (λ w. false)

pub kept : (cs ds : List (Option (List Lit))) (n : ℕ) → HasAll cs ds → model_count ds n ≤ model_count cs n
unfolding model_count
kept cs ds n h = models_le cs ds n (λ w. false) h

pub falls : (cs ds : List (Option (List Lit))) (a : List (Option Bool)) (id : ℕ) (c : List Lit) → HasAll cs ds → IsTotal a →
    ((k : ℕ) (d : List Lit) → slice_index_or cs k None ≡ Some d → HasPlaces a d × IsSettled a d) →
    slice_index_or ds id None ≡ Some c → IsFalseClause a c → model_count ds (length a) < model_count cs (length a)
unfolding model_count
falls cs ds a id c h total settled at off =
    models_lt cs ds (length a) (λ w. false) (truths a) h (λ w le. sym (beyond_false a w le))
    (all_true-from cs (truths a) (λ k d stands. let x = settled k d stands in settled_true a d total x.0 x.1))
    (elim (bool_cases (all_true ds (truths a))) [
      | inr not_all ↦ not_all
      | inl all ↦ absurd (let z : true ≡ false = sym (all_true-each ds (truths a) id c all at) ∙ clause_off a c off in cc)
    ])
