-- Rounds of a search.
use Rattle.std.proofs.Common.{◌≡◌, ℕ, ◌+◌, ◌*◌, ◌^◌, ◌<◌, ◌≤◌, inl, inr, Bool, List, length, Option, Some, None, get_or, ap, sym, ◌∙◌, subst, arith, mul_comm}
use Rattle.std.specs.List.{All}
use Rattle.std.proofs.lemmas.Bool.{cases_eq}
use Rattle.std.proofs.lemmas.Nat.{mul-add-lt}
use Rattle.theory_form.specs.declared.literals.Lit.{Lit}
use Rattle.theory_form.specs.Truth.{IsFalseClause, IsSettled}
use Rattle.asp_trail.proofs.TrailLemmas.{length-values_of}
use Rattle.asp_store.specs.Store.{Adds, AllSettled, IsRefuting, IsStore, NoneRefuting, assigned, clause_at}
use Rattle.proof_log.specs.States.{clause_in}
use Rattle.search_law.specs.Closed.{IsTotal}
use Rattle.search_law.specs.Counts.{HasAll, model_count}
use Rattle.asp_engine.specs.declared.engine.Engine.{Engine}
use Rattle.asp_engine.specs.declared.periods.Period.{Period}
use Rattle.asp_engine.specs.Answers.{IsOpen, IsRefuted, Spends, eager_most, weight}
use Rattle.asp_engine.specs.Forgetting.{Forgot}
use Rattle.asp_engine.specs.Keys.{IsEngine, number_of}
use Rattle.asp_engine.specs.Moves.{Went}
use Rattle.asp_engine.specs.Search.{AreAssumptions, Stands}
use Rattle.asp_engine.proofs.HintNumbers.{stored_over}
use Rattle.asp_engine.proofs.KeyLemmas.{fresh_apart}
use Rattle.asp_engine.proofs.MoveLemmas.{forgot_engine, went_engine, went_then}
use Rattle.asp_engine.proofs.NewLemmas.{none_fewer, stands_fewer}

pub spends_then : (held : ℕ → Bool) (a b c : Engine) (p q r : Period) (i j k : ℕ) → Spends held a b p q i j → Spends held b c q r j k → Spends held a c p r i k
spends_then held a b c p q r i j k x y = (x.0 + y.0, went_then held a b c p q r x.0 y.0 x.1 y.1, (let u = x.2 in let v = y.2 in omega (arith, u, v)))

-- ---- refuted

pub refuted_number : (e : Engine) (assume : List Lit) (key number : ℕ) → number ≡ number_of e.parts.numbers.items key → IsStore e.parts.store.clauses e.parts.store.entries e.parts.store.places → IsRefuting e.parts.store.clauses assume key → IsRefuted e assume number
refuted_number e assume key number is store r = record {
  clause = r.clause;
  kept = λ v h. ap (clause_in v) is ∙ h.taken.keys key r.clause r.stored;
  ascending = store.ascending key r.clause r.stored;
  negated = r.negated;
}

pub none_added : (cs ds : List (Option (List Lit))) (assume lits : List Lit) (id : ℕ) → NoneRefuting cs assume → Adds cs ds id lits → (IsRefuting ds assume id → ⊥) → NoneRefuting ds assume
none_added cs ds assume lits id none a free k c at neg = elim (cases_eq k id) [
  | inl same ↦ free (record { clause = c; stored = ap (λ x. clause_at ds x) (sym same) ∙ at; negated = neg })
  | inr other ↦ none k c (sym (a.others k other) ∙ at) neg
]

-- ---- the weight

pub added_all : (cs ds : List (Option (List Lit))) (id : ℕ) (c : List Lit) → Adds cs ds id c → HasAll cs ds
added_all cs ds id c a k d at = a.others k (fresh_apart cs id k d a.fresh at) ∙ at

-- the law of the number of models
abbrev pub AreMost : Type 0
AreMost = (cs : List (Option (List Lit))) (n : ℕ) → model_count cs n ≤ 2 ^ n

abbrev pub AreKept : Type 0
AreKept = (cs ds : List (Option (List Lit))) (n : ℕ) → HasAll cs ds → model_count ds n ≤ model_count cs n

abbrev pub DoFall : Type 0
DoFall = (cs ds : List (Option (List Lit))) (a : List (Option Bool)) (id : ℕ) (c : List Lit) → HasAll cs ds → IsTotal a →
    ((k : ℕ) (d : List Lit) → get_or cs k None ≡ Some d → All (λ l. (0 < l.var.0) × (l.var.0 < length a)) d × IsSettled a d) →
    get_or ds id None ≡ Some c → IsFalseClause a c → model_count ds (length a) < model_count cs (length a)

falls_by_left : (l m w x y : ℕ) → l < m → x < w → l * w + x < m * w + y
falls_by_left l m w x y less below =
    let a = mul-add-lt l w x m less below in
    let b = mul_comm w m in
    omega (arith, a, b)

pub weight_learned : AreMost → (old new : Engine) (left_old left_new : ℕ) → new.parts.store.places ≡ old.parts.store.places → new.parts.eager ≡ eager_most → left_new < left_old → weight new left_new < weight old left_old
weight_learned most old new left_old left_new places eager less =
    let w : ℕ = 2 ^ old.parts.store.places + 1 + eager_most in
    let x : ℕ = model_count new.parts.store.clauses new.parts.store.places + new.parts.eager in
    let y : ℕ = model_count old.parts.store.clauses old.parts.store.places + old.parts.eager in
    let few = most new.parts.store.clauses new.parts.store.places in
    let same : 2 ^ new.parts.store.places ≡ 2 ^ old.parts.store.places = ap (λ n. 2 ^ n) places in
    let below : x < w = omega (arith, few, same, eager) in
    let r = falls_by_left left_new left_old w x y less below in
    subst (λ n. left_new * (2 ^ n + 1 + eager_most) + x < left_old * w + y) (sym places) r

same_left : (l w x y : ℕ) → x < y → l * w + x < l * w + y
same_left l w x y less = omega (arith, less)

pub weight_late : DoFall → (old new : Engine) (left key : ℕ) (c : List Lit) → IsEngine old → AllSettled old.parts.store.clauses (assigned old.parts.store) → IsTotal (assigned old.parts.store) → Adds old.parts.store.clauses new.parts.store.clauses key c → IsFalseClause (assigned old.parts.store) c → new.parts.store.places ≡ old.parts.store.places → new.parts.eager ≡ old.parts.eager → weight new left < weight old left
weight_late falls old new left key c engine settled total adds off places eager =
    let a : List (Option Bool) = assigned old.parts.store in
    let n : ℕ = old.parts.store.places in
    let len : length a ≡ n = length-values_of n old.parts.store.entries in
    let lt = falls old.parts.store.clauses new.parts.store.clauses a key c (added_all old.parts.store.clauses new.parts.store.clauses key c adds) total
    (λ k d at. (
      (λ i l w.
          let o = stored_over old engine.0 k d engine.1 at i l w in
          let p = engine.1.places in
          (o.0, (let z = o.1 in omega (arith, z, p, len)))),
      settled k d at,
    )) adds.added off in
    let fewer : model_count new.parts.store.clauses n < model_count old.parts.store.clauses n = subst (λ m. model_count new.parts.store.clauses m < model_count old.parts.store.clauses m) len lt in
    let w : ℕ = 2 ^ n + 1 + eager_most in
    let less : model_count new.parts.store.clauses n + new.parts.eager < model_count old.parts.store.clauses n + old.parts.eager = omega (arith, fewer, eager) in
    let r = same_left left w (model_count new.parts.store.clauses n + new.parts.eager) (model_count old.parts.store.clauses n + old.parts.eager) less in
    subst (λ m. left * (2 ^ m + 1 + eager_most) + (model_count new.parts.store.clauses m + new.parts.eager) < left * w + (model_count old.parts.store.clauses n + old.parts.eager)) (sym places) r

-- ---- what stays open

pub is_open_added : (held : ℕ → Bool) (old new : Engine) (p q : Period) (assume : List Lit) (n key : ℕ) (c : List Lit) → IsOpen old assume → Went held old new p q n → new.theory.variables ≡ old.theory.variables → Adds old.parts.store.clauses new.parts.store.clauses key c → Stands new.parts.store.clauses new.parts.store.places assume new.parts.store.entries → (IsRefuting new.parts.store.clauses assume key → ⊥) → IsOpen new assume
is_open_added held old new p q assume n key c h went variables adds stands free = record {
  engine = went_engine held old new p q n went h.engine;
  assumptions = subst (λ xs. AreAssumptions (length xs) assume) (sym variables) h.assumptions;
  stands = stands;
  none = none_added old.parts.store.clauses new.parts.store.clauses assume c key h.none adds free;
}

pub is_open_forgot : (held : ℕ → Bool) (ended : Bool) (old new : Engine) (assume : List Lit) → IsOpen old assume → Forgot held ended old new → IsOpen new assume
is_open_forgot held ended old new assume h f = record {
  engine = forgot_engine held ended old new f h.engine;
  assumptions = subst (λ xs. AreAssumptions (length xs) assume) (sym f.variables) h.assumptions;
  stands = subst (λ es. Stands new.parts.store.clauses new.parts.store.places assume es) (sym f.entries)
      (subst (λ n. Stands new.parts.store.clauses n assume old.parts.store.entries) (sym f.places) (stands_fewer old.parts.store.clauses new.parts.store.clauses old.parts.store.places assume old.parts.store.entries f.fewer h.stands));
  none = none_fewer old.parts.store.clauses new.parts.store.clauses assume f.fewer h.none;
}

pub is_open_entries : (old new : Engine) (assume : List Lit) → IsOpen old assume → IsEngine new → new.theory ≡ old.theory → new.parts.store.clauses ≡ old.parts.store.clauses → Stands new.parts.store.clauses new.parts.store.places assume new.parts.store.entries → IsOpen new assume
is_open_entries old new assume h engine theory clauses stands = record {
  engine = engine;
  assumptions = subst (λ t. AreAssumptions (length t.variables) assume) (sym theory) h.assumptions;
  stands = stands;
  none = subst (λ cs. NoneRefuting cs assume) (sym clauses) h.none;
}
