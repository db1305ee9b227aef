-- The start of the search.
use Rattle.std.proofs.Common.{◌≡◌, ℕ, ◌<◌, ◌≤◌, List, [], length, map, replicate, sym, ap, ◌∙◌, arith, ⊎_elim}
use Rattle.std.specs.Prelude.{Contains}
use Rattle.std.proofs.lemmas.Bool.{cases_lt}
use Rattle.std.proofs.lemmas.List.{get_or-map, get_or_past, get_or-replicate, length-map, length-replicate}
use Rattle.std.proofs.lemmas.List.Folds.{sum_by-replicate}
use Rattle.components.specs.Graphs.{successors_of}
use Rattle.components.specs.declared.search.Status.TheVariants.{New}
use Rattle.components.specs.Searches.{IsSearch, at, fresh_weight, start_of, status_of}
use Rattle.components.proofs.Statuses.{new_not_open, new_not_closed}

none_in : (i : ℕ) {P : Type 0} → Contains {X = ℕ} [] i → P
none_in i m = let bad : m.0 < 0 = m.1 in absurd (omega arith)

all_new : (n v : ℕ) → status_of (replicate n New) v ≡ New
all_new n v = ⊎_elim
    (λ (lt : v < n). get_or-replicate n v New New lt)
    (λ (past : n ≤ v). get_or_past (replicate n New) v New (let e = length-replicate n New in omega (arith, e)))
    (cases_lt v n)

all_left : (g : List (List ℕ)) (v : ℕ) → at (map length g) v ≡ length (successors_of g v)
all_left g v = ⊎_elim
    (λ (lt : v < length g). get_or-map length g v [] 0 lt)
    (λ (past : length g ≤ v). get_or_past (map length g) v 0 (let e = length-map g length in omega (arith, e)) ∙ ap length (sym (get_or_past g v [] past)))
    (cases_lt v (length g))

pub start_search : (g : List (List ℕ)) → IsSearch g (start_of g)
start_search g = record {
  statuses_size = length-replicate (length g) New;
  left_size = length-map g length;
  stack = record {
    place = λ i lt. absurd (omega arith);
    inside = λ v i e. absurd (new_not_open (status_of (replicate (length g) New) v) i (all_new (length g) v) e);
    node = λ v i e. absurd (new_not_open (status_of (replicate (length g) New) v) i (all_new (length g) v) e);
  };
  path = record {
    up = λ i j le lt. absurd (omega arith);
    down = λ i j le lt since. absurd (omega arith);
  };
  looked = record {
    looked = λ i k lt from to. absurd (omega arith);
    fresh = λ v e. all_left g v;
    fits = λ v. let e = all_left g v in omega (arith, e);
  };
  starts = record {
    ascending = λ i j d lt le. absurd (omega arith);
    inside = λ t m. none_in t m;
    first = λ pos. absurd (omega arith);
  };
  unfinished = record {
    ascending = λ i j d lt le. absurd (omega arith);
    inside = λ t m. none_in t m;
    covers = λ i lt pos. absurd (omega arith);
  };
  closed = record {
    edges = λ v w k e edge. absurd (new_not_closed (status_of (replicate (length g) New) v) k (all_new (length g) v) e);
    same = λ v w k e f. absurd (new_not_closed (status_of (replicate (length g) New) v) k (all_new (length g) v) e);
    low = λ v k e. absurd (new_not_closed (status_of (replicate (length g) New) v) k (all_new (length g) v) e);
    high = λ v k e. absurd (new_not_closed (status_of (replicate (length g) New) v) k (all_new (length g) v) e);
    used = λ k pos le. absurd (omega arith);
  };
  count = let e = sum_by-replicate fresh_weight (length g) New in omega (arith, e);
}
