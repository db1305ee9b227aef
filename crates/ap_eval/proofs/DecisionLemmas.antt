-- Deciding the atoms one after the other, each behind those that its rules look at.
use Rattle.std.proofs.Common.{◌≡◌, ◌≢◌, ℕ, ◌+◌, ◌<◌, ◌≤◌, Bool, true, false, not, ◌&&◌, ◌||◌, cond, List, [], ◌∷◌, ◌++◌, take, length, get_or, refl, sym, ap, ◌∙◌, subst, arith, ⊎_elim, slice_set, get_or-set_other, get_or-set_same, get_or-take, length-take, length-set}
use mathlib.Core.Path.{fun_ext}
use Rattle.std.specs.Prelude.{All, Contains, IsTrue, ◌==◌}
use Rattle.std.specs.List.{list_all, list_any}
use Rattle.std.proofs.lemmas.Bool.{cases_eq, cases_lt, false≢true, false_from_ne_true, ne_eqb, eqb-true, eq-eqb, or_from}
use Rattle.std.proofs.lemmas.List.{take_more, take_all, get_or_default, get_or_past}
use Rattle.std.proofs.lemmas.List.Elements.{Contains-append_left, Contains-push, Contains-push_cases}
use Rattle.std.proofs.lemmas.List.Folds.{Any-from_list_any}
use Rattle.definite.specs.Rules.{marked}
use Rattle.ground_form.specs.Acyclic.{IsAcyclic}
use Rattle.ground_form.specs.Programs.{Parts}
use Rattle.ground_form.specs.Ranges.{IsNumberOf}
use Rattle.ground_form.specs.Sets.{has}
use Rattle.ground_form.specs.Truth.{body_true}
use Rattle.ground_form.specs.declared.atoms.AtomId.{AtomId}
use Rattle.ground_form.specs.declared.bodies.BodyId.{BodyId}
use Rattle.ap_eval.proofs.AgreementLemmas.{follows_same}
use Rattle.ap_eval.specs.Looks.{looks_within, IsOrder}
use Rattle.ap_eval.specs.Supports.{derives, follows, IsSupported, any_body, AreBodies, AreDecided}

or_true : (b : Bool) → (b || true) ≡ true
or_true true = refl
or_true false = refl

or_false : (b : Bool) → (b || false) ≡ b
or_false true = refl
or_false false = refl

-- ---- one atom

set_here : (old : List Bool) (a : ℕ) (any : Bool) → a < length old → marked (cond any (slice_set old a true) old) a ≡ (marked old a || any)
set_here old a true lt = get_or-set_same old a true false lt ∙ sym (or_true (marked old a))
set_here old a false lt = sym (or_false (marked old a))

set_other : (old : List Bool) (a c : ℕ) (any : Bool) → c ≢ a → marked (cond any (slice_set old a true) old) c ≡ marked old c
set_other old a c true ne = get_or-set_other old a c true false ne
set_other old a c false ne = refl

set_length : (old : List Bool) (a : ℕ) (any : Bool) → length (cond any (slice_set old a true) old) ≡ length old
set_length old a true = length-set old a true
set_length old a false = refl

module _ (g : Parts) (order : List ℕ) (is : IsOrder g order) (i : ℕ) (lt : i < length order) where
  abbrev atom : ℕ
  atom = get_or order i 0

  abbrev other : ℕ → Bool
  other c = not (c == atom)

  earlier_other : (j k d : ℕ) → j ≤ i → k < length (take j order) → get_or (take j order) k d ≢ atom
  earlier_other j k d le within =
      let size = length-take j order in
      let below : k < j = omega arith in
      let before : k < i = omega arith in
      λ e. is.distinct k i d before lt (sym (get_or-take j order k d below) ∙ (e ∙ get_or_default order i 0 d lt))

  fresh : Contains (take i order) atom → ⊥
  fresh m = earlier_other i m.0 atom (omega arith) m.1 m.2

  looks_other : (j : ℕ) → j ≤ i → IsTrue (list_all (looks_within g other (get_or order j 0)) g.rules)
  looks_other j le = is.before j (omega arith) other (λ k d within. ap not (ne_eqb (get_or (take j order) k d) atom (earlier_other j k d le within)))

  member_looks : (c : ℕ) → Contains (take i order) c → IsTrue (list_all (looks_within g other c) g.rules)
  member_looks c m =
      let size = length-take i order in
      let within = m.1 in
      let below : m.0 < i = omega arith in
      let in_order : m.0 < length order = omega arith in
      let at : get_or order m.0 0 ≡ c = get_or_default order m.0 0 c in_order ∙ (sym (get_or-take i order m.0 c below) ∙ m.2) in
      subst (λ b. IsTrue (list_all (looks_within g other b) g.rules)) at (looks_other m.0 (omega arith))

  module _ (facts : ℕ → Bool) (old new : List Bool) (set : new ≡ cond (list_any (derives g (marked old) atom) g.rules) (slice_set old atom true) old) (before : AreDecided g facts (take i order) old) where
    same_other : (c : ℕ) → IsTrue (other c) → marked old c ≡ marked new c
    same_other c t = sym (ap (λ ms. marked ms c) set ∙ set_other old atom c (list_any (derives g (marked old) atom) g.rules) (apart (c == atom) refl t))
      where
        apart : (b : Bool) → (c == atom) ≡ b → IsTrue (not b) → c ≢ atom
        apart true e u = absurd (false≢true u)
        apart false e u = λ same. false≢true (sym e ∙ eq-eqb c atom same)

    from_other : (c : ℕ) → (c ≡ atom → ⊥) → marked new c ≡ marked old c
    from_other c ne = sym (same_other c (ap not (ne_eqb c atom ne)))

    follows_new : (c : ℕ) → IsTrue (list_all (looks_within g other c) g.rules) → follows g facts (marked old) c ≡ follows g facts (marked new) c
    follows_new c within = follows_same g facts (marked old) (marked new) other c same_other within

    pub decided_more : AreDecided g facts (take (i + 1) order) new
    decided_more =
        let front = take_more order i 0 lt in
        let range = is.range i 0 lt in
        let size = before.size in
        let room : atom < length old = omega arith in
        record {
          here = λ c m. ⊎_elim
              (λ (done : Contains (take i order) c).
              from_other c (λ e. fresh (subst (Contains (take i order)) e done))
              ∙ (before.here c done ∙ follows_new c (member_looks c done)))
              (λ (e : atom ≡ c). subst (λ b. marked new b ≡ follows g facts (marked new) b) e
              (ap (λ ms. marked ms atom) set
              ∙ (set_here old atom (list_any (derives g (marked old) atom) g.rules) room
              ∙ (ap (λ b. b || list_any (derives g (marked old) atom) g.rules) (before.others atom fresh)
              ∙ follows_new atom (looks_other i (omega arith))))))
              (Contains-push_cases (take i order) atom c (subst (λ xs. Contains xs c) front m));
          others = λ c out.
              from_other c (λ e. out (subst (λ xs. Contains xs c) (sym front) (subst (Contains (take i order ++ atom ∷ [])) (sym e) (Contains-push (take i order) atom))))
              ∙ before.others c (λ m. out (subst (λ xs. Contains xs c) (sym front) (Contains-append_left (take i order) (atom ∷ []) c m)));
          size = ap length set ∙ (set_length old atom (list_any (derives g (marked old) atom) g.rules) ∙ before.size);
        }

-- ---- all atoms

no_fact : (n a : ℕ) (ids : List AtomId) → n < a → All (λ (id : AtomId). IsNumberOf n id.0) ids → has ids a ≡ false
no_fact n a ids lt h = false_from_ne_true (has ids a) (λ t.
    let m = Any-from_list_any (λ (id : AtomId). id.0 == a) ids t in
    let high = (subst (λ (id : AtomId). IsNumberOf n id.0) m.3 (h m.0 m.1 m.2)).1 in
    let same : m.1.0 ≡ a = eqb-true m.1.0 a m.4 in
    omega arith)

-- once all are decided, the marks have just what follows from them
pub decided_supported : (g : Parts) (ids : List AtomId) (order : List ℕ) (bodies : List (List BodyId)) (marks : List Bool) → All (λ (id : AtomId). IsNumberOf (length g.atoms) id.0) ids → IsOrder g order → AreBodies g bodies → IsAcyclic g → AreDecided g (has ids) order marks → IsSupported g (has ids) (marked marks)
decided_supported g ids order bodies marks facts is are acyclic decided a = ⊎_elim
    (λ (lt : a < length g.atoms + 1). decided.here a (is.whole acyclic a lt))
    (λ (past : length g.atoms + 1 ≤ a).
    let size = decided.size in
    let lists = are.size in
    let test : ℕ → Bool = body_true g (marked marks) in
    let none : list_any (derives g (marked marks) a) g.rules ≡ false = sym (are.same test a) ∙ ap (any_body test) (get_or_past bodies a [] (omega arith)) in
    get_or_past marks a false (omega arith) ∙ sym (or_from (has ids a) (list_any (derives g (marked marks) a) g.rules) (no_fact (length g.atoms) a ids (omega arith) facts) none))
    (cases_lt a (length g.atoms + 1))
