-- What the clauses of a variable say.
use Rattle.std.proofs.Common.{◌≡◌, ℕ, Bool, true, false, not, ◌&&◌, ◌||◌, List, [], ◌∷◌, map, refl, sym, ap, ◌∙◌}
use Rattle.std.specs.List.{list_all}
use Rattle.std.specs.Bool.{beq}
use Rattle.std.proofs.lemmas.Bool.{and_parts, and_from, false≢true}
use Rattle.std.proofs.lemmas.List.Folds.{list_all-append, list_all-map}
use Rattle.theory_form.specs.declared.literals.Lit.{Lit}
use Rattle.theory_form.specs.Literals.{opposite}
use Rattle.theory_model.specs.Truth.{literal_true, clause_true, conjunction_true}
use Rattle.theory_build.specs.Entries.{yes, no, clause, conjunction, disjunction, support_clauses}
use Rattle.theory_build.proofs.OrderLemmas.{lit_order}
use Rattle.theory_law.proofs.Membership.{any_ascending, In, all_in, in_all}

-- all of these clauses are true
abbrev pub clauses_true : (ℕ → Bool) → List (List Lit) → Bool
clauses_true f cs = list_all (clause_true f) cs

-- ---- truth tables

pub beq_yes : (p : Bool) → beq p true ≡ p
beq_yes true = refl
beq_yes false = refl

pub beq_no : (p : Bool) → beq p false ≡ not p
beq_no true = refl
beq_no false = refl

pub beq_true : (p q : Bool) → beq p q ≡ true → p ≡ q
beq_true true true h = refl
beq_true true false h = sym h
beq_true false true h = h
beq_true false false h = refl

pub beq_same : (p q : Bool) → p ≡ q → beq p q ≡ true
beq_same true q e = sym (ap (beq true) e) ∙ refl
beq_same false q e = sym (ap (beq false) e) ∙ refl

pub or_false : (p : Bool) → (p || false) ≡ p
or_false true = refl
or_false false = refl

pub and_true : (p : Bool) → (p && true) ≡ p
and_true true = refl
and_true false = refl

pub not_not : (p : Bool) → not (not p) ≡ p
not_not true = refl
not_not false = refl

-- ---- literals and clauses

pub opposite_true : (f : ℕ → Bool) (l : Lit) → literal_true f (opposite l) ≡ not (literal_true f l)
opposite_true f l = beq_not (f l.var.0) l.yes
  where
    beq_not : (p q : Bool) → beq p (not q) ≡ not (beq p q)
    beq_not true true = refl
    beq_not true false = refl
    beq_not false true = refl
    beq_not false false = refl

-- the order of its literals and their repeats change no clause
pub clause_same : (f : ℕ → Bool) (lits : List Lit) → clause_true f (clause lits) ≡ clause_true f lits
clause_same f lits = any_ascending lit_order (literal_true f) lits

pub two_true : (f : ℕ → Bool) (l m : Lit) → clause_true f (clause (l ∷ m ∷ [])) ≡ (literal_true f l || literal_true f m)
two_true f l m = clause_same f (l ∷ m ∷ []) ∙ ap (λ b. literal_true f l || b) (or_false (literal_true f m))

any_opposite : (f : ℕ → Bool) (lits : List Lit) → clause_true f (map opposite lits) ≡ not (conjunction_true f lits)
any_opposite f [] = refl
any_opposite f (l ∷ lits) = rw (opposite_true f l, any_opposite f lits) (or_not (literal_true f l) (conjunction_true f lits))
  where
    or_not : (p q : Bool) → (not p || not q) ≡ not (p && q)
    or_not true q = refl
    or_not false q = refl

-- ---- conjunctions

each_true : (f : ℕ → Bool) (v : ℕ) (lits : List Lit) → clauses_true f (map (λ l. clause (no v ∷ l ∷ [])) lits) ≡ (not (f v) || conjunction_true f lits)
each_true f v [] = each_nil (f v)
  where
    each_nil : (p : Bool) → true ≡ (not p || true)
    each_nil true = refl
    each_nil false = refl
each_true f v (l ∷ lits) = rw (two_true f (no v) l, each_true f v lits) (each_cons (f v) (literal_true f l) (conjunction_true f lits))
  where
    each_cons : (p q r : Bool) → ((beq p false || q) && (not p || r)) ≡ (not p || (q && r))
    each_cons true true r = refl
    each_cons true false r = refl
    each_cons false q r = refl

-- the clauses of a conjunction are true exactly where v is the conjunction
pub conjunction_says : (f : ℕ → Bool) (v : ℕ) (lits : List Lit) → clauses_true f (conjunction v lits) ≡ beq (f v) (conjunction_true f lits)
conjunction_says f v lits =
    list_all-append (clause_true f) (map (λ l. clause (no v ∷ l ∷ [])) lits) (clause (yes v ∷ map opposite lits) ∷ [])
    ∙ rw (each_true f v lits, clause_same f (yes v ∷ map opposite lits), any_opposite f lits) (both (f v) (conjunction_true f lits))
  where
    both : (p q : Bool) → ((not p || q) && ((beq p true || not q) && true)) ≡ beq p q
    both true true = refl
    both true false = refl
    both false true = refl
    both false false = refl

-- ---- the clauses of an atom, and of a disjunction

force_true : (f : ℕ → Bool) (v : ℕ) (b : Lit) → clause_true f (clause (yes v ∷ opposite b ∷ [])) ≡ (f v || not (literal_true f b))
force_true f v b = two_true f (yes v) (opposite b) ∙ rw (opposite_true f b, beq_yes (f v)) refl

last_true : (f : ℕ → Bool) (v : ℕ) (lits : List Lit) → clause_true f (clause (no v ∷ lits)) ≡ (not (f v) || clause_true f lits)
last_true f v lits = clause_same f (no v ∷ lits) ∙ rw (beq_no (f v)) refl

forced : (f : ℕ → Bool) (v : ℕ) (bs : List Lit) → list_all (λ b. clause_true f (clause (yes v ∷ opposite b ∷ []))) bs ≡ list_all (λ b. f v || not (literal_true f b)) bs
forced f v [] = refl
forced f v (b ∷ bs) = rw (force_true f v b, forced f v bs) refl

pub support_clauses_say : (f : ℕ → Bool) (v : ℕ) (forcing supports : List Lit) → clauses_true f (support_clauses v forcing supports) ≡ (list_all (λ b. f v || not (literal_true f b)) forcing && (not (f v) || clause_true f supports))
support_clauses_say f v forcing supports =
    list_all-append (clause_true f) (map (λ b. clause (yes v ∷ opposite b ∷ [])) forcing) (clause (no v ∷ supports) ∷ [])
    ∙ rw (list_all-map (clause_true f) (λ b. clause (yes v ∷ opposite b ∷ [])) forcing, forced f v forcing, last_true f v supports) (ap (λ b. list_all (λ b. f v || not (literal_true f b)) forcing && b) (and_true (not (f v) || clause_true f supports)))

-- a disjunction: each of its literals forces v, and they are the supports of v
any_forces : (f : ℕ → Bool) (v : ℕ) (lits : List Lit) → list_all (λ b. f v || not (literal_true f b)) lits ≡ (f v || not (clause_true f lits))
any_forces f v [] = any_nil (f v)
  where
    any_nil : (p : Bool) → true ≡ (p || true)
    any_nil true = refl
    any_nil false = refl
any_forces f v (l ∷ lits) = rw (any_forces f v lits) (any_cons (f v) (literal_true f l) (clause_true f lits))
  where
    any_cons : (p q r : Bool) → ((p || not q) && (p || not r)) ≡ (p || not (q || r))
    any_cons true q r = refl
    any_cons false true r = refl
    any_cons false false r = refl

-- the clauses of a disjunction are true exactly where v is the disjunction
pub disjunction_says : (f : ℕ → Bool) (v : ℕ) (lits : List Lit) → clauses_true f (disjunction v lits) ≡ beq (f v) (clause_true f lits)
disjunction_says f v lits = support_clauses_say f v lits lits ∙ rw (any_forces f v lits) (both (f v) (clause_true f lits))
  where
    both : (p q : Bool) → ((p || not q) && (not p || q)) ≡ beq p q
    both true true = refl
    both true false = refl
    both false true = refl
    both false false = refl

-- the atom is true where a support that forces it is, and one of its supports is true where it is
pub record IsCompleted (f : ℕ → Bool) (v : ℕ) (forcing supports : List Lit) : Type 0 where
  pub forced : (b : Lit) → In b forcing → literal_true f b ≡ true → f v ≡ true
  pub supported : f v ≡ true → clause_true f supports ≡ true

or_from_not : (p q : Bool) → (p || not q) ≡ true → q ≡ true → p ≡ true
or_from_not true q h e = refl
or_from_not false q h e = absurd (false≢true (sym (ap not e) ∙ h))

or_to_not : (p q : Bool) → (q ≡ true → p ≡ true) → (p || not q) ≡ true
or_to_not true q h = refl
or_to_not false true h = h refl
or_to_not false false h = refl

then_true : (p q : Bool) → (not p || q) ≡ true → p ≡ true → q ≡ true
then_true true q h e = h
then_true false q h e = absurd (false≢true e)

then_from : (p q : Bool) → (p ≡ true → q ≡ true) → (not p || q) ≡ true
then_from true q h = h refl
then_from false q h = refl

pub completed_from : (f : ℕ → Bool) (v : ℕ) (forcing supports : List Lit) → clauses_true f (support_clauses v forcing supports) ≡ true → IsCompleted f v forcing supports
completed_from f v forcing supports h =
    let parts = and_parts (list_all (λ b. f v || not (literal_true f b)) forcing) (not (f v) || clause_true f supports) (sym (support_clauses_say f v forcing supports) ∙ h) in
    record {
      forced = λ b i t. or_from_not (f v) (literal_true f b) (all_in (λ b. f v || not (literal_true f b)) forcing parts.0 b i) t;
      supported = λ t. then_true (f v) (clause_true f supports) parts.1 t;
    }

pub completed_to : (f : ℕ → Bool) (v : ℕ) (forcing supports : List Lit) → IsCompleted f v forcing supports → clauses_true f (support_clauses v forcing supports) ≡ true
completed_to f v forcing supports c =
    support_clauses_say f v forcing supports
    ∙ and_from (list_all (λ b. f v || not (literal_true f b)) forcing) (not (f v) || clause_true f supports)
    (in_all (λ b. f v || not (literal_true f b)) forcing (λ b i. or_to_not (f v) (literal_true f b) (λ t. c.forced b i t)))
    (then_from (f v) (clause_true f supports) c.supported)
