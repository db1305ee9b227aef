-- Variables that are defined by those before them, one after the other.
use Rattle.std.proofs.Common.{◌≡◌, ℕ, suc, ◌+◌, ◌<◌, ◌≤◌, Bool, true, false, not, ◌&&◌, ◌||◌, List, [], ◌∷◌, ◌++◌, map, length, refl, sym, ap, ◌∙◌, subst, None, ⊎_elim, inl, inr, arith}
use Rattle.std.specs.Prelude.{ℤ, pos, ◌+ℤ◌, ◌≤ℤ◌, ◌==◌, fold, int_lt, if◌then◌else◌}
use Rattle.std.specs.List.{AllByRecursion}
use Rattle.std.specs.Bool.{beq}
use Rattle.std.proofs.lemmas.Bool.{cases_lt, eq-eqb, ne_eqb}
use Rattle.std.proofs.lemmas.Bool.Decides.{nat_tests}
use Rattle.std.proofs.lemmas.Int.{ints}
use Rattle.theory_form.specs.declared.literals.Lit.{Lit}
use Rattle.theory_form.specs.declared.literals.Var.{Var}
use Rattle.theory_form.specs.declared.rows.VarKind.{VarKind}
use Rattle.theory_form.specs.declared.rows.VarKind.TheVariants.{Atom, Sum, Body, Search, Other}
use Rattle.theory_form.specs.Kinds.{atom_block}
use Rattle.theory_form.specs.Literals.{lit_cmp, opposite}
use Rattle.theory_model.specs.Truth.{clause_true, conjunction_true, sum_true, IsRowTrue}
use Rattle.theory_build.specs.declared.entries.Entry.{Entry}
use Rattle.theory_build.specs.Entries.{yes, no, clause, conjunction, disjunction, all_of, any_of, reaches, body_entry, truth_entry}
use Rattle.theory_build.specs.Ascending.{ascending}
use Rattle.theory_build.proofs.OrderLemmas.{lit_order}
use Rattle.theory_law.proofs.Membership.{same_truth, In, in_ascending}
use Rattle.theory_law.proofs.Clauses.{clauses_true, beq_true, beq_same, conjunction_says, disjunction_says}

-- a sum variable is true exactly where its sum reaches its bound
abbrev pub IsKindTrue : (ℕ → Bool) → ℕ → VarKind → Type 0
IsKindTrue f v (Atom block supports) = Unit {0}
IsKindTrue f v (Sum terms bound) = IsRowTrue f (record { var = record { 0 = v }; terms = terms; bound = bound })
IsKindTrue f v (Body lits) = Unit {0}
IsKindTrue f v Search = Unit {0}
IsKindTrue f v Other = Unit {0}

-- what comes with the variable is true
pub record IsEntryTrue (f : ℕ → Bool) (v : ℕ) (e : Entry) : Type 0 where
  pub clauses : clauses_true f e.clauses ≡ true
  pub kind : IsKindTrue f v e.kind

-- the same of the variables from v on
abbrev pub AreEntriesTrue : (ℕ → Bool) → ℕ → List Entry → Type 0
AreEntriesTrue f v [] = Unit {0}
AreEntriesTrue f v (e ∷ es) = IsEntryTrue f v e × AreEntriesTrue f (v + 1) es

-- w is a variable before v
pub record IsBefore (v w : ℕ) : Type 0 where
  pub some : 0 < w
  pub below : w < v

-- each literal is over a variable before v
abbrev pub AreBefore : ℕ → List Lit → Type 0
AreBefore v lits = AllByRecursion (λ (l : Lit). IsBefore v l.var.0) lits

abbrev pub AreTermsBefore : ℕ → List (ℤ × Var) → Type 0
AreTermsBefore v terms = AllByRecursion (λ (t : ℤ × Var). IsBefore v t.1.0) terms

-- the supports, the terms or the literals of a variable are over variables before v
abbrev pub IsKindBefore : ℕ → VarKind → Type 0
IsKindBefore v (Atom block supports) = AreBefore v supports
IsKindBefore v (Sum terms bound) = AreTermsBefore v terms
IsKindBefore v (Body lits) = AreBefore v lits
IsKindBefore v Search = Unit {0}
IsKindBefore v Other = Unit {0}

-- all that comes with the variable is over variables before v
pub record IsEntryBefore (v : ℕ) (e : Entry) : Type 0 where
  pub clauses : AllByRecursion (AreBefore v) e.clauses
  pub kind : IsKindBefore v e.kind

-- f and h agree on the variables before v
abbrev pub AgreeBefore : ℕ → (ℕ → Bool) → (ℕ → Bool) → Type 0
AgreeBefore v f h = (w : ℕ) → IsBefore v w → f w ≡ h w

-- What comes with the variable is true exactly where it has a value that rests on the variables before it; a body's is that
-- all its literals are true. It is no atom, and not the search guard.
pub record IsDefined (v : ℕ) (e : Entry) : Type 0 where
  pub value : (ℕ → Bool) → Bool
  pub rests : (f h : ℕ → Bool) → AgreeBefore v f h → value f ≡ value h
  pub holds : (f : ℕ → Bool) → f v ≡ value f → IsEntryTrue f v e
  pub says : (f : ℕ → Bool) → IsEntryTrue f v e → f v ≡ value f
  pub no_atom : atom_block e.kind ≡ None
  pub no_search : e.kind ≡ Search → ⊥
  pub body : (lits : List Lit) → e.kind ≡ Body lits → (f : ℕ → Bool) → value f ≡ conjunction_true f lits
  pub named : IsEntryBefore (v + 1) e

abbrev pub AreDefined : ℕ → List Entry → Type 0
AreDefined v [] = Unit {0}
AreDefined v (e ∷ es) = IsDefined v e × AreDefined (v + 1) es

-- ---- lists of entries

pub true_append : (f : ℕ → Bool) (v : ℕ) (xs ys : List Entry) → AreEntriesTrue f v xs → AreEntriesTrue f (v + length xs) ys → AreEntriesTrue f v (xs ++ ys)
true_append f v [] ys h k = let same : v + 0 ≡ v = omega arith in subst (λ w. AreEntriesTrue f w ys) same k
true_append f v (e ∷ xs) ys h k =
    let same : v + suc (length xs) ≡ (v + 1) + length xs = omega arith in
    (h.0, true_append f (v + 1) xs ys h.1 (subst (λ w. AreEntriesTrue f w ys) same k))

pub true_split : (f : ℕ → Bool) (v : ℕ) (xs ys : List Entry) → AreEntriesTrue f v (xs ++ ys) → AreEntriesTrue f v xs × AreEntriesTrue f (v + length xs) ys
true_split f v [] ys h = let same : v ≡ v + 0 = omega arith in (tt, subst (λ w. AreEntriesTrue f w ys) same h)
true_split f v (e ∷ xs) ys h =
    let same : (v + 1) + length xs ≡ v + suc (length xs) = omega arith in
    let rest = true_split f (v + 1) xs ys h.1 in
    ((h.0, rest.0), subst (λ w. AreEntriesTrue f w ys) same rest.1)

pub defined_append : (v : ℕ) (xs ys : List Entry) → AreDefined v xs → AreDefined (v + length xs) ys → AreDefined v (xs ++ ys)
defined_append v [] ys h k = let same : v + 0 ≡ v = omega arith in subst (λ w. AreDefined w ys) same k
defined_append v (e ∷ xs) ys h k =
    let same : v + suc (length xs) ≡ (v + 1) + length xs = omega arith in
    (h.0, defined_append (v + 1) xs ys h.1 (subst (λ w. AreDefined w ys) same k))

-- ---- the assignment that the definitions make of the values before them

abbrev pub with_value : (ℕ → Bool) → ℕ → Bool → ℕ → Bool
with_value f v b w = if w == v then b else f w

pub extend : (v : ℕ) (es : List Entry) → AreDefined v es → (ℕ → Bool) → ℕ → Bool
extend v [] d f = f
extend v (e ∷ es) d f = extend (v + 1) es d.1 (with_value f v (d.0.value f))

at_value : (f : ℕ → Bool) (v : ℕ) (b : Bool) → with_value f v b v ≡ b
at_value f v b = ap (λ t. if t then b else f v) (eq-eqb v v refl)

off_value : (f : ℕ → Bool) (v : ℕ) (b : Bool) (w : ℕ) → (w ≡ v → ⊥) → with_value f v b w ≡ f w
off_value f v b w n = ap (λ t. if t then b else f w) (ne_eqb w v n)

pub extend_before : (v : ℕ) (es : List Entry) (d : AreDefined v es) (f : ℕ → Bool) (w : ℕ) → w < v → extend v es d f w ≡ f w
unfolding extend
extend_before v [] d f w lt = refl
extend_before v (e ∷ es) d f w lt =
    extend_before (v + 1) es d.1 (with_value f v (d.0.value f)) w (omega arith) ∙ off_value f v (d.0.value f) w (λ s. omega arith)

pub extend_behind : (v : ℕ) (es : List Entry) (d : AreDefined v es) (f : ℕ → Bool) (w : ℕ) → v + length es ≤ w → extend v es d f w ≡ f w
unfolding extend
extend_behind v [] d f w le = refl
extend_behind v (e ∷ es) d f w le =
    let past : v + suc (length es) ≤ w = le in
    extend_behind (v + 1) es d.1 (with_value f v (d.0.value f)) w (omega arith) ∙ off_value f v (d.0.value f) w (λ s. omega arith)

pub extend_true : (v : ℕ) (es : List Entry) (d : AreDefined v es) (f : ℕ → Bool) → AreEntriesTrue (extend v es d f) v es
unfolding extend
extend_true v [] d f = tt
extend_true v (e ∷ es) d f =
    let g : ℕ → Bool = with_value f v (d.0.value f) in
    let h : ℕ → Bool = extend (v + 1) es d.1 g in
    let here : h v ≡ d.0.value f = extend_before (v + 1) es d.1 g v (omega arith) ∙ at_value f v (d.0.value f) in
    let same : d.0.value f ≡ d.0.value h = d.0.rests f h (λ w b. sym (extend_before (v + 1) es d.1 g w (omega arith) ∙ off_value f v (d.0.value f) w (λ s. omega arith))) in
    (d.0.holds h (here ∙ same), extend_true (v + 1) es d.1 g)

-- and there is no other one
pub one_extension : (v : ℕ) (es : List Entry) → AreDefined v es → (f h : ℕ → Bool) → AreEntriesTrue f v es → AreEntriesTrue h v es → AgreeBefore v f h → AgreeBefore (v + length es) f h
one_extension v [] d f h tf th same w b = let below : w < v + 0 = b.below in same w (record { some = b.some; below = omega arith })
one_extension v (e ∷ es) d f h tf th same w b =
    let here : f v ≡ h v = d.0.says f tf.0 ∙ (d.0.rests f h same ∙ sym (d.0.says h th.0)) in
    let below : w < v + suc (length es) = b.below in
    one_extension (v + 1) es d.1 f h tf.1 th.1 (λ k c. ⊎_elim
    (λ (low : k < v). same k (record { some = c.some; below = low }))
    (λ (high : v ≤ k). let is : v ≡ k = omega (arith, c.below) in subst (λ n. f n ≡ h n) is here)
    (cases_lt k v)) w (record { some = b.some; below = omega arith })

-- ---- values rest on the variables that are named

module _ (v : ℕ) (f h : ℕ → Bool) (same : AgreeBefore v f h) where
  pub conjunction_rests : (lits : List Lit) → AreBefore v lits → conjunction_true f lits ≡ conjunction_true h lits
  conjunction_rests [] b = refl
  conjunction_rests (l ∷ lits) b = rw (same l.var.0 b.0, conjunction_rests lits b.1) refl

  pub clause_rests : (lits : List Lit) → AreBefore v lits → clause_true f lits ≡ clause_true h lits
  clause_rests [] b = refl
  clause_rests (l ∷ lits) b = rw (same l.var.0 b.0, clause_rests lits b.1) refl

  sum_from_rests : (s : ℤ) (terms : List (ℤ × Var)) → AreTermsBefore v terms → fold (λ sum t. sum +ℤ (if f t.1.0 then t.0 else pos 0)) s terms ≡ fold (λ sum t. sum +ℤ (if h t.1.0 then t.0 else pos 0)) s terms
  sum_from_rests s [] b = refl
  sum_from_rests s (t ∷ terms) b =
      ap (λ b. fold (λ sum (t : ℤ × Var). sum +ℤ (if f t.1.0 then t.0 else pos 0)) (s +ℤ (if b then t.0 else pos 0)) terms) (same t.1.0 b.0)
      ∙ sum_from_rests (s +ℤ (if h t.1.0 then t.0 else pos 0)) terms b.1

  pub sum_rests : (terms : List (ℤ × Var)) → AreTermsBefore v terms → sum_true f terms ≡ sum_true h terms
  sum_rests terms b = sum_from_rests (pos 0) terms b

-- ---- what clauses name

pub before_more : (d e w : ℕ) → d ≤ e → IsBefore d w → IsBefore e w
before_more d e w le b = record { some = b.some; below = omega (arith, b.below) }

pub before_from_in : (v : ℕ) (lits : List Lit) → ((l : Lit) → In l lits → IsBefore v l.var.0) → AreBefore v lits
before_from_in v [] h = tt
before_from_in v (l ∷ lits) h = (h l (inl refl), before_from_in v lits (λ m i. h m (inr i)))

pub in_before : (v : ℕ) (lits : List Lit) → AreBefore v lits → (l : Lit) → In l lits → IsBefore v l.var.0
in_before v [] b l i = absurd i
in_before v (m ∷ lits) b l (inl e) = subst (λ (k : Lit). IsBefore v k.var.0) (sym e) b.0
in_before v (m ∷ lits) b l (inr i) = in_before v lits b.1 l i

pub ascending_before : (v : ℕ) (lits : List Lit) → AreBefore v lits → AreBefore v (ascending lit_cmp lits)
ascending_before v lits b = before_from_in v (ascending lit_cmp lits) (λ l i. in_before v lits b l (in_ascending lit_order l lits i))

pub lits_more : (d e : ℕ) (lits : List Lit) → d ≤ e → AreBefore d lits → AreBefore e lits
lits_more d e [] le b = tt
lits_more d e (l ∷ lits) le b = (before_more d e l.var.0 le b.0, lits_more d e lits le b.1)

pub terms_more : (d e : ℕ) (terms : List (ℤ × Var)) → d ≤ e → AreTermsBefore d terms → AreTermsBefore e terms
terms_more d e [] le h = tt
terms_more d e (t ∷ terms) le h = (before_more d e t.1.0 le h.0, terms_more d e terms le h.1)

pub clauses_more : (d e : ℕ) (cs : List (List Lit)) → d ≤ e → AllByRecursion (AreBefore d) cs → AllByRecursion (AreBefore e) cs
clauses_more d e [] le b = tt
clauses_more d e (c ∷ cs) le b = (lits_more d e c le b.0, clauses_more d e cs le b.1)

pub kind_more : (d e : ℕ) (k : VarKind) → d ≤ e → IsKindBefore d k → IsKindBefore e k
kind_more d e (Atom block supports) le h = lits_more d e supports le h
kind_more d e (Sum terms bound) le h = terms_more d e terms le h
kind_more d e (Body lits) le h = lits_more d e lits le h
kind_more d e Search le h = tt
kind_more d e Other le h = tt

pub opposites_before : (v : ℕ) (lits : List Lit) → AreBefore v lits → AreBefore v (map opposite lits)
opposites_before v [] b = tt
opposites_before v (l ∷ lits) b = (b.0, opposites_before v lits b.1)

pub clauses_append : (v : ℕ) (xs ys : List (List Lit)) → AllByRecursion (AreBefore v) xs → AllByRecursion (AreBefore v) ys → AllByRecursion (AreBefore v) (xs ++ ys)
clauses_append v [] ys h k = k
clauses_append v (x ∷ xs) ys h k = (h.0, clauses_append v xs ys h.1 k)

-- the clauses {l, m} of a literal l and each literal m of a list
pub pairs_before : (v : ℕ) (l : Lit) (h : Lit → Lit) (lits : List Lit) → IsBefore v l.var.0 → ((m : Lit) → (h m).var.0 ≡ m.var.0) → AreBefore v lits → AllByRecursion (AreBefore v) (map (λ m. clause (l ∷ h m ∷ [])) lits)
pairs_before v l h [] bl same b = tt
pairs_before v l h (m ∷ lits) bl same b = (ascending_before v (l ∷ h m ∷ []) (bl, (subst (IsBefore v) (sym (same m)) b.0, tt)), pairs_before v l h lits bl same b.1)

conjunction_before : (v : ℕ) (lits : List Lit) → 0 < v → AreBefore v lits → AllByRecursion (AreBefore (v + 1)) (conjunction v lits)
conjunction_before v lits some b =
    let own : IsBefore (v + 1) v = record { some = some; below = omega arith } in
    let more : AreBefore (v + 1) lits = lits_more v (v + 1) lits (omega arith) b in
    clauses_append (v + 1) (map (λ l. clause (no v ∷ l ∷ [])) lits) (clause (yes v ∷ map opposite lits) ∷ [])
    (pairs_before (v + 1) (no v) (λ l. l) lits own (λ m. refl) more)
    (ascending_before (v + 1) (yes v ∷ map opposite lits) (own, opposites_before (v + 1) lits more), tt)

disjunction_before : (v : ℕ) (lits : List Lit) → 0 < v → AreBefore v lits → AllByRecursion (AreBefore (v + 1)) (disjunction v lits)
disjunction_before v lits some b =
    let own : IsBefore (v + 1) v = record { some = some; below = omega arith } in
    let more : AreBefore (v + 1) lits = lits_more v (v + 1) lits (omega arith) b in
    clauses_append (v + 1) (map (λ l. clause (yes v ∷ opposite l ∷ [])) lits) (clause (no v ∷ lits) ∷ [])
    (pairs_before (v + 1) (yes v) opposite lits own (λ m. refl) more)
    (ascending_before (v + 1) (no v ∷ lits) (own, more), tt)

-- ---- the kinds of entries

pub all_of_says : (f : ℕ → Bool) (v : ℕ) (lits : List Lit) → IsEntryTrue f v (all_of v lits) → f v ≡ conjunction_true f lits
all_of_says f v lits t = beq_true (f v) (conjunction_true f lits) (sym (conjunction_says f v lits) ∙ t.clauses)

pub any_of_says : (f : ℕ → Bool) (v : ℕ) (lits : List Lit) → IsEntryTrue f v (any_of v lits) → f v ≡ clause_true f lits
any_of_says f v lits t = beq_true (f v) (clause_true f lits) (sym (disjunction_says f v lits) ∙ t.clauses)

pub body_says : (f : ℕ → Bool) (v : ℕ) (lits : List Lit) → IsEntryTrue f v (body_entry v lits) → f v ≡ conjunction_true f lits
body_says f v lits t = beq_true (f v) (conjunction_true f lits) (sym (conjunction_says f v lits) ∙ t.clauses)

pub all_of_defined : (v : ℕ) (lits : List Lit) → 0 < v → AreBefore v lits → IsDefined v (all_of v lits)
all_of_defined v lits some b = record {
  value = λ f. conjunction_true f lits;
  rests = λ f h same. conjunction_rests v f h same lits b;
  holds = λ f e. record { clauses = conjunction_says f v lits ∙ beq_same (f v) (conjunction_true f lits) e; kind = tt };
  says = λ f t. all_of_says f v lits t;
  no_atom = refl;
  no_search = λ e. absurd (cc);
  body = λ other e. absurd (cc);
  named = record { clauses = conjunction_before v lits some b; kind = tt };
}

pub body_defined : (v : ℕ) (lits : List Lit) → 0 < v → AreBefore v lits → IsDefined v (body_entry v lits)
body_defined v lits some b = record {
  value = λ f. conjunction_true f lits;
  rests = λ f h same. conjunction_rests v f h same lits b;
  holds = λ f e. record { clauses = conjunction_says f v lits ∙ beq_same (f v) (conjunction_true f lits) e; kind = tt };
  says = λ f t. body_says f v lits t;
  no_atom = refl;
  no_search = λ e. absurd (cc);
  body = λ other e f. let same : lits ≡ other = cc in ap (conjunction_true f) same;
  named = record { clauses = conjunction_before v lits some b; kind = lits_more v (v + 1) lits (omega arith) b };
}

pub any_of_defined : (v : ℕ) (lits : List Lit) → 0 < v → AreBefore v lits → IsDefined v (any_of v lits)
any_of_defined v lits some b = record {
  value = λ f. clause_true f lits;
  rests = λ f h same. clause_rests v f h same lits b;
  holds = λ f e. record { clauses = disjunction_says f v lits ∙ beq_same (f v) (clause_true f lits) e; kind = tt };
  says = λ f t. any_of_says f v lits t;
  no_atom = refl;
  no_search = λ e. absurd (cc);
  body = λ other e. absurd (cc);
  named = record { clauses = disjunction_before v lits some b; kind = tt };
}

-- the sum reaches the bound, as a test
abbrev pub reaches_bound : (ℕ → Bool) → List (ℤ × Var) → ℤ → Bool
reaches_bound f terms bound = not (int_lt (sum_true f terms) bound)

le_from : (s k : ℤ) → not (int_lt s k) ≡ true → k ≤ℤ s
le_from s k h = grind (arith, ints, nat_tests)

le_to : (s k : ℤ) → k ≤ℤ s → not (int_lt s k) ≡ true
le_to s k h = grind (arith, ints, nat_tests)

pub reaches_says : (f : ℕ → Bool) (v : ℕ) (terms : List (ℤ × Var)) (bound : ℤ) → IsEntryTrue f v (reaches terms bound) → f v ≡ reaches_bound f terms bound
reaches_says f v terms bound t = same_truth (f v) (reaches_bound f terms bound) (λ fv. le_to (sum_true f terms) bound (t.kind.0 fv)) (λ r. t.kind.1 (le_from (sum_true f terms) bound r))

pub reaches_defined : (v : ℕ) (terms : List (ℤ × Var)) (bound : ℤ) → AreTermsBefore v terms → IsDefined v (reaches terms bound)
reaches_defined v terms bound b = record {
  value = λ f. reaches_bound f terms bound;
  rests = λ f h same. ap (λ s. not (int_lt s bound)) (sum_rests v f h same terms b);
  holds = λ f e. record { clauses = refl; kind = (λ t. le_from (sum_true f terms) bound (sym e ∙ t), λ le. e ∙ le_to (sum_true f terms) bound le) };
  says = λ f t. reaches_says f v terms bound t;
  no_atom = refl;
  no_search = λ e. absurd (cc);
  body = λ other e. absurd (cc);
  named = record { clauses = tt; kind = terms_more v (v + 1) terms (omega arith) b };
}

pub truth_says : (f : ℕ → Bool) (v : ℕ) → clauses_true f (truth_entry v).clauses ≡ true → f v ≡ true
truth_says f v h = true_unit (f v) h
  where
    true_unit : (p : Bool) → ((beq p true || false) && true) ≡ true → p ≡ true
    true_unit true e = refl
    true_unit false e = e

pub truth_defined : (v : ℕ) → 0 < v → IsDefined v (truth_entry v)
truth_defined v some = record {
  value = λ f. true;
  rests = λ f h same. refl;
  holds = λ f e. record { clauses = unit_true (f v) e; kind = tt };
  says = λ f t. truth_says f v t.clauses;
  no_atom = refl;
  no_search = λ e. absurd (cc);
  body = λ other e. absurd (cc);
  named = record { clauses = ((record { some = some; below = omega arith }, tt), tt); kind = tt };
}
  where
    unit_true : (p : Bool) → p ≡ true → ((beq p true || false) && true) ≡ true
    unit_true true e = refl
    unit_true false e = e
