-- The numbers of sets that were met.
use Rattle.std.proofs.Common.{◌≡◌, ◌≢◌, ℕ, zero, suc, ◌+◌, ◌<◌, ◌≤◌, Bool, true, false, ◌||◌, List, [], ◌∷◌, ◌++◌, length, refl, sym, ap, ap₂, ◌∙◌, subst, Option, Some, None, ⊎_elim, inl, inr, arith, eqb-true, eq-eqb, cond}
use Rattle.std.specs.Prelude.{◌⊎◌, ◌↔◌, slice_get, IsSome, IsNone, if◌then◌else◌}
use Rattle.std.specs.Bool.{Decides}
use Rattle.std.specs.List.{AllPairs, list_any, position, position_from}
use Rattle.std.specs.Option.{option_map}
use Rattle.std.specs.Cmp.Lexicographic.{pointwise_decides}
use Rattle.std.proofs.lemmas.Bool.{cases_lt, false≢true}
use Rattle.std.proofs.lemmas.Iterator.Adapters.{position_from-zero}
use Rattle.std.proofs.lemmas.List.Elements.{All-cons, All-nil}
use Rattle.std.proofs.lemmas.Option.{none-some, same_Some, slice_get_within, get_or_from_slice_get}
use Rattle.ground_form.specs.declared.atoms.AtomId.{AtomId}
use Rattle.ground_form.specs.declared.atoms.SetId.{SetId}
use Rattle.ground_form.specs.Programs.{numbered}
use Rattle.indexmap.specs.IndexSet.{insert_key}
use Rattle.opt_core.specs.Numbers.{is_same, number_at, number_of, AreMet, IsNewSet}

pub same_decides : (x y : List AtomId) → Decides (is_same x y) (x ≡ y)
same_decides = pointwise_decides (λ a b. (λ e i. record { 0 = eqb-true a.0 b.0 e i }, λ e. eq-eqb a.0 b.0 (ap (λ id. id.0) e)))

-- ---- places

finds : (x : List AtomId) (met : List (List AtomId)) (i p : ℕ) → position_from (is_same x) i met ≡ Some p → (k : ℕ) × (p ≡ i + k) × (slice_get met k ≡ Some x)
finds x [] i p e = absurd (none-some p e)
finds x (y ∷ met) i p e = go (is_same x y) refl (finds x met (i + 1) p) e
  where
    go : (b : Bool) → is_same x y ≡ b → (position_from (is_same x) (i + 1) met ≡ Some p → (k : ℕ) × (p ≡ i + 1 + k) × (slice_get met k ≡ Some x))
        → cond b (Some i) (position_from (is_same x) (i + 1) met) ≡ Some p → (k : ℕ) × (p ≡ i + k) × (slice_get (y ∷ met) k ≡ Some x)
    go true t more f = let is : i ≡ p = same_Some i p f in (zero, omega arith, ap Some (sym ((same_decides x y).0 t)))
    go false t more f = let rest = more f in (suc rest.0, omega (arith, rest.1), rest.2)

misses : (x : List AtomId) (met : List (List AtomId)) (i : ℕ) → position_from (is_same x) i met ≡ None → IsNewSet met x
misses x [] i e = All-nil (λ other. other ≢ x)
misses x (y ∷ met) i e = go (is_same x y) refl (misses x met (i + 1)) e
  where
    go : (b : Bool) → is_same x y ≡ b → (position_from (is_same x) (i + 1) met ≡ None → IsNewSet met x) → cond b (Some i) (position_from (is_same x) (i + 1) met) ≡ None → IsNewSet (y ∷ met) x
    go true t more f = absurd (none-some i (sym f))
    go false t more f = All-cons (λ other. other ≢ x) y met (λ same. false≢true (sym t ∙ (same_decides x y).1 (sym same))) (more f)

place_of : (met : List (List AtomId)) (x : List AtomId) (p : ℕ) → position (is_same x) met ≡ Some p → slice_get met p ≡ Some x
place_of met x p e =
    let f = finds x met 0 p (sym (position_from-zero (is_same x) met) ∙ e) in
    let is : f.0 ≡ p = omega (arith, f.1) in
    subst (λ k. slice_get met k ≡ Some x) is f.2

no_place : (met : List (List AtomId)) (x : List AtomId) → position (is_same x) met ≡ None → IsNewSet met x
no_place met x e = misses x met 0 (sym (position_from-zero (is_same x) met) ∙ e)

-- a new set is at no place
pub not_there : (met : List (List AtomId)) (x : List AtomId) (i : ℕ) → IsNewSet met x → numbered met i ≡ Some x → ⊥
not_there met x zero new e = none-some x e
not_there met x (suc k) new e = new k x (slice_get_within met k x e) (get_or_from_slice_get met k x x e)

-- ---- numbers

-- numbers of the same set are the same
pub one_number : (met : List (List AtomId)) → AllPairs (λ x y. x ≢ y) met → (i j : ℕ) (x : List AtomId) → numbered met i ≡ Some x → numbered met j ≡ Some x → i ≡ j
one_number met apart zero j x e f = absurd (none-some x e)
one_number met apart (suc a) zero x e f = absurd (none-some x f)
one_number met apart (suc a) (suc b) x e f = ⊎_elim
    (λ (low : a < b). absurd (apart a b x low (slice_get_within met b x f) (get_or_from_slice_get met a x x e ∙ sym (get_or_from_slice_get met b x x f))))
    (λ (high : b ≤ a). ⊎_elim
    (λ (above : b < a). absurd (apart b a x above (slice_get_within met a x e) (get_or_from_slice_get met b x x f ∙ sym (get_or_from_slice_get met a x x e))))
    (λ (same : a ≤ b). let is : a ≡ b = omega arith in ap suc is)
    (cases_lt b a))
    (cases_lt a b)

pub number_means : (met : List (List AtomId)) (x : List AtomId) (i : SetId) → number_of met x ≡ Some i → numbered met i.0 ≡ Some x
number_means met x i e = go (position (is_same x) met) (λ p is. place_of met x p is) e
  where
    go : (o : Option ℕ) → ((p : ℕ) → o ≡ Some p → slice_get met p ≡ Some x) → option_map number_at o ≡ Some i → numbered met i.0 ≡ Some x
    go None at f = absurd (none-some i f)
    go (Some p) at f = subst (λ (n : SetId). numbered met n.0 ≡ Some x) (same_Some (number_at p) i f) (at p refl)

pub number_none : (met : List (List AtomId)) (x : List AtomId) → number_of met x ≡ None → IsNewSet met x
number_none met x e = go (position (is_same x) met) (λ is. no_place met x is) e
  where
    go : (o : Option ℕ) → (o ≡ None → IsNewSet met x) → option_map number_at o ≡ None → IsNewSet met x
    go None new f = new refl
    go (Some p) new f = absurd (none-some (number_at p) (sym f))

-- what is known of a set is by its number, or that it has none
pub by_number : {A : Type 0} (met : List (List AtomId)) (x : List AtomId) → ((i : SetId) → number_of met x ≡ Some i → numbered met i.0 ≡ Some x → A) → (number_of met x ≡ None → IsNewSet met x → A) → A
by_number {A = A} met x some none = go (number_of met x) refl
  where
    go : (o : Option SetId) → number_of met x ≡ o → A
    go None e = none e (number_none met x e)
    go (Some i) e = some i e (number_means met x i e)

pub means_number : (met : List (List AtomId)) → AllPairs (λ x y. x ≢ y) met → (x : List AtomId) (i : SetId) → numbered met i.0 ≡ Some x → number_of met x ≡ Some i
means_number met apart x i e = by_number met x
    (λ j is at. is ∙ ap (λ n. Some (record { 0 = n })) (one_number met apart j.0 i.0 x at e))
    (λ is new. absurd (not_there met x i.0 new e))

pub new_none : (met : List (List AtomId)) (x : List AtomId) → IsNewSet met x → number_of met x ≡ None
new_none met x new = by_number met x (λ j is at. absurd (not_there met x j.0 new at)) (λ is also. is)

pub next_place : (p : ℕ) → ◌≡◌ {A = Option SetId} (Some (record { 0 = p + 1 })) (Some (number_at p))
next_place p = let e : p + 1 ≡ suc p = omega arith in ap (λ n. Some (record { 0 = n })) e

-- what a look-up answers is the number, where a place was looked up among these
answered : (keys met : List (List AtomId)) (x : List AtomId) (o : Option ℕ) (r : Option SetId) → keys ≡ met → o ≡ position (is_same x) keys → r ≡ option_map number_at o → r ≡ number_of met x
answered keys met x o r same found is = is ∙ (ap (option_map number_at) found ∙ ap (λ m. number_of m x) same)

pub exact : (keys met : List (List AtomId)) (x : List AtomId) (o : Option ℕ) (r : Option SetId) → AreMet keys → keys ≡ met → o ≡ position (is_same x) keys → r ≡ option_map number_at o
    → (i : SetId) → (r ≡ Some i) ↔ (numbered met i.0 ≡ Some x)
exact keys met x o r are same found is i =
    let number : r ≡ number_of met x = answered keys met x o r same found is in
    let apart : AllPairs (λ x y. x ≢ y) met = subst (AllPairs (λ x y. x ≢ y)) same are.once in
    (λ e. number_means met x i (sym number ∙ e), λ e. number ∙ means_number met apart x i e)

none_is : (o : Option SetId) → IsNone o → o ≡ None
none_is None h = refl
none_is (Some i) h = absurd (false≢true (sym h))

pub none_exactly : (keys met : List (List AtomId)) (x : List AtomId) (o : Option ℕ) (r : Option SetId) → keys ≡ met → o ≡ position (is_same x) keys → r ≡ option_map number_at o
    → IsNone r ↔ IsNewSet met x
none_exactly keys met x o r same found is =
    let number : r ≡ number_of met x = answered keys met x o r same found is in
    (λ h. number_none met x (sym number ∙ none_is r h), λ new. subst IsNone (sym (number ∙ new_none met x new)) refl)

-- ---- a set more

absent : (met : List (List AtomId)) (x : List AtomId) → IsNewSet met x → list_any (is_same x) met ≡ false
absent [] x new = refl
absent (y ∷ met) x new = go (is_same x y) refl (absent met x (λ k d lt. new (suc k) d (omega (arith, lt))))
  where
    go : (b : Bool) → is_same x y ≡ b → list_any (is_same x) met ≡ false → (b || list_any (is_same x) met) ≡ false
    go true t rest = absurd (new 0 x (omega arith) (sym ((same_decides x y).0 t)))
    go false t rest = rest

pub added : (keys met : List (List AtomId)) (x y : List AtomId) → keys ≡ met → y ≡ x → IsNewSet met x → insert_key is_same keys y ≡ met ++ x ∷ []
added keys met x y same is new = ap₂ (insert_key is_same) same is ∙ ap (λ (b : Bool). if b then met else met ++ x ∷ []) (absent met x new)

pub length_more : {X : Type 0} (xs : List X) (z : X) → length (xs ++ z ∷ []) ≡ suc (length xs)
length_more [] z = refl
length_more (x ∷ xs) z = ap suc (length_more xs z)

pub numbered_on : {X : Type 0} (xs ys : List X) (i : ℕ) (x : X) → numbered xs i ≡ Some x → numbered (xs ++ ys) i ≡ Some x
numbered_on xs ys zero x e = absurd (none-some x e)
numbered_on [] ys (suc k) x e = absurd (none-some x e)
numbered_on (z ∷ xs) ys (suc zero) x e = e
numbered_on (z ∷ xs) ys (suc (suc k)) x e = numbered_on xs ys (suc k) x e

pub numbered_last : {X : Type 0} (xs : List X) (z : X) (i : ℕ) (x : X) → numbered (xs ++ z ∷ []) i ≡ Some x → (numbered xs i ≡ Some x) ⊎ ((i ≡ suc (length xs)) × (z ≡ x))
numbered_last xs z zero x e = absurd (none-some x e)
numbered_last [] z (suc zero) x e = inr (refl, same_Some z x e)
numbered_last [] z (suc (suc k)) x e = absurd (none-some x e)
numbered_last (w ∷ xs) z (suc zero) x e = inl e
numbered_last (w ∷ xs) z (suc (suc k)) x e = ⊎_elim
    (λ (old : numbered xs (suc k) ≡ Some x). inl old)
    (λ (new : (suc k ≡ suc (length xs)) × (z ≡ x)). inr (ap suc new.0, new.1))
    (numbered_last xs z (suc k) x e)

pub numbered_new : {X : Type 0} (xs : List X) (z : X) → numbered (xs ++ z ∷ []) (suc (length xs)) ≡ Some z
numbered_new [] z = refl
numbered_new (x ∷ xs) z = numbered_new xs z

-- the number after the last one is none of a set
pub not_yet : {X : Type 0} (xs : List X) → IsSome (numbered xs (suc (length xs))) → ⊥
not_yet [] h = false≢true h
not_yet (x ∷ xs) h = not_yet xs h

pub some_there : {X : Type 0} (o : Option X) → IsSome o → (x : X) × (o ≡ Some x)
some_there None h = absurd (false≢true h)
some_there (Some x) h = (x, refl)

pub is_some_at : {X : Type 0} (o : Option X) (x : X) → o ≡ Some x → IsSome o
is_some_at o x e = subst IsSome (sym e) refl

numbered_within : {X : Type 0} (xs : List X) (i : ℕ) (x : X) → numbered xs i ≡ Some x → i ≤ length xs
numbered_within xs zero x e = omega arith
numbered_within [] (suc k) x e = absurd (none-some x e)
numbered_within (y ∷ xs) (suc zero) x e = omega arith
numbered_within (y ∷ xs) (suc (suc k)) x e = let rest = numbered_within xs (suc k) x e in omega (arith, rest)

pub some_on : {X : Type 0} (xs : List X) (z : X) (i : ℕ) → IsSome (numbered xs i) → IsSome (numbered (xs ++ z ∷ []) i)
some_on xs z i h = let s = some_there (numbered xs i) h in is_some_at _ s.0 (numbered_on xs (z ∷ []) i s.0 s.1)

-- a number that was there has the set that it had
pub older : {X : Type 0} (xs : List X) (z : X) (i : ℕ) (x : X) → IsSome (numbered xs i) → numbered (xs ++ z ∷ []) i ≡ Some x → numbered xs i ≡ Some x
older xs z i x there e = ⊎_elim
    (λ (old : numbered xs i ≡ Some x). old)
    (λ (new : (i ≡ suc (length xs)) × (z ≡ x)).
    let some = some_there (numbered xs i) there in
    let le = numbered_within xs i some.0 some.1 in
    absurd (omega (arith, le, new.0)))
    (numbered_last xs z i x e)
