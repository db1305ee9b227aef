-- Lists of names as sets, and how many members they have.
use Rattle.std.proofs.Common.{◌≡◌, ℕ, ◌+◌, ◌<◌, ◌≤◌, Bool, true, false, cond, ◌||◌, List, [], ◌∷◌, ◌++◌, length, get_or, take, drop, refl, sym, ap, ◌∙◌, subst, arith, ⊎_elim}
use Rattle.std.proofs.Math.Path.{fun_ext}
use Rattle.std.specs.Cmp.{IsEquivalence}
use Rattle.std.specs.Cmp.Lexicographic.{nat_list_eq_equiv, slice_cmp}
use Rattle.std.specs.List.{IsDistinct, list_any}
use Rattle.std.specs.List.Sorted.{IsStrictlySortedBy}
use Rattle.std.specs.Ordering.{eq_by_cmp, is_eq, nat_cmp}
use Rattle.std.specs.Set.{distinct_count, is_member, unique_keys}
use Rattle.std.specs.Str.{bytes_eq}
use Rattle.std.proofs.lemmas.Bool.{cases_Bool, cond-true, cond-false, or_cases, or_left, or_right}
use Rattle.std.proofs.lemmas.List.Folds.{list_any-append}
use Rattle.std.proofs.lemmas.List.{length_push, take_more, take-append-drop}
use Rattle.std.proofs.lemmas.Slice.Eq.{bytes_eq-Decides}
use Rattle.std.proofs.lemmas.Map.Keys.{IsDistinct-cons, IsDistinct-from_sorted, IsDistinct-push}
use Rattle.std.proofs.lemmas.Map.Made.{distinct_count-from_IsDistinct, length-from_keys, length-le_from_is_member}
use Rattle.std.proofs.lemmas.Map.Steps.{list_any_congr}
use Rattle.std.proofs.lemmas.Map.Text.{is_eq-slice_cmp}
use Rattle.ap_eval.specs.AtomSets.{has}
use Rattle.small_optima.specs.Adds.{Adds, ExceedsTwelve}
use Rattle.small_optima.specs.Optimal.{atom_cmp}
use Rattle.small_optima.proofs.Lists.{each-none}

-- ---- unique keys, by any equality

module _ {K : Type 0} {eq : K → K → Bool} (laws : IsEquivalence eq) where
  known_member : (x : K) (xs : List K) (q : K) → is_member eq xs x ≡ true → (eq q x || is_member eq xs q) ≡ is_member eq xs q
  known_member x xs q known = ⊎_elim
      (λ (same : eq q x ≡ true). ap (λ b. b || is_member eq xs q) same ∙ sym (list_any_congr laws q x xs same ∙ known))
      (λ (other : eq q x ≡ false). ap (λ b. b || is_member eq xs q) other)
      (cases_Bool (eq q x))

  pub is_member-unique_keys : (xs : List K) (q : K) → is_member eq (unique_keys eq xs) q ≡ is_member eq xs q
  is_member-unique_keys [] q = refl
  is_member-unique_keys (x ∷ xs) q = ⊎_elim
      (λ (known : is_member eq xs x ≡ true).
      ap (λ ks. is_member eq ks q) (cond-true (is_member eq xs x) (unique_keys eq xs) (x ∷ unique_keys eq xs) known)
      ∙ (is_member-unique_keys xs q ∙ sym (known_member x xs q known)))
      (λ (new : is_member eq xs x ≡ false).
      ap (λ ks. is_member eq ks q) (cond-false (is_member eq xs x) (unique_keys eq xs) (x ∷ unique_keys eq xs) new)
      ∙ ap (λ b. eq q x || b) (is_member-unique_keys xs q))
      (cases_Bool (is_member eq xs x))

  pub IsDistinct-unique_keys : (xs : List K) → IsDistinct eq (unique_keys eq xs)
  unfolding IsDistinct
  IsDistinct-unique_keys [] = tt
  IsDistinct-unique_keys (x ∷ xs) = ⊎_elim
      (λ (known : is_member eq xs x ≡ true).
      subst (IsDistinct eq) (sym (cond-true (is_member eq xs x) (unique_keys eq xs) (x ∷ unique_keys eq xs) known)) (IsDistinct-unique_keys xs))
      (λ (new : is_member eq xs x ≡ false).
      subst (IsDistinct eq) (sym (cond-false (is_member eq xs x) (unique_keys eq xs) (x ∷ unique_keys eq xs) new))
      (IsDistinct-cons eq x (unique_keys eq xs) (each-none (eq x) (unique_keys eq xs) (is_member-unique_keys xs x ∙ new)) (IsDistinct-unique_keys xs)))
      (cases_Bool (is_member eq xs x))

  -- a list whose members are among those of another has no more of them
  pub distinct_count-le_from_is_member : (xs ys : List K) → ((q : K) → is_member eq xs q ≡ true → is_member eq ys q ≡ true) → distinct_count eq xs ≤ distinct_count eq ys
  distinct_count-le_from_is_member xs ys within =
      length-le_from_is_member laws (unique_keys eq xs) (unique_keys eq ys) (IsDistinct-unique_keys xs)
      (λ q h. is_member-unique_keys ys q ∙ within q (sym (is_member-unique_keys xs q) ∙ h))

-- ---- names

pub has-is_member : (xs : List (List ℕ)) (q : List ℕ) → has xs q ≡ is_member bytes_eq xs q
has-is_member [] q = refl
has-is_member (x ∷ xs) q = ap (λ b. b || has xs q) (nat_list_eq_equiv.symm x q) ∙ ap (λ b. bytes_eq q x || b) (has-is_member xs q)

pub has-by_cmp : (xs : List (List ℕ)) (q : List ℕ) → list_any (λ x. is_eq (slice_cmp nat_cmp q x)) xs ≡ has xs q
has-by_cmp [] q = refl
has-by_cmp (x ∷ xs) q = ap (λ b. b || list_any (λ y. is_eq (slice_cmp nat_cmp q y)) xs) (is_eq-slice_cmp q x ∙ nat_list_eq_equiv.symm q x) ∙ ap (λ b. bytes_eq x q || b) (has-by_cmp xs q)

eq_by_atom_cmp : eq_by_cmp atom_cmp ≡ bytes_eq
eq_by_atom_cmp = fun_ext (λ x. fun_ext (λ y. is_eq-slice_cmp x y))

pub IsDistinct-sorted_names : (xs : List (List ℕ)) → IsStrictlySortedBy atom_cmp xs → IsDistinct bytes_eq xs
IsDistinct-sorted_names xs s = subst (λ eq. IsDistinct eq xs) eq_by_atom_cmp (IsDistinct-from_sorted atom_cmp xs s)

-- a list with each member once, in order, is as long as another with these members has members
pub length-sorted_names : (xs ys : List (List ℕ)) → IsStrictlySortedBy atom_cmp xs → ((q : List ℕ) → has xs q ≡ has ys q) → length xs ≡ distinct_count bytes_eq ys
length-sorted_names xs ys s same = length-from_keys nat_list_eq_equiv xs ys (IsDistinct-sorted_names xs s) (λ q. sym (has-is_member xs q) ∙ (same q ∙ has-is_member ys q))

pub distinct_count-le_from_has : (xs ys : List (List ℕ)) → ((q : List ℕ) → has xs q ≡ true → has ys q ≡ true) → distinct_count bytes_eq xs ≤ distinct_count bytes_eq ys
distinct_count-le_from_has xs ys within = distinct_count-le_from_is_member nat_list_eq_equiv xs ys (λ q h. sym (has-is_member ys q) ∙ within q (has-is_member xs q ∙ h))

-- ---- adding names

pub has-append : (xs ys : List (List ℕ)) (q : List ℕ) → has (xs ++ ys) q ≡ (has xs q || has ys q)
has-append xs ys q = list_any-append (λ x. bytes_eq x q) xs ys

or_assoc : (a b c : Bool) → ((a || b) || c) ≡ (a || (b || c))
or_assoc true b c = refl
or_assoc false b c = refl

or_false : (a : Bool) → a ≡ (a || false)
or_false true = refl
or_false false = refl

pub Adds-none : (old : List (List ℕ)) → Adds old [] old
Adds-none old q = or_false (has old q)

pub Adds-then : (old mid new xs ys : List (List ℕ)) → Adds old xs mid → Adds mid ys new → Adds old (xs ++ ys) new
Adds-then old mid new xs ys first second q =
    second q ∙ (ap (λ b. b || has ys q) (first q) ∙ (or_assoc (has old q) (has xs q) (has ys q) ∙ ap (λ b. has old q || b) (sym (has-append xs ys q))))

-- what is too many already is too many with more
pub ExceedsTwelve-more : (old xs ys : List (List ℕ)) → ExceedsTwelve old xs → ExceedsTwelve old (xs ++ ys)
ExceedsTwelve-more old xs ys h =
    let le = distinct_count-le_from_has (old ++ xs) (old ++ (xs ++ ys)) (λ q t. has-append old (xs ++ ys) q ∙ ⊎_elim
    (λ (o : has old q ≡ true). or_left (has old q) (has (xs ++ ys) q) o)
    (λ (x : has xs q ≡ true). or_right (has old q) (has (xs ++ ys) q) (has-append xs ys q ∙ or_left (has xs q) (has ys q) x))
    (or_cases (has old q) (has xs q) (sym (has-append old xs q) ∙ t))) in omega arith

-- too many after some names were added
pub ExceedsTwelve-then : (old mid xs ys : List (List ℕ)) → Adds old xs mid → ExceedsTwelve mid ys → ExceedsTwelve old (xs ++ ys)
ExceedsTwelve-then old mid xs ys first h =
    let le = distinct_count-le_from_has (mid ++ ys) (old ++ (xs ++ ys)) (λ q t. has-append old (xs ++ ys) q ∙ (ap (λ b. has old q || b) (has-append xs ys q)
    ∙ (sym (or_assoc (has old q) (has xs q) (has ys q)) ∙ (ap (λ b. b || has ys q) (sym (first q)) ∙ (sym (has-append mid ys q) ∙ t))))) in omega arith

pub Adds-known : (old : List (List ℕ)) (name : List ℕ) → has old name ≡ true → Adds old (name ∷ []) old
Adds-known old name known q = ⊎_elim
    (λ (same : bytes_eq name q ≡ true). let t = subst (λ n. has old n ≡ true) ((bytes_eq-Decides name q).0 same) known in t ∙ sym (or_left (has old q) (bytes_eq name q || false) t))
    (λ (other : bytes_eq name q ≡ false). or_false (has old q) ∙ ap (λ b. has old q || b) (ap (λ b. b || false) (sym other)))
    (cases_Bool (bytes_eq name q))

-- new has what old has, and this name
pub Adds-new : (old new : List (List ℕ)) (name : List ℕ) → ((q : List ℕ) → list_any (λ x. is_eq (slice_cmp nat_cmp q x)) new ≡ cond (is_eq (slice_cmp nat_cmp name q)) true (list_any (λ x. is_eq (slice_cmp nat_cmp q x)) old)) → Adds old (name ∷ []) new
Adds-new old new name h q = sym (has-by_cmp new q) ∙ (h q ∙ (ap (λ b. cond b true (list_any (λ x. is_eq (slice_cmp nat_cmp q x)) old)) (is_eq-slice_cmp name q) ∙ (ap (λ b. cond (bytes_eq name q) true b) (has-by_cmp old q) ∙ chosen (bytes_eq name q) (has old q))))
  where
    chosen : (a b : Bool) → cond a true b ≡ (b || (a || false))
    chosen true true = refl
    chosen true false = refl
    chosen false true = refl
    chosen false false = refl

pub ExceedsTwelve-full : (old : List (List ℕ)) (name : List ℕ) → IsStrictlySortedBy atom_cmp old → length old ≡ 12 → has old name ≡ false → ExceedsTwelve old (name ∷ [])
ExceedsTwelve-full old name s full new =
    let distinct = IsDistinct-push nat_list_eq_equiv old name (IsDistinct-sorted_names old s) (sym (has-is_member old name) ∙ new) in
    let e = distinct_count-from_IsDistinct nat_list_eq_equiv (old ++ name ∷ []) distinct in
    let n = length_push old name in omega arith

-- ---- a loop over a list, whose names are F of it

module _ {X : Type 0} (F : List X → List (List ℕ)) (joins : (xs ys : List X) → F (xs ++ ys) ≡ F xs ++ F ys) where
  pub Adds-more : (old mid new : List (List ℕ)) (xs : List X) (i : ℕ) (x : X) → i < length xs → x ≡ get_or xs i x → Adds old (F (take i xs)) mid → Adds mid (F (x ∷ [])) new → Adds old (F (take (i + 1) xs)) new
  Adds-more old mid new xs i x lt is first second =
      subst (λ names. Adds old names new) (sym (joins (take i xs) (x ∷ [])) ∙ ap F (sym (take_more xs i x lt ∙ ap (λ y. take i xs ++ y ∷ []) (sym is))))
      (Adds-then old mid new (F (take i xs)) (F (x ∷ [])) first second)

  pub ExceedsTwelve-at : (old mid : List (List ℕ)) (xs : List X) (i : ℕ) (x : X) → i < length xs → x ≡ get_or xs i x → Adds old (F (take i xs)) mid → ExceedsTwelve mid (F (x ∷ [])) → ExceedsTwelve old (F xs)
  ExceedsTwelve-at old mid xs i x lt is first many =
      let front = ap F (take_more xs i x lt ∙ ap (λ y. take i xs ++ y ∷ []) (sym is)) ∙ joins (take i xs) (x ∷ []) in
      let whole = sym (joins (take (i + 1) xs) (drop (i + 1) xs)) ∙ ap F (take-append-drop (i + 1) xs) in
      subst (ExceedsTwelve old) whole
      (ExceedsTwelve-more old (F (take (i + 1) xs)) (F (drop (i + 1) xs))
      (subst (ExceedsTwelve old) (sym front) (ExceedsTwelve-then old mid (F (take i xs)) (F (x ∷ [])) first many)))
