-- A plain clause is told by a number with a digit for each variable.
use Rattle.std.proofs.Common.{◌≡◌, ℕ, zero, suc, ◌+◌, ◌*◌, ◌^◌, ◌<◌, ◌≤◌, inl, inr, Bool, true, false, List, [], ◌∷◌, length, map, get_or, eqb, refl, ap, sym, ◌∙◌, subst, arith}
use Rattle.std.specs.List.{All, Contains, IsDistinct, list_any}
use Rattle.std.specs.Ordering.{ordering_reverse}
use Rattle.std.specs.declared.cmp.Ordering.TheVariants.{Less, Greater}
use Rattle.std.proofs.Math.Nat.{pow-succ'}
use Rattle.std.proofs.lemmas.Bool.{cases_eq}
use Rattle.std.proofs.lemmas.Bool.Decides.{Decides-eqb, eqb_tells}
use Rattle.std.proofs.lemmas.List.{get_or-map, length-map}
use Rattle.std.proofs.lemmas.List.Elements.{All-contains}
use Rattle.std.proofs.lemmas.Map.Made.{IsDistinct-from_AllPairs}
use Rattle.std.proofs.lemmas.Map.Steps.{length-le_from_distinct_below}
use Rattle.sets.specs.Lists.{IsNumberOf}
use Rattle.theory_form.specs.declared.literals.Lit.{Lit}
use Rattle.theory_form.specs.Literals.{IsAscending, lit_cmp}
use Rattle.theory_form.specs.Order.{lit_total}
use Rattle.loop_nogoods.proofs.MemberLemmas.{Contains-cons_cases, Contains-head, Contains-tail, nothing_in}
use Rattle.agg_nogoods.specs.Known.{has}
use Rattle.agg_nogoods.proofs.ClauseLemmas.{from_has, has_it}
use Rattle.search_law.specs.Few.{AreDifferent, IsPlainClause}

-- ---- ascending lists with the same members are equal

not_both : (x y : Lit) → lit_cmp x y ≡ Less → lit_cmp y x ≡ Less → ⊥
not_both x y h k =
    let z : Less ≡ Greater = sym h ∙ (lit_total.antisymm x y ∙ ap ordering_reverse k) in
    cc

head_first : (x : Lit) (xs : List Lit) (y : Lit) → IsAscending (x ∷ xs) → Contains xs y → lit_cmp x y ≡ Less
head_first x xs y up h =
    let w = h.1 in
    let here : lit_cmp x (get_or xs h.0 y) ≡ Less = up 0 (suc h.0) y (omega arith) (omega (arith, w)) in
    subst (λ z. lit_cmp x z ≡ Less) h.2 here

tail_up : (x : Lit) (xs : List Lit) → IsAscending (x ∷ xs) → IsAscending xs
tail_up x xs up = λ i j d less within. up (suc i) (suc j) d (omega arith) (omega arith)

heads : (x y : Lit) (xs ys : List Lit) → IsAscending (x ∷ xs) → IsAscending (y ∷ ys) → Contains (y ∷ ys) x → Contains (x ∷ xs) y → x ≡ y
heads x y xs ys u v h k = elim (Contains-cons_cases y ys x h) [
  | inl same ↦ sym same
  | inr in_ys ↦ elim (Contains-cons_cases x xs y k) [
    | inl same ↦ same
    | inr in_xs ↦ absurd (not_both y x (head_first y ys x v in_ys) (head_first x xs y u in_xs))
  ]
]

tails : (x y : Lit) (xs ys : List Lit) → x ≡ y → IsAscending (x ∷ xs) → ((l : Lit) → Contains (x ∷ xs) l → Contains (y ∷ ys) l) →
    (l : Lit) → Contains xs l → Contains ys l
tails x y xs ys same up to l h = elim (Contains-cons_cases y ys l (to l (Contains-tail x xs l h))) [
  | inl is ↦
      let less : lit_cmp l l ≡ Less = subst (λ z. lit_cmp z l ≡ Less) (same ∙ is) (head_first x xs l up h) in
      absurd (not_both l l less less)
  | inr there ↦ there
]

same_members : (xs ys : List Lit) → IsAscending xs → IsAscending ys → ((l : Lit) → Contains xs l → Contains ys l) →
    ((l : Lit) → Contains ys l → Contains xs l) → xs ≡ ys
same_members [] [] u v to back = refl
same_members [] (y ∷ ys) u v to back = absurd (nothing_in y (back y (Contains-head y ys)))
same_members (x ∷ xs) [] u v to back = absurd (nothing_in x (to x (Contains-head x xs)))
same_members (x ∷ xs) (y ∷ ys) u v to back =
    let e : x ≡ y = heads x y xs ys u v (to x (Contains-head x xs)) (back y (Contains-head y ys)) in
    let rest : xs ≡ ys = same_members xs ys (tail_up x xs u) (tail_up y ys v) (tails x y xs ys e u to) (tails y x ys xs (sym e) v back) in
    cc

-- ---- the number of a clause

-- the literal of a variable with this sign
abbrev signed : ℕ → Bool → Lit
signed v b = record { var = record { 0 = v }; yes = b }

-- 1 where the clause has the positive literal of a variable, and 2 where it has the negative one
abbrev digit_from : Bool → Bool → ℕ
digit_from true b = 1
digit_from false true = 2
digit_from false false = 0

abbrev digit : List Lit → ℕ → ℕ
digit c v = digit_from (has c (signed v true)) (has c (signed v false))

-- the digits of the first variables
abbrev number : List Lit → ℕ → ℕ
number c zero = 0
number c (suc v) = 3 * number c v + digit c (suc v)

digit_le : (a b : Bool) → digit_from a b ≤ 2
digit_le true b = omega arith
digit_le false true = omega arith
digit_le false false = omega arith

number_below : (c : List Lit) (n : ℕ) → number c n < 3 ^ n
number_below c zero = omega arith
number_below c (suc n) =
    let below = number_below c n in
    let d = digit_le (has c (signed (suc n) true)) (has c (signed (suc n) false)) in
    let power : 3 ^ suc n ≡ 3 * 3 ^ n = pow-succ' 3 n in
    omega (arith, below, d, power)

digits : (c d : List Lit) (n v : ℕ) → number c n ≡ number d n → 0 < v → v ≤ n → digit c v ≡ digit d v
digits c d zero v e up below = absurd (omega arith)
digits c d (suc n) v e up below =
    let x = digit_le (has c (signed (suc n) true)) (has c (signed (suc n) false)) in
    let y = digit_le (has d (signed (suc n) true)) (has d (signed (suc n) false)) in
    let both : 3 * number c n + digit c (suc n) ≡ 3 * number d n + digit d (suc n) = e in
    let here : digit c (suc n) ≡ digit d (suc n) = omega (arith, x, y, both) in
    let rest : number c n ≡ number d n = omega (arith, x, y, both) in
    elim (cases_eq v (suc n)) [
      | inl same ↦ subst (λ w. digit c w ≡ digit d w) (sym same) here
      | inr other ↦ digits c d n v rest up (omega (arith, below, other))
    ]

-- ---- the number tells the members

has_one : (a b : Bool) → digit_from a b ≡ 1 → a ≡ true
has_one true b h = refl
has_one false true h = absurd (omega arith)
has_one false false h = absurd (omega arith)

has_two : (a b : Bool) → digit_from a b ≡ 2 → b ≡ true
has_two true b h = absurd (omega arith)
has_two false true h = refl
has_two false false h = absurd (omega arith)

not_true : (b : Bool) → (b ≡ true → ⊥) → b ≡ false
not_true true h = absurd (h refl)
not_true false h = refl

same_sign : (c d : List Lit) (v : ℕ) (b : Bool) → (has c (signed v true) ≡ true → has c (signed v false) ≡ true → ⊥) → digit c v ≡ digit d v →
    has c (signed v b) ≡ true → has d (signed v b) ≡ true
same_sign c d v true fit e on =
    has_one (has d (signed v true)) (has d (signed v false)) (sym e ∙ ap (λ a. digit_from a (has c (signed v false))) on)
same_sign c d v false fit e on =
    let off : has c (signed v true) ≡ false = not_true (has c (signed v true)) (λ t. fit t on) in
    has_two (has d (signed v true)) (has d (signed v false))
    (sym e ∙ (ap (λ a. digit_from a (has c (signed v false))) off ∙ ap (digit_from false) on))

members : (n : ℕ) (c d : List Lit) → IsPlainClause n c → number c n ≡ number d n → (l : Lit) → Contains c l → Contains d l
members n c d plain e l h =
    let w = All-contains (λ (m : Lit). IsNumberOf n m.var.0) c l plain.over h in
    from_has d l
    (same_sign c d l.var.0 l.yes
    (λ p q. plain.consistent (signed l.var.0 true) (from_has c (signed l.var.0 true) p) (from_has c (signed l.var.0 false) q))
    (digits c d n l.var.0 e w.0 w.1) (has_it c l h))

one_clause : (n : ℕ) (c d : List Lit) → IsPlainClause n c → IsPlainClause n d → number c n ≡ number d n → c ≡ d
one_clause n c d p q e = same_members c d p.ascending q.ascending (members n c d p e) (members n d c q (sym e))

-- ---- there are few numbers

all_below : (n : ℕ) (cs : List (List Lit)) (q : ℕ) → list_any (eqb q) (map (λ c. number c n) cs) ≡ true → q < 3 ^ n
all_below n [] q h = absurd (let z : false ≡ true = h in cc)
all_below n (c ∷ cs) q h = elim (eqb_tells q (number c n)) [
  | inl t ↦ let b = number_below c n in let e = t.1 in omega (arith, b, e)
  | inr f ↦ all_below n cs q (let e = f.0 in rw e at h)
]

distinct : (n : ℕ) (cs : List (List Lit)) → All (IsPlainClause n) cs → AreDifferent cs → IsDistinct eqb (map (λ c. number c n) cs)
distinct n cs plain different =
    IsDistinct-from_AllPairs Decides-eqb (map (λ c. number c n) cs) (λ i j d less within same.
    let size = length-map cs (λ c. number c n) in
    let in_j : j < length cs = omega (arith, within, size) in
    let in_i : i < length cs = omega (arith, less, in_j) in
    let is_i = get_or-map (λ c. number c n) cs i [] d in_i in
    let is_j = get_or-map (λ c. number c n) cs j [] d in_j in
    different i j [] less in_j
    (one_clause n (get_or cs i []) (get_or cs j []) (plain i [] in_i) (plain j [] in_j) (sym is_i ∙ (same ∙ is_j))))

pub few : (n : ℕ) (cs : List (List Lit)) → All (IsPlainClause n) cs → AreDifferent cs → length cs ≤ 3 ^ n
few n cs plain different =
    let most = length-le_from_distinct_below (map (λ c. number c n) cs) (3 ^ n) (distinct n cs plain different) (all_below n cs) in
    let size = length-map cs (λ c. number c n) in
    omega (arith, most, size)
