-- The clause that is answered is implied, and false or unit.
use Rattle.std.proofs.Common.{◌≡◌, ◌≢◌, ℕ, zero, suc, ◌==◌, ℤ, pos, ◌-ℤ◌, neg_ℤ, ◌≤ℤ◌, ◌<ℤ◌, Bool, true, false, not, cond, ◌⊎◌, inl, inr, ⊎_elim, List, [], ◌∷◌, ◌++◌, get_or, ◌↔◌, refl, sym, ap, subst, ◌∙◌, arith}
use Rattle.std.specs.Prelude.{Option, Some, None, int_lt, unsigned_abs, All, Contains, option_to_list, if◌then◌else◌}
use Rattle.std.specs.Bool.{beq}
use Rattle.std.proofs.lemmas.Int.{ints, clamps}
use Rattle.std.proofs.lemmas.Bool.{eqb-true}
use Rattle.std.proofs.lemmas.List.Elements.{Contains-append_cases, Contains-append_left, Contains-append_right, Contains-get_or}
use Rattle.theory_form.specs.declared.literals.Lit.{Lit}
use Rattle.theory_form.specs.declared.literals.Var.{Var}
use Rattle.theory_form.specs.declared.rows.SumRow.{SumRow}
use Rattle.theory_form.specs.Kinds.{IsRow}
use Rattle.theory_form.specs.Literals.{IsAscending}
use Rattle.theory_form.specs.Truth.{value_of, IsFalseIn, IsFreeIn}
use Rattle.agg_nogoods.specs.Implied.{AllCount, IsConsistent, IsCounting, IsImplied, IsFalseOrUnit, IsOverRow}
use Rattle.agg_nogoods.specs.Known.{known_where_false, known_with}
use Rattle.agg_nogoods.specs.Ends.{greatest_end, greatest_share}
use Rattle.agg_nogoods.specs.Slack.{slack, IsForced, hinders, false_literal, false_literals, literals_of}
use Rattle.agg_nogoods.proofs.SumLemmas.{opposite_terms}
use Rattle.agg_nogoods.proofs.ClauseLemmas.{AllKnownFalse, all_false_extends, known_at, consistent}
use Rattle.agg_nogoods.proofs.EndLemmas.{Each, IsAmong, IsKept, best, best-extends, put, put_own, put_other, put_against, greatest_end-kept}
use Rattle.agg_nogoods.proofs.LookLemmas.{unit_from, false_from}
use Rattle.agg_nogoods.proofs.RuleLemmas.{asked_terms, limit, own_literal, where_implied, slack_is, apart_from, asked_apart, greatest_sum}

pub not-not : (b : Bool) → not (not b) ≡ b
not-not true = refl
not-not false = refl

-- ---- members

module _ {X : Type 0} where
  pub only : (x y : X) → Contains (x ∷ []) y → x ≡ y
  only x y (zero, low, is) = is
  only x y (suc k, low, is) = absurd (omega arith)

  pub the_one : (x : X) → Contains (x ∷ []) x
  the_one x = (0, omega arith, refl)

  pub nothing_in : (x : X) → Contains [] x → ⊥
  nothing_in x (k, low, is) = absurd (omega arith)

pub is_among : (t : ℤ × Var) (ts : List (ℤ × Var)) → Contains ts t → IsAmong t ts
is_among t [] i = nothing_in t i
is_among t (s ∷ ss) (zero, low, is) = inl is
is_among t (s ∷ ss) (suc k, low, is) = inr (is_among t ss (k, omega arith, is))

pub among_opposite : (t : ℤ × Var) (ts : List (ℤ × Var)) → IsAmong t ts → IsAmong (neg_ℤ t.0, t.1) (opposite_terms ts)
among_opposite t [] i = absurd i
among_opposite t (s ∷ ss) (inl is) = inl (ap (λ (q : ℤ × Var). (neg_ℤ q.0, q.1)) is)
among_opposite t (s ∷ ss) (inr i) = inr (among_opposite t ss i)

each_among : (P : ℤ × Var → Type 0) (ts : List (ℤ × Var)) → ((t : ℤ × Var) → IsAmong t ts → P t) → Each P ts
each_among P [] h = tt
each_among P (t ∷ ts) h = (h t (inl refl), each_among P ts (λ s i. h s (inr i)))

-- the weight of a term in what the row asks for
abbrev pub asked_weight : Bool → ℤ → ℤ
asked_weight true w = w
asked_weight false w = neg_ℤ w

kept_asked : (h : Bool) (k l : ℕ → Option Bool) (ts : List (ℤ × Var)) → Each (λ t. IsKept k l (asked_weight h t.0, t.1)) ts → Each (IsKept k l) (asked_terms h ts)
kept_asked true k l [] e = tt
kept_asked true k l (t ∷ ts) e = (e.0, kept_asked true k l ts e.1)
kept_asked false k l [] e = tt
kept_asked false k l (t ∷ ts) e = (e.0, kept_asked false k l ts e.1)

-- a value that does not hinder the sum is what the greatest one takes
unhindered : (h : Bool) (w : ℤ) (b : Bool) → hinders h w b ≡ false → greatest_share (Some b) (asked_weight h w) ≡ greatest_share None (asked_weight h w)
unhindered true w true e = grind (arith, ints, clamps)
unhindered true w false e = grind (arith, ints, clamps)
unhindered false w true e = grind (arith, ints, clamps)
unhindered false w false e = grind (arith, ints, clamps)

-- ---- the false literals over the terms

false_if : (q : Bool) (m l : Lit) → Contains (if q then m ∷ [] else []) l → (q ≡ true) × (m ≡ l)
false_if true m l i = (refl, only m l i)
false_if false m l i = absurd (nothing_in l i)

false_one : (h : Bool) (w : ℤ) (o : Option Bool) (v : Var) (l : Lit) → Contains (false_literal h w o v) l → (v ≡ l.var) × (o ≡ Some (not l.yes)) × (hinders h w (not l.yes) ≡ true)
false_one h w None v l i = absurd (nothing_in l i)
false_one h w (Some b) v l i =
    let (counts, is) = false_if (hinders h w b) (record { var = v; yes = not b }) l i in
    let value : b ≡ not l.yes = sym (not-not b) ∙ ap (λ (m : Lit). not m.yes) is in
    (ap (λ (m : Lit). m.var) is, ap Some value, subst (λ c. hinders h w c ≡ true) value counts)

pub false_known : (h : Bool) (k : ℕ → Option Bool) (ts : List (ℤ × Var)) → AllKnownFalse k (false_literals h k ts)
false_known h k [] l i = absurd (nothing_in l i)
false_known h k (t ∷ ts) l i =
    ⊎_elim (λ here. let (v, o, c) = false_one h t.0 (k t.1.0) t.1 l here in ap (λ (u : Var). k u.0) (sym v) ∙ o) (λ there. false_known h k ts l there)
    (Contains-append_cases (false_literal h t.0 (k t.1.0) t.1) (false_literals h k ts) l i)

-- such a literal is over a term whose weight hinders the sum
false_hinders : (h : Bool) (k : ℕ → Option Bool) (ts : List (ℤ × Var)) (l : Lit) → Contains (false_literals h k ts) l → (w : ℤ) × Contains ts (w, l.var) × (hinders h w (not l.yes) ≡ true)
false_hinders h k [] l i = absurd (nothing_in l i)
false_hinders h k (t ∷ ts) l i =
    ⊎_elim (λ here. let (v, o, c) = false_one h t.0 (k t.1.0) t.1 l here in (t.0, (0, omega arith, ap (λ u. (t.0, u)) v), c))
    (λ there. let (w, among, c) = false_hinders h k ts l there in (w, later w among, c))
    (Contains-append_cases (false_literal h t.0 (k t.1.0) t.1) (false_literals h k ts) l i)
  where
    later : (w : ℤ) → Contains ts (w, l.var) → Contains (t ∷ ts) (w, l.var)
    later w (j, low, is) = (suc j, omega (arith, low), is)

pub false_among : (h : Bool) (k : ℕ → Option Bool) (b : Bool) (t : ℤ × Var) (ts : List (ℤ × Var)) → IsAmong t ts → k t.1.0 ≡ Some b → hinders h t.0 b ≡ true
    → Contains (false_literals h k ts) (record { var = t.1; yes = not b })
false_among h k b t [] i e counts = absurd i
false_among h k b t (s ∷ ss) (inl is) e counts =
    let one : Contains (false_literal h t.0 (Some b) t.1) (record { var = t.1; yes = not b }) =
    subst (λ q. Contains {X = Lit} (if q then record { var = t.1; yes = not b } ∷ [] else []) (record { var = t.1; yes = not b })) (sym counts) (the_one (record { var = t.1; yes = not b })) in
    let here : Contains (false_literal h s.0 (k s.1.0) s.1) (record { var = t.1; yes = not b }) =
    subst (λ (q : ℤ × Var). Contains (false_literal h q.0 (k q.1.0) q.1) (record { var = t.1; yes = not b })) (sym is)
    (subst (λ o. Contains (false_literal h t.0 o t.1) (record { var = t.1; yes = not b })) (sym e) one) in
    Contains-append_left (false_literal h s.0 (k s.1.0) s.1) (false_literals h k ss) (record { var = t.1; yes = not b }) here
false_among h k b t (s ∷ ss) (inr i) e counts =
    Contains-append_right (false_literal h s.0 (k s.1.0) s.1) (false_literals h k ss) (record { var = t.1; yes = not b }) (false_among h k b t ss i e counts)

-- what hinders the sum where it is false counts
counting_sign : (h : Bool) (w : ℤ) (y : Bool) → hinders h w (not y) ≡ true → (w ≢ pos 0) × (y ≡ beq (int_lt (pos 0) w) h)
counting_sign true w true e = (λ z. grind (arith, ints), grind (arith, ints))
counting_sign true w false e = (λ z. grind (arith, ints), grind (arith, ints))
counting_sign false w true e = (λ z. grind (arith, ints), grind (arith, ints))
counting_sign false w false e = (λ z. grind (arith, ints), grind (arith, ints))

-- ---- the clause

-- what is known where the forced literal is false too
abbrev pub with_forced : (ℕ → Option Bool) → Option Lit → ℕ → Option Bool
with_forced k None = k
with_forced k (Some l) = put k l.var.0 (not l.yes)

-- the forced literal is over a variable without a value
abbrev pub IsFreeForced : (ℕ → Option Bool) → Option Lit → Type 0
IsFreeForced k None = Unit {0}
IsFreeForced k (Some l) = k l.var.0 ≡ None

forced_keeps : (k : ℕ → Option Bool) (forced : Option Lit) → IsFreeForced k forced → (v : ℕ) (b : Bool) → k v ≡ Some b → with_forced k forced v ≡ Some b
forced_keeps k None free v b e = e
forced_keeps k (Some l) free v b e = put_other k l.var.0 (not l.yes) v (λ same. let none = ap k same ∙ free in absurd (cc)) ∙ e

module _ (row : SumRow) (a : List (Option Bool)) (h : Bool) (forced : Option Lit) (c : List Lit)
    (same : (l : Lit) → Contains c l ↔ Contains (literals_of (known_with a row.var.0 h) row h forced) l) (free : IsFreeForced (known_with a row.var.0 h) forced) where
  abbrev k : ℕ → Option Bool
  k = known_with a row.var.0 h

  abbrev falses : List Lit
  falses = false_literals h k row.terms

  members : (l : Lit) → Contains c l → Contains falses l ⊎ (own_literal row h ≡ l) ⊎ Contains (option_to_list forced) l
  members l i =
      ⊎_elim (λ front. ⊎_elim (λ x. inl x) (λ x. inr (inl (only (own_literal row h) l x))) (Contains-append_cases falses (own_literal row h ∷ []) l front)) (λ x. inr (inr x))
      (Contains-append_cases (falses ++ own_literal row h ∷ []) (option_to_list forced) l ((same l).0 i))

  has_false : (l : Lit) → Contains falses l → Contains c l
  has_false l i = (same l).1 (Contains-append_left (falses ++ own_literal row h ∷ []) (option_to_list forced) l (Contains-append_left falses (own_literal row h ∷ []) l i))

  pub has_own : Contains c (own_literal row h)
  has_own =
      (same (own_literal row h)).1 (Contains-append_left (falses ++ own_literal row h ∷ []) (option_to_list forced) (own_literal row h)
      (Contains-append_right falses (own_literal row h ∷ []) (own_literal row h) (the_one (own_literal row h))))

  has_forced : (l : Lit) → Contains (option_to_list forced) l → Contains c l
  has_forced l i = (same l).1 (Contains-append_right (falses ++ own_literal row h ∷ []) (option_to_list forced) l i)

  own_known : k row.var.0 ≡ Some h
  own_known = put_own (value_of a) row.var.0 h

  -- each literal is false by what is known and by the forced literal
  all_known : AllKnownFalse (with_forced k forced) c
  all_known l i = by_member (members l i)
    where
      by_forced : (o : Option Lit) → Contains (option_to_list o) l → with_forced k o l.var.0 ≡ Some (not l.yes)
      by_forced None x = absurd (nothing_in l x)
      by_forced (Some m) x = let is = only m l x in subst (λ (q : Lit). put k m.var.0 (not m.yes) q.var.0 ≡ Some (not q.yes)) is (put_own k m.var.0 (not m.yes))

      by_member : Contains falses l ⊎ (own_literal row h ≡ l) ⊎ Contains (option_to_list forced) l → with_forced k forced l.var.0 ≡ Some (not l.yes)
      by_member (inl x) = forced_keeps k forced free l.var.0 (not l.yes) (false_known h k row.terms l x)
      by_member (inr (inl is)) =
          forced_keeps k forced free l.var.0 (not l.yes) (subst (λ (q : Lit). k q.var.0 ≡ Some (not q.yes)) is (own_known ∙ ap Some (sym (not-not h))))
      by_member (inr (inr x)) = by_forced forced x

  -- and what is known of the row's variables is known where the clause is false, or does not hinder the sum
  known_kept : IsConsistent c → (t : ℤ × Var) → IsAmong t row.terms → IsKept (with_forced k forced) (known_where_false c) (asked_weight h t.0, t.1)
  known_kept whole t i b e = by_hindrance (hinders h t.0 b) refl
    where
      at_forced : hinders h t.0 b ≡ true → (l : Lit) → forced ≡ Some l → (q : Bool) → (t.1.0 == l.var.0) ≡ q → cond q (Some (not l.yes)) (k t.1.0) ≡ Some b → Contains c (record { var = t.1; yes = not b })
      at_forced counts l is true eq e' =
          let v = eqb-true t.1.0 l.var.0 eq in
          let y : l.yes ≡ not b = sym (not-not l.yes) ∙ ap not (cc) in
          subst (λ (m : Lit). Contains c m) (λ j. record { var = record { 0 = sym v j }; yes = y j }) (has_forced l (subst (λ o. Contains (option_to_list o) l) (sym is) (the_one l)))
      at_forced counts l is false eq e' = has_false (record { var = t.1; yes = not b }) (false_among h k b t row.terms i e' counts)

      in_clause : hinders h t.0 b ≡ true → (o : Option Lit) → forced ≡ o → with_forced k forced t.1.0 ≡ Some b → Contains c (record { var = t.1; yes = not b })
      in_clause counts None is e' = has_false (record { var = t.1; yes = not b }) (false_among h k b t row.terms i (sym (ap (λ o. with_forced k o t.1.0) is) ∙ e') counts)
      in_clause counts (Some l) is e' = at_forced counts l is (t.1.0 == l.var.0) refl (sym (ap (λ o. with_forced k o t.1.0) is) ∙ e')

      by_hindrance : (q : Bool) → hinders h t.0 b ≡ q
          → (known_where_false c t.1.0 ≡ Some b) ⊎ (greatest_share (Some b) (asked_weight h t.0) ≡ greatest_share None (asked_weight h t.0))
      by_hindrance true counts = inl (known_at c whole (record { var = t.1; yes = not b }) (in_clause counts forced refl e) ∙ ap Some (not-not b))
      by_hindrance false light = inr (unhindered h t.0 b light)

  pub found_implied : IsRow row.terms row.bound → greatest_end (with_forced k forced) (asked_terms h row.terms) <ℤ limit h row.bound → IsImplied row c
  found_implied ok short =
      let ts = asked_terms h row.terms in
      let f = best (with_forced k forced) ts in
      let whole = consistent f c (all_false_extends f (with_forced k forced) c (best-extends (with_forced k forced) ts) all_known) in
      let apart = asked_apart h row.terms (apart_from row.terms ok.apart) in
      let kept = kept_asked h (with_forced k forced) (known_where_false c) row.terms
      (each_among (λ t. IsKept (with_forced k forced) (known_where_false c) (asked_weight h t.0, t.1)) row.terms (known_kept whole)) in
      let le = greatest_end-kept (with_forced k forced) (known_where_false c) ts kept in
      where_implied row h c (has_own, (greatest_end (known_where_false c) ts, greatest_sum c ts apart whole, omega (arith, ints)))

  -- all its literals but the row's own count
  pub found_counts : ((l : Lit) → forced ≡ Some l → IsCounting row h l) → AllCount row c
  found_counts counts = (h, has_own, λ l i. by_member l (members l i))
    where
      by_member : (l : Lit) → Contains falses l ⊎ (own_literal row h ≡ l) ⊎ Contains (option_to_list forced) l → (l ≡ own_literal row h) ⊎ IsCounting row h l
      by_member l (inl x) =
          let (w, among, hinders_it) = false_hinders h k row.terms l x in
          let (nonzero, sign) = counting_sign h w l.yes hinders_it in
          inr (w, among, nonzero, sign)
      by_member l (inr (inl is)) = inl (sym is)
      by_member l (inr (inr x)) = by_forced forced refl x
        where
          by_forced : (o : Option Lit) → forced ≡ o → Contains (option_to_list o) l → (l ≡ own_literal row h) ⊎ IsCounting row h l
          by_forced None is y = absurd (nothing_in l y)
          by_forced (Some m) is y = inr (counts l (is ∙ ap Some (only m l y)))

  -- ---- the clause is false, or unit

  falses_false : (v : Option Bool) → value_of a row.var.0 ≡ v → (v ≡ Some h) ⊎ (v ≡ None) → (l : Lit) → Contains falses l → (own_literal row h ≡ l) ⊎ IsFalseIn a l
  falses_false v is which l i = by_test (l.var.0 == row.var.0) refl (false_known h k row.terms l i)
    where
      by_test : (q : Bool) → (l.var.0 == row.var.0) ≡ q → cond q (Some h) (value_of a l.var.0) ≡ Some (not l.yes) → (own_literal row h ≡ l) ⊎ IsFalseIn a l
      by_test true eq e =
          let u = eqb-true l.var.0 row.var.0 eq in
          let y : not h ≡ l.yes = ap not (cc) ∙ not-not l.yes in
          inl (λ j. record { var = record { 0 = sym u j }; yes = y j })
      by_test false eq e = inr e

  -- the row's variable has this value: all literals are false but for the forced one
  pub found_with : IsAscending c → value_of a row.var.0 ≡ Some h → IsFalseOrUnit a c
  found_with up is = by_forced forced refl
    where
      own_false : IsFalseIn a (own_literal row h)
      own_false = is ∙ ap Some (sym (not-not h))

      unforced : (l : Lit) → (Contains falses l ⊎ (own_literal row h ≡ l)) → IsFalseIn a l
      unforced l (inl x) = ⊎_elim (λ e. subst (IsFalseIn a) e own_false) (λ e. e) (falses_false (Some h) is (inl refl) l x)
      unforced l (inr e) = subst (IsFalseIn a) e own_false

      forced_free : (l : Lit) → forced ≡ Some l → IsFreeIn a l
      forced_free l e = by_test (l.var.0 == row.var.0) (subst (IsFreeForced k) e free)
        where
          by_test : (q : Bool) → cond q (Some h) (value_of a l.var.0) ≡ None → IsFreeIn a l
          by_test true n = absurd (cc)
          by_test false n = n

      by_forced : (o : Option Lit) → forced ≡ o → IsFalseOrUnit a c
      by_forced None e =
          false_from a c (λ l i. ⊎_elim (λ x. unforced l (inl x)) (λ r. ⊎_elim (λ x. unforced l (inr x)) (λ x. absurd (nothing_in l (subst (λ o. Contains (option_to_list o) l) e x))) r) (members l i))
      by_forced (Some m) e =
          unit_from a c m up (has_forced m (subst (λ o. Contains (option_to_list o) m) (sym e) (the_one m))) (forced_free m e)
          (λ l i. ⊎_elim (λ x. inr (unforced l (inl x))) (λ r. ⊎_elim (λ x. inr (unforced l (inr x))) (λ x. inl (sym (only m l (subst (λ o. Contains (option_to_list o) l) e x)))) r) (members l i))

  -- it has none, and no literal is forced: all literals are false but for its own
  pub found_own : IsAscending c → value_of a row.var.0 ≡ None → forced ≡ None → IsFalseOrUnit a c
  found_own up is none =
      unit_from a c (own_literal row h) up has_own is
      (λ l i. ⊎_elim (λ x. ⊎_elim (λ e. inl (sym e)) (λ e. inr e) (falses_false None is (inr refl) l x))
      (λ r. ⊎_elim (λ e. inl (sym e)) (λ x. absurd (nothing_in l (subst (λ o. Contains (option_to_list o) l) none x))) r) (members l i))

-- ---- what the code has found

pub short_known : (k : ℕ → Option Bool) (row : SumRow) (h : Bool) → slack k row h <ℤ pos 0 → greatest_end k (asked_terms h row.terms) <ℤ limit h row.bound
short_known k row h low = let is = slack_is k row h in omega (arith, ints)

sign_true : (b : Bool) → beq b true ≡ b
sign_true true = refl
sign_true false = refl

sign_false : (b : Bool) → beq b false ≡ not b
sign_false true = refl
sign_false false = refl

negative : (w : ℤ) → pos 0 <ℤ pos (unsigned_abs w) → int_lt (pos 0) (neg_ℤ w) ≡ not (int_lt (pos 0) w)
negative w h = grind (arith, ints)

-- where a literal is forced, the sum falls short with that literal false
pub short_forced : (k : ℕ → Option Bool) (row : SumRow) (h : Bool) (l : Lit) → IsRow row.terms row.bound → pos 0 ≤ℤ slack k row h → IsForced k row h (slack k row h) l
    → greatest_end (put k l.var.0 (not l.yes)) (asked_terms h row.terms) <ℤ limit h row.bound
short_forced k row true l ok above f =
    let is = slack_is k row true in
    let sign : l.yes ≡ int_lt (pos 0) f.weight = f.sign ∙ sign_true (int_lt (pos 0) f.weight) in
    let less = put_against k (f.weight, l.var) f.free row.terms (apart_from row.terms ok.apart) (is_among (f.weight, l.var) row.terms f.within) in
    let heavy = f.heavy in
    subst (λ b. greatest_end (put k l.var.0 (not b)) row.terms <ℤ row.bound) (sym sign) (omega (arith, ints))
short_forced k row false l ok above f =
    let is = slack_is k row false in
    let heavy = f.heavy in
    let sign : l.yes ≡ int_lt (pos 0) (neg_ℤ f.weight) = f.sign ∙ sign_false (int_lt (pos 0) f.weight) ∙ sym (negative f.weight (omega (arith, ints))) in
    let less = put_against k (neg_ℤ f.weight, l.var) f.free (opposite_terms row.terms) (asked_apart false row.terms (apart_from row.terms ok.apart))
    (among_opposite (f.weight, l.var) row.terms (is_among (f.weight, l.var) row.terms f.within)) in
    subst (λ b. greatest_end (put k l.var.0 (not b)) (opposite_terms row.terms) <ℤ (pos 1 -ℤ row.bound)) (sym sign) (omega (arith, ints))

module _ (row : SumRow) (a : List (Option Bool)) (h : Bool) (c : List Lit) (ok : IsRow row.terms row.bound) (up : IsAscending c) where
  abbrev known : ℕ → Option Bool
  known = known_with a row.var.0 h

  -- the sum cannot do what is asked
  pub answered : ((l : Lit) → Contains c l ↔ Contains (literals_of known row h None) l) → (value_of a row.var.0 ≡ Some h) ⊎ (value_of a row.var.0 ≡ None) → (n : ℤ) → n ≡ slack known row h → n <ℤ pos 0
      → IsImplied row c × IsFalseOrUnit a c
  answered same value n is low = (
    found_implied row a h None c same tt ok (short_known known row h (subst (λ z. z <ℤ pos 0) is low)),
    ⊎_elim (λ e. found_with row a h None c same tt up e) (λ e. found_own row a h None c same tt up e refl) value,
  )

  pub counted : ((l : Lit) → Contains c l ↔ Contains (literals_of known row h None) l) → AllCount row c
  counted same = found_counts row a h None c same tt (λ l e. absurd (cc))

  pub counted_forced : (l : Lit) → ((m : Lit) → Contains c m ↔ Contains (literals_of known row h (Some l)) m) → (n : ℤ) → pos 0 ≤ℤ n → IsForced known row h n l → AllCount row c
  counted_forced l same n above f = found_counts row a h (Some l) c same f.free (λ m e. subst (IsCounting row h) (some_is e) (f.weight, f.within, (λ z. let heavy = f.heavy in grind (arith, ints)), f.sign))
    where
      some_is : {x y : Lit} → Some x ≡ Some y → x ≡ y
      some_is e = cc

  -- it can, but for one literal
  pub answered_forced : (l : Lit) → ((m : Lit) → Contains c m ↔ Contains (literals_of known row h (Some l)) m) → value_of a row.var.0 ≡ Some h → (n : ℤ) → n ≡ slack known row h → pos 0 ≤ℤ n → IsForced known row h n l
      → IsImplied row c × IsFalseOrUnit a c
  answered_forced l same value n is above f = (
    found_implied row a h (Some l) c same f.free ok (short_forced known row h l ok (subst (λ z. pos 0 ≤ℤ z) is above) (subst (λ z. IsForced known row h z l) is f)),
    found_with row a h (Some l) c same f.free up value,
  )

-- ---- the variables of the clause

pub all_over : (row : SumRow) (c : List Lit) → AllCount row c → All (IsOverRow row) c
all_over row c (h, own, others) = λ k d within. over (get_or c k d) (Contains-get_or c k d within)
  where
    over : (l : Lit) → Contains c l → IsOverRow row l
    over l i = ⊎_elim (λ is. inl (ap (λ (m : Lit). m.var) is)) (λ (w, among, nonzero, sign). inr (among.0, (w, l.var), among.1, among.2, refl)) (others l i)
