-- A clause is settled, false or unit; and a clause whose literals are false but for one without a value is unit.
use Rattle.std.proofs.Common.{◌≡◌, ◌≢◌, ℕ, zero, suc, ◌+◌, ◌<◌, ◌≤◌, Bool, true, false, not, ◌⊎◌, inl, inr, List, length, get_or, refl, sym, ap, subst, ◌∙◌, arith}
use Rattle.std.specs.Prelude.{Option, Some, None, Contains}
use Rattle.std.specs.declared.cmp.Ordering.TheVariants.{Less, Equal}
use Rattle.std.proofs.lemmas.Bool.{cases_lt}
use Rattle.std.proofs.lemmas.Cmp.{tied_itself}
use Rattle.std.proofs.lemmas.List.{get_or_default}
use Rattle.std.proofs.lemmas.List.Elements.{Contains-get_or}
use Rattle.theory_form.specs.declared.literals.Lit.{Lit}
use Rattle.theory_form.specs.Literals.{IsAscending, lit_cmp}
use Rattle.theory_form.specs.Order.{lit_total}
use Rattle.theory_form.specs.Truth.{value_of, IsFalseIn, IsFreeIn, IsFalseClause, IsUnitAt, IsSettled}
use Rattle.theory_form.proofs.LookLemmas.{Seen, Seen-false, Seen-free, FalseAt-read, TrueAt-read, FreeAt-read, unit_from_Seen, false_from_Seen}
use Rattle.agg_nogoods.specs.Implied.{IsFalseOrUnit}

nobody : Lit
nobody = record { var = record { 0 = 0 }; yes = false }

-- what stands below a place: something that settles the clause, or false literals but for one without a value at most
seen : (a : List (Option Bool)) (c : List Lit) (i : ℕ) → i ≤ length c → IsSettled a c ⊎ ((o : Option ℕ) × Seen a c i o)
seen a c zero h = inr (None, λ k low. absurd (omega arith))
seen a c (suc i) h = by_case (seen a c i (omega arith))
  where
    more : i + 1 ≡ suc i
    more = omega arith

    by_value : (o : Option ℕ) → Seen a c i o → (v : Option Bool) → value_of a (get_or c i nobody).var.0 ≡ v → IsSettled a c ⊎ ((p : Option ℕ) × Seen a c (suc i) p)
    by_value None s None e = inr (Some i, subst (λ n. Seen a c n (Some i)) more (Seen-free a c i s (FreeAt-read a c i nobody (omega arith) e)))
    by_value (Some f) s None e = inl (inr (f, i, record { before = s.0; first = s.1; second = FreeAt-read a c i nobody (omega arith) e }))
    by_value o s (Some b) e = by_sign b (get_or c i nobody).yes refl refl
      where
        by_sign : (x y : Bool) → b ≡ x → (get_or c i nobody).yes ≡ y → IsSettled a c ⊎ ((p : Option ℕ) × Seen a c (suc i) p)
        by_sign true true p q = inl (inl (i, TrueAt-read a c i nobody (omega arith) (e ∙ ap Some (p ∙ sym q))))
        by_sign false false p q = inl (inl (i, TrueAt-read a c i nobody (omega arith) (e ∙ ap Some (p ∙ sym q))))
        by_sign true false p q = inr (o, subst (λ n. Seen a c n o) more (Seen-false a c i o s (FalseAt-read a c i nobody (omega arith) (e ∙ ap Some (p ∙ ap not (sym q))))))
        by_sign false true p q = inr (o, subst (λ n. Seen a c n o) more (Seen-false a c i o s (FalseAt-read a c i nobody (omega arith) (e ∙ ap Some (p ∙ ap not (sym q))))))

    by_case : IsSettled a c ⊎ ((o : Option ℕ) × Seen a c i o) → IsSettled a c ⊎ ((o : Option ℕ) × Seen a c (suc i) o)
    by_case (inl settled) = inl settled
    by_case (inr (o, s)) = by_value o s (value_of a (get_or c i nobody).var.0) refl

-- a clause that is neither false nor unit is settled
pub settled_unless : (a : List (Option Bool)) (c : List Lit) → (IsFalseOrUnit a c → ⊥) → IsSettled a c
settled_unless a c h = by_case (seen a c (length c) (omega arith))
  where
    by_seen : (o : Option ℕ) → Seen a c (length c) o → IsFalseOrUnit a c
    by_seen None s = inl (λ k d low. false_from_Seen a c (length c) (omega arith) s k d low)
    by_seen (Some f) s = inr (f, unit_from_Seen a c (length c) f (omega arith) s)

    by_case : IsSettled a c ⊎ ((o : Option ℕ) × Seen a c (length c) o) → IsSettled a c
    by_case (inl settled) = settled
    by_case (inr (o, s)) = absurd (h (by_seen o s))

-- ---- unit clauses

-- in an ascending clause no literal stands twice
once : (c : List Lit) → IsAscending c → (i j : ℕ) (d : Lit) → i < length c → j < length c → i ≢ j → get_or c i d ≢ get_or c j d
once c up i j d in_i in_j other same = elim (cases_lt i j) [
  | inl below ↦ clash i j (up i j d below in_j) same
  | inr above ↦ clash j i (up j i d (omega arith) in_i) (sym same)
]
  where
    clash : (m n : ℕ) → lit_cmp (get_or c m d) (get_or c n d) ≡ Less → get_or c m d ≡ get_or c n d → ⊥
    clash m n less is = let tie : lit_cmp (get_or c m d) (get_or c n d) ≡ Equal = ap (lit_cmp (get_or c m d)) (sym is) ∙ tied_itself lit_total (get_or c m d) in cc

pub unit_from : (a : List (Option Bool)) (c : List Lit) (l : Lit) → IsAscending c → Contains c l → IsFreeIn a l → ((m : Lit) → Contains c m → (m ≡ l) ⊎ IsFalseIn a m) → IsFalseOrUnit a c
unit_from a c l up (i, low, is) free others = inr (
  i,
  record {
    free = FreeAt-read a c i l low (subst (IsFreeIn a) (sym is) free);
    rest = λ k within other. FalseAt-read a c k l within (elim (others (get_or c k l) (Contains-get_or c k l within)) [
      | inl same ↦ absurd (once c up k i l within low other (same ∙ sym is))
      | inr false_there ↦ false_there
    ]);
  },
)

pub false_from : (a : List (Option Bool)) (c : List Lit) → ((m : Lit) → Contains c m → IsFalseIn a m) → IsFalseOrUnit a c
false_from a c h = inl (λ k d low. h (get_or c k d) (Contains-get_or c k d low))

-- ---- what a false or unit clause says of its literals

pub false_says : (a : List (Option Bool)) (c : List Lit) → IsFalseClause a c → (m : Lit) → Contains c m → IsFalseIn a m
false_says a c h m (k, low, is) = subst (IsFalseIn a) is (h k m low)

pub unit_says : (a : List (Option Bool)) (c : List Lit) (i : ℕ) → IsUnitAt a c i → (l : Lit) × Contains c l × IsFreeIn a l × ((m : Lit) → Contains c m → (m ≡ l) ⊎ IsFalseIn a m)
unit_says a c i h = (get_or c i nobody, Contains-get_or c i nobody h.free.within, h.free.holds nobody, λ m (k, low, is). by_place m k low is (cases_lt k i))
  where
    at : (m : Lit) (k : ℕ) → k < length c → get_or c k m ≡ m → k ≢ i → (m ≡ get_or c i nobody) ⊎ IsFalseIn a m
    at m k low is other = inr (subst (IsFalseIn a) is ((h.rest k low other).holds m))

    by_place : (m : Lit) (k : ℕ) → k < length c → get_or c k m ≡ m → (k < i) ⊎ (i ≤ k) → (m ≡ get_or c i nobody) ⊎ IsFalseIn a m
    by_place m k low is (inl below) = at m k low is (λ e. absurd (omega arith))
    by_place m k low is (inr above) = elim (cases_lt i k) [
      | inl over ↦ at m k low is (λ e. absurd (omega arith))
      | inr under ↦
          let same : k ≡ i = omega arith in
          inl (sym is ∙ get_or_default c k m nobody low ∙ ap (λ n. get_or c n nobody) same)
    ]
