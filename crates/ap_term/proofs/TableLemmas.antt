-- What the entries of a table say of its values.
use Rattle.std.proofs.Common.{◌≡◌, ℕ, suc, zero, ◌+◌, ◌<◌, ◌≤◌, List, [], ◌∷◌, ◌++◌, length, get_or, take, drop, map, slice_get, option_map, Some, pos, All, Contains, refl, sym, ap, ap₂, subst, ◌∙◌, arith, append_assoc, zero-add, ⊎_elim}
use Rattle.std.proofs.lemmas.List.{append-nil, get_or_append_left, get_or_at, take_at, length_push, get_or-take, length-take-le, take-append-drop}
use Rattle.std.proofs.lemmas.List.Elements.{All-head, All-tail, Contains-get_or}
use Rattle.std.proofs.lemmas.Bool.{cases_order}
use Rattle.std.proofs.lemmas.Option.{slice_get_within, slice_get-map, slice_get-get_or, get_or_from_slice_get}
use Rattle.ap_term.specs.declared.shape.Shape.{Shape}
use Rattle.ap_term.specs.declared.shape.Shape.TheVariants.{Int, Sym, Str, Fun}
use Rattle.ap_term.specs.declared.shape.TermId.{TermId}
use Rattle.ap_term.specs.Value.{Value, integer, compound, arguments_from, depth}
use Rattle.ap_term.specs.Built.{Entry, values_from, IsNext, IsBuilt}
use Rattle.ap_term.specs.Table.{IsIdOf, value_at, value_of, IsShapeOver, HasDistinctValues}

-- what one more entry adds
pub values_from-push : (table : List Value) (es : List Entry) (e : Entry) → values_from table (es ++ e ∷ []) ≡ values_from table es ++ value_of (values_from table es) e.0 ∷ []
values_from-push table [] e = refl
values_from-push table (x ∷ es) e = values_from-push (table ++ value_of table x.0 ∷ []) es e

pub IsBuilt-push : (table : List Value) (es : List Entry) (e : Entry) → IsBuilt table es → IsNext (values_from table es) e → IsBuilt table (es ++ e ∷ [])
IsBuilt-push table [] e h n = (n, tt)
IsBuilt-push table (x ∷ es) e h n = (h.0, IsBuilt-push (table ++ value_of table x.0 ∷ []) es e h.1 n)

pub length-values_from : (table : List Value) (es : List Entry) → length (values_from table es) ≡ length table + length es
length-values_from table [] = omega arith
length-values_from table (e ∷ es) =
    let shorter = length-values_from (table ++ value_of table e.0 ∷ []) es in
    omega (arith, shorter, length_push table (value_of table e.0))

-- the values that were there stay
pub values_from-extends : (table : List Value) (es : List Entry) → (rest : List Value) × (values_from table es ≡ table ++ rest)
values_from-extends table [] = ([], sym (append-nil table))
values_from-extends table (e ∷ es) =
    let (rest, is) = values_from-extends (table ++ value_of table e.0 ∷ []) es in
    (value_of table e.0 ∷ rest, is ∙ append_assoc table (value_of table e.0 ∷ []) rest)

-- a value stays when the table grows
value_at-append : (table more : List Value) (ids : List TermId) → All (IsIdOf table) ids → map (value_at (table ++ more)) ids ≡ map (value_at table) ids
value_at-append table more [] h = refl
value_at-append table more (id ∷ ids) h =
    ap₂ ◌∷◌ (get_or_append_left table more (integer (pos 0)) id.0 (All-head (IsIdOf table) id ids h)) (value_at-append table more ids (All-tail (IsIdOf table) id ids h))

pub value_of-append : (table more : List Value) (s : Shape) → IsShapeOver table s → value_of (table ++ more) s ≡ value_of table s
value_of-append table more (Int n) h = refl
value_of-append table more (Sym a) h = refl
value_of-append table more (Str a) h = refl
value_of-append table more (Fun f ids) h = ap (λ vs. compound f (arguments_from vs)) (value_at-append table more ids h)

-- what is known of the entry at a place: it is next after the values before it, and its value is the one at its place
pub record IsAt (table : List Value) (k : ℕ) (e : Entry) : Type 0 where
  pub next : IsNext (take k table) e
  pub value : get_or table k (integer (pos 0)) ≡ value_of (take k table) e.0

here : (table rest : List Value) (e : Entry) (whole : List Value) → whole ≡ (table ++ value_of table e.0 ∷ []) ++ rest → IsNext table e → IsAt whole (length table) e
here table rest e whole is n =
    let split : whole ≡ table ++ value_of table e.0 ∷ rest = is ∙ append_assoc table (value_of table e.0 ∷ []) rest in
    let front : take (length table) whole ≡ table = ap (take (length table)) split ∙ take_at table (value_of table e.0 ∷ rest) (length table) refl in
    record {
      next = subst (λ vs. IsNext vs e) (sym front) n;
      value = ap (λ vs. get_or vs (length table) (integer (pos 0))) split ∙ get_or_at table (value_of table e.0) rest (integer (pos 0)) (length table) refl ∙ ap (λ vs. value_of vs e.0) (sym front);
    }

pub entry_at : (table : List Value) (es : List Entry) (k : ℕ) (d : Entry) → IsBuilt table es → k < length es → IsAt (values_from table es) (length table + k) (get_or es k d)
entry_at table [] k d h l = absurd (omega arith)
entry_at table (e ∷ es) zero d h l =
    let (rest, is) = values_from-extends (table ++ value_of table e.0 ∷ []) es in
    let same : length table + 0 ≡ length table = omega arith in
    subst (λ n. IsAt (values_from table (e ∷ es)) n e) (sym same) (here table rest e (values_from table (e ∷ es)) is h.0)
entry_at table (e ∷ es) (suc k) d h l =
    let grown = table ++ value_of table e.0 ∷ [] in
    let same : length grown + k ≡ length table + suc k = omega (arith, length_push table (value_of table e.0)) in
    subst (λ n. IsAt (values_from table (e ∷ es)) n (get_or es k d)) same (entry_at grown es k d h.1 (omega arith))

-- a value stands at one place alone
new_here : (table : List Value) (k : ℕ) (e : Entry) → IsAt table k e → (j : ℕ) → j < k → k < length table → get_or table j (integer (pos 0)) ≡ get_or table k (integer (pos 0)) → ⊥
new_here table k e at j l in_table same =
    let j_in : j < length (take k table) = omega (arith, length-take-le k table (omega arith)) in
    let found : get_or (take k table) j (integer (pos 0)) ≡ value_of (take k table) e.0 = get_or-take k table j (integer (pos 0)) l ∙ same ∙ at.value in
    at.next.new (subst (Contains (take k table)) found (Contains-get_or (take k table) j (integer (pos 0)) j_in))

pub distinct : (es : List Entry) → IsBuilt [] es → HasDistinctValues (values_from [] es)
distinct es h a b in_a in_b same = ⊎_elim (λ e i. record { 0 = e i }) (⊎_elim (λ l. absurd (apart a b in_b same l)) (λ l. absurd (apart b a in_a (sym same) l))) (cases_order a.0 b.0)
  where
    apart : (x y : TermId) → y.0 < length (values_from [] es) → value_at (values_from [] es) x ≡ value_at (values_from [] es) y → x.0 < y.0 → ⊥
    apart x y in_y e l =
        let first : Entry = (Int (pos 0), 0) in
        let at : IsAt (values_from [] es) y.0 (get_or es y.0 first) = subst (λ n. IsAt (values_from [] es) n (get_or es y.0 first)) (zero-add y.0) (entry_at [] es y.0 first h (omega (arith, length-values_from [] es))) in
        new_here (values_from [] es) y.0 (get_or es y.0 first) at x.0 l in_y e

-- ---- a table and its entries
module _ (es : List Entry) (table : List Value) (is : values_from [] es ≡ table) (built : IsBuilt [] es) where
  pub length_is : length table ≡ length es
  length_is = omega (arith, ap length is, length-values_from [] es)

  pub at_place : (k : ℕ) (e : Entry) → slice_get es k ≡ Some e → IsAt table k e
  at_place k e got =
      let in_es : k < length es = slice_get_within es k e got in
      let at : IsAt (values_from [] es) k (get_or es k e) = subst (λ n. IsAt (values_from [] es) n (get_or es k e)) (zero-add k) (entry_at [] es k e built in_es) in
      subst (λ t. IsAt t k e) is (subst (IsAt (values_from [] es) k) (get_or_from_slice_get es k e e got) at)

  -- the depth that is kept beside a value is its own
  pub depth_at : (id : TermId) (v : ℕ) → IsIdOf table id → slice_get (map (λ e. e.1) es) id.0 ≡ Some v → (v ≡ depth (value_at table id)) × (v ≤ 128)
  depth_at id v in_table got =
      let first : Entry = (Int (pos 0), 0) in
      let there : slice_get es id.0 ≡ Some (get_or es id.0 first) = slice_get-get_or es id.0 first (omega (arith, length_is)) in
      let at : IsAt table id.0 (get_or es id.0 first) = at_place id.0 (get_or es id.0 first) there in
      let kept : Some v ≡ Some (get_or es id.0 first).1 = sym got ∙ slice_get-map (λ e. e.1) es id.0 ∙ ap (option_map (λ e. e.1)) there in
      let v_is : v ≡ (get_or es id.0 first).1 = cc in
      (v_is ∙ at.next.depth_is ∙ ap depth (sym at.value), subst (λ n. n ≤ 128) (sym v_is) at.next.shallow)

  -- the shape that is kept for a value is its own, over the values before it
  pub shape_at : (id : TermId) (s : Shape) (d : ℕ) → slice_get es id.0 ≡ Some (s, d) → (value_of table s ≡ value_at table id) × IsShapeOver (take id.0 table) s
  shape_at id s d got =
      let at : IsAt table id.0 (s, d) = at_place id.0 (s, d) got in
      let split : take id.0 table ++ drop id.0 table ≡ table = take-append-drop id.0 table in
      (ap (λ t. value_of t s) (sym split) ∙ value_of-append (take id.0 table) (drop id.0 table) s at.next.over ∙ sym at.value, at.next.over)
