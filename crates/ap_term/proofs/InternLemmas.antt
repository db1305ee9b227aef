-- What one insert of a shape makes of a table.
use Rattle.std.proofs.Common.{◌≡◌, ℕ, suc, zero, ◌<◌, ◌≤◌, Bool, true, false, is_eq, List, [], ◌∷◌, ◌++◌, length, get_or, take, map, slice_get, Some, pos, All, Contains, refl, sym, ap, ap₂, subst, ◌∙◌, arith, inl, inr, ◌⊎◌, unwrap_or, Ordering, Less, Equal, Greater, true≢false, if◌then◌else◌}
use Rattle.std.specs.Bool.{Decides}
use Rattle.std.specs.List.{list_any, position_or_len}
use Rattle.std.specs.Map.{keys_of}
use Rattle.std.proofs.lemmas.List.{get_or_append_left, length_push, get_or_push, get_or_default, length-take}
use Rattle.std.proofs.lemmas.List.Elements.{All-from_get_or, All-head, All-tail, All-weaker}
use Rattle.std.proofs.lemmas.List.Folds.{list_any_none, list_any_at}
use Rattle.std.proofs.lemmas.Option.{slice_get_within, slice_get-get_or}
use Rattle.indexmap.specs.IndexMap.{insert_entry}
use Rattle.ap_term.specs.declared.shape.Shape.{Shape}
use Rattle.ap_term.specs.declared.shape.Shape.TheVariants.{Int, Sym, Str, Fun}
use Rattle.ap_term.specs.declared.shape.TermId.{TermId}
use Rattle.ap_term.specs.Value.{Value, integer, arguments_from, list_from, depth}
use Rattle.ap_term.specs.Order.{value_cmp}
use Rattle.ap_term.specs.Built.{Entry, values_from, IsNext, IsBuilt}
use Rattle.ap_term.specs.Table.{IsIdOf, value_at, value_of, IsShapeOver, HasDistinctValues, insert_value, KeepsIds}
use Rattle.ap_term.proofs.OrderLemmas.{value_same, value_itself}
use Rattle.ap_term.proofs.TableLemmas.{values_from-push, IsBuilt-push, distinct, length_is, shape_at, at_place, IsAt}

-- ---- one value, one shape
list_from-arguments_from : (vs : List Value) → list_from (arguments_from vs) ≡ vs
list_from-arguments_from [] = refl
list_from-arguments_from (v ∷ vs) = ap (λ ws. v ∷ ws) (list_from-arguments_from vs)

module _ (table : List Value) (apart : HasDistinctValues table) where
  same_ids : (xs ys : List TermId) → All (IsIdOf table) xs → All (IsIdOf table) ys → map (value_at table) xs ≡ map (value_at table) ys → xs ≡ ys
  same_ids [] [] p q e = refl
  same_ids [] (y ∷ ys) p q e = cc
  same_ids (x ∷ xs) [] p q e = cc
  same_ids (x ∷ xs) (y ∷ ys) p q e =
      ap₂ ◌∷◌ (apart x y (All-head (IsIdOf table) x xs p) (All-head (IsIdOf table) y ys q) cc)
      (same_ids xs ys (All-tail (IsIdOf table) x xs p) (All-tail (IsIdOf table) y ys q) cc)

  pub same_shape : (s t : Shape) → IsShapeOver table s → IsShapeOver table t → value_of table s ≡ value_of table t → s ≡ t
  same_shape (Int m) (Int n) p q e = cc
  same_shape (Int m) (Sym b) p q e = cc
  same_shape (Int m) (Str b) p q e = cc
  same_shape (Int m) (Fun g ys) p q e = cc
  same_shape (Sym a) (Int n) p q e = cc
  same_shape (Sym a) (Sym b) p q e = cc
  same_shape (Sym a) (Str b) p q e = cc
  same_shape (Sym a) (Fun g ys) p q e = cc
  same_shape (Str a) (Int n) p q e = cc
  same_shape (Str a) (Sym b) p q e = cc
  same_shape (Str a) (Str b) p q e = cc
  same_shape (Str a) (Fun g ys) p q e = cc
  same_shape (Fun f xs) (Int n) p q e = cc
  same_shape (Fun f xs) (Sym b) p q e = cc
  same_shape (Fun f xs) (Str b) p q e = cc
  same_shape (Fun f xs) (Fun g ys) p q e =
      let names : f ≡ g = cc in
      let arguments : arguments_from (map (value_at table) xs) ≡ arguments_from (map (value_at table) ys) = cc in
      let values = sym (list_from-arguments_from (map (value_at table) xs)) ∙ ap list_from arguments ∙ list_from-arguments_from (map (value_at table) ys) in
      ap₂ Fun names (same_ids xs ys p q values)

-- ---- the insert of a shape s with depth d, by a test of equality
module _ (eq : Shape → Shape → Bool) (decides : (s t : Shape) → Decides (eq s t) (s ≡ t)) (s : Shape) (d : ℕ) where
  -- the entries have it already, and stay; or it goes last
  Outcome : List Entry → Type 0
  Outcome es =
      ((slice_get es (position_or_len (eq s) (keys_of es)) ≡ Some (s, d)) × (insert_entry eq es s d ≡ es))
      ⊎ ((position_or_len (eq s) (keys_of es) ≡ length es) × (insert_entry eq es s d ≡ es ++ (s, d) ∷ []) × ((k : ℕ) (e : Entry) → slice_get es k ≡ Some e → e.0 ≡ s → ⊥))

  outcome : (es : List Entry) → ((k : ℕ) (e : Entry) → slice_get es k ≡ Some e → e.0 ≡ s → e.1 ≡ d) → Outcome es
  unfolding Outcome
  outcome [] h = inr (refl, refl, λ k e got same. cc)
  outcome (x ∷ es) h = by (eq s x.0) refl (outcome es (λ k e got. h (suc k) e got))
    where
      by : (b : Bool) → eq s x.0 ≡ b → Outcome es → Outcome (x ∷ es)
      by true e rest =
          let same : s ≡ x.0 = (decides s x.0).0 e in
          let depths : x.1 ≡ d = h 0 x refl (sym same) in
          let first : position_or_len (eq s) (keys_of (x ∷ es)) ≡ 0 = rw e refl in
          inl (ap (slice_get (x ∷ es)) first ∙ (λ i. Some (sym same i, depths i)), rw e (λ i. (x.0, sym depths i) ∷ es))
      by false e rest =
          let next : position_or_len (eq s) (keys_of (x ∷ es)) ≡ suc (position_or_len (eq s) (keys_of es)) = rw e (omega arith) in
          elim rest as (λ _. Outcome (x ∷ es)) [
            | inl found ↦ inl (ap (slice_get (x ∷ es)) next ∙ found.0, rw e (ap (λ fs. x ∷ fs) found.1))
            | inr missing ↦ inr (
              next ∙ ap suc missing.0,
              rw e (ap (λ fs. x ∷ fs) missing.1),
              λ k. elim k as (λ k. (f : Entry) → slice_get (x ∷ es) k ≡ Some f → f.0 ≡ s → ⊥) [
                | zero ↦ λ f got same. true≢false (sym ((decides s x.0).1 (sym same ∙ ap (λ o. (unwrap_or o f).0) (sym got))) ∙ e)
                | suc k ↦ λ f got same. missing.2 k f got same
              ],
            )
          ]

-- ---- the value in the table
has : (table : List Value) (k : ℕ) → k < length table → (v : Value) → get_or table k (integer (pos 0)) ≡ v → insert_value table v ≡ table
has table k l v e =
    let there : list_any (λ w. is_eq (value_cmp v w)) table ≡ true =
    list_any_at (λ w. is_eq (value_cmp v w)) table k (integer (pos 0)) l (ap (λ w. is_eq (value_cmp v w)) e ∙ ap is_eq (value_itself v)) in
    ap (λ b. if b then table else table ++ v ∷ []) there

unlike : (v w : Value) → (w ≡ v → ⊥) → is_eq (value_cmp v w) ≡ false
unlike v w h = by (value_cmp v w) refl
  where
    by : (o : Ordering) → value_cmp v w ≡ o → is_eq o ≡ false
    by Less e = refl
    by Equal e = absurd (h (sym (value_same v w e)))
    by Greater e = refl

lacks : (table : List Value) (v : Value) → (Contains table v → ⊥) → insert_value table v ≡ table ++ v ∷ []
lacks table v h =
    let none_equal : All (λ w. is_eq (value_cmp v w) ≡ false) table =
    All-from_get_or (λ w. is_eq (value_cmp v w) ≡ false) table v (λ i l. unlike v (get_or table i v) (λ e. h (i, l, e))) in
    ap (λ b. if b then table else table ++ v ∷ []) (list_any_none (λ w. is_eq (value_cmp v w)) table none_equal)

pub kept : (table : List Value) (v : Value) → KeepsIds table (insert_value table v)
kept table v = by (list_any (λ w. is_eq (value_cmp v w)) table)
  where
    by : (b : Bool) → KeepsIds table (if b then table else table ++ v ∷ [])
    by true = record { longer = omega arith; same = λ id l. refl }
    by false = record { longer = omega (arith, length_push table v); same = λ id l. get_or_append_left table (v ∷ []) (integer (pos 0)) id.0 l }

-- a shape over a table is one over a longer table
over_longer : (short long : List Value) (s : Shape) → length short ≤ length long → IsShapeOver short s → IsShapeOver long s
over_longer short long (Int n) l h = h
over_longer short long (Sym a) l h = h
over_longer short long (Str a) l h = h
over_longer short long (Fun f ids) l h = All-weaker (IsIdOf short) (IsIdOf long) (λ id k. omega arith) ids h

-- what holds once the shape s is in the table, at the place p
pub record IsInterned (table : List Value) (s : Shape) (entries : List Entry) (p : ℕ) : Type 0 where
  pub built : IsBuilt [] entries
  pub within : p < length (values_from [] entries)
  pub value : get_or (values_from [] entries) p (integer (pos 0)) ≡ value_of table s
  pub inserted : values_from [] entries ≡ insert_value table (value_of table s)

module _ (eq : Shape → Shape → Bool) (decides : (s t : Shape) → Decides (eq s t) (s ≡ t)) (es : List Entry) (table : List Value) (is : values_from [] es ≡ table) (built : IsBuilt [] es)
    (s : Shape) (d : ℕ) (over : IsShapeOver table s) (depth_is : d ≡ depth (value_of table s)) (shallow : d ≤ 128) where
  kept_depth : (k : ℕ) (e : Entry) → slice_get es k ≡ Some e → e.0 ≡ s → e.1 ≡ d
  kept_depth k e got same =
      let at : IsAt table k e = at_place es table is built k e got in
      let known = shape_at es table is built (record { 0 = k }) e.0 e.1 got in
      at.next.depth_is ∙ ap depth (sym at.value ∙ sym known.0 ∙ ap (value_of table) same) ∙ sym depth_is

  absent_value : ((k : ℕ) (e : Entry) → slice_get es k ≡ Some e → e.0 ≡ s → ⊥) → Contains table (value_of table s) → ⊥
  absent_value missing (k, l, e) =
      let first : Entry = (Int (pos 0), 0) in
      let got : slice_get es k ≡ Some (get_or es k first) = slice_get-get_or es k first (omega (arith, length_is es table is built)) in
      let known = shape_at es table is built (record { 0 = k }) (get_or es k first).0 (get_or es k first).1 got in
      let apart : HasDistinctValues table = subst HasDistinctValues is (distinct es built) in
      let same_value : value_of table (get_or es k first).0 ≡ value_of table s = known.0 ∙ get_or_default table k (integer (pos 0)) (value_of table s) l ∙ e in
      missing k (get_or es k first) got (same_shape table apart (get_or es k first).0 s (over_longer (take k table) table (get_or es k first).0 (omega (arith, length-take k table)) known.1) over same_value)

  pub interned : (entries : List Entry) (p : ℕ) → entries ≡ insert_entry eq es s d → p ≡ position_or_len (eq s) (keys_of es) → IsInterned table s entries p
  unfolding Outcome
  interned entries p entries_is p_is = elim (outcome eq decides s d es kept_depth) as (λ _. IsInterned table s entries p) [
    | inl found ↦
        let same : values_from [] entries ≡ table = ap (values_from []) (entries_is ∙ found.1) ∙ is in
        let got : slice_get es p ≡ Some (s, d) = ap (slice_get es) p_is ∙ found.0 in
        let in_table : p < length table = omega (arith, length_is es table is built, slice_get_within es p (s, d) got) in
        let value : get_or table p (integer (pos 0)) ≡ value_of table s = sym (shape_at es table is built (record { 0 = p }) s d got).0 in
        record {
          built = subst (IsBuilt []) (sym (entries_is ∙ found.1)) built;
          within = subst (λ t. p < length t) (sym same) in_table;
          value = ap (λ t. get_or t p (integer (pos 0))) same ∙ value;
          inserted = same ∙ sym (has table p in_table (value_of table s) value);
        }
    | inr missing ↦
        let new_value = absent_value missing.2 in
        let grown : values_from [] entries ≡ table ++ value_of table s ∷ [] =
        ap (values_from []) (entries_is ∙ missing.1) ∙ values_from-push [] es (s, d) ∙ ap (λ t. t ++ value_of t s ∷ []) is in
        let place : p ≡ length table = p_is ∙ missing.0 ∙ sym (length_is es table is built) in
        let next : IsNext (values_from [] es) (s, d) = subst (λ t. IsNext t (s, d)) (sym is) (record { over = over; new = new_value; depth_is = depth_is; shallow = shallow }) in
        record {
          built = subst (IsBuilt []) (sym (entries_is ∙ missing.1)) (IsBuilt-push [] es (s, d) built next);
          within = subst (λ t. p < length t) (sym grown) (omega (arith, length_push table (value_of table s)));
          value = ap (λ t. get_or t p (integer (pos 0))) grown ∙ get_or_push table (value_of table s) (integer (pos 0)) p (sym place);
          inserted = grown ∙ sym (lacks table (value_of table s) new_value);
        }
  ]
