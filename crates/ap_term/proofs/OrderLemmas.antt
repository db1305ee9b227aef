-- The order of values is total, and values that it does not tell apart are one value.
use Rattle.std.proofs.Common.{◌≡◌, ℕ, ℤ, List, [], ◌∷◌, refl, sym, ap, ap₂, ◌∙◌, Ordering, Less, Equal, Greater, nat_cmp, int_cmp}
use Rattle.std.specs.Ordering.{ordering_then, ordering_reverse, MatchOrdering}
use Rattle.std.specs.Cmp.{IsTotalOrder}
use Rattle.std.proofs.lemmas.Cmp.{ranked, int_ranked, nat_cmp_total, int_cmp_total, nat_list_cmp_total, tied_itself}
use Rattle.ap_term.specs.Value.{Value, integer, constant, string, compound, Values, none, also, arity}
use Rattle.ap_term.specs.Order.{bytes_cmp, value_cmp, values_cmp}

then_parts : (o p : Ordering) → ordering_then o p ≡ Equal → (o ≡ Equal) × (p ≡ Equal)
then_parts Less p e = cc
then_parts Equal p e = (refl, e)
then_parts Greater p e = cc

then_from : (o p : Ordering) → o ≡ Equal → p ≡ Equal → ordering_then o p ≡ Equal
then_from o p e f = ap (λ q. ordering_then q p) e ∙ f

ranked_same : (P Q R : Type 0) (o : Ordering) → o ≡ Equal → MatchOrdering o P Q R → Q
ranked_same P Q R Less e m = cc
ranked_same P Q R Equal e m = m
ranked_same P Q R Greater e m = cc

nat_same : (a b : ℕ) → nat_cmp a b ≡ Equal → a ≡ b
nat_same a b e = ranked_same _ _ _ (nat_cmp a b) e (ranked a b (nat_cmp a b) refl)

int_same : (a b : ℤ) → int_cmp a b ≡ Equal → a ≡ b
int_same a b e = ranked_same _ _ _ (int_cmp a b) e (int_ranked a b (int_cmp a b) refl)

bytes_same : (s t : List ℕ) → bytes_cmp s t ≡ Equal → s ≡ t
bytes_same [] [] e = refl
bytes_same [] (b ∷ t) e = cc
bytes_same (a ∷ s) [] e = cc
bytes_same (a ∷ s) (b ∷ t) e = let p = then_parts (nat_cmp a b) (bytes_cmp s t) e in ap₂ ◌∷◌ (nat_same a b p.0) (bytes_same s t p.1)

bytes_itself : (s : List ℕ) → bytes_cmp s s ≡ Equal
bytes_itself s = tied_itself nat_list_cmp_total s

-- ---- values that are not told apart
mutual
  pub value_same : (v w : Value) → value_cmp v w ≡ Equal → v ≡ w
  value_same (integer m) (integer n) e = ap integer (int_same m n e)
  value_same (integer m) w e = cc
  value_same (constant a) (constant b) e = ap constant (bytes_same a b e)
  value_same (constant a) w e = cc
  value_same (string s) (string t) e = ap string (bytes_same s t e)
  value_same (string s) w e = cc
  value_same (compound f vs) (compound g ws) e =
      let p = then_parts (nat_cmp (arity vs) (arity ws)) (ordering_then (bytes_cmp f g) (values_cmp vs ws)) e in
      let r = then_parts (bytes_cmp f g) (values_cmp vs ws) p.1 in
      ap₂ compound (bytes_same f g r.0) (values_same vs ws r.1)
  value_same (compound f vs) w e = cc

  pub values_same : (vs ws : Values) → values_cmp vs ws ≡ Equal → vs ≡ ws
  values_same none none e = refl
  values_same none (also w ws) e = cc
  values_same (also v vs) none e = cc
  values_same (also v vs) (also w ws) e = let p = then_parts (value_cmp v w) (values_cmp vs ws) e in ap₂ also (value_same v w p.0) (values_same vs ws p.1)

mutual
  pub value_itself : (v : Value) → value_cmp v v ≡ Equal
  value_itself (integer m) = tied_itself int_cmp_total m
  value_itself (constant a) = bytes_itself a
  value_itself (string s) = bytes_itself s
  value_itself (compound f vs) =
      then_from (nat_cmp (arity vs) (arity vs)) (ordering_then (bytes_cmp f f) (values_cmp vs vs)) (tied_itself nat_cmp_total (arity vs))
      (then_from (bytes_cmp f f) (values_cmp vs vs) (bytes_itself f) (values_itself vs))

  pub values_itself : (vs : Values) → values_cmp vs vs ≡ Equal
  values_itself none = refl
  values_itself (also v vs) = then_from (value_cmp v v) (values_cmp vs vs) (value_itself v) (values_itself vs)

-- ---- both ways round
turned : (o p q r : Ordering) → o ≡ ordering_reverse q → p ≡ ordering_reverse r → ordering_then o p ≡ ordering_reverse (ordering_then q r)
turned o p Less r e f = ap (λ x. ordering_then x p) e
turned o p Equal r e f = ap (λ x. ordering_then x p) e ∙ f
turned o p Greater r e f = ap (λ x. ordering_then x p) e

mutual
  value_turned : (v w : Value) → value_cmp v w ≡ ordering_reverse (value_cmp w v)
  value_turned (integer m) (integer n) = int_cmp_total.antisymm m n
  value_turned (integer m) (constant b) = refl
  value_turned (integer m) (string t) = refl
  value_turned (integer m) (compound g ws) = refl
  value_turned (constant a) (integer n) = refl
  value_turned (constant a) (constant b) = nat_list_cmp_total.antisymm a b
  value_turned (constant a) (string t) = refl
  value_turned (constant a) (compound g ws) = refl
  value_turned (string s) (integer n) = refl
  value_turned (string s) (constant b) = refl
  value_turned (string s) (string t) = nat_list_cmp_total.antisymm s t
  value_turned (string s) (compound g ws) = refl
  value_turned (compound f vs) (integer n) = refl
  value_turned (compound f vs) (constant b) = refl
  value_turned (compound f vs) (string t) = refl
  value_turned (compound f vs) (compound g ws) =
      turned _ _ _ _ (nat_cmp_total.antisymm (arity vs) (arity ws)) (turned _ _ _ _ (nat_list_cmp_total.antisymm f g) (values_turned vs ws))

  values_turned : (vs ws : Values) → values_cmp vs ws ≡ ordering_reverse (values_cmp ws vs)
  values_turned none none = refl
  values_turned none (also w ws) = refl
  values_turned (also v vs) none = refl
  values_turned (also v vs) (also w ws) = turned _ _ _ _ (value_turned v w) (values_turned vs ws)

-- ---- along a chain: r1 and s1 compare the first two of three, r2 and s2 the last two, r3 and s3 the first and the last
then_trans : (r1 r2 r3 s1 s2 s3 : Ordering) → (r1 ≡ Less → r2 ≡ Less → r3 ≡ Less) → (r1 ≡ Equal → r3 ≡ r2) → (r2 ≡ Equal → r3 ≡ r1) → (s1 ≡ Less → s2 ≡ Less → s3 ≡ Less)
    → ordering_then r1 s1 ≡ Less → ordering_then r2 s2 ≡ Less → ordering_then r3 s3 ≡ Less
then_trans Less Less r3 s1 s2 s3 both first second rest p q = ap (λ r. ordering_then r s3) (both refl refl)
then_trans Less Equal r3 s1 s2 s3 both first second rest p q = ap (λ r. ordering_then r s3) (second refl)
then_trans Less Greater r3 s1 s2 s3 both first second rest p q = cc
then_trans Equal Less r3 s1 s2 s3 both first second rest p q = ap (λ r. ordering_then r s3) (first refl)
then_trans Equal Equal r3 s1 s2 s3 both first second rest p q = ap (λ r. ordering_then r s3) (first refl) ∙ rest p q
then_trans Equal Greater r3 s1 s2 s3 both first second rest p q = cc
then_trans Greater r2 r3 s1 s2 s3 both first second rest p q = cc

-- the same where one order compares all three
chained : {K : Type 0} {R : K → K → Ordering} → IsTotalOrder R → ((x y : K) → R x y ≡ Equal → x ≡ y) → (x y z : K) (s1 s2 s3 : Ordering) → (s1 ≡ Less → s2 ≡ Less → s3 ≡ Less)
    → ordering_then (R x y) s1 ≡ Less → ordering_then (R y z) s2 ≡ Less → ordering_then (R x z) s3 ≡ Less
chained {R = R} o same x y z s1 s2 s3 =
    then_trans (R x y) (R y z) (R x z) s1 s2 s3 (o.trans x y z) (λ e. ap (λ k. R k z) (same x y e)) (λ e. ap (R x) (sym (same y z e)))

mutual
  value_trans : (u v w : Value) → value_cmp u v ≡ Less → value_cmp v w ≡ Less → value_cmp u w ≡ Less
  value_trans (integer l) (integer m) (integer n) p q = int_cmp_total.trans l m n p q
  value_trans (integer l) v (integer n) p q = cc
  value_trans (integer l) v w p q = refl
  value_trans (constant a) (constant b) (constant c) p q = nat_list_cmp_total.trans a b c p q
  value_trans (constant a) v (integer n) p q = cc
  value_trans (constant a) v (constant c) p q = cc
  value_trans (constant a) v w p q = refl
  value_trans (string s) (string t) (string x) p q = nat_list_cmp_total.trans s t x p q
  value_trans (string s) v (compound h xs) p q = refl
  value_trans (string s) v w p q = cc
  value_trans (compound f us) (compound g vs) (compound h ws) p q =
      chained nat_cmp_total nat_same (arity us) (arity vs) (arity ws) _ _ _
      (chained nat_list_cmp_total bytes_same f g h _ _ _ (values_trans us vs ws)) p q
  value_trans (compound f us) v w p q = cc

  values_trans : (us vs ws : Values) → values_cmp us vs ≡ Less → values_cmp vs ws ≡ Less → values_cmp us ws ≡ Less
  values_trans none none ws p q = cc
  values_trans none (also v vs) none p q = cc
  values_trans none (also v vs) (also w ws) p q = refl
  values_trans (also u us) none ws p q = cc
  values_trans (also u us) (also v vs) none p q = cc
  values_trans (also u us) (also v vs) (also w ws) p q =
      then_trans (value_cmp u v) (value_cmp v w) (value_cmp u w) (values_cmp us vs) (values_cmp vs ws) (values_cmp us ws)
      (value_trans u v w) (λ e. ap (λ x. value_cmp x w) (value_same u v e)) (λ e. ap (value_cmp u) (sym (value_same v w e))) (values_trans us vs ws) p q

pub value_cmp-total : IsTotalOrder value_cmp
value_cmp-total = record { antisymm = value_turned; trans = value_trans; congr = λ v w x e. ap (λ u. value_cmp u x) (value_same v w e) }
