-- Terms as they are written: chains of operations, and what is compiled of each form.
use Rattle.std.proofs.Common.{◌≡◌, ◌<◌, ℕ, ℤ, pos, List, [], ◌∷◌, ◌++◌, map, All, refl, sym, subst, ap, ◌∙◌, ⊎_elim, arith}
use Rattle.std.specs.Borrow.{Bor}
use Rattle.std.specs.Prelude.{Result, IfOk}
use Rattle.std.proofs.lemmas.Result.{IfOk-weaker}
use Rattle.std.proofs.lemmas.List.{map-append}
use Rattle.std.proofs.lemmas.List.Elements.{All-cons, All-contains, All-head, All-nil, All-tail}
use Rattle.ap_syntax.specs.declared.terms.ProductOp.{ProductOp}
use Rattle.ap_syntax.specs.declared.terms.SumOp.{SumOp}
use Rattle.ap_syntax.specs.declared.terms.Term.{Term, out-Term, roll-Term, out-roll-Term, roll-out-Term}
use Rattle.ap_syntax.specs.declared.terms.Term.TheVariants as terms
use Rattle.ap_syntax.specs.declared.terms.Term.TheOpen.{Term-F}
use Rattle.ap_term.specs.declared.arithmetic.ArithOp.{ArithOp}
use Rattle.ap_term.specs.declared.arithmetic.ArithOp.TheVariants.{Sub}
use Rattle.ap_term.specs.Table.{KeepsIds}
use Rattle.ap_term.specs.Value.{Value, integer, constant, string}
use Rattle.join_form.specs.declared.pattern.Pattern.{Pattern}
use Rattle.join_form.specs.declared.pattern.Pattern.TheVariants.{Place, Compound}
use Rattle.join_form.specs.declared.step.Step.TheVariants.{Compute, Between}
use Rattle.rule_form.proofs.ReadTerms.{read_int, read_str, read_const, read_var, read_any, read_fun, read_tuple, read_minus, read_sum, read_product, read_range}
use Rattle.rule_form.specs.Readings.{read_term, read_terms, sum_op, product_op}
use Rattle.rule_form.specs.Trees.{Variable, Anything, Fixed, Operation, Interval}
use Rattle.rule_form.specs.Trees as trees
use Rattle.rule_joins.specs.Chains.{first_in, first_of, HasNoOperands, IsPlain, IsChain}
use Rattle.rule_joins.specs.Compiled.{IsKnownAs, IsAtNewPlace, IsApplied}
use Rattle.rule_joins.specs.Drafts.{Placed, Drafted, IsDraft, IsPlacedIn}
use Rattle.rule_joins.specs.Terms.{HasIntegers, HaveIntegers, IsTermPlan, AreTermPlans}
use Rattle.rule_joins.proofs.PlaceLemmas.{with_place}
use Rattle.rule_joins.proofs.TermLemmas.{variable_plan, anything_plan, known_plan, operation_plan, interval_plan, swapped_plan, compound_plan}

-- ---- first operands

out_minus : (part : Term) → out-Term (terms.Minus part) ≡ Term-F.Minus part
out_minus part = ap out-Term (sym (terms.rolls-Minus part)) ∙ out-roll-Term (Term-F.Minus part)

out_sum : (l : Term) (op : SumOp) (r : Term) → out-Term (terms.Sum l op r) ≡ Term-F.Sum l op r
out_sum l op r = ap out-Term (sym (terms.rolls-Sum l op r)) ∙ out-roll-Term (Term-F.Sum l op r)

out_product : (l : Term) (op : ProductOp) (r : Term) → out-Term (terms.Product l op r) ≡ Term-F.Product l op r
out_product l op r = ap out-Term (sym (terms.rolls-Product l op r)) ∙ out-roll-Term (Term-F.Product l op r)

out_range : (l r : Term) → out-Term (terms.Range l r) ≡ Term-F.Range l r
out_range l r = ap out-Term (sym (terms.rolls-Range l r)) ∙ out-roll-Term (Term-F.Range l r)

pub first_of_minus : (part : Term) → first_of (terms.Minus part) ≡ part
first_of_minus part = ap (first_in (terms.Minus part)) (out_minus part)

pub first_of_sum : (l : Term) (op : SumOp) (r : Term) → first_of (terms.Sum l op r) ≡ l
first_of_sum l op r = ap (first_in (terms.Sum l op r)) (out_sum l op r)

pub first_of_product : (l : Term) (op : ProductOp) (r : Term) → first_of (terms.Product l op r) ≡ l
first_of_product l op r = ap (first_in (terms.Product l op r)) (out_product l op r)

pub first_of_range : (l r : Term) → first_of (terms.Range l r) ≡ l
first_of_range l r = ap (first_in (terms.Range l r)) (out_range l r)

-- operations and intervals are not plain
pub minus_has : (t part : Term) → t ≡ terms.Minus part → IsPlain t → ⊥
minus_has t part e h = subst HasNoOperands (ap out-Term e ∙ out_minus part) h

pub sum_has : (t l : Term) (op : SumOp) (r : Term) → t ≡ terms.Sum l op r → IsPlain t → ⊥
sum_has t l op r e h = subst HasNoOperands (ap out-Term e ∙ out_sum l op r) h

pub product_has : (t l : Term) (op : ProductOp) (r : Term) → t ≡ terms.Product l op r → IsPlain t → ⊥
product_has t l op r e h = subst HasNoOperands (ap out-Term e ∙ out_product l op r) h

pub range_has : (t l r : Term) → t ≡ terms.Range l r → IsPlain t → ⊥
range_has t l r e h = subst HasNoOperands (ap out-Term e ∙ out_range l r) h

-- a term that is none of these is plain
module _ (t : Term) (minus : (part : Term) → t ≡ terms.Minus part → ⊥) (sum : (l : Term) (op : SumOp) (r : Term) → t ≡ terms.Sum l op r → ⊥)
    (product : (l : Term) (op : ProductOp) (r : Term) → t ≡ terms.Product l op r → ⊥) (range : (l r : Term) → t ≡ terms.Range l r → ⊥) where
  rolled : (form : Term-F Term) (u : Term) → out-Term t ≡ form → roll-Term form ≡ u → t ≡ u
  rolled form u e r = sym (roll-out-Term t) ∙ (ap roll-Term e ∙ r)

  pub plain_other : IsPlain t
  plain_other = by (out-Term t) refl
    where
      by : (form : Term-F Term) → out-Term t ≡ form → HasNoOperands form
      by (Term-F.Int number) e = tt
      by (Term-F.Str text) e = tt
      by (Term-F.Const name) e = tt
      by (Term-F.Var name) e = tt
      by Term-F.Any e = tt
      by (Term-F.Fun name parts) e = tt
      by (Term-F.Tuple parts) e = tt
      by (Term-F.Minus part) e = minus part (rolled (Term-F.Minus part) (terms.Minus part) e (terms.rolls-Minus part))
      by (Term-F.Sum l op r) e = sum l op r (rolled (Term-F.Sum l op r) (terms.Sum l op r) e (terms.rolls-Sum l op r))
      by (Term-F.Product l op r) e = product l op r (rolled (Term-F.Product l op r) (terms.Product l op r) e (terms.rolls-Product l op r))
      by (Term-F.Range l r) e = range l r (rolled (Term-F.Range l r) (terms.Range l r) e (terms.rolls-Range l r))

plain_first : (t : Term) → IsPlain t → first_of t ≡ t
plain_first t h = by (out-Term t) h
  where
    by : (form : Term-F Term) → HasNoOperands form → first_in t form ≡ t
    by (Term-F.Int number) h = refl
    by (Term-F.Str text) h = refl
    by (Term-F.Const name) h = refl
    by (Term-F.Var name) h = refl
    by Term-F.Any h = refl
    by (Term-F.Fun name parts) h = refl
    by (Term-F.Tuple parts) h = refl
    by (Term-F.Minus part) h = absurd h
    by (Term-F.Sum l op r) h = absurd h
    by (Term-F.Product l op r) h = absurd h
    by (Term-F.Range l r) h = absurd h

-- ---- integers

first_integers : (t : Term) → HasIntegers (read_term t) → HasIntegers (read_term (first_of t))
first_integers t h = by (out-Term t) refl
  where
    as_read : (form : Term-F Term) (u : Term) → out-Term t ≡ form → roll-Term form ≡ u → HasIntegers (read_term u)
    as_read form u e r = subst (λ v. HasIntegers (read_term v)) (sym (roll-out-Term t) ∙ (ap roll-Term e ∙ r)) h

    by : (form : Term-F Term) → out-Term t ≡ form → HasIntegers (read_term (first_in t form))
    by (Term-F.Int number) e = h
    by (Term-F.Str text) e = h
    by (Term-F.Const name) e = h
    by (Term-F.Var name) e = h
    by Term-F.Any e = h
    by (Term-F.Fun name parts) e = h
    by (Term-F.Tuple parts) e = h
    by (Term-F.Minus part) e = (subst HasIntegers (read_minus part) (as_read (Term-F.Minus part) (terms.Minus part) e (terms.rolls-Minus part))).1
    by (Term-F.Sum l op r) e = (subst HasIntegers (read_sum l op r) (as_read (Term-F.Sum l op r) (terms.Sum l op r) e (terms.rolls-Sum l op r))).0
    by (Term-F.Product l op r) e = (subst HasIntegers (read_product l op r) (as_read (Term-F.Product l op r) (terms.Product l op r) e (terms.rolls-Product l op r))).0
    by (Term-F.Range l r) e = (subst HasIntegers (read_range l r) (as_read (Term-F.Range l r) (terms.Range l r) e (terms.rolls-Range l r))).0

pub sum_right : (t l : Term) (op : SumOp) (r : Term) → t ≡ terms.Sum l op r → HasIntegers (read_term t) → HasIntegers (read_term r)
sum_right t l op r e h = (subst HasIntegers (ap read_term e ∙ read_sum l op r) h).1

pub product_right : (t l : Term) (op : ProductOp) (r : Term) → t ≡ terms.Product l op r → HasIntegers (read_term t) → HasIntegers (read_term r)
product_right t l op r e h = (subst HasIntegers (ap read_term e ∙ read_product l op r) h).1

pub range_high : (t l r : Term) → t ≡ terms.Range l r → HasIntegers (read_term t) → HasIntegers (read_term r)
range_high t l r e h = (subst HasIntegers (ap read_term e ∙ read_range l r) h).1

all_integers : (ts : List Term) → HaveIntegers (read_terms ts) → All (λ t. HasIntegers (read_term t)) ts
all_integers [] h = All-nil (λ t. HasIntegers (read_term t))
all_integers (t ∷ ts) h = All-cons (λ u. HasIntegers (read_term u)) t ts h.0 (all_integers ts h.1)

pub fun_parts : (t : Term) (name : List ℕ) (ts : List Term) → t ≡ terms.Fun name ts → HasIntegers (read_term t) → All (λ u. HasIntegers (read_term u)) ts
fun_parts t name ts e h = all_integers ts (subst HasIntegers (ap read_term e ∙ read_fun name ts) h)

pub tuple_parts : (t : Term) (ts : List Term) → t ≡ terms.Tuple ts → HasIntegers (read_term t) → All (λ u. HasIntegers (read_term u)) ts
tuple_parts t ts e h = all_integers ts (subst HasIntegers (ap read_term e ∙ read_tuple ts) h)

-- ---- chains

pub chain_push : (top : Term) (ts : List Term) (b : Term) → IsChain top ts b → IsChain top (ts ++ b ∷ []) (first_of b)
chain_push top [] b c = (c, refl)
chain_push top (t ∷ ts) b c = (c.0, chain_push (first_of t) ts b c.1)

pub chain_pop : (top : Term) (ts : List Term) (t b : Term) → IsChain top (ts ++ t ∷ []) b → IsChain top ts t × (first_of t ≡ b)
chain_pop top [] t b c = (c.0, c.1)
chain_pop top (u ∷ ts) t b c = let r = chain_pop (first_of u) ts t b c.1 in ((c.0, r.0), r.1)

now_more : (found : List (Bor Term)) (first : Bor Term) → map (λ (t : Bor Term). t.now) (found ++ first ∷ []) ≡ map (λ (t : Bor Term). t.now) found ++ first.now ∷ []
now_more found first = map-append (λ (t : Bor Term). t.now) found (first ∷ [])

pub chain_more : (top : Term) (found pushed : List (Bor Term)) (first : Bor Term) (operand : Term) → pushed ≡ found ++ first ∷ [] → operand ≡ first_of first.now → IsChain top (map (λ (t : Bor Term). t.now) found) first.now → IsChain top (map (λ (t : Bor Term). t.now) pushed) operand
chain_more top found pushed first operand e f c = subst (IsChain top (map (λ (t : Bor Term). t.now) pushed)) (sym f)
    (subst (λ ts. IsChain top ts (first_of first.now)) (sym (ap (λ (ts : List (Bor Term)). map (λ (t : Bor Term). t.now) ts) e ∙ now_more found first)) (chain_push top (map (λ (t : Bor Term). t.now) found) first.now c))

pub chain_less : (top : Term) (found popped : List (Bor Term)) (last : Bor Term) (bottom : Term) → found ≡ popped ++ last ∷ [] → IsChain top (map (λ (t : Bor Term). t.now) found) bottom → IsChain top (map (λ (t : Bor Term). t.now) popped) last.now × (first_of last.now ≡ bottom)
chain_less top found popped last bottom e c = chain_pop top (map (λ (t : Bor Term). t.now) popped) last.now bottom (subst (λ ts. IsChain top ts bottom) (ap (λ (ts : List (Bor Term)). map (λ (t : Bor Term). t.now) ts) e ∙ now_more popped last) c)

pub all_now : (found : List (Bor Term)) → All (λ t. HasIntegers (read_term t)) (map (λ (t : Bor Term). t.now) found) → All (λ (t : Bor Term). HasIntegers (read_term t.now)) found
all_now [] h = All-nil (λ (t : Bor Term). HasIntegers (read_term t.now))
all_now (t ∷ ts) h = All-cons (λ (u : Bor Term). HasIntegers (read_term u.now)) t ts (All-head (λ u. HasIntegers (read_term u)) t.now (map (λ (u : Bor Term). u.now) ts) h) (all_now ts (All-tail (λ u. HasIntegers (read_term u)) t.now (map (λ (u : Bor Term). u.now) ts) h))

pub chain_integers : (top : Term) (ts : List Term) (b : Term) → IsChain top ts b → HasIntegers (read_term top) → All (λ t. HasIntegers (read_term t)) ts × HasIntegers (read_term b)
chain_integers top [] b c h = (All-nil (λ t. HasIntegers (read_term t)), subst (λ t. HasIntegers (read_term t)) c h)
chain_integers top (t ∷ ts) b c h =
    let here : HasIntegers (read_term t) = subst (λ u. HasIntegers (read_term u)) c.0 h in
    let r = chain_integers (first_of t) ts b c.1 (first_integers t here) in
    (All-cons (λ u. HasIntegers (read_term u)) t ts here r.0, r.1)

-- ---- what is compiled of each form

moved : (t u : trees.Term) (p q : Pattern) (t0 : List Value) (d0 : Drafted) (t1 : List Value) (d1 d2 : Drafted) → u ≡ t → q ≡ p → d2 ≡ d1 → IsTermPlan t p t0 d0 t1 d1 → IsTermPlan u q t0 d0 t1 d2
moved t u p q t0 d0 t1 d1 d2 e f g plan =
    subst (λ v. IsTermPlan v q t0 d0 t1 d2) (sym e) (subst (λ r. IsTermPlan t r t0 d0 t1 d2) (sym f) (subst (λ d. IsTermPlan t p t0 d0 t1 d) (sym g) plan))

module _ (t : Term) (old new : List Value) (from : Drafted) (is : IsDraft old from) where
  known_at : (v : Value) (p : Pattern) → read_term t ≡ Fixed v → KeepsIds old new → IsKnownAs new v p → IsTermPlan (read_term t) p old from new from
  known_at v p e keeps k = let (id, f, within, g) = k in moved (Fixed v) (read_term t) _ p old from new from from e f refl (known_plan old new keeps from is id within v g)

  pub int_at : (n : ℤ) (p : Pattern) → t ≡ terms.Int n → KeepsIds old new → IsKnownAs new (integer n) p → IsTermPlan (read_term t) p old from new from
  int_at n p e keeps k = known_at (integer n) p (ap read_term e ∙ read_int n) keeps k

  pub str_at : (text : List ℕ) (p : Pattern) → t ≡ terms.Str text → KeepsIds old new → IsKnownAs new (string text) p → IsTermPlan (read_term t) p old from new from
  str_at text p e keeps k = known_at (string text) p (ap read_term e ∙ read_str text) keeps k

  pub const_at : (name : List ℕ) (p : Pattern) → t ≡ terms.Const name → KeepsIds old new → IsKnownAs new (constant name) p → IsTermPlan (read_term t) p old from new from
  const_at name p e keeps k = known_at (constant name) p (ap read_term e ∙ read_const name) keeps k

placed_within : (old new : Drafted) (name : List ℕ) (place : ℕ) → All (λ (v : Placed). v.1 < old.places) old.variables → IsPlacedIn old name place new → place < new.places
placed_within old new name place within p = ⊎_elim
    (λ h. subst (λ (d : Drafted). place < d.places) (sym h.1) (All-contains (λ (v : Placed). v.1 < old.places) old.variables (name, place) within h.0))
    (λ h. subst (λ (d : Drafted). place < d.places) (sym h.2) (omega (arith, h.1)))
    p

pub var_at : (t : Term) (table : List Value) (from : Drafted) → IsDraft table from → (name : List ℕ) (place : ℕ) (to : Drafted) → t ≡ terms.Var name → IsPlacedIn from name place to → IsTermPlan (read_term t) (Place place) table from table to
var_at t table from is name place to e p = moved (Variable name) (read_term t) (Place place) (Place place) table from table to to (ap read_term e ∙ read_var name) refl refl
    (variable_plan table from is name place to p (placed_within from to name place is.within p))

pub any_at : (t : Term) (table : List Value) (from : Drafted) → IsDraft table from → (place : ℕ) (to : Drafted) → t ≡ terms.Any → place ≡ from.places → to ≡ with_place from → IsTermPlan (read_term t) (Place place) table from table to
any_at t table from is place to e f g = moved Anything (read_term t) (Place from.places) (Place place) table from table (with_place from) to (ap read_term e ∙ read_any) (ap Place f) g (anything_plan table from is)

pub fun_at : (t : Term) (name : List ℕ) (ts : List Term) (ps : List Pattern) (old : List Value) (from : Drafted) (new : List Value) (to : Drafted) → t ≡ terms.Fun name ts → AreTermPlans (map read_term ts) ps old from new to → IsTermPlan (read_term t) (Compound name ps) old from new to
fun_at t name ts ps old from new to e plans = moved (trees.Compound name (read_terms ts)) (read_term t) (Compound name ps) (Compound name ps) old from new to to (ap read_term e ∙ read_fun name ts) refl refl
    (compound_plan name (map read_term ts) ps old from new to plans)

pub tuple_at : (t : Term) (ts : List Term) (ps : List Pattern) (old : List Value) (from : Drafted) (new : List Value) (to : Drafted) → t ≡ terms.Tuple ts → AreTermPlans (map read_term ts) ps old from new to → IsTermPlan (read_term t) (Compound [] ps) old from new to
tuple_at t ts ps old from new to e plans = moved (trees.Compound [] (read_terms ts)) (read_term t) (Compound [] ps) (Compound [] ps) old from new to to (ap read_term e ∙ read_tuple ts) refl refl
    (compound_plan [] (map read_term ts) ps old from new to plans)

-- ---- operations

module _ (t : Term) (p q result : Pattern) (old : List Value) (from : Drafted) (new : List Value) (mid to : Drafted) where
  -- what is given of the first operand
  given : (first : Term) (table : List Value) (draft : Drafted) → first_of t ≡ first → IsTermPlan (read_term (first_of t)) p table draft old from → IsTermPlan (read_term first) p table draft old from
  given first table draft e plan = subst (λ u. IsTermPlan (read_term u) p table draft old from) e plan

  pub sum_at : (l : Term) (op : SumOp) (r : Term) → t ≡ terms.Sum l op r → IsTermPlan (read_term r) q old from new mid → IsAtNewPlace mid to (Compute (sum_op op) p q mid.places) result → IsApplied t p result old from new to
  sum_at l op r e right at table draft first = moved (Operation (sum_op op) (read_term l) (read_term r)) (read_term t) (Place mid.places) result table draft new _ to (ap read_term e ∙ read_sum l op r) at.0 at.1
      (operation_plan (read_term l) (read_term r) p q table draft old from new mid (given l table draft (ap first_of e ∙ first_of_sum l op r) first) right (sum_op op))

  pub product_at : (l : Term) (op : ProductOp) (r : Term) → t ≡ terms.Product l op r → IsTermPlan (read_term r) q old from new mid → IsAtNewPlace mid to (Compute (product_op op) p q mid.places) result → IsApplied t p result old from new to
  product_at l op r e right at table draft first = moved (Operation (product_op op) (read_term l) (read_term r)) (read_term t) (Place mid.places) result table draft new _ to (ap read_term e ∙ read_product l op r) at.0 at.1
      (operation_plan (read_term l) (read_term r) p q table draft old from new mid (given l table draft (ap first_of e ∙ first_of_product l op r) first) right (product_op op))

  pub range_at : (l r : Term) → t ≡ terms.Range l r → IsTermPlan (read_term r) q old from new mid → IsAtNewPlace mid to (Between p q mid.places) result → IsApplied t p result old from new to
  range_at l r e right at table draft first = moved (Interval (read_term l) (read_term r)) (read_term t) (Place mid.places) result table draft new _ to (ap read_term e ∙ read_range l r) at.0 at.1
      (interval_plan (read_term l) (read_term r) p q table draft old from new mid (given l table draft (ap first_of e ∙ first_of_range l r) first) right)

  pub minus_at : (part : Term) → t ≡ terms.Minus part → IsDraft old from → KeepsIds old new → IsKnownAs new (integer (pos 0)) q → IsAtNewPlace from to (Compute Sub q p from.places) result → IsApplied t p result old from new to
  minus_at part e is keeps k at table draft first =
      let (id, f, within, g) = k in
      let zero : trees.Term = Fixed (integer (pos 0)) in
      let known : IsTermPlan zero q old from new from = moved zero zero _ q old from new from from refl f refl (known_plan old new keeps from is id within (integer (pos 0)) g) in
      moved (Operation Sub zero (read_term part)) (read_term t) (Place from.places) result table draft new _ to (ap read_term e ∙ read_minus part) at.0 at.1
      (swapped_plan (read_term part) zero p q table draft old from new from (given part table draft (ap first_of e ∙ first_of_minus part) first) known Sub refl)

pub plain_at : (t : Term) (p : Pattern) (table : List Value) (from : Drafted) → IsPlain t → IsApplied t p p table from table from
plain_at t p table from h old draft first = subst (λ u. IsTermPlan (read_term u) p old draft table from) (plain_first t h) first

-- ---- what a call answers, seen as what is asked of it

pub sum_result : {E : Type 0} (r : Result Pattern E) (t : Term) (p q : Pattern) (old : List Value) (from : Drafted) (new : List Value) (mid to : Drafted) (l : Term) (op : SumOp) (right u : Term) (by : ArithOp)
    → t ≡ terms.Sum l op right → u ≡ right → by ≡ sum_op op → IsTermPlan (read_term u) q old from new mid → IfOk r (IsAtNewPlace mid to (Compute by p q mid.places)) → IfOk r (λ result. IsApplied t p result old from new to)
sum_result r t p q old from new mid to l op right u by e f g plan h = IfOk-weaker r (IsAtNewPlace mid to (Compute by p q mid.places)) (λ result. IsApplied t p result old from new to)
    (λ result at. sum_at t p q result old from new mid to l op right e (subst (λ v. IsTermPlan (read_term v) q old from new mid) f plan) (subst (λ o. IsAtNewPlace mid to (Compute o p q mid.places) result) g at)) h

pub product_result : {E : Type 0} (r : Result Pattern E) (t : Term) (p q : Pattern) (old : List Value) (from : Drafted) (new : List Value) (mid to : Drafted) (l : Term) (op : ProductOp) (right u : Term) (by : ArithOp)
    → t ≡ terms.Product l op right → u ≡ right → by ≡ product_op op → IsTermPlan (read_term u) q old from new mid → IfOk r (IsAtNewPlace mid to (Compute by p q mid.places)) → IfOk r (λ result. IsApplied t p result old from new to)
product_result r t p q old from new mid to l op right u by e f g plan h = IfOk-weaker r (IsAtNewPlace mid to (Compute by p q mid.places)) (λ result. IsApplied t p result old from new to)
    (λ result at. product_at t p q result old from new mid to l op right e (subst (λ v. IsTermPlan (read_term v) q old from new mid) f plan) (subst (λ o. IsAtNewPlace mid to (Compute o p q mid.places) result) g at)) h

pub range_result : {E : Type 0} (r : Result Pattern E) (t : Term) (p q : Pattern) (old : List Value) (from : Drafted) (new : List Value) (mid to : Drafted) (l right u : Term)
    → t ≡ terms.Range l right → u ≡ right → IsTermPlan (read_term u) q old from new mid → IfOk r (IsAtNewPlace mid to (Between p q mid.places)) → IfOk r (λ result. IsApplied t p result old from new to)
range_result r t p q old from new mid to l right u e f plan h = IfOk-weaker r (IsAtNewPlace mid to (Between p q mid.places)) (λ result. IsApplied t p result old from new to)
    (λ result at. range_at t p q result old from new mid to l right e (subst (λ v. IsTermPlan (read_term v) q old from new mid) f plan) at) h

pub minus_result : {E : Type 0} (r : Result Pattern E) (t : Term) (p q : Pattern) (old : List Value) (from : Drafted) (new : List Value) (to : Drafted) (part : Term)
    → t ≡ terms.Minus part → IsDraft old from → KeepsIds old new → IsKnownAs new (integer (pos 0)) q → IfOk r (IsAtNewPlace from to (Compute Sub q p from.places)) → IfOk r (λ result. IsApplied t p result old from new to)
minus_result r t p q old from new to part e is keeps k h = IfOk-weaker r (IsAtNewPlace from to (Compute Sub q p from.places)) (λ result. IsApplied t p result old from new to)
    (λ result at. minus_at t p q result old from new from to part e is keeps k at) h

pub int_result : {E : Type 0} (r : Result Pattern E) (t : Term) (old new : List Value) (from : Drafted) (n : ℤ) → IsDraft old from → t ≡ terms.Int n → KeepsIds old new → IfOk r (IsKnownAs new (integer n)) → IfOk r (λ p. IsTermPlan (read_term t) p old from new from)
int_result r t old new from n is e keeps h = IfOk-weaker r (IsKnownAs new (integer n)) (λ p. IsTermPlan (read_term t) p old from new from) (λ p k. int_at t old new from is n p e keeps k) h

pub str_result : {E : Type 0} (r : Result Pattern E) (t : Term) (old new : List Value) (from : Drafted) (text given : List ℕ) → IsDraft old from → t ≡ terms.Str text → given ≡ text → KeepsIds old new → IfOk r (IsKnownAs new (string given)) → IfOk r (λ p. IsTermPlan (read_term t) p old from new from)
str_result r t old new from text given is e f keeps h = IfOk-weaker r (IsKnownAs new (string given)) (λ p. IsTermPlan (read_term t) p old from new from) (λ p k. str_at t old new from is text p e keeps (subst (λ w. IsKnownAs new (string w) p) f k)) h

pub const_result : {E : Type 0} (r : Result Pattern E) (t : Term) (old new : List Value) (from : Drafted) (name given : List ℕ) → IsDraft old from → t ≡ terms.Const name → given ≡ name → KeepsIds old new → IfOk r (IsKnownAs new (constant given)) → IfOk r (λ p. IsTermPlan (read_term t) p old from new from)
const_result r t old new from name given is e f keeps h = IfOk-weaker r (IsKnownAs new (constant given)) (λ p. IsTermPlan (read_term t) p old from new from) (λ p k. const_at t old new from is name p e keeps (subst (λ w. IsKnownAs new (constant w) p) f k)) h

-- a compound with a name that was copied, of parts that were borrowed
pub fun_with : (t : Term) (name given : List ℕ) (ts us : List Term) (ps : List Pattern) (old : List Value) (from : Drafted) (new : List Value) (to : Drafted) → t ≡ terms.Fun name ts → given ≡ name → us ≡ ts → AreTermPlans (map read_term us) ps old from new to → IsTermPlan (read_term t) (Compound given ps) old from new to
fun_with t name given ts us ps old from new to e f g plans = subst (λ n. IsTermPlan (read_term t) (Compound n ps) old from new to) (sym f) (fun_at t name ts ps old from new to e (subst (λ vs. AreTermPlans (map read_term vs) ps old from new to) g plans))

pub tuple_with : (t : Term) (given : List ℕ) (ts us : List Term) (ps : List Pattern) (old : List Value) (from : Drafted) (new : List Value) (to : Drafted) → t ≡ terms.Tuple ts → given ≡ [] → us ≡ ts → AreTermPlans (map read_term us) ps old from new to → IsTermPlan (read_term t) (Compound given ps) old from new to
tuple_with t given ts us ps old from new to e f g plans = subst (λ n. IsTermPlan (read_term t) (Compound n ps) old from new to) (sym f) (tuple_at t ts ps old from new to e (subst (λ vs. AreTermPlans (map read_term vs) ps old from new to) g plans))

pub variable_integers : (name : List ℕ) → HasIntegers (read_term (terms.Var name))
variable_integers name = subst HasIntegers (sym (read_var name)) tt
