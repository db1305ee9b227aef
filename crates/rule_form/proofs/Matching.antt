-- Matching is exact: the substitutions that fit afterwards are those that fitted and give the term the value.
use Rattle.std.proofs.Common.{◌≡◌, ℕ, Bool, true, false, List, [], Option, Some, None, IsTrue, refl, sym, subst, ap, ◌∙◌, if◌then◌else◌}
use Rattle.std.specs.Prelude.{◌↔◌}
use Rattle.std.specs.Ordering.{is_eq}
use Rattle.std.specs.Str.{bytes_eq}
use Rattle.std.specs.declared.cmp.Ordering.{Ordering}
use Rattle.std.specs.declared.cmp.Ordering.TheVariants.{Less, Equal, Greater}
use Rattle.std.proofs.lemmas.Bool.{false≢true}
use Rattle.ap_term.specs.Order.{value_cmp}
use Rattle.ap_term.specs.Value.{Value, integer, constant, string, compound, Values, none, also}
use Rattle.ap_term.proofs.OrderLemmas.{value_same, value_itself}
use Rattle.rule_form.specs.Matching.{Binding, State, IsThen, Extends, Fits, FitsIfAny, with_value, if_same, bind_by, match_term, match_terms, and_then}
use Rattle.rule_form.specs.Trees.{Term, Variable, Anything, Fixed, Compound, Operation, Interval, Terms, nothing, more}
use Rattle.rule_form.specs.Values.{Substitution, IsValue, AreValues}
use Rattle.rule_form.proofs.Unfolds.{bytes_from, bytes_same}

pub by_equal : (a b : Value) (o : Ordering) → value_cmp a b ≡ o → IsTrue (is_eq o) → a ≡ b
by_equal a b Equal e h = value_same a b e
by_equal a b Less e h = absurd (false≢true h)
by_equal a b Greater e h = absurd (false≢true h)

-- the same test, for values
if_same_fits : (s : Substitution) (v w : Value) (st : State) → (Fits s st × (v ≡ w)) ↔ FitsIfAny s (if_same v w st)
if_same_fits s v w st = (λ (f, e). to f e (is_eq (value_cmp v w)) refl, from (is_eq (value_cmp v w)) refl)
  where
    to : Fits s st → v ≡ w → (t : Bool) → is_eq (value_cmp v w) ≡ t → FitsIfAny s (if t then Some st else None)
    to f e true h = f
    to f e false h = absurd (false≢true (sym h ∙ subst (λ u. IsTrue (is_eq (value_cmp v u))) e (ap is_eq (value_itself v))))

    from : (t : Bool) → is_eq (value_cmp v w) ≡ t → FitsIfAny s (if t then Some st else None) → Fits s st × (v ≡ w)
    from true h f = (f, by_equal v w (value_cmp v w) refl h)
    from false h f = absurd f

-- one more variable gets its value
extends_to : (s : Substitution) (b : Binding) (name : List ℕ) (v : Value) → Extends s b → v ≡ s name → Extends s (with_value b name v)
extends_to s b name v f e other = by (bytes_eq other name) refl
  where
    by : (t : Bool) → bytes_eq other name ≡ t → IsThen (if t then Some v else b other) (s other)
    by true h = ap s (bytes_from other name h) ∙ sym e
    by false h = f other

extends_from : (s : Substitution) (b : Binding) (name : List ℕ) (v : Value) → b name ≡ None → Extends s (with_value b name v) → Extends s b × (v ≡ s name)
extends_from s b name v free f = (λ other. by other (bytes_eq other name) refl (f other), sym (subst (λ (t : Bool). IsThen (if t then Some v else b name) (s name)) (bytes_same name) (f name)))
  where
    by : (other : List ℕ) (t : Bool) → bytes_eq other name ≡ t → IsThen (if t then Some v else b other) (s other) → IsThen (b other) (s other)
    by other true h g = subst (λ o. IsThen o (s other)) (sym (ap b (bytes_from other name h) ∙ free)) tt
    by other false h g = g

bind_fits : (s : Substitution) (o : Option Value) (name : List ℕ) (v : Value) (st : State) → st.binding name ≡ o → (Fits s st × (v ≡ s name)) ↔ FitsIfAny s (bind_by o name v st)
bind_fits s None name v st free = (
  λ ((f, p), e). (extends_to s st.binding name v f e, p),
  λ (f, p). let (g, e) = extends_from s st.binding name v free f in ((g, p), e),
)
bind_fits s (Some w) name v st bound = (
  λ (f, e). (if_same_fits s v w st).0 (f, e ∙ subst (λ o. IsThen o (s name)) bound (f.0 name)),
  λ h. let (f, e) = (if_same_fits s v w st).1 h in (f, e ∙ sym (subst (λ o. IsThen o (s name)) bound (f.0 name))),
)

abbrev is_compound : Value → Type 0
is_compound (integer n) = ⊥
is_compound (constant a) = ⊥
is_compound (string a) = ⊥
is_compound (compound f vs) = Unit {0}

abbrev name_in : Value → List ℕ
name_in (integer n) = []
name_in (constant a) = []
name_in (string a) = []
name_in (compound f vs) = f

abbrev parts_in : Value → Values
parts_in (integer n) = none
parts_in (constant a) = none
parts_in (string a) = none
parts_in (compound f vs) = vs

abbrev is_none : Values → Type 0
is_none none = Unit {0}
is_none (also v vs) = ⊥

abbrev first_in : Value → Values → Value
first_in d none = d
first_in d (also v vs) = v

abbrev rest_in : Values → Values
rest_in none = none
rest_in (also v vs) = vs

none_fits : (P : Type 0) (s : Substitution) → (P → ⊥) → P ↔ FitsIfAny s None
none_fits P s f = (f, λ h. absurd h)

module _ (s : Substitution) where
  by_name : (P Q : Type 0) (o : Option State) (other name : List ℕ) → (P → other ≡ name) → (other ≡ name → P ↔ FitsIfAny s o) → P ↔ FitsIfAny s (if bytes_eq other name then o else None)
  by_name P Q o other name f g = at (bytes_eq other name) refl
    where
      at : (t : Bool) → bytes_eq other name ≡ t → P ↔ FitsIfAny s (if t then o else None)
      at true h = g (bytes_from other name h)
      at false h = (λ p. absurd (false≢true (sym h ∙ subst (λ n. IsTrue (bytes_eq other n)) (f p) (bytes_same other))), λ q. absurd q)

  then_fits : (o : Option State) (f : State → Option State) (Q : Type 0) → ((u : State) → (Fits s u × Q) ↔ FitsIfAny s (f u)) → (FitsIfAny s o × Q) ↔ FitsIfAny s (and_then o f)
  then_fits None f Q h = (λ (g, q). g, λ g. absurd g)
  then_fits (Some st) f Q h = h st

  mutual
    pub match_fits : (t : Term) (v : Value) (st : State) → (Fits s st × IsValue s t v) ↔ FitsIfAny s (match_term t v st)
    match_fits (Variable name) v st = bind_fits s (st.binding name) name v st refl
    match_fits Anything v st = (λ (f, u). f, λ f. (f, tt))
    match_fits (Fixed w) v st = if_same_fits s v w st
    match_fits (Compound name parts) (compound other vs) st =
        by_name (Fits s st × IsValue s (Compound name parts) (compound other vs)) (Unit {0}) (match_terms parts vs st) other name
        (λ (f, (ws, are, e)). ap name_in e)
        (λ same. let ih = matches_fit parts vs st in (
          λ (f, (ws, are, e)). ih.0 (f, subst (AreValues s parts) (sym (ap parts_in e)) are),
          λ h. let (f, are) = ih.1 h in (f, (vs, are, ap (λ n. compound n vs) same)),
        ))
    match_fits (Compound name parts) (integer n) st = none_fits (Fits s st × IsValue s (Compound name parts) (integer n)) s (λ (f, (ws, are, e)). subst is_compound (sym e) tt)
    match_fits (Compound name parts) (constant a) st = none_fits (Fits s st × IsValue s (Compound name parts) (constant a)) s (λ (f, (ws, are, e)). subst is_compound (sym e) tt)
    match_fits (Compound name parts) (string a) st = none_fits (Fits s st × IsValue s (Compound name parts) (string a)) s (λ (f, (ws, are, e)). subst is_compound (sym e) tt)
    match_fits (Operation op left right) v st = (λ ((f, p), is). (f, (is, p)), λ (f, (is, p)). ((f, p), is))
    match_fits (Interval low high) v st = (λ ((f, p), is). (f, (is, p)), λ (f, (is, p)). ((f, p), is))

    pub matches_fit : (ts : Terms) (vs : Values) (st : State) → (Fits s st × AreValues s ts vs) ↔ FitsIfAny s (match_terms ts vs st)
    matches_fit nothing none st = (λ (f, e). f, λ f. (f, refl))
    matches_fit nothing (also v vs) st = none_fits (Fits s st × AreValues s nothing (also v vs)) s (λ (f, e). subst is_none (sym e) tt)
    matches_fit (more t ts) none st = none_fits (Fits s st × AreValues s (more t ts) none) s (λ (f, (w, ws, is, are, e)). subst is_none e tt)
    matches_fit (more t ts) (also v vs) st = let first = match_fits t v st in let rest = then_fits (match_term t v st) (λ u. match_terms ts vs u) (AreValues s ts vs) (λ u. matches_fit ts vs u) in (
      λ (f, (w, ws, is, are, e)). rest.0 (first.0 (f, subst (IsValue s t) (sym (ap (first_in v) e)) is), subst (AreValues s ts) (sym (ap rest_in e)) are),
      λ h. let (g, are) = rest.1 h in let (f, is) = first.1 g in (f, (v, vs, is, are, refl)),
    )
