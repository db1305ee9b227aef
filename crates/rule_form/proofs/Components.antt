-- Each rule of a component is joined once.
use Rattle.std.proofs.Common.{◌≡◌, ℕ, zero, suc, ◌<◌, List, [], All, Contains, refl, ⊎_elim, inl, inr, arith}
use Rattle.std.specs.Prelude.{◌⊎◌, ◌↔◌}
use Rattle.std.proofs.lemmas.List.Elements.{All-contains}
use Rattle.ap_term.specs.Value.{Value}
use Rattle.rule_form.specs.Components.{AreAtomsBelow, IsComponentJoined}
use Rattle.rule_form.specs.Possible.{Setting, level, MakesPossible, MakesCertain, IsPossible, IsCertain}
use Rattle.rule_form.specs.Trees.{Rule}
use Rattle.rule_form.proofs.Levels.{may_rule, must_rule, possible_are, certain_are}

module _ (st : Setting) (n : ℕ) (rows sure : List Value) (built : AreAtomsBelow st n rows sure) where
  -- below component n the rows are the two sets
  same_below : (a : Value) → level st a ≡ n → (b : Value) → level st b < level st a → (Contains rows b ↔ IsPossible st b) × (Contains sure b ↔ IsCertain st b)
  same_below a e b lt = let below : level st b < n = omega (arith, lt, e) in (
    (λ m. All-contains (IsPossible st) rows b built.possible m, built.all_possible b below),
    (λ m. All-contains (IsCertain st) sure b built.certain m, built.all_certain b below),
  )

  same_back : (a : Value) → level st a ≡ n → (b : Value) → level st b < level st a → (IsPossible st b ↔ Contains rows b) × (IsCertain st b ↔ Contains sure b)
  same_back a e b lt = let s = same_below a e b lt in ((s.0.1, s.0.0), (s.1.1, s.1.0))

  -- an atom of component n that a rule makes possible by the rows is possible: a count of such atoms past a limit shows its cause
  pub by_rows_possible : (rule : Rule) (a : Value) → Contains st.rules rule → level st a ≡ n → MakesPossible st (Contains rows) (Contains sure) a rule → IsPossible st a
  by_rows_possible rule a among e h = (possible_are st a).1 (inr (inr (rule, among, may_rule st (Contains rows) (Contains sure) (IsPossible st) (IsCertain st) a (same_below a e) rule h)))

  pub by_rows_certain : (rule : Rule) (a : Value) → Contains st.rules rule → level st a ≡ n → MakesCertain st (Contains rows) (Contains sure) a rule → IsCertain st a
  by_rows_certain rule a among e h = (certain_are st a).1 (inr (rule, among, must_rule st (Contains rows) (Contains sure) (IsPossible st) (IsCertain st) a (same_below a e) rule h))

  less_or_same : (k m : ℕ) → k < suc m → (k < m) ⊎ (k ≡ m)
  less_or_same zero zero lt = inr refl
  less_or_same zero (suc m) lt = inl (omega arith)
  less_or_same (suc k) zero lt = let none : ⊥ = omega (arith, lt) in absurd none
  less_or_same (suc k) (suc m) lt = let low : k < suc m = omega (arith, lt) in ⊎_elim (λ l. let r : suc k < suc m = omega (arith, l) in inl r) (λ e. let r : suc k ≡ suc m = omega (arith, e) in inr r) (less_or_same k m low)

  -- once each rule was joined with the rows, the component is done
  pub component_done : (new_rows new_sure : List Value) → All (IsPossible st) new_rows → All (IsCertain st) new_sure → IsComponentJoined st n rows sure new_rows new_sure → AreAtomsBelow st (suc n) new_rows new_sure
  component_done new_rows new_sure possible certain joined = record {
    possible = possible;
    certain = certain;
    all_possible = λ a lt p. ⊎_elim
        (λ below. joined.kept a (built.all_possible a below p))
        (λ e. ⊎_elim (λ g. joined.handed a e (inl g)) (⊎_elim (λ i. joined.handed a e (inr i))
        (λ (rule, among, h). joined.made rule a among e (may_rule st (IsPossible st) (IsCertain st) (Contains rows) (Contains sure) a (same_back a e) rule h))) ((possible_are st a).0 p))
        (less_or_same (level st a) n lt);
    all_certain = λ a lt p. ⊎_elim
        (λ below. joined.kept_sure a (built.all_certain a below p))
        (λ e. ⊎_elim (λ g. joined.handed_sure a e g)
        (λ (rule, among, h). joined.made_sure rule a among e (must_rule st (IsPossible st) (IsCertain st) (Contains rows) (Contains sure) a (same_back a e) rule h)) ((certain_are st a).0 p))
        (less_or_same (level st a) n lt);
  }

-- nothing is built before the first component
pub none_built : (st : Setting) → AreAtomsBelow st 0 [] []
none_built st = record {
  possible = λ k d lt. let none : ⊥ = omega (arith, lt) in absurd none;
  certain = λ k d lt. let none : ⊥ = omega (arith, lt) in absurd none;
  all_possible = λ a lt p. let none : ⊥ = omega (arith, lt) in absurd none;
  all_certain = λ a lt p. let none : ⊥ = omega (arith, lt) in absurd none;
}
