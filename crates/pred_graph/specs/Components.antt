-- Components of predicates, and definite predicates.
use Rattle.std.specs.Prelude.{◌≡◌, ℕ, ◌<◌, Bool, true, false, List, [], ◌∷◌, All, Contains, IsTrue, ◌↔◌, codes}
use Rattle.std.specs.List.{list_any}
use Rattle.std.specs.Str.{bytes_eq}
use Rattle.ap_syntax.specs.declared.rules.Rule.{Rule}
use Rattle.pred_graph.specs.declared.pred.Pred.{Pred}
use Rattle.pred_graph.specs.Predicates.{Depends, Reaches, IsMentioned, choice_preds}

-- two predicates are in one component where each reaches the other; each predicate is in its own
abbrev pub AreMutual : List Rule → Pred → Pred → Type 0
AreMutual rules p q = Reaches rules p q × Reaches rules q p

-- q is lower than p: p depends on it, at once or through others, from another component
abbrev pub IsLower : List Rule → Pred → Pred → Type 0
IsLower rules q p = Reaches rules p q × (Reaches rules q p → ⊥)

-- ---- definite predicates

-- the predicates of a type's program that stand for what another program or a search decides
abbrev pub open_names : List (List ℕ)
open_names = codes "holds" ∷ codes "holds'" ∷ codes "better_in" ∷ codes "bettereq_in" ∷ codes "eq_in" ∷ codes "worse_in" ∷ codes "worseeq_in" ∷ []

abbrev pub is_open_name : List ℕ → Bool
is_open_name name = list_any (bytes_eq name) open_names

abbrev pub IsOpen : Bool → Pred → Type 0
IsOpen true p = ⊥
IsOpen false p = IsTrue (is_open_name p.name)

-- no choice has it in the head, its component has no dependency inside it, and no other program or search decides it
pub record IsDecided (rules : List Rule) (base : Bool) (p : Pred) : Type 0 where
  pub no_choice : All (λ (rule : Rule). Contains (choice_preds rule.head) p → ⊥) rules
  pub no_loop : (x y : Pred) → AreMutual rules p x → AreMutual rules p y → Depends rules x y → ⊥
  pub not_open : IsOpen base p → ⊥

-- this holds of it and of all that it depends on, at once or through others
abbrev pub IsDefinite : List Rule → Bool → Pred → Type 0
IsDefinite rules base p = (q : Pred) → Reaches rules p q → IsDecided rules base q

-- the test tells the definite predicates
abbrev pub TellsDefinite : List Rule → Bool → (Pred → Bool) → Type 0
TellsDefinite rules base definite = (p : Pred) → IsTrue (definite p) ↔ IsDefinite rules base p

-- ---- numbers of components

-- the numbers order the components of the predicates that the rules mention; any other predicate has 0
pub record IsOrderOf (rules : List Rule) (number : Pred → ℕ) : Type 0 where
  pub same : (p q : Pred) → IsMentioned rules p → IsMentioned rules q → (number p ≡ number q) ↔ AreMutual rules p q
  pub lower : (p q : Pred) → IsLower rules q p → number q < number p
  pub mentioned : (p : Pred) → IsMentioned rules p → 0 < number p
  pub others : (p : Pred) → (IsMentioned rules p → ⊥) → number p ≡ 0
