-- The first bad element, and the first statement that has one, in what is left of a list.
use Rattle.std.proofs.Common.{◌≡◌, ℕ, ◌+◌, ◌<◌, ◌≤◌, Bool, true, false, List, [], ◌∷◌, ◌++◌, All, Option, Some, None, length, get_or, take, drop, refl, sym, ap, ◌∙◌, subst}
use Rattle.std.proofs.lemmas.List.{drop_more, take_more}
use Rattle.std.proofs.lemmas.List.Elements.{All-append, All-cons, All-nil}
use Rattle.ap_syntax.specs.declared.preferences.Element.{Element}
use Rattle.ap_syntax.specs.declared.preferences.Preference.{Preference}
use Rattle.ap_syntax.specs.declared.programs.Statement.{Statement}
use Rattle.ap_syntax.specs.declared.programs.Statement.TheVariants as statement
use Rattle.pref_kinds.specs.declared.built_in.BuiltIn.{BuiltIn}
use Rattle.pref_shapes.specs.Forms.{IsGood}
use Rattle.pref_shapes.specs.Shapes.{HasShape, IsBadIn, IsFirstBad, IsFirstIn}
use Rattle.pref_shapes.specs.Shapes.IsFirstBad.{bad, good}
use Rattle.pref_shapes.specs.Shapes.IsFirstIn.{behind, here}

left_is : {X : Type 0} (xs : List X) (i : ℕ) (x : X) → i < length xs → x ≡ get_or xs i x → drop i xs ≡ x ∷ drop (i + 1) xs
left_is xs i x lt is = drop_more xs i x lt ∙ ap (λ y. y ∷ drop (i + 1) xs) (sym is)

pub not_both : (b : Bool) → b ≡ false → b ≡ true → ⊥
not_both true e f = cc
not_both false e f = cc

pub none_left : {X : Type 0} (o : Option X) → ((x : X) → o ≡ Some x → ⊥) → o ≡ None
none_left None n = refl
none_left (Some x) n = absurd (n x refl)

-- ---- elements

-- what is found among the rest is found among all
abbrev pub FindsAll : Option BuiltIn → List Element → ℕ → Type 0
FindsAll kind es i = (found : Option ℕ) → IsFirstBad kind (i + 1) (drop i es) found → IsFirstBad kind 1 es found

module _ (kind : Option BuiltIn) (es : List Element) (i : ℕ) (e : Element) (lt : i < length es) (is : e ≡ get_or es i e) (all : FindsAll kind es i) where
  pub bad_here : (IsGood kind (i + 1) e → ⊥) → IsFirstBad kind 1 es (Some (i + 1))
  bad_here n = all (Some (i + 1)) (subst (λ xs. IsFirstBad kind (i + 1) xs (Some (i + 1))) (sym (left_is es i e lt is)) (bad n))

  pub good_here : IsGood kind (i + 1) e → FindsAll kind es (i + 1)
  good_here g = λ found h. all found (subst (λ xs. IsFirstBad kind (i + 1) xs found) (sym (left_is es i e lt is)) (good g h))

-- ---- statements

pub no_preference : (s : Statement) → ((p : Preference) → s ≡ statement.Preference p → ⊥) → HasShape s
no_preference (statement.Preference p) n = absurd (n p refl)
no_preference (statement.Rule r) n = tt
no_preference (statement.Const file at name value) n = tt
no_preference (statement.Show what) n = tt
no_preference (statement.Defined name arity) n = tt
no_preference (statement.Part file at kind) n = tt
no_preference (statement.Optimize file at name) n = tt

module _ (ss : List Statement) (i : ℕ) (s : Statement) (lt : i < length ss) (is : s ≡ get_or ss i s) (more : (name : List ℕ) (k : ℕ) → IsFirstIn (drop i ss) name k → IsFirstIn ss name k) where
  pub first_here : (p : Preference) (k : ℕ) → s ≡ statement.Preference p → IsBadIn p (Some k) → IsFirstIn ss p.name k
  first_here p k e h =
      more p.name k (subst (λ xs. IsFirstIn xs p.name k) (sym (left_is ss i s lt is ∙ ap (λ x. x ∷ drop (i + 1) ss) e)) (here h))

  pub good_more : All HasShape (take i ss) → HasShape s → All HasShape (take (i + 1) ss)
  good_more h g =
      let front : take (i + 1) ss ≡ take i ss ++ s ∷ [] = take_more ss i s lt ∙ ap (λ x. take i ss ++ x ∷ []) (sym is) in
      subst (λ xs. All HasShape xs) (sym front) (All-append HasShape (take i ss) (s ∷ []) h (All-cons HasShape s [] g (All-nil HasShape)))

  pub more_behind : HasShape s → (name : List ℕ) (k : ℕ) → IsFirstIn (drop (i + 1) ss) name k → IsFirstIn ss name k
  more_behind g name k h = more name k (subst (λ xs. IsFirstIn xs name k) (sym (left_is ss i s lt is)) (behind g h))
