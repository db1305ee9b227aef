-- Rules without recursion have at most one answer set, and each set that has just what is supported is one.
use Rattle.std.proofs.Common.{◌≡◌, ℕ, ◌<◌, Bool, true, false, ◌&&◌, List, [], ◌∷◌, flat_map, Contains, get_or, IsTrue, refl, sym, subst, ap, ◌∙◌, ⊎_elim, arith}
use Rattle.std.specs.Prelude.{◌⊎◌, nat_lt}
use Rattle.std.specs.List.{list_all}
use Rattle.std.proofs.lemmas.Bool.{false≢true}
use Rattle.std.proofs.lemmas.Bool.Decides.{nat_tests}
use Rattle.std.proofs.lemmas.List.Elements.{Contains-get_or}
use Rattle.ap_term.specs.Value.{Value, Values, none, also}
use Rattle.rule_form.specs.AnswerSets.{HeadHas, Derives, Permits, HeadPermits, IsAnswerSet}
use Rattle.rule_form.specs.Globals.{global_variables}
use Rattle.rule_form.specs.Layers.{literal_names, condition_names, item_names, head_rises, is_layered}
use Rattle.rule_form.specs.Trees.{Atom, Literal, Pos, Not, Compare, Element, Item, Plain, Each, Agg, Head, One, Choice, Nothing, Rule}
use Rattle.rule_form.specs.Truth.{AtomSet}
use Rattle.rule_form.specs.Values.{Substitution, IsAtom, atom_value}
use Rattle.rule_form.specs.Unfolded.{atom_name}
use Rattle.rule_form.proofs.Lists.{to_left, to_right, to_flat}
use Rattle.rule_form.proofs.Moves.{LiteralIn, ConditionIn, ItemIn, BodyIn, body_moves, derives_grows}
use Rattle.rule_form.proofs.Rules.{same, same_decides, same_itself}
use Rattle.rule_form.proofs.Stable as stable
use Rattle.rule_form.proofs.Stable.{Supported}
use Rattle.rule_form.proofs.Unfolds.{here, first_or_rest, nothing_in}

name_of_atom : (s : Substitution) (atom : Atom) (a : Value) → IsAtom s atom a → atom_name a ≡ atom.name
name_of_atom s atom a (vs, are, e) = ap atom_name e ∙ by vs
  where
    by : (vs : Values) → atom_name (atom_value atom.name vs) ≡ atom.name
    by none = refl
    by (also v vs) = refl

and_both : (b c : Bool) → IsTrue (b && c) → IsTrue b × IsTrue c
and_both true true e = (refl, refl)
and_both true false e = absurd (false≢true e)
and_both false c e = absurd (false≢true e)

all_holds : {X : Type 0} (p : X → Bool) (xs : List X) (b : X) → IsTrue (list_all p xs) → Contains xs b → IsTrue (p b)
all_holds p [] b h c = absurd (nothing_in b c)
all_holds p (x ∷ xs) b h c = let parts = and_both (p x) (list_all p xs) h in ⊎_elim (λ e. subst (λ y. IsTrue (p y)) e parts.0) (all_holds p xs b parts.1) (first_or_rest x xs b c)

below_from : (m n : ℕ) → IsTrue (nat_lt m n) → m < n
below_from m n e = grind (arith, nat_tests)

module _ (level : List ℕ → ℕ) (n : ℕ) where
  abbrev Below : Value → Type 0
  Below a = level (atom_name a) < n

  -- the names of the list are below n
  abbrev AreLow : List (List ℕ) → Type 0
  AreLow names = (name : List ℕ) → Contains names name → level name < n

  low_literal : (l : Literal) → AreLow (literal_names l) → LiteralIn Below l
  low_literal (Pos atom) h = λ u a is. subst (λ name. level name < n) (sym (name_of_atom u atom a is)) (h atom.name (here atom.name []))
  low_literal (Not atom) h = λ u a is. subst (λ name. level name < n) (sym (name_of_atom u atom a is)) (h atom.name (here atom.name []))
  low_literal (Compare left rel right) h = tt

  low_condition : (ls : List Literal) → AreLow (condition_names ls) → ConditionIn Below ls
  low_condition ls h = λ k d lt. low_literal (get_or ls k d) (λ name c. h name (to_flat literal_names ls (get_or ls k d) name (Contains-get_or ls k d lt) c))

  low_item : (i : Item) → AreLow (item_names i) → ItemIn Below i
  low_item (Plain l) h = low_literal l h
  low_item (Each l c) h = (low_literal l (λ name m. h name (to_left (literal_names l) (condition_names c) name m)), low_condition c (λ name m. h name (to_right (literal_names l) (condition_names c) name m)))
  low_item (Agg g) h = λ k d lt. low_condition (get_or g.elements k d).condition
      (λ name c. h name (to_flat (λ (e : Element). condition_names e.condition) g.elements (get_or g.elements k d) name (Contains-get_or g.elements k d lt) c))

  low_body : (rule : Rule) → AreLow (flat_map item_names rule.body) → BodyIn Below rule
  low_body rule h = λ k d lt. low_item (get_or rule.body k d) (λ name c. h name (to_flat item_names rule.body (get_or rule.body k d) name (Contains-get_or rule.body k d lt) c))

module _ (rules : List Rule) (level : List ℕ → ℕ) (layered : IsTrue (is_layered level rules)) where
  abbrev level_of : Value → ℕ
  level_of a = level (atom_name a)

  -- the head of a rule is an atom, and its body is below it
  low_under : (h : Head) (names : List (List ℕ)) → IsTrue (head_rises level h names) → (globals : List (List ℕ)) (x y : AtomSet) (s : Substitution) (a : Value) → HeadHas globals x y s h a → (name : List ℕ) → Contains names name → level name < level_of a
  low_under (One atom) names rises globals x y s a is name c =
      let lt : level name < level atom.name = below_from (level name) (level atom.name) (all_holds (λ name. nat_lt (level name) (level atom.name)) names name rises c) in subst (λ m. level name < level m) (sym (name_of_atom s atom a is)) lt
  low_under (Choice left es right) names rises globals x y s a is name c = absurd (false≢true rises)
  low_under Nothing names rises globals x y s a is name c = absurd (false≢true rises)

  head_same : (h : Head) (names : List (List ℕ)) → IsTrue (head_rises level h names) → (globals : List (List ℕ)) (x y x' y' : AtomSet) (s : Substitution) (a : Value) → HeadHas globals x y s h a → HeadHas globals x' y' s h a
  head_same (One atom) names rises globals x y x' y' s a is = is
  head_same (Choice left es right) names rises globals x y x' y' s a is = absurd (false≢true rises)
  head_same Nothing names rises globals x y x' y' s a is = absurd (false≢true rises)

  rises_of : (rule : Rule) → Contains rules rule → IsTrue (head_rises level rule.head (flat_map item_names rule.body))
  rises_of rule among = all_holds (λ (rule : Rule). head_rises level rule.head (flat_map item_names rule.body)) rules rule layered among

  lower : (x x' y' : AtomSet) (a : Value) → ((c : Value) → level_of c < level_of a → x c ≡ x' c) → ((c : Value) → level_of c < level_of a → IsTrue (x c) → IsTrue (y' c)) → Derives rules x x a → Derives rules x' y' a
  lower x x' y' a same_ more_ (rule, among, (s, head, body)) =
      let g = global_variables rule in
      let rises = rises_of rule among in (
        rule,
        among,
        (
          s,
          head_same rule.head (flat_map item_names rule.body) rises g x x x' y' s a head,
          body_moves (Below level (level_of a)) x x x' y' same_ more_ s rule (low_body level (level_of a) rule (low_under rule.head (flat_map item_names rule.body) rises g x x s a head)) body,
        ),
      )

  module _ (facts : Value → Type 0) where
    -- at most one answer set
    pub one_answer : (x y : AtomSet) → IsAnswerSet rules facts x → IsAnswerSet rules facts y → (a : Value) → x a ≡ y a
    one_answer x y p q a = stable.unique (Derives rules) (Permits rules) facts same same_decides same_itself (λ x y w b sub d. derives_grows x y w sub rules b d) level_of lower x y p q a

    permits_all : (x : AtomSet) → Permits rules x
    permits_all x rule s among body = by rule.head (flat_map item_names rule.body) (rises_of rule among)
      where
        by : (h : Head) (names : List (List ℕ)) → IsTrue (head_rises level h names) → HeadPermits (global_variables rule) x s h
        by (One atom) names rises = tt
        by (Choice left es right) names rises = absurd (false≢true rises)
        by Nothing names rises = absurd (false≢true rises)

    -- a finite set that has just the facts and what its rules give is the answer set
    pub is_answer : (x : AtomSet) → (atoms : List Value) → ((a : Value) → IsTrue (x a) → Contains atoms a)
        → ((a : Value) → facts a ⊎ Derives rules x x a → IsTrue (x a)) → ((a : Value) → IsTrue (x a) → (facts a ⊎ Derives rules x x a → ⊥) → ⊥) → IsAnswerSet rules facts x
    is_answer x atoms within into out = stable.stable (Derives rules) (Permits rules) facts same same_decides same_itself (λ x y w b sub d. derives_grows x y w sub rules b d) level_of lower x into out (atoms, within) (permits_all x)
