-- Static conditions on predicates give those on atoms.
use Rattle.std.proofs.Common.{◌≡◌, ◌<◌, ℕ, Bool, List, [], ◌∷◌, flat_map, Contains, get_or, IsTrue, refl, sym, subst, ap, ◌∙◌}
use Rattle.std.proofs.lemmas.List.Elements.{Contains-get_or}
use Rattle.ap_term.specs.Value.{Value, Values, none, also, arity}
use Rattle.rule_form.specs.Possible.{Setting, level, IsHeadLevel}
use Rattle.rule_form.specs.Predicates.{Predicate, predicate, predicate_of, literal_predicates, condition_predicates, aggregate_predicates, item_predicates, head_predicates, component_of, IsOrdered}
use Rattle.rule_form.specs.Static.{IsAtomOf, InCondition, InAggregate, IsHeadAtom, IsDefiniteBelow, IsDefiniteItem, IsStatic, AreStatic}
use Rattle.rule_form.specs.Trees.{Atom, Literal, Pos, Not, Compare, Element, Aggregate, Item, Plain, Each, Agg, Choosable, Head, One, Choice, Nothing, Rule}
use Rattle.rule_form.specs.Values.{Substitution, IsAtom, atom_value}
use Rattle.rule_form.proofs.Bounds.{level_is, arguments_count}
use Rattle.rule_form.proofs.Lists.{to_flat, to_map, to_left, to_right}
use Rattle.rule_form.proofs.Unfolds.{here}

value_predicate : (name : List ℕ) (vs : Values) → predicate_of (atom_value name vs) ≡ record { name = name; arity = arity vs }
value_predicate name none = refl
value_predicate name (also v vs) = refl

predicate_is : (s : Substitution) (atom : Atom) (a : Value) → IsAtom s atom a → predicate_of a ≡ predicate atom
predicate_is s atom a (vs, are, e) = ap predicate_of e ∙ (value_predicate atom.name vs ∙ ap (λ n. record { name = atom.name; arity = n }) (arguments_count s atom.terms vs are))

literal_in : (u : Substitution) (l : Literal) (b : Value) → IsAtomOf u l b → Contains (literal_predicates l) (predicate_of b)
literal_in u (Pos atom) b is = subst (Contains (predicate atom ∷ [])) (sym (predicate_is u atom b is)) (here (predicate atom) [])
literal_in u (Not atom) b is = subst (Contains (predicate atom ∷ [])) (sym (predicate_is u atom b is)) (here (predicate atom) [])
literal_in u (Compare left rel right) b is = absurd is

condition_in : (c : List Literal) (b : Value) → InCondition c b → Contains (condition_predicates c) (predicate_of b)
condition_in c b (l, u, m, is) = to_flat literal_predicates c l (predicate_of b) m (literal_in u l b is)

aggregate_in : (g : Aggregate) (b : Value) → InAggregate g b → Contains (aggregate_predicates g) (predicate_of b)
aggregate_in g b (e, m, inside) = to_flat (λ (e : Element). condition_predicates e.condition) g.elements e (predicate_of b) m (condition_in e.condition b inside)

head_in : (h : Head) (a : Value) → IsHeadAtom h a → Contains (head_predicates h) (predicate_of a)
head_in (One atom) a (u, is) = subst (Contains (predicate atom ∷ [])) (sym (predicate_is u atom a is)) (here (predicate atom) [])
head_in (Choice left es right) a (e, u, m, is) = subst (Contains (head_predicates (Choice left es right))) (sym (predicate_is u e.atom a is)) (to_map (λ (e : Choosable). predicate e.atom) es e m)
head_in Nothing a h = absurd h

-- each level of a head is that of one of its predicates
head_of_level : (st : Setting) (h : Head) (n : ℕ) → IsHeadLevel st h n → (p : Predicate) × Contains (head_predicates h) p × (n ≡ component_of st p)
head_of_level st (One atom) n e = (predicate atom, here (predicate atom) [], e)
head_of_level st (Choice left es right) n (e, m, eq) = (predicate e.atom, to_map (λ (e : Choosable). predicate e.atom) es e m, eq)
head_of_level st Nothing n h = absurd h

module _ (st : Setting) (definite : Predicate → Bool) (ordered : IsOrdered st definite) where
  abbrev pub IsDefiniteAtom : Value → Type 0
  IsDefiniteAtom a = IsTrue (definite (predicate_of a))

  module _ (rule : Rule) (among : Contains st.rules rule) where
    -- an atom of a literal in the body, of a definite predicate, is lower than the heads
    below : (s : Substitution) (atom : Atom) (b : Value) → IsAtom s atom b → Contains (flat_map item_predicates rule.body) (predicate_of b) → IsDefiniteAtom b → IsDefiniteBelow st IsDefiniteAtom rule b
    below s atom b is m d = (
      d,
      λ n at. let (h, hm, e) = head_of_level st rule.head n at in
          subst (λ k. level st b < k) (sym e) (subst (λ k. k < component_of st h) (sym (level_is st s atom b is ∙ ap (component_of st) (sym (predicate_is s atom b is)))) (ordered.lower rule among h (predicate_of b) hm m d)),
    )

    below_literal : (u : Substitution) (l : Literal) (b : Value) → IsAtomOf u l b → Contains (flat_map item_predicates rule.body) (predicate_of b) → IsDefiniteAtom b → IsDefiniteBelow st IsDefiniteAtom rule b
    below_literal u (Pos atom) b is m d = below u atom b is m d
    below_literal u (Not atom) b is m d = below u atom b is m d
    below_literal u (Compare left rel right) b is m d = absurd is

    in_body : (i : Item) (q : Predicate) → Contains rule.body i → Contains (item_predicates i) q → Contains (flat_map item_predicates rule.body) q
    in_body i q m n = to_flat item_predicates rule.body i q m n

    level_of_head : (a : Value) → IsHeadAtom rule.head a → IsHeadLevel st rule.head (level st a)
    level_of_head a at = of_head rule.head at
      where
        of_head : (h : Head) → IsHeadAtom h a → IsHeadLevel st h (level st a)
        of_head (One atom) (u, is) = level_is st u atom a is
        of_head (Choice left es right) (e, u, m, is) = (e, m, level_is st u e.atom a is)
        of_head Nothing h = absurd h

    item_definite : (a : Value) → IsHeadAtom rule.head a → IsDefiniteAtom a → (i : Item) → Contains rule.body i → IsDefiniteItem st IsDefiniteAtom (level st a) i
    item_definite a at d (Plain l) m = λ u b is. let q = in_body (Plain l) (predicate_of b) m (literal_in u l b is) in
        let db = ordered.bodies rule among (predicate_of a) (predicate_of b) (head_in rule.head a at) d q in (db, (below_literal u l b is q db).1 (level st a) (level_of_head a at))
    item_definite a at d (Each l c) m = λ u b is. let q = in_body (Each l c) (predicate_of b) m (to_left (literal_predicates l) (condition_predicates c) (predicate_of b) (literal_in u l b is)) in
        let db = ordered.bodies rule among (predicate_of a) (predicate_of b) (head_in rule.head a at) d q in (db, (below_literal u l b is q db).1 (level st a) (level_of_head a at))
    item_definite a at d (Agg g) m = ordered.all_evaluated g (λ q n. ordered.bodies rule among (predicate_of a) q (head_in rule.head a at) d (in_body (Agg g) q m n))

    static : IsStatic st IsDefiniteAtom rule
    static = record {
      conditions = λ l c m b (l', u, n, is). below_literal u l' b is
          (in_body (Each l c) (predicate_of b) m (to_right (literal_predicates l) (condition_predicates c) (predicate_of b) (condition_in c b (l', u, n, is))))
          (ordered.conditions rule among l c m (predicate_of b) (condition_in c b (l', u, n, is)));
      aggregates = λ g m j b (e, em, (l', u, n, is)). below_literal u l' b is
          (in_body (Agg g) (predicate_of b) m (aggregate_in g b (e, em, (l', u, n, is))))
          (ordered.evaluated g j (predicate_of b) (aggregate_in g b (e, em, (l', u, n, is))));
      head = λ a at d. ordered.no_choice rule among (predicate_of a) (head_in rule.head a at) d;
      body = λ a at d k i lt. item_definite a at d (get_or rule.body k i) (Contains-get_or rule.body k i lt);
    }

  pub by_predicates : AreStatic st IsDefiniteAtom
  by_predicates = record { rules = static; inputs = ordered.inputs }
