-- The setting of a grounder's arguments is in order, by the static conditions on predicates.
use Rattle.std.proofs.Common.{◌≡◌, ℕ, suc, Bool, List, [], ◌∷◌, ◌++◌, map, flat_map, length, Contains, IsTrue, refl, sym, subst, ap, ◌∙◌, inl}
use Rattle.std.specs.Prelude.{◌<◌}
use Rattle.std.proofs.lemmas.List.Elements.{All-contains}
use Rattle.ap_syntax.specs.declared.rules.AggElement.{AggElement}
use Rattle.ap_syntax.specs.declared.rules.BodyItem.{BodyItem}
use Rattle.ap_syntax.specs.declared.rules.BodyItem.TheVariants as items
use Rattle.ap_syntax.specs.declared.rules.ChoiceElement.{ChoiceElement}
use Rattle.ap_syntax.specs.declared.rules.HeadForm.{HeadForm}
use Rattle.ap_syntax.specs.declared.rules.HeadForm.TheVariants as heads
use Rattle.ap_syntax.specs.declared.rules.Rule as written_rule
use Rattle.ap_syntax.specs.declared.terms.Atom as written_atom
use Rattle.ap_syntax.specs.declared.terms.Literal as written_literal
use Rattle.ap_syntax.specs.declared.terms.Literal.TheVariants as literals
use Rattle.ap_syntax.specs.declared.terms.Term as written_term
use Rattle.ap_term.specs.Value.{Value}
use Rattle.ground_law.specs.Settings.{is_among, setting_of, AreConditionsDefinite, AreInputsOpen}
use Rattle.ground_law.proofs.Literals.{all_true, true_in}
use Rattle.pred_graph.specs.Components.{IsOrderOf, TellsDefinite}
use Rattle.pred_graph.specs.Predicates.{pred_of, literal_preds, preds_of, element_pred, choice_preds, head_preds, tuple_preds, item_preds, Depends, Reaches}
use Rattle.pred_graph.specs.declared.pred.Pred.{Pred}
use Rattle.pred_graph.proofs.MemberLemmas.{from_map, any_of}
use Rattle.rule_form.specs.Possible.{terms_count}
use Rattle.rule_form.specs.Predicates.{Predicate, predicate, literal_predicates, condition_predicates, aggregate_predicates, item_predicates, head_predicates, IsOrdered}
use Rattle.rule_form.specs.Readings.{terms_from, read_term, read_atom, read_literal, read_element, read_item, read_choosable, read_head, read_rule}
use Rattle.rule_form.specs.Static.{IsOne}
use Rattle.rule_form.specs.Trees.{Literal, Item, Plain, Each, Agg, Element, Choosable, Rule}
use Rattle.rule_form.proofs.Unfolds.{nothing_in}

-- ---- members of lists that are made of others

map_append : {X Y : Type 0} (f : X → Y) (xs ys : List X) → map f (xs ++ ys) ≡ map f xs ++ map f ys
map_append f [] ys = refl
map_append f (x ∷ xs) ys = ap (λ zs. f x ∷ zs) (map_append f xs ys)

map_map : {X Y Z : Type 0} (f : X → Y) (h : Y → Z) (k : X → Z) (xs : List X) → ((x : X) → h (f x) ≡ k x) → map h (map f xs) ≡ map k xs
map_map f h k [] e = refl
map_map f h k (x ∷ xs) e = ap (λ z. z ∷ map h (map f xs)) (e x) ∙ ap (λ zs. k x ∷ zs) (map_map f h k xs e)

-- where each part is read piece by piece, so is all that is in them
flat_both : {X Y U V : Type 0} (f : X → Y) (h : U → V) (parts : X → List U) (others : Y → List V) (xs : List X) → ((x : X) → others (f x) ≡ map h (parts x)) → flat_map others (map f xs) ≡ map h (flat_map parts xs)
flat_both f h parts others [] e = refl
flat_both f h parts others (x ∷ xs) e = ap (λ zs. zs ++ flat_map others (map f xs)) (e x) ∙ (ap (λ zs. map h (parts x) ++ zs) (flat_both f h parts others xs e) ∙ sym (map_append h (parts x) (flat_map parts xs)))

-- ---- predicates of the parser's rules and of rules as trees

abbrev same : Pred → Predicate
same p = record { name = p.name; arity = p.arity }

count : (ts : List written_term.Term) → terms_count (terms_from (map read_term ts)) ≡ length ts
count [] = refl
count (t ∷ ts) = ap suc (count ts)

atom_same : (atom : written_atom.Atom) → predicate (read_atom atom) ≡ same (pred_of atom)
atom_same atom = ap (λ (n : ℕ). record { name = atom.name; arity = n }) (count atom.terms)

literal_same : (l : written_literal.Literal) → literal_predicates (read_literal l) ≡ map same (literal_preds l)
literal_same (literals.Pos atom) = ap (λ p. p ∷ []) (atom_same atom)
literal_same (literals.Not atom) = ap (λ p. p ∷ []) (atom_same atom)
literal_same (literals.Compare left rel right) = refl

condition_same : (c : List written_literal.Literal) → condition_predicates (map read_literal c) ≡ map same (preds_of c)
condition_same c = flat_both read_literal same literal_preds literal_predicates c literal_same

item_same : (i : BodyItem) → item_predicates (read_item i) ≡ map same (item_preds i)
item_same (items.Plain l) = literal_same l
item_same (items.All at l c) = ap (λ zs. zs ++ condition_predicates (map read_literal c)) (literal_same l) ∙ (ap (λ zs. map same (literal_preds l) ++ zs) (condition_same c) ∙ sym (map_append same (literal_preds l) (preds_of c)))
item_same (items.Agg negated left function es right) = flat_both read_element same tuple_preds (λ (e : Element). condition_predicates e.condition) es (λ (e : AggElement). condition_same e.condition)

body_same : (is : List BodyItem) → flat_map item_predicates (map read_item is) ≡ map same (flat_map item_preds is)
body_same is = flat_both read_item same item_preds item_predicates is item_same

head_same : (h : HeadForm) → head_predicates (read_head h) ≡ map same (head_preds h)
head_same (heads.One atom) = ap (λ p. p ∷ []) (atom_same atom)
head_same (heads.Choice left es right) = map_map read_choosable (λ (e : Choosable). predicate e.atom) (λ (e : ChoiceElement). same (pred_of e.atom)) es (λ (e : ChoiceElement). atom_same e.atom)
    ∙ sym (map_map element_pred same (λ (e : ChoiceElement). same (pred_of e.atom)) es (λ e. refl))
head_same heads.Nothing = refl

abbrev back : Predicate → Pred
back p = record { name = p.name; arity = p.arity }

-- a predicate of one list is that of the other
in_same : (xs : List Predicate) (ys : List Pred) → xs ≡ map same ys → (p : Predicate) → Contains xs p → Contains ys (back p)
in_same xs ys e p m = let (q, n, f) = from_map same ys p (subst (λ zs. Contains zs p) e m) in subst (Contains ys) (ap back f) n

module _ (rules : List written_rule.Rule) (number : Pred → ℕ) (base : Bool) (definite : Pred → Bool) (certain inputs : List Value)
    (order : IsOrderOf rules number) (tells : TellsDefinite rules base definite) (conditions : AreConditionsDefinite rules definite) (open_ : AreInputsOpen definite inputs) where
  step : (p q : Pred) → Depends rules p q → Reaches rules p q
  step p q d = (q ∷ [], (d, refl))

  stay : (p : Pred) → Reaches rules p p
  stay p = ([], refl)

  behind : (p q r : Pred) → Depends rules p q → Reaches rules q r → Reaches rules p r
  behind p q r d (walk, w) = (q ∷ walk, (d, w))

  depends : (rule : written_rule.Rule) → Contains rules rule → (h q : Predicate) → Contains (head_predicates (read_rule rule).head) h → Contains (flat_map item_predicates (read_rule rule).body) q → Depends rules (back h) (back q)
  depends rule among h q m n = any_of _ rules rule among (inl (in_same (head_predicates (read_head rule.head)) (head_preds rule.head) (head_same rule.head) h m, in_same (flat_map item_predicates (map read_item rule.body)) (flat_map item_preds rule.body) (body_same rule.body) q n))

  -- a rule among those that are read is read from one of the rules
  from_rules : (rule : Rule) → Contains (map read_rule rules) rule → (r : written_rule.Rule) × Contains rules r × (read_rule r ≡ rule)
  from_rules rule m = from_map read_rule rules rule m

  -- a definite predicate of a body cannot reach the head
  no_way_back : (h q : Pred) → Depends rules h q → IsTrue (definite q) → Reaches rules q h → ⊥
  no_way_back h q d t w = ((tells q).0 t q (stay q)).no_loop h q (w, step h q d) (stay q, stay q) d

  lower_one : (r : written_rule.Rule) → Contains rules r → (h q : Predicate) → Contains (head_predicates (read_rule r).head) h → Contains (flat_map item_predicates (read_rule r).body) q
      → IsTrue (is_among definite q) → number (back q) < number (back h)
  lower_one r among h q m n t = let d = depends r among h q m n in order.lower (back h) (back q) (step (back h) (back q) d, no_way_back (back h) (back q) d t)

  body_one : (r : written_rule.Rule) → Contains rules r → (h q : Predicate) → Contains (head_predicates (read_rule r).head) h → IsTrue (is_among definite h) → Contains (flat_map item_predicates (read_rule r).body) q
      → IsTrue (is_among definite q)
  body_one r among h q m t n = (tells (back q)).1 (λ p w. (tells (back h)).0 t p (behind (back h) (back q) p (depends r among h q m n) w))

  one_head : (r : written_rule.Rule) → Contains rules r → (hf : HeadForm) → r.head ≡ hf → (h : Predicate) → Contains (head_predicates (read_head hf)) h → IsTrue (is_among definite h) → IsOne (read_head hf)
  one_head r among (heads.One atom) e h m t = tt
  one_head r among (heads.Choice left es right) e h m t =
      let chosen : Contains (choice_preds r.head) (back h) = subst (λ hf. Contains (choice_preds hf) (back h)) (sym e) (in_same (head_predicates (read_head (heads.Choice left es right))) (head_preds (heads.Choice left es right)) (head_same (heads.Choice left es right)) h m) in
      absurd (All-contains (λ (rule : written_rule.Rule). Contains (choice_preds rule.head) (back h) → ⊥) rules r ((tells (back h)).0 t (back h) (stay (back h))).no_choice among chosen)
  one_head r among heads.Nothing e h m t = absurd (nothing_in h m)

  conditions_one : (r : written_rule.Rule) → Contains rules r → (i : BodyItem) → Contains r.body i → (l : Literal) (c : List Literal) → read_item i ≡ Each l c → (q : Predicate) → Contains (condition_predicates c) q → IsTrue (is_among definite q)
  conditions_one r among (items.Plain literal) inside l c e q m = absurd (no_each (Plain (read_literal literal)) l c e tt)
    where
      is_plain : Item → Type 0
      is_plain (Plain k) = Unit {0}
      is_plain (Each k d) = ⊥
      is_plain (Agg g) = Unit {0}

      no_each : (i : Item) (l : Literal) (c : List Literal) → i ≡ Each l c → is_plain i → ⊥
      no_each i l c e p = subst is_plain e p
  conditions_one r among (items.All at literal condition) inside l c e q m =
      conditions r at literal condition (back q) among inside (in_same (condition_predicates (map read_literal condition)) (preds_of condition) (condition_same condition) q (subst (λ d. Contains (condition_predicates d) q) (sym (ap condition_of e)) m))
    where
      condition_of : Item → List Literal
      condition_of (Plain k) = []
      condition_of (Each k d) = d
      condition_of (Agg g) = []
  conditions_one r among (items.Agg negated left function es right) inside l c e q m = absurd (subst is_agg e tt)
    where
      is_agg : Item → Type 0
      is_agg (Plain k) = ⊥
      is_agg (Each k d) = ⊥
      is_agg (Agg g) = Unit {0}

  pub ordered : IsOrdered (setting_of rules number definite certain inputs) (is_among definite)
  ordered = record {
    lower = λ rule m h q mh mq t. let (r, among, e) = from_rules rule m in
        lower_one r among h q (subst (λ (x : Rule). Contains (head_predicates x.head) h) (sym e) mh) (subst (λ (x : Rule). Contains (flat_map item_predicates x.body) q) (sym e) mq) t;
    conditions = λ rule m l c mc q mq. let (r, among, e) = from_rules rule m in
        let (i, inside, f) = from_map read_item r.body (Each l c) (subst (λ (x : Rule). Contains x.body (Each l c)) (sym e) mc) in
        conditions_one r among i inside l c f q mq;
    evaluated = λ g t q m. true_in (is_among definite) (aggregate_predicates g) q t m;
    no_choice = λ rule m h mh t. let (r, among, e) = from_rules rule m in
        subst (λ (x : Rule). IsOne x.head) e (one_head r among r.head refl h (subst (λ (x : Rule). Contains (head_predicates x.head) h) (sym e) mh) t);
    bodies = λ rule m h q mh t mq. let (r, among, e) = from_rules rule m in
        body_one r among h q (subst (λ (x : Rule). Contains (head_predicates x.head) h) (sym e) mh) t (subst (λ (x : Rule). Contains (flat_map item_predicates x.body) q) (sym e) mq);
    all_evaluated = λ g f. all_true (is_among definite) (aggregate_predicates g) f;
    inputs = open_;
  }
