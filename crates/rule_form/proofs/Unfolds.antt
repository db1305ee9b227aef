-- The unfolded form says what the definition says.
use Rattle.std.proofs.Common.{◌≡◌, ℕ, zero, suc, Bool, true, false, List, [], ◌∷◌, Contains, IsTrue, refl, sym, subst, ap, ⊎_elim, inl, inr, arith, not-suc-le-zero}
use Rattle.std.specs.Prelude.{◌⊎◌}
use Rattle.std.specs.Str.{bytes_eq}
use Rattle.std.proofs.lemmas.Bool.{false≢true}
use Rattle.std.proofs.lemmas.List.Elements.{All-from_recursion, recursion_from_All}
use Rattle.std.specs.List.{AllByRecursion}
use Rattle.std.proofs.lemmas.Slice.Eq.{bytes_eq-Decides}
use Rattle.ap_term.specs.Value.{Value, integer, constant, string, compound, Values, none, also}
use Rattle.rule_form.specs.Globals.{Agrees, global_variables}
use Rattle.rule_form.specs.Trees.{Term, Variable, Anything, Fixed, Compound, Operation, Interval, Terms, nothing, more, Atom, Literal, Pos, Not, Compare, Element, Item, Plain, Each, Agg, Head, One, Choice, Nothing, Rule}
use Rattle.rule_form.specs.Truth.{AtomSet, LiteralTrue, LiteralTrueForAll, ConditionTrue, Counts, ItemTrue, compares}
use Rattle.rule_form.specs.Values.{Substitution, IsValue, AreValues, IsAtom, atom_value}
use Rattle.rule_form.specs.AnswerSets.{HeadHas, RuleDerives, Derives}
use Rattle.rule_form.specs.Unfolded.{When, Matches, MatchesAll, SomeValue, SomeValues, EveryValue, EveryValues, AtomIs, LiteralIs, LiteralIsForAll, ConditionIs, AgreesOn, CountsBy, CountsIs, ItemIs, BodyIs, HeadIs, GivesBy, Gives, atom_name, may_have, put_if, named}

-- ---- names

pub bytes_from : (xs ys : List ℕ) → IsTrue (bytes_eq xs ys) → xs ≡ ys
bytes_from xs ys e = (bytes_eq-Decides xs ys).0 e

pub bytes_same : (xs : List ℕ) → IsTrue (bytes_eq xs xs)
bytes_same xs = (bytes_eq-Decides xs xs).1 refl

pub when : (b : Bool) (P : Type 0) → IsTrue b → P → When b P
when true P e p = p
when false P e p = absurd (false≢true e)

pub when_from : (b : Bool) (P : Type 0) → When b P → IsTrue b × P
when_from true P p = (refl, p)
when_from false P p = absurd p

probe : bytes_eq (104 ∷ 105 ∷ []) (104 ∷ 106 ∷ []) ≡ false
probe = refl

-- ---- values

mutual
  pub matches : (s : Substitution) (t : Term) (v : Value) → IsValue s t v → Matches s t v
  matches s (Variable name) v h = h
  matches s Anything v h = tt
  matches s (Fixed value) v h = h
  matches s (Compound name parts) v (vs, is, e) = subst (Matches s (Compound name parts)) (sym e) (when (bytes_eq name name) (MatchesAll s parts vs) (bytes_same name) (matches_all s parts vs is))
  matches s (Operation op left right) v h = h
  matches s (Interval low high) v h = h

  pub matches_all : (s : Substitution) (ts : Terms) (vs : Values) → AreValues s ts vs → MatchesAll s ts vs
  matches_all s nothing vs e = subst (MatchesAll s nothing) (sym e) tt
  matches_all s (more t ts) vs (w, ws, is, are, e) = subst (MatchesAll s (more t ts)) (sym e) (matches s t w is, matches_all s ts ws are)

mutual
  pub value_from : (s : Substitution) (t : Term) (v : Value) → Matches s t v → IsValue s t v
  value_from s (Variable name) v h = h
  value_from s Anything v h = tt
  value_from s (Fixed value) v h = h
  value_from s (Compound name parts) (integer n) h = absurd h
  value_from s (Compound name parts) (constant n) h = absurd h
  value_from s (Compound name parts) (string n) h = absurd h
  value_from s (Compound name parts) (compound other vs) h =
      let w = when_from (bytes_eq other name) (MatchesAll s parts vs) h in
      (vs, values_from s parts vs w.1, ap (λ n. compound n vs) (bytes_from other name w.0))
  value_from s (Operation op left right) v h = h
  value_from s (Interval low high) v h = h

  pub values_from : (s : Substitution) (ts : Terms) (vs : Values) → MatchesAll s ts vs → AreValues s ts vs
  values_from s nothing none h = refl
  values_from s nothing (also v vs) h = absurd h
  values_from s (more t ts) none h = absurd h
  values_from s (more t ts) (also v vs) h = (v, vs, value_from s t v h.0, values_from s ts vs h.1, refl)

mutual
  pub some : (s : Substitution) (t : Term) (P : Value → Type 0) (v : Value) → IsValue s t v → P v → SomeValue s t P
  some s (Variable name) P v h p = subst P h p
  some s Anything P v h p = (v, p)
  some s (Fixed value) P v h p = subst P h p
  some s (Compound name parts) P v (vs, is, e) p = some_of s parts (λ ws. P (compound name ws)) vs is (subst P e p)
  some s (Operation op left right) P v h p = (v, h, p)
  some s (Interval low high) P v h p = (v, h, p)

  pub some_of : (s : Substitution) (ts : Terms) (P : Values → Type 0) (vs : Values) → AreValues s ts vs → P vs → SomeValues s ts P
  some_of s nothing P vs e p = subst P e p
  some_of s (more t ts) P vs (w, ws, is, are, e) p = some s t (λ v. SomeValues s ts (λ us. P (also v us))) w is (some_of s ts (λ us. P (also w us)) ws are (subst P e p))

mutual
  pub some_from : (s : Substitution) (t : Term) (P : Value → Type 0) → SomeValue s t P → (v : Value) × IsValue s t v × P v
  some_from s (Variable name) P p = (s name, refl, p)
  some_from s Anything P (v, p) = (v, tt, p)
  some_from s (Fixed value) P p = (value, refl, p)
  some_from s (Compound name parts) P p =
      let (vs, are, q) = some_of_from s parts (λ ws. P (compound name ws)) p in
      (compound name vs, (vs, are, refl), q)
  some_from s (Operation op left right) P p = p
  some_from s (Interval low high) P p = p

  pub some_of_from : (s : Substitution) (ts : Terms) (P : Values → Type 0) → SomeValues s ts P → (vs : Values) × AreValues s ts vs × P vs
  some_of_from s nothing P p = (none, refl, p)
  some_of_from s (more t ts) P p =
      let (w, is, q) = some_from s t (λ v. SomeValues s ts (λ us. P (also v us))) p in
      let (ws, are, r) = some_of_from s ts (λ us. P (also w us)) q in
      (also w ws, (w, ws, is, are, refl), r)

mutual
  pub every : (s : Substitution) (t : Term) (P : Value → Type 0) → ((v : Value) → IsValue s t v → P v) → EveryValue s t P
  every s (Variable name) P f = f (s name) refl
  every s Anything P f = λ v. f v tt
  every s (Fixed value) P f = f value refl
  every s (Compound name parts) P f = every_of s parts (λ ws. P (compound name ws)) (λ vs are. f (compound name vs) (vs, are, refl))
  every s (Operation op left right) P f = f
  every s (Interval low high) P f = f

  pub every_of : (s : Substitution) (ts : Terms) (P : Values → Type 0) → ((vs : Values) → AreValues s ts vs → P vs) → EveryValues s ts P
  every_of s nothing P f = f none refl
  every_of s (more t ts) P f = every s t (λ v. EveryValues s ts (λ us. P (also v us))) (λ w is. every_of s ts (λ us. P (also w us)) (λ ws are. f (also w ws) (w, ws, is, are, refl)))

mutual
  pub every_from : (s : Substitution) (t : Term) (P : Value → Type 0) → EveryValue s t P → (v : Value) → IsValue s t v → P v
  every_from s (Variable name) P p v h = subst P (sym h) p
  every_from s Anything P p v h = p v
  every_from s (Fixed value) P p v h = subst P (sym h) p
  every_from s (Compound name parts) P p v (vs, are, e) = subst P (sym e) (every_of_from s parts (λ ws. P (compound name ws)) p vs are)
  every_from s (Operation op left right) P p v h = p v h
  every_from s (Interval low high) P p v h = p v h

  pub every_of_from : (s : Substitution) (ts : Terms) (P : Values → Type 0) → EveryValues s ts P → (vs : Values) → AreValues s ts vs → P vs
  every_of_from s nothing P p vs e = subst P (sym e) p
  every_of_from s (more t ts) P p vs (w, ws, is, are, e) = subst P (sym e) (every_of_from s ts (λ us. P (also w us)) (every_from s t (λ v. EveryValues s ts (λ us. P (also v us))) p w is) ws are)

-- ---- atoms

pub atom_is : (s : Substitution) (atom : Atom) (a : Value) → IsAtom s atom a → AtomIs s atom a
atom_is s atom a (vs, are, e) = subst (AtomIs s atom) (sym e) (by_values vs (matches_all s atom.terms vs are))
  where
    by_values : (vs : Values) → MatchesAll s atom.terms vs → AtomIs s atom (atom_value atom.name vs)
    by_values none m = when (bytes_eq atom.name atom.name) (MatchesAll s atom.terms none) (bytes_same atom.name) m
    by_values (also v vs) m = when (bytes_eq atom.name atom.name) (MatchesAll s atom.terms (also v vs)) (bytes_same atom.name) m

pub atom_from : (s : Substitution) (atom : Atom) (a : Value) → AtomIs s atom a → IsAtom s atom a
atom_from s atom (integer n) h = absurd h
atom_from s atom (string n) h = absurd h
atom_from s atom (constant name) h =
    let w = when_from (bytes_eq name atom.name) (MatchesAll s atom.terms none) h in
    (none, values_from s atom.terms none w.1, ap constant (bytes_from name atom.name w.0))
atom_from s atom (compound name none) h = absurd h
atom_from s atom (compound name (also v vs)) h =
    let w = when_from (bytes_eq name atom.name) (MatchesAll s atom.terms (also v vs)) h in
    (also v vs, values_from s atom.terms (also v vs) w.1, ap (λ n. compound n (also v vs)) (bytes_from name atom.name w.0))

-- ---- literals

module _ (x : AtomSet) where
  pub literal_is : (s : Substitution) (l : Literal) → LiteralTrue x x s l → LiteralIs x s l
  literal_is s (Pos atom) (a, (vs, are, e), h) = some_of s atom.terms (λ us. IsTrue (x (atom_value atom.name us))) vs are (subst (λ b. IsTrue (x b)) e h)
  literal_is s (Not atom) (a, (vs, are, e), h) = some_of s atom.terms (λ us. x (atom_value atom.name us) ≡ false) vs are (subst (λ b. x b ≡ false) e h)
  literal_is s (Compare left rel right) (v, w, is, are, h) = some s left (λ v. SomeValue s right (λ w. IsTrue (compares rel v w))) v is (some s right (λ w. IsTrue (compares rel v w)) w are h)

  pub literal_from : (s : Substitution) (l : Literal) → LiteralIs x s l → LiteralTrue x x s l
  literal_from s (Pos atom) h = let (vs, are, p) = some_of_from s atom.terms (λ us. IsTrue (x (atom_value atom.name us))) h in (atom_value atom.name vs, (vs, are, refl), p)
  literal_from s (Not atom) h = let (vs, are, p) = some_of_from s atom.terms (λ us. x (atom_value atom.name us) ≡ false) h in (atom_value atom.name vs, (vs, are, refl), p)
  literal_from s (Compare left rel right) h =
      let (v, is, q) = some_from s left (λ v. SomeValue s right (λ w. IsTrue (compares rel v w))) h in
      let (w, are, p) = some_from s right (λ w. IsTrue (compares rel v w)) q in
      (v, w, is, are, p)

  pub for_all_is : (s : Substitution) (l : Literal) → LiteralTrueForAll x x s l → LiteralIsForAll x s l
  for_all_is s (Pos atom) f = every_of s atom.terms (λ us. IsTrue (x (atom_value atom.name us))) (λ vs are. f (atom_value atom.name vs) (vs, are, refl))
  for_all_is s (Not atom) f = every_of s atom.terms (λ us. x (atom_value atom.name us) ≡ false) (λ vs are. f (atom_value atom.name vs) (vs, are, refl))
  for_all_is s (Compare left rel right) f = every s left (λ v. EveryValue s right (λ w. IsTrue (compares rel v w))) (λ v is. every s right (λ w. IsTrue (compares rel v w)) (λ w are. f v w is are))

  pub for_all_from : (s : Substitution) (l : Literal) → LiteralIsForAll x s l → LiteralTrueForAll x x s l
  for_all_from s (Pos atom) h = λ a (vs, are, e). subst (λ b. IsTrue (x b)) (sym e) (every_of_from s atom.terms (λ us. IsTrue (x (atom_value atom.name us))) h vs are)
  for_all_from s (Not atom) h = λ a (vs, are, e). subst (λ b. x b ≡ false) (sym e) (every_of_from s atom.terms (λ us. x (atom_value atom.name us) ≡ false) h vs are)
  for_all_from s (Compare left rel right) h = λ v w is are. every_from s right (λ w. IsTrue (compares rel v w)) (every_from s left (λ v. EveryValue s right (λ w. IsTrue (compares rel v w))) h v is) w are

-- ---- lists

pub here : {X : Type 0} (x : X) (xs : List X) → Contains (x ∷ xs) x
here x xs = (0, omega arith, refl)

pub there : {X : Type 0} (x : X) (xs : List X) (b : X) → Contains xs b → Contains (x ∷ xs) b
there x xs b (k, lt, e) = (suc k, omega (arith, lt), e)

pub first_or_rest : {X : Type 0} (x : X) (xs : List X) (b : X) → Contains (x ∷ xs) b → (x ≡ b) ⊎ Contains xs b
first_or_rest x xs b (zero, lt, e) = inl e
first_or_rest x xs b (suc k, lt, e) = inr (k, omega (arith, lt), e)

pub nothing_in : {X : Type 0} (b : X) → Contains [] b → ⊥
nothing_in b c = not-suc-le-zero c.1

-- ---- conditions

module _ (x : AtomSet) where
  condition_go : (s : Substitution) (ls : List Literal) → AllByRecursion (LiteralTrue x x s) ls → ConditionIs x s ls
  condition_go s [] h = tt
  condition_go s (l ∷ ls) h = (literal_is x s l h.0, condition_go s ls h.1)

  condition_back : (s : Substitution) (ls : List Literal) → ConditionIs x s ls → AllByRecursion (LiteralTrue x x s) ls
  condition_back s [] h = tt
  condition_back s (l ∷ ls) h = (literal_from x s l h.0, condition_back s ls h.1)

  pub condition_is : (s : Substitution) (ls : List Literal) → ConditionTrue x x s ls → ConditionIs x s ls
  condition_is s ls h = condition_go s ls (recursion_from_All (LiteralTrue x x s) ls h)

  pub condition_from : (s : Substitution) (ls : List Literal) → ConditionIs x s ls → ConditionTrue x x s ls
  condition_from s ls h = All-from_recursion (LiteralTrue x x s) ls (condition_back s ls h)

agrees_go : (s u : Substitution) (names : List (List ℕ)) → AllByRecursion (λ (name : List ℕ). u name ≡ s name) names → AgreesOn s u names
agrees_go s u [] h = tt
agrees_go s u (name ∷ names) h = (h.0, agrees_go s u names h.1)

agrees_back : (s u : Substitution) (names : List (List ℕ)) → AgreesOn s u names → AllByRecursion (λ (name : List ℕ). u name ≡ s name) names
agrees_back s u [] h = tt
agrees_back s u (name ∷ names) h = (h.0, agrees_back s u names h.1)

pub agrees_on : (s u : Substitution) (names : List (List ℕ)) → Agrees names s u → AgreesOn s u names
agrees_on s u names h = agrees_go s u names (recursion_from_All (λ (name : List ℕ). u name ≡ s name) names h)

pub agrees_from : (s u : Substitution) (names : List (List ℕ)) → AgreesOn s u names → Agrees names s u
agrees_from s u names h = All-from_recursion (λ (name : List ℕ). u name ≡ s name) names (agrees_back s u names h)

-- ---- aggregates

module _ (globals : List (List ℕ)) (x : AtomSet) (s : Substitution) where
  counts_go : (es : List Element) (t : Values) (e : Element) → Contains es e → CountsBy globals x s e t → CountsIs globals x s es t
  counts_go [] t e c h = absurd (nothing_in e c)
  counts_go (f ∷ es) t e c h = ⊎_elim (λ q. inl (subst (λ g. CountsBy globals x s g t) (sym q) h)) (λ r. inr (counts_go es t e r h)) (first_or_rest f es e c)

  pub counts_is : (es : List Element) (t : Values) → Counts globals x s es t → CountsIs globals x s es t
  counts_is es t (e, u, among, agrees, are, h) = counts_go es t e among (u, agrees_on s u globals agrees, some_of u e.terms (λ vs. vs ≡ t) t are refl, condition_is x u e.condition h)

  pub counts_from : (es : List Element) (t : Values) → CountsIs globals x s es t → Counts globals x s es t
  counts_from [] t h = absurd h
  counts_from (e ∷ es) t (inl (u, agrees, m, h)) = let (vs, are, is) = some_of_from u e.terms (λ vs. vs ≡ t) m in (e, u, here e es, agrees_from s u globals agrees, subst (AreValues u e.terms) is are, condition_from x u e.condition h)
  counts_from (e ∷ es) t (inr h) = let (f, u, among, agrees, are, holds) = counts_from es t h in (f, u, there e es f among, agrees, are, holds)

  item_is : (i : Item) → ItemTrue globals x x s i → ItemIs globals x s i
  item_is (Plain l) h = literal_is x s l h
  item_is (Each l c) h = λ u agrees holds. for_all_is x u l (h u (agrees_from s u globals agrees) (condition_from x u c holds))
  item_is (Agg g) (n, l, r, c, left, right, e) = (
    n,
    l,
    r,
    record {
      tuples = c.tuples;
      distinct = c.distinct;
      counts = λ t. (λ m. counts_is g.elements t ((c.counts t).0 m), λ m. (c.counts t).1 (counts_from g.elements t m));
      number = c.number;
    },
    left,
    right,
    e,
  )

  item_from : (i : Item) → ItemIs globals x s i → ItemTrue globals x x s i
  item_from (Plain l) h = literal_from x s l h
  item_from (Each l c) h = λ u agrees holds. for_all_from x u l (h u (agrees_on s u globals agrees) (condition_is x u c holds))
  item_from (Agg g) (n, l, r, c, left, right, e) = (
    n,
    l,
    r,
    record {
      tuples = c.tuples;
      distinct = c.distinct;
      counts = λ t. (λ m. counts_from g.elements t ((c.counts t).0 m), λ m. (c.counts t).1 (counts_is g.elements t m));
      number = c.number;
    },
    left,
    right,
    e,
  )

  body_go : (is : List Item) → AllByRecursion (ItemTrue globals x x s) is → BodyIs globals x s is
  body_go [] h = tt
  body_go (i ∷ is) h = (item_is i h.0, body_go is h.1)

  body_back : (is : List Item) → BodyIs globals x s is → AllByRecursion (ItemTrue globals x x s) is
  body_back [] h = tt
  body_back (i ∷ is) h = (item_from i h.0, body_back is h.1)

-- ---- rules

module _ (x : AtomSet) where
  head_is : (globals : List (List ℕ)) (s : Substitution) (h : Head) (a : Value) → HeadHas globals x x s h a → HeadIs globals x s h a
  head_is globals s (One atom) a is = atom_is s atom a is
  head_is globals s (Choice left es right) a is = is
  head_is globals s Nothing a is = is

  head_from : (globals : List (List ℕ)) (s : Substitution) (h : Head) (a : Value) → HeadIs globals x s h a → HeadHas globals x x s h a
  head_from globals s (One atom) a is = atom_from s atom a is
  head_from globals s (Choice left es right) a is = is
  head_from globals s Nothing a is = is

  gives_by : (rule : Rule) (a : Value) → RuleDerives x x rule a → GivesBy x rule a
  gives_by rule a (s, head, body) = let g = global_variables rule in
      (s, head_is g s rule.head a head, body_go g x s rule.body (recursion_from_All (ItemTrue g x x s) rule.body body))

  by_gives : (rule : Rule) (a : Value) → GivesBy x rule a → RuleDerives x x rule a
  by_gives rule a (s, head, body) = let g = global_variables rule in
      (s, head_from g s rule.head a head, All-from_recursion (ItemTrue g x x s) rule.body (body_back g x s rule.body body))

  gives_first : (rule : Rule) (rules : List Rule) (a : Value) → GivesBy x rule a → Gives x (rule ∷ rules) a
  gives_first rule [] a h = h
  gives_first rule (next ∷ rules) a h = inl h

  gives_rest : (rule : Rule) (rules : List Rule) (a : Value) → Gives x rules a → Gives x (rule ∷ rules) a
  gives_rest rule [] a h = absurd h
  gives_rest rule (next ∷ rules) a h = inr h

  gives_split : (rule : Rule) (rules : List Rule) (a : Value) → Gives x (rule ∷ rules) a → GivesBy x rule a ⊎ Gives x rules a
  gives_split rule [] a h = inl h
  gives_split rule (next ∷ rules) a h = h

  -- the head of a rule that gives an atom may have its name
  has_name : (rule : Rule) (a : Value) → GivesBy x rule a → IsTrue (may_have (atom_name a) rule.head)
  has_name rule a (s, head, body) = by_head (global_variables rule) s rule.head a head
    where
      by_head : (globals : List (List ℕ)) (s : Substitution) (h : Head) (a : Value) → HeadIs globals x s h a → IsTrue (may_have (atom_name a) h)
      by_head globals s (One atom) (integer n) h = absurd h
      by_head globals s (One atom) (string n) h = absurd h
      by_head globals s (One atom) (constant name) h = (when_from (bytes_eq name atom.name) (MatchesAll s atom.terms none) h).0
      by_head globals s (One atom) (compound name none) h = absurd h
      by_head globals s (One atom) (compound name (also v vs)) h = (when_from (bytes_eq name atom.name) (MatchesAll s atom.terms (also v vs)) h).0
      by_head globals s (Choice left es right) a h = refl
      by_head globals s Nothing a h = absurd h

  put_first : (b : Bool) (rule : Rule) (rules : List Rule) (a : Value) → IsTrue b → GivesBy x rule a → Gives x (put_if b rule rules) a
  put_first true rule rules a e h = gives_first rule rules a h
  put_first false rule rules a e h = absurd (false≢true e)

  put_rest : (b : Bool) (rule : Rule) (rules : List Rule) (a : Value) → Gives x rules a → Gives x (put_if b rule rules) a
  put_rest true rule rules a h = gives_rest rule rules a h
  put_rest false rule rules a h = h

  put_split : (b : Bool) (rule : Rule) (rules : List Rule) (a : Value) → Gives x (put_if b rule rules) a → GivesBy x rule a ⊎ Gives x rules a
  put_split true rule rules a h = gives_split rule rules a h
  put_split false rule rules a h = inr h

  gives_go : (rules : List Rule) (a : Value) (rule : Rule) → Contains rules rule → GivesBy x rule a → Gives x (named (atom_name a) rules) a
  gives_go [] a rule c h = absurd (nothing_in rule c)
  gives_go (first ∷ rules) a rule c h = ⊎_elim
      (λ e. put_first (may_have (atom_name a) first.head) first (named (atom_name a) rules) a (has_name first a (subst (λ r. GivesBy x r a) (sym e) h)) (subst (λ r. GivesBy x r a) (sym e) h))
      (λ r. put_rest (may_have (atom_name a) first.head) first (named (atom_name a) rules) a (gives_go rules a rule r h))
      (first_or_rest first rules rule c)

  -- an atom is derived exactly where one of the rules with its name gives it
  pub gives : (rules : List Rule) (a : Value) → Derives rules x x a → Gives x (named (atom_name a) rules) a
  gives rules a (rule, among, h) = gives_go rules a rule among (gives_by rule a h)

  pub given : (rules : List Rule) (a : Value) → Gives x (named (atom_name a) rules) a → Derives rules x x a
  given [] a h = absurd h
  given (rule ∷ rules) a h = ⊎_elim
      (λ g. (rule, here rule rules, by_gives rule a g))
      (λ g. let (r, among, d) = given rules a g in (r, there rule rules r among, d))
      (put_split (may_have (atom_name a) rule.head) rule (named (atom_name a) rules) a h)
