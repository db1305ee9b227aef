-- A body that is true between the certain and the possible atoms is that of an instance that was found.
use Rattle.std.proofs.Common.{◌≡◌, ◌<◌, ℕ, Bool, List, [], ◌∷◌, ◌++◌, Contains, IsTrue, IsFalse, refl, sym, subst, ◌∙◌, Option}
use Rattle.std.proofs.lemmas.Bool.{false≢true}
use Rattle.ap_term.specs.Value.{Value}
use Rattle.rule_form.specs.Instances.{Instance, IsHeadPart, IsInstance}
use Rattle.ground_law.specs.Ground.{IsGrounding}
use Rattle.rule_form.specs.Relevant.{IsUncertain, IsBarred, MayApply, IsRelevant}
use Rattle.ground_law.proofs.Bodies.{AreSettled, HoldsIn, use_moves, among_items, holds_of, body_parts}
use Rattle.ground_law.proofs.Lookup.{place_of}
use Rattle.ground_law.proofs.Same.{same_holds}
use Rattle.ground_form.specs.Programs.{Parts}
use Rattle.rule_form.specs.Assigned.{BodyTrueBy}
use Rattle.rule_form.specs.Globals.{Agrees, global_variables}
use Rattle.rule_form.specs.Possible.{Setting, level, IsHeadLevel, IsPossible, IsCertain}
use Rattle.rule_form.specs.Static.{IsStatic}
use Rattle.rule_form.specs.Trees.{Aggregate, Head, One, Choice, Nothing, Rule}
use Rattle.rule_form.specs.Truth.{AtomSet, In, Out}
use Rattle.rule_form.specs.Values.{Substitution}
use Rattle.rule_form.proofs.Bounds.{settled_in}
use Rattle.rule_form.proofs.Unfolds.{here, nothing_in}

-- the certain atoms that are lower than each head of the rule are in x
abbrev pub HasLowest : Setting → Head → AtomSet → Type 0
HasLowest st head x = (b : Value) → ((n : ℕ) → IsHeadLevel st head n → level st b < n) → IsCertain st b → IsTrue (x b)

module _ (st : Setting) (definite : Value → Type 0) (settled : (b : Value) → definite b → IsPossible st b → IsCertain st b) where
  pub are_settled : (x : AtomSet) → ((b : Value) → IsTrue (x b) → IsPossible st b) → (rule : Rule) → IsStatic st definite rule → HasLowest st rule.head x → AreSettled st x rule
  are_settled x within rule static sure = record {
    conditions = λ l c m b i. let d = static.conditions l c m b i in settled_in st definite settled x b d.0 (sure b d.1) (within b);
    aggregates = λ g m j b i. let d = static.aggregates g m j b i in settled_in st definite settled x b d.0 (sure b d.1) (within b);
  }

-- ---- no barred atom is certain in a lower component

module _ (st : Setting) (x : AtomSet) where
  -- where the certain atoms lower than one of the heads are in x
  pub apply_for : (h : Head) (n : ℕ) → IsHeadLevel st h n → ((b : Value) → level st b < n → IsCertain st b → IsTrue (x b)) → (barred : Value → Type 0) → ((b : Value) → barred b → IsFalse (x b)) → MayApply st h barred
  apply_for (One atom) n e sure barred out = λ b bar lt c. false≢true (sym (out b bar) ∙ sure b (subst (λ m. level st b < m) (sym e) lt) c)
  apply_for (Choice left [] right) n (e, among, eq) sure barred out = absurd (nothing_in e among)
  apply_for (Choice left (first ∷ rest) right) n (e, among, eq) sure barred out = (e, among, λ b bar lt c. false≢true (sym (out b bar) ∙ sure b (subst (λ m. level st b < m) (sym eq) lt) c))
  apply_for Nothing n e sure barred out = absurd e

  pub apply_all : (h : Head) → ((b : Value) → IsCertain st b → IsTrue (x b)) → (barred : Value → Type 0) → ((b : Value) → barred b → IsFalse (x b)) → MayApply st h barred
  apply_all (One atom) sure barred out = λ b bar lt c. false≢true (sym (out b bar) ∙ sure b c)
  apply_all (Choice left [] right) sure barred out = λ b bar c. false≢true (sym (out b bar) ∙ sure b c)
  apply_all (Choice left (first ∷ rest) right) sure barred out = (first, here first rest, λ b bar lt c. false≢true (sym (out b bar) ∙ sure b c))
  apply_all Nothing sure barred out = λ b bar c. false≢true (sym (out b bar) ∙ sure b c)

-- an instance that was found, for the rule under the substitution, with this head and these guards
pub record IsFoundFor (st : Setting) (found : List (Instance × ℕ)) (rule : Rule) (s : Substitution) (h l r : Option Value) (x y : AtomSet) : Type 0 where
  pub one : Instance × ℕ
  pub among : Contains found one
  pub same_rule : rule ≡ one.0.rule
  pub values : Agrees (global_variables rule) s one.0.values
  pub head : h ≡ one.0.head
  pub left : l ≡ one.0.left
  pub right : r ≡ one.0.right
  pub holds : HoldsIn st x y one.0

module _ (assigned : Aggregate → Bool) (st : Setting) (judges : (g : Aggregate) → IsTrue (assigned g) → IsTrue (st.evaluated g)) (g : Parts) (atoms : List Value) (found : List (Instance × ℕ)) (grounding : IsGrounding st g atoms found)
    (x y : AtomSet) (within : (b : Value) → IsTrue (x b) → IsPossible st b) (within_y : (b : Value) → IsTrue (y b) → IsPossible st b) where
  pub found_for : (rule : Rule) → Contains st.rules rule → AreSettled st x rule → ((barred : Value → Type 0) → ((b : Value) → barred b → IsFalse (x b)) → MayApply st rule.head barred)
      → (s : Substitution) → BodyTrueBy assigned (IsCertain st) x y s rule → (hs : List Value) (h l r : Option Value) → IsHeadPart s rule.head hs h l r → IsFoundFor st found rule s h l r x y
  found_for rule among are apply s body hs h l r is_head =
      let (k, at) = place_of st.rules rule among in
      let (vs, ps, ns, us, parts, p, n, u) = body_parts assigned st judges x y rule s are body in
      let i : Instance = record { place = k; rule = rule; values = s; outer = hs ++ vs; head = h; left = l; right = r; positive = ps; negative = ns; aggregates = us } in
      let instance : IsInstance st.rules i = record { rule = at; of_head = hs; of_body = vs; head = is_head; body = parts; outer = refl } in
      let holds : HoldsIn st x y i = holds_of assigned st judges x y i are body p n u in
      let relevant : IsRelevant st i = record {
        asked = λ b a. within_y b (holds.asked b a);
        barred = apply (IsBarred st i) holds.barred;
        compared = holds.compared;
        evaluated = λ v m j. use_moves (In x) (Out x) (IsCertain st) (IsUncertain st) (global_variables rule) s v (are.aggregates v.aggregate (among_items s rule.body vs ps ns us parts v m) j) (holds.aggregates v m);
      } in
      let (f, c, same) = grounding.all_found i instance relevant in
      record { one = f; among = c; same_rule = same.rule; values = same.values; head = same.head; left = same.left; right = same.right; holds = same_holds st i f.0 same x y holds }
