-- In a rule all of whose variables are bound, each global variable shows its value.
use Rattle.std.proofs.Common.{◌≡◌, ℕ, Bool, true, false, not, ◌||◌, List, [], ◌∷◌, ◌++◌, map, flat_map, Contains, IsTrue, refl, sym, subst, ap, ◌∙◌, ⊎_elim, Option, Some, None}
use Rattle.std.specs.List.{filter, list_all, list_any, cons_option}
use Rattle.std.specs.Prelude.{if◌then◌else◌}
use Rattle.std.specs.Str.{bytes_eq}
use Rattle.std.proofs.lemmas.Bool.{false≢true}
use Rattle.ap_pieces.specs.Bound.{Names, has_all, has_name, has_any_name, shown, is_among, has_argument, binds_side, is_closed, aggregate_side, binders, globals, unbound, is_bound_there, unbound_arguments, unbound_side, unbound_mention, AreUnboundOf, AreUnboundAmong, IsAllBound}
use Rattle.ap_pieces.specs.Pieces.{side_form, side_of, side_occurrences, comparison_of, mention_of, mention_occurrences, value_piece, value_pieces, guard_pieces, choice_piece, tuple_piece, tuple_occurrences, tuple_signatures, head_pieces, item_pieces, rule_pieces, rule_source}
use Rattle.ap_pieces.specs.Variables.{occurrences, occurrences_of}
use Rattle.ap_pieces.specs.declared.pieces.Mention.{Mention}
use Rattle.ap_pieces.specs.declared.pieces.Mention.TheVariants as mentions
use Rattle.ap_pieces.specs.declared.pieces.Piece.{Piece}
use Rattle.ap_pieces.specs.declared.pieces.Piece.TheVariants as pieces
use Rattle.ap_pieces.specs.declared.pieces.Signature.{Signature}
use Rattle.ap_pieces.specs.declared.pieces.Side.{Side}
use Rattle.ap_pieces.specs.declared.pieces.Side.TheVariants as sides
use Rattle.ap_pieces.specs.declared.variables.Occurrence.{Occurrence}
use Rattle.ap_syntax.specs.declared.rules.AggElement.{AggElement}
use Rattle.ap_syntax.specs.declared.rules.BodyItem.{BodyItem}
use Rattle.ap_syntax.specs.declared.rules.BodyItem.TheVariants as items
use Rattle.ap_syntax.specs.declared.rules.Function.{Function}
use Rattle.ap_syntax.specs.declared.rules.Guard.{Guard}
use Rattle.ap_syntax.specs.declared.rules.HeadForm.{HeadForm}
use Rattle.ap_syntax.specs.declared.rules.HeadForm.TheVariants as heads
use Rattle.ap_syntax.specs.declared.rules.Rule.{Rule}
use Rattle.ap_syntax.specs.declared.terms.Literal.{Literal}
use Rattle.ap_syntax.specs.declared.terms.Literal.TheVariants as literals
use Rattle.ap_syntax.specs.declared.terms.Rel.{Rel}
use Rattle.ap_syntax.specs.declared.terms.Rel.TheVariants.{Eq, Ne, Lt, Le, Gt, Ge}
use Rattle.ap_syntax.specs.declared.terms.Term.{Term, out-Term, roll-Term, roll-out-Term, fold-roll-Term}
use Rattle.ap_syntax.specs.declared.terms.Term.TheOpen.{Term-F}
use Rattle.ground_law.proofs.Literals.{all_true, and_true}
use Rattle.ground_law.proofs.Occurrences.{put_name, put_if, names_of, argument_names, names_append, both_same, is_read, all_names, all_arguments}
use Rattle.pred_graph.proofs.MemberLemmas.{from_map, from_flat_map}
use Rattle.rule_form.specs.Arguments.{arguments, arguments_of, guard_arguments, items_arguments, IsShown}
use Rattle.rule_form.specs.Globals.{variables, literal_variables, guard_variables, item_variables, head_variables, global_variables}
use Rattle.rule_form.specs.Readings.{term_step, read_term, read_terms, read_guard, read_literal, read_item, read_head, read_rule}
use Rattle.rule_form.specs.Trees as trees
use Rattle.rule_form.proofs.Lists.{in_append, to_left, to_right}
use Rattle.rule_form.proofs.Unfolds.{here, there, first_or_rest, nothing_in, bytes_from, bytes_same}

-- ---- names in a list

abbrev among : List (List ℕ) → Names
among names name = list_any (bytes_eq name) names

or_left : (b c : Bool) → IsTrue b → IsTrue (b || c)
or_left b c e = subst (λ d. IsTrue (d || c)) (sym e) refl

or_right : (b c : Bool) → IsTrue c → IsTrue (b || c)
or_right true c e = refl
or_right false c e = e

or_cases : (b c : Bool) (P : Type 0) → (IsTrue b → P) → (IsTrue c → P) → IsTrue (b || c) → P
or_cases true c P f g e = f refl
or_cases false c P f g e = g e

is_among_list : (names : List (List ℕ)) (name : List ℕ) → Contains names name → IsTrue (among names name)
is_among_list [] name m = absurd (nothing_in name m)
is_among_list (n ∷ names) name m = ⊎_elim (λ e. or_left (bytes_eq name n) (among names name) (subst (λ b. IsTrue (bytes_eq name b)) (sym e) (bytes_same name)))
    (λ r. or_right (bytes_eq name n) (among names name) (is_among_list names name r)) (first_or_rest n names name m)

in_list : (names : List (List ℕ)) (name : List ℕ) → IsTrue (among names name) → Contains names name
in_list [] name e = absurd (false≢true e)
in_list (n ∷ names) name e = or_cases (bytes_eq name n) (among names name) (Contains (n ∷ names) name) (λ h. subst (Contains (n ∷ names)) (sym (bytes_from name n h)) (here n names)) (λ h. there n names name (in_list names name h)) e

-- ---- where no occurrence is unbound, each variable is bound

nonempty : {X : Type 0} (x : X) (xs : List X) → x ∷ xs ≡ [] → ⊥
nonempty {X} x xs e = subst is_some_list e tt
  where
    is_some_list : List X → Type 0
    is_some_list [] = ⊥
    is_some_list (y ∷ ys) = Unit {0}

both_empty : {X : Type 0} (xs ys : List X) → [] ≡ xs ++ ys → (xs ≡ []) × (ys ≡ [])
both_empty [] ys e = (refl, sym e)
both_empty (x ∷ xs) ys e = absurd (nonempty x (xs ++ ys) (sym e))

passed : (b : Bool) (name : List ℕ) (rest : List (List ℕ)) → cons_option (if b then None else Some name) rest ≡ [] → IsTrue b × (rest ≡ [])
passed true name rest e = (refl, e)
passed false name rest e = absurd (nonempty name rest e)

module _ (bound : Names) (name : List ℕ) where
  bound_of : (os : List Occurrence) → unbound bound os ≡ [] → Contains (names_of os) name → IsTrue (bound name)
  bound_of [] e m = absurd (nothing_in name m)
  bound_of (o ∷ os) e m = let (t, rest) = passed (is_among bound o) (shown o.name) (unbound bound os) e in pick o.name t (bound_of os rest) m
    where
      pick : (n : Option (List ℕ)) → IsTrue (has_name bound n) → (Contains (names_of os) name → IsTrue (bound name)) → Contains (put_name n (names_of os)) name → IsTrue (bound name)
      pick None t f m = absurd (false≢true t)
      pick (Some x) t f m = ⊎_elim (λ e. subst (λ y. IsTrue (bound y)) e t) f (first_or_rest x (names_of os) name m)

  bound_argument : (os : List Occurrence) → unbound_arguments bound os ≡ [] → Contains (names_of os) name → IsTrue (bound name)
  bound_argument [] e m = absurd (nothing_in name m)
  bound_argument (o ∷ os) e m = let (t, rest) = passed (is_bound_there bound o.is_argument o.name) (shown o.name) (unbound_arguments bound os) e in pick o.name t (bound_argument os rest) m
    where
      pick : (n : Option (List ℕ)) → IsTrue (is_bound_there bound o.is_argument n) → (Contains (names_of os) name → IsTrue (bound name)) → Contains (put_name n (names_of os)) name → IsTrue (bound name)
      pick None t f m = f m
      pick (Some x) t f m = ⊎_elim (λ e. subst (λ y. IsTrue (bound y)) e t) f (first_or_rest x (names_of os) name m)

  bound_side : (taken : Names) (side other : Side) → unbound_side taken bound side other ≡ [] → Contains (names_of (side_occurrences side)) name → IsTrue (bound name)
  bound_side taken (sides.Variable n) other e m = bound_of (side_occurrences (sides.Variable n)) e m
  bound_side taken sides.Any other e m = absurd (nothing_in name m)
  bound_side taken (sides.Compound os) other e m = bound_of os e m

  bound_mention : (taken : Names) (mention : Mention) → unbound_mention taken bound mention ≡ [] → Contains (names_of (mention_occurrences mention)) name → IsTrue (bound name)
  bound_mention taken (mentions.Atom os) e m = bound_argument os e m
  bound_mention taken (mentions.Equal left right) e m =
      let (l, r) = both_empty (unbound_side taken bound left right) (unbound_side taken bound right left) (sym e) in
      ⊎_elim (bound_side taken left right l) (bound_side taken right left r)
      (in_append (names_of (side_occurrences left)) (names_of (side_occurrences right)) name (subst (λ ns. Contains ns name) (names_append (side_occurrences left) (side_occurrences right)) m))
  bound_mention taken (mentions.Other os) e m = bound_of os e m

-- the names of a piece's global variables
abbrev piece_names : Piece → List (List ℕ)
piece_names (pieces.Uses os) = names_of os
piece_names (pieces.Plain mention) = names_of (mention_occurrences mention)
piece_names (pieces.Value side inside mentioned) = names_of (side_occurrences side)
piece_names (pieces.Part os condition) = []

bound_piece : (definite : Signature → Bool) (global outside : Names) (piece : Piece) (names : List (List ℕ)) → AreUnboundOf definite global outside piece names → names ≡ [] → (name : List ℕ) → Contains (piece_names piece) name → IsTrue (outside name)
bound_piece definite global outside (pieces.Uses os) names are e name m = bound_of outside name os (sym are ∙ e) m
bound_piece definite global outside (pieces.Plain mention) names are e name m = bound_mention outside name outside mention (sym are ∙ e) m
bound_piece definite global outside (pieces.Value side inside mentioned) names are e name m =
    bound_side outside name outside side (aggregate_side definite global inside mentioned) (sym are ∙ e) m
bound_piece definite global outside (pieces.Part os condition) names are e name m = absurd (nothing_in name m)

bound_pieces : (definite : Signature → Bool) (global outside : Names) (ps : List Piece) (names : List (List ℕ)) → AreUnboundAmong definite global outside ps names → names ≡ [] → (p : Piece) → Contains ps p → (name : List ℕ) → Contains (piece_names p) name → IsTrue (outside name)
bound_pieces definite global outside [] names are e p m name n = absurd (nothing_in p m)
bound_pieces definite global outside (q ∷ ps) names (first, rest, are, more, all) e p m name n =
    let (l, r) = both_empty first rest (sym e ∙ all) in
    ⊎_elim (λ s. bound_piece definite global outside p first (subst (λ x. AreUnboundOf definite global outside x first) s are) l name n) (λ t. bound_pieces definite global outside ps rest more r p t name n) (first_or_rest q ps p m)

-- ---- the global variables of a rule stand in its pieces

side_is : (t : Term) (w : Term-F Term) → roll-Term w ≡ t → names_of (side_occurrences (side_form t w)) ≡ variables (read_term t)
side_is t (Term-F.Var name) e = ap variables (sym (fold-roll-Term trees.Term term_step (Term-F.Var name)) ∙ ap read_term e)
side_is t Term-F.Any e = ap variables (sym (fold-roll-Term trees.Term term_step Term-F.Any) ∙ ap read_term e)
side_is t (Term-F.Int n) e = (is_read t).0
side_is t (Term-F.Str text) e = (is_read t).0
side_is t (Term-F.Const name) e = (is_read t).0
side_is t (Term-F.Fun name ts) e = (is_read t).0
side_is t (Term-F.Tuple ts) e = (is_read t).0
side_is t (Term-F.Minus p) e = (is_read t).0
side_is t (Term-F.Sum l op r) e = (is_read t).0
side_is t (Term-F.Product l op r) e = (is_read t).0
side_is t (Term-F.Range l r) e = (is_read t).0

both_sides : (l r : Term) → names_of (side_occurrences (side_of l) ++ side_occurrences (side_of r)) ≡ variables (read_term l) ++ variables (read_term r)
both_sides l r = names_append (side_occurrences (side_of l)) (side_occurrences (side_of r)) ∙ both_same _ _ _ _ (side_is l (out-Term l) (roll-out-Term l)) (side_is r (out-Term r) (roll-out-Term r))

both_terms : (l r : Term) → names_of (occurrences l ++ occurrences r) ≡ variables (read_term l) ++ variables (read_term r)
both_terms l r = names_append (occurrences l) (occurrences r) ∙ both_same _ _ _ _ (is_read l).0 (is_read r).0

comparison_is : (l : Term) (rel : Rel) (r : Term) → names_of (mention_occurrences (comparison_of l rel r)) ≡ variables (read_term l) ++ variables (read_term r)
comparison_is l Eq r = both_sides l r
comparison_is l Ne r = both_terms l r
comparison_is l Lt r = both_terms l r
comparison_is l Le r = both_terms l r
comparison_is l Gt r = both_terms l r
comparison_is l Ge r = both_terms l r

literal_is : (l : Literal) → names_of (mention_occurrences (mention_of l)) ≡ literal_variables (read_literal l)
literal_is (literals.Pos atom) = all_names atom.terms
literal_is (literals.Not atom) = all_names atom.terms
literal_is (literals.Compare left rel right) = comparison_is left rel right

-- there is a piece with the name
abbrev IsIn : List Piece → List ℕ → Type 0
IsIn ps name = (p : Piece) × Contains ps p × Contains (piece_names p) name

in_left : (ps qs : List Piece) (name : List ℕ) → IsIn ps name → IsIn (ps ++ qs) name
in_left ps qs name (p, m, n) = (p, to_left ps qs p m, n)

in_right : (ps qs : List Piece) (name : List ℕ) → IsIn qs name → IsIn (ps ++ qs) name
in_right ps qs name (p, m, n) = (p, to_right ps qs p m, n)

guard_in : (g : Option Guard) (name : List ℕ) → Contains (guard_variables (read_guard g)) name → IsIn (guard_pieces g) name
guard_in None name m = absurd (nothing_in name m)
guard_in (Some guard) name m = (pieces.Uses (occurrences guard.term), here (pieces.Uses (occurrences guard.term)) [], subst (λ ns. Contains ns name) (sym (is_read guard.term).0) m)

-- the same of the guard of an aggregate
value_in : (negated : Bool) (rel : Rel) (term : Term) (es : List AggElement) (name : List ℕ) → Contains (variables (read_term term)) name → Contains (piece_names (value_piece negated rel term es)) name
value_in false Eq t es name m = subst (λ ns. Contains ns name) (sym (side_is t (out-Term t) (roll-out-Term t))) m
value_in false Ne t es name m = subst (λ ns. Contains ns name) (sym (is_read t).0) m
value_in false Lt t es name m = subst (λ ns. Contains ns name) (sym (is_read t).0) m
value_in false Le t es name m = subst (λ ns. Contains ns name) (sym (is_read t).0) m
value_in false Gt t es name m = subst (λ ns. Contains ns name) (sym (is_read t).0) m
value_in false Ge t es name m = subst (λ ns. Contains ns name) (sym (is_read t).0) m
value_in true rel t es name m = subst (λ ns. Contains ns name) (sym (is_read t).0) m

values_in : (negated : Bool) (g : Option Guard) (es : List AggElement) (name : List ℕ) → Contains (guard_variables (read_guard g)) name → IsIn (value_pieces negated g es) name
values_in negated None es name m = absurd (nothing_in name m)
values_in negated (Some guard) es name m = (value_piece negated guard.rel guard.term es, here (value_piece negated guard.rel guard.term es) [], value_in negated guard.rel guard.term es name m)

aggregate_in : (negated : Bool) (left right : Option Guard) (es : List AggElement) (middle : List Piece) (name : List ℕ) → Contains (guard_variables (read_guard left) ++ guard_variables (read_guard right)) name → IsIn (value_pieces negated left es ++ middle ++ value_pieces negated right es) name
aggregate_in negated left right es middle name m = ⊎_elim
    (λ l. in_left (value_pieces negated left es ++ middle) (value_pieces negated right es) name (in_left (value_pieces negated left es) middle name (values_in negated left es name l)))
    (λ r. in_right (value_pieces negated left es ++ middle) (value_pieces negated right es) name (values_in negated right es name r))
    (in_append (guard_variables (read_guard left)) (guard_variables (read_guard right)) name m)

guards_in : (left right : Option Guard) (middle : List Piece) (name : List ℕ) → Contains (guard_variables (read_guard left) ++ guard_variables (read_guard right)) name → IsIn (guard_pieces left ++ middle ++ guard_pieces right) name
guards_in left right middle name m = ⊎_elim
    (λ l. in_left (guard_pieces left ++ middle) (guard_pieces right) name (in_left (guard_pieces left) middle name (guard_in left name l)))
    (λ r. in_right (guard_pieces left ++ middle) (guard_pieces right) name (guard_in right name r))
    (in_append (guard_variables (read_guard left)) (guard_variables (read_guard right)) name m)

head_in : (h : HeadForm) (name : List ℕ) → Contains (head_variables (read_head h)) name → IsIn (head_pieces h) name
head_in (heads.One atom) name m = (pieces.Uses (occurrences_of atom.terms), here (pieces.Uses (occurrences_of atom.terms)) [], subst (λ ns. Contains ns name) (sym (all_names atom.terms)) m)
head_in (heads.Choice left es right) name m = guards_in left right (map choice_piece es) name m
head_in heads.Nothing name m = absurd (nothing_in name m)

item_in : (i : BodyItem) (name : List ℕ) → Contains (item_variables (read_item i)) name → IsIn (item_pieces i) name
item_in (items.Plain l) name m = (pieces.Plain (mention_of l), here (pieces.Plain (mention_of l)) [], subst (λ ns. Contains ns name) (sym (literal_is l)) m)
item_in (items.All at l c) name m = absurd (nothing_in name m)
item_in (items.Agg negated left function es right) name m = aggregate_in negated left right es (map tuple_piece es) name m

items_in : (is : List BodyItem) (name : List ℕ) → Contains (flat_map item_variables (map read_item is)) name → IsIn (flat_map item_pieces is) name
items_in [] name m = absurd (nothing_in name m)
items_in (i ∷ is) name m = ⊎_elim (λ l. in_left (item_pieces i) (flat_map item_pieces is) name (item_in i name l)) (λ r. in_right (item_pieces i) (flat_map item_pieces is) name (items_in is name r))
    (in_append (item_variables (read_item i)) (flat_map item_variables (map read_item is)) name m)

rule_in : (rule : Rule) (name : List ℕ) → Contains (global_variables (read_rule rule)) name → IsIn (rule_pieces rule) name
rule_in rule name m = ⊎_elim (λ l. in_left (head_pieces rule.head) (flat_map item_pieces rule.body) name (head_in rule.head name l)) (λ r. in_right (head_pieces rule.head) (flat_map item_pieces rule.body) name (items_in rule.body name r))
    (in_append (head_variables (read_head rule.head)) (flat_map item_variables (map read_item rule.body)) name m)

-- ---- what shows its value is closed under what binds

literal_arguments : Literal → List (List ℕ)
literal_arguments (literals.Pos atom) = arguments_of (read_terms atom.terms)
literal_arguments (literals.Not atom) = []
literal_arguments (literals.Compare left rel right) = arguments (read_term left) ++ arguments (read_term right)

module _ (z : Names) where
  closed_arguments : (os : List Occurrence) → ((name : List ℕ) → Contains (argument_names os) name → IsTrue (z name)) → IsTrue (list_all (has_argument z) os)
  closed_arguments [] f = refl
  closed_arguments (o ∷ os) f = and_true (has_argument z o) (list_all (has_argument z) os) (pick o.is_argument o.name f) (closed_arguments os (λ name m. f name (weaken o.is_argument o.name name m)))
    where
      pick : (b : Bool) (n : Option (List ℕ)) → ((name : List ℕ) → Contains (put_if b n (argument_names os)) name → IsTrue (z name)) → IsTrue (not b || has_any_name z n)
      pick false n f = refl
      pick true None f = refl
      pick true (Some x) f = f x (here x (argument_names os))

      weaken : (b : Bool) (n : Option (List ℕ)) (name : List ℕ) → Contains (argument_names os) name → Contains (put_if b n (argument_names os)) name
      weaken false n name m = m
      weaken true None name m = m
      weaken true (Some x) name m = there x (argument_names os) name m

  closed_side : (t : Term) (w : Term-F Term) → roll-Term w ≡ t → (other : Side) → ((name : List ℕ) → Contains (arguments (read_term t)) name → IsTrue (z name)) → IsTrue (binds_side z (side_form t w) other)
  closed_side t (Term-F.Var name) e other f = or_right (not (has_all z (side_occurrences other))) (z name)
      (f name (subst (λ u. Contains (arguments u) name) (sym (fold-roll-Term trees.Term term_step (Term-F.Var name)) ∙ ap read_term e) (here name [])))
  closed_side t Term-F.Any e other f = refl
  closed_side t (Term-F.Int n) e other f = refl
  closed_side t (Term-F.Str text) e other f = refl
  closed_side t (Term-F.Const name) e other f = refl
  closed_side t (Term-F.Fun name ts) e other f = refl
  closed_side t (Term-F.Tuple ts) e other f = refl
  closed_side t (Term-F.Minus p) e other f = refl
  closed_side t (Term-F.Sum l op r) e other f = refl
  closed_side t (Term-F.Product l op r) e other f = refl
  closed_side t (Term-F.Range l r) e other f = refl

  closed_comparison : (l : Term) (rel : Rel) (r : Term) → ((name : List ℕ) → Contains (arguments (read_term l) ++ arguments (read_term r)) name → IsTrue (z name)) → IsTrue (is_closed z (comparison_of l rel r))
  closed_comparison l Eq r f = and_true (binds_side z (side_of l) (side_of r)) (binds_side z (side_of r) (side_of l))
      (closed_side l (out-Term l) (roll-out-Term l) (side_of r) (λ name m. f name (to_left (arguments (read_term l)) (arguments (read_term r)) name m)))
      (closed_side r (out-Term r) (roll-out-Term r) (side_of l) (λ name m. f name (to_right (arguments (read_term l)) (arguments (read_term r)) name m)))
  closed_comparison l Ne r f = refl
  closed_comparison l Lt r f = refl
  closed_comparison l Le r f = refl
  closed_comparison l Gt r f = refl
  closed_comparison l Ge r f = refl

  closed_literal : (l : Literal) → ((name : List ℕ) → Contains (literal_arguments l) name → IsTrue (z name)) → IsTrue (is_closed z (mention_of l))
  unfolding literal_arguments
  closed_literal (literals.Pos atom) f = closed_arguments (occurrences_of atom.terms) (λ name m. f name (subst (λ ns. Contains ns name) (all_arguments atom.terms) m))
  closed_literal (literals.Not atom) f = refl
  closed_literal (literals.Compare left rel right) f = closed_comparison left rel right f

-- ---- the arguments of a body's literal are among those of the body

later_in : (i : trees.Item) (rest : List trees.Item) (name : List ℕ) → Contains (items_arguments rest) name → Contains (items_arguments (i ∷ rest)) name
later_in (trees.Plain (trees.Pos atom)) rest name m = to_right (arguments_of atom.terms) (items_arguments rest) name m
later_in (trees.Plain (trees.Not atom)) rest name m = to_right (arguments_of atom.terms) (items_arguments rest) name m
later_in (trees.Plain (trees.Compare left rel right)) rest name m = to_right (arguments left) (arguments right ++ items_arguments rest) name (to_right (arguments right) (items_arguments rest) name m)
later_in (trees.Each l c) rest name m = m
later_in (trees.Agg g) rest name m = to_right (guard_arguments g.left) (guard_arguments g.right ++ items_arguments rest) name (to_right (guard_arguments g.right) (items_arguments rest) name m)

first_in : (l : Literal) (rest : List trees.Item) (name : List ℕ) → Contains (literal_arguments l) name → Contains (items_arguments (trees.Plain (read_literal l) ∷ rest)) name
unfolding literal_arguments
first_in (literals.Pos atom) rest name m = to_left (arguments_of (read_terms atom.terms)) (items_arguments rest) name m
first_in (literals.Not atom) rest name m = absurd (nothing_in name m)
first_in (literals.Compare left rel right) rest name m = ⊎_elim
    (λ l. to_left (arguments (read_term left)) (arguments (read_term right) ++ items_arguments rest) name l)
    (λ r. to_right (arguments (read_term left)) (arguments (read_term right) ++ items_arguments rest) name (to_left (arguments (read_term right)) (items_arguments rest) name r))
    (in_append (arguments (read_term left)) (arguments (read_term right)) name m)

arguments_in : (is : List BodyItem) (l : Literal) → Contains is (items.Plain l) → (name : List ℕ) → Contains (literal_arguments l) name → Contains (items_arguments (map read_item is)) name
arguments_in [] l m name n = absurd (nothing_in (items.Plain l) m)
arguments_in (i ∷ is) l m name n = ⊎_elim
    (λ e. subst (λ j. Contains (items_arguments (read_item j ∷ map read_item is)) name) (sym e) (first_in l (map read_item is) name n))
    (λ r. later_in (read_item i) (map read_item is) name (arguments_in is l r name n)) (first_or_rest i is (items.Plain l) m)

-- ---- what an aggregate's guard binds shows its value

aggregate_guards : (g : Option Guard) → List (List ℕ)
aggregate_guards g = guard_arguments (read_guard g)

values_shown : (negated : Bool) (left right : Option Guard) (function : Function) (es : List AggElement) (is : List BodyItem) → Contains is (items.Agg negated left function es right) → (name : List ℕ) → Contains (aggregate_guards left ++ aggregate_guards right) name → Contains (items_arguments (map read_item is)) name
unfolding aggregate_guards
values_shown negated left right function es [] m name n = absurd (nothing_in (items.Agg negated left function es right) m)
values_shown negated left right function es (i ∷ is) m name n = ⊎_elim
    (λ e. subst (λ j. Contains (items_arguments (read_item j ∷ map read_item is)) name) (sym e) (⊎_elim
    (λ l. to_left (guard_arguments (read_guard left)) (guard_arguments (read_guard right) ++ items_arguments (map read_item is)) name l)
    (λ r. to_right (guard_arguments (read_guard left)) (guard_arguments (read_guard right) ++ items_arguments (map read_item is)) name (to_left (guard_arguments (read_guard right)) (items_arguments (map read_item is)) name r))
    (in_append (guard_arguments (read_guard left)) (guard_arguments (read_guard right)) name n)))
    (λ r. later_in (read_item i) (map read_item is) name (values_shown negated left right function es is r name n)) (first_or_rest i is (items.Agg negated left function es right) m)

-- ---- what binds is of the body

module _ (definite : Signature → Bool) (global : Names) where
  abbrev binds : Piece → List Mention
  binds = binders definite global

  quiet_guard : (g : Option Guard) (p : Piece) → Contains (guard_pieces g) p → binds p ≡ []
  quiet_guard None p m = absurd (nothing_in p m)
  quiet_guard (Some guard) p m = ⊎_elim (λ e. subst (λ q. binds q ≡ []) e refl) (λ r. absurd (nothing_in p r)) (first_or_rest (pieces.Uses (occurrences guard.term)) [] p m)

  quiet_parts : {X : Type 0} (f : X → Piece) → ((x : X) → binds (f x) ≡ []) → (xs : List X) (p : Piece) → Contains (map f xs) p → binds p ≡ []
  quiet_parts f e xs p m = let (x, inside, is) = from_map f xs p m in subst (λ q. binds q ≡ []) is (e x)

  quiet_head : (h : HeadForm) (p : Piece) → Contains (head_pieces h) p → binds p ≡ []
  quiet_head (heads.One atom) p m = ⊎_elim (λ e. subst (λ q. binds q ≡ []) e refl) (λ r. absurd (nothing_in p r)) (first_or_rest (pieces.Uses (occurrences_of atom.terms)) [] p m)
  quiet_head (heads.Choice left es right) p m = ⊎_elim
      (λ l. ⊎_elim (quiet_guard left p) (quiet_parts choice_piece (λ e. refl) es p) (in_append (guard_pieces left) (map choice_piece es) p l))
      (quiet_guard right p) (in_append (guard_pieces left ++ map choice_piece es) (guard_pieces right) p m)
  quiet_head heads.Nothing p m = absurd (nothing_in p m)

  module _ (z : Names) where
    -- an aggregate gets nothing from its guard
    no_side : (b : Bool) (os : List Occurrence) (side : Side) → IsTrue (binds_side z (if b then sides.Compound os else sides.Any) side)
    no_side true os side = refl
    no_side false os side = refl

    closed_pair : (t : Term) (inside : List Occurrence) (mentioned : List Signature) → ((name : List ℕ) → Contains (arguments (read_term t)) name → IsTrue (z name))
        → IsTrue (is_closed z (mentions.Equal (side_of t) (aggregate_side definite global inside mentioned)))
    closed_pair t inside mentioned f =
        let other = aggregate_side definite global inside mentioned in
        and_true (binds_side z (side_of t) other) (binds_side z other (side_of t)) (closed_side z t (out-Term t) (roll-out-Term t) other f)
        (no_side (list_all definite mentioned) (filter (is_among global) inside) (side_of t))

    closed_value : (negated : Bool) (rel : Rel) (t : Term) (es : List AggElement) → ((name : List ℕ) → Contains (arguments (read_term t)) name → IsTrue (z name))
        → (mention : Mention) → Contains (binds (value_piece negated rel t es)) mention → IsTrue (is_closed z mention)
    closed_value false Eq t es f mention m = ⊎_elim
        (λ e. subst (λ x. IsTrue (is_closed z x)) e (closed_pair t (flat_map tuple_occurrences es) (flat_map tuple_signatures es) f))
        (λ r. absurd (nothing_in mention r))
        (first_or_rest (mentions.Equal (side_of t) (aggregate_side definite global (flat_map tuple_occurrences es) (flat_map tuple_signatures es))) [] mention m)
    closed_value false Ne t es f mention m = absurd (nothing_in mention m)
    closed_value false Lt t es f mention m = absurd (nothing_in mention m)
    closed_value false Le t es f mention m = absurd (nothing_in mention m)
    closed_value false Gt t es f mention m = absurd (nothing_in mention m)
    closed_value false Ge t es f mention m = absurd (nothing_in mention m)
    closed_value true rel t es f mention m = absurd (nothing_in mention m)

    closed_values : (negated : Bool) (g : Option Guard) (es : List AggElement) → ((name : List ℕ) → Contains (aggregate_guards g) name → IsTrue (z name))
        → (p : Piece) → Contains (value_pieces negated g es) p → (mention : Mention) → Contains (binds p) mention → IsTrue (is_closed z mention)
    unfolding aggregate_guards
    closed_values negated None es f p m mention n = absurd (nothing_in p m)
    closed_values negated (Some guard) es f p m mention n = ⊎_elim
        (λ e. closed_value negated guard.rel guard.term es f mention (subst (λ q. Contains (binds q) mention) (sym e) n))
        (λ r. absurd (nothing_in p r)) (first_or_rest (value_piece negated guard.rel guard.term es) [] p m)

    closed_item : (is : List BodyItem) → ((name : List ℕ) → Contains (items_arguments (map read_item is)) name → IsTrue (z name))
        → (i : BodyItem) → Contains is i → (p : Piece) → Contains (item_pieces i) p → (mention : Mention) → Contains (binds p) mention → IsTrue (is_closed z mention)
    closed_item is f (items.Plain l) at p m mention n =
        let e : pieces.Plain (mention_of l) ≡ p = ⊎_elim (λ e. e) (λ r. absurd (nothing_in p r)) (first_or_rest (pieces.Plain (mention_of l)) [] p m) in
        let same : mention_of l ≡ mention = ⊎_elim (λ q. q) (λ r. absurd (nothing_in mention r)) (first_or_rest (mention_of l) [] mention (subst (λ q. Contains (binds q) mention) (sym e) n)) in
        subst (λ x. IsTrue (is_closed z x)) same (closed_literal z l (λ name a. f name (arguments_in is l at name a)))
    closed_item is f (items.All at l c) of_item p m mention n =
        absurd (⊎_elim (λ e. nothing_in mention (subst (λ q. Contains (binds q) mention) (sym e) n)) (λ r. nothing_in p r) (first_or_rest (pieces.Part _ _) [] p m))
    closed_item is f (items.Agg negated left function es right) at p m mention n =
        let shown = values_shown negated left right function es is at in
        ⊎_elim
        (λ l. ⊎_elim
        (λ v. closed_values negated left es (λ name a. f name (shown name (to_left (aggregate_guards left) (aggregate_guards right) name a))) p v mention n)
        (λ t. absurd (nothing_in mention (subst (λ ms. Contains ms mention) (quiet_parts tuple_piece (λ e. refl) es p t) n)))
        (in_append (value_pieces negated left es) (map tuple_piece es) p l))
        (λ v. closed_values negated right es (λ name a. f name (shown name (to_right (aggregate_guards left) (aggregate_guards right) name a))) p v mention n)
        (in_append (value_pieces negated left es ++ map tuple_piece es) (value_pieces negated right es) p m)

-- ---- the law

module _ (definite : Signature → Bool) (rule : Rule) where
  abbrev shows : Names
  shows = among (items_arguments (map read_item rule.body))

  abbrev rule_binders : Piece → List Mention
  rule_binders = binders definite (globals (rule_pieces rule))

  closed_mention : (mention : Mention) → Contains (flat_map rule_binders (rule_pieces rule)) mention → IsTrue (is_closed shows mention)
  closed_mention mention m =
      let global = globals (rule_pieces rule) in
      let (p, inside, n) = from_flat_map rule_binders (rule_pieces rule) mention m in
      ⊎_elim (λ h. absurd (nothing_in mention (subst (λ ms. Contains ms mention) (quiet_head definite global rule.head p h) n)))
      (λ b. let (i, among_items, of_item) = from_flat_map item_pieces rule.body p b in
      closed_item definite global shows rule.body (λ name a. is_among_list (items_arguments (map read_item rule.body)) name a) i among_items p of_item mention n)
      (in_append (head_pieces rule.head) (flat_map item_pieces rule.body) p inside)

  pub is_shown : IsAllBound definite (rule_source rule) → IsShown (read_rule rule)
  is_shown (outside, bound, all) name m =
      let (p, inside, n) = rule_in rule name m in
      in_list (items_arguments (map read_item rule.body)) name
      (bound.least shows (λ other e. absurd (false≢true e)) (all_true (is_closed shows) (flat_map rule_binders (rule_pieces rule)) closed_mention) name
      (bound_pieces definite (globals (rule_pieces rule)) outside (rule_pieces rule) [] all refl p inside name n))
