-- Lists and rules over numbers for names, as the table of names grows.
use Rattle.std.proofs.Common.{Result, Ok, Err, OnOk, IfOk, ◌≡◌, refl, sym, ◌∙◌, ap, ap₂, subst, ℕ, ◌<◌, Bool, true, false, not, ◌&&◌, ◌||◌, List, [], ◌∷◌, ◌++◌, append_assoc, length, Option, Some, None, is_some, slice_get, get_or, All, arith}
use Rattle.std.specs.List.{list_all}
use Rattle.std.proofs.lemmas.List.{get_or_append_left, append-nil, length-append}
use Rattle.std.proofs.lemmas.List.Elements.{All-nil, All-cons, All-append, All-weaker, All-head, All-tail}
use Rattle.std.proofs.lemmas.List.Folds.{list_all-append}
use Rattle.std.proofs.lemmas.Option.{slice_get_within, get_or_from_slice_get, slice_get-get_or}
use mathlib.Core.Path.{fun_ext}
use Rattle.definite.specs.declared.Rule.{Rule}
use Rattle.definite.specs.Rules.{obeys, IsRuleOf, marked, IsLeast}
use Rattle.ap_pieces.specs.declared.variables.Occurrence.{Occurrence}
use Rattle.ap_bindings.specs.declared.names.NameTable.{NameTable}
use Rattle.ap_pieces.specs.declared.pieces.Mention.{Mention}
use Rattle.ap_pieces.specs.Bound.{Names, no_names, IsSubset, IsClosed, IsBound, is_closed, has_name, has_any_name, has_all}
use Rattle.ap_bindings.specs.Searches.{number_in, is_marked, IsTable, Grows, also, at_numbers, IsListed, AreRules, has_counted, is_named}

-- ---- tables that grow

pub grows_not : (table : NameTable) → IsTable table → Grows table table
grows_not table h = record { table = h; more = []; names = sym (append-nil table.names) }

pub grows_twice : (t u v : NameTable) → Grows t u → Grows u v → Grows t v
grows_twice t u v g h = record {
  table = h.table;
  more = g.more ++ h.more;
  names = h.names ∙ (ap (λ ns. ns ++ h.more) g.names ∙ append_assoc t.names g.more h.more);
}

-- ---- lists

same_list : (names more : List (List ℕ)) (z : Names) (list : List ℕ) → All (λ a. a < length names) list → list_all (at_numbers (names ++ more) z) list ≡ list_all (at_numbers names z) list
same_list names more z [] h = refl
same_list names more z (a ∷ list) h = ap₂ (λ p q. p && q)
    (ap z (get_or_append_left names more [] a (All-head (λ a. a < length names) a list h)))
    (same_list names more z list (All-tail (λ a. a < length names) a list h))

below_more : (names more : List (List ℕ)) (list : List ℕ) → All (λ a. a < length names) list → All (λ a. a < length (names ++ more)) list
below_more names more list h = All-weaker (λ a. a < length names) (λ a. a < length (names ++ more)) (λ a l. omega (arith, length-append names more)) list h

pub listed_grows : (t u : NameTable) (list : List ℕ) (test : Names → Bool) → Grows t u → IsListed t.names list test → IsListed u.names list test
listed_grows t u list test g h = subst (λ (names : List (List ℕ)). IsListed names list test) (sym g.names) (record {
  below = below_more t.names g.more list h.below;
  same = λ z. same_list t.names g.more z list h.below ∙ h.same z;
})

pub listed_none : (names : List (List ℕ)) → IsListed names [] (λ z. true)
listed_none names = record { below = All-nil (λ a. a < length names); same = λ z. refl }

pub listed_same : (names : List (List ℕ)) (list : List ℕ) (test other : Names → Bool) → ((z : Names) → test z ≡ other z) → IsListed names list test → IsListed names list other
listed_same names list test other e h = record { below = h.below; same = λ z. h.same z ∙ e z }

and_true : (b : Bool) → b ≡ (b && true)
and_true true = refl
and_true false = refl

pub listed_given : (given : Names) (name : List ℕ) (names : List (List ℕ)) (list : List ℕ) (test : Names → Bool) → given name ≡ true → IsListed names list test → IsListed names list (λ z. test z && also given z name)
listed_given given name names list test e h = listed_same names list test (λ z. test z && also given z name) (λ z. and_true (test z) ∙ ap (λ b. test z && (b || z name)) (sym e)) h

pub listed_push : (given : Names) (name : List ℕ) (t u : NameTable) (list : List ℕ) (test : Names → Bool) (i : ℕ) → given name ≡ false → Grows t u → slice_get u.names i ≡ Some name → IsListed t.names list test
    → IsListed u.names (list ++ i ∷ []) (λ z. test z && also given z name)
listed_push given name t u list test i e g at h =
    let k = listed_grows t u list test g h in
    record {
      below = All-append (λ a. a < length u.names) list (i ∷ []) k.below (All-cons (λ a. a < length u.names) i [] (slice_get_within u.names i name at) (All-nil (λ a. a < length u.names)));
      same = λ z. list_all-append (at_numbers u.names z) list (i ∷ [])
          ∙ ap₂ (λ p q. p && q) (k.same z) (sym (and_true (z (get_or u.names i []))) ∙ (ap z (get_or_from_slice_get u.names i name [] at) ∙ ap (λ b. b || z name) (sym e)));
    }

-- ---- rules

same_rules : (names more : List (List ℕ)) (z : Names) (rules : List Rule) → All (IsRuleOf (length names)) rules → list_all (obeys (at_numbers (names ++ more) z)) rules ≡ list_all (obeys (at_numbers names z)) rules
same_rules names more z [] h = refl
same_rules names more z (rule ∷ rules) h =
    let here = All-head (IsRuleOf (length names)) rule rules h in
    ap₂ (λ p q. p && q)
    (ap₂ (λ p q. not p || q) (same_list names more z rule.body here.body) (same_list names more z rule.heads here.heads))
    (same_rules names more z rules (All-tail (IsRuleOf (length names)) rule rules h))

pub rules_grow : (t u : NameTable) (rules : List Rule) (test : Names → Bool) → Grows t u → AreRules t.names rules test → AreRules u.names rules test
rules_grow t u rules test g h = subst (λ (names : List (List ℕ)). AreRules names rules test) (sym g.names) (record {
  below = All-weaker (IsRuleOf (length t.names)) (IsRuleOf (length (t.names ++ g.more))) (λ rule k. record { body = below_more t.names g.more rule.body k.body; heads = below_more t.names g.more rule.heads k.heads }) rules h.below;
  same = λ z. same_rules t.names g.more z rules h.below ∙ h.same z;
})

pub rules_none : (names : List (List ℕ)) → AreRules names [] (λ z. true)
rules_none names = record { below = All-nil (IsRuleOf (length names)); same = λ z. refl }

pub rules_same : (names : List (List ℕ)) (rules : List Rule) (test other : Names → Bool) → ((z : Names) → test z ≡ other z) → AreRules names rules test → AreRules names rules other
rules_same names rules test other e h = record { below = h.below; same = λ z. h.same z ∙ e z }

pub rules_kept : (names : List (List ℕ)) (rules : List Rule) (test more : Names → Bool) → ((z : Names) → more z ≡ true) → AreRules names rules test → AreRules names rules (λ z. test z && more z)
rules_kept names rules test more e h = rules_same names rules test (λ z. test z && more z) (λ z. and_true (test z) ∙ ap (λ b. test z && b) (sym (e z))) h

pub rules_push : (t u : NameTable) (rules : List Rule) (rule : Rule) (test body heads : Names → Bool) → Grows t u → AreRules t.names rules test → IsListed u.names rule.body body → IsListed u.names rule.heads heads
    → AreRules u.names (rules ++ rule ∷ []) (λ z. test z && (not (body z) || heads z))
rules_push t u rules rule test body heads g h b k =
    let old = rules_grow t u rules test g h in
    record {
      below = All-append (IsRuleOf (length u.names)) rules (rule ∷ []) old.below (All-cons (IsRuleOf (length u.names)) rule [] (record { body = b.below; heads = k.below }) (All-nil (IsRuleOf (length u.names))));
      same = λ z. list_all-append (obeys (at_numbers u.names z)) rules (rule ∷ [])
          ∙ ap₂ (λ p q. p && q) (old.same z) (sym (and_true (obeys (at_numbers u.names z) rule)) ∙ ap₂ (λ p q. not p || q) (b.same z) (k.same z));
    }

-- ---- occurrences with names

named_step : (z : Names) (name : Option (List ℕ)) (rest more others : Bool) → (is_some name && rest) ≡ true → (rest ≡ true → more ≡ others) → (has_any_name z name && more) ≡ (has_name z name && others)
named_step z None rest more others e h = cc
named_step z (Some name) rest more others e h = ap (λ b. z name && b) (h e)

pub all_named : (z : Names) (os : List Occurrence) → list_all is_named os ≡ true → list_all (has_counted true z) os ≡ has_all z os
all_named z [] e = refl
all_named z (o ∷ os) e = named_step z o.name (list_all is_named os) (list_all (has_counted true z) os) (has_all z os) e (all_named z os)

and_false : (b : Bool) → (b && false) ≡ false
and_false true = refl
and_false false = refl

not_named_step : (z : Names) (name : Option (List ℕ)) (rest others : Bool) → (is_some name && rest) ≡ false → (rest ≡ false → others ≡ false) → (has_name z name && others) ≡ false
not_named_step z None rest others e h = refl
not_named_step z (Some name) rest others e h = ap (λ b. z name && b) (h e) ∙ and_false (z name)

pub not_all_named : (z : Names) (os : List Occurrence) → list_all is_named os ≡ false → has_all z os ≡ false
not_all_named z [] e = cc
not_all_named z (o ∷ os) e = not_named_step z o.name (list_all is_named os) (has_all z os) e (not_all_named z os)

-- ---- what is marked in the end

agree_list : (n : ℕ) (x y : ℕ → Bool) (list : List ℕ) → ((a : ℕ) → a < n → x a ≡ y a) → All (λ a. a < n) list → list_all x list ≡ list_all y list
agree_list n x y [] e h = refl
agree_list n x y (a ∷ list) e h = ap₂ (λ p q. p && q) (e a (All-head (λ a. a < n) a list h)) (agree_list n x y list e (All-tail (λ a. a < n) a list h))

agree_rules : (n : ℕ) (x y : ℕ → Bool) (rules : List Rule) → ((a : ℕ) → a < n → x a ≡ y a) → All (IsRuleOf n) rules → list_all (obeys x) rules ≡ list_all (obeys y) rules
agree_rules n x y [] e h = refl
agree_rules n x y (rule ∷ rules) e h =
    let here = All-head (IsRuleOf n) rule rules h in
    ap₂ (λ p q. p && q)
    (ap₂ (λ p q. not p || q) (agree_list n x y rule.body e here.body) (agree_list n x y rule.heads e here.heads))
    (agree_rules n x y rules e (All-tail (IsRuleOf n) rule rules h))

or_absorbs : (b c : Bool) → (b ≡ true → c ≡ true) → (b || c) ≡ c
or_absorbs true c h = sym (h refl)
or_absorbs false c h = refl

module _ (given : Names) (table : NameTable) (rules : List Rule) (conjunction : List Mention) (marks : List Bool)
    (h : IsTable table) (r : AreRules table.names rules (λ z. list_all (is_closed (also given z)) conjunction)) (d : IsLeast rules (marked marks)) where
  abbrev found : Names
  found name = is_marked marks (number_in table name)

  at_place : (a : ℕ) → a < length table.names → found (get_or table.names a []) ≡ marked marks a
  at_place a l = ap (is_marked marks) (h.back (get_or table.names a []) a (slice_get-get_or table.names a [] l))

  closed : list_all (is_closed (also given found)) conjunction ≡ true
  closed = sym (r.same found) ∙ (agree_rules (length table.names) (at_numbers table.names found) (marked marks) rules at_place r.below ∙ d.closed)

  absorbed : (z : Names) → IsSubset given z → also given z ≡ z
  absorbed z s = fun_ext (λ name. or_absorbs (given name) (z name) (s name))

  module _ (z : Names) (s : IsSubset given z) (c : IsClosed z conjunction) where
    obeyed : list_all (obeys (at_numbers table.names z)) rules ≡ true
    obeyed = r.same z ∙ (ap (λ y. list_all (is_closed y) conjunction) (absorbed z s) ∙ c)

    from_number : (name : List ℕ) (number : Option ℕ) → number_in table name ≡ number → is_marked marks number ≡ true → z name ≡ true
    from_number name None e m = cc
    from_number name (Some a) e m = ap z (sym (get_or_from_slice_get table.names a name [] (h.at name a e))) ∙ d.least (at_numbers table.names z) obeyed a m

    within : (name : List ℕ) (b : Bool) → given name ≡ b → (b || found name) ≡ true → z name ≡ true
    within name true e m = s name e
    within name false e m = from_number name (number_in table name) refl m

  pub binds : IsBound given conjunction (also given (λ name. is_marked marks (number_in table name)))
  binds = record {
    given_ones = λ name e. ap (λ b. b || found name) e;
    closed = closed;
    least = λ z s c name m. within z s c name (given name) refl m;
  }

and_assoc : (a b c : Bool) → ((a && b) && c) ≡ (a && (b && c))
and_assoc true b c = refl
and_assoc false b c = refl

pub rules_both : (names : List (List ℕ)) (rules : List Rule) (test one other : Names → Bool) → AreRules names rules (λ z. (test z && one z) && other z) → AreRules names rules (λ z. test z && (one z && other z))
rules_both names rules test one other h = rules_same names rules (λ z. (test z && one z) && other z) (λ z. test z && (one z && other z)) (λ z. and_assoc (test z) (one z) (other z)) h

-- ---- answers

pub if_ok : {T E : Type 0} (r : Result T E) (P Q : T → Type 0) → ((x : T) → P x → Q x) → IfOk r P → IfOk r Q
if_ok (Ok x) P Q h p = h x p
if_ok (Err e) P Q h p = p

pub on_ok : {T E : Type 0} (r : Result T E) (P Q : Type 0) → (P → Q) → OnOk r P → OnOk r Q
on_ok (Ok x) P Q h p = h p
on_ok (Err e) P Q h p = p

pub one_mention : (z : Names) (m : Mention) → is_closed z m ≡ list_all (is_closed z) (m ∷ [])
one_mention z m = and_true (is_closed z m)

pub without_given : (none : Names) (conjunction : List Mention) (bound : Names) → ((name : List ℕ) → none name ≡ false) → IsBound none conjunction (also none bound) → IsBound no_names conjunction bound
without_given none conjunction bound e h =
    let same : none ≡ no_names = fun_ext e in
    subst (λ (given : Names). IsBound given conjunction (also given bound)) same h
