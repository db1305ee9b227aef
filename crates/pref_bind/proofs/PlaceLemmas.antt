-- Places of statements by their names.
use Rattle.std.proofs.Common.{◌≡◌, ℕ, zero, suc, ◌+◌, ◌<◌, Bool, true, false, ◌||◌, List, [], ◌∷◌, ◌++◌, length, get_or, take, cond, Option, Some, None, is_some, append-nil, slice_get, refl, sym, ap, ◌∙◌, subst, arith}
use Rattle.std.specs.Prelude.{if◌then◌else◌}
use Rattle.std.specs.Str.{bytes_eq}
use Rattle.std.proofs.lemmas.List.{take_more}
use Rattle.std.proofs.lemmas.List.Elements.{filter_map-append}
use Rattle.std.proofs.lemmas.Slice.Eq.{bytes_eq-Decides}
use Rattle.ap_syntax.specs.declared.preferences.Preference.{Preference}
use Rattle.ap_syntax.specs.declared.programs.Statement.{Statement}
use Rattle.ap_syntax.specs.declared.programs.Statement.TheVariants as statement
use Rattle.pref_bind.specs.Causes.{is_declared}
use Rattle.program_form.specs.Programs.{preference_of, preferences}
use Rattle.pref_bind.specs.Stacks.{has_name, or_count, place_from, place_in, number_in}

-- a statement of this name stands at this place, where they are counted from k on
abbrev pub IsAt : ℕ → List Preference → List ℕ → ℕ → Type 0
IsAt k ps name i = (j : ℕ) × (p : Preference) × (i ≡ k + j) × (slice_get ps j ≡ Some p) × (p.name ≡ name)

found_by : (k : ℕ) (ps : List Preference) (p : Preference) (name : List ℕ) (i : ℕ) (b : Bool) → has_name name p ≡ b → (if b then Some k else place_from (k + 1) ps name) ≡ Some i
    → (place_from (k + 1) ps name ≡ Some i → IsAt (k + 1) ps name i) → IsAt k (p ∷ ps) name i
found_by k ps p name i true is e later = let same : k ≡ i = cc in (zero, p, omega (arith, same), refl, (bytes_eq-Decides p.name name).0 is)
found_by k ps p name i false is e later =
    let r = later e in
    let h = r.2 in (suc r.0, r.1, omega (arith, h), r.3, r.4)

-- the place is one of the list, and the statement there has the name
pub place_found : (k : ℕ) (ps : List Preference) (name : List ℕ) (i : ℕ) → place_from k ps name ≡ Some i → IsAt k ps name i
place_found k [] name i e = cc
place_found k (p ∷ ps) name i e = found_by k ps p name i (has_name name p) refl e (place_found (k + 1) ps name i)

pub place_within : (ps : List Preference) (name : List ℕ) (i : ℕ) → place_in ps name ≡ Some i → (p : Preference) × (slice_get ps i ≡ Some p) × (p.name ≡ name)
place_within ps name i e =
    let r = place_found 0 ps name i e in
    let h = r.2 in
    let same : r.0 ≡ i = omega (arith, h) in
    (r.1, subst (λ j. slice_get ps j ≡ Some r.1) same r.3, r.4)

behind_by : (k : ℕ) (before after : List Preference) (p q : Preference) (b : Bool) → (if b then Some k else place_from (k + 1) before p.name) ≡ None
    → (place_from (k + 1) before p.name ≡ None → place_from (k + 1) (before ++ p ∷ after) p.name ≡ Some ((k + 1) + length before))
    → (if b then Some k else place_from (k + 1) (before ++ p ∷ after) p.name) ≡ Some (k + length (q ∷ before))
behind_by k before after p q true e later = cc
behind_by k before after p q false e later = let count : (k + 1) + length before ≡ k + length (q ∷ before) = omega arith in later e ∙ ap (λ n. Some n) count

-- behind others the first that has the name stands
pub place_behind : (k : ℕ) (before after : List Preference) (p : Preference) → place_from k before p.name ≡ None → place_from k (before ++ p ∷ after) p.name ≡ Some (k + length before)
place_behind k [] after p e =
    let own : has_name p.name p ≡ true = (bytes_eq-Decides p.name p.name).1 refl in
    let here : k ≡ k + zero = omega arith in
    rw own (ap (λ n. Some n) here)
place_behind k (q ∷ before) after p e = behind_by k before after p q (has_name p.name q) e (place_behind (k + 1) before after p)

-- one statement more
abbrev pub or_this : Option ℕ → Bool → ℕ → Option ℕ
or_this (Some i) b k = Some i
or_this None b k = if b then Some k else None

more_by : (k : ℕ) (ps : List Preference) (p q : Preference) (name : List ℕ) (b : Bool) → place_from (k + 1) (ps ++ p ∷ []) name ≡ or_this (place_from (k + 1) ps name) (has_name name p) ((k + 1) + length ps)
    → (if b then Some k else place_from (k + 1) (ps ++ p ∷ []) name) ≡ or_this (if b then Some k else place_from (k + 1) ps name) (has_name name p) (k + length (q ∷ ps))
more_by k ps p q name true later = refl
more_by k ps p q name false later =
    let count : (k + 1) + length ps ≡ k + length (q ∷ ps) = omega arith in
    later ∙ ap (or_this (place_from (k + 1) ps name) (has_name name p)) count

pub place_more : (k : ℕ) (ps : List Preference) (p : Preference) (name : List ℕ) → place_from k (ps ++ p ∷ []) name ≡ or_this (place_from k ps name) (has_name name p) (k + length ps)
place_more k [] p name = let here : k ≡ k + zero = omega arith in ap (λ n. if has_name name p then Some n else None) here
place_more k (q ∷ ps) p name = more_by k ps p q name (has_name name q) (place_more (k + 1) ps p name)

-- ---- declared names

-- a name is declared exactly where a statement has it
none_by : (k : ℕ) (ss : List Statement) (name : List ℕ) (b : Bool) → (b || is_declared ss name) ≡ false → (is_declared ss name ≡ false → place_from (k + 1) (preferences ss) name ≡ None)
    → (if b then Some k else place_from (k + 1) (preferences ss) name) ≡ None
none_by k ss name true e later = cc
none_by k ss name false e later = later e

some_by : (k : ℕ) (ss : List Statement) (name : List ℕ) (b : Bool) → (b || is_declared ss name) ≡ true → (is_declared ss name ≡ true → (i : ℕ) × (place_from (k + 1) (preferences ss) name ≡ Some i))
    → (i : ℕ) × ((if b then Some k else place_from (k + 1) (preferences ss) name) ≡ Some i)
some_by k ss name true e later = (k, refl)
some_by k ss name false e later = later e

pub none_declared : (k : ℕ) (ss : List Statement) (name : List ℕ) → is_declared ss name ≡ false → place_from k (preferences ss) name ≡ None
none_declared k [] name e = refl
none_declared k (statement.Preference p ∷ ss) name e = none_by k ss name (bytes_eq p.name name) e (none_declared (k + 1) ss name)
none_declared k (statement.Rule r ∷ ss) name e = none_declared k ss name e
none_declared k (statement.Const file at other value ∷ ss) name e = none_declared k ss name e
none_declared k (statement.Show what ∷ ss) name e = none_declared k ss name e
none_declared k (statement.Defined other arity ∷ ss) name e = none_declared k ss name e
none_declared k (statement.Part file at kind ∷ ss) name e = none_declared k ss name e
none_declared k (statement.Optimize file at other ∷ ss) name e = none_declared k ss name e

pub some_declared : (k : ℕ) (ss : List Statement) (name : List ℕ) → is_declared ss name ≡ true → (i : ℕ) × (place_from k (preferences ss) name ≡ Some i)
some_declared k [] name e = cc
some_declared k (statement.Preference p ∷ ss) name e = some_by k ss name (bytes_eq p.name name) e (some_declared (k + 1) ss name)
some_declared k (statement.Rule r ∷ ss) name e = some_declared k ss name e
some_declared k (statement.Const file at other value ∷ ss) name e = some_declared k ss name e
some_declared k (statement.Show what ∷ ss) name e = some_declared k ss name e
some_declared k (statement.Defined other arity ∷ ss) name e = some_declared k ss name e
some_declared k (statement.Part file at kind ∷ ss) name e = some_declared k ss name e
some_declared k (statement.Optimize file at other ∷ ss) name e = some_declared k ss name e

-- ---- tables

none_and_some : (o : Option ℕ) → o ≡ None → is_some o ≡ true → ⊥
none_and_some o e f = let clash : false ≡ true = sym (ap is_some e) ∙ f in cc

-- a name that has a place keeps it
pub table_kept : (ps : List Preference) (p : Preference) (o : List ℕ → Option ℕ) → ((name : List ℕ) → o name ≡ place_in ps name) → is_some (o p.name) ≡ true → (name : List ℕ) → o name ≡ place_in (ps ++ p ∷ []) name
table_kept ps p o h some name = h name ∙ (by (place_in ps name) (has_name name p) refl refl ∙ sym (place_more 0 ps p name))
  where
    by : (x : Option ℕ) (b : Bool) → place_in ps name ≡ x → has_name name p ≡ b → x ≡ or_this x b (0 + length ps)
    by (Some i) b e f = refl
    by None false e f = refl
    by None true e f =
        let same : p.name ≡ name = (bytes_eq-Decides p.name name).0 f in
        let none : o p.name ≡ None = ap o same ∙ (h name ∙ e) in absurd (none_and_some (o p.name) none some)

-- a name that has none gets the next one
pub table_added : (ps : List Preference) (p : Preference) (old new : List ℕ → Option ℕ) (number : ℕ) → length ps ≡ number → ((name : List ℕ) → old name ≡ place_in ps name) → old p.name ≡ None
    → ((name : List ℕ) → new name ≡ cond (bytes_eq p.name name) (Some number) (old name)) → (name : List ℕ) → new name ≡ place_in (ps ++ p ∷ []) name
table_added ps p old new number count h none added name = added name ∙ (by (has_name name p) refl ∙ sym (place_more 0 ps p name))
  where
    beside : (x : Option ℕ) → x ≡ or_this x false (0 + length ps)
    beside (Some i) = refl
    beside None = refl

    by : (b : Bool) → has_name name p ≡ b → cond b (Some number) (old name) ≡ or_this (place_in ps name) b (0 + length ps)
    by false e = h name ∙ beside (place_in ps name)
    by true e =
        let same : p.name ≡ name = (bytes_eq-Decides p.name name).0 e in
        let gone : place_in ps name ≡ None = sym (h name) ∙ (ap old (sym same) ∙ none) in
        let here : number ≡ 0 + length ps = omega (arith, count) in
        rw gone (ap (λ n. Some n) here)

-- ---- the first statements of a list

pub preferences_more : (ss : List Statement) (i : ℕ) (s : Statement) (p : Preference) → i < length ss → s ≡ get_or ss i s → s ≡ statement.Preference p → preferences (take (i + 1) ss) ≡ preferences (take i ss) ++ p ∷ []
preferences_more ss i s p lt is e =
    ap preferences (take_more ss i s lt ∙ ap (λ x. take i ss ++ x ∷ []) (sym is ∙ e)) ∙ filter_map-append preference_of (take i ss) (statement.Preference p ∷ [])

nothing_of : (s : Statement) → ((p : Preference) → s ≡ statement.Preference p → ⊥) → preferences (s ∷ []) ≡ []
nothing_of (statement.Preference p) n = absurd (n p refl)
nothing_of (statement.Rule r) n = refl
nothing_of (statement.Const file at name value) n = refl
nothing_of (statement.Show what) n = refl
nothing_of (statement.Defined name arity) n = refl
nothing_of (statement.Part file at kind) n = refl
nothing_of (statement.Optimize file at name) n = refl

pub preferences_same : (ss : List Statement) (i : ℕ) (s : Statement) → i < length ss → s ≡ get_or ss i s → ((p : Preference) → s ≡ statement.Preference p → ⊥) → preferences (take (i + 1) ss) ≡ preferences (take i ss)
preferences_same ss i s lt is n =
    ap preferences (take_more ss i s lt ∙ ap (λ x. take i ss ++ x ∷ []) (sym is))
    ∙ (filter_map-append preference_of (take i ss) (s ∷ []) ∙ (ap (λ ps. preferences (take i ss) ++ ps) (nothing_of s n) ∙ append-nil (preferences (take i ss))))

pub none_left : (o : Option ℕ) → is_some o ≡ false → o ≡ None
none_left None e = refl
none_left (Some i) e = cc
