-- What was taken, one statement more.
use Rattle.std.proofs.Common.{◌≡◌, ◌≢◌, ℕ, zero, suc, ◌+◌, ◌<◌, Bool, true, false, ◌||◌, List, [], ◌∷◌, ◌++◌, length, get_or, map, Option, Some, None, is_none, slice_get, refl, sym, ap, ◌∙◌, subst, append_assoc, append-nil, arith, ◌⊎◌, inl, inr, ⊎_elim}
use Rattle.std.specs.Prelude.{◌==◌, Err, Ok, OnOk, Result, fold, if◌then◌else◌, slice_set}
use Rattle.std.specs.List.{filter_map, list_any}
use Rattle.std.specs.Str.{bytes_eq}
use Rattle.std.proofs.lemmas.Bool.{eqb-true, eq-eqb}
use Rattle.std.proofs.lemmas.List.{length-append, length-map, map-append}
use Rattle.std.proofs.lemmas.List.Elements.{filter_map-append}
use Rattle.std.proofs.lemmas.List.Folds.{list_any-append}
use Rattle.std.proofs.lemmas.List.Sums.{fold-append}
use Rattle.std.proofs.lemmas.Option.{slice_get-get_or, slice_get_within}
use Rattle.std.proofs.lemmas.Slice.Eq.{bytes_eq-Decides}
use Rattle.ap_syntax.specs.declared.preferences.Preference.{Preference}
use Rattle.ap_syntax.specs.declared.programs.PartKind.{PartKind}
use Rattle.ap_syntax.specs.declared.programs.PartKind.TheVariants as part
use Rattle.ap_syntax.specs.declared.programs.Statement.{Statement}
use Rattle.ap_syntax.specs.declared.programs.Statement.TheVariants as statement
use Rattle.ap_syntax.specs.declared.rules.Rule.{Rule}
use Rattle.program_form.specs.Programs.{base_rules, is_base, is_of, next, other_of, part_type, preference_of, preferences, rules_here, rules_in, type_names, type_rules, with_name}
use Rattle.program_parts.specs.Parts.{parts_of, type_program}
use Rattle.program_parts.specs.Taken.{AreGathered, AreRulesTaken, HasPlace, in_force, IsCurrent, IsOpened, IsPlaced, IsRuleAdded, IsSameBeside, IsTaken, kind_names, place_by, same_place}
use Rattle.program_parts.specs.declared.gather.Taken.{Taken}
use Rattle.program_parts.specs.declared.parts.Parts.{Parts}
use Rattle.program_parts.specs.declared.parts.TypeProgram.{TypeProgram}

-- ---- one statement more

rules_more : (asked : PartKind → Bool) (here : Bool) (ss : List Statement) (s : Statement) → rules_in asked here (ss ++ s ∷ []) ≡ rules_in asked here ss ++ rules_here (in_force asked here ss) s
rules_more asked here [] s = append-nil (rules_here here s)
rules_more asked here (x ∷ ss) s =
    ap (λ rs. rules_here here x ++ rs) (rules_more asked (next asked here x) ss s)
    ∙ sym (append_assoc (rules_here here x) (rules_in asked (next asked here x) ss) (rules_here (in_force asked (next asked here x) ss) s))

force_more : (asked : PartKind → Bool) (here : Bool) (ss : List Statement) (s : Statement) → in_force asked here (ss ++ s ∷ []) ≡ next asked (in_force asked here ss) s
force_more asked here ss s = fold-append (next asked) here ss (s ∷ [])

names_more : (ss : List Statement) (s : Statement) → type_names (ss ++ s ∷ []) ≡ fold with_name (type_names ss) (filter_map part_type (s ∷ []))
names_more ss s = ap (fold with_name []) (filter_map-append part_type ss (s ∷ [])) ∙ fold-append with_name [] (filter_map part_type ss) (filter_map part_type (s ∷ []))

-- a statement that is no rule
rules_same : (asked : PartKind → Bool) (here : Bool) (ss : List Statement) (s : Statement) → ((b : Bool) → rules_here b s ≡ []) → rules_in asked here (ss ++ s ∷ []) ≡ rules_in asked here ss
rules_same asked here ss s none = rules_more asked here ss s ∙ (ap (λ rs. rules_in asked here ss ++ rs) (none (in_force asked here ss)) ∙ append-nil (rules_in asked here ss))

-- ---- statements that are neither rules nor parts of types

pub gathered_beside : (ss : List Statement) (s : Statement) (t : Taken) → ((b : Bool) → rules_here b s ≡ []) → part_type s ≡ None → AreGathered ss t → AreGathered (ss ++ s ∷ []) t
gathered_beside ss s t none no_type h =
    let names : type_names (ss ++ s ∷ []) ≡ type_names ss = names_more ss s ∙ rw no_type refl in
    record {
      base = h.base ∙ sym (rules_same is_base true ss s none);
      names = h.names ∙ sym names;
      rules = λ j k e. h.rules j k e ∙ sym (rules_same (is_of k.name) false ss s none);
      at = h.at;
      back = h.back;
    }

pub current_beside : (ss : List Statement) (s : Statement) (t : Taken) → ((asked : PartKind → Bool) (b : Bool) → next asked b s ≡ b) → IsCurrent ss t → IsCurrent (ss ++ s ∷ []) t
current_beside ss s t same h = record {
  base_here = h.base_here ∙ sym (force_more is_base true ss s ∙ same is_base (in_force is_base true ss));
  type_here = λ name. h.type_here name ∙ sym (force_more (is_of name) false ss s ∙ same (is_of name) (in_force (is_of name) false ss));
  within = h.within;
}

-- ---- the same, where other fields have changed

pub gathered_same : (ss : List Statement) (old new : Taken) → new.base ≡ old.base → new.kinds ≡ old.kinds → new.places ≡ old.places → AreGathered ss old → AreGathered ss new
gathered_same ss old new e f g h =
    let by : (name : List ℕ) → place_by new name ≡ place_by old name = λ name. rw g refl in
    record {
      base = e ∙ h.base;
      names = rw f h.names;
      rules = λ j k at. h.rules j k (subst (λ (ks : _). slice_get ks.items j ≡ Some k) f at);
      at = λ name j at. subst (λ (ks : _). slice_get (kind_names ks.items) j ≡ Some name) (sym f) (h.at name j (sym (by name) ∙ at));
      back = λ name j at. by name ∙ h.back name j (subst (λ (ks : _). slice_get (kind_names ks.items) j ≡ Some name) f at);
    }

-- ---- places

read_map : {X Y : Type 0} (f : X → Y) (xs : List X) (j : ℕ) (x : X) → slice_get xs j ≡ Some x → slice_get (map f xs) j ≡ Some (f x)
read_map f [] j x e = cc
read_map f (y ∷ xs) zero x e = let same : y ≡ x = cc in ap (λ z. Some (f z)) same
read_map f (y ∷ xs) (suc j) x e = read_map f xs j x e

same_name : (xs ys : List ℕ) → bytes_eq xs ys ≡ true → xs ≡ ys
same_name xs ys = (bytes_eq-Decides xs ys).0

own_name : (xs : List ℕ) → bytes_eq xs xs ≡ true
own_name xs = (bytes_eq-Decides xs xs).1 refl

some_same : {X : Type 0} (x y : X) → Some x ≡ Some y → x ≡ y
some_same x y e = cc

-- ---- one rule more

-- whether a test of numbers is true, by cases
place_cases : (i j : ℕ) → ((i == j) ≡ true → ⊥) → (i == j) ≡ false
place_cases i j h = by (i == j) refl
  where
    by : (b : Bool) → (i == j) ≡ b → b ≡ false
    by true e = absurd (h e)
    by false e = refl

module _ (ss : List Statement) (old : Taken) (r : Rule) (h : AreRulesTaken ss old) where
  abbrev rule : Statement
  rule = statement.Rule r

  rule_here : (b : Bool) → b ≡ true → rules_here b rule ≡ r ∷ []
  rule_here b e = rw e refl

  rule_not_here : (b : Bool) → b ≡ false → rules_here b rule ≡ []
  rule_not_here b e = rw e refl

  names_same : type_names (ss ++ rule ∷ []) ≡ type_names ss
  names_same = names_more ss rule

  -- in the base
  pub rule_of_base : (new : Taken) → old.current ≡ None → new.base ≡ old.base ++ r ∷ [] → new.current ≡ old.current → new.kinds ≡ old.kinds → new.places ≡ old.places → AreRulesTaken (ss ++ rule ∷ []) new
  rule_of_base new none base current kinds places =
      let in_base : in_force is_base true ss ≡ true = sym h.current.base_here ∙ ap is_none none in
      let elsewhere : (name : List ℕ) → in_force (is_of name) false ss ≡ false = λ name. sym (h.current.type_here name) ∙ rw none refl in
      let by : (name : List ℕ) → place_by new name ≡ place_by old name = λ name. rw places refl in
      record {
        gathered = record {
          base = base ∙ (ap (λ rs. rs ++ r ∷ []) h.gathered.base ∙ sym (rules_more is_base true ss rule ∙ ap (λ rs. base_rules ss ++ rs) (rule_here _ in_base)));
          names = rw kinds (h.gathered.names ∙ sym names_same);
          rules = λ j k at.
              h.gathered.rules j k (subst (λ (ks : _). slice_get ks.items j ≡ Some k) kinds at)
              ∙ sym (rules_more (is_of k.name) false ss rule ∙ (ap (λ rs. type_rules ss k.name ++ rs) (rule_not_here _ (elsewhere k.name)) ∙ append-nil (type_rules ss k.name)));
          at = λ name j at. subst (λ (ks : _). slice_get (kind_names ks.items) j ≡ Some name) (sym kinds) (h.gathered.at name j (sym (by name) ∙ at));
          back = λ name j at. by name ∙ h.gathered.back name j (subst (λ (ks : _). slice_get (kind_names ks.items) j ≡ Some name) kinds at);
        };
        current = record {
          base_here = rw current (h.current.base_here ∙ sym (force_more is_base true ss rule));
          type_here = λ name. rw (current, by name) (h.current.type_here name ∙ sym (force_more (is_of name) false ss rule));
          within = λ j e. rw kinds (h.current.within j (sym current ∙ e));
        };
      }

  -- in the part of a type
  pub rule_of_type : (new : Taken) (place : ℕ) → old.current ≡ Some place → IsRuleAdded place r old.kinds.items new.kinds.items → new.base ≡ old.base → new.current ≡ old.current → new.places ≡ old.places → AreRulesTaken (ss ++ rule ∷ []) new
  rule_of_type new place now added base current places =
      let not_base : in_force is_base true ss ≡ false = sym h.current.base_here ∙ ap is_none now in
      let by : (name : List ℕ) → place_by new name ≡ place_by old name = λ name. rw places refl in
      let lt = h.current.within place now in
      let read_name : (j : ℕ) (k : TypeProgram) → slice_get old.kinds.items j ≡ Some k → place_by old k.name ≡ Some j = λ j k at. h.gathered.back k.name j (read_map (λ (k : TypeProgram). k.name) old.kinds.items j k at) in
      let force : (j : ℕ) (k : TypeProgram) → slice_get old.kinds.items j ≡ Some k → in_force (is_of k.name) false ss ≡ (place == j) = λ j k at. sym (h.current.type_here k.name) ∙ rw (now, read_name j k at) refl in
      let kept : (j : ℕ) (k : TypeProgram) → slice_get old.kinds.items j ≡ Some k → (place == j) ≡ false → k.rules ≡ type_rules (ss ++ rule ∷ []) k.name = λ j k at no.
      h.gathered.rules j k at ∙ sym (rules_more (is_of k.name) false ss rule ∙ (ap (λ rs. type_rules ss k.name ++ rs) (rule_not_here _ (force j k at ∙ no)) ∙ append-nil (type_rules ss k.name))) in
      let added_rules : (k0 k : TypeProgram) → slice_get old.kinds.items place ≡ Some k0 → slice_get new.kinds.items place ≡ Some k → k.rules ≡ type_rules (ss ++ rule ∷ []) k.name = λ k0 k at0 at.
      let is : record { name = k0.name; rules = k0.rules ++ r ∷ [] } ≡ k = some_same _ _ (sym (added.here k0 at0) ∙ at) in
      subst (λ (x : TypeProgram). x.rules ≡ type_rules (ss ++ rule ∷ []) x.name) is
      (ap (λ rs. rs ++ r ∷ []) (h.gathered.rules place k0 at0)
      ∙ sym (rules_more (is_of k0.name) false ss rule ∙ ap (λ rs. type_rules ss k0.name ++ rs) (rule_here _ (force place k0 at0 ∙ eq-eqb place place refl)))) in
      let rules_by : (j : ℕ) (k : TypeProgram) (b : Bool) → (place == j) ≡ b → slice_get new.kinds.items j ≡ Some k → k.rules ≡ type_rules (ss ++ rule ∷ []) k.name = λ j k b. elim b as (λ x. (place == j) ≡ x → slice_get new.kinds.items j ≡ Some k → k.rules ≡ type_rules (ss ++ rule ∷ []) k.name) [
        | true ↦ λ e at.
            let same : place ≡ j = eqb-true place j e in
            let here = subst (λ i. slice_get new.kinds.items i ≡ Some k) (sym same) at in
            added_rules (get_or old.kinds.items place k) k (slice_get-get_or old.kinds.items place k lt) here
        | false ↦ λ e at. kept j k (sym (added.others j (λ same. let yes = eq-eqb place j (sym same) in let clash : true ≡ false = sym yes ∙ e in cc)) ∙ at) e
      ] in
      let count : length new.kinds.items ≡ length old.kinds.items = sym (length-map new.kinds.items (λ (k : TypeProgram). k.name)) ∙ (ap length added.names ∙ length-map old.kinds.items (λ (k : TypeProgram). k.name)) in
      record {
        gathered = record {
          base = base ∙ (h.gathered.base ∙ sym (rules_more is_base true ss rule ∙ (ap (λ rs. base_rules ss ++ rs) (rule_not_here _ not_base) ∙ append-nil (base_rules ss))));
          names = added.names ∙ (h.gathered.names ∙ sym names_same);
          rules = λ j k at. rules_by j k (place == j) refl at;
          at = λ name j at. ap (λ ns. slice_get ns j) added.names ∙ h.gathered.at name j (sym (by name) ∙ at);
          back = λ name j at. by name ∙ h.gathered.back name j (ap (λ ns. slice_get ns j) (sym added.names) ∙ at);
        };
        current = record {
          base_here = rw current (h.current.base_here ∙ sym (force_more is_base true ss rule));
          type_here = λ name. rw (current, by name) (h.current.type_here name ∙ sym (force_more (is_of name) false ss rule));
          within = λ j e. rw count (h.current.within j (sym current ∙ e));
        };
      }

-- ---- parts

none_here : (file at : ℕ) (kind : PartKind) (b : Bool) → rules_here b (statement.Part file at kind) ≡ []
none_here file at kind true = refl
none_here file at kind false = refl

-- whether a place is that of a name: exactly if it is this name
place_test : (new : Taken) (name other : List ℕ) (place : ℕ) (o : Option ℕ) (b : Bool) → place_by new name ≡ Some place
    → ((j : ℕ) → place_by new other ≡ Some j → slice_get (kind_names new.kinds.items) j ≡ Some other) → slice_get (kind_names new.kinds.items) place ≡ Some name
    → place_by new other ≡ o → bytes_eq name other ≡ b → same_place (Some place) o ≡ b
place_test new name other place None true here at in_names e f =
    let same = same_name name other f in let clash : None ≡ Some place = sym e ∙ (ap (place_by new) (sym same) ∙ here) in cc
place_test new name other place None false here at in_names e f = refl
place_test new name other place (Some j) true here at in_names e f =
    let same = same_name name other f in
    let equal : place ≡ j = some_same place j (sym here ∙ (ap (place_by new) same ∙ e)) in eq-eqb place j equal
place_test new name other place (Some j) false here at in_names e f = place_cases place j (λ yes.
    let equal = eqb-true place j yes in
    let there : slice_get (kind_names new.kinds.items) place ≡ Some other = subst (λ i. slice_get (kind_names new.kinds.items) i ≡ Some other) (sym equal) (at j e) in
    let same : name ≡ other = some_same name other (sym in_names ∙ there) in
    let true_too : bytes_eq name other ≡ true = subst (λ x. bytes_eq name x ≡ true) same (own_name name) in
    let clash : true ≡ false = sym true_too ∙ f in cc)

-- the part of a type, which has its place
opened_type : (ss : List Statement) (new : Taken) (placed : Taken) (name : List ℕ) (place file at : ℕ) → HasPlace ss placed name place
    → new.current ≡ Some place → new.base ≡ placed.base → new.kinds ≡ placed.kinds → new.places ≡ placed.places → AreRulesTaken (ss ++ statement.Part file at (part.Kind name) ∷ []) new
opened_type ss new placed name place file at h now base kinds places =
    let g = gathered_same _ placed new base kinds places (h.gathered file at) in
    let here : place_by new name ≡ Some place = rw places h.place_is in
    let in_names : slice_get (kind_names new.kinds.items) place ≡ Some name = g.at name place here in
    record {
      gathered = g;
      current = record {
        base_here = rw now (sym (force_more is_base true ss (statement.Part file at (part.Kind name))));
        type_here = λ other. rw now (place_test new name other place (place_by new other) (bytes_eq name other) here (g.at other) in_names refl refl ∙ sym (force_more (is_of other) false ss (statement.Part file at (part.Kind name))));
        within = λ j e.
            let same : place ≡ j = some_same place j (sym now ∙ e) in
            let lt = slice_get_within (kind_names new.kinds.items) place name in_names in
            let count = length-map new.kinds.items (λ (k : TypeProgram). k.name) in omega (arith, same, lt, count);
      };
    }

-- the base
opened_base : (ss : List Statement) (new : Taken) (placed : Taken) (file at : ℕ) → AreGathered (ss ++ statement.Part file at part.Base ∷ []) placed
    → new.current ≡ None → new.base ≡ placed.base → new.kinds ≡ placed.kinds → new.places ≡ placed.places → AreRulesTaken (ss ++ statement.Part file at part.Base ∷ []) new
opened_base ss new placed file at h now base kinds places = record {
  gathered = gathered_same _ placed new base kinds places h;
  current = record {
    base_here = rw now (sym (force_more is_base true ss (statement.Part file at part.Base)));
    type_here = λ name. rw now (sym (force_more (is_of name) false ss (statement.Part file at part.Base)));
    within = λ j e. let clash : None ≡ Some j = sym now ∙ e in cc;
  };
}

-- either
pub opened : (ss : List Statement) (new placed : Taken) (kind : PartKind) (place : Option ℕ) (file at : ℕ) → IsOpened ss placed kind place
    → new.current ≡ place → new.base ≡ placed.base → new.kinds ≡ placed.kinds → new.places ≡ placed.places → AreRulesTaken (ss ++ statement.Part file at kind ∷ []) new
opened ss new placed part.Base place file at h now base kinds places = opened_base ss new placed file at (h.gathered file at) (now ∙ h.place_is) base kinds places
opened ss new placed (part.Kind name) place file at h now base kinds places =
    opened_type ss new placed name h.place_is.0 file at (record { gathered = h.gathered; place_is = h.place_is.2 }) (now ∙ h.place_is.1) base kinds places

-- the part that begins is the base
pub base_opened : (ss : List Statement) (t : Taken) → AreGathered ss t → IsOpened ss t part.Base None
base_opened ss t h = record { gathered = λ file at. gathered_beside ss (statement.Part file at part.Base) t (none_here file at part.Base) refl h; place_is = refl }

-- it is that of a type
pub type_opened : (ss : List Statement) (t : Taken) (name : List ℕ) (place : ℕ) → HasPlace ss t name place → IsOpened ss t (part.Kind name) (Some place)
type_opened ss t name place h = record { gathered = h.gathered; place_is = (place, refl, h.place_is) }

-- ---- all else

abbrev pub rules_fields_same : (old new : Taken) → Type 0
rules_fields_same old new = (new.current ≡ old.current) × (new.base ≡ old.base) × (new.kinds ≡ old.kinds) × (new.places ≡ old.places)

current_same : (ss : List Statement) (old new : Taken) → rules_fields_same old new → IsCurrent ss old → IsCurrent ss new
current_same ss old new e h =
    let by : (name : List ℕ) → place_by new name ≡ place_by old name = λ name. rw e.3 refl in
    record {
      base_here = rw e.0 h.base_here;
      type_here = λ name. rw (e.0, by name) (h.type_here name);
      within = λ j at. rw e.2 (h.within j (sym e.0 ∙ at));
    }

beside : (ss : List Statement) (s : Statement) (old new : Taken) → ((b : Bool) → rules_here b s ≡ []) → part_type s ≡ None → ((asked : PartKind → Bool) (b : Bool) → next asked b s ≡ b) → rules_fields_same old new → AreRulesTaken ss old → AreRulesTaken (ss ++ s ∷ []) new
beside ss s old new none no_type same e h = record {
  gathered = gathered_same _ old new e.1 e.2 e.3 (gathered_beside ss s old none no_type h.gathered);
  current = current_same _ old new e (current_beside ss s old same h.current);
}

found_more : {X : Type 0} (f : Statement → Option X) (ss : List Statement) (s : Statement) (old new : List X) → old ≡ filter_map f ss → new ≡ old ++ filter_map f (s ∷ []) → new ≡ filter_map f (ss ++ s ∷ [])
found_more f ss s old new h k = k ∙ (ap (λ xs. xs ++ filter_map f (s ∷ [])) h ∙ sym (filter_map-append f ss (s ∷ [])))

-- a rule; nothing else changes
pub taken_rule : (ss : List Statement) (r : Rule) (old new : Taken) → IsTaken ss old → AreRulesTaken (ss ++ statement.Rule r ∷ []) new → new.preferences ≡ old.preferences → new.others ≡ old.others → IsTaken (ss ++ statement.Rule r ∷ []) new
taken_rule ss r old new h rules e f = record {
  rules = rules;
  preferences_are = found_more preference_of ss (statement.Rule r) old.preferences new.preferences h.preferences_are (e ∙ sym (append-nil old.preferences));
  others_are = found_more other_of ss (statement.Rule r) old.others new.others h.others_are (f ∙ sym (append-nil old.others));
}

none_of_preference : (p : _) (b : Bool) → rules_here b (statement.Preference p) ≡ []
none_of_preference p true = refl
none_of_preference p false = refl

taken_preference : (ss : List Statement) (p : _) (old new : Taken) → IsTaken ss old → rules_fields_same old new → new.preferences ≡ old.preferences ++ p ∷ [] → new.others ≡ old.others → IsTaken (ss ++ statement.Preference p ∷ []) new
taken_preference ss p old new h same e f = record {
  rules = beside ss (statement.Preference p) old new (none_of_preference p) refl (λ asked b. refl) same h.rules;
  preferences_are = found_more preference_of ss (statement.Preference p) old.preferences new.preferences h.preferences_are e;
  others_are = found_more other_of ss (statement.Preference p) old.others new.others h.others_are (f ∙ sym (append-nil old.others));
}

pub taken_preference_as : (ss : List Statement) (p : _) (s : Statement) (old new : Taken) → s ≡ statement.Preference p → IsTaken ss old → rules_fields_same old new → new.preferences ≡ old.preferences ++ p ∷ [] → new.others ≡ old.others → IsTaken (ss ++ s ∷ []) new
taken_preference_as ss p s old new is h same e f = subst (λ (x : Statement). IsTaken (ss ++ x ∷ []) new) (sym is) (taken_preference ss p old new h same e f)

taken_part : (ss : List Statement) (file at : ℕ) (kind : PartKind) (old opened new : Taken) → IsTaken ss old → AreRulesTaken (ss ++ statement.Part file at kind ∷ []) opened → opened.preferences ≡ old.preferences → opened.others ≡ old.others
    → rules_fields_same opened new → new.preferences ≡ opened.preferences → new.others ≡ opened.others ++ statement.Part file at kind ∷ [] → IsTaken (ss ++ statement.Part file at kind ∷ []) new
taken_part ss file at kind old opened new h rules e f same g k = record {
  rules = record { gathered = gathered_same _ opened new same.1 same.2 same.3 rules.gathered; current = current_same _ opened new same rules.current };
  preferences_are = found_more preference_of ss (statement.Part file at kind) old.preferences new.preferences h.preferences_are (g ∙ (e ∙ sym (append-nil old.preferences)));
  others_are = found_more other_of ss (statement.Part file at kind) old.others new.others h.others_are (k ∙ ap (λ xs. xs ++ statement.Part file at kind ∷ []) f);
}

pub taken_part_as : (ss : List Statement) (file at : ℕ) (kind : PartKind) (s : Statement) (old opened new : Taken) → s ≡ statement.Part file at kind → IsTaken ss old → AreRulesTaken (ss ++ statement.Part file at kind ∷ []) opened → opened.preferences ≡ old.preferences → opened.others ≡ old.others
    → rules_fields_same opened new → new.preferences ≡ opened.preferences → new.others ≡ opened.others ++ statement.Part file at kind ∷ [] → IsTaken (ss ++ s ∷ []) new
taken_part_as ss file at kind s old opened new is h rules e f same g k = subst (λ (x : Statement). IsTaken (ss ++ x ∷ []) new) (sym is) (taken_part ss file at kind old opened new h rules e f same g k)

none_of_const : (a b : ℕ) (n : List ℕ) (v : _) (here : Bool) → rules_here here (statement.Const a b n v) ≡ []
none_of_const a b n v true = refl
none_of_const a b n v false = refl

none_of_show : (w : _) (here : Bool) → rules_here here (statement.Show w) ≡ []
none_of_show w true = refl
none_of_show w false = refl

none_of_defined : (n : List ℕ) (a : ℕ) (here : Bool) → rules_here here (statement.Defined n a) ≡ []
none_of_defined n a true = refl
none_of_defined n a false = refl

none_of_optimize : (a b : ℕ) (n : List ℕ) (here : Bool) → rules_here here (statement.Optimize a b n) ≡ []
none_of_optimize a b n true = refl
none_of_optimize a b n false = refl

-- any other statement
abbrev pub IsPlain : Statement → Type 0
IsPlain (statement.Rule r) = ⊥
IsPlain (statement.Preference p) = ⊥
IsPlain (statement.Part file at kind) = ⊥
IsPlain s = Unit {0}

pub taken_other : (ss : List Statement) (s : Statement) (old new : Taken) → IsPlain s → IsTaken ss old → rules_fields_same old new → new.preferences ≡ old.preferences → new.others ≡ old.others ++ s ∷ [] → IsTaken (ss ++ s ∷ []) new
taken_other ss (statement.Rule r) old new plain h same e f = absurd plain
taken_other ss (statement.Preference p) old new plain h same e f = absurd plain
taken_other ss (statement.Part file at kind) old new plain h same e f = absurd plain
taken_other ss (statement.Const a b n v) old new plain h same e f = record {
  rules = beside ss (statement.Const a b n v) old new (none_of_const a b n v) refl (λ asked b. refl) same h.rules;
  preferences_are = found_more preference_of ss (statement.Const a b n v) old.preferences new.preferences h.preferences_are (e ∙ sym (append-nil old.preferences));
  others_are = found_more other_of ss (statement.Const a b n v) old.others new.others h.others_are f;
}
taken_other ss (statement.Show w) old new plain h same e f = record {
  rules = beside ss (statement.Show w) old new (none_of_show w) refl (λ asked b. refl) same h.rules;
  preferences_are = found_more preference_of ss (statement.Show w) old.preferences new.preferences h.preferences_are (e ∙ sym (append-nil old.preferences));
  others_are = found_more other_of ss (statement.Show w) old.others new.others h.others_are f;
}
taken_other ss (statement.Defined n a) old new plain h same e f = record {
  rules = beside ss (statement.Defined n a) old new (none_of_defined n a) refl (λ asked b. refl) same h.rules;
  preferences_are = found_more preference_of ss (statement.Defined n a) old.preferences new.preferences h.preferences_are (e ∙ sym (append-nil old.preferences));
  others_are = found_more other_of ss (statement.Defined n a) old.others new.others h.others_are f;
}
taken_other ss (statement.Optimize a b n) old new plain h same e f = record {
  rules = beside ss (statement.Optimize a b n) old new (none_of_optimize a b n) refl (λ asked b. refl) same h.rules;
  preferences_are = found_more preference_of ss (statement.Optimize a b n) old.preferences new.preferences h.preferences_are (e ∙ sym (append-nil old.preferences));
  others_are = found_more other_of ss (statement.Optimize a b n) old.others new.others h.others_are f;
}

-- ---- the parts

kinds_are : (ss : List Statement) (kinds : List TypeProgram) → ((j : ℕ) (k : TypeProgram) → slice_get kinds j ≡ Some k → k.rules ≡ type_rules ss k.name) → kinds ≡ map (λ name. record { name = name; rules = type_rules ss name }) (kind_names kinds)
kinds_are ss [] h = refl
kinds_are ss (k ∷ kinds) h =
    ap (λ (rs : List Rule). record { name = k.name; rules = rs } ∷ kinds) (h 0 k refl)
    ∙ ap (λ (ks : List TypeProgram). record { name = k.name; rules = type_rules ss k.name } ∷ ks) (kinds_are ss kinds (λ j x at. h (suc j) x at))

pub all_kinds : (ss : List Statement) (t : Taken) → AreGathered ss t → t.kinds.items ≡ map (λ name. record { name = name; rules = type_rules ss name }) (type_names ss)
all_kinds ss t h = kinds_are ss t.kinds.items h.rules ∙ ap (map (λ name. record { name = name; rules = type_rules ss name })) h.names

-- ---- a type more

get_front : {X : Type 0} (xs ys : List X) (i : ℕ) (x : X) → slice_get xs i ≡ Some x → slice_get (xs ++ ys) i ≡ Some x
get_front [] ys i x e = cc
get_front (y ∷ xs) ys zero x e = e
get_front (y ∷ xs) ys (suc i) x e = get_front xs ys i x e

get_pushed : {X : Type 0} (xs : List X) (x : X) → slice_get (xs ++ x ∷ []) (length xs) ≡ Some x
get_pushed [] x = refl
get_pushed (y ∷ xs) x = get_pushed xs x

get_back : {X : Type 0} (xs : List X) (x : X) (i : ℕ) (y : X) → slice_get (xs ++ x ∷ []) i ≡ Some y → (slice_get xs i ≡ Some y) ⊎ ((i ≡ length xs) × (x ≡ y))
get_back [] x zero y e = inr (refl, cc)
get_back [] x (suc i) y e = cc
get_back (z ∷ xs) x zero y e = inl e
get_back (z ∷ xs) x (suc i) y e = ⊎_elim (λ h. inl h) (λ h. inr (ap suc h.0, h.1)) (get_back xs x i y e)

or_true : (a b : Bool) → b ≡ true → (a || b) ≡ true
or_true true b e = refl
or_true false b e = e

true_or : (a b : Bool) → a ≡ true → (a || b) ≡ true
true_or true b e = refl
true_or false b e = cc

-- a type with a part has a place
name_in : (names : List (List ℕ)) (name : List ℕ) (j : ℕ) → slice_get names j ≡ Some name → list_any (bytes_eq name) names ≡ true
name_in [] name j e = cc
name_in (n ∷ names) name zero e = let same : n ≡ name = cc in true_or (bytes_eq name n) (list_any (bytes_eq name) names) (subst (λ (m : List ℕ). bytes_eq name m ≡ true) (sym same) (own_name name))
name_in (n ∷ names) name (suc j) e = or_true (bytes_eq name n) (list_any (bytes_eq name) names) (name_in names name j e)

in_names_by : (names : List (List ℕ)) (name n : List ℕ) (b : Bool) → bytes_eq name n ≡ b → (b || list_any (bytes_eq name) names) ≡ true
    → (list_any (bytes_eq name) names ≡ true → (j : ℕ) × (slice_get names j ≡ Some name)) → (j : ℕ) × (slice_get (n ∷ names) j ≡ Some name)
in_names_by names name n true is e later = (zero, ap (λ m. Some m) (sym (same_name name n is)))
in_names_by names name n false is e later = let r = later e in (suc r.0, r.1)

in_names_at : (names : List (List ℕ)) (name : List ℕ) → list_any (bytes_eq name) names ≡ true → (j : ℕ) × (slice_get names j ≡ Some name)
in_names_at [] name e = cc
in_names_at (n ∷ names) name e = in_names_by names name n (bytes_eq name n) refl e (in_names_at names name)

not_in : (names : List (List ℕ)) (name : List ℕ) → ((j : ℕ) → slice_get names j ≡ Some name → ⊥) → list_any (bytes_eq name) names ≡ false
not_in names name n = by (list_any (bytes_eq name) names) refl
  where
    by : (b : Bool) → list_any (bytes_eq name) names ≡ b → b ≡ false
    by true e = let r = in_names_at names name e in absurd (n r.0 r.1)
    by false e = refl

-- it has one already
pub has_place : (ss : List Statement) (t : Taken) (name : List ℕ) (place : ℕ) → place_by t name ≡ Some place → AreGathered ss t → HasPlace ss t name place
has_place ss t name place e h = record {
  gathered = λ file at.
      let s = statement.Part file at (part.Kind name) in
      let there : list_any (bytes_eq name) (type_names ss) ≡ true = subst (λ ns. list_any (bytes_eq name) ns ≡ true) h.names (name_in (kind_names t.kinds.items) name place (h.at name place e)) in
      let names : type_names (ss ++ s ∷ []) ≡ type_names ss = names_more ss s ∙ rw there refl in
      record {
        base = h.base ∙ sym (rules_same is_base true ss s (none_here file at (part.Kind name)));
        names = h.names ∙ sym names;
        rules = λ j k g. h.rules j k g ∙ sym (rules_same (is_of k.name) false ss s (none_here file at (part.Kind name)));
        at = h.at;
        back = h.back;
      };
  place_is = e;
}

-- ---- types without a part

flip : (xs ys : List ℕ) → bytes_eq xs ys ≡ false → bytes_eq ys xs ≡ false
flip xs ys e = by (bytes_eq ys xs) refl
  where
    by : (b : Bool) → bytes_eq ys xs ≡ b → b ≡ false
    by true is = sym (subst (λ (zs : List ℕ). bytes_eq xs zs ≡ true) (sym (same_name ys xs is)) (own_name xs)) ∙ e
    by false is = refl

neither : (a b : Bool) → (a || b) ≡ false → (a ≡ false) × (b ≡ false)
neither true b e = cc
neither false b e = (refl, e)

-- no part of the type, no rules of it
no_rules : (ss : List Statement) (name : List ℕ) → list_any (bytes_eq name) (filter_map part_type ss) ≡ false → rules_in (is_of name) false ss ≡ []
no_rules [] name e = refl
no_rules (statement.Part file at part.Base ∷ ss) name e = no_rules ss name e
no_rules (statement.Part file at (part.Kind other) ∷ ss) name e =
    let parts = neither (bytes_eq name other) (list_any (bytes_eq name) (filter_map part_type ss)) e in
    ap (λ b. rules_in (is_of name) b ss) (flip name other parts.0) ∙ no_rules ss name parts.1
no_rules (statement.Rule r ∷ ss) name e = no_rules ss name e
no_rules (statement.Preference p ∷ ss) name e = no_rules ss name e
no_rules (statement.Const a b n v ∷ ss) name e = no_rules ss name e
no_rules (statement.Show w ∷ ss) name e = no_rules ss name e
no_rules (statement.Defined n a ∷ ss) name e = no_rules ss name e
no_rules (statement.Optimize a b n ∷ ss) name e = no_rules ss name e

kept_one : (names : List (List ℕ)) (n name : List ℕ) → list_any (bytes_eq name) names ≡ true → list_any (bytes_eq name) (with_name names n) ≡ true
kept_one names n name e = by (list_any (bytes_eq n) names)
  where
    by : (b : Bool) → list_any (bytes_eq name) (if b then names else names ++ n ∷ []) ≡ true
    by true = e
    by false = list_any-append (bytes_eq name) names (n ∷ []) ∙ true_or (list_any (bytes_eq name) names) (list_any (bytes_eq name) (n ∷ [])) e

there_one : (names : List (List ℕ)) (name : List ℕ) → list_any (bytes_eq name) (with_name names name) ≡ true
there_one names name = by (list_any (bytes_eq name) names) refl
  where
    by : (b : Bool) → list_any (bytes_eq name) names ≡ b → list_any (bytes_eq name) (if b then names else names ++ name ∷ []) ≡ true
    by true e = e
    by false e = list_any-append (bytes_eq name) names (name ∷ []) ∙ or_true (list_any (bytes_eq name) names) (list_any (bytes_eq name) (name ∷ [])) (rw (own_name name) refl)

kept_all : (names more : List (List ℕ)) (name : List ℕ) → list_any (bytes_eq name) names ≡ true → list_any (bytes_eq name) (fold with_name names more) ≡ true
kept_all names [] name e = e
kept_all names (n ∷ more) name e = kept_all (with_name names n) more name (kept_one names n name e)

there_by : (names more : List (List ℕ)) (n name : List ℕ) (b : Bool) → bytes_eq name n ≡ b → (b || list_any (bytes_eq name) more) ≡ true
    → (list_any (bytes_eq name) more ≡ true → list_any (bytes_eq name) (fold with_name (with_name names n) more) ≡ true)
    → list_any (bytes_eq name) (fold with_name (with_name names n) more) ≡ true
there_by names more n name true is e later = kept_all (with_name names n) more name (subst (λ (m : List ℕ). list_any (bytes_eq name) (with_name names m) ≡ true) (same_name name n is) (there_one names name))
there_by names more n name false is e later = later e

there_all : (names more : List (List ℕ)) (name : List ℕ) → list_any (bytes_eq name) more ≡ true → list_any (bytes_eq name) (fold with_name names more) ≡ true
there_all names [] name e = cc
there_all names (n ∷ more) name e = there_by names more n name (bytes_eq name n) refl e (there_all (with_name names n) more name)

no_part : (ss : List Statement) (name : List ℕ) → list_any (bytes_eq name) (type_names ss) ≡ false → list_any (bytes_eq name) (filter_map part_type ss) ≡ false
no_part ss name e = by (list_any (bytes_eq name) (filter_map part_type ss)) refl
  where
    by : (b : Bool) → list_any (bytes_eq name) (filter_map part_type ss) ≡ b → b ≡ false
    by true is = sym (there_all [] (filter_map part_type ss) name is) ∙ e
    by false is = refl

-- ---- a type gets its place

module _ (ss : List Statement) (old new : Taken) (name : List ℕ) (place : ℕ) (none : place_by old name ≡ None) (placed : IsPlaced old new name place) (h : AreGathered ss old) where
  fresh : list_any (bytes_eq name) (kind_names old.kinds.items) ≡ false
  fresh = not_in (kind_names old.kinds.items) name (λ j e. let there = h.back name j e in let clash : None ≡ Some j = sym none ∙ there in cc)

  fresh_names : list_any (bytes_eq name) (type_names ss) ≡ false
  fresh_names = subst (λ ns. list_any (bytes_eq name) ns ≡ false) h.names fresh

  all_names : kind_names new.kinds.items ≡ kind_names old.kinds.items ++ name ∷ []
  all_names = ap kind_names placed.kinds ∙ map-append (λ (k : TypeProgram). k.name) old.kinds.items (record { name = name; rules = [] } ∷ [])

  count : length (kind_names old.kinds.items) ≡ place
  count = length-map old.kinds.items (λ (k : TypeProgram). k.name) ∙ sym placed.place_is

  abbrev part_here : (file at : ℕ) → Statement
  part_here file at = statement.Part file at (part.Kind name)

  type_same : (file at : ℕ) (other : List ℕ) → type_rules (ss ++ part_here file at ∷ []) other ≡ type_rules ss other
  type_same file at other = rules_same (is_of other) false ss (part_here file at) (none_here file at (part.Kind name))

  own_place : place_by new name ≡ Some place
  own_place = placed.places name ∙ rw (own_name name) refl

  new_rules : (file at : ℕ) (j : ℕ) (k : TypeProgram) → slice_get new.kinds.items j ≡ Some k → k.rules ≡ type_rules (ss ++ part_here file at ∷ []) k.name
  new_rules file at j k e = ⊎_elim
      (λ g. h.rules j k g ∙ sym (type_same file at k.name))
      (λ g. subst (λ (x : TypeProgram). x.rules ≡ type_rules (ss ++ part_here file at ∷ []) x.name) g.1 (sym (type_same file at name ∙ no_rules ss name (no_part ss name fresh_names))))
      (get_back old.kinds.items (record { name = name; rules = [] }) j k (subst (λ (ks : List TypeProgram). slice_get ks j ≡ Some k) placed.kinds e))

  new_at : (other : List ℕ) (j : ℕ) → place_by new other ≡ Some j → slice_get (kind_names old.kinds.items ++ name ∷ []) j ≡ Some other
  new_at other j e = by (bytes_eq name other) refl (sym (placed.places other) ∙ e)
    where
      by : (b : Bool) → bytes_eq name other ≡ b → (if b then Some place else place_by old other) ≡ Some j → slice_get (kind_names old.kinds.items ++ name ∷ []) j ≡ Some other
      by true is f =
          let same = same_name name other is in
          let equal : place ≡ j = some_same place j f in
          subst (λ i. slice_get (kind_names old.kinds.items ++ name ∷ []) i ≡ Some other) (count ∙ equal) (get_pushed (kind_names old.kinds.items) name ∙ ap Some same)
      by false is f = get_front (kind_names old.kinds.items) (name ∷ []) j other (h.at other j f)

  new_back : (other : List ℕ) (j : ℕ) → slice_get (kind_names old.kinds.items ++ name ∷ []) j ≡ Some other → place_by new other ≡ Some j
  new_back other j e = ⊎_elim
      (λ g. placed.places other ∙ by (bytes_eq name other) refl g)
      (λ g. ap (place_by new) (sym g.1) ∙ (own_place ∙ ap Some (sym count ∙ sym g.0)))
      (get_back (kind_names old.kinds.items) name j other e)
    where
      by : (b : Bool) → bytes_eq name other ≡ b → slice_get (kind_names old.kinds.items) j ≡ Some other → (if b then Some place else place_by old other) ≡ Some j
      by true is g =
          let same = same_name name other is in
          let there : place_by old name ≡ Some j = ap (place_by old) same ∙ h.back other j g in
          let clash : None ≡ Some j = sym none ∙ there in cc
      by false is g = h.back other j g

  pub newly_placed : HasPlace ss new name place
  newly_placed = record {
    gathered = λ file at. record {
      base = placed.same.base ∙ (h.base ∙ sym (rules_same is_base true ss (part_here file at) (none_here file at (part.Kind name))));
      names = all_names ∙ (ap (λ ns. ns ++ name ∷ []) h.names ∙ sym (names_more ss (part_here file at) ∙ rw fresh_names refl));
      rules = new_rules file at;
      at = λ other j e. ap (λ ns. slice_get ns j) all_names ∙ new_at other j e;
      back = λ other j e. new_back other j (ap (λ ns. slice_get ns j) (sym all_names) ∙ e);
    };
    place_is = own_place;
  }

-- ---- a rule in its place

set_here : {X : Type 0} (xs : List X) (i : ℕ) (x : X) → i < length xs → slice_get (slice_set xs i x) i ≡ Some x
set_here [] i x lt = absurd (omega arith)
set_here (y ∷ xs) zero x lt = refl
set_here (y ∷ xs) (suc i) x lt = set_here xs i x (omega arith)

set_other : {X : Type 0} (xs : List X) (i j : ℕ) (x : X) → j ≢ i → slice_get (slice_set xs i x) j ≡ slice_get xs j
set_other [] i j x n = refl
set_other (y ∷ xs) zero zero x n = absurd (n refl)
set_other (y ∷ xs) zero (suc j) x n = refl
set_other (y ∷ xs) (suc i) zero x n = refl
set_other (y ∷ xs) (suc i) (suc j) x n = set_other xs i j x (λ e. n (ap suc e))

set_names : (xs : List TypeProgram) (i : ℕ) (x y : TypeProgram) → slice_get xs i ≡ Some y → x.name ≡ y.name → kind_names (slice_set xs i x) ≡ kind_names xs
set_names [] i x y e f = refl
set_names (z ∷ xs) zero x y e f = let same : z ≡ y = cc in ap (λ n. n ∷ kind_names xs) (f ∙ sym (ap (λ (k : TypeProgram). k.name) same))
set_names (z ∷ xs) (suc i) x y e f = ap (λ ns. z.name ∷ ns) (set_names xs i x y e f)

pub rule_added : (kinds : List TypeProgram) (place : ℕ) (r : Rule) (k : TypeProgram) (rules : List Rule) → slice_get kinds place ≡ Some k → rules ≡ k.rules ++ r ∷ [] → IsRuleAdded place r kinds (slice_set kinds place (record { name = k.name; rules = rules }))
rule_added kinds place r k rules e f = record {
  here = λ x g.
      let same : k ≡ x = some_same k x (sym e ∙ g) in
      set_here kinds place (record { name = k.name; rules = rules }) (slice_get_within kinds place k e)
      ∙ (ap (λ (rs : List Rule). Some (record { name = k.name; rules = rs })) f ∙ ap (λ (y : TypeProgram). Some (record { name = y.name; rules = y.rules ++ r ∷ [] })) same);
  others = λ j n. set_other kinds place j (record { name = k.name; rules = rules }) n;
  names = set_names kinds place (record { name = k.name; rules = rules }) k e refl;
}

-- a statement of none of these kinds
pub plain_statement : (s : Statement) → ((r : Rule) → s ≡ statement.Rule r → ⊥) → ((p : _) → s ≡ statement.Preference p → ⊥) → ((file at : ℕ) (kind : PartKind) → s ≡ statement.Part file at kind → ⊥) → IsPlain s
plain_statement (statement.Rule r) a b c = a r refl
plain_statement (statement.Preference p) a b c = b p refl
plain_statement (statement.Part file at kind) a b c = c file at kind refl
plain_statement (statement.Const a b n v) x y z = tt
plain_statement (statement.Show w) x y z = tt
plain_statement (statement.Defined n a) x y z = tt
plain_statement (statement.Optimize a b n) x y z = tt

-- what follows from three clauses of one answer
pub on_ok_both : {T E A B C D : Type 0} (r : Result T E) → (A → B → C → D) → OnOk r A → OnOk r B → OnOk r C → OnOk r D
on_ok_both (Ok x) f a b c = f a b c
on_ok_both (Err e) f a b c = tt

make : List Rule → List TypeProgram → List Preference → List Statement → Parts
make base kinds preferences others = record { base = base; kinds = kinds; preferences = preferences; others = others }

-- what was taken of all statements is their parts
pub parts_are : (ss : List Statement) (t : Taken) (kinds : List TypeProgram) → kinds ≡ t.kinds.items → IsTaken ss t → record { base = t.base; kinds = kinds; preferences = t.preferences; others = t.others } ≡ parts_of ss
unfolding make
parts_are ss t kinds e h =
    ap (λ b. make b kinds t.preferences t.others) h.rules.gathered.base
    ∙ (ap (λ k. make (base_rules ss) k t.preferences t.others) (e ∙ all_kinds ss t h.rules.gathered)
    ∙ (ap (λ p. make (base_rules ss) (map (type_program ss) (type_names ss)) p t.others) h.preferences_are
    ∙ ap (λ o. make (base_rules ss) (map (type_program ss) (type_names ss)) (preferences ss) o) h.others_are))
