-- What stands for a part that has a place of its own.
use Rattle.std.proofs.Common.{◌≡◌, ◌↔◌, ◌<◌, ◌+◌, ℕ, List, [], ◌∷◌, ◌++◌, get_or, length, Contains, refl, sym, subst, ap, ◌∙◌, ⊎_elim, inl, arith}
use Rattle.std.specs.Prelude.{◌⊎◌}
use Rattle.std.proofs.lemmas.List.{append-nil, map-append}
use Rattle.std.proofs.lemmas.List.Elements.{All-contains, All-push, All-weaker, Contains-append_cases, Contains-append_left, Contains-append_right, Contains-get_or, Contains-push_cases}
use Rattle.std.proofs.lemmas.List.Quantifiers.{all_pairs_push}
use Rattle.ap_term.proofs.CallerLemmas.{KeepsIds-itself}
use Rattle.ap_term.specs.declared.shape.TermId.{TermId}
use Rattle.ap_term.specs.Table.{IsIdOf, KeepsIds, value_at}
use Rattle.ap_term.specs.Value.{Value}
use Rattle.join_form.specs.declared.step.Step.{Step}
use Rattle.join_form.specs.Patterns.{Assignment}
use Rattle.join_form.specs.Steps.{StepHolds, IsStepOf}
use Rattle.rule_form.proofs.Lists.{to_map}
use Rattle.rule_form.specs.Values.{Substitution}
use Rattle.rule_joins.specs.Drafts.{Placed, Drafted, names_of, Carries, AllHold, SameBelow, IsDraft, Grows, IsPlacedIn}
use Rattle.rule_joins.specs.Stands.{StandsFor}
use Rattle.rule_joins.proofs.DraftLemmas.{put, put_there, put_below, all_front, all_last, carries_stay, steps_more, steps_stay}
use Rattle.rule_joins.proofs.StandLemmas.{same_itself, no_names, grows_then}

-- the draft with a place more, with a variable at it, and with a step over it
abbrev pub with_place : Drafted → Drafted
with_place draft = record { variables = draft.variables; places = draft.places + 1; steps = draft.steps }

abbrev pub with_variable : Drafted → List ℕ → Drafted
with_variable draft name = record { variables = draft.variables ++ (name, draft.places) ∷ []; places = draft.places + 1; steps = draft.steps }

abbrev pub with_step : Drafted → Step → Drafted
with_step draft step = record { variables = draft.variables; places = draft.places; steps = draft.steps ++ step ∷ [] }

module _ (table : List Value) (draft : Drafted) (is : IsDraft table draft) where
  grows_place : Grows table draft table (with_place draft)
  grows_place = record {
    table = KeepsIds-itself table;
    variables = ([], sym (append-nil draft.variables));
    places = omega arith;
    steps = ([], sym (append-nil draft.steps));
  }

  is_with_place : IsDraft table (with_place draft)
  is_with_place = record {
    within = All-weaker (λ (v : Placed). v.1 < draft.places) (λ (v : Placed). v.1 < draft.places + 1) (λ v l. omega (arith, l)) draft.variables is.within;
    once = is.once;
    over = steps_more table table (KeepsIds-itself table) draft.places (draft.places + 1) (omega arith) draft.steps is.over;
  }

  steps_at : (rows : List (List (List Value))) (a b : Assignment) → SameBelow draft.places a b → AllHold table rows a draft.steps → AllHold table rows b draft.steps
  steps_at rows a b same h = steps_stay table table (KeepsIds-itself table) draft.places rows a b same draft.steps is.over h

  -- a place of which nothing is asked
  pub free_place : StandsFor [] (λ s v. Unit {0}) (λ t a. a draft.places) table draft table (with_place draft)
  free_place = record {
    grows = grows_place;
    draft = is_with_place;
    named = λ name. no_names (names_of draft.variables) name;
    stays = λ later a b keeps same. same draft.places (omega arith);
    sound = λ rows a s c k. tt;
    whole = λ rows a s v c k m. (
      put a draft.places v,
      put_below a draft.places v,
      carries_stay draft.variables draft.places a (put a draft.places v) s is.within (put_below a draft.places v) c,
      steps_at rows a (put a draft.places v) (put_below a draft.places v) k,
      put_there a draft.places v,
    );
  }

  -- ---- a variable

  absent_apart : (name : List ℕ) → (Contains (names_of draft.variables) name → ⊥) → (k : ℕ) (d : Placed) → k < length draft.variables → (get_or draft.variables k d).0 ≡ name → ⊥
  absent_apart name absent k d l e = absent (subst (Contains (names_of draft.variables)) e (to_map (λ (v : Placed). v.0) draft.variables (get_or draft.variables k d) (Contains-get_or draft.variables k d l)))

  is_with_variable : (name : List ℕ) → (Contains (names_of draft.variables) name → ⊥) → IsDraft table (with_variable draft name)
  is_with_variable name absent = record {
    within = All-push (λ (v : Placed). v.1 < draft.places + 1) draft.variables (name, draft.places) is_with_place.within (omega arith);
    once = all_pairs_push (λ (v w : Placed). v.0 ≡ w.0 → ⊥) draft.variables (name, draft.places) is.once (absent_apart name absent);
    over = is_with_place.over;
  }

  names_with : (name other : List ℕ) → Contains (names_of (with_variable draft name).variables) other ↔ (Contains (names_of draft.variables) other ⊎ Contains (name ∷ []) other)
  names_with name other =
      let e : names_of (with_variable draft name).variables ≡ names_of draft.variables ++ name ∷ [] = map-append (λ (v : Placed). v.0) draft.variables ((name, draft.places) ∷ []) in (
        λ c. Contains-append_cases (names_of draft.variables) (name ∷ []) other (subst (λ ns. Contains ns other) e c),
        λ c. subst (λ ns. Contains ns other) (sym e) (⊎_elim (Contains-append_left (names_of draft.variables) (name ∷ []) other) (Contains-append_right (names_of draft.variables) (name ∷ []) other) c),
      )

  new_variable : (name : List ℕ) → (Contains (names_of draft.variables) name → ⊥) → StandsFor (name ∷ []) (λ s v. v ≡ s name) (λ t a. a draft.places) table draft table (with_variable draft name)
  new_variable name absent = record {
    grows = record {
      table = KeepsIds-itself table;
      variables = ((name, draft.places) ∷ [], refl);
      places = omega arith;
      steps = ([], sym (append-nil draft.steps));
    };
    draft = is_with_variable name absent;
    named = names_with name;
    stays = λ later a b keeps same. same draft.places (omega arith);
    sound = λ rows a s c k. all_last (λ (v : Placed). a v.1 ≡ s v.0) draft.variables (name, draft.places) c;
    whole = λ rows a s v c k m.
        let b : Assignment = put a draft.places v in
        let below : SameBelow draft.places a b = put_below a draft.places v in
        let there : b draft.places ≡ v = put_there a draft.places v in (
          b,
          below,
          All-push (λ (w : Placed). b w.1 ≡ s w.0) draft.variables (name, draft.places) (carries_stay draft.variables draft.places a b s is.within below c) (there ∙ m),
          steps_at rows a b below k,
          there,
        );
  }

  only_in : (x y : List ℕ) → Contains (x ∷ []) y → x ≡ y
  only_in x y c = ⊎_elim (λ h. absurd (omega (arith, h.1))) (λ e. e) (Contains-push_cases [] x y c)

  old_variable : (name : List ℕ) (place : ℕ) → Contains draft.variables (name, place) → StandsFor (name ∷ []) (λ s v. v ≡ s name) (λ t a. a place) table draft table draft
  old_variable name place has =
      let carried : (a : Assignment) (s : Substitution) → Carries draft.variables a s → a place ≡ s name = λ a s c. All-contains (λ (v : Placed). a v.1 ≡ s v.0) draft.variables (name, place) c has in
      let named : Contains (names_of draft.variables) name = to_map (λ (v : Placed). v.0) draft.variables (name, place) has in
      record {
        grows = record {
          table = KeepsIds-itself table;
          variables = ([], sym (append-nil draft.variables));
          places = omega arith;
          steps = ([], sym (append-nil draft.steps));
        };
        draft = is;
        named = λ other. (λ c. inl c, λ c. ⊎_elim (λ h. h) (λ h. subst (Contains (names_of draft.variables)) (only_in name other h) named) c);
        stays = λ later a b keeps same. same place (All-contains (λ (v : Placed). v.1 < draft.places) draft.variables (name, place) is.within has);
        sound = λ rows a s c k. carried a s c;
        whole = λ rows a s v c k m. (a, same_itself draft.places a, c, k, carried a s c ∙ sym m);
      }

  pub placed_variable : (name : List ℕ) (place : ℕ) (new : Drafted) → IsPlacedIn draft name place new → StandsFor (name ∷ []) (λ s v. v ≡ s name) (λ t a. a place) table draft table new
  placed_variable name place new p = ⊎_elim
      (λ h. subst (λ d. StandsFor (name ∷ []) (λ s v. v ≡ s name) (λ t a. a place) table draft table d) (sym h.1) (old_variable name place h.0))
      (λ h. subst (λ d. StandsFor (name ∷ []) (λ s v. v ≡ s name) (λ t a. a place) table draft table d) (sym (h.2 ∙ ap (λ n. record { variables = draft.variables ++ (name, n) ∷ []; places = draft.places + 1; steps = draft.steps }) h.1))
      (subst (λ n. StandsFor (name ∷ []) (λ s v. v ≡ s name) (λ t a. a n) table draft table (with_variable draft name)) (sym h.1) (new_variable name h.0)))
      p

-- ---- a value of the table

pub known_value : (old new : List Value) → KeepsIds old new → (draft : Drafted) → IsDraft old draft → (id : TermId) → IsIdOf new id → (v : Value) → value_at new id ≡ v → StandsFor [] (λ s w. w ≡ v) (λ t a. value_at t id) old draft new draft
known_value old new keeps draft is id within v e = record {
  grows = record {
    table = keeps;
    variables = ([], sym (append-nil draft.variables));
    places = omega arith;
    steps = ([], sym (append-nil draft.steps));
  };
  draft = record {
    within = is.within;
    once = is.once;
    over = steps_more old new keeps draft.places draft.places (omega arith) draft.steps is.over;
  };
  named = λ name. no_names (names_of draft.variables) name;
  stays = λ later a b more same. more.same id within;
  sound = λ rows a s c k. e;
  whole = λ rows a s w c k m. (a, same_itself draft.places a, c, steps_stay old new keeps draft.places rows a a (same_itself draft.places a) draft.steps is.over k, e ∙ sym m);
}

-- ---- a place with a step

-- a value at which the step holds, where the part has the value x
abbrev pub Stepped : {X : Type 0} → (Substitution → X → Type 0) → (X → Value → Type 0) → Substitution → Value → Type 0
Stepped {X} M R s v = (x : X) × M s x × R x v

module _ {X : Type 0} (names : List (List ℕ)) (M : Substitution → X → Type 0) (f : List Value → Assignment → X) (R : X → Value → Type 0) (step : Step)
    (t0 : List Value) (d0 : Drafted) (t1 : List Value) (d1 : Drafted) (p : StandsFor names M f t0 d0 t1 d1)
    (over : IsStepOf t1 (d1.places + 1) step) (tells : (rows : List (List (List Value))) (a : Assignment) → StepHolds t1 rows a step ↔ R (f t1 a) (a d1.places)) where
  grows_stepped : Grows t1 d1 t1 (with_step (with_place d1) step)
  grows_stepped = record {
    table = KeepsIds-itself t1;
    variables = ([], sym (append-nil d1.variables));
    places = omega arith;
    steps = (step ∷ [], refl);
  }

  is_stepped : IsDraft t1 (with_step (with_place d1) step)
  is_stepped = let more = is_with_place t1 d1 p.draft in record {
    within = more.within;
    once = more.once;
    over = All-push (IsStepOf t1 (d1.places + 1)) d1.steps step more.over over;
  }

  pub stepped : StandsFor names (Stepped M R) (λ t a. a d1.places) t0 d0 t1 (with_step (with_place d1) step)
  stepped = record {
    grows = grows_then t0 d0 t1 d1 t1 (with_step (with_place d1) step) p.grows grows_stepped;
    draft = is_stepped;
    named = p.named;
    stays = λ later a b keeps same. same d1.places (omega arith);
    sound = λ rows a s c k. (
      f t1 a,
      p.sound rows a s c (all_front (StepHolds t1 rows a) d1.steps (step ∷ []) (d1.steps ++ step ∷ []) refl k),
      (tells rows a).0 (all_last (StepHolds t1 rows a) d1.steps step k),
    );
    whole = λ rows a s v c k m.
        let (x, means, r) = m in
        let (b, same, cs, ks, e) = p.whole rows a s x c k means in
        let n : ℕ = d1.places in
        let b' : Assignment = put b n v in
        let below : SameBelow n b b' = put_below b n v in
        let there : b' n ≡ v = put_there b n v in (
          b',
          λ place l. below place (omega (arith, l, p.grows.places)) ∙ same place l,
          carries_stay d1.variables n b b' s p.draft.within below cs,
          All-push (StepHolds t1 rows b') d1.steps step
              (steps_stay t1 t1 (KeepsIds-itself t1) n rows b b' below d1.steps p.draft.over ks)
              ((tells rows b').1 (subst (λ y. R y (b' n)) (sym (p.stays t1 b b' (KeepsIds-itself t1) below ∙ e)) (subst (R x) (sym there) r))),
          there,
        );
  }
