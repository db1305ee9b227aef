-- How parts are put together: what stands for them follows part by part.
use Rattle.std.proofs.Common.{◌≡◌, ◌↔◌, ℕ, List, [], ◌++◌, Contains, refl, sym, subst, ap, ap₂, ◌∙◌, ⊎_elim, inl, inr, append_assoc, arith}
use Rattle.std.specs.Prelude.{◌⊎◌}
use Rattle.std.proofs.lemmas.List.{append-nil}
use Rattle.std.proofs.lemmas.List.Elements.{Contains-append_cases, Contains-append_left, Contains-append_right}
use Rattle.ap_term.proofs.CallerLemmas.{KeepsIds-itself, KeepsIds-trans}
use Rattle.ap_term.specs.Value.{Value}
use Rattle.join_form.specs.Patterns.{Assignment}
use Rattle.join_form.specs.Steps.{StepHolds}
use Rattle.rule_form.specs.Values.{Substitution}
use Rattle.rule_joins.specs.Drafts.{Placed, Drafted, names_of, Carries, AllHold, SameBelow, IsDraft, Grows}
use Rattle.rule_joins.specs.Stands.{StandsFor}
use Rattle.rule_joins.proofs.DraftLemmas.{all_front, steps_before}

pub same_itself : (n : ℕ) (a : Assignment) → SameBelow n a a
same_itself n a place l = refl

-- nothing is in the empty list
none_in : {X : Type 0} (x : X) → Contains [] x → ⊥
none_in x c = omega (arith, c.1)

-- where no variable is added
pub no_names : (names : List (List ℕ)) (name : List ℕ) → Contains names name ↔ (Contains names name ⊎ Contains [] name)
no_names names name = (λ c. inl c, λ c. ⊎_elim (λ h. h) (λ h. absurd (none_in name h)) c)

-- ---- a draft that grew

pub grows_itself : (table : List Value) (draft : Drafted) → Grows table draft table draft
grows_itself table draft = record {
  table = KeepsIds-itself table;
  variables = ([], sym (append-nil draft.variables));
  places = omega arith;
  steps = ([], sym (append-nil draft.steps));
}

pub grows_then : (t0 : List Value) (d0 : Drafted) (t1 : List Value) (d1 : Drafted) (t2 : List Value) (d2 : Drafted) → Grows t0 d0 t1 d1 → Grows t1 d1 t2 d2 → Grows t0 d0 t2 d2
grows_then t0 d0 t1 d1 t2 d2 p q = record {
  table = KeepsIds-trans t0 t1 t2 p.table q.table;
  variables = (p.variables.0 ++ q.variables.0, q.variables.1 ∙ (ap (λ vs. vs ++ q.variables.0) p.variables.1 ∙ append_assoc d0.variables p.variables.0 q.variables.0));
  places = omega (arith, p.places, q.places);
  steps = (p.steps.0 ++ q.steps.0, q.steps.1 ∙ (ap (λ xs. xs ++ q.steps.0) p.steps.1 ∙ append_assoc d0.steps p.steps.0 q.steps.0));
}

pub carried : (t0 : List Value) (d0 : Drafted) (t1 : List Value) (d1 : Drafted) (a : Assignment) (s : Substitution) → Grows t0 d0 t1 d1 → Carries d1.variables a s → Carries d0.variables a s
carried t0 d0 t1 d1 a s g h = all_front (λ (v : Placed). a v.1 ≡ s v.0) d0.variables g.variables.0 d1.variables g.variables.1 h

-- the steps from before hold in the table from before
pub held : (t0 : List Value) (d0 : Drafted) (t1 : List Value) (d1 : Drafted) (rows : List (List (List Value))) (a : Assignment) → IsDraft t0 d0 → Grows t0 d0 t1 d1 → AllHold t1 rows a d1.steps → AllHold t0 rows a d0.steps
held t0 d0 t1 d1 rows a is g h = steps_before t0 t1 g.table d0.places rows a a (same_itself d0.places a) d0.steps is.over (all_front (StepHolds t1 rows a) d0.steps g.steps.0 d1.steps g.steps.1 h)

-- ---- the same part, seen in another way

pub seen : {X Y : Type 0} (names : List (List ℕ)) (M : Substitution → X → Type 0) (f : List Value → Assignment → X) (N : Substitution → Y → Type 0) (g : List Value → Assignment → Y) (h : X → Y)
    (t0 : List Value) (d0 : Drafted) (t1 : List Value) (d1 : Drafted)
    → ((t : List Value) (a : Assignment) → g t a ≡ h (f t a))
    → ((s : Substitution) (x : X) → M s x → N s (h x))
    → ((s : Substitution) (y : Y) → N s y → (x : X) × M s x × (h x ≡ y))
    → StandsFor names M f t0 d0 t1 d1 → StandsFor names N g t0 d0 t1 d1
seen names M f N g h t0 d0 t1 d1 e to from p = record {
  grows = p.grows;
  draft = p.draft;
  named = p.named;
  stays = λ later a b keeps same. e later b ∙ (ap h (p.stays later a b keeps same) ∙ sym (e t1 a));
  sound = λ rows a s c k. subst (N s) (sym (e t1 a)) (to s (f t1 a) (p.sound rows a s c k));
  whole = λ rows a s y c k n.
      let (x, m, q) = from s y n in
      let (b, same, cs, ks, v) = p.whole rows a s x c k m in
      (b, same, cs, ks, e t1 b ∙ (ap h v ∙ q));
}

-- ---- one part after another

module _ {X Y : Type 0} (ns ms : List (List ℕ)) (M : Substitution → X → Type 0) (N : Substitution → Y → Type 0) (f : List Value → Assignment → X) (g : List Value → Assignment → Y)
    (t0 : List Value) (d0 : Drafted) (t1 : List Value) (d1 : Drafted) (t2 : List Value) (d2 : Drafted) where
  abbrev pub Both : Substitution → X × Y → Type 0
  Both s z = M s z.0 × N s z.1

  abbrev pub value_of_both : List Value → Assignment → X × Y
  value_of_both t a = (f t a, g t a)

  named_both : (name : List ℕ) → Contains (names_of d1.variables) name ↔ (Contains (names_of d0.variables) name ⊎ Contains ns name)
      → Contains (names_of d2.variables) name ↔ (Contains (names_of d1.variables) name ⊎ Contains ms name)
      → Contains (names_of d2.variables) name ↔ (Contains (names_of d0.variables) name ⊎ Contains (ns ++ ms) name)
  named_both name p q = (
    λ c. ⊎_elim
        (λ h. ⊎_elim (λ i. inl i) (λ i. inr (Contains-append_left ns ms name i)) (p.0 h))
        (λ h. inr (Contains-append_right ns ms name h))
        (q.0 c),
    λ c. ⊎_elim
        (λ h. q.1 (inl (p.1 (inl h))))
        (λ h. ⊎_elim (λ i. q.1 (inl (p.1 (inr i)))) (λ i. q.1 (inr i)) (Contains-append_cases ns ms name h))
        c,
  )

  pub both : StandsFor ns M f t0 d0 t1 d1 → StandsFor ms N g t1 d1 t2 d2 → StandsFor (ns ++ ms) Both value_of_both t0 d0 t2 d2
  both p q =
      let first : (a b : Assignment) → SameBelow d1.places a b → f t2 b ≡ f t1 a = λ a b same. p.stays t2 a b q.grows.table same in
      record {
        grows = grows_then t0 d0 t1 d1 t2 d2 p.grows q.grows;
        draft = q.draft;
        named = λ name. named_both name (p.named name) (q.named name);
        stays = λ later a b keeps same. ap₂ (λ (x : X) (y : Y). (x, y))
            (p.stays later a b (KeepsIds-trans t1 t2 later q.grows.table keeps) (λ place l. same place (omega (arith, l, q.grows.places))) ∙ sym (first a a (same_itself d1.places a)))
            (q.stays later a b keeps same);
        sound = λ rows a s c k. (
          subst (M s) (sym (first a a (same_itself d1.places a))) (p.sound rows a s (carried t1 d1 t2 d2 a s q.grows c) (held t1 d1 t2 d2 rows a p.draft q.grows k)),
          q.sound rows a s c k,
        );
        whole = λ rows a s z c k m.
            let (b, same_b, cs_b, ks_b, v) = p.whole rows a s z.0 c k m.0 in
            let (e, same_e, cs_e, ks_e, w) = q.whole rows b s z.1 cs_b ks_b m.1 in (
              e,
              λ place l. same_e place (omega (arith, l, p.grows.places)) ∙ same_b place l,
              cs_e,
              ks_e,
              ap₂ (λ (x : X) (y : Y). (x, y)) (first b e same_e ∙ v) w,
            );
      }

-- ---- parts without places

-- nothing at all
pub empty : {X : Type 0} (x : X) (table : List Value) (draft : Drafted) → IsDraft table draft → StandsFor [] (λ s y. y ≡ x) (λ t a. x) table draft table draft
empty x table draft is = record {
  grows = grows_itself table draft;
  draft = is;
  named = λ name. no_names (names_of draft.variables) name;
  stays = λ later a b keeps same. refl;
  sound = λ rows a s c k. refl;
  whole = λ rows a s y c k m. (a, same_itself draft.places a, c, k, sym m);
}
