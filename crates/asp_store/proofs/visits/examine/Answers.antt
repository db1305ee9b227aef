use Rattle.std.proofs.Common.{◌≡◌, ◌∷◌, ◌<◌, ◌∙◌, ℕ, List, sym, inl, inr, refl, ap, get_or, subst}
use Rattle.std.proofs.lemmas.List.{get_or_default}
use Rattle.asp_trail.specs.Trail.{values_of}
use Rattle.theory_form.specs.declared.literals.Lit.{Lit}
use Rattle.asp_trail.specs.declared.Entry.{Entry}
use Rattle.asp_trail.specs.declared.Why.TheVariants.{Clause}
use Rattle.asp_store.specs.Watch.{WatchOk}
use Rattle.asp_store.proofs.ExamineLemmas.{any_lit, zero_lit, contains_now, stable_places, clause_from_kept, IsPlacesIn-within, Rewatched-made, TrueAt-entry, WatchOk-assigned, reason_from_unit}
use Rattle.asp_store.proofs.visits.examine.Goals as goal

pub choose-requires : goal.choose-requires
choose-requires c = (c.requires.listed c.args.watcher.key c.in-Some.kept.now (sym c.in-Some.ensures)).0

pub list_places-requires-clause-places : goal.list_places-requires-clause-places
list_places-requires-clause-places c =
    IsPlacesIn-within c.args.clauses.now.slots c.args.lists.now c.args.trail.now.places c.args.watcher.key c.in-Watch.i c.in-Watch.j c.in-Some.kept.now c.requires.within c.requires.room (sym c.in-Some.ensures) c.in-Watch.ensures.0.within_first c.in-Watch.ensures.0.within_second

pub list_places-requires-clause-listed : goal.list_places-requires-clause-listed
list_places-requires-clause-listed c = (c.requires.listed c.args.watcher.key c.in-Some.kept.now (sym c.in-Some.ensures)).1

pub list_places-requires-in-Assign-clause-places : goal.list_places-requires-in-Assign-clause-places
list_places-requires-in-Assign-clause-places c =
    IsPlacesIn-within c.args.clauses.now.slots c.args.lists.now c.args.trail.now.places c.args.watcher.key c.in-Assign.i c.in-Assign.j c.in-Some.kept.now c.requires.within c.requires.room (sym c.in-Some.ensures) c.in-Assign.ensures.2 c.in-Assign.ensures.3

pub list_places-requires-in-Assign-clause-listed : goal.list_places-requires-in-Assign-clause-listed
list_places-requires-in-Assign-clause-listed c = (c.requires.listed c.args.watcher.key c.in-Some.kept.now (sym c.in-Some.ensures)).1

pub push-requires-clause-within : goal.push-requires-clause-within
push-requires-clause-within c =
    rw c.as_slice-c.ensures
    (c.requires.within c.args.watcher.key c.in-Some.kept.now.clause (clause_from_kept c.args.clauses.now.slots c.args.watcher.key c.in-Some.kept.now (sym c.in-Some.ensures)) c.in-Assign.at _ c.in-Assign.ensures.0.free.within)

pub returns-in-Clash-clause-look : goal.returns-in-Clash-clause-look
returns-in-Clash-clause-look c = (
  record {
    clause = c.in-Some.kept.now.clause;
    stored = clause_from_kept c.args.clauses.now.slots c.args.watcher.key c.in-Some.kept.now (sym c.in-Some.ensures);
    all_false = rw c.assignment-a.ensures.value at c.in-Clash.ensures;
  },
  refl,
  refl,
)

pub returns-in_err-list_places-in-Watch-clause-stable : goal.returns-in_err-list_places-in-Watch-clause-stable
returns-in_err-list_places-in-Watch-clause-stable c =
    let ok = rw c.assignment-a.ensures.value at c.in-Watch.ensures in
    stable_places _ c.in-Some.kept.now c.in-Watch.i c.in-Watch.j _ _ ok.2 c.list_places.ensures.stable

pub returns-in_ok-list_places-in-Watch-clause-stable : goal.returns-in_ok-list_places-in-Watch-clause-stable
returns-in_ok-list_places-in-Watch-clause-stable c =
    let ok = rw c.assignment-a.ensures.value at c.in-Watch.ensures in
    stable_places _ c.in-Some.kept.now c.in-Watch.i c.in-Watch.j _ _ ok.2 c.list_places.ensures.stable

pub returns-in_err-list_places-in-Assign-clause-stable : goal.returns-in_err-list_places-in-Assign-clause-stable
returns-in_err-list_places-in-Assign-clause-stable c =
    let ok = rw c.assignment-a.ensures.value at c.in-Assign.ensures in
    stable_places _ c.in-Some.kept.now c.in-Assign.i c.in-Assign.j _ _ ok.5 c.list_places-in-Assign.ensures.stable

pub returns-in_ok-list_places-in-Assign-clause-stable : goal.returns-in_ok-list_places-in-Assign-clause-stable
returns-in_ok-list_places-in-Assign-clause-stable c =
    let ok = rw c.assignment-a.ensures.value at c.in-Assign.ensures in
    stable_places _ c.in-Some.kept.now c.in-Assign.i c.in-Assign.j _ _ ok.5 c.list_places-in-Assign.ensures.stable

pub returns-in_ok-list_places-in-Watch-clause-look : goal.returns-in_ok-list_places-in-Watch-clause-look
returns-in_ok-list_places-in-Watch-clause-look c =
    let k = c.in-Some.kept.now in
    let stored = sym c.in-Some.ensures in
    let ok = rw c.assignment-a.ensures.value at c.in-Watch.ensures in
    let now = c.set_places.ensures.changed k stored in (
      inr (record {
        before = k;
        after = record k { first = c.in-Watch.i; second = c.in-Watch.j };
        changed =
            Rewatched-made c.args.clauses.now.slots c.set_places.new.clauses.slots c.args.lists.now c.list_places.new.lists c.args.watcher.key c.in-Watch.i c.in-Watch.j k
            stored now c.set_places.ensures.others c.list_places.ensures.grows ok.0.within_first ok.0.within_second
            c.in_ok-list_places-in-Watch.ensures.listed
            c.set_places.ensures.same;
        good = ok.1;
        grew = inl refl;
        done = ok.0;
      }),
      λ x at. contains_now c.set_places.new.clauses.slots c.args.watcher.key c.in-Watch.i c.in-Watch.j c.in-Watch.i k x zero_lit _ now at ok.0.within_first c.as_slice-c.ensures,
    )

pub returns-in_ok-list_places-in-Assign-clause-look : goal.returns-in_ok-list_places-in-Assign-clause-look
returns-in_ok-list_places-in-Assign-clause-look c =
    let slots = c.args.clauses.now.slots in
    let n : ℕ = c.args.trail.now.places in
    let es = c.args.trail.now.entries in
    let k = c.in-Some.kept.now in
    let stored = sym c.in-Some.ensures in
    let ok = rw c.assignment-a.ensures.value at c.in-Assign.ensures in
    let at : ℕ = c.in-Assign.at in
    let l : Lit = get_or k.clause at any_lit in
    let e : Entry = record { lit = l; why = Clause (record { 0 = c.args.watcher.key }) } in
    let is : c.push.new.self.entries ≡ e ∷ es =
    ap (λ t. t.entries) c.push.ensures
    ∙ ap (λ (x : Lit). record { lit = x; why = Clause (record { 0 = c.args.watcher.key }) } ∷ es)
    (ap (λ (xs : List Lit). get_or xs at zero_lit) c.as_slice-c.ensures ∙ get_or_default k.clause at zero_lit any_lit ok.0.free.within) in
    let within : l.var.0 < n = c.requires.within c.args.watcher.key k.clause (clause_from_kept slots c.args.watcher.key k stored) at any_lit ok.0.free.within in
    let reason = reason_from_unit slots _ c.args.watcher.key at k any_lit stored ok.0 in
    let now = c.set_places-in-Assign.ensures.changed k stored in (
      inr (record {
        before = k;
        after = record k { first = c.in-Assign.i; second = c.in-Assign.j };
        changed =
            Rewatched-made slots c.set_places-in-Assign.new.clauses.slots c.args.lists.now c.list_places-in-Assign.new.lists c.args.watcher.key c.in-Assign.i c.in-Assign.j k
            stored now c.set_places-in-Assign.ensures.others c.list_places-in-Assign.ensures.grows ok.2 ok.3
            c.in_ok-list_places-in-Assign.ensures.listed
            c.set_places-in-Assign.ensures.same;
        good = ok.4;
        grew = inr (e, is, refl, reason);
        done = subst (λ q. WatchOk (values_of n q) (values_of n q) (record k { first = c.in-Assign.i; second = c.in-Assign.j })) (sym is)
            (WatchOk-assigned (values_of n (e ∷ es)) k at c.in-Assign.i c.in-Assign.j (TrueAt-entry n es e k.clause at any_lit within ok.0.free.within refl) ok.2 ok.3);
      }),
      λ x there. contains_now c.set_places-in-Assign.new.clauses.slots c.args.watcher.key c.in-Assign.i c.in-Assign.j at k x zero_lit _ now there ok.0.free.within c.as_slice-c.ensures,
    )
