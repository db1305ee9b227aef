use Rattle.std.proofs.Common.{◌≡◌, max, length, arith, ap, ◌∙◌}
use Rattle.asp_store.specs.Store.{places_of}
use Rattle.asp_store.proofs.StoreLemmas.{IsWithin-places_of}
use Rattle.asp_store.proofs.PlaceLemmas.{IsWatchStore-longer, codes_from_within}
use Rattle.asp_store.proofs.EditLemmas.{Adds-inserted}
use Rattle.asp_store.proofs.KeepLemmas.{IsWatchStore-made, IsWatchStore-grows, IsWatchStore-inserted, IsWatchStore-dropped}
use Rattle.asp_store.proofs.stores.Store.add.Goals as goal

pub invariant_of-self : goal.invariant_of-self
invariant_of-self c =
    let f = c.self.inside in
    rw c.make_rooms.ensures.marks
    (IsWatchStore-longer f.clauses.slots f.lists _ f.empties.items f.pending.items f.trail.places f.trail.entries f.marks.items f.top _ _ c.make_rooms.ensures.longer c.make_rooms.ensures.wider c.self.invariant)

pub invariant_of-self-in_err-reserve_keys : goal.invariant_of-self-in_err-reserve_keys
invariant_of-self-in_err-reserve_keys c =
    let f = c.self.inside in
    let long = IsWatchStore-longer f.clauses.slots f.lists _ f.empties.items f.pending.items f.trail.places f.trail.entries f.marks.items f.top _ _ c.make_rooms.ensures.longer c.make_rooms.ensures.wider c.self.invariant in
    let marks_len : c.len.result ≡ length f.marks.items = c.len.ensures ∙ (c.make_rooms.new.marks.ok.0 ∙ ap length c.make_rooms.ensures.marks) in
    rw (c.make_rooms.ensures.marks, c.reserve_keys.ensures.pending, c.reserve_keys.ensures.empties)
    (IsWatchStore-dropped f.clauses.slots _ f.empties.items f.pending.items _ f.trail.places f.trail.entries f.marks.items f.top _ _ _ marks_len c.drop_done.ensures long)

pub insert-requires-clause-codes : goal.insert-requires-clause-codes
insert-requires-clause-codes c =
    let lits = c.args.c.now in
    let e = c.lits-lits.ensures.literals in
    let fit = rw e at c.in_ok-make_rooms.ensures.lists in
    rw e (codes_from_within lits (places_of lits) _ (IsWithin-places_of lits (places_of lits) (omega arith)) fit)

pub invariant_of-self-in_err-key : goal.invariant_of-self-in_err-key
invariant_of-self-in_err-key c =
    let f = c.self.inside in
    let long = IsWatchStore-longer f.clauses.slots f.lists _ f.empties.items f.pending.items f.trail.places f.trail.entries f.marks.items f.top _ _ c.make_rooms.ensures.longer c.make_rooms.ensures.wider c.self.invariant in
    let marks_len : c.len.result ≡ length f.marks.items = c.len.ensures ∙ (c.make_rooms.new.marks.ok.0 ∙ ap length c.make_rooms.ensures.marks) in
    let dropped = IsWatchStore-dropped f.clauses.slots _ f.empties.items f.pending.items _ f.trail.places f.trail.entries f.marks.items f.top _ _ _ marks_len c.drop_done.ensures long in
    rw (c.make_rooms.ensures.marks, c.reserve_keys.ensures.pending, c.reserve_keys.ensures.empties, c.in_err-key.ensures.slots, c.in_err-key.ensures.err)
    (IsWatchStore-grows f.clauses.slots _ _ f.empties.items _ f.trail.places f.trail.entries f.marks.items _ _ c.in_err-key.ensures.grows dropped)

pub invariant_of-self-2 : goal.invariant_of-self-2
invariant_of-self-2 c =
    let f = c.self.inside in
    let lits = c.args.c.now in
    let e = c.lits-lits.ensures.literals in
    let fit = rw e at c.in_ok-make_rooms.ensures.lists in
    let levels = rw e at c.in_ok-make_rooms.ensures.levels in
    let places = rw e at c.in_ok-key.ensures.places in
    let made = (IsWatchStore-made f.clauses.slots f.lists _ f.empties.items f.pending.items f.trail.places (places_of lits) f.trail.entries f.marks.items f.top _ _ c.insert.ensures.trail
    c.make_rooms.ensures.longer c.make_rooms.ensures.wider fit levels c.self.invariant) in
    let marks_len : c.len.result ≡ length f.marks.items = c.len.ensures ∙ (c.make_rooms.new.marks.ok.0 ∙ ap length c.make_rooms.ensures.marks) in
    let dropped = IsWatchStore-dropped f.clauses.slots _ f.empties.items f.pending.items _ _ f.trail.entries f.marks.items f.top _ _ _ marks_len c.drop_done.ensures made in
    let added = rw e at c.in_ok-key.ensures.added in
    let kept = rw c.reserve_keys.ensures.empties at c.note_empty.ensures.kept in
    let noted = rw e at c.note_empty.ensures.noted in
    rw (places, c.make_rooms.ensures.marks, c.push_reserved.ensures.items, c.reserve_keys.ensures.pending)
    (IsWatchStore-inserted f.clauses.slots _ _ _ f.empties.items _ _ _ f.trail.entries f.marks.items _ _ c.in_ok-key.key lits added c.in_ok-key.ensures.grows
    (IsWithin-places_of lits (max f.trail.places (places_of lits)) (omega arith)) c.lits-lits.ensures.ascending kept noted dropped)

pub returns-clause-added : goal.returns-clause-added
returns-clause-added c =
    let f = c.self.inside in
    let added = rw c.lits-lits.ensures.literals at c.in_ok-key.ensures.added in
    rw (← c.self.view_is) (Adds-inserted f.clauses.slots _ _ c.in_ok-key.key c.args.c.now added)
