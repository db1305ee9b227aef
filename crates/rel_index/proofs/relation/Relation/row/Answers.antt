use Rattle.std.proofs.Common.{◌≡◌, ◌≤◌, ◌<◌, ◌+◌, ◌*◌, ◌-◌, length, take, drop, Some, slice_get, sym, ap, ap₂, ◌∙◌, arith, rules}
use Rattle.rel_index.specs.Rows.{Table}
use Rattle.rel_index.proofs.RowLemmas.{counted, row_at, ends_within}
use Rattle.rel_index.proofs.relation.Relation.row.Goals as goal

ends : (c : goal.After-deref) → c.args.place * c.self.inside.arity + c.self.inside.arity ≤ length c.deref.result.now
ends c =
    let inside = c.self.inside in
    let low : c.args.place < inside.count = omega (arith, c.requires, counted inside.arity inside.count inside.ids.items c.args.self.now c.self.view_is) in
    ends_within inside.arity inside.count c.deref.result.now c.args.place low (ap length c.deref.ensures.value ∙ c.self.invariant)

pub offset_bounds-deref-start : goal.offset_bounds-deref-start
offset_bounds-deref-start c = let end = ends c in search rules

pub slice_bounds-result-end : goal.slice_bounds-result-end
slice_bounds-result-end c = let end = ends c in search rules

pub returns-clause-row : goal.returns-clause-row
returns-clause-row c =
    let inside = c.self.inside in
    let low : c.args.place < inside.count = omega (arith, c.requires, counted inside.arity inside.count inside.ids.items c.args.self.now c.self.view_is) in
    let size : inside.arity ≡ c.args.place * inside.arity + inside.arity - c.args.place * inside.arity = omega arith in
    ap (λ (t : Table). slice_get t.rows c.args.place) (sym c.self.view_is) ∙ row_at inside.arity inside.count inside.ids.items c.args.place low
    ∙ ap₂ (λ n ids. Some (take n (drop (c.args.place * inside.arity) ids))) size (sym c.deref.ensures.value)
