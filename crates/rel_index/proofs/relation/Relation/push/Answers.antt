use Rattle.std.proofs.Common.{◌≡◌, ◌+◌, suc, ◌∷◌, ◌++◌, [], sym, ap, ap₂, ◌∙◌, arith}
use Rattle.rel_index.specs.Rows.{Table, rows_of}
use Rattle.rel_index.proofs.RowLemmas.{counted, rows_of-push}
use Rattle.rel_index.proofs.relation.Relation.push.Goals as goal

pub overflow_add-self : goal.overflow_add-self
overflow_add-self c =
    let inside = c.self.inside in
    omega (arith, c.requires.room, counted inside.arity inside.count inside.ids.items c.args.self.now c.self.view_is)

pub returns-clause-ok : goal.returns-clause-ok
returns-clause-ok c =
    let inside = c.self.inside in
    let one_more : inside.count + 1 ≡ suc inside.count = omega arith in
    ap₂ (λ n ids. rows_of inside.arity n ids) one_more c.in_ok-extend_from_slice.ensures.items
    ∙ rows_of-push inside.arity inside.count inside.ids.items c.args.row.now c.self.invariant (c.requires.size ∙ ap (λ (t : Table). t.arity) (sym c.self.view_is))
    ∙ ap (λ (t : Table). t.rows ++ c.args.row.now ∷ []) c.self.view_is
