use Rattle.std.proofs.Common.{map, subst, sym, ap, take, ◌∙◌}
use Rattle.std.proofs.lemmas.List.{take-map}
use Rattle.theory_form.specs.Kept.{AreLists, kept_kind}
use Rattle.theory_form.specs.Theories.{IsMarkOf}
use Rattle.theory_form.proofs.TheoryLemmas.{HoldsTheory-cut, cut-size, kinds_known}
use Rattle.theory_form.proofs.theories.Theory.cut.Goals as goal

pub cut_variables-requires-clause-kinds : goal.cut_variables-requires-clause-kinds
cut_variables-requires-clause-kinds c = kinds_known _ _ _ _ _ _ c.self.invariant

pub invariant_of-self : goal.invariant_of-self
invariant_of-self c =
    let f = c.self.inside in
    let m = c.args.m.now in
    rw (c.cut_variables.ensures.variables, c.truncate.ensures.items, c.truncate-2.ensures.items, c.truncate.ensures.capacity)
    (HoldsTheory-cut f.variables.items f.clauses.items f.blocks.items c.cut_variables.new.blocks.items f.reserved f.guard _ _ m c.self.invariant
    (subst (IsMarkOf m) (sym c.self.view_is) c.requires) c.cut_variables.ensures.size
    (subst (λ xs. AreLists (map kept_kind xs) c.cut_variables.new.blocks.items) c.cut_variables.ensures.variables c.cut_variables.ensures.lists) c.guard_within-self-inside.ensures)

pub returns : goal.returns
returns c =
    let f = c.self.inside in
    let m = c.args.m.now in
    let marks = subst (IsMarkOf m) (sym c.self.view_is) c.requires in
    let size = cut-size _ c.cut_variables.new.blocks.items m marks c.cut_variables.ensures.size ∙ sym (ap (λ q. q.blocks) marks.is_mark) in
    rw (← c.self.view_is, c.cut_variables.ensures.variables, c.truncate.ensures.items, c.truncate-2.ensures.items)
    (λ i.
    record {
      variables = sym (take-map kept_kind m.variables f.variables.items) i;
      clauses = take m.clauses f.clauses.items;
      blocks = size i;
      reserved = f.reserved;
    })
