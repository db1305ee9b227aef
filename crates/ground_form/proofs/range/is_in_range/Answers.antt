use Rattle.ground_form.proofs.range.is_in_range.Goals as goal

pub returns-then-are_groups_of : goal.returns-then-are_groups_of
returns-then-are_groups_of c = (
  λ h. record {
    atoms = c.are_distinct.ensures.0 c.if-not-are_distinct.false;
    rules = c.are_rules_of.ensures.0 c.if-not-are_rules_of.false;
    bodies = c.are_bodies_of.ensures.0 c.if-not-are_bodies_of.false;
    groups = c.are_groups_of.ensures.0 c.if-are_groups_of.true;
    inputs = c.are_atoms_of.ensures.0 h;
  },
  λ r. c.are_atoms_of.ensures.1 r.inputs,
)
