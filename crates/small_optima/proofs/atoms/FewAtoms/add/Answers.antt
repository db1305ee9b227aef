-- The set has the name, or is full without it, or gets it.
use Rattle.std.proofs.Common.{List, [], ◌∷◌, ℕ, sym, subst, ◌∙◌}
use Rattle.small_optima.specs.Adds.{Adds}
use Rattle.small_optima.proofs.Names.{has-by_cmp, Adds-known, Adds-new, ExceedsTwelve-full}
use Rattle.small_optima.proofs.atoms.FewAtoms.add.Goals as goal

pub returns-then-contains-clause-added : goal.returns-then-contains-clause-added
returns-then-contains-clause-added c =
    let old = c.args.self.now.names.keys in let name = c.args.name.now in
    Adds-known old name (sym (has-by_cmp old name) ∙ (sym c.contains.ensures ∙ c.if-contains.true))

pub returns-then-len-eq-MOST_ATOMS-clause-many : goal.returns-then-len-eq-MOST_ATOMS-clause-many
returns-then-len-eq-MOST_ATOMS-clause-many c =
    let old = c.args.self.now.names.keys in let name = c.args.name.now in
    λ _. ExceedsTwelve-full old name c.len.ensures.ordered (sym c.len.ensures.len ∙ c.if-len-eq-MOST_ATOMS.true)
    (sym (has-by_cmp old name) ∙ (sym c.contains.ensures ∙ c.if-contains.false))

pub returns-clause-added : goal.returns-clause-added
returns-clause-added c =
    let old = c.args.self.now.names.keys in
    subst (λ (name : List ℕ). Adds old (name ∷ []) c.insert.new.self.keys) c.in_ok-copy.ensures
    (Adds-new old c.insert.new.self.keys c.in_ok-copy.field-0 c.in_ok-insert.ensures.updates.0)
