use Rattle.std.proofs.Common.{rules, ◌≡◌, ◌+◌, Contains, refl, subst, inl, arith}
use Rattle.rule_joins.specs.Drafts.{Drafted}
use Rattle.rule_joins.proofs.DraftLemmas.{placed_new}
use Rattle.rule_joins.proofs.draft.Draft.place_of.Goals as goal

pub returns-in-Some : goal.returns-in-Some
returns-in-Some c = inl (
  subst (λ (d : Drafted). Contains d.variables (c.args.name.now, c.in-Some.place)) c.self.view_is
      (subst (λ n. Contains c.self.inside.variables.entries (n, c.in-Some.place)) c.in_ok-name.ensures c.in-Some.ensures),
  refl,
)

pub returns : goal.returns
returns c =
    let next : c.in-Some-checked_add.next ≡ c.self.inside.places + 1 = first_of (search rules, omega (arith, c.in-Some-checked_add.ensures)) in
    placed_new c.args.self.now c.self.inside.variables.entries c.self.inside.places c.self.inside.steps c.args.name.now c.in_ok-name.name c.put_in.new.variables.entries c.in-Some-checked_add.next c.self.view_is c.in_ok-name.ensures c.in_default.ensures c.in_ok-put_in.ensures next
