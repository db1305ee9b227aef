use Rattle.std.proofs.Common.{◌≡◌, ◌∷◌, ◌++◌, [], List, sym, ap, ◌∙◌, subst}
use Rattle.std.specs.List.{All}
use Rattle.theory_form.specs.declared.literals.Var.{Var}
use Rattle.loop_nogoods.specs.Marks.{IsVariable}
use Rattle.loop_nogoods.specs.Sets.{has}
use Rattle.loop_nogoods.proofs.SupportLemmas.{atoms_are_variables}
use Rattle.proof_log.proofs.ProgramLemmas.{loop_clause_if_ok}
use Rattle.proof_log.proofs.loops.loop_clause.Goals as goal

-- the list that is made in three steps
joined : (atom : Var) (others a b c d : List Var) → a ≡ [] → b ≡ a ++ atom ∷ [] → c ≡ b ++ others → d ≡ c → d ≡ atom ∷ others
joined atom others a b c d none first then is =
    is ∙ (then ∙ ap (λ xs. xs ++ others) (first ∙ ap (λ xs. xs ++ atom ∷ []) none))

pub external-requires-clause-variables : goal.external-requires-clause-variables
external-requires-clause-variables c =
    let is : c.as_slice.result.now ≡ c.args.atom ∷ c.args.others.now
    = joined c.args.atom c.args.others.now _ _ _ _ c.new-set.ensures.items c.in_ok-push.ensures.items c.in_ok-extend_from_slice.ensures.items c.as_slice.ensures.value in
    let p = c.requires.program.program in
    subst (All (λ (v : Var). IsVariable c.args.theory.now v.0)) (sym is) (atoms_are_variables c.args.theory.now p.0 (c.args.atom ∷ c.args.others.now) p.1)

pub returns-clause-clause : goal.returns-clause-clause
returns-clause-clause c =
    let t = c.args.theory.now in
    let is : c.as_slice.result.now ≡ c.args.atom ∷ c.args.others.now
    = joined c.args.atom c.args.others.now _ _ _ _ c.new-set.ensures.items c.in_ok-push.ensures.items c.in_ok-extend_from_slice.ensures.items c.as_slice.ensures.value in
    let external = rw is at c.in_ok-lits.ensures.supports in
    loop_clause_if_ok t (has (c.args.atom ∷ c.args.others.now)) c.args.atom.0 c.in_ok-lits.lits.items c.push-2.new.self.items c.sorted.result
    external c.in_ok-push-2.ensures.items c.sorted.ensures.ascending c.sorted.ensures.same
