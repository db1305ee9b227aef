use Rattle.std.proofs.Common.{◌≡◌, ◌↔◌, ◌∷◌, ◌++◌, ℕ, [], List, Option, Some, None, ap, sym, ◌∙◌, subst}
use Rattle.std.specs.Prelude.{filter}
use Rattle.std.specs.List.{All, Contains}
use Rattle.std.proofs.lemmas.Result.{IfOk-weaker}
use Rattle.theory_form.specs.declared.literals.Lit.{Lit}
use Rattle.theory_form.specs.Literals.{opposite}
use Rattle.theory_form.specs.Truth.{IsFalseIn}
use Rattle.asp_trail.specs.declared.Why.TheVariants.{Clause}
use Rattle.asp_trail.specs.Trail.{why_in}
use Rattle.asp_store.specs.Store.{assigned}
use Rattle.asp_learn.specs.declared.blames.Fault.TheVariants.{Against}
use Rattle.asp_learn.specs.Descents.{Explained}
use Rattle.asp_learn.specs.Learning.{IsBlame, IsMadeOf}
use Rattle.asp_learn.proofs.BlameLemmas.{blame_of_literal, is_other, others_false}
use Rattle.asp_learn.proofs.DescentLemmas.{reason_of}
use Rattle.asp_learn.proofs.blames.blame_literal.Goals as goal

pub unreachable-requires-in-None : goal.unreachable-requires-in-None
unreachable-requires-in-None c =
    let s = c.args.s.now in
    let id = c.in-Some-Clause-default.id in
    let level : ℕ = c.in-Some-Clause-default.field-0-1 in
    let why : why_in s.entries c.args.l.var.0 ≡ Some (Clause id, level) = sym c.why.ensures ∙ (c.in-Some-Clause-default.is ∙ ap (λ w. Some (w, level)) c.in-Some-Clause-default.field-0-0-is) in
    let r = reason_of s.clauses s.places s.entries c.args.l.var.0 id level c.assignment-assignment.ensures.trail c.assignment-assignment.ensures.store.reasons why in
    absurd (let z : ◌≡◌ {A = Option (List Lit)} None (Some r.clause) = c.in-None.ensures.value ∙ r.stored in cc)

pub explain-requires-clause-are_false : goal.explain-requires-clause-are_false
explain-requires-clause-are_false c =
    let s = c.args.s.now in
    let v : ℕ = c.args.l.var.0 in
    let id = c.in-Some-Clause-default.id in
    let level : ℕ = c.in-Some-Clause-default.field-0-1 in
    let lits : List Lit = c.in-Some.lits.now in
    let why : why_in s.entries v ≡ Some (Clause id, level) = sym c.why.ensures ∙ (c.in-Some-Clause-default.is ∙ ap (λ w. Some (w, level)) c.in-Some-Clause-default.field-0-0-is) in
    let r = reason_of s.clauses s.places s.entries v id level c.assignment-assignment.ensures.trail c.assignment-assignment.ensures.store.reasons why in
    let z : Some r.clause ≡ Some lits = sym r.stored ∙ sym c.in-Some.ensures.value in
    let same : r.clause ≡ lits = cc in
    subst (All (IsFalseIn (assigned s))) (sym (c.as_slice.ensures.value ∙ (c.in_ok-others.ensures ∙ ap (filter (is_other v)) (sym same)))) (others_false s v id r)

pub returns-clause-blame : goal.returns-clause-blame
returns-clause-blame c =
    let s = c.args.s.now in
    let l = c.args.l in
    let v : ℕ = l.var.0 in
    let id = c.in-Some-Clause-default.id in
    let level : ℕ = c.in-Some-Clause-default.field-0-1 in
    let lits : List Lit = c.in-Some.lits.now in
    let trail = c.assignment-assignment.ensures.trail in
    let store = c.assignment-assignment.ensures.store in
    let why : why_in s.entries v ≡ Some (Clause id, level) = sym c.why.ensures ∙ (c.in-Some-Clause-default.is ∙ ap (λ w. Some (w, level)) c.in-Some-Clause-default.field-0-0-is) in
    let r = reason_of s.clauses s.places s.entries v id level trail store.reasons why in
    let z : Some r.clause ≡ Some lits = sym r.stored ∙ sym c.in-Some.ensures.value in
    let same : r.clause ≡ lits = cc in
    let d = c.in_ok-down.down in
    let x = subst (λ (ls : List Lit). Explained s ls d.lits.items d.hints.items) (c.as_slice.ensures.value ∙ (c.in_ok-others.ensures ∙ ap (filter (is_other v)) (sym same))) c.in_ok-down.ensures.explained in
    let items : c.push.new.self.items ≡ d.lits.items ++ opposite l ∷ [] = c.in_ok-push.ensures.items ∙ ap (λ (y : Lit). d.lits.items ++ y ∷ []) c.opposite.ensures in
    IfOk-weaker c.make_blamed.result (IsMadeOf c.push.new.self.items (d.hints.items ++ id ∷ [])) (IsBlame s (Against l))
    (λ b m. blame_of_literal l trail store c.requires.is_false why r x b m.ascending (subst (λ (ls : List Lit). (n : Lit) → Contains b.clause n ↔ Contains ls n) items m.same) m.hints_are) c.make_blamed.ensures
