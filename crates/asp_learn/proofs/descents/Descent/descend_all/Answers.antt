use Rattle.std.proofs.Common.{◌≡◌, ◌+◌, ◌<◌, ◌++◌, ◌∷◌, [], ℕ, Bool, List, true, length, take, get_or, add-one, ap, sym, ◌∙◌, subst}
use Rattle.std.specs.List.{All}
use Rattle.std.proofs.Math.Seq.{take-suc}
use Rattle.std.proofs.lemmas.List.{take_all}
use Rattle.std.proofs.lemmas.List.Elements.{All-contains, All-nil, All-push, All-weaker, Contains-append_left, Contains-push}
use Rattle.theory_form.specs.declared.literals.Lit.{Lit}
use Rattle.asp_learn.specs.Marked.{has}
use Rattle.asp_learn.proofs.FalseLemmas.{all_from_contains}
use Rattle.asp_learn.proofs.descents.Descent.descend_all.Goals as goal

pub loop-l-preserved : goal.loop-l-preserved
loop-l-preserved c =
    let i : ℕ = c.loop-l.l-index in
    let lits : List Lit = c.args.lits.now in
    let inv = c.loop-l.invariant in
    let inside : i < length lits = c.loop-l-test.true in
    let d : Lit = record { var = record { 0 = 0 }; yes = Bool.false } in
    let l : Lit = get_or lits i d in
    let next : take (i + 1) lits ≡ take i lits ++ l ∷ [] = ap (λ j. take j lits) (add-one i) ∙ take-suc lits i d inside in
    let old = c.loop-l.self in
    let new = c.descend.new.self in
    let on = c.in_ok-descend.ensures in
    record {
      rest = on.rest;
      met = subst (All (λ (m : Lit). has new.seen.items m.var.0 ≡ true)) (sym next)
          (All-push (λ (m : Lit). has new.seen.items m.var.0 ≡ true) (take i lits) l
          (All-weaker (λ (m : Lit). has old.seen.items m.var.0 ≡ true) (λ (m : Lit). has new.seen.items m.var.0 ≡ true) (λ m was. on.kept m.var.0 was) (take i lits) inv.met) on.met);
      within = λ set closed all w.
          let all' : All (λ (m : Lit). set m.var.0 ≡ true) (take i lits ++ l ∷ []) = subst (All (λ (m : Lit). set m.var.0 ≡ true)) next all in
          on.within set closed (All-push (λ (m : Lit). set m.var.0 ≡ true) [] l (All-nil (λ (m : Lit). set m.var.0 ≡ true)) (All-contains (λ (m : Lit). set m.var.0 ≡ true) (take i lits ++ l ∷ []) l all' (Contains-push (take i lits) l)))
          (inv.within set closed (all_from_contains (λ (m : Lit). set m.var.0 ≡ true) (take i lits) (λ m there. All-contains (λ (k : Lit). set k.var.0 ≡ true) (take i lits ++ l ∷ []) m all' (Contains-append_left (take i lits) (l ∷ []) m there))) w);
      marked = λ base was. c.descend.ensures.marked base (inv.marked base was);
    }

pub returns-clause-met : goal.returns-clause-met
returns-clause-met c = subst (All (λ (m : Lit). has c.loop-l.self.seen.items m.var.0 ≡ true)) (take_all c.loop-l.l-index c.args.lits.now c.loop-l-test.false) c.loop-l.invariant.met

pub returns-clause-within : goal.returns-clause-within
returns-clause-within c = λ set closed all w.
    c.loop-l.invariant.within set closed (subst (All (λ (m : Lit). set m.var.0 ≡ true)) (sym (take_all c.loop-l.l-index c.args.lits.now c.loop-l-test.false)) all) w
