use Rattle.std.proofs.Common.{◌<◌, length, refl, sym, ◌∙◌, subst, inl, inr, arith}
use Rattle.std.specs.Prelude.{All, IsTrue, Contains}
use Rattle.std.specs.List.{list_all}
use Rattle.std.proofs.lemmas.Result.{on_ok_weaker}
use Rattle.std.proofs.lemmas.Option.{get_or_from_slice_get, slice_get_read}
use Rattle.std.proofs.lemmas.List.Elements.{Contains-push}
use Rattle.definite.specs.declared.Rule.{Rule}
use Rattle.definite.specs.Rules.{marked}
use Rattle.definite.specs.Searches.{waiting_for}
use Rattle.definite.proofs.Steps.{step_then, step_wait, open_in_range}
use Rattle.definite.proofs.search.settle.Goals as goal

pub add_heads-requires : goal.add_heads-requires
add_heads-requires c =
    let n = length c.args.found.now.marks in
    let rule = c.index-rules-k.result in
    subst (λ (r : Rule). All (λ a. a < n) r.heads) (sym c.index-rules-k.is) (c.requires.search.range c.args.k rule c.requires.k).heads

pub wait-requires : goal.wait-requires
wait-requires c =
    let s = c.advance.ensures.step.search c.requires.search in
    let lt = open_in_range c.args.rules.now (length c.args.found.now.marks) c.args.k c.in-Some.atom c.requires.k s.range c.in-Some.ensures.open.1 in
    omega (arith, lt, s.waiting_size)

pub returns-in-None-clause-step : goal.returns-in-None-clause-step
returns-in-None-clause-step c =
    let rules = c.args.rules.now in
    let rule = c.index-rules-k.result in
    let before = c.advance.ensures.step in
    let at : Contains rules rule = (c.args.k, c.requires.k, sym c.index-rules-k.is) in
    let body = c.in-None.ensures.none rule (slice_get_read rules (length rules) c.args.k rule refl c.requires.k c.index-rules-k.is) in
    on_ok_weaker c.add_heads.result
    (λ step. step_then rules c.args.waits.now c.advance.new.waits c.advance.new.waits c.args.found.now c.args.found.now c.add_heads.new.found before (step rules c.advance.new.waits at (before.search c.requires.search) body))
    c.add_heads.ensures.step

pub returns-in-None-clause-settled : goal.returns-in-None-clause-settled
returns-in-None-clause-settled c =
    on_ok_weaker c.add_heads.result
    (λ m rule e. inl (subst (λ (r : Rule). IsTrue (list_all (marked c.add_heads.new.found.marks) r.heads)) (c.index-rules-k.is ∙ get_or_from_slice_get c.args.rules.now c.args.k rule c.index-rules-k.result e) m))
    c.add_heads.ensures.marked

pub returns-in-Some-clause-step : goal.returns-in-Some-clause-step
returns-in-Some-clause-step c =
    on_ok_weaker c.wait.result
    (λ w. step_then c.args.rules.now c.args.waits.now c.advance.new.waits c.wait.new.waits c.args.found.now c.args.found.now c.args.found.now c.advance.ensures.step
    (step_wait c.args.rules.now c.advance.new.waits c.wait.new.waits c.args.found.now c.in-Some.atom c.args.k c.requires.k c.in-Some.ensures.open.0 w))
    c.wait.ensures

pub returns-in-Some-clause-settled : goal.returns-in-Some-clause-settled
returns-in-Some-clause-settled c =
    on_ok_weaker c.wait.result
    (λ w rule e. inr (
      c.in-Some.atom,
      c.in-Some.ensures.open.1 rule e,
      subst (λ xs. Contains xs c.args.k) (sym w.here) (Contains-push (waiting_for c.advance.new.waits c.in-Some.atom) c.args.k),
    ))
    c.wait.ensures
