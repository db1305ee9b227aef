use Rattle.std.proofs.Common.{◌≡◌, ◌<◌, ℕ, Bool, [], length, cond, true, slice_set, sym, ap, ◌∙◌, arith}
use Rattle.std.specs.List.{list_any}
use Rattle.std.proofs.lemmas.List.{get_or_read}
use Rattle.definite.specs.Rules.{marked}
use Rattle.ground_form.specs.Truth.{body_true}
use Rattle.ap_eval.specs.Supports.{any_body, derives}
use Rattle.ap_eval.proofs.acyclic.decide.Goals as goal

pub returns-then-any_true : goal.returns-then-any_true
returns-then-any_true c =
    let g = c.args.g.now in
    let marks = c.args.marks.now in
    let test : ℕ → Bool = body_true g (marked marks) in
    let low = c.requires.atom in
    let size = c.requires.size in
    let lt : c.args.atom < length c.args.bodies.now = omega arith in
    let any : c.any_true.result ≡ list_any (derives g (marked marks) c.args.atom) g.rules = c.any_true.ensures ∙ (ap (any_body test) (c.as_slice.ensures ∙ get_or_read c.args.bodies.now c.args.atom c.index-bodies-atom.result lt c.index-bodies-atom.is []) ∙ c.requires.bodies.same test c.args.atom) in
    c.set.ensures ∙ ap (λ b. cond b (slice_set marks c.args.atom true) marks) (sym c.if-any_true.true ∙ any)

pub returns-else-any_true : goal.returns-else-any_true
returns-else-any_true c =
    let g = c.args.g.now in
    let marks = c.args.marks.now in
    let test : ℕ → Bool = body_true g (marked marks) in
    let low = c.requires.atom in
    let size = c.requires.size in
    let lt : c.args.atom < length c.args.bodies.now = omega arith in
    let any : c.any_true.result ≡ list_any (derives g (marked marks) c.args.atom) g.rules = c.any_true.ensures ∙ (ap (any_body test) (c.as_slice.ensures ∙ get_or_read c.args.bodies.now c.args.atom c.index-bodies-atom.result lt c.index-bodies-atom.is []) ∙ c.requires.bodies.same test c.args.atom) in
    ap (λ b. cond b (slice_set marks c.args.atom true) marks) (sym c.if-any_true.false ∙ any)
