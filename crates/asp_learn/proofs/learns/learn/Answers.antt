use Rattle.std.proofs.Common.{◌≡◌, ◌∷◌, ◌++◌, [], List, sym, ◌∙◌, ap, subst, reverse, refl}
use Rattle.std.specs.List.{All}
use Rattle.std.proofs.lemmas.List.Elements.{All-weaker}
use Rattle.theory_form.specs.declared.literals.ClauseId.{ClauseId}
use Rattle.theory_form.specs.Hints.{FollowsByHints}
use Rattle.theory_form.specs.Literals.{opposite}
use Rattle.theory_form.specs.Truth.{IsFalseIn}
use Rattle.asp_store.specs.Store.{assigned, clause_at}
use Rattle.asp_learn.specs.Conflicts.{AreMet, IsFromHint, IsUnitAtFirstUip}
use Rattle.asp_learn.specs.Descents.{Explained}
use Rattle.asp_learn.specs.Walk.{IsZero}
use Rattle.asp_learn.proofs.LearnLemmas.{ends_at, learned_above, learned_false, learned_follows, learned_level, learned_seen, learned_sources, learned_unit, learned_well_formed}
use Rattle.asp_learn.proofs.learns.learn.Goals as goal

pub explain-requires : goal.explain-requires
explain-requires c =
    let s = c.args.s.now in
    record {
      are_false = subst (All (IsFalseIn (assigned s))) (sym c.as_slice.ensures.value) (All-weaker (IsZero s) (IsFalseIn (assigned s)) (λ l z. z.is_false) c.args.found.zeros.items c.requires.uip.walked.gathered.zero);
      clear = c.requires.clear;
    }

pub returns-clause-learned : goal.returns-clause-learned
returns-clause-learned c =
    let s = c.args.s.now in
    let f = c.args.found in
    let d = c.in_ok-hints.field-0 in
    let clause = c.in_ok-sorted.field-0 in
    let literals : c.push.new.self.items ≡ f.lits.items ++ opposite c.args.uip ∷ [] = c.in_ok-push.ensures.items ∙ ap (λ y. f.lits.items ++ y ∷ []) c.opposite-point.ensures in
    let h = ends_at s c.args.conflict.0 f c.args.uip _ clause c.requires.uip literals c.in_ok-sorted.ensures.ascending c.in_ok-sorted.ensures.same in
    let x = subst (λ ls. Explained s ls d.lits.items d.hints.items) c.as_slice.ensures.value c.in_ok-hints.ensures.explained in
    let hints : c.from_vec.result ≡ d.hints.items ++ reverse f.hints.items = c.from_vec.ensures ∙ (c.in_ok-extend_from_slice.ensures.items ∙ ap (λ ids. d.hints.items ++ ids) (c.as_slice-2.ensures.value ∙ c.reverse.ensures.items)) in
    record {
      well_formed = learned_well_formed h;
      follows = subst (λ (ids : List ClauseId). FollowsByHints (clause_at s.clauses) s.places clause ids) (sym hints) (learned_follows h x);
      sources = subst (λ (ids : List ClauseId). All (IsFromHint s ids) clause) (sym hints) (learned_sources h x);
      all_false = learned_false h;
      above_0 = learned_above h;
      unit = subst (IsUnitAtFirstUip s c.args.conflict.0 clause f.level) (ap opposite c.requires.uip.lit_is ∙ sym c.opposite-point.ensures) (learned_unit h);
      level = learned_level h;
      seen = subst (AreMet s c.from_vec.result) (sym c.from_vec-2.ensures) (subst (λ (ids : List ClauseId). AreMet s ids f.seen.items) (sym hints) (learned_seen h x f.seen.items c.requires.visited (λ v. refl)));
    }
