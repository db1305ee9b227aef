use Rattle.std.proofs.Common.{rules, ◌≡◌, ◌+◌, true, false, All, length, get_or, sym, subst, ap, ◌∙◌, arith}
use Rattle.std.proofs.lemmas.List.{length_push}
use Rattle.std.specs.List.{flat_map}
use Rattle.std.proofs.lemmas.Slice.Eq.{bytes_eq-Decides}
use Rattle.std.proofs.lemmas.Slice.Zip.{zip_turn, zip_end}
use Rattle.ap_term.specs.Table.{IsIdOf, value_at, value_of}
use Rattle.ap_term.specs.declared.shape.Shape.TheVariants.{Fun}
use Rattle.join_form.specs.declared.pattern.Pattern.{the_lemmas}
use Rattle.join_form.specs.Patterns.{IsPatternOf, pattern_value, places_of}
use Rattle.join_search.specs.Matches.{IsMatch}
use Rattle.join_search.proofs.PatternMatches.{place_is, known_is, parts_are, match_place, IsMatchUpTo, match_more, Have, match_compound, match_refused, match_all, arguments_are}
use Rattle.join_search.proofs.matching.+matching.Goals as goal

pub match_pattern-bind-requires-clause-place : goal.match_pattern-bind-requires-clause-place
match_pattern-bind-requires-clause-place t c =
    place_is c.args.terms.now (length c.args.binding.now) c.in-Place.place (subst (IsPatternOf c.args.terms.now (length c.args.binding.now)) c.in-Place.is c.requires.pattern)

pub match_pattern-is_same-requires-clause-a : goal.match_pattern-is_same-requires-clause-a
match_pattern-is_same-requires-clause-a t c =
    known_is c.args.terms.now (length c.args.binding.now) c.in-Known.known (subst (IsPatternOf c.args.terms.now (length c.args.binding.now)) c.in-Known.is c.requires.pattern)

pub match_pattern-match_patterns-requires : goal.match_pattern-match_patterns-requires
match_pattern-match_patterns-requires t c = (
  first_of (search (rules, the_lemmas), grind (arith, the_lemmas)),
  (
    subst (All (IsPatternOf c.args.terms.now (length c.args.binding.now))) (sym c.as_slice.ensures)
        (parts_are c.args.terms.now (length c.args.binding.now) c.in-Compound.name c.in-Compound.parts (subst (IsPatternOf c.args.terms.now (length c.args.binding.now)) c.in-Compound.is c.requires.pattern)),
    (
      subst (All (IsIdOf c.args.terms.now)) (sym c.as_slice-then-eq.ensures) (arguments_are c.args.terms.now c.args.id c.shape.result.now c.in-Fun.other c.in-Fun.ids c.in-Fun.is c.requires.id c.shape.ensures.over),
      c.requires.binding,
    ),
  ),
)

pub match_pattern-returns-in-Place : goal.match_pattern-returns-in-Place
match_pattern-returns-in-Place t c = subst (λ p. IsMatch c.args.terms.now (λ a. pattern_value c.args.terms.now a p ≡ value_at c.args.terms.now c.args.id) (places_of p) c.args.binding.now c.bind.new.binding c.bind.result) (sym c.in-Place.is)
    (match_place c.args.terms.now c.in-Place.place c.args.id c.args.binding.now c.bind.new.binding c.bind.result c.bind.ensures)

pub match_pattern-returns-then-eq : goal.match_pattern-returns-then-eq
match_pattern-returns-then-eq t c =
    let name_is : c.in-Compound.name ≡ c.in-Fun.other = (bytes_eq-Decides c.in-Compound.name c.in-Fun.other).0 (sym c.eq.ensures ∙ c.if-eq.true) in
    let value_is : value_of c.args.terms.now (Fun c.in-Compound.name c.in-Fun.ids) ≡ value_at c.args.terms.now c.args.id =
    ap (λ name. value_of c.args.terms.now (Fun name c.in-Fun.ids)) name_is ∙ (ap (value_of c.args.terms.now) (sym c.in-Fun.is) ∙ c.shape.ensures.value) in
    let parts_match : IsMatch c.args.terms.now (Have c.args.terms.now c.in-Compound.parts c.in-Fun.ids) (flat_map places_of c.in-Compound.parts) c.args.binding.now c.match_patterns.new.binding c.match_patterns.result =
    subst (λ ps. IsMatch c.args.terms.now (Have c.args.terms.now ps c.in-Fun.ids) (flat_map places_of ps) c.args.binding.now c.match_patterns.new.binding c.match_patterns.result) c.as_slice.ensures
    (subst (λ ids. IsMatch c.args.terms.now (Have c.args.terms.now c.as_slice.result.now ids) (flat_map places_of c.as_slice.result.now) c.args.binding.now c.match_patterns.new.binding c.match_patterns.result) c.as_slice-then-eq.ensures c.match_patterns.ensures) in
    subst (λ p. IsMatch c.args.terms.now (λ a. pattern_value c.args.terms.now a p ≡ value_at c.args.terms.now c.args.id) (places_of p) c.args.binding.now c.match_patterns.new.binding c.match_patterns.result) (sym c.in-Compound.is)
    (match_compound c.args.terms.now c.in-Compound.name c.in-Compound.parts c.args.id c.in-Fun.ids c.args.binding.now c.match_patterns.new.binding c.match_patterns.result value_is parts_match)

pub match_patterns-match_pattern-requires : goal.match_patterns-match_pattern-requires
match_patterns-match_pattern-requires t c =
    let turn = zip_turn c.args.patterns.now c.args.row.now c.loop-pattern.yielded _ c.loop-pattern.pattern-iterator c.next.new.self c.next.result (search rules) (search rules) c.loop-pattern.yielded_by (c.in-Some.pattern, c.in-Some.id) c.in-Some.is c.next.ensures.steps in (
      first_of (search (rules, the_lemmas, turn.2, turn.0), grind (arith, the_lemmas, turn.2, turn.0)),
      (
        subst (IsPatternOf c.args.terms.now (length c.loop-pattern.binding)) (sym (turn.2 c.in-Some.pattern.now))
            (subst (λ n. IsPatternOf c.args.terms.now n (get_or c.args.patterns.now (length c.loop-pattern.yielded) c.in-Some.pattern.now)) (sym c.loop-pattern.auto.binding)
            (c.requires.patterns (length c.loop-pattern.yielded) c.in-Some.pattern.now turn.0)),
        (
          subst (IsIdOf c.args.terms.now) (sym (turn.3 c.in-Some.id.now)) (c.requires.row (length c.loop-pattern.yielded) c.in-Some.id.now turn.1),
          c.loop-pattern.invariant.ids,
        ),
      ),
    )

pub match_patterns-returns-then-not-match_pattern : goal.match_patterns-returns-then-not-match_pattern
match_patterns-returns-then-not-match_pattern t c =
    let turn = zip_turn c.args.patterns.now c.args.row.now c.loop-pattern.yielded _ c.loop-pattern.pattern-iterator c.next.new.self c.next.result (search rules) (search rules) c.loop-pattern.yielded_by (c.in-Some.pattern, c.in-Some.id) c.in-Some.is c.next.ensures.steps in
    match_refused c.args.terms.now c.args.patterns.now c.args.row.now (length c.loop-pattern.yielded + 1) c.args.binding.now c.match_pattern.new.binding
    (match_more c.args.terms.now c.args.patterns.now c.args.row.now (length c.loop-pattern.yielded) c.in-Some.pattern.now c.in-Some.id.now c.args.binding.now c.loop-pattern.binding c.match_pattern.new.binding false
    turn.0 turn.1 (sym (turn.2 c.in-Some.pattern.now)) (sym (turn.3 c.in-Some.id.now)) c.loop-pattern.invariant c.if-not-match_pattern.ensures)

pub match_patterns-loop-pattern-preserved : goal.match_patterns-loop-pattern-preserved
match_patterns-loop-pattern-preserved t c =
    let turn = zip_turn c.args.patterns.now c.args.row.now c.loop-pattern.yielded _ c.loop-pattern.pattern-iterator c.next.new.self c.next.result (search rules) (search rules) c.loop-pattern.yielded_by (c.in-Some.pattern, c.in-Some.id) c.in-Some.is c.next.ensures.steps in
    subst (λ n. IsMatchUpTo c.args.terms.now c.args.patterns.now c.args.row.now n c.args.binding.now c.match_pattern.new.binding true) (sym (length_push c.loop-pattern.yielded (c.in-Some.pattern, c.in-Some.id)))
    (match_more c.args.terms.now c.args.patterns.now c.args.row.now (length c.loop-pattern.yielded) c.in-Some.pattern.now c.in-Some.id.now c.args.binding.now c.loop-pattern.binding c.match_pattern.new.binding true
    turn.0 turn.1 (sym (turn.2 c.in-Some.pattern.now)) (sym (turn.3 c.in-Some.id.now)) c.loop-pattern.invariant c.if-not-match_pattern.ensures)

pub match_patterns-returns : goal.match_patterns-returns
match_patterns-returns t c =
    let count = zip_end c.args.patterns.now c.args.row.now c.loop-pattern.yielded _ c.loop-pattern.pattern-iterator c.next.new.self c.next.result (search rules) (search rules) c.loop-pattern.yielded_by c.in-None.is c.next.ensures.steps in
    match_all c.args.terms.now c.args.patterns.now c.args.row.now (length c.loop-pattern.yielded) c.args.binding.now c.loop-pattern.binding
    (omega (arith, count, c.if-patterns-row.false)) (omega (arith, count, c.if-patterns-row.false)) c.loop-pattern.invariant
