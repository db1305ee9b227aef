use Rattle.std.proofs.Common.{◌≡◌, ◌∙◌, ◌+◌, ◌++◌, [], ◌∷◌, ap, subst, sym, length, get_or, List, refl, append-nil, take}
use Rattle.std.specs.Prelude.{slice_get}
use Rattle.std.specs.List.{zip}
use Rattle.theory_form.specs.declared.literals.Lit.{Lit}
use Rattle.ground_form.specs.declared.atoms.AtomId.{AtomId}
use Rattle.theory_build.specs.declared.heads.Heads.{Heads}
use Rattle.theory_build.specs.Heads.{HasSupports}
use Rattle.theory_build.proofs.HeadLemmas.{nothing_joined, joins_more, zip_more, paired}
use Rattle.theory_build.proofs.heads.joined_heads.Goals as goal
use Rattle.theory_build.proofs.heads.joined_heads.Goals.{in-Some+in_ok-join, in_default}

pub loop-place-init : goal.loop-place-init
loop-place-init c =
    nothing_joined c.args.p.now c.args.g.now c.in_ok-heads.heads (length c.atoms.result.now) (ap length c.atoms.ensures.value) c.in_ok-heads.ensures.atoms c.in_ok-heads.ensures.constraints

-- what stands past the end of a list of atoms
abbrev no_atom : AtomId
no_atom = record { 0 = 0 }

pub loop-place-preserved : goal.loop-place-preserved
loop-place-preserved c =
    let p = c.args.p.now in
    let g = c.args.g.now in
    let i = c.loop-place.place in
    let inputs = c.inputs-input-items.result.now in
    let input = get_or inputs i no_atom in
    let pairs = zip (take i inputs) p.joins in
    let more : zip (take (i + 1) inputs) p.joins ≡ pairs ++ paired input (slice_get p.joins i) = zip_more inputs p.joins i input no_atom c.loop-place-test.true refl in
    elim c.match-get.branch [
      | in-Some+in_ok-join w ↦
          let all : pairs ++ (input, w.in-Some.join.now) ∷ [] ≡ zip (take (i + 1) inputs) p.joins =
          ap (λ o. pairs ++ paired input o) w.in-Some.ensures.value ∙ sym more
          in
          subst (λ (ps : List (AtomId × Lit)). HasSupports p g ps [] c.match-get.heads) all
          (subst (λ (h : Heads). HasSupports p g (pairs ++ (input, w.in-Some.join.now) ∷ []) [] h) (sym w.heads-is)
          (joins_more p g pairs [] input w.in-Some.join.now c.loop-place.heads w.join.new.self c.loop-place.invariant w.in_ok-join.ensures))
      | in_default w ↦
          let all : pairs ≡ zip (take (i + 1) inputs) p.joins =
          sym (append-nil pairs) ∙ ap (λ o. pairs ++ paired input o) w.in_default.ensures.value ∙ sym more
          in
          subst (λ (ps : List (AtomId × Lit)). HasSupports p g ps [] c.match-get.heads) all
          (subst (λ (h : Heads). HasSupports p g pairs [] h) (sym w.heads-is) c.loop-place.invariant)
    ]
