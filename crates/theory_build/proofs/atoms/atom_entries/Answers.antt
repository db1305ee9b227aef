use Rattle.std.proofs.Common.{◌≡◌, ◌∙◌, ◌+◌, ◌<◌, ◌++◌, [], ◌∷◌, ℕ, List, ap, sym, subst, map, length, get_or, arith}
use Rattle.std.specs.List.{range_with_len, zip}
use Rattle.std.proofs.lemmas.List.FromFn.{map-range_with_len_more}
use Rattle.theory_build.specs.Atoms.{atom_entry, atom_entries}
use Rattle.theory_build.specs.Heads.{entry_by}
use Rattle.theory_build.proofs.AtomLemmas.{entry_of_atom}
use Rattle.theory_build.proofs.atoms.atom_entries.Goals as goal

pub loop-place-preserved : goal.loop-place-preserved
loop-place-preserved c =
    let p = c.args.p.now in
    let g = c.args.g.now in
    let i = c.loop-place.place in
    let inside : i < length g.atoms = let n = c.requires.length_is in let m = ap length c.deref-supports-items.ensures.value in omega arith in
    let supports = c.supports-item.is ∙ ap (λ xs. get_or xs i c.supports-item.result) c.deref-supports-items.ensures.value ∙ c.requires.atoms i c.supports-item.result inside in
    let entry : c.in_ok-entry.entry ≡ atom_entry p g (i + 1) = c.in_ok-entry.ensures ∙ ap (entry_by p (i + 1)) supports ∙ entry_of_atom p g (i + 1) in
    c.in_ok-push.ensures.items
    ∙ ap (λ es. es ++ c.in_ok-entry.entry ∷ []) c.loop-place.invariant
    ∙ ap (λ e. map (atom_entry p g) (range_with_len 1 i) ++ e ∷ []) entry
    ∙ sym (map-range_with_len_more (atom_entry p g) 1 i (i + 1) (omega arith))

pub returns : goal.returns
unfolding atom_entries
returns c =
    let n = c.requires.length_is in
    let m = ap length c.deref-supports-items.ensures.value in
    let end : c.loop-place.place ≡ length c.args.g.now.atoms = omega arith in
    c.loop-place.invariant ∙ ap (λ (i : ℕ). map (atom_entry c.args.p.now c.args.g.now) (range_with_len 1 i)) end
