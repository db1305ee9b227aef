use Rattle.std.proofs.Common.{◌≡◌, ◌∙◌, ◌++◌, List, ap, sym, refl}
use Rattle.theory_form.specs.declared.literals.Lit.{Lit}
use Rattle.theory_form.specs.Literals.{lit_cmp}
use Rattle.theory_build.specs.Ascending.{ascending}
use Rattle.theory_build.proofs.AtomLemmas.{entry_made}
use Rattle.theory_build.proofs.atoms.atom_entry.Goals as goal

pub returns : goal.returns
returns c =
    let s = c.args.supports.now in
    let joined = c.as_slice-joined in
    let forcing : c.as_slice-3.result.now ≡ s.joined ++ ascending lit_cmp s.forcing =
    c.as_slice-3.ensures.value
    ∙ c.in_ok-forcing.ensures
    ∙ ap (λ (ls : List Lit). ls ++ ascending lit_cmp c.as_slice.result.now) joined.ensures
    ∙ ap (λ (ls : List Lit). s.joined ++ ascending lit_cmp ls) c.as_slice.ensures
    in
    let allowing : c.as_slice-4.result.now ≡ s.joined ++ ascending lit_cmp s.allowing =
    c.as_slice-4.ensures.value
    ∙ c.in_ok-allowing.ensures
    ∙ ap (λ (ls : List Lit). ls ++ ascending lit_cmp c.as_slice-2.result.now) joined.ensures
    ∙ ap (λ (ls : List Lit). s.joined ++ ascending lit_cmp ls) c.as_slice-2.ensures
    in
    entry_made c.args.p.now c.args.a c.in_ok-v.v s c.as_slice-3.result.now c.as_slice-4.result.now c.from_vec.result c.in_ok-clauses.clauses _
    c.in_ok-v.ensures forcing allowing (c.from_vec.ensures ∙ sym c.as_slice-4.ensures.value) c.in_ok-clauses.ensures refl
