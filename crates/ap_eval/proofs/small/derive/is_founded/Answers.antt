use Rattle.std.proofs.Common.{◌≡◌, List, Bool, false, length, replicate, sym, ap, ◌∙◌, subst}
use Rattle.std.specs.List.{list_all}
use Rattle.std.proofs.lemmas.List.{take_at}
use Rattle.ap_eval.specs.AtomSets.{AtomSet, IsSubset}
use Rattle.ap_eval.specs.Derivations.{marked}
use Rattle.ap_eval.proofs.Marks.{none_marked}
use Rattle.ap_eval.proofs.Reading.{from_subset, to_subset}
use Rattle.ap_eval.proofs.small.derive.is_founded.Goals as goal

pub returns : goal.returns
returns c =
    let x = c.args.x.now in
    let marks = c.mark_derivable.new.marks in
    let same : c.deref.result.now ≡ marks = c.deref.ensures.value ∙ take_at marks _ c.in_ok-marks.marks.len (c.mark_derivable.auto.marks ∙ c.deref_mut.ensures.len) in
    let answer : c.all_marked.result ≡ list_all (marked x marks) x = c.all_marked.ensures ∙ ap (λ (ms : List Bool). list_all (marked x ms) x) same in
    let empty : c.deref_mut.result.now ≡ replicate (length x) false = c.deref_mut.ensures.value ∙ c.in_ok-marks.ensures.items_if_clones_equal (λ _ e. e) in
    let start : (y : AtomSet) → IsSubset (marked x c.deref_mut.result.now) y = λ y. subst (λ (ms : List Bool). IsSubset (marked x ms) y) (sym empty) (none_marked x (length x) y) in (
      λ h y within a i. c.mark_derivable.ensures.least y within (start y) a (to_subset (marked x marks) x (sym answer ∙ h) a i),
      λ founded. answer ∙ from_subset (marked x marks) x (founded (marked x marks) c.mark_derivable.ensures.closed),
    )
