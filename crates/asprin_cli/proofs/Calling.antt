-- The words that the program is called with.
use Rattle.std.proofs.Common.{◌≡◌, ◌++◌, List, [], ◌∷◌, Option, None, Some, Ok, Err, Result, IfOk, String, Vec, vec_items, option_to_list, length, drop, refl, sym, ◌∙◌}
use Rattle.std.specs.Vec.Iter.{into_iter_items, into_iter_len, into_iter_steps}
use Rattle.std.specs.declared.alloc.Global.{Global}
use Rattle.std.specs.declared.vec.IntoIter.{IntoIter}
use Rattle.std.proofs.lemmas.List.{nil_from_length}
use Rattle.ap_base.specs.Readings.{texts_of}

abbrev Args : Type 0
Args = IntoIter (String Global) Global

pub len_is : (all : Args) → into_iter_len all ≡ length (into_iter_items all)
len_is all = all.rest.ok.0

-- the words behind the first are those that are left when it was taken
behind_first : (all left : Args) (first : Option (String Global)) → into_iter_steps all first left
    → into_iter_items all ≡ option_to_list first ++ into_iter_items left
    → texts_of (into_iter_items left) ≡ drop 1 (texts_of (into_iter_items all))
behind_first all left None steps items =
    let none : into_iter_items all ≡ [] = nil_from_length (into_iter_items all) (sym (len_is all) ∙ steps.0) in
    let same : into_iter_items left ≡ [] = sym items ∙ none in
    rw (none, same) refl
behind_first all left (Some word) steps items = rw steps.0 refl

-- and those are collected
pub collected : {E : Type 0} (all left : Args) (first : Option (String Global))
    (found : Result (Vec (String Global) Global) E)
    → into_iter_steps all first left → into_iter_items all ≡ option_to_list first ++ into_iter_items left
    → IfOk found (λ words. vec_items words ≡ into_iter_items left)
    → IfOk found (λ words. texts_of words.items ≡ drop 1 (texts_of (into_iter_items all)))
collected all left first (Ok words) steps items is = rw is (behind_first all left first steps items)
collected all left first (Err e) steps items is = tt
