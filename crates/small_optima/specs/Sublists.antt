-- The lists that are got from a list by leaving out members.
use Rattle.std.specs.Prelude.{List, [], ◌∷◌, ◌++◌, map}

-- those that have a member, in the order in which a dictionary has words: of an ascending list, ascending
abbrev pub nonempty_sublists : {A : Type 0} → List A → List (List A)
nonempty_sublists [] = []
nonempty_sublists (x ∷ xs) = (x ∷ []) ∷ map (λ ys. x ∷ ys) (nonempty_sublists xs) ++ nonempty_sublists xs

abbrev pub sublists : {A : Type 0} → List A → List (List A)
sublists xs = [] ∷ nonempty_sublists xs
