-- A program's own theory has a clause of each number.
use Rattle.std.proofs.Common.{◌≡◌, ℕ, zero, suc, ◌+◌, ◌<◌, ◌≤◌, ◌++◌, List, [], ◌∷◌, length, map, Option, Some, refl, arith}
use Rattle.std.specs.Prelude.{IsSome}
use Rattle.std.specs.Option.{option_and_then}
use Rattle.theory_form.specs.declared.literals.Lit.{Lit}
use Rattle.theory_form.specs.Numbers.{at_number}
use Rattle.ground_form.specs.Programs.{Parts}
use Rattle.theory_build.specs.Atoms.{constraint_clauses}
use Rattle.theory_build.specs.Completion.{base_entries, base_theory, clauses_of}
use Rattle.theory_build.specs.Frames.{base_frame}
use Rattle.asp_solver.specs.Conditions.{SkipsNone}

each_some : (xs : List (List Lit)) (k : ℕ) → 0 < k → k ≤ length (map (λ (c : List Lit). Some c) xs) →
    IsSome (option_and_then (λ (slot : Option (List Lit)). slot) (at_number (map (λ (c : List Lit). Some c) xs) k))
each_some xs zero up le = absurd (omega (arith, up))
each_some [] (suc j) up le = absurd (omega (arith, le))
each_some (x ∷ xs) (suc zero) up le = refl
each_some (x ∷ xs) (suc (suc j)) up le = each_some xs (suc j) (omega arith) (omega (arith, le))

pub skips_none : (g : Parts) → SkipsNone (base_theory g)
unfolding base_theory
skips_none g k up le = each_some (clauses_of (base_entries (base_frame g) g) ++ constraint_clauses (base_frame g) g) k up le
