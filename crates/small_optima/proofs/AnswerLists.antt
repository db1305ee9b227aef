-- The kept sublists of the atoms are the answer sets.
use Rattle.std.proofs.Common.{◌≡◌, ◌∙◌, ℕ, List, sym, subst}
use Rattle.std.specs.Prelude.{filter}
use Rattle.std.specs.List.Sorted.{IsStrictlySortedBy}
use Rattle.std.specs.Cmp.Lexicographic.{nat_list_cmp_total}
use Rattle.std.proofs.lemmas.List.Elements.{All-from_recursion}
use Rattle.ap_syntax.specs.declared.small.Program.{Program}
use Rattle.ap_eval.specs.AnswerSets.{IsAnswerSet}
use Rattle.ap_eval.specs.AtomSets.{has}
use Rattle.small_optima.specs.Answers.{AreAnswerSets}
use Rattle.small_optima.specs.Atoms.{names_of}
use Rattle.small_optima.specs.Kept.{Kept}
use Rattle.small_optima.specs.Optimal.{atom_cmp}
use Rattle.small_optima.specs.Sublists.{sublists}
use Rattle.small_optima.proofs.Keeping.{All-kept, Contains-kept, IsStrictlySortedBy-kept, still_each}
use Rattle.small_optima.proofs.SublistsLemmas.{Contains-sublists_filter, each_sorted, has-filter, sublists_in_order}
use Rattle.small_optima.proofs.Within.{within_atoms}

abbrev Answers : Program → List (List ℕ) → Type 0
Answers p set = IsAnswerSet p (has set)

pub are_answer_sets : (p : Program) (atoms : List (List ℕ)) (found : List (List (List ℕ))) → IsStrictlySortedBy atom_cmp atoms → ((name : List ℕ) → has atoms name ≡ has (names_of p) name) → Kept (λ (set : List (List ℕ)). IsAnswerSet p (has set)) (sublists atoms) found → AreAnswerSets p found
are_answer_sets p atoms found sorted same kept = record {
  atoms = All-from_recursion (IsStrictlySortedBy atom_cmp) found (still_each (Answers p) (IsStrictlySortedBy atom_cmp) kept (each_sorted atom_cmp atoms sorted));
  sorted = IsStrictlySortedBy-kept (Answers p) _ kept (sublists_in_order atom_cmp nat_list_cmp_total atoms sorted);
  answers = All-kept (Answers p) (sublists atoms) found kept;
  whole = λ x answer.
      let is : has (filter x atoms) ≡ x = has-filter x atoms (λ a h. same a ∙ within_atoms p x answer a h) in
      let there = Contains-kept (Answers p) (filter x atoms) kept (Contains-sublists_filter x atoms) (subst (IsAnswerSet p) (sym is) answer) in
      (there.0, filter x atoms, there.1, there.2, is);
}
