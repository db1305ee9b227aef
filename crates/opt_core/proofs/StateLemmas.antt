-- The sets of open chains were met, whatever happens to a chain.
use Rattle.std.proofs.Common.{◌≡◌, ℕ, Bool, true, false, not, List, [], ◌∷◌, ◌++◌, refl, sym, ap, ◌∙◌, subst, Option, Some, None, ⊎_elim, slice_set, replicate}
use Rattle.std.specs.Prelude.{IsSome, if◌then◌else◌}
use Rattle.std.proofs.lemmas.Option.{none-some}
use Rattle.std.proofs.lemmas.Bool.{false≢true, true≢false}
use Rattle.ground_form.specs.declared.atoms.AtomId.{AtomId}
use Rattle.ground_form.specs.declared.atoms.SetId.{SetId}
use Rattle.ground_form.specs.Programs.{numbered}
use Rattle.opt_core.specs.Numbers.{next_number}
use Rattle.opt_core.specs.States.{CoreView, at_chain, is_among}
use Rattle.opt_core.specs.Folds.{stuck_output}
use Rattle.opt_core.specs.declared.events.Output.TheVariants.{Print, Closed}
use Rattle.opt_core.proofs.ChainLemmas.{at_closed, at_taken, none_open}
use Rattle.opt_core.proofs.MetLemmas.{is_some_at, numbered_new, some_on}

-- the set of each open chain was met
abbrev Have : List (List AtomId) → List (Option SetId) → Type 0
Have met chains = (c : ℕ) (i : SetId) → at_chain chains c ≡ Some i → IsSome (numbered met i.0)

pub begun : (met : List (List AtomId)) (n : ℕ) (chains : List (Option SetId)) → chains ≡ replicate n None → Have met chains
begun met n chains is c i e = absurd (none-some i (sym (ap (λ cs. at_chain cs c) is ∙ none_open n c) ∙ e))

pub shut : (met : List (List AtomId)) (old new : List (Option SetId)) (c : ℕ) → new ≡ slice_set old c None → Have met old → Have met new
shut met old new c is h d i e = h d i (at_closed old c d i (ap (λ cs. at_chain cs d) (sym is) ∙ e))

pub taken : (met grown : List (List AtomId)) (x : List AtomId) (old new : List (Option SetId)) (c : ℕ) (n : SetId)
    → grown ≡ met ++ x ∷ [] → n ≡ next_number met → new ≡ slice_set old c (Some n) → Have met old → Have grown new
taken met grown x old new c n more number is h d i e = subst (λ m. IsSome (numbered m i.0)) (sym more) (⊎_elim
    (λ (before : at_chain old d ≡ Some i). some_on met x i.0 (h d i before))
    (λ (now : n ≡ i). subst (λ (k : SetId). IsSome (numbered (met ++ x ∷ []) k.0)) (sym number ∙ now) (is_some_at _ x (numbered_new met x)))
    (at_taken old c d n i (ap (λ cs. at_chain cs d) (sym is) ∙ e)))

told : (s : CoreView) (c : ℕ) (i : SetId) (b : Bool) → at_chain s.chains c ≡ Some i → is_among s.printed i ≡ b → stuck_output s (at_chain s.chains c) ≡ (if b then Closed else Print i)
told s c i b at is = ap (stuck_output s) at ∙ ap (λ (t : Bool). if t then Closed else Print i) is

taken_back : (b t : Bool) → t ≡ not b → b ≡ not t
taken_back true true e = absurd (true≢false e)
taken_back true false e = refl
taken_back false true e = refl
taken_back false false e = absurd (false≢true e)

-- what is answered of a set that is stuck, by whether it was added to those that are printed
pub told_new : (s : CoreView) (c : ℕ) (i : SetId) (added : Bool) → at_chain s.chains c ≡ Some i → added ≡ not (is_among s.printed i) → added ≡ true → stuck_output s (at_chain s.chains c) ≡ Print i
told_new s c i added at is new = told s c i false at (taken_back (is_among s.printed i) added is ∙ ap not new)

pub told_old : (s : CoreView) (c : ℕ) (i : SetId) (added : Bool) → at_chain s.chains c ≡ Some i → added ≡ not (is_among s.printed i) → added ≡ false → stuck_output s (at_chain s.chains c) ≡ Closed
told_old s c i added at is old = told s c i true at (taken_back (is_among s.printed i) added is ∙ ap not old)
