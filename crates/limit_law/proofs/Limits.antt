-- The limit where a formula ends.
use Rattle.std.proofs.Common.{◌≡◌, ◌≢◌, ℕ, ◌<◌, ◌≤◌, Bool, true, false, refl, sym, ap, ◌∙◌, arith, if◌then◌else◌}
use Rattle.std.specs.Prelude.{Option, None, Some, not, ◌&&◌, ◌||◌}
use Rattle.std.proofs.lemmas.Bool.Decides.{nat_tests}
use Rattle.ap_lexemes.specs.declared.levels.Level.{Level}
use Rattle.ap_lexemes.specs.declared.limit.Limit.{Limit}
use Rattle.ap_lexemes.specs.declared.limit.Limit.TheVariants.{Formula}
use Rattle.ap_lexemes.specs.declared.role.Role.{Role}
use Rattle.ap_lexemes.specs.declared.role.Role.TheVariants.{Name, Not, And, Or, Open, Close, Comma, Dot, Other}
use Rattle.ap_lexemes.specs.Limits.{Levels, after, atom_limit, conjunction_depth, depth_of, formula_limit, is_and, is_too_deep, joined, limit_at}
use Rattle.limit_law.specs.Depths.{capped}
use Rattle.limit_law.specs.Inside.{GoOnAlike, is_call}

abbrev limit_by : Bool → Bool → Bool → Option Limit
limit_by part is_next whole = if part || (not is_next && whole) then Some Formula else None

too_deep : (d k : ℕ) → d ≡ capped k → 64 < k → is_too_deep d ≡ true
too_deep d k e h = grind (arith, nat_tests)

in_bounds : (d : ℕ) → d ≤ 64 → is_too_deep d ≡ false
in_bounds d h = grind (arith, nat_tests)

part_in_bounds : (d e : ℕ) → joined d e ≤ 64 → is_too_deep e ≡ false
part_in_bounds d e h = grind (arith, nat_tests)

capped_in_bounds : (d k : ℕ) → d ≡ capped k → k ≤ 64 → d ≤ 64
capped_in_bounds d k e h = grind arith

no_and : (r : Role) → r ≢ And → is_and r ≡ false
no_and And h = absurd (h refl)
no_and r h = refl

deep_limit : (part whole next : Bool) → next ≡ false → whole ≡ true → limit_by part next whole ≡ Some Formula
deep_limit true whole next e f = refl
deep_limit false whole next e f = rw (e, f) refl

no_limit : (part whole next : Bool) → part ≡ false → whole ≡ false → limit_by part next whole ≡ None
no_limit part whole true e f = rw e refl
no_limit part whole false e f = rw (e, f) refl

pub limit_behind : (l : Level) (next : Role) (k : ℕ) → depth_of l ≡ capped k → next ≢ And → 64 < k → formula_limit l next ≡ Some Formula
limit_behind l next k e n h = deep_limit (is_too_deep (conjunction_depth l)) (is_too_deep (depth_of l)) (is_and next) (no_and next n) (too_deep (depth_of l) k e h)

deep_part : (part whole next : Bool) → part ≡ true → limit_by part next whole ≡ Some Formula
deep_part part whole next e = rw e refl

pub limit_of_part : (l : Level) (next : Role) (k : ℕ) → conjunction_depth l ≡ capped k → 64 < k → formula_limit l next ≡ Some Formula
limit_of_part l next k e h = deep_part (is_too_deep (conjunction_depth l)) (is_too_deep (depth_of l)) (is_and next) (too_deep (conjunction_depth l) k e h)

pub none_at : (l : Level) (next : Role) → depth_of l ≤ 64 → formula_limit l next ≡ None
none_at l next h = no_limit (is_too_deep (conjunction_depth l)) (is_too_deep (depth_of l)) (is_and next) (part_in_bounds l.disjunction (conjunction_depth l) h) (in_bounds (depth_of l) h)

pub none_behind : (l : Level) (next : Role) (k : ℕ) → depth_of l ≡ capped k → k ≤ 64 → formula_limit l next ≡ None
none_behind l next k e h = none_at l next (capped_in_bounds (depth_of l) k e h)

not_formula : (o : Option Limit) → o ≡ None → o ≢ Some Formula
not_formula o e f = let no : None ≡ Some Formula = sym e ∙ f in cc

pub no_formula_at : (l : Level) (next : Role) → depth_of l ≤ 64 → formula_limit l next ≢ Some Formula
no_formula_at l next h = not_formula (formula_limit l next) (none_at l next h)

pub no_atom_at : (l : Level) (next : Role) → depth_of l ≤ 64 → atom_limit l next ≢ Some Formula
no_atom_at l Open h = λ e. cc
no_atom_at l Name h = no_formula_at l Name h
no_atom_at l Not h = no_formula_at l Not h
no_atom_at l And h = no_formula_at l And h
no_atom_at l Or h = no_formula_at l Or h
no_atom_at l Close h = no_formula_at l Close h
no_atom_at l Comma h = no_formula_at l Comma h
no_atom_at l Dot h = no_formula_at l Dot h
no_atom_at l Other h = no_formula_at l Other h

-- ---- what a limit says of the depths

part_in_bounds_alone : (part whole next : Bool) → part ≡ false → next ≡ true → limit_by part next whole ≡ None
part_in_bounds_alone true whole next e f = cc
part_in_bounds_alone false whole true e f = refl
part_in_bounds_alone false whole false e f = cc

not_at_most : (d : ℕ) → (d ≤ 64 → ⊥) → 64 < d
not_at_most d h = grind arith

and_is : (r : Role) → r ≡ And → is_and r ≡ true
and_is r e = rw e refl

pub deep_part_of : (l : Level) (next : Role) → next ≡ And → formula_limit l next ≡ Some Formula → 64 < conjunction_depth l
deep_part_of l next n e = not_at_most (conjunction_depth l) (λ h. not_formula (formula_limit l next) (part_in_bounds_alone (is_too_deep (conjunction_depth l)) (is_too_deep (depth_of l)) (is_and next) (in_bounds (conjunction_depth l) h) (and_is next n)) e)

pub deep_whole_of : (l : Level) (next : Role) → formula_limit l next ≡ Some Formula → 64 < depth_of l
deep_whole_of l next e = not_at_most (depth_of l) (λ h. no_formula_at l next h e)

-- ---- what follows a limit counts only as far as it goes on with the conjunction or the atom

abbrev atom_by : Bool → Option Limit → Option Limit
atom_by true o = None
atom_by false o = o

atom_limit_by : (l : Level) (next : Role) → atom_limit l next ≡ atom_by (is_call Name next) (formula_limit l next)
atom_limit_by l Open = refl
atom_limit_by l Name = refl
atom_limit_by l Not = refl
atom_limit_by l And = refl
atom_limit_by l Or = refl
atom_limit_by l Close = refl
atom_limit_by l Comma = refl
atom_limit_by l Dot = refl
atom_limit_by l Other = refl

formula_alike : (l : Level) (next second : Role) → is_and next ≡ is_and second → formula_limit l next ≡ formula_limit l second
formula_alike l next second e = ap (λ b. limit_by (is_too_deep (conjunction_depth l)) b (is_too_deep (depth_of l))) e

pub limit_alike : (s : Levels) (role next second : Role) → GoOnAlike role next second → limit_at s role next ≡ limit_at s role second
limit_alike s Name next second g =
    atom_limit_by (after s Name).level next
    ∙ (ap (λ b. atom_by b (formula_limit (after s Name).level next)) g.atom
    ∙ (ap (atom_by (is_call Name second)) (formula_alike (after s Name).level next second g.conjunction) ∙ sym (atom_limit_by (after s Name).level second)))
limit_alike s Close next second g = formula_alike (after s Close).level next second g.conjunction
limit_alike s Not next second g = refl
limit_alike s And next second g = refl
limit_alike s Or next second g = refl
limit_alike s Open next second g = refl
limit_alike s Comma next second g = refl
limit_alike s Dot next second g = refl
limit_alike s Other next second g = refl
