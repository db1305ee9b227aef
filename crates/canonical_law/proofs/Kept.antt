-- Statements without each `#program` that opens the part in force.
use Rattle.std.proofs.Common.{◌≡◌, ◌≤◌, Bool, true, false, cond, List, [], ◌∷◌, ◌++◌, length, map, refl, sym, ap, ◌∙◌, arith}
use Rattle.std.proofs.lemmas.List.{length-map}
use Rattle.std.proofs.lemmas.Slice.Eq.{bytes_eq-Decides}
use Rattle.ap_syntax.specs.declared.programs.PartKind.{PartKind}
use Rattle.ap_syntax.specs.declared.programs.PartKind.TheVariants as parts
use Rattle.ap_syntax.specs.declared.programs.Statement.{Statement}
use Rattle.ap_syntax.specs.declared.programs.Statement.TheVariants as statements
use Rattle.ap_syntax.specs.declared.preferences.Element.{Element}
use Rattle.ap_parse.specs.Changes.{changing, part_after, repeats, same_part}
use Rattle.std.specs.List.{flat_map}
use Rattle.limit_law.specs.Programs.{element_formulas, formulas_of, statement_formulas}
use Rattle.canonical_law.specs.Unplaced.{unplaced, unplaced_element}

pub same_part_is : (part next : PartKind) → same_part part next ≡ true → next ≡ part
same_part_is parts.Base parts.Base h = refl
same_part_is parts.Base (parts.Kind k) h = absurd cc
same_part_is (parts.Kind k) parts.Base h = absurd cc
same_part_is (parts.Kind k) (parts.Kind j) h = ap parts.Kind (sym ((bytes_eq-Decides k j).0 h))

-- places make no difference
pub changing_unplaced : (part : PartKind) (ss : List Statement) → map unplaced (changing part ss) ≡ changing part (map unplaced ss)
changing_unplaced part [] = refl
changing_unplaced part (statements.Rule r ∷ ss) = ap (λ ts. unplaced (statements.Rule r) ∷ ts) (changing_unplaced part ss)
changing_unplaced part (statements.Const file at name value ∷ ss) = ap (λ ts. statements.Const 0 0 name value ∷ ts) (changing_unplaced part ss)
changing_unplaced part (statements.Show signature ∷ ss) = ap (λ ts. statements.Show signature ∷ ts) (changing_unplaced part ss)
changing_unplaced part (statements.Defined name arity ∷ ss) = ap (λ ts. statements.Defined name arity ∷ ts) (changing_unplaced part ss)
changing_unplaced part (statements.Preference p ∷ ss) = ap (λ ts. unplaced (statements.Preference p) ∷ ts) (changing_unplaced part ss)
changing_unplaced part (statements.Optimize file at name ∷ ss) = ap (λ ts. statements.Optimize 0 0 name ∷ ts) (changing_unplaced part ss)
changing_unplaced part (statements.Part file at next ∷ ss) = by (same_part part next) (changing_unplaced part ss) (changing_unplaced next ss)
  where
    by : (b : Bool) → map unplaced (changing part ss) ≡ changing part (map unplaced ss) → map unplaced (changing next ss) ≡ changing next (map unplaced ss)
        → map unplaced (cond b (changing part ss) (statements.Part file at next ∷ changing next ss)) ≡ cond b (changing part (map unplaced ss)) (statements.Part 0 0 next ∷ changing next (map unplaced ss))
    by true h k = h
    by false h k = ap (λ ts. statements.Part 0 0 next ∷ ts) k

-- what is left changes the part at each `#program`
pub changing_again : (part : PartKind) (ss : List Statement) → changing part (changing part ss) ≡ changing part ss
changing_again part [] = refl
changing_again part (statements.Rule r ∷ ss) = ap (λ ts. statements.Rule r ∷ ts) (changing_again part ss)
changing_again part (statements.Const file at name value ∷ ss) = ap (λ ts. statements.Const file at name value ∷ ts) (changing_again part ss)
changing_again part (statements.Show signature ∷ ss) = ap (λ ts. statements.Show signature ∷ ts) (changing_again part ss)
changing_again part (statements.Defined name arity ∷ ss) = ap (λ ts. statements.Defined name arity ∷ ts) (changing_again part ss)
changing_again part (statements.Preference p ∷ ss) = ap (λ ts. statements.Preference p ∷ ts) (changing_again part ss)
changing_again part (statements.Optimize file at name ∷ ss) = ap (λ ts. statements.Optimize file at name ∷ ts) (changing_again part ss)
changing_again part (statements.Part file at next ∷ ss) = by (same_part part next) refl (changing_again part ss) (changing_again next ss)
  where
    by : (b : Bool) → same_part part next ≡ b → changing part (changing part ss) ≡ changing part ss → changing next (changing next ss) ≡ changing next ss
        → changing part (cond b (changing part ss) (statements.Part file at next ∷ changing next ss)) ≡ cond b (changing part ss) (statements.Part file at next ∷ changing next ss)
    by true e h k = h
    by false e h k = ap (λ (c : Bool). cond c (changing part (changing next ss)) (statements.Part file at next ∷ changing next (changing next ss))) e ∙ ap (λ ts. statements.Part file at next ∷ ts) k

-- ---- where nothing is left out

changing_length : (part : PartKind) (ss : List Statement) → length (changing part ss) ≤ length ss
changing_length part [] = omega arith
changing_length part (s ∷ ss) = by (repeats part s) (changing_length part ss) (changing_length (part_after part s) ss)
  where
    by : (b : Bool) → length (changing part ss) ≤ length ss → length (changing (part_after part s) ss) ≤ length ss → length (cond b (changing part ss) (s ∷ changing (part_after part s) ss)) ≤ length (s ∷ ss)
    by true h k = omega (arith, h)
    by false h k = omega (arith, k)

all_change : (part : PartKind) (ss : List Statement) → length (changing part ss) ≡ length ss → changing part ss ≡ ss
all_change part [] h = refl
all_change part (s ∷ ss) h = by (repeats part s) (changing_length part ss) (all_change (part_after part s) ss) h
  where
    by : (b : Bool) → length (changing part ss) ≤ length ss → (length (changing (part_after part s) ss) ≡ length ss → changing (part_after part s) ss ≡ ss)
        → length (cond b (changing part ss) (s ∷ changing (part_after part s) ss)) ≡ length (s ∷ ss) → cond b (changing part ss) (s ∷ changing (part_after part s) ss) ≡ s ∷ ss
    by true l k h = absurd (omega (arith, l, h))
    by false l k h = ap (λ ts. s ∷ ts) (k (omega (arith, h)))

-- statements that are those of a program that was read but for their places are not left out either
pub none_left_out : (part : PartKind) (ss ts : List Statement) → changing part ts ≡ ts → map unplaced ss ≡ map unplaced ts → changing part ss ≡ ss
none_left_out part ss ts k e =
    let same : map unplaced (changing part ss) ≡ map unplaced ss =
    changing_unplaced part ss ∙ (ap (changing part) e ∙ (sym (changing_unplaced part ts) ∙ (ap (map unplaced) k ∙ sym e))) in
    all_change part ss (sym (length-map (changing part ss) unplaced) ∙ (ap length same ∙ length-map ss unplaced))

-- ---- the formulas of a program

same_element_formulas : (es : List Element) → flat_map element_formulas (map unplaced_element es) ≡ flat_map element_formulas es
same_element_formulas [] = refl
same_element_formulas (e ∷ es) = ap (λ fs. element_formulas e ++ fs) (same_element_formulas es)

same_statement_formulas : (s : Statement) → statement_formulas (unplaced s) ≡ statement_formulas s
same_statement_formulas (statements.Rule r) = refl
same_statement_formulas (statements.Const file at name value) = refl
same_statement_formulas (statements.Show signature) = refl
same_statement_formulas (statements.Defined name arity) = refl
same_statement_formulas (statements.Part file at next) = refl
same_statement_formulas (statements.Preference p) = same_element_formulas p.elements
same_statement_formulas (statements.Optimize file at name) = refl

pub same_formulas : (ss : List Statement) → formulas_of (map unplaced ss) ≡ formulas_of ss
same_formulas [] = refl
same_formulas (s ∷ ss) = ap (λ fs. fs ++ formulas_of (map unplaced ss)) (same_statement_formulas s) ∙ ap (λ fs. statement_formulas s ++ fs) (same_formulas ss)

none_in_a_part : (part : PartKind) (s : Statement) → repeats part s ≡ true → statement_formulas s ≡ []
none_in_a_part part (statements.Part file at next) h = refl
none_in_a_part part (statements.Rule r) h = absurd cc
none_in_a_part part (statements.Const file at name value) h = absurd cc
none_in_a_part part (statements.Show signature) h = absurd cc
none_in_a_part part (statements.Defined name arity) h = absurd cc
none_in_a_part part (statements.Preference p) h = absurd cc
none_in_a_part part (statements.Optimize file at name) h = absurd cc

-- what is left out has none
pub changing_formulas : (part : PartKind) (ss : List Statement) → formulas_of (changing part ss) ≡ formulas_of ss
changing_formulas part [] = refl
changing_formulas part (s ∷ ss) = by (repeats part s) refl (changing_formulas part ss) (changing_formulas (part_after part s) ss)
  where
    by : (b : Bool) → repeats part s ≡ b → formulas_of (changing part ss) ≡ formulas_of ss → formulas_of (changing (part_after part s) ss) ≡ formulas_of ss
        → formulas_of (cond b (changing part ss) (s ∷ changing (part_after part s) ss)) ≡ statement_formulas s ++ formulas_of ss
    by true e h k = h ∙ ap (λ fs. fs ++ formulas_of ss) (sym (none_in_a_part part s e))
    by false e h k = ap (λ fs. statement_formulas s ++ fs) k
