-- A type and its name give each other.
use Rattle.std.proofs.Common.{◌≡◌, ℕ, List, Bool, true, false, Option, Some, None, IsTrue, refl, sym, ap, ◌∙◌}
use Rattle.std.specs.Prelude.{codes, is_some, if◌then◌else◌}
use Rattle.std.specs.Str.{bytes_eq}
use Rattle.std.proofs.lemmas.Bool.{false≢true}
use Rattle.std.proofs.lemmas.Slice.Eq.{bytes_eq-Decides}
use Rattle.pref_kinds.specs.declared.built_in.BuiltIn.{BuiltIn}
use Rattle.pref_kinds.specs.declared.built_in.BuiltIn.TheVariants.{Subset, Superset, LessCardinality, MoreCardinality, LessWeight, MoreWeight, Aso, Poset, Cp, Pareto, Lexico, And, Neg}
use Rattle.pref_kinds.specs.Kinds.{text_of, kind_of}

pub kind_of_text : (kind : BuiltIn) → kind_of (text_of kind) ≡ Some kind
kind_of_text Subset = refl
kind_of_text Superset = refl
kind_of_text LessCardinality = refl
kind_of_text MoreCardinality = refl
kind_of_text LessWeight = refl
kind_of_text MoreWeight = refl
kind_of_text Aso = refl
kind_of_text Poset = refl
kind_of_text Cp = refl
kind_of_text Pareto = refl
kind_of_text Lexico = refl
kind_of_text And = refl
kind_of_text Neg = refl

-- the text of what is found
abbrev IsTextOf : List ℕ → Option BuiltIn → Type 0
IsTextOf text None = Unit {0}
IsTextOf text (Some kind) = text ≡ text_of kind

step : (text : List ℕ) (kind : BuiltIn) (b : Bool) (rest : Option BuiltIn) → (IsTrue b → text ≡ text_of kind) → IsTextOf text rest → IsTextOf text (if b then Some kind else rest)
step text kind true rest here h = here refl
step text kind false rest here h = h

same : (xs ys : List ℕ) → IsTrue (bytes_eq xs ys) → xs ≡ ys
same xs ys e = (bytes_eq-Decides xs ys).0 e

text_found : (text : List ℕ) → IsTextOf text (kind_of text)
text_found text =
    step text Subset _ _ (same text (codes "subset"))
    (step text Superset _ _ (same text (codes "superset"))
    (step text LessCardinality _ _ (same text (codes "less(cardinality)"))
    (step text MoreCardinality _ _ (same text (codes "more(cardinality)"))
    (step text LessWeight _ _ (same text (codes "less(weight)"))
    (step text MoreWeight _ _ (same text (codes "more(weight)"))
    (step text Aso _ _ (same text (codes "aso"))
    (step text Poset _ _ (same text (codes "poset"))
    (step text Cp _ _ (same text (codes "cp"))
    (step text Pareto _ _ (same text (codes "pareto"))
    (step text Lexico _ _ (same text (codes "lexico"))
    (step text And _ _ (same text (codes "and"))
    (step text Neg _ _ (same text (codes "neg")) tt))))))))))))

pub text_of_kind : (text : List ℕ) (kind : BuiltIn) → kind_of text ≡ Some kind → text ≡ text_of kind
text_of_kind text kind e = by (kind_of text) e (text_found text)
  where
    value : Option BuiltIn → BuiltIn
    value None = Subset
    value (Some found) = found

    by : (o : Option BuiltIn) → o ≡ Some kind → IsTextOf text o → text ≡ text_of kind
    by None same_is h = absurd (false≢true (ap is_some same_is))
    by (Some found) same_is h = h ∙ ap text_of (ap value same_is)
