-- The variables of the parser's terms, and those of the terms as which they read.
use Rattle.std.proofs.Common.{◌≡◌, ℕ, Bool, true, false, List, [], ◌∷◌, ◌++◌, map, refl, sym, ap, subst, ◌∙◌, Option, Some, None}
use Rattle.ap_pieces.specs.declared.variables.Occurrence.{Occurrence}
use Rattle.ap_pieces.specs.Variables.{under_operator, joined, step, occurrences, occurrences_of}
use Rattle.ap_syntax.specs.declared.terms.Term.{Term, fold-roll-Term, ind-Term, roll-Term, map-Term}
use Rattle.ap_syntax.specs.declared.terms.Term.TheOpen.{Term-F}
use Rattle.rule_form.specs.Arguments.{arguments, arguments_of}
use Rattle.rule_form.specs.Globals.{variables, variables_of}
use Rattle.rule_form.specs.Readings.{term_step, read_term, read_terms, terms_from}
use Rattle.rule_form.specs.Trees as trees

-- the names of occurrences, and of those that are arguments
abbrev pub put_name : Option (List ℕ) → List (List ℕ) → List (List ℕ)
put_name None names = names
put_name (Some name) names = name ∷ names

abbrev pub put_if : Bool → Option (List ℕ) → List (List ℕ) → List (List ℕ)
put_if true o names = put_name o names
put_if false o names = names

abbrev pub names_of : List Occurrence → List (List ℕ)
names_of [] = []
names_of (o ∷ os) = put_name o.name (names_of os)

abbrev pub argument_names : List Occurrence → List (List ℕ)
argument_names [] = []
argument_names (o ∷ os) = put_if o.is_argument o.name (argument_names os)

pub names_append : (xs ys : List Occurrence) → names_of (xs ++ ys) ≡ names_of xs ++ names_of ys
names_append [] ys = refl
names_append (o ∷ xs) ys = put o.name (names_append xs ys)
  where
    put : (n : Option (List ℕ)) → names_of (xs ++ ys) ≡ names_of xs ++ names_of ys → put_name n (names_of (xs ++ ys)) ≡ put_name n (names_of xs) ++ names_of ys
    put None e = e
    put (Some name) e = ap (λ zs. name ∷ zs) e

arguments_append : (xs ys : List Occurrence) → argument_names (xs ++ ys) ≡ argument_names xs ++ argument_names ys
arguments_append [] ys = refl
arguments_append (o ∷ xs) ys = put o.is_argument o.name (arguments_append xs ys)
  where
    put : (b : Bool) (n : Option (List ℕ)) → argument_names (xs ++ ys) ≡ argument_names xs ++ argument_names ys → put_if b n (argument_names (xs ++ ys)) ≡ put_if b n (argument_names xs) ++ argument_names ys
    put true None e = e
    put true (Some name) e = ap (λ zs. name ∷ zs) e
    put false n e = e

names_under : (os : List Occurrence) → names_of (under_operator os) ≡ names_of os
names_under [] = refl
names_under (o ∷ os) = ap (put_name o.name) (names_under os)

none_under : (os : List Occurrence) → argument_names (under_operator os) ≡ []
none_under [] = refl
none_under (o ∷ os) = none_under os

-- ---- terms

abbrev AreRead : List Occurrence → trees.Term → Type 0
AreRead os t = (names_of os ≡ variables t) × (argument_names os ≡ arguments t)

abbrev pub IsRead : Term → Type 0
IsRead t = AreRead (occurrences t) (read_term t)

abbrev Read : Type 0
Read = (t : Term) × IsRead t

abbrev parts_of : List Read → List Term
parts_of ps = map (λ e. e.0) ps

pub both_same : (a b c d : List (List ℕ)) → a ≡ c → b ≡ d → a ++ b ≡ c ++ d
both_same a b c d e f = ap (λ x. x ++ b) e ∙ ap (λ y. c ++ y) f

joined_names : (ps : List Read) → names_of (joined (map occurrences (parts_of ps))) ≡ variables_of (terms_from (map read_term (parts_of ps)))
joined_names [] = refl
joined_names (p ∷ ps) = names_append (occurrences p.0) (joined (map occurrences (parts_of ps))) ∙ both_same _ _ _ _ p.1.0 (joined_names ps)

joined_arguments : (ps : List Read) → argument_names (joined (map occurrences (parts_of ps))) ≡ arguments_of (terms_from (map read_term (parts_of ps)))
joined_arguments [] = refl
joined_arguments (p ∷ ps) = arguments_append (occurrences p.0) (joined (map occurrences (parts_of ps))) ∙ both_same _ _ _ _ p.1.1 (joined_arguments ps)

-- the form of the term, with its parts
rolled : (z : Term-F Term) → AreRead (step (map-Term Term (List Occurrence) occurrences z)) (term_step (map-Term Term trees.Term read_term z)) → IsRead (roll-Term z)
rolled z (e, f) =
    let os = fold-roll-Term (List Occurrence) step z in
    let t = fold-roll-Term trees.Term term_step z in
    (ap names_of os ∙ (e ∙ sym (ap variables t)), ap argument_names os ∙ (f ∙ sym (ap arguments t)))

under : (l r : Read) → AreRead (under_operator (occurrences l.0 ++ occurrences r.0)) (trees.Interval (read_term l.0) (read_term r.0))
under l r = (names_under (occurrences l.0 ++ occurrences r.0) ∙ (names_append (occurrences l.0) (occurrences r.0) ∙ both_same _ _ _ _ l.1.0 r.1.0), none_under (occurrences l.0 ++ occurrences r.0))

by_form : (y : Term-F Read) → IsRead (roll-Term (map-Term Read Term (λ e. e.0) y))
by_form (Term-F.Int n) = rolled (Term-F.Int n) (refl, refl)
by_form (Term-F.Str text) = rolled (Term-F.Str text) (refl, refl)
by_form (Term-F.Const name) = rolled (Term-F.Const name) (refl, refl)
by_form (Term-F.Var name) = rolled (Term-F.Var name) (refl, refl)
by_form Term-F.Any = rolled Term-F.Any (refl, refl)
by_form (Term-F.Fun name ps) = rolled (Term-F.Fun name (parts_of ps)) (joined_names ps, joined_arguments ps)
by_form (Term-F.Tuple ps) = rolled (Term-F.Tuple (parts_of ps)) (joined_names ps, joined_arguments ps)
by_form (Term-F.Minus p) = rolled (Term-F.Minus p.0) (names_under (occurrences p.0) ∙ p.1.0, none_under (occurrences p.0))
by_form (Term-F.Sum l op r) = rolled (Term-F.Sum l.0 op r.0) (under l r)
by_form (Term-F.Product l op r) = rolled (Term-F.Product l.0 op r.0) (under l r)
by_form (Term-F.Range l r) = rolled (Term-F.Range l.0 r.0) (under l r)

pub is_read : (t : Term) → IsRead t
is_read = ind-Term IsRead (λ x y is. subst (λ z. IsRead (roll-Term z)) is (by_form y))

pub all_names : (ts : List Term) → names_of (occurrences_of ts) ≡ variables_of (read_terms ts)
all_names [] = refl
all_names (t ∷ ts) = names_append (occurrences t) (occurrences_of ts) ∙ both_same _ _ _ _ (is_read t).0 (all_names ts)

pub all_arguments : (ts : List Term) → argument_names (occurrences_of ts) ≡ arguments_of (read_terms ts)
all_arguments [] = refl
all_arguments (t ∷ ts) = arguments_append (occurrences t) (occurrences_of ts) ∙ both_same _ _ _ _ (is_read t).1 (all_arguments ts)
