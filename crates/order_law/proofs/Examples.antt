-- Two statements: q of type `pareto` names p of type `subset`. They have orders, and these are lawful.
use Rattle.std.proofs.Common.{◌≡◌, ℕ, ◌<◌, Bool, true, false, List, [], ◌∷◌, Contains, None, refl, sym, subst, ap, ◌∙◌, ⊎_elim, arith}
use Rattle.std.specs.Prelude.{codes, if◌then◌else◌, pos}
use Rattle.std.proofs.lemmas.Bool.{false≢true}
use Rattle.ap_term.specs.Value.{Value, integer, constant, none}
use Rattle.element_form.specs.Formulas.{atom_formula}
use Rattle.pref_kinds.specs.declared.built_in.BuiltIn.TheVariants.{Subset, Pareto}
use Rattle.order_law.specs.Systems.{Declared, AreApart, AreBuiltIn, IsNamed, HasOrder, IsLawfulStatement}
use Rattle.order_law.proofs.Exists.{relations_of, orders_exist}
use Rattle.order_law.proofs.SystemLaw.{built_in_lawful}
use Rattle.rule_form.proofs.Unfolds.{here, there, first_or_rest, nothing_in}
use Rattle.element_form.specs.Ground.{Statement, Ground, Ranked, Target, For, Name, HasName}
use Rattle.element_form.specs.Satisfied.{same_value}

abbrev one_rank : Target → Ground
one_rank target = record { place = 1; values = none; ranks = record { weights = none; target = target } ∷ []; given = None }

abbrev statement_of : Value → Target → Statement
statement_of name target = record { name = name; kind = codes "pareto"; elements = one_rank target ∷ [] }

abbrev lower : Declared
lower = record { kind = Subset; statement = statement_of (constant (codes "p")) (For (atom_formula (integer (pos 1)))) }

abbrev upper : Declared
upper = record { kind = Pareto; statement = statement_of (constant (codes "q")) (Name (constant (codes "p"))) }

abbrev both : List Declared
both = lower ∷ upper ∷ []

abbrev level : Value → ℕ
level v = if same_value v (constant (codes "q")) then 1 else 0

-- what a statement of one rank names
names_it : (name : Value) (target : Target) (n : Value) → HasName (statement_of name target) n → target ≡ Name n
names_it name target n (e, r, among, c, t) =
    let is : one_rank target ≡ e = ⊎_elim (λ h. h) (λ h. absurd (nothing_in e h)) (first_or_rest (one_rank target) [] e among) in
    let rank : record { weights = none; target = target } ≡ r = ⊎_elim (λ h. h) (λ h. absurd (nothing_in r h)) (first_or_rest _ [] r (subst (λ (g : Ground). Contains g.ranks r) (sym is) c)) in
    ap (λ (x : Ranked). x.target) rank ∙ t

abbrev is_name : Target → Bool
is_name (For f) = false
is_name (Name n) = true

abbrev named_in : Target → Value
named_in (For f) = f
named_in (Name n) = n

of_two : (P : Declared → Type 0) → P lower → P upper → (d : Declared) → Contains both d → P d
of_two P l u d c = ⊎_elim (λ e. subst P e l) (λ r. ⊎_elim (λ e. subst P e u) (λ h. absurd (nothing_in d h)) (first_or_rest upper [] d r)) (first_or_rest lower (upper ∷ []) d c)

apart : AreApart both
apart d e cd ce = of_two (λ (x : Declared). x.statement.name ≡ e.statement.name → x ≡ e)
    (of_two (λ (y : Declared). lower.statement.name ≡ y.statement.name → lower ≡ y) (λ h. refl) (λ h. absurd (false≢true (ap (λ v. same_value v (constant (codes "q"))) h))) e ce)
    (of_two (λ (y : Declared). upper.statement.name ≡ y.statement.name → upper ≡ y) (λ h. absurd (false≢true (ap (λ v. same_value v (constant (codes "p"))) h))) (λ h. refl) e ce)
    d cd

named : (d : Declared) → Contains both d → IsNamed both level d
named = of_two (IsNamed both level)
    (λ n has. absurd (false≢true (ap is_name (names_it (constant (codes "p")) (For (atom_formula (integer (pos 1)))) n has))))
    (λ n has. let is : constant (codes "p") ≡ n = ap named_in (names_it (constant (codes "q")) (Name (constant (codes "p"))) n has) in
    (lower, here lower (upper ∷ []), sym is, subst (λ v. level v < 1) is (omega arith)))

built_in : AreBuiltIn both (relations_of both level)
built_in = record { level = level; orders = orders_exist both level apart named; named = named; fits = of_two (λ (d : Declared). HasOrder d.kind d.statement) tt tt }

upper_lawful : IsLawfulStatement (relations_of both level) (constant (codes "q"))
upper_lawful = built_in_lawful both (relations_of both level) built_in upper (there lower (upper ∷ []) upper (here upper []))
