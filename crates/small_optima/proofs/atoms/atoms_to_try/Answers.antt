-- The loop adds the names of the rules so far.
use Rattle.std.proofs.Common.{◌≡◌, ◌∙◌, List, [], ◌∷◌, ◌++◌, ℕ, refl, sym, ap, Err, Result, subst, arith}
use Rattle.std.specs.List.{filter_map, flat_map}
use Rattle.std.specs.List.Sorted.{IsStrictlySortedBy}
use Rattle.std.proofs.lemmas.List.{append-nil, take_all}
use Rattle.std.proofs.lemmas.List.Concat.{flat_map-append}
use Rattle.std.proofs.lemmas.List.Elements.{filter_map-append}
use Rattle.std.proofs.lemmas.Result.{err_from_is_err_and}
use Rattle.ap_syntax.specs.declared.small.Statement.{Statement}
use Rattle.ap_syntax.specs.declared.small.Statement.TheVariants as statement
use Rattle.ap_syntax.specs.declared.small.Rule.{Rule}
use Rattle.ap_eval.specs.Reduct.{rule_of}
use Rattle.small_optima.specs.declared.optima.TrialFault.TheVariants.{TooMany}
use Rattle.small_optima.specs.Adds.{Adds, ExceedsTwelve}
use Rattle.small_optima.specs.Atoms.{rule_names}
use Rattle.small_optima.specs.Optimal.{atom_cmp}
use Rattle.small_optima.proofs.Names.{ExceedsTwelve-at, Adds-more, Adds-none, length-sorted_names}
use Rattle.small_optima.proofs.atoms.atoms_to_try.Goals as goal
use Rattle.small_optima.proofs.atoms.atoms_to_try.Goals.{in-Rule+in_ok-add_rule, in_default}

names : List Statement → List (List ℕ)
names statements = flat_map rule_names (filter_map rule_of statements)

names-append : (xs ys : List Statement) → names (xs ++ ys) ≡ names xs ++ names ys
unfolding names
names-append xs ys = ap (flat_map rule_names) (filter_map-append rule_of xs ys) ∙ flat_map-append rule_names (filter_map rule_of xs) (filter_map rule_of ys)

err_same : (T : Type 0) {E : Type 0} (x y : E) → ◌≡◌ {A = Result T E} (Err x) (Err y) → x ≡ y
err_same T x y e = cc

-- statements that are no rules have no names
no_names : (given : Statement) → ((rule : Rule) → given ≡ statement.Rule rule → ⊥) → names (given ∷ []) ≡ []
unfolding names
no_names (statement.Rule rule) none = absurd (none rule refl)
no_names (statement.Preference preference) none = refl
no_names (statement.Optimize name) none = refl

pub returns-in_err-add_rule-clause-many : goal.returns-in_err-add_rule-clause-many
unfolding names
returns-in_err-add_rule-clause-many c e =
    let p = err_from_is_err_and c.from_residual.result c.from_residual.ensures.1 in
    let fault = err_same _ c.in_err-add_rule.field-0.0 TooMany (ap Err (sym p.2) ∙ (sym p.1 ∙ e)) in
    let statements = c.as_slice-statement-items.result.now in
    let mid = c.loop-statement.atoms.names.keys in
    let many = c.in_err-add_rule.ensures.many (ap Err fault) in
    let here = subst (λ statement. ExceedsTwelve mid (names (statement ∷ []))) (sym c.in-Rule.is) (subst (ExceedsTwelve mid) (sym (append-nil (rule_names c.in-Rule.rule))) many) in
    subst (λ all. ExceedsTwelve [] (names all)) c.as_slice-statement-items.ensures
    (ExceedsTwelve-at names names-append [] mid statements c.loop-statement.statement-index c.statement-item.result c.loop-statement-test.true c.statement-item.is c.loop-statement.invariant here)

pub loop-statement-preserved : goal.loop-statement-preserved
unfolding names
loop-statement-preserved c =
    let statements = c.as_slice-statement-items.result.now in
    let mid = c.loop-statement.atoms.names.keys in
    let new = c.match-statement.atoms.names.keys in
    let step = Adds-more names names-append [] mid new statements c.loop-statement.statement-index c.statement-item.result c.loop-statement-test.true c.statement-item.is c.loop-statement.invariant in
    elim c.match-statement.branch [
      | in-Rule+in_ok-add_rule w ↦
          let added = subst (λ atoms. Adds mid (rule_names w.in-Rule.rule) atoms.names.keys) (sym w.atoms-is) w.in_ok-add_rule.ensures.added in
          step (subst (λ statement. Adds mid (names (statement ∷ [])) new) (sym w.in-Rule.is) (subst (λ more. Adds mid more new) (sym (append-nil (rule_names w.in-Rule.rule))) added))
      | in_default w ↦
          let kept = subst (λ atoms. Adds mid [] atoms.names.keys) (sym w.atoms-is) (Adds-none mid) in
          step (subst (λ more. Adds mid more new) (sym (no_names c.statement-item.result w.in_default.not-Rule)) kept)
    ]

pub returns-clause-few : goal.returns-clause-few
unfolding names
returns-clause-few c =
    let keys = c.loop-statement.atoms.names.keys in
    let statements = c.as_slice-statement-items.result.now in
    let whole = take_all c.loop-statement.statement-index statements c.loop-statement-test.false ∙ c.as_slice-statement-items.ensures in
    let same = subst (λ all. Adds [] (names all) keys) whole c.loop-statement.invariant in
    let sorted = subst (IsStrictlySortedBy atom_cmp) c.in_ok-into_vec.ensures.same c.in_ok-into_vec.ensures.sorted in
    let count = length-sorted_names keys (names c.args.p.now.statements) sorted same in
    let few = c.in_ok-into_vec.ensures.few in omega arith
