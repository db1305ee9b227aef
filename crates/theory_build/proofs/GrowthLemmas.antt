-- Theories that grow.
use Rattle.std.proofs.Common.{◌≡◌, ℕ, ◌≤◌, ◌<◌, List, [], ◌∷◌, ◌++◌, length, map, take, refl, sym, ◌∙◌, ap, subst, append-nil, append_assoc, Option, Some, arith}
use Rattle.std.specs.List.{flat_map}
use Rattle.std.proofs.lemmas.List.{map-append}
use Rattle.std.proofs.lemmas.Grind.{flat_map-append}
use Rattle.theory_form.specs.declared.literals.Lit.{Lit}
use Rattle.theory_form.specs.declared.rows.VarKind.{VarKind}
use Rattle.theory_form.specs.declared.rows.VarKind.TheVariants.{Atom, Sum, Body, Search, Other}
use Rattle.theory_form.specs.Theories.{TheoryView, CanAdd}
use Rattle.theory_build.specs.declared.entries.Entry.{Entry}
use Rattle.theory_build.specs.Completion.{with_entries, kinds_of, clauses_of}
use Rattle.theory_build.specs.Growth.{IsGrown, IsAddable}

pub grown_itself : (t u : TheoryView) → u ≡ t → IsGrown t u
grown_itself t u e = record {
  variables = [];
  clauses = [];
  is = e ∙ (λ i. record t { variables = sym (append-nil t.variables) i; clauses = sym (append-nil t.clauses) i });
}

pub grown_by : (t u : TheoryView) (variables : List VarKind) (clauses : List (Option (List Lit))) → u ≡ record t { variables = t.variables ++ variables; clauses = t.clauses ++ clauses } → IsGrown t u
grown_by t u variables clauses e = record { variables = variables; clauses = clauses; is = e }

pub grown_clauses : (t u : TheoryView) (clauses : List (Option (List Lit))) → u ≡ record t { clauses = t.clauses ++ clauses } → IsGrown t u
grown_clauses t u clauses e =
    grown_by t u [] clauses (e ∙ (λ i. record t { variables = sym (append-nil t.variables) i; clauses = t.clauses ++ clauses }))

pub grown_entries : (t u : TheoryView) (entries : List Entry) (constraints : List (List Lit)) → u ≡ with_entries t entries constraints → IsGrown t u
grown_entries t u entries constraints e = grown_by t u (kinds_of entries) (map (λ (c : List Lit). Some c) (clauses_of entries ++ constraints)) e

pub grown_more : (t u v : TheoryView) → IsGrown t u → IsGrown u v → IsGrown t v
grown_more t u v a b = record {
  variables = a.variables ++ b.variables;
  clauses = a.clauses ++ b.clauses;
  is =
      b.is
      ∙ ap (λ (w : TheoryView). record w { variables = w.variables ++ b.variables; clauses = w.clauses ++ b.clauses }) a.is
      ∙ (λ i. record t { variables = append_assoc t.variables a.variables b.variables i; clauses = append_assoc t.clauses a.clauses b.clauses i });
}

-- variables behind variables
pub entries_more : (t : TheoryView) (xs ys : List Entry) (constraints : List (List Lit)) → with_entries (with_entries t xs []) ys constraints ≡ with_entries t (xs ++ ys) constraints
entries_more t xs ys constraints =
    let some : List Lit → Option (List Lit) = λ c. Some c in
    let kinds : (t.variables ++ kinds_of xs) ++ kinds_of ys ≡ t.variables ++ kinds_of (xs ++ ys) =
    append_assoc t.variables (kinds_of xs) (kinds_of ys) ∙ ap (λ ks. t.variables ++ ks) (sym (map-append (λ (e : Entry). e.kind) xs ys))
    in
    let first : clauses_of xs ++ [] ≡ clauses_of xs = append-nil (clauses_of xs) in
    let both : clauses_of xs ++ (clauses_of ys ++ constraints) ≡ clauses_of (xs ++ ys) ++ constraints =
    sym (append_assoc (clauses_of xs) (clauses_of ys) constraints) ∙ ap (λ cs. cs ++ constraints) (sym (flat_map-append (λ (e : Entry). e.clauses) xs ys))
    in
    let clauses : (t.clauses ++ map some (clauses_of xs ++ [])) ++ map some (clauses_of ys ++ constraints) ≡ t.clauses ++ map some (clauses_of (xs ++ ys) ++ constraints) =
    append_assoc t.clauses (map some (clauses_of xs ++ [])) (map some (clauses_of ys ++ constraints))
    ∙ ap (λ cs. t.clauses ++ (map some cs ++ map some (clauses_of ys ++ constraints))) first
    ∙ ap (λ cs. t.clauses ++ cs) (sym (map-append some (clauses_of xs) (clauses_of ys ++ constraints)) ∙ ap (map some) both)
    in
    λ i. record t { variables = kinds i; clauses = clauses i }

-- a variable that is no search guard may be added
pub addable_added : (t : TheoryView) (kind : VarKind) → IsAddable t.blocks kind → CanAdd t kind
addable_added t (Atom block supports) h = h
addable_added t (Sum terms bound) h = h
addable_added t (Body lits) h = h
addable_added t Search h = absurd h
addable_added t Other h = h

-- constraints behind variables
pub constraints_more : (t : TheoryView) (xs : List Entry) (constraints : List (List Lit)) → record (with_entries t xs []) { clauses = (with_entries t xs []).clauses ++ map (λ (c : List Lit). Some c) constraints } ≡ with_entries t xs constraints
constraints_more t xs constraints =
    let some : List Lit → Option (List Lit) = λ c. Some c in
    let clauses : (t.clauses ++ map some (clauses_of xs ++ [])) ++ map some constraints ≡ t.clauses ++ map some (clauses_of xs ++ constraints) =
    append_assoc t.clauses (map some (clauses_of xs ++ [])) (map some constraints)
    ∙ ap (λ cs. t.clauses ++ (map some cs ++ map some constraints)) (append-nil (clauses_of xs))
    ∙ ap (λ cs. t.clauses ++ cs) (sym (map-append some (clauses_of xs) constraints))
    in
    λ i. record t { variables = t.variables ++ kinds_of xs; clauses = clauses i }
