-- An answer set has atoms of the rules alone.
use Rattle.std.proofs.Common.{ℕ, Bool, true, false, ◌&&◌, cond, List, [], ◌∷◌, ◌++◌, map, get_or, ◌∙◌}
use Rattle.std.specs.Prelude.{All, IsTrue}
use Rattle.std.specs.Cmp.Lexicographic.{nat_list_eq_equiv}
use Rattle.std.specs.List.{filter_map, flat_map, list_all}
use Rattle.std.proofs.lemmas.Bool.{and_from, and_parts, or_left, or_right}
use Rattle.std.proofs.lemmas.List.Elements.{All-append, All-filter, All-map, All-nil, All-weaker}
use Rattle.std.proofs.lemmas.Map.Made.{All-is_member}
use Rattle.ap_syntax.specs.declared.small.HeadForm.{HeadForm}
use Rattle.ap_syntax.specs.declared.small.HeadForm.TheVariants.{One, Choice, Nothing}
use Rattle.ap_syntax.specs.declared.small.Program.{Program}
use Rattle.ap_syntax.specs.declared.small.Rule.{Rule}
use Rattle.ap_eval.specs.AnswerSets.{IsAnswerSet}
use Rattle.ap_eval.specs.AtomSets.{AtomSet, IsSubset, has}
use Rattle.ap_eval.specs.Reduct.{Definite, element_name, heads_in, literals_of, not_refuted, positive_of, reduced, reduct, rules_of}
use Rattle.small_optima.specs.Atoms.{head_names, literal_name, names_of, rule_names}
use Rattle.small_optima.proofs.Lists.{list_all-weaker}
use Rattle.small_optima.proofs.Names.{has-append, has-is_member}

All-has : (names : List (List ℕ)) → All (λ name. IsTrue (has names name)) names
All-has names = All-weaker _ (λ name. IsTrue (has names name)) (λ name h. has-is_member names name ∙ h) names (All-is_member nat_list_eq_equiv names)

heads_within : (x : AtomSet) (head : HeadForm) → All (λ name. IsTrue (has (head_names head) name)) (heads_in x head)
heads_within x (One atom) = All-has (atom.name ∷ [])
heads_within x (Choice elements) = All-filter x (λ name. IsTrue (has (map element_name elements) name)) (map element_name elements) (All-has (map element_name elements))
heads_within x Nothing = All-nil (λ name. IsTrue (has [] name))

abbrev HasHead : List (List ℕ) → Definite → Type 0
HasHead names rule = IsTrue (has names rule.head)

reduced_within : (x : AtomSet) (rule : Rule) → All (HasHead (rule_names rule)) (reduced x rule)
reduced_within x rule = by_case (list_all (not_refuted x) (literals_of rule))
  where
    body : List (List ℕ)
    body = filter_map positive_of (literals_of rule)

    definite : List ℕ → Definite
    definite head = record { head = head; body = body }

    by_case : (b : Bool) → All (HasHead (rule_names rule)) (cond b (map definite (heads_in x rule.head)) [])
    by_case true = All-map (HasHead (rule_names rule)) definite (heads_in x rule.head)
        (All-weaker (λ name. IsTrue (has (head_names rule.head) name)) (λ name. IsTrue (has (rule_names rule) name))
        (λ name h. has-append (head_names rule.head) (map literal_name (literals_of rule)) name ∙ or_left (has (head_names rule.head) name) (has (map literal_name (literals_of rule)) name) h)
        (heads_in x rule.head) (heads_within x rule.head))
    by_case false = All-nil (HasHead (rule_names rule))

reduct_within : (x : AtomSet) (rules : List Rule) → All (HasHead (flat_map rule_names rules)) (flat_map (reduced x) rules)
reduct_within x [] = All-nil (HasHead [])
reduct_within x (rule ∷ rules) =
    let here = rule_names rule in let later = flat_map rule_names rules in
    All-append (HasHead (here ++ later)) (reduced x rule) (flat_map (reduced x) rules)
    (All-weaker (HasHead here) (HasHead (here ++ later)) (λ d h. has-append here later d.head ∙ or_left (has here d.head) (has later d.head) h) (reduced x rule) (reduced_within x rule))
    (All-weaker (HasHead later) (HasHead (here ++ later)) (λ d h. has-append here later d.head ∙ or_right (has here d.head) (has later d.head) h) (flat_map (reduced x) rules) (reduct_within x rules))

pub within_atoms : (p : Program) (x : AtomSet) → IsAnswerSet p x → IsSubset x (has (names_of p))
within_atoms p x answer a h = (and_parts (x a) (has (names_of p) a) (answer.least cut inside closed a h)).1
  where
    cut : AtomSet
    cut b = x b && has (names_of p) b

    inside : IsSubset cut x
    inside b t = (and_parts (x b) (has (names_of p) b) t).0

    closed : All (λ (rule : Definite). IsTrue (list_all cut rule.body) → IsTrue (cut rule.head)) (reduct p x)
    closed k d lt t =
        let rule : Definite = get_or (reduct p x) k d in
        and_from (x rule.head) (has (names_of p) rule.head)
        (answer.closed k d lt (list_all-weaker cut x inside rule.body t))
        (reduct_within x (rules_of p) k d lt)
