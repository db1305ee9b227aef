-- The reduct by x, read on the program's own rules.
use Rattle.std.proofs.Common.{◌≡◌, ℕ, Bool, true, false, not, ◌&&◌, ◌||◌, List, [], ◌∷◌, ◌++◌, map, cond, refl, sym, ap, ◌∙◌, subst, ⊎_elim}
use Rattle.std.specs.Prelude.{IsTrue, IsFalse, filter}
use Rattle.std.specs.List.{filter_map, flat_map, list_all, AllByRecursion}
use Rattle.std.specs.Str.{bytes_eq}
use Rattle.std.proofs.lemmas.Bool.{and_parts, and_from, or_cases, or_left, or_right, false≢true, not_from_false, not-true}
use Rattle.std.proofs.lemmas.List.Elements.{All-from_recursion, recursion_from_All}
use Rattle.std.proofs.lemmas.List.Folds.{list_all-map}
use Rattle.std.proofs.lemmas.Slice.Eq.{bytes_eq-Decides}
use Rattle.ap_syntax.specs.declared.small.BodyItem.{BodyItem}
use Rattle.ap_syntax.specs.declared.small.BodyItem.TheVariants.{Plain}
use Rattle.ap_syntax.specs.declared.small.ChoiceElement.{ChoiceElement}
use Rattle.ap_syntax.specs.declared.small.HeadForm.{HeadForm}
use Rattle.ap_syntax.specs.declared.small.HeadForm.TheVariants.{One, Choice, Nothing}
use Rattle.ap_syntax.specs.declared.small.Literal.TheVariants.{Pos, Not}
use Rattle.ap_syntax.specs.declared.small.Program.{Program}
use Rattle.ap_syntax.specs.declared.small.Rule as tree
use Rattle.ap_syntax.specs.declared.small.Statement.{Statement}
use Rattle.ap_syntax.specs.declared.small.Statement.TheVariants.{Rule, Preference, Optimize}
use Rattle.ap_eval.specs.AtomSets.{AtomSet, IsSubset, has}
use Rattle.ap_eval.specs.Reduct.{Definite, rule_of, rules_of, literal_of, literal_true, body_true, not_refuted, positive_of, element_name, heads_in, reduced, reduct}
use Rattle.ap_eval.specs.AnswerSets.{IsClosed, IsAnswerSet}
use Rattle.ap_eval.specs.Derivations.{has_head, is_satisfied, body_by, names, derives, is_derivable, IsClosedWithin, IsFounded}

-- ---- names

pub same_name : (a b : List ℕ) → IsTrue (bytes_eq a b) → a ≡ b
same_name a b h = (bytes_eq-Decides a b).0 h

pub own_name : (a : List ℕ) → IsTrue (bytes_eq a a)
own_name a = (bytes_eq-Decides a a).1 refl

-- a set has the members of a list if it has each of its elements, and the other way round
pub from_subset : (y : AtomSet) (hs : List (List ℕ)) → IsSubset (has hs) y → IsTrue (list_all y hs)
from_subset y [] s = refl
from_subset y (h ∷ hs) s = and_from (y h) (list_all y hs) (s h (or_left (bytes_eq h h) (has hs h) (own_name h))) (from_subset y hs (λ a t. s a (or_right (bytes_eq h a) (has hs a) t)))

pub to_subset : (y : AtomSet) (hs : List (List ℕ)) → IsTrue (list_all y hs) → IsSubset (has hs) y
to_subset y [] t a i = absurd (false≢true i)
to_subset y (h ∷ hs) t a i =
    let parts = and_parts (y h) (list_all y hs) t in
    ⊎_elim (λ e. subst (λ b. IsTrue (y b)) (same_name h a e) parts.0) (λ r. to_subset y hs parts.1 a r) (or_cases (bytes_eq h a) (has hs a) i)

-- ---- heads

kept : (x : AtomSet) (a b : List ℕ) (bs : List (List ℕ)) → IsTrue (x a) → IsTrue (bytes_eq b a) → (v : Bool) → x b ≡ v → IsTrue (has (cond v (b ∷ bs) bs) a)
kept x a b bs i e true h = or_left (bytes_eq b a) (has bs a) e
kept x a b bs i e false h = absurd (false≢true (sym h ∙ subst (λ c. IsTrue (x c)) (sym (same_name b a e)) i))

kept_after : (a b : List ℕ) (bs : List (List ℕ)) (v : Bool) → IsTrue (has bs a) → IsTrue (has (cond v (b ∷ bs) bs) a)
kept_after a b bs true h = or_right (bytes_eq b a) (has bs a) h
kept_after a b bs false h = h

chosen : (x : AtomSet) (a : List ℕ) (elements : List ChoiceElement) → IsTrue (x a) → IsTrue (names a (Choice elements)) → IsTrue (has (filter x (map element_name elements)) a)
chosen x a [] i h = h
chosen x a (element ∷ elements) i h = ⊎_elim
    (λ e. kept x a (element_name element) (filter x (map element_name elements)) i e (x (element_name element)) refl)
    (λ t. kept_after a (element_name element) (filter x (map element_name elements)) (x (element_name element)) (chosen x a elements i t))
    (or_cases (bytes_eq (element_name element) a) (names a (Choice elements)) h)

-- a head that names an atom of x is kept by the reduct by x
head_kept : (x : AtomSet) (a : List ℕ) (head : HeadForm) → IsTrue (x a) → IsTrue (names a head) → IsTrue (has (heads_in x head) a)
head_kept x a (One atom) i h = or_left (bytes_eq atom.name a) false h
head_kept x a (Choice elements) i h = chosen x a elements i h
head_kept x a Nothing i h = h

from_kept : (x : AtomSet) (a b : List ℕ) (bs : List (List ℕ)) (P : Type 0) (v : Bool) → x b ≡ v → (IsTrue (x a) → IsTrue (bytes_eq b a) → P) → (IsTrue (has bs a) → P) → IsTrue (has (cond v (b ∷ bs) bs) a) → P
from_kept x a b bs P true e here there h = ⊎_elim (λ s. here (subst (λ c. IsTrue (x c)) (same_name b a s) e) s) there (or_cases (bytes_eq b a) (has bs a) h)
from_kept x a b bs P false e here there h = there h

from_chosen : (x : AtomSet) (a : List ℕ) (elements : List ChoiceElement) → IsTrue (has (filter x (map element_name elements)) a) → IsTrue (x a) × IsTrue (names a (Choice elements))
from_chosen x a [] h = absurd (false≢true h)
from_chosen x a (element ∷ elements) h =
    let b = element_name element in
    let rest = names a (Choice elements) in
    from_kept x a b (filter x (map element_name elements)) (IsTrue (x a) × IsTrue (bytes_eq b a || rest)) (x b) refl
    (λ i s. (i, or_left (bytes_eq b a) rest s))
    (λ t. let p = from_chosen x a elements t in (p.0, or_right (bytes_eq b a) rest p.1))
    h

head_names : (x : AtomSet) (a : List ℕ) (head : HeadForm) → IsTrue (has (heads_in x head) a) → IsTrue (names a head)
head_names x a (One atom) h = ⊎_elim (λ e. e) (λ f. absurd (false≢true f)) (or_cases (bytes_eq atom.name a) false h)
head_names x a (Choice elements) h = (from_chosen x a elements h).1
head_names x a Nothing h = h

-- ---- bodies

and_swap : (a b c : Bool) → (a && (b && c)) ≡ (b && (a && c))
and_swap true true c = refl
and_swap true false c = refl
and_swap false true c = refl
and_swap false false c = refl

and_assoc : (a b c : Bool) → (a && (b && c)) ≡ ((a && b) && c)
and_assoc true b c = refl
and_assoc false b c = refl

abbrev kept_body : AtomSet → List BodyItem → Bool
kept_body x body = list_all (not_refuted x) (map literal_of body)

abbrev asked : List BodyItem → List (List ℕ)
asked body = filter_map positive_of (map literal_of body)

-- true by x and y is: the negative part true by x, and the positive one by y
by_parts : (x y : AtomSet) (body : List BodyItem) → body_by x y body ≡ (kept_body x body && list_all y (asked body))
by_parts x y [] = refl
by_parts x y (Plain (Pos atom) ∷ body) = ap (λ b. y atom.name && b) (by_parts x y body) ∙ and_swap (y atom.name) (kept_body x body) (list_all y (asked body))
by_parts x y (Plain (Not atom) ∷ body) = ap (λ b. not (x atom.name) && b) (by_parts x y body) ∙ and_assoc (not (x atom.name)) (kept_body x body) (list_all y (asked body))

-- by x and x it is truth in x
by_itself : (x : AtomSet) (body : List BodyItem) → body_by x x body ≡ list_all (λ (item : BodyItem). literal_true x (literal_of item)) body
by_itself x [] = refl
by_itself x (Plain (Pos atom) ∷ body) = ap (λ b. x atom.name && b) (by_itself x body)
by_itself x (Plain (Not atom) ∷ body) = ap (λ b. not (x atom.name) && b) (by_itself x body)

-- more atoms make no body false
pub more_atoms : (x y z : AtomSet) → IsSubset y z → (body : List BodyItem) → IsTrue (body_by x y body) → IsTrue (body_by x z body)
more_atoms x y z s [] h = refl
more_atoms x y z s (Plain (Pos atom) ∷ body) h =
    let parts = and_parts (y atom.name) (body_by x y body) h in
    and_from (z atom.name) (body_by x z body) (s atom.name parts.0) (more_atoms x y z s body parts.1)
more_atoms x y z s (Plain (Not atom) ∷ body) h =
    let parts = and_parts (not (x atom.name)) (body_by x y body) h in
    and_from (not (x atom.name)) (body_by x z body) parts.0 (more_atoms x y z s body parts.1)

-- ---- rules

-- y has the heads of the rules that the reduct by x makes of a statement, if it has their body
abbrev pub Obeys : AtomSet → AtomSet → Statement → Type 0
Obeys x y (Rule rule) = IsTrue (body_by x y rule.body) → IsSubset (has (heads_in x rule.head)) y
Obeys x y (Preference preference) = Unit {0}
Obeys x y (Optimize name) = Unit {0}

abbrev Follows : AtomSet → Definite → Type 0
Follows y rule = IsTrue (list_all y rule.body) → IsTrue (y rule.head)

abbrev definite : List (List ℕ) → List ℕ → Definite
definite body head = record { head = head; body = body }

heads_follow : (y : AtomSet) (body heads : List (List ℕ)) → AllByRecursion (Follows y) (map (definite body) heads) → IsTrue (list_all y body) → IsTrue (list_all y heads)
heads_follow y body [] f t = refl
heads_follow y body (h ∷ hs) f t = and_from (y h) (list_all y hs) (f.0 t) (heads_follow y body hs f.1 t)

follow_heads : (y : AtomSet) (body heads : List (List ℕ)) → (IsTrue (list_all y body) → IsTrue (list_all y heads)) → AllByRecursion (Follows y) (map (definite body) heads)
follow_heads y body [] f = tt
follow_heads y body (h ∷ hs) f = (λ t. (and_parts (y h) (list_all y hs) (f t)).0, follow_heads y body hs (λ t. (and_parts (y h) (list_all y hs) (f t)).1))

if_kept : (P : Definite → Type 0) (rules : List Definite) (b : Bool) → (b ≡ true → AllByRecursion P rules) → AllByRecursion P (cond b rules [])
if_kept P rules true f = f refl
if_kept P rules false f = tt

when_kept : (P : Definite → Type 0) (rules : List Definite) (b : Bool) → AllByRecursion P (cond b rules []) → b ≡ true → AllByRecursion P rules
when_kept P rules true f e = f
when_kept P rules false f e = absurd (false≢true e)

rule_obeys : (x y : AtomSet) (rule : tree.Rule) → AllByRecursion (Follows y) (reduced x rule) → Obeys x y (Rule rule)
rule_obeys x y rule f t =
    let parts = and_parts (kept_body x rule.body) (list_all y (asked rule.body)) (sym (by_parts x y rule.body) ∙ t) in
    to_subset y (heads_in x rule.head)
    (heads_follow y (asked rule.body) (heads_in x rule.head)
    (when_kept (Follows y) (map (definite (asked rule.body)) (heads_in x rule.head)) (kept_body x rule.body) f parts.0)
    parts.1)

obeys_rule : (x y : AtomSet) (rule : tree.Rule) → Obeys x y (Rule rule) → AllByRecursion (Follows y) (reduced x rule)
obeys_rule x y rule o =
    if_kept (Follows y) (map (definite (asked rule.body)) (heads_in x rule.head)) (kept_body x rule.body)
    (λ k. follow_heads y (asked rule.body) (heads_in x rule.head)
    (λ t. from_subset y (heads_in x rule.head) (o (by_parts x y rule.body ∙ and_from (kept_body x rule.body) (list_all y (asked rule.body)) k t))))

split : (P : Definite → Type 0) (a b : List Definite) → AllByRecursion P (a ++ b) → AllByRecursion P a × AllByRecursion P b
split P [] b h = (tt, h)
split P (d ∷ a) b h = let rest = split P a b h.1 in ((h.0, rest.0), rest.1)

join : (P : Definite → Type 0) (a b : List Definite) → AllByRecursion P a → AllByRecursion P b → AllByRecursion P (a ++ b)
join P [] b h k = k
join P (d ∷ a) b h k = (h.0, join P a b h.1 k)

all_obey : (x y : AtomSet) (statements : List Statement) → AllByRecursion (Follows y) (flat_map (reduced x) (filter_map rule_of statements)) → AllByRecursion (Obeys x y) statements
all_obey x y [] f = tt
all_obey x y (Rule rule ∷ statements) f =
    let parts = split (Follows y) (reduced x rule) (flat_map (reduced x) (filter_map rule_of statements)) f in
    (rule_obeys x y rule parts.0, all_obey x y statements parts.1)
all_obey x y (Preference preference ∷ statements) f = (tt, all_obey x y statements f)
all_obey x y (Optimize name ∷ statements) f = (tt, all_obey x y statements f)

obey_all : (x y : AtomSet) (statements : List Statement) → AllByRecursion (Obeys x y) statements → AllByRecursion (Follows y) (flat_map (reduced x) (filter_map rule_of statements))
obey_all x y [] o = tt
obey_all x y (Rule rule ∷ statements) o = join (Follows y) (reduced x rule) (flat_map (reduced x) (filter_map rule_of statements)) (obeys_rule x y rule o.0) (obey_all x y statements o.1)
obey_all x y (Preference preference ∷ statements) o = obey_all x y statements o.1
obey_all x y (Optimize name ∷ statements) o = obey_all x y statements o.1

-- closed under the reduct is: each statement is obeyed
pub obeys_from_closed : (p : Program) (x y : AtomSet) → IsClosed (reduct p x) y → AllByRecursion (Obeys x y) p.statements
obeys_from_closed p x y h = all_obey x y p.statements (recursion_from_All (Follows y) (reduct p x) h)

pub closed_from_obeys : (p : Program) (x y : AtomSet) → AllByRecursion (Obeys x y) p.statements → IsClosed (reduct p x) y
closed_from_obeys p x y o = All-from_recursion (Follows y) (reduct p x) (obey_all x y p.statements o)

-- ---- what is derived

-- what a closed set derives within x is in it
pub within_from_obeys : (x y : AtomSet) (statements : List Statement) → AllByRecursion (Obeys x y) statements → IsClosedWithin statements x y
within_from_obeys x y [] o a i d = absurd (false≢true d)
within_from_obeys x y (Rule rule ∷ statements) o a i d = ⊎_elim
    (λ h. let parts = and_parts (names a rule.head) (body_by x y rule.body) h in o.0 parts.1 a (head_kept x a rule.head i parts.0))
    (λ t. within_from_obeys x y statements o.1 a i t)
    (or_cases (derives x y a (Rule rule)) (is_derivable statements x y a) d)
within_from_obeys x y (Preference preference ∷ statements) o a i d = within_from_obeys x y statements o.1 a i d
within_from_obeys x y (Optimize name ∷ statements) o a i d = within_from_obeys x y statements o.1 a i d

abbrev both : AtomSet → AtomSet → AtomSet
both x y a = x a && y a

in_first : (x y : AtomSet) → IsSubset (both x y) x
in_first x y a h = (and_parts (x a) (y a) h).0

in_second : (x y : AtomSet) → IsSubset (both x y) y
in_second x y a h = (and_parts (x a) (y a) h).1

-- if x is closed, then so is what it has in common with a set that has what it derives within x
pub obeys_from_within : (x y : AtomSet) (statements : List Statement) → AllByRecursion (Obeys x x) statements → IsClosedWithin statements x y → AllByRecursion (Obeys x (both x y)) statements
obeys_from_within x y [] o w = tt
obeys_from_within x y (Rule rule ∷ statements) o w = (
  λ t a h.
      let i : IsTrue (x a) = o.0 (more_atoms x (both x y) x (in_first x y) rule.body t) a h in
      let d : IsTrue (derives x y a (Rule rule)) = and_from (names a rule.head) (body_by x y rule.body) (head_names x a rule.head h) (more_atoms x (both x y) y (in_second x y) rule.body t) in
      and_from (x a) (y a) i (w a i (or_left (derives x y a (Rule rule)) (is_derivable statements x y a) d)),
  obeys_from_within x y statements o.1 (λ a i d. w a i (or_right (derives x y a (Rule rule)) (is_derivable statements x y a) d)),
)
obeys_from_within x y (Preference preference ∷ statements) o w = (tt, obeys_from_within x y statements o.1 w)
obeys_from_within x y (Optimize name ∷ statements) o w = (tt, obeys_from_within x y statements o.1 w)

-- more atoms derive no less
pub more_derivable : (x y z : AtomSet) → IsSubset y z → (statements : List Statement) (a : List ℕ) → IsTrue (is_derivable statements x y a) → IsTrue (is_derivable statements x z a)
more_derivable x y z s [] a d = d
more_derivable x y z s (Rule rule ∷ statements) a d = ⊎_elim
    (λ h. let parts = and_parts (names a rule.head) (body_by x y rule.body) h in
    or_left (derives x z a (Rule rule)) (is_derivable statements x z a) (and_from (names a rule.head) (body_by x z rule.body) parts.0 (more_atoms x y z s rule.body parts.1)))
    (λ t. or_right (derives x z a (Rule rule)) (is_derivable statements x z a) (more_derivable x y z s statements a t))
    (or_cases (derives x y a (Rule rule)) (is_derivable statements x y a) d)
more_derivable x y z s (Preference preference ∷ statements) a d = more_derivable x y z s statements a d
more_derivable x y z s (Optimize name ∷ statements) a d = more_derivable x y z s statements a d

-- ---- rules that are satisfied

abbrev body_holds : AtomSet → List BodyItem → Bool
body_holds x body = list_all (λ (item : BodyItem). literal_true x (literal_of item)) body

abbrev IsKept : AtomSet → tree.Rule → Type 0
IsKept x rule = rule.head ≡ Nothing → IsFalse (body_true x rule)

same_body : (x : AtomSet) (rule : tree.Rule) → body_true x rule ≡ body_holds x rule.body
same_body x rule = list_all-map (literal_true x) literal_of rule.body

-- the head of a satisfied rule with a true body
head_there : (h b : Bool) → IsTrue (h || not b) → IsTrue b → IsTrue h
head_there true b s t = refl
head_there false true s t = s
head_there false false s t = t

satisfied_obeys : (x : AtomSet) (head : HeadForm) (body : List BodyItem) → IsTrue (has_head x head || not (body_holds x body)) → IsTrue (body_by x x body) → IsSubset (has (heads_in x head)) x
satisfied_obeys x (One atom) body s t a h = to_subset x (atom.name ∷ []) (and_from (x atom.name) true (head_there (x atom.name) (body_holds x body) s (sym (by_itself x body) ∙ t)) refl) a h
satisfied_obeys x (Choice elements) body s t a h = (from_chosen x a elements h).0
satisfied_obeys x Nothing body s t a h = absurd (false≢true h)

satisfied_kept : (x : AtomSet) (head : HeadForm) (body : List BodyItem) → IsTrue (has_head x head || not (body_holds x body)) → head ≡ Nothing → IsFalse (body_holds x body)
satisfied_kept x (One atom) body s e = absurd (let no : ⊥ = cc in no)
satisfied_kept x (Choice elements) body s e = absurd (let no : ⊥ = cc in no)
satisfied_kept x Nothing body s e = not-true (body_holds x body) s

or_by_cases : (h b : Bool) → (b ≡ true → IsTrue h) → IsTrue (h || not b)
or_by_cases true b f = refl
or_by_cases false true f = f refl
or_by_cases false false f = refl

satisfied_from : (x : AtomSet) (head : HeadForm) (body : List BodyItem) → (IsTrue (body_by x x body) → IsSubset (has (heads_in x head)) x) → (head ≡ Nothing → IsFalse (body_holds x body)) → IsTrue (has_head x head || not (body_holds x body))
satisfied_from x (One atom) body o k = or_by_cases (x atom.name) (body_holds x body) (λ t. o (by_itself x body ∙ t) atom.name (or_left (bytes_eq atom.name atom.name) false (own_name atom.name)))
satisfied_from x (Choice elements) body o k = refl
satisfied_from x Nothing body o k = not_from_false (body_holds x body) (k refl)

all_satisfied_obey : (x : AtomSet) (statements : List Statement) → IsTrue (list_all (is_satisfied x) statements) → AllByRecursion (Obeys x x) statements × AllByRecursion (IsKept x) (filter_map rule_of statements)
all_satisfied_obey x [] s = (tt, tt)
all_satisfied_obey x (Rule rule ∷ statements) s =
    let parts = and_parts (is_satisfied x (Rule rule)) (list_all (is_satisfied x) statements) s in
    let rest = all_satisfied_obey x statements parts.1 in (
      (satisfied_obeys x rule.head rule.body parts.0, rest.0),
      (λ e. same_body x rule ∙ satisfied_kept x rule.head rule.body parts.0 e, rest.1),
    )
all_satisfied_obey x (Preference preference ∷ statements) s = let rest = all_satisfied_obey x statements s in ((tt, rest.0), rest.1)
all_satisfied_obey x (Optimize name ∷ statements) s = let rest = all_satisfied_obey x statements s in ((tt, rest.0), rest.1)

all_satisfied_from : (x : AtomSet) (statements : List Statement) → AllByRecursion (Obeys x x) statements → AllByRecursion (IsKept x) (filter_map rule_of statements) → IsTrue (list_all (is_satisfied x) statements)
all_satisfied_from x [] o k = refl
all_satisfied_from x (Rule rule ∷ statements) o k = and_from (is_satisfied x (Rule rule)) (list_all (is_satisfied x) statements)
    (satisfied_from x rule.head rule.body o.0 (λ e. sym (same_body x rule) ∙ k.0 e))
    (all_satisfied_from x statements o.1 k.1)
all_satisfied_from x (Preference preference ∷ statements) o k = all_satisfied_from x statements o.1 k
all_satisfied_from x (Optimize name ∷ statements) o k = all_satisfied_from x statements o.1 k

-- ---- answer sets

-- every rule is satisfied in an answer set
pub answer_satisfied : (p : Program) (x : AtomSet) → IsAnswerSet p x → IsTrue (list_all (is_satisfied x) p.statements)
answer_satisfied p x answer = all_satisfied_from x p.statements (obeys_from_closed p x x answer.closed) (recursion_from_All (IsKept x) (rules_of p) answer.constraints)

-- the atoms of an answer set can be derived one after the other
pub answer_founded : (p : Program) (x : AtomSet) → IsAnswerSet p x → IsFounded p.statements x
answer_founded p x answer y w a i =
    let closed = closed_from_obeys p x (both x y) (obeys_from_within x y p.statements (obeys_from_closed p x x answer.closed) w) in
    in_second x y a (answer.least (both x y) (in_first x y) closed a i)

-- and a set with both is an answer set
pub answer_from : (p : Program) (x : AtomSet) → IsTrue (list_all (is_satisfied x) p.statements) → IsFounded p.statements x → IsAnswerSet p x
answer_from p x s f =
    let parts = all_satisfied_obey x p.statements s in record {
      closed = closed_from_obeys p x x parts.0;
      least = λ y sub closed. f y (within_from_obeys x y p.statements (obeys_from_closed p x y closed));
      constraints = All-from_recursion (IsKept x) (rules_of p) parts.1;
    }
