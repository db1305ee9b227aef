-- Preference statements.
use Rattle.std.proofs.Common.{◌≡◌, ℕ, ◌<◌, ◌≤◌, true, false, List, [], ◌∷◌, ◌++◌, refl, sym, ap, subst, ◌∙◌, append_assoc, arith, Option, None, Some}
use Rattle.std.specs.Prelude.{◌&&◌, flat_map, nat_le}
use Rattle.std.proofs.lemmas.List.{append-nil}
use Rattle.std.proofs.lemmas.Grind.{flat_map-append}
use Rattle.std.proofs.lemmas.Bool.Decides.{nat_tests}
use Rattle.grammar.specs.Form.{◌⨾◌}
use Rattle.grammar.specs.Form.Form.{Tok, Call, Star}
use Rattle.grammar.proofs.Interpret.{Reads}
use Rattle.ap_syntax.specs.declared.preferences.Element.{Element}
use Rattle.ap_syntax.specs.declared.preferences.Formula.{Formula as FormulaTree}
use Rattle.ap_syntax.specs.declared.preferences.Ranked.{Ranked}
use Rattle.ap_syntax.specs.declared.preferences.Target.{Target as TargetTree}
use Rattle.ap_grammar.specs.declared.terminals.Terminal.TheVariants as t
use Rattle.ap_grammar.specs.Lexemes.{Lexeme}
use Rattle.ap_grammar.specs.Values.{Value, as_element, as_given, as_ranked, as_target, collected, first_of, found}
use Rattle.ap_grammar.specs.Values.Value.{token}
use Rattle.ap_grammar.specs.Grammar.{Name, in_braces, made, many, or_nothing, rule_of}
use Rattle.ap_lexemes.specs.declared.role.Role.TheVariants as roles
use Rattle.ap_lexemes.specs.Limits.{Levels, next_role, role_of}
use Rattle.limit_law.specs.Depths.{depth, scan}
use Rattle.limit_law.specs.Programs.{element_formulas, given_formulas, ranked_formulas, target_formulas}
use Rattle.limit_law.proofs.Limits.{limit_behind}
use Rattle.limit_law.proofs.Last.{stands_last}
use Rattle.limit_law.proofs.Scanning.{Kept, group, grouped_kept, kept_none, kept_then, kept_token}
use Rattle.limit_law.proofs.Tells.{Formed, Goes, Tail, formed_then, kept_alone, kept_formed, no_and, no_open, tail_formed, Whole, tail_none, tail_then, whole_dot}
use Rattle.limit_law.proofs.Scans.{DisjunctionDepth, ScansDomain, ScansElement, ScansFormula, ScansGiven, ScansKind, ScansName, ScansRanked, ScansStatement, ScansTarget}
use Rattle.limit_law.proofs.Terms.{Has, form_kept, name_kept}
use Rattle.limit_law.proofs.Formulas.{Behind, behind_is}

-- ---- targets

is_shallow : (k : ℕ) → (nat_le k 64 && true) ≡ true → k ≤ 64
is_shallow k h = grind (arith, nat_tests)

is_deep : (k : ℕ) → (nat_le k 64 && true) ≡ false → 64 < k
is_deep k h = grind (arith, nat_tests)

formula_goes : (s : Levels) (read ys : List Lexeme) (f : FormulaTree) → Behind s read f → Goes s read ys (f ∷ [])
formula_goes s read ys f b = record {
  outer = b.outer;
  tells = λ h. record {
    quiet = λ i. b.quiet (is_shallow (depth f) i);
    loud = λ i. stands_last s read ys b.last (no_open (next_role ys) h) (limit_behind (scan s read).level (next_role ys) (depth f) b.level (no_and (next_role ys) h) (is_deep (depth f) i));
  };
}

formula_target : {xs ys : List Lexeme} {v : Value} → ScansFormula DisjunctionDepth xs ys v → ScansTarget xs ys (made Name.Target (v ∷ []))
formula_target {ys = ys} p = rw p.is (record {
  first = p.first;
  tree = _;
  is = refl;
  formed = record { read = p.read; tokens = p.tokens; goes = λ s h. formula_goes s p.read ys p.tree (behind_is s h p) };
})

named_target : (x : Lexeme) {xs ys : List Lexeme} {v : Value} → x.terminal ≡ t.Stars → ScansName xs ys v → ScansTarget (x ∷ xs) ys (made Name.Target (token x ∷ v ∷ []))
named_target x {xs = xs} e n = rw n.is (record { first = x; tree = _; is = refl; formed = kept_formed {n = false} (kept_none (x ∷ xs)) (tail_formed x (ap role_of e) (kept_alone {n = false} (name_kept n))) })

pub target_scans : {xs ys : List Lexeme} {vs : List Value} → Has (rule_of Name.Target) xs ys vs → ScansTarget xs ys (made Name.Target vs)
target_scans (Reads.left (Reads.call m)) = formula_target m
target_scans (Reads.right (Reads.seq (Reads.tok {t = x} e) (Reads.call n))) = named_target x e n

-- ---- ranks

found_skip : {A : Type 0} (pick : Value → Option A) (v : Value) (ws : List Value) → pick v ≡ None → found pick (v ∷ ws) ≡ found pick ws
found_skip {A = A} pick v ws e = ap (λ (o : Option A). elim o as (λ p. Option A) [ None ↦ found pick ws | Some x ↦ Some x ]) e

collected_skip : {A : Type 0} (pick : Value → Option A) (v : Value) (ws : List Value) → pick v ≡ None → collected pick (v ∷ ws) ≡ collected pick ws
collected_skip {A = A} pick v ws e = ap (λ (o : Option A). elim o as (λ p. List A) [ None ↦ collected pick ws | Some x ↦ x ∷ collected pick ws ]) e

no_targets : {xs ys : List Lexeme} {vs : List Value} (ws : List Value) → Has (Star (Tok t.Comma ⨾ Call Name.Term)) xs ys vs → found as_target (vs ++ ws) ≡ found as_target ws
no_targets ws Reads.none = refl
no_targets ws (Reads.more {vs = vs} (Reads.seq (Reads.tok e) (Reads.call {v = v} m)) rest) = found_skip as_target v (vs ++ ws) m.1 ∙ no_targets ws rest

ranked_made : {xs ys : List Lexeme} (vs : List Value) (x : TargetTree) → found as_target vs ≡ Some x → Formed xs ys (target_formulas x) → ScansRanked xs ys (made Name.Ranked vs)
ranked_made {xs = xs} {ys = ys} vs x e p = record { first = first_of vs; tree = _; is = refl; formed = subst (λ o. Formed xs ys (target_formulas (or_nothing o))) (sym e) p }

found_target : {xs ys : List Lexeme} {v : Value} (p : ScansTarget xs ys v) → found as_target (v ∷ []) ≡ Some p.tree
found_target p = rw p.is refl

pub ranked_scans : {xs ys : List Lexeme} {vs : List Value} → Has (rule_of Name.Ranked) xs ys vs → ScansRanked xs ys (made Name.Ranked vs)
ranked_scans (Reads.seq (Reads.right Reads.empty) (Reads.call {v = v} p)) = ranked_made (v ∷ []) p.tree (found_target p) p.formed
ranked_scans (Reads.seq (Reads.left (Reads.seq {us = us} d (Reads.tok {t = w} e))) (Reads.call {v = v} p)) = ranked_made ((us ++ (token w ∷ [])) ++ (v ∷ [])) p.tree (weights d w v p) (kept_formed {n = false} (form_kept refl d) (tail_formed w (ap role_of e) p.formed))
  where
    weights : {xs ms ns ys : List Lexeme} {us : List Value} → Has (many (Call Name.Term) t.Comma) xs ms us → (w : Lexeme) (v : Value) (p : ScansTarget ns ys v) → found as_target ((us ++ (token w ∷ [])) ++ (v ∷ [])) ≡ Some p.tree
    weights (Reads.seq {vs = us} (Reads.call {v = u} m) rest) w v p = found_skip as_target u ((us ++ (token w ∷ [])) ++ (v ∷ [])) m.1 ∙ (ap (found as_target) (append_assoc us (token w ∷ []) (v ∷ [])) ∙ (no_targets (token w ∷ v ∷ []) rest ∙ found_target p))

given_made : (x : Lexeme) {xs ys : List Lexeme} {v : Value} → x.terminal ≡ t.Bars → ScansRanked xs ys v → ScansGiven (x ∷ xs) ys (made Name.Given (token x ∷ v ∷ []))
given_made x e p = rw p.is (record { tree = p.tree; is = refl; tail = tail_formed x (ap role_of e) p.formed })

pub given_scans : {xs ys : List Lexeme} {vs : List Value} → Has (rule_of Name.Given) xs ys vs → ScansGiven xs ys (made Name.Given vs)
given_scans (Reads.seq (Reads.tok {t = x} e) (Reads.call p)) = given_made x e p

domain_no_ranked : (x : Lexeme) (v : Value) → as_ranked (made Name.Domain (token x ∷ v ∷ [])) ≡ None
domain_no_ranked x (Value.literals ls) = refl
domain_no_ranked x v = refl

domain_no_given : (x : Lexeme) (v : Value) → as_given (made Name.Domain (token x ∷ v ∷ [])) ≡ None
domain_no_given x (Value.literals ls) = refl
domain_no_given x v = refl

pub domain_scans : {xs ys : List Lexeme} {vs : List Value} → Has (rule_of Name.Domain) xs ys vs → ScansDomain xs ys (made Name.Domain vs)
domain_scans (Reads.seq (Reads.tok {t = x} e) (Reads.call {v = v} k)) = record { no_ranked = domain_no_ranked x v; no_given = domain_no_given x v; tail = tail_formed x (ap role_of e) (kept_alone k) }

-- ---- elements

-- the ranks behind the first one
record Ranks (xs ys : List Lexeme) (vs : List Value) : Type 0 where
  trees : List Ranked
  are : (ws : List Value) → collected as_ranked (vs ++ ws) ≡ trees ++ collected as_ranked ws
  skip : (ws : List Value) → found as_given (vs ++ ws) ≡ found as_given ws
  tail : Tail xs ys (flat_map ranked_formulas trees)

no_ranks : (xs : List Lexeme) → Ranks xs xs []
no_ranks xs = record { trees = []; are = λ ws. refl; skip = λ ws. refl; tail = tail_none xs }

more_ranks : (x : Lexeme) {xs ys zs : List Lexeme} {v : Value} {vs : List Value} → x.terminal ≡ t.Better → ScansRanked xs ys v → Ranks ys zs vs → Ranks (x ∷ xs) zs (token x ∷ v ∷ vs)
more_ranks x e p r = record {
  trees = p.tree ∷ r.trees;
  are = λ ws. rw p.is (ap (λ rs. p.tree ∷ rs) (r.are ws));
  skip = λ ws. rw p.is (r.skip ws);
  tail = tail_then (tail_formed x (ap role_of e) p.formed) r.tail;
}

ranks_behind : {xs ys : List Lexeme} {vs : List Value} → Has (Star (Tok t.Better ⨾ Call Name.Ranked)) xs ys vs → Ranks xs ys vs
ranks_behind (Reads.none {xs = xs}) = no_ranks xs
ranks_behind (Reads.more (Reads.seq (Reads.tok {t = x} e) (Reads.call m)) rest) = more_ranks x e m (ranks_behind rest)

-- what stands behind the ranks
record Conditions (xs ys : List Lexeme) (ws : List Value) : Type 0 where
  given : Option Ranked
  is : found as_given ws ≡ given
  no_more : collected as_ranked ws ≡ []
  tail : Tail xs ys (given_formulas given)

both_conditions : {xs ys zs : List Lexeme} {v w : Value} → ScansGiven xs ys v → ScansDomain ys zs w → Conditions xs zs (v ∷ w ∷ [])
both_conditions {xs = xs} {zs = zs} {w = w} g d = rw g.is (record { given = Some g.tree; is = refl; no_more = collected_skip as_ranked w [] d.no_ranked; tail = subst (Tail xs zs) (append-nil (ranked_formulas g.tree)) (tail_then g.tail d.tail) })

given_alone : {xs ys : List Lexeme} {v : Value} → ScansGiven xs ys v → Conditions xs ys (v ∷ [])
given_alone g = rw g.is (record { given = Some g.tree; is = refl; no_more = refl; tail = g.tail })

domain_alone : {xs ys : List Lexeme} {v : Value} → ScansDomain xs ys v → Conditions xs ys (v ∷ [])
domain_alone {v = v} d = record { given = None; is = found_skip as_given v [] d.no_given; no_more = collected_skip as_ranked v [] d.no_ranked; tail = d.tail }

no_conditions : (xs : List Lexeme) → Conditions xs xs []
no_conditions xs = record { given = None; is = refl; no_more = refl; tail = tail_none xs }

element_made : {xs ys zs ks : List Lexeme} (v : Value) (vs ws : List Value) → ScansRanked xs ys v → Ranks ys zs vs → Conditions zs ks ws → ScansElement xs ks (made Name.Element ((v ∷ vs) ++ ws))
element_made {xs = xs} {ks = ks} v vs ws p r c = rw p.is (record { tree = _; is = refl; formed = subst (Formed xs ks) (sym formulas_are) (formed_then p.formed (tail_then r.tail c.tail)) })
  where
    ranks_are : collected as_ranked (vs ++ ws) ≡ r.trees
    ranks_are = r.are ws ∙ (ap (λ rs. r.trees ++ rs) c.no_more ∙ append-nil r.trees)

    formulas_are : flat_map ranked_formulas (p.tree ∷ collected as_ranked (vs ++ ws)) ++ given_formulas (found as_given (vs ++ ws)) ≡ ranked_formulas p.tree ++ (flat_map ranked_formulas r.trees ++ given_formulas c.given)
    formulas_are = ap (λ rs. flat_map ranked_formulas (p.tree ∷ rs) ++ given_formulas (found as_given (vs ++ ws))) ranks_are ∙ (ap (λ g. flat_map ranked_formulas (p.tree ∷ r.trees) ++ given_formulas g) (r.skip ws ∙ c.is) ∙ append_assoc (ranked_formulas p.tree) (flat_map ranked_formulas r.trees) (given_formulas c.given))

pub element_scans : {xs ys : List Lexeme} {vs : List Value} → Has (rule_of Name.Element) xs ys vs → ScansElement xs ys (made Name.Element vs)
element_scans (Reads.seq (Reads.seq {vs = us} (Reads.call {v = r} m) rest) (Reads.seq (Reads.left (Reads.call {v = v} g)) (Reads.left (Reads.call {v = w} d)))) = element_made r us (v ∷ w ∷ []) m (ranks_behind rest) (both_conditions g d)
element_scans (Reads.seq (Reads.seq {vs = us} (Reads.call {v = r} m) rest) (Reads.seq (Reads.left (Reads.call {v = v} g)) (Reads.right Reads.empty))) = element_made r us (v ∷ []) m (ranks_behind rest) (given_alone g)
element_scans (Reads.seq (Reads.seq {vs = us} (Reads.call {v = r} m) rest) (Reads.seq (Reads.right Reads.empty) (Reads.left (Reads.call {v = w} d)))) = element_made r us (w ∷ []) m (ranks_behind rest) (domain_alone d)
element_scans (Reads.seq (Reads.seq {vs = us} (Reads.call {v = r} m) rest) (Reads.seq (Reads.right Reads.empty) (Reads.right (Reads.empty {xs = xs})))) = element_made r us [] m (ranks_behind rest) (no_conditions xs)

-- ---- statements

-- tokens that begin with one that ends formulas, with the elements that they come to
record Elements (xs ys : List Lexeme) (vs : List Value) : Type 0 where
  trees : List Element
  are : (ws : List Value) → collected as_element (vs ++ ws) ≡ trees ++ collected as_element ws
  tail : Tail xs ys (flat_map element_formulas trees)

no_elements : (xs : List Lexeme) → Elements xs xs []
no_elements xs = record { trees = []; are = λ ws. refl; tail = tail_none xs }

elements_then : {xs ys zs : List Lexeme} {us vs : List Value} → Elements xs ys us → Elements ys zs vs → Elements xs zs (us ++ vs)
elements_then {xs = xs} {zs = zs} {us = us} {vs = vs} a b = record {
  trees = a.trees ++ b.trees;
  are = λ ws. ap (collected as_element) (append_assoc us vs ws) ∙ (a.are (vs ++ ws) ∙ (ap (λ es. a.trees ++ es) (b.are ws) ∙ sym (append_assoc a.trees b.trees (collected as_element ws))));
  tail = subst (Tail xs zs) (sym (flat_map-append element_formulas a.trees b.trees)) (tail_then a.tail b.tail);
}

sign_element : (x : Lexeme) {xs ys : List Lexeme} {v : Value} → role_of x.terminal ≡ roles.Other → ScansElement xs ys v → Elements (x ∷ xs) ys (token x ∷ v ∷ [])
sign_element x {xs = xs} {ys = ys} e p = record {
  trees = p.tree ∷ [];
  are = λ ws. rw p.is refl;
  tail = subst (Tail (x ∷ xs) ys) (sym (append-nil (element_formulas p.tree))) (tail_formed x e p.formed);
}

sign_alone : (x : Lexeme) (xs : List Lexeme) → role_of x.terminal ≡ roles.Other → Elements (x ∷ xs) xs (token x ∷ [])
sign_alone x xs e = record { trees = []; are = λ ws. refl; tail = tail_formed x e (kept_alone {n = false} (kept_none xs)) }

elements_behind : {xs ys : List Lexeme} {vs : List Value} → Has (Star (Tok t.Semicolon ⨾ Call Name.Element)) xs ys vs → Elements xs ys vs
elements_behind (Reads.none {xs = xs}) = no_elements xs
elements_behind (Reads.more (Reads.seq (Reads.tok {t = x} e) (Reads.call m)) rest) = elements_then (sign_element x (ap role_of e) m) (elements_behind rest)

braces : {xs ys : List Lexeme} {vs : List Value} → Has (in_braces Name.Element) xs ys vs → Elements xs ys vs
braces (Reads.seq (Reads.tok {t = x} e) (Reads.seq (Reads.left (Reads.seq (Reads.call m) rest)) (Reads.tok {t = y} {ts = ys} f))) = elements_then (sign_element x (ap role_of e) m) (elements_then (elements_behind rest) (sign_alone y ys (ap role_of f)))
braces (Reads.seq (Reads.tok {t = x} {ts = xs} e) (Reads.seq (Reads.right Reads.empty) (Reads.tok {t = y} {ts = ys} f))) = elements_then (sign_alone x xs (ap role_of e)) (sign_alone y ys (ap role_of f))

-- the tokens before the elements
pub opening_kept : (s o c p : Lexeme) {xs ms ns : List Lexeme} {v w : Value} → s.terminal ≡ t.Statement → o.terminal ≡ t.Open → ScansName xs (c ∷ ms) v → c.terminal ≡ t.Comma → ScansKind ms (p ∷ ns) w → p.terminal ≡ t.Close → Kept false (s ∷ o ∷ xs) ns
opening_kept s o c p {xs = xs} {ms = ms} e f n g k h = kept_then (kept_token s (o ∷ xs) (rw e refl)) (grouped_kept (group o p (ap role_of f) (kept_then (name_kept n) (kept_then (kept_token c ms (rw g refl)) k.kept)) (ap role_of h)))

preference_made : (s o c p d : Lexeme) {xs ms ns zs : List Lexeme} {v w : Value} {vs : List Value} → s.terminal ≡ t.Statement → o.terminal ≡ t.Open → ScansName xs (c ∷ ms) v → c.terminal ≡ t.Comma → ScansKind ms (p ∷ ns) w → p.terminal ≡ t.Close → Elements ns (d ∷ zs) vs → d.terminal ≡ t.Dot → ScansStatement (s ∷ o ∷ xs) zs (made Name.Preference (token s ∷ token o ∷ v ∷ token c ∷ w ∷ token p ∷ (vs ++ (token d ∷ []))))
preference_made s o c p d {xs = xs} {ms = ms} {ns = ns} {zs = zs} {vs = vs} e f n g k h es i = rw (n.is, k.is) (record {
  same = refl;
  whole = subst (λ ts. Whole (s ∷ o ∷ xs) zs (flat_map element_formulas ts)) (sym (es.are (token d ∷ []) ∙ append-nil es.trees)) (whole_dot d (kept_formed (opening_kept s o c p e f n g k h) es.tail) (ap role_of i));
})

pub preference_scans : {xs ys : List Lexeme} {vs : List Value} → Has (rule_of Name.Preference) xs ys vs → ScansStatement xs ys (made Name.Preference vs)
preference_scans (Reads.seq (Reads.tok {t = s} e) (Reads.seq (Reads.tok {t = o} f) (Reads.seq (Reads.call n) (Reads.seq (Reads.tok {t = c} g) (Reads.seq (Reads.call k) (Reads.seq (Reads.tok {t = p} h) (Reads.seq b (Reads.tok {t = d} i)))))))) = preference_made s o c p d e f n g k h (braces b) i
