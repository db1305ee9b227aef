-- Formulas come to the depth of their trees.
use Rattle.std.proofs.Common.{append_assoc, ◌≡◌, ℕ, ◌+◌, ◌≤◌, Bool, true, false, List, [], ◌∷◌, ◌++◌, map, refl, sym, ap, subst, ◌∙◌, arith}
use Rattle.std.specs.Prelude.{fold, max}
use Rattle.grammar.specs.Form.{◌⨾◌}
use Rattle.grammar.specs.Form.Form.{Tok, Call, Star}
use Rattle.std.proofs.lemmas.List.{append-nil}
use Rattle.grammar.proofs.Interpret.{Reads}
use Rattle.ap_syntax.specs.declared.preferences.Formula.{Formula as FormulaTree}
use Rattle.ap_syntax.specs.declared.preferences.Formula.TheVariants as formulas
use Rattle.ap_grammar.specs.declared.terminals.Terminal.TheVariants as t
use Rattle.ap_grammar.specs.Lexemes.{Lexeme}
use Rattle.ap_grammar.specs.Values.{Value, as_formula, collected}
use Rattle.ap_grammar.specs.Values.Value.{formula, token}
use Rattle.ap_grammar.specs.Grammar.{Name, conjunction_of, disjunction_of, made, rule_of}
use Rattle.ap_lexemes.specs.declared.levels.Level.{Level}
use Rattle.ap_lexemes.specs.declared.role.Role.{Role}
use Rattle.ap_lexemes.specs.declared.role.Role.TheVariants.{And, Or}
use Rattle.ap_lexemes.specs.Limits.{Levels, after, conjunction_depth, depth_of, joined, member_depth, role_of}
use Rattle.limit_law.specs.Depths.{IsFresh, capped, depth, scan}
use Rattle.limit_law.proofs.Numbers.{deeper_capped, joined_capped, member_in_bounds, right_in_bounds, shallower, within_capped}
use Rattle.limit_law.proofs.Trees.{of_atom, of_conjunction, of_disjunction, of_not}
use Rattle.limit_law.proofs.Quiet.{Quiet, Silent, quiet_then, scan_append, silent_and, silent_is, silent_not, silent_or}
use Rattle.limit_law.proofs.Last.{Last, last_behind}
use Rattle.limit_law.proofs.Scanning.{after_is, around, group_tokens, inside, last_close, quiet_group, scan_group, tokens_then}
use Rattle.limit_law.proofs.Scans.{BehindConjunction, BehindDisjunction, ConjunctionDepth, DisjunctionDepth, MemberDepth, ScansAtom, ScansFormula, at}
use Rattle.limit_law.proofs.Terms.{Has}

-- ---- members

-- an atom or a formula in parentheses, behind `not` or without it
abbrev PartDepth : List Lexeme → ℕ → Type 0
PartDepth read k = (c d e : ℕ) (n : Bool) (os : List Level) → scan (at c d e n 0 os) read ≡ at c d e n (member_depth n (capped k)) os

abbrev PartQuiet : List Lexeme → ℕ → Type 0
PartQuiet read k = (c d e : ℕ) (n : Bool) (os : List Level) → joined d (joined e (member_depth n (capped k))) ≤ 64 → Quiet (at c d e n 0 os) read

record Part (xs ys : List Lexeme) (f : FormulaTree) : Type 0 where
  read : List Lexeme
  tokens : xs ≡ read ++ ys
  last : Last read
  positive : 1 ≤ depth f
  scans : PartDepth read (depth f)
  quiet : PartQuiet read (depth f)

atom_part : {xs ys : List Lexeme} {v : Value} (a : ScansAtom xs ys v) → Part xs ys (formulas.Atom a.tree)
atom_part a = record {
  read = a.read;
  tokens = a.tokens;
  last = a.last;
  positive = rw (of_atom a.tree) (omega arith);
  scans = subst (PartDepth a.read) (sym (of_atom a.tree)) (λ c d e n os. a.scans (at c d e n 0 os));
  quiet = subst (PartQuiet a.read) (sym (of_atom a.tree)) (λ c d e n os h. a.quiet (at c d e n 0 os) h);
}

inner_in_bounds : (d e : ℕ) (n : Bool) (k : ℕ) → joined d (joined e (member_depth n (capped k))) ≤ 64 → k ≤ 64
inner_in_bounds d e n k h = member_in_bounds n k (right_in_bounds e (member_depth n (capped k)) (right_in_bounds d (joined e (member_depth n (capped k))) h))

inner_depth : {read : List Lexeme} {k c : ℕ} {os : List Level} {s : Levels} → BehindDisjunction read k c os s → depth_of (scan s read).level ≡ capped k
inner_depth b = ap (λ (l : Levels). depth_of l.level) b.scanned ∙ b.total

group_part : (x y : Lexeme) {xs ys : List Lexeme} {v : Value} → x.terminal ≡ t.Open → (p : ScansFormula DisjunctionDepth xs (y ∷ ys) v) → y.terminal ≡ t.Close → Part (x ∷ xs) ys p.tree
group_part x y {ys = ys} h p i = record {
  read = x ∷ (p.read ++ (y ∷ []));
  tokens = group_tokens x y p.read ys p.tokens;
  last = last_close x y p.read (ap role_of i);
  positive = p.positive;
  scans = λ c d e n os. between (at c d e n 0 os) (p.scans.behind 0 ((at c d e n 0 os).level ∷ os));
  quiet = λ c d e n os j. quiet_between (at c d e n 0 os) (p.scans.behind 0 ((at c d e n 0 os).level ∷ os)) j (p.scans.quiet 0 ((at c d e n 0 os).level ∷ os) (inner_in_bounds d e n (depth p.tree) j));
}
  where
    between : (s : Levels) → BehindDisjunction p.read (depth p.tree) 0 (s.level ∷ s.outer) (inside s) → scan s (x ∷ (p.read ++ (y ∷ []))) ≡ around s (capped (depth p.tree))
    between s b = scan_group s x y p.read (ap role_of h) (ap role_of i) (ap (λ (l : Levels). l.outer) b.scanned) ∙ ap (around s) (inner_depth b)

    quiet_between : (s : Levels) → BehindDisjunction p.read (depth p.tree) 0 (s.level ∷ s.outer) (inside s) → depth_of (around s (capped (depth p.tree))).level ≤ 64 → Quiet (inside s) p.read → Quiet s (x ∷ (p.read ++ (y ∷ [])))
    quiet_between s b j q = quiet_group s x y p.read (ap role_of h) (ap role_of i) (ap (λ (l : Levels). l.outer) b.scanned) (subst (λ k. depth_of (around s k).level ≤ 64) (sym (inner_depth b)) j) q

member_alone : (first : Lexeme) {xs ys : List Lexeme} {f : FormulaTree} → Part xs ys f → ScansFormula MemberDepth xs ys (formula first f)
member_alone first p = record {
  first = first;
  tree = _;
  is = refl;
  read = p.read;
  tokens = p.tokens;
  last = p.last;
  positive = p.positive;
  scans = record { behind = λ c d e os. (false, p.scans c d e false os); quiet = λ c d e os h. p.quiet c d e false os h };
}

-- `not` adds one
under_not : (x : Lexeme) (read : List Lexeme) (k : ℕ) → x.terminal ≡ t.Not → PartDepth read k → PartQuiet read k → MemberDepth (x ∷ read) (k + 1)
under_not x read k h p q = record {
  behind = λ c d e os. (true, ap (λ s. scan s read) (after_is (at c d e false 0 os) x (ap role_of h)) ∙ (p c d e true os ∙ ap (λ m. at c d e true m os) (deeper_capped k)));
  quiet = λ c d e os i. (
    silent_is (at c d e false 0 os) (ap role_of h) (silent_not (at c d e false 0 os)),
    subst (λ s. Quiet s read) (sym (after_is (at c d e false 0 os) x (ap role_of h))) (q c d e true os (subst (λ m. joined d (joined e m) ≤ 64) (sym (deeper_capped k)) i)),
  );
}

member_not : (x : Lexeme) {xs ys : List Lexeme} {f : FormulaTree} → x.terminal ≡ t.Not → Part xs ys f → ScansFormula MemberDepth (x ∷ xs) ys (formula x (formulas.Not f))
member_not x {f = f} h p = record {
  first = x;
  tree = formulas.Not f;
  is = refl;
  read = x ∷ p.read;
  tokens = ap (λ ts. x ∷ ts) p.tokens;
  last = last_behind (x ∷ []) p.last;
  positive = rw (of_not f) (omega arith);
  scans = subst (MemberDepth (x ∷ p.read)) (sym (of_not f)) (under_not x p.read (depth f) h p.scans p.quiet);
}

not_atom : (x : Lexeme) {xs ys : List Lexeme} {v : Value} → x.terminal ≡ t.Not → ScansAtom xs ys v → ScansFormula MemberDepth (x ∷ xs) ys (made Name.Member (token x ∷ v ∷ []))
not_atom x h a = rw a.is (member_not x h (atom_part a))

not_group : (x p c : Lexeme) {xs ys : List Lexeme} {v : Value} → x.terminal ≡ t.Not → p.terminal ≡ t.Open → ScansFormula DisjunctionDepth xs (c ∷ ys) v → c.terminal ≡ t.Close → ScansFormula MemberDepth (x ∷ p ∷ xs) ys (made Name.Member (token x ∷ token p ∷ v ∷ token c ∷ []))
not_group x p c h e f g = rw f.is (member_not x h (group_part p c e f g))

atom_alone : {xs ys : List Lexeme} {v : Value} → ScansAtom xs ys v → ScansFormula MemberDepth xs ys (made Name.Member (v ∷ []))
atom_alone a = rw a.is (member_alone a.first (atom_part a))

group_alone : (p c : Lexeme) {xs ys : List Lexeme} {v : Value} → p.terminal ≡ t.Open → ScansFormula DisjunctionDepth xs (c ∷ ys) v → c.terminal ≡ t.Close → ScansFormula MemberDepth (p ∷ xs) ys (made Name.Member (token p ∷ v ∷ token c ∷ []))
group_alone p c e f g = rw f.is (member_alone p (group_part p c e f g))

pub member_scans : {xs ys : List Lexeme} {vs : List Value} → Has (rule_of Name.Member) xs ys vs → ScansFormula MemberDepth xs ys (made Name.Member vs)
member_scans (Reads.seq (Reads.left (Reads.tok {t = x} e)) (Reads.left (Reads.call m))) = not_atom x e m
member_scans (Reads.seq (Reads.left (Reads.tok {t = x} e)) (Reads.right (Reads.seq (Reads.tok {t = p} f) (Reads.seq (Reads.call m) (Reads.tok {t = c} g))))) = not_group x p c e f m g
member_scans (Reads.seq (Reads.right Reads.empty) (Reads.left (Reads.call m))) = atom_alone m
member_scans (Reads.seq (Reads.right Reads.empty) (Reads.right (Reads.seq (Reads.tok {t = p} f) (Reads.seq (Reads.call m) (Reads.tok {t = c} g))))) = group_alone p c f m g

-- ---- conjunctions

abbrev chain_from : ℕ → List FormulaTree → ℕ
chain_from k fs = fold (λ left right. max left right + 1) k (map depth fs)

chain_more : (k : ℕ) (fs : List FormulaTree) → k ≤ chain_from k fs
chain_more k [] = omega arith
chain_more k (f ∷ fs) = let h : max k (depth f) + 1 ≤ chain_from (max k (depth f) + 1) fs = chain_more (max k (depth f) + 1) fs in omega (arith, h)

chain_positive : (k : ℕ) (fs : List FormulaTree) → 1 ≤ k → 1 ≤ chain_from k fs
chain_positive k fs h = omega (arith, h, chain_more k fs)

-- the members behind the first one
record Members (xs ys : List Lexeme) (vs : List Value) : Type 0 where
  trees : List FormulaTree
  are : collected as_formula vs ≡ trees
  read : List Lexeme
  tokens : xs ≡ read ++ ys
  last : (before : List Lexeme) → Last before → Last (before ++ read)
  scans : (c d e m k : ℕ) (n : Bool) (os : List Level) → 1 ≤ k → joined e m ≡ capped k → BehindConjunction read (chain_from k trees) c d os (at c d e n m os)
  quiet : (c d e m k : ℕ) (n : Bool) (os : List Level) → 1 ≤ k → joined e m ≡ capped k → joined d (capped (chain_from k trees)) ≤ 64 → Quiet (at c d e n m os) read

no_members : (xs : List Lexeme) → Members xs xs []
no_members xs = record {
  trees = [];
  are = refl;
  read = [];
  tokens = refl;
  last = λ before l. subst Last (sym (append-nil before)) l;
  scans = λ c d e m k n os h i. record { conjunction = e; negated = n; member = m; scanned = refl; total = i };
  quiet = λ c d e m k n os h i j. tt;
}

conjunction_then : (a b : List Lexeme) (k c d : ℕ) (os : List Level) (s s' : Levels) → scan s a ≡ s' → BehindConjunction b k c d os s' → BehindConjunction (a ++ b) k c d os s
conjunction_then a b k c d os s s' e r = record { conjunction = r.conjunction; negated = r.negated; member = r.member; scanned = scan_append s a b ∙ (ap (λ l. scan l b) e ∙ r.scanned); total = r.total }

behind_and : (x : Lexeme) (c d e m k : ℕ) (n : Bool) (os : List Level) → x.terminal ≡ t.And → joined e m ≡ capped k → after (at c d e n m os) (role_of x.terminal) ≡ at c d (capped k) false 0 os
behind_and x c d e m k n os h i = after_is (at c d e n m os) x (ap role_of h) ∙ ap (λ e. at c d e false 0 os) i

-- a token that is silent, and what stands behind it
sign_then : (x : Lexeme) (r : Role) (read : List Lexeme) (s t : Levels) → role_of x.terminal ≡ r → Silent s r → after s (role_of x.terminal) ≡ t → Quiet t read → Quiet s (x ∷ read)
sign_then x r read s t e h i q = (silent_is s e h, subst (λ u. Quiet u read) (sym i) q)

more_members : (x : Lexeme) {xs ys zs : List Lexeme} {v : Value} {vs : List Value} → x.terminal ≡ t.And → ScansFormula MemberDepth xs ys v → Members ys zs vs → Members (x ∷ xs) zs (token x ∷ v ∷ vs)
more_members x {zs = zs} h p r = record {
  trees = p.tree ∷ r.trees;
  are = rw p.is (ap (λ fs. p.tree ∷ fs) r.are);
  read = x ∷ (p.read ++ r.read);
  tokens = ap (λ ts. x ∷ ts) (tokens_then p.read r.read zs p.tokens r.tokens);
  last = λ before l. subst Last (append_assoc before (x ∷ p.read) r.read) (r.last (before ++ (x ∷ p.read)) (last_behind before (last_behind (x ∷ []) p.last)));
  scans = λ c d e m k n os i j.
      let q = p.scans.behind c d (capped k) os in
      conjunction_then (x ∷ p.read) r.read _ c d os (at c d e n m os) (at c d (capped k) q.0 (capped (depth p.tree)) os)
      (ap (λ l. scan l p.read) (behind_and x c d e m k n os h j) ∙ q.1)
      (r.scans c d (capped k) (capped (depth p.tree)) (max k (depth p.tree) + 1) q.0 os (omega arith) (joined_capped k (depth p.tree) i p.positive));
  quiet = λ c d e m k n os i j bound.
      let q = p.scans.behind c d (capped k) os in
      let both = joined_capped k (depth p.tree) i p.positive in
      let part = shallower d (max k (depth p.tree) + 1) (chain_from (max k (depth p.tree) + 1) r.trees) (chain_more (max k (depth p.tree) + 1) r.trees) (omega arith) bound in
      sign_then x And (p.read ++ r.read) (at c d e n m os) (at c d (capped k) false 0 os) (ap role_of h) (silent_and (at c d e n m os)) (behind_and x c d e m k n os h j)
      (quiet_then p.read r.read (at c d (capped k) false 0 os) (at c d (capped k) q.0 (capped (depth p.tree)) os) q.1
      (p.scans.quiet c d (capped k) os (subst (λ b. joined d b ≤ 64) (sym both) part))
      (r.quiet c d (capped k) (capped (depth p.tree)) (max k (depth p.tree) + 1) q.0 os (omega arith) both bound));
}

members_behind : {xs ys : List Lexeme} {vs : List Value} → Has (Star (Tok t.And ⨾ Call Name.Member)) xs ys vs → Members xs ys vs
members_behind (Reads.none {xs = xs}) = no_members xs
members_behind (Reads.more (Reads.seq (Reads.tok {t = x} e) (Reads.call m)) rest) = more_members x e m (members_behind rest)

chain_depths : {xs ys zs : List Lexeme} {v : Value} {vs : List Value} (p : ScansFormula MemberDepth xs ys v) (r : Members ys zs vs) → ConjunctionDepth (p.read ++ r.read) (chain_from (depth p.tree) r.trees)
chain_depths p r = record {
  behind = λ c d os. let q = p.scans.behind c d 0 os in conjunction_then p.read r.read _ c d os (at c d 0 false 0 os) _ q.1 (r.scans c d 0 (capped (depth p.tree)) (depth p.tree) q.0 os p.positive refl);
  quiet = λ c d os h.
      let q = p.scans.behind c d 0 os in
      quiet_then p.read r.read (at c d 0 false 0 os) _ q.1
      (p.scans.quiet c d 0 os (shallower d (depth p.tree) (chain_from (depth p.tree) r.trees) (chain_more (depth p.tree) r.trees) p.positive h))
      (r.quiet c d 0 (capped (depth p.tree)) (depth p.tree) q.0 os p.positive refl h);
}

conjunction_made : {xs ys zs : List Lexeme} {v : Value} {vs : List Value} → ScansFormula MemberDepth xs ys v → Members ys zs vs → ScansFormula ConjunctionDepth xs zs (made Name.Conjunction (v ∷ vs))
conjunction_made {zs = zs} p r = rw (p.is, r.are) (record {
  first = _;
  tree = conjunction_of (p.tree ∷ r.trees);
  is = refl;
  read = p.read ++ r.read;
  tokens = tokens_then p.read r.read zs p.tokens r.tokens;
  last = r.last p.read p.last;
  positive = rw (of_conjunction p.tree r.trees) (chain_positive (depth p.tree) r.trees p.positive);
  scans = subst (ConjunctionDepth (p.read ++ r.read)) (sym (of_conjunction p.tree r.trees)) (chain_depths p r);
})

pub conjunction_scans : {xs ys : List Lexeme} {vs : List Value} → Has (rule_of Name.Conjunction) xs ys vs → ScansFormula ConjunctionDepth xs ys (made Name.Conjunction vs)
conjunction_scans (Reads.seq (Reads.call m) rest) = conjunction_made m (members_behind rest)

-- ---- disjunctions

-- the conjunctions behind the first one
record Conjunctions (xs ys : List Lexeme) (vs : List Value) : Type 0 where
  trees : List FormulaTree
  are : collected as_formula vs ≡ trees
  read : List Lexeme
  tokens : xs ≡ read ++ ys
  last : (before : List Lexeme) → Last before → Last (before ++ read)
  scans : (c d e m k : ℕ) (n : Bool) (os : List Level) → 1 ≤ k → joined d (joined e m) ≡ capped k → BehindDisjunction read (chain_from k trees) c os (at c d e n m os)
  quiet : (c d e m k : ℕ) (n : Bool) (os : List Level) → 1 ≤ k → joined d (joined e m) ≡ capped k → chain_from k trees ≤ 64 → Quiet (at c d e n m os) read

no_conjunctions : (xs : List Lexeme) → Conjunctions xs xs []
no_conjunctions xs = record {
  trees = [];
  are = refl;
  read = [];
  tokens = refl;
  last = λ before l. subst Last (sym (append-nil before)) l;
  scans = λ c d e m k n os h i. record { disjunction = d; conjunction = e; negated = n; member = m; scanned = refl; total = i };
  quiet = λ c d e m k n os h i j. tt;
}

disjunction_then : (a b : List Lexeme) (k c : ℕ) (os : List Level) (s s' : Levels) → scan s a ≡ s' → BehindDisjunction b k c os s' → BehindDisjunction (a ++ b) k c os s
disjunction_then a b k c os s s' e r = record { disjunction = r.disjunction; conjunction = r.conjunction; negated = r.negated; member = r.member; scanned = scan_append s a b ∙ (ap (λ l. scan l b) e ∙ r.scanned); total = r.total }

behind_or : (x : Lexeme) (c d e m k : ℕ) (n : Bool) (os : List Level) → x.terminal ≡ t.Or → joined d (joined e m) ≡ capped k → after (at c d e n m os) (role_of x.terminal) ≡ at c (capped k) 0 false 0 os
behind_or x c d e m k n os h i = after_is (at c d e n m os) x (ap role_of h) ∙ ap (λ d. at c d 0 false 0 os) i

more_conjunctions : (x : Lexeme) {xs ys zs : List Lexeme} {v : Value} {vs : List Value} → x.terminal ≡ t.Or → ScansFormula ConjunctionDepth xs ys v → Conjunctions ys zs vs → Conjunctions (x ∷ xs) zs (token x ∷ v ∷ vs)
more_conjunctions x {zs = zs} h p r = record {
  trees = p.tree ∷ r.trees;
  are = rw p.is (ap (λ fs. p.tree ∷ fs) r.are);
  read = x ∷ (p.read ++ r.read);
  tokens = ap (λ ts. x ∷ ts) (tokens_then p.read r.read zs p.tokens r.tokens);
  last = λ before l. subst Last (append_assoc before (x ∷ p.read) r.read) (r.last (before ++ (x ∷ p.read)) (last_behind before (last_behind (x ∷ []) p.last)));
  scans = λ c d e m k n os i j.
      let q = p.scans.behind c (capped k) os in
      disjunction_then (x ∷ p.read) r.read _ c os (at c d e n m os) (at c (capped k) q.conjunction q.negated q.member os)
      (ap (λ l. scan l p.read) (behind_or x c d e m k n os h j) ∙ q.scanned)
      (r.scans c (capped k) q.conjunction q.member (max k (depth p.tree) + 1) q.negated os (omega arith) (ap (joined (capped k)) q.total ∙ joined_capped k (depth p.tree) i p.positive));
  quiet = λ c d e m k n os i j bound.
      let q = p.scans.behind c (capped k) os in
      let both = joined_capped k (depth p.tree) i p.positive in
      let part : max k (depth p.tree) + 1 ≤ 64 = omega (arith, bound, chain_more (max k (depth p.tree) + 1) r.trees) in
      sign_then x Or (p.read ++ r.read) (at c d e n m os) (at c (capped k) 0 false 0 os) (ap role_of h) (silent_or (at c d e n m os)) (behind_or x c d e m k n os h j)
      (quiet_then p.read r.read (at c (capped k) 0 false 0 os) (at c (capped k) q.conjunction q.negated q.member os) q.scanned
      (p.scans.quiet c (capped k) os (subst (λ b. b ≤ 64) (sym both) (within_capped (max k (depth p.tree) + 1) part)))
      (r.quiet c (capped k) q.conjunction q.member (max k (depth p.tree) + 1) q.negated os (omega arith) (ap (joined (capped k)) q.total ∙ both) bound));
}

conjunctions_behind : {xs ys : List Lexeme} {vs : List Value} → Has (Star (Tok t.Or ⨾ Call Name.Conjunction)) xs ys vs → Conjunctions xs ys vs
conjunctions_behind (Reads.none {xs = xs}) = no_conjunctions xs
conjunctions_behind (Reads.more (Reads.seq (Reads.tok {t = x} e) (Reads.call m)) rest) = more_conjunctions x e m (conjunctions_behind rest)

disjunction_depth : {xs ys zs : List Lexeme} {v : Value} {vs : List Value} (p : ScansFormula ConjunctionDepth xs ys v) (r : Conjunctions ys zs vs) → DisjunctionDepth (p.read ++ r.read) (chain_from (depth p.tree) r.trees)
disjunction_depth p r = record {
  behind = λ c os. let q = p.scans.behind c 0 os in disjunction_then p.read r.read _ c os (at c 0 0 false 0 os) _ q.scanned (r.scans c 0 q.conjunction q.member (depth p.tree) q.negated os p.positive q.total);
  quiet = λ c os h.
      let q = p.scans.behind c 0 os in
      quiet_then p.read r.read (at c 0 0 false 0 os) _ q.scanned
      (p.scans.quiet c 0 os (within_capped (depth p.tree) (omega (arith, h, chain_more (depth p.tree) r.trees))))
      (r.quiet c 0 q.conjunction q.member (depth p.tree) q.negated os p.positive q.total h);
}

disjunction_made : {xs ys zs : List Lexeme} {v : Value} {vs : List Value} → ScansFormula ConjunctionDepth xs ys v → Conjunctions ys zs vs → ScansFormula DisjunctionDepth xs zs (made Name.Formula (v ∷ vs))
disjunction_made {zs = zs} p r = rw (p.is, r.are) (record {
  first = _;
  tree = disjunction_of (p.tree ∷ r.trees);
  is = refl;
  read = p.read ++ r.read;
  tokens = tokens_then p.read r.read zs p.tokens r.tokens;
  last = r.last p.read p.last;
  positive = rw (of_disjunction p.tree r.trees) (chain_positive (depth p.tree) r.trees p.positive);
  scans = subst (DisjunctionDepth (p.read ++ r.read)) (sym (of_disjunction p.tree r.trees)) (disjunction_depth p r);
})

pub formula_scans : {xs ys : List Lexeme} {vs : List Value} → Has (rule_of Name.Formula) xs ys vs → ScansFormula DisjunctionDepth xs ys (made Name.Formula vs)
formula_scans (Reads.seq (Reads.call m) rest) = disjunction_made m (conjunctions_behind rest)

-- ---- a formula at a level

-- the levels behind a formula, and what stands at its tokens
pub record Behind (s : Levels) (read : List Lexeme) (f : FormulaTree) : Type 0 where
  pub level : depth_of (scan s read).level ≡ capped (depth f)
  pub outer : (scan s read).outer ≡ s.outer
  pub commas : (scan s read).level.commas ≡ s.level.commas
  pub last : Last read
  pub quiet : depth f ≤ 64 → Quiet s read

fresh_at : (c d e m : ℕ) (n : Bool) (os : List Level) → d ≡ 0 → e ≡ 0 → n ≡ false → m ≡ 0 → at c d e n m os ≡ at c 0 0 false 0 os
fresh_at c d e m n os f g h i = rw (f, g, h, i) refl

fresh_is : (s : Levels) → IsFresh s.level → s ≡ at s.level.commas 0 0 false 0 s.outer
fresh_is s h = fresh_at s.level.commas s.level.disjunction s.level.conjunction s.level.member s.level.negated s.outer h.disjunction h.conjunction h.negated h.member

pub behind_is : (s : Levels) {xs ys : List Lexeme} {v : Value} → IsFresh s.level → (p : ScansFormula DisjunctionDepth xs ys v) → Behind s p.read p.tree
behind_is s h p =
    let b = p.scans.behind s.level.commas s.outer in
    let e = ap (λ t. scan t p.read) (fresh_is s h) ∙ b.scanned in
    record {
      level = ap (λ (t : Levels). depth_of t.level) e ∙ b.total;
      outer = ap (λ (t : Levels). t.outer) e;
      commas = ap (λ (t : Levels). t.level.commas) e;
      last = p.last;
      quiet = λ i. subst (λ t. Quiet t p.read) (sym (fresh_is s h)) (p.scans.quiet s.level.commas s.outer i);
    }

-- ---- a conjunction at a level

conjunction_at : (c d e m : ℕ) (n : Bool) (os : List Level) → e ≡ 0 → n ≡ false → m ≡ 0 → at c d e n m os ≡ at c d 0 false 0 os
conjunction_at c d e m n os f g h = rw (f, g, h) refl

pub conjunction_is : (s : Levels) {xs ys : List Lexeme} {v : Value} → s.level.conjunction ≡ 0 → s.level.negated ≡ false → s.level.member ≡ 0 → (p : ScansFormula ConjunctionDepth xs ys v) → conjunction_depth (scan s p.read).level ≡ capped (depth p.tree)
conjunction_is s f g h p =
    let b = p.scans.behind s.level.commas s.level.disjunction s.outer in
    let e = ap (λ t. scan t p.read) (conjunction_at s.level.commas s.level.disjunction s.level.conjunction s.level.member s.level.negated s.outer f g h) ∙ b.scanned in
    ap (λ (t : Levels). conjunction_depth t.level) e ∙ b.total
