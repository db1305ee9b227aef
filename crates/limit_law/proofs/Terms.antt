-- Terms keep the levels around them, and an atom is a member of depth 1.
use Rattle.std.proofs.Common.{None, arith, ◌≡◌, ℕ, ◌≤◌, subst, sym, Bool, true, false, List, [], ◌∷◌, refl, ap, ◌∙◌}
use Rattle.std.specs.Prelude.{◌&&◌}
use Rattle.std.proofs.lemmas.Bool.{and_parts}
use Rattle.grammar.specs.Form.{◌⨾◌, ◌∣◌}
use Rattle.grammar.specs.Form.Form.{Tok, Call, Empty, Seq, Alt, Star, Then}
use Rattle.grammar.proofs.Interpret.{Reads}
use Rattle.ap_grammar.specs.declared.terminals.Terminal.TheVariants as t
use Rattle.ap_grammar.specs.Lexemes.{Lexeme}
use Rattle.ap_grammar.specs.Values.{Value, as_target}
use Rattle.ap_grammar.specs.Values.Value.{token}
use Rattle.ap_grammar.specs.Grammar.{Name, Rhs, grammar, made, many, rule_of}
use Rattle.ap_lexemes.specs.declared.role.Role.TheVariants as roles
use Rattle.ap_lexemes.specs.Limits.{Levels, depth_of, role_of}
use Rattle.limit_law.specs.Depths.{scan}
use Rattle.limit_law.proofs.Quiet.{Quiet, Silent, silent, silent_is}
use Rattle.limit_law.proofs.Last.{last_behind, last_one}
use Rattle.limit_law.proofs.Scanning.{Bare, Keeps, Kept, bare_depth, bare_member, kept_more, after_is, around, group, grouped_kept, is_flat, kept_none, kept_then, kept_token, tokens_then}
use Rattle.limit_law.proofs.Scans.{Scans, ScansArguments, ScansAtom, ScansKind, ScansName, named}

abbrev pub Has : Rhs → List Lexeme → List Lexeme → List Value → Type 0
Has a xs ys vs = Reads grammar Scans a xs ys vs

-- ---- forms with no parentheses of their own

-- the rules that keep the levels around them, with `not` or without
abbrev is_inner : Bool → Name → Bool
is_inner n Name.Ident = true
is_inner n Name.Arguments = true
is_inner n Name.Atom = true
is_inner n Name.Term = true
is_inner n Name.Sum = true
is_inner n Name.Product = true
is_inner n Name.Unary = true
is_inner n Name.Primary = true
is_inner n Name.Kind = true
is_inner n Name.Constant = n
is_inner n Name.Head = n
is_inner n Name.LeftGuard = n
is_inner n Name.RightGuard = n
is_inner n Name.ChoiceElement = n
is_inner n Name.Condition = n
is_inner n Name.Literals = n
is_inner n Name.Literal = n
is_inner n Name.Body = n
is_inner n Name.OpenItem = n
is_inner n Name.Conditional = n
is_inner n Name.Aggregate = n
is_inner n Name.AggElement = n
is_inner n Name.Relation = n
is_inner n name = false

abbrev pub is_open_free : Bool → Rhs → Bool
is_open_free n (Tok k) = is_flat n (role_of k)
is_open_free n (Call name) = is_inner n name
is_open_free n Empty = true
is_open_free n (Seq a b) = is_open_free n a && is_open_free n b
is_open_free n (Alt a b) = is_open_free n a && is_open_free n b
is_open_free n (Star a) = is_open_free n a
is_open_free n (Then a b) = false

pub name_kept : {n : Bool} {xs ys : List Lexeme} {v : Value} → ScansName xs ys v → Kept n xs ys
name_kept {ys = ys} s = rw s.tokens (kept_token s.name ys (rw s.role refl))

keeps_atom : (k : ℕ) (s : Levels) (read : List Lexeme) → scan s read ≡ named s → (depth_of (named s).level ≤ 64 → Quiet s read) → Bare k s.level → Keeps k s read
keeps_atom k s read e q b =
    let c = bare_member k 1 s.level (omega arith) b in
    record { outer = ap (λ (t : Levels). t.outer) e; bare = subst (λ (t : Levels). Bare k t.level) (sym e) c; quiet = q (bare_depth k (named s).level c) }

atom_kept : {n : Bool} {xs ys : List Lexeme} {v : Value} → ScansAtom xs ys v → Kept n xs ys
atom_kept a = record { read = a.read; tokens = a.tokens; keeps = λ k s h b. keeps_atom k s a.read (a.scans s) (a.quiet s) b }

with_not : (n : Bool) (xs ys : List Lexeme) → n ≡ true → Kept true xs ys → Kept n xs ys
with_not n xs ys h m = subst (λ b. Kept b xs ys) (sym h) m

call_kept : (n : Bool) (name : Name) (xs ys : List Lexeme) (v : Value) → is_inner n name ≡ true → Scans name xs ys v → Kept n xs ys
call_kept n Name.Ident xs ys v h m = name_kept m
call_kept n Name.Arguments xs ys v h m = grouped_kept m.grouped
call_kept n Name.Atom xs ys v h m = atom_kept m
call_kept n Name.Term xs ys v h m = kept_more n m.0
call_kept n Name.Sum xs ys v h m = kept_more n m
call_kept n Name.Product xs ys v h m = kept_more n m
call_kept n Name.Unary xs ys v h m = kept_more n m
call_kept n Name.Primary xs ys v h m = kept_more n m
call_kept n Name.Kind xs ys v h m = kept_more n m.kept
call_kept n Name.Constant xs ys v h m = with_not n xs ys h m
call_kept n Name.Head xs ys v h m = with_not n xs ys h m
call_kept n Name.LeftGuard xs ys v h m = with_not n xs ys h m
call_kept n Name.RightGuard xs ys v h m = with_not n xs ys h m
call_kept n Name.ChoiceElement xs ys v h m = with_not n xs ys h m
call_kept n Name.Condition xs ys v h m = with_not n xs ys h m
call_kept n Name.Literals xs ys v h m = with_not n xs ys h m
call_kept n Name.Literal xs ys v h m = with_not n xs ys h m
call_kept n Name.Body xs ys v h m = with_not n xs ys h m
call_kept n Name.OpenItem xs ys v h m = with_not n xs ys h m
call_kept n Name.Conditional xs ys v h m = with_not n xs ys h m
call_kept n Name.Aggregate xs ys v h m = with_not n xs ys h m
call_kept n Name.AggElement xs ys v h m = with_not n xs ys h m
call_kept n Name.Relation xs ys v h m = with_not n xs ys h m
call_kept n name xs ys v h m = absurd cc

pub form_kept : {n : Bool} {a : Rhs} {xs ys : List Lexeme} {vs : List Value} → is_open_free n a ≡ true → Has a xs ys vs → Kept n xs ys
form_kept h (Reads.tok {t = x} {ts = xs} e) = kept_token x xs (rw e h)
form_kept {n = n} h (Reads.call {n = name} m) = call_kept n name _ _ _ h m
form_kept h (Reads.empty {xs = xs}) = kept_none xs
form_kept {n = n} h (Reads.seq {a = a} {b = b} d e) = let p = and_parts (is_open_free n a) (is_open_free n b) h in kept_then (form_kept p.0 d) (form_kept p.1 e)
form_kept {n = n} h (Reads.left {a = a} {b = b} d) = form_kept (and_parts (is_open_free n a) (is_open_free n b) h).0 d
form_kept {n = n} h (Reads.right {a = a} {b = b} d) = form_kept (and_parts (is_open_free n a) (is_open_free n b) h).1 d
form_kept h (Reads.none {xs = xs}) = kept_none xs
form_kept h (Reads.more d e) = kept_then (form_kept h d) (form_kept h e)
form_kept h (Reads.followed d e) = cc

no_target : (vs : List Value) → as_target (made Name.Term vs) ≡ None
no_target (Value.term first name x ∷ []) = refl
no_target (Value.term first name x ∷ Value.token dots ∷ Value.term other second y ∷ []) = refl
no_target vs = refl

pub term_scans : {xs ys : List Lexeme} {vs : List Value} → Has (rule_of Name.Term) xs ys vs → Kept false xs ys × (as_target (made Name.Term vs) ≡ None)
term_scans {vs = vs} d = (form_kept refl d, no_target vs)

pub sum_scans : {xs ys : List Lexeme} {vs : List Value} → Has (rule_of Name.Sum) xs ys vs → Kept false xs ys
sum_scans d = form_kept refl d

pub product_scans : {xs ys : List Lexeme} {vs : List Value} → Has (rule_of Name.Product) xs ys vs → Kept false xs ys
product_scans d = form_kept refl d

pub unary_scans : {xs ys : List Lexeme} {vs : List Value} → Has (rule_of Name.Unary) xs ys vs → Kept false xs ys
unary_scans d = form_kept refl d

-- ---- parentheses

abbrev groups_rule : Rhs
groups_rule = Tok t.Open ⨾ Call Name.Term ⨾ Tok t.Close
    ∣ Tok t.Open ⨾ Tok t.Close
    ∣ Tok t.Open ⨾ Call Name.Term ⨾ Tok t.Comma ⨾ Tok t.Close
    ∣ Tok t.Open ⨾ Call Name.Term ⨾ Tok t.Comma ⨾ many (Call Name.Term) t.Comma ⨾ Tok t.Close

parens : (x y : Lexeme) {xs ys : List Lexeme} → x.terminal ≡ t.Open → Kept false xs (y ∷ ys) → y.terminal ≡ t.Close → Kept false (x ∷ xs) ys
parens x y e k f = grouped_kept (group x y (ap role_of e) k (ap role_of f))

pub primary_scans : {xs ys : List Lexeme} {vs : List Value} → Has (rule_of Name.Primary) xs ys vs → Kept false xs ys
primary_scans (Reads.left d) = form_kept refl d
primary_scans (Reads.right (Reads.left d)) = form_kept refl d
primary_scans (Reads.right (Reads.right (Reads.left d))) = form_kept refl d
primary_scans (Reads.right (Reads.right (Reads.right (Reads.left d)))) = form_kept refl d
primary_scans (Reads.right (Reads.right (Reads.right (Reads.right (Reads.left d))))) = form_kept refl d
primary_scans (Reads.right (Reads.right (Reads.right (Reads.right (Reads.right d))))) = groups d
  where
    groups : {xs ys : List Lexeme} {vs : List Value} → Has groups_rule xs ys vs → Kept false xs ys
    groups (Reads.left (Reads.seq (Reads.tok {t = x} e) (Reads.seq (Reads.call m) (Reads.tok {t = y} f)))) = parens x y e m.0 f
    groups (Reads.right (Reads.left (Reads.seq (Reads.tok {t = x} e) (Reads.tok {t = y} {ts = ys} f)))) = parens x y e (kept_none (y ∷ ys)) f
    groups (Reads.right (Reads.right (Reads.left (Reads.seq (Reads.tok {t = x} e) (Reads.seq (Reads.call m) (Reads.seq (Reads.tok {t = s} {ts = ts} g) (Reads.tok {t = y} f))))))) = parens x y e (kept_then m.0 (kept_token s ts (rw g refl))) f
    groups (Reads.right (Reads.right (Reads.right (Reads.seq (Reads.tok {t = x} e) (Reads.seq (Reads.call m) (Reads.seq (Reads.tok {t = s} {ts = ts} g) (Reads.seq d (Reads.tok {t = y} f)))))))) = parens x y e (kept_then m.0 (kept_then (kept_token s ts (rw g refl)) (form_kept refl d))) f

pub arguments_scans : {xs ys : List Lexeme} {vs : List Value} → Has (rule_of Name.Arguments) xs ys vs → ScansArguments xs ys (made Name.Arguments vs)
arguments_scans {vs = vs} (Reads.seq (Reads.tok {t = x} e) (Reads.seq d (Reads.tok {t = y} f))) = record { members = _; is = refl; grouped = group x y (ap role_of e) (form_kept refl d) (ap role_of f) }

-- ---- names and atoms

pub name_scans : {xs ys : List Lexeme} {vs : List Value} → Has (rule_of Name.Ident) xs ys vs → ScansName xs ys (made Name.Ident vs)
name_scans (Reads.left (Reads.tok {t = x} e)) = record { name = x; is = refl; tokens = refl; role = ap role_of e }
name_scans (Reads.right (Reads.left (Reads.tok {t = x} e))) = record { name = x; is = refl; tokens = refl; role = ap role_of e }
name_scans (Reads.right (Reads.right (Reads.tok {t = x} e))) = record { name = x; is = refl; tokens = refl; role = ap role_of e }

-- the arguments are in parentheses, and the member before them stays as it is
closed_named : (s : Levels) (d : ℕ) (b : Bool) → s.level.negated ≡ b → around (named s) d ≡ named s
closed_named s d true e = rw e refl
closed_named s d false e = rw e refl

name_silent : (s : Levels) (x : Lexeme) → role_of x.terminal ≡ roles.Name → depth_of (named s).level ≤ 64 → Silent s (role_of x.terminal)
name_silent s x e h = silent_is s e (silent s roles.Name h)

bare_atom : {xs ys : List Lexeme} {v : Value} → ScansName xs ys v → ScansAtom xs ys (made Name.Atom (v ∷ []))
bare_atom n = rw n.is (record {
  first = n.name;
  tree = _;
  is = refl;
  read = n.name ∷ [];
  tokens = n.tokens;
  last = last_one n.name (rw n.role refl);
  scans = λ s. after_is s n.name n.role;
  quiet = λ s h. (name_silent s n.name n.role h, tt);
})

full_atom : {xs ys zs : List Lexeme} {v w : Value} → ScansName xs ys v → ScansArguments ys zs w → ScansAtom xs zs (made Name.Atom (v ∷ w ∷ []))
full_atom {zs = zs} n a = rw (n.is, a.is) (record {
  first = n.name;
  tree = _;
  is = refl;
  read = n.name ∷ a.grouped.read;
  tokens = tokens_then (n.name ∷ []) a.grouped.read zs n.tokens a.grouped.tokens;
  last = last_behind (n.name ∷ []) a.grouped.last;
  scans = λ s. ap (λ levels. scan levels a.grouped.read) (after_is s n.name n.role) ∙ (let g = a.grouped.groups (named s) in g.scanned ∙ closed_named s g.depth s.level.negated refl);
  quiet = λ s h.
      let g = a.grouped.groups (named s) in
      let same = closed_named s g.depth s.level.negated refl in
      (name_silent s n.name n.role h, subst (λ t. Quiet t a.grouped.read) (sym (after_is s n.name n.role)) (g.quiet (subst (λ (t : Levels). depth_of t.level ≤ 64) (sym same) h)));
})

pub atom_scans : {xs ys : List Lexeme} {vs : List Value} → Has (rule_of Name.Atom) xs ys vs → ScansAtom xs ys (made Name.Atom vs)
atom_scans (Reads.seq (Reads.call n) (Reads.left (Reads.call a))) = full_atom n a
atom_scans (Reads.seq (Reads.call n) (Reads.right Reads.empty)) = bare_atom n

-- ---- the kinds of preferences

bare_kind : {xs ys : List Lexeme} {v : Value} → ScansName xs ys v → ScansKind xs ys (made Name.Kind (v ∷ []))
bare_kind n = rw n.is (record { kind_is = _; is = refl; kept = name_kept n })

full_kind : (x y : Lexeme) {xs ys zs : List Lexeme} {v w : Value} → x.terminal ≡ t.Open → y.terminal ≡ t.Close → ScansName xs (x ∷ ys) v → ScansName ys (y ∷ zs) w → ScansKind xs zs (made Name.Kind (v ∷ token x ∷ w ∷ token y ∷ []))
full_kind x y e f n m = rw (n.is, m.is) (record { kind_is = _; is = refl; kept = kept_then (name_kept n) (parens x y e (name_kept m) f) })

pub kind_scans : {xs ys : List Lexeme} {vs : List Value} → Has (rule_of Name.Kind) xs ys vs → ScansKind xs ys (made Name.Kind vs)
kind_scans (Reads.seq (Reads.call n) (Reads.right Reads.empty)) = bare_kind n
kind_scans (Reads.seq (Reads.call n) (Reads.left (Reads.seq (Reads.tok {t = x} e) (Reads.seq (Reads.call m) (Reads.tok {t = y} f))))) = full_kind x y e f n m
