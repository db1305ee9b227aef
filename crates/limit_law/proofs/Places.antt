-- Where a formula stands inside a text: nothing of a formula stands at its level before it, and no `(` or `&` behind it.
use Rattle.std.proofs.Common.{◌≡◌, ◌≢◌, Bool, true, false, List, [], ◌∷◌, ◌++◌, refl, ap, sym, subst, ◌∙◌, append_assoc}
use Rattle.std.specs.Prelude.{◌&&◌, ◌||◌, not}
use Rattle.std.proofs.lemmas.Bool.{and_parts}
use Rattle.grammar.specs.Form.{Derives, ◌⨾◌, ◌∣◌}
use Rattle.grammar.specs.Form.Form.{Tok, Call, Empty, Seq, Alt, Star, Then}
use Rattle.ap_grammar.specs.declared.terminals.Terminal.{Terminal}
use Rattle.ap_grammar.specs.declared.terminals.Terminal.TheVariants as t
use Rattle.ap_grammar.specs.Grammar.{Name, Rhs, grammar, in_braces, many, rule_of}
use Rattle.ap_grammar.specs.Lexemes.{Lexeme}
use Rattle.ap_grammar.specs.Values.{Value}
use Rattle.ap_lexemes.specs.declared.levels.Level.{Level}
use Rattle.ap_lexemes.specs.declared.role.Role.{Role}
use Rattle.ap_lexemes.specs.declared.role.Role.TheVariants as roles
use Rattle.ap_lexemes.specs.Limits.{Levels, after, next_role, role_of}
use Rattle.limit_law.specs.Depths.{IsFresh, scan}
use Rattle.limit_law.specs.Inside.{Inside}
use Rattle.limit_law.proofs.Quiet.{scan_append}
use Rattle.limit_law.proofs.Tells.{fresh_ended, may_follow, no_and, no_open}
use Rattle.limit_law.proofs.Marked.{Marked, mark, tokens_of}

-- ---- what holds where a rule begins, and behind it

-- nothing of a conjunction stands at the level yet
pub record BeginsPart (l : Level) : Type 0 where
  pub conjunction : l.conjunction ≡ 0
  pub negated : l.negated ≡ false
  pub member : l.member ≡ 0

abbrev pub Begins : Name → Levels → Type 0
Begins Name.Element s = IsFresh s.level
Begins Name.Ranked s = IsFresh s.level
Begins Name.Target s = IsFresh s.level
Begins Name.Formula s = IsFresh s.level
Begins Name.Conjunction s = BeginsPart s.level
Begins n s = Unit {0}

abbrev pub Follows : Name → List Lexeme → Type 0
Follows Name.Element ys = may_follow (next_role ys) ≡ true
Follows Name.Given ys = may_follow (next_role ys) ≡ true
Follows Name.Ranked ys = may_follow (next_role ys) ≡ true
Follows Name.Target ys = may_follow (next_role ys) ≡ true
Follows Name.Formula ys = may_follow (next_role ys) ≡ true
Follows Name.Conjunction ys = next_role ys ≢ roles.Open
Follows n ys = Unit {0}

-- the rule n stands in these tokens, from `us` up to `vs`
pub record Place (n : Name) (us vs : List Lexeme) (s : Levels) (xs : List Lexeme) : Type 0 where
  pub before : List Lexeme
  pub tokens : xs ≡ before ++ us
  pub begins : Begins n (scan s before)
  pub follows : Follows n vs

-- the rules in which formulas of preferences stand
abbrev pub has_formulas : Name → Bool
has_formulas (Name.Text whole of_type) = true
has_formulas (Name.BaseSection whole) = true
has_formulas (Name.TypeSection whole) = true
has_formulas (Name.Statement whole of_type) = true
has_formulas (Name.One of_type) = true
has_formulas Name.Preference = true
has_formulas Name.Element = true
has_formulas Name.Given = true
has_formulas Name.Ranked = true
has_formulas Name.Target = true
has_formulas Name.Formula = true
has_formulas Name.Conjunction = true
has_formulas Name.Member = true
has_formulas n = false

abbrev PlacedIf : Bool → Name → List Lexeme → List Lexeme → Name → List Lexeme → List Lexeme → Type 0
PlacedIf true n us vs m xs ys = (s : Levels) → Begins m s → Follows m ys → Place n us vs s xs
PlacedIf false n us vs m xs ys = ⊥

abbrev pub Placed : Name → List Lexeme → List Lexeme → Name → List Lexeme → List Lexeme → Type 0
Placed n us vs m xs ys = PlacedIf (has_formulas m) n us vs m xs ys

abbrev Has : Name → List Lexeme → List Lexeme → Rhs → List Lexeme → List Lexeme → Type 0
Has n us vs a xs ys = Marked grammar (Placed n us vs) a xs ys

-- ---- forms in which none stands

abbrev is_plain : Rhs → Bool
is_plain (Tok k) = true
is_plain (Call n) = not (has_formulas n)
is_plain Empty = true
is_plain (Seq a b) = is_plain a && is_plain b
is_plain (Alt a b) = is_plain a && is_plain b
is_plain (Star a) = is_plain a
is_plain (Then a b) = false

not_placed : (b : Bool) (n m : Name) (us vs xs ys : List Lexeme) → not b ≡ true → PlacedIf b n us vs m xs ys → ⊥
not_placed true n m us vs xs ys h p = cc
not_placed false n m us vs xs ys h p = p

none_in : {n : Name} {us vs : List Lexeme} {a : Rhs} {xs ys : List Lexeme} → is_plain a ≡ true → Has n us vs a xs ys → ⊥
none_in {n = n} {us = us} {vs = vs} h (Marked.at {n = m} {xs = xs} {ys = ys} p) = not_placed (has_formulas m) n m us vs xs ys h p
none_in h (Marked.first {a = a} {b = b} i d) = none_in (and_parts (is_plain a) (is_plain b) h).0 i
none_in h (Marked.second {a = a} {b = b} d i) = none_in (and_parts (is_plain a) (is_plain b) h).1 i
none_in h (Marked.left {a = a} {b = b} i) = none_in (and_parts (is_plain a) (is_plain b) h).0 i
none_in h (Marked.right {a = a} {b = b} i) = none_in (and_parts (is_plain a) (is_plain b) h).1 i
none_in h (Marked.item i d) = none_in h i
none_in h (Marked.later d i) = none_in h i
none_in h (Marked.start c i d) = cc
none_in h (Marked.finish c d i) = cc

-- ---- places behind other tokens

place_then : {n : Name} {us vs : List Lexeme} (s : Levels) (read : List Lexeme) {xs ys : List Lexeme} → xs ≡ read ++ ys → Place n us vs (scan s read) ys → Place n us vs s xs
place_then {n = n} {us = us} s read e p = record {
  before = read ++ p.before;
  tokens = e ∙ (ap (λ ts. read ++ ts) p.tokens ∙ sym (append_assoc read p.before us));
  begins = subst (Begins n) (sym (scan_append s read p.before)) p.begins;
  follows = p.follows;
}

behind : {n : Name} {us vs : List Lexeme} {a : Rhs} {xs ys : List Lexeme} {ws : List Value} → Derives grammar a xs ys ws → ((s : Levels) → Place n us vs s ys) → (s : Levels) → Place n us vs s xs
behind d f s = let front = tokens_of d in place_then s front.read front.tokens (f (scan s front.read))

-- behind forms in which none stands
skip : {n : Name} {us vs : List Lexeme} {a b : Rhs} {xs zs : List Lexeme} → is_plain a ≡ true → ((ys : List Lexeme) → Has n us vs b ys zs → (s : Levels) → Place n us vs s ys) → Has n us vs (Seq a b) xs zs → (s : Levels) → Place n us vs s xs
skip h f (Marked.first i d) s = absurd (none_in h i)
skip h f (Marked.second d i) s = behind d (f _ i) s

behind_token : {n : Name} {us vs : List Lexeme} (x : Lexeme) (r : Role) {xs : List Lexeme} (s : Levels) → role_of x.terminal ≡ r → Place n us vs (after s r) xs → Place n us vs s (x ∷ xs)
behind_token {n = n} {us = us} {vs = vs} x r {xs = xs} s e p = place_then s (x ∷ []) refl (subst (λ q. Place n us vs (after s q) xs) (sym e) p)

-- ---- what follows a formula

-- a token that may follow a formula
abbrev is_sign : Rhs → Bool
is_sign (Tok k) = may_follow (role_of k)
is_sign a = false

-- whether tokens of the form begin with one that may follow a formula, if there are any
abbrev ends_formulas : Rhs → Bool
ends_formulas (Tok k) = may_follow (role_of k)
ends_formulas (Call Name.Given) = true
ends_formulas (Call Name.Domain) = true
ends_formulas (Call n) = false
ends_formulas Empty = true
ends_formulas (Seq a b) = is_sign a || (ends_formulas a && ends_formulas b)
ends_formulas (Alt a b) = ends_formulas a && ends_formulas b
ends_formulas (Star a) = ends_formulas a
ends_formulas (Then a b) = false

opens_given : (n : Name) → ends_formulas (Call n) ≡ true → ends_formulas (rule_of n) ≡ true
opens_given Name.Given h = refl
opens_given Name.Domain h = refl
opens_given n h = cc

sign_first : {a : Rhs} {xs ys : List Lexeme} {ws : List Value} → is_sign a ≡ true → Derives grammar a xs ys ws → may_follow (next_role xs) ≡ true
sign_first h (Derives.tok {k = k} e) = subst (λ q. may_follow (role_of q) ≡ true) (sym e) h
sign_first h d = cc

either : {A : Type 0} (b c : Bool) → (b || c) ≡ true → (b ≡ true → A) → (c ≡ true → A) → A
either true c h f g = f refl
either false c h f g = g h

goes_on : {a : Rhs} {xs ys : List Lexeme} {ws : List Value} → ends_formulas a ≡ true → Derives grammar a xs ys ws → may_follow (next_role ys) ≡ true → may_follow (next_role xs) ≡ true
goes_on h (Derives.tok {k = k} e) f = subst (λ q. may_follow (role_of q) ≡ true) (sym e) h
goes_on h (Derives.call {n = n} d) f = goes_on (opens_given n h) d f
goes_on h Derives.empty f = f
goes_on h (Derives.seq {a = a} {b = b} d e) f = either (is_sign a) (ends_formulas a && ends_formulas b) h (λ i. sign_first i d) (λ i. let p = and_parts (ends_formulas a) (ends_formulas b) i in goes_on p.0 d (goes_on p.1 e f))
goes_on h (Derives.left {a = a} {b = b} d) f = goes_on (and_parts (ends_formulas a) (ends_formulas b) h).0 d f
goes_on h (Derives.right {a = a} {b = b} d) f = goes_on (and_parts (ends_formulas a) (ends_formulas b) h).1 d f
goes_on h Derives.none f = f
goes_on h (Derives.more d e) f = goes_on h d (goes_on h e f)
goes_on h (Derives.followed d e) f = cc

-- ---- texts and sections

statements_place : {n : Name} {us vs : List Lexeme} {whole of_type : Bool} {xs ys : List Lexeme} → Has n us vs (Star (Call (Name.Statement whole of_type))) xs ys → (s : Levels) → Place n us vs s xs
statements_place (Marked.item (Marked.at p) d) s = p s tt tt
statements_place (Marked.later d i) s = behind d (statements_place i) s

sections_place : {n : Name} {us vs : List Lexeme} {whole : Bool} {xs ys : List Lexeme} → Has n us vs (Star (Call (Name.BaseSection whole) ∣ Call (Name.TypeSection whole))) xs ys → (s : Levels) → Place n us vs s xs
sections_place (Marked.item (Marked.left (Marked.at p)) d) s = p s tt tt
sections_place (Marked.item (Marked.right (Marked.at p)) d) s = p s tt tt
sections_place (Marked.later d i) s = behind d (sections_place i) s

text_place : {n : Name} {us vs : List Lexeme} {whole of_type : Bool} {xs ys : List Lexeme} → Has n us vs (rule_of (Name.Text whole of_type)) xs ys → (s : Levels) → Place n us vs s xs
text_place (Marked.first i d) s = statements_place i s
text_place (Marked.second d i) s = behind d (sections_place i) s

statement_place : {n : Name} {us vs : List Lexeme} {of_type : Bool} {xs ys : List Lexeme} → Has n us vs (rule_of (Name.Statement true of_type)) xs ys → (s : Levels) → Place n us vs s xs
statement_place (Marked.left (Marked.at p)) s = p s tt tt
statement_place (Marked.right (Marked.left (Marked.at p))) s = p s tt tt
statement_place (Marked.right (Marked.right i)) s = absurd (none_in refl i)

one_place : {n : Name} {us vs : List Lexeme} {of_type : Bool} {xs ys : List Lexeme} → Has n us vs (rule_of (Name.One of_type)) xs ys → (s : Levels) → Place n us vs s xs
one_place (Marked.left (Marked.at p)) s = p s tt tt
one_place (Marked.right i) s = absurd (none_in refl i)

-- ---- elements of preference statements

pub other_fresh : (s : Levels) → IsFresh (after s roles.Other).level
other_fresh s = fresh_ended s.level.commas

-- what is asked of a rule that begins where no formula stands
abbrev Fresh : Name → List Lexeme → List Lexeme → Name → Type 0
Fresh n us vs m = (xs ys : List Lexeme) → Has n us vs (Call m) xs ys → (s : Levels) → IsFresh s.level → may_follow (next_role ys) ≡ true → Place n us vs s xs

more_place : {n : Name} {us vs : List Lexeme} {m : Name} {sign : Terminal} {xs ys : List Lexeme} → role_of sign ≡ roles.Other → ends_formulas (Star (Tok sign ⨾ Call m)) ≡ true → Fresh n us vs m → Has n us vs (Star (Tok sign ⨾ Call m)) xs ys → may_follow (next_role ys) ≡ true → (s : Levels) → Place n us vs s xs
more_place r h f (Marked.item (Marked.second (Derives.tok {t = x} e) i) d) b s = behind_token x roles.Other s (ap role_of e ∙ r) (f _ _ i (after s roles.Other) (other_fresh s) (goes_on h d b))
more_place r h f (Marked.item (Marked.first i e) d) b s = absurd (none_in refl i)
more_place r h f (Marked.later d i) b s = behind d (more_place r h f i b) s

many_place : {n : Name} {us vs : List Lexeme} {m : Name} {sign : Terminal} {xs ys : List Lexeme} → role_of sign ≡ roles.Other → ends_formulas (Star (Tok sign ⨾ Call m)) ≡ true → Fresh n us vs m → Has n us vs (many (Call m) sign) xs ys → may_follow (next_role ys) ≡ true → (s : Levels) → IsFresh s.level → Place n us vs s xs
many_place r h f (Marked.first i d) b s fresh = f _ _ i s fresh (goes_on h d b)
many_place r h f (Marked.second d i) b s fresh = behind d (more_place r h f i b) s

fresh_element : {n : Name} {us vs : List Lexeme} → Fresh n us vs Name.Element
fresh_element xs ys (Marked.at p) s h b = p s h b

fresh_ranked : {n : Name} {us vs : List Lexeme} → Fresh n us vs Name.Ranked
fresh_ranked xs ys (Marked.at p) s h b = p s h b

braces_place : {n : Name} {us vs : List Lexeme} {xs ys : List Lexeme} → Has n us vs (in_braces Name.Element) xs ys → (s : Levels) → Place n us vs s xs
braces_place (Marked.second (Derives.tok {t = x} e) (Marked.first (Marked.left i) d)) s = behind_token x roles.Other s (ap role_of e) (many_place refl refl fresh_element i (sign_first refl d) (after s roles.Other) (other_fresh s))
braces_place (Marked.second d (Marked.first (Marked.right i) e)) s = absurd (none_in refl i)
braces_place (Marked.second d (Marked.second e i)) s = absurd (none_in refl i)
braces_place (Marked.first i d) s = absurd (none_in refl i)

last_place : {n : Name} {us vs : List Lexeme} {xs ys : List Lexeme} → Has n us vs (in_braces Name.Element ⨾ Tok t.Dot) xs ys → (s : Levels) → Place n us vs s xs
last_place (Marked.first i d) s = braces_place i s
last_place (Marked.second d i) s = absurd (none_in refl i)

preference_place : {n : Name} {us vs : List Lexeme} {xs ys : List Lexeme} → Has n us vs (rule_of Name.Preference) xs ys → (s : Levels) → Place n us vs s xs
preference_place i = skip refl (λ ys. skip refl (λ ys. skip refl (λ ys. skip refl (λ ys. skip refl (λ ys. skip refl (λ ys. last_place)))))) i

element_place : {n : Name} {us vs : List Lexeme} {xs ys : List Lexeme} → Has n us vs (rule_of Name.Element) xs ys → (s : Levels) → IsFresh s.level → may_follow (next_role ys) ≡ true → Place n us vs s xs
element_place (Marked.first i d) s h b = many_place refl refl fresh_ranked i (goes_on refl d b) s h
element_place (Marked.second d (Marked.first (Marked.left (Marked.at p)) e)) s h b = behind d (λ u. p u tt (goes_on refl e b)) s
element_place (Marked.second d (Marked.first (Marked.right i) e)) s h b = absurd (none_in refl i)
element_place (Marked.second d (Marked.second e i)) s h b = absurd (none_in refl i)

given_place : {n : Name} {us vs : List Lexeme} {xs ys : List Lexeme} → Has n us vs (rule_of Name.Given) xs ys → (s : Levels) → may_follow (next_role ys) ≡ true → Place n us vs s xs
given_place (Marked.second (Derives.tok {t = x} e) (Marked.at p)) s b = behind_token x roles.Other s (ap role_of e) (p (after s roles.Other) (other_fresh s) b)
given_place (Marked.first i d) s b = absurd (none_in refl i)

ranked_place : {n : Name} {us vs : List Lexeme} {xs ys : List Lexeme} → Has n us vs (rule_of Name.Ranked) xs ys → (s : Levels) → IsFresh s.level → may_follow (next_role ys) ≡ true → Place n us vs s xs
ranked_place (Marked.first i d) s h b = absurd (none_in refl i)
ranked_place (Marked.second (Derives.left (Derives.seq d (Derives.tok {t = x} e))) (Marked.at p)) s h b = behind d (λ u. behind_token x roles.Other u (ap role_of e) (p (after u roles.Other) (other_fresh u) b)) s
ranked_place (Marked.second (Derives.right Derives.empty) (Marked.at p)) s h b = p s h b

target_place : {n : Name} {us vs : List Lexeme} {xs ys : List Lexeme} → Has n us vs (rule_of Name.Target) xs ys → (s : Levels) → IsFresh s.level → may_follow (next_role ys) ≡ true → Place n us vs s xs
target_place (Marked.left (Marked.at p)) s h b = p s h b
target_place (Marked.right i) s h b = absurd (none_in refl i)

-- ---- formulas

or_no_open : (r : Role) → r ≡ roles.Or → r ≢ roles.Open
or_no_open r e f = let no : roles.Or ≡ roles.Open = sym e ∙ f in cc

or_no_and : (r : Role) → r ≡ roles.Or → r ≢ roles.And
or_no_and r e f = let no : roles.Or ≡ roles.And = sym e ∙ f in cc

and_no_open : (r : Role) → r ≡ roles.And → r ≢ roles.Open
and_no_open r e f = let no : roles.And ≡ roles.Open = sym e ∙ f in cc

-- behind a conjunction, and behind a formula that may go on
pub further_no_open : {xs ys : List Lexeme} {ws : List Value} → Derives grammar (Star (Tok t.Or ⨾ Call Name.Conjunction)) xs ys ws → may_follow (next_role ys) ≡ true → next_role xs ≢ roles.Open
further_no_open (Derives.none {xs = xs}) b = no_open (next_role xs) b
further_no_open (Derives.more (Derives.seq (Derives.tok {t = x} e) d) rest) b = or_no_open (role_of x.terminal) (ap role_of e)

pub further_no_and : {xs ys : List Lexeme} {ws : List Value} → Derives grammar (Star (Tok t.Or ⨾ Call Name.Conjunction)) xs ys ws → may_follow (next_role ys) ≡ true → next_role xs ≢ roles.And
further_no_and (Derives.none {xs = xs}) b = no_and (next_role xs) b
further_no_and (Derives.more (Derives.seq (Derives.tok {t = x} e) d) rest) b = or_no_and (role_of x.terminal) (ap role_of e)

pub members_no_open : {xs ys : List Lexeme} {ws : List Value} → Derives grammar (Star (Tok t.And ⨾ Call Name.Member)) xs ys ws → next_role ys ≢ roles.Open → next_role xs ≢ roles.Open
members_no_open Derives.none n = n
members_no_open (Derives.more (Derives.seq (Derives.tok {t = x} e) d) rest) n = and_no_open (role_of x.terminal) (ap role_of e)

pub or_begins : (s : Levels) → BeginsPart (after s roles.Or).level
or_begins s = record { conjunction = refl; negated = refl; member = refl }

pub fresh_begins : (l : Level) → IsFresh l → BeginsPart l
fresh_begins l h = record { conjunction = h.conjunction; negated = h.negated; member = h.member }

conjunctions_place : {n : Name} {us vs : List Lexeme} {xs ys : List Lexeme} → Has n us vs (Star (Tok t.Or ⨾ Call Name.Conjunction)) xs ys → may_follow (next_role ys) ≡ true → (s : Levels) → Place n us vs s xs
conjunctions_place (Marked.item (Marked.second (Derives.tok {t = x} e) (Marked.at p)) d) b s = behind_token x roles.Or s (ap role_of e) (p (after s roles.Or) (or_begins s) (further_no_open d b))
conjunctions_place (Marked.item (Marked.first i e) d) b s = absurd (none_in refl i)
conjunctions_place (Marked.later d i) b s = behind d (conjunctions_place i b) s

formula_place : {n : Name} {us vs : List Lexeme} {xs ys : List Lexeme} → Has n us vs (rule_of Name.Formula) xs ys → (s : Levels) → IsFresh s.level → may_follow (next_role ys) ≡ true → Place n us vs s xs
formula_place (Marked.first (Marked.at p) d) s h b = p s (fresh_begins s.level h) (further_no_open d b)
formula_place (Marked.second d i) s h b = behind d (conjunctions_place i b) s

members_place : {n : Name} {us vs : List Lexeme} {xs ys : List Lexeme} → Has n us vs (Star (Tok t.And ⨾ Call Name.Member)) xs ys → (s : Levels) → Place n us vs s xs
members_place (Marked.item (Marked.second d (Marked.at p)) e) s = behind d (λ u. p u tt tt) s
members_place (Marked.item (Marked.first i e) d) s = absurd (none_in refl i)
members_place (Marked.later d i) s = behind d (members_place i) s

conjunction_place : {n : Name} {us vs : List Lexeme} {xs ys : List Lexeme} → Has n us vs (rule_of Name.Conjunction) xs ys → (s : Levels) → Place n us vs s xs
conjunction_place (Marked.first (Marked.at p) d) s = p s tt tt
conjunction_place (Marked.second d i) s = behind d (members_place i) s

group_place : {n : Name} {us vs : List Lexeme} {xs ys : List Lexeme} → Has n us vs (Call Name.Atom ∣ Tok t.Open ⨾ Call Name.Formula ⨾ Tok t.Close) xs ys → (s : Levels) → Place n us vs s xs
group_place (Marked.left i) s = absurd (none_in refl i)
group_place (Marked.right (Marked.first i d)) s = absurd (none_in refl i)
group_place (Marked.right (Marked.second (Derives.tok {t = x} e) (Marked.first (Marked.at p) d))) s = behind_token x roles.Open s (ap role_of e) (p (after s roles.Open) (fresh_ended 0) (sign_first refl d))
group_place (Marked.right (Marked.second d (Marked.second e i))) s = absurd (none_in refl i)

member_place : {n : Name} {us vs : List Lexeme} {xs ys : List Lexeme} → Has n us vs (rule_of Name.Member) xs ys → (s : Levels) → Place n us vs s xs
member_place i = skip refl (λ ys. group_place) i

-- ---- all rules

rule_place : {n : Name} {us vs : List Lexeme} (m : Name) (xs ys : List Lexeme) → Has n us vs (rule_of m) xs ys → Placed n us vs m xs ys
rule_place (Name.Text whole of_type) xs ys i = λ s b f. text_place i s
rule_place (Name.BaseSection whole) xs ys i = λ s b f. skip refl (λ ts. statements_place) i s
rule_place (Name.TypeSection whole) xs ys i = λ s b f. skip refl (λ ts. statements_place) i s
rule_place (Name.Statement false of_type) xs ys i = λ s b f. absurd (none_in refl i)
rule_place (Name.Statement true of_type) xs ys i = λ s b f. statement_place i s
rule_place (Name.One of_type) xs ys i = λ s b f. one_place i s
rule_place Name.Preference xs ys i = λ s b f. preference_place i s
rule_place Name.Element xs ys i = λ s b f. element_place i s b f
rule_place Name.Given xs ys i = λ s b f. given_place i s f
rule_place Name.Ranked xs ys i = λ s b f. ranked_place i s b f
rule_place Name.Target xs ys i = λ s b f. target_place i s b f
rule_place Name.Formula xs ys i = λ s b f. formula_place i s b f
rule_place Name.Conjunction xs ys i = λ s b f. conjunction_place i s
rule_place Name.Member xs ys i = λ s b f. member_place i s
rule_place (Name.Rule false) xs ys i = none_in refl i
rule_place (Name.Rule true) xs ys i = none_in refl i
rule_place m xs ys i = none_in refl i

disjunction_here : (us vs : List Lexeme) → Placed Name.Formula us vs Name.Formula us vs
disjunction_here us vs s b f = record { before = []; tokens = refl; begins = b; follows = f }

conjunction_here : (us vs : List Lexeme) → Placed Name.Conjunction us vs Name.Conjunction us vs
conjunction_here us vs s b f = record { before = []; tokens = refl; begins = b; follows = f }

placed_text : {n : Name} {us vs : List Lexeme} {whole of_type : Bool} {xs ys : List Lexeme} → Has n us vs (Call (Name.Text whole of_type)) xs ys → (s : Levels) → Place n us vs s xs
placed_text (Marked.at p) s = p s tt tt

pub formula_placed : {us vs : List Lexeme} {v : Value} {whole of_type : Bool} {xs ys : List Lexeme} {ws : List Value} → Inside grammar Name.Formula us vs v (Call (Name.Text whole of_type)) xs ys ws → (s : Levels) → Place Name.Formula us vs s xs
formula_placed {us = us} {vs = vs} i s = placed_text (mark rule_place (disjunction_here us vs) i) s

pub conjunction_placed : {us vs : List Lexeme} {v : Value} {whole of_type : Bool} {xs ys : List Lexeme} {ws : List Value} → Inside grammar Name.Conjunction us vs v (Call (Name.Text whole of_type)) xs ys ws → (s : Levels) → Place Name.Conjunction us vs s xs
conjunction_placed {us = us} {vs = vs} i s = placed_text (mark rule_place (conjunction_here us vs) i) s
