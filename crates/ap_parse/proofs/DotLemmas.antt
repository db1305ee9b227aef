-- A statement ends at its first `.`.
use Rattle.std.proofs.Common.{◌≡◌, Bool, true, false, List, [], ◌∷◌, ◌++◌, length, take, refl, sym, ap, ◌∙◌, append_assoc, arith}
use Rattle.std.specs.Prelude.{not, ◌&&◌}
use Rattle.std.specs.List.{list_all}
use Rattle.std.proofs.Math.Seq.{take-append_seam}
use Rattle.std.proofs.lemmas.Bool.{and_parts}
use Rattle.std.proofs.lemmas.List.Folds.{list_all-append}
use Rattle.grammar.specs.Fault.{IsText}
use Rattle.grammar.specs.Form.{Derives}
use Rattle.grammar.specs.Form.Form.{Tok, Call, Empty, Seq, Alt, Star, Then}
use Rattle.ap_grammar.specs.Grammar.{Name, Rhs, grammar, rule_of}
use Rattle.ap_grammar.specs.Lexemes.{Lexeme}
use Rattle.ap_grammar.specs.Values.{Value}
use Rattle.ap_parse.specs.Texts.{is_dot, statement_len, statement_of}

-- ---- rules that derive no `.`

abbrev is_inner : Name → Bool
is_inner (Name.Text w o) = false
is_inner (Name.BaseSection w) = false
is_inner (Name.TypeSection w) = false
is_inner Name.BaseOpening = false
is_inner Name.TypeOpening = false
is_inner (Name.Statement w o) = false
is_inner (Name.One o) = false
is_inner Name.Const = false
is_inner Name.Show = false
is_inner Name.Defined = false
is_inner (Name.Rule o) = false
is_inner Name.Preference = false
is_inner Name.Optimize = false
is_inner n = true

abbrev is_free : Rhs → Bool
is_free (Tok k) = not (is_dot k)
is_free (Call n) = is_inner n
is_free Empty = true
is_free (Seq a b) = is_free a && is_free b
is_free (Alt a b) = is_free a && is_free b
is_free (Star a) = is_free a
is_free (Then a b) = false

inner_free : (n : Name) → is_inner n ≡ true → is_free (rule_of n) ≡ true
inner_free (Name.Text w o) h = cc
inner_free (Name.BaseSection w) h = cc
inner_free (Name.TypeSection w) h = cc
inner_free Name.BaseOpening h = cc
inner_free Name.TypeOpening h = cc
inner_free (Name.Statement w o) h = cc
inner_free (Name.One o) h = cc
inner_free Name.Const h = cc
inner_free Name.Show h = cc
inner_free Name.Defined h = cc
inner_free (Name.Rule o) h = cc
inner_free Name.Preference h = cc
inner_free Name.Optimize h = cc
inner_free Name.Constant h = refl
inner_free Name.Head h = refl
inner_free Name.LeftGuard h = refl
inner_free Name.RightGuard h = refl
inner_free Name.ChoiceElement h = refl
inner_free Name.Condition h = refl
inner_free Name.Literals h = refl
inner_free Name.Literal h = refl
inner_free Name.Body h = refl
inner_free Name.OpenItem h = refl
inner_free Name.Conditional h = refl
inner_free Name.Aggregate h = refl
inner_free Name.AggElement h = refl
inner_free Name.Relation h = refl
inner_free Name.Atom h = refl
inner_free Name.Arguments h = refl
inner_free Name.Ident h = refl
inner_free Name.Term h = refl
inner_free Name.Sum h = refl
inner_free Name.Product h = refl
inner_free Name.Unary h = refl
inner_free Name.Primary h = refl
inner_free Name.Kind h = refl
inner_free Name.Element h = refl
inner_free Name.Given h = refl
inner_free Name.Domain h = refl
inner_free Name.Ranked h = refl
inner_free Name.Target h = refl
inner_free Name.Formula h = refl
inner_free Name.Conjunction h = refl
inner_free Name.Member h = refl

abbrev no_dots : List Lexeme → Bool
no_dots xs = list_all (λ x. not (is_dot x.terminal)) xs

-- the tokens between have no `.`
record Free (xs ys : List Lexeme) : Type 0 where
  front : List Lexeme
  is : xs ≡ front ++ ys
  free : no_dots front ≡ true

free_none : (xs : List Lexeme) → Free xs xs
free_none xs = record { front = []; is = refl; free = refl }

both_free : (xs ys : List Lexeme) → no_dots xs ≡ true → no_dots ys ≡ true → no_dots (xs ++ ys) ≡ true
both_free xs ys e f = list_all-append (λ x. not (is_dot x.terminal)) xs ys ∙ rw (e, f) refl

free_then : {xs ys zs : List Lexeme} → Free xs ys → Free ys zs → Free xs zs
free_then {zs = zs} a b = record { front = a.front ++ b.front; is = a.is ∙ ap (λ ts. a.front ++ ts) b.is ∙ sym (append_assoc a.front b.front zs); free = both_free a.front b.front a.free b.free }

derives_free : {a : Rhs} {xs ys : List Lexeme} {vs : List Value} → is_free a ≡ true → Derives grammar a xs ys vs → Free xs ys
derives_free h (Derives.tok {t = t} e) = record { front = t ∷ []; is = refl; free = rw e (rw h refl) }
derives_free h (Derives.call {n = n} d) = derives_free (inner_free n h) d
derives_free h (Derives.empty {xs = xs}) = free_none xs
derives_free h (Derives.seq {a = a} {b = b} d e) = let p = and_parts (is_free a) (is_free b) h in free_then (derives_free p.0 d) (derives_free p.1 e)
derives_free h (Derives.left {a = a} {b = b} d) = derives_free (and_parts (is_free a) (is_free b) h).0 d
derives_free h (Derives.right {a = a} {b = b} d) = derives_free (and_parts (is_free a) (is_free b) h).1 d
derives_free h (Derives.none {xs = xs}) = free_none xs
derives_free h (Derives.more d e) = free_then (derives_free h d) (derives_free h e)
derives_free h (Derives.followed d e) = cc

-- ---- statements

abbrev is_closing : Name → Bool
is_closing (Name.Statement false o) = true
is_closing (Name.One o) = true
is_closing Name.BaseOpening = true
is_closing Name.TypeOpening = true
is_closing Name.Const = true
is_closing Name.Show = true
is_closing Name.Defined = true
is_closing (Name.Rule o) = true
is_closing n = false

abbrev is_ended : Rhs → Bool
is_ended (Tok k) = is_dot k
is_ended (Call n) = is_closing n
is_ended Empty = false
is_ended (Seq a b) = is_free a && is_ended b
is_ended (Alt a b) = is_ended a && is_ended b
is_ended (Star a) = false
is_ended (Then a b) = false

closing_ended : (n : Name) → is_closing n ≡ true → is_ended (rule_of n) ≡ true
closing_ended (Name.Statement true o) h = cc
closing_ended (Name.Statement false o) h = refl
closing_ended (Name.One o) h = refl
closing_ended Name.BaseOpening h = refl
closing_ended Name.TypeOpening h = refl
closing_ended Name.Const h = refl
closing_ended Name.Show h = refl
closing_ended Name.Defined h = refl
closing_ended (Name.Rule true) h = refl
closing_ended (Name.Rule false) h = refl
closing_ended (Name.Text w o) h = cc
closing_ended (Name.BaseSection w) h = cc
closing_ended (Name.TypeSection w) h = cc
closing_ended Name.Preference h = cc
closing_ended Name.Optimize h = cc
closing_ended Name.Constant h = cc
closing_ended Name.Head h = cc
closing_ended Name.LeftGuard h = cc
closing_ended Name.RightGuard h = cc
closing_ended Name.ChoiceElement h = cc
closing_ended Name.Condition h = cc
closing_ended Name.Literals h = cc
closing_ended Name.Literal h = cc
closing_ended Name.Body h = cc
closing_ended Name.OpenItem h = cc
closing_ended Name.Conditional h = cc
closing_ended Name.Aggregate h = cc
closing_ended Name.AggElement h = cc
closing_ended Name.Relation h = cc
closing_ended Name.Atom h = cc
closing_ended Name.Arguments h = cc
closing_ended Name.Ident h = cc
closing_ended Name.Term h = cc
closing_ended Name.Sum h = cc
closing_ended Name.Product h = cc
closing_ended Name.Unary h = cc
closing_ended Name.Primary h = cc
closing_ended Name.Kind h = cc
closing_ended Name.Element h = cc
closing_ended Name.Given h = cc
closing_ended Name.Domain h = cc
closing_ended Name.Ranked h = cc
closing_ended Name.Target h = cc
closing_ended Name.Formula h = cc
closing_ended Name.Conjunction h = cc
closing_ended Name.Member h = cc

-- the tokens between have one `.`, at their end
record Ended (xs ys : List Lexeme) : Type 0 where
  front : List Lexeme
  dot : Lexeme
  is : xs ≡ front ++ (dot ∷ ys)
  free : no_dots front ≡ true
  ends : is_dot dot.terminal ≡ true

ended_then : {xs ys zs : List Lexeme} → Free xs ys → Ended ys zs → Ended xs zs
ended_then {zs = zs} a b = record { front = a.front ++ b.front; dot = b.dot; is = a.is ∙ ap (λ ts. a.front ++ ts) b.is ∙ sym (append_assoc a.front b.front (b.dot ∷ zs)); free = both_free a.front b.front a.free b.free; ends = b.ends }

derives_ended : {a : Rhs} {xs ys : List Lexeme} {vs : List Value} → is_ended a ≡ true → Derives grammar a xs ys vs → Ended xs ys
derives_ended h (Derives.tok {t = t} e) = record { front = []; dot = t; is = refl; free = refl; ends = rw e h }
derives_ended h (Derives.call {n = n} d) = derives_ended (closing_ended n h) d
derives_ended h Derives.empty = cc
derives_ended h (Derives.seq {a = a} {b = b} d e) = let p = and_parts (is_free a) (is_ended b) h in ended_then (derives_free p.0 d) (derives_ended p.1 e)
derives_ended h (Derives.left {a = a} {b = b} d) = derives_ended (and_parts (is_ended a) (is_ended b) h).0 d
derives_ended h (Derives.right {a = a} {b = b} d) = derives_ended (and_parts (is_ended a) (is_ended b) h).1 d
derives_ended h Derives.none = cc
derives_ended h (Derives.more d e) = cc
derives_ended h (Derives.followed d e) = cc

-- no `.` is the first token, so the statement ends later
later : (x : Lexeme) (xs ys : List Lexeme) (b : Bool) → is_dot x.terminal ≡ b → not b ≡ true → statement_len xs ≡ length ys → statement_len (x ∷ xs) ≡ length (x ∷ ys)
later x xs ys true g h e = cc
later x xs ys false g h e = rw (g, e) (omega arith)

len_at_dot : (front rest : List Lexeme) (dot : Lexeme) → no_dots front ≡ true → is_dot dot.terminal ≡ true → statement_len (front ++ (dot ∷ rest)) ≡ length (front ++ (dot ∷ []))
len_at_dot [] rest dot e f = rw f refl
len_at_dot (x ∷ front) rest dot e f =
    let p = and_parts (not (is_dot x.terminal)) (no_dots front) e in
    later x (front ++ (dot ∷ rest)) (front ++ (dot ∷ [])) (is_dot x.terminal) refl p.0 (len_at_dot front rest dot p.1 f)

-- what stands behind the first `.` of a statement is no part of it
pub one_front : {of_type : Bool} {read : List Lexeme} (rest : List Lexeme) {v : Value} → IsText grammar (Name.One of_type) read v → statement_of (read ++ rest) ≡ read
one_front {read = read} rest d = by_end (derives_ended refl d)
  where
    by_end : Ended read [] → statement_of (read ++ rest) ≡ read
    by_end e =
        let whole : read ++ rest ≡ e.front ++ (e.dot ∷ rest) = ap (λ ts. ts ++ rest) e.is ∙ append_assoc e.front (e.dot ∷ []) rest in
        let len : statement_len (read ++ rest) ≡ length read = ap statement_len whole ∙ len_at_dot e.front rest e.dot e.free e.ends ∙ sym (ap length e.is) in
        ap (λ n. take n (read ++ rest)) len ∙ take-append_seam read rest
