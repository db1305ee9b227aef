-- The forms of tokens at examples.
use Rattle.std.proofs.Common.{◌≡◌, true, false, [], refl, codes}
use Rattle.ap_lex.specs.Forms.{is_gap, is_token}
use Rattle.ap_lex.specs.declared.token.Kind.TheVariants.{Num, Ident, Not, Var, Any, Str, Directive, Sign}

-- ---- numbers

zero : is_token Num (codes "0") (codes ".") ≡ true
zero = refl

greatest : is_token Num (codes "2147483647") [] ≡ true
greatest = refl

too_great : is_token Num (codes "2147483648") [] ≡ false
too_great = refl

leading_zero : is_token Num (codes "01") [] ≡ false
leading_zero = refl

zero_before_a_digit : is_token Num (codes "0") (codes "1") ≡ false
zero_before_a_digit = refl

front_of_a_number : is_token Num (codes "214748364") (codes "8") ≡ false
front_of_a_number = refl

before_a_letter : is_token Num (codes "1") (codes "a") ≡ true
before_a_letter = refl

no_digits : is_token Num [] [] ≡ false
no_digits = refl

-- ---- words

identifier : is_token Ident (codes "__x'1_Z") [] ≡ true
identifier = refl

digit_first : is_token Ident (codes "_1a") [] ≡ false
digit_first = refl

not_is_no_identifier : is_token Ident (codes "not") [] ≡ false
not_is_no_identifier = refl

longer_than_not : is_token Ident (codes "not'") [] ≡ true
longer_than_not = refl

the_word_not : is_token Not (codes "not") (codes "a") ≡ true
the_word_not = refl

variable : is_token Var (codes "_Not") [] ≡ true
variable = refl

small_first : is_token Var (codes "nOT") [] ≡ false
small_first = refl

any_variable : is_token Any (codes "_") (codes ",") ≡ true
any_variable = refl

before_another : is_token Any (codes "_") (codes "_") ≡ false
before_another = refl

before_an_apostrophe : is_token Any (codes "_") (codes "'") ≡ false
before_an_apostrophe = refl

two_underscores : is_token Any (codes "__") [] ≡ false
two_underscores = refl

-- ---- strings

empty_string : is_token Str (codes "\"\"") [] ≡ true
empty_string = refl

escapes : is_token Str (codes "\"a\\\\b\\\"\\n%*\"") (codes "\"") ≡ true
escapes = refl

other_escape : is_token Str (codes "\"\\t\"") [] ≡ false
other_escape = refl

escaped_end : is_token Str (codes "\"a\\\"") [] ≡ false
escaped_end = refl

line_feed_inside : is_token Str (codes "\"\n\"") [] ≡ false
line_feed_inside = refl

quote_inside : is_token Str (codes "\"a\"b\"") [] ≡ false
quote_inside = refl

open_string : is_token Str (codes "\"a") [] ≡ false
open_string = refl

-- ---- directives and signs

directive : is_token Directive (codes "#show") [] ≡ true
directive = refl

number_sign_alone : is_token Directive (codes "#") [] ≡ false
number_sign_alone = refl

capital_in_a_directive : is_token Directive (codes "#showX") [] ≡ false
capital_in_a_directive = refl

rule_sign : is_token Sign (codes ":-") [] ≡ true
rule_sign = refl

backslash : is_token Sign (codes "\\") [] ≡ true
backslash = refl

block_comment : is_token Sign (codes "%*") [] ≡ true
block_comment = refl

bang_alone : is_token Sign (codes "!") [] ≡ false
bang_alone = refl

percent_alone : is_token Sign (codes "%") [] ≡ false
percent_alone = refl

brackets : is_token Sign (codes "[") [] ≡ false
brackets = refl

three_dots : is_token Sign (codes "...") [] ≡ false
three_dots = refl

no_sign : is_token Sign [] [] ≡ false
no_sign = refl

-- ---- blanks and comments

blank : is_gap (codes "\t") (codes "a") ≡ true
blank = refl

two_blanks : is_gap (codes "  ") [] ≡ false
two_blanks = refl

comment : is_gap (codes "% a \" %*") (codes "\na") ≡ true
comment = refl

comment_at_the_end : is_gap (codes "%") [] ≡ true
comment_at_the_end = refl

front_of_a_comment : is_gap (codes "% a") (codes "b") ≡ false
front_of_a_comment = refl

percent_before_a_star : is_gap (codes "%") (codes "*") ≡ false
percent_before_a_star = refl

block_comment_is_none : is_gap (codes "%*") [] ≡ false
block_comment_is_none = refl

over_two_lines : is_gap (codes "%a\nb") [] ≡ false
over_two_lines = refl
