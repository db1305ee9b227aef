-- What a parse by `clap` gives, against what the words ask for.
use Rattle.std.proofs.Common.{◌≡◌, ◌∙◌, ◌&&◌, ◌||◌, ◌==◌, ℕ, Bool, cond, true, false, not, refl, sym, ap, subst, List, [], ◌∷◌, Option, Some, None}
use Rattle.std.specs.Prelude.{fold, option_map}
use Rattle.std.specs.List.{list_any}
use Rattle.std.specs.Option.{option_map_or}
use Rattle.std.specs.Str.{bytes_eq}
use Rattle.clap.specs.Kinds.{Kinds, or_else}
use Rattle.clap.specs.Walk.{Row, Text, Walk, finished, has_row, rows_after, settled, walk, arg_by_long, arg_by_short, idle, nothing_held, with_default}
use Rattle.clap.specs.Simple.{App, names_of, built, matches_of}
use Rattle.clap.specs.Faults.{built_fault, check_fault, default_fault, defaults_fault, fault_of, walk_fault}
use Rattle.clap.specs.Takes.{is_given}
use Rattle.clap.proofs.FaultLemmas.{leaf_fault}
use Rattle.asprin_words.specs.Commands.{app_for}
use Rattle.asprin_words.specs.Spelled.{Known, Sort, Use, file_name, flag, known_long, known_short, repeated, single, stand_once, taken_of, uses_of, values_of, where_once}
use Rattle.asprin_words.proofs.Walking.{Agrees, Bad, Finds, Found, IsKnown, Places, at, faults, file_rule, holds, leaves, or_else_nil, puts_fault, rule_for, rule_from, rules_for, settles, shape_for, takes, walk_agrees}
use Rattle.asprin_words.proofs.Rows.{clear_once, defaulted, is_clear, joined, look, look_defaults, look_puts}

-- ---- what the searches find

abbrev pub Every : (Known → Type 0) → List Known → Type 0
Every P [] = Unit {0}
Every P (k ∷ t) = P k × Every P t

abbrev pub ShortTakes : Option ℕ → Sort → Type 0
ShortTakes None sort = Unit {0}
ShortTakes (Some c) sort = takes sort

or_false : (b : Bool) → (b || false) ≡ b
or_false true = refl
or_false false = refl

find_long : (t : List Known) (name : Text) → arg_by_long (rules_for t) name ≡ option_map rule_for (known_long t name)
find_long [] name = refl
find_long (k ∷ t) name = ap (λ b. cond b (Some (rule_for k)) (arg_by_long (rules_for t) name)) (or_false (option_map_or (λ s. bytes_eq s name) k.long false))
    ∙ go (option_map_or (λ s. bytes_eq s name) k.long false) (find_long t name)
  where
    go : (b : Bool) → arg_by_long (rules_for t) name ≡ option_map rule_for (known_long t name)
        → cond b (Some (rule_for k)) (arg_by_long (rules_for t) name) ≡ option_map rule_for (cond b (Some k) (known_long t name))
    go true ih = refl
    go false ih = ih

find_short : (t : List Known) (c : ℕ) → arg_by_short (rules_for t) c ≡ option_map rule_for (known_short t c)
find_short [] c = refl
find_short (k ∷ t) c = ap (λ b. cond b (Some (rule_for k)) (arg_by_short (rules_for t) c)) (or_false (option_map_or (λ s. s == c) k.short false))
    ∙ go (option_map_or (λ s. s == c) k.short false) (find_short t c)
  where
    go : (b : Bool) → arg_by_short (rules_for t) c ≡ option_map rule_for (known_short t c)
        → cond b (Some (rule_for k)) (arg_by_short (rules_for t) c) ≡ option_map rule_for (cond b (Some k) (known_short t c))
    go true ih = refl
    go false ih = ih

long_every : (P : Known → Type 0) (t : List Known) (name : Text) → Every P t → Found P (known_long t name)
long_every P [] name h = tt
long_every P (k ∷ t) name h = go (option_map_or (λ s. bytes_eq s name) k.long false) (long_every P t name h.1)
  where
    go : (b : Bool) → Found P (known_long t name) → Found P (cond b (Some k) (known_long t name))
    go true ih = h.0
    go false ih = ih

short_every : (P : Known → Type 0) (t : List Known) (c : ℕ) → Every (λ k. ShortTakes k.short k.sort × P k) t → Found (λ k. takes k.sort × P k) (known_short t c)
short_every P [] c h = tt
short_every P (k ∷ t) c h = go k.short h.0.0 (short_every P t c h.1)
  where
    by_test : (b : Bool) → takes k.sort → Found (λ x. takes x.sort × P x) (known_short t c) → Found (λ x. takes x.sort × P x) (cond b (Some k) (known_short t c))
    by_test true one ih = (one, h.0.1)
    by_test false one ih = ih

    go : (o : Option ℕ) → ShortTakes o k.sort → Found (λ x. takes x.sort × P x) (known_short t c)
        → Found (λ x. takes x.sort × P x) (cond (option_map_or (λ s. s == c) o false) (Some k) (known_short t c))
    go None one ih = ih
    go (Some s) one ih = by_test (s == c) one ih

-- a list of options that `clap` can search: each is found by its name, is no positional, and no flag is a letter
pub record Fits (t : List Known) : Type 0 where
  pub each : Every (λ k. ShortTakes k.short k.sort × IsKnown t k) t
  pub places : Places t
  pub built_is : built (app_for t) ≡ record { top = shape_for t; subs = [] }

drop_first : (P Q : Known → Type 0) (t : List Known) → Every (λ k. P k × Q k) t → Every Q t
drop_first P Q [] h = tt
drop_first P Q (k ∷ t) h = (h.0.1, drop_first P Q t h.1)

finds : (t : List Known) → Fits t → Finds t
finds t fits = record {
  long = find_long t;
  short = find_short t;
  long_known = λ name. long_every (IsKnown t) t name (drop_first (λ k. ShortTakes k.short k.sort) (IsKnown t) t fits.each);
  short_known = λ c. short_every (IsKnown t) t c fits.each;
}

-- ---- behind the walk

abbrev no_kinds : Kinds
no_kinds = []

both_nil : (b : Bool) → cond b no_kinds no_kinds ≡ no_kinds
both_nil true = refl
both_nil false = refl

default_ends : (rows : List Row) (name : Text) (long : Option Text) (short : Option ℕ) (sort : Sort) → default_fault rows (rule_from name long short sort) ≡ []
default_ends rows name long short flag = both_nil (has_row name rows || false)
default_ends rows name long short single = both_nil (has_row name rows || true)
default_ends rows name long short repeated = both_nil (has_row name rows || true)

defaults_end : (t : List Known) (rows : List Row) → defaults_fault rows (rules_for t) ≡ []
unfolding defaults_fault
defaults_end [] rows = or_else_nil (default_fault rows file_rule) ∙ both_nil (has_row file_name rows || true)
defaults_end (k ∷ t) rows = ap (λ x. or_else x (defaults_fault (with_default rows (rule_for k)) (rules_for t))) (default_ends rows k.name k.long k.short k.sort)
    ∙ defaults_end t (with_default rows (rule_for k))

none_required : (t : List Known) (rows : List Row) → list_any (λ a. a.required && not (is_given a.id rows)) (rules_for t) ≡ false
none_required [] rows = refl
none_required (k ∷ t) rows = none_required t rows

check_ends : (t : List Known) (rows : List Row) → check_fault (shape_for t) rows false ≡ []
check_ends t rows = rw (none_required t rows) refl

-- ---- the whole parse

abbrev start : Walk
start = at (holds [] None) idle

fault_is : (t : List Known) (words : List Text) → Fits t → fault_of (app_for t) words ≡ faults t start words
fault_is t words fits =
    let W = walk_fault (shape_for t) [] start words in
    let S = settles t (walk (rules_for t) [] nothing_held words).held in
    let end = (walk (rules_for t) [] nothing_held words).held in
    ap (λ (a : App). built_fault a nothing_held words) fits.built_is
    ∙ leaf_fault (record { top = shape_for t; subs = [] }) nothing_held words refl
    ∙ ap (λ x. or_else W (or_else S (or_else x (check_fault (shape_for t) (finished (rules_for t) end) false)))) (defaults_end t (settled (rules_for t) end).rows)
    ∙ ap (λ x. or_else W (or_else S x)) (check_ends t (finished (rules_for t) end))
    ∙ ap (or_else W) (or_else_nil S)

rows_are : (t : List Known) (words : List Text) → Fits t → matches_of (app_for t) words ≡ fold with_default (leaves t start words) (rules_for t)
rows_are t words fits = ap (λ (a : App). rows_after a.top.rules (names_of a) words) fits.built_is

agrees : (t : List Known) (words : List Text) → Fits t → Agrees t [] [] (uses_of t words) (faults t start words) (leaves t start words)
agrees t words fits = (walk_agrees t (finds t fits) fits.places words).0 false [] None

-- what the rows of a parse hold of each name
abbrev pub Shows : List Known → List Use → List Row → Type 0
Shows t us rows = (name : Text) → look name rows ≡ defaulted name t (joined None (values_of name us))

-- the words ask for something, and the rows show it
abbrev pub Parsed : List Known → List Text → List Row → Type 0
Parsed t words rows = (us : List Use) × (taken_of t words ≡ Some us) × Shows t us rows

pub parsed : (t : List Known) (words : List Text) → Fits t → fault_of (app_for t) words ≡ [] → Parsed t words (matches_of (app_for t) words)
parsed t words fits none = go (uses_of t words) refl (agrees t words fits)
  where
    total : faults t start words ≡ []
    total = sym (fault_is t words fits) ∙ none

    go : (o : Option (List Use)) → uses_of t words ≡ o → Agrees t [] [] o (faults t start words) (leaves t start words) → Parsed t words (matches_of (app_for t) words)
    go None is h = absurd (subst Bad total h)
    go (Some us) is h =
        let clean : puts_fault [] us ≡ [] = sym h.0 ∙ total in
        let once : stand_once us ≡ true = sym (clear_once us) ∙ ap is_clear clean in (
          us,
          ap where_once is ∙ ap (λ b. cond b (Some us) None) once,
          λ name.
              ap (look name) (rows_are t words fits) ∙ look_defaults name t (leaves t start words) ∙ ap (λ (r : List Row). defaulted name t (look name r)) h.1
              ∙ ap (defaulted name t) (look_puts name us [] clean),
        )

pub unparsed : (t : List Known) (words : List Text) → Fits t → Bad (fault_of (app_for t) words) → taken_of t words ≡ None
unparsed t words fits bad = go (uses_of t words) refl (agrees t words fits)
  where
    total : Bad (faults t start words)
    total = subst Bad (fault_is t words fits) bad

    unclear : (a : Kinds) → Bad a → is_clear a ≡ false
    unclear [] h = absurd h
    unclear (k ∷ ks) h = refl

    go : (o : Option (List Use)) → uses_of t words ≡ o → Agrees t [] [] o (faults t start words) (leaves t start words) → taken_of t words ≡ None
    go None is h = ap where_once is
    go (Some us) is h =
        let twice : stand_once us ≡ false = sym (clear_once us) ∙ unclear (puts_fault [] us) (subst Bad h.0 total) in
        ap where_once is ∙ ap (λ b. cond b (Some us) None) twice
