-- What the getters read of the matches of words.
use Rattle.std.proofs.Common.{◌≡◌, ◌≢◌, ◌∙◌, refl, sym, ap, subst, List, [], ◌∷◌, Option, Some, None, Result, Ok, Err, IfOk, codes}
use Rattle.std.specs.Prelude.{IfErr, find, option_and_then, option_map, slice_get}
use Rattle.std.specs.Str.{bytes_eq}
use Rattle.clap.specs.Faults.{fault_of}
use Rattle.clap.specs.Kinds.{Kinds}
use Rattle.clap.specs.Matches.{found_of}
use Rattle.clap.specs.Simple.{App, matches_of}
use Rattle.clap.specs.Walk.{Row, Text, all_of, first_of, rows_of}
use Rattle.clap.specs.declared.parser.matches.ArgMatches.{ArgMatches}
use Rattle.clap.specs.declared.parser.matches.Found.{Found}
use Rattle.clap.proofs.WalkLemmas.{first_value-rows, raw_values-rows}
use Rattle.asprin_words.specs.Commands.{app_for}
use Rattle.asprin_words.specs.Gives.{Answers, Gives, LedGives, HoldsAll, HoldsFlag, HoldsOne, listed, or_false_text}
use Rattle.asprin_words.specs.Options.{asprin_options, led_options}
use Rattle.asprin_words.specs.Spelled.{Known, Use, file_name, taken_of, values_of}
use Rattle.asprin_words.specs.declared.fault.WordsFault.{WordsFault}
use Rattle.asprin_words.specs.declared.fault.WordsFault.TheVariants.{Usage, Memory}
use Rattle.asprin_words.proofs.Parsing.{Fits, Shows, parsed, unparsed}
use Rattle.asprin_words.proofs.Rows.{Seen, flagged, joined, look}
use Rattle.asprin_words.proofs.Walking.{Bad}

first_seen : Option Seen → Option Text
first_seen o = option_and_then (λ (x : Seen). slice_get x.1 0) o

all_seen : Option Seen → Option (List Text)
all_seen o = option_map (λ (x : Seen). x.1) o

first_look : (name : Text) (rows : List Row) → first_of name rows ≡ first_seen (look name rows)
unfolding first_seen
first_look name rows = go (find (λ r. bytes_eq r.id name) rows)
  where
    go : (o : Option Row) → option_and_then (λ (r : Row). slice_get r.values 0) o ≡ option_and_then (λ (x : Seen). slice_get x.1 0) (option_map (λ (r : Row). (r.reading, r.values)) o)
    go None = refl
    go (Some r) = refl

all_look : (name : Text) (rows : List Row) → all_of name rows ≡ all_seen (look name rows)
unfolding all_seen
all_look name rows = go (find (λ r. bytes_eq r.id name) rows)
  where
    go : (o : Option Row) → option_map (λ (r : Row). r.values) o ≡ option_map (λ (x : Seen). x.1) (option_map (λ (r : Row). (r.reading, r.values)) o)
    go None = refl
    go (Some r) = refl

first_joined : (vs : List Text) → first_seen (joined None vs) ≡ slice_get vs 0
unfolding first_seen
first_joined [] = refl
first_joined (v ∷ vs) = refl

flag_joined : (vs : List Text) → first_seen (flagged (joined None vs)) ≡ or_false_text (slice_get vs 0)
unfolding first_seen
flag_joined [] = refl
flag_joined (v ∷ vs) = refl

all_joined : (vs : List Text) → all_seen (joined None vs) ≡ listed vs
unfolding all_seen
all_joined [] = refl
all_joined (v ∷ vs) = refl

one : (us : List Use) (m : ArgMatches) (name : Text) → look name (rows_of (found_of m)) ≡ joined None (values_of name us) → HoldsOne us (found_of m) name
one us m name is = first_value-rows (found_of m) name ∙ first_look name (rows_of (found_of m)) ∙ ap first_seen is ∙ first_joined (values_of name us)

flagged_one : (us : List Use) (m : ArgMatches) (name : Text) → look name (rows_of (found_of m)) ≡ flagged (joined None (values_of name us)) → HoldsFlag us (found_of m) name
flagged_one us m name is = first_value-rows (found_of m) name ∙ first_look name (rows_of (found_of m)) ∙ ap first_seen is ∙ flag_joined (values_of name us)

all : (us : List Use) (m : ArgMatches) (name : Text) → look name (rows_of (found_of m)) ≡ joined None (values_of name us) → HoldsAll us (found_of m) name
all us m name is = raw_values-rows (found_of m) name ∙ all_look name (rows_of (found_of m)) ∙ ap all_seen is ∙ all_joined (values_of name us)

pub gives : (us : List Use) (m : ArgMatches) → Shows asprin_options us (rows_of (found_of m)) → Gives us (found_of m)
gives us m shows = record {
  number = one us m (codes "n") (shows (codes "n"));
  sorted = flagged_one us m (codes "sorted") (shows (codes "sorted"));
  budget = one us m (codes "budget") (shows (codes "budget"));
  chains = one us m (codes "chains") (shows (codes "chains"));
  cert = one us m (codes "cert") (shows (codes "cert"));
  constants = all us m (codes "c") (shows (codes "c"));
  make = one us m (codes "make") (shows (codes "make"));
  binary = flagged_one us m (codes "binary") (shows (codes "binary"));
  audit = flagged_one us m (codes "audit") (shows (codes "audit"));
  files = all us m file_name (shows file_name);
}

pub led_gives : (us : List Use) (m : ArgMatches) → Shows led_options us (rows_of (found_of m)) → LedGives us (found_of m)
led_gives us m shows = record {
  constants = all us m (codes "c") (shows (codes "c"));
  files = all us m file_name (shows file_name);
}

-- a parse answers as the words say
pub matches_answer : (t : List Known) (fits : Fits t) (Holds : List Use → Found → Type 0) → ((us : List Use) (m : ArgMatches) → Shows t us (rows_of (found_of m)) → Holds us (found_of m))
    → (words : List Text) (app : App) (r : Result ArgMatches WordsFault) → app ≡ app_for t
    → IfOk r (λ m. (fault_of app words ≡ []) × (rows_of (found_of m) ≡ matches_of app words))
    → IfErr r (λ e. e ≡ Usage → fault_of app words ≢ []) → Answers Holds (taken_of t words) r
matches_answer t fits Holds holds words app (Ok m) is ok usage =
    let p = parsed t words fits (ap (λ (a : App). fault_of a words) (sym is) ∙ ok.0) in
    let same : rows_of (found_of m) ≡ matches_of (app_for t) words = ok.1 ∙ ap (λ (a : App). matches_of a words) is in
    (p.0, p.1, holds p.0 m (λ name. ap (look name) same ∙ p.2 name))
matches_answer t fits Holds holds words app (Err Memory) is ok usage = tt
matches_answer t fits Holds holds words app (Err Usage) is ok usage = unparsed t words fits (subst (λ (a : App). Bad (fault_of a words)) is (is_bad (fault_of app words) (usage refl)))
  where
    is_bad : (k : Kinds) → k ≢ [] → Bad k
    is_bad [] h = h refl
    is_bad (k ∷ ks) h = tt
