-- What words ask for; nothing where a program has no such words.
use Rattle.std.specs.Prelude.{ℕ, ◌||◌, Bool, List, [], map, codes, if◌then◌else◌, Option, None, option_map, option_and_then, string_bytes}
use Rattle.std.specs.Prelude.{String}
use Rattle.std.specs.declared.alloc.Global.{Global}
use Rattle.asprin_words.specs.Options.{asprin_options, led_options}
use Rattle.asprin_words.specs.Spelled.{Text, Use, file_name, is_flagged, is_used, taken_of, value_of, values_of}
use Rattle.asprin_words.specs.Values.{Certificate, Led, Setting, Source, certificate_given, files_given, led_by, number_or, settings_from, source_given, wanted_given}

-- ---- asprin

-- the optimal sets
pub record Solving : Type 0 where
  pub wanted : ℕ
  pub sorted : Bool
  pub budget : ℕ
  pub chains : ℕ
  pub certificate : Option Certificate
  pub constants : List Setting
  pub source : Source

-- an audit of the order
pub record Auditing : Type 0 where
  pub budget : ℕ
  pub constants : List Setting
  pub files : List Text

pub data Asked : Type 0 where
  solve : Solving → Asked
  audit : Auditing → Asked

-- how many clauses may be learned
abbrev pub budget_in : List Use → Option ℕ
budget_in uses = number_or 0 999999999999999999 200000 (value_of (codes "budget") uses)

abbrev pub chains_in : List Use → Option ℕ
chains_in uses = number_or 1 8 1 (value_of (codes "chains") uses)

abbrev pub constants_in : List Use → Option (List Setting)
constants_in uses = settings_from [] (values_of (codes "c") uses)

abbrev pub files_in : List Use → List Text
files_in uses = values_of file_name uses

abbrev pub solving : List Use → Option Solving
solving uses =
    option_and_then (λ wanted. option_and_then (λ budget. option_and_then (λ chains. option_and_then (λ certificate. option_and_then (λ constants. option_map (λ source. record {
      wanted = wanted;
      sorted = is_flagged (codes "sorted") uses;
      budget = budget;
      chains = chains;
      certificate = certificate;
      constants = constants;
      source = source;
    }) (source_given (value_of (codes "make") uses) (files_in uses)))
    (constants_in uses))
    (certificate_given (value_of (codes "cert") uses) (is_flagged (codes "binary") uses)))
    (chains_in uses))
    (budget_in uses))
    (wanted_given (value_of (codes "make") uses) (value_of (codes "n") uses))

-- an option that may not stand beside `--audit`
abbrev pub asks_for_sets : List Use → Bool
asks_for_sets uses =
    is_used (codes "n") uses || is_flagged (codes "sorted") uses || is_used (codes "chains") uses || is_used (codes "cert") uses
    || is_used (codes "make") uses || is_flagged (codes "binary") uses

abbrev pub audited : List Use → Option Auditing
audited uses =
    option_and_then (λ budget. option_and_then (λ constants. option_map (λ files. record { budget = budget; constants = constants; files = files })
    (files_given (files_in uses))) (constants_in uses)) (budget_in uses)

abbrev pub auditing : List Use → Option Auditing
auditing uses = if asks_for_sets uses then None else audited uses

abbrev pub asked : List Use → Option Asked
asked uses = if is_flagged (codes "audit") uses then option_map audit (auditing uses) else option_map solve (solving uses)

-- what the words of `asprin` ask for
abbrev pub asked_by : List Text → Option Asked
asked_by words = option_and_then asked (taken_of asprin_options words)

-- ---- asprin_check and asprin_session

-- a certificate or commands, and files
pub record AskedLed : Type 0 where
  pub constants : List Setting
  pub led : Led

abbrev pub led_asked : List Use → Option AskedLed
led_asked uses =
    option_and_then (λ constants. option_map (λ led. record { constants = constants; led = led }) (led_by (files_in uses))) (constants_in uses)

-- what the words of `asprin_check` and of `asprin_session` ask for
abbrev pub led_asked_by : List Text → Option AskedLed
led_asked_by words = option_and_then led_asked (taken_of led_options words)

-- ---- the words themselves

abbrev pub texts_of : List (String Global) → List Text
texts_of words = map string_bytes words
