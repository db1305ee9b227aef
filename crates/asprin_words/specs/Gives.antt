-- What the matches of a parse hold of the uses of each option. No public clause speaks of it.
use Rattle.std.specs.Prelude.{◌≡◌, List, [], ◌∷◌, codes, Option, None, Some, Result, Ok, Err, option_map}
use Rattle.clap.specs.Matches.{first_value, found_of, matched_of, raw_values}
use Rattle.clap.specs.declared.parser.matches.ArgMatches.{ArgMatches}
use Rattle.clap.specs.declared.parser.matches.Found.{Found}
use Rattle.asprin_words.specs.Spelled.{Text, Use, file_name, value_of, values_of}
use Rattle.asprin_words.specs.declared.fault.WordsFault.{WordsFault}
use Rattle.asprin_words.specs.declared.fault.WordsFault.TheVariants.{Usage, Memory}

-- the first value is that of the first use
abbrev pub HoldsOne : List Use → Found → Text → Type 0
HoldsOne uses f name = first_value f name ≡ value_of name uses

-- a flag that is not used has the value `false`
abbrev pub or_false_text : Option Text → Option Text
or_false_text None = Some (codes "false")
or_false_text (Some text) = Some text

abbrev pub HoldsFlag : List Use → Found → Text → Type 0
HoldsFlag uses f name = first_value f name ≡ or_false_text (value_of name uses)

-- there are values where there are uses
abbrev pub listed : List Text → Option (List Text)
listed [] = None
listed (x ∷ xs) = Some (x ∷ xs)

abbrev pub HoldsAll : List Use → Found → Text → Type 0
HoldsAll uses f name = option_map raw_values (matched_of f name) ≡ listed (values_of name uses)

-- the options of `asprin`
pub record Gives (uses : List Use) (f : Found) : Type 0 where
  pub number : HoldsOne uses f (codes "n")
  pub sorted : HoldsFlag uses f (codes "sorted")
  pub budget : HoldsOne uses f (codes "budget")
  pub chains : HoldsOne uses f (codes "chains")
  pub cert : HoldsOne uses f (codes "cert")
  pub constants : HoldsAll uses f (codes "c")
  pub make : HoldsOne uses f (codes "make")
  pub binary : HoldsFlag uses f (codes "binary")
  pub audit : HoldsFlag uses f (codes "audit")
  pub files : HoldsAll uses f file_name

-- the options of `asprin_check`
pub record LedGives (uses : List Use) (f : Found) : Type 0 where
  pub constants : HoldsAll uses f (codes "c")
  pub files : HoldsAll uses f file_name

-- the matches hold the uses; the words are refused exactly where there are none
abbrev pub Answers : (List Use → Found → Type 0) → Option (List Use) → Result ArgMatches WordsFault → Type 0
Answers Holds taken (Ok m) = (uses : List Use) × (taken ≡ Some uses) × Holds uses (found_of m)
Answers Holds taken (Err Usage) = taken ≡ None
Answers Holds taken (Err Memory) = Unit {0}
