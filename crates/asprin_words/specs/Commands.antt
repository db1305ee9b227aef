-- The commands of `clap` by which words with some options are read. No public clause speaks of them.
use Rattle.std.specs.Prelude.{List, [], ◌∷◌, ◌++◌, map, codes, true, Some}
use Rattle.clap.specs.Simple.{App, new_rule, new_shape}
use Rattle.clap.specs.Walk.{Rule}
use Rattle.clap.specs.declared.builder.action.ArgAction.{ArgAction}
use Rattle.clap.specs.declared.builder.action.ArgAction.TheVariants as action
use Rattle.asprin_words.specs.Spelled.{Known, Sort, file_name, flag, repeated, single}

abbrev pub action_for : Sort → ArgAction
action_for flag = action.SetTrue
action_for single = action.Set
action_for repeated = action.Append

-- the argument of an option
abbrev pub asked_rule : Known → Rule
asked_rule k = record (new_rule k.name) { long = k.long; short = k.short; action = Some (action_for k.sort) }

-- the argument of the files
abbrev pub asked_file : Rule
asked_file = record (new_rule file_name) { action = Some action.Append }

-- a simple command with these options and files, without a flag for help
abbrev pub app_for : List Known → App
app_for t = record {
  top = record (new_shape (codes "words")) { rules = map asked_rule t ++ asked_file ∷ []; no_binary_name = true; disable_help_flag = true };
  subs = [];
}
