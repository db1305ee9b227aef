-- The options of the programs.
use Rattle.std.specs.Prelude.{List, [], ◌∷◌, codes}
use Rattle.asprin_words.specs.Spelled.{Known, flag, letter, named, repeated, single}

-- the options of `asprin`: -n, --sorted, --budget, --chains, --cert, -c, --make, --binary and --audit
abbrev pub asprin_options : List Known
asprin_options =
    letter 110 single ∷ named (codes "sorted") flag ∷ named (codes "budget") single ∷ named (codes "chains") single ∷ named (codes "cert") single
    ∷ letter 99 repeated ∷ named (codes "make") single ∷ named (codes "binary") flag ∷ named (codes "audit") flag ∷ []

-- the options of `asprin_check` and of `asprin_session`: -c
abbrev pub led_options : List Known
led_options = letter 99 repeated ∷ []
