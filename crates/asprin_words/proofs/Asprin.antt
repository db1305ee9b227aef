-- The options of the programs can be read by `clap`.
use Rattle.std.proofs.Common.{refl}
use Rattle.clap.specs.Faults.{is_simple_and_free}
use Rattle.std.proofs.Common.{◌≡◌, true}
use Rattle.asprin_words.specs.Commands.{app_for}
use Rattle.asprin_words.specs.Options.{asprin_options, led_options}
use Rattle.asprin_words.proofs.Parsing.{Fits}

pub asprin_fits : Fits asprin_options
asprin_fits = record {
  each = ((tt, refl), ((tt, refl), ((tt, refl), ((tt, refl), ((tt, refl), ((tt, refl), ((tt, refl), ((tt, refl), ((tt, refl), tt)))))))));
  places = record { by_id = refl; by_index = refl };
  built_is = refl;
}

pub asprin_simple : is_simple_and_free (app_for asprin_options) ≡ true
asprin_simple = refl

pub led_fits : Fits led_options
led_fits = record {
  each = ((tt, refl), tt);
  places = record { by_id = refl; by_index = refl };
  built_is = refl;
}
