use Rattle.settings_laws.proofs.Place.{ends_by_edition, place_below_end, fits_within, fits_always, fits_never, smhr_at_indexes, smhr_loaded_lem}
use Rattle.settings_laws.proofs.Lock.{locked_as_listed}
use Rattle.settings_laws.proofs.laws.Goals as goal

-- src/lib.rt:11:1
pub returns : goal.returns
returns c = record {
  locked = locked_as_listed;
  ends = ends_by_edition;
  place = place_below_end;
  within = fits_within;
  always = fits_always;
  never = fits_never;
  indexes = smhr_at_indexes;
  loaded = smhr_loaded_lem;
}
