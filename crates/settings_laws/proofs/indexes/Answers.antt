use Rattle.settings_laws.proofs.Stored.{stored_at, zero_elsewhere, read_back, smhr_stored_lem, masks_listed}
use Rattle.settings_laws.proofs.indexes.Goals as goal

pub returns : goal.returns
returns c = record {
  stored = stored_at;
  elsewhere = zero_elsewhere;
  back = read_back;
  smhr = smhr_stored_lem;
  masks = masks_listed;
}
