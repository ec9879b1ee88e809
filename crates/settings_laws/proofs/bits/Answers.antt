use Rattle.settings_laws.proofs.Routing.{window_routes, routed_by_bits, enabled_by_bits, ccr3_by_bits}
use Rattle.settings_laws.proofs.bits.Goals as goal

pub returns : goal.returns
returns c = record {
  window = window_routes;
  routed = routed_by_bits;
  enabled = enabled_by_bits;
  ccr3 = ccr3_by_bits;
}
