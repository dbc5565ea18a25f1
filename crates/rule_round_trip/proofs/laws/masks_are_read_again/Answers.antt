use Rattle.rule_round_trip.proofs.Masks.Signs.{flags_again, ip_options_again}
use Rattle.rule_round_trip.proofs.Masks.Types.{types_again}
use Rattle.rule_round_trip.proofs.Masks.TypeSets.{types6_again}
use Rattle.rule_round_trip.proofs.laws.masks_are_read_again.Goals as goal

pub returns : goal.returns
returns c = record { flags = flags_again; options = ip_options_again; icmp_types = types_again; icmp6_types = types6_again }
