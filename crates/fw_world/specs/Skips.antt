-- Records that aren't judged.
use Rattle.eval_engine.specs.declared.docket_entry.DocketEntry.{DocketEntry}
use Rattle.eval_engine.specs.declared.docket_entry.DocketEntry.TheVariants as entry
use Rattle.fw_world.specs.Inputs.{Input}
use Rattle.fw_world.specs.Inputs as input
use Rattle.fw_world.specs.declared.skipped.Skipped.{Skipped}
use Rattle.fw_world.specs.declared.skipped.Skipped.TheVariants.{Other, Malformed}

-- what is entered for it
abbrev pub entry_for : Skipped → DocketEntry
entry_for Other = entry.Other
entry_for (Malformed kind) = entry.Malformed kind

-- the input that it is
abbrev pub skipped_input : Skipped → Input
skipped_input Other = input.Other
skipped_input (Malformed kind) = input.Malformed kind
