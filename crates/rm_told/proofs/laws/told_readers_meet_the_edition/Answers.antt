use Rattle.rm_table.specs.Meanings.{meanings}
use Rattle.rm_told.proofs.ToldNumbers.{told_holds, depth_holds}
use Rattle.rm_told.proofs.laws.told_readers_meet_the_edition.Goals as goal

pub returns-clause-told : goal.returns-clause-told
returns-clause-told g c = told_holds _

pub returns-clause-depth : goal.returns-clause-depth
returns-clause-depth g c = depth_holds (meanings g.E.Numbered g.B.Kept)
