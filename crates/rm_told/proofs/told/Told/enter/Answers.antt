use Rattle.rm_table.specs.Meanings.{meanings}
use Rattle.rm_told.proofs.ToldNumbers.{entered_meets}
use Rattle.rm_told.proofs.told.Told.enter.Goals as goal

pub returns-in-In-clause-told : goal.returns-in-In-clause-told
returns-in-In-clause-told g c =
    entered_meets (meanings g.E.Numbered g.B.Kept) c.args.p c.in-In.reading c.in-In.ensures.entry
