use Rattle.fw_world.proofs.Recording.{IsLegal-record, IsLegalButSections-record}
use Rattle.fw_world.proofs.record.Record.new.Goals as goal

pub returns-clause-legal : goal.returns-clause-legal
returns-clause-legal c = λ first commands inputs editions all stands sections. IsLegal-record _ first commands inputs c.requires c.law_of_journal.ensures editions all stands sections

pub returns-clause-nearly : goal.returns-clause-nearly
returns-clause-nearly c = λ first commands inputs editions all stands rising. IsLegalButSections-record _ first commands inputs c.requires c.law_of_journal.ensures editions all stands rising
