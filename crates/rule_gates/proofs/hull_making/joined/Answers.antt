use Rattle.rule_gates.proofs.Joined.{under_by}
use Rattle.rule_gates.proofs.hull_making.joined.Goals as goal

pub returns-clause-first : goal.returns-clause-first
returns-clause-first c =
    under_by c.args.one.now _
    (λ words are has. c.joined_words-source.ensures.first words are (rw (c.source.ensures.numbers, c.source.ensures.place) has))
    (λ words are has. c.joined_words-destination.ensures.first words are (rw (c.destination.ensures.numbers, c.destination.ensures.place) has))
    c.joined_numbers-2.ensures.first c.joined_protocol.ensures.first c.joined_numbers.ensures.first c.joined_family.ensures.first

pub returns-clause-second : goal.returns-clause-second
returns-clause-second c =
    under_by c.args.other.now _
    (λ words are has. c.joined_words-source.ensures.second words are (rw (c.source-2.ensures.numbers, c.source-2.ensures.place) has))
    (λ words are has. c.joined_words-destination.ensures.second words are (rw (c.destination-2.ensures.numbers, c.destination-2.ensures.place) has))
    c.joined_numbers-2.ensures.second c.joined_protocol.ensures.second c.joined_numbers.ensures.second c.joined_family.ensures.second
