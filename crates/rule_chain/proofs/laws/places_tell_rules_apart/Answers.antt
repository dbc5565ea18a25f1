use Rattle.rule_chain.proofs.InPlaces.{stand_in_order, own_identities, own_counters}
use Rattle.rule_chain.proofs.laws.places_tell_rules_apart.Goals as goal

pub returns-clause-order : goal.returns-clause-order
returns-clause-order c = stand_in_order _ c.rules-rules.ensures.lawful.ordered

pub returns-clause-identities : goal.returns-clause-identities
returns-clause-identities c = own_identities _ c.rules-rules.ensures.lawful.distinct

pub returns-clause-counters : goal.returns-clause-counters
returns-clause-counters c = own_counters _ c.rules-rules.ensures.lawful.counted
