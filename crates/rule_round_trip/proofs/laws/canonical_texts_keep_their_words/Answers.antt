use Rattle.rule_round_trip.proofs.Rules.Drafts.{words_kept}
use Rattle.rule_round_trip.proofs.laws.canonical_texts_keep_their_words.Goals as goal

pub returns : goal.returns
returns c = words_kept
