use Rattle.ipfw_parser.specs.Rules.{rule_in}
use Rattle.ipfw_parser.proofs.Forms.Drafts.{answer_is, drafts_are}
use Rattle.ipfw_parser.proofs.line.parse_rule.Goals as goal

pub returns-clause-well_formed : goal.returns-clause-well_formed
returns-clause-well_formed c =
    let words = c.words_of.result in
    answer_is c.parse_words.result (rule_in words.line.now words.tokens.now c.args.first) c.parse_words.ensures (drafts_are words.line.now words.tokens.now c.args.first)
