use Rattle.std.proofs.Common.{◌≡◌, [], ap, sym, ◌∙◌, arith, subst}
use Rattle.ip6_headers.specs.declared.any_ip.AnyIp.{AnyIp}
use Rattle.ip6_headers.specs.declared.any_ip.AnyIp.TheVariants.{Four}
use Rattle.rule_chain.specs.Chain.{IsConfiguration}
use Rattle.rule_chain.specs.Configuration.{Configuration}
use Rattle.generation_store.specs.Published.{Published}
use Rattle.eval_engine.specs.Question.{Question, question_under}
use Rattle.eval_engine.specs.Standing.{StandsAt}
use Rattle.verdict_cache.specs.Cache.{Kept}
use Rattle.cached_verdicts.specs.LaneCache.{IsToKeep}
use Rattle.cached_verdicts.specs.Verdicts.{KeepsVerdicts}
use Rattle.cached_verdicts.specs.declared.kept_verdict.KeptVerdict.{KeptVerdict}
use Rattle.cached_verdicts.proofs.Begun.{hit_stands, hit_is_given_out}
use Rattle.cached_verdicts.proofs.Looked.{hit_once, keeps_looked, keeps_kept, missed_visited}
use Rattle.cached_verdicts.proofs.beginning.begin_by_cache.Goals as goal

pub hit-requires : goal.hit-requires
hit-requires c =
    let q : Question = c.args.question.now in
    let four = sym c.packet-packet.ensures ∙ c.in-Four.is in
    let numbered = c.number.ensures ∙ ap (λ (e : Published). e.number) c.edition-edition.ensures in
    let once = hit_once q.edition q.port q.packet c.in-Four.ip q.second c.of-key.result c.number.result c.args.kept.now four c.of-key.ensures numbered c.in-Some.verdict c.requires.kept
    (sym c.in-Some.is ∙ c.look.ensures.value) in
    let lawful = subst (λ (config : Configuration). IsConfiguration config) (c.config.ensures.value ∙ ap (λ (e : Published). e.config) c.edition-edition.ensures) c.law_of_configuration.ensures in
    let bound = hit_is_given_out q c.in-Some.verdict lawful once in
    let fitted = c.requires.fitted in
    omega arith

pub returns-in_err-keep-in-None-clause-kept : goal.returns-in_err-keep-in-None-clause-kept
returns-in_err-keep-in-None-clause-kept c =
    let q : Question = c.args.question.now in
    let four = sym c.packet-packet.ensures ∙ c.in-Four.is in
    let numbered = c.number.ensures ∙ ap (λ (e : Published). e.number) c.edition-edition.ensures in
    subst (λ (k : Kept KeptVerdict). KeepsVerdicts q.edition q.port k) (sym c.in_err-keep-in-None.ensures.unchanged)
    (keeps_looked q.edition q.port q.packet c.in-Four.ip q.second c.of-key.result c.number.result c.args.kept.now four c.of-key.ensures numbered c.look.new.self c.requires.kept c.look.ensures.pairs)

pub returns-in-Some-clause-stands : goal.returns-in-Some-clause-stands
returns-in-Some-clause-stands c =
    let q : Question = c.args.question.now in
    let four = sym c.packet-packet.ensures ∙ c.in-Four.is in
    let numbered = c.number.ensures ∙ ap (λ (e : Published). e.number) c.edition-edition.ensures in
    let once = hit_once q.edition q.port q.packet c.in-Four.ip q.second c.of-key.result c.number.result c.args.kept.now four c.of-key.ensures numbered c.in-Some.verdict c.requires.kept
    (sym c.in-Some.is ∙ c.look.ensures.value) in
    rw (c.hit.ensures, c.total.ensures, c.packet-packet.ensures) (hit_stands q c.in-Some.verdict c.args.tally.now c.args.paused.now once)

pub returns-in-Some-clause-kept : goal.returns-in-Some-clause-kept
returns-in-Some-clause-kept c =
    let q : Question = c.args.question.now in
    let four = sym c.packet-packet.ensures ∙ c.in-Four.is in
    let numbered = c.number.ensures ∙ ap (λ (e : Published). e.number) c.edition-edition.ensures in
    keeps_looked q.edition q.port q.packet c.in-Four.ip q.second c.of-key.result c.number.result c.args.kept.now four c.of-key.ensures numbered c.look.new.self c.requires.kept c.look.ensures.pairs

pub returns-in_ok-keep-in-None-clause-visited : goal.returns-in_ok-keep-in-None-clause-visited
returns-in_ok-keep-in-None-clause-visited c =
    let q : Question = c.args.question.now in
    let four = sym c.packet-packet.ensures ∙ c.in-Four.is in
    let numbered = c.number.ensures ∙ ap (λ (e : Published). e.number) c.edition-edition.ensures in
    let stands = subst (λ (p : AnyIp). StandsAt (question_under q.edition p q.port q.second) [] [] c.args.tally.now c.begin-judged-in-None.result c.begin-judged-in-None.new.paused c.begin-judged-in-None.new.tally) four c.begin-judged-in-None.ensures in
    let lent = subst (λ (e : Published). StandsAt (question_under e (Four c.in-Four.ip) q.port q.second) [] [] c.args.tally.now c.begin-judged-in-None.result c.begin-judged-in-None.new.paused c.begin-judged-in-None.new.tally) (sym c.edition-edition.ensures) stands in
    let to_keep = subst (λ (e : Published). IsToKeep (question_under e (Four c.in-Four.ip) q.port q.second) c.verdict_to_keep.result) c.edition-edition.ensures
    (c.verdict_to_keep.ensures c.in-Four.ip q.port q.second c.args.tally.now c.begin-judged-in-None.new.tally c.begin-judged-in-None.new.paused lent) in
    missed_visited q.edition q.port q.packet c.in-Four.ip q.second c.of-key.result c.number.result c.args.kept.now four c.of-key.ensures numbered
    c.verdict_to_keep.result c.look.new.self c.keep.new.kept to_keep (sym c.in-None.is ∙ c.look.ensures.value) c.look.ensures.pairs c.in_ok-keep-in-None.ensures.kept

pub returns-in_ok-keep-in-None-clause-kept : goal.returns-in_ok-keep-in-None-clause-kept
returns-in_ok-keep-in-None-clause-kept c =
    let q : Question = c.args.question.now in
    let four = sym c.packet-packet.ensures ∙ c.in-Four.is in
    let numbered = c.number.ensures ∙ ap (λ (e : Published). e.number) c.edition-edition.ensures in
    let stands = subst (λ (p : AnyIp). StandsAt (question_under q.edition p q.port q.second) [] [] c.args.tally.now c.begin-judged-in-None.result c.begin-judged-in-None.new.paused c.begin-judged-in-None.new.tally) four c.begin-judged-in-None.ensures in
    let lent = subst (λ (e : Published). StandsAt (question_under e (Four c.in-Four.ip) q.port q.second) [] [] c.args.tally.now c.begin-judged-in-None.result c.begin-judged-in-None.new.paused c.begin-judged-in-None.new.tally) (sym c.edition-edition.ensures) stands in
    let to_keep = subst (λ (e : Published). IsToKeep (question_under e (Four c.in-Four.ip) q.port q.second) c.verdict_to_keep.result) c.edition-edition.ensures
    (c.verdict_to_keep.ensures c.in-Four.ip q.port q.second c.args.tally.now c.begin-judged-in-None.new.tally c.begin-judged-in-None.new.paused lent) in
    keeps_kept q.edition q.port q.packet c.in-Four.ip q.second c.of-key.result c.number.result c.args.kept.now four c.of-key.ensures numbered
    c.verdict_to_keep.result c.look.new.self c.keep.new.kept c.requires.kept to_keep c.look.ensures.pairs c.in_ok-keep-in-None.ensures.kept
