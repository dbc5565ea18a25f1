use Rattle.std.proofs.Common.{◌≡◌, ◌+◌, [], drop, map, arith, rules, sym, ap, ◌∙◌}
use Rattle.std.proofs.lemmas.List.{drop_all}
use Rattle.std.specs.Option.{option_map}
use Rattle.command_words.specs.Invocation.{capture_names}
use Rattle.command_words.specs.Words.{capture_of}
use Rattle.command_words.proofs.CaptureLists.{Left, left_more, left_none, left_end, map_push}
use Rattle.command_words.proofs.captures.captures_of.Goals as goal

pub returns-in-None-clause-named : goal.returns-in-None-clause-named
returns-in-None-clause-named c =
    sym (c.loop-word.invariant.kept ∙ left_none _ c.args.words.now c.loop-word.word-index _ c.loop-word-test.true (ap capture_of (sym c.as_bytes.ensures.value) ∙ sym c.capture_of.ensures ∙ ap (option_map capture_names) c.in-None.is))

pub loop-word-preserved : goal.loop-word-preserved
loop-word-preserved c =
    let named = ap capture_of (sym c.as_bytes.ensures.value) ∙ sym c.capture_of.ensures ∙ ap (option_map capture_names) c.in-Some.is in
    let longer = ap (map capture_names) c.in_ok-push-in-Some.ensures.items ∙ map_push capture_names c.loop-word.captures.items c.in-Some.capture in
    record {
      kept = c.loop-word.invariant.kept ∙ left_more _ c.args.words.now c.loop-word.word-index _ (capture_names c.in-Some.capture) c.loop-word-test.true named
          ∙ ap (λ done. Left done (drop (c.loop-word.word-index + 1) c.args.words.now)) (sym longer);
      count = search rules;
    }

pub returns-clause-named : goal.returns-clause-named
returns-clause-named c =
    let none : drop c.loop-word.word-index c.args.words.now ≡ [] = drop_all c.loop-word.word-index c.args.words.now (omega (arith, c.loop-word-test.false)) in
    sym (c.loop-word.invariant.kept ∙ ap (Left (map capture_names c.loop-word.captures.items)) none ∙ left_end _)
