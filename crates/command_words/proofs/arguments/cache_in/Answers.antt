use Rattle.std.proofs.Common.{◌∙◌, ℕ, [], ap, sym, codes, Option, List, unwrap_or}
use Rattle.std.specs.Option.{option_map}
use Rattle.clap.specs.Matches.{found_of}
use Rattle.clap.proofs.WalkLemmas.{raw_values-rows}
use Rattle.command_words.specs.Invocation.{word_texts}
use Rattle.command_words.specs.Words.{cache_of}
use Rattle.command_words.proofs.arguments.cache_in.Goals as goal

pub returns-in-Some-clause-value : goal.returns-in-Some-clause-value
returns-in-Some-clause-value c =
    let strs = ap (option_map (λ s. word_texts s.now)) (sym c.in-Some.is) ∙ c.get_strs.ensures ∙ raw_values-rows (found_of c.args.matches.now) (codes "cache") in
    c.number_in.ensures.value ∙ ap (λ (o : Option (List (List ℕ))). cache_of (unwrap_or o [])) strs

pub returns-in-None-clause-value : goal.returns-in-None-clause-value
unfolding cache_of
returns-in-None-clause-value c =
    let strs = ap (option_map (λ s. word_texts s.now)) (sym c.in-None.is) ∙ c.get_strs.ensures ∙ raw_values-rows (found_of c.args.matches.now) (codes "cache") in
    ap (λ (o : Option (List (List ℕ))). cache_of (unwrap_or o [])) strs
