use Rattle.std.proofs.Common.{◌∙◌, ℕ, [], ap, sym, codes, Option, List, unwrap_or}
use Rattle.std.specs.Option.{option_map}
use Rattle.clap.specs.Matches.{found_of}
use Rattle.clap.proofs.WalkLemmas.{raw_values-rows}
use Rattle.command_words.specs.Invocation.{word_texts}
use Rattle.command_words.proofs.arguments.positional_in.Goals as goal

pub returns-in_ok-from_slice-in-Some : goal.returns-in_ok-from_slice-in-Some
returns-in_ok-from_slice-in-Some c =
    let strs = ap (option_map (λ s. word_texts s.now)) (sym c.in-Some.is) ∙ c.get_strs.ensures ∙ raw_values-rows (found_of c.args.matches.now) (codes "positional") in
    ap word_texts c.in_ok-from_slice-in-Some.ensures.items ∙ ap (λ (o : Option (List (List ℕ))). unwrap_or o []) strs

pub returns-in-None : goal.returns-in-None
returns-in-None c =
    let strs = ap (option_map (λ s. word_texts s.now)) (sym c.in-None.is) ∙ c.get_strs.ensures ∙ raw_values-rows (found_of c.args.matches.now) (codes "positional") in
    ap word_texts c.new.ensures.items ∙ ap (λ (o : Option (List (List ℕ))). unwrap_or o []) strs
