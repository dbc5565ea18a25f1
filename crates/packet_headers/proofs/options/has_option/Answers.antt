use Rattle.std.proofs.Common.{◌==◌, ℕ, refl, rules, tests}
use Rattle.std.proofs.lemmas.Iterator.Search.{any_from_yields_List}
use Rattle.std.proofs.lemmas.Iterator.Consumers.{YieldsList-from_first}
use Rattle.packet_headers.specs.declared.options.OptionTypes.{OptionTypes}
use Rattle.packet_headers.specs.Options.{option_types}
use Rattle.packet_headers.proofs.options.has_option.Goals as goal

pub returns : goal.returns
returns c =
    let walk : OptionTypes = record { rest = c.args.options } in
    any_from_yields_List (λ (type : ℕ). type == c.args.kind) c.any.new.self _ c.any.result c.any.ensures.ran
    (YieldsList-from_first (λ (x : ℕ). x) (λ (s : OptionTypes). option_types s.rest.now) {s = walk} (option_types c.args.options.now) refl)
    (λ x b q k. search (rules, tests))
