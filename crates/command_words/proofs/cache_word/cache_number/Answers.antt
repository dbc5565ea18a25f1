use Rattle.std.proofs.Common.{◌≡◌, ◌<◌, ◌≤◌, ◌^◌, true, length, rules, arith}
use Rattle.std.specs.Char.{is_ascii_digit}
use Rattle.std.specs.List.{list_all}
use Rattle.std.specs.Str.Parse.{digits_value}
use Rattle.std.proofs.lemmas.Str.Parse.{IsNumeralModel, numerals_by_value, digits_value_short, parse_gives}
use Rattle.command_words.proofs.cache_word.cache_number.Goals as goal

-- digits have a value, as std reads them
own : IsNumeralModel (λ ds. list_all is_ascii_digit ds ≡ true) (digits_value 10)
own = numerals_by_value _ (search rules)

pub returns-in_default-3-clause-value : goal.returns-in_default-3-clause-value
returns-in_default-3-clause-value c =
    let word = c.args.word.now in
    let digits : list_all is_ascii_digit word ≡ true = search rules in
    let short : length word ≤ 5 = search rules in
    let some : 0 < length word = search rules in
    let small : digits_value 10 word < 10 ^ 5 = digits_value_short own word 5 digits short in
    let gives = parse_gives own 32 word c.parse.result c.parse.ensures.value.0 digits some (omega (arith, small)) in
    absurd (cc)
