use Rattle.std.proofs.Common.{rules, ◌≡◌, ◌∙◌, ap₂, ap, true, codes, Option, None, Some, [], ◌∷◌, IsSomeAnd}
use Rattle.std.proofs.lemmas.Result.{IfOk-weaker}
use Rattle.clap.specs.Lexer.{usize_max}
use Rattle.clap.specs.Walk.{Rule, rule_of}
use Rattle.clap.specs.Simple.{app_of, new_app, new_rule, on_top, with_rule}
use Rattle.clap.specs.declared.builder.arg.Arg.{Arg}
use Rattle.clap.specs.declared.builder.range.ValueRange.{ValueRange}
use Rattle.clap.specs.declared.builder.action.ArgAction.TheVariants.{Append, SetTrue}
use Rattle.command_words.specs.CommandLine.{journal_rule, cache_rule, positional_rule}
use Rattle.command_words.proofs.arguments.command_line.Goals as goal

abbrev all_values : ValueRange
all_values = record { start_inclusive = 0; end_inclusive = usize_max }

abbrev one_value : ValueRange
one_value = record { start_inclusive = 0; end_inclusive = 1 }

range_is : (wanted : ValueRange) (range : Option ValueRange) → IsSomeAnd range (λ r. r ≡ wanted) → range ≡ Some wanted
range_is wanted None h = absurd h
range_is wanted (Some r) h = ap Some h

pub returns : goal.returns
returns c =
    let journal_is : rule_of c.action-journal.result ≡ journal_rule =
    ap rule_of (c.action-journal.ensures ∙ ap (λ (a : Arg). record a { action = Some SetTrue }) c.long.ensures)
    ∙ ap (λ (r : Rule). record r { long = Some (codes "journal"); action = Some SetTrue }) c.new.ensures.rule in
    let cache_range : c.num_args.result.num_vals ≡ Some one_value = range_is one_value _ c.num_args.ensures.1 in
    let cache_is : rule_of c.default_missing_value-cache.result ≡ cache_rule =
    ap rule_of c.default_missing_value-cache.ensures
    ∙ ap (λ (r : Rule). record r { missing = [] ∷ [] })
    (ap rule_of (c.num_args.ensures.0 ∙ ap (λ (a : Arg). record a { num_vals = c.num_args.result.num_vals }) (c.action.ensures ∙ ap (λ (a : Arg). record a { action = Some Append }) c.long-2.ensures))
    ∙ ap (λ (r : Rule). record r { long = Some (codes "cache"); action = Some Append; range = c.num_args.result.num_vals }) c.new-2.ensures.rule
    ∙ ap (λ v. record (new_rule (codes "cache")) { long = Some (codes "cache"); action = Some Append; range = v }) cache_range) in
    let rule_is : rule_of c.num_args-positional.result ≡ positional_rule =
    ap rule_of c.num_args-positional.ensures.0
    ∙ ap (λ (r : Rule). record r { range = c.num_args-positional.result.num_vals }) c.new-3.ensures.rule
    ∙ ap (λ v. record (new_rule (codes "positional")) { range = v }) (range_is all_values _ c.num_args-positional.ensures.1) in
    let top_is : app_of c.disable_help_flag.result ≡ on_top (λ s. record s { disable_help_flag = true }) (new_app (codes "ipfw_replay")) = search rules in
    let first = c.in_ok-arg.ensures.shape (search rules) ∙ ap₂ with_rule top_is journal_is in
    let second = c.in_ok-arg-2.ensures.shape (search rules) ∙ ap₂ with_rule first cache_is in
    IfOk-weaker c.arg-3.result _ _ (λ command adds. adds.shape (search rules) ∙ ap₂ with_rule second rule_is) c.arg-3.ensures
