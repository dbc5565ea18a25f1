-- The answers to lines of the script tell nothing.
use Rattle.std.proofs.Common.{ℕ, Option, Some, None, List, [], ◌∷◌, ◌++◌, length, codes, subst, append_assoc}
use Rattle.std.specs.List.{flat_map, AllByRecursion}
use Rattle.std.specs.Prelude.{IfSome}
use Rattle.report_texts.specs.AnswerText.{answer_text, answers_text, count_line, edition_of, has_number, listing, origin, rule_line, rules_listing}
use Rattle.report_texts.specs.declared.ends.Answer.{Answer}
use Rattle.report_texts.specs.declared.ends.Answer.TheVariants.{Refused, Listed}
use Rattle.report_texts.specs.declared.ends.LineAnswer.{LineAnswer}
use Rattle.fw_rule.specs.declared.rule.Rule.{Rule}
use Rattle.generation_store.specs.Published.{Published}
use Rattle.run_audit.proofs.SilentParts.{name_is_silent}
use Rattle.audit_laws.proofs.Configs.{of_found, rules_in_range, table_in_range}
use Rattle.audit_laws.proofs.HeadLines.{nothing_of_count, nothing_of_list, nothing_of_refusal}
use Rattle.audit_laws.proofs.RuleLines.{IsRuleInRange, nothing_of_rule}
use Rattle.audit_laws.proofs.TableLines.{nothing_of_table}
use Rattle.audit_laws.proofs.ToldNothing.{TellsNothing, nothing_of_both, nothing_of_each, nothing_of_none}
use Rattle.audit_laws.specs.Printable.{IsPrintableAnswer, IsPrintableConfig}
use Rattle.audit_laws.specs.RuleNames.{HasNameBytes}

rules_tell : (rules : List Rule) → AllByRecursion IsRuleInRange rules → AllByRecursion (λ rule. TellsNothing (rule_line rule)) rules
rules_tell [] all = tt
rules_tell (rule ∷ rules) all = (nothing_of_rule rule all.0, rules_tell rules all.1)

nothing_of_rules : (line edition : ℕ) (rules : List Rule) → AllByRecursion IsRuleInRange rules → TellsNothing (rules_listing line edition rules)
unfolding rules_listing
nothing_of_rules line edition rules all =
    let behind : List ℕ = count_line (length rules) ++ flat_map rule_line rules in
    subst (λ (text : List ℕ). TellsNothing text) (append_assoc (codes "list") (origin line edition) behind)
    (nothing_of_both (codes "list" ++ origin line edition) behind (nothing_of_list line edition)
    (nothing_of_both (count_line (length rules)) (flat_map rule_line rules) (nothing_of_count (length rules)) (nothing_of_each rule_line rules (rules_tell rules all))))

nothing_of_listing : (line number : ℕ) (table : Option (List ℕ)) (edition : Option Published) → IfSome table HasNameBytes → IfSome edition (λ one. IsPrintableConfig one.config) → TellsNothing (listing line number table edition)
nothing_of_listing line number table None named is = nothing_of_none
nothing_of_listing line number None (Some edition) named is = nothing_of_rules line number edition.config.rules (rules_in_range edition.config is)
nothing_of_listing line number (Some name) (Some edition) named is =
    nothing_of_table line number name edition.config.tables (name_is_silent name named) (table_in_range edition.config.tables name is.tables)

nothing_of_reply : (editions : List Published) (line : ℕ) (answer : Answer) → AllByRecursion (λ edition. IsPrintableConfig edition.config) editions → IsPrintableAnswer answer
    → TellsNothing (answer_text editions (record { line = line; answer = answer }))
nothing_of_reply editions line (Refused fault) configs is = nothing_of_refusal line fault
nothing_of_reply editions line (Listed number table) configs is =
    nothing_of_listing line number table (edition_of editions number) is (of_found (λ (edition : Published). IsPrintableConfig edition.config) (has_number number) editions configs)

-- the answers
pub nothing_of_answers : (editions : List Published) (answers : List LineAnswer) → AllByRecursion (λ edition. IsPrintableConfig edition.config) editions
    → AllByRecursion (λ one. IsPrintableAnswer one.answer) answers → TellsNothing (answers_text editions answers)
nothing_of_answers editions answers configs all = nothing_of_each (answer_text editions) answers (each answers all)
  where
    each : (ones : List LineAnswer) → AllByRecursion (λ one. IsPrintableAnswer one.answer) ones → AllByRecursion (λ one. TellsNothing (answer_text editions one)) ones
    each [] all = tt
    each (one ∷ ones) all = (nothing_of_reply editions one.line one.answer configs all.0, each ones all.1)
