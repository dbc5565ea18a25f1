-- The rules, names and tables of a configuration, in the ranges of their lines.
use Rattle.std.proofs.Common.{◌≡◌, ℕ, Bool, true, false, cond, Some, List, [], ◌∷◌}
use Rattle.std.specs.List.{find, AllByRecursion}
use Rattle.std.specs.Map.{lookup}
use Rattle.std.specs.Prelude.{IfSome}
use Rattle.report_texts.specs.Lines.{lines_in}
use Rattle.report_texts.specs.Report.{last_edition}
use Rattle.fw_rule.specs.declared.rule.Rule.{Rule}
use Rattle.generation_store.specs.Published.{Published}
use Rattle.lookup_tables.specs.Tables.{NamedTables, table_named}
use Rattle.rule_chain.specs.Chain.{IsRule}
use Rattle.rule_chain.specs.Configuration.{Configuration}
use Rattle.run_audit.proofs.SilentParts.{name_is_silent}
use Rattle.audit_laws.proofs.RuleLines.{IsRuleInRange}
use Rattle.audit_laws.proofs.RuleWords.{rule_is_silent}
use Rattle.audit_laws.specs.Printable.{IsFlowNameText, IsPrintableConfig, IsPrintableTable}
use Rattle.audit_laws.specs.RuleNames.{HasNameBytes, names_in_rule}

-- ---- one of many

-- what holds of all holds of the first that passes, if one does
pub of_found : {X : Type 0} (P : X → Type 0) (test : X → Bool) (xs : List X) → AllByRecursion P xs → IfSome (find test xs) P
of_found P test [] all = tt
of_found P test (x ∷ xs) all = by_test (test x) all.0 (of_found P test xs all.1)
  where
    by_test : (b : Bool) → P x → IfSome (find test xs) P → IfSome (cond b (Some x) (find test xs)) P
    by_test true here more = here
    by_test false here more = more

-- and of the value of the first key that passes
pub of_value : {K X : Type 0} (P : X → Type 0) (test : K → Bool) (xs : List (K × X)) → AllByRecursion (λ x. P x.1) xs → IfSome (lookup test xs) P
of_value P test [] all = tt
of_value P test (x ∷ xs) all = by_test (test x.0) all.0 (of_value P test xs all.1)
  where
    by_test : (b : Bool) → P x.1 → IfSome (lookup test xs) P → IfSome (cond b (Some x.1) (lookup test xs)) P
    by_test true here more = here
    by_test false here more = more

-- and of the last edition, if there is one
pub of_last : (P : Published → Type 0) (editions : List Published) → AllByRecursion P editions → IfSome (last_edition editions) P
of_last P [] all = tt
of_last P (edition ∷ []) all = all.0
of_last P (edition ∷ next ∷ editions) all = of_last P (next ∷ editions) all.1

-- ---- a configuration

both_known : (id counter : ℕ) (rules : List Rule) → AllByRecursion (IsRule id counter) rules → AllByRecursion (λ rule. AllByRecursion HasNameBytes (names_in_rule rule)) rules → AllByRecursion IsRuleInRange rules
both_known id counter [] are named = tt
both_known id counter (rule ∷ rules) are named =
    (record { number = are.0.number.most_ge; words = rule_is_silent rule named.0 }, both_known id counter rules are.1 named.1)

-- its rules are in the ranges of their lines
pub rules_in_range : (config : Configuration) → IsPrintableConfig config → AllByRecursion IsRuleInRange config.rules
rules_in_range config is = both_known config.greatest_id config.greatest_counter config.rules is.lawful.rules is.rules

-- no name ends a line
pub names_are_silent : (names : List (List ℕ)) → AllByRecursion IsFlowNameText names → AllByRecursion (λ name. lines_in name ≡ 0) names
names_are_silent [] all = tt
names_are_silent (name ∷ names) all = (name_is_silent name all.0.text.bytes, names_are_silent names all.1)

-- the table of a name is in the ranges of its lines
pub table_in_range : (tables : NamedTables) (name : List ℕ) → AllByRecursion (λ named. IsPrintableTable named.1) tables → IfSome (table_named tables name) IsPrintableTable
table_in_range tables name all = of_value IsPrintableTable _ tables all
