-- The lines of a load's script, one after the other.
use Rattle.std.proofs.Common.{◌≡◌, ℕ, if◌then◌else◌, false, Result, Ok, Some, List, [], ◌∷◌, ◌++◌, codes, refl, ap, ◌∙◌}
use Rattle.std.specs.List.{onto_first}
use Rattle.fw_lex.specs.Words.{before_comment, first_bad, tokens_from, tokens_in, tokens_of}
use Rattle.ipfw_parser.specs.Reading.{same, first, words_behind_word, negation}
use Rattle.ipfw_parser.specs.Parts.{part_before, part_behind}
use Rattle.ipfw_parser.specs.Names.{place, service_names, service_ports, service, starts_with_colon}
use Rattle.ipfw_parser.specs.Numbers.{digits_value, decimal as decimal_of, number, starts_with_digit}
use Rattle.ipfw_parser.specs.Lists.{elements, elements_outside, each_element, type_mask, types}
use Rattle.ipfw_parser.specs.Addresses.{octet_in, octet_and_dot, address_in, address, prefix, item, items, addr_spec}
use Rattle.ipfw_parser.specs.Addresses6.{has_colon}
use Rattle.ipfw_parser.specs.Ports.{port, range, ranges, port_list, source_ports, looks_like_ports, begin_with_ports, destination_ports}
use Rattle.ipfw_parser.specs.Options.{plain_test, test_of, has_argument, test_from, is_state, option, made_flow, state, options}
use Rattle.ipfw_parser.specs.Rules.{rule_number, rule_set, plain_action, action, log, family, names_version, protocol, body, rule, rule_in, end_column, check_state, check_end, looked_up_flow, matching_rule}
use Rattle.fw_command.specs.Ends.{result_at_end}
use Rattle.fw_command.specs.Lines.{lines_of}
use Rattle.fw_command.specs.Statements.{says, words_say, statement, live_statement, addition}
use Rattle.fw_command.specs.Scripts.{script_from, statement_at, first_place, with_command, ◌>>=◌}
use Rattle.fw_command.specs.declared.script.Pace.TheVariants.{Serial}
use Rattle.fw_command.specs.declared.script.Script.{Script}
use Rattle.fw_command.specs.declared.script_fault.ScriptFault.{ScriptFault}
use Rattle.fw_command.specs.declared.script.Line.{Line}
use Rattle.fw_rule.specs.declared.action.Action.TheVariants.{Allow, Deny}
use Rattle.fw_rule.specs.declared.command.Command.TheVariants.{Add}
use Rattle.rule_chain.specs.LastRule.{any_body}
use Rattle.load_maker.specs.Load as load
use Rattle.load_laws.specs.MadeScript.{lookup_draft, draft, connection_body, question_body, echo_body}
use Rattle.rule_round_trip.proofs.Numbers.Digits.{IsFree}
use Rattle.fw_command.proofs.Pieces.{lines_of-cons}

-- the lines of rules, the line `live`, and others
unfoldable pub rule_lines : List (List ℕ) → List (List ℕ)
rule_lines others =
    codes "add 100 check-state"
    ∷ codes "add 200 allow tcp from 10.0.0.0/24 to any 80 setup keep-state"
    ∷ codes "add 300 allow udp from 10.0.0.0/24 to any 53 keep-state"
    ∷ codes "add 400 allow icmp from any to any icmptypes 0,8"
    ∷ codes "add 500 deny ip from any to any"
    ∷ codes "live"
    ∷ others

-- a load's script has these lines, and those of what stands behind `after `
pub lines_behind : (more : List ℕ) → lines_of (load.script_start ++ more) ≡ rule_lines (lines_of (codes "after " ++ more))
unfolding lines_of load.script_start rule_lines
lines_behind more = refl

-- a text without line ends before one is a line
pub line_before : (text rest : List ℕ) → IsFree 10 text → lines_of (text ++ 10 ∷ rest) ≡ text ∷ lines_of rest
line_before [] rest free = lines_of-cons 10 rest
line_before (b ∷ text) rest free =
    lines_of-cons b (text ++ 10 ∷ rest)
    ∙ ap (λ t. if t then [] ∷ lines_of (text ++ 10 ∷ rest) else onto_first b (lines_of (text ++ 10 ∷ rest))) free.0 ∙ ap (onto_first b) (line_before text rest free.1)

-- the last line
pub last_line : lines_of (codes "delete 300\n") ≡ codes "delete 300" ∷ []
unfolding lines_of
last_line = refl

-- the script behind a line of a rule, with its command
abbrev pub with_line : Line → Result Script ScriptFault → Result Script ScriptFault
with_line line behind = behind >>= λ script. Ok (with_command false line script)

-- the lines of rules and `live` are read as these rules, whatever stands behind them
pub rules_read : (others : List (List ℕ))
    → script_from Serial first_place (rule_lines others)
    ≡ with_line (record { line = 1; command = Add lookup_draft })
    (with_line (record { line = 2; command = Add (draft 200 Allow connection_body) })
    (with_line (record { line = 3; command = Add (draft 300 Allow question_body) })
    (with_line (record { line = 4; command = Add (draft 400 Allow echo_body) })
    (with_line (record { line = 5; command = Add (draft 500 Deny any_body) })
    (script_from Serial (record { line = 7; live = Some 6; ran = 0 }) others >>= λ script. Ok script)))))
unfolding rule_lines script_from statement_at says words_say statement live_statement result_at_end addition rule_in rule rule_number rule_set end_column check_state check_end looked_up_flow number decimal_of digits_value starts_with_digit first same before_comment first_bad tokens_from tokens_in tokens_of words_behind_word negation part_before part_behind place service_names service_ports service starts_with_colon elements elements_outside each_element type_mask types octet_in octet_and_dot address_in address prefix item items addr_spec has_colon port range ranges port_list source_ports looks_like_ports begin_with_ports destination_ports plain_test test_of has_argument test_from is_state option made_flow state options plain_action action log family names_version protocol body matching_rule
rules_read others = refl
