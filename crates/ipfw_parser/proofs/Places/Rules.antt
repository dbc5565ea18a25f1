-- The first fault of a rule stands where one of its words begins, or at the end.
use Rattle.std.proofs.Common.{ℕ, zero, suc, Bool, true, false, Option, Some, None, Result, Ok, Err, List, [], ◌∷◌, length, drop, map, codes, refl, sym, inl, inr, subst}
use Rattle.std.specs.Prelude.{IfErr}
use Rattle.fw_lex.specs.Words.{before_comment}
use Rattle.fw_rule.specs.FlowName.{default_flow}
use Rattle.fw_rule.specs.declared.action.Action.{Action}
use Rattle.fw_rule.specs.declared.action.Action.TheVariants.{SkipTo, Call}
use Rattle.fw_rule.specs.declared.test.Test.{Test}
use Rattle.fw_rule.specs.declared.port_list.PortList.{PortList}
use Rattle.ipfw_parser.specs.declared.kind.Kind.TheVariants.{UnknownWord, Misplaced, SecondState}
use Rattle.ipfw_parser.specs.Reading.{Word, Fault, WordReading, fault_at, ◌>>=◌, same, first, words_behind_word, negation, word_at}
use Rattle.ipfw_parser.specs.Numbers.{number, set_number, starts_with_digit}
use Rattle.ipfw_parser.specs.Names.{table_name, starts_with_colon, is_any_flow, named_flow, code}
use Rattle.ipfw_parser.specs.Addresses.{items, addr_spec}
use Rattle.ipfw_parser.specs.Ports.{ranges, port_list, some_ports, source_ports, begin_with_ports, destination_ports}
use Rattle.ipfw_parser.specs.Options.{field, limit_mask, plain_test, lookup, test_of, has_argument, test_by, test_from, is_state, option, made_flow, limit_behind, state, options}
use Rattle.ipfw_parser.specs.Rules.{rule_number, set_behind, rule_set, plain_action, action_by, action, amount_behind, amount, log, protocol, body, looked_up_flow, check_end, check_state, matching_rule, rule, end_column, rule_in}
use Rattle.ipfw_parser.specs.Places.{IsColumn, FaultsStandAtWords}
use Rattle.ipfw_parser.proofs.Places.Words.{Told, Within, Any, Rest, bind_told, if_told, bind_word, told_more, rest_more, all_words, one_less, after_first, first_told, bind_first, number_at, set_at, name_at, flow_at, code_at, items_at, ranges_at, field_at, limit_mask_at, test_of_in, protocol_at}

-- readings of words
pub expected_in : (name : List ℕ) (end : ℕ) (words : List Word) → Told end words (λ rest. Within end rest words) (words_behind_word name end words)
unfolding words_behind_word
expected_in name end words =
    after_first end words _ (λ rest. Within end rest words) (λ next here more.
    if_told end words (same next.0.text name) (Ok next.1) (fault_at next.0.column UnknownWord) (λ rest. Within end rest words) more here)

negation_in : (end : ℕ) (words : List Word) → Told end words (Rest end words) (negation end words)
unfolding negation
negation_in end words =
    after_first end words _ (Rest end words) (λ next here more.
    if_told end words (same next.0.text (codes "not")) (Ok (true, next.1)) (Ok (false, words)) (Rest end words) more (all_words end words))

addr_spec_in : (end : ℕ) (words : List Word) → Told end words (Rest end words) (addr_spec end words)
unfolding addr_spec
addr_spec_in end words =
    bind_told end words (negation end words) _ (Rest end words) (Rest end words) (negation_in end words) (λ negated more.
    rest_more end negated.1 words _ more (after_first end negated.1 _ (Rest end negated.1) (λ list here less.
    bind_word end negated.1 list.0.column (items list.0) _ (Rest end negated.1) here (items_at list.0) (λ xs. less))))

port_list_in : (end : ℕ) (words : List Word) → Told end words (Rest end words) (port_list end words)
unfolding port_list
port_list_in end words =
    bind_told end words (negation end words) _ (Rest end words) (Rest end words) (negation_in end words) (λ negated more.
    rest_more end negated.1 words _ more (after_first end negated.1 _ (Rest end negated.1) (λ list here less.
    bind_word end negated.1 list.0.column (ranges list.0) _ (Rest end negated.1) here (ranges_at list.0) (λ xs. less))))

some_in : (end : ℕ) (words : List Word) (reading : WordReading PortList) → Told end words (Rest end words) reading → Told end words (Rest end words) (some_ports reading)
some_in end words (Ok read) p = p
some_in end words (Err fault) p = p

source_ports_in : (end : ℕ) (words : List Word) → Told end words (Rest end words) (source_ports end words)
unfolding source_ports
source_ports_in end words =
    after_first end words _ (Rest end words) (λ next here more.
    if_told end words (same next.0.text (codes "to")) (Ok (None, words)) (some_ports (port_list end words)) (Rest end words) (all_words end words) (some_in end words (port_list end words) (port_list_in end words)))

destination_ports_in : (end : ℕ) (words : List Word) → Told end words (Rest end words) (destination_ports end words)
unfolding destination_ports
destination_ports_in end words =
    if_told end words (begin_with_ports words) (some_ports (port_list end words)) (Ok (None, words)) (Rest end words) (some_in end words (port_list end words) (port_list_in end words)) (all_words end words)

lookup_in : (end : ℕ) (words : List Word) → Told end words (Rest end words) (lookup end words)
unfolding lookup
lookup_in end words =
    after_first end words _ (Rest end words) (λ which here more.
    bind_word end words which.0.column (field which.0) _ (Rest end words) here (field_at which.0) (λ wanted.
    rest_more end which.1 words _ more (after_first end which.1 _ (Rest end which.1) (λ table there less.
    bind_word end which.1 table.0.column (table_name table.0) _ (Rest end which.1) there (name_at table.0) (λ name. less)))))

test_by_in : (end : ℕ) (word : Word) (words : List Word) (plain : Option Test) → Told end (word ∷ words) (Rest end (word ∷ words)) (test_by end word words plain)
test_by_in end word words (Some t) = one_less end word words
test_by_in end word words None =
    if_told end (word ∷ words) (same word.text (codes "lookup")) (lookup end words) _ (Rest end (word ∷ words)) (rest_more end words (word ∷ words) (lookup end words) (one_less end word words) (lookup_in end words))
    (if_told end (word ∷ words) (has_argument word.text) _ (fault_at word.column UnknownWord) (Rest end (word ∷ words))
    (bind_first end word words _ (Rest end (word ∷ words)) (λ next here more.
    bind_told end (word ∷ words) (test_of word next.0) _ Any (Rest end (word ∷ words)) (test_of_in end (word ∷ words) word next.0 (inl refl) here) (λ t u. more)))
    (inl refl))

test_in : (end : ℕ) (word : Word) (words : List Word) → Told end (word ∷ words) (Rest end (word ∷ words)) (test_from end word words)
unfolding test_from
test_in end word words = test_by_in end word words (plain_test word.text)

-- a word that stands among the words, and what is read from it on
from_word : {X : Type 0} (end : ℕ) (words rest : List Word) (word : Word) (r : WordReading X) → IsColumn end words word.column → Within end rest words → Told end (word ∷ rest) (Rest end (word ∷ rest)) r → Told end words (Rest end words) r
from_word end words rest word r here more told =
    rest_more end (word ∷ rest) words r (λ column at. elim at [ inl e ↦ subst (IsColumn end words) (sym e) here | inr in_rest ↦ more column in_rest ]) told

option_in : (end : ℕ) (word : Word) (words : List Word) → Told end (word ∷ words) (Rest end (word ∷ words)) (option end word words)
unfolding option
option_in end word words =
    if_told end (word ∷ words) (same word.text (codes "not")) _ _ (Rest end (word ∷ words))
    (bind_first end word words _ (Rest end (word ∷ words)) (λ next here more.
    if_told end (word ∷ words) (is_state next.0.text) (fault_at word.column Misplaced) _ (Rest end (word ∷ words)) (inl refl)
    (bind_told end (word ∷ words) (test_from end next.0 next.1) _ (Rest end (word ∷ words)) (Rest end (word ∷ words)) (from_word end (word ∷ words) next.1 next.0 (test_from end next.0 next.1) here more (test_in end next.0 next.1)) (λ t less. less))))
    (bind_told end (word ∷ words) (test_from end word words) _ (Rest end (word ∷ words)) (Rest end (word ∷ words)) (test_in end word words) (λ t less. less))

made_flow_in : (end : ℕ) (words : List Word) → Told end words (Rest end words) (made_flow words)
unfolding made_flow
made_flow_in end [] = all_words end []
made_flow_in end (word ∷ words) =
    if_told end (word ∷ words) (starts_with_colon word.text) _ (Ok (default_flow, word ∷ words)) (Rest end (word ∷ words))
    (if_told end (word ∷ words) (is_any_flow word.text) (fault_at word.column Misplaced) _ (Rest end (word ∷ words)) (inl refl)
    (bind_word end (word ∷ words) word.column (named_flow word) _ (Rest end (word ∷ words)) (inl refl) (flow_at word) (λ name. one_less end word words)))
    (all_words end (word ∷ words))

limit_in : (end : ℕ) (words : List Word) → Told end words (Rest end words) (limit_behind end words)
unfolding limit_behind
limit_in end words =
    after_first end words _ (Rest end words) (λ mask here more.
    bind_word end words mask.0.column (limit_mask mask.0) _ (Rest end words) here (limit_mask_at mask.0) (λ wanted.
    rest_more end mask.1 words _ more (after_first end mask.1 _ (Rest end mask.1) (λ most there less.
    bind_word end mask.1 most.0.column (number 1 65535 most.0) _ (Rest end mask.1) there (number_at 1 65535 most.0) (λ n.
    rest_more end most.1 mask.1 _ less (bind_told end most.1 (made_flow most.1) _ (Rest end most.1) (Rest end most.1) (made_flow_in end most.1) (λ flow behind. behind)))))))

state_in : (end : ℕ) (word : Word) (words : List Word) → Told end (word ∷ words) (Rest end (word ∷ words)) (state end word words)
unfolding state
state_in end word words =
    if_told end (word ∷ words) (same word.text (codes "keep-state")) _ _ (Rest end (word ∷ words))
    (rest_more end words (word ∷ words) _ (one_less end word words) (bind_told end words (made_flow words) _ (Rest end words) (Rest end words) (made_flow_in end words) (λ flow behind. behind)))
    (if_told end (word ∷ words) (same word.text (codes "limit")) (limit_behind end words) _ (Rest end (word ∷ words))
    (rest_more end words (word ∷ words) (limit_behind end words) (one_less end word words) (limit_in end words)) (inl refl))

options_in : (limit end : ℕ) (seen : Bool) (words : List Word) → Told end words Any (options limit end seen words)
unfolding options
options_in limit end seen [] = tt
options_in zero end seen (word ∷ words) = tt
options_in (suc limit) end seen (word ∷ words) =
    if_told end (word ∷ words) (is_state word.text) _ _ Any
    (if_told end (word ∷ words) seen (fault_at word.column SecondState) _ Any (inl refl)
    (bind_told end (word ∷ words) (state end word words) _ (Rest end (word ∷ words)) Any (state_in end word words) (λ made more.
    bind_told end (word ∷ words) (options limit end true made.1) _ Any Any (told_more end made.1 (word ∷ words) (options limit end true made.1) more (options_in limit end true made.1)) (λ p u. tt))))
    (bind_told end (word ∷ words) (option end word words) _ (Rest end (word ∷ words)) Any (option_in end word words) (λ made more.
    bind_told end (word ∷ words) (options limit end seen made.1) _ Any Any (told_more end made.1 (word ∷ words) (options limit end seen made.1) more (options_in limit end seen made.1)) (λ p u. tt)))

body_in : (end : ℕ) (words : List Word) → Told end words Any (body end words)
unfolding body
body_in end words =
    after_first end words _ Any (λ next here more.
    bind_word end words next.0.column (protocol next.0) _ Any here (protocol_at next.0) (λ asked.
    told_more end next.1 words _ more (bind_told end next.1 (words_behind_word (codes "from") end next.1) _ (λ rest. Within end rest next.1) Any (expected_in (codes "from") end next.1) (λ from_end in_from.
    told_more end from_end next.1 _ in_from (bind_told end from_end (addr_spec end from_end) _ (Rest end from_end) Any (addr_spec_in end from_end) (λ source in_source.
    told_more end source.1 from_end _ in_source (bind_told end source.1 (source_ports end source.1) _ (Rest end source.1) Any (source_ports_in end source.1) (λ ports in_ports.
    told_more end ports.1 source.1 _ in_ports (bind_told end ports.1 (words_behind_word (codes "to") end ports.1) _ (λ rest. Within end rest ports.1) Any (expected_in (codes "to") end ports.1) (λ to_end in_to.
    told_more end to_end ports.1 _ in_to (bind_told end to_end (addr_spec end to_end) _ (Rest end to_end) Any (addr_spec_in end to_end) (λ target in_target.
    told_more end target.1 to_end _ in_target (bind_told end target.1 (destination_ports end target.1) _ (Rest end target.1) Any (destination_ports_in end target.1) (λ target_ports in_ports_of.
    told_more end target_ports.1 target.1 _ in_ports_of (bind_told end target_ports.1 (options (length target_ports.1) end false target_ports.1) _ Any Any (options_in (length target_ports.1) end false target_ports.1) (λ placed u. tt))))))))))))))))

rule_number_in : (end : ℕ) (words : List Word) → Told end words (Rest end words) (rule_number end words)
unfolding rule_number
rule_number_in end words =
    after_first end words _ (Rest end words) (λ next here more.
    if_told end words (starts_with_digit next.0.text) _ (Ok (None, words)) (Rest end words)
    (bind_word end words next.0.column (number 0 65535 next.0) _ (Rest end words) here (number_at 0 65535 next.0) (λ n. more))
    (all_words end words))

-- the fault of what stands behind `set` stands at a word or at the end
pub set_behind_in : (end : ℕ) (words : List Word) → Told end words (Rest end words) (set_behind end words)
unfolding set_behind
set_behind_in end words =
    after_first end words _ (Rest end words) (λ which here more.
    bind_word end words which.0.column (set_number which.0) _ (Rest end words) here (set_at which.0) (λ n. more))

rule_set_in : (end : ℕ) (words : List Word) → Told end words (Rest end words) (rule_set end words)
unfolding rule_set
rule_set_in end words =
    after_first end words _ (Rest end words) (λ next here more.
    if_told end words (same next.0.text (codes "set")) (set_behind end next.1) (Ok (0, words)) (Rest end words)
    (rest_more end next.1 words (set_behind end next.1) more (set_behind_in end next.1)) (all_words end words))

-- a number behind a word, made an action
number_in : {X : Type 0} (least most end : ℕ) (words : List Word) (made : ℕ → X) → Told end words (Rest end words) (first end words >>= λ next. number least most next.0 >>= λ n. Ok (made n, next.1))
number_in least most end words made =
    after_first end words _ (Rest end words) (λ next here more.
    bind_word end words next.0.column (number least most next.0) _ (Rest end words) here (number_at least most next.0) (λ n. more))

action_by_in : (end : ℕ) (word : Word) (words : List Word) (plain : Option Action) → Told end (word ∷ words) (Rest end (word ∷ words)) (action_by end word words plain)
action_by_in end word words (Some a) = one_less end word words
action_by_in end word words None =
    if_told end (word ∷ words) (same word.text (codes "unreach")) _ _ (Rest end (word ∷ words))
    (rest_more end words (word ∷ words) _ (one_less end word words) (after_first end words _ (Rest end words) (λ next here more.
    bind_word end words next.0.column (code next.0) _ (Rest end words) here (code_at next.0) (λ n. more))))
    (if_told end (word ∷ words) (same word.text (codes "skipto")) _ _ (Rest end (word ∷ words))
    (rest_more end words (word ∷ words) _ (one_less end word words) (number_in 1 65535 end words (λ n. SkipTo n)))
    (if_told end (word ∷ words) (same word.text (codes "call")) _ (fault_at word.column UnknownWord) (Rest end (word ∷ words))
    (rest_more end words (word ∷ words) _ (one_less end word words) (number_in 1 65535 end words (λ n. Call n)))
    (inl refl)))

action_in : (end : ℕ) (word : Word) (words : List Word) → Told end (word ∷ words) (Rest end (word ∷ words)) (action end word words)
unfolding action
action_in end word words = action_by_in end word words (plain_action word.text)

amount_behind_in : (end : ℕ) (words : List Word) → Told end words (Rest end words) (amount_behind end words)
unfolding amount_behind
amount_behind_in end words = number_in 0 4294967295 end words (λ n. n)

amount_in : (end : ℕ) (words : List Word) → Told end words (Rest end words) (amount end words)
unfolding amount
amount_in end words =
    after_first end words _ (Rest end words) (λ next here more.
    if_told end words (same next.0.text (codes "logamount")) (amount_behind end next.1) (Ok (0, words)) (Rest end words)
    (rest_more end next.1 words (amount_behind end next.1) more (amount_behind_in end next.1)) (all_words end words))

log_in : (end : ℕ) (words : List Word) → Told end words (Rest end words) (log end words)
unfolding log
log_in end words =
    after_first end words _ (Rest end words) (λ next here more.
    if_told end words (same next.0.text (codes "log")) _ (Ok (None, words)) (Rest end words)
    (bind_told end words (amount end next.1) _ (Rest end words) (Rest end words) (rest_more end next.1 words (amount end next.1) more (amount_in end next.1)) (λ found_amount less. less))
    (all_words end words))

looked_up_in : (end : ℕ) (words : List Word) → Told end words (Rest end words) (looked_up_flow words)
unfolding looked_up_flow
looked_up_in end [] = all_words end []
looked_up_in end (word ∷ words) =
    if_told end (word ∷ words) (starts_with_colon word.text) _ (Ok (Some default_flow, word ∷ words)) (Rest end (word ∷ words))
    (if_told end (word ∷ words) (is_any_flow word.text) (Ok (None, words)) _ (Rest end (word ∷ words)) (one_less end word words)
    (bind_word end (word ∷ words) word.column (named_flow word) _ (Rest end (word ∷ words)) (inl refl) (flow_at word) (λ name. one_less end word words)))
    (all_words end (word ∷ words))

check_end_in : (numbered : Option ℕ) (in_set end : ℕ) (flow : Option (List ℕ)) (words : List Word) → Told end words Any (check_end numbered in_set flow words)
unfolding check_end
check_end_in numbered in_set end flow [] = tt
check_end_in numbered in_set end flow (word ∷ words) = inl refl

check_in : (numbered : Option ℕ) (in_set end : ℕ) (words : List Word) → Told end words Any (check_state numbered in_set words)
unfolding check_state
check_in numbered in_set end words =
    bind_told end words (looked_up_flow words) _ (Rest end words) Any (looked_up_in end words) (λ flow more.
    told_more end flow.1 words (check_end numbered in_set flow.0 flow.1) more (check_end_in numbered in_set end flow.0 flow.1))

matching_in : (numbered : Option ℕ) (in_set end : ℕ) (word : Word) (words : List Word) → Told end (word ∷ words) Any (matching_rule numbered in_set end word words)
unfolding matching_rule
matching_in numbered in_set end word words =
    bind_told end (word ∷ words) (action end word words) _ (Rest end (word ∷ words)) Any (action_in end word words) (λ made in_made.
    told_more end made.1 (word ∷ words) _ in_made (bind_told end made.1 (log end made.1) _ (Rest end made.1) Any (log_in end made.1) (λ logged in_log.
    told_more end logged.1 made.1 _ in_log (bind_told end logged.1 (body end logged.1) _ Any Any (body_in end logged.1) (λ asked u. tt)))))

rule_told : (end : ℕ) (words : List Word) → Told end words Any (rule end words)
unfolding rule
rule_told end words =
    bind_told end words (rule_number end words) _ (Rest end words) Any (rule_number_in end words) (λ numbered in_numbered.
    told_more end numbered.1 words _ in_numbered (bind_told end numbered.1 (rule_set end numbered.1) _ (Rest end numbered.1) Any (rule_set_in end numbered.1) (λ in_set in_rest.
    told_more end in_set.1 numbered.1 _ in_rest (first_told end in_set.1 _ Any (λ word rest.
    if_told end (word ∷ rest) (same word.text (codes "check-state")) (check_state numbered.0 in_set.0 rest) (matching_rule numbered.0 in_set.0 end word rest) Any
    (told_more end rest (word ∷ rest) (check_state numbered.0 in_set.0 rest) (one_less end word rest) (check_in numbered.0 in_set.0 end rest))
    (matching_in numbered.0 in_set.0 end word rest))))))

told_err : {X : Type 0} (end : ℕ) (words : List Word) (r : Result X Fault) → Told end words Any r → IfErr r (λ fault. IsColumn end words fault.column)
told_err end words (Ok x) p = tt
told_err end words (Err fault) p = p

-- the first fault of a rule stands at a word of it, or at the line's end
pub rule_stands : FaultsStandAtWords
unfolding rule_in
rule_stands line tokens skipped =
    told_err (end_column (length (before_comment line)) tokens) (drop skipped (map (word_at line) tokens)) (rule (end_column (length (before_comment line)) tokens) (drop skipped (map (word_at line) tokens)))
    (rule_told (end_column (length (before_comment line)) tokens) (drop skipped (map (word_at line) tokens)))
