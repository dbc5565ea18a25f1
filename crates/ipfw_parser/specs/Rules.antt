-- The words of a rule (ipfw(8), "RULE FORMAT").
use Rattle.std.specs.Prelude.{ℕ, ◌+◌, ◌-◌, Bool, true, false, ◌||◌, if◌then◌else◌, Option, Some, None, Result, Ok, List, [], ◌∷◌, length, codes, drop, map, slice_get}
use Rattle.fw_rule.specs.declared.action.Action.{Action}
use Rattle.fw_rule.specs.declared.action.Action.TheVariants.{Allow, Deny, Reset, Unreach, Count, SkipTo, Call, Return, CheckState}
use Rattle.fw_rule.specs.FlowName.{default_flow}
use Rattle.fw_rule.specs.declared.body.Family.{Family}
use Rattle.fw_rule.specs.declared.body.Family.TheVariants.{AnyIp, Four, Six}
use Rattle.fw_rule.specs.declared.body.Body.{Body}
use Rattle.fw_rule.specs.declared.rule_draft.RuleDraft.{RuleDraft}
use Rattle.fw_lex.specs.declared.token.Token.{Token}
use Rattle.fw_lex.specs.Words.{before_comment}
use Rattle.ipfw_parser.specs.declared.kind.Kind.TheVariants.{UnknownWord, ExtraWord}
use Rattle.ipfw_parser.specs.Reading.{Word, Fault, WordReading, fault_at, ◌>>=◌, same, first, words_behind_word, word_at}
use Rattle.ipfw_parser.specs.Numbers.{number, starts_with_digit, set_number}
use Rattle.ipfw_parser.specs.Names.{code, starts_with_colon, is_any_flow, named_flow}
use Rattle.ipfw_parser.specs.Addresses.{addr_spec}
use Rattle.ipfw_parser.specs.Ports.{source_ports, destination_ports}
use Rattle.ipfw_parser.specs.Options.{options}

-- a word that begins with a digit is the number
unfoldable pub rule_number : ℕ → List Word → WordReading (Option ℕ)
rule_number end words = do
  next ← first end words
  if starts_with_digit next.0.text then (number 0 65535 next.0 >>= λ n. Ok (Some n, next.1)) else Ok (None, words)

-- the set behind `set`
unfoldable pub set_behind : ℕ → List Word → WordReading ℕ
set_behind end words = do
  which ← first end words
  n ← set_number which.0
  Ok (n, which.1)

-- the set, 0 where none is named
unfoldable pub rule_set : ℕ → List Word → WordReading ℕ
rule_set end words = do
  next ← first end words
  if same next.0.text (codes "set") then set_behind end next.1 else Ok (0, words)

-- the actions that are one word
unfoldable pub plain_action : List ℕ → Option Action
plain_action text =
    if same text (codes "allow") || (same text (codes "accept") || (same text (codes "pass") || same text (codes "permit"))) then Some Allow
    else if same text (codes "deny") || same text (codes "drop") then Some Deny
    else if same text (codes "reset") then Some Reset
    else if same text (codes "reject") then Some (Unreach 1)
    else if same text (codes "count") then Some Count
    else if same text (codes "return") then Some Return
    else None

-- the action that begins with this word, with what stands behind it
abbrev pub action_by : ℕ → Word → List Word → Option Action → WordReading Action
action_by end word words (Some action) = Ok (action, words)
action_by end word words None =
    if same word.text (codes "unreach") then (do
      next ← first end words
      n ← code next.0
      Ok (Unreach n, next.1))
    else if same word.text (codes "skipto") then (do
      next ← first end words
      n ← number 1 65535 next.0
      Ok (SkipTo n, next.1))
    else if same word.text (codes "call") then (do
      next ← first end words
      n ← number 1 65535 next.0
      Ok (Call n, next.1))
    else fault_at word.column UnknownWord

-- an action that begins with this word
unfoldable pub action : ℕ → Word → List Word → WordReading Action
action end word words = action_by end word words (plain_action word.text)

-- the amount behind `logamount`
unfoldable pub amount_behind : ℕ → List Word → WordReading ℕ
amount_behind end words = do
  next ← first end words
  n ← number 0 4294967295 next.0
  Ok (n, next.1)

-- behind `log`: its amount, 0 where none is given
unfoldable pub amount : ℕ → List Word → WordReading ℕ
amount end words = do
  next ← first end words
  if same next.0.text (codes "logamount") then amount_behind end next.1 else Ok (0, words)

-- `log` and its amount
unfoldable pub log : ℕ → List Word → WordReading (Option ℕ)
log end words = do
  next ← first end words
  if same next.0.text (codes "log") then (amount end next.1 >>= λ found. Ok (Some found.0, found.1)) else Ok (None, words)

-- the version of IP that the protocol's word asks for
unfoldable pub family : List ℕ → Family
family text =
    if same text (codes "ip4") || same text (codes "ipv4") then Four
    else if same text (codes "ip6") || same text (codes "ipv6") then Six
    else AnyIp

-- one version of IP
abbrev pub is_version : Family → Bool
is_version AnyIp = false
is_version Four = true
is_version Six = true

-- the text names one version of IP
unfoldable pub names_version : List ℕ → Bool
names_version text = is_version (family text)

-- a protocol by name or by number; 0 is every protocol
unfoldable pub protocol : Word → Result ℕ Fault
protocol word =
    if names_version word.text then Ok 0
    else if starts_with_digit word.text then number 0 255 word
    else if same word.text (codes "ip") || same word.text (codes "all") then Ok 0
    else if same word.text (codes "icmp") then Ok 1
    else if same word.text (codes "tcp") then Ok 6
    else if same word.text (codes "udp") then Ok 17
    else if same word.text (codes "ipv6-icmp") then Ok 58
    else fault_at word.column UnknownWord

-- the body, up to the line's end
unfoldable pub body : ℕ → List Word → Result Body Fault
body end words = do
  next ← first end words
  protocol_number ← protocol next.0
  from_end ← words_behind_word (codes "from") end next.1
  source ← addr_spec end from_end
  ports ← source_ports end source.1
  to_end ← words_behind_word (codes "to") end ports.1
  target ← addr_spec end to_end
  target_ports ← destination_ports end target.1
  placed ← options (length target_ports.1) end false target_ports.1
  Ok (record {
    family = family next.0.text;
    protocol = protocol_number;
    source = source.0;
    source_ports = ports.0;
    destination = target.0;
    destination_ports = target_ports.0;
    options = placed.options;
    state = placed.state;
    state_at = placed.state_at;
  })

-- the flow that is looked up, where a name follows: `default` where none does, and None for every flow
unfoldable pub looked_up_flow : List Word → WordReading (Option (List ℕ))
looked_up_flow [] = Ok (Some default_flow, [])
looked_up_flow (word ∷ words) =
    if starts_with_colon word.text then
    (if is_any_flow word.text then Ok (None, words) else (named_flow word >>= λ name. Ok (Some name, words)))
    else Ok (Some default_flow, word ∷ words)

-- nothing stands behind the flow
unfoldable pub check_end : Option ℕ → ℕ → Option (List ℕ) → List Word → Result RuleDraft Fault
check_end number_read set_read flow [] = Ok (record { number = number_read; set = set_read; action = CheckState flow; log = None; body = None })
check_end number_read set_read flow (word ∷ words) = fault_at word.column ExtraWord

-- behind `check-state`
unfoldable pub check_state : Option ℕ → ℕ → List Word → Result RuleDraft Fault
check_state number_read set_read words = looked_up_flow words >>= λ flow. check_end number_read set_read flow.0 flow.1

-- an action and a body
unfoldable pub matching_rule : Option ℕ → ℕ → ℕ → Word → List Word → Result RuleDraft Fault
matching_rule number_read set_read end word words = do
  made ← action end word words
  logged ← log end made.1
  asked ← body end logged.1
  Ok (record { number = number_read; set = set_read; action = made.0; log = logged.0; body = Some asked })

-- the words of a rule, up to the line's end
unfoldable pub rule : ℕ → List Word → Result RuleDraft Fault
rule end words = do
  numbered ← rule_number end words
  in_set ← rule_set end numbered.1
  next ← first end in_set.1
  if same next.0.text (codes "check-state") then check_state numbered.0 in_set.0 next.1 else matching_rule numbered.0 in_set.0 end next.0 next.1

-- one past the line's last word; one past the part before # where there is none
abbrev pub end_behind : ℕ → Option Token → ℕ
end_behind part None = part + 1
end_behind part (Some token) = token.end + 1

-- the column one past the line's last word, or past the part that was read where there is none
unfoldable pub end_column : ℕ → List Token → ℕ
end_column part tokens = end_behind part (slice_get tokens (length tokens - 1))

-- the rule in a line's words behind the first ones
unfoldable pub rule_in : List ℕ → List Token → ℕ → Result RuleDraft Fault
rule_in line tokens skipped = rule (end_column (length (before_comment line)) tokens) (drop skipped (map (word_at line) tokens))
