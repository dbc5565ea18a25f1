-- The options of a rule's body, and how it makes states.
use Rattle.std.specs.Prelude.{ℕ, ◌+◌, zero, suc, Bool, true, false, ◌||◌, if◌then◌else◌, Option, Some, None, Result, Ok, List, [], ◌∷◌, codes, is_some}
use Rattle.fw_rule.specs.Names.{flag_names, option_names}
use Rattle.fw_rule.specs.FlowName.{default_flow}
use Rattle.fw_rule.specs.declared.test.Field.{Field}
use Rattle.fw_rule.specs.declared.test.Field.TheVariants.{SrcIp, DstIp, SrcPort as SrcPortField, DstPort as DstPortField}
use Rattle.fw_rule.specs.declared.test.Test.{Test}
use Rattle.fw_rule.specs.declared.test.Test.TheVariants.{Inward, Outward, Established, Setup, Frag, Recv, Xmit, Via, TcpFlags, IcmpTypes, Icmp6Types, IpOptions, Lookup}
use Rattle.fw_rule.specs.declared.opt.Opt.{Opt}
use Rattle.fw_rule.specs.declared.state_opt.LimitMask.{LimitMask}
use Rattle.fw_rule.specs.declared.state_opt.LimitMask.TheVariants.{SrcAddr, SrcPort, DstAddr, DstPort}
use Rattle.fw_rule.specs.declared.state_opt.StateOpt.{StateOpt}
use Rattle.fw_rule.specs.declared.state_opt.StateOpt.TheVariants.{Keep, Limit}
use Rattle.ipfw_parser.specs.declared.kind.Kind.TheVariants.{UnknownWord, SecondState, Misplaced}
use Rattle.ipfw_parser.specs.Reading.{Word, Fault, WordReading, fault_at, ◌>>=◌, same, first}
use Rattle.ipfw_parser.specs.Numbers.{number}
use Rattle.ipfw_parser.specs.Names.{iface, table_name, starts_with_colon, is_any_flow, named_flow}
use Rattle.ipfw_parser.specs.Lists.{types, types6, signs}

-- the field that a table is asked for
unfoldable pub field : Word → Result Field Fault
field word =
    if same word.text (codes "src-ip") then Ok SrcIp
    else if same word.text (codes "dst-ip") then Ok DstIp
    else if same word.text (codes "src-port") then Ok SrcPortField
    else if same word.text (codes "dst-port") then Ok DstPortField
    else fault_at word.column UnknownWord

-- what a limit counts by
unfoldable pub limit_mask : Word → Result LimitMask Fault
limit_mask word =
    if same word.text (codes "src-addr") then Ok SrcAddr
    else if same word.text (codes "src-port") then Ok SrcPort
    else if same word.text (codes "dst-addr") then Ok DstAddr
    else if same word.text (codes "dst-port") then Ok DstPort
    else fault_at word.column UnknownWord

-- the tests that are one word
unfoldable pub plain_test : List ℕ → Option Test
plain_test text =
    if same text (codes "in") then Some Inward
    else if same text (codes "out") then Some Outward
    else if same text (codes "established") then Some Established
    else if same text (codes "setup") then Some Setup
    else if same text (codes "frag") then Some Frag
    else None

-- a table's name behind a field
unfoldable pub lookup : ℕ → List Word → WordReading Test
lookup end words = do
  which ← first end words
  found ← field which.0
  table ← first end which.1
  name ← table_name table.0
  Ok (Lookup found name, table.1)

-- the flags behind `tcpflags`
abbrev pub tcp_flags : Word → Result Test Fault
tcp_flags word = signs flag_names word >>= λ masks. Ok (TcpFlags masks.set masks.clear)

-- the options behind `ipoptions`
abbrev pub ip_options : Word → Result Test Fault
ip_options word = signs option_names word >>= λ masks. Ok (IpOptions masks.set masks.clear)

-- the tests that have one word behind their name
unfoldable pub test_of : Word → Word → Result Test Fault
test_of name word =
    if same name.text (codes "recv") then (iface word >>= λ i. Ok (Recv i))
    else if same name.text (codes "xmit") then (iface word >>= λ i. Ok (Xmit i))
    else if same name.text (codes "via") then (iface word >>= λ i. Ok (Via i))
    else if same name.text (codes "tcpflags") then tcp_flags word
    else if same name.text (codes "icmptypes") then (types word >>= λ mask. Ok (IcmpTypes mask))
    else if same name.text (codes "icmp6types") then (types6 word >>= λ set. Ok (Icmp6Types set))
    else if same name.text (codes "ipoptions") then ip_options word
    else fault_at name.column UnknownWord

-- one word stands behind this one
unfoldable pub has_argument : List ℕ → Bool
has_argument text =
    same text (codes "recv") || (same text (codes "xmit") || (same text (codes "via") || (same text (codes "tcpflags") || (same text (codes "icmptypes") || (same text (codes "icmp6types") || same text (codes "ipoptions"))))))

-- the option that begins with this word, with what stands behind it
abbrev pub test_by : ℕ → Word → List Word → Option Test → WordReading Test
test_by end word words (Some test) = Ok (test, words)
test_by end word words None =
    if same word.text (codes "lookup") then lookup end words
    else if has_argument word.text then (do
      next ← first end words
      test ← test_of word next.0
      Ok (test, next.1))
    else fault_at word.column UnknownWord

-- a test that begins with this word
unfoldable pub test_from : ℕ → Word → List Word → WordReading Test
test_from end word words = test_by end word words (plain_test word.text)

-- the word begins a state option
unfoldable pub is_state : List ℕ → Bool
is_state text = same text (codes "keep-state") || same text (codes "limit")

-- an option that begins with this word: a test, or `not` and a test
unfoldable pub option : ℕ → Word → List Word → WordReading Opt
option end word words =
    if same word.text (codes "not") then (do
      next ← first end words
      if is_state next.0.text then fault_at word.column Misplaced else (do
        found ← test_from end next.0 next.1
        Ok (record { negated = true; test = found.0 }, found.1)))
    else (do
      found ← test_from end word words
      Ok (record { negated = false; test = found.0 }, found.1))

-- the flow that states are of, where a name follows: `default` where none does, and one flow alone
unfoldable pub made_flow : List Word → WordReading (List ℕ)
made_flow [] = Ok (default_flow, [])
made_flow (word ∷ words) =
    if starts_with_colon word.text then
    (if is_any_flow word.text then fault_at word.column Misplaced else (named_flow word >>= λ name. Ok (name, words)))
    else Ok (default_flow, word ∷ words)

-- behind `limit`: what is counted by, how many states there may be, and their flow
unfoldable pub limit_behind : ℕ → List Word → WordReading StateOpt
limit_behind end words = do
  mask ← first end words
  found ← limit_mask mask.0
  most ← first end mask.1
  n ← number 1 65535 most.0
  flow ← made_flow most.1
  Ok (Limit found n flow.0, flow.1)

-- how states are made, beginning with this word
unfoldable pub state : ℕ → Word → List Word → WordReading StateOpt
state end word words =
    if same word.text (codes "keep-state") then (made_flow words >>= λ flow. Ok (Keep flow.0, flow.1))
    else if same word.text (codes "limit") then limit_behind end words
    else fault_at word.column UnknownWord

-- options, and the state with its place among them
pub record Placed : Type 0 where
  pub options : List Opt
  pub state : Option StateOpt
  pub state_at : ℕ

-- one more option in front
abbrev pub with_option : Opt → Placed → Placed
with_option found placed = record { options = found ∷ placed.options; state = placed.state; state_at = if is_some placed.state then placed.state_at + 1 else placed.state_at }

-- the state in front of the options
abbrev pub with_state : StateOpt → Placed → Placed
with_state found placed = record { options = placed.options; state = Some found; state_at = 0 }

-- The options up to the line's end. There is one state at most: `seen` says that it was read. There are
-- no more options than words.
unfoldable pub options : ℕ → ℕ → Bool → List Word → Result Placed Fault
options limit end seen [] = Ok (record { options = []; state = None; state_at = 0 })
options zero end seen (word ∷ words) = Ok (record { options = []; state = None; state_at = 0 })
options (suc limit) end seen (word ∷ words) =
    if is_state word.text then
    (if seen then fault_at word.column SecondState else (do
      made ← state end word words
      rest ← options limit end true made.1
      Ok (with_state made.0 rest)))
    else (do
      made ← option end word words
      rest ← options limit end seen made.1
      Ok (with_option made.0 rest))
