-- Which lists of words are a command, and what they name. The usage:
--
--   ipfw_replay serial|live [--journal] [--cache N] [--] SCRIPT in|out:IF:CAPTURE ..
--   ipfw_replay load [--] N
--   ipfw_replay audit [--] REPORT SCRIPT in|out:IF:CAPTURE ..
--
-- The first word is the mode, exactly so. Behind it the first `--` is dropped, and all words behind that are
-- positional. Of the words before it, or of all where there is none, those that begin with `-` and are longer
-- than that byte are options, and the others positional, but for the value of an option: the options `--journal`
-- and `--cache N` or `--cache=N` may stand at any place there, each once and with `serial` and `live` alone, and no
-- other option may. N is one to five decimal digits, 1 to 65,536: how many verdicts each lane's cache may hold. A
-- replay wants the name of a script, which isn't empty, and then 1 to 16 captures. A load wants its number of
-- records, one to seven decimal digits, 1 to 1,000,000. An audit wants the name of a report, which isn't empty, and
-- then what a replay wants. All other lists of words are no command; `help` and
-- `--help` are none.
use Rattle.std.specs.Prelude.{ℕ, Bool, ◌&&◌, ◌||◌, not, true, false, List, [], ◌∷◌, length, codes, Option, None, Some, is_some, ◌==◌, nat_le, if◌then◌else◌}
use Rattle.std.specs.List.{list_all}
use Rattle.std.specs.Option.{option_map}
use Rattle.std.specs.Char.{is_ascii_digit}
use Rattle.fw_base.specs.Name.{is_name_byte}
use Rattle.std.specs.Str.Parse.{digits_value}
use Rattle.fw_base.specs.declared.port.Direction.{Direction}
use Rattle.fw_base.specs.declared.port.Direction.TheVariants.{In, Out}
use Rattle.command_words.specs.declared.invocation.Mode.{Mode}
use Rattle.command_words.specs.declared.invocation.Mode.TheVariants.{Serial, Live}
use Rattle.fw_base.specs.Chain.{◌>>=◌}
use Rattle.command_words.specs.Bytes.{is_same, is_empty, cut_at}

-- ---- what a command names

-- a capture: which way its packets passed which interface, and its name
pub record CaptureNames : Type 0 where
  pub direction : Direction
  pub interface : List ℕ
  pub name : List ℕ

-- captures that are replayed beside a script, with the journal or without, and with caches for so many verdicts or
-- without; a load of so many records; or a report that is audited beside a script and captures
pub data CommandWords : Type 0 where
  Replay : (mode : Mode) (journal : Bool) (cache : Option ℕ) (script : List ℕ) (captures : List CaptureNames) → CommandWords
  Load : (records : ℕ) → CommandWords
  Audit : (report script : List ℕ) (captures : List CaptureNames) → CommandWords

-- ---- a capture's word

-- an interface's name has one to fifteen bytes: letters, digits, `_`, `.` and `-`
unfoldable pub is_interface : List ℕ → Bool
is_interface name = (nat_le 1 (length name) && nat_le (length name) 15) && list_all is_name_byte name

-- `in` or `out`, and no other word
unfoldable pub direction_of : List ℕ → Option Direction
direction_of word =
    if is_same word (codes "in") then Some In
    else if is_same word (codes "out") then Some Out
    else None

-- It has the direction, the interface and the name, with colons between them. The name may hold colons and
-- isn't empty.
unfoldable pub capture_of : List ℕ → Option CaptureNames
capture_of word = do
  first ← cut_at 58 word
  direction ← direction_of first.0
  second ← cut_at 58 first.1
  if is_interface second.0 && not (is_empty second.1)
      then Some (record { direction = direction; interface = second.0; name = second.1 })
      else None

-- each of the words is that of a capture
unfoldable pub captures_of : List (List ℕ) → Option (List CaptureNames)
captures_of [] = Some []
captures_of (word ∷ words) = capture_of word >>= λ capture. option_map (λ rest. capture ∷ rest) (captures_of words)

-- ---- a load's word

-- one to seven decimal digits, 1 to 1,000,000
unfoldable pub load_number : List ℕ → Option ℕ
load_number word =
    if (nat_le 1 (length word) && nat_le (length word) 7) && list_all is_ascii_digit word
    then (if nat_le 1 (digits_value 10 word) && nat_le (digits_value 10 word) 1000000 then Some (digits_value 10 word) else None)
    else None

-- ---- a cache's word

-- one to five decimal digits, 1 to 65,536
unfoldable pub cache_number : List ℕ → Option ℕ
cache_number word =
    if (nat_le 1 (length word) && nat_le (length word) 5) && list_all is_ascii_digit word
    then (if nat_le 1 (digits_value 10 word) && nat_le (digits_value 10 word) 65536 then Some (digits_value 10 word) else None)
    else None

-- ---- options and positional words

-- the word behind which all words are operands
abbrev pub is_divider : List ℕ → Bool
is_divider word = is_same word (codes "--")

-- a word that begins with `-` and is longer than that byte
unfoldable pub is_option : List ℕ → Bool
is_option [] = false
is_option (byte ∷ []) = false
is_option (byte ∷ other ∷ rest) = byte == 45

-- what options and operands give: whether the journal is asked for, the values of the options `--cache`, and the
-- operands
pub record Given : Type 0 where
  pub journal : Bool
  pub caches : List (List ℕ)
  pub positional : List (List ℕ)

-- these operands, and no option
abbrev pub operands : List (List ℕ) → Given
operands words = record { journal = false; caches = []; positional = words }

-- the option `--journal` before these, among which it may not stand
abbrev pub with_journal : Given → Option Given
with_journal given = if given.journal then None else Some (record given { journal = true })

-- a value of `--cache` before these
abbrev pub with_value : List ℕ → Given → Given
with_value value given = record given { caches = value ∷ given.caches }

-- an operand before these
abbrev pub with_operand : List ℕ → Given → Given
with_operand word given = record given { positional = word ∷ given.positional }

-- the value that an option `--cache` waits for; where no operand is behind it, it has none, which is as an empty one
abbrev pub without_value : Bool → Given → Given
without_value awaits given = if awaits then with_value [] given else given

-- what stands behind this beginning of a word, if the word begins so
abbrev pub stripped : List ℕ → List ℕ → Option (List ℕ)
stripped [] word = Some word
stripped (first ∷ beginning) [] = None
stripped (first ∷ beginning) (byte ∷ word) = if byte == first then stripped beginning word else None

-- an option before other words, which give this, and that where they have to begin with a value of `--cache`
abbrev pub by_option : List ℕ → Option Given → Option Given → Option Given
by_option word given awaiting =
    if is_same word (codes "--journal") then given >>= with_journal
    else if is_same word (codes "--cache") then awaiting
    else stripped (codes "--cache=") word >>= λ value. option_map (with_value value) given

-- What the words give, where an option `--cache` waits for its value, or none does.
unfoldable pub given_by : Bool → List (List ℕ) → Option Given
given_by awaits [] = Some (without_value awaits (operands []))
given_by awaits (word ∷ words) =
    if is_divider word then Some (without_value awaits (operands words))
    else if is_option word then option_map (without_value awaits) (by_option word (given_by false words) (given_by true words))
    else if awaits then option_map (with_value word) (given_by false words)
    else option_map (with_operand word) (given_by false words)

-- what the words behind the first come to
pub record Arguments : Type 0 where
  pub journal : Bool
  pub cache : Option ℕ
  pub positional : List (List ℕ)

-- how many verdicts a cache may hold, where the values of `--cache` are none or one number
unfoldable pub cache_of : List (List ℕ) → Option (Option ℕ)
cache_of [] = Some None
cache_of (value ∷ []) = option_map Some (cache_number value)
cache_of (value ∷ other ∷ more) = None

-- the options and the operands
abbrev pub arguments_from : Given → Option Arguments
arguments_from given = option_map (λ cache. record { journal = given.journal; cache = cache; positional = given.positional }) (cache_of given.caches)

-- what the words behind the first come to, where they are options and operands
abbrev pub arguments_of : List (List ℕ) → Option Arguments
arguments_of words = given_by false words >>= arguments_from

-- ---- commands

-- a script's name and 1 to 16 captures
unfoldable pub replay_of : Mode → Bool → Option ℕ → List (List ℕ) → Option CommandWords
replay_of mode journal cache [] = None
replay_of mode journal cache (script ∷ captures) =
    if not (is_empty script) && (nat_le 1 (length captures) && nat_le (length captures) 16)
    then option_map (Replay mode journal cache script) (captures_of captures)
    else None

-- a number of records
unfoldable pub load_of : List (List ℕ) → Option CommandWords
load_of [] = None
load_of (number ∷ []) = option_map Load (load_number number)
load_of (number ∷ other ∷ more) = None

-- a report's name, a script's and 1 to 16 captures
unfoldable pub audit_of : List (List ℕ) → Option CommandWords
audit_of [] = None
audit_of (report ∷ []) = None
audit_of (report ∷ script ∷ captures) =
    if (not (is_empty report) && not (is_empty script)) && (nat_le 1 (length captures) && nat_le (length captures) 16)
    then option_map (Audit report script) (captures_of captures)
    else None

-- what the mode makes of the words behind it
unfoldable pub command_by : List ℕ → Arguments → Option CommandWords
command_by mode arguments =
    if is_same mode (codes "serial") then replay_of Serial arguments.journal arguments.cache arguments.positional
    else if is_same mode (codes "live") then replay_of Live arguments.journal arguments.cache arguments.positional
    else if is_same mode (codes "load") && not (arguments.journal || is_some arguments.cache) then load_of arguments.positional
    else if is_same mode (codes "audit") && not (arguments.journal || is_some arguments.cache) then audit_of arguments.positional
    else None

-- what the words name, where they are a command
unfoldable pub command_of : List (List ℕ) → Option CommandWords
command_of [] = None
command_of (mode ∷ words) = arguments_of words >>= command_by mode
