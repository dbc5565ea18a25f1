-- A load has at most as many records as one is made of.
use Rattle.std.proofs.Common.{◌≡◌, ℕ, ◌≤◌, Bool, true, false, List, [], ◌∷◌, Option, None, Some, ◌&&◌, ◌||◌, is_some, not, length, refl}
use Rattle.std.specs.Prelude.{IfSome, if◌then◌else◌, nat_le, codes, option_and_then, ⊤}
use Rattle.std.specs.Char.{is_ascii_digit}
use Rattle.std.specs.List.{list_all}
use Rattle.std.specs.Option.{option_map}
use Rattle.std.specs.Str.Parse.{digits_value}
use Rattle.std.proofs.lemmas.Bool.{and_parts, leb-true}
use Rattle.command_words.specs.Bytes.{is_same, is_empty}
use Rattle.fw_base.specs.Chain.{◌>>=◌}
use Rattle.command_words.specs.Words.{CommandWords, CaptureNames, Replay, Load, Audit, Arguments, arguments_of, captures_of, load_number, load_of, audit_of, replay_of, command_by, command_of}
use Rattle.command_words.specs.declared.invocation.Mode.{Mode}
use Rattle.command_words.specs.declared.invocation.Mode.TheVariants.{Serial, Live}
use Rattle.fw_base.specs.declared.limits.TheConstants.{MOST_LOAD_RECORDS}
use Rattle.replay_driver.specs.Served.{Job, Replays, Loads, job_of_command, job_of}

-- the number of records of a load can be made
abbrev pub CanBeMade : Job → Type 0
CanBeMade (Replays names) = ⊤
CanBeMade (Loads n) = n ≤ MOST_LOAD_RECORDS

-- the same of words
abbrev IsWithin : CommandWords → Type 0
IsWithin (Replay mode journal cache script captures) = ⊤
IsWithin (Load n) = n ≤ MOST_LOAD_RECORDS
IsWithin (Audit report script captures) = ⊤

either_within : (test : Bool) (found other : Option CommandWords) → IfSome found IsWithin → IfSome other IsWithin → IfSome (if test then found else other) IsWithin
either_within true found other p q = p
either_within false found other p q = q

number_within : (word : List ℕ) → IfSome (load_number word) (λ n. n ≤ MOST_LOAD_RECORDS)
unfolding load_number
number_within word =
    let n : ℕ = digits_value 10 word in
    by_tests ((nat_le 1 (length word) && nat_le (length word) 7) && list_all is_ascii_digit word) (nat_le 1 n && nat_le n 1000000) n
    (λ told. leb-true n 1000000 (and_parts (nat_le 1 n) (nat_le n 1000000) told).1)
  where
    by_tests : (digits within : Bool) (n : ℕ) → (within ≡ true → n ≤ MOST_LOAD_RECORDS) → IfSome (if digits then (if within then Some n else None) else None) (λ m. m ≤ MOST_LOAD_RECORDS)
    by_tests true true n few = few refl
    by_tests true false n few = tt
    by_tests false within n few = tt

load_within : (positional : List (List ℕ)) → IfSome (load_of positional) IsWithin
unfolding load_of
load_within [] = tt
load_within (number ∷ []) = by_number (load_number number) (number_within number)
  where
    by_number : (found : Option ℕ) → IfSome found (λ n. n ≤ MOST_LOAD_RECORDS) → IfSome (option_map Load found) IsWithin
    by_number None few = tt
    by_number (Some n) few = few
load_within (number ∷ other ∷ more) = tt

replay_within : (mode : Mode) (journal : Bool) (cache : Option ℕ) (positional : List (List ℕ)) → IfSome (replay_of mode journal cache positional) IsWithin
unfolding replay_of
replay_within mode journal cache [] = tt
replay_within mode journal cache (script ∷ captures) =
    either_within (not (is_empty script) && (nat_le 1 (length captures) && nat_le (length captures) 16)) (option_map (Replay mode journal cache script) (captures_of captures)) None (by_captures (captures_of captures)) tt
  where
    by_captures : (found : Option (List CaptureNames)) → IfSome (option_map (Replay mode journal cache script) found) IsWithin
    by_captures None = tt
    by_captures (Some names) = tt

audit_within : (positional : List (List ℕ)) → IfSome (audit_of positional) IsWithin
unfolding audit_of
audit_within [] = tt
audit_within (report ∷ []) = tt
audit_within (report ∷ script ∷ captures) =
    either_within ((not (is_empty report) && not (is_empty script)) && (nat_le 1 (length captures) && nat_le (length captures) 16)) (option_map (Audit report script) (captures_of captures)) None
    (by_captures (captures_of captures)) tt
  where
    by_captures : (found : Option (List CaptureNames)) → IfSome (option_map (Audit report script) found) IsWithin
    by_captures None = tt
    by_captures (Some names) = tt

by_within : (mode : List ℕ) (arguments : Arguments) → IfSome (command_by mode arguments) IsWithin
unfolding command_by
by_within mode arguments =
    either_within (is_same mode (codes "serial")) _ _ (replay_within Serial arguments.journal arguments.cache arguments.positional)
    (either_within (is_same mode (codes "live")) _ _ (replay_within Live arguments.journal arguments.cache arguments.positional)
    (either_within (is_same mode (codes "load") && not (arguments.journal || is_some arguments.cache)) _ _ (load_within arguments.positional)
    (either_within (is_same mode (codes "audit") && not (arguments.journal || is_some arguments.cache)) _ _ (audit_within arguments.positional) tt)))

words_within : (words : List (List ℕ)) → IfSome (command_of words) IsWithin
unfolding command_of
words_within [] = tt
words_within (mode ∷ words) = by_arguments (arguments_of words)
  where
    by_arguments : (found : Option Arguments) → IfSome (found >>= command_by mode) IsWithin
    by_arguments None = tt
    by_arguments (Some arguments) = by_within mode arguments

-- the load that words ask for can be made
pub job_within : (words : List (List ℕ)) → IfSome (job_of words) CanBeMade
job_within words = by_command (command_of words) (words_within words)
  where
    by_command : (found : Option CommandWords) → IfSome found IsWithin → IfSome (option_and_then job_of_command found) CanBeMade
    by_command None few = tt
    by_command (Some (Replay mode journal cache script captures)) few = tt
    by_command (Some (Load n)) few = few
    by_command (Some (Audit report script captures)) few = tt
