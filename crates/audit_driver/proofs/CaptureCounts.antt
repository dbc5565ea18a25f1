-- The words of an audit name at most 16 captures.
use Rattle.std.proofs.Common.{◌≡◌, ℕ, ◌≤◌, Bool, true, false, not, ◌||◌, ◌&&◌, nat_le, if◌then◌else◌, is_some, Option, None, Some, IfSome, List, [], ◌∷◌, length, codes, refl, arith}
use Rattle.std.specs.Option.{option_map}
use Rattle.std.specs.Prelude.{option_and_then}
use Rattle.std.proofs.lemmas.Bool.{and_parts, leb-true}
use Rattle.command_words.specs.Bytes.{is_empty, is_same}
use Rattle.fw_base.specs.Chain.{◌>>=◌}
use Rattle.command_words.specs.Words.{Arguments, Audit, CaptureNames, CommandWords, Load, Replay, arguments_of, audit_of, capture_of, captures_of, command_by, command_of, load_of, replay_of}
use Rattle.command_words.specs.declared.invocation.Mode.{Mode}
use Rattle.command_words.specs.declared.invocation.Mode.TheVariants.{Serial, Live}
use Rattle.audit_driver.specs.AuditNames.{AuditNames, names_of, names_of_command}

abbrev HasFew : CommandWords → Type 0
HasFew (Replay mode journal cache script captures) = Unit {0}
HasFew (Load n) = Unit {0}
HasFew (Audit report script captures) = length captures ≤ 16

-- what holds of either choice, where its test is met, holds of the one that is made
either : {X : Type 0} (test : Bool) (found other : Option X) (P : X → Type 0) → (test ≡ true → IfSome found P) → IfSome other P → IfSome (if test then found else other) P
either true found other P p q = p refl
either false found other P p q = q

-- there are as many captures as words
captures_count : (words : List (List ℕ)) → IfSome (captures_of words) (λ captures. length captures ≡ length words)
unfolding captures_of
captures_count [] = refl
captures_count (word ∷ words) = by_first (capture_of word) (captures_of words) (captures_count words)
  where
    by_first : (first : Option CaptureNames) (rest : Option (List CaptureNames)) → IfSome rest (λ captures. length captures ≡ length words)
        → IfSome (first >>= λ (capture : CaptureNames). option_map (λ (others : List CaptureNames). capture ∷ others) rest) (λ captures. length captures ≡ length (word ∷ words))
    by_first None rest count = tt
    by_first (Some capture) None count = tt
    by_first (Some capture) (Some others) count = omega (arith, count)

replay_few : (mode : Mode) (journal : Bool) (cache : Option ℕ) (positional : List (List ℕ)) → IfSome (replay_of mode journal cache positional) HasFew
unfolding replay_of
replay_few mode journal cache [] = tt
replay_few mode journal cache (script ∷ captures) =
    either (not (is_empty script) && (nat_le 1 (length captures) && nat_le (length captures) 16)) _ None HasFew (λ test. by_captures (captures_of captures)) tt
  where
    by_captures : (found : Option (List CaptureNames)) → IfSome (option_map (Replay mode journal cache script) found) HasFew
    by_captures None = tt
    by_captures (Some names) = tt

load_few : (positional : List (List ℕ)) → IfSome (load_of positional) HasFew
unfolding load_of
load_few [] = tt
load_few (number ∷ []) = by_number _
  where
    by_number : (found : Option ℕ) → IfSome (option_map Load found) HasFew
    by_number None = tt
    by_number (Some n) = tt
load_few (number ∷ other ∷ more) = tt

audit_few : (positional : List (List ℕ)) → IfSome (audit_of positional) HasFew
unfolding audit_of
audit_few [] = tt
audit_few (report ∷ []) = tt
audit_few (report ∷ script ∷ captures) =
    either ((not (is_empty report) && not (is_empty script)) && (nat_le 1 (length captures) && nat_le (length captures) 16)) _ None HasFew
    (λ test. by_captures (captures_of captures) (captures_count captures)
    (leb-true (length captures) 16 (and_parts (nat_le 1 (length captures)) (nat_le (length captures) 16) (and_parts (not (is_empty report) && not (is_empty script)) _ test).1).1)) tt
  where
    by_captures : (found : Option (List CaptureNames)) → IfSome found (λ names. length names ≡ length captures) → length captures ≤ 16 → IfSome (option_map (Audit report script) found) HasFew
    by_captures None count low = tt
    by_captures (Some names) count low = omega (arith, count, low)

by_few : (mode : List ℕ) (arguments : Arguments) → IfSome (command_by mode arguments) HasFew
unfolding command_by
by_few mode arguments =
    either (is_same mode (codes "serial")) _ _ HasFew (λ test. replay_few Serial arguments.journal arguments.cache arguments.positional)
    (either (is_same mode (codes "live")) _ _ HasFew (λ test. replay_few Live arguments.journal arguments.cache arguments.positional)
    (either (is_same mode (codes "load") && not (arguments.journal || is_some arguments.cache)) _ _ HasFew (λ test. load_few arguments.positional)
    (either (is_same mode (codes "audit") && not (arguments.journal || is_some arguments.cache)) _ _ HasFew (λ test. audit_few arguments.positional) tt)))

words_few : (words : List (List ℕ)) → IfSome (command_of words) HasFew
unfolding command_of
words_few [] = tt
words_few (mode ∷ words) = by_arguments (arguments_of words)
  where
    by_arguments : (found : Option Arguments) → IfSome (found >>= command_by mode) HasFew
    by_arguments None = tt
    by_arguments (Some arguments) = by_few mode arguments

-- the words of an audit name at most 16 captures
pub few_captures : (words : List (List ℕ)) → IfSome (names_of words) (λ names. length names.captures ≤ 16)
few_captures words = by_command (command_of words) (words_few words)
  where
    by_command : (found : Option CommandWords) → IfSome found HasFew → IfSome (option_and_then names_of_command found) (λ (names : AuditNames). length names.captures ≤ 16)
    by_command None few = tt
    by_command (Some (Replay mode journal cache script captures)) few = tt
    by_command (Some (Load n)) few = tt
    by_command (Some (Audit report script captures)) few = few
