-- The script of a load is accepted.
use Rattle.std.proofs.Common.{◌≡◌, ℕ, ◌+◌, ◌≤◌, None, Ok, Err, List, [], ◌∷◌, ◌++◌, refl, ap, ◌∙◌}
use Rattle.std.specs.List.{list_any, AllByRecursion}
use Rattle.fw_command.specs.declared.script.Line.{Line}
use Rattle.fw_command.specs.declared.script.Pace.TheVariants.{Serial}
use Rattle.fw_command.specs.declared.script.Script.{Script}
use Rattle.load_maker.specs.Load as load
use Rattle.fw_base.specs.declared.limits.TheConstants.{MOST_LOAD_RECORDS}
use Rattle.load_laws.specs.Acceptance.{AreAccepted}
use Rattle.load_laws.specs.MadeScript.{made_script}
use Rattle.load_laws.proofs.Acceptance.{scripts_accepted}
use Rattle.load_laws.proofs.MadeScripts.{scripts_read}
use Rattle.rule_chain.specs.Configuration.{Configuration}
use Rattle.rule_chain.specs.First.{first_configuration}
use Rattle.capture_tracks.specs.Commands.{Standing, listing_of, first_standing, after_line, after_lines}
use Rattle.capture_tracks.proofs.Listings.{changing-of}
use Rattle.fw_command.specs.Steps.{all_lines}
use Rattle.replay_setup.specs.FirstEdition.{configuration_behind, listings_of, first_edition}
use Rattle.replay_driver.specs.Promises.{IsAccepted}
use Rattle.replay_driver.specs.RunResult.{is_refused}
use Rattle.replay_setup.specs.declared.first_edition.FirstEdition.{FirstEdition}
use Rattle.replay_setup.specs.declared.script_error.ScriptError.{ScriptError}

-- no line has a listing
abbrev AreUnlisted : List Line → Type 0
AreUnlisted lines = AllByRecursion (λ line. listing_of line.command ≡ None) lines

-- the configuration behind lines that are accepted, with what is accepted behind them
record IsConfigured (config : Configuration) (lines others : List Line) : Type 0 where
  last : Configuration
  made : configuration_behind config lines ≡ Ok last
  behind : AreAccepted last others

all_configured : (config : Configuration) (lines others : List Line) → AreUnlisted lines → AreAccepted config (lines ++ others) → IsConfigured config lines others
unfolding configuration_behind
all_configured config [] others unlisted accepted = record { last = config; made = refl; behind = accepted }
all_configured config (line ∷ lines) others unlisted (next, applied, more) =
    let rest = all_configured next lines others unlisted.1 more in
    record { last = rest.last; made = rw (changing-of line.command unlisted.0, applied) rest.made; behind = rest.behind }

-- no listing has an answer
none_listed : (config : Configuration) (lines : List Line) → AreUnlisted lines → listings_of config lines ≡ Ok []
unfolding listings_of
none_listed config [] unlisted = refl
none_listed config (line ∷ lines) unlisted = rw (unlisted.0, none_listed config lines unlisted.1) refl

-- nor has a command that is accepted
none_answered : (s : Standing) (lines : List Line) → AreUnlisted lines → AreAccepted s.config lines → (after_lines s lines).answers ≡ s.answers
unfolding after_lines
none_answered s [] unlisted accepted = refl
none_answered s (line ∷ lines) unlisted (next, applied, more) =
    let made : Standing = record s { config = next; number = s.number + 1; accepted = s.accepted ++ line.command ∷ [] } in
    let is : after_line s line ≡ made = rw (unlisted.0, applied) refl in
    ap (λ (t : Standing). (after_lines t lines).answers) is ∙ none_answered made lines unlisted.1 more

-- a load's script gives an edition, and each of its lines behind `live` is accepted
pub load_accepted : (n : ℕ) → n ≤ MOST_LOAD_RECORDS → IsAccepted Serial (load.load_script n)
unfolding first_edition
load_accepted n few =
    let script : Script = made_script n in
    let unlisted : AreUnlisted script.before = (refl, (refl, (refl, (refl, (refl, tt))))) in
    let made = all_configured first_configuration script.before (all_lines script.live) unlisted (scripts_accepted n) in
    let edition : FirstEdition = record { config = made.last; answers = []; live = script.live } in
    record {
      edition = edition;
      first = rw (scripts_read n few) (rw (made.made, none_listed made.last script.before unlisted) refl);
      accepted = ap (list_any is_refused) (none_answered (first_standing made.last) (all_lines script.live) (refl, tt) made.behind);
    }

-- so it has no error
pub load_ready : (n : ℕ) → n ≤ MOST_LOAD_RECORDS → (error : ScriptError) → first_edition Serial (load.load_script n) ≡ Err error → ⊥
load_ready n few error failed = let ok = (load_accepted n few).first in cc
