-- Listings and their answers.
use Rattle.std.proofs.Common.{◌≡◌, ℕ, Bool, true, false, Option, Some, None, List, length, refl, sym, ap, ◌∙◌}
use Rattle.std.specs.Prelude.{is_some, if◌then◌else◌}
use Rattle.std.specs.Borrow.{Bor}
use Rattle.std.specs.Option.{option_copied}
use Rattle.report_texts.specs.declared.ends.Answer.{Answer}
use Rattle.report_texts.specs.declared.ends.Answer.TheVariants.{Refused, Listed}
use Rattle.fw_rule.specs.declared.command.Command.{Command}
use Rattle.fw_rule.specs.declared.command.Command.TheVariants.{Add, Delete, DeleteSet, Flush, Zero, ListRules, SetMask, MoveSet, MoveRule, SwapSets, Table as OfTable, Sysctl, Local}
use Rattle.fw_rule.specs.declared.table_command.TableCommand.TheVariants as entries
use Rattle.generation_store.specs.Published.{Published}
use Rattle.fw_world.specs.Editions.{IsLastOf}
use Rattle.lookup_tables.specs.Tables.{table_named}
use Rattle.lookup_tables.specs.declared.table.Table.{Table}
use Rattle.rule_chain.specs.Configuration.{Configuration}
use Rattle.rule_edits.specs.Changing.{IsChanging}
use Rattle.rule_edits.specs.declared.apply_fault.ApplyFault.TheVariants.{NoSuchTable}
use Rattle.capture_tracks.specs.Commands.{Listing, listing_of, listed_answer, Entries}
use Rattle.capture_tracks.specs.Operator.{IsListed}

-- what a desk answers, which shows these editions
pub desk-listed : (editions : List Published) (config : Configuration) (number : ℕ) (listing : Listing) (answer : Answer) → ((edition : Published) × IsLastOf editions edition × (config ≡ edition.config)) → number ≡ length editions
    → answer ≡ listed_answer config number listing → IsListed editions listing answer
desk-listed editions config number listing answer (edition, last, is) counted told =
    record { config = config; last = (edition, last, sym is); listed = told ∙ ap (λ n. listed_answer config n listing) counted }

copied-is_some : {X : Type 0} (found : Option (Bor X)) → is_some (option_copied found) ≡ is_some found
copied-is_some None = refl
copied-is_some (Some x) = refl

answer_if : ℕ → List ℕ → Bool → Answer
answer_if number name b = if b then Listed number (Some name) else Refused NoSuchTable

-- a listing of a table that there is is answered by the edition that stands, with the table's name
pub listed-entries : (config : Configuration) (number : ℕ) (name copy : List ℕ) (found : Option (Bor Table)) → option_copied found ≡ table_named config.tables name → is_some found ≡ true → copy ≡ name
    → Listed number (Some copy) ≡ listed_answer config number (Entries name)
unfolding answer_if
listed-entries config number name copy found named there copied =
    let test : is_some (table_named config.tables name) ≡ true = ap is_some (sym named) ∙ copied-is_some found ∙ there in
    ap (λ n. Listed number (Some n)) copied ∙ sym (ap (answer_if number name) test)

-- a listing of a table that there isn't is refused
pub listed-refused : (config : Configuration) (number : ℕ) (name : List ℕ) (found : Option (Bor Table)) → option_copied found ≡ table_named config.tables name → is_some found ≡ false
    → Refused NoSuchTable ≡ listed_answer config number (Entries name)
unfolding answer_if
listed-refused config number name found named none =
    let test : is_some (table_named config.tables name) ≡ false = ap is_some (sym named) ∙ copied-is_some found ∙ none in
    sym (ap (answer_if number name) test)

-- a command that is no listing changes the configuration
pub changing-of : (command : Command) → listing_of command ≡ None → IsChanging command
changing-of (Add draft) none = refl
changing-of (Delete numbers) none = refl
changing-of (DeleteSet set) none = refl
changing-of Flush none = refl
changing-of (Zero numbers) none = refl
changing-of ListRules none = cc
changing-of (SetMask disable enable) none = refl
changing-of (MoveSet from to) none = refl
changing-of (MoveRule number to) none = refl
changing-of (SwapSets first second) none = refl
changing-of (OfTable name (entries.Create kind)) none = refl
changing-of (OfTable name entries.Destroy) none = refl
changing-of (OfTable name (entries.Add key value)) none = refl
changing-of (OfTable name (entries.Remove key)) none = refl
changing-of (OfTable name entries.Clear) none = refl
changing-of (OfTable name (entries.SwapWith other)) none = refl
changing-of (OfTable name entries.ListEntries) none = cc
changing-of (Sysctl setting value) none = refl
changing-of (Local addresses) none = refl
