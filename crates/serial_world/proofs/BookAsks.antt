-- What an ask of the one book leaves.
use Rattle.std.proofs.Common.{◌≡◌, ℕ, ◌+◌, ◌≤◌, true, List, [], ◌∷◌, length, refl, sym, ap, ◌∙◌, subst}
use Rattle.std.proofs.lemmas.List.{length-append}
use Rattle.std.specs.Prelude.{Result, Ok, Err, IfOk, OnOk, OnErr}
use Rattle.dyn_states.specs.StateObject.{reply_of}
use Rattle.eval_engine.specs.Standing.{is_reply_to}
use Rattle.fw_base.specs.declared.failure.OutOfMemory.{OutOfMemory}
use Rattle.generation_store.specs.Published.{Published, has_identity}
use Rattle.state_asks.specs.RuleLists.{has_id}
use Rattle.state_asks.specs.declared.facts.Facts.{Facts}
use Rattle.state_asks.specs.declared.op.Op.{Op}
use Rattle.state_asks.specs.declared.reply.Reply.{Reply}
use Rattle.state_journal.specs.Journal.{Journal, with_ask, last_rules, IsFoundOf}
use Rattle.state_journal.specs.declared.entry.Entry.TheVariants.{Ask}
use Rattle.fw_world.proofs.Numbering.{last_rules_are}
use Rattle.fw_world.proofs.Replies.{reply_fits}
use Rattle.fw_world.specs.World.{WorldValue}
use Rattle.serial_world.specs.LastEdition.{last_published}
use Rattle.serial_world.specs.WorldKept.{IsWorld}
use Rattle.serial_world.proofs.LastEdition.{IsLastOf-last_published}
use Rattle.serial_world.proofs.WorldSteps.{IsWorld-asked}

-- the world of these editions and of this journal
abbrev pub world_of : List Published → Journal → WorldValue
world_of editions journal = record { editions = editions; journal = journal }

-- the rules that the states know are those of the last edition
pub same_rules : (world : WorldValue) → IsWorld world → (id : ℕ) → has_id (last_rules world.journal.facts) id ≡ has_identity (last_published world.editions).config.rules id
same_rules world is id =
    ap (λ (facts : List Facts). has_id (last_rules facts) id) (sym is.published.factual)
    ∙ last_rules_are 1 world.editions (last_published world.editions) is.numbered (IsLastOf-last_published world.editions is.begun) id

-- an ask leaves a world one, whether it is answered or not
pub IsWorld-after_ask : (result : Result Reply OutOfMemory) (editions : List Published) (old new : Journal) (lane at : ℕ) (op : Op) → IsWorld (record { editions = editions; journal = old })
    → IfOk result (λ reply. new ≡ with_ask old lane at op reply) → OnErr result (new ≡ old) → IsWorld (record { editions = editions; journal = new })
IsWorld-after_ask (Ok reply) editions old new lane at op is entered unchanged =
    subst (λ (j : Journal). IsWorld (record { editions = editions; journal = j })) (sym entered) (IsWorld-asked (record { editions = editions; journal = old }) lane at op reply is)
IsWorld-after_ask (Err fault) editions old new lane at op is entered unchanged = subst (λ (j : Journal). IsWorld (record { editions = editions; journal = j })) (sym unchanged) is

-- the world has it at its journal's end
pub enters_after : (result : Result Reply OutOfMemory) (editions : List Published) (old new : Journal) (lane at : ℕ) (op : Op) → IfOk result (λ reply. new ≡ with_ask old lane at op reply)
    → IfOk result (λ reply. world_of editions new ≡ world_of editions (with_ask old lane at op reply))
enters_after (Ok reply) editions old new lane at op entered = ap (world_of editions) entered
enters_after (Err fault) editions old new lane at op entered = tt

-- which is longer by one
pub counted_after : (result : Result Reply OutOfMemory) (old new : Journal) (lane at : ℕ) (op : Op) → IfOk result (λ reply. new ≡ with_ask old lane at op reply) → OnOk result (length new.entries ≡ length old.entries + 1)
counted_after (Ok reply) old new lane at op entered = ap (λ (j : Journal). length j.entries) entered ∙ length-append old.entries (Ask lane op reply at ∷ [])
counted_after (Err fault) old new lane at op entered = tt

-- its reply fits the evaluation
pub fits_after : (result : Result Reply OutOfMemory) (editions : List Published) (old : Journal) (op : Op) → IsWorld (world_of editions old)
    → IfOk result (λ reply. reply ≡ reply_of old.object op) → IfOk result (IsFoundOf (last_rules old.facts)) → IfOk result (λ reply. is_reply_to (last_published editions).config.rules op reply ≡ true)
fits_after (Ok reply) editions old op is told found = reply_fits old.object (last_rules old.facts) (last_published editions).config.rules op reply (same_rules (world_of editions old) is) told found
fits_after (Err fault) editions old op is told found = tt

-- the edition stays
pub same_after : (result : Result Reply OutOfMemory) (editions : List Published) → OnOk result (last_published editions ≡ last_published editions)
same_after (Ok reply) editions = refl
same_after (Err fault) editions = tt

-- and the lanes that it serves
pub serves_after : (result : Result Reply OutOfMemory) (old new : Journal) (lane at : ℕ) (op : Op) → IfOk result (λ reply. new ≡ with_ask old lane at op reply) → OnOk result ((k : ℕ) → (1 ≤ k) × (k ≤ old.lanes) → (1 ≤ k) × (k ≤ new.lanes))
serves_after (Ok reply) old new lane at op entered = λ k within. (within.0, subst (λ (n : ℕ). k ≤ n) (sym (ap (λ (j : Journal). j.lanes) entered)) within.1)
serves_after (Err fault) old new lane at op entered = tt
