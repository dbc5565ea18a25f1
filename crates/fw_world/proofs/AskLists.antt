-- The lists of asks in journals that grow.
use Rattle.std.proofs.Common.{◌≡◌, ◌≢◌, ℕ, List, [], ◌∷◌, ◌++◌, length, refl, sym, ap, ◌∙◌, arith, append_assoc}
use Rattle.std.proofs.lemmas.List.{append-nil}
use Rattle.state_asks.specs.declared.op.Op.{Op}
use Rattle.state_asks.specs.declared.reply.Reply.{Reply}
use Rattle.state_journal.proofs.EntryLists.{last_number-ask, publications-ask}
use Rattle.state_journal.proofs.ItemLists.{own_ask, other_ask}
use Rattle.state_journal.specs.Entries.{publications, last_number}
use Rattle.state_journal.specs.Items.{asks_of}
use Rattle.state_journal.specs.Journal.{Journal, with_ask}
use Rattle.state_journal.specs.declared.entry.Entry.TheVariants.{Publish, Ask}
use Rattle.state_journal.specs.declared.entry.Item.{Item}
use Rattle.state_journal.specs.declared.entry.Item.TheVariants.{Lanes, Published, Asked}
use Rattle.fw_world.specs.AskRuns.{EntersEach}
use Rattle.fw_world.specs.Asks.{LaneAsk, asks_in, ops_of, replies_of, lane_asks, record_asks, with_asks}

-- the asks of a record ask what was asked for it, in order
pub ops-record_asks : (after at : ℕ) (ops : List Op) (replies : List Reply) → length ops ≡ length replies → ops_of (record_asks after at ops replies) ≡ ops
ops-record_asks after at [] replies same = refl
ops-record_asks after at (op ∷ ops) [] same = absurd (omega arith)
ops-record_asks after at (op ∷ ops) (reply ∷ replies) same = ap (λ rest. op ∷ rest) (ops-record_asks after at ops replies (omega arith))

-- the asks of a record have the replies that it was given, in order
pub replies-record_asks : (after at : ℕ) (ops : List Op) (replies : List Reply) → length ops ≡ length replies → replies_of (record_asks after at ops replies) ≡ replies
replies-record_asks after at [] [] same = refl
replies-record_asks after at [] (reply ∷ replies) same = absurd (omega arith)
replies-record_asks after at (op ∷ ops) [] same = absurd (omega arith)
replies-record_asks after at (op ∷ ops) (reply ∷ replies) same = ap (λ rest. reply ∷ rest) (replies-record_asks after at ops replies (omega arith))

-- the asks of two lists stand one behind the other
pub asks_in-append : (xs ys : List Item) → asks_in (xs ++ ys) ≡ asks_in xs ++ asks_in ys
asks_in-append [] ys = refl
asks_in-append (Lanes count ∷ xs) ys = asks_in-append xs ys
asks_in-append (Published facts ∷ xs) ys = asks_in-append xs ys
asks_in-append (Asked after (Publish number) ∷ xs) ys = asks_in-append xs ys
asks_in-append (Asked after (Ask lane op reply at) ∷ xs) ys = ap (λ rest. record { after = after; at = at; op = op; reply = reply } ∷ rest) (asks_in-append xs ys)

-- a lane's asks after those of one record
pub lane_asks-record : (j : Journal) (lane at : ℕ) (ops : List Op) (replies : List Reply)
    → lane_asks lane (with_asks j lane at ops replies).entries ≡ lane_asks lane j.entries ++ record_asks (last_number 0 j.entries) at ops replies
lane_asks-record j lane at [] replies = sym (append-nil _)
lane_asks-record j lane at (op ∷ ops) [] = sym (append-nil _)
lane_asks-record j lane at (op ∷ ops) (reply ∷ replies) =
    let next : Journal = with_ask j lane at op reply in
    let one = ap asks_in (own_ask lane 0 at op reply j.entries) ∙ asks_in-append (asks_of lane 0 j.entries) _ in
    lane_asks-record next lane at ops replies
    ∙ ap (λ (number : ℕ). lane_asks lane next.entries ++ record_asks number at ops replies) (last_number-ask 0 lane at op reply j.entries)
    ∙ ap (λ (asks : List LaneAsk). asks ++ record_asks (last_number 0 j.entries) at ops replies) one
    ∙ append_assoc (lane_asks lane j.entries) _ _

-- the asks of other lanes stay
pub asks_of-others : (j : Journal) (k lane at : ℕ) (ops : List Op) (replies : List Reply) → k ≢ lane → asks_of k 0 (with_asks j lane at ops replies).entries ≡ asks_of k 0 j.entries
asks_of-others j k lane at [] replies other = refl
asks_of-others j k lane at (op ∷ ops) [] other = refl
asks_of-others j k lane at (op ∷ ops) (reply ∷ replies) other = asks_of-others (with_ask j lane at op reply) k lane at ops replies other ∙ other_ask k lane 0 at op reply j.entries other

-- Asks of one record leave all of a journal but its entries and its states.
pub record KeepsAround (old new : Journal) : Type 0 where
  pub lanes : new.lanes ≡ old.lanes
  pub facts : new.facts ≡ old.facts
  pub ready : new.ready ≡ old.ready
  pub publications : publications new.entries ≡ publications old.entries

-- asks of a record leave all of the journal but its entries and its states
pub KeepsAround-asks : (j : Journal) (lane at : ℕ) (ops : List Op) (replies : List Reply) → KeepsAround j (with_asks j lane at ops replies)
KeepsAround-asks j lane at [] replies = record { lanes = refl; facts = refl; ready = refl; publications = refl }
KeepsAround-asks j lane at (op ∷ ops) [] = record { lanes = refl; facts = refl; ready = refl; publications = refl }
KeepsAround-asks j lane at (op ∷ ops) (reply ∷ replies) =
    let rest = KeepsAround-asks (with_ask j lane at op reply) lane at ops replies in
    record {
      lanes = rest.lanes;
      facts = rest.facts;
      ready = rest.ready;
      publications = rest.publications ∙ publications-ask lane at op reply j.entries;
    }

-- a run of asks of the book is the journal after them
pub with_asks-run : (lane at : ℕ) (old : Journal) (ops : List Op) (replies : List Reply) (new : Journal)
    → EntersEach (λ (before : Journal) op reply after. after ≡ with_ask before lane at op reply) old ops replies new → new ≡ with_asks old lane at ops replies
with_asks-run lane at old [] [] new ran = ran
with_asks-run lane at old [] (reply ∷ replies) new ran = absurd ran
with_asks-run lane at old (op ∷ ops) [] new ran = absurd ran
with_asks-run lane at old (op ∷ ops) (reply ∷ replies) new ran =
    with_asks-run lane at ran.0 ops replies new ran.2 ∙ ap (λ (j : Journal). with_asks j lane at ops replies) ran.1
