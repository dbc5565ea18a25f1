-- The lists by which a book that is shared is seen.
use Rattle.std.specs.Prelude.{ℕ, zero, suc, false, refl, ◌==◌, if◌then◌else◌, List, [], ◌∷◌, map}
use Rattle.std.proofs.Common.{lit≤}
use Rattle.fw_rule.specs.Settings.{IsLifetime, IsMostStates}
use Rattle.state_asks.specs.declared.facts.Facts.{Facts}
use Rattle.state_journal.specs.declared.entry.Entry.{Entry}
use Rattle.state_journal.specs.declared.entry.Entry.TheVariants.{Publish, Ask}
use Rattle.state_journal.specs.declared.entry.Item.{Item}
use Rattle.state_journal.specs.declared.entry.Item.TheVariants.{Lanes, Published, Asked}
use Rattle.state_journal.specs.Journal.{Journal}

-- the asks of a lane, each with the number of the last publication before it
abbrev pub asks_of : ℕ → ℕ → List Entry → List Item
asks_of lane after [] = []
asks_of lane after (Publish number ∷ entries) = asks_of lane number entries
asks_of lane after (Ask by op reply at ∷ entries) =
    if by == lane then Asked after (Ask by op reply at) ∷ asks_of lane after entries else asks_of lane after entries

-- list 0 has the number of lanes and the facts of the publications, list k the asks of lane k
abbrev pub items_of : Journal → ℕ → List Item
items_of j zero = Lanes j.lanes ∷ map Published j.facts
items_of j (suc k) = asks_of (suc k) 0 j.entries

-- facts of no publication, which stand for the last ones of a book that has none: there is no such book
abbrev pub no_facts : Facts
no_facts = record {
  number = 0;
  rules = 0 ∷ [];
  settings = record {
    ack = 1;
    syn = 1;
    fin = 1;
    rst = 1;
    udp = 1;
    short = 1;
    max = 1;
    keep = false;
    ack_in_range = one_second;
    syn_in_range = one_second;
    fin_in_range = one_second;
    rst_in_range = one_second;
    udp_in_range = one_second;
    short_in_range = one_second;
    max_in_range = one_state;
  };
  ordered = refl;
}
  where
    one_second : IsLifetime 1
    one_second = record { least = lit≤ tt; most = lit≤ tt }

    one_state : IsMostStates 1
    one_state = record { least = lit≤ tt; most = lit≤ tt }

-- the facts of the last publication
abbrev pub last_facts : List Facts → Facts
last_facts [] = no_facts
last_facts (last ∷ []) = last
last_facts (first ∷ next ∷ facts) = last_facts (next ∷ facts)
