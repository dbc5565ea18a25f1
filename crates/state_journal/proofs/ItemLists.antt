-- The lists of a shared book after an ask and after a publication.
use Rattle.std.proofs.Common.{◌≡◌, ◌≢◌, ℕ, ◌≤◌, Bool, true, false, T, List, [], ◌∷◌, ◌++◌, length, zero, suc, refl, sym, ap, subst, cond, arith, eq-eqb}
use Rattle.std.proofs.Math.Facts.{eqb_yes}
use Rattle.std.specs.Prelude.{◌==◌}
use Rattle.state_asks.specs.declared.facts.Facts.{Facts}
use Rattle.state_asks.specs.declared.op.Op.{Op}
use Rattle.state_asks.specs.declared.reply.Reply.{Reply}
use Rattle.state_journal.specs.declared.entry.Entry.{Entry}
use Rattle.state_journal.specs.declared.entry.Entry.TheVariants.{Publish, Ask}
use Rattle.state_journal.specs.declared.entry.Item.{Item}
use Rattle.state_journal.specs.declared.entry.Item.TheVariants.{Asked}
use Rattle.state_journal.specs.Entries.{last_number}
use Rattle.state_journal.specs.Items.{asks_of, items_of, last_facts}
use Rattle.state_journal.specs.Journal.{Journal, IsJournal, IsLawfulFrom, BeginsWithOne, no_states, with_publication, last_rules}

-- an ask of the lane behind the entries is the last one of its asks
pub own_ask : (lane after at : ℕ) (op : Op) (reply : Reply) (entries : List Entry)
    → asks_of lane after (entries ++ Ask lane op reply at ∷ []) ≡ asks_of lane after entries ++ Asked (last_number after entries) (Ask lane op reply at) ∷ []
own_ask lane after at op reply [] = decided (lane == lane) (eq-eqb lane lane refl)
  where
    decided : (b : Bool) → b ≡ true → cond b (Asked after (Ask lane op reply at) ∷ []) [] ≡ Asked after (Ask lane op reply at) ∷ []
    decided true is = refl
    decided false is = cc
own_ask lane after at op reply (Publish number ∷ entries) = own_ask lane number at op reply entries
own_ask lane after at op reply (Ask by asked told when ∷ entries) = decided (by == lane) (own_ask lane after at op reply entries)
  where
    decided : (b : Bool) → asks_of lane after (entries ++ Ask lane op reply at ∷ []) ≡ asks_of lane after entries ++ Asked (last_number after entries) (Ask lane op reply at) ∷ []
        → cond b (Asked after (Ask by asked told when) ∷ asks_of lane after (entries ++ Ask lane op reply at ∷ [])) (asks_of lane after (entries ++ Ask lane op reply at ∷ []))
        ≡ cond b (Asked after (Ask by asked told when) ∷ asks_of lane after entries) (asks_of lane after entries) ++ Asked (last_number after entries) (Ask lane op reply at) ∷ []
    decided true rest = ap (λ items. Asked after (Ask by asked told when) ∷ items) rest
    decided false rest = rest

-- an ask of another lane behind the entries is none of its asks
pub other_ask : (k lane after at : ℕ) (op : Op) (reply : Reply) (entries : List Entry) → k ≢ lane → asks_of k after (entries ++ Ask lane op reply at ∷ []) ≡ asks_of k after entries
other_ask k lane after at op reply [] other = decided (lane == k) refl
  where
    decided : (b : Bool) → b ≡ (lane == k) → cond b (Asked after (Ask lane op reply at) ∷ []) [] ≡ []
    decided true is = absurd (other (sym (eqb_yes (subst T is tt))))
    decided false is = refl
other_ask k lane after at op reply (Publish number ∷ entries) other = other_ask k lane number at op reply entries other
other_ask k lane after at op reply (Ask by asked told when ∷ entries) other = rw (other_ask k lane after at op reply entries other) refl

-- a publication is no lane's ask
pub asks_of-publication : (lane after number : ℕ) (entries : List Entry) → asks_of lane after (entries ++ Publish number ∷ []) ≡ asks_of lane after entries
asks_of-publication lane after number [] = refl
asks_of-publication lane after number (Publish earlier ∷ entries) = asks_of-publication lane earlier number entries
asks_of-publication lane after number (Ask by op reply at ∷ entries) = rw (asks_of-publication lane after number entries) refl

-- a lane has no more asks than there are entries
pub asks_of-length : (lane after : ℕ) (entries : List Entry) → length (asks_of lane after entries) ≤ length entries
asks_of-length lane after [] = omega arith
asks_of-length lane after (Publish number ∷ entries) = let fewer = asks_of-length lane number entries in omega arith
asks_of-length lane after (Ask by op reply at ∷ entries) = decided (by == lane) (asks_of-length lane after entries)
  where
    decided : (b : Bool) → length (asks_of lane after entries) ≤ length entries
        → length (cond b (Asked after (Ask by op reply at) ∷ asks_of lane after entries) (asks_of lane after entries)) ≤ length (Ask by op reply at ∷ entries)
    decided true fewer = omega arith
    decided false fewer = omega arith

-- a publication leaves every list but list 0
pub items_of-publication : (j : Journal) (facts : Facts) (k : ℕ) → k ≢ 0 → items_of (with_publication j facts) k ≡ items_of j k
items_of-publication j facts zero other = absurd (other refl)
items_of-publication j facts (suc k) other = asks_of-publication (suc k) 0 facts.number j.entries

-- the facts put behind the others are the last ones
pub last_facts-append : (facts : List Facts) (more : Facts) → last_facts (facts ++ more ∷ []) ≡ more
last_facts-append [] more = refl
last_facts-append (first ∷ []) more = refl
last_facts-append (first ∷ next ∷ facts) more = last_facts-append (next ∷ facts) more

-- the rules of the last publication are those of its facts
last_rules_are : (first : Facts) (facts : List Facts) → last_rules (first ∷ facts) ≡ (last_facts (first ∷ facts)).rules
last_rules_are first [] = refl
last_rules_are first (next ∷ facts) = last_rules_are next facts

of_facts : (facts : List Facts) (entries : List Entry) → BeginsWithOne entries → IsLawfulFrom no_states facts entries → last_rules facts ≡ (last_facts facts).rules
of_facts [] [] begins lawful = absurd begins
of_facts [] (Publish number ∷ entries) begins lawful = absurd lawful
of_facts [] (Ask lane op reply at ∷ entries) begins lawful = absurd begins
of_facts (first ∷ facts) entries begins lawful = last_rules_are first facts

-- a journal has a publication, whose rules are those of its facts
pub last_rules_of_journal : (j : Journal) → IsJournal j → last_rules j.facts ≡ (last_facts j.facts).rules
last_rules_of_journal j is = of_facts j.facts j.entries is.begins is.lawful
