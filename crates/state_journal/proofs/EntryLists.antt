-- Lists of entries that grow by one.
use Rattle.std.proofs.Common.{◌≡◌, ℕ, List, [], ◌∷◌, ◌++◌, refl, ap}
use Rattle.std.specs.List.{AllByRecursion}
use Rattle.state_asks.specs.declared.op.Op.{Op}
use Rattle.state_asks.specs.declared.reply.Reply.{Reply}
use Rattle.state_journal.specs.Entries.{last_number, publications}
use Rattle.state_journal.specs.declared.entry.Entry.{Entry}
use Rattle.state_journal.specs.declared.entry.Entry.TheVariants.{Publish, Ask}

-- what holds of each entry and of one behind them holds of all
pub AllByRecursion-append : (P : Entry → Type 0) (entries : List Entry) (more : Entry) → AllByRecursion P entries → P more → AllByRecursion P (entries ++ more ∷ [])
AllByRecursion-append P [] more all last = (last, tt)
AllByRecursion-append P (entry ∷ entries) more all last = (all.0, AllByRecursion-append P entries more all.1 last)

-- an ask is no publication
pub last_number-ask : (after lane at : ℕ) (op : Op) (reply : Reply) (entries : List Entry) → last_number after (entries ++ Ask lane op reply at ∷ []) ≡ last_number after entries
last_number-ask after lane at op reply [] = refl
last_number-ask after lane at op reply (Publish number ∷ entries) = last_number-ask number lane at op reply entries
last_number-ask after lane at op reply (Ask by asked told when ∷ entries) = last_number-ask after lane at op reply entries

-- a publication behind the entries is the last one
pub last_number-publication : (after number : ℕ) (entries : List Entry) → last_number after (entries ++ Publish number ∷ []) ≡ number
last_number-publication after number [] = refl
last_number-publication after number (Publish earlier ∷ entries) = last_number-publication earlier number entries
last_number-publication after number (Ask by asked told when ∷ entries) = last_number-publication after number entries

-- an ask publishes nothing
pub publications-ask : (lane at : ℕ) (op : Op) (reply : Reply) (entries : List Entry) → publications (entries ++ Ask lane op reply at ∷ []) ≡ publications entries
publications-ask lane at op reply [] = refl
publications-ask lane at op reply (Publish number ∷ entries) = ap (λ rest. number ∷ rest) (publications-ask lane at op reply entries)
publications-ask lane at op reply (Ask by asked told when ∷ entries) = publications-ask lane at op reply entries

-- a publication behind the entries is the last of the list
pub publications-publication : (number : ℕ) (entries : List Entry) → publications (entries ++ Publish number ∷ []) ≡ publications entries ++ number ∷ []
publications-publication number [] = refl
publications-publication number (Publish earlier ∷ entries) = ap (λ rest. earlier ∷ rest) (publications-publication number entries)
publications-publication number (Ask by asked told when ∷ entries) = publications-publication number entries
