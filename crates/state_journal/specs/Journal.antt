-- The journal: what the one state object met, in order.
use Rattle.std.specs.Prelude.{◌≡◌, ℕ, ◌+◌, Bool, false, IsTrue, ⊤, List, [], ◌∷◌, ◌++◌, length, map}
use Rattle.std.specs.List.{AllByRecursion}
use Rattle.fw_rule.specs.Values.{values_of, default_values}
use Rattle.state_asks.specs.declared.facts.Facts.{Facts}
use Rattle.state_asks.specs.declared.op.Op.{Op}
use Rattle.state_asks.specs.declared.op.Op.TheVariants.{Lookup, Install}
use Rattle.state_asks.specs.declared.reply.Reply.{Reply}
use Rattle.state_asks.specs.declared.reply.Reply.TheVariants.{Found, NotFound, Created, Exists, LimitReached, TableFull}
use Rattle.dyn_states.specs.StateObject.{StateObject, first_object, reply_of, after_ask, after_publication, has_rule_among}
use Rattle.state_asks.specs.RuleLists.{has_id}
use Rattle.state_journal.specs.declared.entry.Entry.{Entry}
use Rattle.state_journal.specs.declared.entry.Entry.TheVariants.{Publish, Ask}
use Rattle.state_journal.specs.Entries.{AreOfLanes, AsksKeptFlags, publications, last_number}

-- a book: its lanes, the facts of its publications in order, its entries, the state object, and whether
-- there is room for one publication more
pub record Journal : Type 0 where
  pub lanes : ℕ
  pub facts : List Facts
  pub entries : List Entry
  pub object : StateObject
  pub ready : Bool

-- no state, and the clock at 0
abbrev pub no_states : StateObject
no_states = first_object default_values

-- the state object after a publication
abbrev pub object_after_publication : StateObject → Facts → StateObject
object_after_publication o facts = after_publication o facts.rules (values_of facts.settings)

-- Each reply is the state object's after the entries before it, and each publication is that of the next
-- facts.
abbrev pub IsLawfulFrom : StateObject → List Facts → List Entry → Type 0
IsLawfulFrom o [] [] = ⊤
IsLawfulFrom o (next ∷ facts) [] = ⊥
IsLawfulFrom o [] (Publish number ∷ entries) = ⊥
IsLawfulFrom o (next ∷ facts) (Publish number ∷ entries) = (number ≡ next.number) × IsLawfulFrom (object_after_publication o next) facts entries
IsLawfulFrom o [] (Ask lane op reply at ∷ entries) = (reply ≡ reply_of o op) × IsLawfulFrom (after_ask o op) [] entries
IsLawfulFrom o (next ∷ facts) (Ask lane op reply at ∷ entries) = (reply ≡ reply_of o op) × IsLawfulFrom (after_ask o op) (next ∷ facts) entries

-- the state object after the entries
abbrev pub object_from : StateObject → List Facts → List Entry → StateObject
object_from o facts [] = o
object_from o [] (Publish number ∷ entries) = object_from o [] entries
object_from o (next ∷ facts) (Publish number ∷ entries) = object_from (object_after_publication o next) facts entries
object_from o [] (Ask lane op reply at ∷ entries) = object_from (after_ask o op) [] entries
object_from o (next ∷ facts) (Ask lane op reply at ∷ entries) = object_from (after_ask o op) (next ∷ facts) entries

-- editions are numbered one after another
abbrev pub AreNumberedFrom : ℕ → List Facts → Type 0
AreNumberedFrom number [] = ⊤
AreNumberedFrom number (next ∷ facts) = (next.number ≡ number) × AreNumberedFrom (number + 1) facts

-- the rules of the last publication
abbrev pub last_rules : List Facts → List ℕ
last_rules [] = []
last_rules (last ∷ []) = last.rules
last_rules (first ∷ next ∷ facts) = last_rules (next ∷ facts)

-- it begins with the publication of edition 1
abbrev pub BeginsWithOne : List Entry → Type 0
BeginsWithOne [] = ⊥
BeginsWithOne (Publish number ∷ entries) = number ≡ 1
BeginsWithOne (Ask lane op reply at ∷ entries) = ⊥

-- The journal is lawful from no state and the clock at 0, its publications are those of the editions 1,
-- 2, .. in order, of which the last stands before the next ask, and the rule of each state is one of the
-- last publication. Each ask is of one of its lanes, and has no flags but FIN, SYN and RST.
pub record IsJournal (j : Journal) : Type 0 where
  pub begins : BeginsWithOne j.entries
  pub lawful : IsLawfulFrom no_states j.facts j.entries
  pub object : j.object ≡ object_from no_states j.facts j.entries
  pub numbered : AreNumberedFrom 1 j.facts
  pub published : publications j.entries ≡ map (λ facts. facts.number) j.facts
  pub current : last_number 0 j.entries ≡ length j.facts
  pub ruled : AllByRecursion (λ s. IsTrue (has_rule_among (last_rules j.facts) s)) j.object.states
  pub asked : AreOfLanes j.lanes j.entries
  pub flagged : AllByRecursion AsksKeptFlags j.entries

-- an install names a rule of these
abbrev pub NamesRuleOf : List ℕ → Op → Type 0
NamesRuleOf rules (Lookup flags flow second name) = ⊤
NamesRuleOf rules (Install flags flow second rule limit name) = IsTrue (has_id rules rule.id)

-- a state that was found has a rule of these
abbrev pub IsFoundOf : List ℕ → Reply → Type 0
IsFoundOf rules (Found way rule) = IsTrue (has_id rules rule.id)
IsFoundOf rules NotFound = ⊤
IsFoundOf rules Created = ⊤
IsFoundOf rules Exists = ⊤
IsFoundOf rules (LimitReached count) = ⊤
IsFoundOf rules (TableFull count) = ⊤

-- the book after an ask and its answer
abbrev pub with_ask : Journal → ℕ → ℕ → Op → Reply → Journal
with_ask j lane at op reply = record j { entries = j.entries ++ Ask lane op reply at ∷ []; object = after_ask j.object op }

-- the book after a publication
abbrev pub with_publication : Journal → Facts → Journal
with_publication j facts = record j {
  facts = j.facts ++ facts ∷ [];
  entries = j.entries ++ Publish facts.number ∷ [];
  object = object_after_publication j.object facts;
  ready = false;
}

-- the book that begins with these facts
abbrev pub first_journal : ℕ → Facts → Journal
first_journal lanes facts = record {
  lanes = lanes;
  facts = facts ∷ [];
  entries = Publish facts.number ∷ [];
  object = object_after_publication no_states facts;
  ready = false;
}
