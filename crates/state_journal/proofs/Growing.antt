-- Journals that grow by an entry.
use Rattle.std.proofs.Common.{◌≡◌, ℕ, ◌+◌, ◌≤◌, List, [], ◌∷◌, ◌++◌, length, map, refl, sym, ap, ◌∙◌, subst, arith}
use Rattle.std.proofs.lemmas.List.{length-append, map-append}
use Rattle.state_asks.specs.Flags.{HasKeptFlags}
use Rattle.state_asks.specs.declared.facts.Facts.{Facts}
use Rattle.state_asks.specs.declared.op.Op.{Op}
use Rattle.state_asks.specs.declared.reply.Reply.{Reply}
use Rattle.dyn_states.specs.StateObject.{StateObject, reply_of, after_ask, after_publication}
use Rattle.state_journal.specs.declared.entry.Entry.{Entry}
use Rattle.state_journal.specs.declared.entry.Entry.TheVariants.{Publish, Ask}
use Rattle.state_journal.specs.Journal.{Journal, IsJournal, IsLawfulFrom, object_from, object_after_publication, no_states, AreNumberedFrom, last_rules, BeginsWithOne, NamesRuleOf, IsFoundOf, with_ask, with_publication, first_journal}
use Rattle.state_journal.specs.Entries.{IsOfLanes, AsksKeptFlags}
use Rattle.state_journal.proofs.EntryLists.{AllByRecursion-append, last_number-ask, last_number-publication, publications-ask, publications-publication}
use Rattle.state_journal.proofs.Ruled.{AreRuled, found_of_ask, AreRuled-after_ask, AreRuled-publication, has_id-zero}

-- an ask behind lawful entries, with the state object's answer, leaves them lawful
IsLawfulFrom-ask : (o : StateObject) (facts : List Facts) (entries : List Entry) (lane at : ℕ) (op : Op) (reply : Reply)
    → IsLawfulFrom o facts entries → reply ≡ reply_of (object_from o facts entries) op → IsLawfulFrom o facts (entries ++ Ask lane op reply at ∷ [])
IsLawfulFrom-ask o [] [] lane at op reply is same = (same, tt)
IsLawfulFrom-ask o (next ∷ facts) [] lane at op reply is same = absurd is
IsLawfulFrom-ask o [] (Publish number ∷ entries) lane at op reply is same = absurd is
IsLawfulFrom-ask o (next ∷ facts) (Publish number ∷ entries) lane at op reply is same = (is.0, IsLawfulFrom-ask (object_after_publication o next) facts entries lane at op reply is.1 same)
IsLawfulFrom-ask o [] (Ask by asked told when ∷ entries) lane at op reply is same = (is.0, IsLawfulFrom-ask (after_ask o asked) [] entries lane at op reply is.1 same)
IsLawfulFrom-ask o (next ∷ facts) (Ask by asked told when ∷ entries) lane at op reply is same = (is.0, IsLawfulFrom-ask (after_ask o asked) (next ∷ facts) entries lane at op reply is.1 same)

-- the state object after one ask more
object_from-ask : (o : StateObject) (facts : List Facts) (entries : List Entry) (lane at : ℕ) (op : Op) (reply : Reply)
    → IsLawfulFrom o facts entries → object_from o facts (entries ++ Ask lane op reply at ∷ []) ≡ after_ask (object_from o facts entries) op
object_from-ask o [] [] lane at op reply is = refl
object_from-ask o (next ∷ facts) [] lane at op reply is = absurd is
object_from-ask o [] (Publish number ∷ entries) lane at op reply is = absurd is
object_from-ask o (next ∷ facts) (Publish number ∷ entries) lane at op reply is = object_from-ask (object_after_publication o next) facts entries lane at op reply is.1
object_from-ask o [] (Ask by asked told when ∷ entries) lane at op reply is = object_from-ask (after_ask o asked) [] entries lane at op reply is.1
object_from-ask o (next ∷ facts) (Ask by asked told when ∷ entries) lane at op reply is = object_from-ask (after_ask o asked) (next ∷ facts) entries lane at op reply is.1

-- a publication behind lawful entries leaves them lawful
IsLawfulFrom-publication : (o : StateObject) (facts : List Facts) (entries : List Entry) (more : Facts)
    → IsLawfulFrom o facts entries → IsLawfulFrom o (facts ++ more ∷ []) (entries ++ Publish more.number ∷ [])
IsLawfulFrom-publication o [] [] more is = (refl, tt)
IsLawfulFrom-publication o (next ∷ facts) [] more is = absurd is
IsLawfulFrom-publication o [] (Publish number ∷ entries) more is = absurd is
IsLawfulFrom-publication o (next ∷ facts) (Publish number ∷ entries) more is = (is.0, IsLawfulFrom-publication (object_after_publication o next) facts entries more is.1)
IsLawfulFrom-publication o [] (Ask by asked told when ∷ entries) more is = (is.0, IsLawfulFrom-publication (after_ask o asked) [] entries more is.1)
IsLawfulFrom-publication o (next ∷ facts) (Ask by asked told when ∷ entries) more is = (is.0, IsLawfulFrom-publication (after_ask o asked) (next ∷ facts) entries more is.1)

-- the state object after one publication more
object_from-publication : (o : StateObject) (facts : List Facts) (entries : List Entry) (more : Facts)
    → IsLawfulFrom o facts entries → object_from o (facts ++ more ∷ []) (entries ++ Publish more.number ∷ []) ≡ object_after_publication (object_from o facts entries) more
object_from-publication o [] [] more is = refl
object_from-publication o (next ∷ facts) [] more is = absurd is
object_from-publication o [] (Publish number ∷ entries) more is = absurd is
object_from-publication o (next ∷ facts) (Publish number ∷ entries) more is = object_from-publication (object_after_publication o next) facts entries more is.1
object_from-publication o [] (Ask by asked told when ∷ entries) more is = object_from-publication (after_ask o asked) [] entries more is.1
object_from-publication o (next ∷ facts) (Ask by asked told when ∷ entries) more is = object_from-publication (after_ask o asked) (next ∷ facts) entries more is.1

AreNumberedFrom-append : (n : ℕ) (facts : List Facts) (more : Facts) → AreNumberedFrom n facts → more.number ≡ n + length facts → AreNumberedFrom n (facts ++ more ∷ [])
AreNumberedFrom-append n [] more are is = (omega arith, tt)
AreNumberedFrom-append n (next ∷ facts) more are is = (are.0, AreNumberedFrom-append (n + 1) facts more are.1 (omega arith))

-- the last rules are those of the facts put behind the others
pub last_rules-append : (facts : List Facts) (more : Facts) → last_rules (facts ++ more ∷ []) ≡ more.rules
last_rules-append [] more = refl
last_rules-append (first ∷ []) more = refl
last_rules-append (first ∷ next ∷ facts) more = last_rules-append (next ∷ facts) more

BeginsWithOne-append : (entries : List Entry) (more : Entry) → BeginsWithOne entries → BeginsWithOne (entries ++ more ∷ [])
BeginsWithOne-append [] more is = absurd is
BeginsWithOne-append (Publish number ∷ entries) more is = is
BeginsWithOne-append (Ask lane op reply at ∷ entries) more is = absurd is

-- a book after an ask of one of its lanes is one
pub IsJournal-ask : (j : Journal) (lane at : ℕ) (op : Op) → IsJournal j → NamesRuleOf (last_rules j.facts) op → 1 ≤ lane → lane ≤ j.lanes → HasKeptFlags op
    → IsJournal (with_ask j lane at op (reply_of j.object op))
IsJournal-ask j lane at op is names first within flags = record {
  begins = BeginsWithOne-append j.entries _ is.begins;
  lawful = IsLawfulFrom-ask no_states j.facts j.entries lane at op _ is.lawful (ap (λ (o : StateObject). reply_of o op) is.object);
  object = ap (λ (o : StateObject). after_ask o op) is.object ∙ sym (object_from-ask no_states j.facts j.entries lane at op _ is.lawful);
  numbered = is.numbered;
  published = publications-ask lane at op _ j.entries ∙ is.published;
  current = last_number-ask 0 lane at op _ j.entries ∙ is.current;
  ruled = AreRuled-after_ask (last_rules j.facts) j.object op names is.ruled;
  asked = AllByRecursion-append (IsOfLanes j.lanes) j.entries (Ask lane op (reply_of j.object op) at) is.asked (first, within);
  flagged = AllByRecursion-append AsksKeptFlags j.entries (Ask lane op (reply_of j.object op) at) is.flagged flags;
}

-- what it answers has a rule of the last publication
pub IsFoundOf-ask : (j : Journal) (op : Op) → IsJournal j → IsFoundOf (last_rules j.facts) (reply_of j.object op)
IsFoundOf-ask j op is = found_of_ask (last_rules j.facts) j.object op is.ruled

-- a book after a publication is one
pub IsJournal-publication : (j : Journal) (facts : Facts) → IsJournal j → facts.number ≡ length j.facts + 1 → IsJournal (with_publication j facts)
unfolding after_publication
IsJournal-publication j facts is next = record {
  begins = BeginsWithOne-append j.entries _ is.begins;
  lawful = IsLawfulFrom-publication no_states j.facts j.entries facts is.lawful;
  object = ap (λ (o : StateObject). object_after_publication o facts) is.object ∙ sym (object_from-publication no_states j.facts j.entries facts is.lawful);
  numbered = AreNumberedFrom-append 1 j.facts facts is.numbered (omega arith);
  published =
      publications-publication facts.number j.entries
      ∙ ap (λ (numbers : List ℕ). numbers ++ facts.number ∷ []) is.published
      ∙ sym (map-append (λ (f : Facts). f.number) j.facts (facts ∷ []));
  current = let more : length (j.facts ++ facts ∷ []) ≡ length j.facts + 1 = omega (arith, length-append j.facts (facts ∷ [])) in
      last_number-publication 0 facts.number j.entries ∙ next ∙ sym more;
  ruled = subst (λ (rules : List ℕ). AreRuled rules (with_publication j facts).object.states) (sym (last_rules-append j.facts facts))
      (AreRuled-publication facts.rules facts.settings.keep j.object.states (has_id-zero facts.rules facts.ordered));
  asked = AllByRecursion-append (IsOfLanes j.lanes) j.entries (Publish facts.number) is.asked tt;
  flagged = AllByRecursion-append AsksKeptFlags j.entries (Publish facts.number) is.flagged tt;
}

-- the book of the first facts is one
pub IsJournal-first : (lanes : ℕ) (facts : Facts) → facts.number ≡ 1 → IsJournal (first_journal lanes facts)
unfolding after_publication
IsJournal-first lanes facts one = record {
  begins = one;
  lawful = (refl, tt);
  object = refl;
  numbered = (one, tt);
  published = refl;
  current = one;
  ruled = AreRuled-publication facts.rules facts.settings.keep [] (has_id-zero facts.rules facts.ordered);
  asked = (tt, tt);
  flagged = (tt, tt);
}
