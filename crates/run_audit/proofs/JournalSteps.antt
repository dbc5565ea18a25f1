-- One step of a journal that is replayed, as the definition of the whole has it.
use Rattle.std.proofs.Common.{◌≡◌, ℕ, suc, ◌+◌, ◌-◌, ◌≤◌, ◌==◌, Bool, true, false, if◌then◌else◌, Option, Some, None, List, [], ◌∷◌, ◌++◌, length, take, refl, sym, ap, subst, ◌∙◌, inl, inr, arith, length-append}
use Rattle.std.specs.Prelude.{IsSomeAnd, slice_get}
use Rattle.std.proofs.lemmas.Bool.{cases_Bool, eqb-true}
use Rattle.dyn_states.specs.StateObject.{reply_of}
use Rattle.fw_world.specs.Publications.{facts_of}
use Rattle.generation_store.specs.Published.{Published}
use Rattle.report_reading.specs.AskLines.{AskValue}
use Rattle.report_reading.specs.Readings.{LineValue, OfRecord, OfPublication, OfAsk, OfLane, OfOther}
use Rattle.fw_base.specs.Chain.{◌>>=◌}
use Rattle.state_asks.specs.declared.facts.Facts.{Facts}
use Rattle.state_asks.specs.declared.op.Op.{Op}
use Rattle.state_journal.specs.Journal.{Journal, last_rules, with_ask, with_publication}
use Rattle.run_audit.specs.JournalTold.{Lawful, at_the_end, edition_in_force, no_journal, published_under, answered_as, with_line, wrong_line}
use Rattle.run_audit.specs.Replaying.{IsEntered, IsPublishedLast, IsReplayed}
use Rattle.run_audit.specs.Telling.{IsBegunUnder}
use Rattle.run_audit.specs.ToldAsks.{op_under, are_told_alike}
use Rattle.report_reading.proofs.Words.{same_number}

-- ---- a step is the definition's

-- what is next is published
abbrev Publishes : ℕ → Journal → Journal → Published → Type 0
Publishes number old new edition = (number ≡ edition.number) × (new ≡ with_publication old edition.facts)

published_so : (found : Option Published) (number : ℕ) (old new : Journal) → IsSomeAnd found (Publishes number old new) → (found >>= published_under number old) ≡ Some new
published_so None number old new is = absurd is
published_so (Some edition) number old new is =
    let test : (edition.number == number) ≡ true = ap (λ n. edition.number == n) is.0 ∙ same_number edition.number in
    rw test (ap (λ (j : Journal). Some j) (sym is.1))

none_published : (found : Option Published) (number : ℕ) (old : Journal) → ((new : Journal) → IsSomeAnd found (Publishes number old new) → ⊥) → (found >>= published_under number old) ≡ None
none_published None number old wrong = refl
none_published (Some edition) number old wrong = elim (cases_Bool (edition.number == number)) [
  | inl same ↦ absurd (wrong (with_publication old edition.facts) (sym (eqb-true edition.number number same), refl))
  | inr other ↦ rw other refl
]

asked_so : (found : Option Op) (told : AskValue) (old new : Journal) (op : Op) → found ≡ Some op → are_told_alike (reply_of old.object op) told.reply ≡ true
    → new ≡ with_ask old told.lane told.at op (reply_of old.object op) → (found >>= answered_as told old) ≡ Some new
asked_so found told old new op known answered now =
    ap (λ (o : Option Op). o >>= answered_as told old) known ∙ rw answered (ap (λ (j : Journal). Some j) (sym now))

entered_so : (found : Option Published) (told : AskValue) (old new : Journal) → IsSomeAnd found (λ edition. IsEntered edition told old new)
    → (found >>= λ (edition : Published). op_under edition told.op told.name >>= answered_as told old) ≡ Some new
entered_so None told old new is = absurd is
entered_so (Some edition) told old new is = asked_so (op_under edition told.op told.name) told old new is.op is.is.known is.is.answered is.now

none_asked : (edition : Published) (found : Option Op) (told : AskValue) (old : Journal) → op_under edition told.op told.name ≡ found → ((new : Journal) → IsEntered edition told old new → ⊥)
    → (found >>= answered_as told old) ≡ None
none_asked edition None told old known wrong = refl
none_asked edition (Some op) told old known wrong = elim (cases_Bool (are_told_alike (reply_of old.object op) told.reply)) [
  | inl alike ↦
      absurd (wrong (with_ask old told.lane told.at op (reply_of old.object op)) (record { op = op; is = record { known = known; answered = alike }; now = refl }))
  | inr other ↦ rw other refl
]

none_entered : (found : Option Published) (told : AskValue) (old : Journal) → ((new : Journal) → IsSomeAnd found (λ edition. IsEntered edition told old new) → ⊥)
    → (found >>= λ (edition : Published). op_under edition told.op told.name >>= answered_as told old) ≡ None
none_entered None told old wrong = refl
none_entered (Some edition) told old wrong = none_asked edition (op_under edition told.op told.name) told old refl wrong

-- the edition in force is the one that was published last
in_force : (editions : List Published) (facts : List Facts) → 1 ≤ length facts → edition_in_force editions facts ≡ slice_get editions (length facts - 1)
in_force editions [] some = absurd (omega (arith, some))
in_force editions (first ∷ facts) some =
    let place : length facts ≡ length (first ∷ facts) - 1 = omega arith in
    ap (slice_get editions) place

-- what a line tells was replayed
pub replayed_so : (editions : List Published) (value : LineValue) (old new : Journal) → 1 ≤ length old.facts → IsReplayed editions value old new
    → with_line editions value old ≡ Some new
replayed_so editions (OfRecord told) old new some is = ap (λ (j : Journal). Some j) (sym is)
replayed_so editions (OfPublication number) old new some is = published_so (slice_get editions (length old.facts)) number old new is
replayed_so editions (OfAsk told) old new some is =
    ap (λ (o : Option Published). o >>= λ (edition : Published). op_under edition told.op told.name >>= answered_as told old) (in_force editions old.facts some)
    ∙ entered_so (slice_get editions (length old.facts - 1)) told old new is
replayed_so editions (OfLane told) old new some is = ap (λ (j : Journal). Some j) (sym is)
replayed_so editions OfOther old new some is = ap (λ (j : Journal). Some j) (sym is)

-- what a line tells can't be replayed
pub none_replayed : (editions : List Published) (value : LineValue) (old : Journal) → 1 ≤ length old.facts → ((new : Journal) → IsReplayed editions value old new → ⊥)
    → with_line editions value old ≡ None
none_replayed editions (OfRecord told) old some wrong = absurd (wrong old refl)
none_replayed editions (OfPublication number) old some wrong = none_published (slice_get editions (length old.facts)) number old wrong
none_replayed editions (OfAsk told) old some wrong =
    ap (λ (o : Option Published). o >>= λ (edition : Published). op_under edition told.op told.name >>= answered_as told old) (in_force editions old.facts some)
    ∙ none_entered (slice_get editions (length old.facts - 1)) told old wrong
none_replayed editions (OfLane told) old some wrong = absurd (wrong old refl)
none_replayed editions OfOther old some wrong = absurd (wrong old refl)

-- ---- a journal stays under its editions

same_Some : (a b : Published) → Some a ≡ Some b → a ≡ b
same_Some a b is = cc

-- the facts of one edition more
pub front_more : (editions : List Published) (facts : List Facts) (edition : Published) → facts ≡ take (length facts) (facts_of editions) → slice_get editions (length facts) ≡ Some edition
    → facts ++ edition.facts ∷ [] ≡ take (length (facts ++ edition.facts ∷ [])) (facts_of editions)
front_more [] [] edition front next = absurd (cc)
front_more (one ∷ editions) [] edition front next = ap (λ (e : Published). e.facts ∷ []) (sym (same_Some one edition next))
front_more [] (first ∷ facts) edition front next = absurd (cc)
front_more (one ∷ editions) (first ∷ facts) edition front next =
    let head : first ≡ one.facts = cc in
    let tail : facts ≡ take (length facts) (facts_of editions) = cc in
    ap (λ (f : Facts). f ∷ (facts ++ edition.facts ∷ [])) head ∙ ap (λ (fs : List Facts). one.facts ∷ fs) (front_more editions facts edition tail next)

-- the rules of the last facts are those of the edition that was published last
last_front : (editions : List Published) (facts : List Facts) → 1 ≤ length facts → facts ≡ take (length facts) (facts_of editions)
    → IsSomeAnd (slice_get editions (length facts - 1)) (λ edition. last_rules facts ≡ edition.facts.rules)
last_front editions [] some front = absurd (omega (arith, some))
last_front [] (first ∷ facts) some front = absurd (cc)
last_front (one ∷ editions) (first ∷ []) some front =
    let head : first ≡ one.facts = cc in
    ap (λ (f : Facts). f.rules) head
last_front (one ∷ editions) (first ∷ next ∷ facts) some front =
    let tail : next ∷ facts ≡ take (length (next ∷ facts)) (facts_of editions) = cc in
    let inner : 1 ≤ length (next ∷ facts) = omega arith in
    let same : suc (length (next ∷ facts) - 1) ≡ length (first ∷ next ∷ facts) - 1 = omega arith in
    subst (λ k. IsSomeAnd (slice_get (one ∷ editions) k) (λ (edition : Published). last_rules (next ∷ facts) ≡ edition.facts.rules)) same (last_front editions (next ∷ facts) inner tail)

-- so it is with a journal that has begun
pub published_last : (editions : List Published) (journal : Journal) → IsBegunUnder editions journal → IsPublishedLast editions journal
published_last editions journal begun = last_front editions journal.facts begun.some begun.front

-- a journal with one edition more is under its editions
pub begun_more : (editions : List Published) (journal : Journal) (edition : Published) → journal.lanes ≡ 16 → journal.facts ≡ take (length journal.facts) (facts_of editions)
    → slice_get editions (length journal.facts) ≡ Some edition → IsBegunUnder editions (with_publication journal edition.facts)
begun_more editions journal edition lanes front next =
    let longer : length (journal.facts ++ edition.facts ∷ []) ≡ length journal.facts + 1 = length-append journal.facts (edition.facts ∷ []) in
    let some : 1 ≤ length (journal.facts ++ edition.facts ∷ []) = omega (arith, longer) in
    record {
      lanes = lanes;
      some = some;
      front = front_more editions journal.facts edition front next;
    }

-- ---- where a journal begins

-- the book that begins with the edition that is found
pub begins_with : (found : Option Published) (edition : Published) (number : ℕ) (book : Journal) → Some edition ≡ found → edition.number ≡ number
    → book ≡ with_publication no_journal edition.facts → Some book ≡ (found >>= published_under number no_journal)
begins_with found edition number book is same now =
    let test : (edition.number == number) ≡ true = ap (λ n. edition.number == n) (sym same) ∙ same_number edition.number in
    let there : (Some edition >>= published_under number no_journal) ≡ Some book = rw test (ap (λ (j : Journal). Some j) (sym now)) in
    sym there ∙ ap (λ (o : Option Published). o >>= published_under number no_journal) is

-- none begins with an edition of another number
pub other_number : (found : Option Published) (edition : Published) (number : ℕ) → Some edition ≡ found → (edition.number ≡ number → ⊥)
    → None ≡ (found >>= published_under number no_journal)
other_number found edition number is other = elim (cases_Bool (edition.number == number)) [
  | inl same ↦ absurd (other (eqb-true edition.number number same))
  | inr differs ↦
      let there : (Some edition >>= published_under number no_journal) ≡ None = rw differs refl in
      sym there ∙ ap (λ (o : Option Published). o >>= published_under number no_journal) is
]

-- none begins where there is no edition
pub no_edition : (found : Option Published) (number : ℕ) → None ≡ found → None ≡ (found >>= published_under number no_journal)
no_edition found number is = ap (λ (o : Option Published). o >>= published_under number no_journal) is

begun_if : (editions : List Published) (edition : Published) (number : ℕ) (b : Bool) (journal : Journal) → slice_get editions 0 ≡ Some edition
    → (if b then Some (with_publication no_journal edition.facts) else None) ≡ Some journal → IsBegunUnder editions journal
begun_if editions edition number false journal first is = absurd (cc)
begun_if editions edition number true journal first is =
    let same : with_publication no_journal edition.facts ≡ journal = same_journal (with_publication no_journal edition.facts) journal is in
    subst (λ (j : Journal). IsBegunUnder editions j) same (begun_more editions no_journal edition refl refl first)
  where
    same_journal : (a b : Journal) → Some a ≡ Some b → a ≡ b
    same_journal a b h = cc

begun_of : (editions : List Published) (found : Option Published) (number : ℕ) (journal : Journal) → slice_get editions 0 ≡ found → (found >>= published_under number no_journal) ≡ Some journal
    → IsBegunUnder editions journal
begun_of editions None number journal first is = absurd (cc)
begun_of editions (Some edition) number journal first is = begun_if editions edition number (edition.number == number) journal first is

-- the journal that begins with the first edition is under all of them
pub begun_first : (editions : List Published) (number : ℕ) (journal : Journal) → (slice_get editions 0 >>= published_under number no_journal) ≡ Some journal → IsBegunUnder editions journal
begun_first editions number journal is = begun_of editions (slice_get editions 0) number journal refl is

-- ---- a step keeps a journal under its editions

on_publication : (editions : List Published) (found : Option Published) (number : ℕ) (old new : Journal) → slice_get editions (length old.facts) ≡ found
    → IsSomeAnd found (Publishes number old new) → IsBegunUnder editions old → IsBegunUnder editions new
on_publication editions None number old new next is begun = absurd is
on_publication editions (Some edition) number old new next is begun =
    subst (λ (j : Journal). IsBegunUnder editions j) (sym is.1) (begun_more editions old edition begun.lanes begun.front next)

on_ask : (editions : List Published) (found : Option Published) (told : AskValue) (old new : Journal) → IsSomeAnd found (λ edition. IsEntered edition told old new) → IsBegunUnder editions old
    → IsBegunUnder editions new
on_ask editions None told old new is begun = absurd is
on_ask editions (Some edition) told old new is begun =
    subst (λ (j : Journal). IsBegunUnder editions j) (sym is.now) (record { lanes = begun.lanes; some = begun.some; front = begun.front })

-- what a line tells keeps it
pub begun_kept : (editions : List Published) (value : LineValue) (old new : Journal) → IsReplayed editions value old new → IsBegunUnder editions old → IsBegunUnder editions new
begun_kept editions (OfRecord told) old new is begun = subst (λ (j : Journal). IsBegunUnder editions j) (sym is) begun
begun_kept editions (OfPublication number) old new is begun = on_publication editions (slice_get editions (length old.facts)) number old new refl is begun
begun_kept editions (OfAsk told) old new is begun = on_ask editions (slice_get editions (length old.facts - 1)) told old new is begun
begun_kept editions (OfLane told) old new is begun = subst (λ (j : Journal). IsBegunUnder editions j) (sym is) begun
begun_kept editions OfOther old new is begun = subst (λ (j : Journal). IsBegunUnder editions j) (sym is) begun

-- ---- the end

-- each edition was published
pub complete : (editions : List Published) (line : ℕ) (journal : Journal) → (length journal.facts == length editions) ≡ true → at_the_end editions line journal ≡ Lawful journal
complete editions line journal is = rw is refl

-- some edition wasn't
pub incomplete : (editions : List Published) (line : ℕ) (journal : Journal) → (length journal.facts == length editions) ≡ false → wrong_line (at_the_end editions line journal) ≡ Some line
incomplete editions line journal is = rw is refl

-- none was
pub none_begun : (editions : List Published) (line : ℕ) → 1 ≤ length editions → wrong_line (at_the_end editions line no_journal) ≡ Some line
none_begun editions line some = incomplete editions line no_journal (other (length editions) some)
  where
    other : (n : ℕ) → 1 ≤ n → (0 == n) ≡ false
    other n some = grind (arith)
