-- Desks that visit the book and publish.
use Rattle.std.proofs.Common.{◌≡◌, ℕ, ◌+◌, List, [], ◌∷◌, ◌++◌, Option, Some, refl, sym, ap, ◌∙◌, arith, append_assoc}
use Rattle.std.proofs.lemmas.List.{append-nil, length-append, map-append}
use Rattle.std.specs.Prelude.{slice_get}
use Rattle.std.specs.Arc.{arc_value}
use Rattle.fw_base.proofs.Lists.{all_push}
use Rattle.fw_world.proofs.Numbering.{AreNumbered-append}
use Rattle.generation_store.specs.Published.{Published, IsEdition}
use Rattle.rm_lock.specs.Calls.{OpensBook, PublishesEditions, BeginsWrite, after_giving_book, after_taking_book, with_loads}
use Rattle.rm_table.specs.Layout.{book_index}
use Rattle.rule_chain.specs.Configuration.{Configuration}
use Rattle.state_asks.specs.declared.facts.Facts.{Facts}
use Rattle.state_journal.specs.Journal.{Journal}
use Rattle.state_journal.specs.declared.entry.Item.{Item}
use Rattle.state_journal.specs.declared.entry.Item.TheVariants as item
use Rattle.shared_world.specs.DeskKept.{IsSharedDesk, AreShares, DeskView, VisitsDesk, desk_view, with_published}
use Rattle.shared_world.specs.Known.{Known, SharedEdition, means}
use Rattle.shared_world.specs.SharedDesk.{AreOnBook}

-- ---- a visit to the book

loads_behind : (steps : List (ℕ × ℕ)) (index : ℕ) (others : List ℕ) → with_loads steps index others ≡ steps ++ with_loads [] index others
loads_behind steps index [] = sym (append-nil steps)
loads_behind steps index (x ∷ others) = ap (λ (all : List (ℕ × ℕ)). all ++ (index, x) ∷ []) (loads_behind steps index others) ∙ append_assoc steps (with_loads [] index others) ((index, x) ∷ [])

on_book : (others : List ℕ) → AreOnBook (with_loads [] book_index others)
on_book [] = tt
on_book (x ∷ others) = all_push (λ (step : ℕ × ℕ). step.0 ≡ book_index) (with_loads [] book_index others) (book_index, x) (on_book others) refl

-- the steps of one visit
abbrev steps_of : List ℕ → List (ℕ × ℕ)
steps_of others = (with_loads [] book_index others ++ (book_index, 0) ∷ []) ++ (book_index, 0) ∷ []

-- the operator opened the book and shut it
pub visited : (before keeping after : Known) (taken book : Journal) → OpensBook means before keeping taken → after ≡ after_giving_book means keeping book → VisitsDesk before after
visited before keeping after taken book opens given = record { same = ap desk_view same; more = steps_of opens.others; on_book = all; steps = ap (λ (v : Known). v.steps) same ∙ behind }
  where
    same : after ≡ after_giving_book means (after_taking_book before opens.others taken) book
    same = given ∙ ap (λ (v : Known). after_giving_book means v book) opens.after_is

    once : List (ℕ × ℕ)
    once = with_loads [] book_index opens.others ++ (book_index, 0) ∷ []

    all : AreOnBook (steps_of opens.others)
    all = all_push (λ (step : ℕ × ℕ). step.0 ≡ book_index) once (book_index, 0) (all_push (λ (step : ℕ × ℕ). step.0 ≡ book_index) (with_loads [] book_index opens.others) (book_index, 0) (on_book opens.others) refl) refl

    behind : (with_loads before.steps book_index opens.others ++ (book_index, 0) ∷ []) ++ (book_index, 0) ∷ [] ≡ before.steps ++ steps_of opens.others
    behind =
        ap (λ (steps : List (ℕ × ℕ)). (steps ++ (book_index, 0) ∷ []) ++ (book_index, 0) ∷ []) (loads_behind before.steps book_index opens.others)
        ∙ ap (λ (steps : List (ℕ × ℕ)). steps ++ (book_index, 0) ∷ []) (append_assoc before.steps (with_loads [] book_index opens.others) ((book_index, 0) ∷ []))
        ∙ append_assoc before.steps once ((book_index, 0) ∷ [])

-- nothing happened
pub stays : (v : Known) → VisitsDesk v v
stays v = record { same = refl; more = []; on_book = tt; steps = sym (append-nil v.steps) }

-- ---- a publication

some-is : (a b : SharedEdition) → ◌≡◌ {A = Option SharedEdition} (Some a) (Some b) → a ≡ b
some-is a b same = cc

-- the first share of an edition is it
pub first_share : (edition : Published) (count : ℕ) (shares : List SharedEdition) (share : SharedEdition) → AreShares edition count shares → slice_get shares 0 ≡ Some share → arc_value share ≡ edition
first_share edition count [] share are is = cc
first_share edition count (one ∷ shares) share are is = ap (λ (e : SharedEdition). arc_value e) (sym (some-is one share is)) ∙ are.each.0

-- one edition of this name and with these facts was published
abbrev with_name : DeskView → Configuration → Facts → DeskView
with_name d name facts = record d { number = d.number + 1; history = d.history ++ (name, facts) ∷ []; own = d.own ++ item.Published facts ∷ [] }

-- the operator published shares of the edition
pub published : (before writing after : Known) (edition other : Published) (shares : List SharedEdition) (facts : Facts) → AreShares edition before.count shares → AreShares other before.count shares → facts ≡ other.facts
    → BeginsWrite before writing → PublishesEditions means writing shares facts after → desk_view after ≡ with_published (desk_view before) edition
published before writing after edition other shares facts are also same begins publishes =
    let share : arc_value publishes.edition ≡ edition = first_share edition before.count shares publishes.edition are publishes.first in
    let alike : other ≡ edition = sym (first_share other before.count shares publishes.edition also publishes.first) ∙ share in
    let told : facts ≡ edition.facts = same ∙ ap (λ (p : Published). p.facts) alike in
    ap desk_view publishes.after_is ∙ (λ i. with_name (desk_view (begins.same i)) (share i).config (told i))

-- ---- what holds of every desk

-- a visit to the book keeps it
pub visited-kept : (lanes : ℕ) (v u : Known) (editions : List Published) → VisitsDesk v u → IsSharedDesk lanes v editions → IsSharedDesk lanes u editions
visited-kept lanes v u editions visits is = record {
  count = ap (λ (d : DeskView). d.count) visits.same ∙ is.count;
  few = is.few;
  begun = is.begun;
  numbered = is.numbered;
  opened = ap (λ (d : DeskView). d.opened) visits.same ∙ is.opened;
  published = ap (λ (d : DeskView). d.number) visits.same ∙ is.published;
  history = ap (λ (d : DeskView). d.history) visits.same ∙ is.history;
  own = ap (λ (d : DeskView). d.own) visits.same ∙ is.own;
}

-- so does the publication of the next edition
pub published-kept : (lanes : ℕ) (v u : Known) (editions : List Published) (edition : Published) → desk_view u ≡ with_published (desk_view v) edition → edition.number ≡ v.number + 1 → IsEdition edition → IsSharedDesk lanes v editions
    → IsSharedDesk lanes u (editions ++ edition ∷ [])
published-kept lanes v u editions edition same number lawful is = record {
  count = ap (λ (d : DeskView). d.count) same ∙ is.count;
  few = is.few;
  begun = omega (arith, length-append editions (edition ∷ []));
  numbered = AreNumbered-append 1 editions edition is.numbered (omega (arith, number, is.published)) lawful;
  opened = ap (λ (d : DeskView). d.opened) same ∙ is.opened;
  published = omega (arith, ap (λ (d : DeskView). d.number) same, is.published, length-append editions (edition ∷ []));
  history =
      ap (λ (d : DeskView). d.history) same ∙ ap (λ (names : List (Configuration × Facts)). names ++ (edition.config, edition.facts) ∷ []) is.history
      ∙ sym (map-append (λ (e : Published). (e.config, e.facts)) editions (edition ∷ []));
  own =
      ap (λ (d : DeskView). d.own) same ∙ ap (λ (items : List Item). items ++ item.Published edition.facts ∷ []) is.own
      ∙ ap (λ (items : List Item). item.Lanes lanes ∷ items) (sym (map-append (λ (e : Published). item.Published e.facts) editions (edition ∷ [])));
}
