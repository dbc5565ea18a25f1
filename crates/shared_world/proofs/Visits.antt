-- What a visit to the book tells a lane in its section.
use Rattle.std.proofs.Common.{◌≡◌, ◌≢◌, ℕ, zero, suc, ◌+◌, ◌^◌, ◌<◌, ◌≤◌, true, false, List, [], ◌∷◌, ◌++◌, length, Option, Some, refl, sym, ap, ◌∙◌, subst, arith}
use Rattle.std.proofs.lemmas.List.{length-append}
use Rattle.std.specs.Prelude.{Result, Ok, Err, IfOk, OnErr, is_ok, unwrap_or, option_map, slice_get}
use Rattle.std.specs.Arc.{arc_value}
use Rattle.atomic_table.specs.Seated.{TableId}
use Rattle.dyn_states.specs.StateObject.{reply_of}
use Rattle.eval_engine.specs.Standing.{InstallsRuleOf, is_reply_to}
use Rattle.fw_base.specs.declared.failure.OutOfMemory.{OutOfMemory}
use Rattle.fw_world.proofs.Replies.{names_rule, reply_fits}
use Rattle.generation_store.specs.Published.{Published, IsEdition, has_identity}
use Rattle.rm_lock.specs.Calls.{TakesBook, IsAsTaken, after_taking_book, after_giving_book}
use Rattle.rm_table.specs.Moves.{LeftBy}
use Rattle.rule_chain.specs.Configuration.{Configuration}
use Rattle.rule_chain.specs.First.{first_configuration}
use Rattle.state_asks.specs.RuleLists.{has_id}
use Rattle.state_asks.specs.declared.facts.Facts.{Facts}
use Rattle.state_asks.specs.declared.op.Op.{Op}
use Rattle.state_asks.specs.declared.reply.Reply.{Reply}
use Rattle.state_journal.proofs.ItemLists.{own_ask, other_ask, asks_of-length}
use Rattle.state_journal.specs.Items.{asks_of, items_of, last_facts, no_facts}
use Rattle.state_journal.specs.Journal.{Journal, IsJournal, IsFoundOf, NamesRuleOf, with_ask}
use Rattle.state_journal.specs.declared.entry.Entry.TheVariants.{Ask}
use Rattle.state_journal.specs.declared.entry.Item.{Item}
use Rattle.state_journal.specs.declared.entry.Item.TheVariants.{Asked}
use Rattle.shared_world.specs.Apart.{Seat}
use Rattle.shared_world.specs.Known.{Known, SharedEdition, means}
use Rattle.shared_world.specs.LaneKept.{ReadsSeen, IsOfBook}
use Rattle.shared_world.specs.Visits.{IsAskingBy, AsksOnce, MissesOnce, VisitsBook, edition_of, steady_view}

-- the edition that a seat reads is the one that it reads
pub edition_of-reads : (v : Known) (e : SharedEdition) → v.part.reading ≡ Some e → edition_of v ≡ arc_value e
edition_of-reads v e reading = ap (λ (o : Option SharedEdition). unwrap_or (option_map arc_value o) (let none : Published = record { number = 0; config = first_configuration; facts = no_facts } in none)) reading

some-is : (a b : SharedEdition) → ◌≡◌ {A = Option SharedEdition} (Some a) (Some b) → a ≡ b
some-is a b same = cc

some_book : (a b : Journal) → ◌≡◌ {A = Option Journal} (Some a) (Some b) → a ≡ b
some_book a b same = cc

-- an ask of a lane leaves what others find in the book
left_by : (place : ℕ) (taken book : Journal) (lane at : ℕ) (op : Op) (result : Result Reply OutOfMemory) → lane ≡ place → IfOk result (λ reply. book ≡ with_ask taken lane at op reply) → OnErr result (book ≡ taken) → LeftBy means place taken book
left_by place taken book lane at op (Ok reply) same entered unchanged = subst (λ (j : Journal). LeftBy means place taken j) (sym entered) (record { number = refl; tag = refl; lists = lists; ready = λ is. is })
  where
    lists : (k : ℕ) → k ≢ place → items_of (with_ask taken lane at op reply) k ≡ items_of taken k
    lists zero other = refl
    lists (suc k) other = other_ask (suc k) lane 0 at op reply taken.entries (λ is. other (is ∙ same))
left_by place taken book lane at op (Err fault) same entered unchanged = subst (λ (j : Journal). LeftBy means place taken j) (sym unchanged) (record { number = refl; tag = refl; lists = λ k other. refl; ready = λ is. is })

-- its own list has it as the last one
own_after : (place at held : ℕ) (op : Op) (reply : Reply) (taken : Journal) → 1 ≤ place → IsJournal taken → length taken.facts ≡ held → items_of (with_ask taken place at op reply) place ≡ items_of taken place ++ Asked held (Ask place op reply at) ∷ []
own_after zero at held op reply taken first is number = absurd (omega (arith, first))
own_after (suc k) at held op reply taken first is number =
    own_ask (suc k) 0 at op reply taken.entries ∙ ap (λ (n : ℕ). asks_of (suc k) 0 taken.entries ++ Asked n (Ask (suc k) op reply at) ∷ []) (is.current ∙ number)

-- and is no longer than the entries
own_length : (place : ℕ) (book : Journal) → 1 ≤ place → length (items_of book place) ≤ length book.entries
own_length zero book first = absurd (omega (arith, first))
own_length (suc k) book first = asks_of-length (suc k) 0 book.entries

-- the book that is lent is the one that was taken
pub takes_now : (before held : Known) (taken now : Journal) → now ≡ taken → TakesBook means before held taken → TakesBook means before held now
takes_now before held taken now same takes = subst (λ (j : Journal). TakesBook means before held j) (sym same) takes

module _ (before held : Known) (taken : Journal) (takes : TakesBook means before held taken) where
  -- the edition that is read has the facts that the book knows
  known : (reads : ReadsSeen before) → last_facts taken.facts ≡ (edition_of before).facts
  known reads = takes.tag ∙ ap (λ (p : Published). p.facts) (sym (edition_of-reads before takes.edition takes.reading))

  lawful : (reads : ReadsSeen before) → IsEdition (edition_of before)
  lawful reads = subst (λ (p : Published). IsEdition p) (sym (edition_of-reads before reads.edition reads.reading)) reads.lawful

  -- the rules that the states know are those of the edition
  same_rules : (reads : ReadsSeen before) (id : ℕ) → has_id (last_facts taken.facts).rules id ≡ has_identity (edition_of before).config.rules id
  same_rules reads id = ap (λ (f : Facts). has_id f.rules id) (known reads) ∙ (lawful reads).identified id

  -- what is installed names one of them
  pub names : (reads : ReadsSeen before) (op : Op) → InstallsRuleOf (edition_of before).config.rules op → NamesRuleOf (last_facts taken.facts).rules op
  names reads op installs = names_rule _ _ op (same_rules reads) installs

  -- the reply fits the edition
  pub fits : (reads : ReadsSeen before) (op : Op) (result : Result Reply OutOfMemory) → IfOk result (λ reply. reply ≡ reply_of taken.object op) → IfOk result (IsFoundOf (last_facts taken.facts).rules)
      → IfOk result (λ reply. is_reply_to (edition_of before).config.rules op reply ≡ true)
  fits reads op (Ok reply) told found = reply_fits taken.object (last_facts taken.facts).rules (edition_of before).config.rules op reply (same_rules reads) told found
  fits reads op (Err fault) told found = tt

  module _ (lane at : ℕ) (op : Op) (book : Journal) (result : Result Reply OutOfMemory) (own : lane ≡ before.place) (first : 1 ≤ before.place) (entered : IfOk result (λ reply. book ≡ with_ask taken lane at op reply)) (unchanged : OnErr result (book ≡ taken)) where
    -- the book may be given back
    pub as_taken : IsAsTaken means held book
    as_taken b is =
        let was : taken ≡ b = some_book taken b (sym (ap (λ (v : Known). v.book) takes.after_is) ∙ is) in
        let place : before.place ≡ held.place = sym (ap (λ (v : Known). v.place) takes.after_is) in
        subst (λ (j : Journal). LeftBy means held.place j book) was (left_by held.place taken book lane at op result (own ∙ place) entered unchanged)

    module _ (after : Known) (given : after ≡ after_giving_book means held book) where
      same : after ≡ after_giving_book means (after_taking_book before takes.others taken) book
      same = given ∙ ap (λ (v : Known). after_giving_book means v book) takes.after_is

      visits : (items : List Item) → items_of book before.place ≡ items → VisitsBook before after items
      visits items is = record { steady = ap steady_view same; taken = ap (λ (v : Known). v.part.book_taken) same; own_is = ap (λ (v : Known). v.part.own) same ∙ is }

      -- an ask that was answered
      pub asked : IsJournal taken → IfOk result (λ reply. AsksOnce before at op reply after)
      asked is = told result entered
        where
          told : (r : Result Reply OutOfMemory) → IfOk r (λ reply. book ≡ with_ask taken lane at op reply) → IfOk r (λ reply. AsksOnce before at op reply after)
          told (Ok reply) e = visits (before.part.own ++ Asked before.part.held (Ask before.place op reply at) ∷ [])
              (ap (λ (j : Journal). items_of j before.place) (e ∙ ap (λ (n : ℕ). with_ask taken n at op reply) own) ∙ own_after before.place at before.part.held op reply taken first is takes.number
              ∙ ap (λ (items : List Item). items ++ Asked before.part.held (Ask before.place op reply at) ∷ []) takes.own)
          told (Err fault) e = tt

      -- an ask that wanted memory
      pub missed : OnErr result (MissesOnce before after)
      missed = told result unchanged
        where
          told : (r : Result Reply OutOfMemory) → OnErr r (book ≡ taken) → OnErr r (MissesOnce before after)
          told (Ok reply) e = tt
          told (Err fault) e = visits before.part.own (ap (λ (j : Journal). items_of j before.place) e ∙ takes.own)

      -- a u64 counts its list
      pub counted : length book.entries < 2 ^ 64 → length after.part.own < 2 ^ 64
      counted few =
          let is : after.part.own ≡ items_of book before.place = ap (λ (v : Known). v.part.own) same in
          subst (λ (items : List Item). length items < 2 ^ 64) (sym is) (let short = own_length before.place book first in omega (arith, short, few))

-- visits leave what is read
pub reads_after : (before after : Known) → steady_view after ≡ steady_view before → ReadsSeen before → ReadsSeen after
reads_after before after steady is = record {
  edition = is.edition;
  reading = ap (λ (v : Known). v.part.reading) steady ∙ is.reading;
  held = is.held ∙ sym (ap (λ (v : Known). v.part.held) steady);
  lawful = is.lawful;
  index = is.index;
  seen = subst (λ (pairs : List (ℕ × Configuration)). slice_get pairs is.index ≡ Some ((arc_value is.edition).number, (arc_value is.edition).config)) (sym (ap (λ (v : Known). v.part.pairs) steady)) is.seen;
  named = λ j other at. is.named j other (subst (λ (pairs : List (ℕ × Configuration)). slice_get pairs j ≡ Some ((arc_value is.edition).number, other)) (ap (λ (v : Known). v.part.pairs) steady) at);
}

-- and whose the seat is
pub of_book_after : (before after : Known) → steady_view after ≡ steady_view before → IsOfBook before → IsOfBook after
of_book_after before after steady is = record {
  first = subst (λ (n : ℕ). 1 ≤ n) (sym (ap (λ (v : Known). v.place) steady)) is.first;
  count = is.count;
  rest = is.rest;
  opened = ap (λ (v : Known). v.part.first) steady ∙ is.opened;
  last = subst (λ (n : ℕ). n ≤ is.count) (sym (ap (λ (v : Known). v.place) steady)) is.last;
}

some_seat : (a b : Seat) → ◌≡◌ {A = Option Seat} (Some a) (Some b) → a ≡ b
some_seat a b same = cc

module _ (lock : TableId) (reading : Option Seat) (asks : ℕ) (is : IsAskingBy lock reading asks) (token next : Seat) (there : Some token ≡ reading) (table : next.table_id ≡ lock) where
  same_token : token ≡ is.token
  same_token = some_seat token is.token (there ∙ is.is_there)

  kept : (own : List Item) (more : ℕ) → VisitsBook token.view next.view own → more ≤ length own → IsAskingBy lock (Some next) more
  kept own more visits few = record {
    token = next;
    is_there = refl;
    of_lock = table;
    reads = reads_after token.view next.view visits.steady (subst (λ (t : Seat). ReadsSeen t.view) (sym same_token) is.reads);
    of_book = of_book_after token.view next.view visits.steady (subst (λ (t : Seat). IsOfBook t.view) (sym same_token) is.of_book);
    counted = subst (λ (items : List Item). more ≤ length items) (sym visits.own_is) few;
  }

  few : asks ≤ length token.view.part.own
  few = subst (λ (t : Seat). asks ≤ length t.view.part.own) (sym same_token) is.counted

  -- the lane's seat, and the count, after an ask that was answered
  pub kept_asked : (at : ℕ) (op : Op) (result : Result Reply OutOfMemory) → is_ok result ≡ true → IfOk result (λ reply. AsksOnce token.view at op reply next.view) → IsAskingBy lock (Some next) (asks + 1)
  kept_asked at op (Ok reply) ok asked =
      kept (token.view.part.own ++ Asked token.view.part.held (Ask token.view.place op reply at) ∷ []) (asks + 1) asked (omega (arith, few, length-append token.view.part.own (Asked token.view.part.held (Ask token.view.place op reply at) ∷ [])))
  kept_asked at op (Err fault) ok asked = absurd cc

  -- and after one that wanted memory
  pub kept_missed : (result : Result Reply OutOfMemory) → is_ok result ≡ false → OnErr result (MissesOnce token.view next.view) → IsAskingBy lock (Some next) asks
  kept_missed (Ok reply) ok missed = absurd cc
  kept_missed (Err fault) ok missed = kept token.view.part.own asks missed few
