-- The lock as it opens and as it closes.
use Rattle.std.specs.Prelude.{◌≡◌, ℕ, ◌-◌, ◌*◌, ◌%◌, ◌^◌, ◌<◌, ◌≤◌, true, false, Some, List, [], length, slice_get}
use Rattle.atomic_table.specs.Seated.{TableId}
use Rattle.rm_table.specs.declared.view.View.{View}
use Rattle.rm_table.specs.declared.part.Part.{Part}
use Rattle.rm_table.specs.Meanings.{Meanings, values_from, BeginsWith}
use Rattle.rm_table.specs.Moves.{IsLast, processor_view}
use Rattle.rm_table.specs.Ends.{first_part, first_view}
use Rattle.rm_lock.specs.Tokens.{TokenState}

module _ {E B T L I : Type 0} where
  -- what the operator knows, but for the parts that it keeps of processors
  abbrev pub unkept_view : View E B T L I → View E B T L I
  unkept_view v = record v { closing = false; kept = [] }

  -- the token of the processor at that place, of which the operator's seat keeps this part
  abbrev pub new_token : TableId → View E B T L I → (ℕ → Part E L I) → ℕ → TokenState E B T L I
  new_token table v parts place = record { table_id = table; view = processor_view v place (parts place) }

  -- these are the tokens of all processors, 1 to the count, each of them once, in any order
  pub record EachOnce (count : ℕ) (tokens : List (TokenState E B T L I)) : Type 0 where
    pub all : (k : ℕ) → 0 < k → k ≤ count → (j : ℕ) × (p : TokenState E B T L I) × (slice_get tokens j ≡ Some p) × (p.view.place ≡ k)
    pub within : (j : ℕ) (p : TokenState E B T L I) → slice_get tokens j ≡ Some p → (0 < p.view.place) × (p.view.place ≤ count)
    pub once : (i j : ℕ) (p q : TokenState E B T L I) → slice_get tokens i ≡ Some p → slice_get tokens j ≡ Some q → p.view.place ≡ q.view.place → i ≡ j

  module _ (m : Meanings E B T L I) where
    -- the token of a processor of a new lock: it is out, has begun no section, and holds its token at the book's number
    abbrev pub first_token : TableId → ℕ → E → B → ℕ → TokenState E B T L I
    first_token table n edition book = new_token table (first_view m n edition book) (first_part m book)

    -- What a new lock is: a token for each processor, in order, and the operator's, which knows that the book's number is published, as the
    -- one name of the editions with the tag of the book.
    pub record OpensAs (n : ℕ) (edition : E) (book : B) (table : TableId) (tokens : List (TokenState E B T L I)) (operator : TokenState E B T L I) : Type 0 where
      pub processors : tokens ≡ values_from (first_token table n edition book) 1 n
      pub lock : operator.table_id ≡ table
      pub knows : unkept_view operator.view ≡ unkept_view (first_view m n edition book)

    -- What is so of one processor at the end: its tracker is twice its sections, its list is in the book, which at the opening began the operator's,
    -- and its number, its refusal, and every pair of number and name that it saw are of publications.
    pub record EndsFor (v : View E B T L I) (book : B) (trackers : List ℕ) (p : View E B T L I) : Type 0 where
      pub tracker : slice_get trackers (p.place - 1) ≡ Some ((2 * p.part.sections) % 2 ^ 64)
      pub list : m.of book p.place ≡ p.part.own
      pub begins : BeginsWith v.own p.part.first
      pub held : p.part.held ≤ v.number
      pub refusal : (x : ℕ) → p.part.refusal ≡ Some x → x ≤ v.number
      pub pairs : (j x : ℕ) (l : L) → slice_get p.part.pairs j ≡ Some (x, l) → (v.opened ≤ x) × ((g : T) × (slice_get v.history (x - v.opened) ≡ Some (l, g)))

    -- What the lock gives back: the book with the number and tag of the last publication and with all lists, a tracker and an edition for each
    -- processor in order, the editions of the last number, name and tag.
    pub record ClosesAs (v : View E B T L I) (tokens : List (TokenState E B T L I)) (book : B) (trackers : List ℕ) (editions : List E) : Type 0 where
      pub name : L
      pub tag : T
      pub last : IsLast v name tag
      pub book_number : m.book_number book ≡ v.number
      pub book_tag : m.book_tag book ≡ tag
      pub list_0 : m.of book 0 ≡ v.own
      pub ready : v.ready ≡ true → m.book_ready book ≡ true
      pub tracker_count : length trackers ≡ v.count
      pub edition_count : length editions ≡ v.count
      pub published : (j : ℕ) (e : E) → slice_get editions j ≡ Some e → (m.number e ≡ v.number) × (m.name e ≡ name) × (m.tag e ≡ tag)
      pub each : (j : ℕ) (p : TokenState E B T L I) → slice_get tokens j ≡ Some p → EndsFor v book trackers p.view
