-- What an edition and a book mean to the lock, and what of a step is plain data.
use Rattle.fw_base.specs.declared.numbered.Numbered.{Ghosts as Edition}
use Rattle.fw_base.specs.declared.kept.Kept.{Ghosts as Book}
use Rattle.std.specs.Prelude.{◌≡◌, ℕ, zero, suc, ◌+◌, ◌==◌, Bool, List, [], ◌∷◌, ◌++◌, if◌then◌else◌}

-- Number, tag and name of an edition; number, tag, readiness and lists of a book; and the item that a tag is in a list.
pub record Meanings (E B T L I : Type 0) : Type 0 where
  pub number : E → ℕ
  pub tag : E → T
  pub name : E → L
  pub book_number : B → ℕ
  pub book_tag : B → T
  pub book_ready : B → Bool
  pub of : B → ℕ → List I
  pub item : T → I

-- what the ghosts of an edition's and a book's traits mean to the lock
abbrev pub meanings : {E B T L I : Type 0} → Edition E T L → Book B T I → Meanings E B T L I
meanings edition book = record {
  number = edition.number;
  tag = edition.tag;
  name = edition.name;
  book_number = book.number;
  book_tag = book.tag;
  book_ready = book.ready;
  of = book.of;
  item = book.facts_item;
}

-- f, but a at p
unfoldable pub with_value_at : {A : Type 0} → (ℕ → A) → ℕ → A → ℕ → A
with_value_at f p a k = if k == p then a else f k

-- the values of f at `from` and the n - 1 numbers behind it
abbrev pub values_from : {A : Type 0} → (ℕ → A) → ℕ → ℕ → List A
values_from f from zero = []
values_from f from (suc n) = f from ∷ values_from f (suc from) n

-- the names of a history with their numbers, of which the first is `from`
abbrev pub numbered_names : {L T : Type 0} → ℕ → List (L × T) → List (ℕ × L)
numbered_names from [] = []
numbered_names from (x ∷ xs) = (from, x.0) ∷ numbered_names (from + 1) xs

-- ys begins with xs
abbrev pub BeginsWith : {A : Type 0} → List A → List A → Type 0
BeginsWith {A} ys xs = (rest : List A) × (ys ≡ xs ++ rest)
