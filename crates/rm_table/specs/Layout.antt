-- Which word of the table says what. For n processors there are 2 n + 3 words that are used. Word w stands at
-- index 8 w, so that no two of them share a cache line of 64 bytes: a reader writes words of its own processor only,
-- and on a shared line each reader would still wait for the others.
use Rattle.std.specs.Prelude.{ℕ, ◌+◌, ◌-◌, ◌*◌, ◌%◌, ◌^◌, ◌==◌, Bool, false, Option, Some, None}
use Rattle.rm_core.specs.declared.processor_state.Phase.{Phase}
use Rattle.rm_core.specs.declared.processor_state.Phase.TheVariants.{Out, Raised, In}
use Rattle.rm_core.specs.declared.processor_state.Token.{Token}
use Rattle.rm_core.specs.declared.processor_state.Token.TheVariants.{Held, Revoked}

-- where word w stands in the table
abbrev pub index_of_word : ℕ → ℕ
index_of_word w = 8 * w

-- how many words the table has, those between included
abbrev pub word_count : ℕ → ℕ
word_count n = index_of_word (2 * n + 3)

-- word 0: the published number
abbrev pub number_index : ℕ
number_index = index_of_word 0

-- word 1: who holds the lock behind
abbrev pub behind_index : ℕ
behind_index = index_of_word 1

-- word 2: who holds the book
abbrev pub book_index : ℕ
book_index = index_of_word 2

-- words 3 to n + 2: the trackers
abbrev pub tracker_index : ℕ → ℕ
tracker_index place = index_of_word (place + 2)

-- words n + 3 to 2 n + 2: the tokens
abbrev pub token_index : ℕ → ℕ → ℕ
token_index n place = index_of_word (n + place + 2)

-- twice the sections begun, less 1 where the processor is raised or in
abbrev pub tracker_word : ℕ → Phase → ℕ
tracker_word sections Out = (2 * sections) % 2 ^ 64
tracker_word sections Raised = (2 * sections + (2 ^ 64 - 1)) % 2 ^ 64
tracker_word sections In = (2 * sections + (2 ^ 64 - 1)) % 2 ^ 64

-- 0 where held, else the number that it was revoked for
abbrev pub token_word : Token → ℕ
token_word Held = 0
token_word (Revoked number) = number

-- 0 where nobody holds the lock
abbrev pub holder_word : Option ℕ → ℕ
holder_word None = 0
holder_word (Some holder) = holder

-- this one holds the lock
abbrev pub is_held_by : Option ℕ → ℕ → Bool
is_held_by None place = false
is_held_by (Some holder) place = holder == place
