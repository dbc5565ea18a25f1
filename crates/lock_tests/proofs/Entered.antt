-- A book that was taken, had an entry added, and is given back.
use Rattle.std.proofs.Common.{◌≡◌, ◌≢◌, ℕ, ◌-◌, ◌^◌, ◌<◌, Some, sym, ◌∙◌, ap, subst, arith}
use Rattle.std.specs.Prelude.{slice_index_or, slice_set, replicate, nat_lt}
use Rattle.std.proofs.lemmas.List.{get_or-set_other}
use Rattle.rm_table.specs.declared.view.View.{View}
use Rattle.rm_table.specs.Meanings.{Meanings, meanings}
use Rattle.rm_table.specs.Moves.{LeftBy}
use Rattle.rm_lock.specs.Calls.{TakesBook, IsAsTaken}
use Rattle.lock_tests.specs.declared.marked_edition.Mark.{Mark}
use Rattle.lock_tests.specs.declared.marked_edition.MarkedEdition.{MarkedEdition}
use Rattle.lock_tests.specs.declared.entry_counts.EntryCounts.{EntryCounts}
use Rattle.lock_tests.specs.contracts.marked_edition.MarkedEditionNumbered.TheImpl as edition
use Rattle.lock_tests.specs.contracts.entry_counts.EntryCountsKept.TheImpl as counts

-- what editions and books are to the lock here
abbrev pub means : Meanings MarkedEdition EntryCounts Mark ℕ ℕ
means = meanings edition.ghosts counts.ghosts

-- one entry more in one list leaves the other lists
entry_leaves : (place length : ℕ) (taken book : EntryCounts) → 0 < place → book.last ≡ taken.last → book.lengths ≡ slice_set taken.lengths place length → LeftBy means place taken book
entry_leaves place length taken book above last lengths = record {
  number = ap (λ (m : Mark). m.number) last;
  tag = last;
  lists = λ k other. ap (λ n. replicate n k) (same k other);
  ready = λ was. ap (λ n. nat_lt n (2 ^ 64 - 1)) (same 0 (λ e. absurd (omega arith))) ∙ was;
}
  where
    same : (k : ℕ) → k ≢ place → slice_index_or book.lengths k 0 ≡ slice_index_or taken.lengths k 0
    same k other = ap (λ xs. slice_index_or xs k 0) lengths ∙ get_or-set_other taken.lengths place k length 0 other

-- who took this book, and added an entry of its own, may give it back
pub entered_as_taken : (place length : ℕ) (before after : View MarkedEdition EntryCounts Mark ℕ ℕ) (found seen book : EntryCounts) → TakesBook means before after found → seen ≡ found → before.place ≡ place → 0 < place
    → book.last ≡ seen.last → book.lengths ≡ slice_set seen.lengths place length → IsAsTaken means after book
entered_as_taken place length before after found seen book taking same at above last lengths taken is =
    let found_is : found ≡ taken = some_is (sym (ap (λ (v : View MarkedEdition EntryCounts Mark ℕ ℕ). v.book) taking.after_is) ∙ is) in
    let seen_is : seen ≡ taken = same ∙ found_is in
    let place_is : after.place ≡ place = ap (λ (v : View MarkedEdition EntryCounts Mark ℕ ℕ). v.place) taking.after_is ∙ at in
    subst (λ (p : ℕ). LeftBy means p taken book) (sym place_is)
    (entry_leaves place length taken book above (last ∙ ap (λ (b : EntryCounts). b.last) seen_is) (lengths ∙ ap (λ (b : EntryCounts). slice_set b.lengths place length) seen_is))
  where
    some_is : {a b : EntryCounts} → Some a ≡ Some b → a ≡ b
    some_is e = cc
