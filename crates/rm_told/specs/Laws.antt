-- What holds of a processor over many calls, whatever threads call in between.
use Rattle.std.specs.Prelude.{◌≡◌, ◌⊎◌, ℕ, ◌≤◌, max, Some, List, [], ◌∷◌, slice_get}
use Rattle.rm_table.specs.Meanings.{Meanings}
use Rattle.rm_table.specs.Moves.{informed_view}
use Rattle.rm_lock.specs.declared.reader_calls.Entry.TheVariants as entry
use Rattle.rm_lock.specs.Tokens.{TokenState, told_number}
use Rattle.rm_lock.specs.Calls.{Enters, Regains, FindsHeld, TakesBook, after_giving_book, after_lower}
use Rattle.rm_told.specs.DeepState.{DeepState}
use Rattle.rm_told.specs.Depths.{EntersAtOne, Leaves, one_section_deeper}
use Rattle.rm_told.specs.declared.told.DeepEntry.TheVariants.{In}
use Rattle.rm_told.specs.declared.told.Left.TheVariants.{Still}

module _ {E B T L I : Type 0} where
  -- a processor heard that receipt
  pub record Hears (before receipt after : TokenState E B T L I) : Type 0 where
    pub heard : after.view ≡ informed_view before.view receipt.view
    pub told : told_number after.view ≡ max (told_number before.view) receipt.view.number

  -- In a section: one that lies in it begins, or one that lies in another ends.
  abbrev pub Nests : DeepState E B T L I → DeepState E B T L I → Type 0
  Nests before after = (after ≡ one_section_deeper before) ⊎ Leaves before (Still after)

  -- each of these is what one call makes of the one before it
  abbrev pub NestsThrough : DeepState E B T L I → List (DeepState E B T L I) → Type 0
  NestsThrough before [] = Unit {0}
  NestsThrough before (after ∷ later) = Nests before after × NestsThrough after later

  module _ (m : Meanings E B T L I) where
    -- What one call makes of a processor's token, whether it is in or out.
    pub data Call (before after : TokenState E B T L I) : Type 0 where
      Enter : Enters m before (entry.In after) → Call before after
      Refusal : (number : ℕ) → Enters m before (entry.Revoked after number) → Call before after
      Leave : after.view ≡ after_lower before.view → Call before after
      Regain : Regains before.view after.view → Call before after
      LostTry : (index holder : ℕ) → FindsHeld before after index holder → Call before after
      TakeBook : (book : B) → TakesBook m before.view after.view book → Call before after
      GiveBook : (book : B) → after.view ≡ after_giving_book m before.view book → Call before after
      Hear : (receipt : TokenState E B T L I) → Hears before receipt after → Call before after

    -- each of these is what one call makes of the one before it
    abbrev pub CallsThrough : TokenState E B T L I → List (TokenState E B T L I) → Type 0
    CallsThrough before [] = Unit {0}
    CallsThrough before (after ∷ later) = Call before after × CallsThrough after later

    -- the last of them
    abbrev pub last_token : TokenState E B T L I → List (TokenState E B T L I) → TokenState E B T L I
    last_token first [] = first
    last_token first (token ∷ tokens) = last_token token tokens

    -- A processor that heard a receipt enters the edition of that publication or a later one, whatever calls it made in between.
    abbrev pub ToldLaw : Type 0
    ToldLaw = (before receipt after : TokenState E B T L I) → Hears before receipt after → (calls : List (TokenState E B T L I)) → CallsThrough after calls → (d : DeepState E B T L I) → EntersAtOne m (last_token after calls) (In d)
        → (e : E) → d.reading.view.part.reading ≡ Some e → receipt.view.number ≤ m.number e

  -- At every depth the edition is the one that was entered.
  abbrev pub DepthLaw : Meanings E B T L I → Type 0
  DepthLaw m = (before : TokenState E B T L I) (d : DeepState E B T L I) → EntersAtOne m before (In d) → (calls : List (DeepState E B T L I)) → NestsThrough d calls → (j : ℕ) (x : DeepState E B T L I) → slice_get calls j ≡ Some x → x.reading ≡ d.reading
