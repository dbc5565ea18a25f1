-- Sets of a list, one after another, as the bits of a mask.
use Rattle.std.proofs.Common.{◌≡◌, ℕ, Bool, true, false, List, [], ◌∷◌, Ok, Err, sym}
use Rattle.std.specs.Prelude.{bit_or}
use Rattle.ipfw_parser.specs.Reading.{Word, Fault, WordReading}
use Rattle.fw_command.specs.SetCommands.{more_sets, set_bit, ends_sets}

-- one more set
pub set_goes : (to_enable : Bool) (mask next bit : ℕ) (word : Word) (words : List Word) (whole : WordReading ℕ) → ends_sets to_enable word.text ≡ false
    → more_sets to_enable mask (word ∷ words) ≡ whole → set_bit word ≡ Ok bit → next ≡ bit_or mask bit → more_sets to_enable next words ≡ whole
unfolding more_sets
set_goes to_enable mask next bit word words whole on so_far ok joined =
    let here = rw (on, ok) at so_far in
    rw joined here

-- a word that is no set gives the fault of the list of sets
pub set_breaks : (to_enable : Bool) (mask : ℕ) (word : Word) (words : List Word) (whole : WordReading ℕ) (e : Fault) → ends_sets to_enable word.text ≡ false
    → more_sets to_enable mask (word ∷ words) ≡ whole → set_bit word ≡ Err e → whole ≡ Err e
unfolding more_sets
set_breaks to_enable mask word words whole e on so_far failed = sym (rw (on, failed) at so_far)

-- the sets end at `enable`
pub sets_end : (to_enable : Bool) (mask : ℕ) (word : Word) (words : List Word) (whole : WordReading ℕ) → ends_sets to_enable word.text ≡ true
    → more_sets to_enable mask (word ∷ words) ≡ whole → whole ≡ Ok (mask, word ∷ words)
unfolding more_sets
sets_end to_enable mask word words whole off so_far = sym (rw off at so_far)

-- the sets end with the line
pub sets_done : (to_enable : Bool) (mask : ℕ) (whole : WordReading ℕ) → more_sets to_enable mask [] ≡ whole → whole ≡ Ok (mask, [])
unfolding more_sets
sets_done to_enable mask whole so_far = sym so_far
