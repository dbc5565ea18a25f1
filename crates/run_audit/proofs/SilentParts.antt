-- Parts of the journal's lines, none of which ends a line.
use Rattle.std.proofs.Common.{◌≡◌, ℕ, ◌==◌, true, false, Bool, if◌then◌else◌, List, [], ◌∷◌, map, refl, sym, ap, ◌∙◌, inl, inr}
use Rattle.std.specs.Fmt.{decimal}
use Rattle.std.specs.Int.{w32, to_be_bytes}
use Rattle.std.specs.List.{list_all, join_with_byte, AllByRecursion}
use Rattle.std.proofs.lemmas.Bool.{cases_Bool, and_parts, eqb-true}
use Rattle.fw_base.specs.Addr.{address_text}
use Rattle.fw_base.specs.Name.{is_name_byte}
use Rattle.report_texts.proofs.SilentWords.{number_is_silent}
use Rattle.report_texts.specs.Lines.{lines_in}
use Rattle.rule_text.specs.Canonical.{WordTexts, spaced_text, protocol_word}
use Rattle.packet_headers.specs.declared.flows.Flow.{Flow}
use Rattle.state_texts.specs.StateTexts.{flow_text}
use Rattle.run_audit.proofs.ToldTexts.{silent_both}

-- a text ends no line
abbrev IsSilent : List ℕ → Type 0
IsSilent text = lines_in text ≡ 0

-- a byte more that ends none
pub byte_before : (byte : ℕ) (bytes : List ℕ) → (byte == 10) ≡ false → IsSilent bytes → IsSilent (byte ∷ bytes)
unfolding lines_in
byte_before byte bytes other silent = rw other silent

not_newline : (byte : ℕ) → is_name_byte byte ≡ true → (byte == 10) ≡ false
unfolding is_name_byte
not_newline byte is = elim (cases_Bool (byte == 10)) [
  | inl same ↦ absurd (impossible byte (eqb-true byte 10 same) is)
  | inr other ↦ other
]
  where
    impossible : (byte : ℕ) → byte ≡ 10 → is_name_byte byte ≡ true → ⊥
    impossible byte same is = let no : false ≡ true = ap is_name_byte (sym same) ∙ is in absurd (cc)

-- a name of flows ends no line
pub name_is_silent : (name : List ℕ) → list_all is_name_byte name ≡ true → lines_in name ≡ 0
unfolding lines_in
name_is_silent [] all = refl
name_is_silent (byte ∷ name) all =
    let (here, more) = and_parts (is_name_byte byte) (list_all is_name_byte name) all in
    byte_before byte name (not_newline byte here) (name_is_silent name more)

-- words with spaces before them
pub spaced_is_silent : (words : WordTexts) → AllByRecursion IsSilent words → lines_in (spaced_text words) ≡ 0
unfolding lines_in
spaced_is_silent [] all = refl
spaced_is_silent (word ∷ words) all = silent_both (32 ∷ word) (spaced_text words) (byte_before 32 word refl all.0) (spaced_is_silent words all.1)

numbers_are_silent : (numbers : List ℕ) → AllByRecursion IsSilent (map decimal numbers)
numbers_are_silent [] = tt
numbers_are_silent (number ∷ numbers) = (number_is_silent number, numbers_are_silent numbers)

-- pieces with a byte between them that ends no line
joined_is_silent : (byte : ℕ) (pieces : List (List ℕ)) → (byte == 10) ≡ false → AllByRecursion IsSilent pieces → IsSilent (join_with_byte byte pieces)
unfolding lines_in
joined_is_silent byte [] other all = refl
joined_is_silent byte (piece ∷ []) other all = all.0
joined_is_silent byte (piece ∷ next ∷ pieces) other all =
    silent_both piece (byte ∷ join_with_byte byte (next ∷ pieces)) all.0 (byte_before byte (join_with_byte byte (next ∷ pieces)) other (joined_is_silent byte (next ∷ pieces) other all.1))

-- an address
pub address_is_silent : (address : ℕ) → lines_in (address_text address) ≡ 0
unfolding address_text
address_is_silent address = joined_is_silent 46 (map decimal (to_be_bytes w32 address)) refl (numbers_are_silent (to_be_bytes w32 address))

-- a protocol
pub protocol_is_silent : (number : ℕ) → lines_in (protocol_word number) ≡ 0
unfolding protocol_word lines_in
protocol_is_silent number =
    one_of (number == 0) _ _ refl (one_of (number == 1) _ _ refl (one_of (number == 6) _ _ refl (one_of (number == 17) _ _ refl (number_is_silent number))))
  where
    one_of : (b : Bool) (this other : List ℕ) → lines_in this ≡ 0 → lines_in other ≡ 0 → lines_in (if b then this else other) ≡ 0
    one_of true this other here more = here
    one_of false this other here more = more

-- a flow
pub flow_is_silent : (flow : Flow) → lines_in (flow_text flow) ≡ 0
flow_is_silent flow =
    let words : WordTexts =
    protocol_word flow.protocol ∷ address_text flow.source.0 ∷ decimal flow.source_port ∷ address_text flow.destination.0 ∷ decimal flow.destination_port ∷ [] in
    let all : AllByRecursion IsSilent words = (
      protocol_is_silent flow.protocol,
      (
        address_is_silent flow.source.0,
        (
          number_is_silent flow.source_port,
          (address_is_silent flow.destination.0, (number_is_silent flow.destination_port, tt)),
        ),
      ),
    ) in
    spaced_is_silent words all
