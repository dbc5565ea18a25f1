-- The entries of a table tell nothing.
use Rattle.std.proofs.Common.{◌≡◌, ℕ, ◌^◌, ◌<◌, ◌≤◌, ◌||◌, Bool, true, false, Option, Some, None, List, [], ◌∷◌, ◌++◌, length, codes, refl, sym, ap, subst, ◌∙◌, inl, inr, arith, append_assoc}
use Rattle.std.specs.Fmt.{decimal}
use Rattle.std.specs.Int.{byte_at}
use Rattle.std.specs.List.{AllByRecursion}
use Rattle.std.specs.Prelude.{IfSome, is_some}
use Rattle.fw_base.specs.Addr.{address_text}
use Rattle.fw_base.specs.Prefix.{Network}
use Rattle.report_texts.proofs.SilentWords.{number_is_silent}
use Rattle.report_texts.specs.AnswerText.{address_line, length_text, named_listing, number_line, origin, table_lines, table_listing, table_size}
use Rattle.report_texts.specs.Lines.{lines_in}
use Rattle.lookup_tables.specs.Tables.{NamedTables, table_named}
use Rattle.lookup_tables.specs.declared.table.Table.{Table}
use Rattle.lookup_tables.specs.declared.table.Table.TheVariants.{Addresses, Numbers}
use Rattle.report_reading.specs.AskLines.{ask_in}
use Rattle.report_reading.specs.LaneLines.{lane_in, publication_in}
use Rattle.report_reading.specs.LightLines.{address_entry_in, is_light, number_entry_in}
use Rattle.report_reading.specs.Parts.{behind, positive_at}
use Rattle.report_reading.specs.RecordLines.{entry_in, judged_in, malformed_in, record_in, verdict_at}
use Rattle.run_audit.proofs.LightTexts.{IsNoOther}
use Rattle.run_audit.proofs.SilentParts.{address_is_silent}
use Rattle.run_audit.proofs.ToldTexts.{IsLine, newline, silent_before, silent_both}
use Rattle.audit_laws.proofs.HeadLines.{IsTail, nothing_of_tail, origin_tail, table_head, tail_behind}
use Rattle.report_reading.proofs.Numbers.{number_again}
use Rattle.report_reading.proofs.FlowsAgain.{dotted, octets_again, byte_small}
use Rattle.audit_laws.proofs.Numbers.{no_word_of_number, read_or_none}
use Rattle.audit_laws.proofs.RuleLines.{gap_is_silent}
use Rattle.audit_laws.proofs.ToldNothing.{TellsNothing, nothing_of_both, nothing_of_each, nothing_of_line, nothing_of_none}
use Rattle.audit_laws.specs.Printable.{IsPrintableNetwork, IsPrintableNumber, IsPrintableTable}

last_true : (a b c : Bool) → c ≡ true → (a || (b || c)) ≡ true
last_true true b c is = refl
last_true false true c is = refl
last_true false false c is = is

middle_true : (a b c : Bool) → b ≡ true → (a || (b || c)) ≡ true
middle_true true b c is = refl
middle_true false b c is = rw is refl

-- ---- an entry of a table of numbers

number_found : (n value : ℕ) → n ≤ 4294967295 → value ≤ 4294967295 → is_some (number_entry_in (number_line (n, value))) ≡ true
unfolding number_entry_in number_line behind
number_found n value low small =
    rw (
      number_again 4294967295 n (codes " " ++ (decimal value ++ codes "\n")) low (omega (arith, low)) refl,
      number_again 4294967295 value (codes "\n") small (omega (arith, small)) refl,
    ) refl

number_is_light : (n value : ℕ) → n ≤ 4294967295 → value ≤ 4294967295 → is_light (number_line (n, value)) ≡ true
unfolding is_light
number_is_light n value low small = last_true _ (is_some (address_entry_in (number_line (n, value)))) _ (number_found n value low small)

no_record_of_number : (n : ℕ) (rest : List ℕ) → n < 2 ^ 64 → record_in (decimal n ++ (32 ∷ rest)) ≡ None
unfolding record_in behind
no_record_of_number n rest fits = elim (read_or_none 16 n (32 ∷ rest) fits refl) [
  | inl none ↦ rw none refl
  | inr read ↦ rw read refl
]

no_other_number : (n : ℕ) (rest : List ℕ) → n < 2 ^ 64 → IsNoOther (decimal n ++ (32 ∷ rest))
unfolding publication_in ask_in lane_in
no_other_number n rest fits = record {
  record_of = no_record_of_number n rest fits;
  publication_of = rw (no_word_of_number 112 (codes "ublish ") n (32 ∷ rest) refl fits) refl;
  ask_of = rw (no_word_of_number 97 (codes "sk ") n (32 ∷ rest) refl fits) refl;
  lane_of = rw (no_word_of_number 108 (codes "ane ") n (32 ∷ rest) refl fits) refl;
}

nothing_of_number : (entry : ℕ × ℕ) → IsPrintableNumber entry → TellsNothing (number_line entry)
unfolding number_line
nothing_of_number (n, value) is =
    let low : n ≤ 4294967295 = is.key in
    let rest : List ℕ = decimal value ++ codes "\n" in
    nothing_of_line (decimal n ++ (codes " " ++ rest))
    (silent_before (decimal n) (codes " " ++ rest) (number_is_silent n) (silent_before (codes " ") rest gap_is_silent (silent_before (decimal value) (codes "\n") (number_is_silent value) newline)))
    (number_is_light n value is.key is.value)
    (no_other_number n rest (omega (arith, low)))

-- ---- an entry of a table of addresses

-- the four bytes of an address, and a rest
address_spread : (address : ℕ) (rest : List ℕ) → address_text address ++ rest
    ≡ decimal (byte_at 3 address) ++ (codes "." ++ (decimal (byte_at 2 address) ++ (codes "." ++ (decimal (byte_at 1 address) ++ (codes "." ++ (decimal (byte_at 0 address) ++ rest))))))
unfolding address_text
address_spread address rest = dotted (decimal (byte_at 3 address)) (decimal (byte_at 2 address)) (decimal (byte_at 1 address)) (decimal (byte_at 0 address)) rest

address_found : (a b c d bits value : ℕ) → a ≤ 255 → b ≤ 255 → c ≤ 255 → d ≤ 255 → bits ≤ 32 → value ≤ 4294967295
    → is_some (address_entry_in (decimal a ++ (codes "." ++ (decimal b ++ (codes "." ++ (decimal c ++ (codes "." ++ (decimal d ++ length_text bits value)))))))) ≡ true
unfolding address_entry_in length_text behind
address_found a b c d bits value first second third fourth short small =
    rw (
      octets_again a b c d (codes "/" ++ (decimal bits ++ (codes " " ++ (decimal value ++ codes "\n")))) first second third fourth refl,
      number_again 32 bits (codes " " ++ (decimal value ++ codes "\n")) short (omega (arith, short)) refl,
      number_again 4294967295 value (codes "\n") small (omega (arith, small)) refl,
    ) refl

no_entry : (rest : List ℕ) → entry_in (46 ∷ rest) ≡ None
unfolding entry_in malformed_in judged_in verdict_at behind
no_entry rest = refl

no_record_behind : (capture n : ℕ) (rest : List ℕ) → n < 2 ^ 64 → positive_at 16 (decimal capture ++ (46 ∷ (decimal n ++ (46 ∷ rest)))) ≡ Some (capture, 46 ∷ (decimal n ++ (46 ∷ rest)))
    → record_in (decimal capture ++ (46 ∷ (decimal n ++ (46 ∷ rest)))) ≡ None
unfolding record_in behind
no_record_behind capture n rest fits read = elim (read_or_none 18446744073709551615 n (46 ∷ rest) fits refl) [
  | inl none ↦ rw (read, none) refl
  | inr more ↦ rw (read, more, no_entry rest) refl
]

no_record_of_address : (a b : ℕ) (rest : List ℕ) → a < 2 ^ 64 → b < 2 ^ 64 → record_in (decimal a ++ (46 ∷ (decimal b ++ (46 ∷ rest)))) ≡ None
unfolding record_in
no_record_of_address a b rest first second = elim (read_or_none 16 a (46 ∷ (decimal b ++ (46 ∷ rest))) first refl) [
  | inl none ↦ rw none refl
  | inr read ↦ no_record_behind a b rest second read
]

no_other_address : (a b : ℕ) (rest : List ℕ) → a < 2 ^ 64 → b < 2 ^ 64 → IsNoOther (decimal a ++ (46 ∷ (decimal b ++ (46 ∷ rest))))
unfolding publication_in ask_in lane_in
no_other_address a b rest first second =
    let more : List ℕ = 46 ∷ (decimal b ++ (46 ∷ rest)) in
    record {
      record_of = no_record_of_address a b rest first second;
      publication_of = rw (no_word_of_number 112 (codes "ublish ") a more refl first) refl;
      ask_of = rw (no_word_of_number 97 (codes "sk ") a more refl first) refl;
      lane_of = rw (no_word_of_number 108 (codes "ane ") a more refl first) refl;
    }

words_are_silent : (lines_in (codes "/") ≡ 0) × (lines_in (codes " addr ") ≡ 0) × (lines_in (codes " number ") ≡ 0)
unfolding lines_in
words_are_silent = (refl, refl, refl)

address_is_line : (address bits value : ℕ) → IsLine (address_text address ++ length_text bits value)
unfolding length_text
address_is_line address bits value =
    silent_before (address_text address) _ (address_is_silent address) (silent_before (codes "/") _ words_are_silent.0
    (silent_before (decimal bits) _ (number_is_silent bits) (silent_before (codes " ") _ gap_is_silent (silent_before (decimal value) (codes "\n") (number_is_silent value) newline))))

light_of : (text : List ℕ) → is_some (address_entry_in text) ≡ true → is_light text ≡ true
unfolding is_light
light_of text found = middle_true _ (is_some (address_entry_in text)) (is_some (number_entry_in text)) found

nothing_of_address : (entry : Network × ℕ) → IsPrintableNetwork entry → TellsNothing (address_line entry)
unfolding address_line
nothing_of_address (network, value) is =
    let a : ℕ = network.address in
    let rest : List ℕ = length_text network.bits value in
    let spread = address_spread a rest in
    let high = byte_small 3 a in
    let next = byte_small 2 a in
    let found = address_found (byte_at 3 a) (byte_at 2 a) (byte_at 1 a) (byte_at 0 a) network.bits value high next (byte_small 1 a) (byte_small 0 a) is.bits is.value in
    let none = no_other_address (byte_at 3 a) (byte_at 2 a) (decimal (byte_at 1 a) ++ (codes "." ++ (decimal (byte_at 0 a) ++ rest))) (omega (arith, high)) (omega (arith, next)) in
    nothing_of_line (address_text a ++ rest) (address_is_line a network.bits value)
    (light_of (address_text a ++ rest) (ap (λ (text : List ℕ). is_some (address_entry_in text)) spread ∙ found))
    (subst (λ (text : List ℕ). IsNoOther text) (sym spread) none)

-- ---- a table

numbers_tell : (entries : List (ℕ × ℕ)) → AllByRecursion IsPrintableNumber entries → AllByRecursion (λ entry. TellsNothing (number_line entry)) entries
numbers_tell [] all = tt
numbers_tell (entry ∷ entries) all = (nothing_of_number entry all.0, numbers_tell entries all.1)

addresses_tell : (entries : List (Network × ℕ)) → AllByRecursion IsPrintableNetwork entries → AllByRecursion (λ entry. TellsNothing (address_line entry)) entries
addresses_tell [] all = tt
addresses_tell (entry ∷ entries) all = (nothing_of_address entry all.0, addresses_tell entries all.1)

nothing_of_entries : (table : Table) → IsPrintableTable table → TellsNothing (table_lines table)
nothing_of_entries (Addresses entries) all = nothing_of_each address_line entries (addresses_tell entries all)
nothing_of_entries (Numbers entries) all = nothing_of_each number_line entries (numbers_tell entries all)

size_tail : (table : Table) (back : List ℕ) → IsTail back → IsTail (table_size table ++ back)
unfolding table_size
size_tail (Addresses entries) back tail =
    tail_behind (codes " addr " ++ decimal (length entries)) back (silent_both (codes " addr ") _ words_are_silent.1 (number_is_silent (length entries))) tail
size_tail (Numbers entries) back tail =
    tail_behind (codes " number " ++ decimal (length entries)) back (silent_both (codes " number ") _ words_are_silent.2 (number_is_silent (length entries))) tail

listed : (line edition : ℕ) (name : List ℕ) (table : Table) → lines_in name ≡ 0 → IsPrintableTable table → TellsNothing (table_listing line edition name table)
unfolding table_listing
listed line edition name table silent is =
    let entries : List ℕ = table_lines table in
    let rest : List ℕ = name ++ (table_size table ++ origin line edition) in
    let same : (codes "table " ++ rest) ++ entries ≡ codes "table " ++ (name ++ (table_size table ++ (origin line edition ++ entries))) =
    ap (λ (text : List ℕ). codes "table " ++ text) (append_assoc name (table_size table ++ origin line edition) entries
    ∙ ap (λ (text : List ℕ). name ++ text) (append_assoc (table_size table) (origin line edition) entries)) in
    subst (λ (text : List ℕ). TellsNothing text) same
    (nothing_of_both (codes "table " ++ rest) entries
    (nothing_of_tail (codes "table ") rest table_head (tail_behind name _ silent (size_tail table (origin line edition) (origin_tail line edition))))
    (nothing_of_entries table is))

by_table : (line edition : ℕ) (name : List ℕ) (found : Option Table) → lines_in name ≡ 0 → IfSome found IsPrintableTable → TellsNothing (named_listing line edition name found)
by_table line edition name None silent is = nothing_of_none
by_table line edition name (Some table) silent is = listed line edition name table silent is

-- the entries of the table of a name, where there is one
pub nothing_of_table : (line edition : ℕ) (name : List ℕ) (tables : NamedTables) → lines_in name ≡ 0 → IfSome (table_named tables name) IsPrintableTable
    → TellsNothing (named_listing line edition name (table_named tables name))
nothing_of_table line edition name tables silent is = by_table line edition name (table_named tables name) silent is
