-- How text stands in a page (HTML, "Character references"): no byte of it can begin or end markup.
use Rattle.std.specs.Prelude.{◌≡◌, ℕ, ◌==◌, ◌||◌, Bool, false, nat_lt, if◌then◌else◌, List, [], ◌∷◌, codes}
use Rattle.std.specs.List.{flat_map, list_any}

-- a byte by its character reference, where it has a meaning in markup; what can't be printed as a question mark
abbrev pub escaped_byte : ℕ → List ℕ
escaped_byte byte =
    if byte == 38 then codes "&amp;"
    else (if byte == 60 then codes "&lt;"
    else (if byte == 62 then codes "&gt;"
    else (if byte == 34 then codes "&quot;"
    else (if byte == 39 then codes "&#39;" else (if nat_lt byte 32 || nat_lt 126 byte then codes "?" else byte ∷ [])))))

-- a text with each byte so
unfoldable pub escaped : List ℕ → List ℕ
escaped text = flat_map escaped_byte text

-- a byte that begins or ends a tag or the value of an attribute: < > " '
abbrev pub is_markup : ℕ → Bool
is_markup byte = byte == 60 || (byte == 62 || (byte == 34 || byte == 39))

-- an escaped text has no such byte
abbrev pub EscapedHasNoMarkup : Type 0
EscapedHasNoMarkup = (text : List ℕ) → list_any is_markup (escaped text) ≡ false
