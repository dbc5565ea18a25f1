-- A strip of verdicts: so many records a bin.
use Rattle.std.specs.Prelude.{◌≡◌, ℕ, ◌+◌, Bool, true, false, List, [], ◌∷◌, take, drop, count_by}
use Rattle.report_page.specs.declared.bins.Bin.{Bin}
use Rattle.report_page.specs.declared.bins.Shade.{Shade}
use Rattle.report_page.specs.declared.bins.Shade.TheVariants.{Allow, Deny, Answered, Unread}

-- it was let through
abbrev pub is_allow : Shade → Bool
is_allow Allow = true
is_allow Deny = false
is_allow Answered = false
is_allow Unread = false

-- it was dropped without an answer
abbrev pub is_deny : Shade → Bool
is_deny Allow = false
is_deny Deny = true
is_deny Answered = false
is_deny Unread = false

-- it was dropped with an answer
abbrev pub is_answered : Shade → Bool
is_answered Allow = false
is_answered Deny = false
is_answered Answered = true
is_answered Unread = false

-- it wasn't judged
abbrev pub is_unread : Shade → Bool
is_unread Allow = false
is_unread Deny = false
is_unread Answered = false
is_unread Unread = true

-- how many records of each shade there are
abbrev pub bin_of : List Shade → Bin
bin_of shades = record {
  allow = count_by is_allow shades;
  deny = count_by is_deny shades;
  answered = count_by is_answered shades;
  unread = count_by is_unread shades;
}

-- each bin is of the next so many records, and the last one of what is left
unfoldable pub IsCut : ℕ → List Shade → List Bin → Type 0
IsCut size shades [] = shades ≡ []
IsCut size shades (bin ∷ bins) = (bin ≡ bin_of (take size shades)) × IsCut size (drop size shades) bins

-- how many records a bin has
abbrev pub bin_total : Bin → ℕ
bin_total bin = bin.allow + (bin.deny + (bin.answered + bin.unread))
