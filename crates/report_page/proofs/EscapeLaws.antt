-- No byte of an escaped text is markup.
use Rattle.std.proofs.Common.{◌≡◌, ℕ, ◌==◌, ◌||◌, false, [], ◌∷◌, refl, ◌∙◌, inl, inr, nat_lt, flat_map}
use Rattle.std.specs.List.{list_any}
use Rattle.std.proofs.lemmas.Bool.{cases_Bool}
use Rattle.std.proofs.lemmas.List.Folds.{list_any-append}
use Rattle.report_page.specs.Escapes.{escaped_byte, escaped, is_markup, EscapedHasNoMarkup}

byte_has_none : (byte : ℕ) → list_any is_markup (escaped_byte byte) ≡ false
byte_has_none byte = elim (cases_Bool (byte == 38)) [
  | inl is ↦ rw is refl
  | inr amp ↦ elim (cases_Bool (byte == 60)) [
    | inl is ↦ rw (amp, is) refl
    | inr less ↦ elim (cases_Bool (byte == 62)) [
      | inl is ↦ rw (amp, less, is) refl
      | inr more ↦ elim (cases_Bool (byte == 34)) [
        | inl is ↦ rw (amp, less, more, is) refl
        | inr quote ↦ elim (cases_Bool (byte == 39)) [
          | inl is ↦ rw (amp, less, more, quote, is) refl
          | inr tick ↦ elim (cases_Bool (nat_lt byte 32 || nat_lt 126 byte)) [
            | inl is ↦ rw (amp, less, more, quote, tick, is) refl
            | inr isn't ↦ rw (amp, less, more, quote, tick, isn't) (rw (less, more, quote, tick) refl)
          ]
        ]
      ]
    ]
  ]
]

-- no byte of an escaped text is markup
pub has_none : EscapedHasNoMarkup
unfolding escaped
has_none [] = refl
has_none (byte ∷ text) = list_any-append is_markup (escaped_byte byte) (flat_map escaped_byte text) ∙ rw (byte_has_none byte) (has_none text)
