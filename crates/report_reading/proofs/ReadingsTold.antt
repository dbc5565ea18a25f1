-- What is read of a line, whatever its kind, is what it is the text of, and each such text is read.
use Rattle.std.proofs.Common.{◌≡◌, ℕ, true, Option, Some, None, List, refl, subst, inl, inr}
use Rattle.std.specs.Prelude.{is_some}
use Rattle.std.proofs.lemmas.Bool.{cases_Bool}
use Rattle.std.proofs.lemmas.Option.{none-some, same_Some}
use Rattle.eval_engine.specs.declared.docket_entry.DocketEntry.{DocketEntry}
use Rattle.state_asks.specs.declared.op.Op.{Op}
use Rattle.state_asks.specs.declared.reply.Reply.{Reply}
use Rattle.report_texts.specs.DocketText.{record_line}
use Rattle.report_texts.specs.JournalText.{ask_line, ask_start, publish_line, lane_line}
use Rattle.fw_base.specs.Chain.{◌>>=◌, or_else}
use Rattle.report_reading.specs.Parts.{behind, positive_at}
use Rattle.report_reading.specs.RecordLines.{IsRecord, printed, record_in}
use Rattle.report_reading.specs.LaneLines.{IsLane, IsPublication, lane_in, publication_in}
use Rattle.report_reading.specs.AskLines.{IsAsk, printed_ask, ask_in}
use Rattle.report_reading.specs.LightLines.{is_light}
use Rattle.report_reading.specs.Readings.{LineValue, OfRecord, OfPublication, OfAsk, OfLane, OfOther, IsLineOf, light_value, reading_of}
use Rattle.report_reading.proofs.Words.{then_found, one_found}
use Rattle.report_reading.proofs.RecordsAgain.{record_again}
use Rattle.report_reading.proofs.RecordsTold.{record_told}
use Rattle.report_reading.proofs.LaneLaws.{lane_again, lane_told, publication_again, publication_told}
use Rattle.report_reading.proofs.AsksAgain.{ask_again}
use Rattle.report_reading.proofs.AsksTold.{ask_told}

light_told : (line : List ℕ) (value : LineValue) → light_value line ≡ Some value → IsLineOf line value
light_told line value is = elim (cases_Bool (is_light line)) [
  | inl light ↦ let on = rw light at is in subst (λ (v : LineValue). IsLineOf line v) (same_Some OfOther value on) light
  | inr other ↦ let no = rw other at is in absurd (none-some value no)
]

-- what is read of a line is what it is the text of
pub reading_told : (line : List ℕ) (value : LineValue) → reading_of line ≡ Some value → IsLineOf line value
unfolding reading_of
reading_told line value is =
    let fourth : Option LineValue = or_else (lane_in line >>= λ told. Some (OfLane told)) (light_value line) in
    let third : Option LineValue = or_else (ask_in line >>= λ told. Some (OfAsk told)) fourth in
    let second : Option LineValue = or_else (publication_in line >>= λ number. Some (OfPublication number)) third in
    elim (one_found (record_in line >>= λ told. Some (OfRecord told)) second value is) [
      | inl of_record ↦
          let (told, found, same) = then_found (record_in line) (λ t. Some (OfRecord t)) value of_record in
          let law = record_told line told found in
          subst (λ (v : LineValue). IsLineOf line v) (same_Some (OfRecord told) value same) (law.split, law.within)
      | inr more ↦ elim (one_found (publication_in line >>= λ number. Some (OfPublication number)) third value more) [
        | inl of_publication ↦
            let (number, found, same) = then_found (publication_in line) (λ n. Some (OfPublication n)) value of_publication in
            let law = publication_told line number found in
            subst (λ (v : LineValue). IsLineOf line v) (same_Some (OfPublication number) value same) (law.split, law.within)
        | inr other ↦ elim (one_found (ask_in line >>= λ told. Some (OfAsk told)) fourth value other) [
          | inl of_ask ↦
              let (told, found, same) = then_found (ask_in line) (λ t. Some (OfAsk t)) value of_ask in
              let law = ask_told line told found in
              subst (λ (v : LineValue). IsLineOf line v) (same_Some (OfAsk told) value same) (law.split, law.within)
          | inr last ↦ elim (one_found (lane_in line >>= λ told. Some (OfLane told)) (light_value line) value last) [
            | inl of_lane ↦
                let (told, found, same) = then_found (lane_in line) (λ t. Some (OfLane t)) value of_lane in
                let law = lane_told line told found in
                subst (λ (v : LineValue). IsLineOf line v) (same_Some (OfLane told) value same) (law.split, law.within)
            | inr light ↦ light_told line value light
          ]
        ]
      ]
    ]

-- a record's line is read as what it is the text of
pub record_read : (capture at : ℕ) (told : DocketEntry) → IsRecord capture at told
    → reading_of (record_line capture at told) ≡ Some (OfRecord (record { capture = capture; at = at; entry = printed told }))
unfolding reading_of
record_read capture at told within = rw (record_again capture at told within) refl

no_record_of_publication : (number : ℕ) → record_in (publish_line number) ≡ None
unfolding record_in publish_line positive_at
no_record_of_publication number = refl

-- a publication's line is read as what it is the text of
pub publication_read : (number : ℕ) → IsPublication number → reading_of (publish_line number) ≡ Some (OfPublication number)
unfolding reading_of
publication_read number within = rw (no_record_of_publication number, publication_again number within) refl

no_record_of_ask : (names : List (List ℕ)) (lane at : ℕ) (asked : Op) (reply : Reply) → record_in (ask_line names lane at asked reply) ≡ None
unfolding record_in ask_line ask_start positive_at
no_record_of_ask names lane at asked reply = refl

no_publication_of_ask : (names : List (List ℕ)) (lane at : ℕ) (asked : Op) (reply : Reply) → publication_in (ask_line names lane at asked reply) ≡ None
unfolding publication_in ask_line ask_start behind
no_publication_of_ask names lane at asked reply = refl

-- an ask's line is read as what it is the text of
pub ask_read : (names : List (List ℕ)) (lane at : ℕ) (asked : Op) (reply : Reply) → IsAsk names lane at asked reply
    → reading_of (ask_line names lane at asked reply) ≡ Some (OfAsk (printed_ask names lane at asked reply))
unfolding reading_of
ask_read names lane at asked reply within =
    rw (
      no_record_of_ask names lane at asked reply,
      no_publication_of_ask names lane at asked reply,
      ask_again names lane at asked reply within,
    ) refl

no_record_of_lane : (lane refused tracker : ℕ) → record_in (lane_line lane refused tracker) ≡ None
unfolding record_in lane_line positive_at
no_record_of_lane lane refused tracker = refl

no_publication_of_lane : (lane refused tracker : ℕ) → publication_in (lane_line lane refused tracker) ≡ None
unfolding publication_in lane_line behind
no_publication_of_lane lane refused tracker = refl

no_ask_of_lane : (lane refused tracker : ℕ) → ask_in (lane_line lane refused tracker) ≡ None
unfolding ask_in lane_line behind
no_ask_of_lane lane refused tracker = refl

-- a lane's line is read as what it is the text of
pub lane_read : (lane refused tracker : ℕ) → IsLane lane refused tracker
    → reading_of (lane_line lane refused tracker) ≡ Some (OfLane (record { lane = lane; refused = refused; tracker = tracker }))
unfolding reading_of
lane_read lane refused tracker within =
    rw (
      no_record_of_lane lane refused tracker,
      no_publication_of_lane lane refused tracker,
      no_ask_of_lane lane refused tracker,
      lane_again lane refused tracker within,
    ) refl

or_light : (found : Option LineValue) → is_some (or_else found (Some OfOther)) ≡ true
or_light None = refl
or_light (Some value) = refl

or_more : (found other : Option LineValue) → is_some other ≡ true → is_some (or_else found other) ≡ true
or_more None other is = is
or_more (Some value) other is = refl

-- a line of which only the whole text counts is read as something
pub light_read : (line : List ℕ) → is_light line ≡ true → is_some (reading_of line) ≡ true
unfolding reading_of
light_read line light =
    rw light (or_more (record_in line >>= λ told. Some (OfRecord told)) _ (or_more (publication_in line >>= λ number. Some (OfPublication number)) _
    (or_more (ask_in line >>= λ told. Some (OfAsk told)) _ (or_light (lane_in line >>= λ told. Some (OfLane told))))))
