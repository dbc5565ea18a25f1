-- The line of an ask is read again.
use Rattle.std.proofs.Common.{◌≡◌, ℕ, zero, suc, ◌^◌, ◌<◌, ◌≤◌, false, Option, Some, None, List, ◌++◌, codes, refl, ap, ◌∙◌, inl, inr, arith, append_assoc}
use Rattle.std.specs.Prelude.{nat_eq}
use Rattle.std.specs.Fmt.{decimal}
use Rattle.std.specs.Cmp.Lexicographic.{pointwise}
use Rattle.std.proofs.lemmas.Bool.{cases_Bool}
use Rattle.std.proofs.lemmas.Slice.Eq.{bytes_eq-Decides}
use Rattle.fw_base.specs.Name.{is_name_byte}
use Rattle.fw_rule.specs.FlowName.{IsFlowName}
use Rattle.fw_rule.specs.declared.state_opt.LimitMask.{LimitMask}
use Rattle.fw_rule.specs.declared.state_opt.LimitMask.TheVariants.{SrcAddr, SrcPort, DstAddr, DstPort}
use Rattle.rule_text.specs.Canonical.{mask_word}
use Rattle.packet_headers.specs.declared.flows.Flow.{Flow}
use Rattle.state_texts.specs.StateTexts.{flow_text}
use Rattle.state_asks.specs.Flags.{asked_flags, HasKeptFlags}
use Rattle.state_asks.specs.declared.op.FlowName.TheVariants.{Any, Named}
use Rattle.state_asks.specs.declared.op.Op.{Op}
use Rattle.state_asks.specs.declared.op.Op.TheVariants as op
use Rattle.state_asks.specs.declared.reply.Reply.{Reply}
use Rattle.state_asks.specs.declared.reply.Reply.TheVariants.{Found, NotFound, Created, Exists, LimitReached, TableFull}
use Rattle.state_asks.specs.declared.reply.Way.TheVariants.{Forward, Reverse}
use Rattle.report_texts.specs.JournalText.{ask_line, ask_start, ask_end, lookup_text, install_text, op_text, name_numbered, flags_word, reply_end, flow_of_ask}
use Rattle.state_asks.specs.Asked.{asked_second}
use Rattle.report_texts.specs.AskText.{asked_name}
use Rattle.report_reading.specs.Parts.{behind}
use Rattle.report_reading.specs.RecordLines.{named_code_at, count_in}
use Rattle.report_reading.specs.FlowTexts.{IsNameText}
use Rattle.report_reading.specs.AskParts.{mask_at, counted_limit_at, limit_at, install_at, question_at, flag_words, flags_at, way_in, found_in, counted_reply_in, reply_in}
use Rattle.report_reading.specs.AskLines.{printed_op, printed_reply, IsLimit, IsQuestion, IsReply, IsAsk, printed_ask, op_of, asked_in, ask_in}
use Rattle.report_reading.specs.declared.ask_parts.Question.{Question}
use Rattle.report_reading.specs.declared.ask_parts.Question.TheVariants.{Lookup, Install}
use Rattle.report_reading.proofs.Digits.{IsStop}
use Rattle.report_reading.proofs.Numbers.{positive_again, number_again}
use Rattle.report_reading.proofs.NameLaws.{name_again}
use Rattle.report_reading.proofs.FlowsAgain.{flow_then, flow_flat, flow_again}

-- ---- the line, part by part

-- what is asked, as far as it stands before the name
abbrev pub question_of : Op → Question
question_of (op.Lookup flags flow second name) = Lookup
question_of (op.Install flags flow second rule limit name) = Install rule.id limit

-- whether a state is limited, and the text behind
abbrev pub limit_then : Option (LimitMask × ℕ) → List ℕ → List ℕ
limit_then None rest = codes " keep :" ++ rest
limit_then (Some limit) rest = codes " limit " ++ (mask_word limit.0 ++ (codes " " ++ (decimal limit.1 ++ (codes " :" ++ rest))))

-- what is asked, and the text behind
abbrev pub question_then : Question → List ℕ → List ℕ
question_then Lookup rest = codes " lookup :" ++ rest
question_then (Install id limit) rest = codes " install " ++ (decimal id ++ limit_then limit rest)

-- the line of an ask, with what stands behind its second
abbrev pub ask_then : ℕ → ℕ → ℕ → List ℕ → List ℕ
ask_then lane at second rest = codes "ask " ++ (decimal lane ++ (codes "." ++ (decimal at ++ (codes " " ++ (decimal second ++ rest)))))

-- what is asked, from the question to the line's end
abbrev pub asked_then : Question → List ℕ → Flow → ℕ → Reply → List ℕ
asked_then question name flow flags reply = question_then question (name ++ flow_then flow (ask_end flags reply))

start_flat : (a b c rest : List ℕ) → (codes "ask " ++ (a ++ (codes "." ++ (b ++ (codes " " ++ c))))) ++ rest
    ≡ codes "ask " ++ (a ++ (codes "." ++ (b ++ (codes " " ++ (c ++ rest)))))
start_flat a b c rest = simp append_assoc

keep_flat : (id name rest : List ℕ) → (codes " install " ++ (id ++ (codes " keep :" ++ name))) ++ rest ≡ codes " install " ++ (id ++ (codes " keep :" ++ (name ++ rest)))
keep_flat id name rest = simp append_assoc

limit_flat : (id mask most name rest : List ℕ)
    → (codes " install " ++ (id ++ (codes " limit " ++ (mask ++ (codes " " ++ (most ++ (codes " :" ++ name))))))) ++ rest
    ≡ codes " install " ++ (id ++ (codes " limit " ++ (mask ++ (codes " " ++ (most ++ (codes " :" ++ (name ++ rest)))))))
limit_flat id mask most name rest = simp append_assoc

op_flat : (names : List (List ℕ)) (asked : Op) (rest : List ℕ) → op_text names asked ++ rest ≡ question_then (question_of asked) (asked_name names asked ++ rest)
unfolding lookup_text install_text
op_flat names (op.Lookup flags flow second name) rest = refl
op_flat names (op.Install flags flow second rule None name) rest = keep_flat (decimal rule.id) (name_numbered names name) rest
op_flat names (op.Install flags flow second rule (Some limit) name) rest =
    limit_flat (decimal rule.id) (mask_word limit.0) (decimal limit.1) (name_numbered names name) rest

-- the line of an ask, part by part
pub ask_flat : (names : List (List ℕ)) (lane at : ℕ) (asked : Op) (reply : Reply) → ask_line names lane at asked reply
    ≡ ask_then lane at (asked_second asked) (asked_then (question_of asked) (asked_name names asked) (flow_of_ask asked) (asked_flags asked) reply)
unfolding ask_line ask_start
ask_flat names lane at asked reply =
    let end : List ℕ = ask_end (asked_flags asked) reply in
    let behind_second : op_text names asked ++ (flow_text (flow_of_ask asked) ++ end)
    ≡ asked_then (question_of asked) (asked_name names asked) (flow_of_ask asked) (asked_flags asked) reply =
    ap (λ t. op_text names asked ++ t) (flow_flat (flow_of_ask asked) end) ∙ op_flat names asked (flow_then (flow_of_ask asked) end) in
    ap (λ t. (codes "ask " ++ (decimal lane ++ (codes "." ++ (decimal at ++ (codes " " ++ decimal (asked_second asked)))))) ++ t) behind_second
    ∙ start_flat (decimal lane) (decimal at) (decimal (asked_second asked)) _

-- ---- what is asked

mask_again : (mask : LimitMask) (rest : List ℕ) → mask_at (mask_word mask ++ (codes " " ++ rest)) ≡ Some (mask, rest)
unfolding mask_at behind
mask_again SrcAddr rest = refl
mask_again SrcPort rest = refl
mask_again DstAddr rest = refl
mask_again DstPort rest = refl

limit_again : (limit : Option (LimitMask × ℕ)) (rest : List ℕ) → IsLimit limit → limit_at (limit_then limit rest) ≡ Some (limit, rest)
unfolding limit_at counted_limit_at behind
limit_again None rest within = refl
limit_again (Some limit) rest within =
    rw (
      mask_again limit.0 (decimal limit.1 ++ (codes " :" ++ rest)),
      positive_again 65535 limit.1 (codes " :" ++ rest) within.0 within.1 (omega (arith, within.1)) refl,
    ) refl

-- a question in the ranges of its fields
abbrev pub IsAskable : Question → Type 0
IsAskable Lookup = Unit {0}
IsAskable (Install id limit) = (id < 2 ^ 32) × IsLimit limit

limit_stops : (limit : Option (LimitMask × ℕ)) (rest : List ℕ) → IsStop (limit_then limit rest)
limit_stops None rest = refl
limit_stops (Some limit) rest = refl

question_again : (question : Question) (rest : List ℕ) → IsAskable question → question_at (question_then question rest) ≡ Some (question, rest)
unfolding question_at install_at behind
question_again Lookup rest within = refl
question_again (Install id limit) rest within =
    rw (
      number_again 4294967295 id (limit_then limit rest) (omega (arith, within.0)) (omega (arith, within.0)) (limit_stops limit rest),
      limit_again limit rest within.1,
    ) refl

-- ---- flags and replies

flags_again : (flags : ℕ) (rest : List ℕ) → flags < 8 → flags_at (codes " " ++ (flags_word flags ++ (codes " " ++ rest))) ≡ Some (flags, rest)
unfolding flags_at flag_words named_code_at behind
flags_again zero rest few = refl
flags_again (suc zero) rest few = refl
flags_again (suc (suc zero)) rest few = refl
flags_again (suc (suc (suc zero))) rest few = refl
flags_again (suc (suc (suc (suc zero)))) rest few = refl
flags_again (suc (suc (suc (suc (suc zero))))) rest few = refl
flags_again (suc (suc (suc (suc (suc (suc zero)))))) rest few = refl
flags_again (suc (suc (suc (suc (suc (suc (suc zero))))))) rest few = refl
flags_again (suc (suc (suc (suc (suc (suc (suc (suc flags)))))))) rest few = absurd (omega (arith, few))

reply_again : (reply : Reply) → IsReply reply → reply_in (reply_end reply) ≡ Some (printed_reply reply)
unfolding reply_in reply_end found_in way_in counted_reply_in count_in behind
reply_again (Found Forward rule) within =
    rw (number_again 4294967295 rule.id (codes " forward\n") (omega (arith, within)) (omega (arith, within)) refl) refl
reply_again (Found Reverse rule) within =
    rw (number_again 4294967295 rule.id (codes " reverse\n") (omega (arith, within)) (omega (arith, within)) refl) refl
reply_again NotFound within = refl
reply_again Created within = refl
reply_again Exists within = refl
reply_again (LimitReached count) within = rw (number_again 4294967295 count (codes "\n") (omega (arith, within)) (omega (arith, within)) refl) refl
reply_again (TableFull count) within = rw (number_again 4294967295 count (codes "\n") (omega (arith, within)) (omega (arith, within)) refl) refl

-- ---- the line

not_any : (name : List ℕ) → IsFlowName name → pointwise nat_eq name (codes "any") ≡ false
not_any name other = elim (cases_Bool (pointwise nat_eq name (codes "any"))) [
  | inl same ↦ absurd (other ((bytes_eq-Decides name (codes "any")).0 same))
  | inr is ↦ is
]

op_again : (names : List (List ℕ)) (asked : Op) → IsQuestion names asked
    → op_of (question_of asked) (asked_name names asked) (asked_flags asked) (flow_of_ask asked) (asked_second asked) ≡ Some (printed_op asked)
unfolding op_of
op_again names (op.Lookup flags flow second Any) within = refl
op_again names (op.Lookup flags flow second (Named name)) within = rw (not_any (name_numbered names name) within.1) refl
op_again names (op.Install flags flow second rule limit name) within = rw (not_any (name_numbered names name) within.1.1.1) refl

any_name : IsNameText (codes "any")
unfolding is_name_byte
any_name = record { bytes = refl; some = omega arith; few = omega arith }

asked_name_text : (names : List (List ℕ)) (asked : Op) → IsQuestion names asked → IsNameText (asked_name names asked)
asked_name_text names (op.Lookup flags flow second Any) within = any_name
asked_name_text names (op.Lookup flags flow second (Named name)) within = within.0
asked_name_text names (op.Install flags flow second rule limit name) within = within.1.1.0

askable : (names : List (List ℕ)) (asked : Op) → IsQuestion names asked → IsAskable (question_of asked)
askable names (op.Lookup flags flow second name) within = tt
askable names (op.Install flags flow second rule limit name) within = (within.0, within.1.0)

space_ends_name : is_name_byte 32 ≡ false
unfolding is_name_byte
space_ends_name = refl

end_stops : (flags : ℕ) (reply : Reply) → IsStop (ask_end flags reply)
unfolding ask_end
end_stops flags reply = refl

flags_end : (flags : ℕ) (reply : Reply) → flags < 8 → flags_at (ask_end flags reply) ≡ Some (flags, reply_end reply)
unfolding ask_end
flags_end flags reply few = flags_again flags (reply_end reply) few

-- the flags with which is asked, by either name
pub kept : (asked : Op) → HasKeptFlags asked → asked_flags asked < 8
kept (op.Lookup flags flow second name) few = few
kept (op.Install flags flow second rule limit name) few = few

asked_again : (names : List (List ℕ)) (lane at : ℕ) (asked : Op) (reply : Reply) → IsAsk names lane at asked reply
    → asked_in lane at (asked_second asked) (asked_then (question_of asked) (asked_name names asked) (flow_of_ask asked) (asked_flags asked) reply)
    ≡ Some (printed_ask names lane at asked reply)
unfolding asked_in
asked_again names lane at asked reply within =
    let end : List ℕ = ask_end (asked_flags asked) reply in
    let flow : List ℕ = flow_then (flow_of_ask asked) end in
    let flags : flags_at end ≡ Some (asked_flags asked, reply_end reply) = flags_end (asked_flags asked) reply (kept asked within.flags) in
    rw (
      question_again (question_of asked) (asked_name names asked ++ flow) (askable names asked within.question),
      name_again (asked_name names asked) flow (asked_name_text names asked within.question) space_ends_name,
      flow_again (flow_of_ask asked) end within.flow (end_stops (asked_flags asked) reply),
      flags,
      op_again names asked within.question,
      reply_again reply within.answer,
    ) refl

question_stops : (question : Question) (rest : List ℕ) → IsStop (question_then question rest)
question_stops Lookup rest = refl
question_stops (Install id limit) rest = refl

start_again : (lane at second : ℕ) (rest : List ℕ) → 1 ≤ lane → lane ≤ 16 → 1 ≤ at → at < 2 ^ 64 → second < 2 ^ 32 → IsStop rest
    → ask_in (ask_then lane at second rest) ≡ asked_in lane at second rest
unfolding ask_in behind
start_again lane at second rest lane_first lane_last first last fits stop =
    let timed : List ℕ = codes " " ++ (decimal second ++ rest) in
    rw (
      positive_again 16 lane (codes "." ++ (decimal at ++ timed)) lane_first lane_last (omega (arith, lane_last)) refl,
      positive_again 18446744073709551615 at timed first (omega (arith, last)) last refl,
      number_again 4294967295 second rest (omega (arith, fits)) (omega (arith, fits)) stop,
    ) refl

-- an ask's line is read as what it is the text of
pub ask_again : (names : List (List ℕ)) (lane at : ℕ) (asked : Op) (reply : Reply) → IsAsk names lane at asked reply
    → ask_in (ask_line names lane at asked reply) ≡ Some (printed_ask names lane at asked reply)
ask_again names lane at asked reply within =
    let behind_second : List ℕ = asked_then (question_of asked) (asked_name names asked) (flow_of_ask asked) (asked_flags asked) reply in
    ap ask_in (ask_flat names lane at asked reply)
    ∙ start_again lane at (asked_second asked) behind_second within.lane_first within.lane_last within.first within.last within.second (question_stops (question_of asked) _)
    ∙ asked_again names lane at asked reply within
