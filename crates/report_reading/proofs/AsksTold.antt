-- What is read of an ask's line is what it is the text of.
use Rattle.std.proofs.Common.{◌≡◌, ℕ, zero, suc, ◌^◌, ◌<◌, ◌≤◌, Bool, true, false, Option, Some, None, List, [], ◌∷◌, ◌++◌, codes, refl, sym, ap, subst, ◌∙◌, inl, inr, arith, if◌then◌else◌}
use Rattle.std.specs.Prelude.{nat_eq, slice_get}
use Rattle.std.specs.Fmt.{decimal}
use Rattle.std.specs.Cmp.Lexicographic.{pointwise}
use Rattle.std.proofs.lemmas.Bool.{cases_Bool}
use Rattle.std.proofs.lemmas.Option.{none-some, same_Some, some_pair_parts}
use Rattle.std.proofs.lemmas.Slice.Eq.{bytes_eq-Decides}
use Rattle.fw_rule.specs.FlowName.{IsFlowName}
use Rattle.fw_rule.specs.declared.state_opt.LimitMask.{LimitMask}
use Rattle.fw_rule.specs.declared.state_opt.LimitMask.TheVariants.{SrcAddr, SrcPort, DstAddr, DstPort}
use Rattle.rule_text.specs.Canonical.{mask_word}
use Rattle.packet_headers.specs.declared.flows.Flow.{Flow}
use Rattle.state_asks.specs.Flags.{asked_flags, HasKeptFlags}
use Rattle.state_asks.specs.declared.op.FlowName.TheVariants.{Any, Named}
use Rattle.state_asks.specs.declared.op.Op.{Op}
use Rattle.state_asks.specs.declared.op.Op.TheVariants as op
use Rattle.state_asks.specs.declared.reply.Reply.{Reply}
use Rattle.state_asks.specs.declared.reply.Reply.TheVariants.{Found, NotFound, Created, Exists, LimitReached, TableFull}
use Rattle.state_asks.specs.declared.reply.Way.{Way}
use Rattle.state_asks.specs.declared.rule_ref.RuleRef.{RuleRef}
use Rattle.state_asks.specs.declared.reply.Way.TheVariants.{Forward, Reverse}
use Rattle.report_texts.specs.JournalText.{ask_line, ask_end, flags_word, way_word, reply_end, flow_of_ask}
use Rattle.state_asks.specs.Asked.{asked_second}
use Rattle.report_texts.specs.AskText.{asked_name}
use Rattle.fw_base.specs.Chain.{◌>>=◌, or_else}
use Rattle.report_reading.specs.Parts.{Part, behind, told_by, told_where, positive_at, number_at}
use Rattle.report_reading.specs.RecordLines.{named_code_at, count_in}
use Rattle.report_reading.specs.FlowTexts.{IsFlow, IsNameText, name_at, flow_at}
use Rattle.report_reading.specs.AskParts.{mask_at, counted_limit_at, limit_at, install_at, question_at, flag_words, flags_at, way_in, found_in, counted_reply_in, reply_in}
use Rattle.report_reading.specs.AskLines.{IsLimit, IsQuestion, IsReply, IsAsk, AskValue, looked_up, op_of, ask_value, asked_in, ask_in}
use Rattle.report_reading.specs.declared.ask_parts.Question.{Question}
use Rattle.report_reading.specs.declared.ask_parts.Question.TheVariants.{Lookup, Install}
use Rattle.report_reading.proofs.Words.{behind_told, then_found, one_found, by_word, where_word}
use Rattle.report_reading.proofs.Numbers.{positive_told, number_told}
use Rattle.report_reading.proofs.RecordsTold.{names_told, count_told}
use Rattle.report_reading.proofs.NameLaws.{name_told}
use Rattle.report_reading.proofs.FlowsAgain.{flow_then}
use Rattle.report_reading.proofs.FlowsTold.{flow_told}
use Rattle.report_reading.proofs.AsksAgain.{question_of, limit_then, question_then, asked_then, ask_then, ask_flat, IsAskable}

-- ---- what is asked

by_mask : (word bytes : List ℕ) (plain mask : LimitMask) (rest : List ℕ) → told_by word plain bytes ≡ Some (mask, rest)
    → word ++ rest ≡ mask_word plain ++ (codes " " ++ rest) → bytes ≡ mask_word mask ++ (codes " " ++ rest)
by_mask word bytes plain mask rest is text =
    let (same, split) = by_word word bytes rest plain mask is in
    subst (λ (m : LimitMask). bytes ≡ mask_word m ++ (codes " " ++ rest)) same (split ∙ text)

mask_told : (bytes : List ℕ) (mask : LimitMask) (rest : List ℕ) → mask_at bytes ≡ Some (mask, rest) → bytes ≡ mask_word mask ++ (codes " " ++ rest)
unfolding mask_at
mask_told bytes mask rest is =
    let last : Part LimitMask = told_by (codes "dst-port ") DstPort bytes in
    let third : Part LimitMask = or_else (told_by (codes "dst-addr ") DstAddr bytes) last in
    let second : Part LimitMask = or_else (told_by (codes "src-port ") SrcPort bytes) third in
    elim (one_found (told_by (codes "src-addr ") SrcAddr bytes) second (mask, rest) is) [
      | inl source ↦ by_mask (codes "src-addr ") bytes SrcAddr mask rest source refl
      | inr more ↦ elim (one_found (told_by (codes "src-port ") SrcPort bytes) third (mask, rest) more) [
        | inl port ↦ by_mask (codes "src-port ") bytes SrcPort mask rest port refl
        | inr other ↦ elim (one_found (told_by (codes "dst-addr ") DstAddr bytes) last (mask, rest) other) [
          | inl destination ↦ by_mask (codes "dst-addr ") bytes DstAddr mask rest destination refl
          | inr port ↦ by_mask (codes "dst-port ") bytes DstPort mask rest port refl
        ]
      ]
    ]

-- a text tells whether and by what a state is limited, and a rest
record IsLimitText (bytes : List ℕ) (limit : Option (LimitMask × ℕ)) (rest : List ℕ) : Type 0 where
  split : bytes ≡ limit_then limit rest
  within : IsLimit limit

-- the steps of reading a limit, from the last to the first
abbrev colon_step : LimitMask → ℕ → List ℕ → Part (Option (LimitMask × ℕ))
colon_step mask most rest = Some (Some (mask, most), rest)

abbrev most_step : LimitMask → ℕ × List ℕ → Part (Option (LimitMask × ℕ))
most_step mask most = behind (codes " :") most.1 >>= colon_step mask most.0

abbrev mask_step : LimitMask × List ℕ → Part (Option (LimitMask × ℕ))
mask_step mask = positive_at 65535 mask.1 >>= most_step mask.0

counted_limit_told : (bytes : List ℕ) (limit : Option (LimitMask × ℕ)) (rest : List ℕ) → counted_limit_at bytes ≡ Some (limit, rest)
    → IsLimitText (codes " limit " ++ bytes) limit rest
unfolding counted_limit_at
counted_limit_told bytes limit rest is =
    let (mask, m_found, m_more) = then_found (mask_at bytes) mask_step (limit, rest) is in
    let (most, n_found, n_more) = then_found (positive_at 65535 mask.1) (most_step mask.0) (limit, rest) m_more in
    let (left, c_found, last) = then_found (behind (codes " :") most.1) (colon_step mask.0 most.0) (limit, rest) n_more in
    let (same, end) = some_pair_parts (Some (mask.0, most.0)) limit left rest last in
    let number = positive_told 65535 mask.1 most.0 most.1 (omega arith) n_found in
    subst (λ (l : Option (LimitMask × ℕ)). IsLimitText (codes " limit " ++ bytes) l rest) same (record {
      split = ap (λ t. codes " limit " ++ t) (mask_told bytes mask.0 mask.1 m_found
          ∙ ap (λ t. mask_word mask.0 ++ (codes " " ++ t)) (number.split
          ∙ ap (λ t. decimal most.0 ++ t) (behind_told (codes " :") most.1 left c_found ∙ ap (λ t. codes " :" ++ t) end)));
      within = (number.first, number.last);
    })

limit_told : (bytes : List ℕ) (limit : Option (LimitMask × ℕ)) (rest : List ℕ) → limit_at bytes ≡ Some (limit, rest) → IsLimitText bytes limit rest
unfolding limit_at
limit_told bytes limit rest is =
    let none : Option (LimitMask × ℕ) = None in
    elim (one_found (told_by (codes " keep :") none bytes) (behind (codes " limit ") bytes >>= counted_limit_at) (limit, rest) is) [
      | inl keep ↦
          let (same, split) = by_word (codes " keep :") bytes rest none limit keep in
          subst (λ (l : Option (LimitMask × ℕ)). IsLimitText bytes l rest) same (record { split = split; within = tt })
      | inr counted ↦
          let (front, found, more) = then_found (behind (codes " limit ") bytes) counted_limit_at (limit, rest) counted in
          let told = counted_limit_told front limit rest more in
          record { split = behind_told (codes " limit ") bytes front found ∙ told.split; within = told.within }
    ]

-- a text is a question and a rest
record IsQuestionText (bytes : List ℕ) (question : Question) (rest : List ℕ) : Type 0 where
  split : bytes ≡ question_then question rest
  within : IsAskable question

-- the steps of reading an install, from the last to the first
abbrev limited_step : ℕ → Option (LimitMask × ℕ) × List ℕ → Part Question
limited_step id limit = Some (Install id limit.0, limit.1)

abbrev id_step : ℕ × List ℕ → Part Question
id_step id = limit_at id.1 >>= limited_step id.0

install_told : (bytes : List ℕ) (question : Question) (rest : List ℕ) → install_at bytes ≡ Some (question, rest)
    → IsQuestionText (codes " install " ++ bytes) question rest
unfolding install_at
install_told bytes question rest is =
    let (id, i_found, i_more) = then_found (number_at 4294967295 bytes) id_step (question, rest) is in
    let (limit, l_found, last) = then_found (limit_at id.1) (limited_step id.0) (question, rest) i_more in
    let (same, end) = some_pair_parts (Install id.0 limit.0) question limit.1 rest last in
    let number = number_told 4294967295 bytes id.0 id.1 (omega arith) i_found in
    let limited = limit_told id.1 limit.0 limit.1 l_found in
    subst (λ (q : Question). IsQuestionText (codes " install " ++ bytes) q rest) same (record {
      split = ap (λ t. codes " install " ++ t) (number.split ∙ ap (λ t. decimal id.0 ++ t) (limited.split ∙ ap (λ t. limit_then limit.0 t) end));
      within = (omega (arith, number.last), limited.within);
    })

question_told : (bytes : List ℕ) (question : Question) (rest : List ℕ) → question_at bytes ≡ Some (question, rest) → IsQuestionText bytes question rest
unfolding question_at
question_told bytes question rest is =
    elim (one_found (told_by (codes " lookup :") Lookup bytes) (behind (codes " install ") bytes >>= install_at) (question, rest) is) [
      | inl lookup ↦
          let (same, split) = by_word (codes " lookup :") bytes rest Lookup question lookup in
          subst (λ (q : Question). IsQuestionText bytes q rest) same (record { split = split; within = tt })
      | inr install ↦
          let (front, found, more) = then_found (behind (codes " install ") bytes) install_at (question, rest) install in
          let told = install_told front question rest more in
          record { split = behind_told (codes " install ") bytes front found ∙ told.split; within = told.within }
    ]

-- ---- flags and replies

flags_word_at : (place : ℕ) (word : List ℕ) → slice_get flag_words place ≡ Some word → (word ≡ flags_word place) × (place < 8)
unfolding flag_words
flags_word_at zero word is = (sym (same_Some _ word is), omega arith)
flags_word_at (suc zero) word is = (sym (same_Some _ word is), omega arith)
flags_word_at (suc (suc zero)) word is = (sym (same_Some _ word is), omega arith)
flags_word_at (suc (suc (suc zero))) word is = (sym (same_Some _ word is), omega arith)
flags_word_at (suc (suc (suc (suc zero)))) word is = (sym (same_Some _ word is), omega arith)
flags_word_at (suc (suc (suc (suc (suc zero))))) word is = (sym (same_Some _ word is), omega arith)
flags_word_at (suc (suc (suc (suc (suc (suc zero)))))) word is = (sym (same_Some _ word is), omega arith)
flags_word_at (suc (suc (suc (suc (suc (suc (suc zero))))))) word is = (sym (same_Some _ word is), omega arith)
flags_word_at (suc (suc (suc (suc (suc (suc (suc (suc place)))))))) word is = absurd (none-some word is)

flags_told : (bytes : List ℕ) (flags : ℕ) (rest : List ℕ) → flags_at bytes ≡ Some (flags, rest)
    → (bytes ≡ codes " " ++ (flags_word flags ++ (codes " " ++ rest))) × (flags < 8)
unfolding flags_at
flags_told bytes flags rest is =
    let (front, found, more) = then_found (behind (codes " ") bytes) (named_code_at flag_words 0) (flags, rest) is in
    let told = names_told flag_words 0 front flags rest more in
    let place : told.place ≡ flags = omega (arith, told.is) in
    let (word, few) = flags_word_at told.place told.name told.stands in (
      behind_told (codes " ") bytes front found ∙ ap (λ t. codes " " ++ t) (told.split ∙ ap (λ t. t ++ (codes " " ++ rest)) (word ∙ ap flags_word place)),
      subst (λ k. k < 8) place few,
    )

-- a text is a reply and the line's end
record IsReplyText (bytes : List ℕ) (reply : Reply) : Type 0 where
  split : bytes ≡ reply_end reply
  within : IsReply reply

by_reply : (word bytes : List ℕ) (plain reply : Reply) → told_where word plain bytes ≡ Some reply → word ≡ reply_end plain → IsReply plain
    → IsReplyText bytes reply
by_reply word bytes plain reply is text within =
    let (same, split) = where_word word bytes plain reply is in
    subst (λ (r : Reply). IsReplyText bytes r) same (record { split = split ∙ text; within = within })

-- the rule of this identity
abbrev rule_of : ℕ → RuleRef
rule_of id = record { id = id; number = 0 }

by_way : (word bytes inner : List ℕ) (id : ℕ) (way : Way) (reply : Reply) → told_where word (Found way (rule_of id)) inner ≡ Some reply
    → word ≡ codes " " ++ (way_word way ++ codes "\n") → bytes ≡ codes "found " ++ (decimal id ++ inner) → id < 2 ^ 32 → IsReplyText bytes reply
unfolding reply_end
by_way word bytes inner id way reply is text front fits =
    let (same, split) = where_word word inner (Found way (rule_of id)) reply is in
    subst (λ (r : Reply). IsReplyText bytes r) same (record {
      split = front ∙ ap (λ t. codes "found " ++ (decimal id ++ t)) (split ∙ text);
      within = fits;
    })

way_told : (bytes inner : List ℕ) (id : ℕ) (reply : Reply) → way_in id inner ≡ Some reply → bytes ≡ codes "found " ++ (decimal id ++ inner) → id < 2 ^ 32
    → IsReplyText bytes reply
unfolding way_in
way_told bytes inner id reply is front fits =
    elim (one_found (told_where (codes " forward\n") (Found Forward (rule_of id)) inner) (told_where (codes " reverse\n") (Found Reverse (rule_of id)) inner) reply is) [
      | inl forward ↦ by_way (codes " forward\n") bytes inner id Forward reply forward refl front fits
      | inr reverse ↦ by_way (codes " reverse\n") bytes inner id Reverse reply reverse refl front fits
    ]

found_told : (bytes : List ℕ) (reply : Reply) → found_in bytes ≡ Some reply → IsReplyText bytes reply
unfolding found_in
found_told bytes reply is =
    let way : ℕ × List ℕ → Option Reply = λ id. way_in id.0 id.1 in
    let (front, found, more) = then_found (behind (codes "found ") bytes) (λ t. number_at 4294967295 t >>= way) reply is in
    let (id, read, last) = then_found (number_at 4294967295 front) way reply more in
    let number = number_told 4294967295 front id.0 id.1 (omega arith) read in
    way_told bytes id.1 id.0 reply last (behind_told (codes "found ") bytes front found ∙ ap (λ t. codes "found " ++ t) number.split) (omega (arith, number.last))

counted_reply_told : (bytes : List ℕ) (reply : Reply) → counted_reply_in bytes ≡ Some reply → IsReplyText bytes reply
unfolding counted_reply_in reply_end
counted_reply_told bytes reply is =
    let limited : ℕ → Option Reply = λ count. Some (LimitReached count) in
    let full : ℕ → Option Reply = λ count. Some (TableFull count) in
    elim (one_found (count_in (codes "limit ") bytes >>= limited) (count_in (codes "full ") bytes >>= full) reply is) [
      | inl limit ↦
          let (count, found, told) = then_found (count_in (codes "limit ") bytes) limited reply limit in
          let (split, small) = count_told (codes "limit ") bytes count found in
          subst (λ (r : Reply). IsReplyText bytes r) (same_Some (LimitReached count) reply told) (record { split = split; within = small })
      | inr fully ↦
          let (count, found, told) = then_found (count_in (codes "full ") bytes) full reply fully in
          let (split, small) = count_told (codes "full ") bytes count found in
          subst (λ (r : Reply). IsReplyText bytes r) (same_Some (TableFull count) reply told) (record { split = split; within = small })
    ]

reply_told : (bytes : List ℕ) (reply : Reply) → reply_in bytes ≡ Some reply → IsReplyText bytes reply
unfolding reply_in reply_end
reply_told bytes reply is =
    let counted : Option Reply = or_else (found_in bytes) (counted_reply_in bytes) in
    let third : Option Reply = or_else (told_where (codes "exists\n") Exists bytes) counted in
    let second : Option Reply = or_else (told_where (codes "created\n") Created bytes) third in
    elim (one_found (told_where (codes "notfound\n") NotFound bytes) second reply is) [
      | inl none ↦ by_reply (codes "notfound\n") bytes NotFound reply none refl tt
      | inr more ↦ elim (one_found (told_where (codes "created\n") Created bytes) third reply more) [
        | inl made ↦ by_reply (codes "created\n") bytes Created reply made refl tt
        | inr other ↦ elim (one_found (told_where (codes "exists\n") Exists bytes) counted reply other) [
          | inl there ↦ by_reply (codes "exists\n") bytes Exists reply there refl tt
          | inr last ↦ elim (one_found (found_in bytes) (counted_reply_in bytes) reply last) [
            | inl found ↦ found_told bytes reply found
            | inr states ↦ counted_reply_told bytes reply states
          ]
        ]
      ]
    ]

-- ---- what is asked by these parts

-- an ask has these parts
record IsOfParts (question : Question) (name : List ℕ) (flags : ℕ) (flow : Flow) (second : ℕ) (asked : Op) : Type 0 where
  question_is : question_of asked ≡ question
  name_is : asked_name (name ∷ []) asked ≡ name
  flags_is : asked_flags asked ≡ flags
  flow_is : flow_of_ask asked ≡ flow
  second_is : asked_second asked ≡ second
  kept : flags < 8 → HasKeptFlags asked
  within : IsQuestion (name ∷ []) asked

other_name : (name : List ℕ) → pointwise nat_eq name (codes "any") ≡ false → IsFlowName name
other_name name other = λ is. differs is ((bytes_eq-Decides name (codes "any")).1 is)
  where
    differs : name ≡ codes "any" → pointwise nat_eq name (codes "any") ≡ true → ⊥
    differs is same = absurd (cc)

lookup_parts : (any : Bool) (name : List ℕ) (flags : ℕ) (flow : Flow) (second : ℕ) → pointwise nat_eq name (codes "any") ≡ any → IsNameText name
    → IsOfParts Lookup name flags flow second (op.Lookup flags flow second (if any then Any else Named 0))
lookup_parts true name flags flow second is text = record {
  question_is = refl;
  name_is = sym ((bytes_eq-Decides name (codes "any")).0 is);
  flags_is = refl;
  flow_is = refl;
  second_is = refl;
  kept = λ few. few;
  within = tt;
}
lookup_parts false name flags flow second is text = record {
  question_is = refl;
  name_is = refl;
  flags_is = refl;
  flow_is = refl;
  second_is = refl;
  kept = λ few. few;
  within = (text, other_name name is);
}

install_parts : (id : ℕ) (limit : Option (LimitMask × ℕ)) (name : List ℕ) (flags : ℕ) (flow : Flow) (second : ℕ)
    → pointwise nat_eq name (codes "any") ≡ false → IsNameText name → (id < 2 ^ 32) × IsLimit limit
    → IsOfParts (Install id limit) name flags flow second (op.Install flags flow second (rule_of id) limit 0)
install_parts id limit name flags flow second is text askable = record {
  question_is = refl;
  name_is = refl;
  flags_is = refl;
  flow_is = refl;
  second_is = refl;
  kept = λ few. few;
  within = (askable.0, (askable.1, (text, other_name name is)));
}

op_told : (question : Question) (name : List ℕ) (flags : ℕ) (flow : Flow) (second : ℕ) (asked : Op) → op_of question name flags flow second ≡ Some asked
    → IsNameText name → IsAskable question → IsOfParts question name flags flow second asked
unfolding op_of
op_told Lookup name flags flow second asked is text askable =
    subst (λ (a : Op). IsOfParts Lookup name flags flow second a) (same_Some (op.Lookup flags flow second (looked_up name)) asked is)
    (lookup_parts (pointwise nat_eq name (codes "any")) name flags flow second refl text)
op_told (Install id limit) name flags flow second asked is text askable = elim (cases_Bool (pointwise nat_eq name (codes "any"))) [
  | inl any ↦ let no = rw any at is in absurd (none-some asked no)
  | inr other ↦
      let on = rw other at is in
      subst (λ (a : Op). IsOfParts (Install id limit) name flags flow second a) (same_Some (op.Install flags flow second (rule_of id) limit 0) asked on)
      (install_parts id limit name flags flow second other text askable)
]

-- ---- the line

-- a text behind a second is an ask, to the line's end
record IsAskedText (bytes : List ℕ) (lane at second : ℕ) (value : AskValue) : Type 0 where
  lane_is : lane ≡ value.lane
  at_is : at ≡ value.at
  second_is : second ≡ asked_second value.op
  split : bytes ≡ asked_then (question_of value.op) (asked_name (value.name ∷ []) value.op) (flow_of_ask value.op) (asked_flags value.op) value.reply
  question : IsQuestion (value.name ∷ []) value.op
  flow : IsFlow (flow_of_ask value.op)
  flags : HasKeptFlags value.op
  answer : IsReply value.reply

-- the steps of reading what is asked, from the last to the first
abbrev reply_step : ℕ → ℕ → List ℕ → Op → Reply → Option AskValue
reply_step lane at name asked reply = Some (ask_value lane at name asked reply)

abbrev op_step : ℕ → ℕ → List ℕ → List ℕ → Op → Option AskValue
op_step lane at name bytes asked = reply_in bytes >>= reply_step lane at name asked

abbrev flags_step : ℕ → ℕ → ℕ → Question → List ℕ → Flow → ℕ × List ℕ → Option AskValue
flags_step lane at second question name flow flags = op_of question name flags.0 flow second >>= op_step lane at name flags.1

abbrev flow_step : ℕ → ℕ → ℕ → Question → List ℕ → Flow × List ℕ → Option AskValue
flow_step lane at second question name flow = flags_at flow.1 >>= flags_step lane at second question name flow.0

abbrev name_step : ℕ → ℕ → ℕ → Question → List ℕ × List ℕ → Option AskValue
name_step lane at second question name = flow_at name.1 >>= flow_step lane at second question name.0

abbrev question_step : ℕ → ℕ → ℕ → Question × List ℕ → Option AskValue
question_step lane at second question = name_at question.1 >>= name_step lane at second question.0

parts_text : (question : Question) (name : List ℕ) (flags : ℕ) (flow : Flow) (second : ℕ) (asked : Op) (reply : Reply) → IsOfParts question name flags flow second asked
    → asked_then question name flow flags reply ≡ asked_then (question_of asked) (asked_name (name ∷ []) asked) (flow_of_ask asked) (asked_flags asked) reply
parts_text question name flags flow second asked reply parts =
    ap (λ (q : Question). asked_then q name flow flags reply) (sym parts.question_is)
    ∙ ap (λ t. asked_then (question_of asked) t flow flags reply) (sym parts.name_is)
    ∙ ap (λ (f : Flow). asked_then (question_of asked) (asked_name (name ∷ []) asked) f flags reply) (sym parts.flow_is)
    ∙ ap (λ k. asked_then (question_of asked) (asked_name (name ∷ []) asked) (flow_of_ask asked) k reply) (sym parts.flags_is)

parts_split : (bytes name_text flow_text flags_text rest name : List ℕ) (question : Question) (flow : Flow) (flags : ℕ) (reply : Reply)
    → bytes ≡ question_then question name_text → name_text ≡ name ++ flow_text → flow_text ≡ flow_then flow flags_text
    → flags_text ≡ codes " " ++ (flags_word flags ++ (codes " " ++ rest)) → rest ≡ reply_end reply → bytes ≡ asked_then question name flow flags reply
unfolding ask_end
parts_split bytes name_text flow_text flags_text rest name question flow flags reply q n f fl r =
    q ∙ ap (λ t. question_then question t) (n ∙ ap (λ t. name ++ t) (f ∙ ap (λ t. flow_then flow t)
    (fl ∙ ap (λ t. codes " " ++ (flags_word flags ++ (codes " " ++ t))) r)))

asked_told : (lane at second : ℕ) (bytes : List ℕ) (value : AskValue) → asked_in lane at second bytes ≡ Some value → IsAskedText bytes lane at second value
unfolding asked_in
asked_told lane at second bytes value is =
    let (q, q_found, q_more) = then_found (question_at bytes) (question_step lane at second) value is in
    let (n, n_found, n_more) = then_found (name_at q.1) (name_step lane at second q.0) value q_more in
    let (f, f_found, f_more) = then_found (flow_at n.1) (flow_step lane at second q.0 n.0) value n_more in
    let (fl, fl_found, fl_more) = then_found (flags_at f.1) (flags_step lane at second q.0 n.0 f.0) value f_more in
    let (asked, o_found, o_more) = then_found (op_of q.0 n.0 fl.0 f.0 second) (op_step lane at n.0 fl.1) value fl_more in
    let (reply, r_found, last) = then_found (reply_in fl.1) (reply_step lane at n.0 asked) value o_more in
    let question = question_told bytes q.0 q.1 q_found in
    let name = name_told q.1 n.0 n.1 n_found in
    let flow = flow_told n.1 f.0 f.1 f_found in
    let (flags_split, few) = flags_told f.1 fl.0 fl.1 fl_found in
    let answer = reply_told fl.1 reply r_found in
    let parts = op_told q.0 n.0 fl.0 f.0 second asked o_found name.within question.within in
    subst (λ (v : AskValue). IsAskedText bytes lane at second v) (same_Some (ask_value lane at n.0 asked reply) value last) (record {
      lane_is = refl;
      at_is = refl;
      second_is = sym parts.second_is;
      split = parts_split bytes q.1 n.1 f.1 fl.1 n.0 q.0 f.0 fl.0 reply question.split name.split flow.split flags_split answer.split
          ∙ parts_text q.0 n.0 fl.0 f.0 second asked reply parts;
      question = parts.within;
      flow = subst (λ (t : Flow). IsFlow t) (sym parts.flow_is) flow.within;
      flags = parts.kept few;
      answer = answer.within;
    })

-- a line is the text of what was read of it, in its ranges
pub record IsAskLine (line : List ℕ) (value : AskValue) : Type 0 where
  pub split : line ≡ ask_line (value.name ∷ []) value.lane value.at value.op value.reply
  pub within : IsAsk (value.name ∷ []) value.lane value.at value.op value.reply

-- the steps of reading an ask's line, from the last to the first
abbrev second_step : ℕ → ℕ → ℕ × List ℕ → Option AskValue
second_step lane at second = asked_in lane at second.0 second.1

abbrev gap_step : ℕ → ℕ → List ℕ → Option AskValue
gap_step lane at gap = number_at 4294967295 gap >>= second_step lane at

abbrev at_step : ℕ → ℕ × List ℕ → Option AskValue
at_step lane at = behind (codes " ") at.1 >>= gap_step lane at.0

abbrev point_step : ℕ → List ℕ → Option AskValue
point_step lane point = positive_at 18446744073709551615 point >>= at_step lane

abbrev lane_step : ℕ × List ℕ → Option AskValue
lane_step lane = behind (codes ".") lane.1 >>= point_step lane.0

abbrev front_step : List ℕ → Option AskValue
front_step front = positive_at 16 front >>= lane_step

-- a line begins with a lane, a record and a second
record IsAskStart (line : List ℕ) (lane at second : ℕ) (rest : List ℕ) : Type 0 where
  split : line ≡ ask_then lane at second rest
  lane_first : 1 ≤ lane
  lane_last : lane ≤ 16
  first : 1 ≤ at
  last : at < 2 ^ 64
  fits : second < 2 ^ 32

start_told : (line front point gap rest : List ℕ) (lane at second : ℕ) (lane_rest at_rest : List ℕ) → line ≡ codes "ask " ++ front
    → positive_at 16 front ≡ Some (lane, lane_rest) → lane_rest ≡ codes "." ++ point → positive_at 18446744073709551615 point ≡ Some (at, at_rest)
    → at_rest ≡ codes " " ++ gap → number_at 4294967295 gap ≡ Some (second, rest) → IsAskStart line lane at second rest
start_told line front point gap rest lane at second lane_rest at_rest word l dot a space s =
    let lanes = positive_told 16 front lane lane_rest (omega arith) l in
    let ats = positive_told 18446744073709551615 point at at_rest (omega arith) a in
    let seconds = number_told 4294967295 gap second rest (omega arith) s in
    record {
      split = word ∙ ap (λ t. codes "ask " ++ t) (lanes.split ∙ ap (λ t. decimal lane ++ t) (dot ∙ ap (λ t. codes "." ++ t)
          (ats.split ∙ ap (λ t. decimal at ++ t) (space ∙ ap (λ t. codes " " ++ t) seconds.split))));
      lane_first = lanes.first;
      lane_last = lanes.last;
      first = ats.first;
      last = omega (arith, ats.last);
      fits = omega (arith, seconds.last);
    }

line_told : (line : List ℕ) (lane at second : ℕ) (rest : List ℕ) (value : AskValue) → IsAskStart line lane at second rest
    → IsAskedText rest lane at second value → IsAskLine line value
line_told line lane at second rest value start asked = record {
  split = start.split ∙ ap (λ t. ask_then lane at second t) asked.split ∙ ap (λ n. ask_then n at second behind_second) asked.lane_is
      ∙ ap (λ n. ask_then value.lane n second behind_second) asked.at_is
      ∙ ap (λ n. ask_then value.lane value.at n behind_second) asked.second_is
      ∙ sym (ask_flat (value.name ∷ []) value.lane value.at value.op value.reply);
  within = record {
    lane_first = subst (λ n. 1 ≤ n) asked.lane_is start.lane_first;
    lane_last = subst (λ n. n ≤ 16) asked.lane_is start.lane_last;
    first = subst (λ n. 1 ≤ n) asked.at_is start.first;
    last = subst (λ n. n < 2 ^ 64) asked.at_is start.last;
    second = subst (λ n. n < 2 ^ 32) asked.second_is start.fits;
    question = asked.question;
    flow = asked.flow;
    flags = asked.flags;
    answer = asked.answer;
  };
}
  where
    behind_second : List ℕ
    behind_second = asked_then (question_of value.op) (asked_name (value.name ∷ []) value.op) (flow_of_ask value.op) (asked_flags value.op) value.reply

-- what is read of an ask's line is what it is the text of
pub ask_told : (line : List ℕ) (value : AskValue) → ask_in line ≡ Some value → IsAskLine line value
unfolding ask_in
ask_told line value is =
    let (front, front_found, front_more) = then_found (behind (codes "ask ") line) front_step value is in
    let (lane, lane_found, lane_more) = then_found (positive_at 16 front) lane_step value front_more in
    let (point, point_found, point_more) = then_found (behind (codes ".") lane.1) (point_step lane.0) value lane_more in
    let (at, at_found, at_more) = then_found (positive_at 18446744073709551615 point) (at_step lane.0) value point_more in
    let (gap, gap_found, gap_more) = then_found (behind (codes " ") at.1) (gap_step lane.0 at.0) value at_more in
    let (second, second_found, last) = then_found (number_at 4294967295 gap) (second_step lane.0 at.0) value gap_more in
    let start = start_told line front point gap second.1 lane.0 at.0 second.0 lane.1 at.1 (behind_told (codes "ask ") line front front_found) lane_found
    (behind_told (codes ".") lane.1 point point_found) at_found (behind_told (codes " ") at.1 gap gap_found) second_found in
    line_told line lane.0 at.0 second.0 second.1 value start (asked_told lane.0 at.0 second.0 second.1 value last)
