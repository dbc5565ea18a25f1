-- The lines of a journal, and what they tell.
use Rattle.std.proofs.Common.{◌≡◌, ℕ, ◌+◌, Bool, true, false, Option, Some, None, List, [], ◌∷◌, ◌++◌, map, codes, refl}
use Rattle.std.specs.Fmt.{decimal}
use Rattle.std.specs.List.{flat_map, AllByRecursion}
use Rattle.eval_engine.specs.Dockets.{DocketValue}
use Rattle.report_texts.proofs.SilentWords.{number_is_silent}
use Rattle.state_asks.specs.Flags.{asked_flags}
use Rattle.report_texts.specs.JournalText.{ask_end, ask_line, ask_start, entry_line, flag_letters, flags_word, flow_of_ask, install_text, lane_line, lanes_text, lookup_text, name_numbered, name_word, op_text, publish_line, reply_end, way_word}
use Rattle.state_asks.specs.Asked.{asked_second}
use Rattle.report_texts.specs.Lines.{lines_in}
use Rattle.fw_rule.specs.Bits.{has_bit}
use Rattle.fw_rule.specs.declared.state_opt.LimitMask.{LimitMask}
use Rattle.fw_rule.specs.declared.state_opt.LimitMask.TheVariants.{SrcAddr, SrcPort, DstAddr, DstPort}
use Rattle.report_reading.proofs.ReadingsTold.{ask_read, lane_read, publication_read}
use Rattle.report_reading.specs.AskLines.{IsQuestion, printed_ask}
use Rattle.report_reading.specs.Readings.{LineValue, OfAsk, OfLane, OfPublication}
use Rattle.rule_text.specs.Canonical.{mask_word}
use Rattle.state_asks.specs.declared.op.FlowName.{FlowName}
use Rattle.state_asks.specs.declared.op.FlowName.TheVariants.{Any, Named}
use Rattle.state_asks.specs.declared.op.Op.{Op}
use Rattle.state_asks.specs.declared.op.Op.TheVariants.{Lookup, Install}
use Rattle.state_asks.specs.declared.reply.Reply.{Reply}
use Rattle.state_asks.specs.declared.reply.Reply.TheVariants.{Found, NotFound, Created, Exists, LimitReached, TableFull}
use Rattle.state_asks.specs.declared.reply.Way.{Way}
use Rattle.state_asks.specs.declared.reply.Way.TheVariants.{Forward, Reverse}
use Rattle.state_journal.specs.declared.entry.Entry.{Entry}
use Rattle.state_journal.specs.declared.entry.Entry.TheVariants.{Publish, Ask}
use Rattle.state_texts.specs.StateTexts.{flow_text}
use Rattle.run_audit.specs.PrintedJournals.{ArePrintableLanes, IsPrintable, entry_value}
use Rattle.run_audit.proofs.SilentParts.{name_is_silent, flow_is_silent}
use Rattle.run_audit.proofs.ToldTexts.{IsLine, TellsAs, newline, silent_before, silent_both, tells_both, tells_line, tells_none}

-- ---- each line is one

publish_is_line : (number : ℕ) → IsLine (publish_line number)
unfolding publish_line lines_in
publish_is_line number = silent_before (codes "publish ") _ refl (silent_before (decimal number) _ (number_is_silent number) newline)

lane_is_line : (lane refused tracker : ℕ) → IsLine (lane_line lane refused tracker)
unfolding lane_line lines_in
lane_is_line lane refused tracker =
    silent_before (codes "lane ") _ refl (silent_before (decimal lane) _ (number_is_silent lane)
    (silent_before (codes " refused ") _ refl (silent_before (decimal refused) _ (number_is_silent refused)
    (silent_before (codes " tracker ") _ refl (silent_before (decimal tracker) _ (number_is_silent tracker) newline)))))

way_is_silent : (way : Way) → lines_in (way_word way) ≡ 0
unfolding lines_in
way_is_silent Forward = refl
way_is_silent Reverse = refl

count_is_line : (word : List ℕ) (count : ℕ) → lines_in word ≡ 0 → IsLine (word ++ (decimal count ++ codes "\n"))
count_is_line word count silent = silent_before word _ silent (silent_before (decimal count) _ (number_is_silent count) newline)

reply_is_line : (reply : Reply) → IsLine (reply_end reply)
unfolding reply_end lines_in
reply_is_line (Found way rule) =
    silent_before (codes "found ") _ refl (silent_before (decimal rule.id) _ (number_is_silent rule.id)
    (silent_before (codes " ") _ refl (silent_before (way_word way) _ (way_is_silent way) newline)))
reply_is_line NotFound = silent_before (codes "notfound") _ refl newline
reply_is_line Created = silent_before (codes "created") _ refl newline
reply_is_line Exists = silent_before (codes "exists") _ refl newline
reply_is_line (LimitReached count) = count_is_line (codes "limit ") count refl
reply_is_line (TableFull count) = count_is_line (codes "full ") count refl

letters_are_silent : (fin syn rst : Bool) → lines_in (flag_letters fin syn rst) ≡ 0
unfolding lines_in
letters_are_silent false false false = refl
letters_are_silent true false false = refl
letters_are_silent false true false = refl
letters_are_silent true true false = refl
letters_are_silent false false true = refl
letters_are_silent true false true = refl
letters_are_silent false true true = refl
letters_are_silent true true true = refl

end_is_line : (flags : ℕ) (reply : Reply) → IsLine (ask_end flags reply)
unfolding ask_end lines_in
end_is_line flags reply =
    silent_before (codes " ") _ refl (silent_before (flags_word flags) _ (letters_are_silent (has_bit flags 0) (has_bit flags 1) (has_bit flags 2))
    (silent_before (codes " ") _ refl (reply_is_line reply)))

-- the words between the parts end no line
record WordsAreSilent : Type 0 where
  ask : lines_in (codes "ask ") ≡ 0
  dot : lines_in (codes ".") ≡ 0
  gap : lines_in (codes " ") ≡ 0
  lookup : lines_in (codes " lookup :") ≡ 0
  install : lines_in (codes " install ") ≡ 0
  keep : lines_in (codes " keep :") ≡ 0
  limit : lines_in (codes " limit ") ≡ 0
  colon : lines_in (codes " :") ≡ 0

words_are_silent : WordsAreSilent
unfolding lines_in
words_are_silent = record { ask = refl; dot = refl; gap = refl; lookup = refl; install = refl; keep = refl; limit = refl; colon = refl }

start_is_silent : (lane at second : ℕ) → lines_in (ask_start lane at second) ≡ 0
unfolding ask_start
start_is_silent lane at second =
    let w = words_are_silent in
    silent_both (codes "ask ") _ w.ask (silent_both (decimal lane) _ (number_is_silent lane)
    (silent_both (codes ".") _ w.dot (silent_both (decimal at) _ (number_is_silent at) (silent_both (codes " ") _ w.gap (number_is_silent second)))))

mask_is_silent : (mask : LimitMask) → lines_in (mask_word mask) ≡ 0
unfolding lines_in
mask_is_silent SrcAddr = refl
mask_is_silent SrcPort = refl
mask_is_silent DstAddr = refl
mask_is_silent DstPort = refl

install_is_silent : (names : List (List ℕ)) (id : ℕ) (limit : Option (LimitMask × ℕ)) (name : ℕ) → lines_in (name_numbered names name) ≡ 0 → lines_in (install_text names id limit name) ≡ 0
unfolding install_text
install_is_silent names id None name silent =
    let w = words_are_silent in
    silent_both (codes " install ") _ w.install (silent_both (decimal id) _ (number_is_silent id) (silent_both (codes " keep :") _ w.keep silent))
install_is_silent names id (Some limit) name silent =
    let w = words_are_silent in
    silent_both (codes " install ") _ w.install (silent_both (decimal id) _ (number_is_silent id) (silent_both (codes " limit ") _ w.limit
    (silent_both (mask_word limit.0) _ (mask_is_silent limit.0) (silent_both (codes " ") _ w.gap
    (silent_both (decimal limit.1) _ (number_is_silent limit.1) (silent_both (codes " :") _ w.colon silent))))))

lookup_is_silent : (names : List (List ℕ)) (name : FlowName) → lines_in (name_word names name) ≡ 0 → lines_in (lookup_text names name) ≡ 0
unfolding lookup_text
lookup_is_silent names name silent = silent_both (codes " lookup :") (name_word names name) words_are_silent.lookup silent

any_is_silent : lines_in (codes "any") ≡ 0
unfolding lines_in
any_is_silent = refl

op_is_silent : (names : List (List ℕ)) (op : Op) → IsQuestion names op → lines_in (op_text names op) ≡ 0
op_is_silent names (Lookup flags flow second Any) question = lookup_is_silent names Any any_is_silent
op_is_silent names (Lookup flags flow second (Named name)) question = lookup_is_silent names (Named name) (name_is_silent (name_numbered names name) question.0.bytes)
op_is_silent names (Install flags flow second rule limit name) question =
    install_is_silent names rule.id limit name (name_is_silent (name_numbered names name) question.1.1.0.bytes)

ask_is_line : (names : List (List ℕ)) (lane at : ℕ) (op : Op) (reply : Reply) → IsQuestion names op → IsLine (ask_line names lane at op reply)
unfolding ask_line
ask_is_line names lane at op reply question =
    silent_before (ask_start lane at (asked_second op)) _ (start_is_silent lane at (asked_second op))
    (silent_before (op_text names op) _ (op_is_silent names op question)
    (silent_before (flow_text (flow_of_ask op)) _ (flow_is_silent (flow_of_ask op)) (end_is_line (asked_flags op) reply)))

-- ---- what they tell

entry_tells : (names : List (List ℕ)) (entry : Entry) → IsPrintable names entry → TellsAs (entry_line names entry) (entry_value names entry ∷ [])
entry_tells names (Publish number) is = tells_line (publish_line number) (OfPublication number) (publish_is_line number) (publication_read number is)
entry_tells names (Ask lane op reply at) is =
    tells_line (ask_line names lane at op reply) (OfAsk (printed_ask names lane at op reply)) (ask_is_line names lane at op reply is.question) (ask_read names lane at op reply is)

-- the lines of entries tell each of them
pub entries_tell : (names : List (List ℕ)) (entries : List Entry) → AllByRecursion (IsPrintable names) entries → TellsAs (flat_map (entry_line names) entries) (map (entry_value names) entries)
entries_tell names [] all = tells_none
entries_tell names (entry ∷ entries) all =
    tells_both (entry_line names entry) (flat_map (entry_line names) entries) (entry_value names entry ∷ []) (map (entry_value names) entries)
    (entry_tells names entry all.0) (entries_tell names entries all.1)

-- what the lines of lanes tell, from this lane on
abbrev pub lane_values : ℕ → List DocketValue → List ℕ → List LineValue
lane_values lane [] trackers = []
lane_values lane (docket ∷ dockets) [] = []
lane_values lane (docket ∷ dockets) (tracker ∷ trackers) =
    OfLane (record { lane = lane; refused = docket.refused; tracker = tracker }) ∷ lane_values (lane + 1) dockets trackers

-- the lines of lanes tell each of them
pub lanes_tell : (lane : ℕ) (dockets : List DocketValue) (trackers : List ℕ) → ArePrintableLanes lane dockets trackers → TellsAs (lanes_text lane dockets trackers) (lane_values lane dockets trackers)
unfolding lanes_text
lanes_tell lane [] trackers all = tells_none
lanes_tell lane (docket ∷ dockets) [] all = tells_none
lanes_tell lane (docket ∷ dockets) (tracker ∷ trackers) all =
    tells_both (lane_line lane docket.refused tracker) (lanes_text (lane + 1) dockets trackers)
    (OfLane (record { lane = lane; refused = docket.refused; tracker = tracker }) ∷ []) (lane_values (lane + 1) dockets trackers)
    (tells_line (lane_line lane docket.refused tracker) _ (lane_is_line lane docket.refused tracker) (lane_read lane docket.refused tracker all.0))
    (lanes_tell (lane + 1) dockets trackers all.1)
