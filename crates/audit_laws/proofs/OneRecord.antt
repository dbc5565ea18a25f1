-- A report tells one record: the editions, the journal, and what was entered for each lane.
use Rattle.std.proofs.Common.{◌≡◌, ℕ, ◌+◌, Option, Some, None, Ok, List, [], ◌∷◌, refl, sym, ap, subst, ◌∙◌}
use Rattle.std.specs.Prelude.{IsSome, IsSomeAnd, Result}
use Rattle.eval_engine.specs.Dockets.{judged_entry, judgement_in}
use Rattle.eval_engine.specs.Evaluated.{Whole}
use Rattle.eval_engine.specs.declared.docket_entry.DocketEntry.{DocketEntry}
use Rattle.eval_engine.specs.declared.docket_entry.DocketEntry.TheVariants as entries
use Rattle.eval_engine.specs.declared.judgement.Judgement.{Judgement}
use Rattle.fw_base.specs.declared.port.Port.{Port}
use Rattle.fw_rule.specs.declared.command.Command.{Command}
use Rattle.fw_world.specs.Asks.{LaneAsk, asks_of_record}
use Rattle.fw_world.specs.Editions.{AreEditions, AreEditionsFrom, edition_numbered}
use Rattle.fw_world.specs.Entries.{EachRecord, IsEvaluatedTo, IsEvaluation}
use Rattle.fw_world.specs.Inputs.{Input, Other, Malformed, Packet}
use Rattle.generation_store.proofs.OneEdition.{same_edition}
use Rattle.generation_store.specs.Published.{Published, IsBuilt}
use Rattle.ip6_headers.specs.declared.any_ip.AnyIp.{AnyIp}
use Rattle.report_reading.specs.RecordLines.{printed}
use Rattle.rule_chain.specs.Configuration.{Configuration}
use Rattle.rule_edits.specs.Apply.{apply}
use Rattle.run_audit.proofs.ToldEntries.{if_some, judged_again}
use Rattle.run_audit.specs.Judging.{ToldValue, AreToldSo, IsToldSo, asks_told, line_naming}

-- ---- editions

same_built : (number : ℕ) (config : Configuration) (a b : Published) → IsBuilt number config a → IsBuilt number config b → a ≡ b
same_built number config a b one other = same_edition a b (one.numbered ∙ sym other.numbered) (one.configured ∙ sym other.configured) one.factual other.factual

editions_from : (number : ℕ) (config : Configuration) (commands : List Command) (a b : List Published) → AreEditionsFrom number config commands a → AreEditionsFrom number config commands b → a ≡ b
editions_from number config commands [] b one other = absurd one
editions_from number config commands (first ∷ a) [] one other = absurd other
editions_from number config [] (first ∷ []) (second ∷ []) one other = ap (λ (e : Published). e ∷ []) (same_built number config first second one other)
editions_from number config [] (first ∷ next ∷ a) b one other = absurd one
editions_from number config [] (first ∷ []) (second ∷ next ∷ b) one other = absurd other
editions_from number config (command ∷ commands) (first ∷ a) (second ∷ b) one other =
    let made : one.1 ≡ other.1 = same_ok (apply config command) one.1 other.1 one.2 other.2 in
    let rest : AreEditionsFrom (number + 1) other.1 commands a = subst (λ (c : Configuration). AreEditionsFrom (number + 1) c commands a) made one.3 in
    ap (λ (e : Published). e ∷ a) (same_built number config first second one.0 other.0)
    ∙ ap (λ (es : List Published). second ∷ es) (editions_from (number + 1) other.1 commands a b rest other.3)
  where
    same_ok : {E : Type 0} (result : Result Configuration E) (x y : Configuration) → result ≡ Ok x → result ≡ Ok y → x ≡ y
    same_ok result x y is also = let both : Ok x ≡ Ok y = sym is ∙ also in cc

-- commands make one list of editions of a first configuration
pub one_list : (first : Configuration) (commands : List Command) (a b : List Published) → AreEditions first commands a → AreEditions first commands b → a ≡ b
one_list first commands a b one other = editions_from 1 first commands a b one other

-- ---- entries

same_some : {X : Type 0} (x y : X) → Some x ≡ Some y → x ≡ y
same_some x y is = cc

some_of : {X : Type 0} (o : Option X) → IsSome o → (x : X) × (o ≡ Some x)
some_of None is = absurd (cc)
some_of (Some x) is = (x, refl)

-- the edition that a line of an entry names
abbrev edition_in : DocketEntry → ℕ
edition_in entries.Other = 0
edition_in (entries.Malformed kind) = 0
edition_in (entries.Judged verdict rule edition) = edition
edition_in (entries.Limited verdict rule states edition) = edition
edition_in (entries.Full verdict rule states edition) = edition

printed_edition : (entry : DocketEntry) → edition_in (printed entry) ≡ edition_in entry
printed_edition entries.Other = refl
printed_edition (entries.Malformed kind) = refl
printed_edition (entries.Judged verdict rule edition) = refl
printed_edition (entries.Limited verdict rule states edition) = refl
printed_edition (entries.Full verdict rule states edition) = refl

judged_edition : (entry : DocketEntry) (judgement : Judgement) → judgement_in entry ≡ Some judgement → edition_in entry ≡ judgement.edition
judged_edition entries.Other judgement is = absurd (cc)
judged_edition (entries.Malformed kind) judgement is = absurd (cc)
judged_edition (entries.Judged verdict rule edition) judgement is = ap (λ (j : Judgement). j.edition) (same_some _ judgement is)
judged_edition (entries.Limited verdict rule states edition) judgement is = ap (λ (j : Judgement). j.edition) (same_some _ judgement is)
judged_edition (entries.Full verdict rule states edition) judgement is = ap (λ (j : Judgement). j.edition) (same_some _ judgement is)

by_edition : (o : Option Published) (packet : AnyIp) (port : Port) (second : ℕ) (asks : List LaneAsk) (a b : Judgement)
    → IsSomeAnd o (λ edition. IsEvaluation edition packet port second asks a) → IsSomeAnd o (λ edition. IsEvaluation edition packet port second asks b) → a ≡ b
by_edition None packet port second asks a b one other = absurd one
by_edition (Some edition) packet port second asks a b one other =
    let both : Whole a ≡ Whole b = sym one.outcome ∙ other.outcome in
    cc

one_judgement : (editions : List Published) (packet : AnyIp) (port : Port) (second : ℕ) (asks : List LaneAsk) (a b : Judgement) → a.edition ≡ b.edition
    → IsEvaluatedTo editions packet port second asks a → IsEvaluatedTo editions packet port second asks b → a ≡ b
one_judgement editions packet port second asks a b same one other =
    by_edition (edition_numbered editions b.edition) packet port second asks a b
    (subst (λ (n : ℕ). IsSomeAnd (edition_numbered editions n) (λ edition. IsEvaluation edition packet port second asks a)) same one) other

same_line : {X : Type 0} (entry_of : X → DocketEntry) (o : Option X) (a b : DocketEntry) → IsSomeAnd o (λ one. entry_of one ≡ printed a) → IsSomeAnd o (λ one. entry_of one ≡ printed b) → printed a ≡ printed b
same_line entry_of None a b one other = absurd one
same_line entry_of (Some line) a b one other = sym one ∙ other

one_entry : (told : ToldValue) (lane at : ℕ) (input : Input) (a b : DocketEntry) → IsToldSo told lane at input a → IsToldSo told lane at input b → a ≡ b
one_entry told lane at Other a b one other = one.entered ∙ sym other.entered
one_entry told lane at (Malformed kind) a b one other = one.entered ∙ sym other.entered
one_entry told lane at (Packet packet port second) a b one other =
    let (first, is) = some_of (judgement_in a) one.entered in
    let (next, also) = some_of (judgement_in b) other.entered in
    let lines : printed a ≡ printed b = same_line (λ one. one.told.entry) (line_naming told lane at) a b one.named other.named in
    let edition : first.edition ≡ next.edition =
    sym (judged_edition a first is) ∙ sym (printed_edition a) ∙ ap edition_in lines ∙ printed_edition b ∙ judged_edition b next also in
    let asks : List LaneAsk = asks_of_record at (asks_told told lane) in
    let same : first ≡ next = one_judgement told.editions packet port second asks first next edition
    (if_some (IsEvaluatedTo told.editions packet port second asks) (judgement_in a) first is one.evaluated)
    (if_some (IsEvaluatedTo told.editions packet port second asks) (judgement_in b) next also other.evaluated) in
    sym (judged_again a first is) ∙ ap judged_entry same ∙ judged_again b next also

same_entries : (told : ToldValue) (lane at : ℕ) (inputs : List Input) (a b : List DocketEntry) → EachRecord (IsToldSo told lane) at inputs a → EachRecord (IsToldSo told lane) at inputs b → a ≡ b
same_entries told lane at [] [] [] one other = refl
same_entries told lane at [] [] (second ∷ b) one other = absurd other
same_entries told lane at [] (first ∷ a) b one other = absurd one
same_entries told lane at (input ∷ inputs) [] b one other = absurd one
same_entries told lane at (input ∷ inputs) (first ∷ a) [] one other = absurd other
same_entries told lane at (input ∷ inputs) (first ∷ a) (second ∷ b) one other =
    ap (λ (e : DocketEntry). e ∷ a) (one_entry told lane at input first second one.0 other.0)
    ∙ ap (λ (es : List DocketEntry). second ∷ es) (same_entries told lane (at + 1) inputs a b one.1 other.1)

-- a report tells one entry for each record
pub one_told : (told : ToldValue) (lane : ℕ) (inputs : List (List Input)) (a b : List (List DocketEntry)) → AreToldSo told lane inputs a → AreToldSo told lane inputs b → a ≡ b
one_told told lane [] [] [] one other = refl
one_told told lane [] [] (second ∷ b) one other = absurd other
one_told told lane [] (first ∷ a) b one other = absurd one
one_told told lane (own ∷ inputs) [] b one other = absurd one
one_told told lane (own ∷ inputs) (first ∷ a) [] one other = absurd other
one_told told lane (own ∷ inputs) (first ∷ a) (second ∷ b) one other =
    ap (λ (es : List DocketEntry). es ∷ a) (same_entries told lane 1 own first second one.0 other.0)
    ∙ ap (λ (ds : List (List DocketEntry)). second ∷ ds) (one_told told (lane + 1) inputs a b one.1 other.1)
