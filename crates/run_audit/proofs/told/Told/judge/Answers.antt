use Rattle.std.proofs.Common.{◌≡◌, ℕ, List, ◌++◌, map, Some, Ok, refl, sym, ap, ◌∙◌, subst}
use Rattle.std.specs.Arc.{arc_value}
use Rattle.std.specs.List.{find}
use Rattle.eval_engine.proofs.Dockets.{judgement_in-judged}
use Rattle.eval_engine.specs.Dockets.{judged_entry, judgement_in}
use Rattle.eval_engine.specs.Evaluation.{evaluate}
use Rattle.eval_engine.specs.Question.{question_under}
use Rattle.eval_engine.specs.declared.docket_entry.DocketEntry.{DocketEntry}
use Rattle.fw_world.specs.AskRuns.{RisesBy}
use Rattle.fw_world.specs.Asks.{asks_of_record}
use Rattle.fw_world.specs.Editions.{edition_numbered}
use Rattle.fw_world.specs.Inputs.{Packet}
use Rattle.fw_world.specs.Tallies.{IsTallyOf, record_hits}
use Rattle.ip6_headers.specs.Either.{total_of}
use Rattle.report_reading.specs.RecordLines.{printed}
use Rattle.state_asks.specs.declared.op.Op.{Op}
use Rattle.state_asks.specs.declared.reply.Reply.{Reply}
use Rattle.run_audit.specs.AskStands.{asked_of}
use Rattle.run_audit.specs.Judging.{ToldValue, AreTimely, IsToldSo, asks_told, line_naming, names_record}
use Rattle.run_audit.specs.ToldEvaluations.{ComesTo, replies_told}
use Rattle.run_audit.proofs.ToldEntries.{if_some, on_some, not_open, not_other, packet_told, same_edition, tallied_told}
use Rattle.run_audit.proofs.told.Told.judge.Goals as goal

pub returns-in_default-3-clause-untold : goal.returns-in_default-3-clause-untold
returns-in_default-3-clause-untold c = λ ok entry is.
    let told : ToldValue = record { editions = map arc_value c.self.inside.editions.items; journal = c.self.inside.asks; records = c.self.inside.records; lanes = c.self.inside.lanes; ask_lines = c.self.inside.ask_lines.items; lines = c.self.inside.lines } in
    let one = c.in-Some.one in
    let named : line_naming told c.args.name.lane c.args.name.at ≡ Some one = ap (λ (n : ℕ). find (names_record n c.args.name.at) told.records) (sym c.from.ensures) ∙ sym c.naming.ensures ∙ c.in-Some.is in
    let line = c.in-Some-judgement.told in
    let judged : judgement_in one.told.entry ≡ Some line = sym c.judgement.ensures ∙ c.in-Some-judgement.is in
    let edition = c.in-Some-edition_numbered.edition.now in
    let numbered : edition_numbered told.editions line.edition ≡ Some edition = ap (λ xs. edition_numbered (map arc_value xs) line.edition) (sym c.deref.ensures.value) ∙ sym c.in-Some-edition_numbered.ensures in
    let asked = c.in-Some-2.asked.items in
    let own : asked ≡ map asked_of (asks_of_record c.args.name.at (asks_told told c.args.name.lane)) = if_some _ _ c.in-Some-2.asked c.in-Some-2.is c.in_ok-asked.ensures.asked in
    let so : IsToldSo told c.args.name.lane c.args.name.at (Packet c.args.packet.now c.args.port.now c.args.second) entry =
    subst (λ (t : ToldValue). IsToldSo t c.args.name.lane c.args.name.at (Packet c.args.packet.now c.args.port.now c.args.second) entry) (sym c.self.view_is) is in
    let only = c.judged_under.ensures.only (c.in_ok-judgement.was ∙ ap Ok c.in_default-3.is) in
    not_open told c.args.name.lane c.args.name.at c.args.packet.now c.args.port.now c.args.second entry one named so line judged edition numbered asked own
    (λ judgement comes. only judgement (subst (λ (xs : List (Op × Reply)). ComesTo (question_under edition c.args.packet.now c.args.port.now c.args.second) xs judgement) (sym c.deref-2.ensures.value) comes))

pub returns-clause-untold : goal.returns-clause-untold
returns-clause-untold c = λ ok entry is.
    let told : ToldValue = record { editions = map arc_value c.self.inside.editions.items; journal = c.self.inside.asks; records = c.self.inside.records; lanes = c.self.inside.lanes; ask_lines = c.self.inside.ask_lines.items; lines = c.self.inside.lines } in
    let one = c.in-Some.one in
    let named : line_naming told c.args.name.lane c.args.name.at ≡ Some one = ap (λ (n : ℕ). find (names_record n c.args.name.at) told.records) (sym c.from.ensures) ∙ sym c.naming.ensures ∙ c.in-Some.is in
    let line = c.in-Some-judgement.told in
    let judged : judgement_in one.told.entry ≡ Some line = sym c.judgement.ensures ∙ c.in-Some-judgement.is in
    let edition = c.in-Some-edition_numbered.edition.now in
    let numbered : edition_numbered told.editions line.edition ≡ Some edition = ap (λ xs. edition_numbered (map arc_value xs) line.edition) (sym c.deref.ensures.value) ∙ sym c.in-Some-edition_numbered.ensures in
    let asked = c.in-Some-2.asked.items in
    let own : asked ≡ map asked_of (asks_of_record c.args.name.at (asks_told told c.args.name.lane)) = if_some _ _ c.in-Some-2.asked c.in-Some-2.is c.in_ok-asked.ensures.asked in
    let so : IsToldSo told c.args.name.lane c.args.name.at (Packet c.args.packet.now c.args.port.now c.args.second) entry =
    subst (λ (t : ToldValue). IsToldSo t c.args.name.lane c.args.name.at (Packet c.args.packet.now c.args.port.now c.args.second) entry) (sym c.self.view_is) is in
    let comes : ComesTo (question_under edition c.args.packet.now c.args.port.now c.args.second) asked c.in-Some-3.judgement =
    subst (λ (xs : List (Op × Reply)). ComesTo (question_under edition c.args.packet.now c.args.port.now c.args.second) xs c.in-Some-3.judgement) c.deref-2.ensures.value
    (if_some (ComesTo (question_under edition c.args.packet.now c.args.port.now c.args.second) c.deref-2.result.now) _ c.in-Some-3.judgement c.in-Some-3.is c.in_ok-judgement.ensures.judged) in
    not_other told c.args.name.lane c.args.name.at c.args.packet.now c.args.port.now c.args.second entry one named so line judged edition numbered asked own c.in-Some-3.judgement comes
    (λ (same : one.told.entry ≡ printed (judged_entry c.in-Some-3.judgement)).
    let yes = c.is_told_as.ensures.all (same ∙ ap printed (sym c.judged-entry.ensures)) in
    let no = c.if-is_told_as.false in
    absurd (cc))

pub returns-then-is_told_as-clause-told : goal.returns-then-is_told_as-clause-told
returns-then-is_told_as-clause-told c =
    let told : ToldValue = record { editions = map arc_value c.self.inside.editions.items; journal = c.self.inside.asks; records = c.self.inside.records; lanes = c.self.inside.lanes; ask_lines = c.self.inside.ask_lines.items; lines = c.self.inside.lines } in
    let one = c.in-Some.one in
    let named : line_naming told c.args.name.lane c.args.name.at ≡ Some one = ap (λ (n : ℕ). find (names_record n c.args.name.at) told.records) (sym c.from.ensures) ∙ sym c.naming.ensures ∙ c.in-Some.is in
    let line = c.in-Some-judgement.told in
    let judged : judgement_in one.told.entry ≡ Some line = sym c.judgement.ensures ∙ c.in-Some-judgement.is in
    let edition = c.in-Some-edition_numbered.edition.now in
    let numbered : edition_numbered told.editions line.edition ≡ Some edition = ap (λ xs. edition_numbered (map arc_value xs) line.edition) (sym c.deref.ensures.value) ∙ sym c.in-Some-edition_numbered.ensures in
    let asked = c.in-Some-2.asked.items in
    let own : asked ≡ map asked_of (asks_of_record c.args.name.at (asks_told told c.args.name.lane)) = if_some _ _ c.in-Some-2.asked c.in-Some-2.is c.in_ok-asked.ensures.asked in
    let timely : AreTimely (asks_told told c.args.name.lane) c.args.name.at line.edition = on_some _ _ c.in-Some-2.asked c.in-Some-2.is c.in_ok-asked.ensures.timely in
    let comes : ComesTo (question_under edition c.args.packet.now c.args.port.now c.args.second) asked c.in-Some-3.judgement =
    subst (λ (xs : List (Op × Reply)). ComesTo (question_under edition c.args.packet.now c.args.port.now c.args.second) xs c.in-Some-3.judgement) c.deref-2.ensures.value
    (if_some (ComesTo (question_under edition c.args.packet.now c.args.port.now c.args.second) c.deref-2.result.now) _ c.in-Some-3.judgement c.in-Some-3.is c.in_ok-judgement.ensures.judged) in
    let printed_so : one.told.entry ≡ printed (judged_entry c.in-Some-3.judgement) = c.is_told_as.ensures.same c.if-is_told_as.true ∙ ap printed c.judged-entry.ensures in
    let so = packet_told told c.args.name.lane c.args.name.at c.args.packet.now c.args.port.now c.args.second one edition asked c.in-Some-3.judgement line named judged numbered own timely comes printed_so in
    subst (λ (e : DocketEntry). IsToldSo c.args.self.now c.args.name.lane c.args.name.at (Packet c.args.packet.now c.args.port.now c.args.second) e) (sym c.judged-entry.ensures)
    (subst (λ (t : ToldValue). IsToldSo t c.args.name.lane c.args.name.at (Packet c.args.packet.now c.args.port.now c.args.second) (judged_entry c.in-Some-3.judgement)) c.self.view_is so)

pub returns-then-is_told_as-clause-counted : goal.returns-then-is_told_as-clause-counted
returns-then-is_told_as-clause-counted c = λ hits tallied.
    let told : ToldValue = record { editions = map arc_value c.self.inside.editions.items; journal = c.self.inside.asks; records = c.self.inside.records; lanes = c.self.inside.lanes; ask_lines = c.self.inside.ask_lines.items; lines = c.self.inside.lines } in
    let one = c.in-Some.one in
    let line = c.in-Some-judgement.told in
    let judged : judgement_in one.told.entry ≡ Some line = sym c.judgement.ensures ∙ c.in-Some-judgement.is in
    let edition = c.in-Some-edition_numbered.edition.now in
    let numbered : edition_numbered told.editions line.edition ≡ Some edition = ap (λ xs. edition_numbered (map arc_value xs) line.edition) (sym c.deref.ensures.value) ∙ sym c.in-Some-edition_numbered.ensures in
    let asked = c.in-Some-2.asked.items in
    let own : asked ≡ map asked_of (asks_of_record c.args.name.at (asks_told told c.args.name.lane)) = if_some _ _ c.in-Some-2.asked c.in-Some-2.is c.in_ok-asked.ensures.asked in
    let printed_so : one.told.entry ≡ printed (judged_entry c.in-Some-3.judgement) = c.is_told_as.ensures.same c.if-is_told_as.true ∙ ap printed c.judged-entry.ensures in
    let same : c.in-Some-3.judgement.edition ≡ line.edition = same_edition one.told.entry (judged_entry c.in-Some-3.judgement) line c.in-Some-3.judgement printed_so judged (judgement_in-judged c.in-Some-3.judgement) in
    let found : edition_numbered told.editions c.in-Some-3.judgement.edition ≡ Some edition = ap (edition_numbered told.editions) same ∙ numbered in
    let rises : RisesBy (total_of c.args.packet.now) (evaluate (question_under edition c.args.packet.now c.args.port.now c.args.second) (replies_told asked)).hits c.args.tally.now c.judged_under.new.tally =
    subst (λ (xs : List (Op × Reply)). RisesBy (total_of c.args.packet.now) (evaluate (question_under edition c.args.packet.now c.args.port.now c.args.second) (replies_told xs)).hits c.args.tally.now c.judged_under.new.tally) c.deref-2.ensures.value
    (on_some _ _ c.in-Some-3.judgement c.in-Some-3.is c.in_ok-judgement.ensures.counted) in
    let counted = tallied_told edition c.args.packet.now c.args.port.now c.args.second (asks_of_record c.args.name.at (asks_told told c.args.name.lane)) asked own told.editions c.args.name.at (asks_told told c.args.name.lane)
    c.in-Some-3.judgement c.args.tally.now c.judged_under.new.tally hits refl found rises tallied in
    subst (λ (e : DocketEntry). IsTallyOf (hits ++ record_hits c.args.self.now.editions (asks_told c.args.self.now c.args.name.lane) c.args.name.at (Packet c.args.packet.now c.args.port.now c.args.second) e) c.judged_under.new.tally) (sym c.judged-entry.ensures)
    (subst (λ (t : ToldValue). IsTallyOf (hits ++ record_hits t.editions (asks_told t c.args.name.lane) c.args.name.at (Packet c.args.packet.now c.args.port.now c.args.second) (judged_entry c.in-Some-3.judgement)) c.judged_under.new.tally) c.self.view_is counted)
