use Rattle.std.proofs.Common.{◌≡◌, ℕ, ◌-◌, ◌<◌, List, ◌++◌, Ok, length, sym, ap, ◌∙◌, subst, arith}
use Rattle.eval_engine.specs.declared.docket_entry.DocketEntry.{DocketEntry}
use Rattle.fw_world.specs.Inputs.{Input, Packet}
use Rattle.fw_world.specs.Tallies.{Hit, IsTallyOf, record_hits}
use Rattle.run_audit.specs.Judging.{IsToldSo, asks_told, line_naming, number_or_last}
use Rattle.run_audit.proofs.JudgingSteps.{enters, fails}
use Rattle.run_audit.proofs.ToldEntries.{if_some}
use Rattle.run_audit.proofs.judging.Judging.judge.Goals as goal

pub returns-in_ok-enter_at-in-Some-clause-entered : goal.returns-in_ok-enter_at-in-Some-clause-entered
returns-in_ok-enter_at-in-Some-clause-entered c =
    let told = c.args.told.now in
    let input : Input = Packet c.args.packet.now c.args.port.now c.args.second in
    let number : ℕ = c.next_name-name.result.at in
    let place : ℕ = c.from-place.result - 1 in
    let placed : place ≡ c.args.lane - 1 = ap (λ (n : ℕ). n - 1) c.from-place.ensures in
    let within : place < length c.args.self.now.dockets.items = omega (arith, placed, c.requires.first, c.requires.last) in
    let paired : place < length c.args.self.now.tallies.items = omega (arith, within, c.requires.paired) in
    let lane = c.next_name-name.ensures.lane in
    let so : IsToldSo told c.args.lane number input c.in-Some.entry =
    subst (λ (n : ℕ). IsToldSo told n number input c.in-Some.entry) lane (if_some (IsToldSo told c.next_name-name.result.lane number input) _ c.in-Some.entry c.in-Some.is c.in_ok-entry.ensures.told) in
    let counted : (hits : List Hit) → IsTallyOf hits c.index_mut.result.now → IsTallyOf (hits ++ record_hits told.editions (asks_told told c.args.lane) number input c.in-Some.entry) c.judge.new.tally =
    subst (λ (n : ℕ). (hits : List Hit) → IsTallyOf hits c.index_mut.result.now → IsTallyOf (hits ++ record_hits told.editions (asks_told told n) number input c.in-Some.entry) c.judge.new.tally) lane
    (if_some (λ (entry : DocketEntry). (hits : List Hit) → IsTallyOf hits c.index_mut.result.now → IsTallyOf (hits ++ record_hits told.editions (asks_told told c.next_name-name.result.lane) number input entry) c.judge.new.tally)
    _ c.in-Some.entry c.in-Some.is c.in_ok-entry.ensures.counted) in
    enters told c.args.lane input c.args.self.now.dockets.items c.args.self.now.tallies.items number place placed within c.next_name-name.ensures.at
    c.enter_at.new.dockets.items c.index_mut.result.now c.judge.new.tally c.in-Some.entry paired c.index_mut.ensures.value so counted c.in_ok-enter_at-in-Some.ensures.entered

pub returns-in-None-clause-wrong : goal.returns-in-None-clause-wrong
returns-in-None-clause-wrong c =
    let told = c.args.told.now in
    let input : Input = Packet c.args.packet.now c.args.port.now c.args.second in
    let number : ℕ = c.next_name-name.result.at in
    let place : ℕ = c.from-place.result - 1 in
    let placed : place ≡ c.args.lane - 1 = ap (λ (n : ℕ). n - 1) c.from-place.ensures in
    let within : place < length c.args.self.now.dockets.items = omega (arith, placed, c.requires.first, c.requires.last) in
    let lane = c.next_name-name.ensures.lane in
    let none = c.judge.ensures.untold (c.in_ok-entry.was ∙ ap Ok c.in-None.is) in
    fails told c.args.lane input c.args.self.now.dockets.items c.args.self.now.tallies.items number place placed within c.next_name-name.ensures.at c.args.self.now.tallies.items c.line_of.result
    (λ (entry : DocketEntry) (so : IsToldSo told c.args.lane number input entry). none entry (subst (λ (n : ℕ). IsToldSo told n number input entry) (sym lane) so))
    (c.line_of.ensures ∙ ap (λ (n : ℕ). number_or_last told (line_naming told n number)) lane)
