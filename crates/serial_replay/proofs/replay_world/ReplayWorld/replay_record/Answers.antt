use Rattle.std.proofs.Common.{Ok, refl, sym, ap, ◌∙◌}
use Rattle.std.proofs.lemmas.Option.{slice_get_read}
use Rattle.eval_engine.specs.declared.docket_entry.DocketEntry.TheVariants as entry
use Rattle.fw_world.specs.Inputs as input
use Rattle.capture_tracks.specs.Reading.{input_for}
use Rattle.serial_world.proofs.Admitted.{judged-admitted, lane-admitted, room-admitted, port-admitted, stands-admitted}
use Rattle.serial_replay.proofs.Lines.{ok-two}
use Rattle.serial_replay.proofs.Records.{lane-lent, clean-lent, replays-judged, replays-entered}
use Rattle.serial_replay.proofs.replay_world.ReplayWorld.replay_record.Goals as goal

pub judge-requires-clause-of_world : goal.judge-requires-clause-of_world
judge-requires-clause-of_world c = lane-lent c.args.self.now c.args.capture c.index_mut-lane.result.now c.requires.sound c.requires.within c.index_mut-lane.ensures.value

pub judge-requires-clause-heeded : goal.judge-requires-clause-heeded
judge-requires-clause-heeded c = (clean-lent c.args.self.now c.args.capture c.index_mut-lane.result.now c.requires.sound c.requires.within c.index_mut-lane.ensures.value).0

pub judge-requires-clause-port : goal.judge-requires-clause-port
judge-requires-clause-port c = c.requires.port c.index_mut-lane.result.now (slice_get_read c.args.self.now.lanes.items _ c.args.capture c.index_mut-lane.result.now refl c.requires.within c.index_mut-lane.ensures.value)

pub returns-in_ok-_judgement-in-Ip : goal.returns-in_ok-_judgement-in-Ip
returns-in_ok-_judgement-in-Ip c =
    let made = c.in_ok-_judgement-in-Ip.ensures in
    replays-judged c.args.capture _ c.in-Ip.packet c.args.port.now c.args.taken.second c.args.self.now _ c.index_mut-lane.result.now c.judge.new.lane c.in_ok-_judgement-in-Ip._judgement
    (ap (input_for c.args.port.now c.args.taken.second) (sym c.in-Ip.is ∙ c.read_any.ensures)) c.requires.within c.index_mut-lane.ensures.value refl refl refl (judged-admitted c.args.self.now.world c.judge.new.self c.index_mut-lane.result.now c.judge.new.lane c.in-Ip.packet c.args.port.now c.args.taken.second (Ok c.in_ok-_judgement-in-Ip._judgement) made.next) (lane-admitted c.args.self.now.world c.judge.new.self c.index_mut-lane.result.now c.judge.new.lane c.in-Ip.packet c.args.port.now c.args.taken.second (Ok c.in_ok-_judgement-in-Ip._judgement) made.next) (room-admitted c.args.self.now.world c.judge.new.self c.index_mut-lane.result.now c.judge.new.lane c.in-Ip.packet c.args.port.now c.args.taken.second (Ok c.in_ok-_judgement-in-Ip._judgement) made.next) (port-admitted c.args.self.now.world c.judge.new.self c.index_mut-lane.result.now c.judge.new.lane c.in-Ip.packet c.args.port.now c.args.taken.second (Ok c.in_ok-_judgement-in-Ip._judgement) made.next) (stands-admitted c.args.self.now.world c.judge.new.self c.index_mut-lane.result.now c.judge.new.lane c.in-Ip.packet c.args.port.now c.args.taken.second (Ok c.in_ok-_judgement-in-Ip._judgement) made.next) made.of_world made.next.1.asks

pub returns-in-Other : goal.returns-in-Other
returns-in-Other c =
    let h = c.pass_over.ensures in
    let of = lane-lent c.args.self.now c.args.capture c.index_mut-lane.result.now c.requires.sound c.requires.within c.index_mut-lane.ensures.value in
    ok-two _ _ _ _ (λ entered stands. replays-entered c.args.capture c.args.port.now _ entry.Other c.args.self.now _ c.index_mut-lane.result.now c.pass_over.new.lane input.Other
    (ap (input_for c.args.port.now c.args.taken.second) (sym c.in-Other.is ∙ c.read_any.ensures)) (λ e. e) c.requires.within c.index_mut-lane.ensures.value refl refl refl h.world entered stands (h.entered.of_world of)) h.entered.lane h.entered.stands

pub returns-in-Malformed : goal.returns-in-Malformed
returns-in-Malformed c =
    let h = c.pass_over-in-Malformed.ensures in
    let of = lane-lent c.args.self.now c.args.capture c.index_mut-lane.result.now c.requires.sound c.requires.within c.index_mut-lane.ensures.value in
    ok-two _ _ _ _ (λ entered stands. replays-entered c.args.capture c.args.port.now _ (entry.Malformed c.in-Malformed.kind) c.args.self.now _ c.index_mut-lane.result.now c.pass_over-in-Malformed.new.lane (input.Malformed c.in-Malformed.kind)
    (ap (input_for c.args.port.now c.args.taken.second) (sym c.in-Malformed.is ∙ c.read_any.ensures)) (λ e. e) c.requires.within c.index_mut-lane.ensures.value refl refl refl h.world entered stands (h.entered.of_world of)) h.entered.lane h.entered.stands
