use Rattle.std.proofs.Common.{◌≡◌, ◌≤◌, length, refl, ap, ◌∙◌, arith}
use Rattle.std.proofs.lemmas.Result.{IfOk-weaker}
use Rattle.capture_tracks.specs.Replay.{limit_for}
use Rattle.serial_replay.proofs.Whole.{starts-ready, comes-to}
use Rattle.serial_replay.proofs.replay.replay_serial.Goals as goal

pub run_all-requires : goal.run_all-requires
run_all-requires g c =
    let counted : c.len-count.result ≡ length c.args.captures.items = c.len-count.ensures ∙ c.args.captures.ok.0 in
    starts-ready g.S.Source.left g.S.Source.faults c.args.config c.args.steps.now c.args.cache c.limit_for-limit.result c.args.captures.items _ (record {
      count = c.len-count.result;
      opened = c.in_ok-world.ensures.world;
      lanes = c.in_ok-world.ensures.lanes;
      desk = c.in_ok-world.ensures.desk;
      answers = c.new.ensures.items;
      tracks = c.in_ok-tracks.ensures;
      agenda = c.new-2.ensures;
      taken = refl;
      counted = counted;
      few = (omega (arith, c.len-count.ensures, c.requires.few), c.limit_for-limit.ensures.most);
      formed = c.requires.steps;
    })

pub returns : goal.returns
returns g c =
    let counted : c.len-count.result ≡ length c.args.captures.items = c.len-count.ensures ∙ c.args.captures.ok.0 in
    let within : c.len-count.result ≤ 16 = omega (arith, c.len-count.ensures, c.requires.few) in
    IfOk-weaker _ _ _ (λ r closed. comes-to g.S.Source.left g.S.Source.faults c.args.config c.args.steps.now c.args.cache c.limit_for-limit.result c.args.captures.items _ c.run_all.new.self r (c.limit_for-limit.ensures.exact ∙ ap limit_for counted) (record {
      count = c.len-count.result;
      opened = c.in_ok-world.ensures.world;
      lanes = c.in_ok-world.ensures.lanes;
      desk = c.in_ok-world.ensures.desk;
      answers = c.new.ensures.items;
      tracks = c.in_ok-tracks.ensures;
      agenda = c.new-2.ensures;
      taken = refl;
      counted = counted;
      few = (within, c.limit_for-limit.ensures.most);
      formed = c.requires.steps;
    }) c.in_ok-run_all.ensures closed) c.close.ensures
