use Rattle.std.proofs.Common.{◌≡◌, ◌<◌, length, ◌+◌, ◌-◌, ◌^◌}
use Rattle.eval_engine.specs.Question.{question_under}
use Rattle.fw_world.proofs.Running.{IsReached}
use Rattle.fw_world.proofs.lane_work.LaneWork.evaluate.Given as goal

abbrev pub invariant-loop-judged : goal.invariant-loop-judged
invariant-loop-judged g l = record {
  serves : g.B.AsksBook.serves l.book l.lane;
  same : g.B.AsksBook.edition l.book ≡ g.B.AsksBook.edition l.fn.book;
  fitted : (g.B.AsksBook.edition l.fn.book).config.greatest_counter < length l.tally;
  reached : IsReached (λ old op reply new. g.B.AsksBook.enters old l.lane (length l.fn.self.docket.entries + 1) op reply new) l.fn.book l.book
      (question_under (g.B.AsksBook.edition l.fn.book) l.packet l.port l.second) l.fn.self.tally l.tally l.judged l.paused;
}

abbrev pub decreases-loop-judged : goal.decreases-loop-judged
decreases-loop-judged g l = 2 ^ 64 - g.B.AsksBook.entered l.book
