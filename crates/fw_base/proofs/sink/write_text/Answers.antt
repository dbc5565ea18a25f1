use Rattle.std.proofs.lemmas.List.{take_rest}
use Rattle.fw_base.proofs.Texts.{goes_on}
use Rattle.fw_base.proofs.sink.write_text.Goals as goal

pub loop-rest-preserved : goal.loop-rest-preserved
loop-rest-preserved g c =
    rw (take_rest c.loop-rest.rest.now c.in_ok-count.count)
    (goes_on _ _ _ _ _ _ c.loop-rest.invariant c.in_ok-count.ensures.bytes c.write.ensures.made c.write.ensures.cause.later)
