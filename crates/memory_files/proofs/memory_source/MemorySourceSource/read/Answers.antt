use Rattle.std.proofs.Common.{drop, ap, sym, arith}
use Rattle.memory_files.specs.Memory.{MemoryBytes}
use Rattle.fw_base.proofs.Parts.{front_then_rest, nothing_left}
use Rattle.memory_files.proofs.memory_source.MemorySourceSource.read.Goals as goal

pub returns-clause-bytes : goal.returns-clause-bytes
returns-clause-bytes c =
    let left = sym (ap (λ (m : MemoryBytes). m.left) c.self.view_is) in
    let bytes = c.self.inside.bytes.items in
    let taken = c.self.inside.taken in
    let n = c.in-Some.count in (
      rw (c.copy_front.ensures, c.rest.ensures) (front_then_rest bytes c.args.self.now.left (drop n c.args.buf.now) taken n left c.in-Some.ensures.within.1),
      λ none room. nothing_left bytes c.args.self.now.left taken n left none (c.in-Some.ensures.end none (omega arith)),
    )
