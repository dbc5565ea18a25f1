use Rattle.std.proofs.Common.{ℕ, List, ◌++◌, sym, subst}
use Rattle.run_audit.specs.Meeting.{IsMet}
use Rattle.run_audit.proofs.comparer.ComparerSink.write.Goals as goal

pub invariant_of-self : goal.invariant_of-self
invariant_of-self c =
    let text = c.deref.ensures.value in
    let was = subst (λ (t : List ℕ). IsMet t c.self.inside.written.value c.self.inside.met c.self.inside.other) (sym text) c.self.invariant in
    let told = c.met_behind-met.ensures c.self.inside.written.value was in
    let written = c.with_bytes.ensures in
    let old = c.replace-written.ensures.value in
    rw (written, old) (subst (λ (t : List ℕ). IsMet t (c.self.inside.written.value ++ c.args.bytes.now) c.met_behind-met.result.0 c.met_behind-met.result.1) text told)
