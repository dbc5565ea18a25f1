use Rattle.std.proofs.Common.{◌≡◌, ℕ, ◌≤◌, List, ap, sym, subst, arith}
use Rattle.state_asks.specs.declared.facts.Facts.{Facts}
use Rattle.dyn_states.specs.StateObject.{reply_of}
use Rattle.state_journal.specs.Journal.{Journal, NamesRuleOf, IsFoundOf, last_rules}
use Rattle.state_journal.proofs.Growing.{IsJournal-ask, IsFoundOf-ask}
use Rattle.state_journal.proofs.book.Book.ask.Goals as goal

pub invariant_of-self-2 : goal.invariant_of-self-2
invariant_of-self-2 c =
    let facts : c.args.self.now.facts ≡ c.self.inside.facts.items = sym (ap (λ (j : Journal). j.facts) c.self.view_is) in
    let lanes : c.args.self.now.lanes ≡ c.self.inside.lanes = sym (ap (λ (j : Journal). j.lanes) c.self.view_is) in
    let within = subst (λ (n : ℕ). c.args.lane ≤ n) lanes c.requires.lane.1 in
    let names = subst (λ (all : List Facts). NamesRuleOf (last_rules all) c.args.op.now) facts c.requires.rule in (
      rw (c.push_reserved.ensures.items, c.in_ok-reserve.ensures.items, c.step-reply.ensures.after, c.step-reply.ensures.reply)
          (IsJournal-ask _ c.args.lane c.args.at c.args.op.now c.self.invariant.0 names c.requires.lane.0 within c.requires.flags),
      omega (arith, c.step-reply.ensures.room, c.self.invariant.1),
      λ ready. (
        (c.self.invariant.2 ready).0,
        omega (arith, c.in_ok-reserve.ensures.ok, c.push_reserved.ensures.len, c.push_reserved.ensures.capacity),
      ),
      c.self.invariant.3,
    )

pub returns-clause-found : goal.returns-clause-found
returns-clause-found c =
    let facts : c.self.inside.facts.items ≡ c.args.self.now.facts = ap (λ (j : Journal). j.facts) c.self.view_is in
    rw c.step-reply.ensures.reply
    (subst (λ (all : List Facts). IsFoundOf (last_rules all) (reply_of c.self.inside.states.object c.args.op.now)) facts (IsFoundOf-ask _ c.args.op.now c.self.invariant.0))
