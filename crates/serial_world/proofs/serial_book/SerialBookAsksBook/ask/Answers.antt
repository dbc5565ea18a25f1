use Rattle.std.proofs.Common.{◌≡◌, ℕ, ◌+◌, ◌≤◌, true, length, sym, subst}
use Rattle.std.specs.Prelude.{IfOk, OnOk}
use Rattle.eval_engine.specs.Standing.{InstallsRuleOf, is_reply_to}
use Rattle.state_journal.specs.Journal.{with_ask}
use Rattle.fw_world.proofs.Replies.{names_rule}
use Rattle.fw_world.specs.World.{WorldValue}
use Rattle.serial_world.specs.LastEdition.{last_published}
use Rattle.serial_world.proofs.BookAsks.{world_of, same_rules, IsWorld-after_ask, fits_after, enters_after, counted_after, same_after, serves_after}
use Rattle.serial_world.proofs.serial_book.SerialBookAsksBook.ask.Goals as goal

pub ask-requires-clause-rule : goal.ask-requires-clause-rule
ask-requires-clause-rule c =
    let installs = subst (λ (w : WorldValue). InstallsRuleOf (last_published w.editions).config.rules c.args.op.now) (sym c.self.view_is) c.requires.rule in
    names_rule _ _ c.args.op.now (same_rules (record { editions = c.self.inside.store.editions; journal = c.self.inside.book }) c.self.invariant) installs

pub invariant_of-self : goal.invariant_of-self
invariant_of-self c = IsWorld-after_ask c.ask.result c.self.inside.store.editions c.self.inside.book c.ask.new.self c.args.lane c.args.at c.args.op.now c.self.invariant c.ask.ensures.entered c.ask.ensures.unchanged

pub returns-clause-entered : goal.returns-clause-entered
returns-clause-entered c =
    subst (λ (w : WorldValue). IfOk c.ask.result (λ reply. world_of c.self.inside.store.editions c.ask.new.self ≡ record w { journal = with_ask w.journal c.args.lane c.args.at c.args.op.now reply })) c.self.view_is
    (enters_after c.ask.result c.self.inside.store.editions c.self.inside.book c.ask.new.self c.args.lane c.args.at c.args.op.now c.ask.ensures.entered)

pub returns-clause-counted : goal.returns-clause-counted
returns-clause-counted c =
    subst (λ (w : WorldValue). OnOk c.ask.result (length c.ask.new.self.entries ≡ length w.journal.entries + 1)) c.self.view_is
    (counted_after c.ask.result c.self.inside.book c.ask.new.self c.args.lane c.args.at c.args.op.now c.ask.ensures.entered)

pub returns-clause-fits : goal.returns-clause-fits
returns-clause-fits c =
    subst (λ (w : WorldValue). IfOk c.ask.result (λ reply. is_reply_to (last_published w.editions).config.rules c.args.op.now reply ≡ true)) c.self.view_is
    (fits_after c.ask.result c.self.inside.store.editions c.self.inside.book c.args.op.now c.self.invariant c.ask.ensures.reply c.ask.ensures.found)

pub returns-clause-same : goal.returns-clause-same
returns-clause-same c =
    subst (λ (w : WorldValue). OnOk c.ask.result (last_published c.self.inside.store.editions ≡ last_published w.editions)) c.self.view_is (same_after c.ask.result c.self.inside.store.editions)

pub returns-clause-lanes : goal.returns-clause-lanes
returns-clause-lanes c =
    subst (λ (w : WorldValue). OnOk c.ask.result ((k : ℕ) → (1 ≤ k) × (k ≤ w.journal.lanes) → (1 ≤ k) × (k ≤ c.ask.new.self.lanes))) c.self.view_is
    (serves_after c.ask.result c.self.inside.book c.ask.new.self c.args.lane c.args.at c.args.op.now c.ask.ensures.entered)
