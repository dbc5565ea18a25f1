-- Replies that a line tells alike are one but for the number of a rule.
use Rattle.std.proofs.Common.{◌≡◌, ℕ, zero, suc, ◌==◌, true, refl, sym, ap, ◌∙◌}
use Rattle.std.proofs.lemmas.Bool.{and_parts, eqb-true}
use Rattle.state_asks.specs.declared.reply.Reply.{Reply}
use Rattle.state_asks.specs.declared.reply.Reply.TheVariants.{Found, NotFound, Created, Exists, LimitReached, TableFull}
use Rattle.state_asks.specs.declared.reply.Way.TheVariants.{Forward, Reverse}
use Rattle.report_reading.specs.AskLines.{printed_reply}
use Rattle.run_audit.specs.ToldAsks.{reply_mark, are_told_alike}
use Rattle.report_reading.proofs.Words.{same_number}

-- the reply of this mark
reply_marked : ℕ → ℕ → Reply
reply_marked zero number = Found Forward (record { id = number; number = 0 })
reply_marked (suc zero) number = Found Reverse (record { id = number; number = 0 })
reply_marked (suc (suc zero)) number = NotFound
reply_marked (suc (suc (suc zero))) number = Created
reply_marked (suc (suc (suc (suc zero)))) number = Exists
reply_marked (suc (suc (suc (suc (suc zero))))) number = LimitReached number
reply_marked (suc (suc (suc (suc (suc (suc kind)))))) number = TableFull number

marked_again : (reply : Reply) → printed_reply reply ≡ reply_marked (reply_mark reply).0 (reply_mark reply).1
unfolding reply_marked
marked_again (Found Forward rule) = refl
marked_again (Found Reverse rule) = refl
marked_again NotFound = refl
marked_again Created = refl
marked_again Exists = refl
marked_again (LimitReached count) = refl
marked_again (TableFull count) = refl

mark_kept : (reply : Reply) → reply_mark (printed_reply reply) ≡ reply_mark reply
mark_kept (Found Forward rule) = refl
mark_kept (Found Reverse rule) = refl
mark_kept NotFound = refl
mark_kept Created = refl
mark_kept Exists = refl
mark_kept (LimitReached count) = refl
mark_kept (TableFull count) = refl

-- two replies of one mark print alike
pub alike_told : (reply told : Reply) → are_told_alike reply told ≡ true → printed_reply reply ≡ printed_reply told
alike_told reply told is =
    let (kinds, numbers) = and_parts ((reply_mark reply).0 == (reply_mark told).0) ((reply_mark reply).1 == (reply_mark told).1) is in
    let kind : (reply_mark told).0 ≡ (reply_mark reply).0 = sym (eqb-true _ _ kinds) in
    let number : (reply_mark told).1 ≡ (reply_mark reply).1 = sym (eqb-true _ _ numbers) in
    marked_again reply ∙ sym (marked_again told ∙ ap (λ k. reply_marked k (reply_mark told).1) kind ∙ ap (λ n. reply_marked (reply_mark reply).0 n) number)

-- two replies that print alike have one mark
pub told_alike : (reply told : Reply) → printed_reply reply ≡ printed_reply told → are_told_alike reply told ≡ true
told_alike reply told is =
    let same : reply_mark reply ≡ reply_mark told = sym (mark_kept reply) ∙ ap (λ (r : Reply). reply_mark r) is ∙ mark_kept told in
    let kind : (reply_mark reply).0 ≡ (reply_mark told).0 = ap (λ (m : ℕ × ℕ). m.0) same in
    let number : (reply_mark reply).1 ≡ (reply_mark told).1 = ap (λ (m : ℕ × ℕ). m.1) same in
    rw (kind, number, same_number (reply_mark told).0, same_number (reply_mark told).1) refl
