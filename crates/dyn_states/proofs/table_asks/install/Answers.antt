use Rattle.std.proofs.Common.{◌≡◌, ◌∷◌, ◌++◌, [], ap, sym, ◌∙◌, List, length, false, refl, arith, cond}
use Rattle.fw_rule.specs.Values.{values_of}
use Rattle.state_asks.specs.declared.reply.Reply.{Reply}
use Rattle.state_asks.specs.declared.reply.Reply.TheVariants.{Found, NotFound, Created, Exists, LimitReached, TableFull}
use Rattle.dyn_states.specs.declared.state.State.{State}
use Rattle.dyn_states.specs.Slots.{held_states}
use Rattle.dyn_states.specs.StateObject.{StateObject, install_reply, after_install, limit_count, is_created, new_state}
use Rattle.dyn_states.specs.StateTable.{states_of, slots_of, object_of}
use Rattle.dyn_states.proofs.SlotLaws.{held_states-push}
use Rattle.dyn_states.proofs.table_asks.install.Goals as goal

-- whatever isn't `Created` makes no state
not_created : (r : Reply) → (r ≡ Created → ⊥) → is_created r ≡ false
not_created (Found way rule) other = refl
not_created NotFound other = refl
not_created Created other = absurd (other refl)
not_created Exists other = refl
not_created (LimitReached count) other = refl
not_created (TableFull count) other = refl

pub returns-in-Created-clause-reply : goal.returns-in-Created-clause-reply
unfolding install_reply limit_count
returns-in-Created-clause-reply c =
    c.install_answer-reply.ensures.reply
    ∙ ap (λ (states : List State). install_reply (record { states = states; clock = 0; settings = values_of c.args.settings.now }) c.args.flow.now c.args.rule c.args.limit c.args.name) (c.make_room.ensures.states ∙ c.count_limits.ensures.states)

pub returns-in-Created-clause-after : goal.returns-in-Created-clause-after
unfolding after_install install_reply limit_count
returns-in-Created-clause-after c =
    let o : StateObject = object_of c.args.table.now c.args.clock (values_of c.args.settings.now) in
    let reply : c.install_answer-reply.result ≡ install_reply o c.args.flow.now c.args.rule c.args.limit c.args.name =
    c.install_answer-reply.ensures.reply
    ∙ ap (λ (states : List State). install_reply (record { states = states; clock = 0; settings = values_of c.args.settings.now }) c.args.flow.now c.args.rule c.args.limit c.args.name) (c.make_room.ensures.states ∙ c.count_limits.ensures.states) in
    let created : install_reply o c.args.flow.now c.args.rule c.args.limit c.args.name ≡ Created = sym reply ∙ c.in-Created.is in
    let states : states_of c.hold.new.self ≡ states_of c.args.table.now ++ new_state o c.args.flow.now c.args.flags c.args.rule c.args.limit c.args.name ∷ [] =
    ap (λ (xs : List State). held_states xs) c.hold.ensures.slots
    ∙ (held_states-push (slots_of c.make_room.new.self) c.new_state.result c.new_state.ensures.held
    ∙ (ap (λ (xs : List State). xs ++ c.new_state.result ∷ []) (c.make_room.ensures.states ∙ c.count_limits.ensures.states)
    ∙ ap (λ (s : State). states_of c.args.table.now ++ s ∷ []) (c.new_state.ensures.value (states_of c.args.table.now)))) in
    kept_or _ o _ (install_reply o c.args.flow.now c.args.rule c.args.limit c.args.name) created
    (ap (λ (xs : List State). let p : StateObject = record o { states = xs } in p) states)
  where
    kept_or : (before after grown : StateObject) (r : Reply) → r ≡ Created → before ≡ grown → before ≡ cond (is_created r) grown after
    kept_or before after grown r is e = rw is e

pub returns-in_default : goal.returns-in_default
unfolding after_install install_reply limit_count
returns-in_default c =
    let o : StateObject = object_of c.args.table.now c.args.clock (values_of c.args.settings.now) in
    let reply : c.install_answer-reply.result ≡ install_reply o c.args.flow.now c.args.rule c.args.limit c.args.name =
    c.install_answer-reply.ensures.reply
    ∙ ap (λ (states : List State). install_reply (record { states = states; clock = 0; settings = values_of c.args.settings.now }) c.args.flow.now c.args.rule c.args.limit c.args.name) (c.make_room.ensures.states ∙ c.count_limits.ensures.states) in
    let long = ap (λ (xs : List State). length xs) (c.make_room.ensures.states ∙ c.count_limits.ensures.states) in
    record {
      reply = reply;
      after = kept _ _ (record o { states = o.states ++ new_state o c.args.flow.now c.args.flags c.args.rule c.args.limit c.args.name ∷ [] }) (install_reply o c.args.flow.now c.args.rule c.args.limit c.args.name) (not_created _ (λ e. c.in_default.not-Created (reply ∙ e))) (ap (λ (xs : List State). let p : StateObject = record o { states = xs } in p) (c.make_room.ensures.states ∙ c.count_limits.ensures.states));
      table = c.make_room.ensures.table;
      most = c.make_room.ensures.most ∙ c.count_limits.ensures.most;
      count = let h = c.requires.held in let m = c.make_room.ensures.most in let n = c.count_limits.ensures.most in let k = ap (λ (xs : List State). length xs) c.count_limits.ensures.states in omega arith;
    }
  where
    kept : (before after grown : StateObject) (r : Reply) → is_created r ≡ false → before ≡ after → before ≡ cond (is_created r) grown after
    kept before after grown r is e = rw is e
