use Rattle.std.proofs.Common.{◌≡◌, ◌∷◌, [], ◌++◌, true, false, List, map, ap, ◌∙◌, sym, arith}
use Rattle.std.proofs.lemmas.Iterator.Adapters.{YieldsList-from_vec}
use Rattle.std.proofs.lemmas.Iterator.Consumers.{YieldsList-turn, YieldsList-so_far}
use Rattle.std.proofs.lemmas.List.{map-append}
use Rattle.std.specs.Arc.{arc_value}
use Rattle.fw_rule.specs.declared.rule.Rule.{Rule}
use Rattle.rule_edits.specs.Rules as lists
use Rattle.rule_edits.proofs.Lists.{count_next}
use Rattle.rule_edits.proofs.Renumbered.{count_fresh, count_same, fresh, same}
use Rattle.rule_edits.proofs.zero.renumber.Goals as goal

pub overflow_add-next : goal.overflow_add-next
overflow_add-next c =
    let passes : lists.is_zeroed c.args.numbers.now (arc_value c.in-Some.rule) ≡ true = cc in
    let gives = c.into_iter-rule-iterator.ensures.into_iter_gives in
    let list = YieldsList-from_vec c.args.rules.items gives.0 (gives.1 ∙ c.args.rules.ok.0) in
    let turn = YieldsList-turn list c.loop-rule.yielded c.loop-rule.rule-iterator c.loop-rule.yielded_by c.next.result c.next.new.self c.in-Some.rule c.in-Some.is c.next.ensures.steps in
    let so_far = YieldsList-so_far list c.loop-rule.yielded c.loop-rule.rule-iterator c.loop-rule.yielded_by in
    let given = c.loop-rule.invariant.given in
    let more = count_next (lists.is_zeroed c.args.numbers.now) arc_value c.args.rules.items c.loop-rule.yielded c.in-Some.rule so_far turn.0 turn.1 passes in
    omega arith

pub loop-rule-preserved-in_ok-push : goal.loop-rule-preserved-in_ok-push
loop-rule-preserved-in_ok-push c =
    let passes : lists.is_zeroed c.args.numbers.now (arc_value c.in-Some.rule) ≡ true = cc in
    let given = c.loop-rule.invariant.given in
    let counted = count_fresh (lists.is_zeroed c.args.numbers.now) arc_value c.loop-rule.yielded c.in-Some.rule passes in
    let pushed = c.in_ok-push.ensures.items in
    let made = c.in_ok-new.ensures.ok ∙ ap (λ (r : Rule). record r { counter = c.loop-rule.next }) c.in_ok-fresh.ensures in
    record {
      given = omega arith;
      same = ap (map arc_value) pushed ∙ map-append arc_value c.loop-rule.renumbered.items (c.in_ok-new.field-0 ∷ [])
          ∙ ap (λ (l : List Rule). l ++ arc_value c.in_ok-new.field-0 ∷ []) c.loop-rule.invariant.same
          ∙ ap (λ (r : Rule). lists.renumber (lists.is_zeroed c.args.numbers.now) c.args.first (map arc_value c.loop-rule.yielded) ++ r ∷ []) made
          ∙ sym (fresh (lists.is_zeroed c.args.numbers.now) arc_value c.args.first c.loop-rule.next c.loop-rule.yielded c.in-Some.rule passes given);
    }

pub loop-rule-preserved : goal.loop-rule-preserved
loop-rule-preserved c =
    let fails : lists.is_zeroed c.args.numbers.now (arc_value c.in-Some.rule) ≡ false = cc in
    let given = c.loop-rule.invariant.given in
    let counted = count_same (lists.is_zeroed c.args.numbers.now) arc_value c.loop-rule.yielded c.in-Some.rule fails in
    let pushed = c.in_ok-push-2.ensures.items in
    record {
      given = omega arith;
      same = ap (map arc_value) pushed ∙ map-append arc_value c.loop-rule.renumbered.items (c.in-Some.rule ∷ [])
          ∙ ap (λ (l : List Rule). l ++ arc_value c.in-Some.rule ∷ []) c.loop-rule.invariant.same
          ∙ sym (same (lists.is_zeroed c.args.numbers.now) arc_value c.args.first c.loop-rule.yielded c.in-Some.rule fails);
    }
