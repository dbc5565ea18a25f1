use Rattle.std.proofs.Common.{◌≡◌, ◌∙◌, ◌++◌, ◌∷◌, [], ℕ, List, ap, length, false, nat_eq, arith}
use Rattle.std.specs.Cmp.Lexicographic.{pointwise}
use Rattle.std.specs.List.{list_any}
use Rattle.std.proofs.lemmas.Grind.{common_steps}
use Rattle.report_values.proofs.OutcomeNumbers.{numbered_new}
use Rattle.report_values.proofs.TextNumbers.{numbered_more}
use Rattle.report_values.proofs.outcome_texts.OutcomeTexts.add.Goals as goal

pub invariant_of-self-2 : goal.invariant_of-self-2
invariant_of-self-2 c =
    let texts = c.self.inside.texts.items in
    let at : c.in_ok-number.number ≡ length texts = grind (arith, common_steps, c.in_ok-number.ensures, c.len.ensures) in
    let apart : list_any (pointwise nat_eq c.args.text) texts ≡ false = rw c.self.view_is c.requires in
    let pushed : c.push.new.self.items ≡ texts ++ c.args.text ∷ [] =
    c.in_ok-push.ensures.items ∙ ap (λ (held : List (List ℕ)). held ++ c.args.text ∷ []) c.in_ok-reserve.ensures.items
    in
    rw pushed (numbered_more texts c.args.text c.self.inside.numbers c.insert.new.self c.in_ok-key.key c.in_ok-number.number c.self.invariant apart
    (c.in_ok-key.ensures.items ∙ c.as_slice.ensures) at c.in_ok-insert.ensures.updates)

pub returns : goal.returns
returns c =
    let texts = c.self.inside.texts.items in
    let at : c.in_ok-number.number ≡ length texts = grind (arith, common_steps, c.in_ok-number.ensures, c.len.ensures) in
    let pushed : c.push.new.self.items ≡ texts ++ c.args.text ∷ [] =
    c.in_ok-push.ensures.items ∙ ap (λ (held : List (List ℕ)). held ++ c.args.text ∷ []) c.in_ok-reserve.ensures.items
    in
    rw (← c.self.view_is) (numbered_new texts c.push.new.self.items c.args.text c.in_ok-number.number at pushed)
