use Rattle.std.proofs.Common.{rules, arith, ◌≡◌, ap, ◌∙◌}
use Rattle.std.specs.Prelude.{length}
use Rattle.rm_table.specs.Meanings.{meanings}
use Rattle.rm_table.specs.Ends.{first_words, first_slots}
use Rattle.std.proofs.lemmas.Option.{get_or_from_slice_get}
use Rattle.rm_table.proofs.AtOpening.{opens_whole, count_of_first_words, count_of_first_slots}
use Rattle.rm_table.proofs.Begun.{unbegun_first}
use Rattle.rm_table.proofs.table.RmTable.open.Goals as goal

pub new-requires : goal.new-requires
new-requires g c =
    let o = c.requires.opens in
    let size : c.args.editions.len ≡ length c.args.editions.items = c.args.editions.ok.0 in
    let first : c.of.result.value ≡ o.0 = c.of.ensures ∙ c.index.ensures ∙ get_or_from_slice_get c.args.editions.items 0 o.0 c.index.result.now o.1 in
    opens_whole (meanings g.E.Numbered g.B.Kept) c.args.editions.items o.0 c.args.book c.from.result c.as_slice.result.now c.in_ok-slots.slots.items c.of.result.value c.of-2.result.value o.2 (search rules) (search rules) (search rules) (search rules) first (search rules)

pub invariant_of-result-in-Ok : goal.invariant_of-result-in-Ok
invariant_of-result-in-Ok g c =
    let o = c.requires.opens in
    let there = o.2.some_there in
    let size : c.args.editions.len ≡ length c.args.editions.items = c.args.editions.ok.0 in
    let words : c.as_slice.result.now ≡ first_words c.len-processors.result c.current-number.result = search rules in
    let slots : c.in_ok-slots.slots.items ≡ first_slots c.args.book c.args.editions.items = search rules in
    let e = c.in-Ok.ensures.ok.4 in
    record {
      sized = record {
        few = search rules;
        words = ap (λ z. z.words) c.in-Ok.ensures.ok.2 ∙ c.in-Ok.ensures.ok.0 ∙ ap length words ∙ count_of_first_words _ _;
        slots = let e = ap (λ z. z.slots) c.in-Ok.ensures.ok.2 ∙ c.in-Ok.ensures.ok.1 ∙ ap length slots ∙ count_of_first_slots c.args.book c.args.editions.items in omega (arith, e);
      };
      placed = search rules;
      within = λ role. search rules;
      count_is = search rules;
      place_is = search rules;
      number_is = search rules;
      tracker_is = search rules;
      unbegun = rw (ap (λ z. z.0.closing) e, ap (λ z. z.0.kept) e) (unbegun_first (meanings g.E.Numbered g.B.Kept) c.of-2.result.value c.from.result);
    }
