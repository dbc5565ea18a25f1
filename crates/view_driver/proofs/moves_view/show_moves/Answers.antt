use Rattle.std.proofs.lemmas.Result.{err_from_is_err_and}
use Rattle.view_driver.proofs.ShownFound.{compares_with_flows, found_shown, tells_with_flows}
use Rattle.view_driver.proofs.TroubleCauses.{flows_come}
use Rattle.view_driver.proofs.moves_view.show_moves.Goals as goal

pub returns-clause-shown : goal.returns-clause-shown
returns-clause-shown g c =
    let compares = rw (c.deref.ensures.value, c.deref-2.ensures.value) at c.in_ok-compared.ensures.outcomes in
    found_shown _ _ _ _ _ _ _ _ c.show.ensures (record {
      old = c.in_ok-old_text.old_text.items;
      new = c.in_ok-new_text.new_text.items;
      behind = c.read_text-2.new.library;
      both = record {
        old_name = c.args.names.0.now;
        new_name = c.args.names.1.now;
        between = c.read_text.new.library;
        old_read = c.in_ok-old_text.ensures.text;
        new_read = c.in_ok-new_text.ensures.text;
      };
      compares = compares_with_flows _ _ _ _ c.in_ok-compared-2.ensures.same compares;
      flows = tells_with_flows _ _ _ _ _ c.in_ok-compared-2.ensures.same c.in_ok-compared-2.ensures.flows;
    })

pub returns-in_err-compared-2-clause-cause : goal.returns-in_err-compared-2-clause-cause
returns-in_err-compared-2-clause-cause g c =
    let compares = rw (c.deref.ensures.value, c.deref-2.ensures.value) at c.in_ok-compared.ensures.outcomes in
    let (trouble, is, same) = err_from_is_err_and c.from_residual-in_err-compared-2.result c.from_residual-in_err-compared-2.ensures.1 in
    let comes =
    flows_come _ c.args.library.now c.read_text-2.new.library c.with_flows.new.library _ _ (record {
      old_name = c.args.names.0.now;
      new_name = c.args.names.1.now;
      between = c.read_text.new.library;
      old_read = c.in_ok-old_text.ensures.text;
      new_read = c.in_ok-new_text.ensures.text;
    }) _ compares trouble (rw same c.in_err-compared-2.ensures.cause)
    in
    rw is comes
