use Rattle.report_moves.proofs.Rows.{moved_are_told, stayed_are_told, moved_are_others, stayed_are_same, sums_are_all}
use Rattle.report_moves.proofs.InOrder.{moved_in_order, stayed_in_order}
use Rattle.report_moves.proofs.Once.{moved_told_once, stayed_told_once}
use Rattle.report_moves.proofs.moves.moves_between.Goals as goal

pub returns-clause-moved : goal.returns-clause-moved
returns-clause-moved c =
    let split = rw c.deref.ensures.value at c.in_ok-told.ensures.split in
    moved_are_told c.args.old.now c.args.new.now c.in_ok-moves.moves.items c.sort.new.moves.items c.in_ok-told.told.moved.items
    c.in_ok-told.told.stayed.items c.in_ok-sort.ensures.same split c.in_ok-moves.ensures.told

pub returns-clause-stayed : goal.returns-clause-stayed
returns-clause-stayed c =
    let split = rw c.deref.ensures.value at c.in_ok-told.ensures.split in
    stayed_are_told c.args.old.now c.args.new.now c.in_ok-moves.moves.items c.sort.new.moves.items c.in_ok-told.told.moved.items
    c.in_ok-told.told.stayed.items c.in_ok-sort.ensures.same split c.in_ok-moves.ensures.told

pub returns-clause-moved_once : goal.returns-clause-moved_once
returns-clause-moved_once c =
    let split = rw c.deref.ensures.value at c.in_ok-told.ensures.split in
    moved_told_once c.in_ok-moves.moves.items c.sort.new.moves.items c.in_ok-told.told.moved.items c.in_ok-told.told.stayed.items c.in_ok-sort.ensures.same split
    c.in_ok-moves.ensures.once

pub returns-clause-stayed_once : goal.returns-clause-stayed_once
returns-clause-stayed_once c =
    let split = rw c.deref.ensures.value at c.in_ok-told.ensures.split in
    stayed_told_once c.in_ok-moves.moves.items c.sort.new.moves.items c.in_ok-told.told.moved.items c.in_ok-told.told.stayed.items c.in_ok-sort.ensures.same split
    c.in_ok-moves.ensures.once

pub returns-clause-others : goal.returns-clause-others
returns-clause-others c =
    let split = rw c.deref.ensures.value at c.in_ok-told.ensures.split in
    moved_are_others c.args.old.now c.args.new.now c.in_ok-moves.moves.items c.sort.new.moves.items c.in_ok-told.told.moved.items
    c.in_ok-told.told.stayed.items c.in_ok-sort.ensures.same split

pub returns-clause-same : goal.returns-clause-same
returns-clause-same c =
    let split = rw c.deref.ensures.value at c.in_ok-told.ensures.split in
    stayed_are_same c.args.old.now c.args.new.now c.in_ok-moves.moves.items c.sort.new.moves.items c.in_ok-told.told.moved.items
    c.in_ok-told.told.stayed.items c.in_ok-sort.ensures.same split

pub returns-clause-all : goal.returns-clause-all
returns-clause-all c =
    let split = rw c.deref.ensures.value at c.in_ok-told.ensures.split in
    sums_are_all c.args.old.now c.args.new.now c.in_ok-moves.moves.items c.sort.new.moves.items c.in_ok-told.told.moved.items
    c.in_ok-told.told.stayed.items c.in_ok-sort.ensures.same split c.in_ok-moves.ensures.all

pub returns-clause-moved_order : goal.returns-clause-moved_order
returns-clause-moved_order c =
    let split = rw c.deref.ensures.value at c.in_ok-told.ensures.split in
    moved_in_order c.sort.new.moves.items c.in_ok-told.told.moved.items c.in_ok-told.told.stayed.items split c.in_ok-sort.ensures.order

pub returns-clause-stayed_order : goal.returns-clause-stayed_order
returns-clause-stayed_order c =
    let split = rw c.deref.ensures.value at c.in_ok-told.ensures.split in
    stayed_in_order c.sort.new.moves.items c.in_ok-told.told.moved.items c.in_ok-told.told.stayed.items split c.in_ok-sort.ensures.order
