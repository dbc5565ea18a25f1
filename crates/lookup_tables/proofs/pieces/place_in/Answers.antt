use Rattle.std.proofs.Common.{leb, leb-true, leb-false, arith, rules}
use Rattle.std.proofs.lemmas.List.Sorted.{IsPartitionPoint-from_clause, IsPartitionedBy-leb}
use Rattle.lookup_tables.specs.Pieces.{no_piece}
use Rattle.lookup_tables.specs.declared.piece.Piece.{Piece}
use Rattle.lookup_tables.proofs.Cuts.{never_falling, found_in}
use Rattle.lookup_tables.proofs.pieces.place_in.Goals as goal

pub overflow_sub-result : goal.overflow_sub-result
overflow_sub-result c =
    let parted = IsPartitionedBy-leb (λ (x : Piece). x.first.0) c.args.pieces.now c.args.address.0 (never_falling c.args.pieces.now c.requires) in
    let point = IsPartitionPoint-from_clause (λ (x : Piece). leb x.first.0 c.args.address.0) _ _ c.partition_point.ensures.partitioned parted (λ a r q k. search rules) in
    (found_in c.args.pieces.now c.args.address.0 c.partition_point.result c.requires c.partition_point.ensures.bound
    (λ k less. leb-true _ _ (point.0 k no_piece (omega arith) less)) (λ k low within. leb-false _ _ (point.1 k no_piece low within))).0

pub returns : goal.returns
returns c =
    let parted = IsPartitionedBy-leb (λ (x : Piece). x.first.0) c.args.pieces.now c.args.address.0 (never_falling c.args.pieces.now c.requires) in
    let point = IsPartitionPoint-from_clause (λ (x : Piece). leb x.first.0 c.args.address.0) _ _ c.partition_point.ensures.partitioned parted (λ a r q k. search rules) in
    (found_in c.args.pieces.now c.args.address.0 c.partition_point.result c.requires c.partition_point.ensures.bound
    (λ k less. leb-true _ _ (point.0 k no_piece (omega arith) less)) (λ k low within. leb-false _ _ (point.1 k no_piece low within))).1
