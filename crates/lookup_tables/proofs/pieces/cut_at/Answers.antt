use Rattle.std.proofs.Common.{◌≡◌, ◌<◌, IsOk, ap, sym, ◌∙◌, arith, rules}
use Rattle.std.proofs.lemmas.List.{get_or_default}
use Rattle.lookup_tables.specs.Piece.{decider}
use Rattle.lookup_tables.specs.Pieces.{piece_at, no_piece, first_of}
use Rattle.lookup_tables.specs.declared.piece.Piece.{Piece}
use Rattle.lookup_tables.proofs.Cuts.{IsCut, cut_division, cut_tells, cut_ends}
use Rattle.lookup_tables.proofs.pieces.cut_at.Goals as goal

the_cut : (c : goal.After-insert) → IsCut c.args.pieces.now.items c.insert.new.self.items c.place_in-place.result c.args.address.0
the_cut c =
    let room = c.requires.room in
    let done : IsOk c.insert.result = c.insert.ensures.succeeds room in
    let here = rw c.deref.ensures.value at c.place_in-place.ensures in
    let begins_at = c.insert.ensures.by_index.0 no_piece done in
    let within = here.within in
    let is : piece_at c.args.pieces.now.items c.place_in-place.result ≡ c.index-piece.result.now = get_or_default c.args.pieces.now.items c.place_in-place.result no_piece c.index-piece.result.now within ∙ sym c.index-piece.ensures in
    record {
      many = search rules;
      low = λ k less. c.insert.ensures.by_index.1 k no_piece less;
      begins = ap (λ (p : Piece). p.first.0) begins_at;
      like = ap decider begins_at ∙ ap decider (sym is);
      high = λ k above. c.insert.ensures.by_index.2 k no_piece done above;
    }

below : (c : goal.After-insert) → first_of c.args.pieces.now.items c.place_in-place.result < c.args.address.0
below c =
    let here = rw c.deref.ensures.value at c.place_in-place.ensures in
    let within = here.within in
    let begins = here.begins in
    let is : piece_at c.args.pieces.now.items c.place_in-place.result ≡ c.index-piece.result.now = get_or_default c.args.pieces.now.items c.place_in-place.result no_piece c.index-piece.result.now within ∙ sym c.index-piece.ensures in
    let first = ap (λ (p : Piece). p.first.0) is in
    let other = c.if-piece-address.false in
    omega arith

pub returns-clause-division : goal.returns-clause-division
returns-clause-division c =
    let here = rw c.deref.ensures.value at c.place_in-place.ensures in
    cut_division c.args.pieces.now.items c.insert.new.self.items c.place_in-place.result c.args.address.0 (the_cut c) c.requires.division here (below c) (search rules)

pub returns-clause-tells : goal.returns-clause-tells
returns-clause-tells c =
    let here = rw c.deref.ensures.value at c.place_in-place.ensures in
    cut_tells c.args.pieces.now.items c.insert.new.self.items c.place_in-place.result c.args.address.0 (the_cut c) c.requires.division here (below c) (search rules)

pub returns-clause-ends : goal.returns-clause-ends
returns-clause-ends c =
    let here = rw c.deref.ensures.value at c.place_in-place.ensures in
    cut_ends c.args.pieces.now.items c.insert.new.self.items c.place_in-place.result c.args.address.0 (the_cut c) c.requires.division here (below c) (search rules)
