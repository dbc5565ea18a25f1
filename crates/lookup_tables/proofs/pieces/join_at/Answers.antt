use Rattle.std.proofs.Common.{◌≡◌, ◌-◌, ap, sym, ◌∙◌, inl, inr, arith, rules}
use Rattle.std.proofs.lemmas.List.{get_or_default}
use Rattle.lookup_tables.specs.Piece.{decider}
use Rattle.lookup_tables.specs.Pieces.{no_piece, first_of}
use Rattle.lookup_tables.specs.declared.piece.Piece.{Piece}
use Rattle.lookup_tables.proofs.Cuts.{IsJoined, join_division, join_tells, ends_joined, ends_kept, alike_before}
use Rattle.lookup_tables.proofs.pieces.join_at.Goals as goal
use Rattle.lookup_tables.proofs.pieces.join_at.Goals.{else-place-gt0-via-then-place-gt0+then-index-address+else-is_like, else-place-gt0-via-then-place-gt0+else-index-address, else-place-gt0-via-else-place-gt0}

the_join : (c : goal.After-remove) → IsJoined c.args.pieces.now.items c.remove.new.self.items c.place_in-place.result
the_join c =
    let here = rw c.deref.ensures.value at c.place_in-place.ensures in
    let within = here.within in
    let above = c.if-place-gt0.true in
    let this = c.index-then-index-address.ensures ∙ get_or_default c.args.pieces.now.items c.place_in-place.result c.index-then-index-address.result.now no_piece within in
    let last = c.index-then-index-address-2.ensures ∙ get_or_default c.args.pieces.now.items (c.place_in-place.result - 1) c.index-then-index-address-2.result.now no_piece (omega arith) in
    let like = c.is_like.ensures.0 c.if-is_like.true in
    record {
      above = above;
      within = within;
      many = search rules;
      low = λ k less. c.remove.ensures.by_index.0 k no_piece less;
      high = λ k more. c.remove.ensures.by_index.1 k no_piece more;
      like = ap decider (sym this) ∙ like ∙ ap decider last;
    }

pub returns-then-is_like-clause-division : goal.returns-then-is_like-clause-division
returns-then-is_like-clause-division c = join_division c.args.pieces.now.items c.remove.new.self.items c.place_in-place.result (the_join c) c.requires

pub returns-then-is_like-clause-tells : goal.returns-then-is_like-clause-tells
returns-then-is_like-clause-tells c = join_tells c.args.pieces.now.items c.remove.new.self.items c.place_in-place.result (the_join c) c.requires

pub returns-then-is_like-clause-ends : goal.returns-then-is_like-clause-ends
returns-then-is_like-clause-ends c =
    let here = rw c.deref.ensures.value at c.place_in-place.ensures in
    λ e f t ends start either. ends_joined c.args.pieces.now.items c.place_in-place.result c.args.address.0 c.requires here c.remove.new.self.items (the_join c) e ends

pub returns-else-place-gt0-clause-ends : goal.returns-else-place-gt0-clause-ends
returns-else-place-gt0-clause-ends c =
    let here = rw c.deref.ensures.value at c.place_in-place.ensures in
    let within = here.within in
    λ e f t ends start either.
    ends_kept c.args.pieces.now.items c.place_in-place.result c.args.address.0 c.requires here e ends (λ at.
    elim c.else-place-gt0.branch [
      | else-place-gt0-via-then-place-gt0+then-index-address+else-is_like w ↦
          let above = w.if-place-gt0.true in
          let up = c.requires.rising (c.place_in-place.result - 1) c.place_in-place.result (omega arith) within in
          elim (either (omega arith)) [
            | inl same ↦
                let this = w.index-then-index-address.ensures ∙ get_or_default c.args.pieces.now.items c.place_in-place.result w.index-then-index-address.result.now no_piece within in
                let last = w.index-then-index-address-2.ensures ∙ get_or_default c.args.pieces.now.items (c.place_in-place.result - 1) w.index-then-index-address-2.result.now no_piece (omega arith) in
                let alike = alike_before c.args.pieces.now.items c.place_in-place.result c.args.address.0 c.requires here f t (search rules) above at same in
                let yes_like = w.is_like.ensures.1 (ap decider this ∙ alike ∙ ap decider (sym last)) in
                let no_like = w.if-is_like.false in
                cc
            | inr is ↦ is
          ]
      | else-place-gt0-via-then-place-gt0+else-index-address w ↦
          let this = w.index.ensures ∙ get_or_default c.args.pieces.now.items c.place_in-place.result w.index.result.now no_piece within in
          let first = ap (λ (p : Piece). p.first.0) this in
          let other = w.if-index-address.false in
          absurd (omega arith)
      | else-place-gt0-via-else-place-gt0 w ↦
          let none = w.if-place-gt0.false in
          let place_is : c.place_in-place.result ≡ 0 = omega arith in
          ap e (sym (sym (c.requires.start) ∙ ap (first_of c.args.pieces.now.items) (sym place_is) ∙ at)) ∙ start
    ])
