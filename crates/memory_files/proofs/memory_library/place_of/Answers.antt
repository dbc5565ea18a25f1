use Rattle.std.proofs.Common.{◌≡◌, true, get_or, sym, subst, ◌∙◌, nat_eq, arith}
use Rattle.std.proofs.lemmas.List.{get_or_default}
use Rattle.std.specs.Cmp.Lexicographic.{pointwise}
use Rattle.memory_files.specs.Memory.{NamedSource}
use Rattle.memory_files.proofs.FirstElements.{take_first-at, take_first-none}
use Rattle.memory_files.proofs.memory_library.place_of.Goals as goal

pub returns-then-eq : goal.returns-then-eq
returns-then-eq c =
    let name = c.args.name.now in
    let here : (d : NamedSource) → pointwise nat_eq (get_or c.args.sources.now c.loop-place.place d).0 name ≡ true =
    λ d. subst (λ (source : NamedSource). pointwise nat_eq source.0 name ≡ true)
    (c.index-sources-place.is ∙ get_or_default c.args.sources.now c.loop-place.place c.index-sources-place.result d c.loop-place-test.true)
    (sym c.eq.ensures ∙ c.if-eq.true) in
    (c.loop-place-test.true, λ d. take_first-at (λ (source : NamedSource). pointwise nat_eq source.0 name) c.args.sources.now c.loop-place.place d c.loop-place-test.true (λ k h. c.loop-place.invariant k d h) (here d))

pub returns : goal.returns
returns c =
    let name = c.args.name.now in
    take_first-none (λ (source : NamedSource). pointwise nat_eq source.0 name) c.args.sources.now
    (λ k d h. c.loop-place.invariant k d (omega arith))
