-- A step keeps what a `Core` keeps of its state.
use Rattle.std.proofs.Common.{◌≡◌, ◌+◌, ◌^◌, ◌<◌, subst, sym}
use Rattle.rm_core.specs.declared.event.Event.{Event}
use Rattle.rm_core.specs.declared.event.Event.TheVariants.{Publish}
use Rattle.rm_core.specs.CoreState.{CoreState, MayCome, after, IsCore}
use Rattle.rm_core.proofs.Changes.{length-after}
use Rattle.rm_core.proofs.Fitting.{Fits-after, next_number_fits}
use Rattle.rm_core.proofs.Steps.{Safe-after}

IsCore-after : (s : CoreState) (event : Event) → IsCore s → MayCome s event → IsCore (after s event)
IsCore-after s event kept may = record {
  safe = Safe-after s event kept.safe may;
  fits = Fits-after s event kept.safe kept.fits may;
  few = rw (length-after s event) kept.few;
}

-- the same, where the state stood in fields before, and stands in fields now
pub IsCore-step : (fields s now : CoreState) (event : Event) → fields ≡ s → now ≡ after s event → IsCore fields → MayCome s event → IsCore now
IsCore-step fields s now event is new kept may = subst IsCore (sym new) (IsCore-after s event (subst IsCore is kept) may)

-- where the step is a publication, the next number fits 64 bits
pub next_number : (fields s : CoreState) (event : Event) → fields ≡ s → IsCore fields → MayCome s event → event ≡ Publish → fields.number + 1 < 2 ^ 64
next_number fields s event is kept may publishes =
    let may_publish : MayCome fields Publish = subst (λ (e : Event). MayCome fields e) publishes (subst (λ (t : CoreState). MayCome t event) (sym is) may) in
    next_number_fits fields kept.safe kept.fits may_publish
