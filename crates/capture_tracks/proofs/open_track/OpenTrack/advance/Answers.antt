use Rattle.std.proofs.Common.{refl, ◌∙◌, sym}
use Rattle.capture_tracks.proofs.TrackSteps.{steps-found, steps-not_found, steps-fault}
use Rattle.capture_tracks.proofs.open_track.OpenTrack.advance.Goals as goal

pub returns-in-Ok-true : goal.returns-in-Ok-true
returns-in-Ok-true g c =
    steps-found g.S.Source.left g.S.Source.faults _ _ _ (sym c.in-Ok-true.ensures.found ∙ c.in-Ok-true.field-0-test) c.requires c.requires refl c.saturating_add-self.ensures c.in-Ok-true.ensures.advances

pub returns-in-Ok-false : goal.returns-in-Ok-false
returns-in-Ok-false g c =
    steps-not_found g.S.Source.left g.S.Source.faults _ _ _ (sym c.in-Ok-false.ensures.found ∙ c.in-Ok-false.field-0-test) c.requires refl refl c.in-Ok-false.ensures.advances

pub returns-in-Err : goal.returns-in-Err
returns-in-Err g c =
    steps-fault g.S.Source.left g.S.Source.faults _ _ _ _ c.in-Err.fault c.requires refl refl c.saturating_add.ensures c.faults.ensures c.in-Err.ensures.advances
