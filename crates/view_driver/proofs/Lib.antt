-- sums over moves
mod MovesLaws
-- reports whose captures don't fit
mod Unlike
-- texts of elements
mod ReviewLaws
-- numbers that stand for what records came to
mod OutcomesTold
-- texts of moves, one element after the other
mod TextSteps
-- what is shown was found
mod ShownFound
-- why a run comes to a trouble
mod TroubleCauses
-- captures of names, opened one after the other
mod FlowsFound
