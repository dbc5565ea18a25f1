-- that two flows which are found equal are one
mod SameFlows
-- that the derived equality is the definition's
mod DerivedFlows
-- one more record, counted under its flow
mod FlowSteps
-- one more record, counted for its move
mod MoveSteps
-- the records so far, and one more
mod RowSteps
-- where moves stand, one after the other
mod MovePlaces
-- the records of a capture so far
mod CaptureSteps
-- the moves so far
mod ToldSteps
-- the captures so far
mod CapturesSteps
-- what is told, from what was counted
mod Flows
