-- what is told of moves
pub mod MovesTold
-- numbers in columns
pub mod ColumnsText
-- the printed flows of a move
pub mod FlowsText
-- the printed moves
pub mod MovesText
-- what is told of a script
pub mod ReviewText
-- what is printed of why there is nothing to show
pub mod TroubleText
-- what is shown: its text, its status, and what the sink takes of it
pub mod Shown
-- what a run finds and shows
pub mod Run
