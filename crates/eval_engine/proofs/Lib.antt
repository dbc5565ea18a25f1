-- flow names that were looked up
pub mod Names
-- calls that are open
pub mod Calls
-- places of rules in number order, and the rule in a place
pub mod FirstPlaces
pub mod Places
pub mod Configured
-- where an evaluation goes on
pub mod Walks
-- how a step moves it on
pub mod Leading
-- rules whose gates don't admit the packet's key
pub mod ShutGates
-- and rules whose gates tell all
pub mod OpenGates
-- how far an evaluation is behind one reply more
pub mod Progressing
-- evaluations with some replies, and with more
pub mod Fronts
-- entries and the judgements that they are of
pub mod Dockets
-- laws
pub mod Plain
pub mod Ending
pub mod Hits
