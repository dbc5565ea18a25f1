-- an evaluation without its replies
pub mod First
-- packets of one key
pub mod Alike
-- editions whose rules end the search
pub mod Once
-- a cache beside the definition of hits
pub mod Recent
-- what a cache keeps is true
pub mod Truth
-- how an evaluation begins, and what is kept of one
pub mod Begun
-- a look into a cache
pub mod Looked
