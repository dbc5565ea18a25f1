-- cutting a string of bytes
pub mod Bytes
-- which words are a command
pub mod Words
-- what the code names, as the definition says it
pub mod Invocation
-- what the library that reads the words is told
pub mod CommandLine
