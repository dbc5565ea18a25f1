-- what a processor was told of, over many calls
pub mod ToldNumbers
