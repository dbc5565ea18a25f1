mod Entries
mod Asked
