-- what is written in canonical form is read again
pub mod Laws
