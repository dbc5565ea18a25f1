-- the printed states
pub mod StateTexts
