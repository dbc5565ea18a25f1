-- Numbers in their canonical digits are read again.
pub mod Decimal
pub mod Digits
pub mod FiveDigits
pub mod Hex
