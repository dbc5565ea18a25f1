-- what callers of a world of one lane or of two know
mod Callers
