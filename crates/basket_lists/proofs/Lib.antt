pub mod theory
mod NumberOrder
mod DigitLemmas
mod BetweenLemmas
mod WordLemmas
mod LongerLemmas
mod ListLemmas
mod OrderLemmas
mod PlainLemmas
mod UnmarkedLemmas
mod WithoutLemmas
