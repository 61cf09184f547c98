pub mod theory
mod NumbersLemmas
mod GatheredLemmas
mod LineLemmas
mod TextLemmas
mod InputLemmas
mod PartsLemmas
mod ReadLemmas
mod GrammarLemmas
mod RunLemmas
mod JoinedLemmas
