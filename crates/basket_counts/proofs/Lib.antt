mod LineLemmas
mod TextLemmas
mod ListedLemmas
mod HalvesLemmas
mod ReadLemmas
mod GrammarLemmas
pub mod WrittenLemmas
