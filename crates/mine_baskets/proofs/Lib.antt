pub mod theory
mod EntryLemmas
mod MergedLemmas
mod GroupedLemmas
mod BitRankLemmas
mod WordLemmas
mod CoversLemmas
