pub mod theory
mod KeyLemmas
mod RecentLemmas
