pub mod theory
mod NumberLemmas
mod LeastLemmas
mod CountLemmas
mod MergeLemmas
mod NameLemmas
mod RenameLemmas
