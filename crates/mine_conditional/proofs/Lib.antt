pub mod theory
mod BitLemmas
mod BranchLemmas
mod NumberLemmas
mod RankSumLemmas
mod WordPathLemmas
mod FewLemmas
mod ShiftLemmas
