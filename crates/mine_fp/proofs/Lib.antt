mod ForestLemmas
mod BranchLemmas
mod NodeLemmas
mod BaseLemmas
mod StraightLemmas
mod NumberLemmas
mod PatternLemmas
mod TreesLemmas
