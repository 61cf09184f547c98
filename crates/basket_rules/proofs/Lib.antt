pub mod theory
mod SearchLemmas
mod SubsetLemmas
mod CoveredLemmas
mod MarkLemmas
mod RuleLemmas
mod ConsequentLemmas
mod SideLemmas
mod SizeLemmas
mod LevelLemmas
