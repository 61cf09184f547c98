pub mod theory
mod RankLemmas
mod CodeLemmas
mod DepthLemmas
