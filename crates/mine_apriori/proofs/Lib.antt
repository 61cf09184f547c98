pub mod theory
mod JoinLemmas
mod JoinedLemmas
mod JoinStepLemmas
mod PruneLemmas
mod LawLemmas
mod SearchLemmas
mod LevelsLemmas
mod PairLemmas
mod WorkLemmas
mod ItemLemmas
mod GroupLemmas
