pub mod theory
mod CounterLemmas
mod NeededLemmas
mod OnesLemmas
mod TidLemmas
mod PrefixLemmas
mod RowLemmas
mod SumLemmas
