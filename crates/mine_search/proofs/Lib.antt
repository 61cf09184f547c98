pub mod theory
mod NodeLemmas
mod ClassLemmas
mod StraightLemmas
mod ReadLemmas
