pub mod theory
mod SameLemmas
mod MergeLemmas
mod StableLemmas
mod SearchLemmas
mod FrequentLemmas
mod GapLemmas
mod LawLemmas
