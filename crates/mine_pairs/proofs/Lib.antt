pub mod theory
mod RunStepLemmas
mod TriangleLemmas
