pub mod theory
