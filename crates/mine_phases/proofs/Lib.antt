mod Ranks
mod RunLemmas
mod Sharing
