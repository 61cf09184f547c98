mod ResultLemmas
mod ItemLemmas
mod CountLemmas
mod DoneLemmas
