mod PlainLemmas
mod SubsetLemmas
