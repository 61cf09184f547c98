mod CompareLemmas
mod FractionLemmas
