mod MiningLemmas
mod JoinerLemmas
