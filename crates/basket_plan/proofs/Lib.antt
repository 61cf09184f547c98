mod HelpLemmas
mod CommandLemmas
mod OutcomeLemmas
mod WordLemmas
mod OptionLemmas
mod EntryLemmas
mod SpellingLemmas
