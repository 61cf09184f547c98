mod AskedLemmas
mod SupportLemmas
