mod CoverLemmas
mod RowLemmas
mod MarkLemmas
mod BitLemmas
mod WordLemmas
mod PlaneLemmas
mod WorkedLemmas
