mod BytesLemmas
mod Fronts
mod RoomLemmas
mod RuleLemmas
mod TableLemmas
mod TextLemmas
