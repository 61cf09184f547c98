mod CoverLemmas
mod SiblingLemmas
mod RoomLemmas
mod ExtensionLemmas
mod ClassLemmas
mod JoinLemmas
mod NarrowedLemmas
mod NumberLemmas
