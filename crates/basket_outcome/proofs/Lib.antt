mod ContentsLemmas
mod GapLemmas
