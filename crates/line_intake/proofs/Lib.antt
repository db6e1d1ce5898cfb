pub mod LineLemmas
pub mod WrittenLemmas
pub mod AnswerLemmas
pub mod GatherLemmas
pub mod ToldLemmas
pub mod FollowLemmas
