mod FeedLemmas
mod NumberLemmas
mod RunLemmas
mod WorkerLemmas
