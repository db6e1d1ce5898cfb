-- What one site lacks of another's events, by the numbers and digests that it has for their
-- sources.
pub use Rattle.block_digests.specs.Lacking.{is_missing, is_missing_at, lacking}
