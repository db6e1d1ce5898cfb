pub mod ListLemmas
pub mod NumberLemmas
pub mod DigitLemmas
pub mod NumberedLemmas
pub mod LengthLemmas
pub mod EventLemmas
pub mod PutLemmas
pub mod BatchLemmas
pub mod TextLemmas
pub mod CountLemmas
mod AsideLemmas
mod BareLemmas
pub mod UncountedLemmas
mod FilterLemmas
pub mod KnownLemmas
