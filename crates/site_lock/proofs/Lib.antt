mod SeatLemmas
mod ArrivalLemmas
mod StepLemmas
mod LawLemmas
