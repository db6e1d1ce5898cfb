mod CaptureLemmas
