pub mod CrashLemmas
pub mod OpenLemmas
pub mod ListLemmas
pub mod ServiceLemmas
pub mod CallLemmas
