pub mod CallLemmas
pub mod Failing
pub mod RoseLemmas
