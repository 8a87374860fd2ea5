-- `Reasons` has the facts, `Answer` what is answered, `Demands` what is promised of it; `Compute` may be skipped.
pub mod Reasons
pub mod Compute
pub mod Answer
pub mod Demands
