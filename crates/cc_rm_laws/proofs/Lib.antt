pub mod Backlog
pub mod Deadlines
pub mod CcRmLaws
pub mod RmCyclePublished
pub mod AllotmentLefts
