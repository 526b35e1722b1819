pub mod SearchLaws
pub mod TrieLaws
pub mod CutLaws
pub mod CoverLaws
