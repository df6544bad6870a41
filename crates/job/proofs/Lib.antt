-- The laws of the job format. Assumes nothing.
pub mod ListLaws
pub mod FaultLaws
pub mod FaultNumbers
pub mod SizeLaws
pub mod SurveyLaws
pub mod RowLaws
pub mod ByteLaws
pub mod Written
pub mod JobCases
