-- Why the functions of this crate meet their contracts, and what the contracts mean. Assumes nothing.
pub mod PivotTests
pub mod RowByRow
pub mod LdlRows
pub mod CholeskyRows
pub mod ZeroTerms
pub mod LdlHeads
pub mod SubstitutionSteps
pub mod Columns
pub mod EachColumn
pub mod ColumnsSolved
pub mod Transposed
pub mod LdlTextbook
pub mod CholeskyTextbook
pub mod Solved
pub mod Examples
