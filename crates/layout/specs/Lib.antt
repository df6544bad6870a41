-- Where the three work slices hold what, within the lengths of document 01, "Numbers of an answer", number 7. Assumes nothing.
pub mod Products
pub mod WorkRows
pub mod WorkMatrices
pub mod WorkTerms
pub mod Layout
