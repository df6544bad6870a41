-- The written rule of the inner fit: what it is given, one solve, its tries, the stop, the run. Assumes nothing.
pub mod Constant
pub mod Given
pub mod Lent
pub mod Working
pub mod Solve
pub mod Try
pub mod Stop
pub mod Run
pub mod Results
