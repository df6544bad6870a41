-- What an inner fit with quadrature tells. Assumes nothing.
pub mod Told
