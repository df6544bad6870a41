-- What the rows of the inner fit ask of the lists that may be absent, and of means that are told to be a predictor's. Assumes nothing.
pub mod Optional
pub mod Met
