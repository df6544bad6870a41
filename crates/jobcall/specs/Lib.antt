-- A call of the fit with the bytes of a job and lent buffers: what it returns and leaves. Assumes nothing.
pub mod Told
pub mod Results
