-- Products with X and with the solved columns, by entries. Assumes nothing.
pub mod Product
pub mod SideBySide
