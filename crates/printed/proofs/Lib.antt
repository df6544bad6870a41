-- What the program prints in each case, with either start, and with a higher limit. Assumes nothing.
pub mod Printed
pub mod NeverFive
pub mod Starts
pub mod Higher
