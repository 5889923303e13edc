mod Zeros
mod Told
