mod NameBytes
mod BenchLaws
