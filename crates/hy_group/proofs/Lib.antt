pub mod Mating
