pub mod Sequences
mod Tables
