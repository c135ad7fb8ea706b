mod Groups
mod Texts
