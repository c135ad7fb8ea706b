mod Fours
mod Prefixes
mod Scrolled
mod Spread
mod Start
