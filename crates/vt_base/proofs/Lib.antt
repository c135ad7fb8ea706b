mod Decimals
mod Numbers
mod Signals
