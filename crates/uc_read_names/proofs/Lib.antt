mod KnownReads
mod Turns
mod Dropped
mod Listed
