mod Taking
mod Listed
