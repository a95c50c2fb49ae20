mod Lookup
mod Pieces
