pub mod LineWords
pub mod HexWords
pub mod PlainLines
