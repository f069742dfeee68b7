pub mod Fits
pub mod Spelling
pub mod Reading
pub mod Pieces
pub mod PiecesFields
pub mod Lists
pub mod EventsFields
pub mod EntriesFields
