pub mod FieldsAgain
pub mod EventsAgain
pub mod RepliesAgain
pub mod Cut
pub mod Loops
pub mod Listed
pub mod NameFields
