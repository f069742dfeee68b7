pub mod Printed
pub mod Texts
