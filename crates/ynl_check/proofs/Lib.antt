mod Lists
mod Portions
