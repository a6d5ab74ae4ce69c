pub mod Table
pub mod Lists
pub mod First
pub mod Lacking
