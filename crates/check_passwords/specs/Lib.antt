-- What the check of the passwords says of its answers.
pub mod Passwords
