-- What a free question by numbers promises.
pub mod Told
