-- What is proved of the worked images that are too large to be computed.
pub mod Limits
