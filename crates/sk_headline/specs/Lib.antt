pub mod Headline
pub mod Uses
pub mod Fewest
pub mod Accepted
