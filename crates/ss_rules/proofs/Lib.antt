mod Sound
pub mod Making
pub mod Again
pub mod Noted
pub mod Closing
pub mod Coming
pub mod GroundNoted
