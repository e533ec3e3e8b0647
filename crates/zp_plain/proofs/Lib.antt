pub mod Settled
pub mod Looking
pub mod Framed
pub mod SoundAreas
