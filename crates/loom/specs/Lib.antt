pub mod Sides
pub mod Turn
pub mod Looms
pub mod Numbers
pub mod SidesLaws
pub mod TurnLaws
pub mod LoomsLaws
pub mod Only
