pub mod Fronts
pub mod OneFront
